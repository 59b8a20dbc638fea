pub mod Runs
pub mod UseRuns
pub mod MemberRuns
