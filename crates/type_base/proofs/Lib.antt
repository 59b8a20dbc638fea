pub mod LocalRuns
