pub use Rattle.verdict_rules.specs.Verdict
