use Rattle.std.proofs.Common.{◌≡◌, ◌++◌, OnOk, subst}
use Rattle.swift_core.specs.Mentions.{Mentions, stmt_mentions}
use Rattle.core_uses.proofs.Runs.{joined_map}
use Rattle.core_uses.proofs.form_mentions.of_all_statements.Goals as goal

pub returns : goal.returns
returns c = record { ok = subst (λ (l : Mentions). OnOk c.of_statements.result (c.of_statements.new.out ≡ c.args.out.now ++ l)) (joined_map stmt_mentions c.args.statements.now) c.of_statements.ensures.ok }
