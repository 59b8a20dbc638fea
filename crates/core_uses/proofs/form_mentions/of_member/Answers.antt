use Rattle.std.proofs.Common.{◌≡◌, OnOk, subst}
use Rattle.std.specs.Option.{option_copied}
use Rattle.swift_core.specs.Mentions.{Mentions}
use Rattle.core_uses.proofs.MemberRuns.{member_run}
use Rattle.core_uses.proofs.form_mentions.of_member.Goals as goal

pub returns : goal.returns
returns c = record {
  ok = subst (λ (l : Mentions). OnOk c.of_readers.result (c.of_readers.new.out ≡ l))
      (member_run c.args.member.now (option_copied c.as_ref.result) c.as_slice.result.now c.args.out.now c.of_body.new.out c.as_ref.ensures.value c.as_slice.ensures c.in_ok-of_body.ensures.ok)
      c.of_readers.ensures.ok;
}
