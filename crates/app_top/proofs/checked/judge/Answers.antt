use Rattle.std.proofs.Common.{ℕ, List, subst}
use Rattle.verdict_rules.specs.Verdict.{Accepted}
use Rattle.app_top.specs.Refusals.{NoProgramAs}
use Rattle.app_top.proofs.Checks.{refused_checked, accepted_checked}
use Rattle.app_top.proofs.checked.judge.Goals as goal

pub returns-in-Some : goal.returns-in-Some
returns-in-Some g c = record {
  came = refused_checked _ c.in-Ok.bytes.items _ _ c.in-Ok.ensures.asked c.in-Ok.ensures.count.0 c.in-Ok.ensures.bytes c.refused_as.result _
      (subst (λ (b : List ℕ). NoProgramAs c.refused_as.result b) c.deref.ensures.value (c.refused_as.ensures.end c.deref.result.now c.in-Some.ensures.refused));
}

pub returns : goal.returns
returns g c = record {
  came = accepted_checked _ c.in-Ok.bytes.items _ _ c.in-Ok.ensures.asked c.in-Ok.ensures.count.0 c.in-Ok.ensures.bytes c.accept.result _ _
      (subst (λ (b : List ℕ). Accepted b) c.deref.ensures.value c.in-None.ensures.accepted) c.accept.ensures.sent;
}
