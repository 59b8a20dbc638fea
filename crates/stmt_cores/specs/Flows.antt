-- How statements end, by the rules and by the types of cores.
use Rattle.std.specs.Prelude.{◌≡◌, Bool, true, false, ◌&&◌, ◌||◌, not}
use Rattle.std.proofs.Common.{refl, ap, ◌∙◌}
use Rattle.swift_core.specs.Typing.{Flow, goes_on, returns, then_flow, either_flow, switch_flow, loop_flow}

-- What ends by the rules ends by the types, and a `break` is held by the one where it is by the other.
pub record Agrees (ends breaks : Bool) (f : Flow) : Type 0 where
  pub to_end : ends ≡ true → f.ends ≡ true
  pub same : f.breaks ≡ breaks

or_more : (a b c d : Bool) → (a ≡ true → c ≡ true) → (b ≡ true → d ≡ true) → (a || b) ≡ true → (c || d) ≡ true
or_more a b true d f g e = refl
or_more true b false d f g e = let h = f refl in cc
or_more false b false d f g e = g e

and_more : (a b c d : Bool) → (a ≡ true → c ≡ true) → (b ≡ true → d ≡ true) → (a && b) ≡ true → (c && d) ≡ true
and_more true b c d f g e = ap (λ x. x && d) (f refl) ∙ g e
and_more false b c d f g e = cc

or_both : {a b c d : Bool} → a ≡ c → b ≡ d → (a || b) ≡ (c || d)
or_both p q = λ i. p i || q i

or_false : (b : Bool) → (b || false) ≡ b
or_false true = refl
or_false false = refl

pub none_agrees : Agrees false false goes_on
none_agrees = record { to_end = λ h. h; same = refl }

pub returns_agrees : Agrees true false returns
returns_agrees = record { to_end = λ h. refl; same = refl }

pub then_agrees : {a b c d : Bool} {f g : Flow} → Agrees a b f → Agrees c d g → Agrees (a || c) (b || d) (then_flow f g)
then_agrees {a = a} {c = c} {f = f} {g = g} x y = record { to_end = or_more a c f.ends g.ends x.to_end y.to_end; same = or_both x.same y.same }

pub either_agrees : {a b c d : Bool} {f g : Flow} → Agrees a b f → Agrees c d g → Agrees (a && c) (b || d) (either_flow f g)
either_agrees {a = a} {c = c} {f = f} {g = g} x y = record { to_end = and_more a c f.ends g.ends x.to_end y.to_end; same = or_both x.same y.same }

pub half_agrees : {a b : Bool} {f : Flow} → Agrees a b f → Agrees false b (either_flow f goes_on)
half_agrees {f = f} x = record { to_end = λ h. cc; same = or_false f.breaks ∙ x.same }

pub switch_agrees : {a b : Bool} {f : Flow} → Agrees a b f → Agrees (a && not b) false (switch_flow f)
switch_agrees {a = a} {b = b} {f = f} x = record { to_end = and_more a (not b) f.ends (not f.breaks) x.to_end (λ h. ap not x.same ∙ h); same = refl }

pub loop_agrees : {a b c d : Bool} {f : Flow} → (a ≡ true → c ≡ true) → Agrees b d f → Agrees (a && not d) false (loop_flow c f)
loop_agrees {a = a} {c = c} {d = d} {f = f} h x = record { to_end = and_more a (not d) c (not f.breaks) h (λ k. ap not x.same ∙ k); same = refl }
