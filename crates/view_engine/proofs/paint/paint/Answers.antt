use Rattle.std.proofs.Common.{◌≡◌, ◌≤◌, ◌∙◌, ap, arith, refl, decimal, List, ℕ, ◌++◌, ◌∷◌, [], length}
use Rattle.view_engine.specs.Joined.{joined}
use Rattle.view_engine.specs.Counter.{row_of}
use Rattle.view_engine.proofs.Rows.{shown}
use Rattle.view_engine.proofs.paint.paint.Goals as goal

pub returns : goal.returns
returns c =
    let below_short : length c.in_ok-below.below.items ≤ 80 = omega (arith, c.deref-2.ensures.len, c.in_ok-below.ensures.short) in
    let above_short : length c.in_ok-above.above.items ≤ 80 = omega (arith, c.deref.ensures.len, c.in_ok-above.ensures.short, c.requires.prefix) in
    let all_rows : c.loop-y.y ≡ 24 = omega arith in
    shown _ _ c.args.number c.in_ok-above.above.items c.in_ok-below.below.items
    (c.in_ok-above.ensures.text ∙ ap (λ (l : List ℕ). l ++ decimal c.args.number) c.deref.ensures.value)
    (c.in_ok-below.ensures.text ∙ ap (λ (l : List ℕ). 91 ∷ l ++ 93 ∷ []) c.deref-2.ensures.value)
    above_short below_short refl refl (c.loop-y.invariant ∙ ap (joined (row_of c.in_ok-above.above.items c.in_ok-below.below.items)) all_rows)
