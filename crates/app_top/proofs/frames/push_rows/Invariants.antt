use Rattle.std.proofs.Common.{◌≡◌, ◌*◌, ◌++◌, ◌∷◌, [], take, drop}
use Rattle.view_engine.specs.Joined.{joined}
use Rattle.app_top.proofs.frames.push_rows.Given as goal

abbrev pub invariant-loop-y : goal.invariant-loop-y
invariant-loop-y l = l.text.items ≡ l.fn.text.items ++ joined (λ y. take 80 (drop (80 * y) l.cells) ++ 10 ∷ []) l.y
