-- Whether two values are equal, as a test that computes.
use Rattle.std.specs.Prelude.{◌≡◌, ◌==◌, Bool, true, false, ◌&&◌}
use Rattle.std.specs.Bool.{Decides}
use Rattle.std.proofs.Common.{refl, ap, arith}
use Rattle.sv_value.specs.declared.value.Value.{Value}
use Rattle.sv_value.specs.contracts.value.Value as row
use Rattle.std.proofs.lemmas.Bool.Decides.{nat_tests}
use base.Stored.{Gv, gnil, gnum, gcons}

-- whether two trees of numbers are equal
abbrev pub same_tree : Gv → Gv → Bool
same_tree gnil gnil = true
same_tree (gnum m) (gnum n) = m == n
same_tree (gcons a b) (gcons c d) = same_tree a c && same_tree b d
same_tree a b = false

-- Whether two values are equal, part by part: whether the trees of numbers that stand for them are. `same_decides` says
-- that these are equal for equal values alone.
pub same : Value → Value → Bool
same left right = same_tree (row.the_row.coded.code left) (row.the_row.coded.code right)

both_true : (a b : Bool) → (a && b) ≡ true → (a ≡ true) × (b ≡ true)
both_true true true h = (refl, refl)
both_true true false h = cc
both_true false b h = cc

same_tree_is : (a b : Gv) → same_tree a b ≡ true → a ≡ b
same_tree_is gnil gnil h = refl
same_tree_is (gnum m) (gnum n) h = let e : m ≡ n = grind (arith, nat_tests) in ap gnum e
same_tree_is (gcons a b) (gcons c d) h =
    let both = both_true (same_tree a c) (same_tree b d) h in
    let first = same_tree_is a c both.0 in
    let second = same_tree_is b d both.1 in
    λ i. gcons (first i) (second i)
same_tree_is gnil (gnum n) h = cc
same_tree_is gnil (gcons c d) h = cc
same_tree_is (gnum m) gnil h = cc
same_tree_is (gnum m) (gcons c d) h = cc
same_tree_is (gcons a b) gnil h = cc
same_tree_is (gcons a b) (gnum n) h = cc

same_tree-itself : (a : Gv) → same_tree a a ≡ true
same_tree-itself gnil = refl
same_tree-itself (gnum n) = grind (arith, nat_tests)
same_tree-itself (gcons a b) = rw (same_tree-itself a, same_tree-itself b) refl

pub same_decides : (left right : Value) → Decides (same left right) (left ≡ right)
unfolding same
same_decides left right = (
  λ h. row.the_row.coded.inj left right (same_tree_is (row.the_row.coded.code left) (row.the_row.coded.code right) h),
  λ e. rw (← e) (same_tree-itself (row.the_row.coded.code left)),
)
