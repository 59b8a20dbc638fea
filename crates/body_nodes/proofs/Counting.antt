-- A node counts as its count up to 20,001 does.
use Rattle.std.proofs.Common.{◌≡◌, ℕ, ◌+◌, ◌<◌, ◌≤◌, Bool, true, false, min, nat_lt, nat_le, refl, ap, subst, sym, ◌∙◌, arith, Result}
use Rattle.std.proofs.lemmas.Bool.Decides.{nat_tests}
use Rattle.value_calls.specs.declared.traps.Stop.{Stop}
use Rattle.value_calls.specs.declared.traps.TrapKind.TheVariants.{Nodes}
use Rattle.core_means.specs.Asks.{World, Asks, Look, Reads, Gave, Stopped, Leaves, under, choose, trap}
use Rattle.body_means.specs.Elements.{tally, set_nodes}

few : (n : ℕ) → nat_le n 20001 ≡ true → min n 20001 ≡ n
few n h = grind (arith, nat_tests)

many : (a n : ℕ) → nat_le n 20001 ≡ false → nat_lt 20000 (a + n) ≡ true
many a n h = grind (arith, nat_tests)

many_cut : (a n : ℕ) → nat_le n 20001 ≡ false → nat_lt 20000 (a + min n 20001) ≡ true
many_cut a n h = grind (arith, nat_tests)

tally_cut : (n : ℕ) (w : World) → tally (min n 20001) w ≡ tally n w
unfolding tally
tally_cut n w = go (nat_le n 20001) refl
  where
    go : (t : Bool) → nat_le n 20001 ≡ t → tally (min n 20001) w ≡ tally n w
    go true k = ap (λ m. tally m w) (few n k)
    go false k =
        ap (λ b. choose b (trap Nodes) (set_nodes (w.nodes + min n 20001)) w) (many_cut w.nodes n k)
        ∙ sym (ap (λ b. choose b (trap Nodes) (set_nodes (w.nodes + n)) w) (many w.nodes n k))

-- what a node whose count was cut at 20,001 leaves is what the node leaves
pub leaves_cut : (look : Look) (reads reads' : Reads) (n count : ℕ) (w w' : World) (r : Result (Unit {0}) Stop) → count ≡ min n 20001
    → Leaves r w' reads' (under look reads (tally count w)) → Leaves r w' reads' (under look reads (tally n w))
leaves_cut look reads reads' n count w w' r e h =
    subst (λ (a : Asks (Unit {0})). Leaves r w' reads' (under look reads a)) (ap (λ m. tally m w) e ∙ tally_cut n w) h

over : (a n nodes : ℕ) → nodes ≡ min (a + n) 4294967295 → 20000 < nodes → nat_lt 20000 (a + n) ≡ true
over a n nodes e h = grind (arith, nat_tests)

within : (a n nodes : ℕ) → nodes ≡ min (a + n) 4294967295 → nodes ≤ 20000 → nat_lt 20000 (a + n) ≡ false
within a n nodes e h = grind (arith, nat_tests)

exact : (a n nodes : ℕ) → nodes ≡ min (a + n) 4294967295 → nodes ≤ 20000 → nodes ≡ a + n
exact a n nodes e h = omega arith

-- a node too many
pub tally_stops : (look : Look) (reads : Reads) (n nodes : ℕ) (w : World) → nodes ≡ min (w.nodes + n) 4294967295 → 20000 < nodes
    → under look reads (tally n w) ≡ Stopped Nodes w reads
unfolding tally under
tally_stops look reads n nodes w e h = ap (λ b. under look reads (choose b (trap Nodes) (set_nodes (w.nodes + n)) w)) (over w.nodes n nodes e h)

-- a node that still counts
pub tally_goes : (look : Look) (reads : Reads) (n nodes : ℕ) (w : World) → nodes ≡ min (w.nodes + n) 4294967295 → nodes ≤ 20000
    → under look reads (tally n w) ≡ Gave tt (record w { nodes = nodes }) reads
unfolding tally under
tally_goes look reads n nodes w e h =
    ap (λ b. under look reads (choose b (trap Nodes) (set_nodes (w.nodes + n)) w)) (within w.nodes n nodes e h)
    ∙ ap (λ m. Gave tt (record w { nodes = m }) reads) (sym (exact w.nodes n nodes e h))
