-- Rounds: a turn of each loop, and that a round which changes nothing is the last that does.
use Rattle.std.proofs.Common.{◌≡◌, ℕ, zero, suc, ◌+◌, ◌-◌, ◌<◌, ◌≤◌, Bool, true, false, ◌||◌, List, length, drop, map, refl, sym, ap, ◌∙◌, arith, slice_index_or}
use Rattle.std.proofs.lemmas.List.{length-map}
use Rattle.swift_core.specs.declared.table.Table.{Table}
use Rattle.known_types.specs.declared.open.Open.{Open as OpenRow}
use Rattle.known_rules.specs.Known.{Open, turn, forwards, backwards, next, rounds}
use Rattle.known_types.specs.Rows.{open_of}
use Rattle.known_types.proofs.Opens.{drop-turn, drop_all}

pub forwards_turn : (table : Table) (os : List OpenRow) (i : ℕ) (o : OpenRow) → i < length os → o ≡ slice_index_or os i o
    → forwards table (map open_of (drop i os)) ≡ forwards (turn table (open_of o)) (map open_of (drop (i + 1) os))
forwards_turn table os i o lt e = ap (λ ys. forwards table (map open_of ys)) (drop-turn os i o lt e)

pub forwards_end : (table : Table) (os : List OpenRow) (i : ℕ) → length os ≤ i → forwards table (map open_of (drop i os)) ≡ table
forwards_end table os i le = ap (λ ys. forwards table (map open_of ys)) (drop_all os i le)

pub backwards_turn : (table : Table) (os : List OpenRow) (i : ℕ) (o : OpenRow) → i < length os → o ≡ slice_index_or os i o
    → backwards table (map open_of (drop i os)) ≡ turn (backwards table (map open_of (drop (i + 1) os))) (open_of o)
backwards_turn table os i o lt e = ap (λ ys. backwards table (map open_of ys)) (drop-turn os i o lt e)

pub backwards_start : (table : Table) (os : List OpenRow) (i : ℕ) → length os ≤ i → backwards table (map open_of (drop i os)) ≡ table
backwards_start table os i le = ap (λ ys. backwards table (map open_of ys)) (drop_all os i le)

pub neither : (a b : Bool) → (a || b) ≡ false → (a ≡ false) × (b ≡ false)
neither false false e = (refl, refl)
neither true b e = cc
neither false true e = cc

stays : (os : List Open) (table : Table) (n k : ℕ) → next os (rounds os n table) ≡ rounds os n table → rounds os (n + k) table ≡ rounds os n table
stays os table n zero e = (let h : n + zero ≡ n = omega arith in ap (λ m. rounds os m table) h)
stays os table n (suc k) e =
    let more : n + suc k ≡ suc (n + k) = omega arith in
    ap (λ m. rounds os m table) more ∙ ap (next os) (stays os table n k e) ∙ e

-- the round after n rounds changed nothing
pub still : (os : List Open) (table : Table) (n m : ℕ) → n ≤ m → next os (rounds os n table) ≡ rounds os n table → rounds os m table ≡ rounds os n table
still os table n m le e =
    let sum : m ≡ n + (m - n) = omega arith in
    ap (λ k. rounds os k table) sum ∙ stays os table n (m - n) e

pub as_many : (os : List OpenRow) (all : List Open) → map open_of os ≡ all → length os ≡ length all
as_many os all e = sym (length-map os open_of) ∙ ap length e
