-- One turn of a loop, whose meaning is one step and then the rest.
use Rattle.std.proofs.Common.{◌≡◌, ◌≤◌, ◌-◌, List, [], ◌∷◌, ◌++◌, length, get_or, take, drop, Option, ap, sym, ◌∙◌, arith}
use Rattle.std.proofs.lemmas.List.{take_rest}
use Rattle.sv_value.specs.declared.hop.Hop.{Hop}
use Rattle.sv_value.specs.declared.value.Value.{Value}
use Rattle.swift_core.specs.declared.stmt.CoreStmt.{CoreStmt}
use Rattle.swift_core.specs.declared.term.Core.{Core}
use Rattle.swift_core.specs.declared.term.CoreHop.{CoreHop}
use Rattle.swift_core.specs.declared.term.Filling.{Filling}
use Rattle.swift_core.specs.declared.term.Piece.{Piece}
use Rattle.core_means.specs.declared.parts.Flow.{Flow}
use Rattle.core_means.specs.declared.parts.Flow.TheVariants.{Next}
use Rattle.core_means.specs.Asks.{World, Asks, Doing, and_then, Look, Reads, Answer, Gave, under, after}
use Rattle.core_means.specs.Means.{Inside, and_next, values_from, piece_of, pieces_from, block, argument, arguments_from, filled, fields_from, hop_of, hops_from}
use Rattle.core_means.specs.Trees.{under_then}

-- the step is done, so what is left is the whole
pub goes_on : {A B : Type 0} (look : Look) (reads reads' : Reads) (m : Asks A) (f : A → Doing B) (x : A) (w : World) (whole : Answer B)
    → under look reads m ≡ Gave x w reads' → under look reads (and_then m f) ≡ whole → under look reads' (f x w) ≡ whole
goes_on look reads reads' m f x w whole h e = sym (under_then look reads m f ∙ ap (λ a. after a (λ y u r. under look r (f y u))) h) ∙ e

-- a list is its first item and the rest
pub first_and_rest : {X : Type 0} (xs : List X) (x : X) → 1 ≤ length xs → x ≡ get_or xs 0 x → xs ≡ x ∷ take (length xs - 1) (drop 1 xs)
first_and_rest [] x h e = absurd (omega arith)
first_and_rest (y ∷ ys) x h e = ap (λ z. z ∷ ys) (sym e) ∙ ap (λ l. x ∷ l) (sym (take_rest (y ∷ ys) 1))

module _ (i : Inside) (look : Look) where
  pub values_turn : (reads reads' : Reads) (done done' : List Value) (es : List Core) (e : Core) (w w' : World) (v : Value) (whole : Answer (List Value))
      → 1 ≤ length es → e ≡ get_or es 0 e → under look reads (i.eval e w) ≡ Gave v w' reads' → done' ≡ done ++ v ∷ []
      → under look reads (values_from i done es w) ≡ whole → under look reads' (values_from i done' (take (length es - 1) (drop 1 es)) w') ≡ whole
  unfolding values_from
  values_turn reads reads' done done' es e w w' v whole some first h pushed all =
      let rest = take (length es - 1) (drop 1 es) in
      ap (λ vs. under look reads' (values_from i vs rest w')) pushed
      ∙ goes_on look reads reads' (i.eval e w) (λ u. values_from i (done ++ u ∷ []) rest) v w' whole h
      (ap (λ l. under look reads (values_from i done l w)) (sym (first_and_rest es e some first)) ∙ all)

  pub pieces_turn : (reads reads' : Reads) (done done' : List Value) (ps : List Piece) (p : Piece) (w w' : World) (v : Value) (whole : Answer (List Value))
      → 1 ≤ length ps → p ≡ get_or ps 0 p → under look reads (piece_of i p w) ≡ Gave v w' reads' → done' ≡ done ++ v ∷ []
      → under look reads (pieces_from i done ps w) ≡ whole → under look reads' (pieces_from i done' (take (length ps - 1) (drop 1 ps)) w') ≡ whole
  unfolding pieces_from
  pieces_turn reads reads' done done' ps p w w' v whole some first h pushed all =
      let rest = take (length ps - 1) (drop 1 ps) in
      ap (λ vs. under look reads' (pieces_from i vs rest w')) pushed
      ∙ goes_on look reads reads' (piece_of i p w) (λ u. pieces_from i (done ++ u ∷ []) rest) v w' whole h
      (ap (λ l. under look reads (pieces_from i done l w)) (sym (first_and_rest ps p some first)) ∙ all)

  pub block_turn : (reads reads' : Reads) (ss : List CoreStmt) (s : CoreStmt) (w w' : World) (flow : Flow) (whole : Answer Flow)
      → 1 ≤ length ss → s ≡ get_or ss 0 s → under look reads (i.exec s w) ≡ Gave flow w' reads' → flow ≡ Next
      → under look reads (block i ss w) ≡ whole → under look reads' (block i (take (length ss - 1) (drop 1 ss)) w') ≡ whole
  unfolding block
  block_turn reads reads' ss s w w' flow whole some first h next all =
      let rest = take (length ss - 1) (drop 1 ss) in
      goes_on look reads reads' (i.exec s w) (λ f. and_next f (block i rest)) Next w' whole (h ∙ ap (λ f. Gave f w' reads') next)
      (ap (λ l. under look reads (block i l w)) (sym (first_and_rest ss s some first)) ∙ all)

  pub arguments_turn : (reads reads' : Reads) (done done' : List (Option Value)) (fs : List Filling) (f : Filling) (w w' : World) (o : Option Value) (whole : Answer (List (Option Value)))
      → 1 ≤ length fs → f ≡ get_or fs 0 f → under look reads (argument i f w) ≡ Gave o w' reads' → done' ≡ done ++ o ∷ []
      → under look reads (arguments_from i done fs w) ≡ whole → under look reads' (arguments_from i done' (take (length fs - 1) (drop 1 fs)) w') ≡ whole
  unfolding arguments_from
  arguments_turn reads reads' done done' fs f w w' o whole some first h pushed all =
      let rest = take (length fs - 1) (drop 1 fs) in
      ap (λ vs. under look reads' (arguments_from i vs rest w')) pushed
      ∙ goes_on look reads reads' (argument i f w) (λ u. arguments_from i (done ++ u ∷ []) rest) o w' whole h
      (ap (λ l. under look reads (arguments_from i done l w)) (sym (first_and_rest fs f some first)) ∙ all)

  pub fields_turn : (reads reads' : Reads) (done done' : List Value) (fs : List Filling) (f : Filling) (os : List (Option Value)) (o : Option Value) (w w' : World) (v : Value) (whole : Answer (List Value))
      → 1 ≤ length fs → f ≡ get_or fs 0 f → 1 ≤ length os → o ≡ get_or os 0 o → under look reads (filled i f o w) ≡ Gave v w' reads' → done' ≡ done ++ v ∷ []
      → under look reads (fields_from i done fs os w) ≡ whole
      → under look reads' (fields_from i done' (take (length fs - 1) (drop 1 fs)) (take (length os - 1) (drop 1 os)) w') ≡ whole
  unfolding fields_from
  fields_turn reads reads' done done' fs f os o w w' v whole some first other given h pushed all =
      let rest = take (length fs - 1) (drop 1 fs) in
      let others = take (length os - 1) (drop 1 os) in
      ap (λ vs. under look reads' (fields_from i vs rest others w')) pushed
      ∙ goes_on look reads reads' (filled i f o w) (λ u. fields_from i (done ++ u ∷ []) rest others) v w' whole h
      (ap (λ l. under look reads (fields_from i done (f ∷ rest) l w)) (sym (first_and_rest os o other given))
      ∙ ap (λ l. under look reads (fields_from i done l os w)) (sym (first_and_rest fs f some first)) ∙ all)

  pub hops_turn : (reads reads' : Reads) (done done' : List Hop) (hs : List CoreHop) (h : CoreHop) (w w' : World) (x : Hop) (whole : Answer (List Hop))
      → 1 ≤ length hs → h ≡ get_or hs 0 h → under look reads (hop_of i h w) ≡ Gave x w' reads' → done' ≡ done ++ x ∷ []
      → under look reads (hops_from i done hs w) ≡ whole → under look reads' (hops_from i done' (take (length hs - 1) (drop 1 hs)) w') ≡ whole
  unfolding hops_from
  hops_turn reads reads' done done' hs h w w' x whole some first k pushed all =
      let rest = take (length hs - 1) (drop 1 hs) in
      ap (λ vs. under look reads' (hops_from i vs rest w')) pushed
      ∙ goes_on look reads reads' (hop_of i h w) (λ u. hops_from i (done ++ u ∷ []) rest) x w' whole k
      (ap (λ l. under look reads (hops_from i done l w)) (sym (first_and_rest hs h some first)) ∙ all)
