-- A list that is searched from the left: one more element, the end, and an element that nothing is found for.
use Rattle.std.proofs.Common.{◌≡◌, ℕ, zero, suc, ◌<◌, ◌≤◌, ◌+◌, Bool, true, false, List, [], ◌∷◌, ◌++◌, length, take, drop, Option, Some, None, slice_index_or, refl, sym, ap, subst, ◌∙◌, arith, append_assoc}
use Rattle.std.proofs.lemmas.List.{append-nil}
use Rattle.swift_ast.specs.declared.tree.Expr.{Expr}
use Rattle.swift_ast.specs.declared.tree.Link.{Link, out-Link}
use Rattle.swift_ast.specs.declared.tree.StringPart.{StringPart, out-StringPart}
use Rattle.swift_core.specs.declared.term.Core.{Core}
use Rattle.swift_core.specs.declared.term.Piece.{Piece}
use Rattle.swift_core.specs.declared.ty.Ty.{Ty}
use Rattle.type_base.specs.Claims.{and_then}
use Rattle.type_base.specs.Context.{Context}
use Rattle.type_base.specs.Promotion.{wanted}
use Rattle.type_base.specs.Rules.{Infer}
use Rattle.expr_rules.specs.OpsSearch.{all_wanted, pieces, piece_of, links, linked}

opened_suc : {A : Type 0} (xs : List A) (i : ℕ) (d : A) → i < length xs → drop i xs ≡ slice_index_or xs i d ∷ drop (suc i) xs
opened_suc [] i d lt = absurd (omega arith)
opened_suc (x ∷ xs) zero d lt = refl
opened_suc (x ∷ xs) (suc i) d lt = opened_suc xs i d (omega arith)

pub opened : {A : Type 0} (xs : List A) (i : ℕ) (x : A) → i < length xs → x ≡ slice_index_or xs i x → drop i xs ≡ x ∷ drop (i + 1) xs
opened xs i x lt is =
    let e : suc i ≡ i + 1 = omega arith in
    subst (λ n. drop i xs ≡ x ∷ drop n xs) e (opened_suc xs i x lt ∙ ap (λ v. v ∷ drop (suc i) xs) (sym is))

pub ended : {A : Type 0} (xs : List A) (i : ℕ) → length xs ≤ i → drop i xs ≡ []
ended [] zero le = refl
ended [] (suc i) le = refl
ended (x ∷ xs) zero le = absurd (omega arith)
ended (x ∷ xs) (suc i) le = ended xs i (omega arith)

moved : {B : Type 0} (o : Option (List B)) (c : B) (cs : List B) → and_then (and_then o (λ rest. Some (c ∷ rest))) (λ rest. Some (cs ++ rest)) ≡ and_then o (λ rest. Some ((cs ++ c ∷ []) ++ rest))
unfolding and_then
moved None c cs = refl
moved (Some rest) c cs = ap Some (sym (append_assoc cs (c ∷ []) rest))

whole : {B : Type 0} (o : Option (List B)) → o ≡ and_then o (λ rest. Some ([] ++ rest))
unfolding and_then
whole None = refl
whole (Some rest) = refl

-- ---- expressions where a type is expected

-- the rest answers as the whole
abbrev pub WantedRest : (Expr → Infer) → List Expr → Context → Ty → ℕ → List Core → Type 0
WantedRest f es cx t i cs = all_wanted f es cx t ≡ and_then (all_wanted f (drop i es) cx t) (λ rest. Some (cs ++ rest))

pub wanted_start : (f : Expr → Infer) (es : List Expr) (cx : Context) (t : Ty) → WantedRest f es cx t 0 []
wanted_start f es cx t = whole (all_wanted f es cx t)

wanted_step : (f : Expr → Infer) (es : List Expr) (cx : Context) (t : Ty) (i : ℕ) (e : Expr) (o : Option Core) → i < length es → e ≡ slice_index_or es i e → wanted (f e) cx t ≡ o
    → all_wanted f (drop i es) cx t ≡ and_then o (λ c. and_then (all_wanted f (drop (i + 1) es) cx t) (λ rest. Some (c ∷ rest)))
unfolding all_wanted
wanted_step f es cx t i e o lt is w = ap (λ xs. all_wanted f xs cx t) (opened es i e lt is) ∙ ap (λ p. and_then p (λ c. and_then (all_wanted f (drop (i + 1) es) cx t) (λ rest. Some (c ∷ rest)))) w

pub wanted_turn : (f : Expr → Infer) (es : List Expr) (cx : Context) (t : Ty) (i : ℕ) (cs : List Core) (e : Expr) (c : Core) → i < length es → e ≡ slice_index_or es i e → wanted (f e) cx t ≡ Some c
    → WantedRest f es cx t i cs → WantedRest f es cx t (i + 1) (cs ++ c ∷ [])
unfolding and_then
wanted_turn f es cx t i cs e c lt is w h = h ∙ ap (λ o. and_then o (λ rest. Some (cs ++ rest))) (wanted_step f es cx t i e (Some c) lt is w) ∙ moved _ c cs

pub wanted_none : (f : Expr → Infer) (es : List Expr) (cx : Context) (t : Ty) (i : ℕ) (cs : List Core) (e : Expr) → i < length es → e ≡ slice_index_or es i e → wanted (f e) cx t ≡ None
    → WantedRest f es cx t i cs → all_wanted f es cx t ≡ None
unfolding and_then
wanted_none f es cx t i cs e lt is w h = h ∙ ap (λ o. and_then o (λ rest. Some (cs ++ rest))) (wanted_step f es cx t i e None lt is w)

pub wanted_end : (f : Expr → Infer) (es : List Expr) (cx : Context) (t : Ty) (i : ℕ) (cs : List Core) → length es ≤ i → WantedRest f es cx t i cs → all_wanted f es cx t ≡ Some cs
unfolding and_then all_wanted
wanted_end f es cx t i cs le h = h ∙ rw (ended es i le, append-nil cs) refl

-- ---- parts of a string

abbrev pub PiecesRest : (Expr → Infer) → List StringPart → Context → ℕ → List Piece → Type 0
PiecesRest f ss cx i ps = pieces f ss cx ≡ and_then (pieces f (drop i ss) cx) (λ rest. Some (ps ++ rest))

pub pieces_start : (f : Expr → Infer) (ss : List StringPart) (cx : Context) → PiecesRest f ss cx 0 []
pieces_start f ss cx = whole (pieces f ss cx)

pieces_step : (f : Expr → Infer) (ss : List StringPart) (cx : Context) (i : ℕ) (s : StringPart) (o : Option Piece) → i < length ss → s ≡ slice_index_or ss i s → piece_of f (out-StringPart s) cx ≡ o
    → pieces f (drop i ss) cx ≡ and_then o (λ c. and_then (pieces f (drop (i + 1) ss) cx) (λ rest. Some (c ∷ rest)))
unfolding pieces
pieces_step f ss cx i s o lt is w = ap (λ xs. pieces f xs cx) (opened ss i s lt is) ∙ ap (λ p. and_then p (λ c. and_then (pieces f (drop (i + 1) ss) cx) (λ rest. Some (c ∷ rest)))) w

pub pieces_turn : (f : Expr → Infer) (ss : List StringPart) (cx : Context) (i : ℕ) (ps : List Piece) (s : StringPart) (p : Piece) → i < length ss → s ≡ slice_index_or ss i s
    → piece_of f (out-StringPart s) cx ≡ Some p → PiecesRest f ss cx i ps → PiecesRest f ss cx (i + 1) (ps ++ p ∷ [])
unfolding and_then
pieces_turn f ss cx i ps s p lt is w h = h ∙ ap (λ o. and_then o (λ rest. Some (ps ++ rest))) (pieces_step f ss cx i s (Some p) lt is w) ∙ moved _ p ps

pub pieces_none : (f : Expr → Infer) (ss : List StringPart) (cx : Context) (i : ℕ) (ps : List Piece) (s : StringPart) → i < length ss → s ≡ slice_index_or ss i s
    → piece_of f (out-StringPart s) cx ≡ None → PiecesRest f ss cx i ps → pieces f ss cx ≡ None
unfolding and_then
pieces_none f ss cx i ps s lt is w h = h ∙ ap (λ o. and_then o (λ rest. Some (ps ++ rest))) (pieces_step f ss cx i s None lt is w)

pub pieces_end : (f : Expr → Infer) (ss : List StringPart) (cx : Context) (i : ℕ) (ps : List Piece) → length ss ≤ i → PiecesRest f ss cx i ps → pieces f ss cx ≡ Some ps
unfolding and_then pieces
pieces_end f ss cx i ps le h = h ∙ rw (ended ss i le, append-nil ps) refl

-- ---- links

abbrev pub LinksRest : (Expr → Infer) → List Link → Core × Ty → Context → ℕ → Core × Ty → Type 0
LinksRest f ls x cx i y = links f ls x cx ≡ links f (drop i ls) y cx

links_step : (f : Expr → Infer) (ls : List Link) (cx : Context) (i : ℕ) (y : Core × Ty) (l : Link) (o : Option (Core × Ty)) → i < length ls → l ≡ slice_index_or ls i l
    → linked (out-Link l).sign y (f (out-Link l).right) cx ≡ o → links f (drop i ls) y cx ≡ and_then o (λ z. links f (drop (i + 1) ls) z cx)
unfolding links
links_step f ls cx i y l o lt is w = ap (λ xs. links f xs y cx) (opened ls i l lt is) ∙ ap (λ p. and_then p (λ z. links f (drop (i + 1) ls) z cx)) w

pub links_turn : (f : Expr → Infer) (ls : List Link) (x : Core × Ty) (cx : Context) (i : ℕ) (y z : Core × Ty) (l : Link) → i < length ls → l ≡ slice_index_or ls i l
    → linked (out-Link l).sign y (f (out-Link l).right) cx ≡ Some z → LinksRest f ls x cx i y → LinksRest f ls x cx (i + 1) z
unfolding and_then
links_turn f ls x cx i y z l lt is w h = h ∙ links_step f ls cx i y l (Some z) lt is w

pub links_none : (f : Expr → Infer) (ls : List Link) (x : Core × Ty) (cx : Context) (i : ℕ) (y : Core × Ty) (l : Link) → i < length ls → l ≡ slice_index_or ls i l
    → linked (out-Link l).sign y (f (out-Link l).right) cx ≡ None → LinksRest f ls x cx i y → links f ls x cx ≡ None
unfolding and_then
links_none f ls x cx i y l lt is w h = h ∙ links_step f ls cx i y l None lt is w

pub links_end : (f : Expr → Infer) (ls : List Link) (x : Core × Ty) (cx : Context) (i : ℕ) (y : Core × Ty) → length ls ≤ i → LinksRest f ls x cx i y → links f ls x cx ≡ Some y
unfolding links
links_end f ls x cx i y le h = h ∙ ap (λ xs. links f xs y cx) (ended ls i le)
