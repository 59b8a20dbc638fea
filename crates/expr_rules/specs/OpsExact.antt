-- Each search of a form finds what its rule relates, where those of the expressions inside do.
use Rattle.std.specs.Prelude.{ℕ, List, [], ◌∷◌, Option, Some, None}
use Rattle.sv_value.specs.declared.value.Value.{Value}
use Rattle.swift_ast.specs.declared.tree.ArgValue.TheOpen.{StringPart-F}
use Rattle.swift_ast.specs.declared.tree.BinarySign.{BinarySign}
use Rattle.swift_ast.specs.declared.tree.Expr.{Expr}
use Rattle.swift_ast.specs.declared.tree.Link.{Link, out-Link}
use Rattle.swift_ast.specs.declared.tree.PrefixSign.{PrefixSign}
use Rattle.swift_ast.specs.declared.tree.StringPart.{StringPart, out-StringPart}
use Rattle.swift_core.specs.declared.term.Binary.{Binary}
use Rattle.swift_core.specs.declared.term.Core.{Core}
use Rattle.swift_core.specs.declared.ty.Ty.{Ty}
use Rattle.swift_core.specs.declared.ty.Ty.TheVariants as ty
use Rattle.type_base.specs.Claims.{Then}
use Rattle.type_base.specs.Context.{Context}
use Rattle.type_base.specs.Names.{underscore}
use Rattle.type_base.specs.Rules.{Rule}
use Rattle.expr_rules.specs.Ops.{StringForm, element_of, Constant, Nil, PieceOf, Pieces, TextOf, Myself, Named, Implicit, AllWanted, Elements, Listed, Signs, Prefixed, Operated, Compared, Linked, Links, Coalesced, Coalesces, Chained, Branches, Ternary}
use Rattle.expr_rules.specs.OpsSearch.{constant, nil, piece_of, pieces, text, myself, named, implicit, all_wanted, elements, listed, signs, prefixed, operated, compared, linked, links, coalesced, coalesces_of, chained, branches, ternary}
use Rattle.std.proofs.lemmas.Slice.Eq.{bytes_eq-Decides}
use Rattle.swift_core.specs.Types.{same_ty_decides}
use Rattle.type_base.specs.Claims.{Reads, Given, reads_give, reads_none, reads_is, reads_then, reads_when, reads_cases, reads_given, bool_is, not_decides}
use Rattle.type_base.specs.Names.{local_exact, own_exact, owner_exact, member_exact}
use Rattle.type_base.specs.Promotion.{stands_exact, wanted_exact}
use Rattle.type_base.specs.Rules.{Infer, Exact}

pub constant_exact : (v : Value) (t : Ty) → Exact (constant v t) (Constant v t)
unfolding constant Constant
constant_exact v t cx want = reads_give _

pub nil_exact : Exact nil Nil
unfolding nil Nil Then
nil_exact cx want = reads_then (reads_is _) (λ t. reads_then (reads_is _) (λ u. reads_give _))

pub myself_exact : Exact myself Myself
unfolding myself Myself Then
myself_exact cx want = reads_when bool_is (reads_then (owner_exact cx) (λ owner. reads_give _))

pub named_exact : (w : List ℕ) → Exact (named w) (Named w)
unfolding named Named Then Given
named_exact w cx want =
    reads_given (local_exact w cx) (λ found. reads_then (reads_is _) (λ c. reads_give _))
    (reads_when (not_decides (bytes_eq-Decides w underscore)) (reads_then (own_exact w cx) (λ m. reads_is _)))

pub implicit_exact : (w : List ℕ) → Exact (implicit w) (Implicit w)
unfolding implicit Implicit Then
implicit_exact w cx want = reads_then (reads_is _) (λ t. reads_then (reads_is _) (λ d. reads_then (reads_is _) (λ declaration.
    reads_then (member_exact w declaration) (λ m. reads_then (reads_is _) (λ at. reads_give _)))))

pub signs_exact : (ss : List PrefixSign) (x : Core × Ty) → Reads (signs ss x) (Signs ss x)
unfolding signs Signs Then
signs_exact [] x = reads_give _
signs_exact (s ∷ ss) x = reads_then (signs_exact ss x) (λ y. reads_is _)

pub prefixed_exact : (ss : List PrefixSign) {f : Infer} {R : Rule} → Exact f R → Exact (prefixed ss f) (Prefixed ss R)
unfolding prefixed Prefixed Then
prefixed_exact ss a cx want = reads_then (a cx None) (λ x. signs_exact ss x)

pub operated_exact : (s : BinarySign) (x : Core × Ty) {f : Infer} {R : Rule} → Exact f R → (cx : Context) → Reads (operated s x f cx) (Operated s x R cx)
unfolding operated Operated Then
operated_exact s x b cx = reads_then (reads_is _) (λ o. reads_then (b cx None) (λ y. reads_when (same_ty_decides y.1 x.1) (reads_give _)))

pub compared_exact : (o : Binary) (x : Core × Ty) {f : Infer} {R : Rule} → Exact f R → (cx : Context) → Reads (compared o x f cx) (Compared o x R cx)
unfolding compared Compared Then
compared_exact o x b cx = reads_then (wanted_exact b cx x.1) (λ y. reads_give _)

pub linked_exact : (s : BinarySign) (x : Core × Ty) {f : Infer} {R : Rule} → Exact f R → (cx : Context) → Reads (linked s x f cx) (Linked s x R cx)
unfolding linked Linked Given
linked_exact s x b cx = reads_given (reads_is _) (λ o. compared_exact o x b cx) (operated_exact s x b cx)

pub coalesced_exact : (a : Core) (t : Ty) (y : Core × Ty) → Reads (coalesced a t y) (Coalesced a t y)
unfolding coalesced Coalesced Then
coalesced_exact a t y = reads_cases (same_ty_decides y.1 (ty.Optional t)) (reads_give _) (reads_then (stands_exact y t) (λ c. reads_give _))

pub branches_exact : {f g : Infer} {R S : Rule} → Exact f R → Exact g S → (cx : Context) (want : Option Ty) → Reads (branches f g cx want) (Branches R S cx want)
unfolding branches Branches Then
branches_exact a b cx (Some t) = reads_then (wanted_exact a cx t) (λ x. reads_then (wanted_exact b cx t) (λ y. reads_give _))
branches_exact a b cx None = reads_then (a cx None) (λ x. reads_then (wanted_exact b cx x.1) (λ y. reads_give _))

pub ternary_exact : {f g h : Infer} {R S T : Rule} → Exact f R → Exact g S → Exact h T → Exact (ternary f g h) (Ternary R S T)
unfolding ternary Ternary Then
ternary_exact c a b cx want = reads_then (wanted_exact c cx ty.Bool) (λ d. reads_then (branches_exact a b cx want) (λ x. reads_give _))

module _ (f : Expr → Infer) (k : Expr → Rule) (exact : (e : Expr) → Exact (f e) (k e)) where
  piece_exact : (s : StringForm) (cx : Context) → Reads (piece_of f s cx) (PieceOf k s cx)
  unfolding piece_of PieceOf Then
  piece_exact (StringPart-F.StringPart::Text w) cx = reads_when bool_is (reads_give _)
  piece_exact (StringPart-F.Hole e) cx = reads_then (exact e cx None) (λ x. reads_when bool_is (reads_give _))

  pieces_exact : (ss : List StringPart) (cx : Context) → Reads (pieces f ss cx) (Pieces k ss cx)
  unfolding pieces Pieces Then
  pieces_exact [] cx = reads_give _
  pieces_exact (s ∷ ss) cx = reads_then (piece_exact (out-StringPart s) cx) (λ p. reads_then (pieces_exact ss cx) (λ rest. reads_give _))

  pub text_exact : (ss : List StringPart) → Exact (text f ss) (TextOf k ss)
  unfolding text TextOf Then Given
  text_exact ss cx want = reads_given (reads_is _) (λ w. reads_when bool_is (reads_give _)) (reads_then (pieces_exact ss cx) (λ ps. reads_give _))

  pub all_wanted_exact : (es : List Expr) (cx : Context) (t : Ty) → Reads (all_wanted f es cx t) (AllWanted k es cx t)
  unfolding all_wanted AllWanted Then
  all_wanted_exact [] cx t = reads_give _
  all_wanted_exact (e ∷ es) cx t = reads_then (wanted_exact (exact e) cx t) (λ c. reads_then (all_wanted_exact es cx t) (λ rest. reads_give _))

  elements_exact : (es : List Expr) (cx : Context) (want : Option Ty) → Reads (elements f es cx want) (Elements k es cx want)
  unfolding elements Elements Then
  elements_exact es cx (Some t) = reads_then (all_wanted_exact es cx t) (λ cs. reads_give _)
  elements_exact [] cx None = reads_none
  elements_exact (e ∷ es) cx None = reads_then (exact e cx None) (λ x. reads_then (all_wanted_exact es cx x.1) (λ cs. reads_give _))

  pub listed_exact : (es : List Expr) → Exact (listed f es) (Listed k es)
  unfolding listed Listed Then
  listed_exact es cx want = reads_then (elements_exact es cx (element_of want)) (λ x. reads_give _)

  links_exact : (ls : List Link) (x : Core × Ty) (cx : Context) → Reads (links f ls x cx) (Links k ls x cx)
  unfolding links Links Then
  links_exact [] x cx = reads_give _
  links_exact (l ∷ ls) x cx = reads_then (linked_exact (out-Link l).sign x (exact (out-Link l).right) cx) (λ y. links_exact ls y cx)

  coalesces_exact : (e : Expr) (ls : List Link) (cx : Context) (want : Option Ty) → Reads (coalesces_of f e ls cx want) (Coalesces k e ls cx want)
  unfolding coalesces_of Coalesces Then
  coalesces_exact e [] cx want = exact e cx want
  coalesces_exact e (l ∷ ls) cx want =
      reads_when bool_is (reads_then (exact e cx None) (λ x. reads_then (reads_is _) (λ t. reads_then (coalesces_exact (out-Link l).right ls cx (Some t)) (λ y. coalesced_exact x.0 t y))))

  pub chained_exact : (e : Expr) (ls : List Link) → Exact (chained f e ls) (Chained k e ls)
  unfolding chained Chained Then
  chained_exact e ls cx want = reads_cases bool_is (coalesces_exact e ls cx None) (reads_then (exact e cx None) (λ x. links_exact ls x cx))
