-- The searches that find what the rules of expressions relate.
use Rattle.std.specs.Prelude.{ℕ, List, [], ◌∷◌, Option, Some, None, slice_get, if◌then◌else◌}
use Rattle.std.specs.Str.{is_utf8}
use Rattle.sv_value.specs.declared.value.Value.{Value}
use Rattle.sv_value.specs.declared.value.Value.TheVariants as value
use Rattle.swift_ast.specs.declared.tree.ArgValue.TheOpen.{StringPart-F}
use Rattle.swift_ast.specs.declared.tree.BinarySign.{BinarySign}
use Rattle.swift_ast.specs.declared.tree.Expr.{Expr}
use Rattle.swift_ast.specs.declared.tree.Link.{Link, out-Link}
use Rattle.swift_ast.specs.declared.tree.PrefixSign.{PrefixSign}
use Rattle.swift_ast.specs.declared.tree.StringPart.{StringPart, out-StringPart}
use Rattle.swift_core.specs.declared.term.Binary.{Binary}
use Rattle.swift_core.specs.declared.term.Binary.TheVariants as binary
use Rattle.swift_core.specs.declared.term.Core.{Core}
use Rattle.swift_core.specs.declared.term.Core.TheVariants as core
use Rattle.swift_core.specs.declared.term.Lookup.TheVariants as lookup
use Rattle.swift_core.specs.declared.term.Piece.{Piece}
use Rattle.swift_core.specs.declared.term.Piece.TheVariants as piece
use Rattle.swift_core.specs.declared.ty.Ty.{Ty, out-Ty}
use Rattle.swift_core.specs.declared.ty.Ty.TheVariants as ty
use Rattle.swift_core.specs.Types.{inside_at}
use Rattle.type_base.specs.Context.{Context}
use Rattle.type_base.specs.Names.{underscore}
use Rattle.expr_rules.specs.Ops.{StringForm, is_shown, text_of, has_self, local_value, own_value, named_within, case_place, element_of, prefix_at, operator_at, is_test, equality_at, is_coalesce, coalesces}
use Rattle.std.specs.Str.{bytes_eq}
use Rattle.std.specs.Prelude.{not}
use Rattle.swift_core.specs.Types.{same_ty}
use Rattle.type_base.specs.Claims.{and_then, when, given}
use Rattle.type_base.specs.Names.{local_of, own_of, owner_of, member_of}
use Rattle.type_base.specs.Promotion.{stands, wanted}
use Rattle.type_base.specs.Rules.{Infer}

unfoldable pub constant : Value → Ty → Infer
constant v t cx want = Some (core.Literal v, t)

unfoldable pub nil : Infer
nil cx want = and_then want (λ t. and_then (inside_at (out-Ty t)) (λ u. Some (core.Literal (value.Opt None), t)))

unfoldable pub piece_of : (Expr → Infer) → StringForm → Context → Option Piece
piece_of f (StringPart-F.StringPart::Text w) cx = when (is_utf8 w) (Some (piece.Text w))
piece_of f (StringPart-F.Hole e) cx = and_then (f e cx None) (λ x. when (is_shown (out-Ty x.1)) (Some (piece.Hole x.0)))

unfoldable pub pieces : (Expr → Infer) → List StringPart → Context → Option (List Piece)
pieces f [] cx = Some []
pieces f (s ∷ ss) cx = and_then (piece_of f (out-StringPart s) cx) (λ p. and_then (pieces f ss cx) (λ rest. Some (p ∷ rest)))

unfoldable pub text : (Expr → Infer) → List StringPart → Infer
text f ss cx want = given (text_of ss) (λ w. when (is_utf8 w) (Some (core.Literal (value.Str w), ty.Text))) (and_then (pieces f ss cx) (λ ps. Some (core.Text ps, ty.Text)))

unfoldable pub myself : Infer
myself cx want = when (has_self cx.stance) (and_then (owner_of cx) (λ owner. Some (core.Look lookup.Itself, ty.Named owner.0)))

abbrev pub own_named : List ℕ → Context → Option (Core × Ty)
own_named w cx = when (not (bytes_eq w underscore)) (and_then (own_of w cx) (λ m. own_value cx.stance cx.table.environment m.1.code m.1.form))

unfoldable pub named : List ℕ → Infer
named w cx want = given (local_of w cx) (λ found. and_then (local_value found.0 found.1.kind) (λ c. Some (c, found.1.ty))) (own_named w cx)

unfoldable pub implicit : List ℕ → Infer
implicit w cx want =
    and_then want (λ t.
    and_then (named_within t) (λ d.
    and_then (slice_get cx.table.declarations d) (λ declaration.
    and_then (member_of w declaration) (λ m.
    and_then (case_place m.1.form) (λ at.
    Some (core.Literal (value.Case d at), ty.Named d))))))

unfoldable pub all_wanted : (Expr → Infer) → List Expr → Context → Ty → Option (List Core)
all_wanted f [] cx t = Some []
all_wanted f (e ∷ es) cx t = and_then (wanted (f e) cx t) (λ c. and_then (all_wanted f es cx t) (λ rest. Some (c ∷ rest)))

unfoldable pub elements : (Expr → Infer) → List Expr → Context → Option Ty → Option (List Core × Ty)
elements f es cx (Some t) = and_then (all_wanted f es cx t) (λ cs. Some (cs, t))
elements f [] cx None = None
elements f (e ∷ es) cx None = and_then (f e cx None) (λ x. and_then (all_wanted f es cx x.1) (λ cs. Some (x.0 ∷ cs, x.1)))

unfoldable pub listed : (Expr → Infer) → List Expr → Infer
listed f es cx want = and_then (elements f es cx (element_of want)) (λ x. Some (core.List x.0, ty.List x.1))

unfoldable pub signs : List PrefixSign → Core × Ty → Option (Core × Ty)
signs [] x = Some x
signs (s ∷ ss) x = and_then (signs ss x) (λ y. prefix_at s y.0 (out-Ty y.1))

unfoldable pub prefixed : List PrefixSign → Infer → Infer
prefixed ss a cx want = and_then (a cx None) (λ x. signs ss x)

unfoldable pub operated : BinarySign → Core × Ty → Infer → Context → Option (Core × Ty)
operated s x b cx =
    and_then (operator_at s (out-Ty x.1)) (λ o.
    and_then (b cx None) (λ y.
    when (same_ty y.1 x.1) (Some (core.Binary o x.0 y.0, if is_test s then ty.Bool else x.1))))

unfoldable pub compared : Binary → Core × Ty → Infer → Context → Option (Core × Ty)
compared o x b cx = and_then (wanted b cx x.1) (λ y. Some (core.Binary o x.0 y, ty.Bool))

unfoldable pub linked : BinarySign → Core × Ty → Infer → Context → Option (Core × Ty)
linked s x b cx = given (equality_at s) (λ o. compared o x b cx) (operated s x b cx)

unfoldable pub links : (Expr → Infer) → List Link → Core × Ty → Context → Option (Core × Ty)
links f [] x cx = Some x
links f (l ∷ ls) x cx = and_then (linked (out-Link l).sign x (f (out-Link l).right) cx) (λ y. links f ls y cx)

unfoldable pub coalesced : Core → Ty → Core × Ty → Option (Core × Ty)
coalesced a t y =
    if same_ty y.1 (ty.Optional t) then Some (core.Binary binary.CoalesceOptional a y.0, y.1)
    else and_then (stands y t) (λ c. Some (core.Binary binary.Coalesce a c, t))

unfoldable pub coalesces_of : (Expr → Infer) → Expr → List Link → Infer
coalesces_of f e [] cx want = f e cx want
coalesces_of f e (l ∷ ls) cx want =
    when (is_coalesce (out-Link l).sign) (
    and_then (f e cx None) (λ x.
    and_then (inside_at (out-Ty x.1)) (λ t.
    and_then (coalesces_of f (out-Link l).right ls cx (Some t)) (λ y.
    coalesced x.0 t y))))

unfoldable pub chained : (Expr → Infer) → Expr → List Link → Infer
chained f e ls cx want = if coalesces ls then coalesces_of f e ls cx None else and_then (f e cx None) (λ x. links f ls x cx)

unfoldable pub branches : Infer → Infer → Context → Option Ty → Option ((Core × Core) × Ty)
branches a b cx (Some t) = and_then (wanted a cx t) (λ x. and_then (wanted b cx t) (λ y. Some ((x, y), t)))
branches a b cx None = and_then (a cx None) (λ x. and_then (wanted b cx x.1) (λ y. Some ((x.0, y), x.1)))

unfoldable pub ternary : Infer → Infer → Infer → Infer
ternary c a b cx want = and_then (wanted c cx ty.Bool) (λ c. and_then (branches a b cx want) (λ x. Some (core.Choose c x.0.0 x.0.1, x.1)))
