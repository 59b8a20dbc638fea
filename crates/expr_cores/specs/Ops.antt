-- What the rules of the forms of expressions relate is well typed, where it is so of the expressions inside.
use Rattle.std.specs.Prelude.{◌≡◌, ℕ, ℤ, Bool, true, List, [], ◌∷◌, Option, Some, None, option_map, slice_get, if◌then◌else◌}
use Rattle.std.proofs.Common.{refl, sym, ap, subst, ◌∙◌, inl, inr, zero, suc}
use Rattle.std.proofs.lemmas.Option.{slice_get-map}
use Rattle.sv_value.specs.declared.value.Value.{Value, out-Value}
use Rattle.sv_value.specs.declared.value.Value.TheOpen.{Value-F}
use Rattle.sv_value.specs.declared.value.Value.TheVariants as value
use Rattle.sv_value.specs.declared.value.Value.TheViews as value_view
use Rattle.value_calls.specs.declared.operators.Arithmetic.TheVariants as arithmetic
use Rattle.value_calls.specs.declared.operators.Comparison.TheVariants as comparison
use Rattle.value_calls.specs.declared.operators.Operator.TheVariants as operator
use Rattle.value_calls.specs.declared.operators.Unary.TheVariants as single
use Rattle.swift_ast.specs.declared.tree.BinarySign.{BinarySign}
use Rattle.swift_ast.specs.declared.tree.BinarySign.TheVariants as sign
use Rattle.swift_ast.specs.declared.tree.Link.{Link, out-Link}
use Rattle.swift_ast.specs.declared.tree.PrefixSign.{PrefixSign}
use Rattle.swift_ast.specs.declared.tree.PrefixSign.TheVariants as prefix
use Rattle.swift_core.specs.declared.term.Binary.{Binary}
use Rattle.swift_core.specs.Context as cores
use Rattle.swift_core.specs.Context.{HasMember, OwnMember}
use Rattle.swift_core.specs.Types.{inside_at}
use Rattle.swift_core.specs.Typing.{is_value, Has, AllHave, ArePieces, IsPiece, Looks, CoreForm, PieceForm}
use Rattle.swift_core.specs.Values.{HasValue, HasValueAt}
use Rattle.swift_core.specs.declared.code.Code.{Code}
use Rattle.swift_core.specs.declared.term.ChangeCall.TheOpen.{Core-F}
use Rattle.swift_core.specs.declared.term.Core.{Core, out-Core}
use Rattle.swift_core.specs.declared.term.ChangeCall.TheViews as core_view
use Rattle.swift_core.specs.declared.term.ChangeCall.TheViews.{outs-Literal, outs-Look, outs-List, outs-Promote, outs-Unary, outs-Binary, outs-Choose, outs-Static, outs-Invoke}
use Rattle.swift_core.specs.declared.term.Piece.{Piece, out-Piece}
use Rattle.swift_core.specs.declared.term.ChangeCall.TheViews.{outs-Hole}
use Rattle.swift_core.specs.declared.table.Table.{Table}
use Rattle.swift_core.specs.Operators.{is_printed, unary_type, binary_type}
use Rattle.swift_ast.specs.declared.tree.ArgValue.TheOpen.{StringPart-F}
use Rattle.swift_ast.specs.declared.tree.StringPart.{StringPart, out-StringPart}
use Rattle.type_base.specs.declared.scope.Local.{Local}
use Rattle.type_base.specs.declared.scope.LocalKind.{LocalKind}
use Rattle.type_base.specs.declared.scope.LocalKind.TheVariants as local
use Rattle.type_base.specs.declared.scope.Stance.{Stance}
use Rattle.type_base.specs.declared.scope.Stance.TheVariants as stance
use Rattle.type_base.specs.Names.{IsOwner}
use Rattle.swift_core.specs.declared.ty.Ty.{Ty, out-Ty}
use Rattle.swift_core.specs.declared.ty.Ty.TheOpen.{Ty-F}
use Rattle.swift_core.specs.declared.ty.Ty.TheVariants as ty
use Rattle.swift_core.specs.declared.ty.Ty.TheViews as ty_view
use Rattle.swift_core.specs.declared.ty.Ty.{roll-Ty, roll-out-Ty}
use Rattle.swift_ast.specs.declared.tree.Expr.{Expr}
use Rattle.type_base.specs.Claims.{Then, some_is}
use Rattle.type_base.specs.Context.{Context}
use Rattle.type_base.specs.Depth.{optional, is-Optional, inside-Optional}
use Rattle.type_base.specs.Promotion.{Stands, promoted, Wanted}
use Rattle.type_base.specs.Rules.{Rule}
use Rattle.expr_rules.specs.Ops.{Constant, Nil, StringForm, is_shown, PieceOf, Pieces, TextOf, has_self, Myself, local_value, Ternary, Branches, AllWanted, Elements, Listed, element_of, prefix_at, Signs, Prefixed, operator_at, is_test, equality_at, Operated, Compared, Linked, Links, Coalesced, Coalesces, Chained}
use Rattle.expr_cores.specs.Contexts.{core_context, core_locals, core_local, itself_of, Fits, Good}

-- a core is well typed by its level
pub made : {cx : cores.Context} {ls : List cores.Local} {r : Core × Ty} {c : Core} {t : Ty} {l : CoreForm} → r ≡ (c, t) → out-Core c ≡ l → Has cx ls l t → Has cx ls (out-Core r.0) r.1
made {cx = cx} {ls = ls} {t = t} e o h = subst (λ (s : Core × Ty). Has cx ls (out-Core s.0) s.1) (sym e) (subst (λ (m : CoreForm). Has cx ls m t) (sym o) h)

-- promotions
promoted_good : {cx : cores.Context} {ls : List cores.Local} (n : ℕ) (c : Core) (t : Ty) → Has cx ls (out-Core c) t → Has cx ls (out-Core (promoted n c)) (optional n t)
unfolding promoted optional
promoted_good zero c t h = h
promoted_good {cx = cx} {ls = ls} (suc n) c t h =
    subst (λ (m : CoreForm). Has cx ls m (optional (suc n) t)) (sym (outs-Promote (promoted n c))) (Has.promote (inside-Optional (optional n t)) (promoted_good n c t h))

pub stands_good : {cx : cores.Context} {ls : List cores.Local} (x : Core × Ty) (u : Ty) (c : Core) → Has cx ls (out-Core x.0) x.1 → Stands x u c → Has cx ls (out-Core c) u
unfolding Stands
stands_good {cx = cx} {ls = ls} x u c h (n, e, p) =
    subst (λ (v : Ty). Has cx ls (out-Core c) v) (sym e) (subst (λ (d : Core). Has cx ls (out-Core d) (optional n x.1)) (sym p) (promoted_good n x.0 x.1 h))

pub wanted_good : {R : Rule} → Good R → (blocks : List Code) (cx : Context) (t : Ty) (c : Core) → Fits cx.table → Wanted R cx t c → Has (core_context cx blocks) (core_locals cx.locals) (out-Core c) t
unfolding Wanted Then
wanted_good g blocks cx t c fit (x, a, s) = stands_good x t c (g blocks cx (Some t) x fit a) s

-- a value has its type by their levels
pub has_value : {a : Ty-F Ty} {b : Value-F Value} (t : Ty) (v : Value) (table : Table) → out-Ty t ≡ a → out-Value v ≡ b → HasValueAt table a b → HasValue table t v
has_value {a = a} t v table e f h = subst (λ (x : Ty-F Ty). HasValueAt table x (out-Value v)) (sym e) (subst (λ (y : Value-F Value). HasValueAt table a y) (sym f) h)

pub constant_good : (v : Value) (t : Ty) → ((table : Table) → HasValue table t v) → Good (Constant v t)
unfolding Constant
constant_good v t h blocks cx want r fit e = made e (outs-Literal v) (Has.literal (h cx.table))

pub int_value : (n : ℤ) (table : Table) → HasValue table ty.Int (value.Int n)
int_value n table = has_value _ _ table ty_view.outs-Int (value_view.outs-Int n) HasValueAt.number

pub bool_value : (b : Bool) (table : Table) → HasValue table ty.Bool (value.Bool b)
bool_value b table = has_value _ _ table ty_view.outs-Bool (value_view.outs-Bool b) HasValueAt.truth

str_value : (w : List ℕ) (table : Table) → HasValue table ty.Text (value.Str w)
str_value w table = has_value _ _ table ty_view.outs-Text (value_view.outs-Str w) HasValueAt.text

pub nil_good : Good Nil
unfolding Nil
nil_good blocks cx want r fit (t, w, (u, i, e)) =
    made e (outs-Literal _) (Has.literal (has_value _ _ cx.table (ap out-Ty (is-Optional t u i) ∙ ty_view.outs-Optional u) (value_view.outs-Opt None) (HasValueAt.nothing u)))

-- ---- strings

printed : (layer : Ty-F Ty) → is_shown layer ≡ true → is_printed layer ≡ true
printed Ty-F.Int e = refl
printed Ty-F.Bool e = refl
printed Ty-F.Text e = refl
printed (Ty-F.List t) e = cc
printed (Ty-F.Optional t) e = cc
printed (Ty-F.Named d) e = cc

piece_is : {cx : cores.Context} {ls : List cores.Local} {p q : Piece} {l : PieceForm} → p ≡ q → out-Piece q ≡ l → IsPiece cx ls l → IsPiece cx ls (out-Piece p)
piece_is {cx = cx} {ls = ls} e o h = subst (λ (x : Piece). IsPiece cx ls (out-Piece x)) (sym e) (subst (λ (x : PieceForm). IsPiece cx ls x) (sym o) h)

module _ (k : Expr → Rule) (good : (e : Expr) → Good (k e)) (blocks : List Code) (cx : Context) (fit : Fits cx.table) where
  piece_good : (s : StringForm) (p : Piece) → PieceOf k s cx p → IsPiece (core_context cx blocks) (core_locals cx.locals) (out-Piece p)
  unfolding PieceOf
  piece_good (StringPart-F.StringPart::Text w) p (u, e) = piece_is e (core_view.outs-Piece::Text w) IsPiece.plain
  piece_good (StringPart-F.Hole x) p (y, a, (s, e)) = piece_is e (outs-Hole y.0) (IsPiece.hole (good x blocks cx None y fit a) (printed (out-Ty y.1) s))

  pieces_good : (ss : List StringPart) (ps : List Piece) → Pieces k ss cx ps → ArePieces (core_context cx blocks) (core_locals cx.locals) ps
  unfolding Pieces
  pieces_good [] ps e = subst (λ (x : List Piece). ArePieces (core_context cx blocks) (core_locals cx.locals) x) (sym e) ArePieces.no_pieces
  pieces_good (s ∷ ss) ps (p, a, (rest, b, e)) =
      subst (λ (x : List Piece). ArePieces (core_context cx blocks) (core_locals cx.locals) x) (sym e) (ArePieces.more_pieces (piece_good (out-StringPart s) p a) (pieces_good ss rest b))

  all_good : (es : List Expr) (t : Ty) (cs : List Core) → AllWanted k es cx t cs → AllHave (core_context cx blocks) (core_locals cx.locals) cs t
  unfolding AllWanted
  all_good [] t cs e = subst (λ (x : List Core). AllHave (core_context cx blocks) (core_locals cx.locals) x t) (sym e) (AllHave.no_terms t)
  all_good (x ∷ es) t cs (c, a, (rest, b, e)) =
      subst (λ (y : List Core). AllHave (core_context cx blocks) (core_locals cx.locals) y t) (sym e) (AllHave.more_terms (wanted_good (good x) blocks cx t c fit a) (all_good es t rest b))

  elements_good : (es : List Expr) (want : Option Ty) (r : List Core × Ty) → Elements k es cx want r → AllHave (core_context cx blocks) (core_locals cx.locals) r.0 r.1
  unfolding Elements
  elements_good es (Some t) r (cs, a, e) = subst (λ (y : List Core × Ty). AllHave (core_context cx blocks) (core_locals cx.locals) y.0 y.1) (sym e) (all_good es t cs a)
  elements_good [] None r e = absurd e
  elements_good (x ∷ es) None r (y, a, (cs, b, e)) =
      subst (λ (z : List Core × Ty). AllHave (core_context cx blocks) (core_locals cx.locals) z.0 z.1) (sym e) (AllHave.more_terms (good x blocks cx None y fit a) (all_good es y.1 cs b))

pub text_good : (k : Expr → Rule) → ((e : Expr) → Good (k e)) → (ss : List StringPart) → Good (TextOf k ss)
unfolding TextOf
text_good k good ss blocks cx want r fit (inl (w, t, (u, e))) = made e (outs-Literal _) (Has.literal (str_value w cx.table))
text_good k good ss blocks cx want r fit (inr (n, (ps, a, e))) = made e (core_view.outs-Core::Text ps) (Has.text (pieces_good k good blocks cx fit ss ps a))

pub listed_good : (k : Expr → Rule) → ((e : Expr) → Good (k e)) → (es : List Expr) → Good (Listed k es)
unfolding Listed
listed_good k good es blocks cx want r fit (x, a, e) = made e (outs-List x.0) (Has.list (elements_good k good blocks cx fit es (element_of want) x a))

-- ---- names

self_value : (s : Stance) → has_self s ≡ true → is_value (itself_of s) ≡ true
self_value stance.Data e = refl
self_value stance.Mutating e = refl
self_value stance.Outside e = cc
self_value stance.Initial e = cc
self_value stance.View e = cc
self_value stance.Key e = cc

pub myself_good : Good Myself
unfolding Myself IsOwner
myself_good blocks cx want r fit (s, (owner, (o, d), e)) = made e (outs-Look _) (Has.name (Looks.itself (self_value cx.stance s) o))

local_there : (xs : List Local) (i : ℕ) (l : Local) (k : LocalKind) → slice_get xs i ≡ Some l → l.kind ≡ k → slice_get (core_locals xs) i ≡ Some (core_local l.ty k)
local_there xs i l k s e = slice_get-map (λ (l : Local). core_local l.ty l.kind) xs i ∙ ap (option_map (λ (l : Local). core_local l.ty l.kind)) s ∙ ap (λ j. Some (core_local l.ty j)) e

value_is : {c d : Core} → ◌≡◌ {A = Option Core} (Some d) (Some c) → c ≡ d
value_is e = let h = some_is _ _ e in sym h

pub local_good : (cx : cores.Context) (xs : List Local) (i : ℕ) (l : Local) (c : Core) (k : LocalKind) → slice_get xs i ≡ Some l → l.kind ≡ k → local_value i k ≡ Some c → Has cx (core_locals xs) (out-Core c) l.ty
local_good cx xs i l c local.Let s e v = made {r = (c, l.ty)} (λ j. (value_is v j, l.ty)) (outs-Look _) (Has.name (Looks.local (local_there xs i l local.Let s e)))
local_good cx xs i l c local.Var s e v = made {r = (c, l.ty)} (λ j. (value_is v j, l.ty)) (outs-Look _) (Has.name (Looks.local (local_there xs i l local.Var s e)))
local_good cx xs i l c local.Place s e v = made {r = (c, l.ty)} (λ j. (value_is v j, l.ty)) (outs-Look _) (Has.name (Looks.bound_local (local_there xs i l local.Place s e)))
local_good cx xs i l c local.Next s e v = cc

-- ---- operators

pub is_int : (t : Ty) → out-Ty t ≡ Ty-F.Int → t ≡ ty.Int
is_int t e = sym (roll-out-Ty t) ∙ ap roll-Ty (e ∙ sym ty_view.outs-Int) ∙ roll-out-Ty ty.Int

pub is_bool : (t : Ty) → out-Ty t ≡ Ty-F.Bool → t ≡ ty.Bool
is_bool t e = sym (roll-out-Ty t) ∙ ap roll-Ty (e ∙ sym ty_view.outs-Bool) ∙ roll-out-Ty ty.Bool

pub is_text : (t : Ty) → out-Ty t ≡ Ty-F.Text → t ≡ ty.Text
is_text t e = sym (roll-out-Ty t) ∙ ap roll-Ty (e ∙ sym ty_view.outs-Text) ∙ roll-out-Ty ty.Text

pub is_list : (t u : Ty) → out-Ty t ≡ Ty-F.List u → t ≡ ty.List u
is_list t u e = sym (roll-out-Ty t) ∙ ap roll-Ty (e ∙ sym (ty_view.outs-List u)) ∙ roll-out-Ty (ty.List u)

prefix_good : (cx : cores.Context) (ls : List cores.Local) (s : PrefixSign) (c : Core) (t : Ty) (layer : Ty-F Ty) (r : Core × Ty) → out-Ty t ≡ layer → prefix_at s c layer ≡ Some r
    → Has cx ls (out-Core c) t → Has cx ls (out-Core r.0) r.1
prefix_good cx ls prefix.Minus c t Ty-F.Int r e h g = made (sym (some_is _ r h)) (outs-Unary _ _) (Has.operate_one g (ap (unary_type single.Negate) e))
prefix_good cx ls prefix.Not c t Ty-F.Bool r e h g = made (sym (some_is _ r h)) (outs-Unary _ _) (Has.operate_one g (ap (unary_type single.Not) e))
prefix_good cx ls s c t layer r e h g = cc

signs_good : (cx : cores.Context) (ls : List cores.Local) (ss : List PrefixSign) (x r : Core × Ty) → Has cx ls (out-Core x.0) x.1 → Signs ss x r → Has cx ls (out-Core r.0) r.1
unfolding Signs
signs_good cx ls [] x r g e = subst (λ (y : Core × Ty). Has cx ls (out-Core y.0) y.1) (sym e) g
signs_good cx ls (s ∷ ss) x r g (y, a, h) = prefix_good cx ls s y.0 y.1 (out-Ty y.1) r refl h (signs_good cx ls ss x y g a)

pub prefixed_good : (ss : List PrefixSign) {A : Rule} → Good A → Good (Prefixed ss A)
unfolding Prefixed
prefixed_good ss a blocks cx want r fit (x, h, s) = signs_good (core_context cx blocks) (core_locals cx.locals) ss x r (a blocks cx None x fit h) s

-- an operator whose operands have one type
abbrev pub OperatorGood : cores.Context → List cores.Local → BinarySign → Ty → Binary → Core → Core → Type 0
OperatorGood cx ls s t b a c = Has cx ls (Core-F.Binary b a c) (if is_test s then ty.Bool else t)

with_binary : {cx : cores.Context} {ls : List cores.Local} {a c : Core} {u : Ty} {d b : Binary} → ◌≡◌ {A = Option Binary} (Some d) (Some b) → Has cx ls (Core-F.Binary d a c) u → Has cx ls (Core-F.Binary b a c) u
with_binary {cx = cx} {ls = ls} {a = a} {c = c} {u = u} {d = d} {b = b} e h = subst (λ (x : Binary). Has cx ls (Core-F.Binary x a c) u) (some_is d b e) h

as_bool : {cx : cores.Context} {ls : List cores.Local} (a : Core) (t : Ty) → out-Ty t ≡ Ty-F.Bool → Has cx ls (out-Core a) t → Has cx ls (out-Core a) ty.Bool
as_bool {cx = cx} {ls = ls} a t e h = subst (λ (u : Ty). Has cx ls (out-Core a) u) (is_bool t e) h

of_bool : {cx : cores.Context} {ls : List cores.Local} {l : CoreForm} (t : Ty) → out-Ty t ≡ Ty-F.Bool → Has cx ls l ty.Bool → Has cx ls l t
of_bool {cx = cx} {ls = ls} {l = l} t e h = subst (λ (u : Ty). Has cx ls l u) (sym (is_bool t e)) h

operator_good : (cx : cores.Context) (ls : List cores.Local) (s : BinarySign) (t : Ty) (layer : Ty-F Ty) (b : Binary) (a c : Core) → out-Ty t ≡ layer → operator_at s layer ≡ Some b
    → Has cx ls (out-Core a) t → Has cx ls (out-Core c) t → OperatorGood cx ls s t b a c
operator_good cx ls sign.Plus t Ty-F.Int b a c e h f g = with_binary h (Has.operate f g (ap (binary_type (operator.Compute arithmetic.Plus)) e ∙ ap Some (sym (is_int t e))))
operator_good cx ls sign.Minus t Ty-F.Int b a c e h f g = with_binary h (Has.operate f g (ap (binary_type (operator.Compute arithmetic.Minus)) e ∙ ap Some (sym (is_int t e))))
operator_good cx ls sign.Times t Ty-F.Int b a c e h f g = with_binary h (Has.operate f g (ap (binary_type (operator.Compute arithmetic.Times)) e ∙ ap Some (sym (is_int t e))))
operator_good cx ls sign.Divide t Ty-F.Int b a c e h f g = with_binary h (Has.operate f g (ap (binary_type (operator.Compute arithmetic.Divide)) e ∙ ap Some (sym (is_int t e))))
operator_good cx ls sign.Remainder t Ty-F.Int b a c e h f g = with_binary h (Has.operate f g (ap (binary_type (operator.Compute arithmetic.Remainder)) e ∙ ap Some (sym (is_int t e))))
operator_good cx ls sign.Plus t Ty-F.Text b a c e h f g = with_binary h (Has.operate f g (ap (binary_type operator.JoinTexts) e ∙ ap Some (sym (is_text t e))))
operator_good cx ls sign.Plus t (Ty-F.List u) b a c e h f g = with_binary h (Has.operate f g (ap (binary_type operator.JoinLists) e ∙ ap Some (sym (is_list t u e))))
operator_good cx ls sign.Less t Ty-F.Int b a c e h f g = with_binary h (Has.operate f g (ap (binary_type (operator.Compare comparison.Less)) e))
operator_good cx ls sign.AtMost t Ty-F.Int b a c e h f g = with_binary h (Has.operate f g (ap (binary_type (operator.Compare comparison.LessOrEqual)) e))
operator_good cx ls sign.Greater t Ty-F.Int b a c e h f g = with_binary h (Has.operate f g (ap (binary_type (operator.Compare comparison.Greater)) e))
operator_good cx ls sign.AtLeast t Ty-F.Int b a c e h f g = with_binary h (Has.operate f g (ap (binary_type (operator.Compare comparison.GreaterOrEqual)) e))
operator_good cx ls sign.And t Ty-F.Bool b a c e h f g = with_binary h (of_bool t e (Has.both (as_bool a t e f) (as_bool c t e g)))
operator_good cx ls sign.Or t Ty-F.Bool b a c e h f g = with_binary h (of_bool t e (Has.either (as_bool a t e f) (as_bool c t e g)))
operator_good cx ls s t layer b a c e h f g = cc

equal_good : (cx : cores.Context) (ls : List cores.Local) (s : BinarySign) (b : Binary) (t : Ty) (a c : Core) → equality_at s ≡ Some b → Has cx ls (out-Core a) t → Has cx ls (out-Core c) t
    → Has cx ls (Core-F.Binary b a c) ty.Bool
equal_good cx ls sign.Equal b t a c h f g = with_binary h (Has.operate f g refl)
equal_good cx ls sign.NotEqual b t a c h f g = with_binary h (Has.operate f g refl)
equal_good cx ls s b t a c h f g = cc

module _ (blocks : List Code) (cx : Context) (fit : Fits cx.table) where
  abbrev pub IsGood : Core × Ty → Type 0
  IsGood x = Has (core_context cx blocks) (core_locals cx.locals) (out-Core x.0) x.1

  linked_good : (s : BinarySign) (x : Core × Ty) {B : Rule} → Good B → (r : Core × Ty) → IsGood x → Linked s x B cx r → IsGood r
  unfolding Linked Compared Operated
  linked_good s x b r g (inl (o, e, (y, w, f))) = made f (outs-Binary _ _ _) (equal_good (core_context cx blocks) (core_locals cx.locals) s o x.1 x.0 y e g (wanted_good b blocks cx x.1 y fit w))
  linked_good s x b r g (inr (n, (o, e, (y, w, (q, f))))) =
      made f (outs-Binary _ _ _) (operator_good (core_context cx blocks) (core_locals cx.locals) s x.1 (out-Ty x.1) o x.0 y.0 refl e g
      (subst (λ (u : Ty). Has (core_context cx blocks) (core_locals cx.locals) (out-Core y.0) u) q (b blocks cx None y fit w)))

  links_good : (k : Expr → Rule) → ((e : Expr) → Good (k e)) → (ls : List Link) (x r : Core × Ty) → IsGood x → Links k ls x cx r → IsGood r
  unfolding Links
  links_good k good [] x r g e = subst IsGood (sym e) g
  links_good k good (l ∷ ls) x r g (y, a, b) = links_good k good ls y r (linked_good (out-Link l).sign x (good (out-Link l).right) y g a) b

  coalesced_good : (x : Core × Ty) (t : Ty) (y r : Core × Ty) → inside_at (out-Ty x.1) ≡ Some t → IsGood x → IsGood y → Coalesced x.0 t y r → IsGood r
  unfolding Coalesced
  coalesced_good x t y r i g h (inl (e, f)) =
      made f (outs-Binary _ _ _) (Has.coalesce_optional (subst (λ (u : Ty). Has (core_context cx blocks) (core_locals cx.locals) (out-Core x.0) u) (is-Optional x.1 t i ∙ sym e) g)
      (ap (λ (u : Ty). inside_at (out-Ty u)) e ∙ inside-Optional t) h)
  coalesced_good x t y r i g h (inr (n, (c, s, f))) = made f (outs-Binary _ _ _) (Has.coalesce g i (stands_good y t c h s))

  coalesces_good : (k : Expr → Rule) → ((e : Expr) → Good (k e)) → (e : Expr) (ls : List Link) (want : Option Ty) (r : Core × Ty) → Coalesces k e ls cx want r → IsGood r
  unfolding Coalesces
  coalesces_good k good e [] want r a = good e blocks cx want r fit a
  coalesces_good k good e (l ∷ ls) want r (q, (x, a, (t, i, (y, b, c)))) =
      coalesced_good x t y r i (good e blocks cx None x fit a) (coalesces_good k good (out-Link l).right ls (Some t) y b) c

pub chained_good : (k : Expr → Rule) → ((e : Expr) → Good (k e)) → (e : Expr) (ls : List Link) → Good (Chained k e ls)
unfolding Chained
chained_good k good e ls blocks cx want r fit (inl (q, a)) = coalesces_good blocks cx fit k good e ls None r a
chained_good k good e ls blocks cx want r fit (inr (q, (x, a, b))) = links_good blocks cx fit k good ls x r (good e blocks cx None x fit a) b

-- ---- ternaries

first_of : {cx : cores.Context} {ls : List cores.Local} {x : (Core × Core) × Ty} {a b : Core} {t : Ty} → x ≡ ((a, b), t) → Has cx ls (out-Core a) t → Has cx ls (out-Core x.0.0) x.1
first_of {cx = cx} {ls = ls} e h = subst (λ (s : (Core × Core) × Ty). Has cx ls (out-Core s.0.0) s.1) (sym e) h

second_of : {cx : cores.Context} {ls : List cores.Local} {x : (Core × Core) × Ty} {a b : Core} {t : Ty} → x ≡ ((a, b), t) → Has cx ls (out-Core b) t → Has cx ls (out-Core x.0.1) x.1
second_of {cx = cx} {ls = ls} e h = subst (λ (s : (Core × Core) × Ty). Has cx ls (out-Core s.0.1) s.1) (sym e) h

pub ternary_good : {C A B : Rule} → Good C → Good A → Good B → Good (Ternary C A B)
unfolding Ternary Branches
ternary_good c a b blocks cx (Some t) r fit (d, k, (x, (y, p, (z, q, e)), f)) =
    made f (outs-Choose _ _ _) (Has.choose (wanted_good c blocks cx ty.Bool d fit k) (first_of e (wanted_good a blocks cx t y fit p)) (second_of e (wanted_good b blocks cx t z fit q)))
ternary_good c a b blocks cx None r fit (d, k, (x, (y, p, (z, q, e)), f)) =
    made f (outs-Choose _ _ _) (Has.choose (wanted_good c blocks cx ty.Bool d fit k) (first_of e (a blocks cx None y fit p)) (second_of e (wanted_good b blocks cx y.1 z fit q)))
