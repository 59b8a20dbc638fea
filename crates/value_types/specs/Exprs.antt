-- The rules of the forms of expressions relate types of values, where it is so of the expressions inside.
use Rattle.std.specs.Prelude.{◌≡◌, ℕ, Bool, true, false, List, [], ◌∷◌, Option, Some, None, slice_get, if◌then◌else◌}
use Rattle.std.proofs.Common.{refl, sym, ap, subst, ◌∙◌, inl, inr}
use Rattle.sv_value.specs.declared.value.Value.{Value}
use Rattle.swift_ast.specs.declared.tree.BinarySign.{BinarySign}
use Rattle.swift_ast.specs.declared.tree.Expr.{Expr}
use Rattle.swift_ast.specs.declared.tree.Link.{Link, out-Link}
use Rattle.swift_ast.specs.declared.tree.PrefixSign.{PrefixSign}
use Rattle.swift_ast.specs.declared.tree.PrefixSign.TheVariants as prefix
use Rattle.swift_ast.specs.declared.tree.StringPart.{StringPart}
use Rattle.swift_core.specs.declared.ids.CodeId.{CodeId}
use Rattle.swift_core.specs.declared.table.EnvironmentKey.{EnvironmentKey}
use Rattle.swift_core.specs.declared.table.SignatureForm.{SignatureForm}
use Rattle.swift_core.specs.declared.table.Table.{Table}
use Rattle.swift_core.specs.declared.term.Core.{Core}
use Rattle.swift_core.specs.declared.ty.Ty.{Ty, out-Ty}
use Rattle.swift_core.specs.declared.ty.Ty.TheOpen.{Ty-F}
use Rattle.swift_core.specs.declared.ty.Ty.TheVariants as ty
use Rattle.swift_core.specs.Types.{inside_at, element_at}
use Rattle.type_base.specs.Claims.{Then, some_is}
use Rattle.type_base.specs.Context.{Context}
use Rattle.type_base.specs.Names.{IsLocal}
use Rattle.type_base.specs.Rules.{Rule}
use Rattle.type_base.specs.declared.scope.Local.{Local}
use Rattle.type_base.specs.declared.scope.Stance.{Stance}
use Rattle.type_base.specs.declared.scope.Stance.TheVariants as stance
use Rattle.expr_rules.specs.Ops.{Constant, Nil, TextOf, has_self, Myself, own_value, Named, Implicit, Elements, Listed, prefix_at, Signs, Prefixed, is_test, Operated, Compared, Linked, Links, Coalesced, Coalesces, Chained, Branches, Ternary}
use Rattle.expr_rules.specs.Ops as ops
use Rattle.value_types.specs.Types.{Of, OptionOf, int_of, bool_of, text_of, list_of, inside_of, element_of, some_of, within_of, TypesOf}

-- where code stands outside of the members that have a `self`, no member of `self` is named
abbrev pub is_outer : Stance → Bool
is_outer stance.Outside = true
is_outer stance.Initial = true
is_outer _ = false

-- what stands around an initial value: all types are types of values, and no member of `self` is named
pub record Around (cx : Context) : Type 0 where
  pub types : TypesOf cx.table
  pub locals : (at : ℕ) (l : Local) → slice_get cx.locals at ≡ Some l → Of cx.table l.ty
  pub outer : is_outer cx.stance ≡ true

-- around an initial value a rule relates types of values alone, where such a type is expected or none
abbrev pub Keeps : Rule → Type 0
Keeps R = (cx : Context) (want : Option Ty) (r : Core × Ty) → Around cx → OptionOf cx.table want → R cx want r → Of cx.table r.1

made : (table : Table) {r : Core × Ty} {c : Core} {t : Ty} → r ≡ (c, t) → Of table t → Of table r.1
made table e v = subst (λ (x : Core × Ty). Of table x.1) (sym e) v

told : (table : Table) {r : Core × Ty} {c : Core} {t : Ty} → ◌≡◌ {A = Option (Core × Ty)} (Some (c, t)) (Some r) → Of table t → Of table r.1
told table {r = r} {c = c} {t = t} e v = subst (λ (x : Core × Ty). Of table x.1) (some_is (c, t) r e) v

-- ---- literals and names

pub constant_keeps : (v : Value) (t : Ty) → ((table : Table) → Of table t) → Keeps (Constant v t)
unfolding Constant
constant_keeps v t h cx want r a w e = made cx.table e (h cx.table)

pub nil_keeps : Keeps Nil
unfolding Nil
nil_keeps cx want r a w (t, q, (u, i, e)) = made cx.table e (subst (OptionOf cx.table) q w)

pub text_keeps : (k : Expr → Rule) (ss : List StringPart) → Keeps (TextOf k ss)
unfolding TextOf
text_keeps k ss cx want r a w (inl (v, t, (u, e))) = made cx.table e (text_of cx.table)
text_keeps k ss cx want r a w (inr (n, (ps, p, e))) = made cx.table e (text_of cx.table)

no_self : {X : Type 0} (s : Stance) → is_outer s ≡ true → has_self s ≡ true → X
no_self stance.Outside a h = cc
no_self stance.Initial a h = cc
no_self stance.View a h = cc
no_self stance.Data a h = cc
no_self stance.Mutating a h = cc
no_self stance.Key a h = cc

pub myself_keeps : Keeps Myself
unfolding Myself
myself_keeps cx want r a w (s, rest) = no_self cx.stance a.outer s

own_none : {X : Type 0} (s : Stance) (keys : List EnvironmentKey) (code : CodeId) (f : SignatureForm) (r : Core × Ty) → is_outer s ≡ true → own_value s keys code f ≡ Some r → X
unfolding own_value
own_none stance.Outside keys code f r a h = cc
own_none stance.Initial keys code f r a h = cc
own_none stance.View keys code f r a h = cc
own_none stance.Data keys code f r a h = cc
own_none stance.Mutating keys code f r a h = cc
own_none stance.Key keys code f r a h = cc

pub named_keeps : (w : List ℕ) → Keeps (Named w)
unfolding Named IsLocal
named_keeps w cx want r a o (inl (found, (u, i), (c, v, e))) = made cx.table e (a.locals found.0 found.1 i.stands)
named_keeps w cx want r a o (inr (n, (u, (m, own, h)))) = own_none cx.stance cx.table.environment m.1.code m.1.form r a.outer h

pub implicit_keeps : (w : List ℕ) → Keeps (Implicit w)
unfolding Implicit
implicit_keeps w cx want r a o (t, q, (d, n, (declaration, sd, (m, is, (at, cp, e))))) = made cx.table e (within_of cx.table t d (subst (OptionOf cx.table) q o) n)

-- ---- lists

element_wanted : (table : Table) (want : Option Ty) → OptionOf table want → OptionOf table (ops.element_of want)
element_wanted table None w = tt
element_wanted table (Some t) w = some_of table (element_at (out-Ty t)) (λ u e. element_of table t u w e)

elements_keep : (k : Expr → Rule) → ((e : Expr) → Keeps (k e)) → (es : List Expr) (cx : Context) (want : Option Ty) (r : List Core × Ty) → Around cx → OptionOf cx.table want → Elements k es cx want r → Of cx.table r.1
unfolding Elements
elements_keep k keeps es cx (Some t) r a w (cs, h, e) = subst (λ (x : List Core × Ty). Of cx.table x.1) (sym e) w
elements_keep k keeps [] cx None r a w h = absurd h
elements_keep k keeps (x ∷ es) cx None r a w (y, h, (cs, g, e)) = subst (λ (z : List Core × Ty). Of cx.table z.1) (sym e) (keeps x cx None y a tt h)

pub listed_keeps : (k : Expr → Rule) → ((e : Expr) → Keeps (k e)) → (es : List Expr) → Keeps (Listed k es)
unfolding Listed
listed_keeps k keeps es cx want r a w (x, h, e) =
    made cx.table e (list_of cx.table x.1 (elements_keep k keeps es cx (ops.element_of want) x a (element_wanted cx.table want w) h))

-- ---- operators

prefix_keeps : (table : Table) (s : PrefixSign) (c : Core) (l : Ty-F Ty) (r : Core × Ty) → prefix_at s c l ≡ Some r → Of table r.1
prefix_keeps table prefix.Minus c Ty-F.Int r e = told table e (int_of table)
prefix_keeps table prefix.Not c Ty-F.Bool r e = told table e (bool_of table)
prefix_keeps table s c l r e = cc

signs_keep : (table : Table) (ss : List PrefixSign) (x r : Core × Ty) → Of table x.1 → Signs ss x r → Of table r.1
unfolding Signs
signs_keep table [] x r v e = subst (λ (y : Core × Ty). Of table y.1) (sym e) v
signs_keep table (s ∷ ss) x r v (y, h, e) = prefix_keeps table s y.0 (out-Ty y.1) r e

pub prefixed_keeps : (ss : List PrefixSign) {R : Rule} → Keeps R → Keeps (Prefixed ss R)
unfolding Prefixed
prefixed_keeps ss keeps cx want r a w (x, h, e) = signs_keep cx.table ss x r (keeps cx None x a tt h) e

tested : (table : Table) (b : Bool) (t : Ty) → Of table t → Of table (if b then ty.Bool else t)
tested table true t v = bool_of table
tested table false t v = v

linked_keeps : (s : BinarySign) (x : Core × Ty) (B : Rule) (cx : Context) (r : Core × Ty) → Of cx.table x.1 → Linked s x B cx r → Of cx.table r.1
unfolding Linked Compared Operated
linked_keeps s x B cx r v (inl (o, e, (y, w, f))) = made cx.table f (bool_of cx.table)
linked_keeps s x B cx r v (inr (n, (o, e, (y, w, (q, f))))) = made cx.table f (tested cx.table (is_test s) x.1 v)

links_keep : (k : Expr → Rule) (ls : List Link) (x : Core × Ty) (cx : Context) (r : Core × Ty) → Of cx.table x.1 → Links k ls x cx r → Of cx.table r.1
unfolding Links
links_keep k [] x cx r v e = subst (λ (y : Core × Ty). Of cx.table y.1) (sym e) v
links_keep k (l ∷ ls) x cx r v (y, h, g) = links_keep k ls y cx r (linked_keeps (out-Link l).sign x (k (out-Link l).right) cx y v h) g

coalesced_keeps : (table : Table) (a : Core) (t : Ty) (y r : Core × Ty) → Of table t → Of table y.1 → Coalesced a t y r → Of table r.1
unfolding Coalesced
coalesced_keeps table a t y r v w (inl (e, f)) = made table f w
coalesced_keeps table a t y r v w (inr (n, (c, s, f))) = made table f v

coalesces_keep : (k : Expr → Rule) → ((e : Expr) → Keeps (k e)) → (e : Expr) (ls : List Link) → Keeps (Coalesces k e ls)
unfolding Coalesces
coalesces_keep k keeps e [] cx want r a w h = keeps e cx want r a w h
coalesces_keep k keeps e (l ∷ ls) cx want r a w (q, (x, h, (t, i, (y, g, c)))) =
    let v = inside_of cx.table x.1 t (keeps e cx None x a tt h) i in
    coalesced_keeps cx.table x.0 t y r v (coalesces_keep k keeps (out-Link l).right ls cx (Some t) y a v g) c

pub chained_keeps : (k : Expr → Rule) → ((e : Expr) → Keeps (k e)) → (e : Expr) (ls : List Link) → Keeps (Chained k e ls)
unfolding Chained
chained_keeps k keeps e ls cx want r a w (inl (q, h)) = coalesces_keep k keeps e ls cx None r a tt h
chained_keeps k keeps e ls cx want r a w (inr (q, (x, h, g))) = links_keep k ls x cx r (keeps e cx None x a tt h) g

branches_keep : (A B : Rule) → Keeps A → (cx : Context) (want : Option Ty) (r : (Core × Core) × Ty) → Around cx → OptionOf cx.table want → Branches A B cx want r → Of cx.table r.1
unfolding Branches
branches_keep A B keeps cx (Some t) r a w (x, p, (y, q, e)) = subst (λ (z : (Core × Core) × Ty). Of cx.table z.1) (sym e) w
branches_keep A B keeps cx None r a w (x, p, (y, q, e)) = subst (λ (z : (Core × Core) × Ty). Of cx.table z.1) (sym e) (keeps cx None x a tt p)

pub ternary_keeps : (C A B : Rule) → Keeps A → Keeps (Ternary C A B)
unfolding Ternary
ternary_keeps C A B keeps cx want r a w (c, p, (x, h, e)) = made cx.table e (branches_keep A B keeps cx want x a w h)
