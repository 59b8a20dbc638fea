-- The functions that a term uses: where their code is, and what it gives.
use Rattle.std.specs.Prelude.{◌≡◌, ℕ, Bool, false, List, [], map, Option, Some, slice_get}
use Rattle.std.proofs.Common.{refl, sym, ap, subst, ◌∙◌}
use Rattle.sv_value.specs.declared.value.Value.{Value, out-Value}
use Rattle.sv_value.specs.declared.value.Value.TheOpen.{Value-F}
use Rattle.swift_ast.specs.declared.tree.Binder.{Binder}
use Rattle.swift_core.specs.Context.{Context, Local, Itself, initial_of}
use Rattle.swift_core.specs.Types.{named_at}
use Rattle.swift_core.specs.Typing.{Uses, FitsSignature, IsMain, GivesValue, GivesResult, HasInitial, itself_in, itself_in_function}
use Rattle.swift_core.specs.Values.{HasValue, HasValueAt}
use Rattle.swift_core.specs.declared.code.Code.{Code}
use Rattle.swift_core.specs.declared.code.CodeForm.{CodeForm}
use Rattle.swift_core.specs.declared.code.CoreMember.{CoreMember}
use Rattle.swift_core.specs.declared.table.Argument.{Argument}
use Rattle.swift_core.specs.declared.table.Declaration.{Declaration}
use Rattle.swift_core.specs.declared.table.Initial.TheVariants as initial
use Rattle.swift_core.specs.declared.table.Kind.{Kind}
use Rattle.swift_core.specs.declared.table.ParamSignature.{ParamSignature}
use Rattle.swift_core.specs.declared.table.Signature.{Signature}
use Rattle.swift_core.specs.declared.table.SignatureForm.TheVariants as form
use Rattle.swift_core.specs.declared.table.Table.{Table}
use Rattle.swift_core.specs.declared.ty.Ty.{Ty, out-Ty, roll-Ty, roll-out-Ty}
use Rattle.swift_core.specs.declared.ty.Ty.TheOpen.{Ty-F}
use Rattle.swift_core.specs.declared.ty.Ty.TheVariants as ty
use Rattle.swift_core.specs.declared.ty.Ty.TheViews as ty_view

-- ---- types by name

pub named_is : (t : Ty) (d : ℕ) → named_at (out-Ty t) ≡ Some d → t ≡ ty.Named d
named_is t d e = go (out-Ty t) refl e
  where
    go : (l : Ty-F Ty) → out-Ty t ≡ l → named_at l ≡ Some d → t ≡ ty.Named d
    go (Ty-F.Named k) o h = let same : k ≡ d = cc in sym (roll-out-Ty t) ∙ ap roll-Ty (o ∙ ap Ty-F.Named same ∙ sym (ty_view.outs-Named d)) ∙ roll-out-Ty (ty.Named d)
    go Ty-F.Int o h = cc
    go Ty-F.Bool o h = cc
    go Ty-F.Text o h = cc
    go (Ty-F.List u) o h = cc
    go (Ty-F.Optional u) o h = cc

-- A value of a named type is of a data struct or an enum.
pub value_kind : (table : Table) (d : ℕ) (v : Value) (declaration : Declaration) → HasValue table (ty.Named d) v → slice_get table.declarations d ≡ Some declaration → itself_in declaration.kind ≡ Itself.a_value
value_kind table d v declaration h at = go d (out-Value v) at (subst (λ (l : Ty-F Ty). HasValueAt table l (out-Value v)) (ty_view.outs-Named d) h)
  where
    go : (d : ℕ) (l : Value-F Value) → slice_get table.declarations d ≡ Some declaration → HasValueAt table (Ty-F.Named d) l → itself_in declaration.kind ≡ Itself.a_value
    go d l at (HasValueAt.made {names_identifiable = n} {declaration = other} there is filled) =
        let same : other ≡ declaration = (let both : Some other ≡ Some declaration = sym there ∙ at in cc) in ap (λ (x : Declaration). itself_in x.kind) (sym same) ∙ ap itself_in is
    go d l at (HasValueAt.case {cases = cases} {names_all = n} {declaration = other} there is below) =
        let same : other ≡ declaration = (let both : Some other ≡ Some declaration = sym there ∙ at in cc) in ap (λ (x : Declaration). itself_in x.kind) (sym same) ∙ ap itself_in is

-- ---- code

-- the code of a member, on no locals, and its form
pub record MainCode (m : CoreMember) (parameters : List Ty) (of : CodeForm) : Type 0 where
  pub code : Code
  pub has : m.code ≡ Some code
  pub is : code.form ≡ of
  pub outer : code.outer ≡ 0
  pub kept : code.kept ≡ []

pub main_of : (m : CoreMember) (ts : List Ty) (of : CodeForm) → IsMain m ts of → MainCode m ts of
main_of m ts of (IsMain.main {c = c} has outer kept parameters types) = record { code = c; has = has; is = refl; outer = outer; kept = kept }

-- the context of the code of a member
abbrev pub member_context : Table → ℕ → Itself → CoreMember → Context
member_context table d itself m = record { table = table; owner = Some d; itself = itself; blocks = m.blocks }

-- a function or a computed property, with its code
pub record Function (table : Table) (d : ℕ) (k : Kind) (m : CoreMember) (mutating : Bool) (ps : List ParamSignature) (result : Option Ty) : Type 0 where
  pub of : CodeForm
  pub types : List Ty
  pub typed : map (λ (p : ParamSignature). p.ty) ps ≡ map Some types
  pub main : MainCode m types of
  pub gives : GivesResult (member_context table d (itself_in_function mutating k) m) (map Local.valued types) of result

module _ (table : Table) (d : ℕ) (k : Kind) (m : CoreMember) where
  computed_function : (t : Ty) → FitsSignature table d k m (form.Computed (Some t)) → Function table d k m false [] (Some t)
  computed_function t (FitsSignature.computed_value {c = c} begins gives) = record { of = c; types = []; typed = refl; main = main_of m [] c begins; gives = GivesResult.with_value gives }

  plain_function : (ps : List ParamSignature) (result : Option Ty) (mutating : Bool) → FitsSignature table d k m (form.Function ps result mutating) → Function table d k m mutating ps result
  plain_function ps result mutating (FitsSignature.function_body {ts = ts} {c = c} typed begins gives) = record { of = c; types = ts; typed = typed; main = main_of m ts c begins; gives = gives }

  pub function_of : (s : Signature) (mutating : Bool) (ps : List ParamSignature) (result : Option Ty) → FitsSignature table d k m s.form → Uses s mutating ps result → Function table d k m mutating ps result
  function_of s mutating ps result fits (Uses.computed {t = t} e) = computed_function t (subst (FitsSignature table d k m) e fits)
  function_of s mutating ps result fits (Uses.function e) = plain_function ps result mutating (subst (FitsSignature table d k m) e fits)

  -- a static property
  pub record Constant (t : Ty) : Type 0 where
    pub of : CodeForm
    pub main : MainCode m [] of
    pub gives : GivesValue (member_context table d Itself.no_self m) [] of t

  pub static_of : (t : Ty) → FitsSignature table d k m (form.Static (Some t)) → Constant t
  static_of t (FitsSignature.static_value {c = c} begins gives) = record { of = c; main = main_of m [] c begins; gives = gives }

  initial_constant : (t : Ty) (a : Argument) → initial_of a ≡ Some initial.Written → HasInitial (member_context table d Itself.no_self m) m t a → Constant t
  initial_constant t a e (HasInitial.initial_written {c = c} w begins h) = record { of = _; main = main_of m [] _ begins; gives = GivesValue.by_term h }
  initial_constant t a e (HasInitial.initial_nil w i none) = absurd (cc (e, w))
  initial_constant t a e (HasInitial.no_initial w none) = absurd (cc (e, w))

  -- the initial value of a stored property
  pub initial_of_stored : (n : ℕ) (b : Binder) (t : Ty) (a : Argument) → initial_of a ≡ Some initial.Written → FitsSignature table d k m (form.Stored n b (Some t) a) → Constant t
  initial_of_stored n b t a e (FitsSignature.stored h) = initial_constant t a e h
