-- What a `ForEach` goes over is well typed, and so are its ids.
use Rattle.std.specs.Prelude.{◌≡◌, ℕ, Bool, true, false, List, Option, Some, None, codes, slice_get, if◌then◌else◌}
use Rattle.std.specs.Str.{bytes_eq}
use Rattle.std.proofs.Common.{refl, ap, subst}
use Rattle.swift_ast.specs.declared.tree.Selector.{Selector}
use Rattle.swift_ast.specs.declared.tree.Selector.TheVariants as selector
use Rattle.swift_core.specs.Context as cores
use Rattle.swift_core.specs.Context.{HasMember}
use Rattle.swift_core.specs.Operators.{property_type}
use Rattle.swift_core.specs.Types.{named_at}
use Rattle.swift_core.specs.Typing.{IsId, IsOver, IsRange, Repeats}
use Rattle.swift_core.specs.declared.item.ForEachOver.{ForEachOver}
use Rattle.swift_core.specs.declared.item.ForEachOver.TheVariants as each
use Rattle.swift_core.specs.declared.item.IdRule.{IdRule}
use Rattle.swift_core.specs.declared.item.IdRule.TheVariants as id
use Rattle.swift_core.specs.declared.stmt.Over.{Over}
use Rattle.swift_core.specs.declared.stmt.Over.TheVariants as over
use Rattle.swift_core.specs.declared.table.Declaration.{Declaration}
use Rattle.swift_core.specs.declared.table.Signature.{Signature}
use Rattle.swift_core.specs.declared.table.SignatureForm.{SignatureForm}
use Rattle.swift_core.specs.declared.table.SignatureForm.TheVariants as form
use Rattle.swift_core.specs.declared.ty.Ty.{Ty, out-Ty}
use Rattle.swift_core.specs.declared.ty.Ty.TheOpen.{Ty-F}
use Rattle.swift_core.specs.declared.ty.Ty.TheVariants as ty
use Rattle.value_calls.specs.declared.calls.Property.TheVariants as property
use Rattle.type_base.specs.Claims.{some_is}
use Rattle.type_base.specs.Names.{IsMember, member_exact}
use Rattle.modifier_rules.specs.Parts.{Word}
use Rattle.view_rules.specs.Forms.{id_by, text_id, member_id, id_at, identifies, own_id_at, id_rule, is_own, is_written, each_over}
use Rattle.post_cores.specs.Members.{found_so}

-- what is found where a test holds
chosen : {A : Type 0} (b : Bool) (x y : A) (P : A → Type 0) → P x → ◌≡◌ {A = Option A} (if b then Some x else None) (Some y) → P y
chosen true x y P h e = subst P (some_is x y e) h
chosen false x y P h e = cc

module _ (cx : cores.Context) (ls : List cores.Local) where
  -- ---- ids

  module _ (t : Ty) where
    given_id : (i j : IdRule) → ◌≡◌ {A = Option IdRule} (Some i) (Some j) → IsId cx t i → IsId cx t j
    given_id i j e h = subst (IsId cx t) (some_is i j e) h

    text_by : (a b : Bool) (i : IdRule) (u v : Ty) → property_type property.Count (out-Ty t) ≡ Some u → property_type property.IsEmpty (out-Ty t) ≡ Some v
        → (if a then Some (id.Look property.Count) else (if b then Some (id.Look property.IsEmpty) else None)) ≡ Some i → IsId cx t i
    text_by true b i u v p q e = given_id _ i e (IsId.by_property p)
    text_by false true i u v p q e = given_id _ i e (IsId.by_property q)
    text_by false false i u v p q e = cc

    list_by : (a b : Bool) (w : Word) (i : IdRule) (u : Ty) → out-Ty t ≡ Ty-F.List u
        → (if a then Some (id.Look property.First) else (if b then Some (id.Look property.Last) else text_id w)) ≡ Some i → IsId cx t i
    list_by true b w i u l e = given_id _ i e (IsId.by_property (ap (property_type property.First) l))
    list_by false true w i u l e = given_id _ i e (IsId.by_property (ap (property_type property.Last) l))
    list_by false false w i u l e =
        text_by (bytes_eq w (codes "count")) (bytes_eq w (codes "isEmpty")) i ty.Int ty.Bool (ap (property_type property.Count) l) (ap (property_type property.IsEmpty) l) e

    module _ (d : ℕ) (declaration : Declaration) (n : named_at (out-Ty t) ≡ Some d) (sd : slice_get cx.table.declarations d ≡ Some declaration) where
      id_form : (at : ℕ) (s : Signature) → slice_get declaration.members at ≡ Some s → (f : SignatureForm) (i : IdRule) → s.form ≡ f → id_by f s.code ≡ Some i → IsId cx t i
      id_form at s sm (form.Stored k b (Some u) a) i e h = given_id _ i h (IsId.by_field n (HasMember.member at sd sm) e)
      id_form at s sm (form.Computed (Some u)) i e h = given_id _ i h (IsId.by_computed n (HasMember.member at sd sm) refl e)
      id_form at s sm _ i e h = cc

      member_good : (w : Word) (i : IdRule) → member_id declaration w ≡ Some i → IsId cx t i
      unfolding IsMember
      member_good w i h = found_so (IsId cx t i) h (λ (m : ℕ × Signature) sm g. id_form m.0 m.1 ((member_exact w declaration m).0 sm).1 m.1.form i refl g)

      own_by : (b : Bool) (i : IdRule) → (if b then member_id declaration (codes "id") else None) ≡ Some i → IsId cx t i
      own_by true i h = member_good (codes "id") i h
      own_by false i h = cc

    written_good : (w : Word) (layer : Ty-F Ty) (i : IdRule) → out-Ty t ≡ layer → id_at cx.table w layer ≡ Some i → IsId cx t i
    written_good w Ty-F.Text i e h =
        text_by (bytes_eq w (codes "count")) (bytes_eq w (codes "isEmpty")) i ty.Int ty.Bool (ap (property_type property.Count) e) (ap (property_type property.IsEmpty) e) h
    written_good w (Ty-F.List u) i e h = list_by (bytes_eq w (codes "first")) (bytes_eq w (codes "last")) w i u e h
    written_good w (Ty-F.Named d) i e h = found_so (IsId cx t i) h (λ (declaration : Declaration) sd g. member_good d declaration (ap named_at e) sd w i g)
    written_good w Ty-F.Int i e h = cc
    written_good w Ty-F.Bool i e h = cc
    written_good w (Ty-F.Optional u) i e h = cc

    own_good : (layer : Ty-F Ty) (i : IdRule) → out-Ty t ≡ layer → own_id_at cx.table layer ≡ Some i → IsId cx t i
    own_good (Ty-F.Named d) i e h = found_so (IsId cx t i) h (λ (declaration : Declaration) sd g. own_by d declaration (ap named_at e) sd (identifies declaration.kind) i g)
    own_good _ i e h = cc

    -- what tells the elements apart
    pub id_good : (s : Option Selector) (i : IdRule) → id_rule cx.table t s ≡ Some i → IsId cx t i
    unfolding id_rule
    id_good None i h = own_good (out-Ty t) i refl h
    id_good (Some (selector.Name w)) i h = written_good w (out-Ty t) i refl h
    id_good (Some selector.Itself) i h = given_id id.Itself i h IsId.by_itself

  -- ---- what is gone over

  range_good : (o : Over) (t : Ty) (s : Option Selector) (r : ForEachOver) → IsRange cx ls o → each_over cx.table o t s ≡ Some r → Repeats cx ls r (cores.Local.valued ty.Int)
  unfolding each_over
  range_good o t s r (IsRange.up_to {a = a} {b = b} g h) e =
      chosen (is_own s) (each.Numbers (over.UpTo a b)) r (λ (x : ForEachOver). Repeats cx ls x (cores.Local.valued ty.Int)) (Repeats.numbers (IsRange.up_to g h)) e
  range_good o t s r (IsRange.through {a = a} {b = b} g h) e =
      chosen (is_written s) (each.Numbers (over.Through a b)) r (λ (x : ForEachOver). Repeats cx ls x (cores.Local.valued ty.Int)) (Repeats.numbers (IsRange.through g h)) e
  range_good o t s r (IsRange.indices {c = c} g h) e =
      chosen (is_own s) (each.Numbers (over.Indices c)) r (λ (x : ForEachOver). Repeats cx ls x (cores.Local.valued ty.Int)) (Repeats.numbers (IsRange.indices g h)) e

  pub over_good : (o : Over) (t : Ty) (s : Option Selector) (r : ForEachOver) → IsOver cx ls o t → each_over cx.table o t s ≡ Some r → Repeats cx ls r (cores.Local.valued t)
  unfolding each_over
  over_good o t s r (IsOver.range h) e = range_good o ty.Int s r h e
  over_good o t s r (IsOver.elements {c = c} h i) e =
      found_so (Repeats cx ls r (cores.Local.valued t)) e (λ (k : IdRule) ik g.
      subst (λ (x : ForEachOver). Repeats cx ls x (cores.Local.valued t)) (some_is (each.Values c k) r g) (Repeats.values h i (id_good t s k ik)))
