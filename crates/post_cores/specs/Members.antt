-- Members and names of a chain are well typed.
use Rattle.std.specs.Prelude.{◌≡◌, ℕ, Bool, true, false, List, Option, Some, None, slice_get}
use Rattle.std.proofs.Common.{refl, sym, ap, subst, ◌∙◌}
use Rattle.value_calls.specs.declared.calls.Property.{Property}
use Rattle.value_calls.specs.declared.calls.Property.TheVariants.{Count, IsEmpty, First, Last}
use Rattle.swift_ast.specs.declared.tree.Binder.TheVariants.{Var}
use Rattle.swift_core.specs.Context as cores
use Rattle.swift_core.specs.Context.{Itself, HasMember, OwnMember}
use Rattle.swift_core.specs.Operators.{property_type}
use Rattle.swift_core.specs.Types.{element_at, named_at}
use Rattle.swift_core.specs.Typing.{Has, Places, Steps, Uses, Invokes, Receives, Arguments}
use Rattle.swift_core.specs.declared.table.Declaration.{Declaration}
use Rattle.swift_core.specs.declared.table.Signature.{Signature}
use Rattle.swift_core.specs.declared.table.SignatureForm.{SignatureForm}
use Rattle.swift_core.specs.declared.table.SignatureForm.TheVariants as form
use Rattle.swift_core.specs.declared.term.Core.{Core, out-Core}
use Rattle.swift_core.specs.declared.term.ChangeCall.TheViews.{outs-Unary, outs-Invoke}
use Rattle.swift_core.specs.declared.term.CoreHop.TheVariants as hop
use Rattle.swift_core.specs.declared.term.ChangeCall.TheViews.{outs-Field}
use Rattle.swift_core.specs.declared.term.ChangeCall.TheViews.{outs-Value}
use Rattle.swift_core.specs.declared.term.Target.{Target}
use Rattle.swift_core.specs.declared.ty.Ty.{Ty, out-Ty, roll-Ty, roll-out-Ty}
use Rattle.swift_core.specs.declared.ty.Ty.TheOpen.{Ty-F}
use Rattle.swift_core.specs.declared.ty.Ty.TheVariants as ty
use Rattle.swift_core.specs.declared.ty.Ty.TheViews as ty_view
use Rattle.type_base.specs.Claims.{and_then, when}
use Rattle.type_base.specs.Names.{IsMember, member_of, member_exact}
use Rattle.post_rules.specs.declared.chained.Chained.{Chained}
use Rattle.post_rules.specs.declared.chained.Chained.TheVariants as chained
use Rattle.post_rules.specs.declared.chained.Method.{Method}
use Rattle.post_rules.specs.Members.{property_named, asking_named, changing_named, member_at, member_in, property_of_text, property_ty, asked_of_list, property_of_list, value_member, value_member_at, place_member_in, place_member_of, changed_at_list, place_member, place_member_at}
use Rattle.post_rules.specs.Places.{read}
use Rattle.post_cores.specs.Reading.{read_good, hop_good}
use Rattle.post_cores.specs.States.{IsGood, good_is, has_by}

bool_is : (t : Ty) → out-Ty t ≡ Ty-F.Bool → t ≡ ty.Bool
bool_is t e = sym (roll-out-Ty t) ∙ ap roll-Ty (e ∙ sym ty_view.outs-Bool) ∙ roll-out-Ty ty.Bool

-- what is so of what is found is so
pub found_so : {A B : Type 0} {o : Option A} {f : A → Option B} {r : B} (P : Type 0) → and_then o f ≡ Some r → ((x : A) → o ≡ Some x → f x ≡ Some r → P) → P
unfolding and_then
found_so {o = None} P e g = cc
found_so {o = Some x} P e g = g x refl e

-- a test that holds
pub when_so : {B : Type 0} (b : Bool) (o : Option B) {r : B} → when b o ≡ Some r → o ≡ Some r
when_so true o e = e
when_so false o e = cc

module _ (cx : cores.Context) (ls : List cores.Local) where
  -- ---- the members of a declaration

  module _ (d m : ℕ) (declaration : Declaration) (s : Signature) (sd : slice_get cx.table.declarations d ≡ Some declaration) (sm : slice_get declaration.members m ≡ Some s) where
    member_at_good : (c : Core) (t : Ty) → Has cx ls (out-Core c) t → named_at (out-Ty t) ≡ Some d → (f : SignatureForm) (r : Chained) → s.form ≡ f → member_at c d m s.code f ≡ Some r → IsGood cx ls r
    member_at_good c t g n (form.Stored at b (Some u) a) r e h = good_is cx ls h (has_by cx ls _ (outs-Unary _ _) (Has.field g n (HasMember.member m sd sm) e))
    member_at_good c t g n (form.Computed (Some u)) r e h =
        good_is cx ls h (has_by cx ls _ (outs-Invoke _) (Has.invoke (Invokes.uses (HasMember.member m sd sm) refl (Uses.computed e) (subst (λ x. Receives cx ls x d) (sym (outs-Value c)) (Receives.value g n)) Arguments.no_arguments)))
    member_at_good c t g n (form.Function ps result false) r e h =
        good_is cx ls h (subst (λ x. Receives cx ls x d) (sym (outs-Value c)) (Receives.value g n), record { signature = s; declaration = declaration; declared = sd; stands = sm; parameters = ps; result = result; is_so = e })
    member_at_good c t g n _ r e h = cc

    place_at_good : (p : Target) (t : Ty) → Places cx ls p t → named_at (out-Ty t) ≡ Some d → (f : SignatureForm) (r : Chained) → s.form ≡ f → place_member_in p d m s.code f ≡ Some r → IsGood cx ls r
    place_at_good p t g n (form.Stored at Var (Some u) a) r e h =
        good_is cx ls h (hop_good cx ls p (hop.Field at) t u g (subst (λ x. Steps cx ls t x u) (sym (outs-Field at)) (Steps.to_field n (HasMember.member m sd sm) e)))
    place_at_good p t g n (form.Function ps result true) r e h =
        good_is cx ls h (t, g, (n, record { signature = s; declaration = declaration; declared = sd; stands = sm; parameters = ps; result = result; is_so = e }))
    place_at_good p t g n f r e h = member_at_good (read p) t (read_good cx ls p t g) n f r e h

  -- ---- properties

  text_good : (c : Core) (t : Ty) → out-Ty t ≡ Ty-F.Text → Has cx ls (out-Core c) t → (p : Property) (r : Chained) → property_of_text c p ≡ Some r → IsGood cx ls r
  text_good c t e g Count r h = good_is cx ls h (has_by cx ls _ (outs-Unary _ _) (Has.property g (ap (property_type Count) e)))
  text_good c t e g IsEmpty r h = good_is cx ls h (has_by cx ls _ (outs-Unary _ _) (Has.property g (ap (property_type IsEmpty) e)))
  text_good c t e g First r h = cc
  text_good c t e g Last r h = cc

  property_is : (t u : Ty) (p : Property) → out-Ty t ≡ Ty-F.List u → property_type p (out-Ty t) ≡ Some (property_ty u p)
  property_is t u Count e = ap (property_type Count) e
  property_is t u IsEmpty e = ap (property_type IsEmpty) e
  property_is t u First e = ap (property_type First) e
  property_is t u Last e = ap (property_type Last) e

  asked_good : (c : Core) (t u : Ty) (w : List ℕ) → out-Ty t ≡ Ty-F.List u → Has cx ls (out-Core c) t → (o : Option Method) (r : Chained) → asked_of_list c u w o ≡ Some r → IsGood cx ls r
  asked_good c t u w e g (Some m) r h = good_is cx ls h (t, g, ap element_at e)
  asked_good c t u w e g None r h = good_is cx ls {s = chained.Indices c} (when_so _ _ h) (t, g, (u, ap element_at e))

  list_good : (c : Core) (t u : Ty) (w : List ℕ) → out-Ty t ≡ Ty-F.List u → Has cx ls (out-Core c) t → (o : Option Property) (r : Chained) → property_of_list c u w o ≡ Some r → IsGood cx ls r
  list_good c t u w e g (Some p) r h = good_is cx ls h (has_by cx ls _ (outs-Unary _ _) (Has.property g (property_is t u p e)))
  list_good c t u w e g None r h = asked_good c t u w e g (asking_named w) r h

  -- ---- values

  named_good : (c : Core) (t : Ty) (d : ℕ) (declaration : Declaration) → Has cx ls (out-Core c) t → named_at (out-Ty t) ≡ Some d → slice_get cx.table.declarations d ≡ Some declaration
      → (w : List ℕ) (o : Option (ℕ × Signature)) (r : Chained) → member_of w declaration ≡ o → member_in c d o ≡ Some r → IsGood cx ls r
  unfolding IsMember
  named_good c t d declaration g n sd w None r e h = cc
  named_good c t d declaration g n sd w (Some m) r e h = member_at_good d m.0 declaration m.1 sd ((member_exact w declaration m).0 e).1 c t g n m.1.form r refl h

  value_at_good : (c : Core) (t : Ty) (w : List ℕ) → Has cx ls (out-Core c) t → (layer : Ty-F Ty) (r : Chained) → out-Ty t ≡ layer → value_member_at cx.table c w layer ≡ Some r → IsGood cx ls r
  value_at_good c t w g (Ty-F.Named d) r e h = found_so (IsGood cx ls r) h (λ declaration sd k. named_good c t d declaration g (ap named_at e) sd w (member_of w declaration) r refl k)
  value_at_good c t w g (Ty-F.List u) r e h = list_good c t u w e g (property_named w) r h
  value_at_good c t w g Ty-F.Text r e h = found_so (IsGood cx ls r) h (λ p sp k. text_good c t e g p r k)
  value_at_good c t w g Ty-F.Int r e h = cc
  value_at_good c t w g Ty-F.Bool r e h = cc
  value_at_good c t w g (Ty-F.Optional u) r e h = cc

  pub value_good : (c : Core) (t : Ty) (w : List ℕ) (r : Chained) → Has cx ls (out-Core c) t → value_member cx.table c t w ≡ Some r → IsGood cx ls r
  unfolding value_member
  value_good c t w r g h = value_at_good c t w g (out-Ty t) r refl h

  -- ---- places

  named_place_good : (p : Target) (t : Ty) (d : ℕ) (declaration : Declaration) → Places cx ls p t → named_at (out-Ty t) ≡ Some d → slice_get cx.table.declarations d ≡ Some declaration
      → (w : List ℕ) (o : Option (ℕ × Signature)) (r : Chained) → member_of w declaration ≡ o → place_member_of p d o ≡ Some r → IsGood cx ls r
  unfolding IsMember
  named_place_good p t d declaration g n sd w None r e h = cc
  named_place_good p t d declaration g n sd w (Some m) r e h = place_at_good d m.0 declaration m.1 sd ((member_exact w declaration m).0 e).1 p t g n m.1.form r refl h

  list_place_good : (p : Target) (t u : Ty) (w : List ℕ) → out-Ty t ≡ Ty-F.List u → Places cx ls p t → (o : Option Method) (r : Chained) → changed_at_list p u w o ≡ Some r → IsGood cx ls r
  list_place_good p t u w e g (Some m) r h = good_is cx ls h (t, g, ap element_at e)
  list_place_good p t u w e g None r h = list_good (read p) t u w e (read_good cx ls p t g) (property_named w) r h

  place_by_layer : (p : Target) (t : Ty) (w : List ℕ) → Places cx ls p t → (layer : Ty-F Ty) (r : Chained) → out-Ty t ≡ layer → place_member_at cx.table p w layer ≡ Some r → IsGood cx ls r
  place_by_layer p t w g (Ty-F.Named d) r e h = found_so (IsGood cx ls r) h (λ declaration sd k. named_place_good p t d declaration g (ap named_at e) sd w (member_of w declaration) r refl k)
  place_by_layer p t w g (Ty-F.List u) r e h = list_place_good p t u w e g (changing_named w) r h
  place_by_layer p t w g Ty-F.Text r e h = found_so (IsGood cx ls r) h (λ q sq k. text_good (read p) t e (read_good cx ls p t g) q r k)
  place_by_layer p t w g Ty-F.Bool r e h = good_is cx ls (when_so _ _ h) (subst (λ (u : Ty). Places cx ls p u) (bool_is t e) g)
  place_by_layer p t w g Ty-F.Int r e h = cc
  place_by_layer p t w g (Ty-F.Optional u) r e h = cc

  pub place_good : (p : Target) (t : Ty) (w : List ℕ) (r : Chained) → Places cx ls p t → place_member cx.table p t w ≡ Some r → IsGood cx ls r
  unfolding place_member
  place_good p t w r g h = place_by_layer p t w g (out-Ty t) r refl h
