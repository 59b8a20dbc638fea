-- Code that gives a value: the types of its locals, and whose frame it may use.
use Rattle.std.specs.Prelude.{option_and_then}
use Rattle.std.proofs.Common.{◌≡◌, ℕ, suc, Bool, true, false, List, [], ◌∷◌, map, Option, Some, None, slice_get, refl, sym, ap, subst, ◌∙◌, arith}
use Rattle.std.proofs.lemmas.Option.{slice_get_within}
use Rattle.identity_path.specs.Cells.{CellMap}
use Rattle.swift_ast.specs.declared.tree.Binder.{Binder}
use Rattle.swift_core.specs.Codes.{Parts as Program, code_in, code_at}
use Rattle.swift_core.specs.Context.{Local, Itself, Context, local_of}
use Rattle.swift_core.specs.Programs.{IsProgram, StandsAt, DefaultStands, Reaches}
use Rattle.swift_core.specs.Typing.{HasPreference, IsMain, HasInitial, FitsSignature, FitsKey, IsTypedAt, is_value, itself_in, itself_in_function}
use Rattle.swift_core.specs.declared.code.Code.{Code}
use Rattle.swift_core.specs.declared.code.CodeForm.{CodeForm}
use Rattle.swift_core.specs.declared.code.CoreMember.{CoreMember}
use Rattle.swift_core.specs.declared.table.Argument.{Argument}
use Rattle.swift_core.specs.declared.table.Kind.{Kind}
use Rattle.swift_core.specs.declared.table.Kind.TheVariants as kind
use Rattle.swift_core.specs.declared.table.MemberPlace.{MemberPlace}
use Rattle.swift_core.specs.declared.table.ParamSignature.{ParamSignature}
use Rattle.swift_core.specs.declared.table.PreferenceKey.{PreferenceKey}
use Rattle.swift_core.specs.declared.table.SignatureForm.{SignatureForm}
use Rattle.swift_core.specs.declared.table.SignatureForm.TheVariants as form
use Rattle.swift_core.specs.declared.table.Table.{Table}
use Rattle.swift_core.specs.declared.ty.Ty.{Ty}
use Rattle.core_means.specs.declared.parts.Frame.{Frame}
use Rattle.value_fits.specs.Cells.{SlotTypes}
use Rattle.world_fits.specs.Codes.{code_is, has_code}
use Rattle.world_fits.specs.Frames.{FrameHas}
use Rattle.world_fits.specs.Lists.{some_same}
use Rattle.world_fits.specs.Runs.{GivesValueWith, IsEvaluated, EvalFits, InputsHave}
use Rattle.frame_tests.specs.Demands.{SomeTypes, view_of, view_is}
use Rattle.code_tests.specs.Homes.{Owned, sign_at, is_default, view_where, itself_of, value_in, or_nowhere, value_view}
use Rattle.code_tests.proofs.Members.{at_there, sign_is, sign_found, default_is, default_found, no_default, typed}

-- ---- the types of the locals

main_types : (m : CoreMember) (ts : List Ty) (f : CodeForm) (c : Code) → IsMain m ts f → m.code ≡ Some c → map local_of c.types ≡ map Local.valued ts
main_types m ts f c (IsMain.main {c = x} has outer kept count types) e = subst (λ (y : Code). map local_of y.types ≡ map Local.valued ts) (some_same x c (sym has ∙ e)) types

initial_types : (cx : Context) (m : CoreMember) (t : Ty) (a : Argument) (c : Code) → HasInitial cx m t a → m.code ≡ Some c → map local_of c.types ≡ []
initial_types cx m t a c (HasInitial.initial_written is begins typed) e = main_types m [] _ c begins e
initial_types cx m t a c (HasInitial.initial_nil is inside none) e = let clash : None ≡ Some c = sym none ∙ e in absurd (cc clash)
initial_types cx m t a c (HasInitial.no_initial is none) e = let clash : None ≡ Some c = sym none ∙ e in absurd (cc clash)

same_types : (ts us : List Ty) → map Some ts ≡ map Some us → ts ≡ us
same_types [] [] e = refl
same_types [] (u ∷ us) e = absurd (cc e)
same_types (t ∷ ts) [] e = absurd (cc e)
same_types (t ∷ ts) (u ∷ us) e =
    let here : Some t ≡ Some u = cc in
    let later : map Some ts ≡ map Some us = cc in
    (λ j. some_same t u here j ∷ same_types ts us later j)

key_types : (table : Table) (k : ℕ) (m : CoreMember) (c : Code) → FitsKey table k m → m.code ≡ Some c → map local_of c.types ≡ []
key_types table k m c (FitsKey.default_value there ty begins typed) e = main_types m [] _ c begins e

-- two types of one preference
one_preference : (table : Table) (n k : ℕ) (t u : Ty) → n ≡ k → HasPreference table n t → HasPreference table k u → t ≡ u
one_preference table n k t u same (HasPreference.key {p = p} there ty) (HasPreference.key {p = q} other also) =
    let one : p ≡ q = some_same p q (sym there ∙ ap (slice_get table.preferences) same ∙ other) in
    some_same t u (sym ty ∙ ap (λ (x : PreferenceKey). x.ty) one ∙ also)

module _ (table : Table) (d : ℕ) (k : Kind) (m : CoreMember) (c : Code) (coded : m.code ≡ Some c) where
  stored_types : (n : ℕ) (b : Binder) (t : Option Ty) (a : Argument) → FitsSignature table d k m (form.Stored n b t a) → map local_of c.types ≡ []
  stored_types n b t a (FitsSignature.stored {t = u} has) = initial_types _ m u a c has coded

  state_types : (n : ℕ) (t : Option Ty) (a : Argument) → FitsSignature table d k m (form.State n t a) → map local_of c.types ≡ []
  state_types n t a (FitsSignature.state {t = u} has) = initial_types _ m u a c has coded

  static_types : (t : Option Ty) → FitsSignature table d k m (form.Static t) → map local_of c.types ≡ []
  static_types t (FitsSignature.static_value {c = f} begins gives) = main_types m [] f c begins coded

  computed_types : (t : Option Ty) → FitsSignature table d k m (form.Computed t) → map local_of c.types ≡ []
  computed_types t (FitsSignature.computed_value {c = f} begins gives) = main_types m [] f c begins coded

  function_types : (ps : List ParamSignature) (result : Option Ty) (mutating : Bool) (ts : List Ty) → map (λ (p : ParamSignature). p.ty) ps ≡ map Some ts → FitsSignature table d k m (form.Function ps result mutating)
      → map local_of c.types ≡ map Local.valued ts
  function_types ps result mutating ts params (FitsSignature.function_body {ts = us} {c = f} own begins gives) =
      main_types m us f c begins coded ∙ ap (map Local.valued) (same_types us ts (sym own ∙ params))

  reduce_types : (n : ℕ) (t : Ty) → k ≡ kind.Key n → HasPreference table n t → FitsSignature table d k m form.Reduce → map local_of c.types ≡ map Local.valued (t ∷ t ∷ [])
  reduce_types n t is has (FitsSignature.reduce {n = i} {t = u} own prefers begins typed) =
      let both : kind.Key i ≡ kind.Key n = sym own ∙ is in
      let same : i ≡ n = cc in
      main_types m (u ∷ u ∷ []) _ c begins coded ∙ ap (λ (x : Ty). Local.valued x ∷ Local.valued x ∷ []) (one_preference table i n u t same prefers has)

  given_types : (f : SignatureForm) (own : Itself) (ts : List Ty) → GivesValueWith table k f own ts → FitsSignature table d k m f → map local_of c.types ≡ map Local.valued ts
  given_types f own ts (GivesValueWith.initial_of_stored {n = n} {b = b} {t = t} {a = a}) fits = stored_types n b t a fits
  given_types f own ts (GivesValueWith.initial_of_state {n = n} {t = t} {a = a}) fits = state_types n t a fits
  given_types f own ts (GivesValueWith.of_static {t = t}) fits = static_types t fits
  given_types f own ts (GivesValueWith.of_computed {t = t}) fits = computed_types t fits
  given_types f own ts (GivesValueWith.of_function {ps = ps} {t = t} {mutating = mutating} {ts = us} params) fits = function_types ps (Some t) mutating us params fits
  given_types f own ts (GivesValueWith.of_reduce {n = n} {t = t} is has) fits = reduce_types n t is has fits

-- ---- what `self` is

pub record Gives (table : Table) (k : Kind) (f : SignatureForm) (own : Itself) : Type 0 where
  pub parameters : List Ty
  pub gives : GivesValueWith table k f own parameters

function_gives : (table : Table) (d : ℕ) (k : Kind) (m : CoreMember) (ps : List ParamSignature) (t : Ty) (mutating : Bool) → FitsSignature table d k m (form.Function ps (Some t) mutating)
    → Gives table k (form.Function ps (Some t) mutating) (itself_in_function mutating k)
function_gives table d k m ps t mutating (FitsSignature.function_body {ts = ts} own begins gives) = record { parameters = ts; gives = GivesValueWith.of_function own }

reduce_gives : (table : Table) (d : ℕ) (k : Kind) (m : CoreMember) → FitsSignature table d k m form.Reduce → Gives table k form.Reduce Itself.no_self
reduce_gives table d k m (FitsSignature.reduce {n = n} {t = t} own prefers begins typed) = record { parameters = t ∷ t ∷ []; gives = GivesValueWith.of_reduce own prefers }

gives_value : (table : Table) (d : ℕ) (k : Kind) (m : CoreMember) (f : SignatureForm) (own : Itself) → FitsSignature table d k m f → itself_of k f ≡ Some own → Gives table k f own
gives_value table d k m (form.Stored n b t a) own fits e = subst (Gives table k (form.Stored n b t a)) (some_same Itself.no_self own e) (record { parameters = []; gives = GivesValueWith.initial_of_stored })
gives_value table d k m (form.State n t a) own fits e = subst (Gives table k (form.State n t a)) (some_same Itself.no_self own e) (record { parameters = []; gives = GivesValueWith.initial_of_state })
gives_value table d k m (form.Static t) own fits e = subst (Gives table k (form.Static t)) (some_same Itself.no_self own e) (record { parameters = []; gives = GivesValueWith.of_static })
gives_value table d k m (form.Computed t) own fits e = subst (Gives table k (form.Computed t)) (some_same (itself_in k) own e) (record { parameters = []; gives = GivesValueWith.of_computed })
gives_value table d k m (form.Function ps (Some t) mutating) own fits e =
    subst (Gives table k (form.Function ps (Some t) mutating)) (some_same (itself_in_function mutating k) own e) (function_gives table d k m ps t mutating fits)
gives_value table d k m form.Reduce own fits e = subst (Gives table k form.Reduce) (some_same Itself.no_self own e) (reduce_gives table d k m fits)
gives_value table d k m f own fits e = absurd (cc e)

self_given : (table : Table) (k : Kind) (f : SignatureForm) (own : Itself) (ts : List Ty) → GivesValueWith table k f own ts → itself_of k f ≡ Some own
self_given table k f own ts GivesValueWith.initial_of_stored = refl
self_given table k f own ts GivesValueWith.initial_of_state = refl
self_given table k f own ts GivesValueWith.of_static = refl
self_given table k f own ts GivesValueWith.of_computed = refl
self_given table k f own ts (GivesValueWith.of_function params) = refl
self_given table k f own ts (GivesValueWith.of_reduce is has) = refl

-- ---- whose frame

pub where_view : (d : ℕ) (i : Itself) → is_value i ≡ false → view_where d i ≡ Some (view_of i (Some d))
where_view d Itself.no_self plain = refl
where_view d Itself.a_view plain = refl
where_view d Itself.a_value plain = absurd (cc plain)
where_view d Itself.a_changed_value plain = absurd (cc plain)

pub record Where (d : ℕ) (i : Itself) (view : Option ℕ) : Type 0 where
  pub no_value : is_value i ≡ false
  pub is_view : view_of i (Some d) ≡ view

pub where_is : (d : ℕ) (i : Itself) (view : Option ℕ) → view_where d i ≡ Some view → Where d i view
where_is d Itself.no_self view e = record { no_value = refl; is_view = some_same None view e }
where_is d Itself.a_view view e = record { no_value = refl; is_view = some_same (Some d) view e }
where_is d Itself.a_value view e = absurd (cc e)
where_is d Itself.a_changed_value view e = absurd (cc e)

-- ---- the default of a key

typed_key : (table : Table) (m : CoreMember) (place : MemberPlace) → IsTypedAt table m place → place.declaration ≡ None → FitsKey table place.at m
typed_key table m place (IsTypedAt.typed_key own key) none = key
typed_key table m place (IsTypedAt.typed_member {d = d} owner is member stand fits) none = let clash : Some d ≡ None = sym owner ∙ none in absurd (cc clash)

-- code that gives a value, and may use this frame
pub record Value (p : Program) (n : ℕ) (view : Option ℕ) : Type 0 where
  pub itself : Itself
  pub owner : Option ℕ
  pub parameters : List Ty
  pub gives : IsEvaluated p.table n itself owner parameters
  pub no_value : is_value itself ≡ false
  pub is_view : view_of itself owner ≡ view

module _ (p : Program) (program : IsProgram p.table p.members) where
  own_key_types : (k : ℕ) (o : Option ℕ) (i : ℕ) → StandsAt p.table k o i → (n : ℕ) (c : Code) → k ≡ n → o ≡ None → code_at p n ≡ Some c → map local_of c.types ≡ []
  own_key_types k o i (StandsAt.stands_at {i = j} {place = place} e) n c is none coded =
      let m = has_code p.table p.members program j (slice_get_within p.table.members j place e) in
      key_types p.table place.at m.0 c (typed_key p.table m.0 place (program.typed j place m.0 e m.1) none)
      (sym (code_is p.members (suc j) m.0 m.1) ∙ ap (code_in p.members) is ∙ coded)

  key_code_types : (m k : ℕ) → DefaultStands p.table m k → (n : ℕ) (c : Code) → m ≡ n → code_at p n ≡ Some c → map local_of c.types ≡ []
  key_code_types m k DefaultStands.built_in_default n c is coded =
      let first = at_there p.members 0 (omega (arith, program.complete)) in
      key_types p.table 0 first.0 c (program.built_in_typed first.0 first.1) (sym (code_is p.members 0 first.0 first.1) ∙ ap (code_in p.members) is ∙ coded)
  key_code_types m k (DefaultStands.own_default {k = i} at) n c is coded = own_key_types m None (suc i) at n c is refl coded

  -- ---- what is evaluated

  pub types_given : (n : ℕ) (own : Itself) (owner : Option ℕ) (ts : List Ty) (c : Code) → IsEvaluated p.table n own owner ts → code_at p n ≡ Some c → map local_of c.types ≡ map Local.valued ts
  types_given n own owner ts c (IsEvaluated.default_of_key k {key = key} there number) coded = key_code_types key.default.number k (program.key_codes k key there) n c number coded
  types_given n own owner ts c (IsEvaluated.code_of_member {d = d} {s = s} {declaration = declaration} declared has number gives) coded =
      let m = typed p.table p.members program d declaration s declared has in
      given_types p.table d declaration.kind m.member c (sym (code_is p.members s.code.number m.member m.there) ∙ ap (code_in p.members) number ∙ coded) s.form own ts gives m.fits

  pub view_found : (n : ℕ) (own : Itself) (owner : Option ℕ) (ts : List Ty) → IsEvaluated p.table n own owner ts → is_value own ≡ false → value_view p.table n ≡ Some (view_of own owner)
  unfolding value_view
  view_found n own owner ts (IsEvaluated.default_of_key k {key = key} there number) plain =
      ap (λ (b : Bool). or_nowhere b (value_in (sign_at p.table n))) (default_found p.table p.members program k key n there number)
  view_found n own owner ts (IsEvaluated.code_of_member {d = d} {s = s} {declaration = declaration} declared has number gives) plain =
      ap (λ (b : Bool). or_nowhere b (value_in (sign_at p.table n))) (no_default p.table p.members program d s n has number)
      ∙ ap value_in (sign_found p.table p.members program d declaration s n declared has number)
      ∙ ap (option_and_then (view_where d)) (self_given p.table declaration.kind s.form own ts gives) ∙ where_view d own plain

  of_self : (n : ℕ) (view : Option ℕ) (x : Owned) → sign_at p.table n ≡ Some x → (o : Option Itself) → itself_of x.declaration.kind x.sign.form ≡ o → option_and_then (view_where x.owner) o ≡ Some view → Value p n view
  of_self n view x at None is e = absurd (cc e)
  of_self n view x at (Some i) is e =
      let st = sign_is p.table n x at in
      let m = typed p.table p.members program x.owner x.declaration x.sign st.declared st.has in
      let g = gives_value p.table x.owner x.declaration.kind m.member x.sign.form i m.fits is in
      let w = where_is x.owner i view e in
      record { itself = i; owner = Some x.owner; parameters = g.parameters; gives = IsEvaluated.code_of_member st.declared st.has st.number g.gives; no_value = w.no_value; is_view = w.is_view }

  of_sign : (n : ℕ) (view : Option ℕ) (o : Option Owned) → sign_at p.table n ≡ o → value_in o ≡ Some view → Value p n view
  of_sign n view None at e = absurd (cc e)
  of_sign n view (Some x) at e = of_self n view x at (itself_of x.declaration.kind x.sign.form) refl e

  of_default : (n : ℕ) (view : Option ℕ) (b : Bool) → is_default p.table n ≡ b → or_nowhere b (value_in (sign_at p.table n)) ≡ Some view → Value p n view
  of_default n view true is e =
      let default = default_is p.table p.members program n is in
      record { itself = Itself.no_self; owner = None; parameters = []; gives = IsEvaluated.default_of_key default.key default.there default.number; no_value = refl; is_view = some_same None view e }
  of_default n view false is e = of_sign n view (sign_at p.table n) refl e

  pub value_is : (n : ℕ) (view : Option ℕ) → value_view p.table n ≡ Some view → Value p n view
  unfolding value_view
  value_is n view e = of_default n view (is_default p.table n) refl e

  -- ---- the condition

  -- the frame of this view
  abbrev ViewTypes : SlotTypes → Frame → Option ℕ → Type 0
  ViewTypes types frame view = (d : ℕ) → view ≡ Some d → FrameHas p.table types d frame

  pub of_types : (n : ℕ) (frame : Frame) (cells : CellMap) (code : Code) (view : Option ℕ) → code_at p n ≡ Some code → (Reaches p.members n → ⊥) → value_view p.table n ≡ Some view
      → SomeTypes p.table cells view frame (map local_of code.types) → EvalFits p n frame cells
  of_types n frame cells code view coded quiet at (SomeTypes.some_types types has) =
      let v = value_is n view at in
      record {
        code = code;
        there = coded;
        itself = v.itself;
        owner = v.owner;
        parameters = v.parameters;
        gives = v.gives;
        no_value = v.no_value;
        no_write = quiet;
        types = types;
        cells_fit = has.cells_fit;
        view_has = (view_is p.table types v.itself v.owner frame).1 (subst (ViewTypes types frame) (sym v.is_view) has.frame_has);
        locals_have = subst (λ (ls : List Local). InputsHave p.table types ls frame.locals) (types_given n v.itself v.owner v.parameters code v.gives coded) has.locals_have;
      }

  pub to_types : (n : ℕ) (frame : Frame) (cells : CellMap) (code : Code) (view : Option ℕ) → code_at p n ≡ Some code → value_view p.table n ≡ Some view → EvalFits p n frame cells
      → SomeTypes p.table cells view frame (map local_of code.types)
  to_types n frame cells code view coded at f =
      let same : view_of f.itself f.owner ≡ view = some_same (view_of f.itself f.owner) view (sym (view_found n f.itself f.owner f.parameters f.gives f.no_value) ∙ at) in
      SomeTypes.some_types f.types (record {
        cells_fit = f.cells_fit;
        frame_has = subst (ViewTypes f.types frame) same ((view_is p.table f.types f.itself f.owner frame).0 f.view_has);
        locals_have = subst (λ (ls : List Local). InputsHave p.table f.types ls frame.locals) (sym (types_given n f.itself f.owner f.parameters code f.gives coded)) f.locals_have;
      })
