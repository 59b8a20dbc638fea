-- Data structs that are made by their initialisers.
use Rattle.std.specs.Prelude.{◌≡◌, ℕ, zero, suc, Bool, true, false, List, [], ◌∷◌, ◌++◌, map, Option, Some, None, slice_get, ⊤}
use Rattle.std.specs.List.{cons_option}
use Rattle.std.proofs.Common.{refl, sym, ap, subst, ◌∙◌}
use Rattle.sv_value.specs.declared.value.Value.{Value}
use Rattle.sv_value.specs.declared.value.Value.TheVariants as whole
use Rattle.swift_ast.specs.declared.tree.Binder.{Binder}
use Rattle.swift_core.specs.Context.{Local, HasMember, Part, stored_at, inputs_of, parts_of, initial_of}
use Rattle.swift_core.specs.Mentions.{joined, filling_mentions}
use Rattle.swift_core.specs.Typing.{Fillings, Fills, FillingForm, FitsSignature, stands_in}
use Rattle.swift_core.specs.Values.{FieldsHaveValue}
use Rattle.swift_core.specs.declared.ids.CodeId.{CodeId}
use Rattle.swift_core.specs.declared.table.Declaration.{Declaration}
use Rattle.swift_core.specs.declared.table.Initial.TheVariants as initial_form
use Rattle.swift_core.specs.declared.table.Kind.{Kind}
use Rattle.swift_core.specs.declared.table.Kind.TheVariants as kind
use Rattle.swift_core.specs.declared.table.Signature.{Signature}
use Rattle.swift_core.specs.declared.table.SignatureForm.{SignatureForm}
use Rattle.swift_core.specs.declared.table.SignatureForm.TheVariants as form
use Rattle.swift_core.specs.declared.table.Table.{Table}
use Rattle.swift_core.specs.declared.term.ChangeCall.TheOpen.{Filling-F}
use Rattle.swift_core.specs.declared.term.Filling.{Filling, out-Filling}
use Rattle.swift_core.specs.declared.ty.Ty.{Ty}
use Rattle.swift_core.specs.declared.ty.Ty.TheVariants as ty
use Rattle.value_calls.specs.Made.{made}
use Rattle.core_means.specs.Asks.{◌>>=◌, give, answered}
use Rattle.core_means.specs.Means.{Inside, initial, argument_at, argument, arguments_from, filled_at, filled, fields_from, construction}
use Rattle.world_fits.specs.Cells.{standing}
use Rattle.world_fits.specs.Codes.{Member, member_of}
use Rattle.world_fits.specs.Laws.{Known}
use Rattle.world_fits.specs.Lists.{Each, each_front, each_back, append_none, append_twice}
use Rattle.world_fits.specs.Sites.{Site, Scope, context, ValueHas, Allowed}
use Rattle.form_rights.specs.Callees.{initial_of_stored}
use Rattle.form_rights.specs.Calls.{constant_good}
use Rattle.form_rights.specs.Good.{Good, good_then, good_give, good_answered, good_weaker}
use Rattle.form_rights.specs.Inside.{MayDo, Rights}
use Rattle.form_rights.specs.Mentions.{filling_layer, filling_is}

-- what is filled is a stored property of the declaration
pub record IsStored (table : Table) (d : ℕ) (p : Part) : Type 0 where
  pub place : ℕ
  pub binder : Binder
  pub sign : Signature
  pub member : HasMember table d sign
  pub form : sign.form ≡ form.Stored place binder p.ty p.argument
  pub code : sign.code ≡ p.code
  pub no_binding : p.is_binding ≡ false

stored_part : (table : Table) (d : ℕ) (b : Bool) (s : Signature) (f : SignatureForm) → s.form ≡ f → HasMember table d s → stands_in (kind.Data b) f ≡ true → (rest : List Part) → Each (IsStored table d) rest
    → Each (IsStored table d) (cons_option (stored_at s.code f) rest)
stored_part table d b s (form.Stored n binder t a) is has stands rest h = (record { place = n; binder = binder; sign = s; member = has; form = is; code = refl; no_binding = refl }, h)
stored_part table d b s (form.Binding n t) is has stands rest h = cc
stored_part table d b s (form.State n t a) is has stands rest h = h
stored_part table d b s (form.Environment n) is has stands rest h = h
stored_part table d b s (form.Static t) is has stands rest h = h
stored_part table d b s (form.Case n) is has stands rest h = h
stored_part table d b s (form.Computed t) is has stands rest h = h
stored_part table d b s (form.Function ps t m) is has stands rest h = h
stored_part table d b s form.BuilderProperty is has stands rest h = h
stored_part table d b s (form.BuilderFunction ps) is has stands rest h = h
stored_part table d b s form.Reduce is has stands rest h = h
stored_part table d b s form.Unfit is has stands rest h = h

stored_parts : (table : Table) (d : ℕ) (b : Bool) (ms : List Signature) → ((at : ℕ) (s : Signature) → slice_get ms at ≡ Some s → HasMember table d s × (stands_in (kind.Data b) s.form ≡ true))
    → Each (IsStored table d) (inputs_of ms)
stored_parts table d b [] h = tt
stored_parts table d b (s ∷ ms) h =
    let here = h zero s refl in
    stored_part table d b s s.form refl here.0 here.1 (inputs_of ms) (stored_parts table d b ms (λ at r e. h (suc at) r e))

module _ (site : Site) (known : Known site) (i : Inside) (r : Rights site i) (sc : Scope) (locals : List Local) where
  -- what fills a part: an argument of its type, or nothing where it has an initial value
  abbrev ArgumentHas : FillingForm → Part → Option Value → Type 0
  ArgumentHas (Filling-F.Given c) p (Some v) = (t : Ty) × (p.ty ≡ Some t) × ValueHas site t v
  ArgumentHas (Filling-F.Given c) p None = ⊥
  ArgumentHas (Filling-F.Place t) p o = ⊥
  ArgumentHas (Filling-F.Initial id) p None = ⊤
  ArgumentHas (Filling-F.Initial id) p (Some v) = ⊥
  ArgumentHas Filling-F.Nil p None = ⊤
  ArgumentHas Filling-F.Nil p (Some v) = ⊥

  abbrev ArgumentsHave : List Filling → List Part → List (Option Value) → Type 0
  ArgumentsHave [] [] [] = ⊤
  ArgumentsHave (f ∷ fs) (p ∷ ps) (o ∷ os) = ArgumentHas (out-Filling f) p o × ArgumentsHave fs ps os
  ArgumentsHave fs ps os = ⊥

  argument_good : (layer : FillingForm) (p : Part) → p.is_binding ≡ false → Fills (context site sc) locals layer p → MayDo site sc (filling_layer layer) → Good site sc locals (ArgumentHas layer p) (argument_at i layer)
  argument_good layer p is (Fills.given {c = c} {t = t} plain typed h) may =
      good_then site sc locals _ (i.eval c) (λ v. give (Some v)) (r.eval sc locals c t h may) (λ v k. good_give site sc locals _ (Some v) (t, typed, k))
  argument_good layer p is (Fills.place binding typed h) may = absurd (cc (is, binding))
  argument_good layer p is (Fills.written w code) may = good_give site sc locals _ None tt
  argument_good layer p is (Fills.without w typed inside) may = good_give site sc locals _ None tt

  arguments_good : (d : ℕ) (fs : List Filling) (ps : List Part) (so_far : List (Option Value)) → Each (IsStored site.program.table d) ps → Fillings (context site sc) locals fs ps → MayDo site sc (joined (map filling_mentions fs))
      → Good site sc locals (λ os. (more : List (Option Value)) × (os ≡ so_far ++ more) × ArgumentsHave fs ps more) (arguments_from i so_far fs)
  unfolding arguments_from argument
  arguments_good d fs ps so_far stored (Fillings.no_fillings) may = good_give site sc locals _ so_far ([], sym (append_none so_far), tt)
  arguments_good d fs' ps' so_far stored (Fillings.more_fillings {f = f} {fs = fs} {p = p} {ps = ps} h more) may =
      good_then site sc locals _ (argument_at i (out-Filling f)) (λ o. arguments_from i (so_far ++ o ∷ []) fs)
      (argument_good (out-Filling f) p stored.0.no_binding h (subst (MayDo site sc) (filling_is f) (each_front (Allowed site sc) (filling_mentions f) (joined (map filling_mentions fs)) may)))
      (λ o k. good_weaker site sc locals (arguments_from i (so_far ++ o ∷ []) fs) (arguments_good d fs ps (so_far ++ o ∷ []) stored.1 more (each_back (Allowed site sc) (filling_mentions f) (joined (map filling_mentions fs)) may))
      (λ os e. (o ∷ e.0, e.1 ∙ append_twice so_far (o ∷ []) e.0, (k, e.2))))

  abbrev PartHas : Part → Value → Type 0
  PartHas p v = (t : Ty) × (p.ty ≡ Some t) × ValueHas site t v

  -- the initial value of a stored property
  initial_good : (d : ℕ) (p : Part) (id : CodeId) → IsStored site.program.table d p → initial_of p.argument ≡ Some initial_form.Written → p.code ≡ id → Good site sc locals (PartHas p) (initial i id.number)
  initial_good d p id s written code = go p.ty refl
    where
      m : Member site.program.table site.program.members d s.sign
      m = member_of site.program.table site.program.members known.program d s.sign s.member

      go : (o : Option Ty) → p.ty ≡ o → Good site sc locals (PartHas p) (initial i id.number)
      go None e = absurd (no_type (subst (FitsSignature site.program.table d m.declaration.kind m.member) (s.form ∙ ap (λ (o : Option Ty). form.Stored s.place s.binder o p.argument) e) m.fits))
        where
          no_type : FitsSignature site.program.table d m.declaration.kind m.member (form.Stored s.place s.binder None p.argument) → ⊥
          no_type h = elim h [ ]
      go (Some t) e =
          good_weaker site sc locals (initial i id.number)
          (subst (λ (x : CodeId). Good site sc locals (ValueHas site t) (initial i x.number)) (s.code ∙ code)
          (constant_good site i r known sc locals d s.sign.code.number m.declaration.kind m.member t
          (initial_of_stored site.program.table d m.declaration.kind m.member s.place s.binder t p.argument written
          (subst (FitsSignature site.program.table d m.declaration.kind m.member) (s.form ∙ ap (λ (o : Option Ty). form.Stored s.place s.binder o p.argument) e) m.fits)) m.there))
          (λ v k. (t, e, k))

  filled_good : (d : ℕ) (layer : FillingForm) (p : Part) (o : Option Value) → IsStored site.program.table d p → Fills (context site sc) locals layer p → ArgumentHas layer p o → Good site sc locals (PartHas p) (filled_at i layer o)
  filled_good d layer p None s (Fills.given plain typed h) k = absurd k
  filled_good d layer p (Some v) s (Fills.given plain typed h) k = good_give site sc locals _ v k
  filled_good d layer p o s (Fills.place binding typed h) k = absurd k
  filled_good d layer p None s (Fills.written {id = id} w code) k = initial_good d p id s w code
  filled_good d layer p (Some v) s (Fills.written w code) k = absurd k
  filled_good d layer p None s (Fills.without {o = o} {t = t} w typed inside) k = good_give site sc locals _ (whole.Opt None) (o, typed, (known.laws.plain site.program.table).nils o t inside)
  filled_good d layer p (Some v) s (Fills.without w typed inside) k = absurd k

  fields_good : (d : ℕ) (fs : List Filling) (ps : List Part) (os : List (Option Value)) (so_far : List Value) → Each (IsStored site.program.table d) ps → Fillings (context site sc) locals fs ps → ArgumentsHave fs ps os
      → Good site sc locals (λ vs. (more : List Value) × (vs ≡ so_far ++ more) × FieldsHaveValue site.program.table ps more) (fields_from i so_far fs os)
  unfolding fields_from filled
  fields_good d fs ps [] so_far stored (Fillings.no_fillings) h = good_give site sc locals _ so_far ([], sym (append_none so_far), FieldsHaveValue.no_fields)
  fields_good d fs ps (o ∷ os) so_far stored (Fillings.no_fillings) h = absurd h
  fields_good d fs' ps' [] so_far stored (Fillings.more_fillings k more) h = absurd h
  fields_good d fs' ps' (o ∷ os) so_far stored (Fillings.more_fillings {f = f} {fs = fs} {p = p} {ps = ps} k more) h =
      good_then site sc locals _ (filled_at i (out-Filling f) o) (λ v. fields_from i (so_far ++ v ∷ []) fs os) (filled_good d (out-Filling f) p o stored.0 k h.0)
      (λ v x. good_weaker site sc locals (fields_from i (so_far ++ v ∷ []) fs os) (fields_good d fs ps os (so_far ++ v ∷ []) stored.1 more h.1)
      (λ vs e. (v ∷ e.0, e.1 ∙ append_twice so_far (v ∷ []) e.0, FieldsHaveValue.more_fields x.1 x.2 e.2)))

  pub construction_good : (d : ℕ) (fs : List Filling) (b : Bool) (declaration : Declaration) → slice_get site.program.table.declarations d ≡ Some declaration → declaration.kind ≡ kind.Data b
      → Fillings (context site sc) locals fs (parts_of declaration.members) → MayDo site sc (joined (map filling_mentions fs)) → Good site sc locals (ValueHas site (ty.Named d)) (construction i d fs)
  unfolding construction
  construction_good d fs b declaration declared is fills may =
      let table = site.program.table in
      let parts = known.laws.data_parts table (standing site known) d declaration b declared is in
      let fills' = subst (Fillings (context site sc) locals fs) parts.0 fills in
      let stored = stored_parts table d b declaration.members (λ at s e. (HasMember.member at declared e, subst (λ (k : Kind). stands_in k s.form ≡ true) is ((standing site known).members d at declaration s declared e))) in
      good_then site sc locals _ (arguments_from i [] fs) (λ os. fields_from i [] fs os >>= λ vs. answered (made (whole.Struct d vs))) (arguments_good d fs (inputs_of declaration.members) [] stored fills' may)
      (λ os e. good_then site sc locals _ (fields_from i [] fs os) (λ vs. answered (made (whole.Struct d vs)))
      (fields_good d fs (inputs_of declaration.members) os [] stored fills' (subst (ArgumentsHave fs (inputs_of declaration.members)) (sym e.1) e.2))
      (λ vs k. good_answered site sc locals _ (made (whole.Struct d vs)) (known.laws.struct_made table d declaration b vs declared is (subst (FieldsHaveValue table (inputs_of declaration.members)) (sym k.1) k.2))))
