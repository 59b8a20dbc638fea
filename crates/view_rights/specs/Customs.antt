-- The use of a custom view: what fills its stored properties, its bindings and its state slots.
use Rattle.std.specs.Prelude.{◌≡◌, ℕ, zero, suc, Bool, true, false, List, [], ◌∷◌, ◌++◌, map, Option, Some, None, slice_get, ⊤}
use Rattle.std.specs.List.{flat_map, cons_option}
use Rattle.std.proofs.Common.{refl, sym, ap, subst, ◌∙◌}
use Rattle.identity_path.specs.declared.input.Input.{Input}
use Rattle.identity_path.specs.declared.input.Input.TheVariants as input
use Rattle.sv_value.specs.declared.value.Value.TheVariants as value_form
use Rattle.swift_ast.specs.declared.tree.Binder.{Binder}
use Rattle.swift_core.specs.Context.{Local, Itself, Part, HasMember, part_at, parts_of, initial_of, stored_at, slot_at, slots_of, inputs_of}
use Rattle.swift_core.specs.Mentions.{joined, filling_mentions}
use Rattle.swift_core.specs.Typing.{Fills, Fillings, FillingForm, FitsSignature, HasInitial, GivesValue}
use Rattle.swift_core.specs.declared.code.CoreMember.{CoreMember}
use Rattle.swift_core.specs.declared.ids.CodeId.{CodeId}
use Rattle.swift_core.specs.declared.table.Argument.{Argument}
use Rattle.swift_core.specs.declared.table.Declaration.{Declaration}
use Rattle.swift_core.specs.declared.table.Initial.TheVariants as initial_form
use Rattle.swift_core.specs.declared.table.Kind.{Kind}
use Rattle.swift_core.specs.declared.table.Kind.TheVariants as kind
use Rattle.swift_core.specs.declared.table.Signature.{Signature}
use Rattle.swift_core.specs.declared.table.SignatureForm.{SignatureForm}
use Rattle.swift_core.specs.declared.table.SignatureForm.TheVariants as form
use Rattle.swift_core.specs.declared.table.Table.{Table}
use Rattle.swift_core.specs.declared.term.ChangeCall.TheOpen.{Filling-F}
use Rattle.swift_core.specs.declared.term.Filling.{Filling, out-Filling}
use Rattle.swift_core.specs.declared.ty.Ty.{Ty}
use Rattle.core_means.specs.Asks.{◌>>=◌, give, found}
use Rattle.core_means.specs.Means.{inner, initial, means}
use Rattle.view_nodes.specs.declared.node.Custom.{Custom}
use Rattle.body_means.specs.Building.{place_of}
use Rattle.body_means.specs.Customs.{slot_kind, slot_kinds, Filled, parted_from, body_of, custom_with, custom_of, argument_at, argument, arguments_from, filled_at, filled, filled_from, fillings, custom_node, custom_view}
use Rattle.body_means.specs.Elements.{custom}
use Rattle.body_means.specs.Items.{building}
use Rattle.world_fits.specs.Codes.{Member, member_of}
use Rattle.world_fits.specs.Laws.{Known}
use Rattle.world_fits.specs.Lists.{Each, each_front, each_back, append_none, append_twice, some_same}
use Rattle.world_fits.specs.Sites.{Site, Scope, context, ValueHas, Holds}
use Rattle.form_rights.specs.Blocks.{joined_map}
use Rattle.form_rights.specs.Callees.{Constant, main_of, member_context, initial_of_stored}
use Rattle.form_rights.specs.Calls.{constant_good}
use Rattle.form_rights.specs.Mentions as mentions
use Rattle.meaning_rights.specs.Laws.{terms_have_meanings}
use Rattle.swift_core.specs.Alters.{all_of, filling_alters}
use Rattle.reader_locals.specs.AlterLayers as alters
use Rattle.reader_locals.specs.AlterLayers.{From, Beyond, flat_all}
use Rattle.reader_locals.specs.Statements.{runs_calm, terms_calm}
use Rattle.reader_locals.specs.Terms.{initial_calm}
use Rattle.body_terms.specs.Homes.{Permitted, Permits}
use Rattle.body_terms.specs.Nodes.{Makes, custom_safe, Fine}
use Rattle.body_terms.specs.Safe.{safe_of, safe_then, safe_give, safe_found, safe_weaker}
use Rattle.body_terms.specs.Terms.{Safely, eval_safe, place_safe}
use Rattle.body_terms.specs.Gives.{PartHas, PartsHave, part_local}
use Rattle.sv_value.specs.declared.value.Value.{Value}

-- Each view has a body.
abbrev pub ViewsHaveBodies : Table → Type 0
ViewsHaveBodies table = (d : ℕ) (declaration : Declaration) → slice_get table.declarations d ≡ Some declaration → declaration.kind ≡ kind.View → (code : CodeId) × (body_of declaration ≡ Some code)

-- ---- what an initialiser fills

-- a stored property, a binding or a state slot of the declaration
pub record IsPart (table : Table) (d : ℕ) (p : Part) : Type 0 where
  pub sign : Signature
  pub member : HasMember table d sign
  pub is : part_at sign.code sign.form ≡ Some p

one_part : (table : Table) (d : ℕ) (s : Signature) (o : Option Part) → part_at s.code s.form ≡ o → HasMember table d s → (rest : List Part) → Each (IsPart table d) rest → Each (IsPart table d) (cons_option o rest)
one_part table d s None e has rest h = h
one_part table d s (Some p) e has rest h = (record { sign = s; member = has; is = e }, h)

parts_stand : (table : Table) (d : ℕ) (ms : List Signature) → ((at : ℕ) (s : Signature) → slice_get ms at ≡ Some s → HasMember table d s) → Each (IsPart table d) (parts_of ms)
parts_stand table d [] h = tt
parts_stand table d (s ∷ ms) h = one_part table d s (part_at s.code s.form) refl (h zero s refl) (parts_of ms) (parts_stand table d ms (λ at r e. h (suc at) r e))

-- the initial value of a property or of a slot
initial_value : (table : Table) (d : ℕ) (k : Kind) (m : CoreMember) (t : Ty) (a : Argument) → initial_of a ≡ Some initial_form.Written → HasInitial (member_context table d Itself.no_self m) m t a → Constant table d k m t
initial_value table d k m t a e (HasInitial.initial_written w begins h) = record { of = _; main = main_of m [] _ begins; gives = GivesValue.by_term h }
initial_value table d k m t a e (HasInitial.initial_nil w i none) = absurd (cc (e, w))
initial_value table d k m t a e (HasInitial.no_initial w none) = absurd (cc (e, w))

module _ (site : Site) where
  abbrev pub HasPart : Part → Input → Type 0
  HasPart = PartHas site.program.table site.types

  abbrev pub HaveParts : List Part → List Input → Type 0
  HaveParts = PartsHave site.program.table site.types

  -- what was added to the inputs and to the initial values, for these parts
  pub record Parted (stored slots : List Part) (so_far r : Filled) : Type 0 where
    pub inputs : List Input
    pub more_inputs : r.inputs ≡ so_far.inputs ++ inputs
    pub inputs_have : HaveParts stored inputs
    pub initials : List Value
    pub more_initials : r.initials ≡ so_far.initials ++ initials
    pub initials_have : HaveParts slots (map input.Value initials)

  add_input : (stored slots : List Part) (p : Part) (so_far r : Filled) (x : Input) → HasPart p x → Parted stored slots (record so_far { inputs = so_far.inputs ++ x ∷ [] }) r → Parted (p ∷ stored) slots so_far r
  add_input stored slots p so_far r x h parted = record {
    inputs = x ∷ parted.inputs;
    more_inputs = parted.more_inputs ∙ append_twice so_far.inputs (x ∷ []) parted.inputs;
    inputs_have = (h, parted.inputs_have);
    initials = parted.initials;
    more_initials = parted.more_initials;
    initials_have = parted.initials_have;
  }

  add_slot : (stored slots : List Part) (p : Part) (so_far r : Filled) (v : Value) → HasPart p (input.Value v) → Parted stored slots (record so_far { initials = so_far.initials ++ v ∷ [] }) r → Parted stored (p ∷ slots) so_far r
  add_slot stored slots p so_far r v h parted = record {
    inputs = parted.inputs;
    more_inputs = parted.more_inputs;
    inputs_have = parted.inputs_have;
    initials = v ∷ parted.initials;
    more_initials = parted.more_initials ∙ append_twice so_far.initials (v ∷ []) parted.initials;
    initials_have = (h, parted.initials_have);
  }

  abbrev pub PartsOf : List Part → List Part → Filled → List Bool → List Input → Type 0
  PartsOf stored slots so_far ks xs = (r : Filled) × (parted_from so_far ks xs ≡ Some r) × Parted stored slots so_far r

  -- A part of a signature of the form that a code has.
  slot_part : (code : CodeId) (f : SignatureForm) (ps stored slots : List Part) (ks : List Bool) (xs : List Input) (so_far : Filled) → HaveParts (cons_option (part_at code f) ps) xs
      → ((ys : List Input) (more : Filled) → HaveParts ps ys → PartsOf stored slots more ks ys) → PartsOf (cons_option (stored_at code f) stored) (cons_option (slot_at code f) slots) so_far (cons_option (slot_kind f) ks) xs
  unfolding parted_from
  slot_part code (form.Stored n b t a) ps stored slots ks [] so_far h rest = absurd h
  slot_part code (form.Stored n b t a) ps stored slots ks (x ∷ xs) so_far h rest =
      let below = rest xs (record so_far { inputs = so_far.inputs ++ x ∷ [] }) h.1 in (below.0, below.1, add_input stored slots _ so_far below.0 x h.0 below.2)
  slot_part code (form.Binding n t) ps stored slots ks [] so_far h rest = absurd h
  slot_part code (form.Binding n t) ps stored slots ks (x ∷ xs) so_far h rest =
      let below = rest xs (record so_far { inputs = so_far.inputs ++ x ∷ [] }) h.1 in (below.0, below.1, add_input stored slots _ so_far below.0 x h.0 below.2)
  slot_part code (form.State n t a) ps stored slots ks [] so_far h rest = absurd h
  slot_part code (form.State n t a) ps stored slots ks (input.Value v ∷ xs) so_far h rest =
      let below = rest xs (record so_far { initials = so_far.initials ++ v ∷ [] }) h.1 in (below.0, below.1, add_slot stored slots _ so_far below.0 v h.0 below.2)
  slot_part code (form.State n t a) ps stored slots ks (input.Place p ∷ xs) so_far h rest = absurd h.0.2
  slot_part code (form.Environment k) ps stored slots ks xs so_far h rest = rest xs so_far h
  slot_part code (form.Static t) ps stored slots ks xs so_far h rest = rest xs so_far h
  slot_part code (form.Case n) ps stored slots ks xs so_far h rest = rest xs so_far h
  slot_part code (form.Computed t) ps stored slots ks xs so_far h rest = rest xs so_far h
  slot_part code (form.Function params t m) ps stored slots ks xs so_far h rest = rest xs so_far h
  slot_part code form.BuilderProperty ps stored slots ks xs so_far h rest = rest xs so_far h
  slot_part code (form.BuilderFunction params) ps stored slots ks xs so_far h rest = rest xs so_far h
  slot_part code form.Reduce ps stored slots ks xs so_far h rest = rest xs so_far h
  slot_part code form.Unfit ps stored slots ks xs so_far h rest = rest xs so_far h

  pub parted : (ms : List Signature) (xs : List Input) (so_far : Filled) → HaveParts (parts_of ms) xs → PartsOf (inputs_of ms) (slots_of ms) so_far (slot_kinds ms) xs
  unfolding parted_from
  parted [] [] so_far h = (so_far, refl, record { inputs = []; more_inputs = sym (append_none so_far.inputs); inputs_have = tt; initials = []; more_initials = sym (append_none so_far.initials); initials_have = tt })
  parted [] (x ∷ xs) so_far h = absurd h
  parted (s ∷ ms) xs so_far h = slot_part s.code s.form (parts_of ms) (inputs_of ms) (slots_of ms) (slot_kinds ms) xs so_far h (λ ys more k. parted ms ys more k)

module _ (site : Site) (known : Known site) (inputs : List Input) (whole limit : ℕ) (sc : Scope) (locals : List Local) where
  -- ---- initial values

  constant_safe : (room d n : ℕ) (k : Kind) (m : CoreMember) (t : Ty) → Constant site.program.table d k m t → slice_get site.program.members n ≡ Some m
      → Safely site known inputs limit sc locals (Holds site (Local.valued t)) (initial (inner site.program room) n >>= λ v. give (input.Value v))
  constant_safe room d n k m t c there =
      safe_then site inputs limit sc locals _ (initial (inner site.program room) n) (λ v. give (input.Value v))
      (safe_of site inputs limit sc locals (ValueHas site t) (initial (inner site.program room) n)
      (constant_good site (inner site.program room) (terms_have_meanings site known room) known sc locals d n k m t c there)
      (initial_calm inputs limit (inner site.program room) (terms_calm inputs site.program limit room) (runs_calm inputs site.program room) n))
      (λ v h. safe_give site inputs limit sc locals _ (input.Value v) h)

  no_stored : (table : Table) (d : ℕ) (k : Kind) (m : CoreMember) (n : ℕ) (b : Binder) (a : Argument) → FitsSignature table d k m (form.Stored n b None a) → ⊥
  no_stored table d k m n b a h = elim h [ ]

  no_state : (table : Table) (d : ℕ) (k : Kind) (m : CoreMember) (n : ℕ) (a : Argument) → FitsSignature table d k m (form.State n None a) → ⊥
  no_state table d k m n a h = elim h [ ]

  state_fits : (table : Table) (d : ℕ) (k : Kind) (m : CoreMember) (n : ℕ) (t : Ty) (a : Argument) → initial_of a ≡ Some initial_form.Written → FitsSignature table d k m (form.State n (Some t) a) → Constant table d k m t
  state_fits table d k m n t a e (FitsSignature.state h) = initial_value table d k m t a e h

  abbrev GivesInitial : ℕ → Part → CodeId → Type 0
  GivesInitial room p id = Safely site known inputs limit sc locals (HasPart site p) (initial (inner site.program room) id.number >>= λ v. give (input.Value v))

  initial_safe : (room d : ℕ) (p : Part) (id : CodeId) → IsPart site.program.table d p → initial_of p.argument ≡ Some initial_form.Written → p.code ≡ id → GivesInitial room p id
  initial_safe room d p id s written code = go s.sign.form refl
    where
      m : Member site.program.table site.program.members d s.sign
      m = member_of site.program.table site.program.members known.program d s.sign s.member

      -- with the constant that the part has as its initial value
      give_it : (t : Ty) (q : Part) → q ≡ p → q.code ≡ s.sign.code → q.ty ≡ Some t → q.is_binding ≡ false → Constant site.program.table d m.declaration.kind m.member t → GivesInitial room p id
      give_it t q same of typed value c =
          safe_weaker site inputs limit sc locals (initial (inner site.program room) id.number >>= λ v. give (input.Value v))
          (subst (λ (x : CodeId). Safely site known inputs limit sc locals (Holds site (Local.valued t)) (initial (inner site.program room) x.number >>= λ v. give (input.Value v)))
          (sym of ∙ ap (λ (x : Part). x.code) same ∙ code) (constant_safe room d s.sign.code.number m.declaration.kind m.member t c m.there))
          (λ x h. (t, ap (λ (y : Part). y.ty) (sym same) ∙ typed, subst (λ (b : Bool). Holds site (part_local b t) x) (sym value ∙ ap (λ (y : Part). y.is_binding) same) h))

      fits_form : (f : SignatureForm) → s.sign.form ≡ f → FitsSignature site.program.table d m.declaration.kind m.member f
      fits_form f e = subst (FitsSignature site.program.table d m.declaration.kind m.member) e m.fits

      is_part : (f : SignatureForm) → s.sign.form ≡ f → part_at s.sign.code f ≡ Some p
      is_part f e = ap (part_at s.sign.code) (sym e) ∙ s.is

      stored : (n : ℕ) (b : Binder) (o : Option Ty) (a : Argument) → s.sign.form ≡ form.Stored n b o a → GivesInitial room p id
      stored n b None a e = absurd (no_stored site.program.table d m.declaration.kind m.member n b a (fits_form (form.Stored n b None a) e))
      stored n b (Some t) a e =
          let same = some_same (record { code = s.sign.code; is_binding = false; ty = Some t; argument = a }) p (is_part (form.Stored n b (Some t) a) e) in
          give_it t (record { code = s.sign.code; is_binding = false; ty = Some t; argument = a }) same refl refl refl
          (initial_of_stored site.program.table d m.declaration.kind m.member n b t a (ap (λ (x : Part). initial_of x.argument) same ∙ written) (fits_form (form.Stored n b (Some t) a) e))

      state : (n : ℕ) (o : Option Ty) (a : Argument) → s.sign.form ≡ form.State n o a → GivesInitial room p id
      state n None a e = absurd (no_state site.program.table d m.declaration.kind m.member n a (fits_form (form.State n None a) e))
      state n (Some t) a e =
          let same = some_same (record { code = s.sign.code; is_binding = false; ty = Some t; argument = a }) p (is_part (form.State n (Some t) a) e) in
          give_it t (record { code = s.sign.code; is_binding = false; ty = Some t; argument = a }) same refl refl refl
          (state_fits site.program.table d m.declaration.kind m.member n t a (ap (λ (x : Part). initial_of x.argument) same ∙ written) (fits_form (form.State n (Some t) a) e))

      go : (f : SignatureForm) → s.sign.form ≡ f → GivesInitial room p id
      go (form.Stored n b t a) e = stored n b t a e
      go (form.State n t a) e = state n t a e
      go (form.Binding n t) e =
          let same = some_same _ p (is_part (form.Binding n t) e) in
          let none : initial_of p.argument ≡ None = ap (λ (x : Part). initial_of x.argument) (sym same) in
          absurd (cc (none, written))
      go (form.Environment k) e = absurd (cc (is_part (form.Environment k) e))
      go (form.Static t) e = absurd (cc (is_part (form.Static t) e))
      go (form.Case n) e = absurd (cc (is_part (form.Case n) e))
      go (form.Computed t) e = absurd (cc (is_part (form.Computed t) e))
      go (form.Function ps t b) e = absurd (cc (is_part (form.Function ps t b) e))
      go form.BuilderProperty e = absurd (cc (is_part form.BuilderProperty e))
      go (form.BuilderFunction ps) e = absurd (cc (is_part (form.BuilderFunction ps) e))
      go form.Reduce e = absurd (cc (is_part form.Reduce e))
      go form.Unfit e = absurd (cc (is_part form.Unfit e))

  -- ---- arguments, and then initial values

  -- what fills a part: an argument, or nothing where it has an initial value
  abbrev ArgumentHas : FillingForm → Part → Option Input → Type 0
  ArgumentHas (Filling-F.Given c) p None = ⊥
  ArgumentHas (Filling-F.Given c) p (Some x) = HasPart site p x
  ArgumentHas (Filling-F.Place t) p None = ⊥
  ArgumentHas (Filling-F.Place t) p (Some x) = HasPart site p x
  ArgumentHas (Filling-F.Initial id) p None = ⊤
  ArgumentHas (Filling-F.Initial id) p (Some x) = ⊥
  ArgumentHas Filling-F.Nil p None = ⊤
  ArgumentHas Filling-F.Nil p (Some x) = ⊥

  abbrev ArgumentsHave : List Filling → List Part → List (Option Input) → Type 0
  ArgumentsHave [] [] [] = ⊤
  ArgumentsHave (f ∷ fs) (p ∷ ps) (o ∷ os) = ArgumentHas (out-Filling f) p o × ArgumentsHave fs ps os
  ArgumentsHave fs ps os = ⊥

  of_kind : (p : Part) (b : Bool) (t : Ty) (x : Input) → p.is_binding ≡ b → p.ty ≡ Some t → Holds site (part_local b t) x → HasPart site p x
  of_kind p b t x is typed h = (t, typed, subst (λ (c : Bool). Holds site (part_local c t) x) (sym is) h)

  module _ (room code : ℕ) where
    argument_safe : (layer : FillingForm) (p : Part) → Fills (context site sc) locals layer p → Permits site sc (mentions.filling_layer layer) → Beyond limit (alters.filling_layer layer)
        → Safely site known inputs limit sc locals (ArgumentHas layer p) (argument_at (building site.program room code) layer)
    argument_safe layer p (Fills.given {c = c} {t = t} is typed h) may own =
        safe_then site inputs limit sc locals _ (means site.program room c) (λ v. give (Some (input.Value v))) (eval_safe site known inputs limit sc locals room c t (h, may, own))
        (λ v k. safe_give site inputs limit sc locals _ (Some (input.Value v)) (of_kind p false t (input.Value v) is typed k))
    argument_safe layer p (Fills.place {target = target} {t = t} is typed h) may own =
        safe_then site inputs limit sc locals _ (place_of site.program room target) (λ q. give (Some (input.Place q))) (place_safe site known inputs limit sc locals room target t h may own)
        (λ q k. safe_give site inputs limit sc locals _ (Some (input.Place q)) (of_kind p true t (input.Place q) is typed k))
    argument_safe layer p (Fills.written w is) may own = safe_give site inputs limit sc locals _ None tt
    argument_safe layer p (Fills.without w typed inside) may own = safe_give site inputs limit sc locals _ None tt

    arguments_safe : (fs : List Filling) (ps : List Part) (so_far : List (Option Input)) → Fillings (context site sc) locals fs ps → Permits site sc (joined (map filling_mentions fs)) → Beyond limit (all_of (map filling_alters fs))
        → Safely site known inputs limit sc locals (λ os. (more : List (Option Input)) × (os ≡ so_far ++ more) × ArgumentsHave fs ps more) (arguments_from (building site.program room code) so_far fs)
    unfolding arguments_from argument
    arguments_safe fs ps so_far (Fillings.no_fillings) may own = safe_give site inputs limit sc locals _ so_far ([], sym (append_none so_far), tt)
    arguments_safe fs' ps' so_far (Fillings.more_fillings {f = f} {fs = fs} {p = p} {ps = ps} h more) may own =
        safe_then site inputs limit sc locals _ (argument_at (building site.program room code) (out-Filling f)) (λ o. arguments_from (building site.program room code) (so_far ++ o ∷ []) fs)
        (argument_safe (out-Filling f) p h (subst (Permits site sc) (mentions.filling_is f) (each_front (Permitted site sc) (filling_mentions f) (joined (map filling_mentions fs)) may))
        (subst (Beyond limit) (alters.filling_is f) (each_front (From limit) (filling_alters f) (all_of (map filling_alters fs)) own)))
        (λ o k. safe_weaker site inputs limit sc locals (arguments_from (building site.program room code) (so_far ++ o ∷ []) fs)
        (arguments_safe fs ps (so_far ++ o ∷ []) more (each_back (Permitted site sc) (filling_mentions f) (joined (map filling_mentions fs)) may) (each_back (From limit) (filling_alters f) (all_of (map filling_alters fs)) own))
        (λ os e. (o ∷ e.0, e.1 ∙ append_twice so_far (o ∷ []) e.0, (k, e.2))))

    filled_safe : (d : ℕ) (layer : FillingForm) (p : Part) (o : Option Input) → IsPart site.program.table d p → Fills (context site sc) locals layer p → ArgumentHas layer p o
        → Safely site known inputs limit sc locals (HasPart site p) (filled_at (building site.program room code) layer o)
    filled_safe d layer p None s (Fills.given is typed h) k = absurd k
    filled_safe d layer p (Some x) s (Fills.given is typed h) k = safe_give site inputs limit sc locals _ x k
    filled_safe d layer p None s (Fills.place is typed h) k = absurd k
    filled_safe d layer p (Some x) s (Fills.place is typed h) k = safe_give site inputs limit sc locals _ x k
    filled_safe d layer p None s (Fills.written {id = id} w is) k = initial_safe room d p id s w is
    filled_safe d layer p (Some x) s (Fills.written w is) k = absurd k
    filled_safe d layer p None s (Fills.without {o = o} {t = t} w typed inside) k =
        safe_give site inputs limit sc locals _ (input.Value (value_form.Opt None)) (nil_has d p o t s w typed ((known.laws.plain site.program.table).nils o t inside))
      where
        -- a binding has no initial value
        no_binding : (f : SignatureForm) (q : Part) (c : CodeId) → part_at c f ≡ Some q → initial_of q.argument ≡ Some initial_form.Nil → q.is_binding ≡ false
        no_binding (form.Stored n b y a) q c e i = ap (λ (x : Part). x.is_binding) (sym (some_same _ q e))
        no_binding (form.State n y a) q c e i = ap (λ (x : Part). x.is_binding) (sym (some_same _ q e))
        no_binding (form.Binding n y) q c e i = let none : initial_of q.argument ≡ None = ap (λ (x : Part). initial_of x.argument) (sym (some_same _ q e)) in absurd (cc (none, i))
        no_binding (form.Environment n) q c e i = absurd (cc e)
        no_binding (form.Static y) q c e i = absurd (cc e)
        no_binding (form.Case n) q c e i = absurd (cc e)
        no_binding (form.Computed y) q c e i = absurd (cc e)
        no_binding (form.Function ps y b) q c e i = absurd (cc e)
        no_binding form.BuilderProperty q c e i = absurd (cc e)
        no_binding (form.BuilderFunction ps) q c e i = absurd (cc e)
        no_binding form.Reduce q c e i = absurd (cc e)
        no_binding form.Unfit q c e i = absurd (cc e)

        nil_has : (d : ℕ) (p : Part) (o t : Ty) → IsPart site.program.table d p → initial_of p.argument ≡ Some initial_form.Nil → p.ty ≡ Some o → ValueHas site o (value_form.Opt None) → HasPart site p (input.Value (value_form.Opt None))
        nil_has d p o t s w typed h = of_kind p false o (input.Value (value_form.Opt None)) (no_binding s.sign.form p s.sign.code s.is w) typed h
    filled_safe d layer p (Some x) s (Fills.without w typed inside) k = absurd k

    fields_safe : (d : ℕ) (fs : List Filling) (ps : List Part) (os : List (Option Input)) (so_far : List Input) → Each (IsPart site.program.table d) ps → Fillings (context site sc) locals fs ps → ArgumentsHave fs ps os
        → Safely site known inputs limit sc locals (λ xs. (more : List Input) × (xs ≡ so_far ++ more) × HaveParts site ps more) (filled_from (building site.program room code) so_far fs os)
    unfolding filled_from filled
    fields_safe d fs ps [] so_far parts (Fillings.no_fillings) h = safe_give site inputs limit sc locals _ so_far ([], sym (append_none so_far), tt)
    fields_safe d fs ps (o ∷ os) so_far parts (Fillings.no_fillings) h = absurd h
    fields_safe d fs' ps' [] so_far parts (Fillings.more_fillings k more) h = absurd h
    fields_safe d fs' ps' (o ∷ os) so_far parts (Fillings.more_fillings {f = f} {fs = fs} {p = p} {ps = ps} k more) h =
        safe_then site inputs limit sc locals _ (filled_at (building site.program room code) (out-Filling f) o) (λ x. filled_from (building site.program room code) (so_far ++ x ∷ []) fs os) (filled_safe d (out-Filling f) p o parts.0 k h.0)
        (λ x y. safe_weaker site inputs limit sc locals (filled_from (building site.program room code) (so_far ++ x ∷ []) fs os) (fields_safe d fs ps os (so_far ++ x ∷ []) parts.1 more h.1)
        (λ xs e. (x ∷ e.0, e.1 ∙ append_twice so_far (x ∷ []) e.0, (y, e.2))))

    fillings_safe : (d : ℕ) (declaration : Declaration) (fs : List Filling) → slice_get site.program.table.declarations d ≡ Some declaration → Fillings (context site sc) locals fs (parts_of declaration.members)
        → Permits site sc (flat_map filling_mentions fs) → Beyond limit (flat_map filling_alters fs) → Safely site known inputs limit sc locals (HaveParts site (parts_of declaration.members)) (fillings (building site.program room code) fs)
    unfolding fillings
    fillings_safe d declaration fs declared h may own =
        let parts = parts_stand site.program.table d declaration.members (λ at s e. HasMember.member at declared e) in
        safe_then site inputs limit sc locals _ (arguments_from (building site.program room code) [] fs) (λ os. filled_from (building site.program room code) [] fs os)
        (arguments_safe fs (parts_of declaration.members) [] h (subst (Permits site sc) (joined_map filling_mentions fs) may) (subst (Beyond limit) (flat_all filling_alters fs) own))
        (λ os e. safe_weaker site inputs limit sc locals (filled_from (building site.program room code) [] fs os)
        (fields_safe d fs (parts_of declaration.members) os [] parts h (subst (ArgumentsHave fs (parts_of declaration.members)) (sym e.1) e.2))
        (λ xs k. subst (HaveParts site (parts_of declaration.members)) (sym k.1) k.2))

    -- The node of a custom view.
    pub custom_view_safe : ViewsHaveBodies site.program.table → (d : ℕ) (declaration : Declaration) (fs : List Filling) → slice_get site.program.table.declarations d ≡ Some declaration → declaration.kind ≡ kind.View
        → Fillings (context site sc) locals fs (parts_of declaration.members) → Permits site sc (flat_map filling_mentions fs) → Beyond limit (flat_map filling_alters fs)
        → Makes site inputs whole limit sc locals (Fine site inputs whole limit sc locals) (custom_view (building site.program room code) d fs)
    unfolding custom_view custom_node
    custom_view_safe bodies d declaration fs declared is h may own =
        safe_then site inputs limit sc locals _ (fillings (building site.program room code) fs) (λ xs. custom_node (building site.program room code) d xs) (fillings_safe d declaration fs declared h may own)
        (λ xs k. node xs k)
      where
        node : (xs : List Input) → HaveParts site (parts_of declaration.members) xs → Makes site inputs whole limit sc locals (Fine site inputs whole limit sc locals) (custom_node (building site.program room code) d xs)
        node xs k =
            let b = bodies d declaration declared is in
            let r = parted site declaration.members xs (record { inputs = []; initials = [] }) k in
            let c : Custom = record { unit = record { number = b.0.number }; inputs = r.0.inputs; initials = r.0.initials } in
            safe_found site inputs limit sc locals _ (slice_get site.program.table.declarations d) declaration (λ x. found (custom_of x xs) (λ y. custom d y)) declared
            (safe_found site inputs limit sc locals _ (custom_of declaration xs) c (λ y. custom d y)
            (ap (λ (o : Option CodeId). custom_with o (parted_from (record { inputs = []; initials = [] }) (slot_kinds declaration.members) xs)) b.1 ∙ ap (custom_with (Some b.0)) r.1)
            (custom_safe site inputs whole limit sc locals d c (record {
              d = d;
              declaration = declaration;
              declared = declared;
              is_view = is;
              code = b.0;
              body = b.1;
              unit = refl;
              inputs = subst (HaveParts site (inputs_of declaration.members)) (sym r.2.more_inputs) r.2.inputs_have;
              initials = subst (λ (vs : List Value). HaveParts site (slots_of declaration.members) (map input.Value vs)) (sym r.2.more_initials) r.2.initials_have;
            })))
