-- The run of an action block is right where its condition holds.
use Rattle.std.specs.Prelude.{◌≡◌, ℕ, zero, suc, ◌+◌, ◌<◌, Bool, true, false, cond, not, ◌||◌, nat_eq, nat_lt, List, [], ◌∷◌, ◌++◌, length, map, take, Option, Some, None, slice_get, slice_set, ◌⊎◌}
use Rattle.std.specs.FinMap as fin
use Rattle.std.specs.List.{list_any, flat_map}
use Rattle.std.proofs.Common.{refl, sym, ap, subst, ◌∙◌, arith, inl, inr}
use Rattle.std.proofs.lemmas.Bool.{cases_eq, ltb-false}
use Rattle.std.proofs.lemmas.Bool.Decides.{Decides-eqb}
use Rattle.std.proofs.lemmas.List.{length-set, length-append}
use Rattle.std.proofs.lemmas.List.Folds.{list_any-append}
use Rattle.std.proofs.lemmas.Option.{slice_get_within}
use Rattle.identity_path.specs.declared.input.Input.{Input}
use Rattle.identity_path.specs.Cells.{CellMap}
use Rattle.swift_core.specs.Codes.{Parts as Program}
use Rattle.swift_core.specs.Context.{Context, Local, local_of}
use Rattle.swift_core.specs.Mentions.{Mentions, stmt_mentions, form_mentions}
use Rattle.swift_core.specs.Programs.{IsProgram}
use Rattle.swift_core.specs.Typing.{AreKept, Statements, in_body, with_parameters, Flow as HowItEnds, IsBlock, IsAction, GivesViews, itself_in, is_value, stands_in}
use Rattle.swift_core.specs.Uses.{locals_of, with_use, first_uses, locals_used}
use Rattle.swift_core.specs.declared.code.Code.{Code}
use Rattle.swift_core.specs.declared.code.CodeForm.{CodeForm}
use Rattle.swift_core.specs.declared.code.CodeForm.TheVariants as code
use Rattle.swift_core.specs.declared.mention.Mention.{Mention}
use Rattle.swift_core.specs.declared.mention.Mention.TheVariants as mention
use Rattle.swift_core.specs.declared.stmt.CoreStmt.{CoreStmt}
use Rattle.swift_core.specs.declared.table.Declaration.{Declaration}
use Rattle.swift_core.specs.declared.table.Kind.{Kind}
use Rattle.swift_core.specs.declared.table.Kind.TheVariants as kind
use Rattle.swift_core.specs.declared.table.ParamSignature.{ParamSignature}
use Rattle.swift_core.specs.declared.table.Signature.{Signature}
use Rattle.swift_core.specs.declared.table.SignatureForm.{SignatureForm}
use Rattle.swift_core.specs.declared.table.SignatureForm.TheVariants as form
use Rattle.swift_core.specs.declared.ty.Ty.{Ty}
use Rattle.core_means.specs.Asks.{World, Live, Asks, Done, Trapped, Wrong, Ask, Look, Reads, under, IsRight}
use Rattle.core_means.specs.Means.{Inside, inner, block, code_of}
use Rattle.core_means.specs.Public.{holding, absent, with_local, placed, laid, begin, done_by, action_of_form, action_of_code, executed, Executes, live_cells, cells_of}
use Rattle.core_means.specs.Sources.{seen}
use Rattle.core_means.specs.declared.parts.Flow.{Flow}
use Rattle.core_means.specs.declared.parts.Flow.TheVariants.{Next, Returned, Broke, Continued}
use Rattle.core_means.specs.declared.parts.Frame.{Frame}
use Rattle.core_means.specs.declared.parts.Local.{Local as Held}
use Rattle.core_means.specs.declared.parts.Local.TheVariants as held
use Rattle.value_fits.specs.Cells.{CellsFit}
use Rattle.world_fits.specs.Codes.{member_of}
use Rattle.swift_core.specs.declared.ids.BlockId.{BlockId}
use Rattle.world_fits.specs.Frames.{HasAt, FrameHas}
use Rattle.world_fits.specs.Laws.{ValueLaws, Known}
use Rattle.world_fits.specs.Lists.{some_same, at_front, at_back, at_either, set_here, set_there}
use Rattle.world_fits.specs.Right.{Right, then_right, done_right, under_right}
use Rattle.world_fits.specs.Kept.{KeptHave, kept_have}
use Rattle.world_fits.specs.Runs.{InputsHave, ExecFits}
use Rattle.world_fits.specs.Sites.{Site, Scope, context, Holds, LocalHas, LocalsFit, LiveFits, Fits, Allowed}
use Rattle.form_rights.specs.Blocks.{block_right, joined_map}
use Rattle.meaning_rights.specs.Forms.{all_right}
use Rattle.form_rights.specs.Inside.{MayDo, FlowFits, Rights}
use Rattle.meaning_rights.specs.Runs.{held_inputs, view_of, is_of_view, view_kind, itself_fits}

-- ---- the locals that a block begins with

-- the locals that are there: those that are kept, and those of the block itself
abbrev pub shown_of : ℕ → List ℕ → ℕ → Bool
shown_of outer kept i = not (nat_lt i outer) || list_any (nat_eq i) kept

differ : (i k : ℕ) (b : Bool) → nat_eq i k ≡ b → (k ≡ i → ⊥) → (ks : List ℕ) → (b || list_any (nat_eq i) ks) ≡ true → list_any (nat_eq i) ks ≡ true
differ i k true e other ks h = absurd (other (sym ((Decides-eqb i k).0 e)))
differ i k false e other ks h = h

module _ (site : Site) (locals : List Local) (kept : List ℕ) where
  -- those that are left have not been placed yet
  abbrev PartlyHas : List ℕ → ℕ → Local → Held → Type 0
  PartlyHas rest i l (held.Holds x) = Holds site l x
  PartlyHas rest i l (held.Captured k) = ⊥
  PartlyHas rest i l held.Preference = ⊥
  PartlyHas rest i l held.Absent = list_any (nat_eq i) kept ≡ true → list_any (nat_eq i) rest ≡ true

  record Partly (rest : List ℕ) (here : List Held) : Type 0 where
    as_many : length here ≡ length locals
    each : (i : ℕ) (l : Local) → slice_get locals i ≡ Some l → HasAt (PartlyHas rest i l) here i

  none_there : (n i : ℕ) → i < n → slice_get (absent n) i ≡ Some held.Absent
  none_there zero i h = absurd (omega (arith, h))
  none_there (suc n) zero h = refl
  none_there (suc n) (suc i) h = none_there n i (omega (arith, h))

  many_absent : (n : ℕ) → length (absent n) ≡ n
  many_absent zero = refl
  many_absent (suc n) = ap suc (many_absent n)

  begins : (n : ℕ) → n ≡ length locals → Partly kept (absent n)
  begins n e = record { as_many = many_absent n ∙ e; each = λ i l at. (held.Absent, none_there n i (omega (arith, e, slice_get_within locals i l at)), λ h. h) }

  put : (here : List Held) (k : ℕ) (x : Input) → k < length here → with_local here k x ≡ slice_set here k (held.Holds x)
  put here k x h = go (nat_lt k (length here)) refl
    where
      go : (b : Bool) → nat_lt k (length here) ≡ b → cond (nat_lt k (length here)) (slice_set here k (held.Holds x)) here ≡ slice_set here k (held.Holds x)
      go true e = ap (λ b. cond b (slice_set here k (held.Holds x)) here) e
      go false e = absurd (omega (arith, h, ltb-false k (length here) e))

  step : (k : ℕ) (rest : List ℕ) (here : List Held) (l : Local) (x : Input) → slice_get locals k ≡ Some l → Holds site l x → Partly (k ∷ rest) here → Partly rest (with_local here k x)
  step k rest here l x at h partly =
      subst (Partly rest) (sym (put here k x (omega (arith, partly.as_many, slice_get_within locals k l at))))
      (record { as_many = length-set here k (held.Holds x) ∙ partly.as_many; each = λ i m e. each i m e (cases_eq k i) })
    where
      kept_on : (i : ℕ) (m : Local) (y : Held) → (k ≡ i → ⊥) → PartlyHas (k ∷ rest) i m y → PartlyHas rest i m y
      kept_on i m (held.Holds y) other p = p
      kept_on i m (held.Captured j) other p = p
      kept_on i m held.Preference other p = p
      kept_on i m held.Absent other p = λ e. differ i k (nat_eq i k) refl other rest (p e)

      each : (i : ℕ) (m : Local) → slice_get locals i ≡ Some m → (k ≡ i) ⊎ (k ≡ i → ⊥) → HasAt (PartlyHas rest i m) (slice_set here k (held.Holds x)) i
      each i m e (inl same) =
          let old = partly.each k l at in
          (held.Holds x, ap (slice_get (slice_set here k (held.Holds x))) (sym same) ∙ set_here here k old.0 (held.Holds x) old.1, subst (λ (n : Local). Holds site n x) (some_same l m (sym at ∙ ap (slice_get locals) same ∙ e)) h)
      each i m e (inr other) = let old = partly.each i m e in (old.0, set_there here k i (held.Holds x) other ∙ old.1, kept_on i m old.0 other old.2)

  -- all are placed
  ends : (ps : List Ty) (xs : List Input) (here : List Held) (outer : ℕ) → outer ≡ length locals → InputsHave site.program.table site.types (map Local.valued ps) xs → Partly [] here
      → LocalsFit site (shown_of outer kept) (locals ++ map Local.valued ps) (here ++ holding xs)
  ends ps xs here outer out h partly = record {
    as_many = length-append here (holding xs) ∙ (λ j. partly.as_many j + rest.as_many j) ∙ sym (length-append locals (map Local.valued ps));
    each = λ i l e. each i l (at_either locals (map Local.valued ps) i l e);
  }
    where
      rest : LocalsFit site (λ i. true) (map Local.valued ps) (holding xs)
      rest = held_inputs site (λ i. true) (map Local.valued ps) xs h

      absent_hidden : (i : ℕ) → i < outer → (b c : Bool) → nat_lt i outer ≡ b → list_any (nat_eq i) kept ≡ c → (c ≡ true → false ≡ true) → (not b || c) ≡ false
      absent_hidden i within true true e f no_more = absurd (cc (no_more refl))
      absent_hidden i within true false e f no_more = refl
      absent_hidden i within false c e f no_more = absurd (omega (arith, within, ltb-false i outer e))

      here_has : (i : ℕ) (l : Local) (y : Held) → i < outer → PartlyHas [] i l y → LocalHas site (shown_of outer kept i) l y
      here_has i l (held.Holds y) within p = p
      here_has i l (held.Captured j) within p = p
      here_has i l held.Preference within p = p
      here_has i l held.Absent within p = absent_hidden i within (nat_lt i outer) (list_any (nat_eq i) kept) refl refl p

      there_has : (b : Bool) (l : Local) (y : Held) → LocalHas site true l y → LocalHas site b l y
      there_has b l (held.Holds y) p = p
      there_has b l (held.Captured j) p = p
      there_has b l held.Preference p = p
      there_has b l held.Absent p = cc

      each : (i : ℕ) (l : Local) → (slice_get locals i ≡ Some l) ⊎ ((j : ℕ) × (i ≡ length locals + j) × (slice_get (map Local.valued ps) j ≡ Some l)) → HasAt (LocalHas site (shown_of outer kept i) l) (here ++ holding xs) i
      each i l (inl e) = let old = partly.each i l e in (old.0, at_front here (holding xs) i old.0 old.1, here_has i l old.0 (omega (arith, out, slice_get_within locals i l e)) old.2)
      each i l (inr e) =
          let y = rest.each e.0 l e.2 in
          (y.0, ap (slice_get (here ++ holding xs)) (e.1 ∙ ap (λ n. n + e.0) (sym partly.as_many)) ∙ at_back here (holding xs) e.0 ∙ y.1, there_has (shown_of outer kept i) l y.0 y.2)

  places_fit : (ks : List ℕ) (ps : List Ty) (xs : List Input) (here : List Held) (outer : ℕ) → outer ≡ length locals → KeptHave site.program.table site.types locals ks ps xs → Partly ks here
      → LocalsFit site (shown_of outer kept) (locals ++ map Local.valued ps) (placed here ks xs)
  places_fit [] ps xs here outer out h partly = ends ps xs here outer out h partly
  places_fit (k ∷ ks) ps [] here outer out h partly = absurd h
  places_fit (k ∷ ks) ps (x ∷ xs) here outer out h partly = places_fit ks ps xs (with_local here k x) outer out h.1 (step k ks here h.0.0 x h.0.1 h.0.2 partly)

-- ---- what a block mentions is there

either_true : (a b : Bool) → (a || b) ≡ true → (a ≡ true) ⊎ (b ≡ true)
either_true true b e = inl refl
either_true false b e = inr e

or_last : (a b : Bool) → b ≡ true → (a || b) ≡ true
or_last true b e = refl
or_last false b e = e

stays_used : (limit : ℕ) (uses : List ℕ) (i j : ℕ) → list_any (nat_eq i) uses ≡ true → list_any (nat_eq i) (with_use limit uses j) ≡ true
stays_used limit uses i j e = go (nat_lt j limit) (list_any (nat_eq j) uses)
  where
    pushed : list_any (nat_eq i) (uses ++ j ∷ []) ≡ true
    pushed = list_any-append (nat_eq i) uses (j ∷ []) ∙ ap (λ b. b || list_any (nat_eq i) (j ∷ [])) e

    go : (b c : Bool) → list_any (nat_eq i) (cond b (cond c uses (uses ++ j ∷ [])) uses) ≡ true
    go true true = e
    go true false = pushed
    go false c = e

now_used : (limit : ℕ) (uses : List ℕ) (i j : ℕ) → nat_lt i limit ≡ true → nat_eq i j ≡ true → list_any (nat_eq i) (with_use limit uses j) ≡ true
now_used limit uses i j below same = subst (λ (k : ℕ). list_any (nat_eq i) (with_use limit uses k) ≡ true) ((Decides-eqb i j).0 same) (go (nat_lt i limit) (list_any (nat_eq i) uses) below refl)
  where
    go : (b c : Bool) → b ≡ true → list_any (nat_eq i) uses ≡ c → list_any (nat_eq i) (cond b (cond c uses (uses ++ i ∷ [])) uses) ≡ true
    go true true e f = f
    go true false e f = list_any-append (nat_eq i) uses (i ∷ []) ∙ or_last (list_any (nat_eq i) uses) (list_any (nat_eq i) (i ∷ [])) (ap (λ b. b || false) ((Decides-eqb i i).1 refl))
    go false c e f = cc

used_first : (limit : ℕ) (is : List ℕ) (uses : List ℕ) (i : ℕ) → nat_lt i limit ≡ true → (list_any (nat_eq i) uses ≡ true) ⊎ (list_any (nat_eq i) is ≡ true) → list_any (nat_eq i) (first_uses limit uses is) ≡ true
unfolding first_uses
used_first limit [] uses i below (inl e) = e
used_first limit [] uses i below (inr e) = cc
used_first limit (j ∷ is) uses i below (inl e) = used_first limit is (with_use limit uses j) i below (inl (stays_used limit uses i j e))
used_first limit (j ∷ is) uses i below (inr e) = used_first limit is (with_use limit uses j) i below (next (either_true (nat_eq i j) (list_any (nat_eq i) is) e))
  where
    next : (nat_eq i j ≡ true) ⊎ (list_any (nat_eq i) is ≡ true) → (list_any (nat_eq i) (with_use limit uses j) ≡ true) ⊎ (list_any (nat_eq i) is ≡ true)
    next (inl same) = inl (now_used limit uses i j below same)
    next (inr more) = inr more

block_may : (site : Site) (sc : Scope) (blocks : List Code) (outer : ℕ) (kept : List ℕ) (ms : Mentions) → site.is_block ≡ true → ((i : ℕ) → sc.shows i ≡ shown_of outer kept i)
    → ((i : ℕ) → nat_lt i outer ≡ true → list_any (nat_eq i) (flat_map (locals_of blocks) ms) ≡ true → list_any (nat_eq i) kept ≡ true) → MayDo site sc ms
block_may site sc blocks outer kept [] is shows has = tt
block_may site sc blocks outer kept (m ∷ ms) is shows has = (
  here m (λ i below e. has i below (list_any-append (nat_eq i) (locals_of blocks m) (flat_map (locals_of blocks) ms) ∙ ap (λ b. b || list_any (nat_eq i) (flat_map (locals_of blocks) ms)) e)),
  block_may site sc blocks outer kept ms is shows (λ i below e. has i below (list_any-append (nat_eq i) (locals_of blocks m) (flat_map (locals_of blocks) ms) ∙ or_last (list_any (nat_eq i) (locals_of blocks m)) (list_any (nat_eq i) (flat_map (locals_of blocks) ms)) e)),
)
  where
    shown : (i : ℕ) (b : Bool) → nat_lt i outer ≡ b → (nat_lt i outer ≡ true → list_any (nat_eq i) kept ≡ true) → (not b || list_any (nat_eq i) kept) ≡ true
    shown i true e h = h e
    shown i false e h = refl

    here : (m : Mention) → ((i : ℕ) → nat_lt i outer ≡ true → list_any (nat_eq i) (locals_of blocks m) ≡ true → list_any (nat_eq i) kept ≡ true) → Allowed site sc m
    here (mention.Local i) h = shows i ∙ shown i (nat_lt i outer) refl (λ e. h i e (ap (λ b. b || false) ((Decides-eqb i i).1 refl)))
    here (mention.Code c) h = λ v b. absurd (cc (is, b))
    here mention.Write h = λ v. is
    here (mention.Block b) h = tt

-- ---- action blocks

builder_value : (k : Kind) (s : Signature) (ps : List ParamSignature) → GivesViews s ps → stands_in k s.form ≡ true → is_value (itself_in k) ≡ false
builder_value k s ps (GivesViews.by_builder_property e) stands = go k (subst (λ (f : SignatureForm). stands_in k f ≡ true) e stands)
  where
    go : (k : Kind) → stands_in k form.BuilderProperty ≡ true → is_value (itself_in k) ≡ false
    go (kind.Data b) h = cc
    go (kind.Enum b n) h = cc
    go kind.View h = refl
    go kind.App h = refl
    go (kind.Key n) h = cc
builder_value k s ps (GivesViews.by_builder_function e) stands = go k (subst (λ (f : SignatureForm). stands_in k f ≡ true) e stands)
  where
    go : (k : Kind) → stands_in k (form.BuilderFunction ps) ≡ true → is_value (itself_in k) ≡ false
    go (kind.Data b) h = cc
    go (kind.Enum b n) h = cc
    go kind.View h = refl
    go kind.App h = cc
    go (kind.Key n) h = cc

-- the cells at the end fit
abbrev pub LeavesFit : Site → Unit {0} → World → Type 0
LeavesFit site x o = LiveFits site o.live

module _ (site : Site) (known : Known site) (i : Inside) (r : Rights site i) (sc : Scope) (locals : List Local) where
  done_right_by : (f : HowItEnds) (flow : Flow) (u : World) → FlowFits site None in_body f flow → LiveFits site u.live → Right site (LeavesFit site) (done_by i flow u)
  done_right_by f Next u h live = done_right site _ tt u live
  done_right_by f (Returned None) u h live = done_right site _ tt u live
  done_right_by f (Returned (Some v)) u h live = absurd (cc (h.1))
  done_right_by f Broke u h live = absurd (cc (h.1))
  done_right_by f Continued u h live = absurd (cc h)

  pub action_right : (c : CodeForm) (ss : List CoreStmt) (f : HowItEnds) → c ≡ code.Statements ss → Statements (context site sc) None in_body locals ss f → MayDo site sc (form_mentions c)
      → (w : World) → Fits site sc locals w → Right site (LeavesFit site) (action_of_form i c w)
  action_right c ss f is h may w fit =
      subst (λ (d : CodeForm). Right site (LeavesFit site) (action_of_form i d w)) (sym is)
      (then_right site _ (block i ss w) (done_by i)
      (block_right site i r sc None locals in_body ss f h (subst (MayDo site sc) (joined_map stmt_mentions ss) (subst (λ (d : CodeForm). MayDo site sc (form_mentions d)) is may)) w fit)
      (λ flow u e. done_right_by f flow u e.0 e.1.1.live))

-- a block with its statements
record Action (cx : Context) (locals : List Local) (ts : List Ty) (c : Code) (before : List Code) : Type 0 where
  ss : List CoreStmt
  flow : HowItEnds
  is : c.form ≡ code.Statements ss
  typed : Statements cx None in_body (with_parameters locals ts) ss flow
  outer : c.outer ≡ length locals
  kept : c.kept ≡ locals_used before c.outer c.form
  are : AreKept locals c.kept ts (map local_of c.types)

action_of : (cx : Context) (locals : List Local) (b : BlockId) (ts : List Ty) (c : Code) → slice_get cx.blocks b.number ≡ Some c → IsAction cx locals b ts → Action cx locals ts c (take b.number cx.blocks)
action_of cx locals b ts c at (IsAction.action {form = form} {ss = ss} {f = f} written is typed) = go form written is
  where
    go : (form : CodeForm) → IsBlock cx locals b ts form → form ≡ code.Statements ss → Action cx locals ts c (take b.number cx.blocks)
    go form (IsBlock.written_here {c = d} there outer parameters kept are) is =
        let same : d ≡ c = some_same d c (sym there ∙ at) in
        subst (λ (x : Code). Action cx locals ts x (take b.number cx.blocks)) same (record { ss = ss; flow = f; is = is; typed = typed; outer = outer; kept = kept; are = are })

module _ (p : Program) (n : ℕ) (frame : Frame) (cells : CellMap) (f : ExecFits p n frame cells) where
  -- where the block runs, what its terms share, and the world at the beginning
  abbrev site_of : Site
  site_of = record { program = p; view = view_of (itself_in f.declaration.kind) (Some f.d); home = frame.path; types = f.types; is_block = true }

  abbrev scope_of : Scope
  scope_of = record { owner = Some f.d; itself = itself_in f.declaration.kind; blocks = f.member.blocks; shows = shown_of f.code.outer f.code.kept }

  abbrev world_of : World
  world_of = begin (placed (absent f.code.outer) f.code.kept frame.locals) frame.path (Some (record { frame = frame; cells = cells }))

  frame_has : (d : ℕ) → view_of (itself_in f.declaration.kind) (Some f.d) ≡ Some d → FrameHas p.table f.types d frame
  frame_has d view = let v = is_of_view (itself_in f.declaration.kind) (Some f.d) d view in f.view_has v.0 d v.1

  module _ (laws : ValueLaws) (program : IsProgram p.table p.members) where
    known_of : Known site_of
    known_of = record { laws = laws; program = program; slots = λ d n t a s view member form. (frame_has d view).slots s n t a member form }

    no_value : is_value (itself_in f.declaration.kind) ≡ false
    no_value =
        let m = member_of p.table p.members program f.d f.sign f.has in
        let same : m.declaration ≡ f.declaration = some_same m.declaration f.declaration (sym m.declared ∙ f.declared) in
        builder_value f.declaration.kind f.sign f.parameters_of f.views (subst (λ (x : Declaration). stands_in x.kind f.sign.form ≡ true) same m.stands)

    block_of : Action (context site_of scope_of) f.locals f.parameters f.code (take f.block.number f.member.blocks)
    block_of = action_of (context site_of scope_of) f.locals f.block f.parameters f.code f.is_block f.action

    block_fits : Fits site_of scope_of (with_parameters f.locals f.parameters) world_of
    block_fits = record {
      here = places_fit site_of f.locals f.code.kept f.code.kept f.parameters frame.locals (absent f.code.outer) f.code.outer block_of.outer
          (kept_have p.table f.types f.locals f.code.kept f.parameters (map local_of f.code.types) frame.locals block_of.are f.locals_have)
          (begins site_of f.locals f.code.kept f.code.outer block_of.outer);
      places = λ i t e. inr refl;
      itself = itself_fits site_of (itself_in f.declaration.kind) (Some f.d) None f.d f.declaration refl refl f.declared (view_kind f.declaration.kind) no_value;
      home = refl;
      live = (refl, refl, frame_has, f.cells_fit);
    }

    pub block_means : Right site_of (LeavesFit site_of) (action_of_code (inner p 1000) f.code world_of)
    unfolding action_of_code
    block_means =
        let may = block_may site_of scope_of (take f.block.number f.member.blocks) f.code.outer f.code.kept (form_mentions f.code.form) refl (λ i. refl)
        (λ i below e. subst (λ (ks : List ℕ). list_any (nat_eq i) ks ≡ true) (sym block_of.kept) (used_first f.code.outer (flat_map (locals_of (take f.block.number f.member.blocks)) (form_mentions f.code.form)) [] i below (inr e))) in
        action_right site_of known_of (inner p 1000) (all_right site_of known_of 1000) scope_of (with_parameters f.locals f.parameters) f.code.form block_of.ss block_of.flow block_of.is block_of.typed may world_of block_fits

-- Where the condition holds, the run is right.
abbrev pub ExecRight : Type 0
ExecRight = ValueLaws → (p : Program) (n : ℕ) (frame : Frame) (cells : CellMap) → IsProgram p.table p.members → ExecFits p n frame cells → IsRight (Executes p n frame cells)

pub exec_right : ExecRight
unfolding Executes laid code_of
exec_right laws p n frame cells program f =
    subst (λ (o : Option Code). IsRight (executed p frame cells o)) (sym f.there)
    (under_right (site_of p n frame cells f) (seen frame fin.empty) (λ b. absurd (cc b)) _ [] (action_of_code (inner p 1000) f.code (world_of p n frame cells f)) (block_means p n frame cells f laws program))

-- The cells that it leaves, also at a trap, have the types that they had.
abbrev pub ExecKeeps : Type 0
ExecKeeps = ValueLaws → (p : Program) (n : ℕ) (frame : Frame) (cells : CellMap) → IsProgram p.table p.members → (f : ExecFits p n frame cells) (after : CellMap) → cells_of (Executes p n frame cells) ≡ Some after
    → CellsFit p.table f.types after

live_kept : (site : Site) (o : Option Live) (after : CellMap) → LiveFits site o → live_cells o ≡ Some after → CellsFit site.program.table site.types after
live_kept site None after fits e = cc
live_kept site (Some live) after fits e = let same : live.cells ≡ after = some_same live.cells after e in subst (CellsFit site.program.table site.types) same fits.3

cells_kept : (site : Site) (look : Look) {A : Type 0} (P : A → World → Type 0) (reads : Reads) (m : Asks A) (after : CellMap) → site.is_block ≡ true → Right site P m → ((x : A) (w : World) → P x w → LiveFits site w.live)
    → cells_of (under look reads m) ≡ Some after → CellsFit site.program.table site.types after
unfolding Right under
cells_kept site look P reads (Done x w) after block h live e = live_kept site w.live after (live x w h) e
cells_kept site look P reads (Trapped k w) after block h live e = live_kept site w.live after h e
cells_kept site look P reads Wrong after block h live e = absurd h
cells_kept site look P reads (Ask s w g) after block h live e = absurd (cc (h.0, block))

pub exec_keeps : ExecKeeps
unfolding Executes laid code_of
exec_keeps laws p n frame cells program f after e =
    cells_kept (site_of p n frame cells f) (seen frame fin.empty) _ [] (action_of_code (inner p 1000) f.code (world_of p n frame cells f)) after refl (block_means p n frame cells f laws program) (λ x w h. h)
    (ap (λ (o : Option Code). cells_of (executed p frame cells o)) (sym f.there) ∙ e)
