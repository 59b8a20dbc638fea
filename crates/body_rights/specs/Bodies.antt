-- A body is right where its condition holds.
use Rattle.std.specs.Prelude.{◌≡◌, ℕ, zero, suc, ◌+◌, ◌<◌, ◌≤◌, Bool, true, false, cond, not, ◌||◌, nat_eq, nat_lt, List, [], ◌∷◌, ◌++◌, length, map, take, Option, Some, None, Ok, slice_get, ◌⊎◌}
use Rattle.std.specs.List.{list_any, flat_map}
use Rattle.std.proofs.Common.{refl, sym, ap, subst, ◌∙◌, arith, inl, inr}
use Rattle.std.proofs.lemmas.Bool.Decides.{Decides-eqb}
use Rattle.std.proofs.lemmas.List.Folds.{list_any-append}
use Rattle.std.proofs.lemmas.Option.{slice_get_within}
use Rattle.identity_path.specs.declared.input.Input.{Input}
use Rattle.identity_path.specs.Cells.{CellMap}
use Rattle.swift_core.specs.Codes.{Parts as Program, first_block, block_in, code_at, member_at}
use Rattle.swift_core.specs.Context.{Context, Local, Itself, HasMember, local_of}
use Rattle.swift_core.specs.Mentions.{Mentions, item_mentions, form_mentions}
use Rattle.swift_core.specs.Programs.{IsProgram, Reaches, is_body}
use Rattle.swift_core.specs.Readers.{reader_keeps}
use Rattle.swift_core.specs.Typing.{AreKept, Items, IsBlock, IsReader, IsMain, GivesViews, FitsSignature, itself_in, is_value, stands_in, with_parameters}
use Rattle.swift_core.specs.Uses.{kept_by, locals_of, with_use, first_uses, locals_used, writes_cells, calls_of, body_forms, reader_forms, run_forms}
use Rattle.swift_core.specs.declared.code.Code.{Code}
use Rattle.swift_core.specs.declared.code.CodeForm.{CodeForm}
use Rattle.swift_core.specs.declared.code.CodeForm.TheVariants as code_form
use Rattle.swift_core.specs.declared.code.CoreMember.{CoreMember}
use Rattle.swift_core.specs.declared.ids.BlockId.{BlockId}
use Rattle.swift_core.specs.declared.item.CoreItem.{CoreItem}
use Rattle.swift_core.specs.declared.mention.Mention.{Mention}
use Rattle.swift_core.specs.declared.mention.Mention.TheVariants as mention
use Rattle.swift_core.specs.declared.table.Declaration.{Declaration}
use Rattle.swift_core.specs.declared.table.Kind.{Kind}
use Rattle.swift_core.specs.declared.table.Kind.TheVariants as kind
use Rattle.swift_core.specs.declared.table.ParamSignature.{ParamSignature}
use Rattle.swift_core.specs.declared.table.Signature.{Signature}
use Rattle.swift_core.specs.declared.table.SignatureForm.{SignatureForm}
use Rattle.swift_core.specs.declared.table.SignatureForm.TheVariants as form
use Rattle.swift_core.specs.declared.table.Table.{Table}
use Rattle.swift_core.specs.declared.ty.Ty.{Ty}
use Rattle.core_means.specs.Asks.{World, IsRight, found, Gave, Reads}
use Rattle.core_means.specs.Means.{code_of}
use Rattle.core_means.specs.Public.{absent, begin}
use Rattle.core_means.specs.Sources.{found_input, seen}
use Rattle.core_means.specs.declared.origin.Origin.{Origin}
use Rattle.core_means.specs.declared.origin.Origin.TheVariants as origin
use Rattle.core_means.specs.declared.parts.Frame.{Frame}
use Rattle.core_means.specs.declared.parts.Local.{Local as Held}
use Rattle.core_means.specs.declared.parts.Local.TheVariants as held
use Rattle.body_means.specs.Bodies.{with_captured, parameters, body_locals, root_views, asked_by, Body, Describes}
use Rattle.body_means.specs.Views.{items_in}
use Rattle.value_fits.specs.Patterns.{passes_at}
use Rattle.world_fits.specs.Cells.{frame_shows}
use Rattle.world_fits.specs.Codes.{Quiet, member_of, main_code, quiet_code, all_allowed}
use Rattle.world_fits.specs.Laws.{Known}
use Rattle.world_fits.specs.Lists.{Each, at_front, at_back, some_same}
use Rattle.world_fits.specs.Kept.{kept_have}
use Rattle.world_fits.specs.Runs.{InputsHave}
use Rattle.world_fits.specs.Sites.{Site, Scope, LocalsFit, MayPlace, ItselfFits, is_view}
use Rattle.form_rights.specs.Blocks.{joined_map}
use Rattle.form_rights.specs.Calls.{member_scope}
use Rattle.form_rights.specs.Inside.{MayDo}
use Rattle.meaning_rights.specs.Actions.{shown_of}
use Rattle.meaning_rights.specs.Laws.{value_laws}
use Rattle.meaning_rights.specs.Runs.{view_kind, view_of, is_of_view, itself_fits}
use Rattle.reader_locals.specs.AlterLayers.{Beyond, beyond_none, flat_all}
use Rattle.swift_core.specs.Alters.{item_alters}
use Rattle.reader_locals.specs.Filled.{filled_local, known_at}
use Rattle.body_rights.specs.Begins.{begins_with, reader_locals, none_held}
use Rattle.view_rights.specs.Builders.{items_right}
use Rattle.body_terms.specs.Homes.{Home, block_number, block_code, block_member, main_member, Permitted, Permits}
use Rattle.body_terms.specs.Nodes.{views_right}
use Rattle.body_rights.specs.Runs.{IsUnit, BodyFits}
use Rattle.body_rights.specs.Stands.{NamedBefore, views_have_bodies, reader_stands}
use Rattle.body_terms.specs.Safe.{Fitting}
use Rattle.body_terms.specs.Sound.{Sound, sound_weaker, answer_right, sound_under, AnswerHas}
use Rattle.view_rights.specs.Views.{permits_all}
use Rattle.body_terms.specs.Gives.{PartsFit}
use Rattle.view_nodes.specs.declared.node.Element.{Element}

-- ---- a builder writes nothing

in_flat : {X Y : Type 0} (f : X → List Y) (xs : List X) (i : ℕ) (x : X) (j : ℕ) (y : Y) → slice_get xs i ≡ Some x → slice_get (f x) j ≡ Some y → (k : ℕ) × (slice_get (flat_map f xs) k ≡ Some y)
in_flat f [] i x j y e h = cc
in_flat f (z ∷ xs) zero x j y e h = (j, at_front (f z) (flat_map f xs) j y (ap (λ u. slice_get (f u) j) (some_same z x e) ∙ h))
in_flat f (z ∷ xs) (suc i) x j y e h = let rest = in_flat f xs i x j y e h in (length (f z) + rest.0, at_back (f z) (flat_map f xs) rest.0 ∙ rest.1)

module _ (members : List CoreMember) (n b : ℕ) (m : CoreMember) (c : Code) (items : List CoreItem) (there : slice_get members n ≡ Some m) (at : slice_get m.blocks b ≡ Some c) (is : c.form ≡ code_form.Builder items) where
  abbrev here : CodeForm
  here = code_form.Builder items

  is_reader : slice_get (reader_forms c.form) 0 ≡ Some here
  is_reader = ap (λ (f : CodeForm). slice_get (reader_forms f) 0) is

  among : (k : ℕ) × (slice_get (run_forms m) k ≡ Some here)
  among =
      let k = in_flat (λ (x : Code). reader_forms x.form) m.blocks b c 0 here at is_reader in
      (length (body_forms m.code) + k.0, at_back (body_forms m.code) (flat_map (λ (x : Code). reader_forms x.form) m.blocks) k.0 ∙ k.1)

  -- the builder of a preference reader, in a member that reaches no write
  quiet_reader : (Reaches members n → ⊥) → Quiet members (form_mentions here)
  quiet_reader quiet = record {
    no_write = go (writes_cells here) refl;
    no_call = λ k id e reaches.
        let j = in_flat calls_of (run_forms m) among.0 here k id among.1 e in
        quiet (Reaches.runs j.0 there j.1 reaches);
  }
    where
      go : (t : Bool) → writes_cells here ≡ t → writes_cells here ≡ false
      go false e = e
      go true e = absurd (quiet (Reaches.writes there (passes_at writes_cells (run_forms m) among.0 here among.1 e)))

-- ---- what a reader's builder mentions is there

either_true : (a b : Bool) → (a || b) ≡ true → (a ≡ true) ⊎ (b ≡ true)
either_true true b e = inl refl
either_true false b e = inr e

or_last : (a b : Bool) → b ≡ true → (a || b) ≡ true
or_last true b e = refl
or_last false b e = e

module _ (site : Site) (sc : Scope) (outer n : ℕ) (kept : List ℕ) (shows : (i : ℕ) → sc.shows i ≡ shown_of outer kept i) where
  shown : (i : ℕ) → (nat_lt i outer ≡ true → list_any (nat_eq i) kept ≡ true) → sc.shows i ≡ true
  shown i h = shows i ∙ go (nat_lt i outer) refl
    where
      go : (b : Bool) → nat_lt i outer ≡ b → (not b || list_any (nat_eq i) kept) ≡ true
      go true e = h e
      go false e = refl

  all_shown : (ks : List ℕ) → ((i : ℕ) → nat_lt i outer ≡ true → list_any (nat_eq i) ks ≡ true → list_any (nat_eq i) kept ≡ true) → Each (λ k. sc.shows k ≡ true) ks
  all_shown [] h = tt
  all_shown (k ∷ ks) h = (
    shown k (λ below. h k below (ap (λ b. b || list_any (nat_eq k) ks) ((Decides-eqb k k).1 refl))),
    all_shown ks (λ i below e. h i below (or_last (nat_eq i k) (list_any (nat_eq i) ks) e)),
  )

  taken : (b : ℕ) (cs : List Code) → b < n → slice_get (take n cs) b ≡ slice_get cs b
  taken b cs h = go n b cs h
    where
      go : (n b : ℕ) (cs : List Code) → b < n → slice_get (take n cs) b ≡ slice_get cs b
      go zero b cs h = absurd (omega (arith, h))
      go (suc n) b [] h = refl
      go (suc n) zero (c ∷ cs) h = refl
      go (suc n) (suc b) (c ∷ cs) h = go n b cs (omega (arith, h))

  reader_permits : (ms : Mentions) → Quiet site.program.members ms → Each (NamedBefore n) ms
      → ((i : ℕ) → nat_lt i outer ≡ true → list_any (nat_eq i) (flat_map (locals_of (take n sc.blocks)) ms) ≡ true → list_any (nat_eq i) kept ≡ true) → Permits site sc ms
  reader_permits [] quiet before has = tt
  reader_permits (m ∷ ms) quiet before has = (
    one m quiet before.0 (λ i below e. has i below (list_any-append (nat_eq i) (locals_of (take n sc.blocks) m) (flat_map (locals_of (take n sc.blocks)) ms) ∙ ap (λ b. b || list_any (nat_eq i) (flat_map (locals_of (take n sc.blocks)) ms)) e)),
    reader_permits ms (rest m quiet) before.1
        (λ i below e. has i below (list_any-append (nat_eq i) (locals_of (take n sc.blocks) m) (flat_map (locals_of (take n sc.blocks)) ms) ∙ or_last (list_any (nat_eq i) (locals_of (take n sc.blocks) m)) (list_any (nat_eq i) (flat_map (locals_of (take n sc.blocks)) ms)) e)),
  )
    where
      rest : (m : Mention) → Quiet site.program.members (m ∷ ms) → Quiet site.program.members ms
      rest (mention.Local i) q = record { no_write = q.no_write; no_call = q.no_call }
      rest (mention.Code c) q = record { no_write = q.no_write; no_call = λ k id e. q.no_call (suc k) id e }
      rest mention.Write q = absurd (cc (q.no_write))
      rest (mention.Block b) q = record { no_write = q.no_write; no_call = q.no_call }

      one : (m : Mention) → Quiet site.program.members (m ∷ ms) → NamedBefore n m → ((i : ℕ) → nat_lt i outer ≡ true → list_any (nat_eq i) (locals_of (take n sc.blocks) m) ≡ true → list_any (nat_eq i) kept ≡ true) → Permitted site sc m
      one (mention.Local i) q before h = (shown i (λ below. h i below (ap (λ b. b || false) ((Decides-eqb i i).1 refl))), tt)
      one (mention.Code c) q before h = (λ v body. q.no_call 0 c refl, tt)
      one mention.Write q before h = absurd (cc (q.no_write))
      one (mention.Block b) q before h = (tt, all_shown (kept_by (slice_get sc.blocks b.number)) (λ i below e. h i below (ap (λ (o : Option Code). list_any (nat_eq i) (kept_by o)) (taken b.number sc.blocks before) ∙ e)))

-- a use that is below the limit is among the first uses
stays_used : (limit : ℕ) (uses : List ℕ) (i j : ℕ) → list_any (nat_eq i) uses ≡ true → list_any (nat_eq i) (with_use limit uses j) ≡ true
stays_used limit uses i j e = go (nat_lt j limit) (list_any (nat_eq j) uses)
  where
    go : (b c : Bool) → list_any (nat_eq i) (cond b (cond c uses (uses ++ j ∷ [])) uses) ≡ true
    go true true = e
    go true false = list_any-append (nat_eq i) uses (j ∷ []) ∙ ap (λ b. b || list_any (nat_eq i) (j ∷ [])) e
    go false c = e

now_used : (limit : ℕ) (uses : List ℕ) (i j : ℕ) → nat_lt i limit ≡ true → nat_eq i j ≡ true → list_any (nat_eq i) (with_use limit uses j) ≡ true
now_used limit uses i j below same = subst (λ (k : ℕ). list_any (nat_eq i) (with_use limit uses k) ≡ true) ((Decides-eqb i j).0 same) (go (nat_lt i limit) (list_any (nat_eq i) uses) below refl)
  where
    go : (b c : Bool) → b ≡ true → list_any (nat_eq i) uses ≡ c → list_any (nat_eq i) (cond b (cond c uses (uses ++ i ∷ [])) uses) ≡ true
    go true true e f = f
    go true false e f = list_any-append (nat_eq i) uses (i ∷ []) ∙ or_last (list_any (nat_eq i) uses) (list_any (nat_eq i) (i ∷ [])) (ap (λ b. b || false) ((Decides-eqb i i).1 refl))
    go false c e f = cc

used_first : (limit : ℕ) (is : List ℕ) (uses : List ℕ) (i : ℕ) → nat_lt i limit ≡ true → (list_any (nat_eq i) uses ≡ true) ⊎ (list_any (nat_eq i) is ≡ true) → list_any (nat_eq i) (first_uses limit uses is) ≡ true
unfolding first_uses
used_first limit [] uses i below (inl e) = e
used_first limit [] uses i below (inr e) = cc
used_first limit (j ∷ is) uses i below (inl e) = used_first limit is (with_use limit uses j) i below (inl (stays_used limit uses i j e))
used_first limit (j ∷ is) uses i below (inr e) = used_first limit is (with_use limit uses j) i below (next (either_true (nat_eq i j) (list_any (nat_eq i) is) e))
  where
    next : (nat_eq i j ≡ true) ⊎ (list_any (nat_eq i) is ≡ true) → (list_any (nat_eq i) (with_use limit uses j) ≡ true) ⊎ (list_any (nat_eq i) is ≡ true)
    next (inl same) = inl (now_used limit uses i j below same)
    next (inr more) = inr more

-- ---- the code of a unit

-- the code of a member that is a builder without parameters
record BodyCode (cx : Context) (m : CoreMember) : Type 0 where
  code : Code
  has : m.code ≡ Some code
  items : List CoreItem
  is : code.form ≡ code_form.Builder items
  outer : code.outer ≡ 0
  kept : code.kept ≡ []
  no_parameters : code.parameters ≡ 0
  typed : Items cx [] items

body_code : (table : Table) (d : ℕ) (k : Kind) (m : CoreMember) → FitsSignature table d k m form.BuilderProperty → BodyCode (record { table = table; owner = Some d; itself = itself_in k; blocks = m.blocks }) m
body_code table d k m (FitsSignature.builder_property {is = items} begins typed stand) = go (code_form.Builder items) begins refl
  where
    go : (f : CodeForm) → IsMain m [] f → f ≡ code_form.Builder items → BodyCode (record { table = table; owner = Some d; itself = itself_in k; blocks = m.blocks }) m
    go f (IsMain.main {c = c} has outer kept parameters types) is = record { code = c; has = has; items = items; is = is; outer = outer; kept = kept; no_parameters = parameters; typed = typed }

-- the builder of a preference reader
record ReaderCode (cx : Context) (locals : List Local) (b : BlockId) (t : Ty) : Type 0 where
  code : Code
  there : slice_get cx.blocks b.number ≡ Some code
  items : List CoreItem
  is : code.form ≡ code_form.Builder items
  outer : code.outer ≡ length locals
  one_parameter : code.parameters ≡ 1
  kept : code.kept ≡ locals_used (take b.number cx.blocks) code.outer code.form
  are : AreKept locals code.kept (t ∷ []) (map local_of code.types)
  typed : Items cx (with_parameters locals (t ∷ [])) items
  keeps : reader_keeps (length locals) b.number (code_form.Builder items) ≡ true

reader_code : (cx : Context) (locals : List Local) (b : BlockId) (t : Ty) → IsReader cx locals b t → ReaderCode cx locals b t
reader_code cx locals b t (IsReader.reader {form = f} {is = items} written is typed keeps) = go f written is
  where
    go : (f : CodeForm) → IsBlock cx locals b (t ∷ []) f → f ≡ code_form.Builder items → ReaderCode cx locals b t
    go f (IsBlock.written_here {c = c} there outer parameters kept are) is = record { code = c; there = there; items = items; is = is; outer = outer; one_parameter = parameters; kept = kept; are = are; typed = typed; keeps = keeps }

builder_value : (k : Kind) (s : Signature) (ps : List ParamSignature) → GivesViews s ps → stands_in k s.form ≡ true → is_value (itself_in k) ≡ false
builder_value k s ps (GivesViews.by_builder_property e) stands = go k (subst (λ (f : SignatureForm). stands_in k f ≡ true) e stands)
  where
    go : (k : Kind) → stands_in k form.BuilderProperty ≡ true → is_value (itself_in k) ≡ false
    go (kind.Data b) h = cc
    go (kind.Enum b n) h = cc
    go kind.View h = refl
    go kind.App h = refl
    go (kind.Key n) h = cc
builder_value k s ps (GivesViews.by_builder_function e) stands = go k (subst (λ (f : SignatureForm). stands_in k f ≡ true) e stands)
  where
    go : (k : Kind) → stands_in k (form.BuilderFunction ps) ≡ true → is_value (itself_in k) ≡ false
    go (kind.Data b) h = cc
    go (kind.Enum b n) h = cc
    go kind.View h = refl
    go kind.App h = cc
    go (kind.Key n) h = cc

views_are_bodies : (s : Signature) (ps : List ParamSignature) → GivesViews s ps → is_body s.form ≡ true
views_are_bodies s ps (GivesViews.by_builder_property e) = ap is_body e
views_are_bodies s ps (GivesViews.by_builder_function e) = ap is_body e

-- no member that gives views reaches a write
pure_views : (table : Table) (members : List CoreMember) → IsProgram table members → (d : ℕ) (s : Signature) (ps : List ParamSignature) → HasMember table d s → GivesViews s ps → Reaches members s.code.number → ⊥
pure_views table members program d s ps (HasMember.member {declaration = declaration} at declared there) gives = program.pure d declaration at s declared there (views_are_bodies s ps gives)

-- ---- units

at_least : (n m : ℕ) → n ≡ m → m ≤ n
at_least n m e = omega (arith, e)

too_far : (n m i : ℕ) → n ≡ m → m ≤ i → i < n → ⊥
too_far n m i e behind within = omega (arith, e, behind, within)

module _ (p : Program) (program : IsProgram p.table p.members) (unit : ℕ) (frame : Frame) (cells : CellMap) (f : BodyFits p unit frame cells) where
  abbrev site_of : Site
  site_of = record { program = p; view = view_of (itself_in f.declaration.kind) (Some f.d); home = frame.path; types = f.types; is_block = false }

  known_of : Known site_of
  known_of = record { laws = value_laws; program = program; slots = λ d n t a s view has form. let v = is_of_view (itself_in f.declaration.kind) (Some f.d) d view in (f.view_has v.0 d v.1).slots s n t a has form }

  no_value : (s : Signature) (ps : List ParamSignature) → HasMember p.table f.d s → GivesViews s ps → is_value (itself_in f.declaration.kind) ≡ false
  no_value s ps has gives =
      let m = member_of p.table p.members program f.d s has in
      let same : m.declaration ≡ f.declaration = some_same m.declaration f.declaration (sym m.declared ∙ f.declared) in
      builder_value f.declaration.kind s ps gives (subst (λ (x : Declaration). stands_in x.kind s.form ≡ true) same m.stands)

  own_itself : (s : Signature) (ps : List ParamSignature) → HasMember p.table f.d s → GivesViews s ps → ItselfFits site_of (itself_in f.declaration.kind) (Some f.d) None
  own_itself s ps has gives = itself_fits site_of (itself_in f.declaration.kind) (Some f.d) None f.d f.declaration refl refl f.declared (view_kind f.declaration.kind) (no_value s ps has gives)

  -- how many locals the unit captures, with its preference
  abbrev whole : ℕ
  whole = f.code.outer + f.code.parameters

  abbrev Gives : List Element → World → Type 0
  Gives vs u = PartsFit p f.types whole vs

  abbrev Goal : Type 0
  Goal = Sound site_of frame.locals Gives (Body p unit frame.path)

  -- with the items of the unit
  begun : (items : List CoreItem) → f.code.form ≡ code_form.Builder items → Sound site_of frame.locals Gives (root_views p unit items (begin (body_locals f.code) frame.path None)) → Goal
  unfolding Body code_of
  begun items is h =
      subst (λ (o : Option Code). Sound site_of frame.locals Gives (asked_by p unit frame.path o)) (sym f.there)
      (subst (λ (o : Option (List CoreItem)). Sound site_of frame.locals Gives (found o (root_views p unit) (begin (body_locals f.code) frame.path None))) (sym (ap items_in is)) h)

  body_right : (s : Signature) → HasMember p.table f.d s → s.form ≡ form.BuilderProperty → s.code.number ≡ unit → Goal
  unfolding with_captured parameters
  body_right s has is number =
      let m = member_of p.table p.members program f.d s has in
      let same_declaration : m.declaration ≡ f.declaration = some_same m.declaration f.declaration (sym m.declared ∙ f.declared) in
      let fits = subst (λ (x : Declaration). FitsSignature p.table f.d x.kind m.member form.BuilderProperty) same_declaration (subst (FitsSignature p.table f.d m.declaration.kind m.member) is m.fits) in
      let c = body_code p.table f.d f.declaration.kind m.member fits in
      let there : slice_get p.members unit ≡ Some m.member = ap (slice_get p.members) (sym number) ∙ m.there in
      let same : c.code ≡ f.code = some_same c.code f.code (sym (main_code p.members unit m.member c.code there c.has) ∙ f.there) in
      let sc : Scope = member_scope f.d (itself_in f.declaration.kind) m.member in
      let home : Home p whole 0 sc unit = record {
        d = f.d;
        declaration = f.declaration;
        declared = f.declared;
        sign = s;
        has = has;
        parameters_of = [];
        views = GivesViews.by_builder_property is;
        member = m.member;
        is_of = main_member p.members unit m.member there ∙ ap Some (sym number);
        there = m.there;
        owner = refl;
        its = refl;
        blocks = refl;
        is_limit = inl refl;
      } in
      let none : body_locals c.code ≡ [] = λ j. with_captured (absent (c.outer j)) 0 (c.kept j) ++ parameters (c.no_parameters j) in
      let w : World = begin [] frame.path None in
      let fit : Fitting site_of frame.locals 0 sc [] w = record {
        fits = record {
          here = record { as_many = refl; each = λ i l e. cc };
          places = λ i t e. cc;
          itself = own_itself s [] has (GivesViews.by_builder_property is);
          home = refl;
          live = refl;
        };
        settled = record { quiet = refl; stands = λ i l behind e. cc; long = omega arith; veiled = λ i x before e. cc };
      } in
      let quiet = quiet_code p.members unit m.member c.code there c.has (subst (λ (n : ℕ). Reaches p.members n → ⊥) number (pure_views p.table p.members program f.d s [] has (GivesViews.by_builder_property is))) in
      let allowed = all_allowed site_of sc (form_mentions c.code.form) (λ j. refl) (λ v b. quiet) in
      let permits = subst (Permits site_of sc) (joined_map item_mentions c.items) (permits_all site_of sc (form_mentions (code_form.Builder c.items)) (λ j. refl) (subst (λ (g : CodeForm). MayDo site_of sc (form_mentions g)) c.is allowed)) in
      begun c.items (ap (λ (x : Code). x.form) (sym same) ∙ c.is)
      (subst (λ (ls : List Held). Sound site_of frame.locals Gives (root_views p unit c.items (begin ls frame.path None))) (sym (ap body_locals (sym same) ∙ none))
      (sound_weaker site_of frame.locals (root_views p unit c.items w)
      (views_right site_of frame.locals whole 1000 (items_right site_of known_of (views_have_bodies p.table p.members program) frame.locals whole 1000) 0 sc unit home [] c.items c.typed permits (beyond_none _) [] PartsFit.no_parts w fit) (λ vs u e. e.0)))

  reader_right : (s : Signature) (ps : List ParamSignature) (m : CoreMember) (b : BlockId) (locals : List Local) (t : Ty) → HasMember p.table f.d s → GivesViews s ps → slice_get p.members s.code.number ≡ Some m
      → block_in p.members b.number (Some s.code.number) ≡ Some unit → IsReader (record { table = p.table; owner = Some f.d; itself = itself_in f.declaration.kind; blocks = m.blocks }) locals b t
      → ((i : ℕ) (u : Ty) → slice_get locals i ≡ Some (Local.placed u) → itself_in f.declaration.kind ≡ Itself.a_view) → Goal
  unfolding parameters
  reader_right s ps m b locals t has gives there number read_at places =
      let c = reader_code (record { table = p.table; owner = Some f.d; itself = itself_in f.declaration.kind; blocks = m.blocks }) locals b t read_at in
      let within = slice_get_within m.blocks b.number c.code c.there in
      let at : first_block p.members s.code.number + b.number ≡ unit = some_same _ unit (sym (block_number p.members s.code.number m b.number there within) ∙ number) in
      let coded : code_at p unit ≡ Some c.code = subst (λ (n : ℕ). code_at p n ≡ Some c.code) at (block_code p.members s.code.number m b.number c.code there c.there) in
      let same : c.code ≡ f.code = some_same c.code f.code (sym coded ∙ f.there) in
      let sc : Scope = record { owner = Some f.d; itself = itself_in f.declaration.kind; blocks = m.blocks; shows = shown_of c.code.outer c.code.kept } in
      let home : Home p whole (c.code.outer + c.code.parameters) sc unit = record {
        d = f.d;
        declaration = f.declaration;
        declared = f.declared;
        sign = s;
        has = has;
        parameters_of = ps;
        views = gives;
        member = m;
        is_of = ap (λ (n : ℕ). member_at p n) (sym at) ∙ block_member p.members s.code.number m b.number there within;
        there = there;
        owner = refl;
        its = refl;
        blocks = refl;
        is_limit = inr (ap (λ (x : Code). x.outer + x.parameters) same);
      } in
      let limit = c.code.outer + c.code.parameters in
      let holds = with_captured (absent c.code.outer) 0 c.code.kept ++ held.Preference ∷ [] in
      let same_locals : body_locals c.code ≡ holds = ap (λ n. with_captured (absent c.code.outer) 0 c.code.kept ++ parameters n) c.one_parameter in
      let long : length (body_locals c.code) ≡ limit = begins_with c.code.outer c.code.parameters c.code.kept in
      let w : World = begin (body_locals c.code) frame.path None in
      let fit : Fitting site_of frame.locals limit sc (with_parameters locals (t ∷ [])) w = record {
        fits = record {
          here = subst (λ (ls : List Held). LocalsFit site_of sc.shows (with_parameters locals (t ∷ [])) (map (filled_local frame.locals) ls)) (sym same_locals)
              (reader_locals site_of frame.locals locals c.code.kept t c.code.outer c.outer
              (kept_have p.table f.types locals c.code.kept (t ∷ []) (map local_of c.code.types) frame.locals c.are
              (subst (λ (x : Code). InputsHave p.table f.types (map local_of x.types) frame.locals) (sym same) f.locals_have)));
          places = reader_places locals t places;
          itself = own_itself s ps has gives;
          home = refl;
          live = refl;
        };
        settled = record {
          quiet = refl;
          stands = λ i l behind e. absurd (too_far (length (body_locals c.code)) limit i long behind (slice_get_within (body_locals c.code) i l e));
          long = at_least (length (body_locals c.code)) limit long;
          veiled = λ i x before e. none_held c.code.outer c.code.parameters c.code.kept i x e;
        };
      } in
      let reads = reader_stands (length locals) c.code.outer c.code.parameters b.number c.items c.outer c.one_parameter c.keeps in
      let quiet = quiet_reader p.members s.code.number b.number m c.code c.items there c.there c.is (pure_views p.table p.members program f.d s ps has gives) in
      let uses : (i : ℕ) → nat_lt i c.code.outer ≡ true → list_any (nat_eq i) (flat_map (locals_of (take b.number m.blocks)) (form_mentions (code_form.Builder c.items))) ≡ true → list_any (nat_eq i) c.code.kept ≡ true =
      λ i below e. subst (λ (ks : List ℕ). list_any (nat_eq i) ks ≡ true) (sym (c.kept ∙ ap (locals_used (take b.number m.blocks) c.code.outer) c.is))
      (used_first c.code.outer (flat_map (locals_of (take b.number m.blocks)) (form_mentions (code_form.Builder c.items))) [] i below (inr e)) in
      let permits = reader_permits site_of sc c.code.outer b.number c.code.kept (λ i. refl) (form_mentions (code_form.Builder c.items)) quiet reads.names_before uses in
      begun c.items (ap (λ (x : Code). x.form) (sym same) ∙ c.is)
      (subst (λ (x : Code). Sound site_of frame.locals Gives (root_views p unit c.items (begin (body_locals x) frame.path None))) same
      (sound_weaker site_of frame.locals (root_views p unit c.items w)
      (views_right site_of frame.locals whole 1000 (items_right site_of known_of (views_have_bodies p.table p.members program) frame.locals whole 1000) limit sc unit home (with_parameters locals (t ∷ [])) c.items c.typed
      (subst (Permits site_of sc) (joined_map item_mentions c.items) permits) (subst (Beyond limit) (flat_all item_alters c.items) reads.no_captured_changed) [] PartsFit.no_parts w fit) (λ vs u e. e.0)))
    where
      reader_places : (locals : List Local) (t : Ty) → ((i : ℕ) (u : Ty) → slice_get locals i ≡ Some (Local.placed u) → itself_in f.declaration.kind ≡ Itself.a_view) → MayPlace site_of (itself_in f.declaration.kind) (with_parameters locals (t ∷ []))
      reader_places [] t h zero u e = cc
      reader_places [] t h (suc i) u e = cc
      reader_places (l ∷ ls) t h zero u e = inl (ap is_view (h zero u e))
      reader_places (l ∷ ls) t h (suc i) u e = reader_places ls t (λ j v k. h (suc j) v k) i u e

  unit_right : (locals : List Local) (ts : List Ty) → IsUnit p unit f.d f.declaration.kind locals ts → Goal
  unit_right locals ts (IsUnit.a_body {s = s} has is number) = body_right s has is number
  unit_right ls ts (IsUnit.a_reader {s = s} {ps = ps} {m = m} {b = b} {locals = locals} {t = t} has gives there number read_at places) = reader_right s ps m b locals t has gives there number read_at places

  knows : (s : Origin) (v : Input) → known_at frame.locals s ≡ Some v → seen frame cells s ≡ Some (Ok v)
  knows (origin.Input i) v e = cc
  knows (origin.Slot rule) v e = cc
  knows (origin.Place place) v e = cc
  knows (origin.Environment key) v e = cc
  knows (origin.Captured i) v e = ap found_input e
  knows origin.Preference v e = ap found_input e

  pub describes : AnswerHas Gives (Describes p unit frame cells)
  unfolding Describes
  describes =
      sound_under site_of frame.locals (seen frame cells)
      (frame_shows site_of known_of frame cells (λ d view. let v = is_of_view (itself_in f.declaration.kind) (Some f.d) d view in f.view_has v.0 d v.1) f.cells_fit) knows
      Gives [] (Body p unit frame.path)
      (unit_right f.locals f.parameters f.is_unit)

-- Where the condition holds, a body has a meaning: it gives a description, or traps.
abbrev pub BodiesAreRight : Type 0
BodiesAreRight = (p : Program) (unit : ℕ) (frame : Frame) (cells : CellMap) → IsProgram p.table p.members → BodyFits p unit frame cells → IsRight (Describes p unit frame cells)

pub bodies_are_right : BodiesAreRight
bodies_are_right p unit frame cells program f =
    answer_right (λ vs u. PartsFit p f.types (f.code.outer + f.code.parameters) vs) (Describes p unit frame cells) (describes p program unit frame cells f)

-- And what it gives is typed: what its blocks keep, what its readers captured, and what its custom views are given.
abbrev pub BodiesGive : Type 0
BodiesGive = (p : Program) (unit : ℕ) (frame : Frame) (cells : CellMap) → IsProgram p.table p.members → (f : BodyFits p unit frame cells) (views : List Element) (w : World) (reads : Reads)
    → Describes p unit frame cells ≡ Gave views w reads → PartsFit p f.types (f.code.outer + f.code.parameters) views

pub bodies_give : BodiesGive
bodies_give p unit frame cells program f views w reads e =
    subst (AnswerHas (λ vs u. PartsFit p f.types (f.code.outer + f.code.parameters) vs)) e (describes p program unit frame cells f)
