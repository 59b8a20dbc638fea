-- The evaluation of a piece of code, and the run of an action block, are right where their conditions hold.
use Rattle.std.specs.Prelude.{◌≡◌, ℕ, zero, suc, Bool, true, false, List, [], ◌∷◌, ◌++◌, length, map, Option, Some, None, slice_get, ⊤}
use Rattle.std.proofs.Common.{refl, sym, ap, subst, ◌∙◌, arith}
use Rattle.std.proofs.lemmas.Option.{slice_get_within}
use Rattle.identity_path.specs.declared.input.Input.{Input}
use Rattle.identity_path.specs.Cells.{CellMap}
use Rattle.sv_value.specs.declared.value.Value.{Value}
use Rattle.swift_core.specs.Codes.{Parts as Program, code_at}
use Rattle.swift_core.specs.Context.{Context, Local, Itself}
use Rattle.swift_core.specs.Mentions.{stmt_mentions, form_mentions}
use Rattle.swift_core.specs.Programs.{IsProgram, StandsAt, DefaultStands}
use Rattle.swift_core.specs.Typing.{Statements, in_body, Flow as HowItEnds, GivesValue, GivesResult, HasInitial, FitsSignature, FitsKey, IsMain, IsTypedAt, HasPreference, itself_in, itself_in_function, is_value}
use Rattle.swift_core.specs.declared.code.Code.{Code}
use Rattle.swift_core.specs.declared.code.CodeForm.{CodeForm}
use Rattle.swift_core.specs.declared.code.CodeForm.TheVariants as code
use Rattle.swift_core.specs.declared.code.CoreMember.{CoreMember}
use Rattle.swift_core.specs.declared.stmt.CoreStmt.{CoreStmt}
use Rattle.swift_core.specs.declared.table.Argument.{Argument}
use Rattle.swift_core.specs.declared.table.Declaration.{Declaration}
use Rattle.swift_core.specs.declared.table.Kind.{Kind}
use Rattle.swift_core.specs.declared.table.Kind.TheVariants as kind
use Rattle.swift_core.specs.declared.table.MemberPlace.{MemberPlace}
use Rattle.swift_core.specs.declared.table.PreferenceKey.{PreferenceKey}
use Rattle.swift_core.specs.declared.table.SignatureForm.{SignatureForm}
use Rattle.swift_core.specs.declared.table.SignatureForm.TheVariants as form
use Rattle.swift_core.specs.declared.table.Table.{Table}
use Rattle.swift_core.specs.declared.ty.Ty.{Ty}
use Rattle.core_means.specs.Asks.{World, IsRight}
use Rattle.core_means.specs.Means.{Inside, inner, block, code_of}
use Rattle.core_means.specs.Public.{holding, absent, placed, laid, begin, given_by, value_of_form, value_of_code, evaluated, Evaluates}
use Rattle.core_means.specs.Sources.{seen}
use Rattle.core_means.specs.declared.parts.Flow.{Flow}
use Rattle.core_means.specs.declared.parts.Flow.TheVariants.{Next, Returned, Broke, Continued}
use Rattle.core_means.specs.declared.parts.Frame.{Frame}
use Rattle.core_means.specs.declared.parts.Local.TheVariants as held
use Rattle.world_fits.specs.Cells.{frame_shows}
use Rattle.world_fits.specs.Codes.{member_of, has_code, code_is, quiet_code, all_allowed}
use Rattle.world_fits.specs.Frames.{HasAt}
use Rattle.world_fits.specs.Laws.{ValueLaws, Known}
use Rattle.world_fits.specs.Lists.{some_same, at_front}
use Rattle.world_fits.specs.Locals.{no_places}
use Rattle.world_fits.specs.Places.{plain_local_right}
use Rattle.world_fits.specs.Right.{Right, then_right, weaker, done_right, under_right}
use Rattle.world_fits.specs.Runs.{InputsHave, GivesValueWith, IsEvaluated, EvalFits}
use Rattle.world_fits.specs.Sites.{Site, Scope, context, Holds, LocalHas, LocalsFit, ItselfFits, Fits}
use Rattle.form_rights.specs.Blocks.{block_right, joined_map}
use Rattle.form_rights.specs.Callees.{MainCode, main_of}
use Rattle.form_rights.specs.Calls.{same_types}
use Rattle.meaning_rights.specs.Forms.{all_right}
use Rattle.form_rights.specs.Inside.{MayDo, FlowFits, Rights}

-- ---- what code without a caller gives

-- a value of a type, or that of the first local at the end
pub data Answers (cx : Context) (locals : List Local) : CodeForm → Type 0 where
  a_value : {c : CodeForm} {t : Ty} → GivesValue cx locals c t → Answers cx locals c
  first_local : {ss : List CoreStmt} {f : HowItEnds} (t : Ty) → slice_get locals 0 ≡ Some (Local.valued t) → Statements cx None in_body locals ss f → Answers cx locals (code.Statements ss)

module _ (site : Site) (known : Known site) (i : Inside) (r : Rights site i) (sc : Scope) (locals : List Local) where
  flow_value : (t : Ty) (f : HowItEnds) (flow : Flow) (u : World) → f.ends ≡ true → FlowFits site (Some t) in_body f flow → Right site (λ v o. ⊤) (given_by flow u)
  flow_value t f Next u ends h = absurd (cc (ends, h))
  flow_value t f (Returned None) u ends h = absurd (cc h)
  flow_value t f (Returned (Some v)) u ends h = done_right site _ v u tt
  flow_value t f Broke u ends h = absurd (cc (h.1))
  flow_value t f Continued u ends h = absurd (cc h)

  last_value : (t : Ty) (f : HowItEnds) (flow : Flow) (u : World) (more : List Local) → sc.shows 0 ≡ true → slice_get (locals ++ more) 0 ≡ Some (Local.valued t) → FlowFits site None in_body f flow → Fits site sc (locals ++ more) u
      → Right site (λ v o. ⊤) (given_by flow u)
  last_value t f Next u more shows first h fit = weaker site _ (plain_local_right site known sc (locals ++ more) u fit 0 t first shows) (λ v o e. tt)
  last_value t f (Returned None) u more shows first h fit = weaker site _ (plain_local_right site known sc (locals ++ more) u fit 0 t first shows) (λ v o e. tt)
  last_value t f (Returned (Some v)) u more shows first h fit = absurd (cc (h.1))
  last_value t f Broke u more shows first h fit = absurd (cc (h.1))
  last_value t f Continued u more shows first h fit = absurd (cc h)

  pub answers_right : (c : CodeForm) → Answers (context site sc) locals c → sc.shows 0 ≡ true → MayDo site sc (form_mentions c) → (w : World) → Fits site sc locals w → Right site (λ v u. ⊤) (value_of_form i c w)
  answers_right c (Answers.a_value {t = t} (GivesValue.by_term {c = e} h)) shows may w fit = weaker site (i.eval e w) (r.eval sc locals e t h may w fit) (λ v u k. tt)
  answers_right c (Answers.a_value {t = t} (GivesValue.by_statements {ss = ss} {f = f} h ends)) shows may w fit =
      then_right site _ (block i ss w) given_by (block_right site i r sc (Some t) locals in_body ss f h (subst (MayDo site sc) (joined_map stmt_mentions ss) may) w fit)
      (λ flow u e. flow_value t f flow u ends e.0)
  answers_right c (Answers.first_local {ss = ss} {f = f} t first h) shows may w fit =
      then_right site _ (block i ss w) given_by (block_right site i r sc None locals in_body ss f h (subst (MayDo site sc) (joined_map stmt_mentions ss) may) w fit)
      (λ flow u e. last_value t f flow u e.1.0 shows (at_front locals e.1.0 0 (Local.valued t) first) e.0 e.1.1)

-- ---- the locals at the beginning

pub held_inputs : (site : Site) (shows : ℕ → Bool) (ls : List Local) (xs : List Input) → InputsHave site.program.table site.types ls xs → LocalsFit site shows ls (holding xs)
held_inputs site shows [] [] h = record { as_many = refl; each = λ i k e. cc }
held_inputs site shows [] (x ∷ xs) h = absurd h
held_inputs site shows (l ∷ ls) [] h = absurd h
held_inputs site shows (l ∷ ls) (x ∷ xs) h =
    let rest = held_inputs site (λ i. shows (suc i)) ls xs h.1 in
    record { as_many = ap suc rest.as_many; each = each rest }
  where
    each : LocalsFit site (λ i. shows (suc i)) ls (holding xs) → (i : ℕ) (k : Local) → slice_get (l ∷ ls) i ≡ Some k → HasAt (LocalHas site (shows i) k) (held.Holds x ∷ holding xs) i
    each rest zero k e = (held.Holds x, refl, subst (λ (m : Local). Holds site m x) (some_same l k e) h.0)
    each rest (suc i) k e = rest.each i k e

-- ---- which code it is, and what it gives

-- the code of a member with what it gives
record Gives (table : Table) (itself : Itself) (owner : Option ℕ) (m : CoreMember) (ts : List Ty) : Type 0 where
  of : CodeForm
  main : MainCode m ts of
  answers : Answers (record { table = table; owner = owner; itself = itself; blocks = m.blocks }) (map Local.valued ts) of

initial_gives : (table : Table) (owner : Option ℕ) (m : CoreMember) (c : Code) (t : Ty) (a : Argument) → m.code ≡ Some c → HasInitial (record { table = table; owner = owner; itself = Itself.no_self; blocks = m.blocks }) m t a
    → Gives table Itself.no_self owner m []
initial_gives table owner m c t a has (HasInitial.initial_written {c = e} w begins h) = record { of = code.Value e; main = main_of m [] (code.Value e) begins; answers = Answers.a_value (GivesValue.by_term h) }
initial_gives table owner m c t a has (HasInitial.initial_nil w inside none) = absurd (cc (has, none))
initial_gives table owner m c t a has (HasInitial.no_initial w none) = absurd (cc (has, none))

preference_type : (table : Table) (n : ℕ) (t u : Ty) → HasPreference table n t → HasPreference table n u → t ≡ u
preference_type table n t u (HasPreference.key {p = p} at typed) (HasPreference.key {p = q} there is) =
    let same : p ≡ q = some_same p q (sym at ∙ there) in some_same t u (sym typed ∙ ap (λ (x : PreferenceKey). x.ty) same ∙ is)

key_number : (n m : ℕ) → kind.Key n ≡ kind.Key m → n ≡ m
key_number n m e = cc

function_gives : (table : Table) (d : ℕ) (m : CoreMember) (itself : Itself) (t : Ty) (ts us : List Ty) (c : CodeForm) → us ≡ ts → IsMain m us c
    → GivesResult (record { table = table; owner = Some d; itself = itself; blocks = m.blocks }) (map Local.valued us) c (Some t) → Gives table itself (Some d) m ts
function_gives table d m itself t ts us c same begins (GivesResult.with_value h) =
    subst (Gives table itself (Some d) m) same (record { of = c; main = main_of m us c begins; answers = Answers.a_value h })

member_gives : (table : Table) (d : ℕ) (k : Kind) (m : CoreMember) (c : Code) (f : SignatureForm) (itself : Itself) (ts : List Ty) → m.code ≡ Some c → GivesValueWith table k f itself ts → FitsSignature table d k m f
    → Gives table itself (Some d) m ts
member_gives table d k m c f _ ts has (GivesValueWith.initial_of_stored) (FitsSignature.stored {t = t} {a = a} h) = initial_gives table (Some d) m c t a has h
member_gives table d k m c f _ ts has (GivesValueWith.initial_of_state) (FitsSignature.state {t = t} {a = a} h) = initial_gives table (Some d) m c t a has h
member_gives table d k m c f _ ts has (GivesValueWith.of_static) (FitsSignature.static_value {c = e} begins h) = record { of = e; main = main_of m [] e begins; answers = Answers.a_value h }
member_gives table d k m c f _ ts has (GivesValueWith.of_computed) (FitsSignature.computed_value {c = e} begins h) = record { of = e; main = main_of m [] e begins; answers = Answers.a_value h }
member_gives table d k m c f _ ts has (GivesValueWith.of_function {t = t} {mutating = mutating} typed) (FitsSignature.function_body {ts = us} {c = e} is begins h) =
    function_gives table d m (itself_in_function mutating k) t ts us e (same_types us ts (sym is ∙ typed)) begins h
member_gives table d k m c f _ ts has (GivesValueWith.of_reduce {n = n} {t = t} key pref) (FitsSignature.reduce {n = n'} {t = t'} {ss = ss} {f = flow} key' pref' begins h) =
    let same_key : n' ≡ n = key_number n' n (sym key' ∙ key) in
    let same : t' ≡ t = preference_type table n t' t (subst (λ (x : ℕ). HasPreference table x t') same_key pref') pref in
    subst (λ (u : Ty). Gives table Itself.no_self (Some d) m (u ∷ u ∷ [])) same
    (record { of = code.Statements ss; main = main_of m (t' ∷ t' ∷ []) (code.Statements ss) begins; answers = Answers.first_local t' refl h })

key_gives : (table : Table) (n : ℕ) (m : CoreMember) → FitsKey table n m → Gives table Itself.no_self None m []
key_gives table n m (FitsKey.default_value {c = e} at typed begins h) = record { of = code.Value e; main = main_of m [] (code.Value e) begins; answers = Answers.a_value (GivesValue.by_term h) }

-- what `self` is in code that is evaluated
pub view_kind : (k : Kind) → itself_in k ≡ Itself.a_view → k ≡ kind.View
view_kind (kind.Data b) e = cc
view_kind (kind.Enum b n) e = cc
view_kind kind.View e = refl
view_kind kind.App e = cc
view_kind (kind.Key n) e = cc

function_kind : (mutating : Bool) (k : Kind) → itself_in_function mutating k ≡ Itself.a_view → k ≡ kind.View
function_kind true k e = cc
function_kind false k e = view_kind k e

evaluated_kind : (table : Table) (k : Kind) (f : SignatureForm) (itself : Itself) (ts : List Ty) → GivesValueWith table k f itself ts → itself ≡ Itself.a_view → k ≡ kind.View
evaluated_kind table k f _ ts (GivesValueWith.initial_of_stored) e = cc
evaluated_kind table k f _ ts (GivesValueWith.initial_of_state) e = cc
evaluated_kind table k f _ ts (GivesValueWith.of_static) e = cc
evaluated_kind table k f _ ts (GivesValueWith.of_computed) e = view_kind k e
evaluated_kind table k f _ ts (GivesValueWith.of_function {mutating = mutating} typed) e = function_kind mutating k e
evaluated_kind table k f _ ts (GivesValueWith.of_reduce key pref) e = cc

-- the view whose frame it is
abbrev pub view_of : Itself → Option ℕ → Option ℕ
view_of Itself.a_view owner = owner
view_of other owner = None

pub itself_fits : (site : Site) (itself : Itself) (owner : Option ℕ) (o : Option Value) (d : ℕ) (declaration : Declaration) → owner ≡ Some d → site.view ≡ view_of itself owner
    → slice_get site.program.table.declarations d ≡ Some declaration → (itself ≡ Itself.a_view → declaration.kind ≡ kind.View) → is_value itself ≡ false → ItselfFits site itself owner o
itself_fits site Itself.no_self owner o d declaration has view declared is no_value = tt
itself_fits site Itself.a_view owner o d declaration has view declared is no_value = (d, has, view ∙ has, (declaration, declared, is refl))
itself_fits site Itself.a_value owner o d declaration has view declared is no_value = cc
itself_fits site Itself.a_changed_value owner o d declaration has view declared is no_value = cc

pub is_of_view : (itself : Itself) (owner : Option ℕ) (d : ℕ) → view_of itself owner ≡ Some d → (itself ≡ Itself.a_view) × (owner ≡ Some d)
is_of_view Itself.no_self owner d e = cc
is_of_view Itself.a_view owner d e = (refl, e)
is_of_view Itself.a_value owner d e = cc
is_of_view Itself.a_changed_value owner d e = cc

-- The code of a program that is evaluated, with its member.
record Found (p : Program) (n : ℕ) (itself : Itself) (owner : Option ℕ) (ts : List Ty) (c : Code) : Type 0 where
  member : CoreMember
  there : slice_get p.members n ≡ Some member
  has : member.code ≡ Some c
  gives : Gives p.table itself owner member ts

module _ (p : Program) (program : IsProgram p.table p.members) where
  found_key : (n : ℕ) (c : Code) (m : CoreMember) (k : ℕ) → code_at p n ≡ Some c → slice_get p.members n ≡ Some m → FitsKey p.table k m → Found p n Itself.no_self None [] c
  found_key n c m k at there fits = record { member = m; there = there; has = sym (code_is p.members n m there) ∙ at; gives = key_gives p.table k m fits }

  default_found : (n k : ℕ) (c : Code) → DefaultStands p.table n k → code_at p n ≡ Some c → Found p n Itself.no_self None [] c
  default_found n k c (DefaultStands.built_in_default) at = let m = first_there p.members program.complete in found_key 0 c m.0 0 at m.1 (program.built_in_typed m.0 m.1)
    where
      first_there : (ms : List CoreMember) {j : ℕ} → length ms ≡ suc j → (m : CoreMember) × (slice_get ms 0 ≡ Some m)
      first_there [] e = absurd (omega (arith, e))
      first_there (m ∷ ms) e = (m, refl)
  default_found n k c (DefaultStands.own_default {k = j} stands) at = go n None (suc j) stands refl at
    where
      typed : (i : ℕ) (place : MemberPlace) (m : CoreMember) → place.declaration ≡ None → slice_get p.members (suc i) ≡ Some m → IsTypedAt p.table m place → code_at p (suc i) ≡ Some c → Found p (suc i) Itself.no_self None [] c
      typed i place m none there (IsTypedAt.typed_key e fits) at = found_key (suc i) c m place.at at there fits
      typed i place m none there (IsTypedAt.typed_member e declared is stand fits) at = absurd (cc (e, none))

      go : (n : ℕ) (o : Option ℕ) (l : ℕ) → StandsAt p.table n o l → o ≡ None → code_at p n ≡ Some c → Found p n Itself.no_self None [] c
      go n o l (StandsAt.stands_at {i = i} {place = place} e) none at =
          let m = has_code p.table p.members program i (slice_get_within p.table.members i place e) in
          typed i place m.0 none m.1 (program.typed i place m.0 e m.1) at

  code_found : (n : ℕ) (itself : Itself) (owner : Option ℕ) (ts : List Ty) (c : Code) → IsEvaluated p.table n itself owner ts → code_at p n ≡ Some c → Found p n itself owner ts c
  code_found n _ owner ts c (IsEvaluated.default_of_key k {key = key} at number) there = default_found n k c (subst (λ (x : ℕ). DefaultStands p.table x k) number (program.key_codes k key at)) there
  code_found n itself owner ts c (IsEvaluated.code_of_member {d = d} {s = s} {declaration = declaration} declared has number gives) there =
      let m = member_of p.table p.members program d s has in
      let held = ap (slice_get p.members) (sym number) ∙ m.there in
      let code_has = sym (code_is p.members n m.member held) ∙ there in
      let same : m.declaration ≡ declaration = some_same m.declaration declaration (sym m.declared ∙ declared) in
      record {
        member = m.member;
        there = held;
        has = code_has;
        gives = member_gives p.table d declaration.kind m.member c s.form itself ts code_has gives (subst (λ (x : Declaration). FitsSignature p.table d x.kind m.member s.form) same m.fits);
      }

  own_itself : (site : Site) (n : ℕ) (itself : Itself) (owner : Option ℕ) (ts : List Ty) → site.program ≡ p → IsEvaluated p.table n itself owner ts → site.view ≡ view_of itself owner → is_value itself ≡ false → ItselfFits site itself owner None
  own_itself site n _ owner ts is (IsEvaluated.default_of_key k at number) view no_value = tt
  own_itself site n itself owner ts is (IsEvaluated.code_of_member {d = d} {s = s} {declaration = declaration} declared has number gives) view no_value =
      itself_fits site itself (Some d) None d declaration refl view (ap (λ (q : Program). slice_get q.table.declarations d) is ∙ declared) (evaluated_kind p.table declaration.kind s.form itself ts gives) no_value

-- Where the condition holds, the evaluation is right.
abbrev pub EvalRight : Type 0
EvalRight = ValueLaws → (p : Program) (n : ℕ) (frame : Frame) (cells : CellMap) → IsProgram p.table p.members → EvalFits p n frame cells → IsRight (Evaluates p n frame cells)

pub eval_right : EvalRight
unfolding Evaluates value_of_code laid code_of
eval_right laws p n frame cells program f =
    let found = code_found p program n f.itself f.owner f.parameters f.code f.gives f.there in
    let site : Site = record { program = p; view = view_of f.itself f.owner; home = frame.path; types = f.types; is_block = false } in
    let known : Known site = record {
      laws = laws;
      program = program;
      slots = λ d n t a s view has form. let v = is_of_view f.itself f.owner d view in (f.view_has v.0 d v.1).slots s n t a has form;
    } in
    let sc : Scope = record { owner = f.owner; itself = f.itself; blocks = found.member.blocks; shows = λ j. true } in
    let main = found.gives.main in
    let same_code : main.code ≡ f.code = some_same main.code f.code (sym main.has ∙ found.has) in
    let locals = map Local.valued f.parameters in
    let w : World = begin (laid f.code frame.locals) frame.path None in
    let here : holding frame.locals ≡ laid f.code frame.locals = λ j. placed (absent ((sym main.outer ∙ ap (λ (c : Code). c.outer) same_code) j)) ((sym main.kept ∙ ap (λ (c : Code). c.kept) same_code) j) frame.locals in
    let fit : Fits site sc locals w = record {
      here = subst (LocalsFit site sc.shows locals) here (held_inputs site sc.shows locals frame.locals f.locals_have);
      places = no_places site f.itself f.parameters;
      itself = own_itself p program site n f.itself f.owner f.parameters refl f.gives refl f.no_value;
      home = refl;
      live = refl;
    } in
    let answers = subst (Answers (context site sc) locals) (sym main.is ∙ ap (λ (c : Code). c.form) same_code) found.gives.answers in
    let may = all_allowed site sc (form_mentions f.code.form) (λ j. refl) (λ v b. quiet_code p.members n found.member f.code found.there found.has f.no_write) in
    let right = answers_right site known (inner p 1000) (all_right site known 1000) sc locals f.code.form answers refl may w fit in
    subst (λ (o : Option Code). IsRight (evaluated p frame cells o)) (sym f.there)
    (under_right site (seen frame cells) (λ b. frame_shows site known frame cells (λ d view. let v = is_of_view f.itself f.owner d view in f.view_has v.0 d v.1) f.cells_fit) (λ v o. ⊤) [] (value_of_code (inner p 1000) f.code w) right)
