-- Blocks and properties that give views: whose frame they may use, and the conditions of their runs.
use Rattle.std.specs.Prelude.{option_and_then}
use Rattle.std.proofs.Common.{◌≡◌, ℕ, ◌<◌, ◌≤◌, true, false, List, [], ◌∷◌, length, map, Option, Some, None, slice_get, refl, sym, ap, subst, ◌∙◌, arith}
use Rattle.std.proofs.lemmas.Option.{slice_get_within}
use Rattle.identity_path.specs.Cells.{CellMap}
use Rattle.swift_core.specs.Codes.{Parts as Program, block_in, code_at, member_at}
use Rattle.swift_core.specs.Context.{Local, Itself, Context, HasMember, local_of}
use Rattle.swift_core.specs.Programs.{IsProgram}
use Rattle.swift_core.specs.Typing.{GivesViews, IsBlock, IsAction, IsReader, BlockStands, is_value, itself_in, stands_in}
use Rattle.swift_core.specs.declared.code.Code.{Code}
use Rattle.swift_core.specs.declared.code.CodeForm.{CodeForm}
use Rattle.swift_core.specs.declared.code.CodeForm.TheVariants as code_form
use Rattle.swift_core.specs.declared.code.CoreMember.{CoreMember}
use Rattle.swift_core.specs.declared.ids.BlockId.{BlockId}
use Rattle.swift_core.specs.declared.table.Declaration.{Declaration}
use Rattle.swift_core.specs.declared.table.Kind.{Kind}
use Rattle.swift_core.specs.declared.table.Kind.TheVariants as kind
use Rattle.swift_core.specs.declared.table.ParamSignature.{ParamSignature}
use Rattle.swift_core.specs.declared.table.Signature.{Signature}
use Rattle.swift_core.specs.declared.table.SignatureForm.{SignatureForm}
use Rattle.swift_core.specs.declared.table.SignatureForm.TheVariants as form
use Rattle.swift_core.specs.declared.ty.Ty.{Ty}
use Rattle.core_means.specs.declared.parts.Frame.{Frame}
use Rattle.value_fits.specs.Cells.{SlotTypes, CellsFit}
use Rattle.world_fits.specs.Codes.{views_context, blocks_stand}
use Rattle.world_fits.specs.Frames.{FrameHas}
use Rattle.world_fits.specs.Lists.{some_same}
use Rattle.world_fits.specs.Runs.{ExecFits, InputsHave, ViewHas}
use Rattle.body_rights.specs.Runs.{IsUnit, BodyFits}
use Rattle.frame_tests.specs.Demands.{SomeTypes, view_of, view_is}
use Rattle.code_tests.specs.Homes.{Owned, sign_at, view_where, itself_of_property, itself_of_views, property_in, property_view, views_in, views_view, is_statements, is_builder}
use Rattle.code_tests.specs.Parts.{PropertyFits, BlockFits}
use Rattle.code_tests.proofs.Blocks.{block_is, numbered_is}
use Rattle.code_tests.proofs.Members.{sign_is, sign_found, typed}
use Rattle.code_tests.proofs.Values.{where_view, where_is}

-- ---- forms of blocks

written_form : (cx : Context) (locals : List Local) (b : BlockId) (ts : List Ty) (f : CodeForm) (c : Code) → IsBlock cx locals b ts f → slice_get cx.blocks b.number ≡ Some c → c.form ≡ f
written_form cx locals b ts f c (IsBlock.written_here {c = x} at outer count kept types) there = ap (λ (y : Code). y.form) (some_same c x (sym there ∙ at))

action_form : (cx : Context) (locals : List Local) (b : BlockId) (ts : List Ty) (c : Code) → IsAction cx locals b ts → slice_get cx.blocks b.number ≡ Some c → is_statements c.form ≡ true
action_form cx locals b ts c (IsAction.action {form = f} written is typed) there = ap is_statements (written_form cx locals b ts f c written there ∙ is)

reader_form : (cx : Context) (locals : List Local) (b : BlockId) (t : Ty) (c : Code) → IsReader cx locals b t → slice_get cx.blocks b.number ≡ Some c → is_builder c.form ≡ true
reader_form cx locals b t c (IsReader.reader {form = f} written is typed keeps) there = ap is_builder (written_form cx locals b (t ∷ []) f c written there ∙ is)

not_both : (f : CodeForm) → is_statements f ≡ true → is_builder f ≡ true → ⊥
not_both (code_form.Value c) one other = cc
not_both (code_form.Statements ss) one other = cc
not_both (code_form.Builder is) one other = cc

pub record Reader (cx : Context) (b : BlockId) : Type 0 where
  pub locals : List Local
  pub ty : Ty
  pub places : (i : ℕ) (u : Ty) → slice_get locals i ≡ Some (Local.placed u) → cx.itself ≡ Itself.a_view
  pub reads : IsReader cx locals b ty

pub record Action (cx : Context) (b : BlockId) : Type 0 where
  pub locals : List Local
  pub parameters : List Ty
  pub acts : IsAction cx locals b parameters

-- a block that stands and is statements is an action
acts_by : (cx : Context) (b : BlockId) (c : Code) → BlockStands cx b → slice_get cx.blocks b.number ≡ Some c → is_statements c.form ≡ true → Action cx b
acts_by cx b c (BlockStands.an_action {locals = locals} {ts = ts} acts) there is = record { locals = locals; parameters = ts; acts = acts }
acts_by cx b c (BlockStands.a_reader {locals = locals} {t = t} places reads) there is = absurd (not_both c.form is (reader_form cx locals b t c reads there))

-- and one that gives views is the builder of a reader
reads_by : (cx : Context) (b : BlockId) (c : Code) → BlockStands cx b → slice_get cx.blocks b.number ≡ Some c → is_builder c.form ≡ true → Reader cx b
reads_by cx b c (BlockStands.an_action {locals = locals} {ts = ts} acts) there is = absurd (not_both c.form (action_form cx locals b ts c acts there) is)
reads_by cx b c (BlockStands.a_reader {locals = locals} {t = t} places reads) there is = record { locals = locals; ty = t; places = places; reads = reads }

-- ---- what `self` is where views are given

pub record Giving (k : Kind) (s : Signature) (i : Itself) : Type 0 where
  pub parameters : List ParamSignature
  pub views : GivesViews s parameters
  pub is_itself : itself_in k ≡ i

giving : (k : Kind) (s : Signature) (i : Itself) (f : SignatureForm) → s.form ≡ f → itself_of_views k f ≡ Some i → Giving k s i
giving k s i form.BuilderProperty is e = record { parameters = []; views = GivesViews.by_builder_property is; is_itself = some_same (itself_in k) i e }
giving k s i (form.BuilderFunction ps) is e = record { parameters = ps; views = GivesViews.by_builder_function is; is_itself = some_same (itself_in k) i e }
giving k s i f is e = absurd (cc e)

views_self : (k : Kind) (s : Signature) (ps : List ParamSignature) → GivesViews s ps → itself_of_views k s.form ≡ Some (itself_in k)
views_self k s ps (GivesViews.by_builder_property is) = ap (itself_of_views k) is
views_self k s ps (GivesViews.by_builder_function is) = ap (itself_of_views k) is

property_plain : (k : Kind) → stands_in k form.BuilderProperty ≡ true → is_value (itself_in k) ≡ false
property_plain (kind.Data b) e = absurd (cc e)
property_plain (kind.Enum b n) e = absurd (cc e)
property_plain kind.View e = refl
property_plain kind.App e = refl
property_plain (kind.Key n) e = refl

function_plain : (k : Kind) (ps : List ParamSignature) → stands_in k (form.BuilderFunction ps) ≡ true → is_value (itself_in k) ≡ false
function_plain (kind.Data b) ps e = absurd (cc e)
function_plain (kind.Enum b n) ps e = absurd (cc e)
function_plain kind.View ps e = refl
function_plain kind.App ps e = refl
function_plain (kind.Key n) ps e = refl

views_plain : (k : Kind) (s : Signature) (ps : List ParamSignature) → GivesViews s ps → stands_in k s.form ≡ true → is_value (itself_in k) ≡ false
views_plain k s ps (GivesViews.by_builder_property is) stands = property_plain k (subst (λ (f : SignatureForm). stands_in k f ≡ true) is stands)
views_plain k s ps (GivesViews.by_builder_function {ps = qs} is) stands = function_plain k qs (subst (λ (f : SignatureForm). stands_in k f ≡ true) is stands)

property_form : (k : Kind) (f : SignatureForm) (i : Itself) → itself_of_property k f ≡ Some i → f ≡ form.BuilderProperty
property_form k form.BuilderProperty i e = refl
property_form k f i e = absurd (cc e)

-- ---- the types of slots, whatever code it is

module _ (p : Program) (frame : Frame) (cells : CellMap) where
  abbrev ViewTypes : SlotTypes → Option ℕ → Type 0
  ViewTypes types view = (d : ℕ) → view ≡ Some d → FrameHas p.table types d frame

  -- what both conditions say of them
  some_of : (types : SlotTypes) (d : ℕ) (k : Kind) (c code : Code) (view : Option ℕ) → c ≡ code → view_of (itself_in k) (Some d) ≡ view → CellsFit p.table types cells → ViewHas p.table types (itself_in k) (Some d) frame
      → InputsHave p.table types (map local_of c.types) frame.locals → SomeTypes p.table cells view frame (map local_of code.types)
  some_of types d k c code view same is cells_fit view_has locals_have = SomeTypes.some_types types (record {
    cells_fit = cells_fit;
    frame_has = subst (ViewTypes types) is ((view_is p.table types (itself_in k) (Some d) frame).0 view_has);
    locals_have = subst (λ (x : Code). InputsHave p.table types (map local_of x.types) frame.locals) same locals_have;
  })

  view_had : (types : SlotTypes) (d : ℕ) (k : Kind) (view : Option ℕ) → view_of (itself_in k) (Some d) ≡ view → ViewTypes types view → ViewHas p.table types (itself_in k) (Some d) frame
  view_had types d k view is has = (view_is p.table types (itself_in k) (Some d) frame).1 (subst (ViewTypes types) (sym is) has)

-- ---- blocks

-- a block of a member that gives views, and whose frame it may use
pub record Giver (p : Program) (n : ℕ) (code : Code) (view : Option ℕ) : Type 0 where
  pub d : ℕ
  pub declaration : Declaration
  pub declared : slice_get p.table.declarations d ≡ Some declaration
  pub sign : Signature
  pub has : HasMember p.table d sign
  pub parameters_of : List ParamSignature
  pub views : GivesViews sign parameters_of
  pub member : CoreMember
  pub there : slice_get p.members sign.code.number ≡ Some member
  pub block : BlockId
  pub is_block : slice_get member.blocks block.number ≡ Some code
  pub numbered : block_in p.members block.number (Some sign.code.number) ≡ Some n
  pub is_view : view_of (itself_in declaration.kind) (Some d) ≡ view
  pub stands : BlockStands (views_context p.table d declaration.kind member) block

-- ---- what is known of a unit

pub data Body (p : Program) (n : ℕ) (code : Code) (d : ℕ) (k : Kind) : Type 0 where
  by_property : n < length p.members → property_view p.table n ≡ Some (view_of (itself_in k) (Some d)) → Body p n code d k
  by_block : {home : ℕ} → length p.members ≤ n → is_builder code.form ≡ true → member_at p n ≡ Some home → views_view p.table home ≡ Some (view_of (itself_in k) (Some d)) → Body p n code d k

-- a property that gives views, and whose frame it may use
pub record Property (p : Program) (n : ℕ) (view : Option ℕ) : Type 0 where
  pub d : ℕ
  pub declaration : Declaration
  pub declared : slice_get p.table.declarations d ≡ Some declaration
  pub sign : Signature
  pub has : HasMember p.table d sign
  pub is : sign.form ≡ form.BuilderProperty
  pub number : sign.code.number ≡ n
  pub is_view : view_of (itself_in declaration.kind) (Some d) ≡ view

written_code : (cx : Context) (locals : List Local) (b : BlockId) (ts : List Ty) (f : CodeForm) → IsBlock cx locals b ts f → (c : Code) × (slice_get cx.blocks b.number ≡ Some c)
written_code cx locals b ts f (IsBlock.written_here {c = c} at outer count kept types) = (c, at)

reader_code : (cx : Context) (locals : List Local) (b : BlockId) (t : Ty) → IsReader cx locals b t → (c : Code) × (slice_get cx.blocks b.number ≡ Some c)
reader_code cx locals b t (IsReader.reader {form = f} written is typed keeps) = written_code cx locals b (t ∷ []) f written

module _ (p : Program) (program : IsProgram p.table p.members) where
  giver_self : (n : ℕ) (code : Code) (h : ℕ) (view : Option ℕ) (x : Owned) → length p.members ≤ n → code_at p n ≡ Some code → member_at p n ≡ Some h → sign_at p.table h ≡ Some x
      → (o : Option Itself) → itself_of_views x.declaration.kind x.sign.form ≡ o → option_and_then (view_where x.owner) o ≡ Some view → Giver p n code view
  giver_self n code h view x past coded is_of at None is e = absurd (cc e)
  giver_self n code h view x past coded is_of at (Some i) is e =
      let b = block_is p.members n code past coded in
      let st = sign_is p.table h x at in
      let g = giving x.declaration.kind x.sign i x.sign.form refl is in
      let t = typed p.table p.members program x.owner x.declaration x.sign st.declared st.has in
      let number : x.sign.code.number ≡ b.home = st.number ∙ some_same h b.home (sym is_of ∙ b.is_of) in
      let same : b.member ≡ t.member = some_same b.member t.member (sym b.there ∙ ap (slice_get p.members) (sym number) ∙ t.there) in
      let w = where_is x.owner i view e in
      let id : BlockId = record { number = b.block } in
      let there : slice_get t.member.blocks b.block ≡ Some code = subst (λ (m : CoreMember). slice_get m.blocks b.block ≡ Some code) same b.is_block in
      record {
        d = x.owner;
        declaration = x.declaration;
        declared = st.declared;
        sign = x.sign;
        has = st.has;
        parameters_of = g.parameters;
        views = g.views;
        member = t.member;
        there = t.there;
        block = id;
        is_block = there;
        numbered = ap (λ (k : ℕ). block_in p.members b.block (Some k)) number ∙ b.numbered;
        is_view = ap (λ (j : Itself). view_of j (Some x.owner)) g.is_itself ∙ w.is_view;
        stands = blocks_stand p.table x.owner x.declaration.kind t.member x.sign g.parameters g.views t.fits id code there;
      }

  giver_in : (n : ℕ) (code : Code) (h : ℕ) (view : Option ℕ) → length p.members ≤ n → code_at p n ≡ Some code → member_at p n ≡ Some h → (o : Option Owned) → sign_at p.table h ≡ o → views_in o ≡ Some view
      → Giver p n code view
  giver_in n code h view past coded is_of None at e = absurd (cc e)
  giver_in n code h view past coded is_of (Some x) at e = giver_self n code h view x past coded is_of at (itself_of_views x.declaration.kind x.sign.form) refl e

  giver : (n : ℕ) (code : Code) (h : ℕ) (view : Option ℕ) → length p.members ≤ n → code_at p n ≡ Some code → member_at p n ≡ Some h → views_view p.table h ≡ Some view → Giver p n code view
  unfolding views_view
  giver n code h view past coded is_of e = giver_in n code h view past coded is_of (sign_at p.table h) refl e

  views_found : (d : ℕ) (declaration : Declaration) (s : Signature) (ps : List ParamSignature) → slice_get p.table.declarations d ≡ Some declaration → HasMember p.table d s → GivesViews s ps
      → views_view p.table s.code.number ≡ Some (view_of (itself_in declaration.kind) (Some d))
  unfolding views_view
  views_found d declaration s ps declared has views =
      let t = typed p.table p.members program d declaration s declared has in
      ap views_in (sign_found p.table p.members program d declaration s s.code.number declared has refl) ∙ ap (option_and_then (view_where d)) (views_self declaration.kind s ps views)
      ∙ where_view d (itself_in declaration.kind) (views_plain declaration.kind s ps views t.stands)

  -- ---- actions

  pub of_action : (n : ℕ) (frame : Frame) (cells : CellMap) (code : Code) → length p.members ≤ n → code_at p n ≡ Some code → is_statements code.form ≡ true → BlockFits p n code frame cells → ExecFits p n frame cells
  of_action n frame cells code past coded is (BlockFits.block_fits {member = h} {view = view} is_of at (SomeTypes.some_types types has)) =
      let g = giver n code h view past coded is_of at in
      let a = acts_by (views_context p.table g.d g.declaration.kind g.member) g.block code g.stands g.is_block is in
      record {
        d = g.d;
        declaration = g.declaration;
        declared = g.declared;
        sign = g.sign;
        has = g.has;
        parameters_of = g.parameters_of;
        views = g.views;
        member = g.member;
        member_there = g.there;
        block = g.block;
        code = code;
        is_block = g.is_block;
        numbered = g.numbered;
        there = coded;
        locals = a.locals;
        parameters = a.parameters;
        action = a.acts;
        types = types;
        cells_fit = has.cells_fit;
        view_has = view_had p frame cells types g.d g.declaration.kind view g.is_view has.frame_has;
        locals_have = has.locals_have;
      }

  pub to_action : (n : ℕ) (frame : Frame) (cells : CellMap) (code : Code) → code_at p n ≡ Some code → ExecFits p n frame cells → BlockFits p n code frame cells
  to_action n frame cells code coded f =
      let b = numbered_is p.members f.sign.code.number f.block.number n f.member f.code f.member_there f.is_block f.numbered in
      BlockFits.block_fits b.is_of (views_found f.d f.declaration f.sign f.parameters_of f.declared f.has f.views)
      (some_of p frame cells f.types f.d f.declaration.kind f.code code (view_of (itself_in f.declaration.kind) (Some f.d)) (some_same f.code code (sym f.there ∙ coded)) refl f.cells_fit f.view_has f.locals_have)

  pub is_action : (n : ℕ) (frame : Frame) (cells : CellMap) (code : Code) → code_at p n ≡ Some code → ExecFits p n frame cells → is_statements code.form ≡ true
  is_action n frame cells code coded f =
      action_form (views_context p.table f.d f.declaration.kind f.member) f.locals f.block f.parameters code f.action (f.is_block ∙ ap Some (some_same f.code code (sym f.there ∙ coded)))

  -- ---- readers

  pub of_reader : (n : ℕ) (frame : Frame) (cells : CellMap) (code : Code) → length p.members ≤ n → code_at p n ≡ Some code → is_builder code.form ≡ true → BlockFits p n code frame cells → BodyFits p n frame cells
  of_reader n frame cells code past coded is (BlockFits.block_fits {member = h} {view = view} is_of at (SomeTypes.some_types types has)) =
      let g = giver n code h view past coded is_of at in
      let r = reads_by (views_context p.table g.d g.declaration.kind g.member) g.block code g.stands g.is_block is in
      record {
        d = g.d;
        declaration = g.declaration;
        declared = g.declared;
        locals = r.locals;
        parameters = r.ty ∷ [];
        is_unit = IsUnit.a_reader g.has g.views g.there g.numbered r.reads r.places;
        code = code;
        there = coded;
        types = types;
        cells_fit = has.cells_fit;
        view_has = view_had p frame cells types g.d g.declaration.kind view g.is_view has.frame_has;
        locals_have = has.locals_have;
      }

  property_found : (d : ℕ) (declaration : Declaration) (s : Signature) (n : ℕ) → slice_get p.table.declarations d ≡ Some declaration → HasMember p.table d s → s.form ≡ form.BuilderProperty → s.code.number ≡ n
      → property_view p.table n ≡ Some (view_of (itself_in declaration.kind) (Some d))
  unfolding property_view
  property_found d declaration s n declared has is number =
      let t = typed p.table p.members program d declaration s declared has in
      ap property_in (sign_found p.table p.members program d declaration s n declared has number) ∙ ap (λ (f : SignatureForm). option_and_then (view_where d) (itself_of_property declaration.kind f)) is
      ∙ where_view d (itself_in declaration.kind) (property_plain declaration.kind (subst (λ (f : SignatureForm). stands_in declaration.kind f ≡ true) is t.stands))

  body_is : (n : ℕ) (code : Code) (d : ℕ) (declaration : Declaration) (locals : List Local) (ts : List Ty) → slice_get p.table.declarations d ≡ Some declaration → code_at p n ≡ Some code
      → IsUnit p n d declaration.kind locals ts → Body p n code d declaration.kind
  body_is n code d declaration locals ts declared coded (IsUnit.a_body {s = s} has is number) =
      let t = typed p.table p.members program d declaration s declared has in
      Body.by_property (subst (λ (k : ℕ). k < length p.members) number (slice_get_within p.members s.code.number t.member t.there)) (property_found d declaration s n declared has is number)
  body_is n code d declaration locals ts declared coded (IsUnit.a_reader {s = s} {ps = ps} {m = m} {b = b} {locals = ls} {t = t} has gives there numbered reads places) =
      let w = reader_code (record { table = p.table; owner = Some d; itself = itself_in declaration.kind; blocks = m.blocks }) ls b t reads in
      let k = numbered_is p.members s.code.number b.number n m w.0 there w.1 numbered in
      Body.by_block k.past (subst (λ (c : Code). is_builder c.form ≡ true) (some_same w.0 code (sym k.coded ∙ coded)) (reader_form _ ls b t w.0 reads w.1)) k.is_of (views_found d declaration s ps declared has gives)

  pub is_reader : (n : ℕ) (frame : Frame) (cells : CellMap) (code : Code) → length p.members ≤ n → code_at p n ≡ Some code → BodyFits p n frame cells → is_builder code.form ≡ true
  is_reader n frame cells code past coded f = by (body_is n code f.d f.declaration f.locals f.parameters f.declared coded f.is_unit)
    where
      by : Body p n code f.d f.declaration.kind → is_builder code.form ≡ true
      by (Body.by_property within at) = absurd (omega (arith, within, past))
      by (Body.by_block behind is is_of at) = is

  pub to_reader : (n : ℕ) (frame : Frame) (cells : CellMap) (code : Code) → length p.members ≤ n → code_at p n ≡ Some code → BodyFits p n frame cells → BlockFits p n code frame cells
  to_reader n frame cells code past coded f = by (body_is n code f.d f.declaration f.locals f.parameters f.declared coded f.is_unit)
    where
      by : Body p n code f.d f.declaration.kind → BlockFits p n code frame cells
      by (Body.by_property within at) = absurd (omega (arith, within, past))
      by (Body.by_block behind is is_of at) =
          BlockFits.block_fits is_of at
          (some_of p frame cells f.types f.d f.declaration.kind f.code code (view_of (itself_in f.declaration.kind) (Some f.d)) (some_same f.code code (sym f.there ∙ coded)) refl f.cells_fit f.view_has f.locals_have)

  -- ---- properties

  pub to_property : (n : ℕ) (frame : Frame) (cells : CellMap) (code : Code) → n < length p.members → code_at p n ≡ Some code → BodyFits p n frame cells → PropertyFits p n code frame cells
  to_property n frame cells code within coded f = by (body_is n code f.d f.declaration f.locals f.parameters f.declared coded f.is_unit)
    where
      by : Body p n code f.d f.declaration.kind → PropertyFits p n code frame cells
      by (Body.by_property before at) =
          PropertyFits.property_fits at
          (some_of p frame cells f.types f.d f.declaration.kind f.code code (view_of (itself_in f.declaration.kind) (Some f.d)) (some_same f.code code (sym f.there ∙ coded)) refl f.cells_fit f.view_has f.locals_have)
      by (Body.by_block past is is_of at) = absurd (omega (arith, within, past))

  property_self : (n : ℕ) (view : Option ℕ) (x : Owned) → sign_at p.table n ≡ Some x → (o : Option Itself) → itself_of_property x.declaration.kind x.sign.form ≡ o → option_and_then (view_where x.owner) o ≡ Some view → Property p n view
  property_self n view x at None is e = absurd (cc e)
  property_self n view x at (Some i) is e =
      let st = sign_is p.table n x at in
      let f = property_form x.declaration.kind x.sign.form i is in
      let same : itself_in x.declaration.kind ≡ i = some_same (itself_in x.declaration.kind) i (sym (ap (itself_of_property x.declaration.kind) f) ∙ is) in
      let w = where_is x.owner i view e in
      record { d = x.owner; declaration = x.declaration; declared = st.declared; sign = x.sign; has = st.has; is = f; number = st.number; is_view = ap (λ (j : Itself). view_of j (Some x.owner)) same ∙ w.is_view }

  property_sign : (n : ℕ) (view : Option ℕ) (o : Option Owned) → sign_at p.table n ≡ o → property_in o ≡ Some view → Property p n view
  property_sign n view None at e = absurd (cc e)
  property_sign n view (Some x) at e = property_self n view x at (itself_of_property x.declaration.kind x.sign.form) refl e

  property_is : (n : ℕ) (view : Option ℕ) → property_view p.table n ≡ Some view → Property p n view
  unfolding property_view
  property_is n view e = property_sign n view (sign_at p.table n) refl e

  pub of_property : (n : ℕ) (frame : Frame) (cells : CellMap) (code : Code) → code_at p n ≡ Some code → PropertyFits p n code frame cells → BodyFits p n frame cells
  of_property n frame cells code coded (PropertyFits.property_fits {view = view} at (SomeTypes.some_types types has)) =
      let g = property_is n view at in
      record {
        d = g.d;
        declaration = g.declaration;
        declared = g.declared;
        locals = [];
        parameters = [];
        is_unit = IsUnit.a_body g.has g.is g.number;
        code = code;
        there = coded;
        types = types;
        cells_fit = has.cells_fit;
        view_has = view_had p frame cells types g.d g.declaration.kind view g.is_view has.frame_has;
        locals_have = has.locals_have;
      }
