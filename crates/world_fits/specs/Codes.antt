-- The members of a program that terms use: their codes are there, and are well typed.
use Rattle.std.specs.Prelude.{◌≡◌, ℕ, zero, suc, ◌-◌, ◌<◌, ◌||◌, Bool, true, false, cond, nat_lt, List, [], ◌∷◌, ◌++◌, length, Option, Some, slice_get}
use Rattle.std.specs.List.{list_any, flat_map}
use Rattle.std.proofs.Common.{refl, sym, ap, subst, ◌∙◌, arith}
use Rattle.std.proofs.lemmas.Bool.{ltb-false}
use Rattle.std.proofs.lemmas.Option.{slice_get_within}
use Rattle.swift_core.specs.Codes.{code_in, main_of, blocks_of}
use Rattle.swift_core.specs.Context.{Context, HasMember}
use Rattle.swift_core.specs.Mentions.{Mentions, form_mentions}
use Rattle.swift_core.specs.Programs.{IsProgram, StandsAt, Reaches}
use Rattle.swift_core.specs.Typing.{IsTypedAt, FitsSignature, GivesViews, BlocksStand, itself_in, stands_in}
use Rattle.swift_core.specs.Uses.{is_write, code_of, writes_cells, calls_of, body_forms, reader_forms, member_writes, member_calls}
use Rattle.swift_core.specs.declared.code.Code.{Code}
use Rattle.swift_core.specs.declared.code.CodeForm.{CodeForm}
use Rattle.swift_core.specs.declared.code.CoreMember.{CoreMember}
use Rattle.swift_core.specs.declared.ids.CodeId.{CodeId}
use Rattle.swift_core.specs.declared.mention.Mention.TheVariants as mention
use Rattle.swift_core.specs.declared.table.Declaration.{Declaration}
use Rattle.swift_core.specs.declared.table.Kind.{Kind}
use Rattle.swift_core.specs.declared.table.MemberPlace.{MemberPlace}
use Rattle.swift_core.specs.declared.table.ParamSignature.{ParamSignature}
use Rattle.swift_core.specs.declared.table.Signature.{Signature}
use Rattle.swift_core.specs.declared.table.SignatureForm.TheVariants as form
use Rattle.swift_core.specs.declared.table.Table.{Table}
use Rattle.world_fits.specs.Lists.{Each, at_front, some_same}
use Rattle.world_fits.specs.Sites.{Site, Scope, Allowed, is_view}

-- a member of a declaration, with its code
pub record Member (table : Table) (members : List CoreMember) (d : ℕ) (s : Signature) : Type 0 where
  pub declaration : Declaration
  pub declared : slice_get table.declarations d ≡ Some declaration
  pub member : CoreMember
  pub there : slice_get members s.code.number ≡ Some member
  pub stands : stands_in declaration.kind s.form ≡ true
  pub fits : FitsSignature table d declaration.kind member s.form

module _ (table : Table) (members : List CoreMember) (program : IsProgram table members) where
  pub has_code : (i : ℕ) → i < length table.members → (m : CoreMember) × (slice_get members (suc i) ≡ Some m)
  has_code i h = go members (omega (arith, h, program.complete))
    where
      at : (ms : List CoreMember) (k : ℕ) → k < length ms → (m : CoreMember) × (slice_get ms k ≡ Some m)
      at [] k h = absurd (omega (arith, h))
      at (m ∷ ms) zero h = (m, refl)
      at (m ∷ ms) (suc k) h = at ms k (omega (arith, h))

      go : (ms : List CoreMember) → suc i < length ms → (m : CoreMember) × (slice_get ms (suc i) ≡ Some m)
      go ms h = at ms (suc i) h

  pub member_of : (d : ℕ) (s : Signature) → HasMember table d s → Member table members d s
  member_of d s (HasMember.member {declaration = declaration} at declared there) = stands s.code.number (Some d) at (program.codes d declaration at s declared there) refl refl refl
    where
      typed : (i : ℕ) (place : MemberPlace) (m : CoreMember) → s.code.number ≡ suc i → slice_get members (suc i) ≡ Some m → place.declaration ≡ Some d → place.at ≡ at → IsTypedAt table m place → Member table members d s
      typed i place m number held of same (IsTypedAt.typed_key none key) = absurd (cc (none, of))
      typed i place m number held of same (IsTypedAt.typed_member {d = e} {declaration = other} {s = sign} owner is member stand fits) =
          let same_d : e ≡ d = some_same e d (sym owner ∙ of) in
          let same_declaration : other ≡ declaration = some_same other declaration (sym is ∙ ap (slice_get table.declarations) same_d ∙ declared) in
          let same_sign : sign ≡ s = some_same sign s (sym member ∙ (λ j. slice_get (same_declaration j).members (same j)) ∙ there) in
          record {
            declaration = declaration;
            declared = declared;
            member = m;
            there = ap (slice_get members) number ∙ held;
            stands = (λ j. stands_in (sym same_declaration j).kind (sym same_sign j).form) ∙ stand;
            fits = move same_d same_declaration same_sign fits;
          }
        where
          move : e ≡ d → other ≡ declaration → sign ≡ s → FitsSignature table e other.kind m sign.form → FitsSignature table d declaration.kind m s.form
          move p q r h = subst (λ (x : ℕ). FitsSignature table x declaration.kind m s.form) p (subst (λ (x : Declaration). FitsSignature table e x.kind m s.form) q (subst (λ (x : Signature). FitsSignature table e other.kind m x.form) r h))

      stands : (n : ℕ) (o : Option ℕ) (k : ℕ) → StandsAt table n o k → s.code.number ≡ n → o ≡ Some d → k ≡ at → Member table members d s
      stands n o k (StandsAt.stands_at {i = i} {place = place} e) number of same =
          let m = has_code i (slice_get_within table.members i place e) in
          typed i place m.0 number m.1 of same (program.typed i place m.0 e m.1)

-- ---- blocks

-- the context of the code of a member that gives views
abbrev pub views_context : Table → ℕ → Kind → CoreMember → Context
views_context table d k m = record { table = table; owner = Some d; itself = itself_in k; blocks = m.blocks }

property_blocks : (table : Table) (d : ℕ) (k : Kind) (m : CoreMember) → FitsSignature table d k m form.BuilderProperty → BlocksStand (views_context table d k m)
property_blocks table d k m (FitsSignature.builder_property begins typed stand) = stand

function_blocks : (table : Table) (d : ℕ) (k : Kind) (m : CoreMember) (ps : List ParamSignature) → FitsSignature table d k m (form.BuilderFunction ps) → BlocksStand (views_context table d k m)
function_blocks table d k m ps (FitsSignature.builder_function written begins typed stand) = stand

-- each block of a member that gives views stands in it
pub blocks_stand : (table : Table) (d : ℕ) (k : Kind) (m : CoreMember) (s : Signature) (ps : List ParamSignature) → GivesViews s ps → FitsSignature table d k m s.form → BlocksStand (views_context table d k m)
blocks_stand table d k m s ps (GivesViews.by_builder_property e) fits = property_blocks table d k m (subst (FitsSignature table d k m) e fits)
blocks_stand table d k m s ps (GivesViews.by_builder_function {ps = qs} e) fits = function_blocks table d k m qs (subst (FitsSignature table d k m) e fits)

-- ---- code by its number

-- the code that a number below the number of members names
pub code_is : (members : List CoreMember) (n : ℕ) (m : CoreMember) → slice_get members n ≡ Some m → code_in members n ≡ m.code
code_is members n m there = go (nat_lt n (length members)) refl
  where
    go : (b : Bool) → nat_lt n (length members) ≡ b → code_in members n ≡ m.code
    go true e = ap (λ b. cond b (main_of (slice_get members n)) (slice_get (blocks_of members) (n - length members))) e ∙ ap main_of there
    go false e = absurd (omega (arith, ltb-false n (length members) e, slice_get_within members n m there))

pub main_code : (members : List CoreMember) (n : ℕ) (m : CoreMember) (c : Code) → slice_get members n ≡ Some m → m.code ≡ Some c → code_in members n ≡ Some c
main_code members n m c there has = code_is members n m there ∙ has

-- ---- what code of a view may do where it writes nothing

module _ (members : List CoreMember) where
  -- it mentions no write, and runs nothing that reaches one
  pub record Quiet (ms : Mentions) : Type 0 where
    pub no_write : list_any is_write ms ≡ false
    pub no_call : (k : ℕ) (c : CodeId) → slice_get (flat_map code_of ms) k ≡ Some c → Reaches members c.number → ⊥

  -- the forms that a member runs beside its code
  abbrev readers : CoreMember → List CodeForm
  readers m = flat_map (λ (c : Code). reader_forms c.form) m.blocks

  writes : (m : CoreMember) (c : Code) → m.code ≡ Some c → writes_cells c.form ≡ true → member_writes m ≡ true
  writes m c has e =
      ap (λ (o : Option Code). list_any writes_cells (body_forms o ++ readers m)) has ∙ ap (λ b. b || list_any writes_cells (readers m)) e

  calls : (m : CoreMember) (c : Code) (k : ℕ) (id : CodeId) → m.code ≡ Some c → slice_get (calls_of c.form) k ≡ Some id → slice_get (member_calls m) k ≡ Some id
  calls m c k id has e =
      ap (λ (o : Option Code). slice_get (flat_map calls_of (body_forms o ++ readers m)) k) has
      ∙ at_front (calls_of c.form) (flat_map calls_of (readers m)) k id e

  -- what does not reach a write mentions none
  pub quiet_code : (n : ℕ) (m : CoreMember) (c : Code) → slice_get members n ≡ Some m → m.code ≡ Some c → (Reaches members n → ⊥) → Quiet (form_mentions c.form)
  quiet_code n m c there has quiet = record {
    no_write = go (writes_cells c.form) refl;
    no_call = λ k id e reaches. quiet (Reaches.runs k there (calls m c k id has e) reaches);
  }
    where
      go : (b : Bool) → writes_cells c.form ≡ b → writes_cells c.form ≡ false
      go false e = e
      go true e = absurd (quiet (Reaches.writes there (writes m c has e)))

-- What has all its locals may do all that it mentions, unless it is a body of a view that mentions a write.
pub all_allowed : (site : Site) (sc : Scope) (ms : Mentions) → ((i : ℕ) → sc.shows i ≡ true) → (is_view sc.itself ≡ true → site.is_block ≡ false → Quiet site.program.members ms) → Each (Allowed site sc) ms
all_allowed site sc [] shows quiet = tt
all_allowed site sc (mention.Local i ∷ ms) shows quiet = (shows i, all_allowed site sc ms shows (λ v b. let q = quiet v b in record { no_write = q.no_write; no_call = q.no_call }))
all_allowed site sc (mention.Code c ∷ ms) shows quiet =
    (λ v b. (quiet v b).no_call 0 c refl, all_allowed site sc ms shows (λ v b. let q = quiet v b in record { no_write = q.no_write; no_call = λ k id e. q.no_call (suc k) id e }))
all_allowed site sc (mention.Write ∷ ms) shows quiet =
    (λ v. blocks v, all_allowed site sc ms shows (λ v b. absurd (cc ((quiet v b).no_write))))
  where
    blocks : is_view sc.itself ≡ true → site.is_block ≡ true
    blocks v = go site.is_block refl
      where
        go : (b : Bool) → site.is_block ≡ b → site.is_block ≡ true
        go true e = e
        go false e = absurd (cc ((quiet v e).no_write))
all_allowed site sc (mention.Block b ∷ ms) shows quiet = (tt, all_allowed site sc ms shows (λ v b. let q = quiet v b in record { no_write = q.no_write; no_call = q.no_call }))
