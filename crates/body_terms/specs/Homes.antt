-- The blocks of a member: their numbers, and what they keep of the locals.
use Rattle.std.specs.Prelude.{◌≡◌, ℕ, zero, suc, ◌+◌, ◌-◌, ◌<◌, ◌≤◌, Bool, true, false, cond, nat_lt, nat_eq, List, [], ◌∷◌, ◌++◌, length, take, Option, Some, None, slice_get, ⊤, ◌⊎◌}
use Rattle.std.specs.List.{list_any}
use Rattle.std.proofs.Common.{refl, sym, ap, subst, ◌∙◌, arith}
use Rattle.std.proofs.Math.ListN.{replicate}
use Rattle.std.proofs.lemmas.Bool.{le-ltb, lt-ltb, ltb-true}
use Rattle.std.proofs.lemmas.List.{length-append, length-replicate}
use Rattle.std.proofs.lemmas.Option.{slice_get_within}
use Rattle.swift_core.specs.Codes.{Parts as Program, blocks_of, homes_from, first_block, numbered, block_in, code_in, member_in, member_at, main_of}
use Rattle.swift_core.specs.Context.{Context, Local, HasMember}
use Rattle.swift_core.specs.Mentions.{Mentions}
use Rattle.swift_core.specs.Typing.{IsBlock, IsAction, IsReader, GivesViews, itself_in}
use Rattle.swift_core.specs.Uses.{kept_by, with_use, first_uses, locals_used}
use Rattle.swift_core.specs.declared.code.Code.{Code}
use Rattle.swift_core.specs.declared.code.CodeForm.{CodeForm}
use Rattle.swift_core.specs.declared.code.CoreMember.{CoreMember}
use Rattle.swift_core.specs.declared.ids.BlockId.{BlockId}
use Rattle.swift_core.specs.declared.mention.Mention.{Mention}
use Rattle.swift_core.specs.declared.mention.Mention.TheVariants as mention
use Rattle.swift_core.specs.declared.table.Declaration.{Declaration}
use Rattle.swift_core.specs.declared.table.ParamSignature.{ParamSignature}
use Rattle.swift_core.specs.declared.table.Signature.{Signature}
use Rattle.swift_core.specs.declared.ty.Ty.{Ty}
use Rattle.core_means.specs.Means.{code_of}
use Rattle.body_means.specs.Kept.{numbered_block, block_of, block_at}
use Rattle.world_fits.specs.Lists.{Each, at_front, at_back, some_same, each_pushed}
use Rattle.world_fits.specs.Sites.{Site, Scope, Allowed}
use Rattle.form_rights.specs.Inside.{MayDo}
use Rattle.body_terms.specs.Gives.{BlockPlace}

-- ---- blocks among all code

pub at_there : {X : Type 0} (xs : List X) (i : ℕ) → i < length xs → (x : X) × (slice_get xs i ≡ Some x)
at_there [] i h = absurd (omega (arith, h))
at_there (x ∷ xs) zero h = (x, refl)
at_there (x ∷ xs) (suc i) h = at_there xs i (omega (arith, h))

-- numbers
behind_all : (a l b : ℕ) → a ≤ (a + l) + b
behind_all a l b = omega arith

without_first : (a l b : ℕ) → ((a + l) + b) - a ≡ l + b
without_first a l b = omega arith

shifted : (a b c l r : ℕ) → l ≡ a + c → r ≡ a → l + b ≡ r + (c + b)
shifted a b c l r e f = omega (arith, e, f)

blocks_at : (ms : List CoreMember) (n : ℕ) (m : CoreMember) (b : ℕ) (c : Code) → slice_get ms n ≡ Some m → slice_get m.blocks b ≡ Some c
    → slice_get (blocks_of ms) (length (blocks_of (take n ms)) + b) ≡ Some c
blocks_at [] n m b c e k = cc
blocks_at (x ∷ ms) zero m b c e k =
    ap (slice_get (x.blocks ++ blocks_of ms)) (omega arith) ∙ at_front x.blocks (blocks_of ms) b c (ap (λ (y : CoreMember). slice_get y.blocks b) (some_same x m e) ∙ k)
blocks_at (x ∷ ms) (suc n) m b c e k =
    ap (slice_get (x.blocks ++ blocks_of ms)) (shifted (length x.blocks) b (length (blocks_of (take n ms))) (length (x.blocks ++ blocks_of (take n ms))) (length x.blocks) (length-append x.blocks (blocks_of (take n ms))) refl)
    ∙ at_back x.blocks (blocks_of ms) (length (blocks_of (take n ms)) + b) ∙ blocks_at ms n m b c e k

replicate_at : (n i v : ℕ) → i < n → slice_get (replicate n v) i ≡ Some v
replicate_at zero i v h = absurd (omega (arith, h))
replicate_at (suc n) zero v h = refl
replicate_at (suc n) (suc i) v h = replicate_at n i v (omega (arith, h))

homes_at : (first : ℕ) (ms : List CoreMember) (n : ℕ) (m : CoreMember) (b : ℕ) → slice_get ms n ≡ Some m → b < length m.blocks
    → slice_get (homes_from first ms) (length (blocks_of (take n ms)) + b) ≡ Some (first + n)
unfolding homes_from
homes_at first [] n m b e h = cc
homes_at first (x ∷ ms) zero m b e h =
    ap (slice_get (replicate (length x.blocks) first ++ homes_from (first + 1) ms)) (omega arith)
    ∙ at_front (replicate (length x.blocks) first) (homes_from (first + 1) ms) b first
    (replicate_at (length x.blocks) b first (subst (λ (y : CoreMember). b < length y.blocks) (sym (some_same x m e)) h)) ∙ ap Some (omega arith)
homes_at first (x ∷ ms) (suc n) m b e h =
    ap (slice_get (replicate (length x.blocks) first ++ homes_from (first + 1) ms))
    (shifted (length x.blocks) b (length (blocks_of (take n ms))) (length (x.blocks ++ blocks_of (take n ms))) (length (replicate (length x.blocks) first)) (length-append x.blocks (blocks_of (take n ms))) (length-replicate (length x.blocks) first))
    ∙ at_back (replicate (length x.blocks) first) (homes_from (first + 1) ms) (length (blocks_of (take n ms)) + b) ∙ homes_at (first + 1) ms n m b e h ∙ ap Some (omega arith)

module _ (members : List CoreMember) where
  -- the number of a block
  pub block_number : (n : ℕ) (m : CoreMember) (b : ℕ) → slice_get members n ≡ Some m → b < length m.blocks → block_in members b (Some n) ≡ Some (first_block members n + b)
  block_number n m b e h = ap (numbered (first_block members n) b) e ∙ ap (λ t. cond t (Some (first_block members n + b)) None) (lt-ltb b (length m.blocks) h)

  -- and the block of this number
  pub block_code : (n : ℕ) (m : CoreMember) (b : ℕ) (c : Code) → slice_get members n ≡ Some m → slice_get m.blocks b ≡ Some c → code_in members (first_block members n + b) ≡ Some c
  block_code n m b c e k =
      ap (λ t. cond t (main_of (slice_get members (first_block members n + b))) (slice_get (blocks_of members) ((first_block members n + b) - length members)))
      (le-ltb (first_block members n + b) (length members) (behind_all (length members) (length (blocks_of (take n members))) b))
      ∙ ap (slice_get (blocks_of members)) (without_first (length members) (length (blocks_of (take n members))) b) ∙ blocks_at members n m b c e k

  pub block_member : (n : ℕ) (m : CoreMember) (b : ℕ) → slice_get members n ≡ Some m → b < length m.blocks → member_in members (first_block members n + b) ≡ Some n
  block_member n m b e h =
      ap (λ t. cond t (Some (first_block members n + b)) (slice_get (homes_from 0 members) ((first_block members n + b) - length members)))
      (le-ltb (first_block members n + b) (length members) (behind_all (length members) (length (blocks_of (take n members))) b))
      ∙ ap (slice_get (homes_from 0 members)) (without_first (length members) (length (blocks_of (take n members))) b) ∙ homes_at 0 members n m b e h ∙ ap Some (omega arith)

  pub main_member : (n : ℕ) (m : CoreMember) → slice_get members n ≡ Some m → member_in members n ≡ Some n
  main_member n m e = ap (λ t. cond t (Some n) (slice_get (homes_from 0 members) (n - length members))) (lt-ltb n (length members) (slice_get_within members n m e))

-- The member that a piece of code is of, which gives views. The scope is that of the member. The locals before the limit are captured: in
-- the builder of the unit those that the unit captures, and none in another member.
pub record Home (p : Program) (whole limit : ℕ) (sc : Scope) (code : ℕ) : Type 0 where
  pub d : ℕ
  pub declaration : Declaration
  pub declared : slice_get p.table.declarations d ≡ Some declaration
  pub sign : Signature
  pub has : HasMember p.table d sign
  pub parameters_of : List ParamSignature
  pub views : GivesViews sign parameters_of
  pub member : CoreMember
  pub is_of : member_at p code ≡ Some sign.code.number
  pub there : slice_get p.members sign.code.number ≡ Some member
  pub owner : sc.owner ≡ Some d
  pub its : sc.itself ≡ itself_in declaration.kind
  pub blocks : sc.blocks ≡ member.blocks
  pub is_limit : (limit ≡ 0) ⊎ (limit ≡ whole)

module _ (p : Program) (whole limit : ℕ) (sc : Scope) (code : ℕ) (home : Home p whole limit sc code) (id : BlockId) (c : Code) (at : slice_get sc.blocks id.number ≡ Some c) where
  pub of_member : slice_get home.member.blocks id.number ≡ Some c
  of_member = ap (λ (bs : List Code). slice_get bs id.number) (sym home.blocks) ∙ at

  abbrev pub numbered_of : ℕ
  numbered_of = first_block p.members home.sign.code.number + id.number

  pub of_number : block_in p.members id.number (Some home.sign.code.number) ≡ Some numbered_of
  of_number = block_number p.members home.sign.code.number home.member id.number home.there (slice_get_within home.member.blocks id.number c of_member)

  pub block_found : block_at p code id ≡ Some (record { number = numbered_of; code = c })
  unfolding code_of
  block_found =
      ap (block_of p) (ap (block_in p.members id.number) home.is_of ∙ of_number)
      ∙ ap (numbered_block numbered_of) (block_code p.members home.sign.code.number home.member id.number c home.there of_member)

  abbrev pub block_place : BlockPlace p numbered_of
  block_place = record {
    d = home.d;
    declaration = home.declaration;
    declared = home.declared;
    sign = home.sign;
    has = home.has;
    parameters_of = home.parameters_of;
    views = home.views;
    member = home.member;
    member_there = home.there;
    block = id;
    code = c;
    is_block = of_member;
    numbered = of_number;
  }

-- ---- what a block keeps

use_below : (limit : ℕ) (uses : List ℕ) (i : ℕ) → Each (λ k. k < limit) uses → Each (λ k. k < limit) (with_use limit uses i)
use_below limit uses i h = go (nat_lt i limit) (list_any (nat_eq i) uses) refl
  where
    go : (b c : Bool) → nat_lt i limit ≡ b → Each (λ k. k < limit) (cond b (cond c uses (uses ++ i ∷ [])) uses)
    go true true e = h
    go true false e = each_pushed (λ k. k < limit) uses i h (ltb-true i limit e)
    go false c e = h

uses_below : (limit : ℕ) (is : List ℕ) (uses : List ℕ) → Each (λ k. k < limit) uses → Each (λ k. k < limit) (first_uses limit uses is)
unfolding first_uses
uses_below limit [] uses h = h
uses_below limit (i ∷ is) uses h = uses_below limit is (with_use limit uses i) (use_below limit uses i h)

-- a block that is written where these locals stand
pub record Written (blocks : List Code) (locals : List Local) (b : BlockId) : Type 0 where
  pub code : Code
  pub there : slice_get blocks b.number ≡ Some code
  pub outer : code.outer ≡ length locals
  pub kept : code.kept ≡ locals_used (take b.number blocks) code.outer code.form

pub written_of : (cx : Context) (locals : List Local) (b : BlockId) (ts : List Ty) (form : CodeForm) → IsBlock cx locals b ts form → Written cx.blocks locals b
written_of cx locals b ts form (IsBlock.written_here {c = c} there outer parameters kept types) = record { code = c; there = there; outer = outer; kept = kept }

pub action_written : (cx : Context) (locals : List Local) (b : BlockId) (ts : List Ty) → IsAction cx locals b ts → Written cx.blocks locals b
action_written cx locals b ts (IsAction.action {form = form} written is typed) = written_of cx locals b ts form written

pub reader_written : (cx : Context) (locals : List Local) (b : BlockId) (t : Ty) → IsReader cx locals b t → Written cx.blocks locals b
reader_written cx locals b t (IsReader.reader {form = form} written is typed keeps) = written_of cx locals b (t ∷ []) form written

pub kept_below : (blocks : List Code) (locals : List Local) (b : BlockId) (w : Written blocks locals b) → Each (λ k. k < length locals) w.code.kept
kept_below blocks locals b w =
    subst (λ (ks : List ℕ). Each (λ k. k < length locals) ks) (sym w.kept)
    (subst (λ n. Each (λ k. k < n) (locals_used (take b.number blocks) w.code.outer w.code.form)) w.outer (uses_below w.code.outer _ [] tt))

-- ---- what is permitted

module _ (site : Site) (sc : Scope) where
  -- the locals that a block keeps are there
  abbrev pub Shown : Mention → Type 0
  Shown (mention.Local i) = ⊤
  Shown (mention.Code c) = ⊤
  Shown mention.Write = ⊤
  Shown (mention.Block b) = Each (λ k. sc.shows k ≡ true) (kept_by (slice_get sc.blocks b.number))

  abbrev pub Permitted : Mention → Type 0
  Permitted m = Allowed site sc m × Shown m

  abbrev pub Permits : Mentions → Type 0
  Permits ms = Each Permitted ms

  pub may_of : (ms : Mentions) → Permits ms → MayDo site sc ms
  may_of [] h = tt
  may_of (m ∷ ms) h = (h.0.0, may_of ms h.1)

  pub kept_shown : (b : BlockId) (c : Code) → slice_get sc.blocks b.number ≡ Some c → Permitted (mention.Block b) → Each (λ k. sc.shows k ≡ true) c.kept
  kept_shown b c at h = subst (λ (o : Option Code). Each (λ k. sc.shows k ≡ true) (kept_by o)) at h.1
