-- The block that a number past those of the members names.
use Rattle.std.proofs.Common.{◌≡◌, ℕ, suc, ◌+◌, ◌-◌, ◌≤◌, Bool, cond, List, [], ◌∷◌, ◌++◌, length, take, Some, slice_get, ◌⊎◌, inl, inr, refl, sym, ap, ◌∙◌, arith}
use Rattle.std.proofs.lemmas.Bool.{le-ltb}
use Rattle.std.proofs.lemmas.List.{length-append}
use Rattle.std.proofs.lemmas.Option.{slice_get_within}
use Rattle.swift_core.specs.Codes.{blocks_of, main_of, code_in, member_in, block_in, first_block}
use Rattle.swift_core.specs.declared.code.Code.{Code}
use Rattle.swift_core.specs.declared.code.CoreMember.{CoreMember}
use Rattle.world_fits.specs.Lists.{some_same, at_either}
use Rattle.body_terms.specs.Homes.{block_number, block_code, block_member}

-- a block by its number among all blocks
pub record BlockPlace (ms : List CoreMember) (k : ℕ) (c : Code) : Type 0 where
  pub home : ℕ
  pub member : CoreMember
  pub block : ℕ
  pub there : slice_get ms home ≡ Some member
  pub is_block : slice_get member.blocks block ≡ Some c
  pub number : k ≡ length (blocks_of (take home ms)) + block

shifted : (k l j n b t : ℕ) → k ≡ l + j → j ≡ n + b → t ≡ l + n → k ≡ t + b
shifted k l j n b t e f g = omega (arith, e, f, g)

pub block_place : (ms : List CoreMember) (k : ℕ) (c : Code) → slice_get (blocks_of ms) k ≡ Some c → BlockPlace ms k c
block_place [] k c e = absurd (cc e)
block_place (m ∷ ms) k c e = by (λ j h. block_place ms j c h) (at_either m.blocks (blocks_of ms) k c e)
  where
    by : ((j : ℕ) → slice_get (blocks_of ms) j ≡ Some c → BlockPlace ms j c) → (slice_get m.blocks k ≡ Some c) ⊎ ((j : ℕ) × (k ≡ length m.blocks + j) × (slice_get (blocks_of ms) j ≡ Some c)) → BlockPlace (m ∷ ms) k c
    by rest (inl h) = record { home = 0; member = m; block = k; there = refl; is_block = h; number = omega arith }
    by rest (inr h) =
        let r = rest h.0 h.2 in
        record {
          home = suc r.home;
          member = r.member;
          block = r.block;
          there = r.there;
          is_block = r.is_block;
          number = shifted k (length m.blocks) h.0 (length (blocks_of (take r.home ms))) r.block (length (m.blocks ++ blocks_of (take r.home ms))) h.1 r.number (length-append m.blocks (blocks_of (take r.home ms)));
        }

-- a block by its number among all code
pub record Block (members : List CoreMember) (n : ℕ) (c : Code) : Type 0 where
  pub home : ℕ
  pub member : CoreMember
  pub block : ℕ
  pub there : slice_get members home ≡ Some member
  pub is_block : slice_get member.blocks block ≡ Some c
  pub numbered : block_in members block (Some home) ≡ Some n
  pub is_of : member_in members n ≡ Some home

joined : (n a l k b : ℕ) → a ≤ n → k ≡ n - a → k ≡ l + b → (a + l) + b ≡ n
joined n a l k b past e f = omega (arith, past, e, f)

pub block_is : (members : List CoreMember) (n : ℕ) (c : Code) → length members ≤ n → code_in members n ≡ Some c → Block members n c
block_is members n c past coded =
    let among : slice_get (blocks_of members) (n - length members) ≡ Some c =
    sym (ap (λ (b : Bool). cond b (main_of (slice_get members n)) (slice_get (blocks_of members) (n - length members))) (le-ltb n (length members) past)) ∙ coded in
    let r = block_place members (n - length members) c among in
    let within = slice_get_within r.member.blocks r.block c r.is_block in
    let number : first_block members r.home + r.block ≡ n = joined n (length members) (length (blocks_of (take r.home members))) (n - length members) r.block past refl r.number in
    record {
      home = r.home;
      member = r.member;
      block = r.block;
      there = r.there;
      is_block = r.is_block;
      numbered = block_number members r.home r.member r.block r.there within ∙ ap Some number;
      is_of = ap (member_in members) (sym number) ∙ block_member members r.home r.member r.block r.there within;
    }

-- what a number of a block says
pub record Numbered (members : List CoreMember) (home n : ℕ) (c : Code) : Type 0 where
  pub past : length members ≤ n
  pub is_of : member_in members n ≡ Some home
  pub coded : code_in members n ≡ Some c

behind : (a l b n : ℕ) → (a + l) + b ≡ n → a ≤ n
behind a l b n e = omega (arith, e)

pub numbered_is : (members : List CoreMember) (home block n : ℕ) (m : CoreMember) (c : Code) → slice_get members home ≡ Some m → slice_get m.blocks block ≡ Some c → block_in members block (Some home) ≡ Some n
    → Numbered members home n c
numbered_is members home block n m c there is_block numbered =
    let within = slice_get_within m.blocks block c is_block in
    let number : first_block members home + block ≡ n = some_same (first_block members home + block) n (sym (block_number members home m block there within) ∙ numbered) in
    record {
      past = behind (length members) (length (blocks_of (take home members))) block n number;
      is_of = ap (member_in members) (sym number) ∙ block_member members home m block there within;
      coded = ap (code_in members) (sym number) ∙ block_code members home m block c there is_block;
    }
