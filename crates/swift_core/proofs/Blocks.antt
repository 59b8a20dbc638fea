-- The numbers of the blocks of members, one member at a time, and how they find a block.
use Rattle.std.proofs.Common.{◌≡◌, ℕ, zero, suc, ◌+◌, ◌-◌, ◌<◌, ◌≤◌, length, List, [], ◌∷◌, ◌++◌, drop, take, slice_get, cond, nat_lt, IsSome, true, false, Bool, Option, Some, None, ◌⊎◌, inl, inr, refl, sym, ap, ◌∙◌, arith}
use Rattle.std.specs.List.{flat_map}
use Rattle.std.proofs.lemmas.Bool.{ltb-true}
use Rattle.std.proofs.lemmas.Option.{slice_get_cases, slice_get_past}
use Rattle.std.proofs.Math.ListN.{replicate, get_or}
use Rattle.std.proofs.lemmas.List.{drop_more, drop_all, length-append, length-replicate}
use Rattle.swift_core.specs.declared.code.CoreMember.{CoreMember}
use Rattle.swift_core.specs.declared.code.Code.{Code}
use Rattle.swift_core.specs.Codes.{homes_from, blocks_of, block_in, numbered, first_block}
use Rattle.swift_core.specs.Firsts.{firsts_from}

dropped : (ms : List CoreMember) (i : ℕ) (m : CoreMember) → i < length ms → m ≡ get_or ms i m → drop i ms ≡ m ∷ drop (i + 1) ms
dropped ms i m h e = drop_more ms i m h ∙ ap (λ x. x ∷ drop (i + 1) ms) (sym e)

assoc : {X : Type 0} (xs ys zs : List X) → (xs ++ ys) ++ zs ≡ xs ++ (ys ++ zs)
assoc [] ys zs = refl
assoc (x ∷ xs) ys zs = ap (λ l. x ∷ l) (assoc xs ys zs)

long : (xs : List ℕ) (n i : ℕ) → length (xs ++ replicate n i) ≡ length xs + n
long [] n i = length-replicate n i ∙ omega arith
long (x ∷ xs) n i = ap suc (long xs n i) ∙ omega arith

-- the homes of a member more
pub homes_turn : (homes whole : List ℕ) (ms : List CoreMember) (i : ℕ) (m : CoreMember) → i < length ms → m ≡ get_or ms i m →
    homes ++ homes_from i (drop i ms) ≡ whole → (homes ++ replicate (length m.blocks) i) ++ homes_from (i + 1) (drop (i + 1) ms) ≡ whole
unfolding homes_from
homes_turn homes whole ms i m h e known =
    assoc homes (replicate (length m.blocks) i) (homes_from (i + 1) (drop (i + 1) ms))
    ∙ sym (ap (λ l. homes ++ homes_from i l) (dropped ms i m h e)) ∙ known

-- the first block of a member more
pub firsts_turn : (firsts homes whole : List ℕ) (ms : List CoreMember) (i : ℕ) (m : CoreMember) → i < length ms → m ≡ get_or ms i m →
    firsts ++ firsts_from (length homes) (drop i ms) ≡ whole →
    (firsts ++ length homes ∷ []) ++ firsts_from (length (homes ++ replicate (length m.blocks) i)) (drop (i + 1) ms) ≡ whole
unfolding firsts_from
firsts_turn firsts homes whole ms i m h e known =
    assoc firsts (length homes ∷ []) (firsts_from (length (homes ++ replicate (length m.blocks) i)) (drop (i + 1) ms))
    ∙ ap (λ n. firsts ++ (length homes ∷ firsts_from n (drop (i + 1) ms))) (long homes (length m.blocks) i)
    ∙ sym (ap (λ l. firsts ++ firsts_from (length homes) l) (dropped ms i m h e)) ∙ known

-- both, where the lists are given by equations
pub turn : (homes firsts new_homes new_firsts all_homes all_firsts : List ℕ) (ms : List CoreMember) (i n k : ℕ) (m : CoreMember) → i < length ms → m ≡ get_or ms i m →
    n ≡ length homes → new_firsts ≡ firsts ++ n ∷ [] → k ≡ length m.blocks → new_homes ≡ homes ++ replicate k i →
    (homes ++ homes_from i (drop i ms) ≡ all_homes) × (firsts ++ firsts_from (length homes) (drop i ms) ≡ all_firsts) →
    (new_homes ++ homes_from (i + 1) (drop (i + 1) ms) ≡ all_homes) × (new_firsts ++ firsts_from (length new_homes) (drop (i + 1) ms) ≡ all_firsts)
turn homes firsts new_homes new_firsts all_homes all_firsts ms i n k m h e at_n at_firsts at_k at_homes known =
    let wide : new_homes ≡ homes ++ replicate (length m.blocks) i = at_homes ∙ ap (λ j. homes ++ replicate j i) at_k in (
      ap (λ l. l ++ homes_from (i + 1) (drop (i + 1) ms)) wide ∙ homes_turn homes all_homes ms i m h e known.0,
      ap (λ l. l ++ firsts_from (length new_homes) (drop (i + 1) ms)) (at_firsts ∙ ap (λ j. firsts ++ j ∷ []) at_n)
          ∙ ap (λ l. (firsts ++ length homes ∷ []) ++ firsts_from (length l) (drop (i + 1) ms)) wide ∙ firsts_turn firsts homes all_firsts ms i m h e known.1,
    )

-- no member is left
pub homes_end : (homes whole : List ℕ) (ms : List CoreMember) (i : ℕ) → length ms ≤ i → homes ++ homes_from i (drop i ms) ≡ whole → homes ≡ whole
unfolding homes_from
homes_end homes whole ms i h known = sym (nil homes) ∙ sym (ap (λ l. homes ++ homes_from i l) (drop_all i ms h)) ∙ known
  where
    nil : (xs : List ℕ) → xs ++ [] ≡ xs
    nil [] = refl
    nil (x ∷ xs) = ap (λ l. x ∷ l) (nil xs)

pub firsts_end : (firsts whole : List ℕ) (n : ℕ) (ms : List CoreMember) (i : ℕ) → length ms ≤ i → firsts ++ firsts_from n (drop i ms) ≡ whole → firsts ≡ whole
unfolding firsts_from
firsts_end firsts whole n ms i h known = sym (nil firsts) ∙ sym (ap (λ l. firsts ++ firsts_from n l) (drop_all i ms h)) ∙ known
  where
    nil : (xs : List ℕ) → xs ++ [] ≡ xs
    nil [] = refl
    nil (x ∷ xs) = ap (λ l. x ∷ l) (nil xs)

-- ---- a block by its number among all blocks

front : {X : Type 0} (xs ys : List X) (k : ℕ) → k < length xs → slice_get (xs ++ ys) k ≡ slice_get xs k
front [] ys k h = absurd (omega (arith, h))
front (x ∷ xs) ys zero h = refl
front (x ∷ xs) ys (suc k) h = front xs ys k (omega (arith, h))

back : {X : Type 0} (xs ys : List X) (k : ℕ) → length xs ≤ k → slice_get (xs ++ ys) k ≡ slice_get ys (k - length xs)
back [] ys k h = ap (slice_get ys) (omega arith)
back (x ∷ xs) ys zero h = absurd (omega (arith, h))
back (x ∷ xs) ys (suc k) h = back xs ys k (omega (arith, h)) ∙ ap (slice_get ys) (omega arith)

same_number : (n i k h : ℕ) → k < n → slice_get (replicate n i) k ≡ Some h → h ≡ i
same_number zero i k h less e = absurd (omega (arith, less))
same_number (suc n) i zero h less e = cc
same_number (suc n) i (suc k) h less e = same_number n i k h (omega (arith, less)) e

abbrev pub before : List CoreMember → ℕ → ℕ
before ms j = length (blocks_of (take j ms))

-- where the member of a block stands, and where the block stands among its own
pub record Home (ms : List CoreMember) (first k h : ℕ) : Type 0 where
  pub place : ℕ
  pub member : CoreMember
  pub numbered : h ≡ first + place
  pub stands : slice_get ms place ≡ Some member
  pub behind : before ms place ≤ k
  pub block : slice_get member.blocks (k - before ms place) ≡ slice_get (blocks_of ms) k

pub home_is : (first : ℕ) (ms : List CoreMember) (k h : ℕ) → slice_get (homes_from first ms) k ≡ Some h → Home ms first k h
unfolding homes_from
home_is first [] k h e = absurd (cc e)
home_is first (m ∷ ms) k h e = by (λ k' e'. home_is (first + 1) ms k' h e') (slice_get_cases m.blocks k).1
  where
    later : ((k' : ℕ) → slice_get (homes_from (first + 1) ms) k' ≡ Some h → Home ms (first + 1) k' h) → length m.blocks ≤ k → Home (m ∷ ms) first k h
    later rest past =
        let wide : length (replicate (length m.blocks) first) ≡ length m.blocks = length-replicate (length m.blocks) first in
        let e' : slice_get (homes_from (first + 1) ms) (k - length m.blocks) ≡ Some h =
        ap (λ n. slice_get (homes_from (first + 1) ms) (k - n)) (sym wide) ∙ sym (back (replicate (length m.blocks) first) (homes_from (first + 1) ms) k (omega (arith, past, wide))) ∙ e in
        let r = rest (k - length m.blocks) e' in
        let wider : length (m.blocks ++ blocks_of (take r.place ms)) ≡ length m.blocks + before ms r.place = length-append m.blocks (blocks_of (take r.place ms)) in
        record {
          place = suc r.place;
          member = r.member;
          numbered = omega (arith, r.numbered);
          stands = r.stands;
          behind = omega (arith, r.behind, wider, past);
          block = ap (slice_get r.member.blocks) (omega (arith, wider, past, r.behind)) ∙ r.block ∙ sym (back m.blocks (blocks_of ms) k past);
        }

    by : ((k' : ℕ) → slice_get (homes_from (first + 1) ms) k' ≡ Some h → Home ms (first + 1) k' h) → ((x : Code) × (k < length m.blocks) × (slice_get m.blocks k ≡ Some x) × (get_or m.blocks k x ≡ x)) ⊎ ((length m.blocks ≤ k) × (slice_get m.blocks k ≡ None)) → Home (m ∷ ms) first k h
    by rest (inl w) =
        let wide : length (replicate (length m.blocks) first) ≡ length m.blocks = length-replicate (length m.blocks) first in
        record {
          place = 0;
          member = m;
          numbered = same_number (length m.blocks) first k h w.1 (sym (front (replicate (length m.blocks) first) (homes_from (first + 1) ms) k (omega (arith, w.1, wide))) ∙ e) ∙ omega arith;
          stands = refl;
          behind = omega arith;
          block = ap (slice_get m.blocks) (omega arith) ∙ sym (front m.blocks (blocks_of ms) k w.1);
        }
    by rest (inr p) = later rest p.0

same_length : (first : ℕ) (ms : List CoreMember) → length (homes_from first ms) ≡ length (blocks_of ms)
unfolding homes_from
same_length first [] = refl
same_length first (m ∷ ms) =
    length-append (replicate (length m.blocks) first) (homes_from (first + 1) ms)
    ∙ ap (λ n. n + length (homes_from (first + 1) ms)) (length-replicate (length m.blocks) first)
    ∙ ap (λ n. length m.blocks + n) (same_length (first + 1) ms) ∙ sym (length-append m.blocks (blocks_of ms))

pub no_home : (first : ℕ) (ms : List CoreMember) (k : ℕ) → slice_get (homes_from first ms) k ≡ None → slice_get (blocks_of ms) k ≡ None
no_home first ms k e = by (slice_get_cases (homes_from first ms) k).1
  where
    by : ((x : ℕ) × (k < length (homes_from first ms)) × (slice_get (homes_from first ms) k ≡ Some x) × (get_or (homes_from first ms) k x ≡ x))
        ⊎ ((length (homes_from first ms) ≤ k) × (slice_get (homes_from first ms) k ≡ None)) → slice_get (blocks_of ms) k ≡ None
    by (inl w) = let n : Some w.0 ≡ None = sym w.2 ∙ e in cc
    by (inr p) = slice_get_past (blocks_of ms) k (omega (arith, p.0, same_length first ms))

pub first_is : (n : ℕ) (ms : List CoreMember) (j : ℕ) (m : CoreMember) → slice_get ms j ≡ Some m → slice_get (firsts_from n ms) j ≡ Some (n + before ms j)
unfolding firsts_from
first_is n [] j m e = absurd (cc e)
first_is n (x ∷ ms) zero m e = ap Some (omega arith)
first_is n (x ∷ ms) (suc j) m e =
    first_is (n + length x.blocks) ms j m e ∙ ap Some (omega (arith, length-append x.blocks (blocks_of (take j ms))))

-- ---- the same, of an index that is right

pub no_block : (ms : List CoreMember) (homes : List ℕ) (k : ℕ) → homes ≡ homes_from 0 ms → slice_get homes k ≡ None → slice_get (blocks_of ms) k ≡ None
no_block ms homes k e h = no_home 0 ms k (sym (ap (λ l. slice_get l k) e) ∙ h)

-- where a block stands
pub record Block (ms : List CoreMember) (firsts : List ℕ) (k h : ℕ) : Type 0 where
  pub member : CoreMember
  pub first : ℕ
  pub stands : slice_get ms h ≡ Some member
  pub begins : slice_get firsts h ≡ Some first
  pub is_before : first ≡ before ms h
  pub behind : first ≤ k
  pub block : slice_get member.blocks (k - first) ≡ slice_get (blocks_of ms) k

pub block_is : (ms : List CoreMember) (homes firsts : List ℕ) (k h : ℕ) → homes ≡ homes_from 0 ms → firsts ≡ firsts_from 0 ms → slice_get homes k ≡ Some h → Block ms firsts k h
block_is ms homes firsts k h e f at =
    let r = home_is 0 ms k h (sym (ap (λ l. slice_get l k) e) ∙ at) in
    let there : h ≡ r.place = omega (arith, r.numbered) in
    record {
      member = r.member;
      first = before ms r.place;
      stands = ap (slice_get ms) there ∙ r.stands;
      begins = ap (λ l. slice_get l h) f ∙ ap (slice_get (firsts_from 0 ms)) there ∙ first_is 0 ms r.place r.member r.stands ∙ ap Some (omega arith);
      is_before = ap (before ms) (sym there);
      behind = r.behind;
      block = r.block;
    }

pub begins_there : {A : Type 0} (ms : List CoreMember) (firsts : List ℕ) (k h : ℕ) → Block ms firsts k h → slice_get firsts h ≡ None → A
begins_there ms firsts k h b e = let n : Some b.first ≡ None = sym b.begins ∙ e in absurd (cc n)

pub stands_there : {A : Type 0} (ms : List CoreMember) (firsts : List ℕ) (k h : ℕ) → Block ms firsts k h → slice_get ms h ≡ None → A
stands_there ms firsts k h b e = let n : Some b.member ≡ None = sym b.stands ∙ e in absurd (cc n)

first_same : (ms : List CoreMember) (firsts : List ℕ) (k h f : ℕ) (b : Block ms firsts k h) → slice_get firsts h ≡ Some f → b.first ≡ f
first_same ms firsts k h f b e = let n : Some b.first ≡ Some f = sym b.begins ∙ e in cc

pub behind_first : (ms : List CoreMember) (firsts : List ℕ) (k h f : ℕ) → Block ms firsts k h → slice_get firsts h ≡ Some f → f ≤ k
behind_first ms firsts k h f b e = omega (arith, b.behind, first_same ms firsts k h f b e)

pub block_found : (ms : List CoreMember) (firsts : List ℕ) (k h f : ℕ) (m : CoreMember) → Block ms firsts k h → slice_get firsts h ≡ Some f → slice_get ms h ≡ Some m →
    slice_get m.blocks (k - f) ≡ slice_get (blocks_of ms) k
block_found ms firsts k h f m b e at =
    let same : Some b.member ≡ Some m = sym b.stands ∙ at in
    let there : b.member ≡ m = cc in
    ap (λ n. slice_get m.blocks (k - n)) (sym (first_same ms firsts k h f b e)) ∙ sym (ap (λ (x : CoreMember). slice_get x.blocks (k - b.first)) there) ∙ b.block

-- ---- the number of a block

-- a block of a member stands before the end of all blocks
pub numbered_within : (ms : List CoreMember) (j : ℕ) (m : CoreMember) (b : ℕ) → slice_get ms j ≡ Some m → b < length m.blocks → before ms j + b < length (blocks_of ms)
numbered_within [] j m b e h = absurd (cc e)
numbered_within (x ∷ ms) zero m b e h =
    let same : x ≡ m = cc in
    let long : length (x.blocks ++ blocks_of ms) ≡ length x.blocks + length (blocks_of ms) = length-append x.blocks (blocks_of ms) in
    let len : length x.blocks ≡ length m.blocks = ap (λ (y : CoreMember). length y.blocks) same in
    omega (arith, h, long, len)
numbered_within (x ∷ ms) (suc j) m b e h =
    let long : length (x.blocks ++ blocks_of ms) ≡ length x.blocks + length (blocks_of ms) = length-append x.blocks (blocks_of ms) in
    let short : length (x.blocks ++ blocks_of (take j ms)) ≡ length x.blocks + before ms j = length-append x.blocks (blocks_of (take j ms)) in
    omega (arith, numbered_within ms j m b e h, long, short)

-- what is known of a block that has a number
pub record Numbered (ms : List CoreMember) (j b : ℕ) : Type 0 where
  pub member : CoreMember
  pub stands : slice_get ms j ≡ Some member
  pub within : b < length member.blocks
  pub value : block_in ms b (Some j) ≡ Some (first_block ms j + b)

pub has_number : (ms : List CoreMember) (j b : ℕ) → IsSome (block_in ms b (Some j)) → Numbered ms j b
has_number ms j b h = by (slice_get ms j) refl h
  where
    at : (m : CoreMember) → slice_get ms j ≡ Some m → (t : Bool) → nat_lt b (length m.blocks) ≡ t → IsSome (cond t (Some (first_block ms j + b)) None) → Numbered ms j b
    at m e true t h = record { member = m; stands = e; within = ltb-true b (length m.blocks) t; value = ap (numbered (first_block ms j) b) e ∙ ap (λ s. cond s (Some (first_block ms j + b)) None) t }
    at m e false t h = absurd (cc h)

    by : (o : Option CoreMember) → slice_get ms j ≡ o → IsSome (numbered (first_block ms j) b o) → Numbered ms j b
    by None e h = absurd (cc h)
    by (Some m) e h = at m e (nat_lt b (length m.blocks)) refl h

-- what the number is made of
pub number_facts : (ms : List CoreMember) (homes firsts : List ℕ) (j b f : ℕ) → homes ≡ homes_from 0 ms → firsts ≡ firsts_from 0 ms → IsSome (block_in ms b (Some j)) → slice_get firsts j ≡ Some f →
    (f + b < length homes) × (block_in ms b (Some j) ≡ Some (length ms + (f + b)))
number_facts ms homes firsts j b f e g h at =
    let n = has_number ms j b h in
    let is : Some (0 + before ms j) ≡ Some f = sym (first_is 0 ms j n.member n.stands) ∙ sym (ap (λ l. slice_get l j) g) ∙ at in
    let same : 0 + before ms j ≡ f = cc in
    (omega (arith, numbered_within ms j n.member b n.stands n.within, same, ap length e, same_length 0 ms), n.value ∙ ap Some (omega (arith, same)))

pub first_there : {A : Type 0} (ms : List CoreMember) (firsts : List ℕ) (j b : ℕ) → firsts ≡ firsts_from 0 ms → IsSome (block_in ms b (Some j)) → slice_get firsts j ≡ None → A
first_there ms firsts j b g h at =
    let n = has_number ms j b h in
    let is : Some (0 + before ms j) ≡ None = sym (first_is 0 ms j n.member n.stands) ∙ sym (ap (λ l. slice_get l j) g) ∙ at in
    absurd (cc is)
