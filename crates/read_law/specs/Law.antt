-- What a tree gives under one look-up, it gives under another that agrees on what was read.
use Rattle.std.specs.Prelude.{◌≡◌, List, [], ◌∷◌, ◌++◌, Bool, true, false, cond, ◌||◌, Option, Some, None, Result, Ok, Err, ⊤}
use Rattle.std.specs.List.{list_any}
use Rattle.std.proofs.Common.{refl, sym, ap, subst, ◌∙◌}
use Rattle.identity_path.specs.declared.input.Input.{Input}
use Rattle.sv_value.specs.declared.hop.Missing.{Missing}
use Rattle.sv_value.specs.declared.value.Value.{Value}
use Rattle.core_means.specs.declared.origin.Origin.{Origin}
use Rattle.core_means.specs.declared.origin.Read.{Read}
use Rattle.core_means.specs.Asks.{World, Asks, Done, Trapped, Wrong, Ask, Look, Reads, Answer, Gave, Stopped, Bad, asked, noted, is_noted, under}
use Rattle.core_means.specs.Sources.{Found, same_origin, same_origin_decides}

-- P holds of each
abbrev pub Each : {A : Type 0} → (A → Type 0) → List A → Type 0
Each P [] = ⊤
Each P (x ∷ xs) = P x × Each P xs

-- the read has the same value under a look-up
abbrev pub IsSame : Look → Read → Type 0
IsSame look r = look r.origin ≡ Some (Ok r.input)

-- what gave a value gives it wherever each read has the same value
abbrev pub DependsOnReads : Type 0
DependsOnReads = (one two : Look) (m : Asks Value) (x : Value) (w : World) (reads : Reads)
    → under one [] m ≡ Gave x w reads → Each (IsSame two) reads → under two [] m ≡ Gave x w reads

-- what a run read, also one that trapped
abbrev pub reads_of : {A : Type 0} → Answer A → Option Reads
reads_of (Gave x w reads) = Some reads
reads_of (Stopped k w reads) = Some reads
reads_of Bad = None

-- Where not each read has the same value, a run that gives a value has other reads.
abbrev pub OtherValueOtherReads : Type 0
OtherValueOtherReads = (one two : Look) (m : Asks Value) (reads : Reads) (y : Value) (u : World) (others : Reads)
    → reads_of (under one [] m) ≡ Some reads → under two [] m ≡ Gave y u others → (Each (IsSame two) reads → ⊥) → others ≡ reads → ⊥

each_front : {A : Type 0} (P : A → Type 0) (xs ys : List A) → Each P (xs ++ ys) → Each P xs
each_front P [] ys h = tt
each_front P (x ∷ xs) ys h = (h.0, each_front P xs ys h.1)

each_last : {A : Type 0} (P : A → Type 0) (xs : List A) (y : A) → Each P (xs ++ y ∷ []) → P y
each_last P [] y h = h.0
each_last P (x ∷ xs) y h = each_last P xs y h.1

each_push : {A : Type 0} (P : A → Type 0) (xs : List A) (y : A) → Each P xs → P y → Each P (xs ++ y ∷ [])
each_push P [] y h k = (k, tt)
each_push P (x ∷ xs) y h k = (h.0, each_push P xs y h.1 k)

-- a source that is noted has one value under both
known : (one two : Look) (s : Origin) (v : Input) → one s ≡ Some (Ok v) → (reads : Reads) → Each (IsSame one) reads → Each (IsSame two) reads
    → is_noted s reads ≡ true → two s ≡ Some (Ok v)
known one two s v here [] h k any = cc
known one two s v here (r ∷ reads) h k any = go (same_origin s r.origin) refl any (known one two s v here reads h.1 k.1)
  where
    go : (b : Bool) → same_origin s r.origin ≡ b → b || is_noted s reads ≡ true → (is_noted s reads ≡ true → two s ≡ Some (Ok v)) → two s ≡ Some (Ok v)
    go true e any more = let same : s ≡ r.origin = (same_origin_decides s r.origin).0 e in ap two same ∙ k.0 ∙ sym h.0 ∙ ap one (sym same) ∙ here
    go false e any more = more any

module _ (one two : Look) (s : Origin) (v : Input) (here : one s ≡ Some (Ok v)) (reads : Reads) where
  noted_as : (P : Read → Type 0) → Each P (noted s v reads) → Each P reads
  unfolding noted
  noted_as P h = elim (is_noted s reads) as (λ b. Each P (cond b reads (reads ++ record { origin = s; input = v } ∷ [])) → Each P reads) [ true ↦ λ k. k | false ↦ λ k. each_front P reads (record { origin = s; input = v } ∷ []) k ] h

  noted_sound : Each (IsSame one) reads → Each (IsSame one) (noted s v reads)
  unfolding noted
  noted_sound h = elim (is_noted s reads) as (λ b. Each (IsSame one) (cond b reads (reads ++ record { origin = s; input = v } ∷ []))) [ true ↦ h | false ↦ each_push (IsSame one) reads (record { origin = s; input = v }) h here ]

  there : Each (IsSame one) reads → Each (IsSame two) (noted s v reads) → two s ≡ Some (Ok v)
  unfolding noted
  there h k = go (is_noted s reads) refl k
    where
      go : (b : Bool) → is_noted s reads ≡ b → Each (IsSame two) (cond b reads (reads ++ record { origin = s; input = v } ∷ [])) → two s ≡ Some (Ok v)
      go true e m = known one two s v here reads h m e
      go false e m = each_last (IsSame two) reads (record { origin = s; input = v }) m

-- what was read before is among what is read at the end
grows : {A : Type 0} (look : Look) (P : Read → Type 0) (before later : Reads) (m : Asks A) (x : A) (w : World) → under look before m ≡ Gave x w later → Each P later → Each P before
unfolding under
grows look P before later (Done y u) x w e h = let same : before ≡ later = cc in subst (Each P) (sym same) h
grows look P before later (Trapped k u) x w e h = cc
grows look P before later Wrong x w e h = cc
grows look P before later (Ask s u g) x w e h = go (look s) refl e (λ v. grows look P (noted s v before) later (g v) x w)
  where
    go : (o : Found) → look s ≡ o → asked o u before (λ v. under look (noted s v before) (g v)) ≡ Gave x w later
        → ((v : Input) → under look (noted s v before) (g v) ≡ Gave x w later → Each P later → Each P (noted s v before)) → Each P before
    go None k e more = cc
    go (Some (Err missing)) k e more = cc
    go (Some (Ok v)) k e more = noted_as look look s v k before P (more v e h)

pub agrees : {A : Type 0} (one two : Look) (before later : Reads) (m : Asks A) (x : A) (w : World) → Each (IsSame one) before
    → under one before m ≡ Gave x w later → Each (IsSame two) later → under two before m ≡ Gave x w later
unfolding under
agrees one two before later (Done y u) x w sound e h = e
agrees one two before later (Trapped k u) x w sound e h = cc
agrees one two before later Wrong x w sound e h = cc
agrees one two before later (Ask s u g) x w sound e h = go (one s) refl e (λ v. agrees one two (noted s v before) later (g v) x w)
  where
    go : (o : Found) → one s ≡ o → asked o u before (λ v. under one (noted s v before) (g v)) ≡ Gave x w later
        → ((v : Input) → Each (IsSame one) (noted s v before) → under one (noted s v before) (g v) ≡ Gave x w later → Each (IsSame two) later → under two (noted s v before) (g v) ≡ Gave x w later)
        → asked (two s) u before (λ v. under two (noted s v before) (g v)) ≡ Gave x w later
    go None k e more = cc
    go (Some (Err missing)) k e more = cc
    go (Some (Ok v)) k e more =
        let same = there one two s v k before sound (grows one (IsSame two) (noted s v before) later (g v) x w e h) in
        ap (λ o. asked o u before (λ v. under two (noted s v before) (g v))) same ∙ more v (noted_sound one two s v k before sound) e h

-- each read of a run holds under its own look-up
pub sound : {A : Type 0} (look : Look) (before later : Reads) (m : Asks A) (x : A) (w : World) → Each (IsSame look) before → under look before m ≡ Gave x w later → Each (IsSame look) later
unfolding under
sound look before later (Done y u) x w h e = let same : before ≡ later = cc in subst (Each (IsSame look)) same h
sound look before later (Trapped k u) x w h e = cc
sound look before later Wrong x w h e = cc
sound look before later (Ask s u g) x w h e = go (look s) refl e (λ v. sound look (noted s v before) later (g v) x w)
  where
    go : (o : Found) → look s ≡ o → asked o u before (λ v. under look (noted s v before) (g v)) ≡ Gave x w later
        → ((v : Input) → Each (IsSame look) (noted s v before) → under look (noted s v before) (g v) ≡ Gave x w later → Each (IsSame look) later) → Each (IsSame look) later
    go None k e more = cc
    go (Some (Err missing)) k e more = cc
    go (Some (Ok v)) k e more = more v (noted_sound look look s v k before h) e

pub differs : {A : Type 0} (one two : Look) (m : Asks A) (reads : Reads) (y : A) (u : World) (others : Reads)
    → reads_of (under one [] m) ≡ Some reads → under two [] m ≡ Gave y u others → (Each (IsSame two) reads → ⊥) → others ≡ reads → ⊥
differs one two m reads y u others e f not_each same = not_each (subst (Each (IsSame two)) same (sound two [] others m y u tt f))
