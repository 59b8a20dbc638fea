-- Where hops lead from a type, as a function, and the types from which they can lead to a given one.
use Rattle.std.specs.Prelude.{◌≡◌, ◌↔◌, ℕ, ℤ, zero, suc, ◌==◌, ◌<◌, Bool, true, false, cond, List, [], ◌∷◌, length, Option, Some, None, slice_get, option_and_then}
use Rattle.std.proofs.Common.{refl, sym, ap, subst, ◌∙◌}
use Rattle.std.proofs.lemmas.Bool.Decides.{Decides-eqb}
use Rattle.std.proofs.lemmas.Option.{slice_get_within}
use Rattle.sv_value.specs.declared.hop.Hop.{Hop}
use Rattle.sv_value.specs.declared.hop.Hop.TheVariants.{Field, Index}
use Rattle.swift_ast.specs.declared.tree.Binder.{Binder}
use Rattle.swift_core.specs.declared.table.Argument.{Argument}
use Rattle.swift_core.specs.declared.table.Declaration.{Declaration}
use Rattle.swift_core.specs.declared.table.Signature.{Signature}
use Rattle.swift_core.specs.declared.table.SignatureForm.{SignatureForm}
use Rattle.swift_core.specs.declared.table.SignatureForm.TheVariants as form
use Rattle.swift_core.specs.declared.table.Table.{Table}
use Rattle.swift_core.specs.declared.ty.Ty.{Ty, out-Ty, roll-Ty, roll-out-Ty}
use Rattle.swift_core.specs.declared.ty.Ty.TheVariants as ty
use Rattle.swift_core.specs.declared.ty.Ty.TheViews as ty_view
use Rattle.swift_core.specs.Context.{HasMember, Part, stored_at, inputs_of}
use Rattle.swift_core.specs.Programs.{InItsPlace}
use Rattle.swift_core.specs.Types.{element_at, named_at}
use Rattle.value_fits.specs.Fields.{Standing, IsField}
use Rattle.value_fits.specs.Forms.{is_list, is_named}
use Rattle.value_fits.specs.Reached.{HopFits, HopsFit}

-- ---- the walk

abbrev pub stored_here : ℕ → SignatureForm → Option (Option Ty)
stored_here n (form.Stored m b t a) = cond (m == n) (Some t) None
stored_here n other = None

abbrev pub first_or : Option (Option Ty) → Option Ty → Option Ty
first_or None rest = rest
first_or (Some t) rest = t

-- the type of the first stored property that says this place
abbrev pub stored_type : ℕ → List Signature → Option Ty
stored_type n [] = None
stored_type n (s ∷ ms) = first_or (stored_here n s.form) (stored_type n ms)

abbrev pub stored_in : ℕ → Option Declaration → Option Ty
stored_in n None = None
stored_in n (Some declaration) = stored_type n declaration.members

abbrev pub field_type : Table → ℕ → Option ℕ → Option Ty
field_type table n None = None
field_type table n (Some d) = stored_in n (slice_get table.declarations d)

-- where one hop leads
abbrev pub hop_type : Table → Ty → Hop → Option Ty
hop_type table t (Field n) = field_type table n (named_at (out-Ty t))
hop_type table t (Index i) = element_at (out-Ty t)

-- where the hops lead, one after the other
abbrev pub walk : Table → Ty → List Hop → Option Ty
walk table t [] = Some t
walk table t (h ∷ hs) = option_and_then (λ u. walk table u hs) (hop_type table t h)

-- It is where they lead by the rules.
abbrev pub WalksAreRight : Type 0
WalksAreRight = (table : Table) → Standing table → (t u : Ty) (hs : List Hop) → HopsFit table t hs u ↔ (walk table t hs ≡ Some u)

-- ---- the type of a property

-- what is found first is the type of a stored property of this place
record FirstStored (ms : List Signature) (n : ℕ) (t : Option Ty) : Type 0 where
  at : ℕ
  sign : Signature
  there : slice_get ms at ≡ Some sign
  binder : Binder
  argument : Argument
  of_form : sign.form ≡ form.Stored n binder t argument

here_is : (n : ℕ) (f : SignatureForm) (t : Option Ty) → stored_here n f ≡ Some t → (b : Binder) × ((a : Argument) × (f ≡ form.Stored n b t a))
here_is n (form.Stored m b u a) t e = by (m == n) refl e
  where
    by : (x : Bool) → (m == n) ≡ x → cond x (Some u) None ≡ Some t → (c : Binder) × ((d : Argument) × (form.Stored m b u a ≡ form.Stored n c t d))
    by true is h = let number : m ≡ n = (Decides-eqb m n).0 is in let same : u ≡ t = cc in (b, (a, λ j. form.Stored (number j) b (same j) a))
    by false is h = absurd (cc h)
here_is n _ t e = absurd (cc e)

-- the type that is found first, with its property
abbrev FirstFound : List Signature → ℕ → Type 0
FirstFound ms n = (u : Option Ty) × (stored_type n ms ≡ u) × FirstStored ms n u

in_front : (x : Signature) (ms : List Signature) (n : ℕ) (u : Option Ty) → stored_here n x.form ≡ Some u → FirstFound (x ∷ ms) n
in_front x ms n u h =
    let g = here_is n x.form u h in
    (u, ap (λ (o : Option (Option Ty)). first_or o (stored_type n ms)) h, record { at = zero; sign = x; there = refl; binder = g.0; argument = g.1.0; of_form = g.1.1 })

one_more : (x : Signature) (ms : List Signature) (n : ℕ) (o : Option (Option Ty)) → stored_here n x.form ≡ o → FirstFound ms n → FirstFound (x ∷ ms) n
one_more x ms n (Some u) h r = in_front x ms n u h
one_more x ms n None h r =
    let g = r.2 in (
      r.0,
      ap (λ (o : Option (Option Ty)). first_or o (stored_type n ms)) h ∙ r.1,
      record { at = suc g.at; sign = g.sign; there = g.there; binder = g.binder; argument = g.argument; of_form = g.of_form },
    )

-- there is one: the first is found, with its type
first_stored : (ms : List Signature) (n at : ℕ) (s : Signature) (b : Binder) (t : Option Ty) (a : Argument) → slice_get ms at ≡ Some s → s.form ≡ form.Stored n b t a → FirstFound ms n
first_stored [] n at s b t a e f = absurd (cc e)
first_stored (x ∷ ms) n zero s b t a e f =
    let same : x ≡ s = cc in
    let here : stored_here n x.form ≡ Some t = ap (λ (y : Signature). stored_here n y.form) same ∙ ap (stored_here n) f ∙ ap (λ (c : Bool). cond c (Some t) None) ((Decides-eqb n n).1 refl) in
    in_front x ms n t here
first_stored (x ∷ ms) n (suc k) s b t a e f = one_more x ms n (stored_here n x.form) refl (first_stored ms n k s b t a e f)

-- a type is found: it is that of a stored property
found_by : (x : Signature) (ms : List Signature) (n : ℕ) (t : Ty) (o : Option (Option Ty)) → stored_here n x.form ≡ o → first_or o (stored_type n ms) ≡ Some t
    → (stored_type n ms ≡ Some t → FirstStored ms n (Some t)) → FirstStored (x ∷ ms) n (Some t)
found_by x ms n t (Some u) h is later = let g = here_is n x.form (Some t) (h ∙ ap Some is) in record { at = zero; sign = x; there = refl; binder = g.0; argument = g.1.0; of_form = g.1.1 }
found_by x ms n t None h is later =
    let r = later is in
    record { at = suc r.at; sign = r.sign; there = r.there; binder = r.binder; argument = r.argument; of_form = r.of_form }

stored_found : (ms : List Signature) (n : ℕ) (t : Ty) → stored_type n ms ≡ Some t → FirstStored ms n (Some t)
stored_found [] n t e = absurd (cc e)
stored_found (x ∷ ms) n t e = found_by x ms n t (stored_here n x.form) refl e (stored_found ms n t)

-- two stored properties of one place have one type
same_type : (table : Table) → Standing table → (d : ℕ) (declaration : Declaration) (n at by : ℕ) (s r : Signature) (b c : Binder) (t u : Option Ty) (a e : Argument)
    → slice_get table.declarations d ≡ Some declaration → slice_get declaration.members at ≡ Some s → slice_get declaration.members by ≡ Some r
    → s.form ≡ form.Stored n b t a → r.form ≡ form.Stored n c u e → t ≡ u
same_type table standing d declaration n at by s r b c t u a e there one other is_one is_other =
    let left : slice_get (inputs_of declaration.members) n ≡ stored_at s.code (form.Stored n b t a) =
    subst (λ (x : SignatureForm). InItsPlace declaration.members s.code s.name x) is_one (standing.places d at declaration s there one) in
    let right : slice_get (inputs_of declaration.members) n ≡ stored_at r.code (form.Stored n c u e) =
    subst (λ (x : SignatureForm). InItsPlace declaration.members r.code r.name x) is_other (standing.places d by declaration r there other) in
    ap type_of (sym left ∙ right)
  where
    type_of : Option Part → Option Ty
    type_of None = None
    type_of (Some p) = p.ty

field_found : (table : Table) → Standing table → (t u : Ty) (n : ℕ) → IsField table t n u → field_type table n (named_at (out-Ty t)) ≡ Some u
field_found table standing t u n (IsField.is_field {d = d} {b = b} {a = a} {s = s} named (HasMember.member {declaration = declaration} at there stands) f) =
    let first = first_stored declaration.members n at s b (Some u) a stands f in
    let g = first.2 in
    ap (field_type table n) named ∙ ap (stored_in n) there ∙ first.1
    ∙ same_type table standing d declaration n g.at at g.sign s g.binder b first.0 (Some u) g.argument a there g.there stands g.of_form f

field_is : (table : Table) (t u : Ty) (n : ℕ) (o : Option ℕ) → named_at (out-Ty t) ≡ o → field_type table n o ≡ Some u → IsField table t n u
field_is table t u n None named e = absurd (cc e)
field_is table t u n (Some d) named e = by (slice_get table.declarations d) refl e
  where
    by : (x : Option Declaration) → slice_get table.declarations d ≡ x → stored_in n x ≡ Some u → IsField table t n u
    by None there h = absurd (cc h)
    by (Some declaration) there h =
        let g = stored_found declaration.members n u h in
        IsField.is_field named (HasMember.member g.at there g.there) g.of_form

-- ---- the law

hop_found : (table : Table) → Standing table → (t u : Ty) (h : Hop) → HopFits table t h u → hop_type table t h ≡ Some u
hop_found table standing t u h (HopFits.to_field {n = n} f) = field_found table standing t u n f
hop_found table standing t u h (HopFits.to_element e) = e

hop_is : (table : Table) (t u : Ty) (h : Hop) → hop_type table t h ≡ Some u → HopFits table t h u
hop_is table t u (Field n) e = HopFits.to_field (field_is table t u n (named_at (out-Ty t)) refl e)
hop_is table t u (Index i) e = HopFits.to_element e

walk_found : (table : Table) → Standing table → (t u : Ty) (hs : List Hop) → HopsFit table t hs u → walk table t hs ≡ Some u
walk_found table standing t u [] HopsFit.no_hops = refl
walk_found table standing t u (h ∷ hs) (HopsFit.more_hops {u = m} f fs) =
    ap (option_and_then (λ x. walk table x hs)) (hop_found table standing t m h f) ∙ walk_found table standing m u hs fs

walk_by : (table : Table) (t u : Ty) (h : Hop) (hs : List Hop) (o : Option Ty) → hop_type table t h ≡ o → option_and_then (λ x. walk table x hs) o ≡ Some u
    → ((m : Ty) → walk table m hs ≡ Some u → HopsFit table m hs u) → HopsFit table t (h ∷ hs) u
walk_by table t u h hs None is e later = absurd (cc e)
walk_by table t u h hs (Some m) is e later = HopsFit.more_hops (hop_is table t m h is) (later m e)

walk_is : (table : Table) (t u : Ty) (hs : List Hop) → walk table t hs ≡ Some u → HopsFit table t hs u
walk_is table t u [] e = let same : t ≡ u = cc in subst (HopsFit table t []) same HopsFit.no_hops
walk_is table t u (h ∷ hs) e = walk_by table t u h hs (hop_type table t h) refl e (λ m k. walk_is table m u hs k)

pub walks_are_right : WalksAreRight
walks_are_right table standing t u hs = (walk_found table standing t u hs, walk_is table t u hs)

-- ---- the types from which hops can lead to one

-- the type under so many lists
abbrev pub nest : ℕ → Ty → Ty
nest zero t = t
nest (suc n) t = ty.List (nest n t)

-- the indices in front
abbrev pub leading : List Hop → ℕ
leading [] = 0
leading (Field n ∷ hs) = 0
leading (Index i ∷ hs) = suc (leading hs)

-- Under as many lists as there are indices in front stands the type that is reached, or a declared type.
pub data IsCandidate (table : Table) (hs : List Hop) (u : Ty) : Ty → Type 0 where
  itself : IsCandidate table hs u (nest (leading hs) u)
  declared : {d : ℕ} → d < length table.declarations → IsCandidate table hs u (nest (leading hs) (ty.Named d))

-- There are no others.
abbrev pub CandidatesAreAll : Type 0
CandidatesAreAll = (table : Table) (t u : Ty) (hs : List Hop) → HopsFit table t hs u → IsCandidate table hs u t

more_lists : (table : Table) (i : ℤ) (hs : List Hop) (u m : Ty) → IsCandidate table hs u m → IsCandidate table (Index i ∷ hs) u (ty.List m)
more_lists table i hs u m IsCandidate.itself = IsCandidate.itself
more_lists table i hs u m (IsCandidate.declared h) = IsCandidate.declared h

of_element : (t m : Ty) → element_at (out-Ty t) ≡ Some m → t ≡ ty.List m
of_element t m e = sym (roll-out-Ty t) ∙ ap roll-Ty (is_list (out-Ty t) m e ∙ sym (ty_view.outs-List m)) ∙ roll-out-Ty (ty.List m)

of_name : (t : Ty) (d : ℕ) → named_at (out-Ty t) ≡ Some d → t ≡ ty.Named d
of_name t d e = sym (roll-out-Ty t) ∙ ap roll-Ty (is_named (out-Ty t) d e ∙ sym (ty_view.outs-Named d)) ∙ roll-out-Ty (ty.Named d)

pub candidates_are_all : CandidatesAreAll
candidates_are_all table t u [] HopsFit.no_hops = IsCandidate.itself
candidates_are_all table t u (Field n ∷ hs) (HopsFit.more_hops (HopFits.to_field (IsField.is_field {d = d} named (HasMember.member at there stands) f)) fs) =
    subst (IsCandidate table (Field n ∷ hs) u) (sym (of_name t d named)) (IsCandidate.declared (slice_get_within table.declarations d _ there))
candidates_are_all table t u (Index i ∷ hs) (HopsFit.more_hops {u = m} (HopFits.to_element e) fs) =
    subst (IsCandidate table (Index i ∷ hs) u) (sym (of_element t m e)) (more_lists table i hs u m (candidates_are_all table m u hs fs))
