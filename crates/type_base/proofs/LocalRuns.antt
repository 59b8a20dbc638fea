-- What locals have, one place at a time.
use Rattle.std.proofs.Common.{◌≡◌, ℕ, zero, suc, ◌+◌, ◌<◌, ◌≤◌, arith, length, map, List, [], ◌∷◌, ◌++◌, drop, Option, refl, sym, ap, subst, ◌∙◌, append_assoc}
use Rattle.std.proofs.Math.ListN.{get_or}
use Rattle.std.proofs.lemmas.List.{append-nil, drop_more, drop_all}
use Rattle.std.proofs.lemmas.Option.{slice_get_past}
use Rattle.swift_core.specs.declared.code.LocalType.{LocalType}
use Rattle.type_base.specs.declared.scope.Local.{Local}
use Rattle.type_base.specs.LocalTypes.{local_type, one_type, type_at, types_at}

-- where no local stands, nothing is added
pub none_added : (locals : List Local) (at : ℕ) (types : List LocalType) → length locals ≤ at → types ≡ types ++ type_at locals at
none_added locals at types past = sym (ap (λ (o : Option Local). types ++ one_type o) (slice_get_past locals at past) ∙ append-nil types)

-- one place more
pub at_turn : (locals : List Local) (ks : List ℕ) (i : ℕ) (types new whole : List LocalType) → i < length ks → new ≡ types ++ type_at locals (get_or ks i 0) →
    types ++ types_at locals (drop i ks) ≡ whole → new ++ types_at locals (drop (i + 1) ks) ≡ whole
at_turn locals ks i types new whole h at known =
    ap (λ (ts : List LocalType). ts ++ types_at locals (drop (i + 1) ks)) at
    ∙ append_assoc types (type_at locals (get_or ks i 0)) (types_at locals (drop (i + 1) ks))
    ∙ sym (ap (λ (l : List ℕ). types ++ types_at locals l) (drop_more ks i 0 h)) ∙ known

pub at_end : (locals : List Local) (ks : List ℕ) (i : ℕ) (types whole : List LocalType) → length ks ≤ i → types ++ types_at locals (drop i ks) ≡ whole → types ≡ whole
at_end locals ks i types whole h known = sym (ap (λ (l : List ℕ). types ++ types_at locals l) (drop_all i ks h) ∙ append-nil types) ∙ known

-- the first of those that are left, and the others
first_left : (locals : List Local) (i : ℕ) → type_at locals i ++ map local_type (drop (suc i) locals) ≡ map local_type (drop i locals)
first_left [] zero = refl
first_left [] (suc i) = refl
first_left (l ∷ locals) zero = refl
first_left (l ∷ locals) (suc i) = first_left locals i

-- one local more
pub from_turn : (locals : List Local) (i : ℕ) (types new whole : List LocalType) → new ≡ types ++ type_at locals i → types ++ map local_type (drop i locals) ≡ whole →
    new ++ map local_type (drop (i + 1) locals) ≡ whole
from_turn locals i types new whole at known =
    let n : suc i ≡ i + 1 = omega arith in
    subst (λ (j : ℕ). new ++ map local_type (drop j locals) ≡ whole) n
    (ap (λ (ts : List LocalType). ts ++ map local_type (drop (suc i) locals)) at
    ∙ append_assoc types (type_at locals i) (map local_type (drop (suc i) locals))
    ∙ ap (λ (ts : List LocalType). types ++ ts) (first_left locals i) ∙ known)

pub from_end : (locals : List Local) (i : ℕ) (types whole : List LocalType) → length locals ≤ i → types ++ map local_type (drop i locals) ≡ whole → types ≡ whole
from_end locals i types whole h known = sym (ap (λ (l : List Local). types ++ map local_type l) (drop_all i locals h) ∙ append-nil types) ∙ known
