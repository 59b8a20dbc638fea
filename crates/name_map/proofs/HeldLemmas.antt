-- The entries of the map as a finite map.
use Rattle.std.proofs.Common.{◌≡◌, ℕ, Bool, true, false, Option, List, [], ◌∷◌, Some, map, refl, sym, ap, ◌∙◌, cond}
use Rattle.std.specs.Global.{Vec}
use Rattle.std.specs.Prelude.{nat_eq}
use Rattle.std.specs.FinMap as fin
use Rattle.std.specs.FinMap.{find, get-from_entries, same_map, get-insert}
use Rattle.std.specs.Map.{lookup}
use Rattle.std.specs.Cmp.Lexicographic.{pointwise, texts_ties, nat_list_eq_equiv}
use Rattle.indexmap.specs.IndexMap.{insert_entry}
use Rattle.name_map.specs.Names.{name_cmp, name_cmp_total, name_cmp-IsAntisymmetric}
use Rattle.name_map.specs.Held.{places_of}

abbrev pub Entries : Type 0
Entries = List (Vec ℕ × ℕ)

-- a look-up by the bytes of a name
abbrev pub lookup_name : List ℕ → Entries → Option ℕ
lookup_name q es = lookup (λ k. pointwise nat_eq q k.items) es

-- the entries after a name is given a number
abbrev pub put_entry : Entries → Vec ℕ → ℕ → Entries
put_entry es k v = insert_entry (λ x y. pointwise nat_eq x.items y.items) es k v

find_lookup : (q : List ℕ) (es : Entries) → find name_cmp q (map (λ e. (e.0.items, e.1)) es) ≡ lookup_name q es
find_lookup q [] = refl
find_lookup q (e ∷ es) = λ i. cond (sym (texts_ties q e.0.items) i) (Some e.1) (find_lookup q es i)

-- a look-up in the map is one in the table
pub get_held : (es : Entries) (q : List ℕ) → fin.get (places_of es) q ≡ lookup_name q es
get_held es q = get-from_entries name_cmp_total _ q ∙ find_lookup q es

once : {A : Type 0} (b : Bool) (x y z : A) → cond b x z ≡ cond b x (cond b y z)
once true x y z = refl
once false x y z = refl

swap : {A : Type 0} (b c : Bool) (x y z : A) → (b ≡ true → c ≡ false) → cond b x (cond c y z) ≡ cond c y (cond b x z)
swap true c x y z apart = sym (ap (λ d. cond d y x) (apart refl))
swap false c x y z apart = refl

lookup-put_entry : (q : List ℕ) (es : Entries) (k : Vec ℕ) (v : ℕ) → lookup_name q (put_entry es k v) ≡ cond (pointwise nat_eq q k.items) (Some v) (lookup_name q es)
lookup-put_entry q [] k v = refl
lookup-put_entry q (e ∷ es) k v =
    let laws = nat_list_eq_equiv in
    elim (pointwise nat_eq k.items e.0.items) as (λ b. pointwise nat_eq k.items e.0.items ≡ b → lookup_name q (cond b ((e.0, v) ∷ es) (e ∷ put_entry es k v)) ≡ cond (pointwise nat_eq q k.items) (Some v) (lookup_name q (e ∷ es))) [
      | true ↦ λ t. once (pointwise nat_eq q e.0.items) (Some v) (Some e.1) (lookup_name q es)
          ∙ ap (λ b. cond b (Some v) (lookup_name q (e ∷ es))) (laws.symm q e.0.items ∙ sym (laws.congr k.items e.0.items q t) ∙ laws.symm k.items q)
      | false ↦ λ t. ap (cond (pointwise nat_eq q e.0.items) (Some e.1)) (lookup-put_entry q es k v)
          ∙ swap (pointwise nat_eq q e.0.items) (pointwise nat_eq q k.items) (Some e.1) (Some v) (lookup_name q es)
          (λ h. laws.congr q e.0.items k.items h ∙ laws.symm e.0.items k.items ∙ t)
    ] refl

-- a name that is given a number
pub places_of-put : (old new : Entries) (name : Vec ℕ) (place : ℕ) → new ≡ put_entry old name place → places_of new ≡ fin.insert (places_of old) name.items place
places_of-put old new name place is = ap places_of is ∙ same_map name_cmp_total name_cmp-IsAntisymmetric _ _ (λ q.
    get_held (put_entry old name place) q ∙ lookup-put_entry q old name place
    ∙ (λ i. cond (texts_ties q name.items i) (Some place) (sym (get_held old q) i))
    ∙ sym (get-insert name_cmp_total (places_of old) name.items place q))
