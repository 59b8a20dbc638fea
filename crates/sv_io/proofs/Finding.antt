-- How a file is found.
use Rattle.std.proofs.Common.{◌≡◌, ℕ, ◌+◌, ◌<◌, ◌≤◌, Bool, true, false, if◌then◌else◌, nat_eq, List, length, get_or, drop, Option, Some, None, refl, sym, ◌∙◌, ap, add-one, subst, slice_get, IsSomeAnd}
use Rattle.std.proofs.lemmas.Option.{slice_get_read}
use Rattle.std.proofs.Math.Seq.{drop-cons}
use Rattle.std.proofs.lemmas.List.{drop_all}
use lib.Pointwise.{pointwise}
use Rattle.sv_io.specs.Files.{file_in}

module _ {F : Type 0} (n b : F → List ℕ) (files : List F) (name : List ℕ) where
  -- the file at this place is looked at
  look : (i : ℕ) (d : F) → i < length files
      → file_in n b (drop i files) name ≡ (if pointwise nat_eq (n (get_or files i d)) name then Some (b (get_or files i d)) else file_in n b (drop (i + 1) files) name)
  look i d below = rw (add-one) (ap (λ (fs : List F). file_in n b fs name) (drop-cons files i d below))

  pub found : (i : ℕ) (d : F) → i < length files → file_in n b files name ≡ file_in n b (drop i files) name
      → pointwise nat_eq (n (get_or files i d)) name ≡ true → file_in n b files name ≡ Some (b (get_or files i d))
  found i d below so_far same = so_far ∙ look i d below ∙ ap (λ (t : Bool). if t then Some (b (get_or files i d)) else file_in n b (drop (i + 1) files) name) same

  -- the same, of the element that was read
  pub found_at : (i : ℕ) (x : F) → i < length files → x ≡ get_or files i x → file_in n b files name ≡ file_in n b (drop i files) name
      → pointwise nat_eq (n x) name ≡ true → IsSomeAnd (slice_get files i) (λ file. file_in n b files name ≡ Some (b file))
  found_at i x below is so_far same =
      let here : slice_get files i ≡ Some x = slice_get_read files (length files) i x refl below is in
      let there = found i x below so_far (ap (λ (f : F). pointwise nat_eq (n f) name) (sym is) ∙ same) in
      subst (λ (o : Option F). IsSomeAnd o (λ file. file_in n b files name ≡ Some (b file))) (sym here) (there ∙ ap (λ (f : F). Some (b f)) (sym is))

  pub not_here : (i : ℕ) (d : F) → i < length files → file_in n b files name ≡ file_in n b (drop i files) name
      → pointwise nat_eq (n (get_or files i d)) name ≡ false → file_in n b files name ≡ file_in n b (drop (i + 1) files) name
  not_here i d below so_far other = so_far ∙ look i d below ∙ ap (λ (t : Bool). if t then Some (b (get_or files i d)) else file_in n b (drop (i + 1) files) name) other

  pub nowhere : (i : ℕ) → length files ≤ i → file_in n b files name ≡ file_in n b (drop i files) name → file_in n b files name ≡ None
  nowhere i past so_far = so_far ∙ ap (λ (fs : List F). file_in n b fs name) (drop_all i files past)
