use Rattle.std.proofs.Common.{◌≡◌, Bool, List, [], ◌∷◌, ◌++◌, reverse, refl}
use Rattle.std.proofs.lemmas.List.{reverse-append}

pub reverse_push : (bs : List Bool) (b : Bool) → reverse (bs ++ b ∷ []) ≡ b ∷ reverse bs
reverse_push bs b = rw (reverse-append bs (b ∷ [])) refl
