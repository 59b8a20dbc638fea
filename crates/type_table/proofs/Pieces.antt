-- A turn of each loop over the pieces of a source file.
use Rattle.std.proofs.Common.{◌≡◌, ℕ, zero, suc, ◌+◌, ◌<◌, ◌≤◌, Bool, true, false, cond, List, [], ◌∷◌, ◌++◌, length, take, map, codes, refl, sym, ap, subst, ◌∙◌, arith, slice_index_or}
use Rattle.std.specs.List.{sum_by, count_by}
use Rattle.std.proofs.lemmas.List.{take_all, length-take-le, map-append}
use Rattle.swift_ast.specs.declared.piece.Piece.{Piece}
use Rattle.swift_ast.specs.declared.piece.Entry.{Entry}
use Rattle.swift_ast.specs.declared.piece.EnumItem.{EnumItem}
use Rattle.swift_core.specs.declared.table.Table.{Table}
use Rattle.swift_core.specs.declared.table.Declaration.{Declaration}
use Rattle.swift_core.specs.declared.table.Signature.{Signature}
use Rattle.type_table.specs.Along.{narrow, along, first_places, with_place}
use Rattle.type_table.specs.Heads.{heads_of, heads_at, heads, is_key, next_key, declaration_name, entry_name, entry_names, entries_of, key_names}
use Rattle.type_table.proofs.Turns.{take-turn, along-turn, along-push, along-none, narrow-zero, narrow-sum, narrow-sums, sum-turn, places-turn}

pub heads_turn : (ps : List Piece) (i : ℕ) (p : Piece) → i < length ps → p ≡ slice_index_or ps i p
    → heads (take (i + 1) ps) ≡ heads (take i ps) ++ heads_at (next_key (take i ps)) p.form
unfolding heads
heads_turn ps i p lt e = along-turn heads_of ps i p lt e

pub heads_start : heads [] ≡ []
unfolding heads
heads_start = along-none heads_of

pub key_turn : (ps : List Piece) (i : ℕ) (p : Piece) → i < length ps → p ≡ slice_index_or ps i p
    → next_key (take (i + 1) ps) ≡ narrow (next_key (take i ps) + cond (is_key p) 1 0)
key_turn ps i p lt e = sum-turn (λ p. cond (is_key p) 1 0) ps i p lt e

pub declaration_turn : (ds : List Declaration) (i : ℕ) (d : Declaration) → i < length ds → d ≡ slice_index_or ds i d
    → first_places (map declaration_name (take (i + 1) ds)) ≡ with_place (first_places (map declaration_name (take i ds))) d.name i
declaration_turn ds i d lt e = places-turn declaration_name ds i d lt e

pub names_start : key_names [] ≡ codes "isEnabled" ∷ []
unfolding key_names
names_start = ap (λ ns. codes "isEnabled" ∷ ns) (along-none entry_names)

pub names_turn : (ps : List Piece) (i : ℕ) (p : Piece) → i < length ps → p ≡ slice_index_or ps i p
    → key_names (take (i + 1) ps) ≡ key_names (take i ps) ++ map entry_name (entries_of p)
unfolding key_names
names_turn ps i p lt e = ap (λ ns. codes "isEnabled" ∷ ns) (along-turn entry_names ps i p lt e)
