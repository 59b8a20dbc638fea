-- A turn of each loop that makes a list of the table.
use Rattle.std.proofs.Common.{◌≡◌, ℕ, zero, suc, ◌+◌, ◌<◌, ◌≤◌, Bool, true, false, cond, List, [], ◌∷◌, ◌++◌, length, take, map, codes, Option, Some, None, refl, sym, ap, subst, ◌∙◌, arith, slice_index_or, append_assoc}
use Rattle.std.specs.List.{sum_by, count_by}
use Rattle.std.proofs.lemmas.List.{take_all, take_more, length-take-le}
use Rattle.std.proofs.lemmas.List.Sums.{sum_by_more}
use Rattle.swift_ast.specs.declared.piece.Piece.{Piece}
use Rattle.swift_ast.specs.declared.piece.Entry.{Entry}
use Rattle.swift_ast.specs.declared.piece.EnumItem.{EnumItem}
use Rattle.swift_core.specs.declared.table.Table.{Table}
use Rattle.swift_core.specs.declared.table.Declaration.{Declaration}
use Rattle.swift_core.specs.declared.table.EnvironmentKey.{EnvironmentKey}
use Rattle.swift_core.specs.declared.table.MemberPlace.{MemberPlace}
use Rattle.swift_core.specs.declared.table.Signature.{Signature}
use Rattle.type_base.specs.TypeNames.{type_of}
use Rattle.type_table.specs.Along.{narrow, greatest, wide, widest, along, first_places, with_place}
use Rattle.type_table.specs.Heads.{declares, next_declaration, next_key, entries_of}
use Rattle.type_table.specs.Signatures.{declared_type}
use Rattle.type_table.specs.Tables
use Rattle.type_table.proofs.Turns.{take-turn, along-turn, along-push, along-none, narrow-zero, narrow-sum, narrow-sums, wide-sum, wide-sums, wide-turn, sum-turn, places-turn, places-none}

pub signature_turn : (ms : List Signature) (i : ℕ) (m : Signature) → i < length ms → m ≡ slice_index_or ms i m
    → first_places (map Tables.signature_name (take (i + 1) ms)) ≡ with_place (first_places (map Tables.signature_name (take i ms))) m.name i
signature_turn ms i m lt e = places-turn Tables.signature_name ms i m lt e

pub declarations_start : (heads : Table) → Tables.declarations heads [] ≡ []
unfolding Tables.declarations
declarations_start heads = along-none (Tables.declarations_of heads)

pub declarations_turn : (heads : Table) (ps : List Piece) (i : ℕ) (p : Piece) → i < length ps → p ≡ slice_index_or ps i p
    → Tables.declarations heads (take (i + 1) ps) ≡ Tables.declarations heads (take i ps) ++ Tables.declarations_at heads (Tables.first_code (take i ps)) (next_key (take i ps)) p.form
unfolding Tables.declarations
declarations_turn heads ps i p lt e = along-turn (Tables.declarations_of heads) ps i p lt e

pub first_start : Tables.first_code [] ≡ 1
unfolding Tables.first_code wide widest
first_start = refl

-- the number that a piece begins with, by that of the piece before it
after_sum : (f : Piece → ℕ) (ps : List Piece) (i : ℕ) (p : Piece) → i < length ps → p ≡ slice_index_or ps i p
    → narrow (suc (sum_by f (take (i + 1) ps))) ≡ narrow (narrow (suc (sum_by f (take i ps))) + f p)
after_sum f ps i p lt e =
    ap (λ n. narrow (suc n)) (sum_by_more f ps i p lt ∙ ap (λ y. sum_by f (take i ps) + f y) (sym e))
    ∙ ap narrow (let h : suc (sum_by f (take i ps) + f p) ≡ suc (sum_by f (take i ps)) + f p = omega arith in h)
    ∙ sym (narrow-sum (suc (sum_by f (take i ps))) (f p))

after_wide : (f : Piece → ℕ) (ps : List Piece) (i : ℕ) (p : Piece) → i < length ps → p ≡ slice_index_or ps i p
    → wide (suc (sum_by f (take (i + 1) ps))) ≡ wide (wide (suc (sum_by f (take i ps))) + f p)
after_wide f ps i p lt e =
    ap (λ n. wide (suc n)) (sum_by_more f ps i p lt ∙ ap (λ y. sum_by f (take i ps) + f y) (sym e))
    ∙ ap wide (let h : suc (sum_by f (take i ps) + f p) ≡ suc (sum_by f (take i ps)) + f p = omega arith in h)
    ∙ sym (wide-sum (suc (sum_by f (take i ps))) (f p))

pub first_turn : (ps : List Piece) (i : ℕ) (p : Piece) → i < length ps → p ≡ slice_index_or ps i p
    → Tables.first_code (take (i + 1) ps) ≡ wide (Tables.first_code (take i ps) + wide (Tables.codes_in p))
unfolding Tables.first_code
first_turn ps i p lt e = after_wide Tables.codes_in ps i p lt e ∙ sym (wide-sums (wide (suc (sum_by Tables.codes_in (take i ps)))) (Tables.codes_in p))

pub size_turn : (items : List EnumItem) (i : ℕ) (item : EnumItem) → i < length items → item ≡ slice_index_or items i item
    → wide (sum_by Tables.item_size (take (i + 1) items)) ≡ wide (wide (sum_by Tables.item_size (take i items)) + Tables.item_size item)
size_turn items i item lt e = wide-turn Tables.item_size items i item lt e

pub keys_start : (heads : Table) (first : ℕ) → Tables.environment_keys heads first [] ≡ []
keys_start heads first = along-none (λ before e. Tables.environment_key_of heads first before e ∷ [])

pub keys_turn : (heads : Table) (first : ℕ) (es : List Entry) (i : ℕ) (e : Entry) → i < length es → e ≡ slice_index_or es i e
    → Tables.environment_keys heads first (take (i + 1) es)
    ≡ Tables.environment_keys heads first (take i es) ++ record { name = e.name; ty = declared_type heads e.declared; default = record { number = wide (first + i) } } ∷ []
keys_turn heads first es i e lt is =
    along-turn (λ before e. Tables.environment_key_of heads first before e ∷ []) es i e lt is
    ∙ ap (λ n. Tables.environment_keys heads first (take i es) ++ record { name = e.name; ty = declared_type heads e.declared; default = record { number = wide (first + n) } } ∷ [])
    (length-take-le i es (omega arith))

pub keys_more : (heads : Table) (first : ℕ) (out : List EnvironmentKey) (es : List Entry) (i : ℕ) (e : Entry) → i < length es → e ≡ slice_index_or es i e
    → out ++ Tables.environment_keys heads first (take (i + 1) es)
    ≡ (out ++ Tables.environment_keys heads first (take i es)) ++ record { name = e.name; ty = declared_type heads e.declared; default = record { number = wide (first + i) } } ∷ []
keys_more heads first out es i e lt is =
    ap (λ ks. out ++ ks) (keys_turn heads first es i e lt is)
    ∙ sym (append_assoc out (Tables.environment_keys heads first (take i es)) (record { name = e.name; ty = declared_type heads e.declared; default = record { number = wide (first + i) } } ∷ []))

pub environment_start : (heads : Table) → Tables.environment heads [] ≡ Tables.is_enabled ∷ []
unfolding Tables.environment
environment_start heads = ap (λ ks. Tables.is_enabled ∷ ks) (along-none (Tables.environment_of heads))

pub environment_turn : (heads : Table) (ps : List Piece) (i : ℕ) (p : Piece) → i < length ps → p ≡ slice_index_or ps i p
    → Tables.environment heads (take (i + 1) ps) ≡ Tables.environment heads (take i ps) ++ Tables.environment_keys heads (Tables.first_code (take i ps)) (entries_of p)
unfolding Tables.environment
environment_turn heads ps i p lt e = ap (λ ks. Tables.is_enabled ∷ ks) (along-turn (Tables.environment_of heads) ps i p lt e)

pub preferences_start : Tables.preferences [] ≡ []
unfolding Tables.preferences
preferences_start = along-none Tables.preference_of

pub preferences_turn : (ds : List Declaration) (i : ℕ) (d : Declaration) → i < length ds → d ≡ slice_index_or ds i d
    → Tables.preferences (take (i + 1) ds) ≡ Tables.preferences (take i ds) ++ Tables.preference_at i d d.kind
unfolding Tables.preferences
preferences_turn ds i d lt e =
    along-turn Tables.preference_of ds i d lt e
    ∙ ap (λ n. along Tables.preference_of (take i ds) ++ Tables.preference_at n d d.kind) (length-take-le i ds (omega arith))

pub places_start : (d : ℕ) → Tables.member_places d [] ≡ []
unfolding Tables.member_places
places_start d = along-none (λ before start. Tables.member_place d before start ∷ [])

pub places_turn : (d : ℕ) (starts : List ℕ) (i : ℕ) → i < length starts
    → Tables.member_places d (take (i + 1) starts)
    ≡ Tables.member_places d (take i starts) ++ record { first = slice_index_or starts i 0; declaration = Some d; at = narrow i } ∷ []
unfolding Tables.member_places
places_turn d starts i lt =
    ap (along (λ before start. Tables.member_place d before start ∷ [])) (take_more starts i 0 lt)
    ∙ along-push (λ before start. Tables.member_place d before start ∷ []) (take i starts) (slice_index_or starts i 0)
    ∙ ap (λ n. along (λ before start. Tables.member_place d before start ∷ []) (take i starts) ++ record { first = slice_index_or starts i 0; declaration = Some d; at = narrow n } ∷ [])
    (length-take-le i starts (omega arith))

pub places_more : (d : ℕ) (out : List MemberPlace) (starts : List ℕ) (i : ℕ) → i < length starts
    → out ++ Tables.member_places d (take (i + 1) starts)
    ≡ (out ++ Tables.member_places d (take i starts)) ++ record { first = slice_index_or starts i 0; declaration = Some d; at = narrow i } ∷ []
places_more d out starts i lt =
    ap (λ ks. out ++ ks) (places_turn d starts i lt)
    ∙ sym (append_assoc out (Tables.member_places d (take i starts)) (record { first = slice_index_or starts i 0; declaration = Some d; at = narrow i } ∷ []))

pub starts_start : Tables.enum_starts [] ≡ []
starts_start = along-none (λ before i. Tables.item_starts i)

pub starts_turn : (items : List EnumItem) (i : ℕ) (item : EnumItem) → i < length items → item ≡ slice_index_or items i item
    → Tables.enum_starts (take (i + 1) items) ≡ Tables.enum_starts (take i items) ++ Tables.item_starts item
starts_turn items i item lt e = along-turn (λ before i. Tables.item_starts i) items i item lt e

pub entry_places_start : (first : ℕ) → Tables.entry_places first [] ≡ []
entry_places_start first = along-none (λ before e. Tables.entry_place first before e ∷ [])

pub entry_places_turn : (first : ℕ) (es : List Entry) (i : ℕ) (e : Entry) → i < length es → e ≡ slice_index_or es i e
    → Tables.entry_places first (take (i + 1) es)
    ≡ Tables.entry_places first (take i es) ++ record { first = e.span.first; declaration = None; at = narrow (first + i) } ∷ []
entry_places_turn first es i e lt is =
    along-turn (λ before e. Tables.entry_place first before e ∷ []) es i e lt is
    ∙ ap (λ n. Tables.entry_places first (take i es) ++ record { first = e.span.first; declaration = None; at = narrow (first + n) } ∷ [])
    (length-take-le i es (omega arith))

pub entry_places_more : (first : ℕ) (out : List MemberPlace) (es : List Entry) (i : ℕ) (e : Entry) → i < length es → e ≡ slice_index_or es i e
    → out ++ Tables.entry_places first (take (i + 1) es)
    ≡ (out ++ Tables.entry_places first (take i es)) ++ record { first = e.span.first; declaration = None; at = narrow (first + i) } ∷ []
entry_places_more first out es i e lt is =
    ap (λ ks. out ++ ks) (entry_places_turn first es i e lt is)
    ∙ sym (append_assoc out (Tables.entry_places first (take i es)) (record { first = e.span.first; declaration = None; at = narrow (first + i) } ∷ []))

pub pieces_start : Tables.places [] ≡ []
unfolding Tables.places
pieces_start = along-none Tables.places_of

pub pieces_turn : (ps : List Piece) (i : ℕ) (p : Piece) → i < length ps → p ≡ slice_index_or ps i p
    → Tables.places (take (i + 1) ps) ≡ Tables.places (take i ps) ++ Tables.places_at (next_declaration (take i ps)) (Tables.first_key (take i ps)) p.form
unfolding Tables.places
pieces_turn ps i p lt e = along-turn Tables.places_of ps i p lt e

pub place_turn : (ps : List Piece) (i : ℕ) (p : Piece) → i < length ps → p ≡ slice_index_or ps i p
    → next_declaration (take (i + 1) ps) ≡ narrow (next_declaration (take i ps) + cond (declares p) 1 0)
place_turn ps i p lt e = sum-turn (λ p. cond (declares p) 1 0) ps i p lt e

pub first_key_start : Tables.first_key [] ≡ 1
unfolding Tables.first_key narrow greatest
first_key_start = refl

pub first_key_turn : (ps : List Piece) (i : ℕ) (p : Piece) → i < length ps → p ≡ slice_index_or ps i p
    → Tables.first_key (take (i + 1) ps) ≡ narrow (Tables.first_key (take i ps) + Tables.entry_count p)
unfolding Tables.first_key
first_key_turn ps i p lt e = after_sum Tables.entry_count ps i p lt e
