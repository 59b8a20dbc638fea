-- A turn of each loop over the members of a declaration.
use Rattle.std.proofs.Common.{◌≡◌, ℕ, zero, suc, ◌+◌, ◌<◌, ◌≤◌, Bool, true, false, cond, List, [], ◌∷◌, ◌++◌, length, take, map, refl, sym, ap, subst, ◌∙◌, arith, slice_index_or}
use Rattle.std.specs.List.{sum_by, count_by}
use Rattle.std.proofs.lemmas.List.{take_all, length-take-le}
use Rattle.swift_ast.specs.declared.piece.Member.{Member}
use Rattle.swift_ast.specs.declared.piece.CaseName.{CaseName}
use Rattle.swift_ast.specs.declared.piece.EnumItem.{EnumItem}
use Rattle.swift_core.specs.declared.table.Table.{Table}
use Rattle.swift_core.specs.declared.table.Signature.{Signature}
use Rattle.swift_core.specs.declared.table.SignatureForm.TheVariants as form
use Rattle.member_forms.specs.declared.role.Sort.{Sort}
use Rattle.member_forms.specs.Roles.{role_of}
use Rattle.member_forms.specs.Whole.{member_name}
use Rattle.type_table.specs.Along.{narrow, along}
use Rattle.type_table.specs.Signatures.{Draft, signature_at, more_signatures, signatures, struct_draft, struct_drafts, member_form, is_input, is_slot, case_draft, case_drafts, item_cases, case_count, item_drafts, enum_drafts}
use Rattle.type_table.proofs.Turns.{take-turn, along-turn, along-none, narrow-zero, narrow-sum, sum-turn}

more_signatures-append : (first : ℕ) (done : List Signature) (ds es : List Draft) → more_signatures first done (ds ++ es) ≡ more_signatures first (more_signatures first done ds) es
more_signatures-append first done [] es = refl
more_signatures-append first done (d ∷ ds) es = more_signatures-append first (done ++ signature_at first (length done) d.name d.form ∷ []) ds es

signatures-append : (first : ℕ) (ds es : List Draft) → signatures first (ds ++ es) ≡ more_signatures first (signatures first ds) es
unfolding signatures
signatures-append first ds es = more_signatures-append first [] ds es

-- ---- a struct

pub struct_start : (first : ℕ) (heads : Table) (s : Sort) (ms : List Member) → signatures first (struct_drafts heads s (take 0 ms)) ≡ []
unfolding signatures
struct_start first heads s ms = ap (more_signatures first []) (along-none (λ before m. struct_draft heads s before m ∷ []))

pub struct_turn : (first : ℕ) (heads : Table) (s : Sort) (ms : List Member) (i : ℕ) (m : Member) → i < length ms → m ≡ slice_index_or ms i m
    → signatures first (struct_drafts heads s (take (i + 1) ms))
    ≡ signatures first (struct_drafts heads s (take i ms))
    ++ signature_at first (length (signatures first (struct_drafts heads s (take i ms)))) (member_name m)
    (member_form heads (narrow (count_by (is_input s) (take i ms))) (narrow (count_by (is_slot s) (take i ms))) (role_of s m) m.modifiers m.form) ∷ []
struct_turn first heads s ms i m lt e =
    ap (signatures first) (along-turn (λ before m. struct_draft heads s before m ∷ []) ms i m lt e)
    ∙ signatures-append first (struct_drafts heads s (take i ms)) (struct_draft heads s (take i ms) m ∷ [])

pub inputs_turn : (s : Sort) (ms : List Member) (i : ℕ) (m : Member) → i < length ms → m ≡ slice_index_or ms i m
    → narrow (count_by (is_input s) (take (i + 1) ms)) ≡ narrow (narrow (count_by (is_input s) (take i ms)) + cond (is_input s m) 1 0)
inputs_turn s ms i m lt e = sum-turn (λ m. cond (is_input s m) 1 0) ms i m lt e

pub slots_turn : (s : Sort) (ms : List Member) (i : ℕ) (m : Member) → i < length ms → m ≡ slice_index_or ms i m
    → narrow (count_by (is_slot s) (take (i + 1) ms)) ≡ narrow (narrow (count_by (is_slot s) (take i ms)) + cond (is_slot s m) 1 0)
slots_turn s ms i m lt e = sum-turn (λ m. cond (is_slot s m) 1 0) ms i m lt e

pub struct_end : (ms : List Member) (i : ℕ) → length ms ≤ i → take i ms ≡ ms
struct_end ms i le = take_all i ms le

-- ---- cases

pub cases_start : (first cases : ℕ) (done : List Signature) (cs : List CaseName) → more_signatures first done (case_drafts cases (take 0 cs)) ≡ done
cases_start first cases done cs = ap (more_signatures first done) (along-none (λ before c. case_draft cases before c ∷ []))

pub cases_turn : (first cases : ℕ) (done : List Signature) (cs : List CaseName) (i : ℕ) (c : CaseName) → i < length cs → c ≡ slice_index_or cs i c
    → more_signatures first done (case_drafts cases (take (i + 1) cs))
    ≡ more_signatures first done (case_drafts cases (take i cs))
    ++ signature_at first (length (more_signatures first done (case_drafts cases (take i cs)))) c.name (form.Case (narrow (cases + i))) ∷ []
cases_turn first cases done cs i c lt e =
    ap (more_signatures first done) (along-turn (λ before c. case_draft cases before c ∷ []) cs i c lt e)
    ∙ more_signatures-append first done (case_drafts cases (take i cs)) (case_draft cases (take i cs) c ∷ [])
    ∙ ap (λ n. so_far ++ signature_at first (length so_far) c.name (form.Case (narrow (cases + n))) ∷ []) (length-take-le i cs (omega arith))
  where
    so_far : List Signature
    so_far = more_signatures first done (case_drafts cases (take i cs))

pub cases_end : (cs : List CaseName) (i : ℕ) → length cs ≤ i → take i cs ≡ cs
cases_end cs i le = take_all i cs le

pub case_count_start : (items : List EnumItem) → case_count (take 0 items) ≡ 0
case_count_start items = narrow-zero

pub case_count_turn : (items : List EnumItem) (i : ℕ) (item : EnumItem) → i < length items → item ≡ slice_index_or items i item
    → case_count (take (i + 1) items) ≡ narrow (case_count (take i items) + item_cases item)
case_count_turn items i item lt e = sum-turn item_cases items i item lt e

pub case_count_end : (items : List EnumItem) (i : ℕ) → length items ≤ i → take i items ≡ items
case_count_end items i le = take_all i items le

-- ---- an enum

pub enum_start : (first : ℕ) (heads : Table) (items : List EnumItem) → signatures first (enum_drafts heads (take 0 items)) ≡ []
unfolding signatures
enum_start first heads items = ap (more_signatures first []) (along-none (λ before i. item_drafts heads (case_count before) i))

pub enum_turn : (first : ℕ) (heads : Table) (items : List EnumItem) (i : ℕ) (item : EnumItem) → i < length items → item ≡ slice_index_or items i item
    → signatures first (enum_drafts heads (take (i + 1) items))
    ≡ more_signatures first (signatures first (enum_drafts heads (take i items))) (item_drafts heads (case_count (take i items)) item)
enum_turn first heads items i item lt e =
    ap (signatures first) (along-turn (λ before i. item_drafts heads (case_count before) i) items i item lt e)
    ∙ signatures-append first (enum_drafts heads (take i items)) (item_drafts heads (case_count (take i items)) item)

pub enum_end : (items : List EnumItem) (i : ℕ) → length items ≤ i → take i items ≡ items
enum_end items i le = take_all i items le
