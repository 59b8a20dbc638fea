-- What a member writes and runs, of what its pieces mention one after another.
use Rattle.std.proofs.Common.{◌≡◌, ◌||◌, Option, List, [], ◌∷◌, ◌++◌, append_assoc, refl, sym, ap, ◌∙◌}
use Rattle.std.proofs.lemmas.Grind.{flat_map-append}
use Rattle.std.proofs.lemmas.List.Folds.{list_any-append}
use Rattle.std.specs.List.{flat_map, list_any}
use Rattle.swift_core.specs.declared.code.Code.{Code}
use Rattle.swift_core.specs.declared.code.CodeForm.{CodeForm}
use Rattle.swift_core.specs.declared.code.CoreMember.{CoreMember}
use Rattle.swift_core.specs.Mentions.{Mentions, form_mentions}
use Rattle.swift_core.specs.Uses.{writes_cells, is_write, calls_of, code_of, body_forms, reader_forms}
use Rattle.core_uses.specs.Runs.{readers_mention, run_mentions}

pub writes_of_all : (forms : List CodeForm) → list_any is_write (flat_map form_mentions forms) ≡ list_any writes_cells forms
writes_of_all [] = refl
writes_of_all (f ∷ fs) =
    list_any-append is_write (form_mentions f) (flat_map form_mentions fs) ∙ ap (λ b. writes_cells f || b) (writes_of_all fs)

pub calls_of_all : (forms : List CodeForm) → flat_map code_of (flat_map form_mentions forms) ≡ flat_map calls_of forms
calls_of_all [] = refl
calls_of_all (f ∷ fs) =
    flat_map-append code_of (form_mentions f) (flat_map form_mentions fs) ∙ ap (λ l. calls_of f ++ l) (calls_of_all fs)

-- those of the readers, piece by piece
pub of_readers : (blocks : List Code) → flat_map form_mentions (flat_map (λ (c : Code). reader_forms c.form) blocks) ≡ readers_mention blocks
of_readers [] = refl
of_readers (b ∷ bs) =
    flat_map-append form_mentions (reader_forms b.form) (flat_map (λ (c : Code). reader_forms c.form) bs)
    ∙ ap (λ l. flat_map form_mentions (reader_forms b.form) ++ l) (of_readers bs)

-- a member's own code, and then its readers
pub member_parts : (body : List CodeForm) (blocks : List Code) → flat_map form_mentions (body ++ flat_map (λ (c : Code). reader_forms c.form) blocks) ≡ flat_map form_mentions body ++ readers_mention blocks
member_parts body blocks = flat_map-append form_mentions body (flat_map (λ (c : Code). reader_forms c.form) blocks) ∙ ap (λ l. flat_map form_mentions body ++ l) (of_readers blocks)

-- the code of a member that is taken apart, and then its blocks
pub member_run : (m : CoreMember) (code : Option Code) (blocks : List Code) (out mid : Mentions) → code ≡ m.code → blocks ≡ m.blocks → mid ≡ out ++ flat_map form_mentions (body_forms code) →
    mid ++ readers_mention blocks ≡ out ++ run_mentions m
member_run m code blocks out mid at_code at_blocks known =
    ap (λ l. l ++ readers_mention blocks) known
    ∙ append_assoc out (flat_map form_mentions (body_forms code)) (readers_mention blocks)
    ∙ ap (λ (o : Option Code). out ++ (flat_map form_mentions (body_forms o) ++ readers_mention blocks)) at_code
    ∙ ap (λ (bs : List Code). out ++ (flat_map form_mentions (body_forms m.code) ++ readers_mention bs)) at_blocks
    ∙ ap (λ l. out ++ l) (sym (member_parts (body_forms m.code) m.blocks))
