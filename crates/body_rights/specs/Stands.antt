-- What the types of a program say of its builders.
use Rattle.std.specs.Prelude.{◌≡◌, ℕ, ◌+◌, ◌<◌, Bool, true, false, ◌&&◌, nat_lt, List, [], ◌∷◌, ⊤}
use Rattle.std.specs.FinMap as fin
use Rattle.std.specs.List.{list_all, flat_map}
use Rattle.std.proofs.Common.{refl, sym, ap, subst, ◌∙◌, arith}
use Rattle.std.proofs.lemmas.Bool.{ltb-true}
use Rattle.swift_core.specs.Alters.{items_alter}
use Rattle.swift_core.specs.Mentions.{Mentions, item_mentions}
use Rattle.swift_core.specs.Programs.{IsProgram, has_body}
use Rattle.swift_core.specs.Readers.{named_before, reader_keeps}
use Rattle.swift_core.specs.declared.code.CodeForm.TheVariants as code_form
use Rattle.swift_core.specs.declared.code.CoreMember.{CoreMember}
use Rattle.swift_core.specs.declared.item.CoreItem.{CoreItem}
use Rattle.swift_core.specs.declared.mention.Mention.{Mention}
use Rattle.swift_core.specs.declared.mention.Mention.TheVariants as mention
use Rattle.swift_core.specs.declared.table.Table.{Table}
use Rattle.body_means.specs.Customs.{code_in, member_at}
use Rattle.world_fits.specs.Lists.{Each}
use Rattle.reader_locals.specs.AlterLayers.{Beyond}
use Rattle.view_rights.specs.Customs.{ViewsHaveBodies}

-- each view has the code of its body
pub views_have_bodies : (table : Table) (members : List CoreMember) → IsProgram table members → ViewsHaveBodies table
views_have_bodies table members program d declaration at is =
    let b = program.bodies d declaration at (ap has_body is) in
    (b.sign.code, ap (member_at declaration) (ap (fin.get declaration.names) (sym b.name) ∙ program.member_names d declaration b.at b.sign at b.stands) ∙ ap code_in b.stands)

-- ---- the builder of a preference reader

abbrev pub NamedBefore : ℕ → Mention → Type 0
NamedBefore n (mention.Block b) = b.number < n
NamedBefore n other = ⊤

-- No call in it changes a local that stands outside it, or its preference: these are captured. And the blocks that it names stand
-- before it.
pub record ReaderStands (limit n : ℕ) (items : List CoreItem) : Type 0 where
  pub no_captured_changed : Beyond limit (items_alter items)
  pub names_before : Each (NamedBefore n) (flat_map item_mentions items)

both_true : (a b : Bool) → (a && b) ≡ true → (a ≡ true) × (b ≡ true)
both_true true b e = (refl, e)
both_true false b e = cc

all_beyond : (outer : ℕ) (ns : List ℕ) → list_all (nat_lt outer) ns ≡ true → Beyond (outer + 1) ns
all_beyond outer [] e = tt
all_beyond outer (n ∷ ns) e = let h = both_true (nat_lt outer n) (list_all (nat_lt outer) ns) e in let lt = ltb-true outer n h.0 in (omega (arith, lt), all_beyond outer ns h.1)

one_before : (n : ℕ) (m : Mention) → named_before n m ≡ true → NamedBefore n m
one_before n (mention.Local i) e = tt
one_before n (mention.Code c) e = tt
one_before n mention.Write e = tt
one_before n (mention.Block b) e = ltb-true b.number n e

all_before : (n : ℕ) (ms : Mentions) → list_all (named_before n) ms ≡ true → Each (NamedBefore n) ms
all_before n [] e = tt
all_before n (m ∷ ms) e = let h = both_true (named_before n m) (list_all (named_before n) ms) e in (one_before n m h.0, all_before n ms h.1)

pub reader_stands : (locals outer parameters n : ℕ) (items : List CoreItem) → outer ≡ locals → parameters ≡ 1 → reader_keeps locals n (code_form.Builder items) ≡ true → ReaderStands (outer + parameters) n items
reader_stands locals outer parameters n items o one keeps =
    let h = both_true (list_all (nat_lt locals) (items_alter items)) (list_all (named_before n) (flat_map item_mentions items)) keeps in
    let same : locals + 1 ≡ outer + parameters = omega (arith, o, one) in
    record { no_captured_changed = subst (λ (limit : ℕ). Beyond limit (items_alter items)) same (all_beyond locals (items_alter items) h.0); names_before = all_before n (flat_map item_mentions items) h.1 }
