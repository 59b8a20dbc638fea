-- What each test finds, and the condition that it decides.
use Rattle.std.specs.Prelude.{◌↔◌, IsTrue}
use Rattle.std.proofs.Common.{◌≡◌, ℕ, ◌+◌, ◌<◌, ◌≤◌, Bool, true, false, List, length, map, Option, Some, None, sym, subst, ◌∙◌, arith}
use Rattle.std.proofs.lemmas.Bool.{lt-ltb, le-ltb}
use Rattle.identity_path.specs.Cells.{CellMap}
use Rattle.swift_core.specs.Codes.{Parts as Program, code_at, member_at}
use Rattle.swift_core.specs.Context.{local_of}
use Rattle.swift_core.specs.Programs.{IsProgram, Reaches}
use Rattle.swift_core.specs.declared.code.Code.{Code}
use Rattle.swift_core.specs.declared.code.CoreMember.{CoreMember}
use Rattle.swift_core.specs.declared.code.LocalType.{LocalType}
use Rattle.swift_core.specs.declared.table.Table.{Table}
use Rattle.core_means.specs.declared.parts.Frame.{Frame}
use Rattle.value_fits.specs.Fields.{programs_stand}
use Rattle.world_fits.specs.Lists.{some_same}
use Rattle.world_fits.specs.Runs.{EvalFits, ExecFits}
use Rattle.body_rights.specs.Runs.{BodyFits}
use Rattle.place_tests.specs.Nested.{Known}
use Rattle.frame_tests.specs.Demands.{SomeTypes, view_of}
use Rattle.code_tests.specs.CodeFits.{CodeFits}
use Rattle.code_tests.specs.Homes.{value_view, property_view, views_view, is_statements, is_builder}
use Rattle.code_tests.specs.Parts.{PropertyFits, BlockFits}
use Rattle.code_tests.proofs.Values.{of_types, to_types, view_found}
use Rattle.code_tests.proofs.Units.{of_action, to_action, is_action, of_reader, to_reader, is_reader, of_property, to_property}

-- ---- the table

few : (a b c d n : ℕ) → a + b + c + d ≤ n → a ≤ n
few a b c d n h = omega (arith, h)

-- what is known of the declarations
pub known : (t table : Table) (members : List CoreMember) → t ≡ table → IsProgram table members → Known t
known t table members same program = subst Known (sym same) (record { standing = programs_stand table members program; few = few _ _ _ _ 1048576 program.size })

behind : (a b c d n : ℕ) → a + b + c + d ≤ n → c ≤ n
behind a b c d n h = omega (arith, h)

pub few_keys : (t table : Table) (members : List CoreMember) → t ≡ table → IsProgram table members → length t.environment ≤ 1048576
few_keys t table members same program = subst (λ (x : Table). length x.environment ≤ 1048576) (sym same) (behind _ _ _ _ 1048576 program.size)

pub moved : (t table : Table) (cells : CellMap) (v view : Option ℕ) (frame : Frame) (xs ys : List LocalType) (b : Bool) → t ≡ table → v ≡ view → xs ≡ ys → IsTrue b ↔ SomeTypes t cells v frame (map local_of xs)
    → IsTrue b ↔ SomeTypes table cells view frame (map local_of ys)
moved t table cells v view frame xs ys b same_table same_view same h =
    subst (λ (x : Table). IsTrue b ↔ SomeTypes x cells view frame (map local_of ys)) same_table
    (subst (λ (x : Option ℕ). IsTrue b ↔ SomeTypes t cells x frame (map local_of ys)) same_view (subst (λ (zs : List LocalType). IsTrue b ↔ SomeTypes t cells v frame (map local_of zs)) same h))

-- ---- values

pub no_code : (p : Program) (n : ℕ) (frame : Frame) (cells : CellMap) → code_at p n ≡ None → IsTrue false ↔ EvalFits p n frame cells
no_code p n frame cells none = (λ is. absurd (cc is), λ f. let clash : Some f.code ≡ None = sym f.there ∙ none in absurd (cc clash))

pub writes : (p : Program) (n : ℕ) (frame : Frame) (cells : CellMap) (b : Bool) → IsTrue b ↔ Reaches p.members n → b ≡ true → IsTrue false ↔ EvalFits p n frame cells
writes p n frame cells b reaches is = (λ fits. absurd (cc fits), λ f. absurd (f.no_write (reaches.0 is)))

pub no_value : (p : Program) (n : ℕ) (frame : Frame) (cells : CellMap) → IsProgram p.table p.members → value_view p.table n ≡ None → IsTrue false ↔ EvalFits p n frame cells
no_value p n frame cells program none = (
  λ is. absurd (cc is),
  λ f. let clash : Some (view_of f.itself f.owner) ≡ None = sym (view_found p program n f.itself f.owner f.parameters f.gives f.no_value) ∙ none in absurd (cc clash),
)

pub value : (p : Program) (n : ℕ) (frame : Frame) (cells : CellMap) (code : Code) (view : Option ℕ) (w b : Bool) → IsProgram p.table p.members → code_at p n ≡ Some code → IsTrue w ↔ Reaches p.members n → w ≡ false
    → value_view p.table n ≡ Some view → IsTrue b ↔ SomeTypes p.table cells view frame (map local_of code.types) → IsTrue b ↔ EvalFits p n frame cells
value p n frame cells code view w b program coded reaches quiet at test = (
  λ is. of_types p program n frame cells code view coded (λ r. let clash : true ≡ false = sym (reaches.1 r) ∙ quiet in absurd (cc clash)) at (test.0 is),
  λ f. test.1 (to_types p program n frame cells code view coded at f),
)

-- ---- actions

pub no_action_code : (p : Program) (n : ℕ) (frame : Frame) (cells : CellMap) → code_at p n ≡ None → IsTrue false ↔ ExecFits p n frame cells
no_action_code p n frame cells none = (λ is. absurd (cc is), λ f. let clash : Some f.code ≡ None = sym f.there ∙ none in absurd (cc clash))

pub no_action : (p : Program) (n : ℕ) (frame : Frame) (cells : CellMap) (code : Code) → IsProgram p.table p.members → code_at p n ≡ Some code → is_statements code.form ≡ false → IsTrue false ↔ ExecFits p n frame cells
no_action p n frame cells code program coded other =
    (λ is. absurd (cc is), λ f. let clash : true ≡ false = sym (is_action p program n frame cells code coded f) ∙ other in absurd (cc clash))

pub action : (p : Program) (n : ℕ) (frame : Frame) (cells : CellMap) (code : Code) (b : Bool) → IsProgram p.table p.members → length p.members ≤ n → code_at p n ≡ Some code → is_statements code.form ≡ true
    → IsTrue b ↔ BlockFits p n code frame cells → IsTrue b ↔ ExecFits p n frame cells
action p n frame cells code b program past coded is test =
    (λ fits. of_action p program n frame cells code past coded is (test.0 fits), λ f. test.1 (to_action p program n frame cells code coded f))

-- ---- blocks

pub no_member : (p : Program) (n : ℕ) (code : Code) (frame : Frame) (cells : CellMap) → member_at p n ≡ None → IsTrue false ↔ BlockFits p n code frame cells
no_member p n code frame cells none = (λ is. absurd (cc is), λ f. absurd (by f))
  where
    by : BlockFits p n code frame cells → ⊥
    by (BlockFits.block_fits {member = h} of at some) = let clash : Some h ≡ None = sym of ∙ none in cc

pub no_views : (p : Program) (n h : ℕ) (code : Code) (frame : Frame) (cells : CellMap) → member_at p n ≡ Some h → views_view p.table h ≡ None → IsTrue false ↔ BlockFits p n code frame cells
no_views p n h code frame cells is_of none = (λ is. absurd (cc is), λ f. absurd (by f))
  where
    by : BlockFits p n code frame cells → ⊥
    by (BlockFits.block_fits {member = i} {view = view} of at some) =
        let at_h : views_view p.table h ≡ Some view = subst (λ (k : ℕ). views_view p.table k ≡ Some view) (some_same i h (sym of ∙ is_of)) at in
        let clash : Some view ≡ None = sym at_h ∙ none in
        cc

pub views : (p : Program) (n h : ℕ) (code : Code) (view : Option ℕ) (frame : Frame) (cells : CellMap) (b : Bool) → member_at p n ≡ Some h → views_view p.table h ≡ Some view
    → IsTrue b ↔ SomeTypes p.table cells view frame (map local_of code.types) → IsTrue b ↔ BlockFits p n code frame cells
views p n h code view frame cells b is_of at test = (λ is. BlockFits.block_fits is_of at (test.0 is), λ f. test.1 (by f))
  where
    by : BlockFits p n code frame cells → SomeTypes p.table cells view frame (map local_of code.types)
    by (BlockFits.block_fits {member = i} {view = v} of other some) =
        let at_h : views_view p.table h ≡ Some v = subst (λ (k : ℕ). views_view p.table k ≡ Some v) (some_same i h (sym of ∙ is_of)) other in
        subst (λ (x : Option ℕ). SomeTypes p.table cells x frame (map local_of code.types)) (some_same v view (sym at_h ∙ at)) some

-- ---- properties

pub no_property : (p : Program) (n : ℕ) (code : Code) (frame : Frame) (cells : CellMap) → property_view p.table n ≡ None → IsTrue false ↔ PropertyFits p n code frame cells
no_property p n code frame cells none = (λ is. absurd (cc is), λ f. absurd (by f))
  where
    by : PropertyFits p n code frame cells → ⊥
    by (PropertyFits.property_fits {view = view} at some) = let clash : Some view ≡ None = sym at ∙ none in cc

pub property : (p : Program) (n : ℕ) (code : Code) (view : Option ℕ) (frame : Frame) (cells : CellMap) (b : Bool) → property_view p.table n ≡ Some view
    → IsTrue b ↔ SomeTypes p.table cells view frame (map local_of code.types) → IsTrue b ↔ PropertyFits p n code frame cells
property p n code view frame cells b at test = (λ is. PropertyFits.property_fits at (test.0 is), λ f. test.1 (by f))
  where
    by : PropertyFits p n code frame cells → SomeTypes p.table cells view frame (map local_of code.types)
    by (PropertyFits.property_fits {view = v} other some) = subst (λ (x : Option ℕ). SomeTypes p.table cells x frame (map local_of code.types)) (some_same v view (sym other ∙ at)) some

-- ---- bodies

pub no_body_code : (p : Program) (n : ℕ) (frame : Frame) (cells : CellMap) → code_at p n ≡ None → IsTrue false ↔ BodyFits p n frame cells
no_body_code p n frame cells none = (λ is. absurd (cc is), λ f. let clash : Some f.code ≡ None = sym f.there ∙ none in absurd (cc clash))

pub body_property : (p : Program) (n : ℕ) (frame : Frame) (cells : CellMap) (code : Code) (b : Bool) → IsProgram p.table p.members → n < length p.members → code_at p n ≡ Some code
    → IsTrue b ↔ PropertyFits p n code frame cells → IsTrue b ↔ BodyFits p n frame cells
body_property p n frame cells code b program within coded test =
    (λ fits. of_property p program n frame cells code coded (test.0 fits), λ f. test.1 (to_property p program n frame cells code within coded f))

pub no_reader : (p : Program) (n : ℕ) (frame : Frame) (cells : CellMap) (code : Code) → IsProgram p.table p.members → length p.members ≤ n → code_at p n ≡ Some code → is_builder code.form ≡ false
    → IsTrue false ↔ BodyFits p n frame cells
no_reader p n frame cells code program past coded other =
    (λ is. absurd (cc is), λ f. let clash : true ≡ false = sym (is_reader p program n frame cells code past coded f) ∙ other in absurd (cc clash))

pub reader : (p : Program) (n : ℕ) (frame : Frame) (cells : CellMap) (code : Code) (b : Bool) → IsProgram p.table p.members → length p.members ≤ n → code_at p n ≡ Some code → is_builder code.form ≡ true
    → IsTrue b ↔ BlockFits p n code frame cells → IsTrue b ↔ BodyFits p n frame cells
reader p n frame cells code b program past coded is test =
    (λ fits. of_reader p program n frame cells code past coded is (test.0 fits), λ f. test.1 (to_reader p program n frame cells code past coded f))

-- ---- all code

pub code_value : (p : Program) (n : ℕ) (frame : Frame) (cells : CellMap) (b : Bool) → n < length p.members → IsTrue b ↔ EvalFits p n frame cells → IsTrue b ↔ CodeFits p n frame cells
code_value p n frame cells b within test = subst (λ (t : Bool). IsTrue b ↔ (elim t [ true ↦ EvalFits p n frame cells | false ↦ ExecFits p n frame cells ])) (sym (lt-ltb n (length p.members) within)) test

pub code_action : (p : Program) (n : ℕ) (frame : Frame) (cells : CellMap) (b : Bool) → length p.members ≤ n → IsTrue b ↔ ExecFits p n frame cells → IsTrue b ↔ CodeFits p n frame cells
code_action p n frame cells b past test = subst (λ (t : Bool). IsTrue b ↔ (elim t [ true ↦ EvalFits p n frame cells | false ↦ ExecFits p n frame cells ])) (sym (le-ltb n (length p.members) past)) test
