-- How many tokens each line of the grammar takes at least.
use Rattle.std.proofs.Common.{◌≡◌, ℕ, ◌+◌, ◌≤◌, Bool, true, false, List, length, arith, length-append}
use Rattle.std.specs.Prelude.{Option, if◌then◌else◌}
use Rattle.std.specs.List.{flat_map}
use Rattle.swift_ast.specs.declared.piece.CaseName.{CaseName}
use Rattle.swift_ast.specs.declared.piece.EnumItem.{EnumItem}
use Rattle.swift_ast.specs.declared.piece.Entry.{Entry}
use Rattle.swift_ast.specs.declared.piece.Member.{Member}
use Rattle.swift_ast.specs.declared.piece.PieceForm.{PieceForm}
use Rattle.swift_ast.specs.declared.piece.StructBody.{StructBody}
use Rattle.swift_ast.specs.declared.piece.StructBody.TheVariants as struct_body
use Rattle.swift_ast.specs.declared.piece.EnumItem.TheVariants as enum_item
use Rattle.swift_ast.specs.declared.piece.PieceForm.TheVariants as piece_form
use Rattle.swift_ast.specs.declared.piece.Access.{Access}
use Rattle.parse_terms.specs.Types.{SpellsType}
use Rattle.parse_terms.proofs.TypeLaws.{type_exact}
use Rattle.parse_expr.proofs.Knot.{expr_whole, stmts_whole, string_whole}
use Rattle.swift_parse.specs.Words.{has_preview, is_there}
use Rattle.swift_parse.specs.Below.{languages}
use Rattle.swift_parse.specs.Grammar.{Semicolon, Names, Aside, Environment, Mod, Import, ParamNames, Declared, Opaque, ResultOf, InoutParam, FunctionParam, ParamOf, ParamLine, Params, Arrow, LeftAside, Value, Braces, Stored, Computed, Function, FormOf, Title, Preview, MemberOf, MemberLine, Members, body_by, Body, Struct, CaseNameOf, Cases, EnumLine, Enum, EntryOf, EntryLine, Entries, PieceForms, PieceOf}
use Rattle.type_table.specs.Heads.{declares_struct, declares_at}
use Rattle.source_parts.specs.Parts.{inner_parts, body_parts, item_parts, member_part, case_part, entry_part}
use Rattle.source_sizes.specs.Sizes.{weight}
use Rattle.source_sizes.proofs.Takes.{Takes, zero_of, one_of, total_of, some_tokens, joined_length, one_takes, both_takes, then_takes, made_takes, spanned_takes, either_takes, many_takes, perhaps_takes, listed_takes}

type_takes : Takes zero_of SpellsType
type_takes = record { at_least = λ ts x rest w. let h = (type_exact 0).takes ts x rest w in omega arith }

semicolon_takes : Takes zero_of Semicolon
unfolding Semicolon
semicolon_takes = perhaps_takes (some_tokens (one_takes _))

names_takes : Takes zero_of Names
unfolding Names
names_takes = made_takes _ (perhaps_takes (made_takes _ (both_takes (one_takes _) (listed_takes _ (one_takes _))) (λ x. omega arith))) (λ x. omega arith)

aside_takes : Takes zero_of Aside
unfolding Aside
aside_takes = record { at_least = λ ts x rest d. rw d.1 (omega (arith, length-append d.0 rest)) }

environment_takes : Takes zero_of Environment
unfolding Environment
environment_takes = made_takes _ (both_takes (one_takes _) (both_takes (one_takes _) (both_takes (one_takes _) (both_takes (one_takes _) (both_takes (one_takes _) (one_takes _)))))) (λ x. omega arith)

mod_takes : Takes zero_of Mod
unfolding Mod
mod_takes = either_takes (some_tokens (one_takes _)) environment_takes

declared_takes : Takes zero_of Declared
unfolding Declared
declared_takes = perhaps_takes (made_takes _ (both_takes (one_takes _) type_takes) (λ x. omega arith))

result_takes : Takes zero_of ResultOf
unfolding ResultOf Opaque
result_takes = either_takes (made_takes _ (both_takes (one_takes _) (one_takes _)) (λ x. omega arith)) (made_takes _ type_takes (λ x. omega arith))

param_names_takes : Takes zero_of ParamNames
unfolding ParamNames
param_names_takes = some_tokens (both_takes (perhaps_takes (some_tokens (one_takes _))) (one_takes _))

param_form_takes : Takes zero_of ParamOf
unfolding ParamOf InoutParam FunctionParam
param_form_takes =
    either_takes (made_takes _ (both_takes (one_takes _) type_takes) (λ x. omega arith))
    (either_takes (made_takes _ (both_takes (one_takes _) (both_takes (one_takes _) (both_takes (one_takes _) type_takes))) (λ x. omega arith))
    (made_takes _ type_takes (λ x. omega arith)))

param_takes : Takes zero_of ParamLine
unfolding ParamLine
param_takes = made_takes _ (both_takes param_names_takes (both_takes (one_takes _) param_form_takes)) (λ x. omega arith)

params_takes : Takes zero_of Params
unfolding Params
params_takes = made_takes _ (both_takes (one_takes _) (both_takes (perhaps_takes (some_tokens (listed_takes _ param_takes))) (one_takes _))) (λ x. omega arith)

arrow_takes : Takes zero_of Arrow
unfolding Arrow
arrow_takes = made_takes _ (both_takes (one_takes _) result_takes) (λ x. omega arith)

-- ---- what is counted

abbrev in_body : StructBody → ℕ
in_body b = length (body_parts b)

abbrev body_weight : StructBody → ℕ
body_weight b = (if declares_struct b then 2 else 0) + in_body b

abbrev form_weight : PieceForm → ℕ
form_weight f = (if declares_at f then 4 else 0) + length (inner_parts f)

abbrev item_weight : EnumItem → ℕ
item_weight i = length (item_parts i)

members_weight : (ms : List Member) → body_weight (struct_body.Members ms) ≤ 1 + (total_of one_of ms + 1)
members_weight ms = let e : length (flat_map member_part ms) ≡ total_of one_of ms = joined_length member_part ms in omega arith

cases_weight : (cs : List CaseName) → item_weight (enum_item.Cases cs) ≤ total_of one_of cs
cases_weight cs = let e : length (flat_map case_part cs) ≡ total_of one_of cs = joined_length case_part cs in omega arith

struct_weight : (is_main : Bool) (access : Option Access) (name : List ℕ) (names : List (List ℕ)) (b : StructBody)
    → form_weight (piece_form.Struct (record { is_main = is_main; access = access; name = name; names = names; body = b })) ≤ 2 + body_weight b
struct_weight is_main access name names struct_body.LeftAside = omega arith
struct_weight is_main access name names (struct_body.Members ms) = omega arith

enum_weight : (items : List EnumItem) → length (flat_map item_parts items) ≤ total_of item_weight items
enum_weight items = let e : length (flat_map item_parts items) ≡ total_of item_weight items = joined_length item_parts items in omega arith

entries_weight : (es : List Entry) → length (flat_map entry_part es) ≤ total_of one_of es
entries_weight es = let e : length (flat_map entry_part es) ≡ total_of one_of es = joined_length entry_part es in omega arith

aside_body_takes : Takes body_weight LeftAside
unfolding LeftAside
aside_body_takes = made_takes _ (both_takes (one_takes _) (both_takes aside_takes (one_takes _))) (λ x. omega arith)

-- ---- over expressions and statements

module _ (total : ℕ) where
  expr_takes : Takes zero_of (languages total).Expr'
  expr_takes = record { at_least = λ ts x rest w. let h = (expr_whole total 0).takes ts x rest w in omega arith }

  stmts_takes : Takes zero_of (languages total).Stmts'
  stmts_takes = record { at_least = (stmts_whole total 0).takes }

  string_takes : Takes zero_of (languages total).String'
  string_takes = record { at_least = λ ts x rest w. let h = (string_whole total 0).takes ts x rest w in omega arith }

  value_takes : Takes zero_of (Value (languages total))
  unfolding Value
  value_takes = made_takes _ (both_takes (one_takes _) expr_takes) (λ x. omega arith)

  braces_takes : Takes zero_of (Braces (languages total))
  unfolding Braces
  braces_takes = made_takes _ (both_takes (one_takes _) (both_takes stmts_takes (one_takes _))) (λ x. omega arith)

  form_takes : Takes one_of (FormOf (languages total))
  unfolding FormOf Stored Computed Function
  form_takes =
      either_takes (made_takes _ (both_takes (one_takes _) (both_takes (one_takes _) (both_takes declared_takes (perhaps_takes value_takes)))) (λ x. omega arith))
      (either_takes (made_takes _ (both_takes (one_takes _) (both_takes (one_takes _) (both_takes (one_takes _) (both_takes result_takes braces_takes)))) (λ x. omega arith))
      (made_takes _ (both_takes (one_takes _) (both_takes (one_takes _) (both_takes params_takes (both_takes (perhaps_takes arrow_takes) braces_takes)))) (λ x. omega arith)))

  member_takes : Takes one_of (MemberOf total (languages total))
  unfolding MemberOf
  member_takes = spanned_takes _ _ (both_takes (many_takes mod_takes) form_takes) (λ s x. omega arith)

  line_takes : Takes one_of (MemberLine total (languages total))
  unfolding MemberLine
  line_takes = made_takes _ (both_takes member_takes semicolon_takes) (λ x. omega arith)

  members_takes : Takes body_weight (Members total (languages total))
  unfolding Members
  members_takes = made_takes _ (both_takes (one_takes _) (both_takes (many_takes line_takes) (one_takes _))) (λ x. members_weight x.1.0)

  body_takes : (b : Bool) → Takes body_weight (body_by total (languages total) b)
  unfolding body_by
  body_takes true = aside_body_takes
  body_takes false = members_takes

  struct_takes : Takes form_weight (Struct total (languages total))
  unfolding Struct Body
  struct_takes = made_takes _
      (both_takes (perhaps_takes (some_tokens (one_takes _))) (both_takes (perhaps_takes (some_tokens (one_takes _))) (both_takes (one_takes _) (both_takes (one_takes _) (then_takes names_takes (λ names. body_takes (has_preview names)))))))
      (λ x. let h = struct_weight (is_there x.0) x.1.0 x.1.1.1.0 x.1.1.1.1.0 x.1.1.1.1.1 in omega (arith, h))

  case_takes : Takes one_of (CaseNameOf total (languages total))
  unfolding CaseNameOf
  case_takes = spanned_takes _ _ (one_takes _) (λ s x. omega arith)

  cases_takes : Takes item_weight (Cases total (languages total))
  unfolding Cases
  cases_takes = made_takes _ (both_takes (one_takes _) (listed_takes _ case_takes)) (λ x. let h = cases_weight x.1 in omega (arith, h))

  item_takes : Takes item_weight (EnumLine total (languages total))
  unfolding EnumLine
  item_takes = made_takes _ (both_takes (either_takes cases_takes (made_takes _ member_takes (λ x. omega arith))) semicolon_takes) (λ x. omega arith)

  enum_takes : Takes form_weight (Enum total (languages total))
  unfolding Enum
  enum_takes = made_takes _ (both_takes (perhaps_takes (some_tokens (one_takes _))) (both_takes (one_takes _) (both_takes (one_takes _) (both_takes names_takes (both_takes (one_takes _) (both_takes (many_takes item_takes) (one_takes _)))))))
      (λ x. let h = enum_weight x.1.1.1.1.1.0 in omega (arith, h))

  entry_takes : Takes one_of (EntryOf total (languages total))
  unfolding EntryOf
  entry_takes = spanned_takes _ _ (both_takes (one_takes _) (both_takes (one_takes _) (both_takes (one_takes _) (both_takes declared_takes (both_takes (one_takes _) expr_takes))))) (λ s x. omega arith)

  entry_line_takes : Takes one_of (EntryLine total (languages total))
  unfolding EntryLine
  entry_line_takes = made_takes _ (both_takes entry_takes semicolon_takes) (λ x. omega arith)

  entries_takes : Takes form_weight (Entries total (languages total))
  unfolding Entries
  entries_takes = made_takes _ (both_takes (one_takes _) (both_takes (one_takes _) (both_takes (one_takes _) (both_takes (many_takes entry_line_takes) (one_takes _)))))
      (λ x. let h = entries_weight x.1.1.1.0 in omega (arith, h))

  title_takes : Takes zero_of (Title (languages total))
  unfolding Title
  title_takes = made_takes _ (both_takes (one_takes _) (both_takes string_takes (one_takes _))) (λ x. omega arith)

  preview_takes : Takes form_weight (Preview (languages total))
  unfolding Preview
  preview_takes = made_takes _ (both_takes (one_takes _) (both_takes (perhaps_takes title_takes) (both_takes (one_takes _) (both_takes aside_takes (one_takes _))))) (λ x. omega arith)

  import_takes : Takes form_weight Import
  unfolding Import
  import_takes = made_takes _ (both_takes (one_takes _) (one_takes _)) (λ x. omega arith)

  pub piece_takes : Takes weight (PieceOf total (languages total))
  unfolding PieceOf PieceForms
  piece_takes = spanned_takes _ _ (either_takes import_takes (either_takes struct_takes (either_takes enum_takes (either_takes entries_takes preview_takes)))) (λ s f. omega arith)
