-- That each line of the grammar is read: one term for each.
use Rattle.std.proofs.Common.{◌≡◌, ℕ, zero, suc, ◌+◌, ◌≤◌, Bool, true, false, not, cond, ◌||◌, ◌&&◌, List, [], ◌∷◌, ◌++◌, length, take, drop, refl, sym, ap, subst, ◌∙◌, codes, arith, inl, inr, ◌⊎◌}
use Rattle.std.specs.Prelude.{Option, Some, None, is_some}
use Rattle.std.proofs.lemmas.List.{take-append-drop, length-append}
use Rattle.swift_lex.specs.declared.token.Token.{Token}
use Rattle.swift_ast.specs.declared.type_name.TypeName.{TypeName}
use Rattle.swift_ast.specs.declared.tree.Binder.TheVariants as binder
use Rattle.swift_ast.specs.declared.piece.MemberForm.{MemberForm}
use Rattle.swift_ast.specs.declared.piece.ParamForm.{ParamForm}
use Rattle.swift_ast.specs.declared.piece.ParamForm.TheVariants as param_form
use Rattle.swift_ast.specs.declared.piece.ResultName.TheVariants as result_name
use Rattle.swift_ast.specs.declared.piece.StructBody.{StructBody}
use Rattle.swift_ast.specs.declared.piece.PieceForm.{PieceForm}
use Rattle.token_brackets.specs.Balance.{Balanced}
use Rattle.token_brackets.specs.Depth.{is_closing, closes_by}
use Rattle.token_brackets.specs.Brackets.{bracket_of}
use Rattle.token_brackets.specs.Prefix.{is_stop, IsFront, balanced_len}
use Rattle.token_brackets.proofs.Prefixes.{front_found, front_is}
use Rattle.parse_base.specs.Parser.{Parser, Outcome, starts, take_one, both, then_by, made, spanned, choose, perhaps, all, listed}
use Rattle.parse_base.specs.Language.{Language, One, Both, Then, Made, Spanned, Either, Many, Perhaps, Listed}
use Rattle.parse_base.specs.Terminals.{a_sign, a_word, an_attribute, a_directive, a_name, sign_next, word_next}
use Rattle.parse_base.proofs.Laws.{Exact, Implies, anything, one_exact, both_exact, made_exact, choose_exact, all_exact, perhaps_exact, listed_exact, then_exact, spanned_exact, weaker, stronger, fewer, Repeats, Announced, or_left, or_right, or_cases, some_is}
use Rattle.parse_base.proofs.Seen.{sees, sees_word, sees_attribute, sees_directive, sees_name, not_true, and_first, and_second, and_both}
use Rattle.parse_terms.specs.Types.{SpellsType, read_type, begins_type, ends_type}
use Rattle.parse_terms.specs.Words.{a_binder}
use Rattle.parse_terms.proofs.TypeLaws.{type_exact, rparen_ends_type}
use Rattle.swift_parse.specs.Words.{an_access, a_modifier, the_name, has_preview}
use Rattle.swift_parse.specs.Below.{Languages, Parsers}
use Rattle.swift_parse.specs.Grammar.{Semicolon, Names, Aside, Environment, Mod, Import, ParamNames, Declared, Opaque, ResultOf, InoutParam, FunctionParam, ParamOf, ParamLine, Params, Arrow, LeftAside, Value, Braces, Function, FormOf, Title, Preview, MemberOf, MemberLine, Members, body_by, Body, Struct, CaseNameOf, Cases, EnumLine, Enum, EntryOf, EntryLine, Entries, PieceForms, PieceOf}
use Rattle.swift_parse.specs.Parse.{name_next, pair_ahead, begins_mod, begins_form, begins_member, begins_enum_line, begins_struct, begins_enum, semicolon, names, aside_by, aside, environment, modifier, import_of, param_names, declared, opaque, result_of, inout_param, function_param, param_of, param_line, params, arrow, left_aside, value, maybe_value, braces, let_form, typed, coloned, named, var_form, function, form_of, title, preview, member_of, member_line, members, body, struct_of, case_name_of, cases, enum_item_of, enum_line, enum_of, entry_of, entry_line, entries, piece_form_of, piece_of}
use Rattle.swift_parse.proofs.Sides.{after_line, line_follows, value_follows, follow_sign, member_sign, after_no_semicolon, other_sign, sign_ends_type, line_ends_type, value_ends_type, value_no_colon, value_no_brace, type_word, type_no_rparen, word_word, word_attribute, attribute_word, word_access, access_attribute, environment_no_modifier, form_words, form_no_mod, form_begins, rbrace_no_member, rbrace_no_enum_line, rbrace_no_entry, rbrace_after, member_after, enum_line_after, entry_after, member_no_case}
use Rattle.swift_parse.proofs.Split.{LetForm, Typed, Coloned, Named, VarForm, SplitForm, split_is_form, form_is_split}

-- the crates below read what they say
pub record Known (L : Languages) (p : Parsers) : Type 0 where
  pub exprs : (n : ℕ) → Exact 1 n p.expr' L.Expr' L.Expr' anything line_follows
  pub stmts : (n : ℕ) → Exact 0 n p.stmts' L.Stmts' L.Stmts' anything (starts (a_sign (codes "}")))
  pub strings : (n : ℕ) → Exact 1 n p.string' L.String' L.String' anything (starts (a_sign (codes ")")))
  pub no_pair : (ts : List Token) (x : TypeName) (rest : List Token) → SpellsType ts x rest → ends_type rest ≡ true → pair_ahead ts ≡ false

abbrev One_of : {A : Type 0} → ℕ → Parser A → Language A → (List Token → Bool) → (List Token → Bool) → Type 0
One_of n p R first ends = Exact 1 n p R R first ends

-- a language that is the same
same_exact : {A : Type 0} {k n : ℕ} {p : Parser A} {R S : Language A} {first ends : List Token → Bool}
    → ((ts : List Token) (x : A) (rest : List Token) → R ts x rest → S ts x rest) → ((ts : List Token) (x : A) (rest : List Token) → S ts x rest → R ts x rest)
    → Exact k n p R R first ends → Exact k n p S S first ends
same_exact to from h = record {
  sound = λ ts x rest e. to ts x rest (h.sound ts x rest e);
  complete = λ ts x rest le d e. h.complete ts x rest le (from ts x rest d) e;
  takes = λ ts x rest d. h.takes ts x rest (from ts x rest d);
  begins = λ ts x rest d e. h.begins ts x rest (from ts x rest d) e;
}

-- less is said of what is taken and of what follows
pub narrow : {A : Type 0} {k n : ℕ} {p : Parser A} {R : Language A} {first ends : List Token → Bool} (l : ℕ) (ends' : List Token → Bool) → l ≤ k → Implies ends' ends
    → Exact k n p R R first ends → Exact l n p R R first ends'
narrow {first = first} l ends' le less h = fewer le (weaker first ends' h (λ ts e. e) less)

pub always : (ends : List Token → Bool) → Implies ends anything
always ends ts e = refl

-- ---- words and names

semicolon_exact : (n : ℕ) → Exact 0 n semicolon Semicolon Semicolon line_follows after_line
unfolding semicolon Semicolon line_follows
semicolon_exact n = perhaps_exact (one_exact n (a_sign (codes ";"))) (record { begin = λ ts e. e; last = λ ts e. refl; stop = after_no_semicolon })

pub names_exact : (n : ℕ) → Exact 0 n names Names Names (λ ts. starts (a_sign (codes ":")) ts || starts (a_sign (codes "{")) ts) (starts (a_sign (codes "{")))
unfolding names Names
names_exact n =
    let list = listed_exact (a_sign (codes ",")) (one_exact n a_name) (λ ts e. refl) (always (starts (a_sign (codes "{")))) (other_sign (codes "{") (codes ",") refl) in
    made_exact _ (perhaps_exact (made_exact _ (both_exact (one_exact n (a_sign (codes ":"))) list (λ ts e. refl)))
    (record { begin = λ ts e. e; last = λ ts e. e; stop = other_sign (codes "{") (codes ":") refl }))

environment_exact : (n : ℕ) → Exact 1 n environment Environment Environment (starts (an_attribute (codes "@Environment"))) anything
unfolding environment Environment
environment_exact n = fewer (omega arith) (made_exact _
    (both_exact (one_exact n (an_attribute (codes "@Environment"))) (both_exact (one_exact n (a_sign (codes "("))) (both_exact (one_exact n (a_sign (codes "\\"))) (both_exact (one_exact n (a_sign (codes ".")))
    (both_exact (one_exact n a_name) (one_exact n (a_sign (codes ")"))) (λ ts e. refl)) (λ ts e. refl)) (λ ts e. refl)) (λ ts e. refl)) (λ ts e. refl)))

mod_exact : (n : ℕ) → Exact 1 n modifier Mod Mod begins_mod anything
unfolding modifier Mod begins_mod
mod_exact n = choose_exact (one_exact n a_modifier) (environment_exact n) (λ ts e. e) environment_no_modifier

mods_exact : (n : ℕ) → Exact 0 n (all begins_mod modifier) (Many Mod) (Many Mod) (λ ts. begins_mod ts || form_words ts) form_words
mods_exact n = all_exact (record { exact = mod_exact n; begin = λ ts e. e; next = λ ts e. refl; last = λ ts e. refl; stop = form_no_mod })

pub import_exact : (n : ℕ) → Exact 1 n import_of Import Import (starts (a_word (codes "import"))) anything
unfolding import_of Import
import_exact n = fewer (omega arith) (made_exact _ (both_exact (one_exact n (a_word (codes "import"))) (one_exact n a_name) (λ ts e. refl)))

-- ---- types

declared_exact : (n : ℕ) → Exact 0 n declared Declared Declared (λ ts. starts (a_sign (codes ":")) ts || value_follows ts) value_follows
unfolding declared Declared
declared_exact n = perhaps_exact (made_exact _ (both_exact (one_exact n (a_sign (codes ":"))) (type_exact n) (λ ts e. refl)))
    (record { begin = λ ts e. e; last = value_ends_type; stop = value_no_colon })

opaque_exact : (n : ℕ) → Exact 1 n opaque Opaque Opaque (starts (a_word (codes "some"))) anything
unfolding opaque Opaque
opaque_exact n = fewer (omega arith) (made_exact _ (both_exact (one_exact n (a_word (codes "some"))) (one_exact n a_name) (λ ts e. refl)))

result_exact : (n : ℕ) → Exact 1 n result_of ResultOf ResultOf (λ ts. starts (a_word (codes "some")) ts || begins_type ts) ends_type
unfolding result_of ResultOf
result_exact n = choose_exact (narrow 1 ends_type (omega arith) (always ends_type) (opaque_exact n)) (made_exact result_name.Plain (type_exact n)) (λ ts e. e) (type_word (codes "some"))

arrow_exact : (n : ℕ) → Exact 1 n arrow Arrow Arrow (starts (a_sign (codes "->"))) ends_type
unfolding arrow Arrow
arrow_exact n = fewer (omega arith) (made_exact _ (both_exact (one_exact n (a_sign (codes "->"))) (result_exact n) (λ ts e. refl)))

-- ---- parameters

abbrev two_names : List Token → Bool
two_names ts = starts a_name ts && name_next ts

abbrev name_alone : List Token → Bool
name_alone ts = starts a_name ts && not (name_next ts)

name_before_name : (ts : List Token) (x : List ℕ) (rest : List Token) → One a_name ts x rest → starts a_name rest ≡ true → two_names ts ≡ true
unfolding One starts
name_before_name ts x rest o e = rw (o.1, o.2) e

colon_no_name : (ts : List Token) → starts (a_sign (codes ":")) ts ≡ true → starts a_name ts ≡ false
unfolding starts
colon_no_name ts e = let s = sees (codes ":") ts e in rw (s.is, s.kind_is) refl

name_by_itself : (ts : List Token) (x : List ℕ) (rest : List Token) → One a_name ts x rest → starts a_name rest ≡ false → name_alone ts ≡ true
unfolding One starts
name_by_itself ts x rest o off = rw (o.1, o.2) (ap not off)

name_before_colon : (ts : List Token) (x : List ℕ) (rest : List Token) → One a_name ts x rest → starts (a_sign (codes ":")) rest ≡ true → name_alone ts ≡ true
name_before_colon ts x rest o e = name_by_itself ts x rest o (colon_no_name rest e)

param_names_exact : (n : ℕ) → Exact 1 n param_names ParamNames ParamNames (λ ts. two_names ts || name_alone ts) (starts (a_sign (codes ":")))
unfolding param_names ParamNames
param_names_exact n =
    let label = stronger two_names (narrow 1 (starts a_name) (omega arith) (always (starts a_name)) (one_exact n a_name)) name_before_name in
    let last = stronger name_alone (narrow 1 (starts (a_sign (codes ":"))) (omega arith) (always (starts (a_sign (codes ":")))) (one_exact n a_name)) name_before_colon in
    both_exact (perhaps_exact label (record { begin = λ ts e. and_second (starts a_name ts) (name_next ts) e; last = λ ts e. and_first (starts a_name ts) (not (name_next ts)) e; stop = λ ts e. not_true (name_next ts) (and_second (starts a_name ts) (not (name_next ts)) e) })) last (λ ts e. e)

names_begin : (ts : List Token) → (two_names ts || name_alone ts) ≡ true → starts a_name ts ≡ true
names_begin ts e = or_cases {P = starts a_name ts ≡ true} _ _ e (and_first (starts a_name ts) (name_next ts)) (and_first (starts a_name ts) (not (name_next ts)))

inout_exact : (n : ℕ) → Exact 1 n inout_param InoutParam InoutParam (starts (a_word (codes "inout"))) ends_type
unfolding inout_param InoutParam
inout_exact n = fewer (omega arith) (made_exact _ (both_exact (one_exact n (a_word (codes "inout"))) (type_exact n) (λ ts e. refl)))

pair_of : (ts : List Token) (x : ParamForm) (rest : List Token) → FunctionParam ts x rest → ends_type rest ≡ true → pair_ahead ts ≡ true
unfolding FunctionParam Made Both One pair_ahead starts
pair_of ts x rest d e = rw (d.1.1.1, d.1.1.2, d.1.2.1.1, d.1.2.1.2) refl

function_param_parts : (n : ℕ) → Exact 1 n function_param FunctionParam FunctionParam (starts (a_sign (codes "("))) ends_type
unfolding function_param FunctionParam
function_param_parts n = fewer (omega arith) (made_exact _ (both_exact (one_exact n (a_sign (codes "("))) (both_exact (one_exact n (a_sign (codes ")"))) (both_exact (one_exact n (a_sign (codes "->"))) (type_exact n) (λ ts e. refl)) (λ ts e. refl)) (λ ts e. refl)))

function_param_exact : (n : ℕ) → Exact 1 n function_param FunctionParam FunctionParam pair_ahead ends_type
function_param_exact n = stronger pair_ahead (function_param_parts n) pair_of

rparen_no_name : (ts : List Token) → starts (a_sign (codes ")")) ts ≡ true → starts a_name ts ≡ false
unfolding starts
rparen_no_name ts e = let s = sees (codes ")") ts e in rw (s.is, s.kind_is) refl

abbrev type_alone : List Token → Bool
type_alone ts = begins_type ts && not (pair_ahead ts)

pair_no_inout : (ts : List Token) → pair_ahead ts ≡ true → starts (a_word (codes "inout")) ts ≡ false
unfolding pair_ahead starts
pair_no_inout ts e = let s = sees (codes "(") ts (and_first _ _ e) in rw (s.is, s.kind_is) refl

module _ (pairs : (ts : List Token) (x : TypeName) (rest : List Token) → SpellsType ts x rest → ends_type rest ≡ true → pair_ahead ts ≡ false) where
  type_alone_exact : (n : ℕ) → Exact 1 n read_type SpellsType SpellsType type_alone ends_type
  type_alone_exact n = stronger type_alone (type_exact n) (λ ts x rest d e. and_both (begins_type ts) (not (pair_ahead ts)) ((type_exact n).begins ts x rest d e) (ap not (pairs ts x rest d e)))

  param_of_exact : (n : ℕ) → Exact 1 n param_of ParamOf ParamOf (λ ts. starts (a_word (codes "inout")) ts || (pair_ahead ts || type_alone ts)) ends_type
  unfolding param_of ParamOf
  param_of_exact n =
      choose_exact (inout_exact n) (choose_exact (function_param_exact n) (made_exact param_form.Plain (type_alone_exact n)) (λ ts e. e) (λ ts e. not_true (pair_ahead ts) (and_second (begins_type ts) (not (pair_ahead ts)) e)))
      (λ ts e. e) (λ ts e. or_cases {P = starts (a_word (codes "inout")) ts ≡ false} _ _ e (pair_no_inout ts) (λ h. type_word (codes "inout") ts (and_first (begins_type ts) (not (pair_ahead ts)) h)))

  param_line_exact : (n : ℕ) → Exact 1 n param_line ParamLine ParamLine (starts a_name) ends_type
  unfolding param_line ParamLine
  param_line_exact n = fewer (omega arith) (weaker (starts a_name) ends_type
      (made_exact _ (both_exact (param_names_exact n) (both_exact (one_exact n (a_sign (codes ":"))) (param_of_exact n) (λ ts e. refl)) (λ ts e. e))) names_begin (λ ts e. e))

  params_exact : (n : ℕ) → Exact 1 n params Params Params (starts (a_sign (codes "("))) anything
  unfolding params Params
  params_exact n =
      let list = listed_exact (a_sign (codes ",")) (param_line_exact n) (sign_ends_type (codes ",") refl) rparen_ends_type (other_sign (codes ")") (codes ",") refl) in
      let some = perhaps_exact list (record { begin = λ ts e. e; last = λ ts e. e; stop = rparen_no_name }) in
      fewer (omega arith) (made_exact _ (both_exact (one_exact n (a_sign (codes "("))) (both_exact some (one_exact n (a_sign (codes ")"))) (λ ts e. e)) (λ ts e. refl)))

-- ---- tokens that are left aside

aside_some : (ts : List Token) (o : Option ℕ) (x : Unit {0}) (rest : List Token) → balanced_len ts ≡ o → aside_by ts o ≡ Some (x, rest) → Aside ts x rest
unfolding Aside
aside_some ts None x rest is e = absurd cc
aside_some ts (Some n) x rest is e =
    let f = front_found ts n is in
    let pair = some_is {A = Unit {0} × List Token} (tt, drop n ts) (x, rest) e in
    let same : drop n ts ≡ rest = ap (λ (q : Unit {0} × List Token). q.1) pair in
    (take n ts, sym (take-append-drop n ts) ∙ ap (λ (v : List Token). take n ts ++ v) same, f.balanced, refl)

aside_all : (ts : List Token) (x : Unit {0}) (rest : List Token) → Aside ts x rest → is_stop rest ≡ true → aside ts ≡ Some (x, rest)
unfolding Aside aside
aside_all ts x rest d e =
    let len : balanced_len ts ≡ Some (length d.0) = ap balanced_len d.1 ∙ front_is rest d.2 e in
    let dropped : drop (length d.0) ts ≡ rest = ap (λ (v : List Token). drop (length d.0) v) d.1 ∙ drop_front d.0 rest in
    ap (aside_by ts) len ∙ ap (λ (v : List Token). Some (tt, v)) dropped
  where
    drop_front : (p r : List Token) → drop (length p) (p ++ r) ≡ r
    drop_front [] r = refl
    drop_front (t ∷ p) r = drop_front p r

aside_takes : (ts : List Token) (x : Unit {0}) (rest : List Token) → Aside ts x rest → length rest + 0 ≤ length ts
unfolding Aside
aside_takes ts x rest d = rw d.1 (omega (arith, length-append d.0 rest))

pub aside_exact : (n : ℕ) → Exact 0 n aside Aside Aside anything is_stop
unfolding aside
aside_exact n = record {
  sound = λ ts x rest e. aside_some ts (balanced_len ts) x rest refl e;
  complete = λ ts x rest le d e. aside_all ts x rest d e;
  takes = aside_takes;
  begins = λ ts x rest d e. refl;
}

pub rbrace_stops : Implies (starts (a_sign (codes "}"))) is_stop
unfolding bracket_of
rbrace_stops ts e = let s = sees (codes "}") ts e in rw (s.is, s.kind_is) refl

left_aside_exact : (n : ℕ) → Exact 1 n left_aside LeftAside LeftAside (starts (a_sign (codes "{"))) anything
unfolding left_aside LeftAside
left_aside_exact n = fewer (omega arith) (made_exact _ (both_exact (one_exact n (a_sign (codes "{"))) (both_exact (aside_exact n) (one_exact n (a_sign (codes "}"))) rbrace_stops) (λ ts e. refl)))

equals_follow : Implies (starts (a_sign (codes "="))) value_follows
unfolding value_follows
equals_follow ts e = or_left _ _ e

-- ---- members

module _ {L : Languages} {p : Parsers} (K : Known L p) where
  value_exact : (n : ℕ) → Exact 1 n (value p) (Value L) (Value L) (starts (a_sign (codes "="))) line_follows
  unfolding value Value
  value_exact n = fewer (omega arith) (made_exact _ (both_exact (one_exact n (a_sign (codes "="))) (K.exprs n) (λ ts e. refl)))

  maybe_value_exact : (n : ℕ) → Exact 0 n (maybe_value p) (Perhaps (Value L)) (Perhaps (Value L)) value_follows line_follows
  unfolding maybe_value value_follows
  maybe_value_exact n = perhaps_exact (value_exact n) (record { begin = λ ts e. e; last = λ ts e. e; stop = follow_sign (codes "=") refl refl })

  braces_exact : (n : ℕ) → Exact 1 n (braces p) (Braces L) (Braces L) (starts (a_sign (codes "{"))) anything
  unfolding braces Braces
  braces_exact n = fewer (omega arith) (made_exact _ (both_exact (one_exact n (a_sign (codes "{"))) (both_exact (K.stmts n) (one_exact n (a_sign (codes "}"))) (λ ts e. e)) (λ ts e. refl)))

  let_exact : (n : ℕ) → Exact 1 n (let_form p) (LetForm L) (LetForm L) (starts (a_word (codes "let"))) line_follows
  unfolding let_form LetForm
  let_exact n = fewer (omega arith) (made_exact _ (both_exact (one_exact n (a_word (codes "let"))) (both_exact (one_exact n a_name) (both_exact (declared_exact n) (maybe_value_exact n) (λ ts e. e)) (λ ts e. refl)) (λ ts e. refl)))

  typed_exact : (n : ℕ) (name : List ℕ) (type : TypeName) → Exact 0 n (typed p name type) (Typed L name type) (Typed L name type) (λ ts. starts (a_sign (codes "{")) ts || value_follows ts) line_follows
  unfolding typed Typed
  typed_exact n name type = choose_exact (made_exact _ (narrow 0 line_follows (omega arith) (always line_follows) (braces_exact n))) (made_exact _ (maybe_value_exact n)) (λ ts e. e) value_no_brace

  typed_ends : Implies (λ ts. starts (a_sign (codes "{")) ts || value_follows ts) ends_type
  typed_ends ts e = or_cases {P = ends_type ts ≡ true} _ _ e (sign_ends_type (codes "{") refl ts) (value_ends_type ts)

  coloned_exact : (n : ℕ) (name : List ℕ) → Exact 1 n (coloned p name) (Coloned L name) (Coloned L name) (λ ts. starts (a_word (codes "some")) ts || begins_type ts) line_follows
  unfolding coloned Coloned
  coloned_exact n name = choose_exact (made_exact _ (narrow 1 line_follows (omega arith) (always line_follows) (both_exact (opaque_exact n) (braces_exact n) (λ ts e. refl))))
      (made_exact _ (fewer (omega arith) (then_exact (type_exact n) (typed_exact n name) typed_ends))) (λ ts e. e) (type_word (codes "some"))

  named_exact : (n : ℕ) (name : List ℕ) → Exact 0 n (named p name) (Named L name) (Named L name) (λ ts. starts (a_sign (codes ":")) ts || value_follows ts) line_follows
  unfolding named Named
  named_exact n name = choose_exact (made_exact _ (fewer (omega arith) (both_exact (one_exact n (a_sign (codes ":"))) (coloned_exact n name) (λ ts e. refl)))) (made_exact _ (maybe_value_exact n)) (λ ts e. e) value_no_colon

  var_exact : (n : ℕ) → Exact 1 n (var_form p) (VarForm L) (VarForm L) (starts (a_word (codes "var"))) line_follows
  unfolding var_form VarForm
  var_exact n = fewer (omega arith) (made_exact _ (both_exact (one_exact n (a_word (codes "var"))) (then_exact (one_exact n a_name) (named_exact n) (λ ts e. refl)) (λ ts e. refl)))

  function_exact : (n : ℕ) → Exact 1 n (function p) (Function L) (Function L) (starts (a_word (codes "func"))) anything
  unfolding function Function
  function_exact n =
      let output = perhaps_exact (arrow_exact n) (record { begin = λ ts e. e; last = sign_ends_type (codes "{") refl; stop = other_sign (codes "{") (codes "->") refl }) in
      fewer (omega arith) (made_exact _ (both_exact (one_exact n (a_word (codes "func"))) (both_exact (one_exact n a_name) (both_exact (params_exact K.no_pair n) (both_exact output (braces_exact n) (λ ts e. e)) (λ ts e. refl)) (λ ts e. refl)) (λ ts e. refl)))

  split_exact : (n : ℕ) → Exact 1 n (form_of p) (SplitForm L) (SplitForm L) form_words line_follows
  unfolding form_of SplitForm form_words
  split_exact n = choose_exact (narrow 1 line_follows (omega arith) (always line_follows) (function_exact n)) (choose_exact (let_exact n) (var_exact n) (λ ts e. e) (word_word (codes "var") (codes "let") refl))
      (λ ts e. e) (λ ts e. or_cases {P = starts (a_word (codes "func")) ts ≡ false} _ _ e (word_word (codes "let") (codes "func") refl ts) (word_word (codes "var") (codes "func") refl ts))

  form_exact : (n : ℕ) → Exact 1 n (form_of p) (FormOf L) (FormOf L) form_words line_follows
  form_exact n = same_exact (split_is_form L) (form_is_split L) (split_exact n)

  member_begins : Implies (λ ts. begins_mod ts || form_words ts) begins_member
  unfolding begins_member
  member_begins ts e = or_cases {P = begins_member ts ≡ true} _ _ e (or_left _ _) (λ h. or_right _ _ (form_begins ts h))

  member_exact : (total n : ℕ) → Exact 1 n (member_of total p) (MemberOf total L) (MemberOf total L) begins_member line_follows
  unfolding member_of MemberOf
  member_exact total n = weaker begins_member line_follows (spanned_exact total _ (both_exact (mods_exact n) (form_exact n) (λ ts e. e))) member_begins (λ ts e. e)

  member_line_exact : (total n : ℕ) → Exact 1 n (member_line total p) (MemberLine total L) (MemberLine total L) begins_member after_line
  unfolding member_line MemberLine
  member_line_exact total n = made_exact _ (both_exact (member_exact total n) (semicolon_exact n) (λ ts e. e))

  member_lines_exact : (total n : ℕ) → Exact 0 n (all begins_member (member_line total p)) (Many (MemberLine total L)) (Many (MemberLine total L)) (λ ts. begins_member ts || starts (a_sign (codes "}")) ts) (starts (a_sign (codes "}")))
  member_lines_exact total n = all_exact (record { exact = member_line_exact total n; begin = λ ts e. e; next = member_after; last = rbrace_after; stop = rbrace_no_member })

  members_exact : (total n : ℕ) → Exact 1 n (members total p) (Members total L) (Members total L) (starts (a_sign (codes "{"))) anything
  unfolding members Members
  members_exact total n = fewer (omega arith) (made_exact _ (both_exact (one_exact n (a_sign (codes "{"))) (both_exact (member_lines_exact total n) (one_exact n (a_sign (codes "}"))) (λ ts e. e)) (λ ts e. refl)))

  -- ---- bodies

  body_cases : (total n : ℕ) (b : Bool) → Exact 1 n (λ ts. cond b (left_aside ts) (members total p ts)) (body_by total L b) (body_by total L b) (starts (a_sign (codes "{"))) anything
  unfolding body_by
  body_cases total n true = left_aside_exact n
  body_cases total n false = members_exact total n

  pub body_exact : (total n : ℕ) (names : List (List ℕ)) → Exact 1 n (body total p names) (Body total L names) (Body total L names) (starts (a_sign (codes "{"))) anything
  unfolding body Body
  body_exact total n names = body_cases total n (has_preview names)

  case_name_exact : (total n : ℕ) → Exact 1 n (case_name_of total p) (CaseNameOf total L) (CaseNameOf total L) (starts a_name) anything
  unfolding case_name_of CaseNameOf
  case_name_exact total n = spanned_exact total _ (one_exact n a_name)

  cases_exact : (total n : ℕ) → Exact 1 n (cases total p) (Cases total L) (Cases total L) (starts (a_word (codes "case"))) line_follows
  unfolding cases Cases
  cases_exact total n =
      let list = listed_exact (a_sign (codes ",")) (case_name_exact total n) (λ ts e. refl) (always line_follows) (follow_sign (codes ",") refl refl) in
      fewer (omega arith) (made_exact _ (both_exact (one_exact n (a_word (codes "case"))) list (λ ts e. refl)))

  enum_line_exact : (total n : ℕ) → Exact 1 n (enum_line total p) (EnumLine total L) (EnumLine total L) begins_enum_line after_line
  unfolding enum_line EnumLine enum_item_of begins_enum_line
  enum_line_exact total n = made_exact _ (both_exact (choose_exact (cases_exact total n) (made_exact _ (member_exact total n)) (λ ts e. e) member_no_case) (semicolon_exact n) (λ ts e. e))

  pub enum_lines_exact : (total n : ℕ) → Exact 0 n (all begins_enum_line (enum_line total p)) (Many (EnumLine total L)) (Many (EnumLine total L)) (λ ts. begins_enum_line ts || starts (a_sign (codes "}")) ts) (starts (a_sign (codes "}")))
  enum_lines_exact total n = all_exact (record { exact = enum_line_exact total n; begin = λ ts e. e; next = enum_line_after; last = rbrace_after; stop = rbrace_no_enum_line })

  entry_exact : (total n : ℕ) → Exact 1 n (entry_of total p) (EntryOf total L) (EntryOf total L) (starts (an_attribute (codes "@Entry"))) line_follows
  unfolding entry_of EntryOf
  entry_exact total n = fewer (omega arith) (spanned_exact total _ (both_exact (one_exact n (an_attribute (codes "@Entry"))) (both_exact (one_exact n (a_word (codes "var"))) (both_exact (one_exact n a_name)
      (both_exact (declared_exact n) (both_exact (one_exact n (a_sign (codes "="))) (K.exprs n) (λ ts e. refl)) equals_follow) (λ ts e. refl)) (λ ts e. refl)) (λ ts e. refl)))

  entry_line_exact : (total n : ℕ) → Exact 1 n (entry_line total p) (EntryLine total L) (EntryLine total L) (starts (an_attribute (codes "@Entry"))) after_line
  unfolding entry_line EntryLine
  entry_line_exact total n = made_exact _ (both_exact (entry_exact total n) (semicolon_exact n) (λ ts e. e))

  pub entry_lines_exact : (total n : ℕ) → Exact 0 n (all (starts (an_attribute (codes "@Entry"))) (entry_line total p)) (Many (EntryLine total L)) (Many (EntryLine total L)) (λ ts. starts (an_attribute (codes "@Entry")) ts || starts (a_sign (codes "}")) ts) (starts (a_sign (codes "}")))
  entry_lines_exact total n = all_exact (record { exact = entry_line_exact total n; begin = λ ts e. e; next = entry_after; last = rbrace_after; stop = rbrace_no_entry })
