-- Each line of the grammar of expressions is read by its parser.
use Rattle.std.proofs.Common.{◌≡◌, ℕ, zero, suc, ◌+◌, ◌≤◌, Bool, true, false, not, ◌||◌, ◌&&◌, List, [], ◌∷◌, length, refl, sym, ◌∙◌, codes, arith, subst, ap, inl, inr, ◌⊎◌}
use Rattle.std.specs.Prelude.{Option, Some, None, is_some}
use Rattle.swift_lex.specs.declared.token.Token.{Token}
use Rattle.swift_lex.specs.declared.token.TokenKind.TheVariants as kind
use Rattle.swift_ast.specs.declared.span.Span.{Span}
use Rattle.swift_ast.specs.declared.tree.ClosureParam.{ClosureParam}
use Rattle.swift_ast.specs.declared.tree.Expr.{Expr}
use Rattle.swift_ast.specs.declared.tree.ExprForm.{ExprForm}
use Rattle.swift_ast.specs.declared.tree.ExprForm.TheVariants as form
use Rattle.swift_ast.specs.declared.tree.ArgValue.{ArgValue}
use Rattle.swift_ast.specs.declared.tree.Stmt.{Stmt}
use Rattle.parse_base.specs.Spans.{span_of}
use Rattle.parse_base.specs.Parser.{Parser, Terminal, starts, take_one, made, both, choose, many, perhaps, all, listed}
use Rattle.parse_base.specs.Language.{Language, One, Made, Both, Either, Many, UpTo, Perhaps, Listed, Spanned}
use Rattle.parse_base.specs.Terminals.{only_if, a_sign, a_word, a_name, a_text, string_open, hole_open, string_close, on_line, label_ahead}
use Rattle.parse_base.proofs.Laws.{got_is, or_cases, or_left, or_right, Exact, Implies, anything, one_exact, both_exact, then_exact, fewer, weaker, until, stronger, after_exact, made_exact, spanned_exact, choose_exact, upto_exact, all_exact, Repeats, perhaps_exact, greedy_exact, Announced, listed_exact, lower}
use Rattle.parse_base.proofs.Seen.{only_some, SeesLabel, sees_label, and_first, and_second, and_both, not_true, no_true}
use Rattle.parse_terms.specs.Words.{max_links, literal, a_literal, a_param, a_selector, an_op, limit, top_level, a_prefix, a_force, tail_open}
use Rattle.parse_terms.specs.Trees.{node}
use Rattle.parse_expr.specs.Tests.{string_goes_on, goes_on, ends_tail, ends_post, ends_level, ends_expr, begins_form, begins_prim, begins_expr, params_from, params_ahead, begins_arg, ends_arg, closes, begins_stmts}
use Rattle.parse_expr.specs.Grammar.{Inner, Inside, Hole, StringPiece, StringOf, ImplicitOf, ListOf, Paren, PrimForm, Prim, Params, ClosureIn, ClosureOf, FirstClosure, Label, LabelledOf, TailOf, KeyOf, ValueOf, ArgOf, Args, Call, MemberOf, IndexOf, PartOf, Post, Unary, Level, Branches, ExprOf}
use Rattle.parse_expr.specs.Parse as p
use Rattle.parse_expr.specs.Parse.{inside, hole, string_piece, string_of, implicit_of, list_of, paren, prim_form, prim, params, closure_in, closure_of, first_closure, label_of, labelled_of, tail_of, key_of, value_of, arg_of, args, call, member_of, index_of, part_of, post, unary, level, branches, expr_of}
use Rattle.parse_expr.proofs.Firsts.{rparen_ends, rbracket_ends, comma_ends, colon_ends, question_ends, expr_ends_level, no_question, post_stops, post_ends_tail, level_ends, level_stops, part_ends_tail, tail_no_label, op_ends_level, prim_no_prefix, form_no_paren, open_no_literal, sign_no_literal, sign_no_open, sign_no_sign, hole_no_text, close_no_piece, rbracket_no_expr, dot_no_force, index_no_other, call_no_other, tail_no_other, brace_no_expr, value_no_key, rparen_ends_arg, comma_ends_arg, arg_ends_expr, rparen_no_arg, in_no_comma, label_no_sign, colon_no_arg_end, label_begins_arg, colon_ends_expr}

-- ---- parameters of a closure are seen from their first token on

in_seen : (ts : List Token) (x : Unit {0}) (rest : List Token) → One (a_word (codes "in")) ts x rest → params_from true ts ≡ true
unfolding One params_from
in_seen ts x rest w = rw w.1 (or_left _ _ (only_some _ tt x w.2))

param_seen : (ts : List Token) (x : ClosureParam) (rest : List Token) → One a_param ts x rest → params_from true rest ≡ true → params_from false ts ≡ true
unfolding One params_from starts
param_seen ts x rest w e = rw (w.1, w.2, e) refl

comma_seen : (ts : List Token) (x : Unit {0}) (rest : List Token) → One (a_sign (codes ",")) ts x rest → params_from false rest ≡ true → params_from true ts ≡ true
unfolding One params_from
comma_seen ts x rest w e = rw w.1 (or_right _ _ (and_both _ _ (only_some _ tt x w.2) e))

commas_seen : (xs : List ClosureParam) (ts mid rest : List Token) (u : Unit {0}) → Many (Made (λ x. x.1) (Both (One (a_sign (codes ","))) (One a_param))) ts xs mid → One (a_word (codes "in")) mid u rest → params_from true ts ≡ true
unfolding Many Made Both
commas_seen [] ts mid rest u w h = in_seen ts u rest (rw w h)
commas_seen (x ∷ xs) ts mid rest u w h =
    let later = commas_seen xs w.0 mid rest u w.2 h in
    comma_seen ts w.1.0.0 w.1.1.0 w.1.1.1 (param_seen w.1.1.0 w.1.0.1 w.0 w.1.1.2 later)

params_seen : (total : ℕ) (R : Inner) (ts : List Token) (x : List ClosureParam) (rest : List Token) → Params total R ts x rest → params_ahead ts ≡ true
unfolding Params Listed Made Both params_ahead
params_seen total R ts x rest w =
    let names = w.1.1 in
    let pair = names.1 in
    param_seen ts names.0.0 pair.0 pair.1 (commas_seen names.0.1 pair.0 w.1.0 rest w.0.1 pair.2 w.1.2)

stmts_no_params : (ts : List Token) → begins_stmts ts ≡ true → params_ahead ts ≡ false
unfolding begins_stmts
stmts_no_params ts e = not_true _ (and_second _ _ e)

pub brace_closes : Implies (starts (a_sign (codes "}"))) closes
unfolding closes
brace_closes ts e = or_left _ _ e

-- an operand of one token before what ends an expression is an expression, and the only one there
abbrev pub Alone : Inner → Type 0
Alone Q = (tails : Bool) (links : ℕ) (t : Token) (us rest : List Token) (f : ExprForm) (x : Expr × ℕ) → literal t.kind ≡ Some f → ends_expr tails us ≡ true → Q.Expr' tails links (t ∷ us) x rest → ends_expr tails rest ≡ true → rest ≡ us

name_literal : (t : Token) (w : List ℕ) → t.kind ≡ kind.Name w → (f : ExprForm) × (literal t.kind ≡ Some f)
name_literal t w e = (form.Name w, rw e refl)

module _ (total : ℕ) {n : ℕ} {i : p.Inner} {R Q : Inner}
    (he : (tails : Bool) (links : ℕ) → Exact 1 n (i.expr' tails links) (R.Expr' tails links) (Q.Expr' tails links) begins_expr (ends_expr tails))
    (hs : Exact 0 n i.stmts' R.Stmts' Q.Stmts' begins_stmts closes) where
  pub inside_exact : (tails : Bool) → Exact 1 n (inside total i tails) (Inside total R tails) (Inside total Q tails) begins_expr (ends_expr tails)
  unfolding inside Inside
  inside_exact tails = made_exact _ (he tails max_links)

  -- ---- strings

  hole_exact : (tails : Bool) → Exact 1 (suc n) (hole total i tails) (Hole total R tails) (Hole total Q tails) (starts hole_open) anything
  unfolding hole Hole
  hole_exact tails = made_exact _ (after_exact (one_exact (suc n) hole_open) (both_exact (inside_exact tails) (one_exact n (a_sign (codes ")"))) (rparen_ends tails)) (λ ts e. refl))

  piece_exact : (tails : Bool) → Exact 1 (suc n) (string_piece total i tails) (StringPiece total R tails) (StringPiece total Q tails) string_goes_on anything
  unfolding string_piece StringPiece string_goes_on
  piece_exact tails = choose_exact (made_exact _ (one_exact (suc n) a_text)) (hole_exact tails) (λ ts e. e) hole_no_text

  pub string_exact : (tails : Bool) → Exact 1 (suc n) (string_of total i tails) (StringOf total R tails) (StringOf total Q tails) (starts string_open) anything
  unfolding string_of StringOf
  string_exact tails =
      made_exact _ (fewer (omega arith) (both_exact (one_exact (suc n) string_open)
      (both_exact (all_exact {k = 0} (record { exact = piece_exact tails; begin = λ ts e. e; next = λ ts e. refl; last = λ ts e. refl; stop = close_no_piece })) (one_exact (suc n) string_close) (λ ts e. e))
      (λ ts e. refl)))

  -- ---- operands

  implicit_exact : Exact 1 (suc n) (implicit_of total i) (ImplicitOf total R) (ImplicitOf total Q) (starts (a_sign (codes "."))) anything
  unfolding implicit_of ImplicitOf
  implicit_exact = made_exact _ (fewer (omega arith) (both_exact (one_exact (suc n) (a_sign (codes "."))) (one_exact (suc n) a_name) (λ ts e. refl)))

  list_exact : (tails : Bool) → Exact 1 (suc n) (list_of total i tails) (ListOf total R tails) (ListOf total Q tails) (starts (a_sign (codes "["))) anything
  unfolding list_of ListOf
  list_exact tails =
      made_exact _ (after_exact (one_exact (suc n) (a_sign (codes "[")))
      (both_exact (perhaps_exact (listed_exact (a_sign (codes ",")) (inside_exact tails) (comma_ends tails) (rbracket_ends tails) (sign_no_sign (codes "]") (codes ",") refl))
      (record { begin = λ ts e. e; last = λ ts e. e; stop = rbracket_no_expr })) (one_exact n (a_sign (codes "]"))) (λ ts e. e))
      (λ ts e. refl))

  paren_exact : (tails : Bool) → Exact 1 (suc n) (paren total i tails) (Paren total R tails) (Paren total Q tails) (starts (a_sign (codes "("))) anything
  unfolding paren Paren
  paren_exact tails = made_exact _ (after_exact (one_exact (suc n) (a_sign (codes "("))) (both_exact (inside_exact tails) (one_exact n (a_sign (codes ")"))) (rparen_ends tails)) (λ ts e. refl))

  form_exact : (tails : Bool) → Exact 1 (suc n) (prim_form total i tails) (PrimForm total R tails) (PrimForm total Q tails) begins_form anything
  unfolding prim_form PrimForm begins_form
  form_exact tails =
      choose_exact (one_exact (suc n) a_literal)
      (choose_exact (made_exact _ (string_exact tails))
      (choose_exact implicit_exact (list_exact tails) (λ ts e. e) (sign_no_sign (codes "[") (codes ".") refl))
      (λ ts e. e) (λ ts e. or_cases _ _ e (sign_no_open (codes ".") ts) (sign_no_open (codes "[") ts)))
      (λ ts e. e) (λ ts e. or_cases _ _ e (open_no_literal ts) (λ c. or_cases _ _ c (sign_no_literal (codes ".") ts) (sign_no_literal (codes "[") ts)))

  prim_exact : (tails : Bool) → Exact 1 (suc n) (prim total i tails) (Prim total R tails) (Prim total Q tails) begins_prim anything
  unfolding prim Prim begins_prim
  prim_exact tails = choose_exact (paren_exact tails) (spanned_exact total node (form_exact tails)) (λ ts e. e) form_no_paren

  -- ---- closures

  plain_params : Exact 1 n (params total i) (Params total R) (Params total Q) (starts a_param) anything
  unfolding params Params
  plain_params = made_exact _ (fewer (omega arith) (both_exact (listed_exact (a_sign (codes ",")) (one_exact n a_param) (λ ts e. refl) (λ ts e. refl) in_no_comma) (one_exact n (a_word (codes "in"))) (λ ts e. e)))

  params_exact : Exact 1 n (params total i) (Params total R) (Params total Q) params_ahead anything
  params_exact = stronger params_ahead plain_params (λ ts x rest w e. params_seen total Q ts x rest w)

  closure_in_exact : Exact 0 n (closure_in total i) (ClosureIn total R) (ClosureIn total Q) (λ ts. params_ahead ts || begins_stmts ts) (starts (a_sign (codes "}")))
  unfolding closure_in ClosureIn
  closure_in_exact = made_exact _ (both_exact (perhaps_exact params_exact (record { begin = λ ts e. e; last = λ ts e. refl; stop = stmts_no_params })) (weaker begins_stmts (starts (a_sign (codes "}"))) hs (λ ts e. e) brace_closes) (λ ts e. e))

  pub closure_exact : Exact 1 (suc n) (closure_of total i) (ClosureOf total R) (ClosureOf total Q) (starts (a_sign (codes "{"))) anything
  unfolding closure_of ClosureOf
  closure_exact = made_exact _ (after_exact (one_exact (suc n) (a_sign (codes "{"))) (both_exact closure_in_exact (one_exact n (a_sign (codes "}"))) (λ ts e. e)) (λ ts e. refl))

  first_closure_exact : (tails : Bool) → Exact 1 (suc n) (first_closure total i tails) (FirstClosure total R tails) (FirstClosure total Q tails) (starts (tail_open tails)) anything
  unfolding first_closure FirstClosure
  first_closure_exact tails = made_exact _ (after_exact (one_exact (suc n) (tail_open tails)) (both_exact closure_in_exact (one_exact n (a_sign (codes "}"))) (λ ts e. e)) (λ ts e. refl))

  label_seen : (ts : List Token) (x : List ℕ) (rest : List Token) → Label total Q ts x rest → label_ahead ts ≡ true
  unfolding Label Made Both One label_ahead starts
  label_seen ts x rest w = let a = w.1.1 in let b = w.1.2 in rw (a.1, b.1, a.2, b.2) refl

  plain_label : (m : ℕ) → Exact 1 m (label_of total i) (Label total R) (Label total Q) (starts a_name) anything
  unfolding label_of Label
  plain_label m = made_exact _ (fewer (omega arith) (both_exact (one_exact m a_name) (one_exact m (a_sign (codes ":"))) (λ ts e. refl)))

  label_exact : (m : ℕ) → Exact 1 m (label_of total i) (Label total R) (Label total Q) label_ahead anything
  label_exact m = stronger label_ahead (plain_label m) (λ ts x rest w e. label_seen ts x rest w)

  labelled_exact : Exact 1 (suc n) (labelled_of total i) (LabelledOf total R) (LabelledOf total Q) label_ahead anything
  unfolding labelled_of LabelledOf
  labelled_exact = made_exact _ (fewer (omega arith) (both_exact (label_exact (suc n)) closure_exact (λ ts e. refl)))

  tail_exact : (tails : Bool) → Exact 1 (suc n) (tail_of total i tails) (TailOf total R tails) (TailOf total Q tails) (starts (tail_open tails)) ends_tail
  unfolding tail_of TailOf
  tail_exact tails = made_exact _ (both_exact (first_closure_exact tails) (all_exact {k = 0} (record { exact = labelled_exact; begin = λ ts e. e; next = λ ts e. refl; last = λ ts e. refl; stop = tail_no_label })) (λ ts e. refl))

  -- ---- arguments

  key_exact : (m : ℕ) → Exact 1 m (key_of total i) (KeyOf total R) (KeyOf total Q) (starts (a_sign (codes "\\"))) anything
  unfolding key_of KeyOf
  key_exact m = made_exact _ (fewer (omega arith) (both_exact (one_exact m (a_sign (codes "\\"))) (both_exact (one_exact m (a_sign (codes "."))) (one_exact m a_selector) (λ ts e. refl)) (λ ts e. refl)))

  plain_value : (tails : Bool) → Exact 1 n (value_of total i tails) (ValueOf total R tails) (ValueOf total Q tails) begins_arg ends_arg
  unfolding value_of ValueOf begins_arg
  plain_value tails =
      choose_exact (until ends_arg (key_exact n))
      (choose_exact (made_exact _ (until ends_arg (lower closure_exact))) (made_exact _ (weaker _ ends_arg (inside_exact tails) (λ ts e. e) (arg_ends_expr tails))) (λ ts e. e) brace_no_expr)
      (λ ts e. e) value_no_key

  module _ (alone : Alone Q) where
    value_unlabelled : (tails : Bool) (ts : List Token) (x : ArgValue) (rest : List Token) → ValueOf total Q tails ts x rest → ends_arg rest ≡ true → (b : Bool) → label_ahead ts ≡ b → (begins_arg ts && not b) ≡ true
    unfolding ValueOf Inside Either Made
    value_unlabelled tails ts x rest w e false l = and_both _ _ ((plain_value tails).begins ts x rest w e) refl
    value_unlabelled tails ts x rest w e true l =
        let s = sees_label ts l in
        elim w [
          | inl k ↦ absurd (no_true (sym (label_no_sign (codes "\\") ts l) ∙ (key_exact n).begins ts x rest k refl))
          | inr v ↦ elim v [
            | inl c ↦ absurd (no_true (sym (label_no_sign (codes "{") ts l) ∙ closure_exact.begins ts c.0 rest c.1 refl))
            | inr c ↦
                let q = subst (λ us. Q.Expr' tails max_links us c.1.0 rest) s.is c.1.1 in
                let f = name_literal s.token s.name s.name_is in
                let r = alone tails max_links s.token (s.colon ∷ s.rest) rest f.0 c.1.0 f.1 (colon_ends_expr tails s.colon s.rest s.colon_is) q (arg_ends_expr tails rest e) in
                absurd (no_true (sym (colon_no_arg_end s.colon s.rest s.colon_is) ∙ subst (λ us. ends_arg us ≡ true) r e))
          ]
        ]

    value_exact : (tails : Bool) → Exact 1 n (value_of total i tails) (ValueOf total R tails) (ValueOf total Q tails) (λ ts. begins_arg ts && not (label_ahead ts)) ends_arg
    value_exact tails = stronger (λ ts. begins_arg ts && not (label_ahead ts)) (plain_value tails) (λ ts x rest w e. value_unlabelled tails ts x rest w e (label_ahead ts) refl)

    arg_exact : (tails : Bool) → Exact 1 n (arg_of total i tails) (ArgOf total R tails) (ArgOf total Q tails) begins_arg ends_arg
    unfolding arg_of ArgOf
    arg_exact tails =
        made_exact _ (weaker begins_arg ends_arg
        (both_exact (perhaps_exact (label_exact n) (record { begin = λ ts e. e; last = λ ts e. refl; stop = λ ts e. not_true _ (and_second _ _ e) })) (value_exact tails) (λ ts e. e))
        (λ ts e. or_cases _ _ e (label_begins_arg ts) (λ v. and_first _ _ v)) (λ ts e. e))

    args_exact : (tails : Bool) → Exact 1 (suc n) (args total i tails) (Args total R tails) (Args total Q tails) (starts (on_line (codes "("))) anything
    unfolding args Args
    args_exact tails =
        made_exact _ (after_exact (one_exact (suc n) (on_line (codes "(")))
        (both_exact (perhaps_exact (listed_exact (a_sign (codes ",")) (arg_exact tails) comma_ends_arg rparen_ends_arg (sign_no_sign (codes ")") (codes ",") refl))
        (record { begin = λ ts e. e; last = λ ts e. e; stop = rparen_no_arg })) (one_exact n (a_sign (codes ")"))) (λ ts e. e))
        (λ ts e. refl))

    -- ---- postfix parts

    call_exact : (tails : Bool) → Exact 1 (suc n) (call total i tails) (Call total R tails) (Call total Q tails) (starts (on_line (codes "("))) ends_tail
    unfolding call Call
    call_exact tails = made_exact _ (both_exact (args_exact tails) (greedy_exact (starts (tail_open tails)) (tail_exact tails)) (λ ts e. refl))

    member_exact : Exact 1 (suc n) (member_of total i) (MemberOf total R) (MemberOf total Q) (starts (a_sign (codes "."))) anything
    unfolding member_of MemberOf
    member_exact = made_exact _ (fewer (omega arith) (both_exact (one_exact (suc n) (a_sign (codes "."))) (one_exact (suc n) a_selector) (λ ts e. refl)))

    index_exact : (tails : Bool) → Exact 1 (suc n) (index_of total i tails) (IndexOf total R tails) (IndexOf total Q tails) (starts (on_line (codes "["))) anything
    unfolding index_of IndexOf
    index_exact tails = made_exact _ (after_exact (one_exact (suc n) (on_line (codes "["))) (both_exact (inside_exact tails) (one_exact n (a_sign (codes "]"))) (rbracket_ends tails)) (λ ts e. refl))

    part_exact : (tails : Bool) → Exact 1 (suc n) (part_of total i tails) (PartOf total R tails) (PartOf total Q tails) (goes_on tails) ends_tail
    unfolding part_of PartOf goes_on
    part_exact tails =
        choose_exact (until ends_tail (one_exact (suc n) a_force))
        (choose_exact (until ends_tail member_exact)
        (choose_exact (until ends_tail (index_exact tails))
        (choose_exact (call_exact tails) (made_exact _ (tail_exact tails)) (λ ts e. e) (λ ts e. (tail_no_other tails ts e).3))
        (λ ts e. e) (λ ts e. or_cases _ _ e (λ c. (call_no_other ts c).2) (λ c. (tail_no_other tails ts c).2)))
        (λ ts e. e) (λ ts e. or_cases _ _ e (λ c. (index_no_other ts c).1) (λ c. or_cases _ _ c (λ d. (call_no_other ts d).1) (λ d. (tail_no_other tails ts d).1))))
        (λ ts e. e) (λ ts e. or_cases _ _ e (dot_no_force ts) (λ c. or_cases _ _ c (λ d. (index_no_other ts d).0) (λ d. or_cases _ _ d (λ f. (call_no_other ts f).0) (λ f. (tail_no_other tails ts f).0))))

    -- ---- operators

    post_exact : (tails : Bool) → Exact 1 (suc n) (post total i tails) (Post total R tails) (Post total Q tails) begins_prim (ends_post tails)
    unfolding post Post
    post_exact tails = spanned_exact total _ (both_exact (prim_exact tails) (upto_exact max_links (record { exact = part_exact tails; begin = λ ts e. e; next = part_ends_tail tails; last = post_ends_tail tails; stop = post_stops tails })) (λ ts e. refl))

    unary_exact : (tails : Bool) → Exact 1 (suc n) (unary total i tails) (Unary total R tails) (Unary total Q tails) begins_expr (ends_post tails)
    unfolding unary Unary begins_expr
    unary_exact tails = spanned_exact total _ (both_exact (upto_exact max_links (record { exact = one_exact (suc n) a_prefix; begin = λ ts e. e; next = λ ts e. refl; last = λ ts e. refl; stop = prim_no_prefix })) (post_exact tails) (λ ts e. e))

    level_exact : (tails : Bool) (k : ℕ) → Exact 1 (suc n) (level total i tails k) (Level total R tails k) (Level total Q tails k) begins_expr (ends_level tails k)
    unfolding level Level ends_level
    level_exact tails zero = unary_exact tails
    level_exact tails (suc k) =
        let operand = level_exact tails k in
        spanned_exact total _ (both_exact operand
        (upto_exact (limit (suc k)) (record { exact = made_exact _ (fewer {l = 1} (omega arith) (both_exact (one_exact (suc n) (an_op (suc k))) operand (λ ts e. refl))); begin = λ ts e. e; next = op_ends_level tails k; last = level_ends tails k; stop = level_stops tails k }))
        (λ ts e. or_cases _ _ e (op_ends_level tails k ts) (level_ends tails k ts)))

    branches_exact : (tails : Bool) (links : ℕ) → Exact 1 (suc n) (branches total i tails links) (Branches total R tails links) (Branches total Q tails links) (starts (a_sign (codes "?"))) (ends_expr tails)
    unfolding branches Branches
    branches_exact tails zero = record { sound = λ ts x rest e. absurd cc; complete = λ ts x rest le d e. absurd d; takes = λ ts x rest d. absurd d; begins = λ ts x rest d e. absurd d }
    branches_exact tails (suc links) =
        made_exact _ (after_exact (one_exact (suc n) (a_sign (codes "?")))
        (then_exact (he tails links) (λ m. both_exact (one_exact n (a_sign (codes ":"))) (he tails m.1) (λ ts e. refl)) (colon_ends tails)) (λ ts e. refl))

    pub expr_exact : (tails : Bool) (links : ℕ) → Exact 1 (suc n) (expr_of total i tails links) (ExprOf total R tails links) (ExprOf total Q tails links) begins_expr (ends_expr tails)
    unfolding expr_of ExprOf
    expr_exact tails links = spanned_exact total _ (both_exact (level_exact tails top_level) (perhaps_exact (branches_exact tails links) (record { begin = λ ts e. e; last = λ ts e. e; stop = no_question tails })) (λ ts e. or_cases _ _ e (question_ends tails ts) (expr_ends_level tails ts)))

-- ---- an operand of one token alone

spelled_level : (total : ℕ) (Q : Inner) (tails : Bool) (k : ℕ) (t : Token) (us : List Token) (f : ExprForm) → literal t.kind ≡ Some f → Level total Q tails k (t ∷ us) (node (span_of total (t ∷ us) us) f) us
unfolding Level Unary Post Prim PrimForm Made Spanned Both UpTo Many Either One
spelled_level total Q tails zero t us f e =
    let x = node (span_of total (t ∷ us) us) f in
    (([], x), (t ∷ us, (refl, omega arith), ((x, []), (us, inr (f, inl (t, refl, e), refl), (refl, omega arith)), refl)), refl)
spelled_level total Q tails (suc k) t us f e = ((node (span_of total (t ∷ us) us) f, []), (us, spelled_level total Q tails k t us f e, (refl, omega arith)), refl)

spelled_alone : (total : ℕ) (Q : Inner) (tails : Bool) (links : ℕ) (t : Token) (us : List Token) (f : ExprForm) → literal t.kind ≡ Some f → ExprOf total Q tails links (t ∷ us) (node (span_of total (t ∷ us) us) f, links) us
unfolding ExprOf Spanned Both Perhaps
spelled_alone total Q tails links t us f e = ((node (span_of total (t ∷ us) us) f, None), (us, spelled_level total Q tails top_level t us f e, refl), refl)

-- where the parser reads the language, an expression that begins with such a token is that token, if what follows it ends an expression
pub alone_is : (total : ℕ) (Q : Inner) (tails : Bool) (links : ℕ) (q : Parser (Expr × ℕ)) (n : ℕ) (R : Language (Expr × ℕ)) (first : List Token → Bool) → Exact 1 n q R (ExprOf total Q tails links) first (ends_expr tails)
    → (t : Token) (us rest : List Token) (f : ExprForm) (x : Expr × ℕ) → length (t ∷ us) ≤ n → literal t.kind ≡ Some f → ends_expr tails us ≡ true → ExprOf total Q tails links (t ∷ us) x rest → ends_expr tails rest ≡ true → rest ≡ us
alone_is total Q tails links q n R first h t us rest f x le k e d g =
    let a = h.complete (t ∷ us) x rest le d g in
    let b = h.complete (t ∷ us) (node (span_of total (t ∷ us) us) f, links) us le (spelled_alone total Q tails links t us f k) e in
    (got_is x (node (span_of total (t ∷ us) us) f, links) rest us (sym a ∙ b)).1
