-- Each line of the grammar of statements is read by its parser.
use Rattle.std.proofs.Common.{◌≡◌, ℕ, zero, suc, ◌+◌, ◌≤◌, Bool, true, false, not, ◌||◌, ◌&&◌, List, [], ◌∷◌, length, refl, sym, ◌∙◌, codes, arith, subst, ap, inl, inr, ◌⊎◌}
use Rattle.std.specs.Prelude.{Option, Some, None}
use Rattle.swift_lex.specs.declared.token.Token.{Token}
use Rattle.swift_lex.specs.declared.token.TokenKind.TheVariants as kind
use Rattle.swift_ast.specs.declared.tree.ExprForm.{ExprForm}
use Rattle.swift_ast.specs.declared.tree.AssignSign.{AssignSign}
use Rattle.swift_ast.specs.declared.tree.Expr.{Expr}
use Rattle.swift_ast.specs.declared.tree.Stmt.{Stmt}
use Rattle.swift_ast.specs.declared.tree.StmtForm.{StmtForm}
use Rattle.parse_base.specs.Parser.{Parser, Terminal, starts, take_one, made, both, choose, many, perhaps, all, listed, only_where}
use Rattle.parse_base.specs.Language.{Language, nothing, One, Made, Both, Spanned, Either, Many, UpTo, Perhaps, Greedy, Listed, Where}
use Rattle.parse_base.specs.Terminals.{a_sign, a_word, a_name, label_ahead}
use Rattle.parse_base.proofs.Laws.{got_is, or_cases, or_left, or_right, Exact, Implies, anything, one_exact, both_exact, fewer, weaker, until, stronger, after_exact, made_exact, spanned_exact, such_exact, choose_sound, choose_exact, upto_exact, all_exact, Repeats, perhaps_exact, greedy_exact, where_exact, Announced, listed_exact, lower}
use Rattle.parse_base.proofs.Seen.{SeesLabel, sees_label, and_first, and_second, and_both, not_true, no_true}
use Rattle.parse_terms.specs.Words.{max_links, literal, an_assign, a_binder, a_jump}
use Rattle.parse_terms.specs.Trees.{stmt_node, stmts_by}
use Rattle.parse_terms.proofs.TypeLaws.{type_exact}
use Rattle.parse_terms.proofs.PatternLaws.{pattern_exact}
use Rattle.parse_terms.specs.Types.{ends_type}
use Rattle.parse_expr.specs.Tests.{ends_expr, begins_expr, can_begin, few_elses, params_ahead, on_new_line, begins_stmt, stmt_next, next_stmt, begins_case, closes, else_if, else_brace, ends_condition, ends_stmt, close_next, last_semi, begins_stmts}
use Rattle.parse_expr.specs.Grammar.{Inner, Inside, ExprOf, Block, Declared, LocalOf, ReturnOf, LetOf, ConditionOf, Conditions, ArmOf, ElseIf, ElseOf, Elses, IfOf, CaseLabel, CaseOf, SwitchOf, ForOf, WhileOf, ExprStmt, StmtForms, StmtOf, NextOf, StmtsOf}
use Rattle.parse_expr.specs.Parse as p
use Rattle.parse_expr.specs.Parse.{inside, expr_of, block, declared_of, local_of, return_of, let_of, condition_of, conditions, arm_of, else_if_of, else_of, elses, if_of, case_label, case_of, switch_of, for_of, while_of, expr_stmt_of, stmt_form, stmt_of, next_of, stmts_of}
use Rattle.parse_expr.proofs.Firsts.{brace_ends_head, sign_no_sign}
use Rattle.parse_expr.proofs.Rules.{Alone, brace_closes, inside_exact, expr_exact}
use Rattle.parse_expr.proofs.StmtFirsts.{assign_ends, stmt_ends_expr, stmt_no_else, stmt_no_assign, stmt_no_colon, else_ends_if, brace_no_if, closes_ends_stmt, semi_ends_stmt, while_rest, for_rest, switch_rest, if_rest, jump_rest, return_rest, local_rest, comma_ends_condition, brace_ends_condition, condition_ends_expr, condition_no_set, expr_no_let, default_no_case, case_closes, brace_no_case, fresh_stmt, next_first, next_ends_stmt, next_is_next, closes_no_stmt, closes_no_next, closes_no_semi, last_no_next, last_is_semi, new_no_semi, IsParam, param_form, param_no_word, param_no_binder, param_no_jump, param_no_close, SeesParams, sees_params, IsOther, other_ends, other_no_assign, other_no_close, other_no_first, other_no_last, set_ends_type, set_no_colon, colon_no_comma, name_is_param, colon_no_stmt_end}

-- ---- a token and what stands behind it

else_then_if : (ts mid : List Token) (u : Unit {0}) → One (a_word (codes "else")) ts u mid → starts (a_word (codes "if")) mid ≡ true → else_if ts ≡ true
unfolding One else_if starts
else_then_if ts mid u w e = rw (w.1, w.2, e) refl

else_then_brace : (ts mid : List Token) (u : Unit {0}) → One (a_word (codes "else")) ts u mid → starts (a_sign (codes "{")) mid ≡ true → else_brace ts ≡ true
unfolding One else_brace starts
else_then_brace ts mid u w e = rw (w.1, w.2, e) refl

semi_then : (ts mid : List Token) (u : Unit {0}) → One (a_sign (codes ";")) ts u mid → begins_stmt mid ≡ true → next_stmt ts ≡ true
unfolding One next_stmt starts
semi_then ts mid u w e = rw (w.1, w.2, e) refl

semi_last : (ts mid : List Token) (u : Unit {0}) → One (a_sign (codes ";")) ts u mid → closes mid ≡ true → last_semi ts ≡ true
unfolding One last_semi starts
semi_last ts mid u w e = rw (w.1, w.2, e) refl

line_then : (ts mid : List Token) (u : Unit {0}) → Where on_new_line ts u mid → fresh_stmt mid ≡ true → (on_new_line ts && fresh_stmt ts) ≡ true
unfolding Where
line_then ts mid u w e = and_both _ _ w.1 (rw w.0 e)

module _ (total : ℕ) {n : ℕ} {i : p.Inner} {R Q : Inner}
    (he : (tails : Bool) (links : ℕ) → Exact 1 n (i.expr' tails links) (R.Expr' tails links) (Q.Expr' tails links) begins_expr (ends_expr tails))
    (hs : Exact 0 n i.stmts' R.Stmts' Q.Stmts' begins_stmts closes) (alone : Alone Q) where
  ins : (tails : Bool) → Exact 1 n (inside total i tails) (Inside total R tails) (Inside total Q tails) begins_expr (ends_expr tails)
  ins tails = inside_exact total he hs tails

  block_exact : Exact 1 (suc n) (block total i) (Block total R) (Block total Q) (starts (a_sign (codes "{"))) anything
  unfolding block Block
  block_exact = made_exact _ (after_exact (one_exact (suc n) (a_sign (codes "{"))) (both_exact hs (one_exact n (a_sign (codes "}"))) brace_closes) (λ ts e. refl))

  -- ---- simple statements

  declared_exact : Exact 1 n (declared_of total i) (Declared total R) (Declared total Q) (starts (a_sign (codes ":"))) ends_type
  unfolding declared_of Declared
  declared_exact = made_exact _ (fewer (omega arith) (both_exact (one_exact n (a_sign (codes ":"))) (type_exact n) (λ ts e. refl)))

  local_exact : Exact 1 (suc n) (local_of total i) (LocalOf total R) (LocalOf total Q) (starts a_binder) ends_stmt
  unfolding local_of LocalOf
  local_exact =
      made_exact _ (after_exact (one_exact (suc n) a_binder)
      (both_exact (one_exact n a_name)
      (both_exact (perhaps_exact declared_exact (record { begin = λ ts e. e; last = set_ends_type; stop = set_no_colon }))
      (both_exact (one_exact n (a_sign (codes "="))) (weaker begins_expr ends_stmt (ins true) (λ ts e. e) stmt_ends_expr) (λ ts e. refl)) (λ ts e. e))
      (λ ts e. refl))
      (λ ts e. refl))

  return_exact : Exact 1 (suc n) (return_of total i) (ReturnOf total R) (ReturnOf total Q) (starts (a_word (codes "return"))) ends_stmt
  unfolding return_of ReturnOf
  return_exact = made_exact _ (after_exact (one_exact (suc n) (a_word (codes "return"))) (greedy_exact can_begin (weaker begins_expr ends_stmt (ins true) (λ ts e. e) stmt_ends_expr)) (λ ts e. refl))

  -- ---- conditions

  set_exact : Exact 1 n (made (λ x. x.1) (both (take_one (a_sign (codes "="))) (inside total i false))) (Made (λ x. x.1) (Both (One (a_sign (codes "="))) (Inside total R false))) (Made (λ x. x.1) (Both (One (a_sign (codes "="))) (Inside total Q false))) (starts (a_sign (codes "="))) (ends_expr false)
  set_exact = made_exact _ (fewer (omega arith) (both_exact (one_exact n (a_sign (codes "="))) (ins false) (λ ts e. refl)))

  let_exact : Exact 1 n (let_of total i) (LetOf total R) (LetOf total Q) (starts (a_word (codes "let"))) ends_condition
  unfolding let_of LetOf
  let_exact =
      made_exact _ (fewer (omega arith) (both_exact (one_exact n (a_word (codes "let")))
      (both_exact (one_exact n a_name) (perhaps_exact set_exact (record { begin = λ ts e. e; last = condition_ends_expr; stop = condition_no_set })) (λ ts e. refl))
      (λ ts e. refl)))

  condition_exact : Exact 1 n (condition_of total i) (ConditionOf total R) (ConditionOf total Q) (λ ts. starts (a_word (codes "let")) ts || begins_expr ts) ends_condition
  unfolding condition_of ConditionOf
  condition_exact = choose_exact let_exact (made_exact _ (weaker begins_expr ends_condition (ins false) (λ ts e. e) condition_ends_expr)) (λ ts e. e) expr_no_let

  conditions_exact : Exact 1 n (conditions total i) (Conditions total R) (Conditions total Q) (λ ts. starts (a_word (codes "let")) ts || begins_expr ts) (starts (a_sign (codes "{")))
  unfolding conditions Conditions
  conditions_exact = listed_exact (a_sign (codes ",")) condition_exact comma_ends_condition brace_ends_condition (sign_no_sign (codes "{") (codes ",") refl)

  -- ---- if

  arm_exact : Exact 1 (suc n) (arm_of total i) (ArmOf total R) (ArmOf total Q) (starts (a_word (codes "if"))) anything
  unfolding arm_of ArmOf
  arm_exact = made_exact _ (after_exact (one_exact (suc n) (a_word (codes "if"))) (both_exact conditions_exact (lower block_exact) (λ ts e. e)) (λ ts e. refl))

  else_if_seen : (ts : List Token) (x : _) (rest : List Token) → ElseIf total Q ts x rest → else_if ts ≡ true
  unfolding ElseIf Made Both
  else_if_seen ts x rest w = else_then_if ts w.1.0 w.0.0 w.1.1 (arm_exact.begins w.1.0 w.0.1 rest w.1.2 refl)

  else_if_exact : Exact 1 (suc n) (else_if_of total i) (ElseIf total R) (ElseIf total Q) else_if anything
  unfolding else_if_of ElseIf
  else_if_exact = stronger else_if (made_exact _ (fewer (omega arith) (both_exact (one_exact (suc n) (a_word (codes "else"))) arm_exact (λ ts e. refl)))) (λ ts x rest w e. else_if_seen ts x rest w)

  else_seen : (ts : List Token) (x : List Stmt) (rest : List Token) → ElseOf total Q ts x rest → else_brace ts ≡ true
  unfolding ElseOf Made Both
  else_seen ts x rest w = else_then_brace ts w.1.0 w.0.0 w.1.1 (block_exact.begins w.1.0 w.0.1 rest w.1.2 refl)

  else_exact : Exact 1 (suc n) (else_of total i) (ElseOf total R) (ElseOf total Q) else_brace anything
  unfolding else_of ElseOf
  else_exact = stronger else_brace (made_exact _ (fewer (omega arith) (both_exact (one_exact (suc n) (a_word (codes "else"))) block_exact (λ ts e. refl)))) (λ ts x rest w e. else_seen ts x rest w)

  brace_is_else : Implies else_brace (starts (a_word (codes "else")))
  unfolding else_brace
  brace_is_else ts e = and_first _ _ e

  elses_exact : Exact 0 (suc n) (elses total i) (Elses total R) (Elses total Q) anything ends_stmt
  unfolding elses Elses
  elses_exact =
      weaker anything ends_stmt (such_exact few_elses (both_exact
      (upto_exact max_links (record { exact = else_if_exact; begin = λ ts e. e; next = λ ts e. refl; last = λ ts e. refl; stop = λ ts e. or_cases _ _ e (brace_no_if ts) (else_ends_if ts) }))
      (perhaps_exact else_exact (record { begin = brace_is_else; last = λ ts e. refl; stop = stmt_no_else })) (λ ts e. e))) (λ ts e. refl) (λ ts e. e)

  if_exact : Exact 1 (suc n) (if_of total i) (IfOf total R) (IfOf total Q) (starts (a_word (codes "if"))) ends_stmt
  unfolding if_of IfOf
  if_exact = made_exact _ (both_exact arm_exact elses_exact (λ ts e. refl))

  -- ---- switch

  label_exact : (m : ℕ) → Exact 1 m (case_label total i) (CaseLabel total R) (CaseLabel total Q) begins_case (starts (a_sign (codes ":")))
  unfolding case_label CaseLabel begins_case
  label_exact m =
      choose_exact
      (made_exact _ (fewer (omega arith) (both_exact (one_exact m (a_word (codes "case"))) (listed_exact (a_sign (codes ",")) (pattern_exact m) (λ ts e. refl) (λ ts e. refl) colon_no_comma) (λ ts e. refl))))
      (made_exact _ (until (starts (a_sign (codes ":"))) (one_exact m (a_word (codes "default"))))) (λ ts e. e) default_no_case

  case_exact : Exact 1 (suc n) (case_of total i) (CaseOf total R) (CaseOf total Q) begins_case closes
  unfolding case_of CaseOf
  case_exact = made_exact _ (after_exact (label_exact (suc n)) (both_exact (one_exact n (a_sign (codes ":"))) hs (λ ts e. refl)) (λ ts e. e))

  switch_exact : Exact 1 (suc n) (switch_of total i) (SwitchOf total R) (SwitchOf total Q) (starts (a_word (codes "switch"))) anything
  unfolding switch_of SwitchOf
  switch_exact =
      made_exact _ (after_exact (one_exact (suc n) (a_word (codes "switch")))
      (both_exact (ins false)
      (both_exact (one_exact n (a_sign (codes "{")))
      (both_exact (all_exact {k = 0} (record { exact = lower case_exact; begin = λ ts e. e; next = case_closes; last = brace_closes; stop = brace_no_case })) (one_exact n (a_sign (codes "}"))) (λ ts e. e))
      (λ ts e. refl))
      brace_ends_head)
      (λ ts e. refl))

  -- ---- loops

  for_exact : Exact 1 (suc n) (for_of total i) (ForOf total R) (ForOf total Q) (starts (a_word (codes "for"))) anything
  unfolding for_of ForOf
  for_exact =
      made_exact _ (after_exact (one_exact (suc n) (a_word (codes "for")))
      (both_exact (one_exact n a_name) (both_exact (one_exact n (a_word (codes "in"))) (both_exact (ins false) (lower block_exact) brace_ends_head) (λ ts e. refl)) (λ ts e. refl))
      (λ ts e. refl))

  while_exact : Exact 1 (suc n) (while_of total i) (WhileOf total R) (WhileOf total Q) (starts (a_word (codes "while"))) anything
  unfolding while_of WhileOf
  while_exact = made_exact _ (after_exact (one_exact (suc n) (a_word (codes "while"))) (both_exact conditions_exact (lower block_exact) (λ ts e. e)) (λ ts e. refl))

  -- ---- expressions and assignments

  assigned_exact : Exact 1 (suc n) (both (take_one an_assign) (inside total i true)) (Both (One an_assign) (Inside total R true)) (Both (One an_assign) (Inside total Q true)) (starts an_assign) (ends_expr true)
  assigned_exact = after_exact (one_exact (suc n) an_assign) (ins true) (λ ts e. refl)

  expr_stmt_exact : Exact 1 (suc n) (expr_stmt_of total i) (ExprStmt total R) (ExprStmt total Q) begins_expr ends_stmt
  unfolding expr_stmt_of ExprStmt
  expr_stmt_exact =
      made_exact _ (both_exact (expr_exact total he hs alone true max_links) (perhaps_exact assigned_exact (record { begin = λ ts e. e; last = stmt_ends_expr; stop = stmt_no_assign }))
      (λ ts e. or_cases _ _ e (assign_ends ts) (stmt_ends_expr ts)))

  -- ---- any statement

  form_exact : Exact 1 (suc n) (stmt_form total i) (StmtForms total R) (StmtForms total Q) begins_stmt ends_stmt
  unfolding stmt_form StmtForms begins_stmt
  form_exact =
      choose_exact local_exact
      (choose_exact return_exact
      (choose_exact (until ends_stmt (one_exact (suc n) a_jump))
      (choose_exact if_exact
      (choose_exact (until ends_stmt switch_exact)
      (choose_exact (until ends_stmt for_exact)
      (choose_exact (until ends_stmt while_exact) expr_stmt_exact (λ ts e. e) while_rest)
      (λ ts e. e) for_rest)
      (λ ts e. e) switch_rest)
      (λ ts e. e) if_rest)
      (λ ts e. e) jump_rest)
      (λ ts e. e) return_rest)
      (λ ts e. e) local_rest

  stmt_exact : Exact 1 (suc n) (stmt_of total i) (StmtOf total R) (StmtOf total Q) begins_stmt ends_stmt
  unfolding stmt_of StmtOf
  stmt_exact = spanned_exact total stmt_node form_exact

  semi_seen : (ts : List Token) (x : Stmt) (rest : List Token) → Made (λ (x : Unit {0} × Stmt). x.1) (Both (One (a_sign (codes ";"))) (StmtOf total Q)) ts x rest → ends_stmt rest ≡ true → (starts (a_sign (codes ";")) ts && next_stmt ts) ≡ true
  unfolding Made Both
  semi_seen ts x rest w e = and_both _ _ ((one_exact 0 (a_sign (codes ";"))).begins ts w.0.0 w.1.0 w.1.1 refl) (semi_then ts w.1.0 w.0.0 w.1.1 (stmt_exact.begins w.1.0 w.0.1 rest w.1.2 e))

  semi_exact : Exact 1 (suc n) (made (λ x. x.1) (both (take_one (a_sign (codes ";"))) (stmt_of total i))) (Made (λ x. x.1) (Both (One (a_sign (codes ";"))) (StmtOf total R))) (Made (λ x. x.1) (Both (One (a_sign (codes ";"))) (StmtOf total Q))) (λ ts. starts (a_sign (codes ";")) ts && next_stmt ts) ends_stmt
  semi_exact = stronger (λ ts. starts (a_sign (codes ";")) ts && next_stmt ts) (made_exact _ (fewer (omega arith) (both_exact (one_exact (suc n) (a_sign (codes ";"))) stmt_exact (λ ts e. refl)))) (λ ts x rest w e. semi_seen ts x rest w e)

  -- ---- soundness needs no more

  weak_line : Exact 1 (suc n) (made (λ x. x.1) (both (only_where on_new_line) (stmt_of total i))) (Made (λ x. x.1) (Both (Where on_new_line) (StmtOf total R))) (Made (λ x. x.1) (Both (Where on_new_line) (StmtOf total Q))) on_new_line ends_stmt
  weak_line = made_exact _ (both_exact (where_exact (suc n) on_new_line) stmt_exact (λ ts e. refl))

  next_sound : (ts : List Token) (x : Stmt) (rest : List Token) → next_of total i ts ≡ Some (x, rest) → NextOf total R ts x rest
  unfolding next_of NextOf choose
  next_sound ts x rest e = choose_sound (starts (a_sign (codes ";"))) _ _ _ _ semi_exact.sound weak_line.sound ts x rest (starts (a_sign (codes ";")) ts) e

  weak_next : Exact 1 (suc n) (next_of total i) (NextOf total R) nothing next_first ends_stmt
  weak_next = record { sound = next_sound; complete = λ ts x rest le d e. absurd d; takes = λ ts x rest d. absurd d; begins = λ ts x rest d e. absurd d }

  last_exact : Exact 1 (suc n) (take_one (a_sign (codes ";"))) (One (a_sign (codes ";"))) (One (a_sign (codes ";"))) last_semi closes
  last_exact = stronger last_semi (until closes (one_exact (suc n) (a_sign (codes ";")))) (λ ts x rest w e. semi_last ts rest x w e)

  weak_others : Exact 0 (suc n) (both (all next_stmt (next_of total i)) (perhaps (starts (a_sign (codes ";"))) (take_one (a_sign (codes ";"))))) (Both (Many (NextOf total R)) (Perhaps (One (a_sign (codes ";"))))) (Both (Many nothing) (Perhaps (One (a_sign (codes ";"))))) (λ ts. next_first ts || (last_semi ts || closes ts)) closes
  weak_others = both_exact
      (all_exact {k = 0} (record { exact = weak_next; begin = next_is_next; next = next_ends_stmt; last = λ ts e. or_cases _ _ e (λ a. semi_ends_stmt ts (last_is_semi ts a)) (closes_ends_stmt ts); stop = λ ts e. or_cases _ _ e (last_no_next ts) (closes_no_next ts) }))
      (perhaps_exact last_exact (record { begin = last_is_semi; last = λ ts e. e; stop = closes_no_semi })) (λ ts e. e)

  others_end : Implies (λ ts. next_first ts || (last_semi ts || closes ts)) ends_stmt
  others_end ts e = or_cases _ _ e (next_ends_stmt ts) (λ a. or_cases _ _ a (λ b. semi_ends_stmt ts (last_is_semi ts b)) (closes_ends_stmt ts))

  weak_stmts : Exact 0 (suc n) (stmts_of total i) (StmtsOf total R) (Made stmts_by (Perhaps (Both (StmtOf total Q) (Both (Many nothing) (Perhaps (One (a_sign (codes ";")))))))) (λ ts. begins_stmt ts || closes ts) closes
  unfolding stmts_of StmtsOf
  weak_stmts = made_exact _ (perhaps_exact (both_exact stmt_exact weak_others others_end) (record { begin = λ ts e. e; last = λ ts e. e; stop = closes_no_stmt }))

  pub stmts_sound : (ts : List Token) (x : List Stmt) (rest : List Token) → stmts_of total i ts ≡ Some (x, rest) → StmtsOf total R ts x rest
  stmts_sound = weak_stmts.sound

  -- where what nests is read, an operand of one token stands alone, so no statement begins as a label or as parameters do
  module _ (whole : (t : Token) (us rest : List Token) (f : ExprForm) (x : Expr × ℕ) → literal t.kind ≡ Some f → ends_expr true us ≡ true → ExprOf total Q true max_links (t ∷ us) x rest → ends_expr true rest ≡ true → rest ≡ us) where
    module _ (t u : Token) (us : List Token) (k : IsParam t) (other : IsOther u) where
      -- what a statement that begins so leaves
      assigned_none : (x : Option (AssignSign × Expr)) (mid rest : List Token) → Perhaps (Both (One an_assign) (Inside total Q true)) mid x rest → ends_stmt rest ≡ true → (ends_expr true mid ≡ true) × ((mid ≡ u ∷ us) → rest ≡ u ∷ us)
      unfolding Perhaps
      assigned_none None mid rest d e = (rw d (stmt_ends_expr rest e), λ m. sym d ∙ m)
      assigned_none (Some x) mid rest d e =
          let b = assigned_exact.begins mid x rest d (stmt_ends_expr rest e) in
          (assign_ends mid b, λ m. absurd (no_true (sym (other_no_assign u us other) ∙ subst (λ vs. starts an_assign vs ≡ true) m b)))

      expr_leaves : (x : StmtForm) (rest : List Token) → ExprStmt total Q (t ∷ u ∷ us) x rest → ends_stmt rest ≡ true → rest ≡ u ∷ us
      unfolding ExprStmt Made Both
      expr_leaves x rest d e =
          let a = assigned_none d.0.1 d.1.0 rest d.1.2 e in
          let f = param_form t k in
          a.1 (whole t (u ∷ us) d.1.0 f.0 d.0.0 f.1 (other_ends u us other) d.1.1 a.0)

      no_word : {A : Type 0} (w : List ℕ) → starts (a_word w) (t ∷ u ∷ us) ≡ true → A
      no_word w e = absurd (no_true (sym (param_no_word w t (u ∷ us) k) ∙ e))

      form_leaves : (x : StmtForm) (rest : List Token) → StmtForms total Q (t ∷ u ∷ us) x rest → ends_stmt rest ≡ true → rest ≡ u ∷ us
      unfolding StmtForms Either
      form_leaves x rest d e =
          elim d [
            | inl a ↦ absurd (no_true (sym (param_no_binder t (u ∷ us) k) ∙ local_exact.begins _ x rest a e))
            | inr d1 ↦
                elim d1 [
                  | inl a ↦ no_word (codes "return") (return_exact.begins _ x rest a e)
                  | inr d2 ↦
                      elim d2 [
                        | inl a ↦ absurd (no_true (sym (param_no_jump t (u ∷ us) k) ∙ (one_exact 0 a_jump).begins _ x rest a refl))
                        | inr d3 ↦
                            elim d3 [
                              | inl a ↦ no_word (codes "if") (if_exact.begins _ x rest a e)
                              | inr d4 ↦
                                  elim d4 [
                                    | inl a ↦ no_word (codes "switch") (switch_exact.begins _ x rest a refl)
                                    | inr d5 ↦
                                        elim d5 [
                                          | inl a ↦ no_word (codes "for") (for_exact.begins _ x rest a refl)
                                          | inr d6 ↦
                                              elim d6 [ inl a ↦ no_word (codes "while") (while_exact.begins _ x rest a refl) | inr f ↦ expr_leaves x rest f e ]
                                        ]
                                  ]
                            ]
                      ]
                ]
          ]

      stmt_leaves : (x : Stmt) (rest : List Token) → StmtOf total Q (t ∷ u ∷ us) x rest → ends_stmt rest ≡ true → rest ≡ u ∷ us
      unfolding StmtOf Spanned
      stmt_leaves x rest d e = form_leaves d.0 rest d.1 e

    fresh_known : (ts : List Token) (x : Stmt) (rest : List Token) → StmtOf total Q ts x rest → ends_stmt rest ≡ true → (b : Bool) → label_ahead ts ≡ b → (begins_stmt ts && not b) ≡ true
    fresh_known ts x rest d e false h = and_both _ _ (stmt_exact.begins ts x rest d e) refl
    fresh_known ts x rest d e true h =
        let s = sees_label ts h in
        let r = stmt_leaves s.token s.colon s.rest (name_is_param s.token s.name s.name_is) (inr (inr s.colon_is)) x rest (subst (λ vs. StmtOf total Q vs x rest) s.is d) e in
        absurd (no_true (sym (colon_no_stmt_end s.colon s.rest s.colon_is) ∙ subst (λ vs. ends_stmt vs ≡ true) r e))

    fresh_exact : Exact 1 (suc n) (stmt_of total i) (StmtOf total R) (StmtOf total Q) fresh_stmt ends_stmt
    unfolding fresh_stmt
    fresh_exact = stronger fresh_stmt stmt_exact (λ ts x rest d e. fresh_known ts x rest d e (label_ahead ts) refl)

    -- ---- statements

    line_seen : (ts : List Token) (x : Stmt) (rest : List Token) → Made (λ (x : Unit {0} × Stmt). x.1) (Both (Where on_new_line) (StmtOf total Q)) ts x rest → ends_stmt rest ≡ true → (on_new_line ts && fresh_stmt ts) ≡ true
    unfolding Made Both
    line_seen ts x rest w e = line_then ts w.1.0 w.0.0 w.1.1 (fresh_exact.begins w.1.0 w.0.1 rest w.1.2 e)

    line_exact : Exact 1 (suc n) (made (λ x. x.1) (both (only_where on_new_line) (stmt_of total i))) (Made (λ x. x.1) (Both (Where on_new_line) (StmtOf total R))) (Made (λ x. x.1) (Both (Where on_new_line) (StmtOf total Q))) (λ ts. on_new_line ts && fresh_stmt ts) ends_stmt
    line_exact = stronger (λ ts. on_new_line ts && fresh_stmt ts) (made_exact _ (both_exact (where_exact (suc n) on_new_line) fresh_exact (λ ts e. refl))) (λ ts x rest w e. line_seen ts x rest w e)

    fresh_no_semi : (ts : List Token) → (on_new_line ts && fresh_stmt ts) ≡ true → starts (a_sign (codes ";")) ts ≡ false
    unfolding fresh_stmt
    fresh_no_semi ts e = new_no_semi ts (and_first _ _ (and_second (on_new_line ts) _ e))

    next_exact : Exact 1 (suc n) (next_of total i) (NextOf total R) (NextOf total Q) next_first ends_stmt
    unfolding next_of NextOf next_first
    next_exact = choose_exact semi_exact line_exact (λ ts e. and_first _ _ e) fresh_no_semi

    others_exact : Exact 0 (suc n) (both (all next_stmt (next_of total i)) (perhaps (starts (a_sign (codes ";"))) (take_one (a_sign (codes ";"))))) (Both (Many (NextOf total R)) (Perhaps (One (a_sign (codes ";"))))) (Both (Many (NextOf total Q)) (Perhaps (One (a_sign (codes ";"))))) (λ ts. next_first ts || (last_semi ts || closes ts)) closes
    others_exact = both_exact
        (all_exact {k = 0} (record { exact = next_exact; begin = next_is_next; next = next_ends_stmt; last = λ ts e. or_cases _ _ e (λ a. semi_ends_stmt ts (last_is_semi ts a)) (closes_ends_stmt ts); stop = λ ts e. or_cases _ _ e (last_no_next ts) (closes_no_next ts) }))
        (perhaps_exact last_exact (record { begin = last_is_semi; last = λ ts e. e; stop = closes_no_semi })) (λ ts e. e)

    pub plain_stmts : Exact 0 (suc n) (stmts_of total i) (StmtsOf total R) (StmtsOf total Q) (λ ts. begins_stmt ts || closes ts) closes
    unfolding stmts_of StmtsOf
    plain_stmts = made_exact _ (perhaps_exact (both_exact stmt_exact others_exact others_end) (record { begin = λ ts e. e; last = λ ts e. e; stop = closes_no_stmt }))

    -- ---- statements do not begin as parameters do

    module _ (t u : Token) (us : List Token) (k : IsParam t) (other : IsOther u) where
      others_no : (next_first (u ∷ us) || (last_semi (u ∷ us) || closes (u ∷ us))) ≡ true → ⊥
      others_no h = no_true (rw (other_no_first u us other, other_no_last u us other, other_no_close u us other) at h)

      stmts_not : (x : Option (Stmt × (List Stmt × Option (Unit {0})))) (rest : List Token) → Perhaps (Both (StmtOf total Q) (Both (Many (NextOf total Q)) (Perhaps (One (a_sign (codes ";")))))) (t ∷ u ∷ us) x rest → closes rest ≡ true → ⊥
      unfolding Perhaps Both
      stmts_not None rest d e = no_true (sym (param_no_close t (u ∷ us) k) ∙ subst (λ vs. closes vs ≡ true) (sym d) e)
      stmts_not (Some x) rest d e =
          let f = others_exact.begins d.0 x.1 rest d.2 e in
          others_no (subst (λ vs. (next_first vs || (last_semi vs || closes vs)) ≡ true) (stmt_leaves t u us k other x.0 d.0 d.1 (others_end d.0 f)) f)

    stmts_known : (ts : List Token) (x : List Stmt) (rest : List Token) → StmtsOf total Q ts x rest → closes rest ≡ true → (b : Bool) → params_ahead ts ≡ b → ((begins_stmt ts || closes ts) && not b) ≡ true
    unfolding StmtsOf Made
    stmts_known ts x rest d e false h = and_both _ _ (plain_stmts.begins ts x rest d e) refl
    stmts_known ts x rest d e true h =
        let s = sees_params ts h in
        let other : IsOther s.other = elim s.other_is [ inl a ↦ inl a | inr a ↦ inr (inl a) ] in
        absurd (stmts_not s.token s.other s.rest s.param_is other d.0 rest (subst (λ vs. Perhaps (Both (StmtOf total Q) (Both (Many (NextOf total Q)) (Perhaps (One (a_sign (codes ";")))))) vs d.0 rest) s.is d.1) e)

    pub stmts_exact : Exact 0 (suc n) (stmts_of total i) (StmtsOf total R) (StmtsOf total Q) begins_stmts closes
    unfolding begins_stmts
    stmts_exact = stronger begins_stmts plain_stmts (λ ts x rest d e. stmts_known ts x rest d e (params_ahead ts) refl)
