-- The file: its pieces are read one after the other, and there is one answer.
use Rattle.std.proofs.Common.{◌≡◌, ℕ, zero, suc, ◌+◌, ◌<◌, ◌≤◌, Bool, true, false, List, [], ◌∷◌, ◌++◌, length, refl, sym, ap, subst, ◌∙◌, append_assoc, length-append, arith, inl, inr, ◌⊎◌}
use Rattle.std.specs.Prelude.{Option, Some, None, Result, Ok, Err}
use Rattle.std.proofs.lemmas.List.{append-nil}
use Rattle.swift_lex.specs.declared.token.Token.{Token}
use Rattle.swift_ast.specs.declared.span.Span.{Span}
use Rattle.swift_ast.specs.declared.piece.Source.{Source}
use Rattle.swift_ast.specs.declared.piece.Piece.{Piece}
use Rattle.token_brackets.specs.Balance.{Balanced, Unbalanced}
use Rattle.token_brackets.specs.Depth.{IsShallow, TooNested}
use Rattle.token_brackets.specs.Piece as cut
use Rattle.token_brackets.specs.Piece.{FirstPiece, Pieces}
use Rattle.token_brackets.proofs.Whole.{never_both, one_unbalanced, one_cut, cut_all}
use Rattle.token_brackets.proofs.Depths.{one_line}
use Rattle.parse_base.specs.declared.stop.Stop.{Stop}
use Rattle.parse_base.specs.declared.stop.Stop.TheVariants as stop
use Rattle.parse_base.specs.Parser.{Outcome, Reads, Refuses}
use Rattle.parse_base.specs.Spans.{line_of, span_of}
use Rattle.parse_base.proofs.Laws.{Exact, got_is}
use Rattle.swift_parse.specs.declared.faults.ParseFault.{ParseFault}
use Rattle.swift_parse.specs.declared.faults.ParseFault.TheVariants as fault
use Rattle.swift_parse.specs.Below.{languages, parsers}
use Rattle.swift_parse.specs.Grammar.{PieceOf}
use Rattle.swift_parse.specs.Parse.{piece_of}
use Rattle.swift_parse.specs.File.{SpellsPiece, SpellsPieces, FirstBad, Spells, BadFrom, SpelledFrom, BracketsPass, IsFault, IsAnswer, IsMemory, Agrees, ReadsPiece, StopsPiece, IsPieces, IsPiecesFault}
use Rattle.swift_parse.proofs.PieceRules.{piece_exact}
use Rattle.swift_parse.proofs.Knowledge.{known}

-- ---- one piece

pub piece_spelled : (total : ℕ) (ts : List Token) (x : Piece) → piece_of total (parsers total) ts ≡ Some (x, []) → SpellsPiece total ts x
unfolding SpellsPiece
piece_spelled total ts x e = (piece_exact (known total) total 0).sound ts x [] e

piece_read : (total : ℕ) (ts : List Token) (x : Piece) → SpellsPiece total ts x → piece_of total (parsers total) ts ≡ Some (x, [])
unfolding SpellsPiece
piece_read total ts x d = (piece_exact (known total) total (length ts)).complete ts x [] (omega arith) d refl

no_piece : (o : Outcome Piece) (x : Piece) → o ≡ None → o ≡ Some (x, []) → ⊥
no_piece o x e f = cc

pub piece_refused : (total : ℕ) (ts : List Token) → piece_of total (parsers total) ts ≡ None → (x : Piece) → SpellsPiece total ts x → ⊥
piece_refused total ts e x d = no_piece (piece_of total (parsers total) ts) x e (piece_read total ts x d)

pub piece_left : (total : ℕ) (ts : List Token) (y : Piece) (rest : List Token) → piece_of total (parsers total) ts ≡ Some (y, rest) → 0 < length rest → (x : Piece) → SpellsPiece total ts x → ⊥
piece_left total ts y rest e some x d =
    let same = got_is y x rest [] (sym e ∙ piece_read total ts x d) in
    let none : length rest ≡ 0 = ap (λ (v : List Token). length v) same.1 in
    absurd (omega arith)

one_piece : (total : ℕ) (ts : List Token) (x y : Piece) → SpellsPiece total ts x → SpellsPiece total ts y → x ≡ y
one_piece total ts x y d e = (got_is x y [] [] (sym (piece_read total ts x d) ∙ piece_read total ts y e)).0

-- ---- piece by piece

-- so many tokens stand before the rest, and these trees were found
pub record Going (ts : List Token) (before : ℕ) (rest : List Token) (found : List Piece) : Type 0 where
  pub balanced : Balanced rest
  pub place : before + length rest ≡ length ts
  pub spelled : (ys : List Piece) → SpelledFrom before rest ys → SpelledFrom 0 ts (found ++ ys)
  pub bad : (line : ℕ) → BadFrom before rest line → BadFrom 0 ts line

pub going_begins : (ts : List Token) → Balanced ts → Going ts 0 ts []
going_begins ts b = record { balanced = b; place = omega arith; spelled = λ ys s. s; bad = λ line s. s }

spelled_more : (before : ℕ) (rest piece behind : List Token) (x : Piece) (ys : List Piece) → rest ≡ piece ++ behind → FirstPiece piece behind → 0 < length piece → SpellsPiece (before + length piece) piece x
    → SpelledFrom (before + length piece) behind ys → SpelledFrom before rest (x ∷ ys)
spelled_more before rest [] behind x ys is f some d s = absurd (omega arith)
spelled_more before rest (t ∷ p) behind x ys is f some d s = record {
  pieces = (t ∷ p) ∷ s.pieces;
  cut = subst (λ (v : List Token). Pieces v ((t ∷ p) ∷ s.pieces)) (sym is) (cut.more t p behind f s.cut);
  spelled = (d, s.spelled);
}

bad_more : (before : ℕ) (rest piece behind : List Token) (x : Piece) (line : ℕ) → rest ≡ piece ++ behind → FirstPiece piece behind → 0 < length piece → SpellsPiece (before + length piece) piece x
    → BadFrom (before + length piece) behind line → BadFrom before rest line
bad_more before rest [] behind x line is f some d s = absurd (omega arith)
bad_more before rest (t ∷ p) behind x line is f some d s = record {
  pieces = (t ∷ p) ∷ s.pieces;
  cut = subst (λ (v : List Token). Pieces v ((t ∷ p) ∷ s.pieces)) (sym is) (cut.more t p behind f s.cut);
  first = inr (x, d, s.first);
}

bad_here : (before : ℕ) (rest piece behind : List Token) → rest ≡ piece ++ behind → FirstPiece piece behind → Balanced behind → 0 < length piece → ((x : Piece) → SpellsPiece (before + length piece) piece x → ⊥)
    → BadFrom before rest (line_of piece)
bad_here before rest [] behind is f b some never = absurd (omega arith)
bad_here before rest (t ∷ p) behind is f b some never =
    let others = cut_all (length behind) behind (omega arith) b in
    record { pieces = (t ∷ p) ∷ others.0; cut = subst (λ (v : List Token). Pieces v ((t ∷ p) ∷ others.0)) (sym is) (cut.more t p behind f others.1); first = inl (never, refl) }

pub going_on : (ts : List Token) (before : ℕ) (rest : List Token) (found : List Piece) (piece behind : List Token) (x : Piece) → Going ts before rest found
    → rest ≡ piece ++ behind → FirstPiece piece behind → Balanced behind → 0 < length piece → SpellsPiece (before + length piece) piece x → Going ts (before + length piece) behind (found ++ x ∷ [])
going_on ts before rest found piece behind x g is f b some d = record {
  balanced = b;
  place = let sizes : length rest ≡ length (piece ++ behind) = ap (λ (v : List Token). length v) is in let both = length-append piece behind in let all = g.place in omega (arith, sizes, both, all);
  spelled = λ ys s. subst (λ (v : List Piece). SpelledFrom 0 ts v) (sym (append_assoc found (x ∷ []) ys)) (g.spelled (x ∷ ys) (spelled_more before rest piece behind x ys is f some d s));
  bad = λ line s. g.bad line (bad_more before rest piece behind x line is f some d s);
}

pub going_stops : (ts : List Token) (before : ℕ) (rest : List Token) (found : List Piece) (piece behind : List Token) → Going ts before rest found
    → rest ≡ piece ++ behind → FirstPiece piece behind → Balanced behind → 0 < length piece → ((x : Piece) → SpellsPiece (before + length piece) piece x → ⊥) → BadFrom 0 ts (line_of piece)
going_stops ts before rest found piece behind g is f b some never = g.bad (line_of piece) (bad_here before rest piece behind is f b some never)

pub going_ends : (ts : List Token) (before : ℕ) (rest : List Token) (found : List Piece) → Going ts before rest found → length rest ≡ 0 → SpelledFrom 0 ts found
going_ends ts before [] found g e = subst (λ (v : List Piece). SpelledFrom 0 ts v) (append-nil found) (g.spelled [] (record { pieces = []; cut = cut.none; spelled = tt }))
going_ends ts before (t ∷ rest) found g e = absurd (omega arith)

-- ---- one answer

one_list : (before : ℕ) (ps : List (List Token)) (xs ys : List Piece) → SpellsPieces before ps xs → SpellsPieces before ps ys → xs ≡ ys
one_list before [] [] [] d e = refl
one_list before [] [] (y ∷ ys) d e = absurd e
one_list before [] (x ∷ xs) ys d e = absurd d
one_list before (p ∷ ps) [] ys d e = absurd d
one_list before (p ∷ ps) (x ∷ xs) [] d e = absurd e
one_list before (p ∷ ps) (x ∷ xs) (y ∷ ys) d e =
    ap (λ (v : Piece). v ∷ xs) (one_piece (before + length p) p x y d.0 e.0) ∙ ap (λ (v : List Piece). y ∷ v) (one_list (before + length p) ps xs ys d.1 e.1)

spelled_no_bad : (before : ℕ) (ps : List (List Token)) (xs : List Piece) (line : ℕ) → SpellsPieces before ps xs → FirstBad before ps line → ⊥
spelled_no_bad before [] [] line d e = e
spelled_no_bad before [] (x ∷ xs) line d e = d
spelled_no_bad before (p ∷ ps) [] line d e = d
spelled_no_bad before (p ∷ ps) (x ∷ xs) line d (inl e) = e.0 x d.0
spelled_no_bad before (p ∷ ps) (x ∷ xs) line d (inr e) = spelled_no_bad (before + length p) ps xs line d.1 e.2

one_bad : (before : ℕ) (ps : List (List Token)) (a b : ℕ) → FirstBad before ps a → FirstBad before ps b → a ≡ b
one_bad before [] a b d e = absurd d
one_bad before (p ∷ ps) a b (inl d) (inl e) = d.1 ∙ sym e.1
one_bad before (p ∷ ps) a b (inl d) (inr e) = absurd (d.0 e.0 e.1)
one_bad before (p ∷ ps) a b (inr d) (inl e) = absurd (e.0 d.0 d.1)
one_bad before (p ∷ ps) a b (inr d) (inr e) = one_bad (before + length p) ps a b d.2 e.2

source_is : (a b : Source) → a.span ≡ b.span → a.pieces ≡ b.pieces → a ≡ b
source_is a b e f =
    let first : a ≡ record { span = b.span; pieces = a.pieces } = ap (λ (s : Span). let r : Source = record { span = s; pieces = a.pieces } in r) e in
    first ∙ ap (λ (ps : List Piece). let r : Source = record { span = b.span; pieces = ps } in r) f

pub one_source : (ts : List Token) (a b : Source) → Spells ts a → Spells ts b → a ≡ b
one_source ts a b d e =
    let same = one_cut d.cut e.cut in
    source_is a b (d.span ∙ sym e.span) (one_list 0 d.pieces a.pieces b.pieces d.spelled (subst (λ (v : List (List Token)). SpellsPieces 0 v b.pieces) (sym same) e.spelled))

source_no_bad : (ts : List Token) (a : Source) (line : ℕ) → Spells ts a → BadFrom 0 ts line → ⊥
source_no_bad ts a line d e = spelled_no_bad 0 d.pieces a.pieces line d.spelled (subst (λ (v : List (List Token)). FirstBad 0 v line) (sym (one_cut d.cut e.cut)) e.first)

one_bad_line : (ts : List Token) (a b : ℕ) → BadFrom 0 ts a → BadFrom 0 ts b → a ≡ b
one_bad_line ts a b d e = one_bad 0 d.pieces a b d.first (subst (λ (v : List (List Token)). FirstBad 0 v b) (sym (one_cut d.cut e.cut)) e.first)

nested_no_pass : (ts : List Token) (line : ℕ) → TooNested 64 ts line → IsShallow 64 ts → ⊥
nested_no_pass ts line d s = s d.place d.first d.deep

agree_ok : (ts : List Token) (a : Source) (b : Result Source ParseFault) → BracketsPass ts → Spells ts a → IsAnswer ts b → Agrees (Ok a) b
agree_ok ts a (Ok b) pass d e = inl (ap (λ (s : Source). Ok s) (one_source ts a b d e.1))
agree_ok ts a (Err fault.OutOfMemory) pass d e = inr (inr tt)
agree_ok ts a (Err (fault.Unbalanced l)) pass d e = absurd (never_both ts l pass.balanced e)
agree_ok ts a (Err (fault.TooNested l)) pass d e = absurd (nested_no_pass ts l e.1 pass.shallow)
agree_ok ts a (Err (fault.NotADeclaration l)) pass d e = absurd (source_no_bad ts a l d e.1)

agree_unbalanced : (ts : List Token) (l : ℕ) (b : Result Source ParseFault) → Unbalanced ts l → IsAnswer ts b → Agrees (Err (fault.Unbalanced l)) b
agree_unbalanced ts l (Ok b) d e = absurd (never_both ts l e.0.balanced d)
agree_unbalanced ts l (Err fault.OutOfMemory) d e = inr (inr tt)
agree_unbalanced ts l (Err (fault.Unbalanced m)) d e = inl (ap (λ n. Err (fault.Unbalanced n)) (one_unbalanced ts l m d e))
agree_unbalanced ts l (Err (fault.TooNested m)) d e = absurd (never_both ts l e.0 d)
agree_unbalanced ts l (Err (fault.NotADeclaration m)) d e = absurd (never_both ts l e.0.balanced d)

agree_nested : (ts : List Token) (l : ℕ) (b : Result Source ParseFault) → Balanced ts → TooNested 64 ts l → IsAnswer ts b → Agrees (Err (fault.TooNested l)) b
agree_nested ts l (Ok b) bal d e = absurd (nested_no_pass ts l d e.0.shallow)
agree_nested ts l (Err fault.OutOfMemory) bal d e = inr (inr tt)
agree_nested ts l (Err (fault.Unbalanced m)) bal d e = absurd (never_both ts m bal e)
agree_nested ts l (Err (fault.TooNested m)) bal d e = inl (ap (λ n. Err (fault.TooNested n)) (one_line 64 ts l m d e.1))
agree_nested ts l (Err (fault.NotADeclaration m)) bal d e = absurd (nested_no_pass ts l d e.0.shallow)

agree_bad : (ts : List Token) (l : ℕ) (b : Result Source ParseFault) → BracketsPass ts → BadFrom 0 ts l → IsAnswer ts b → Agrees (Err (fault.NotADeclaration l)) b
agree_bad ts l (Ok b) pass d e = absurd (source_no_bad ts b l e.1 d)
agree_bad ts l (Err fault.OutOfMemory) pass d e = inr (inr tt)
agree_bad ts l (Err (fault.Unbalanced m)) pass d e = absurd (never_both ts m pass.balanced e)
agree_bad ts l (Err (fault.TooNested m)) pass d e = absurd (nested_no_pass ts m e.1 pass.shallow)
agree_bad ts l (Err (fault.NotADeclaration m)) pass d e = inl (ap (λ n. Err (fault.NotADeclaration n)) (one_bad_line ts l m d e.1))

pub one_answer : (ts : List Token) (a b : Result Source ParseFault) → IsAnswer ts a → IsAnswer ts b → Agrees a b
one_answer ts (Ok a) b d e = agree_ok ts a b d.0 d.1 e
one_answer ts (Err fault.OutOfMemory) b d e = inr (inl tt)
one_answer ts (Err (fault.Unbalanced l)) b d e = agree_unbalanced ts l b d e
one_answer ts (Err (fault.TooNested l)) b d e = agree_nested ts l b d.0 d.1 e
one_answer ts (Err (fault.NotADeclaration l)) b d e = agree_bad ts l b d.0 d.1 e

-- ---- what the parts of the call hand on

pub fault_is : (ts : List Token) (e : ParseFault) → BracketsPass ts → IsPiecesFault ts e → IsFault ts e
fault_is ts fault.OutOfMemory pass h = tt
fault_is ts (fault.Unbalanced l) pass h = absurd h
fault_is ts (fault.TooNested l) pass h = absurd h
fault_is ts (fault.NotADeclaration l) pass h = (pass, h)

pub source_spelled : (ts : List Token) (xs : List Piece) (s : Span) → SpelledFrom 0 ts xs → s ≡ span_of (length ts) ts [] → Spells ts (record { span = s; pieces = xs })
source_spelled ts xs s h e = record { pieces = h.pieces; cut = h.cut; spelled = h.spelled; span = e }

-- ---- one piece, as the call answers

pub stops_piece : (total : ℕ) (ts : List Token) (e : Stop) → Refuses (piece_of total (parsers total) ts) e → StopsPiece total ts e
stops_piece total ts stop.Memory h = tt
stops_piece total ts stop.Refused h = piece_refused total ts h

pub piece_whole : (total : ℕ) (ts : List Token) (x : Piece) (rest : List Token) → piece_of total (parsers total) ts ≡ Some (x, rest) → length rest ≡ 0 → SpellsPiece total ts x
piece_whole total ts x [] e none = piece_spelled total ts x e
piece_whole total ts x (t ∷ rest) e none = absurd (omega arith)
