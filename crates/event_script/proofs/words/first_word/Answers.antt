use Rattle.std.proofs.Common.{◌≡◌, ◌-◌, Some, None, not, length, take, drop, position, refl}
use Rattle.event_script.specs.Words.{is_blank}
use Rattle.event_script.proofs.Splitting.{words_none, word_cut, word_end}
use Rattle.event_script.proofs.words.first_word.Goals as goal

pub returns-in_default-clause-words : goal.returns-in_default-clause-words
returns-in_default-clause-words c =
    let missed : position (λ b. not (is_blank b)) c.args.line.now ≡ None = cc in
    words_none c.args.line.now missed

pub returns-in_default-clause-some : goal.returns-in_default-clause-some
returns-in_default-clause-some c =
    let missed : position (λ b. not (is_blank b)) c.args.line.now ≡ None = cc in
    words_none c.args.line.now missed

pub returns-in-Some-word_end-clause-words : goal.returns-in-Some-word_end-clause-words
returns-in-Some-word_end-clause-words c =
    let line = c.args.line.now in
    let start = c.in-Some.start in
    let begins : position (λ b. not (is_blank b)) line ≡ Some start = cc in
    let ends : position is_blank (take (length line - start) (drop start line)) ≡ Some c.in-Some-word_end.end = cc in
    (word_cut line _ start c.in-Some-word_end.end refl begins ends).0

pub returns-in-Some-word_end-clause-some : goal.returns-in-Some-word_end-clause-some
returns-in-Some-word_end-clause-some c =
    let line = c.args.line.now in
    let start = c.in-Some.start in
    let begins : position (λ b. not (is_blank b)) line ≡ Some start = cc in
    let ends : position is_blank (take (length line - start) (drop start line)) ≡ Some c.in-Some-word_end.end = cc in
    (word_cut line _ start c.in-Some-word_end.end refl begins ends).1

pub returns-in-None-clause-words : goal.returns-in-None-clause-words
returns-in-None-clause-words c =
    let line = c.args.line.now in
    let start = c.in-Some.start in
    let begins : position (λ b. not (is_blank b)) line ≡ Some start = cc in
    let ends : position is_blank (take (length line - start) (drop start line)) ≡ None = cc in
    (word_end line _ start refl begins ends).0
