use Rattle.std.proofs.Common.{◌≡◌, ◌==◌, Some, None, position}
use Rattle.event_script.proofs.Splitting.{lines_cut, lines_last}
use Rattle.event_script.proofs.words.first_line.Goals as goal

pub returns-in-Some-clause-lines : goal.returns-in-Some-clause-lines
returns-in-Some-clause-lines c =
    let found : position (λ b. b == 10) c.args.bytes.now ≡ Some c.in-Some.end = cc in
    lines_cut c.args.bytes.now c.without_return.result.now c.in-Some.end found c.without_return.ensures.line

pub returns-in-None-clause-lines : goal.returns-in-None-clause-lines
returns-in-None-clause-lines c =
    let missed : position (λ b. b == 10) c.args.bytes.now ≡ None = cc in
    lines_last c.args.bytes.now missed c.requires.some
