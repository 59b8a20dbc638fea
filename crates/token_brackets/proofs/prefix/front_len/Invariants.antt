use Rattle.std.specs.Prelude.{reverse}
use Rattle.token_brackets.proofs.Prefixes.{FrontAt}
use Rattle.token_brackets.proofs.prefix.front_len.Given as goal

abbrev pub invariant-loop-i : goal.invariant-loop-i
invariant-loop-i l = FrontAt l.tokens (reverse l.left.items) l.i
