use Rattle.std.proofs.Common.{◌≡◌, [], drop}
use Rattle.std.specs.Prelude.{reverse}
use Rattle.token_brackets.specs.Machine.{walk}
use Rattle.token_brackets.proofs.partners.walk.Given as goal

abbrev pub invariant-loop-token : goal.invariant-loop-token
invariant-loop-token l = walk [] l.tokens ≡ walk (reverse l.left.items) (drop l.token-index l.tokens)
