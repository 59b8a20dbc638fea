-- What the loop over the depths computes, token by token.
use Rattle.std.specs.Prelude.{◌+◌, Option, Some, None}
use Rattle.token_brackets.specs.declared.brackets.Bracket.{Bracket}
use Rattle.token_brackets.specs.declared.brackets.Bracket.TheVariants as bracket
use Rattle.token_brackets.specs.declared.nesting.Counts.{Counts}

abbrev pub counted : Option Bracket → Counts → Counts
counted None c = c
counted (Some (bracket.Opens s)) c = record { opened = c.opened + 1; closed = c.closed }
counted (Some (bracket.Closes s)) c = record { opened = c.opened; closed = c.closed + 1 }
