-- What an expression gives to the form around it, where that form is told by one of its variants.
use Rattle.std.specs.Prelude.{Option, Some}
use Rattle.sv_value.specs.declared.hop.Hop.{Hop}
use Rattle.sv_value.specs.declared.value.Value.{Value}
use Rattle.swift_core.specs.declared.term.Core.{Core}
use Rattle.core_means.specs.Asks.{Doing, ◌>>=◌, give, given}
use Rattle.core_means.specs.Means.{Inside, index_of}

-- its value, as one that is there
abbrev pub present : Inside → Core → Doing (Option Value)
present i e = i.eval e >>= λ v. give (Some v)

-- its value, as an index
abbrev pub index_given : Inside → Core → Doing Hop
index_given i e = i.eval e >>= λ v. given (index_of v)
