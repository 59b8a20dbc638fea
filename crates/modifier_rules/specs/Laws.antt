-- That the search finds what the rules relate, and that this is one call at most.
use Rattle.std.specs.Prelude.{◌≡◌, List, Option}
use Rattle.swift_ast.specs.declared.tree.Arg.{Arg}
use Rattle.swift_ast.specs.declared.tree.Tail.{Tail}
use Rattle.swift_core.specs.declared.item.ModifierCall.{ModifierCall}
use Rattle.type_base.specs.Claims.{reads_one}
use Rattle.type_base.specs.Context.{Context}
use Rattle.type_base.specs.Rules.{ExactPart}
use Rattle.modifier_rules.specs.declared.names.Modifier.{Modifier}
use Rattle.modifier_rules.specs.Values.{ValueCall, value_call, value_call_exact}

abbrev pub ValueCallsFound : Type 0
ValueCallsFound = (m : Modifier) (args : List Arg) (tail : Option Tail) → ExactPart (value_call m args tail) (ValueCall m args tail)

abbrev pub OneValueCall : Type 0
OneValueCall = (m : Modifier) (args : List Arg) (tail : Option Tail) (cx : Context) (x y : Option ModifierCall)
    → ValueCall m args tail cx x → ValueCall m args tail cx y → x ≡ y

pub one_value_call : OneValueCall
one_value_call m args tail cx = reads_one (value_call_exact m args tail cx)
