-- One argument: the value that it gives.
use Rattle.std.specs.Prelude.{Option}
use Rattle.swift_ast.specs.declared.tree.Arg.{Arg}
use Rattle.swift_ast.specs.declared.tree.Expr.{Expr}
use Rattle.swift_core.specs.declared.table.ParamSignature.{ParamSignature}
use Rattle.swift_core.specs.declared.term.Core.{Core}
use Rattle.swift_core.specs.declared.ty.Ty.{Ty}
use Rattle.type_base.specs.Claims.{and_then, when}
use Rattle.type_base.specs.Context.{Context}
use Rattle.type_base.specs.Promotion.{wanted}
use Rattle.type_base.specs.Rules.{Infer}
use Rattle.post_rules.specs.Syntax.{expr_of, label_of, same_label}

-- the value of an argument where this type is expected
unfoldable pub given_core : (Expr → Infer) → Option Ty → Arg → Context → Option Core
given_core f ty a cx = and_then ty (λ t. and_then (expr_of a) (λ e. wanted (f e) cx t))

-- the value of an argument for this parameter
unfoldable pub passed : (Expr → Infer) → ParamSignature → Arg → Context → Option Core
passed f p a cx = when (same_label (label_of a) p.label) (given_core f p.ty a cx)
