-- Guide expressions that may be computed.
use Rattle.std.specs.Prelude.{Option, Some, None, if◌then◌else◌}
use Rattle.align_guides.specs.declared.GuideExpr.{GuideExpr}
use Rattle.align_guides.specs.Guides.{divides}

-- the expression, if no divisor in it is 0
abbrev pub checked : GuideExpr → Option GuideExpr
checked e = if divides e then Some e else None
