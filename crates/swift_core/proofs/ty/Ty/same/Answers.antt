use Rattle.std.proofs.Common.{◌≡◌}
use Rattle.std.proofs.lemmas.Bool.Decides.{same_from_decides}
use Rattle.swift_core.specs.Types.{same_ty_decides}
use Rattle.swift_core.proofs.ty.Ty.same.Goals as goal

pub returns : goal.returns
returns c = record { value = same_from_decides _ _ c.is.ensures.value (same_ty_decides _ _) }
