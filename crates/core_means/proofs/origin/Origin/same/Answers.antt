use Rattle.std.proofs.lemmas.Bool.Decides.{same_from_decides}
use Rattle.core_means.specs.Sources.{same_origin_decides}
use Rattle.core_means.proofs.origin.Origin.same.Goals as goal

pub returns : goal.returns
returns c = record { value = same_from_decides _ _ c.is.ensures (same_origin_decides _ _) }
