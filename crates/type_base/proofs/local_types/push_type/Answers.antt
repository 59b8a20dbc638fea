use Rattle.std.proofs.Common.{rules}
use Rattle.type_base.proofs.LocalRuns.{none_added}
use Rattle.type_base.proofs.local_types.push_type.Goals as goal

pub returns-in-None : goal.returns-in-None
returns-in-None c = record { ok = none_added c.args.locals.now c.args.at c.args.types.now (search rules) }
