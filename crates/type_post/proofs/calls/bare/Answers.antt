use Rattle.type_base.specs.Context.{seen}
use Rattle.expr_rules.specs.Levels.{infer_to}
use Rattle.type_post.proofs.Turns.{bare_is, bare_some}
use Rattle.type_post.proofs.calls.bare.Goals as goal

pub returns-in-Some : goal.returns-in-Some
returns-in-Some g c = record { found = rw c.no_chain.ensures.value (bare_some (infer_to c.args.inner.now.room) c.args.so_far c.args.arguments.now _ _ (seen c.args.scope.now) c.in-Some.ensures.cases.0) }

pub returns-in-None : goal.returns-in-None
returns-in-None g c = record { found = bare_is (infer_to c.args.inner.now.room) c.args.so_far c.args.arguments.now (seen c.args.scope.now) c.in-None.ensures.cases }
