use Rattle.std.proofs.Common.{List, sym, subst}
use Rattle.core_means.specs.Asks.{Answer, IsRight}
use Rattle.view_nodes.specs.declared.node.Element.{Element}
use Rattle.body_parts.specs.Nests.{of}
use Rattle.body_eval.proofs.Turns.{case_passed, case_taken, counted_more}
use Rattle.body_eval.proofs.items.case_of.Goals as goal

pub branch_views-requires-clause-right : goal.branch_views-requires-clause-right
branch_views-requires-clause-right g c =
    subst (λ (a : Answer (List Element)). IsRight a)
    (sym (case_taken (of c.args.builder.now) _ _ _ _ _ _ _ _ _ _
    c.in-len1-up.len_at_least c.case-item.is c.as_slice.ensures c.matches-is_matched.ensures c.if-is_matched.true c.loop-rest.invariant.whole))
    c.requires.right

pub loop-rest-preserved : goal.loop-rest-preserved
loop-rest-preserved g c = record {
  counted = counted_more _ _ _ c.in-len1-up.len_at_least c.loop-rest.invariant.counted;
  whole =
      case_passed (of c.args.builder.now) _ _ _ _ _ _ _ _ _
      c.in-len1-up.len_at_least c.case-item.is c.matches-is_matched.ensures c.if-is_matched.false c.loop-rest.invariant.whole;
}
