use Rattle.std.proofs.Common.{◌≡◌, ◌∙◌, List, [], ◌∷◌, ◌++◌, sym, append_assoc}
use denote.RawPtr.{Ptr}
use Rattle.edge_lists.proofs.tests.reader_after.Goals as goal

pub loop-other-init : goal.loop-other-init
loop-other-init c = ([], c.in_ok-edge.ensures.edge.0, c.in_ok-edge.ensures.edge.1)

pub loop-other-preserved : goal.loop-other-preserved
loop-other-preserved c =
    let here = c.loop-other.invariant in
    let next = c.in_ok-edge-2.ensures c.args.source here.0 here.1 here.2 in
    (here.0 ++ c.loop-other.edge.at.ptr ∷ [], next.0, here.2 ∙ (λ i. here.0 ++ c.loop-other.edge.at.ptr ∷ next.1 i) ∙ sym (append_assoc here.0 (c.loop-other.edge.at.ptr ∷ []) (c.in_ok-edge-2.edge.at.ptr ∷ next.0)))
