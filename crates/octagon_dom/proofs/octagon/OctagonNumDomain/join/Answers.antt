use Rattle.std.proofs.Common.{◌∙◌, ap, subst, sym}
use Rattle.std.specs.Int.{int_max}
use Rattle.num_domain.specs.Ends.{both_ends}
use Rattle.octagon_dom.specs.Cells.{IsBelow, bound}
use Rattle.octagon_dom.specs.Closure.{IsClosed}
use Rattle.octagon_dom.proofs.RowClosures.{closed_same}
use Rattle.octagon_dom.proofs.octagon.OctagonNumDomain.join.Goals as goal

pub returns-clause-others : goal.returns-clause-others
returns-clause-others c store is has =
    c.unite-2.ensures.others store is ((c.close_up.ensures.same store is).0 (subst (λ items. IsBelow items store)
    (sym c.in_ok-twin.ensures.same) has))

pub returns-clause-closed : goal.returns-clause-closed
returns-clause-closed c own other =
    let twin = subst (λ items. IsClosed (bound items)) (sym c.in_ok-twin.ensures.same) other in
    c.unite-2.ensures.closed own (closed_same (bound c.in_ok-twin.twin.cells.items) _ (λ a b h g. sym (c.close_up.ensures.stays twin a b h g))
    twin)

pub returns-clause-hull : goal.returns-clause-hull
returns-clause-hull c own other i j h g =
    let twin = subst (λ items. IsClosed (bound items)) (sym c.in_ok-twin.ensures.same) other in
    c.unite-2.ensures.hull own (closed_same (bound c.in_ok-twin.twin.cells.items) _ (λ a b h g. sym (c.close_up.ensures.stays twin a b h g))
    twin) i j h g
    ∙ ap (both_ends int_max (bound c.args.self.now.cells.items i j))
    (c.close_up.ensures.stays twin i j h g ∙ ap (λ items. bound items i j) c.in_ok-twin.ensures.same)
