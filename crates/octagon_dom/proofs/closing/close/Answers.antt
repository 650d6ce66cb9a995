use Rattle.std.proofs.Common.{◌≡◌, ◌<◌, ◌∙◌, ◌+◌, suc, pos, Some, arith, refl, subst, sym}
use Rattle.std.proofs.lemmas.Int.{ints}
use Rattle.octagon_dom.specs.Cells.{bound}
use Rattle.octagon_dom.specs.Closure.{ArePassed, begun, passed}
use Rattle.octagon_dom.proofs.Members.{tightened_inside, tightened_keeps}
use Rattle.octagon_dom.proofs.Passes.{ArePassedWhole, passed_closed}
use Rattle.octagon_dom.proofs.RowClosures.{closed_same, passed_stays}
use Rattle.octagon_dom.proofs.closing.close.Goals as goal

pub loop-k-init : goal.loop-k-init
loop-k-init c = (c.requires, λ store below. below, λ store below. below, λ closed i j h g. refl, begun, λ is. refl)

pub loop-k-preserved : goal.loop-k-preserved
loop-k-preserved c =
    let k = c.loop-k.k in
    let low : k < 32 = omega arith in
    let one : suc k ≡ k + 1 = omega arith in
    let are = c.shorten-fits.ensures.cells in (
      are.long,
      λ store below. tightened_keeps c.loop-k.cells _ k k (Some (pos 0)) low low are store (c.loop-k.invariant.1 store below) (omega
          (arith, ints)),
      λ store below. c.loop-k.invariant.2 store (tightened_inside c.loop-k.cells _ k k (Some (pos 0)) low low are store below),
      λ closed i j h g.
          let stays = c.loop-k.invariant.3 closed in
          passed_stays c.loop-k.cells _ k low are
          (closed_same (bound c.args.cells.now) (bound c.loop-k.cells) (λ a b l m. sym (stays a b l m)) closed) i j h g ∙ stays i j h g,
      subst (λ n. ArePassed c.args.cells.now n c.shorten-fits.new.cells) one
          (passed k c.loop-k.cells c.shorten-fits.new.cells c.loop-k.invariant.4 are),
      λ is. subst (λ n. ArePassedWhole n c.args.cells.now c.shorten-fits.new.cells) one
          (c.loop-k.cells, c.loop-k.invariant.5 (c.both-whole.ensures.one is), are, c.shorten-fits.ensures.whole (c.both-whole.ensures.other is)),
    )

pub returns-clause-stays : goal.returns-clause-stays
returns-clause-stays c closed i j h g = c.loop-k.invariant.3 closed i j h g

pub returns-clause-passes : goal.returns-clause-passes
returns-clause-passes c =
    let all : c.loop-k.k ≡ 32 = omega arith in
    subst (λ n. ArePassed c.args.cells.now n c.loop-k.cells) all c.loop-k.invariant.4

pub returns-clause-whole : goal.returns-clause-whole
returns-clause-whole c is filled =
    let all : c.loop-k.k ≡ 32 = omega arith in
    (passed_closed c.args.cells.now c.loop-k.cells c.loop-k.k all (c.loop-k.invariant.5 is) filled).ways
