use Rattle.std.proofs.Common.{◌≡◌, ◌<◌, ◌≤◌, ◌^◌, ◌+◌, ℤ, Some, arith, rules, subst, sym}
use Rattle.linear_cons.specs.Numbers.{Fits128}
use Rattle.num_domain.specs.Ends.{some_end}
use Rattle.octagon_dom.specs.Cells.{AreCellsOf, bound, tightened, turned}
use Rattle.octagon_dom.specs.Closure.{IsModerateEnd, SumsFit}
use Rattle.octagon_dom.specs.Laws.Members.{turned_low}
use Rattle.octagon_dom.proofs.Closures.{entered_closure, entered_keeps, entered_none}
use Rattle.octagon_dom.proofs.Members.{tightened_inside, tightened_keeps, tightened_meets, twin_holds}
use Rattle.octagon_dom.proofs.Sizes.{sized_moderate, tightened_sized}
use Rattle.octagon_dom.proofs.closing.state.Goals as goal
use Rattle.octagon_dom.proofs.closing.state.Goals.{After-shorten-twin}

-- the twin's signed places
from : (c : After-shorten-twin) → c.turned.result < 32
from c = subst (λ t. t < 32) (sym c.turned.ensures) (turned_low c.args.stated.low c.requires.between.to)

to : (c : After-shorten-twin) → c.turned-2.result < 32
to c = subst (λ t. t < 32) (sym c.turned-2.ensures) (turned_low c.args.stated.high c.requires.between.from)

pub returns-clause-keeps : goal.returns-clause-keeps
returns-clause-keeps c store below holds =
    let here = (goal.at.returns-clause-keeps c).After-shorten-twin in
    let pair = c.requires.between in
    let first = tightened_keeps c.args.cells.now _ c.args.stated.high c.args.stated.low _ pair.from pair.to
    c.shorten-own.ensures.cells store below holds in
    tightened_keeps c.shorten-own.new.cells _ c.turned.result c.turned-2.result _ (from here) (to here) c.shorten-twin.ensures.cells store first
    (twin_holds store c.args.stated.high c.args.stated.low _ _ _ c.turned.ensures c.turned-2.ensures holds)

pub returns-clause-inside : goal.returns-clause-inside
returns-clause-inside c store below =
    let here = (goal.at.returns-clause-inside c).After-shorten-twin in
    let pair = c.requires.between in
    tightened_inside c.args.cells.now _ c.args.stated.high c.args.stated.low _ pair.from pair.to c.shorten-own.ensures.cells store
    (tightened_inside c.shorten-own.new.cells _ c.turned.result c.turned-2.result _ (from here) (to here) c.shorten-twin.ensures.cells store below)

pub returns-clause-met : goal.returns-clause-met
returns-clause-met c =
    let fit : (z : ℤ) → some_end c.args.stated.step ≡ Some z → Fits128 z = search rules in
    λ store below.
    let here = (goal.at.returns-clause-met c).After-shorten-twin in
    let pair = c.requires.between in
    tightened_meets c.args.cells.now _ c.args.stated.high c.args.stated.low _ pair.from pair.to c.shorten-own.ensures.cells pair.apart fit store
    (tightened_inside c.shorten-own.new.cells _ c.turned.result c.turned-2.result _ (from here) (to here) c.shorten-twin.ensures.cells store below)

second : (c : After-shorten-twin) → AreCellsOf (tightened c.shorten-own.new.cells (turned c.args.stated.low) (turned c.args.stated.high)
    (some_end c.args.stated.step)) c.shorten-twin.new.cells
second c = subst (λ j. AreCellsOf (tightened c.shorten-own.new.cells (turned c.args.stated.low) j
    (some_end c.args.stated.step)) c.shorten-twin.new.cells)
    c.turned-2.ensures
    (subst (λ i. AreCellsOf (tightened c.shorten-own.new.cells i c.turned-2.result (some_end c.args.stated.step)) c.shorten-twin.new.cells)
    c.turned.ensures c.shorten-twin.ensures.cells)

pub returns-clause-entered : goal.returns-clause-entered
returns-clause-entered c = record {
  between = c.shorten-own.new.cells;
  own = c.shorten-own.ensures.cells;
  twin = second (goal.at.returns-clause-entered c).After-shorten-twin;
}

pub returns-clause-closes : goal.returns-clause-closes
returns-clause-closes c =
    let pair = c.requires.between in
    let fit : (z : ℤ) → some_end c.args.stated.step ≡ Some z → Fits128 z = search rules in
    let twin = second (goal.at.returns-clause-closes c).After-shorten-twin in
    record {
      none = entered_none c.args.cells.now c.shorten-own.new.cells c.shorten-twin.new.cells c.args.stated.high c.args.stated.low
          (some_end c.args.stated.step) pair.from pair.to pair.apart fit c.shorten-own.ensures.cells twin;
      closure = entered_closure c.args.cells.now c.shorten-own.new.cells c.shorten-twin.new.cells c.args.stated.high c.args.stated.low
          (some_end c.args.stated.step) pair.from pair.to pair.apart fit c.shorten-own.ensures.cells twin;
    }

pub returns-clause-whole : goal.returns-clause-whole
returns-clause-whole c is =
    let pair = c.requires.between in
    let fit : (z : ℤ) → some_end c.args.stated.step ≡ Some z → Fits128 z = search rules in
    let twin = second (goal.at.returns-clause-whole c).After-shorten-twin in
    let again = subst (λ j. SumsFit (bound c.shorten-own.new.cells) (turned c.args.stated.low) j (some_end c.args.stated.step))
    c.turned-2.ensures
    (subst (λ i. SumsFit (bound c.shorten-own.new.cells) i c.turned-2.result (some_end c.args.stated.step)) c.turned.ensures
    (c.shorten-twin.ensures.whole (c.both.ensures.other is))) in
    entered_keeps c.args.cells.now c.shorten-own.new.cells c.shorten-twin.new.cells c.args.stated.high c.args.stated.low
    (some_end c.args.stated.step) pair.from pair.to pair.apart fit c.shorten-own.ensures.cells twin
    (c.shorten-own.ensures.whole (c.both.ensures.one is)) again

pub returns-clause-sized : goal.returns-clause-sized
returns-clause-sized c bounds steps =
    let here = (goal.at.returns-clause-sized c).After-shorten-twin in
    let pair = c.requires.between in
    let few : 2 ^ 123 ≤ 2 ^ 125 = omega arith in
    let also : 2 ^ 123 + 2 ^ 123 + 2 ^ 123 ≤ 2 ^ 125 = omega arith in
    let moderate : IsModerateEnd (some_end c.args.stated.step) = λ z is. let own = steps z is in omega arith in
    let between = tightened_sized c.args.cells.now c.shorten-own.new.cells c.args.stated.high c.args.stated.low (some_end c.args.stated.step)
    (2 ^ 123) c.shorten-own.ensures.cells pair.from pair.to bounds steps in
    c.both.ensures.all
    (c.shorten-own.ensures.moderate moderate (sized_moderate (2 ^ 123) c.args.cells.now c.args.stated.high few bounds pair.from)
    (sized_moderate (2 ^ 123) c.args.cells.now c.args.stated.low few bounds pair.to))
    (c.shorten-twin.ensures.moderate moderate
    (sized_moderate (2 ^ 123 + 2 ^ 123 + 2 ^ 123) c.shorten-own.new.cells c.turned.result also between (from here))
    (sized_moderate (2 ^ 123 + 2 ^ 123 + 2 ^ 123) c.shorten-own.new.cells c.turned-2.result also between (to here)))
