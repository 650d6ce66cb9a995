use Rattle.std.proofs.Common.{◌<◌, ◌≤◌, ◌+◌, ◌∷◌, ◌++◌, drop, length, true, false, refl, sym, ap, subst, ◌∙◌, arith}
use Rattle.decision_tree.specs.Alternatives.{lists_of, rows_of}
use Rattle.constraint_stack.specs.Stacks.{all_chosen}
use Rattle.constraint_stack.specs.Searches.{IsTriedWith, alternatives_of}
use Rattle.decision_tree.proofs.Comparing.{dropped_all, dropped_next}
use Rattle.constraint_stack.proofs.Choosing.{first_tried, held_same, last_nowhere, rest_nowhere, rest_tried}
use Rattle.constraint_stack.proofs.claim.+try_from.Goals as goal
use Rattle.constraint_stack.proofs.claim.+try_from.Goals.{then-branch-2+in_ok-refuted-2, else-branch-2}

pub returns-then-branch-clause-tried : goal.returns-then-branch-clause-tried
returns-then-branch-clause-tried g t c items held =
    let all = alternatives_of g.R.Rank c.args.asked.now in
    let low : c.args.number < length all = let few = c.requires.number in let long = c.requires.parts in omega (arith, few, long) in
    let parts = dropped_next all c.args.number (c.args.number + 1) c.args.part.now refl low c.requires.part in
    subst (λ list. IsTriedWith items (lists_of list) c.args.edge true c.try_one.new.found) (sym parts)
    (first_tried items c.args.part.now (drop (c.args.number + 1) all) c.args.edge c.try_one.new.found (rw c.if-branch.true at (c.in_ok-try_one.ensures.tried items held)))

pub overflow_add-next : goal.overflow_add-next
overflow_add-next g t c =
    let few = c.requires.number in
    let small = c.PARTS-parts.type_inv in
    let is = c.PARTS-parts.ensures in
    omega (arith, few, small, is)

pub returns-then-next-parts-clause-tried : goal.returns-then-next-parts-clause-tried
returns-then-next-parts-clause-tried g t c items held =
    let all = alternatives_of g.R.Rank c.args.asked.now in
    let few = c.requires.number in
    let long = c.requires.parts in
    let is = c.PARTS-parts.ensures in
    let last = c.if-next-parts.true in
    let low : c.args.number < length all = omega (arith, few, long) in
    let end : length all ≤ c.args.number + 1 = omega (arith, long, is, last) in
    let parts = dropped_next all c.args.number (c.args.number + 1) c.args.part.now refl low c.requires.part
    ∙ ap (λ rest. c.args.part.now ∷ rest) (dropped_all all (c.args.number + 1) end) in
    subst (λ list. IsTriedWith items (lists_of list) c.args.edge false c.try_one.new.found) (sym parts)
    (last_nowhere items c.args.part.now c.args.edge c.try_one.new.found (rw c.if-branch.false at (c.in_ok-try_one.ensures.tried items held)))

pub returns-clause-tried : goal.returns-clause-tried
returns-clause-tried g t c items held =
    let all = alternatives_of g.R.Rank c.args.asked.now in
    let low : c.args.number < length all = let few = c.requires.number in let long = c.requires.parts in omega (arith, few, long) in
    let rest = drop (c.args.number + 1) all in
    let parts = dropped_next all c.args.number (c.args.number + 1) c.args.part.now refl low c.requires.part in
    let first = rw c.if-branch.false at (c.in_ok-try_one.ensures.tried items held) in
    let here = held_same items c.args.stack.now c.try_one.new.stack c.in_ok-try_one.ensures.same held in
    elim c.if-branch-2.branch [
      | then-branch-2+in_ok-refuted-2 w ↦ rw (w.refuted-is, w.found-is)
          (subst (λ list. IsTriedWith items (lists_of list) c.args.edge w.in_ok-refuted-2.refuted w.try_from.new.found) (sym parts)
          (rest_tried items c.args.part.now rest c.args.edge w.in_ok-refuted-2.refuted w.try_from.new.found first
          (w.in_ok-refuted-2.ensures.tried (items ++ all_chosen (rows_of c.args.part.now.same)) (c.in_ok-refuted.ensures.held w.if-branch-2.true items here))))
      | else-branch-2 w ↦ rw (w.refuted-is, w.found-is, w.if-branch-2.false)
          (subst (λ list. IsTriedWith items (lists_of list) c.args.edge false c.try_one.new.found) (sym parts)
          (rest_nowhere items c.args.part.now rest c.args.edge c.try_one.new.found first (c.in_ok-refuted.ensures.nowhere w.if-branch-2.false items here)))
    ]
