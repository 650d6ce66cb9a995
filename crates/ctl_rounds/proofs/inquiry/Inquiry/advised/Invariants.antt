use Rattle.std.proofs.Common.{◌≡◌, ◌≤◌, ◌<◌, ◌-◌, length, option_map}
use Rattle.step_meaning.specs.Syntax.{statements}
use Rattle.decision_tree.specs.Plans.{plan_of}
use Rattle.exact_families.specs.Completeness.{IsLoopless}
use Rattle.ctl_rounds.specs.Asked.{RoseBy}
use Rattle.ctl_rounds.specs.Finding.{AreFoundSoFar, BeginsExactly}
use Rattle.ctl_rounds.proofs.inquiry.Inquiry.advised.Given as goal

abbrev pub invariant-loop-turns : goal.invariant-loop-turns
invariant-loop-turns g l =
    AreFoundSoFar g.D.NumDomain l.self l.found.tops.items (option_map plan_of l.found.cover)
    × (0 < length l.found.tops.items)
    × (l.turns ≤ 8)
    × RoseBy (λ a. (goal.Adviser-dyn g (a.vtable, a.value)).asked_of a.value) l.turns l.initial.advisers.items l.advisers.items
    × BeginsExactly l.self l.found.tops.items
    × (IsLoopless (statements l.self.premises.now.graph.now.body) → length l.found.tops.items ≡ 1)

abbrev pub decreases-loop-turns : goal.decreases-loop-turns
decreases-loop-turns g l = 8 - l.turns
