use Rattle.std.proofs.Common.{◌≡◌, ◌<◌, length, option_map}
use Rattle.decision_tree.specs.Plans.{plan_of}
use Rattle.ctl_rounds.specs.Finding.{AreFoundSoFar, BeginsExactly}
use Rattle.ctl_rounds.proofs.inquiry.Inquiry.begin.Given as goal

abbrev pub invariant-loop-place : goal.invariant-loop-place
invariant-loop-place g l =
    AreFoundSoFar g.D.NumDomain l.self l.found.tops.items (option_map plan_of l.found.cover)
    × (0 < length l.initial.found.tops.items → 0 < length l.found.tops.items)
    × (BeginsExactly l.self l.initial.found.tops.items → BeginsExactly l.self l.found.tops.items)
    × (l.found.turns ≡ l.initial.found.turns)
