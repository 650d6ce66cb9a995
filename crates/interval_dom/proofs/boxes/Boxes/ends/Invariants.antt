use Rattle.std.proofs.Common.{◌≡◌, ◌<◌, ℕ, length, get_or, None}
use Rattle.interval_dom.specs.Boxes.{ends_of}
use Rattle.interval_dom.specs.Laws.BoxLaws.{interval_at}
use Rattle.interval_dom.proofs.boxes.Boxes.ends.Given as goal

abbrev pub invariant-loop-place : goal.invariant-loop-place
invariant-loop-place l = (length l.ends ≡ 16) × ((i : ℕ) → i < l.place → get_or l.ends i (None, None) ≡ ends_of (interval_at l.self i))
