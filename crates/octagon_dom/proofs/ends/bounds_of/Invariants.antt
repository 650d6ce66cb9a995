use Rattle.std.proofs.Common.{◌≡◌, ◌<◌, ℕ, None, get_or, length}
use Rattle.octagon_dom.specs.Octagons.{ends_at}
use Rattle.octagon_dom.proofs.ends.bounds_of.Given as goal

abbrev pub invariant-loop-place : goal.invariant-loop-place
invariant-loop-place l = (length l.ends ≡ 16) × ((i : ℕ) → i < l.place → get_or l.ends i (None, None) ≡ ends_at l.cells i)
