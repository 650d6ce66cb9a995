use Rattle.std.proofs.Common.{ℤ, List, pos, ◌≤ℤ◌, ◌<ℤ◌}
use Rattle.linear_cons.specs.Functions.{form_at}
use Rattle.linear_cons.specs.Rows.{PointMeetsAll}
use Rattle.linear_solve.proofs.certificate.adds_up.Given as goal

abbrev pub invariant-loop-multiple : goal.invariant-loop-multiple
invariant-loop-multiple l = (num : List ℤ) (den : ℤ) → pos 0 <ℤ den → PointMeetsAll num den l.rows → pos 0 ≤ℤ form_at l.sum num den
