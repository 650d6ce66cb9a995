use Rattle.std.proofs.Common.{pos, ap, ◌∙◌, ℕ}
use Rattle.linear_cons.proofs.Places.{number_at_places}
use Rattle.linear_cons.specs.Functions.{coefficient}
use Rattle.linear_cons.specs.declared.affine.Affine.{Affine}
use Rattle.layer_tests.proofs.reports.claimed.Goals as goal

pub returns-clause-constant : goal.returns-clause-constant
returns-clause-constant c = rw c.in_ok-tree.ensures (λ i low. ap (λ (a : Affine). coefficient a i) c.constant.ensures ∙ number_at_places (λ (j : ℕ). pos 0) i low)
