-- A certificate to which families were added.
use Rattle.std.specs.Prelude.{◌≡◌, ℕ, List, ◌++◌}
use Rattle.step_meaning.specs.Syntax.{Statements}
use Rattle.control_flow.specs.Told.{Told}
use Rattle.ctl_formula.specs.Formulas.{Ctl}
use Rattle.decision_tree.specs.declared.affine_rank.AffineRank.{AffineRank}
use Rattle.decision_tree.specs.declared.family.Family.{Family}
use Rattle.ctl_rounds.specs.Certified.{Certifies}
use Rattle.ctl_rounds.specs.declared.certificate.Certificate.{Certificate}

-- The new one is a certificate of the formula. Its families of the whole are those of the old one, with more behind them, and all else of it is as it was.
pub record Refines (vars : ℕ) (body : Statements) (told : Told) (formula : Ctl) (old new : Certificate) : Type 0 where
  pub certified : Certifies vars body told formula new.parts new.tops
  pub prefix : (more : List (Family AffineRank)) × (new.tops ≡ old.tops ++ more)
  pub parts : new.parts ≡ old.parts
  pub turns : new.turns ≡ old.turns
