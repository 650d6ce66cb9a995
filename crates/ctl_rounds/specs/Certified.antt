-- What a certificate is: families that show the smaller parts of a formula, and families that show the whole of it.
use Rattle.std.specs.Prelude.{◌≡◌, ℕ, ◌<◌, List, All, length, map}
use Rattle.step_meaning.specs.Syntax.{Statements}
use Rattle.ctl_formula.specs.Formulas.{Ctl}
use Rattle.ctl_formula.specs.Parts.{number_from}
use Rattle.decision_tree.specs.declared.affine_rank.AffineRank.{AffineRank}
use Rattle.decision_tree.specs.declared.family.Family.{Family}
use Rattle.tree_check.specs.Checking.{families_of}
use Rattle.tree_support.specs.Certificates.{IsCertificate}
use Rattle.control_flow.specs.Told.{Told}
pub use Rattle.part_families.specs.Families.{AreNumberedFrom, IsFamilyFor, trees_of}

-- The families are a certificate of the formula: one family for each smaller part, in the order of their numbers, and at least one of the
-- whole, each supported over those of its operands.
pub record Certifies (vars : ℕ) (body : Statements) (told : Told) (formula : Ctl) (parts tops : List (Family AffineRank)) : Type 0 where
  pub some : 0 < length tops
  pub shown : IsCertificate body told formula (families_of parts) (map trees_of tops)
  pub each_part : length parts ≡ number_from 0 formula
  pub part_numbers : AreNumberedFrom 0 parts
  pub top_numbers : All (λ family. family.part ≡ number_from 0 formula) tops
  pub smaller : All (IsFamilyFor vars body) parts
  pub whole : All (IsFamilyFor vars body) tops
