-- What is found on the way to a certificate.
use Rattle.std.specs.Prelude.{ℕ, ◌≤◌, ◌^◌, List, [], ◌∷◌, Option, None, All, length}
use Rattle.step_meaning.specs.Syntax.{Statements, statements}
use Rattle.ctl_formula.specs.Formulas.{Ctl}
use Rattle.ctl_formula.specs.Mirror.{ctl}
use Rattle.decision_tree.specs.declared.affine_rank.AffineRank.{AffineRank}
use Rattle.decision_tree.specs.declared.family.Family.{Family}
use Rattle.decision_tree.specs.Plans.{Plan}
use Rattle.num_domain.specs.declared.domain.NumDomain.{Ghosts as Domain}
use Rattle.part_families.specs.Knowing.{ArePremises, told_on}
use Rattle.part_families.specs.Showing.{AreSmaller, Shows, all_of}
use Rattle.ctl_rounds.specs.Covers.{Covers, at_entry, IsFitToBegin, claims_of}
use Rattle.normal_form.specs.Operators.{HasNoNegation}
use Rattle.exact_families.specs.Completeness.{IsLoopless}
use Rattle.formula_measures.specs.Measures.{ctl_growth}
use Rattle.part_families.specs.Families.{IsExact, IsNarrowFor, IsUncut, IsWithin}
use Rattle.ctl_rounds.specs.Bounds.{CoversInputs, FindsInputs}
use Rattle.ctl_rounds.specs.declared.inquiry.Inquiry.{Inquiry}

-- the first of the families is such
abbrev pub FirstIs : (Family AffineRank → Type 0) → List (Family AffineRank) → Type 0
FirstIs IsSuch [] = ⊥
FirstIs IsSuch (family ∷ more) = IsSuch family

module _ {D : Type 0} (inquiry : Inquiry D) where
  abbrev pub vars_of : ℕ
  vars_of = length inquiry.premises.now.graph.now.names

  abbrev pub body_of : Statements
  body_of = statements inquiry.premises.now.graph.now.body

  abbrev pub formula_of : Ctl
  formula_of = ctl inquiry.formula.now

  -- In a plain program without loops the first family is defined wherever the formula holds: if no leaf of it or of the families of the smaller
  -- parts was given up, and where the formula is within the measures of the program.
  abbrev pub BeginsExactly : List (Family AffineRank) → Type 0
  BeginsExactly tops =
      IsLoopless body_of → HasNoNegation formula_of
      → (All IsUncut (all_of inquiry.smaller.now) → FirstIs (IsExact body_of formula_of) tops)
      × (IsWithin vars_of body_of formula_of → FirstIs (IsNarrowFor vars_of body_of formula_of) tops)

  -- And the cover of the families is defined at each input from which it holds: if the first tree has at most 4,096 nodes, and within the measures. Where
  -- the growth is at most 2^60 the way of such an input, if its numbers are small, is found within 128 bits.
  abbrev pub CoversExactly : List (Family AffineRank) → Option (Plan AffineRank) → Type 0
  CoversExactly tops cover =
      IsLoopless body_of → HasNoNegation formula_of
      → (All IsUncut (all_of inquiry.smaller.now) → FirstIs (IsFitToBegin body_of) tops → CoversInputs vars_of body_of formula_of (claims_of cover))
      × (IsWithin vars_of body_of formula_of → CoversInputs vars_of body_of formula_of (claims_of cover))
      × (IsWithin vars_of body_of formula_of → ctl_growth body_of formula_of ≤ 2 ^ 60 → FindsInputs vars_of body_of formula_of (claims_of cover))

module _ {D : Type 0} (domain : Domain D) (inquiry : Inquiry D) where
  -- What is known of the program is so, and the families show the smaller parts of the formula, whose numbers begin with 0.
  pub record IsInquiry : Type 0 where
    pub premises : ArePremises domain inquiry.premises.now
    pub smaller : AreSmaller inquiry.premises.now.graph.now (told_on domain inquiry.premises.now) inquiry.premises.now.labels 0
        (ctl inquiry.formula.now) inquiry.smaller.now

  -- the family shows the whole formula over those of its operands
  abbrev pub IsTop : Family AffineRank → Type 0
  IsTop family =
      Shows inquiry.premises.now.graph.now (told_on domain inquiry.premises.now) (ctl inquiry.formula.now) inquiry.smaller.now.number
      inquiry.smaller.now.operands.items family

  -- families of the whole formula, and the cover so far of what they say of inputs
  pub record AreFoundSoFar (tops : List (Family AffineRank)) (so_far : Option (Plan AffineRank)) : Type 0 where
    pub families : All IsTop tops
    pub firsts : Covers None (at_entry (statements inquiry.premises.now.graph.now.body) tops) so_far
