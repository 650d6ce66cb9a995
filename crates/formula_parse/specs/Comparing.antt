-- What a comparison of two affine functions means, and when its numbers fit 128 bits. Its rows are those that a comparison in a test of a
-- program comes down to.
use Rattle.std.specs.Prelude.{Bool, true, false, pos, List, [], ◌∷◌, ⊤}
use Rattle.linear_cons.specs.declared.affine.Affine.{Affine}
use Rattle.linear_cons.specs.declared.row.RowKind.{RowKind}
use Rattle.linear_cons.specs.declared.row.RowKind.TheVariants.{Always, Never, Row as Kept}
use Rattle.linear_cons.specs.Ends.{exactly}
use Rattle.linear_cons.specs.Functions.{NumbersFit, constant_of, difference_of}
use Rattle.linear_cons.specs.Rows.{row_kind_of}
use Rattle.step_meaning.specs.declared.expression.Op2.{Op2}
use Rattle.step_meaning.specs.declared.expression.Op2.TheVariants as Op
use Rattle.linear_forms.specs.Spreading.{Claim, claims}
use Rattle.ctl_formula.specs.Formulas.{Ctl, truth, falsity, both, either}
use Rattle.ctl_formula.specs.Mirror.{ctl_of_kind}
use Rattle.normal_form.specs.Rows.{HasComplement}
use Rattle.formula_syntax.specs.declared.sign.Comparison.{Comparison}
use Rattle.formula_syntax.specs.declared.sign.Comparison.TheVariants.{Equal, NotEqual, Less, LessEqual, Greater, GreaterEqual}

-- the comparison as an operator of programs
abbrev pub operator_of : Comparison → Op2
operator_of Equal = Op.Equal
operator_of NotEqual = Op.NotEqual
operator_of Less = Op.Less
operator_of LessEqual = Op.LessEqual
operator_of Greater = Op.Greater
operator_of GreaterEqual = Op.GreaterEqual

-- the conjunctions of claims that a comparison of two affine functions is
abbrev pub claims_of : Comparison → Affine → Affine → List (List Claim)
claims_of comparison a b = claims (operator_of comparison) (exactly a) (exactly b)

-- the greater side of a claim less the smaller one, and that less 1
abbrev pub difference_in : Claim → Affine
difference_in claim = difference_of claim.greater.affine claim.smaller.affine

abbrev pub less_1 : Affine → Affine
less_1 a = difference_of a (constant_of (pos 1))

-- the function that is at least 0 exactly where the claim holds
abbrev pub margin_by : Bool → Affine → Affine
margin_by true difference = less_1 difference
margin_by false difference = difference

abbrev pub margin : Claim → Affine
margin claim = margin_by claim.is_strict (difference_in claim)

-- a claim as a formula
abbrev pub row_of : Claim → Ctl
row_of claim = ctl_of_kind (row_kind_of (margin claim))

-- all claims of a conjunction as a formula, a first one and more
abbrev pub all_of : Claim → List Claim → Ctl
all_of claim [] = row_of claim
all_of claim (next ∷ more) = both (row_of claim) (all_of next more)

abbrev pub all_hold : List Claim → Ctl
all_hold [] = truth
all_hold (claim ∷ more) = all_of claim more

-- one of some conjunctions, a first one and more
abbrev pub one_of : List Claim → List (List Claim) → Ctl
one_of conjunction [] = all_hold conjunction
one_of conjunction (next ∷ more) = either (all_hold conjunction) (one_of next more)

abbrev pub one_holds : List (List Claim) → Ctl
one_holds [] = falsity
one_holds (conjunction ∷ more) = one_of conjunction more

-- a comparison as a formula: one of its conjunctions holds
abbrev pub comparing : Comparison → Affine → Affine → Ctl
comparing comparison a b = one_holds (claims_of comparison a b)

-- the numbers of a row's complement fit
abbrev pub ComplementFits : RowKind → Type 0
ComplementFits Always = ⊤
ComplementFits Never = ⊤
ComplementFits (Kept row) = HasComplement row.affine

-- the numbers that a claim forms fit: those of the difference, of it less 1 where that is taken off, and of the complement of its row
abbrev pub FitsBy : Bool → Affine → Type 0
FitsBy true difference = NumbersFit difference × NumbersFit (less_1 difference) × ComplementFits (row_kind_of (less_1 difference))
FitsBy false difference = NumbersFit difference × ComplementFits (row_kind_of difference)

abbrev pub ClaimFits : Claim → Type 0
ClaimFits claim = FitsBy claim.is_strict (difference_in claim)

-- so do those of all claims
abbrev pub ClaimsFit : List Claim → Type 0
ClaimsFit [] = ⊤
ClaimsFit (claim ∷ more) = ClaimFits claim × ClaimsFit more

abbrev pub AllClaimsFit : List (List Claim) → Type 0
AllClaimsFit [] = ⊤
AllClaimsFit (conjunction ∷ more) = ClaimsFit conjunction × AllClaimsFit more

abbrev pub ComparisonFits : Comparison → Affine → Affine → Type 0
ComparisonFits comparison a b = AllClaimsFit (claims_of comparison a b)
