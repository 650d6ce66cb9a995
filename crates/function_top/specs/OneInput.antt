-- What is told of one input: a claim alone.
use Rattle.std.specs.Prelude.{◌≡◌, ◌⊎◌, List, [], ◌∷◌, ⊤}
use Rattle.step_meaning.specs.Outcome.{Store}
use Rattle.linear_cons.specs.declared.affine.Affine.{Affine}
use Rattle.linear_cons.specs.Functions.{PartsFit, constant_of, value_at}
use Rattle.decision_tree.specs.declared.affine_rank.AffineRank.{AffineRank}
use Rattle.decision_tree.specs.declared.reason.Why.{Why}
use Rattle.decision_tree.specs.Evaluation.{WayFits, eval}
use Rattle.decision_tree.specs.Plans.{Plan, leaf, plan_of}
use Rattle.line_text.specs.declared.claim.Claim.{Claim}
use Rattle.line_text.specs.declared.claim.Claim.TheVariants.{Exactly, Within, Holds, Ranked, Fits, Unknown}
use Rattle.report_text.specs.declared.line.Top.TheVariants.{Exact as Counted}
use Rattle.ordinal_rank.specs.declared.ordinal.OrdinalRank.{OrdinalRank}
use Rattle.report_text.specs.Leaves.{claim_of}
use Rattle.report_text.specs.Ranked.{ordinal_claim}
use Rattle.function_top.specs.declared.found.Exact.{Exact}
use Rattle.function_top.specs.declared.found.Exact.TheVariants.{Made, Unasked, Unmade}
use Rattle.function_top.specs.declared.found.Found.{Found}
use Rattle.function_top.specs.declared.status.Status.{Status}
use Rattle.function_top.specs.declared.status.Status.TheVariants.{AllInputs, SomeInputs}

-- the input's way through the tree is found within 128 bits, and leads to a leaf of this rank
pub record LeadsTo {R : Type 0} (tree : Plan R) (input : Store) (rank : R) : Type 0 where
  pub fits : WayFits tree input
  pub why : Why
  pub is : eval tree input ≡ leaf why rank

-- it leads to one of the exact part's tree, where there is one
abbrev pub LeadsExactly : Exact → Store → AffineRank → Type 0
LeadsExactly Unasked input rank = ⊥
LeadsExactly (Unmade stop) input rank = ⊥
LeadsExactly (Made tests stop tree) input rank = LeadsTo (plan_of tree) input rank

-- A function is told by its value at the input; where the value, or a number that it is summed up from, doesn't fit 128 bits, as it stands.
abbrev pub IsToldAs : Affine → Store → Affine → Type 0
IsToldAs bound input told = (PartsFit bound input × (told ≡ constant_of (value_at bound input))) ⊎ ((¬ PartsFit bound input) × (told ≡ bound))

-- several functions so, one by one
abbrev pub AreToldAs : List Affine → Store → List Affine → Type 0
AreToldAs [] input [] = ⊤
AreToldAs [] input (told ∷ more) = ⊥
AreToldAs (function ∷ rest) input [] = ⊥
AreToldAs (function ∷ rest) input (told ∷ more) = IsToldAs function input told × AreToldAs rest input more

-- what a leaf claims, as it is told of the input
abbrev pub IsTold : Claim → Store → Claim → Type 0
IsTold (Within bound) input claim = (told : Affine) × IsToldAs bound input told × (claim ≡ Within told)
IsTold (Exactly number) input claim = claim ≡ Exactly number
IsTold Holds input claim = claim ≡ Holds
IsTold (Ranked functions) input claim =
    (told : List Affine) × AreToldAs functions input told × (claim ≡ Ranked told)
IsTold Fits input claim = claim ≡ Fits
IsTold Unknown input claim = claim ≡ Unknown

-- the exact part claims this of the input
abbrev pub IsToldExactly : Found → Store → Claim → Type 0
IsToldExactly found input claim = (rank : AffineRank) × LeadsExactly found.exact input rank × (claim ≡ claim_of Counted rank)

-- it claims nothing of it
abbrev pub IsNotToldExactly : Found → Store → Type 0
IsNotToldExactly found input = (rank : AffineRank) → ¬ LeadsExactly found.exact input rank

-- the cover claims this, and so does the tree of ordinal ranks
abbrev pub IsToldByCover : Found → Store → Claim → Type 0
IsToldByCover found input claim = (rank : AffineRank) × LeadsTo (plan_of found.cover) input rank × IsTold (claim_of found.claims rank) input claim

abbrev pub IsToldByRank : Found → Store → Claim → Type 0
IsToldByRank found input claim = (rank : OrdinalRank) × LeadsTo (plan_of found.ranked) input rank × IsTold (ordinal_claim rank) input claim

-- neither claims anything of it
abbrev pub IsNotToldByCover : Found → Store → Type 0
IsNotToldByCover found input = (rank : AffineRank) → ¬ LeadsTo (plan_of found.cover) input rank

abbrev pub IsNotToldByRank : Found → Store → Type 0
IsNotToldByRank found input = (rank : OrdinalRank) → ¬ LeadsTo (plan_of found.ranked) input rank

-- By what was found this is told of the input, and the status says whether anything is claimed: what the exact part claims of it, else what the
-- cover does, else what the tree of ordinal ranks does, else that it is unknown.
abbrev pub IsToldOf : Found → Store → Status → Claim → Type 0
IsToldOf found input status claim =
    ((status ≡ AllInputs) × (IsToldExactly found input claim ⊎ (IsNotToldExactly found input
    × (IsToldByCover found input claim ⊎ (IsNotToldByCover found input × IsToldByRank found input claim)))))
    ⊎ ((status ≡ SomeInputs) × IsNotToldExactly found input × IsNotToldByCover found input × IsNotToldByRank found input × (claim ≡ Unknown))
