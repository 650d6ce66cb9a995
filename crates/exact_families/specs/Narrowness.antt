-- Families whose trees are as small, and their numbers as narrow, as a program and a formula tell.
use Rattle.std.specs.Prelude.{◌≡◌, ℕ, ◌-◌, ◌<◌, ◌≤◌, false, List, [], length, ⊤}
use Rattle.step_meaning.specs.Syntax.{Statements}
use Rattle.linear_cons.specs.Functions.{IsOver}
use Rattle.linear_cons.specs.declared.row.Row.{Row}
use Rattle.control_flow.specs.Growth.{factor_at, product_below}
use Rattle.control_flow.specs.Labels.{all_labels}
use Rattle.ctl_formula.specs.Formulas.{Ctl, truth, falsity, exit, not_exit, always, never, least, negation, both, either, next, until, weak}
use Rattle.decision_tree.specs.Plans.{Plan, size_of}
use Rattle.decision_tree.specs.declared.affine_rank.AffineRank.{AffineRank}
use Rattle.decision_tree.specs.declared.reason.Pick.TheVariants.{All as Every, Yes, No, Value}
use Rattle.decision_tree.specs.declared.reason.Why.{Why}
use Rattle.decision_tree.specs.declared.reason.Why.TheVariants.{Atom, Both, Dead, End, Left, Now, Right, Step}
use Rattle.tree_support.specs.Setting.{Trees}
use Rattle.unroll.specs.Within.{EachIs, IsSteps, IsWithin, place_by}
use Rattle.exact_families.specs.Completeness.{IsComplete}
use Rattle.formula_measures.specs.Measures.{ctl_growth, part_size}

-- no value is picked
abbrev pub NoValue : Why → Type 0
NoValue (Step (Value a)) = ⊥
NoValue (Step Every) = ⊤
NoValue (Step Yes) = ⊤
NoValue (Step No) = ⊤
NoValue End = ⊤
NoValue Atom = ⊤
NoValue Both = ⊤
NoValue Left = ⊤
NoValue Right = ⊤
NoValue Now = ⊤
NoValue Dead = ⊤

-- the row's numbers, times the factors of the assignments that it has yet to be moved over, are at most `most`; it is over the variables
abbrev pub IsRowAt : ℕ → Statements → ℕ → ℕ → Row → Type 0
IsRowAt most body vars l row =
    IsWithin (product_below (factor_at body) (place_by false (length (all_labels body)) l)) most row × IsOver vars row.affine

-- the rank is a number of steps, at most those that are left to the end
abbrev pub IsRankAt : Statements → ℕ → AffineRank → Type 0
IsRankAt body l rank = IsSteps (length (all_labels body) - place_by false (length (all_labels body)) l) rank

-- so are each row of the label's tree, by the growth of the part, and each rank; no value is picked, and the tree is as small as the part's size
pub record IsNarrowAt (vars : ℕ) (body : Statements) (f : Ctl) (l : ℕ) (plan : Plan AffineRank) : Type 0 where
  pub each : EachIs (IsRowAt (ctl_growth body f) body vars l) (λ why rank. NoValue why × IsRankAt body l rank) plan
  pub small : size_of plan ≤ part_size body f l

abbrev pub IsNarrow : ℕ → Statements → Ctl → Trees AffineRank → Type 0
IsNarrow vars body f family = (l : ℕ) → l < length (all_labels body) → IsNarrowAt vars body f l (family l)

-- there are no trees of a part that the formula doesn't have
abbrev pub HasNoMore : Ctl → List (Plan AffineRank) → List (Plan AffineRank) → Type 0
HasNoMore (both f g) first second = ⊤
HasNoMore (either f g) first second = ⊤
HasNoMore (until all f g) first second = ⊤
HasNoMore (weak all f g) first second = ⊤
HasNoMore (next all f) first second = second ≡ []
HasNoMore (negation f) first second = second ≡ []
HasNoMore truth first second = (first ≡ []) × (second ≡ [])
HasNoMore falsity first second = (first ≡ []) × (second ≡ [])
HasNoMore exit first second = (first ≡ []) × (second ≡ [])
HasNoMore not_exit first second = (first ≡ []) × (second ≡ [])
HasNoMore always first second = (first ≡ []) × (second ≡ [])
HasNoMore never first second = (first ≡ []) × (second ≡ [])
HasNoMore (least a) first second = (first ≡ []) × (second ≡ [])

-- narrow, and defined wherever the formula holds
abbrev pub IsNarrowAndComplete : ℕ → Statements → Ctl → Trees AffineRank → Type 0
IsNarrowAndComplete vars body f family = IsNarrow vars body f family × IsComplete body f family
