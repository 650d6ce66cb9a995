-- Families that miss no state in which their formula holds.
use Rattle.std.specs.Prelude.{◌≡◌, ℕ, zero, suc, ◌<◌, true, List, length, ⊤}
use Rattle.step_meaning.specs.Counts.{HasNoLoop}
use Rattle.step_meaning.specs.Outcome.{Store}
use Rattle.step_meaning.specs.Syntax.{Statements}
use Rattle.control_flow.specs.Edges.{configuration}
use Rattle.control_flow.specs.Fitting.{IsFitting}
use Rattle.control_flow.specs.Labels.{all_labels}
use Rattle.ctl_formula.specs.Formulas.{Ctl, truth, falsity, exit, not_exit, always, never, least, negation, both, either, next, until, weak}
use Rattle.ctl_formula.specs.Satisfaction.{Sat}
use Rattle.decision_tree.specs.Evaluation.{eval}
use Rattle.decision_tree.specs.Plans.{Plan, bottom, branch, is_defined, leaf, top}
use Rattle.decision_tree.specs.declared.affine_rank.AffineRank.{AffineRank}
use Rattle.backward_transfer.specs.AffineShapes.{tree_at}
use Rattle.tree_support.specs.Setting.{Trees}

-- no leaf of the tree was given up
abbrev pub NoneGivenUp : Plan AffineRank → Type 0
NoneGivenUp (branch row this that) = NoneGivenUp this × NoneGivenUp that
NoneGivenUp (leaf why rank) = ⊤
NoneGivenUp bottom = ⊤
NoneGivenUp (top cause) = ⊥

-- a tree of which no leaf was given up is as it was
abbrev pub AreKept : List (Plan AffineRank) → List (Plan AffineRank) → Type 0
AreKept trees kept = (label : ℕ) → NoneGivenUp (tree_at kept label) → tree_at kept label ≡ tree_at trees label

-- a plain program without loops, whose numbers fit 128 bits
pub record IsLoopless (body : Statements) : Type 0 where
  pub free : HasNoLoop body
  pub fitting : IsFitting body

-- at each label the tree is defined wherever the formula holds
abbrev pub IsComplete : Statements → Ctl → Trees AffineRank → Type 0
IsComplete body formula family =
    (label : ℕ) (store : Store) → label < length (all_labels body) → length store ≡ 16 → Sat formula (configuration body label store)
    → is_defined (eval (family label) store) ≡ true

-- something holds of the families of the formula's parts; no normal form has a negation
abbrev pub EachPart : (Ctl → Trees AffineRank → Type 0) → Ctl → (ℕ → Trees AffineRank) → Type 0
EachPart P (both f g) parts = P f (parts 0) × P g (parts 1)
EachPart P (either f g) parts = P f (parts 0) × P g (parts 1)
EachPart P (next all f) parts = P f (parts 0)
EachPart P (until all f g) parts = P f (parts 0) × P g (parts 1)
EachPart P (weak all f g) parts = P f (parts 0) × P g (parts 1)
EachPart P (negation f) parts = ⊥
EachPart P truth parts = ⊤
EachPart P falsity parts = ⊤
EachPart P exit parts = ⊤
EachPart P not_exit parts = ⊤
EachPart P always parts = ⊤
EachPart P never parts = ⊤
EachPart P (least a) parts = ⊤

-- the families of a first and a second part, and of no other
abbrev pub two_parts : List (Plan AffineRank) → List (Plan AffineRank) → ℕ → Trees AffineRank
two_parts first second zero label = tree_at first label
two_parts first second (suc zero) label = tree_at second label
two_parts first second (suc (suc place)) label = bottom
