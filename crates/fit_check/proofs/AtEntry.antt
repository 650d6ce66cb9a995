-- The tree of the entry tells from which inputs runs fit.
use Rattle.std.proofs.Common.{◌≡◌, ℕ, ◌≤◌, true, refl, sym, ap, ◌∙◌, arith}
use Rattle.std.proofs.lemmas.Bool.{false≢true}
use Rattle.step_meaning.specs.Outcome.{Store}
use Rattle.step_meaning.specs.Run.{start}
use Rattle.step_meaning.specs.Syntax.{Statements}
use Rattle.control_flow.specs.Labels.{entry_of}
use Rattle.decision_tree.specs.declared.affine_rank.AffineRank.{AffineRank}
use Rattle.decision_tree.specs.declared.reason.Why.{Why}
use Rattle.decision_tree.specs.Evaluation.{eval}
use Rattle.decision_tree.specs.Plans.{Plan, bottom, branch, is_defined, leaf, top}
use Rattle.tree_support.specs.Setting.{Trees}
use Rattle.int_fit.specs.Fitting.{Fits}
use Rattle.int_fit.specs.Guarding.{guarded}
use Rattle.fit_check.specs.Safety.{FitsWhere, IsFitTree, TellsFit}

claimed : (end : Plan AffineRank) → is_defined end ≡ true → (why : Why) × (rank : AffineRank) × (end ≡ leaf why rank)
claimed bottom is = absurd (false≢true is)
claimed (top cause) is = absurd (false≢true is)
claimed (leaf why rank) is = (why, rank, refl)
claimed (branch row this that) is = absurd (false≢true is)

pub entry_fits : (vars : ℕ) (body : Statements) (family : Trees AffineRank) → TellsFit vars body family → (tree : Plan AffineRank)
    → tree ≡ family (entry_of body) → FitsWhere vars body tree
entry_fits vars body family tells tree same input is defined =
    let claim = claimed (eval tree input) defined in
    tells.inputs input claim.0 claim.1 is (ap (λ t. eval t input) (sym same) ∙ claim.2)

-- a tree that makes no claim
pub nothing_fits : (vars : ℕ) (body : Statements) → IsFitTree vars body bottom
nothing_fits vars body = record { fits = λ input is defined. absurd (false≢true defined); over = tt; complements = tt }

-- that of a guarded program is one of the program
pub behind_guard : (vars : ℕ) (body : Statements) (tree : Plan AffineRank) → vars ≤ 15
    → ((vars : ℕ) (body : Statements) (input : Store) → vars ≤ 16 → Fits (start (guarded vars body) input) → Fits (start body input))
    → IsFitTree vars (guarded vars body) tree → IsFitTree vars body tree
behind_guard vars body tree few passes is = record {
  fits = λ input is_input defined. passes vars body input (omega arith) (is.fits input is_input defined);
  over = is.over;
  complements = is.complements;
}
