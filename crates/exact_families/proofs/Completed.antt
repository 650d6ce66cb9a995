-- The trees that are proposed in a plain program without loops, of which none is given up, are defined wherever the formula holds.
use Rattle.std.specs.Prelude.{⊤}
use Rattle.std.proofs.Common.{◌≡◌, ◌⊎◌, inl, inr, ⊎_elim, ℕ, zero, suc, ◌<◌, ◌≤◌, List, [], ◌∷◌, length, refl, sym, ap, subst, ◌∙◌, arith}
use Rattle.step_meaning.specs.Counts.{HasNoLoop}
use Rattle.step_meaning.specs.Syntax.{Statements}
use Rattle.step_meaning.specs.Valid.{IsBody}
use Rattle.decision_tree.specs.Plans.{Plan, bottom, is_defined}
use Rattle.decision_tree.specs.declared.affine_rank.AffineRank.{AffineRank}
use Rattle.control_flow.specs.Edges.{configuration}
use Rattle.control_flow.specs.Fitting.{IsFitting}
use Rattle.control_flow.specs.Labels.{all_labels}
use Rattle.ctl_formula.specs.declared.formula.Formula.{Formula}
use Rattle.ctl_formula.specs.Formulas.{Ctl}
use Rattle.ctl_formula.specs.Mirror.{ctl}
use Rattle.tree_support.specs.Arcs.{flow_of}
use Rattle.control_flow.specs.Told.{Told}
use Rattle.control_flow.specs.Transitions.{AreTold}
use Rattle.control_flow.specs.declared.transition.Transition.{Transition}
use Rattle.backward_transfer.specs.AffineShapes.{tree_at}
use Rattle.part_trees.specs.Proposed.{AreProposed}
use Rattle.tree_support.specs.Setting.{Trees, setting_of}
use Rattle.unroll.specs.Levels.{RanksCount}
use Rattle.exact_families.specs.Shut.{AllShut}
use Rattle.exact_families.specs.Completeness.{EachPart, IsComplete, NoneGivenUp, two_parts}
use Rattle.exact_families.proofs.Assembly.{families_shut}
use Rattle.exact_families.proofs.Counting.{before_counts, family_counts, map_part}
use Rattle.exact_families.proofs.Deeds.{Deed}
use Rattle.exact_families.proofs.Programs.{deeds, flows, program}
use Rattle.exact_families.proofs.Proposing.{proposed_made}
use Rattle.exact_families.proofs.StoreJudges.{judged_eval}
use Rattle.exact_families.proofs.Whole.{Complete, IsMade, complete}

-- past the trees of a list nothing is claimed
pub past_trees : (trees : List (Plan AffineRank)) (l : ℕ) → length trees ≤ l → tree_at trees l ≡ bottom
past_trees [] l past = refl
past_trees (x ∷ xs) zero past = absurd (omega arith)
past_trees (x ∷ xs) (suc l) past = past_trees xs l (omega arith)

pub below_or : (a b : ℕ) → (a < b) ⊎ (b ≤ a)
below_or a zero = inr (omega arith)
below_or zero (suc b) = inl (omega arith)
below_or (suc a) (suc b) = ⊎_elim (λ less. inl (omega (arith, less))) (λ more. inr (omega (arith, more))) (below_or a b)

module _ (body : Statements) (vars : ℕ) (few : vars ≤ 15) (valid : IsBody vars body) (fitting : IsFitting body) (loopless : HasNoLoop body) (told : Told) where
  abbrev n : ℕ
  n = length (all_labels body)

  abbrev done : ℕ → Deed
  done = deeds body vars few valid fitting told.bounds

  module _ (parts : ℕ → Trees AffineRank) (trees : List (Plan AffineRank)) (labels : length trees ≡ n) where
    -- the ranks of trees that are made are numbers of steps
    pub trees_count : (formula : Ctl) → IsMade n done told.dead formula parts (tree_at trees) → EachPart (λ f part. ⊤) formula parts → (l : ℕ) → RanksCount (tree_at trees l)
    trees_count formula is each l =
        ⊎_elim
        (λ low. family_counts n done told.dead (program body vars few valid fitting told.bounds loopless).after (flow_of body told.bounds)
        (flows body vars few valid fitting told.bounds) formula parts (tree_at trees) is each refl l low)
        (λ past. subst RanksCount (sym (past_trees trees l (omega (arith, past, labels)))) tt)
        (below_or l n)

    -- and they are defined wherever the formula holds, if those of its parts are
    pub made_complete : (formula : Ctl) → IsMade n done told.dead formula parts (tree_at trees) → EachPart (IsComplete body) formula parts → IsComplete body formula (tree_at trees)
    made_complete formula is each label store low long sat =
        ap is_defined (sym (judged_eval (tree_at trees label) store))
        ∙ complete (configuration body) n done told.dead (program body vars few valid fitting told.bounds loopless) parts (tree_at trees)
        (trees_count formula is (map_part (IsComplete body) (λ f part. ⊤) (λ f part own. tt) formula parts each)) formula is
        (map_part (IsComplete body) (Complete (configuration body) n done told.dead (program body vars few valid fitting told.bounds loopless))
        (λ f part own l s below sixteen holds. ap is_defined (judged_eval (part l) s) ∙ own l s below sixteen holds) formula parts each) label store low long sat

    -- a system of theirs is met by no point, and gives no reason to give a leaf up
    pub made_shut : (formula : Ctl) → IsMade n done told.dead formula parts (tree_at trees) → EachPart (λ f part. ⊤) formula parts
        → AllShut (setting_of body told formula parts) (tree_at trees)
    made_shut formula is each =
        families_shut (flow_of body told.bounds) told.dead told.rows done (flows body vars few valid fitting told.bounds) refl parts (tree_at trees) formula
        (λ all. record {
          trees = trees_count formula is each;
          steps = λ l.
              before_counts n done told.dead (program body vars few valid fitting told.bounds loopless).after (flow_of body told.bounds)
              (flows body vars few valid fitting told.bounds) all l (tree_at trees) (trees_count formula is each);
        })
        (λ l alive. ⊎_elim (λ low. inl (is.made l low alive)) (λ past. inr (past_trees trees l (omega (arith, past, labels)))) (below_or l n))

  pub proposed_complete : (transitions : List Transition) → length transitions ≡ n → AreTold body told transitions → (formula : Formula)
      (first second trees : List (Plan AffineRank)) → length trees ≡ n → AreProposed formula transitions first second trees
      → ((label : ℕ) → NoneGivenUp (tree_at trees label)) → EachPart (IsComplete body) (ctl formula) (two_parts first second)
      → IsComplete body (ctl formula) (tree_at trees)
  proposed_complete transitions same told_are formula first second trees labels are none each =
      made_complete (two_parts first second) trees labels (ctl formula)
      (proposed_made body vars few valid fitting loopless told transitions same told_are first second trees none formula are) each

  pub proposed_shut : (transitions : List Transition) → length transitions ≡ n → AreTold body told transitions → (formula : Formula)
      (first second trees : List (Plan AffineRank)) → length trees ≡ n → AreProposed formula transitions first second trees
      → ((label : ℕ) → NoneGivenUp (tree_at trees label)) → EachPart (λ f part. ⊤) (ctl formula) (two_parts first second)
      → AllShut (setting_of body told (ctl formula) (two_parts first second)) (tree_at trees)
  proposed_shut transitions same told_are formula first second trees labels are none each =
      made_shut (two_parts first second) trees labels (ctl formula)
      (proposed_made body vars few valid fitting loopless told transitions same told_are first second trees none formula are) each
