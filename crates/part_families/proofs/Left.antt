-- What a check leaves of trees that can be printed shows the formula.
use Rattle.std.proofs.Common.{◌≡◌, ℕ, List, All, length}
use Rattle.step_meaning.specs.Syntax.{statements}
use Rattle.step_meaning.specs.declared.program.Program.{Program}
use Rattle.count_down.proofs.Over.{over_spares}
use Rattle.ctl_formula.specs.Formulas.{Ctl}
use Rattle.decision_tree.specs.Extent.{ComplementsFit, IsTreeOver}
use Rattle.decision_tree.specs.Plans.{Plan}
use Rattle.decision_tree.specs.declared.affine_rank.AffineRank.{AffineRank}
use Rattle.decision_tree.specs.declared.family.Family.{Family}
use Rattle.tree_check.specs.Checking.{families_of}
use Rattle.tree_support.specs.Certificates.{SparesPlace, affine_ranks}
use Rattle.tree_support.specs.Elimination.{Eliminates}
use Rattle.tree_support.specs.declared.dropped.Dropped.{Dropped}
use Rattle.control_flow.specs.Labels.{all_labels}
use Rattle.control_flow.specs.Told.{Told, chosen_place}
use Rattle.tree_support.specs.Setting.{Setting, Trees, setting_of, trees_in}
use Rattle.tree_support.specs.Support.{IsSupported}
use Rattle.part_families.specs.Fitting.{IsFit}
use Rattle.part_families.specs.Showing.{Shows}
use Rattle.part_families.proofs.Fit.{fit_at}
use Rattle.part_families.proofs.Kept.{complements_undefined, each_kept, over_undefined}

module _ (program : Program) (told : Told) (f : Ctl) (k : ℕ) (operands : List (Family AffineRank)) (old : List (Plan AffineRank)) (family : Family AffineRank) where
  abbrev at : Setting AffineRank
  at = setting_of (statements program.body) told f (families_of operands)

  pub left_shows : (drops : List Dropped) → Eliminates affine_ranks at (trees_in old) drops (trees_in family.trees)
      → IsSupported affine_ranks at (trees_in family.trees) → All (IsFit (length program.names)) old → family.part ≡ k
      → length family.trees ≡ length (all_labels (statements program.body))
      → ((at : Setting AffineRank) (old new : Trees AffineRank) (drops : List Dropped) → Eliminates affine_ranks at old drops new → (place : ℕ)
      → ((label : ℕ) → SparesPlace place (old label)) → (label : ℕ) → SparesPlace place (new label))
      → Shows program told f k operands family
  left_shows drops legal supported all_fit part labels still_spares =
      let vars = length program.names in
      let trees : Trees AffineRank = trees_in old in
      let left : Trees AffineRank = trees_in family.trees in
      let fit = fit_at vars old all_fit in
      let spares : (label : ℕ) → SparesPlace chosen_place (trees label) = λ label. over_spares vars chosen_place program.valid.few (trees label) ((fit label).over) in
      record {
        shown = record { supported = supported; spares = still_spares at trees left drops legal chosen_place spares };
        number = part;
        fits = record {
          labels = labels;
          over = each_kept affine_ranks at (IsTreeOver vars) (over_undefined vars) drops trees left legal (λ label. (fit label).over);
          complements = each_kept affine_ranks at ComplementsFit complements_undefined drops trees left legal (λ label. (fit label).complements);
        };
      }
