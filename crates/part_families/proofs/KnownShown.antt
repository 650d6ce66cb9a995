-- The families of the truth and of `exit` are supported by their shape, and over no variable.
use Rattle.std.proofs.Common.{◌≡◌, ℕ, zero, suc, ◌<◌, ◌-◌, pos, Bool, true, false, if◌then◌else◌, List, [], All, length, replicate, sym, subst, ap, ◌∙◌, arith}
use Rattle.std.proofs.lemmas.List.{length-replicate}
use Rattle.std.proofs.lemmas.List.Elements.{All-nil}
use Rattle.step_meaning.specs.declared.program.Program.{Program}
use Rattle.step_meaning.specs.Syntax.{Statements, statements}
use Rattle.linear_cons.specs.Functions.{coefficient, constant_of}
use Rattle.linear_cons.proofs.Over.{over_constant}
use Rattle.control_flow.specs.Labels.{all_labels}
use Rattle.control_flow.proofs.LabelLaws.{count_of_labels}
use Rattle.decision_tree.specs.declared.affine_rank.AffineRank.{AffineRank}
use Rattle.decision_tree.specs.declared.family.Family.{Family}
use Rattle.decision_tree.specs.declared.reason.Why.TheVariants.{Atom, End}
use Rattle.decision_tree.specs.Plans.{Plan, bottom}
use Rattle.decision_tree.specs.Paths.{leaf_numbered}
use Rattle.decision_tree.specs.Extent.{ComplementsFit, IsTreeOver}
use Rattle.ctl_formula.specs.Formulas.{Ctl, exit, truth}
use Rattle.tree_check.specs.Checking.{families_of}
use Rattle.tree_support.specs.Certificates.{IsShown, SparesPlace, affine_ranks}
use Rattle.control_flow.specs.Told.{chosen_place, Told}
use Rattle.tree_support.specs.Setting.{Setting, Trees, setting_of, trees_in}
use Rattle.constraint_stack.specs.Claims.{HasNoStore, System}
use Rattle.tree_support.specs.Support.{IsSupported}
use Rattle.tree_support.specs.Systems.{of_leaf, region}
use Rattle.part_families.specs.Families.{IsFamilyFor}
use Rattle.backward_sweeps.specs.Moving.{at_once}
use Rattle.part_families.specs.Known.{end_trees, truth_trees}
use Rattle.part_families.specs.Showing.{Shows}

-- what a tree that claims at once and one that claims nothing have, each tree of the families has
module _ (Has : Plan AffineRank → Type 0) where
  copies_have : (n : ℕ) (plan : Plan AffineRank) → Has plan → Has bottom → (label : ℕ) → Has (trees_in (replicate n plan) label)
  copies_have zero plan own none label = none
  copies_have (suc n) plan own none zero = own
  copies_have (suc n) plan own none (suc label) = copies_have n plan own none label

  pub truth_has : (labels : ℕ) → Has (at_once Atom) → Has bottom → (label : ℕ) → Has (trees_in (truth_trees labels) label)
  truth_has labels own none label = copies_have labels (at_once Atom) own none label

  pub end_has : (labels : ℕ) → Has (at_once End) → Has bottom → (label : ℕ) → Has (trees_in (end_trees labels) label)
  end_has labels own none zero = own
  end_has labels own none (suc label) = copies_have (labels - 1) bottom none none label

-- ---- support

module _ (body : Statements) (told : Told) (inner : ℕ → Trees AffineRank) where
  abbrev Free : List (System AffineRank) → Type 0
  Free found = All (HasNoStore affine_ranks) found

  no_systems : Free []
  no_systems = All-nil (HasNoStore affine_ranks)

  unless_dead : (dead : Bool) (found : List (System AffineRank)) → Free found → Free (if dead then [] else found)
  unless_dead true found free = no_systems
  unless_dead false found free = free

  -- the systems of a leaf at a label that has this tree
  abbrev FreeWith : Ctl → Trees AffineRank → ℕ → ℕ → Plan AffineRank → Type 0
  FreeWith formula family label place plan =
      let at : Setting AffineRank = setting_of body told formula inner in
      Free (of_leaf at (leaf_numbered plan place) family label (region at plan label place))

  truth_supported : (labels : ℕ) → IsSupported affine_ranks (setting_of body told truth inner) (trees_in (truth_trees labels))
  truth_supported labels label place low =
      let at : Setting AffineRank = setting_of body told truth inner in
      let family : Trees AffineRank = trees_in (truth_trees labels) in
      unless_dead (told.dead label) (of_leaf at (leaf_numbered (family label) place) family label (region at (family label) label place))
      (truth_has (FreeWith truth family label place) labels no_systems no_systems label)

  end_supported : (labels : ℕ) → IsSupported affine_ranks (setting_of body told exit inner) (trees_in (end_trees labels))
  end_supported labels zero place low = unless_dead (told.dead 0) [] no_systems
  end_supported labels (suc label) place low =
      let at : Setting AffineRank = setting_of body told exit inner in
      let family : Trees AffineRank = trees_in (end_trees labels) in
      unless_dead (told.dead (suc label))
      (of_leaf at (leaf_numbered (family (suc label)) place) family (suc label) (region at (family (suc label)) (suc label) place))
      (copies_have (FreeWith exit family (suc label) place) (labels - 1) bottom no_systems no_systems label)

  -- a constant leaves alone the place where a value is chosen
  nothing_chosen : coefficient (constant_of (pos 0)) chosen_place ≡ pos 0
  nothing_chosen = (over_constant chosen_place (pos 0)).past chosen_place (omega arith)

  truth_shown : (labels : ℕ) → IsShown body told truth inner (trees_in (truth_trees labels))
  truth_shown labels = record {
    supported = truth_supported labels;
    spares = truth_has (SparesPlace chosen_place) labels (nothing_chosen, tt) tt;
  }

  end_shown : (labels : ℕ) → IsShown body told exit inner (trees_in (end_trees labels))
  end_shown labels = record {
    supported = end_supported labels;
    spares = end_has (SparesPlace chosen_place) labels (nothing_chosen, tt) tt;
  }

-- ---- variables

module _ (vars : ℕ) (body : Statements) (labels : ℕ) (own : labels ≡ length (all_labels body)) where
  for_truth : (family : Family AffineRank) → family.trees ≡ truth_trees labels → IsFamilyFor vars body family
  for_truth family is = record {
    labels = ap length is ∙ length-replicate labels (at_once Atom) ∙ own;
    over = λ label. subst (λ trees. IsTreeOver vars (trees_in trees label)) (sym is)
        (truth_has (IsTreeOver vars) labels (over_constant vars (pos 0), tt) tt label);
    complements = λ label. subst (λ trees. ComplementsFit (trees_in trees label)) (sym is) (truth_has ComplementsFit labels tt tt label);
  }

  for_end : 0 < labels → (family : Family AffineRank) → family.trees ≡ end_trees labels → IsFamilyFor vars body family
  for_end some family is =
      let long = ap length is in
      let none : Plan AffineRank = bottom in
      let rest = length-replicate (labels - 1) none in
      let all : length family.trees ≡ labels = omega (arith, long, rest, some) in record {
        labels = all ∙ own;
        over = λ label. subst (λ trees. IsTreeOver vars (trees_in trees label)) (sym is)
            (end_has (IsTreeOver vars) labels (over_constant vars (pos 0), tt) tt label);
        complements = λ label. subst (λ trees. ComplementsFit (trees_in trees label)) (sym is) (end_has ComplementsFit labels tt tt label);
      }

-- ---- the two families

pub some_labels : (body : Statements) (labels : ℕ) → labels ≡ length (all_labels body) → 0 < labels
some_labels body labels own = let count = count_of_labels body in omega (arith, count, own)

module _ (program : Program) (told : Told) (labels : ℕ) (own : labels ≡ length (all_labels (statements program.body)))
    (operands : List (Family AffineRank)) where
  pub truth_shows : (number : ℕ) (family : Family AffineRank) → family.part ≡ number → family.trees ≡ truth_trees labels
      → Shows program told truth number operands family
  truth_shows number family numbered is = record {
    shown = subst (λ trees. IsShown (statements program.body) told truth (families_of operands) (trees_in trees)) (sym is)
        (truth_shown (statements program.body) told (families_of operands) labels);
    number = numbered;
    fits = for_truth (length program.names) (statements program.body) labels own family is;
  }

  pub end_shows : (number : ℕ) (family : Family AffineRank) → family.part ≡ number → family.trees ≡ end_trees labels
      → Shows program told exit number operands family
  end_shows number family numbered is = record {
    shown = subst (λ trees. IsShown (statements program.body) told exit (families_of operands) (trees_in trees)) (sym is)
        (end_shown (statements program.body) told (families_of operands) labels);
    number = numbered;
    fits = for_end (length program.names) (statements program.body) labels own (some_labels (statements program.body) labels own) family is;
  }
