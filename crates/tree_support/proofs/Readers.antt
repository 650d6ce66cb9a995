-- What the systems of a label read of a family: its tree there, and those at the targets of the label's arcs.
use Rattle.std.proofs.Common.{◌≡◌, ℕ, Bool, true, false, if◌then◌else◌, List, [], ◌∷◌, ◌++◌, Contains, refl, sym, ap, ◌∙◌}
use Rattle.std.specs.List.{flat_map}
use Rattle.std.proofs.lemmas.List.Concat.{flat_map-cons}
use Rattle.linear_cons.specs.declared.affine.Affine.{Affine}
use Rattle.control_flow.specs.declared.edge.Choice.{Choice}
use Rattle.control_flow.specs.declared.edge.Choice.TheVariants.{None as NoChoice, Branch, Range}
use Rattle.decision_tree.specs.declared.reason.Pick.{Pick}
use Rattle.decision_tree.specs.declared.reason.Pick.TheVariants.{All as Every, Yes, No, Value}
use Rattle.decision_tree.specs.declared.reason.Why.{Why}
use Rattle.decision_tree.specs.declared.reason.Why.TheVariants.{Step}
use Rattle.decision_tree.specs.Plans.{Plan, bottom, top, leaf, branch}
use Rattle.ctl_formula.specs.Formulas.{Ctl, until, weak}
use Rattle.tree_support.specs.Arcs.{Arc}
use Rattle.constraint_stack.specs.Forming.{Formed}
use Rattle.tree_support.specs.Setting.{Setting, Trees}
use Rattle.constraint_stack.specs.Claims.{System}
use Rattle.tree_support.specs.Systems.{above_range, at_leaves, below_range, if_undefined, is_existential, moved_by, of_arcs, of_keep, of_leaf, of_outcome, of_pick, of_rank, of_value, of_why, plain, unedged, unless_less}
use Rattle.tree_support.proofs.Lists.{contains_first, contains_later}

module _ {R : Type 0} (at : Setting R) (old new : Trees R) where
  -- the two families have the same trees at the arcs' targets
  abbrev pub SameBehind : List Arc → Type 0
  SameBehind arcs = (arc : Arc) → Contains arcs arc → new arc.target ≡ old arc.target

  -- and at those of whichever arcs a leaf's pick may take at the label
  pub record IsSameAhead (label : ℕ) : Type 0 where
    pub every : SameBehind (at.flow.arcs label)
    pub outcomes : (outcome : Bool) → SameBehind (at.flow.arcs_of label outcome)
    pub values : (a : Affine) → SameBehind (at.flow.arcs_with label a)

  each_same : (f g : Arc → List (System R)) → (arcs : List Arc) → ((arc : Arc) → Contains arcs arc → f arc ≡ g arc) → flat_map f arcs ≡ flat_map g arcs
  each_same f g [] same = refl
  each_same f g (arc ∷ arcs) same =
      flat_map-cons f arc arcs
      ∙ ap (λ rest. f arc ++ rest) (each_same f g arcs (λ other member. same other (contains_later arc other arcs member)))
      ∙ ap (λ first. first ++ flat_map g arcs) (same arc (contains_first arc arcs))
      ∙ sym (flat_map-cons g arc arcs)

  module _ (rank : R) (label : ℕ) (asks : List Formed) where
    arcs_same : (f : Ctl) (arcs : List Arc) → SameBehind arcs → of_arcs at f new rank arcs asks ≡ of_arcs at f old rank arcs asks
    arcs_same (until all f g) arcs same =
        each_same _ _ arcs (λ arc member. ap (λ (plan : Plan R). at_leaves (moved_by arc.sets) (unless_less arc.edge arc.sets rank) plan (asks ++ arc.asks)) (same arc member))
    arcs_same (weak all f g) arcs same =
        each_same _ _ arcs (λ arc member. ap (λ (plan : Plan R). at_leaves (moved_by arc.sets) (if_undefined arc.edge) plan (asks ++ arc.asks)) (same arc member))
    arcs_same other arcs same = refl

    module _ (ahead : IsSameAhead label) where
      outcome_same : (choice : Choice) (outcome : Bool) → of_outcome at choice outcome new rank label asks ≡ of_outcome at choice outcome old rank label asks
      outcome_same Branch outcome = arcs_same at.formula (at.flow.arcs_of label outcome) (ahead.outcomes outcome)
      outcome_same NoChoice outcome = refl
      outcome_same (Range lo hi) outcome = refl

      value_same : (choice : Choice) (a : Affine) → of_value at choice a new rank label asks ≡ of_value at choice a old rank label asks
      value_same (Range lo hi) a =
          ap (λ arcs. below_range at lo a asks ++ (above_range at hi a asks ++ arcs)) (arcs_same at.formula (at.flow.arcs_with label a) (ahead.values a))
      value_same NoChoice a = refl
      value_same Branch a = refl

      when_same : (t : Bool) (first second : List (System R)) → first ≡ second → (if t then first else plain unedged asks) ≡ (if t then second else plain unedged asks)
      when_same true first second same = same
      when_same false first second same = refl

      pick_same : (pick : Pick) → of_pick at pick new rank label asks ≡ of_pick at pick old rank label asks
      pick_same Every = arcs_same at.formula (at.flow.arcs label) ahead.every
      pick_same Yes = when_same (is_existential at at.formula) _ _ (outcome_same (at.flow.choice label) true)
      pick_same No = when_same (is_existential at at.formula) _ _ (outcome_same (at.flow.choice label) false)
      pick_same (Value a) = when_same (is_existential at at.formula) _ _ (value_same (at.flow.choice label) a)

      why_same : (why : Why) → of_why at why new rank label asks ≡ of_why at why old rank label asks
      why_same (Step pick) = ap (λ picked. of_keep at at.formula label asks ++ picked) (pick_same pick)
      why_same other = refl

  pub leaf_same : (end : Plan R) (label : ℕ) (asks : List Formed) → IsSameAhead label → of_leaf at end new label asks ≡ of_leaf at end old label asks
  leaf_same (leaf why rank) label asks ahead = ap (λ stands. of_rank at at.formula rank asks ++ stands) (why_same rank label asks ahead why)
  leaf_same bottom label asks ahead = refl
  leaf_same (top cause) label asks ahead = refl
  leaf_same (branch row this that) label asks ahead = refl
