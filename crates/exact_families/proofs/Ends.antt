-- The families of atoms, and those at the end, are shut.
use Rattle.std.proofs.Common.{◌≡◌, ⊎_elim, ℕ, suc, Bool, true, false, List, [], ◌∷◌, ◌++◌, All, refl, sym, ap, subst, ◌∙◌}
use Rattle.std.proofs.lemmas.Bool.{false≢true}
use Rattle.std.proofs.lemmas.List.Elements.{All-append}
use Rattle.linear_cons.specs.declared.affine.Affine.{Affine}
use Rattle.linear_cons.specs.declared.row.Row.{Row}
use Rattle.linear_cons.specs.Functions.{complement_of}
use Rattle.decision_tree.specs.Nodes.{node}
use Rattle.decision_tree.specs.Plans.{bottom, is_defined, leaf}
use Rattle.decision_tree.specs.declared.affine_rank.AffineRank.{AffineRank}
use Rattle.decision_tree.specs.declared.reason.Pick.TheVariants.{All as Every, Yes, No, Value}
use Rattle.decision_tree.specs.declared.reason.Why.{Why}
use Rattle.decision_tree.specs.declared.reason.Why.TheVariants.{End, Atom, Both, Left, Right, Now, Dead, Step}
use Rattle.ctl_formula.specs.Formulas.{Ctl, truth, exit, not_exit, always, least, next, until}
use Rattle.tree_support.specs.Arcs.{Flow}
use Rattle.constraint_stack.specs.Forming.{Formed, given}
use Rattle.tree_support.specs.Setting.{Setting, Trees}
use Rattle.tree_support.specs.Systems.{of_rank, of_why, systems, unedged}
use Rattle.tree_support.proofs.Lists.{all_none}
use Rattle.backward_sweeps.specs.Claiming.{claimed}
use Rattle.exact_families.proofs.Judges.{Granted, IsJudge, judged}
use Rattle.exact_families.specs.Shut.{IsShut}
use Rattle.exact_families.proofs.Leaves.{IsNatural, nought_natural, equal_rank, equal_why}
use Rattle.exact_families.proofs.Parts.{apart, mark}
use Rattle.exact_families.proofs.Hopeless.{Hopeless, rank_hopeless, why_hopeless}
use Rattle.exact_families.proofs.Judging.{node_no, node_yes, true_or_not, turned_true}
use Rattle.exact_families.proofs.Making.{claim_found, not_leaf, rank_alike}
use Rattle.exact_families.proofs.Shutting.{given_turns, granted_left, granted_right, natural_shut, plain_shut, undefined_shut}
use Rattle.exact_families.proofs.Whys.{asked_here, leaf_shut}
use Rattle.backward_sweeps.specs.Moving.{nought}
use Rattle.backward_transfer.specs.AffineShapes.{same_rank}

module _ (flow : Flow) (dead : ℕ → Bool) (rows : ℕ → List Row) (parts : ℕ → Trees AffineRank) (family : Trees AffineRank) (label place : ℕ) where
  abbrev setting : Ctl → Setting AffineRank
  setting formula = record { flow = flow; dead = dead; rows = rows; formula = formula; parts = parts }

  abbrev asks : Ctl → List Formed
  asks formula = asked_here (setting formula) family label place

  abbrev Stands : Ctl → Why → AffineRank → Type 0
  Stands formula why rank = (v : Affine → Bool) → IsJudge v → Granted v (asks formula) → judged v (family label) ≡ leaf why rank

  -- a tree whose leaves all have one why
  abbrev AllAre : Why → Type 0
  AllAre w = (v : Affine → Bool) → IsJudge v → (why : Why) (rank : AffineRank) → judged v (family label) ≡ leaf why rank → w ≡ why

  elsewhere : (formula : Ctl) (w why : Why) (rank : AffineRank) → AllAre w → (mark w ≡ mark why → ⊥) → Stands formula why rank → All IsShut (of_why (setting formula) why family rank label (asks formula))
  elsewhere formula w why rank are other stands =
      why_hopeless (setting formula) family rank (asks formula) (λ v j own. apart w why other (are v j why rank (stands v j own))) why label

  only_end : (formula : Ctl) → AllAre End → ((rank : AffineRank) → Stands formula End rank → All IsShut (of_why (setting formula) End family rank label (asks formula)))
      → (why : Why) (rank : AffineRank) → Stands formula why rank → All IsShut (of_why (setting formula) why family rank label (asks formula))
  only_end formula are own End rank stands = own rank stands
  only_end formula are own Atom rank stands = elsewhere formula End Atom rank are (λ e. cc) stands
  only_end formula are own Both rank stands = elsewhere formula End Both rank are (λ e. cc) stands
  only_end formula are own Left rank stands = elsewhere formula End Left rank are (λ e. cc) stands
  only_end formula are own Right rank stands = elsewhere formula End Right rank are (λ e. cc) stands
  only_end formula are own Now rank stands = elsewhere formula End Now rank are (λ e. cc) stands
  only_end formula are own Dead rank stands = elsewhere formula End Dead rank are (λ e. cc) stands
  only_end formula are own (Step Every) rank stands = elsewhere formula End (Step Every) rank are (λ e. cc) stands
  only_end formula are own (Step Yes) rank stands = elsewhere formula End (Step Yes) rank are (λ e. cc) stands
  only_end formula are own (Step No) rank stands = elsewhere formula End (Step No) rank are (λ e. cc) stands
  only_end formula are own (Step (Value a)) rank stands = elsewhere formula End (Step (Value a)) rank are (λ e. cc) stands

  only_atom : (formula : Ctl) → AllAre Atom → ((rank : AffineRank) → Stands formula Atom rank → All IsShut (of_why (setting formula) Atom family rank label (asks formula)))
      → (why : Why) (rank : AffineRank) → Stands formula why rank → All IsShut (of_why (setting formula) why family rank label (asks formula))
  only_atom formula are own End rank stands = elsewhere formula Atom End rank are (λ e. cc) stands
  only_atom formula are own Atom rank stands = own rank stands
  only_atom formula are own Both rank stands = elsewhere formula Atom Both rank are (λ e. cc) stands
  only_atom formula are own Left rank stands = elsewhere formula Atom Left rank are (λ e. cc) stands
  only_atom formula are own Right rank stands = elsewhere formula Atom Right rank are (λ e. cc) stands
  only_atom formula are own Now rank stands = elsewhere formula Atom Now rank are (λ e. cc) stands
  only_atom formula are own Dead rank stands = elsewhere formula Atom Dead rank are (λ e. cc) stands
  only_atom formula are own (Step Every) rank stands = elsewhere formula Atom (Step Every) rank are (λ e. cc) stands
  only_atom formula are own (Step Yes) rank stands = elsewhere formula Atom (Step Yes) rank are (λ e. cc) stands
  only_atom formula are own (Step No) rank stands = elsewhere formula Atom (Step No) rank are (λ e. cc) stands
  only_atom formula are own (Step (Value a)) rank stands = elsewhere formula Atom (Step (Value a)) rank are (λ e. cc) stands

  only_now : (formula : Ctl) → AllAre Now → ((rank : AffineRank) → Stands formula Now rank → All IsShut (of_why (setting formula) Now family rank label (asks formula)))
      → (why : Why) (rank : AffineRank) → Stands formula why rank → All IsShut (of_why (setting formula) why family rank label (asks formula))
  only_now formula are own End rank stands = elsewhere formula Now End rank are (λ e. cc) stands
  only_now formula are own Atom rank stands = elsewhere formula Now Atom rank are (λ e. cc) stands
  only_now formula are own Both rank stands = elsewhere formula Now Both rank are (λ e. cc) stands
  only_now formula are own Left rank stands = elsewhere formula Now Left rank are (λ e. cc) stands
  only_now formula are own Right rank stands = elsewhere formula Now Right rank are (λ e. cc) stands
  only_now formula are own Now rank stands = own rank stands
  only_now formula are own Dead rank stands = elsewhere formula Now Dead rank are (λ e. cc) stands
  only_now formula are own (Step Every) rank stands = elsewhere formula Now (Step Every) rank are (λ e. cc) stands
  only_now formula are own (Step Yes) rank stands = elsewhere formula Now (Step Yes) rank are (λ e. cc) stands
  only_now formula are own (Step No) rank stands = elsewhere formula Now (Step No) rank are (λ e. cc) stands
  only_now formula are own (Step (Value a)) rank stands = elsewhere formula Now (Step (Value a)) rank are (λ e. cc) stands

  -- nothing is claimed
  pub none_shut : (formula : Ctl) → ((v : Affine → Bool) → is_defined (judged v (family label)) ≡ false) → All IsShut (systems (setting formula) family label place)
  none_shut formula none =
      leaf_shut (setting formula) family label place
      (λ why rank stands.
      let hopeless : Hopeless (asks formula) = λ v j own. not_leaf (judged v (family label)) why rank (none v) (stands v j own) in
      All-append IsShut (of_rank (setting formula) formula rank (asks formula)) (of_why (setting formula) why family rank label (asks formula))
      (rank_hopeless (setting formula) family rank (asks formula) hopeless formula) (why_hopeless (setting formula) family rank (asks formula) hopeless why label))

  -- the truth, and a label that isn't the end
  leaf_are : (w : Why) → family label ≡ leaf w nought → AllAre w
  leaf_are w tree v j why rank own = equal_why w why nought rank (sym (ap (judged v) tree) ∙ own)

  pub truth_shut : family label ≡ leaf Atom nought → All IsShut (systems (setting truth) family label place)
  truth_shut tree = leaf_shut (setting truth) family label place (λ why rank stands. only_atom truth (leaf_are Atom tree) (λ rank stands. all_none IsShut) why rank stands)

  pub always_shut : family label ≡ leaf Atom nought → All IsShut (systems (setting always) family label place)
  always_shut tree = leaf_shut (setting always) family label place (λ why rank stands. only_atom always (leaf_are Atom tree) (λ rank stands. all_none IsShut) why rank stands)

  -- a row
  pub least_shut : (row : Row) → family label ≡ node same_rank row (leaf Atom nought) bottom → All IsShut (systems (setting (least row.affine)) family label place)
  least_shut row tree =
      leaf_shut (setting (least row.affine)) family label place
      (λ why rank stands. only_atom (least row.affine) (λ v j why rank own. (met v j why rank own).1)
      (λ rank stands. plain_shut unedged (asks (least row.affine) ++ given (complement_of row.affine) ∷ [])
      (λ v j own.
      let here = met v j Atom rank (stands v j (granted_left v (asks (least row.affine)) (given (complement_of row.affine) ∷ []) own)) in
      false≢true (sym (turned_true v j row.affine (granted_right v (asks (least row.affine)) (given (complement_of row.affine) ∷ []) own).0) ∙ here.0)))
      why rank stands)
    where
      met : (v : Affine → Bool) → IsJudge v → (why : Why) (rank : AffineRank) → judged v (family label) ≡ leaf why rank → (v row.affine ≡ true) × (Atom ≡ why)
      met v j why rank own =
          let found : judged v (node same_rank row (leaf Atom nought) bottom) ≡ leaf why rank = sym (ap (judged v) tree) ∙ own in
          ⊎_elim
          (λ held. (held, equal_why Atom why nought rank (sym (node_yes same_rank rank_alike v row (leaf Atom nought) bottom held) ∙ found)))
          (λ lost. absurd (not_leaf bottom why rank refl (sym (node_no same_rank rank_alike v row (leaf Atom nought) bottom lost) ∙ found)))
          (true_or_not (v row.affine))

  -- ---- claims of another tree, for now

  abbrev Claims : Trees AffineRank → Type 0
  Claims trees = family label ≡ claimed Now (trees label)

  claims_found : (trees : Trees AffineRank) → Claims trees → (v : Affine → Bool) → (why : Why) (rank : AffineRank) → judged v (family label) ≡ leaf why rank
      → (Now ≡ why) × (nought ≡ rank) × (is_defined (judged v (trees label)) ≡ true)
  claims_found trees tree v why rank own =
      let found = claim_found v Now (trees label) why rank (sym (ap (judged v) tree) ∙ own) in
      (equal_why Now why nought rank found.1, equal_rank Now why nought rank found.1, found.0)

  -- an until at the end
  pub until_end_shut : (all : Bool) (f g : Ctl) → Claims (parts 1) → All IsShut (systems (setting (until all f g)) family label place)
  until_end_shut all f g tree =
      leaf_shut (setting (until all f g)) family label place
      (λ why rank stands. All-append IsShut (of_rank (setting (until all f g)) (until all f g) rank (asks (until all f g))) (of_why (setting (until all f g)) why family rank label (asks (until all f g)))
      (natural_shut unedged rank (asks (until all f g)) (λ v j own. subst IsNatural (claims_found (parts 1) tree v why rank (stands v j own)).1 nought_natural))
      (only_now (until all f g) (λ v j why rank own. (claims_found (parts 1) tree v why rank own).0)
      (λ rank stands. undefined_shut given given_turns unedged (parts 1 label) (asks (until all f g)) (λ v j own. (claims_found (parts 1) tree v Now rank (stands v j own)).2))
      why rank stands))

-- ---- at label 0

module _ (flow : Flow) (dead : ℕ → Bool) (rows : ℕ → List Row) (parts : ℕ → Trees AffineRank) (family : Trees AffineRank) (place : ℕ) where
  pub exit_shut : family 0 ≡ leaf End nought → All IsShut (systems (setting flow dead rows parts family 0 place exit) family 0 place)
  exit_shut tree =
      leaf_shut (setting flow dead rows parts family 0 place exit) family 0 place
      (λ why rank stands. only_end flow dead rows parts family 0 place exit
      (leaf_are flow dead rows parts family 0 place End tree) (λ rank stands. all_none IsShut) why rank stands)

  pub not_exit_shut : (l : ℕ) → family (suc l) ≡ leaf Atom nought → All IsShut (systems (setting flow dead rows parts family (suc l) place not_exit) family (suc l) place)
  not_exit_shut l tree =
      leaf_shut (setting flow dead rows parts family (suc l) place not_exit) family (suc l) place
      (λ why rank stands. only_atom flow dead rows parts family (suc l) place not_exit
      (leaf_are flow dead rows parts family (suc l) place Atom tree) (λ rank stands. all_none IsShut) why rank stands)

  pub next_end_shut : (all : Bool) (f : Ctl) → family 0 ≡ claimed Now (parts 0 0)
      → All IsShut (systems (setting flow dead rows parts family 0 place (next all f)) family 0 place)
  next_end_shut all f tree =
      leaf_shut (setting flow dead rows parts family 0 place (next all f)) family 0 place
      (λ why rank stands. only_now flow dead rows parts family 0 place (next all f)
      (λ v j why rank own. (claims_found flow dead rows parts family 0 place (parts 0) tree v why rank own).0)
      (λ rank stands. undefined_shut given given_turns unedged (parts 0 0) (asks flow dead rows parts family 0 place (next all f))
      (λ v j own. (claims_found flow dead rows parts family 0 place (parts 0) tree v Now rank (stands v j own)).2))
      why rank stands)
