-- Where all numbers fit, each system of a family is formed whole.
use Rattle.std.specs.Prelude.{⊤}
use Rattle.std.proofs.Common.{◌≡◌, ℕ, zero, suc, ◌-◌, nat_lt, Bool, true, false, cond, List, [], ◌∷◌, ◌++◌, map, Option, All, Contains, refl, subst}
use Rattle.std.proofs.lemmas.List.Elements.{All-append}
use Rattle.linear_cons.specs.declared.affine.Affine.{Affine}
use Rattle.linear_cons.specs.declared.row.Row.{Row}
use Rattle.linear_cons.specs.Functions.{NumbersFit, complement_of}
use Rattle.decision_tree.specs.Paths.{leaf_numbered, path_of}
use Rattle.decision_tree.specs.Plans.{Plan, bottom, branch, leaf, leaves_of, top}
use Rattle.decision_tree.specs.declared.affine_rank.AffineRank.{AffineRank}
use Rattle.decision_tree.specs.declared.reason.Pick.{Pick}
use Rattle.decision_tree.specs.declared.reason.Pick.TheVariants.{All as Every, Yes, No, Value}
use Rattle.decision_tree.specs.declared.reason.Why.{Why}
use Rattle.decision_tree.specs.declared.reason.Why.TheVariants.{End, Atom, Both, Left, Right, Now, Dead, Step}
use Rattle.control_flow.specs.declared.edge.Choice.{Choice}
use Rattle.control_flow.specs.declared.edge.Choice.TheVariants.{None as NoChoice, Branch, Range}
use Rattle.ctl_formula.specs.Formulas.{Ctl, truth, falsity, exit, not_exit, always, never, least, negation, both, either, next, until, weak}
use Rattle.tree_support.specs.Certificates.{affine_ranks}
use Rattle.constraint_stack.specs.Reasons.{IsWhole}
use Rattle.tree_support.specs.Arcs.{Arc, rows_given}
use Rattle.constraint_stack.specs.Forming.{Formed, FormsWhole, given}
use Rattle.tree_support.specs.Setting.{Setting, Trees}
use Rattle.constraint_stack.specs.Claims.{ClaimFits, System, exceeding, nothing, unnatural}
use Rattle.tree_support.specs.Systems.{at_leaves, if_undefined, is_existential, moved_by, of_arcs, of_atom, of_both, of_end, of_keep, of_leaf, of_now, of_outcome, of_pick, of_rank, of_side, of_why, plain, region, unedged, undefined_at, unless_less}
use Rattle.tree_support.proofs.Lists.{all_none, all_one}
use Rattle.exact_families.specs.Shut.{AllWhole}
use Rattle.exact_families.proofs.Fits.{ArcFits, EachEnd, AreFit, ExceedingFits, RowsFit}
use Rattle.exact_families.proofs.Whys.{flat_all}

abbrev W : System AffineRank → Type 0
W = IsWhole affine_ranks

plain_whole : (edge : ℕ) (asks : List Formed) → All FormsWhole asks → All W (plain edge asks)
plain_whole edge asks none = all_one W (record { edge = edge; asks = asks; claim = nothing }) (none, tt)

with_one : (asks : List Formed) (f : Formed) → All FormsWhole asks → FormsWhole f → All FormsWhole (asks ++ f ∷ [])
with_one asks f all own = All-append FormsWhole asks (f ∷ []) all (all_one FormsWhole f own)

module _ (moved : Affine → Formed) (ending : Plan AffineRank → List Formed → List (System AffineRank)) (EndFits : Plan AffineRank → Type 0)
    (ends : (end : Plan AffineRank) (asks : List Formed) → All FormsWhole asks → EndFits end → All W (ending end asks)) where
  leaves_whole : (plan : Plan AffineRank) (asks : List Formed) → RowsFit moved plan → EachEnd EndFits plan → All FormsWhole asks → All W (at_leaves moved ending plan asks)
  leaves_whole bottom asks rows each all = ends bottom asks all each
  leaves_whole (top cause) asks rows each all = ends (top cause) asks all each
  leaves_whole (leaf why rank) asks rows each all = ends (leaf why rank) asks all each
  leaves_whole (branch row this that) asks rows each all =
      All-append W (at_leaves moved ending this (asks ++ moved row.affine ∷ [])) (at_leaves moved ending that (asks ++ moved (complement_of row.affine) ∷ []))
      (leaves_whole this (asks ++ moved row.affine ∷ []) rows.2 each.0 (with_one asks (moved row.affine) all rows.0))
      (leaves_whole that (asks ++ moved (complement_of row.affine) ∷ []) rows.3 each.1 (with_one asks (moved (complement_of row.affine)) all rows.1))

any_end : (plan : Plan AffineRank) → EachEnd (λ end. ⊤) plan
any_end bottom = tt
any_end (top cause) = tt
any_end (leaf why rank) = tt
any_end (branch row this that) = (any_end this, any_end that)

undefined_ends : (edge : ℕ) (end : Plan AffineRank) (asks : List Formed) → All FormsWhole asks → ⊤ → All W (if_undefined edge end asks)
undefined_ends edge bottom asks all own = plain_whole edge asks all
undefined_ends edge (top cause) asks all own = plain_whole edge asks all
undefined_ends edge (leaf why rank) asks all own = all_none W
undefined_ends edge (branch row this that) asks all own = plain_whole edge asks all

less_ends : (edge : ℕ) (sets : Option (ℕ × Affine)) (rank : AffineRank) (end : Plan AffineRank) (asks : List Formed) → All FormsWhole asks
    → ExceedingFits sets rank end → All W (unless_less edge sets rank end asks)
less_ends edge sets rank bottom asks all own = plain_whole edge asks all
less_ends edge sets rank (top cause) asks all own = plain_whole edge asks all
less_ends edge sets rank (branch row this that) asks all own = plain_whole edge asks all
less_ends edge sets rank (leaf why other) asks all own = all_one W (record { edge = edge; asks = asks; claim = exceeding other sets rank }) (all, own)

undefined_whole : (tree : Plan AffineRank) → RowsFit given tree → (asks : List Formed) → All FormsWhole asks → All W (undefined_at tree asks)
undefined_whole tree rows asks all = leaves_whole given (if_undefined unedged) (λ end. ⊤) (undefined_ends unedged) tree asks rows (any_end tree) all

cond_all : (t : Bool) (xs ys : List (System AffineRank)) → All W xs → All W ys → All W (cond t xs ys)
cond_all true xs ys first second = first
cond_all false xs ys first second = second

module _ (at : Setting AffineRank) (family : Trees AffineRank) (rank : AffineRank) (asks : List Formed) (none : All FormsWhole asks)
    (parts : (n label : ℕ) → RowsFit given (at.parts n label)) (atom : (a : Affine) → at.formula ≡ least a → NumbersFit (complement_of a)) where
  arcs_whole : (formula : Ctl) (arcs : List Arc) → ((arc : Arc) → Contains arcs arc → ArcFits at family rank formula arc) → All W (of_arcs at formula family rank arcs asks)
  arcs_whole (next all f) arcs fit =
      flat_all W (λ (arc : Arc). at_leaves (moved_by arc.sets) (if_undefined arc.edge) (at.parts 0 arc.target) (asks ++ arc.asks)) arcs
      (λ arc inside. leaves_whole (moved_by arc.sets) (if_undefined arc.edge) (λ end. ⊤) (undefined_ends arc.edge) (at.parts 0 arc.target) (asks ++ arc.asks)
      (fit arc inside).1 (any_end (at.parts 0 arc.target)) (All-append FormsWhole asks arc.asks none (fit arc inside).0))
  arcs_whole (until all f g) arcs fit =
      flat_all W (λ (arc : Arc). at_leaves (moved_by arc.sets) (unless_less arc.edge arc.sets rank) (family arc.target) (asks ++ arc.asks)) arcs
      (λ arc inside. leaves_whole (moved_by arc.sets) (unless_less arc.edge arc.sets rank) (ExceedingFits arc.sets rank) (less_ends arc.edge arc.sets rank) (family arc.target) (asks ++ arc.asks)
      (fit arc inside).1 (fit arc inside).2 (All-append FormsWhole asks arc.asks none (fit arc inside).0))
  arcs_whole (weak all f g) arcs fit =
      flat_all W (λ (arc : Arc). at_leaves (moved_by arc.sets) (if_undefined arc.edge) (family arc.target) (asks ++ arc.asks)) arcs
      (λ arc inside. leaves_whole (moved_by arc.sets) (if_undefined arc.edge) (λ end. ⊤) (undefined_ends arc.edge) (family arc.target) (asks ++ arc.asks)
      (fit arc inside).1 (any_end (family arc.target)) (All-append FormsWhole asks arc.asks none (fit arc inside).0))
  arcs_whole truth arcs fit = plain_whole unedged asks none
  arcs_whole falsity arcs fit = plain_whole unedged asks none
  arcs_whole exit arcs fit = plain_whole unedged asks none
  arcs_whole not_exit arcs fit = plain_whole unedged asks none
  arcs_whole always arcs fit = plain_whole unedged asks none
  arcs_whole never arcs fit = plain_whole unedged asks none
  arcs_whole (least a) arcs fit = plain_whole unedged asks none
  arcs_whole (negation f) arcs fit = plain_whole unedged asks none
  arcs_whole (both f g) arcs fit = plain_whole unedged asks none
  arcs_whole (either f g) arcs fit = plain_whole unedged asks none

  outcome_whole : (choice : Choice) (outcome : Bool) (label : ℕ) → (choice ≡ Branch → (arc : Arc) → Contains (at.flow.arcs_of label outcome) arc → ArcFits at family rank at.formula arc)
      → All W (of_outcome at choice outcome family rank label asks)
  outcome_whole Branch outcome label fit = arcs_whole at.formula (at.flow.arcs_of label outcome) (fit refl)
  outcome_whole NoChoice outcome label fit = plain_whole unedged asks none
  outcome_whole (Range lo hi) outcome label fit = plain_whole unedged asks none

  pub keep_whole : (formula : Ctl) (label : ℕ) → All W (of_keep at formula label asks)
  keep_whole (until all f g) label = undefined_whole (at.parts 0 label) (parts 0 label) asks none
  keep_whole (weak all f g) label = undefined_whole (at.parts 0 label) (parts 0 label) asks none
  keep_whole (next all f) label = all_none W
  keep_whole truth label = all_none W
  keep_whole falsity label = all_none W
  keep_whole exit label = all_none W
  keep_whole not_exit label = all_none W
  keep_whole always label = all_none W
  keep_whole never label = all_none W
  keep_whole (least a) label = all_none W
  keep_whole (negation f) label = all_none W
  keep_whole (both f g) label = all_none W
  keep_whole (either f g) label = all_none W

  pub end_whole : (formula : Ctl) (label : ℕ) → All W (of_end at formula label asks)
  end_whole exit zero = all_none W
  end_whole exit (suc l) = plain_whole unedged asks none
  end_whole (until all f g) label = end_until g label
    where
      end_until : (g : Ctl) (label : ℕ) → All W (of_end at (until all f g) label asks)
      end_until exit zero = all_none W
      end_until exit (suc l) = plain_whole unedged asks none
      end_until truth label = plain_whole unedged asks none
      end_until falsity label = plain_whole unedged asks none
      end_until not_exit label = plain_whole unedged asks none
      end_until always label = plain_whole unedged asks none
      end_until never label = plain_whole unedged asks none
      end_until (least a) label = plain_whole unedged asks none
      end_until (negation h) label = plain_whole unedged asks none
      end_until (both h k) label = plain_whole unedged asks none
      end_until (either h k) label = plain_whole unedged asks none
      end_until (next t h) label = plain_whole unedged asks none
      end_until (until t h k) label = plain_whole unedged asks none
      end_until (weak t h k) label = plain_whole unedged asks none
  end_whole truth label = plain_whole unedged asks none
  end_whole falsity label = plain_whole unedged asks none
  end_whole not_exit label = plain_whole unedged asks none
  end_whole always label = plain_whole unedged asks none
  end_whole never label = plain_whole unedged asks none
  end_whole (least a) label = plain_whole unedged asks none
  end_whole (negation h) label = plain_whole unedged asks none
  end_whole (both h k) label = plain_whole unedged asks none
  end_whole (either h k) label = plain_whole unedged asks none
  end_whole (next t h) label = plain_whole unedged asks none
  end_whole (weak t h k) label = plain_whole unedged asks none

  pub atom_whole : (formula : Ctl) → at.formula ≡ formula → (label : ℕ) → All W (of_atom at formula label asks)
  atom_whole truth is label = all_none W
  atom_whole falsity is label = plain_whole unedged asks none
  atom_whole exit is label = plain_whole unedged asks none
  atom_whole not_exit is zero = plain_whole unedged asks none
  atom_whole not_exit is (suc l) = all_none W
  atom_whole always is label = all_none W
  atom_whole never is label = plain_whole unedged asks none
  atom_whole (least a) is label = plain_whole unedged (asks ++ given (complement_of a) ∷ []) (All-append FormsWhole asks (given (complement_of a) ∷ []) none (all_one FormsWhole (given (complement_of a)) (atom a is)))
  atom_whole (negation h) is label = plain_whole unedged asks none
  atom_whole (both h k) is label = plain_whole unedged asks none
  atom_whole (either h k) is label = plain_whole unedged asks none
  atom_whole (next t h) is label = plain_whole unedged asks none
  atom_whole (until t h k) is label = plain_whole unedged asks none
  atom_whole (weak t h k) is label = plain_whole unedged asks none

  pub both_whole : (formula : Ctl) (label : ℕ) → All W (of_both at formula label asks)
  both_whole truth label = plain_whole unedged asks none
  both_whole falsity label = plain_whole unedged asks none
  both_whole exit label = plain_whole unedged asks none
  both_whole not_exit label = plain_whole unedged asks none
  both_whole always label = plain_whole unedged asks none
  both_whole never label = plain_whole unedged asks none
  both_whole (least a) label = plain_whole unedged asks none
  both_whole (negation h) label = plain_whole unedged asks none
  both_whole (both h k) label =
      All-append W (undefined_at (at.parts 0 label) asks) (undefined_at (at.parts 1 label) asks) (undefined_whole (at.parts 0 label) (parts 0 label) asks none) (undefined_whole (at.parts 1 label) (parts 1 label) asks none)
  both_whole (either h k) label = plain_whole unedged asks none
  both_whole (next t h) label = plain_whole unedged asks none
  both_whole (until t h k) label = plain_whole unedged asks none
  both_whole (weak t h k) label = plain_whole unedged asks none

  pub side_whole : (formula : Ctl) (side label : ℕ) → All W (of_side at formula side label asks)
  side_whole truth side label = plain_whole unedged asks none
  side_whole falsity side label = plain_whole unedged asks none
  side_whole exit side label = plain_whole unedged asks none
  side_whole not_exit side label = plain_whole unedged asks none
  side_whole always side label = plain_whole unedged asks none
  side_whole never side label = plain_whole unedged asks none
  side_whole (least a) side label = plain_whole unedged asks none
  side_whole (negation h) side label = plain_whole unedged asks none
  side_whole (both h k) side label = plain_whole unedged asks none
  side_whole (either h k) side label = undefined_whole (at.parts side label) (parts side label) asks none
  side_whole (next t h) side label = plain_whole unedged asks none
  side_whole (until t h k) side label = plain_whole unedged asks none
  side_whole (weak t h k) side label = plain_whole unedged asks none

  pub now_whole : (formula : Ctl) (label : ℕ) → All W (of_now at formula label asks)
  now_whole truth label = plain_whole unedged asks none
  now_whole falsity label = plain_whole unedged asks none
  now_whole exit label = plain_whole unedged asks none
  now_whole not_exit label = plain_whole unedged asks none
  now_whole always label = plain_whole unedged asks none
  now_whole never label = plain_whole unedged asks none
  now_whole (least a) label = plain_whole unedged asks none
  now_whole (negation h) label = plain_whole unedged asks none
  now_whole (both h k) label = plain_whole unedged asks none
  now_whole (either h k) label = plain_whole unedged asks none
  now_whole (next t h) zero = undefined_whole (at.parts 0 0) (parts 0 0) asks none
  now_whole (next t h) (suc l) = plain_whole unedged asks none
  now_whole (until t h k) label = undefined_whole (at.parts 1 label) (parts 1 label) asks none
  now_whole (weak t h k) label = undefined_whole (at.parts 1 label) (parts 1 label) asks none

  module _ (label : ℕ) (arcs : (arc : Arc) → Contains (at.flow.arcs label) arc → ArcFits at family rank at.formula arc)
      (arcs_of : at.flow.choice label ≡ Branch → (outcome : Bool) (arc : Arc) → Contains (at.flow.arcs_of label outcome) arc → ArcFits at family rank at.formula arc) where
    pick_whole : (pick : Pick) → ((a : Affine) → pick ≡ Value a → ⊥) → All W (of_pick at pick family rank label asks)
    pick_whole Every known = arcs_whole at.formula (at.flow.arcs label) arcs
    pick_whole Yes known = cond_all (is_existential at at.formula) _ _ (outcome_whole (at.flow.choice label) true label (λ is. arcs_of is true)) (plain_whole unedged asks none)
    pick_whole No known = cond_all (is_existential at at.formula) _ _ (outcome_whole (at.flow.choice label) false label (λ is. arcs_of is false)) (plain_whole unedged asks none)
    pick_whole (Value a) known = absurd (known a refl)

    why_whole : (why : Why) → ((a : Affine) → why ≡ Step (Value a) → ⊥) → All W (of_why at why family rank label asks)
    why_whole End known = end_whole at.formula label
    why_whole Atom known = atom_whole at.formula refl label
    why_whole Both known = both_whole at.formula label
    why_whole Left known = side_whole at.formula 0 label
    why_whole Right known = side_whole at.formula 1 label
    why_whole Now known = now_whole at.formula label
    why_whole Dead known = plain_whole unedged asks none
    why_whole (Step pick) known =
        All-append W (of_keep at at.formula label asks) (of_pick at pick family rank label asks) (keep_whole at.formula label)
        (pick_whole pick (λ a is. known a (subst (λ (p : Pick). Step pick ≡ Step p) is refl)))

  rank_whole : (formula : Ctl) → ClaimFits affine_ranks (unnatural rank) → All W (of_rank at formula rank asks)
  rank_whole (until t h k) own = all_one W (record { edge = unedged; asks = asks; claim = unnatural rank }) (none, own)
  rank_whole truth own = all_none W
  rank_whole falsity own = all_none W
  rank_whole exit own = all_none W
  rank_whole not_exit own = all_none W
  rank_whole always own = all_none W
  rank_whole never own = all_none W
  rank_whole (least a) own = all_none W
  rank_whole (negation h) own = all_none W
  rank_whole (both h k) own = all_none W
  rank_whole (either h k) own = all_none W
  rank_whole (next t h) own = all_none W
  rank_whole (weak t h k) own = all_none W

-- ---- a leaf with its region

path_side : (row : Row) (this that : Plan AffineRank) (place : ℕ) (t : Bool) → FormsWhole (given row.affine) → FormsWhole (given (complement_of row.affine))
    → All FormsWhole (map given (path_of this place)) → All FormsWhole (map given (path_of that (place - leaves_of this)))
    → All FormsWhole (map given (cond t (row.affine ∷ path_of this place) (complement_of row.affine ∷ path_of that (place - leaves_of this))))
path_side row this that place true own turned first second =
    All-append FormsWhole (given row.affine ∷ []) (map given (path_of this place)) (all_one FormsWhole (given row.affine) own) first
path_side row this that place false own turned first second =
    All-append FormsWhole (given (complement_of row.affine) ∷ []) (map given (path_of that (place - leaves_of this)))
    (all_one FormsWhole (given (complement_of row.affine)) turned) second

path_whole : (plan : Plan AffineRank) (place : ℕ) → RowsFit given plan → All FormsWhole (map given (path_of plan place))
path_whole bottom place rows = all_none FormsWhole
path_whole (top cause) place rows = all_none FormsWhole
path_whole (leaf why rank) place rows = all_none FormsWhole
path_whole (branch row this that) place rows =
    path_side row this that place (nat_lt place (leaves_of this)) rows.0 rows.1 (path_whole this place rows.2) (path_whole that (place - leaves_of this) rows.3)

dead_or : (t : Bool) (xs : List (System AffineRank)) → All W xs → All W (cond t [] xs)
dead_or true xs all = all_none W
dead_or false xs all = all

pub all_whole : (at : Setting AffineRank) (family : Trees AffineRank) → AreFit at family → AllWhole at family
all_whole at family fit label place = dead_or (at.dead label) _ (by (leaf_numbered (family label) place) refl)
  where
    here : All FormsWhole (region at (family label) label place)
    here = All-append FormsWhole (rows_given (at.rows label)) (map given (path_of (family label) place)) (fit.rows label) (path_whole (family label) place (fit.own label))

    by : (end : Plan AffineRank) → leaf_numbered (family label) place ≡ end → All W (of_leaf at end family label (region at (family label) label place))
    by bottom is = all_none W
    by (top cause) is = all_none W
    by (branch row this that) is = all_none W
    by (leaf why rank) is =
        All-append W (of_rank at at.formula rank (region at (family label) label place)) (of_why at why family rank label (region at (family label) label place))
        (rank_whole at family rank (region at (family label) label place) here fit.parts fit.atom at.formula (fit.natural label place why rank is))
        (why_whole at family rank (region at (family label) label place) here fit.parts fit.atom label (fit.arcs label place why rank is) (fit.arcs_of label place why rank is) why (fit.whys label place why rank is))
