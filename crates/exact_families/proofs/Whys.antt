-- The systems of a leaf are shut where each judge that grants its region finds what its why promises.
use Rattle.std.specs.Prelude.{⊤}
use Rattle.std.specs.List.{flat_map}
use Rattle.std.proofs.Common.{◌≡◌, ℕ, ◌<◌, pos, negsuc, ◌+ℤ◌, ◌-ℤ◌, Bool, true, false, cond, List, [], ◌∷◌, ◌++◌, map, Option, None, Some, All, Contains, refl, sym, subst, ◌∙◌, arith, set}
use Rattle.std.proofs.lemmas.Int.{ints}
use Rattle.std.proofs.lemmas.List.Concat.{flat_map-cons}
use Rattle.std.proofs.lemmas.List.Elements.{All-append}
use Rattle.linear_cons.specs.declared.affine.Affine.{Affine}
use Rattle.linear_cons.specs.declared.row.RowKind.TheVariants.{Never}
use Rattle.linear_cons.specs.Functions.{coefficient, complement_of, constant_of, difference_of, substituted, value_at}
use Rattle.linear_cons.specs.Numbers.{number_at}
use Rattle.linear_cons.specs.Rows.{row_kind_of}
use Rattle.linear_cons.proofs.Forms.{affine_ext, value_complement, value_substituted}
use Rattle.linear_cons.proofs.Places.{length-at_places, number_at_places}
use Rattle.linear_cons.proofs.RowKinds.{row_kind_unique}
use Rattle.decision_tree.specs.AffineRanks.{excess_of}
use Rattle.decision_tree.specs.Paths.{leaf_numbered, path_of}
use Rattle.decision_tree.specs.Plans.{Plan, bottom, branch, is_defined, leaf, top}
use Rattle.decision_tree.specs.declared.affine_rank.AffineRank.{AffineRank}
use Rattle.decision_tree.specs.declared.reason.Why.{Why}
use Rattle.ctl_formula.specs.Formulas.{Ctl, next, until, weak}
use Rattle.tree_support.specs.Arcs.{Arc, rows_given}
use Rattle.constraint_stack.specs.Forming.{Formed, given}
use Rattle.tree_support.specs.Setting.{Setting, Trees}
use Rattle.constraint_stack.specs.Claims.{System}
use Rattle.tree_support.specs.Systems.{at_leaves, if_undefined, moved_by, of_arcs, of_leaf, of_rank, of_why, region, systems, unless_less}
use Rattle.tree_support.proofs.Lists.{all_none, contains_first, contains_later}
use Rattle.exact_families.proofs.Judges.{Granted, IsJudge, judged}
use Rattle.exact_families.specs.Shut.{IsShut}
use Rattle.exact_families.proofs.Shutting.{IsLess, Turns, granted_left, granted_right, less_shut, path_judged, says_moved, undefined_shut}

-- ---- functions put in

-- the complement with a function put in is the complement of the function with it put in
pub put_turns : (place : ℕ) (by : Affine) → place < 16 → (a : Affine) → substituted (complement_of a) place by ≡ complement_of (substituted a place by)
put_turns place by low a =
    affine_ext (substituted (complement_of a) place by) (complement_of (substituted a place by)) (length-at_places _) (length-at_places _)
    (λ store long.
    let first = value_substituted (complement_of a) place by store low (omega arith) in
    let second = value_substituted a place by store low (omega arith) in
    let turned = value_complement a (set store place (value_at by store)) in
    let other = value_complement (substituted a place by) store in
    omega (arith, ints))

-- the place that an arc sets is below 16
abbrev pub SetsPlace : Option (ℕ × Affine) → Type 0
SetsPlace None = ⊤
SetsPlace (Some (place, by)) = place < 16

pub arcs_turn : (sets : Option (ℕ × Affine)) → SetsPlace sets → Turns (moved_by sets)
arcs_turn None low a = refl
arcs_turn (Some (place, by)) low a = put_turns place by low a

-- ---- ranks

-- a rank isn't below itself
pub own_excess : (a : Affine) → row_kind_of (excess_of a a) ≡ Never
own_excess a =
    sym (row_kind_unique (excess_of a a) Never (
      (λ i low.
          let third = number_at_places (λ j. pos 0) i low in
          let difference = number_at_places (λ j. coefficient a j -ℤ coefficient a j) i low in
          let sum = number_at_places (λ j. number_at (difference_of a a).coef j +ℤ coefficient (constant_of (negsuc 0)) j) i low in
          omega (arith, ints, third, difference, sum)),
      omega (arith, ints),
    ))

-- ---- lists of arcs

pub flat_all : {X Y : Type 0} (P : X → Type 0) (f : Y → List X) (ys : List Y) → ((y : Y) → Contains ys y → All P (f y)) → All P (flat_map f ys)
flat_all P f [] each = all_none P
flat_all P f (y ∷ ys) each =
    subst (All P) (sym (flat_map-cons f y ys))
    (All-append P (f y) (flat_map f ys) (each y (contains_first y ys)) (flat_all P f ys (λ z inside. each z (contains_later y z ys inside))))

module _ (at : Setting AffineRank) (family : Trees AffineRank) (rank : AffineRank) (arcs : List Arc) (asks : List Formed)
    (sets : (arc : Arc) → Contains arcs arc → SetsPlace arc.sets) where
  -- the leaf of the trees behind an arc
  abbrev pub beyond : Trees AffineRank → Arc → (Affine → Bool) → Plan AffineRank
  beyond trees arc v = judged (says_moved v (moved_by arc.sets)) (trees arc.target)

  abbrev pub EachDefined : Trees AffineRank → Type 0
  EachDefined trees = (arc : Arc) → Contains arcs arc → (v : Affine → Bool) → IsJudge v → Granted v asks → Granted v arc.asks → is_defined (beyond trees arc v) ≡ true

  abbrev pub EachLess : Type 0
  EachLess = (arc : Arc) → Contains arcs arc → (v : Affine → Bool) → IsJudge v → Granted v asks → Granted v arc.asks → IsLess arc.sets rank (beyond family arc v)

  pub next_arcs : (all : Bool) (f : Ctl) → EachDefined (at.parts 0) → All IsShut (of_arcs at (next all f) family rank arcs asks)
  next_arcs all f each =
      flat_all IsShut (λ (arc : Arc). at_leaves (moved_by arc.sets) (if_undefined arc.edge) (at.parts 0 arc.target) (asks ++ arc.asks)) arcs
      (λ arc inside. undefined_shut (moved_by arc.sets) (arcs_turn arc.sets (sets arc inside)) arc.edge (at.parts 0 arc.target) (asks ++ arc.asks)
      (λ v is own. each arc inside v is (granted_left v asks arc.asks own) (granted_right v asks arc.asks own)))

  pub weak_arcs : (all : Bool) (f g : Ctl) → EachDefined family → All IsShut (of_arcs at (weak all f g) family rank arcs asks)
  weak_arcs all f g each =
      flat_all IsShut (λ (arc : Arc). at_leaves (moved_by arc.sets) (if_undefined arc.edge) (family arc.target) (asks ++ arc.asks)) arcs
      (λ arc inside. undefined_shut (moved_by arc.sets) (arcs_turn arc.sets (sets arc inside)) arc.edge (family arc.target) (asks ++ arc.asks)
      (λ v is own. each arc inside v is (granted_left v asks arc.asks own) (granted_right v asks arc.asks own)))

  pub until_arcs : (all : Bool) (f g : Ctl) → EachLess → All IsShut (of_arcs at (until all f g) family rank arcs asks)
  until_arcs all f g each =
      flat_all IsShut (λ (arc : Arc). at_leaves (moved_by arc.sets) (unless_less arc.edge arc.sets rank) (family arc.target) (asks ++ arc.asks)) arcs
      (λ arc inside. less_shut (moved_by arc.sets) (arcs_turn arc.sets (sets arc inside)) arc.edge arc.sets rank (family arc.target) (asks ++ arc.asks)
      (λ v is own. each arc inside v is (granted_left v asks arc.asks own) (granted_right v asks arc.asks own)))

-- ---- a leaf with its region

module _ (at : Setting AffineRank) (family : Trees AffineRank) (label place : ℕ) where
  abbrev pub asked_here : List Formed
  asked_here = region at (family label) label place

  -- a judge that grants the region stands at the leaf
  pub region_judged : (v : Affine → Bool) → IsJudge v → Granted v asked_here → judged v (family label) ≡ leaf_numbered (family label) place
  region_judged v is own = path_judged v is (family label) place (granted_right v (rows_given (at.rows label)) (map given (path_of (family label) place)) own)

  dead_or_not : (t : Bool) (xs : List (System AffineRank)) → All IsShut xs → All IsShut (cond t [] xs)
  dead_or_not true xs all = all_none IsShut
  dead_or_not false xs all = all

  -- what is left to show of the leaf, by its why and rank
  abbrev pub Promised : Why → AffineRank → Type 0
  Promised why rank = All IsShut (of_rank at at.formula rank asked_here ++ of_why at why family rank label asked_here)

  pub leaf_shut : ((why : Why) (rank : AffineRank) → ((v : Affine → Bool) → IsJudge v → Granted v asked_here → judged v (family label) ≡ leaf why rank) → Promised why rank)
      → All IsShut (systems at family label place)
  leaf_shut each = dead_or_not (at.dead label) _ (by (leaf_numbered (family label) place) refl)
    where
      by : (end : Plan AffineRank) → leaf_numbered (family label) place ≡ end → All IsShut (of_leaf at end family label asked_here)
      by bottom is = all_none IsShut
      by (top cause) is = all_none IsShut
      by (leaf why rank) is = each why rank (λ v judge own. region_judged v judge own ∙ is)
      by (branch row this that) is = all_none IsShut
