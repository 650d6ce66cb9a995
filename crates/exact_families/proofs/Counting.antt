-- The ranks of the families that are made are numbers of steps.
use Rattle.std.specs.Prelude.{⊤}
use Rattle.std.proofs.Common.{ℕ, ◌<◌, Bool, List, [], ◌∷◌, refl, inr, ◌≡◌}
use Rattle.linear_cons.specs.declared.row.Row.{Row}
use Rattle.linear_cons.specs.declared.row.RowKind.{RowKind}
use Rattle.linear_cons.specs.declared.row.RowKind.TheVariants.{Always, Never, Row as Kept}
use Rattle.linear_forms.specs.Duality.{EachOf}
use Rattle.decision_tree.specs.Plans.{Plan, bottom, branch, leaf, top}
use Rattle.decision_tree.specs.declared.affine_rank.AffineRank.{AffineRank}
use Rattle.ctl_formula.specs.Formulas.{Ctl, truth, falsity, exit, not_exit, always, never, least, negation, both, either, next, until, weak}
use Rattle.tree_support.specs.Arcs.{Flow}
use Rattle.tree_support.specs.Setting.{Trees}
use Rattle.unroll.specs.Levels.{RanksCount}
use Rattle.unroll.proofs.CountedRanks.{Counts, met_counts, more_counts, put_counts}
use Rattle.unroll.proofs.Keeping.{KindIs}
use Rattle.exact_families.specs.Completeness.{EachPart}
use Rattle.exact_families.proofs.Bounded.{AtomIs, HaveRows, bounded}
use Rattle.exact_families.proofs.Bounds.{RanksAre, RowsAre, Suits, before_each, ranks_only}
use Rattle.exact_families.proofs.Complete.{AreAfter, AtAfter}
use Rattle.exact_families.proofs.Deeds.{Deed, FlowsAs, asks, before, finishes, frees, passes, sets}
use Rattle.exact_families.proofs.Whole.{IsMade}

abbrev Any : ℕ → Row → Type 0
Any l row = ⊤

abbrev Steps : ℕ → AffineRank → Type 0
Steps l rank = Counts rank

any_kind : (kind : RowKind) → KindIs (λ row. ⊤) kind
any_kind Always = tt
any_kind Never = tt
any_kind (Kept row) = tt

any_rows : (rows : List Row) → EachOf (λ row. ⊤) rows
any_rows [] = tt
any_rows (row ∷ rest) = (tt, any_rows rest)

any_lists : (lists : List (List Row)) → EachOf (EachOf (λ row. ⊤)) lists
any_lists [] = tt
any_lists (rows ∷ rest) = (any_rows rows, any_lists rest)

any_tree : (plan : Plan AffineRank) → RowsAre (λ row. ⊤) plan
any_tree bottom = tt
any_tree (top cause) = tt
any_tree (leaf why rank) = tt
any_tree (branch row this that) = (tt, any_tree this, any_tree that)

pub to_each : (plan : Plan AffineRank) → RanksCount plan → RanksAre (λ row. ⊤) Counts plan
to_each bottom own = tt
to_each (top cause) own = tt
to_each (leaf why rank) own = own
to_each (branch row this that) own = (tt, to_each this own.0, to_each that own.1)

pub of_each : (plan : Plan AffineRank) → RanksAre (λ row. ⊤) Counts plan → RanksCount plan
of_each bottom own = tt
of_each (top cause) own = tt
of_each (leaf why rank) own = own
of_each (branch row this that) own = (of_each this own.1, of_each that own.2)

suits_by : (flow : Flow) (l : ℕ) (deed : Deed) → FlowsAs flow l deed → Suits Any Steps Steps l deed
suits_by flow l finishes flows = tt
suits_by flow l (sets x by target) flows = (λ row own. any_kind _, λ rank own. put_counts x by flows.2 rank own)
suits_by flow l (passes target) flows = (λ row own. tt, λ rank own. own)
suits_by flow l (asks holds fails p q) flows =
    (inr (record { long = flows.3; dual = flows.2; rows = any_lists holds }), (λ row own. tt, λ rank own. own), (λ row own. tt, λ rank own. own))
suits_by flow l (frees p q) flows = ((λ row own. tt, λ rank own. own), (λ row own. tt, λ rank own. own))

-- what holds of each part
pub map_part : (P Q : Ctl → Trees AffineRank → Type 0) → ((f : Ctl) (part : Trees AffineRank) → P f part → Q f part) → (formula : Ctl)
    (parts : ℕ → Trees AffineRank) → EachPart P formula parts → EachPart Q formula parts
map_part P Q more truth parts own = tt
map_part P Q more falsity parts own = tt
map_part P Q more exit parts own = tt
map_part P Q more not_exit parts own = tt
map_part P Q more always parts own = tt
map_part P Q more never parts own = tt
map_part P Q more (least a) parts own = tt
map_part P Q more (negation f) parts own = own
map_part P Q more (both f g) parts own = (more f (parts 0) own.0, more g (parts 1) own.1)
map_part P Q more (either f g) parts own = (more f (parts 0) own.0, more g (parts 1) own.1)
map_part P Q more (next all f) parts own = more f (parts 0) own
map_part P Q more (until all f g) parts own = (more f (parts 0) own.0, more g (parts 1) own.1)
map_part P Q more (weak all f g) parts own = (more f (parts 0) own.0, more g (parts 1) own.1)

-- what holds of the one's parts holds of the other's, where it does place by place
pub same_parts : (P : Ctl → Trees AffineRank → Type 0) (formula : Ctl) (parts other : ℕ → Trees AffineRank)
    → ((f : Ctl) → P f (parts 0) → P f (other 0)) → ((f : Ctl) → P f (parts 1) → P f (other 1)) → EachPart P formula parts → EachPart P formula other
same_parts P truth parts other first second own = tt
same_parts P falsity parts other first second own = tt
same_parts P exit parts other first second own = tt
same_parts P not_exit parts other first second own = tt
same_parts P always parts other first second own = tt
same_parts P never parts other first second own = tt
same_parts P (least a) parts other first second own = tt
same_parts P (negation f) parts other first second own = own
same_parts P (both f g) parts other first second own = (first f own.0, second g own.1)
same_parts P (either f g) parts other first second own = (first f own.0, second g own.1)
same_parts P (next all f) parts other first second own = first f own
same_parts P (until all f g) parts other first second own = (first f own.0, second g own.1)
same_parts P (weak all f g) parts other first second own = (first f own.0, second g own.1)

module _ (n : ℕ) (deeds : ℕ → Deed) (dead : ℕ → Bool) (after : (l : ℕ) → l < n → AreAfter n l (deeds l)) (flow : Flow)
    (flows : (l : ℕ) → FlowsAs flow l (deeds l)) where
  any_atom : (f : Ctl) → AtomIs n deeds dead after Any Steps Steps (λ l low. suits_by flow l (deeds l) (flows l)) (λ l. (0, refl)) (λ l. more_counts)
      (λ l. met_counts (λ row. ⊤)) f
  any_atom truth = tt
  any_atom falsity = tt
  any_atom exit = tt
  any_atom not_exit = tt
  any_atom always = tt
  any_atom never = tt
  any_atom (least a) = λ l low row is. tt
  any_atom (negation f) = tt
  any_atom (both f g) = tt
  any_atom (either f g) = tt
  any_atom (next all f) = tt
  any_atom (until all f g) = tt
  any_atom (weak all f g) = tt

  -- the ranks before a step, by those behind it
  pub before_counts : (all : Bool) (l : ℕ) (trees : Trees AffineRank) → ((target : ℕ) → RanksCount (trees target)) → RanksCount (before all (deeds l) trees)
  before_counts all l trees counts =
      of_each (before all (deeds l) trees) (ranks_only (λ row. ⊤) Counts (before all (deeds l) trees)
      (before_each Any Steps Steps l more_counts (met_counts (λ row. ⊤)) all (deeds l) trees (suits_by flow l (deeds l) (flows l)) (at_all (deeds l))))
    where
      at_all : (deed : Deed) → AtAfter deed (λ target. RanksAre (λ row. ⊤) Counts (trees target))
      at_all finishes = tt
      at_all (sets x by target) = to_each (trees target) (counts target)
      at_all (passes target) = to_each (trees target) (counts target)
      at_all (asks holds fails p q) = (to_each (trees p) (counts p), to_each (trees q) (counts q))
      at_all (frees p q) = (to_each (trees p) (counts p), to_each (trees q) (counts q))

  pub family_counts : (formula : Ctl) (parts : ℕ → Trees AffineRank) (family : Trees AffineRank) → IsMade n deeds dead formula parts family
      → EachPart (λ f part. ⊤) formula parts → deeds 0 ≡ finishes → (l : ℕ) → l < n → RanksCount (family l)
  family_counts formula parts family is each ends l low =
      of_each (family l) (ranks_only (λ row. ⊤) Counts (family l)
      (bounded n deeds dead after Any Steps Steps (λ l low. suits_by flow l (deeds l) (flows l)) (λ l. (0, refl)) (λ l. more_counts) (λ l. met_counts (λ row. ⊤))
      parts family formula is (any_atom formula) (map_part (λ f part. ⊤) (λ f. HaveRows n deeds dead after Any Steps Steps (λ l low. suits_by flow l (deeds l) (flows l))
      (λ l. (0, refl)) (λ l. more_counts) (λ l. met_counts (λ row. ⊤))) (λ f part own l low. any_tree (part l)) formula parts each) ends l low))
