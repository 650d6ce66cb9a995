-- What holds of each row and of each rank of the families that sweeps make, by what holds of those of a step's targets.
use Rattle.std.specs.Prelude.{⊤}
use Rattle.std.proofs.Common.{ℕ, Bool, true, false, List, [], ◌∷◌, ◌++◌}
use Rattle.linear_cons.specs.Functions.{substituted}
use Rattle.linear_cons.specs.Rows.{complement, row_kind_of}
use Rattle.linear_cons.specs.declared.row.Row.{Row}
use Rattle.decision_tree.specs.Plans.{IsEnd, Plan, bottom, branch, leaf, top}
use Rattle.decision_tree.specs.declared.affine_rank.AffineRank.{AffineRank}
use Rattle.decision_tree.specs.declared.reason.Pick.{Pick}
use Rattle.decision_tree.specs.declared.reason.Pick.TheVariants.{Yes, No}
use Rattle.decision_tree.specs.declared.reason.Why.{Why}
use Rattle.decision_tree.specs.declared.reason.Why.TheVariants.{Step}
use Rattle.tree_unify.specs.Shapes.{grafted, joined_at, leaf_met}
use Rattle.tree_unify.specs.declared.join.Join.TheVariants.{Both as Meet, Either, Later}
use Rattle.backward_transfer.specs.Ranges.{later_of}
use Rattle.backward_transfer.specs.Tests.{enabled}
use Rattle.tree_support.specs.Certificates.{affine_ranks}
use Rattle.tree_support.specs.Setting.{Trees}
use Rattle.backward_sweeps.specs.Claiming.{claimed, reranked}
use Rattle.exact_families.proofs.Deeds.{Deed, asks, before, before_free, finishes, frees, passes, sets}
use Rattle.unroll.specs.Within.{EachIs}
use Rattle.backward_transfer.specs.Steps.{stepped_by}
use Rattle.exact_families.specs.Narrowness.{NoValue}
use Rattle.exact_families.proofs.Complete.{AtAfter}
use Rattle.unroll.proofs.DualAsks.{IsAsked, ask_each}
use Rattle.unroll.proofs.Keeping.{KindIs, assigned_each, cut_each, each_more, enabled_each, later_each, node_each, stepped_each, tested_each, trimmed_each}
use Rattle.backward_sweeps.specs.Moving.{nought}
use Rattle.backward_sweeps.specs.Remaking.{both_of, either_of, made}
use Rattle.backward_transfer.specs.AffineShapes.{assigned_shape, picked_shape, same_rank, stepped_shape, tested_shape}

-- each row of the tree is such; each rank too; and no leaf is for a value that is picked
abbrev pub RowsAre : (Row → Type 0) → Plan AffineRank → Type 0
RowsAre IsRow plan = EachIs IsRow (λ why rank. ⊤) plan

abbrev pub RanksAre : (Row → Type 0) → (AffineRank → Type 0) → Plan AffineRank → Type 0
RanksAre IsRow IsRank plan = EachIs IsRow (λ why. IsRank) plan

abbrev pub EachAre : (Row → Type 0) → (AffineRank → Type 0) → Plan AffineRank → Type 0
EachAre IsRow IsRank plan = EachIs IsRow (λ why rank. NoValue why × IsRank rank) plan

pub rows_only : (P : Row → Type 0) (Q : AffineRank → Type 0) (plan : Plan AffineRank) → EachAre P Q plan → RowsAre P plan
rows_only P Q plan each = each_more P P (λ why rank. NoValue why × Q rank) (λ why rank. ⊤) (λ row own. own) (λ why rank own. tt) plan each

pub ranks_only : (P : Row → Type 0) (Q : AffineRank → Type 0) (plan : Plan AffineRank) → EachAre P Q plan → RanksAre P Q plan
ranks_only P Q plan each = each_more P P (λ why rank. NoValue why × Q rank) (λ why. Q) (λ row own. own) (λ why rank own. own.1) plan each

-- ---- taking over, and joining

module _ (P : Row → Type 0) (Own : AffineRank → Type 0) (own : Own nought) where
  pub claimed_each : (why : Why) → NoValue why → (plan : Plan AffineRank) → RowsAre P plan → EachAre P Own (claimed why plan)
  claimed_each why plain bottom each = tt
  claimed_each why plain (top cause) each = tt
  claimed_each why plain (leaf other before) each = (plain, own)
  claimed_each why plain (branch row this that) each =
      node_each same_rank P (λ why rank. NoValue why × Own rank) row (claimed why this) (claimed why that) each.0 (claimed_each why plain this each.1)
      (claimed_each why plain that each.2)

  pub reranked_each : (plan : Plan AffineRank) → RowsAre P plan → RanksAre P Own (reranked plan)
  reranked_each bottom each = tt
  reranked_each (top cause) each = tt
  reranked_each (leaf why before) each = own
  reranked_each (branch row this that) each =
      node_each same_rank P (λ why. Own) row (reranked this) (reranked that) each.0 (reranked_each this each.1) (reranked_each that each.2)

pub ranks_rows : (P : Row → Type 0) (Q : AffineRank → Type 0) (plan : Plan AffineRank) → RanksAre P Q plan → RowsAre P plan
ranks_rows P Q plan each = each_more P P (λ why. Q) (λ why rank. ⊤) (λ row own. own) (λ why rank own. tt) plan each

module _ (P : Row → Type 0) (Q More : AffineRank → Type 0) (more : (rank : AffineRank) → Q rank → More (affine_ranks.one_more rank)) where
  pub by_each : (pick : Pick) → NoValue (Step pick) → (plan : Plan AffineRank) → RanksAre P Q plan → EachAre P More (stepped_by same_rank affine_ranks.one_more pick plan)
  by_each pick plain bottom each = tt
  by_each pick plain (top cause) each = tt
  by_each pick plain (leaf why rank) each = (plain, more rank each)
  by_each pick plain (branch row this that) each =
      node_each same_rank P (λ why rank. NoValue why × More rank) row (stepped_by same_rank affine_ranks.one_more pick this)
      (stepped_by same_rank affine_ranks.one_more pick that) each.0 (by_each pick plain this each.1) (by_each pick plain that each.2)

module _ (P : Row → Type 0) (Q : Why → AffineRank → Type 0) where
  meet_grafted : (second : Plan AffineRank) → EachIs P Q second → (path : List Row) (first : Plan AffineRank) → RowsAre P first
      → EachIs P Q (grafted same_rank (joined_at same_rank affine_ranks.where_greater affine_ranks.greater_fits Meet second) path first)
  meet_grafted second two path bottom one = tt
  meet_grafted second two path (top cause) one = tt
  meet_grafted second two path (leaf why rank) one =
      cut_each same_rank P Q (leaf_met same_rank affine_ranks.where_greater affine_ranks.greater_fits Meet (leaf why rank)) (λ end ends kept. kept) path second two
  meet_grafted second two path (branch row this that) one =
      node_each same_rank P Q row (grafted same_rank (joined_at same_rank affine_ranks.where_greater affine_ranks.greater_fits Meet second) (path ++ row ∷ []) this)
      (grafted same_rank (joined_at same_rank affine_ranks.where_greater affine_ranks.greater_fits Meet second) (path ++ complement row ∷ []) that) one.0
      (meet_grafted second two (path ++ row ∷ []) this one.1) (meet_grafted second two (path ++ complement row ∷ []) that one.2)

  found_or : (first end : Plan AffineRank) → IsEnd end → EachIs P Q first → EachIs P Q end
      → EachIs P Q (leaf_met same_rank affine_ranks.where_greater affine_ranks.greater_fits Either first end)
  found_or first bottom ends one two = one
  found_or first (top cause) ends one two = one
  found_or first (leaf why rank) ends one two = two
  found_or first (branch row this that) ends one two = absurd ends

  either_grafted : (second : Plan AffineRank) → EachIs P Q second → (path : List Row) (first : Plan AffineRank) → EachIs P Q first
      → EachIs P Q (grafted same_rank (joined_at same_rank affine_ranks.where_greater affine_ranks.greater_fits Either second) path first)
  either_grafted second two path bottom one =
      cut_each same_rank P Q (leaf_met same_rank affine_ranks.where_greater affine_ranks.greater_fits Either bottom)
      (λ end ends kept. found_or bottom end ends tt kept) path second two
  either_grafted second two path (top cause) one =
      cut_each same_rank P Q (leaf_met same_rank affine_ranks.where_greater affine_ranks.greater_fits Either (top cause))
      (λ end ends kept. found_or (top cause) end ends tt kept) path second two
  either_grafted second two path (leaf why rank) one = one
  either_grafted second two path (branch row this that) one =
      node_each same_rank P Q row (grafted same_rank (joined_at same_rank affine_ranks.where_greater affine_ranks.greater_fits Either second) (path ++ row ∷ []) this)
      (grafted same_rank (joined_at same_rank affine_ranks.where_greater affine_ranks.greater_fits Either second) (path ++ complement row ∷ []) that) one.0
      (either_grafted second two (path ++ row ∷ []) this one.1) (either_grafted second two (path ++ complement row ∷ []) that one.2)

  pub meet_each : (first second : Plan AffineRank) → RowsAre P first → EachIs P Q second → EachIs P Q (both_of first second)
  meet_each first second one two = meet_grafted second two [] first one

  pub or_each : (first second : Plan AffineRank) → EachIs P Q first → EachIs P Q second → EachIs P Q (either_of first second)
  or_each first second one two = either_grafted second two [] first one

  pub made_each : (now keep step : Plan AffineRank) → EachIs P Q now → RowsAre P keep → EachIs P Q step → EachIs P Q (made now keep step)
  made_each now keep step one two three = or_each now (both_of keep step) one (meet_each keep step two three)

-- ---- the steps of a program

-- what holds of the rows at a label, of the ranks there, and of those behind its step
module _ (P : ℕ → Row → Type 0) (Q Behind : ℕ → AffineRank → Type 0) where
  -- rows and ranks of a target are such before the step
  abbrev Comes : ℕ → ℕ → Type 0
  Comes l target = ((row : Row) → P target row → P l row) × ((rank : AffineRank) → Q target rank → Behind l rank)

  abbrev pub Suits : ℕ → Deed → Type 0
  Suits l finishes = ⊤
  Suits l (sets x by target) =
      ((row : Row) → P target row → KindIs (P l) (row_kind_of (substituted row.affine x by)))
      × ((rank : AffineRank) → Q target rank → Behind l (affine_ranks.substituted rank x by))
  Suits l (passes target) = Comes l target
  Suits l (asks holds fails then_to else_to) =
      IsAsked (P l) holds fails × Comes l then_to × Comes l else_to
  Suits l (frees then_to else_to) = Comes l then_to × Comes l else_to

  module _ (l : ℕ) (more : (rank : AffineRank) → Behind l rank → Q l (affine_ranks.one_more rank))
      (met : (why other : Why) (rank next : AffineRank) → Behind l rank → Behind l next
      → RanksAre (P l) (Behind l) (leaf_met same_rank affine_ranks.where_greater affine_ranks.greater_fits Later (leaf why rank) (leaf other next))) where
    abbrev Out : Why → AffineRank → Type 0
    Out why rank = NoValue why × Q l rank

    pub comes_each : (target : ℕ) → Comes l target → (plan : Plan AffineRank) → RanksAre (P target) (Q target) plan → RanksAre (P l) (Behind l) plan
    comes_each target comes plan each = each_more (P target) (P l) (λ why. Q target) (λ why. Behind l) comes.0 (λ why. comes.1) plan each

    free_each : (all : Bool) (this that : Plan AffineRank) → RanksAre (P l) (Behind l) this → RanksAre (P l) (Behind l) that
        → EachAre (P l) (Q l) (before_free all this that)
    free_each true this that one two =
        trimmed_each same_rank (P l) Out [] (stepped_shape (later_of same_rank affine_ranks.where_greater affine_ranks.greater_fits this that))
        (stepped_each same_rank (P l) (λ why. Behind l) Out affine_ranks.one_more (λ why rank own. (tt, more rank own))
        (later_of same_rank affine_ranks.where_greater affine_ranks.greater_fits this that)
        (later_each same_rank (P l) (λ why. Behind l) affine_ranks.where_greater affine_ranks.greater_fits met this that one two))
    free_each false this that one two =
        trimmed_each same_rank (P l) Out [] (picked_shape this that)
        (or_each (P l) Out (stepped_by same_rank affine_ranks.one_more Yes this) (stepped_by same_rank affine_ranks.one_more No that)
        (by_each (P l) (Behind l) (Q l) more Yes tt this one) (by_each (P l) (Behind l) (Q l) more No tt that two))

    pub before_each : (all : Bool) (deed : Deed) (trees : Trees AffineRank) → Suits l deed → AtAfter deed (λ target. RanksAre (P target) (Q target) (trees target))
        → EachAre (P l) (Q l) (before all deed trees)
    before_each all finishes trees suits each = tt
    before_each all (sets x by target) trees suits each =
        trimmed_each same_rank (P l) Out [] (assigned_shape x by (trees target))
        (assigned_each same_rank (P target) (P l) (λ why. Q target) Out affine_ranks.substituted affine_ranks.one_more x by suits.0
        (λ why rank own. (tt, more (affine_ranks.substituted rank x by) (suits.1 rank own))) (trees target) each)
    before_each all (passes target) trees suits each =
        trimmed_each same_rank (P l) Out [] (stepped_shape (trees target))
        (stepped_each same_rank (P l) (λ why. Behind l) Out affine_ranks.one_more (λ why rank own. (tt, more rank own)) (trees target)
        (comes_each target suits (trees target) each))
    before_each all (asks holds fails then_to else_to) trees suits each =
        let one : RanksAre (P l) (Behind l) (trees then_to) = comes_each then_to suits.1 (trees then_to) each.0 in
        let two : RanksAre (P l) (Behind l) (trees else_to) = comes_each else_to suits.2 (trees else_to) each.1 in
        trimmed_each same_rank (P l) Out [] (tested_shape (trees then_to) (trees else_to) holds fails)
        (tested_each same_rank (P l) Out affine_ranks.where_greater affine_ranks.greater_fits affine_ranks.one_more (trees then_to) (trees else_to) fails holds
        (ask_each (P l) (P l) (λ row own. own)
        (λ t u. EachIs (P l) Out (enabled same_rank affine_ranks.where_greater affine_ranks.greater_fits affine_ranks.one_more (trees then_to) (trees else_to) t u))
        (enabled_each same_rank (P l) (λ why. Behind l) Out affine_ranks.one_more (λ why rank own. (tt, more rank own)) affine_ranks.where_greater
        affine_ranks.greater_fits met (trees then_to) (trees else_to) one two)
        holds fails suits.0))
    before_each all (frees then_to else_to) trees suits each =
        free_each all (trees then_to) (trees else_to) (comes_each then_to suits.0 (trees then_to) each.0) (comes_each else_to suits.1 (trees else_to) each.1)
