-- What a builder answers whose parts have room of their own.
use Rattle.std.specs.Prelude.{◌≡◌, ℕ, ◌≤◌, Bool, Result, Ok, Err, ⊤}
use Rattle.std.proofs.Common.{refl, arith}
use Rattle.std.specs.Global.{Box}
use Rattle.linear_cons.specs.declared.bounds.Linear.{Linear}
use Rattle.linear_cons.specs.declared.row.Row.{Row}
use Rattle.linear_cons.specs.declared.row.RowKind.{RowKind}
use Rattle.linear_cons.specs.declared.row.RowKind.TheVariants.{Always, Never, Row as Kept}
use Rattle.decision_tree.specs.AffineRanks.{trend_of}
use Rattle.decision_tree.specs.Nodes.{node}
use Rattle.decision_tree.specs.Plans.{Plan, branch, plan_of, size_of}
use Rattle.decision_tree.specs.declared.rank.Rank.{Ghosts as Ranks}
use Rattle.decision_tree.specs.declared.tree.Tree.{Tree}
use Rattle.tree_unify.specs.Builds.{Build, Builds, given}
use Rattle.tree_unify.specs.declared.walk.Stopped.{Stopped}
use Rattle.tree_unify.specs.declared.walk.Walk.{Walk}
use Rattle.tree_unify.proofs.Building.{passed_on, stopped_by}
use Rattle.backward_transfer.specs.Ranges.{fails_throughout, holds_throughout, ranging}
use Rattle.backward_transfer.specs.Steps.{AskedFits}
use Rattle.backward_transfer.proofs.Making.{ranged_small}

-- a node whose row the way doesn't settle, where something has to fit between its sides
abbrev pub opened : {R : Type 0} → (R → R → Bool) → Row → Type 0 → Build R → Build R → Build R
opened same row Between this that = record {
  plan = node same row this.plan that.plan;
  Fits = this.Fits × Between × that.Fits;
  Room = this.Room × ⊤ × that.Room;
}

-- both sides were made, and joined
pub joined : {R : Type 0} {this that : Build R} {a b c d from start new : Walk} {first second : Box (Tree R)} (same : R → R → Bool) (row : Row) (Between : Type 0)
    (result : Result (Box (Tree R)) Stopped) → Builds this a b (Ok first) → Between → Builds that c d (Ok second)
    → Builds (given (node same row (plan_of first.value) (plan_of second.value))) from new result → from.trail ≡ start.trail
    → Builds (opened same row Between this that) start new result
joined same row Between result here between there built back =
    let this_is = here.tree in
    let that_is = there.tree in
    passed_on _ _ result (rw (this_is, that_is) at built) back refl (λ fits. (here.fits, between, there.fits)) (λ fits. tt) (λ room. (here.room, tt, there.room)) (λ room. tt)

-- the walk stopped in a part, which is small where the whole has room, and fits and has room where the whole does
stopped_within : {R : Type 0} (whole : Build R) (start : Walk) {part : Build R} {old new : Walk} {stopped : Stopped} → Builds part old new (Err stopped)
    → (whole.Fits → part.Fits) → (whole.Room → part.Room) → (whole.Room → size_of part.plan ≤ 65536) → Builds whole start new (Err stopped)
stopped_within whole start part falls clears least =
    stopped_by whole start (λ count is. let more = part.full count is in (more.0, λ room small. more.1 (clears room) (least room)))
    (λ w is fits. part.wide w is (falls fits)) part.operands

-- ---- where a row may hold for some values of a range and fail for others, both sides are made

both_asked : (fails : RowKind) (Yes No Rest : Type 0) → AskedFits fails No (Yes × No × Rest) → No
both_asked Always Yes No Rest asks = asks
both_asked Never Yes No Rest asks = asks.1
both_asked (Kept row) Yes No Rest asks = asks.0

-- what is asked of each side is asked, unless the row is settled
sides_asked : (holds fails : RowKind) (Yes No Rest Other : Type 0) → (holds ≡ Always → ⊥) → (holds ≡ Never → fails ≡ Always → ⊥)
    → (Other → AskedFits fails No (Yes × No × Rest)) → AskedFits holds Yes Other → Yes × No
sides_asked Always fails Yes No Rest Other some apart behind asks = absurd (some refl)
sides_asked Never Always Yes No Rest Other some apart behind asks = absurd (apart refl refl)
sides_asked Never Never Yes No Rest Other some apart behind asks = let both = behind asks in (both.0, both.1)
sides_asked Never (Kept row) Yes No Rest Other some apart behind asks = let both = behind asks in (both.1.0, both.0)
sides_asked (Kept row) fails Yes No Rest Other some apart behind asks = (asks.0, both_asked fails Yes No Rest (behind asks.1))

module _ {R : Type 0} (same : R → R → Bool) (ranks : Ranks R) (place : ℕ) (range : Linear) where
  room_enough : (plan : Plan R) → (ranging same ranks place range plan).Room → size_of (ranging same ranks place range plan).plan ≤ 65536
  room_enough plan small = ranged_small same ranks.where_greater ranks.greater_fits ranks.trend ranks.substituted ranks.one_more 65536 place range (omega arith) plan small

  module _ (row : Row) (this that : Plan R) (some : holds_throughout (trend_of row.affine place) row place range ≡ Always → ⊥)
      (apart : holds_throughout (trend_of row.affine place) row place range ≡ Never → fails_throughout (trend_of row.affine place) row place range ≡ Always → ⊥)
    where
      sides_fit : (ranging same ranks place range (branch row this that)).Fits
          → (ranging same ranks place range this).Fits × (ranging same ranks place range that).Fits
      sides_fit fits =
          sides_asked (holds_throughout (trend_of row.affine place) row place range) (fails_throughout (trend_of row.affine place) row place range)
          (ranging same ranks place range this).Fits (ranging same ranks place range that).Fits _ _ some apart (λ other. other.1) fits.1

      sides_clear : (ranging same ranks place range (branch row this that)).Room
          → (ranging same ranks place range this).Room × (ranging same ranks place range that).Room
      sides_clear room =
          sides_asked (holds_throughout (trend_of row.affine place) row place range) (fails_throughout (trend_of row.affine place) row place range)
          (ranging same ranks place range this).Room (ranging same ranks place range that).Room _ _ some apart (λ other. other) room.1

      -- the walk stopped in one of them
      pub yes_stopped : {start old new : Walk} {stopped : Stopped} → Builds (ranging same ranks place range this) old new (Err stopped)
          → Builds (ranging same ranks place range (branch row this that)) start new (Err stopped)
      yes_stopped part =
          stopped_within _ _ part (λ fits. (sides_fit fits).0) (λ room. (sides_clear room).0) (λ room. room_enough this (sides_clear room).0)

      pub no_stopped : {start old new : Walk} {stopped : Stopped} → Builds (ranging same ranks place range that) old new (Err stopped)
          → Builds (ranging same ranks place range (branch row this that)) start new (Err stopped)
      no_stopped part =
          stopped_within _ _ part (λ fits. (sides_fit fits).1) (λ room. (sides_clear room).1) (λ room. room_enough that (sides_clear room).1)
