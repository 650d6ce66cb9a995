-- How many nodes the trees have that are made of others.
use Rattle.std.proofs.Common.{◌≡◌, ℕ, suc, ◌+◌, ◌*◌, ◌≤◌, Bool, true, false, cond, List, [], ◌∷◌, ◌++◌, Option, refl, sym, ap, ◌∙◌, arith}
use Rattle.std.proofs.Math.Nat.{add-mul, suc-mul}
use Rattle.linear_cons.specs.Rows.{complement}
use Rattle.linear_cons.specs.Settling.{settles}
use Rattle.linear_cons.specs.declared.row.Row.{Row}
use Rattle.decision_tree.specs.Nodes.{node}
use Rattle.decision_tree.specs.Plans.{IsEnd, Plan, bottom, branch, leaf, size_of, top}
use Rattle.decision_tree.specs.declared.affine_rank.AffineRank.{AffineRank}
use Rattle.decision_tree.specs.declared.reason.Pick.{Pick}
use Rattle.decision_tree.specs.declared.reason.Why.{Why}
use Rattle.tree_unify.specs.Shapes.{asks_second, grafted, joined_at, leaf_met, on_side, trimmed_with}
use Rattle.tree_unify.specs.declared.join.Join.{Join}
use Rattle.tree_unify.specs.declared.join.Join.TheVariants.{Both, Either}
use Rattle.backward_transfer.specs.AffineShapes.{affine_ranks, same_rank}
use Rattle.backward_transfer.specs.Steps.{stepped_by}
use Rattle.backward_transfer.proofs.Making.{node_most}
use Rattle.backward_sweeps.specs.Claiming.{taken_over}
use Rattle.backward_sweeps.specs.Remaking.{both_of, either_of}
use Rattle.unroll.proofs.Bounding.{node_bound}
use Rattle.unroll.proofs.DualAsks.{side_by}

pub some_nodes : (plan : Plan AffineRank) → 1 ≤ size_of plan
some_nodes bottom = omega arith
some_nodes (top cause) = omega arith
some_nodes (leaf why rank) = omega arith
some_nodes (branch row this that) = omega arith

-- a tree with one node in place of each leaf, trimmed, has no more nodes
cut_size : (f : Plan AffineRank → Plan AffineRank) → ((end : Plan AffineRank) → IsEnd end → size_of (f end) ≤ 1) → (path : List Row) (plan : Plan AffineRank)
    → size_of (trimmed_with same_rank f path plan) ≤ size_of plan
cut_size f keeps path bottom = keeps bottom tt
cut_size f keeps path (top cause) = keeps (top cause) tt
cut_size f keeps path (leaf why rank) = keeps (leaf why rank) tt
cut_size f keeps path (branch row this that) =
    let here = cut_size f keeps path this in
    let there = cut_size f keeps path that in
    let first = cut_size f keeps (path ++ row ∷ []) this in
    let second = cut_size f keeps (path ++ complement row ∷ []) that in
    let most = node_most same_rank row (trimmed_with same_rank f (path ++ row ∷ []) this) (trimmed_with same_rank f (path ++ complement row ∷ []) that) in
    side_by
    (λ t. size_of (on_side t (trimmed_with same_rank f path this) (trimmed_with same_rank f path that)
    (node same_rank row (trimmed_with same_rank f (path ++ row ∷ []) this) (trimmed_with same_rank f (path ++ complement row ∷ []) that))) ≤ size_of this + size_of that + 1)
    (settles path row) (λ is. omega (arith, here)) (λ is. omega (arith, there)) (λ is. omega (arith, first, second, most))

-- ---- the join of two trees by a rule that gives one node for two leaves

module _ (join : Join)
    (one : (first end : Plan AffineRank) → IsEnd first → IsEnd end → size_of (leaf_met same_rank affine_ranks.where_greater affine_ranks.greater_fits join first end) ≤ 1)
    (second : Plan AffineRank) where
  abbrev at_leaf : List Row → Plan AffineRank → Plan AffineRank
  at_leaf = joined_at same_rank affine_ranks.where_greater affine_ranks.greater_fits join second

  leaf_size : (path : List Row) (end : Plan AffineRank) → IsEnd end → size_of end ≡ 1 → size_of (at_leaf path end) ≤ size_of second
  leaf_size path end ends single = by (asks_second join end)
    where
      by : (t : Bool)
          → size_of (cond t (trimmed_with same_rank (leaf_met same_rank affine_ranks.where_greater affine_ranks.greater_fits join end) path second) end) ≤ size_of second
      by true = cut_size (leaf_met same_rank affine_ranks.where_greater affine_ranks.greater_fits join end) (λ other is. one end other ends is) path second
      by false = let some = some_nodes second in omega (arith, some, single)

  grafted_size : (path : List Row) (first : Plan AffineRank) → size_of (grafted same_rank at_leaf path first) + 1 ≤ size_of first * (size_of second + 1)
  grafted_size path bottom = let most = leaf_size path bottom tt refl in omega (arith, most)
  grafted_size path (top cause) = let most = leaf_size path (top cause) tt refl in omega (arith, most)
  grafted_size path (leaf why rank) = let most = leaf_size path (leaf why rank) tt refl in omega (arith, most)
  grafted_size path (branch row this that) =
      let first = grafted_size (path ++ row ∷ []) this in
      let other = grafted_size (path ++ complement row ∷ []) that in
      let both = node_bound same_rank row (grafted same_rank at_leaf (path ++ row ∷ []) this) (grafted same_rank at_leaf (path ++ complement row ∷ []) that)
      (size_of this * (size_of second + 1)) (size_of that * (size_of second + 1)) first other in
      let n : ℕ = size_of second + 1 in
      let more : suc (size_of this + size_of that) ≡ size_of this + size_of that + 1 = omega arith in
      let product : (size_of this + size_of that + 1) * n ≡ size_of this * n + size_of that * n + n =
      ap (λ k. k * n) (sym more) ∙ suc-mul (size_of this + size_of that) n ∙ ap (λ k. k + n) (add-mul (size_of this) (size_of that) n) in
      omega (arith, both, product)

both_one : (first end : Plan AffineRank) → IsEnd first → IsEnd end → size_of (leaf_met same_rank affine_ranks.where_greater affine_ranks.greater_fits Both first end) ≤ 1
both_one first bottom ends is = omega arith
both_one first (top cause) ends is = omega arith
both_one first (leaf why rank) ends is = omega arith
both_one first (branch row this that) ends is = absurd is

either_one : (first end : Plan AffineRank) → IsEnd first → IsEnd end → size_of (leaf_met same_rank affine_ranks.where_greater affine_ranks.greater_fits Either first end) ≤ 1
either_one first (leaf why rank) ends is = omega arith
either_one first (branch row this that) ends is = absurd is
either_one bottom bottom ends is = omega arith
either_one bottom (top cause) ends is = omega arith
either_one (top other) bottom ends is = omega arith
either_one (top other) (top cause) ends is = omega arith
either_one (leaf why rank) bottom ends is = omega arith
either_one (leaf why rank) (top cause) ends is = omega arith
either_one (branch row this that) bottom ends is = absurd ends
either_one (branch row this that) (top cause) ends is = absurd ends

pub both_size : (first second : Plan AffineRank) → size_of (both_of first second) + 1 ≤ size_of first * (size_of second + 1)
both_size first second = grafted_size Both both_one second [] first

pub either_size : (first second : Plan AffineRank) → size_of (either_of first second) + 1 ≤ size_of first * (size_of second + 1)
either_size first second = grafted_size Either either_one second [] first

-- ---- claims taken over, and a step more

pub taken_size : (why : Option Why) (plan : Plan AffineRank) → size_of (taken_over why plan) ≤ size_of plan
taken_size why bottom = omega arith
taken_size why (top cause) = omega arith
taken_size why (leaf own rank) = omega arith
taken_size why (branch row this that) =
    let first = taken_size why this in
    let second = taken_size why that in
    let most = node_most same_rank row (taken_over why this) (taken_over why that) in
    omega (arith, first, second, most)

pub by_size : (pick : Pick) (plan : Plan AffineRank) → size_of (stepped_by same_rank affine_ranks.one_more pick plan) ≤ size_of plan
by_size pick bottom = omega arith
by_size pick (top cause) = omega arith
by_size pick (leaf why rank) = omega arith
by_size pick (branch row this that) =
    let first = by_size pick this in
    let second = by_size pick that in
    let most = node_most same_rank row (stepped_by same_rank affine_ranks.one_more pick this) (stepped_by same_rank affine_ranks.one_more pick that) in
    omega (arith, first, second, most)
