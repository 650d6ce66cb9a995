-- Affine functions in order as ranks are lawful, and what is shown of such ranks.
use Rattle.std.proofs.Common.{◌≡◌, ℤ, pos, List, length, set, refl, arith}
use Rattle.linear_cons.specs.Functions.{coefficient, value_at}
use Rattle.linear_cons.specs.declared.affine.Affine.{Affine}
use Rattle.linear_cons.proofs.Forms.{form_unmentioned}
use Rattle.tree_support.proofs.Lawful.{AreLawful}
use Rattle.ordinal_rank.specs.declared.ordinal.OrdinalRank.{OrdinalRank}
use Rattle.ordinal_rank.specs.Families.{IsFreeOf, ordinal_ranks}
use Rattle.ordinal_rank.specs.Ordinals.{parts_of}
use Rattle.ordinal_rank.specs.Parts.{Exceeds, values_at}
use Rattle.ordinal_rank.specs.Laws.PartLaws.{above, chain_is, excess_is, more_exceeds, more_keeps, negative_is, one_way_is, substituted_is}

-- a function that doesn't mention the place has the same value whatever number is put there
spared : (function : Affine) (store : List ℤ) (z : ℤ) → length store ≡ 16 → coefficient function 15 ≡ pos 0
    → value_at function (set store 15 z) ≡ value_at function store
spared function store z long free = form_unmentioned function 15 store (pos 1) z (omega arith) free

pub ordinals_lawful : AreLawful ordinal_ranks (IsFreeOf 15)
ordinals_lawful = record {
  one_way = λ v w. one_way_is 4 v w;
  chains = λ u v w. chain_is 4 u v w;
  substitutes = λ rank place by store low long. substituted_is 4 (parts_of rank) place by store low long;
  keeps_order = λ rank other store next. more_keeps 4 (parts_of rank) (parts_of other) store next;
  greater_where = λ rank other store. excess_is 4 (parts_of rank) (parts_of other) store;
  negative_where = λ rank store. negative_is 4 (parts_of rank) store;
  spared = λ rank free store z long.
      let fourth = spared rank.fourth store z long (free 0 rank.fourth (omega arith)) in
      let third = spared rank.third store z long (free 1 rank.third (omega arith)) in
      let second = spared rank.second store z long (free 2 rank.second (omega arith)) in
      let first = spared rank.first store z long (free 3 rank.first (omega arith)) in
      let finite = spared rank.finite store z long (free 4 rank.finite (omega arith)) in
      rw (fourth, third, second, first, finite) refl;
}

-- a rank that another with one more doesn't exceed exceeds the other
pub descent : (rank other : OrdinalRank) (store next : List ℤ)
    → (ordinal_ranks.exceeds (ordinal_ranks.rank_value (ordinal_ranks.one_more other) next) (ordinal_ranks.rank_value rank store) → ⊥)
    → Exceeds 4 (values_at 4 (parts_of rank) store) (values_at 4 (parts_of other) next)
descent rank other store next fails =
    above 4 (ordinal_ranks.rank_value (ordinal_ranks.one_more other) next) (values_at 4 (parts_of rank) store) (values_at 4 (parts_of other) next)
    fails (more_exceeds 4 (parts_of other) next)
