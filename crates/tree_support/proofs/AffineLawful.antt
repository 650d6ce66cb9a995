-- Affine functions as ranks are lawful, and what is shown of such ranks.
use Rattle.std.proofs.Common.{◌≡◌, ℤ, pos, ◌≤ℤ◌, ◌<ℤ◌, List, arith}
use Rattle.std.proofs.lemmas.Int.{ints, by_lt_z}
use Rattle.linear_cons.specs.Functions.{coefficient, value_at}
use Rattle.linear_cons.proofs.Forms.{form_unmentioned, value_substituted}
use Rattle.decision_tree.specs.declared.affine_rank.AffineRank.{AffineRank}
use Rattle.decision_tree.specs.Laws.AffineLaws.{chain_is, excess_is, more_exceeds, more_keeps, negative_is}
use Rattle.tree_support.specs.Certificates.{affine_ranks}
use Rattle.tree_support.proofs.Lawful.{AreLawful}

pub affine_lawful : AreLawful affine_ranks (λ rank. coefficient rank.value 15 ≡ pos 0)
affine_lawful = record {
  one_way = λ v w more less. omega (arith, ints);
  chains = chain_is;
  substitutes = λ rank place by store low long. value_substituted rank.value place by store low (omega arith);
  keeps_order = λ rank other store next. more_keeps rank.value other.value store next;
  greater_where = λ rank other store. excess_is rank.value other.value store;
  negative_where = λ rank store. negative_is rank.value store;
  spared = λ rank free store z long. form_unmentioned rank.value 15 store (pos 1) z (omega arith) free;
}

-- a rank that isn't exceeded by another and one more is greater than that one
pub fewer_steps : (rank other : AffineRank) (store next : List ℤ)
    → (affine_ranks.exceeds (affine_ranks.rank_value (affine_ranks.one_more other) next) (affine_ranks.rank_value rank store) → ⊥)
    → value_at other.value next <ℤ value_at rank.value store
fewer_steps rank other store next fails =
    by_lt_z (value_at other.value next) (value_at rank.value store) (λ less. less) (λ from.
    let more = more_exceeds other.value next in absurd (fails (omega (arith, ints))))

pub not_negative : (z : ℤ) → ((pos 0 ≤ℤ z → ⊥) → ⊥) → pos 0 ≤ℤ z
not_negative z fails = by_lt_z z (pos 0) (λ below. absurd (fails (λ from. omega (arith, ints)))) (λ from. from)
