-- What a tree whose ranks have risen says of the tree itself.
use Rattle.std.proofs.Common.{◌≡◌, ℕ, ℤ, pos, int_le, Bool, true, false, cond, inl, inr, List, refl, ◌∙◌, subst}
use Rattle.linear_cons.specs.Functions.{value_at}
use Rattle.decision_tree.specs.Laws.AffineLaws.{more_exceeds}
use Rattle.decision_tree.specs.Evaluation.{eval}
use Rattle.decision_tree.specs.Plans.{IsEnd, Plan, bottom, branch, leaf, top}
use Rattle.tree_unify.proofs.Meeting.{eval_is_end, node_eval}
use Rattle.backward_transfer.specs.Mentions.{IsAtMost}
use Rattle.ordinal_rank.specs.declared.ordinal.OrdinalRank.{OrdinalRank}
use Rattle.ordinal_rank.specs.Jumps.{IsExceeded, ordinals, risen, risen_at, rising_power, same_ordinal}
use Rattle.ordinal_rank.specs.declared.jump.Power.{Power}
use Rattle.ordinal_rank.specs.declared.jump.Power.TheVariants.{First, Fourth, Second, Third}
use Rattle.ordinal_rank.specs.Laws.PartLaws.{above, equal_is}

risen_side : (highest : Power) (place : ℕ) (t : Bool) (this that : Plan OrdinalRank)
    → cond t (risen highest place this) (risen highest place that) ≡ risen highest place (cond t this that)
risen_side highest place true this that = refl
risen_side highest place false this that = refl

sides : {A : Type 0} (t : Bool) (a b c d : A) → a ≡ b → c ≡ d → cond t a c ≡ cond t b d
sides t a b c d first second = rw (first, second) refl

-- where a store stands in the tree whose ranks have risen
risen_eval : (highest : Power) (place : ℕ) (plan : Plan OrdinalRank) (store : List ℤ)
    → eval (risen highest place plan) store ≡ risen highest place (eval plan store)
risen_eval highest place bottom store = refl
risen_eval highest place (top cause) store = refl
risen_eval highest place (leaf why rank) store = refl
risen_eval highest place (branch row this that) store =
    node_eval same_ordinal equal_is row (risen highest place this) (risen highest place that) store
    ∙ sides (int_le (pos 0) (value_at row.affine store)) _ _ _ _ (risen_eval highest place this store) (risen_eval highest place that store)
    ∙ risen_side highest place (int_le (pos 0) (value_at row.affine store)) (eval this store) (eval that store)

-- a rank that has risen, with one more, exceeds the rank
risen_exceeds : (power : Power) (rank : OrdinalRank) (store : List ℤ)
    → ordinals.exceeds (ordinals.rank_value (ordinals.one_more (risen_at power rank)) store) (ordinals.rank_value rank store)
risen_exceeds Fourth rank store = inl (more_exceeds rank.fourth store)
risen_exceeds Third rank store = inr (refl, inl (more_exceeds rank.third store))
risen_exceeds Second rank store = inr (refl, inr (refl, inl (more_exceeds rank.second store)))
risen_exceeds First rank store = inr (refl, inr (refl, inr (refl, inl (more_exceeds rank.first store))))

-- what isn't exceeded by that exceeds the rank
above_risen : (power : Power) (rank : OrdinalRank) (store : List ℤ) (v : ordinals.Value)
    → (ordinals.exceeds (ordinals.rank_value (ordinals.one_more (risen_at power rank)) store) v → ⊥)
    → ordinals.exceeds v (ordinals.rank_value rank store)
above_risen power rank store v fails =
    above 4 (ordinals.rank_value (ordinals.one_more (risen_at power rank)) store) v (ordinals.rank_value rank store) fails
    (risen_exceeds power rank store)

at_end : (highest : Power) (place : ℕ) (store : List ℤ) (v : ordinals.Value) (end : Plan OrdinalRank) → IsEnd end
    → IsAtMost ordinals.rank_value ordinals.exceeds ordinals.one_more store v (risen highest place end) → IsExceeded store v end
at_end highest place store v bottom ends at_most = at_most
at_end highest place store v (top cause) ends at_most = at_most
at_end highest place store v (leaf why rank) ends at_most = above_risen (rising_power highest rank place) rank store v at_most
at_end highest place store v (branch row this that) ends at_most = absurd ends

pub jump_exceeds : (highest : Power) (place : ℕ) (plan : Plan OrdinalRank) (store : List ℤ) (v : ordinals.Value)
    → IsAtMost ordinals.rank_value ordinals.exceeds ordinals.one_more store v (eval (risen highest place plan) store)
    → IsExceeded store v (eval plan store)
jump_exceeds highest place plan store v at_most =
    at_end highest place store v (eval plan store) (eval_is_end plan store)
    (subst (IsAtMost ordinals.rank_value ordinals.exceeds ordinals.one_more store v) (risen_eval highest place plan store) at_most)
