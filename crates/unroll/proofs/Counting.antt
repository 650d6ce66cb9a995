-- What the claims at a store tell, where they are one more than those behind a step.
use Rattle.std.proofs.Common.{◌≡◌, ◌⊎◌, inl, inr, ℕ, suc, max, ℤ, pos, int_le, cond, List, Bool, true, false, Some, refl, sym, ap, subst, ◌∙◌, arith, ⊎_elim}
use Rattle.std.proofs.lemmas.Bool.{false≢true}
use Rattle.linear_cons.specs.Functions.{value_at}
use Rattle.decision_tree.specs.Evaluation.{eval}
use Rattle.decision_tree.specs.Plans.{IsEnd, Plan, bottom, branch, is_defined, leaf, top}
use Rattle.decision_tree.specs.declared.affine_rank.AffineRank.{AffineRank}
use Rattle.decision_tree.specs.declared.reason.Why.{Why}
use Rattle.step_meaning.specs.Step.{Configuration, front}
use Rattle.unroll.specs.Building.{ClaimsAt, CountsAt, IsBefore, IsBeforeBoth, Tells, left_by}
use Rattle.unroll.specs.Levels.{RanksCount, counted}
use Rattle.unroll.proofs.LevelLaws.{Behind, TwoNext, is_loop, step_tells, tells_by}

counted_one : (n m : ℕ) → counted n ≡ counted m → n ≡ m
counted_one n m same =
    let numbers : pos n ≡ pos m = ap (λ (r : AffineRank). r.value.constant) same in
    cc

ranks_one : (why other : Why) (rank next : AffineRank) → ◌≡◌ {A = Plan AffineRank} (leaf why rank) (leaf other next) → rank ≡ next
ranks_one why other rank next same = cc

pub claims_one : (end : Plan AffineRank) (n m : ℕ) → ClaimsAt end n → ClaimsAt end m → n ≡ m
claims_one end n m one two = counted_one n m (ranks_one one.0 two.0 (counted n) (counted m) (sym one.1 ∙ two.1))

claimed_defined : (end : Plan AffineRank) (why : Why) (rank : AffineRank) → end ≡ leaf why rank → is_defined end ≡ true
claimed_defined end why rank is = ap is_defined is

-- an end claims a number of steps, or none
claim_or_none : (end : Plan AffineRank) → IsEnd end → CountsAt end → ((n : ℕ) × ClaimsAt end n) ⊎ (is_defined end ≡ false)
claim_or_none bottom ends counts = inr refl
claim_or_none (top cause) ends counts = inr refl
claim_or_none (leaf why rank) ends counts = let known = counts why rank refl in inl (known.0, (why, ap (λ r. leaf why r) known.1))
claim_or_none (branch row this that) ends counts = absurd ends

module _ (first second made : Plan AffineRank) (first_ends : IsEnd first) (second_ends : IsEnd second) (first_counts : CountsAt first) (second_counts : CountsAt second)
    (before : IsBeforeBoth first second made) where
  -- both claim, where the made one does
  claims_behind : (why : Why) (rank : AffineRank) → made ≡ leaf why rank → ((a : ℕ) × ClaimsAt first a) × ((b : ℕ) × ClaimsAt second b)
  claims_behind why rank is =
      ⊎_elim (λ one. ⊎_elim (λ two. (one, two)) (λ apart. absurd (false≢true (sym (before.none (inr apart)) ∙ claimed_defined made why rank is))) (claim_or_none second second_ends second_counts))
      (λ apart. absurd (false≢true (sym (before.none (inl apart)) ∙ claimed_defined made why rank is))) (claim_or_none first first_ends first_counts)

  made_rank : (why : Why) (rank : AffineRank) → made ≡ leaf why rank → (n : ℕ) × Behind (ClaimsAt first) (ClaimsAt second) n × (rank ≡ counted n)
  made_rank why rank is =
      let known = claims_behind why rank is in
      let a : ℕ = known.0.0 in
      let b : ℕ = known.1.0 in
      let step = before.claims a b known.0.1 known.1.1 in
      (suc (max a b), (a, b, known.0.1, known.1.1, refl), ranks_one why step.0 rank (counted (suc (max a b))) (sym is ∙ step.1))

  behind_made : (n : ℕ) → Behind (ClaimsAt first) (ClaimsAt second) n → ClaimsAt made n
  behind_made n behind = subst (ClaimsAt made) (sym behind.4) (before.claims behind.0 behind.1 behind.2 behind.3)

  made_behind : (n : ℕ) → ClaimsAt made n → Behind (ClaimsAt first) (ClaimsAt second) n
  made_behind n claim =
      let known = made_rank claim.0 (counted n) claim.1 in
      subst (Behind (ClaimsAt first) (ClaimsAt second)) (sym (counted_one n known.0 known.2)) known.1

  pub made_tells : (tests left : ℕ) (c d e : Configuration) → TwoNext c d e → left_by (is_loop (front c.todo)) tests ≡ Some left
      → Tells left d (ClaimsAt first) → Tells left e (ClaimsAt second) → Tells tests c (ClaimsAt made)
  made_tells tests left c d e next allows here there =
      tells_by tests c (Behind (ClaimsAt first) (ClaimsAt second)) (ClaimsAt made) behind_made made_behind
      (step_tells tests left c d e (ClaimsAt first) (ClaimsAt second) next allows here there)

-- one end behind a step stands for two
pub twice : (end made : Plan AffineRank) → IsBefore end made → IsBeforeBoth end end made
twice end made before = record {
  claims = λ n m one two. let same : n ≡ m = claims_one end n m one two in
      let most : suc n ≡ suc (max n m) = omega arith in subst (ClaimsAt made) most (before.claims n one);
  none = λ undefined. ⊎_elim (λ one. before.none one) (λ two. before.none two) undefined;
}

-- each claim of a tree whose ranks are numbers of steps is one
eval_ranks : (plan : Plan AffineRank) (store : List ℤ) → RanksCount plan → RanksCount (eval plan store)
eval_ranks bottom store ranks = tt
eval_ranks (top cause) store ranks = tt
eval_ranks (leaf why rank) store ranks = ranks
eval_ranks (branch row this that) store ranks = at (int_le (pos 0) (value_at row.affine store)) (eval_ranks this store ranks.0) (eval_ranks that store ranks.1)
  where
    at : (t : Bool) → RanksCount (eval this store) → RanksCount (eval that store) → RanksCount (cond t (eval this store) (eval that store))
    at true first second = first
    at false first second = second

pub counts_at : (plan : Plan AffineRank) (store : List ℤ) → RanksCount plan → CountsAt (eval plan store)
counts_at plan store ranks why rank is = subst RanksCount is (eval_ranks plan store ranks)
