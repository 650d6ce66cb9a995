-- Where ends are bounded one after the other no run goes on for ever.
use Rattle.std.proofs.Common.{ℕ, zero, suc, inl, inr, subst}
use Rattle.step_meaning.specs.Step.{Configuration, IsFinal, Step, StepsFrom}
use Rattle.step_meaning.specs.Run.{EndsWithin}
use Rattle.ordinal_rank.specs.Ends.{ComesBy, ComesTo, EndsAfter}
use Rattle.ordinal_rank.proofs.Comings.{by_now}

no_step : (c d : Configuration) → IsFinal c → Step c d → ⊥
no_step c d final step = subst (λ todo. StepsFrom todo c.store d) final step

module _ (run : ℕ → Configuration) (goes : (n : ℕ) → Step (run n) (run (suc n))) where
  never_within : (n i : ℕ) → EndsWithin n (run i) → ⊥
  never_within zero i final = no_step (run i) (run (suc i)) final (goes i)
  never_within (suc n) i (inl final) = no_step (run i) (run (suc i)) final (goes i)
  never_within (suc n) i (inr ahead) = never_within n (suc i) (ahead (run (suc i)) (goes i))

  never_comes : (X : Configuration → Type 0) → ((i : ℕ) → X (run i) → ⊥) → (n i : ℕ) → ComesTo n X (run i) → ⊥
  never_comes X none zero i (inl final) = no_step (run i) (run (suc i)) final (goes i)
  never_comes X none zero i (inr there) = none i there
  never_comes X none (suc n) i (inl final) = no_step (run i) (run (suc i)) final (goes i)
  never_comes X none (suc n) i (inr (inl there)) = none i there
  never_comes X none (suc n) i (inr (inr ahead)) = never_comes X none n (suc i) (ahead (run (suc i)) (goes i))

  never_by : (order n : ℕ) (X : Configuration → Type 0) → ((i : ℕ) → X (run i) → ⊥) → (i : ℕ) → ComesBy order n X (run i) → ⊥
  never_by zero n X none i h = never_comes X none n i h
  never_by (suc order) zero X none i h = none i h
  never_by (suc order) (suc n) X none i h =
      never_by order h.0 (ComesBy (suc order) n X) (λ j there. never_by (suc order) n X none j there) i h.1

  pub never_after : (order k i : ℕ) → EndsAfter order k (run i) → ⊥
  never_after zero k i ends = never_within k i ends
  never_after (suc order) zero i ends = never_after order ends.0 i ends.1
  never_after (suc order) (suc k) i ends =
      never_by order ends.0 (EndsAfter (suc order) k) (λ j there. never_after (suc order) k j there) i ends.1

-- one bound more may be known
within_more : (n : ℕ) (c : Configuration) → EndsWithin n c → EndsWithin (suc n) c
within_more zero c final = inl final
within_more (suc n) c (inl final) = inl final
within_more (suc n) c (inr ahead) = inr (λ d step. within_more n d (ahead d step))

pub one_more : (order k : ℕ) (c : Configuration) → EndsAfter order k c → EndsAfter order (suc k) c
one_more zero k c ends = within_more k c ends
one_more (suc order) k c ends = (0, by_now order 0 (EndsAfter (suc order) k) c ends)
