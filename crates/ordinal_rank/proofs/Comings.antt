-- What is true of ends that are bounded one after the other.
use Rattle.std.specs.Prelude.{ℕ, zero, suc, ℤ, List, ⊤}
use Rattle.step_meaning.specs.Step.{Configuration, programs}
use Rattle.std.proofs.Common.{inl, inr}
use Rattle.step_meaning.specs.Run.{EndsWithin}
use Rattle.ctl_formula.proofs.Alike.{Alike, Respects, in_step}
use Rattle.ctl_formula.proofs.Classical.{Implies, Property}
use Rattle.ordinal_rank.specs.Ends.{ComesBy, ComesTo, EndsAfter, EndsUnder}
use Rattle.ordinal_rank.proofs.Agreeing.{by_same, comes_same, under_same}

-- where the property holds already
pub comes_now : (n : ℕ) (X : Property) → Implies X (ComesTo n X)
comes_now zero X c h = inr h
comes_now (suc n) X c h = inr (inl h)

pub comes_map : (n : ℕ) (X Y : Property) → Implies X Y → Implies (ComesTo n X) (ComesTo n Y)
comes_map zero X Y more c (inl final) = inl final
comes_map zero X Y more c (inr there) = inr (more c there)
comes_map (suc n) X Y more c (inl final) = inl final
comes_map (suc n) X Y more c (inr (inl there)) = inr (inl (more c there))
comes_map (suc n) X Y more c (inr (inr ahead)) = inr (inr (λ d step. comes_map n X Y more d (ahead d step)))

pub comes_respects : (n : ℕ) (X : Property) → Respects X → Respects (ComesTo n X)
comes_respects n X respects = comes_same programs programs (λ a. ⊤) Alike in_step n X X respects

-- what comes to nothing but the end ends
pub ends_of_none : (n : ℕ) → Implies (ComesTo n (λ c. ⊥)) (EndsWithin n)
ends_of_none zero c (inl final) = final
ends_of_none zero c (inr none) = absurd none
ends_of_none (suc n) c (inl final) = inl final
ends_of_none (suc n) c (inr (inl none)) = absurd none
ends_of_none (suc n) c (inr (inr ahead)) = inr (λ d step. ends_of_none n d (ahead d step))

-- nothing
abbrev pub None : Property
None = λ c. ⊥

pub by_now : (order n : ℕ) (X : Property) → Implies X (ComesBy order n X)
by_now zero n X c h = comes_now n X c h
by_now (suc order) zero X c h = h
by_now (suc order) (suc n) X c h = (0, by_now order 0 (ComesBy (suc order) n X) c (by_now (suc order) n X c h))

by_map : (order n : ℕ) (X Y : Property) → Implies X Y → Implies (ComesBy order n X) (ComesBy order n Y)
by_map zero n X Y more c h = comes_map n X Y more c h
by_map (suc order) zero X Y more c h = more c h
by_map (suc order) (suc n) X Y more c h =
    (h.0, by_map order h.0 (ComesBy (suc order) n X) (ComesBy (suc order) n Y) (by_map (suc order) n X Y more) c h.1)

pub by_respects : (order n : ℕ) (X : Property) → Respects X → Respects (ComesBy order n X)
by_respects order n X respects = by_same programs programs (λ a. ⊤) Alike in_step order n X X respects

-- what comes to nothing but the end ends, with one fewer left
some_end : (order n : ℕ) (c : Configuration) → ((k : ℕ) (c : Configuration) → ComesBy (suc order) (suc k) None c → EndsAfter (suc order) k c)
    → ComesBy (suc order) n None c → (k : ℕ) × EndsAfter (suc order) k c
some_end order zero c ends h = absurd h
some_end order (suc k) c ends h = (k, ends k c h)

pub ends_of_by : (order k : ℕ) (c : Configuration) → ComesBy (suc order) (suc k) None c → EndsAfter (suc order) k c
ends_of_by zero zero c h = (h.0, ends_of_none h.0 c h.1)
ends_of_by (suc order) zero c h = some_end order h.0 c (ends_of_by order) h.1
ends_of_by order (suc k) c h =
    (h.0, by_map order h.0 (ComesBy (suc order) (suc k) None) (EndsAfter (suc order) k) (ends_of_by order k) c h.1)

pub under_respects : (numbers : List ℤ) → Respects (EndsUnder numbers)
under_respects numbers = under_same programs programs (λ a. ⊤) Alike in_step numbers
