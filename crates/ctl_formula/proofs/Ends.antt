-- `AF exit` within so many steps is that every run ends within so many.
use Rattle.std.specs.Prelude.{◌↔◌, ℕ, zero, suc, ℤ, pos, negsuc, true}
use Rattle.std.proofs.Common.{inl, inr, sym, subst}
use Rattle.step_meaning.specs.Step.{Configuration}
use Rattle.step_meaning.specs.Run.{EndsWithin, EndsWithinBound}
use Rattle.ctl_formula.specs.Formulas.{truth, exit, af_exit}
use Rattle.ctl_formula.specs.Satisfaction.{UntilIn, Sat, SatWithin}
use Rattle.ctl_formula.proofs.Classical.{classically, until_met}
use Rattle.ctl_formula.proofs.Duality.{final_or_not, stable}

ends_stable : (n : ℕ) (c : Configuration) → ¬ ¬ EndsWithin n c → EndsWithin n c
ends_stable zero c h = stable exit c h
ends_stable (suc n) c h = elim (final_or_not c) [
  | inl final ↦ inl final
  | inr more ↦ inr (λ d step. ends_stable n d (λ none. h (λ cases. elim cases [
    | inl final ↦ more final
    | inr successors ↦ none (successors d step)
  ])))
]

abbrev Reaches : ℕ → Configuration → Type 0
Reaches n c = UntilIn n true (Sat truth) (Sat exit) c

pub ends_of_reaches : (n : ℕ) (c : Configuration) → Reaches n c → EndsWithin n c
ends_of_reaches zero c h = h
ends_of_reaches (suc n) c h = elim (final_or_not c) [
  | inl final ↦ inl final
  | inr more ↦ inr (λ d step. ends_stable n d (λ none. h (λ cases. elim cases [
    | inl final ↦ more final
    | inr on ↦ none (ends_of_reaches n d (on.1 d (inl step)))
  ])))
]

pub reaches_of_ends : (n : ℕ) (c : Configuration) → EndsWithin n c → Reaches n c
reaches_of_ends zero c h = h
reaches_of_ends (suc n) c (inl final) = classically (inl final)
reaches_of_ends (suc n) c (inr successors) = classically (inr (
  tt,
  λ d taken. elim taken [
    | inl step ↦ reaches_of_ends n d (successors d step)
    | inr stay ↦ subst (Reaches n) (sym stay.1) (until_met true (Sat truth) (Sat exit) n c stay.0)
  ],
))

pub af_exit_ends : (n : ℤ) (c : Configuration) → SatWithin n af_exit c ↔ EndsWithinBound n c
af_exit_ends (pos n) c = (ends_of_reaches n c, reaches_of_ends n c)
af_exit_ends (negsuc n) c = ((λ h. h), (λ h. h))
