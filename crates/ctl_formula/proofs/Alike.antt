-- Whether a configuration satisfies a formula rests on the front of what it has to do and on its store alone.
use Rattle.std.specs.Prelude.{◌≡◌, ℕ, ℤ, pos, negsuc, Bool, ⊤}
use Rattle.std.proofs.Common.{refl, sym, ap}
use Rattle.step_meaning.specs.Step.{Configuration, front, programs}
use Rattle.step_meaning.proofs.Front.{same_end, same_steps}
use Rattle.linear_cons.specs.Functions.{value_at}
use Rattle.ctl_formula.specs.Bisimulations.{IsBisimulation}
use Rattle.ctl_formula.specs.Rows.{EachRow}
use Rattle.ctl_formula.specs.Formulas.{Ctl, truth, falsity, exit, not_exit, always, never, least, negation, both, either, next, until, weak}
use Rattle.ctl_formula.specs.Satisfaction.{Sat, UntilIn, WeakIn, WithinBound}
use Rattle.ctl_formula.proofs.Agreeing.{same_sat, same_within, until_same, weak_same}
use Rattle.ctl_formula.proofs.Classical.{Property}

-- the same front and the same store
abbrev pub Alike : Configuration → Configuration → Type 0
Alike c d = (front c.todo ≡ front d.todo) × (c.store ≡ d.store)

-- the property holds of both or of none of two that are alike
abbrev pub Respects : Property → Type 0
Respects P = (c d : Configuration) → Alike c d → P c → P d

-- programs are in step with themselves
pub in_step : IsBisimulation programs programs (λ a. ⊤) Alike
in_step = record {
  values = λ a asked c d alike. ap (value_at a) alike.1;
  ends = λ c d alike. same_end c d alike.0 alike.1;
  ends_back = λ c d alike. same_end d c (sym alike.0) (sym alike.1);
  steps = λ c d alike e step. (e, same_steps c d alike.0 alike.1 e step, (refl, refl));
  steps_back = λ c d alike e step. (e, same_steps d c (sym alike.0) (sym alike.1) e step, (refl, refl));
}

module _ (all : Bool) (keep goal : Property) (kept : Respects keep) (met : Respects goal) where
  pub until_respects : (n : ℕ) → Respects (UntilIn n all keep goal)
  until_respects = until_same programs programs (λ a. ⊤) Alike in_step all keep goal keep goal kept met

  pub weak_respects : (n : ℕ) → Respects (WeakIn n all keep goal)
  weak_respects = weak_same programs programs (λ a. ⊤) Alike in_step all keep goal keep goal kept met

every_row : (f : Ctl) → EachRow (λ a. ⊤) f
every_row truth = tt
every_row falsity = tt
every_row exit = tt
every_row not_exit = tt
every_row always = tt
every_row never = tt
every_row (least a) = tt
every_row (negation f) = every_row f
every_row (both f g) = (every_row f, every_row g)
every_row (either f g) = (every_row f, every_row g)
every_row (next all f) = every_row f
every_row (until all f g) = (every_row f, every_row g)
every_row (weak all f g) = (every_row f, every_row g)

pub sat_respects : (f : Ctl) → Respects (Sat f)
sat_respects f = same_sat f programs programs (λ a. ⊤) Alike in_step (every_row f)

pub within_respects : (bound : ℤ) (f : Ctl) → Respects (WithinBound bound f)
within_respects (pos n) f c d alike h = same_within n f programs programs (λ a. ⊤) Alike in_step (every_row f) c d alike h
within_respects (negsuc n) f c d alike h = absurd h
