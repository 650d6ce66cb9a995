-- What follows from the front of a list alone, so that no proof elsewhere has to unfold it.
use Rattle.std.proofs.Common.{◌≡◌, ℕ, zero, suc, inl, inr, ◌∷◌, ◌++◌, refl, sym, ◌∙◌, subst}
use Rattle.step_meaning.specs.Syntax.{Expression, Statements, do_while, empty, sequence}
use Rattle.step_meaning.specs.Step.{Configuration, Step, StepsFrom, IsFinal, Todo, one, items_of, behind_body, front}
use Rattle.step_meaning.specs.Run.{EndsWithin}

-- a first `do` in a list stands for its body followed by a `while`
pub do_is_body_and_while : (body : Statements) (c : Expression) (rest : Todo)
    → front (one (do_while body c) ∷ rest) ≡ front (items_of body ++ behind_body c body empty rest)
do_is_body_and_while empty c rest = refl
do_is_body_and_while (sequence first more) c rest = refl

-- two configurations with the same front and the same store
module _ (c d : Configuration) (ahead : front c.todo ≡ front d.todo) (store : c.store ≡ d.store) where
  pub same_end : IsFinal c → IsFinal d
  same_end final = sym ahead ∙ final

  pub same_steps : (e : Configuration) → Step c e → Step d e
  same_steps e step = subst (λ todo. StepsFrom todo d.store e) ahead (subst (λ s. StepsFrom (front c.todo) s e) store step)

  pub back : (e : Configuration) → Step d e → Step c e
  back e step =
      subst (λ s. StepsFrom (front c.todo) s e) (sym store) (subst (λ todo. StepsFrom todo d.store e) (sym ahead) step)

  pub same_bound : (n : ℕ) → EndsWithin n c → EndsWithin n d
  same_bound zero final = same_end final
  same_bound (suc n) (inl final) = inl (same_end final)
  same_bound (suc n) (inr successors) = inr (λ e step. successors e (back e step))
