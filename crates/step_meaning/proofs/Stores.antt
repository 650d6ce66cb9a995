-- Steps keep the form of a store: its sixteen places, and the zeros past the variables.
use Rattle.std.proofs.Common.{ℕ, ◌<◌, ℤ, pos, [], ◌∷◌, slice_set, sym, ◌∙◌, subst, arith}
use Rattle.std.proofs.lemmas.List.{get_or-set_other, length-set}
use Rattle.step_meaning.specs.Syntax.{assign, skip, return, break, continue, if_else, while_loop, do_while}
use Rattle.step_meaning.specs.Outcome.{Store}
use Rattle.step_meaning.specs.Step.{Configuration, Step, StepsFrom, Todo, one, turn, front}
use Rattle.step_meaning.specs.Run.{IsInput}
use Rattle.step_meaning.specs.Valid.{AreStatements}
use Rattle.step_meaning.proofs.Progress.{AreStatements-front}

-- an assignment to a variable keeps it
pub assigned : (vars : ℕ) (s : Store) (x : ℕ) (v : ℤ) → x < vars → IsInput vars s → IsInput vars (slice_set s x v)
assigned vars s x v below h = record {
  places = length-set s x v ∙ h.places;
  zeros = λ place past. get_or-set_other s x place v (pos 0) (λ e. omega arith) ∙ h.zeros place past;
}

keeps : (vars : ℕ) (ahead : Todo) (s : Store) (d : Configuration) → AreStatements vars ahead → IsInput vars s → StepsFrom ahead s d
    → IsInput vars d.store
keeps vars [] s d valid h step = absurd step
keeps vars (one (assign x e) ∷ rest) s d valid h step =
    subst (IsInput vars) (sym step.1.2) (assigned vars s x step.1.0 valid.0.0 h)
keeps vars (one skip ∷ rest) s d valid h step = subst (IsInput vars) (sym step.1) h
keeps vars (one return ∷ rest) s d valid h step = subst (IsInput vars) (sym step.1) h
keeps vars (one break ∷ rest) s d valid h step = subst (IsInput vars) (sym step.1) h
keeps vars (one continue ∷ rest) s d valid h step = subst (IsInput vars) (sym step.1) h
keeps vars (turn c body last ∷ rest) s d valid h step = absurd step
keeps vars (one (if_else c first second) ∷ rest) s d valid h step = subst (IsInput vars) (sym step.1) h
keeps vars (one (while_loop c body last) ∷ rest) s d valid h step = subst (IsInput vars) (sym step.1) h
keeps vars (one (do_while body c) ∷ rest) s d valid h step = absurd step

pub step_keeps : (vars : ℕ) (c d : Configuration) → AreStatements vars c.todo → IsInput vars c.store → Step c d → IsInput vars d.store
step_keeps vars c d valid h step = keeps vars (front c.todo) c.store d (AreStatements-front vars c.todo valid) h step
