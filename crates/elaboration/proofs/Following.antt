-- What follows a statement stands behind it, or in the place of its `else`.
use Rattle.std.proofs.Common.{◌≡◌, Bool, true, false, List, [], ◌∷◌, ◌++◌, refl}
use Rattle.step_meaning.specs.Syntax as syntax
use Rattle.call_meaning.specs.Units.{Command, Commands, of_list}
use Rattle.call_meaning.specs.Units as unit
use Rattle.elaboration.specs.Statements.{followed}

module _ (P : List Command → Type 0) where
  pub follow : (guarded : Bool) (xs ys : List Command) → P (xs ++ ys)
      → ((test : syntax.Expression) (first second : Commands) → xs ≡ unit.if_else test first second ∷ [] → P (unit.if_else test first (of_list ys) ∷ []))
      → P (followed guarded xs ys)
  follow false xs ys behind inside = behind
  follow true [] ys behind inside = behind
  follow true (unit.if_else test first second ∷ []) ys behind inside = inside test first second refl
  follow true (unit.if_else test first second ∷ x ∷ more) ys behind inside = behind
  follow true (unit.assign x e ∷ more) ys behind inside = behind
  follow true (unit.call target f arguments ∷ more) ys behind inside = behind
  follow true (unit.skip ∷ more) ys behind inside = behind
  follow true (unit.return value ∷ more) ys behind inside = behind
  follow true (unit.break ∷ more) ys behind inside = behind
  follow true (unit.continue ∷ more) ys behind inside = behind
  follow true (unit.while_loop test body step ∷ more) ys behind inside = behind
  follow true (unit.do_while body test ∷ more) ys behind inside = behind
