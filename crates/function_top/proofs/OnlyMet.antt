-- What is met of a list of which exactly one is met is that one.
use Rattle.std.proofs.Common.{inl, inr, List, [], ◌∷◌, All}
use Rattle.std.proofs.lemmas.List.Elements.{All-cons, All-nil}
use Rattle.report_text.specs.Leaves.{NoneOf, OneOf}

module _ {X : Type 0} (Met Is : X → Type 0) where
  unmet : (xs : List X) → NoneOf Met xs → All (λ x. Met x → Is x) xs
  unmet [] none = All-nil (λ x. Met x → Is x)
  unmet (x ∷ xs) none = All-cons (λ x. Met x → Is x) x xs (λ met. absurd (none.0 met)) (unmet xs none.1)

  pub met_is_one : (xs : List X) → OneOf Met Is xs → All (λ x. Met x → Is x) xs
  met_is_one [] one = absurd one
  met_is_one (x ∷ xs) (inl here) = All-cons (λ x. Met x → Is x) x xs (λ met. here.1) (unmet xs here.2)
  met_is_one (x ∷ xs) (inr later) = All-cons (λ x. Met x → Is x) x xs (λ met. absurd (later.0 met)) (met_is_one xs later.1)
