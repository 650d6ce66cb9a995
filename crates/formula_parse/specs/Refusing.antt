-- What is answered in place of a formula.
use Rattle.std.specs.Prelude.{ℕ, ⊤}
use Rattle.formula_parse.specs.declared.refusal.Refusal.{Refusal}
use Rattle.formula_parse.specs.declared.refusal.Refusal.TheVariants.{NotAffine, Memory}

-- this holds of the token at which an atom that doesn't fit begins, unless memory ran out
abbrev pub OnAtom : Refusal → (ℕ → Type 0) → Type 0
OnAtom (NotAffine token) P = P token
OnAtom (Memory error) P = ⊤
