-- What a line says that is a claim alone, without a condition.
use Rattle.std.specs.Prelude.{◌≡◌, ℕ, List}
use Rattle.line_text.specs.declared.claim.Claim.{Claim}
use Rattle.line_text.specs.LineText.{claim_text}
use Rattle.line_text.specs.Spells.{IsClaimOver}

-- the line is the text of the claim, which is over the names
pub record Tells (names : List (List ℕ)) (line : List ℕ) (claim : Claim) : Type 0 where
  pub claim_over : IsClaimOver names claim
  pub text : line ≡ claim_text names claim
