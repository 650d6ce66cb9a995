-- What a written line says.
use Rattle.std.specs.Prelude.{◌≡◌, ◌⊎◌, ℕ, ℤ, pos, ◌≤ℤ◌, List, ◌++◌, length, All, Contains, codes, ⊤}
use Rattle.linear_cons.specs.declared.affine.Affine.{Affine}
use Rattle.linear_cons.specs.Functions.{value_at}
use Rattle.line_text.specs.declared.claim.Claim.{Claim}
use Rattle.line_text.specs.declared.claim.Claim.TheVariants.{Exactly, Within, Holds, Ranked, Fits, Unknown}
use Rattle.line_text.specs.Names.{IsOver}
use Rattle.line_text.specs.LineText.{line_text}

-- the claim speaks of no variable past the names, and a rank has five functions
abbrev pub IsClaimOver : List (List ℕ) → Claim → Type 0
IsClaimOver names (Within bound) = IsOver names bound
IsClaimOver names (Ranked functions) = (length functions ≡ 5) × All (IsOver names) functions
IsClaimOver names (Exactly number) = ⊤
IsClaimOver names Holds = ⊤
IsClaimOver names Fits = ⊤
IsClaimOver names Unknown = ⊤

-- the line is the text of the condition and the claim, which are over the names
pub record Spells (names : List (List ℕ)) (line : List ℕ) (condition : List Affine) (claim : Claim) : Type 0 where
  pub condition_over : All (λ row. IsOver names row) condition
  pub claim_over : IsClaimOver names claim
  pub text : line ≡ line_text names condition claim

-- the store meets the condition: the value of each row's function is at least 0
abbrev pub MeetsCondition : List ℤ → List Affine → Type 0
MeetsCondition store condition = All (λ row. pos 0 ≤ℤ value_at row store) condition

-- What follows has no part in the headline.

-- the line begins with `always: `, or the byte `>`, code 62, stands in it: so does each line that says something, by its condition, and no other line
-- of the command
abbrev pub OpensAsLine : List ℕ → Type 0
OpensAsLine line = ((rest : List ℕ) × (line ≡ codes "always: " ++ rest)) ⊎ Contains line 62
