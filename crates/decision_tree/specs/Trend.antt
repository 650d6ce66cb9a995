-- How a rank moves with the number at a place, and what it becomes at most over a range.
use Rattle.std.specs.Prelude.{ℤ, ◌≤ℤ◌, Option, None, Some, ⊤}
use Rattle.linear_cons.specs.declared.affine.Affine.{Affine}
use Rattle.linear_cons.specs.declared.bounds.Linear.{Linear}
use Rattle.linear_cons.specs.Bounds.{end_of}
use Rattle.linear_cons.specs.Functions.{NumbersFit}

-- the rank doesn't mention the place, or it is greatest at the upper end, or at the lower end of the numbers there
pub data Trend : Type 0 where
  unmentioned : Trend
  rising : Trend
  falling : Trend

-- a rank that moves so doesn't fall as the number goes from z to w
abbrev pub RunsWith : Trend → ℤ → ℤ → Type 0
RunsWith unmentioned z w = ⊤
RunsWith rising z w = z ≤ℤ w
RunsWith falling z w = w ≤ℤ z

-- what putting the end in gives; without an end nothing
abbrev pub put_end : {R : Type 0} → Linear → (Affine → R) → Option ℤ → Option R
put_end range put None = None
put_end range put (Some n) = Some (put (end_of range n))

-- the end is a function with numbers of 128 bits that can be put in; without an end nothing is asked
abbrev pub EndFits : Linear → (Affine → Type 0) → Option ℤ → Type 0
EndFits range fits None = ⊤
EndFits range fits (Some n) = NumbersFit (end_of range n) × fits (end_of range n)

-- the rank itself where the place isn't mentioned, else the rank with the best end put in
abbrev pub greatest_of : {R : Type 0} → R → Trend → Linear → (Affine → R) → Option R
greatest_of rank unmentioned range put = Some rank
greatest_of rank rising range put = put_end range put range.hi
greatest_of rank falling range put = put_end range put range.lo

-- every number fits that is formed for it
abbrev pub GreatestFits : Trend → Linear → (Affine → Type 0) → Type 0
GreatestFits unmentioned range fits = ⊤
GreatestFits rising range fits = EndFits range fits range.hi
GreatestFits falling range fits = EndFits range fits range.lo
