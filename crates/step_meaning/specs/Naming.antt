-- Which variables an expression names.
use Rattle.std.specs.Prelude.{◌≢◌, ℕ, ◌<◌, ⊤}
use Rattle.step_meaning.specs.Syntax.{Expression, variable, negative, negation, pair, number, free, range, divided, truth}

-- no variable is named
abbrev pub HasNoName : Expression → Type 0
HasNoName (variable x) = ⊥
HasNoName (negative e) = HasNoName e
HasNoName (negation c) = HasNoName c
HasNoName (pair op l r) = HasNoName l × HasNoName r
HasNoName (number z) = ⊤
HasNoName free = ⊤
HasNoName (range lo hi) = ⊤
HasNoName (divided division e b) = HasNoName e
HasNoName (truth b) = ⊤

-- What follows has no part in the headline.

-- the variable at the place isn't named
abbrev pub IsUnnamed : ℕ → Expression → Type 0
IsUnnamed place (variable x) = place ≢ x
IsUnnamed place (negative e) = IsUnnamed place e
IsUnnamed place (negation c) = IsUnnamed place c
IsUnnamed place (pair op l r) = IsUnnamed place l × IsUnnamed place r
IsUnnamed place (number z) = ⊤
IsUnnamed place free = ⊤
IsUnnamed place (range lo hi) = ⊤
IsUnnamed place (divided division e b) = IsUnnamed place e
IsUnnamed place (truth b) = ⊤

-- each variable that is named has a place below the number
abbrev pub NamesBelow : ℕ → Expression → Type 0
NamesBelow places (variable x) = x < places
NamesBelow places (negative e) = NamesBelow places e
NamesBelow places (negation c) = NamesBelow places c
NamesBelow places (pair op l r) = NamesBelow places l × NamesBelow places r
NamesBelow places (number z) = ⊤
NamesBelow places free = ⊤
NamesBelow places (range lo hi) = ⊤
NamesBelow places (divided division e b) = NamesBelow places e
NamesBelow places (truth b) = ⊤
