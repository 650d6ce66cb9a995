-- Faults of names, sorts, jumps, divisors, returns and calls, each by the number of its token.
use Rattle.std.specs.Prelude.{◌≡◌, ℕ, nat_lt, nat_eq, ◌&&◌, ◌||◌, Bool, if◌then◌else◌, List, [], ◌∷◌, Option, None, Some, All, Contains}
use Rattle.typed_expressions.specs.declared.fault.Rule.{Rule}
use Rattle.typed_expressions.specs.declared.fault.Rule.TheVariants.{Unknown, Twice, Mixed, BadRange, Variables, Outside, ZeroDivisor, Placed, Arguments}
use Rattle.typed_expressions.specs.declared.fault.Fault.{Fault}

abbrev pub fault : Rule → ℕ → Fault
fault rule token = record { rule = rule; token = token }

-- What follows has no part in the headline.

-- the rules in their order: of two faults at one token the one of the earlier rule comes first
abbrev pub order_of : Rule → ℕ
order_of Unknown = 0
order_of Twice = 1
order_of Mixed = 2
order_of BadRange = 3
order_of Variables = 4
order_of Outside = 5
order_of ZeroDivisor = 6
order_of Placed = 7
order_of Arguments = 8

-- the one fault comes before the other: it stands at an earlier token, or at the same one and its rule is the earlier one
abbrev pub is_before : Fault → Fault → Bool
is_before f g = nat_lt f.token g.token || (nat_eq f.token g.token && nat_lt (order_of f.rule) (order_of g.rule))

-- the first of two faults, and of one and a list
abbrev pub first_of : Fault → Fault → Fault
first_of f g = if is_before g f then g else f

abbrev pub earliest : Option Fault → List Fault → Option Fault
earliest least [] = least
earliest None (f ∷ more) = earliest (Some f) more
earliest (Some g) (f ∷ more) = earliest (Some (first_of g f)) more

-- no fault of the list comes before this one, which is among them
pub record IsFirstOf (faults : List Fault) (f : Fault) : Type 0 where
  pub among : Contains faults f
  pub least : All (λ g. is_before g f ≡ Bool.false) faults
