-- Why a tree isn't made.
use Rattle.std.specs.Prelude.{ℕ, ◌^◌, ◌<◌, ◌⊎◌, ⊤}
use Rattle.linear_cons.specs.Exact.{IsOutside}
use Rattle.step_meaning.specs.Syntax.{Statements}
use Rattle.control_flow.specs.Fitting.{IsFitting}
use Rattle.control_flow.specs.Growth.{growth_of}
use Rattle.control_flow.specs.Measures.{IsHeavy, IsLight}
use Rattle.tree_unify.specs.declared.fault.TreeFault.{TreeFault}
use Rattle.tree_unify.specs.declared.fault.TreeFault.TheVariants.{Full, Memory, Wide}

-- it would have more than 65,536 nodes, or an exact number lies outside 128 bits
abbrev pub IsRefusal : TreeFault → Type 0
IsRefusal (Full count) = 65536 < count
IsRefusal (Wide operands) = IsOutside operands
IsRefusal (Memory error) = ⊤

-- it would have more than 65,536 nodes
abbrev pub IsNodes : TreeFault → Type 0
IsNodes (Full count) = 65536 < count
IsNodes (Wide operands) = ⊥
IsNodes (Memory error) = ⊥

-- numbers may be wide at the level: one of what the program assigns or compares doesn't fit 128 bits, or the growth is above 2^100
abbrev pub IsWide : Statements → ℕ → Type 0
IsWide body level = (IsFitting body → ⊥) ⊎ (2 ^ 100 < growth_of body level)

-- why a level isn't made: its weight is above 65,536; or it isn't, its numbers may be wide, and an exact one lies outside 128 bits
abbrev pub IsRefusalAt : Statements → ℕ → TreeFault → Type 0
IsRefusalAt body level (Full count) = (65536 < count) × IsHeavy body level
IsRefusalAt body level (Wide operands) = IsOutside operands × IsLight body level × IsWide body level
IsRefusalAt body level (Memory error) = ⊤
