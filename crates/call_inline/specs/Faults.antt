-- Why a unit has no program without calls that is small enough.
use Rattle.std.specs.Prelude.{◌≡◌, ◌<◌, None, Some, List, [], ⊤, slice_get}
use Rattle.call_meaning.specs.declared.statement.UnitBlock.{UnitBlock}
use Rattle.call_meaning.specs.declared.statement.Func.{Func}
use Rattle.call_inline.specs.declared.fault.InlineFault.{InlineFault}
use Rattle.call_inline.specs.declared.fault.InlineFault.TheVariants.{Nesting, Labels, Memory}
use Rattle.call_inline.specs.Levels.{deep_call}
use Rattle.call_inline.specs.Placed.{placed_unit}

-- the first call in the text whose body opens level 65 in its place
abbrev pub IsTooDeep : InlineFault → List Func → UnitBlock → Type 0
IsTooDeep (Nesting at count) funcs body = (deep_call [] funcs body ≡ Some at) × (64 < count)
IsTooDeep (Labels at count) funcs body = ⊥
IsTooDeep (Memory error) funcs body = ⊤

-- more than 1,024 labels with label 0, at the statement that has the 1,024th besides it
abbrev pub IsPastLabels : InlineFault → List Func → UnitBlock → Type 0
IsPastLabels (Nesting at count) funcs body = ⊥
IsPastLabels (Labels at count) funcs body = (slice_get (placed_unit funcs body) 1023 ≡ Some at) × (1024 < count)
IsPastLabels (Memory error) funcs body = ⊤

-- The fault is one of the unit: a call that is too deep, or else too many labels. The count is above the limit.
abbrev pub IsInlineFault : InlineFault → List Func → UnitBlock → Type 0
IsInlineFault (Nesting at count) funcs body = IsTooDeep (Nesting at count) funcs body
IsInlineFault (Labels at count) funcs body = (deep_call [] funcs body ≡ None) × IsPastLabels (Labels at count) funcs body
IsInlineFault (Memory error) funcs body = ⊤
