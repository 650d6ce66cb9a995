-- A call that is too deep is a fault of the unit.
use Rattle.std.specs.Prelude.{List}
use Rattle.call_meaning.specs.declared.statement.UnitBlock.{UnitBlock}
use Rattle.call_meaning.specs.declared.statement.Func.{Func}
use Rattle.call_inline.specs.declared.fault.InlineFault.{InlineFault}
use Rattle.call_inline.specs.declared.fault.InlineFault.TheVariants.{Nesting, Labels, Memory}
use Rattle.call_inline.specs.Faults.{IsTooDeep, IsInlineFault}

pub too_deep : (fault : InlineFault) (funcs : List Func) (body : UnitBlock) → IsTooDeep fault funcs body → IsInlineFault fault funcs body
too_deep (Nesting at count) funcs body h = h
too_deep (Labels at count) funcs body h = absurd h
too_deep (Memory error) funcs body h = tt
