-- What a walk over an expression does: it knows the names so far, and reports faults behind the first so far.
use Rattle.std.specs.Prelude.{◌≡◌, List}
use Rattle.typed_expressions.specs.declared.fault.Fault.{Fault}
use Rattle.typed_expressions.specs.declared.walk.Walk.{Walk}
use Rattle.typed_expressions.specs.Faults.{earliest}

-- the names stay, and behind the faults so far come these
abbrev pub HasFound : Walk → Walk → List Fault → Type 0
HasFound old new faults = (new.tokens.now ≡ old.tokens.now) × (new.scope ≡ old.scope) × (new.least ≡ earliest old.least faults)
