use Rattle.std.proofs.Common.{◌≡◌, take, min}
use Rattle.source_lex.specs.Words.{decimal_value}
use Rattle.source_lex.proofs.scan.decimal_value.Given as goal

-- the value of the digits so far
abbrev pub invariant-loop-digit : goal.invariant-loop-digit
invariant-loop-digit l = l.value ≡ min (decimal_value (take l.digit-index l.digits)) 18446744073709551615
