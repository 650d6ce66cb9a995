use Rattle.std.proofs.Common.{arith}
use Rattle.input_text.proofs.Cutting.{some_piece}
use Rattle.input_text.proofs.finding.+has_pieces.Goals as goal

pub returns-then-count-eq0 : goal.returns-then-count-eq0
returns-then-count-eq0 t c = (
  λ is. cc,
  λ same. let some = some_piece 44 c.args.text.now in let none = c.if-count-eq0.true in absurd (omega (arith, some, same, none)),
)
