use Rattle.std.proofs.Common.{rules}
use Rattle.command_words.proofs.order.demo_of.Goals as goal

pub returns : goal.returns
returns c = λ number. (
  λ said. ((c.count_of.ensures number).0 said, c.is_alone.ensures.0 (search rules)),
  λ both. (c.count_of.ensures number).1 both.0,
)
