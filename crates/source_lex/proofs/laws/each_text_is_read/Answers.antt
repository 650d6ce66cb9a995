use Rattle.std.proofs.Common.{length, arith}
use Rattle.source_lex.proofs.Totality.{read_from}
use Rattle.source_lex.proofs.laws.each_text_is_read.Goals as goal

pub returns : goal.returns
returns c = λ text. read_from (length text) text 0 (omega arith) (omega arith)
