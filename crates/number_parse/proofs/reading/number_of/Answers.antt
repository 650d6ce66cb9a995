use Rattle.std.proofs.Common.{◌≡◌, ap, length, arith}
use Rattle.line_text.specs.Numeral.{numeral}
use Rattle.number_parse.proofs.Digits.{few_digits}
use Rattle.number_parse.proofs.reading.number_of.Goals as goal

pub returns-then-bytes-gt19 : goal.returns-then-bytes-gt19
returns-then-bytes-gt19 c n = (
  λ is. cc,
  λ both.
      let few = few_digits n both.1 in
      let same : length c.args.bytes.now ≡ length (numeral n) = ap length both.0 in
      let many = c.if-bytes-gt19.true in absurd (omega arith),
)
