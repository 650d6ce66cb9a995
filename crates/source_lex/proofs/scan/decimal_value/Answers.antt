use Rattle.std.proofs.Common.{◌≡◌, ℕ, ◌+◌, ◌-◌, ◌*◌, ◌<◌, List, length, take, get_or, refl, arith}
use Rattle.std.proofs.lemmas.List.Sums.{fold_more}
use Rattle.source_lex.specs.Words.{decimal_value}
use Rattle.source_lex.proofs.ByteLemmas.{at_least_48}
use Rattle.source_lex.proofs.scan.decimal_value.Goals as goal

-- one more digit
decimal_value-take : (digits : List ℕ) (i : ℕ) → i < length digits → decimal_value (take (i + 1) digits) ≡ 10 * decimal_value (take i digits) + (get_or digits i 0 - 48)
unfolding decimal_value
decimal_value-take digits i inside = fold_more (λ value digit. 10 * value + (digit - 48)) 0 digits i 0 inside

pub loop-digit-init : goal.loop-digit-init
unfolding decimal_value
loop-digit-init c = refl

pub overflow_sub-digit : goal.overflow_sub-digit
overflow_sub-digit c = at_least_48 _ (c.requires _ 0 (omega arith))

pub loop-digit-preserved : goal.loop-digit-preserved
loop-digit-preserved c =
    omega (arith, decimal_value-take c.args.digits.now c.loop-digit.digit-index (omega arith))
