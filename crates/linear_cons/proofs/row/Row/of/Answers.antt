use Rattle.std.proofs.Common.{◌≡◌, pos, ◌≤ℤ◌, ◌<ℤ◌, arith, rules}
use Rattle.std.proofs.lemmas.Int.{ints}
use Rattle.linear_cons.specs.Functions.{IsConstant, value_at}
use Rattle.linear_cons.specs.Numbers.{Fits128}
use Rattle.linear_cons.specs.declared.row.RowKind.TheVariants.{Always, Never}
use Rattle.linear_cons.proofs.RowKinds.{row_kind_unique}
use Rattle.linear_cons.proofs.RowLaws.{constant_value, divisor_zero, quotient_same_stores}
use Rattle.linear_cons.proofs.row.Row.of.Goals as goal
use Rattle.linear_cons.proofs.row.Row.of.Goals.{Then-a-lt0, Else-a-lt0}

pub returns-then-divisor-ne0-clause-same_stores : goal.returns-then-divisor-ne0-clause-same_stores
returns-then-divisor-ne0-clause-same_stores c store =
    quotient_same_stores c.args.a c.quotient-affine.result c.quotient-affine.ensures.quotient store

below : (c : Then-a-lt0) → c.args.a.constant <ℤ pos 0
below c =
    let number : Fits128 c.args.a.constant = search rules in
    omega (arith, ints)

above : (c : Else-a-lt0) → pos 0 ≤ℤ c.args.a.constant
above c =
    let number : Fits128 c.args.a.constant = search rules in
    omega (arith, ints)

pub returns-then-a-lt0-clause-normal : goal.returns-then-a-lt0-clause-normal
returns-then-a-lt0-clause-normal c =
    (divisor_zero c.args.a _ c.if-divisor-ne0.false c.divisor_of-divisor.ensures, below c)

pub returns-then-a-lt0-clause-same_stores : goal.returns-then-a-lt0-clause-same_stores
returns-then-a-lt0-clause-same_stores c store =
    let none : IsConstant c.args.a = divisor_zero c.args.a _ c.if-divisor-ne0.false c.divisor_of-divisor.ensures in
    let is : value_at c.args.a store ≡ c.args.a.constant = constant_value c.args.a store none in
    let low = below c in
    (λ never. absurd never, λ met. omega (arith, ints))

pub returns-else-a-lt0-clause-normal : goal.returns-else-a-lt0-clause-normal
returns-else-a-lt0-clause-normal c =
    (divisor_zero c.args.a _ c.if-divisor-ne0.false c.divisor_of-divisor.ensures, above c)

pub returns-else-a-lt0-clause-same_stores : goal.returns-else-a-lt0-clause-same_stores
returns-else-a-lt0-clause-same_stores c store =
    let none : IsConstant c.args.a = divisor_zero c.args.a _ c.if-divisor-ne0.false c.divisor_of-divisor.ensures in
    let is : value_at c.args.a store ≡ c.args.a.constant = constant_value c.args.a store none in
    (λ always. rw is (above c), λ met. tt)

pub returns-then-divisor-ne0-clause-kind : goal.returns-then-divisor-ne0-clause-kind
returns-then-divisor-ne0-clause-kind c = row_kind_unique c.args.a _ c.quotient-affine.ensures.quotient

pub returns-then-a-lt0-clause-kind : goal.returns-then-a-lt0-clause-kind
returns-then-a-lt0-clause-kind c =
    row_kind_unique c.args.a Never (divisor_zero c.args.a _ c.if-divisor-ne0.false c.divisor_of-divisor.ensures, below c)

pub returns-else-a-lt0-clause-kind : goal.returns-else-a-lt0-clause-kind
returns-else-a-lt0-clause-kind c =
    row_kind_unique c.args.a Always (divisor_zero c.args.a _ c.if-divisor-ne0.false c.divisor_of-divisor.ensures, above c)
