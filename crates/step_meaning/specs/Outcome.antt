-- What an expression may give in a store: the collecting meaning of nondeterministic expressions. Numbers are unbounded, and each
-- operand is met independently of the others.
use Rattle.std.specs.Prelude.{◌≡◌, ◌≢◌, pos, ◌<◌, unsigned_abs, ℤ, ◌+ℤ◌, ◌-ℤ◌, ◌*ℤ◌, neg_ℤ, ◌≤ℤ◌, ◌<ℤ◌, Bool, not, ◌&&◌, ◌||◌, ◌↔◌, ◌⊎◌, IsTrue, List, ⊤}
use Rattle.linear_cons.specs.Bounds.{IsFrom, IsUpTo}
use Rattle.linear_cons.specs.Numbers.{number_at}
use Rattle.step_meaning.specs.declared.expression.Op2.{Op2}
use Rattle.step_meaning.specs.declared.expression.Op2.TheVariants.{Add, Sub, Mul, Less, LessEqual, Greater, GreaterEqual, Equal, NotEqual, And, Or}
use Rattle.step_meaning.specs.Syntax.{Expression, Division, quotient, remainder, number, variable, free, range, divided, truth, negative, negation, pair}

-- A store gives each place a whole number. In an input, and so along its runs, a store has sixteen places.
abbrev pub Store : Type 0
Store = List ℤ

-- what an arithmetic operator makes of two numbers; no other operator makes a number
abbrev pub Makes : Op2 → ℤ → ℤ → ℤ → Type 0
Makes Add a b v = v ≡ a +ℤ b
Makes Sub a b v = v ≡ a -ℤ b
Makes Mul a b v = v ≡ a *ℤ b
Makes Less a b v = ⊥
Makes LessEqual a b v = ⊥
Makes Greater a b v = ⊥
Makes GreaterEqual a b v = ⊥
Makes Equal a b v = ⊥
Makes NotEqual a b v = ⊥
Makes And a b v = ⊥
Makes Or a b v = ⊥

-- what a comparison says of two numbers; no other operator compares
abbrev pub Compares : Op2 → ℤ → ℤ → Bool → Type 0
Compares Less a b t = IsTrue t ↔ (a <ℤ b)
Compares LessEqual a b t = IsTrue t ↔ (a ≤ℤ b)
Compares Greater a b t = IsTrue t ↔ (b <ℤ a)
Compares GreaterEqual a b t = IsTrue t ↔ (b ≤ℤ a)
Compares Equal a b t = IsTrue t ↔ (a ≡ b)
Compares NotEqual a b t = IsTrue t ↔ (a ≢ b)
Compares Add a b t = ⊥
Compares Sub a b t = ⊥
Compares Mul a b t = ⊥
Compares And a b t = ⊥
Compares Or a b t = ⊥

-- what `&&` and `||` make of two truth values; no other operator does
abbrev pub Connects : Op2 → Bool → Bool → Bool → Type 0
Connects And a b t = t ≡ (a && b)
Connects Or a b t = t ≡ (a || b)
Connects Add a b t = ⊥
Connects Sub a b t = ⊥
Connects Mul a b t = ⊥
Connects Less a b t = ⊥
Connects LessEqual a b t = ⊥
Connects Greater a b t = ⊥
Connects GreaterEqual a b t = ⊥
Connects Equal a b t = ⊥
Connects NotEqual a b t = ⊥

-- the quotient of a by b, rounded towards 0: what it leaves is smaller in size than b and is 0 or has the sign of a
pub record Truncates (a b q : ℤ) : Type 0 where
  pub small : unsigned_abs (a -ℤ q *ℤ b) < unsigned_abs b
  pub sign : (pos 0 ≤ℤ a → pos 0 ≤ℤ (a -ℤ q *ℤ b)) × (a ≤ℤ pos 0 → (a -ℤ q *ℤ b) ≤ℤ pos 0)

-- what a division of a by b makes, where q is their quotient
abbrev pub made_by : Division → ℤ → ℤ → ℤ → ℤ
made_by quotient a b q = q
made_by remainder a b q = a -ℤ q *ℤ b

-- the number expression `e` may have the number `v` in the store `s`
abbrev pub May : Expression → Store → ℤ → Type 0
May (number z) s v = v ≡ z
May (variable x) s v = v ≡ number_at s x
May free s v = ⊤
May (range lo hi) s v = IsFrom lo v × IsUpTo hi v
May (divided division e b) s v = (a : ℤ) × (q : ℤ) × May e s a × Truncates a b q × (v ≡ made_by division a b q)
May (truth b) s v = ⊥
May (negative e) s v = (a : ℤ) × May e s a × (v ≡ neg_ℤ a)
May (negation c) s v = ⊥
May (pair op l r) s v = (a : ℤ) × (b : ℤ) × May l s a × May r s b × Makes op a b v

-- the test `c` may have the truth value `t` in the store `s`
abbrev pub MayTest : Expression → Store → Bool → Type 0
MayTest (number z) s t = ⊥
MayTest (variable x) s t = ⊥
MayTest free s t = ⊤
MayTest (range lo hi) s t = ⊥
MayTest (divided division e b) s t = ⊥
MayTest (truth b) s t = t ≡ b
MayTest (negative e) s t = ⊥
MayTest (negation c) s t = (b : Bool) × MayTest c s b × (t ≡ not b)
MayTest (pair op l r) s t =
    ((a : ℤ) × (b : ℤ) × May l s a × May r s b × Compares op a b t)
    ⊎ ((a : Bool) × (b : Bool) × MayTest l s a × MayTest r s b × Connects op a b t)
