-- That stores lie between ends has one proof at most.
use Rattle.std.specs.Prelude.{ℕ, ◌<◌, ℤ, List, Option, None, Some}
use Rattle.std.specs.Coded.{×_prop, Π_prop, Unit-prop}
use Rattle.std.proofs.Common.{ap}
use Rattle.std.proofs.Props.{props}
use Rattle.linear_cons.specs.declared.bounds.Bounds.{Bounds}
use Rattle.linear_cons.specs.declared.row.Row.{Row}
use Rattle.linear_cons.specs.Bounds.{IsFrom, IsUpTo, LiesIn, lower_end, upper_end}
use Rattle.linear_cons.specs.Numbers.{number_at}
use Rattle.poly_dom.specs.Lists.{AreBounds}

-- a number keeps to an end in one way
from-prop : (end : Option ℤ) (z : ℤ) → IsProp (IsFrom end z)
from-prop None z = Unit-prop
from-prop (Some least) z = Prim.hlevel props

up_to-prop : (end : Option ℤ) (z : ℤ) → IsProp (IsUpTo end z)
up_to-prop None z = Unit-prop
up_to-prop (Some greatest) z = Prim.hlevel props

-- the two parts of lying between ends
abbrev FromLower : Bounds → List ℤ → Type 0
FromLower bounds store = (i : ℕ) → i < 16 → IsFrom (lower_end bounds i) (number_at store i)

abbrev UpToUpper : Bounds → List ℤ → Type 0
UpToUpper bounds store = (i : ℕ) → i < 16 → IsUpTo (upper_end bounds i) (number_at store i)

lies : (bounds : Bounds) (store : List ℤ) → FromLower bounds store × UpToUpper bounds store → LiesIn bounds store
lies bounds store both = record { lower = both.0; upper = both.1 }

lies-prop : (bounds : Bounds) (store : List ℤ) → IsProp (LiesIn bounds store)
unfolding lies
lies-prop bounds store a b =
    ap (lies bounds store) (×_prop (Π_prop (λ i. Π_prop (λ h. from-prop (lower_end bounds i) (number_at store i))))
    (Π_prop (λ i. Π_prop (λ h. up_to-prop (upper_end bounds i) (number_at store i)))) (a.lower, a.upper) (b.lower, b.upper))

-- that the ends are those of the rows
pub AreBounds-prop : (rows : List Row) (bounds : Bounds) → IsProp (AreBounds rows bounds)
AreBounds-prop rows bounds = Π_prop (λ store. Π_prop (λ is. Π_prop (λ met. lies-prop bounds store)))
