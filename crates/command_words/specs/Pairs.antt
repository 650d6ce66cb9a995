-- Options and their values, as words of their own.
use Rattle.std.specs.Prelude.{◌≢◌, List, [], ◌∷◌, ◌++◌, Option, None, Some, codes, if◌then◌else◌, ⊤}
use Rattle.std.specs.Str.{bytes_eq}
use Rattle.clap.specs.Words.{Text}

-- an option of the command that has a value
pub data IsOption : Text → Type 0 where
  ctl : IsOption (codes "ctl")
  domain : IsOption (codes "domain")
  delay : IsOption (codes "delay")
  at : IsOption (codes "at")
  demo : IsOption (codes "demo")

-- the text begins with no hyphen
abbrev pub IsPlain : Text → Type 0
IsPlain [] = ⊤
IsPlain (byte ∷ more) = byte ≢ 45

-- an option with a value
pub record Pair : Type 0 where
  pub option : Text
  pub value : Text

-- the option isn't among those of the pairs
abbrev pub IsNotAmong : List Pair → Text → Type 0
IsNotAmong [] name = ⊤
IsNotAmong (pair ∷ more) name = (pair.option ≢ name) × IsNotAmong more name

-- each is an option of the command with a value that begins with no hyphen, and no option stands twice
abbrev pub ArePairs : List Pair → Type 0
ArePairs [] = ⊤
ArePairs (pair ∷ more) = IsOption pair.option × IsPlain pair.value × IsNotAmong more pair.option × ArePairs more

-- the words that spell the pairs, two for each
abbrev pub spelled : List Pair → List Text
spelled [] = []
spelled (pair ∷ more) = (codes "--" ++ pair.option) ∷ (pair.value ∷ spelled more)

-- the value of an option among the pairs
abbrev pub value_among : List Pair → Text → Option Text
value_among [] name = None
value_among (pair ∷ more) name = if bytes_eq pair.option name then Some pair.value else value_among more name
