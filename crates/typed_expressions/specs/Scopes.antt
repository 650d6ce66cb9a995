-- Names: which are variables, and where they may be used.
use Rattle.std.specs.Prelude.{ℕ, ◌+◌, nat_lt, Bool, true, false, ◌||◌, ◌&&◌, if◌then◌else◌, List, [], ◌∷◌, ◌++◌, length, replicate, slice_set}
use Rattle.std.specs.Str.{bytes_eq}

-- a name by its bytes
abbrev pub Name : Type 0
Name = List ℕ

-- What is known at a place of a body: how many variables the functions before its own have; the names declared so far, each once, in the order of their
-- first declarations; those that may be used here; and which variables, by their places, were declared without initialiser.
pub record Scope : Type 0 where
  pub others : ℕ
  pub declared : List Name
  pub visible : List Name
  pub free : List Bool

-- at the front of a body
abbrev pub no_names : ℕ → Scope
no_names others = record { others = others; declared = []; visible = []; free = replicate 16 false }

abbrev pub is_among : List Name → Name → Bool
is_among [] x = false
is_among (first ∷ more) x = bytes_eq first x || is_among more x

-- a variable's place: the first place of its name, counted from 0; without one, their number
abbrev pub place_of : List Name → Name → ℕ
place_of [] x = 0
place_of (first ∷ more) x = if bytes_eq first x then 0 else place_of more x + 1

-- a program has at most so many variables, those of all its functions together
abbrev pub most_variables : ℕ
most_variables = 15

-- a declared name becomes a variable where it is none yet and there is room for one more behind the others
abbrev pub with_variable : ℕ → List Name → Name → List Name
with_variable others names x = if is_among names x then names else if nat_lt (others + length names) most_variables then names ++ x ∷ [] else names

-- behind its declaration, which may be without an initialiser, a name may be used
abbrev pub declare : Scope → Name → Bool → Scope
declare scope x bare =
    let names = with_variable scope.others scope.declared x in
    record scope {
      declared = names;
      visible = scope.visible ++ x ∷ [];
      free = if bare && is_among names x then slice_set scope.free (place_of names x) true else scope.free;
    }

-- behind the end of a block or a `for`: what may be used is what could be used before it
abbrev pub close : Scope → Scope → Scope
close outer inner = record inner { visible = outer.visible }
