-- The place that a declared name gets is told before it is declared.
use Rattle.std.proofs.Common.{◌≡◌, ℕ, ◌+◌, nat_lt, Bool, true, false, ◌||◌, List, [], ◌∷◌, ◌++◌, length, refl, ap, if◌then◌else◌}
use Rattle.std.specs.Str.{bytes_eq}
use Rattle.std.proofs.lemmas.Slice.Eq.{bytes_eq-Decides}
use Rattle.typed_expressions.specs.Scopes.{Name, is_among, place_of, with_variable, most_variables}

-- behind all names of a list
place_last : (names : List Name) (x : Name) → is_among names x ≡ false → place_of (names ++ x ∷ []) x ≡ place_of names x
place_last [] x new = let same : bytes_eq x x ≡ true = (bytes_eq-Decides x x).1 refl in rw same refl
place_last (first ∷ names) x new =
    let inner = place_last names x in
    by_first inner (bytes_eq first x) new
  where
    by_first : (is_among names x ≡ false → place_of (names ++ x ∷ []) x ≡ place_of names x) → (same : Bool) → (same || is_among names x) ≡ false
        → (if same then 0 else place_of (names ++ x ∷ []) x + 1) ≡ (if same then 0 else place_of names x + 1)
    by_first inner true h = refl
    by_first inner false h = ap (λ n. n + 1) (inner h)

pub place_ahead : (others : ℕ) (names : List Name) (x : Name) → place_of (with_variable others names x) x ≡ place_of names x
place_ahead others names x = by_known (is_among names x) refl
  where
    by_room : is_among names x ≡ false → (room : Bool) → place_of (if room then names ++ x ∷ [] else names) x ≡ place_of names x
    by_room new true = place_last names x new
    by_room new false = refl

    by_known : (known : Bool) → is_among names x ≡ known
        → place_of (if known then names else if nat_lt (others + length names) most_variables then names ++ x ∷ [] else names) x ≡ place_of names x
    by_known true e = refl
    by_known false e = by_room e (nat_lt (others + length names) most_variables)
