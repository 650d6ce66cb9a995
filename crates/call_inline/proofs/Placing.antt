-- Offsets of statements that calls become, and the room that they take.
use Rattle.std.proofs.Common.{◌≡◌, ◌≢◌, ℕ, zero, suc, ◌+◌, ◌<◌, ◌≤◌, List, [], ◌∷◌, ◌++◌, length, length-append, replicate, slice_index_or, Some, Result, Ok, Err, inl, inr, refl, sym, ap, ◌∙◌, arith}
use Rattle.std.proofs.lemmas.Bool.Decides.{eqb_tells}
use Rattle.std.specs.List.{slice_get}
use Rattle.call_meaning.specs.declared.statement.Func.{Func}
use Rattle.call_meaning.specs.Tables.{places_from}
use Rattle.call_inline.specs.Placed.{placed, placed_call, placed_calls}
use Rattle.call_inline.specs.Laws.Standing.{Takes}
use Rattle.call_inline.proofs.Tabling.{got}

-- what a call of a function below `n` becomes
pub placed_known : (funcs : List Func) (n f : ℕ) → f < n → placed_calls funcs n f ≡ placed_call (placed_calls funcs f) (slice_get funcs f)
placed_known funcs zero f below = absurd (omega arith)
placed_known funcs (suc n) f below = elim (eqb_tells f n) [
  | inl same ↦ rw same.0 (ap (λ k. placed_call (placed_calls funcs k) (slice_get funcs k)) (sym same.1))
  | inr other ↦ rw other.0 (let apart : f ≢ n = other.1 in placed_known funcs n f (omega arith))
]

pub get_first : (xs ys : List ℕ) (n : ℕ) (x : ℕ) → slice_get xs n ≡ Some x → slice_get (xs ++ ys) n ≡ Some x
get_first [] ys n x h = absurd (cc)
get_first (y ∷ xs) ys zero x h = h
get_first (y ∷ xs) ys (suc n) x h = get_first xs ys n x h

get_behind : (xs ys : List ℕ) (n m : ℕ) → n + length xs ≡ m → slice_get (xs ++ ys) m ≡ slice_get ys n
get_behind [] ys n m e = let same : m ≡ n = omega arith in ap (slice_get ys) same
get_behind (x ∷ xs) ys n zero e = absurd (omega arith)
get_behind (x ∷ xs) ys n (suc m) e = get_behind xs ys n m (omega arith)

-- what a first part leaves is the room of the second
pub takes_both : (xs ys : List ℕ) (room left : ℕ) (r : Result ℕ ℕ) → left + length xs ≡ room → Takes ys left r → Takes (xs ++ ys) room r
takes_both xs ys room left (Ok rest) e h = let both = length-append xs ys in omega arith
takes_both xs ys room left (Err at) e h = get_behind xs ys left room e ∙ h

-- where there is less room than statements at one offset
pub get_within : (n at m : ℕ) → m < n → slice_get (replicate n at) m ≡ Some at
get_within zero at m low = absurd (omega arith)
get_within (suc n) at zero low = refl
get_within (suc n) at (suc m) low = get_within n at m (omega arith)

-- what a call of one of the functions becomes
pub placed_here : (funcs : List Func) (n f : ℕ) (callee : Func) (at : ℕ) → f < n → n ≤ length funcs → callee ≡ slice_index_or funcs f callee
    → placed_calls funcs n f at ≡ replicate callee.params at ++ (replicate (length (places_from 0 callee.free)) at ++ placed (placed_calls funcs f) (λ own. at) callee.body)
placed_here funcs n f callee at below inside is =
    ap (λ c. c at) (placed_known funcs n f below) ∙ ap (λ one. placed_call (placed_calls funcs f) one at) (got funcs f callee (omega arith) ∙ ap Some (sym is))

-- and where that is nothing
pub placed_none : (funcs : List Func) (n f at : ℕ) → f < n → n ≤ length funcs → placed_calls funcs (length funcs) f at ≡ [] → placed_calls funcs n f at ≡ []
placed_none funcs n f at below inside none =
    ap (λ c. c at) (placed_known funcs n f below ∙ sym (placed_known funcs (length funcs) f (omega arith))) ∙ none

pub placed_nothing : (funcs : List Func) (n f at room : ℕ) → f < n → n ≤ length funcs → placed_calls funcs (length funcs) f at ≡ []
    → room + length (placed_calls funcs n f at) ≡ room
placed_nothing funcs n f at room below inside none =
    let gone : length (placed_calls funcs n f at) ≡ 0 = ap length (placed_none funcs n f at below inside none) in
    omega arith
