-- Texts cut at a byte, piece by piece.
use Rattle.std.proofs.Common.{◌-◌, ◌≡◌, ◌≢◌, ◌∙◌, ℕ, zero, suc, ◌+◌, ◌<◌, ◌==◌, Bool, true, false, List, [], ◌∷◌, take, drop, get_or, length, All, Any, refl, sym, ap, add-one, arith}
use Rattle.std.proofs.lemmas.Bool.{eq-eqb, ne_eqb}
use Rattle.std.proofs.lemmas.List.{length-drop, take_all}
use Rattle.std.proofs.lemmas.List.Elements.{All-cons}
use Rattle.input_text.specs.Pieces.{in_front, pieces}

cut_at : (b : ℕ) (xs : List ℕ) (i : ℕ) → i < length xs → get_or xs i 0 ≡ b → ((k : ℕ) → k < i → get_or xs k 0 ≢ b)
    → pieces b xs ≡ take i xs ∷ pieces b (drop (suc i) xs)
cut_at b [] i inside here before = absurd (omega arith)
cut_at b (x ∷ xs) zero inside here before = rw (eq-eqb x b here) refl
cut_at b (x ∷ xs) (suc i) inside here before =
    rw (ne_eqb x b (before 0 (omega arith))) (ap (in_front x) (cut_at b xs i (omega arith) here (λ k low. before (suc k) (omega arith))))

pub pieces_at : (b : ℕ) (xs : List ℕ) (i : ℕ) → i < length xs → get_or xs i 0 ≡ b → ((k : ℕ) → k < i → get_or xs k 0 ≢ b)
    → pieces b xs ≡ take i xs ∷ pieces b (drop (i + 1) xs)
pieces_at b xs i inside here before = cut_at b xs i inside here before ∙ ap (λ n. take i xs ∷ pieces b (drop n xs)) (sym (add-one i))

pub pieces_none : (b : ℕ) (xs : List ℕ) → ((k : ℕ) → k < length xs → get_or xs k 0 ≢ b) → pieces b xs ≡ xs ∷ []
pieces_none b [] none = refl
pieces_none b (x ∷ xs) none = rw (ne_eqb x b (none 0 (omega arith))) (ap (in_front x) (pieces_none b xs (λ k low. none (suc k) (omega arith))))

-- the text behind a place, as a slice is
pub behind_place : (text : List ℕ) (n : ℕ) → take (length text - n) (drop n text) ≡ drop n text
behind_place text n = take_all (length text - n) (drop n text) (let long = length-drop n text in omega (arith, long))

pub some_piece : (b : ℕ) (xs : List ℕ) → 0 < length (pieces b xs)
some_piece b [] = omega arith
some_piece b (x ∷ xs) = by (x == b) refl
  where
    front : (parts : List (List ℕ)) → 0 < length (in_front x parts)
    front [] = omega arith
    front (piece ∷ more) = omega arith

    by : (t : Bool) → (x == b) ≡ t → 0 < length (pieces b (x ∷ xs))
    by true e = rw e (omega arith)
    by false e = rw e (front (pieces b xs))

-- what is said of each piece, or of some, by the first and those behind it
module _ (P : List ℕ → Type 0) (piece : List ℕ) (more : List (List ℕ)) where
  pub any_first : (list : List (List ℕ)) → list ≡ piece ∷ more → P piece → Any P list
  any_first list is holds = rw is (0, piece, omega arith, refl, holds)

  pub any_later : (list : List (List ℕ)) → list ≡ piece ∷ more → Any P more → Any P list
  any_later list is any = rw is (suc any.0, any.1, (let low = any.2 in omega (arith, low)), any.3, any.4)

  pub all_more : (list : List (List ℕ)) → list ≡ piece ∷ more → P piece → All P more → All P list
  all_more list is holds all = rw is (All-cons P piece more holds all)

  pub all_first : (list : List (List ℕ)) → list ≡ piece ∷ more → All P list → P piece
  all_first list is all = let both = rw is at all in both 0 [] (omega arith)

  pub all_later : (list : List (List ℕ)) → list ≡ piece ∷ more → All P list → All P more
  all_later list is all = λ k d low. let both = rw is at all in both (suc k) d (omega arith)
