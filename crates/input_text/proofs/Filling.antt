-- An input filled place by place, and the names by their places.
use Rattle.std.proofs.Common.{◌≡◌, ◌≢◌, inl, inr, ◌∙◌, ℕ, ◌+◌, ◌<◌, ◌≤◌, ℤ, pos, List, length, Any, slice_set, sym, subst, arith}
use Rattle.std.proofs.lemmas.Bool.{cases_lt}
use Rattle.std.proofs.lemmas.List.{get_or-set_other, get_or-set_same, length-set}
use Rattle.linear_cons.specs.Numbers.{number_at}
use Rattle.input_text.specs.Input.{IsPairAt, IsPairText, name_at}

-- where the places before this one are filled and the others hold 0, so are those before the next one behind its number
pub record IsFilled (names pieces : List (List ℕ)) (place : ℕ) (input : List ℤ) : Type 0 where
  pub places : length input ≡ 16
  pub zeros : (other : ℕ) → place ≤ other → number_at input other ≡ pos 0
  pub given : (other : ℕ) → other < place → Any (IsPairAt names input other) pieces

pub filled : (names pieces : List (List ℕ)) (place : ℕ) (input : List ℤ) (number : ℤ) → place < 16 → IsFilled names pieces place input
    → Any (IsPairText (name_at names place) number) pieces → IsFilled names pieces (place + 1) (slice_set input place number)
filled names pieces place input number few is any = record {
  places = length-set input place number ∙ is.places;
  zeros = λ other more. get_or-set_other input place other number (pos 0) (let apart : other ≢ place = omega arith in apart) ∙ is.zeros other (omega arith);
  given = given;
}
  where
    given : (other : ℕ) → other < place + 1 → Any (IsPairAt names (slice_set input place number) other) pieces
    given other low = elim (cases_lt other place) [
      | inl less ↦
          let old = is.given other less in
          let kept : number_at (slice_set input place number) other ≡ number_at input other =
          get_or-set_other input place other number (pos 0) (let apart : other ≢ place = omega arith in apart) in
          (old.0, old.1, old.2, old.3, subst (λ n. IsPairText (name_at names other) n old.1) (sym kept) old.4)
      | inr more ↦
          let here : other ≡ place = omega (arith, low, more) in
          let put : number_at (slice_set input place number) place ≡ number =
          get_or-set_same input place number (pos 0) (let p = is.places in omega (arith, p, few)) in
          let own : Any (IsPairAt names (slice_set input place number) place) pieces =
          (any.0, any.1, any.2, any.3, subst (λ n. IsPairText (name_at names place) n any.1) (sym put) any.4) in
          subst (λ p. Any (IsPairAt names (slice_set input place number) p) pieces) (sym here) own
    ]
