-- The choice of the next place, one place at a time.
use Rattle.std.proofs.Common.{◌≡◌, ◌⊎◌, inl, inr, ℕ, ◌+◌, ◌<◌, ◌≤◌, ◌∙◌, List, sym, ap, subst, arith, below_more, Option, None, Some, IfSome, MatchOption, true, false}
use Rattle.std.proofs.lemmas.Bool.{false≢true}
use Rattle.linear_cons.specs.declared.row.Row.{Row}
use Rattle.linear_solve.specs.Elimination.{pairs_of}
use Rattle.linear_solve.specs.Systems.{occurs}
use Rattle.linear_solve.specs.declared.order.Choice.{Choice}

-- of the places below n the choice has the fewest pairs
pub record IsFewestBelow (rows : List Row) (n : ℕ) (choice : Choice) : Type 0 where
  pub inside : choice.place < 16
  pub some : occurs choice.place rows ≡ true
  pub pairs : choice.pairs ≡ pairs_of choice.place rows
  pub fewest : (other : ℕ) → other < n → occurs other rows ≡ true → choice.pairs ≤ pairs_of other rows

-- one place more
pub choice_more : (rows : List Row) (n : ℕ) (best : Option Choice) (next result : Choice) → n < 16 → next.place ≡ n → next.pairs ≡ pairs_of n rows → occurs n rows ≡ true
    → MatchOption best ((i : ℕ) → i < n → occurs i rows ≡ false) (IsFewestBelow rows n)
    → MatchOption best (result ≡ next) (λ old. ((result ≡ next) × (next.pairs < old.pairs)) ⊎ ((result ≡ old) × (old.pairs ≤ next.pairs)))
    → IsFewestBelow rows (n + 1) result
choice_more rows n best next result low at has some before step = go best before step
  where
    newest : ((other : ℕ) → other < n → occurs other rows ≡ true → next.pairs ≤ pairs_of other rows) → result ≡ next → IsFewestBelow rows (n + 1) result
    newest fewest same = subst (λ (t : Choice). IsFewestBelow rows (n + 1) t) (sym same) (record {
      inside = omega (arith, at, low);
      some = ap (λ t. occurs t rows) at ∙ some;
      pairs = has ∙ ap (λ t. pairs_of t rows) (sym at);
      fewest = below_more (λ other. occurs other rows ≡ true → next.pairs ≤ pairs_of other rows) n fewest (λ is. omega (arith, has));
    })

    go : (best : Option Choice) → MatchOption best ((i : ℕ) → i < n → occurs i rows ≡ false) (IsFewestBelow rows n)
        → MatchOption best (result ≡ next) (λ old. ((result ≡ next) × (next.pairs < old.pairs)) ⊎ ((result ≡ old) × (old.pairs ≤ next.pairs)))
        → IsFewestBelow rows (n + 1) result
    go None none same = newest (λ other less is. absurd (false≢true (sym (none other less) ∙ is))) same
    go (Some old) fewest (inl both) = newest (λ other less is. let p = fewest.fewest other less is in let q = both.1 in omega (arith, p, q)) both.0
    go (Some old) fewest (inr both) = subst (λ (t : Choice). IsFewestBelow rows (n + 1) t) (sym both.0) (record {
      inside = fewest.inside;
      some = fewest.some;
      pairs = fewest.pairs;
      fewest = below_more (λ other. occurs other rows ≡ true → old.pairs ≤ pairs_of other rows) n fewest.fewest (λ is. let q = both.1 in omega (arith, has, q));
    })

-- a place that does not occur leaves the choice
pub choice_same : (rows : List Row) (n : ℕ) (best : Option Choice) → occurs n rows ≡ false
    → MatchOption best ((i : ℕ) → i < n → occurs i rows ≡ false) (IsFewestBelow rows n)
    → MatchOption best ((i : ℕ) → i < n + 1 → occurs i rows ≡ false) (IsFewestBelow rows (n + 1))
choice_same rows n None none before = below_more _ _ before none
choice_same rows n (Some old) none before = record {
  inside = before.inside;
  some = before.some;
  pairs = before.pairs;
  fewest = below_more (λ other. occurs other rows ≡ true → old.pairs ≤ pairs_of other rows) n before.fewest (λ is. absurd (false≢true (sym none ∙ is)));
}

-- the choice with fewer pairs is one of the two
pub fewer_is : (P : Choice → Type 0) (best : Option Choice) (next result : Choice)
    → MatchOption best (result ≡ next) (λ old. ((result ≡ next) × (next.pairs < old.pairs)) ⊎ ((result ≡ old) × (old.pairs ≤ next.pairs)))
    → IfSome best P → P next → P result
fewer_is P None next result same some here = subst P (sym same) here
fewer_is P (Some old) next result (inl both) some here = subst P (sym both.0) here
fewer_is P (Some old) next result (inr both) some here = subst P (sym both.0) some
