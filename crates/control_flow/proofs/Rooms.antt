-- Places by number, list after list, and the room that statements take.
use Rattle.std.proofs.Common.{◌≡◌, ℕ, zero, suc, ◌+◌, List, [], ◌∷◌, ◌++◌, length, length-append, Some, Result, Ok, Err, MatchResult, refl, sym, ap, ◌∙◌, arith}
use Rattle.std.specs.List.{slice_get}
use Rattle.step_meaning.specs.declared.statement.Block.{Block, Then'}
use Rattle.step_meaning.specs.declared.statement.Block.TheVariants.{End}
use Rattle.step_meaning.specs.declared.statement.StmtKind.{StmtKind}
use Rattle.step_meaning.specs.declared.statement.StmtKind.TheVariants.{Assign, Skip, Return, Break, Continue, If, While, Do}
use Rattle.step_meaning.specs.Syntax.{statements, statement, size_of, size_of_statement}
use Rattle.step_meaning.specs.Offsets.{offsets, offsets_at}

pub get_first : (xs ys : List ℕ) (n : ℕ) (x : ℕ) → slice_get xs n ≡ Some x → slice_get (xs ++ ys) n ≡ Some x
get_first [] ys n x h = absurd (cc)
get_first (y ∷ xs) ys zero x h = h
get_first (y ∷ xs) ys (suc n) x h = get_first xs ys n x h

pub get_behind : (xs ys : List ℕ) (k n m : ℕ) → length xs ≡ k → k + n ≡ m → slice_get (xs ++ ys) m ≡ slice_get ys n
get_behind [] ys k n m e f = let same : m ≡ n = omega arith in ap (slice_get ys) same
get_behind (x ∷ xs) ys k n zero e f = absurd (omega arith)
get_behind (x ∷ xs) ys k n (suc m) e f = get_behind xs ys (length xs) n m refl (omega arith)

-- what a second part leaves of the room, and what the test of a `do` loop leaves
pub behind_both : (r : Result ℕ ℕ) (xs ys : List ℕ) (m n k l : ℕ) → length xs ≡ m → l + m ≡ k → MatchResult r (λ left. left + n ≡ l) (λ at. slice_get ys l ≡ Some at) → MatchResult r (λ left. left + (m + n) ≡ k) (λ at. slice_get (xs ++ ys) k ≡ Some at)
behind_both (Ok x) xs ys m n k l e f h = omega arith
behind_both (Err x) xs ys m n k l e f h = get_behind xs ys m l k e (omega arith) ∙ h

pub behind_test : (r : Result ℕ ℕ) (xs : List ℕ) (m at k l : ℕ) → length xs ≡ m → l + m ≡ k → MatchResult r (λ left. left + 1 ≡ l) (λ place. (l ≡ 0) × (place ≡ at)) → MatchResult r (λ left. left + (1 + m) ≡ k) (λ place. slice_get (xs ++ at ∷ []) k ≡ Some place)
behind_test (Ok x) xs m at k l e f h = omega arith
behind_test (Err x) xs m at k l e f h = get_behind xs (at ∷ []) m 0 k e (omega (arith, h.0)) ∙ ap Some (sym h.1)

mutual
  pub length-offsets_at : (at : ℕ) (kind : StmtKind) → length (offsets_at at kind) ≡ size_of_statement (statement kind)
  length-offsets_at at (Assign x e) = refl
  length-offsets_at at Skip = refl
  length-offsets_at at Return = refl
  length-offsets_at at Break = refl
  length-offsets_at at Continue = refl
  length-offsets_at at (If c y z) =
      let both = length-append (offsets y) (offsets z) in
      let first = length-offsets y in
      let second = length-offsets z in
      omega arith
  length-offsets_at at (While c y z) =
      let both = length-append (offsets y) (offsets z) in
      let first = length-offsets y in
      let second = length-offsets z in
      omega arith
  length-offsets_at at (Do y c) =
      let both = length-append (offsets y) (at ∷ []) in
      let first = length-offsets y in
      omega arith

  pub length-offsets : (b : Block) → length (offsets b) ≡ size_of (statements b)
  length-offsets End = refl
  length-offsets (Then' p at kind q more) =
      let both = length-append (offsets_at at kind) (offsets more) in
      let first = length-offsets_at at kind in
      let others = length-offsets more in
      omega arith
