-- Labels that stand in a table from a number on, and what holds of each of them.
use Rattle.std.proofs.Common.{◌≡◌, ℕ, zero, suc, ◌+◌, ◌<◌, List, [], ◌∷◌, ◌++◌, length, get_or, length-append, append_assoc, refl, sym, subst, ap, ◌∙◌, arith}
use Rattle.std.specs.Bool.{⊤}
use Rattle.std.proofs.Math.Seq.{get_or-append_seam}
use Rattle.step_meaning.specs.Syntax.{Statement, Statements, assign, skip, return, break, continue, if_else, while_loop, do_while, empty, sequence, size_of, size_of_statement}
use Rattle.step_meaning.specs.Step.{Todo, one, items_of, behind_body}
use Rattle.control_flow.specs.Labels.{Jumps, Label, end, inside, labels_of, labels_of_statement, entry_label}

-- something holds of each label, of which the first has the number n
abbrev pub EachFrom : (ℕ → Label → Type 0) → ℕ → List Label → Type 0
EachFrom P n [] = ⊤
EachFrom P n (x ∷ xs) = P n x × EachFrom P (n + 1) xs

module _ (P : ℕ → Label → Type 0) where
  pub each_left : (n : ℕ) (xs ys : List Label) → EachFrom P n (xs ++ ys) → EachFrom P n xs
  each_left n [] ys h = tt
  each_left n (x ∷ xs) ys h = (h.0, each_left (n + 1) xs ys h.1)

  pub each_right : (n k : ℕ) (xs ys : List Label) → n + length xs ≡ k → EachFrom P n (xs ++ ys) → EachFrom P k ys
  each_right n k [] ys e h = let same : n ≡ k = omega arith in subst (λ i. EachFrom P i ys) same h
  each_right n k (x ∷ xs) ys e h = each_right (n + 1) k xs ys (omega arith) h.1

  pub each_both : (n k : ℕ) (xs ys : List Label) → n + length xs ≡ k → EachFrom P n xs → EachFrom P k ys → EachFrom P n (xs ++ ys)
  each_both n k [] ys e h g = let same : k ≡ n = omega arith in subst (λ i. EachFrom P i ys) same g
  each_both n k (x ∷ xs) ys e h g = (h.0, each_both (n + 1) k xs ys (omega arith) h.1 g)

  pub each_at : (n : ℕ) (xs : List Label) → EachFrom P n xs → (i k : ℕ) → i < length xs → n + i ≡ k → P k (get_or xs i end)
  each_at n [] h i k low e = absurd (omega arith)
  each_at n (x ∷ xs) h zero k low e = let same : n ≡ k = omega arith in subst (λ j. P j x) same h.0
  each_at n (x ∷ xs) h (suc i) k low e = each_at (n + 1) xs h.1 i k (omega arith) (omega arith)

-- the label of this number in the table
abbrev pub StandsIn : List Label → ℕ → Label → Type 0
StandsIn table n x = get_or table n end ≡ x

-- labels stand behind others
pub stands_behind : (xs ys : List Label) (k : ℕ) → length xs ≡ k → EachFrom (StandsIn (xs ++ ys)) k ys
stands_behind xs [] k e = tt
stands_behind xs (y ∷ ys) k e =
    let here : get_or (xs ++ y ∷ ys) k end ≡ y = ap (λ i. get_or (xs ++ y ∷ ys) i end) (sym e) ∙ get_or-append_seam xs y ys end in
    let one = length-append xs (y ∷ []) in
    let longer : length (xs ++ y ∷ []) ≡ k + 1 = omega arith in
    (here, subst (λ t. EachFrom (StandsIn t) (k + 1) ys) (append_assoc xs (y ∷ []) ys) (stands_behind (xs ++ y ∷ []) ys (k + 1) longer))

-- each statement has one label
mutual
  pub length-labels_of_statement : (n after : ℕ) (jumps : Jumps) (rest : Todo) (s : Statement) → length (labels_of_statement n after jumps rest s) ≡ size_of_statement s
  length-labels_of_statement n after jumps rest (assign x e) = refl
  length-labels_of_statement n after jumps rest skip = refl
  length-labels_of_statement n after jumps rest return = refl
  length-labels_of_statement n after jumps rest break = refl
  length-labels_of_statement n after jumps rest continue = refl
  length-labels_of_statement n after jumps rest (if_else c y z) =
      let first = length-labels_of (n + 1) after jumps rest y in
      let second = length-labels_of (n + 1 + size_of y) after jumps rest z in
      let both = length-append (labels_of (n + 1) after jumps rest y) (labels_of (n + 1 + size_of y) after jumps rest z) in
      omega arith
  length-labels_of_statement n after jumps rest (while_loop c body step) =
      let turn : ℕ = entry_label (n + 1 + size_of body) n step in
      let first = length-labels_of (n + 1) turn (inside after turn) (behind_body c body step rest) body in
      let second = length-labels_of (n + 1 + size_of body) n jumps (one (while_loop c body step) ∷ rest) step in
      let both = length-append (labels_of (n + 1) turn (inside after turn) (behind_body c body step rest) body) (labels_of (n + 1 + size_of body) n jumps (one (while_loop c body step) ∷ rest) step) in
      omega arith
  length-labels_of_statement n after jumps rest (do_while body c) =
      let first = length-labels_of n (n + size_of body) (inside after (n + size_of body)) (behind_body c body empty rest) body in
      length-append (labels_of n (n + size_of body) (inside after (n + size_of body)) (behind_body c body empty rest) body) _ ∙ omega arith

  pub length-labels_of : (n after : ℕ) (jumps : Jumps) (rest : Todo) (s : Statements) → length (labels_of n after jumps rest s) ≡ size_of s
  length-labels_of n after jumps rest empty = refl
  length-labels_of n after jumps rest (sequence first more) =
      let next : ℕ = entry_label (n + size_of_statement first) after more in
      let first_one = length-labels_of_statement n next jumps (items_of more ++ rest) first in
      let others = length-labels_of (n + size_of_statement first) after jumps rest more in
      let both = length-append (labels_of_statement n next jumps (items_of more ++ rest) first) (labels_of (n + size_of_statement first) after jumps rest more) in
      omega arith
