-- The two signed places of a place exchanged, cell by cell.
use Rattle.std.proofs.Common.{◌≡◌, ◌≢◌, ⊎_elim, inl, inr, ◌⊎◌, ℕ, ◌+◌, ◌*◌, ◌/◌, ◌%◌, ◌<◌, ◌≤◌, ℤ, neg_ℤ, true, false, eqb, cond}
use Rattle.std.proofs.Common.{List, length}
use Rattle.std.proofs.Common.{get_or, set, arith, refl, sym, ◌∙◌, ap, get_or-set_other, get_or-set_same, length-set}
use Rattle.std.proofs.lemmas.Bool.{cases_lt}
use Rattle.std.proofs.lemmas.Bool.Decides.{eqb_tells}
use Rattle.linear_cons.specs.Numbers.{number_at}
use Rattle.linear_cons.proofs.EndLaws.{up_to_same}
use Rattle.linear_cons.proofs.Places.{eqb_apart}
use Rattle.num_domain.specs.declared.bound.Bound.{Bound}
use Rattle.num_domain.specs.declared.bound.Bound.TheVariants.{Without}
use Rattle.octagon_dom.specs.Cells.{AreCellsOf, IsBelow, IsExchanged, cell, exchanged, exchanged_cell, flipped, signed, turned}
use Rattle.octagon_dom.specs.Laws.Members.{cell_of_below, parity, signed_even, signed_odd, signed_turned, turned_low, turned_place}
use Rattle.octagon_dom.specs.Laws.Members.{turned_twice}
use Rattle.octagon_dom.proofs.Members.{below_of_matrix, number_here, signed_other}

pub exchanged_here : (place i : ℕ) → i / 2 ≡ place → exchanged place i ≡ turned i
exchanged_here place i same = ⊎_elim
    (λ (is : (eqb (i / 2) place ≡ true) × (i / 2 ≡ place)). ap (λ t. cond t (turned i) i) is.0)
    (λ (apart : (eqb (i / 2) place ≡ false) × (i / 2 ≢ place)). absurd (apart.1 same))
    (eqb_tells (i / 2) place)

pub exchanged_away : (place i : ℕ) → i / 2 ≢ place → exchanged place i ≡ i
exchanged_away place i apart = ap (λ t. cond t (turned i) i) (eqb_apart (i / 2) place apart)

by_place : (place i : ℕ) (P : Type 0) → (i / 2 ≡ place → P) → (i / 2 ≢ place → P) → P
by_place place i P here away = ⊎_elim
    (λ (is : (eqb (i / 2) place ≡ true) × (i / 2 ≡ place)). here is.1)
    (λ (apart : (eqb (i / 2) place ≡ false) × (i / 2 ≢ place)). away apart.1)
    (eqb_tells (i / 2) place)

pub exchanged_low : (place i : ℕ) → i < 32 → exchanged place i < 32
exchanged_low place i low = by_place place i _
    (λ here. rw (exchanged_here place i here) (turned_low i low))
    (λ away. rw (exchanged_away place i away) low)

pub exchanged_twice : (place i : ℕ) → exchanged place (exchanged place i) ≡ i
exchanged_twice place i = by_place place i _
    (λ here. ap (exchanged place) (exchanged_here place i here) ∙ exchanged_here place (turned i) (turned_place i ∙ here) ∙ turned_twice i)
    (λ away. ap (exchanged place) (exchanged_away place i away) ∙ exchanged_away place i away)

pub cell_low : (place k : ℕ) → k < 1024 → exchanged_cell place k < 1024
cell_low place k low =
    let row = exchanged_low place (k / 32) (omega arith) in
    let column = exchanged_low place (k % 32) (omega arith) in
    omega arith

pub cell_twice : (place k : ℕ) → k < 1024 → exchanged_cell place (exchanged_cell place k) ≡ k
cell_twice place k low =
    let below = exchanged_low place (k % 32) (omega arith) in
    let row : exchanged_cell place k / 32 ≡ exchanged place (k / 32) = omega arith in
    let column : exchanged_cell place k % 32 ≡ exchanged place (k % 32) = omega arith in
    let one : exchanged place (exchanged_cell place k / 32) ≡ k / 32 = ap (exchanged place) row ∙ exchanged_twice place (k / 32) in
    let two : exchanged place (exchanged_cell place k % 32) ≡ k % 32 = ap (exchanged place) column ∙ exchanged_twice place (k % 32) in
    omega arith

-- two cells of a list in each other's place
pub exchange_cells : (place k : ℕ) (old : List (Bound ℤ)) → length old ≡ 1024 → k < 1024 → k < exchanged_cell place k
    → IsExchanged place k old (set (set old k (get_or old (exchanged_cell place k) Without)) (exchanged_cell place k)
    (get_or old k Without))
exchange_cells place k old long low first = record {
  long = length-set (set old k (get_or old (exchanged_cell place k) Without)) (exchanged_cell place k) (get_or old k Without)
      ∙ length-set old k (get_or old (exchanged_cell place k) Without) ∙ long;
  here = λ h.
      let ne : k ≢ exchanged_cell place k = omega arith in
      let inside : k < length old = omega (arith, long) in
      rw get_or-set_other (rw get_or-set_same refl);
  there = λ h.
      let bound = cell_low place k low in
      let inside : exchanged_cell place k < length (set old k (get_or old (exchanged_cell place k) Without)) =
      omega (arith, long, length-set old k (get_or old (exchanged_cell place k) Without)) in
      rw get_or-set_same refl;
  others = λ m apart also. rw get_or-set_other (rw get_or-set_other refl);
  stays = λ after. absurd (omega arith);
}

pub keep_cells : (place k : ℕ) (old : List (Bound ℤ)) → length old ≡ 1024 → exchanged_cell place k ≤ k → IsExchanged place k old old
keep_cells place k old long after = record {
  long = long;
  here = λ h. absurd (omega arith);
  there = λ h. absurd (omega arith);
  others = λ m apart also. refl;
  stays = λ h m. refl;
}

-- the cells below n, and those that they are exchanged with, have been exchanged
pub record FlippedBelow (n place : ℕ) (old now : List (Bound ℤ)) : Type 0 where
  pub long : length now ≡ 1024
  pub moved : (k : ℕ) → k < 1024 → (k < n) ⊎ (exchanged_cell place k < n) → cell now k ≡ cell old (exchanged_cell place k)
  pub later : (k : ℕ) → k < 1024 → n ≤ k → n ≤ exchanged_cell place k → cell now k ≡ cell old k

pub flipped_none : (place : ℕ) (old : List (Bound ℤ)) → length old ≡ 1024 → FlippedBelow 0 place old old
flipped_none place old long = record {
  long = long;
  moved = λ k low before. ⊎_elim (λ (h : k < 0). absurd (omega arith)) (λ (h : exchanged_cell place k < 0). absurd (omega arith)) before;
  later = λ k low h g. refl;
}

module _ (n place : ℕ) (old now next : List (Bound ℤ)) (low : n < 1024) (below : FlippedBelow n place old now)
    (step : IsExchanged place n now next) where
  back : exchanged_cell place (exchanged_cell place n) ≡ n
  back = cell_twice place n low

  -- the cell n has the end of the other one
  here : cell next n ≡ cell old (exchanged_cell place n)
  here = ⊎_elim
      (λ (first : n < exchanged_cell place n). step.here first
      ∙ below.later (exchanged_cell place n) (cell_low place n low) (omega arith) (omega (arith, back)))
      (λ (from : exchanged_cell place n ≤ n). step.stays from n ∙ ⊎_elim
      (λ (less : exchanged_cell place n < n). below.moved n low (inr less))
      (λ (same : n ≤ exchanged_cell place n).
      let is : exchanged_cell place n ≡ n = omega arith in
      below.later n low (omega arith) (omega arith) ∙ ap (cell old) (sym is))
      (cases_lt (exchanged_cell place n) n))
      (cases_lt n (exchanged_cell place n))

  there : cell next (exchanged_cell place n) ≡ cell old n
  there = ⊎_elim
      (λ (first : n < exchanged_cell place n). step.there first ∙ below.later n low (omega arith) (omega arith))
      (λ (from : exchanged_cell place n ≤ n). step.stays from (exchanged_cell place n) ∙ ⊎_elim
      (λ (less : exchanged_cell place n < n).
      below.moved (exchanged_cell place n) (cell_low place n low) (inl less) ∙ ap (cell old) back)
      (λ (same : n ≤ exchanged_cell place n).
      let is : exchanged_cell place n ≡ n = omega arith in
      ap (cell now) is ∙ below.later n low (omega arith) (omega arith))
      (cases_lt (exchanged_cell place n) n))
      (cases_lt n (exchanged_cell place n))

  kept : (k : ℕ) → k ≢ n → k ≢ exchanged_cell place n → cell next k ≡ cell now k
  kept k apart also = step.others k apart also

  by_cell : (k : ℕ) (P : Type 0) → (k ≡ n → P) → (k ≡ exchanged_cell place n → P) → (k ≢ n → k ≢ exchanged_cell place n → P) → P
  by_cell k P one two rest = ⊎_elim
      (λ (is : (eqb k n ≡ true) × (k ≡ n)). one is.1)
      (λ (apart : (eqb k n ≡ false) × (k ≢ n)). ⊎_elim
      (λ (is : (eqb k (exchanged_cell place n) ≡ true) × (k ≡ exchanged_cell place n)). two is.1)
      (λ (also : (eqb k (exchanged_cell place n) ≡ false) × (k ≢ exchanged_cell place n)). rest apart.1 also.1)
      (eqb_tells k (exchanged_cell place n)))
      (eqb_tells k n)

  pub flipped_more : FlippedBelow (n + 1) place old next
  flipped_more = record {
    long = step.long;
    moved = λ k h before. by_cell k _
        (λ is. ap (cell next) is ∙ here ∙ ap (λ m. cell old (exchanged_cell place m)) (sym is))
        (λ is. ap (cell next) is ∙ there ∙ ap (cell old) (sym (ap (exchanged_cell place) is ∙ back)))
        (λ apart also. kept k apart also ∙ below.moved k h (⊎_elim
        (λ (less : k < n + 1). inl (omega arith))
        (λ (less : exchanged_cell place k < n + 1).
        let away : exchanged_cell place k ≢ n =
        λ is. also (sym (cell_twice place k h) ∙ ap (exchanged_cell place) is) in
        inr (omega arith))
        before));
    later = λ k h from also_from.
        let apart : k ≢ n = omega arith in
        let away : k ≢ exchanged_cell place n =
        λ is. let to : exchanged_cell place k ≡ n = ap (exchanged_cell place) is ∙ back in omega arith in
        kept k apart away ∙ below.later k h (omega arith) (omega arith);
  }

pub flipped_all : (place : ℕ) (old now : List (Bound ℤ)) → FlippedBelow 1024 place old now → AreCellsOf (flipped old place) now
flipped_all place old now below = record {
  long = below.long;
  each = λ i j h g.
      let low : 32 * i + j < 1024 = omega arith in
      let row : (32 * i + j) / 32 ≡ i = omega arith in
      let column : (32 * i + j) % 32 ≡ j = omega arith in
      below.moved (32 * i + j) low (inl low)
      ∙ ap (λ a. cell old (32 * exchanged place a + exchanged place ((32 * i + j) % 32))) row
      ∙ ap (λ b. cell old (32 * exchanged place i + exchanged place b)) column;
}

-- ---- the members

module _ (store : List ℤ) (place : ℕ) (long : length store ≡ 16) (low : place < 16) where
  pub signed_exchanged : (i : ℕ) → signed (set store place (neg_ℤ (number_at store place))) i ≡ signed store (exchanged place i)
  signed_exchanged i = by_place place i _
      (λ at.
      let number : number_at (set store place (neg_ℤ (number_at store place))) (i / 2) ≡ neg_ℤ (number_at store (i / 2)) =
      ap (number_at (set store place (neg_ℤ (number_at store place)))) at
      ∙ number_here store place (neg_ℤ (number_at store place)) long low ∙ ap (λ p. neg_ℤ (number_at store p)) (sym at) in
      let other = ap (signed store) (exchanged_here place i at) ∙ signed_turned store i in
      parity i _
      (λ even. signed_even (set store place (neg_ℤ (number_at store place))) i even ∙ number
      ∙ sym (other ∙ ap neg_ℤ (signed_even store i even)))
      (λ odd. signed_odd (set store place (neg_ℤ (number_at store place))) i odd ∙ ap neg_ℤ number
      ∙ sym (other ∙ ap neg_ℤ (signed_odd store i odd))))
      (λ away. signed_other store place (neg_ℤ (number_at store place)) long low i away
      ∙ sym (ap (signed store) (exchanged_away place i away)))

  pub flipped_keeps : (old new : List (Bound ℤ)) → AreCellsOf (flipped old place) new → IsBelow old store
      → IsBelow new (set store place (neg_ℤ (number_at store place)))
  flipped_keeps old new are below = below_of_matrix (flipped old place) new (set store place (neg_ℤ (number_at store place))) are
      (λ i j h g apart.
      let one = signed_exchanged i in
      let two = signed_exchanged j in
      let away : exchanged place i ≢ exchanged place j =
      λ is. apart (sym (exchanged_twice place i) ∙ ap (exchanged place) is ∙ exchanged_twice place j) in
      up_to_same (flipped old place i j) _ _ (rw (one, two) refl)
      (cell_of_below old store below (exchanged place i) (exchanged place j) (exchanged_low place i h) (exchanged_low place j g) away))
