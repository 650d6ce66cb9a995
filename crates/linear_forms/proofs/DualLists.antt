-- Dual lists of conjunctions: of complements, and along the lists that a spreading makes.
use Rattle.std.proofs.Common.{◌≡◌, ℕ, ◌<◌, ℤ, pos, negsuc, ◌+ℤ◌, ◌-ℤ◌, ◌*ℤ◌, ◌≤ℤ◌, ◌<ℤ◌, ◌⊎◌, inl, inr, ⊎_elim, Bool, true, false, IsTrue, List, [], ◌∷◌, ◌++◌, map, Some, refl, sym, subst, ap, ◌∙◌, arith}
use Rattle.std.specs.Bool.{⊤}
use Rattle.std.proofs.lemmas.Int.{ints}
use Rattle.linear_cons.specs.declared.affine.Affine.{Affine}
use Rattle.linear_cons.specs.declared.row.Row.{Row}
use Rattle.linear_cons.specs.declared.row.RowKind.{RowKind}
use Rattle.linear_cons.specs.declared.row.RowKind.TheVariants.{Always, Never, Row as Kept}
use Rattle.linear_cons.specs.Functions.{IsConstant, IsQuotient, coefficient, complement_of, constant_of}
use Rattle.linear_cons.specs.Rows.{IsRowOf}
use Rattle.linear_cons.proofs.Dividing.{primitive_complement}
use Rattle.linear_cons.proofs.KindLaws.{row_kind_is, row_kind_unique}
use Rattle.linear_cons.specs.Rows.{row_kind_of}
use Rattle.linear_cons.proofs.Places.{length-at_places, number_at_places}
use Rattle.linear_cons.proofs.Ring.{mul_add, mul_one, mul_sub, mul_zero}
use Rattle.linear_forms.proofs.Exactness.{true_or_false}
use Rattle.linear_forms.specs.Duality.{AreDual, EachOf, Excludes, HoldsWhole, IsComplement, IsRefuted, SomeOf}
use Rattle.linear_forms.specs.Spreading.{before, kept_before, pairs}

-- ---- kinds of complements

abbrev pub AreComplements : RowKind → RowKind → Type 0
AreComplements Always Never = ⊤
AreComplements Never Always = ⊤
AreComplements (Kept row) (Kept other) = IsComplement row other
AreComplements _ _ = ⊥

coefficient_of_complement : (a : Affine) (i : ℕ) → i < 16 → coefficient (complement_of a) i ≡ pos 0 -ℤ coefficient a i
coefficient_of_complement a i low =
    number_at_places (λ j. coefficient (constant_of (negsuc 0)) j -ℤ coefficient a j) i low
    ∙ ap (λ t. t -ℤ coefficient a i) (number_at_places (λ j. pos 0) i low)

constant_complement : (a : Affine) → IsConstant a → IsConstant (complement_of a)
constant_complement a none i low = let nought = none i low in coefficient_of_complement a i low ∙ omega (arith, ints)

quotient_complement : (a q : Affine) → IsQuotient a q → IsQuotient (complement_of a) (complement_of q)
quotient_complement a q by =
    let g : ℤ = pos by.divisor in
    let next = mul_add g q.constant (pos 1) in
    let one = mul_one g in
    let whole = mul_sub g (negsuc 0) q.constant in
    let minus : g *ℤ negsuc 0 ≡ pos 0 -ℤ g = omega (arith, ints) in
    let behind = mul_add g (negsuc 0 -ℤ q.constant) (pos 1) in
    let high : a.constant <ℤ (g *ℤ (q.constant +ℤ pos 1)) = by.below_next in
    let low : (g *ℤ q.constant) ≤ℤ a.constant = by.at_most in
    record {
      divisor = by.divisor;
      positive = by.positive;
      places = length-at_places (λ i. coefficient (constant_of (negsuc 0)) i -ℤ coefficient q i);
      coefficients = λ i h.
          let product = mul_sub g (pos 0) (coefficient q i) in
          let nought = mul_zero g in
          let same = by.coefficients i h in
          coefficient_of_complement a i h ∙ rw (coefficient_of_complement q i h) (omega (arith, ints));
      at_most = omega (arith, ints);
      below_next = omega (arith, ints);
    }

kinds_of_complements : (a : Affine) (kind : RowKind) → IsRowOf a kind → AreComplements kind (row_kind_of (complement_of a))
kinds_of_complements a Always is =
    subst (AreComplements Always) (row_kind_unique (complement_of a) Never (constant_complement a is.0, omega (arith, ints, is.1))) tt
kinds_of_complements a Never is =
    subst (AreComplements Never) (row_kind_unique (complement_of a) Always (constant_complement a is.0, omega (arith, ints, is.1))) tt
kinds_of_complements a (Kept row) is =
    let other : Row = record { affine = complement_of row.affine; primitive = primitive_complement row.affine row.primitive } in
    subst (AreComplements (Kept row)) (row_kind_unique (complement_of a) (Kept other) (quotient_complement a row.affine is)) refl

pub complement_kinds : (a b : Affine) → b ≡ complement_of a → AreComplements (row_kind_of a) (row_kind_of b)
complement_kinds a b is = subst (λ t. AreComplements (row_kind_of a) (row_kind_of t)) (sym is) (kinds_of_complements a (row_kind_of a) (row_kind_is a))

only : (P : Type 0) → P ⊎ ⊥ → P
only P (inl p) = p
only P (inr q) = absurd q

-- ---- a conjunction of one constraint, or of two, and the alternatives against it

abbrev pub alone : RowKind → List (List Row)
alone k = kept_before (before k (Some [])) []

abbrev pub both_of : RowKind → RowKind → List (List Row)
both_of k l = kept_before (before k (before l (Some []))) []

abbrev pub either_of : RowKind → RowKind → List (List Row)
either_of k l = kept_before (before k (Some [])) (kept_before (before l (Some [])) [])

pub alone_dual : (k l : RowKind) → AreComplements k l → AreDual (alone k) (alone l)
alone_dual Always Never are = record { exclude = (tt, tt); hold = λ p h. absurd h.0 }
alone_dual Never Always are = record { exclude = tt; hold = λ p h. inl tt }
alone_dual (Kept row) (Kept other) are = record {
  exclude = ((inl (inl are), tt), tt);
  hold = λ p h. inl ((row, only (IsTrue (p row)) h.0, are), tt);
}
alone_dual Always Always are = absurd are
alone_dual Always (Kept other) are = absurd are
alone_dual Never Never are = absurd are
alone_dual Never (Kept other) are = absurd are
alone_dual (Kept row) Always are = absurd are
alone_dual (Kept row) Never are = absurd are

-- the alternatives stand the other way round
pub both_dual : (k m : RowKind) → AreComplements k m → (l n : RowKind) → AreComplements l n → AreDual (both_of k l) (either_of n m)
both_dual Always Never first Always Never second = record { exclude = (tt, tt); hold = λ p h. absurd h.0 }
both_dual Always Never first Never Always second = record { exclude = tt; hold = λ p h. inl tt }
both_dual Always Never first (Kept c) (Kept d) second = record { exclude = ((inl (inl second), tt), tt); hold = λ p h. inl ((c, only (IsTrue (p c)) h.0, second), tt) }
both_dual Never Always first Always Never second = record { exclude = tt; hold = λ p h. inl tt }
both_dual Never Always first Never Always second = record { exclude = tt; hold = λ p h. inl tt }
both_dual Never Always first (Kept c) (Kept d) second = record { exclude = tt; hold = λ p h. inr (inl tt) }
both_dual (Kept a) (Kept b) first Always Never second = record { exclude = ((inl (inl first), tt), tt); hold = λ p h. inl ((a, only (IsTrue (p a)) h.0, first), tt) }
both_dual (Kept a) (Kept b) first Never Always second = record { exclude = tt; hold = λ p h. inl tt }
both_dual (Kept a) (Kept b) first (Kept c) (Kept d) second = record { exclude = ((inr (inl (inl second)), (inl (inl first), tt)), tt); hold = λ p h. ⊎_elim (λ (u : IsTrue (p a)). inr (inl ((a, u, first), tt))) (λ (u : IsTrue (p c) ⊎ ⊥). inl ((c, only (IsTrue (p c)) u, second), tt)) h.0 }
both_dual Always Always first l n second = absurd first
both_dual Always (Kept b) first l n second = absurd first
both_dual Never Never first l n second = absurd first
both_dual Never (Kept b) first l n second = absurd first
both_dual (Kept a) Always first l n second = absurd first
both_dual (Kept a) Never first l n second = absurd first
both_dual Always Never first Always Always second = absurd second
both_dual Always Never first Always (Kept d) second = absurd second
both_dual Always Never first Never Never second = absurd second
both_dual Always Never first Never (Kept d) second = absurd second
both_dual Always Never first (Kept c) Always second = absurd second
both_dual Always Never first (Kept c) Never second = absurd second
both_dual Never Always first Always Always second = absurd second
both_dual Never Always first Always (Kept d) second = absurd second
both_dual Never Always first Never Never second = absurd second
both_dual Never Always first Never (Kept d) second = absurd second
both_dual Never Always first (Kept c) Always second = absurd second
both_dual Never Always first (Kept c) Never second = absurd second
both_dual (Kept a) (Kept b) first Always Always second = absurd second
both_dual (Kept a) (Kept b) first Always (Kept d) second = absurd second
both_dual (Kept a) (Kept b) first Never Never second = absurd second
both_dual (Kept a) (Kept b) first Never (Kept d) second = absurd second
both_dual (Kept a) (Kept b) first (Kept c) Always second = absurd second
both_dual (Kept a) (Kept b) first (Kept c) Never second = absurd second

pub either_dual : (k m : RowKind) → AreComplements k m → (l n : RowKind) → AreComplements l n → AreDual (either_of k l) (both_of n m)
either_dual Always Never first Always Never second = record { exclude = (tt, (tt, tt)); hold = λ p h. absurd h.0 }
either_dual Always Never first Never Always second = record { exclude = (tt, tt); hold = λ p h. absurd h.0 }
either_dual Always Never first (Kept c) (Kept d) second = record { exclude = (tt, (tt, tt)); hold = λ p h. absurd h.0 }
either_dual Never Always first Always Never second = record { exclude = (tt, tt); hold = λ p h. absurd h.0 }
either_dual Never Always first Never Always second = record { exclude = tt; hold = λ p h. inl tt }
either_dual Never Always first (Kept c) (Kept d) second = record { exclude = ((inl (inl second), tt), tt); hold = λ p h. inl ((c, only (IsTrue (p c)) h.0, second), tt) }
either_dual (Kept a) (Kept b) first Always Never second = record { exclude = (tt, (tt, tt)); hold = λ p h. absurd h.1.0 }
either_dual (Kept a) (Kept b) first Never Always second = record { exclude = ((inl (inl first), tt), tt); hold = λ p h. inl ((a, only (IsTrue (p a)) h.0, first), tt) }
either_dual (Kept a) (Kept b) first (Kept c) (Kept d) second = record { exclude = ((inl (inr (inl first)), tt), ((inl (inl second), tt), tt)); hold = λ p h. inl ((c, only (IsTrue (p c)) h.1.0, second), ((a, only (IsTrue (p a)) h.0, first), tt)) }
either_dual Always Always first l n second = absurd first
either_dual Always (Kept b) first l n second = absurd first
either_dual Never Never first l n second = absurd first
either_dual Never (Kept b) first l n second = absurd first
either_dual (Kept a) Always first l n second = absurd first
either_dual (Kept a) Never first l n second = absurd first
either_dual Always Never first Always Always second = absurd second
either_dual Always Never first Always (Kept d) second = absurd second
either_dual Always Never first Never Never second = absurd second
either_dual Always Never first Never (Kept d) second = absurd second
either_dual Always Never first (Kept c) Always second = absurd second
either_dual Always Never first (Kept c) Never second = absurd second
either_dual Never Always first Always Always second = absurd second
either_dual Never Always first Always (Kept d) second = absurd second
either_dual Never Always first Never Never second = absurd second
either_dual Never Always first Never (Kept d) second = absurd second
either_dual Never Always first (Kept c) Always second = absurd second
either_dual Never Always first (Kept c) Never second = absurd second
either_dual (Kept a) (Kept b) first Always Always second = absurd second
either_dual (Kept a) (Kept b) first Always (Kept d) second = absurd second
either_dual (Kept a) (Kept b) first Never Never second = absurd second
either_dual (Kept a) (Kept b) first Never (Kept d) second = absurd second
either_dual (Kept a) (Kept b) first (Kept c) Always second = absurd second
either_dual (Kept a) (Kept b) first (Kept c) Never second = absurd second

-- ---- lists that follow each other, and all pairs

module _ {A : Type 0} (P : A → Type 0) where
  some_left : (xs ys : List A) → SomeOf P xs → SomeOf P (xs ++ ys)
  some_left [] ys h = absurd h
  some_left (x ∷ xs) ys (inl p) = inl p
  some_left (x ∷ xs) ys (inr h) = inr (some_left xs ys h)

  some_right : (xs ys : List A) → SomeOf P ys → SomeOf P (xs ++ ys)
  some_right [] ys h = h
  some_right (x ∷ xs) ys h = inr (some_right xs ys h)

  pub each_both : (xs ys : List A) → EachOf P xs → EachOf P ys → EachOf P (xs ++ ys)
  each_both [] ys h k = k
  each_both (x ∷ xs) ys h k = (h.0, each_both xs ys h.1 k)

  each_first : (xs ys : List A) → EachOf P (xs ++ ys) → EachOf P xs
  each_first [] ys h = tt
  each_first (x ∷ xs) ys h = (h.0, each_first xs ys h.1)

  each_second : (xs ys : List A) → EachOf P (xs ++ ys) → EachOf P ys
  each_second [] ys h = h
  each_second (x ∷ xs) ys h = each_second xs ys h.1

  some_either : (xs ys : List A) → SomeOf P (xs ++ ys) → SomeOf P xs ⊎ SomeOf P ys
  some_either [] ys h = inr h
  some_either (x ∷ xs) ys (inl p) = inl (inl p)
  some_either (x ∷ xs) ys (inr h) = ⊎_elim (λ left. inl (inr left)) (λ right. inr right) (some_either xs ys h)

some_map : {A : Type 0} (P Q : A → Type 0) → ((x : A) → P x → Q x) → (xs : List A) → SomeOf P xs → SomeOf Q xs
some_map P Q f [] h = absurd h
some_map P Q f (x ∷ xs) (inl p) = inl (f x p)
some_map P Q f (x ∷ xs) (inr h) = inr (some_map P Q f xs h)

each_map : {A : Type 0} (P Q : A → Type 0) → ((x : A) → P x → Q x) → (xs : List A) → EachOf P xs → EachOf Q xs
each_map P Q f [] h = tt
each_map P Q f (x ∷ xs) h = (f x h.0, each_map P Q f xs h.1)

-- a conjunction that is longer excludes as much
excludes_first : (rows xs ys : List Row) → Excludes rows xs → Excludes rows (xs ++ ys)
excludes_first rows xs ys h = some_map (λ row. SomeOf (IsComplement row) xs) (λ row. SomeOf (IsComplement row) (xs ++ ys)) (λ row k. some_left (IsComplement row) xs ys k) rows h

excludes_second : (rows xs ys : List Row) → Excludes rows ys → Excludes rows (xs ++ ys)
excludes_second rows xs ys h = some_map (λ row. SomeOf (IsComplement row) ys) (λ row. SomeOf (IsComplement row) (xs ++ ys)) (λ row k. some_right (IsComplement row) xs ys k) rows h

longer_excludes : (xs ys others : List Row) → Excludes xs others → Excludes (xs ++ ys) others
longer_excludes xs ys others h = some_left (λ row. SomeOf (IsComplement row) others) xs ys h

later_excludes : (xs ys others : List Row) → Excludes ys others → Excludes (xs ++ ys) others
later_excludes xs ys others h = some_right (λ row. SomeOf (IsComplement row) others) xs ys h

-- what holds of some, or each, of all pairs
module _ (P : List Row → Type 0) where
  some_with_each : (rows : List Row) (ys : List (List Row)) → ((other : List Row) → P other → P (rows ++ other)) → SomeOf P ys → SomeOf P (map (λ other. rows ++ other) ys)
  some_with_each rows [] f h = absurd h
  some_with_each rows (other ∷ ys) f (inl p) = inl (f other p)
  some_with_each rows (other ∷ ys) f (inr h) = inr (some_with_each rows ys f h)

  each_with_each : (Q : List Row → Type 0) (rows : List Row) (ys : List (List Row)) → ((other : List Row) → Q other → P (rows ++ other)) → EachOf Q ys → EachOf P (map (λ other. rows ++ other) ys)
  each_with_each Q rows [] f h = tt
  each_with_each Q rows (other ∷ ys) f h = (f other h.0, each_with_each Q rows ys f h.1)

  pub each_pair : (Q R : List Row → Type 0) → ((rows other : List Row) → Q rows → R other → P (rows ++ other)) → (xs ys : List (List Row)) → EachOf Q xs → EachOf R ys → EachOf P (pairs xs ys)
  each_pair Q R f [] ys h k = tt
  each_pair Q R f (rows ∷ xs) ys h k =
      each_both P (map (λ other. rows ++ other) ys) (pairs xs ys) (each_with_each R rows ys (λ other r. f rows other h.0 r) k) (each_pair Q R f xs ys h.1 k)

each_any : (xs : List (List Row)) → EachOf (λ (rows : List Row). ⊤) xs
each_any [] = tt
each_any (rows ∷ xs) = (tt, each_any xs)

-- a conjunction of each list that holds whole, in all pairs
holds_pair : (p : Row → Bool) (xs ys : List (List Row)) → SomeOf (HoldsWhole p) xs → SomeOf (HoldsWhole p) ys → SomeOf (HoldsWhole p) (pairs xs ys)
holds_pair p [] ys h k = absurd h
holds_pair p (rows ∷ xs) ys (inl whole) k =
    some_left (HoldsWhole p) (map (λ other. rows ++ other) ys) (pairs xs ys)
    (some_with_each (HoldsWhole p) rows ys (λ other r. each_both (λ other. (row : Row) × IsTrue (p row) × IsComplement row other) rows other whole r) k)
holds_pair p (rows ∷ xs) ys (inr h) k = some_right (HoldsWhole p) (map (λ other. rows ++ other) ys) (pairs xs ys) (holds_pair p xs ys h k)

-- ---- what is refuted in all pairs is refuted in one of the lists

refuted_or_not : (p : Row → Bool) (rows : List Row) → IsRefuted p rows ⊎ ¬ IsRefuted p rows
refuted_or_not p [] = inr (λ h. h)
refuted_or_not p (row ∷ rows) = ⊎_elim
    (λ (so : p row ≡ true). inl (inl so))
    (λ (not_so : p row ≡ false). ⊎_elim (λ later. inl (inr later)) (λ none. inr (λ h. ⊎_elim (λ (so : p row ≡ true). absurd (cc)) none h)) (refuted_or_not p rows))
    (true_or_false (p row))

refuted_with_each : (p : Row → Bool) (rows : List Row) (ys : List (List Row)) → ¬ IsRefuted p rows → EachOf (IsRefuted p) (map (λ other. rows ++ other) ys) → EachOf (IsRefuted p) ys
refuted_with_each p rows [] none h = tt
refuted_with_each p rows (other ∷ ys) none h =
    (⊎_elim (λ here. absurd (none here)) (λ there. there) (some_either (λ row. IsTrue (p row)) rows other h.0), refuted_with_each p rows ys none h.1)

refuted_pairs : (p : Row → Bool) (xs ys : List (List Row)) → EachOf (IsRefuted p) (pairs xs ys) → EachOf (IsRefuted p) xs ⊎ EachOf (IsRefuted p) ys
refuted_pairs p [] ys h = inl tt
refuted_pairs p (rows ∷ xs) ys h = ⊎_elim
    (λ here. ⊎_elim (λ left. inl (here, left)) (λ right. inr right) (refuted_pairs p xs ys (each_second (IsRefuted p) (map (λ other. rows ++ other) ys) (pairs xs ys) h)))
    (λ none. inr (refuted_with_each p rows ys none (each_first (IsRefuted p) (map (λ other. rows ++ other) ys) (pairs xs ys) h)))
    (refuted_or_not p rows)

-- ---- `&&` and `||` of dual lists

pub pairs_dual : (xs ys us vs : List (List Row)) → AreDual xs us → AreDual ys vs → AreDual (pairs xs ys) (us ++ vs)
pairs_dual xs ys us vs first second = record {
  exclude = each_pair (λ rows. EachOf (Excludes rows) (us ++ vs)) (λ rows. EachOf (Excludes rows) us) (λ rows. EachOf (Excludes rows) vs)
      (λ rows other h k. each_both (Excludes (rows ++ other)) us vs
      (each_map (Excludes rows) (Excludes (rows ++ other)) (λ o e. longer_excludes rows other o e) us h)
      (each_map (Excludes other) (Excludes (rows ++ other)) (λ o e. later_excludes rows other o e) vs k))
      xs ys first.exclude second.exclude;
  hold = λ p h. ⊎_elim
      (λ left. some_left (HoldsWhole p) us vs (first.hold p left))
      (λ right. some_right (HoldsWhole p) us vs (second.hold p right))
      (refuted_pairs p xs ys h);
}

pub joined_dual : (xs ys us vs : List (List Row)) → AreDual xs us → AreDual ys vs → AreDual (xs ++ ys) (pairs us vs)
joined_dual xs ys us vs first second = record {
  exclude = each_both (λ rows. EachOf (Excludes rows) (pairs us vs)) xs ys
      (each_map (λ rows. EachOf (Excludes rows) us) (λ rows. EachOf (Excludes rows) (pairs us vs))
      (λ rows h. each_pair (Excludes rows) (Excludes rows) (λ (o : List Row). ⊤) (λ u v e k. excludes_first rows u v e) us vs h (each_any vs)) xs first.exclude)
      (each_map (λ rows. EachOf (Excludes rows) vs) (λ rows. EachOf (Excludes rows) (pairs us vs))
      (λ rows h. each_pair (Excludes rows) (λ (o : List Row). ⊤) (Excludes rows) (λ u v k e. excludes_second rows u v e) us vs (each_any us) h) ys second.exclude);
  hold = λ p h. holds_pair p us vs
      (first.hold p (each_first (IsRefuted p) xs ys h))
      (second.hold p (each_second (IsRefuted p) xs ys h));
}
