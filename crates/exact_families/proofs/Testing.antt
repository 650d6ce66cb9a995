-- Where a judge stands before a test of which just one outcome is possible.
use Rattle.std.proofs.Common.{◌≡◌, ◌↔◌, ◌⊎◌, inl, inr, ⊎_elim, Bool, true, false, not, ◌&&◌, ◌||◌, cond, List, [], ◌∷◌, ◌++◌, Option, None, Some, IsTrue, refl, sym, ap, ◌∙◌}
use Rattle.std.proofs.lemmas.Bool.{false≢true}
use Rattle.linear_cons.specs.declared.affine.Affine.{Affine}
use Rattle.linear_cons.specs.declared.row.Row.{Row}
use Rattle.linear_cons.specs.Rows.{complement}
use Rattle.linear_cons.specs.Settling.{settles}
use Rattle.linear_forms.specs.Duality.{AreDual, EachOf, Excludes, HoldsWhole, IsComplement, IsRefuted, SomeOf}
use Rattle.decision_tree.specs.Nodes.{node}
use Rattle.decision_tree.specs.Plans.{Plan}
use Rattle.decision_tree.specs.Alternatives.{Alternatives}
use Rattle.tree_unify.specs.Shapes.{on_side}
use Rattle.backward_transfer.specs.Tests.{all_held, enabled, failure_tried, is_held, is_refuted, not_refuted, one_held, one_refuted, rows_asked, tested, tried}
use Rattle.exact_families.proofs.Judges.{GrantsOne, GrantsRows, IsJudge, judged}
use Rattle.exact_families.proofs.Judging.{Grants, granted, grants_more, grants_none, node_no, node_yes, refused, true_or_not, turned_false, turned_true}

-- ---- one outcome

module _ (v : Affine → Bool) (is : IsJudge v) where
  excluded_row : (row : Row) → v row.affine ≡ true → (others : List Row) → SomeOf (IsComplement row) others → GrantsRows v others → ⊥
  excluded_row row own [] some grants = some
  excluded_row row own (other ∷ rest) (inl here) grants =
      false≢true (sym (turned_true v is row.affine (ap v (sym here) ∙ grants.0)) ∙ own)
  excluded_row row own (other ∷ rest) (inr later) grants = excluded_row row own rest later grants.1

  excluded : (rows others : List Row) → Excludes rows others → GrantsRows v rows → GrantsRows v others → ⊥
  excluded [] others some own grants = some
  excluded (row ∷ rest) others (inl here) own grants = excluded_row row own.0 others here grants
  excluded (row ∷ rest) others (inr later) own grants = excluded rest others later own.1 grants

  excluded_each : (rows : List Row) (fails : List (List Row)) → EachOf (Excludes rows) fails → GrantsRows v rows → GrantsOne v fails → ⊥
  excluded_each rows [] each own some = some
  excluded_each rows (others ∷ rest) each own (inl here) = excluded rows others each.0 own here
  excluded_each rows (others ∷ rest) each own (inr later) = excluded_each rows rest each.1 own later

  -- not both
  pub not_both : (holds fails : List (List Row)) → EachOf (λ rows. EachOf (Excludes rows) fails) holds → GrantsOne v holds → GrantsOne v fails → ⊥
  not_both [] fails each some other = some
  not_both (rows ∷ rest) fails each (inl here) other = excluded_each rows fails each.0 here other
  not_both (rows ∷ rest) fails each (inr later) other = not_both rest fails each.1 later other

  abbrev against : Row → Bool
  against row = not (v row.affine)

  rows_or_not : (rows : List Row) → GrantsRows v rows ⊎ IsRefuted against rows
  rows_or_not [] = inl tt
  rows_or_not (row ∷ rest) =
      ⊎_elim (λ held. ⊎_elim (λ each. inl (held, each)) (λ some. inr (inr some)) (rows_or_not rest)) (λ lost. inr (inl (ap not lost))) (true_or_not (v row.affine))

  one_or_not : (holds : List (List Row)) → GrantsOne v holds ⊎ EachOf (IsRefuted against) holds
  one_or_not [] = inr tt
  one_or_not (rows ∷ rest) =
      ⊎_elim (λ here. inl (inl here)) (λ lost. ⊎_elim (λ some. inl (inr some)) (λ each. inr (lost, each)) (one_or_not rest)) (rows_or_not rows)

  not_true : (t : Bool) → not t ≡ true → t ≡ false
  not_true true own = absurd (false≢true own)
  not_true false own = refl

  whole_granted : (others : List Row) → HoldsWhole against others → GrantsRows v others
  whole_granted [] whole = tt
  whole_granted (other ∷ rest) whole =
      let here = whole.0 in
      (ap v here.2 ∙ turned_false v is here.0.affine (not_true (v here.0.affine) here.1), whole_granted rest whole.1)

  some_granted : (fails : List (List Row)) → SomeOf (HoldsWhole against) fails → GrantsOne v fails
  some_granted [] some = some
  some_granted (others ∷ rest) (inl here) = inl (whole_granted others here)
  some_granted (others ∷ rest) (inr later) = inr (some_granted rest later)

  -- and one of them
  pub one_of_both : (holds fails : List (List Row)) → AreDual holds fails → GrantsOne v holds ⊎ GrantsOne v fails
  one_of_both holds fails dual = ⊎_elim (λ some. inl some) (λ each. inr (some_granted fails (dual.hold against each))) (one_or_not holds)

  -- ---- what the way settles

  held_row : (path : List Row) (row : Row) → is_held (settles path row) ≡ true → Grants v path → v row.affine ≡ true
  held_row path row own grants = at (settles path row) refl own
    where
      at : (t : Option Bool) → settles path row ≡ t → is_held t ≡ true → v row.affine ≡ true
      at (Some true) settle own = granted v is path row settle grants
      at (Some false) settle own = absurd (cc)
      at None settle own = absurd (cc)

  refuted_row : (path : List Row) (row : Row) → is_refuted (settles path row) ≡ true → Grants v path → v row.affine ≡ false
  refuted_row path row own grants = at (settles path row) refl own
    where
      at : (t : Option Bool) → settles path row ≡ t → is_refuted t ≡ true → v row.affine ≡ false
      at (Some true) settle own = absurd (cc)
      at (Some false) settle own = refused v is path row settle grants
      at None settle own = absurd (cc)

  and_both : (a b : Bool) → (a && b) ≡ true → (a ≡ true) × (b ≡ true)
  and_both true b own = (refl, own)
  and_both false b own = absurd (cc)

  or_one : (a b : Bool) → (a || b) ≡ true → (a ≡ true) ⊎ (b ≡ true)
  or_one true b own = inl refl
  or_one false b own = inr own

  module _ (path : List Row) (grants : Grants v path) where
    held_rows : (rows : List Row) → all_held path rows ≡ true → GrantsRows v rows
    held_rows [] own = tt
    held_rows (row ∷ rest) own = let parts = and_both (is_held (settles path row)) (all_held path rest) own in (held_row path row parts.0 grants, held_rows rest parts.1)

    refuted_rows : (rows : List Row) → one_refuted path rows ≡ true → GrantsRows v rows → ⊥
    refuted_rows [] own met = absurd (cc)
    refuted_rows (row ∷ rest) own met =
        ⊎_elim (λ here. false≢true (sym (refuted_row path row here grants) ∙ met.0)) (λ later. refuted_rows rest later met.1) (or_one (is_refuted (settles path row)) (one_refuted path rest) own)

    held_one : (fails : List (List Row)) → one_held path fails ≡ true → GrantsOne v fails
    held_one [] own = absurd (cc)
    held_one (rows ∷ rest) own = ⊎_elim (λ here. inl (held_rows rows here)) (λ later. inr (held_one rest later)) (or_one (all_held path rows) (one_held path rest) own)

    left_at : (t : Bool) (rows : List Row) (left rest : List (List Row)) → one_refuted path rows ≡ t → (GrantsOne v left ↔ GrantsOne v rest)
        → GrantsOne v (cond t left (rows ∷ left)) ↔ GrantsOne v (rows ∷ rest)
    left_at true rows left rest own same = (λ met. inr (same.0 met), λ met. ⊎_elim (λ here. absurd (refuted_rows rows own here)) (λ later. same.1 later) met)
    left_at false rows left rest own same = (λ met. ⊎_elim (λ here. inl here) (λ later. inr (same.0 later)) met, λ met. ⊎_elim (λ here. inl here) (λ later. inr (same.1 later)) met)

    left_met : (fails : List (List Row)) → GrantsOne v (not_refuted path fails) ↔ GrantsOne v fails
    left_met [] = (λ met. met, λ met. met)
    left_met (rows ∷ rest) = left_at (one_refuted path rows) rows (not_refuted path rest) rest refl (left_met rest)

module _ {R : Type 0} (same : R → R → Bool) (alike : (rank other : R) → IsTrue (same rank other) ↔ (rank ≡ other)) (v : Affine → Bool) (is : IsJudge v) (target : Plan R) where
  row_stands : (row : Row) (rest : List Row) (holds fails : List Row → Plan R) (path : List Row) (t : Option Bool) → settles path row ≡ t → Grants v path
      → (v row.affine ≡ true → (way : List Row) → Grants v way → judged v (rows_asked same rest holds fails way) ≡ target)
      → (v row.affine ≡ false → (way : List Row) → Grants v way → judged v (fails way) ≡ target)
      → judged v (on_side t (rows_asked same rest holds fails path) (fails path) (node same row (rows_asked same rest holds fails (path ++ row ∷ [])) (fails (path ++ complement row ∷ [])))) ≡ target
  row_stands row rest holds fails path (Some true) settle grants here there = here (granted v is path row settle grants) path grants
  row_stands row rest holds fails path (Some false) settle grants here there = there (refused v is path row settle grants) path grants
  row_stands row rest holds fails path None settle grants here there =
      ⊎_elim
      (λ held. node_yes same alike v row _ _ held ∙ here held (path ++ row ∷ []) (grants_more v is path row grants held))
      (λ lost. node_no same alike v row _ _ lost ∙ there lost (path ++ complement row ∷ []) (grants_more v is path (complement row) grants (turned_false v is row.affine lost)))
      (true_or_not (v row.affine))

  rows_stand : (rows : List Row) (holds fails : List Row → Plan R) (path : List Row)
      → (GrantsRows v rows → (way : List Row) → Grants v way → judged v (holds way) ≡ target)
      → ((GrantsRows v rows → ⊥) → (way : List Row) → Grants v way → judged v (fails way) ≡ target)
      → Grants v path → judged v (rows_asked same rows holds fails path) ≡ target
  rows_stand [] holds fails path met missed grants = met tt path grants
  rows_stand (row ∷ rest) holds fails path met missed grants =
      row_stands row rest holds fails path (settles path row) refl grants
      (λ held way on_way. rows_stand rest holds fails way (λ each. met (held, each)) (λ apart. missed (λ both. apart both.1)) on_way)
      (λ lost way on_way. missed (λ both. false≢true (sym lost ∙ both.0)) way on_way)

  tries_stand : (conjunctions : List (List Row)) (found : Bool → List Row → Plan R) (path : List Row)
      → (GrantsOne v conjunctions → (way : List Row) → Grants v way → judged v (found true way) ≡ target)
      → ((GrantsOne v conjunctions → ⊥) → (way : List Row) → Grants v way → judged v (found false way) ≡ target)
      → Grants v path → judged v (tried same conjunctions found path) ≡ target
  tries_stand [] found path met missed grants = missed (λ one. one) path grants
  tries_stand (rows ∷ rest) found path met missed grants =
      rows_stand rows (found true) (tried same rest found) path (λ each. met (inl each))
      (λ apart way on_way. tries_stand rest found way (λ one. met (inr one)) (λ none. missed (λ one. ⊎_elim (λ each. apart each) (λ later. none later) one)) on_way) grants

  module _ (where_greater : R → R → Alternatives) (greater_fits : R → R → Type 0) (one_more : R → R) (this that : Plan R) (fails : List (List Row)) where
    failure_stands : (holds : Bool) (path : List Row) → Grants v path
        → (GrantsOne v fails → judged v (enabled same where_greater greater_fits one_more this that holds true) ≡ target)
        → ((GrantsOne v fails → ⊥) → judged v (enabled same where_greater greater_fits one_more this that holds false) ≡ target)
        → judged v (failure_tried same where_greater greater_fits one_more this that fails holds path) ≡ target
    failure_stands holds path grants met missed = at (one_held path fails) refl
      where
        at : (t : Bool) → one_held path fails ≡ t
            → judged v (cond t (enabled same where_greater greater_fits one_more this that holds true) (tried same (not_refuted path fails) (λ other way. enabled same where_greater greater_fits one_more this that holds other) path)) ≡ target
        at true own = met (held_one v is path grants fails own)
        at false own =
            tries_stand (not_refuted path fails) (λ other way. enabled same where_greater greater_fits one_more this that holds other) path
            (λ one way on_way. met ((left_met v is path grants fails).0 one)) (λ none way on_way. missed (λ one. none ((left_met v is path grants fails).1 one))) grants

    -- before a test stands the leaf of the tree of the outcomes that the judge grants
    pub test_stands : (holds : List (List Row))
        → (GrantsOne v holds → GrantsOne v fails → judged v (enabled same where_greater greater_fits one_more this that true true) ≡ target)
        → (GrantsOne v holds → (GrantsOne v fails → ⊥) → judged v (enabled same where_greater greater_fits one_more this that true false) ≡ target)
        → ((GrantsOne v holds → ⊥) → GrantsOne v fails → judged v (enabled same where_greater greater_fits one_more this that false true) ≡ target)
        → ((GrantsOne v holds → ⊥) → (GrantsOne v fails → ⊥) → judged v (enabled same where_greater greater_fits one_more this that false false) ≡ target)
        → judged v (tested same where_greater greater_fits one_more this that holds fails) ≡ target
    test_stands holds both yes_alone no_alone neither =
        tries_stand holds (failure_tried same where_greater greater_fits one_more this that fails) []
        (λ one way on_way. failure_stands true way on_way (both one) (yes_alone one))
        (λ none way on_way. failure_stands false way on_way (no_alone none) (neither none))
        (grants_none v)
