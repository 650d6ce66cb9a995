-- What a test asks of which just one outcome is possible at each store: the rows of its own conjunctions, and of its ends those of one
-- outcome.
use Rattle.std.proofs.Common.{◌≡◌, ◌⊎◌, inl, inr, Bool, true, false, ◌&&◌, ◌||◌, cond, List, [], ◌∷◌, ◌++◌, Option, None, Some, refl, sym, ap, subst, ◌∙◌}
use Rattle.linear_cons.specs.Functions.{complement_of}
use Rattle.linear_cons.specs.Rows.{complement}
use Rattle.linear_cons.specs.Settling.{functions_of_rows, settled, settles}
use Rattle.linear_cons.specs.declared.row.Row.{Row}
use Rattle.linear_cons.proofs.Places.{length-at_places}
use Rattle.linear_forms.specs.Duality.{AreDual, EachOf, Excludes, HoldsWhole, IsComplement, IsRefuted, SomeOf}
use Rattle.tree_unify.specs.Shapes.{OnSide}
use Rattle.backward_transfer.specs.Tests.{FailureAsks, RowsAsk, Side, TestAsks, TriesAsk, all_held, is_held, is_refuted, not_refuted, one_held, one_refuted}
use Rattle.unroll.proofs.Agreeing.{AreAgreeing, Extends, SomeTells, complement_twice, held_settles, last_told, more_agree, none_agree, or_right, refuted_settles, settled_held, settled_refuted, some_kept, some_told, told_some, untold, unturned}
use Rattle.unroll.proofs.SpreadRows.{IsLong}

-- ---- what the path tells of a conjunction

-- the path tells the row, or its complement
abbrev pub Held : List Row → Row → Type 0
Held way row = SomeTells way row.affine

abbrev pub Turned : List Row → Row → Type 0
Turned way row = SomeTells way (complement_of row.affine)

pub turned_on : (path way : List Row) → Extends path way → (rows : List Row) → SomeOf (Turned path) rows → SomeOf (Turned way) rows
turned_on path way on [] some = some
turned_on path way on (row ∷ rest) (inl here) = inl (on (complement_of row.affine) here)
turned_on path way on (row ∷ rest) (inr later) = inr (turned_on path way on rest later)

pub side_by : (P : Option Bool → Type 0) (t : Option Bool) → (t ≡ Some true → P (Some true)) → (t ≡ Some false → P (Some false)) → (t ≡ None → P None) → P t
side_by P (Some true) here there both = here refl
side_by P (Some false) here there both = there refl
side_by P None here there both = both refl

-- both ways on from a row that isn't settled
module _ (path : List Row) (row : Row) (own : IsLong row) (agree : AreAgreeing path) (none : settles path row ≡ None) where
  pub down_agrees : AreAgreeing (path ++ row ∷ [])
  down_agrees = more_agree path row own agree (unturned path row none)

  pub turned_agrees : AreAgreeing (path ++ complement row ∷ [])
  turned_agrees =
      more_agree path (complement row) (length-at_places _) agree
      (λ some. untold path row none (subst (SomeTells path) (complement_twice row.affine own) some))

-- ---- dual lists: where the one holds the other is refuted, and where it is refuted the other holds

module _ (way : List Row) (agree : AreAgreeing way) where
  and_false : (a b : Bool) → b ≡ false → (a && b) ≡ false
  and_false true b is = is
  and_false false b is = refl

  refuted_at : (row : Row) → IsLong row → Held way row → (others : List Row) → SomeOf (IsComplement row) others → (one_refuted way others ≡ true) × (all_held way others ≡ false)
  refuted_at row long held [] some = absurd some
  refuted_at row long held (other ∷ rest) (inl is) =
      let back : complement_of other.affine ≡ row.affine = ap complement_of is ∙ complement_twice row.affine long in
      let settle : settles way other ≡ Some false =
      refuted_settles way other (λ some. agree.apart row held (subst (SomeTells way) is some)) (subst (SomeTells way) (sym back) held) in
      (ap (λ t. is_refuted t || one_refuted way rest) settle, ap (λ t. is_held t && all_held way rest) settle)
  refuted_at row long held (other ∷ rest) (inr later) =
      let more = refuted_at row long held rest later in
      (or_right (is_refuted (settles way other)) (one_refuted way rest) more.0, and_false (is_held (settles way other)) (all_held way rest) more.1)

  excluded : (rows others : List Row) → EachOf IsLong rows → EachOf (Held way) rows → Excludes rows others → (one_refuted way others ≡ true) × (all_held way others ≡ false)
  excluded [] others long held some = absurd some
  excluded (row ∷ rest) others long held (inl here) = refuted_at row long.0 held.0 others here
  excluded (row ∷ rest) others long held (inr later) = excluded rest others long.1 held.1 later

  none_left : (rows : List Row) → EachOf IsLong rows → EachOf (Held way) rows → (fails : List (List Row)) → EachOf (Excludes rows) fails
      → (not_refuted way fails ≡ []) × (one_held way fails ≡ false)
  none_left rows long held [] each = (refl, refl)
  none_left rows long held (others ∷ rest) each =
      let here = excluded rows others long held each.0 in
      let more = none_left rows long held rest each.1 in
      (ap (λ t. cond t (not_refuted way rest) (others ∷ not_refuted way rest)) here.0 ∙ more.0, ap (λ t. t || one_held way rest) here.1 ∙ more.1)

  -- where some conjunction of the one holds, each of the other is refuted
  pub some_left : (holds fails : List (List Row)) → EachOf (EachOf IsLong) holds → EachOf (λ rows. EachOf (Excludes rows) fails) holds → SomeOf (EachOf (Held way)) holds
      → (not_refuted way fails ≡ []) × (one_held way fails ≡ false)
  some_left [] fails long each some = absurd some
  some_left (rows ∷ rest) fails long each (inl here) = none_left rows long.0 here fails each.0
  some_left (rows ∷ rest) fails long each (inr later) = some_left rest fails long.1 each.1 later

  abbrev pub refuted : Row → Bool
  refuted row = settled (functions_of_rows way) (complement_of row.affine)

  turned_refuted : (rows : List Row) → SomeOf (Turned way) rows → IsRefuted refuted rows
  turned_refuted [] some = some
  turned_refuted (row ∷ rest) (inl here) = inl (some_told way (complement_of row.affine) here)
  turned_refuted (row ∷ rest) (inr later) = inr (turned_refuted rest later)

  pub each_refuted : (holds : List (List Row)) → EachOf (SomeOf (Turned way)) holds → EachOf (IsRefuted refuted) holds
  each_refuted [] each = tt
  each_refuted (rows ∷ rest) each = (turned_refuted rows each.0, each_refuted rest each.1)

  whole_held : (others : List Row) → HoldsWhole refuted others → all_held way others ≡ true
  whole_held [] whole = refl
  whole_held (other ∷ rest) whole =
      let told : SomeTells way other.affine = subst (SomeTells way) (sym whole.0.2) (told_some way (complement_of whole.0.0.affine) whole.0.1) in
      ap (λ t. is_held t && all_held way rest) (held_settles way other told) ∙ whole_held rest whole.1

  -- where each is refuted, some conjunction of the other holds
  pub some_held : (fails : List (List Row)) → SomeOf (HoldsWhole refuted) fails → one_held way fails ≡ true
  some_held [] some = absurd some
  some_held (others ∷ rest) (inl here) = ap (λ t. t || one_held way rest) (whole_held others here)
  some_held (others ∷ rest) (inr later) = or_right (all_held way others) (one_held way rest) (some_held rest later)

-- ---- what is asked

module _ (Asks : Row → Type 0) where
  asked_asks : (rows : List Row) (Holds Fails : List Row → Type 0) (path : List Row) → AreAgreeing path → EachOf IsLong rows → EachOf Asks rows
      → ((way : List Row) → AreAgreeing way → Extends path way → EachOf (Held way) rows → Holds way)
      → ((way : List Row) → AreAgreeing way → Extends path way → SomeOf (Turned way) rows → Fails way) → RowsAsk Asks rows Holds Fails path
  asked_asks [] Holds Fails path agree long own first second = first path agree (λ a some. some) tt
  asked_asks (row ∷ rest) Holds Fails path agree long own first second =
      side_by
      (λ t. OnSide t (RowsAsk Asks rest Holds Fails path) (Fails path)
      (RowsAsk Asks rest Holds Fails (path ++ row ∷ []) × Asks row × Fails (path ++ complement row ∷ [])))
      (settles path row)
      (λ is. asked_asks rest Holds Fails path agree long.1 own.1 (λ way fair on each. first way fair on (on row.affine (settled_held path row is), each))
      (λ way fair on one. second way fair on (inr one)))
      (λ is. second path agree (λ a some. some) (inl (settled_refuted path row is)))
      (λ none. (
        asked_asks rest Holds Fails (path ++ row ∷ []) (down_agrees path row long.0 agree none) long.1 own.1
            (λ way fair on each. first way fair (λ a some. on a (some_kept path (row ∷ []) a some)) (on row.affine (last_told path row), each))
            (λ way fair on one. second way fair (λ a some. on a (some_kept path (row ∷ []) a some)) (inr one)),
        own.0,
        second (path ++ complement row ∷ []) (turned_agrees path row long.0 agree none) (λ a some. some_kept path (complement row ∷ []) a some) (inl (last_told path (complement row))),
      ))

  tried_asks : (conjunctions : List (List Row)) (Found : Bool → List Row → Type 0) (path : List Row) → AreAgreeing path → EachOf (EachOf IsLong) conjunctions
      → EachOf (EachOf Asks) conjunctions
      → ((way : List Row) → AreAgreeing way → Extends path way → SomeOf (EachOf (Held way)) conjunctions → Found true way)
      → ((way : List Row) → AreAgreeing way → Extends path way → EachOf (SomeOf (Turned way)) conjunctions → Found false way)
      → TriesAsk Asks conjunctions Found path
  tried_asks [] Found path agree long own first second = second path agree (λ a some. some) tt
  tried_asks (rows ∷ rest) Found path agree long own first second =
      asked_asks rows (Found true) (TriesAsk Asks rest Found) path agree long.0 own.0
      (λ way fair on each. first way fair on (inl each))
      (λ way fair on one. tried_asks rest Found way fair long.1 own.1
      (λ further far beyond some. first further far (λ a told. beyond a (on a told)) (inr some))
      (λ further far beyond each. second further far (λ a told. beyond a (on a told)) (turned_on way further beyond rows one, each)))

  -- of the rows of the test, and of the ends where just one outcome is possible
  pub dual_asks : (Enabled : Bool → Bool → Type 0) (holds fails : List (List Row)) → EachOf (EachOf IsLong) holds → AreDual holds fails → EachOf (EachOf Asks) holds
      → Enabled true false → Enabled false true → TestAsks Asks Enabled fails holds
  dual_asks Enabled holds fails long dual own one other =
      tried_asks holds (FailureAsks Asks Enabled fails) [] none_agree long own
      (λ way fair on some.
      let left = some_left way fair holds fails long dual.exclude some in
      subst (λ t. Side t (Enabled true true) (TriesAsk Asks (not_refuted way fails) (λ u on. Enabled true u) way)) (sym left.1)
      (subst (λ list. TriesAsk Asks list (λ u on. Enabled true u) way) (sym left.0) one))
      (λ way fair on each.
      let some = some_held way fair fails (dual.hold (refuted way fair) (each_refuted way fair holds each)) in
      subst (λ t. Side t (Enabled false true) (TriesAsk Asks (not_refuted way fails) (λ u on. Enabled false u) way)) (sym some) other)

-- ---- a test, and its failure: a whole `?`, or one of which just one outcome is possible at each store

pub record IsExact (P : Row → Type 0) (holds fails : List (List Row)) : Type 0 where
  pub long : EachOf (EachOf IsLong) holds
  pub dual : AreDual holds fails
  pub rows : EachOf (EachOf P) holds

abbrev pub IsAsked : (Row → Type 0) → List (List Row) → List (List Row) → Type 0
IsAsked P holds fails = ((holds ≡ [] ∷ []) × (fails ≡ [] ∷ [])) ⊎ IsExact P holds fails

module _ (P Asks : Row → Type 0) (asks : (row : Row) → P row → Asks row) where
  rows_ask : (rows : List Row) → EachOf P rows → EachOf Asks rows
  rows_ask [] each = tt
  rows_ask (row ∷ rest) each = (asks row each.0, rows_ask rest each.1)

  pub all_ask : (list : List (List Row)) → EachOf (EachOf P) list → EachOf (EachOf Asks) list
  all_ask [] each = tt
  all_ask (rows ∷ rest) each = (rows_ask rows each.0, all_ask rest each.1)

  -- what it asks, where it is so of its rows and at its ends
  pub ask_each : (Enabled : Bool → Bool → Type 0) → ((t u : Bool) → Enabled t u) → (holds fails : List (List Row)) → IsAsked P holds fails → TestAsks Asks Enabled fails holds
  ask_each Enabled ends holds fails (inl whole) =
      subst (λ list. TestAsks Asks Enabled fails list) (sym whole.0) (subst (λ list. TestAsks Asks Enabled list ([] ∷ [])) (sym whole.1) (ends true true))
  ask_each Enabled ends holds fails (inr exact) =
      dual_asks Asks Enabled holds fails exact.long exact.dual (all_ask holds exact.rows) (ends true false) (ends false true)
