-- Lists of rows that grow.
use Rattle.std.proofs.Common.{◌≡◌, ◌⊎◌, ◌<◌, ◌≤◌, ℤ, true, false, Bool, not, List, [], ◌∷◌, ◌++◌, length, Some, Contains, inl, inr, ⊎_elim, arith, refl, sym, subst, ◌∙◌}
use Rattle.std.proofs.Common.{◌+◌, ◌≤ℤ◌, pos, ℕ, cond, suc, zero, drop, get_or, take, ap}
use Rattle.std.specs.List.{filter, remove}
use Rattle.std.proofs.lemmas.List.Elements.{All-append, All-contains_itself, All-drop, All-filter, Contains-append_cases}
use Rattle.std.proofs.lemmas.List.Elements.{Contains-append_left, Contains-append_right}
use Rattle.std.proofs.lemmas.List.{length-append}
use Rattle.std.proofs.lemmas.List.Sums.{count_by-le-length, length-filter}
use Rattle.linear_cons.specs.declared.row.Row.{Row}
use Rattle.linear_cons.specs.Functions.{complement_of, value_at}
use Rattle.linear_cons.specs.Rows.{Meets, MeetsAll}
use Rattle.linear_cons.specs.Settling.{settles, tells}
use Rattle.linear_cons.proofs.RowLaws.{met_either}
use Rattle.linear_cons.proofs.Telling.{settled_row_fails, settled_row_holds, told_holds}
use Rattle.linear_solve.specs.Answers.{HasNoStore}
use Rattle.linear_solve.proofs.Lists.{all_of, member_of, take_snoc}
use Rattle.num_domain.proofs.LineLaws.{all_none, all_one}
use Rattle.poly_dom.specs.Lists.{AddsAll, AddsImplied, AreCommon, HasRoom, Imply, IsAdded}

-- ---- one row more

-- the one member of a list of one
only : {X : Type 0} (x y : X) → Contains (x ∷ []) y → y ≡ x
only x y (zero, low, is) = sym is
only x y (suc k, low, is) = absurd (omega (arith, low))

-- a row that the list tells adds nothing
pub added_told : (row : Row) (rows : List Row) → length rows ≤ 256 → settles rows row ≡ Some true → IsAdded row rows rows
added_told row rows few told = record {
  keeps = λ store met own. met;
  met = λ store met. settled_row_holds rows row store told met;
  inside = λ small store met. met;
  rest = λ full store met. All-drop (λ r. Meets store r) 1 rows met;
  among = λ other member. inl member;
  grows = omega arith;
  few = few;
}

-- a store that meets all of a list with one row more meets the front and the last
last_met : (store : List ℤ) (kept : List Row) (row : Row) → MeetsAll store (kept ++ row ∷ []) → Meets store row
last_met store kept row met = member_of (λ r. Meets store r) (kept ++ row ∷ []) row met
    (Contains-append_right kept (row ∷ []) row (0, omega arith, refl))

front_met : (store : List ℤ) (kept : List Row) (row : Row) → MeetsAll store (kept ++ row ∷ []) → MeetsAll store kept
front_met store kept row met = all_of (λ r. Meets store r) kept
    (λ other member. member_of (λ r. Meets store r) (kept ++ row ∷ []) other met (Contains-append_left kept (row ∷ []) other member))

-- a row behind some of the old ones, which imply the old ones with it, and of 256 all but the oldest
pub added_behind : (row : Row) (old kept : List Row) → ((other : Row) → Contains kept other → Contains old other)
    → (length old < 256 → (store : List ℤ) → MeetsAll store kept → Meets store row → MeetsAll store old)
    → (length old ≡ 256 → (store : List ℤ) → MeetsAll store kept → Meets store row → MeetsAll store (drop 1 old)) → length kept < 256
    → length kept ≤ length old → IsAdded row old (kept ++ row ∷ [])
added_behind row old kept are implied implied_rest few short = record {
  keeps = λ store met own. All-append (λ r. Meets store r) kept (row ∷ [])
      (all_of (λ r. Meets store r) kept (λ other member. member_of (λ r. Meets store r) old other met (are other member)))
      (all_one (λ r. Meets store r) row own);
  met = λ store met. last_met store kept row met;
  inside = λ small store met. implied small store (front_met store kept row met) (last_met store kept row met);
  rest = λ full store met. implied_rest full store (front_met store kept row met) (last_met store kept row met);
  among = λ other member. ⊎_elim (λ old. inl (are other old)) (λ one. inr (only row other one))
      (Contains-append_cases kept (row ∷ []) other member);
  grows = let long = length-append kept (row ∷ []) in omega (arith, long, short);
  few = let long = length-append kept (row ∷ []) in omega (arith, long, few);
}

-- ---- the rows that another doesn't tell

-- what passes a test is no more
filter_short : {X : Type 0} (p : X → Bool) (xs : List X) → length (filter p xs) ≤ length xs
filter_short p xs = let few = count_by-le-length p xs in let same = length-filter p xs in omega (arith, few, same)

-- the test that the row doesn't tell another
abbrev pub untold : Row → Row → Bool
untold row given = not (tells row.affine given.affine)

pub untold_in : (row : Row) (rows : List Row) (other : Row) → Contains (filter (untold row) rows) other → Contains rows other
untold_in row rows other member =
    member_of (Contains rows) (filter (untold row) rows) other
    (All-filter (untold row) (Contains rows) rows (All-contains_itself rows)) member

-- with the row they imply those that it tells
pub untold_met : (row : Row) (rows : List Row) (store : List ℤ) → MeetsAll store (filter (untold row) rows) → Meets store row
    → MeetsAll store rows
untold_met row [] store met own = all_none (λ r. Meets store r)
untold_met row (given ∷ rows) store met own =
    by (tells row.affine given.affine) refl met (λ kept. untold_met row rows store kept own)
  where
    by : (told : Bool) → tells row.affine given.affine ≡ told
        → MeetsAll store (cond (not told) (given ∷ filter (untold row) rows) (filter (untold row) rows))
        → (MeetsAll store (filter (untold row) rows) → MeetsAll store rows) → MeetsAll store (given ∷ rows)
    by true is kept rest = All-append (λ r. Meets store r) (given ∷ []) rows
        (all_one (λ r. Meets store r) given (told_holds row.affine given.affine store is own)) (rest kept)
    by false is kept rest = All-append (λ r. Meets store r) (given ∷ []) rows
        (all_one (λ r. Meets store r) given (kept 0 given (omega arith)))
        (rest (λ k d h. kept (suc k) d (omega (arith, h))))

-- where it tells none, with the row all but the oldest imply all but the oldest
untold_rest : (row : Row) (rows : List Row) (store : List ℤ) → length (filter (untold row) rows) ≡ length rows
    → MeetsAll store (drop 1 (filter (untold row) rows)) → Meets store row → MeetsAll store (drop 1 rows)
untold_rest row [] store whole met own = met
untold_rest row (given ∷ rows) store whole met own =
    by (tells row.affine given.affine) refl whole met
  where
    by : (told : Bool) → tells row.affine given.affine ≡ told
        → length (cond (not told) (given ∷ filter (untold row) rows) (filter (untold row) rows)) ≡ suc (length rows)
        → MeetsAll store (drop 1 (cond (not told) (given ∷ filter (untold row) rows) (filter (untold row) rows))) → MeetsAll store rows
    by true is long kept = absurd (let few = filter_short (untold row) rows in omega (arith, few, long))
    by false is long kept = untold_met row rows store kept own

-- the row behind those that it doesn't tell, where there is room
added_small : (row : Row) (old room : List Row) → room ≡ filter (untold row) old → length room < 256 → IsAdded row old (room ++ row ∷ [])
added_small row old room are few = added_behind row old room
    (λ other member. untold_in row old other (subst (λ rows. Contains rows other) are member))
    (λ small. all)
    (λ full store met own. All-drop (λ r. Meets store r) 1 old (all store met own))
    few
    (let short = filter_short (untold row) old in let same = ap length are in omega (arith, short, same))
  where
    all : (store : List ℤ) → MeetsAll store room → Meets store row → MeetsAll store old
    all store met own = untold_met row old store (subst (MeetsAll store) are met) own

-- the row behind all but the oldest, where it tells none of 256
added_full : (row : Row) (old room : List Row) → length (filter (untold row) old) ≡ 256
    → room ≡ drop 1 (filter (untold row) old) → length room < 256 → IsAdded row old (room ++ row ∷ [])
added_full row old room full are few = added_behind row old room
    (λ other member. untold_in row old other (member_of (Contains (filter (untold row) old)) (drop 1 (filter (untold row) old)) other
    (All-drop (Contains (filter (untold row) old)) 1 (filter (untold row) old) (All-contains_itself (filter (untold row) old)))
    (subst (λ rows. Contains rows other) are member)))
    (λ small. absurd (let short = filter_short (untold row) old in omega (arith, short, small, full)))
    (λ whole store met own. untold_rest row old store (full ∙ sym whole) (subst (MeetsAll store) are met) own)
    few
    (let short = filter_short (untold row) old in omega (arith, short, full, few))

-- the row behind those that it doesn't tell, once there is room
pub added_row : (row : Row) (old kept room new : List Row) → length old ≤ 256 → kept ≡ filter (untold row) old
    → HasRoom kept room → new ≡ room ++ row ∷ [] → IsAdded row old new
added_row row old kept room new fit are made is = subst (IsAdded row old) (sym is) (⊎_elim
    (λ (small : length kept < 256). added_small row old room (made.same small ∙ are) made.room)
    (λ (full : length kept ≡ 256). added_full row old room (ap length (sym are) ∙ full) (made.rest full ∙ ap (λ rows. drop 1 rows) are) made.room)
    (below_or_at (length kept) (let short = filter_short (untold row) old in let same = ap length are in omega (arith, short, same, fit))))
  where
    below_or_at : (n : ℕ) → n ≤ 256 → (n < 256) ⊎ (n ≡ 256)
    below_or_at n few = grind arith

-- a list without its oldest row
pub without_oldest : (old new : List Row) → new ≡ remove old 0 → length new + 1 ≡ length old → length old ≤ 256
    → 256 ≤ length old → HasRoom old new
without_oldest old new is less few full = record {
  room = omega (arith, less, few);
  same = λ small. absurd (omega (arith, small, full));
  rest = λ whole. is;
}

-- ---- several rows more

-- a list that grew by no row, and by one of the others more
pub adds_none : (old : List Row) → length old ≤ 256 → AddsAll [] old old
adds_none old few = record {
  keeps = λ store met all. met;
  inside = λ small store met. met;
  met = λ small store met. all_none (λ r. Meets store r);
  grows = omega arith;
  few = few;
}

adds_last : (seen old now new : List Row) (row : Row) → AddsAll seen old now → IsAdded row now new → AddsAll (seen ++ row ∷ []) old new
adds_last seen old now new row before added = record {
  keeps = λ store met all. added.keeps store (before.keeps store met (front_met store seen row all)) (last_met store seen row all);
  inside = λ small store met. before.inside (omega (arith, small, long)) store (added.inside (room small) store met);
  met = λ small store met. All-append (λ r. Meets store r) seen (row ∷ [])
      (before.met (omega (arith, small, long)) store (added.inside (room small) store met)) (all_one (λ r. Meets store r) row (added.met store met));
  grows = let more = added.grows in let own = before.grows in omega (arith, more, own, long);
  few = added.few;
}
  where
    long : length (seen ++ row ∷ []) ≡ length seen + 1
    long = length-append seen (row ∷ [])

    room : length old + length (seen ++ row ∷ []) ≤ 256 → length now < 256
    room small = let own = before.grows in omega (arith, small, long, own)

pub adds_more : (rows old now new : List Row) (i : ℕ) (row : Row) → i < length rows → row ≡ get_or rows i row → AddsAll (take i rows) old now
    → IsAdded row now new → AddsAll (take (i + 1) rows) old new
adds_more rows old now new i row low is before added =
    subst (λ seen. AddsAll seen old new) (sym (take_snoc rows i row low is)) (adds_last (take i rows) old now new row before added)

-- rows that are opposed to the one that is added leave no store, where none is given up
pub none_added : (row : Row) (old new : List Row) → IsAdded row old new → length old < 256 → settles old row ≡ Some false → HasNoStore new
none_added row old new added small opposed store met =
    settled_row_fails old row store opposed (added.inside small store met) (added.met store met)

-- the same where the given ones imply the row
pub implied_more : (rows given old now new : List Row) (row : Row) → Contains rows row → Imply given row
    → AddsImplied rows given old now → IsAdded row now new → AddsImplied rows given old new
implied_more rows given old now new row member implied before added = record {
  keeps = λ store met all. added.keeps store (before.keeps store met all) (member_of (λ r. Meets store r) rows row all member);
  keeps_given = λ store met all. added.keeps store (before.keeps_given store met all) (implied store all);
  among = λ other now. ⊎_elim (λ was. before.among other was) (λ one. inr (subst (Contains rows) (sym one) member)) (added.among other now);
  few = added.few;
}

-- a row of no list or of the other one is of the other one
pub one_of : (rows : List Row) (row : Row) → Contains [] row ⊎ Contains rows row → Contains rows row
one_of rows row either = ⊎_elim (λ (none : Contains [] row). absurd (omega (arith, none.1))) (λ one. one) either

-- what each list implies of the other's rows, one list after the other
pub common_of : (rows others first both : List Row) → AddsImplied rows others [] first → AddsImplied others rows first both
    → AreCommon rows others both
common_of rows others first both own other = record {
  own = λ store met. other.keeps_given store (own.keeps store (all_none (λ r. Meets store r)) met) met;
  other = λ store met. other.keeps store (own.keeps_given store (all_none (λ r. Meets store r)) met) met;
  among = λ row member. ⊎_elim (λ was. inl (one_of rows row (own.among row was))) (λ theirs. inr theirs) (other.among row member);
  few = other.few;
}

-- rows that no store meets together with a row's complement imply the row
pub implied_by_none : (rows both : List Row) (row complement : Row) → complement.affine ≡ complement_of row.affine
    → both ≡ rows ++ complement ∷ [] → HasNoStore both → Imply rows row
implied_by_none rows both row complement is all none store met = ⊎_elim (λ own. own)
    (λ other. absurd (none store (subst (MeetsAll store) (sym all) (All-append (λ r. Meets store r) rows (complement ∷ []) met
    (all_one (λ r. Meets store r) complement (subst (λ a. pos 0 ≤ℤ value_at a store) (sym is) other))))))
    (met_either row.affine store)
