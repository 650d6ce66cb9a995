-- What is hard of some of the rows, which imply the others, is hard of them all.
use Rattle.std.proofs.Common.{inl, inr, ⊎_elim, ℕ, ◌+◌, ◌*◌, ◌^◌, ◌≤◌, ℤ, pos, ◌<ℤ◌, List, [], ◌∷◌, ◌++◌, length, sym, subst, arith, append_assoc, Contains}
use Rattle.std.proofs.lemmas.List.{append-nil, length_push}
use Rattle.std.proofs.lemmas.List.Elements.{All-append, All-cons, All-nil, Contains-append_left, Contains-push, Contains-push_cases}
use Rattle.linear_cons.specs.declared.row.Row.{Row}
use Rattle.linear_cons.specs.Rows.{PointMeets, PointMeetsAll}
use Rattle.linear_cons.specs.declared.exact.Wide.{Wide}
use Rattle.linear_solve.specs.Answers.{IsAnswerTo, IsPointOf, MayOutgrow, MayOverflow}
use Rattle.linear_solve.specs.declared.answer.Answer.TheVariants as answer
use Rattle.linear_solve.specs.Systems.{IsOctagonRow, IsSized, occurring}
use Rattle.linear_solve.proofs.Lists.{all_of, member_of}
use Rattle.linear_solve.proofs.Modest.{power_le}
use Rattle.linear_solve.proofs.Occurring.{occurring_le, occurs_in, occurs_of}
use Rattle.linear_solve.proofs.Solved.{after_mono, after_more}
use Rattle.integer_point.specs.Hard.{IsHard, MayStop}
use Rattle.integer_point.specs.Splits.{AreSplits, IsSeen, IsSplit, IsWithin}
use Rattle.integer_point.specs.Wholes.{HasPointBetween, IsDeep}

-- some of the rows, which imply the others
pub record Cover (rows kept : List Row) : Type 0 where
  pub among : (row : Row) → Contains kept row → Contains rows row
  pub implies : (num : List ℤ) (den : ℤ) → pos 0 <ℤ den → PointMeetsAll num den kept → PointMeetsAll num den rows
  pub short : length kept ≤ length rows

module _ (rows kept : List Row) (cover : Cover rows kept) where
  point_kept : (num : List ℤ) (den : ℤ) → IsPointOf kept num den → IsPointOf rows num den
  point_kept num den point = record { positive = point.positive; meets = cover.implies num den point.positive point.meets }

  cover_more : (split : Row) → Cover (rows ++ split ∷ []) (kept ++ split ∷ [])
  cover_more split = record {
    among = λ row member. ⊎_elim
        (λ inside. Contains-append_left rows (split ∷ []) row (cover.among row inside))
        (λ is. subst (λ r. Contains (rows ++ split ∷ []) r) is (Contains-push rows split))
        (Contains-push_cases kept split row member);
    implies = λ num den positive met.
        let each : PointMeetsAll num den kept = all_of (λ r. PointMeets num den r) kept (λ r member. member_of (λ r. PointMeets num den r) (kept ++ split ∷ []) r met (Contains-append_left kept (split ∷ []) r member)) in
        let last : PointMeets num den split = member_of (λ r. PointMeets num den r) (kept ++ split ∷ []) split met (Contains-push kept split) in
        All-append (λ r. PointMeets num den r) rows (split ∷ []) (cover.implies num den positive each)
        (All-cons (λ r. PointMeets num den r) split [] last (All-nil (λ r. PointMeets num den r)));
    short = let short = cover.short in let one = length_push rows split in let two = length_push kept split in omega (arith, short, one, two);
  }

  split_kept : (split : Row) → IsSplit kept split → IsSplit rows split
  split_kept split is = record {
    place = is.place;
    whole = is.whole;
    fraction = record { num = is.fraction.num; den = is.fraction.den; meets = point_kept is.fraction.num is.fraction.den is.fraction.meets; fraction = is.fraction.fraction };
    side = is.side;
  }

  between_kept : HasPointBetween kept → HasPointBetween rows
  between_kept is = record {
    num = is.num;
    den = is.den;
    store = is.store;
    meets = point_kept is.num is.den is.meets;
    down = is.down;
    unmet = λ all. is.unmet (all_of (IsSeen is.store) kept (λ row member. member_of (IsSeen is.store) rows row all (cover.among row member)));
  }

  kept_occurs : occurring kept ≤ occurring rows
  kept_occurs = occurring_le 16 kept rows (λ i low is. let found = occurs_in i kept is in occurs_of i rows found.0 (cover.among found.0 found.1.0) found.1.1)

  stop_kept : MayStop kept → MayStop rows
  stop_kept stop = (
    (λ octagons. stop.0 (all_of (IsOctagonRow (2 ^ 64)) kept (λ row member. member_of (IsOctagonRow (2 ^ 64)) rows row octagons (cover.among row member)))),
    ⊎_elim
        (λ (large : MayOutgrow (occurring kept) kept). inl (λ bound sized.
        let more = large bound (all_of (IsSized bound) kept (λ row member. member_of (IsSized bound) rows row sized (cover.among row member))) in
        let few = kept_occurs in
        let grown : (34 * bound) ^ (2 ^ (occurring kept + 1)) ≤ (34 * bound) ^ (2 ^ (occurring rows + 1)) = power_le (34 * bound) (occurring kept + 1) (occurring rows + 1) (omega (arith, few)) in
        omega (arith, more, grown)))
        (λ (many : MayOverflow (occurring kept) kept). inr (
        let p = after_mono (occurring kept) (length kept) (length rows) cover.short in
        let q = after_more (occurring kept) (occurring rows) (length rows) kept_occurs in
        omega (arith, p, q, many)))
        stop.1,
  )

pub splits_kept : (path rows kept : List Row) → Cover rows kept → AreSplits kept path → AreSplits rows path × Cover (rows ++ path) (kept ++ path)
splits_kept [] rows kept cover splits =
    (tt, subst (λ all. Cover all (kept ++ [])) (sym (append-nil rows)) (subst (λ all. Cover rows all) (sym (append-nil kept)) cover))
splits_kept (split ∷ path) rows kept cover splits =
    let rest = splits_kept path (rows ++ split ∷ []) (kept ++ split ∷ []) (cover_more rows kept cover split) splits.1 in (
      (split_kept rows kept cover split splits.0, rest.0),
      subst (λ all. Cover all (kept ++ split ∷ path)) (append_assoc rows (split ∷ []) path)
          (subst (λ all. Cover ((rows ++ split ∷ []) ++ path) all) (append_assoc kept (split ∷ []) path) rest.1),
    )

pub hard_kept : (rows kept : List Row) → Cover rows kept → IsHard kept → IsHard rows
hard_kept rows kept cover (inl left) =
    let splits = splits_kept left.path rows kept cover left.splits in
    inl (record { path = left.path; splits = splits.0; many = left.many; between = between_kept (rows ++ left.path) (kept ++ left.path) splits.1 left.between })
hard_kept rows kept cover (inr within) =
    let splits = splits_kept within.path rows kept cover within.splits in
    inr (record { path = within.path; splits = splits.0; few = within.few; is = stop_kept (rows ++ within.path) (kept ++ within.path) splits.1 within.is })

pub stop_is_hard : (rows : List Row) → MayStop rows → IsHard rows
stop_is_hard rows stop = inr (record { path = []; splits = tt; few = omega (arith); is = subst MayStop (sym (append-nil rows)) stop })

pub deep_is_hard : (rows path : List Row) → IsDeep 10 rows path → IsHard rows
deep_is_hard rows path deep = inl (record { path = path; splits = deep.splits; many = deep.many; between = deep.between })

pub wide_is_hard : (rows : List Row) (operands : Wide) → IsWithin 10 rows (λ split. IsAnswerTo split (answer.Wide operands)) → IsHard rows
wide_is_hard rows operands within =
    inr (record { path = within.path; splits = within.splits; few = within.few; is = (within.is.1.no_octagons, inl within.is.1.large) })

pub many_is_hard : (rows : List Row) (count : ℕ) → IsWithin 10 rows (λ split. IsAnswerTo split (answer.Rows count)) → IsHard rows
many_is_hard rows count within =
    inr (record { path = within.path; splits = within.splits; few = within.few; is = (within.is.1.no_octagons, inr within.is.1.many) })
