-- Paths of rows that agree: none is opposed to another.
use Rattle.std.specs.Prelude.{unsigned_abs}
use Rattle.std.specs.Int.{◌∣◌}
use Rattle.std.proofs.Common.{◌≡◌, ◌⊎◌, inl, inr, ⊎_elim, ℕ, ◌<◌, pos, negsuc, ◌-ℤ◌, Bool, true, false, ◌||◌, cond, List, [], ◌∷◌, ◌++◌, Option, None, Some, length, refl, sym, ap, subst, ◌∙◌, arith}
use Rattle.std.proofs.lemmas.Int.{ints}
use Rattle.std.proofs.lemmas.Nat.Gcd.{dvd-zero}
use Rattle.linear_cons.specs.Divisor.{DividesAll}
use Rattle.linear_cons.specs.Functions.{coefficient, complement_of, constant_of}
use Rattle.linear_cons.specs.Numbers.{number_at}
use Rattle.linear_cons.specs.Rows.{AreOpposed}
use Rattle.linear_cons.specs.Settling.{functions_of_rows, settled, settles, tells}
use Rattle.linear_cons.specs.declared.affine.Affine.{Affine}
use Rattle.linear_cons.specs.declared.row.Row.{Row}
use Rattle.linear_cons.proofs.Forms.{affine_same}
use Rattle.linear_cons.proofs.Places.{length-at_places, number_at_places}
use Rattle.linear_cons.proofs.Telling.{both_told, opposed_told, tells-Decides}
use Rattle.linear_forms.specs.Duality.{EachOf}
use Rattle.linear_forms.proofs.DualLists.{each_both}
use Rattle.unroll.proofs.SpreadRows.{IsLong}

-- one of the rows tells the function
abbrev pub SomeTells : List Row → Affine → Type 0
SomeTells [] a = ⊥
SomeTells (given ∷ rest) a = (tells given.affine a ≡ true) ⊎ SomeTells rest a

-- what the first path tells the second tells
abbrev pub Extends : List Row → List Row → Type 0
Extends path way = (a : Affine) → SomeTells path a → SomeTells way a

or_one : (a b : Bool) → (a || b) ≡ true → (a ≡ true) ⊎ (b ≡ true)
or_one true b is = inl refl
or_one false b is = inr is

pub or_right : (a b : Bool) → b ≡ true → (a || b) ≡ true
or_right true b is = refl
or_right false b is = is

pub told_some : (path : List Row) (a : Affine) → settled (functions_of_rows path) a ≡ true → SomeTells path a
told_some [] a is = absurd (cc)
told_some (given ∷ rest) a is = ⊎_elim (λ here. inl here) (λ later. inr (told_some rest a later)) (or_one (tells given.affine a) (settled (functions_of_rows rest) a) is)

pub some_told : (path : List Row) (a : Affine) → SomeTells path a → settled (functions_of_rows path) a ≡ true
some_told [] a some = absurd some
some_told (given ∷ rest) a (inl here) = ap (λ t. t || settled (functions_of_rows rest) a) here
some_told (given ∷ rest) a (inr later) = or_right (tells given.affine a) (settled (functions_of_rows rest) a) (some_told rest a later)

-- ---- what is settled

module _ (path : List Row) (row : Row) where
  abbrev own : Bool
  own = settled (functions_of_rows path) row.affine

  abbrev turned : Bool
  turned = settled (functions_of_rows path) (complement_of row.affine)

  abbrev side : Bool → Bool → Option Bool
  side this that = cond this (Some true) (cond that (Some false) None)

  pub held_settles : SomeTells path row.affine → settles path row ≡ Some true
  held_settles some = ap (λ t. side t turned) (some_told path row.affine some)

  pub refuted_settles : (SomeTells path row.affine → ⊥) → SomeTells path (complement_of row.affine) → settles path row ≡ Some false
  refuted_settles none some = at own refl
    where
      at : (t : Bool) → own ≡ t → settles path row ≡ Some false
      at true is = absurd (none (told_some path row.affine is))
      at false is = ap (λ t. side t turned) is ∙ ap (λ t. side false t) (some_told path (complement_of row.affine) some)

  held_by : (this that : Bool) → own ≡ this → side this that ≡ Some true → SomeTells path row.affine
  held_by true that is settle = told_some path row.affine is
  held_by false true is settle = absurd (cc)
  held_by false false is settle = absurd (cc)

  refuted_by : (this that : Bool) → turned ≡ that → side this that ≡ Some false → SomeTells path (complement_of row.affine)
  refuted_by true that is settle = absurd (cc)
  refuted_by false true is settle = told_some path (complement_of row.affine) is
  refuted_by false false is settle = absurd (cc)

  pub settled_held : settles path row ≡ Some true → SomeTells path row.affine
  settled_held settle = held_by own turned refl settle

  pub settled_refuted : settles path row ≡ Some false → SomeTells path (complement_of row.affine)
  settled_refuted settle = refuted_by own turned refl settle

  pub untold : settles path row ≡ None → SomeTells path row.affine → ⊥
  untold settle some = let is : settles path row ≡ Some true = held_settles some in let never : Some true ≡ None = sym is ∙ settle in absurd (cc)

  pub unturned : settles path row ≡ None → SomeTells path (complement_of row.affine) → ⊥
  unturned settle some = let is : settles path row ≡ Some false = refuted_settles (untold settle) some in let never : Some false ≡ None = sym is ∙ settle in absurd (cc)

-- ---- one row more

pub some_kept : (path more : List Row) (a : Affine) → SomeTells path a → SomeTells (path ++ more) a
some_kept [] more a some = absurd some
some_kept (given ∷ rest) more a (inl here) = inl here
some_kept (given ∷ rest) more a (inr later) = inr (some_kept rest more a later)

some_last : (path : List Row) (row : Row) (a : Affine) → tells row.affine a ≡ true → SomeTells (path ++ row ∷ []) a
some_last [] row a tell = inl tell
some_last (given ∷ rest) row a tell = inr (some_last rest row a tell)

pub some_more : (path : List Row) (row : Row) (a : Affine) → SomeTells (path ++ row ∷ []) a → SomeTells path a ⊎ (tells row.affine a ≡ true)
some_more [] row a (inl here) = inr here
some_more [] row a (inr none) = absurd none
some_more (given ∷ rest) row a (inl here) = inl (inl here)
some_more (given ∷ rest) row a (inr later) = ⊎_elim (λ some. inl (inr some)) (λ last. inr last) (some_more rest row a later)

pub tells_own : (a : Affine) → tells a a ≡ true
tells_own a = (tells-Decides a a).1 (refl, omega (arith, ints))

pub last_told : (path : List Row) (row : Row) → SomeTells (path ++ row ∷ []) row.affine
last_told path row = some_last path row row.affine (tells_own row.affine)

-- ---- complements

coefficient_turned : (a : Affine) (i : ℕ) → i < 16 → coefficient (complement_of a) i ≡ pos 0 -ℤ coefficient a i
coefficient_turned a i low =
    number_at_places (λ j. coefficient (constant_of (negsuc 0)) j -ℤ coefficient a j) i low
    ∙ ap (λ t. t -ℤ coefficient a i) (number_at_places (λ j. pos 0) i low)

pub complement_twice : (a : Affine) → length a.coef ≡ 16 → complement_of (complement_of a) ≡ a
complement_twice a long =
    affine_same (complement_of (complement_of a)) a (length-at_places _) long
    (λ i low. let once = coefficient_turned a i low in let again = coefficient_turned (complement_of a) i low in omega (arith, ints)) (omega (arith, ints))

opposed_turned : (a b : Row) → AreOpposed a b → AreOpposed b a
opposed_turned a b opposed = record {
  negatives = λ i low. let is = opposed.negatives i low in omega (arith, ints);
  constants = let below = opposed.constants in omega (arith, ints);
}

-- no row is opposed to itself: some coefficient isn't 0
never_own : (row : Row) → AreOpposed row row → ⊥
never_own row opposed =
    let all : DividesAll 2 row.affine.coef = λ i low.
    let is = opposed.negatives i low in
    let nought : number_at row.affine.coef i ≡ pos 0 = omega (arith, ints) in
    subst (λ z. 2 ∣ unsigned_abs z) (sym nought) (dvd-zero 2) in
    let one : ◌≡◌ {A = ℕ} 2 1 = row.primitive 2 all in absurd (omega (arith, one))

-- ---- paths that agree

pub record AreAgreeing (path : List Row) : Type 0 where
  pub long : EachOf IsLong path
  pub apart : (row : Row) → SomeTells path row.affine → SomeTells path (complement_of row.affine) → ⊥

pub none_agree : AreAgreeing []
none_agree = record { long = tt; apart = λ row some other. some }

against : (path : List Row) → EachOf IsLong path → (row x : Row) → tells row.affine x.affine ≡ true → SomeTells path (complement_of x.affine) → SomeTells path (complement_of row.affine)
against [] long row x tell some = some
against (given ∷ rest) long row x tell (inl here) = inl ((opposed_told given row long.0).1 (opposed_turned row given (both_told row given x long.0 tell here)))
against (given ∷ rest) long row x tell (inr later) = inr (against rest long.1 row x tell later)

beside : (path : List Row) → EachOf IsLong path → (row x : Row) → IsLong row → SomeTells path x.affine → tells row.affine (complement_of x.affine) ≡ true → SomeTells path (complement_of row.affine)
beside [] long row x even some tell = some
beside (given ∷ rest) long row x even (inl here) tell = inl ((opposed_told given row long.0).1 (both_told given row x even here tell))
beside (given ∷ rest) long row x even (inr later) tell = inr (beside rest long.1 row x even later tell)

pub more_agree : (path : List Row) (row : Row) → IsLong row → AreAgreeing path → (SomeTells path (complement_of row.affine) → ⊥) → AreAgreeing (path ++ row ∷ [])
more_agree path row even agree none = record {
  long = each_both IsLong path (row ∷ []) agree.long (even, tt);
  apart = λ x some other. ⊎_elim
      (λ here. ⊎_elim (λ there. agree.apart x here there) (λ tell. none (beside path agree.long row x even here tell)) (some_more path row (complement_of x.affine) other))
      (λ tell. ⊎_elim (λ there. none (against path agree.long row x tell there))
      (λ turn. never_own row (both_told row row x even tell turn)) (some_more path row (complement_of x.affine) other))
      (some_more path row x.affine some);
}
