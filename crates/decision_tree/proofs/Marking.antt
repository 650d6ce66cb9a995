-- Rows with the same linear part, or with each other's negatives, have the same mark.
use Rattle.std.proofs.Common.{◌≡◌, ℕ, zero, suc, ◌<◌, ℤ, pos, negsuc, ◌-ℤ◌, Bool, true, false, List, [], ◌∷◌, map, length, get_or, unsigned_abs, nat_eq, refl, sym, ap, ◌∙◌, arith}
use Rattle.std.proofs.lemmas.Bool.Decides.{nat_tests}
use Rattle.std.proofs.lemmas.Int.{ints}
use Rattle.linear_cons.specs.Functions.{coefficient, complement_of, constant_of}
use Rattle.linear_cons.specs.Numbers.{number_at}
use Rattle.linear_cons.specs.Settling.{tells}
use Rattle.linear_cons.specs.declared.affine.Affine.{Affine}
use Rattle.linear_cons.specs.declared.row.Row.{Row}
use Rattle.linear_cons.proofs.Places.{number_at_places}
use Rattle.linear_cons.proofs.Telling.{tells-Decides}
use Rattle.decision_tree.specs.Marks.{mark_before, mark_of}
use Rattle.decision_tree.specs.Trails.{same_part, with_constant, with_constant_at}
use Rattle.decision_tree.proofs.Gathering.{item_any, part_Decides}

mark_same : (n : ℕ) (a b : Affine) → ((i : ℕ) → i < n → unsigned_abs (coefficient a i) ≡ unsigned_abs (coefficient b i)) → mark_before a n ≡ mark_before b n
mark_same zero a b same = refl
mark_same (suc n) a b same = rw (mark_same n a b (λ i low. same i (omega arith)), same n (omega arith)) refl

same_marks : (a b : Affine) → a.coef ≡ b.coef → mark_of a ≡ mark_of b
unfolding mark_of
same_marks a b same = mark_same 16 a b (λ i low. ap (λ (t : List ℤ). unsigned_abs (number_at t i)) same)

size_negated : (z : ℤ) → unsigned_abs (pos 0 -ℤ z) ≡ unsigned_abs z
size_negated z = omega (arith, ints)

complement_marks : (a : Affine) → mark_of (complement_of a) ≡ mark_of a
unfolding mark_of
complement_marks a = mark_same 16 (complement_of a) a (λ i low. ap unsigned_abs (number_at_places (λ j. coefficient (constant_of (negsuc 0)) j -ℤ coefficient a j) i low
    ∙ ap (λ t. t -ℤ coefficient a i) (number_at_places (λ j. pos 0) i low)) ∙ size_negated (coefficient a i))

-- ---- where the marks differ

marked : (rows : List Row) (place x : ℕ) (d : Row) → place < length rows → get_or (map (λ (row : Row). mark_of row.affine) rows) place x ≡ mark_of (get_or rows place d).affine
marked [] place x d low = absurd (omega arith)
marked (row ∷ rows) zero x d low = refl
marked (row ∷ rows) (suc place) x d low = marked rows place x d (omega arith)

-- a test that asks for equal marks fails
fails : (m n : ℕ) (t : Bool) → (m ≡ n → ⊥) → (t ≡ true → m ≡ n) → nat_eq m n ≡ t
fails m n true apart same = absurd (apart (same refl))
fails m n false apart same = grind (arith, nat_tests)

-- the marks of rows, of which one at a place is not that of a row
pub record IsOther (rows : List Row) (marks : List ℕ) (row : Row) (place here mark : ℕ) : Type 0 where
  pub within : place < length rows
  pub all : marks ≡ map (λ (row : Row). mark_of row.affine) rows
  pub there : here ≡ get_or marks place here
  pub own : mark ≡ mark_of row.affine
  pub apart : here ≡ mark → ⊥

has_mark : (rows : List Row) (marks : List ℕ) (row : Row) (place here mark : ℕ) → IsOther rows marks row place here mark → (d : Row)
    → here ≡ mark_of (get_or rows place d).affine
has_mark rows marks row place here mark other d = other.there ∙ ap (λ list. get_or list place here) other.all ∙ marked rows place here d other.within

pub no_part : (rows : List Row) (marks : List ℕ) (row : Row) (place here mark : ℕ) → IsOther rows marks row place here mark → (d : Row)
    → nat_eq here mark ≡ same_part (get_or rows place d) row
no_part rows marks row place here mark other d =
    fails here mark (same_part (get_or rows place d) row) other.apart
    (λ same. has_mark rows marks row place here mark other d
    ∙ same_marks (get_or rows place d).affine row.affine ((part_Decides (get_or rows place d) row).0 same) ∙ sym other.own)

pub not_told : (rows : List Row) (marks : List ℕ) (row : Row) (place here mark : ℕ) → IsOther rows marks row place here mark → (d : Row)
    → nat_eq here mark ≡ tells (get_or rows place d).affine row.affine
not_told rows marks row place here mark other d =
    fails here mark (tells (get_or rows place d).affine row.affine) other.apart
    (λ tell. has_mark rows marks row place here mark other d
    ∙ same_marks (get_or rows place d).affine row.affine ((tells-Decides (get_or rows place d).affine row.affine).0 tell).0 ∙ sym other.own)

pub not_opposed : (rows : List Row) (marks : List ℕ) (row : Row) (place here mark : ℕ) → IsOther rows marks row place here mark → (d : Row)
    → nat_eq here mark ≡ tells (get_or rows place d).affine (complement_of row.affine)
not_opposed rows marks row place here mark other d =
    fails here mark (tells (get_or rows place d).affine (complement_of row.affine)) other.apart
    (λ tell. has_mark rows marks row place here mark other d
    ∙ same_marks (get_or rows place d).affine (complement_of row.affine) ((tells-Decides (get_or rows place d).affine (complement_of row.affine)).0 tell).0
    ∙ complement_marks row.affine ∙ sym other.own)

-- ---- a row that is read

pub told_at : (rows : List Row) (a : Affine) (place : ℕ) (given : Row) → place < length rows → given ≡ get_or rows place given → (d : Row)
    → tells given.affine a ≡ tells (get_or rows place d).affine a
told_at rows a place given low is d = ap (λ (r : Row). tells r.affine a) (is ∙ item_any rows place given d low)

-- ---- a row with another constant

pub marks_kept : (rows : List Row) (place : ℕ) (constant : ℤ) → map (λ (row : Row). mark_of row.affine) (with_constant_at rows place constant) ≡ map (λ (row : Row). mark_of row.affine) rows
marks_kept [] place constant = refl
marks_kept (row ∷ rest) zero constant =
    ap (λ mark. mark ∷ map (λ (row : Row). mark_of row.affine) rest) (same_marks (with_constant row constant).affine row.affine refl)
marks_kept (row ∷ rest) (suc place) constant = ap (λ list. mark_of row.affine ∷ list) (marks_kept rest place constant)
