-- Loops that write cell by cell.
use Rattle.std.proofs.Common.{◌≡◌, ◌≢◌, ◌++◌, drop, sym, take, ℕ, ◌+◌, ◌*◌, ◌/◌, ◌%◌, ◌<◌, ◌≤◌, ℤ, List, length, set, Option, arith, refl}
use Rattle.std.proofs.Common.{◌∙◌, ⊎_elim, below_more, subst}
use Rattle.std.proofs.lemmas.Bool.{cases_lt}
use Rattle.std.proofs.Common.{get_or-set_same, get_or-set_other, length-set}
use Rattle.std.proofs.Math.Seq.{take-append_seam}
use Rattle.num_domain.specs.declared.bound.Bound.{Bound}
use Rattle.num_domain.specs.Ends.{some_end}
use Rattle.octagon_dom.specs.Cells.{AreCellsOf, Matrix, cell}

-- the cells below n are written, and the others are the old ones
pub record WrittenBelow (n size : ℕ) (ends : ℕ → Option ℤ) (old now : List (Bound ℤ)) : Type 0 where
  pub long : length now ≡ size
  pub written : (k : ℕ) → k < n → cell now k ≡ ends k
  pub later : (k : ℕ) → n ≤ k → cell now k ≡ cell old k

pub written_none : (size : ℕ) (ends : ℕ → Option ℤ) (old : List (Bound ℤ)) → length old ≡ size → WrittenBelow 0 size ends old old
written_none size ends old long = record { long = long; written = λ k h. absurd (omega arith); later = λ k h. refl }

pub written_more : (n size : ℕ) (ends : ℕ → Option ℤ) (old now : List (Bound ℤ)) (end : Bound ℤ) → n < size
    → WrittenBelow n size ends old now → some_end end ≡ ends n → WrittenBelow (n + 1) size ends old (set now n end)
written_more n size ends old now end low below is = record {
  long = length-set now n end ∙ below.long;
  written = below_more _ _
      (λ k h. let ne : k ≢ n = omega arith in rw get_or-set_other (below.written k h))
      (let lt : n < length now = omega (arith, below.long) in rw get_or-set_same is);
  later = λ k h. let ne : k ≢ n = omega arith in rw get_or-set_other (below.later k (omega arith));
}

-- all cells of a matrix are written
pub all_written : (matrix : Matrix) (old now : List (Bound ℤ)) → WrittenBelow 1024 1024 (λ k. matrix (k / 32) (k % 32)) old now
    → AreCellsOf matrix now
all_written matrix old now below = record {
  long = below.long;
  each = λ i j h g.
      let row : (32 * i + j) / 32 ≡ i = omega arith in
      let column : (32 * i + j) % 32 ≡ j = omega arith in
      below.written (32 * i + j) (omega arith) ∙ (rw (row, column) refl);
}

-- what was written to the whole of a vector's slice are its items
pub written_back : {X : Type 0} (len : ℕ) (new old : List X) → length new ≡ 1024 → len ≡ 1024
    → take len (new ++ drop (length new) old) ≡ new
written_back len new old long all =
    let same : len ≡ length new = all ∙ sym long in
    rw same (take-append_seam new (drop (length new) old))

-- of the cells from a number on n are written, and the others are the old ones
pub record WrittenFrom (from n : ℕ) (ends : ℕ → Option ℤ) (old now : List (Bound ℤ)) : Type 0 where
  pub long : length now ≡ 1024
  pub written : (b : ℕ) → b < n → cell now (from + b) ≡ ends b
  pub before : (k : ℕ) → k < from → cell now k ≡ cell old k
  pub later : (k : ℕ) → from + n ≤ k → cell now k ≡ cell old k

pub from_none : (from : ℕ) (ends : ℕ → Option ℤ) (old : List (Bound ℤ)) → length old ≡ 1024 → WrittenFrom from 0 ends old old
from_none from ends old long = record { long = long; written = λ b h. absurd (omega arith); before = λ k h. refl; later = λ k h. refl }

pub from_more : (from n : ℕ) (ends : ℕ → Option ℤ) (old now : List (Bound ℤ)) (end : Bound ℤ) → from + n < 1024
    → WrittenFrom from n ends old now → some_end end ≡ ends n → WrittenFrom from (n + 1) ends old (set now (from + n) end)
from_more from n ends old now end low below is = record {
  long = length-set now (from + n) end ∙ below.long;
  written = below_more _ _
      (λ b h. let ne : from + b ≢ from + n = omega arith in rw get_or-set_other (below.written b h))
      (let lt : from + n < length now = omega (arith, below.long) in rw get_or-set_same is);
  before = λ k h. let ne : k ≢ from + n = omega arith in rw get_or-set_other (below.before k h);
  later = λ k h. let ne : k ≢ from + n = omega arith in rw get_or-set_other (below.later k (omega arith));
}

-- a line of cells more is written
pub line_more : (a : ℕ) (ends : ℕ → Option ℤ) (old between now : List (Bound ℤ)) → WrittenBelow (32 * a) 1024 ends old between → length now ≡ 1024
    → ((b : ℕ) → b < 32 → cell now (32 * a + b) ≡ ends (32 * a + b)) → ((k : ℕ) → k / 32 ≢ a → cell now k ≡ cell between k)
    → WrittenBelow (32 * (a + 1)) 1024 ends old now
line_more a ends old between now below long line others = record {
  long = long;
  written = λ k h. ⊎_elim
      (λ (less : k < 32 * a). let ne : k / 32 ≢ a = omega arith in others k ne ∙ below.written k less)
      (λ (from : 32 * a ≤ k).
      let here : 32 * a + k % 32 ≡ k = omega arith in
      let low : k % 32 < 32 = omega arith in
      subst (λ m. cell now m ≡ ends m) here (line (k % 32) low))
      (cases_lt k (32 * a));
  later = λ k h. let ne : k / 32 ≢ a = omega arith in others k ne ∙ below.later k (omega arith);
}
