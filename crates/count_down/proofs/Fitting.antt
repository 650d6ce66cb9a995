-- The numbers of the claims between the trees of a candidate fit 128 bits.
use Rattle.std.proofs.Common.{ℕ, ◌+◌, ◌*◌, ◌^◌, ◌≤◌, pos, negsuc, None, Option, arith}
use Rattle.linear_cons.specs.declared.affine.Affine.{Affine}
use Rattle.linear_cons.specs.declared.row.RowKind.{RowKind}
use Rattle.linear_cons.specs.declared.row.RowKind.TheVariants.{Always, Never, Row as Kept}
use Rattle.linear_cons.specs.Functions.{complement_of, constant_of, difference_of, sum_of}
use Rattle.linear_cons.specs.Rows.{IsRowOf, row_kind_of}
use Rattle.linear_cons.proofs.KindLaws.{row_kind_is}
use Rattle.linear_cons.proofs.Sizes.{sizes_difference, sizes_fit, sizes_quotient, sizes_sum, sizes_constant, sizes_grown, sizes_complement}
use Rattle.linear_cons.specs.Sizes.{SizesAtMost}
use Rattle.decision_tree.specs.AffineRanks.{excess_of}
use Rattle.tree_support.specs.Certificates.{affine_ranks}
use Rattle.constraint_stack.specs.Claims.{ClaimFits, MoveFits, moved_rank, exceeding, unnatural}
use Rattle.count_down.specs.Building.{IsModest}
use Rattle.count_down.specs.Trees.{bound, ranked}
use Rattle.count_down.proofs.Modest.{bound_small}
use Rattle.count_down.proofs.Stepping.{RowsFit, StepFits}

-- how large the numbers of a bound are, and those of the steps elsewhere
abbrev pub most_size : ℕ
most_size = (2 ^ 91 + 1) * 1024 + 4096

pub natural_fits : (a : Affine) → SizesAtMost most_size a → ClaimFits affine_ranks (unnatural (ranked a))
natural_fits a own = sizes_fit (1 + most_size) (complement_of a) (omega arith) (sizes_complement most_size a own)

pub claim_fits : (sets : Option (ℕ × Affine)) (a b : Affine) → MoveFits affine_ranks sets (ranked a)
    → SizesAtMost (most_size * 2 ^ 20) (moved_rank affine_ranks sets (ranked a)).value → SizesAtMost most_size b
    → ClaimFits affine_ranks (exceeding (ranked a) sets (ranked b))
claim_fits sets a b moves own other =
    let n : ℕ = most_size * 2 ^ 20 in
    let moved : Affine = (moved_rank affine_ranks sets (ranked a)).value in
    let more : Affine = sum_of moved (constant_of (pos 1)) in
    let one : SizesAtMost (n + 1) more = sizes_sum n 1 moved (constant_of (pos 1)) own (sizes_constant (pos 1) 1 (omega arith)) in
    let apart : SizesAtMost (n + 1 + most_size) (difference_of more b) = sizes_difference (n + 1) most_size more b one other in (
      moves,
      sizes_fit (n + 1) more (omega arith) one,
      record {
        difference = sizes_fit (n + 1 + most_size) (difference_of more b) (omega arith) apart;
        excess = sizes_fit (n + 1 + most_size + 1) (excess_of more b) (omega arith)
            (sizes_sum (n + 1 + most_size) 1 (difference_of more b) (constant_of (negsuc 0)) apart (sizes_constant (negsuc 0) 1 (omega arith)));
      },
    )

pub rows_fit : (f : Affine) (kind : RowKind) → IsRowOf f kind → IsModest f → RowsFit None tt kind
rows_fit f Always is own = tt
rows_fit f Never is own = tt
rows_fit f (Kept row) is own =
    let sizes = sizes_quotient (2 ^ 91) f row.affine is own in (
      sizes_fit (2 ^ 91) row.affine (omega arith) sizes,
      sizes_fit (1 + 2 ^ 91) (complement_of row.affine) (omega arith) (sizes_complement (2 ^ 91) row.affine sizes),
    )

pub bound_sizes : (m s : ℕ) (e : Affine) (k : ℕ) → m ≤ 1024 → k + 1 + s ≤ 4096 → IsModest e → SizesAtMost most_size (bound m s e k)
bound_sizes m s e k short few own =
    sizes_grown ((2 ^ 91 + 1) * m + (k + 1 + s)) most_size (bound m s e k) (omega arith) (bound_small (2 ^ 91) m s e k own)

pub steps_sizes : (k : ℕ) → k ≤ 4096 → SizesAtMost most_size (constant_of (pos k))
steps_sizes k few = sizes_grown 4096 most_size (constant_of (pos k)) (omega arith) (sizes_constant (pos k) 4096 (omega arith))

-- over an edge that sets nothing the numbers of a step fit
pub unset_fits : (m s : ℕ) (e : Affine) (k : ℕ) (f : Affine) (j : ℕ) → m ≤ 1024 → k + 1 + s ≤ 4096 → j + 1 + s ≤ 4096 → IsModest e → IsModest f
    → StepFits None m s e k f j
unset_fits m s e k f j short few fewer own other =
    let grown : (a : Affine) → SizesAtMost most_size a → SizesAtMost (most_size * 2 ^ 20) a = λ a sizes. sizes_grown most_size (most_size * 2 ^ 20) a
    (omega arith) sizes in
    let here = bound_sizes m s e k short few own in
    let there = bound_sizes m s f j short fewer other in
    let last : SizesAtMost most_size (constant_of (pos (j + 1 + s))) = steps_sizes (j + 1 + s) fewer in
    record {
      place = tt;
      rows = rows_fit f (row_kind_of f) (row_kind_is f) other;
      bounds = claim_fits None (bound m s f j) (bound m s e k) tt (grown (bound m s f j) there) here;
      last = claim_fits None (constant_of (pos (j + 1 + s))) (bound m s e k) tt (grown (constant_of (pos (j + 1 + s))) last) here;
      lasts = claim_fits None (constant_of (pos (j + 1 + s))) (constant_of (pos (k + 1 + s))) tt (grown (constant_of (pos (j + 1 + s))) last)
          (steps_sizes (k + 1 + s) few);
    }
