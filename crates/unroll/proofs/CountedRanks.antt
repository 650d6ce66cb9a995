-- Ranks that are numbers of steps: with one more, with a function put in, and which of two is the greater.
use Rattle.std.proofs.Common.{None, ◌≡◌, ◌⊎◌, inl, inr, ⊎_elim, ℕ, suc, ◌+◌, ◌^◌, ◌<◌, ◌≤◌, ℤ, pos, negsuc, ◌+ℤ◌, ◌-ℤ◌, [], ◌∷◌, sym, ap, subst, ◌∙◌, arith}
use Rattle.std.proofs.lemmas.Int.{by_lt_z, ints}
use Rattle.linear_cons.specs.Functions.{IsConstant, coefficient, constant_of, difference_of, sum_of}
use Rattle.linear_cons.specs.Numbers.{number_at}
use Rattle.linear_cons.specs.Rows.{row_kind_of}
use Rattle.linear_cons.specs.declared.affine.Affine.{Affine}
use Rattle.linear_cons.specs.declared.row.Row.{Row}
use Rattle.linear_cons.specs.declared.row.RowKind.{RowKind}
use Rattle.linear_cons.specs.declared.row.RowKind.TheVariants.{Always, Never, Row as Kept}
use Rattle.linear_cons.proofs.Forms.{affine_same}
use Rattle.linear_cons.proofs.Parts.{kept_fits, kept_is}
use Rattle.linear_cons.proofs.Places.{length-at_places, number_at_places}
use Rattle.linear_cons.proofs.RowKinds.{row_kind_unique}
use Rattle.linear_cons.proofs.Sizes.{sizes_difference, sizes_fit, sizes_sum, sizes_constant}
use Rattle.decision_tree.specs.AffineRanks.{ExcessFits, excess_of}
use Rattle.decision_tree.specs.Plans.{Plan, leaf}
use Rattle.decision_tree.specs.declared.affine_rank.AffineRank.{AffineRank}
use Rattle.decision_tree.specs.declared.reason.Why.{Why}
use Rattle.tree_unify.specs.Choosing.{ChosenFits, chosen}
use Rattle.tree_unify.specs.Shapes.{MetFits, leaf_met}
use Rattle.tree_unify.specs.declared.join.Join.TheVariants.{Later}
use Rattle.unroll.specs.Levels.{counted}
use Rattle.backward_transfer.specs.AffineShapes.{affine_ranks, same_rank}
use Rattle.unroll.specs.Within.{EachIs, IsSteps}

-- the rank is a number of steps
abbrev pub Counts : AffineRank → Type 0
Counts rank = (n : ℕ) × (rank ≡ counted n)

nought_at : (z : ℤ) (i : ℕ) → i < 16 → coefficient (constant_of z) i ≡ pos 0
nought_at z i low = number_at_places (λ j. pos 0) i low

ranked : (a b : Affine) → a ≡ b → ◌≡◌ {A = AffineRank} (record { value = a }) (record { value = b })
ranked a b same = ap (λ (t : Affine). let r : AffineRank = record { value = t } in r) same

pub more_counted : (n : ℕ) → affine_ranks.one_more (counted n) ≡ counted (suc n)
more_counted n =
    let sum : Affine = sum_of (constant_of (pos n)) (constant_of (pos 1)) in
    ranked sum (constant_of (pos (suc n)))
    (affine_same sum (constant_of (pos (suc n))) (length-at_places _) (length-at_places _)
    (λ i low.
    let first = nought_at (pos n) i low in
    let second = nought_at (pos 1) i low in
    let both = nought_at (pos (suc n)) i low in
    let whole = number_at_places (λ j. coefficient (constant_of (pos n)) j +ℤ coefficient (constant_of (pos 1)) j) i low in
    omega (arith, ints, first, second, both, whole)) (omega (arith, ints)))

-- a step more, of a number of steps
pub more_counts : (rank : AffineRank) → Counts rank → Counts (affine_ranks.one_more rank)
more_counts rank own = (suc own.0, ap affine_ranks.one_more own.1 ∙ more_counted own.0)

pub more_steps : (most : ℕ) (rank : AffineRank) → IsSteps most rank → IsSteps (suc most) (affine_ranks.one_more rank)
more_steps most rank own = record {
  steps = suc own.steps;
  few = let few = own.few in omega (arith, few);
  is = ap affine_ranks.one_more own.is ∙ more_counted own.steps;
}

pub more_fits : (most : ℕ) → most ≤ 2 ^ 100 → (rank : AffineRank) → IsSteps most rank → affine_ranks.add_one_fits rank
more_fits most small rank own =
    let few = own.few in
    subst (λ (r : AffineRank). affine_ranks.add_one_fits r) (sym own.is)
    (sizes_fit (own.steps + 1) (sum_of (constant_of (pos own.steps)) (constant_of (pos 1))) (omega (arith, few, small))
    (sizes_sum own.steps 1 (constant_of (pos own.steps)) (constant_of (pos 1)) (sizes_constant (pos own.steps) own.steps (omega arith))
    (sizes_constant (pos 1) 1 (omega arith))))

-- a function put in leaves it as it is
module _ (x : ℕ) (by : Affine) (low : x < 16) where
  pub put_counted : (n : ℕ) → affine_ranks.substituted (counted n) x by ≡ counted n
  put_counted n = ranked _ (constant_of (pos n)) (sym (kept_is (constant_of (pos n)) x by (nought_at (pos n) x low) (length-at_places _)))

  pub put_counts : (rank : AffineRank) → Counts rank → Counts (affine_ranks.substituted rank x by)
  put_counts rank own = (own.0, ap (λ (r : AffineRank). affine_ranks.substituted r x by) own.1 ∙ put_counted own.0)

  pub put_steps : (most : ℕ) (rank : AffineRank) → IsSteps most rank → IsSteps most (affine_ranks.substituted rank x by)
  put_steps most rank own = record {
    steps = own.steps;
    few = own.few;
    is = ap (λ (r : AffineRank). affine_ranks.substituted r x by) own.is ∙ put_counted own.steps;
  }

  pub put_fits : (most : ℕ) → most ≤ 2 ^ 100 → (rank : AffineRank) → IsSteps most rank → affine_ranks.subst_fits rank x by
  put_fits most small rank own =
      let few = own.few in
      subst (λ (r : AffineRank). affine_ranks.subst_fits r x by) (sym own.is)
      (kept_fits (constant_of (pos own.steps)) x by (nought_at (pos own.steps) x low)
      (sizes_fit own.steps (constant_of (pos own.steps)) (omega (arith, few, small)) (sizes_constant (pos own.steps) own.steps (omega arith))))

-- ---- the greater of two

-- a function without variables makes no row
pub constant_kind : (a : Affine) → IsConstant a → (row_kind_of a ≡ Always) ⊎ (row_kind_of a ≡ Never)
constant_kind a constant =
    by_lt_z a.constant (pos 0) (λ below. inr (sym (row_kind_unique a Never (constant, below)))) (λ from. inl (sym (row_kind_unique a Always (constant, from))))

pub constant_excess : (m n : ℕ) → IsConstant (excess_of (constant_of (pos m)) (constant_of (pos n)))
constant_excess m n i low =
    let first = nought_at (pos m) i low in
    let second = nought_at (pos n) i low in
    let third = nought_at (negsuc 0) i low in
    let difference = number_at_places (λ j. coefficient (constant_of (pos m)) j -ℤ coefficient (constant_of (pos n)) j) i low in
    let sum = number_at_places (λ j. number_at (difference_of (constant_of (pos m)) (constant_of (pos n))).coef j +ℤ coefficient (constant_of (negsuc 0)) j) i low in
    omega (arith, ints, first, second, third, difference, sum)

excess_kind : (rank next : AffineRank) → Counts rank → Counts next
    → (row_kind_of (excess_of next.value rank.value) ≡ Always) ⊎ (row_kind_of (excess_of next.value rank.value) ≡ Never)
excess_kind rank next one two =
    let is : excess_of next.value rank.value ≡ excess_of (constant_of (pos two.0)) (constant_of (pos one.0)) =
    ap (λ (r : AffineRank). excess_of r.value rank.value) two.1 ∙ ap (λ (r : AffineRank). excess_of (constant_of (pos two.0)) r.value) one.1 in
    constant_kind (excess_of next.value rank.value) (subst IsConstant (sym is) (constant_excess two.0 one.0))

chosen_each : (P : Row → Type 0) (Q : Why → AffineRank → Type 0) (kind : RowKind) (greater other : Plan AffineRank) → (kind ≡ Always) ⊎ (kind ≡ Never)
    → EachIs P Q greater → EachIs P Q other → EachIs P Q (chosen same_rank (record { more = kind; same = None } ∷ []) greater other)
chosen_each P Q Always greater other known first second = first
chosen_each P Q Never greater other known first second = second
chosen_each P Q (Kept row) greater other known first second = ⊎_elim (λ is. absurd (cc)) (λ is. absurd (cc)) known

-- the later of two leaves is one of them
pub met_each : (P : Row → Type 0) (Q : Why → AffineRank → Type 0) (why other : Why) (rank next : AffineRank) → Counts rank → Counts next → Q why rank → Q other next
    → EachIs P Q (leaf_met same_rank affine_ranks.where_greater affine_ranks.greater_fits Later (leaf why rank) (leaf other next))
met_each P Q why other rank next one two first second =
    chosen_each P Q (row_kind_of (excess_of next.value rank.value)) (leaf other next) (leaf why rank) (excess_kind rank next one two) second first

pub met_counts : (P : Row → Type 0) (why other : Why) (rank next : AffineRank) → Counts rank → Counts next
    → EachIs P (λ reason. Counts) (leaf_met same_rank affine_ranks.where_greater affine_ranks.greater_fits Later (leaf why rank) (leaf other next))
met_counts P why other rank next one two = met_each P (λ reason. Counts) why other rank next one two one two

pub met_steps : (P : Row → Type 0) (most : ℕ) (why other : Why) (rank next : AffineRank) → IsSteps most rank → IsSteps most next
    → EachIs P (λ reason. IsSteps most) (leaf_met same_rank affine_ranks.where_greater affine_ranks.greater_fits Later (leaf why rank) (leaf other next))
met_steps P most why other rank next one two = met_each P (λ reason. IsSteps most) why other rank next (one.steps, one.is) (two.steps, two.is) one two

chosen_fits : (kind : RowKind) → (kind ≡ Always) ⊎ (kind ≡ Never) → ChosenFits (record { more = kind; same = None } ∷ [])
chosen_fits Always known = tt
chosen_fits Never known = tt
chosen_fits (Kept row) known = ⊎_elim (λ is. absurd (cc)) (λ is. absurd (cc)) known

excess_fits : (m n : ℕ) → m ≤ 2 ^ 100 → n ≤ 2 ^ 100 → ExcessFits (constant_of (pos m)) (constant_of (pos n))
excess_fits m n small also =
    let first = sizes_constant (pos m) m (omega arith) in
    let second = sizes_constant (pos n) n (omega arith) in
    let apart = sizes_difference m n (constant_of (pos m)) (constant_of (pos n)) first second in
    record {
      difference = sizes_fit (m + n) (difference_of (constant_of (pos m)) (constant_of (pos n))) (omega (arith, small, also)) apart;
      excess = sizes_fit (m + n + 1) (excess_of (constant_of (pos m)) (constant_of (pos n))) (omega (arith, small, also))
          (sizes_sum (m + n) 1 (difference_of (constant_of (pos m)) (constant_of (pos n))) (constant_of (negsuc 0)) apart (sizes_constant (negsuc 0) 1 (omega arith)));
    }

pub met_fits : (most : ℕ) → most ≤ 2 ^ 100 → (why other : Why) (rank next : AffineRank) → IsSteps most rank → IsSteps most next
    → MetFits same_rank affine_ranks.where_greater affine_ranks.greater_fits Later (leaf why rank) (leaf other next)
met_fits most small why other rank next one two =
    let few = one.few in
    let also = two.few in
    let fits : ExcessFits next.value rank.value =
    subst (λ (r : AffineRank). ExcessFits r.value rank.value) (sym two.is)
    (subst (λ (r : AffineRank). ExcessFits (constant_of (pos two.steps)) r.value) (sym one.is)
    (excess_fits two.steps one.steps (omega (arith, also, small)) (omega (arith, few, small)))) in
    (fits, chosen_fits (row_kind_of (excess_of next.value rank.value)) (excess_kind rank next (one.steps, one.is) (two.steps, two.is)))
