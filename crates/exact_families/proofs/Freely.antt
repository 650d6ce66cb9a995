-- Before a free test of which all outcomes are met, and before steps of one kind.
use Rattle.std.proofs.Common.{◌≡◌, ◌⊎◌, inl, inr, ⊎_elim, ℕ, ◌<◌, ◌≤◌, ℤ, pos, negsuc, ◌+ℤ◌, ◌-ℤ◌, Bool, true, false, cond, List, [], ◌∷◌, None, Contains, refl, sym, ap, subst, ◌∙◌, arith}
use Rattle.std.proofs.lemmas.Int.{by_lt_z, ints}
use Rattle.linear_cons.specs.declared.affine.Affine.{Affine}
use Rattle.linear_cons.specs.declared.row.RowKind.{RowKind}
use Rattle.linear_cons.specs.declared.row.RowKind.TheVariants.{Always, Never}
use Rattle.linear_cons.specs.Functions.{IsConstant, coefficient, constant_of, difference_of, sum_of}
use Rattle.linear_cons.specs.Numbers.{number_at}
use Rattle.linear_cons.specs.Rows.{row_kind_of}
use Rattle.linear_cons.proofs.Places.{number_at_places}
use Rattle.linear_cons.proofs.RowKinds.{row_kind_unique}
use Rattle.decision_tree.specs.AffineRanks.{excess_of}
use Rattle.decision_tree.specs.Plans.{IsEnd, Plan, bottom, branch, leaf, top}
use Rattle.decision_tree.specs.declared.affine_rank.AffineRank.{AffineRank}
use Rattle.decision_tree.specs.declared.reason.Pick.{Pick}
use Rattle.decision_tree.specs.declared.reason.Pick.TheVariants.{All as Every}
use Rattle.decision_tree.specs.declared.reason.Why.{Why}
use Rattle.decision_tree.specs.declared.reason.Why.TheVariants.{Step}
use Rattle.tree_unify.specs.Choosing.{chosen}
use Rattle.tree_unify.specs.Shapes.{asks_second, joined, leaf_met, trimmed}
use Rattle.tree_unify.specs.declared.join.Join.TheVariants.{Later}
use Rattle.backward_transfer.specs.Steps.{step_to, stepped}
use Rattle.tree_support.specs.Certificates.{affine_ranks}
use Rattle.tree_support.specs.Arcs.{Arc, Flow}
use Rattle.tree_support.specs.Setting.{Trees}
use Rattle.tree_support.specs.Systems.{moved_by}
use Rattle.exact_families.proofs.Judges.{IsJudge, judged}
use Rattle.exact_families.proofs.Leaves.{equal_rank, equal_why}
use Rattle.exact_families.proofs.Judging.{joined_judged, judged_is_end}
use Rattle.exact_families.proofs.Deeds.{free_arc}
use Rattle.exact_families.proofs.Making.{not_leaf, skipped_leaf, rank_alike}
use Rattle.exact_families.proofs.Shutting.{IsLess, append_contains, only_one, says_moved}
use Rattle.exact_families.proofs.Walks.{Leads, MayPick, picked_arcs, same_pick}
use Rattle.exact_families.proofs.Whys.{SetsPlace}
use Rattle.backward_transfer.specs.AffineShapes.{same_rank}
use Rattle.unroll.specs.Levels.{RanksCount, counted}

-- ---- ranks that are numbers of steps

abbrev excess : ℕ → ℕ → Affine
excess m n = excess_of (constant_of (pos m)) (constant_of (pos n))

abbrev excess_more : ℕ → ℕ → Affine
excess_more m n = excess_of (affine_ranks.one_more (counted m)).value (affine_ranks.one_more (counted n)).value

nought_at : (z : ℤ) (i : ℕ) → i < 16 → coefficient (constant_of z) i ≡ pos 0
nought_at z i low = number_at_places (λ j. pos 0) i low

more_constant : (m : ℕ) → IsConstant (sum_of (constant_of (pos m)) (constant_of (pos 1)))
more_constant m i low =
    let first = nought_at (pos m) i low in
    let second = nought_at (pos 1) i low in
    let sum = number_at_places (λ j. coefficient (constant_of (pos m)) j +ℤ coefficient (constant_of (pos 1)) j) i low in
    omega (arith, ints, first, second, sum)

excess_constant : (a b : Affine) → IsConstant a → IsConstant b → IsConstant (excess_of a b)
excess_constant a b one two i low =
    let first = one i low in
    let second = two i low in
    let third = nought_at (negsuc 0) i low in
    let difference = number_at_places (λ j. coefficient a j -ℤ coefficient b j) i low in
    let sum = number_at_places (λ j. number_at (difference_of a b).coef j +ℤ coefficient (constant_of (negsuc 0)) j) i low in
    omega (arith, ints, first, second, third, difference, sum)

-- one more of the less is seen to be below one more of the other
below_more : (m n : ℕ) → m ≤ n → row_kind_of (excess_more m n) ≡ Never
below_more m n le =
    sym (row_kind_unique (excess_more m n) Never (excess_constant (affine_ranks.one_more (counted m)).value (affine_ranks.one_more (counted n)).value (more_constant m) (more_constant n), omega (arith, ints, le)))

-- which is the greater
compare : (m n : ℕ) → ((row_kind_of (excess m n) ≡ Always) × (n ≤ m)) ⊎ ((row_kind_of (excess m n) ≡ Never) × (m ≤ n))
compare m n =
    let none : IsConstant (excess m n) =
    excess_constant (constant_of (pos m)) (constant_of (pos n)) (λ i low. nought_at (pos m) i low) (λ i low. nought_at (pos n) i low) in
    by_lt_z (excess m n).constant (pos 0)
    (λ below. inr (sym (row_kind_unique (excess m n) Never (none, below)), omega (arith, ints, below)))
    (λ from. inl (sym (row_kind_unique (excess m n) Always (none, from)), omega (arith, ints, from)))

chosen_always : (kind : RowKind) (greater other : Plan AffineRank) → kind ≡ Always → chosen same_rank (record { more = kind; same = None } ∷ []) greater other ≡ greater
chosen_always kind greater other is = ap (λ (k : RowKind). chosen same_rank (record { more = k; same = None } ∷ []) greater other) is

chosen_never : (kind : RowKind) (greater other : Plan AffineRank) → kind ≡ Never → chosen same_rank (record { more = kind; same = None } ∷ []) greater other ≡ other
chosen_never kind greater other is = ap (λ (k : RowKind). chosen same_rank (record { more = k; same = None } ∷ []) greater other) is

-- the later of two leaves of so many steps
pub later_met : (why other : Why) (m n : ℕ)
    → (leaf_met same_rank affine_ranks.where_greater affine_ranks.greater_fits Later (leaf why (counted m)) (leaf other (counted n)) ≡ leaf other (counted n)) × (m ≤ n)
    ⊎ (leaf_met same_rank affine_ranks.where_greater affine_ranks.greater_fits Later (leaf why (counted m)) (leaf other (counted n)) ≡ leaf why (counted m)) × (n ≤ m)
later_met why other m n =
    ⊎_elim
    (λ more. inl (chosen_always (row_kind_of (excess n m)) (leaf other (counted n)) (leaf why (counted m)) more.0, more.1))
    (λ less. inr (chosen_never (row_kind_of (excess n m)) (leaf other (counted n)) (leaf why (counted m)) less.0, less.1))
    (compare n m)

-- a leaf of the later of two trees: both are defined there, and neither has more steps
pub record IsLater (v : Affine → Bool) (this that : Plan AffineRank) (rank : AffineRank) : Type 0 where
  pub first : Why
  pub second : Why
  pub m : ℕ
  pub n : ℕ
  pub most : ℕ
  pub here : judged v this ≡ leaf first (counted m)
  pub there : judged v that ≡ leaf second (counted n)
  pub m_most : m ≤ most
  pub n_most : n ≤ most
  pub is : rank ≡ counted most

either_count : (t : Bool) (here there : Plan AffineRank) → RanksCount here → RanksCount there → RanksCount (cond t here there)
either_count true here there first second = first
either_count false here there first second = second

pub judged_counts : (v : Affine → Bool) (plan : Plan AffineRank) → RanksCount plan → RanksCount (judged v plan)
judged_counts v bottom own = tt
judged_counts v (top cause) own = tt
judged_counts v (leaf why rank) own = own
judged_counts v (branch row this that) own = either_count (v row.affine) (judged v this) (judged v that) (judged_counts v this own.0) (judged_counts v that own.1)

module _ (v : Affine → Bool) (j : IsJudge v) (this that : Plan AffineRank) (one : RanksCount this) (two : RanksCount that) where
  abbrev later : Plan AffineRank
  later = joined same_rank affine_ranks.where_greater affine_ranks.greater_fits Later this that

  abbrev at_leaf : Plan AffineRank → Plan AffineRank → Plan AffineRank
  at_leaf first second = cond (asks_second Later first) (judged v (leaf_met same_rank affine_ranks.where_greater affine_ranks.greater_fits Later first second)) first

  ends_later : (a b : Plan AffineRank) → judged v this ≡ a → judged v that ≡ b → IsEnd a → IsEnd b → RanksCount a → RanksCount b → (why : Why) (rank : AffineRank) → at_leaf a b ≡ leaf why rank → IsLater v this that rank
  ends_later bottom b here there ends end c d why rank own = absurd (not_leaf bottom why rank refl own)
  ends_later (top cause) b here there ends end c d why rank own = absurd (not_leaf (top cause) why rank refl own)
  ends_later (branch row p q) b here there ends end c d why rank own = absurd ends
  ends_later (leaf w q) bottom here there ends end c d why rank own = absurd (not_leaf bottom why rank refl own)
  ends_later (leaf w q) (top cause) here there ends end c d why rank own = absurd (not_leaf (top cause) why rank refl own)
  ends_later (leaf w q) (branch row p r) here there ends end c d why rank own = absurd end
  ends_later (leaf w q) (leaf u r) here there ends end c d why rank own =
      let first : judged v this ≡ leaf w (counted c.0) = here ∙ ap (leaf w) c.1 in
      let second : judged v that ≡ leaf u (counted d.0) = there ∙ ap (leaf u) d.1 in
      let met : judged v (leaf_met same_rank affine_ranks.where_greater affine_ranks.greater_fits Later (leaf w (counted c.0)) (leaf u (counted d.0))) ≡ leaf why rank =
      subst (λ (t : AffineRank). judged v (leaf_met same_rank affine_ranks.where_greater affine_ranks.greater_fits Later (leaf w t) (leaf u (counted d.0))) ≡ leaf why rank) c.1
      (subst (λ (t : AffineRank). judged v (leaf_met same_rank affine_ranks.where_greater affine_ranks.greater_fits Later (leaf w q) (leaf u t)) ≡ leaf why rank) d.1 own) in
      ⊎_elim
      (λ more. record {
        first = w;
        second = u;
        m = c.0;
        n = d.0;
        most = d.0;
        here = first;
        there = second;
        m_most = more.1;
        n_most = omega arith;
        is = sym (equal_rank u why (counted d.0) rank (sym (ap (judged v) more.0) ∙ met));
      })
      (λ less. record {
        first = w;
        second = u;
        m = c.0;
        n = d.0;
        most = c.0;
        here = first;
        there = second;
        m_most = omega arith;
        n_most = less.1;
        is = sym (equal_rank w why (counted c.0) rank (sym (ap (judged v) less.0) ∙ met));
      })
      (later_met w u c.0 d.0)

  pub later_found : (why : Why) (rank : AffineRank) → judged v later ≡ leaf why rank → IsLater v this that rank
  later_found why rank own =
      ends_later (judged v this) (judged v that) refl refl (judged_is_end v this) (judged_is_end v that) (judged_counts v this one) (judged_counts v that two) why rank
      (sym (joined_judged same_rank rank_alike v j affine_ranks.where_greater affine_ranks.greater_fits Later this that) ∙ own)

-- ---- before a free test whose outcomes are all met

module _ (flow : Flow) (all : Bool) (label : ℕ) (trees : Trees AffineRank) (then_to else_to : ℕ) (one : RanksCount (trees then_to)) (two : RanksCount (trees else_to)) where
  abbrev pub before_free : Plan AffineRank
  before_free = trimmed same_rank [] (stepped same_rank affine_ranks.one_more (joined same_rank affine_ranks.where_greater affine_ranks.greater_fits Later (trees then_to) (trees else_to)))

  -- the greater one, one step later
  free_leaf : (v : Affine → Bool) → IsJudge v → (why : Why) (rank : AffineRank) → judged v before_free ≡ leaf why rank
      → (q : AffineRank) × IsLater v (trees then_to) (trees else_to) q × (step_to (affine_ranks.one_more q) ≡ leaf why rank)
  free_leaf v j why rank own =
      let found = skipped_leaf same_rank rank_alike v j affine_ranks.one_more (joined same_rank affine_ranks.where_greater affine_ranks.greater_fits Later (trees then_to) (trees else_to)) why rank own in
      (found.1, later_found v j (trees then_to) (trees else_to) one two found.0 found.1 found.2, found.3)

  below : (v : Affine → Bool) (tree : Plan AffineRank) (why : Why) (m most : ℕ) (q rank : AffineRank) → judged v tree ≡ leaf why (counted m) → m ≤ most → q ≡ counted most → affine_ranks.one_more q ≡ rank
      → IsLess None rank (judged v tree)
  below v tree why m most q rank is le q_is more =
      subst (IsLess None rank) (sym is)
      (subst (λ (r : AffineRank). row_kind_of (excess_of (affine_ranks.one_more (counted m)).value r.value) ≡ Never) (sym (ap affine_ranks.one_more q_is) ∙ more) (below_more m most le))

  pub free_leads : flow.arcs label ≡ free_arc 0 then_to ∷ (free_arc 1 else_to ∷ [])
      → ((pick : Pick) → MayPick flow all label pick → (arc : Arc) → Contains (picked_arcs flow all label pick) arc → SetsPlace arc.sets) → Leads flow all label IsLess trees before_free
  free_leads arcs places = record {
    why_is = λ v j why rank own. let found = free_leaf v j why rank own in (Every, sym (equal_why (Step Every) why (affine_ranks.one_more found.0) rank found.2), tt);
    sets = places;
    serves = λ v j pick rank own arc inside more. serve v j pick rank own (every v j pick rank own) arc inside;
  }
    where
      every : (v : Affine → Bool) → IsJudge v → (pick : Pick) (rank : AffineRank) → judged v before_free ≡ leaf (Step pick) rank → Every ≡ pick
      every v j pick rank own = let found = free_leaf v j (Step pick) rank own in same_pick Every pick (equal_why (Step Every) (Step pick) (affine_ranks.one_more found.0) rank found.2)

      serve : (v : Affine → Bool) → IsJudge v → (pick : Pick) (rank : AffineRank) → judged v before_free ≡ leaf (Step pick) rank → Every ≡ pick → (arc : Arc) → Contains (picked_arcs flow all label pick) arc
          → IsLess arc.sets rank (judged (says_moved v (moved_by arc.sets)) (trees arc.target))
      serve v j pick rank own is arc inside =
          let found = free_leaf v j (Step pick) rank own in
          let later = found.1 in
          let more : affine_ranks.one_more found.0 ≡ rank = equal_rank (Step Every) (Step pick) (affine_ranks.one_more found.0) rank found.2 in
          let among : Contains (free_arc 0 then_to ∷ (free_arc 1 else_to ∷ [])) arc =
          subst (λ (l : List Arc). Contains l arc) arcs (subst (λ (p : Pick). Contains (picked_arcs flow all label p) arc) (sym is) inside) in
          ⊎_elim
          (λ (here : Contains (free_arc 0 then_to ∷ []) arc).
          subst (λ (a : Arc). IsLess a.sets rank (judged (says_moved v (moved_by a.sets)) (trees a.target))) (only_one (free_arc 0 then_to) arc here)
          (below v (trees then_to) later.first later.m later.most found.0 rank later.here later.m_most later.is more))
          (λ (there : Contains (free_arc 1 else_to ∷ []) arc).
          subst (λ (a : Arc). IsLess a.sets rank (judged (says_moved v (moved_by a.sets)) (trees a.target))) (only_one (free_arc 1 else_to) arc there)
          (below v (trees else_to) later.second later.n later.most found.0 rank later.there later.n_most later.is more))
          (append_contains (free_arc 0 then_to ∷ []) (free_arc 1 else_to ∷ []) arc among)
