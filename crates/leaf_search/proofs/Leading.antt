-- Parts of trees to which rows lead: a search of the part is one of the whole tree.
use Rattle.std.proofs.Common.{◌≡◌, ℕ, ◌<◌, ◌≤◌, ℤ, pos, neg_ℤ, ◌+ℤ◌, ◌*ℤ◌, inl, inr, Bool, true, false, ◌||◌, cond, eqb, List, [], ◌∷◌, ◌++◌, length, take, drop, All, Contains, Option, None, Some, Ok, IfSome, refl, sym, ap, subst, ◌∙◌, arith}
use Rattle.std.proofs.lemmas.Int.{ints}
use Rattle.std.proofs.lemmas.Bool.{false≢true}
use Rattle.std.proofs.lemmas.List.{take-append-drop}
use Rattle.std.proofs.lemmas.List.Elements.{All-append, Contains-append_left}
use Rattle.linear_cons.specs.declared.affine.Affine.{Affine}
use Rattle.linear_cons.specs.declared.exact.Wide.{Wide}
use Rattle.linear_cons.specs.declared.row.Row.{Row}
use Rattle.linear_cons.specs.declared.row.RowKind.{RowKind}
use Rattle.linear_cons.specs.declared.row.RowKind.TheVariants.{Always, Never, Row as Kept}
use Rattle.linear_cons.specs.Functions.{coefficient, complement_of, multiple_of, substituted, without}
use Rattle.linear_cons.specs.Numbers.{number_at}
use Rattle.linear_cons.specs.Rows.{Meets, MeetsAll, row_kind_of}
use Rattle.linear_cons.specs.Settling.{functions_of_rows, settled, settles, tells}
use Rattle.linear_cons.specs.Tightest.{IsCovered}
use Rattle.linear_cons.proofs.Places.{length-at_places, number_at-clear, number_at_places, places-ext}
use Rattle.linear_cons.proofs.Ring.{mul_neg}
use Rattle.linear_solve.proofs.Lists.{all_of, member_of}
use Rattle.linear_forms.proofs.DualLists.{AreComplements, complement_kinds}
use Rattle.decision_tree.specs.declared.rank.Rank.{Ghosts as Ranks}
use Rattle.decision_tree.specs.Plans.{Plan, bottom, branch, leaf, size_of, top}
use Rattle.constraint_stack.specs.Claims.{HasNoStore}
use Rattle.constraint_stack.specs.Forming.{Formed, exact}
use Rattle.constraint_stack.specs.Stacks.{Forms, Held, all_asked, asked}
use Rattle.constraint_stack.specs.Searches.{IsSearched}
use Rattle.constraint_stack.specs.declared.finding.Finding.{Finding}
use Rattle.constraint_stack.proofs.Covering.{covered_behind, told_function}
use Rattle.constraint_stack.proofs.Holding.{held_more, held_told}
use Rattle.tree_support.specs.Systems.{moved_by}
use Rattle.leaf_search.specs.Walks.{IsImplied, IsSettled, LeadsTo, side_of, systems_behind}
use Rattle.leaf_search.proofs.Keeping.{always_excludes, excluded_nowhere, never_excludes, settled_excludes}
use Rattle.leaf_search.proofs.Walking.{asked_more, nowhere_behind, searched_first, searched_then}

-- ---- the complement of a row, moved back

turned : (a : Affine) (i : ℕ) → i < 16 → coefficient (complement_of a) i ≡ neg_ℤ (coefficient a i)
turned a i low = simp number_at_places (omega (arith, ints))

cleared_turned : (a : Affine) (place i : ℕ) (same : Bool) → i < 16 → cond same (pos 0) (coefficient (complement_of a) i) ≡ neg_ℤ (cond same (pos 0) (coefficient a i))
cleared_turned a place i true low = refl
cleared_turned a place i false low = turned a i low

complement_moves : (a : Affine) (place : ℕ) (by : Affine) → place < 16 → substituted (complement_of a) place by ≡ complement_of (substituted a place by)
complement_moves a place by low =
    let times : coefficient (complement_of a) place ≡ neg_ℤ (coefficient a place) = turned a place low in
    let coefs : (substituted (complement_of a) place by).coef ≡ (complement_of (substituted a place by)).coef =
    places-ext (substituted (complement_of a) place by).coef (complement_of (substituted a place by)).coef (length-at_places _) (length-at_places _) (λ i h.
    let own : number_at (substituted (complement_of a) place by).coef i ≡ coefficient (without (complement_of a) place) i +ℤ coefficient (multiple_of by (coefficient (complement_of a) place)) i =
    number_at_places (λ j. coefficient (without (complement_of a) place) j +ℤ coefficient (multiple_of by (coefficient (complement_of a) place)) j) i h in
    let whole : coefficient (substituted a place by) i ≡ coefficient (without a place) i +ℤ coefficient (multiple_of by (coefficient a place)) i =
    number_at_places (λ j. coefficient (without a place) j +ℤ coefficient (multiple_of by (coefficient a place)) j) i h in
    let other = turned (substituted a place by) i h in
    let rest : coefficient (without (complement_of a) place) i ≡ neg_ℤ (coefficient (without a place) i) =
    number_at-clear (complement_of a).coef place i ∙ cleared_turned a place i (eqb i place) h ∙ ap neg_ℤ (sym (number_at-clear a.coef place i)) in
    let product : coefficient (multiple_of by (coefficient (complement_of a) place)) i ≡ coefficient by i *ℤ coefficient (complement_of a) place =
    number_at_places (λ j. coefficient by j *ℤ coefficient (complement_of a) place) i h in
    let also : coefficient (multiple_of by (coefficient a place)) i ≡ coefficient by i *ℤ coefficient a place = number_at_places (λ j. coefficient by j *ℤ coefficient a place) i h in
    let negative : coefficient by i *ℤ coefficient (complement_of a) place ≡ neg_ℤ (coefficient by i *ℤ coefficient a place) =
    ap (λ t. coefficient by i *ℤ t) times ∙ mul_neg (coefficient by i) (coefficient a place) in
    omega (arith, ints)) in
    let product : by.constant *ℤ coefficient (complement_of a) place ≡ neg_ℤ (by.constant *ℤ coefficient a place) =
    ap (λ t. by.constant *ℤ t) times ∙ mul_neg by.constant (coefficient a place) in
    let constants : (substituted (complement_of a) place by).constant ≡ (complement_of (substituted a place by)).constant = omega (arith, ints) in
    same_function (substituted (complement_of a) place by) (complement_of (substituted a place by)) coefs constants
  where
    same_function : (a b : Affine) → a.coef ≡ b.coef → a.constant ≡ b.constant → a ≡ b
    same_function a b coefs constants = ap (λ coef. record { coef = coef; constant = a.constant }) coefs ∙ ap (λ constant. record { coef = b.coef; constant = constant }) constants

moved_complements : (sets : Option (ℕ × Affine)) (a : Affine) → IfSome sets (λ s. s.0 < 16)
    → AreComplements (row_kind_of (exact (moved_by sets a))) (row_kind_of (exact (moved_by sets (complement_of a))))
moved_complements None a low = complement_kinds a (complement_of a) refl
moved_complements (Some (place, by)) a low = complement_kinds (substituted a place by) (substituted (complement_of a) place by) (complement_moves a place by low)

-- ---- rows that settle a row

settled_told : (rows : List Row) (a : Affine) → settled (functions_of_rows rows) a ≡ true → IsCovered rows a
settled_told [] a is = absurd (false≢true is)
settled_told (given ∷ rest) a is = first (tells given.affine a) refl is (λ settle. settled_told rest a settle) where
  first : (t : Bool) → tells given.affine a ≡ t → (t || settled (functions_of_rows rest) a) ≡ true → (settled (functions_of_rows rest) a ≡ true → IsCovered rest a) → IsCovered (given ∷ rest) a
  first true tell settle later = told_function given (given ∷ rest) a (0, omega arith, refl) tell
  first false tell settle later = covered_behind given rest a (later settle)

module _ (rows : List Row) (row : Row) where
  implied_true : (this that : Bool) → settled (functions_of_rows rows) row.affine ≡ this → cond this (Some true) (cond that (Some false) None) ≡ Some true → IsCovered rows row.affine
  implied_true true that is settle = settled_told rows row.affine is
  implied_true false true is settle = absurd (let wrong : Some false ≡ Some true = settle in cc)
  implied_true false false is settle = absurd (cc)

  implied_false : (this that : Bool) → settled (functions_of_rows rows) (complement_of row.affine) ≡ that → cond this (Some true) (cond that (Some false) None) ≡ Some false → IsCovered rows (complement_of row.affine)
  implied_false true that is settle = absurd (let wrong : Some true ≡ Some false = settle in cc)
  implied_false false true is settle = settled_told rows (complement_of row.affine) is
  implied_false false false is settle = absurd (cc)

  settles_true : settles rows row ≡ Some true → IsCovered rows row.affine
  settles_true = implied_true (settled (functions_of_rows rows) row.affine) (settled (functions_of_rows rows) (complement_of row.affine)) refl

  settles_false : settles rows row ≡ Some false → IsCovered rows (complement_of row.affine)
  settles_false = implied_false (settled (functions_of_rows rows) row.affine) (settled (functions_of_rows rows) (complement_of row.affine)) refl

complement_implied : (rows : List Row) (row : Row) (kind : RowKind) → AreComplements (Kept row) kind → IsCovered rows (complement_of row.affine) → IsImplied rows kind
complement_implied rows row Always are covered = absurd are
complement_implied rows row Never are covered = absurd are
complement_implied rows row (Kept other) are covered = subst (IsCovered rows) (sym are) covered

never_implied : (rows : List Row) (kind : RowKind) → AreComplements Never kind → IsImplied rows kind
never_implied rows Always are = tt
never_implied rows Never are = absurd are
never_implied rows (Kept other) are = absurd are

implied_side : (sets : Option (ℕ × Affine)) (a : Affine) (row : Row) (rows : List Row) (holds : Bool) → IfSome sets (λ s. s.0 < 16) → Forms (asked (moved_by sets a)) (Ok (Kept row)) → settles rows row ≡ Some holds
    → IsImplied rows (row_kind_of (exact (moved_by sets (side_of a holds))))
implied_side sets a row rows true low forms is = subst (IsImplied rows) forms.0 (settles_true rows row is)
implied_side sets a row rows false low forms is =
    complement_implied rows row (row_kind_of (exact (moved_by sets (complement_of a))))
    (subst (λ kind. AreComplements kind (row_kind_of (exact (moved_by sets (complement_of a))))) (sym forms.0) (moved_complements sets a low)) (settles_false rows row is)

pub row_settled : (sets : Option (ℕ × Affine)) (a : Affine) (row : Row) (rows : List Row) (found : Option Bool) → IfSome sets (λ s. s.0 < 16) → Forms (asked (moved_by sets a)) (Ok (Kept row)) → found ≡ settles rows row
    → IfSome found (λ holds. IsSettled rows sets a holds)
row_settled sets a row rows None low forms is = tt
row_settled sets a row rows (Some holds) low forms is = record {
  implied = implied_side sets a row rows holds low forms (sym is);
  excluded = settled_excludes sets a row rows holds low forms (sym is);
}

pub always_settled : (sets : Option (ℕ × Affine)) (a : Affine) (rows : List Row) → IfSome sets (λ s. s.0 < 16) → Forms (asked (moved_by sets a)) (Ok Always) → IsSettled rows sets a true
always_settled sets a rows low forms = record { implied = subst (IsImplied rows) forms.0 tt; excluded = always_excludes sets a rows low forms }

pub never_settled : (sets : Option (ℕ × Affine)) (a : Affine) (rows : List Row) → IfSome sets (λ s. s.0 < 16) → Forms (asked (moved_by sets a)) (Ok Never) → IsSettled rows sets a false
never_settled sets a rows low forms = record {
  implied = never_implied rows (row_kind_of (exact (moved_by sets (complement_of a)))) (subst (λ kind. AreComplements kind (row_kind_of (exact (moved_by sets (complement_of a))))) (sym forms.0) (moved_complements sets a low));
  excluded = never_excludes sets a rows forms;
}

-- what rows settle, more rows settle
covered_longer : (old new : List Row) → take (length old) new ≡ old → (a : Affine) → IsCovered old a → IsCovered new a
covered_longer old new is a covered = record {
  row = covered.row;
  row_in = subst (λ all. Contains all covered.row) (take-append-drop (length old) new)
      (Contains-append_left (take (length old) new) (drop (length old) new) covered.row (subst (λ all. Contains all covered.row) (sym is) covered.row_in));
  part = covered.part;
  tighter = covered.tighter;
}

longer_met : (old new : List Row) (store : List ℤ) → take (length old) new ≡ old → MeetsAll store new → MeetsAll store old
longer_met old new store is met = all_of (λ (row : Row). Meets store row) old (λ row member. member_of (λ (row : Row). Meets store row) new row met
    (subst (λ all. Contains all row) (take-append-drop (length old) new)
    (Contains-append_left (take (length old) new) (drop (length old) new) row (subst (λ all. Contains all row) (sym is) member))))

implied_longer : (old new : List Row) → take (length old) new ≡ old → (kind : RowKind) → IsImplied old kind → IsImplied new kind
implied_longer old new is Always implied = tt
implied_longer old new is Never implied = implied
implied_longer old new is (Kept row) implied = covered_longer old new is row.affine implied

settled_longer : (old new : List Row) (sets : Option (ℕ × Affine)) (a : Affine) (holds : Bool) → take (length old) new ≡ old → IsSettled old sets a holds → IsSettled new sets a holds
settled_longer old new sets a holds is settles = record {
  implied = implied_longer old new is (row_kind_of (exact (moved_by sets (side_of a holds)))) settles.implied;
  excluded = λ store met. settles.excluded store (longer_met old new store is met);
}

-- ---- parts to which rows lead

-- what is asked on the side needn't come
implied_held : (asks : List Formed) (a : Formed) (rows : List Row) (wide : Option Wide) → Held (all_asked asks) rows wide → IsImplied rows (row_kind_of (exact a)) → Held (all_asked (asks ++ a ∷ [])) rows wide
implied_held asks a rows wide held implied = subst (λ items. Held items rows wide) (sym (asked_more asks a)) (by_kind (row_kind_of (exact a)) refl implied) where
  by_kind : (kind : RowKind) → row_kind_of (exact a) ≡ kind → IsImplied rows kind → Held (all_asked asks ++ asked a ∷ []) rows wide
  by_kind Always is implied = held_more (all_asked asks) rows wide (asked a) (Ok Always) rows wide held (sym is, refl) (refl, refl, refl)
  by_kind Never is implied = absurd implied
  by_kind (Kept row) is implied = held_told (all_asked asks) rows wide (asked a) row held is refl implied

module _ {R : Type 0} (sets : Option (ℕ × Affine)) where
  pub leads_here : (rows : List Row) (plan : Plan R) → LeadsTo rows sets plan plan
  leads_here rows (branch row this that) = inl refl
  leads_here rows bottom = refl
  leads_here rows (top cause) = refl
  leads_here rows (leaf why rank) = refl

  pub leads_on : (rows : List Row) (plan part further : Plan R) → LeadsTo rows sets plan part → LeadsTo rows sets part further → LeadsTo rows sets plan further
  leads_on rows (branch row this that) part further (inl is) next = subst (λ p. LeadsTo rows sets p further) is next
  leads_on rows (branch row this that) part further (inr (inl first)) next = inr (inl (first.0, leads_on rows this part further first.1 next))
  leads_on rows (branch row this that) part further (inr (inr first)) next = inr (inr (first.0, leads_on rows that part further first.1 next))
  leads_on rows bottom part further is next = subst (λ p. LeadsTo rows sets p further) is next
  leads_on rows (top cause) part further is next = subst (λ p. LeadsTo rows sets p further) is next
  leads_on rows (leaf why rank) part further is next = subst (λ p. LeadsTo rows sets p further) is next

  -- the part is no greater
  pub leads_size : (rows : List Row) (plan part : Plan R) → LeadsTo rows sets plan part → size_of part ≤ size_of plan
  leads_size rows (branch row this that) part (inl is) = subst (λ p. size_of p ≤ size_of (branch row this that)) (sym is) (omega arith)
  leads_size rows (branch row this that) part (inr (inl first)) = let low = leads_size rows this part first.1 in omega (arith, low)
  leads_size rows (branch row this that) part (inr (inr first)) = let low = leads_size rows that part first.1 in omega (arith, low)
  leads_size rows bottom part is = subst (λ p. size_of p ≤ 1) (sym is) (omega arith)
  leads_size rows (top cause) part is = subst (λ p. size_of p ≤ 1) (sym is) (omega arith)
  leads_size rows (leaf why rank) part is = subst (λ p. size_of p ≤ 1) (sym is) (omega arith)

  pub leads_side : (rows : List Row) (row : Row) (this that : Plan R) (holds : Bool) → IsSettled rows sets row.affine holds → LeadsTo rows sets (branch row this that) (cond holds this that)
  leads_side rows row this that true settles = inr (inl (settles, leads_here rows this))
  leads_side rows row this that false settles = inr (inr (settles, leads_here rows that))

  pub leads_longer : (old new : List Row) (plan part : Plan R) → take (length old) new ≡ old → LeadsTo old sets plan part → LeadsTo new sets plan part
  leads_longer old new (branch row this that) part is (inl same) = inl same
  leads_longer old new (branch row this that) part is (inr (inl first)) = inr (inl (settled_longer old new sets row.affine true is first.0, leads_longer old new this part is first.1))
  leads_longer old new (branch row this that) part is (inr (inr first)) = inr (inr (settled_longer old new sets row.affine false is first.0, leads_longer old new that part is first.1))
  leads_longer old new bottom part is same = same
  leads_longer old new (top cause) part is same = same
  leads_longer old new (leaf why rank) part is same = same

-- ---- parts that are told, by whatever tells their plans

module _ {R X : Type 0} (plan_in : X → Plan R) (sets : Option (ℕ × Affine)) (plan : Plan R) where
  -- any rows lead into the whole
  pub whole_leads : (rows : List Row) (told : Option X) → IfSome told (λ t. plan_in t ≡ plan) → IfSome told (λ t. LeadsTo rows sets plan (plan_in t))
  whole_leads rows None is = tt
  whole_leads rows (Some t) is = subst (LeadsTo rows sets plan) (sym is) (leads_here sets rows plan)

  -- where rows lead, more rows lead
  pub told_longer : (old new : List Row) (told : Option X) → take (length old) new ≡ old → IfSome told (λ t. LeadsTo old sets plan (plan_in t))
      → IfSome told (λ t. LeadsTo new sets plan (plan_in t))
  told_longer old new None is leads = tt
  told_longer old new (Some t) is leads = leads_longer sets old new plan (plan_in t) is leads

  pub told_same : (old new : List Row) (told : Option X) → new ≡ old → IfSome told (λ t. LeadsTo old sets plan (plan_in t))
      → IfSome told (λ t. LeadsTo new sets plan (plan_in t))
  told_same old new told is leads = subst (λ rows. IfSome told (λ t. LeadsTo rows sets plan (plan_in t))) (sym is) leads

module _ {R : Type 0} (ranks : Ranks R) (edge : ℕ) (sets : Option (ℕ × Affine)) where
  module _ (limit : Option R) (rows : List Row) (wide : Option Wide) (refuted : Bool) (found : Option Finding) where
    abbrev Searched : Plan R → List Formed → Type 0
    Searched plan asks = IsSearched ranks (systems_behind edge sets limit plan asks) refuted found

    -- the first side is searched, and no store comes to the other
    first_side : (row : Row) (this that : Plan R) (asks : List Formed) (answer : Bool) → All (HasNoStore ranks) (systems_behind edge sets limit that (asks ++ moved_by sets (side_of row.affine false) ∷ []))
        → IsSearched ranks (systems_behind edge sets limit this (asks ++ moved_by sets (side_of row.affine true) ∷ [])) answer found
        → IsSearched ranks (systems_behind edge sets limit (branch row this that) asks) answer found
    first_side row this that asks true none searched =
        searched_first ranks (systems_behind edge sets limit this (asks ++ moved_by sets (side_of row.affine true) ∷ []))
        (systems_behind edge sets limit that (asks ++ moved_by sets (side_of row.affine false) ∷ [])) found searched
    first_side row this that asks false none searched =
        All-append (HasNoStore ranks) (systems_behind edge sets limit this (asks ++ moved_by sets (side_of row.affine true) ∷ []))
        (systems_behind edge sets limit that (asks ++ moved_by sets (side_of row.affine false) ∷ [])) searched none

    pub leads_searched : (plan part : Plan R) → LeadsTo rows sets plan part → ((asks : List Formed) → Held (all_asked asks) rows wide → Searched part asks)
        → (asks : List Formed) → Held (all_asked asks) rows wide → Searched plan asks
    leads_searched (branch row this that) part (inl is) search asks held = subst (λ p. Searched p asks) is (search asks held)
    leads_searched (branch row this that) part (inr (inl first)) search asks held =
        first_side row this that asks refuted
        (nowhere_behind ranks edge sets limit that (asks ++ moved_by sets (side_of row.affine false) ∷ [])
        (excluded_nowhere rows asks (moved_by sets (side_of row.affine false)) held.among first.0.excluded))
        (leads_searched this part first.1 search (asks ++ moved_by sets (side_of row.affine true) ∷ [])
        (implied_held asks (moved_by sets (side_of row.affine true)) rows wide held first.0.implied))
    leads_searched (branch row this that) part (inr (inr first)) search asks held =
        searched_then ranks (systems_behind edge sets limit this (asks ++ moved_by sets (side_of row.affine true) ∷ []))
        (systems_behind edge sets limit that (asks ++ moved_by sets (side_of row.affine false) ∷ [])) refuted None found
        (nowhere_behind ranks edge sets limit this (asks ++ moved_by sets (side_of row.affine true) ∷ [])
        (excluded_nowhere rows asks (moved_by sets (side_of row.affine true)) held.among first.0.excluded))
        (leads_searched that part first.1 search (asks ++ moved_by sets (side_of row.affine false) ∷ [])
        (implied_held asks (moved_by sets (side_of row.affine false)) rows wide held first.0.implied))
    leads_searched bottom part is search asks held = subst (λ p. Searched p asks) is (search asks held)
    leads_searched (top cause) part is search asks held = subst (λ p. Searched p asks) is (search asks held)
    leads_searched (leaf why rank) part is search asks held = subst (λ p. Searched p asks) is (search asks held)
