-- One leaf by its why, and a step by its pick: the systems that the table of whys gives a formula are those that the part tells.
use Rattle.std.proofs.Common.{◌≡◌, ◌≢◌, ℤ, ℕ, zero, suc, ◌<◌, ◌≤◌, Bool, true, false, if◌then◌else◌, List, [], ◌∷◌, ◌++◌, length, get_or, All, Option, None, Some, refl, sym, ap, subst, ◌∙◌, arith}
use Rattle.linear_cons.specs.declared.affine.Affine.{Affine}
use Rattle.linear_cons.specs.Functions.{complement_of}
use Rattle.ctl_formula.specs.Formulas.{Ctl, exit, not_exit, both, either, next, until, weak}
use Rattle.control_flow.specs.declared.edge.Choice.{Choice}
use Rattle.control_flow.specs.declared.edge.Choice.TheVariants.{None as NoChoice, Branch, Range}
use Rattle.decision_tree.specs.declared.family.Family.{Family}
use Rattle.decision_tree.specs.declared.rank.Rank.{Ghosts as Ranks}
use Rattle.decision_tree.specs.Plans.{bottom}
use Rattle.tree_support.specs.Arcs.{Arc}
use Rattle.constraint_stack.specs.Forming.{Formed, given}
use Rattle.tree_support.specs.Setting.{Setting, Trees, trees_in}
use Rattle.constraint_stack.specs.Claims.{HasNoStore, System, unnatural}
use Rattle.tree_support.specs.Systems as systems
use Rattle.tree_support.specs.Systems.{above_range, below_range, of_arcs, of_atom, of_both, of_end, of_keep, of_now, of_outcome, of_rank, of_side, of_value, plain, undefined_at, unedged}
use Rattle.constraint_stack.specs.declared.finding.Finding.{Finding}
use Rattle.constraint_stack.specs.Stacks.{IsTried, all_asked}
use Rattle.constraint_stack.specs.Searches.{IsSearched}
use Rattle.leaf_search.specs.Operands.{families_of}
use Rattle.leaf_search.specs.declared.part.Part.{Part}
use Rattle.leaf_search.specs.declared.part.Part.TheVariants.{Next, Until, Weak}
use Rattle.leaf_search.specs.Leaves.{IsPastTried, above_ends, below_ends, where_some}
use Rattle.leaf_search.specs.Arcs.{over_each}
use Rattle.leaf_search.specs.Parts.{function, has_bound, holds_at, is_both, is_either, is_existential, is_exit, keeps, may_end, met_now, part_of}
use Rattle.leaf_search.proofs.Walking.{plain_searched, searched_first, searched_none, searched_then}

-- past the last part nothing is defined
pub past_part : {R : Type 0} (parts : List (Family R)) (number label : ℕ) → length parts ≤ number → families_of parts number label ≡ bottom
past_part [] number label past = refl
past_part (part ∷ parts) zero label past = absurd (omega (arith, past))
past_part (part ∷ parts) (suc number) label past = past_part parts number label (omega (arith, past))

pub part_is : {R : Type 0} (parts : List (Family R)) (number label : ℕ) (part : Family R) → number < length parts → part ≡ get_or parts number part
    → families_of parts number label ≡ trees_in part.trees label
part_is [] number label part low is = absurd (omega (arith, low))
part_is (first ∷ parts) zero label part low is = ap (λ (p : Family _). trees_in p.trees label) (sym is)
part_is (first ∷ parts) (suc number) label part low is = part_is parts number label part (omega (arith, low)) is

-- ---- the table by the part

module _ {R : Type 0} (at : Setting R) (asks : List Formed) where
  abbrev elsewhere : List (System R)
  elsewhere = plain unedged asks

  abbrev where_true : Bool → List (System R) → List (System R) → List (System R)
  where_true t first second = if t then first else second

  abbrev end_by : Bool → ℕ → List (System R)
  end_by t zero = where_true t [] elsewhere
  end_by t (suc label) = elsewhere

  end_of_until : (all : Bool) (f g : Ctl) (label : ℕ) → of_end at (until all f g) label asks ≡ end_by (is_exit g) label
  end_of_until all f exit zero = refl
  end_of_until all f exit (suc label) = refl
  end_of_until all f other zero = refl
  end_of_until all f other (suc label) = refl

  end_is : (f : Ctl) (label : ℕ) → of_end at f label asks ≡ end_by (may_end (part_of f)) label
  end_is exit zero = refl
  end_is exit (suc label) = refl
  end_is (until all f g) label = end_of_until all f g label
  end_is other zero = refl
  end_is other (suc label) = refl

  abbrev atom_by : Option Affine → Bool → List (System R)
  atom_by (Some a) t = plain unedged (asks ++ given (complement_of a) ∷ [])
  atom_by None t = where_true t [] elsewhere

  atom_is : (f : Ctl) (label : ℕ) → of_atom at f label asks ≡ atom_by (function (part_of f)) (holds_at (part_of f) label)
  atom_is not_exit zero = refl
  atom_is not_exit (suc label) = refl
  atom_is other label = refl

  both_is : (f : Ctl) (label : ℕ) → of_both at f label asks
      ≡ where_true (is_both (part_of f)) (undefined_at (at.parts 0 label) asks ++ undefined_at (at.parts 1 label) asks) elsewhere
  both_is (both f g) label = refl
  both_is other label = refl

  side_is : (f : Ctl) (side label : ℕ)
      → of_side at f side label asks ≡ where_true (is_either (part_of f)) (undefined_at (at.parts side label) asks) elsewhere
  side_is (either f g) side label = refl
  side_is other side label = refl

  abbrev now_by : Option ℕ → ℕ → List (System R)
  now_by (Some number) label = undefined_at (at.parts number label) asks
  now_by None label = elsewhere

  now_is : (f : Ctl) (label : ℕ) → of_now at f label asks ≡ now_by (met_now (part_of f) label) label
  now_is (next all f) zero = refl
  now_is (next all f) (suc label) = refl
  now_is other label = refl

  keep_is : (f : Ctl) (label : ℕ) → of_keep at f label asks ≡ where_true (keeps (part_of f)) (undefined_at (at.parts 0 label) asks) []
  keep_is (until all f g) label = refl
  keep_is other label = refl

  rank_is : (f : Ctl) (rank : R)
      → of_rank at f rank asks ≡ where_true (has_bound (part_of f)) (record { edge = unedged; asks = asks; claim = unnatural rank } ∷ []) []
  rank_is (until all f g) rank = refl
  rank_is other rank = refl

  kind_is : (f : Ctl) → systems.is_existential at f ≡ is_existential (part_of f)
  kind_is (next true f) = refl
  kind_is (next false f) = refl
  kind_is (until true f g) = refl
  kind_is (until false f g) = refl
  kind_is (weak true f g) = refl
  kind_is (weak false f g) = refl
  kind_is other = refl

  -- where the arcs of a step lead, and the limit there
  abbrev ahead_by : Part → Trees R → R → List Arc → List (System R)
  ahead_by (Next all) family rank arcs = over_each (at.parts 0) None arcs asks
  ahead_by (Until all ends) family rank arcs = over_each family (Some rank) arcs asks
  ahead_by (Weak all) family rank arcs = over_each family None arcs asks
  ahead_by _ family rank arcs = elsewhere

  arcs_are : (f : Ctl) (family : Trees R) (rank : R) (arcs : List Arc) → of_arcs at f family rank arcs asks ≡ ahead_by (part_of f) family rank arcs
  arcs_are (next all f) family rank arcs = refl
  arcs_are other family rank arcs = refl

-- ---- what a search says of a leaf

module _ {R : Type 0} (ranks : Ranks R) (at : Setting R) (part : Part) (is : part_of at.formula ≡ part) (asks : List Formed) where
  abbrev Tried : Bool → Option Finding → Type 0
  Tried refuted found = IsTried (all_asked asks) 2 refuted found

  moved : (list other : List (System R)) (refuted : Bool) (found : Option Finding) → list ≡ other → IsSearched ranks other refuted found
      → IsSearched ranks list refuted found
  moved list other refuted found same searched = subst (λ all. IsSearched ranks all refuted found) (sym same) searched

  by_bool : (answer : Part → Bool) (t : Bool) → answer part ≡ t → answer (part_of at.formula) ≡ t
  by_bool answer t holds = ap answer is ∙ holds

  -- of two lists that a truth value chooses between
  chosen : (list first second : List (System R)) (answer : Part → Bool) (t : Bool) → list ≡ where_true at asks (answer (part_of at.formula)) first second
      → answer part ≡ t → list ≡ where_true at asks t first second
  chosen list first second answer t same holds = same ∙ ap (λ u. where_true at asks u first second) (by_bool answer t holds)

  pub end_stands : (label : ℕ) (found : Option Finding) → label ≡ 0 → may_end part ≡ true → IsSearched ranks (of_end at at.formula label asks) false found
  end_stands label found first ends =
      subst (λ l. IsSearched ranks (of_end at at.formula l asks) false found) (sym first)
      (moved (of_end at at.formula 0 asks) [] false found (chosen (of_end at at.formula 0 asks) [] (elsewhere at asks) may_end true (end_is at asks at.formula 0) ends)
      (searched_none ranks found))

  pub end_elsewhere : (label : ℕ) (refuted : Bool) (found : Option Finding) → label ≢ 0 → Tried refuted found
      → IsSearched ranks (of_end at at.formula label asks) refuted found
  end_elsewhere zero refuted found later tried = absurd (later refl)
  end_elsewhere (suc label) refuted found later tried =
      moved (of_end at at.formula (suc label) asks) (elsewhere at asks) refuted found (end_is at asks at.formula (suc label))
      (plain_searched ranks 2 asks refuted found tried)

  pub end_fails : (label : ℕ) (refuted : Bool) (found : Option Finding) → may_end part ≡ false → Tried refuted found
      → IsSearched ranks (of_end at at.formula label asks) refuted found
  end_fails zero refuted found fails tried =
      moved (of_end at at.formula 0 asks) (elsewhere at asks) refuted found
      (chosen (of_end at at.formula 0 asks) [] (elsewhere at asks) may_end false (end_is at asks at.formula 0) fails)
      (plain_searched ranks 2 asks refuted found tried)
  end_fails (suc label) refuted found fails tried =
      moved (of_end at at.formula (suc label) asks) (elsewhere at asks) refuted found (end_is at asks at.formula (suc label))
      (plain_searched ranks 2 asks refuted found tried)

  atom_chosen : (label : ℕ) (a : Option Affine) (t : Bool) → function part ≡ a → holds_at part label ≡ t
      → of_atom at at.formula label asks ≡ atom_by at asks a t
  atom_chosen label a t own holds =
      atom_is at asks at.formula label ∙ ap (λ o. atom_by at asks o (holds_at (part_of at.formula) label)) (ap function is ∙ own)
      ∙ ap (atom_by at asks a) (ap (λ p. holds_at p label) is ∙ holds)

  pub atom_tried : (label : ℕ) (a : Affine) (refuted : Bool) (found : Option Finding) → function part ≡ Some a
      → IsTried (all_asked (asks ++ given (complement_of a) ∷ [])) 2 refuted found → IsSearched ranks (of_atom at at.formula label asks) refuted found
  atom_tried label a refuted found own tried =
      moved (of_atom at at.formula label asks) (plain unedged (asks ++ given (complement_of a) ∷ [])) refuted found
      (atom_chosen label (Some a) (holds_at part label) own refl) (plain_searched ranks 2 (asks ++ given (complement_of a) ∷ []) refuted found tried)

  pub atom_stands : (label : ℕ) (found : Option Finding) → function part ≡ None → holds_at part label ≡ true
      → IsSearched ranks (of_atom at at.formula label asks) false found
  atom_stands label found own holds =
      moved (of_atom at at.formula label asks) [] false found (atom_chosen label None true own holds) (searched_none ranks found)

  pub atom_fails : (label : ℕ) (refuted : Bool) (found : Option Finding) → function part ≡ None → holds_at part label ≡ false → Tried refuted found
      → IsSearched ranks (of_atom at at.formula label asks) refuted found
  atom_fails label refuted found own fails tried =
      moved (of_atom at at.formula label asks) (elsewhere at asks) refuted found (atom_chosen label None false own fails)
      (plain_searched ranks 2 asks refuted found tried)

  module _ (label : ℕ) where
    abbrev operand : ℕ → List (System R)
    operand number = undefined_at (at.parts number label) asks

    pub both_fails : (refuted : Bool) (found : Option Finding) → is_both part ≡ false → Tried refuted found
        → IsSearched ranks (of_both at at.formula label asks) refuted found
    both_fails refuted found fails tried =
        moved (of_both at at.formula label asks) (elsewhere at asks) refuted found
        (chosen (of_both at at.formula label asks) (operand 0 ++ operand 1) (elsewhere at asks) is_both false (both_is at asks at.formula label) fails)
        (plain_searched ranks 2 asks refuted found tried)

    both_are : is_both part ≡ true → of_both at at.formula label asks ≡ operand 0 ++ operand 1
    both_are holds = chosen (of_both at at.formula label asks) (operand 0 ++ operand 1) (elsewhere at asks) is_both true (both_is at asks at.formula label) holds

    pub both_found : (found : Option Finding) → is_both part ≡ true → IsSearched ranks (operand 0) true found
        → IsSearched ranks (of_both at at.formula label asks) true found
    both_found found holds searched =
        moved (of_both at at.formula label asks) (operand 0 ++ operand 1) true found (both_are holds)
        (searched_first ranks (operand 0) (operand 1) found searched)

    pub both_searched : (refuted : Bool) (found : Option Finding) → is_both part ≡ true → All (HasNoStore ranks) (operand 0)
        → IsSearched ranks (operand 1) refuted found → IsSearched ranks (of_both at at.formula label asks) refuted found
    both_searched refuted found holds none searched =
        moved (of_both at at.formula label asks) (operand 0 ++ operand 1) refuted found (both_are holds)
        (searched_then ranks (operand 0) (operand 1) refuted None found none searched)

    pub side_fails : (side : ℕ) (refuted : Bool) (found : Option Finding) → is_either part ≡ false → Tried refuted found
        → IsSearched ranks (of_side at at.formula side label asks) refuted found
    side_fails side refuted found fails tried =
        moved (of_side at at.formula side label asks) (elsewhere at asks) refuted found
        (chosen (of_side at at.formula side label asks) (operand side) (elsewhere at asks) is_either false (side_is at asks at.formula side label) fails)
        (plain_searched ranks 2 asks refuted found tried)

    pub side_searched : (side : ℕ) (refuted : Bool) (found : Option Finding) → is_either part ≡ true → IsSearched ranks (operand side) refuted found
        → IsSearched ranks (of_side at at.formula side label asks) refuted found
    side_searched side refuted found holds searched =
        moved (of_side at at.formula side label asks) (operand side) refuted found
        (chosen (of_side at at.formula side label asks) (operand side) (elsewhere at asks) is_either true (side_is at asks at.formula side label) holds) searched

    now_chosen : (number : Option ℕ) → met_now part label ≡ number → of_now at at.formula label asks ≡ now_by at asks number label
    now_chosen number own =
        now_is at asks at.formula label ∙ ap (λ o. now_by at asks o label) (ap (λ p. met_now p label) is ∙ own)

    pub now_fails : (refuted : Bool) (found : Option Finding) → met_now part label ≡ None → Tried refuted found
        → IsSearched ranks (of_now at at.formula label asks) refuted found
    now_fails refuted found fails tried =
        moved (of_now at at.formula label asks) (elsewhere at asks) refuted found (now_chosen None fails) (plain_searched ranks 2 asks refuted found tried)

    pub now_searched : (number : ℕ) (refuted : Bool) (found : Option Finding) → met_now part label ≡ Some number
        → IsSearched ranks (operand number) refuted found → IsSearched ranks (of_now at at.formula label asks) refuted found
    now_searched number refuted found own searched =
        moved (of_now at at.formula label asks) (operand number) refuted found (now_chosen (Some number) own) searched

    pub kept_none : (found : Option Finding) → keeps part ≡ false → IsSearched ranks (of_keep at at.formula label asks) false found
    kept_none found fails =
        moved (of_keep at at.formula label asks) [] false found
        (chosen (of_keep at at.formula label asks) (operand 0) [] keeps false (keep_is at asks at.formula label) fails) (searched_none ranks found)

    pub kept_searched : (refuted : Bool) (found : Option Finding) → keeps part ≡ true → IsSearched ranks (operand 0) refuted found
        → IsSearched ranks (of_keep at at.formula label asks) refuted found
    kept_searched refuted found holds searched =
        moved (of_keep at at.formula label asks) (operand 0) refuted found
        (chosen (of_keep at at.formula label asks) (operand 0) [] keeps true (keep_is at asks at.formula label) holds) searched

  module _ (rank : R) where
    abbrev bound : List (System R)
    bound = record { edge = unedged; asks = asks; claim = unnatural rank } ∷ []

    pub bound_none : (found : Option Finding) → has_bound part ≡ false → IsSearched ranks (of_rank at at.formula rank asks) false found
    bound_none found fails =
        moved (of_rank at at.formula rank asks) [] false found
        (chosen (of_rank at at.formula rank asks) bound [] has_bound false (rank_is at asks at.formula rank) fails) (searched_none ranks found)

    pub bound_searched : (refuted : Bool) (found : Option Finding) → has_bound part ≡ true → IsSearched ranks bound refuted found
        → IsSearched ranks (of_rank at at.formula rank asks) refuted found
    bound_searched refuted found holds searched =
        moved (of_rank at at.formula rank asks) bound refuted found
        (chosen (of_rank at at.formula rank asks) bound [] has_bound true (rank_is at asks at.formula rank) holds) searched

  -- ---- a step

  pub ahead_is : (family : Trees R) (rank : R) (arcs : List Arc) → of_arcs at at.formula family rank arcs asks ≡ ahead_by at asks part family rank arcs
  ahead_is family rank arcs = arcs_are at asks at.formula family rank arcs ∙ ap (λ p. ahead_by at asks p family rank arcs) is

  some_is : (list : List (System R)) (t : Bool) → is_existential part ≡ t → where_some at list asks ≡ where_true at asks t list (elsewhere at asks)
  some_is list t holds =
      ap (λ u. where_true at asks u list (elsewhere at asks)) (kind_is at asks at.formula ∙ by_bool is_existential t holds)

  pub some_fails : (list : List (System R)) (refuted : Bool) (found : Option Finding) → is_existential part ≡ false → Tried refuted found
      → IsSearched ranks (where_some at list asks) refuted found
  some_fails list refuted found fails tried =
      moved (where_some at list asks) (elsewhere at asks) refuted found (some_is list false fails) (plain_searched ranks 2 asks refuted found tried)

  pub some_searched : (list : List (System R)) (refuted : Bool) (found : Option Finding) → is_existential part ≡ true
      → IsSearched ranks list refuted found → IsSearched ranks (where_some at list asks) refuted found
  some_searched list refuted found holds searched =
      moved (where_some at list asks) list refuted found (some_is list true holds) searched

  pub no_outcome : (choice : Choice) (outcome : Bool) (family : Trees R) (rank : R) (label : ℕ) → choice ≢ Branch
      → of_outcome at choice outcome family rank label asks ≡ plain unedged asks
  no_outcome Branch outcome family rank label apart = absurd (apart refl)
  no_outcome NoChoice outcome family rank label apart = refl
  no_outcome (Range lo hi) outcome family rank label apart = refl

  pub no_value : (choice : Choice) (a : Affine) (family : Trees R) (rank : R) (label : ℕ) → ((lo hi : Option ℤ) → choice ≢ Range lo hi)
      → of_value at choice a family rank label asks ≡ plain unedged asks
  no_value (Range lo hi) a family rank label apart = absurd (apart lo hi refl)
  no_value NoChoice a family rank label apart = refl
  no_value Branch a family rank label apart = refl

  -- a value that may be chosen, past an end and put
  module _ (lo hi : Option ℤ) (a : Affine) (family : Trees R) (rank : R) (label : ℕ) (chosen_is : at.flow.choice label ≡ Range lo hi)
      (some : is_existential part ≡ true) where
    abbrev arcs : List (System R)
    arcs = of_arcs at at.formula family rank (at.flow.arcs_with label a) asks

    abbrev values : List (System R)
    values = of_value at (at.flow.choice label) a family rank label asks

    value_searched : (refuted : Bool) (found : Option Finding)
        → IsSearched ranks (below_range at lo a asks ++ (above_range at hi a asks ++ arcs)) refuted found
        → IsSearched ranks (where_some at values asks) refuted found
    value_searched refuted found searched =
        some_searched values refuted found some
        (moved values (below_range at lo a asks ++ (above_range at hi a asks ++ arcs)) refuted found
        (ap (λ choice. of_value at choice a family rank label asks) chosen_is) searched)

    below_searched : (end : Option ℤ) (refuted : Bool) (found : Option Finding) → IsPastTried (below_ends end a) asks refuted found
        → IsSearched ranks (below_range at end a asks) refuted found
    below_searched None false found tried = searched_none ranks found
    below_searched None true found tried = absurd (cc)
    below_searched (Some end) refuted found tried = plain_searched ranks 2 _ refuted found tried

    above_searched : (end : Option ℤ) (refuted : Bool) (found : Option Finding) → IsPastTried (above_ends end a) asks refuted found
        → IsSearched ranks (above_range at end a asks) refuted found
    above_searched None false found tried = searched_none ranks found
    above_searched None true found tried = absurd (cc)
    above_searched (Some end) refuted found tried = plain_searched ranks 2 _ refuted found tried

    pub value_below : (found : Option Finding) → IsPastTried (below_ends lo a) asks true found → IsSearched ranks (where_some at values asks) true found
    value_below found tried =
        value_searched true found
        (searched_first ranks (below_range at lo a asks) (above_range at hi a asks ++ arcs) found (below_searched lo true found tried))

    pub value_above : (before found : Option Finding) → IsPastTried (below_ends lo a) asks false before → IsPastTried (above_ends hi a) asks true found
        → IsSearched ranks (where_some at values asks) true found
    value_above before found none tried =
        value_searched true found
        (searched_then ranks (below_range at lo a asks) (above_range at hi a asks ++ arcs) true before found (below_searched lo false before none)
        (searched_first ranks (above_range at hi a asks) arcs found (above_searched hi true found tried)))

    pub value_put : (refuted : Bool) (before between found : Option Finding) → IsPastTried (below_ends lo a) asks false before
        → IsPastTried (above_ends hi a) asks false between → IsSearched ranks arcs refuted found
        → IsSearched ranks (where_some at values asks) refuted found
    value_put refuted before between found none neither searched =
        value_searched refuted found
        (searched_then ranks (below_range at lo a asks) (above_range at hi a asks ++ arcs) refuted before found (below_searched lo false before none)
        (searched_then ranks (above_range at hi a asks) arcs refuted between found (above_searched hi false between neither) searched))
