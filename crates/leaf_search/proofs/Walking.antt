-- The walk over a tree's leaves.
use Rattle.std.proofs.Common.{◌≡◌, ℕ, ℤ, Bool, true, false, List, [], ◌∷◌, ◌++◌, All, Contains, Option, None, Some, Result, Ok, Err, IsSomeAnd, refl, sym, ap, subst, ◌∙◌, arith}
use Rattle.std.proofs.lemmas.List.{append-nil, map-append}
use Rattle.std.proofs.lemmas.List.Elements.{All-append, All-cons, All-nil, All-push, Contains-append_left, Contains-append_right}
use Rattle.linear_cons.specs.declared.affine.Affine.{Affine}
use Rattle.linear_cons.specs.declared.exact.Wide.{Wide}
use Rattle.linear_cons.specs.Exact.{IsOutside}
use Rattle.linear_cons.specs.declared.row.RowKind.{RowKind}
use Rattle.linear_cons.specs.declared.row.RowKind.TheVariants.{Always}
use Rattle.linear_cons.specs.Rows.{MeetsKind}
use Rattle.decision_tree.specs.Alternatives.{Alternatives, lists_of}
use Rattle.decision_tree.specs.declared.rank.Rank.{Ghosts as Ranks}
use Rattle.decision_tree.specs.declared.reason.Cause.{Cause}
use Rattle.decision_tree.specs.Plans.{Plan, bottom, top, leaf, branch}
use Rattle.linear_solve.proofs.Lists.{all_of, member_of}
use Rattle.constraint_stack.specs.Forming.{Formed}
use Rattle.constraint_stack.specs.Claims.{ClaimFits, HasNoStore, choices, kinds_of, Claim, System, exceeding, nothing}
use Rattle.tree_support.specs.Systems.{moved_by, plain}
use Rattle.constraint_stack.specs.declared.finding.Finding.{Finding}
use Rattle.constraint_stack.specs.Stacks.{IsMetNowhere, IsTried, Refutes, all_asked, all_chosen, asked, kind_of, kinds, unformed}
use Rattle.constraint_stack.specs.Searches.{Finds, IsClaimFormed, IsClaimTried, IsSearched}
use Rattle.leaf_search.specs.Walks.{ending, side_of, systems_behind}
use Rattle.constraint_stack.proofs.Choosing.{nowhere_with}
use Rattle.constraint_stack.proofs.Justifying.{justified, justified_unformed, kinds_with}

pub asked_more : (asks : List Formed) (a : Formed) → all_asked (asks ++ a ∷ []) ≡ all_asked asks ++ asked a ∷ []
asked_more asks a = map-append (λ a. asked a) asks (a ∷ [])

-- alternatives that can't be formed ask for nothing
unformed_met : (asks : List Formed) (store : List ℤ) → All (λ kind. MeetsKind store kind) (kinds (all_asked asks)) → All (λ kind. MeetsKind store kind) (kinds (all_asked asks ++ unformed ∷ []))
unformed_met asks store met =
    subst (λ all. All (λ kind. MeetsKind store kind) all) (sym (map-append kind_of (all_asked asks) (unformed ∷ []))) (All-push (λ (kind : RowKind). MeetsKind store kind) (kinds (all_asked asks)) Always met tt)

-- alternatives that are told where it fits
abbrev AreToldAs : Type 0 → Alternatives → Result Alternatives Wide → Type 0
AreToldAs Fits alternatives (Ok found) = Fits × (found ≡ alternatives)
AreToldAs Fits alternatives (Err wide) = IsOutside wide × (Fits → ⊥)

module _ {R : Type 0} (ranks : Ranks R) where
  -- ---- lists of systems

  finds_first : (systems more : List (System R)) (found : Option Finding) → IsSomeAnd found (λ f. Finds ranks systems f) → IsSomeAnd found (λ f. Finds ranks (systems ++ more) f)
  finds_first systems more None finds = finds
  finds_first systems more (Some f) finds = record { system = finds.system; system_in = Contains-append_left systems more finds.system finds.system_in; edge = finds.edge; justified = finds.justified }

  finds_second : (systems more : List (System R)) (found : Option Finding) → IsSomeAnd found (λ f. Finds ranks more f) → IsSomeAnd found (λ f. Finds ranks (systems ++ more) f)
  finds_second systems more None finds = finds
  finds_second systems more (Some f) finds = record { system = finds.system; system_in = Contains-append_right systems more finds.system finds.system_in; edge = finds.edge; justified = finds.justified }

  -- one was found among the first, or none among the first and what the search among the others says
  pub searched_first : (systems more : List (System R)) (found : Option Finding) → IsSearched ranks systems true found → IsSearched ranks (systems ++ more) true found
  searched_first systems more found searched = finds_first systems more found searched

  pub searched_then : (systems more : List (System R)) (refuted : Bool) (before found : Option Finding) → IsSearched ranks systems false before → IsSearched ranks more refuted found → IsSearched ranks (systems ++ more) refuted found
  searched_then systems more true before found none searched = finds_second systems more found searched
  searched_then systems more false before found none searched = All-append (HasNoStore ranks) systems more none searched

  pub searched_none : (found : Option Finding) → IsSearched ranks [] false found
  searched_none found = All-nil (HasNoStore ranks)

  -- ---- one system

  nowhere_kinds : (s : System R) (choice : List RowKind) → IsMetNowhere (all_asked s.asks ++ all_chosen choice) → (store : List ℤ) → All (λ kind. MeetsKind store kind) (kinds_of ranks s choice) → ⊥
  nowhere_kinds s choice none store met = none store (subst (λ all. All (λ kind. MeetsKind store kind) all) (sym (kinds_with s.asks choice)) met)

  -- what it asks for besides its claim is met nowhere
  pub nowhere_system : (s : System R) → IsMetNowhere (all_asked s.asks) → HasNoStore ranks s
  nowhere_system s none =
      all_of (λ (choice : List RowKind). (store : List ℤ) → All (λ kind. MeetsKind store kind) (kinds_of ranks s choice) → ⊥) (choices ranks s.claim)
      (λ choice member. nowhere_kinds s choice (nowhere_with (all_asked s.asks) (all_chosen choice) none))

  -- a system without a claim
  pub plain_searched : (edge : ℕ) (asks : List Formed) (refuted : Bool) (found : Option Finding) → IsTried (all_asked asks) edge refuted found → IsSearched ranks (plain edge asks) refuted found
  plain_searched edge asks false found none =
      All-cons (HasNoStore ranks) (record { edge = edge; asks = asks; claim = nothing }) [] (nowhere_system (record { edge = edge; asks = asks; claim = nothing }) none) (All-nil (HasNoStore ranks))
  plain_searched edge asks true None tried = tried
  plain_searched edge asks true (Some f) tried = record {
    system = record { edge = edge; asks = asks; claim = nothing };
    system_in = (0, omega arith, refl);
    edge = sym tried.0;
    justified = justified ranks (record { edge = edge; asks = asks; claim = nothing }) [] f.reason tt (0, omega arith, refl)
        (subst (λ items. Refutes items f.reason) (sym (append-nil (all_asked asks))) tried.1);
  }

  -- a claim is formed where its alternatives are told
  pub formed_as_told : (claim : Claim R) (alternatives : Alternatives) (Fits : Type 0) (told : Result Alternatives Wide)
      → choices ranks claim ≡ lists_of alternatives → (Fits → ClaimFits ranks claim) → (ClaimFits ranks claim → Fits) → AreToldAs Fits alternatives told
      → IsClaimFormed ranks claim told
  formed_as_told claim alternatives Fits (Ok found) same fits back is = (fits is.0, same ∙ ap lists_of (sym is.1))
  formed_as_told claim alternatives Fits (Err wide) same fits back is = (is.0, λ all. is.1 (back all))

  -- a system with a claim
  pub claim_searched : (edge : ℕ) (asks : List Formed) (claim : Claim R) (formed : Result Alternatives Wide) (refuted : Bool) (found : Option Finding) → IsClaimFormed ranks claim formed → IsClaimTried (all_asked asks) formed edge refuted found → IsSearched ranks (record { edge = edge; asks = asks; claim = claim } ∷ []) refuted found
  claim_searched edge asks claim (Ok alternatives) false found formed none =
      let s : System R = record { edge = edge; asks = asks; claim = claim } in
      All-cons (HasNoStore ranks) s [] (subst (λ lists. All (λ (choice : List RowKind). (store : List ℤ) → All (λ kind. MeetsKind store kind) (kinds_of ranks s choice) → ⊥) lists) (sym formed.1)
      (all_of (λ (choice : List RowKind). (store : List ℤ) → All (λ kind. MeetsKind store kind) (kinds_of ranks s choice) → ⊥) (lists_of alternatives)
      (λ choice member. nowhere_kinds s choice (member_of (λ (choice : List RowKind). IsMetNowhere (all_asked asks ++ all_chosen choice)) (lists_of alternatives) choice none member)))) (All-nil (HasNoStore ranks))
  claim_searched edge asks claim (Ok alternatives) true None formed tried = tried
  claim_searched edge asks claim (Ok alternatives) true (Some f) formed tried = record {
    system = record { edge = edge; asks = asks; claim = claim };
    system_in = (0, omega arith, refl);
    edge = sym tried.0;
    justified = justified ranks (record { edge = edge; asks = asks; claim = claim }) tried.1.0 f.reason formed.0 (subst (λ lists. Contains lists tried.1.0) (sym formed.1) tried.1.1) tried.1.2;
  }
  claim_searched edge asks claim (Err w) false found formed none =
      let s : System R = record { edge = edge; asks = asks; claim = claim } in
      All-cons (HasNoStore ranks) s [] (nowhere_system s (λ store met. none store (unformed_met asks store met))) (All-nil (HasNoStore ranks))
  claim_searched edge asks claim (Err w) true None formed tried = tried
  claim_searched edge asks claim (Err w) true (Some f) formed tried = record {
    system = record { edge = edge; asks = asks; claim = claim };
    system_in = (0, omega arith, refl);
    edge = sym tried.0;
    justified = justified_unformed ranks (record { edge = edge; asks = asks; claim = claim }) f.reason formed.1 tried.1;
  }

  -- ---- the leaves of a tree

  ending_nowhere : (edge : ℕ) (sets : Option (ℕ × Affine)) (limit : Option R) (plan : Plan R) (asks : List Formed) → IsMetNowhere (all_asked asks) → All (HasNoStore ranks) (ending edge sets limit plan asks)
  ending_nowhere edge sets None (leaf why rank) asks none = All-nil (HasNoStore ranks)
  ending_nowhere edge sets (Some limit) (leaf why rank) asks none = All-cons (HasNoStore ranks) (record { edge = edge; asks = asks; claim = exceeding rank sets limit }) [] (nowhere_system (record { edge = edge; asks = asks; claim = exceeding rank sets limit }) none) (All-nil (HasNoStore ranks))
  ending_nowhere edge sets None bottom asks none = plain_searched edge asks false None none
  ending_nowhere edge sets None (top cause) asks none = plain_searched edge asks false None none
  ending_nowhere edge sets None (branch row this that) asks none = plain_searched edge asks false None none
  ending_nowhere edge sets (Some limit) bottom asks none = plain_searched edge asks false None none
  ending_nowhere edge sets (Some limit) (top cause) asks none = plain_searched edge asks false None none
  ending_nowhere edge sets (Some limit) (branch row this that) asks none = plain_searched edge asks false None none

  nowhere_asked : (asks : List Formed) (a : Formed) → IsMetNowhere (all_asked asks) → IsMetNowhere (all_asked (asks ++ a ∷ []))
  nowhere_asked asks a none = subst IsMetNowhere (sym (asked_more asks a)) (nowhere_with (all_asked asks) (asked a ∷ []) none)

  -- behind what is met nowhere no system has a store
  pub nowhere_behind : (edge : ℕ) (sets : Option (ℕ × Affine)) (limit : Option R) (plan : Plan R) (asks : List Formed) → IsMetNowhere (all_asked asks) → All (HasNoStore ranks) (systems_behind edge sets limit plan asks)
  nowhere_behind edge sets limit (branch row this that) asks none =
      All-append (HasNoStore ranks) (systems_behind edge sets limit this (asks ++ moved_by sets (side_of row.affine true) ∷ [])) (systems_behind edge sets limit that (asks ++ moved_by sets (side_of row.affine false) ∷ []))
      (nowhere_behind edge sets limit this (asks ++ moved_by sets (side_of row.affine true) ∷ []) (nowhere_asked asks (moved_by sets (side_of row.affine true)) none))
      (nowhere_behind edge sets limit that (asks ++ moved_by sets (side_of row.affine false) ∷ []) (nowhere_asked asks (moved_by sets (side_of row.affine false)) none))
  nowhere_behind edge sets limit bottom asks none = ending_nowhere edge sets limit bottom asks none
  nowhere_behind edge sets limit (top cause) asks none = ending_nowhere edge sets limit (top cause) asks none
  nowhere_behind edge sets limit (leaf why rank) asks none = ending_nowhere edge sets limit (leaf why rank) asks none

  -- an undefined leaf
  pub bottom_searched : (edge : ℕ) (sets : Option (ℕ × Affine)) (limit : Option R) (asks : List Formed) (refuted : Bool) (found : Option Finding) → IsTried (all_asked asks) edge refuted found → IsSearched ranks (systems_behind edge sets limit bottom asks) refuted found
  bottom_searched edge sets None asks refuted found tried = plain_searched edge asks refuted found tried
  bottom_searched edge sets (Some limit) asks refuted found tried = plain_searched edge asks refuted found tried

  pub top_searched : (cause : Cause) (edge : ℕ) (sets : Option (ℕ × Affine)) (limit : Option R) (asks : List Formed) (refuted : Bool) (found : Option Finding) → IsTried (all_asked asks) edge refuted found → IsSearched ranks (systems_behind edge sets limit (top cause) asks) refuted found
  top_searched cause edge sets None asks refuted found tried = plain_searched edge asks refuted found tried
  top_searched cause edge sets (Some limit) asks refuted found tried = plain_searched edge asks refuted found tried
