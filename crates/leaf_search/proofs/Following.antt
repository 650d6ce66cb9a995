-- The arcs of a label, and the rows that they ask for.
use Rattle.std.proofs.Common.{◌≡◌, ℕ, zero, suc, ◌+◌, ◌<◌, ◌≤◌, Bool, true, false, List, [], ◌∷◌, ◌++◌, length, map, take, drop, get_or, All, Option, None, Some, Result, Ok, refl, sym, ap, subst, ◌∙◌, arith}
use Rattle.std.proofs.lemmas.List.{append_assoc, append-nil, map-append, take_all, take-append-drop}
use Rattle.linear_cons.specs.declared.affine.Affine.{Affine}
use Rattle.linear_cons.specs.declared.bounds.Linear.{Linear}
use Rattle.linear_cons.specs.Functions.{variable_at}
use Rattle.linear_cons.specs.declared.exact.Wide.{Wide}
use Rattle.linear_cons.specs.declared.row.Row.{Row}
use Rattle.linear_cons.specs.declared.row.RowKind.{RowKind}
use Rattle.linear_cons.specs.Rows.{row_kind_of}
use Rattle.linear_solve.proofs.Lists.{take_snoc}
use Rattle.std.proofs.lemmas.Grind.{flat_map-append}
use Rattle.decision_tree.specs.declared.rank.Rank.{Ghosts as Ranks}
use Rattle.decision_tree.specs.declared.tree.Tree.{Tree}
use Rattle.decision_tree.specs.Plans.{bottom, plan_of}
use Rattle.tree_support.specs.Arcs.{Arc, above_end, below_end, choosing, rows_given}
use Rattle.tree_support.specs.Setting.{Trees, trees_in}
use Rattle.constraint_stack.specs.Claims.{HasNoStore}
use Rattle.constraint_stack.specs.declared.finding.Finding.{Finding}
use Rattle.leaf_search.specs.Arcs.{over_arc, over_each}
use Rattle.constraint_stack.specs.Searches.{IsSearched}
use Rattle.leaf_search.specs.Walks.{systems_behind}
use Rattle.constraint_stack.specs.Forming.{Formed, given}
use Rattle.constraint_stack.specs.Stacks.{Adds, AreFormed, Held, IsMetNowhere, all_asked, asked}
use Rattle.constraint_stack.proofs.Choosing.{nowhere_with}
use Rattle.constraint_stack.proofs.Holding.{held_more, nowhere_added}
use Rattle.leaf_search.proofs.Walking.{asked_more, searched_first, searched_then}

-- ---- rows that are asked for, one after the other

given_more : (asks : List Formed) (rows : List Row) (i : ℕ) (row : Row) → i < length rows → row ≡ get_or rows i row → all_asked (asks ++ rows_given (take (i + 1) rows)) ≡ all_asked (asks ++ rows_given (take i rows)) ++ asked (given row.affine) ∷ []
given_more asks rows i row low is =
    ap (λ taken. all_asked (asks ++ rows_given taken)) (take_snoc rows i row low is)
    ∙ ap (λ rest. all_asked (asks ++ rest)) (map-append (λ (row : Row). given row.affine) (take i rows) (row ∷ []))
    ∙ ap all_asked (sym (append_assoc asks (rows_given (take i rows)) (given row.affine ∷ [])))
    ∙ asked_more (asks ++ rows_given (take i rows)) (given row.affine)

pub row_held : (asks : List Formed) (rows : List Row) (i : ℕ) (row : Row) (kind : RowKind) (held_rows new : List Row) (wide wider : Option Wide) → i < length rows → row ≡ get_or rows i row → kind ≡ row_kind_of row.affine → Held (all_asked (asks ++ rows_given (take i rows))) held_rows wide → Adds (Ok kind) held_rows wide true new wider → Held (all_asked (asks ++ rows_given (take (i + 1) rows))) new wider
row_held asks rows i row kind held_rows new wide wider low is forms held adds =
    subst (λ items. Held items new wider) (sym (given_more asks rows i row low is)) (held_more (all_asked (asks ++ rows_given (take i rows))) held_rows wide (asked (given row.affine)) (Ok kind) new wider held (forms, refl) adds)

pub row_nowhere : (asks : List Formed) (rows : List Row) (i : ℕ) (row : Row) (kind : RowKind) (held_rows new : List Row) (wide wider : Option Wide) → i < length rows → row ≡ get_or rows i row → kind ≡ row_kind_of row.affine → Held (all_asked (asks ++ rows_given (take i rows))) held_rows wide → Adds (Ok kind) held_rows wide false new wider → IsMetNowhere (all_asked (asks ++ rows_given rows))
row_nowhere asks rows i row kind held_rows new wide wider low is forms held adds =
    let front : IsMetNowhere (all_asked (asks ++ rows_given (take (i + 1) rows))) =
    subst IsMetNowhere (sym (given_more asks rows i row low is)) (nowhere_added (all_asked (asks ++ rows_given (take i rows))) held_rows wide (asked (given row.affine)) (Ok kind) new wider held (forms, refl) adds)
    in
    let whole : all_asked (asks ++ rows_given rows) ≡ all_asked (asks ++ rows_given (take (i + 1) rows)) ++ all_asked (rows_given (drop (i + 1) rows)) =
    ap (λ all. all_asked (asks ++ rows_given all)) (sym (take-append-drop (i + 1) rows))
    ∙ ap (λ rest. all_asked (asks ++ rest)) (map-append (λ (row : Row). given row.affine) (take (i + 1) rows) (drop (i + 1) rows))
    ∙ ap all_asked (sym (append_assoc asks (rows_given (take (i + 1) rows)) (rows_given (drop (i + 1) rows))))
    ∙ map-append (λ a. asked a) (asks ++ rows_given (take (i + 1) rows)) (rows_given (drop (i + 1) rows))
    in
    subst IsMetNowhere (sym whole) (nowhere_with (all_asked (asks ++ rows_given (take (i + 1) rows))) (all_asked (rows_given (drop (i + 1) rows))) front)

pub row_end : (asks : List Formed) (rows held_rows : List Row) (wide : Option Wide) (i : ℕ) → length rows ≤ i → Held (all_asked (asks ++ rows_given (take i rows))) held_rows wide → Held (all_asked (asks ++ rows_given rows)) held_rows wide
row_end asks rows held_rows wide i end held = subst (λ all. Held (all_asked (asks ++ rows_given all)) held_rows wide) (take_all i rows end) held

pub row_none : (asks : List Formed) (rows held_rows : List Row) (wide : Option Wide) → Held (all_asked asks) held_rows wide → Held (all_asked (asks ++ rows_given (take 0 rows))) held_rows wide
row_none asks rows held_rows wide held = subst (λ all. Held (all_asked all) held_rows wide) (sym (append-nil asks)) held

-- past the last tree nothing is defined
pub past_none : {R : Type 0} (trees : List (Tree R)) (label : ℕ) → length trees ≤ label → trees_in (map plan_of trees) label ≡ bottom
past_none [] label past = refl
past_none (tree ∷ trees) zero past = absurd (omega (arith, past))
past_none (tree ∷ trees) (suc label) past = past_none trees label (omega (arith, past))

-- ---- an end

pub end_held : (asks ends : List Formed) (formed : Result RowKind Wide) (rows new : List Row) (wide wider : Option Wide) → AreFormed ends (Some formed) → Held (all_asked asks) rows wide → Adds formed rows wide true new wider → Held (all_asked (asks ++ ends)) new wider
end_held asks [] formed rows new wide wider are held adds = absurd are
end_held asks (a ∷ []) formed rows new wide wider are held adds =
    subst (λ items. Held items new wider) (sym (asked_more asks a)) (held_more (all_asked asks) rows wide (asked a) formed new wider held are adds)
end_held asks (a ∷ b ∷ more) formed rows new wide wider are held adds = absurd are

pub end_nowhere : (asks ends : List Formed) (formed : Result RowKind Wide) (rows new : List Row) (wide wider : Option Wide) → AreFormed ends (Some formed) → Held (all_asked asks) rows wide → Adds formed rows wide false new wider → IsMetNowhere (all_asked (asks ++ ends))
end_nowhere asks [] formed rows new wide wider are held adds = absurd are
end_nowhere asks (a ∷ []) formed rows new wide wider are held adds =
    subst IsMetNowhere (sym (asked_more asks a)) (nowhere_added (all_asked asks) rows wide (asked a) formed new wider held are adds)
end_nowhere asks (a ∷ b ∷ more) formed rows new wide wider are held adds = absurd are

pub end_none : (asks ends : List Formed) (rows : List Row) (wide : Option Wide) → AreFormed ends None → Held (all_asked asks) rows wide → Held (all_asked (asks ++ ends)) rows wide
end_none asks [] rows wide are held = subst (λ all. Held (all_asked all) rows wide) (sym (append-nil asks)) held
end_none asks (a ∷ []) rows wide are held = absurd are
end_none asks (a ∷ b ∷ more) rows wide are held = absurd are

pub nowhere_more : (asks more : List Formed) → IsMetNowhere (all_asked asks) → IsMetNowhere (all_asked (asks ++ more))
nowhere_more asks more none = subst IsMetNowhere (sym (map-append (λ a. asked a) asks more)) (nowhere_with (all_asked asks) (all_asked more) none)

-- ---- the arcs of an edge

-- the arc of one conjunction of a test
abbrev pub testing_rows : ℕ → ℕ → List Row → Arc
testing_rows edge next rows = record { edge = edge; target = next; asks = rows_given rows; sets = None }

module _ {R : Type 0} (ranks : Ranks R) where
  module _ (family : Trees R) (limit : Option R) (made : List Row → Arc) (list : List (List Row)) (i : ℕ) where
    arcs_more : (rows : List Row) (asks : List Formed) → i < length list → rows ≡ get_or list i rows → over_each family limit (map made (take (i + 1) list)) asks ≡ over_each family limit (map made (take i list)) asks ++ over_arc family limit asks (made rows)
    arcs_more rows asks low is =
        ap (λ taken. over_each family limit (map made taken) asks) (take_snoc list i rows low is)
        ∙ ap (λ arcs. over_each family limit arcs asks) (map-append made (take i list) (rows ∷ []))
        ∙ flat_map-append (λ (arc : Arc). over_arc family limit asks arc) (map made (take i list)) (map made (rows ∷ []))
        ∙ ap (λ rest. over_each family limit (map made (take i list)) asks ++ rest) (append-nil (over_arc family limit asks (made rows)))

    pub arcs_searched : (rows : List Row) (asks : List Formed) (refuted : Bool) (before found : Option Finding) → i < length list → rows ≡ get_or list i rows → IsSearched ranks (over_each family limit (map made (take i list)) asks) false before → IsSearched ranks (over_arc family limit asks (made rows)) refuted found → IsSearched ranks (over_each family limit (map made (take (i + 1) list)) asks) refuted found
    arcs_searched rows asks refuted before found low is none here =
        subst (λ systems. IsSearched ranks systems refuted found) (sym (arcs_more rows asks low is))
        (searched_then ranks (over_each family limit (map made (take i list)) asks) (over_arc family limit asks (made rows)) refuted before found none here)

    pub arcs_found : (asks : List Formed) (found : Option Finding) → IsSearched ranks (over_each family limit (map made (take i list)) asks) true found → IsSearched ranks (over_each family limit (map made list) asks) true found
    arcs_found asks found searched =
        subst (λ systems. IsSearched ranks systems true found)
        (sym (ap (λ all. over_each family limit (map made all) asks) (sym (take-append-drop i list))
        ∙ ap (λ arcs. over_each family limit arcs asks) (map-append made (take i list) (drop i list))
        ∙ flat_map-append (λ (arc : Arc). over_arc family limit asks arc) (map made (take i list)) (map made (drop i list))))
        (searched_first ranks (over_each family limit (map made (take i list)) asks) (over_each family limit (map made (drop i list)) asks) found searched)

    pub arcs_end : (asks : List Formed) → length list ≤ i → All (HasNoStore ranks) (over_each family limit (map made (take i list)) asks) → All (HasNoStore ranks) (over_each family limit (map made list) asks)
    arcs_end asks end all = subst (λ taken. All (HasNoStore ranks) (over_each family limit (map made taken) asks)) (take_all i list end) all

  -- one arc
  pub one_searched : (family : Trees R) (limit : Option R) (arc : Arc) (asks : List Formed) (refuted : Bool) (found : Option Finding) → IsSearched ranks (over_arc family limit asks arc) refuted found → IsSearched ranks (over_each family limit (arc ∷ []) asks) refuted found
  one_searched family limit arc asks refuted found searched = subst (λ systems. IsSearched ranks systems refuted found) (sym (append-nil (over_arc family limit asks arc))) searched

  -- an arc that asks for nothing
  pub unasked_searched : (family : Trees R) (limit : Option R) (edge label : ℕ) (sets : Option (ℕ × Affine)) (asks : List Formed) (refuted : Bool) (found : Option Finding) → IsSearched ranks (systems_behind edge sets limit (family label) asks) refuted found → IsSearched ranks (over_each family limit (record { edge = edge; target = label; asks = []; sets = sets } ∷ []) asks) refuted found
  unasked_searched family limit edge label sets asks refuted found searched =
      one_searched family limit (record { edge = edge; target = label; asks = []; sets = sets }) asks refuted found
      (subst (λ all. IsSearched ranks (systems_behind edge sets limit (family label) all) refuted found) (sym (append-nil asks)) searched)

  -- an assignment of a chosen value that meets rows
  pub chosen_searched : (family : Trees R) (limit : Option R) (x next : ℕ) (value : Linear) (rows : List Row) (asks : List Formed) (refuted : Bool) (found : Option Finding) → IsSearched ranks (systems_behind 0 (Some (x, variable_at 15)) limit (family next) (((asks ++ above_end value.affine value.lo) ++ below_end value.affine value.hi) ++ rows_given rows)) refuted found → IsSearched ranks (over_arc family limit asks (choosing x next value rows)) refuted found
  chosen_searched family limit x next value rows asks refuted found searched =
      subst (λ all. IsSearched ranks (systems_behind 0 (Some (x, variable_at 15)) limit (family next) all) refuted found)
      (append_assoc (asks ++ above_end value.affine value.lo) (below_end value.affine value.hi) (rows_given rows)
      ∙ append_assoc asks (above_end value.affine value.lo) (below_end value.affine value.hi ++ rows_given rows))
      searched

  -- the two edges of a test
  pub test_searched : (family : Trees R) (limit : Option R) (first second : List Arc) (asks : List Formed) (refuted : Bool) (found : Option Finding) → All (HasNoStore ranks) (over_each family limit first asks) → IsSearched ranks (over_each family limit second asks) refuted found → IsSearched ranks (over_each family limit (first ++ second) asks) refuted found
  test_searched family limit first second asks refuted found none searched =
      subst (λ systems. IsSearched ranks systems refuted found) (sym (flat_map-append (λ (arc : Arc). over_arc family limit asks arc) first second))
      (searched_then ranks (over_each family limit first asks) (over_each family limit second asks) refuted None found none searched)

  pub test_found : (family : Trees R) (limit : Option R) (first second : List Arc) (asks : List Formed) (found : Option Finding) → IsSearched ranks (over_each family limit first asks) true found → IsSearched ranks (over_each family limit (first ++ second) asks) true found
  test_found family limit first second asks found searched =
      subst (λ systems. IsSearched ranks systems true found) (sym (flat_map-append (λ (arc : Arc). over_arc family limit asks arc) first second))
      (searched_first ranks (over_each family limit first asks) (over_each family limit second asks) found searched)
