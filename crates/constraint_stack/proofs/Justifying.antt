-- What rows on the stack give is a reason against the system that they are of.
use Rattle.std.proofs.Common.{◌≡◌, ◌≢◌, ℤ, inl, inr, List, [], ◌∷◌, ◌++◌, map, All, Contains, Option, None, Some, refl, sym, ap, subst, ◌∙◌, arith, ⊎_elim}
use Rattle.std.proofs.lemmas.List.{map-append}
use Rattle.std.proofs.lemmas.List.Elements.{All-append, All-cons, All-head, All-nil, All-tail, Contains-append_left, Contains-append_right, Contains-push, filter_map-append}
use Rattle.linear_cons.specs.declared.exact.Wide.{Wide}
use Rattle.linear_cons.specs.declared.row.Row.{Row}
use Rattle.linear_cons.specs.declared.row.RowKind.{RowKind}
use Rattle.linear_cons.specs.declared.row.RowKind.TheVariants.{Always, Never, Row as Kept}
use Rattle.linear_cons.specs.Rows.{PointMeetsAll, PointMeetsKind, row_kind_of}
use Rattle.linear_cons.specs.Tightest.{IsCovered}
use Rattle.linear_solve.proofs.Lists.{in_map}
use Rattle.decision_tree.specs.declared.rank.Rank.{Ghosts as Ranks}
use Rattle.constraint_stack.specs.declared.reason.Reason.{Reason}
use Rattle.constraint_stack.specs.declared.reason.Reason.TheVariants.{Point, Wide as TooWide, Rows}
use Rattle.constraint_stack.specs.Reasons.{IsOpen, IsSeen, IsWhole, Justifies, Shows, row_in_kind, rows_in, rows_of}
use Rattle.constraint_stack.specs.Forming.{Formed, FormsWhole, exact}
use Rattle.constraint_stack.specs.Claims.{ClaimFits, choices, kinds_of, System}
use Rattle.constraint_stack.proofs.Covering.{cover_met, cover_octagons, cover_outgrows, cover_overflows, cover_reasonable, covered_opposed}
use Rattle.constraint_stack.specs.Stacks.{Cover, Gives, GivesWith, Held, IsFormed, Item, Refutes, all_asked, all_chosen, asked, chosen, kind_of, kinds, unformed}

kinds_asked : (asks : List Formed) → kinds (all_asked asks) ≡ map (λ a. row_kind_of (exact a)) asks
kinds_asked [] = refl
kinds_asked (a ∷ asks) = ap (λ rest. row_kind_of (exact a) ∷ rest) (kinds_asked asks)

kinds_chosen : (choice : List RowKind) → kinds (all_chosen choice) ≡ choice
kinds_chosen [] = refl
kinds_chosen (kind ∷ choice) = ap (λ rest. kind ∷ rest) (kinds_chosen choice)

pub kinds_with : (asks : List Formed) (choice : List RowKind) → kinds (all_asked asks ++ all_chosen choice) ≡ map (λ a. row_kind_of (exact a)) asks ++ choice
kinds_with asks choice =
    map-append kind_of (all_asked asks) (all_chosen choice)
    ∙ ap (λ front. front ++ kinds (all_chosen choice)) (kinds_asked asks)
    ∙ ap (λ rest. map (λ a. row_kind_of (exact a)) asks ++ rest) (kinds_chosen choice)

-- a point that meets the rows meets all kinds, where none of them is never met
point_kinds : (all : List RowKind) (num : List ℤ) (den : ℤ) → All (λ kind. kind ≢ Never) all → PointMeetsAll num den (rows_in all) → All (λ kind. PointMeetsKind num den kind) all
point_kinds [] num den some met = All-nil (λ (kind : RowKind). PointMeetsKind num den kind)
point_kinds (Always ∷ all) num den some met =
    All-cons (λ (kind : RowKind). PointMeetsKind num den kind) Always all tt (point_kinds all num den (All-tail (λ (kind : RowKind). kind ≢ Never) Always all some) met)
point_kinds (Never ∷ all) num den some met = absurd (All-head (λ (kind : RowKind). kind ≢ Never) Never all some refl)
point_kinds (Kept row ∷ all) num den some met =
    All-cons (λ (kind : RowKind). PointMeetsKind num den kind) (Kept row) all (met 0 row (omega arith))
    (point_kinds all num den (All-tail (λ (kind : RowKind). kind ≢ Never) (Kept row) all some) (All-tail (λ (row : Row). PointMeetsKind num den (Kept row)) row (rows_in all) met))

module _ {R : Type 0} (ranks : Ranks R) where
  -- the items are those of the system with the list
  record Stands (s : System R) (choice : List RowKind) (items : List Item) : Type 0 where
    same : rows_in (kinds items) ≡ rows_of ranks s choice
    asks : (a : Formed) → Contains s.asks a → Contains items (asked a)
    picks : ClaimFits ranks s.claim → (kind : RowKind) → Contains choice kind → Contains items (chosen kind)
    whole : IsWhole ranks s → All IsFormed items

  shown_row : (s : System R) (choice : List RowKind) (items : List Item) (rows : List Row) (wide : Option Wide) → Stands s choice items → Held items rows wide → (row : Row) → Shows ranks s choice (Kept row) → IsCovered rows row.affine
  shown_row s choice items rows wide stands held row shows = ⊎_elim
      (λ here. held.shown (asked here.0) row (stands.asks here.0 here.1) here.2 here.3)
      (λ here. held.shown (chosen (Kept row)) row (stands.picks here.0 (Kept row) here.1) tt refl)
      shows

  open_held : (s : System R) (choice : List RowKind) (items : List Item) (rows : List Row) (wide : Option Wide) → Stands s choice items → Held items rows wide → IsOpen ranks s choice
  open_held s choice items rows wide stands held = record {
    there = λ shows. ⊎_elim
        (λ here. held.there (asked here.0) (stands.asks here.0 here.1) here.2 here.3)
        (λ here. held.there (chosen Never) (stands.picks here.0 Never here.1) tt refl)
        shows;
    apart = λ row other first second opposed. held.apart
        (covered_opposed rows row other (shown_row s choice items rows wide stands held row first) (shown_row s choice items rows wide stands held other second) opposed);
  }

  rows_cover : (s : System R) (choice : List RowKind) (items : List Item) (rows : List Row) → Stands s choice items → Held items rows None → Cover rows (rows_of ranks s choice)
  rows_cover s choice items rows stands held = subst (Cover rows) stands.same (held.whole refl).0

  by_wide : (s : System R) (choice : List RowKind) (items : List Item) (rows : List Row) (w : Wide) (reason : Reason) → Stands s choice items → Held items rows (Some w) → reason ≡ TooWide w → IsSeen ranks s choice → Justifies ranks reason s
  by_wide s choice items rows w reason stands held gives seen =
      subst (λ r. Justifies ranks r s) (sym gives)
      (held.outside.0, (choice, seen, open_held s choice items rows (Some w) stands held, inl (λ whole. held.outside.1 (stands.whole whole))))

  by_rows : (s : System R) (choice : List RowKind) (items : List Item) (rows : List Row) (reason : Reason) → Stands s choice items → Held items rows None → Gives rows reason → IsSeen ranks s choice → Contains (choices ranks s.claim) choice → kinds items ≡ kinds_of ranks s choice → Justifies ranks reason s
  by_rows s choice items rows (Point num den) stands held gives seen member all =
      let kinds_met = point_kinds (kinds items) num den (held.whole refl).1 (cover_met rows (rows_in (kinds items)) num den (held.whole refl).0 gives.0) in
      let reasonable = cover_reasonable rows (rows_of ranks s choice) den (rows_cover s choice items rows stands held) gives.1 in
      (gives.0.positive, (choice, member, subst (λ each. All (λ kind. PointMeetsKind num den kind) each) all kinds_met, reasonable))
  by_rows s choice items rows (TooWide w) stands held gives seen member all =
      let cover = rows_cover s choice items rows stands held in
      let all = rows_of ranks s choice in
      (gives.0, (choice, seen, open_held s choice items rows None stands held, inr (cover_octagons rows all cover gives.1, cover_outgrows rows all cover gives.2)))
  by_rows s choice items rows (Rows count) stands held gives seen member all =
      let cover = rows_cover s choice items rows stands held in
      let all = rows_of ranks s choice in
      let few = cover.few in
      let many = ⊎_elim (λ more. inl (omega (arith, more, few))) (λ more. inr (cover_octagons rows all cover more.0, cover_overflows rows all cover more.1)) gives.1 in
      (gives.0, (choice, member, open_held s choice items rows None stands held, many))

  stands_fit : (s : System R) (choice : List RowKind) → ClaimFits ranks s.claim → Stands s choice (all_asked s.asks ++ all_chosen choice)
  stands_fit s choice fits = record {
    same = ap rows_in (kinds_with s.asks choice);
    asks = λ a member. Contains-append_left (all_asked s.asks) (all_chosen choice) (asked a) (in_map (λ a. asked a) s.asks a member);
    picks = λ fits kind member. Contains-append_right (all_asked s.asks) (all_chosen choice) (chosen kind) (in_map (λ kind. chosen kind) choice kind member);
    whole = λ whole. All-append IsFormed (all_asked s.asks) (all_chosen choice) (asked_formed s.asks whole.0) (chosen_formed choice);
  } where
    asked_formed : (asks : List Formed) → All FormsWhole asks → All IsFormed (all_asked asks)
    asked_formed [] all = All-nil IsFormed
    asked_formed (a ∷ asks) all = All-cons IsFormed (asked a) (all_asked asks) (All-head FormsWhole a asks all) (asked_formed asks (All-tail FormsWhole a asks all))

    chosen_formed : (choice : List RowKind) → All IsFormed (all_chosen choice)
    chosen_formed [] = All-nil IsFormed
    chosen_formed (kind ∷ choice) = All-cons IsFormed (chosen kind) (all_chosen choice) tt (chosen_formed choice)

  stands_unformed : (s : System R) → (ClaimFits ranks s.claim → ⊥) → Stands s [] (all_asked s.asks ++ unformed ∷ [])
  stands_unformed s unfit = record {
    same = ap rows_in (map-append kind_of (all_asked s.asks) (unformed ∷ []) ∙ ap (λ front. front ++ Always ∷ []) (kinds_asked s.asks))
        ∙ filter_map-append row_in_kind (map (λ a. row_kind_of (exact a)) s.asks) (Always ∷ [])
        ∙ sym (filter_map-append row_in_kind (map (λ a. row_kind_of (exact a)) s.asks) []);
    asks = λ a member. Contains-append_left (all_asked s.asks) (unformed ∷ []) (asked a) (in_map (λ a. asked a) s.asks a member);
    picks = λ fits kind member. absurd (unfit fits);
    whole = λ whole. absurd (unfit whole.1);
  }

  by_either : (s : System R) (choice : List RowKind) (items : List Item) (rows : List Row) (wide : Option Wide) (reason : Reason) → Stands s choice items → Held items rows wide → GivesWith rows wide reason → IsSeen ranks s choice → (wide ≡ None → Contains (choices ranks s.claim) choice × (kinds items ≡ kinds_of ranks s choice)) → Justifies ranks reason s
  by_either s choice items rows None reason stands held gives seen member = by_rows s choice items rows reason stands held gives seen (member refl).0 (member refl).1
  by_either s choice items rows (Some w) reason stands held gives seen member = by_wide s choice items rows w reason stands held gives seen

  -- with one of the claim's lists
  pub justified : (s : System R) (choice : List RowKind) (reason : Reason) → ClaimFits ranks s.claim → Contains (choices ranks s.claim) choice → Refutes (all_asked s.asks ++ all_chosen choice) reason → Justifies ranks reason s
  justified s choice reason fits member refutes =
      by_either s choice (all_asked s.asks ++ all_chosen choice) refutes.rows refutes.wide reason (stands_fit s choice fits) refutes.held refutes.gives
      (record { one_of = λ fits. member; unseen = λ unfit. absurd (unfit fits) }) (λ none. (member, kinds_with s.asks choice))

  -- where the claim's lists can't be formed
  pub justified_unformed : (s : System R) (reason : Reason) → (ClaimFits ranks s.claim → ⊥) → Refutes (all_asked s.asks ++ unformed ∷ []) reason → Justifies ranks reason s
  justified_unformed s reason unfit refutes =
      by_either s [] (all_asked s.asks ++ unformed ∷ []) refutes.rows refutes.wide reason (stands_unformed s unfit) refutes.held refutes.gives
      (record { one_of = λ fits. absurd (unfit fits); unseen = λ unfit. refl })
      (λ none. absurd (refutes.held.missing unformed (Contains-push (all_asked s.asks) unformed) refl none))
