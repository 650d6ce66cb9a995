-- Rows on the stack: one more is added, and what they give.
use Rattle.std.proofs.Common.{◌≡◌, ◌≢◌, ℤ, pos, true, false, List, [], ◌∷◌, ◌++◌, All, Contains, Option, None, Some, Result, Ok, Err, IfSome, sym, ap, subst, ◌∙◌, arith, ⊎_elim}
use Rattle.std.proofs.lemmas.Int.{ints}
use Rattle.std.proofs.lemmas.List.{append-nil, map-append}
use Rattle.std.proofs.lemmas.List.Elements.{All-append, All-cons, All-nil, All-push, All-weaker, Contains-append_left, Contains-append_right, Contains-push, Contains-push_cases, filter_map-append}
use Rattle.linear_cons.specs.declared.exact.Wide.{Wide}
use Rattle.linear_cons.specs.declared.row.Row.{Row}
use Rattle.linear_cons.specs.declared.row.RowKind.{RowKind}
use Rattle.linear_cons.specs.declared.row.RowKind.TheVariants.{Always, Never, Row as Kept}
use Rattle.linear_cons.specs.Exact.{IsOutside}
use Rattle.linear_cons.specs.Rows.{MeetsKind, PointMeets}
use Rattle.linear_cons.specs.Tightest.{IsCovered}
use Rattle.linear_cons.proofs.RowLaws.{opposed_never}
use Rattle.linear_solve.proofs.Lists.{all_of, in_map, member_of}
use Rattle.linear_solve.specs.Answers.{HasNoStore}
use Rattle.linear_solve.specs.Systems.{HasOpposed}
use Rattle.constraint_stack.specs.Reasons.{row_in_kind, rows_in}
use Rattle.constraint_stack.proofs.Covering.{cover_more, cover_told, covered_left, covered_self}
use Rattle.constraint_stack.specs.Stacks.{Adds, Cover, Forms, Held, IsFormed, IsMetNowhere, Item, KeepsApart, first_of, kind_of, kinds, may_form}

kinds_more : (items : List Item) (item : Item) → kinds (items ++ item ∷ []) ≡ kinds items ++ kind_of item ∷ []
kinds_more items item = map-append kind_of items (item ∷ [])

rows_more : (items : List Item) (item : Item) → rows_in (kinds (items ++ item ∷ [])) ≡ rows_in (kinds items) ++ rows_in (kind_of item ∷ [])
rows_more items item = ap rows_in (kinds_more items item) ∙ filter_map-append row_in_kind (kinds items) (kind_of item ∷ [])

-- what is asked before is asked with one item more
kinds_kept : (items : List Item) (item : Item) (kind : RowKind) → Contains (kinds items) kind → Contains (kinds (items ++ item ∷ [])) kind
kinds_kept items item kind member =
    subst (λ all. Contains all kind) (sym (kinds_more items item)) (Contains-append_left (kinds items) (kind_of item ∷ []) kind member)

pub among_more : (items : List Item) (item : Item) (rows : List Row) → All (λ row. Contains (kinds items) (Kept row)) rows → All (λ row. Contains (kinds (items ++ item ∷ [])) (Kept row)) rows
among_more items item rows among =
    All-weaker (λ (row : Row). Contains (kinds items) (Kept row)) (λ (row : Row). Contains (kinds (items ++ item ∷ [])) (Kept row)) (λ row member. kinds_kept items item (Kept row) member) rows among

formed_front : (items : List Item) (item : Item) → All IsFormed (items ++ item ∷ []) → All IsFormed items
formed_front items item all = all_of IsFormed items (λ x member. member_of IsFormed (items ++ item ∷ []) x all (Contains-append_left items (item ∷ []) x member))

among_kind : (items : List Item) (item : Item) (kind : RowKind) → kind_of item ≡ kind → All (λ row. Contains (kinds (items ++ item ∷ [])) (Kept row)) (rows_in (kind ∷ []))
among_kind items item Always is = λ k d low. absurd (omega arith)
among_kind items item Never is = λ k d low. absurd (omega arith)
among_kind items item (Kept row) is =
    All-cons (λ (r : Row). Contains (kinds (items ++ item ∷ [])) (Kept r)) row []
    (subst (λ kind. Contains (kinds (items ++ item ∷ [])) kind) is (in_map kind_of (items ++ item ∷ []) item (Contains-push items item)))
    (All-nil (λ (r : Row). Contains (kinds (items ++ item ∷ [])) (Kept r)))

kept_in : (kind : RowKind) (row : Row) → kind ≡ Kept row → Contains (rows_in (kind ∷ [])) row
kept_in Always row is = absurd (cc)
kept_in Never row is = absurd (cc)
kept_in (Kept other) row is = (0, omega arith, let same : Some other ≡ Some row = ap row_in_kind is in cc)

outside_more : (items : List Item) (item : Item) (wide : Option Wide) → IfSome wide (λ w. IsOutside w × (All IsFormed items → ⊥)) → IfSome wide (λ w. IsOutside w × (All IsFormed (items ++ item ∷ []) → ⊥))
outside_more items item None outside = tt
outside_more items item (Some w) outside = (outside.0, λ all. outside.1 (formed_front items item all))

first_outside : (items : List Item) (item : Item) (wide : Option Wide) (w : Wide) → IfSome wide (λ w. IsOutside w × (All IsFormed items → ⊥)) → IsOutside w → (IsFormed item → ⊥) → IfSome (first_of wide w) (λ w. IsOutside w × (All IsFormed (items ++ item ∷ []) → ⊥))
first_outside items item None w before outside unformed = (outside, λ all. unformed (member_of IsFormed (items ++ item ∷ []) item all (Contains-push items item)))
first_outside items item (Some first) w before outside unformed = (before.0, λ all. before.1 (formed_front items item all))

never_none : (wide : Option Wide) (w : Wide) → first_of wide w ≡ None → ⊥
never_none None w is = absurd (cc)
never_none (Some first) w is = absurd (cc)

-- what could be formed and is met somewhere comes last
held_ok : (items : List Item) (rows : List Row) (wide : Option Wide) (item : Item) (kind : RowKind) → Held items rows wide → kind_of item ≡ kind → may_form item ≡ true → kind ≢ Never
    → KeepsApart rows (rows ++ rows_in (kind ∷ [])) → Held (items ++ item ∷ []) (rows ++ rows_in (kind ∷ [])) wide
held_ok items rows wide item kind held is may met keeps = record {
  among = All-append (λ (row : Row). Contains (kinds (items ++ item ∷ [])) (Kept row)) rows (rows_in (kind ∷ [])) (among_more items item rows held.among) (among_kind items item kind is);
  shown = λ other row member formed same. ⊎_elim
      (λ before. covered_left rows (rows_in (kind ∷ [])) row.affine (held.shown other row before formed same))
      (λ here. covered_self (rows ++ rows_in (kind ∷ [])) row (Contains-append_right rows (rows_in (kind ∷ [])) row (kept_in kind row (sym is ∙ ap kind_of here ∙ same))))
      (Contains-push_cases items item other member);
  there = λ other member formed same. ⊎_elim
      (λ before. held.there other before formed same)
      (λ here. met (sym is ∙ ap kind_of here ∙ same))
      (Contains-push_cases items item other member);
  whole = λ none. (
    subst (Cover (rows ++ rows_in (kind ∷ []))) (ap (λ k. rows_in (kinds items) ++ rows_in (k ∷ [])) (sym is) ∙ sym (rows_more items item))
        (cover_more rows (rows_in (kinds items)) (rows_in (kind ∷ [])) (held.whole none).0),
    subst (λ all. All (λ k. k ≢ Never) all) (sym (kinds_more items item)) (All-push (λ (k : RowKind). k ≢ Never) (kinds items) (kind_of item) (held.whole none).1 (λ never. met (sym is ∙ never))),
  );
  apart = keeps held.apart;
  missing = λ other member none. ⊎_elim
      (λ before. held.missing other before none)
      (λ here. absurd (let both : true ≡ false = sym may ∙ ap may_form here ∙ none in cc))
      (Contains-push_cases items item other member);
  outside = outside_more items item wide held.outside;
}

-- the first operands that left 128 bits stay, and nothing else comes
held_wide : (items : List Item) (rows : List Row) (wide : Option Wide) (item : Item) (w : Wide) → Held items rows wide → IsOutside w → (IsFormed item → ⊥) → Held (items ++ item ∷ []) rows (first_of wide w)
held_wide items rows wide item w held outside unformed = record {
  among = among_more items item rows held.among;
  shown = λ other row member formed same. ⊎_elim
      (λ before. held.shown other row before formed same)
      (λ here. absurd (unformed (subst IsFormed (sym here) formed)))
      (Contains-push_cases items item other member);
  there = λ other member formed same. ⊎_elim
      (λ before. held.there other before formed same)
      (λ here. unformed (subst IsFormed (sym here) formed))
      (Contains-push_cases items item other member);
  whole = λ none. absurd (never_none wide w none);
  apart = held.apart;
  missing = λ other member none absent. never_none wide w absent;
  outside = first_outside items item wide w held.outside outside unformed;
}

-- what could be formed and is implied needn't come
pub held_told : (items : List Item) (rows : List Row) (wide : Option Wide) (item : Item) (row : Row) → Held items rows wide → kind_of item ≡ Kept row → may_form item ≡ true
    → IsCovered rows row.affine → Held (items ++ item ∷ []) rows wide
held_told items rows wide item row held is may told = record {
  among = among_more items item rows held.among;
  shown = λ other one member formed same. ⊎_elim
      (λ before. held.shown other one before formed same)
      (λ here.
      let rows_same : Some row ≡ Some one = ap row_in_kind (sym is ∙ ap kind_of here ∙ same) in
      let row_same : row ≡ one = cc in
      subst (λ (r : Row). IsCovered rows r.affine) row_same told)
      (Contains-push_cases items item other member);
  there = λ other member formed same. ⊎_elim
      (λ before. held.there other before formed same)
      (λ here. absurd (let never : Kept row ≡ Never = sym is ∙ ap kind_of here ∙ same in cc))
      (Contains-push_cases items item other member);
  whole = λ none. (
    subst (Cover rows) (ap (λ k. rows_in (kinds items) ++ rows_in (k ∷ [])) (sym is) ∙ sym (rows_more items item))
        (cover_told rows (rows_in (kinds items)) row (held.whole none).0 told),
    subst (λ all. All (λ k. k ≢ Never) all) (sym (kinds_more items item)) (All-push (λ (k : RowKind). k ≢ Never) (kinds items) (kind_of item) (held.whole none).1 (λ never. absurd (let wrong : Kept row ≡ Never = sym is ∙ never in cc))),
  );
  apart = held.apart;
  missing = λ other member none. ⊎_elim
      (λ before. held.missing other before none)
      (λ here. absurd (let both : true ≡ false = sym may ∙ ap may_form here ∙ none in cc))
      (Contains-push_cases items item other member);
  outside = outside_more items item wide held.outside;
}

-- one more is on the stack
pub held_more : (items : List Item) (rows : List Row) (wide : Option Wide) (item : Item) (formed : Result RowKind Wide) (new : List Row) (wider : Option Wide) → Held items rows wide → Forms item formed → Adds formed rows wide true new wider → Held (items ++ item ∷ []) new wider
held_more items rows wide item (Ok Always) new wider held forms adds =
    subst (λ r. Held (items ++ item ∷ []) r wider) (append-nil rows ∙ sym adds.1)
    (subst (λ w. Held (items ++ item ∷ []) (rows ++ []) w) (sym adds.2) (held_ok items rows wide item Always held (sym forms.0) forms.1 (λ same. absurd (cc))
    (λ apart two. apart (subst HasOpposed (append-nil rows) two))))
held_more items rows wide item (Ok Never) new wider held forms adds = absurd (let wrong = adds.0 in cc)
held_more items rows wide item (Ok (Kept row)) new wider held forms adds =
    subst (λ r. Held (items ++ item ∷ []) r wider) (sym adds.0)
    (subst (λ w. Held (items ++ item ∷ []) (rows ++ row ∷ []) w) (sym adds.1) (held_ok items rows wide item (Kept row) held (sym forms.0) forms.1 (λ same. absurd (cc))
    (subst (KeepsApart rows) adds.0 adds.2)))
held_more items rows wide item (Err w) new wider held forms adds =
    subst (λ r. Held (items ++ item ∷ []) r wider) (sym adds.1)
    (subst (λ x. Held (items ++ item ∷ []) rows x) (sym adds.2) (held_wide items rows wide item w held forms.0 forms.1))

kind_met : (items : List Item) (store : List ℤ) (kind : RowKind) → All (λ kind. MeetsKind store kind) (kinds items) → Contains (kinds items) kind → MeetsKind store kind
kind_met items store kind met member = member_of (λ (kind : RowKind). MeetsKind store kind) (kinds items) kind met member

-- one more that isn't added is met nowhere with the others
pub nowhere_added : (items : List Item) (rows : List Row) (wide : Option Wide) (item : Item) (formed : Result RowKind Wide) (new : List Row) (wider : Option Wide) → Held items rows wide → Forms item formed → Adds formed rows wide false new wider → IsMetNowhere (items ++ item ∷ [])
nowhere_added items rows wide item (Ok Always) new wider held forms adds = absurd (let wrong = adds.0 in cc)
nowhere_added items rows wide item (Ok Never) new wider held forms adds = λ store met.
    subst (λ kind. MeetsKind store kind) (sym forms.0) (kind_met (items ++ item ∷ []) store (kind_of item) met (in_map kind_of (items ++ item ∷ []) item (Contains-push items item)))
nowhere_added items rows wide item (Ok (Kept row)) new wider held forms adds = λ store met.
    let here : PointMeets store (pos 1) row = subst (λ kind. MeetsKind store kind) (sym forms.0) (kind_met (items ++ item ∷ []) store (kind_of item) met (in_map kind_of (items ++ item ∷ []) item (Contains-push items item))) in
    let other : Contains (kinds (items ++ item ∷ [])) (Kept adds.0.other) = kinds_kept items item (Kept adds.0.other) (member_of (λ (r : Row). Contains (kinds items) (Kept r)) rows adds.0.other held.among adds.0.other_in) in
    opposed_never row adds.0.other adds.0.opposed store (pos 1) (omega (arith, ints)) here (kind_met (items ++ item ∷ []) store (Kept adds.0.other) met other)
nowhere_added items rows wide item (Err w) new wider held forms adds = absurd (let wrong = adds.0 in cc)

-- where no store meets the rows on the stack, none meets what they are of
pub nowhere_held : (items : List Item) (rows : List Row) (wide : Option Wide) → Held items rows wide → HasNoStore rows → IsMetNowhere items
nowhere_held items rows wide held none store met =
    none store (all_of (λ (row : Row). PointMeets store (pos 1) row) rows (λ row member. kind_met items store (Kept row) met (member_of (λ (r : Row). Contains (kinds items) (Kept r)) rows row held.among member)))
