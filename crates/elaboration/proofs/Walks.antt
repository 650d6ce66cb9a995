-- Walks along parts and items: what is left finds, behind what was found, what the whole finds.
use Rattle.std.proofs.Common.{◌≡◌, ℕ, ◌<◌, ◌+◌, List, [], ◌∷◌, ◌++◌, length, drop, suc, slice_index_or, ap, sym, ◌∙◌, subst, arith}
use Rattle.std.proofs.Math.Seq.{drop-cons}
use Rattle.std.proofs.lemmas.List.{append-nil, append_assoc, map-append}
use Rattle.call_meaning.specs.declared.statement.UnitStmt.{UnitStmt}
use Rattle.call_meaning.specs.Tables.{parts}
use Rattle.call_meaning.specs.Offsets.{all_offsets, all_levels}
use Rattle.typed_expressions.specs.declared.fault.Fault.{Fault}
use Rattle.typed_expressions.specs.declared.walk.Walk.{Walk}
use Rattle.typed_expressions.specs.Scopes.{Scope}
use Rattle.typed_expressions.specs.Faults.{earliest}
use Rattle.elaboration.specs.Statements.{Walked, joined, nothing}
use Rattle.typed_expressions.specs.Offsets.{offset_in, offsets_in}
use Rattle.elaboration.specs.Walking.{HasGone, HasAdded}
use Rattle.typed_expressions.proofs.Firsts.{earliest_more}

-- the names stay
abbrev pub staying : Scope → List Fault → Walked
staying scope faults = record { scope = scope; faults = faults; body = []; tokens = []; levels = [] }

-- one walk and then another
pub both_gone : (a b c : Walk) (first : Walked) (second : Scope → Walked) → HasGone a b first → HasGone b c (second b.scope)
    → HasGone a c (joined first (second first.scope))
both_gone a b c first second one two =
    let there : HasGone b c (second first.scope) = subst (λ s. HasGone b c (second s)) one.1 two in (
      there.0 ∙ one.0,
      there.1,
      there.2 ∙ ap (λ least. earliest least (second first.scope).faults) one.2 ∙ sym (earliest_more a.least first.faults (second first.scope).faults),
    )

-- what is left finds from here on what the whole finds from the first on
pub record IsLeft (now : Walk) (out : List UnitStmt) (left : Walked) (first : Walk) (before : List UnitStmt) (whole : Walked) : Type 0 where
  pub reads : now.tokens.now ≡ first.tokens.now
  pub goes : left.scope ≡ whole.scope
  pub finds : earliest now.least left.faults ≡ earliest first.least whole.faults
  pub makes : parts out ++ left.body ≡ parts before ++ whole.body
  pub stands : all_offsets out ++ offsets_in first.tokens.now left.tokens ≡ all_offsets before ++ offsets_in first.tokens.now whole.tokens
  pub levels : all_levels out ++ left.levels ≡ all_levels before ++ whole.levels

append_step : {A : Type 0} (out out' piece more whole : List A) → out' ≡ out ++ piece → out ++ (piece ++ more) ≡ whole → out' ++ more ≡ whole
append_step out out' piece more whole is all = ap (λ t. t ++ more) is ∙ append_assoc out piece more ∙ all

-- one step of a walk
pub step_on : (now next first : Walk) (out out' before : List UnitStmt) (piece : Walked) (more : Scope → Walked) (left whole : Walked)
    → HasGone now next piece → HasAdded now out out' piece → left ≡ joined piece (more piece.scope) → IsLeft now out left first before whole
    → IsLeft next out' (more next.scope) first before whole
step_on now next first out out' before piece more left whole gone added is so_far =
    let rest = more piece.scope in
    let all : IsLeft now out (joined piece rest) first before whole = subst (λ t. IsLeft now out t first before whole) is so_far in
    rw gone.1 record {
      reads = gone.0 ∙ all.reads;
      goes = all.goes;
      finds = ap (λ t. earliest t rest.faults) gone.2 ∙ sym (earliest_more now.least piece.faults rest.faults) ∙ all.finds;
      makes = append_step (parts out) (parts out') piece.body rest.body (parts before ++ whole.body) added.0 all.makes;
      stands =
          append_step (all_offsets out) (all_offsets out') (offsets_in first.tokens.now piece.tokens) (offsets_in first.tokens.now rest.tokens)
          (all_offsets before ++ offsets_in first.tokens.now whole.tokens)
          (added.1 ∙ ap (λ t. all_offsets out ++ offsets_in t piece.tokens) all.reads)
          (ap (λ t. all_offsets out ++ t) (sym (map-append (offset_in first.tokens.now) piece.tokens rest.tokens)) ∙ all.stands);
      levels = append_step (all_levels out) (all_levels out') piece.levels rest.levels (all_levels before ++ whole.levels) added.2 all.levels;
    }

-- where nothing is left, the whole was found
pub all_gone : (now first : Walk) (out before : List UnitStmt) (whole : Walked) → IsLeft now out (nothing now.scope) first before whole
    → HasGone first now whole
all_gone now first out before whole left = (left.reads, left.goes, left.finds)

pub all_added : (now first : Walk) (out before : List UnitStmt) (whole : Walked) → IsLeft now out (nothing now.scope) first before whole
    → HasAdded first before out whole
all_added now first out before whole left = (
  sym (append-nil (parts out)) ∙ left.makes,
  sym (append-nil (all_offsets out)) ∙ left.stands,
  sym (append-nil (all_levels out)) ∙ left.levels,
)

-- where all that is left was found, the whole was
pub rest_gone : (now last first : Walk) (out before : List UnitStmt) (left whole : Walked) → IsLeft now out left first before whole → HasGone now last left
    → HasGone first last whole
rest_gone now last first out before left whole all gone = (gone.0 ∙ all.reads, gone.1 ∙ all.goes, gone.2 ∙ all.finds)

pub rest_added : (now first : Walk) (out out' before : List UnitStmt) (left whole : Walked) → IsLeft now out left first before whole → HasAdded now out out' left
    → HasAdded first before out' whole
rest_added now first out out' before left whole all added = (
  added.0 ∙ all.makes,
  added.1 ∙ ap (λ t. all_offsets out ++ offsets_in t left.tokens) all.reads ∙ all.stands,
  added.2 ∙ all.levels,
)

-- what is left of a list from a place on
pub drop_next : {A : Type 0} (xs : List A) (i : ℕ) (item : A) → i < length xs → item ≡ slice_index_or xs i item → drop i xs ≡ item ∷ drop (i + 1) xs
drop_next xs i item within is =
    let next : suc i ≡ i + 1 = omega arith in
    drop-cons xs i item within ∙ ap (λ t. t ∷ drop (suc i) xs) (sym is) ∙ ap (λ n. item ∷ drop n xs) next
