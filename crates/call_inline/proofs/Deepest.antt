-- Levels, list of calls after list, and function after function.
use Rattle.std.proofs.Common.{◌≡◌, ℕ, suc, ◌+◌, ◌<◌, nat_lt, Bool, true, false, if◌then◌else◌, List, [], ◌∷◌, ◌++◌, length, get_or, drop, None, Some, max, refl, sym, ap, ◌∙◌, add-one}
use Rattle.std.proofs.Math.Seq.{drop-cons, drop-length}
use Rattle.call_meaning.specs.declared.statement.UnitBlock.{UnitBlock}
use Rattle.call_meaning.specs.declared.statement.Func.{Func}
use Rattle.call_inline.specs.Levels.{Called, reach, calls_in, deepest, first_deep, or_else, deep_call}

pub deepest_both : (levels : List ℕ) (own : ℕ) (calls more : List Called) → deepest levels own (calls ++ more) ≡ deepest levels (deepest levels own calls) more
deepest_both levels own [] more = refl
deepest_both levels own (c ∷ calls) more = deepest_both levels (max own (reach levels c)) calls more

pub none_both : (levels : List ℕ) (calls more : List Called) → first_deep levels calls ≡ None → first_deep levels (calls ++ more) ≡ first_deep levels more
none_both levels [] more h = refl
none_both levels (c ∷ calls) more h = step (nat_lt 64 (reach levels c)) (none_both levels calls more) h
  where
    step : (b : Bool) → (first_deep levels calls ≡ None → first_deep levels (calls ++ more) ≡ first_deep levels more)
        → (if b then Some c.at else first_deep levels calls) ≡ None
        → (if b then Some c.at else first_deep levels (calls ++ more)) ≡ first_deep levels more
    step true rest h = absurd (cc)
    step false rest h = rest h

pub some_both : (levels : List ℕ) (calls more : List Called) (at : ℕ) → first_deep levels calls ≡ Some at → first_deep levels (calls ++ more) ≡ Some at
some_both levels [] more at h = absurd (cc)
some_both levels (c ∷ calls) more at h = step (nat_lt 64 (reach levels c)) (some_both levels calls more at) h
  where
    step : (b : Bool) → (first_deep levels calls ≡ Some at → first_deep levels (calls ++ more) ≡ Some at)
        → (if b then Some c.at else first_deep levels calls) ≡ Some at
        → (if b then Some c.at else first_deep levels (calls ++ more)) ≡ Some at
    step true rest h = h
    step false rest h = rest h

-- the items from one on are that one and those behind it
pub drop_here : {A : Type 0} (items : List A) (i : ℕ) (item : A) → i < length items → item ≡ get_or items i item → drop i items ≡ item ∷ drop (i + 1) items
drop_here items i item low is = drop-cons items i item low ∙ ap (λ x. x ∷ drop (suc i) items) (sym is) ∙ ap (λ k. item ∷ drop k items) (sym (add-one i))

module _ (levels : List ℕ) (funcs : List Func) (i : ℕ) (f : Func) (low : i < length funcs) (is : f ≡ get_or funcs i f) (body : UnitBlock) where
  -- where no call of the function is too deep
  pub next_deep : (next : List ℕ) → first_deep levels (calls_in f.body) ≡ None → next ≡ levels ++ deepest levels f.levels (calls_in f.body) ∷ []
      → deep_call next (drop (i + 1) funcs) body ≡ deep_call levels (drop i funcs) body
  next_deep next none more =
      ap (λ l. deep_call l (drop (i + 1) funcs) body) more
      ∙ sym (ap (λ first. or_else first (deep_call (levels ++ deepest levels f.levels (calls_in f.body) ∷ []) (drop (i + 1) funcs) body)) none)
      ∙ sym (ap (λ left. deep_call levels left body) (drop_here funcs i f low is))

  -- where one is
  pub here_deep : (at : ℕ) → first_deep levels (calls_in f.body) ≡ Some at → deep_call levels (drop i funcs) body ≡ Some at
  here_deep at some =
      ap (λ left. deep_call levels left body) (drop_here funcs i f low is)
      ∙ ap (λ first. or_else first (deep_call (levels ++ deepest levels f.levels (calls_in f.body) ∷ []) (drop (i + 1) funcs) body)) some

-- behind all functions comes `main`
pub last_deep : (levels : List ℕ) (funcs : List Func) (i : ℕ) (body : UnitBlock) → i ≡ length funcs → deep_call levels (drop i funcs) body ≡ first_deep levels (calls_in body)
last_deep levels funcs i body is = ap (λ k. deep_call levels (drop k funcs) body) is ∙ ap (λ left. deep_call levels left body) (drop-length funcs)
