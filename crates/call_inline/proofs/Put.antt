-- What a call becomes, in the parts that are added one behind the other.
use Rattle.std.proofs.Common.{◌≡◌, ℕ, ◌<◌, ◌≤◌, Option, List, ◌++◌, length, replicate, slice_index_or, sym, ap, ◌∙◌, arith}
use Rattle.step_meaning.specs.declared.statement.Stmt.{Stmt}
use Rattle.step_meaning.specs.Syntax.{Expression}
use Rattle.step_meaning.specs.Syntax as syntax
use Rattle.call_meaning.specs.declared.statement.UnitBlock.{UnitBlock}
use Rattle.call_meaning.specs.declared.statement.Func.{Func}
use Rattle.call_meaning.specs.Tables.{commands, routine, table_of, places_from, main_routine}
use Rattle.call_meaning.specs.Units.{Routine, Table}
use Rattle.call_inline.specs.Inlined.{Ending, ending_of, followed, passed, freed, all_inlined, callees}
use Rattle.call_inline.specs.Laws.Writing.{AreAdded}
use Rattle.call_inline.specs.Placed.{placed, placed_calls}
use Rattle.call_inline.proofs.Adding.{added_both, added_same}
use Rattle.call_inline.proofs.Image.{callee_known}
use Rattle.call_inline.proofs.Placing.{placed_here}
use Rattle.call_inline.proofs.Tabling.{found}

module _ (funcs : List Func) (names : List (List ℕ)) (body : UnitBlock) (n f : ℕ) (callee : Func) (below : f < n) (inside : n ≤ length funcs)
    (is : callee ≡ slice_index_or funcs f callee) where
  abbrev table : Table
  table = table_of funcs names body

  low : f < length funcs
  low = omega arith

  -- the routine of the function is made of it
  pub made_of : table f ≡ routine (table f).base callee
  made_of = found (length names) funcs (main_routine names body) f callee low ∙ ap (λ (g : Func). routine (table f).base g) (sym is)

  -- a call becomes the arguments, the variables declared without initialiser, and the body
  pub put_here : (target : Option ℕ) (arguments : List Expression) → callees table n f target arguments
      ≡ followed (passed (table f).base arguments) (followed (freed (table f).base (places_from 0 callee.free))
      (all_inlined (callees table f) (table f).base (ending_of target) (commands callee.body)))
  put_here target arguments =
      ap (λ c. c target arguments) (callee_known table n f below)
      ∙ ap (λ (r : Routine). followed (passed (table f).base arguments) (followed (freed (table f).base r.free)
      (all_inlined (callees table f) (table f).base (ending_of target) r.body))) made_of

  -- the parts that are added make it
  pub put_added : (target : Option ℕ) (arguments : List Expression) (at base count : ℕ) (ending : Ending) (back : ℕ → ℕ) (one two three four : List Stmt)
      → count ≡ callee.params → base ≡ (table f).base → ending ≡ ending_of target → back ≡ (λ own. at)
      → AreAdded (passed base arguments) (replicate count at) one two
      → AreAdded (freed base (places_from 0 callee.free)) (replicate (length (places_from 0 callee.free)) at) two three
      → AreAdded (all_inlined (callees table f) base ending (commands callee.body)) (placed (placed_calls funcs f) back callee.body) three four
      → AreAdded (callees table n f target arguments) (placed_calls funcs n f at) one four
  put_added target arguments at base count ending back one two three four many base_is ending_is back_is first second third =
      let params = passed base arguments in
      let unset = freed base (places_from 0 callee.free) in
      let rest = all_inlined (callees table f) base ending (commands callee.body) in
      let a = replicate count at in
      let b = replicate (length (places_from 0 callee.free)) at in
      let c = placed (placed_calls funcs f) back callee.body in
      let both = added_both params (followed unset rest) a (b ++ c) one two four first (added_both unset rest b c two three four second third) in
      let made = ap (λ k. followed (passed k arguments) (followed (freed k (places_from 0 callee.free)) (all_inlined (callees table f) k ending (commands callee.body)))) base_is
      ∙ ap (λ e. followed (passed (table f).base arguments) (followed (freed (table f).base (places_from 0 callee.free))
      (all_inlined (callees table f) (table f).base e (commands callee.body)))) ending_is
      ∙ sym (put_here target arguments) in
      let places = ap (λ k. replicate k at ++ (b ++ c)) many ∙ ap (λ g. replicate callee.params at ++ (b ++ placed (placed_calls funcs f) g callee.body)) back_is
      ∙ sym (placed_here funcs n f callee at below inside is) in
      added_same (followed params (followed unset rest)) (callees table n f target arguments) (a ++ (b ++ c)) (placed_calls funcs n f at) one four made places both

-- and where it makes nothing
pub callees_nothing : (table : Table) (n m f : ℕ) (target : Option ℕ) (arguments : List Expression) → f < n → f < m → callees table m f target arguments ≡ syntax.empty
    → callees table n f target arguments ≡ syntax.empty
callees_nothing table n m f target arguments below low none =
    ap (λ c. c target arguments) (callee_known table n f below ∙ sym (callee_known table m f low)) ∙ none
