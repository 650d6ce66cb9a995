use Rattle.std.proofs.Common.{◌≡◌, ℕ, ◌+◌, ◌<◌, ◌≤◌, ◌∷◌, [], ◌++◌, IsTrue, length, length-append, slice_index_or, take, vec_items, ap, sym, subst, ◌∙◌, add-one, arith}
use Rattle.std.proofs.lemmas.List.{length-map}
use Rattle.call_meaning.specs.Tables.{main_routine}
use Rattle.call_inline.specs.Laws.Standing.{IsIdle, routines}
use Rattle.call_inline.proofs.Idling.{AreKnown, more_known, known_made, known_places}
use Rattle.call_inline.proofs.Tabling.{vars_of, whole_counted, based, vars_more, vars_within, bases_more}
use Rattle.call_inline.proofs.layout.Layout.of.Goals as goal

-- the sums so far, and with one function more
module _ (c : goal.After-items-in-loop-func) where
  abbrev i : ℕ
  i = c.loop-func.func-index

  own : length c.items-in-loop-func.result.now ≡ length c.func-item.result.names
  own = sym (length-map c.items-in-loop-func.result.now vec_items) ∙ ap length c.items-in-loop-func.ensures

  low : i < length c.args.unit.now.funcs
  low = omega (arith, ap length c.items-func-items.ensures)

  is : c.func-item.result ≡ slice_index_or c.args.unit.now.funcs i c.func-item.result
  is = c.func-item.is ∙ ap (λ l. slice_index_or l i c.func-item.result) c.items-func-items.ensures

  more : vars_of (take (i + 1) c.args.unit.now.funcs) ≡ vars_of (take i c.args.unit.now.funcs) + length c.func-item.result.names
  more = vars_more c.args.unit.now.funcs i c.func-item.result low is

  few : length c.args.unit.now.names + vars_of (take (i + 1) c.args.unit.now.funcs) ≤ 15
  few =
      let unit = c.args.unit.now in
      let all = whole_counted unit.func_names unit.funcs unit.names unit.valid.named in
      let within = vars_within unit.funcs (i + 1) in
      let most = unit.valid.few in
      omega arith

pub overflow_cast-base-in-loop-func : goal.overflow_cast-base-in-loop-func
overflow_cast-base-in-loop-func c = let a = own c in let b = more c in let d = few c in omega arith

pub overflow_add-base : goal.overflow_add-base
overflow_add-base c = let a = own c in let b = more c in let d = few c in let h = c.loop-func.invariant.base in omega arith

pub loop-func-preserved : goal.loop-func-preserved
loop-func-preserved c =
    let unit = c.args.unit.now in
    let n = i c in
    let h = c.loop-func.invariant in
    let bases = c.in_ok-push.ensures.items in
    let idle = c.in_ok-push-2.ensures.items in
    let main = main_routine unit.names unit.body in
    let told = subst (λ l. IsTrue c.is_idle-makes_nothing.result → IsIdle l c.func-item.result) c.deref.ensures.value c.is_idle-makes_nothing.ensures in
    let known = more_known unit.func_names unit.funcs unit.names unit.body unit.valid n c.loop-func.idle.items c.func-item.result c.is_idle-makes_nothing.result (low c) (is c)
    h.idle_long told h.known in
    let known_at = subst (λ k. AreKnown (routines unit) unit.funcs k (c.loop-func.idle.items ++ c.is_idle-makes_nothing.result ∷ [])) (sym (add-one n)) known in
    record {
      base = (let a = own c in let b = more c in let s = h.base in omega arith);
      bases_long = (let s = h.bases_long in omega (arith, ap length bases, length-append c.loop-func.bases.items (c.loop-func.base ∷ [])));
      idle_long = (let s = h.idle_long in omega (arith, ap length idle, length-append c.loop-func.idle.items (c.is_idle-makes_nothing.result ∷ [])));
      bases = bases_more (λ k. (routines unit k).base) c.loop-func.bases.items c.push.new.self.items n c.loop-func.base h.bases_long bases
          (h.base ∙ sym (based (length unit.names) unit.funcs main n (low c))) h.bases;
      known = subst (λ l. AreKnown (routines unit) unit.funcs (n + 1) l) (sym idle) known_at;
    }

pub returns : goal.returns
returns c =
    let unit = c.args.unit.now in
    let h = c.loop-func.invariant in
    let all : c.loop-func.func-index ≡ length unit.funcs = omega (arith, ap length c.items-func-items.ensures) in
    let known = subst (λ k. AreKnown (routines unit) unit.funcs k c.loop-func.idle.items) all h.known in
    record {
      bases = λ f low. h.bases f (omega arith);
      made = known_made (routines unit) unit.funcs (length unit.funcs) c.loop-func.idle.items known;
      placed = known_places (routines unit) unit.funcs (length unit.funcs) c.loop-func.idle.items known;
    }
