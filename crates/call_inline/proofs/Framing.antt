-- Runs of frames with stores of their own and runs of the program without calls are in step.
use Rattle.std.proofs.Common.{◌≡◌, ◌↔◌, ℕ, zero, suc, ◌+◌, ◌<◌, ◌+ℤ◌, ◌*ℤ◌, nat_eq, nat_lt, Bool, true, false, ◌&&◌, IsTrue, List, [], ◌∷◌, length, inl, inr, refl, sym, ap, ◌∙◌, subst, append-nil, arith}
use Rattle.std.proofs.lemmas.Bool.{lt-ltb, ltb-true}
use Rattle.std.proofs.lemmas.Bool.Decides.{eqb_tells, leb_tells}
use Rattle.linear_cons.specs.declared.affine.Affine.{Affine}
use Rattle.linear_cons.specs.Functions.{IsOver, value_at}
use Rattle.linear_cons.specs.Numbers.{number_at}
use Rattle.linear_cons.proofs.Forms.{products_same}
use Rattle.linear_cons.proofs.Ring.{zero_mul}
use Rattle.linear_cons.proofs.Sums.{value_is}
use Rattle.step_meaning.specs.Outcome.{Store}
use Rattle.step_meaning.specs.Step.{Configuration, programs}
use Rattle.step_meaning.specs.Run as runs
use Rattle.ctl_formula.specs.Formulas.{Ctl}
use Rattle.ctl_formula.specs.Satisfaction as satisfaction
use Rattle.call_meaning.specs.Units.{Table}
use Rattle.call_inline.specs.Inlined.{inlined_body}
use Rattle.call_meaning.specs.Frames.{tasks_of, Frame, Stack, whole_store, start}
use Rattle.call_inline.proofs.OneStore.{Shared}
use Rattle.call_inline.proofs.OneStore as shared
use Rattle.call_meaning.specs.Reads.{Places, all_of, IsTidy}
use Rattle.call_meaning.specs.Validity.{AreRoutines}
use Rattle.call_meaning.specs.Runs.{framed}
use Rattle.step_meaning.specs.Systems.{EndsWithin, Longest}
use Rattle.ctl_formula.specs.Systems.{Sat, Within}
use Rattle.ctl_formula.specs.Bisimulations.{IsBisimulation}
use Rattle.ctl_formula.specs.Rows.{EachRow}
use Rattle.call_inline.proofs.Standing.{FramesStand}
use Rattle.call_inline.proofs.Stepping.{InStep}
use Rattle.ctl_formula.proofs.Agreeing.{flipped, same_ends, same_sat, same_within}
use Rattle.call_inline.proofs.Whole.{in_step, starts}
use Rattle.call_inline.proofs.Setting.{none, TodoSet, todo_before, always}
use Rattle.call_inline.proofs.Owning.{bare, Known, StackAgrees, Joined, out_steps, in_steps, settle_out, settle_in, done_out, done_in}

-- two stores that agree on the first variables give a function over these the same value
value_alike : (vars : ℕ) (s t : Store) (a : Affine) → IsOver vars a → ((y : ℕ) → y < vars → number_at s y ≡ number_at t y) → value_at a s ≡ value_at a t
value_alike vars s t a over same =
    value_is a.coef a.constant s
    ∙ ap (λ p. p +ℤ a.constant) (products_same 16 a.coef a.coef s t (λ i low. elim (leb_tells vars i) [
      | inr inside ↦ ap (λ n. number_at a.coef i *ℤ n) (same i (let no = inside.1 in omega arith))
      | inl past ↦
          (let none = over.past i past.1 in
          ap (λ n. n *ℤ number_at s i) none ∙ zero_mul (number_at s i) ∙ sym (ap (λ n. n *ℤ number_at t i) none ∙ zero_mul (number_at t i)))
    ]))
    ∙ sym (value_is a.coef a.constant t)

and_right : (a b : Bool) → IsTrue (a && b) → IsTrue b
and_right true b h = h
and_right false b h = absurd (cc)

module _ (table : Table) (main : ℕ) (routines : AreRoutines table main) (tidy : IsTidy table main) (fresh : Store) (wide : length fresh ≡ 16) where
  -- of `main`'s variables the stores agree
  whole_alike : (below : Stack) (known : List Known) (a : Frame) (s : Store) → StackAgrees table main tidy fresh wide known (a ∷ below) s
      → (y : ℕ) → y < (table main).vars → number_at (whole_store (a ∷ below)) y ≡ number_at s y
  whole_alike below [] a s h y low = absurd h
  whole_alike [] (known ∷ more) a s h y low =
      let is : a.function ≡ main = h.1 in
      let shown : IsTrue (always table main main y) = elim (eqb_tells main main) [ inl same ↦ rw (same.0, lt-ltb y (table main).vars low) refl | inr other ↦ absurd (other.1 refl) ] in
      let there = h.0.same y (h.0.low y (h.0.whole y (subst (λ k. IsTrue (always table main k y)) (sym is) shown))) in
      there ∙ ap (λ k. number_at s ((table k).base + y)) is ∙ ap (λ b. number_at s (b + y)) tidy.first ∙ ap (λ n. number_at s n) (omega arith)
  whole_alike (b ∷ below) (known ∷ more) a s h y low = whole_alike below more b s h.2 y low

  main_alike : (c : Stack) (f : Shared) (d : Configuration) → Joined table main tidy fresh wide c f → InStep table main f d
      → (y : ℕ) → y < (table main).vars → number_at (whole_store c) y ≡ number_at d.store y
  main_alike [] f d join step y low = absurd (subst (λ fs. FramesStand table main fs) join.frames step.stand)
  main_alike (a ∷ below) f d join step y low = whole_alike below join.known a f.store join.agree y low ∙ ap (λ s. number_at s y) (sym step.store)

  -- frames and the program without calls are in step where frames over one store are between them
  pub record Framing (c : Stack) (d : Configuration) : Type 0 where
    pub between : Shared
    pub join : Joined table main tidy fresh wide c between
    pub step : InStep table main between d

  abbrev Asked : Affine → Type 0
  Asked a = IsOver (table main).vars a

  -- what one store's frames are joined with, along an equation of frames
  pub in_step_framed : IsBisimulation (framed table fresh) programs (λ a. IsOver (table main).vars a) Framing
  in_step_framed =
      let plain = in_step table main routines (λ a. IsOver (table main).vars a) in
      record {
        values = λ a over c d r. value_alike (table main).vars (whole_store c) d.store a over (main_alike c r.between d r.join r.step);
        ends = λ c d r final.
            let stands = subst (λ fs. FramesStand table main fs) r.join.frames r.step.stand in
            let after = settle_out table main tidy fresh wide routines c final.0 r.between.store r.join.known r.join.agree stands final.1 in
            plain.ends r.between d r.step
            (bare final.0, subst (λ fs. shared.Settles table fs (bare final.0)) (sym r.join.frames) after.0, done_out table main tidy fresh wide final.0 final.2);
        ends_back = λ c d r final.
            let found = plain.ends_back r.between d r.step final in
            let after = settle_in table main tidy fresh wide routines r.between.frames found.0 c r.between.store r.join.known r.join.frames r.join.agree r.step.stand found.1 in
            (after.0, after.1, done_in table main tidy fresh wide after.0 (subst (λ fs. shared.AreDone fs) after.2 found.2));
        steps = λ c d r e step.
            let stands = subst (λ fs. FramesStand table main fs) r.join.frames r.step.stand in
            let after = settle_out table main tidy fresh wide routines c step.0 r.between.store r.join.known r.join.agree stands step.1 in
            let out = out_steps table main tidy fresh wide r.between.store r.join.long step.0 e after.1 after.2 step.2 in
            let other = plain.steps r.between d r.step out.0
            (bare step.0, subst (λ fs. shared.Settles table fs (bare step.0)) (sym r.join.frames) after.0, out.1) in
            (other.0, other.1, record { between = out.0; join = out.2; step = other.2 });
        steps_back = λ c d r e step.
            let found = plain.steps_back r.between d r.step e step in
            let settle = found.1 in
            let after = settle_in table main tidy fresh wide routines r.between.frames settle.0 c r.between.store r.join.known r.join.frames r.join.agree r.step.stand settle.1 in
            let inner = in_steps table main tidy fresh wide r.between.store r.join.long after.0 found.0 after.3 after.4
            (subst (λ fs. shared.FramesStep table fs r.between.store found.0) after.2 settle.2) in
            (inner.0, (after.0, after.1, inner.1), record { between = found.0; join = inner.2; step = found.2 });
      }

  -- From `main`'s part of an input: its other places, and those of the store with which `main`'s frame begins, hold anything.
  module _ (input mine : Store) (long : length input ≡ 16) (own_long : length mine ≡ 16)
      (same : (y : ℕ) → y < (table main).vars → number_at mine y ≡ number_at input y) where
    pub framing_starts : Framing (start table main mine) (runs.start (inlined_body table main) input)
    framing_starts =
        let body = (table main).body in
        let all : Places = all_of (table main) in
        record {
          between = shared.start table main input;
          join = record {
            frames = refl;
            long = long;
            known = record { marked = all; here = all } ∷ [];
            agree = (
              record {
                inside = omega arith;
                places = own_long;
                bound = λ y shown. ltb-true y (table main).vars shown;
                low = λ y shown. shown;
                whole = λ y shown. and_right (nat_eq main main) (nat_lt y (table main).vars) shown;
                same = λ y shown. same y (ltb-true y (table main).vars shown) ∙ ap (λ n. number_at input n) (let first = tidy.first in omega arith);
                set = subst (λ todo. TodoSet table main main none all all todo) (append-nil (tasks_of body))
                    (todo_before table main main none all all body [] tidy.whole tt);
              },
              refl,
              tt,
            );
          };
          step = starts table main routines input;
        }

    pub ends_alike : (n : ℕ) → EndsWithin (framed table fresh) n (start table main mine) ↔ runs.EndsWithin n (runs.start (inlined_body table main) input)
    ends_alike n =
        let there = start table main mine in
        let here = runs.start (inlined_body table main) input in (
          same_ends (framed table fresh) programs Asked Framing in_step_framed n there here framing_starts,
          same_ends programs (framed table fresh) Asked (λ d c. Framing c d) (flipped (framed table fresh) programs Asked Framing in_step_framed) n here there framing_starts,
        )

    pub longest_alike : (n : ℕ) → Longest (framed table fresh) n (start table main mine) ↔ runs.Longest n (runs.start (inlined_body table main) input)
    longest_alike zero = ends_alike zero
    longest_alike (suc n) = (
      (λ h. ((ends_alike (suc n)).0 h.0, λ shorter. h.1 ((ends_alike n).1 shorter))),
      (λ h. ((ends_alike (suc n)).1 h.0, λ shorter. h.1 ((ends_alike n).0 shorter))),
    )

    pub satisfied_alike : (f : Ctl) → EachRow (λ a. IsOver (table main).vars a) f
        → Sat (framed table fresh) f (start table main mine) ↔ satisfaction.Sat f (runs.start (inlined_body table main) input)
    satisfied_alike f rows =
        let there = start table main mine in
        let here = runs.start (inlined_body table main) input in (
          same_sat f (framed table fresh) programs Asked Framing in_step_framed rows there here framing_starts,
          same_sat f programs (framed table fresh) Asked (λ d c. Framing c d) (flipped (framed table fresh) programs Asked Framing in_step_framed) rows here there framing_starts,
        )

    pub within_alike : (n : ℕ) (f : Ctl) → EachRow (λ a. IsOver (table main).vars a) f
        → Within (framed table fresh) n f (start table main mine) ↔ satisfaction.Within n f (runs.start (inlined_body table main) input)
    within_alike n f rows =
        let there = start table main mine in
        let here = runs.start (inlined_body table main) input in (
          same_within n f (framed table fresh) programs Asked Framing in_step_framed rows there here framing_starts,
          same_within n f programs (framed table fresh) Asked (λ d c. Framing c d) (flipped (framed table fresh) programs Asked Framing in_step_framed) rows here there framing_starts,
        )
