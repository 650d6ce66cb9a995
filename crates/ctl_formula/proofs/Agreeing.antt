-- States that a bisimulation joins satisfy the same formulas, within the same numbers of steps.
use Rattle.std.proofs.Common.{◌∙◌, ℕ, zero, suc, pos, ◌≤ℤ◌, Bool, true, false, inl, inr, refl, sym, subst}
use Rattle.linear_cons.specs.declared.affine.Affine.{Affine}
use Rattle.ctl_formula.specs.Formulas.{Ctl, truth, falsity, exit, not_exit, always, never, least, negation, both, either, next, until, weak}
use Rattle.step_meaning.specs.Systems.{System, Next, EndsWithin, Longest}
use Rattle.ctl_formula.specs.Systems.{Ahead, UntilIn, WeakIn, Sat, Within}
use Rattle.ctl_formula.specs.Bisimulations.{IsBisimulation}
use Rattle.ctl_formula.specs.Rows.{EachRow}

pub flipped : (S T : System) (Asked : Affine → Type 0) (R : S.State → T.State → Type 0) → IsBisimulation S T Asked R → IsBisimulation T S Asked (λ d c. R c d)
flipped S T Asked R b = record {
  values = λ a asked d c r. sym (b.values a asked c d r);
  ends = λ d c r. b.ends_back c d r;
  ends_back = λ d c r. b.ends c d r;
  steps = λ d c r. b.steps_back c d r;
  steps_back = λ d c r. b.steps c d r;
}

-- each successor of the one is joined with a successor of the other
matched : (S T : System) (Asked : Affine → Type 0) (R : S.State → T.State → Type 0) → IsBisimulation S T Asked R → (c : S.State) (d : T.State) → R c d → (e : S.State) → Next S c e
    → (other : T.State) × Next T d other × R e other
matched S T Asked R b c d r e (inl step) = let other = b.steps c d r e step in (other.0, inl other.1, other.2)
matched S T Asked R b c d r e (inr stay) = (d, inr (b.ends c d r stay.0, refl), subst (λ x. R x d) (sym stay.1) r)

pub same_ends : (S T : System) (Asked : Affine → Type 0) (R : S.State → T.State → Type 0) → IsBisimulation S T Asked R → (n : ℕ) (c : S.State) (d : T.State) → R c d
    → EndsWithin S n c → EndsWithin T n d
same_ends S T Asked R b zero c d r h = b.ends c d r h
same_ends S T Asked R b (suc n) c d r (inl final) = inl (b.ends c d r final)
same_ends S T Asked R b (suc n) c d r (inr successors) =
    inr (λ e step. let other = b.steps_back c d r e step in same_ends S T Asked R b n other.0 e other.2 (successors other.0 other.1))

pub same_longest : (S T : System) (Asked : Affine → Type 0) (R : S.State → T.State → Type 0) → IsBisimulation S T Asked R → (n : ℕ) (c : S.State) (d : T.State) → R c d
    → Longest S n c → Longest T n d
same_longest S T Asked R b zero c d r h = same_ends S T Asked R b zero c d r h
same_longest S T Asked R b (suc n) c d r h =
    (same_ends S T Asked R b (suc n) c d r h.0, λ shorter. h.1 (same_ends T S Asked (λ x y. R y x) (flipped S T Asked R b) n d c r shorter))

ahead_same : (S T : System) (Asked : Affine → Type 0) (R : S.State → T.State → Type 0) → IsBisimulation S T Asked R → (all : Bool) (P : S.State → Type 0) (Q : T.State → Type 0)
    → ((c : S.State) (d : T.State) → R c d → P c → Q d) → (c : S.State) (d : T.State) → R c d → Ahead S all P c → Ahead T all Q d
ahead_same S T Asked R b true P Q same c d r h = λ e taken.
    let other = matched T S Asked (λ x y. R y x) (flipped S T Asked R b) d c r e taken in
    same other.0 e other.2 (h other.0 other.1)
ahead_same S T Asked R b false P Q same c d r h = λ none. h (λ some.
    let other = matched S T Asked R b c d r some.0 some.1 in
    none (other.0, other.1, same some.0 other.0 other.2 some.2))

module _ (S T : System) (Asked : Affine → Type 0) (R : S.State → T.State → Type 0) (b : IsBisimulation S T Asked R) (all : Bool) (keep goal : S.State → Type 0) (keeps goals : T.State → Type 0)
    (kept : (c : S.State) (d : T.State) → R c d → keep c → keeps d) (met : (c : S.State) (d : T.State) → R c d → goal c → goals d) where
  pub until_same : (n : ℕ) (c : S.State) (d : T.State) → R c d → UntilIn S n all keep goal c → UntilIn T n all keeps goals d
  until_same zero c d r h = met c d r h
  until_same (suc n) c d r h = λ none. h (λ cases. elim cases [
    | inl done ↦ none (inl (met c d r done))
    | inr on ↦ none (inr (kept c d r on.0, ahead_same S T Asked R b all (UntilIn S n all keep goal) (UntilIn T n all keeps goals) (until_same n) c d r on.1))
  ])

  pub weak_same : (n : ℕ) (c : S.State) (d : T.State) → R c d → WeakIn S n all keep goal c → WeakIn T n all keeps goals d
  weak_same zero c d r h = tt
  weak_same (suc n) c d r h = λ none. h (λ cases. elim cases [
    | inl done ↦ none (inl (met c d r done))
    | inr on ↦ none (inr (kept c d r on.0, ahead_same S T Asked R b all (WeakIn S n all keep goal) (WeakIn T n all keeps goals) (weak_same n) c d r on.1))
  ])

pub same_sat : (f : Ctl) (S T : System) (Asked : Affine → Type 0) (R : S.State → T.State → Type 0) → IsBisimulation S T Asked R → EachRow Asked f
    → (c : S.State) (d : T.State) → R c d → Sat S f c → Sat T f d
same_sat truth S T Asked R b rows c d r h = tt
same_sat falsity S T Asked R b rows c d r h = h
same_sat exit S T Asked R b rows c d r h = b.ends c d r h
same_sat not_exit S T Asked R b rows c d r h = λ final. h (b.ends_back c d r final)
same_sat always S T Asked R b rows c d r h = tt
same_sat never S T Asked R b rows c d r h = h
same_sat (least a) S T Asked R b rows c d r h = subst (λ v. pos 0 ≤ℤ v) (b.values a rows c d r) h
same_sat (negation f) S T Asked R b rows c d r h = λ holds. h (same_sat f T S Asked (λ x y. R y x) (flipped S T Asked R b) rows d c r holds)
same_sat (both f g) S T Asked R b rows c d r h = (same_sat f S T Asked R b rows.0 c d r h.0, same_sat g S T Asked R b rows.1 c d r h.1)
same_sat (either f g) S T Asked R b rows c d r h = λ none. h (λ cases. elim cases [
  | inl one ↦ none (inl (same_sat f S T Asked R b rows.0 c d r one))
  | inr other ↦ none (inr (same_sat g S T Asked R b rows.1 c d r other))
])
same_sat (next all f) S T Asked R b rows c d r h = ahead_same S T Asked R b all (Sat S f) (Sat T f) (same_sat f S T Asked R b rows) c d r h
same_sat (until all f g) S T Asked R b rows c d r h = λ none. h (λ some.
    none (some.0, until_same S T Asked R b all (Sat S f) (Sat S g) (Sat T f) (Sat T g) (same_sat f S T Asked R b rows.0) (same_sat g S T Asked R b rows.1) some.0 c d r some.1))
same_sat (weak all f g) S T Asked R b rows c d r h = λ n.
    weak_same S T Asked R b all (Sat S f) (Sat S g) (Sat T f) (Sat T g) (same_sat f S T Asked R b rows.0) (same_sat g S T Asked R b rows.1) n c d r (h n)

pub same_within : (n : ℕ) (f : Ctl) (S T : System) (Asked : Affine → Type 0) (R : S.State → T.State → Type 0) → IsBisimulation S T Asked R → EachRow Asked f → (c : S.State) (d : T.State) → R c d
    → Within S n f c → Within T n f d
same_within n (until all f g) S T Asked R b rows c d r h =
    until_same S T Asked R b all (Sat S f) (Sat S g) (Sat T f) (Sat T g) (same_sat f S T Asked R b rows.0) (same_sat g S T Asked R b rows.1) n c d r h
same_within n other S T Asked R b rows c d r h = absurd h

-- two bisimulations, one behind the other
pub composed : (S T U : System) (Asked : Affine → Type 0) (R : S.State → T.State → Type 0) (Q : T.State → U.State → Type 0) → IsBisimulation S T Asked R
    → IsBisimulation T U Asked Q → IsBisimulation S U Asked (λ c e. (d : T.State) × R c d × Q d e)
composed S T U Asked R Q a b = record {
  values = λ v asked c e r. a.values v asked c r.0 r.1 ∙ b.values v asked r.0 e r.2;
  ends = λ c e r final. b.ends r.0 e r.2 (a.ends c r.0 r.1 final);
  ends_back = λ c e r final. a.ends_back c r.0 r.1 (b.ends_back r.0 e r.2 final);
  steps = λ c e r next step.
      let first = a.steps c r.0 r.1 next step in
      let second = b.steps r.0 e r.2 first.0 first.1 in
      (second.0, second.1, (first.0, first.2, second.2));
  steps_back = λ c e r next step.
      let first = b.steps_back r.0 e r.2 next step in
      let second = a.steps_back c r.0 r.1 first.0 first.1 in
      (second.0, second.1, (first.0, second.2, first.2));
}
