-- States that a bisimulation joins end alike, bounded by the same numbers.
use Rattle.std.proofs.Common.{ℕ, zero, suc, ◌+◌, ℤ, pos, negsuc, List, [], ◌∷◌, length, inl, inr}
use Rattle.linear_cons.specs.declared.affine.Affine.{Affine}
use Rattle.step_meaning.specs.Systems.{System}
use Rattle.ctl_formula.specs.Bisimulations.{IsBisimulation}
use Rattle.ctl_formula.proofs.Agreeing.{same_ends}
use Rattle.ordinal_rank.specs.Systems.{ComesBy, ComesTo, EndsAfter, EndsBy, EndsByFirst, EndsUnder}

module _ (S T : System) (Asked : Affine → Type 0) (R : S.State → T.State → Type 0) (b : IsBisimulation S T Asked R) where
  -- where the one has the first property, the other has the second
  abbrev pub Passes : (S.State → Type 0) → (T.State → Type 0) → Type 0
  Passes X Y = (c : S.State) (d : T.State) → R c d → X c → Y d

  pub comes_same : (n : ℕ) (X : S.State → Type 0) (Y : T.State → Type 0) → Passes X Y → Passes (ComesTo S n X) (ComesTo T n Y)
  comes_same zero X Y same c d r (inl final) = inl (b.ends c d r final)
  comes_same zero X Y same c d r (inr there) = inr (same c d r there)
  comes_same (suc n) X Y same c d r (inl final) = inl (b.ends c d r final)
  comes_same (suc n) X Y same c d r (inr (inl there)) = inr (inl (same c d r there))
  comes_same (suc n) X Y same c d r (inr (inr ahead)) =
      inr (inr (λ e step. let other = b.steps_back c d r e step in comes_same n X Y same other.0 e other.2 (ahead other.0 other.1)))

  pub by_same : (order n : ℕ) (X : S.State → Type 0) (Y : T.State → Type 0) → Passes X Y → Passes (ComesBy S order n X) (ComesBy T order n Y)
  by_same zero n X Y same c d r h = comes_same n X Y same c d r h
  by_same (suc order) zero X Y same c d r h = same c d r h
  by_same (suc order) (suc n) X Y same c d r h =
      (h.0, by_same order h.0 (ComesBy S (suc order) n X) (ComesBy T (suc order) n Y) (by_same (suc order) n X Y same) c d r h.1)

  after_same : (order k : ℕ) → Passes (EndsAfter S order k) (EndsAfter T order k)
  after_same zero k c d r h = same_ends S T Asked R b k c d r h
  after_same (suc order) zero c d r h = (h.0, after_same order h.0 c d r h.1)
  after_same (suc order) (suc k) c d r h =
      (h.0, by_same order h.0 (EndsAfter S (suc order) k) (EndsAfter T (suc order) k) (after_same (suc order) k) c d r h.1)

  bound_same : (order : ℕ) (n : ℤ) → Passes (EndsBy S order n) (EndsBy T order n)
  bound_same order (pos k) c d r h = after_same order k c d r h
  bound_same order (negsuc k) c d r h = h

  first_same : (order : ℕ) (n : ℤ) (Lower : S.State → Type 0) (Under : T.State → Type 0) → Passes Lower Under
      → Passes (EndsByFirst S order n Lower) (EndsByFirst T order n Under)
  first_same order (pos zero) Lower Under lower c d r h = lower c d r h
  first_same order (pos (suc k)) Lower Under lower c d r h = after_same order (suc k) c d r h
  first_same order (negsuc k) Lower Under lower c d r h = h

  pub under_same : (numbers : List ℤ) → Passes (EndsUnder S numbers) (EndsUnder T numbers)
  under_same [] c d r h = h
  under_same (n ∷ []) c d r h = bound_same 0 n c d r h
  under_same (n ∷ m ∷ []) c d r h = bound_same 1 n c d r h
  under_same (n ∷ m ∷ next ∷ rest) c d r h =
      first_same (2 + length rest) n (EndsUnder S (m ∷ next ∷ rest)) (EndsUnder T (m ∷ next ∷ rest)) (under_same (m ∷ next ∷ rest)) c d r h
