-- When two transition systems are in step.
use Rattle.std.specs.Prelude.{◌≡◌}
use Rattle.linear_cons.specs.declared.affine.Affine.{Affine}
use Rattle.linear_cons.specs.Functions.{value_at}
use Rattle.step_meaning.specs.Systems.{System}

-- The relation joins states of two systems only where the functions that are asked about have the same values at their stores, where they are final alike, and where
-- each step of the one is matched by one of the other to states that it joins again.
pub record IsBisimulation (S T : System) (Asked : Affine → Type 0) (R : S.State → T.State → Type 0) : Type 0 where
  pub values : (a : Affine) → Asked a → (c : S.State) (d : T.State) → R c d → value_at a (S.store c) ≡ value_at a (T.store d)
  pub ends : (c : S.State) (d : T.State) → R c d → S.IsFinal c → T.IsFinal d
  pub ends_back : (c : S.State) (d : T.State) → R c d → T.IsFinal d → S.IsFinal c
  pub steps : (c : S.State) (d : T.State) → R c d → (e : S.State) → S.Step c e → (other : T.State) × T.Step d other × R e other
  pub steps_back : (c : S.State) (d : T.State) → R c d → (e : T.State) → T.Step d e → (other : S.State) × S.Step c other × R other e
