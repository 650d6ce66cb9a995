use Rattle.std.proofs.Common.{◌≡◌, List, [], ◌∷◌, ℤ, length, get_or, arith}
use Rattle.linear_cons.specs.declared.affine.Affine.{Affine}
use Rattle.function_top.specs.OneInput.{AreToldAs, IsToldAs}
use Rattle.function_top.proofs.one_input.functions_told.Goals as goal

each_told : (none : Affine) (functions : List Affine) (input : List ℤ) (a b c d e : Affine) → length functions ≡ 5
    → IsToldAs (get_or functions 0 none) input a → IsToldAs (get_or functions 1 none) input b → IsToldAs (get_or functions 2 none) input c
    → IsToldAs (get_or functions 3 none) input d → IsToldAs (get_or functions 4 none) input e → AreToldAs functions input (a ∷ b ∷ c ∷ d ∷ e ∷ [])
each_told none [] input a b c d e long p q r s t = absurd (omega (arith, long))
each_told none (u ∷ []) input a b c d e long p q r s t = absurd (omega (arith, long))
each_told none (u ∷ v ∷ []) input a b c d e long p q r s t = absurd (omega (arith, long))
each_told none (u ∷ v ∷ w ∷ []) input a b c d e long p q r s t = absurd (omega (arith, long))
each_told none (u ∷ v ∷ w ∷ x ∷ []) input a b c d e long p q r s t = absurd (omega (arith, long))
each_told none (u ∷ v ∷ w ∷ x ∷ y ∷ []) input a b c d e long p q r s t = (p, (q, (r, (s, (t, tt)))))
each_told none (u ∷ v ∷ w ∷ x ∷ y ∷ z ∷ rest) input a b c d e long p q r s t = absurd (omega (arith, long))

pub returns : goal.returns
returns c =
    each_told _ c.args.functions.now c.args.input.now _ _ _ _ _ c.told-functions c.bound_told.ensures c.bound_told-2.ensures c.bound_told-3.ensures
    c.bound_told-4.ensures c.bound_told-5.ensures
