-- What a result says of a value that comes exactly where a fact holds.
use Rattle.std.proofs.Common.{◌≡◌, ◌∙◌, Result, Ok, Err, OkIff, IsErr}

pub ok_iff_err : {T E : Type 0} (r : Result T E) (P : Type 0) (v : T) → IsErr r → ¬ P → OkIff r P v
ok_iff_err (Ok x) P v h n = absurd (cc)
ok_iff_err (Err e) P v h n = n

-- the same value under a fact that says the same
pub ok_iff_same : {T E : Type 0} (r : Result T E) (P Q : Type 0) (v w : T) → (P → Q) → (Q → P) → v ≡ w → OkIff r P v → OkIff r Q w
ok_iff_same (Ok x) P Q v w there back e h = (there h.0, h.1 ∙ e)
ok_iff_same (Err e) P Q v w there back s h = λ q. h (back q)
