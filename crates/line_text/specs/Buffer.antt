-- Bytes that are written to the end of a buffer.
use Rattle.std.specs.Prelude.{◌≡◌, ℕ, List, ◌++◌, map}
use Rattle.std.specs.Global.{Vec}

-- the bytes begin with the front: nothing of it is lost
pub record BeginsWith (bytes front : List ℕ) : Type 0 where
  pub more : List ℕ
  pub is : bytes ≡ front ++ more

-- the bytes of vectors of bytes
abbrev pub bytes_in : List (Vec ℕ) → List (List ℕ)
bytes_in vectors = map (λ (vector : Vec ℕ). vector.items) vectors
