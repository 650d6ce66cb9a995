-- What a read does to the bytes that a source has left, where it tells them, and to its count of
-- faults. Bytes that a source tells are `Some` of a list, and it tells them from then on; `None` says
-- nothing of them.
use Rattle.std.specs.Prelude.{◌≡◌, ℕ, Option, ◌<◌, ◌≤◌, List, take, length}
use Rattle.std.specs.Io.KnownBytes.{Consumes, Keeps, IsAtEnd}
use Rattle.outside.specs.Faults.{Rose}
use Rattle.outside.specs.declared.reading.Got.{Got}
use Rattle.outside.specs.declared.reading.Got.TheVariants.{Bytes, End, Failed}

-- One read gave this. `Bytes n`: the buffer begins with the next n bytes, at least one, and the source
-- has lost them. `End`: no byte is left. `Failed`: no byte was lost, and the count of faults rose,
-- which it does at no other answer.
abbrev pub Gives : Got → (left left' : Option (List ℕ)) → (faults faults' : ℕ) → (buffer : List ℕ) → Type 0
Gives (Bytes n) left left' faults faults' buffer = (0 < n) × (n ≤ length buffer) × Consumes left left' (take n buffer) × (faults' ≡ faults)
Gives End left left' faults faults' buffer = Keeps left left' × IsAtEnd left' × (faults' ≡ faults)
Gives Failed left left' faults faults' buffer = Keeps left left' × Rose faults faults'

-- The source lost at most `most` bytes, the first of those that it had left.
abbrev pub ConsumesUpTo : ℕ → (left left' : Option (List ℕ)) → Type 0
ConsumesUpTo most left left' = (bytes : List ℕ) × (length bytes ≤ most) × Consumes left left' bytes
