-- What writes do to the bytes that a sink has taken, where it tells them, and to its count of faults.
-- Bytes that a sink tells are `Some` of a list, and it tells them from then on; `None` says nothing of
-- them.
use Rattle.std.specs.Prelude.{◌≡◌, ℕ, Option, ◌<◌, ◌≤◌, ◌⊎◌, List, take, length}
use Rattle.std.specs.Io.KnownBytes.{Appends, Keeps}
use Rattle.outside.specs.Faults.{Rose}
use Rattle.outside.specs.declared.writing.Put.{Put}
use Rattle.outside.specs.declared.writing.Put.TheVariants.{Took, Failed}

-- One write gave this. `Took n`: the first n bytes of the piece, at least one, were taken. `Failed`:
-- nothing was taken, and the count of faults rose, which it does at no other answer.
abbrev pub Takes : Put → (taken taken' : Option (List ℕ)) → (faults faults' : ℕ) → (piece : List ℕ) → Type 0
Takes (Took n) taken taken' faults faults' piece = (0 < n) × (n ≤ length piece) × Appends taken taken' (take n piece) × (faults' ≡ faults)
Takes Failed taken taken' faults faults' piece = Keeps taken taken' × Rose faults faults'

-- A front of the text was taken: its first n bytes, for some n up to its length.
abbrev pub AppendsFront : (taken taken' : Option (List ℕ)) → (text : List ℕ) → Type 0
AppendsFront taken taken' text = (n : ℕ) × (n ≤ length text) × Appends taken taken' (take n text)

-- The text was taken whole; or a write failed, and a front of it was taken.
abbrev pub WritesOrFails : (taken taken' : Option (List ℕ)) → (faults faults' : ℕ) → (text : List ℕ) → Type 0
WritesOrFails taken taken' faults faults' text = Appends taken taken' text ⊎ (AppendsFront taken taken' text × Rose faults faults')
