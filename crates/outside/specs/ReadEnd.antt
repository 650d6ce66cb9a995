-- How the reading of a whole text ends.
use Rattle.std.specs.Prelude.{◌≡◌, ℕ, Option, ◌+◌, ◌<◌, ◌≤◌, List, [], length, Some, IfSome, vec_len}
use Rattle.std.specs.Io.KnownBytes.{Consumes, IsAtEnd}
use Rattle.outside.specs.Faults.{Rose}
use Rattle.outside.specs.declared.reading.ReadEnd.{ReadEnd}
use Rattle.outside.specs.declared.reading.ReadEnd.TheVariants.{Text, TooLong, Failed}

-- The source lost just `count` bytes, the first of those that it had left.
abbrev pub ConsumesJust : ℕ → (left left' : Option (List ℕ)) → Type 0
ConsumesJust count left left' = (bytes : List ℕ) × (length bytes ≡ count) × Consumes left left' bytes

-- A reading that allows `limit` bytes ended so. `Text text`: the text is all the bytes that were left,
-- at most `limit` of them, and none is left now. `TooLong`: more than `limit` bytes were left, and
-- just one more than `limit` were read. `Failed`: the count of faults rose, which it does at no other
-- end.
abbrev pub EndsReading : ℕ → ReadEnd → (left left' : Option (List ℕ)) → (faults faults' : ℕ) → Type 0
EndsReading limit (Text text) left left' faults faults' =
    (vec_len text ≤ limit) × IfSome left (λ bytes. (text.items ≡ bytes) × (left' ≡ Some [])) × IsAtEnd left' × (faults' ≡ faults)
EndsReading limit TooLong left left' faults faults' =
    IfSome left (λ bytes. limit < length bytes) × ConsumesJust (limit + 1) left left' × (faults' ≡ faults)
EndsReading limit Failed left left' faults faults' = Rose faults faults'
