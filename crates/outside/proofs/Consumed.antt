-- How the bytes past a place in memory split at a read.
use Rattle.std.proofs.Common.{◌≡◌, ℕ, ◌+◌, List, ◌++◌, take, drop, sym, ap, ◌∙◌, take-append-drop}
use Rattle.std.proofs.lemmas.List.{drop-drop}

-- Where a buffer got the n bytes past the place p, those past p are these n and those past p + n.
pub next_bytes : (bytes buffer : List ℕ) (p n : ℕ) → take n buffer ≡ take n (drop p bytes) → drop p bytes ≡ take n buffer ++ drop (p + n) bytes
next_bytes bytes buffer p n same =
    sym (take-append-drop n (drop p bytes)) ∙ ap (λ l. l ++ drop n (drop p bytes)) (sym same) ∙ ap (λ l. take n buffer ++ l) (drop-drop n p bytes)
