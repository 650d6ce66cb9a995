-- Lists to which lists are added one after the other.
use Rattle.std.proofs.Common.{◌≡◌, List, ◌++◌, ap, ◌∙◌, append_assoc}

module _ {A : Type 0} where
  pub two_more : (old one two a b : List A) → one ≡ old ++ a → two ≡ one ++ b → two ≡ old ++ (a ++ b)
  two_more old one two a b first second = second ∙ ap (λ t. t ++ b) first ∙ append_assoc old a b

  pub three_more : (old one two three a b c : List A) → one ≡ old ++ a → two ≡ one ++ b → three ≡ two ++ c → three ≡ old ++ (a ++ (b ++ c))
  three_more old one two three a b c first second third =
      two_more old one three a (b ++ c) first (two_more one two three b c second third)
