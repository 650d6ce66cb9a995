-- A text has at most one tree and at most one first fault, and never both.
use Rattle.std.proofs.Common.{◌≡◌, ℕ, zero, suc, List, [], ◌∷◌, length, map, drop, slice_index_or, refl, sym, ap, ◌∙◌, subst, arith}
use Rattle.std.proofs.lemmas.List.{length-drop}
use Rattle.source_lex.proofs.Readings.{tokens_unique, fault_unique, tokens_or_fault}
use Rattle.source_lex.specs.declared.token.Token.{Token}
use Rattle.derivation.specs.declared.rule.Rule.{Rule}
use Rattle.derivation.specs.declared.fault.SyntaxFault.TheVariants.{Lex, Broken, Memory}
use Rattle.derivation.specs.Languages.{Language}
use Rattle.derivation.specs.Pieces.{spelling, Fits}
use Rattle.derivation.specs.Comes.{Phrase, FirstFault, IsSpelledBy}
use Rattle.derivation.specs.Texts.{IsTextOf, offset_in, HasFaultOf}
use Rattle.derivation.specs.TextLaws.{HaveOneTree, HaveNoFault, HaveOneFault}
use Rattle.derivation.proofs.Faults.{spelled_has_no_fault, faults_agree}

-- two numbers with the same behind them are one
same_number : {X W : Type 0} (f : X → W) (g : X → ℕ) (xs : List X) (n m end : ℕ) → drop n (map f xs) ≡ drop m (map f xs)
    → slice_index_or (map g xs) n end ≡ slice_index_or (map g xs) m end
same_number f g [] n m end e = refl
same_number f g (x ∷ xs) zero zero end e = refl
same_number f g (x ∷ xs) zero (suc m) end e = absurd (omega (arith, ap length e, length-drop m (map f xs)))
same_number f g (x ∷ xs) (suc n) zero end e = absurd (omega (arith, ap length e, length-drop n (map f xs)))
same_number f g (x ∷ xs) (suc n) (suc m) end e = same_number f g xs n m end e

module _ {L : Language} (word : List ℕ → Token → L.Word) (A : Phrase L) where
  -- where words are what at most one tree spells that fits
  pub one_tree : ((tree other : A.Tree) → Fits 0 (A.pieces tree) → Fits 0 (A.pieces other) → spelling (A.pieces tree) ≡ spelling (A.pieces other)
      → other ≡ tree) → HaveOneTree word A
  one_tree unique text tree other h k =
      let same : k.tokens ≡ h.tokens = tokens_unique text 0 k.tokens h.tokens k.lexed h.lexed in
      let spelled : IsSpelledBy A (map (word text) h.tokens) other = subst (λ ts. IsSpelledBy A (map (word text) ts) other) same k.spelled in
      unique other tree spelled.fits h.spelled.fits (sym spelled.spelled ∙ h.spelled.spelled)

  -- a text with a tree has no fault behind its tokens
  no_break : (text : List ℕ) (tree : A.Tree) (rule : Rule) (at : ℕ) → IsTextOf word A text tree → HasFaultOf word A text rule at → ⊥
  no_break text tree rule at h k =
      let same : h.tokens ≡ k.tokens = tokens_unique text 0 h.tokens k.tokens h.lexed k.lexed in
      spelled_has_no_fault A (map (word text) k.tokens) _ rule tree k.fault
      (subst (λ ts. IsSpelledBy A (map (word text) ts) tree) same h.spelled)

  pub no_fault : HaveNoFault word A
  no_fault text tree (Lex fault) h k = absurd (tokens_or_fault text 0 h.tokens fault h.lexed k)
  no_fault text tree (Broken rule at) h k = absurd (no_break text tree rule at h k)
  no_fault text tree (Memory error) h k = tt

  breaks_meet : (text : List ℕ) (rule other : Rule) (at offset : ℕ) → HasFaultOf word A text rule at → HasFaultOf word A text other offset
      → (rule ≡ other) × (at ≡ offset)
  breaks_meet text rule other at offset h k =
      let same : k.tokens ≡ h.tokens = tokens_unique text 0 k.tokens h.tokens k.lexed h.lexed in
      let fault : FirstFault A (map (word text) h.tokens) other (drop k.number (map (word text) h.tokens)) =
      subst (λ ts. FirstFault A (map (word text) ts) other (drop k.number (map (word text) ts))) same k.fault in
      let agree = faults_agree rule other h.fault fault in (
        agree.0,
        h.offset ∙ same_number (word text) (λ token. token.start) h.tokens h.number k.number (length text) agree.1
            ∙ ap (λ ts. offset_in text ts k.number) (sym same) ∙ sym k.offset,
      )

  pub one_fault : HaveOneFault word A
  one_fault text (Lex fault) (Lex other) h k = ap Lex (fault_unique text 0 fault other h k)
  one_fault text (Lex fault) (Broken rule at) h k = absurd (tokens_or_fault text 0 k.tokens fault k.lexed h)
  one_fault text (Lex fault) (Memory error) h k = tt
  one_fault text (Broken rule at) (Lex other) h k = absurd (tokens_or_fault text 0 h.tokens other h.lexed k)
  one_fault text (Broken rule at) (Broken other offset) h k =
      let same = breaks_meet text rule other at offset h k in ap (λ r. Broken r at) same.0 ∙ ap (Broken other) same.1
  one_fault text (Broken rule at) (Memory error) h k = tt
  one_fault text (Memory error) other h k = tt
