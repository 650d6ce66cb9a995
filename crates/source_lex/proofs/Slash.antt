-- A `/` that begins no comment.
use Rattle.std.proofs.Common.{◌≡◌, ◌≢◌, ℕ, ◌+◌, ◌<◌, List, length, slice_index, refl, sym, ap, ◌∙◌, inr}
use Rattle.std.specs.Prelude.{◌==◌}
use Rattle.std.proofs.lemmas.Bool.{false≢true}
use Rattle.source_lex.specs.Signs.{is_single_sign}
use Rattle.source_lex.specs.Words.{TokenAt}
use Rattle.source_lex.specs.declared.token.Kind.TheVariants.{Sign}
use Rattle.source_lex.proofs.ByteLemmas.{no_slash-double, false_when}

-- a `/` with no `/` and no `*` behind it is a sign
pub slash_is_a_sign : (text : List ℕ) (i : ℕ) → i < length text → slice_index text i ≡ 47 → slice_index text (i + 1) ≢ 47 → slice_index text (i + 1) ≢ 42 → TokenAt text i (i + 1) Sign
unfolding is_single_sign
slash_is_a_sign text i inside slash no_slash no_star = inr (record {
  inside = inside;
  longest = false_when _ (λ h. false≢true (sym (no_slash-double _ _ h) ∙ ap (λ byte. byte == 47) slash));
  no_line_comment = λ opens. no_slash opens.1;
  no_block_comment = λ opens. no_star opens.1;
  spelled = ap is_single_sign slash;
  ends = refl;
})
