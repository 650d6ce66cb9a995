-- A whole list of words: nothing stands behind what it has to be.
use Rattle.std.proofs.Common.{◌≡◌, ◌≢◌, ℕ, ◌<◌, ◌≤◌, List, [], ◌∷◌, ◌++◌, length, map, drop, None, refl, sym, ap, ◌∙◌, subst, arith}
use Rattle.std.proofs.lemmas.List.{append-nil, length-map, length-drop, drop_all}
use Rattle.derivation.specs.declared.rule.Rule.{Rule}
use Rattle.derivation.specs.declared.rule.Rule.TheVariants.{Expected}
use Rattle.derivation.specs.Pieces.{Rest, spelling, first, first_before, FitsBefore, Fits}
use Rattle.derivation.specs.Limits.{AllWithin}
use Rattle.derivation.specs.Comes.{Phrase, Cause, FirstFault, IsSpelledBy}
use Rattle.derivation.specs.Grammars.{Grammar, Trees, pieces, Leads, Stops}
use Rattle.derivation.proofs.Grammars.{Lawful, fails, sticks}

-- a phrase, then nothing
pub record Whole {G : Grammar} (laws : Lawful G) (A : Phrase G.language) (all nothing : G.Sequence) (done : Trees G nothing) (fill : A.Tree → Trees G all)
    (tree : Trees G all → A.Tree) : Type 0 where
  pub empty : (f : Trees G nothing) → pieces G nothing f ≡ []
  pub spells : (f : A.Tree) → pieces G all (fill f) ≡ A.pieces f
  pub told : (g : Trees G all) → A.pieces (tree g) ≡ pieces G all g

module _ {G : Grammar} {laws : Lawful G} {A : Phrase G.language} {all nothing : G.Sequence} {done : Trees G nothing} {fill : A.Tree → Trees G all}
    {tree : Trees G all → A.Tree} (x : Whole laws A all nothing done fill tree) (from to : Rest G.language) (begins : from.number ≡ 0) where
  pub whole_read : {now : ℕ} {f : A.Tree} → Leads G 0 all from now nothing to (λ end. fill f) → to.words ≡ [] → IsSpelledBy A from.words f
  whole_read {now} {f} r e =
      let h = r.comes in
      let same : A.pieces f ≡ h.front = sym (x.spells f) ∙ h.spells done ∙ ap (λ ps. h.front ++ ps) (x.empty done) ∙ append-nil h.front in record {
        spelled = h.parted ∙ ap (λ ws. spelling h.front ++ ws) e ∙ append-nil (spelling h.front) ∙ ap spelling (sym same);
        fits = subst (Fits 0) (sym same) (subst (λ n. Fits n h.front) begins (subst (FitsBefore from.number h.front) (ap first e) h.fits));
        within = subst (AllWithin 0) (sym same) h.within;
      }

  pub whole_stops : (rule : Rule) → Stops G 0 all from rule to → FirstFault A from.words rule to.words
  whole_stops rule h = record {
    front = h.breaks.front;
    rest = h.breaks.rest;
    parted = h.breaks.parted;
    within = h.breaks.within;
    tree = tree h.breaks.tree;
    fits = subst (Fits 0) (sym (x.told h.breaks.tree)) (subst (λ n. Fits n (pieces G all h.breaks.tree)) begins h.breaks.fits);
    begins = x.told h.breaks.tree ∙ h.breaks.begins;
    cause = why rule (subst (λ n. Cause n 0 (G.phrase all) rule h.breaks.front h.breaks.rest (first to.words)) begins h.breaks.cause);
  }
    where
      fitting : (f : A.Tree) → Fits 0 (A.pieces f) → Fits 0 (pieces G all (fill f))
      fitting f fits = subst (Fits 0) (sym (x.spells f)) fits

      why : (r : Rule) → Cause 0 0 (G.phrase all) r h.breaks.front h.breaks.rest (first to.words)
          → Cause 0 0 A r h.breaks.front h.breaks.rest (first to.words)
      why Expected k = λ f fits behind e. k (fill f) (fitting f fits) behind (ap spelling (x.spells f) ∙ e)
      why _ k = (k.0, k.1, k.2, k.3, k.4, λ f fits before after t split. k.5 (fill f) (fitting f fits) before after t (x.spells f ∙ split))

  pub whole_trails : {now : ℕ} {f : A.Tree} → Leads G 0 all from now nothing to (λ end. fill f) → to.words ≢ [] → FirstFault A from.words Expected to.words
  whole_trails {now} r h =
      whole_stops Expected (fails r
      (sticks laws nothing now to (λ next. next ≢ None) (λ f fits some. some (ap (λ ps. first_before ps None) (x.empty f))) (some to.words h)))
    where
      some : (ws : List G.language.Word) → ws ≢ [] → first ws ≢ None
      some [] k e = k refl
      some (w ∷ ws) k e = cc

-- no word is left behind the last, and some are before it
pub none_left : {X W : Type 0} (word : X → W) (xs : List X) (at : ℕ) → length xs ≤ at → map word (drop at xs) ≡ []
none_left word xs at le = ap (map word) (drop_all at xs le)

pub some_left : {X W : Type 0} (word : X → W) (xs : List X) (at : ℕ) → at < length xs → map word (drop at xs) ≢ []
some_left word xs at lt e = absurd (omega (arith, ap length e, length-map (drop at xs) word, length-drop at xs))
