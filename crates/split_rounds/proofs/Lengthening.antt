-- A certificate of `AF exit` with one family more.
use Rattle.std.proofs.Common.{◌≡◌, ℕ, zero, suc, List, [], ◌∷◌, ◌++◌, All, length, map, refl, sym, ap, subst, ◌∙◌, append-nil, append_assoc, arith}
use Rattle.std.proofs.Math.Path.{fun_ext}
use Rattle.std.proofs.lemmas.List.{map-append}
use Rattle.std.proofs.lemmas.List.Elements.{All-push}
use Rattle.step_meaning.specs.declared.program.Program.{Program}
use Rattle.step_meaning.specs.Syntax.{Statements, statements}
use Rattle.control_flow.specs.Labels.{all_labels}
use Rattle.control_flow.specs.Told.{Told}
use Rattle.count_down.proofs.Leads.{all_weaken}
use Rattle.ctl_formula.specs.Formulas.{Ctl, af_exit}
use Rattle.ctl_formula.specs.Parts.{number_from}
use Rattle.decision_tree.specs.declared.affine_rank.AffineRank.{AffineRank}
use Rattle.decision_tree.specs.declared.family.Family.{Family}
use Rattle.tree_check.specs.Checking.{families_of}
use Rattle.tree_support.specs.Certificates.{IsShown, operands_from}
use Rattle.tree_support.specs.Setting.{Trees}
use Rattle.ctl_rounds.specs.Certified.{Certifies}
use Rattle.part_families.specs.Families.{IsFamilyFor, trees_of}
use Rattle.split_rounds.specs.Refined.{Refines}
use Rattle.part_families.specs.Showing.{Shows}
use Rattle.ctl_rounds.specs.declared.certificate.Certificate.{Certificate}
use Rattle.ctl_rounds.proofs.Exactly.{some_more}

-- the families of its two smaller parts are those of its operands
operand_at : (keep goal : Family AffineRank) (place : ℕ)
    → families_of (keep ∷ goal ∷ []) place ≡ operands_from (families_of (keep ∷ goal ∷ [])) 0 af_exit place
operand_at keep goal zero = refl
operand_at keep goal (suc zero) = refl
operand_at keep goal (suc (suc place)) = refl

operands_are : (parts : List (Family AffineRank)) → length parts ≡ 2 → families_of parts ≡ operands_from (families_of parts) 0 af_exit
operands_are [] is = absurd (omega (arith, is))
operands_are (keep ∷ []) is = absurd (omega (arith, is))
operands_are (keep ∷ goal ∷ []) is = fun_ext (operand_at keep goal)
operands_are (keep ∷ goal ∷ third ∷ more) is = absurd (omega (arith, is))

module _ (program : Program) (told : Told) (parts : List (Family AffineRank)) where
  abbrev body : Statements
  body = statements program.body

  abbrev IsCertified : Ctl → List (Family AffineRank) → Type 0
  IsCertified f tops = Certifies (length program.names) body told f parts tops

  pub certified_more : (f : Ctl) → f ≡ af_exit → (tops : List (Family AffineRank)) → IsCertified f tops → (family : Family AffineRank)
      → Shows program told f 2 parts family → IsCertified f (tops ++ family ∷ [])
  certified_more f is tops certificate family shows =
      let families : ℕ → Trees AffineRank = families_of parts in
      let two : length parts ≡ 2 = certificate.each_part ∙ ap (number_from 0) is in
      let same : families ≡ operands_from families 0 f = operands_are parts two ∙ ap (λ g. operands_from families 0 g) (sym is) in
      let Shown : Trees AffineRank → Type 0 = IsShown body told f (operands_from families 0 f) in
      let own : Shown (trees_of family) = subst (λ operands. IsShown body told f operands (trees_of family)) same shows.shown in record {
        some = some_more tops family;
        shown = record {
          smaller = certificate.shown.smaller;
          whole = subst (All Shown) (sym (map-append trees_of tops (family ∷ [])))
              (All-push Shown (map trees_of tops) (trees_of family) certificate.shown.whole own);
        };
        each_part = certificate.each_part;
        part_numbers = certificate.part_numbers;
        top_numbers = All-push (λ (top : Family AffineRank). top.part ≡ number_from 0 f) tops family certificate.top_numbers
            (shows.number ∙ sym (ap (number_from 0) is));
        smaller = certificate.smaller;
        whole = All-push (IsFamilyFor (length program.names) body) tops family certificate.whole shows.fits;
      }

  -- each has a tree for each label
  pub labels_of : (f : Ctl) (tops : List (Family AffineRank)) → IsCertified f tops → All (λ family. length family.trees ≡ length (all_labels body)) tops
  labels_of f tops certificate =
      all_weaken (IsFamilyFor (length program.names) body) (λ family. length family.trees ≡ length (all_labels body)) tops (λ family fit. fit.labels)
      certificate.whole

-- ---- refining, step by step

module _ (program : Program) (told : Told) (f : Ctl) where
  abbrev Certified : Certificate → Type 0
  Certified certificate = Certifies (length program.names) (statements program.body) told f certificate.parts certificate.tops

  abbrev Refined : Certificate → Certificate → Type 0
  Refined old new = Refines (length program.names) (statements program.body) told f old new

  -- a certificate that is as it was
  pub kept : (old new : Certificate) → Certified old → new.parts ≡ old.parts → new.tops ≡ old.tops → new.turns ≡ old.turns → Refined old new
  kept old new certificate parts tops turns = record {
    certified =
        subst (λ list. Certifies (length program.names) (statements program.body) told f list new.tops) (sym parts)
        (subst (λ list. Certifies (length program.names) (statements program.body) told f old.parts list) (sym tops) certificate);
    prefix = ([], tops ∙ sym (append-nil old.tops));
    parts = parts;
    turns = turns;
  }

  -- one family more
  pub added : f ≡ af_exit → (old new : Certificate) → Certified old → (family : Family AffineRank) → Shows program told f 2 old.parts family
      → new.parts ≡ old.parts → new.tops ≡ old.tops ++ family ∷ [] → new.turns ≡ old.turns → Refined old new
  added is old new certificate family shows parts tops turns = record {
    certified =
        subst (λ list. Certifies (length program.names) (statements program.body) told f list new.tops) (sym parts)
        (subst (λ list. Certifies (length program.names) (statements program.body) told f old.parts list) (sym tops)
        (certified_more program told old.parts f is old.tops certificate family shows));
    prefix = (family ∷ [], tops);
    parts = parts;
    turns = turns;
  }

  -- one step behind another
  pub refined_again : (old next new : Certificate) → Refined old next → Refined next new → Refined old new
  refined_again old next new one two = record {
    certified = two.certified;
    prefix = (
      one.prefix.0 ++ two.prefix.0,
      two.prefix.1 ∙ ap (λ list. list ++ two.prefix.0) one.prefix.1 ∙ append_assoc old.tops one.prefix.0 two.prefix.0,
    );
    parts = two.parts ∙ one.parts;
    turns = two.turns ∙ one.turns;
  }
