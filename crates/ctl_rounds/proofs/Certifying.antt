-- How a certificate is found, family by family.
use Rattle.std.proofs.Common.{◌≡◌, ℕ, ◌<◌, ◌≤◌, Option, None, List, [], ◌∷◌, ◌++◌, All, length, sym, subst, ◌∙◌, arith}
use Rattle.std.proofs.lemmas.List.Elements.{All-map, All-push}
use Rattle.step_meaning.specs.declared.program.Program.{Program}
use Rattle.step_meaning.specs.Syntax.{Statements, size_of, statements}
use Rattle.control_flow.specs.Labels.{all_labels, entry_of}
use Rattle.control_flow.proofs.LabelLaws.{count_of_labels}
use Rattle.count_down.specs.Blocking.{IsGround}
use Rattle.count_down.proofs.Leads.{all_weaken}
use Rattle.ctl_formula.specs.Formulas.{Ctl}
use Rattle.ctl_formula.specs.Mirror.{ctl}
use Rattle.ctl_formula.specs.Parts.{number_from}
use Rattle.decision_tree.specs.Extent.{IsWhole}
use Rattle.decision_tree.specs.declared.affine_rank.AffineRank.{AffineRank}
use Rattle.decision_tree.specs.declared.family.Family.{Family}
use Rattle.decision_tree.specs.Plans.{Plan}
use Rattle.num_domain.specs.declared.domain.NumDomain.{Ghosts as Domain}
use Rattle.tree_check.specs.Checking.{families_of}
use Rattle.tree_support.specs.Certificates.{IsShown, operands_from}
use Rattle.tree_support.specs.Setting.{Trees, trees_in}
use Rattle.control_flow.specs.Told.{Told}
use Rattle.part_families.specs.Families.{AreNumberedFrom, IsFamilyFor, trees_of}
use Rattle.part_families.specs.Knowing.{told_on}
use Rattle.part_families.specs.Showing.{AreAt, all_of}
use Rattle.part_families.proofs.Placing.{own_places}
use Rattle.ctl_rounds.specs.Certified.{Certifies}
use Rattle.ctl_rounds.specs.Covers.{Extends}
use Rattle.ctl_rounds.specs.Finding.{AreFoundSoFar, IsInquiry, IsTop}
use Rattle.ctl_rounds.specs.declared.inquiry.Inquiry.{Inquiry}
use Rattle.ctl_rounds.proofs.CoverLaws.{covers_more}

-- a graph has fewer than 1,024 labels besides the end
pub short : (body : Statements) (labels : ℕ) → labels ≡ length (all_labels body) → labels ≤ 1024 → size_of body < 1024
short body labels own few = let count = count_of_labels body in omega (arith, count, own, few)

-- where a candidate of a program with a graph is checked
pub grounded : (program : Program) (operands : List (Family AffineRank)) (labels : ℕ)
    → ((label : ℕ) → label < labels → IsWhole (families_of operands 0 label))
    → labels ≡ length (all_labels (statements program.body)) → labels ≤ 1024 → IsGround (length program.names) program.body (families_of operands)
grounded program operands labels whole own most = record {
  few_variables = program.valid.few;
  sorted = program.valid.well_sorted;
  few_labels = short (statements program.body) labels own most;
  whole = λ label low. whole label (subst (λ n. label < n) (sym own) low);
}

module _ {D : Type 0} (domain : Domain D) (inquiry : Inquiry D) where
  abbrev body : Statements
  body = statements inquiry.premises.now.graph.now.body

  abbrev formula : Ctl
  formula = ctl inquiry.formula.now

  abbrev told : Told
  told = told_on domain inquiry.premises.now

  abbrev Top : Family AffineRank → Type 0
  Top family = IsTop domain inquiry family

  -- one more, with the cover that it makes
  pub added : (tops : List (Family AffineRank)) (family : Family AffineRank) (old new : Option (Plan AffineRank))
      → AreFoundSoFar domain inquiry tops old → Top family → Extends old (trees_in family.trees (entry_of body)) new
      → AreFoundSoFar domain inquiry (tops ++ family ∷ []) new
  added tops family old new found own last = record {
    families = All-push Top tops family found.families own;
    firsts = covers_more body family old new last None tops found.firsts;
  }

  -- what was found, over the families of the smaller parts in the order of their numbers
  pub certified : IsInquiry domain inquiry → (parts : List (Family AffineRank)) → parts ≡ all_of inquiry.smaller.now
      → (tops : List (Family AffineRank)) (cover : Option (Plan AffineRank)) → AreFoundSoFar domain inquiry tops cover → 0 < length tops
      → Certifies (length inquiry.premises.now.graph.now.names) body told formula parts tops
  certified is parts are tops cover found some =
      let families : ℕ → Trees AffineRank = families_of parts in
      let smaller = is.smaller in
      let at : AreAt families 0 (all_of inquiry.smaller.now) = subst (AreAt families 0) are (own_places parts) in
      let operands : families_of inquiry.smaller.now.operands.items ≡ operands_from families 0 formula = smaller.operands families at in
      let Shown : Family AffineRank → Type 0 = λ family. IsShown body told formula (operands_from families 0 formula) (trees_of family) in
      let each = smaller.each_part in record {
        some = some;
        shown = record {
          smaller = smaller.shown families at;
          whole = All-map (IsShown body told formula (operands_from families 0 formula)) trees_of tops
              (all_weaken Top Shown tops (λ family top. subst (λ shown. IsShown body told formula shown (trees_of family)) operands top.shown) found.families);
        };
        each_part = subst (λ list. length list ≡ number_from 0 formula) (sym are) (omega (arith, each));
        part_numbers = subst (AreNumberedFrom 0) (sym are) smaller.part_numbers;
        top_numbers = all_weaken Top (λ family. family.part ≡ number_from 0 formula) tops (λ family top. top.number ∙ smaller.number) found.families;
        smaller = subst (All (IsFamilyFor (length inquiry.premises.now.graph.now.names) body)) (sym are) smaller.fit;
        whole = all_weaken Top (IsFamilyFor (length inquiry.premises.now.graph.now.names) body) tops (λ family top. top.fits) found.families;
      }
