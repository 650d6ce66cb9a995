use Rattle.std.proofs.Common.{◌≡◌, ◌<◌, ℕ, All, None, List, [], ◌∷◌, ◌++◌, length, option_map, ap, subst, sym, ◌∙◌, arith}
use Rattle.std.proofs.lemmas.List.Elements.{All-cons, All-nil}
use Rattle.step_meaning.specs.Syntax.{statements}
use Rattle.count_down.proofs.Entering.{loopless_alone}
use Rattle.unroll.specs.Levels.{RowsAtMost}
use Rattle.control_flow.specs.Labels.{entry_of}
use Rattle.ctl_formula.specs.Formulas.{af_exit}
use Rattle.decision_tree.specs.Extent.{IsWhole}
use Rattle.decision_tree.specs.Plans.{plan_of, rank_of}
use Rattle.tree_check.specs.Checking.{families_of}
use Rattle.tree_support.specs.Certificates.{affine_ranks}
use Rattle.tree_support.specs.declared.dropped.Dropped.{Dropped}
use Rattle.tree_support.specs.Elimination.{Eliminates}
use Rattle.tree_support.specs.Setting.{setting_of, trees_in}
use Rattle.fitting_ways.specs.Ways.{SmallWaysFit}
use Rattle.part_families.specs.Knowing.{told_on}
use Rattle.part_families.proofs.Fit.{all_fit}
use Rattle.ctl_rounds.specs.Covers.{Covers, MayBegin, at_entry, claims_of}
use Rattle.part_families.specs.Families.{HasRowsWithin}
use Rattle.ctl_rounds.proofs.Certifying.{grounded, short}
use Rattle.part_families.proofs.Kept.{unchanged}
use Rattle.ctl_rounds.proofs.CoverLaws.{begins, nodes_of}
use Rattle.part_families.proofs.Numbers.{alone_rows}
use Rattle.ctl_rounds.proofs.inquiry.Inquiry.counted.Given as given
use Rattle.ctl_rounds.proofs.inquiry.Inquiry.counted.Goals as goal

pub checked-requires-clause-fit : goal.checked-requires-clause-fit
checked-requires-clause-fit g c =
    let program = c.args.self.now.premises.now.graph.now in
    let body = statements program.body in
    let vars = length program.names in
    let valid = program.valid in
    let trees = c.args.family.trees in
    let premises = c.requires.inquiry.premises in
    let few_labels = short body c.args.self.now.premises.now.labels premises.labels premises.few in
    let law = c.candidates_are_over_the_variables.ensures in
    all_fit vars trees (λ label. record {
      over = law.over vars body trees valid.few valid.well_sorted few_labels c.requires.candidate label;
      complements = law.complements vars body trees valid.few valid.well_sorted few_labels c.requires.candidate label;
      leaves = let few = law.leaves vars body trees valid.few valid.well_sorted few_labels c.requires.candidate label in omega (arith, few);
    })

-- there is one family
tops_are : (g : given.Over) (c : goal.In_ok-keep g) → c.keep.new.found.tops.items ≡ c.in_ok-family.family ∷ []
tops_are g c = c.in_ok-keep.ensures.tops ∙ ap (λ list. list ++ c.in_ok-family.family ∷ []) c.none-found.ensures.tops

-- nothing of it was dropped
trees_are : (g : given.Over) (c : goal.In_ok-keep g) (label : ℕ) → trees_in c.in_ok-family.family.trees label ≡ trees_in c.args.family.trees label
trees_are g c label =
    let inquiry = c.args.self.now in
    let program = inquiry.premises.now.graph.now in
    let body = statements program.body in
    let vars = length program.names in
    let told = told_on g.D.NumDomain inquiry.premises.now in
    let operands = inquiry.smaller.now.operands.items in
    let families = families_of operands in
    let old = c.args.family.trees in
    let new = c.in_ok-family.family.trees in
    let premises = c.requires.inquiry.premises in
    let eliminated = c.in_ok-family.ensures.legal in
    let drops : List Dropped = eliminated.0 in
    let legal : Eliminates affine_ranks (setting_of body told af_exit families) (trees_in old) drops (trees_in new) =
    subst (λ f. Eliminates affine_ranks (setting_of body told f families) (trees_in old) drops (trees_in new)) c.requires.formula eliminated.1 in
    let ground = grounded program operands inquiry.premises.now.labels (c.requires.inquiry.smaller.keeps c.requires.formula) premises.labels premises.few in
    let kept : drops ≡ [] =
    c.candidates_are_kept.ensures.kept vars program.body told families old ground c.requires.candidate drops (trees_in new) legal in
    unchanged (setting_of body told af_exit families) old new drops kept legal label

-- what it claims is the tree at the entry
claims_are : (g : given.Over) (c : goal.In_ok-keep g)
    → claims_of (option_map plan_of c.keep.new.found.cover)
    ≡ trees_in c.args.family.trees (entry_of (statements c.args.self.now.premises.now.graph.now.body))
claims_are g c =
    let inquiry = c.args.self.now in
    let program = inquiry.premises.now.graph.now in
    let body = statements program.body in
    let vars = length program.names in
    let valid = program.valid in
    let old = c.args.family.trees in
    let new = c.in_ok-family.family.trees in
    let premises = c.requires.inquiry.premises in
    let same = trees_are g c (entry_of body) in
    let few_labels = short body inquiry.premises.now.labels premises.labels premises.few in
    let law = c.candidates_are_over_the_variables.ensures in
    let leaves = law.leaves vars body old valid.few valid.well_sorted few_labels c.requires.candidate (entry_of body) in
    let nodes = nodes_of (trees_in old (entry_of body)) in
    let may : MayBegin (trees_in new (entry_of body)) =
    subst MayBegin (sym same)
    (omega (arith, leaves, nodes), law.complements vars body old valid.few valid.well_sorted few_labels c.requires.candidate (entry_of body)) in
    let firsts = subst (λ list. Covers None (at_entry body list) (option_map plan_of c.keep.new.found.cover)) (tops_are g c) c.in_ok-keep.ensures.found.firsts in
    begins (trees_in new (entry_of body)) firsts.0 (option_map plan_of c.keep.new.found.cover) may firsts.1 firsts.2 ∙ same

pub returns-clause-whole : goal.returns-clause-whole
returns-clause-whole g c = subst IsWhole (sym (claims_are g c)) c.requires.entry

pub returns-clause-loopless : goal.returns-clause-loopless
returns-clause-loopless g c = λ free. ap rank_of (claims_are g c)
    ∙ c.loopless_candidates_promise_the_most_steps.ensures c.args.family.trees (statements c.args.self.now.premises.now.graph.now.body) free
    c.requires.candidate

pub returns-clause-ways : goal.returns-clause-ways
returns-clause-ways g c = λ little.
    let program = c.args.self.now.premises.now.graph.now in
    let body = statements program.body in
    subst SmallWaysFit (sym (claims_are g c))
    (c.ways_through_small_candidates_fit.ensures (length program.names) body c.args.family.trees program.valid.few program.valid.well_sorted
    c.requires.candidate little)

pub returns-clause-some : goal.returns-clause-some
returns-clause-some g c = subst (λ list. 0 < length list) (sym (tops_are g c)) (omega arith)

pub returns-clause-numbers : goal.returns-clause-numbers
returns-clause-numbers g c = λ free.
    let body = statements c.args.self.now.premises.now.graph.now.body in
    subst (All (HasRowsWithin 0)) (sym (tops_are g c))
    (All-cons (HasRowsWithin 0) c.in_ok-family.family []
    (λ label. subst (RowsAtMost 0) (sym (trees_are g c label))
    (alone_rows (trees_in c.args.family.trees label) (loopless_alone c.args.family.trees body free c.requires.candidate label)))
    (All-nil (HasRowsWithin 0)))
