use Rattle.std.proofs.lemmas.Grind.{common_steps}
use Rattle.std.proofs.Common.{◌≡◌, inl, inr, suc, ◌<◌, ◌-◌, true, false, List, length, ap, subst, sym, ◌∙◌, arith}
use Rattle.decision_tree.specs.Plans.{plan_of}
use Rattle.decision_tree.specs.declared.affine_rank.AffineRank.{AffineRank}
use Rattle.decision_tree.specs.declared.tree.Tree.{Tree}
use Rattle.backward_transfer.specs.AffineShapes.{plans, tree_at}
use Rattle.backward_transfer.proofs.Putting.{plans_set, written_back}
use Rattle.control_flow.specs.Transitions.{first_target, is_given, second_target, transition_in}
use Rattle.backward_sweeps.specs.Remaking.{AreKept, IsMade, parts_of}
use Rattle.backward_sweeps.proofs.Passing.{AreFrom, action_read, passed_over, put_before, put_kept}
use Rattle.loop_facts.proofs.Keeping.{IsKeptOrMade}
use Rattle.loop_facts.proofs.beside.followed.Goals.{then-eq+in_ok-remade, else-eq+in_ok-made-2}
use Rattle.loop_facts.proofs.beside.followed.Goals as goal

pub loop-at-preserved-then-not-is_given : goal.loop-at-preserved-then-not-is_given
loop-at-preserved-then-not-is_given c =
    let some = c.loop-at-test.true in
    let l = c.loop-at.at - 1 in
    let same : c.loop-at.at ≡ suc l = omega (arith, some) in
    let parts = parts_of c.args.operands.now in
    let hand = plans c.args.trees.now in
    let transitions = c.args.transitions.now in
    let trees = plans c.loop-at.made.items in
    let transition = c.index-transitions-place.result in
    let low : l < length transitions = grind (arith, common_steps) in
    let read : transition ≡ transition_in transitions l = action_read transitions l transition c.index-transitions-place.is low in
    let open_there : is_given (transition_in transitions l) ≡ false = grind (arith, common_steps) in
    let x = plan_of c.if-eq.drop in
    let here : IsKeptOrMade parts hand l transition (tree_at trees (first_target transition)) (tree_at trees (second_target transition)) x =
    elim c.if-eq.branch [
      | then-eq+in_ok-remade w ↦
          inr (subst (λ (list : List (Tree AffineRank)). IsMade parts l transition (plans list) x) w.deref.ensures.value
          (ap plan_of w.drop-is ∙ w.in_ok-remade.ensures.tree))
      | else-eq+in_ok-made-2 w ↦ inl (ap plan_of w.drop-is ∙ w.in_ok-made-2.ensures)
    ] in
    let is = sym (plans_set c.loop-at.made.items l c.if-eq.drop) in (
      grind (arith, common_steps),
      (λ label below given.
          subst (λ t. AreKept is_given transitions trees t) is (put_kept is_given transitions trees l x open_there) label below given
          ∙ c.loop-at.invariant.1 label below given),
      subst (λ t. AreFrom (IsKeptOrMade parts hand) l transitions t) is
          (put_before (IsKeptOrMade parts hand) transitions trees l x open_there (grind (arith, common_steps)) c.requires.onward
          (subst (λ done. IsKeptOrMade parts hand l done (tree_at trees (first_target done)) (tree_at trees (second_target done)) x) read here)
          (subst (λ n. AreFrom (IsKeptOrMade parts hand) n transitions trees) same c.loop-at.invariant.2)),
    )

pub loop-at-preserved : goal.loop-at-preserved
loop-at-preserved c =
    let some = c.loop-at-test.true in
    let l = c.loop-at.at - 1 in
    let same : c.loop-at.at ≡ suc l = omega (arith, some) in
    let Is = IsKeptOrMade (parts_of c.args.operands.now) (plans c.args.trees.now) in
    let given : is_given (transition_in c.args.transitions.now l) ≡ true = grind (arith, common_steps) in (
      c.loop-at.invariant.0,
      c.loop-at.invariant.1,
      passed_over Is c.args.transitions.now (plans c.loop-at.made.items) l given
          (subst (λ n. AreFrom Is n c.args.transitions.now (plans c.loop-at.made.items)) same c.loop-at.invariant.2),
    )

pub returns-clause-given : goal.returns-clause-given
returns-clause-given c other apart below given =
    ap (λ list. tree_at list other) c.of.ensures ∙ c.loop-at.invariant.1 other below given
    ∙ ap (λ (list : List (Tree AffineRank)). tree_at (plans list) other) (written_back c.in_ok-made.made.len c.put.new.trees _ (sym c.deref_mut.ensures.len ∙ sym c.put.ensures.labels))
    ∙ c.put.ensures.others other apart
    ∙ ap (λ (list : List (Tree AffineRank)). tree_at (plans list) other) c.deref_mut.ensures.value ∙ c.in_ok-made.ensures.given other below given

pub returns-clause-others : goal.returns-clause-others
returns-clause-others c other below open_there =
    subst (λ list. IsKeptOrMade (parts_of c.args.operands.now) (plans c.args.trees.now) other (transition_in c.args.transitions.now other)
    (tree_at list (first_target (transition_in c.args.transitions.now other))) (tree_at list (second_target (transition_in c.args.transitions.now other))) (tree_at list other))
    (sym c.of.ensures) (c.loop-at.invariant.2 other (omega (arith, c.loop-at-test.false)) below open_there)
