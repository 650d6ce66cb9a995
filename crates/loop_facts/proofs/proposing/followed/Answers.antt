use Rattle.std.proofs.Common.{◌≡◌, ⊎_elim, List, length, ap, subst, sym, ◌∙◌, arith}
use Rattle.decision_tree.specs.declared.affine_rank.AffineRank.{AffineRank}
use Rattle.decision_tree.specs.declared.tree.Tree.{Tree}
use Rattle.backward_transfer.specs.AffineShapes.{plans, tree_at}
use Rattle.backward_transfer.proofs.Putting.{written_back}
use Rattle.control_flow.specs.Transitions.{transition_in}
use Rattle.backward_sweeps.specs.Remaking.{IsMade, parts_of}
use Rattle.loop_facts.proofs.proposing.followed.Goals as goal

-- the pass begins with the trees as they were put
put_in : (c : goal.After-of) → c.deref_mut-2.result.now ≡ c.put.new.trees
put_in c =
    let long : c.in_ok-made.made.len ≡ length c.put.new.trees = sym c.deref_mut.ensures.len ∙ sym c.put.ensures.labels in
    c.deref_mut-2.ensures.value ∙ written_back c.in_ok-made.made.len c.put.new.trees _ long

-- and its trees are answered
passed : (c : goal.After-of) → c.of.result ≡ plans c.follow.new.trees
passed c =
    let long : c.in_ok-made.made.len ≡ length c.follow.new.trees = sym c.deref_mut-2.ensures.len ∙ sym c.in_ok-follow.ensures.labels in
    c.of.ensures ∙ ap plans (written_back c.in_ok-made.made.len c.follow.new.trees _ long)

pub returns-then-branch-clause-given : goal.returns-then-branch-clause-given
returns-then-branch-clause-given c other apart below given =
    ap (λ list. tree_at list other) (passed c) ∙ c.in_ok-follow.ensures.given other below given
    ∙ ap (λ (list : List (Tree AffineRank)). tree_at (plans list) other) (put_in c) ∙ c.put.ensures.others other apart
    ∙ ap (λ (list : List (Tree AffineRank)). tree_at (plans list) other) c.deref_mut.ensures.value ∙ c.in_ok-made.ensures.given other below given

pub returns-then-branch-clause-follows : goal.returns-then-branch-clause-follows
returns-then-branch-clause-follows c label below given =
    subst (λ list. IsMade (parts_of c.args.operands.now) label (transition_in c.args.transitions.now label) list (tree_at list label)) (sym (passed c))
    (⊎_elim {C = IsMade (parts_of c.args.operands.now) label (transition_in c.args.transitions.now label) (plans c.follow.new.trees) (tree_at (plans c.follow.new.trees) label)}
    (λ made. made) (λ refused. let all = c.if-branch.true in let some = refused.0 in absurd (cc))
    (c.in_ok-follow.ensures.remade label (omega arith) below given))
