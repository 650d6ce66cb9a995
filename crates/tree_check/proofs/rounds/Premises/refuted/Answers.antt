use Rattle.std.proofs.Common.{arith, refl, subst, sym}
use Rattle.control_flow.specs.declared.transition.Transition.TheVariants.{End}
use Rattle.leaf_search.specs.Arcs.{IsTransitionAt}
use Rattle.tree_check.specs.Rounds.{setting_on}
use Rattle.std.proofs.lemmas.List.{get_or_default}
use Rattle.tree_check.proofs.Doing.{stands_at}
use Rattle.tree_check.proofs.rounds.Premises.refuted.Goals as goal

pub returns : goal.returns
returns g c within narrowed =
    let at = setting_on g.D.NumDomain c.args.self.now in
    let labels = c.requires.ready.labels in
    let inside = c.requires.label in
    let read = get_or_default c.args.self.now.transitions.now c.args.label c.index-self-label.result End (omega (arith, labels, inside)) in
    c.in_ok-refuted.ensures at
    (record {
      formula = sym c.of.ensures;
      follows = subst (IsTransitionAt at c.args.label) (sym read) (stands_at g.D.NumDomain c.args.self.now c.requires.ready c.args.label c.requires.label c.requires.alive);
      chosen = sym c.choice.ensures;
      parts = refl;
    })
    c.requires.alive c.requires.rows within narrowed
