use Rattle.std.proofs.Common.{◌≡◌, [], ◌∷◌, ◌++◌, ap, sym, ◌∙◌, rules}
use Rattle.linear_cons.specs.declared.row.RowKind.TheVariants.{Always, Never, Row as Kept}
use Rattle.decision_tree.specs.Plans.{plan_of}
use Rattle.fit_check.specs.Ranges.{nested}
use Rattle.fit_check.proofs.Nesting.{nested_append}
use Rattle.fit_check.proofs.ranging.nest.Goals as goal

pub loop-kind-preserved-in-Always : goal.loop-kind-preserved-in-Always
loop-kind-preserved-in-Always c =
    let popped : c.loop-kind.kinds.items ≡ c.pop.new.self.items ++ Always ∷ [] = rw (← c.in-Always.is) (search rules) in
    sym (nested_append c.pop.new.self.items Always (plan_of c.loop-kind.tree)) ∙ ap (λ items. nested items (plan_of c.loop-kind.tree)) (sym popped) ∙ c.loop-kind.invariant

pub loop-kind-preserved-in-Never : goal.loop-kind-preserved-in-Never
loop-kind-preserved-in-Never c =
    let popped : c.loop-kind.kinds.items ≡ c.pop.new.self.items ++ Never ∷ [] = rw (← c.in-Never.is) (search rules) in
    sym (nested_append c.pop.new.self.items Never (plan_of c.loop-kind.tree)) ∙ ap (λ items. nested items (plan_of c.loop-kind.tree)) (sym popped) ∙ c.loop-kind.invariant

pub loop-kind-preserved : goal.loop-kind-preserved
loop-kind-preserved c =
    let popped : c.loop-kind.kinds.items ≡ c.pop.new.self.items ++ Kept c.in-Row.row ∷ [] = rw (← c.in-Row.is) (search rules) in
    ap (nested c.pop.new.self.items) c.in_ok-tree-in-Row.ensures
    ∙ sym (nested_append c.pop.new.self.items (Kept c.in-Row.row) (plan_of c.loop-kind.tree)) ∙ ap (λ items. nested items (plan_of c.loop-kind.tree)) (sym popped) ∙ c.loop-kind.invariant
