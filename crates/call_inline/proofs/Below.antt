-- Names that stand below a number.
use Rattle.std.proofs.Common.{◌≡◌, ℕ, zero, suc, ◌<◌, ◌≤◌, Option, None, Some, List, [], ◌∷◌, length, get_or, map, sym, subst, arith}
use Rattle.step_meaning.specs.declared.expression.Expr.{Expr}
use Rattle.step_meaning.specs.Naming.{NamesBelow}
use Rattle.step_meaning.specs.Syntax.{Expression, expression, number, variable, free, range, truth, negative, negation, pair, divided}
use Rattle.call_inline.specs.Laws.Writing.{AllBelow, ValueBelow}

-- below a greater one, too
pub names_more : (m n : ℕ) (e : Expression) → m ≤ n → NamesBelow m e → NamesBelow n e
names_more m n (number z) h b = tt
names_more m n (variable x) h b = omega arith
names_more m n free h b = tt
names_more m n (range lo hi) h b = tt
names_more m n (divided division e by) h b = names_more m n e h b
names_more m n (truth t) h b = tt
names_more m n (negative e) h b = names_more m n e h b
names_more m n (negation e) h b = names_more m n e h b
names_more m n (pair op l r) h b = (names_more m n l h b.0, names_more m n r h b.1)

pub all_names_more : (m n : ℕ) (all : List Expression) → m ≤ n → AllBelow m all → AllBelow n all
all_names_more m n [] h b = tt
all_names_more m n (e ∷ more) h b = (names_more m n e h b.0, all_names_more m n more h b.1)

pub value_more : (m n : ℕ) (value : Option Expression) → m ≤ n → ValueBelow m value → ValueBelow n value
value_more m n (Some e) h b = names_more m n e h b
value_more m n None h b = tt

-- those of one of a list
pub names_at : (vars : ℕ) (all : List Expr) (i : ℕ) (e : Expr) → i < length all → e ≡ get_or all i e → AllBelow vars (map expression all) → NamesBelow vars (expression e)
names_at vars [] i e low is b = absurd (omega arith)
names_at vars (x ∷ more) zero e low is b = subst (λ y. NamesBelow vars (expression y)) (sym is) b.0
names_at vars (x ∷ more) (suc i) e low is b = names_at vars more i e (omega arith) is b.1
