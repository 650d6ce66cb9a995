-- Walks along parameters and arguments: what is left finds, behind what was found, what the whole finds.
use Rattle.std.proofs.Common.{◌≡◌, false, List, [], ◌∷◌, ◌++◌, None, map, refl, ap, sym, ◌∙◌, subst}
use Rattle.std.proofs.lemmas.List.{append-nil, append_assoc, map-append}
use Rattle.step_meaning.specs.declared.expression.Expr.{Expr}
use Rattle.step_meaning.specs.Syntax.{expression}
use Rattle.concrete_syntax.specs.Trees.{Expression, Name}
use Rattle.typed_expressions.specs.declared.walk.Walk.{Walk}
use Rattle.elaboration.specs.Elaborates.{behind_parameters, parameters_faults}
use Rattle.typed_expressions.specs.Expressions.{expression_typed, number_faults}
use Rattle.typed_expressions.specs.Faults.{earliest}
use Rattle.typed_expressions.specs.Scopes.{declare}
use Rattle.elaboration.specs.Statements.{arguments_faults, arguments_meaning, name_faults}
use Rattle.typed_expressions.specs.Walking.{HasFound}
use Rattle.elaboration.specs.Walking.{HasDeclared, HaveBeenDeclared}
use Rattle.typed_expressions.proofs.Firsts.{earliest_more}

-- ── Parameters ──

pub record AreDeclared (now : Walk) (left : List Name) (first : Walk) (all : List Name) : Type 0 where
  pub reads : now.tokens.now ≡ first.tokens.now
  pub goes : behind_parameters now.scope left ≡ behind_parameters first.scope all
  pub finds : earliest now.least (parameters_faults now.scope left) ≡ earliest first.least (parameters_faults first.scope all)

pub declared_first : (first : Walk) (all : List Name) → AreDeclared first all first all
declared_first first all = record { reads = refl; goes = refl; finds = refl }

pub declared_on : (now next first : Walk) (x : Name) (rest left all : List Name) → HasDeclared now next x → left ≡ x ∷ rest → AreDeclared now left first all
    → AreDeclared next rest first all
declared_on now next first x rest left all done is so_far =
    let there : AreDeclared now (x ∷ rest) first all = subst (λ l. AreDeclared now l first all) is so_far in
    let behind = declare now.scope x.bytes false in
    rw done.1 record {
      reads = done.0 ∙ there.reads;
      goes = there.goes;
      finds =
          ap (λ least. earliest least (parameters_faults behind rest)) done.2
          ∙ sym (earliest_more now.least (name_faults now.scope x None) (parameters_faults behind rest)) ∙ there.finds;
    }

pub all_declared : (now first : Walk) (left all : List Name) → left ≡ [] → AreDeclared now left first all → HaveBeenDeclared first now all
all_declared now first left all none so_far =
    let there : AreDeclared now [] first all = subst (λ l. AreDeclared now l first all) none so_far in
    (there.reads, there.goes, there.finds)

-- ── Arguments ──

pub record AreMet (now : Walk) (made : List Expr) (left : List Expression) (first : Walk) (all : List Expression) : Type 0 where
  pub reads : now.tokens.now ≡ first.tokens.now
  pub stays : now.scope ≡ first.scope
  pub makes : map expression made ++ arguments_meaning first.scope left ≡ arguments_meaning first.scope all
  pub finds : earliest now.least (arguments_faults first.scope left) ≡ earliest first.least (arguments_faults first.scope all)

pub met_first : (first : Walk) (made : List Expr) (all : List Expression) → made ≡ [] → AreMet first made all first all
met_first first made all none = record {
  reads = refl;
  stays = refl;
  makes = ap (λ m. map expression m ++ arguments_meaning first.scope all) none;
  finds = refl;
}

pub met_on : (now next first : Walk) (made further : List Expr) (own : Expr) (e : Expression) (rest left all : List Expression)
    → expression own ≡ (expression_typed now.scope e).meaning → HasFound now next (number_faults now.scope e) → further ≡ made ++ own ∷ [] → left ≡ e ∷ rest
    → AreMet now made left first all → AreMet next further rest first all
met_on now next first made further own e rest left all means found pushed is so_far =
    let there : AreMet now made (e ∷ rest) first all = subst (λ l. AreMet now made l first all) is so_far in
    let own_is : expression own ≡ (expression_typed first.scope e).meaning = means ∙ ap (λ s. (expression_typed s e).meaning) there.stays in
    record {
      reads = found.0 ∙ there.reads;
      stays = found.1 ∙ there.stays;
      makes =
          ap (λ f. map expression f ++ arguments_meaning first.scope rest) pushed
          ∙ ap (λ f. f ++ arguments_meaning first.scope rest) (map-append expression made (own ∷ []))
          ∙ append_assoc (map expression made) (expression own ∷ []) (arguments_meaning first.scope rest)
          ∙ ap (λ m. map expression made ++ m ∷ arguments_meaning first.scope rest) own_is ∙ there.makes;
      finds =
          ap (λ least. earliest least (arguments_faults first.scope rest))
          (found.2 ∙ ap (λ s. earliest now.least (number_faults s e)) there.stays)
          ∙ sym (earliest_more now.least (number_faults first.scope e) (arguments_faults first.scope rest)) ∙ there.finds;
    }

pub all_meant : (now first : Walk) (made : List Expr) (left all : List Expression) → left ≡ [] → AreMet now made left first all
    → map expression made ≡ arguments_meaning first.scope all
all_meant now first made left all none so_far =
    sym (append-nil (map expression made)) ∙ ap (λ l. map expression made ++ arguments_meaning first.scope l) (sym none) ∙ so_far.makes

pub all_met : (now first : Walk) (made : List Expr) (left all : List Expression) → left ≡ [] → AreMet now made left first all
    → HasFound first now (arguments_faults first.scope all)
all_met now first made left all none so_far =
    (so_far.reads, so_far.stays, ap (λ l. earliest now.least (arguments_faults first.scope l)) (sym none) ∙ so_far.finds)
