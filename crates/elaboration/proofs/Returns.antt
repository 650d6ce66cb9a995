-- Without faults, a function returns only where nothing of it follows, with a value where it gives one.
use Rattle.std.proofs.Common.{◌≡◌, ℕ, nat_lt, Bool, true, false, ◌&&◌, ◌||◌, List, [], ◌∷◌, ◌++◌, ◌⊎◌, Option, None, Some, inl, inr, refl, sym, ap, ◌∙◌, subst, append-nil, if◌then◌else◌}
use Rattle.std.proofs.lemmas.Bool.{false≢true}
use Rattle.call_meaning.specs.Units.{Command, Commands, of_list, Table, empty, sequence}
use Rattle.call_meaning.specs.Units as unit
use Rattle.call_meaning.specs.Tables.{gives_value}
use Rattle.call_meaning.specs.Validity.{Stands, AllStand, Gives, IsClosing, Closes}
use Rattle.concrete_syntax.specs.Trees.{Expression, Statement, statement_at, simple, calls, gives, skip, braces, conditional, while_loop, do_loop, for_loop, return, break, continue, Otherwise, without, otherwise, Items, none, declaration, statement}
use Rattle.elaboration.specs.Contexts.{Context, body_of, deeper, looping}
use Rattle.elaboration.specs.Elaborates.{missing_faults}
use Rattle.elaboration.specs.Guards.{is_ended, returns, otherwise_returns, items_return, is_function, guards, around_statement, around_rest}
use Rattle.typed_expressions.specs.Scopes.{Scope}
use Rattle.typed_expressions.specs.Expressions.{expression_faults}
use Rattle.elaboration.specs.Statements.{optional_simple_walked, declaration_walked, start_walked, optional_faults, return_faults, returned_value, followed, statement_walked, otherwise_walked, items_walked}
use Rattle.elaboration.proofs.Jumps.{HasFunctions, statement_inside, inside_append, optional_simple_inside, parts_inside, start_inside}
use Rattle.typed_expressions.proofs.Valid.{both_none, some_is_not_none}

-- ── Bodies that close a function ──

module _ (table : Table) (k : ℕ) where
  -- what has no `return` closes a function that gives no value
  mutual
    plain_closing : (s : Command) → Stands table k false false s → IsClosing table k false s
    plain_closing (unit.return value) h = absurd (false≢true h)
    plain_closing (unit.if_else c one other) h = (plain_closes one h.0, plain_closes other h.1)
    plain_closing (unit.assign x e) h = (h, refl)
    plain_closing (unit.call target f arguments) h = (h, refl)
    plain_closing unit.skip h = (h, refl)
    plain_closing unit.break h = (h, refl)
    plain_closing unit.continue h = (h, refl)
    plain_closing (unit.while_loop c body step) h = (h, refl)
    plain_closing (unit.do_while body c) h = (h, refl)

    plain_closes : (body : Commands) → AllStand table k false false body → Closes table k false body
    plain_closes empty h = refl
    plain_closes (sequence first empty) h = plain_closing first h.0
    plain_closes (sequence first (sequence next more)) h = (h.0, plain_closes (sequence next more) h.1)

  -- statements before others that close it
  closes_cons : (valued : Bool) (x : Command) (ys : List Command) → Stands table k false false x → Closes table k valued (of_list ys)
      → Closes table k valued (sequence x (of_list ys))
  closes_cons valued x [] h closed = subst (λ v. IsClosing table k v x) (sym closed) (plain_closing x h)
  closes_cons valued x (y ∷ more) h closed = (h, closed)

  closes_append : (valued : Bool) (xs ys : List Command) → AllStand table k false false (of_list xs) → Closes table k valued (of_list ys)
      → Closes table k valued (of_list (xs ++ ys))
  closes_append valued [] ys h closed = closed
  closes_append valued (x ∷ xs) ys h closed = closes_cons valued x (xs ++ ys) h.0 (closes_append valued xs ys h.1 closed)

  -- a function gives a value where it closes with one
  gives_later : (x y : Command) (more : Commands) → gives_value (sequence x (sequence y more)) ≡ gives_value (sequence y more)
  gives_later (unit.return (Some e)) y more = refl
  gives_later (unit.return None) y more = refl
  gives_later (unit.assign x e) y more = refl
  gives_later (unit.call target f arguments) y more = refl
  gives_later unit.skip y more = refl
  gives_later unit.break y more = refl
  gives_later unit.continue y more = refl
  gives_later (unit.if_else c one other) y more = refl
  gives_later (unit.while_loop c body step) y more = refl
  gives_later (unit.do_while body c) y more = refl

  mutual
    closing_gives : (valued : Bool) (s : Command) → IsClosing table k valued s → gives_value (sequence s empty) ≡ valued
    closing_gives valued (unit.return (Some e)) h = sym h
    closing_gives valued (unit.return None) h = sym h
    closing_gives valued (unit.if_else c one other) h = closes_gives valued one h.0
    closing_gives valued (unit.assign x e) h = sym h.1
    closing_gives valued (unit.call target f arguments) h = sym h.1
    closing_gives valued unit.skip h = sym h.1
    closing_gives valued unit.break h = sym h.1
    closing_gives valued unit.continue h = sym h.1
    closing_gives valued (unit.while_loop c body step) h = sym h.1
    closing_gives valued (unit.do_while body c) h = sym h.1

    pub closes_gives : (valued : Bool) (body : Commands) → Closes table k valued body → gives_value body ≡ valued
    closes_gives valued empty h = sym h
    closes_gives valued (sequence first empty) h = closing_gives valued first h
    closes_gives valued (sequence first (sequence next more)) h = gives_later first next more ∙ closes_gives valued (sequence next more) h.1

-- ── What a walk over a function makes ──

own_function : (valued : Bool) → is_function (body_of valued) ≡ true
own_function true = refl
own_function false = refl

returned_gives : (valued last : Bool) (scope : Scope) (at : ℕ) (value : Option Expression) → return_faults (body_of valued) last scope at value ≡ []
    → Gives valued (returned_value (body_of valued) scope value)
returned_gives true last scope at (Some e) clean = refl
returned_gives true last scope at None clean = absurd (some_is_not_none _ [] clean)
returned_gives false last scope at (Some e) clean = absurd (some_is_not_none _ _ clean)
returned_gives false last scope at None clean = refl

or_true : (a : Bool) → (a || true) ≡ true
or_true true = refl
or_true false = refl

and_first : (a b : Bool) → (a && b) ≡ true → a ≡ true
and_first true b e = refl
and_first false b e = e

module _ (table : Table) (k : ℕ) (valued : Bool) where
  -- what is the last of a function, outside its loops; and it always returns, unless the function gives no value
  abbrev IsAt : Context → Type 0
  IsAt c = (c.body ≡ body_of valued) × (c.last ≡ true) × (c.in_loop ≡ false)

  abbrev pub Ends : Bool → Type 0
  Ends returned = (returned ≡ true) ⊎ (valued ≡ false)

  valueless : Ends false → valued ≡ false
  valueless (inl e) = absurd (false≢true e)
  valueless (inr none_given) = none_given

  both_end : (a b : Bool) → Ends (a && b) → Ends a × Ends b
  both_end true b (inl e) = (inl refl, inl e)
  both_end false b (inl e) = absurd (false≢true e)
  both_end a b (inr none_given) = (inr none_given, inr none_given)

  -- where something follows
  abbrev inner : Context → Context
  inner c = record c { last = false }

  function_body : (c : Context) → c.body ≡ body_of valued → is_function c.body ≡ true
  function_body c own = ap is_function own ∙ own_function valued

  plain : (c : Context) → IsAt c → (xs : List Command) → AllStand table k false c.in_loop (of_list xs) → valued ≡ false → Closes table k valued (of_list xs)
  plain c here xs h none_given =
      subst (λ v. Closes table k v (of_list xs)) (sym none_given)
      (plain_closes table k (of_list xs) (subst (λ within. AllStand table k false within (of_list xs)) here.2 h))

  -- items that begin with a statement that doesn't guard the others
  unguarded : (c : Context) → HasFunctions table k c.functions → IsAt c → (scope : Scope) (s : Statement) (more : Items) → guards c s ≡ false
      → (items_walked c scope (statement s more)).faults ≡ [] → Ends (items_return (statement s more))
      → (IsAt (around_statement c s more) → (statement_walked (around_statement c s more) scope s).faults ≡ [] → Ends (returns s)
      → Closes table k valued (of_list (statement_walked (around_statement c s more) scope s).body))
      → ((items_walked (around_rest c s) (statement_walked (around_statement c s more) scope s).scope more).faults ≡ [] → Ends (items_return more)
      → Closes table k valued (of_list (items_walked (around_rest c s) (statement_walked (around_statement c s more) scope s).scope more).body))
      → Closes table k valued (of_list (items_walked c scope (statement s more)).body)
  unguarded c has here scope s more free clean ends first rest = by_more more refl clean ends first rest
    where
      behind_more : (all : Items) → is_ended all ≡ false → (items_walked c scope (statement s all)).faults ≡ [] → Ends (items_return (statement s all))
          → ((items_walked (around_rest c s) (statement_walked (around_statement c s all) scope s).scope all).faults ≡ [] → Ends (items_return all)
          → Closes table k valued (of_list (items_walked (around_rest c s) (statement_walked (around_statement c s all) scope s).scope all).body))
          → Closes table k valued (of_list (items_walked c scope (statement s all)).body)
      behind_more all some clean ends rest =
          let around = around_statement c s all in
          let w = statement_walked around scope s in
          let others = items_walked (around_rest c s) w.scope all in
          let faultless = both_none w.faults others.faults clean in
          let last : around.last ≡ false =
          ap (λ e. c.last && (e || guards c s)) some ∙ ap (λ g. c.last && g) free ∙ ap (λ l. l && false) here.1
          in
          let stands = statement_inside table k false around (λ e. (last, function_body c here.0)) has scope s faultless.0 in
          let within = subst (λ inside. AllStand table k false inside (of_list w.body)) here.2 stands in
          let returned : Ends (items_return all) = subst (λ e. Ends (if e then returns s else items_return all)) some ends in
          subst (λ xs. Closes table k valued (of_list xs)) (ap (λ g. followed g w.body others.body) (sym free))
          (closes_append table k valued w.body others.body within (rest faultless.1 returned))

      by_more : (all : Items) → all ≡ more → (items_walked c scope (statement s all)).faults ≡ [] → Ends (items_return (statement s all))
          → (IsAt (around_statement c s all) → (statement_walked (around_statement c s all) scope s).faults ≡ [] → Ends (returns s)
          → Closes table k valued (of_list (statement_walked (around_statement c s all) scope s).body))
          → ((items_walked (around_rest c s) (statement_walked (around_statement c s all) scope s).scope all).faults ≡ [] → Ends (items_return all)
          → Closes table k valued (of_list (items_walked (around_rest c s) (statement_walked (around_statement c s all) scope s).scope all).body))
          → Closes table k valued (of_list (items_walked c scope (statement s all)).body)
      by_more none is clean ends first rest =
          let w = statement_walked (around_statement c s none) scope s in
          let last : c.last && (true || guards c s) ≡ true = ap (λ l. l && true) here.1 in
          let closed = first (here.0, last, here.2) (both_none w.faults [] clean).0 ends in
          subst (λ xs. Closes table k valued (of_list xs)) (ap (λ g. followed g w.body []) (sym free))
          (subst (λ xs. Closes table k valued (of_list xs)) (sym (append-nil w.body)) closed)
      by_more (declaration d others) is clean ends first rest =
          behind_more (declaration d others) refl clean ends rest
      by_more (statement t others) is clean ends first rest =
          behind_more (statement t others) refl clean ends rest

  -- items that begin with an `if` that has no `else`
  rest_ends : (part : Statement) (more : Items) → Ends (if is_ended more then returns part && false else items_return more) → Ends (items_return more)
  rest_ends part none ends = (both_end (returns part) false ends).1
  rest_ends part (declaration d more) ends = ends
  rest_ends part (statement s more) ends = ends

  either : (c : Context) → HasFunctions table k c.functions → IsAt c → (scope : Scope) (at : ℕ) (test : Expression) (part : Statement) (more : Items) (g : Bool)
      → guards c (statement_at at (conditional test part without)) ≡ g
      → (items_walked c scope (statement (statement_at at (conditional test part without)) more)).faults ≡ []
      → Ends (items_return (statement (statement_at at (conditional test part without)) more))
      → (IsAt (around_statement c (statement_at at (conditional test part without)) more)
      → (statement_walked (around_statement c (statement_at at (conditional test part without)) more) scope (statement_at at (conditional test part without))).faults ≡ []
      → Ends (returns part && false)
      → Closes table k valued (of_list (statement_walked (around_statement c (statement_at at (conditional test part without)) more) scope
      (statement_at at (conditional test part without))).body))
      → (IsAt (deeper (around_statement c (statement_at at (conditional test part without)) more))
      → (statement_walked (deeper (around_statement c (statement_at at (conditional test part without)) more)) scope part).faults ≡ [] → Ends (returns part)
      → Closes table k valued (of_list (statement_walked (deeper (around_statement c (statement_at at (conditional test part without)) more)) scope part).body))
      → ((items_walked (around_rest c (statement_at at (conditional test part without)))
      (statement_walked (deeper (around_statement c (statement_at at (conditional test part without)) more)) scope part).scope more).faults ≡ []
      → Ends (items_return more)
      → Closes table k valued (of_list (items_walked (around_rest c (statement_at at (conditional test part without)))
      (statement_walked (deeper (around_statement c (statement_at at (conditional test part without)) more)) scope part).scope more).body))
      → Closes table k valued (of_list (items_walked c scope (statement (statement_at at (conditional test part without)) more)).body)
  either c has here scope at test part more false e clean ends whole inside rest =
      unguarded c has here scope (statement_at at (conditional test part without)) more e clean ends whole rest
  either c has here scope at test part more true e clean ends whole inside rest =
      let s : Statement = statement_at at (conditional test part without) in
      let d = around_statement c s more in
      let first = statement_walked (deeper d) scope part in
      let w = statement_walked d scope s in
      let others = items_walked (around_rest c s) w.scope more in
      let faultless = both_none w.faults others.faults clean in
      let own = both_none (expression_faults scope test) (first.faults ++ []) faultless.0 in
      let last : d.last ≡ true =
      ap (λ g. c.last && (is_ended more || g)) e ∙ ap (λ l. l && (is_ended more || true)) here.1 ∙ or_true (is_ended more)
      in
      let returned : returns part ≡ true = and_first (returns part) (is_function c.body && nat_lt c.level 64) e in
      subst (λ xs. Closes table k valued (of_list xs)) (ap (λ g. followed g w.body others.body) (sym e))
      (inside (here.0, last, here.2) (both_none first.faults [] own.1).0 (inl returned), rest faultless.1 (rest_ends part more ends))

  mutual
    statement_closes : (c : Context) → HasFunctions table k c.functions → IsAt c → (scope : Scope) (s : Statement) → (statement_walked c scope s).faults ≡ []
        → Ends (returns s) → Closes table k valued (of_list (statement_walked c scope s).body)
    statement_closes c has here scope (statement_at at (return value)) clean ends =
        let there : return_faults (body_of valued) c.last scope at value ≡ [] = subst (λ b. return_faults b c.last scope at value ≡ []) here.0 clean in
        subst (λ b. Gives valued (returned_value b scope value)) (sym here.0) (returned_gives valued c.last scope at value there)
    statement_closes c has here scope (statement_at at (braces all)) clean ends = items_closes (deeper c) has here scope all clean ends
    statement_closes c has here scope (statement_at at (conditional test part other)) clean ends =
        let d = deeper c in
        let first = statement_walked d scope part in
        let second = otherwise_walked d first.scope other in
        let outer = both_none (expression_faults scope test) (first.faults ++ second.faults) clean in
        let inside = both_none first.faults second.faults outer.1 in
        let each = both_end (returns part) (otherwise_returns other) ends in
        (statement_closes d has here scope part inside.0 each.0, otherwise_closes d has here first.scope other inside.1 each.1)
    statement_closes c has here scope (statement_at at (simple s)) clean ends =
        plain c here (statement_walked (inner c) scope (statement_at at (simple s))).body (statement_inside table k false (inner c) (λ e. (refl, function_body c here.0)) has scope (statement_at at (simple s)) clean) (valueless ends)
    statement_closes c has here scope (statement_at at (calls call)) clean ends =
        plain c here (statement_walked (inner c) scope (statement_at at (calls call))).body (statement_inside table k false (inner c) (λ e. (refl, function_body c here.0)) has scope (statement_at at (calls call)) clean) (valueless ends)
    statement_closes c has here scope (statement_at at (gives x call)) clean ends =
        plain c here (statement_walked (inner c) scope (statement_at at (gives x call))).body (statement_inside table k false (inner c) (λ e. (refl, function_body c here.0)) has scope (statement_at at (gives x call)) clean) (valueless ends)
    statement_closes c has here scope (statement_at at skip) clean ends = plain c here (unit.skip ∷ []) (tt, tt) (valueless ends)
    statement_closes c has here scope (statement_at at break) clean ends =
        plain c here (statement_walked (inner c) scope (statement_at at break)).body (statement_inside table k false (inner c) (λ e. (refl, function_body c here.0)) has scope (statement_at at break) clean) (valueless ends)
    statement_closes c has here scope (statement_at at continue) clean ends =
        plain c here (statement_walked (inner c) scope (statement_at at continue)).body (statement_inside table k false (inner c) (λ e. (refl, function_body c here.0)) has scope (statement_at at continue) clean) (valueless ends)
    statement_closes c has here scope (statement_at at (while_loop test body)) clean ends =
        plain c here (statement_walked (inner c) scope (statement_at at (while_loop test body))).body (statement_inside table k false (inner c) (λ e. (refl, function_body c here.0)) has scope (statement_at at (while_loop test body)) clean) (valueless ends)
    statement_closes c has here scope (statement_at at (do_loop body end test)) clean ends =
        plain c here (statement_walked (inner c) scope (statement_at at (do_loop body end test))).body (statement_inside table k false (inner c) (λ e. (refl, function_body c here.0)) has scope (statement_at at (do_loop body end test)) clean) (valueless ends)
    statement_closes c has here scope (statement_at at (for_loop start test step body)) clean ends =
        let d = looping c in
        let before = start_walked (deeper c) scope start in
        let loop = statement_walked d before.scope body in
        let last = (optional_simple_walked before.scope step).faults ++ loop.faults in
        let outer = both_none before.faults (optional_faults before.scope test ++ last) clean in
        let middle = both_none (optional_faults before.scope test) last outer.1 in
        let parts = both_none (optional_simple_walked before.scope step).faults loop.faults middle.1 in
        plain c here _
        (inside_append table k false c.in_loop before.body (unit.while_loop _ _ _ ∷ []) (start_inside table k false (deeper c) has scope start outer.0)
        ((statement_inside table k false d (λ e. (refl, function_body c here.0)) has before.scope body parts.1, optional_simple_inside table k false c.in_loop before.scope step), tt))
        (valueless ends)

    otherwise_closes : (c : Context) → HasFunctions table k c.functions → IsAt c → (scope : Scope) (other : Otherwise)
        → (otherwise_walked c scope other).faults ≡ [] → Ends (otherwise_returns other) → Closes table k valued (of_list (otherwise_walked c scope other).body)
    otherwise_closes c has here scope without clean ends = valueless ends
    otherwise_closes c has here scope (otherwise s) clean ends = statement_closes (deeper c) has here scope s clean ends

    pub items_closes : (c : Context) → HasFunctions table k c.functions → IsAt c → (scope : Scope) (all : Items) → (items_walked c scope all).faults ≡ []
        → Ends (items_return all) → Closes table k valued (of_list (items_walked c scope all).body)
    items_closes c has here scope none clean ends = valueless ends
    items_closes c has here scope (declaration d more) clean ends =
        let w = declaration_walked c scope d in
        let rest = items_walked c w.scope more in
        let faultless = both_none w.faults rest.faults clean in
        let stands = parts_inside table k false c has scope (d.part ∷ d.more) faultless.0 in
        closes_append table k valued w.body rest.body (subst (λ within. AllStand table k false within (of_list w.body)) here.2 stands)
        (items_closes c has here w.scope more faultless.1 ends)
    items_closes c has here scope (statement (statement_at at (conditional test part without)) more) clean ends =
        let d = around_statement c (statement_at at (conditional test part without)) more in
        either c has here scope at test part more (guards c (statement_at at (conditional test part without))) refl clean ends
        (λ at_last faultless returned. statement_closes d has at_last scope (statement_at at (conditional test part without)) faultless returned)
        (λ at_last faultless returned. statement_closes (deeper d) has at_last scope part faultless returned)
        (λ faultless returned. items_closes (around_rest c (statement_at at (conditional test part without))) has here (statement_walked d scope (statement_at at (conditional test part without))).scope more faultless returned)
    items_closes c has here scope (statement (statement_at at (simple s')) more) clean ends =
        unguarded c has here scope (statement_at at (simple s')) more refl clean ends (λ at_last faultless returned. statement_closes (around_statement c (statement_at at (simple s')) more) has at_last scope (statement_at at (simple s')) faultless returned)
        (λ faultless returned. items_closes (around_rest c (statement_at at (simple s'))) has here (statement_walked (around_statement c (statement_at at (simple s')) more) scope (statement_at at (simple s'))).scope more faultless returned)
    items_closes c has here scope (statement (statement_at at (calls call)) more) clean ends =
        unguarded c has here scope (statement_at at (calls call)) more refl clean ends (λ at_last faultless returned. statement_closes (around_statement c (statement_at at (calls call)) more) has at_last scope (statement_at at (calls call)) faultless returned)
        (λ faultless returned. items_closes (around_rest c (statement_at at (calls call))) has here (statement_walked (around_statement c (statement_at at (calls call)) more) scope (statement_at at (calls call))).scope more faultless returned)
    items_closes c has here scope (statement (statement_at at (gives x call)) more) clean ends =
        unguarded c has here scope (statement_at at (gives x call)) more refl clean ends (λ at_last faultless returned. statement_closes (around_statement c (statement_at at (gives x call)) more) has at_last scope (statement_at at (gives x call)) faultless returned)
        (λ faultless returned. items_closes (around_rest c (statement_at at (gives x call))) has here (statement_walked (around_statement c (statement_at at (gives x call)) more) scope (statement_at at (gives x call))).scope more faultless returned)
    items_closes c has here scope (statement (statement_at at skip) more) clean ends =
        unguarded c has here scope (statement_at at skip) more refl clean ends (λ at_last faultless returned. statement_closes (around_statement c (statement_at at skip) more) has at_last scope (statement_at at skip) faultless returned)
        (λ faultless returned. items_closes (around_rest c (statement_at at skip)) has here (statement_walked (around_statement c (statement_at at skip) more) scope (statement_at at skip)).scope more faultless returned)
    items_closes c has here scope (statement (statement_at at (braces all)) more) clean ends =
        unguarded c has here scope (statement_at at (braces all)) more refl clean ends (λ at_last faultless returned. statement_closes (around_statement c (statement_at at (braces all)) more) has at_last scope (statement_at at (braces all)) faultless returned)
        (λ faultless returned. items_closes (around_rest c (statement_at at (braces all))) has here (statement_walked (around_statement c (statement_at at (braces all)) more) scope (statement_at at (braces all))).scope more faultless returned)
    items_closes c has here scope (statement (statement_at at (conditional test part (otherwise t))) more) clean ends =
        unguarded c has here scope (statement_at at (conditional test part (otherwise t))) more refl clean ends (λ at_last faultless returned. statement_closes (around_statement c (statement_at at (conditional test part (otherwise t))) more) has at_last scope (statement_at at (conditional test part (otherwise t))) faultless returned)
        (λ faultless returned. items_closes (around_rest c (statement_at at (conditional test part (otherwise t)))) has here (statement_walked (around_statement c (statement_at at (conditional test part (otherwise t))) more) scope (statement_at at (conditional test part (otherwise t)))).scope more faultless returned)
    items_closes c has here scope (statement (statement_at at (while_loop test body)) more) clean ends =
        unguarded c has here scope (statement_at at (while_loop test body)) more refl clean ends (λ at_last faultless returned. statement_closes (around_statement c (statement_at at (while_loop test body)) more) has at_last scope (statement_at at (while_loop test body)) faultless returned)
        (λ faultless returned. items_closes (around_rest c (statement_at at (while_loop test body))) has here (statement_walked (around_statement c (statement_at at (while_loop test body)) more) scope (statement_at at (while_loop test body))).scope more faultless returned)
    items_closes c has here scope (statement (statement_at at (do_loop body end test)) more) clean ends =
        unguarded c has here scope (statement_at at (do_loop body end test)) more refl clean ends (λ at_last faultless returned. statement_closes (around_statement c (statement_at at (do_loop body end test)) more) has at_last scope (statement_at at (do_loop body end test)) faultless returned)
        (λ faultless returned. items_closes (around_rest c (statement_at at (do_loop body end test))) has here (statement_walked (around_statement c (statement_at at (do_loop body end test)) more) scope (statement_at at (do_loop body end test))).scope more faultless returned)
    items_closes c has here scope (statement (statement_at at (for_loop start test step body)) more) clean ends =
        unguarded c has here scope (statement_at at (for_loop start test step body)) more refl clean ends (λ at_last faultless returned. statement_closes (around_statement c (statement_at at (for_loop start test step body)) more) has at_last scope (statement_at at (for_loop start test step body)) faultless returned)
        (λ faultless returned. items_closes (around_rest c (statement_at at (for_loop start test step body))) has here (statement_walked (around_statement c (statement_at at (for_loop start test step body)) more) scope (statement_at at (for_loop start test step body))).scope more faultless returned)
    items_closes c has here scope (statement (statement_at at (return value)) more) clean ends =
        unguarded c has here scope (statement_at at (return value)) more refl clean ends (λ at_last faultless returned. statement_closes (around_statement c (statement_at at (return value)) more) has at_last scope (statement_at at (return value)) faultless returned)
        (λ faultless returned. items_closes (around_rest c (statement_at at (return value))) has here (statement_walked (around_statement c (statement_at at (return value)) more) scope (statement_at at (return value))).scope more faultless returned)
    items_closes c has here scope (statement (statement_at at break) more) clean ends =
        unguarded c has here scope (statement_at at break) more refl clean ends (λ at_last faultless returned. statement_closes (around_statement c (statement_at at break) more) has at_last scope (statement_at at break) faultless returned)
        (λ faultless returned. items_closes (around_rest c (statement_at at break)) has here (statement_walked (around_statement c (statement_at at break) more) scope (statement_at at break)).scope more faultless returned)
    items_closes c has here scope (statement (statement_at at continue) more) clean ends =
        unguarded c has here scope (statement_at at continue) more refl clean ends (λ at_last faultless returned. statement_closes (around_statement c (statement_at at continue) more) has at_last scope (statement_at at continue) faultless returned)
        (λ faultless returned. items_closes (around_rest c (statement_at at continue)) has here (statement_walked (around_statement c (statement_at at continue) more) scope (statement_at at continue)).scope more faultless returned)

-- a function always returns, unless it gives no value
pub none_missing : (valued ended : Bool) (behind : ℕ) → missing_faults valued ended behind ≡ [] → (ended ≡ true) ⊎ (valued ≡ false)
none_missing true true behind clean = inl refl
none_missing true false behind clean = absurd (some_is_not_none _ [] clean)
none_missing false ended behind clean = inr refl
