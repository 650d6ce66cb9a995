-- What the readers of the parser answer, for whatever is to be read behind.
use Rattle.std.specs.Prelude.{◌≡◌, ◌⊎◌, refl, ℕ, Bool, true, Option, List, [], ◌∷◌, ◌++◌}
use Rattle.derivation.specs.declared.rule.Rule.{Rule}
use Rattle.derivation.specs.declared.symbol.Symbol.{Symbol}
use Rattle.derivation.specs.declared.symbol.Symbol.TheVariants as S
use Rattle.derivation.specs.Word.{symbol}
use Rattle.derivation.specs.Comes.{IsNext}
use Rattle.derivation.specs.Failures.{MissesWord}
use Rattle.source_syntax.specs.Language.{Rest}
use Rattle.concrete_syntax.specs.Trees.{Link, operation, division, Expression, Name, Simple, Value, Part, Start, StatementKind, Items, Prelude, named as named_parameters, Function, Program}
use Rattle.concrete_syntax.specs.declared.program.Function.{Function as RustFunction}
use Rattle.concrete_syntax.specs.declared.statement.Items.{Items as RustItems}
use Rattle.concrete_syntax.specs.Mirror.{functions, items as items_tree}
use Rattle.concrete_syntax.specs.Chains.{tail_of}
use Rattle.source_syntax.specs.Spelling.{sign, opening}
use Rattle.source_syntax.specs.Ends.{ValueEnd, value_of, StatementEnd, kind_of, Definitions}
use Rattle.source_syntax.specs.Pending.{Pending, exactly, an_operand, a_divisor, a_tail, an_optional, a_test, a_name, an_initialiser, a_part_end, parts, a_declaration, a_start, a_finish, a_value, a_value_end, a_closing, arguments, further_arguments, a_statement_end, items, a_void, parameters, further_parameters, a_place, TreeOf, Trees, Leads, Stops}
use Rattle.source_syntax.specs.declared.opening.LinkOpening.{LinkOpening}
use Rattle.source_syntax.specs.declared.opening.LinkOpening.TheVariants.{Operation, Division}

-- the words up to `to` are this tree of a `p`, and its operators raise the count of their expression from `count` to `now`
abbrev pub ReadsCounting : ℕ → (p : Pending) → TreeOf p → Rest → ℕ → Rest → Type 0
ReadsCounting count p tree from now to = (behind : List Pending) → Leads count (p ∷ behind) from now behind to (λ trees. (tree, trees))

abbrev pub RefusesCounting : ℕ → Pending → Rest → Rule → Rest → Type 0
RefusesCounting count p from rule to = (behind : List Pending) → Stops count (p ∷ behind) from rule to

-- the same for a `p` whose expressions begin their counts anew
abbrev pub Reads : (p : Pending) → TreeOf p → Rest → Rest → Type 0
Reads p tree from to = (count : ℕ) (behind : List Pending) → (now : ℕ) × Leads count (p ∷ behind) from now behind to (λ trees. (tree, trees))

abbrev pub Refuses : Pending → Rest → Rule → Rest → Type 0
Refuses p from rule to = (count : ℕ) → RefusesCounting count p from rule to

-- the same for a `p` that begins with an expression
abbrev pub ReadsAfresh : (p : Pending) → TreeOf p → Rest → Rest → Type 0
ReadsAfresh p tree from to = (behind : List Pending) → (now : ℕ) × Leads 0 (p ∷ behind) from now behind to (λ trees. (tree, trees))

-- the words up to `to` are this tree of a `p`, behind which an expression begins
abbrev pub ReadsLeading : (p : Pending) → TreeOf p → Rest → Rest → Type 0
ReadsLeading p tree from to = (count : ℕ) (behind : List Pending) → Leads count (p ∷ behind) from 0 behind to (λ trees. (tree, trees))

-- Reading these from `from` has come to reading those from `to`, whatever is to be read behind: the trees of these are made so of those of the others.
abbrev pub Goes : (these those : List Pending → List Pending) → ((behind : List Pending) → Trees (those behind) → Trees (these behind)) → Rest → Rest → Type 0
Goes these those fill from to = (count : ℕ) (behind : List Pending) → (now : ℕ) × Leads count (these behind) from now (those behind) to (fill behind)

-- or it breaks the rule at the first of `to`
abbrev pub Halts : (List Pending → List Pending) → Rest → Rule → Rest → Type 0
Halts these from rule to = (count : ℕ) (behind : List Pending) → Stops count (these behind) from rule to

-- these signs stand one behind the other; and the first of them that doesn't, behind those that do
abbrev pub AreNext : List Symbol → Rest → Rest → Type 0
AreNext [] from to = from ≡ to
AreNext (wanted ∷ more) from to = (behind : Rest) × IsNext (symbol wanted) from behind × AreNext more behind to

abbrev pub MissesOne : List Symbol → Rest → Rule → Rest → Type 0
MissesOne [] from rule to = ⊥
MissesOne (wanted ∷ more) from rule to =
    (MissesWord from (symbol wanted) rule × (to ≡ from)) ⊎ ((behind : Rest) × IsNext (symbol wanted) from behind × MissesOne more behind rule to)

-- what stands behind the sign of a link, and the link that it makes
abbrev pub right_of : ℕ → LinkOpening → Pending
right_of levels (Operation op) = an_operand levels
right_of levels (Division sign) = a_divisor

abbrev pub link_of : (levels : ℕ) (opening : LinkOpening) → TreeOf (right_of levels opening) → Link
link_of levels (Operation op) e = operation op e
link_of levels (Division sign) d = division sign d

-- the words up to `to` are what stands behind the sign of this link
pub record ReadsRight (count levels : ℕ) (opening : LinkOpening) (link : Link) (from : Rest) (now : ℕ) (to : Rest) : Type 0 where
  pub tree : TreeOf (right_of levels opening)
  pub made : link ≡ link_of levels opening tree
  pub reads : ReadsCounting count (right_of levels opening) tree from now to

-- Reading a tail from `start` has read these links, and has come to reading what is left of it from `here`.
abbrev pub ComesToTail : ℕ → ℕ → List Link → Rest → ℕ → Rest → Type 0
ComesToTail count levels links start now here =
    (behind : List Pending) → Leads count (a_tail levels ∷ behind) start now (a_tail levels ∷ behind) here (λ trees. (tail_of links trees.0, trees.1))

-- the words up to `to` are this value, before what stands behind it, in a declaration or not
abbrev pub ReadsValue : ℕ → Value → Rest → Rest → Type 0
ReadsValue levels value from to =
    (initialises : Bool) (behind : List Pending)
    → (now : ℕ) × Leads 0 (a_value initialises levels ∷ behind) from now (a_closing initialises levels ∷ behind) to (λ trees. ((value, trees.0), trees.1))

abbrev pub RefusesValue : ℕ → Rest → Rule → Rest → Type 0
RefusesValue levels from rule to = (initialises : Bool) → RefusesCounting 0 (a_value initialises levels) from rule to

-- the words up to `to` are what stands behind the name that this value begins with
pub record ReadsValueEnd (levels : ℕ) (first : Name) (value : Value) (from to : Rest) : Type 0 where
  pub end : ValueEnd
  pub made : value ≡ value_of first end
  pub comes : (initialises : Bool) (behind : List Pending)
      → (now : ℕ) × Leads 0 (a_value_end initialises levels ∷ behind) from now (a_closing initialises levels ∷ behind) to (λ trees. ((end, trees.0), trees.1))

abbrev pub RefusesValueEnd : ℕ → Rest → Rule → Rest → Type 0
RefusesValueEnd levels from rule to = (initialises : Bool) → RefusesCounting 0 (a_value_end initialises levels) from rule to

-- the words up to `to` are what stands behind the name of a statement of this kind, with its `;`
pub record ReadsEnd (functions : Bool) (levels : ℕ) (name : Name) (kind : StatementKind) (from to : Rest) : Type 0 where
  pub end : StatementEnd
  pub made : kind ≡ kind_of name end
  pub reads : Reads (a_statement_end functions levels) end from to

-- Reading arguments from `start` has read these, and has come to reading further ones from `here`.
abbrev pub ComesToArguments : ℕ → List Expression → Rest → Rest → Type 0
ComesToArguments levels so_far start here =
    (behind : List Pending)
    → (now : ℕ) × Leads 0 (arguments levels ∷ behind) start now (further_arguments levels ∷ behind) here (λ trees. (so_far ++ trees.0, trees.1))

-- Reading a `p` from `from` has come to reading what is left of it from `to`: the whole is made so of what is left.
abbrev pub Continues : (p : Pending) → (TreeOf p → TreeOf p) → Rest → Rest → Type 0
Continues p whole from to = (count : ℕ) (behind : List Pending) → (now : ℕ) × Leads count (p ∷ behind) from now (p ∷ behind) to (λ trees. (whole trees.0, trees.1))

-- a program, with these before what else stands before its functions
abbrev pub behind_preludes : List Prelude → Program → Program
behind_preludes front program =
    record { preludes = front ++ program.preludes; functions = program.functions; void = program.void; items = program.items }

-- what stands behind preludes, by the parts that a reader answers
abbrev pub definitions_tree : List RustFunction → Bool → RustItems → Definitions
definitions_tree list void all = record { functions = functions list; void = void; items = items_tree all }

-- the same with these before its other functions
abbrev pub behind_functions : List Function → Definitions → Definitions
behind_functions front all = record { functions = front ++ all.functions; void = all.void; items = all.items }

-- the words up to `to` are this initialiser, before further parts of its declaration
abbrev pub ReadsInitialiser : Bool → ℕ → Value → Rest → Rest → Type 0
ReadsInitialiser functions levels value from to =
    (behind : List Pending)
    → (now : ℕ) × Leads 0 (an_initialiser functions levels ∷ behind) from now (parts functions levels ∷ behind) to (λ trees. ((value, trees.0), trees.1))

-- a declared name, and what stands behind it
abbrev pub a_part : Bool → ℕ → List Pending → List Pending
a_part functions levels behind = a_name ∷ a_part_end functions levels ∷ behind

-- the words up to `to` are this part of a declaration, before further parts
abbrev pub ReadsPart : Bool → ℕ → Part → Rest → Rest → Type 0
ReadsPart functions levels part =
    Goes (a_part functions levels) (λ behind. parts functions levels ∷ behind) (λ behind trees. (part.declared, ((part.initialiser, trees.0), trees.1)))

-- Reading a declaration from `from` has read this part and these behind it, and has come to reading its further parts from `to`.
abbrev pub ComesToParts : Bool → ℕ → Part → List Part → Rest → Rest → Type 0
ComesToParts functions levels part so_far =
    Goes (λ behind. a_declaration functions levels ∷ behind) (λ behind. parts functions levels ∷ behind)
    (λ behind trees. (record { part = part; more = so_far ++ trees.0 }, trees.1))

-- what stands behind the body of a `do`
abbrev pub end_of_do : ℕ → List Pending → List Pending
end_of_do levels behind = a_place ∷ exactly (sign S.While) (refl, refl) ∷ a_test levels ∷ exactly (sign S.Semicolon) (refl, refl) ∷ behind

-- the words up to `to` are the end of a `do` with this test
abbrev pub ReadsEndOfDo : ℕ → Expression → Rest → Rest → Type 0
ReadsEndOfDo levels test from to = Goes (end_of_do levels) (λ behind. behind) (λ behind trees. (from.number, (tt, (test, (tt, trees))))) from to

-- what stands between a `for` and its body
abbrev pub head_of_for : Bool → ℕ → List Pending → List Pending
head_of_for functions levels behind = exactly (sign S.OpenParenthesis) (refl, refl) ∷ a_start functions levels ∷ an_optional levels ∷ a_finish levels ∷ behind

-- the words up to `to` are these parts of a `for`, in its parentheses
abbrev pub ReadsHeadOfFor : Bool → ℕ → Start → Option Expression → Option Simple → Rest → Rest → Type 0
ReadsHeadOfFor functions levels start test step =
    Goes (head_of_for functions levels) (λ behind. behind) (λ behind trees. (tt, (start, (test, (step, trees)))))

-- what stands behind the name of `main`
abbrev pub main_end : Bool → List Pending → List Pending
main_end functions behind =
    exactly (sign S.OpenParenthesis) (refl, refl) ∷ a_void ∷ exactly (opening S.OpenBrace 1) (refl, refl) ∷ items functions 1 ∷ behind

-- the words up to `to` are that of a `main` with these items
abbrev pub ReadsMain : Bool → Bool → Items → Rest → Rest → Type 0
ReadsMain functions void all = Goes (main_end functions) (λ behind. behind) (λ behind trees. (tt, (void, (tt, (all, trees)))))

-- what stands behind the type of a function
abbrev pub function_end : List Pending → List Pending
function_end behind =
    a_name ∷ exactly (sign S.OpenParenthesis) (refl, refl) ∷ parameters ∷ exactly (opening S.OpenBrace 1) (refl, refl) ∷ items true 1 ∷ a_place ∷ behind

-- the words up to `to` are that of this function
abbrev pub ReadsFunction : Function → Rest → Rest → Type 0
ReadsFunction f = Goes function_end (λ behind. behind) (λ behind trees. (f.name, (tt, (f.parameters, (tt, (f.items, (f.behind, trees)))))))

-- Reading parameters from `start` has read these, and has come to reading further ones from `here`.
abbrev pub ComesToParameters : Name → List Name → Rest → Rest → Type 0
ComesToParameters first so_far =
    Goes (λ behind. parameters ∷ behind) (λ behind. further_parameters ∷ behind) (λ behind trees. (named_parameters first (so_far ++ trees.0), trees.1))

-- a further parameter
abbrev pub a_parameter : List Pending → List Pending
a_parameter behind = exactly (sign S.Int) (refl, refl) ∷ a_name ∷ behind

-- the words up to `to` are one of this name
abbrev pub ReadsParameter : Name → Rest → Rest → Type 0
ReadsParameter x = Goes a_parameter (λ behind. behind) (λ behind trees. (tt, (x, trees)))
