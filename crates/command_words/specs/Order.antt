-- What the words of a command line ask for.
use Rattle.std.specs.Prelude.{◌≡◌, ℕ, ◌+◌, ◌≤◌, Bool, true, false, List, [], ◌∷◌, Option, None, Some, codes, option_map, ⊤}
use Rattle.clap.specs.Words.{Text}
use Rattle.line_text.specs.Numeral.{numeral}
use Rattle.command_words.specs.Command.{AreTaken, value_in}
use Rattle.command_words.specs.declared.order.Domain.{Domain}
use Rattle.command_words.specs.declared.order.Domain.TheVariants.{Boxes, Octagons, Polyhedra}
use Rattle.command_words.specs.declared.order.Order.{Order}
use Rattle.command_words.specs.declared.order.Order.TheVariants.{Analysis, Demo, Fit}
use Rattle.command_words.specs.declared.order.Query.{Query}

-- What is asked of an analysis: what is kept of the stores with which a label is reached, how many tests of loops the exact part allows, the
-- text of a formula, where one is asked about, the text of an input, where one alone is asked for, whether the report explains itself, and whether
-- families are added by splits.
pub record Task : Type 0 where
  pub domain : Domain
  pub delay : ℕ
  pub formula : Option Text
  pub input : Option Text
  pub explain : Bool
  pub refine : Bool

-- what is asked of the command: an analysis; that of the demo program of a number; or from which inputs runs fit the numbers of 32 bits, over sets of a kind
pub data Request : Type 0 where
  analysis : Task → Request
  demo : ℕ → Request
  fit : Domain → Request

-- how a domain is named
abbrev pub name_of : Domain → Text
name_of Boxes = codes "boxes"
name_of Octagons = codes "octagons"
name_of Polyhedra = codes "polyhedra"

-- the domain that is named, by default boxes
abbrev pub IsDomain : Option Text → Domain → Type 0
IsDomain None domain = domain ≡ Boxes
IsDomain (Some text) domain = text ≡ name_of domain

-- a digit up to 8, by default 2
abbrev pub IsDelay : Option Text → ℕ → Type 0
IsDelay None delay = delay ≡ 2
IsDelay (Some text) delay = (delay ≤ 8) × (text ≡ (48 + delay) ∷ [])

-- whether the flag is given
abbrev pub IsGiven : Option Text → Bool → Type 0
IsGiven value true = value ≡ Some (codes "true")
IsGiven value false = ¬ (value ≡ Some (codes "true"))

-- The values, by the options' names, ask for this analysis; the texts of a formula and of an input are any. Families are added where no formula is asked
-- about.
pub record IsTask (value : Text → Option Text) (task : Task) : Type 0 where
  pub domain : IsDomain (value (codes "domain")) task.domain
  pub delay : IsDelay (value (codes "delay")) task.delay
  pub formula : task.formula ≡ value (codes "ctl")
  pub input : task.input ≡ value (codes "at")
  pub explain : IsGiven (value (codes "explain")) task.explain
  pub refine : IsGiven (value (codes "refine")) task.refine
  pub alone : task.refine ≡ true → task.formula ≡ None

-- none of these options has a value
abbrev pub Without : List Text → (Text → Option Text) → Type 0
Without [] value = ⊤
Without (name ∷ more) value = (value name ≡ None) × Without more value

-- nor one of these flags is given
abbrev pub Unflagged : List Text → (Text → Option Text) → Type 0
Unflagged [] value = ⊤
Unflagged (name ∷ more) value = IsGiven (value name) false × Unflagged more value

-- no option of an analysis is given, and `--fit` and `--refine` aren't
abbrev pub IsAlone : (Text → Option Text) → Type 0
IsAlone value =
    Without (codes "domain" ∷ (codes "delay" ∷ (codes "ctl" ∷ (codes "at" ∷ [])))) value × Unflagged (codes "explain" ∷ (codes "fit" ∷ (codes "refine" ∷ []))) value

-- the number of a demo program, from 1 to 1000, by its numeral
pub record IsCount (text : Text) (number : ℕ) : Type 0 where
  pub text_is : text ≡ numeral number
  pub some : 1 ≤ number
  pub few : number ≤ 1000

-- `--demo` has this number, and stands alone
abbrev pub IsDemo : (Text → Option Text) → ℕ → Type 0
IsDemo value number = (text : Text) × (value (codes "demo") ≡ Some text) × IsCount text number × IsAlone value

-- `--fit` is given, with no option but that of the domain
pub record IsFit (value : Text → Option Text) (domain : Domain) : Type 0 where
  pub asked : IsGiven (value (codes "fit")) true
  pub over : IsDomain (value (codes "domain")) domain
  pub without : Without (codes "delay" ∷ (codes "ctl" ∷ (codes "at" ∷ []))) value
  pub unflagged : Unflagged (codes "explain" ∷ (codes "refine" ∷ [])) value

-- the values ask for this
abbrev pub Requests : (Text → Option Text) → Request → Type 0
Requests value (analysis task) = (value (codes "demo") ≡ None) × IsGiven (value (codes "fit")) false × IsTask value task
Requests value (demo number) = IsDemo value number
Requests value (fit domain) = (value (codes "demo") ≡ None) × IsFit value domain

-- The words, the program's name first, ask for this: `clap` takes them, and the values that it reads ask for it. Other words ask for nothing.
abbrev pub Ask : List Text → Request → Type 0
Ask words request = AreTaken words × Requests (value_in words) request

-- What follows has no part in the headline.

-- what a query and an order ask
abbrev pub task_of : Query → Task
task_of query = record {
  domain = query.domain;
  delay = query.delay;
  formula = option_map (λ text. text.now) query.formula;
  input = option_map (λ text. text.now) query.input;
  explain = query.explain;
  refine = query.refine;
}

abbrev pub request_of : Order → Request
request_of (Analysis query) = analysis (task_of query)
request_of (Demo number) = demo number
request_of (Fit domain) = fit domain

-- the words ask for something
abbrev pub Accepted : List Text → Type 0
Accepted words = (request : Request) × Ask words request
