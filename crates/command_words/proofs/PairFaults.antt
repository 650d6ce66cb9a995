-- No step fails at options with their values.
use Rattle.std.proofs.Common.{◌≡◌, ◌⊎◌, ◌∙◌, Bool, true, false, ◌||◌, inl, inr, List, [], ◌∷◌, ◌++◌, Option, None, Some, is_some, fold, refl, ap, codes}
use Rattle.std.specs.Prelude.{⊤}
use Rattle.clap.specs.Words.{Kinds, Row, Rule, Text, built, fault_of, matches_of, first_of}
use Rattle.clap.specs.Faults.{check_fault, default_fault, defaults_fault, entered_fault, given_default_fault, settle_fault, turn_fault, walk_fault}
use Rattle.clap.specs.Kinds.{or_else}
use Rattle.clap.specs.Simple.{Shape, entered}
use Rattle.clap.specs.Walk.{Held, Walk, finished, has_row, is_empty, nothing_held, settled, settled_rows, walk_from, walked, with_default}
use Rattle.clap.proofs.OnLiterals.{clap_on_literals}
use Rattle.command_words.specs.Command.{AreTaken, command, value_in}
use Rattle.command_words.specs.Pairs.{ArePairs, IsOption, IsPlain, Pair, ctl, domain, delay, at, demo, spelled, value_among}
use Rattle.command_words.proofs.PairRows.{AreNew, IsFlag, finishes, first_among, flag_is_last, flag_rows, never_stops, new_behind, no_flag_row, pending_of, row_of, rows_for, settled_all, settled_pair, walk_of, walks}
use Rattle.command_words.proofs.Walking.{at_name, at_rest, name_read, not_hyphens, not_long, not_short, rules, value_read}

unfoldable top : Shape
top = (built command).top

abbrev held : List Row → Option (Text × List Text) → Held
held rows pending = record { rows = rows; pending = pending; skip = 0 }

name_passes : (name : Text) → IsOption name → (rows : List Row) (pending : Option (Text × List Text)) → settle_fault rules false (held rows pending) ≡ []
    → turn_fault top [] (at_rest rows pending) (codes "--" ++ name) ≡ []
unfolding top rules command clap_on_literals
name_passes name ctl rows pending none = ap (λ t. or_else t []) none
name_passes name domain rows pending none = ap (λ t. or_else t []) none
name_passes name delay rows pending none = ap (λ t. or_else t []) none
name_passes name at rows pending none = ap (λ t. or_else t []) none
name_passes name demo rows pending none = ap (λ t. or_else t []) none

value_passes : (name text : Text) → IsOption name → IsPlain text → (rows : List Row) → turn_fault top [] (at_name name rows) text ≡ []
unfolding top rules command clap_on_literals
value_passes name text ctl plain rows = rw (not_hyphens text plain, not_long text plain, not_short text plain) refl
value_passes name text domain plain rows = rw (not_hyphens text plain, not_long text plain, not_short text plain) refl
value_passes name text delay plain rows = rw (not_hyphens text plain, not_long text plain, not_short text plain) refl
value_passes name text at plain rows = rw (not_hyphens text plain, not_long text plain, not_short text plain) refl
value_passes name text demo plain rows = rw (not_hyphens text plain, not_long text plain, not_short text plain) refl

settles : (name text : Text) → IsOption name → (rows : List Row) → has_row name rows ≡ false → settle_fault rules false (held rows (Some (name, text ∷ []))) ≡ []
unfolding top rules command clap_on_literals
settles name text ctl rows none = rw none refl
settles name text domain rows none = rw none refl
settles name text delay rows none = rw none refl
settles name text at rows none = rw none refl
settles name text demo rows none = rw none refl

next_all : (rows all : List Row) (pending : Option (Text × List Text)) (pair : Pair) → settled_rows rules pending rows ≡ all → IsOption pair.option
    → has_row pair.option all ≡ false → settled_rows rules (pending_of pair) (settled_rows rules pending rows) ≡ all ++ row_of pair ∷ []
next_all rows all pending pair is option new =
    ap (λ t. settled_rows rules (pending_of pair) t) is ∙ settled_pair pair.option pair.value option all new

next_settles : (rows all : List Row) (pending : Option (Text × List Text)) (pair : Pair) → settled_rows rules pending rows ≡ all → IsOption pair.option
    → has_row pair.option all ≡ false → settle_fault rules false (held (settled_rows rules pending rows) (pending_of pair)) ≡ []
next_settles rows all pending pair is option new =
    settles pair.option pair.value option (settled_rows rules pending rows) (ap (λ t. has_row pair.option t) is ∙ new)

faultless : (rows all : List Row) (pending : Option (Text × List Text)) (pairs : List Pair) → settled_rows rules pending rows ≡ all
    → settle_fault rules false (held rows pending) ≡ [] → ArePairs pairs → AreNew all pairs
    → walk_fault top [] (at_rest rows pending) (spelled pairs) ≡ []
unfolding top rules walk_fault
faultless rows all pending [] is none are new = refl
faultless rows all pending (pair ∷ more) is none are new =
    ap (λ t. or_else t (walk_fault top [] (walked rules [] (at_rest rows pending) (codes "--" ++ pair.option)) (pair.value ∷ spelled more)))
    (name_passes pair.option are.0 rows pending none)
    ∙ ap (λ w. walk_fault top [] w (pair.value ∷ spelled more)) (name_read pair.option are.0 rows pending)
    ∙ ap (λ t. or_else t (walk_fault top [] (walked rules [] (at_name pair.option (settled_rows rules pending rows)) pair.value) (spelled more)))
    (value_passes pair.option pair.value are.0 are.1 (settled_rows rules pending rows))
    ∙ ap (λ w. walk_fault top [] w (spelled more)) (value_read pair.option pair.value are.0 are.1 (settled_rows rules pending rows))
    ∙ faultless (settled_rows rules pending rows) (all ++ row_of pair ∷ []) (pending_of pair) more (next_all rows all pending pair is are.0 new.0)
    (next_settles rows all pending pair is are.0 new.0) are.3 (new_behind all pair more new.1 are.2)

last_settles : (rows all : List Row) (pending : Option (Text × List Text)) (pairs : List Pair) → settled_rows rules pending rows ≡ all
    → settle_fault rules false (held rows pending) ≡ [] → ArePairs pairs → AreNew all pairs
    → settle_fault rules false (walk_of rows pending pairs).held ≡ []
last_settles rows all pending [] is none are new = none
last_settles rows all pending (pair ∷ more) is none are new =
    last_settles (settled_rows rules pending rows) (all ++ row_of pair ∷ []) (pending_of pair) more (next_all rows all pending pair is are.0 new.0)
    (next_settles rows all pending pair is are.0 new.0) are.3 (new_behind all pair more new.1 are.2)

-- ---- defaults

abbrev Passes : Rule → Type 0
Passes rule = (is_empty rule.defaults ≡ true) ⊎ (given_default_fault rule rule.defaults ≡ [])

abbrev AllPass : List Rule → Type 0
AllPass [] = ⊤
AllPass (rule ∷ more) = Passes rule × AllPass more

default_passes : (rows : List Row) (rule : Rule) → Passes rule → default_fault rows rule ≡ []
default_passes rows rule (inl empty) = by (has_row rule.id rows) refl
  where
    by : (b : Bool) → has_row rule.id rows ≡ b → default_fault rows rule ≡ []
    by true e = rw e refl
    by false e = rw (e, empty) refl
default_passes rows rule (inr none) = by (has_row rule.id rows || is_empty rule.defaults) refl
  where
    by : (b : Bool) → (has_row rule.id rows || is_empty rule.defaults) ≡ b → default_fault rows rule ≡ []
    by true e = rw e refl
    by false e = rw e none

defaults_pass : (rows : List Row) (more : List Rule) → AllPass more → defaults_fault rows more ≡ []
unfolding defaults_fault
defaults_pass rows [] pass = refl
defaults_pass rows (rule ∷ more) pass =
    ap (λ t. or_else t (defaults_fault (with_default rows rule) more)) (default_passes rows rule pass.0) ∙ defaults_pass (with_default rows rule) more pass.1

rules_pass : AllPass rules
unfolding rules command clap_on_literals
rules_pass = (inl refl, (inl refl, (inl refl, (inl refl, (inr refl, (inl refl, (inr refl, (inr refl, (inl refl, tt)))))))))

-- ---- the whole

abbrev faults_by : Walk → Kinds → Kinds
faults_by w first =
    or_else first (or_else (entered_fault (built command) w.stopped) (or_else (settle_fault rules false w.held)
    (or_else (defaults_fault (settled rules w.held).rows rules)
    (check_fault top (finished rules w.held) (is_some (entered (built command) w.stopped))))))

checks : (rows : List Row) → check_fault top rows false ≡ []
unfolding top command clap_on_literals
checks rows = refl

new_to_nothing : (pairs : List Pair) → AreNew [] pairs
new_to_nothing [] = tt
new_to_nothing (pair ∷ more) = (refl, new_to_nothing more)

none_at_rest : (w : Walk) → w.stopped ≡ None → settle_fault rules false w.held ≡ [] → faults_by w [] ≡ []
none_at_rest w stopped none =
    rw (stopped, none, defaults_pass (settled rules w.held).rows rules rules_pass) (checks (finished rules w.held))

taken : (program : Text) (pairs : List Pair) → ArePairs pairs → fault_of command (program ∷ spelled pairs) ≡ []
unfolding top rules command
taken program pairs all =
    ap (λ w. faults_by w (walk_fault top [] (walk_from nothing_held) (spelled pairs))) (walks [] None pairs all)
    ∙ ap (λ t. faults_by (walk_of [] None pairs) t) (faultless [] [] None pairs refl refl all (new_to_nothing pairs))
    ∙ none_at_rest (walk_of [] None pairs) (never_stops [] None pairs) (last_settles [] [] None pairs refl refl all (new_to_nothing pairs))

read : (program : Text) (pairs : List Pair) → ArePairs pairs → matches_of command (program ∷ spelled pairs) ≡ rows_for pairs ++ flag_rows
unfolding rules command
read program pairs all =
    ap (λ w. fold with_default (settled_rows rules w.held.pending w.held.rows) rules) (walks [] None pairs all)
    ∙ ap (λ t. fold with_default t rules) (settled_all [] [] None pairs refl all (new_to_nothing pairs))
    ∙ finishes (rows_for pairs) (λ flag is. no_flag_row flag is pairs all)

-- Words that spell such pairs are read as these.
pub record AreReadAsPairs (program : Text) (pairs : List Pair) : Type 0 where
  pub taken : AreTaken (program ∷ spelled pairs)
  pub values : (name : Text) → IsOption name → value_in (program ∷ spelled pairs) name ≡ value_among pairs name
  pub flags : (flag : Text) → IsFlag flag → value_in (program ∷ spelled pairs) flag ≡ Some (codes "false")

pub reads_pairs : (program : Text) (pairs : List Pair) → ArePairs pairs → AreReadAsPairs program pairs
reads_pairs program pairs all = record {
  taken = taken program pairs all;
  values = λ name is. ap (λ rows. first_of name rows) (read program pairs all) ∙ first_among pairs name is;
  flags = λ flag is. ap (λ rows. first_of flag rows) (read program pairs all) ∙ flag_is_last flag is pairs all;
}
