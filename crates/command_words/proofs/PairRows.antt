-- What options with their values come to.
use Rattle.std.proofs.Common.{◌≡◌, ◌≢◌, ◌∙◌, Bool, true, false, List, [], ◌∷◌, ◌++◌, Option, None, Some, fold, take, drop, refl, sym, ap, codes, append-nil}
use Rattle.std.proofs.lemmas.Bool.{false≢true}
use Rattle.std.proofs.lemmas.List.{append_assoc}
use Rattle.std.proofs.lemmas.Slice.Eq.{bytes_eq-Decides}
use Rattle.std.specs.Prelude.{⊤}
use Rattle.std.specs.Str.{bytes_eq}
use Rattle.clap.specs.Words.{Row, Rule, Text, first_of}
use Rattle.clap.specs.Walk.{Walk, at_row, has_row, more_values, settled_rows, walked, with_default}
use Rattle.clap.specs.declared.builder.value_parser.Reading.TheVariants.{AsWritten}
use Rattle.clap.specs.declared.parser.matches.ValueSource.TheVariants.{CommandLine, DefaultValue}
use Rattle.clap.proofs.OnLiterals.{clap_on_literals}
use Rattle.command_words.specs.Command.{command}
use Rattle.command_words.specs.Pairs.{ArePairs, IsNotAmong, IsOption, Pair, ctl, domain, delay, at, demo, spelled, value_among}
use Rattle.command_words.proofs.Walking.{at_rest, name_read, rules, value_read}

-- the row of an option with its value
abbrev pub row_of : Pair → Row
row_of pair = record { id = pair.option; values = pair.value ∷ []; count = None; source = Some CommandLine; reading = AsWritten }

abbrev pub rows_for : List Pair → List Row
rows_for [] = []
rows_for (pair ∷ more) = row_of pair ∷ rows_for more

-- ---- rows that aren't there

at_absent : (id : Text) (change : Row → List Row) (missing rows : List Row) → has_row id rows ≡ false → at_row id change missing rows ≡ rows ++ missing
at_absent id change missing [] none = refl
at_absent id change missing (r ∷ rs) none = by (bytes_eq r.id id) refl (at_absent id change missing rs)
  where
    by : (b : Bool) → bytes_eq r.id id ≡ b → (has_row id rs ≡ false → at_row id change missing rs ≡ rs ++ missing)
        → at_row id change missing (r ∷ rs) ≡ (r ∷ rs) ++ missing
    by true e rest = absurd (false≢true (sym (rw e at none)))
    by false e rest = rw e (ap (λ t. r ∷ t) (rest (rw e at none)))

-- the pairs' options have no row
abbrev pub AreNew : List Row → List Pair → Type 0
AreNew rows [] = ⊤
AreNew rows (pair ∷ more) = (has_row pair.option rows ≡ false) × AreNew rows more

not_here : (a b : Text) → b ≢ a → bytes_eq a b ≡ false
not_here a b apart = by (bytes_eq a b) refl
  where
    by : (t : Bool) → bytes_eq a b ≡ t → bytes_eq a b ≡ false
    by true e = absurd (apart (sym ((bytes_eq-Decides a b).0 e)))
    by false e = e

has_row_behind : (id : Text) (rows : List Row) (r : Row) → has_row id rows ≡ false → bytes_eq r.id id ≡ false → has_row id (rows ++ r ∷ []) ≡ false
has_row_behind id [] r none apart = rw apart refl
has_row_behind id (first ∷ rows) r none apart = by (bytes_eq first.id id) refl (λ rest. has_row_behind id rows r rest apart)
  where
    by : (b : Bool) → bytes_eq first.id id ≡ b → (has_row id rows ≡ false → has_row id (rows ++ r ∷ []) ≡ false)
        → has_row id ((first ∷ rows) ++ r ∷ []) ≡ false
    by true e rest = absurd (false≢true (sym (rw e at none)))
    by false e rest = rw e (rest (rw e at none))

pub new_behind : (rows : List Row) (pair : Pair) (pairs : List Pair) → AreNew rows pairs → IsNotAmong pairs pair.option → AreNew (rows ++ row_of pair ∷ []) pairs
new_behind rows pair [] new apart = tt
new_behind rows pair (next ∷ more) new apart =
    (has_row_behind next.option rows (row_of pair) new.0 (not_here pair.option next.option apart.0), new_behind rows pair more new.1 apart.1)

-- ---- the walk

abbrev pub pending_of : Pair → Option (Text × List Text)
pending_of pair = Some (pair.option, pair.value ∷ [])

-- where a walk over the pairs stands
abbrev pub walk_of : List Row → Option (Text × List Text) → List Pair → Walk
walk_of rows pending [] = at_rest rows pending
walk_of rows pending (pair ∷ more) = walk_of (settled_rows rules pending rows) (pending_of pair) more

pub walks : (rows : List Row) (pending : Option (Text × List Text)) (pairs : List Pair) → ArePairs pairs
    → fold (walked rules []) (at_rest rows pending) (spelled pairs) ≡ walk_of rows pending pairs
walks rows pending [] all = refl
walks rows pending (pair ∷ more) all =
    ap (λ w. fold (walked rules []) (walked rules [] w pair.value) (spelled more)) (name_read pair.option all.0 rows pending)
    ∙ ap (λ w. fold (walked rules []) w (spelled more)) (value_read pair.option pair.value all.0 all.1 (settled_rows rules pending rows))
    ∙ walks (settled_rows rules pending rows) (pending_of pair) more all.3

-- the row of a pair is added
pub settled_pair : (name text : Text) → IsOption name → (rows : List Row) → has_row name rows ≡ false
    → settled_rows rules (Some (name, text ∷ [])) rows ≡ rows ++ row_of (record { option = name; value = text }) ∷ []
unfolding rules command clap_on_literals
settled_pair name text ctl rows none =
    ap (λ t. at_row name (more_values CommandLine (text ∷ [])) (row_of (record { option = name; value = text }) ∷ []) t)
    (at_absent name (λ r. []) [] rows none ∙ append-nil rows)
    ∙ at_absent name (more_values CommandLine (text ∷ [])) (row_of (record { option = name; value = text }) ∷ []) rows none
settled_pair name text domain rows none =
    ap (λ t. at_row name (more_values CommandLine (text ∷ [])) (row_of (record { option = name; value = text }) ∷ []) t)
    (at_absent name (λ r. []) [] rows none ∙ append-nil rows)
    ∙ at_absent name (more_values CommandLine (text ∷ [])) (row_of (record { option = name; value = text }) ∷ []) rows none
settled_pair name text delay rows none =
    ap (λ t. at_row name (more_values CommandLine (text ∷ [])) (row_of (record { option = name; value = text }) ∷ []) t)
    (at_absent name (λ r. []) [] rows none ∙ append-nil rows)
    ∙ at_absent name (more_values CommandLine (text ∷ [])) (row_of (record { option = name; value = text }) ∷ []) rows none
settled_pair name text at rows none =
    ap (λ t. at_row name (more_values CommandLine (text ∷ [])) (row_of (record { option = name; value = text }) ∷ []) t)
    (at_absent name (λ r. []) [] rows none ∙ append-nil rows)
    ∙ at_absent name (more_values CommandLine (text ∷ [])) (row_of (record { option = name; value = text }) ∷ []) rows none
settled_pair name text demo rows none =
    ap (λ t. at_row name (more_values CommandLine (text ∷ [])) (row_of (record { option = name; value = text }) ∷ []) t)
    (at_absent name (λ r. []) [] rows none ∙ append-nil rows)
    ∙ at_absent name (more_values CommandLine (text ∷ [])) (row_of (record { option = name; value = text }) ∷ []) rows none

pub settled_all : (rows all : List Row) (pending : Option (Text × List Text)) (pairs : List Pair) → settled_rows rules pending rows ≡ all
    → ArePairs pairs → AreNew all pairs
    → settled_rows rules (walk_of rows pending pairs).held.pending (walk_of rows pending pairs).held.rows ≡ all ++ rows_for pairs
settled_all rows all pending [] is are new = is ∙ sym (append-nil all)
settled_all rows all pending (pair ∷ more) is are new =
    let next : settled_rows rules (pending_of pair) (settled_rows rules pending rows) ≡ all ++ row_of pair ∷ [] =
    ap (λ t. settled_rows rules (pending_of pair) t) is ∙ settled_pair pair.option pair.value are.0 all new.0 in
    settled_all (settled_rows rules pending rows) (all ++ row_of pair ∷ []) (pending_of pair) more next are.3
    (new_behind all pair more new.1 are.2) ∙ append_assoc all (row_of pair ∷ []) (rows_for more)

pub never_stops : (rows : List Row) (pending : Option (Text × List Text)) (pairs : List Pair) → (walk_of rows pending pairs).stopped ≡ None
never_stops rows pending [] = refl
never_stops rows pending (pair ∷ more) = never_stops (settled_rows rules pending rows) (pending_of pair) more

-- ---- what is read in the end

-- a flag of the command, and its row where it isn't given
pub data IsFlag : Text → Type 0 where
  explaining : IsFlag (codes "explain")
  fitting : IsFlag (codes "fit")
  refining : IsFlag (codes "refine")

abbrev pub flag_row : Text → Row
flag_row name = record { id = name; values = codes "false" ∷ []; count = None; source = Some DefaultValue; reading = AsWritten }

abbrev pub flag_rows : List Row
flag_rows = flag_row (codes "explain") ∷ flag_row (codes "fit") ∷ flag_row (codes "refine") ∷ []

pub first_among : (pairs : List Pair) (name : Text) → IsOption name → first_of name (rows_for pairs ++ flag_rows) ≡ value_among pairs name
first_among [] name ctl = refl
first_among [] name domain = refl
first_among [] name delay = refl
first_among [] name at = refl
first_among [] name demo = refl
first_among (pair ∷ more) name is = by (bytes_eq pair.option name) refl (first_among more name is)
  where
    by : (b : Bool) → bytes_eq pair.option name ≡ b → first_of name (rows_for more ++ flag_rows) ≡ value_among more name
        → first_of name (rows_for (pair ∷ more) ++ flag_rows) ≡ value_among (pair ∷ more) name
    by true e rest = rw e refl
    by false e rest = rw e rest

-- it is none of the options with a value
pub no_flag : (flag name : Text) → IsFlag flag → IsOption name → bytes_eq name flag ≡ false
no_flag flag name explaining ctl = refl
no_flag flag name explaining domain = refl
no_flag flag name explaining delay = refl
no_flag flag name explaining at = refl
no_flag flag name explaining demo = refl
no_flag flag name fitting ctl = refl
no_flag flag name fitting domain = refl
no_flag flag name fitting delay = refl
no_flag flag name fitting at = refl
no_flag flag name fitting demo = refl
no_flag flag name refining ctl = refl
no_flag flag name refining domain = refl
no_flag flag name refining delay = refl
no_flag flag name refining at = refl
no_flag flag name refining demo = refl

pub no_flag_row : (flag : Text) → IsFlag flag → (pairs : List Pair) → ArePairs pairs → has_row flag (rows_for pairs) ≡ false
no_flag_row flag is [] all = refl
no_flag_row flag is (pair ∷ more) all = rw (no_flag flag pair.option is all.0) (no_flag_row flag is more all.3)

last_flag : (flag : Text) → IsFlag flag → first_of flag flag_rows ≡ Some (codes "false")
last_flag flag explaining = refl
last_flag flag fitting = refl
last_flag flag refining = refl

pub flag_is_last : (flag : Text) → IsFlag flag → (pairs : List Pair) → ArePairs pairs → first_of flag (rows_for pairs ++ flag_rows) ≡ Some (codes "false")
flag_is_last flag is [] all = last_flag flag is
flag_is_last flag is (pair ∷ more) all = rw (no_flag flag pair.option is all.0) (flag_is_last flag is more all.3)

-- ---- defaults

abbrev NoDefaults : List Rule → Type 0
NoDefaults [] = ⊤
NoDefaults (rule ∷ more) = (rule.defaults ≡ []) × NoDefaults more

no_default : (rows : List Row) (rule : Rule) → rule.defaults ≡ [] → with_default rows rule ≡ rows
no_default rows rule none = by (has_row rule.id rows) refl
  where
    by : (b : Bool) → has_row rule.id rows ≡ b → with_default rows rule ≡ rows
    by true e = rw e refl
    by false e = rw (e, none) refl

no_defaults : (rows : List Row) (more : List Rule) → NoDefaults more → fold with_default rows more ≡ rows
no_defaults rows [] none = refl
no_defaults rows (rule ∷ more) none = ap (λ t. fold with_default t more) (no_default rows rule none.0) ∙ no_defaults rows more none.1

explain_default : (rows : List Row) → has_row (codes "explain") rows ≡ false
    → fold with_default rows (take 1 (drop 4 rules)) ≡ rows ++ flag_row (codes "explain") ∷ []
unfolding rules command clap_on_literals
explain_default rows none = rw none (at_absent (codes "explain") (more_values DefaultValue (codes "false" ∷ [])) (flag_row (codes "explain") ∷ []) rows none)

fit_default : (rows : List Row) → has_row (codes "fit") rows ≡ false → fold with_default rows (take 1 (drop 6 rules)) ≡ rows ++ flag_row (codes "fit") ∷ []
unfolding rules command clap_on_literals
fit_default rows none = rw none (at_absent (codes "fit") (more_values DefaultValue (codes "false" ∷ [])) (flag_row (codes "fit") ∷ []) rows none)

refine_default : (rows : List Row) → has_row (codes "refine") rows ≡ false → fold with_default rows (take 1 (drop 7 rules)) ≡ rows ++ flag_row (codes "refine") ∷ []
unfolding rules command clap_on_literals
refine_default rows none = rw none (at_absent (codes "refine") (more_values DefaultValue (codes "false" ∷ [])) (flag_row (codes "refine") ∷ []) rows none)

pub finishes : (rows : List Row) → ((flag : Text) → IsFlag flag → has_row flag rows ≡ false) → fold with_default rows rules ≡ rows ++ flag_rows
unfolding rules command clap_on_literals
finishes rows none =
    let explained : List Row = rows ++ flag_row (codes "explain") ∷ [] in
    let unfit : has_row (codes "fit") explained ≡ false = has_row_behind (codes "fit") rows (flag_row (codes "explain")) (none (codes "fit") fitting) refl in
    let unrefined : has_row (codes "refine") explained ≡ false = has_row_behind (codes "refine") rows (flag_row (codes "explain")) (none (codes "refine") refining) refl in
    let fitted : List Row = explained ++ flag_row (codes "fit") ∷ [] in
    ap (λ t. fold with_default t (drop 4 rules)) (no_defaults rows (take 4 rules) (refl, (refl, (refl, (refl, tt)))))
    ∙ ap (λ t. fold with_default t (drop 5 rules)) (explain_default rows (none (codes "explain") explaining))
    ∙ ap (λ t. fold with_default t (drop 6 rules)) (no_defaults explained (take 1 (drop 5 rules)) (refl, tt))
    ∙ ap (λ t. fold with_default t (drop 7 rules)) (fit_default explained unfit)
    ∙ ap (λ t. fold with_default t (drop 8 rules)) (refine_default fitted (has_row_behind (codes "refine") explained (flag_row (codes "fit")) unrefined refl))
    ∙ no_defaults (fitted ++ flag_row (codes "refine") ∷ []) (drop 8 rules) (refl, tt)
    ∙ ap (λ t. t ++ flag_row (codes "refine") ∷ []) (append_assoc rows (flag_row (codes "explain") ∷ []) (flag_row (codes "fit") ∷ []))
    ∙ append_assoc rows (flag_row (codes "explain") ∷ flag_row (codes "fit") ∷ []) (flag_row (codes "refine") ∷ [])
