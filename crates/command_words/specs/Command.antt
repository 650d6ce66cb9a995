-- The command in the words of `clap`, and what `clap` reads of a command line.
use Rattle.std.specs.Prelude.{◌≡◌, List, [], Option, Some, codes}
use Rattle.clap.specs.Words.{App, Rule, Text, fault_of, first_of, matches_of, new_app, new_rule, rows_of, with_rule}
use Rattle.clap.specs.declared.parser.matches.Found.{Found}
use Rattle.clap.specs.declared.builder.action.ArgAction.TheVariants.{SetTrue}

-- an option with a value, and one without, each named by two hyphens and its name
abbrev pub option : Text → Rule
option name = record (new_rule name) { long = Some name }

abbrev pub flag : Text → Rule
flag name = record (new_rule name) { long = Some name; action = Some SetTrue }

-- the command with its options; besides, `clap` gives each command the request `--help`
unfoldable pub command : App
command =
    with_rule (with_rule (with_rule (with_rule (with_rule (with_rule (with_rule (with_rule (new_app (codes "function"))
    (option (codes "ctl"))) (option (codes "domain"))) (option (codes "delay"))) (option (codes "at"))) (flag (codes "explain")))
    (option (codes "demo"))) (flag (codes "fit"))) (flag (codes "refine"))

-- `clap` takes the words, the program's name first: no step of its reading fails
abbrev pub AreTaken : List Text → Type 0
AreTaken words = fault_of command words ≡ []

-- the value that `clap` reads for an option, where it is given; that of a flag is `true`, or `false` where it isn't given
abbrev pub value_in : List Text → Text → Option Text
value_in words name = first_of name (matches_of command words)

-- What follows has no part in the headline.

-- the values of the options that were read, by their names
abbrev pub values_of : Found → Text → Option Text
values_of found name = first_of name (rows_of found)
