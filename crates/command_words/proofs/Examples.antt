-- Words as `clap` reads them, written out.
use Rattle.std.proofs.Common.{◌≡◌, refl, codes, List, [], ◌∷◌, None, Some}
use Rattle.clap.specs.Words.{Text, fault_of}
use Rattle.clap.specs.declared.error.kind.ErrorKind.TheVariants.{ArgumentConflict, DisplayHelp, InvalidValue, TooManyValues, UnknownArgument}
use Rattle.clap.proofs.OnLiterals.{clap_on_literals}
use Rattle.command_words.specs.Command.{AreTaken, command, value_in}

abbrev behind : List Text → List Text
behind words = codes "function" ∷ words

nothing : AreTaken []
unfolding command clap_on_literals
nothing = refl

name_alone : AreTaken (behind [])
unfolding command clap_on_literals
name_alone = refl

-- `--`
hyphens : AreTaken (behind (codes "--" ∷ []))
unfolding command clap_on_literals
hyphens = refl

no_delay : value_in (behind (codes "--" ∷ [])) (codes "delay") ≡ None
unfolding command clap_on_literals
no_delay = refl

-- `--delay=3`
equals : AreTaken (behind (codes "--delay=3" ∷ []))
unfolding command clap_on_literals
equals = refl

three : value_in (behind (codes "--delay=3" ∷ [])) (codes "delay") ≡ Some (codes "3")
unfolding command clap_on_literals
three = refl

-- `--ctl= --explain`
empty : value_in (behind (codes "--ctl=" ∷ (codes "--explain" ∷ []))) (codes "ctl") ≡ Some []
unfolding command clap_on_literals
empty = refl

given : value_in (behind (codes "--ctl=" ∷ (codes "--explain" ∷ []))) (codes "explain") ≡ Some (codes "true")
unfolding command clap_on_literals
given = refl

not_given : value_in (behind []) (codes "explain") ≡ Some (codes "false")
unfolding command clap_on_literals
not_given = refl

-- `--refine`
refined : value_in (behind (codes "--refine" ∷ [])) (codes "refine") ≡ Some (codes "true")
unfolding command clap_on_literals
refined = refl

-- what is refused, and why
help : fault_of command (behind (codes "--help" ∷ [])) ≡ DisplayHelp ∷ []
unfolding command clap_on_literals
help = refl

short_help : fault_of command (behind (codes "-h" ∷ [])) ≡ DisplayHelp ∷ []
unfolding command clap_on_literals
short_help = refl

stray : fault_of command (behind (codes "--" ∷ (codes "x" ∷ []))) ≡ UnknownArgument ∷ []
unfolding command clap_on_literals
stray = refl

negative : fault_of command (behind (codes "--delay" ∷ (codes "-1" ∷ []))) ≡ UnknownArgument ∷ []
unfolding command clap_on_literals
negative = refl

missing : fault_of command (behind (codes "--delay" ∷ [])) ≡ InvalidValue ∷ []
unfolding command clap_on_literals
missing = refl

repeated : fault_of command (behind (codes "--delay" ∷ (codes "1" ∷ (codes "--delay=1" ∷ [])))) ≡ ArgumentConflict ∷ []
unfolding command clap_on_literals
repeated = refl

flag_with_value : fault_of command (behind (codes "--explain=true" ∷ [])) ≡ TooManyValues ∷ []
unfolding command clap_on_literals
flag_with_value = refl
