-- The command is one of which `clap` says exactly what it reads.
use Rattle.std.proofs.Common.{◌≡◌, refl, true}
use Rattle.clap.specs.Words.{is_simple, is_simple_and_free}
use Rattle.clap.proofs.OnLiterals.{clap_on_literals}
use Rattle.command_words.specs.Command.{command}

pub is_simple_command : is_simple command ≡ true
unfolding command clap_on_literals
is_simple_command = refl

pub is_free_command : is_simple_and_free command ≡ true
unfolding command clap_on_literals
is_free_command = refl
