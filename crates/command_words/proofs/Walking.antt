-- A walk over options and their values.
use Rattle.std.proofs.Common.{◌≡◌, ◌==◌, Bool, true, false, List, [], ◌∷◌, ◌++◌, Option, None, Some, refl, codes}
use Rattle.std.specs.Str.{bytes_eq}
use Rattle.std.proofs.lemmas.Bool.Decides.{Decides-eqb}
use Rattle.clap.specs.Words.{Row, Rule, Text}
use Rattle.clap.specs.Lexer.{long_of, short_of, strip_byte}
use Rattle.clap.specs.Walk.{Walk, idle, option, settled_rows, walked}
use Rattle.clap.specs.Simple.{built}
use Rattle.clap.proofs.OnLiterals.{clap_on_literals}
use Rattle.command_words.specs.Command.{command}
use Rattle.command_words.specs.Pairs.{IsOption, IsPlain, ctl, domain, delay, at, demo}

-- the rules of the command as it is built
unfoldable pub rules : List Rule
rules = (built command).top.rules

-- between two words, where an option's value may have come last
abbrev pub at_rest : List Row → Option (Text × List Text) → Walk
at_rest rows pending = record {
  held = record { rows = rows; pending = pending; skip = 0 };
  waiting = idle;
  position = 1;
  is_trailing = false;
  stopped = None;
}

-- behind an option's name
abbrev pub at_name : Text → List Row → Walk
at_name name rows = record (at_rest rows (Some (name, []))) { waiting = option name }

-- a plain text is no option
pub strips_nothing : (text : Text) → IsPlain text → strip_byte 45 text ≡ None
strips_nothing [] plain = refl
strips_nothing (byte ∷ more) plain = by (byte == 45) refl
  where
    by : (b : Bool) → (byte == 45) ≡ b → strip_byte 45 (byte ∷ more) ≡ None
    by true e = absurd (plain ((Decides-eqb byte 45).0 e))
    by false e = rw e refl

pub not_long : (text : Text) → IsPlain text → long_of text ≡ None
not_long text plain = rw (strips_nothing text plain) refl

pub not_short : (text : Text) → IsPlain text → short_of text ≡ None
not_short text plain = rw (strips_nothing text plain) refl

pub not_hyphens : (text : Text) → IsPlain text → bytes_eq text (45 ∷ 45 ∷ []) ≡ false
not_hyphens [] plain = refl
not_hyphens (byte ∷ more) plain = by (byte == 45) refl
  where
    by : (b : Bool) → (byte == 45) ≡ b → bytes_eq (byte ∷ more) (45 ∷ 45 ∷ []) ≡ false
    by true e = absurd (plain ((Decides-eqb byte 45).0 e))
    by false e = rw e refl

-- a name is read
pub name_read : (name : Text) → IsOption name → (rows : List Row) (pending : Option (Text × List Text))
    → walked rules [] (at_rest rows pending) (codes "--" ++ name) ≡ at_name name (settled_rows rules pending rows)
unfolding rules command clap_on_literals
name_read name ctl rows pending = refl
name_read name domain rows pending = refl
name_read name delay rows pending = refl
name_read name at rows pending = refl
name_read name demo rows pending = refl

-- and then its value
pub value_read : (name text : Text) → IsOption name → IsPlain text → (rows : List Row)
    → walked rules [] (at_name name rows) text ≡ at_rest rows (Some (name, text ∷ []))
unfolding rules command clap_on_literals
value_read name text ctl plain rows = rw (not_hyphens text plain, not_long text plain, not_short text plain) refl
value_read name text domain plain rows = rw (not_hyphens text plain, not_long text plain, not_short text plain) refl
value_read name text delay plain rows = rw (not_hyphens text plain, not_long text plain, not_short text plain) refl
value_read name text at plain rows = rw (not_hyphens text plain, not_long text plain, not_short text plain) refl
value_read name text demo plain rows = rw (not_hyphens text plain, not_long text plain, not_short text plain) refl
