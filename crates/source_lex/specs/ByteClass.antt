-- The classes of bytes that runs are made of.
use Rattle.std.specs.Prelude.{ℕ, Bool}
use Rattle.source_lex.specs.Bytes.{is_digit, is_name_byte, is_in_line}
use Rattle.source_lex.specs.declared.scan.ByteClass.{ByteClass}
use Rattle.source_lex.specs.declared.scan.ByteClass.TheVariants.{NameByte, Digit, InLine}

-- whether a byte is of the class
abbrev pub has : ByteClass → ℕ → Bool
has NameByte byte = is_name_byte byte
has Digit byte = is_digit byte
has InLine byte = is_in_line byte
