-- The classes of bytes. Bytes are ASCII codes (C99 5.2.1); a byte of 128 and more is in no class.
use Rattle.std.specs.Prelude.{ℕ, Bool, true, false, if◌then◌else◌, ◌||◌, ◌&&◌, ◌==◌, nat_le}
use Rattle.std.specs.Char.{is_ascii_digit, is_ascii_alphabetic}

-- a blank: space, tab, line feed, vertical tab, form feed or carriage return
unfoldable pub is_blank : ℕ → Bool
is_blank byte = byte == 32 || (nat_le 9 byte && nat_le byte 13)

-- what a name begins with: a letter or `_`
unfoldable pub is_letter : ℕ → Bool
is_letter byte = is_ascii_alphabetic byte || byte == 95

-- a decimal digit
unfoldable pub is_digit : ℕ → Bool
is_digit byte = is_ascii_digit byte

-- what a name goes on with: a letter, `_` or a digit
unfoldable pub is_name_byte : ℕ → Bool
is_name_byte byte = is_letter byte || is_digit byte

-- what a `//` comment goes on with: anything but a line feed
unfoldable pub is_in_line : ℕ → Bool
is_in_line byte = if byte == 10 then false else true
