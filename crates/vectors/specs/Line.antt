-- A line's name, and the numbers of its fields.
use Rattle.std.specs.Prelude.{ℕ, zero, suc, not, ◌==◌, ◌&&◌, ◌+◌, ◌*◌, ◌-◌, nat_le, List, get_or, if◌then◌else◌, take, take_while}

-- its first 8 bytes, up to a blank
abbrev pub name_of : List ℕ → List ℕ
name_of line = take_while (λ letter. not (letter == 32)) (take 8 line)

-- the value of a digit, 0 to 9 or a to f; what is none counts as 0
abbrev pub digit_of : ℕ → ℕ
digit_of byte = if nat_le 48 byte && nat_le byte 57 then byte - 48 else if nat_le 97 byte && nat_le byte 102 then byte - 87 else 0

-- the number that a field's first digits are, so many of them; past the field's end stand blanks
unfoldable pub number_of_digits : List ℕ → ℕ → ℕ
number_of_digits field zero = 0
number_of_digits field (suc digits) = number_of_digits field digits * 16 + digit_of (get_or field digits 32)
