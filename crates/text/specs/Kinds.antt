-- The bases that numbers are written in. Assumes nothing.
use Rattle.std.specs.Prelude.{ℕ, Bool, nat_lt}
use Rattle.std.specs.Char.{digit_value}
use Rattle.text.specs.declared.numbers.Base.{Base}
use Rattle.text.specs.declared.numbers.Base.TheVariants.{Decimal, Hexadecimal}

-- how many digits a base has
abbrev pub radix : Base → ℕ
radix Decimal = 10
radix Hexadecimal = 16

-- whether a byte is a digit of a base
abbrev pub is_digit_of : Base → ℕ → Bool
is_digit_of base b = nat_lt (digit_value b) (radix base)
