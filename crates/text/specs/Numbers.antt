-- The number that a token writes. Assumes nothing.
use Rattle.std.specs.Prelude.{ℕ, Bool, cond, not, ◌&&◌, ◌||◌, List, length, drop, Some, None, Ok, Err, Option, Result, ◌==◌, nat_le, slice_index}
use Rattle.std.specs.Bool.{then_some}
use Rattle.std.specs.Str.Parse.{digits_value}
use Rattle.text.specs.declared.numbers.Base.{Base}
use Rattle.text.specs.declared.numbers.Base.TheVariants.{Decimal, Hexadecimal}
use Rattle.text.specs.declared.numbers.NumberFault.{NumberFault}
use Rattle.text.specs.declared.numbers.NumberFault.TheVariants.{NoNumber, TooLarge}
use Rattle.text.specs.Cuts.{whole}
use Rattle.text.specs.Kinds.{radix, is_digit_of}

-- one digit of the base or more, and nothing else
abbrev pub is_numeral : Base → List ℕ → Bool
is_numeral base ds = not (length ds == 0) && whole (is_digit_of base) ds

-- the number that such digits write, the first one weighing most
abbrev pub numeral : Base → List ℕ → Option ℕ
numeral base ds = cond (is_numeral base ds) (Some (digits_value (radix base) ds)) None

-- `0x` or `0X` in front
abbrev pub is_prefixed : List ℕ → Bool
is_prefixed token = slice_index token 0 == 48 && (slice_index token 1 == 120 || slice_index token 1 == 88)

-- what follows that, if it is there
abbrev pub hex_digits : List ℕ → Option (List ℕ)
hex_digits token = then_some (is_prefixed token) (drop 2 token)

-- what a token writes: hexadecimal digits after the prefix, or else decimal ones
abbrev pub numeral_of : Option (List ℕ) → List ℕ → Option ℕ
numeral_of (Some ds) token = numeral Hexadecimal ds
numeral_of None token = numeral Decimal token

-- the number of a token
abbrev pub number_of : List ℕ → Option ℕ
number_of token = numeral_of (hex_digits token) token

-- a number is taken only if it is at most `most`
abbrev pub limited : ℕ → Option ℕ → Result ℕ NumberFault
limited most None = Err NoNumber
limited most (Some n) = cond (nat_le n most) (Ok n) (Err TooLarge)
