-- Parts of a 16-bit word, and signed distances. Assumes nothing.
use Rattle.std.specs.Prelude.{ℕ, ◌-◌, ◌*◌, ◌/◌, ◌%◌, ◌^◌, Bool, cond, ℤ, pos, negsuc, nat_lt}

-- the number in the `count` bits of a word that begin at bit `low`
abbrev pub bits : ℕ → ℕ → ℕ → ℕ
bits w low count = w / 2 ^ low % 2 ^ count

-- A distance is kept in two's complement: in a field with 2 * half values, those from half on stand for the numbers below 0.
-- The distance that such a field stands for:
abbrev pub signed : ℕ → ℕ → ℤ
signed half n = cond (nat_lt n half) (pos n) (negsuc (2 * half - 1 - n))

-- the field that stands for a distance:
abbrev pub unsigned : ℕ → ℤ → ℕ
unsigned half (pos n) = n
unsigned half (negsuc n) = 2 * half - 1 - n

-- and whether a distance has one:
abbrev pub fits_field : ℕ → ℤ → Bool
fits_field half (pos n) = nat_lt n half
fits_field half (negsuc n) = nat_lt n half
