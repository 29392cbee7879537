-- Lists of rows. Assumes nothing.
use Rattle.std.specs.Prelude.{◌≡◌, ℕ, ◌+◌, ◌*◌, ◌/◌, ◌%◌, ◌<◌, ◌≤◌, Bool, true, false, cond, List, Some, None, Option, ◌==◌, nat_lt, slice_index}
use Rattle.std.specs.Int.{bit_at}

-- whether a row is listed: blocks of 64 bits have a bit for each
abbrev pub lists : List ℕ → ℕ → Bool
lists blocks row = bit_at (slice_index blocks (row / 64)) (row % 64) == 1

-- a number has the bits of a block, without those of rows below one
abbrev pub BitsFrom : List ℕ → ℕ → ℕ → ℕ → Type 0
BitsFrom blocks block from bits = (i : ℕ) → i < 64 → bit_at bits i ≡ cond (nat_lt (block * 64 + i) from) 0 (bit_at (slice_index blocks block) i)

-- none of the rows from one up to another is listed
abbrev pub NoneFrom : List ℕ → ℕ → ℕ → Type 0
NoneFrom blocks from to = (row : ℕ) → from ≤ row → row < to → lists blocks row ≡ false

-- a row is the first that is listed from one on
pub record FirstFrom (blocks : List ℕ) (from row : ℕ) : Type 0 where
  pub onward : from ≤ row
  pub small : row < 1088
  pub listed : lists blocks row ≡ true
  pub before : NoneFrom blocks from row

-- the first listed row from one on, if there is one
abbrev pub NextFrom : List ℕ → ℕ → Option ℕ → Type 0
NextFrom blocks from (Some row) = FirstFrom blocks from row
NextFrom blocks from None = (row : ℕ) → from ≤ row → lists blocks row ≡ false
