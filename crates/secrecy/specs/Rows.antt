-- Rows of secrecy levels over one list of numbers: a row for each address of a listing, and after them the finish row.
-- Assumes nothing.
use Rattle.std.specs.Prelude.{◌≡◌, ℕ, ◌+◌, ◌*◌, Bool, true, cond, List, [], ◌∷◌, ◌++◌, ◌==◌, nat_lt, slice_index}
use Rattle.std.specs.List.{list_any, range_with_len}

-- The columns that hold the level of a place, in the order in which they are looked at. A place has the number of its column:
-- the registers are 0 to 31, then come the flags C (32) and Z (33), and the whole memory as one place (34).
unfoldable pub place_columns : List ℕ
place_columns = range_with_len 0 35

-- The other columns: the region level, the address at which the ways of the region come together, the cycles that remain until
-- then, and the function, named by where it begins.
abbrev pub region_column : ℕ
region_column = 35

-- the join address
abbrev pub join_column : ℕ
join_column = 36

-- what remains
abbrev pub remaining_column : ℕ
remaining_column = 37

-- the function
abbrev pub function_column : ℕ
function_column = 38

-- the columns that hold the code of a level: those of places, and that of the region level
abbrev pub level_columns : List ℕ
level_columns = place_columns ++ region_column ∷ []

-- the columns that a maker gives of every row: they say how the routine is built, and hold no level
abbrev pub given_columns : List ℕ
given_columns = join_column ∷ (remaining_column ∷ (function_column ∷ []))

-- whether a number is one of a list
unfoldable pub is_among : List ℕ → ℕ → Bool
is_among numbers n = list_any (λ k. k == n) numbers

-- whether a number is that of a place
abbrev pub is_place : ℕ → Bool
is_place = is_among place_columns

-- it is
abbrev pub IsPlace : ℕ → Type 0
IsPlace p = is_place p ≡ true

-- how many columns a row has
abbrev pub columns : ℕ
columns = 39

-- the number in one column of one row, where the finish row is row n; past that row everything is 0
abbrev pub cell : ℕ → List ℕ → ℕ → ℕ → ℕ
cell n rows row column = cond (nat_lt n row) 0 (slice_index rows (row * columns + column))

-- what rows say, by row
pub record Rows : Type 0 where
  -- the level of a place before the word is carried out
  pub level : ℕ → ℕ → ℕ
  -- the program-counter label: the level of whatever decided that this word is carried out
  pub region : ℕ → ℕ
  -- the join address of the region: a post-dominator of its words
  pub join_address : ℕ → ℕ
  -- the cycles from here to the join address; outside every region they are 0
  pub remaining : ℕ → ℕ
  -- the function that the word belongs to
  pub function : ℕ → ℕ

-- what the numbers of a list say; where there is no place the level is 0
abbrev pub rows_of : ℕ → List ℕ → Rows
rows_of n rows =
    record {
      level = λ row place. cond (is_place place) (cell n rows row place) 0;
      region = λ row. cell n rows row region_column;
      join_address = λ row. cell n rows row join_column;
      remaining = λ row. cell n rows row remaining_column;
      function = λ row. cell n rows row function_column;
    }
