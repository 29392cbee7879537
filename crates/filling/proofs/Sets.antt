-- One number of some rows, changed.
use Rattle.std.proofs.Common.{◌≡◌, ℕ, zero, suc, ◌+◌, ◌*◌, ◌<◌, ◌≤◌, true, nat_lt, List, [], ◌∷◌, length, set, get_or, refl, arith, get_or-set_other, ◌≢◌, ◌⊎◌}
use Rattle.std.proofs.lemmas.Bool.Decides.{nat_tests}
use Rattle.std.proofs.lemmas.Grind.{get_or-set_at}
use Rattle.std.proofs.lemmas.List.Sums.{sum_by-set, sum_by-le}
use Rattle.std.proofs.lemmas.List.Elements.{All-from_get_or}
use Rattle.secrecy.specs.Rows.{cell, columns, is_among, is_place, place_columns, level_columns}
use Rattle.secrecy.proofs.Columns.{among-cons, among-range, level_column}
use Rattle.filling.specs.Between.{weight}

-- the weight of rows of which one number is changed
pub weight_set : (rank : ℕ → ℕ) (xs : List ℕ) (i v : ℕ) → i < length xs → weight rank (set xs i v) + rank (get_or xs i 0) ≡ weight rank xs + rank v
weight_set rank xs i v l = sum_by-set rank xs i v 0 l

-- and a bound of it
pub weight_bound : (rank : ℕ → ℕ) (xs : List ℕ) → ((a : ℕ) → rank a < 65536) → weight rank xs ≤ 65535 * length xs
weight_bound rank xs small = let h = sum_by-le rank 65535 xs (All-from_get_or (λ x. rank x ≤ 65535) xs 0 (λ i l. let s = small (get_or xs i 0) in omega arith)) in omega arith

-- places are the columns below that of the region level
pub place_small : (p : ℕ) → is_place p ≡ nat_lt p 35
unfolding place_columns
place_small p = grind (arith, nat_tests, among-range 0 35 p)

pub level_small : (c : ℕ) → is_among level_columns c ≡ nat_lt c 36
level_small c = grind (arith, nat_tests, level_column c, place_small c)

-- a number of a list is among its numbers
pub among_at : (ks : List ℕ) (k : ℕ) → k < length ks → is_among ks (get_or ks k 0) ≡ true
among_at [] k l = absurd (omega arith)
among_at (x ∷ ks) zero l = grind (arith, nat_tests, among-cons x ks x)
among_at (x ∷ ks) (suc k) l = let h = among_at ks k (omega arith) in let c = among-cons x ks (get_or ks k 0) in grind (arith, nat_tests)

levels_length : length level_columns ≡ 36
unfolding place_columns
levels_length = refl

pub column_small : (i : ℕ) → i < 36 → get_or level_columns i 0 < columns
column_small i l = let h = among_at level_columns i (rw levels_length l) in let s = level_small (get_or level_columns i 0) in grind (arith, nat_tests)

pub place_level : (p : ℕ) → p < 35 → is_among level_columns p ≡ true
place_level p l = grind (arith, nat_tests, level_small p)

pub region_level : is_among level_columns 35 ≡ true
region_level = grind (arith, nat_tests, level_small 35)

module _ (n : ℕ) (rows : List ℕ) (whole : length rows ≡ (n + 1) * columns) (b c v : ℕ) (row : b ≤ n) (column : c < columns) where
  pub inside : b * columns + c < length rows
  inside = rw whole (omega arith)

  abbrev after : List ℕ
  after = set rows (b * columns + c) v

  pub here : cell n after b c ≡ v
  here = let l = inside in grind (arith, nat_tests, get_or-set_at)

  there : (a d : ℕ) → d < columns → (a ≡ b → d ≡ c → ⊥) → cell n after a d ≡ cell n rows a d
  there a d l other =
      let apart : a * columns + d ≢ b * columns + c = λ e. let p : a ≡ b = omega arith in other p (omega arith) in
      grind (arith, nat_tests, get_or-set_other)

  -- a cell is the changed one, or as it was
  abbrev pub Changed : ℕ → ℕ → Type 0
  Changed a d = (a ≡ b) × (d ≡ c) × (cell n after a d ≡ v)

  pub cell_cases : (a d : ℕ) → d < columns → Changed a d ⊎ (cell n after a d ≡ cell n rows a d)
  cell_cases a d l = grind (arith, nat_tests, here, there a d l)
