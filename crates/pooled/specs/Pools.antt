-- Two sets of rows pooled. Assumes nothing.
use Rattle.std.specs.Prelude.{◌≡◌, ℕ, ◌+◌, ◌%◌, Bool, true, cond, ◌&&◌, ◌==◌, List, [], ◌∷◌, length, map, slice_index}
use Rattle.std.specs.List.{range_with_len}
use Rattle.verdicts.specs.Verdict.{Verdict, fine, and_then, rule, first}
use Rattle.levels.specs.Order.{Meaning}
use Rattle.secrecy.specs.Rows.{Rows, rows_of, cell, is_among, level_columns, given_columns, columns}
use Rattle.secrecy.specs.Rules.{length_rule, row_rules}
use Rattle.secrecy.specs.Filling.{SameGiven, Below}

-- whether the number at an index of a list of rows is the code of a level
abbrev pub is_level : ℕ → Bool
is_level i = is_among level_columns (i % columns)

-- the number at an index of two sets pooled: of two levels the join, and any other number as the first set has it
abbrev pub pooled_at : Meaning → List ℕ → List ℕ → ℕ → ℕ
pooled_at m xs ys i = cond (is_level i) (m.join (slice_index xs i) (slice_index ys i)) (slice_index xs i)

-- two sets pooled, number by number
unfoldable pub pool_of : Meaning → List ℕ → List ℕ → List ℕ
pool_of m xs ys = map (pooled_at m xs ys) (range_with_len 0 (length xs))

-- a set of rows for n words, on its own: its length is refused by 3, and a row by 4 or 5
abbrev pub set_verdict : Meaning → ℕ → List ℕ → Verdict
set_verdict m n rows = and_then (length_rule n rows) (row_rules m n rows)

-- whether two sets have the same join address, remaining cycles and function in a row
abbrev pub same_given : Rows → Rows → ℕ → Bool
same_given R S row = R.join_address row == S.join_address row && (R.remaining row == S.remaining row && R.function row == S.function row)

-- 17: two sets of rows for n words have the same in a row
abbrev pub given_rule : ℕ → List ℕ → List ℕ → ℕ → Verdict
given_rule n xs ys row = rule (same_given (rows_of n xs) (rows_of n ys) row) 17 (row ∷ [])

-- all rows in turn, the finish row too
abbrev pub given_rules : ℕ → List ℕ → List ℕ → Verdict
given_rules n xs ys = first (given_rule n xs ys) (n + 1)

module _ (m : Meaning) (n : ℕ) where
  -- two sets of rows that can be pooled: each is right on its own, and their given columns are the same
  pub record Fit (xs ys : List ℕ) : Type 0 where
    pub first : set_verdict m n xs ≡ fine
    pub second : set_verdict m n ys ≡ fine
    pub same : given_rules n xs ys ≡ fine

  -- ys lies at or above xs: it has the same given columns, and each level of xs flows to that of ys
  pub record LiesAbove (xs ys : List ℕ) : Type 0 where
    pub same : SameGiven (rows_of n xs) (rows_of n ys)
    pub below : Below m (rows_of n xs) (rows_of n ys)

  -- zs are xs and ys pooled, cell by cell: levels are joined, and the given columns are the common ones
  pub record CellsPooled (xs ys zs : List ℕ) : Type 0 where
    pub levels : (row column : ℕ) → is_among level_columns column ≡ true → cell n zs row column ≡ m.join (cell n xs row column) (cell n ys row column)
    pub first : (row column : ℕ) → is_among given_columns column ≡ true → cell n zs row column ≡ cell n xs row column
    pub second : (row column : ℕ) → is_among given_columns column ≡ true → cell n zs row column ≡ cell n ys row column

  -- the least set of rows that lies at or above both of two
  pub record LeastOfBoth (xs ys zs : List ℕ) : Type 0 where
    pub set : set_verdict m n zs ≡ fine
    pub first : LiesAbove xs zs
    pub second : LiesAbove ys zs
    pub least : (other : List ℕ) → LiesAbove xs other → LiesAbove ys other → LiesAbove zs other
