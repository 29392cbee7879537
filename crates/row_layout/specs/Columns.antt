-- Where the columns of a row stand. Assumes nothing.
use Rattle.std.specs.Prelude.{ℕ, cond, List, [], ◌∷◌, Some, None, Option, ◌==◌, nat_lt}
use Rattle.avr.specs.Table.{carry_place}
use Rattle.row_layout.specs.declared.layout.Column.{Column}
use Rattle.row_layout.specs.declared.layout.Column.TheVariants.{Register, Carry, Zero, Memory, Region, Join, Remaining, Function}

-- where in its row a column stands
abbrev pub index_of : Column → ℕ
index_of (Register r) = r
index_of Carry = 32
index_of Zero = 33
index_of Memory = 34
index_of Region = 35
index_of Join = 36
index_of Remaining = 37
index_of Function = 38

-- the first of some columns that stands at an index, if one does
abbrev pub amongst : List Column → ℕ → Option Column
amongst [] index = None
amongst (c ∷ cs) index = cond (index == index_of c) (Some c) (amongst cs index)

-- the column that stands at an index: below the flags it is a register, and past the last column there is none
abbrev pub column_at : ℕ → Option Column
column_at index =
    cond (nat_lt index carry_place) (Some (Register index))
    (amongst (Carry ∷ Zero ∷ Memory ∷ Region ∷ Join ∷ Remaining ∷ Function ∷ []) index)
