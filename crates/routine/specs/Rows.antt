-- How the rows of a routine are written by name. Assumes nothing.
use Rattle.std.specs.Prelude.{ℕ, ◌+◌, ◌*◌, cond, List, [], ◌∷◌, Some, None, Ok, Err, codes, Option, Result, nat_lt, slice_set}
use Rattle.std.specs.Result as results
use Rattle.std.specs.Str.{bytes_eq}
use Rattle.text.specs.Numbers.{number_of, limited}
use Rattle.text.specs.Refusals.{assigned}
use Rattle.row_layout.specs.declared.layout.Column.{Column}
use Rattle.row_layout.specs.declared.layout.Column.TheVariants as column
use Rattle.row_layout.specs.Columns.{index_of}
use Rattle.routine.specs.declared.faults.Expected.{Expected}
use Rattle.routine.specs.declared.faults.Expected.TheVariants as expected
use Rattle.routine.specs.declared.faults.Found.TheVariants as found
use Rattle.routine.specs.declared.faults.Malformed.{Malformed}
use Rattle.routine.specs.declared.rows.Entry.{Entry}
use Rattle.routine.specs.declared.rows.RowName.{RowName}
use Rattle.routine.specs.declared.rows.RowName.TheVariants.{Address, Finish}
use Rattle.routine.specs.Faults.{quoting}
use Rattle.routine.specs.Filled.{filled_to}
use Rattle.routine.specs.Gathered.{gathered}
use Rattle.routine.specs.Keywords.{named}
use Rattle.routine.specs.Operands.{Tokens, Read, digits_of_register, number_as, one_token}

-- a row has 39 numbers
abbrev pub width : ℕ
width = 39

-- the columns that have names of their own
unfoldable pub column_by_own_name : List ℕ → Option Column
column_by_own_name =
    named (
    (codes "c", column.Carry)
    ∷ (codes "z", column.Zero)
    ∷ (codes "memory", column.Memory)
    ∷ (codes "region", column.Region)
    ∷ (codes "join", column.Join)
    ∷ (codes "remaining", column.Remaining)
    ∷ (codes "function", column.Function)
    ∷ []
    )

-- a register is named by `r` and its number, from 0 to 31
abbrev pub register_in : Option (List ℕ) → Result Column Expected
register_in None = Err expected.Column
register_in (Some digits) = results.result_map_both column.Register (λ f. expected.Column) (limited 31 (number_of digits))

-- a name of its own comes first
abbrev pub column_by : Option Column → List ℕ → Result Column Expected
column_by (Some own) name = Ok own
column_by None name = register_in (digits_of_register name)

-- the column of a name
unfoldable pub column_by_name : List ℕ → Result Column Expected
column_by_name name = column_by (column_by_own_name name) name

-- what `name=value` says: the value of a column
abbrev pub value_of : Result Column Expected → List ℕ → Result Entry Expected
value_of (Err something) value = Err something
value_of (Ok c) value = results.result_map_both (λ n. record { column = c; value = n }) (λ e. e) (number_as 0xFFFF value)

-- the name and the value of an assignment, if the token is one
abbrev pub entry_by : Option (List ℕ × List ℕ) → Result Entry Expected
entry_by None = Err expected.Assignment
entry_by (Some p) = value_of (column_by_name p.0) p.1

-- what one token gives a row
unfoldable pub entry_of : List ℕ → Result Entry Expected
entry_of token = entry_by (assigned token)

-- which row: that of an address, or the finish row
unfoldable pub row_by_token : List ℕ → Result RowName Expected
row_by_token token = cond (bytes_eq token (codes "finish")) (Ok Finish) (results.result_map_both Address (λ e. expected.Row) (number_as 0xFFFF token))

-- what stands behind the keyword `row`: the row, and values of columns
abbrev pub with_entries : RowName → Tokens → Result (RowName × List Entry) Malformed
with_entries name tokens = results.result_map_both (λ entries. (name, entries)) (λ m. m) (gathered (quoting entry_of) tokens)

-- the row, and then its values
abbrev pub row_by : Read RowName → Result (RowName × List Entry) Malformed
row_by (Err m) = Err m
row_by (Ok p) = with_entries p.0 p.1

-- what the operands of `row` say
abbrev pub row_of : Tokens → Result (RowName × List Entry) Malformed
row_of tokens = row_by (one_token expected.Row row_by_token tokens)

-- the number of a row, of n words: the finish row comes last
abbrev pub number_of_row : ℕ → RowName → Result ℕ Malformed
number_of_row n (Address a) = cond (nat_lt a n) (Ok a) (Err (record { expected = expected.Row; found = found.Address a }))
number_of_row n Finish = Ok n

-- values written into the row that begins at `start`, one after the other
abbrev pub written_at : ℕ → List Entry → List ℕ → List ℕ
written_at start [] rows = rows
written_at start (e ∷ es) rows = written_at start es (slice_set rows (start + index_of e.column) e.value)

-- the rows of n words and the finish row, with values written into row number a
abbrev pub rows_with : ℕ → ℕ → List Entry → List ℕ → List ℕ
rows_with n a entries rows = written_at (a * width) entries (filled_to ((n + 1) * width) rows)
