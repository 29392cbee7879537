-- What statements make of one set of rows. Assumes nothing.
use Rattle.std.specs.Prelude.{ℕ, ◌*◌, Bool, true, false, cond, List, [], ◌∷◌, ◌++◌, length, Some, None, Ok, Err, vec_items, Option, Result}
use Rattle.std.specs.Result.{result_map_both}
use Rattle.routine.specs.declared.faults.Expected.TheVariants.{SameForm}
use Rattle.routine.specs.declared.faults.Malformed.{Malformed}
use Rattle.routine.specs.declared.keywords.Keyword.TheVariants as keyword
use Rattle.routine.specs.declared.rows.Entry.{Entry}
use Rattle.routine.specs.declared.rows.RowName.{RowName}
use Rattle.routine.specs.declared.sets.RowForm.{RowForm}
use Rattle.routine.specs.declared.sets.RowForm.TheVariants.{Plain, Sparse}
use Rattle.routine.specs.declared.sets.RowSet.{RowSet}
use Rattle.routine.specs.declared.stretches.Stretch.{Stretch}
use Rattle.routine.specs.Faults.{misplaced}
use Rattle.routine.specs.Rows.{width, number_of_row, rows_with}
use Rattle.routine.specs.Stretches.{line_of}

-- a set of rows: its numbers, on which lines they stand, and how they are written, once some are
pub record SetDraft : Type 0 where
  pub numbers : List ℕ
  pub lines : List Stretch
  pub form : Option RowForm

-- what the code holds of it
abbrev pub set_of : RowSet → SetDraft
set_of s = record { numbers = vec_items s.numbers; lines = vec_items s.lines; form = s.form }

-- nothing is written yet
abbrev pub no_rows : SetDraft
no_rows = record { numbers = []; lines = []; form = None }

-- with all its numbers, in one form, and a stretch of them that was written
abbrev pub with_stretch : SetDraft → List ℕ → RowForm → Stretch → SetDraft
with_stretch s numbers form written = record { numbers = numbers; lines = s.lines ++ written ∷ []; form = Some form }

-- some plain numbers more, on a line
abbrev pub with_numbers : ℕ → List ℕ → SetDraft → SetDraft
with_numbers line ns s = with_stretch s (s.numbers ++ ns) Plain (record { first = length s.numbers; count = length ns; line = line })

-- row number a, of n words, has these values, and what is not named is 0
abbrev pub with_row : ℕ → ℕ → ℕ → List Entry → SetDraft → SetDraft
with_row line n a entries s = with_stretch s (rows_with n a entries s.numbers) Sparse (record { first = a * width; count = width; line = line })

-- the rows of a set are written in one form
abbrev pub keeps_form : RowForm → Option RowForm → Bool
keeps_form form None = true
keeps_form Plain (Some Plain) = true
keeps_form Plain (Some Sparse) = false
keeps_form Sparse (Some Plain) = false
keeps_form Sparse (Some Sparse) = true

-- plain numbers, where no row is written by name
abbrev pub plain_rows : ℕ → List ℕ → SetDraft → Result SetDraft Malformed
plain_rows line ns s = cond (keeps_form Plain s.form) (Ok (with_numbers line ns s)) (Err (misplaced SameForm keyword.Rows))

-- a row by name, of n words, where no plain numbers are written
abbrev pub named_row : ℕ → ℕ → RowName → List Entry → SetDraft → Result SetDraft Malformed
named_row line n name entries s =
    cond (keeps_form Sparse s.form) (result_map_both (λ a. with_row line n a entries s) (λ m. m) (number_of_row n name)) (Err (misplaced SameForm keyword.Row))

-- the line on which a row was written last, or where it is a row of plain numbers, on which it begins
abbrev pub line_of_row : SetDraft → ℕ → Option ℕ
line_of_row s row = line_of s.lines (row * width)
