-- What statements make of a routine, one after the other. Assumes nothing.
use Rattle.std.specs.Prelude.{ℕ, Bool, cond, not, ◌||◌, ◌&&◌, List, [], ◌∷◌, ◌++◌, length, Some, None, Ok, Err, vec_items, Option, Result, ◌==◌}
use Rattle.std.specs.List.{list_any}
use Rattle.std.specs.Option as options
use Rattle.std.specs.Result.{result_map_both}
use Rattle.orders.specs.Written.{Written, written_of}
use Rattle.routine.specs.declared.faults.Expected.{Expected}
use Rattle.routine.specs.declared.faults.Expected.TheVariants.{Sequence, OneOrder, OrderAbove, OneSecond, SecondAbove, FillOrPool}
use Rattle.routine.specs.declared.faults.Malformed.{Malformed}
use Rattle.routine.specs.declared.keywords.Keyword.{Keyword}
use Rattle.routine.specs.declared.keywords.Keyword.TheVariants as keyword
use Rattle.routine.specs.declared.routines.Routine.{Routine}
use Rattle.routine.specs.declared.steps.Step.{Step}
use Rattle.routine.specs.declared.stretches.Stretch.{Stretch}
use Rattle.routine.specs.Faults.{misplaced}
use Rattle.routine.specs.Sets.{SetDraft, set_of, no_rows, plain_rows, named_row, line_of_row}
use Rattle.routine.specs.Statements as stated
use Rattle.routine.specs.Statements.{Stated}
use Rattle.routine.specs.Steps.{keyword_needing_order, needs_second, excludes}
use Rattle.routine.specs.Stretches.{line_of}

-- a routine: its words, on which lines they stand, the order that it is judged by, if one is named, its rows, the second set of them, if
-- one has begun, and what is done with it
pub record Draft : Type 0 where
  pub words : List ℕ
  pub word_lines : List Stretch
  pub order : Option Written
  pub rows : SetDraft
  pub second : Option SetDraft
  pub steps : List Step

-- what the code holds of it
abbrev pub draft_of : Routine → Draft
draft_of r = record {
  words = vec_items r.words;
  word_lines = vec_items r.word_lines;
  order = options.option_map written_of r.order;
  rows = set_of r.rows;
  second = options.option_map set_of r.second;
  steps = vec_items r.steps;
}

-- nothing was said yet
abbrev pub nothing : Draft
nothing = record { words = []; word_lines = []; order = None; rows = no_rows; second = None; steps = [] }

-- some words more, on a line
abbrev pub with_words : ℕ → Draft → List ℕ → Draft
with_words line d ws = record d { words = d.words ++ ws; word_lines = d.word_lines ++ record { first = length d.words; count = length ws; line = line } ∷ [] }

-- with its order
abbrev pub with_order : Draft → Written → Draft
with_order d w = record d { order = Some w }

-- with another first set of rows
abbrev pub with_rows : Draft → SetDraft → Draft
with_rows d s = record d { rows = s }

-- with a second set of rows
abbrev pub with_second : Draft → SetDraft → Draft
with_second d s = record d { second = Some s }

-- one step more
abbrev pub with_step : Draft → Step → Draft
with_step d s = record d { steps = d.steps ++ s ∷ [] }

-- whether a step is there already
abbrev pub started : Draft → Bool
started d = not (length d.steps == 0)

-- whether rows are written already, or the second set of them has begun
abbrev pub rows_begun : Draft → Bool
rows_begun d = options.is_some d.rows.form || options.is_some d.second

-- a statement of rows is about the second set if that has begun, and else about the first; `writes` is what it makes of a set
abbrev pub in_turn : (SetDraft → Result SetDraft Malformed) → Draft → Option SetDraft → Result Draft Malformed
in_turn writes d None = result_map_both (with_rows d) (λ m. m) (writes d.rows)
in_turn writes d (Some s) = result_map_both (with_second d) (λ m. m) (writes s)

-- an order comes before the steps, and there is one at most
abbrev pub ordered : Draft → Written → Result Draft Malformed
ordered d w = cond (started d) (Err (misplaced Sequence keyword.Order)) (cond (options.is_some d.order) (Err (misplaced OneOrder keyword.Order)) (Ok (with_order d w)))

-- and so does the beginning of the second set of rows
abbrev pub second_begun : Draft → Result Draft Malformed
second_begun d = cond (started d) (Err (misplaced Sequence keyword.Second)) (cond (options.is_some d.second) (Err (misplaced OneSecond keyword.Second)) (Ok (with_second d no_rows)))

-- whether a step stands above that this one excludes
abbrev pub excluded_above : Draft → Step → Bool
excluded_above d s = list_any (excludes s) d.steps

-- whether a step needs a second set of rows, and none has begun
abbrev pub lacks_second : Draft → Step → Bool
lacks_second d s = needs_second s && not (options.is_some d.second)

-- what a step that needs an order asks of what is above it: an order, no step that it excludes, and to pool a second set of rows
abbrev pub above : Draft → Step → Result (Unit {0}) Expected
above d s =
    cond (not (options.is_some d.order)) (Err OrderAbove) (
    cond (excluded_above d s) (Err FillOrPool) (
    cond (lacks_second d s) (Err SecondAbove) (Ok tt)))

-- one with a keyword that needs an order is misplaced where that is not so
abbrev pub behind : Option Keyword → Result (Unit {0}) Expected → Draft → Result Draft Malformed
behind (Some name) asked d = result_map_both (λ fine. d) (λ something. misplaced something name) asked
behind None asked d = Ok d

-- one step more, behind what it needs
abbrev pub with_next : Draft → Step → Result Draft Malformed
with_next d s = behind (keyword_needing_order s) (above d s) (with_step d s)

-- words come first, then the sets of rows and at most one order, then the steps; each statement stands on a line
abbrev pub accepted : ℕ → Draft → Stated → Result Draft Malformed
accepted line d (stated.words ws) = cond (options.is_some d.order || (rows_begun d || started d)) (Err (misplaced Sequence keyword.Words)) (Ok (with_words line d ws))
accepted line d (stated.order w) = ordered d w
accepted line d (stated.rows ns) = cond (started d) (Err (misplaced Sequence keyword.Rows)) (in_turn (plain_rows line ns) d d.second)
accepted line d (stated.row name entries) = cond (started d) (Err (misplaced Sequence keyword.Row)) (in_turn (named_row line (length d.words) name entries) d d.second)
accepted line d stated.second = second_begun d
accepted line d (stated.step s) = with_next d s

-- a line without a statement changes nothing
abbrev pub stepped : ℕ → Draft → Result (Option Stated) Malformed → Result Draft Malformed
stepped line d (Err m) = Err m
stepped line d (Ok None) = Ok d
stepped line d (Ok (Some s)) = accepted line d s

-- the line on which the word at an address stands
abbrev pub word_line : Draft → ℕ → Option ℕ
word_line d a = line_of d.word_lines a

-- the line of a row of the first set
abbrev pub row_line : Draft → ℕ → Option ℕ
row_line d row = line_of_row d.rows row

-- the line of a row of the second set, if there is one
abbrev pub second_row_line : Draft → ℕ → Option ℕ
second_row_line d row = options.option_and_then (λ s. line_of_row s row) d.second
