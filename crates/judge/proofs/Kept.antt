-- Levels along an edge between rows that have the same codes.
use Rattle.std.proofs.Common.{◌≡◌, ℕ, ◌+◌, ◌*◌, ◌<◌, ◌≤◌, Bool, true, false, length, take, drop, get_or, sym, ap, ◌∙◌, List, [], ◌∷◌, is_some, refl, arith}
use Rattle.std.specs.List.{list_all}
use Rattle.std.proofs.lemmas.Bool.Decides.{nat_tests}
use Rattle.std.proofs.lemmas.List.{get_or-take, get_or-drop}
use Rattle.verdicts.specs.Verdict.{fine, first_of}
use Rattle.verdicts.proofs.Firsts.{and_fine, rule_met}
use Rattle.levels.specs.Order.{Meaning, Laws}
use Rattle.words.specs.declared.instruction.Instruction.{Instruction}
use Rattle.avr.specs.Table.{Row, lookup, places_of, rows_of as table_of, origins_of, written_of}
use Rattle.avr.specs.Chip.{instruction_of}
use Rattle.secrecy.specs.Rows.{Rows, is_among, place_columns, level_columns, columns, cell, rows_of}
use Rattle.secrecy.specs.Rules.{held_rule, shape_rule, row_rule, flow_rule}
use Rattle.secrecy.proofs.Columns.{among-nil, among-cons, level_column, first_of_each, each_first_of}
use Rattle.secrecy.proofs.Held.{held_rule_met, levels_held}
use Rattle.row_layout.specs.declared.routine.RoutineView.{RoutineView}
use Rattle.row_layout.specs.Views.{rows_in, chip}
use Rattle.row_layout.proofs.Places.{place_number}
use Rattle.judge.specs.Views.{level_by}
use Rattle.judge.specs.Verdicts.{rows_verdict, places_verdict, flows_along}

-- the rows of the table that write a place are those that are of it
among_rows : (rs : List Row) (p : ℕ) → is_some (lookup p rs) ≡ is_among (places_of rs) p
among_rows [] p = grind (arith, among-nil p)
among_rows (r ∷ rs) p = grind (arith, nat_tests, among-cons r.place (places_of rs) p, among_rows rs p)

-- a place that is not among those that an instruction writes comes from nothing
pub unwritten : (i : Instruction) (p : ℕ) → is_among (written_of i) p ≡ false → is_some (origins_of i p) ≡ false
unwritten i p e = among_rows (table_of i) p ∙ e

none_among : (ks : List ℕ) (p : ℕ) → length ks ≡ 0 → is_among ks p ≡ false
none_among [] p e = among-nil p
none_among (k ∷ ks) p e = grind arith

-- what an instruction that writes nothing leaves at a place is what was there
pub left_alone : (m : Meaning) (R : Rows) (a : ℕ) (i : Instruction) (p : ℕ) → length (written_of i) ≡ 0 → level_by m R a i p ≡ R.level a p
left_alone m R a i p e = rw (unwritten i p (none_among (written_of i) p e))

-- what holds of all numbers of a list holds of each that is among them
among_all : (f : ℕ → Bool) (ks : List ℕ) (p : ℕ) → list_all f ks ≡ true → is_among ks p ≡ true → f p ≡ true
among_all f [] p e h = grind (arith, among-nil p)
among_all f (k ∷ ks) p e h = grind (arith, nat_tests, among-cons k ks p, among_all f ks p)

-- two rows have the same codes
abbrev pub SameCodes : RoutineView → ℕ → ℕ → Type 0
SameCodes routine a b =
    (column : ℕ) → is_among level_columns column ≡ true → cell routine.rows.words routine.rows.rows.now a column ≡ cell routine.rows.words routine.rows.rows.now b column

level_below : (column : ℕ) → is_among level_columns column ≡ true → column < 36
level_below column h = grind (arith, nat_tests, level_column column, place_number column)

code_of : (rows : List ℕ) (start column : ℕ) → column < 36 → get_or (take 36 (drop start rows)) column 0 ≡ get_or rows (start + column) 0
code_of rows start column l = get_or-take 36 (drop start rows) column 0 l ∙ get_or-drop start rows column 0

cell_of : (n : ℕ) (rows : List ℕ) (row column : ℕ) → row ≤ n → cell n rows row column ≡ get_or rows (row * columns + column) 0
cell_of n rows row column l = grind (arith, nat_tests)

-- the level of a place in a row is its code
pub level_in : (n : ℕ) (rows : List ℕ) (row place : ℕ) → row ≤ n → place < 35 → get_or (take 36 (drop (row * columns) rows)) place 0 ≡ (rows_of n rows).level row place
level_in n rows row place l few = grind (arith, nat_tests, place_number place, code_of rows (row * columns) place, cell_of n rows row place)

-- rows whose first numbers are the same
pub same_by : (n : ℕ) (rows : List ℕ) (a b : ℕ) → a ≤ n → b ≤ n → take 36 (drop (a * columns) rows) ≡ take 36 (drop (b * columns) rows) →
    (column : ℕ) → is_among level_columns column ≡ true → cell n rows a column ≡ cell n rows b column
same_by n rows a b la lb e column h =
    let l = level_below column h in
    cell_of n rows a column la ∙ (sym (code_of rows (a * columns) column l) ∙ (ap (λ xs. get_or xs column 0) e ∙ (code_of rows (b * columns) column l ∙ sym (cell_of n rows b column lb))))

-- a row with the codes of a right one has codes that are held
pub codes_again : (m : Meaning) (n : ℕ) (rows : List ℕ) (a b : ℕ) → row_rule m n rows a ≡ fine →
    ((column : ℕ) → is_among level_columns column ≡ true → cell n rows a column ≡ cell n rows b column) → first_of (held_rule m n rows b) level_columns ≡ fine
codes_again m n rows a b right same =
    let codes = (and_fine (first_of (held_rule m n rows a) level_columns) (shape_rule n (rows_of n rows) a) right).0 in
    each_first_of (held_rule m n rows b) level_columns (λ column h. rule_met _ 4 _ (ap m.held (sym (same column h)) ∙ held_rule_met m n rows a column (first_of_each (held_rule m n rows a) level_columns codes column h)))

module _ (m : Meaning) (laws : Laws m) (routine : RoutineView) (a b : ℕ) where
  module _ (right : rows_verdict m routine ≡ fine) (same : SameCodes routine a b) (written : list_all (flows_along m routine a b) (written_of (instruction_of routine.words.now a)) ≡ true) where
    same_level : (p : ℕ) → (rows_in routine.rows).level a p ≡ (rows_in routine.rows).level b p
    same_level p = grind (arith, nat_tests, level_column p, same p)

    kept : (p : ℕ) → is_some (origins_of (instruction_of routine.words.now a) p) ≡ false → flows_along m routine a b p ≡ true
    kept p e = grind (arith, same_level p, levels_held m routine.rows.words routine.rows.rows.now right laws b p, laws.reflexive)

    flows_by : (t : Bool) (p : ℕ) → is_some (origins_of (instruction_of routine.words.now a) p) ≡ t → flows_along m routine a b p ≡ true
    flows_by true p e = among_all (flows_along m routine a b) (written_of (instruction_of routine.words.now a)) p written (grind (arith, among_rows (table_of (instruction_of routine.words.now a)) p))
    flows_by false p e = kept p e

    pub all_flow : places_verdict m routine a b ≡ fine
    all_flow = each_first_of (flow_rule m (chip routine) (rows_in routine.rows) a b) place_columns (λ p place. rule_met _ 10 _ (flows_by (is_some (origins_of (instruction_of routine.words.now a) p)) p refl))
