-- The verdict on each part of a routine under an order: what the rules of rows come to there. Assumes nothing.
use Rattle.std.specs.Prelude.{ℕ, ◌||◌, Bool}
use Rattle.verdicts.specs.Verdict.{Verdict, and_then, first, first_of}
use Rattle.levels.specs.Order.{Meaning}
use Rattle.secrecy.specs.Rows.{place_columns, level_columns}
use Rattle.secrecy.specs.Flow.{level_after}
use Rattle.secrecy.specs.Rules as rules
use Rattle.row_layout.specs.declared.routine.RoutineView.{RoutineView}
use Rattle.row_layout.specs.Views.{rows_in, chip}

-- whether the edge from a to b in c cycles is in time
abbrev pub in_time : RoutineView → ℕ → ℕ → ℕ → Bool
in_time routine a b c = rules.outside (rows_in routine.rows) a || (rules.leaves (rows_in routine.rows) a b c || rules.stays (rows_in routine.rows) a b c)

module _ (m : Meaning) (routine : RoutineView) where
  -- on the codes of a row
  abbrev pub codes_verdict : ℕ → Verdict
  codes_verdict row = first_of (rules.held_rule m routine.rows.words routine.rows.rows.now row) level_columns

  -- on a row
  abbrev pub row_verdict : ℕ → Verdict
  row_verdict row = rules.row_rule m routine.rows.words routine.rows.rows.now row

  -- on all rows
  abbrev pub rows_verdict : Verdict
  rows_verdict = rules.row_rules m routine.rows.words routine.rows.rows.now

  -- on an address on its own
  abbrev pub address_verdict : ℕ → Verdict
  address_verdict at = rules.address_rule m (chip routine) (rows_in routine.rows) at

  -- on all addresses
  abbrev pub addresses_verdict : Verdict
  addresses_verdict = rules.address_rules m (chip routine) (rows_in routine.rows)

  -- on the levels of places along the edge from a to b
  abbrev pub places_verdict : ℕ → ℕ → Verdict
  places_verdict a b = first_of (rules.flow_rule m (chip routine) (rows_in routine.rows) a b) place_columns

  -- whether the level of a place flows along the edge
  abbrev pub flows_along : ℕ → ℕ → ℕ → Bool
  flows_along a b p = m.flows (level_after m (chip routine) (rows_in routine.rows) a p) ((rows_in routine.rows).level b p)

  -- on its region level
  abbrev pub region_verdict : ℕ → ℕ → Verdict
  region_verdict a b = rules.region_rule m (chip routine) (rows_in routine.rows) a b

  -- on the edge, in c cycles
  abbrev pub edge_verdict : ℕ → ℕ → ℕ → Verdict
  edge_verdict a b c = rules.edge_rule m (chip routine) (rows_in routine.rows) a b c

  -- on the edge of a return at a to the word after the one at b
  abbrev pub return_verdict : ℕ → ℕ → ℕ → Verdict
  return_verdict a c b = rules.return_rule m (chip routine) (rows_in routine.rows) a c b

  -- on those to the words after all callers
  abbrev pub callers_verdict : ℕ → ℕ → Verdict
  callers_verdict a c = first (return_verdict a c) (chip routine).size

  -- on all edges of a return
  abbrev pub returns_verdict : ℕ → ℕ → Verdict
  returns_verdict a c = and_then (callers_verdict a c) (rules.finish_rule m (chip routine) (rows_in routine.rows) a c)

  -- on the edges of the word at an address
  abbrev pub word_verdict : ℕ → Verdict
  word_verdict a = rules.edges_from m (chip routine) (rows_in routine.rows) a ((chip routine).kind a)

  -- on all edges
  abbrev pub edges_verdict : Verdict
  edges_verdict = rules.edge_rules m (chip routine) (rows_in routine.rows)
