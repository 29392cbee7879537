-- Rows on the way from what is given to the least settled ones. Assumes nothing.
use Rattle.std.specs.Prelude.{◌≡◌, ℕ, ◌+◌, ◌*◌, ◌≤◌, ◌<◌, Bool, true, false, List, length, slice_index}
use Rattle.std.specs.List.{sum_by}
use Rattle.levels.specs.Order.{Meaning}
use Rattle.avr.specs.Chip.{avr}
use Rattle.secrecy.specs.Rows.{rows_of, cell, columns, is_among, level_columns, region_column}
use Rattle.secrecy.specs.Flow.{pc_level as pc_level_of, level_after}
use Rattle.filling.specs.Worklists.{lists}
use Rattle.secrecy.specs.Filling.{SameGiven, RowBelow, Below, AllHeld, SettlesIn, Leads, SettledOn}

-- the sum of the ranks of some numbers, which rises with each level that is raised
abbrev pub weight : (ℕ → ℕ) → List ℕ → ℕ
weight rank rows = sum_by rank rows

-- how many places there are: they have the numbers from 0 on, which are their columns
abbrev pub places : ℕ
places = 35

-- a column holds the code of a level
abbrev pub IsLevel : ℕ → Type 0
IsLevel column = is_among level_columns column ≡ true

module _ (m : Meaning) (ws given : List ℕ) where
  -- rows that have what is given, and lie at or below all settled rows that have it
  pub record Between (rows : List ℕ) : Type 0 where
    pub whole : length rows ≡ (length ws + 1) * columns
    pub same : SameGiven (rows_of (length ws) rows) (rows_of (length ws) given)
    pub held : AllHeld m (avr ws) (rows_of (length ws) rows)
    pub above : RowBelow m 0 (rows_of (length ws) given) (rows_of (length ws) rows)
    pub below : (other : List ℕ) → SettlesIn m (avr ws) given other → Below m (rows_of (length ws) rows) (rows_of (length ws) other)

  -- a level that each settled set of rows has at least in one column of one row
  pub record Due (row column level : ℕ) : Type 0 where
    pub held : m.held level ≡ true
    pub below : (other : List ℕ) → SettlesIn m (avr ws) given other → m.flows level (cell (length ws) other row column) ≡ true

  -- nothing is left to raise along the ways from the word at an address
  abbrev pub SettledFrom : List ℕ → ℕ → Type 0
  SettledFrom rows a =
      (b : ℕ) → b ≤ length ws → Leads m (avr ws) (rows_of (length ws) rows) a b → SettledOn m (avr ws) (rows_of (length ws) rows) a b

  -- What the word at an address leaves behind by some rows: the level of each place after it, by the place's number, and its
  -- pc_level.
  pub record Departs (rows : List ℕ) (a : ℕ) (levels : List ℕ) (known : ℕ) : Type 0 where
    pub each : (p : ℕ) → p < places → slice_index levels p ≡ level_after m (avr ws) (rows_of (length ws) rows) a p
    pub pc_level : known ≡ pc_level_of m (avr ws) (rows_of (length ws) rows) a

  -- levels are due in a row, place by place
  abbrev pub DuePlaces : ℕ → List ℕ → Type 0
  DuePlaces b levels = (p : ℕ) → p < places → Due b p (slice_index levels p)

  -- and a pc_level, if it comes from inside and the row is inside
  abbrev pub DueRegion : Bool → ℕ → ℕ → Type 0
  DueRegion inside b known = inside ≡ true → 0 < (rows_of (length ws) given).remaining b → Due b region_column known

  -- levels flow to those of a row, place by place
  abbrev pub PlacesFlow : List ℕ → ℕ → List ℕ → Type 0
  PlacesFlow rows b levels = (p : ℕ) → p < places → m.flows (slice_index levels p) (cell (length ws) rows b p) ≡ true

  -- and so does the pc_level
  abbrev pub RegionFlows : List ℕ → Bool → ℕ → ℕ → Type 0
  RegionFlows rows inside b known = inside ≡ true → 0 < (rows_of (length ws) given).remaining b → m.flows known (cell (length ws) rows b region_column) ≡ true

  -- what a word at a leaves behind is due wherever control may go from there
  abbrev pub DueAlong : ℕ → List ℕ → Bool → ℕ → Type 0
  DueAlong a levels inside known = (b : ℕ) → b ≤ length ws → Leads m (avr ws) (rows_of (length ws) given) a b → DuePlaces b levels × DueRegion inside b known

  -- what is left behind flows to a row
  abbrev pub SettledTo : List ℕ → List ℕ → Bool → ℕ → ℕ → Type 0
  SettledTo rows levels inside known b = PlacesFlow rows b levels × RegionFlows rows inside b known

  -- nothing is left to raise along the ways from any word whose row is not listed
  abbrev pub Clean : List ℕ → List ℕ → Type 0
  Clean rows blocks = (a : ℕ) → a < length ws → lists blocks a ≡ false → SettledFrom rows a

-- Rows are raised or stay as they are, as a flag says: a raise makes them weigh more.
pub record Raised (rank : ℕ → ℕ) (old new : List ℕ) (flag : Bool) : Type 0 where
  pub more : flag ≡ true → weight rank old < weight rank new
  pub unchanged : flag ≡ false → new ≡ old

-- one row has the levels that it had
pub record SameRow (n : ℕ) (old new : List ℕ) (row : ℕ) : Type 0 where
  pub levels : (p : ℕ) → (rows_of n new).level row p ≡ (rows_of n old).level row p
  pub region : (rows_of n new).region row ≡ (rows_of n old).region row

module _ (m : Meaning) (rank : ℕ → ℕ) (n : ℕ) (old new : List ℕ) where
  -- levels of one row are raised, or nothing is
  pub record RaisesRow (row : ℕ) (flag : Bool) : Type 0 where
    pub raised : Raised rank old new flag
    pub rises : Below m (rows_of n old) (rows_of n new)
    pub others : (a : ℕ) → (a ≡ row → ⊥) → SameRow n old new a

  -- rows are raised, and listed if they are
  pub record RaisesListed (before after : List ℕ) (flag : Bool) : Type 0 where
    pub raised : Raised rank old new flag
    pub rises : Below m (rows_of n old) (rows_of n new)
    pub unlisted : (a : ℕ) → lists after a ≡ false → (lists before a ≡ false) × SameRow n old new a
    pub same_list : flag ≡ false → after ≡ before
