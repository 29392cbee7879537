-- Cells: what a board needs of a word, worked out once. Assumes nothing.
use Rattle.std.specs.Prelude.{◌≡◌, List, [], ◌∷◌, Bool, true, false, ℕ, ◌+◌, ◌<◌, eqb}
use Rattle.words.specs.declared.instruction.Flag.{Flag}
use Rattle.words.specs.declared.instruction.Flag.TheVariants as flag
use Rattle.words.specs.declared.instruction.Instruction.{Instruction}
use Rattle.words.specs.declared.instruction.Instruction.TheVariants as instruction
use Rattle.words.specs.declared.route.Route.{Route}
use Rattle.words.specs.declared.route.Route.TheVariants as route
use Rattle.words.specs.Cycles.{cycles_of}
use Rattle.words.specs.Routes.{route_of}
use Rattle.machine.specs.Machine.{Kind, plain, forks, calls, rets}
use Rattle.avr.specs.Core.{Core, reg}
use Rattle.avr.specs.Effects.{agrees, effect_of, diverts_of}
use Rattle.avr.specs.Table.{carry_place, zero_place}
use Rattle.avr.specs.Chip.{kind_of}
use Rattle.cells.specs.declared.cell.Test.{Test}
use Rattle.cells.specs.declared.cell.Test.TheVariants as test
use Rattle.cells.specs.declared.cell.Leave.TheVariants as leave
use Rattle.cells.specs.declared.cell.Way.{Way}
use Rattle.cells.specs.declared.cell.Way.TheVariants as way
use Rattle.cells.specs.declared.cell.Cell.{Cell}
use Rattle.cells.specs.Works.{work_of, work_effect, Fits}

-- the test of a branch
abbrev pub flag_test : Flag → Bool → Test
flag_test flag.Carry set = test.Carry set
flag_test flag.Zero set = test.Zero set

-- what an instruction that forks asks; of the others nothing depends on it
abbrev pub test_in : Instruction → Test
test_in (instruction.Binary op d r) = test.Equal d r
test_in (instruction.Branch f set k) = flag_test f set
test_in _ = test.Equal 0 0

-- the way of an instruction that leads there
abbrev pub way_by : Route → Instruction → Way
way_by (route.To b) i = way.On (work_of i)
way_by (route.Jump b) i = way.Leave (leave.Jump b)
way_by (route.Fork b b') i = way.Fork (test_in i) b'
way_by (route.Call t) i = way.Leave (leave.Call t)
way_by route.Return i = way.Leave leave.Return

-- the cell of an instruction at an address
abbrev pub cell_of : ℕ → Instruction → Cell
cell_of a i = record { way = way_by (route_of a i) i; on = cycles_of i false; aside = cycles_of i true }

-- the places that a test asks
abbrev pub places_of : Test → List ℕ
places_of (test.Carry set) = carry_place ∷ []
places_of (test.Zero set) = zero_place ∷ []
places_of (test.Equal d r) = d ∷ (r ∷ [])

-- whether a test is passed
abbrev pub test_of : Test → Core → Bool
test_of (test.Carry set) x = agrees set x.carry
test_of (test.Zero set) x = agrees set x.zero
test_of (test.Equal d r) x = eqb (reg x.registers d) (reg x.registers r)

-- every register that a test names is one
abbrev pub TestFits : Test → Type 0
TestFits (test.Carry set) = Unit {0}
TestFits (test.Zero set) = Unit {0}
TestFits (test.Equal d r) = (d < 32) × (r < 32)

-- where a way leads from an address, at its cycles
abbrev pub kind_in : ℕ → Way → ℕ → ℕ → Kind
kind_in a (way.On w) on aside = plain (a + 1) on
kind_in a (way.Fork t b) on aside = forks (places_of t) (a + 1) on b aside
kind_in a (way.Leave (leave.Jump b)) on aside = plain b aside
kind_in a (way.Leave (leave.Call t)) on aside = calls t aside
kind_in a (way.Leave leave.Return) on aside = rets aside

-- what it makes of registers, flags and memory
abbrev pub effect_in : Way → Core → Core
effect_in (way.On w) x = work_effect w x
effect_in (way.Fork t b) x = x
effect_in (way.Leave l) x = x

-- whether it goes aside
abbrev pub diverts_in : Way → Core → Bool
diverts_in (way.On w) x = false
diverts_in (way.Fork t b) x = test_of t x
diverts_in (way.Leave l) x = false

-- every register that it names is one
abbrev pub WayFits : Way → Type 0
WayFits (way.On w) = Fits w
WayFits (way.Fork t b) = TestFits t
WayFits (way.Leave l) = Unit {0}

-- A cell shows an instruction at an address: it leads to the same addresses at the same cycles, does the same and goes the
-- same way.
pub record Shows (a : ℕ) (i : Instruction) (c : Cell) : Type 0 where
  pub kind : kind_in a c.way c.on c.aside ≡ kind_of a i
  pub effect : (x : Core) → effect_in c.way x ≡ effect_of i x
  pub diverts : (x : Core) → diverts_in c.way x ≡ diverts_of i x
  pub fits : WayFits c.way
  pub lasts : (0 < c.on) × (0 < c.aside)
