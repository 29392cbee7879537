-- The chip as a machine: a routine's words, and everything that they do. Assumes nothing.
use Rattle.std.specs.Prelude.{ℕ, Bool, true, false, ◌&&◌, List, [], length, replicate, is_some, ◌==◌, nat_lt, slice_index, slice_set}
use Rattle.std.specs.Option.{unwrap_or}
use Rattle.words.specs.declared.instruction.Instruction.{Instruction}
use Rattle.words.specs.declared.instruction.Instruction.TheVariants.{Nop}
use Rattle.words.specs.declared.route.Route.{Route}
use Rattle.words.specs.declared.route.Route.TheVariants.{To, Jump, Fork, Call, Return}
use Rattle.words.specs.Decode.{decode_of}
use Rattle.words.specs.Cycles.{cycles_of}
use Rattle.words.specs.Routes.{route_of}
use Rattle.machine.specs.Machine.{Machine, Kind, plain, forks, calls, rets}
use Rattle.avr.specs.declared.location.Location.{Location}
use Rattle.avr.specs.declared.location.Location.TheVariants as location
use Rattle.avr.specs.Core.{Core, core, reg}
use Rattle.avr.specs.Effects.{effect_of, diverts_of}
use Rattle.avr.specs.Table.{holds_of, origins_of, deciders_of, memory_place}

-- the instruction at an address of words that all decode; nop stands in elsewhere
abbrev pub instruction_of : List ℕ → ℕ → Instruction
instruction_of ws a = unwrap_or (decode_of (slice_index ws a)) Nop

-- where an instruction leads, at its cycles; rjmp, rcall and ret always divert
abbrev pub kind_by : Route → Instruction → Kind
kind_by (To b) i = plain b (cycles_of i false)
kind_by (Jump b) i = plain b (cycles_of i true)
kind_by (Fork b b') i = forks (deciders_of i) b (cycles_of i false) b' (cycles_of i true)
kind_by (Call t) i = calls t (cycles_of i true)
kind_by Return i = rets (cycles_of i true)

-- where an instruction leads from its address
abbrev pub kind_of : ℕ → Instruction → Kind
kind_of a i = kind_by (route_of a i) i

-- how many registers there are
abbrev pub register_count : ℕ
register_count = 32

-- how many bytes of memory there are
abbrev pub memory_size : ℕ
memory_size = 65536

-- a memory of zeros
abbrev pub blank_memory : List ℕ
blank_memory = replicate memory_size 0

-- everything 0
abbrev pub blank_core : Core
blank_core = core (replicate register_count 0) false false blank_memory

-- there are as many registers and bytes as there should be
abbrev pub well_formed_core : Core → Bool
well_formed_core x = length x.registers == register_count && length x.memory == memory_size

-- every address of the memory belongs to the one place
abbrev pub place_of : Location → ℕ
place_of (location.Register d) = d
place_of (location.Memory a) = memory_place

-- whether there is such a register; every 16-bit address is one of the memory
abbrev pub valid_of : Location → Bool
valid_of (location.Register d) = nat_lt d register_count
valid_of (location.Memory a) = true

-- a byte written to a location
abbrev pub put_of : Location → ℕ → Core → Core
put_of (location.Register d) n x = core (slice_set x.registers d n) x.carry x.zero x.memory
put_of (location.Memory a) n x = core x.registers x.carry x.zero (slice_set x.memory a n)

-- the byte at a location
abbrev pub get_of : Location → Core → ℕ
get_of (location.Register d) x = reg x.registers d
get_of (location.Memory a) x = slice_index x.memory a

-- the machine of some words: what a place holds is a list of numbers, since the whole memory is one place
abbrev pub avr : List ℕ → Machine Core (List ℕ) Location
avr ws =
    record {
      size = length ws;
      kind = λ a. kind_of a (instruction_of ws a);
      writes = λ a p. is_some (origins_of (instruction_of ws a) p);
      sources = λ a p. unwrap_or (origins_of (instruction_of ws a) p) [];
      effect = λ a. effect_of (instruction_of ws a);
      decides = λ a. diverts_of (instruction_of ws a);
      holds = holds_of;
      blank = blank_core;
      well_formed = well_formed_core;
      place = place_of;
      valid = valid_of;
      put = put_of;
      get = get_of;
    }
