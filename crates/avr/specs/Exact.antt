-- What the table promises. Assumes nothing.
use Rattle.std.specs.Prelude.{◌≡◌, ℕ, true, List, Some, None}
use Rattle.words.specs.declared.instruction.Instruction.{Instruction}
use Rattle.words.specs.Decode.{decode_of}
use Rattle.machine.specs.Machine.{Each}
use Rattle.avr.specs.Core.{Core}
use Rattle.avr.specs.Effects.{effect_of, diverts_of}
use Rattle.avr.specs.Table.{holds_of, origins_of, deciders_of}
use Rattle.avr.specs.Chip.{well_formed_core}

-- two states hold the same at each of some places
abbrev pub Same : Core → Core → List ℕ → Type 0
Same x y qs = Each (λ q. holds_of x q ≡ holds_of y q) qs

-- what the table says of an instruction is true of what the instruction does
pub record Exact (i : Instruction) : Type 0 where
  -- what a written place holds afterwards is a function of the places that it comes from
  pub local : (x y : Core) → well_formed_core x ≡ true → well_formed_core y ≡ true → (p : ℕ) (qs : List ℕ) → origins_of i p ≡ Some qs → Same x y qs → holds_of (effect_of i x) p ≡ holds_of (effect_of i y) p
  -- every other place keeps what it holds
  pub kept : (x : Core) (p : ℕ) → origins_of i p ≡ None → holds_of (effect_of i x) p ≡ holds_of x p
  -- which way it goes is a function of its deciding places
  pub decided : (x y : Core) → Same x y (deciders_of i) → diverts_of i x ≡ diverts_of i y

-- of every instruction that a word decodes to
abbrev pub TableExact : Type 0
TableExact = (w : ℕ) (i : Instruction) → decode_of w ≡ Some i → Exact i
