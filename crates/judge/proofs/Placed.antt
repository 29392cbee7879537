-- No instruction writes anything but the places that rows give a level to.
use Rattle.std.proofs.Common.{◌≡◌, ℕ, false, List, is_some, arith}
use Rattle.words.specs.declared.instruction.Instruction.{Instruction}
use Rattle.std.proofs.lemmas.Bool.Decides.{nat_tests}
use Rattle.words.specs.Operands.{Operands}
use Rattle.avr.specs.Table.{origins_of}
use Rattle.avr.specs.Chip.{instruction_of, avr}
use Rattle.avr.proofs.Sounds.{named}
use Rattle.secrecy.specs.Rows.{is_place}
use Rattle.secrecy.specs.Hiding.{Placed}
use Rattle.row_layout.proofs.Places.{place_number}

placed_by : (i : Instruction) → Operands i → (p : ℕ) → is_place p ≡ false → is_some (origins_of i p) ≡ false
placed_by i n p other = grind (arith, nat_tests, place_number p)

pub placed : (ws : List ℕ) → Placed (avr ws)
placed ws a p other = placed_by (instruction_of ws a) (named ws a) p other
