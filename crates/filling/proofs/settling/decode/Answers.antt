use Rattle.std.proofs.Common.{◌≡◌, ℕ, rules}
use Rattle.words.specs.declared.instruction.Instruction.{Instruction}
use Rattle.words.specs.declared.instruction.Instruction.TheVariants.{Nop}
use Rattle.avr.specs.Chip.{instruction_of}
use Rattle.avr.proofs.Made.{made}
use Rattle.filling.proofs.settling.decode.Goals as goal

pub returns : goal.returns
returns c = record {
  long = c.from_fn.ensures.items.long;
  each = λ b h. made _ (λ (i : ℕ) (y : Instruction). y ≡ instruction_of c.args.words.now i) _ (λ i y q k. (search rules, search rules)) _ 1024 c.from_fn.ensures.items b Nop h;
}
