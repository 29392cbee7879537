use Rattle.std.proofs.Common.{◌≡◌, ℕ, None, Option, rules}
use Rattle.std.specs.List.{slice_index_or}
use Rattle.words.specs.declared.instruction.Instruction.TheVariants.{Nop}
use Rattle.avr.specs.Chip.{kind_of}
use Rattle.judge.specs.Worked.{callee_of}
use Rattle.avr.proofs.Made.{made}
use Rattle.filling.proofs.settling.callees.Goals as goal

pub returns : goal.returns
returns c =
    let instructions = c.args.instructions.now in
    record {
      long = c.from_fn.ensures.items.long;
      each = λ b h. made _ (λ (i : ℕ) (y : Option ℕ). y ≡ callee_of (kind_of i (slice_index_or instructions i Nop))) _ (λ i y q k. (search rules, search rules)) _ 1024 c.from_fn.ensures.items b None h;
    }
