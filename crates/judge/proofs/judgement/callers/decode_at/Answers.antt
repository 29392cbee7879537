use Rattle.std.proofs.Common.{◌≡◌, ℕ, sym, ap, arith}
use Rattle.std.specs.Option.{unwrap_or}
use Rattle.std.proofs.lemmas.List.{get_or_past}
use Rattle.words.specs.declared.instruction.Instruction.TheVariants.{Nop}
use Rattle.words.specs.Decode.{decode_of}
use Rattle.judge.proofs.judgement.callers.decode_at.Goals as goal

-- past the last word a nop is read
pub returns-else-from-routine : goal.returns-else-from-routine
unfolding decode_of
returns-else-from-routine c = sym (ap (λ (word : ℕ). unwrap_or (decode_of word) Nop) (get_or_past c.args.routine.now.words.now c.args.at 0 (omega (arith, c.if-from-routine))))
