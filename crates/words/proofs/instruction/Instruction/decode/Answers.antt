use Rattle.std.proofs.Common.{sym}
use Rattle.words.specs.Decode.{decode_of}
use Rattle.words.proofs.Readings.{first_two, first_one}
use Rattle.words.proofs.instruction.Instruction.decode.Goals as goal

pub returns : goal.returns
unfolding decode_of
returns c = sym (simp (first_two, first_one) (cc))
