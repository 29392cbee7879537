-- The word's instruction encodes to the word.
use Rattle.std.proofs.Common.{◌≡◌, ℕ, ◌^◌, ◌<◌, Some, None, Option, option_and_then, refl, ◌∙◌, rules, arith}
use Rattle.std.specs.Option.{option_map}
use Rattle.words.specs.declared.instruction.Instruction.{Instruction}
use Rattle.words.specs.Decode.{decode_of}
use Rattle.words.specs.Encode.{encode_of}
use Rattle.coding.proofs.Theorem.{inverse}
use Rattle.coding.proofs.recode.Goals as goal

recoded : (w : ℕ) → w < 2 ^ 16 → (o : Option Instruction) → decode_of w ≡ o → option_and_then encode_of o ≡ option_map (λ i. w) o
recoded w h None e = refl
recoded w h (Some i) e = inverse.encodes w h i e

pub returns : goal.returns
returns c =
    let word = c.args.word in
    let ran : c.and_then.result ≡ option_and_then encode_of (decode_of word) = search rules in
    record { answer = ran ∙ recoded word (omega arith) (decode_of word) refl; inverse = inverse }
