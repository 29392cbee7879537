-- Decoding and encoding are inverse to each other. Assumes nothing.
use Rattle.std.specs.Prelude.{◌≡◌, ℕ, ◌^◌, ◌<◌, Some, None, Option, slice_index_or}
use Rattle.std.specs.Option.{option_map}
use Rattle.words.specs.declared.instruction.Instruction.{Instruction}
use Rattle.words.specs.Decode.{readings, decode_of}
use Rattle.words.specs.Encode.{encode_of}

-- What a word becomes when it is decoded and the instruction is encoded again: the word itself, where it has an instruction.
abbrev pub recode_of : ℕ → Option ℕ
recode_of w = option_map (λ i. w) (decode_of w)

-- decoding and encoding are inverse to each other
pub record Inverse : Type 0 where
  -- the instruction of a word encodes to that word,
  pub encodes : (w : ℕ) → w < 2 ^ 16 → (i : Instruction) → decode_of w ≡ Some i → encode_of i ≡ Some w
  -- and the word of an instruction has 16 bits and decodes to that instruction;
  pub decodes : (w : ℕ) (i : Instruction) → encode_of i ≡ Some w → (w < 2 ^ 16) × (decode_of w ≡ Some i)
  -- no word reads as two kinds of instruction, whichever order they are tried in,
  pub once : (w : ℕ) → w < 2 ^ 16 → (j k : ℕ) (a b : Instruction) → slice_index_or (readings w) j None ≡ Some a → slice_index_or (readings w) k None ≡ Some b → j ≡ k
  -- two words never have one instruction,
  pub one_word : (v w : ℕ) → v < 2 ^ 16 → w < 2 ^ 16 → (i : Instruction) → decode_of v ≡ Some i → decode_of w ≡ Some i → v ≡ w
  -- and two instructions never have one word.
  pub one_instruction : (w : ℕ) (i j : Instruction) → encode_of i ≡ Some w → encode_of j ≡ Some w → i ≡ j
