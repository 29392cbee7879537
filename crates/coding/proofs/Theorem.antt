-- Decoding and encoding are inverse to each other.
use Rattle.std.proofs.Common.{◌≡◌, ℕ, ◌^◌, ◌<◌, true, Some, subst}
use Rattle.std.proofs.lemmas.Option.{cond_some}
use Rattle.words.specs.declared.instruction.Instruction.{Instruction}
use Rattle.words.specs.Decode.{readings, decode_of}
use Rattle.words.specs.Encode.{encodable, word_of, encode_of}
use Rattle.coding.specs.Inverse.{Inverse}
use Rattle.coding.proofs.Sole.{sole_reading}
use Rattle.coding.proofs.Readings.{first_encodes, reading_first, one_place}
use Rattle.coding.proofs.Words.{place, own}

encodes : (w : ℕ) → w < 2 ^ 16 → (i : Instruction) → decode_of w ≡ Some i → encode_of i ≡ Some w
unfolding decode_of
encodes w h i e = first_encodes w (readings w) i (sole_reading w h) e

word_decodes : (i : Instruction) → encodable i ≡ true → (word_of i < 2 ^ 16) × (decode_of (word_of i) ≡ Some i)
unfolding decode_of
word_decodes i h =
    let w : ℕ = word_of i in
    let mine = own i h in
    (mine.small, reading_first w (readings w) (place i) i (sole_reading w mine.small) mine.reads)

decodes : (w : ℕ) (i : Instruction) → encode_of i ≡ Some w → (w < 2 ^ 16) × (decode_of w ≡ Some i)
decodes w i e =
    let fit = cond_some (encodable i) (word_of i) w e in
    subst (λ (v : ℕ). (v < 2 ^ 16) × (decode_of v ≡ Some i)) fit.1 (word_decodes i fit.0)

pub inverse : Inverse
inverse =
    record {
      encodes = encodes;
      decodes = decodes;
      once = λ w h j k a b e f. one_place w (readings w) j k a b (sole_reading w h) e f;
      one_word = λ v w hv hw i e f. let p = encodes v hv i e in let q = encodes w hw i f in cc;
      one_instruction = λ w i j e f. let p = (decodes w i e).1 in let q = (decodes w j f).1 in cc;
    }
