-- Each word has at most one reading, and that encodes to the word: a test of one word, computed at every word.
use Rattle.std.proofs.Common.{◌≡◌, ℕ, zero, suc, ◌/◌, ◌^◌, ◌<◌, Bool, true, false, ◌&&◌, eqb, List, [], ◌∷◌, Some, None, Option, refl, arith}
use Rattle.words.specs.declared.instruction.Instruction.{Instruction}
use Rattle.words.specs.Decode.{readings}
use Rattle.words.specs.Encode.{encode_of}
use Rattle.coding.proofs.Exhaust.{all_bits, at_each}

-- whether a word is there, and is w
unfoldable pub is_word_of : ℕ → Option ℕ → Bool
is_word_of w None = false
is_word_of w (Some v) = eqb v w

-- whether there is no reading
unfoldable pub no_reading : List (Option Instruction) → Bool
no_reading [] = true
no_reading (None ∷ os) = no_reading os
no_reading (Some i ∷ os) = false

-- whether there is at most one reading, and it encodes to w
unfoldable pub sole : ℕ → List (Option Instruction) → Bool
unfolding is_word_of no_reading
sole w [] = true
sole w (None ∷ os) = sole w os
sole w (Some i ∷ os) = is_word_of w (encode_of i) && no_reading os

unfoldable pub sole_at : ℕ → Bool
unfolding sole
sole_at w = sole w (readings w)

-- the words, by their two highest bits
words_0 : all_bits 14 0 sole_at ≡ true
unfolding all_bits sole_at
words_0 = refl

words_1 : all_bits 14 1 sole_at ≡ true
unfolding all_bits sole_at
words_1 = refl

words_2 : all_bits 14 2 sole_at ≡ true
unfolding all_bits sole_at
words_2 = refl

words_3 : all_bits 14 3 sole_at ≡ true
unfolding all_bits sole_at
words_3 = refl

words : (p : ℕ) → p < 4 → all_bits 14 p sole_at ≡ true
words zero h = words_0
words (suc zero) h = words_1
words (suc (suc zero)) h = words_2
words (suc (suc (suc zero))) h = words_3
words (suc (suc (suc (suc p)))) h = absurd (omega arith)

pub sole_reading : (w : ℕ) → w < 2 ^ 16 → sole w (readings w) ≡ true
unfolding sole_at
sole_reading w h = at_each 14 (w / 2 ^ 14) sole_at (words (w / 2 ^ 14) (omega arith)) w refl
