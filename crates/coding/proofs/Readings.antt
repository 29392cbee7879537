-- What a test of a word's readings says of them.
use Rattle.std.proofs.Common.{arith, ◌≡◌, ℕ, zero, suc, true, List, [], ◌∷◌, get_or, Some, None, Option, refl}
use Rattle.words.specs.declared.instruction.Instruction.{Instruction}
use Rattle.words.specs.Decode.{first_of}
use Rattle.words.specs.Encode.{encode_of}
use Rattle.coding.proofs.Sole.{is_word_of, no_reading, sole}

none_there : (os : List (Option Instruction)) (k : ℕ) (i : Instruction) → no_reading os ≡ true → get_or os k None ≡ Some i → ⊥
unfolding no_reading
none_there [] k i h e = grind arith
none_there (o ∷ os) zero i h e = grind arith
none_there (o ∷ os) (suc k) i h e = grind (arith, none_there os k i)

-- the first reading encodes to the word
pub first_encodes : (w : ℕ) (os : List (Option Instruction)) (i : Instruction) → sole w os ≡ true → first_of os ≡ Some i → encode_of i ≡ Some w
unfolding sole is_word_of
first_encodes w [] i h e = grind arith
first_encodes w (o ∷ os) i h e = grind (arith, first_encodes w os i)

-- a reading is the first one
pub reading_first : (w : ℕ) (os : List (Option Instruction)) (j : ℕ) (i : Instruction) → sole w os ≡ true → get_or os j None ≡ Some i → first_of os ≡ Some i
unfolding sole
reading_first w [] j i h e = e
reading_first w (o ∷ os) zero i h e = grind arith
reading_first w (o ∷ os) (suc j) i h e = grind (arith, reading_first w os j i, none_there os j i)

-- two readings stand at one place
pub one_place : (w : ℕ) (os : List (Option Instruction)) (j k : ℕ) (a b : Instruction) → sole w os ≡ true → get_or os j None ≡ Some a → get_or os k None ≡ Some b → j ≡ k
unfolding sole
one_place w [] j k a b h e f = grind arith
one_place w (o ∷ os) zero zero a b h e f = refl
one_place w (o ∷ os) zero (suc k) a b h e f = grind (arith, none_there os k b)
one_place w (o ∷ os) (suc j) zero a b h e f = grind (arith, none_there os j a)
one_place w (o ∷ os) (suc j) (suc k) a b h e f = grind (arith, one_place w os j k a b, none_there os j a)
