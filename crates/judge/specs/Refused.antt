-- What each refusal of a routine says, in words that do not follow the checks. Assumes nothing.
use Rattle.std.specs.Prelude.{◌≡◌, ℕ, ◌<◌, ◌≤◌, false, true, List, [], ◌∷◌, length, is_some, Result, slice_index}
use Rattle.verdicts.specs.Verdict.{Refusal, refusal, refused, says}
use Rattle.words.specs.Decode.{decode_of}
use Rattle.words.specs.Legal.{Decodes}
use Rattle.levels.specs.Order.{Meaning}
use Rattle.avr.specs.Chip.{avr}
use Rattle.secrecy.specs.Refusals.{Names}
use Rattle.judge.specs.declared.faults.JudgeFault.{JudgeFault}
use Rattle.judge.specs.Faults.{judge_refusal}

-- there are as many words as a routine may have
abbrev pub Sized : List ℕ → Type 0
Sized ws = (1 ≤ length ws) × (length ws ≤ 1024)

-- the words are a listing
abbrev pub Listed : List ℕ → Type 0
Listed ws = Sized ws × Decodes ws

-- what a refusal of words and rows says
pub data RefusedBy (m : Meaning) (ws rows : List ℕ) : Refusal → Type 0 where
  -- 1: there are no words, or too many
  unsized : (Sized ws → ⊥) → RefusedBy m ws rows (refusal 1 [])
  -- 2: a word does not decode, and those before it do
  undecodable : (at : ℕ) → Sized ws → at < length ws → ((k : ℕ) → k < at → is_some (decode_of (slice_index ws k)) ≡ true) →
      is_some (decode_of (slice_index ws at)) ≡ false → RefusedBy m ws rows (refusal 2 (at ∷ []))
  -- 3 to 10: the words are a listing, and it is as the refusal of the rows says
  of_rows : (r : Refusal) → Listed ws → Names m (avr ws) rows r → RefusedBy m ws rows r

-- the answer is a refusal if it is as that refusal says, and only then
pub record RefusesExactly (m : Meaning) (ws rows : List ℕ) (answer : Result (Unit {0}) JudgeFault) : Type 0 where
  pub if : (r : Refusal) → RefusedBy m ws rows r → says judge_refusal answer ≡ refused r
  pub only_if : (r : Refusal) → says judge_refusal answer ≡ refused r → RefusedBy m ws rows r
