-- What filling in answers and leaves. Assumes nothing.
use Rattle.std.specs.Prelude.{◌≡◌, ℕ, List, [], length, replicate, Ok, Err, Result}
use Rattle.verdicts.specs.Verdict.{Refusal, refusal, fine, refused}
use Rattle.words.specs.Legal.{word_refusal}
use Rattle.levels.specs.Order.{Meaning}
use Rattle.avr.specs.Chip.{avr}
use Rattle.secrecy.specs.Filling.{FillsIn, LeastIn, LeastSettled}
use Rattle.judge.specs.Faults.{row_refusal}
use Rattle.filling.specs.Seeds.{given_verdict}
use Rattle.filling.specs.declared.fault.FillingFault.{FillingFault}
use Rattle.filling.specs.declared.fault.FillingFault.TheVariants.{Words, Rows, Unfillable}

-- the refusal that each fault stands for; 16: no accepted rows have what is given
abbrev pub filling_refusal : FillingFault → Refusal
filling_refusal (Words f) = word_refusal f
filling_refusal (Rows f) = row_refusal f
filling_refusal Unfillable = refusal 16 []

-- as many zeros as there are numbers
abbrev pub zeros_of : List ℕ → List ℕ
zeros_of rows = replicate (length rows) 0

module _ (m : Meaning) (ws given old new : List ℕ) where
  -- what is given is right, and the receiving rows are the least accepted ones that fill it in
  pub record Filled : Type 0 where
    pub read : given_verdict m ws given old ≡ fine
    pub least : LeastIn m (avr ws) given new

  -- what is given is right, no accepted rows fill it in, and the receiving rows are zeros
  pub record NoneFill : Type 0 where
    pub read : given_verdict m ws given old ≡ fine
    pub none : (rows : List ℕ) → FillsIn m (avr ws) given rows → ⊥
    pub zeros : new ≡ zeros_of old

  -- something given is refused, and the receiving rows are as they were
  pub record Unread (r : Refusal) : Type 0 where
    pub refuses : given_verdict m ws given old ≡ refused r
    pub unchanged : new ≡ old

  -- by the answer
  abbrev pub Answered : Result (Unit {0}) FillingFault → Type 0
  Answered (Ok x) = Filled
  Answered (Err (Words f)) = Unread (filling_refusal (Words f))
  Answered (Err (Rows f)) = Unread (filling_refusal (Rows f))
  Answered (Err Unfillable) = NoneFill

  -- what is given is right, and the receiving rows are the least settled ones that have it
  pub record SettledRows : Type 0 where
    pub read : given_verdict m ws given old ≡ fine
    pub least : LeastSettled m (avr ws) given new

  -- by the answer of settling, which asks no further rule
  abbrev pub SettlingAnswered : Result (Unit {0}) FillingFault → Type 0
  SettlingAnswered (Ok x) = SettledRows
  SettlingAnswered (Err (Words f)) = Unread (filling_refusal (Words f))
  SettlingAnswered (Err (Rows f)) = Unread (filling_refusal (Rows f))
  SettlingAnswered (Err Unfillable) = ⊥

-- two least sets of rows that fill in what is given are the same
abbrev pub LeastIsOne : Meaning → List ℕ → List ℕ → Type 0
LeastIsOne m ws given = (xs ys : List ℕ) → LeastIn m (avr ws) given xs → LeastIn m (avr ws) given ys → xs ≡ ys

-- and so are two least settled sets of rows that have what is given
abbrev pub LeastSettledIsOne : Meaning → List ℕ → List ℕ → Type 0
LeastSettledIsOne m ws given = (xs ys : List ℕ) → LeastSettled m (avr ws) given xs → LeastSettled m (avr ws) given ys → xs ≡ ys
