-- Worked examples, as one table. Each row says what some words, a board or the judge come to. Assumes nothing.
use Rattle.std.specs.Prelude.{◌≡◌, ℕ, ◌<◌, Bool, true, false, List, [], ◌∷◌, ◌++◌, length, replicate, negsuc, Some, None, Option, slice_index, slice_set}
use Rattle.verdicts.specs.Verdict.{Verdict, fine, refused, refusal}
use Rattle.words.specs.declared.instruction.BinaryOp.TheVariants as binary
use Rattle.words.specs.declared.instruction.ImmediateOp.TheVariants as immediate
use Rattle.words.specs.declared.instruction.WideOp.TheVariants as wide
use Rattle.words.specs.declared.instruction.UnaryOp.TheVariants as unary
use Rattle.words.specs.declared.instruction.Mode.TheVariants as mode
use Rattle.words.specs.declared.instruction.Flag.TheVariants as flag
use Rattle.words.specs.declared.instruction.Instruction.{Instruction}
use Rattle.words.specs.declared.instruction.Instruction.TheVariants.{Binary, Immediate, Wide, Unary, Load, Branch}
use Rattle.words.specs.Decode.{decode_of}
use Rattle.words.specs.Legal.{legal_of}
use Rattle.machine.specs.declared.phase.Ending.{Ending}
use Rattle.machine.specs.declared.phase.Ending.TheVariants as ending
use Rattle.machine.specs.Calls.{run, put, ends, does, fresh}
use Rattle.avr.specs.declared.location.Location.TheVariants.{Register}
use Rattle.avr.specs.Core.{Core, core}
use Rattle.avr.specs.Effects.{effect_of}
use Rattle.avr.specs.Chip.{avr}
use Rattle.levels.specs.Order.{Meaning}
use Rattle.levels.specs.Chains.{chain}
use Rattle.secrecy.specs.Rows.{place_columns}
use Rattle.judge.specs.Judgement.{judgement_of}

-- a register and a byte in it
pub record Byte : Type 0 where
  pub register : ℕ
  pub value : ℕ

-- register d holds byte v
abbrev pub holding : ℕ → ℕ → Byte
holding d v = record { register = d; value = v }

-- a row of the table
pub data Case : Type 0 where
  -- a word decodes to an instruction, or to none
  decodes : ℕ → Option Instruction → Case
  -- an instruction, carried out where some registers hold some bytes, with the flags C and Z; then the same afterwards
  works : Instruction → List Byte → Bool → Bool → List Byte → Bool → Bool → Case
  -- words, run from a new board up to a limit
  runs : List ℕ → ℕ → Ending → Case
  -- words, run from a new board with any byte put into a register
  always : List ℕ → ℕ → Ending → Case
  -- words and rows under an order
  judged : List ℕ → List ℕ → Meaning → Verdict → Case
  -- some words alone are refused
  unlisted : List ℕ → Verdict → Case

-- registers with some bytes put in
abbrev pub loaded : List Byte → List ℕ
loaded [] = replicate 32 0
loaded (b ∷ bs) = slice_set (loaded bs) b.register b.value

-- each of some registers holds its byte
abbrev pub Hold : List Byte → List ℕ → Type 0
Hold [] rs = Unit {0}
Hold (b ∷ bs) rs = (slice_index rs b.register ≡ b.value) × Hold bs rs

-- registers that hold some bytes, and the flags C and Z
abbrev pub Left : Core → List Byte → Bool → Bool → Type 0
Left x bs c z = Hold bs x.registers × ((x.carry ≡ c) × (x.zero ≡ z))

-- what a row of the table says
abbrev pub Holds : Case → Type 0
Holds (decodes w o) = decode_of w ≡ o
Holds (works i before c z after c' z') = Left (effect_of i (core (loaded before) c z [])) after c' z'
Holds (runs ws limit e) = (does (avr ws) (run limit) (fresh (avr ws))).answer ≡ ends e
Holds (always ws d e) = (v : ℕ) → v < 256 → (does (avr ws) (run 1000) (does (avr ws) (put (Register d) v) (fresh (avr ws))).board).answer ≡ ends e
Holds (judged ws rows m v) = judgement_of m ws rows ≡ v
Holds (unlisted ws v) = legal_of ws ≡ v

-- each row of a table holds
abbrev pub AllHold : List Case → Type 0
AllHold [] = Unit {0}
AllHold (c ∷ cs) = Holds c × AllHold cs

-- words: constants, registers and a backward branch; a load that steps its pointer, and one that would step its own register
abbrev pub word_cases : List Case
word_cases =
    decodes 0xE005 (Some (Immediate immediate.Ldi 16 5))
    ∷ (decodes 0x0F01 (Some (Binary binary.Add 16 17))
    ∷ (decodes 0xF7F1 (Some (Branch flag.Zero false (negsuc 1)))
    ∷ (decodes 0x900D (Some (Load mode.XInc 0))
    ∷ (decodes 0x91AD None
    ∷ (unlisted (0x91AD ∷ []) (refused (refusal 2 (0 ∷ [])))
    ∷ [])))))

-- values and flags
abbrev pub value_cases : List Case
value_cases =
    works (Immediate immediate.Subi 16 1) (holding 16 0 ∷ []) false false (holding 16 255 ∷ []) true false
    ∷ (works (Binary binary.Sbc 16 17) (holding 16 0 ∷ (holding 17 0 ∷ [])) false false (holding 16 0 ∷ []) false false
    ∷ (works (Wide wide.Adiw 24 1) (holding 24 255 ∷ (holding 25 255 ∷ [])) false false (holding 24 0 ∷ (holding 25 0 ∷ [])) true true
    ∷ (works (Unary unary.Neg 16) (holding 16 128 ∷ []) false false (holding 16 128 ∷ []) true false
    ∷ (works (Binary binary.Mul 16 17) (holding 16 255 ∷ (holding 17 255 ∷ [])) false false (holding 0 1 ∷ (holding 1 254 ∷ [])) true false
    ∷ []))))

-- a loop of three turns: it ends at 13 cycles, and a limit of 12 is spent
abbrev pub loop : List ℕ
loop = 0xE013 ∷ (0x951A ∷ (0xF7F1 ∷ (0x9508 ∷ [])))

-- the loop, run to its end and up to one cycle less
abbrev pub run_cases : List Case
run_cases = runs loop 13 (ending.Ended 13) ∷ (runs loop 12 (ending.Spent 12) ∷ [])

-- a row with some levels 1 (the places given), and then region level, join address, remaining cycles and function
abbrev pub levels : List ℕ → List ℕ
levels [] = replicate (length place_columns) 0
levels (p ∷ ps) = slice_set (levels ps) p 1

-- such a row of function 0
abbrev pub row_of : List ℕ → ℕ → ℕ → ℕ → List ℕ
row_of secret region join_address remaining = levels secret ++ (region ∷ (join_address ∷ (remaining ∷ (0 ∷ []))))

-- r16 is secret before it is compared
abbrev pub before : List ℕ
before = row_of (16 ∷ []) 0 0 0

-- r16 and the flags are secret
abbrev pub later : ℕ → ℕ → ℕ → List ℕ
later = row_of (16 ∷ (32 ∷ (33 ∷ [])))

-- r16 is compared with 0; one arm skips the nop, and both take the same time
abbrev pub balanced : List ℕ
balanced = 0x3000 ∷ (0xF009 ∷ (0x0000 ∷ (0x9508 ∷ [])))

-- the rows of the two arms: what remains is the same on both
abbrev pub balanced_rows : List ℕ
balanced_rows = before ++ (later 0 3 2 ++ (later 1 3 1 ++ (later 0 0 0 ++ later 0 0 0)))

-- a branch by the same comparison to the very next word, which costs a cycle more where it is taken
abbrev pub uneven : List ℕ
uneven = 0x3000 ∷ (0xF001 ∷ (0x9508 ∷ []))

-- rows that give the branch 2 cycles to the word behind it
abbrev pub uneven_rows : List ℕ
uneven_rows = before ++ (later 0 2 2 ++ (later 0 0 0 ++ later 0 0 0))

-- the balanced routine's rows with the branch outside every region
abbrev pub open_rows : List ℕ
open_rows = before ++ (later 0 0 0 ++ (later 1 3 1 ++ (later 0 0 0 ++ later 0 0 0)))

-- an arm that sets r18, whose level stays 0
abbrev pub telling : List ℕ
telling = 0x3000 ∷ (0xF009 ∷ (0xE027 ∷ (0x9508 ∷ [])))

-- judgements, and the run of the accepted routine for every secret byte
abbrev pub judge_cases : List Case
judge_cases =
    judged balanced balanced_rows (chain 2) fine
    ∷ (always balanced 16 (ending.Ended 7)
    ∷ (judged uneven uneven_rows (chain 2) (refused (refusal 9 (1 ∷ (2 ∷ []))))
    ∷ (judged balanced open_rows (chain 2) (refused (refusal 8 (1 ∷ [])))
    ∷ (judged telling balanced_rows (chain 2) (refused (refusal 10 (2 ∷ (3 ∷ (18 ∷ [])))))
    ∷ []))))

-- a word on r16, and then a branch by Z that stands outside every region
abbrev pub cleared : ℕ → List ℕ
cleared word = word ∷ (0xF009 ∷ (0x0000 ∷ (0x9508 ∷ [])))

-- r16 is secret before the first word and never after; all else is 0
abbrev pub cleared_rows : List ℕ
cleared_rows = before ++ (row_of [] 0 0 0 ++ (row_of [] 0 0 0 ++ (row_of [] 0 0 0 ++ row_of [] 0 0 0)))

-- an arm that clears r18, whose level stays 0
abbrev pub clearing_inside : List ℕ
clearing_inside = 0x3000 ∷ (0xF009 ∷ (0x2722 ∷ (0x9508 ∷ [])))

-- A register that is cleared against itself comes from nothing: eor r16 r16 and sub r16 r16, but not sbc r16 r16, since the carry
-- comes through, nor eor r16 r17. Inside a region it has the region level.
abbrev pub clearing_cases : List Case
clearing_cases =
    judged (cleared 0x2700) cleared_rows (chain 2) fine
    ∷ (judged (cleared 0x1B00) cleared_rows (chain 2) fine
    ∷ (judged (cleared 0x0B00) cleared_rows (chain 2) (refused (refusal 10 (0 ∷ (1 ∷ (16 ∷ [])))))
    ∷ (judged (cleared 0x2701) cleared_rows (chain 2) (refused (refusal 10 (0 ∷ (1 ∷ (16 ∷ [])))))
    ∷ (judged clearing_inside balanced_rows (chain 2) (refused (refusal 10 (2 ∷ (3 ∷ (18 ∷ [])))))
    ∷ []))))

-- all rows
abbrev pub table : List Case
table = word_cases ++ (value_cases ++ (run_cases ++ (judge_cases ++ clearing_cases)))

-- every row of the table holds
abbrev pub CasesStand : Type 0
CasesStand = AllHold table
