-- Which words make a listing. Assumes nothing.
use Rattle.std.specs.Prelude.{◌≡◌, ℕ, ◌<◌, true, cond, ◌&&◌, List, [], ◌∷◌, length, is_some, Some, None, Option, nat_le, nat_lt, slice_index}
use Rattle.verdicts.specs.Verdict.{Verdict, Refusal, refusal, rule, and_then, first}
use Rattle.words.specs.declared.fault.WordFault.{WordFault}
use Rattle.words.specs.declared.fault.WordFault.TheVariants.{Length, Undecodable}
use Rattle.words.specs.declared.instruction.Instruction.{Instruction}
use Rattle.words.specs.Decode.{decode_of}

-- every word decodes
abbrev pub Decodes : List ℕ → Type 0
Decodes ws = (k : ℕ) → k < length ws → is_some (decode_of (slice_index ws k)) ≡ true

-- refusal 2: the word at an address does not decode
abbrev pub decodes_at : List ℕ → ℕ → Verdict
decodes_at ws at = rule (is_some (decode_of (slice_index ws at))) 2 (at ∷ [])

-- refusal 1: there are no words, or more than 1,024
abbrev pub length_of : List ℕ → Verdict
length_of ws = rule (nat_le 1 (length ws) && nat_le (length ws) 1024) 1 []

-- refusal 1, then refusal 2 at the first address that has it
abbrev pub legal_of : List ℕ → Verdict
legal_of ws = and_then (length_of ws) (first (decodes_at ws) (length ws))

-- the refusal that each fault stands for
abbrev pub word_refusal : WordFault → Refusal
word_refusal Length = refusal 1 []
word_refusal (Undecodable at) = refusal 2 (at ∷ [])

-- the instruction at an address, if the address is in the listing
abbrev pub instruction_at : List ℕ → ℕ → Option Instruction
instruction_at ws at = cond (nat_lt at (length ws)) (decode_of (slice_index ws at)) None

-- the word at an address, if the address is in the listing
abbrev pub word_at : List ℕ → ℕ → Option ℕ
word_at ws at = cond (nat_lt at (length ws)) (Some (slice_index ws at)) None
