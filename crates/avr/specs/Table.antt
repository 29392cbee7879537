-- What each written place comes from: the one table by which secrecy levels follow the words. Assumes nothing.
use Rattle.std.specs.Prelude.{ℕ, ◌+◌, Bool, false, cond, List, [], ◌∷◌, Some, None, Option, ◌==◌, nat_lt}
use Rattle.words.specs.declared.instruction.BinaryOp.{BinaryOp}
use Rattle.words.specs.declared.instruction.BinaryOp.TheVariants as binary
use Rattle.words.specs.declared.instruction.UnaryOp.{UnaryOp}
use Rattle.words.specs.declared.instruction.UnaryOp.TheVariants as unary
use Rattle.words.specs.declared.instruction.Mode.{Mode}
use Rattle.words.specs.declared.instruction.Mode.TheVariants as mode
use Rattle.words.specs.declared.instruction.Flag.{Flag}
use Rattle.words.specs.declared.instruction.Flag.TheVariants as flag
use Rattle.words.specs.declared.instruction.Instruction.{Instruction}
use Rattle.words.specs.declared.instruction.Instruction.TheVariants.{Binary, Immediate, Wide, Movw, Unary, Load, Store, LoadDisplaced, StoreDisplaced, Rjmp, Rcall, Branch, Ret, Clc, Nop}
use Rattle.alu.specs.Arithmetic.{counterpart, bit}
use Rattle.avr.specs.Core.{Core, reg}
use Rattle.avr.specs.Effects.{pointer_pair, base_pair}

-- The 35 places: the registers are the places 0 to 31, then come the two flags and, as one place, the whole memory.
abbrev pub carry_place : ℕ
carry_place = 32

-- the place of Z
abbrev pub zero_place : ℕ
zero_place = 33

-- the place of the memory
abbrev pub memory_place : ℕ
memory_place = 34

-- what a place holds
abbrev pub holds_of : Core → ℕ → List ℕ
holds_of x p =
    cond (nat_lt p 32) (reg x.registers p ∷ [])
    (cond (p == carry_place) (bit x.carry ∷ [])
    (cond (p == zero_place) (bit x.zero ∷ [])
    (cond (p == memory_place) x.memory [])))

-- a row of the table: a place that is written, and the places whose old values its new value comes from
pub record Row : Type 0 where
  pub place : ℕ
  pub sources : List ℕ

-- a row of its two parts
abbrev pub row : ℕ → List ℕ → Row
row p qs = record { place = p; sources = qs }

-- a register and the flags, all from the same places
abbrev pub with_flags : ℕ → List ℕ → List Row
with_flags d qs = row d qs ∷ (row carry_place qs ∷ (row zero_place qs ∷ []))

-- a register and Z alone
abbrev pub with_zero : ℕ → List ℕ → List Row
with_zero d qs = row d qs ∷ (row zero_place qs ∷ [])

-- the flags alone, both from the same places
abbrev pub flags_only : List ℕ → List Row
flags_only qs = row carry_place qs ∷ (row zero_place qs ∷ [])

-- whether a second operand is the register d itself
abbrev pub is_itself : ℕ → List ℕ → Bool
is_itself d [] = false
is_itself d (r ∷ rs) = d == r

-- What sub and eor make their result from: both operands, but nothing where the second is the register d itself. Then the result
-- is 0, Z is set and there is no borrow, whatever d held.
abbrev pub unlike : ℕ → List ℕ → List ℕ
unlike d bs = cond (is_itself d bs) [] (d ∷ bs)

-- An operation on the register d and on bs, which is the other register or nothing. Where C is used, every place that is
-- written comes from it too; the old Z is a source of Z alone, in sbc, sbci and cpc.
abbrev pub binary_rows : BinaryOp → ℕ → List ℕ → List Row
binary_rows binary.Cpc d bs = row carry_place (d ∷ (carry_place ∷ bs)) ∷ (row zero_place (d ∷ (carry_place ∷ (zero_place ∷ bs))) ∷ [])
binary_rows binary.Sbc d bs = row d (d ∷ (carry_place ∷ bs)) ∷ (row carry_place (d ∷ (carry_place ∷ bs)) ∷ (row zero_place (d ∷ (carry_place ∷ (zero_place ∷ bs))) ∷ []))
binary_rows binary.Add d bs = with_flags d (d ∷ bs)
binary_rows binary.Cpse d bs = []
binary_rows binary.Cp d bs = flags_only (d ∷ bs)
binary_rows binary.Sub d bs = with_flags d (unlike d bs)
binary_rows binary.Adc d bs = with_flags d (d ∷ (carry_place ∷ bs))
binary_rows binary.And d bs = with_zero d (d ∷ bs)
binary_rows binary.Eor d bs = with_zero d (unlike d bs)
binary_rows binary.Or d bs = with_zero d (d ∷ bs)
binary_rows binary.Mov d bs = row d bs ∷ []
binary_rows binary.Mul d bs = row 0 (d ∷ bs) ∷ (row 1 (d ∷ bs) ∷ flags_only (d ∷ bs))

-- an operation on the register d; ror uses C
abbrev pub unary_rows : UnaryOp → ℕ → List Row
unary_rows unary.Neg d = with_flags d (d ∷ [])
unary_rows unary.Inc d = with_zero d (d ∷ [])
unary_rows unary.Lsr d = with_flags d (d ∷ [])
unary_rows unary.Ror d = with_flags d (d ∷ (carry_place ∷ []))
unary_rows unary.Dec d = with_zero d (d ∷ [])

-- a pair of registers that comes from itself
abbrev pub pair_rows : ℕ → List Row
pair_rows d = row d (d ∷ ((d + 1) ∷ [])) ∷ (row (d + 1) (d ∷ ((d + 1) ∷ [])) ∷ [])

-- a stepped pointer is made from the two bytes of its pair
abbrev pub back_rows : Mode → List Row
back_rows mode.X = []
back_rows mode.XInc = pair_rows 26
back_rows mode.XDec = pair_rows 26
back_rows mode.YInc = pair_rows 28
back_rows mode.YDec = pair_rows 28
back_rows mode.ZInc = pair_rows 30
back_rows mode.ZDec = pair_rows 30

-- what is loaded comes from the memory and both bytes of the pointer
abbrev pub load_row : ℕ → ℕ → Row
load_row d pointer = row d (memory_place ∷ (pointer ∷ ((pointer + 1) ∷ [])))

-- a store joins a byte to the memory, so that the old memory is a source too
abbrev pub store_row : ℕ → ℕ → Row
store_row r pointer = row memory_place (memory_place ∷ (pointer ∷ ((pointer + 1) ∷ (r ∷ []))))

-- The table.
abbrev pub rows_of : Instruction → List Row
rows_of (Binary op d r) = binary_rows op d (r ∷ [])
rows_of (Immediate op d k) = binary_rows (counterpart op) d []
rows_of (Wide op d k) = row d (d ∷ ((d + 1) ∷ [])) ∷ (row (d + 1) (d ∷ ((d + 1) ∷ [])) ∷ flags_only (d ∷ ((d + 1) ∷ [])))
rows_of (Movw d r) = row d (r ∷ []) ∷ (row (d + 1) ((r + 1) ∷ []) ∷ [])
rows_of (Unary op d) = unary_rows op d
rows_of (Load m d) = load_row d (pointer_pair m) ∷ back_rows m
rows_of (Store m r) = store_row r (pointer_pair m) ∷ back_rows m
rows_of (LoadDisplaced b q d) = load_row d (base_pair b) ∷ []
rows_of (StoreDisplaced b q r) = store_row r (base_pair b) ∷ []
rows_of (Rjmp k) = []
rows_of (Rcall k) = []
rows_of (Branch f set k) = []
rows_of Ret = []
rows_of Clc = row carry_place [] ∷ []
rows_of Nop = []

-- the places that some rows write
abbrev pub places_of : List Row → List ℕ
places_of [] = []
places_of (r ∷ rs) = r.place ∷ places_of rs

-- the places that an instruction writes
abbrev pub written_of : Instruction → List ℕ
written_of i = places_of (rows_of i)

-- the sources of a place in some rows, if one of them writes it
abbrev pub lookup : ℕ → List Row → Option (List ℕ)
lookup p [] = None
lookup p (r ∷ rs) = cond (p == r.place) (Some r.sources) (lookup p rs)

-- what a place comes from in an instruction; none where it is not written
abbrev pub origins_of : Instruction → ℕ → Option (List ℕ)
origins_of i p = lookup p (rows_of i)

-- the place of a flag
abbrev pub flag_place : Flag → ℕ
flag_place flag.Carry = carry_place
flag_place flag.Zero = zero_place

-- of the operations on two registers only cpse asks something
abbrev pub binary_deciders : BinaryOp → ℕ → ℕ → List ℕ
binary_deciders binary.Cpse d r = d ∷ (r ∷ [])
binary_deciders _ d r = []

-- the places that decide which way a fork goes: the two registers of cpse, the flag of a branch
abbrev pub deciders_of : Instruction → List ℕ
deciders_of (Binary op d r) = binary_deciders op d r
deciders_of (Branch f set k) = flag_place f ∷ []
deciders_of _ = []
