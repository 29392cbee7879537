-- The word of an instruction fits 16 bits and, read as the instruction's own kind, is the instruction.
use Rattle.std.proofs.Common.{rules, ◌≡◌, ℕ, ◌+◌, ◌-◌, ◌*◌, ◌/◌, ◌%◌, ◌^◌, ◌<◌, ◌≤◌, true, false, cond, eqb, get_or, ℤ, Some, None, refl, ap, ◌∙◌, arith, lit<}
use Rattle.std.proofs.lemmas.Nat.{shr_high, mod_low}
use Rattle.words.specs.declared.instruction.BinaryOp.{BinaryOp}
use Rattle.words.specs.declared.instruction.ImmediateOp.{ImmediateOp}
use Rattle.words.specs.declared.instruction.WideOp.{WideOp}
use Rattle.words.specs.declared.instruction.UnaryOp.{UnaryOp}
use Rattle.words.specs.declared.instruction.Mode.{Mode}
use Rattle.words.specs.declared.instruction.Base.{Base}
use Rattle.words.specs.declared.instruction.Flag.{Flag}
use Rattle.words.specs.declared.instruction.Instruction.{Instruction}
use Rattle.words.specs.declared.instruction.Instruction.TheVariants.{Binary, Immediate, Wide, Movw, Unary, Load, Store, LoadDisplaced, StoreDisplaced, Rjmp, Rcall, Branch, Ret, Clc, Nop}
use Rattle.words.specs.Fields.{bits, unsigned, fits_field}
use Rattle.words.specs.Codes.{binary_code, immediate_code, wide_code, unary_code, mode_code, base_code, flag_code}
use Rattle.words.specs.Decode.{displacement, in_pair, pair_written_back, binary_of, immediate_of, wide_of, movw_of, unary_of, pointers_of, displaced_of, jump_of, branch_of, readings}
use Rattle.words.specs.Encode.{encodable, word_of, spread}
use Rattle.words.specs.contracts.codes.BinaryOpCoded.TheImpl.Laws as binary
use Rattle.words.specs.contracts.codes.ImmediateOpCoded.TheImpl.Laws as immediate
use Rattle.words.specs.contracts.codes.WideOpCoded.TheImpl.Laws as wide
use Rattle.words.specs.contracts.codes.UnaryOpCoded.TheImpl.Laws as unary
use Rattle.words.specs.contracts.codes.ModeCoded.TheImpl.Laws as mode
use Rattle.words.specs.contracts.codes.BaseCoded.TheImpl.Laws as base
use Rattle.words.specs.contracts.codes.FlagCoded.TheImpl.Laws as flag
use Rattle.coding.proofs.Distances.{placed}

-- the place of an instruction's kind among the readings
abbrev pub place : Instruction → ℕ
place (Binary op d r) = 0
place (Immediate op d k) = 1
place (Wide op d k) = 2
place (Movw d r) = 3
place (Unary op d) = 4
place (Load m d) = 5
place (Store m r) = 5
place (LoadDisplaced b q d) = 6
place (StoreDisplaced b q r) = 6
place (Rjmp k) = 7
place (Rcall k) = 7
place (Branch f set k) = 8
place Ret = 9
place Clc = 9
place Nop = 9

-- what is to show of an instruction
pub record Own (i : Instruction) : Type 0 where
  pub small : word_of i < 2 ^ 16
  pub reads : get_or (readings (word_of i)) (place i) None ≡ Some i

-- a field has the value that stands there between the bits above it and those below it
bits_at : (w low count above value below : ℕ) → (w ≡ (above * 2 ^ count + value) * 2 ^ low + below) × (value < 2 ^ count) × (below < 2 ^ low) → bits w low count ≡ value
bits_at w low count above value below h =
    ap (λ n. bits n low count) h.0 ∙ ap (λ n. n % 2 ^ count) (shr_high (above * 2 ^ count + value) low below h.2) ∙ mod_low above count value h.1

-- Kind by kind: where the operands fit, the reading of the word that they make.
binary_at : (w : ℕ) (op : BinaryOp) (d r : ℕ) → d < 32 → r < 32 → w ≡ word_of (Binary op d r) → binary_of w ≡ Some (Binary op d r)
binary_at w op d r hd hr e =
    let small = binary.fits-law op in
    let c : ℕ = binary_code op in
    let opAt = bits_at w 10 6 0 c (512 * (r / 16) + 16 * d + r % 16) (omega arith) in
    let dAt = bits_at w 4 5 (2 * c + r / 16) d (r % 16) (omega arith) in
    let high = bits_at w 9 1 c (r / 16) (16 * d + r % 16) (omega arith) in
    let low = bits_at w 0 4 (64 * c + 32 * (r / 16) + d) (r % 16) 0 (omega arith) in
    let r_at : 16 * bits w 9 1 + bits w 0 4 ≡ r = omega arith in
    rw (opAt, dAt, r_at, binary.back-law op)

immediate_at : (w : ℕ) (op : ImmediateOp) (d k : ℕ) → 16 ≤ d → d < 32 → k < 256 → w ≡ word_of (Immediate op d k) → immediate_of w ≡ Some (Immediate op d k)
immediate_at w op d k ld hd hk e =
    let small = immediate.fits-law op in
    let c : ℕ = immediate_code op in
    let opAt = bits_at w 12 4 0 c (256 * (k / 16) + 16 * (d - 16) + k % 16) (omega arith) in
    let register = bits_at w 4 4 (16 * c + k / 16) (d - 16) (k % 16) (omega arith) in
    let high = bits_at w 8 4 c (k / 16) (16 * (d - 16) + k % 16) (omega arith) in
    let low = bits_at w 0 4 (256 * c + 16 * (k / 16) + (d - 16)) (k % 16) 0 (omega arith) in
    let dAt : 16 + bits w 4 4 ≡ d = omega arith in
    let kAt : 16 * bits w 8 4 + bits w 0 4 ≡ k = omega arith in
    rw (opAt, dAt, kAt, immediate.back-law op)

wide_at : (w : ℕ) (op : WideOp) (d k : ℕ) → 24 ≤ d → d < 32 → d % 2 ≡ 0 → k < 64 → w ≡ word_of (Wide op d k) → wide_of w ≡ Some (Wide op d k)
wide_at w op d k ld hd even hk e =
    let small = wide.fits-law op in
    let c : ℕ = wide_code op in
    let pair : ℕ = (d - 24) / 2 in
    let kind = bits_at w 9 7 0 0b1001011 (256 * c + 64 * (k / 16) + 16 * pair + k % 16) (omega arith) in
    let opAt = bits_at w 8 1 0b1001011 c (64 * (k / 16) + 16 * pair + k % 16) (omega arith) in
    let register = bits_at w 4 2 (8 * 0b1001011 + 4 * c + k / 16) pair (k % 16) (omega arith) in
    let high = bits_at w 6 2 (2 * 0b1001011 + c) (k / 16) (16 * pair + k % 16) (omega arith) in
    let low = bits_at w 0 4 (32 * 0b1001011 + 16 * c + 4 * (k / 16) + pair) (k % 16) 0 (omega arith) in
    let dAt : 24 + 2 * bits w 4 2 ≡ d = omega arith in
    let kAt : 16 * bits w 6 2 + bits w 0 4 ≡ k = omega arith in
    rw (kind, opAt, dAt, kAt, wide.back-law op)

movw_at : (w d r : ℕ) → d < 32 → d % 2 ≡ 0 → r < 32 → r % 2 ≡ 0 → w ≡ word_of (Movw d r) → movw_of w ≡ Some (Movw d r)
movw_at w d r hd dEven hr rEven e =
    let kind = bits_at w 8 8 0 0b00000001 (16 * (d / 2) + r / 2) (omega arith) in
    let dHalf = bits_at w 4 4 0b00000001 (d / 2) (r / 2) (omega arith) in
    let rHalf = bits_at w 0 4 (16 * 0b00000001 + d / 2) (r / 2) 0 (omega arith) in
    let dAt : 2 * bits w 4 4 ≡ d = omega arith in
    let r_at : 2 * bits w 0 4 ≡ r = omega arith in
    rw (kind, dAt, r_at)

unary_at : (w : ℕ) (op : UnaryOp) (d : ℕ) → d < 32 → w ≡ word_of (Unary op d) → unary_of w ≡ Some (Unary op d)
unary_at w op d hd e =
    let small = unary.fits-law op in
    let c : ℕ = unary_code op in
    let kind = bits_at w 9 7 0 0b1001010 (16 * d + c) (omega arith) in
    let dAt = bits_at w 4 5 0b1001010 d c (omega arith) in
    let opAt = bits_at w 0 4 (32 * 0b1001010 + d) c 0 (omega arith) in
    rw (kind, dAt, opAt, unary.back-law op)

-- a load where s is 0, and a store where it is 1
pointer_at : (w s : ℕ) (m : Mode) (d : ℕ) → s < 2 → d < 32 → in_pair (pair_written_back m) d ≡ false → w ≡ 0x9000 + 512 * s + 16 * d + mode_code m → pointers_of w ≡ Some (cond (eqb s 0) (Load m d) (Store m d))
pointer_at w s m d hs hd free e =
    let small = mode.fits-law m in
    let c : ℕ = mode_code m in
    let kind = bits_at w 10 6 0 0b100100 (512 * s + 16 * d + c) (omega arith) in
    let sAt = bits_at w 9 1 0b100100 s (16 * d + c) (omega arith) in
    let dAt = bits_at w 4 5 (2 * 0b100100 + s) d c (omega arith) in
    let modeAt = bits_at w 0 4 (64 * 0b100100 + 32 * s + d) c 0 (omega arith) in
    rw (kind, modeAt, mode.back-law m, dAt, sAt, free)

-- a displacement is put together again from its parts
gathered : (q : ℕ) → q < 64 → 32 * (q / 32) + 8 * (q / 8 % 4) + q % 8 ≡ q
gathered q hq = omega arith

at_displaced : (w s : ℕ) (b : Base) (q d : ℕ) → s < 2 → q < 64 → d < 32 → w ≡ 0x8000 + 512 * s + spread q + 16 * d + 8 * base_code b → displaced_of w ≡ Some (cond (eqb s 0) (LoadDisplaced b q d) (StoreDisplaced b q d))
at_displaced w s b q d hs hq hd e =
    let small = base.fits-law b in
    let c : ℕ = base_code b in
    let high : ℕ = q / 32 in
    let middle : ℕ = q / 8 % 4 in
    let low : ℕ = q % 8 in
    let kind = bits_at w 14 2 0 0b10 (8192 * high + 1024 * middle + 512 * s + 16 * d + 8 * c + low) (omega arith) in
    let clear = bits_at w 12 1 (2 * 0b10 + high) 0 (1024 * middle + 512 * s + 16 * d + 8 * c + low) (omega arith) in
    let highAt = bits_at w 13 1 0b10 high (1024 * middle + 512 * s + 16 * d + 8 * c + low) (omega arith) in
    let middleAt = bits_at w 10 2 (4 * 0b10 + 2 * high) middle (512 * s + 16 * d + 8 * c + low) (omega arith) in
    let lowAt = bits_at w 0 3 (2048 * 0b10 + 1024 * high + 128 * middle + 64 * s + 2 * d + c) low 0 (omega arith) in
    let sAt = bits_at w 9 1 (16 * 0b10 + 8 * high + middle) s (16 * d + 8 * c + low) (omega arith) in
    let dAt = bits_at w 4 5 (32 * 0b10 + 16 * high + 2 * middle + s) d (8 * c + low) (omega arith) in
    let base_at = bits_at w 3 1 (1024 * 0b10 + 512 * high + 64 * middle + 32 * s + d) c low (omega arith) in
    let qAt : displacement w ≡ q = rw (highAt, middleAt, lowAt) (gathered q hq) in
    rw (kind, clear, base_at, base.back-law b, qAt, dAt, sAt)

rjmp_at : (w : ℕ) (k : ℤ) → fits_field 2048 k ≡ true → w ≡ word_of (Rjmp k) → jump_of w ≡ Some (Rjmp k)
rjmp_at w k fits e =
    let there = placed 2048 k fits in
    let kind = bits_at w 12 4 0 0b1100 (unsigned 2048 k) (omega arith) in
    let kAt = bits_at w 0 12 0b1100 (unsigned 2048 k) 0 (omega arith) in
    rw (kind, kAt, there.back)

rcall_at : (w : ℕ) (k : ℤ) → fits_field 2048 k ≡ true → w ≡ word_of (Rcall k) → jump_of w ≡ Some (Rcall k)
rcall_at w k fits e =
    let there = placed 2048 k fits in
    let kind = bits_at w 12 4 0 0b1101 (unsigned 2048 k) (omega arith) in
    let kAt = bits_at w 0 12 0b1101 (unsigned 2048 k) 0 (omega arith) in
    rw (kind, kAt, there.back)

-- taken if the flag is set where n is 0, and if it is clear where n is 1
branch_at : (w n : ℕ) (f : Flag) (k : ℤ) → n < 2 → fits_field 64 k ≡ true → w ≡ 0xF000 + 1024 * n + 8 * unsigned 64 k + flag_code f → branch_of w ≡ Some (Branch f (eqb n 0) k)
branch_at w n f k hn fits e =
    let small = flag.fits-law f in
    let there = placed 64 k fits in
    let c : ℕ = flag_code f in
    let u : ℕ = unsigned 64 k in
    let kind = bits_at w 11 5 0 0b11110 (1024 * n + 8 * u + c) (omega arith) in
    let nAt = bits_at w 10 1 0b11110 n (8 * u + c) (omega arith) in
    let kAt = bits_at w 3 7 (2 * 0b11110 + n) u c (omega arith) in
    let flagAt = bits_at w 0 3 (256 * 0b11110 + 128 * n + u) c 0 (omega arith) in
    rw (kind, flagAt, flag.back-law f, nAt, kAt, there.back)

-- and so for every instruction whose operands fit
pub own : (i : Instruction) → encodable i ≡ true → Own i
own (Binary op d r) h =
    let small = binary.fits-law op in
    let hd : d < 32 = search rules in
    let hr : r < 32 = search rules in
    record { small = omega arith; reads = binary_at (word_of (Binary op d r)) op d r hd hr refl }
own (Immediate op d k) h =
    let small = immediate.fits-law op in
    let ld : 16 ≤ d = search rules in
    let hd : d < 32 = search rules in
    let hk : k < 256 = search rules in
    record { small = omega arith; reads = immediate_at (word_of (Immediate op d k)) op d k ld hd hk refl }
own (Wide op d k) h =
    let small = wide.fits-law op in
    let ld : 24 ≤ d = search rules in
    let hd : d < 32 = search rules in
    let even : d % 2 ≡ 0 = search rules in
    let hk : k < 64 = search rules in
    record { small = omega arith; reads = wide_at (word_of (Wide op d k)) op d k ld hd even hk refl }
own (Movw d r) h =
    let hd : d < 32 = search rules in
    let dEven : d % 2 ≡ 0 = search rules in
    let hr : r < 32 = search rules in
    let rEven : r % 2 ≡ 0 = search rules in
    record { small = omega arith; reads = movw_at (word_of (Movw d r)) d r hd dEven hr rEven refl }
own (Unary op d) h =
    let small = unary.fits-law op in
    let hd : d < 32 = search rules in
    record { small = omega arith; reads = unary_at (word_of (Unary op d)) op d hd refl }
own (Load m d) h =
    let small = mode.fits-law m in
    let hd : d < 32 = search rules in
    let free : in_pair (pair_written_back m) d ≡ false = search rules in
    record { small = omega arith; reads = pointer_at (word_of (Load m d)) 0 m d (lit< tt) hd free (omega arith) }
own (Store m r) h =
    let small = mode.fits-law m in
    let hr : r < 32 = search rules in
    let free : in_pair (pair_written_back m) r ≡ false = search rules in
    record { small = omega arith; reads = pointer_at (word_of (Store m r)) 1 m r (lit< tt) hr free (omega arith) }
own (LoadDisplaced b q d) h =
    let small = base.fits-law b in
    let hq : q < 64 = search rules in
    let hd : d < 32 = search rules in
    record { small = omega arith; reads = at_displaced (word_of (LoadDisplaced b q d)) 0 b q d (lit< tt) hq hd (omega arith) }
own (StoreDisplaced b q r) h =
    let small = base.fits-law b in
    let hq : q < 64 = search rules in
    let hr : r < 32 = search rules in
    record { small = omega arith; reads = at_displaced (word_of (StoreDisplaced b q r)) 1 b q r (lit< tt) hq hr (omega arith) }
own (Rjmp k) h =
    let there = placed 2048 k h in
    record { small = omega arith; reads = rjmp_at (word_of (Rjmp k)) k h refl }
own (Rcall k) h =
    let there = placed 2048 k h in
    record { small = omega arith; reads = rcall_at (word_of (Rcall k)) k h refl }
own (Branch f true k) h =
    let there = placed 64 k h in
    let small = flag.fits-law f in
    record { small = omega arith; reads = branch_at (word_of (Branch f true k)) 0 f k (lit< tt) h (omega arith) }
own (Branch f false k) h =
    let there = placed 64 k h in
    let small = flag.fits-law f in
    record { small = omega arith; reads = branch_at (word_of (Branch f false k)) 1 f k (lit< tt) h (omega arith) }
own Ret h = record { small = lit< tt; reads = refl }
own Clc h = record { small = lit< tt; reads = refl }
own Nop h = record { small = lit< tt; reads = refl }
