-- Lists of rows: one bit set or cleared.
use Rattle.std.proofs.Common.{◌≡◌, ℕ, ◌+◌, ◌-◌, ◌*◌, ◌/◌, ◌%◌, ◌^◌, ◌<◌, ◌≤◌, false, not, ◌&&◌, ◌||◌, ◌==◌, List, length, set, get_or, replicate, w64, arith, get_or-set_other}
use Rattle.std.specs.Int.{trailing_zeros}
use Rattle.std.specs.Int.RustNames.{bit_or, bit_and}
use Rattle.std.proofs.lemmas.Bool.Decides.{nat_tests}
use Rattle.std.proofs.lemmas.Grind.{get_or-set_at}
use Rattle.std.proofs.lemmas.Nat.Bits.{bit_at_set_same, bit_at_set_other, bit_at_clear_same, bit_at_clear_other, bit_at-zero, bit_at-lt, bit_at_and, ones_shl, bit_at_mask_inside, bit_at_mask_below, bit_at-trailing_zeros}
use Rattle.std.proofs.lemmas.List.{get_or-replicate, get_or_past, length-replicate}
use Rattle.filling.specs.Worklists.{lists, BitsFrom, NoneFrom, FirstFrom}

module _ (blocks : List ℕ) (row : ℕ) (within : row / 64 < length blocks) where
  abbrev old : ℕ
  old = get_or blocks (row / 64) 0

  place : row % 64 < 64
  place = omega arith

  pub listed_add : (other : ℕ) → lists (set blocks (row / 64) (bit_or old (1 * 2 ^ (row % 64) % 18446744073709551616))) other ≡ (other == row || lists blocks other)
  listed_add other =
      let same = bit_at_set_same w64 old (row % 64) place in
      let others = bit_at_set_other w64 old (row % 64) place (other % 64) in
      grind (arith, nat_tests, get_or-set_at, get_or-set_other, same, others)

  pub listed_remove : (other : ℕ) → lists (set blocks (row / 64) (bit_and old (18446744073709551615 - 1 * 2 ^ (row % 64) % 18446744073709551616))) other ≡ (not (other == row) && lists blocks other)
  listed_remove other =
      let same = bit_at_clear_same w64 old (row % 64) place in
      let others = bit_at_clear_other w64 old (row % 64) place (other % 64) (omega arith) in
      grind (arith, nat_tests, get_or-set_at, get_or-set_other, same, others)

zeros_at : (n i : ℕ) → ◌≡◌ {A = ℕ} (get_or (replicate n 0) i 0) 0
zeros_at n i = grind (arith, get_or-replicate, get_or_past, length-replicate)

-- where every block is 0, nothing is listed
pub none_listed : (n row : ℕ) → lists (replicate n 0) row ≡ false
none_listed n row = grind (arith, nat_tests, zeros_at n (row / 64), bit_at-zero)

-- a block of which the low bits are cleared
pub cleared : (blocks : List ℕ) (block from : ℕ) → block ≡ from / 64 → BitsFrom blocks block from (bit_and (get_or blocks block 0) (18446744073709551615 * 2 ^ (from % 64) % 18446744073709551616))
cleared blocks block from q i h =
    let v = get_or blocks block 0 in
    let k = from % 64 in
    let small : k < 64 = omega arith in
    let e = ones_shl 64 k (omega arith) in
    let b = bit_at_and v (2 ^ 64 - 2 ^ k) i in
    let inside = bit_at_mask_inside k 64 i in
    let below = bit_at_mask_below k 64 i in
    let two = bit_at-lt v i in
    rw e (grind (arith, nat_tests, b, inside, below, two))

module _ (blocks : List ℕ) (from block r : ℕ) (bits : BitsFrom blocks block from r) (before : NoneFrom blocks from (block * 64)) where
  -- where no bit of a block is left, no row in it is listed from there on
  pub none_in : r ≡ 0 → NoneFrom blocks from ((block + 1) * 64)
  none_in e row l h =
      let m = bits (row % 64) (omega arith) in
      let z = bit_at-zero (row % 64) in
      let b = before row l in
      let q : (block * 64 ≤ row) → (row / 64 ≡ block) × (block * 64 + row % 64 ≡ row) = λ k. (omega arith, omega arith) in
      grind (arith, nat_tests, m, z, b, q)

  -- and else its lowest bit is that of the first row
  pub found : block < 17 → 0 < r → r < 2 ^ 64 → FirstFrom blocks from (block * 64 + trailing_zeros w64 r)
  found s p q =
      let t = bit_at-trailing_zeros w64 r p q in
      let n = trailing_zeros w64 r in
      let m = bits n t.0 in
      let d : (block * 64 + n) / 64 ≡ block = omega (arith, t.0) in
      let e : (block * 64 + n) % 64 ≡ n = omega (arith, t.0) in
      record {
        onward = grind (arith, nat_tests, t.1, m);
        small = omega (arith, t.0);
        listed = grind (arith, nat_tests, t.1, m);
        before = λ row l h.
            let m' = bits (row % 64) (omega arith) in
            let z = t.2 (row % 64) in
            let b = before row l in
            let k : (block * 64 ≤ row) → (row / 64 ≡ block) × (block * 64 + row % 64 ≡ row) = λ k. (omega (arith, t.0), omega (arith, t.0)) in
            grind (arith, nat_tests, m', z, b, k);
      }
