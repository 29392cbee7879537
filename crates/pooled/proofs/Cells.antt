-- The numbers of a pool.
use Rattle.std.proofs.Common.{◌≡◌, ℕ, ◌+◌, ◌*◌, ◌%◌, ◌<◌, ◌≤◌, cond, nat_lt, List, length, get_or, ◌∙◌, arith}
use Rattle.std.proofs.lemmas.Bool.Decides.{nat_tests}
use Rattle.std.proofs.lemmas.List.FromFn.{length-map-range_with_len, get_or-map-range_with_len}
use Rattle.levels.specs.Order.{Meaning, Laws}
use Rattle.secrecy.specs.Rows.{rows_of, cell, columns}
use Rattle.secrecy.specs.Filling.{SameGiven}
use Rattle.pooled.specs.Pools.{pooled_at, pool_of}
use Rattle.pooled.proofs.Joined.{Joined, zero_join}
use Rattle.pooled.proofs.Sets.{place_small, level_small}

module _ (m : Meaning) (xs ys : List ℕ) where
  pub pool_length : length (pool_of m xs ys) ≡ length xs
  unfolding pool_of
  pool_length = length-map-range_with_len (pooled_at m xs ys) 0 (length xs)

  pub pool_at : (i : ℕ) → i < length xs → get_or (pool_of m xs ys) i 0 ≡ pooled_at m xs ys i
  unfolding pool_of
  pool_at i l = get_or-map-range_with_len (pooled_at m xs ys) 0 (length xs) i i 0 l (omega arith)

  module _ (laws : Laws m) (n : ℕ) (whole : length xs ≡ (n + 1) * columns) where
    in_row : (a c : ℕ) → a ≤ n → c < columns → get_or (pool_of m xs ys) (a * columns + c) 0 ≡ cond (nat_lt c 36) (m.join (get_or xs (a * columns + c) 0) (get_or ys (a * columns + c) 0)) (get_or xs (a * columns + c) 0)
    in_row a c l h =
        let e : (a * columns + c) % columns ≡ c = omega arith in
        grind (arith, nat_tests, pool_at (a * columns + c) (rw whole (omega arith)), level_small c)

    -- a level is joined
    pub pool_level : (a c : ℕ) → c < 36 → cell n (pool_of m xs ys) a c ≡ m.join (cell n xs a c) (cell n ys a c)
    pool_level a c l = grind (arith, nat_tests, in_row a c, zero_join m laws)

    -- and any other number is that of the first set
    pub pool_given : (a c : ℕ) → 36 ≤ c → c < columns → cell n (pool_of m xs ys) a c ≡ cell n xs a c
    pool_given a c l h = grind (arith, nat_tests, in_row a c)

    pub pool_joined : SameGiven (rows_of n xs) (rows_of n ys) → Joined m (rows_of n xs) (rows_of n ys) (rows_of n (pool_of m xs ys))
    pool_joined same =
        let j = λ (a : ℕ). pool_given a 36 (omega arith) (omega arith) in
        let r = λ (a : ℕ). pool_given a 37 (omega arith) (omega arith) in
        let f = λ (a : ℕ). pool_given a 38 (omega arith) (omega arith) in
        record {
          first = record { join_address = j; remaining = r; function = f };
          second = record { join_address = λ a. j a ∙ same.join_address a; remaining = λ a. r a ∙ same.remaining a; function = λ a. f a ∙ same.function a };
          levels = λ a p. grind (arith, nat_tests, place_small p, pool_level a p, zero_join m laws);
          regions = λ a. pool_level a 35 (omega arith);
        }
