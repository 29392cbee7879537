-- Rules of numbers in turn, and of the list of these numbers.
use Rattle.std.proofs.Common.{◌≡◌, ℕ, zero, suc, ◌+◌, List, [], ◌∷◌, ◌++◌, refl, sym, arith}
use Rattle.std.specs.List.{range_with_len}
use Rattle.verdicts.specs.Verdict.{Verdict, fine, refused, and_then, first, first_of}
use Rattle.verdicts.proofs.Firsts.{first_of-nil, first_of-cons, first_of-append}
use Rattle.secrecy.specs.Rows.{place_columns}

one_more : (a n : ℕ) → range_with_len a (n + 1) ≡ range_with_len a n ++ (a + n) ∷ []
one_more a zero = grind arith
one_more a (suc n) = grind (arith, one_more (a + 1) n)

then_fine : (v : Verdict) → and_then v fine ≡ v
then_fine fine = refl
then_fine (refused r) = refl

ranged : (f : ℕ → Verdict) (n : ℕ) → first f n ≡ first_of f (range_with_len 0 n)
unfolding first
ranged f zero = sym (first_of-nil f)
ranged f (suc n) = grind (arith, ranged f n, one_more 0 n, first_of-append f (range_with_len 0 n) (n ∷ []), first_of-cons f n [], first_of-nil f, then_fine (f n))

-- the rules of all places, one after another
pub in_turn : (f : ℕ → Verdict) → first f 35 ≡ first_of f place_columns
unfolding place_columns
in_turn f = ranged f 35
