-- A distance that fits comes back from its field.
use Rattle.std.proofs.Common.{◌≡◌, ℕ, ◌-◌, ◌*◌, ◌<◌, true, ℤ, pos, negsuc, arith}
use Rattle.std.proofs.lemmas.Bool.{ltb-true}
use Rattle.words.specs.Fields.{signed, unsigned, fits_field}

-- the field of k is one of 2 * half many, and stands for k
pub record Placed (half : ℕ) (k : ℤ) : Type 0 where
  pub small : unsigned half k < 2 * half
  pub back : signed half (unsigned half k) ≡ k

pub placed : (half : ℕ) (k : ℤ) → fits_field half k ≡ true → Placed half k
placed half (pos n) h = record { small = grind arith; back = grind arith }
placed half (negsuc n) h =
    let again : 2 * half - 1 - (2 * half - 1 - n) ≡ n = omega (arith, ltb-true n half h) in
    record { small = grind arith; back = grind (arith, again) }
