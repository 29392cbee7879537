-- Bitwise or is the join of a semilattice. Assumes nothing.
use Rattle.std.specs.Prelude.{◌≡◌, ℕ, zero, suc, ◌/◌, ◌%◌, ◌^◌, ◌<◌, ◌≤◌, bit_or, refl}
use Rattle.std.proofs.Common.{arith, pow_pos}
use Rattle.std.proofs.lemmas.Nat.{or_shr, or_mod, or_lt, or_comm}
use Rattle.std.specs.Int.Bits.{or_self}
use Rattle.levels.specs.Order.{Laws}
use Rattle.levels.specs.Compartments.{compartments}
use Rattle.levels.specs.Semilattices.{Semilattice, semilattice_laws}

digit_assoc : (x y z : ℕ) → x < 2 → y < 2 → z < 2 → bit_or (bit_or x y) z ≡ bit_or x (bit_or y z)
digit_assoc zero y z hx hy hz = refl
digit_assoc (suc zero) zero z hx hy hz = refl
digit_assoc (suc zero) (suc zero) zero hx hy hz = refl
digit_assoc (suc zero) (suc zero) (suc zero) hx hy hz = refl
digit_assoc (suc zero) (suc zero) (suc (suc z)) hx hy hz = absurd (omega arith)
digit_assoc (suc zero) (suc (suc y)) z hx hy hz = absurd (omega arith)
digit_assoc (suc (suc x)) y z hx hy hz = absurd (omega arith)

by_digits : (m n : ℕ) → m / 2 ≡ n / 2 → m % 2 ≡ n % 2 → m ≡ n
by_digits m n p q = omega arith

-- digit by digit, the first number falling below k
assoc_by : (k a b c : ℕ) → a ≤ k → bit_or (bit_or a b) c ≡ bit_or a (bit_or b c)
assoc_by k zero b c h = refl
assoc_by zero (suc a) b c h = absurd (omega arith)
assoc_by (suc k) (suc a) b c h =
    let n : ℕ = suc a in
    let ih = assoc_by k (n / 2) (b / 2) (c / 2) (omega arith) in
    let x : n % 2 < 2 = omega arith in
    let y : b % 2 < 2 = omega arith in
    let z : c % 2 < 2 = omega arith in
    let d = digit_assoc (n % 2) (b % 2) (c % 2) x y z in
    by_digits (bit_or (bit_or n b) c) (bit_or n (bit_or b c))
    (cc (or_shr (bit_or n b) c 1, or_shr n b 1, or_shr n (bit_or b c) 1, or_shr b c 1))
    (cc (or_mod (bit_or n b) c 1, or_mod n b 1, or_mod n (bit_or b c) 1, or_mod b c 1))

or_assoc : (a b c : ℕ) → bit_or (bit_or a b) c ≡ bit_or a (bit_or b c)
or_assoc a b c = assoc_by a a b c (omega arith)

unions : (n : ℕ) → Semilattice (2 ^ n) bit_or
unions n = record {
  some = pow_pos n;
  closed = or_lt n;
  small = λ a b x y. or_lt 8 a b;
  unit = λ a x. refl;
  idempotent = λ a x. or_self a;
  commutative = λ a b x y. or_comm a b;
  associative = λ a b c x y z. or_assoc a b c;
}

-- compartments keep the laws
pub union_laws : (n : ℕ) → Laws (compartments n)
union_laws n = semilattice_laws (2 ^ n) bit_or (unions n)
