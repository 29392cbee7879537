-- Tables: levels whose joins are written out. Assumes nothing.
use Rattle.std.specs.Prelude.{◌≡◌, ℕ, zero, suc, ◌+◌, ◌*◌, ◌≤◌, Bool, true, ◌&&◌, List, [], length, ◌==◌, nat_lt, slice_index}
use Rattle.verdicts.specs.Verdict.{Verdict, and_then, rule}
use Rattle.levels.specs.declared.table.square.Square.{Square}
use Rattle.levels.specs.Order.{Meaning}
use Rattle.levels.specs.Joins.{by_join}
use Rattle.levels.specs.Faults.{sized}

-- the join of a and b in the bytes of a table of n levels: row a, column b
abbrev pub join_in : List ℕ → ℕ → ℕ → ℕ → ℕ
join_in bytes n a b = slice_index bytes (a * n + b)

-- the joins that the bytes of a square say
abbrev pub joins_of : Square → ℕ → ℕ → ℕ
joins_of s = join_in s.bytes.now s.levels

-- what a square is made of: how many levels, and the bytes
abbrev pub read_off : Square → ℕ × List ℕ
read_off s = (s.levels, s.bytes.now)

-- the order that the bytes of n levels stand for
abbrev pub table : ℕ → List ℕ → Meaning
table n bytes = by_join n (join_in bytes n)

-- the size is in range, and the bytes are n rows of n
pub record Fits (n : ℕ) (bytes : List ℕ) : Type 0 where
  pub some : 1 ≤ n
  pub few : n ≤ 16
  pub square : length bytes ≡ n * n

-- f of each number below n
unfoldable pub every : (ℕ → Bool) → ℕ → Bool
every f zero = true
every f (suc n) = every f n && f n

-- The test that decides the laws, for a join j of the codes below n: 0 is its unit, and repeating, exchanging or regrouping
-- codes changes nothing. Joins of this kind, and no others, give an order that keeps the laws.
abbrev pub regroups : (ℕ → ℕ → ℕ) → ℕ → ℕ → ℕ → Bool
regroups j a b c = j (j a b) c == j a (j b c)

-- a and b join to a code, the same in either order, and regroup with every third
abbrev pub exchanges : ℕ → (ℕ → ℕ → ℕ) → ℕ → ℕ → Bool
exchanges n j a b = nat_lt (j a b) n && (j a b == j b a && every (regroups j a b) n)

-- 0 joined with a is a, a with itself is a, and a may be exchanged with every code
abbrev pub repeats : ℕ → (ℕ → ℕ → ℕ) → ℕ → Bool
repeats n j a = j 0 a == a && (j a a == a && every (exchanges n j a) n)

-- and so for every code
abbrev pub semilattice : ℕ → (ℕ → ℕ → ℕ) → Bool
semilattice n j = every (repeats n j) n

-- what is found of the sizes: n is in range, and the bytes are n rows of n
abbrev pub squared : ℕ → List ℕ → Verdict
squared n bytes = and_then (sized 16 n) (rule (length bytes == n * n) 14 [])

-- what filling a table finds: first the sizes, then the laws
abbrev pub filling : ℕ → List ℕ → Verdict
filling n bytes = and_then (squared n bytes) (rule (semilattice n (join_in bytes n)) 15 [])
