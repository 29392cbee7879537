-- What a check says: it finds nothing if a fact holds, and only then.
use Rattle.std.proofs.Common.{◌≡◌, ℕ, ◌<◌, Bool, true, List, Decides, arith}
use Rattle.verdicts.specs.Verdict.{Verdict, fine, and_then, rule, first, first_of}
use Rattle.verdicts.proofs.Firsts.{first_each, each_first}
use Rattle.machine.specs.Machine.{Kind, calls}
use Rattle.secrecy.specs.Rows.{is_among}
use Rattle.secrecy.specs.Rules.{only_if, calls_to}
use Rattle.secrecy.proofs.Columns.{first_of_each, each_first_of}

-- a check finds nothing if and only if P
abbrev pub Says : Verdict → Type 0 → Type 0
Says v P = (v ≡ fine → P) × (P → v ≡ fine)

-- the same of a fact that says the same
pub says_like : {P Q : Type 0} (v : Verdict) → (P → Q) → (Q → P) → Says v P → Says v Q
says_like v f g h = grind arith

-- of one rule, by its test
pub says_rule : {P : Type 0} (t : Bool) (n : ℕ) (vs : List ℕ) → Decides t P → Says (rule t n vs) P
says_rule t n vs h = grind arith

-- of one check after another
pub says_then : {P Q : Type 0} (v w : Verdict) → Says v P → Says w Q → Says (and_then v w) (P × Q)
says_then v w h k = grind arith

-- of many checks in turn
pub says_first : (P : ℕ → Type 0) (f : ℕ → Verdict) (n : ℕ) → ((k : ℕ) → k < n → Says (f k) (P k)) → Says (first f n) ((k : ℕ) → k < n → P k)
says_first P f n h = (λ e k l. (h k l).0 (first_each f n e k l), λ p. each_first f n (λ k l. (h k l).1 (p k l)))

-- of a check of each number of a list
pub says_first_of : (P : ℕ → Type 0) (f : ℕ → Verdict) (ks : List ℕ) → ((n : ℕ) → Says (f n) (P n)) → Says (first_of f ks) ((n : ℕ) → is_among ks n ≡ true → P n)
says_first_of P f ks h = (λ e n l. (h n).0 (first_of_each f ks e n l), λ p. each_first_of f ks (λ n l. (h n).1 (p n l)))

-- of a check that is made only where a test holds
pub says_if : {P Q : Type 0} (t : Bool) (v : Verdict) → Decides t P → Says v Q → Says (only_if t v) (P → Q)
says_if t v h k = grind arith

-- of a check that is made only at calls of a function
pub says_calls : {Q : Type 0} (k : Kind) (f : ℕ) (v : Verdict) → Says v Q → Says (only_if (calls_to k f) v) ((c : ℕ) → k ≡ calls f c → Q)
says_calls k f v h = grind arith
