-- The largest of some numbers.
use Rattle.std.proofs.Common.{◌≡◌, ℕ, zero, suc, ◌<◌, ◌≤◌, max, List, length, get_or, ⊎_elim, refl, arith}
use Rattle.std.proofs.lemmas.Bool.{cases_lt}
use Rattle.std.proofs.lemmas.Bool.Decides.{nat_tests}
use Rattle.std.proofs.lemmas.List.Elements.{All-get_or, All-from_get_or}
use Rattle.joins.specs.Ends.{numbers}
use Rattle.joins.specs.Folds.{AllMembers, LeastAbove}
use Rattle.secrecy.specs.Rows.{Rows, rows_of}
use Rattle.pooling.specs.Largest.{LargestRemaining}

most_next : (f : ℕ → ℕ) (n i j k : ℕ) → k ≤ suc n → (k ≤ n → f k ≤ f i) → f i ≤ f j → f (suc n) ≤ f j → f k ≤ f j
most_next f n i j k b h l g = ⊎_elim (λ (q : k < suc n). let e = h (omega arith) in omega arith) (λ (q : suc n ≤ k). let e : k ≡ suc n = omega arith in rw e g) (cases_lt k (suc n))

-- of some numbers one is at least as large as all of them
most_of : (f : ℕ → ℕ) (n : ℕ) → (i : ℕ) × (i ≤ n) × ((k : ℕ) → k ≤ n → f k ≤ f i)
most_of f zero = (0, omega arith, λ k l. let e : k ≡ 0 = omega arith in rw e (omega arith))
most_of f (suc n) =
    let h = most_of f n in
    ⊎_elim
    (λ (l : f h.0 < f (suc n)). (suc n, omega arith, λ k b. most_next f n h.0 (suc n) k b (h.2 k) (omega arith) (omega arith)))
    (λ (l : f (suc n) ≤ f h.0). (h.0, (let e = h.1 in omega arith), λ k b. most_next f n h.0 h.0 k b (h.2 k) (omega arith) l))
    (cases_lt (f h.0) (f (suc n)))

all_members : (xs : List ℕ) → AllMembers numbers xs
all_members xs = λ k d l. refl

-- past the finish row nothing remains
pub past : (n : ℕ) (rows : List ℕ) (k : ℕ) → n < k → (rows_of n rows).remaining k ≡ 0
past n rows k l = grind (arith, nat_tests)

-- the least number above all numbers of a list, which are those that remain in rows, and else 0
pub largest_of : (n : ℕ) (R : Rows) (xs : List ℕ) (r : ℕ) → n < length xs → ((k : ℕ) → k < length xs → get_or xs k 0 ≡ R.remaining k) → ((k : ℕ) → n < k → R.remaining k ≡ 0) →
    (AllMembers numbers xs → LeastAbove numbers xs r) → LargestRemaining n R r
largest_of n R xs r l each past least =
    let m = least (all_members xs) in
    let most = most_of R.remaining n in
    let bound : (row : ℕ) → row ≤ n → R.remaining row ≤ r =
    λ row b. let e = All-get_or (λ x. max x r ≡ r) xs row 0 (omega arith) m.above in let f = each row (omega arith) in grind arith in
    let below : max r (R.remaining most.0) ≡ R.remaining most.0 =
    m.least (R.remaining most.0) refl (All-from_get_or (λ x. max x (R.remaining most.0) ≡ R.remaining most.0) xs 0 (λ i b. let f = each i b in grind (arith, most.2 i, past i))) in
    let up = bound most.0 most.1 in
    record { reached = (most.0, most.1, grind arith); bound = bound }
