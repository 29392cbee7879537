-- The rules at work, on small routines under an order of two levels. Assumes nothing.
use Rattle.std.specs.Prelude.{◌≡◌, ℕ, true, false, cond, ◌&&◌, List, [], ◌∷◌, ◌++◌, length, replicate, ◌==◌, nat_le, nat_lt, slice_index_or, slice_set}
use Rattle.verdicts.specs.Verdict.{Verdict, fine, refused, refusal}
use Rattle.levels.specs.Order.{Meaning}
use Rattle.machine.specs.Machine.{Machine, Kind, plain, forks, calls, rets}
use Rattle.secrecy.specs.Rows.{place_columns, is_among, is_place}
use Rattle.secrecy.specs.Rules.{rules_of}

-- level 0 is open and level 1 is secret
abbrev pub two : Meaning
two = record { held = λ a. nat_lt a 2; flows = λ a b. nat_le a b && nat_lt b 2; join = λ a b. cond (nat_le a b) b a }

-- words by where they lead and what they write, all of it from register 16; what they do to values is left out, since no rule
-- looks at it
abbrev pub toy : List Kind → (ℕ → List ℕ) → Machine (ℕ → ℕ) ℕ ℕ
toy kinds written =
    record {
      size = length kinds;
      kind = λ a. slice_index_or kinds a (rets 4);
      writes = λ a. is_among (written a);
      sources = λ a p. 16 ∷ [];
      effect = λ a x. x;
      decides = λ a x. false;
      holds = λ x p. x p;
      blank = λ p. 0;
      well_formed = λ x. true;
      place = λ w. w;
      valid = is_place;
      put = λ w n x. x;
      get = λ w x. x w;
    }

-- a row: the secret places, then region level, join address, remaining cycles and function
abbrev pub secret_at : List ℕ → List ℕ
secret_at [] = replicate (length place_columns) 0
secret_at (p ∷ ps) = slice_set (secret_at ps) p 1

-- a row of this kind
abbrev pub row : List ℕ → ℕ → ℕ → ℕ → ℕ → List ℕ
row secrets region join_address remaining function = secret_at secrets ++ (region ∷ (join_address ∷ (remaining ∷ (function ∷ []))))

-- Two arms of two cycles: a comparison sets the flags from register 16, then Z decides whether the third word is passed over.
abbrev pub arms : (ℕ → List ℕ) → Machine (ℕ → ℕ) ℕ ℕ
arms written = toy (plain 1 1 ∷ (forks (33 ∷ []) 2 1 3 2 ∷ (plain 3 1 ∷ (rets 4 ∷ [])))) written

-- the first word writes both flags, the others nothing
abbrev pub compares : ℕ → List ℕ
compares a = cond (a == 0) (32 ∷ (33 ∷ [])) []

-- and the same where the third word writes register 18
abbrev pub compares_and_writes : ℕ → List ℕ
compares_and_writes a = cond (a == 2) (18 ∷ []) (compares a)

-- secret are register 16 and both flags
abbrev pub flags : List ℕ
flags = 16 ∷ (32 ∷ (33 ∷ []))

-- the rows of the arms, where the row of the fork is still to be given
abbrev pub arm_rows : List ℕ → List ℕ
arm_rows fork = row (16 ∷ []) 0 0 0 0 ++ (fork ++ (row flags 1 3 1 0 ++ (row flags 0 0 0 0 ++ row flags 0 0 0 0)))

-- a fork both of whose ways lead to the next word, in 1 and in 2 cycles
abbrev pub uneven : Machine (ℕ → ℕ) ℕ ℕ
uneven = toy (plain 1 1 ∷ (forks (33 ∷ []) 2 1 2 2 ∷ (rets 4 ∷ []))) compares

-- the rows of it, where the cycles of the region and what is secret after it are still to be given
abbrev pub uneven_rows : ℕ → List ℕ → List ℕ
uneven_rows remaining after = row (16 ∷ []) 0 0 0 0 ++ (row flags 0 2 remaining 0 ++ (row after 0 0 0 0 ++ row flags 0 0 0 0))

-- a return alone
abbrev pub alone : Machine (ℕ → ℕ) ℕ ℕ
alone = toy (rets 4 ∷ []) (λ a. [])

-- register 16 decides between two ways to a return
abbrev pub choice : Machine (ℕ → ℕ) ℕ ℕ
choice = toy (forks (16 ∷ []) 1 1 1 2 ∷ (rets 4 ∷ [])) (λ a. [])

-- a function at 3, called twice, that writes register 0
abbrev pub twice : Machine (ℕ → ℕ) ℕ ℕ
twice = toy (calls 3 3 ∷ (calls 3 3 ∷ (rets 4 ∷ (plain 4 1 ∷ (rets 4 ∷ []))))) (λ a. cond (a == 3) (0 ∷ []) [])

-- the rows of the two calls, where what is secret after the second call is still to be given
abbrev pub twice_rows : List ℕ → List ℕ
twice_rows after =
    row (16 ∷ []) 0 0 0 0 ++ (row (0 ∷ (16 ∷ [])) 0 0 0 0 ++ (row after 0 0 0 0
    ++ (row (0 ∷ (16 ∷ [])) 0 0 0 3 ++ (row (0 ∷ (16 ∷ [])) 0 0 0 3 ++ row (0 ∷ (16 ∷ [])) 0 0 0 0))))

-- the verdict on some rows under two levels
abbrev pub judged : Machine (ℕ → ℕ) ℕ ℕ → List ℕ → Verdict
judged M rows = rules_of two M rows

-- a routine for each refusal, and some for the order of the rules
pub record Examples : Type 0 where
  pub accepted : judged (arms compares) (arm_rows (row flags 0 3 2 0)) ≡ fine
  -- a number is missing
  pub short : judged (arms compares) (row flags 0 0 0 0) ≡ refused (refusal 3 [])
  -- a region level that the order does not hold
  pub unheld : judged (arms compares) (arm_rows (row flags 2 3 2 0)) ≡ refused (refusal 4 (1 ∷ (35 ∷ [])))
  -- a join address outside every region
  pub stray : judged (arms compares) (arm_rows (row flags 0 3 0 0)) ≡ refused (refusal 5 (1 ∷ []))
  -- the fork in a function of its own
  pub elsewhere : judged (arms compares) (arm_rows (row flags 0 3 2 1)) ≡ refused (refusal 6 (0 ∷ []))
  -- a return inside a region
  pub within : judged alone (row [] 0 0 4 0 ++ row [] 0 0 0 0) ≡ refused (refusal 7 (0 ∷ []))
  -- the secret decides outside every region
  pub openly : judged (arms compares) (arm_rows (row flags 0 0 0 0)) ≡ refused (refusal 8 (1 ∷ []))
  -- one way takes longer than the other, whichever the rows count
  pub late : judged uneven (uneven_rows 2 flags) ≡ refused (refusal 9 (1 ∷ (2 ∷ [])))
  pub early : judged uneven (uneven_rows 1 flags) ≡ refused (refusal 9 (1 ∷ (2 ∷ [])))
  -- register 18 tells which way was taken
  pub telling : judged (arms compares_and_writes) (arm_rows (row flags 0 3 2 0)) ≡ refused (refusal 10 (2 ∷ (3 ∷ (18 ∷ []))))
  -- a return is held to the words after both calls
  pub returned : judged twice (twice_rows (0 ∷ (16 ∷ []))) ≡ fine
  pub forgotten : judged twice (twice_rows (16 ∷ [])) ≡ refused (refusal 10 (4 ∷ (2 ∷ (0 ∷ []))))
  -- row by row: the shape of row 0 comes before a code in row 1
  pub row_by_row : judged alone (row [] 0 5 0 0 ++ row [] 2 0 0 0) ≡ refused (refusal 5 (0 ∷ []))
  -- address by address: the decision at 0 comes before the return inside a region at 1
  pub address_by_address : judged choice (row (16 ∷ []) 0 0 0 0 ++ (row (16 ∷ []) 0 0 4 0 ++ row (16 ∷ []) 0 0 0 0)) ≡ refused (refusal 8 (0 ∷ []))
  -- edge by edge: a level on the first edge comes before the time of the second
  pub edge_by_edge : judged uneven (uneven_rows 1 (16 ∷ (33 ∷ []))) ≡ refused (refusal 10 (1 ∷ (2 ∷ (32 ∷ []))))
