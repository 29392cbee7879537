-- Two boards worked by the same calls, which differ in secrets only. Assumes nothing.
use Rattle.std.specs.Prelude.{◌≡◌, ℕ, true, false, ◌⊎◌, List, [], ◌∷◌, map}
use Rattle.levels.specs.Order.{Meaning}
use Rattle.machine.specs.Machine.{Machine}
use Rattle.machine.specs.Calls.{Board, Call, clear, run, read, put, Answer, done, refused, ends, byte, answers_to}
use Rattle.secrecy.specs.Rows.{Rows}

-- one call on both boards: a run has one limit and a read one place, and a put has one place and a byte for each board
pub data Both (W : Type 0) : Type 0 where
  clears : Both W
  runs : ℕ → Both W
  reads : W → Both W
  puts : W → ℕ → ℕ → Both W

-- the call on the one board, and on the other
abbrev pub left : {W : Type 0} → Both W → Call W
left clears = clear
left (runs limit) = run limit
left (reads w) = read w
left (puts w x y) = put w x

-- on the other
abbrev pub right : {W : Type 0} → Both W → Call W
right clears = clear
right (runs limit) = run limit
right (reads w) = read w
right (puts w x y) = put w y

-- an answer, but for the byte in it
abbrev pub blind : Answer → Answer
blind done = done
blind (refused r) = refused r
blind (ends e) = ends e
blind (byte n) = byte 0

module _ {B V W : Type 0} (m : Meaning) (observer : ℕ) (M : Machine B V W) (R : Rows) where
  -- a place is hidden in a row from an observer to whose level its own does not flow, and else visible
  abbrev pub Hidden : ℕ → ℕ → Type 0
  Hidden row p = m.flows (R.level row p) observer ≡ false

  abbrev pub Visible : ℕ → ℕ → Type 0
  Visible row p = m.flows (R.level row p) observer ≡ true

  -- a put gives both boards one byte, or each its own, a secret, where row 0 hides the place
  abbrev pub Allowed : Both W → Type 0
  Allowed clears = Unit {0}
  Allowed (runs limit) = Unit {0}
  Allowed (reads w) = Unit {0}
  Allowed (puts w x y) = (x ≡ y) ⊎ Hidden 0 (M.place w)

  abbrev pub AllAllowed : List (Both W) → Type 0
  AllAllowed [] = Unit {0}
  AllAllowed (k ∷ ks) = Allowed k × AllAllowed ks

  -- two answers are the same, but for bytes read from a place that is hidden in the finish row
  abbrev pub Same : Both W → Answer → Answer → Type 0
  Same clears a b = a ≡ b
  Same (runs limit) a b = a ≡ b
  Same (reads w) a b = (blind a ≡ blind b) × (Visible M.size (M.place w) → a ≡ b)
  Same (puts w x y) a b = a ≡ b

  -- two lists of answers to some calls are the same, call by call
  abbrev pub SameEach : List (Both W) → List Answer → List Answer → Type 0
  SameEach [] [] [] = Unit {0}
  SameEach (k ∷ ks) (a ∷ xs) (b ∷ ys) = Same k a b × SameEach ks xs ys
  SameEach ks xs ys = ⊥

  -- two boards give the same answers to one call after another
  abbrev pub SameAnswers : List (Both W) → Board B → Board B → Type 0
  SameAnswers ks b c = SameEach ks (answers_to M (map left ks) b) (answers_to M (map right ks) c)
