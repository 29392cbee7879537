-- The whole life of a couple, from the making of its boards on. Assumes nothing.
use Rattle.std.specs.Prelude.{◌≡◌, ℕ, true, cond, List, map, length, Ok, Err, Result, nat_le}
use Rattle.verdicts.specs.Verdict.{Verdict, Refusal, fine, refused, and_then}
use Rattle.levels.specs.Order.{Meaning, Laws}
use Rattle.machine.specs.Calls as calls
use Rattle.machine.specs.Calls.{fresh, answers_to, board_after}
use Rattle.avr.specs.declared.location.Location.{Location}
use Rattle.machine.specs.declared.call.Call.{Call}
use Rattle.avr.specs.Chip.{avr}
use Rattle.secrecy.specs.Rows.{rows_of}
use Rattle.secrecy.specs.Couples.{Both, left, right, AllAllowed, SameEach}
use Rattle.judge.specs.Judgement.{judgement_of}
use Rattle.board.specs.Faults.{making_of, making_refusal}
use Rattle.couples.specs.declared.answers.Answers.{Answers}
use Rattle.couples.specs.declared.fault.LifeFault.{LifeFault}
use Rattle.couples.specs.declared.fault.LifeFault.TheVariants.{Room, Making}
use Rattle.couples.specs.Answers.{answer_of}
use Rattle.board.specs.declared.simulation.Board.{Board}
use Rattle.board.specs.States.{board_of, words_of}
use Rattle.couples.specs.declared.working.Couple.{Couple}
use Rattle.couples.specs.Calls.{both_of}

-- whether a couple lives: all calls are worked, or nothing is done, since there is less room than calls have answers, or since the
-- boards cannot be made
pub data LifeVerdict : Type 0 where
  lives : LifeVerdict
  no_room : LifeVerdict
  unmade : Refusal → LifeVerdict

-- what a check of a making says of the life
abbrev pub life_if : Verdict → LifeVerdict
life_if fine = lives
life_if (refused r) = unmade r

-- on these words and these two memories, for so many calls, with room for so many answers
abbrev pub life_of : List ℕ → List ℕ → List ℕ → ℕ → ℕ → LifeVerdict
life_of ws l r n room = cond (nat_le n room) (life_if (and_then (making_of ws l) (making_of ws r))) no_room

-- what the call's answer says
abbrev pub life_says : Result (Unit {0}) LifeFault → LifeVerdict
life_says (Ok x) = lives
life_says (Err Room) = no_room
life_says (Err (Making f)) = unmade (making_refusal f)

-- the calls on both boards of which the secrecy theorem speaks
abbrev pub both_calls : List (Call Location) → List (Both Location)
both_calls calls = map both_of calls

-- what the left board answered, call by call
abbrev pub left_answers : List Answers → List calls.Answer
left_answers given = map (λ a. answer_of a.left) given

-- and the right one
abbrev pub right_answers : List Answers → List calls.Answer
right_answers given = map (λ a. answer_of a.right) given

-- One board works some calls: it goes from b to c, and gives the answers.
pub record Works (ws : List ℕ) (ks : List (calls.Call Location)) (b c : Board) (given : List calls.Answer) : Type 0 where
  pub answers : given ≡ answers_to (avr ws) ks (board_of b)
  pub board : board_of c ≡ board_after (avr ws) ks (board_of b)

-- a couple works some calls, each board its side of them
pub record WorkedAll (calls : List (Call Location)) (b c : Couple) (given : List Answers) : Type 0 where
  pub left_side : Works (words_of b.left) (map left (both_calls calls)) b.left c.left (left_answers given)
  pub right_side : Works (words_of b.right) (map right (both_calls calls)) b.right c.right (right_answers given)

-- Two boards, made anew on some words, lived through some calls: each gave the answers to its side of them.
pub record Lived (ws : List ℕ) (calls : List (Call Location)) (given : List Answers) : Type 0 where
  pub left_side : left_answers given ≡ answers_to (avr ws) (map left (both_calls calls)) (fresh (avr ws))
  pub right_side : right_answers given ≡ answers_to (avr ws) (map right (both_calls calls)) (fresh (avr ws))

-- Noninterference, of answers that two boards gave. Whatever the order of levels, if only it keeps the laws, and whatever the rows,
-- if only the judgement accepts them with the words: to an observer of any level that is held, the answers of the two boards are the
-- same where the calls differ only in secrets. A secret is a byte put where the first row hides the place. The one exception is a
-- byte that is read where the finish row hides the place.
abbrev pub Noninterference : List ℕ → List (Call Location) → List Answers → Type 0
Noninterference ws calls given =
    (m : Meaning) → Laws m → (rows : List ℕ) → judgement_of m ws rows ≡ fine → (observer : ℕ) → m.held observer ≡ true →
    AllAllowed m observer (avr ws) (rows_of (length ws) rows) (both_calls calls) →
    SameEach m observer (avr ws) (rows_of (length ws) rows) (both_calls calls) (left_answers given) (right_answers given)
