-- Calls on one side of a couple, one after another.
use Rattle.std.proofs.Common.{◌≡◌, ℕ, List, [], ◌∷◌, ◌++◌, ◌∙◌, sym, append_assoc}
use Rattle.machine.specs.Calls as calls
use Rattle.verdicts.proofs.Firsts.{and_fine}
use Rattle.machine.specs.Calls.{does, fresh, answers_to, board_after}
use Rattle.machine.specs.declared.call.Call.{Call}
use Rattle.avr.proofs.Sounds.{sound}
use Rattle.secrecy.proofs.Hidings.{hiding}
use Rattle.judge.proofs.Placed.{placed}
use Rattle.board.specs.declared.simulation.Board.{Board}
use Rattle.board.specs.States.{board_of, words_of}
use Rattle.couples.specs.declared.answers.Answers.{Answers}
use Rattle.couples.specs.Lives.{both_calls, Works, Lived, Noninterference}
use Rattle.avr.specs.declared.location.Location.{Location}
use Rattle.avr.specs.Core.{Core}
use Rattle.avr.specs.Chip.{avr}

-- of the calls ks on a board b some are worked, and gave answers: the board is at c, and the rest is still to be worked
pub record Side (ws : List ℕ) (ks rest : List (calls.Call Location)) (b c : calls.Board Core) (given : List calls.Answer) : Type 0 where
  pub answers : answers_to (avr ws) ks b ≡ given ++ answers_to (avr ws) rest c
  pub board : board_after (avr ws) ks b ≡ board_after (avr ws) rest c

-- one more call is worked
pub side_more : (ws vs : List ℕ) (ks rest : List (calls.Call Location)) (k : calls.Call Location) (b c c' : calls.Board Core) (given : List calls.Answer) (a : calls.Answer) → vs ≡ ws →
    record { board = c'; answer = a } ≡ does (avr vs) k c → Side ws ks (k ∷ rest) b c given → Side ws ks rest b c' (given ++ (a ∷ []))
side_more ws vs ks rest k b c c' given a e h s =
    let h' : record { board = c'; answer = a } ≡ does (avr ws) k c = rw e at h in
    record {
      answers = s.answers ∙ (rw (← h') (sym (append_assoc given (a ∷ []) (answers_to (avr ws) rest c'))));
      board = s.board ∙ (rw (← h'));
    }

-- a board that is made anew and works calls has lived through them
pub lived : (ws : List ℕ) (ks : List (calls.Call Location)) (b c : Board) (given : List calls.Answer) → board_of b ≡ fresh (avr ws) → words_of b ≡ ws →
    Works (words_of b) ks b c given → given ≡ answers_to (avr ws) ks (fresh (avr ws))
lived ws ks b c given new words w = rw (← words, ← new) w.answers

-- what the judge promises, of answers that two boards gave
pub hidden : (ws : List ℕ) (ks : List (Call Location)) (given : List Answers) → Lived ws ks given → Noninterference ws ks given
hidden ws ks given h m laws rows accepted observer held allowed =
    rw (h.left_side, h.right_side) ((hiding m laws (avr ws) (sound ws) (placed ws) rows (and_fine _ _ accepted).1).couples observer held (both_calls ks) allowed)
