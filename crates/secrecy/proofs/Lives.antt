-- Whole lives of couples.
use Rattle.std.proofs.Common.{◌≡◌, List, [], ◌∷◌, refl, arith}
use Rattle.machine.specs.Run.{State}
use Rattle.machine.specs.Calls.{Board, Done, does, does_at, fresh, fresh_state}
use Rattle.machine.specs.declared.phase.Phase.{Phase}
use Rattle.machine.specs.declared.phase.Phase.TheVariants as phase
use Rattle.secrecy.specs.Couples.{Both, runs, left, right, Allowed, AllAllowed, Same, SameAnswers}
use Rattle.secrecy.proofs.Setting.{Setting, Loaded, At}
use Rattle.secrecy.proofs.Running.{both_run}

module _ {B V W : Type 0} (S : Setting B V W) where
  open S use {m, M, sound, R, rules, observer}

  -- two boards that are alike
  pub record Alike (b c : Board B) : Type 0 where
    pub phase : b.phase ≡ c.phase
    pub how : At S b.phase b.state c.state

  -- after one call the answers are the same and the boards alike
  abbrev Kept : Both W → Done B → Done B → Type 0
  Kept k d e = Same m observer M R k d.answer e.answer × Alike d.board e.board

  fresh_at : Loaded S (fresh_state M) (fresh_state M)
  fresh_at = grind (arith, sound.well_formed_blank, rules.shapes 0)

  -- one call in each phase
  call : (k : Both W) (p : Phase) (s t : State B) → Allowed m observer M R k → At S p s t → Kept k (does_at M (left k) p s) (does_at M (right k) p t)
  call (runs l) phase.Loading s t ok h = grind (arith, both_run S l s t)
  call (runs l) phase.Running s t ok h = grind (arith, both_run S l s t h)
  call k p s t ok h = grind (arith, fresh_at)

  called : (k : Both W) (b c : Board B) → Allowed m observer M R k → Alike b c → Kept k (does M (left k) b) (does M (right k) c)
  called k b c ok h = rw (← h.phase) (call k b.phase b.state c.state ok h.how)

  lives : (ks : List (Both W)) (b c : Board B) → AllAllowed m observer M R ks → Alike b c → SameAnswers m observer M R ks b c
  lives [] b c ok h = tt
  lives (k ∷ ks) b c ok h = let r = called k b c ok.0 h in (r.0, lives ks _ _ ok.1 r.1)

  pub life : (ks : List (Both W)) → AllAllowed m observer M R ks → SameAnswers m observer M R ks (fresh M) (fresh M)
  life ks ok = lives ks (fresh M) (fresh M) ok (record { phase = refl; how = fresh_at })
