-- Runs of two boards that are alike.
use Rattle.std.proofs.Common.{◌≡◌, ℕ, zero, suc, ◌-◌, ◌<◌, ◌⊎◌, sym, ◌∙◌, inl, inr, arith, ⊎_elim}
use Rattle.std.proofs.lemmas.Bool.{cases_Bool}
use Rattle.machine.specs.Run.{State, step, Runs, last, more, run_of}
use Rattle.machine.specs.declared.phase.Ending.{Ending}
use Rattle.machine.proofs.Runs.{chain}
use Rattle.secrecy.specs.Flow.{pc_level}
use Rattle.secrecy.proofs.Setting.{Setting, High, Good, LowEquivalent, Diverged, Near, Rest}
use Rattle.secrecy.proofs.Statics.{early, high_inside}
use Rattle.secrecy.proofs.Solo.{Along, Met, Waits, Arrives, solo}
use Rattle.secrecy.proofs.Pairs.{Together, pair}

module _ {B V W : Type 0} (S : Setting B V W) where
  open S use {m, M, sound, R, observer}

  -- two runs end alike
  abbrev EndAlike : State B → State B → Ending → Ending → Type 0
  EndAlike s t e f = (e ≡ f) × Rest S e s t

  -- runs that end alike, by how much of the limit is left
  abbrev Later : ℕ → ℕ → Type 0
  Later n limit = (u v s t : State B) (e f : Ending) → limit - u.count < n → Near S u v → Runs M limit u s e → Runs M limit v t f → EndAlike s t e f

  along_good : (s t : State B) → Good S s → Along S s t → Good S t
  along_good s t g h = grind arith

  met_good : (s t : State B) → Good S s → Met S s t → Good S t
  met_good s t g h = grind arith

  -- both wait
  waiting : (limit : ℕ) (u v s t : State B) (e f : Ending) → Good S u → Good S v → Diverged S u v → Waits S limit u s e → Waits S limit v t f → EndAlike s t e f
  waiting limit u v s t e f gu gv p wu wv =
      let near : Near S s t = record {
        left = along_good u s gu wu.0;
        right = along_good v t gv wv.0;
        how = inr (record {
          left = wu.0.high;
          right = wv.0.high;
          join_address = cc;
          when = cc;
          returns = cc;
          agree = λ q seen. let seen' = rw wu.0.join_address at seen in wu.0.keeps q seen' ∙ (p.agree q seen' ∙ sym (wv.0.keeps q (rw p.join_address at seen')));
        });
      } in
      (cc, rw wu.1 near)

  -- both come out, low-equivalent
  meeting : (limit : ℕ) (u v s t : State B) (e f : Ending) → Good S u → Good S v → Diverged S u v → (a : Arrives S limit u s e) (b : Arrives S limit v t f) → Near S a.0 b.0
  meeting limit u v s t e f gu gv p a b =
      record {
        left = met_good u a.0 gu a.1;
        right = met_good v b.0 gv b.1;
        how = inl (record {
          at = cc;
          returns = cc;
          count = cc;
          agree = λ q seen. let seen' = rw a.1.there at seen in a.1.keeps q seen' ∙ (p.agree q seen' ∙ sym (b.1.keeps q (rw p.join_address at seen')));
        });
      }

  -- one cannot wait where the other comes out, since both are to come out at one count
  apart : (n limit : ℕ) → Later n limit → (u v s t : State B) (e f : Ending) → limit - u.count < suc n → Good S u → Good S v → Diverged S u v →
      Waits S limit u s e ⊎ Arrives S limit u s e → Waits S limit v t f ⊎ Arrives S limit v t f → EndAlike s t e f
  apart n limit later u v s t e f h gu gv p (inl a) (inl b) = waiting limit u v s t e f gu gv p a b
  apart n limit later u v s t e f h gu gv p (inl a) (inr b) = absurd (omega (arith, b.1.when))
  apart n limit later u v s t e f h gu gv p (inr a) (inl b) = absurd (omega (arith, a.1.when))
  apart n limit later u v s t e f h gu gv p (inr a) (inr b) =
      let i = high_inside S u.at gu.listed p.left in
      later a.0 b.0 s t e f (omega (arith, a.1.when, a.2)) (meeting limit u v s t e f gu gv p a b) a.3 b.3

  diverged : (n limit : ℕ) → Later n limit → (u v s t : State B) (e f : Ending) → limit - u.count < suc n → Good S u → Good S v → Diverged S u v →
      Runs M limit u s e → Runs M limit v t f → EndAlike s t e f
  diverged n limit later u v s t e f h gu gv p r q =
      apart n limit later u v s t e f h gu gv p (solo S limit u s e r gu.listed p.left) (solo S limit v t f q gv.listed p.right)

  -- low-equivalent boards at a high word are diverged already
  diverges : (u v : State B) → Good S u → LowEquivalent S u.at u v → High S u.at → Diverged S u v
  diverges u v g i high = grind (arith, early S u.at g.listed high)

  together : (n limit : ℕ) → Later n limit → (u v s t : State B) (e f : Ending) → limit - u.count < suc n → Together S limit u.count (step M limit u) (step M limit v) →
      Runs M limit u s e → Runs M limit v t f → EndAlike s t e f
  together n limit later u v s t e f h k (last _ _ _ p) (last _ _ _ q) = rw (p, q) at k
  together n limit later u v s t e f h k (last _ _ _ p) (more _ v' _ _ q r) = absurd (rw (p, q) at k)
  together n limit later u v s t e f h k (more _ u' _ _ p r) (last _ _ _ q) = absurd (rw (p, q) at k)
  together n limit later u v s t e f h k (more _ u' _ _ p r) (more _ v' _ _ q r') =
      let k' = rw (p, q) at k in later u' v' s t e f (omega (arith, k'.0, k'.1)) k'.2 r r'

  low_equivalent : (n limit : ℕ) → Later n limit → (u v s t : State B) (e f : Ending) → limit - u.count < suc n → Good S u → Good S v → LowEquivalent S u.at u v →
      Runs M limit u s e → Runs M limit v t f → EndAlike s t e f
  low_equivalent n limit later u v s t e f h gu gv i r q =
      ⊎_elim
      (λ seen. together n limit later u v s t e f h (pair S limit u v gu gv i seen) r q)
      (λ high. diverged n limit later u v s t e f h gu gv (diverges u v gu i high) r q)
      (cases_Bool (m.flows (pc_level m M R u.at) observer))

  both : (n limit : ℕ) → Later n limit
  both zero limit u v s t e f h near r q = absurd (omega arith)
  both (suc n) limit u v s t e f h near r q =
      ⊎_elim
      (λ i. low_equivalent n limit (both n limit) u v s t e f h near.left near.right i r q)
      (λ p. diverged n limit (both n limit) u v s t e f h near.left near.right p r q)
      near.how

  -- runs of boards that are alike, with one limit, end alike
  pub both_run : (limit : ℕ) (u v : State B) → Near S u v → EndAlike (run_of M limit u).state (run_of M limit v).state (run_of M limit u).ending (run_of M limit v).ending
  both_run limit u v near =
      both (suc limit) limit u v _ _ _ _ (omega arith) near (chain M sound.positive limit u) (chain M sound.positive limit v)
