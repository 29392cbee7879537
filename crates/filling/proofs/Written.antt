-- Levels after a word: the row's own, with those of the places that it writes set one by one.
use Rattle.std.proofs.Common.{◌≡◌, ℕ, ◌+◌, ◌*◌, ◌<◌, ◌≤◌, Bool, true, false, cond, ◌||◌, ◌==◌, List, [], ◌∷◌, take, drop, set, get_or, length, is_some, refl, ap, sym, ◌∙◌, arith, get_or-set_other}
use Rattle.std.proofs.lemmas.Bool.Decides.{nat_tests}
use Rattle.std.proofs.lemmas.Grind.{get_or-set_at, take_at_read}
use Rattle.std.proofs.lemmas.List.{take_all, get_or-take, get_or-drop}
use Rattle.levels.specs.Order.{Meaning}
use Rattle.avr.specs.Table.{Row, lookup, places_of, rows_of as table_of, written_of}
use Rattle.avr.specs.Chip.{instruction_of, avr}
use Rattle.secrecy.specs.Rows.{Rows, rows_of, columns, is_among}
use Rattle.filling.proofs.Sets.{place_small, among_at}
use Rattle.secrecy.specs.Flow.{joined, level_after}
use Rattle.judge.proofs.Placed.{placed}
use Rattle.secrecy.proofs.Columns.{among-nil, among-cons, among-append}

-- the rows of the table that write a place are those that are of it
among_rows : (rs : List Row) (p : ℕ) → is_some (lookup p rs) ≡ is_among (places_of rs) p
among_rows [] p = grind (arith, among-nil p)
among_rows (r ∷ rs) p = grind (arith, nat_tests, among-cons r.place (places_of rs) p, among_rows rs p)

-- what an instruction writes are places
pub small : (ws : List ℕ) (a k : ℕ) → k < length (written_of (instruction_of ws a)) → get_or (written_of (instruction_of ws a)) k 0 < 35
small ws a k l =
    let p = get_or (written_of (instruction_of ws a)) k 0 in
    let w = among_rows (table_of (instruction_of ws a)) p in
    let h = among_at (written_of (instruction_of ws a)) k l in
    let other = placed ws a p in
    let s = place_small p in
    grind (arith, nat_tests)

-- the places of a row are its first numbers
pub copied : (n : ℕ) (rows : List ℕ) (a start k p : ℕ) → a ≤ n → start ≡ a → k ≡ 35 → p < 35 → get_or (take k (drop (start * columns) rows)) p 0 ≡ (rows_of n rows).level a p
copied n rows a start k p la e q l =
    let t = get_or-take 35 (drop (a * columns) rows) p 0 l in
    let d = get_or-drop (a * columns) rows p 0 in
    let s = place_small p in
    rw (e, q) (grind (arith, nat_tests))

set_at : (levels : List ℕ) (w v p : ℕ) → w < length levels → get_or (set levels w v) p 0 ≡ cond (w == p) v (get_or levels p 0)
set_at levels w v p l = grind (arith, nat_tests, get_or-set_at, get_or-set_other)

mixed : (f g : ℕ → ℕ) (t : Bool) (w p : ℕ) → cond (w == p) (f w) (cond t (f p) (g p)) ≡ cond (t || w == p) (f p) (g p)
mixed f g t w p = grind (arith, nat_tests)

among_more : (ks : List ℕ) (k p : ℕ) → k < length ks → is_among (take (k + 1) ks) p ≡ (is_among (take k ks) p || get_or ks k 0 == p)
among_more ks k p l = let e = take_at_read ks k 0 l in grind (arith, nat_tests, among-append (take k ks) (get_or ks k 0 ∷ []) p, among-cons (get_or ks k 0) [] p, among-nil p)

module _ (m : Meaning) (ws : List ℕ) (R : Rows) (a : ℕ) where
  abbrev writes : List ℕ
  writes = written_of (instruction_of ws a)

  -- levels of which those of the first written places are set
  pub record SetUpTo (levels : List ℕ) (k : ℕ) : Type 0 where
    pub each : (p : ℕ) → p < 35 → get_or levels p 0 ≡ cond (is_among (take k writes) p) (level_after m (avr ws) R a p) (R.level a p)

  pub set_next : (levels : List ℕ) (k : ℕ) → length levels ≡ 35 → k < length writes → SetUpTo levels k → SetUpTo (set levels (get_or writes k 0) (level_after m (avr ws) R a (get_or writes k 0))) (k + 1)
  set_next levels k long l s = record {
    each = λ p h.
        let w = get_or writes k 0 in
        let t = is_among (take k writes) p in
        let f : ℕ → ℕ = λ q. level_after m (avr ws) R a q in
        set_at levels w (f w) p (let c = small ws a k l in omega arith)
        ∙ (ap (λ (v : ℕ). cond (w == p) (f w) v) (s.each p h)
        ∙ (mixed f (R.level a) t w p ∙ ap (λ (b : Bool). cond b (f p) (R.level a p)) (sym (among_more writes k p l))));
  }

  -- none is set yet
  pub set_none : (levels : List ℕ) → ((p : ℕ) → p < 35 → get_or levels p 0 ≡ R.level a p) → SetUpTo levels 0
  set_none levels h = record { each = λ p l. rw among-nil (h p l) }

  kept : (p : ℕ) → is_among writes p ≡ false → R.level a p ≡ level_after m (avr ws) R a p
  kept p e = ap (λ (t : Bool). cond t (joined m (R.region a) (R.level a) ((avr ws).sources a p)) (R.level a p)) (sym e ∙ sym (among_rows (table_of (instruction_of ws a)) p))

  set_by : (v : ℕ) (p : ℕ) (t : Bool) → is_among writes p ≡ t → v ≡ cond t (level_after m (avr ws) R a p) (R.level a p) → v ≡ level_after m (avr ws) R a p
  set_by v p true e q = q
  set_by v p false e q = q ∙ kept p e

  -- and then all are
  pub set_all : (levels : List ℕ) (k : ℕ) → length writes ≤ k → SetUpTo levels k → (p : ℕ) → p < 35 → get_or levels p 0 ≡ level_after m (avr ws) R a p
  set_all levels k whole s p h = set_by _ p (is_among writes p) refl (rw (take_all k writes whole) at (s.each p h))
