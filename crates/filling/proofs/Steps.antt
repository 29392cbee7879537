-- One raise after another.
use Rattle.std.proofs.Common.{◌≡◌, ℕ, ◌<◌, Bool, true, false, ◌||◌, ◌==◌, List, length, get_or, refl, arith, ◌∙◌}
use Rattle.std.proofs.lemmas.Bool.Decides.{nat_tests}
use Rattle.levels.specs.Order.{Meaning, Laws}
use Rattle.avr.specs.Chip.{avr}
use Rattle.secrecy.specs.Rows.{rows_of, cell}
use Rattle.secrecy.specs.Filling.{Below, AllHeld}
use Rattle.filling.specs.Worklists.{lists}
use Rattle.filling.specs.Between.{PlacesFlow, RegionFlows, SettledTo, Raised, SameRow, RaisesRow, RaisesListed}
use Rattle.filling.proofs.Sets.{place_small}

pub raised_then : (rank : ℕ → ℕ) (xs ys zs : List ℕ) (f g : Bool) → Raised rank xs ys f → Raised rank ys zs g → Raised rank xs zs (f || g)
raised_then rank xs ys zs true true h k = record { more = λ e. let a = h.more refl in let b = k.more refl in omega arith; unchanged = λ e. absurd (cc) }
raised_then rank xs ys zs true false h k = record { more = λ e. rw (k.unchanged refl) (h.more refl); unchanged = λ e. absurd (cc) }
raised_then rank xs ys zs false true h k = record { more = λ e. rw (← h.unchanged refl) (k.more refl); unchanged = λ e. absurd (cc) }
raised_then rank xs ys zs false false h k = record { more = λ e. absurd (cc); unchanged = λ e. k.unchanged refl ∙ h.unchanged refl }

not_raised : (rank : ℕ → ℕ) (xs : List ℕ) → Raised rank xs xs false
not_raised rank xs = record { more = λ e. absurd (cc); unchanged = λ e. refl }

-- both of two flags
pub neither : (f g : Bool) → (f || g) ≡ false → (f ≡ false) × (g ≡ false)
neither f g e = grind (arith, nat_tests)

module _ (n : ℕ) where
  same_then : (xs ys zs : List ℕ) (a : ℕ) → SameRow n xs ys a → SameRow n ys zs a → SameRow n xs zs a
  same_then xs ys zs a h k = record { levels = λ p. k.levels p ∙ h.levels p; region = k.region ∙ h.region }

  pub same_row : (xs : List ℕ) (a : ℕ) → SameRow n xs xs a
  same_row xs a = record { levels = λ p. refl; region = refl }

module _ (m : Meaning) (laws : Laws m) where
  module _ (n : ℕ) where
    below_then : (xs ys zs : List ℕ) → Below m (rows_of n xs) (rows_of n ys) → Below m (rows_of n ys) (rows_of n zs) → Below m (rows_of n xs) (rows_of n zs)
    below_then xs ys zs h k a = record {
      levels = λ p. laws.transitive _ _ _ ((h a).levels p) ((k a).levels p);
      region = laws.transitive _ _ _ (h a).region (k a).region;
    }

    module _ (ws xs : List ℕ) (held : AllHeld m (avr ws) (rows_of n xs)) where
      below_itself : Below m (rows_of n xs) (rows_of n xs)
      below_itself a = record { levels = λ p. laws.reflexive _ (held.levels a p); region = laws.reflexive _ (held.regions a) }

      -- nothing is raised
      pub raises_none : (rank : ℕ → ℕ) (row : ℕ) → RaisesRow m rank n xs xs row false
      raises_none rank row = record { raised = not_raised rank xs; rises = below_itself; others = λ a apart. same_row n xs a }

      pub lists_none : (rank : ℕ → ℕ) (before : List ℕ) → RaisesListed m rank n xs xs before before false
      lists_none rank before = record { raised = not_raised rank xs; rises = below_itself; unlisted = λ a e. (e, same_row n xs a); same_list = λ e. refl }

    module _ (rank : ℕ → ℕ) (xs ys zs : List ℕ) (f g : Bool) where
      pub raises_then : (row : ℕ) → RaisesRow m rank n xs ys row f → RaisesRow m rank n ys zs row g → RaisesRow m rank n xs zs row (f || g)
      raises_then row h k = record {
        raised = raised_then rank xs ys zs f g h.raised k.raised;
        rises = below_then xs ys zs h.rises k.rises;
        others = λ a apart. same_then n xs ys zs a (h.others a apart) (k.others a apart);
      }

      pub lists_then : (before middle after : List ℕ) → RaisesListed m rank n xs ys before middle f → RaisesListed m rank n ys zs middle after g → RaisesListed m rank n xs zs before after (f || g)
      lists_then before middle after h k = record {
        raised = raised_then rank xs ys zs f g h.raised k.raised;
        rises = below_then xs ys zs h.rises k.rises;
        unlisted = λ a e. let l = k.unlisted a e in let o = h.unlisted a l.0 in (o.0, same_then n xs ys zs a o.1 l.1);
        same_list = λ e. let q = neither f g e in k.same_list q.1 ∙ h.same_list q.0;
      }

    -- a row is listed, if it is raised
    pub lists_raised : (rank : ℕ → ℕ) (xs ys : List ℕ) (row : ℕ) (before after : List ℕ) (flag : Bool) → flag ≡ true → RaisesRow m rank n xs ys row flag →
        ((other : ℕ) → lists after other ≡ (other == row || lists before other)) → RaisesListed m rank n xs ys before after flag
    lists_raised rank xs ys row before after flag t h added = record {
      raised = h.raised;
      rises = h.rises;
      unlisted = λ a e. let l = added a in let apart : a ≡ row → ⊥ = λ q. grind (arith, nat_tests) in ((grind (arith, nat_tests)), h.others a apart);
      same_list = λ e. absurd (cc);
    }

    pub lists_unraised : (rank : ℕ → ℕ) (xs ys : List ℕ) (row : ℕ) (before : List ℕ) (flag : Bool) → flag ≡ false → RaisesRow m rank n xs ys row flag → RaisesListed m rank n xs ys before before flag
    lists_unraised rank xs ys row before flag t h = record {
      raised = h.raised;
      rises = h.rises;
      unlisted = λ a e. (e, rw (h.raised.unchanged t) (same_row n xs a));
      same_list = λ e. refl;
    }

  -- what flows to a row flows to it still where levels only rise
  module _ (ws given ys zs : List ℕ) (rises : Below m (rows_of (length ws) ys) (rows_of (length ws) zs)) (b : ℕ) where
    pub flow_kept : (l p : ℕ) → p < 35 → m.flows l (cell (length ws) ys b p) ≡ true → m.flows l (cell (length ws) zs b p) ≡ true
    flow_kept l p small f = let r = (rises b).levels p in let s = place_small p in laws.transitive _ _ _ f (grind (arith, nat_tests))

    pub places_kept : (levels : List ℕ) → PlacesFlow m ws given ys b levels → PlacesFlow m ws given zs b levels
    places_kept levels h p l = flow_kept (get_or levels p 0) p l (h p l)

    region_kept : (inside : Bool) (known : ℕ) → RegionFlows m ws given ys inside b known → RegionFlows m ws given zs inside b known
    region_kept inside known h i k = laws.transitive _ _ _ (h i k) (rises b).region

    pub settled_kept : (levels : List ℕ) (inside : Bool) (known : ℕ) → SettledTo m ws given ys levels inside known b → SettledTo m ws given zs levels inside known b
    settled_kept levels inside known s = (places_kept levels s.0, region_kept inside known s.1)
