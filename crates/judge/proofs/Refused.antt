-- Where the judgement refuses, everything is as the refusal says.
use Rattle.std.proofs.Common.{◌≡◌, ℕ, ◌≤◌, Bool, true, false, ◌&&◌, nat_le, List, [], ◌∷◌, length, is_some, slice_index, ⊎_elim, refl, subst, arith}
use Rattle.std.proofs.lemmas.Bool.Decides.{nat_tests}
use Rattle.verdicts.specs.Verdict.{Refusal, refused, refusal, fine, rule, first}
use Rattle.verdicts.proofs.Firsts.{and_fine, then-on, then_stop, then_broken, rule_met, rule_broken, first_stop, first_named, first_each, each_first}
use Rattle.words.specs.Decode.{decode_of}
use Rattle.words.specs.Legal.{Decodes, decodes_at, length_of, legal_of}
use Rattle.levels.specs.Order.{Meaning}
use Rattle.avr.specs.Chip.{avr}
use Rattle.secrecy.specs.Rules.{rules_of}
use Rattle.secrecy.proofs.Refused.{refused_by as rows_refused_by, broken_rule}
use Rattle.judge.specs.Judgement.{judgement_of}
use Rattle.judge.specs.Refused.{Sized, RefusedBy, unsized, undecodable, of_rows}

sized_by : (n : ℕ) → (nat_le 1 n && nat_le n 1024) ≡ true → (1 ≤ n) × (n ≤ 1024)
sized_by n e = grind (arith, nat_tests)

unsized_by : (n : ℕ) → (nat_le 1 n && nat_le n 1024) ≡ false → (1 ≤ n) × (n ≤ 1024) → ⊥
unsized_by n e h = grind (arith, nat_tests)

size_by : (n : ℕ) → (1 ≤ n) × (n ≤ 1024) → (nat_le 1 n && nat_le n 1024) ≡ true
size_by n h = grind (arith, nat_tests)

unsized_rule : {P : Type 0} (t : Bool) → (t ≡ true → P) → (P → ⊥) → rule t 1 [] ≡ refused (refusal 1 [])
unsized_rule true given wrong = absurd (wrong (given refl))
unsized_rule false given wrong = refl

kept : (t : Bool) (n : ℕ) (vs : List ℕ) → rule t n vs ≡ fine → t ≡ true
kept t n vs e = grind arith

module _ (m : Meaning) (ws rows : List ℕ) where
  decoded : (k : ℕ) → decodes_at ws k ≡ fine → is_some (decode_of (slice_index ws k)) ≡ true
  decoded k e = kept _ 2 (k ∷ []) e

  of_words : (r : Refusal) → legal_of ws ≡ refused r → RefusedBy m ws rows r
  of_words r e =
      ⊎_elim
      (λ h. let broken = rule_broken _ 1 [] r h in subst (RefusedBy m ws rows) broken.1 (unsized (unsized_by (length ws) broken.0)))
      (λ h. let b = first_named (decodes_at ws) (length ws) r h.1 in
      let broken = rule_broken _ 2 (b.0 ∷ []) r b.2 in
      subst (RefusedBy m ws rows) broken.1 (undecodable b.0 (sized_by (length ws) (kept _ 1 [] h.0)) b.1 (λ k l. decoded k (b.3 k l)) broken.0))
      (then_broken (length_of ws) (first (decodes_at ws) (length ws)) r e)

  pub refused_by : (r : Refusal) → judgement_of m ws rows ≡ refused r → RefusedBy m ws rows r
  refused_by r e =
      ⊎_elim
      (of_words r)
      (λ h. let both = and_fine (length_of ws) (first (decodes_at ws) (length ws)) h.0 in
      of_rows r (sized_by (length ws) (kept _ 1 [] both.0), λ k l. decoded k (first_each (decodes_at ws) (length ws) both.1 k l)) ((rows_refused_by m (avr ws) rows r).0 h.1))
      (then_broken (legal_of ws) (rules_of m (avr ws) rows) r e)

  listed : Sized ws → Decodes ws → legal_of ws ≡ fine
  listed sized decodes = then-on (length_of ws) _ _ (rule_met _ 1 [] (size_by (length ws) sized)) (each_first (decodes_at ws) (length ws) (λ k less. rule_met _ 2 _ (decodes k less)))

  -- and back: what a refusal says makes the judgement refuse by it
  pub refuses_by : (r : Refusal) → RefusedBy m ws rows r → judgement_of m ws rows ≡ refused r
  refuses_by r (unsized wrong) = then_stop (legal_of ws) _ _ (then_stop (length_of ws) _ _ (unsized_rule (nat_le 1 (length ws) && nat_le (length ws) 1024) (sized_by (length ws)) wrong))
  refuses_by r (undecodable at sized l before wrong) =
      then_stop (legal_of ws) _ _ (then-on (length_of ws) _ _ (rule_met _ 1 [] (size_by (length ws) sized))
      (first_stop (decodes_at ws) at (length ws) _ (each_first (decodes_at ws) at (λ k less. rule_met _ 2 _ (before k less))) (broken_rule _ 2 _ wrong) l))
  refuses_by r (of_rows r' words names) = then-on (legal_of ws) _ _ (listed words.0 words.1) ((rows_refused_by m (avr ws) rows r').1 names)
