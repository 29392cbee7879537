-- The laws of numbers. Assumes nothing.
use Rattle.std.proofs.Common.{◌≡◌, ℕ, ◌^◌, ◌<◌, Bool, not, eqb, List, length, get_or, drop, Some, decimal, ap, ◌∙◌, ⊎_elim, arith}
use Rattle.std.specs.Bool.{then_some}
use Rattle.std.specs.Str.Parse.{AllDigits, IsNumeral, digits_value}
use Rattle.std.specs.Char.{digit_value}
use Rattle.std.specs.Fmt.{digits}
use Rattle.std.proofs.lemmas.Fmt.{decimal_is_IsNumeral, digits_is_IsNumeral}
use Rattle.std.proofs.ByRecursion.{All-weaker}
use Rattle.std.proofs.lemmas.List.{get_or_past}
use Rattle.std.proofs.lemmas.Str.Parse.{digit_at}
use Rattle.std.proofs.lemmas.Bool.{cond-true, and_from, and_right, or_from, not_from_false, lt-ltb, ne_eqb, cases_lt}
use Rattle.text.specs.declared.numbers.Base.{Base}
use Rattle.text.specs.declared.numbers.Base.TheVariants.{Decimal, Hexadecimal}
use Rattle.text.specs.Kinds.{radix, is_digit_of}
use Rattle.text.specs.Numbers.{is_numeral, numeral, numeral_of, number_of}
use Rattle.text.specs.Laws.{NumbersStand}
use Rattle.text.proofs.Fronts.{whole_all}

numeral_is : (base : Base) (ds : List ℕ) (n : ℕ) → IsNumeral (radix base) ds → digits_value (radix base) ds ≡ n → numeral base ds ≡ Some n
numeral_is base ds n h e =
    cond-true (is_numeral base ds) _ _
    (and_from (not (eqb (length ds) 0)) _ (not_from_false _ (ne_eqb (length ds) 0 (λ z. omega (arith, h.0)))) (whole_all (is_digit_of base) ds (All-weaker (λ d. digit_value d < radix base) _ (λ d. lt-ltb (digit_value d) (radix base)) ds h.1)))
    ∙ ap (λ m. Some m) e

-- decimal digits hold no `x`
second : (ds : List ℕ) → AllDigits 10 ds → get_or ds 1 0 < 58
second ds h =
    ⊎_elim (λ l. omega (arith, digit_at ds 1 h l)) (λ l. omega (arith, get_or_past ds 1 0 l)) (cases_lt 1 (length ds))

decimals : (n : ℕ) → n < 2 ^ 64 → number_of (decimal n) ≡ Some n
decimals n h =
    let r = decimal_is_IsNumeral n h in
    let x = get_or (decimal n) 1 0 in
    let low = second (decimal n) r.0.1 in
    let plain = and_right (eqb (get_or (decimal n) 0 0) 48) _ (or_from (eqb x 120) (eqb x 88) (ne_eqb x 120 (λ e. omega arith)) (ne_eqb x 88 (λ e. omega arith))) in
    ap (λ t. numeral_of (then_some t (drop 2 (decimal n))) (decimal n)) plain ∙ numeral_is Decimal (decimal n) n r.0 r.1

hexadecimal : (upper : Bool) (n : ℕ) → n < 2 ^ 64 → numeral Hexadecimal (digits 16 upper n) ≡ Some n
hexadecimal upper n h = let r = digits_is_IsNumeral 16 upper (omega arith) (omega arith) n (omega arith) in numeral_is Hexadecimal (digits 16 upper n) n r.0 r.1

pub numbers_law : NumbersStand
numbers_law = record { decimals = decimals; hexadecimals = λ n upper h. (hexadecimal upper n h, hexadecimal upper n h) }
