-- The remainder by digits of 16 bits, with no table: what `fold_digit` works out is linear (`DigitFold`), and right at each power of x.
-- Assumes nothing.
use mathlib.Core.Path.{◌≡◌, refl, sym, ap, ap₂, ◌∙◌}
use mathlib.Core.Bool.{Bool}
use mathlib.Core.List.{List, []}
use Prim.Native.Nat.{ℕ, ◌+◌, ◌*◌, ◌/◌, ◌%◌, ◌^◌, ◌<◌, zero-le}
use lib.Arith.{digits_lt}
use lib.Bits.{bit_xor, xor_shr, xor_mod}
use lib.Dec.{T, eqb, eqb→eq}
use lib.ListN.{length, get_or}
use lib.Pow.{high, low}
use Rattle.bits.specs.definitions.Bits.{tabulate}
use Rattle.bits.specs.definitions.Words.{word_at}
use Rattle.bits.proofs.Sums.{sums_linear}
use Rattle.bits.proofs.Table.{each, range_rule}
use Rattle.bits.proofs.Tabulate.{is_tabulate}
use Rattle.bch.specs.definitions.Code.{step_of, feed_of, remainder}
use Rattle.bch.specs.private.Folded.{FoldedWords}
use Rattle.bch.specs.private.Digits.{of_digits}
use Rattle.bch.proofs.DigitFold.{digit_fold}
use Rattle.bch.proofs.Remainder.{feed_append, remainder_own, remainder_xor, remainder_zero}

-- ---- a digit below a remainder

-- a remainder and a digit as one number of 32 bits: at each power of x what is worked out is the remainder
abbrev digit_folded : ℕ → ℕ
digit_folded w = digit_fold.of (w / 2 ^ 16) (w % 2 ^ 16)

power_ok : ℕ → Bool
power_ok i = eqb (remainder 32 (2 ^ i)) (digit_folded (2 ^ i))

power_test : T (each power_ok 32 0)
unfolding power_ok feed_of step_of
power_test = tt

folded_power : (i : ℕ) → i < 32 → remainder 32 (2 ^ i) ≡ digit_folded (2 ^ i)
unfolding power_ok
folded_power i h = eqb→eq (remainder 32 (2 ^ i)) (digit_folded (2 ^ i)) (range_rule power_ok 32 0 power_test i zero-le h)

folded_xor : (x y : ℕ) → digit_folded (bit_xor x y) ≡ bit_xor (digit_folded x) (digit_folded y)
folded_xor x y = ap₂ digit_fold.of (xor_shr x y 16) (xor_mod x y 16) ∙ digit_fold.keeps (x / 2 ^ 16) (y / 2 ^ 16) (x % 2 ^ 16) (y % 2 ^ 16)

-- so at every number
folded_remainder : (w : ℕ) → w < 2 ^ 32 → digit_folded w ≡ remainder 32 w
folded_remainder w h =
    let f : ℕ → ℕ = λ i. remainder 32 (2 ^ i) in
    sym (sums_linear 32 f digit_folded refl (λ x y l m. folded_xor x y) folded_power w h)
    ∙ sums_linear 32 f (remainder 32) (remainder_zero 32) (λ x y l m. remainder_xor 32 x y) (λ i l. refl) w h

-- a digit below the remainder of a number: that of the number with one digit more
digit_more : (n v d : ℕ) {r x : ℕ} → r ≡ remainder n v → d < 65536 → x ≡ feed_of r 16 d → x ≡ remainder (n + 16) (v * 65536 + d)
digit_more n v d e h q = q ∙ ap (λ (r : ℕ). feed_of r 16 d) e ∙ feed_append 0 n 16 v d h

-- so what `fold_digit` works out is right
pub fold_digit_law : (r d : ℕ) → r < 65536 → d < 65536 → digit_fold.of r d ≡ feed_of r 16 d
fold_digit_law r d hr hd =
    ap₂ digit_fold.of (sym (high r 16 hd)) (sym (low r 16 hd)) ∙ folded_remainder (r * 2 ^ 16 + d) (digits_lt hr hd)
    ∙ sym (digit_more 16 r d (sym (remainder_own r hr)) hd refl)

-- and four digits
pub fold_digits_law : (d : List ℕ) {r s t : ℕ} → ((i : ℕ) → get_or d i 0 < 65536) → r ≡ feed_of (get_or d 3 0) 16 (get_or d 2 0)
    → s ≡ feed_of r 16 (get_or d 1 0) → t ≡ feed_of s 16 (get_or d 0 0) → t ≡ remainder 64 (of_digits d)
fold_digits_law d h er es et =
    let a : ℕ = get_or d 3 0 in
    let b : ℕ = get_or d 2 0 in
    let c : ℕ = get_or d 1 0 in
    digit_more 48 ((a * 65536 + b) * 65536 + c) (get_or d 0 0)
    (digit_more 32 (a * 65536 + b) c (digit_more 16 a b (sym (remainder_own a (h 3))) (h 2) er) (h 1) es) (h 0) et

-- the remainders of folded words, from their digits
pub remainders_law : (words : List ℕ) (digits : List (List ℕ)) {folds out : List ℕ} → FoldedWords 64 words folds
    → ((i : ℕ) → i < 384 → of_digits (get_or digits i []) ≡ get_or folds i 0)
    → length out ≡ 384 → ((i : ℕ) → i < 384 → get_or out i 0 ≡ remainder 64 (of_digits (get_or digits i [])))
    → out ≡ tabulate 384 (λ i. remainder 126 (word_at words i))
remainders_law words digits {folds} {out} F D long R =
    is_tabulate 0 out 384 (λ i. remainder 126 (word_at words i)) long (λ i h. R i h ∙ ap (remainder 64) (D i h) ∙ F.fold i h)
