-- The shuffle undone, as specs/statements/Shuffle states it; and a row of words rotated by 20 places a lane is shuffled, by 90 it is shuffled back.
-- Assumes nothing.
use mathlib.Core.Path.{◌≡◌, sym, ap, ◌∙◌}
use mathlib.Core.Bool.{cond}
use mathlib.Core.List.{List}
use Prim.Native.Nat.{ℕ, ◌+◌, ◌-◌, ◌*◌, ◌%◌, ◌^◌, ◌<◌}
use native.Mathlib.Decide.{dec_lt}
use native.Mathlib.Omega.{arith}
use lib.Dec.{ltb}
use borrow.Author.Tests.{lt-ltb, le-ltb}
use Rattle.bits.specs.definitions.Bits.{number, bit_of}
use Rattle.bits.specs.definitions.Words.{word_at, row_of}
use Rattle.bits.proofs.Value.{value_cong, value_lt, bit_lt, bit_number, number_bits}
use lib.ListN.{get_or}
use Rattle.bits.proofs.Words.{word_lt, row_at_lem, row_cong}
use Rattle.shuffle.specs.definitions.Shuffle.{place, unplace, shuffled, unshuffled}
use Rattle.shuffle.specs.statements.Shuffle.{PlacesBack, TakenOnce, ShuffleBack}
use Rattle.shuffle.specs.private.Rotation.{rotated_from, rotated, rotated_row}

-- n places on round the 110 of the information; the parity's places stay
abbrev on_by : ℕ → ℕ → ℕ
on_by n q = cond (ltb q 110) ((q + n) % 110) q

-- m places on and n places on make whole turns
on_back : (m n q : ℕ) → (m + n) % 110 ≡ 0 → on_by n (on_by m q) ≡ q
on_back m n q e = go (dec_lt q 110)
  where
    go : Dec (q < 110) → on_by n (on_by m q) ≡ q
    go (yes h) = rw (lt-ltb q 110 h, lt-ltb ((q + m) % 110) 110 (omega arith)) (omega arith)
    go (no h) = rw (le-ltb q 110 (omega arith), le-ltb q 110 (omega arith))

on_lt : (n q : ℕ) → q < 126 → on_by n q < 126
on_lt n q h = go (dec_lt q 110)
  where
    go : Dec (q < 110) → on_by n q < 126
    go (yes l) = rw (lt-ltb q 110 l) (omega arith)
    go (no l) = rw (le-ltb q 110 (omega arith)) h

pub unplace_place : (p q : ℕ) → unplace p (place p q) ≡ q
unfolding place unplace
unplace_place p q = on_back (20 * p) (90 * p) q (omega arith)

pub place_unplace : (p r : ℕ) → place p (unplace p r) ≡ r
unfolding place unplace
place_unplace p r = on_back (90 * p) (20 * p) r (omega arith)

pub place_lt : (p q : ℕ) → q < 126 → place p q < 126
unfolding place
place_lt p q h = on_lt (20 * p) q h

pub unplace_lt : (p r : ℕ) → r < 126 → unplace p r < 126
unfolding unplace
unplace_lt p r h = on_lt (90 * p) r h

pub places_back : PlacesBack
places_back p q = (unplace_place p q, place_unplace p q)

pub taken_once : TakenOnce
taken_once p = (place_lt p, λ r h. (unplace p r, unplace_lt p r h, place_unplace p r, λ u e. sym (unplace_place p u) ∙ ap (unplace p) e))

-- a row whose bits come from elsewhere
abbrev moved : (ℕ → ℕ → ℕ) → List ℕ → List ℕ
moved from s = row_of 384 (λ i. number 126 (λ r. bit_of 126 (word_at s i) (from (i % 32) r)))

-- and come back
moved_back : (from back : ℕ → ℕ → ℕ) → ((p r : ℕ) → r < 126 → back p r < 126) → ((p r : ℕ) → from p (back p r) ≡ r)
    → (s : List ℕ) → ((j : ℕ) → get_or s j 0 < 2 ^ 64) → moved back (moved from s) ≡ row_of 384 (word_at s)
unfolding word_at
moved_back from back lt e s h = row_cong 384 _ _ word
  where
    bits : ℕ → ℕ → ℕ
    bits i r = bit_of 126 (word_at s i) (from (i % 32) r)

    bits_lt : (i r : ℕ) → r < 126 → bits i r < 2
    bits_lt i r _ = bit_lt 126 (word_at s i) (from (i % 32) r)

    word : (i : ℕ) → i < 384 → number 126 (λ r. bit_of 126 (word_at (moved from s) i) (back (i % 32) r)) ≡ word_at s i
    word i l =
        value_cong 2 126 _ _ (λ r b.
        ap (λ (w : ℕ). bit_of 126 w (back (i % 32) r)) (row_at_lem 384 (λ i. number 126 (bits i)) i l (value_lt 2 126 (bits i) (bits_lt i)))
        ∙ bit_number 126 (bits i) (bits_lt i) (back (i % 32) r) (lt (i % 32) r b)
        ∙ ap (bit_of 126 (word_at s i)) (e (i % 32) r))
        ∙ number_bits 126 (word_at s i) (word_lt (get_or s (2 * i) 0) (get_or s (2 * i + 1) 0) (h (2 * i + 1)))

pub shuffle_back : ShuffleBack
unfolding shuffled unshuffled
shuffle_back s h = (moved_back unplace place place_lt unplace_place s h, moved_back place unplace unplace_lt place_unplace s h)

-- rotated by m places, where m and n make whole turns of 110, the bit that comes to a place is n places on
from_on : (m n r : ℕ) → (m + n) % 110 ≡ 0 → rotated_from (m % 110) r ≡ on_by n r
unfolding rotated_from
from_on m n r e = go (dec_lt r 110)
  where
    go : Dec (r < 110) → on_by (110 - m % 110) r ≡ on_by n r
    go (yes h) = rw (lt-ltb r 110 h) (omega arith)
    go (no h) = rw (le-ltb r 110 (omega arith))

-- a row whose words are rotated, by where each bit comes from
row_from : (m : ℕ) (from : ℕ → ℕ → ℕ) (s : List ℕ) → ((p r : ℕ) → rotated_from (m * p % 110) r ≡ from p r)
    → rotated_row m s ≡ moved from s
unfolding rotated_row rotated
row_from m from s h = row_cong 384 _ _ (λ i _. value_cong 2 126 _ _ (λ r _. ap (bit_of 126 (word_at s i)) (h (i % 32) r)))

pub shuffled_is : (s : List ℕ) → rotated_row 20 s ≡ shuffled s
unfolding shuffled unplace
shuffled_is s = row_from 20 _ s (λ p r. from_on (20 * p) (90 * p) r (omega arith))

pub unshuffled_is : (s : List ℕ) → rotated_row 90 s ≡ unshuffled s
unfolding unshuffled place
unshuffled_is s = row_from 90 _ s (λ p r. from_on (90 * p) (20 * p) r (omega arith))
