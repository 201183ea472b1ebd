-- Four groups of four symbols turned, one below the other: bits of two numbers chosen by a mask, and two such choices after one another.
-- Assumes nothing.
use mathlib.Core.Path.{◌≡◌, refl, sym, ap, ap₂, ◌∙◌}
use mathlib.Core.Bool.{cond}
use mathlib.Core.Logic.{◌⊎◌, inl, inr}
use mathlib.Core.List.{List, [], ◌∷◌}
use Prim.Native.Nat.{ℕ, zero, suc, ◌+◌, ◌*◌, ◌-◌, ◌/◌, ◌%◌, ◌^◌, ◌≤◌, ◌<◌, zero-le}
use native.Mathlib.Nat.{sub-add_cancel, lt_of_le_of_lt}
use native.Mathlib.Decide.{dec_lt}
use native.Mathlib.Omega.{arith}
use lib.Dec.{eqb, eqb→eq}
use lib.ListN.{get_or}
use lib.Bits.{bit_and, bit_xor, differ, xor_comm, and_le_r}
use Rattle.bits.specs.definitions.Bits.{bit_of}
use Rattle.bits.proofs.Table.{range_rule}
use Rattle.bits.proofs.Xor.{bit_cases}
use Rattle.bits.proofs.Value.{bit_lt, bit_xor_lem, bit_and_lem, bit_shl, bit_shr, bit_shr_none}
use Rattle.traffic.specs.private.Lanes.{Exchanged, Turned}

-- `x ^ ((x ^ y) & m)` on bits
chosen : (x y m : ℕ) → x < 2 → y < 2 → m < 2 → differ x (bit_and (differ x y) m) ≡ cond (eqb m 1) y x
chosen x y m hx hy hm = at (bit_cases x hx) (bit_cases y hy) (bit_cases m hm)
  where
    at : (x ≡ 0) ⊎ (x ≡ 1) → (y ≡ 0) ⊎ (y ≡ 1) → (m ≡ 0) ⊎ (m ≡ 1) → differ x (bit_and (differ x y) m) ≡ cond (eqb m 1) y x
    at (inl p) (inl q) (inl r) = rw (p, q, r)
    at (inl p) (inl q) (inr r) = rw (p, q, r)
    at (inl p) (inr q) (inl r) = rw (p, q, r)
    at (inl p) (inr q) (inr r) = rw (p, q, r)
    at (inr p) (inl q) (inl r) = rw (p, q, r)
    at (inr p) (inl q) (inr r) = rw (p, q, r)
    at (inr p) (inr q) (inl r) = rw (p, q, r)
    at (inr p) (inr q) (inr r) = rw (p, q, r)

-- and on numbers
chosen_bit : (x y m q : ℕ) → bit_of 64 (bit_xor x (bit_and (bit_xor x y) m)) q ≡ cond (eqb (bit_of 64 m q) 1) (bit_of 64 y q) (bit_of 64 x q)
chosen_bit x y m q =
    bit_xor_lem 64 x (bit_and (bit_xor x y) m) q
    ∙ ap (differ (bit_of 64 x q)) (bit_and_lem 64 (bit_xor x y) m q ∙ ap (λ (d : ℕ). bit_and d (bit_of 64 m q)) (bit_xor_lem 64 x y q))
    ∙ chosen (bit_of 64 x q) (bit_of 64 y q) (bit_of 64 m q) (bit_lt 64 x q) (bit_lt 64 y q) (bit_lt 64 m q)

pub exchanged_law : (a b n mask : ℕ) → mask < 2 ^ 64
    → Exchanged a b n mask (bit_xor a (bit_and (bit_xor (a * 2 ^ n % 2 ^ 64) b) mask / 2 ^ n)) (bit_xor b (bit_and (bit_xor (a * 2 ^ n % 2 ^ 64) b) mask))
exchanged_law a b n mask small =
    record {
      first = λ q h.
          bit_xor_lem 64 a (w / 2 ^ n) q
          ∙ ap (differ (bit_of 64 a q)) (bit_shr_none 64 w n q (lt_of_le_of_lt (and_le_r (bit_xor s b) mask) small) h)
          ∙ differ_zero (bit_of 64 a q);
      rest = λ q l h. bit_xor_lem 64 a (w / 2 ^ n) q ∙ rest q l h;
      other = λ q h.
          ap (λ (x : ℕ). bit_of 64 (bit_xor b (bit_and x mask)) q) (xor_comm s b) ∙ chosen_bit b s mask q
          ∙ ap (λ (x : ℕ). cond (eqb (bit_of 64 mask q) 1) x (bit_of 64 b q)) (bit_shl 64 a n q h);
    }
  where
    s : ℕ
    s = a * 2 ^ n % 2 ^ 64

    w : ℕ
    w = bit_and (bit_xor s b) mask

    differ_zero : (x : ℕ) → differ x 0 ≡ x
    differ_zero zero = refl
    differ_zero (suc x) = refl

    rest : (q : ℕ) → n ≤ q → q < 64
        → differ (bit_of 64 a q) (bit_of 64 (w / 2 ^ n) q) ≡ cond (eqb (bit_of 64 mask (q - n)) 1) (bit_of 64 b (q - n)) (bit_of 64 a q)
    rest q l h =
        let shifted : bit_of 64 s (q - n) ≡ bit_of 64 a q = bit_shl 64 a n (q - n) (omega arith) ∙ ap (bit_of 64 a) (sub-add_cancel l) in
        ap₂ differ (sym shifted) (bit_shr 64 w n q l h) ∙ sym (bit_xor_lem 64 s w (q - n)) ∙ chosen_bit s b mask (q - n)
        ∙ ap (λ (x : ℕ). cond (eqb (bit_of 64 mask (q - n)) 1) (bit_of 64 b (q - n)) x) shifted

-- the first or the second of two
abbrev two : ℕ → ℕ → ℕ → ℕ
two a b zero = a
two a b (suc j) = b

-- the place q, or n behind it, as a sum
place : (n q t : ℕ) → t < 2 → two q (q + n) t ≡ q + n * t
place n q zero h = omega arith
place n q (suc zero) h = omega arith
place n q (suc (suc t)) h = absurd (omega arith)

-- the mask has bit q, and has neither the bit n behind it nor the bit n before it
record Alone (n mask q : ℕ) : Type 0 where
  at : bit_of 64 mask q ≡ 1
  behind : bit_of 64 mask (q + n) ≡ 0
  before : n ≤ q → bit_of 64 mask (q - n) ≡ 0

-- there the two numbers exchange bits: new number s has, n behind q or not, what old number t had, n behind q or not
module _ {a b n mask r t : ℕ} (E : Exchanged a b n mask r t) (q : ℕ) (h : q + n + n < 64) (A : Alone n mask q) where
  exchanged : (i j : ℕ) → i < 2 → j < 2 → bit_of 64 (two r t i) (q + n * j) ≡ bit_of 64 (two a b j) (q + n * i)
  exchanged i j hi hj = rw (← place n q j hj, ← place n q i hi) (bits i j)
    where
      first : Dec (q < n) → bit_of 64 r q ≡ bit_of 64 a q
      first (yes l) = E.first q l
      first (no l) = rw (A.before (omega arith)) at (E.rest q (omega arith) (omega arith))

      bits : (i j : ℕ) → bit_of 64 (two r t i) (two q (q + n) j) ≡ bit_of 64 (two a b j) (two q (q + n) i)
      bits zero zero = first (dec_lt q n)
      bits zero (suc j) = let e : q + n - n ≡ q = omega arith in rw (e, A.at) at (E.rest (q + n) (omega arith) (omega arith))
      bits (suc i) zero = rw A.at at (E.other q (omega arith))
      bits (suc i) (suc j) = rw A.behind at (E.other (q + n) h)

-- the masks, and their bits
abbrev half : ℕ
half = 2 ^ 64 - 2 ^ 44

abbrev even : ℕ
even = 2 ^ 64 - 2 ^ 54 + (2 ^ 44 - 2 ^ 34)

half_bit : (q : ℕ) → q < 40 → bit_of 64 half q ≡ 1 - q / 20
unfolding bit_of
half_bit q h = eqb→eq (bit_of 64 half q) (1 - q / 20) (range_rule (λ q. eqb (bit_of 64 half q) (1 - q / 20)) 40 0 tt q zero-le h)

even_bit : (q : ℕ) → q < 40 → bit_of 64 even q ≡ 1 - q / 10 % 2
unfolding bit_of
even_bit q h = eqb→eq (bit_of 64 even q) (1 - q / 10 % 2) (range_rule (λ q. eqb (bit_of 64 even q) (1 - q / 10 % 2)) 40 0 tt q zero-le h)

half_alone : (q : ℕ) → q < 20 → Alone 20 half q
half_alone q h =
    record { at = omega (arith, half_bit q (omega arith)); behind = omega (arith, half_bit (q + 20) (omega arith)); before = λ l. absurd (omega arith) }

even_alone : (q : ℕ) → q < 30 → q % 20 < 10 → Alone 10 even q
even_alone q h l =
    record {
      at = omega (arith, even_bit q (omega arith));
      behind = omega (arith, even_bit (q + 10) (omega arith));
      before = λ b. omega (arith, even_bit (q - 10) (omega arith));
    }

-- one of four by two
one_of_four : (l : List ℕ) (k : ℕ) → k < 4 → get_or l k 0 ≡ two (two (get_or l 0 0) (get_or l 1 0) (k % 2)) (two (get_or l 2 0) (get_or l 3 0) (k % 2)) (k / 2)
one_of_four l zero h = refl
one_of_four l (suc zero) h = refl
one_of_four l (suc (suc zero)) h = refl
one_of_four l (suc (suc (suc zero))) h = refl
one_of_four l (suc (suc (suc (suc k)))) h = absurd (omega arith)

-- halves exchanged, and then symbols of a half
module _ (groups : List ℕ) {e f g h i j k l : ℕ} (ac : Exchanged (get_or groups 0 0) (get_or groups 2 0) 20 half e g)
    (bd : Exchanged (get_or groups 1 0) (get_or groups 3 0) 20 half f h) (ef : Exchanged e f 10 even i j) (gh : Exchanged g h 10 even k l) where
  halves : (s t p q : ℕ) → s < 2 → t < 2 → q < 20
      → bit_of 64 (two (two e f p) (two g h p) s) (q + 20 * t)
      ≡ bit_of 64 (two (two (get_or groups 0 0) (get_or groups 1 0) p) (two (get_or groups 2 0) (get_or groups 3 0) p) t) (q + 20 * s)
  halves s t zero q hs ht b = exchanged ac q (omega arith) (half_alone q b) s t hs ht
  halves s t (suc p) q hs ht b = exchanged bd q (omega arith) (half_alone q b) s t hs ht

  symbols : (s t p q : ℕ) → s < 2 → t < 2 → q < 30 → q % 20 < 10
      → bit_of 64 (two (two i j s) (two k l s) p) (q + 10 * t) ≡ bit_of 64 (two (two e f t) (two g h t) p) (q + 10 * s)
  symbols s t zero q hs ht b m = exchanged ef q (omega arith) (even_alone q b m) s t hs ht
  symbols s t (suc p) q hs ht b m = exchanged gh q (omega arith) (even_alone q b m) s t hs ht

  pub turned_law : Turned groups (i ∷ j ∷ k ∷ l ∷ [])
  turned_law = record { symbol = symbol }
    where
      symbol : (p q n : ℕ) → p < 4 → q < 4 → n < 10
          → bit_of 64 (get_or (i ∷ j ∷ k ∷ l ∷ []) p 0) (10 * q + n) ≡ bit_of 64 (get_or groups q 0) (10 * p + n)
      symbol p q n hp hq hn =
          let first : 10 * q + n ≡ 20 * (q / 2) + n + 10 * (q % 2) = omega arith in
          let then : 20 * (q / 2) + n + 10 * (p % 2) ≡ 10 * (p % 2) + n + 20 * (q / 2) = omega arith in
          let last : 10 * p + n ≡ 10 * (p % 2) + n + 20 * (p / 2) = omega arith in
          rw (one_of_four (i ∷ j ∷ k ∷ l ∷ []) p hp, one_of_four groups q hq, first, last)
          (symbols (p % 2) (q % 2) (p / 2) (20 * (q / 2) + n) (omega arith) (omega arith) (omega arith) (omega arith)
          ∙ rw then (halves (p / 2) (q / 2) (q % 2) (10 * (p % 2) + n) (omega arith) (omega arith) (omega arith)))
