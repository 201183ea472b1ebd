-- From symbols to words: a word's byte from four symbols, the frame's symbols in four lists, one in each in turn, and the words of a frame with their bits
-- at their places and back from them.
-- Assumes nothing.
use mathlib.Core.Path.{◌≡◌, refl, sym, ap, ap₂, ◌∙◌, subst}
use mathlib.Core.Bool.{Bool, cond}
use mathlib.Core.List.{List, [], ◌∷◌}
use Prim.Native.Nat.{ℕ, zero, suc, ◌+◌, ◌-◌, ◌*◌, ◌/◌, ◌%◌, ◌^◌, ◌<◌, ◌≤◌, zero-le}
use native.Mathlib.Nat.{add-zero}
use native.Mathlib.Omega.{arith}
use lib.Dec.{T, eqb, eqb→eq, lit<}
use lib.ListN.{length, get_or, set, take, drop}
use Rattle.std.specs.Int.{w16, to_le_bytes, from_le_bytes, from_be_bytes}
use Rattle.std.proofs.Common.{w64}
use Rattle.bits.proofs.Joins.{load_eight, loaded_is}
use Rattle.std.specs.Simd.{first_chunks}
use lib.Seq.{get_or-drop, get_or-take}
use borrow.Author.Tests.{eq-eqb, lt-ltb, le-ltb}
use Rattle.bits.specs.definitions.Bits.{value, number, bit_of, bit_at, field_at, tabulate, AllBytes}
use Rattle.bits.specs.definitions.Words.{word_of, word_at}
use Rattle.bits.proofs.Table.{each, range_rule}
use Rattle.bits.proofs.Value.{value_cong, bit_lt, bit_number}
use Rattle.bits.proofs.Fields.{bit_at_lt, bit_at_byte, field_is, field_join, field_low}
use Rattle.bits.proofs.Filling.{Filling, filling_start, filling_put, filling_done}
use Rattle.bits.proofs.Parts.{FourParts, parts_step}
use Rattle.bits.proofs.Tabulate.{get_d_tabulate, tabulate_cong}
use Rattle.bits.proofs.Words.{row_cong}
use Rattle.shuffle.specs.definitions.Shuffle.{place, unshuffled}
use Rattle.shuffle.proofs.Places.{place_lt}
use Rattle.symbols.specs.definitions.Mapping.{payload_at, symbol_of, tributary_of, bit_in}
use Rattle.symbols.specs.definitions.Frame.{placed_bit, arrived, words_of}
use Rattle.symbols.specs.definitions.Dibits.{dibit_in, swapped, turned, tributary_in}
use Rattle.symbols.proofs.Symbols.{fours, tributary_lt, counted_mod, counted_row, put_part, part_put, in_chunk}
use Rattle.demapping.specs.definitions.Frame.{ReadsFrame}
use Rattle.demapping.specs.private.Gathering.{gathered_turned, dibit_of, gathered, parted_at, gathered_from, rows_at, gathered_at}

-- ---- a lane's dibit of a symbol

-- a symbol's number counts by its remainder
tributary_mod : (l r : ℕ) → tributary_in (l % 4) r ≡ tributary_in l r
unfolding tributary_in
tributary_mod l r =
    let p : l / 2 % 2 ≡ l % 4 / 2 % 2 = omega arith in
    fours (r + 3 * (2 * (l % 4) + l % 4 / 2 % 2)) (r + 3 * (2 * l + l / 2 % 2)) (6 * (l / 4)) (omega arith)

tributary_same : (l m r : ℕ) → l % 4 ≡ m % 4 → tributary_in l r ≡ tributary_in m r
tributary_same l m r e = sym (tributary_mod l r) ∙ ap (λ (n : ℕ). tributary_in n r) e ∙ tributary_mod m r

even_same : (l m : ℕ) → l % 4 ≡ m % 4 → l % 2 ≡ m % 2
even_same l m e = omega arith

dibit_same : (l m r x : ℕ) → l % 4 ≡ m % 4 → dibit_of l r x ≡ dibit_of m r x
unfolding dibit_of
dibit_same l m r x e =
    λ k. bit_of 8 x (2 * tributary_same l m r e k + even_same l m e k) * 2 + bit_of 8 x (2 * tributary_same l m r e k + odd l m (even_same l m e) k)
  where
    odd : (l m : ℕ) → l % 2 ≡ m % 2 → (l + 1) % 2 ≡ (m + 1) % 2
    odd l m e = omega arith

-- dibit t of a byte, turned where the symbol's number has the remainder p
turned_ok : ℕ → ℕ → ℕ → Bool
turned_ok p t x = eqb (dibit_in t (turned p x)) (bit_of 8 x (2 * t + p) * 2 + bit_of 8 x (2 * t + (p + 1) % 2))

turned_test : T (each (λ k. turned_ok (k / 1024) (k / 256 % 4) (k % 256)) 2048 0)
unfolding turned_ok swapped bit_of
turned_test = tt

turned_dibit : (p t x : ℕ) → p < 2 → t < 4 → x < 256 → dibit_in t (turned p x) ≡ bit_of 8 x (2 * t + p) * 2 + bit_of 8 x (2 * t + (p + 1) % 2)
unfolding turned_ok
turned_dibit p t x hp ht hx =
    let k = 1024 * p + 256 * t + x in
    let ep : k / 1024 ≡ p = omega arith in
    let et : k / 256 % 4 ≡ t = omega arith in
    let ex : k % 256 ≡ x = omega arith in
    (λ i. dibit_in (sym et i) (turned (sym ep i) (sym ex i)))
    ∙ eqb→eq _ _ (range_rule (λ k. turned_ok (k / 1024) (k / 256 % 4) (k % 256)) 2048 0 turned_test k (omega arith) (omega arith))
    ∙ λ i. bit_of 8 (ex i) (2 * et i + ep i) * 2 + bit_of 8 (ex i) (2 * et i + (ep i + 1) % 2)

turned_is : (l r x : ℕ) → x < 256 → dibit_in (tributary_in l r) (turned l x) ≡ dibit_of l r x
unfolding dibit_of
turned_is l r x h =
    let p : l % 2 ≡ l % 2 % 2 = omega arith in
    let n : (l % 2 + 1) % 2 ≡ (l + 1) % 2 = omega arith in
    let t = tributary_in l r in
    ap (λ (n : ℕ). dibit_in t (cond (eqb n 1) (swapped x) x)) p
    ∙ turned_dibit (l % 2) t x (omega arith) (tributary_lt l r) h
    ∙ ap (λ (n : ℕ). bit_of 8 x (2 * t + l % 2) * 2 + bit_of 8 x (2 * t + n)) n

pub dibit_law : (l q x v : ℕ) → x < 256 → v ≡ turned l x → dibit_in ((q + 3 * (2 * l + l / 2 % 2)) % 4) v ≡ dibit_of l q x
unfolding tributary_in
dibit_law l q x v h e = ap (dibit_in ((q + 3 * (2 * l + l / 2 % 2)) % 4)) e ∙ turned_is l q x h

-- ---- a word's byte of four symbols

gathered_same : (l m r a b c d : ℕ) → l % 4 ≡ m % 4 → gathered l r a b c d ≡ gathered m r a b c d
unfolding gathered
gathered_same l m r a b c d e =
    λ k. dibit_same l m r a e k * 64 + dibit_same (l + 1) (m + 1) r b (omega arith) k * 16 + dibit_same (l + 2) (m + 2) r c (omega arith) k * 4
    + dibit_same (l + 3) (m + 3) r d (omega arith) k

-- of symbols that are turned
gathered_is : (l q a b c d : ℕ) → a < 256 → b < 256 → c < 256 → d < 256
    → gathered_turned l q (turned l a ∷ turned (l + 1) b ∷ turned (l + 2) c ∷ turned (l + 3) d ∷ []) ≡ gathered l q a b c d
unfolding gathered gathered_turned
gathered_is l q a b c d ha hb hc hd =
    λ k. turned_is l q a ha k * 64 + turned_is (l + 1) q b hb k * 16 + turned_is (l + 2) q c hc k * 4 + turned_is (l + 3) q d hd k

-- from what the code takes out, and puts at each place
pub gathered_sum : (l q : ℕ) (f : List ℕ) {s t u v w x y z : ℕ}
    → s ≡ tributary_in l q → t ≡ tributary_in (l + 1) q → u ≡ tributary_in (l + 2) q → v ≡ tributary_in (l + 3) q
    → w ≡ dibit_in (s % 4) (get_or f 0 0) * 64 → x ≡ dibit_in (t % 4) (get_or f 1 0) * 16 → y ≡ dibit_in (u % 4) (get_or f 2 0) * 4
    → z ≡ dibit_in (v % 4) (get_or f 3 0) * 1
    → (w + x + y + z ≡ gathered_turned l q f) × (w + x + y + z < 256)
unfolding gathered_turned
gathered_sum l q f {s} {t} {u} {v} es et eu ev ew ex ey ez =
    let n = taken l s (get_or f 0 0) es in
    let o = taken (l + 1) t (get_or f 1 0) et in
    let p = taken (l + 2) u (get_or f 2 0) eu in
    let r = taken (l + 3) v (get_or f 3 0) ev in
    (omega arith, omega arith)
  where
    taken : (m t x : ℕ) → t ≡ tributary_in m q → dibit_in (t % 4) x ≡ dibit_in (tributary_in m q) x
    taken m t x e =
        let k : t % 4 ≡ tributary_in m q = omega (arith, tributary_lt m q) in
        ap (λ (n : ℕ). dibit_in n x) k

-- its bits
module _ (l r : ℕ) (s : ℕ → ℕ) where
  gathered_bit : ℕ → ℕ
  gathered_bit m = bit_of 8 (s (m / 2)) (2 * tributary_in (l + m / 2) r + (l + m / 2 + m % 2) % 2)

  dibit_bits : (e : ℕ) → dibit_of (l + e) r (s e) ≡ gathered_bit (2 * e) * 2 + gathered_bit (2 * e + 1)
  unfolding dibit_of gathered_bit
  dibit_bits e =
      let a : e ≡ 2 * e / 2 = omega arith in
      let b : e ≡ (2 * e + 1) / 2 = omega arith in
      let p : (l + e) % 2 ≡ (l + e + 2 * e % 2) % 2 = omega arith in
      let q : (l + e + 1) % 2 ≡ (l + e + (2 * e + 1) % 2) % 2 = omega arith in
      (λ k. bit_of 8 (s e) (2 * tributary_in (l + e) r + p k) * 2 + bit_of 8 (s e) (2 * tributary_in (l + e) r + q k))
      ∙ λ k. bit_of 8 (s (a k)) (2 * tributary_in (l + a k) r + (l + a k + 2 * e % 2) % 2) * 2
      + bit_of 8 (s (b k)) (2 * tributary_in (l + b k) r + (l + b k + (2 * e + 1) % 2) % 2)

  gathered_number : gathered l r (s 0) (s 1) (s 2) (s 3) ≡ number 8 gathered_bit
  unfolding gathered value
  gathered_number =
      let z : dibit_of l r (s 0) ≡ dibit_of (l + 0) r (s 0) = ap (λ (n : ℕ). dibit_of n r (s 0)) (sym (add-zero l)) in
      omega (arith, dibit_bits 0, dibit_bits 1, dibit_bits 2, dibit_bits 3)

  gathered_bit_lem : (m : ℕ) → m < 8 → bit_of 8 (gathered l r (s 0) (s 1) (s 2) (s 3)) m ≡ gathered_bit m
  unfolding gathered_bit
  gathered_bit_lem m h = ap (λ (v : ℕ). bit_of 8 v m) gathered_number ∙ bit_number 8 gathered_bit (λ i _. bit_lt 8 _ _) m h

-- ---- rows of words

module _ (s : List ℕ) where
  -- byte i of each of a row's words
  pub words_step : (l at i : ℕ) {a b c d w x y z : ℕ} {out : List ℕ} → AllBytes s → FourParts (λ j. gathered_from s l (j / 16) (at + j % 16)) 16 out i → i < 16
      → let m = at + i in
      a ≡ turned l (get_or s m 0) → b ≡ turned (l + 1) (get_or s (m + 512) 0)
      → c ≡ turned (l + 2) (get_or s (m + 256) 0) → d ≡ turned (l + 3) (get_or s (m + 768) 0)
      → let four = a ∷ b ∷ c ∷ d ∷ [] in
      w ≡ gathered_turned l 0 four → x ≡ gathered_turned l 1 four → y ≡ gathered_turned l 2 four → z ≡ gathered_turned l 3 four
      → FourParts (λ j. gathered_from s l (j / 16) (at + j % 16)) 16 (set (set (set (set out i w) (16 + i) x) (32 + i) y) (48 + i) z) (i + 1)
  unfolding gathered_from
  words_step l at i {a} {b} {c} {d} B S h ea eb ec ed ew ex ey ez =
      parts_step _ S h (refl, refl, refl) (ew ∙ word 0 i (omega arith)) (ex ∙ word 1 (16 + i) (omega arith)) (ey ∙ word 2 (32 + i) (omega arith))
      (ez ∙ word 3 (48 + i) (omega arith))
    where
      word : (q j : ℕ) → j ≡ 16 * q + i → gathered_turned l q (a ∷ b ∷ c ∷ d ∷ []) ≡ gathered_from s l (j / 16) (at + j % 16)
      word q j e =
          let m = at + i in
          let n : q ≡ j / 16 = omega arith in
          let o : i ≡ j % 16 = omega arith in
          (λ k. gathered_turned l q (ea k ∷ eb k ∷ ec k ∷ ed k ∷ []))
          ∙ gathered_is l q _ _ _ _ (B.byte m) (B.byte (m + 512)) (B.byte (m + 256)) (B.byte (m + 768))
          ∙ λ k. gathered_from s l (n k) (at + o k)

  -- the words of four rows are put, one after another
  pub rows_step : (q : ℕ) {out₀ out a₀ a₁ a₂ a₃ : List ℕ} → q < 4
      → let o = 256 * q in
      let at = 64 * q in
      Filling (rows_at s) 1024 out₀ out o
      → a₀ ≡ tabulate 64 (λ i. gathered_from s 3 (i / 16) (at + i % 16)) → a₁ ≡ tabulate 64 (λ i. gathered_from s 2 (i / 16) (at + 16 + i % 16))
      → a₂ ≡ tabulate 64 (λ i. gathered_from s 1 (i / 16) (at + 32 + i % 16)) → a₃ ≡ tabulate 64 (λ i. gathered_from s 0 (i / 16) (at + 48 + i % 16))
      → Filling (rows_at s) 1024 out₀
      (put_part (o + 192) (o + 256) (put_part (o + 128) (o + 192) (put_part (o + 64) (o + 128) (put_part o (o + 64) out a₀) a₁) a₂) a₃) (256 * (q + 1))
  unfolding gathered_from rows_at
  rows_step q {out₀} h F p₀ p₁ p₂ p₃ =
      let o = 256 * q in
      let at = 64 * q in
      let next : o + 256 ≡ 256 * (q + 1) = omega arith in
      subst (Filling (rows_at s) 1024 out₀ _) next
      (row 3 0 (at + 48) (o + 192) (o + 256) refl (omega arith) (omega arith) refl refl p₃
      (row 2 1 (at + 32) (o + 128) (o + 192) refl (omega arith) (omega arith) refl refl p₂
      (row 1 2 (at + 16) (o + 64) (o + 128) refl (omega arith) (omega arith) refl refl p₁
      (row 0 3 at o (o + 64) (omega arith) refl (omega arith) (omega arith) refl p₀ F))))
    where
      row : (r l at o end : ℕ) {out part : List ℕ} → o ≡ 256 * q + 64 * r → end ≡ o + 64 → end ≤ 1024 → at ≡ 64 * q + 16 * r → l % 4 ≡ (3 * r + 3) % 4
          → part ≡ tabulate 64 (λ i. gathered_from s l (i / 16) (at + i % 16))
          → Filling (rows_at s) 1024 out₀ out o → Filling (rows_at s) 1024 out₀ (put_part o end out part) end
      row r l at o end eo ee le ea el p = part_put (rows_at s) _ 64 o end p ee le agree
        where
          agree : (k : ℕ) → k < 64 → gathered_from s l (k / 16) (at + k % 16) ≡ rows_at s (o + k)
          agree k h =
              let i = o + k in
              let d : i / 64 ≡ 4 * q + r = omega arith in
              let w : k / 16 ≡ i / 16 % 4 = omega arith in
              let c : k % 16 ≡ i % 16 = omega arith in
              let m : at + k % 16 ≡ 16 * (i / 64) + i % 16 = place (i / 64) (k % 16) (i % 16) d c in
              gathered_same l (3 * (i / 64) + 3) (k / 16) _ _ _ _ (el ∙ remainder (i / 64) d)
              ∙ λ x. gathered (3 * (i / 64) + 3) (w x) (get_or s (m x) 0) (get_or s (m x + 512) 0) (get_or s (m x + 256) 0) (get_or s (m x + 768) 0)
            where
              place : (a b c : ℕ) → a ≡ 4 * q + r → b ≡ c → at + b ≡ 16 * a + c
              place a b c e f = omega arith

              remainder : (a : ℕ) → a ≡ 4 * q + r → (3 * r + 3) % 4 ≡ (3 * a + 3) % 4
              remainder a e = fours (3 * r + 3) (3 * a + 3) (3 * q) (omega arith)

-- ---- a frame's symbols in four lists, one in each in turn

-- a byte of two in a number
pub byte_is : (n k : ℕ) {b : List ℕ} → k < 2 → b ≡ to_le_bytes w16 n → get_or b k 0 ≡ n / 256 ^ k % 256
byte_is n zero h e = ap (λ (b : List ℕ). get_or b 0 0) e ∙ omega arith
byte_is n (suc zero) h e = ap (λ (b : List ℕ). get_or b 1 0) e
byte_is n (suc (suc k)) h e = absurd (omega arith)

-- two bytes of a list as one number
pub pair_is : (s : List ℕ) (i k : ℕ) {parts : List (List ℕ)} → i < k → parts ≡ first_chunks 2 k s
    → from_le_bytes w16 (get_or parts i []) ≡ get_or s (2 * i) 0 + get_or s (2 * i + 1) 0 * 256
pair_is s i k {parts} h e =
    let first : 2 * i + 0 ≡ 2 * i = omega arith in
    λ x. (in_chunk 2 k s i 0 h (lit< tt) e ∙ ap (λ (n : ℕ). get_or s n 0) first) x + in_chunk 2 k s i 1 h (lit< tt) e x * 256

-- two bytes in a number
module _ (s w : List ℕ) (n : ℕ) (B : AllBytes s) (e : w ≡ tabulate n (λ i. get_or s (2 * i) 0 + get_or s (2 * i + 1) 0 * 256)) where
  pair_at : (i : ℕ) → i < n → get_or w i 0 ≡ get_or s (2 * i) 0 + get_or s (2 * i + 1) 0 * 256
  pair_at i h = ap (λ (l : List ℕ). get_or l i 0) e ∙ get_d_tabulate n _ i 0 h

  -- the first bytes, and then the second ones
  pub parted : (m : ℕ) (out : List ℕ) {a b : List ℕ} → length out ≡ m → m ≡ 2 * n
      → a ≡ tabulate (length (take (n - 0) (drop 0 out))) (λ i. get_or w i 0 / 256 ^ 0 % 256)
      → b ≡ tabulate (length (take (m - n) (drop n (put_part 0 n out a)))) (λ i. get_or w i 0 / 256 ^ 1 % 256)
      → put_part n m (put_part 0 n out a) b ≡ tabulate m (parted_at m s)
  unfolding parted_at
  parted m out l h p q =
      filling_done _
      (filling_put _ m _ (λ _ i. get_or w i 0 / 256 ^ 1 % 256)
      (filling_put _ n _ (λ _ i. get_or w i 0 / 256 ^ 0 % 256) (filling_start _ {out₀ = out} l) zero-le (omega arith) p even) (omega arith) (omega arith) q odd)
      (omega arith)
    where
      half : m / 2 ≡ n
      half = omega arith

      even : (k : ℕ) → k < n - 0 → get_or w k 0 / 256 ^ 0 % 256 ≡ parted_at m s (0 + k)
      even k c =
          let z : 0 + k ≡ k = omega arith in
          rw (half, z, lt-ltb k n (omega arith)) (omega (arith, pair_at k (omega arith), B.byte (2 * k)))

      odd : (k : ℕ) → k < m - n → get_or w k 0 / 256 ^ 1 % 256 ≡ parted_at m s (n + k)
      odd k c =
          let z : n + k - n ≡ k = omega arith in
          rw (half, le-ltb (n + k) n (omega arith), z) (omega (arith, pair_at k (omega arith), B.byte (2 * k), B.byte (2 * k + 1)))

-- byte j of the first list, or of the second
parted_at_lem : (n : ℕ) (s : List ℕ) (v i j : ℕ) → v < 2 → j < n / 2 → i ≡ n / 2 * v + j → parted_at n s i ≡ get_or s (2 * j + v) 0
unfolding parted_at
parted_at_lem n s zero i j h l e =
    let a : i ≡ j = omega arith in
    let b : 2 * j ≡ 2 * j + 0 = omega arith in
    rw (a, lt-ltb j (n / 2) l) (ap (λ (k : ℕ). get_or s k 0) b)
parted_at_lem n s (suc zero) i j h l e =
    let a : i - n / 2 ≡ j = omega arith in
    rw (le-ltb i (n / 2) (omega arith), a)
parted_at_lem n s (suc (suc v)) i j h l e = absurd (omega arith)

-- byte i of two halves of 512 bytes, each of which is in two lists so
unfoldable pub halves_at : List ℕ → ℕ → ℕ
halves_at s i = parted_at 512 (drop (512 * (i / 512)) s) (i % 512)

-- both halves are lent, and parted
pub halves_are : (s out : List ℕ) {a b : List ℕ} → length out ≡ 1024
    → a ≡ tabulate (length (take 512 (drop 0 out))) (parted_at (length (take 512 (drop 0 out))) (take 512 (drop 0 s)))
    → b ≡ tabulate (length (take 512 (drop 512 (put_part 0 512 out a))))
    (parted_at (length (take 512 (drop 512 (put_part 0 512 out a)))) (take 512 (drop 512 s)))
    → put_part 512 1024 (put_part 0 512 out a) b ≡ tabulate 1024 (halves_at s)
unfolding halves_at
halves_are s out l p q =
    filling_done _
    (filling_put _ 1024 _ (λ n. parted_at n (take 512 (drop 512 s)))
    (filling_put _ 512 _ (λ n. parted_at n (take 512 (drop 0 s))) (filling_start _ {out₀ = out} l) (omega arith) (omega arith) p
    (λ k h. half 0 k h)) (omega arith) (omega arith) q (λ k h. half 1 k h))
    (omega arith)
  where
    half : (u k : ℕ) → k < 512 → parted_at 512 (take 512 (drop (512 * u) s)) k ≡ halves_at s (512 * u + k)
    half u k h =
        let d : u ≡ (512 * u + k) / 512 = omega arith in
        let m : k ≡ (512 * u + k) % 512 = omega arith in
        parted_at_lem 512 (take 512 (drop (512 * u) s)) (k / 256) k (k % 256) (omega arith) (omega arith) (omega arith)
        ∙ get_or-take 512 (drop (512 * u) s) (2 * (k % 256) + k / 256) 0 (omega arith)
        ∙ sym (parted_at_lem 512 (drop (512 * u) s) (k / 256) k (k % 256) (omega arith) (omega arith) (omega arith))
        ∙ λ x. parted_at 512 (drop (512 * d x) s) (m x)

-- the symbols of sixteen rows, parted twice
module _ (s two four : List ℕ) (m : ℕ) (long : m ≡ 1024) (e : two ≡ tabulate m (parted_at m s)) (f : four ≡ tabulate 1024 (halves_at two)) where
  two_at : (u j : ℕ) → u < 2 → j < 512 → get_or two (512 * u + j) 0 ≡ get_or s (2 * j + u) 0
  two_at u j hu hj =
      ap (λ (l : List ℕ). get_or l (512 * u + j) 0) (e ∙ ap (λ (n : ℕ). tabulate n (parted_at n s)) long)
      ∙ get_d_tabulate 1024 (parted_at 1024 s) (512 * u + j) 0 (omega arith) ∙ parted_at_lem 1024 s u (512 * u + j) j hu hj refl

  four_at : (u v j i k : ℕ) → j < 256 → u < 2 → v < 2 → i ≡ 512 * u + (256 * v + j) → k ≡ 4 * j + 2 * v + u → get_or four i 0 ≡ get_or s k 0
  unfolding halves_at
  four_at u v j i k hj hu hv ei ek =
      let d : i / 512 ≡ u = omega arith in
      let n : i % 512 ≡ 256 * v + j = omega arith in
      let o : 2 * (2 * j + v) + u ≡ k = omega arith in
      ap (λ (l : List ℕ). get_or l i 0) f ∙ get_d_tabulate 1024 (halves_at two) i 0 (omega arith)
      ∙ (λ x. parted_at 512 (drop (512 * d x) two) (n x)) ∙ parted_at_lem 512 (drop (512 * u) two) v (256 * v + j) j hv hj refl
      ∙ get_or-drop (512 * u) two (2 * j + v) 0 ∙ two_at u (2 * j + v) hu (omega arith) ∙ ap (λ (n : ℕ). get_or s n 0) o

  pub rows_gathered : (out : List ℕ) → out ≡ tabulate 1024 (rows_at four) → out ≡ tabulate 1024 (gathered_at s)
  unfolding rows_at gathered_from gathered_at
  rows_gathered out r =
      r
      ∙ tabulate_cong 1024 _ _ (λ i c.
      let j = 16 * (i / 64) + i % 16 in
      let b : j < 256 = omega arith in
      let o = 64 * (i / 64) + 4 * (i % 16) in
      λ x. gathered (3 * (i / 64) + 3) (i / 16 % 4) (four_at 0 0 j j o b (omega arith) (omega arith) (omega arith) (omega arith) x)
      (four_at 1 0 j (j + 512) (o + 1) b (omega arith) (omega arith) (omega arith) (omega arith) x)
      (four_at 0 1 j (j + 256) (o + 2) b (omega arith) (omega arith) (omega arith) (omega arith) x)
      (four_at 1 1 j (j + 768) (o + 3) b (omega arith) (omega arith) (omega arith) (omega arith) x))

-- sixteen rows of a frame are gathered, and put
pub gather_step : (f : List ℕ) (g k : ℕ) {out₀ out part : List ℕ} {parts : List (List ℕ)} → g < k → k ≤ 6 → parts ≡ first_chunks 1024 k f
    → Filling (gathered_at f) 6144 out₀ out (1024 * g) → part ≡ tabulate 1024 (gathered_at (get_or parts g []))
    → Filling (gathered_at f) 6144 out₀ (put_part (1024 * g) (1024 * g + 1024) out part) (1024 * (g + 1))
unfolding gathered_at
gather_step f g n {out₀} {parts = parts} hg hn ef F p =
    let next : 1024 * g + 1024 ≡ 1024 * (g + 1) = omega arith in
    subst (Filling (gathered_at f) 6144 out₀ _) next
    (part_put (gathered_at f) (gathered_at s) 1024 from (from + 1024) p refl (omega arith) (λ i h.
    let t = from + i in
    let d : t / 64 ≡ 16 * g + i / 64 = omega arith in
    let q : i / 16 % 4 ≡ t / 16 % 4 = omega arith in
    let k : i % 16 ≡ t % 16 = omega arith in
    gathered_same (3 * (i / 64) + 3) (3 * (t / 64) + 3) (i / 16 % 4) _ _ _ _ (remainder (i / 64) (t / 64) d)
    ∙ symbols (3 * (t / 64) + 3) (64 * (i / 64) + 4 * (i % 16)) (64 * (t / 64) + 4 * (t % 16)) q (place (i / 64) (t / 64) (i % 16) (t % 16) d k)
    (inside i h)) F)
  where
    from : ℕ
    from = 1024 * g

    s : List ℕ
    s = get_or parts g []

    remainder : (a b : ℕ) → b ≡ 16 * g + a → (3 * a + 3) % 4 ≡ (3 * b + 3) % 4
    remainder a b e = fours (3 * a + 3) (3 * b + 3) (12 * g) (omega arith)

    inside : (i : ℕ) → i < 1024 → 64 * (i / 64) + 4 * (i % 16) + 3 < 1024
    inside i h = omega arith

    place : (a b c d : ℕ) → b ≡ 16 * g + a → c ≡ d → from + (64 * a + 4 * c) ≡ 64 * b + 4 * d
    place a b c d e k = omega arith

    at : (j k : ℕ) → j < 1024 → from + j ≡ k → get_or s j 0 ≡ get_or f k 0
    at j k l e = in_chunk 1024 n f g j hg l ef ∙ ap (λ (n : ℕ). get_or f n 0) e

    symbols : (l o u : ℕ) {q r : ℕ} → q ≡ r → from + o ≡ u → o + 3 < 1024
        → gathered l q (get_or s o 0) (get_or s (o + 1) 0) (get_or s (o + 2) 0) (get_or s (o + 3) 0)
        ≡ gathered l r (get_or f u 0) (get_or f (u + 1) 0) (get_or f (u + 2) 0) (get_or f (u + 3) 0)
    symbols l o u p e h =
        λ x. gathered l (p x) (at o u (omega arith) e x) (at (o + 1) (u + 1) (omega arith) (omega arith) x)
        (at (o + 2) (u + 2) (omega arith) (omega arith) x) (at (o + 3) (u + 3) h (omega arith) x)

-- ---- the words of a frame

-- bit e of the two that symbol j of the 63 of row g has of word 4 g + r
module _ (f : List ℕ) (g r j e : ℕ) (h : g < 96) (b : r < 4) (hj : j < 63) (he : e < 2) where
  symbol_is : symbol_of ((4 * g + r) % 32) (2 * j + e) ≡ g % 8 * 63 + j
  unfolding symbol_of
  symbol_is = omega arith

  payload_is : payload_at (504 * ((4 * g + r) / 32) + symbol_of ((4 * g + r) % 32) (2 * j + e)) ≡ 64 * g + 1 + j
  unfolding payload_at
  payload_is =
      let m : 504 * ((4 * g + r) / 32) + symbol_of ((4 * g + r) % 32) (2 * j + e) ≡ 63 * g + j = omega (arith, symbol_is) in
      rw m (omega arith)

  tributary_is : tributary_of ((4 * g + r) % 32) (2 * j + e) ≡ tributary_in (g % 8 * 63 + j) r
  unfolding tributary_of tributary_in
  tributary_is =
      let l = g % 8 * 63 + j in
      let x = 3 * (2 * l + l / 2 % 2) in
      ap (λ (l : ℕ). ((4 * g + r) % 32 + 3 * (2 * l + l / 2 % 2)) % 4) symbol_is
      ∙ sym (fours (r + x) ((4 * g + r) % 32 + x) (g % 8) (omega arith))

  bit_is : bit_in ((4 * g + r) % 32) (2 * j + e) ≡ 2 * tributary_in (g % 8 * 63 + j) r + (g % 8 * 63 + j + e) % 2
  unfolding bit_in
  bit_is =
      let m : (2 * j + e + symbol_of ((4 * g + r) % 32) (2 * j + e)) % 2 ≡ (g % 8 * 63 + j + e) % 2 = rw symbol_is (omega arith) in
      ap₂ (λ (t u : ℕ). 2 * t + u) tributary_is m

  -- by any number of the symbol that has the same remainder
  placed_at_lem : (l : ℕ) → l % 4 ≡ (g % 8 * 63 + j) % 4
      → bit_of 8 (get_or f (64 * g + 1 + j) 0) (2 * tributary_in l r + (l + e) % 2) ≡ placed_bit f ((4 * g + r) / 32) ((4 * g + r) % 32) (2 * j + e)
  unfolding placed_bit
  placed_at_lem l n =
      let m : (l + e) % 2 ≡ (g % 8 * 63 + j + e) % 2 = omega arith in
      (λ k. bit_of 8 (get_or f (64 * g + 1 + j) 0) (2 * tributary_same l (g % 8 * 63 + j) r n k + m k))
      ∙ sym (ap₂ (λ (p i : ℕ). bit_at f (8 * p + i)) payload_is bit_is
      ∙ bit_at_byte f (64 * g + 1 + j) _ (omega (arith, tributary_lt (g % 8 * 63 + j) r)))

-- the bytes of a frame's words
module _ (f p : List ℕ) (e : p ≡ tabulate 6144 (gathered_at f)) where
  -- bit m of byte k of word 4 g + r, behind the pilot's dibit
  byte_bit : (g r k m : ℕ) → g < 96 → r < 4 → k < 16 → m < 8 → 1 ≤ 4 * k + m / 2
      → bit_at p (8 * (16 * (4 * g + r) + k) + m) ≡ placed_bit f ((4 * g + r) / 32) ((4 * g + r) % 32) (2 * (4 * k + m / 2 - 1) + m % 2)
  unfolding gathered_at gathered_bit
  byte_bit g r k m hg hr hk hm behind =
      let t = 16 * (4 * g + r) + k in
      let at = 64 * g + 4 * k in
      let j = 4 * k + m / 2 - 1 in
      let s : ℕ → ℕ = λ i. get_or f (at + i) 0 in
      let dg : t / 64 ≡ g = omega arith in
      let dr : t / 16 % 4 ≡ r = omega arith in
      let dk : t % 16 ≡ k = omega arith in
      let o : at + m / 2 ≡ 64 * g + 1 + j = omega arith in
      let n : 4 * k + m / 2 ≡ 1 + j = omega arith in
      bit_at_byte p t m hm
      ∙ ap (λ (v : ℕ). bit_of 8 v m)
      (ap (λ (l : List ℕ). get_or l t 0) e ∙ get_d_tabulate 6144 (gathered_at f) t 0 (omega arith)
      ∙ (λ x. gathered (3 * dg x + 3) (dr x) (get_or f (64 * dg x + 4 * dk x) 0) (get_or f (64 * dg x + 4 * dk x + 1) 0)
      (get_or f (64 * dg x + 4 * dk x + 2) 0) (get_or f (64 * dg x + 4 * dk x + 3) 0))
      ∙ ap (λ (a : ℕ). gathered (3 * g + 3) r (get_or f a 0) (s 1) (s 2) (s 3)) (sym (add-zero at)))
      ∙ gathered_bit_lem (3 * g + 3) r s m hm
      ∙ ap (λ (a : ℕ). bit_of 8 (get_or f a 0) (2 * tributary_in (3 * g + 3 + m / 2) r + (3 * g + 3 + m / 2 + m % 2) % 2)) o
      ∙ placed_at_lem f g r j (m % 2) hg hr (omega arith) (omega arith) (3 * g + 3 + m / 2)
      (counted_row g k (m / 2) ∙ counted_mod g (4 * k + m / 2) behind)

  word_bit : (i q : ℕ) → i < 384 → q < 126 → bit_at p (128 * i + 2 + q) ≡ placed_bit f (i / 32) (i % 32) q
  word_bit i q hi hq =
      let g = i / 4 in
      let r = i % 4 in
      let k = (q + 2) / 8 in
      let m = (q + 2) % 8 in
      let w : 4 * g + r ≡ i = omega arith in
      let o : 128 * i + 2 + q ≡ 8 * (16 * (4 * g + r) + k) + m = omega arith in
      let b : 2 * (4 * k + m / 2 - 1) + m % 2 ≡ q = omega arith in
      ap (bit_at p) o ∙ byte_bit g r k m (omega arith) (omega arith) (omega arith) (omega arith) (omega arith)
      ∙ λ x. placed_bit f (w x / 32) (w x % 32) (b x)

  -- word i of the row of its numbers
  word_field : (row : List ℕ) (i : ℕ) → i < 384 → row ≡ tabulate 768 (λ j. field_at p (64 * j) 64) → word_at row i ≡ field_at p (128 * i + 2) 126
  unfolding word_at word_of
  word_field row i h er =
      let a : 64 * (2 * i) ≡ 128 * i = omega arith in
      let b : 64 * (2 * i + 1) ≡ 128 * i + 2 + 62 = omega arith in
      ap₂ (λ (x y : ℕ). x % 2 ^ 62 * 2 ^ 64 + y)
      (ap (λ (l : List ℕ). get_or l (2 * i) 0) er ∙ get_d_tabulate 768 _ (2 * i) 0 (omega arith) ∙ ap (λ (n : ℕ). field_at p n 64) a)
      (ap (λ (l : List ℕ). get_or l (2 * i + 1) 0) er ∙ get_d_tabulate 768 _ (2 * i + 1) 0 (omega arith) ∙ ap (λ (n : ℕ). field_at p n 64) b)
      ∙ ap (λ (x : ℕ). x * 2 ^ 64 + field_at p (128 * i + 2 + 62) 64) (field_low p (128 * i) 2 62)
      ∙ sym (field_join p (128 * i + 2) 62 64)

  -- the words with their bits back from their places
  pub words_is : (row : List ℕ) → row ≡ tabulate 768 (λ j. field_at p (64 * j) 64) → unshuffled row ≡ words_of f
  unfolding unshuffled words_of arrived placed_bit
  words_is row er =
      row_cong 384 _ _ (λ i h.
      value_cong 2 126 _ _ (λ q l.
      ap (λ (w : ℕ). bit_of 126 w (place (i % 32) q)) (word_field row i h er ∙ field_is p (128 * i + 2) 126 _ (λ q c. word_bit i q h c))
      ∙ bit_number 126 (placed_bit f (i / 32) (i % 32)) (λ r _. bit_at_lt f _) (place (i % 32) q) (place_lt (i % 32) q l)))

-- eight bytes of a list as one number
pub number_is : (s : List ℕ) (j k : ℕ) {parts : List (List ℕ)} → AllBytes s → j < k → 8 * k ≤ length s → parts ≡ first_chunks 8 k s
    → from_be_bytes w64 (get_or parts j []) ≡ field_at s (64 * j) 64
number_is s j k {parts} B h l e =
    let first : 8 * j + 0 ≡ 8 * j = omega arith in
    let place : 8 * (8 * j) ≡ 64 * j = omega arith in
    (λ x. from_be_bytes w64
    ((byte 0 (lit< tt) ∙ ap (λ (n : ℕ). get_or s n 0) first) x ∷ byte 1 (lit< tt) x ∷ byte 2 (lit< tt) x ∷ byte 3 (lit< tt) x ∷ byte 4 (lit< tt) x
    ∷ byte 5 (lit< tt) x ∷ byte 6 (lit< tt) x ∷ byte 7 (lit< tt) x ∷ []))
    ∙ load_eight s (8 * j) B (omega arith) ∙ loaded_is s (8 * j) (omega arith) ∙ ap (λ (n : ℕ). field_at s n 64) place
  where
    byte : (i : ℕ) → i < 8 → get_or (get_or parts j []) i 0 ≡ get_or s (8 * j + i) 0
    byte i hi = in_chunk 8 k s j i h hi e

-- a call whose frame has the right length reads its words
pub frame_read : {f w w' : List ℕ} {r : Bool} → ReadsFrame f w r w' → length f ≡ 6144 → w' ≡ words_of f
frame_read R e = rw (R.words, R.done, eq-eqb _ 6144 e)
