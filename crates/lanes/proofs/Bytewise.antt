-- Permutation and interleaver by whole bytes: what the code stores is, bit by bit, what the definitions say.
-- Assumes nothing.
use mathlib.Core.Path.{◌≡◌, refl, sym, ap, ap₂, ◌∙◌, subst}
use mathlib.Core.Bool.{Bool, true, false, cond}
use mathlib.Core.List.{List, ◌++◌}
use Prim.Native.Nat.{ℕ, zero, suc, ◌+◌, ◌-◌, ◌*◌, ◌/◌, ◌%◌, ◌^◌, ◌<◌, ◌≤◌}
use native.Mathlib.Nat.{lt_of_le_of_lt, mod-lt, div-add-mod', mul-add, mul-suc, mul_comm, add_assoc, mul_left_comm}
use native.Mathlib.Numerals.{add-one}
use lib.Arith.{digits_div, digits_mod}
use native.Mathlib.Omega.{arith}
use lib.Dec.{eqb, ltb, lit<}
use lib.ListN.{get_or, length, take, drop, length-take, length-drop, get_or-append}
use lib.Seq.{get_or-append-add, get_or-take, get_or-drop}
use borrow.Author.Tests.{ltb-true, ltb-false}
use lib.Bits.{bit_and, bit_xor, and_le_l, xor_lt, xor_shr, xor_mod}
use Rattle.bits.specs.definitions.Bits.{tabulate, number, bit_of, bit_at, bytes, AllBytes}
use Rattle.bits.proofs.Tabulate.{tabulate_cong, tabulate_append, is_tabulate}
use Rattle.bits.proofs.Filling.{Filling, filling_put}
use Rattle.bits.proofs.Value.{value_cong, bit_lt, bit_and_lem, number_bits}
use Rattle.bits.proofs.Fields.{bit_at_lt, bit_at_byte, bytes_bit, bytes_cong, bytes_bytes}
use Rattle.lanes.specs.definitions.Permutation.{Lanes, Places, partner, permuted, lanes_of, lane_bytes}
use Rattle.lanes.specs.definitions.Interleaver.{Rows, stored, rows_out, row_at, store_bit, store_next}
use Rattle.lanes.specs.statements.Permutation.{PermutedTwice}
use Rattle.lanes.specs.private.Blocks.{FillStore, merged_byte, IsMaskRow, lane_of, block_of, block_byte, out_from, kept_from}
use Rattle.lanes.proofs.Rows.{Apart}

-- ---- the permutation

bit_sum : (n a b i : ℕ) → bit_of n (bit_xor a b) i ≡ bit_xor (bit_of n a i) (bit_of n b i)
unfolding bit_of
bit_sum n a b i = let k = n - 1 - i in ap (λ (x : ℕ). x % 2) (xor_shr a b k) ∙ xor_mod (a / 2 ^ k) (b / 2 ^ k) 1

-- a merged byte is a byte
merged_lt : (a b m : ℕ) → a < 256 → b < 256 → merged_byte a b m < 256
unfolding merged_byte
merged_lt a b m ha hb = xor_lt 8 a (bit_and (bit_xor a b) m) ha (lt_of_le_of_lt (and_le_l (bit_xor a b) m) (xor_lt 8 a b ha hb))

-- and has the bits of b where m has a bit, else those of a
merged_bit : (a b m k : ℕ) → bit_of 8 (merged_byte a b m) k ≡ cond (eqb (bit_of 8 m k) 1) (bit_of 8 b k) (bit_of 8 a k)
unfolding merged_byte
merged_bit a b m k =
    bit_sum 8 a (bit_and (bit_xor a b) m) k
    ∙ ap (bit_xor (bit_of 8 a k)) (bit_and_lem 8 (bit_xor a b) m k ∙ ap (λ (x : ℕ). bit_and x (bit_of 8 m k)) (bit_sum 8 a b k))
    ∙ pick (bit_of 8 a k) (bit_of 8 b k) (bit_of 8 m k) (bit_lt 8 a k) (bit_lt 8 b k) (bit_lt 8 m k)
  where
    pick : (x y z : ℕ) → x < 2 → y < 2 → z < 2 → bit_xor x (bit_and (bit_xor x y) z) ≡ cond (eqb z 1) y x
    pick zero zero zero hx hy hz = refl
    pick zero zero (suc zero) hx hy hz = refl
    pick zero (suc zero) zero hx hy hz = refl
    pick zero (suc zero) (suc zero) hx hy hz = refl
    pick (suc zero) zero zero hx hy hz = refl
    pick (suc zero) zero (suc zero) hx hy hz = refl
    pick (suc zero) (suc zero) zero hx hy hz = refl
    pick (suc zero) (suc zero) (suc zero) hx hy hz = refl
    pick zero zero (suc (suc z)) hx hy hz = absurd (omega arith)
    pick zero (suc zero) (suc (suc z)) hx hy hz = absurd (omega arith)
    pick (suc zero) zero (suc (suc z)) hx hy hz = absurd (omega arith)
    pick (suc zero) (suc zero) (suc (suc z)) hx hy hz = absurd (omega arith)
    pick zero (suc (suc y)) z hx hy hz = absurd (omega arith)
    pick (suc zero) (suc (suc y)) z hx hy hz = absurd (omega arith)
    pick (suc (suc x)) y z hx hy hz = absurd (omega arith)

-- a byte by its bits
by_bits : (v : ℕ) (f : ℕ → ℕ) → v < 256 → ((k : ℕ) → k < 8 → bit_of 8 v k ≡ f k) → v ≡ number 8 f
by_bits v f h e = sym (number_bits 8 v h) ∙ value_cong 2 8 (bit_of 8 v) f e

-- byte i of a row of lanes of L bytes is byte i % 5 of a block: its bits, with bits counted in the lane
module _ (L : ℕ) (five : (i : ℕ) → i % L % 5 ≡ i % 5) (pos : 0 < L) where
  lane_of_lem : (i k : ℕ) → k < 8 → ((8 * i + k) / (8 * L) ≡ i / L) × ((8 * i + k) % (8 * L) ≡ 40 * (i % L / 5) + (8 * (i % 5) + k))
  lane_of_lem i k h =
      let P : ℕ = i / L in
      let R : ℕ = i % L in
      let r : R < L = mod-lt i pos in
      let l : 8 * R + k < 8 * L = omega arith in
      let whole : 8 * i + k ≡ P * (8 * L) + (8 * R + k) =
      ap (λ (x : ℕ). 8 * x + k) (sym (div-add-mod' i L)) ∙ ap (λ (x : ℕ). x + k) (mul-add 8 (P * L) R) ∙ add_assoc (8 * (P * L)) (8 * R) k
      ∙ ap (λ (x : ℕ). x + (8 * R + k)) (mul_left_comm 8 P L) in
      let c : R % 5 ≡ i % 5 = five i in
      let inside : 8 * R + k ≡ 40 * (R / 5) + (8 * (R % 5) + k) = omega arith in (
        ap (λ (x : ℕ). x / (8 * L)) whole ∙ digits_div P l,
        ap (λ (x : ℕ). x % (8 * L)) whole ∙ digits_mod P l ∙ inside ∙ ap (λ (x : ℕ). 40 * (R / 5) + (8 * x + k)) c,
      )

  lane_byte_lem : (X : Lanes) (i : ℕ)
      → number 8 (λ k. X ((8 * i + k) / (8 * L)) ((8 * i + k) % (8 * L))) ≡ number 8 (λ k. X (i / L) (40 * (i % L / 5) + (8 * (i % 5) + k)))
  lane_byte_lem X i = value_cong 2 8 _ _ (λ k h. let e = lane_of_lem i k h in λ z. X (e.0 z) (e.1 z))

pub five_165 : (i : ℕ) → i % 165 % 5 ≡ i % 5
five_165 i = omega arith

pub five_90 : (i : ℕ) → i % 90 % 5 ≡ i % 5
five_90 i = omega arith

-- a bit of a block stands at a place of its four symbols
symbol_place : (b m : ℕ) → m < 40 → m / 10 ≡ (40 * b + m) / 10 % 4
symbol_place b m h = omega arith

-- byte i of the permuted frame
abbrev pub permuted_byte : Places → List ℕ → ℕ → ℕ
permuted_byte ex x i = number 8 (λ k. permuted ex (lanes_of x) ((8 * i + k) / 1320) ((8 * i + k) % 1320))

-- it is the byte that stands there, merged with its partner's
permuted_byte_lem : (ex : Places) (i j mask : ℕ) (x : List ℕ) → AllBytes x → i < 5280 → j ≡ (i + 2640) % 5280
    → ((k : ℕ) → k < 8 → eqb (bit_of 8 mask k) 1 ≡ ex ((8 * (i % 5) + k) / 10)) → merged_byte (get_or x i 0) (get_or x j 0) mask ≡ permuted_byte ex x i
unfolding permuted
permuted_byte_lem ex i j mask x X hi hj is =
    by_bits (merged_byte own other mask) _ (merged_lt own other mask (X.byte i) (X.byte j)) bit
    ∙ sym (lane_byte_lem 165 five_165 (lit< tt) (permuted ex (lanes_of x)) i)
  where
    own : ℕ
    own = get_or x i 0

    other : ℕ
    other = get_or x j 0

    p : ℕ
    p = i / 165

    b : ℕ
    b = i % 165 / 5

    c : ℕ
    c = i % 5

    bit : (k : ℕ) → k < 8 → bit_of 8 (merged_byte own other mask) k ≡ permuted ex (lanes_of x) p (40 * b + (8 * c + k))
    bit k h =
        let r : i % 165 % 5 ≡ c = five_165 i in
        let here : 8 * i + k ≡ 1320 * p + (40 * b + (8 * c + k)) = omega arith in
        let place : j ≡ 165 * partner p + i % 165 = omega arith in
        let there : 8 * j + k ≡ 1320 * partner p + (40 * b + (8 * c + k)) = omega arith in
        merged_bit own other mask k
        ∙ (λ z. cond ((is k h ∙ ap ex (symbol_place b (8 * c + k) (omega arith))) z)
        ((sym (bit_at_byte x j k h) ∙ ap (bit_at x) there) z)
        ((sym (bit_at_byte x i k h) ∙ ap (bit_at x) here) z))

-- ---- whole blocks

-- lane p of a frame x and of its store s: a byte of one of the frame's blocks, and of one of the store's
module _ (x s : List ℕ) (long : length x ≡ 5280) (p : ℕ) (hp : p < 32) where
  pub front : length (take 165 (drop (165 * p) x)) ≡ 165
  front = simp (length-take, length-drop) (omega arith)

  out_number : AllBytes x → (b c : ℕ) → b < 33 → c < 5 → block_byte (lane_of x s p) b c ≡ number 8 (λ k. lanes_of x p (40 * b + (8 * c + k)))
  unfolding block_byte
  out_number X b c hb hc =
      let i : ℕ = 165 * p + (5 * b + c) in
      get_or-append (take 165 (drop (165 * p) x)) (take 90 (drop (90 * p) s)) 0 (5 * b + c) (omega (arith, front))
      ∙ get_or-take 165 (drop (165 * p) x) (5 * b + c) 0 (omega arith) ∙ get_or-drop (165 * p) x (5 * b + c) 0
      ∙ by_bits (get_or x i 0) _ (X.byte i)
      (λ k hk. let e : 8 * i + k ≡ 1320 * p + (40 * b + (8 * c + k)) = omega arith in sym (bit_at_byte x i k hk) ∙ ap (bit_at x) e)

  kept_number : AllBytes s → (q c : ℕ) → q < 18 → c < 5 → block_byte (lane_of x s p) (33 + q) c ≡ number 8 (λ k. stored s p (40 * q + (8 * c + k)))
  unfolding block_byte
  kept_number S q c hq hc =
      let i : ℕ = 90 * p + (5 * q + c) in
      let f : 5 * (33 + q) + c ≡ length (take 165 (drop (165 * p) x)) + (5 * q + c) = omega (arith, front) in
      ap (λ (j : ℕ). get_or (lane_of x s p) j 0) f
      ∙ get_or-append-add (take 165 (drop (165 * p) x)) (take 90 (drop (90 * p) s)) (5 * q + c) 0
      ∙ get_or-take 90 (drop (90 * p) s) (5 * q + c) 0 (omega arith) ∙ get_or-drop (90 * p) s (5 * q + c) 0
      ∙ by_bits (get_or s i 0) _ (S.byte i)
      (λ k hk. let e : 8 * i + k ≡ 720 * p + (40 * q + (8 * c + k)) = omega arith in sym (bit_at_byte s i k hk) ∙ ap (bit_at s) e)

-- byte i of what comes out of a frame x and its store s
abbrev pub out_of : Rows → List ℕ → List ℕ → ℕ → ℕ
out_of R x s i = block_byte (lane_of x s (i / 165)) (out_from R (i % 165 / 5)) (i % 5)

-- and of what is kept
abbrev pub kept_of : Rows → List ℕ → List ℕ → ℕ → ℕ
kept_of R x s i = block_byte (lane_of x s (i / 90)) (kept_from R (i % 90 / 5)) (i % 5)

-- what the code stores for rows R
module _ (R : Rows) (apart : Apart R) (x s : List ℕ) (long : length x ≡ 5280) (X : AllBytes x) (S : AllBytes s) (y : Lanes)
    (same : (p i : ℕ) → p < 32 → i < 1320 → lanes_of x p i ≡ y p i) where
  -- a block that entered with the frame
  entered_number : (p b c : ℕ) → p < 32 → b < 33 → c < 5 → block_byte (lane_of x s p) b c ≡ number 8 (λ k. y p (40 * b + (8 * c + k)))
  entered_number p b c hp hb hc =
      out_number x s long p hp X b c hb hc ∙ value_cong 2 8 _ _ (λ k h. same p (40 * b + (8 * c + k)) hp (omega arith))

  -- the 33 blocks that come out
  out_byte : (p b c : ℕ) → p < 32 → b < 33 → c < 5 → block_byte (lane_of x s p) (out_from R b) c ≡ number 8 (λ k. rows_out R s y p (40 * b + (8 * c + k)))
  unfolding rows_out out_from Apart
  out_byte p b c hp hb hc = moved (ltb n d) refl ∙ value_cong 2 8 _ _ bit
    where
      r : ℕ
      r = b % 3

      n : ℕ
      n = b / 3

      d : ℕ
      d = R.depth r

      from : Bool → ℕ
      from g = cond g (33 + (R.start r + (d - suc n))) (3 * (n - d) + r)

      goal : Bool → ℕ → ℕ
      goal g m = cond g (stored s p (40 * (R.start r + (d - suc n)) + m)) (y p (40 * (3 * (n - d) + r) + m))

      moved : (g : Bool) → ltb n d ≡ g → block_byte (lane_of x s p) (from g) c ≡ number 8 (λ k. goal g (8 * c + k))
      moved true e =
          let h : n < d = ltb-true n d e in
          kept_number x s long p hp S (R.start r + (d - suc n)) c (apart r (d - suc n) (omega arith) (omega arith)).0 hc
      moved false e = entered_number p (3 * (n - d) + r) c hp (omega arith) hc

      bit : (k : ℕ) → k < 8 → goal (ltb n d) (8 * c + k) ≡ rows_out R s y p (40 * b + (8 * c + k))
      bit k h =
          let m : ℕ = 8 * c + k in
          let e : (40 * b + m) / 40 ≡ b = omega arith in
          let f : (40 * b + m) % 40 ≡ m = omega arith in
          rw (e, f)

  -- the 18 that are kept
  kept_byte : (p j c : ℕ) → p < 32 → j < 18 → c < 5 → block_byte (lane_of x s p) (kept_from R j) c ≡ number 8 (λ k. store_bit R s y p (40 * j + (8 * c + k)))
  unfolding store_bit kept_from
  kept_byte p j c hp hj hc = moved (ltb q 11) refl ∙ value_cong 2 8 _ _ bit
    where
      r : ℕ
      r = row_at R j

      q : ℕ
      q = j - R.start r

      row_lt : r < 3
      row_lt = go (ltb j (R.start 1)) (ltb j (R.start 1 + R.depth 1))
        where
          go : (a b : Bool) → cond a 0 (cond b 1 2) < 3
          go true b = lit< tt
          go false true = lit< tt
          go false false = lit< tt

      from : Bool → ℕ
      from g = cond g (3 * (11 - suc q) + r) (33 + (R.start r + (q - 11)))

      goal : Bool → ℕ → ℕ
      goal g m = cond g (y p (40 * (3 * (11 - suc q) + r) + m)) (stored s p (40 * (R.start r + (q - 11)) + m))

      moved : (g : Bool) → ltb q 11 ≡ g → block_byte (lane_of x s p) (from g) c ≡ number 8 (λ k. goal g (8 * c + k))
      moved true e = entered_number p (3 * (11 - suc q) + r) c hp (omega (arith, row_lt)) hc
      moved false e =
          let h : 11 ≤ q = ltb-false q 11 e in
          kept_number x s long p hp S (R.start r + (q - 11)) c (omega arith) hc

      bit : (k : ℕ) → k < 8 → goal (ltb q 11) (8 * c + k) ≡ store_bit R s y p (40 * j + (8 * c + k))
      bit k h =
          let m : ℕ = 8 * c + k in
          let e : (40 * j + m) / 40 ≡ j = omega arith in
          let f : (40 * j + m) % 40 ≡ m = omega arith in
          rw (e, f)

  pub out_is : tabulate 5280 (out_of R x s) ≡ lane_bytes (rows_out R s y)
  unfolding lane_bytes bytes
  out_is =
      tabulate_cong 5280 _ _
      (λ i h.
      out_byte (i / 165) (i % 165 / 5) (i % 5) (omega arith) (omega arith) (omega arith)
      ∙ sym (lane_byte_lem 165 five_165 (lit< tt) (rows_out R s y) i))

  pub kept_is : tabulate 2880 (kept_of R x s) ≡ store_next R s y
  unfolding store_next bytes
  kept_is =
      tabulate_cong 2880 _ _
      (λ i h.
      kept_byte (i / 90) (i % 90 / 5) (i % 5) (omega arith) (omega arith) (omega arith)
      ∙ sym (lane_byte_lem 90 five_90 (lit< tt) (store_bit R s y) i))

-- ---- frames by their bits

-- a frame of given bits has them
module _ (y : Lanes) (bit : (p i : ℕ) → y p i < 2) where
  pub frame_bit : (p i : ℕ) → p < 32 → i < 1320 → lanes_of (lane_bytes y) p i ≡ y p i
  unfolding lane_bytes
  frame_bit p i hp hi =
      let e : (1320 * p + i) / 1320 ≡ p = omega arith in
      let f : (1320 * p + i) % 1320 ≡ i = omega arith in
      bytes_bit 5280 (λ j. y (j / 1320) (j % 1320)) (λ j h. bit (j / 1320) (j % 1320)) (1320 * p + i) (omega arith) ∙ ap₂ y e f

  pub frame_bytes : AllBytes (lane_bytes y)
  unfolding lane_bytes
  frame_bytes = bytes_bytes 5280 (λ j. y (j / 1320) (j % 1320)) (λ j h. bit (j / 1320) (j % 1320))

pub permuted_lt : (ex : Places) (y : Lanes) → ((p i : ℕ) → y p i < 2) → (p i : ℕ) → permuted ex y p i < 2
unfolding permuted
permuted_lt ex y bit p i = go (ex (i / 10 % 4))
  where
    go : (g : Bool) → cond g (y (partner p) i) (y p i) < 2
    go true = bit (partner p) i
    go false = bit p i

pub rows_out_lt : (R : Rows) (s : List ℕ) (y : Lanes) → ((p i : ℕ) → y p i < 2) → (p i : ℕ) → rows_out R s y p i < 2
unfolding rows_out
rows_out_lt R s y bit p i = go (ltb n d)
  where
    r : ℕ
    r = i / 40 % 3

    n : ℕ
    n = i / 40 / 3

    d : ℕ
    d = R.depth r

    go : (g : Bool) → cond g (stored s p (40 * (R.start r + (d - suc n)) + i % 40)) (y p (40 * (3 * (n - d) + r) + i % 40)) < 2
    go true = bit_at_lt s (720 * p + (40 * (R.start r + (d - suc n)) + i % 40))
    go false = bit p (40 * (3 * (n - d) + r) + i % 40)

pub lanes_lt : (a : List ℕ) (p i : ℕ) → lanes_of a p i < 2
lanes_lt a p i = bit_at_lt a (1320 * p + i)

-- the same both ways
pub permuted_twice : PermutedTwice
unfolding permuted
permuted_twice ex x p i h = go (ex (i / 10 % 4))
  where
    back : partner (partner p) ≡ p
    back = omega arith

    go : (b : Bool) → cond b (cond b (x (partner (partner p)) i) (x (partner p) i)) (cond b (x (partner p) i) (x p i)) ≡ x p i
    go true = ap (λ (q : ℕ). x q i) back
    go false = refl

-- the permutation depends on a frame's bits alone, and on the four places that a number names
pub permuted_cong : (ex ex' : Places) (x y : Lanes) → ((s : ℕ) → s < 4 → ex s ≡ ex' s) → ((p i : ℕ) → p < 32 → i < 1320 → x p i ≡ y p i)
    → lane_bytes (permuted ex x) ≡ lane_bytes (permuted ex' y)
unfolding lane_bytes permuted
permuted_cong ex ex' x y places same =
    bytes_cong 5280 _ _
    (λ j h. λ z. cond (places (j % 1320 / 10 % 4) (omega arith) z) (same (partner (j / 1320)) (j % 1320) (omega arith) (omega arith) z)
    (same (j / 1320) (j % 1320) (omega arith) (omega arith) z))

-- ---- the loops that store blocks

-- a byte of a part that was read
part_read : (x : List ℕ) (at n k : ℕ) {part : List ℕ} → part ≡ take n (drop at x) → k < n → get_or part k 0 ≡ get_or x (at + k) 0
part_read x at n k is h = ap (λ (s : List ℕ). get_or s k 0) is ∙ get_or-take n (drop at x) k 0 h ∙ get_or-drop at x k 0

-- byte k of sixteen blocks of the permuted frame
pub permuted_at : (ex : Places) (b there : ℕ) {own partners row : List ℕ} (x : List ℕ) → AllBytes x → IsMaskRow ex row → b < 66
    → there ≡ (80 * b + 2640) % 5280 → own ≡ take 80 (drop (80 * b) x) → partners ≡ take 80 (drop there x)
    → (k : ℕ) → k < 80 → merged_byte (get_or own k 0) (get_or partners k 0) (get_or row k 0) ≡ permuted_byte ex x (80 * b + k)
permuted_at ex b there {own} {partners} {row} x X M hb at mine theirs k hk =
    let c : k % 5 ≡ (80 * b + k) % 5 = omega arith in
    (λ z. merged_byte (part_read x (80 * b) 80 k mine hk z) (part_read x there 80 k theirs hk z) (get_or row k 0))
    ∙ permuted_byte_lem ex (80 * b + k) (there + k) (get_or row k 0) x X (omega arith) (omega arith)
    (λ q hq. M.bit k q hk hq ∙ ap (λ (n : ℕ). ex ((8 * n + q) / 10)) c)

-- a step that lends the part of the m elements from i on
part_step : (f : ℕ → ℕ) {n i : ℕ} {out₀ out : List ℕ} (e m : ℕ) (part : List ℕ) (w : ℕ → ℕ) → Filling f n out₀ out i → e ≡ i + m → e ≤ n
    → part ≡ tabulate m w → ((k : ℕ) → k < m → w k ≡ f (i + k)) → Filling f n out₀ (take i out ++ (part ++ drop (e - i) (drop i out))) e
part_step f {n} {i} {out₀} {out} e m part w F q le is agree =
    let size : m ≡ length (take (e - i) (drop i out)) = simp (length-take, length-drop) (omega (arith, F.long)) in
    filling_put f e part (λ _. w) F (omega arith) le (is ∙ ap (λ (l : ℕ). tabulate l w) size) (λ k h. agree k (omega arith))

-- a step that lends the part of number p of L bytes: a lane, or sixteen blocks
pub lane_step : (f : ℕ → ℕ) {n : ℕ} {out₀ out : List ℕ} (L p e : ℕ) (part : List ℕ) (w : ℕ → ℕ) → Filling f n out₀ out (L * p) → e ≡ L * p + L → e ≤ n
    → part ≡ tabulate L w → ((k : ℕ) → k < L → w k ≡ f (L * p + k))
    → Filling f n out₀ (take (L * p) out ++ (part ++ drop (e - L * p) (drop (L * p) out))) (L * (p + 1))
lane_step f {n} {out₀} L p e part w F q le is agree =
    let next : e ≡ L * (p + 1) = q ∙ sym (rw (add-one, mul-suc)) in
    subst (Filling f n out₀ _) next (part_step f e L part w F q le is agree)

-- byte i of the blocks of a lane whose numbers are from 0, from 1, ..
abbrev pub moved_byte : List ℕ → (ℕ → ℕ) → ℕ → ℕ
moved_byte z from i = block_byte z (from (i / 5)) (i % 5)

-- a byte of a block that was copied
pub block_read : (z : List ℕ) (v c : ℕ) {part : List ℕ} → part ≡ block_of z v → c < 5 → get_or part c 0 ≡ block_byte z v c
unfolding block_byte
block_read z v c is h = part_read z (5 * v) 5 c is h

-- a step that lends the part of block b, where another is copied
pub block_step : (z : List ℕ) (from : ℕ → ℕ) (b e : ℕ) (part : List ℕ) {n i : ℕ} {out₀ out : List ℕ} → Filling (moved_byte z from) n out₀ out i
    → (i ≡ 5 * b) × (e ≡ i + 5) × (e ≤ n) → length part ≡ length (take (e - i) (drop i out)) → part ≡ block_of z (from b)
    → Filling (moved_byte z from) n out₀ (take i out ++ (part ++ drop (e - i) (drop i out))) (5 * (b + 1))
block_step z from b e part {n} {i} {out₀} {out} F h size is =
    subst (Filling (moved_byte z from) n _ _) (omega arith) (part_step (moved_byte z from) e 5 part (block_byte z (from b)) F (omega arith) h.2 whole agree)
  where
    five : length part ≡ 5
    five = size ∙ simp (length-take, length-drop) (omega (arith, F.long))

    whole : part ≡ tabulate 5 (block_byte z (from b))
    whole = is_tabulate 0 part 5 _ five (λ c l. block_read z (from b) c is l)

    agree : (k : ℕ) → k < 5 → block_byte z (from b) k ≡ block_byte z (from ((i + k) / 5)) ((i + k) % 5)
    agree k l =
        let d : b ≡ (i + k) / 5 = omega arith in
        let r : k ≡ (i + k) % 5 = omega arith in
        λ w. block_byte z (from (d w)) (r w)

-- the two rows that fill a store, one behind the other
pub rows_joined : {R : Rows} {r : ℕ} (z : List ℕ) {s t : List ℕ} → FillStore R r
    → s ≡ tabulate (5 * R.depth r) (moved_byte z (λ j. kept_from R (R.start r + j)))
    → t ≡ tabulate (5 * R.depth (r + 1)) (moved_byte z (λ j. kept_from R (R.start (r + 1) + j)))
    → s ++ t ≡ tabulate 90 (moved_byte z (kept_from R))
rows_joined {R} {r} z F es et =
    ap₂ ◌++◌ (es ∙ tabulate_cong m _ f (λ i _. at i i (R.start r) (omega arith) (omega arith)))
    (et ∙ tabulate_cong n _ (λ i. f (m + i)) (λ i _. at i (m + i) (R.start (r + 1)) (omega arith) (omega arith)))
    ∙ sym (tabulate_append m n f) ∙ ap (λ (k : ℕ). tabulate k f) (omega arith)
  where
    f : ℕ → ℕ
    f = moved_byte z (kept_from R)

    m : ℕ
    m = 5 * R.depth r

    n : ℕ
    n = 5 * R.depth (r + 1)

    at : (i k s : ℕ) → s + i / 5 ≡ k / 5 → i % 5 ≡ k % 5 → block_byte z (kept_from R (s + i / 5)) (i % 5) ≡ f k
    at i k s d c = λ w. block_byte z (kept_from R (d w)) (c w)

-- byte k of lane p, of L bytes, counted over the lanes
pub lane_block : (x s : List ℕ) {z : List ℕ} (from : ℕ → ℕ) (L p k : ℕ) → z ≡ lane_of x s p → ((i : ℕ) → i % L % 5 ≡ i % 5) → k < L
    → moved_byte z from k ≡ block_byte (lane_of x s ((L * p + k) / L)) (from ((L * p + k) % L / 5)) ((L * p + k) % 5)
lane_block x s {z} from L p k is five h =
    let e : p * L + k ≡ L * p + k = ap (λ (x : ℕ). x + k) (mul_comm p L) in
    let d : p ≡ (L * p + k) / L = sym (digits_div p h) ∙ ap (λ (x : ℕ). x / L) e in
    let r : k ≡ (L * p + k) % L = sym (digits_mod p h) ∙ ap (λ (x : ℕ). x % L) e in
    let c : k % 5 ≡ (L * p + k) % 5 = ap (λ (x : ℕ). x % 5) r ∙ five (L * p + k) in
    ap (λ (z : List ℕ). moved_byte z from k) is ∙ (λ w. block_byte (lane_of x s (d w)) (from (r w / 5)) (c w))
