-- Counting the bits in which lanes and what was sent differ: of two byte strings, and of lanes behind the fill.
-- Assumes nothing.
use mathlib.Core.Path.{◌≡◌, refl, sym, ap, ap₂, ◌∙◌}
use mathlib.Core.Bool.{Bool, not}
use mathlib.Core.List.{List, [], ◌∷◌}
use Prim.Native.Nat.{ℕ, zero, suc, ◌+◌, ◌*◌, ◌-◌, ◌/◌, ◌%◌, ◌^◌, ◌≤◌, ◌<◌, zero-le}
use native.Mathlib.Nat.{zero-add, mul-suc}
use native.Mathlib.Decide.{dec_lt}
use native.Mathlib.Omega.{arith}
use lib.Arith.{lt-one}
use lib.Bits.{bit_xor, xor_lt}
use lib.Count.{ones, ones_step, ones-le}
use lib.Dec.{eqb, lit<}
use lib.ListN.{length, get_or, take, drop, length-take, length-drop, get_or-eq_default}
use lib.Seq.{get_or-take, get_or-drop}
use Rattle.std.specs.Prelude.{zip}
use Rattle.std.specs.Simd.{first_chunks}
use Rattle.std.proofs.lemmas.List.{drop-drop, drop-take, take-take}
use Rattle.std.proofs.lemmas.List.Sums.{sum_by-cons}
use borrow.Author.Tests.{lt-ltb, le-ltb}
use Rattle.bits.specs.definitions.Bits.{bit_of, bit_at, count}
use Rattle.bits.proofs.Count.{count_append, count_cong, count_none}
use Rattle.bits.proofs.Fields.{bit_at_byte}
use Rattle.bits.proofs.Weight.{weight, weight_differs}
use Rattle.traffic.specs.private.Counting.{differing, differs}

ones_weight : (k n : ℕ) → n < 2 ^ k → ones n ≡ weight k n
unfolding ones weight
ones_weight zero n h = ap ones (lt-one h)
ones_weight (suc k) n h = ones_step n ∙ ap (λ (x : ℕ). n % 2 + x) (ones_weight k (n / 2) (omega arith))

-- ---- two byte strings

-- two bytes differ in the bits that are set in their exclusive or
byte_differs : (a b : ℕ) → a < 256 → b < 256 → ones (bit_xor a b) ≡ count (λ q. not (eqb (bit_of 8 a q) (bit_of 8 b q))) 8
byte_differs a b ha hb = ones_weight 8 (bit_xor a b) (xor_lt 8 a b ha hb) ∙ sym (weight_differs 8 a b)

-- in at most 8 a byte
pub differing_le : (a b : List ℕ) → ((m : ℕ) → get_or a m 0 < 256) → ((m : ℕ) → get_or b m 0 < 256) → differing a b ≤ 8 * length a
differing_le [] b ha hb = zero-le
differing_le (x ∷ a) [] ha hb = zero-le
differing_le (x ∷ a) (y ∷ b) ha hb =
    omega (
      arith,
      sum_by-cons (λ p. ones (bit_xor p.0 p.1)) (x, y) (zip a b),
      ones-le 8 (bit_xor x y) (xor_lt 8 x y (ha 0) (hb 0)),
      differing_le a b (λ m. ha (suc m)) (λ m. hb (suc m)),
    )

-- a byte string without its first bytes, and without its last
bit_at_drop : (s : List ℕ) (n i : ℕ) → bit_at (drop n s) i ≡ bit_at s (8 * n + i)
unfolding bit_at
bit_at_drop s n i =
    let d : n + i / 8 ≡ (8 * n + i) / 8 = omega arith in
    let r : i % 8 ≡ (8 * n + i) % 8 = omega arith in
    ap₂ (bit_of 8) (get_or-drop n s (i / 8) 0 ∙ ap (λ (m : ℕ). get_or s m 0) d) r

bit_at_take : (s : List ℕ) (n i : ℕ) → i < 8 * n → bit_at (take n s) i ≡ bit_at s i
unfolding bit_at
bit_at_take s n i h = ap (λ (x : ℕ). bit_of 8 x (i % 8)) (get_or-take n s (i / 8) 0 (omega arith))

-- bit i of two byte strings differs
abbrev apart : List ℕ → List ℕ → ℕ → Bool
apart a b i = not (eqb (bit_at a i) (bit_at b i))

-- so two byte strings differ in the bits in which they differ byte by byte
strings_differ : (a b : List ℕ) → ((m : ℕ) → get_or a m 0 < 256) → ((m : ℕ) → get_or b m 0 < 256) → length a ≤ length b
    → differing a b ≡ count (apart a b) (8 * length a)
unfolding count
strings_differ [] b ha hb h = refl
strings_differ (x ∷ a) [] ha hb h = absurd (omega arith)
strings_differ (x ∷ a) (y ∷ b) ha hb h =
    let e : 8 + 8 * length a ≡ 8 * length (x ∷ a) = omega arith in
    sum_by-cons (λ p. ones (bit_xor p.0 p.1)) (x, y) (zip a b)
    ∙ ap₂ ◌+◌ (byte_differs x y (ha 0) (hb 0) ∙ count_cong 8 _ (apart (x ∷ a) (y ∷ b)) first)
    (strings_differ a b (λ m. ha (suc m)) (λ m. hb (suc m)) (omega arith) ∙ count_cong (8 * length a) _ (λ i. apart (x ∷ a) (y ∷ b) (8 + i)) rest)
    ∙ sym (count_append (apart (x ∷ a) (y ∷ b)) 8 (8 * length a)) ∙ ap (count (apart (x ∷ a) (y ∷ b))) e
  where
    behind : (x : ℕ) (a : List ℕ) (i : ℕ) → bit_at a i ≡ bit_at (x ∷ a) (8 + i)
    behind x a i = bit_at_drop (x ∷ a) 1 i

    rest : (i : ℕ) → i < 8 * length a → apart a b i ≡ apart (x ∷ a) (y ∷ b) (8 + i)
    rest i l = ap₂ (λ (u v : ℕ). not (eqb u v)) (behind x a i) (behind y b i)

    front : (x : ℕ) (a : List ℕ) (q : ℕ) → q < 8 → bit_of 8 x q ≡ bit_at (x ∷ a) q
    front x a q l = sym (bit_at_byte (x ∷ a) 0 q l) ∙ ap (bit_at (x ∷ a)) (zero-add q)

    first : (q : ℕ) → q < 8 → not (eqb (bit_of 8 x q) (bit_of 8 y q)) ≡ apart (x ∷ a) (y ∷ b) q
    first q l = ap₂ (λ (u v : ℕ). not (eqb u v)) (front x a q l) (front y b q l)

-- ---- lanes

-- n bytes of a byte string from byte o on
abbrev part : ℕ → ℕ → List ℕ → List ℕ
part o n s = take n (drop o s)

part_bit : (o n : ℕ) (s : List ℕ) (i : ℕ) → i < 8 * n → bit_at (part o n s) i ≡ bit_at s (8 * o + i)
part_bit o n s i h = bit_at_take (drop o s) n i h ∙ bit_at_drop s o i

part_length : (o n : ℕ) (s : List ℕ) → o + n ≤ length s → length (part o n s) ≡ n
part_length o n s h = simp (length-take, length-drop) (omega arith)

part_bytes : (o n : ℕ) (s : List ℕ) → ((m : ℕ) → get_or s m 0 < 256) → (m : ℕ) → get_or (part o n s) m 0 < 256
part_bytes o n s b m = go (dec_lt m n)
  where
    go : Dec (m < n) → get_or (part o n s) m 0 < 256
    go (yes h) = rw (get_or-take n (drop o s) m 0 h, get_or-drop o s m 0) (b (o + m))
    go (no h) = let short : length (part o n s) ≤ m = simp length-take (omega arith) in rw (get_or-eq_default (part o n s) 0 short) (lit< tt)

module _ {fill p o n k : ℕ} (lanes sent : List ℕ) (hf : fill ≤ 165) (hp : p < 32) (ho : o ≡ 165 * p + fill) (hn : n ≡ 165 - fill) (hk : k ≡ n)
    (el : length lanes ≡ 5280) (es : length sent ≡ 5280) (bl : (m : ℕ) → get_or lanes m 0 < 256) (bs : (m : ℕ) → get_or sent m 0 < 256) where
  -- the counts fit
  part_fits : differing (part o n lanes) (part (165 * p) k sent) < 2 ^ 32
  part_fits =
      omega (
        arith,
        differing_le (part o n lanes) (part (165 * p) k sent) (part_bytes o n lanes bl) (part_bytes (165 * p) k sent bs),
        part_length o n lanes (omega arith),
      )

  -- a lane and what was sent differ behind the fill in the bits in which these parts of them do
  part_differs : differing (part o n lanes) (part (165 * p) k sent) ≡ count (differs fill lanes sent p) 1320
  unfolding differs
  part_differs =
      let all : 8 * fill + 8 * n ≡ 1320 = omega arith in
      strings_differ a b (part_bytes o n lanes bl) (part_bytes (165 * p) k sent bs) (omega (arith, size, part_length (165 * p) k sent (omega arith)))
      ∙ ap (λ (n : ℕ). count (apart a b) (8 * n)) size
      ∙ count_cong (8 * n) _ (λ i. differs fill lanes sent p (8 * fill + i)) behind
      ∙ omega (arith, count_append (differs fill lanes sent p) (8 * fill) (8 * n), none, ap (count (differs fill lanes sent p)) all)
    where
      a : List ℕ
      a = part o n lanes

      b : List ℕ
      b = part (165 * p) k sent

      size : length a ≡ n
      size = part_length o n lanes (omega arith)

      -- nothing of the fill counts
      none : count (differs fill lanes sent p) (8 * fill) ≡ 0
      none = count_none (differs fill lanes sent p) (8 * fill) (λ i h. rw (lt-ltb i (8 * fill) h))

      behind : (i : ℕ) → i < 8 * n → apart a b i ≡ differs fill lanes sent p (8 * fill + i)
      behind i h =
          let e : 8 * fill + i - 8 * fill ≡ i = omega arith in
          let f : 8 * o + i ≡ 1320 * p + (8 * fill + i) = omega arith in
          let g : 8 * (165 * p) + i ≡ 1320 * p + i = omega arith in
          rw (le-ltb (8 * fill + i) (8 * fill) (omega arith), e, part_bit o n lanes i h, part_bit (165 * p) k sent i (omega arith), f, g)

-- lane p of lanes that are cut in lanes
lane_at : (k : ℕ) (s : List ℕ) (p : ℕ) → p < k → get_or (first_chunks 165 k s) p [] ≡ part (165 * p) 165 s
lane_at zero s p h = absurd (omega arith)
lane_at (suc k) s zero h = refl
lane_at (suc k) s (suc p) h =
    let e : 165 + 165 * p ≡ 165 * suc p = rw mul-suc (omega arith) in
    lane_at k (drop 165 s) p (omega arith) ∙ ap (take 165) (drop-drop (165 * p) 165 s ∙ ap (λ (m : ℕ). drop m s) e)

module _ {fill p : ℕ} {lane : List ℕ} (s : List ℕ) (hf : fill ≤ 165) (hp : p < 32) (el : length s ≡ 5280) (is : lane ≡ part (165 * p) 165 s) where
  behind_fill : take (length lane - fill) (drop fill lane) ≡ part (165 * p + fill) (165 - fill) s
  behind_fill =
      let n : ℕ = 165 - fill in
      let all : 165 ≡ fill + n = omega (arith, hf) in
      let size : length lane ≡ 165 = ap length is ∙ part_length (165 * p) 165 s (omega (arith, hp, el)) in
      ap₂ (λ (m : ℕ) (l : List ℕ). take (m - fill) (drop fill l)) size is
      ∙ ap (take n) (ap (λ (m : ℕ). drop fill (take m (drop (165 * p) s))) all ∙ drop-take fill n (drop (165 * p) s))
      ∙ take-take n n (drop fill (drop (165 * p) s)) (omega arith) ∙ ap (take n) (drop-drop fill (165 * p) s)

  before_fill : take (165 - fill) lane ≡ part (165 * p) (165 - fill) s
  before_fill = ap (take (165 - fill)) is ∙ take-take (165 - fill) 165 (drop (165 * p) s) (omega arith)

module _ {fill p : ℕ} {ours theirs : List (List ℕ)} (lanes sent : List ℕ) (hf : fill ≤ 165) (hp : p < 32)
    (eo : ours ≡ first_chunks 165 (length lanes / 165) lanes) (et : theirs ≡ first_chunks 165 (length sent / 165) sent)
    (el : length lanes ≡ 5280) (es : length sent ≡ 5280) (bl : (m : ℕ) → get_or lanes m 0 < 256) (bs : (m : ℕ) → get_or sent m 0 < 256) where
  both : differing (take (length (get_or ours p []) - fill) (drop fill (get_or ours p []))) (take (165 - fill) (get_or theirs p []))
      ≡ differing (part (165 * p + fill) (165 - fill) lanes) (part (165 * p) (165 - fill) sent)
  both =
      ap₂ differing
      (behind_fill lanes hf hp el (ap (λ (r : List (List ℕ)). get_or r p []) eo ∙ lane_at (length lanes / 165) lanes p (omega (arith, hp, el))))
      (before_fill sent hf hp es (ap (λ (r : List (List ℕ)). get_or r p []) et ∙ lane_at (length sent / 165) sent p (omega (arith, hp, es))))

  -- the counts of a lane fit
  pub lane_fits : differing (take (length (get_or ours p []) - fill) (drop fill (get_or ours p []))) (take (165 - fill) (get_or theirs p [])) < 2 ^ 32
  lane_fits = rw both (part_fits lanes sent hf hp refl refl refl el es bl bs)

  -- and are those behind the fill
  pub lane_differs : differing (take (length (get_or ours p []) - fill) (drop fill (get_or ours p []))) (take (165 - fill) (get_or theirs p []))
      ≡ count (differs fill lanes sent p) 1320
  lane_differs = both ∙ part_differs lanes sent hf hp refl refl refl el es bl bs
