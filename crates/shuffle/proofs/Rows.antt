-- A row's words put one by one: those of a lane rotated, and lane after lane; and a row of numbers, or of bytes, by the words that it has.
-- Assumes nothing.
use mathlib.Core.Path.{◌≡◌, sym, ap, ◌∙◌, subst}
use mathlib.Core.Logic.{◌≢◌}
use mathlib.Core.Bool.{cond}
use mathlib.Core.List.{List}
use Prim.Native.Nat.{ℕ, ◌+◌, ◌-◌, ◌*◌, ◌/◌, ◌%◌, ◌^◌, ◌<◌}
use native.Mathlib.Nat.{mod-eq_of_lt, div-div-eq-div-mul}
use native.Mathlib.Decide.{dec_lt, ℕ_discrete}
use native.Mathlib.Omega.{arith}
use lib.Arith.{digits_div, digits_mod}
use lib.Pow.{pow-add, field, mod-mod-pow}
use lib.Dec.{eqb}
use lib.ListN.{length, get_or, set, length-set}
use lib.Seq.{get_or-set_same, get_or-set_other}
use Rattle.bits.specs.definitions.Words.{word_of, word_at, row_of, half_of, word_bytes}
use Rattle.bits.specs.definitions.Put.{Put}
use Rattle.bits.proofs.Value.{value_lt, bit_lt}
use Rattle.bits.proofs.Joins.{put_byte}
use Rattle.bits.proofs.Tabulate.{is_tabulate}
use Rattle.bits.proofs.Words.{row_at_lem}
use Rattle.shuffle.specs.private.Rotation.{rotated, HoldsNumbers, HoldsBytes, WordPut, LaneRotated, LanesRotated, rotated_row}

-- ---- lane by lane, whatever the row is

module _ {R : Type 0} {H : R → ℕ → ℕ → Type 0} where
  module _ {n p : ℕ} {s : List ℕ} {r₀ : R} where
    -- a step that puts word 32 k + p
    pub lane_step : {r r' : R} {k i w : ℕ} → LaneRotated H n p s r₀ k r → WordPut H i w r r' → w ≡ rotated n (word_at s i) → i ≡ 32 * k + p → p < 32
        → LaneRotated H n p s r₀ (k + 1) r'
    lane_step {r} {r'} {k} {i} L P is e hp =
        record {
          here = λ m b c d. at m (ℕ_discrete m i) b c d;
          there = λ j v ne h. P.there j v (λ q. ne (omega arith)) (L.there j v ne h);
        }
      where
        at : (m : ℕ) → Dec (m ≡ i) → m < 384 → m % 32 ≡ p → m / 32 < k + 1 → H r' m (rotated n (word_at s m))
        at m (yes q) b c d = subst (λ (m : ℕ). H r' m (rotated n (word_at s m))) (sym q) (subst (H r' i) is P.here)
        at m (no ne) b c d = P.there m _ ne (L.here m b c (omega arith))

  module _ {m : ℕ} {s : List ℕ} where
    pub lanes_step : {r r' : R} {p : ℕ} → LanesRotated H m s p r → LaneRotated H (m * p % 110) p s r 12 r' → LanesRotated H m s (p + 1) r'
    lanes_step {r} {r'} {p} F L = record { below = λ i b c. at i (ℕ_discrete (i % 32) p) b c }
      where
        at : (i : ℕ) → Dec (i % 32 ≡ p) → i < 384 → i % 32 < p + 1 → H r' i (rotated (m * (i % 32) % 110) (word_at s i))
        at i (yes q) b c = subst (λ (l : ℕ). H r' i (rotated (m * l % 110) (word_at s i))) (sym q) (L.here i b q (omega arith))
        at i (no ne) b c = L.there i _ ne (F.below i b (omega arith))

-- a word by its two numbers
upper_is : (hi lo : ℕ) → hi < 2 ^ 62 → lo < 2 ^ 64 → hi ≡ word_of hi lo / 2 ^ 64
unfolding word_of
upper_is hi lo h l = rw (mod-eq_of_lt h) (sym (digits_div hi l))

lower_is : (hi lo : ℕ) → lo < 2 ^ 64 → lo ≡ word_of hi lo % 2 ^ 64
unfolding word_of
lower_is hi lo l = sym (digits_mod (hi % 2 ^ 62) l)

-- ---- as numbers

pub numbers_put : {o : List ℕ} {i hi lo : ℕ} → length o ≡ 768 → i < 384 → hi < 2 ^ 62 → lo < 2 ^ 64
    → WordPut HoldsNumbers i (word_of hi lo) o (set (set o (2 * i) hi) (2 * i + 1) lo)
numbers_put {o} {i} {hi} {lo} e b h l =
    record {
      here = (
        get_or-set_other (set o (2 * i) hi) (2 * i + 1) (2 * i) lo 0 (omega arith) ∙ get_or-set_same o (2 * i) hi 0 (omega arith) ∙ upper_is hi lo h l,
        get_or-set_same (set o (2 * i) hi) (2 * i + 1) lo 0 (omega (arith, length-set o (2 * i) hi)) ∙ lower_is hi lo l,
      );
      there = λ j v ne q. (other (2 * j) (λ e. ne (omega arith)) ∙ q.0, other (2 * j + 1) (λ e. ne (omega arith)) ∙ q.1);
    }
  where
    other : (m : ℕ) → m / 2 ≢ i → get_or (set (set o (2 * i) hi) (2 * i + 1) lo) m 0 ≡ get_or o m 0
    other m ne =
        get_or-set_other (set o (2 * i) hi) (2 * i + 1) m lo 0 (λ e. ne (omega arith)) ∙ get_or-set_other o (2 * i) m hi 0 (λ e. ne (omega arith))

pub numbers_done : {m : ℕ} {s o : List ℕ} → LanesRotated HoldsNumbers m s 32 o → length o ≡ 768 → o ≡ rotated_row m s
unfolding rotated_row half_of
numbers_done {m} {s} {o} F long = is_tabulate 0 o 768 _ long (λ j b. at j (ℕ_discrete (j % 2) 0) b)
  where
    word : ℕ → ℕ
    word i = rotated (m * (i % 32) % 110) (word_at s i)

    at : (j : ℕ) → Dec (j % 2 ≡ 0) → j < 768 → get_or o j 0 ≡ cond (eqb (j % 2) 0) (word (j / 2) / 2 ^ 64) (word (j / 2) % 2 ^ 64)
    at j (yes q) b =
        let e : j ≡ 2 * (j / 2) = omega arith in
        rw q (ap (λ (k : ℕ). get_or o k 0) e ∙ (F.below (j / 2) (omega arith) (omega arith)).0)
    at j (no ne) b =
        let e : j ≡ 2 * (j / 2) + 1 = omega arith in
        let q : j % 2 ≡ 1 = omega arith in
        rw q (ap (λ (k : ℕ). get_or o k 0) e ∙ (F.below (j / 2) (omega arith) (omega arith)).1)

-- ---- as bytes

-- a byte of a number's upper or lower 64 bits
upper_byte : (w b : ℕ) → b < 8 → w / 2 ^ 64 / 2 ^ (8 * (8 - 1 - b)) % 256 ≡ w / 2 ^ (8 * (15 - b)) % 256
upper_byte w b h =
    let e : 64 + 8 * (8 - 1 - b) ≡ 8 * (15 - b) = omega arith in
    ap (λ (x : ℕ). x % 256) (div-div-eq-div-mul w (2 ^ 64) (2 ^ (8 * (8 - 1 - b))) ∙ ap (λ (x : ℕ). w / x) (sym (pow-add 2 64 (8 * (8 - 1 - b))))
    ∙ ap (λ (k : ℕ). w / 2 ^ k) e)

lower_byte : (w b : ℕ) → b < 8 → w % 2 ^ 64 / 2 ^ (8 * (8 - 1 - b)) % 256 ≡ w / 2 ^ (8 * (15 - (8 + b))) % 256
lower_byte w b h =
    let e : 8 * b + 8 + 8 * (8 - 1 - b) ≡ 64 = omega arith in
    let d : 8 * (8 - 1 - b) ≡ 8 * (15 - (8 + b)) = omega arith in
    ap (λ (k : ℕ). w % 2 ^ k / 2 ^ (8 * (8 - 1 - b)) % 256) (sym e)
    ∙ ap (λ (x : ℕ). x % 256) (field w (8 * b + 8) (8 * (8 - 1 - b)))
    ∙ mod-mod-pow (w / 2 ^ (8 * (8 - 1 - b))) (8 * b) 8
    ∙ ap (λ (k : ℕ). w / 2 ^ k % 256) d

pub bytes_put : {o o' o'' : List ℕ} {i hi lo : ℕ} → hi < 2 ^ 62 → lo < 2 ^ 64 → Put 8 hi (16 * i) o o' → Put 8 lo (16 * i + 8) o' o''
    → WordPut HoldsBytes i (word_of hi lo) o o''
bytes_put {o} {o'} {o''} {i} {hi} {lo} h l P Q =
    record {
      here = λ b lt. at b (dec_lt b 8) lt;
      there = λ j v ne q b lt. other j b (dec_lt j i) ne lt ∙ q b lt;
    }
  where
    w : ℕ
    w = word_of hi lo

    at : (b : ℕ) → Dec (b < 8) → b < 16 → get_or o'' (16 * i + b) 0 ≡ w / 2 ^ (8 * (15 - b)) % 256
    at b (yes lt) _ =
        Q.before (16 * i + b) (omega arith) ∙ put_byte P b lt ∙ ap (λ (v : ℕ). v / 2 ^ (8 * (8 - 1 - b)) % 256) (upper_is hi lo h l) ∙ upper_byte w b lt
    at b (no ge) lt =
        let c = b - 8 in
        let e : 16 * i + b ≡ 16 * i + 8 + c = omega arith in
        let d : 8 + c ≡ b = omega arith in
        ap (λ (m : ℕ). get_or o'' m 0) e ∙ put_byte Q c (omega arith) ∙ ap (λ (v : ℕ). v / 2 ^ (8 * (8 - 1 - c)) % 256) (lower_is hi lo l)
        ∙ lower_byte w c (omega arith)
        ∙ ap (λ (k : ℕ). w / 2 ^ (8 * (15 - k)) % 256) d

    other : (j b : ℕ) → Dec (j < i) → j ≢ i → b < 16 → get_or o'' (16 * j + b) 0 ≡ get_or o (16 * j + b) 0
    other j b (yes lt) ne h = Q.before (16 * j + b) (omega arith) ∙ P.before (16 * j + b) (omega arith)
    other j b (no ge) ne h = Q.after (16 * j + b) (omega arith) ∙ P.after (16 * j + b) (omega arith)

pub bytes_done : {m : ℕ} {s o : List ℕ} → LanesRotated HoldsBytes m s 32 o → length o ≡ 6144 → o ≡ word_bytes 384 (rotated_row m s)
unfolding word_bytes rotated_row rotated
bytes_done {m} {s} {o} F long = is_tabulate 0 o 6144 _ long at
  where
    word : ℕ → ℕ
    word i = rotated (m * (i % 32) % 110) (word_at s i)

    at : (j : ℕ) → j < 6144 → get_or o j 0 ≡ word_at (row_of 384 word) (j / 16) / 2 ^ (8 * (15 - j % 16)) % 256
    at j b =
        let e : j ≡ 16 * (j / 16) + j % 16 = omega arith in
        ap (λ (k : ℕ). get_or o k 0) e ∙ F.below (j / 16) (omega arith) (omega arith) (j % 16) (omega arith)
        ∙ ap (λ (w : ℕ). w / 2 ^ (8 * (15 - j % 16)) % 256) (sym (row_at_lem 384 word (j / 16) (omega arith) (value_lt 2 126 _ (λ r _. bit_lt 126 _ _))))
