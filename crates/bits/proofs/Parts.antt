-- A part of n elements of a list, from place i on, that was lent and put back; loops that store one element in each of four parts; and the front of a list.
-- Assumes nothing.
use mathlib.Core.Path.{◌≡◌, sym, ap, ◌∙◌}
use mathlib.Core.Logic.{◌≢◌}
use mathlib.Core.List.{List, ◌++◌}
use Prim.Native.Nat.{ℕ, ◌+◌, ◌-◌, ◌*◌, ◌<◌, ◌≤◌}
use native.Mathlib.Nat.{not-suc-le-zero}
use native.Mathlib.Decide.{ℕ_discrete, dec_lt}
use native.Mathlib.Omega.{arith}
use lib.ListN.{get_or, length, set, take, drop, length-append, length-take, length-drop, length-set, get_or-append}
use lib.Seq.{get_or-append-add, get_or-take, get_or-drop, get_or-set_same, get_or-set_other}
use Rattle.bits.specs.definitions.Bits.{tabulate}
use Rattle.bits.proofs.Tabulate.{is_tabulate}

-- ---- a part put back

module _ (out part : List ℕ) (i n : ℕ) (size : length part ≡ n) (room : i + n ≤ length out) where
  front : length (take i out) ≡ i
  front = rw (length-take) (omega arith)

  pub part_inside : (k : ℕ) → k < n → get_or (take i out ++ (part ++ drop n (drop i out))) (i + k) 0 ≡ get_or part k 0
  part_inside k h =
      ap (λ (m : ℕ). get_or (take i out ++ (part ++ drop n (drop i out))) (m + k) 0) (sym front)
      ∙ get_or-append-add (take i out) (part ++ drop n (drop i out)) k 0 ∙ get_or-append part (drop n (drop i out)) 0 k (omega arith)

  pub part_before : (k : ℕ) → k < i → get_or (take i out ++ (part ++ drop n (drop i out))) k 0 ≡ get_or out k 0
  part_before k h = get_or-append (take i out) (part ++ drop n (drop i out)) 0 k (omega (arith, front)) ∙ get_or-take i out k 0 h

  pub part_behind : (k : ℕ) → i + n ≤ k → get_or (take i out ++ (part ++ drop n (drop i out))) k 0 ≡ get_or out k 0
  part_behind k h =
      let m : ℕ = k - (i + n) in
      let e : k ≡ length (take i out) + (length part + m) = omega (arith, front) in
      let f : i + (n + m) ≡ k = omega arith in
      ap (λ (x : ℕ). get_or (take i out ++ (part ++ drop n (drop i out))) x 0) e
      ∙ get_or-append-add (take i out) (part ++ drop n (drop i out)) (length part + m) 0 ∙ get_or-append-add part (drop n (drop i out)) m 0
      ∙ get_or-drop n (drop i out) m 0 ∙ get_or-drop i out (n + m) 0 ∙ ap (λ (x : ℕ). get_or out x 0) f

  pub part_length : length (take i out ++ (part ++ drop n (drop i out))) ≡ length out
  part_length = simp (length-append, length-take, length-drop) (omega arith)

-- ---- a list filled from the front of each of four parts of m elements

-- the first i elements of each part stand
pub record FourParts (f : ℕ → ℕ) (m : ℕ) (out : List ℕ) (i : ℕ) : Type 0 where
  pub long : length out ≡ 4 * m
  pub first : (k : ℕ) → k < i → get_or out k 0 ≡ f k
  pub second : (k : ℕ) → k < i → get_or out (m + k) 0 ≡ f (m + k)
  pub third : (k : ℕ) → k < i → get_or out (2 * m + k) 0 ≡ f (2 * m + k)
  pub fourth : (k : ℕ) → k < i → get_or out (3 * m + k) 0 ≡ f (3 * m + k)

module _ (f : ℕ → ℕ) {m : ℕ} {out : List ℕ} where
  pub parts_start : length out ≡ 4 * m → FourParts f m out 0
  parts_start e =
      record {
        long = e;
        first = λ k l. absurd (not-suc-le-zero l);
        second = λ k l. absurd (not-suc-le-zero l);
        third = λ k l. absurd (not-suc-le-zero l);
        fourth = λ k l. absurd (not-suc-le-zero l);
      }

  -- a turn that stores one element of each part
  pub parts_step : {i p q r a b c d : ℕ} → FourParts f m out i → i < m → (p ≡ m + i) × (q ≡ 2 * m + i) × (r ≡ 3 * m + i)
      → a ≡ f i → b ≡ f p → c ≡ f q → d ≡ f r → FourParts f m (set (set (set (set out i a) p b) q c) r d) (i + 1)
  parts_step {i} {p} {q} {r} {a} {b} {c} {d} F h at ea eb ec ed =
      record {
        long = length-set o₃ r d ∙ length-set o₂ q c ∙ length-set o₁ p b ∙ length-set out i a ∙ F.long;
        first = λ k l.
            get_or-set_other o₃ r k d 0 (omega arith) ∙ get_or-set_other o₂ q k c 0 (omega arith) ∙ get_or-set_other o₁ p k b 0 (omega arith)
            ∙ stored out i a k (ℕ_discrete k i) (omega (arith, F.long)) ea (λ ne. F.first k (omega arith));
        second = λ k l.
            get_or-set_other o₃ r (m + k) d 0 (omega arith) ∙ get_or-set_other o₂ q (m + k) c 0 (omega arith)
            ∙ stored o₁ p b (m + k) (ℕ_discrete (m + k) p) (omega (arith, F.long, length-set out i a)) eb
            (λ ne. get_or-set_other out i (m + k) a 0 (omega arith) ∙ F.second k (omega arith));
        third = λ k l.
            get_or-set_other o₃ r (2 * m + k) d 0 (omega arith)
            ∙ stored o₂ q c (2 * m + k) (ℕ_discrete (2 * m + k) q) (omega (arith, F.long, length-set out i a, length-set o₁ p b)) ec
            (λ ne. get_or-set_other o₁ p (2 * m + k) b 0 (omega arith) ∙ get_or-set_other out i (2 * m + k) a 0 (omega arith) ∙ F.third k (omega arith));
        fourth = λ k l.
            stored o₃ r d (3 * m + k) (ℕ_discrete (3 * m + k) r)
            (omega (arith, F.long, length-set out i a, length-set o₁ p b, length-set o₂ q c)) ed
            (λ ne.
            get_or-set_other o₂ q (3 * m + k) c 0 (omega arith) ∙ get_or-set_other o₁ p (3 * m + k) b 0 (omega arith)
            ∙ get_or-set_other out i (3 * m + k) a 0 (omega arith) ∙ F.fourth k (omega arith));
      }
    where
      o₁ : List ℕ
      o₁ = set out i a

      o₂ : List ℕ
      o₂ = set o₁ p b

      o₃ : List ℕ
      o₃ = set o₂ q c

      -- what is stored stands, and else what stood before
      stored : (l : List ℕ) (s v k : ℕ) → Dec (k ≡ s) → s < length l → v ≡ f s → (k ≢ s → get_or l k 0 ≡ f k) → get_or (set l s v) k 0 ≡ f k
      stored l s v k (yes e) h ev old = rw e (get_or-set_same l s v 0 h ∙ ev)
      stored l s v k (no ne) h ev old = get_or-set_other l s k v 0 ne ∙ old ne

  pub parts_done : {i n : ℕ} → FourParts f m out i → m ≤ i → n ≡ 4 * m → out ≡ tabulate n f
  parts_done {i} {n} F h e = is_tabulate 0 out n f (F.long ∙ sym e) (λ k l. at k (dec_lt k m) (dec_lt k (2 * m)) (dec_lt k (3 * m)) (omega arith))
    where
      at : (k : ℕ) → Dec (k < m) → Dec (k < 2 * m) → Dec (k < 3 * m) → k < 4 * m → get_or out k 0 ≡ f k
      at k (yes a) b c l = F.first k (omega arith)
      at k (no a) (yes b) c l = let e : m + (k - m) ≡ k = omega arith in rw (← e) (F.second (k - m) (omega arith))
      at k (no a) (no b) (yes c) l = let e : 2 * m + (k - 2 * m) ≡ k = omega arith in rw (← e) (F.third (k - 2 * m) (omega arith))
      at k (no a) (no b) (no c) l = let e : 3 * m + (k - 3 * m) ≡ k = omega arith in rw (← e) (F.fourth (k - 3 * m) (omega arith))
