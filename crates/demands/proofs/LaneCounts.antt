-- Pairs of a lane and a number that pass a test, counted along a map of pairs.
-- Assumes nothing.
use mathlib.Core.Path.{◌≡◌, refl, sym, ap, ◌∙◌, subst₂}
use mathlib.Core.Bool.{Bool, true, false, cond, ◌&&◌, false≢true}
use Prim.Native.Nat.{ℕ, suc, ◌+◌, ◌-◌, ◌*◌, ◌/◌, ◌%◌, ◌≤◌, ◌<◌}
use native.Mathlib.Omega.{arith}
use Rattle.bits.specs.definitions.Bits.{count}
use Rattle.bits.proofs.Count.{count_append, count_pos, count_inject}
use Rattle.demands.specs.definitions.ReedSolomon.{count_in_lanes}

-- both of two tests
pub both : {a b : Bool} → a ≡ true → b ≡ true → (a && b) ≡ true
both s t = rw (s, t)

pub left : (a b : Bool) → (a && b) ≡ true → a ≡ true
left true b t = refl
left false b t = t

pub right : (a b : Bool) → (a && b) ≡ true → b ≡ true
right true b t = t
right false b t = absurd (false≢true t)

-- a pair as one number, and back
pairs_lt : (l s m : ℕ) → l < 32 → s < m → 32 * s + l < 32 * m
pairs_lt l s m h k = omega arith

lane_of_lem : (l s : ℕ) → l < 32 → (32 * s + l) % 32 ≡ l
lane_of_lem l s h = omega arith

number_of_lem : (l s : ℕ) → l < 32 → (32 * s + l) / 32 ≡ s
number_of_lem l s h = omega arith

-- no two pairs that pass go to one pair
pub lanes_inject : (f : ℕ → ℕ → Bool) (n : ℕ) (g : ℕ → ℕ → Bool) (m : ℕ) (lane number : ℕ → ℕ → ℕ)
    → ((p s : ℕ) → p < 32 → s < n → f p s ≡ true → (lane p s < 32) × (number p s < m) × (g (lane p s) (number p s) ≡ true))
    → ((p q s t : ℕ) → p < 32 → q < 32 → s < n → t < n → f p s ≡ true → f q t ≡ true → lane p s ≡ lane q t → number p s ≡ number q t → (p ≡ q) × (s ≡ t))
    → count_in_lanes f n ≤ count_in_lanes g m
unfolding count_in_lanes
lanes_inject f n g m lane number into one =
    count_inject (λ i. f (i % 32) (i / 32)) (32 * n) (λ i. g (i % 32) (i / 32)) (32 * m) to
    (λ i h t.
    let r = into (i % 32) (i / 32) (omega arith) (omega arith) t in (
      pairs_lt (lane (i % 32) (i / 32)) (number (i % 32) (i / 32)) m r.0 r.1,
      subst₂ (λ (p s : ℕ). g p s ≡ true) (sym (lane_of_lem _ _ r.0)) (sym (number_of_lem _ _ r.0)) r.2,
    ))
    (λ i j hi hj ti tj e.
    let r = into (i % 32) (i / 32) (omega arith) (omega arith) ti in
    let q = into (j % 32) (j / 32) (omega arith) (omega arith) tj in
    let s = one (i % 32) (j % 32) (i / 32) (j / 32) (omega arith) (omega arith) (omega arith) (omega arith) ti tj
    (sym (lane_of_lem _ _ r.0) ∙ ap (λ (v : ℕ). v % 32) e ∙ lane_of_lem _ _ q.0)
    (sym (number_of_lem _ _ r.0) ∙ ap (λ (v : ℕ). v / 32) e ∙ number_of_lem _ _ q.0) in
    same s.0 s.1)
  where
    to : ℕ → ℕ
    to i = 32 * number (i % 32) (i / 32) + lane (i % 32) (i / 32)

    same : {i j : ℕ} → i % 32 ≡ j % 32 → i / 32 ≡ j / 32 → i ≡ j
    same a b = omega arith

-- one pair that passes at most, and two that pass
pub lanes_one : (f : ℕ → ℕ → Bool) (n : ℕ) → ((p s : ℕ) → p < 32 → s < n → f p s ≡ true → (p ≡ 0) × (s ≡ 0)) → count_in_lanes f n ≤ 1
unfolding count_in_lanes count
lanes_one f n only =
    count_inject (λ i. f (i % 32) (i / 32)) (32 * n) (λ _. true) 1 (λ i. i)
    (λ i h t. let z = only (i % 32) (i / 32) (omega arith) (omega arith) t in (zero_of z.0 z.1, refl)) (λ i j _ _ _ _ e. e)
  where
    zero_of : {i : ℕ} → i % 32 ≡ 0 → i / 32 ≡ 0 → i < 1
    zero_of a b = omega arith

pub lanes_two : (f : ℕ → ℕ → Bool) (n p s t : ℕ) → p < 32 → s < t → t < n → f p s ≡ true → f p t ≡ true → 1 < count_in_lanes f n
unfolding count_in_lanes count
lanes_two f n p s t hp hs ht ts tt' =
    let test : ℕ → Bool = λ i. f (i % 32) (i / 32) in
    let here : (u : ℕ) → f p u ≡ true
    → test (32 * u + p) ≡ true = λ u e. subst₂ (λ (q v : ℕ). f q v ≡ true) (sym (lane_of_lem p u hp)) (sym (number_of_lem p u hp)) e in
    let k = 32 * t + p in
    let split : 32 * n ≡ suc k + (32 * n - suc k) = omega arith in
    let one = count_pos test k (32 * s + p) (omega arith) (here s ts) in
    let more : count test (suc k) ≡ 1 + count test k = ap (λ (b : Bool). cond b 1 0 + count test k) (here t tt') in
    omega (arith, ap (count test) split ∙ count_append test (suc k) (32 * n - suc k), more, one)
