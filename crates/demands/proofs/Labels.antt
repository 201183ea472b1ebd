-- Labels of symbols, and where a symbol is carried: two symbols of one codeword are never carried in one word. `SpansLabel`.
-- Assumes nothing.
use mathlib.Core.Path.{◌≡◌, refl, sym, ap, ◌∙◌}
use mathlib.Core.Logic.{◌≢◌, ⊎_elim}
use mathlib.Core.Bool.{Bool, true, false, cond}
use Prim.Native.Nat.{ℕ, zero, suc, ◌+◌, ◌*◌, ◌/◌, ◌%◌, ◌≤◌, ◌<◌}
use native.Mathlib.Omega.{arith}
use Rattle.lanes.specs.definitions.Permutation.{Places, partner}
use Rattle.lanes.proofs.Rows.{lt_or_le}
use Rattle.lanes.proofs.Return.{across}
use Rattle.demands.specs.definitions.ReedSolomon.{Labels, Labelled}
use Rattle.demands.specs.statements.ReedSolomon.{SpansLabel}

-- symbol s of a lane is carried as symbol slot s of the lane that it goes across to, so in that lane's word slot s / 11
abbrev pub slot : ℕ → ℕ
slot s = s + 72 * (s / 4 % 3)

pub spans_label : SpansLabel
spans_label n before label S =
    record {
      near = λ p s t hp hs ht e. near (before p) s t (S.one_span p s t hp hs ht e);
      every_other = λ p s t hp hs ht e. (S.alternate p s t hp hs ht (S.one_span p s t hp hs ht e)).0 e;
      one_of_two = S.one_of_two;
    }
  where
    near : (o s t : ℕ) → (s + o) / 68 ≡ (t + o) / 68 → s < t + 68
    near o s t h = omega arith

-- ---- the arithmetic: in one word, less than 68 and an even number apart, two symbols are two places apart in their blocks

in_word : (a b : ℕ) → a / 11 ≡ b / 11 → (a ≤ b + 10) × (b ≤ a + 10)
in_word a b h = omega arith

-- in one place c of their blocks: the row q is r or r - 1, and neither fits
same_place : (a b r q c s t : ℕ) → s ≡ 12 * a + 4 * r + c → t ≡ 12 * b + 4 * q + c → s + 72 * r ≤ t + 72 * q + 10 → t + 72 * q ≤ s + 72 * r + 10
    → s < t → t < s + 68 → ⊥
same_place a b r q c s t es et l m lt sp =
    let low : q ≤ r = omega arith in
    let high : r ≤ q + 1 = omega arith in
    ⊎_elim (λ (h : q < r). let e : r ≡ q + 1 = omega arith in let f : a + 6 ≤ b = omega arith in omega arith)
    (λ (h : r ≤ q). let e : r ≡ q = omega arith in let f : a + 1 ≤ b = omega arith in omega arith) (lt_or_le q r)

parts : (s : ℕ) → s ≡ 12 * (s / 12) + 4 * (s / 4 % 3) + s % 4
parts s = omega arith

opposite : (s t : ℕ) → s % 2 ≡ t % 2 → s % 4 ≢ t % 4 → (s + 2) % 4 ≡ t % 4
opposite s t e n = omega arith

two_apart : (s t : ℕ) → s < t → t < s + 68 → s % 2 ≡ t % 2 → slot s / 11 ≡ slot t / 11 → (s + 2) % 4 ≡ t % 4
two_apart s t lt sp ev w =
    let n = in_word (slot s) (slot t) w in
    opposite s t ev (λ e. same_place (s / 12) (t / 12) (s / 4 % 3) (t / 4 % 3) (s % 4) s t (parts s) (rw e (parts t)) n.0 n.1 lt sp)

by_four : (P : ℕ → Type 0) → P 0 → P 1 → P 2 → P 3 → (c : ℕ) → c < 4 → P c
by_four P a b c d zero h = a
by_four P a b c d (suc zero) h = b
by_four P a b c d (suc (suc zero)) h = c
by_four P a b c d (suc (suc (suc zero))) h = d
by_four P a b c d (suc (suc (suc (suc n)))) h = absurd (omega arith)

-- ---- one of two such places is exchanged and the other is not

module _ (ex : Places) (even : ex 0 ≢ ex 2) (odd : ex 1 ≢ ex 3) where
  sides : (s t : ℕ) → (s + 2) % 4 ≡ t % 4 → ex (s % 4) ≢ ex (t % 4)
  sides s t h =
      let e : t % 4 ≡ (s % 4 + 2) % 4 = omega arith in
      rw e (by_four (λ c. ex c ≢ ex ((c + 2) % 4)) even odd (λ e. even (sym e)) (λ e. odd (sym e)) (s % 4) (omega arith))

  module _ (n : ℕ) (label : Labels) (L : Labelled n label) where
    -- in one lane
    not_before : (p s t : ℕ) → p < 32 → s < 132 * n → t < 132 * n → label p s ≡ label p t → slot s / 11 ≡ slot t / 11 → ex (s % 4) ≡ ex (t % 4) → s < t → ⊥
    not_before p s t hp hs ht c w x lt =
        sides s t (two_apart s t lt (L.near p t s hp ht hs (sym c)) (L.every_other p s t hp hs ht c) w) x

    same : (p s t : ℕ) → p < 32 → s < 132 * n → t < 132 * n → label p s ≡ label p t → slot s / 11 ≡ slot t / 11 → ex (s % 4) ≡ ex (t % 4) → s ≡ t
    same p s t hp hs ht c w x =
        ⊎_elim (λ (a : s < t). absurd (not_before p s t hp hs ht c w x a))
        (λ (a : t ≤ s). ⊎_elim (λ (b : t < s). absurd (not_before p t s hp ht hs (sym c) (sym w) (sym x) b)) (λ (b : s ≤ t). omega arith) (lt_or_le t s))
        (lt_or_le s t)

    -- the symbols of one codeword that are carried in one word of one lane are one
    pub one_a_word : (p q s t : ℕ) → p < 32 → q < 32 → s < 132 * n → t < 132 * n → label p s ≡ label q t → across ex p s ≡ across ex q t
        → slot s / 11 ≡ slot t / 11
        → (p ≡ q) × (s ≡ t)
    unfolding across
    one_a_word p q s t hp hq hs ht c h w = go (ex (s % 4)) (ex (t % 4)) refl refl h
      where
        here : ex (s % 4) ≡ ex (t % 4) → p ≡ q → (p ≡ q) × (s ≡ t)
        here x e = (e, same p s t hp hs ht (rw (← e) at c) w x)

        go : (a b : Bool) → ex (s % 4) ≡ a → ex (t % 4) ≡ b → cond a (partner p) p ≡ cond b (partner q) q → (p ≡ q) × (s ≡ t)
        go true true i j e = here (cc) (omega arith)
        go false false i j e = here (cc) e
        go true false i j e = absurd (L.one_of_two p s t hp hs ht (c ∙ ap (λ (r : ℕ). label r t) (sym e)))
        go false true i j e = absurd (L.one_of_two q t s hq ht hs (sym c ∙ ap (λ (r : ℕ). label r s) e))
