-- What specs/statements/Word states of a word received.
-- Assumes nothing.
use mathlib.Core.Path.{◌≡◌, refl, sym, ap, ◌∙◌, subst}
use mathlib.Core.Logic.{inl, inr}
use Prim.Native.Nat.{ℕ, ◌+◌, ◌*◌, ◌^◌, ◌<◌}
use native.Mathlib.Nat.{mod-lt}
use native.Mathlib.Omega.{arith}
use native.Mathlib.Decide.{ℕ_discrete, dec_lt}
use lib.Dec.{lit<}
use lib.ListN.{get_or}
use lib.Pow.{shr_lt}
use lib.Bits.{bit_xor, xor_comm, xor_lt, xor_self}
use Rattle.bits.specs.definitions.Bits.{bit_of, count}
use Rattle.bits.specs.definitions.Words.{word_of, word_at}
use Rattle.bits.proofs.Tabulate.{get_d_tabulate}
use Rattle.bits.proofs.Words.{word_lt, word_join, row_at_lem}
use Rattle.bits.proofs.Xor.{xor_assoc, xor_cancel}
use Rattle.bits.proofs.Weight.{weight}
use Rattle.bch.specs.definitions.Code.{CodeWord, multiple, distance, remainder, coded}
use Rattle.decoder.specs.definitions.Mend.{mend, mended, flag_of}
use Rattle.bch.specs.definitions.Word.{information_of, coded_frame}
use Rattle.decoder.specs.definitions.Word.{decoded, mended_frame, flags_of}
use Rattle.decoder.specs.private.Answer.{Pattern, remainder_of, Answers}
use Rattle.decoder.specs.statements.Word.{MendsTwo, FlaggedExactly, MendedIsCode, FlaggedPasses, TwoVanish, SmallestDistance, ThreeFlagged, FlipsAlone}
use Rattle.decoder.specs.statements.Word.{WordCalls, FrameCalls}
use Rattle.decoder.specs.declared.Mend.{Mend}
use Rattle.decoder.specs.declared.Mend.TheVariants.{Clean, One, Two, Flagged}
use Rattle.bch.proofs.Theorems.{sent_is_code}
use Rattle.bch.proofs.Remainder.{remainder_xor, remainder_code, remainder_code_xor, code_lt}
use Rattle.decoder.proofs.Patterns.{mask, mended_mask, remainder_mask, answers_unique, mend_answers, mend_code}
use Rattle.decoder.proofs.Distance.{distance_weight, distance_comm, distance_through, light_pattern, mask_lt, mask_weight, flag_pattern, code_apart}

pub mends_two : MendsTwo
mends_two c w C h d =
    let p = light_pattern (bit_xor w c) (xor_lt 126 w c h (code_lt C)) (omega (arith, distance_weight w c)) in
    let r : remainder_of p.pattern ≡ remainder 126 w =
    remainder_mask p.pattern p.is ∙ ap (remainder 126) (p.bits ∙ xor_comm w c) ∙ remainder_code_xor w C in
    let m : mend w ≡ p.pattern = answers_unique (remainder 126 w) (mend w) p.pattern (mend_answers w) (inl (p.is, r)) in (
      ap (mended w) m ∙ mended_mask w p.pattern ∙ ap (bit_xor w) p.bits ∙ xor_cancel w c,
      ap flag_of m ∙ sym (mask_weight p.pattern p.is) ∙ ap (weight 126) p.bits ∙ sym (distance_weight w c),
    )

-- a pattern that has the remainder of w makes it a code word, as far away as the pattern has bits
mended_code : (w : ℕ) (m : Mend) → w < 2 ^ 126 → Pattern m → remainder_of m ≡ remainder 126 w → CodeWord (mended w m) × (distance w (mended w m) ≡ flag_of m)
mended_code w m h P e = (
  remainder_code (subst (λ (x : ℕ). x < 2 ^ 126) (sym (mended_mask w m)) (xor_lt 126 w (mask m) h (mask_lt m P)))
      (ap (remainder 126) (mended_mask w m) ∙ remainder_xor 126 w (mask m) ∙ ap (bit_xor (remainder 126 w)) (sym (remainder_mask m P) ∙ e)
      ∙ xor_self (remainder 126 w)),
  distance_weight w (mended w m) ∙ ap (weight 126) (ap (bit_xor w) (mended_mask w m) ∙ xor_cancel w (mask m)) ∙ mask_weight m P,
)

pub mended_is_code : MendedIsCode
unfolding flag_of
mended_is_code w h f = go (mend_answers w)
  where
    go : Answers (remainder 126 w) (mend w) → CodeWord (mended w (mend w)) × (distance w (mended w (mend w)) ≡ flag_of (mend w))
    go (inl (P, e)) = mended_code w (mend w) h P e
    go (inr (e, n)) = absurd (f (ap flag_of e))

pub flagged_exactly : FlaggedExactly
unfolding flag_of
flagged_exactly w h = (far, near (mend_answers w))
  where
    far : flag_of (mend w) ≡ 3 → (c : ℕ) → CodeWord c → 2 < distance w c
    far f c C = go (dec_lt 2 (distance w c))
      where
        go : Dec (2 < distance w c) → 2 < distance w c
        go (yes l) = l
        go (no l) = absurd (let e = (mends_two c w C h (omega arith)).1 in omega arith)

    near : Answers (remainder 126 w) (mend w) → ((c : ℕ) → CodeWord c → 2 < distance w c) → flag_of (mend w) ≡ 3
    near (inl (P, e)) all =
        let r = mended_code w (mend w) h P e in
        let l = all (mended w (mend w)) r.0 in
        absurd (omega (arith, r.1, flag_pattern (mend w) P))
    near (inr (e, n)) all = ap flag_of e

pub flagged_passes : FlaggedPasses
unfolding flag_of mended
flagged_passes w f = go (mend w) f
  where
    go : (m : Mend) → flag_of m ≡ 3 → mended w m ≡ w
    go Clean e = absurd (omega arith)
    go (One i) e = absurd (omega arith)
    go (Two i j) e = absurd (omega arith)
    go Flagged e = refl

pub nothing : CodeWord 0
unfolding multiple
nothing = record { quotient = 0; product = refl }

pub two_vanish : TwoVanish
two_vanish e h d = (mends_two 0 e nothing h d).0

-- ---- distances

-- the multiple of the generator by x^19 + x^17 + x^15 + x^11 + x^10 + x^2 + 1 has six terms
six : CodeWord 0x840100007
unfolding multiple
six = record { quotient = 0xA8C05; product = refl }

pub smallest_distance : SmallestDistance
unfolding distance count bit_of
smallest_distance = (code_apart, (0x840100007, 0, six, nothing, refl))

pub three_flagged : ThreeFlagged
three_flagged c w C h d = (flagged_exactly w h).1 (λ b B. go b B (ℕ_discrete c b))
  where
    go : (b : ℕ) → CodeWord b → Dec (c ≡ b) → 2 < distance w b
    go b B (yes e) = subst (λ (x : ℕ). 2 < distance w x) e (omega arith)
    go b B (no n) = omega (arith, code_apart c b C B n, distance_through c w b, distance_comm c w)

-- ---- one pattern speaks for all

pub flips_alone : FlipsAlone
flips_alone c e C =
    let m = mend_code e C in (
      m,
      ap (mended (bit_xor c e)) m ∙ mended_mask (bit_xor c e) (mend e) ∙ xor_assoc c e (mask (mend e)) ∙ ap (bit_xor c) (sym (mended_mask e (mend e))),
    )

-- ---- what a call answers

pub mended_lt : (w : ℕ) → w < 2 ^ 126 → mended w (mend w) < 2 ^ 126
unfolding mended
mended_lt w h = go (mend w) (mend_answers w)
  where
    go : (m : Mend) → Answers (remainder 126 w) m → mended w m < 2 ^ 126
    go m (inl (P, e)) = rw (mended_mask w m) (xor_lt 126 w (mask m) h (mask_lt m P))
    go m (inr (e, n)) = rw e h

pub word_calls : WordCalls
unfolding decoded
word_calls hi lo h =
    let w : word_of hi lo < 2 ^ 126 = word_lt hi lo h in
    let v = mended_lt (word_of hi lo) w in (
      w,
      shr_lt 110 16 w,
      shr_lt 62 64 v,
      mod-lt (mended (word_of hi lo) (mend (word_of hi lo))) (lit< tt),
      word_join
          (mended (word_of hi lo) (mend (word_of hi lo))) v,
    )

pub frame_calls : FrameCalls
unfolding word_at coded_frame mended_frame flags_of
frame_calls s b i h =
    let w : word_at s i < 2 ^ 126 = at in (
      w,
      row_at_lem 384 (λ i. coded (information_of (word_at s i))) i h (sent_is_code (information_of (word_at s i)) (shr_lt 110 16 w)).1,
      row_at_lem 384 (λ i. mended (word_at s i) (mend (word_at s i))) i h (mended_lt (word_at s i) w),
      get_d_tabulate 384 (λ i. flag_of (mend (word_at s i))) i 0 h,
    )
  where
    at : word_at s i < 2 ^ 126
    at = word_lt (get_or s (2 * i) 0) (get_or s (2 * i + 1) 0) (b (2 * i + 1))
