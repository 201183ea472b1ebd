-- `traffic::State::first_word` meets its contract: sixteen bits a turn, `sixteen`. Assumes nothing.
use mathlib.Core.Path.{◌≡◌, refl, sym, ap, ◌∙◌}
use Prim.Native.Nat.{ℕ, ◌+◌, ◌*◌, ◌^◌, ◌≤◌, ◌<◌}
use native.Mathlib.Nat.{zero-add, lt_of_lt_of_le}
use native.Mathlib.Omega.{arith}
use lib.Pow.{pow_mono}
use Rattle.bits.specs.definitions.Bits.{value, number}
use Rattle.bits.proofs.Value.{value_lt, value_cong}
use Rattle.traffic.specs.definitions.Register.{state_from, bit_from}
use Rattle.traffic.specs.private.Stream.{stream_word}
use Rattle.traffic.proofs.Register.{sent_lt, from_add}
use Rattle.traffic.proofs.Stream.{sixteen}
use Rattle.traffic.proofs.State.first_word.Goals as goal

-- so many bits fit
fits : (s j : ℕ) → j < 4 → number (16 * j) (bit_from s) < 2 ^ 48
fits s j h = let l : 16 * j ≤ 48 = omega arith in lt_of_lt_of_le (value_lt 2 (16 * j) (bit_from s) (λ i _. sent_lt _)) (pow_mono l)

pub loop-init : goal.loop-init
unfolding state_from value
loop-init c = record { state = refl; word = refl }

pub overflow_mul-word : goal.overflow_mul-word
overflow_mul-word c = record { fits = omega (arith, c.loop.invariant.word, fits c.args.self.bits c.loop.counter c.loop-test.true) }

pub overflow_add-word : goal.overflow_add-word
overflow_add-word c = record { fits = omega (arith, c.loop.invariant.word, fits c.args.self.bits c.loop.counter c.loop-test.true) }

pub loop-preserved : goal.loop-preserved
loop-preserved c =
    let s = c.args.self.bits in
    let j = c.loop.counter in
    let e : 16 * j + 16 ≡ 16 * (j + 1) = omega arith in
    let is : c.ahead-state.result.bits ≡ state_from (state_from s (16 * j)) 16 =
    c.ahead-state.ensures ∙ ap (λ (x : ℕ). state_from x 16) c.loop.invariant.state in
    record { state = is ∙ sym (from_add s (16 * j) 16) ∙ ap (state_from s) e; word = sixteen s j c.loop.invariant.word is }

pub returns : goal.returns
unfolding stream_word
returns c =
    let s = c.args.self.bits in
    let e : 16 * c.loop.counter ≡ 64 = omega arith in
    c.loop.invariant.word ∙ ap (λ (n : ℕ). number n (bit_from s)) e ∙ value_cong 2 64 _ _ (λ q _. ap (bit_from s) (sym (zero-add q)))
