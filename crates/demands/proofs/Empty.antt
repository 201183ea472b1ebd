-- An empty receiver and an empty sender that the demands forbid: each writes its output on the first frame only.
-- Assumes nothing.
use mathlib.Core.Path.{◌≡◌, sym, ap, ap₂, ◌∙◌}
use mathlib.Core.List.{List}
use Prim.Native.Nat.{ℕ, ◌+◌, ◌*◌, ◌-◌, ◌/◌, ◌%◌, ◌^◌, ◌<◌}
use native.Mathlib.Omega.{arith}
use lib.ListN.{replicate, get_or-replicate}
use Rattle.bits.specs.definitions.Bits.{bit_of, bit_at}
use Rattle.lanes.specs.definitions.Permutation.{Places}
use Rattle.lanes.specs.definitions.Stream.{stream_bit, delayed, interleaved}
use Rattle.lanes.proofs.Return.{across, across_lt, permuted_across}
use Rattle.shuffle.specs.definitions.Shuffle.{place}
use Rattle.symbols.specs.definitions.Mapping.{payload_at, symbol_of, tributary_of, bit_in}
use Rattle.symbols.specs.definitions.Frame.{placed_bit, arrived}
use Rattle.symbols.proofs.Return.{arrived_bit}
use Rattle.framing.specs.definitions.Stream.{Sent}
use Rattle.framing.proofs.Stream.{block_rule}
use Rattle.demands.specs.definitions.Return.{Undamaged}
use Rattle.demands.proofs.Return.{return}

-- ---- the receiver

-- two frames of ones: bit 120 of a lane in the second is the first bit that was sent, so that zeros cannot be left there
pub first_only : (ex : Places) (sent_numbers numbers : ℕ → ℕ) (back flag_bytes : ℕ → List ℕ)
    → Undamaged ex 2 (λ _. replicate 5280 255) sent_numbers numbers back flag_bytes → back 1 ≡ replicate 5280 0 → ⊥
unfolding stream_bit bit_at bit_of
first_only ex sent_numbers numbers back flag_bytes U left =
    let one : bit_at (replicate 5280 255) 0 ≡ 1 = ap (λ (v : ℕ). v / 128 % 2) (get_or-replicate 5280 0 255 0 (omega arith)) in
    let none : bit_at (replicate 5280 0) 120 ≡ 0 = ap (λ (v : ℕ). v / 128 % 2) (get_or-replicate 5280 15 0 0 (omega arith)) in
    let came : bit_at (back 1) 120 ≡ bit_at (replicate 5280 255) 0 =
    (return ex 2 (λ _. replicate 5280 255) sent_numbers numbers back flag_bytes U).3 0 0 (omega arith) (omega arith) in
    let e : ◌≡◌ {A = ℕ} 0 1 = sym none ∙ ap (λ (s : List ℕ). bit_at s 120) (sym left) ∙ came ∙ one in
    omega arith

-- ---- the sender

-- bit 0 of word 0 of lane 0 in a room of zeros
room_bit : bit_of 126 (arrived (replicate 6144 0) 0) 0 ≡ 0
unfolding bit_at bit_of placed_bit place payload_at symbol_of bit_in tributary_of
room_bit = arrived_bit (replicate 6144 0) 0 0 (omega arith) ∙ ap (λ (v : ℕ). v / 128 % 2) (get_or-replicate 6144 1 0 0 (omega arith))

-- and in the second frame of a stream of ones: it is the first bit of block 33, which the block rule does not delay
second_bit : (ex : Places) (n : ℕ) (numbers : ℕ → ℕ) (frames stores : ℕ → List ℕ) → 1 < n
    → Sent ex n (λ _. replicate 5280 255) (λ _. replicate 6144 0) numbers frames stores → bit_of 126 (arrived (frames 1) 0) 0 ≡ 1
unfolding stream_bit bit_at bit_of interleaved delayed
second_bit ex n numbers frames stores h S =
    let lanes : ℕ → List ℕ = λ _. replicate 5280 255 in
    let q = across ex 0 132 in
    let top : (1320 * q + 1320 % 1320) % 8 ≡ 0 = omega arith in
    (block_rule ex n lanes (λ _. replicate 6144 0) numbers frames stores S).2 0 12 0 (omega arith) (omega arith) (omega arith)
    ∙ permuted_across ex (stream_bit lanes) 0 1320
    ∙ ap₂ (λ (v i : ℕ). v / 2 ^ (8 - 1 - i) % 2)
    (get_or-replicate 5280 ((1320 * q + 1320 % 1320) / 8) 255 0 (omega (arith, across_lt ex 0 132 (omega arith)))) top

-- so that zeros cannot be left there either: the block rule fails for blocks beyond 32
pub sender_first_only : (ex : Places) (n : ℕ) (numbers : ℕ → ℕ) (frames stores : ℕ → List ℕ) → 1 < n
    → Sent ex n (λ _. replicate 5280 255) (λ _. replicate 6144 0) numbers frames stores → frames 1 ≡ replicate 6144 0 → ⊥
sender_first_only ex n numbers frames stores h S left =
    let e : ◌≡◌ {A = ℕ} 0 1 = sym room_bit ∙ ap (λ (x : List ℕ). bit_of 126 (arrived x 0) 0) (sym left) ∙ second_bit ex n numbers frames stores h S in
    omega arith
