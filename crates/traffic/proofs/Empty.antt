-- Empty programs that the contracts of the generators and of the checker forbid, at named inputs: frames 0 and 1, the seed, and recovered frame 1 of zeros.
-- Assumes nothing.
use mathlib.Core.Path.{◌≡◌, refl, sym, ap, ◌∙◌}
use mathlib.Core.Bool.{true, not}
use mathlib.Core.List.{List}
use Prim.Native.Nat.{ℕ, ◌/◌, ◌%◌}
use native.Mathlib.Omega.{arith}
use lib.Dec.{eqb}
use lib.ListN.{length, get_or, replicate, length-replicate, get_or-replicate}
use Rattle.bits.specs.definitions.Bits.{bit_of, bit_at, count}
use Rattle.bits.proofs.Count.{count_pos}
use Rattle.bits.proofs.Tabulate.{get_d_tabulate}
use Rattle.lanes.specs.definitions.Permutation.{lanes_of}
use Rattle.traffic.specs.definitions.Register.{entering, next_state, state_from, seed, state_after, sent_bit, bit_from, traffic_bit}
use Rattle.traffic.specs.definitions.Traffic.{placed, traffic_frame, Continues, Generated}
use Rattle.traffic.specs.definitions.Checker.{wrong_bit, wrong_counts, Checks}
use Rattle.traffic.specs.definitions.Figures.{state_figures}
use Rattle.traffic.proofs.Frames.{placed_frame, frame_placed, generates_frame, continues_left}
use Rattle.traffic.proofs.Counts.{checks_left}
use Rattle.traffic.proofs.Figures.{traffic_figures}

-- lanes of zeros
abbrev pub zeros : List ℕ
zeros = replicate 5280 0

-- the test signal's first bit is 1, and bit 120 of lane 0 of recovered frame 1 is compared with it
wrong_120 : wrong_bit 1 zeros 0 120 ≡ true
unfolding wrong_bit placed state_from next_state entering sent_bit bit_at bit_of
wrong_120 = ap (λ (v : ℕ). not (eqb (v / 128 % 2) 1)) (get_or-replicate {A = ℕ} 5280 15 0 0 (omega arith))

-- a checker that always counts nothing
pub nothing_counted : (c : List ℕ) (r : ℕ) (c' : List ℕ) → Checks 1 zeros c r c' → length c ≡ 32 → c' ≡ replicate 32 0 → ⊥
unfolding wrong_counts
nothing_counted c r c' C h e =
    let none : count (wrong_bit 1 zeros 0) 1320 ≡ 0 =
    sym (get_d_tabulate 32 (λ p. count (wrong_bit 1 zeros p) 1320) 0 0 (omega arith))
    ∙ ap (λ (l : List ℕ). get_or l 0 0) (sym (checks_left 1 zeros c r c' (length-replicate {A = ℕ} 5280 0) h C).1 ∙ e) in
    omega (arith, count_pos (wrong_bit 1 zeros 0) 1320 120 (omega arith) wrong_120)

-- bit 2 of lane 0 is 1 in frame 0, and 0 in frame 1, which begins at this state
first_frame : placed traffic_bit 0 2 ≡ 1
unfolding placed state_from next_state entering sent_bit
first_frame = refl

second_frame : placed (bit_from 0x031225A6) 0 2 ≡ 0
unfolding placed state_from next_state entering sent_bit
second_frame = refl

-- the figure of a frame's bits
frame_state : state_after 42240 ≡ 0x031225A6
unfolding state_figures
frame_state = ap (λ (l : List ℕ). get_or l 2 0) traffic_figures.1

-- a generator that repeats one frame
pub one_frame : (outs lanes : ℕ → List ℕ) → Generated 2 outs lanes → lanes 0 ≡ lanes 1 → ⊥
one_frame outs lanes G e =
    let same : traffic_frame 0 ≡ traffic_frame 1 =
    sym (generates_frame 0 (outs 0) (lanes 0) (G.call 0 (omega arith))) ∙ e ∙ generates_frame 1 (outs 1) (lanes 1) (G.call 1 (omega arith)) in
    let z : ◌≡◌ {A = ℕ} 1 0 =
    sym first_frame ∙ sym (frame_placed 0 0 2 (omega arith) (omega arith)) ∙ ap (λ (l : List ℕ). lanes_of l 0 2) same
    ∙ frame_placed 1 0 2 (omega arith) (omega arith) ∙ placed_frame 1 0 2 ∙ ap (λ (x : ℕ). placed (bit_from x) 0 2) frame_state ∙ second_frame in
    omega arith

-- one that keeps its state, and so would repeat it
pub state_stays : (o : List ℕ) (r s' : ℕ) (o' : List ℕ) → length o ≡ 5280 → Continues seed o r s' o' → s' ≡ seed → ⊥
state_stays o r s' o' h C e =
    let z : ◌≡◌ {A = ℕ} 0x031225A6 0x7FFFFFFF = sym frame_state ∙ sym (continues_left seed o r s' o' h C).1 ∙ e in
    omega arith
