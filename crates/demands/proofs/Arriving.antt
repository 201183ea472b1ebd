-- The run over an order and frames, whatever their numbers and symbols, and whatever follows them.
-- Assumes nothing.
use mathlib.Core.Path.{◌≡◌, refl, sym, ap, ◌∙◌, subst}
use mathlib.Core.Logic.{inr}
use mathlib.Core.List.{List, [], ◌++◌, append_assoc, append-nil}
use Prim.Native.Nat.{ℕ, zero, suc, ◌^◌, ◌<◌, ◌≤◌}
use native.Mathlib.Omega.{arith}
use lib.ListN.{length}
use Rattle.account.specs.definitions.Account.{opened}
use Rattle.capture.specs.definitions.Read.{Read}
use Rattle.capture.specs.definitions.Read.{Order, Frame}
use Rattle.capture.specs.definitions.Capture.{layout, read_at, next_of, read_one, symbols_at, wanted, order_record, frame_record, frame_records}
use Rattle.capture.proofs.Local.{wanted_reads}
use Rattle.capture.proofs.One.{one_alone}
use Rattle.capture.proofs.Records.{records}
use Rattle.bench.specs.declared.Run.{Run}
use Rattle.bench.specs.declared.Phase.TheVariants.{Going}
use Rattle.bench.specs.definitions.Run.{begun, order_came, frame_came, came_as, stepped}
use Rattle.bench.proofs.Walk.{Onward, onward_starts, onward_next}

-- bytes that are one record
one_is : (p : List ℕ) (read : Read) → read_at p 0 ≡ read → length p ≡ next_of read 0 → read_one p ≡ read
one_is p read at ends = one_alone p (inr (subst (λ (r : Read). length p ≤ next_of r 0) (sym at) (omega arith))) ∙ at

-- an order's record in a run
module _ (start asked allowed : ℕ) (hs : start < 2 ^ 32) (ha : asked < 2 ^ 32) (hw : allowed < 2 ^ 32) where
  order_there : read_at (order_record start asked allowed) 0 ≡ Order start asked allowed layout.order_bytes
  order_there =
      ap (λ (x : List ℕ). read_at x 0) (sym (append-nil (order_record start asked allowed))) ∙ records.order_reads start asked allowed [] hs ha hw

  order_length : length (order_record start asked allowed) ≡ layout.order_bytes
  order_length = records.record_lengths.0 start asked allowed

  order_steps : (r : Run) → stepped r (order_record start asked allowed) ≡ order_came r.phase r start asked allowed
  unfolding stepped came_as
  order_steps r =
      ap (λ (x : Read). came_as x r (order_record start asked allowed))
      (one_is (order_record start asked allowed) (Order start asked allowed layout.order_bytes) order_there order_length)

  order_wanted : length (order_record start asked allowed) ≡ wanted (order_record start asked allowed)
  order_wanted = order_length ∙ (wanted_reads (order_record start asked allowed)).1 start asked allowed layout.order_bytes order_there

-- a frame's
module _ (number : ℕ) (f : List ℕ) (hn : number < 2 ^ 32) (hf : length f ≡ layout.symbols) where
  frame_there : read_at (frame_record number f) 0 ≡ Frame number layout.symbols_from layout.frame_bytes
  frame_there = ap (λ (x : List ℕ). read_at x 0) (sym (append-nil (frame_record number f))) ∙ (records.frame_reads number f [] hn hf).0

  frame_length : length (frame_record number f) ≡ layout.frame_bytes
  frame_length = records.record_lengths.1 number f hf

  frame_steps : (r : Run) → stepped r (frame_record number f) ≡ frame_came r.phase r number f
  unfolding stepped came_as
  frame_steps r =
      ap (λ (x : Read). came_as x r (frame_record number f))
      (one_is (frame_record number f) (Frame number layout.symbols_from layout.frame_bytes) frame_there frame_length)
      ∙ ap (frame_came r.phase r number)
      (ap (λ (x : List ℕ). symbols_at x layout.symbols_from) (sym (append-nil (frame_record number f))) ∙ (records.frame_reads number f [] hn hf).1)

  frame_wanted : length (frame_record number f) ≡ wanted (frame_record number f)
  frame_wanted = frame_length ∙ ((wanted_reads (frame_record number f)).2 number layout.symbols_from layout.frame_bytes frame_there).0

-- the run after an order and k frames
unfoldable pub run_after : (start asked allowed : ℕ) → (ℕ → ℕ) → (ℕ → List ℕ) → ℕ → Run
run_after start asked allowed numbers frames zero = record { phase = Going; asked = asked; allowed = allowed; account = opened start }
run_after start asked allowed numbers frames (suc k) =
    let r = run_after start asked allowed numbers frames k in frame_came r.phase r (numbers k) (frames k)

module _ (start asked allowed : ℕ) (numbers : ℕ → ℕ) (frames : ℕ → List ℕ) (small : (start < 2 ^ 32) × (asked < 2 ^ 32) × (allowed < 2 ^ 32)) where
  -- it is what they come to, whatever follows
  pub onward_frames : (n : ℕ) → ((k : ℕ) → k < n → (numbers k < 2 ^ 32) × (length (frames k) ≡ layout.symbols))
      → Onward (order_record start asked allowed ++ frame_records numbers frames n) (run_after start asked allowed numbers frames n)
  unfolding frame_records run_after order_came
  onward_frames zero h =
      subst (λ (x : List ℕ). Onward x (run_after start asked allowed numbers frames 0)) (sym (append-nil (order_record start asked allowed)))
      (subst (Onward (order_record start asked allowed)) (order_steps start asked allowed small.0 small.1 small.2 begun)
      (onward_next [] begun (onward_starts begun refl) (order_record start asked allowed)
      (let l = order_length start asked allowed small.0 small.1 small.2 in omega arith)
      (order_wanted start asked allowed small.0 small.1 small.2)))
  onward_frames (suc n) h =
      let p = frame_record (numbers n) (frames n) in
      let w = h n (omega arith) in
      let r = run_after start asked allowed numbers frames n in
      subst (λ (x : List ℕ). Onward x (run_after start asked allowed numbers frames (suc n)))
      (append_assoc (order_record start asked allowed) (frame_records numbers frames n) p)
      (subst (Onward ((order_record start asked allowed ++ frame_records numbers frames n) ++ p)) (frame_steps (numbers n) (frames n) w.0 w.1 r)
      (onward_next (order_record start asked allowed ++ frame_records numbers frames n) r (onward_frames n (λ k l. h k (omega arith))) p
      (let l = frame_length (numbers n) (frames n) w.0 w.1 in omega arith) (frame_wanted (numbers n) (frames n) w.0 w.1)))
