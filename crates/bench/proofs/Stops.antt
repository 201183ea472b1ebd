-- What stops a run: a refused record, a second order and a frame before any, and nothing else; they do nothing else; and a stopped run stays as it is.
-- Assumes nothing.
use mathlib.Core.Path.{◌≡◌, refl, sym, ap, ◌∙◌, subst}
use mathlib.Core.Bool.{true, false, false≢true}
use mathlib.Core.Logic.{◌≢◌, ◌⊎◌, inl, inr, ◌↔◌}
use mathlib.Core.List.{List}
use Prim.Native.Nat.{ℕ, ◌≤◌}
use native.Mathlib.Decide.{ℕ_discrete}
use native.Mathlib.Omega.{arith}
use borrow.Author.Tests.{ne_eqb}
use Rattle.account.specs.definitions.Account.{Entry}
use Rattle.capture.specs.definitions.Read.{Read, End, Refused, Order, Frame}
use Rattle.capture.specs.definitions.Capture.{more_than_one, read_one, symbols_at}
use Rattle.capture.proofs.One.{one_numbers}
use Rattle.bench.specs.declared.Run.{Run}
use Rattle.bench.specs.declared.Phase.{Phase}
use Rattle.bench.specs.declared.Phase.TheVariants.{Unordered, Going, Stopped}
use Rattle.bench.proofs.Walk.{came_stays}
use Rattle.bench.specs.definitions.Run.{stopped, is_stopped, after_entry, entry_of, order_came, frame_came, frame_refusal, halted, came_as}
use Rattle.bench.specs.definitions.Run.{refusal_of, stepped, step_refusal, unnumbered}
use Rattle.bench.specs.statements.Run.{StopsExactly, OnlyStops, StoppedStays}

-- ---- exactly these

neither : (false ≡ true) ↔ ((◌≢◌ {A = ℕ} 0 0) ⊎ (false ≡ true))
neither = (λ e. inr e, λ x. go x)
  where
    go : (◌≢◌ {A = ℕ} 0 0) ⊎ (false ≡ true) → false ≡ true
    go (inl n) = absurd (n refl)
    go (inr e) = e

by_number_lem : (n : ℕ) → n ≢ 0 → (true ≡ true) ↔ ((n ≢ 0) ⊎ (false ≡ true))
by_number_lem n h = (λ _. inl h, λ _. refl)

without : (true ≡ true) ↔ ((◌≢◌ {A = ℕ} 0 0) ⊎ (true ≡ true))
without = (λ _. inr refl, λ _. refl)

-- a refusal of one record has a number
some : (s : List ℕ) (n : ℕ) → read_one s ≡ Refused n → n ≢ 0
some s n e z = go (one_numbers s n e)
  where
    go : ((6 ≤ n) × (n ≤ 9)) ⊎ (n ≡ more_than_one) → ⊥
    go (inl b) = let l = b.0 in omega arith
    go (inr b) = omega arith

entry_stops : (r : Run) (e : Entry) → (is_stopped (after_entry r e).phase ≡ true) ↔ ((e.refusal ≢ 0) ⊎ (false ≡ true))
unfolding is_stopped
entry_stops r e = go (ℕ_discrete e.refusal 0)
  where
    go : Dec (e.refusal ≡ 0) → (is_stopped (after_entry r e).phase ≡ true) ↔ ((e.refusal ≢ 0) ⊎ (false ≡ true))
    go (yes z) = rw z neither
    go (no n) = rw (ne_eqb e.refusal 0 n) (by_number_lem e.refusal n)

stops : (read : Read) (p : Phase) (r : Run) (s : List ℕ) → read_one s ≡ read → r.phase ≡ p → is_stopped p ≡ false
    → (is_stopped (came_as read r s).phase ≡ true) ↔ ((refusal_of read r s ≢ 0) ⊎ (unnumbered p read ≡ true))
unfolding came_as refusal_of unnumbered is_stopped halted order_came frame_came frame_refusal
stops read Stopped r s q e h = absurd (false≢true (sym h))
stops End Unordered r s q e h = rw e neither
stops End Going r s q e h = rw e neither
stops (Refused refusal) Unordered r s q e h = rw e (by_number_lem refusal (some s refusal q))
stops (Refused refusal) Going r s q e h = rw e (by_number_lem refusal (some s refusal q))
stops (Order start asked allowed next) Unordered r s q e h = rw e neither
stops (Order start asked allowed next) Going r s q e h = rw e without
stops (Frame number from next) Unordered r s q e h = rw e without
stops (Frame number from next) Going r s q e h =
    subst (λ (p : Phase). (is_stopped (frame_came p r number (symbols_at s from)).phase ≡ true) ↔
    ((frame_refusal p r number (symbols_at s from) ≢ 0) ⊎ (false ≡ true))) (sym e) (entry_stops r (entry_of r.account number (symbols_at s from)))

pub stops_exactly : StopsExactly
unfolding stepped step_refusal
stops_exactly r s h = stops (read_one s) r.phase r s refl refl h

-- ---- and nothing else

entry_only : (r : Run) (e : Entry) → is_stopped (after_entry r e).phase ≡ true → after_entry r e ≡ stopped r
entry_only r e h = go ((entry_stops r e).0 h)
  where
    go : (e.refusal ≢ 0) ⊎ (false ≡ true) → after_entry r e ≡ stopped r
    go (inl n) = rw (ne_eqb e.refusal 0 n) refl
    go (inr x) = absurd (false≢true x)

came_only : (read : Read) (p : Phase) (r : Run) (s : List ℕ) → r.phase ≡ p → is_stopped p ≡ false → is_stopped (came_as read r s).phase ≡ true
    → came_as read r s ≡ stopped r
unfolding came_as is_stopped halted order_came frame_came
came_only read Stopped r s e h t = absurd (false≢true (sym h))
came_only End Unordered r s e h t = absurd (false≢true (sym (ap is_stopped e) ∙ t))
came_only End Going r s e h t = absurd (false≢true (sym (ap is_stopped e) ∙ t))
came_only (Refused refusal) Unordered r s e h t = rw e refl
came_only (Refused refusal) Going r s e h t = rw e refl
came_only (Order start asked allowed next) Unordered r s e h t =
    absurd (false≢true (ap (λ (p : Phase). is_stopped (order_came p r start asked allowed).phase) (sym e) ∙ t))
came_only (Order start asked allowed next) Going r s e h t = rw e refl
came_only (Frame number from next) Unordered r s e h t = rw e refl
came_only (Frame number from next) Going r s e h t =
    ap (λ (p : Phase). frame_came p r number (symbols_at s from)) e
    ∙ entry_only r (entry_of r.account number (symbols_at s from))
    (ap (λ (p : Phase). is_stopped (frame_came p r number (symbols_at s from)).phase) (sym e) ∙ t)

pub only_stops : OnlyStops
unfolding stepped
only_stops r s h t = came_only (read_one s) r.phase r s refl h t

pub is_stopped_lem : (p : Phase) → is_stopped p ≡ true → p ≡ Stopped
unfolding is_stopped
is_stopped_lem Unordered e = absurd (false≢true e)
is_stopped_lem Going e = absurd (false≢true e)
is_stopped_lem Stopped e = refl

pub stopped_stays : StoppedStays
unfolding stepped
stopped_stays r s h = came_stays r (is_stopped_lem r.phase h) (read_one s) s
