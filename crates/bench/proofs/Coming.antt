-- What a record does to a run, and by which refusal, case by case: the rules that the check of `bench::Run::came` goes by.
-- Assumes nothing.
use Rattle.std.proofs.Common.{◌≡◌, ◌≢◌, ℕ, List, cond, refl}
use Rattle.account.specs.definitions.Account.{opened}
use Rattle.capture.specs.definitions.Read.{Read, End, Refused, Order, Frame}
use Rattle.capture.specs.definitions.Capture.{symbols_at}
use Rattle.bench.specs.declared.Run.{Run}
use Rattle.bench.specs.declared.Phase.{Phase}
use Rattle.bench.specs.declared.Phase.TheVariants.{Unordered, Going, Stopped}
use Rattle.bench.specs.definitions.Run.{stopped, is_stopped, after_entry, entry_of, order_came, frame_came, frame_refusal, halted, came_as, refusal_of}
use Rattle.bench.proofs.Walk.{came_stays}
use Rattle.bench.proofs.Frames.{entry_kept}

module _ (r : Run) (s : List ℕ) where
  pub nothing : came_as End r s ≡ r
  unfolding came_as
  nothing = refl

  pub nothing_refused : refusal_of End r s ≡ 0
  unfolding refusal_of
  nothing_refused = refl

  -- a run that is stopped
  module _ (h : r.phase ≡ Stopped) where
    pub stays_refused : (read : Read) → refusal_of read r s ≡ 0
    unfolding refusal_of frame_refusal is_stopped
    stays_refused End = refl
    stays_refused (Refused refusal) = rw h refl
    stays_refused (Order start asked allowed next) = refl
    stays_refused (Frame number from next) = rw h refl

  -- a refused record
  module _ (n : ℕ) (h : r.phase ≢ Stopped) where
    pub refused : came_as (Refused n) r s ≡ stopped r
    unfolding came_as halted
    refused = go r.phase refl
      where
        go : (p : Phase) → r.phase ≡ p → halted p r ≡ stopped r
        go Unordered e = refl
        go Going e = refl
        go Stopped e = absurd (h e)

    pub refused_by : refusal_of (Refused n) r s ≡ n
    unfolding refusal_of is_stopped
    refused_by = go r.phase refl
      where
        go : (p : Phase) → r.phase ≡ p → cond (is_stopped p) 0 n ≡ n
        go Unordered e = refl
        go Going e = refl
        go Stopped e = absurd (h e)

  -- an order
  module _ (start asked allowed next : ℕ) where
    pub first_order : r.phase ≡ Unordered
        → came_as (Order start asked allowed next) r s ≡ record { phase = Going; asked = asked; allowed = allowed; account = opened start }
    unfolding came_as order_came
    first_order h = rw h refl

    pub second_order : r.phase ≡ Going → came_as (Order start asked allowed next) r s ≡ stopped r
    unfolding came_as order_came
    second_order h = rw h refl

    pub order_refused : refusal_of (Order start asked allowed next) r s ≡ 0
    unfolding refusal_of
    order_refused = refl

  -- a frame
  module _ (number from next : ℕ) where
    pub frame_before : r.phase ≡ Unordered → came_as (Frame number from next) r s ≡ stopped r
    unfolding came_as frame_came
    frame_before h = rw h refl

    pub frame_before_refused : r.phase ≡ Unordered → refusal_of (Frame number from next) r s ≡ 0
    unfolding refusal_of frame_refusal
    frame_before_refused h = rw h refl

    pub frame_going : r.phase ≡ Going → came_as (Frame number from next) r s ≡ after_entry r (entry_of r.account number (symbols_at s from))
    unfolding came_as frame_came
    frame_going h = rw h refl

    pub frame_refused : r.phase ≡ Going → refusal_of (Frame number from next) r s ≡ (entry_of r.account number (symbols_at s from)).refusal
    unfolding refusal_of frame_refusal
    frame_refused h = rw h refl

pub ruleset coming = (
  nothing,
  nothing_refused,
  came_stays,
  stays_refused,
  refused,
  refused_by,
  first_order,
  second_order,
  order_refused,
  frame_before,
  frame_before_refused,
  frame_going,
  frame_refused,
  entry_kept,
)
