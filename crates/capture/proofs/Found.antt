-- What stands in the capture where a record is read: the cases the other way round.
-- Assumes nothing.
use mathlib.Core.Path.{◌≡◌, refl, sym, subst}
use mathlib.Core.List.{List}
use Prim.Native.Nat.{ℕ, ◌+◌, ◌-◌, ◌<◌, ◌≤◌}
use native.Mathlib.Decide.{dec_lt, ℕ_discrete}
use native.Mathlib.Omega.{arith}
use lib.ListN.{length, get_or}
use Rattle.std.proofs.lemmas.Bool.Decides.{nat_tests}
use Rattle.capture.specs.definitions.Read.{Read, End, Refused, Order, Frame}
use Rattle.capture.specs.definitions.Capture.{layout, big_endian_at, refusal_at, order_at, frame_at, read_at}
use Rattle.capture.proofs.Cases.{order_refused, frame_refused, order_read, frame_read, at_end}
use Rattle.capture.proofs.Cases.{no_length, an_order, a_frame, no_lawful}

-- a whole record of so many bytes and of this kind
pub record Whole (s : List ℕ) (i bytes k : ℕ) : Type 0 where
  pub inside : bytes ≤ length s - i
  pub version : get_or s (i + layout.version_at) 0 ≡ layout.version
  pub kind : get_or s (i + layout.kind_at) 0 ≡ k

module _ (s : List ℕ) (i : ℕ) where
  pub whole : (bytes kind : ℕ) → refusal_at s i bytes kind ≡ 0 → Whole s i bytes kind
  unfolding refusal_at
  whole bytes kind e = grind (arith, nat_tests)

-- an order, or a frame, with the numbers that it says
pub record OrderStands (s : List ℕ) (i start asked allowed next : ℕ) : Type 0 where
  pub length : big_endian_at s i ≡ layout.order_length
  pub whole : Whole s i layout.order_bytes layout.order_kind
  pub start_is : start ≡ big_endian_at s (i + layout.start_at)
  pub asked_is : asked ≡ big_endian_at s (i + layout.asked_at)
  pub allowed_is : allowed ≡ big_endian_at s (i + layout.allowed_at)
  pub next_is : next ≡ i + layout.order_bytes

pub record FrameStands (s : List ℕ) (i number from next : ℕ) : Type 0 where
  pub length : big_endian_at s i ≡ layout.frame_length
  pub whole : Whole s i layout.frame_bytes layout.frame_kind
  pub number_is : number ≡ big_endian_at s (i + layout.number_at)
  pub from_is : from ≡ i + layout.symbols_from
  pub next_is : next ≡ i + layout.frame_bytes

-- what an answer says of the bytes; a refusal is one of 6 to 9
unfoldable pub Stands : List ℕ → ℕ → Read → Type 0
Stands s i End = length s ≤ i
Stands s i (Refused refusal) = (6 ≤ refusal) × (refusal ≤ 9)
Stands s i (Order start asked allowed next) = OrderStands s i start asked allowed next
Stands s i (Frame number from next) = FrameStands s i number from next

module _ (s : List ℕ) (i : ℕ) where
  refusal_range : (bytes kind : ℕ) → (refusal_at s i bytes kind ≡ 0 → ⊥) → (6 ≤ refusal_at s i bytes kind) × (refusal_at s i bytes kind ≤ 9)
  unfolding refusal_at
  refusal_range bytes kind n = grind (arith, nat_tests)

  order_stands : big_endian_at s i ≡ layout.order_length → Stands s i (order_at s i)
  unfolding Stands
  order_stands n = go (ℕ_discrete (refusal_at s i layout.order_bytes layout.order_kind) 0)
    where
      go : Dec (refusal_at s i layout.order_bytes layout.order_kind ≡ 0) → Stands s i (order_at s i)
      go (yes e) =
          subst (Stands s i) (order_read s i _ _ _ (sym e) refl refl refl)
          (record { length = n; whole = whole s i _ _ e; start_is = refl; asked_is = refl; allowed_is = refl; next_is = refl })
      go (no e) = subst (Stands s i) (order_refused s i _ refl e) (refusal_range _ _ e)

  frame_stands : big_endian_at s i ≡ layout.frame_length → Stands s i (frame_at s i)
  unfolding Stands
  frame_stands n = go (ℕ_discrete (refusal_at s i layout.frame_bytes layout.frame_kind) 0)
    where
      go : Dec (refusal_at s i layout.frame_bytes layout.frame_kind ≡ 0) → Stands s i (frame_at s i)
      go (yes e) =
          subst (Stands s i) (frame_read s i _ (sym e) refl) (record { length = n; whole = whole s i _ _ e; number_is = refl; from_is = refl; next_is = refl })
      go (no e) = subst (Stands s i) (frame_refused s i _ refl e) (refusal_range _ _ e)

  pub stands : Stands s i (read_at s i)
  unfolding Stands
  stands =
      go (dec_lt i (length s)) (dec_lt (length s - i) layout.length_bytes) (ℕ_discrete (big_endian_at s i) layout.order_length)
      (ℕ_discrete (big_endian_at s i) layout.frame_length)
    where
      go : Dec (i < length s) → Dec (length s - i < layout.length_bytes) → Dec (big_endian_at s i ≡ layout.order_length)
          → Dec (big_endian_at s i ≡ layout.frame_length)
          → Stands s i (read_at s i)
      go (no h) l n f = let out : length s ≤ i = omega arith in subst (Stands s i) (at_end s i out) out
      go (yes h) (yes l) n f = subst (Stands s i) (no_length s i h l) (omega arith, omega arith)
      go (yes h) (no l) (yes n) f = subst (Stands s i) (an_order s i h (omega arith) n) (order_stands n)
      go (yes h) (no l) (no n) (yes f) = subst (Stands s i) (a_frame s i h (omega arith) n f) (frame_stands f)
      go (yes h) (no l) (no n) (no f) = subst (Stands s i) (no_lawful s i h (omega arith) n f) (omega arith, omega arith)

  pub order_found : {start asked allowed next : ℕ} → read_at s i ≡ Order start asked allowed next → OrderStands s i start asked allowed next
  unfolding Stands
  order_found e = subst (Stands s i) e stands

  pub frame_found : {number from next : ℕ} → read_at s i ≡ Frame number from next → FrameStands s i number from next
  unfolding Stands
  frame_found e = subst (Stands s i) e stands
