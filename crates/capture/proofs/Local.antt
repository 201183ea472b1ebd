-- A record reads the same by itself: what lies before it does not matter, nor what lies behind it.
-- Assumes nothing.
use mathlib.Core.Path.{◌≡◌, refl, sym, ap, ◌∙◌}
use mathlib.Core.Bool.{Bool, true, false, cond}
use mathlib.Core.Logic.{◌≢◌}
use mathlib.Core.List.{List, ◌++◌}
use Prim.Native.Nat.{ℕ, ◌+◌, ◌-◌, ◌<◌, ◌≤◌}
use native.Mathlib.Nat.{add-zero, zero-add, add_assoc, sub-zero}
use native.Mathlib.Decide.{dec_le, dec_lt, ℕ_discrete}
use native.Mathlib.Omega.{arith}
use lib.Dec.{leb}
use Rattle.std.proofs.lemmas.Bool.Decides.{nat_tests}
use lib.ListN.{length, get_or, take, drop, length-drop, length-append, take-append-drop, get_or-append}
use lib.Seq.{get_or-drop, drop-drop, drop-append-le, take-append-le, length-take-le, take_all}
use borrow.Author.Tests.{le-ltb, le-leb, lt-leb}
use Rattle.bits.proofs.Value.{value_cong}
use Rattle.capture.specs.definitions.Read.{Read, Refused}
use Rattle.capture.specs.definitions.Capture.{layout, big_endian_at, refusal_at, refused_or, order_at, frame_at, read_at, shifted, symbols_at, wanted}
use Rattle.capture.specs.statements.Local.{ReadsFromHere, ReadsWithMore, WantedReads, WantedAlike, ReadLocal}
use Rattle.capture.proofs.Cases.{refused_short, order_refused, frame_refused, at_end, no_length, an_order, a_frame, no_lawful, symbols_none, symbols_are}
use Rattle.capture.proofs.Cases.{wanted_first, wanted_order, wanted_frame, wanted_no_more}
use Rattle.capture.proofs.Found.{order_found, frame_found}

-- a choice, shifted
shifted_cond : (i : ℕ) (b : Bool) (x y : Read) → shifted i (cond b x y) ≡ cond b (shifted i x) (shifted i y)
shifted_cond i true x y = refl
shifted_cond i false x y = refl

module _ (s : List ℕ) (i : ℕ) where
  big_endian_here : (k : ℕ) → big_endian_at (drop i s) k ≡ big_endian_at s (i + k)
  unfolding big_endian_at
  big_endian_here k = value_cong 256 4 _ _ (λ j l. get_or-drop i s (k + j) 0 ∙ ap (λ (n : ℕ). get_or s n 0) (sym (add_assoc i k j)))

  refusal_here : (bytes kind : ℕ) → refusal_at (drop i s) 0 bytes kind ≡ refusal_at s i bytes kind
  unfolding refusal_at
  refusal_here bytes kind = simp (length-drop, get_or-drop, sub-zero, zero-add)

  order_here : shifted i (order_at (drop i s) 0) ≡ order_at s i
  unfolding order_at refused_or shifted
  order_here = simp (shifted_cond, refusal_here, big_endian_here)

  frame_here : shifted i (frame_at (drop i s) 0) ≡ frame_at s i
  unfolding frame_at refused_or shifted
  frame_here = simp (shifted_cond, refusal_here, big_endian_here)

  end_here : leb (length s - i) 0 ≡ leb (length s) i
  end_here = at (dec_lt i (length s))
    where
      at : Dec (i < length s) → leb (length s - i) 0 ≡ leb (length s) i
      at (yes h) = rw (lt-leb (length s - i) 0 (omega arith)) (sym (lt-leb (length s) i h))
      at (no h) = rw (le-leb (length s - i) 0 (omega arith)) (sym (le-leb (length s) i (omega arith)))

pub reads_from_here : ReadsFromHere
unfolding read_at shifted
reads_from_here s i = sym (simp (shifted_cond, length-drop, end_here, sub-zero, big_endian_here, add-zero, order_here, frame_here))

module _ (s t : List ℕ) (i : ℕ) where
  big_endian_more : (k : ℕ) → i + k + 4 ≤ length s → big_endian_at (s ++ t) (i + k) ≡ big_endian_at s (i + k)
  unfolding big_endian_at
  big_endian_more k h = value_cong 256 4 _ _ (λ j l. get_or-append s t 0 (i + k + j) (omega arith))

  refusal_more : (bytes kind : ℕ) → bytes ≤ length s - i → layout.kind_at < bytes → refusal_at (s ++ t) i bytes kind ≡ refusal_at s i bytes kind
  unfolding refusal_at
  refusal_more bytes kind h l =
      let more : bytes ≤ length (s ++ t) - i = rw length-append (omega arith) in
      rw (
        le-ltb (length (s ++ t) - i) bytes more,
        le-ltb (length s - i) bytes h,
        get_or-append s t 0 (i + layout.version_at) (omega arith),
        get_or-append
            s t 0 (i + layout.kind_at) (omega arith),
      )

  order_more : layout.order_bytes ≤ length s - i → order_at (s ++ t) i ≡ order_at s i
  unfolding order_at
  order_more h =
      rw (
        refusal_more layout.order_bytes layout.order_kind h (omega arith),
        big_endian_more layout.start_at (omega arith),
        big_endian_more
            layout.asked_at (omega arith),
        big_endian_more layout.allowed_at (omega arith),
      )

  frame_more : layout.frame_bytes ≤ length s - i → frame_at (s ++ t) i ≡ frame_at s i
  unfolding frame_at
  frame_more h = rw (refusal_more layout.frame_bytes layout.frame_kind h (omega arith), big_endian_more layout.number_at (omega arith))

  -- where the length is there: a lawful one behind which all is there, or another
  module _ (h : i < length s) (l : length s - i < layout.length_bytes → ⊥) where
    here : i < length (s ++ t)
    here = rw length-append (omega arith)

    there : layout.length_bytes ≤ length (s ++ t) - i
    there = rw length-append (omega arith)

    same : big_endian_at (s ++ t) i ≡ big_endian_at s i
    same = ap (big_endian_at (s ++ t)) (sym (add-zero i)) ∙ big_endian_more 0 (omega arith) ∙ ap (big_endian_at s) (add-zero i)

    order_same : read_at s i ≢ Refused 6 → big_endian_at s i ≡ layout.order_length → Dec (length s - i < layout.order_bytes) → read_at (s ++ t) i ≡ read_at s i
    order_same c n (yes m) =
        absurd (c (sym (order_refused s i 6 (refused_short s i _ _ m) (λ (z : ◌≡◌ {A = ℕ} 6 0). omega arith) ∙ an_order s i h (omega arith) n)))
    order_same c n (no m) = sym (an_order (s ++ t) i here there (same ∙ n)) ∙ order_more (omega arith) ∙ an_order s i h (omega arith) n

    module _ (n : big_endian_at s i ≡ layout.order_length → ⊥) where
      frame_same : read_at s i ≢ Refused 6 → big_endian_at s i ≡ layout.frame_length → Dec (length s - i < layout.frame_bytes)
          → read_at (s ++ t) i ≡ read_at s i
      frame_same c f (yes m) =
          absurd (c (sym (frame_refused s i 6 (refused_short s i _ _ m) (λ (z : ◌≡◌ {A = ℕ} 6 0). omega arith) ∙ a_frame s i h (omega arith) n f)))
      frame_same c f (no m) =
          sym (a_frame (s ++ t) i here there (λ z. n (sym same ∙ z)) (same ∙ f)) ∙ frame_more (omega arith) ∙ a_frame s i h (omega arith) n f

      unlawful_same : (big_endian_at s i ≡ layout.frame_length → ⊥) → read_at (s ++ t) i ≡ read_at s i
      unlawful_same f = sym (no_lawful (s ++ t) i here there (λ z. n (sym same ∙ z)) (λ z. f (sym same ∙ z))) ∙ no_lawful s i h (omega arith) n f

pub reads_with_more : ReadsWithMore
reads_with_more s t i e c =
    at (dec_lt i (length s)) (dec_lt (length s - i) layout.length_bytes) (ℕ_discrete (big_endian_at s i) layout.order_length)
    (ℕ_discrete (big_endian_at s i) layout.frame_length)
  where
    at : Dec (i < length s) → Dec (length s - i < layout.length_bytes) → Dec (big_endian_at s i ≡ layout.order_length)
        → Dec (big_endian_at s i ≡ layout.frame_length) → read_at (s ++ t) i ≡ read_at s i
    at (no h) l n f = absurd (e (sym (at_end s i (omega arith))))
    at (yes h) (yes l) n f = absurd (c (sym (no_length s i h l)))
    at (yes h) (no l) (yes n) f = order_same s t i h l c n (dec_lt (length s - i) layout.order_bytes)
    at (yes h) (no l) (no n) (yes f) = frame_same s t i h l n c f (dec_lt (length s - i) layout.frame_bytes)
    at (yes h) (no l) (no n) (no f) = unlawful_same s t i h l n f

-- the symbols from a place in a part
pub symbols_here : (s : List ℕ) (i k : ℕ) → symbols_at s (i + k) ≡ symbols_at (drop i s) k
symbols_here s i k = at (dec_le (i + k + layout.symbols) (length s))
  where
    at : Dec (i + k + layout.symbols ≤ length s) → symbols_at s (i + k) ≡ symbols_at (drop i s) k
    at (yes h) = symbols_are s (i + k) h ∙ ap (take layout.symbols) (sym (drop-drop k i s)) ∙ sym (symbols_are (drop i s) k (rw length-drop (omega arith)))
    at (no h) = sym (symbols_none s (i + k) (omega arith)) ∙ symbols_none (drop i s) k (rw length-drop (omega arith))

pub symbols_more : (s t : List ℕ) (i : ℕ) → i + layout.symbols ≤ length s → symbols_at (s ++ t) i ≡ symbols_at s i
symbols_more s t i h =
    symbols_are (s ++ t) i (rw length-append (omega arith)) ∙ ap (take layout.symbols) (drop-append-le i s t (omega arith))
    ∙ take-append-le layout.symbols (drop i s) t (rw length-drop (omega arith)) ∙ sym (symbols_are s i h)

-- the bytes wanted are enough: where all of them are there, the record is; where fewer are, there are no more
module _ (s : List ℕ) where
  module _ (bytes : ℕ) (h : bytes ≤ length s) (l : layout.length_bytes ≤ bytes) where
    taken : length (take bytes s) ≡ bytes
    taken = length-take-le bytes s h

    big_endian_taken : big_endian_at s 0 ≡ big_endian_at (take bytes s) 0
    big_endian_taken =
        ap (λ (x : List ℕ). big_endian_at x 0) (sym (take-append-drop bytes s)) ∙ big_endian_more (take bytes s) (drop bytes s) 0 0 (rw taken (omega arith))

  order_wanted : big_endian_at s 0 ≡ layout.order_length → Dec (length s < layout.order_bytes) → read_at (take layout.order_bytes s) 0 ≡ read_at s 0
  order_wanted n (yes h) = ap (λ (x : List ℕ). read_at x 0) (take_all layout.order_bytes s (omega arith))
  order_wanted n (no h) =
      let t = taken layout.order_bytes (omega arith) (omega arith) in
      sym (an_order (take layout.order_bytes s) 0 (omega arith) (omega arith) (sym (big_endian_taken layout.order_bytes (omega arith) (omega arith)) ∙ n))
      ∙ sym (order_more (take layout.order_bytes s) (drop layout.order_bytes s) 0 (omega arith))
      ∙ ap (λ (x : List ℕ). order_at x 0) (take-append-drop layout.order_bytes s) ∙ an_order s 0 (omega arith) (omega arith) n

  frame_wanted : (big_endian_at s 0 ≡ layout.order_length → ⊥) → big_endian_at s 0 ≡ layout.frame_length → Dec (length s < layout.frame_bytes)
      → read_at (take layout.frame_bytes s) 0 ≡ read_at s 0
  frame_wanted n f (yes h) = ap (λ (x : List ℕ). read_at x 0) (take_all layout.frame_bytes s (omega arith))
  frame_wanted n f (no h) =
      let t = taken layout.frame_bytes (omega arith) (omega arith) in
      let e = big_endian_taken layout.frame_bytes (omega arith) (omega arith) in
      sym (a_frame (take layout.frame_bytes s) 0 (omega arith) (omega arith) (λ z. n (e ∙ z)) (sym e ∙ f))
      ∙ sym (frame_more (take layout.frame_bytes s) (drop layout.frame_bytes s) 0 (omega arith))
      ∙ ap (λ (x : List ℕ). frame_at x 0) (take-append-drop layout.frame_bytes s) ∙ a_frame s 0 (omega arith) (omega arith) n f

  unlawful_wanted : layout.length_bytes ≤ length s → (big_endian_at s 0 ≡ layout.order_length → ⊥) → (big_endian_at s 0 ≡ layout.frame_length → ⊥)
      → read_at (take layout.length_bytes s) 0 ≡ read_at s 0
  unlawful_wanted h n f =
      let t = taken layout.length_bytes h (omega arith) in
      let e = big_endian_taken layout.length_bytes h (omega arith) in
      sym (no_lawful (take layout.length_bytes s) 0 (omega arith) (omega arith) (λ z. n (e ∙ z)) (λ z. f (e ∙ z)))
      ∙ no_lawful s 0 (omega arith) (omega arith) n f

  piece_reads : read_at (take (wanted s) s) 0 ≡ read_at s 0
  piece_reads =
      at (dec_lt (length s) layout.length_bytes) (ℕ_discrete (big_endian_at s 0) layout.order_length) (ℕ_discrete (big_endian_at s 0) layout.frame_length)
    where
      to : (n : ℕ) → n ≡ wanted s → read_at (take n s) 0 ≡ read_at s 0 → read_at (take (wanted s) s) 0 ≡ read_at s 0
      to n e h = ap (λ (w : ℕ). read_at (take w s) 0) (sym e) ∙ h

      at : Dec (length s < layout.length_bytes) → Dec (big_endian_at s 0 ≡ layout.order_length) → Dec (big_endian_at s 0 ≡ layout.frame_length)
          → read_at (take (wanted s) s) 0 ≡ read_at s 0
      at (yes l) n f = to _ (wanted_first s l) (ap (λ (x : List ℕ). read_at x 0) (take_all layout.length_bytes s (omega arith)))
      at (no l) (yes n) f = to _ (wanted_order s (omega arith) n) (order_wanted n (dec_lt (length s) layout.order_bytes))
      at (no l) (no n) (yes f) = to _ (wanted_frame s (omega arith) n f) (frame_wanted n f (dec_lt (length s) layout.frame_bytes))
      at (no l) (no n) (no f) = to _ (wanted_no_more s (omega arith) n f) (unlawful_wanted (omega arith) n f)

pub wanted_reads : WantedReads
wanted_reads s = (
  piece_reads s,
  λ start asked allowed next e. let O = order_found s 0 e in let w = O.whole.inside in O.next_is ∙ wanted_order s (omega arith) O.length,
  λ number from next e.
      let F = frame_found s 0 e in
      let w = F.whole.inside in
      let at = F.from_is in
      let all : layout.frame_bytes ≡ wanted s = wanted_frame s (omega arith) (λ (z : big_endian_at s 0 ≡ layout.order_length). let q = F.length in omega arith)
      F.length in (
        F.next_is ∙ all,
        sym (symbols_more (take (wanted s) s) (drop (wanted s) s) from (let t : length (take (wanted s) s)
            ≡ wanted s = length-take-le (wanted s) s (omega arith) in omega arith))
            ∙ ap (λ (x : List ℕ). symbols_at x from) (take-append-drop (wanted s) s),
      ),
)

-- at least the length is wanted, and at most a frame's record
pub wanted_bounds : (s : List ℕ) → (layout.length_bytes ≤ wanted s) × (wanted s ≤ layout.frame_bytes)
unfolding wanted
wanted_bounds s = grind (arith, nat_tests)

pub wanted_alike : WantedAlike
unfolding wanted
wanted_alike s t h =
    let more : layout.length_bytes ≤ length (s ++ t) = rw length-append (omega arith) in
    rw (le-ltb (length (s ++ t)) layout.length_bytes more, le-ltb (length s) layout.length_bytes h, big_endian_more s t 0 0 h) refl

pub read_local : ReadLocal
read_local = (reads_from_here, reads_with_more, (symbols_here, symbols_more), wanted_reads, wanted_alike)
