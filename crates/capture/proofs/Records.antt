-- The bytes of a record and what is read of them are one thing, both ways: a record reads as what was put in it, and what is read stands there as its record.
-- Assumes nothing.
use mathlib.Core.Path.{◌≡◌, refl, sym, ap, ◌∙◌}
use mathlib.Core.List.{List, ◌∷◌, ◌++◌, append_assoc}
use Prim.Native.Nat.{ℕ, zero, suc, ◌*◌, ◌+◌, ◌-◌, ◌/◌, ◌%◌, ◌^◌, ◌<◌, ◌≤◌}
use native.Mathlib.Decide.{dec_lt}
use native.Mathlib.Omega.{arith}
use lib.ListN.{length, get_or, take, drop, length-append, length-drop, take-append-drop}
use lib.Seq.{take_at, drop_at, drop-append-add, length-take-le, get_or-take, get_or-drop, drop-drop, drop-cons}
use Rattle.bits.specs.definitions.Bits.{tabulate, value, AllBytes}
use Rattle.bits.proofs.Value.{value_lt, value_digit, value_digits}
use Rattle.bits.proofs.Tabulate.{is_tabulate}
use Rattle.capture.specs.definitions.Capture.{layout, big_endian_at, read_at, symbols_at, big_endian, order_record, frame_record, frame_records, shifted}
use Rattle.capture.specs.statements.Records.{OrderReads, FrameReads, OrderFound, FrameFound, FramesRead, Records}
use Rattle.capture.proofs.Cases.{not_refused_lem, order_read, frame_read, an_order, a_frame, symbols_are}
use Rattle.capture.proofs.Local.{reads_from_here, symbols_here}
use Rattle.capture.proofs.Found.{Whole, OrderStands, FrameStands, order_found, frame_found}

-- a number of four bytes, read where it was put
pub order_reads : OrderReads
unfolding order_record big_endian tabulate big_endian_at value
order_reads start asked allowed rest hs ha hw =
    sym
    (order_read r 0 start asked allowed (not_refused_lem r 0 _ _ (omega arith) refl refl) (sym (value_digits 256 4 start hs))
    (sym (value_digits 256 4 asked ha))
    (sym (value_digits 256 4 allowed hw))
    ∙ an_order r 0 (omega arith) (omega arith) refl)
  where
    r : List ℕ
    r = order_record start asked allowed ++ rest

pub frame_reads : FrameReads
unfolding frame_record big_endian tabulate big_endian_at value
frame_reads number symbols rest hn e = (
  sym
      (frame_read r 0 number (not_refused_lem r 0 _ _ (omega (arith, more)) refl refl) (sym (value_digits 256 4 number hn))
      ∙ a_frame r 0 (omega arith) (omega arith) (λ (z : layout.frame_length ≡ layout.order_length). omega arith) refl),
  symbols_are r layout.symbols_from (omega (arith, more)) ∙ take_at symbols rest layout.symbols e,
)
  where
    r : List ℕ
    r = frame_record number symbols ++ rest

    more : length (symbols ++ rest) ≡ length symbols + length rest
    more = length-append symbols rest

module _ (s : List ℕ) (B : AllBytes s) where
  big_endian_lt : (i : ℕ) → big_endian_at s i < 2 ^ 32
  unfolding big_endian_at
  big_endian_lt i = value_lt 256 4 _ (λ k l. B.byte (i + k))

  -- the four bytes of the number that is read of them
  big_endian_stands : (i : ℕ) → i + 4 ≤ length s → drop i s ≡ big_endian (big_endian_at s i) ++ drop (i + 4) s
  unfolding big_endian_at big_endian
  big_endian_stands i h =
      sym (take-append-drop 4 (drop i s))
      ∙ (λ k. is_tabulate 0 (take 4 (drop i s)) 4 _ size at k ++ drop-drop 4 i s k)
    where
      size : length (take 4 (drop i s)) ≡ 4
      size = length-take-le 4 (drop i s) (rw length-drop (omega arith))

      at : (k : ℕ) → k < 4 → get_or (take 4 (drop i s)) k 0 ≡ big_endian_at s i / 256 ^ (3 - k) % 256
      at k l = get_or-take 4 (drop i s) k 0 l ∙ get_or-drop i s k 0 ∙ sym (value_digit 256 4 (λ j. get_or s (i + j) 0) (λ j m. B.byte (i + j)) k l)

  -- the number n, which the answer says
  number_stands : (i n : ℕ) → i + 4 ≤ length s → n ≡ big_endian_at s i → drop i s ≡ big_endian n ++ drop (i + 4) s
  number_stands i n h e = rw e (big_endian_stands i h)

  -- version and kind
  head_stands : (bytes kind : ℕ) → Whole s 0 bytes kind → layout.kind_at < bytes
      → drop layout.version_at s ≡ layout.version ∷ kind ∷ drop (suc layout.kind_at) s
  head_stands bytes kind W h =
      drop-cons s layout.version_at 0 (omega arith)
      ∙ (λ k. W.version k ∷ (drop-cons s layout.kind_at 0 (omega arith) ∙ ap (λ (x : ℕ). x ∷ drop (suc layout.kind_at) s) W.kind) k)

  order_bytes : {start asked allowed next : ℕ} → OrderStands s 0 start asked allowed next → s ≡ order_record start asked allowed ++ drop next s
  unfolding order_record big_endian tabulate
  order_bytes {start} {asked} {allowed} {next} O =
      rw O.next_is
      (number_stands 0 layout.order_length (omega arith) (sym O.length)
      ∙ ap (λ (l : List ℕ). big_endian layout.order_length ++ l)
      (head_stands layout.order_bytes layout.order_kind O.whole (omega arith)
      ∙ ap (λ (l : List ℕ). layout.version ∷ layout.order_kind ∷ l)
      (number_stands layout.start_at start (omega arith) O.start_is
      ∙ ap (λ (l : List ℕ). big_endian start ++ l)
      (number_stands layout.asked_at asked (omega arith) O.asked_is
      ∙ ap (λ (l : List ℕ). big_endian asked ++ l) (number_stands layout.allowed_at allowed (omega arith) O.allowed_is)))))

  module _ {number from next : ℕ} (F : FrameStands s 0 number from next) where
    symbols_part : take layout.symbols (drop layout.symbols_from s) ≡ symbols_at s from
    symbols_part = rw F.from_is (sym (symbols_are s layout.symbols_from (omega arith)))

    symbols_length : length (symbols_at s from) ≡ layout.symbols
    symbols_length = rw (← symbols_part) (length-take-le layout.symbols (drop layout.symbols_from s) (rw length-drop (omega arith)))

    frame_bytes : s ≡ frame_record number (symbols_at s from) ++ drop next s
    unfolding frame_record big_endian tabulate
    frame_bytes =
        rw (F.next_is, ← symbols_part)
        (number_stands 0 layout.frame_length (omega arith) (sym F.length)
        ∙ ap (λ (l : List ℕ). big_endian layout.frame_length ++ l)
        (head_stands layout.frame_bytes layout.frame_kind F.whole (omega arith)
        ∙ ap (λ (l : List ℕ). layout.version ∷ layout.frame_kind ∷ l)
        (number_stands layout.number_at number (omega arith) F.number_is
        ∙ ap (λ (l : List ℕ). big_endian number ++ l)
        (sym (take-append-drop layout.symbols (drop layout.symbols_from s))
        ∙ ap (λ (l : List ℕ). take layout.symbols (drop layout.symbols_from s) ++ l) (drop-drop layout.symbols layout.symbols_from s)))))

pub order_stands : OrderFound
order_stands s start asked allowed next B e =
    let O = order_found s 0 e in (
      rw O.start_is (big_endian_lt s B layout.start_at),
      rw O.asked_is (big_endian_lt s B layout.asked_at),
      rw O.allowed_is (big_endian_lt s B layout.allowed_at),
      O.next_is,
      order_bytes s B O,
    )

pub frame_stands : FrameFound
frame_stands s number from next B e =
    let F = frame_found s 0 e in
    (rw F.number_is (big_endian_lt s B layout.number_at), F.from_is, F.next_is, symbols_length s B F, frame_bytes s B F)

order_length : (start asked allowed : ℕ) → length (order_record start asked allowed) ≡ layout.order_bytes
unfolding order_record big_endian tabulate
order_length start asked allowed = refl

frame_length : (number : ℕ) (symbols : List ℕ) → length symbols ≡ layout.symbols → length (frame_record number symbols) ≡ layout.frame_bytes
unfolding frame_record big_endian tabulate
frame_length number symbols e = omega arith

module _ (numbers : ℕ → ℕ) (frames : ℕ → List ℕ) where
  frames_length : (n : ℕ) → ((k : ℕ) → k < n → length (frames k) ≡ layout.symbols) → length (frame_records numbers frames n) ≡ n * layout.frame_bytes
  unfolding frame_records
  frames_length zero h = refl
  frames_length (suc n) h =
      let before : length (frame_records numbers frames n) ≡ n * layout.frame_bytes = frames_length n (λ k l. h k (omega arith)) in
      let last : length (frame_record (numbers n) (frames n)) ≡ layout.frame_bytes = frame_length _ (frames n) (h n (omega arith)) in
      rw length-append (omega arith)

  -- from the place of frame k on stands its record, and something behind it
  frames_drop : (n k : ℕ) (rest : List ℕ) → ((k : ℕ) → k < n → length (frames k) ≡ layout.symbols) → k < n
      → (behind : List ℕ) × (drop (k * layout.frame_bytes) (frame_records numbers frames n ++ rest) ≡ frame_record (numbers k) (frames k) ++ behind)
  unfolding frame_records
  frames_drop zero k rest h l = absurd (omega arith)
  frames_drop (suc n) k rest h l = at (frames_drop n k (last ++ rest) (λ j o. h j (omega arith))) (dec_lt k n)
    where
      last : List ℕ
      last = frame_record (numbers n) (frames n)

      at : (k < n → (behind : List ℕ) × (drop (k * layout.frame_bytes) (frame_records numbers frames n ++ (last ++ rest))
          ≡ frame_record (numbers k) (frames k) ++ behind))
          → Dec (k < n)
          → (behind : List ℕ)
          × (drop (k * layout.frame_bytes) ((frame_records numbers frames n ++ last) ++ rest) ≡ frame_record (numbers k) (frames k) ++ behind)
      at earlier (yes m) = rw append_assoc (earlier m)
      at earlier (no m) =
          let e : k ≡ n = omega arith in
          rw (append_assoc, e) (
            rest,
            drop_at (frame_records numbers frames n) (last ++ rest) (n * layout.frame_bytes)
                (frames_length n (λ j o. h j (omega arith))),
          )

pub frames_read : FramesRead
unfolding shifted
frames_read n numbers frames before rest h k i l e =
    let D = frames_drop numbers frames n k rest (λ j o. (h j o).1) l in
    let R = frame_reads (numbers k) (frames k) D.0 (h k l).0 (h k l).1 in
    let at : drop i (before ++ (frame_records numbers frames n ++ rest)) ≡ frame_record (numbers k) (frames k) ++ D.0
    = rw e (drop-append-add before (frame_records numbers frames n ++ rest) (k * layout.frame_bytes) ∙ D.1)
    in (
      reads_from_here _ i ∙ ap (λ (s : List ℕ). shifted i (read_at s 0)) at ∙ ap (shifted i) R.0,
      symbols_here _ i layout.symbols_from ∙ ap (λ (s : List ℕ). symbols_at s layout.symbols_from) at ∙ R.1,
    )

pub records : Records
records =
    record {
      order_reads = order_reads;
      frame_reads = frame_reads;
      order_found = order_stands;
      frame_found = frame_stands;
      frames_read = frames_read;
      record_lengths = (order_length, frame_length, λ n numbers frames. frames_length numbers frames n);
    }
