-- Capture records and their reader (01, capture records; refusals 6 to 9 and the paragraph under the list). Places count bytes of the capture from 0 on; a
-- place may lie beyond the end.
-- Assumes nothing.
use Rattle.std.specs.Prelude.{Bool, cond, ◌&&◌, List, [], ◌∷◌, ◌++◌, ℕ, zero, suc, ◌+◌, ◌-◌, ◌/◌, ◌%◌, ◌^◌, length, get_or, take, drop, eqb, ltb, leb}
use Rattle.bits.specs.definitions.Bits.{tabulate, value}
use Rattle.capture.specs.definitions.Read.{Read, End, Refused, Order, Frame}

-- how a record lies in bytes: what each `At` and `From` names stands so far behind the record's first byte
pub record Layout : Type 0 where
  -- the bytes of the length, which comes first and counts what follows it, and the two lengths that are admitted
  pub length_bytes : ℕ
  pub order_length : ℕ
  pub frame_length : ℕ
  pub version_at : ℕ
  pub version : ℕ
  pub kind_at : ℕ
  pub order_kind : ℕ
  pub frame_kind : ℕ
  -- of an order
  pub start_at : ℕ
  pub asked_at : ℕ
  pub allowed_at : ℕ
  -- of a frame
  pub number_at : ℕ
  pub symbols_from : ℕ
  pub symbols : ℕ
  -- a whole record, its length among them
  pub order_bytes : ℕ
  pub frame_bytes : ℕ

-- the layout of version 1 (01, capture records; refusals 7 to 9)
abbrev pub layout : Layout
layout =
    record {
      length_bytes = 4;
      order_length = 14;
      frame_length = 6150;
      version_at = 4;
      version = 1;
      kind_at = 5;
      order_kind = 0;
      frame_kind = 1;
      start_at = 6;
      asked_at = 10;
      allowed_at = 14;
      number_at = 6;
      symbols_from = 10;
      symbols = 6144;
      order_bytes = 18;
      frame_bytes = 6154;
    }

-- the four bytes from a place on as a number, big-endian (01, capture records)
unfoldable pub big_endian_at : List ℕ → ℕ → ℕ
big_endian_at s i = value 256 4 (λ k. get_or s (i + k) 0)

-- what refuses a record of a lawful length, of so many bytes and of this kind: 6, 8 or 9, the lowest that applies, or 0 (01, refusal list)
unfoldable pub refusal_at : List ℕ → ℕ → ℕ → ℕ → ℕ
refusal_at s i bytes kind =
    cond (ltb (length s - i) bytes) 6
    (cond (eqb (get_or s (i + layout.version_at) 0) layout.version)
    (cond (eqb (get_or s (i + layout.kind_at) 0) kind) 0 9)
    8)

-- what was found, or the refusal (01, refusal list: 0 is done)
unfoldable pub refused_or : ℕ → Read → Read
refused_or refusal found = cond (eqb refusal 0) found (Refused refusal)

-- kind 0, the order: start number, frames asked, flagged words allowed, and the place behind it (01, capture records)
unfoldable pub order_at : List ℕ → ℕ → Read
order_at s i =
    refused_or (refusal_at s i layout.order_bytes layout.order_kind)
    (Order (big_endian_at s (i + layout.start_at)) (big_endian_at s (i + layout.asked_at)) (big_endian_at s (i + layout.allowed_at)) (i + layout.order_bytes))

-- kind 1, a frame: its number, the place from which its symbols lie, and the place behind it (01, capture records)
unfoldable pub frame_at : List ℕ → ℕ → Read
frame_at s i =
    refused_or (refusal_at s i layout.frame_bytes layout.frame_kind)
    (Frame (big_endian_at s (i + layout.number_at)) (i + layout.symbols_from) (i + layout.frame_bytes))

-- what stands at a place, lowest refusal first: no byte left is the end, fewer than four are 6, and 7 is tested once four are there (01, the refusal list)
unfoldable pub read_at : List ℕ → ℕ → Read
read_at s i =
    cond (leb (length s) i) End
    (cond (ltb (length s - i) layout.length_bytes) (Refused 6)
    (cond (eqb (big_endian_at s i) layout.order_length) (order_at s i)
    (cond (eqb (big_endian_at s i) layout.frame_length) (frame_at s i)
    (Refused 7))))

-- the next place: neither the end nor a refusal moves it (01, under the refusal list)
abbrev pub next_of : Read → ℕ → ℕ
next_of End i = i
next_of (Refused refusal) i = i
next_of (Order start asked allowed next) i = next
next_of (Frame number from next) i = next

-- the number of more than one record (house: 01 lists none for it, and 02's end with 21)
abbrev pub more_than_one : ℕ
more_than_one = 22

-- in so many bytes stands a record, and more behind it
abbrev pub more : Read → ℕ → Bool
more read bytes = ltb 0 (next_of read 0) && ltb (next_of read 0) bytes

-- the one record that these bytes are; where more stands behind it they are refused, after 6 to 9 and before anything is entered
unfoldable pub read_one : List ℕ → Read
read_one s = cond (more (read_at s 0) (length s)) (Refused more_than_one) (read_at s 0)

-- what is read of the part that begins at place i, with its places counted in the whole
unfoldable pub shifted : ℕ → Read → Read
shifted i End = End
shifted i (Refused refusal) = Refused refusal
shifted i (Order start asked allowed next) = Order start asked allowed (i + next)
shifted i (Frame number from next) = Frame number (i + from) (i + next)

-- the 6,144 symbols from a place on, as the part of the capture where they lie; nothing where fewer bytes are left (01, capture records)
unfoldable pub symbols_at : List ℕ → ℕ → List ℕ
symbols_at s i = cond (leb (i + layout.symbols) (length s)) (take layout.symbols (drop i s)) []

-- how many bytes of a record to ask for, by those that are there: its length, and once that is there and lawful, all of it (01, account: one record at a time)
unfoldable pub wanted : List ℕ → ℕ
wanted s =
    cond (ltb (length s) layout.length_bytes) layout.length_bytes
    (cond (eqb (big_endian_at s 0) layout.order_length) layout.order_bytes
    (cond (eqb (big_endian_at s 0) layout.frame_length) layout.frame_bytes
    layout.length_bytes))

-- a number in four bytes, big-endian (01, capture records)
unfoldable pub big_endian : ℕ → List ℕ
big_endian n = tabulate 4 (λ k. n / 256 ^ (3 - k) % 256)

-- the bytes of an order's record (01, capture records)
unfoldable pub order_record : ℕ → ℕ → ℕ → List ℕ
order_record start asked allowed =
    big_endian layout.order_length ++ (layout.version ∷ layout.order_kind ∷ []) ++ big_endian start ++ big_endian asked ++ big_endian allowed

-- the bytes of a frame's record (01, capture records)
unfoldable pub frame_record : ℕ → List ℕ → List ℕ
frame_record number symbols = big_endian layout.frame_length ++ (layout.version ∷ layout.frame_kind ∷ []) ++ big_endian number ++ symbols

-- the number of frame k of a run, round at 2^32 (01, account)
abbrev pub frame_number : ℕ → ℕ → ℕ
frame_number start k = (start + k) % 2 ^ 32

-- the records of frames 0, 1, .., n - 1, with their numbers, one after the other (01, capture records)
unfoldable pub frame_records : (ℕ → ℕ) → (ℕ → List ℕ) → ℕ → List ℕ
frame_records numbers frames zero = []
frame_records numbers frames (suc n) = frame_records numbers frames n ++ frame_record (numbers n) (frames n)
