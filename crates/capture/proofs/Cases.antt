-- The cases of reading, each by the tests that lead to it.
-- Assumes nothing.
use mathlib.Core.Path.{◌≡◌, sym, ap, ◌∙◌}
use mathlib.Core.List.{List, []}
use Prim.Native.Nat.{ℕ, ◌+◌, ◌-◌, ◌<◌, ◌≤◌}
use native.Mathlib.Nat.{add-zero, add_assoc}
use native.Mathlib.Omega.{arith}
use lib.ListN.{length, get_or, take, drop}
use borrow.Author.Tests.{lt-ltb, le-ltb, le-leb, lt-leb, eq-eqb, ne_eqb}
use lib.Seq.{get_or-drop, get_or-take}
use mathlib.Core.Bool.{Bool, true, false}
use lib.Dec.{ltb}
use Rattle.std.specs.Bool.{if◌then◌else◌}
use Rattle.std.proofs.Common.{Option, Some, None}
use Rattle.bits.proofs.Value.{value_cong}
use Rattle.capture.specs.definitions.Read.{End, Refused, Order, Frame}
use Rattle.capture.specs.definitions.Capture.{layout, big_endian_at, refusal_at, refused_or, order_at, frame_at, read_at, symbols_at, wanted}

module _ (s : List ℕ) (i : ℕ) where
  -- four bytes as a number, of so many that lie from a place on
  pub big_endian_part : (bytes k : ℕ) → k + 4 ≤ bytes → big_endian_at (take bytes (drop i s)) k ≡ big_endian_at s (i + k)
  unfolding big_endian_at
  big_endian_part bytes k h =
      value_cong 256 4 _ _
      (λ j l. get_or-take bytes (drop i s) (k + j) 0 (omega arith) ∙ get_or-drop i s (k + j) 0 ∙ ap (λ (n : ℕ). get_or s n 0) (sym (add_assoc i k j)))

  pub big_endian_first : (bytes : ℕ) → 4 ≤ bytes → big_endian_at (take bytes (drop i s)) 0 ≡ big_endian_at s i
  big_endian_first bytes h = big_endian_part bytes 0 h ∙ ap (big_endian_at s) (add-zero i)

  -- of a part from there on, where a number is found
  pub number_found : (bytes x : ℕ) {found : Option ℕ} → 4 ≤ bytes → found ≡ Some x
      → found ≡ (if ltb (length (take bytes (drop i s))) 4 then None else Some (big_endian_at (take bytes (drop i s)) 0)) → x ≡ big_endian_at s i
  number_found bytes x h e f = let first = big_endian_first bytes h in go (ltb (length (take bytes (drop i s))) 4) (sym e ∙ f) ∙ first
    where
      go : (short : Bool) → Some x ≡ (if short then None else Some (big_endian_at (take bytes (drop i s)) 0)) → x ≡ big_endian_at (take bytes (drop i s)) 0
      go true e = absurd (let p : ◌≡◌ {A = ℕ} 0 1 = cc in omega arith)
      go false e = cc

  module _ (bytes kind : ℕ) where
    pub refused_short : length s - i < bytes → 6 ≡ refusal_at s i bytes kind
    unfolding refusal_at
    refused_short h = simp (lt-ltb (length s - i) bytes h)

    pub refused_version : bytes ≤ length s - i → (get_or s (i + layout.version_at) 0 ≡ layout.version → ⊥) → 8 ≡ refusal_at s i bytes kind
    unfolding refusal_at
    refused_version h v = simp (le-ltb (length s - i) bytes h, ne_eqb (get_or s (i + layout.version_at) 0) layout.version v)

    module _ (h : bytes ≤ length s - i) (v : get_or s (i + layout.version_at) 0 ≡ layout.version) where
      pub refused_kind : (get_or s (i + layout.kind_at) 0 ≡ kind → ⊥) → 9 ≡ refusal_at s i bytes kind
      unfolding refusal_at
      refused_kind k =
          simp (le-ltb (length s - i) bytes h, eq-eqb (get_or s (i + layout.version_at) 0) layout.version v, ne_eqb (get_or s (i + layout.kind_at) 0) kind k)

      pub not_refused_lem : get_or s (i + layout.kind_at) 0 ≡ kind → 0 ≡ refusal_at s i bytes kind
      unfolding refusal_at
      not_refused_lem k =
          simp (le-ltb (length s - i) bytes h, eq-eqb (get_or s (i + layout.version_at) 0) layout.version v, eq-eqb (get_or s (i + layout.kind_at) 0) kind k)

  -- a record of a lawful length, refused or not
  module _ (r : ℕ) where
    pub order_refused : r ≡ refusal_at s i layout.order_bytes layout.order_kind → (r ≡ 0 → ⊥) → Refused r ≡ order_at s i
    unfolding order_at refused_or
    order_refused e n = simp (sym e, ne_eqb r 0 n)

    pub frame_refused : r ≡ refusal_at s i layout.frame_bytes layout.frame_kind → (r ≡ 0 → ⊥) → Refused r ≡ frame_at s i
    unfolding frame_at refused_or
    frame_refused e n = simp (sym e, ne_eqb r 0 n)

  -- as the code reads them, of a record's bytes
  module _ (r : List ℕ) where
    pub order_of : (x y z : ℕ) → 0 ≡ refusal_at s i layout.order_bytes layout.order_kind → r ≡ take layout.order_bytes (drop i s)
        → x ≡ big_endian_at r layout.start_at → y ≡ big_endian_at r layout.asked_at → z ≡ big_endian_at r layout.allowed_at
        → Order x y z (i + layout.order_bytes) ≡ order_at s i
    unfolding order_at refused_or
    order_of x y z e b p q t =
        simp (
          sym e,
          p,
          q,
          t,
          b,
          big_endian_part layout.order_bytes layout.start_at (omega arith),
          big_endian_part layout.order_bytes layout.asked_at (omega arith),
          big_endian_part layout.order_bytes layout.allowed_at (omega arith),
        )

    pub frame_of : (x : ℕ) → 0 ≡ refusal_at s i layout.frame_bytes layout.frame_kind → r ≡ take layout.frame_bytes (drop i s)
        → x ≡ big_endian_at r layout.number_at → Frame x (i + layout.symbols_from) (i + layout.frame_bytes) ≡ frame_at s i
    unfolding frame_at refused_or
    frame_of x e b p = simp (sym e, p, b, big_endian_part layout.frame_bytes layout.number_at (omega arith))

  pub order_read : (x y z : ℕ) → 0 ≡ refusal_at s i layout.order_bytes layout.order_kind
      → x ≡ big_endian_at s (i + layout.start_at) → y ≡ big_endian_at s (i + layout.asked_at) → z ≡ big_endian_at s (i + layout.allowed_at)
      → Order x y z (i + layout.order_bytes) ≡ order_at s i
  unfolding order_at refused_or
  order_read x y z e p q r = simp (sym e, p, q, r)

  pub frame_read : (x : ℕ) → 0 ≡ refusal_at s i layout.frame_bytes layout.frame_kind
      → x ≡ big_endian_at s (i + layout.number_at) → Frame x (i + layout.symbols_from) (i + layout.frame_bytes) ≡ frame_at s i
  unfolding frame_at refused_or
  frame_read x e p = simp (sym e, p)

  -- what stands at a place
  pub at_end : length s ≤ i → End ≡ read_at s i
  unfolding read_at
  at_end h = simp (le-leb (length s) i h)

  module _ (a : i < length s) where
    pub no_length : length s - i < layout.length_bytes → Refused 6 ≡ read_at s i
    unfolding read_at
    no_length b = simp (lt-leb (length s) i a, lt-ltb (length s - i) layout.length_bytes b)

    module _ (b : layout.length_bytes ≤ length s - i) where
      pub an_order : big_endian_at s i ≡ layout.order_length → order_at s i ≡ read_at s i
      unfolding read_at
      an_order n = simp (lt-leb (length s) i a, le-ltb (length s - i) layout.length_bytes b, eq-eqb (big_endian_at s i) layout.order_length n)

      module _ (n : big_endian_at s i ≡ layout.order_length → ⊥) where
        pub a_frame : big_endian_at s i ≡ layout.frame_length → frame_at s i ≡ read_at s i
        unfolding read_at
        a_frame m =
            simp (
              lt-leb (length s) i a,
              le-ltb (length s - i) layout.length_bytes b,
              ne_eqb (big_endian_at s i) layout.order_length n,
              eq-eqb
                  (big_endian_at s i) layout.frame_length m,
            )

        pub no_lawful : (big_endian_at s i ≡ layout.frame_length → ⊥) → Refused 7 ≡ read_at s i
        unfolding read_at
        no_lawful m =
            simp (
              lt-leb (length s) i a,
              le-ltb (length s - i) layout.length_bytes b,
              ne_eqb (big_endian_at s i) layout.order_length n,
              ne_eqb
                  (big_endian_at s i) layout.frame_length m,
            )

  -- the symbols, and where fewer bytes are left
  pub symbols_none : length s < i + layout.symbols → [] ≡ symbols_at s i
  unfolding symbols_at
  symbols_none h = simp (lt-leb (i + layout.symbols) (length s) h)

  pub symbols_are : i + layout.symbols ≤ length s → symbols_at s i ≡ take layout.symbols (drop i s)
  unfolding symbols_at
  symbols_are h = simp (le-leb (i + layout.symbols) (length s) h)

-- how many bytes to ask for
module _ (s : List ℕ) where
  pub wanted_first : length s < layout.length_bytes → layout.length_bytes ≡ wanted s
  unfolding wanted
  wanted_first h = simp (lt-ltb (length s) layout.length_bytes h)

  module _ (h : layout.length_bytes ≤ length s) where
    pub wanted_order : big_endian_at s 0 ≡ layout.order_length → layout.order_bytes ≡ wanted s
    unfolding wanted
    wanted_order n = simp (le-ltb (length s) layout.length_bytes h, eq-eqb (big_endian_at s 0) layout.order_length n)

    module _ (n : big_endian_at s 0 ≡ layout.order_length → ⊥) where
      pub wanted_frame : big_endian_at s 0 ≡ layout.frame_length → layout.frame_bytes ≡ wanted s
      unfolding wanted
      wanted_frame m =
          simp (le-ltb (length s) layout.length_bytes h, ne_eqb (big_endian_at s 0) layout.order_length n, eq-eqb (big_endian_at s 0) layout.frame_length m)

      pub wanted_no_more : (big_endian_at s 0 ≡ layout.frame_length → ⊥) → layout.length_bytes ≡ wanted s
      unfolding wanted
      wanted_no_more m =
          simp (le-ltb (length s) layout.length_bytes h, ne_eqb (big_endian_at s 0) layout.order_length n, ne_eqb (big_endian_at s 0) layout.frame_length m)
