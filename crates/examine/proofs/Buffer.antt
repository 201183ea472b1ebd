-- How many bytes a record asks for, and the piece that comes to stand at the beginning of a buffer.
-- Assumes nothing.
use mathlib.Core.Path.{◌≡◌, refl, sym, ap, ◌∙◌, subst}
use mathlib.Core.List.{List, [], ◌++◌}
use Prim.Native.Nat.{ℕ, ◌+◌, ◌-◌, ◌≤◌, ◌<◌}
use native.Mathlib.Omega.{arith}
use lib.ListN.{length, take, length-append}
use lib.Seq.{length-take-le, take-append_seam, take_all}
use borrow.Rule.Slice.PartMut.{put_mid}
use Rattle.std.specs.Prelude.{Option}
use Rattle.std.proofs.lemmas.List.{length-take}
use Rattle.std.specs.Io.KnownBytes.{Consumes}
use Rattle.std.proofs.KnownBytes.{Consumes-trans}
use Rattle.capture.specs.definitions.Capture.{layout, wanted}
use Rattle.capture.proofs.Local.{wanted_bounds, wanted_alike}
use Rattle.examine.proofs.Known.{part_more}

-- first the length is wanted
nothing_yet : wanted [] ≡ layout.length_bytes
unfolding wanted
nothing_yet = refl

-- no record asks for less
pub wanted_least : (s : List ℕ) → wanted [] ≤ wanted s
wanted_least s = let z = nothing_yet in let w = (wanted_bounds s).0 in omega arith

-- nor for more than a frame's
pub wanted_most : (s : List ℕ) → wanted s ≤ layout.frame_bytes
wanted_most s = (wanted_bounds s).1

-- where nothing is there more is wanted
pub none_yet : (s : List ℕ) → length s < 1 → length s < wanted s
none_yet s h = let z = nothing_yet in let w = wanted_least s in omega arith

-- a piece without its whole length is short of what is wanted
pub begun_within : (b : List ℕ) (n first : ℕ) → first ≡ wanted [] → n < first → length (take n b) ≤ wanted (take n b)
begun_within b n first f h = let w = wanted_least (take n b) in let t = length-take n b in omega arith

-- a piece in a buffer: its length, `head`, and behind that `tail` bytes of the rest
module _ (head rest post : List ℕ) (first tail k : ℕ) (l : length head ≡ first) (m : tail ≤ length rest) where
  abbrev piece : List ℕ
  piece = take (first + tail) (put_mid first k (head ++ post) rest)

  front : take first (head ++ post) ≡ head
  front = subst (λ (n : ℕ). take n (head ++ post) ≡ head) l (take-append_seam head post)

  joined : piece ≡ head ++ take tail rest
  joined =
      let long : first ≤ length (head ++ post) = let e = length-append head post in omega arith in
      part_more first tail k (head ++ post) rest long m ∙ ap (λ (x : List ℕ). x ++ take tail rest) front

  pub piece_given : (a b c : Option (List ℕ)) (n : ℕ) → first ≤ n → Consumes a b (take n head) → Consumes b c (take tail rest) → Consumes a c piece
  piece_given a b c n h before now = rw joined (Consumes-trans a b c head (take tail rest) (rw (← take_all n head (omega arith)) before) now)

  module _ (all : ℕ) (f : first ≡ wanted []) (a : all ≡ wanted (take first (head ++ post))) (r : length rest ≡ all - first) where
    piece_length : length piece ≡ first + tail
    piece_length =
        ap length joined ∙ (let e = length-append head (take tail rest) in let t = length-take-le tail rest m in omega arith)

    piece_wants : wanted piece ≡ all
    piece_wants =
        let z = nothing_yet in
        ap wanted joined ∙ wanted_alike head (take tail rest) (omega arith) ∙ sym (a ∙ ap wanted front)

    pub piece_within : length piece ≤ wanted piece
    piece_within =
        let w = wanted_least (take first (head ++ post)) in
        let p = piece_length in
        let q = piece_wants in
        omega arith

    -- where it is short, so is the rest
    pub piece_short : length piece < wanted piece → tail < length rest
    piece_short h = let p = piece_length in let q = piece_wants in omega arith
