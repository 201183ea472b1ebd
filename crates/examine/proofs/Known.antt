-- What came of a reader whose bytes are known, as it comes to stand in a buffer.
-- Assumes nothing.
use mathlib.Core.Path.{◌≡◌, sym, ap, ◌∙◌, subst}
use mathlib.Core.List.{List, ◌++◌}
use Prim.Native.Nat.{ℕ, ◌+◌, ◌≤◌}
use lib.ListN.{length, take}
use lib.Seq.{length-take-le, take-append-add, take-append-le}
use borrow.Rule.Slice.PartMut.{put_mid, post_of}
use Rattle.std.specs.Prelude.{Option, Result, Ok, Err, OnErr}
use Rattle.std.specs.Io.KnownBytes.{Consumes}
use Rattle.std.proofs.KnownBytes.{Consumes-trans}

-- behind what stands in front of a buffer comes what was read into the part from there on
pub part_more : (at n k : ℕ) (xs ys : List ℕ) → at ≤ length xs → n ≤ length ys → take (at + n) (put_mid at k xs ys) ≡ take at xs ++ take n ys
part_more at n k xs ys h m =
    let long : length (take at xs) ≡ at = length-take-le at xs h in
    ap (λ (j : ℕ). take (j + n) (take at xs ++ (ys ++ post_of at k xs))) (sym long) ∙ take-append-add (take at xs) (ys ++ post_of at k xs) n
    ∙ ap (λ (l : List ℕ). take at xs ++ l) (take-append-le n ys (post_of at k xs) m)

-- what came so far, and n bytes more
pub part_given : (a b c : Option (List ℕ)) (at n k : ℕ) (xs ys : List ℕ) → at ≤ length xs → n ≤ length ys → Consumes a b (take at xs)
    → Consumes b c (take n ys) → Consumes a c (take (at + n) (put_mid at k xs ys))
part_given a b c at n k xs ys h m before now =
    subst (Consumes a c) (sym (part_more at n k xs ys h m)) (Consumes-trans a b c (take at xs) (take n ys) before now)

-- what came, and some bytes more before a read that failed
pub broken_given : {A E : Type 0} (r : Result A E) (a b c : Option (List ℕ)) (s : List ℕ) → Consumes a b s → (t : List ℕ) × Consumes b c t
    → OnErr r ((t : List ℕ) × Consumes a c t)
broken_given (Ok x) a b c s before now = tt
broken_given (Err e) a b c s before now = (s ++ now.0, Consumes-trans a b c s now.0 before now.1)
