-- The one record that bytes are: from the tests that are made, what it says of the bytes, and that a piece is one.
-- Assumes nothing.
use mathlib.Core.Path.{◌≡◌, refl, sym, ap, ◌∙◌, subst}
use mathlib.Core.Bool.{Bool, true, false, false≢true, cond, ◌&&◌}
use mathlib.Core.Logic.{◌⊎◌, inl, inr}
use mathlib.Core.List.{List}
use Prim.Native.Nat.{ℕ, ◌<◌, ◌≤◌}
use native.Mathlib.Omega.{arith}
use lib.Dec.{ltb}
use lib.ListN.{length, take, length-take}
use Rattle.std.proofs.lemmas.Bool.Decides.{nat_tests}
use Rattle.capture.specs.definitions.Read.{Read, End, Refused, Order, Frame}
use Rattle.capture.specs.definitions.Capture.{read_at, next_of, more_than_one, more, read_one, wanted}
use Rattle.capture.proofs.Found.{Stands, stands}
use Rattle.capture.proofs.Local.{wanted_reads}

-- bytes with nothing more behind what stands at their beginning
pub one_alone : (s : List ℕ) → (next_of (read_at s 0) 0 ≡ 0) ⊎ (length s ≤ next_of (read_at s 0) 0) → read_one s ≡ read_at s 0
unfolding read_one
one_alone s h = grind (arith, nat_tests)

-- and bytes with more behind it
pub one_more : (s : List ℕ) → 0 < next_of (read_at s 0) 0 → next_of (read_at s 0) 0 < length s → read_one s ≡ Refused more_than_one
unfolding read_one
one_more s h more = grind (arith, nat_tests)

-- a record that ends in the bytes, and not before them, ends with them
ends : {bytes : ℕ} (next : ℕ) → ltb 0 next && ltb next bytes ≡ false → (0 < next) × (next ≤ bytes) → bytes ≡ next
ends next m h = grind (arith, nat_tests)

-- refused or not
unfoldable pub is_refused : Read → Bool
is_refused End = false
is_refused (Refused refusal) = true
is_refused (Order start asked allowed next) = false
is_refused (Frame number from next) = false

-- what is not refused is what stands there, and all the bytes
pub one_whole : (s : List ℕ) (read : Read) → is_refused read ≡ false → read_one s ≡ read → (read_at s 0 ≡ read) × (length s ≡ next_of read 0)
unfolding read_one is_refused Stands
one_whole s read h = go (more (read_at s 0) (length s)) refl
  where
    all : (r : Read) → is_refused r ≡ false → more r (length s) ≡ false → Stands s 0 r → length s ≡ next_of r 0
    all End k m S = omega arith
    all (Refused refusal) k m S = absurd (false≢true (sym k))
    all (Order start asked allowed next) k m S = ends next m (let i = S.whole.inside in let n = S.next_is in (omega arith, omega arith))
    all (Frame number from next) k m S = ends next m (let i = S.whole.inside in let n = S.next_is in (omega arith, omega arith))

    go : (b : Bool) → more (read_at s 0) (length s) ≡ b → cond b (Refused more_than_one) (read_at s 0) ≡ read
        → (read_at s 0 ≡ read) × (length s ≡ next_of read 0)
    go true m e = absurd (false≢true (sym h ∙ ap is_refused (sym e)))
    go false m e = (e, all read h (ap (λ (r : Read). more r (length s)) (sym e) ∙ m) (subst (Stands s 0) e (stands s 0)))

-- the numbers by which they are refused; and by 22 only where more stands there
number_of : Read → ℕ
number_of End = 0
number_of (Refused refusal) = refusal
number_of (Order start asked allowed next) = 0
number_of (Frame number from next) = 0

pub one_numbers : (s : List ℕ) (n : ℕ) → read_one s ≡ Refused n → ((6 ≤ n) × (n ≤ 9)) ⊎ (n ≡ more_than_one)
unfolding read_one Stands number_of
one_numbers s n = go (more (read_at s 0) (length s))
  where
    go : (b : Bool) → cond b (Refused more_than_one) (read_at s 0) ≡ Refused n → ((6 ≤ n) × (n ≤ 9)) ⊎ (n ≡ more_than_one)
    go true e = inr (sym (ap number_of e))
    go false e = inl (subst (Stands s 0) e (stands s 0))

pub one_is_more : (s : List ℕ) → read_one s ≡ Refused more_than_one → more (read_at s 0) (length s) ≡ true
unfolding read_one Stands
one_is_more s = go (more (read_at s 0) (length s))
  where
    go : (b : Bool) → cond b (Refused more_than_one) (read_at s 0) ≡ Refused more_than_one → b ≡ true
    go true e = refl
    go false e = absurd (let b = subst (Stands s 0) e (stands s 0) in let l = b.1 in omega arith)

-- the bytes wanted, or what is left, are one record, or what refuses it
pub one_piece : (s : List ℕ) → read_one (take (wanted s) s) ≡ read_at s 0
one_piece s =
    one_alone (take (wanted s) s)
    (subst (λ (r : Read). (next_of r 0 ≡ 0) ⊎ (length (take (wanted s) s) ≤ next_of r 0)) (sym (wanted_reads s).0) (ends (read_at s 0) refl))
    ∙ (wanted_reads s).0
  where
    short : length (take (wanted s) s) ≤ wanted s
    short = let l = length-take (wanted s) s in omega arith

    ends : (r : Read) → read_at s 0 ≡ r → (next_of r 0 ≡ 0) ⊎ (length (take (wanted s) s) ≤ next_of r 0)
    ends End e = inl refl
    ends (Refused n) e = inl refl
    ends (Order start asked allowed next) e = inr (let n = (wanted_reads s).1 start asked allowed next e in let l = short in omega arith)
    ends (Frame number from next) e = inr (let n = ((wanted_reads s).2 number from next e).0 in let l = short in omega arith)
