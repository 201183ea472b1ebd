-- A rule for a whole table from one test that antt computes: over the entries of a list (`table_rule`), over each two of them (`pairs_rule`), or over the
-- numbers of a range (`range_rule`).
-- Assumes nothing.
use mathlib.Core.Path.{◌∙◌, subst, sym}
use mathlib.Core.Bool.{Bool, true, false, ◌&&◌}
use mathlib.Core.List.{List, [], ◌∷◌}
use Prim.Native.Nat.{ℕ, zero, suc, ◌+◌, ◌-◌, ◌≤◌, ◌<◌}
use native.Mathlib.Nat.{add-zero, zero-add, add-suc, suc-add, le_of_suc-le-suc, not-suc-le-zero, sub-add_cancel}
use native.Mathlib.Omega.{arith}
use lib.Dec.{T}
use lib.ListN.{length, get_or}

pub and_left : (a b : Bool) → T (a && b) → T a
and_left true b t = tt
and_left false b t = t

pub and_right : (a b : Bool) → T (a && b) → T b
and_right true b t = t
and_right false b t = absurd t

-- the test passes at each place, counted from i, and the entry there
abbrev pub every : (ℕ → ℕ → Bool) → ℕ → List ℕ → Bool
every f i [] = true
every f i (x ∷ xs) = f i x && every f (suc i) xs

every_at : (f : ℕ → ℕ → Bool) (xs : List ℕ) (i : ℕ) → T (every f i xs) → (k : ℕ) → k < length xs → T (f (i + k) (get_or xs k 0))
every_at f [] i t k h = absurd (not-suc-le-zero h)
every_at f (x ∷ xs) i t zero h = subst (λ (m : ℕ). T (f m x)) (sym (add-zero i)) (and_left (f i x) (every f (suc i) xs) t)
every_at f (x ∷ xs) i t (suc k) h =
    subst (λ (m : ℕ). T (f m (get_or xs k 0))) (suc-add i k ∙ sym (add-suc i k))
    (every_at f xs (suc i) (and_right (f i x) (every f (suc i) xs) t) k (le_of_suc-le-suc h))

pub table_rule : (f : ℕ → ℕ → Bool) (xs : List ℕ) → T (every f 0 xs) → (k : ℕ) → k < length xs → T (f k (get_or xs k 0))
table_rule f xs t k h = subst (λ (m : ℕ). T (f m (get_or xs k 0))) (zero-add k) (every_at f xs 0 t k h)

-- the test passes at each two places, counted from i, and the entries there
abbrev pub every_two : (ℕ → ℕ → ℕ → ℕ → Bool) → ℕ → List ℕ → Bool
every_two f i [] = true
every_two f i (x ∷ xs) = every (f i x) (suc i) xs && every_two f (suc i) xs

two_at : (f : ℕ → ℕ → ℕ → ℕ → Bool) (xs : List ℕ) (i : ℕ) → T (every_two f i xs) → (a b : ℕ) → a < b → b < length xs
    → T (f (i + a) (get_or xs a 0) (i + b) (get_or xs b 0))
two_at f [] i t a b l h = absurd (not-suc-le-zero h)
two_at f (x ∷ xs) i t a zero l h = absurd (not-suc-le-zero l)
two_at f (x ∷ xs) i t zero (suc b) l h =
    rw (add-zero, add-suc, ← suc-add) (every_at (f i x) xs (suc i) (and_left (every (f i x) (suc i) xs) (every_two f (suc i) xs) t) b (le_of_suc-le-suc h))
two_at f (x ∷ xs) i t (suc a) (suc b) l h =
    rw (add-suc i a, add-suc i b, ← (suc-add i a), ← (suc-add i b))
    (two_at f xs (suc i) (and_right (every (f i x) (suc i) xs) (every_two f (suc i) xs) t) a b (le_of_suc-le-suc l) (le_of_suc-le-suc h))

pub pairs_rule : (f : ℕ → ℕ → ℕ → ℕ → Bool) (xs : List ℕ) → T (every_two f 0 xs) → (a b : ℕ) → a < b → b < length xs
    → T (f a (get_or xs a 0) b (get_or xs b 0))
pairs_rule f xs t a b l h = rw (zero-add a, zero-add b) at (two_at f xs 0 t a b l h)

-- the test passes at i and the n - 1 numbers after it
abbrev pub each : (ℕ → Bool) → ℕ → ℕ → Bool
each f zero i = true
each f (suc n) i = f i && each f n (suc i)

each_at : (f : ℕ → Bool) (n i : ℕ) → T (each f n i) → (k : ℕ) → k < n → T (f (k + i))
each_at f zero i t k h = absurd (not-suc-le-zero h)
each_at f (suc n) i t zero h = rw zero-add (and_left (f i) (each f n (suc i)) t)
each_at f (suc n) i t (suc k) h = rw (suc-add, ← add-suc k i) (each_at f n (suc i) (and_right (f i) (each f n (suc i)) t) k (le_of_suc-le-suc h))

pub range_rule : (f : ℕ → Bool) (n i : ℕ) → T (each f n i) → (k : ℕ) → i ≤ k → k < i + n → T (f k)
range_rule f n i t k l h = subst (λ (m : ℕ). T (f m)) (sub-add_cancel l) (each_at f n i t (k - i) (omega arith))
