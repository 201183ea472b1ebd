-- What the rule of lock's own functions promise one another.
-- Assumes nothing.
use Rattle.std.specs.Prelude.{◌≡◌, Bool, not, List, ℕ, ◌<◌, ltb}
use Rattle.bits.specs.definitions.Bits.{tabulate, count}
use Rattle.pilots.specs.definitions.Pilots.{met, lock_limit}

-- so few pilots fail a test that there is a lock
abbrev pub few_fail : (ℕ → Bool) → Bool
few_fail p = ltb (count (λ i. not (p i)) 96) lock_limit

-- a closure, asked about each pilot, answers by a test
abbrev pub AnswersBy : (ℕ → Bool → Type 0) → (ℕ → Bool) → Type 0
AnswersBy post p = (i : ℕ) (b : Bool) → i < 96 → post i b → b ≡ p i

-- how many of the first m pilots are met in the string s from offset o on
unfoldable pub agreeing : List ℕ → ℕ → ℕ → ℕ
agreeing s o m = count (met s o) m

-- the same at each of 128 neighbouring offsets, the first of them 0
abbrev pub counts : List ℕ → ℕ → List ℕ
counts s m = tabulate 128 (λ j. agreeing s j m)

-- with fewer right of 32 pilots, whichever they are, 25 are wrong, and there is no lock
abbrev pub least_right : ℕ
least_right = 8
