-- What every call has in common (01, refusal list): lengths are tested lowest number first, and a refused call changes nothing.
-- Assumes nothing.
use Rattle.std.specs.Prelude.{cond, List, ℕ, eqb, length}

-- the number of a wrong length, or what comes after
abbrev pub unless : ℕ → List ℕ → ℕ → ℕ → ℕ
unless size s refusal then = cond (eqb (length s) size) then refusal

-- what stands in a buffer, or in a number lent, after the call: the new content where it was done, else what was there
abbrev pub after : {A : Type 0} → ℕ → A → A → A
after r new old = cond (eqb r 0) new old
