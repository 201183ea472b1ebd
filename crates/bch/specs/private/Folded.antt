-- Words folded: each in the m low bits of a number that leaves the word's remainder. What stands above those bits is not looked at.
-- Assumes nothing.
use Rattle.std.specs.Prelude.{◌≡◌, List, ℕ, ◌*◌, ◌^◌, ◌<◌, ◌≤◌, get_or}
use Rattle.bits.specs.declared.Word.{Word}
use Rattle.bits.specs.definitions.Words.{word_of, word_at}
use Rattle.bch.specs.definitions.Code.{remainder}

-- `fold_words`: of each of the first n words of a row its number is what P allows, as what a call may give
pub record FoldedBy (P : Word → ℕ → Type 0) (n : ℕ) (words folds : List ℕ) : Type 0 where
  pub fold : (i : ℕ) → i < n → (w : Word) × (word_of w.hi w.lo ≡ word_at words i) × P w (get_or folds i 0)

-- the words of a frame are folded into m bits
pub record FoldedWords (m : ℕ) (words folds : List ℕ) : Type 0 where
  pub fold : (i : ℕ) → i < 384 → remainder m (get_or folds i 0) ≡ remainder 126 (word_at words i)

-- a frame's numbers are of 64 bits, and none of the upper ones exceeds top
pub record UppersWithin (words : List ℕ) (top : ℕ) : Type 0 where
  pub number : (k : ℕ) → get_or words k 0 < 2 ^ 64
  pub within : (i : ℕ) → i < 384 → get_or words (2 * i) 0 ≤ top
