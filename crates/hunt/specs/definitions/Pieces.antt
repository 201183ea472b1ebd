-- The search over a run that comes in pieces (02, request 04): what is kept between them, and what each call answers and leaves, for every stored number
-- and symbol.
-- Assumes nothing.
use Rattle.std.specs.Prelude.{◌≡◌, cond, not, ◌&&◌, List, [], ◌∷◌, ◌++◌, ℕ, zero, suc, ◌+◌, ◌*◌, ◌-◌, ◌/◌, ◌%◌, ◌^◌, ◌<◌, eqb, ltb, length, get_or, set}
use Rattle.bits.specs.definitions.Bits.{tabulate}
use Rattle.bits.specs.definitions.Call.{unless, after}
use Rattle.pilots.specs.definitions.Pilots.{frame_symbols, locks}
use Rattle.hunt.specs.definitions.Found.{Found}
use Rattle.hunt.specs.definitions.Found as found
use Rattle.hunt.specs.declared.Hunt.{Hunt}
use Rattle.hunt.specs.definitions.Find.{short_run}

-- a search: its two numbers, and the symbols kept
pub record Search : Type 0 where
  pub hunt : Hunt
  pub kept : List ℕ

-- the numbers before the first piece
abbrev pub opened : Hunt
opened = record { taken = 0; found = 0 }

-- where symbol n is kept (house): in 64 columns of 96, symbols that follow each other 64 apart, as a frame's pilots do, side by side in one and round
unfoldable pub kept_place : ℕ → ℕ
kept_place n = 96 * (n % 64) + n / 64 % 96

-- the kept symbols from the oldest on, where n were taken in: symbol n would be the next, and its place is that of the oldest
unfoldable pub from_oldest : ℕ → List ℕ → List ℕ
from_oldest n kept = tabulate frame_symbols (λ j. get_or kept (kept_place (n + j)) 0)

-- 1 where n symbols were taken in, a frame at least, and those kept lock; else 0
unfoldable pub start_found : ℕ → List ℕ → ℕ
start_found n kept = cond (ltb n frame_symbols) 0 (cond (locks (from_oldest n kept) 0) 1 0)

-- the search where n symbols were taken in and these are kept
abbrev pub search_at : ℕ → List ℕ → Search
search_at n kept = record { hunt = record { taken = n; found = start_found n kept }; kept = kept }

-- a symbol is taken in, at its place; once a start is found nothing changes
unfoldable pub symbol_taken : Search → ℕ → Search
symbol_taken s x = cond (eqb s.hunt.found 0) (search_at (suc s.hunt.taken) (set s.kept (kept_place s.hunt.taken) x)) s

-- a piece is taken in, symbol by symbol
unfoldable pub piece_taken : Search → List ℕ → Search
piece_taken s [] = s
piece_taken s (x ∷ piece) = piece_taken (symbol_taken s x) piece

-- the answer: 13 where fewer symbols than a frame has were taken in; else the start found, a frame's length before the end of what was taken in, or none
unfoldable pub answer : Hunt → Found
answer h = cond (ltb h.taken frame_symbols) (found.Refused short_run) (cond (eqb h.found 0) found.None (found.At (h.taken - frame_symbols)))

-- 2, other than 6,144 symbols are kept; 23, no start was found yet and the symbols taken in and the piece's are 2^64 or more together (house); 0 is done
unfoldable pub feed_number : Hunt → List ℕ → List ℕ → ℕ
feed_number h kept piece = unless frame_symbols kept 2 (cond (eqb h.found 0 && not (ltb (h.taken + length piece) (2 ^ 64))) 23 0)

-- a call that feeds a piece: the number answered, and the numbers and the symbols kept at exit
pub record Feeds (h : Hunt) (kept piece : List ℕ) (r : ℕ) (h' : Hunt) (kept' : List ℕ) : Type 0 where
  pub number : r ≡ feed_number h kept piece
  pub hunt : h' ≡ after (feed_number h kept piece) (piece_taken (record { hunt = h; kept = kept }) piece).hunt h
  pub symbols : kept' ≡ after (feed_number h kept piece) (piece_taken (record { hunt = h; kept = kept }) piece).kept kept

-- n calls: the search is opened, and call i is given piece i, and lent the numbers and the symbols that the call before it left
pub record FeedRun (n : ℕ) (pieces : ℕ → List ℕ) (numbers : ℕ → ℕ) (hunts : ℕ → Hunt) (kept : ℕ → List ℕ) : Type 0 where
  pub begins : hunts 0 ≡ opened
  pub calls : (i : ℕ) → i < n → Feeds (hunts i) (kept i) (pieces i) (numbers i) (hunts (suc i)) (kept (suc i))

-- n pieces, one behind the other
unfoldable pub joined : (ℕ → List ℕ) → ℕ → List ℕ
joined pieces zero = []
joined pieces (suc n) = joined pieces n ++ pieces n

-- piece i if call i was not refused, else nothing
abbrev pub not_refused : (ℕ → List ℕ) → (ℕ → ℕ) → ℕ → List ℕ
not_refused pieces numbers i = cond (eqb (numbers i) 0) (pieces i) []
