-- The walk over a whole capture, and the same record by record, as a program walks that holds one record at a time (01, account and verdict).
-- Assumes nothing.
use Rattle.std.specs.Prelude.{◌≡◌, ◌⊎◌, Bool, true, cond, List, [], ◌∷◌, ◌++◌, ℕ, zero, suc, ◌-◌, ◌<◌, eqb, ltb, length, take, drop}
use Rattle.capture.specs.definitions.Read.{Read, End}
use Rattle.capture.specs.definitions.Capture.{read_at, next_of, wanted}
use Rattle.bench.specs.declared.Run.{Run}
use Rattle.bench.specs.definitions.Run.{begun, stopped, is_stopped, came_as, stepped}

-- the walk over the capture s from place i on, over at most n records
unfoldable pub walked : ℕ → List ℕ → ℕ → Run → Run
walked zero s i r = r
walked (suc n) s i r = walked n s (next_of (read_at s i) i) (came_as (read_at s i) r s)

-- the whole capture from the run before its first record on: it has no more records than bytes
unfoldable pub examined : List ℕ → Run
examined s = walked (length s) s 0 begun

-- bytes cut as one cuts them who holds one record at a time, into at most n pieces: four bytes, then what a lawful length asks for, or what is left
unfoldable pub cut : ℕ → List ℕ → List (List ℕ)
cut zero s = []
cut (suc n) s = cond (eqb (length s) 0) [] (take (wanted s) s ∷ cut n (drop (wanted s) s))

-- all the pieces: there are no more than bytes
unfoldable pub pieces : List ℕ → List (List ℕ)
pieces s = cut (length s) s

-- one step after the other
unfoldable pub through : Run → List (List ℕ) → Run
through r [] = r
through r (p ∷ ps) = through (stepped r p) ps

-- bytes given one after the other, joined
unfoldable pub joined : List (List ℕ) → List ℕ
joined [] = []
joined (p ∷ ps) = p ++ joined ps

-- a record's bytes, from its place to the next one; where the place stays, all that is left
abbrev pub bytes_at : List ℕ → (place next : ℕ) → List ℕ
bytes_at s place next = cond (ltb place next) (take (next - place) (drop place s)) (drop place s)

-- the calls of a reader over the capture s, from its beginning on, to the end or to what stops the run: what stands at its place, the reader moved to the
-- place after it, and a step of the run over the record's bytes
pub record Reading (s : List ℕ) (r : Run) : Type 0 where
  pub calls : ℕ
  pub places : ℕ → ℕ
  pub reads : ℕ → Read
  pub runs : ℕ → Run
  pub begin : (places 0 ≡ 0) × (runs 0 ≡ begun)
  pub next : (k : ℕ) → k < calls → reads k ≡ read_at s (places k)
  pub moved : (k : ℕ) → k < calls → places (suc k) ≡ next_of (reads k) (places k)
  pub step : (k : ℕ) → k < calls → runs (suc k) ≡ stepped (runs k) (bytes_at s (places k) (places (suc k)))
  pub enough : (read_at s (places calls) ≡ End) ⊎ (is_stopped (runs calls).phase ≡ true)
  pub last : r ≡ runs calls

-- what following an input record by record comes to over the bytes s that it brought: their run; and where a read failed, that run stopped
abbrev pub followed : List ℕ → Bool → Run
followed s failed = cond failed (stopped (examined s)) (examined s)
