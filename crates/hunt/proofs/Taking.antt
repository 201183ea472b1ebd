-- A piece taken in, symbol by symbol: each symbol where no start was found yet, nothing where one was.
-- Assumes nothing.
use mathlib.Core.Path.{◌≡◌, refl, sym, ap, ◌∙◌}
use mathlib.Core.Bool.{Bool, cond}
use mathlib.Core.List.{List, [], ◌∷◌}
use Prim.Native.Nat.{ℕ, suc, ◌+◌, ◌*◌, ◌/◌, ◌%◌, ◌<◌, ◌≤◌}
use native.Mathlib.Omega.{arith}
use native.Mathlib.Nat.{zero-add}
use native.Mathlib.Numerals.{add-one}
use lib.ListN.{length, get_or, set, take, drop, length-drop}
use lib.Seq.{length-take-le, get_or-take, get_or-drop, drop-cons}
use borrow.Author.Tests.{le-ltb, lt-ltb, eq-eqb, ne_eqb}
use Rattle.pilots.specs.definitions.Pilots.{locks, column_frame, locked_column}
use Rattle.pilots.proofs.Lock.{locks_alike, column_length, column_at, column_lock}
use Rattle.bits.proofs.Tabulate.{length_tabulate, get_d_tabulate}
use Rattle.hunt.specs.definitions.Pieces.{Search, kept_place, from_oldest, start_found, search_at, symbol_taken, piece_taken}

-- ---- where symbols are kept
module _ (n : ℕ) where
  pub place_lt : kept_place n < 6144
  unfolding kept_place
  place_lt = omega arith

  -- 6,144 symbols further it is the same
  pub place_round : kept_place (n + 6144) ≡ kept_place n
  unfolding kept_place
  place_round = omega arith

-- a place has one column and one row
column_row : (a b c d : ℕ) → b < 96 → d < 96 → 96 * a + b ≡ 96 * c + d → (a ≡ c) × (b ≡ d)
column_row a b c d h k e = (omega arith, omega arith)

rows_apart : (q p : ℕ) → q < p → p < q + 96 → q % 96 ≡ p % 96 → ⊥
rows_apart q p l h e = omega arith

-- and before that another
pub place_other : (i n : ℕ) → i < n → n < i + 6144 → kept_place i ≡ kept_place n → ⊥
unfolding kept_place
place_other i n l h e =
    let d = column_row (i % 64) (i / 64 % 96) (n % 64) (n / 64 % 96) (omega arith) (omega arith) e in
    rows_apart (i / 64) (n / 64) (let c = d.0 in omega arith) (let c = d.0 in omega arith) d.1

-- a pilot's symbol is a row further in the same column, round its end
pub place_row : (n i : ℕ) → kept_place (n + 64 * i) ≡ 96 * (n % 64) + (n / 64 % 96 + i) % 96
unfolding kept_place
place_row n i = omega arith

-- ---- a symbol
pub symbol_taken_lem : (s : Search) (x n : ℕ) → s.hunt.found ≡ 0 → s.hunt.taken ≡ n → symbol_taken s x ≡ search_at (suc n) (set s.kept (kept_place n) x)
unfolding symbol_taken
symbol_taken_lem s x n z e = rw (eq-eqb s.hunt.found 0 z) (ap (λ (m : ℕ). search_at (suc m) (set s.kept (kept_place m) x)) e)

pub symbol_passed : (s : Search) (x : ℕ) → (s.hunt.found ≡ 0 → ⊥) → symbol_taken s x ≡ s
unfolding symbol_taken
symbol_passed s x n = rw (ne_eqb s.hunt.found 0 n) refl

-- ---- a start
pub oldest_length : (n : ℕ) (kept : List ℕ) → length (from_oldest n kept) ≡ 6144
unfolding from_oldest
oldest_length n kept = length_tabulate 6144 (λ j. get_or kept (kept_place (n + j)) 0)

pub oldest_at : (n : ℕ) (kept : List ℕ) (j : ℕ) → j < 6144 → get_or (from_oldest n kept) j 0 ≡ get_or kept (kept_place (n + j)) 0
unfolding from_oldest
oldest_at n kept j l = get_d_tabulate 6144 (λ j. get_or kept (kept_place (n + j)) 0) j 0 l

module _ (n : ℕ) (kept : List ℕ) where
  pub too_few : n < 6144 → start_found n kept ≡ 0
  unfolding start_found
  too_few h = rw (lt-ltb n 6144 h) refl

  pub enough : 6144 ≤ n → start_found n kept ≡ cond (locks (from_oldest n kept) 0) 1 0
  unfolding start_found
  enough h = rw (le-ltb n 6144 h) refl

-- as the code asks, when n symbols were there before
pub start_asked : (n : ℕ) (kept : List ℕ) (b : Bool) → 6143 ≤ n → b ≡ locks (from_oldest (n + 1) kept) 0 → start_found (suc n) kept ≡ cond b 1 0
start_asked n kept b h q =
    enough (suc n) kept (omega arith) ∙ ap (λ (l : Bool). cond l 1 0) (sym (q ∙ ap (λ (k : ℕ). locks (from_oldest k kept) 0) (add-one n)))

-- the column of the oldest symbol has its pilots', from its row on
pub column_asked : (n : ℕ) (kept : List ℕ) (m : ℕ) {b : Bool} → length kept ≡ 6144 → m ≡ 96
    → b ≡ locked_column (take m (drop (96 * (n % 64)) kept)) (n / 64 % 96) → b ≡ locks (from_oldest n kept) 0
column_asked n kept m {b} long is e =
    e ∙ ap (λ (k : ℕ). locked_column (take k (drop (96 * (n % 64)) kept)) (n / 64 % 96)) is ∙ column_lock column row column_long
    ∙ locks_alike (column_frame column row) 0 (from_oldest n kept) 0 (let l = column_length column row in omega arith)
    (let l = oldest_length n kept in omega arith) (λ i h.
    ap (λ (k : ℕ). get_or (column_frame column row) k 0) (zero-add (64 * i)) ∙ column_at column row i h
    ∙ get_or-take 96 (drop (96 * (n % 64)) kept) ((row + i) % 96) 0 (omega arith) ∙ get_or-drop (96 * (n % 64)) kept ((row + i) % 96) 0
    ∙ ap (λ (k : ℕ). get_or kept k 0) (sym (place_row n i)) ∙ sym (oldest_at n kept (64 * i) (omega arith))
    ∙ ap (λ (k : ℕ). get_or (from_oldest n kept) k 0) (sym (zero-add (64 * i))))
  where
    row : ℕ
    row = n / 64 % 96

    column : List ℕ
    column = take 96 (drop (96 * (n % 64)) kept)

    column_long : length (take 96 (drop (96 * (n % 64)) kept)) ≡ 96
    column_long = length-take-le 96 (drop (96 * (n % 64)) kept) (omega (arith, length-drop (96 * (n % 64)) kept))

-- ---- a piece
pub piece_passed : (s : Search) (piece : List ℕ) → (s.hunt.found ≡ 0 → ⊥) → piece_taken s piece ≡ s
unfolding piece_taken
piece_passed s [] n = refl
piece_passed s (x ∷ piece) n = ap (λ (t : Search). piece_taken t piece) (symbol_passed s x n) ∙ piece_passed s piece n

-- a search that has found nothing yet
abbrev pub searching : ℕ → List ℕ → Search
searching n kept = record { hunt = record { taken = n; found = 0 }; kept = kept }

-- of what is left of a piece, the next symbol: what the search then comes to is what it came to before
pub next_taken : (n : ℕ) (kept piece : List ℕ) (i : ℕ) {k : List ℕ} {r : ℕ} → i < length piece → k ≡ set kept (kept_place n) (get_or piece i 0)
    → r ≡ start_found (suc n) k
    → piece_taken (record { hunt = record { taken = n + 1; found = r }; kept = k }) (drop (i + 1) piece) ≡ piece_taken (searching n kept) (drop i piece)
unfolding piece_taken
next_taken n kept piece i {k} {r} h ek er =
    ap (λ (m : ℕ). piece_taken (record { hunt = record { taken = m; found = r }; kept = k }) (drop (i + 1) piece)) (add-one n)
    ∙ ap (λ (f : ℕ). piece_taken (record { hunt = record { taken = suc n; found = f }; kept = k }) (drop (i + 1) piece)) er
    ∙ ap (λ (j : ℕ). piece_taken (search_at (suc n) k) (drop j piece)) (add-one i)
    ∙ ap (λ (l : List ℕ). piece_taken (search_at (suc n) l) (drop (suc i) piece)) ek
    ∙ ap (λ (t : Search). piece_taken t (drop (suc i) piece)) (sym (symbol_taken_lem (searching n kept) (get_or piece i 0) n refl refl))
    ∙ ap (piece_taken (searching n kept)) (sym (drop-cons piece i 0 h))
