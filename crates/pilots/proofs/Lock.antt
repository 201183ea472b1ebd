-- Pilot i of a string: it is met, or it is missing. And lock: what it depends on, and when it is decided.
-- Assumes nothing.
use mathlib.Core.Path.{◌≡◌, refl, sym, ap, ap₂, ◌∙◌}
use mathlib.Core.Bool.{Bool, true, false, cond, not, ◌&&◌}
use Rattle.std.specs.Int.{from_bool}
use mathlib.Core.List.{List}
use Prim.Native.Nat.{ℕ, ◌+◌, ◌*◌, ◌-◌, ◌/◌, ◌%◌, ◌<◌, ◌≤◌}
use native.Mathlib.Nat.{zero-add}
use native.Mathlib.Omega.{arith}
use lib.Dec.{eqb, ltb}
use lib.ListN.{length, get_or, take, drop, length-take, length-drop}
use lib.Seq.{get_or-take, get_or-drop, take_all}
use Rattle.std.specs.Array.{IsFirstChunk}
use Rattle.std.specs.List.{slice_range}
use Rattle.std.proofs.lemmas.Bool.Decides.{nat_tests}
use borrow.Author.Tests.{le-ltb, lt-ltb, eq-eqb, ne_eqb}
use Rattle.pilots.specs.definitions.Table5.{pilots}
use Rattle.pilots.specs.definitions.Pilots.{met, wrong_pilots, locks, lock_limit, column_frame, locked_column}
use Rattle.bits.specs.definitions.Bits.{tabulate, count}
use Rattle.bits.proofs.Count.{count_cong, count_append, count_none, count_both}
use Rattle.bits.proofs.Tabulate.{length_tabulate, get_d_tabulate, tabulate_cong}

-- a test as a number
pub as_number : (b : Bool) → from_bool b ≡ cond b 1 0
as_number true = refl
as_number false = refl

-- which is 1 at most
pub at_most_one : (b : Bool) → from_bool b ≤ 1
at_most_one b = rw (as_number b) (one b)
  where
    one : (b : Bool) → cond b 1 0 ≤ 1
    one true = omega arith
    one false = omega arith

-- the table has 96 bytes
pub pilots_length : length pilots ≡ 96
unfolding pilots
pilots_length = refl

module _ (s : List ℕ) (o i : ℕ) where
  pub met_there : o + 64 * i < length s → get_or s (o + 64 * i) 0 ≡ get_or pilots i 0 → met s o i ≡ true
  unfolding met
  met_there h e = rw (lt-ltb (o + 64 * i) (length s) h, eq-eqb (get_or s (o + 64 * i) 0) (get_or pilots i 0) e)

  pub met_missing : length s ≤ o + 64 * i → met s o i ≡ false
  unfolding met
  met_missing h = rw (le-ltb (o + 64 * i) (length s) h)

  -- where its symbol is there, the test is of the symbol alone
  pub met_is : o + 64 * i < length s → met s o i ≡ eqb (get_or s (o + 64 * i) 0) (get_or pilots i 0)
  unfolding met
  met_is h = rw (lt-ltb (o + 64 * i) (length s) h) refl

-- lock depends on the symbols of the pilots alone, wherever they stand
pub locks_alike : (s : List ℕ) (o : ℕ) (t : List ℕ) (p : ℕ) → o + 6081 ≤ length s → p + 6081 ≤ length t
    → ((i : ℕ) → i < 96 → get_or s (o + 64 * i) 0 ≡ get_or t (p + 64 * i) 0) → locks s o ≡ locks t p
unfolding locks wrong_pilots
locks_alike s o t p hs ht e =
    ap (λ (n : ℕ). ltb n lock_limit) (count_cong 96 _ _ (λ i h. ap not
    (met_is s o i (omega arith) ∙ ap (λ (x : ℕ). eqb x (get_or pilots i 0)) (e i h) ∙ sym (met_is t p i (omega arith)))))

-- ---- decided by some of the pilots, or by all
module _ (s : List ℕ) (o : ℕ) where
  -- so many of the m from pilot i on differ that there is no lock
  pub no_lock : (i m : ℕ) → i + m ≤ 96 → lock_limit ≤ count (λ k. not (met s o (i + k))) m → locks s o ≡ false
  unfolding locks wrong_pilots
  no_lock i m h l =
      let p : ℕ → Bool = λ k. not (met s o k) in
      let all : i + m + (96 - (i + m)) ≡ 96 = omega arith in
      le-ltb (count p 96) lock_limit (omega (arith, sym (ap (count p) all) ∙ count_append p (i + m) (96 - (i + m)), count_append p i m))

  pub lock : count (λ i. not (met s o i)) 96 < lock_limit → locks s o ≡ true
  unfolding locks wrong_pilots
  lock h = lt-ltb _ lock_limit h

-- ---- from an offset on, or what stands there by itself
-- a symbol is there, counted from the start or from the offset
bounds : (o m n : ℕ) → ltb (0 + m) (n - o) ≡ ltb (o + m) n
bounds o m n = grind (arith, nat_tests)

module _ (s : List ℕ) (o : ℕ) where
  -- the same pilots are met
  met_drop : (i : ℕ) → met (drop o s) 0 i ≡ met s o i
  unfolding met
  met_drop i = ap₂ (λ (x y : Bool). x && y) there same
    where
      there : ltb (0 + 64 * i) (length (drop o s)) ≡ ltb (o + 64 * i) (length s)
      there = rw (length-drop o s) (bounds o (64 * i) (length s))

      same : eqb (get_or (drop o s) (0 + 64 * i) 0) (get_or pilots i 0) ≡ eqb (get_or s (o + 64 * i) 0) (get_or pilots i 0)
      same = ap (λ (x : ℕ). eqb x (get_or pilots i 0)) (ap (λ (k : ℕ). get_or (drop o s) k 0) (zero-add (64 * i)) ∙ get_or-drop o s (64 * i) 0)

  -- and the same offset locks
  pub locks_drop : locks (drop o s) 0 ≡ locks s o
  unfolding locks wrong_pilots
  locks_drop = ap (λ (n : ℕ). ltb n lock_limit) (count_cong 96 _ _ (λ i h. ap not (met_drop i)))

-- the same, where that is a slice of its own
pub locks_part : (s part : List ℕ) (o : ℕ) → part ≡ slice_range s o (length s) → locks part 0 ≡ locks s o
locks_part s part o e =
    let all : take (length s - o) (drop o s) ≡ drop o s = take_all (length s - o) (drop o s) (rw (length-drop o s) (omega arith)) in
    ap (λ (l : List ℕ). locks l 0) (e ∙ all) ∙ locks_drop s o

-- the first symbols of a slice are those of the string it is a part of
pub chunk_at : (s chunk : List ℕ) (o m n : ℕ) → IsFirstChunk (take m (drop o s)) chunk n → (j : ℕ) → j < n → get_or chunk j 0 ≡ get_or s (o + j) 0
chunk_at s chunk o m n h j l =
    ap (λ (t : List ℕ). get_or t j 0) h.same ∙ get_or-take n (take m (drop o s)) j 0 l
    ∙ get_or-take m (drop o s) j 0 (omega (arith, h.enough, length-take m (drop o s))) ∙ get_or-drop o s j 0

-- past its end nothing locks
pub nothing_locks : (s : List ℕ) (o : ℕ) → length s ≤ o → locks s o ≡ false
nothing_locks s o h =
    let none = count_none (λ k. met s o (0 + k)) 96 (λ k l. met_missing s o (0 + k) (omega arith)) in
    no_lock s o 0 96 (omega arith) (omega (arith, none, count_both (λ k. met s o (0 + k)) 96))

-- ---- a column
module _ (column : List ℕ) (first : ℕ) where
  pub column_length : length (column_frame column first) ≡ 6144
  unfolding column_frame
  column_length = length_tabulate 6144 (λ j. get_or column ((first + j / 64) % 96) 0)

  pub column_at : (i : ℕ) → i < 96 → get_or (column_frame column first) (64 * i) 0 ≡ get_or column ((first + i) % 96) 0
  unfolding column_frame
  column_at i h =
      let row : 64 * i / 64 ≡ i = omega arith in
      get_d_tabulate 6144 (λ j. get_or column ((first + j / 64) % 96) 0) (64 * i) 0 (omega arith) ∙ ap (λ (k : ℕ). get_or column ((first + k) % 96) 0) row

  pub column_met : (i : ℕ) → i < 96 → met (column_frame column first) 0 i ≡ eqb (get_or column ((first + i) % 96) 0) (get_or pilots i 0)
  column_met i h =
      met_is (column_frame column first) 0 i (let e = column_length in omega arith)
      ∙ ap (λ (x : ℕ). eqb x (get_or pilots i 0)) (ap (λ (k : ℕ). get_or (column_frame column first) k 0) (zero-add (64 * i)) ∙ column_at i h)

  -- by its length
  pub column_lock : length column ≡ 96 → locked_column column first ≡ locks (column_frame column first) 0
  unfolding locked_column
  column_lock e = rw (eq-eqb (length column) 96 e) refl

  pub no_column : (length column ≡ 96 → ⊥) → locked_column column first ≡ false
  unfolding locked_column
  no_column n = rw (ne_eqb (length column) 96 n) refl

  -- a row beyond the last is one round less
  pub column_round : locked_column column first ≡ locked_column column (first % 96)
  unfolding locked_column column_frame
  column_round = ap (λ (l : List ℕ). eqb (length column) 96 && locks l 0) (tabulate_cong 6144 _ _ (λ j h.
      let e : (first + j / 64) % 96 ≡ (first % 96 + j / 64) % 96 = omega arith in ap (λ (k : ℕ). get_or column k 0) e))

-- ---- two frames: one with the right pilots locks, one of zeros does not
pub pilots_lock : (f : List ℕ) → length f ≡ 6144 → ((k : ℕ) → k < 96 → get_or f (64 * k) 0 ≡ get_or pilots k 0) → locks f 0 ≡ true
pilots_lock f long there = lock f 0 (let none = count_none (λ i. not (met f 0 i)) 96 (λ i h. ap not (pilot_met i h)) in omega arith)
  where
    pilot_met : (i : ℕ) → i < 96 → met f 0 i ≡ true
    pilot_met i h = met_there f 0 i (rw long (omega arith)) (ap (λ (n : ℕ). get_or f n 0) (zero-add (64 * i)) ∙ there i h)

-- how many pilots are no zeros
zeros_differ : count (λ i. not (eqb 0 (get_or pilots i 0))) 96 ≡ 91
unfolding count pilots
zeros_differ = refl

abbrev pub zeros : List ℕ
zeros = tabulate 6144 (λ t. 0)

pub zeros_no_lock : locks zeros 0 ≡ false
zeros_no_lock =
    no_lock zeros 0 0 96 (omega arith)
    (let n = count_cong 96 (λ i. not (met zeros 0 (0 + i))) (λ i. not (eqb 0 (get_or pilots i 0)))
    (λ i h. ap not (ap (met zeros 0) (zero-add i) ∙ zero_met i h)) in
    omega (arith, n, zeros_differ))
  where
    zero_met : (i : ℕ) → i < 96 → met zeros 0 i ≡ eqb 0 (get_or pilots i 0)
    zero_met i h =
        met_is zeros 0 i (rw (length_tabulate {A = ℕ} 6144 (λ t. 0)) (omega arith))
        ∙ ap (λ (x : ℕ). eqb x (get_or pilots i 0)) (get_d_tabulate {A = ℕ} 6144 (λ t. 0) (0 + 64 * i) 0 (omega arith))
