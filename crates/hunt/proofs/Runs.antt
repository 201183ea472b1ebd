-- Runs of calls that feed a search, as specs/statements/Hunt states them; and that a frame which locks is found.
-- Assumes nothing.
use mathlib.Core.Path.{◌≡◌, refl, sym, ap, ◌∙◌, subst}
use mathlib.Core.Logic.{◌≢◌, inl, inr}
use mathlib.Core.Bool.{Bool, true, cond, false≢true}
use mathlib.Core.List.{List, [], ◌++◌, append-nil}
use Prim.Native.Nat.{ℕ, zero, suc, ◌+◌, ◌*◌, ◌^◌, ◌<◌, ◌≤◌}
use native.Mathlib.Nat.{not-suc-le-zero, le_refl, zero-add}
use native.Mathlib.Decide.{ℕ_discrete, dec_lt}
use native.Mathlib.Omega.{arith}
use lib.Dec.{eqb}
use lib.ListN.{length, get_or, length-append, get_or-append}
use lib.Seq.{get_or-append-add}
use borrow.Author.Tests.{eq-eqb, ne_eqb}
use Rattle.bits.specs.definitions.Call.{after}
use Rattle.bits.proofs.Calls.{by_test, passes, kept, written}
use Rattle.bits.specs.definitions.Bits.{least}
use Rattle.bits.proofs.Least.{least_fails}
use Rattle.pilots.specs.definitions.Pilots.{locks, offsets, first_lock}
use Rattle.pilots.proofs.Lock.{locks_alike}
use Rattle.hunt.specs.declared.Hunt.{Hunt}
use Rattle.hunt.specs.definitions.Find.{find, Starts}
use Rattle.hunt.specs.definitions.Pieces.{Search, opened, kept_place, piece_taken, feed_number, Feeds, FeedRun, joined, not_refused}
use Rattle.hunt.specs.statements.Hunt.{FoundByThen, HoweverCut, AllFed, AllTaken, FrameKept, CanBeFed}
use Rattle.hunt.proofs.Finding.{find_at}
use Rattle.hunt.proofs.Exactly.{one_start, found_exactly}
use Rattle.hunt.proofs.Feeding.{found_before, room}
use Rattle.hunt.proofs.Cut.{Searched, piece_length, piece_searched, searched_answer}

-- ---- one call
module _ (h : Hunt) (symbols piece : List ℕ) (r : ℕ) (h' : Hunt) (symbols' : List ℕ) (F : Feeds h symbols piece r h' symbols') where
  abbrev before : Search
  before = record { hunt = h; kept = symbols }

  abbrev behind : Search
  behind = record { hunt = h'; kept = symbols' }

  -- it was done with 6,144 symbols kept, and leaves what the piece comes to
  fed_long : r ≡ 0 → length symbols ≡ 6144
  unfolding feed_number
  fed_long z = (passes 6144 symbols 1 _ (sym F.number ∙ z)).0

  fed : r ≡ 0 → behind ≡ piece_taken before piece
  fed z =
      let e : feed_number h symbols piece ≡ 0 = sym F.number ∙ z in
      λ k. record {
        hunt = (F.hunt ∙ written (feed_number h symbols piece) (piece_taken before piece).hunt h e) k;
        kept = (F.symbols ∙ written (feed_number h symbols piece) (piece_taken before piece).kept symbols e) k;
      }

  -- or it was refused, and leaves everything
  unfed : r ≢ 0 → behind ≡ before
  unfed z =
      λ k. record {
        hunt = kept r (feed_number h symbols piece) (piece_taken before piece).hunt h h' F.number F.hunt z k;
        kept = kept r (feed_number h symbols piece) (piece_taken before piece).kept symbols symbols' F.number F.symbols z k;
      }

  fed_length : length symbols' ≡ length symbols
  fed_length = by_test (ℕ_discrete r 0) (λ z. ap (λ (t : Search). length t.kept) (unfed z))
      (λ z. ap (λ (t : Search). length t.kept) (fed z) ∙ piece_length before piece)

  fed_searched : (s : List ℕ) → Searched s before → Searched (s ++ cond (eqb r 0) piece []) behind
  fed_searched s S = by_test (ℕ_discrete r 0)
      (λ z. subst (Searched (s ++ cond (eqb r 0) piece [])) (sym (unfed z))
      (subst (λ (l : List ℕ). Searched l before) (sym (append-nil s) ∙ ap (λ (b : Bool). s ++ cond b piece []) (sym (ne_eqb r 0 z))) S))
      (λ z. subst (Searched (s ++ cond (eqb r 0) piece [])) (sym (fed z))
      (subst (λ (b : Bool). Searched (s ++ cond b piece []) (piece_taken before piece)) (sym (eq-eqb r 0 z)) (piece_searched s piece before (fed_long z) S)))

-- ---- pieces one behind the other
joined_more : (pieces : ℕ → List ℕ) (i : ℕ) → length (joined pieces (suc i)) ≡ length (joined pieces i) + length (pieces i)
unfolding joined
joined_more pieces i = length-append (joined pieces i) (pieces i)

joined_le : (pieces : ℕ → List ℕ) (i n : ℕ) → i ≤ n → length (joined pieces i) ≤ length (joined pieces n)
joined_le pieces i zero l = let e : i ≡ 0 = omega arith in let q = ap (λ (k : ℕ). length (joined pieces k)) e in omega arith
joined_le pieces i (suc n) l = go (ℕ_discrete i (suc n)) (joined_le pieces i n)
  where
    go : Dec (i ≡ suc n) → (i ≤ n → length (joined pieces i) ≤ length (joined pieces n)) → length (joined pieces i) ≤ length (joined pieces (suc n))
    go (yes e) ih = let q = ap (λ (k : ℕ). length (joined pieces k)) e in omega arith
    go (no e) ih = let h = ih (omega arith) in let m = joined_more pieces n in omega arith

-- ---- a run of calls
module _ (n : ℕ) (pieces : ℕ → List ℕ) (numbers : ℕ → ℕ) (hunts : ℕ → Hunt) (keeps : ℕ → List ℕ) (R : FeedRun n pieces numbers hunts keeps) where
  abbrev searches : ℕ → Search
  searches i = record { hunt = hunts i; kept = keeps i }

  abbrev got : ℕ → List ℕ
  got = joined (not_refused pieces numbers)

  searched : (i : ℕ) → i ≤ n → Searched (got i) (searches i)
  unfolding joined
  searched zero l =
      inl (record {
        unfound = ap (λ (h : Hunt). h.found) R.begins;
        all = ap (λ (h : Hunt). h.taken) R.begins;
        none = λ o h. absurd (omega arith);
        last = λ i h. absurd (not-suc-le-zero h);
      })
  searched (suc i) l =
      fed_searched (hunts i) (keeps i) (pieces i) (numbers i) (hunts (suc i)) (keeps (suc i)) (R.calls i (omega arith)) (got i) (searched i (omega arith))

  long : (i : ℕ) → i ≤ n → length (keeps i) ≡ length (keeps 0)
  long zero l = refl
  long (suc i) l =
      fed_length (hunts i) (keeps i) (pieces i) (numbers i) (hunts (suc i)) (keeps (suc i)) (R.calls i (omega arith)) ∙ long i (omega arith)

  -- with 6,144 symbols kept and fewer than 2^64 in all, no call is refused
  module _ (whole : length (keeps 0) ≡ 6144) (few : length (joined pieces n) < 2 ^ 64) where
    none_refused : (i : ℕ) → i < n → got i ≡ joined pieces i → numbers i ≡ 0
    none_refused i l e = (R.calls i l).number ∙ go (searched i (omega arith))
      where
        kept_long : length (keeps i) ≡ 6144
        kept_long = long i (omega arith) ∙ whole

        go : Searched (got i) (searches i) → feed_number (hunts i) (keeps i) (pieces i) ≡ 0
        go (inl L) =
            room (hunts i) (keeps i) (pieces i) kept_long L.unfound
            (let a = L.all in let b = ap length e in let c = joined_more pieces i in let d = joined_le pieces (suc i) n l in omega arith)
        go (inr (o, D)) = found_before (hunts i) (keeps i) (pieces i) kept_long D.closed

    all_got : (i : ℕ) → i ≤ n → got i ≡ joined pieces i
    unfolding joined
    all_got zero l = refl
    all_got (suc i) l =
        let e = all_got i (omega arith) in
        ap (λ (b : Bool). got i ++ cond b (pieces i) []) (eq-eqb (numbers i) 0 (none_refused i l e)) ∙ ap (λ (s : List ℕ). s ++ pieces i) e

-- ---- the statements
pub however_cut : HoweverCut
however_cut n pieces numbers hunts keeps R =
    searched_answer (joined (not_refused pieces numbers) n) (record { hunt = hunts n; kept = keeps n }) (searched n pieces numbers hunts keeps R n (le_refl n))

pub all_fed : AllFed
all_fed n pieces numbers hunts keeps R whole few = (
  λ i l. none_refused n pieces numbers hunts keeps R whole few i l (all_got n pieces numbers hunts keeps R whole few i (omega arith)),
  however_cut n pieces numbers hunts keeps R ∙ ap find (all_got n pieces numbers hunts keeps R whole few n (le_refl n)),
)

pub all_taken : AllTaken
all_taken n pieces numbers hunts keeps R z = go (searched n pieces numbers hunts keeps R n (le_refl n))
  where
    go : Searched (joined (not_refused pieces numbers) n) (record { hunt = hunts n; kept = keeps n })
        → (hunts n).taken ≡ length (joined (not_refused pieces numbers) n)
    go (inl L) = L.all
    go (inr (o, D)) = absurd (D.closed z)

pub frame_kept : FrameKept
frame_kept n pieces numbers hunts keeps R o e = go (searched n pieces numbers hunts keeps R n (le_refl n))
  where
    S : Starts (joined (not_refused pieces numbers) n) o
    S = (found_exactly (joined (not_refused pieces numbers) n) o).0 (sym (however_cut n pieces numbers hunts keeps R) ∙ e)

    go : Searched (joined (not_refused pieces numbers) n) (record { hunt = hunts n; kept = keeps n })
        → ((hunts n).taken ≡ o + 6144) × (length (keeps n) ≡ 6144)
        × ((j : ℕ) → j < 6144 → get_or (keeps n) (kept_place (o + j)) 0 ≡ get_or (joined (not_refused pieces numbers) n) (o + j) 0)
    go (inl L) = absurd (false≢true (sym (L.none o S.fits) ∙ S.locked))
    go (inr (p, D)) =
        let q : p ≡ o = one_start (joined (not_refused pieces numbers) n) p o D.starts S in
        subst (λ (m : ℕ). ((hunts n).taken ≡ m + 6144) × (length (keeps n) ≡ 6144)
        × ((j : ℕ) → j < 6144 → get_or (keeps n) (kept_place (m + j)) 0 ≡ get_or (joined (not_refused pieces numbers) n) (m + j) 0)) q
        (D.upto, D.whole, D.frame)

-- the search after i of the pieces
unfoldable fed_search : (ℕ → List ℕ) → List ℕ → ℕ → Search
fed_search pieces symbols zero = record { hunt = opened; kept = symbols }
fed_search pieces symbols (suc i) =
    let t = fed_search pieces symbols i in
    let r = feed_number t.hunt t.kept (pieces i) in
    record { hunt = after r (piece_taken t (pieces i)).hunt t.hunt; kept = after r (piece_taken t (pieces i)).kept t.kept }

pub can_be_fed : CanBeFed
unfolding fed_search
can_be_fed n pieces symbols = (
  λ i. let t = fed_search pieces symbols i in feed_number t.hunt t.kept (pieces i),
  λ i. (fed_search pieces symbols i).hunt,
  λ i. (fed_search pieces symbols i).kept,
  record { begins = refl; calls = λ i l. record { number = refl; hunt = refl; symbols = refl } },
  refl,
)

-- a frame that locks, within a run
module _ (before frame behind : List ℕ) (whole : length frame ≡ 6144) (locked : locks frame 0 ≡ true) where
  abbrev run : List ℕ
  run = before ++ (frame ++ behind)

  run_length : length run ≡ length before + (6144 + length behind)
  run_length =
      let a : length run ≡ length before + length (frame ++ behind) = length-append before (frame ++ behind) in
      omega (arith, length-append frame behind)

  run_locks : locks run (length before) ≡ true
  run_locks =
      locks_alike run (length before) frame 0 (let l = run_length in omega arith) (omega arith) (λ i l.
      get_or-append-add before (frame ++ behind) (64 * i) 0 ∙ get_or-append frame behind 0 (64 * i) (omega arith)
      ∙ ap (λ (k : ℕ). get_or frame k 0) (sym (zero-add (64 * i)))) ∙ locked

  early : first_lock run ≤ length before
  unfolding first_lock
  early = go (dec_lt (length before) (first_lock run))
    where
      go : Dec (length before < least (locks run) (offsets run)) → least (locks run) (offsets run) ≤ length before
      go (yes l) = absurd (false≢true (sym (least_fails (locks run) (offsets run) (length before) l) ∙ run_locks))
      go (no n) = omega arith

pub found_by_then : FoundByThen
found_by_then before frame behind whole locked =
    let l = run_length before frame behind whole locked in
    let e = early before frame behind whole locked in
    (first_lock (before ++ (frame ++ behind)), find_at (before ++ (frame ++ behind)) (omega arith) (omega arith), e)
