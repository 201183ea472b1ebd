-- However a run is cut: a search that was fed a run, piece by piece, either has found nothing yet and keeps the last of it, or has found its first start and
-- keeps the frame there.
-- Assumes nothing.
use mathlib.Core.Path.{◌≡◌, refl, sym, ap, ◌∙◌, subst}
use mathlib.Core.Bool.{Bool, true, false, cond}
use mathlib.Core.Logic.{◌⊎◌, inl, inr}
use mathlib.Core.List.{List, [], ◌∷◌, ◌++◌, append-nil, append_assoc}
use Prim.Native.Nat.{ℕ, suc, ◌+◌, ◌*◌, ◌-◌, ◌<◌, ◌≤◌}
use native.Mathlib.Nat.{zero-add}
use native.Mathlib.Decide.{ℕ_discrete, dec_lt}
use native.Mathlib.Omega.{arith}
use lib.Dec.{eqb}
use lib.ListN.{length, get_or, set, length-append, length-set, get_or-append}
use lib.Seq.{get_or-append_seam, get_or-set_same, get_or-set_other}
use Rattle.pilots.specs.definitions.Pilots.{locks}
use Rattle.pilots.proofs.Lock.{locks_alike}
use Rattle.hunt.specs.definitions.Found as found
use Rattle.hunt.specs.definitions.Find.{find, Starts}
use Rattle.hunt.specs.definitions.Pieces.{Search, kept_place, from_oldest, start_found, search_at, symbol_taken, piece_taken, answer}
use Rattle.hunt.proofs.Finding.{find_short, answer_short, answer_none, answer_at}
use Rattle.hunt.proofs.Taking.{place_lt, place_round, place_other, oldest_length, oldest_at, too_few, enough, symbol_taken_lem, symbol_passed}
use Rattle.hunt.proofs.Exactly.{found_exactly, none_exactly}

-- ---- a longer run
pub locks_longer : (s r : List ℕ) (o : ℕ) → o + 6144 ≤ length s → locks (s ++ r) o ≡ locks s o
locks_longer s r o h =
    locks_alike (s ++ r) o s o (let e = length-append s r in omega arith) (omega arith) (λ i l. get_or-append s r 0 (o + 64 * i) (omega arith))

pub starts_longer : (s r : List ℕ) (o : ℕ) → Starts s o → Starts (s ++ r) o
starts_longer s r o S =
    record {
      fits = let e = length-append s r in let l = S.fits in omega arith;
      locked = locks_longer s r o S.fits ∙ S.locked;
      first = λ p l. locks_longer s r p (let f = S.fits in omega arith) ∙ S.first p l;
    }

-- ---- what a search that was fed s is
-- nothing was found: all of s was taken in, it locks nowhere, and its last symbols are kept
pub record Looking (s : List ℕ) (t : Search) : Type 0 where
  pub unfound : t.hunt.found ≡ 0
  pub all : t.hunt.taken ≡ length s
  pub none : (o : ℕ) → o + 6144 ≤ length s → locks s o ≡ false
  pub last : (i : ℕ) → i < length s → length s ≤ i + 6144 → get_or t.kept (kept_place i) 0 ≡ get_or s i 0

-- its first start was found: what was taken in ends with the frame there, which is kept
pub record Done (s : List ℕ) (t : Search) (o : ℕ) : Type 0 where
  pub closed : t.hunt.found ≡ 0 → ⊥
  pub upto : t.hunt.taken ≡ o + 6144
  pub whole : length t.kept ≡ 6144
  pub starts : Starts s o
  pub frame : (j : ℕ) → j < 6144 → get_or t.kept (kept_place (o + j)) 0 ≡ get_or s (o + j) 0

abbrev pub Searched : List ℕ → Search → Type 0
Searched s t = Looking s t ⊎ ((o : ℕ) × Done s t o)

-- a search that found its start stays as it is, however the run goes on
done_longer : (s r : List ℕ) (t : Search) (o : ℕ) → Done s t o → Done (s ++ r) t o
done_longer s r t o D =
    record {
      closed = D.closed;
      upto = D.upto;
      whole = D.whole;
      starts = starts_longer s r o D.starts;
      frame = λ j l. D.frame j l ∙ sym (get_or-append s r 0 (o + j) (let f = D.starts.fits in omega arith));
    }

-- ---- one symbol more
module _ (s : List ℕ) (x : ℕ) (t : Search) (L : Looking s t) (long : length t.kept ≡ 6144) where
  abbrev n : ℕ
  n = length s

  abbrev s' : List ℕ
  s' = s ++ x ∷ []

  abbrev kept : List ℕ
  kept = set t.kept (kept_place n) x

  grown : length s' ≡ suc n
  grown = let e = length-append s (x ∷ []) in omega arith

  taken : symbol_taken t x ≡ search_at (suc n) kept
  taken = symbol_taken_lem t x n L.unfound L.all

  long' : length kept ≡ 6144
  long' = length-set t.kept (kept_place n) x ∙ long

  -- the symbol stands at its place, and the others where they stood
  last : (i : ℕ) → i < suc n → suc n ≤ i + 6144 → get_or kept (kept_place i) 0 ≡ get_or s' i 0
  last i l h = go (ℕ_discrete i n)
    where
      go : Dec (i ≡ n) → get_or kept (kept_place i) 0 ≡ get_or s' i 0
      go (yes e) =
          ap (λ (k : ℕ). get_or kept (kept_place k) 0) e ∙ get_or-set_same t.kept (kept_place n) x 0 (let p = place_lt n in omega arith)
          ∙ sym (get_or-append_seam s x [] 0) ∙ ap (λ (k : ℕ). get_or s' k 0) (sym e)
      go (no e) =
          get_or-set_other t.kept (kept_place n) (kept_place i) x 0 (place_other i n (omega arith) (omega arith)) ∙ L.last i (omega arith) (omega arith)
          ∙ sym (get_or-append s (x ∷ []) 0 i (omega arith))

  -- a smaller offset is as it was
  before : (o : ℕ) → o + 6144 ≤ n → locks s' o ≡ false
  before o h = locks_longer s (x ∷ []) o h ∙ L.none o h

  -- where a frame's symbols are there, those kept are the frame that ends here
  module _ (h : 6144 ≤ suc n) where
    abbrev o : ℕ
    o = suc n - 6144

    frame : (j : ℕ) → j < 6144 → get_or kept (kept_place (o + j)) 0 ≡ get_or s' (o + j) 0
    frame j l = last (o + j) (omega arith) (omega arith)

    window : locks (from_oldest (suc n) kept) 0 ≡ locks s' o
    window =
        locks_alike (from_oldest (suc n) kept) 0 s' o (let e = oldest_length (suc n) kept in omega arith) (let e = grown in omega arith) (λ i l.
        let end : suc n + 64 * i ≡ o + 64 * i + 6144 = omega arith in
        ap (λ (k : ℕ). get_or (from_oldest (suc n) kept) k 0) (zero-add (64 * i)) ∙ oldest_at (suc n) kept (64 * i) (omega arith)
        ∙ ap (λ (k : ℕ). get_or kept k 0) (ap kept_place end ∙ place_round (o + 64 * i)) ∙ frame (64 * i) (omega arith))

  one_more : Searched s' (symbol_taken t x)
  one_more = subst (Searched s') (sym taken) (go (dec_lt (suc n) 6144))
    where
      looking : start_found (suc n) kept ≡ 0 → ((o : ℕ) → o + 6144 ≡ suc n → locks s' o ≡ false) → Searched s' (search_at (suc n) kept)
      looking z e =
          inl (record {
            unfound = z;
            all = sym grown;
            none = λ o h. let g = grown in by_end o (omega arith) (ℕ_discrete (o + 6144) (suc n));
            last = λ i l h. let g = grown in last i (omega arith) (omega arith);
          })
        where
          by_end : (o : ℕ) → o + 6144 ≤ suc n → Dec (o + 6144 ≡ suc n) → locks s' o ≡ false
          by_end o h (yes q) = e o q
          by_end o h (no q) = before o (omega arith)

      asked : (h : 6144 ≤ suc n) (b : Bool) → locks s' (suc n - 6144) ≡ b → Searched s' (search_at (suc n) kept)
      asked h true q =
          inr (
            suc n - 6144,
            record {
              closed = λ z. let f : start_found (suc n) kept ≡ 1 = enough (suc n) kept h ∙ ap (λ (b : Bool). cond b 1 0) (window h ∙ q) in omega arith;
              upto = omega arith;
              whole = long';
              starts = record { fits = let g = grown in omega arith; locked = q; first = λ p l. before p (omega arith) };
              frame = frame h;
            },
          )
      asked h false q =
          looking (enough (suc n) kept h ∙ ap (λ (b : Bool). cond b 1 0) (window h ∙ q))
          (λ o e. let i : o ≡ suc n - 6144 = omega arith in ap (locks s') i ∙ q)

      go : Dec (suc n < 6144) → Searched s' (search_at (suc n) kept)
      go (yes h) = looking (too_few (suc n) kept h) (λ o e. absurd (omega arith))
      go (no h) = asked (omega arith) (locks s' (suc n - 6144)) refl

-- ---- a piece more
taken_length : (t : Search) (x : ℕ) → length (symbol_taken t x).kept ≡ length t.kept
unfolding symbol_taken
taken_length t x = go (eqb t.hunt.found 0)
  where
    go : (b : Bool) → length (cond b (search_at (suc t.hunt.taken) (set t.kept (kept_place t.hunt.taken) x)) t).kept ≡ length t.kept
    go true = length-set t.kept (kept_place t.hunt.taken) x
    go false = refl

pub piece_length : (t : Search) (piece : List ℕ) → length (piece_taken t piece).kept ≡ length t.kept
unfolding piece_taken
piece_length t [] = refl
piece_length t (x ∷ piece) = piece_length (symbol_taken t x) piece ∙ taken_length t x

next : (s : List ℕ) (x : ℕ) (t : Search) → length t.kept ≡ 6144 → Searched s t → Searched (s ++ x ∷ []) (symbol_taken t x)
next s x t long (inl L) = one_more s x t L long
next s x t long (inr (o, D)) =
    subst (Searched (s ++ x ∷ [])) (sym (symbol_passed t x D.closed)) (inr (o, done_longer s (x ∷ []) t o D))

pub piece_searched : (s piece : List ℕ) (t : Search) → length t.kept ≡ 6144 → Searched s t → Searched (s ++ piece) (piece_taken t piece)
unfolding piece_taken
piece_searched s [] t long S = subst (λ (r : List ℕ). Searched r t) (sym (append-nil s)) S
piece_searched s (x ∷ piece) t long S =
    subst (λ (r : List ℕ). Searched r (piece_taken (symbol_taken t x) piece)) (append_assoc s (x ∷ []) piece)
    (piece_searched (s ++ x ∷ []) piece (symbol_taken t x) (taken_length t x ∙ long) (next s x t long S))

-- ---- the answer
pub searched_answer : (s : List ℕ) (t : Search) → Searched s t → answer t.hunt ≡ find s
searched_answer s t (inl L) = go (dec_lt (length s) 6144)
  where
    go : Dec (length s < 6144) → answer t.hunt ≡ find s
    go (yes h) = let e = L.all in answer_short t.hunt (omega arith) ∙ sym (find_short s h)
    go (no h) = let e = L.all in answer_none t.hunt (omega arith) L.unfound ∙ sym ((none_exactly s).1 (omega arith, L.none))
searched_answer s t (inr (o, D)) =
    let e : t.hunt.taken - 6144 ≡ o = let u = D.upto in omega arith in
    answer_at t.hunt (let u = D.upto in omega arith) D.closed ∙ ap found.At e ∙ sym ((found_exactly s o).1 D.starts)
