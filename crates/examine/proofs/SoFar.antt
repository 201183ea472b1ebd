-- Reading record by record: what has been read so far, and what it has come to.
-- Assumes nothing.
use mathlib.Core.Path.{◌≡◌, refl, sym, ap, ◌∙◌, subst}
use mathlib.Core.Bool.{true, false, false≢true}
use mathlib.Core.Logic.{◌≢◌}
use mathlib.Core.List.{List, [], ◌∷◌, ◌++◌, append-nil}
use Prim.Native.Nat.{ℕ, ◌+◌, ◌-◌, ◌≤◌, ◌<◌}
use native.Mathlib.Decide.{dec_lt}
use native.Mathlib.Omega.{arith}
use lib.ListN.{length, get_or, get_or-append, get_or-eq_default}
use lib.Seq.{get_or-append-add}
use Rattle.std.specs.Prelude.{Option, None, Some, IfSome}
use Rattle.std.specs.Io.KnownBytes.{Consumes, IsAtEnd}
use Rattle.std.proofs.KnownBytes.{Consumes-nil, Consumes-trans, Consumes-whole}
use Rattle.bits.specs.definitions.Bits.{AllBytes}
use Rattle.capture.specs.definitions.Read.{End}
use Rattle.capture.specs.definitions.Capture.{wanted}
use Rattle.capture.proofs.One.{is_refused, one_whole}
use Rattle.bench.specs.declared.Run.{Run}
use Rattle.bench.specs.declared.Phase.{Phase}
use Rattle.bench.specs.declared.Phase.TheVariants.{Stopped}
use Rattle.bench.specs.definitions.Run.{begun, stopped, is_stopped, stepped}
use Rattle.bench.specs.definitions.Walk.{examined, pieces}
use Rattle.bench.proofs.Walk.{Onward, onward_starts, onward_ends, onward_last, onward_next, short_stops, through_stays}
use Rattle.bench.proofs.Stops.{is_stopped_lem}
use Rattle.bench.proofs.Remaining.{remaining_of, step_less}

-- the bytes read so far, and that the run is what they come to; while the run goes on, whatever may follow. Of a reader that had the bytes `all` and has
-- `left`, where those are known, they are what it gave; and a run that is stopped is what all its bytes come to
pub record SoFar (all left : Option (List ℕ)) (run : Run) : Type 0 where
  pub read : List ℕ
  pub bytes : AllBytes read
  pub came : run ≡ examined read
  pub onward : is_stopped run.phase ≡ false → Onward read run
  pub given : Consumes all left read
  pub over : is_stopped run.phase ≡ true → IfSome all (λ xs. run ≡ examined xs)

-- nothing is read yet
no_bytes : AllBytes []
no_bytes = record { byte = λ m. let e : ◌≡◌ {A = ℕ} (get_or [] m 0) 0 = get_or-eq_default [] 0 {n = m} (omega arith) in omega arith }

pub reading_starts : (all : Option (List ℕ)) (r : Run) → r ≡ begun → SoFar all all r
unfolding is_stopped
reading_starts all r e =
    let O = onward_starts r e in
    record {
      read = [];
      bytes = no_bytes;
      came = onward_ends [] r O;
      onward = λ z. O;
      given = Consumes-nil all;
      over = λ z. absurd (false≢true (sym (ap (λ (x : Run). is_stopped x.phase) e) ∙ z));
    }

-- what was read, and more
bytes_append : (s t : List ℕ) → AllBytes s → AllBytes t → AllBytes (s ++ t)
bytes_append s t B C = record { byte = λ m. at m (dec_lt m (length s)) }
  where
    at : (m : ℕ) → Dec (m < length s) → get_or (s ++ t) m 0 < 256
    at m (yes h) = rw (get_or-append s t 0 m h) (B.byte m)
    at m (no h) =
        let e : m ≡ length s + (m - length s) = omega arith in
        subst (λ (x : ℕ). x < 256) (sym (ap (λ (k : ℕ). get_or (s ++ t) k 0) e ∙ get_or-append-add s t (m - length s) 0)) (C.byte (m - length s))

-- what goes on is not stopped
goes : (p : Phase) → is_stopped p ≡ false → p ≢ Stopped
unfolding is_stopped
goes p e z = false≢true (sym e ∙ ap is_stopped z)

-- a run that is stopped is what all the bytes come to, if they are what was stepped through and others
all_alike : (all left : Option (List ℕ)) (s : List ℕ) (r : Run) → Consumes all left s → ((t : List ℕ) → left ≡ Some t → r ≡ examined (s ++ t))
    → IfSome all (λ xs. r ≡ examined xs)
all_alike None left s r g h = tt
all_alike (Some x) None s r g h = absurd g
all_alike (Some x) (Some y) s r g h = h y refl ∙ ap examined (sym g)

-- no element
no_elements : (l : List ℕ) → length l < 1 → l ≡ []
no_elements [] h = refl
no_elements (x ∷ xs) h = absurd (omega arith)

module _ (all left : Option (List ℕ)) (run : Run) (R : SoFar all left run) where
  -- the end of the input
  pub reading_ends : (rest : Option (List ℕ)) (piece : List ℕ) → Consumes left rest piece → length piece < 1 → SoFar all rest run
  reading_ends rest piece now none =
      record {
        read = R.read;
        bytes = R.bytes;
        came = R.came;
        onward = R.onward;
        given =
            subst (Consumes all rest) (ap (λ (l : List ℕ). R.read ++ l) (no_elements piece none) ∙ append-nil R.read)
            (Consumes-trans all left rest R.read piece R.given now);
        over = R.over;
      }

  -- where no more is wanted, or nothing is left
  pub reading_came : (s t : List ℕ) × AllBytes s × (run ≡ examined s) × Consumes all left (s ++ t) × (false ≡ false → t ≡ [])
  reading_came = (R.read, [], R.bytes, R.came, subst (Consumes all left) (sym (append-nil R.read)) R.given, λ _. refl)

  pub reading_whole : IsAtEnd left → IfSome all (λ xs. run ≡ examined xs)
  reading_whole end = Consumes-whole all left R.read (λ xs. run ≡ examined xs) R.given end R.came

  -- one piece more
  module _ (on : is_stopped run.phase ≡ false) (piece : List ℕ) (some : 1 ≤ length piece) (cut : length piece ≤ wanted piece) (new : Run)
      (step : new ≡ stepped run piece) where
    pub reading_goes : AllBytes piece → (rest : Option (List ℕ)) → Consumes left rest piece → (length piece < wanted piece → IsAtEnd rest) → SoFar all rest new
    reading_goes B rest now last =
        record {
          read = R.read ++ piece;
          bytes = bytes_append R.read piece R.bytes B;
          came = step ∙ onward_last R.read run (R.onward on) piece some cut;
          onward = λ g. onwards (whole (goes new.phase g));
          given = given;
          over = λ g. all_alike all rest (R.read ++ piece) new given (λ t k. comes t k (dec_lt (length piece) (wanted piece)) (is_stopped_lem new.phase g));
        }
      where
        onwards : length piece ≡ wanted piece → Onward (R.read ++ piece) new
        onwards w = subst (Onward (R.read ++ piece)) (sym step) (onward_next R.read run (R.onward on) piece some w)

        whole : new.phase ≢ Stopped → length piece ≡ wanted piece
        whole n = full (dec_lt (length piece) (wanted piece))
          where
            full : Dec (length piece < wanted piece) → length piece ≡ wanted piece
            full (yes h) = absurd (n (ap (λ (x : Run). x.phase) step ∙ short_stops run piece some h))
            full (no h) = omega arith

        given : Consumes all rest (R.read ++ piece)
        given = Consumes-trans all left rest R.read piece R.given now

        none_left : (o : Option (List ℕ)) (t : List ℕ) → o ≡ Some t → IsAtEnd o → t ≡ []
        none_left o t k z = subst IsAtEnd k z

        -- a piece that is whole stops the run whatever follows, and nothing follows another
        comes : (t : List ℕ) → rest ≡ Some t → Dec (length piece < wanted piece) → new.phase ≡ Stopped → new ≡ examined ((R.read ++ piece) ++ t)
        comes t k (yes h) z =
            step ∙ onward_last R.read run (R.onward on) piece some cut
            ∙ ap examined (sym (append-nil (R.read ++ piece)) ∙ ap (λ (l : List ℕ). (R.read ++ piece) ++ l) (sym (none_left rest t k (last h))))
        comes t k (no h) z = sym (through_stays new z (pieces t)) ∙ onwards (omega arith) t

    pub reading_less : remaining_of new < remaining_of run
    unfolding is_refused
    reading_less =
        subst (λ (x : Run). remaining_of x < remaining_of run) (sym step)
        (step_less run piece (λ z. let h = (one_whole piece End refl z).1 in omega arith) (goes run.phase on))

-- a run that was stopped does not go on
pub stays_stopped : (r s : Run) → s ≡ stopped r → (P : Type 0) → is_stopped s.phase ≡ false → P
unfolding is_stopped
stays_stopped r s e P g = absurd (false≢true (sym g ∙ ap (λ (x : Run). is_stopped x.phase) e))
