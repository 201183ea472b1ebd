-- What the theorems of the verdict speak of (demand 2): a measured capture and its run, an examination and its report, a line of a text, a capture as it may
-- come.
-- Assumes nothing.
use Rattle.std.specs.Prelude.{◌≡◌, true, cond, ◌&&◌, ◌≢◌, ◌⊎◌, List, [], ◌∷◌, ◌++◌, ℕ, zero, suc, ◌+◌, ◌^◌, ◌≤◌, ◌<◌, eqb, length, get_or, take}
use Prim.Native.String.{String}
use Rattle.bits.specs.definitions.Bits.{count}
use Rattle.decoder.specs.definitions.Mend.{mend, flag_of}
use Rattle.symbols.specs.definitions.Frame.{arrived}
use Rattle.pilots.specs.definitions.Pilots.{locks}
use Rattle.account.specs.definitions.Account.{frame_limit}
use Rattle.capture.specs.definitions.Read.{Frame}
use Rattle.capture.specs.definitions.Capture.{layout, read_at, order_record, frame_number, frame_records}
use Rattle.bench.specs.declared.Run.{Run}
use Rattle.bench.specs.declared.Phase.TheVariants.{Going}
use Rattle.bench.specs.definitions.Run.{begun, stepped}
use Rattle.bench.specs.definitions.Walk.{examined, pieces}
use Rattle.report.specs.definitions.Report.{ascii, text, written_bytes, written}
use Rattle.demands.specs.definitions.Fill.{free_of_fill}

-- how many words of frame k of a run that are free of fill have the flag v, by what each decodes to: 0, 1 or 2 bits mended, or 3, no code word lies within two
-- bits
unfoldable pub words_with : ℕ → ℕ → List ℕ → ℕ
words_with v k f = count (λ i. free_of_fill k i && eqb (flag_of (mend (arrived f i))) v) 384

-- and of frames 0, 1, .., n - 1
unfoldable pub words_in : ℕ → (ℕ → List ℕ) → ℕ → ℕ
words_in v frames zero = 0
words_in v frames (suc n) = words_in v frames n + words_with v n (frames n)

-- at least two frames were ordered (02, request 02), and all of them and nothing else were measured: the capture is one order record, then exactly the frame
-- records asked for, numbered from start on round 2^32, then nothing, and every frame locks
pub record Measured (s : List ℕ) : Type 0 where
  pub start : ℕ
  pub asked : ℕ
  pub allowed : ℕ
  -- the symbols of each frame
  pub frames : ℕ → List ℕ
  pub numbers : (start < 2 ^ 32) × (asked < 2 ^ 32) × (allowed < 2 ^ 32)
  pub at_least_two : 2 ≤ asked
  -- no entry is refused: frames in their turn that bring their words can only pass the limit on accepted ones
  pub within : asked ≤ frame_limit
  pub whole : (k : ℕ) → k < asked → length (frames k) ≡ layout.symbols
  pub locked : (k : ℕ) → k < asked → locks (frames k) 0 ≡ true
  pub capture : s ≡ order_record start asked allowed ++ frame_records (frame_number start) frames asked

-- the run that it comes to: every frame accepted, none missing, and every word of every frame counted that is free of fill
abbrev pub measured_run : {s : List ℕ} → Measured s → Run
measured_run m =
    record {
      phase = Going;
      asked = m.asked;
      allowed = m.allowed;
      account =
          record {
            expected = frame_number m.start m.asked;
            start = m.start;
            accepted = m.asked;
            missing = 0;
            words = record {
              clean = words_in 0 m.frames m.asked;
              one = words_in 1 m.frames m.asked;
              two = words_in 2 m.frames m.asked;
              flagged = words_in 3 m.frames m.asked;
            };
          };
    }

-- the flagged words of all frames, those that carry fill left out
abbrev pub flagged_words : {s : List ℕ} → Measured s → ℕ
flagged_words m = words_in 3 m.frames m.asked

-- a walk record by record, as calls of `step` allow: from the run before its first record on, one call for each piece that the program cuts off
pub record Stepwise (s : List ℕ) (r : Run) : Type 0 where
  pub runs : ℕ → Run
  pub first : runs 0 ≡ begun
  pub call : (k : ℕ) → k < length (pieces s) → runs (suc k) ≡ stepped (runs k) (get_or (pieces s) k [])
  pub last : r ≡ runs (length (pieces s))

-- a capture examined and its report, as the calls allow: `examine_capture` or a walk record by record, and `report` into a buffer that holds it
pub record Examination (s report : List ℕ) : Type 0 where
  pub run : Run
  pub walk : (run ≡ examined s) ⊎ Stepwise s run
  pub buffer : List ℕ
  pub out : List ℕ
  pub bytes : ℕ
  pub holds : length (text run) ≤ length buffer
  pub answered : bytes ≡ written_bytes run buffer
  pub left : out ≡ written run buffer
  pub printed : report ≡ take bytes out

-- the lines of a text, each ended by 0A, where the bytes `head` of the first have gone before
unfoldable pub lines_from : List ℕ → List ℕ → List (List ℕ)
lines_from head [] = []
lines_from head (c ∷ rest) = cond (eqb c 10) (head ∷ lines_from [] rest) (lines_from (head ++ (c ∷ [])) rest)

-- a line stands in a text
pub record Line (line : String) (t : List ℕ) : Type 0 where
  pub place : ℕ
  pub inside : place < length (lines_from [] t)
  pub is : get_or (lines_from [] t) place [] ≡ ascii line

-- a capture as it may come: an order, then n frame records with whatever numbers and symbols, then something that is no frame
pub record Arrived (s : List ℕ) : Type 0 where
  pub start : ℕ
  pub asked : ℕ
  pub allowed : ℕ
  pub n : ℕ
  pub numbers : ℕ → ℕ
  pub frames : ℕ → List ℕ
  pub rest : List ℕ
  pub small : (start < 2 ^ 32) × (asked < 2 ^ 32) × (allowed < 2 ^ 32)
  pub whole : (k : ℕ) → k < n → (numbers k < 2 ^ 32) × (length (frames k) ≡ layout.symbols)
  pub no_frame : (number from next : ℕ) → read_at rest 0 ≢ Frame number from next
  pub capture : s ≡ order_record start asked allowed ++ (frame_records numbers frames n ++ rest)
