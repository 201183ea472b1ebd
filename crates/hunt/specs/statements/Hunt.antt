-- What is to be shown of a search (02, request 04); `proofs/Exactly`, `proofs/Runs` and `proofs/Refusals` prove each.
-- Assumes nothing.
use Rattle.std.specs.Prelude.{◌≡◌, true, false, ◌≢◌, ◌↔◌, List, ◌++◌, ℕ, ◌+◌, ◌^◌, ◌<◌, ◌≤◌, length, get_or}
use Rattle.pilots.specs.definitions.Pilots.{frame_symbols, locks}
use Rattle.hunt.specs.definitions.Found as found
use Rattle.hunt.specs.declared.Hunt.{Hunt}
use Rattle.hunt.specs.definitions.Find.{short_run, find, Starts, FoundBy}
use Rattle.hunt.specs.definitions.Pieces.{kept_place, answer, Feeds, FeedRun, joined, not_refused}

-- the answer is an offset exactly if a whole frame fits there, the run locks there, and at no smaller offset
abbrev pub FoundExactly : Type 0
FoundExactly = (s : List ℕ) (o : ℕ) → (find s ≡ found.At o) ↔ Starts s o

-- it is none exactly if a frame would fit, and the run locks at no offset at which one fits
abbrev pub NoneExactly : Type 0
NoneExactly = (s : List ℕ) → (find s ≡ found.None) ↔ ((frame_symbols ≤ length s) × ((o : ℕ) → o + frame_symbols ≤ length s → locks s o ≡ false))

-- it is refused, by 13, exactly if the run is shorter than a frame
abbrev pub ShortExactly : Type 0
ShortExactly = (s : List ℕ) → (find s ≡ found.Refused short_run) ↔ (length s < frame_symbols)

-- and no run has another refusal
abbrev pub NoOther : Type 0
NoOther = (s : List ℕ) (r : ℕ) → find s ≡ found.Refused r → r ≡ short_run

-- where a frame that locks stands in a run, the answer is its offset or a smaller one
abbrev pub FoundByThen : Type 0
FoundByThen = (before frame behind : List ℕ) → length frame ≡ frame_symbols → locks frame 0 ≡ true → FoundBy (before ++ (frame ++ behind)) (length before)

-- however a run is cut: after each call the answer is that of the whole search over all that was not refused so far, whatever was kept at first
abbrev pub HoweverCut : Type 0
HoweverCut = (n : ℕ) (pieces : ℕ → List ℕ) (numbers : ℕ → ℕ) (hunts : ℕ → Hunt) (kept : ℕ → List ℕ) → FeedRun n pieces numbers hunts kept
    → answer (hunts n) ≡ find (joined (not_refused pieces numbers) n)

-- with 6,144 symbols kept, and fewer than 2^64 in all, no piece is refused: the answer is that of the pieces one behind the other
abbrev pub AllFed : Type 0
AllFed = (n : ℕ) (pieces : ℕ → List ℕ) (numbers : ℕ → ℕ) (hunts : ℕ → Hunt) (kept : ℕ → List ℕ) → FeedRun n pieces numbers hunts kept
    → length (kept 0) ≡ frame_symbols → length (joined pieces n) < 2 ^ 64
    → ((i : ℕ) → i < n → numbers i ≡ 0) × (answer (hunts n) ≡ find (joined pieces n))

-- until a start is found all that was not refused is taken in
abbrev pub AllTaken : Type 0
AllTaken = (n : ℕ) (pieces : ℕ → List ℕ) (numbers : ℕ → ℕ) (hunts : ℕ → Hunt) (kept : ℕ → List ℕ) → FeedRun n pieces numbers hunts kept
    → (hunts n).found ≡ 0 → (hunts n).taken ≡ length (joined (not_refused pieces numbers) n)

-- once a start is found, the frame that starts there is what is kept, each symbol at its place, and what was taken in ends with it
abbrev pub FrameKept : Type 0
FrameKept = (n : ℕ) (pieces : ℕ → List ℕ) (numbers : ℕ → ℕ) (hunts : ℕ → Hunt) (kept : ℕ → List ℕ) → FeedRun n pieces numbers hunts kept
    → (o : ℕ) → answer (hunts n) ≡ found.At o
    → ((hunts n).taken ≡ o + frame_symbols) × (length (kept n) ≡ frame_symbols)
    × ((j : ℕ) → j < frame_symbols → get_or (kept n) (kept_place (o + j)) 0 ≡ get_or (joined (not_refused pieces numbers) n) (o + j) 0)

-- what is answered, whatever is stored: 13, none and an offset, each in exactly its case
abbrev pub AnswerExactly : Type 0
AnswerExactly =
    (h : Hunt)
    → ((answer h ≡ found.Refused short_run) ↔ (h.taken < frame_symbols))
    × ((answer h ≡ found.None) ↔ ((frame_symbols ≤ h.taken) × (h.found ≡ 0)))
    × ((o : ℕ) → (answer h ≡ found.At o) ↔ ((h.taken ≡ o + frame_symbols) × (h.found ≢ 0)))

-- what a piece is refused by, whatever is stored: 2 and 23, in exactly their cases, 2 before 23, and no other number; a refused piece leaves everything as it
-- was
abbrev pub FeedRefusals : Type 0
FeedRefusals =
    (h : Hunt) (kept piece : List ℕ) (r : ℕ) (h' : Hunt) (kept' : List ℕ) → Feeds h kept piece r h' kept'
    → (((r ≡ 2) ↔ (length kept ≢ frame_symbols))
    × ((r ≡ 23) ↔ ((length kept ≡ frame_symbols) × (h.found ≡ 0) × (2 ^ 64 ≤ h.taken + length piece)))
    × (r ≢ 0 → r ≢ 2 → r ≡ 23))
    × (r ≢ 0 → (h' ≡ h) × (kept' ≡ kept))

-- and for any pieces, and whatever is kept at first, there is such a run
abbrev pub CanBeFed : Type 0
CanBeFed = (n : ℕ) (pieces : ℕ → List ℕ) (symbols : List ℕ)
    → (numbers : ℕ → ℕ) × (hunts : ℕ → Hunt) × (kept : ℕ → List ℕ) × FeedRun n pieces numbers hunts kept × (kept 0 ≡ symbols)
