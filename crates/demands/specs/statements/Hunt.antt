-- A frame's start (02, request 04), over the calls of sending, receiving and searching: frames that were sent are found, damaged too; what receiving accepts
-- is found, and receiving accepts what is found. `proofs/Hunt` proves each.
-- Assumes nothing.
use Rattle.std.specs.Prelude.{◌≡◌, List, ◌++◌, ℕ, ◌^◌, ◌<◌, length, take, drop}
use Rattle.lanes.specs.definitions.Permutation.{Places}
use Rattle.pilots.specs.definitions.Pilots.{frame_symbols, lock_limit}
use Rattle.framing.specs.definitions.Send.{Sends}
use Rattle.framing.specs.definitions.Receive.{Receives}
use Rattle.hunt.specs.declared.Hunt.{Hunt}
use Rattle.hunt.specs.definitions.Found as found
use Rattle.hunt.specs.definitions.Find.{find, FoundBy}
use Rattle.hunt.specs.definitions.Pieces.{answer, FeedRun, joined}
use Rattle.adderbloom.specs.definitions.Found.{found_of}
use Rattle.demands.specs.definitions.Trial.{hit, hit_pilots}

-- a frame that was sent is found where it stands in any run, or before it
abbrev pub SentFound : Type 0
SentFound =
    (ex : Places) (a s o : List ℕ) (r : ℕ) (s' frame : List ℕ) → Sends ex a s o r s' frame → r ≡ 0
    → (before behind : List ℕ) → FoundBy (before ++ (frame ++ behind)) (length before)

-- and also where it is damaged, as long as fewer pilots are hit than refuse it
abbrev pub HitFound : Type 0
HitFound =
    (ex : Places) (a s o : List ℕ) (r : ℕ) (s' frame : List ℕ) → Sends ex a s o r s' frame → r ≡ 0
    → (flips : List ℕ) → hit_pilots flips < lock_limit → (before behind : List ℕ) → FoundBy (before ++ (hit frame flips ++ behind)) (length before)

-- whatever receiving does not refuse is found where it stands, or before it
abbrev pub AcceptedFound : Type 0
AcceptedFound =
    (ex : Places) (f s o g : List ℕ) (r : ℕ) (s' o' g' : List ℕ) → Receives ex f s o g r s' o' g' → r ≡ 0
    → (before behind : List ℕ) → FoundBy (before ++ (f ++ behind)) (length before)

-- and what is found receiving does not refuse, where store, output and flags have their lengths
abbrev pub FoundAccepted : Type 0
FoundAccepted =
    (run : List ℕ) (start : ℕ) → find run ≡ found.At start
    → (ex : Places) (s o g : List ℕ) (r : ℕ) (s' o' g' : List ℕ) → Receives ex (take frame_symbols (drop start run)) s o g r s' o' g'
    → length s ≡ 2880 → length o ≡ 5280 → length g ≡ 384 → r ≡ 0

-- for a host in C: what `lr800_hunt_answer` says after each piece is what `lr800_hunt` says of all of them, one behind the other
abbrev pub HuntedAlike : Type 0
HuntedAlike =
    (n : ℕ) (pieces : ℕ → List ℕ) (numbers : ℕ → ℕ) (hunts : ℕ → Hunt) (kept : ℕ → List ℕ) → FeedRun n pieces numbers hunts kept
    → length (kept 0) ≡ frame_symbols → length (joined pieces n) < 2 ^ 64 → found_of (answer (hunts n)) ≡ found_of (find (joined pieces n))
