-- Frames that were sent are found, damaged too; what receiving accepts is found, and receiving accepts what is found.
-- Assumes nothing.
use mathlib.Core.Path.{◌≡◌, refl, sym, ap, ◌∙◌}
use mathlib.Core.Bool.{Bool, true, false, cond}
use mathlib.Core.List.{List}
use Prim.Native.Nat.{ℕ, ◌+◌, ◌*◌, ◌≤◌}
use native.Mathlib.Nat.{zero-add}
use native.Mathlib.Omega.{arith}
use lib.ListN.{length, get_or, take, drop, length-drop}
use lib.Seq.{length-take-le, get_or-take, get_or-drop}
use borrow.Author.Tests.{lt-ltb}
use Rattle.bits.specs.definitions.Call.{unless}
use Rattle.bits.proofs.Calls.{passes, written}
use Rattle.lanes.specs.definitions.Permutation.{Places}
use Rattle.pilots.specs.definitions.Pilots.{locks, lock_limit}
use Rattle.pilots.proofs.Lock.{locks_alike}
use Rattle.framing.specs.definitions.Send.{sent_frame, send_number, Sends}
use Rattle.framing.specs.definitions.Receive.{receive_number}
use Rattle.framing.proofs.Receiving.{all_lengths}
use Rattle.framing.proofs.Sending.{frame_length}
use Rattle.framing.proofs.Stream.{sent_pilot, sent_locks}
use Rattle.hunt.proofs.Exactly.{found_exactly}
use Rattle.hunt.proofs.Runs.{found_by_then, all_fed}
use Rattle.adderbloom.specs.definitions.Found.{found_of}
use Rattle.demands.specs.definitions.Trial.{hit, hit_pilots}
use Rattle.demands.specs.statements.Hunt.{SentFound, HitFound, AcceptedFound, FoundAccepted, HuntedAlike}
use Rattle.demands.proofs.Hit.{hit_length, hit_locks}

-- ---- what was sent
-- a call that was done leaves the frame
sent : (ex : Places) (a s o : List ℕ) (r : ℕ) (s' frame : List ℕ) → Sends ex a s o r s' frame → r ≡ 0 → frame ≡ sent_frame ex a s
sent ex a s o r s' frame S z = S.output ∙ written (send_number a s o) (sent_frame ex a s) o (sym S.number ∙ z)

pub sent_found : SentFound
sent_found ex a s o r s' frame S z before behind =
    let e = sent ex a s o r s' frame S z in
    found_by_then before frame behind (ap length e ∙ frame_length ex a s) (ap (λ (f : List ℕ). locks f 0) e ∙ sent_locks ex a s)

pub hit_found : HitFound
hit_found ex a s o r s' frame S z flips few before behind =
    let e = sent ex a s o r s' frame S z in
    found_by_then before (hit frame flips) behind (hit_length frame flips)
    (hit_locks frame flips (λ k h. ap (λ (f : List ℕ). get_or f (64 * k) 0) e ∙ sent_pilot ex a s k h) ∙ lt-ltb (hit_pilots flips) lock_limit few)

-- ---- what receiving accepts
locked : (b : Bool) → ◌≡◌ {A = ℕ} (cond b 0 5) 0 → b ≡ true
locked true e = refl
locked false e = absurd (omega arith)

pub accepted_found : AcceptedFound
unfolding receive_number
accepted_found ex f s o g r s' o' g' R z before behind =
    let all = passes 6144 f 0 (unless 2880 s 2 (unless 5280 o 3 (unless 384 g 4 (cond (locks f 0) 0 5)))) (sym R.number ∙ z) in
    let lanes = passes 2880 s 1 (unless 5280 o 3 (unless 384 g 4 (cond (locks f 0) 0 5))) all.1 in
    let flags = passes 5280 o 2 (unless 384 g 4 (cond (locks f 0) 0 5)) lanes.1 in
    let lock = passes 384 g 3 (cond (locks f 0) 0 5) flags.1 in
    found_by_then before f behind all.0 (locked (locks f 0) lock.1)

-- ---- what is found
module _ (run : List ℕ) (start : ℕ) (fits : start + 6144 ≤ length run) where
  abbrev there : List ℕ
  there = take 6144 (drop start run)

  there_length : length there ≡ 6144
  there_length = length-take-le 6144 (drop start run) (let e = length-drop start run in omega arith)

  there_locks : locks there 0 ≡ locks run start
  there_locks =
      locks_alike there 0 run start (let e = there_length in omega arith) (omega arith) (λ i h.
      ap (λ (k : ℕ). get_or there k 0) (zero-add (64 * i)) ∙ get_or-take 6144 (drop start run) (64 * i) 0 (omega arith) ∙ get_or-drop start run (64 * i) 0)

pub found_accepted : FoundAccepted
found_accepted run start e ex s o g r s' o' g' R hs ho hg =
    let S = (found_exactly run start).0 e in
    R.number ∙ all_lengths (take 6144 (drop start run)) s o g (there_length run start S.fits) hs ho hg
    ∙ ap (λ (b : Bool). cond b 0 5) (there_locks run start S.fits ∙ S.locked)

-- ---- a host in C
pub hunted_alike : HuntedAlike
hunted_alike n pieces numbers hunts kept R whole few = ap found_of (all_fed n pieces numbers hunts kept R whole few).1
