-- Demand 1: each refusal carries the number in the refusal list, is given in exactly its listed case, and changes no output, state or account. Number by
-- number, as 01's list has them, 12 as 02's request 02 has it; `proofs/Refusals` proves each.
-- Assumes nothing.
use Rattle.std.specs.Prelude.{◌≡◌, not, ◌≢◌, ◌⊎◌, ◌↔◌, List, ℕ, ◌+◌, ◌*◌, ◌-◌, ◌^◌, ◌≤◌, ◌<◌, eqb, length, get_or}
use Rattle.bits.specs.definitions.Bits.{count}
use Rattle.lanes.specs.definitions.Permutation.{Places}
use Rattle.pilots.specs.definitions.Table5.{pilots}
use Rattle.framing.specs.definitions.Send.{Sends}
use Rattle.framing.specs.definitions.Receive.{Receives}
use Rattle.capture.specs.definitions.Read.{Read}
use Rattle.capture.specs.definitions.Read.{End, Refused}
use Rattle.capture.specs.definitions.Capture.{big_endian_at, read_at, next_of}
use Rattle.account.specs.declared.Tallies.{Tallies}
use Rattle.account.specs.declared.Account.{Account}
use Rattle.account.specs.definitions.Account.{Entry}
use Rattle.account.specs.definitions.Account.{total, due, ahead, with_frame, with_loss, frame_entered, loss_entered}
use Rattle.demands.specs.definitions.Refusals.{Above}

-- sending, of the lanes a with the store s and the output o: 0 to 3 and no other; and a refused call leaves the store and the output as they were
abbrev pub SendRefusals : Type 0
SendRefusals =
    (ex : Places) (a s o : List ℕ) (r : ℕ) (s' o' : List ℕ) → Sends ex a s o r s' o'
    → (((r ≡ 0) ↔ ((length a ≡ 5280) × (length s ≡ 2880) × (length o ≡ 6144)))
    × ((r ≡ 1) ↔ (length a ≢ 5280))
    × ((r ≡ 2) ↔ ((length a ≡ 5280) × (length s ≢ 2880)))
    × ((r ≡ 3) ↔ ((length a ≡ 5280) × (length s ≡ 2880) × (length o ≢ 6144)))
    × (r ≤ 3))
    × (r ≢ 0 → (s' ≡ s) × (o' ≡ o))

-- receiving, of the symbols f with the store s, the output o and the flags g, where so many of the 96 pilot bytes, the first of each 64, are wrong: 0 to 5 and
-- no other; and a refused call leaves the store, the output and the flags as they were
abbrev pub ReceiveRefusals : Type 0
ReceiveRefusals =
    (ex : Places) (f s o g : List ℕ) (r : ℕ) (s' o' g' : List ℕ) → Receives ex f s o g r s' o' g'
    → (wrong : ℕ) → wrong ≡ count (λ k. not (eqb (get_or f (64 * k) 0) (get_or pilots k 0))) 96
    → (((r ≡ 0) ↔ ((length f ≡ 6144) × (length s ≡ 2880) × (length o ≡ 5280) × (length g ≡ 384) × (wrong < 25)))
    × ((r ≡ 1) ↔ (length f ≢ 6144))
    × ((r ≡ 2) ↔ ((length f ≡ 6144) × (length s ≢ 2880)))
    × ((r ≡ 3) ↔ ((length f ≡ 6144) × (length s ≡ 2880) × (length o ≢ 5280)))
    × ((r ≡ 4) ↔ ((length f ≡ 6144) × (length s ≡ 2880) × (length o ≡ 5280) × (length g ≢ 384)))
    × ((r ≡ 5) ↔ ((length f ≡ 6144) × (length s ≡ 2880) × (length o ≡ 5280) × (length g ≡ 384) × (25 ≤ wrong)))
    × (r ≤ 5))
    × (r ≢ 0 → (s' ≡ s) × (o' ≡ o) × (g' ≡ g))

-- a record, read at place i of the capture s with so many bytes left, which begin with the length n, then the version and the kind: 6 to 9 and no other, and
-- where no byte is left the end; and neither the end nor a refusal moves the place
abbrev pub RecordRefusals : Type 0
RecordRefusals =
    (s : List ℕ) (i : ℕ) (read : Read) → read ≡ read_at s i
    → (left n version kind : ℕ) → left ≡ length s - i → n ≡ big_endian_at s i → version ≡ get_or s (i + 4) 0 → kind ≡ get_or s (i + 5) 0
    → (((read ≡ End) ↔ (length s ≤ i))
    × ((read ≡ Refused 6) ↔ ((0 < left) × ((left < 4) ⊎ (((n ≡ 14) ⊎ (n ≡ 6150)) × (left < 4 + n)))))
    × ((read ≡ Refused 7) ↔ ((4 ≤ left) × (n ≢ 14) × (n ≢ 6150)))
    × ((read ≡ Refused 8) ↔ (((n ≡ 14) ⊎ (n ≡ 6150)) × (4 + n ≤ left) × (version ≢ 1)))
    × ((read ≡ Refused 9) ↔ ((((n ≡ 14) × (kind ≢ 0)) ⊎ ((n ≡ 6150) × (kind ≢ 1))) × (4 + n ≤ left) × (version ≡ 1)))
    × ((refusal : ℕ) → read ≡ Refused refusal → (6 ≤ refusal) × (refusal ≤ 9)))
    × (read ≡ End → next_of read i ≡ i)
    × ((refusal : ℕ) → read ≡ Refused refusal → next_of read i ≡ i)

-- an entry into the account a, d ahead of the number expected: of a frame with the tallies t 0, 10, 11 and 12 and no other, of a loss 0, 10 and 11 and no
-- other; 12 where the tallies are not of the words due, 0, 320 or 384 by the frame's number; and a refused entry leaves the account as it was
abbrev pub EntryRefusals : Type 0
EntryRefusals =
    (a : Account) (got d : ℕ) (e : Entry) → d ≡ ahead got a.expected
    → ((t : Tallies) → e ≡ frame_entered a got t
    → (((e.refusal ≡ 0) ↔ ((d < 2 ^ 31) × (Above (with_frame a got t) → ⊥) × (total t ≡ due a got)))
    × ((e.refusal ≡ 10) ↔ (2 ^ 31 ≤ d))
    × ((e.refusal ≡ 11) ↔ ((d < 2 ^ 31) × Above (with_frame a got t)))
    × ((e.refusal ≡ 12) ↔ ((d < 2 ^ 31) × (Above (with_frame a got t) → ⊥) × (total t ≢ due a got)))
    × (e.refusal ≢ 0 → (10 ≤ e.refusal) × (e.refusal ≤ 12)))
    × (e.refusal ≢ 0 → e.account ≡ a))
    × (e ≡ loss_entered a got
    → (((e.refusal ≡ 0) ↔ ((d < 2 ^ 31) × (Above (with_loss a got) → ⊥)))
    × ((e.refusal ≡ 10) ↔ (2 ^ 31 ≤ d))
    × ((e.refusal ≡ 11) ↔ ((d < 2 ^ 31) × Above (with_loss a got)))
    × (e.refusal ≢ 0 → (10 ≤ e.refusal) × (e.refusal ≤ 11)))
    × (e.refusal ≢ 0 → e.account ≡ a))

-- the refusal list, call by call
pub record Refusals : Type 0 where
  pub sending : SendRefusals
  pub receiving : ReceiveRefusals
  pub records : RecordRefusals
  pub entries : EntryRefusals
