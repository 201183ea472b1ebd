-- The account of a run and its verdict (01, account and verdict; refusals 10, 11, 12; 02, request 02: fill is no measurement).
-- Assumes nothing.
use Rattle.std.specs.Prelude.{ℕ, ◌+◌, ◌-◌, ◌*◌, ◌%◌, ◌^◌, Bool, true, false, cond, not, ◌&&◌, ◌||◌, List, ◌==◌, nat_le, nat_lt, slice_index, Result, Ok, Err}
use Rattle.refusal.specs.declared.Refusal.{Refusal}
use Rattle.refusal.specs.definitions.Refusal.{number_of}
use Rattle.bits.specs.definitions.Bits.{count}
use Rattle.account.specs.declared.Tallies.{Tallies}
use Rattle.account.specs.declared.Account.{Account}
use Rattle.account.specs.declared.Verdict.{Verdict}
use Rattle.account.specs.declared.Verdict.TheVariants.{NotMeasured, Pass, Fail}

-- the highest that accepted and missing may reach (refusal 11)
abbrev pub frame_limit : ℕ
frame_limit = 1000000

-- the highest that any one tally may reach
abbrev pub tally_limit : ℕ
tally_limit = 384000000

-- got less another number, round 2^32: d, where that is the expected one
unfoldable pub ahead : ℕ → ℕ → ℕ
ahead got from = (got + (2 ^ 32 - from)) % 2 ^ 32

-- by a frame's number, round 2^32: the first of three at the account's start number, the second at the next number, the third at every other (02, request 02)
abbrev pub by_number : {A : Type 0} → Account → ℕ → A → A → A → A
by_number a got first second later = cond (ahead got a.start == 0) first (cond (ahead got a.start == 1) second later)

-- how many words a frame with this number must bring to this account
abbrev pub due : Account → ℕ → ℕ
due a got = by_number a got 0 320 384

-- which words of that frame are tallied, by their flag places: none; all but words 0 and 1 of each lane, places 0 to 63; all
abbrev pub tallied : Account → ℕ → ℕ → Bool
tallied a got place = by_number a got false (nat_le 64 place) true

-- how many of a frame's tallied words have the flag v, by its 384 flag bytes
unfoldable pub counted : Account → ℕ → List ℕ → ℕ → ℕ
counted a got flags v = count (λ place. tallied a got place && slice_index flags place == v) 384

-- the tallies that a frame's flag bytes bring; a byte above 3 counts nowhere
abbrev pub tallies_of : Account → ℕ → List ℕ → Tallies
tallies_of a got flags = record { clean = counted a got flags 0; one = counted a got flags 1; two = counted a got flags 2; flagged = counted a got flags 3 }

-- the words tallied
abbrev pub total : Tallies → ℕ
total t = t.clean + t.one + t.two + t.flagged

-- the tallies are of the right total, 384 times the accepted frames less 448. As an addition: by a subtraction that stops at 0, no words would be the right
-- total of one accepted frame
abbrev pub right_total : Account → Bool
right_total a = total a.words + 448 == 384 * a.accepted

-- no words
abbrev pub no_words : Tallies
no_words = record { clean = 0; one = 0; two = 0; flagged = 0 }

-- the tallies of both
abbrev pub added : Tallies → Tallies → Tallies
added w t = record { clean = w.clean + t.clean; one = w.one + t.one; two = w.two + t.two; flagged = w.flagged + t.flagged }

-- the account of a new order: it keeps the start number
abbrev pub opened : ℕ → Account
opened start = record { expected = start; start = start; accepted = 0; missing = 0; words = no_words }

-- half the way round or more is late (refusal 10)
abbrev pub late : ℕ → Bool
late d = nat_le (2 ^ 31) d

-- the account after the frame numbered got: so many frames more accepted and missing, and their tallies
abbrev pub grown : Account → ℕ → ℕ → ℕ → Tallies → Account
grown a got accepted missing t =
    record {
      expected = (got + 1) % 2 ^ 32;
      start = a.start;
      accepted = a.accepted + accepted;
      missing = a.missing + missing;
      words = added a.words t;
    }

-- accepted or missing frames stand above their limit
abbrev pub frames_over : (accepted missing : ℕ) → Bool
frames_over accepted missing = nat_lt frame_limit accepted || nat_lt frame_limit missing

-- some tally stands above its limit
abbrev pub words_over : Tallies → Bool
words_over t = nat_lt tally_limit t.clean || (nat_lt tally_limit t.one || (nat_lt tally_limit t.two || nat_lt tally_limit t.flagged))

-- some field stands above its limit (refusal 11)
unfoldable pub over : Account → Bool
over a = frames_over a.accepted a.missing || words_over a.words

-- with a frame: the d frames before it are missing
abbrev pub with_frame : Account → ℕ → Tallies → Account
with_frame a got t = grown a got 1 (ahead got a.expected) t

-- with a loss, a frame without lock: it is missing too, d + 1 in all, and no tally moves
abbrev pub with_loss : Account → ℕ → Account
with_loss a got = grown a got 0 (ahead got a.expected + 1) no_words

-- what an entry leaves: its refusal's number, or 0, and the account
pub record Entry : Type 0 where
  pub refusal : ℕ
  pub account : Account

-- what a result says of an entry in an account: the account after it; or the refusal's number, and the account as it was
abbrev pub entry_in : Account → Result Account Refusal → Entry
entry_in a (Ok b) = record { refusal = 0; account = b }
entry_in a (Err refusal) = record { refusal = number_of refusal; account = a }

-- an answer: the new account where nothing is refused, else the old one
abbrev pub answer : ℕ → Account → Account → Entry
answer refusal new old = record { refusal = refusal; account = cond (refusal == 0) new old }

-- a frame with its tallies entered: 10 before 11, 11 before 12
unfoldable pub frame_entered : Account → ℕ → Tallies → Entry
frame_entered a got t =
    answer (cond (late (ahead got a.expected)) 10 (cond (over (with_frame a got t)) 11 (cond (total t == due a got) 0 12))) (with_frame a got t) a

-- a loss entered
unfoldable pub loss_entered : Account → ℕ → Entry
loss_entered a got = answer (cond (late (ahead got a.expected)) 10 (cond (over (with_loss a got)) 11 0)) (with_loss a got) a

-- at least two frames asked, as many accepted, none missing, and tallies of the right total
unfoldable pub measured : ℕ → Account → Bool
measured asked a = nat_lt 1 asked && (a.accepted == asked && (a.missing == 0 && right_total a))

-- PASS if flagged words are at most the allowance, else FAIL; anything else, and a run that was stopped, is not measured. No limit is applied here
unfoldable pub verdict : ℕ → ℕ → Account → Bool → Verdict
verdict asked allowed a stopped = cond (not stopped && measured asked a) (cond (nat_le a.words.flagged allowed) Pass Fail) NotMeasured

-- the verdict's number (house: what is not set says not measured)
unfoldable pub verdict_number : Verdict → ℕ
verdict_number NotMeasured = 0
verdict_number Pass = 1
verdict_number Fail = 2
