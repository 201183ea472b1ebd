-- A measured capture and its run: frames in their turn are entered one by one, and a run that loses its turn once is never measured.
-- Assumes nothing.
use mathlib.Core.Path.{◌≡◌, refl, sym, ap, ap₂, ◌∙◌, subst}
use mathlib.Core.Bool.{Bool, true, false, cond, not, ◌&&◌, false≢true}
use mathlib.Core.Logic.{◌≢◌, ◌⊎◌, inl, inr}
use mathlib.Core.List.{List}
use Prim.Native.Nat.{ℕ, zero, suc, ◌+◌, ◌-◌, ◌%◌, ◌^◌, ◌≤◌, ◌<◌}
use native.Mathlib.Decide.{ℕ_discrete}
use native.Mathlib.Omega.{arith}
use lib.Dec.{eqb}
use borrow.Author.Tests.{ne_eqb}
use Rattle.bits.proofs.Count.{count_cong}
use Rattle.decoder.specs.declared.Mend.{Mend}
use Rattle.decoder.specs.declared.Mend.TheVariants.{Clean, One, Two, Flagged}
use Rattle.decoder.specs.definitions.Mend.{mend, flag_of}
use Rattle.symbols.specs.definitions.Frame.{arrived}
use Rattle.pilots.specs.definitions.Pilots.{locks}
use Rattle.framing.specs.definitions.Receive.{received_flags}
use Rattle.framing.proofs.Received.{flag_at_lem}
use Rattle.account.specs.declared.Account.{Account}
use Rattle.account.specs.definitions.Account.{Entry}
use Rattle.account.specs.declared.Tallies.{Tallies}
use Rattle.account.specs.declared.Verdict.TheVariants.{NotMeasured}
use Rattle.account.specs.definitions.Account.{frame_limit, ahead, due, counted, tallies_of, total, no_words, grown, over, frame_entered, loss_entered}
use Rattle.account.specs.definitions.Account.{measured, verdict}
use Rattle.account.proofs.Limits.{under, within}
use Rattle.account.proofs.AcceptedEntry.{frame_taken, loss_taken, frame_done}
use Rattle.account.proofs.VerdictMeaning.{measured_means}
use Rattle.account.proofs.Fill.{due_most, brings, fewer_than_two}
use Rattle.account.proofs.Totals.{InTurn, opened_in_turn, frame_in_turn, loss_in_turn}
use Rattle.capture.specs.definitions.Read.{Read}
use Rattle.capture.specs.definitions.Read.{End, Refused, Order, Frame}
use Rattle.capture.specs.definitions.Capture.{read_at, next_of, symbols_at, frame_number}
use Rattle.bench.specs.declared.Run.{Run}
use Rattle.bench.specs.declared.Phase.{Phase}
use Rattle.bench.specs.declared.Phase.TheVariants.{Unordered, Going, Stopped}
use Rattle.bench.specs.definitions.Run.{begun, going, stopped, after_entry, entry_of, framed, order_came, frame_came, halted, came_as, goes_on, verdict_of}
use Rattle.bench.specs.definitions.Walk.{walked}
use Rattle.bench.proofs.Walk.{walked_one, came_stays, refused_stops}
use Rattle.demands.specs.definitions.Verdict.{words_with, words_in}
use Rattle.demands.proofs.Fill.{tallied_free, turn_is}

-- ---- the words of a frame, counted

abbrev frame_tallies : ℕ → List ℕ → Tallies
frame_tallies k f = record { clean = words_with 0 k f; one = words_with 1 k f; two = words_with 2 k f; flagged = words_with 3 k f }

abbrev pub all_tallies : (ℕ → List ℕ) → ℕ → Tallies
all_tallies frames k = record { clean = words_in 0 frames k; one = words_in 1 frames k; two = words_in 2 frames k; flagged = words_in 3 frames k }

flag_most : (m : Mend) → flag_of m ≤ 3
unfolding flag_of
flag_most Clean = omega arith
flag_most (One i) = omega arith
flag_most (Two i j) = omega arith
flag_most Flagged = omega arith

-- a frame that was received brings the words that are due to it
pub words_brought : (a : Account) (got : ℕ) (f : List ℕ) → total (tallies_of a got (received_flags f)) ≡ due a got
words_brought a got f = (brings a got (received_flags f)).1 (λ i l t. rw (flag_at_lem f i l) (flag_most (mend (arrived f i))))

-- frame k of a run, whose number lies k after the start number
module _ (a : Account) (got k : ℕ) (turn : ahead got a.start ≡ k) (f : List ℕ) where
  counts : (v : ℕ) → counted a got (received_flags f) v ≡ words_with v k f
  unfolding counted words_with
  counts v = count_cong 384 _ _ (λ i l. ap₂ ◌&&◌ (tallied_free a got k i turn l) (ap (λ (x : ℕ). eqb x v) (flag_at_lem f i l)))

  tallies_are : tallies_of a got (received_flags f) ≡ frame_tallies k f
  tallies_are = rw (counts 0, counts 1, counts 2, counts 3) refl

  words_due : total (frame_tallies k f) ≡ due a got
  words_due = ap total (sym tallies_are) ∙ words_brought a got f

-- ---- frames in their turn

module _ (start : ℕ) (frames : ℕ → List ℕ) where
  -- the account after k frames in their turn
  abbrev pub all_accepted : ℕ → Account
  all_accepted k = record { expected = frame_number start k; start = start; accepted = k; missing = 0; words = all_tallies frames k }

  not_ahead : (k : ℕ) → ◌≡◌ {A = ℕ} 0 (ahead (frame_number start k) (frame_number start k))
  unfolding ahead
  not_ahead k = omega arith

  next_account : (k : ℕ) → all_accepted (suc k) ≡ grown (all_accepted k) (frame_number start k) 1 0 (frame_tallies k (frames k))
  unfolding words_in
  next_account k =
      let e : frame_number start (suc k) ≡ (frame_number start k + 1) % 2 ^ 32 = omega arith in
      let n : suc k ≡ k + 1 = omega arith in
      λ i. record { expected = e i; start = start; accepted = n i; missing = 0; words = all_tallies frames (suc k) }

  module _ (hs : start < 2 ^ 32) where
    its_turn : (k : ℕ) → k < frame_limit → ahead (frame_number start k) start ≡ k
    its_turn k h = turn_is start k hs (omega arith)

    -- the next is entered, since what the tallies total keeps each of them within its limit
    entered_next : (k : ℕ) → k < frame_limit → InTurn (all_accepted k)
        → record { refusal = 0; account = all_accepted (suc k) } ≡ frame_entered (all_accepted k) (frame_number start k) (frame_tallies k (frames k))
    entered_next k h I =
        ap (λ (a : Account). record { refusal = 0; account = a }) (next_account k)
        ∙ frame_done (all_accepted k) (frame_number start k) (frame_tallies k (frames k)) 0 (not_ahead k) refl limits
        (words_due (all_accepted k) (frame_number start k) k (its_turn k h) (frames k))
      where
        limits : over (grown (all_accepted k) (frame_number start k) 1 0 (frame_tallies k (frames k))) ≡ false
        limits =
            let (x, s, c) = I.totals.lacking in
            let d = words_due (all_accepted k) (frame_number start k) k (its_turn k h) (frames k) in
            let m = due_most (all_accepted k) (frame_number start k) in
            within (grown (all_accepted k) (frame_number start k) 1 0 (frame_tallies k (frames k))) (omega arith) (omega arith) (omega arith) (omega arith)
            (omega arith) (omega arith)

    pub all_in_turn : (k : ℕ) → k ≤ frame_limit → InTurn (all_accepted k)
    unfolding words_in
    all_in_turn zero h = subst (λ (n : ℕ). InTurn (record { expected = n; start = start; accepted = 0; missing = 0; words = no_words })) (omega arith)
        (opened_in_turn start)
    all_in_turn (suc k) h =
        let I = all_in_turn k (omega arith) in
        let e = entered_next k h I in
        subst (λ (x : Entry). InTurn x.account) (sym e)
        (frame_in_turn (all_accepted k) (frame_number start k) I (frame_tallies k (frames k)) (ap (λ (x : Entry). x.refusal) (sym e)))

module _ (start asked allowed : ℕ) (frames : ℕ → List ℕ) where
  -- the run after an order and k frames in their turn
  abbrev pub after : ℕ → Run
  after k = record { phase = Going; asked = asked; allowed = allowed; account = all_accepted start frames k }

  pub framed_next : start < 2 ^ 32 → (k : ℕ) → k < frame_limit → locks (frames k) 0 ≡ true → framed (after k) (frame_number start k) (frames k) ≡ after (suc k)
  unfolding entry_of
  framed_next hs k h l =
      rw (
        l,
        tallies_are (all_accepted start frames k) (frame_number start k) k (its_turn start frames hs k h) (frames k),
        sym (entered_next start frames hs k h (all_in_turn start frames hs k (omega arith))),
      )
      refl

-- ---- a run that loses its turn once

-- stopped, or with a frame missing
abbrev pub Lost : Run → Type 0
Lost run = (run.phase ≡ Stopped) ⊎ ((run.phase ≡ Going) × (1 ≤ run.account.missing))

-- an entry in a run that goes on: it is refused and stops the run, or the account has the frames missing that it should have
entry_lost : (run : Run) (e : Entry) → (e.refusal ≡ 0 → 1 ≤ e.account.missing) → Lost (after_entry run e)
entry_lost run e h = go (ℕ_discrete e.refusal 0)
  where
    go : Dec (e.refusal ≡ 0) → Lost (after_entry run e)
    go (yes z) = rw z (inr (refl, h z))
    go (no n) = rw (ne_eqb e.refusal 0 n) (inl refl)

frame_missing : (a : Account) (got : ℕ) (t : Tallies) → 1 ≤ a.missing + ahead got a.expected → (frame_entered a got t).refusal ≡ 0
    → 1 ≤ (frame_entered a got t).account.missing
frame_missing a got t h z = rw (frame_taken a got t z).taken h

loss_missing : (a : Account) (got : ℕ) → (loss_entered a got).refusal ≡ 0 → 1 ≤ (loss_entered a got).account.missing
loss_missing a got z = rw (loss_taken a got z).taken (omega arith)

framed_lost : (run : Run) (got : ℕ) (f : List ℕ) → (1 ≤ run.account.missing + ahead got run.account.expected) ⊎ (locks f 0 ≡ false)
    → Lost (framed run got f)
unfolding entry_of
framed_lost run got f h = go (locks f 0) refl h
  where
    lost : Lost (after_entry run (loss_entered run.account got))
    lost = entry_lost run (loss_entered run.account got) (loss_missing run.account got)

    go : (l : Bool) → locks f 0 ≡ l → (1 ≤ run.account.missing + ahead got run.account.expected) ⊎ (locks f 0 ≡ false) → Lost (framed run got f)
    go false e c = rw e lost
    go true e (inl m) =
        rw e
        (entry_lost run (frame_entered run.account got (tallies_of run.account got (received_flags f)))
        (frame_missing run.account got (tallies_of run.account got (received_flags f)) m))
    go true e (inr n) = absurd (false≢true (sym n ∙ e))

came_lost : (read : Read) (run : Run) (s : List ℕ) → run.phase ≡ Going → 1 ≤ run.account.missing → Lost (came_as read run s)
unfolding came_as order_came frame_came
came_lost End run s g m = inr (g, m)
came_lost (Refused refusal) run s g m = inl (refused_stops run s refusal)
came_lost (Order start asked allowed next) run s g m = rw g (inl refl)
came_lost (Frame number from next) run s g m =
    subst (λ (p : Phase). Lost (frame_came p run number (symbols_at s from))) (sym g) (framed_lost run number (symbols_at s from) (inl (omega arith)))

-- never finds it again
pub walked_lost : (n : ℕ) (s : List ℕ) (i : ℕ) (run : Run) → Lost run → Lost (walked n s i run)
unfolding walked
walked_lost zero s i run h = h
walked_lost (suc n) s i run (inl p) = walked_lost n s (next_of (read_at s i) i) (came_as (read_at s i) run s) (rw (came_stays run p (read_at s i) s) (inl p))
walked_lost (suc n) s i run (inr (g, m)) = walked_lost n s (next_of (read_at s i) i) (came_as (read_at s i) run s) (came_lost (read_at s i) run s g m)

-- and is never measured
pub lost_never : (run : Run) (asked : ℕ) → Lost run → goes_on run.phase ≡ true → measured asked run.account ≡ true → ⊥
unfolding goes_on
lost_never run asked (inl p) g m = false≢true (ap goes_on (sym p) ∙ g)
lost_never run asked (inr (q, h)) g m = let z = (measured_means asked run.account m).none_missing in omega arith

-- a number that is not the expected one lies ahead of it
other : (number m : ℕ) → number < 2 ^ 32 → number ≢ m % 2 ^ 32 → 1 ≤ 0 + ahead number (m % 2 ^ 32)
unfolding ahead
other number m h n = at (ℕ_discrete ((number + (2 ^ 32 - m % 2 ^ 32)) % 2 ^ 32) 0)
  where
    at : Dec ((number + (2 ^ 32 - m % 2 ^ 32)) % 2 ^ 32 ≡ 0) → 1 ≤ 0 + (number + (2 ^ 32 - m % 2 ^ 32)) % 2 ^ 32
    at (yes z) = absurd (n (omega arith))
    at (no z) = omega arith

-- a refused frame stops the run
refused_lost : (run : Run) (got : ℕ) (f : List ℕ) → locks f 0 ≡ true
    → (frame_entered run.account got (tallies_of run.account got (received_flags f))).refusal ≢ 0
    → Lost (framed run got f)
unfolding entry_of
refused_lost run got f l n = rw (l, ne_eqb _ 0 n) (inl refl)

-- a frame that comes after k frames in their turn: it is the next one, or the turn is lost
module _ (start asked allowed : ℕ) (frames : ℕ → List ℕ) where
  pub next_or_lost : (k number : ℕ) (f : List ℕ) → number < 2 ^ 32
      → Lost (framed (after start asked allowed frames k) number f) ⊎ ((number ≡ frame_number start k) × (locks f 0 ≡ true) × (k < frame_limit))
  next_or_lost k number f h = go (locks f 0) refl (ℕ_discrete number (frame_number start k)) (ℕ_discrete e.refusal 0)
    where
      a : Account
      a = all_accepted start frames k

      e : Entry
      e = frame_entered a number (tallies_of a number (received_flags f))

      ahead_of : number ≢ frame_number start k → 1 ≤ 0 + ahead number (frame_number start k)
      ahead_of n = other number (start + k) h n

      go : (l : Bool) → locks f 0 ≡ l → Dec (number ≡ frame_number start k) → Dec (e.refusal ≡ 0)
          → Lost (framed (after start asked allowed frames k) number f) ⊎ ((number ≡ frame_number start k) × (locks f 0 ≡ true) × (k < frame_limit))
      go false l d r = inl (framed_lost (after start asked allowed frames k) number f (inr l))
      go true l (no n) r = inl (framed_lost (after start asked allowed frames k) number f (inl (ahead_of n)))
      go true l (yes n) (yes z) = inr (n, l, (let u = (under _ (frame_taken a number (tallies_of a number (received_flags f)) z).within).0 in omega arith))
      go true l (yes n) (no z) = inl (refused_lost (after start asked allowed frames k) number f l z)

-- ---- what the tallies total, in every run

abbrev Counted : Run → Type 0
Counted run = InTurn run.account

entry_counted : (run : Run) (e : Entry) → Counted run → (e.refusal ≡ 0 → InTurn e.account) → Counted (after_entry run e)
entry_counted run e C h = go (ℕ_discrete e.refusal 0)
  where
    go : Dec (e.refusal ≡ 0) → Counted (after_entry run e)
    go (yes z) = rw z (h z)
    go (no n) = rw (ne_eqb e.refusal 0 n) C

framed_counted : (run : Run) (got : ℕ) (f : List ℕ) → Counted run → Counted (framed run got f)
unfolding entry_of
framed_counted run got f C = go (locks f 0) refl
  where
    a : Account
    a = run.account

    t : Tallies
    t = tallies_of a got (received_flags f)

    go : (l : Bool) → locks f 0 ≡ l → Counted (framed run got f)
    go true e = rw e (entry_counted run (frame_entered a got t) C (frame_in_turn a got C t))
    go false e = rw e (entry_counted run (loss_entered a got) C (loss_in_turn a got C))

order_counted : (p : Phase) (run : Run) (start asked allowed : ℕ) → Counted run → Counted (order_came p run start asked allowed)
unfolding order_came
order_counted Unordered run start asked allowed C = opened_in_turn start
order_counted Going run start asked allowed C = C
order_counted Stopped run start asked allowed C = C

frame_counted : (p : Phase) (run : Run) (got : ℕ) (f : List ℕ) → Counted run → Counted (frame_came p run got f)
unfolding frame_came
frame_counted Unordered run got f C = C
frame_counted Going run got f C = framed_counted run got f C
frame_counted Stopped run got f C = C

halted_counted : (p : Phase) (run : Run) → Counted run → Counted (halted p run)
unfolding halted
halted_counted Unordered run C = C
halted_counted Going run C = C
halted_counted Stopped run C = C

came_counted : (read : Read) (run : Run) (s : List ℕ) → Counted run → Counted (came_as read run s)
unfolding came_as
came_counted End run s C = C
came_counted (Refused refusal) run s C = halted_counted run.phase run C
came_counted (Order start asked allowed next) run s C = order_counted run.phase run start asked allowed C
came_counted (Frame number from next) run s C = frame_counted run.phase run number (symbols_at s from) C

pub walked_counted : (n : ℕ) (s : List ℕ) (i : ℕ) (run : Run) → Counted run → Counted (walked n s i run)
unfolding walked
walked_counted zero s i run C = C
walked_counted (suc n) s i run C = walked_counted n s (next_of (read_at s i) i) (came_as (read_at s i) run s) (came_counted (read_at s i) run s C)

-- ---- an order for fewer than two frames

-- an order came
is_ordered : Phase → Bool
is_ordered Unordered = false
is_ordered Going = true
is_ordered Stopped = true

-- and it was for fewer than two: no later one is heeded
abbrev Few : Run → Type 0
Few run = (run.asked < 2) × (is_ordered run.phase ≡ true)

entry_few : (run : Run) (e : Entry) → run.asked < 2 → Few (after_entry run e)
unfolding is_ordered
entry_few run e h = go (eqb e.refusal 0)
  where
    go : (b : Bool) → Few (cond b (going run e.account) (stopped run))
    go true = (h, refl)
    go false = (h, refl)

came_few : (read : Read) (p : Phase) (run : Run) (s : List ℕ) → run.phase ≡ p → Few run → Few (came_as read run s)
unfolding came_as halted order_came frame_came is_ordered
came_few End p run s e F = F
came_few (Refused refusal) Unordered run s e F = rw e (F.0, refl)
came_few (Order start asked allowed next) Unordered run s e F = absurd (false≢true (ap is_ordered (sym e) ∙ F.1))
came_few (Frame number from next) Unordered run s e F = rw e (F.0, refl)
came_few (Refused refusal) Going run s e F = rw e (F.0, refl)
came_few (Refused refusal) Stopped run s e F = rw e (F.0, refl)
came_few (Order start asked allowed next) Going run s e F = rw e (F.0, refl)
came_few (Order start asked allowed next) Stopped run s e F = rw e (F.0, refl)
came_few (Frame number from next) Going run s e F =
    subst (λ (p : Phase). Few (frame_came p run number (symbols_at s from))) (sym e) (entry_few run (entry_of run.account number (symbols_at s from)) F.0)
came_few (Frame number from next) Stopped run s e F = rw e (F.0, refl)

walked_few : (n : ℕ) (s : List ℕ) (i : ℕ) (run : Run) → Few run → Few (walked n s i run)
unfolding walked
walked_few zero s i run F = F
walked_few (suc n) s i run F =
    walked_few n s (next_of (read_at s i) i) (came_as (read_at s i) run s) (came_few (read_at s i) run.phase run s refl F)

pub ordered_few : (s : List ℕ) (start asked allowed next : ℕ) → read_at s 0 ≡ Order start asked allowed next → asked < 2
    → (n : ℕ) → verdict_of (walked n s 0 begun) ≡ NotMeasured
unfolding verdict_of goes_on verdict walked came_as order_came is_ordered
ordered_few s start asked allowed next e h zero = refl
ordered_few s start asked allowed next e h (suc n) =
    ap verdict_of (walked_one n s 0 begun (Order start asked allowed next) e)
    ∙ (let run = walked n s next (came_as (Order start asked allowed next) begun s) in
    fewer_than_two run.asked run.allowed run.account (not (goes_on run.phase))
    (walked_few n s next (came_as (Order start asked allowed next) begun s) (h, refl)).0)
