-- A host that calls receiving, the account and the verdict itself is answered the verdict of the capture's run.
-- Assumes nothing.
use mathlib.Core.Path.{◌≡◌, refl, sym, ap, ◌∙◌, subst}
use mathlib.Core.Bool.{not}
use mathlib.Core.Logic.{◌≢◌, ◌⊎◌, inl, inr, ◌↔◌}
use mathlib.Core.List.{List, [], ◌∷◌, append_assoc}
use Prim.Native.Nat.{ℕ, zero, suc, ◌<◌, ◌≤◌}
use native.Mathlib.Decide.{ℕ_discrete}
use native.Mathlib.Omega.{arith}
use lib.Dec.{eqb}
use lib.ListN.{length, take, drop, replicate, length-replicate}
use borrow.Author.Tests.{ne_eqb}
use Rattle.bits.specs.definitions.Call.{after}
use Rattle.framing.specs.definitions.Places.{base}
use Rattle.framing.specs.definitions.Receive.{received_store, received_lanes, received_flags, receive_number, Receives}
use Rattle.account.specs.declared.Account.{Account}
use Rattle.account.specs.definitions.Account.{opened, loss_entered, measured, verdict, verdict_number}
use Rattle.capture.specs.definitions.Read.{Read}
use Rattle.capture.specs.definitions.Read.{End, Refused, Order, Frame}
use Rattle.capture.specs.definitions.Capture.{read_at, wanted, order_record, frame_records}
use Rattle.bench.specs.declared.Run.{Run}
use Rattle.bench.specs.declared.Phase.TheVariants.{Going, Stopped}
use Rattle.bench.specs.definitions.Run.{after_entry, entry_of, order_came, frame_came, came_as, stepped, goes_on, verdict_of}
use Rattle.bench.specs.definitions.Walk.{cut, pieces, through, examined}
use Rattle.bench.proofs.Walk.{end, refused_stops, through_stays, step_piece, pieces_first}
use Rattle.adderbloom.specs.definitions.Entry.{flags_entered}
use Rattle.demands.specs.definitions.Verdict.{Arrived}
use Rattle.demands.specs.definitions.Host.{VerdictDue, OwnAccount}
use Rattle.demands.specs.statements.Host.{OwnVerdict, ToldStopped}
use Rattle.demands.proofs.Arriving.{run_after, onward_frames}
use Rattle.demands.proofs.Verdict.{stopped_unmeasured}
use Rattle.demands.proofs.Walked.{up_to}
use Rattle.demands.proofs.Entered.{known, entered, lost}
use Rattle.demands.proofs.Host.{due}

-- ---- the capture's run

second_order : (r : Run) (s : List ℕ) → r.phase ≡ Going → (start asked allowed next : ℕ) → (came_as (Order start asked allowed next) r s).phase ≡ Stopped
unfolding came_as order_came
second_order r s g start asked allowed next = rw g refl

module _ (s : List ℕ) (a : Arrived s) where
  -- after k frames
  abbrev after_frames : ℕ → Run
  after_frames k = run_after a.start a.asked a.allowed a.numbers a.frames k

  comes_to : examined s ≡ through (after_frames a.n) (pieces a.rest)
  comes_to =
      ap examined (a.capture ∙ sym (append_assoc (order_record a.start a.asked a.allowed) (frame_records a.numbers a.frames a.n) a.rest))
      ∙ sym (onward_frames a.start a.asked a.allowed a.numbers a.frames a.small a.n a.whole a.rest)

  -- once it is stopped it stays so
  stays_one : (k : ℕ) → (after_frames k).phase ≡ Stopped → (after_frames (suc k)).phase ≡ Stopped
  unfolding run_after frame_came
  stays_one k h = rw h refl

  stays : (k n : ℕ) → k ≤ n → (after_frames k).phase ≡ Stopped → (after_frames n).phase ≡ Stopped
  stays k zero l h = subst (λ (m : ℕ). (after_frames m).phase ≡ Stopped) (omega arith) h
  stays k (suc n) l h = go (ℕ_discrete k (suc n)) (λ m. stays k n m h)
    where
      go : Dec (k ≡ suc n) → (k ≤ n → (after_frames n).phase ≡ Stopped) → (after_frames (suc n)).phase ≡ Stopped
      go (yes e) IH = subst (λ (m : ℕ). (after_frames m).phase ≡ Stopped) e h
      go (no e) IH = stays_one n (IH (omega arith))

  stopped_run : (k : ℕ) → k ≤ a.n → (after_frames k).phase ≡ Stopped → (examined s).phase ≡ Stopped
  stopped_run k l h =
      let e = stays k a.n l h in
      ap (λ (r : Run). r.phase) (comes_to ∙ through_stays (after_frames a.n) e (pieces a.rest)) ∙ e

  -- and what stands behind the frames stops it
  rest_stops : 0 < length a.rest → (after_frames a.n).phase ≡ Going → (examined s).phase ≡ Stopped
  unfolding through
  rest_stops some g =
      let p = take (wanted a.rest) a.rest in
      let r = stepped (after_frames a.n) p in
      let first : examined s ≡ through r (pieces (drop (wanted a.rest) a.rest)) =
      comes_to ∙ ap (through (after_frames a.n)) (pieces_first a.rest some) in
      let halt : r.phase ≡ Stopped = ap (λ (x : Run). x.phase) (step_piece (after_frames a.n) a.rest) ∙ no_frame (read_at a.rest 0) refl in
      ap (λ (x : Run). x.phase) (first ∙ through_stays r halt (pieces (drop (wanted a.rest) a.rest))) ∙ halt
    where
      no_frame : (x : Read) → read_at a.rest 0 ≡ x → (came_as x (after_frames a.n) a.rest).phase ≡ Stopped
      no_frame End e = absurd (let l = end a.rest 0 e in omega arith)
      no_frame (Refused refusal) e = refused_stops (after_frames a.n) a.rest refusal
      no_frame (Order start asked allowed next) e = second_order (after_frames a.n) a.rest g start asked allowed next
      no_frame (Frame number from next) e = absurd (a.no_frame number from next e)

-- ---- the host's calls

-- a run that was stopped is not measured, nor is what a host says is stopped
not_measured : (r : Run) → r.phase ≡ Stopped → verdict_number (verdict_of r) ≡ 0
unfolding verdict_number
not_measured r h = ap verdict_number (stopped_unmeasured r h)

pub told_stopped : ToldStopped
unfolding verdict verdict_number
told_stopped asked allowed n a h = rw (ne_eqb n 0 h) refl

empty : (r : Run) → through r (pieces []) ≡ r
unfolding pieces cut through
empty r = refl

-- the verdict on a run's numbers does not ask which number is expected
told_going : (asked allowed n : ℕ) (a : Account) → n ≡ 0
    → verdict_number (verdict asked allowed (record { expected = 0; start = 0; accepted = a.accepted; missing = a.missing; words = a.words }) (not (eqb n 0)))
    ≡ verdict_number (verdict_of (record { phase = Going; asked = asked; allowed = allowed; account = a }))
unfolding verdict measured verdict_of goes_on
told_going asked allowed n a z = rw z refl

module _ (s : List ℕ) (a : Arrived s) (answer : ℕ) (O : OwnAccount a answer) where
  -- the run with the host's account
  abbrev with_account : ℕ → Run
  with_account k = record { phase = Going; asked = a.asked; allowed = a.allowed; account = O.accounts k }

  entry_is : (k : ℕ) → k < O.calls → entry_of (O.accounts k) (a.numbers k) (a.frames k) ≡ record { refusal = O.refusals k; account = O.accounts (suc k) }
  entry_is k h =
      let l = O.inside in
      let w = (a.whole k (omega arith)).1 in
      let R = O.received k h in
      go (known _ _ _ _ _ _ _ _ R w (O.lent k h) (O.accounts k) (a.numbers k))
      (entered _ _ _ _ _ _ _ _ R w (O.lent k h) (O.accounts k) (a.numbers k)) (lost _ _ _ _ _ _ _ _ R w (O.lent k h) (O.accounts k) (a.numbers k))
    where
      go : (O.answers k ≡ 0) ⊎ (O.answers k ≡ 5)
          → (O.answers k ≡ 0 → entry_of (O.accounts k) (a.numbers k) (a.frames k) ≡ flags_entered (O.accounts k) (a.numbers k) (O.flags k))
          → (O.answers k ≡ 5 → entry_of (O.accounts k) (a.numbers k) (a.frames k) ≡ loss_entered (O.accounts k) (a.numbers k))
          → entry_of (O.accounts k) (a.numbers k) (a.frames k) ≡ record { refusal = O.refusals k; account = O.accounts (suc k) }
      go (inl z) E L = E z ∙ sym (O.enters k h z)
      go (inr z) E L = L z ∙ sym (O.loses k h z)

  -- so far nothing was refused and the run has the host's account, or an entry was refused and the run is stopped
  so_far : (k : ℕ) → k ≤ O.calls
      → (((j : ℕ) → j < k → O.refusals j ≡ 0) × (after_frames s a k ≡ with_account k))
      ⊎ (((after_frames s a k).phase ≡ Stopped) × ((j : ℕ) × (j < k) × (O.refusals j ≢ 0)))
  unfolding run_after frame_came
  so_far zero h =
      inl (λ j l. absurd (omega arith), ap (λ (x : Account). record { phase = Going; asked = a.asked; allowed = a.allowed; account = x }) (sym O.opens))
  so_far (suc k) h = go (so_far k (omega arith)) (ℕ_discrete (O.refusals k) 0)
    where
      next : after_frames s a k ≡ with_account k
          → after_frames s a (suc k) ≡ after_entry (with_account k) (record { refusal = O.refusals k; account = O.accounts (suc k) })
      next e =
          ap (λ (r : Run). frame_came r.phase r (a.numbers k) (a.frames k)) e ∙ ap (after_entry (with_account k)) (entry_is k (omega arith))

      go : (((j : ℕ) → j < k → O.refusals j ≡ 0) × (after_frames s a k ≡ with_account k))
          ⊎ (((after_frames s a k).phase ≡ Stopped) × ((j : ℕ) × (j < k) × (O.refusals j ≢ 0)))
          → Dec (O.refusals k ≡ 0)
          → (((j : ℕ) → j < suc k → O.refusals j ≡ 0) × (after_frames s a (suc k) ≡ with_account (suc k)))
          ⊎ (((after_frames s a (suc k)).phase ≡ Stopped) × ((j : ℕ) × (j < suc k) × (O.refusals j ≢ 0)))
      go (inl (all, e)) (yes z) = inl (up_to k all z, next e ∙ rw z refl)
      go (inl (all, e)) (no n) = inr (ap (λ (r : Run). r.phase) (next e) ∙ rw (ne_eqb (O.refusals k) 0 n) refl, (k, omega arith, n))
      go (inr (e, (j, l, n))) d = inr (stays_one s a k e, (j, omega arith, n))

  answers : answer ≡ verdict_number (verdict_of (examined s))
  answers = O.asks ∙ go (so_far O.calls (omega arith)) (ℕ_discrete (length a.rest) 0) (ℕ_discrete O.stopped 0)
    where
      account : Account
      account =
          let last = O.accounts O.calls in record { expected = 0; start = 0; accepted = last.accepted; missing = last.missing; words = last.words }

      said : ℕ
      said = verdict_number (verdict a.asked a.allowed account (not (eqb O.stopped 0)))

      -- both are not measured
      neither : O.stopped ≢ 0 → (examined s).phase ≡ Stopped → said ≡ verdict_number (verdict_of (examined s))
      neither n h = told_stopped a.asked a.allowed O.stopped account n ∙ sym (not_measured (examined s) h)

      last : ((j : ℕ) → j < O.calls → O.refusals j ≡ 0) → (O.calls ≡ a.n) ⊎ ((k : ℕ) × (k < O.calls) × (O.refusals k ≢ 0)) → O.calls ≡ a.n
      last all (inl e) = e
      last all (inr (k, l, n)) = absurd (n (all k l))

      none : (l : List ℕ) → length l ≡ 0 → l ≡ []
      none [] z = refl
      none (x ∷ xs) z = absurd (omega arith)

      go : (((j : ℕ) → j < O.calls → O.refusals j ≡ 0) × (after_frames s a O.calls ≡ with_account O.calls))
          ⊎ (((after_frames s a O.calls).phase ≡ Stopped) × ((j : ℕ) × (j < O.calls) × (O.refusals j ≢ 0)))
          → Dec (length a.rest ≡ 0) → Dec (O.stopped ≡ 0) → said ≡ verdict_number (verdict_of (examined s))
      go (inr (h, (j, l, n))) r d = neither (λ z. n ((O.stops.0 z).0 j l)) (stopped_run s a O.calls O.inside h)
      go (inl (all, e)) (no r) d =
          neither (λ z. r (ap length (O.stops.0 z).1))
          (rest_stops s a (omega arith) (ap (λ (r : Run). r.phase) (ap (after_frames s a) (sym (last all O.enough)) ∙ e)))
      go (inl (all, e)) (yes r) (no d) = absurd (d (O.stops.1 (all, none a.rest r)))
      go (inl (all, e)) (yes r) (yes d) =
          told_going a.asked a.allowed O.stopped (O.accounts O.calls) d
          ∙ ap (λ (x : Run). verdict_number (verdict_of x))
          (sym (comes_to s a ∙ ap (λ (x : List ℕ). through (after_frames s a a.n) (pieces x)) (none a.rest r) ∙ empty (after_frames s a a.n)
          ∙ ap (after_frames s a) (sym (last all O.enough)) ∙ e))

-- ---- they exist

-- whether all of n numbers are 0
all_zero : (n : ℕ) (f : ℕ → ℕ) → Dec ((k : ℕ) → k < n → f k ≡ 0)
all_zero zero f = yes (λ k l. absurd (omega arith))
all_zero (suc n) f = go (all_zero n f) (ℕ_discrete (f n) 0)
  where
    go : Dec ((k : ℕ) → k < n → f k ≡ 0) → Dec (f n ≡ 0) → Dec ((k : ℕ) → k < suc n → f k ≡ 0)
    go (yes h) (yes z) = yes (up_to n h z)
    go (yes h) (no z) = no (λ x. z (x n (omega arith)))
    go (no h) d = no (λ x. h (λ k l. x k (omega arith)))

module _ (s : List ℕ) (a : Arrived s) where
  -- the account before each frame, and what each entry answers
  accounts_of : ℕ → Account
  accounts_of zero = opened a.start
  accounts_of (suc k) = (entry_of (accounts_of k) (a.numbers k) (a.frames k)).account

  refusals_of : ℕ → ℕ
  refusals_of k = (entry_of (accounts_of k) (a.numbers k) (a.frames k)).refusal

  -- `stopped`, as it must be
  stop : Dec (((k : ℕ) → k < a.n → refusals_of k ≡ 0) × (a.rest ≡ []))
  stop = go (all_zero a.n refusals_of) a.rest refl
    where
      go : Dec ((k : ℕ) → k < a.n → refusals_of k ≡ 0) → (l : List ℕ) → a.rest ≡ l → Dec (((k : ℕ) → k < a.n → refusals_of k ≡ 0) × (a.rest ≡ []))
      go (yes h) [] e = yes (h, e)
      go (yes h) (x ∷ xs) e = no (λ y. let z = ap length (sym e ∙ y.1) in omega arith)
      go (no h) l e = no (λ y. h y.0)

  abbrev fresh : ℕ → List ℕ
  fresh n = replicate n 0

  own : (n : ℕ) → (n ≡ 0) ↔ (((k : ℕ) → k < a.n → refusals_of k ≡ 0) × (a.rest ≡ [])) → (answer : ℕ) × OwnAccount a answer
  unfolding accounts_of refusals_of
  own n is = (
    _,
    record {
      calls = a.n;
      inside = omega arith;
      stores = λ k. fresh 2880;
      outs = λ k. fresh 5280;
      flag_buffers = λ k. fresh 384;
      lent = λ k h. (length-replicate {A = ℕ} 2880 0, length-replicate {A = ℕ} 5280 0, length-replicate {A = ℕ} 384 0);
      answers = numbers;
      kept = λ k. after (numbers k) (received_store (a.frames k) (fresh 2880)) (fresh 2880);
      lanes = λ k. after (numbers k) (received_lanes base (a.frames k) (fresh 2880)) (fresh 5280);
      flags = λ k. after (numbers k) (received_flags (a.frames k)) (fresh 384);
      received = received;
      accounts = accounts_of;
      refusals = refusals_of;
      opens = refl;
      enters = λ k h z. entered _ _ _ _ _ _ _ _ (received k h) (a.whole k h).1 lent (accounts_of k) (a.numbers k) z;
      loses = λ k h z. lost _ _ _ _ _ _ _ _ (received k h) (a.whole k h).1 lent (accounts_of k) (a.numbers k) z;
      enough = inl refl;
      stopped = n;
      stops = is;
      asks = refl;
    },
  )
    where
      numbers : ℕ → ℕ
      numbers k = receive_number (a.frames k) (fresh 2880) (fresh 5280) (fresh 384)

      lent : (length (fresh 2880) ≡ 2880) × (length (fresh 5280) ≡ 5280) × (length (fresh 384) ≡ 384)
      lent = (length-replicate {A = ℕ} 2880 0, length-replicate {A = ℕ} 5280 0, length-replicate {A = ℕ} 384 0)

      received : (k : ℕ) → k < a.n
          → Receives base (a.frames k) (fresh 2880) (fresh 5280) (fresh 384) (numbers k)
          (after (numbers k) (received_store (a.frames k) (fresh 2880)) (fresh 2880))
          (after (numbers k) (received_lanes base (a.frames k) (fresh 2880)) (fresh 5280)) (after (numbers k) (received_flags (a.frames k)) (fresh 384))
      received k h = record { number = refl; store = refl; output = refl; flags = refl }

  exists : (answer : ℕ) × OwnAccount a answer
  exists = go stop
    where
      go : Dec (((k : ℕ) → k < a.n → refusals_of k ≡ 0) × (a.rest ≡ [])) → (answer : ℕ) × OwnAccount a answer
      go (yes h) = own 0 (λ _. h, λ _. refl)
      go (no h) = own 1 (λ z. absurd (omega arith), λ y. absurd (h y))

pub own_verdict : OwnVerdict
own_verdict = (λ s a answer O. (answers s a answer O, λ B. subst (VerdictDue s) (sym (answers s a answer O)) (due s (examined s) B refl)), exists)
