-- What entries keep and add, by whether they are refused: `RefusedKeeps`, `AddsDue` and `KeptFromOrder`.
-- Assumes nothing.
use Rattle.std.proofs.Common.{◌≡◌, ℕ, zero, suc, ◌+◌, ◌%◌, ◌^◌, ◌<◌, Bool, true, false, cond, ◌≢◌, sym, refl, ap, ◌∙◌, subst, add-zero, arith, ne_eqb}
use native.Mathlib.Decide.{ℕ_discrete}
use Rattle.account.specs.definitions.Account.{total, no_words, added, ahead, frame_entered, loss_entered}
use Rattle.account.specs.definitions.Kept.{account_after}
use Rattle.account.specs.statements.Kept.{KeptFromOrder, RefusedKeeps}
use Rattle.account.specs.statements.Fill.{AddsDue}
use Rattle.account.specs.declared.Account.{Account}
use Rattle.account.specs.definitions.Account.{Entry}
use Rattle.account.specs.declared.Tallies.{Tallies}
use Rattle.account.proofs.AcceptedEntry.{frame_taken, loss_taken}
use Rattle.account.proofs.Totals.{InTurn, opened_in_turn, frame_in_turn, loss_in_turn}

-- ---- one entry

pub refused_keeps : RefusedKeeps
unfolding frame_entered loss_entered
refused_keeps a got = (λ t n. rw (ne_eqb _ 0 n) refl, λ n. rw (ne_eqb _ 0 n) refl)

-- the next number after d more
next_number : (start n e got : ℕ) → e ≡ (start + n) % 2 ^ 32 → got < 2 ^ 32 → (got + 1) % 2 ^ 32 ≡ (start + n + 1 + ahead got e) % 2 ^ 32
unfolding ahead
next_number start n e got h l = omega arith

-- what an account keeps, where an entry is refused or taken
entry_keeps : (P : Account → Type 0) (a : Account) (e : Entry) → P a → (e.refusal ≢ 0 → e.account ≡ a) → (e.refusal ≡ 0 → P e.account)
    → P e.account
entry_keeps P a e p old new = go (ℕ_discrete e.refusal 0)
  where
    go : Dec (e.refusal ≡ 0) → P e.account
    go (yes z) = new z
    go (no n) = subst P (sym (old n)) p

pub adds_due : AddsDue
adds_due a got = (
  λ t. (
    λ z. let T = frame_taken a got t z in ap (λ (x : Account). total x.words) T.taken ∙ (let d = T.all_due in omega arith),
    entry_keeps (λ x. x.start ≡ a.start) a (frame_entered a got t) refl ((refused_keeps a got).0 t) (λ z. rw (frame_taken a got t z).taken refl),
  ),
  entry_keeps (λ x. x.words ≡ a.words) a (loss_entered a got) refl (refused_keeps a got).1 (λ z. rw (loss_taken a got z).taken none),
  entry_keeps (λ x. x.start ≡ a.start) a (loss_entered a got) refl (refused_keeps a got).1 (λ z. rw (loss_taken a got z).taken refl),
)
  where
    none : added a.words no_words ≡ a.words
    none =
        let w = a.words in
        λ i. record { clean = add-zero w.clean i; one = add-zero w.one i; two = add-zero w.two i; flagged = add-zero w.flagged i }

-- the account follows on, and its frames come in their turn
abbrev Kept : ℕ → Account → Type 0
Kept start a = (a.start ≡ start) × (a.expected ≡ (start + a.accepted + a.missing) % 2 ^ 32) × InTurn a

module _ (start : ℕ) (a : Account) (got : ℕ) (l : got < 2 ^ 32) (K : Kept start a) where
  -- one frame more, accepted or missing, and the d before it
  numbers_on : (k m : ℕ) → k + m ≡ 1 + ahead got a.expected → (got + 1) % 2 ^ 32 ≡ (start + (a.accepted + k) + (a.missing + m)) % 2 ^ 32
  numbers_on k m d = let n = next_number start (a.accepted + a.missing) a.expected got (let z = K.1 in omega arith) l in omega arith

  frame_kept : (t : Tallies) → Kept start (frame_entered a got t).account
  frame_kept t =
      entry_keeps (Kept start) a (frame_entered a got t) K ((refused_keeps a got).0 t)
      (λ z. (
        rw (frame_taken a got t z).taken K.0,
        rw (frame_taken a got t z).taken (numbers_on 1 (ahead got a.expected) refl),
        frame_in_turn a got K.2 t z,
      ))

  loss_kept : Kept start (loss_entered a got).account
  loss_kept =
      entry_keeps (Kept start) a (loss_entered a got) K (refused_keeps a got).1
      (λ z. (
        rw (loss_taken a got z).taken K.0,
        rw (loss_taken a got z).taken (numbers_on 0 (ahead got a.expected + 1) (omega arith)),
        loss_in_turn a got K.2 z,
      ))

-- ---- from a new order on

module _ (start : ℕ) (got : ℕ → ℕ) (lost : ℕ → Bool) (tallies : ℕ → Tallies) (h : start < 2 ^ 32) (l : (f : ℕ) → got f < 2 ^ 32) where
  kept_so_far : (f : ℕ) → Kept start (account_after start got lost tallies f)
  unfolding account_after
  kept_so_far zero = (refl, omega arith, opened_in_turn start)
  kept_so_far (suc f) = go (lost f) (kept_so_far f)
    where
      a : Account
      a = account_after start got lost tallies f

      go : (b : Bool) → Kept start a → Kept start (cond b (loss_entered a (got f)) (frame_entered a (got f) (tallies f))).account
      go true K = loss_kept start a (got f) (l f) K
      go false K = frame_kept start a (got f) (l f) K (tallies f)

pub kept_from_order : KeptFromOrder
kept_from_order start got lost tallies h l f =
    let K = kept_so_far start got lost tallies h l f in record { starts = K.0; totals = K.2.totals; numbers = K.1; within = K.2.within }
