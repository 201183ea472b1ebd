-- The refusal list, number by number: each by the first test that fails, from the laws of the calls.
-- Assumes nothing.
use mathlib.Core.Path.{◌≡◌, refl, sym, ap, ◌∙◌, subst}
use mathlib.Core.Bool.{Bool, true, false, cond, not, ◌&&◌, ◌||◌, false≢true}
use mathlib.Core.Logic.{◌≢◌, ◌⊎◌, inl, inr, ⊎_elim, ◌↔◌}
use mathlib.Core.List.{List}
use Prim.Native.Nat.{ℕ, ◌+◌, ◌*◌, ◌-◌, ◌^◌, ◌≤◌, ◌<◌}
use native.Mathlib.Nat.{zero-add}
use native.Mathlib.Decide.{dec_lt, ℕ_discrete}
use native.Mathlib.Omega.{arith}
use lib.Dec.{eqb, ltb}
use lib.ListN.{length, get_or}
use borrow.Author.Tests.{ltb-true, ltb-false, leb-true, leb-false, eqb-true, eqb-false, lt-ltb, le-ltb, le-leb, lt-leb, eq-eqb, ne_eqb}
use Rattle.bits.specs.definitions.Bits.{count}
use Rattle.bits.proofs.Count.{count_cong}
use Rattle.bits.proofs.Calls.{by_test, kept}
use Rattle.pilots.specs.definitions.Table5.{pilots}
use Rattle.pilots.specs.definitions.Pilots.{met, wrong_pilots, locks}
use Rattle.framing.proofs.Sending
use Rattle.framing.proofs.Receiving
use Rattle.account.specs.declared.Account.{Account}
use Rattle.account.specs.definitions.Account.{Entry}
use Rattle.account.specs.definitions.Account.{due, total, late, over, with_frame, with_loss, frame_entered, loss_entered}
use Rattle.account.proofs.Kept.{refused_keeps}
use Rattle.capture.specs.definitions.Read.{Read}
use Rattle.capture.specs.definitions.Read.{End, Refused, Order, Frame}
use Rattle.capture.specs.definitions.Capture.{big_endian_at, refusal_at, read_at, next_of}
use Rattle.capture.proofs.Cases.{refused_short, refused_version, refused_kind, not_refused_lem, order_refused, frame_refused, order_read, frame_read, at_end}
use Rattle.capture.proofs.Cases.{no_length, an_order, a_frame, no_lawful}
use Rattle.capture.proofs.Found.{Stands, stands}
use Rattle.demands.specs.definitions.Refusals.{Above}
use Rattle.demands.specs.statements.Refusals.{SendRefusals, ReceiveRefusals, RecordRefusals, EntryRefusals, Refusals}

-- ---- sending and receiving

pub send_refusals : SendRefusals
send_refusals ex a s o r s' o' C = (
  by_test (ℕ_discrete (length a) 5280) (λ h. let e = C.number ∙ Sending.short_lanes a s o h in omega arith)
      λ h. by_test (ℕ_discrete (length s) 2880) (λ i. let e = C.number ∙ Sending.short_store a s o h i in omega arith)
      λ i. by_test (ℕ_discrete (length o) 6144) (λ j. let e = C.number ∙ Sending.short_frame a s o h i j in omega arith)
      λ j. let e = C.number ∙ Sending.all_lengths a s o h i j in omega arith,
  λ z. (kept r _ _ s s' C.number C.store z, kept r _ _ o o' C.number C.output z),
)

-- the pilots that differ, in a whole frame
pilots_wrong : (f : List ℕ) → length f ≡ 6144 → wrong_pilots f 0 ≡ count (λ k. not (eqb (get_or f (64 * k) 0) (get_or pilots k 0))) 96
unfolding wrong_pilots met
pilots_wrong f h = count_cong 96 _ _ (λ k l. ap not (at k l))
  where
    at : (k : ℕ) → k < 96 → (ltb (0 + 64 * k) (length f) && eqb (get_or f (0 + 64 * k) 0) (get_or pilots k 0)) ≡ eqb (get_or f (64 * k) 0) (get_or pilots k 0)
    at k l = rw (zero-add (64 * k), lt-ltb (64 * k) (length f) (omega arith)) refl

lock_test : (f : List ℕ) (wrong : ℕ) → length f ≡ 6144 → wrong ≡ count (λ k. not (eqb (get_or f (64 * k) 0) (get_or pilots k 0))) 96 → locks f 0 ≡ ltb wrong 25
unfolding locks
lock_test f wrong h w = rw (w, pilots_wrong f h) refl

pub receive_refusals : ReceiveRefusals
receive_refusals ex f s o g r s' o' g' C wrong w = (
  by_test (ℕ_discrete (length f) 6144) (λ h. let e = C.number ∙ Receiving.short_frame f s o g h in omega arith)
      λ h. by_test (ℕ_discrete (length s) 2880) (λ i. let e = C.number ∙ Receiving.short_store f s o g h i in omega arith)
      λ i. by_test (ℕ_discrete (length o) 5280) (λ j. let e = C.number ∙ Receiving.short_lanes f s o g h i j in omega arith)
      λ j. by_test (ℕ_discrete (length g) 384) (λ k. let e = C.number ∙ Receiving.short_flags f s o g h i j k in omega arith)
      λ k. let lock : r ≡ cond (ltb wrong 25) 0 5 = C.number ∙ Receiving.all_lengths f s o g h i j k ∙ rw (lock_test f wrong h w) refl in
      by_test (dec_lt wrong 25) (λ l. let e : r ≡ 5 = lock ∙ rw (le-ltb wrong 25 (omega arith)) refl in omega arith)
      λ l. let e : r ≡ 0 = lock ∙ rw (lt-ltb wrong 25 l) refl in omega arith,
  λ z. (kept r _ _ s s' C.number C.store z, kept r _ _ o o' C.number C.output z, kept r _ _ g g' C.number C.flags z),
)

-- ---- records

module _ (s : List ℕ) (i left n version kind : ℕ)
    (left_is : left ≡ length s - i) (n-is : n ≡ big_endian_at s i) (version-is : version ≡ get_or s (i + 4) 0) (kind-is : kind ≡ get_or s (i + 5) 0) where
  -- the case of each refusal
  abbrev Cut : Type 0
  Cut = (0 < left) × ((left < 4) ⊎ (((n ≡ 14) ⊎ (n ≡ 6150)) × (left < 4 + n)))

  abbrev Unlawful : Type 0
  Unlawful = (4 ≤ left) × (n ≢ 14) × (n ≢ 6150)

  abbrev OtherVersion : Type 0
  OtherVersion = ((n ≡ 14) ⊎ (n ≡ 6150)) × (4 + n ≤ left) × (version ≢ 1)

  abbrev OtherKind : Type 0
  OtherKind = (((n ≡ 14) × (kind ≢ 0)) ⊎ ((n ≡ 6150) × (kind ≢ 1))) × (4 + n ≤ left) × (version ≡ 1)

  -- what an answer says
  Says : Read → Type 0
  Says End = length s ≤ i
  Says (Refused refusal) =
      cond (eqb refusal 6) Cut (cond (eqb refusal 7) Unlawful (cond (eqb refusal 8) OtherVersion (cond (eqb refusal 9) OtherKind ⊥)))
  Says (Order start asked allowed next) = Unit
  Says (Frame number from next) = Unit

  -- a record of a lawful length, by what refuses it
  order_by : (refusal : ℕ) → n ≡ 14 → 4 ≤ left → refusal ≡ refusal_at s i 18 0 → refusal ≢ 0 → Refused refusal ≡ read_at s i
  order_by refusal q h e z = order_refused s i refusal e z ∙ an_order s i (omega arith) (omega arith) (sym n-is ∙ q)

  frame_by : (refusal : ℕ) → n ≡ 6150 → 4 ≤ left → refusal ≡ refusal_at s i 6154 1 → refusal ≢ 0 → Refused refusal ≡ read_at s i
  frame_by refusal q h e z = frame_refused s i refusal e z ∙ a_frame s i (omega arith) (omega arith) (λ x. omega arith) (sym n-is ∙ q)

  by_6 : Cut → Refused 6 ≡ read_at s i
  by_6 (p, inl h) = no_length s i (omega arith) (omega arith)
  by_6 (p, inr (q, h)) = by_test (dec_lt left 4) (λ l. lawful l q) (λ l. no_length s i (omega arith) (omega arith))
    where
      lawful : (left < 4 → ⊥) → (n ≡ 14) ⊎ (n ≡ 6150) → Refused 6 ≡ read_at s i
      lawful l (inl q) = order_by 6 q (omega arith) (refused_short s i 18 0 (omega arith)) (omega arith)
      lawful l (inr q) = frame_by 6 q (omega arith) (refused_short s i 6154 1 (omega arith)) (omega arith)

  by_7 : Unlawful → Refused 7 ≡ read_at s i
  by_7 (h, x, y) = no_lawful s i (omega arith) (omega arith) (λ z. x (n-is ∙ z)) (λ z. y (n-is ∙ z))

  by_8 : OtherVersion → Refused 8 ≡ read_at s i
  by_8 (inl q, h, x) = order_by 8 q (omega arith) (refused_version s i 18 0 (omega arith) (λ z. x (version-is ∙ z))) (omega arith)
  by_8 (inr q, h, x) = frame_by 8 q (omega arith) (refused_version s i 6154 1 (omega arith) (λ z. x (version-is ∙ z))) (omega arith)

  by_9 : OtherKind → Refused 9 ≡ read_at s i
  by_9 (inl (q, y), h, x) = order_by 9 q (omega arith) (refused_kind s i 18 0 (omega arith) (sym version-is ∙ x) (λ z. y (kind-is ∙ z))) (omega arith)
  by_9 (inr (q, y), h, x) = frame_by 9 q (omega arith) (refused_kind s i 6154 1 (omega arith) (sym version-is ∙ x) (λ z. y (kind-is ∙ z))) (omega arith)

  -- an order or a frame that nothing refuses
  an_order_says : n ≡ 14 → 18 ≤ left → version ≡ 1 → kind ≡ 0 → Says (read_at s i)
  unfolding Says
  an_order_says q h x y =
      let r = order_read s i _ _ _ (not_refused_lem s i 18 0 (omega arith) (sym version-is ∙ x) (sym kind-is ∙ y)) refl refl refl in
      subst Says (r ∙ an_order s i (omega arith) (omega arith) (sym n-is ∙ q)) tt

  a_frame_says : n ≡ 6150 → 6154 ≤ left → version ≡ 1 → kind ≡ 1 → Says (read_at s i)
  unfolding Says
  a_frame_says q h x y =
      let r = frame_read s i _ (not_refused_lem s i 6154 1 (omega arith) (sym version-is ∙ x) (sym kind-is ∙ y)) refl in
      subst Says (r ∙ a_frame s i (omega arith) (omega arith) (λ z. omega arith) (sym n-is ∙ q)) tt

  says : Says (read_at s i)
  unfolding Says
  says =
      by_test (dec_lt 0 left) (λ h. let c : length s ≤ i = omega arith in subst Says (at_end s i c) c)
      λ h. by_test (dec_lt left 4) (λ l. four (ℕ_discrete n 14) (ℕ_discrete n 6150) (omega arith)) λ l. told 6 by_6 (h, inl l)
    where
      told : (refusal : ℕ) → (Says (Refused refusal) → Refused refusal ≡ read_at s i) → Says (Refused refusal) → Says (read_at s i)
      told refusal is c = subst Says (is c) c

      whole : (n ≡ 14) ⊎ (n ≡ 6150) → 4 + n ≤ left → version ≡ 1 → Says (read_at s i)
      whole (inl q) l x = by_test (ℕ_discrete kind 0) (λ y. told 9 by_9 (inl (q, y), l, x)) λ y. an_order_says q (omega arith) x y
      whole (inr q) l x = by_test (ℕ_discrete kind 1) (λ y. told 9 by_9 (inr (q, y), l, x)) λ y. a_frame_says q (omega arith) x y

      lawful : (n ≡ 14) ⊎ (n ≡ 6150) → 4 ≤ left → Says (read_at s i)
      lawful q h =
          by_test (dec_lt left (4 + n)) (λ l. by_test (ℕ_discrete version 1) (λ x. told 8 by_8 (q, omega arith, x)) λ x. whole q (omega arith) x)
          λ l. told 6 by_6 (omega arith, inr (q, l))

      four : Dec (n ≡ 14) → Dec (n ≡ 6150) → 4 ≤ left → Says (read_at s i)
      four (yes x) y h = lawful (inl x) h
      four (no x) (yes y) h = lawful (inr y) h
      four (no x) (no y) h = told 7 by_7 (h, x, y)

  rows : (read : Read) → read ≡ read_at s i
      → ((read ≡ End) ↔ (length s ≤ i))
      × ((read ≡ Refused 6) ↔ Cut)
      × ((read ≡ Refused 7) ↔ Unlawful)
      × ((read ≡ Refused 8) ↔ OtherVersion)
      × ((read ≡ Refused 9) ↔ OtherKind)
      × ((refusal : ℕ) → read ≡ Refused refusal → (6 ≤ refusal) × (refusal ≤ 9))
  unfolding Says Stands
  rows read is = (
    (λ e. subst Says (sym is ∙ e) says, λ c. is ∙ sym (at_end s i c)),
    (λ e. subst Says (sym is ∙ e) says, λ c. is ∙ sym (by_6 c)),
    (λ e. subst Says (sym is ∙ e) says, λ c. is ∙ sym (by_7 c)),
    (λ e. subst Says (sym is ∙ e) says, λ c. is ∙ sym (by_8 c)),
    (λ e. subst Says (sym is ∙ e) says, λ c. is ∙ sym (by_9 c)),
    λ refusal e. subst (Stands s i) (sym is ∙ e) (stands s i),
  )

pub record_refusals : RecordRefusals
record_refusals s i read is left n version kind left_is n-is version-is kind-is = (
  rows s i left n version kind left_is n-is version-is kind-is read is,
  λ e. ap (λ (x : Read). next_of x i) e,
  λ refusal e. ap (λ (x : Read). next_of x i) e,
)

-- ---- the account

-- a test: what it says where it passes, what where it fails, and both the other way round
record Test (b : Bool) (P N : Type 0) : Type 0 where
  passes : b ≡ true → P
  fails : b ≡ false → N
  passed : P → b ≡ true
  failed : N → b ≡ false

late_test : (d : ℕ) → Test (late d) (2 ^ 31 ≤ d) (d < 2 ^ 31)
late_test d = record { passes = leb-true (2 ^ 31) d; fails = leb-false (2 ^ 31) d; passed = le-leb (2 ^ 31) d; failed = lt-leb (2 ^ 31) d }

due_test : (w n : ℕ) → Test (eqb w n) (w ≡ n) (w ≢ n)
due_test w n = record { passes = eqb-true w n; fails = eqb-false w n; passed = eq-eqb w n; failed = ne_eqb w n }

above : (m n : ℕ) → Test (ltb m n) (m < n) (m < n → ⊥)
above m n =
    record {
      passes = ltb-true m n;
      fails = λ e. let l = ltb-false m n e in omega arith;
      passed = lt-ltb m n;
      failed = λ h. le-ltb m n (omega arith);
    }

or_test : {P Q : Type 0} (x y : Bool) → Test x P (P → ⊥) → Test y Q (Q → ⊥) → Test (x || y) (P ⊎ Q) (P ⊎ Q → ⊥)
or_test true y p q =
    let h = p.passes refl in record { passes = λ _. inl h; fails = λ e. absurd (false≢true (sym e)); passed = λ _. refl; failed = λ n. absurd (n (inl h)) }
or_test false y p q =
    let n = p.fails refl in
    record {
      passes = λ e. inr (q.passes e);
      fails = λ e. ⊎_elim n (q.fails e);
      passed = ⊎_elim (λ h. absurd (n h)) q.passed;
      failed = λ m. q.failed (λ h. m (inr h));
    }

over_test : (a : Account) → Test (over a) (Above a) (Above a → ⊥)
unfolding over
over_test a =
    or_test _ _ (or_test _ _ (above _ _) (above _ _)) (or_test _ _ (above _ _) (or_test _ _ (above _ _) (or_test _ _ (above _ _) (above _ _))))

-- the numbers of an entry, by its three tests
module _ {L I P W N : Type 0} {l o w : Bool} (x : Test l L I) (y : Test o P (P → ⊥)) (z : Test w W N) (r : ℕ)
    (is : r ≡ cond l 10 (cond o 11 (cond w 0 12))) where
  Case : ℕ → Type 0
  Case n = cond (eqb n 0) (I × (P → ⊥) × W) (cond (eqb n 10) L (cond (eqb n 11) (I × P) (cond (eqb n 12) (I × (P → ⊥) × N) ⊥)))

  case : Case r
  unfolding Case
  case = subst Case (sym is) (go l o w refl refl refl)
    where
      go : (a b c : Bool) → l ≡ a → o ≡ b → w ≡ c → Case (cond a 10 (cond b 11 (cond c 0 12)))
      go true b c p q s = x.passes p
      go false true c p q s = (x.fails p, y.passes q)
      go false false true p q s = (x.fails p, y.fails q, z.passes s)
      go false false false p q s = (x.fails p, y.fails q, z.fails s)

  known : (a b c : Bool) → r ≡ cond a 10 (cond b 11 (cond c 0 12)) → r ≢ 0 → (10 ≤ r) × (r ≤ 12)
  known true b c e = omega arith
  known false true c e = omega arith
  known false false true e = omega arith
  known false false false e = omega arith

  entry_rows :
      ((r ≡ 0) ↔ (I × (P → ⊥) × W))
      × ((r ≡ 10) ↔ L)
      × ((r ≡ 11) ↔ (I × P))
      × ((r ≡ 12) ↔ (I × (P → ⊥) × N))
      × (r ≢ 0 → (10 ≤ r) × (r ≤ 12))
  unfolding Case
  entry_rows = (
    (λ e. subst Case e case, λ c. is ∙ rw (x.failed c.0, y.failed c.1, z.passed c.2) refl),
    (λ e. subst Case e case, λ c. is ∙ rw (x.passed c) refl),
    (λ e. subst Case e case, λ c. is ∙ rw (x.failed c.0, y.passed c.1) refl),
    (λ e. subst Case e case, λ c. is ∙ rw (x.failed c.0, y.failed c.1, z.failed c.2) refl),
    known l o w is,
  )

-- what a refused entry leaves
entry_kept : (a : Account) (e f : Entry) → e ≡ f → (f.refusal ≢ 0 → f.account ≡ a) → e.refusal ≢ 0 → e.account ≡ a
entry_kept a e f is k = subst (λ (x : Entry). x.refusal ≢ 0 → x.account ≡ a) (sym is) k

pub entry_refusals : EntryRefusals
unfolding frame_entered loss_entered
entry_refusals a got d e ahead-is = (
  λ t is. (
    entry_rows (late_test d) (over_test (with_frame a got t)) (due_test (total t) (due a got)) e.refusal (rw ahead-is (ap refusal is)),
    entry_kept a e (frame_entered a got t) is ((refused_keeps a got).0 t),
  ),
  λ is.
      let x = entry_rows (late_test d) (over_test (with_loss a got)) always e.refusal (rw ahead-is (ap refusal is)) in (
        (
          (λ z. ((x.0.0 z).0, (x.0.0 z).1), λ c. x.0.1 (c.0, c.1, tt)),
          x.1,
          x.2,
          λ z. let b = x.4 z in let n : e.refusal ≢ 12 = λ y. (x.3.0 y).2 in omega arith,
        ),
        entry_kept a e (loss_entered a got) is (refused_keeps a got).1,
      ),
)
  where
    refusal : Entry → ℕ
    refusal x = x.refusal

    -- a loss brings no tallies to be tested
    always : Test true Unit ⊥
    always = record { passes = λ _. tt; fails = λ n. false≢true (sym n); passed = λ _. refl; failed = λ n. absurd n }

pub refusals : Refusals
refusals = record { sending = send_refusals; receiving = receive_refusals; records = record_refusals; entries = entry_refusals }
