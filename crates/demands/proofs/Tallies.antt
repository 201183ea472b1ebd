-- `TalliesAlike`: an entry depends on the number answered and, where it is 0, on the flags.
-- Assumes nothing.
use mathlib.Core.Path.{◌≡◌, refl, ap, ◌∙◌}
use mathlib.Core.List.{List}
use Prim.Native.Nat.{ℕ, zero, suc, ◌<◌, ◌≤◌}
use native.Mathlib.Decide.{ℕ_discrete}
use native.Mathlib.Omega.{arith}
use borrow.Author.Tests.{ne_eqb}
use Rattle.account.specs.declared.Account.{Account}
use Rattle.account.specs.definitions.Account.{Entry}
use Rattle.demands.specs.definitions.Tallies.{reported, account_at}
use Rattle.demands.specs.statements.Tallies.{TalliesAlike}
use Rattle.demands.proofs.OneForAll.{one_for_all}

same_entry : (x y : Account) (got r s : ℕ) (g h : List ℕ) → x ≡ y → r ≡ s → (r ≡ 0 → g ≡ h) → reported x got r g ≡ reported y got s h
unfolding reported
same_entry x y got r s g h e f flags =
    ap (λ (a : Account). reported a got r g) e ∙ ap (λ (n : ℕ). reported y got n g) f ∙ rest (ℕ_discrete s 0)
  where
    rest : Dec (s ≡ 0) → reported y got s g ≡ reported y got s h
    rest (yes z) = ap (reported y got s) (flags (f ∙ z))
    rest (no z) = rw (ne_eqb s 0 z) refl

module _ (start : Account) (got numbers numbers' : ℕ → ℕ) (flag_bytes flag_bytes' : ℕ → List ℕ) (n : ℕ)
    (same : (f : ℕ) → f < n → numbers f ≡ numbers' f) (flags : (f : ℕ) → f < n → numbers f ≡ 0 → flag_bytes f ≡ flag_bytes' f) where
  same_account : (f : ℕ) → f ≤ n → account_at start got numbers flag_bytes f ≡ account_at start got numbers' flag_bytes' f
  unfolding account_at
  same_account zero h = refl
  same_account (suc f) h =
      ap (λ (e : Entry). e.account)
      (same_entry (account_at start got numbers flag_bytes f) (account_at start got numbers' flag_bytes' f) (got f) (numbers f) (numbers' f) (flag_bytes f)
      (flag_bytes' f)
      (same_account f (omega arith)) (same f h) (flags f h))

pub tallies_alike : TalliesAlike
tallies_alike ex n flips lanes room outs flag_buffers a lanes' room' outs' flag_buffers' b lengths start got f h =
    let alike = one_for_all ex n flips lanes room outs flag_buffers a lanes' room' outs' flag_buffers' b lengths in
    same_entry (account_at start got a.numbers a.flag_bytes f) (account_at start got b.numbers b.flag_bytes f) (got f) (a.numbers f) (b.numbers f)
    (a.flag_bytes f) (b.flag_bytes f)
    (same_account start got a.numbers b.numbers a.flag_bytes b.flag_bytes n alike.0 alike.1 f (omega arith)) (alike.0 f h) (alike.1 f h)
