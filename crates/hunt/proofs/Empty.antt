-- What the contract of `find` forbids, at named runs: that the answer is always offset 0, and that it is always none.
-- Assumes nothing.
use mathlib.Core.Path.{◌≡◌, sym, ap, ◌∙◌}
use mathlib.Core.Bool.{false≢true}
use mathlib.Core.List.{List}
use Prim.Native.Nat.{ℕ, ◌*◌, ◌/◌}
use native.Mathlib.Omega.{arith}
use lib.ListN.{length, get_or}
use Rattle.bits.specs.definitions.Bits.{tabulate}
use Rattle.bits.proofs.Tabulate.{length_tabulate, get_d_tabulate}
use Rattle.pilots.specs.definitions.Table5.{pilots}
use Rattle.pilots.proofs.Lock.{pilots_lock, zeros, zeros_no_lock}
use Rattle.hunt.specs.definitions.Found.{Found}
use Rattle.hunt.specs.definitions.Found as found
use Rattle.hunt.specs.definitions.Find.{find}
use Rattle.hunt.proofs.Exactly.{found_exactly, none_exactly}

-- of 6,144 zeros the answer is not offset 0
pub not_always_zero : (r : Found) → r ≡ find zeros → r ≡ found.At 0 → ⊥
not_always_zero r e z = false≢true (sym zeros_no_lock ∙ ((found_exactly zeros 0).0 (sym e ∙ z)).locked)

-- each pilot 64 times
abbrev pub piloted : List ℕ
piloted = tabulate 6144 (λ t. get_or pilots (t / 64) 0)

-- of these the answer is not none
pub not_always_none : (r : Found) → r ≡ find piloted → r ≡ found.None → ⊥
not_always_none r e z =
    let long : length piloted ≡ 6144 = length_tabulate 6144 (λ (t : ℕ). get_or pilots (t / 64) 0) in
    false≢true (sym (((none_exactly piloted).0 (sym e ∙ z)).1 0 (omega arith)) ∙ pilots_lock piloted long (λ k h.
    let whole : 64 * k / 64 ≡ k = omega arith in
    get_d_tabulate 6144 (λ (t : ℕ). get_or pilots (t / 64) 0) (64 * k) 0 (omega arith) ∙ ap (λ (i : ℕ). get_or pilots i 0) whole))
