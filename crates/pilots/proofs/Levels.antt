-- Labels and levels: what has neither, as a `match` tells it; and what specs/statements/Levels states.
-- Assumes nothing.
use mathlib.Core.Path.{◌≡◌, refl, sym, ap}
use Prim.Native.Nat.{ℕ, zero, suc, ◌<◌}
use native.Mathlib.Omega.{arith}
use lib.IntN.{ℤ, pos, negsuc}
use Rattle.std.proofs.Common.{Option, Some, None}
use Rattle.pilots.specs.definitions.Levels.{level_of, label_of}
use Rattle.pilots.specs.statements.Levels.{LevelsBack, AboveThree, OtherLevels}

-- none of the four labels has no level
pub no_level : (n : ℕ) → (n ≡ 0 → ⊥) → (n ≡ 1 → ⊥) → (n ≡ 2 → ⊥) → (n ≡ 3 → ⊥) → None ≡ level_of n
unfolding level_of
no_level zero a b c d = absurd (a refl)
no_level (suc zero) a b c d = absurd (b refl)
no_level (suc (suc zero)) a b c d = absurd (c refl)
no_level (suc (suc (suc zero))) a b c d = absurd (d refl)
no_level (suc (suc (suc (suc n)))) a b c d = refl

-- what has a level is the label of that level
label_back : (n : ℕ) (z : ℤ) → level_of n ≡ Some z → label_of z ≡ Some n
unfolding level_of label_of
label_back zero z e = let p : negsuc 2 ≡ z = cc in ap label_of (sym p)
label_back (suc zero) z e = let p : negsuc 0 ≡ z = cc in ap label_of (sym p)
label_back (suc (suc zero)) z e = let p : pos 3 ≡ z = cc in ap label_of (sym p)
label_back (suc (suc (suc zero))) z e = let p : pos 1 ≡ z = cc in ap label_of (sym p)
label_back (suc (suc (suc (suc n)))) z e = absurd (let p : ◌≡◌ {A = ℕ} 0 1 = cc in omega arith)

-- what has a label is the level of that label
level_back : (z : ℤ) (n : ℕ) → label_of z ≡ Some n → level_of n ≡ Some z
unfolding level_of label_of
level_back (negsuc zero) n e = let p : 1 ≡ n = cc in ap level_of (sym p)
level_back (negsuc (suc zero)) n e = absurd (let p : ◌≡◌ {A = ℕ} 0 1 = cc in omega arith)
level_back (negsuc (suc (suc zero))) n e = let p : 0 ≡ n = cc in ap level_of (sym p)
level_back (negsuc (suc (suc (suc m)))) n e = absurd (let p : ◌≡◌ {A = ℕ} 0 1 = cc in omega arith)
level_back (pos zero) n e = absurd (let p : ◌≡◌ {A = ℕ} 0 1 = cc in omega arith)
level_back (pos (suc zero)) n e = let p : 3 ≡ n = cc in ap level_of (sym p)
level_back (pos (suc (suc zero))) n e = absurd (let p : ◌≡◌ {A = ℕ} 0 1 = cc in omega arith)
level_back (pos (suc (suc (suc zero)))) n e = let p : 2 ≡ n = cc in ap level_of (sym p)
level_back (pos (suc (suc (suc (suc m))))) n e = absurd (let p : ◌≡◌ {A = ℕ} 0 1 = cc in omega arith)

pub levels_back : LevelsBack
levels_back n z = (label_back n z, level_back z n)

pub above_three : AboveThree
unfolding level_of
above_three n = (above n, λ h. sym (no_level n (λ e. omega arith) (λ e. omega arith) (λ e. omega arith) (λ e. omega arith)))
  where
    above : (n : ℕ) → level_of n ≡ None → 3 < n
    above zero e = absurd (let p : ◌≡◌ {A = ℕ} 0 1 = cc in omega arith)
    above (suc zero) e = absurd (let p : ◌≡◌ {A = ℕ} 0 1 = cc in omega arith)
    above (suc (suc zero)) e = absurd (let p : ◌≡◌ {A = ℕ} 0 1 = cc in omega arith)
    above (suc (suc (suc zero))) e = absurd (let p : ◌≡◌ {A = ℕ} 0 1 = cc in omega arith)
    above (suc (suc (suc (suc n)))) e = omega arith

pub other_levels : OtherLevels
other_levels z = (λ e n l. let f = label_back n z l in absurd (let p : ◌≡◌ {A = ℕ} 0 1 = cc in omega arith), λ others. go others (label_of z) refl)
  where
    go : ((n : ℕ) → level_of n ≡ Some z → ⊥) → (l : Option ℕ) → label_of z ≡ l → label_of z ≡ None
    go others (Some n) e = absurd (others n (level_back z n e))
    go others None e = e
