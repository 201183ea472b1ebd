-- `traffic::State::ahead` meets its contract: `ahead_law`. Assumes nothing.
use mathlib.Core.Path.{◌≡◌, ap₂, ◌∙◌, subst, sym}
use Prim.Native.Nat.{ℕ, ◌+◌, ◌*◌, ◌-◌, ◌/◌, ◌%◌, ◌^◌, ◌≤◌, ◌<◌}
use native.Mathlib.Nat.{one-mul}
use native.Mathlib.Omega.{arith}
use lib.Dec.{lit<}
use lib.Pow.{pow_pos, shl_exact}
use lib.Bits.{bit_xor}
use Rattle.traffic.specs.definitions.Register.{state_from}
use Rattle.traffic.proofs.Register.{ahead_law, from_lt}
use Rattle.traffic.proofs.State.ahead.Goals as goal

one : (n : ℕ) → n ≤ 28 → 1 * 2 ^ n % 2 ^ 64 ≡ 2 ^ n
one n h = shl_exact {a = 1} 1 n 64 (lit< tt) (omega arith) ∙ one-mul (2 ^ n)

law : (s n : ℕ) → s < 2 ^ 31 → n ≤ 28
    → s * 2 ^ n % 2 ^ 64 % 2 ^ 31 + bit_xor (s / 2 ^ (28 - n)) (s / 2 ^ (31 - n)) % (1 * 2 ^ n % 2 ^ 64) ≡ state_from s n
law s n h l =
    ap₂ (λ (x y : ℕ). x % 2 ^ 31 + bit_xor (s / 2 ^ (28 - n)) (s / 2 ^ (31 - n)) % y) (shl_exact 31 n 64 h (omega arith)) (one n l) ∙ ahead_law s n h l

pub nonzero_rem-result-2 : goal.nonzero_rem-result-2
nonzero_rem-result-2 c = subst (λ (m : ℕ). 0 < m) (sym (one c.args.n c.requires)) (pow_pos c.args.n)

pub overflow_add-result : goal.overflow_add-result
overflow_add-result c =
    let s = c.args.self in
    let e = law s.bits c.args.n s.within c.requires in
    record { fits = omega (arith, e, from_lt s.bits c.args.n s.within) }

pub invariant_of-result : goal.invariant_of-result
invariant_of-result c =
    let s = c.args.self in
    let e = law s.bits c.args.n s.within c.requires in
    record { within = omega (arith, e, from_lt s.bits c.args.n s.within) }

pub returns : goal.returns
returns c = law c.args.self.bits c.args.n c.args.self.within c.requires
