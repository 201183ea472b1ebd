-- `traffic::grow` meets its contract: each word by those 28 D and 31 D before it, `word_grown`. Assumes nothing.
use mathlib.Core.Path.{◌≡◌}
use mathlib.Core.Logic.{◌⊎◌, inl, inr}
use Prim.Native.Nat.{ℕ, ◌*◌, ◌<◌}
use native.Mathlib.Omega.{arith}
use Rattle.traffic.proofs.Stream.{Rule, rule_64, rule_128, grows_more, word_grown}
use Rattle.traffic.proofs.grow.Goals as goal

-- the distances at which it is called
rule_at : (d : ℕ) → (d ≡ 1) ⊎ (d ≡ 2) → Rule (64 * d)
rule_at d (inl e) = rw e rule_64
rule_at d (inr e) = rw e rule_128

some : (d : ℕ) → (d ≡ 1) ⊎ (d ≡ 2) → 0 < d
some d (inl e) = omega arith
some d (inr e) = omega arith

pub loop-n-preserved : goal.loop-n-preserved
loop-n-preserved g c =
    let G = c.loop-n.invariant in
    let d = g.row.D in
    let pre = c.requires in
    grows_more G (omega (arith, G.long))
    (λ s h S. word_grown h S d (rule_at d pre.0) (omega (arith, pre.1, c.loop-n.auto.n)) (some d pre.0))
