-- `pilots::is_lock` meets its contract: those of the first i pilots that are not met are counted. Assumes nothing.
use Rattle.std.proofs.Common.{◌≡◌, ℕ, ltb, refl, ap, ◌∙◌, not, arith}
use Rattle.std.specs.Int.{from_bool}
use Rattle.bits.specs.definitions.Bits.{count}
use Rattle.bits.proofs.Count.{count_more}
use Rattle.pilots.specs.definitions.Pilots.{lock_limit}
use Rattle.pilots.proofs.Lock.{as_number, at_most_one}
use Rattle.pilots.proofs.is_lock.Goals as goal

pub loop-i-init : goal.loop-i-init
unfolding count
loop-i-init g c = (omega arith, λ p same. refl)

pub loop-i-preserved : goal.loop-i-preserved
loop-i-preserved g c = (
  omega (arith, c.from-wrong.ensures, at_most_one (not c.met.result)),
  λ p same. count_more (λ i. not (p i)) c.loop-i.i (c.loop-i.invariant.1 p same)
      (c.from-wrong.ensures ∙ ap (λ b. from_bool (not b)) (same c.loop-i.i c.met.result c.loop-i-test.true c.met.ensures) ∙ as_number (not (p c.loop-i.i))),
)

pub returns : goal.returns
returns g c =
    let e : c.loop-i.i ≡ 96 = omega arith in
    λ p same. ap (λ (n : ℕ). ltb n lock_limit) (c.loop-i.invariant.1 p same ∙ ap (count (λ i. not (p i))) e)
