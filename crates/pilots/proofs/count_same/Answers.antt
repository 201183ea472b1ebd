-- `pilots::count_same` meets its contract: those of the first k that agree are counted. Assumes nothing.
use Rattle.std.proofs.Common.{◌≡◌, refl, ap, ◌∙◌, List, ℕ, Bool, eqb, get_or, arith}
use Rattle.bits.specs.definitions.Bits.{count}
use Rattle.bits.proofs.Count.{count_le, count_more}
use Rattle.pilots.proofs.Lock.{as_number, at_most_one}
use Rattle.pilots.proofs.count_same.Goals as goal

-- symbol k is the group's pilot k
abbrev same_at : List ℕ → List ℕ → ℕ → Bool
same_at symbols group k = eqb (get_or symbols k 0) (get_or group k 0)

pub loop-k-init : goal.loop-k-init
unfolding count
loop-k-init c = refl

pub overflow_add-same : goal.overflow_add-same
overflow_add-same c =
    let p = same_at c.args.symbols.now c.args.pilots.now in
    omega (arith, c.loop-k.invariant, c.from-same.ensures, count_le p c.loop-k.k, at_most_one (p c.loop-k.k))

pub loop-k-preserved : goal.loop-k-preserved
loop-k-preserved c =
    let p = same_at c.args.symbols.now c.args.pilots.now in
    count_more p c.loop-k.k c.loop-k.invariant (c.from-same.ensures ∙ as_number (p c.loop-k.k))

pub returns : goal.returns
returns c =
    let e : c.loop-k.k ≡ 32 = omega arith in
    c.loop-k.invariant ∙ ap (count (same_at c.args.symbols.now c.args.pilots.now)) e
