-- `pilots::first_lock` meets its contract: a block has the first offset that locks, or none, or one of those behind all blocks is it. Assumes nothing.
use Rattle.std.proofs.Common.{◌≡◌, ap, ◌∙◌, ℕ, ◌*◌, ◌/◌, ◌<◌, true, false, rules, arith}
use Rattle.std.proofs.lemmas.Iterator.{first_from_Range}
use Rattle.bits.specs.definitions.Bits.{least}
use borrow.Author.Tests.{tests}
use Rattle.pilots.specs.definitions.Pilots.{locks, below, offsets, first_lock}
use Rattle.pilots.proofs.Blocks.{none_in_block, first_in_run, found_from}
use Rattle.pilots.proofs.first_lock.Goals as goal

pub returns-in-Some : goal.returns-in-Some
returns-in-Some c =
    first_in_run c.args.run.now _ _ _ (rw c.unwrap.ensures at c.first_chunk.ensures.cases) c.in-Some.j c.in-Some.ensures c.loop-block.invariant

pub loop-block-preserved : goal.loop-block-preserved
loop-block-preserved c =
    λ o h. none_in_block c.args.run.now _ _ _ (rw c.unwrap.ensures at c.first_chunk.ensures.cases) c.in_default.ensures c.loop-block.invariant o (omega arith)

pub returns : goal.returns
unfolding first_lock
returns c =
    let s = c.args.run.now in
    let end = c.saturating_sub-end.result in
    let all : end ≡ offsets s = omega (arith, c.saturating_sub-end.ensures) in
    found_from (locks s) end (128 * (end / 128)) (λ k l. c.loop-block.invariant k (omega arith)) c.find.result
    (first_from_Range _ _ _ c.find.result (λ j. locks s j ≡ true) (λ j. j < end → locks s j ≡ false) c.find.ensures.ran (λ x q k. search (rules, tests))
    (λ x q k. search (rules, tests)))
    ∙ ap (λ (n : ℕ). below n (least (locks s) n)) all
