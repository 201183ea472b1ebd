-- `pilots::Table::count_right` meets its contract: the first i pilots are counted at each offset. Assumes nothing.
use Rattle.std.proofs.Common.{◌≡◌, ℕ, List, ap, ◌∙◌, get_or, length, arith}
use lib.Seq.{get_or-take}
use Rattle.pilots.specs.private.Pilots.{counts}
use lib.ListN.{length-take}
use Rattle.pilots.proofs.Lock.{chunk_at, pilots_length}
use Rattle.pilots.proofs.Blocks.{counts_at, counts_none, counts_more, agreeing_le}
use Rattle.pilots.proofs.Table.count_right.Goals as goal

pub loop-i-init : goal.loop-i-init
loop-i-init c = counts_none c.args.symbols.now

pub count_agreeing-requires : goal.count_agreeing-requires
count_agreeing-requires c = λ j h. omega (arith, counts_at c.args.symbols.now c.loop-i.i j c.loop-i.invariant h, agreeing_le c.args.symbols.now j c.loop-i.i)

pub loop-i-preserved : goal.loop-i-preserved
loop-i-preserved c =
    let pilots_now = c.args.self.now.bytes in
    let first = rw c.unwrap.ensures at c.first_chunk.ensures.cases in
    counts_more c.args.symbols.now c.loop-i.i _ _ (omega arith) c.loop-i.invariant
    (chunk_at c.args.symbols.now _ _ _ _ first)
    (get_or-take 32 pilots_now c.loop-i.i 0 (omega (arith, length-take 32 pilots_now)) ∙ ap (λ (l : List ℕ). get_or l c.loop-i.i 0) c.args.self.now.is_table)
    c.count_agreeing.ensures

pub returns : goal.returns
returns c =
    let e : c.loop-i.i ≡ 32 = omega (arith, length-take 32 c.args.self.now.bytes, ap length c.args.self.now.is_table, pilots_length) in
    c.loop-i.invariant ∙ ap (counts c.args.symbols.now) e
