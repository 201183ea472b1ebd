-- `traffic::next_words` meets its contract: each word by the two before it, `word_next`. Assumes nothing.
use native.Mathlib.Omega.{arith}
use Rattle.traffic.proofs.Stream.{grows_more, word_next}
use Rattle.traffic.proofs.next_words.Goals as goal

pub loop-n-preserved : goal.loop-n-preserved
loop-n-preserved c =
    let G = c.loop-n.invariant in
    grows_more G (omega (arith, G.long)) (λ s h S. word_next h S c.loop-n.auto.n _ _ c.window.ensures c.window-in-loop-n.ensures)
