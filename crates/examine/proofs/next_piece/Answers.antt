-- `examine::next_piece` meets its contract: no piece has more than what its length asks for, and a shorter one is the last. Assumes nothing.
use Rattle.std.proofs.Common.{rules}
use Rattle.examine.proofs.Buffer.{begun_within, piece_within, piece_given, piece_short}
use Rattle.examine.proofs.Known.{broken_given}
use Rattle.examine.proofs.next_piece.Goals as goal

pub returns-then-head-first-clause-within : goal.returns-then-head-first-clause-within
returns-then-head-first-clause-within g c = begun_within _ _ _ c.wanted-first.ensures c.if-head-first.true

pub returns-in_err-tail-clause-broken : goal.returns-in_err-tail-clause-broken
returns-in_err-tail-clause-broken g c = broken_given _ _ _ _ _ c.in_ok-head.ensures.given c.in_err-tail.ensures.broken

pub returns-clause-within : goal.returns-clause-within
returns-clause-within g c =
    piece_within c.fill.new.buffer c.fill-2.new.buffer _ _ c.in_ok-tail.tail _ (search rules) (search rules) _ c.wanted-first.ensures c.wanted-all.ensures
    (search rules)

pub returns-clause-given : goal.returns-clause-given
returns-clause-given g c =
    piece_given c.fill.new.buffer c.fill-2.new.buffer _ _ c.in_ok-tail.tail _ (search rules) (search rules) _ _ _ _ c.if-head-first.false
    c.in_ok-head.ensures.given c.in_ok-tail.ensures.given

pub returns-clause-ended : goal.returns-clause-ended
returns-clause-ended g c = λ h. c.in_ok-tail.ensures.ended
    (piece_short c.fill.new.buffer c.fill-2.new.buffer _ _ c.in_ok-tail.tail _ (search rules) (search rules) _ c.wanted-first.ensures c.wanted-all.ensures
    (search rules) h)
