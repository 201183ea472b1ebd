-- `hunt::Hunt::take_piece` meets its contract: what is left of the piece, taken in from here on, comes to what the whole of it does. Assumes nothing.
use Rattle.std.proofs.Common.{◌≡◌, ◌+◌, drop}
use Rattle.hunt.specs.definitions.Pieces.{piece_taken}
use Rattle.hunt.proofs.Taking.{searching}
use Rattle.hunt.proofs.Hunt.take_piece.Given as goal

abbrev pub invariant-loop-symbol : goal.invariant-loop-symbol
invariant-loop-symbol l = (l.self.taken ≡ l.initial.self.taken + l.symbol-index) × (l.self.found ≡ 0)
    × (piece_taken (searching l.self.taken l.kept) (drop l.symbol-index l.piece)
    ≡ piece_taken (record { hunt = l.initial.self; kept = l.initial.kept }) l.piece)
