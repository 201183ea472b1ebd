-- `hunt::Hunt::take_piece` meets its contract: what is left of the piece, taken in from here on, comes to what the whole of it does. Assumes nothing.
use Rattle.std.proofs.Common.{sym, ap, ◌∙◌, ℕ, ◌+◌, drop, arith}
use lib.ListN.{drop_of_length-le}
use Rattle.hunt.specs.definitions.Pieces.{Search, piece_taken}
use Rattle.hunt.proofs.Taking.{searching, next_taken, piece_passed}
use Rattle.hunt.proofs.Hunt.take_piece.Goals as goal

pub loop-symbol-init : goal.loop-symbol-init
loop-symbol-init c =
    let self = c.args.self.now in (
      omega arith,
      c.requires.0,
      ap (λ (f : ℕ). piece_taken (record { hunt = record { taken = self.taken; found = f }; kept = c.args.kept.now }) c.args.piece.now) (sym c.requires.0),
    )

pub returns-then-found : goal.returns-then-found
returns-then-found c =
    let i = c.loop-symbol.symbol-index in
    sym (piece_passed (record { hunt = record { taken = c.loop-symbol.self.taken + 1; found = 1 }; kept = c.take_symbol-found.new.kept })
    (drop (i + 1) c.args.piece.now) (λ e. omega arith))
    ∙ next_taken c.loop-symbol.self.taken c.loop-symbol.kept c.args.piece.now i (omega arith) c.if-found.ensures.kept_after c.if-found.ensures.value
    ∙ c.loop-symbol.invariant.2

pub loop-symbol-preserved : goal.loop-symbol-preserved
loop-symbol-preserved c =
    let i = c.loop-symbol.symbol-index in (
      omega (arith, c.loop-symbol.invariant.0),
      c.loop-symbol.invariant.1,
      next_taken c.loop-symbol.self.taken c.loop-symbol.kept c.args.piece.now i (omega arith) c.if-found.ensures.kept_after c.if-found.ensures.value
          ∙ c.loop-symbol.invariant.2,
    )

pub returns : goal.returns
unfolding piece_taken
returns c =
    let none = drop_of_length-le c.args.piece.now {i = c.loop-symbol.symbol-index} (omega arith) in
    let now : ℕ → Search = λ f. record { hunt = record { taken = c.loop-symbol.self.taken; found = f }; kept = c.loop-symbol.kept } in
    ap now c.loop-symbol.invariant.1 ∙ ap (piece_taken (searching c.loop-symbol.self.taken c.loop-symbol.kept)) (sym none) ∙ c.loop-symbol.invariant.2
