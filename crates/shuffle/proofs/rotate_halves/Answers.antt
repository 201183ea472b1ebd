-- `shuffle::rotate_halves` meets its contract: by less than a half, or by more. Assumes nothing.
use Rattle.shuffle.proofs.Rotating.{rotated_lt, rotated_ge}
use Rattle.shuffle.proofs.rotate_halves.Goals as goal
use Rattle.shuffle.proofs.rotate_halves.Goals.{then-n-lt55, else-n-lt55}

pub returns : goal.returns
returns c =
    let one = c.cross.ensures.0 in
    let two = c.cross-2.ensures.0 in
    elim c.if-n-lt55.branch [
      | then-n-lt55 w ↦ let at = w.if-n-lt55.true in rw (one, two, w.x-is) (rotated_lt _ _ _ at, rotated_lt _ _ _ at)
      | else-n-lt55 w ↦ let at = w.if-n-lt55.false in rw (one, two, w.x-is) (rotated_ge _ _ _ at, rotated_ge _ _ _ at)
    ]
