-- `demapping::part_bytes` meets its contract: `parted`. Assumes nothing.
use mathlib.Core.Path.{refl}
use native.Mathlib.Omega.{arith}
use Rattle.bits.specs.definitions.Bits.{AllBytes}
use Rattle.demapping.proofs.Gathering.{parted}
use Rattle.demapping.proofs.part_bytes.Goals as goal

pub returns : goal.returns
returns c =
    let bytes : AllBytes c.args.s.now = record { byte = λ m. omega (arith, c.type_inv.s m) } in
    parted _ _ _ bytes c.pairs.ensures _ c.args.out.now refl c.requires.1 c.byte_of_each.ensures c.byte_of_each-2.ensures
