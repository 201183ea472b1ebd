-- `bits::put` meets its contract: the number's bytes are copied. Assumes nothing.
use mathlib.Core.Path.{refl, ◌∙◌}
use native.Mathlib.Omega.{arith}
use Rattle.bits.proofs.Joins.{put_eight}
use Rattle.bits.proofs.put.Goals as goal

pub returns-then-out-lt8 : goal.returns-then-out-lt8
returns-then-out-lt8 c = record { room = λ h. absurd (omega arith); none = λ h. refl }

pub returns : goal.returns
returns c =
    put_eight c.args.v c.args.o c.args.out.now _ (omega arith) (omega arith) (c.copy_from_slice.ensures.after ∙ c.to_be_bytes.ensures)
    (record { byte = λ m. omega (arith, c.type_inv.out m) })
