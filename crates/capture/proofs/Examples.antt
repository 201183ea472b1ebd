-- The examples hold: computed.
-- Assumes nothing.
use mathlib.Core.Path.{refl}
use Rattle.bits.specs.definitions.Bits.{tabulate, value}
use Rattle.capture.specs.definitions.Capture.{big_endian_at, refusal_at, refused_or, order_at, frame_at, read_at, big_endian, order_record}
use Rattle.capture.specs.definitions.Examples.{examples}
use Rattle.capture.specs.statements.Examples.{Examples}

pub examples_hold : Examples
unfolding examples read_at order_at frame_at refused_or refusal_at big_endian_at value order_record big_endian tabulate
examples_hold = (refl, refl)
