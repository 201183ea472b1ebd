-- What stands at a place, by example; `proofs/Examples` computes each.
-- Assumes nothing.
use Rattle.std.specs.Prelude.{◌≡◌, map}
use Rattle.capture.specs.definitions.Capture.{read_at, order_record}
use Rattle.capture.specs.definitions.Examples.{lone_order, examples}

-- the definition says so, and the order's bytes are those of its record
abbrev pub Examples : Type 0
Examples = (map (λ e. read_at e.bytes e.place) examples ≡ map (λ e. e.stands) examples) × (order_record 0 1 0 ≡ lone_order)
