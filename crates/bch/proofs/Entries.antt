-- The rule of the table, by a test that antt computes over the whole of it.
-- Assumes nothing.
use mathlib.Core.Bool.{Bool}
use Prim.Native.Nat.{ℕ, ◌*◌, ◌^◌}
use lib.Dec.{T, eqb, eqb→eq}
use lib.ListN.{get_or}
use Rattle.bits.proofs.Table.{every, table_rule}
use Rattle.bch.specs.definitions.Code.{step_of, feed_of, remainder}
use Rattle.bch.specs.private.Tables.{IsByteRemainders}
use Rattle.bch.proofs.Lists.{byte_remainders}

byte_ok : ℕ → ℕ → Bool
byte_ok b x = eqb x (remainder 24 (b * 2 ^ 16))

byte_test : T (every byte_ok 0 byte_remainders)
unfolding byte_ok feed_of step_of
byte_test = tt

pub is_byte_remainders : IsByteRemainders byte_remainders
unfolding byte_ok
is_byte_remainders = record {
  entry = λ b h. eqb→eq (get_or byte_remainders b 0) (remainder 24 (b * 2 ^ 16))
      (table_rule byte_ok byte_remainders byte_test b h);
}
