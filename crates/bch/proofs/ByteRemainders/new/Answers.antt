-- `bch::ByteRemainders::new` meets its contract: the table keeps its rule. Assumes nothing.
use Rattle.bch.proofs.Entries.{is_byte_remainders}
use Rattle.bch.proofs.ByteRemainders.new.Goals as goal

pub invariant_of-result : goal.invariant_of-result
invariant_of-result c = record { is = is_byte_remainders }
