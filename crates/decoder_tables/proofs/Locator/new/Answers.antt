-- `decoder_tables::Locator::new` meets its contract: the tables keep their rules. Assumes nothing.
use Rattle.decoder_tables.proofs.Entries.{finds, is_columns, is_single_bits}
use Rattle.decoder_tables.proofs.Locator.new.Goals as goal

pub invariant_of-result : goal.invariant_of-result
invariant_of-result c = record { finds = finds; are_columns = is_columns; are_single_bits = is_single_bits }
