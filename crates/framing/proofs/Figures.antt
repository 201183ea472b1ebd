-- The bench figures, computed.
-- Assumes nothing.
use mathlib.Core.Path.{refl}
use Rattle.bits.specs.definitions.Bits.{tabulate}
use Rattle.bch.specs.definitions.Code.{step_of, feed_of, parity_of}
use Rattle.lanes.specs.definitions.Permutation.{permuted, named}
use Rattle.lanes.specs.definitions.Stream.{delayed, interleaved}
use Rattle.shuffle.specs.definitions.Shuffle.{place}
use Rattle.symbols.specs.definitions.Mapping.{lane_of, upper, lower, payload_at}
use Rattle.framing.specs.definitions.Figures.{figures}
use Rattle.framing.specs.statements.Figures.{BenchFigures}

pub bench_figures : BenchFigures
unfolding tabulate step_of feed_of parity_of permuted named delayed interleaved place lane_of upper lower payload_at figures
bench_figures = refl
