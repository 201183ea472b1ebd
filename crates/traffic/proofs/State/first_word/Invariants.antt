-- The loop of `traffic::State::first_word`: sixteen bits a turn. Assumes nothing.
use mathlib.Core.Path.{◌≡◌}
use Prim.Native.Nat.{◌*◌}
use Rattle.bits.specs.definitions.Bits.{number}
use Rattle.traffic.specs.definitions.Register.{state_from, bit_from}
use Rattle.traffic.proofs.State.first_word.Given as goal

abbrev pub invariant-loop : goal.invariant-loop
invariant-loop l = record {
  state : l.state.bits ≡ state_from l.fn.self.bits (16 * l.counter);
  word : l.word ≡ number (16 * l.counter) (bit_from l.fn.self.bits);
}
