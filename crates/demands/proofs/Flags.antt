-- `FlagsExactly`: what a call leaves is, word by word, what the word decodes to.
-- Assumes nothing.
use mathlib.Core.Path.{◌≡◌, sym, ap, ◌∙◌}
use mathlib.Core.List.{List}
use Prim.Native.Nat.{ℕ}
use lib.ListN.{length, get_or}
use Rattle.decoder.specs.definitions.Mend.{mend, flag_of}
use Rattle.decoder.proofs.Theorems.{mends_two, flagged_exactly, flagged_passes}
use Rattle.symbols.specs.definitions.Frame.{arrived}
use Rattle.symbols.proofs.Return.{arrived_lt}
use Rattle.framing.specs.definitions.Receive.{received_words, brought_lanes, received_flags}
use Rattle.framing.proofs.Receiving.{flags_length, done}
use Rattle.framing.proofs.Received.{passed_on, passed_at, flag_at_lem}
use Rattle.demands.specs.statements.Flags.{FlagsExactly}

pub flags_exactly : FlagsExactly
unfolding passed_on brought_lanes
flags_exactly ex f s o g r s' o' g' C z =
    let out = done ex f s o g r s' o' g' z C in
    let left : g' ≡ received_flags f = out.2 in (
      ap length left ∙ flags_length f,
      received_words f,
      out.1,
      out.0,
      λ i h.
          let w = arrived f i in
          let e : get_or g' i 0 ≡ flag_of (mend w) = ap (λ (l : List ℕ). get_or l i 0) left ∙ flag_at_lem f i h in
          let x = flagged_exactly w (arrived_lt f i) in (
            (λ t. x.0 (sym e ∙ t), λ far. e ∙ x.1 far),
            λ t. passed_at f i h ∙ flagged_passes w (sym e ∙ t),
            λ c K d. let m = mends_two c w K (arrived_lt f i) d in (passed_at f i h ∙ m.0, e ∙ m.1),
          ),
    )
