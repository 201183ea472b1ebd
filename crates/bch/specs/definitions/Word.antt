-- A word's information, and the 384 words of a frame as they are sent.
-- Assumes nothing.
use Rattle.std.specs.Prelude.{List, ℕ, ◌/◌, ◌^◌}
use Rattle.bits.specs.definitions.Words.{word_at, row_of}
use Rattle.bch.specs.definitions.Code.{coded}

-- a word's information: bits 0 to 109
abbrev pub information_of : ℕ → ℕ
information_of w = w / 2 ^ 16

-- a frame's words as they are sent: each with the parity of its information
unfoldable pub coded_frame : List ℕ → List ℕ
coded_frame s = row_of 384 (λ i. coded (information_of (word_at s i)))
