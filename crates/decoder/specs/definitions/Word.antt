-- What words decode to, over words in two numbers and over the 384 words of a frame.
-- Assumes nothing.
use Rattle.std.specs.Prelude.{List, ℕ, ◌/◌, ◌%◌, ◌^◌}
use Rattle.bits.specs.definitions.Bits.{tabulate}
use Rattle.bits.specs.definitions.Words.{word_at, row_of}
use Rattle.decoder.specs.definitions.Mend.{mend, mended, flag_of}
use Rattle.decoder.specs.declared.Decoded.{Decoded}

-- what a word decodes to, in two numbers, and which bits were mended
unfoldable pub decoded : ℕ → Decoded
decoded w = record { word = record { hi = mended w (mend w) / 2 ^ 64; lo = mended w (mend w) % 2 ^ 64 }; mend = mend w }

-- a frame's words as they are passed on
unfoldable pub mended_frame : List ℕ → List ℕ
mended_frame s = row_of 384 (λ i. mended (word_at s i) (mend (word_at s i)))

-- and their flag bytes
unfoldable pub flags_of : List ℕ → List ℕ
flags_of s = tabulate 384 (λ i. flag_of (mend (word_at s i)))
