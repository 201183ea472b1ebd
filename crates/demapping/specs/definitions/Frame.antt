-- A call that reads the 384 words of a frame of 6,144 symbols (01, one frame in numbers, mapping).
-- Assumes nothing.
use Rattle.std.specs.Prelude.{◌≡◌, Bool, cond, List, ℕ, length, eqb}
use Rattle.symbols.specs.definitions.Frame.{words_of}

-- a call that reads the words of the frame f, with the row w to be written: whether the frame is as long as it must be, and the row at exit
pub record ReadsFrame (f w : List ℕ) (r : Bool) (w' : List ℕ) : Type 0 where
  pub done : r ≡ eqb (length f) 6144
  pub words : w' ≡ cond r (words_of f) w
