-- What stands at a place, by example: the order of 01 (account and verdict), and each rule of the paragraph under the refusal list at its edge.
-- Assumes nothing.
use Rattle.std.specs.Prelude.{List, [], ◌∷◌, ℕ, ◌+◌, length, replicate}
use Rattle.capture.specs.definitions.Read.{Read, End, Refused, Order, Frame}

-- bytes, a place, and what stands there
pub record Example : Type 0 where
  pub bytes : List ℕ
  pub place : ℕ
  pub stands : Read

-- start 0, asked 1, allowed 0, as 01 prints it
abbrev pub lone_order : List ℕ
lone_order = 0x00 ∷ 0x00 ∷ 0x00 ∷ 0x0E ∷ 0x01 ∷ 0x00 ∷ 0 ∷ 0 ∷ 0 ∷ 0 ∷ 0 ∷ 0 ∷ 0 ∷ 1 ∷ 0 ∷ 0 ∷ 0 ∷ 0 ∷ []

-- an order's length, then this version and kind, and twelve bytes
abbrev pub with_head : ℕ → ℕ → List ℕ
with_head version kind = 0 ∷ 0 ∷ 0 ∷ 14 ∷ version ∷ kind ∷ replicate 12 0

-- the lone order, then the end, 6, 7, 8 and 9 each at its edge, and a frame
unfoldable pub examples : List Example
examples =
    record { bytes = lone_order; place = 0; stands = Order 0 1 0 (length lone_order) }
    -- no byte left, at the end and beyond it
    ∷ record { bytes = []; place = 0; stands = End }
    ∷ record { bytes = lone_order; place = length lone_order; stands = End }
    ∷ record { bytes = lone_order; place = length lone_order + 1; stands = End }
    -- fewer than four bytes; four with another length, even when nothing follows; a lawful length cut short, even where the version is wrong
    ∷ record { bytes = lone_order; place = 15; stands = Refused 6 }
    ∷ record { bytes = lone_order; place = 14; stands = Refused 7 }
    ∷ record { bytes = 0 ∷ 0 ∷ 0 ∷ 14 ∷ []; place = 0; stands = Refused 6 }
    ∷ record { bytes = 0 ∷ 0 ∷ 0 ∷ 14 ∷ 2 ∷ 0 ∷ replicate 11 0; place = 0; stands = Refused 6 }
    ∷ record { bytes = 0 ∷ 0 ∷ 24 ∷ 6 ∷ 2 ∷ 0 ∷ replicate 11 0; place = 0; stands = Refused 6 }
    -- version before kind; a frame's kind under an order's length; a kind above 1
    ∷ record { bytes = with_head 2 1; place = 0; stands = Refused 8 }
    ∷ record { bytes = with_head 1 1; place = 0; stands = Refused 9 }
    ∷ record { bytes = with_head 1 2; place = 0; stands = Refused 9 }
    -- a frame, its symbols ten bytes behind its place, and an order's kind under a frame's length
    ∷ record { bytes = 9 ∷ 0 ∷ 0 ∷ 24 ∷ 6 ∷ 1 ∷ 1 ∷ 0 ∷ 0 ∷ 1 ∷ 2 ∷ replicate 6144 0; place = 1; stands = Frame 258 11 6155 }
    ∷ record { bytes = 0 ∷ 0 ∷ 24 ∷ 6 ∷ 1 ∷ 0 ∷ 0 ∷ 0 ∷ 1 ∷ 2 ∷ replicate 6144 0; place = 0; stands = Refused 9 }
    ∷ []
