-- The mapping (01, mapping; 000, 6; 001): where a place of a word goes in the frame, and where it comes from.
-- Assumes nothing.
use Rattle.std.specs.Prelude.{cond, ℕ, ◌+◌, ◌*◌, ◌/◌, ◌%◌, eqb}

-- the lane that tributary t (XI, XQ, YI, YQ) takes its two bits from, in symbol l of the 504 of one word of all lanes
unfoldable pub lane_of : ℕ → ℕ → ℕ
lane_of l t = 4 * (l / 63) + (2 * l + l / 2 % 2 + t) % 4

-- the place of the label's upper bit, the same in all four tributaries
unfoldable pub upper : ℕ → ℕ
upper l = 2 * (l % 63) + l % 2

-- the place of the label's lower bit
unfoldable pub lower : ℕ → ℕ
lower l = 2 * (l % 63) + (l + 1) % 2

-- the place that bit i of the symbol's byte takes, the top bit being bit 0: each tributary has its upper bit and then its lower one
abbrev pub place_of : ℕ → ℕ → ℕ
place_of l i = cond (eqb (i % 2) 0) (upper l) (lower l)

-- where payload symbol m stands in the frame: behind the pilot of its 63
unfoldable pub payload_at : ℕ → ℕ
payload_at m = 64 * (m / 63) + 1 + m % 63

-- the other way: the symbol, of the 504, that carries place r of lane p
unfoldable pub symbol_of : ℕ → ℕ → ℕ
symbol_of p r = 63 * (p / 4) + r / 2

-- the tributary that carries it
unfoldable pub tributary_of : ℕ → ℕ → ℕ
tributary_of p r = (p + 3 * (2 * symbol_of p r + symbol_of p r / 2 % 2)) % 4

-- the bit of the symbol's byte that it is
unfoldable pub bit_in : ℕ → ℕ → ℕ
bit_in p r = 2 * tributary_of p r + (r + symbol_of p r) % 2
