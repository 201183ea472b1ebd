-- Pilots and lock (01, pilots and refusal 5; 000, 7.1, table 4; table 5 is in Table5), and where a string first locks (02, request 04).
-- Assumes nothing.
use Rattle.std.specs.Prelude.{Bool, cond, not, ◌&&◌, Option, Some, None, List, ℕ, zero, suc, ◌+◌, ◌*◌, ◌-◌, ◌/◌, ◌%◌, ◌^◌, length, get_or, eqb, ltb}
use Rattle.bits.specs.definitions.Bits.{tabulate, count, least}
use Rattle.pilots.specs.definitions.Table5.{pilots}

-- one step of the register of table 4: nine bits, the lowest leaves, and x^9 + x^8 + x^5 + x^4 + 1 gives what enters on top
unfoldable pub register_next : ℕ → ℕ
register_next s = s / 2 + (s + s / 2 ^ 4 + s / 2 ^ 5 + s / 2 ^ 8) % 2 * 2 ^ 8

-- bit i that leaves the register from the seed s on
unfoldable pub leaves : ℕ → ℕ → ℕ
leaves s zero = s % 2
leaves s (suc i) = leaves (register_next s) i

-- the two labels of one polarization of pilot k, I then Q: bit b is the label 2 b, so that 1 is +3 and 0 is -3
unfoldable pub labels_of : ℕ → ℕ → ℕ
labels_of s k = leaves s (2 * k) * 8 + leaves s (2 * k + 1) * 2

-- pilot k as table 4 has it: X by the seed 175 (hex), Y by the seed 03D
unfoldable pub pilot_of : ℕ → ℕ
pilot_of k = labels_of 0x175 k * 16 + labels_of 0x03D k

-- the label of pilot k in tributary t (XI, XQ, YI, YQ), two bits each, XI on top
unfoldable pub pilot_label : ℕ → ℕ → ℕ
pilot_label k t = get_or pilots k 0 / 4 ^ (3 - t) % 4

-- pilot i is met in the string s from offset o on: symbol o + 64 i is there and has the pilot's byte
unfoldable pub met : List ℕ → ℕ → ℕ → Bool
met s o i = ltb (o + 64 * i) (length s) && eqb (get_or s (o + 64 * i) 0) (get_or pilots i 0)

-- how many of the 96 pilot bytes differ, a missing symbol counting as different
unfoldable pub wrong_pilots : List ℕ → ℕ → ℕ
wrong_pilots s o = count (λ i. not (met s o i)) 96

-- so many that differ are no lock
abbrev pub lock_limit : ℕ
lock_limit = 25

-- the string s locks from offset o on
unfoldable pub locks : List ℕ → ℕ → Bool
locks s o = ltb (wrong_pilots s o) lock_limit

-- how many symbols a frame has (01, one frame in numbers)
abbrev pub frame_symbols : ℕ
frame_symbols = 6144

-- how many offsets of the string s have a whole frame behind them: all those below this number
abbrev pub offsets : List ℕ → ℕ
offsets s = suc (length s) - frame_symbols

-- the smallest of these at which s locks; their number, where it locks at none
unfoldable pub first_lock : List ℕ → ℕ
first_lock s = least (locks s) (offsets s)

-- the number o if it is below n, else none
abbrev pub below : ℕ → ℕ → Option ℕ
below n o = cond (ltb o n) (Some o) None

-- a column is 96 symbols that stood 64 apart, kept side by side. A frame whose pilots' symbols they are, the first at row `first`, the others behind it and
-- round; each stands 64 times in it
unfoldable pub column_frame : List ℕ → ℕ → List ℕ
column_frame column first = tabulate frame_symbols (λ j. get_or column ((first + j / 64) % 96) 0)

-- they are 96, and such a frame locks
unfoldable pub locked_column : List ℕ → ℕ → Bool
locked_column column first = eqb (length column) 96 && locks (column_frame column first) 0
