-- The report by example: the one that 01 prints (account and verdict), and the one of a capture with no order first. And what stands in it for a number.
-- `proofs/Examples` and `proofs/Decimal` prove them.
-- Assumes nothing.
use Rattle.std.specs.Prelude.{◌≡◌, ◌≢◌, ℕ, ◌-◌, ◌^◌, ◌≤◌, ◌<◌, length, get_or}
use mathlib.Core.List.{List, Memᴰ}
use Rattle.bits.specs.definitions.Bits.{value}
use Rattle.capture.specs.definitions.Read.{Order}
use Rattle.capture.specs.definitions.Capture.{read_at}
use Rattle.capture.specs.definitions.Examples.{lone_order}
use Rattle.bench.specs.definitions.Walk.{examined}
use Rattle.report.specs.definitions.Report.{ascii, decimal, text}

-- 01's lone order: start 0, asked 1, allowed 0
abbrev pub LoneOrder : Type 0
LoneOrder = text (examined lone_order) ≡ ascii "asked 1\naccepted 0\nmissing 0\nclean 0\none 0\ntwo 0\nflagged 0\nverdict NOT MEASURED\n"

-- with no order first every number prints 0
abbrev pub NoOrder : Type 0
NoOrder =
    (s : List ℕ) → ((start asked allowed next : ℕ) → read_at s 0 ≢ Order start asked allowed next)
    → text (examined s) ≡ ascii "asked 0\naccepted 0\nmissing 0\nclean 0\none 0\ntwo 0\nflagged 0\nverdict NOT MEASURED\n"

-- a number in decimal reads as itself, digit by digit, and no zero stands in front of it; 0 is the digit 0
abbrev pub DecimalReads : Type 0
DecimalReads =
    ((n : ℕ) → n < 2 ^ 64 → (value 10 (length (decimal n)) (λ k. get_or (decimal n) k 0 - 48) ≡ n) × (1 ≤ n → get_or (decimal n) 0 0 ≢ 48))
    × (decimal 0 ≡ ascii "0")
    × ((n b : ℕ) → Memᴰ b (decimal n) → (48 ≤ b) × (b ≤ 57))
