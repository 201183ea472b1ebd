-- 02, request 02: why words 0 to 13 of each lane are not tallied; `proofs/Fill` proves each.
-- Assumes nothing.
use Rattle.std.specs.Prelude.{◌≡◌, true, false, ◌↔◌, ℕ, ◌+◌, ◌*◌, ◌/◌, ◌%◌, ◌^◌, ◌≤◌, ◌<◌}
use Rattle.lanes.specs.definitions.Permutation.{Places}
use Rattle.lanes.specs.definitions.Stream.{stream_bit}
use Rattle.account.specs.declared.Account.{Account}
use Rattle.account.specs.definitions.Account.{tallied}
use Rattle.capture.specs.definitions.Capture.{frame_number}
use Rattle.demands.specs.definitions.Fill.{is_fill, CarriesFill, free_of_fill, AlwaysCarries}

-- Whichever places are exchanged: a bit from before the stream is 0 in every fresh run, whatever is sent; and any other is a bit of the stream, always that of
-- one lane and one place
abbrev pub FillBits : Type 0
FillBits =
    (ex : Places) (p w q : ℕ) → p < 32 → q < 110
    → (is_fill (110 * w + q) ≡ true → AlwaysCarries ex p w q (λ lanes. 0))
    × (is_fill (110 * w + q) ≡ false → (p' : ℕ) × (i : ℕ) × (p' < 32) × (i ≤ 110 * w + q) × AlwaysCarries ex p w q (λ lanes. stream_bit lanes p' i))

-- Word w of a lane carries a bit from before the stream exactly if w < 14; and these are the words, of each lane and whichever places are exchanged, that have
-- a bit which nothing sent can change
abbrev pub FillWords : Type 0
FillWords =
    (w : ℕ)
    → (CarriesFill w ↔ (w < 14))
    × ((ex : Places) (p : ℕ) → p < 32 → ((q : ℕ) × (q < 110) × (v : ℕ) × AlwaysCarries ex p w q (λ lanes. v)) ↔ (w < 14))

-- And so the tallied words are exactly those free of fill, in the first two frames and in all later ones, until the numbers come round; and the others are
-- exactly those that have a bit which nothing sent can change
abbrev pub TalliedExactly : Type 0
TalliedExactly =
    (a : Account) (k i : ℕ) → a.start < 2 ^ 32 → k < 2 ^ 32 → i < 384
    → (tallied a (frame_number a.start k) i ≡ free_of_fill k i)
    × ((free_of_fill k i ≡ true) ↔ (CarriesFill (12 * k + i / 32) → ⊥))
    × ((ex : Places)
    → (free_of_fill k i ≡ false) ↔ ((q : ℕ) × (q < 110) × (v : ℕ) × AlwaysCarries ex (i % 32) (12 * k + i / 32) q (λ lanes. v)))
