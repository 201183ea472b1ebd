-- The mapping undone, as specs/statements/Mapping states it: each place of a lane is met once, in its symbol and its tributary. Each 63 payload symbols
-- carry four whole words, two bits of each word in each symbol.
-- Assumes nothing.
use mathlib.Core.Path.{◌≡◌, sym, ap, ap₂, ◌∙◌}
use mathlib.Core.Bool.{Bool, true, cond}
use Prim.Native.Nat.{ℕ, ◌+◌, ◌*◌, ◌/◌, ◌%◌, ◌<◌}
use native.Mathlib.Nat.{le_antisymm}
use native.Mathlib.Decide.{ℕ_discrete}
use native.Mathlib.Omega.{arith}
use lib.Dec.{T, eqb, eqb→eq}
use borrow.Author.Tests.{eq-eqb, ne_eqb, eqb-true}
use Rattle.bits.specs.definitions.Bits.{count}
use Rattle.bits.proofs.Table.{each, range_rule}
use Rattle.bits.proofs.Count.{count_inject}
use Rattle.shuffle.specs.definitions.Shuffle.{place, unplace}
use Rattle.shuffle.proofs.Places.{unplace_place, place_unplace, place_lt, unplace_lt}
use Rattle.symbols.specs.definitions.Mapping.{lane_of, upper, lower, place_of, symbol_of, tributary_of, bit_in}
use Rattle.symbols.specs.statements.Mapping.{MappingBack}

module _ (p r : ℕ) (h : p < 32) (l : r < 126) where
  pub symbol_lt : symbol_of p r < 504
  unfolding symbol_of
  symbol_lt = omega arith

  pub bit_in_lt : bit_in p r < 8
  unfolding bit_in tributary_of
  bit_in_lt = omega arith

  -- its number tells the four lanes and the two places
  symbol_lanes : symbol_of p r / 63 ≡ p / 4
  unfolding symbol_of
  symbol_lanes = omega arith

  symbol_places : symbol_of p r % 63 ≡ r / 2
  unfolding symbol_of
  symbol_places = omega arith

  -- its tributary has lane p there
  pub lane_back : lane_of (symbol_of p r) (bit_in p r / 2) ≡ p
  unfolding lane_of bit_in tributary_of
  lane_back =
      let s = symbol_of p r in
      let t : (2 * tributary_of p r + (r + s) % 2) / 2 ≡ tributary_of p r = omega arith in
      ap₂ (λ (a b : ℕ). 4 * a + (2 * s + s / 2 % 2 + b) % 4) symbol_lanes t
      ∙ ap (λ (v : ℕ). 4 * (p / 4) + v) (turn (2 * s + s / 2 % 2)) ∙ omega arith
    where
      turn : (x : ℕ) → (x + (p + 3 * x) % 4) % 4 ≡ p % 4
      turn x = omega arith

  -- at the place r, as its upper or its lower bit
  pub place_back : place_of (symbol_of p r) (bit_in p r) ≡ r
  unfolding bit_in upper lower
  place_back = go (ℕ_discrete (bit_in p r % 2) 0)
    where
      s : ℕ
      s = symbol_of p r

      go : Dec (bit_in p r % 2 ≡ 0) → cond (eqb (bit_in p r % 2) 0) (2 * (s % 63) + s % 2) (2 * (s % 63) + (s + 1) % 2) ≡ r
      go (yes e) = rw (eq-eqb (bit_in p r % 2) 0 e, symbol_places) (omega arith)
      go (no e) = rw (ne_eqb (bit_in p r % 2) 0 e, symbol_places) (omega arith)

-- and the other way: the lane and the place of bit i of symbol l lead back to l and i
module _ (l i : ℕ) (h : l < 504) (b : i < 8) where
  pub lane_lt : lane_of l (i / 2) < 32
  unfolding lane_of
  lane_lt = omega arith

  lane_lanes : lane_of l (i / 2) / 4 ≡ l / 63
  unfolding lane_of
  lane_lanes = omega arith

  -- one of the two places of symbol l, by its parity
  place_is : (place_of l i < 126) × (place_of l i / 2 ≡ l % 63) × ((place_of l i + l) % 2 ≡ i % 2)
  unfolding upper lower
  place_is = go (ℕ_discrete (i % 2) 0)
    where
      go : Dec (i % 2 ≡ 0) → (place_of l i < 126) × (place_of l i / 2 ≡ l % 63) × ((place_of l i + l) % 2 ≡ i % 2)
      go (yes e) = rw (eq-eqb (i % 2) 0 e) (omega arith, omega arith, omega arith)
      go (no e) = rw (ne_eqb (i % 2) 0 e) (omega arith, omega arith, omega arith)

  pub place_of_lt : place_of l i < 126
  place_of_lt = place_is.0

  pub symbol_back : symbol_of (lane_of l (i / 2)) (place_of l i) ≡ l
  unfolding symbol_of
  symbol_back = rw (lane_lanes, place_is.1) (omega arith)

  pub bit_back : bit_in (lane_of l (i / 2)) (place_of l i) ≡ i
  unfolding bit_in tributary_of lane_of
  bit_back = rw (symbol_back, place_is.2, turn (2 * l + l / 2 % 2) (l / 63) (i / 2) (omega arith)) (omega arith)
    where
      turn : (x y t : ℕ) → t < 4 → (4 * y + (x + t) % 4 + 3 * x) % 4 ≡ t
      turn x y t l = omega arith

pub mapping_back : MappingBack
mapping_back = (
  λ p r h l. (symbol_lt p r h l, bit_in_lt p r h l, lane_back p r h l, place_back p r h l),
  λ l i h b. (lane_lt l i h b, place_of_lt l i h b, symbol_back l i h b, bit_back l i h b),
)

-- ---- four whole words in each 63 payload symbols

-- the payload symbol that carries bit q of word i
abbrev pub carrier : ℕ → ℕ → ℕ
carrier i q = 504 * (i / 32) + symbol_of (i % 32) (place (i % 32) q)

carrier_is : (i q : ℕ) → carrier i q ≡ 63 * (i / 4) + place (i % 32) q / 2
unfolding symbol_of
carrier_is i q = omega arith

-- every bit of words 4 g to 4 g + 3 lies in the 63 from 63 g on
pub carrier_group : (i q : ℕ) → q < 126 → carrier i q / 63 ≡ i / 4
carrier_group i q h = rw (carrier_is i q) (omega (arith, place_lt (i % 32) q h))

places_ok : ℕ → Bool
places_ok j = eqb (count (λ r. eqb (r / 2) j) 126) 2

places_test : T (each places_ok 63 0)
unfolding places_ok count
places_test = tt

-- two places to a symbol
places_two : (j : ℕ) → j < 63 → count (λ r. eqb (r / 2) j) 126 ≡ 2
unfolding places_ok
places_two j h = eqb→eq (count (λ r. eqb (r / 2) j) 126) 2 (range_rule places_ok 63 0 places_test j (omega arith) (omega arith))

-- and in each of them two bits of each of the four words
pub carrier_two : (i j : ℕ) → j < 63 → count (λ q. eqb (carrier i q) (63 * (i / 4) + j)) 126 ≡ 2
carrier_two i j h =
    le_antisymm
    (count_inject _ 126 _ 126 (place p)
    (λ q l t. (place_lt p q l, eq-eqb (place p q / 2) j (omega (arith, carrier_is i q, eqb-true (carrier i q) (63 * (i / 4) + j) t))))
    (λ q u _ _ _ _ e. sym (unplace_place p q) ∙ ap (unplace p) e ∙ unplace_place p u))
    (count_inject _ 126 _ 126 (unplace p)
    (λ r l t. (unplace_lt p r l, eq-eqb (carrier i (unplace p r)) (63 * (i / 4) + j) (found r t)))
    (λ r u _ _ _ _ e. sym (place_unplace p r) ∙ ap (place p) e ∙ place_unplace p u))
    ∙ places_two j h
  where
    p : ℕ
    p = i % 32

    found : (r : ℕ) → eqb (r / 2) j ≡ true → carrier i (unplace p r) ≡ 63 * (i / 4) + j
    found r t =
        carrier_is i (unplace p r)
        ∙ ap₂ (λ (a b : ℕ). 63 * (i / 4) + a) (ap (λ (x : ℕ). x / 2) (place_unplace p r) ∙ eqb-true (r / 2) j t) (place_unplace p r)
