-- The rule of each table, by tests that antt computes over the whole table, or over all 8,002 patterns.
-- Assumes nothing.
use mathlib.Core.Path.{◌≡◌, refl, sym, ap, ap₂, ◌∙◌}
use mathlib.Core.Bool.{Bool, cond, ◌&&◌}
use mathlib.Core.Logic.{◌⊎◌, inl, inr}
use mathlib.Core.List.{List, [], ◌∷◌, ◌++◌, map}
use Prim.Native.Nat.{ℕ, zero, suc, ◌+◌, ◌-◌, ◌*◌, ◌/◌, ◌%◌, ◌^◌, ◌<◌, ◌≤◌, zero-le}
use native.Mathlib.Decide.{dec_lt}
use native.Mathlib.Omega.{arith}
use lib.Dec.{T, eqb, eqb→eq, ltb, ltb→lt, leb, leb→le}
use lib.ListN.{length, get_or, take, get_or-append, get_or-map}
use lib.Seq.{get_or-append-add, get_or-take}
use lib.Bits.{bit_xor, xor_lt, xor_mod, xor_shr}
use borrow.Author.Tests.{lt-ltb, le-ltb}
use Rattle.bits.proofs.Xor.{xor_four, bit_cases}
use Rattle.bits.proofs.Table.{every, every_two, each, table_rule, pairs_rule, range_rule, and_left, and_right}
use Rattle.bits.proofs.Sums.{sums, sum_at, sums_long, sums_at, sum_xor}
use Rattle.bch.specs.definitions.Code.{step_of, feed_of, remainder}
use Rattle.decoder_tables.specs.private.Tables.{single, column, IsColumns, IsSingleBits, Finds, place_by, located, values_of, rising_of}
use Rattle.decoder_tables.specs.declared.Arrays.{Arrays}
use Rattle.bch.proofs.Remainder.{remainder_lt, remainder_zero, remainder_power}
use Rattle.decoder_tables.proofs.Lists.{field, log, cube, one, other, place, columns, single_bits}

-- ---- `COLUMNS`: entry 125 is 1, each before it is the one behind it times x, and those of no bit are 0

column_ok : ℕ → Bool
column_ok i = eqb (get_or columns i 0) (step_of (get_or columns (suc i) 0) 0)

column_test : T (each column_ok 125 0)
unfolding column_ok step_of
column_test = tt

column_up : (e : ℕ) → e < 126 → get_or columns (125 - e) 0 ≡ remainder 126 (2 ^ e)
unfolding column_ok feed_of step_of
column_up zero h = refl
column_up (suc e) h =
    let i : suc (125 - suc e) ≡ 125 - e = omega arith in
    eqb→eq (get_or columns (125 - suc e) 0) (step_of (get_or columns (suc (125 - suc e)) 0) 0)
    (range_rule column_ok 125 0 column_test (125 - suc e) (omega arith) (omega arith))
    ∙ ap (λ (x : ℕ). step_of x 0) (ap (λ (k : ℕ). get_or columns k 0) i ∙ column_up e (omega arith))
    ∙ sym (remainder_power 125 e (omega arith))

column_entry : (i : ℕ) → i < 128 → get_or columns i 0 ≡ column i
unfolding column single
column_entry i h = go (dec_lt i 126)
  where
    go : Dec (i < 126) → get_or columns i 0 ≡ remainder 126 (cond (ltb i 126) (2 ^ (125 - i)) 0)
    go (yes l) =
        let e : 125 - (125 - i) ≡ i = omega arith in
        rw (lt-ltb i 126 l) (ap (λ (k : ℕ). get_or columns k 0) (sym e) ∙ column_up (125 - i) (omega arith))
    go (no n) = rw (le-ltb i 126 (omega arith)) (beyond (bit_cases (i - 126) (omega arith)) ∙ sym (remainder_zero 126))
      where
        beyond : (i - 126 ≡ 0) ⊎ (i - 126 ≡ 1) → get_or columns i 0 ≡ 0
        beyond (inl e) = let f : i ≡ 126 = omega arith in rw f
        beyond (inr e) = let f : i ≡ 127 = omega arith in rw f

pub is_columns : IsColumns columns
is_columns = record { entry = column_entry }

-- ---- `SINGLE_BITS`: two numbers a place

single_ok : ℕ → Bool
single_ok i =
    eqb (get_or single_bits (2 * i) 0 * 2 ^ 64 + get_or single_bits (2 * i + 1) 0) (single i) && ltb (get_or single_bits (2 * i + 1) 0) (2 ^ 64)

single_test : T (each single_ok 128 0)
unfolding single_ok single
single_test = tt

pub is_single_bits : IsSingleBits single_bits
unfolding single_ok
is_single_bits =
    record {
      entry = λ i h. eqb→eq (number i) (single i) (and_left (eqb (number i) (single i)) (fits i) (rule i h));
      small = λ i h. ltb→lt (get_or single_bits (2 * i + 1) 0) (2 ^ 64) (and_right (eqb (number i) (single i)) (fits i) (rule i h));
    }
  where
    number : ℕ → ℕ
    number i = get_or single_bits (2 * i) 0 * 2 ^ 64 + get_or single_bits (2 * i + 1) 0

    fits : ℕ → Bool
    fits i = ltb (get_or single_bits (2 * i + 1) 0) (2 ^ 64)

    rule : (i : ℕ) → i < 128 → T (single_ok i)
    rule i h = range_rule single_ok 128 0 single_test i (omega arith) h

-- ---- the other six: from the remainder of each pattern of at most two bits they lead to its places

-- `FIELD` is two tables of sums, for the two bytes of a remainder
low : ℕ → ℕ
low i = get_or field (2 ^ i) 0

high : ℕ → ℕ
high i = get_or field (256 + 2 ^ i) 0

field_is : field ≡ sums 8 low ++ sums 8 high
unfolding sums low high
field_is = refl

values_are : (s : ℕ) → s < 65536 → values_of field s ≡ bit_xor (sum_at 8 low (s % 256)) (sum_at 8 high (s / 256))
unfolding values_of
values_are s h =
    let l : s % 256 < length (sums 8 low) = rw (sums_long 8 low) (omega arith) in
    ap₂ bit_xor (ap (λ (t : List ℕ). get_or t (s % 256) 0) field_is ∙ get_or-append (sums 8 low) (sums 8 high) 0 (s % 256) l
    ∙ sums_at 8 low (s % 256) (omega arith))
    (ap (λ (t : List ℕ). get_or t (256 + s / 256) 0) field_is ∙ ap (λ (n : ℕ). get_or (sums 8 low ++ sums 8 high) (n + s / 256) 0) (sym (sums_long 8 low))
    ∙ get_or-append-add (sums 8 low) (sums 8 high) (s / 256) 0 ∙ sums_at 8 high (s / 256) (omega arith))

-- so the values are linear
values_xor : (s t : ℕ) → s < 65536 → t < 65536 → values_of field (bit_xor s t) ≡ bit_xor (values_of field s) (values_of field t)
values_xor s t hs ht =
    values_are (bit_xor s t) (xor_lt 16 s t hs ht)
    ∙ ap₂ bit_xor (ap (sum_at 8 low) (xor_mod s t 8) ∙ sum_xor 8 low (s % 256) (t % 256))
    (ap (sum_at 8 high) (xor_shr s t 8) ∙ sum_xor 8 high (s / 256) (t / 256))
    ∙ xor_four (sum_at 8 low (s % 256)) (sum_at 8 low (t % 256)) (sum_at 8 high (s / 256)) (sum_at 8 high (t / 256))
    ∙ sym (ap₂ bit_xor (values_are s hs) (values_are t ht))

-- the tables of src/tables.rt
abbrev pub arrays : Arrays
arrays =
    record {
      field = field;
      log = log;
      cube = cube;
      one = one;
      other = other;
      place = place;
      columns = columns;
      single_bits = single_bits;
    }

-- the places that the look-ups lead to from the values v, in rising order
from_values : ℕ → ℕ × ℕ
from_values v = rising_of (place_by arrays one v, place_by arrays other v)

leads : ℕ × ℕ → ℕ → ℕ → Bool
leads p i j = eqb p.0 i && eqb p.1 j

leads_to : (p : ℕ × ℕ) (i j : ℕ) → T (leads p i j) → p ≡ (i, j)
unfolding leads
leads_to p i j t =
    let e : p.0 ≡ i = eqb→eq p.0 i (and_left (eqb p.0 i) (eqb p.1 j) t) in
    let f : p.1 ≡ j = eqb→eq p.1 j (and_right (eqb p.0 i) (eqb p.1 j) t) in
    λ k. (e k, f k)

-- the values of the single bits
values : List ℕ
values = map (values_of field) (take 126 columns)

one_ok : ℕ → ℕ → Bool
one_ok i v = leads (from_values v) i 127

one_test : T (every one_ok 0 values)
unfolding one_ok leads from_values place_by values_of rising_of values
one_test = tt

two_ok : ℕ → ℕ → ℕ → ℕ → Bool
two_ok i v j w = leads (from_values (bit_xor v w)) i j

two_test : T (every_two two_ok 0 values)
unfolding two_ok leads from_values place_by values_of rising_of values
two_test = tt

value_at : (i : ℕ) → i < 126 → get_or values i 0 ≡ values_of field (column i)
unfolding values values_of
value_at i h =
    get_or-map (values_of field) (take 126 columns) i 0 ∙ ap (values_of field) (get_or-take 126 columns i 0 h ∙ column_entry i (omega arith))

column_lt : (i : ℕ) → column i < 65536
unfolding column
column_lt i = remainder_lt 126 (single i)

-- no entry is above n
most : (n : ℕ) (t : List ℕ) (i : ℕ) → T (every (λ k x. leb x n) i t) → (k : ℕ) → get_or t k 0 ≤ n
most n [] i h k = zero-le
most n (x ∷ t) i h zero = leb→le x n (and_left (leb x n) (every (λ k x. leb x n) (suc i) t) h)
most n (x ∷ t) i h (suc k) = most n t (suc i) (and_right (leb x n) (every (λ k x. leb x n) (suc i) t) h) k

pub finds : Finds arrays
unfolding located place_by values_of rising_of from_values one_ok two_ok values
finds =
    record {
      no_bit = refl;
      one_bit = lone;
      two_bits = both;
      log_most = most 126 log 0 tt;
      cube_most = most 126 cube 0 tt;
      place_most = most 127 place 0 tt;
    }
  where
    lone : (i : ℕ) → i < 126 → from_values (values_of field (column i)) ≡ (i, 127)
    lone i h = ap from_values (sym (value_at i h)) ∙ leads_to (from_values (get_or values i 0)) i 127 (table_rule one_ok values one_test i h)

    both : (i j : ℕ) → i < j → j < 126 → from_values (values_of field (bit_xor (column i) (column j))) ≡ (i, j)
    both i j l h =
        ap from_values (values_xor (column i) (column j) (column_lt i) (column_lt j) ∙ sym (ap₂ bit_xor (value_at i (omega arith)) (value_at j h)))
        ∙ leads_to (from_values (bit_xor (get_or values i 0) (get_or values j 0))) i j (pairs_rule two_ok values two_test i j l h)
