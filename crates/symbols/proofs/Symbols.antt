-- From words to symbols: a symbol's byte from a dibit of each of four lanes, the frame's symbols by quarters, and the frame of words that were shuffled.
-- Assumes nothing.
use mathlib.Core.Path.{◌≡◌, refl, sym, ap, ap₂, ◌∙◌, subst}
use mathlib.Core.Bool.{Bool, true, false, cond, ◌&&◌}
use mathlib.Core.List.{List, [], ◌∷◌, ◌++◌}
use Prim.Native.Nat.{ℕ, zero, suc, ◌+◌, ◌-◌, ◌*◌, ◌/◌, ◌%◌, ◌^◌, ◌<◌, ◌≤◌}
use native.Mathlib.Nat.{pow-suc, mul-suc, add-zero, mod-lt, div-div-eq-div-mul, add-mul-mod_self_right}
use native.Mathlib.Decide.{ℕ_discrete, dec_lt}
use native.Mathlib.Omega.{arith}
use lib.Dec.{T, eqb, ltb, eqb→eq, ltb→lt, lit<}
use lib.ListN.{length, get_or, set, take, drop, length-set, length-take, length-drop}
use lib.Seq.{get_or-set_same, get_or-set_other, get_or-take, get_or-drop, drop-drop}
use Rattle.std.specs.Int.{w16, to_le_bytes}
use Rattle.std.specs.Simd.{first_chunks}
use lib.Pow.{pow-add, shl_exact, field, mod-mod-pow}
use borrow.Author.Tests.{eq-eqb, ne_eqb, lt-ltb, le-ltb}
use Rattle.bits.specs.definitions.Bits.{tabulate, value, number, bit_of}
use Rattle.bits.specs.definitions.Words.{word_at, row_of, word_bytes}
use Rattle.bits.proofs.Table.{each, range_rule, and_left, and_right}
use Rattle.bits.proofs.Tabulate.{get_d_tabulate, tabulate_cong, is_tabulate}
use Rattle.bits.proofs.Filling.{Filling, filling_put}
use Rattle.bits.proofs.Value.{value_cong, value_lt, bit_lt, bit_number}
use Rattle.bits.proofs.Words.{row_at_lem}
use Rattle.shuffle.specs.definitions.Shuffle.{unplace, shuffled}
use Rattle.symbols.specs.definitions.Mapping.{lane_of, upper, lower}
use Rattle.pilots.specs.definitions.Table5.{pilots}
use Rattle.symbols.specs.definitions.Frame.{carried_bit, payload, symbol_at, frame_of}
use Rattle.symbols.specs.definitions.Dibits.{dibit_in, swapped, turned, tributary_in}
use Rattle.symbols.specs.private.Numbers.{lane_in, mapped, dibits_of, dibits_at, quarter_at, byte_of_two}

-- ---- a symbol's number by its remainder

lane_lt : (l t : ℕ) → lane_in l t < 4
unfolding lane_in
lane_lt l t = omega arith

lane_mod : (l t : ℕ) → lane_in (l % 4) t ≡ lane_in l t
unfolding lane_in
lane_mod l t =
    let p : l / 2 % 2 ≡ l % 4 / 2 % 2 = omega arith in
    let e : 2 * l + l / 2 % 2 + t ≡ 2 * (l % 4) + l % 4 / 2 % 2 + t + 2 * (l / 4) * 4 = omega arith in
    omega arith

-- numbers that differ by fours
pub fours : (x y k : ℕ) → y ≡ x + k * 4 → x % 4 ≡ y % 4
fours x y k e = sym (ap (λ (n : ℕ). n % 4) e ∙ add-mul-mod_self_right x k 4)

mapped_mod : (l y : ℕ) → mapped (l % 4) y ≡ mapped l y
unfolding mapped
mapped_mod l y = value_cong 2 8 _ _ (λ i b. let e : (i + l % 4) % 2 ≡ (i + l) % 2 = omega arith in λ k. bit_of 8 y (2 * lane_mod l (i / 2) k + e k))

-- ---- a symbol from a dibit of each of four bytes

four_pow : (k : ℕ) → 2 ^ (2 * k) ≡ 4 ^ k
four_pow zero = refl
four_pow (suc k) = rw (mul-suc, pow-add, pow-suc 4 k, four_pow k)

-- `((x >> (6 - 2 e)) % 4) << (6 - 2 t)`
pub put_dibit_law : (x e t : ℕ) → e < 4 → t < 4 → x / 2 ^ (6 - 2 * e) % 4 * 2 ^ (6 - 2 * t) % 256 ≡ dibit_in e x * 4 ^ (3 - t)
put_dibit_law x e t he ht =
    let p : 6 - 2 * e ≡ 2 * (3 - e) = omega arith in
    let q : 6 - 2 * t ≡ 2 * (3 - t) = omega arith in
    shl_exact 2 (6 - 2 * t) 8 (mod-lt (x / 2 ^ (6 - 2 * e)) (lit< tt)) (omega arith)
    ∙ λ k. x / (ap (λ (n : ℕ). 2 ^ n) p ∙ four_pow (3 - e)) k % 4 * (ap (λ (n : ℕ). 2 ^ n) q ∙ four_pow (3 - t)) k

-- from what the code promises, which counts dibits by their remainders
pub put_dibit_at : (x e t v : ℕ) → e < 4 → t < 4 → v ≡ dibit_in (e % 4) x * 4 ^ (3 - t % 4) → v ≡ dibit_in e x * 4 ^ (3 - t)
put_dibit_at x e t v he ht p =
    let a : e % 4 ≡ e = omega arith in
    let b : t % 4 ≡ t = omega arith in
    p ∙ λ k. dibit_in (a k) x * 4 ^ (3 - b k)

pub tributary_lt : (l r : ℕ) → tributary_in l r < 4
unfolding tributary_in
tributary_lt l r = omega arith

-- at the tributary of a lane
pub put_at : (x e l r : ℕ) {t v : ℕ} → e < 4 → t ≡ tributary_in l r → v ≡ dibit_in (e % 4) x * 4 ^ (3 - t % 4) → v ≡ dibit_in e x * 4 ^ (3 - tributary_in l r)
put_at x e l r {t} he et p = put_dibit_at x e t _ he (omega (arith, tributary_lt l r)) p ∙ ap (λ (n : ℕ). dibit_in e x * 4 ^ (3 - n)) et

-- four dibits at the tributaries of their lanes
abbrev pub at_tributaries : ℕ → ℕ → ℕ → ℕ → ℕ → ℕ
at_tributaries l a b c d =
    a * 4 ^ (3 - tributary_in l 0) + b * 4 ^ (3 - tributary_in l 1) + c * 4 ^ (3 - tributary_in l 2) + d * 4 ^ (3 - tributary_in l 3)

placed : ℕ → ℕ → ℕ
placed l y = at_tributaries l (y / 64) (y / 16 % 4) (y / 4 % 4) (y % 4)

right : ℕ → ℕ → Bool
right l y = eqb (turned l (placed l y)) (mapped l y)

small : ℕ → ℕ → Bool
small l y = ltb (placed l y) 256

mapped_test : T (each (λ k. right (k / 256) (k % 256) && small (k / 256) (k % 256)) 1024 0)
unfolding right small placed tributary_in swapped mapped lane_in value bit_of
mapped_test = tt

pub symbol_sum : (l a b c d : ℕ) → l < 4 → a < 4 → b < 4 → c < 4 → d < 4
    → (turned l (at_tributaries l a b c d) ≡ mapped l (a * 64 + b * 16 + c * 4 + d)) × (at_tributaries l a b c d < 256)
unfolding right small placed
symbol_sum l a b c d hl ha hb hc hd =
    let y = a * 64 + b * 16 + c * 4 + d in
    let k = 256 * l + y in
    let el : k / 256 ≡ l = omega arith in
    let ey : k % 256 ≡ y = omega arith in
    let ea : k % 256 / 64 ≡ a = omega arith in
    let eb : k % 256 / 16 % 4 ≡ b = omega arith in
    let ec : k % 256 / 4 % 4 ≡ c = omega arith in
    let ed : k % 256 % 4 ≡ d = omega arith in
    let same : placed (k / 256) (k % 256) ≡ at_tributaries l a b c d = λ i. at_tributaries (el i) (ea i) (eb i) (ec i) (ed i) in
    let test = range_rule (λ k. right (k / 256) (k % 256) && small (k / 256) (k % 256)) 1024 0 mapped_test k (omega arith) (omega arith) in
    let R = and_left (right (k / 256) (k % 256)) (small (k / 256) (k % 256)) test in
    let S = and_right (right (k / 256) (k % 256)) (small (k / 256) (k % 256)) test in (
      (λ i. turned (sym el i) (sym same i)) ∙ eqb→eq (turned (k / 256) (placed (k / 256) (k % 256))) (mapped (k / 256) (k % 256)) R ∙ ap₂ mapped el ey,
      subst (λ (v : ℕ). v < 256) same (ltb→lt (placed (k / 256) (k % 256)) 256 S),
    )

-- the same from what the code puts at each tributary
pub symbol_values : (l e : ℕ) (f : List ℕ) {s t u v w x y z : ℕ} → l < 4 → e < 4
    → s ≡ tributary_in l 0 → t ≡ tributary_in l 1 → u ≡ tributary_in l 2 → v ≡ tributary_in l 3
    → w ≡ dibit_in (e % 4) (get_or f 0 0) * 4 ^ (3 - s % 4) → x ≡ dibit_in (e % 4) (get_or f 1 0) * 4 ^ (3 - t % 4)
    → y ≡ dibit_in (e % 4) (get_or f 2 0) * 4 ^ (3 - u % 4) → z ≡ dibit_in (e % 4) (get_or f 3 0) * 4 ^ (3 - v % 4)
    → (turned l (w + x + y + z) ≡ mapped l (dibits_of f e)) × (w + x + y + z < 256)
unfolding dibits_of
symbol_values l e f {w = w} {x} {y} {z} hl he es et eu ev ew ex ey ez =
    let a = get_or f 0 0 in
    let b = get_or f 1 0 in
    let c = get_or f 2 0 in
    let d = get_or f 3 0 in
    let p : w + x + y + z ≡ at_tributaries l (dibit_in e a) (dibit_in e b) (dibit_in e c) (dibit_in e d) =
    λ k. put_at a e l 0 he es ew k + put_at b e l 1 he et ex k + put_at c e l 2 he eu ey k + put_at d e l 3 he ev ez k in
    let h = symbol_sum l (dibit_in e a) (dibit_in e b) (dibit_in e c) (dibit_in e d) hl (mod-lt _ (lit< tt)) (mod-lt _ (lit< tt)) (mod-lt _ (lit< tt))
    (mod-lt _ (lit< tt)) in
    (ap (turned l) p ∙ h.0, subst (λ (n : ℕ). n < 256) (sym p) h.1)

-- ---- a symbol by its words' bits

-- a dibit by a shift
dibit_bits : (n a i : ℕ) → i < n → a / 2 ^ (2 * (n - (i + 1))) % 4 ≡ bit_of (2 * n) a (2 * i + 0) * 2 + bit_of (2 * n) a (2 * i + 1)
unfolding bit_of
dibit_bits n a i h =
    let k = 2 * (n - (i + 1)) in
    let e : 2 * n - 1 - (2 * i + 0) ≡ suc k = omega arith in
    let d : 2 * n - 1 - (2 * i + 1) ≡ k = omega arith in
    rw (e, d, pow-suc 2 k, ← div-div-eq-div-mul) (omega arith)

-- symbol i of n, the first of which is number l, that the n low dibits of four numbers make
unfoldable symbol_from : ℕ → ℕ → (ℕ → ℕ) → ℕ → ℕ
symbol_from n l w i = number 8 (λ k. bit_of (2 * n) (w (lane_in (l + i) (k / 2))) (2 * i + (k + (l + i)) % 2))

-- four dibits in the lanes' order
module _ (n i : ℕ) (w : ℕ → ℕ) where
  abbrev dibit_bit : ℕ → ℕ
  dibit_bit k = bit_of (2 * n) (w (k / 2)) (2 * i + k % 2)

  abbrev dibit_at : ℕ → ℕ
  dibit_at r = w r / 2 ^ (2 * (n - (i + 1))) % 4

  dibits_law : i < n → dibit_at 0 * 64 + dibit_at 1 * 16 + dibit_at 2 * 4 + dibit_at 3 ≡ number 8 dibit_bit
  unfolding value
  dibits_law h = omega (arith, dibit_bits n (w 0) i h, dibit_bits n (w 1) i h, dibit_bits n (w 2) i h, dibit_bits n (w 3) i h)

  symbol_law : (l y : ℕ) → i < n → y ≡ dibit_at 0 * 64 + dibit_at 1 * 16 + dibit_at 2 * 4 + dibit_at 3 → mapped (l + i) y ≡ symbol_from n l w i
  unfolding mapped symbol_from
  symbol_law l y h e =
      value_cong 2 8 _ _ (λ k b. at (lane_in (l + i) (k / 2)) ((k + (l + i)) % 2) (lane_lt (l + i) (k / 2)) (omega arith))
    where
      at : (r u : ℕ) → r < 4 → u < 2 → bit_of 8 y (2 * r + u) ≡ bit_of (2 * n) (w r) (2 * i + u)
      at r u hr hu =
          let d : (2 * r + u) / 2 ≡ r = omega arith in
          let m : (2 * r + u) % 2 ≡ u = omega arith in
          ap (λ (v : ℕ). bit_of 8 v (2 * r + u)) (e ∙ dibits_law h)
          ∙ bit_number 8 dibit_bit (λ k _. bit_lt (2 * n) (w (k / 2)) (2 * i + k % 2)) (2 * r + u) (omega arith)
          ∙ ap₂ (λ (a b : ℕ). bit_of (2 * n) (w a) (2 * i + b)) d m

-- ---- a symbol from its words' bytes

-- byte k of word i
word_byte : (s : List ℕ) (i k : ℕ) → i < 384 → k < 16 → get_or (word_bytes 384 s) (16 * i + k) 0 ≡ word_at s i / 2 ^ (8 * (15 - k)) % 256
unfolding word_bytes
word_byte s i k h l =
    let d : (16 * i + k) / 16 ≡ i = omega arith in
    let m : (16 * i + k) % 16 ≡ k = omega arith in
    get_d_tabulate 6144 _ (16 * i + k) 0 (omega arith) ∙ λ x. word_at s (d x) / 2 ^ (8 * (15 - m x)) % 256

-- its dibit e is dibit 4 k + e of the word's 64
byte_dibit : (w k e : ℕ) → k < 16 → e < 4 → dibit_in e (w / 2 ^ (8 * (15 - k)) % 256) ≡ w / 2 ^ (2 * (64 - (4 * k + e + 1))) % 4
byte_dibit w k e hk he =
    let x = w / 2 ^ (8 * (15 - k)) in
    let a : 2 * e + 2 + 2 * (3 - e) ≡ 8 = omega arith in
    let d : 8 * (15 - k) + 2 * (3 - e) ≡ 2 * (64 - (4 * k + e + 1)) = omega arith in
    ap (λ (n : ℕ). x % 256 / n % 4) (sym (four_pow (3 - e)))
    ∙ ap (λ (n : ℕ). x % 2 ^ n / 2 ^ (2 * (3 - e)) % 4) (sym a)
    ∙ ap (λ (n : ℕ). n % 4) (field x (2 * e + 2) (2 * (3 - e)))
    ∙ mod-mod-pow (x / 2 ^ (2 * (3 - e))) (2 * e) 2
    ∙ ap (λ (n : ℕ). n % 4)
    (div-div-eq-div-mul w (2 ^ (8 * (15 - k))) (2 ^ (2 * (3 - e)))
    ∙ ap (λ (n : ℕ). w / n) (sym (pow-add 2 (8 * (15 - k)) (2 * (3 - e)))) ∙ ap (λ (n : ℕ). w / 2 ^ n) d)

-- the number of symbol 4 k + e of row g, and that without what goes by fours
pub counted_row : (g k e : ℕ) → (3 * g + 3 + e) % 4 ≡ (63 * g + 3 + (4 * k + e)) % 4
counted_row g k e = fours (3 * g + 3 + e) (63 * g + 3 + (4 * k + e)) (15 * g + k) (omega arith)

-- symbol 4 k + e of row g, the pilot's place being its first
row_symbol : (s : List ℕ) (g k e : ℕ) → g < 96 → k < 16 → e < 4
    → quarter_at (word_bytes 384 s) e (16 * g + k) ≡ symbol_from 64 (63 * g + 3) (λ r. word_at s (4 * g + r)) (4 * k + e)
unfolding quarter_at dibits_at dibits_of
row_symbol s g k e hg hk he =
    let d : (16 * g + k) / 16 ≡ g = omega arith in
    let m : (16 * g + k) % 16 ≡ k = omega arith in
    let q : (3 * ((16 * g + k) / 16) + 3 + e) % 4 ≡ (63 * g + 3 + (4 * k + e)) % 4 = ap (λ (n : ℕ). (3 * n + 3 + e) % 4) d ∙ counted_row g k e in
    ap (λ (l : ℕ). mapped l (dibits_at (word_bytes 384 s) e (64 * ((16 * g + k) / 16) + (16 * g + k) % 16))) q
    ∙ mapped_mod (63 * g + 3 + (4 * k + e)) _
    ∙ symbol_law 64 (4 * k + e) (λ r. word_at s (4 * g + r)) (63 * g + 3) _ (omega arith)
    ((λ x. dibits_at (word_bytes 384 s) e (64 * d x + m x))
    ∙ λ x. dibit 0 (64 * g + k) (omega arith) (omega arith) x * 64 + dibit 1 (64 * g + k + 16) (omega arith) (omega arith) x * 16
    + dibit 2 (64 * g + k + 32) (omega arith) (omega arith) x * 4 + dibit 3 (64 * g + k + 48) (omega arith) (omega arith) x)
  where
    dibit : (r n : ℕ) → r < 4 → n ≡ 16 * (4 * g + r) + k
        → dibit_in e (get_or (word_bytes 384 s) n 0) ≡ word_at s (4 * g + r) / 2 ^ (2 * (64 - (4 * k + e + 1))) % 4
    dibit r n h o =
        ap (dibit_in e) (ap (λ (m : ℕ). get_or (word_bytes 384 s) m 0) o ∙ word_byte s (4 * g + r) k (omega arith) hk)
        ∙ byte_dibit (word_at s (4 * g + r)) k e hk he

-- ---- the frame of words that were shuffled

-- symbol j of the 63 that carry words 4 g to 4 g + 3
module _ (g j : ℕ) (h : g < 96) (b : j < 63) where
  -- its lane, in the frame's words and in the mapping
  lane_is : (t : ℕ) → lane_of (g % 8 * 63 + j) t ≡ (4 * g + lane_in (g % 8 * 63 + j) t) % 32
  unfolding lane_of lane_in
  lane_is t =
      let q : (g % 8 * 63 + j) / 63 ≡ g % 8 = omega arith in
      ap (λ (k : ℕ). 4 * k + lane_in (g % 8 * 63 + j) t) q ∙ four (lane_in (g % 8 * 63 + j) t) (lane_lt (g % 8 * 63 + j) t)
    where
      four : (x : ℕ) → x < 4 → 4 * (g % 8) + x ≡ (4 * g + x) % 32
      four x c = omega arith

  word_is : (t : ℕ) → 32 * (g / 8) + lane_of (g % 8 * 63 + j) t ≡ 4 * g + lane_in (g % 8 * 63 + j) t
  unfolding lane_of lane_in
  word_is t = omega arith

  place_is : (i : ℕ) → cond (eqb (i % 2) 0) (upper (g % 8 * 63 + j)) (lower (g % 8 * 63 + j)) ≡ 2 * j + (i + (g % 8 * 63 + j)) % 2
  unfolding upper lower
  place_is i = go (ℕ_discrete (i % 2) 0)
    where
      l : ℕ
      l = g % 8 * 63 + j

      go : Dec (i % 2 ≡ 0) → cond (eqb (i % 2) 0) (2 * (l % 63) + l % 2) (2 * (l % 63) + (l + 1) % 2) ≡ 2 * j + (i + l) % 2
      go (yes e) = rw (eq-eqb (i % 2) 0 e) (omega arith)
      go (no e) = rw (ne_eqb (i % 2) 0 e) (omega arith)

-- symbol j of a row, behind the pilot: its number, counted from 63 g + 3 on, and that among the 504 have the same remainder
pub counted_mod : (g j : ℕ) → 1 ≤ j → (63 * g + 3 + j) % 4 ≡ (g % 8 * 63 + (j - 1)) % 4
counted_mod g j behind = sym (fours (g % 8 * 63 + (j - 1)) (63 * g + 3 + j) (126 * (g / 8) + 1) (omega arith))

counted_even : (i a b : ℕ) → a % 4 ≡ b % 4 → (i + a) % 2 ≡ (i + b) % 2
counted_even i a b e = omega arith

-- two bits above the 126 of a word
above : (w b : ℕ) → 2 ≤ b → b < 128 → bit_of 128 w b ≡ bit_of 126 w (b - 2)
unfolding bit_of
above w b h l = let e : 127 - b ≡ 125 - (b - 2) = omega arith in ap (λ (y : ℕ). w / 2 ^ y % 2) e

-- symbol j of row g, behind the pilot
module _ (s : List ℕ) (g j : ℕ) (h : g < 96) (hj : j < 64) (behind : 1 ≤ j) where
  -- its number as the row counts, and among the 504
  abbrev counted : ℕ
  counted = 63 * g + 3 + j

  abbrev symbol : ℕ
  symbol = g % 8 * 63 + (j - 1)

  same_mod : counted % 4 ≡ symbol % 4
  same_mod = counted_mod g j behind

  counted_lane : (t : ℕ) → lane_in counted t ≡ lane_in symbol t
  counted_lane t = sym (lane_mod counted t) ∙ ap (λ (l : ℕ). lane_in l t) same_mod ∙ lane_mod symbol t

  -- word i when it was shuffled
  abbrev placed_at : ℕ → ℕ
  placed_at i = number 126 (λ r. bit_of 126 (word_at s i) (unplace (i % 32) r))

  carried : (i : ℕ) → i < 8
      → bit_of 128 (word_at (row_of 384 placed_at) (4 * g + lane_in counted (i / 2))) (2 * j + (i + counted) % 2) ≡ carried_bit s (g / 8) symbol i
  unfolding carried_bit
  carried i c =
      let r = lane_in symbol (i / 2) in
      let v = (i + symbol) % 2 in
      let w = 4 * g + r in
      let p : (i + counted) % 2 ≡ v = counted_even i counted symbol same_mod in
      let q : 2 * j + v - 2 ≡ 2 * (j - 1) + v = omega arith in
      let hr : r < 4 = lane_lt symbol (i / 2) in
      (λ k. bit_of 128 (word_at (row_of 384 placed_at) (4 * g + counted_lane (i / 2) k)) (2 * j + p k))
      ∙ ap (λ (n : ℕ). bit_of 128 n (2 * j + v)) (row_at_lem 384 placed_at w (omega arith) (value_lt 2 126 _ (λ q _. bit_lt 126 (word_at s w) _)))
      ∙ above (placed_at w) (2 * j + v) (omega arith) (omega arith) ∙ ap (bit_of 126 (placed_at w)) q
      ∙ bit_number 126 _ (λ q _. bit_lt 126 (word_at s w) _) (2 * (j - 1) + v) (omega arith)
      ∙ (λ k. bit_of 126 (word_at s (sym (word_is g (j - 1) h (omega arith) (i / 2)) k))
      (unplace (sym (lane_is g (j - 1) h (omega arith) (i / 2)) k) (sym (place_is g (j - 1) h (omega arith) i) k)))

  row_payload : symbol_from 64 (63 * g + 3) (λ r. word_at (shuffled s) (4 * g + r)) j ≡ payload s (63 * g + (j - 1))
  unfolding symbol_from payload shuffled
  row_payload =
      let d : g / 8 ≡ (63 * g + (j - 1)) / 504 = omega arith in
      let m : symbol ≡ (63 * g + (j - 1)) % 504 = omega arith in
      value_cong 2 8 _ _ carried ∙ λ k. number 8 (carried_bit s (d k) (m k))

-- symbol by symbol the frame of the row that was shuffled is the frame of the row
mapped_is : (s : List ℕ) (t : ℕ) → t < 6144
    → cond (eqb (t % 64) 0) (get_or pilots (t / 64) 0) (quarter_at (word_bytes 384 (shuffled s)) (t % 4) (t / 4)) ≡ symbol_at s t
unfolding symbol_at
mapped_is s t h = go (ℕ_discrete (t % 64) 0)
  where
    b : List ℕ
    b = word_bytes 384 (shuffled s)

    go : Dec (t % 64 ≡ 0)
        → cond (eqb (t % 64) 0) (get_or pilots (t / 64) 0) (quarter_at b (t % 4) (t / 4))
        ≡ cond (eqb (t % 64) 0) (get_or pilots (t / 64) 0) (payload s (63 * (t / 64) + t % 64 - 1))
    go (yes e) = rw (eq-eqb (t % 64) 0 e)
    go (no e) =
        let j : t / 4 ≡ 16 * (t / 64) + t % 64 / 4 = omega arith in
        let i : 4 * (t % 64 / 4) + t % 4 ≡ t % 64 = omega arith in
        let z : 63 * (t / 64) + (t % 64 - 1) ≡ 63 * (t / 64) + t % 64 - 1 = omega arith in
        rw (ne_eqb (t % 64) 0 e)
        (ap (quarter_at b (t % 4)) j ∙ row_symbol (shuffled s) (t / 64) (t % 64 / 4) (t % 4) (omega arith) (omega arith) (omega arith)
        ∙ ap (symbol_from 64 (63 * (t / 64) + 3) (λ r. word_at (shuffled s) (4 * (t / 64) + r))) i
        ∙ row_payload s (t / 64) (t % 64) (omega arith) (omega arith) (omega arith) ∙ ap (payload s) z)

-- the quarters of the words that were shuffled, and the pilots among them
pub frame_is : (s b f : List ℕ) → b ≡ word_bytes 384 (shuffled s) → f ≡ tabulate 6144 (λ t. quarter_at b (t % 4) (t / 4))
    → tabulate 6144 (λ t. cond (eqb (t % 64) 0) (get_or pilots (t / 64) 0) (get_or f t 0)) ≡ frame_of s
unfolding frame_of
frame_is s b f e q =
    tabulate_cong 6144 _ _ (λ t h.
    ap (λ (x : ℕ). cond (eqb (t % 64) 0) (get_or pilots (t / 64) 0) x)
    (ap (λ (l : List ℕ). get_or l t 0) q ∙ get_d_tabulate 6144 _ t 0 h ∙ ap (λ (l : List ℕ). quarter_at l (t % 4) (t / 4)) e)
    ∙ mapped_is s t h)

-- ---- the loops that write the frame

-- a list with a part put from place o to before place end
abbrev pub put_part : ℕ → ℕ → List ℕ → List ℕ → List ℕ
put_part o end out part = take o out ++ (part ++ drop (end - o) (drop o out))

-- symbol i of row r of four, by any number that is its own
pub row_at : (b : List ℕ) (e r l at i : ℕ) → r < 4 → l ≡ (e + 3 - r) % 4 → at ≡ 64 * r → i < 16
    → mapped l (dibits_at b e (at + i)) ≡ quarter_at b e (16 * r + i)
unfolding quarter_at
row_at b e r l at i hr el ea h =
    let j = 16 * r + i in
    let d : j / 16 ≡ r = omega arith in
    let m : at + i ≡ 64 * (j / 16) + j % 16 = omega arith in
    λ x. mapped (number (j / 16) d x) (dibits_at b e (m x))
  where
    number : (a : ℕ) → a ≡ r → l ≡ (3 * a + 3 + e) % 4
    number a h = el ∙ fours (e + 3 - r) (3 * a + 3 + e) r (omega arith)

-- chunk g of a list
pub chunk_at : (n k : ℕ) (s : List ℕ) (g : ℕ) → g < k → get_or (first_chunks n k s) g [] ≡ take n (drop (n * g) s)
chunk_at n zero s g h = absurd (omega arith)
chunk_at n (suc k) s zero h = let e : n * 0 ≡ 0 = omega arith in rw e
chunk_at n (suc k) s (suc g) h =
    let e : n + n * g ≡ n * suc g = rw mul-suc (omega arith) in
    chunk_at n k (drop n s) g (omega arith) ∙ ap (take n) (drop-drop (n * g) n s ∙ ap (λ (m : ℕ). drop m s) e)

-- an element of it
pub in_chunk : (n k : ℕ) {parts : List (List ℕ)} (s : List ℕ) (g i : ℕ) → g < k → i < n → parts ≡ first_chunks n k s
    → get_or (get_or parts g []) i 0 ≡ get_or s (n * g + i) 0
in_chunk n k s g i hg hi e =
    ap (λ (c : List (List ℕ)). get_or (get_or c g []) i 0) e ∙ ap (λ (c : List ℕ). get_or c i 0) (chunk_at n k s g hg)
    ∙ get_or-take n (drop (n * g) s) i 0 hi ∙ get_or-drop (n * g) s i 0

-- the symbols of four rows are those of the frame, where each row's number goes round by four
four_rows : (b : List ℕ) (e q k : ℕ) {parts : List (List ℕ)} (j : ℕ) → q < k → j < 64 → parts ≡ first_chunks 256 k b
    → quarter_at (get_or parts q []) e j ≡ quarter_at b e (64 * q + j)
unfolding quarter_at dibits_at dibits_of
four_rows b e q k {parts} j hq hj ep =
    let i = 64 * q + j in
    let d : i / 16 ≡ 4 * q + j / 16 = omega arith in
    let m : j % 16 ≡ i % 16 = omega arith in
    let o = 64 * (j / 16) + j % 16 in
    let u = 64 * (i / 16) + i % 16 in
    let inside : o + 48 < 256 = omega arith in
    let place : 256 * q + o ≡ u = placed_row (j / 16) (i / 16) (j % 16) (i % 16) d m in
    λ x. mapped (number (j / 16) (i / 16) d x)
    (dibit_in e (at o u (omega arith) place x) * 64 + dibit_in e (at (o + 16) (u + 16) (omega arith) (omega arith) x) * 16
    + dibit_in e (at (o + 32) (u + 32) (omega arith) (omega arith) x) * 4 + dibit_in e (at (o + 48) (u + 48) inside (omega arith) x))
  where
    number : (a c : ℕ) → c ≡ 4 * q + a → (3 * a + 3 + e) % 4 ≡ (3 * c + 3 + e) % 4
    number a c h = fours (3 * a + 3 + e) (3 * c + 3 + e) (3 * q) (omega arith)

    placed_row : (a c m n : ℕ) → c ≡ 4 * q + a → m ≡ n → 256 * q + (64 * a + m) ≡ 64 * c + n
    placed_row a c m n h g = omega arith

    at : (o u : ℕ) → o < 256 → 256 * q + o ≡ u → get_or (get_or parts q []) o 0 ≡ get_or b u 0
    at o u h g = in_chunk 256 k b q o hq h ep ∙ ap (λ (n : ℕ). get_or b n 0) g

-- a part of m numbers is put where they belong
pub part_put : (f g : ℕ → ℕ) (m o end : ℕ) {n : ℕ} {out₀ out part : List ℕ} → part ≡ tabulate m g → end ≡ o + m → end ≤ n
    → ((k : ℕ) → k < m → g k ≡ f (o + k)) → Filling f n out₀ out o → Filling f n out₀ (put_part o end out part) end
part_put f g m o end {out = out} {part} p ee le agree F =
    filling_put f end part (λ _. g) F (omega arith) le (p ∙ ap (λ (k : ℕ). tabulate k g) (sym size)) (λ k h. agree k (omega arith))
  where
    size : length (take (end - o) (drop o out)) ≡ m
    size = simp (length-take, length-drop) (omega (arith, F.long))

-- four rows are put, one after another
pub quarter_step : (b : List ℕ) (e q k : ℕ) {out₀ out a₀ a₁ a₂ a₃ : List ℕ} {parts : List (List ℕ)} → q < k → k ≤ 24 → parts ≡ first_chunks 256 k b
    → let o = 64 * q in
    let rows = get_or parts q [] in
    Filling (quarter_at b e) 1536 out₀ out o
    → a₀ ≡ tabulate 16 (λ i. quarter_at rows e (16 * 0 + i)) → a₁ ≡ tabulate 16 (λ i. quarter_at rows e (16 * 1 + i))
    → a₂ ≡ tabulate 16 (λ i. quarter_at rows e (16 * 2 + i)) → a₃ ≡ tabulate 16 (λ i. quarter_at rows e (16 * 3 + i))
    → Filling (quarter_at b e) 1536 out₀
    (put_part (o + 48) (o + 64) (put_part (o + 32) (o + 48) (put_part (o + 16) (o + 32) (put_part o (o + 16) out a₀) a₁) a₂) a₃) (64 * (q + 1))
quarter_step b e q k {out₀} {parts = parts} hq hk ep F p₀ p₁ p₂ p₃ =
    let o = 64 * q in
    let next : o + 64 ≡ 64 * (q + 1) = omega arith in
    subst (Filling (quarter_at b e) 1536 out₀ _) next
    (row 3 (o + 48) (o + 64) (lit< tt) refl (omega arith) p₃ (row 2 (o + 32) (o + 48) (lit< tt) refl (omega arith) p₂
    (row 1 (o + 16) (o + 32) (lit< tt) refl (omega arith) p₁ (row 0 o (o + 16) (lit< tt) (omega arith) refl p₀ F))))
  where
    row : (r o end : ℕ) {out part : List ℕ} → r < 4 → o ≡ 64 * q + 16 * r → end ≡ o + 16
        → part ≡ tabulate 16 (λ i. quarter_at (get_or parts q []) e (16 * r + i))
        → Filling (quarter_at b e) 1536 out₀ out o → Filling (quarter_at b e) 1536 out₀ (put_part o end out part) end
    row r o end hr eo ee p =
        part_put (quarter_at b e) _ 16 o end p ee (omega arith) (λ i h.
        let n : 64 * q + (16 * r + i) ≡ o + i = omega arith in
        four_rows b e q k (16 * r + i) hq (omega arith) ep ∙ ap (quarter_at b e) n)

-- two bytes put side by side
two_put : (f : ℕ → ℕ) (o end : ℕ) {n : ℕ} {out₀ out part : List ℕ} {a b : ℕ} → part ≡ a ∷ b ∷ [] → end ≡ o + 2 → end ≤ n → a ≡ f o → b ≡ f (o + 1)
    → Filling f n out₀ out o → Filling f n out₀ (put_part o end out part) end
unfolding tabulate
two_put f o end p ee le ea eb =
    part_put f (λ k. f (o + k)) 2 o end (p ∙ λ k. (ea ∙ ap f (sym (add-zero o))) k ∷ eb k ∷ []) ee le (λ k h. refl)

-- the bytes of two numbers, two and two
pub two_bytes_step : (x y : List ℕ) {out₀ out : List ℕ} (i : ℕ) {v w : List ℕ} → i < 1536
    → v ≡ to_le_bytes w16 (get_or x i 0) → w ≡ to_le_bytes w16 (get_or y i 0)
    → Filling (byte_of_two x y) 6144 out₀ out (4 * i)
    → Filling (byte_of_two x y) 6144 out₀ (put_part (4 * i + 2) (4 * i + 4) (put_part (4 * i) (4 * i + 2) out v) w) (4 * (i + 1))
unfolding byte_of_two
two_bytes_step x y {out₀} {out} i {v} {w} h ev ew F =
    let z : 4 * i + 4 ≡ 4 * (i + 1) = omega arith in
    subst (Filling f 6144 out₀ _) z
    (two_put f (4 * i + 2) (4 * i + 4) ew (omega arith) (omega arith)
    (low _ ∙ lower 0 (4 * i + 2) (omega arith) (omega arith)) (lower 1 (4 * i + 2 + 1) (omega arith) (omega arith))
    (two_put f (4 * i) (4 * i + 2) ev refl (omega arith)
    (low _ ∙ upper 0 (4 * i) (omega arith) (omega arith)) (upper 1 (4 * i + 1) (omega arith) (omega arith)) F))
  where
    f : ℕ → ℕ
    f = byte_of_two x y

    low : (n : ℕ) → n % 256 ≡ n / 256 ^ 0 % 256
    low n = omega arith

    upper : (u t : ℕ) → u < 2 → t ≡ 4 * i + u → get_or x i 0 / 256 ^ u % 256 ≡ f t
    upper u t hu e =
        let m : t % 4 < 2 = omega arith in
        let d : i ≡ t / 4 = omega arith in
        let n : u ≡ t % 2 = omega arith in
        rw (lt-ltb (t % 4) 2 m) (λ k. get_or x (d k) 0 / 256 ^ n k % 256)

    lower : (u t : ℕ) → u < 2 → t ≡ 4 * i + 2 + u → get_or y i 0 / 256 ^ u % 256 ≡ f t
    lower u t hu e =
        let m : 2 ≤ t % 4 = omega arith in
        let d : i ≡ t / 4 = omega arith in
        let n : u ≡ t % 2 = omega arith in
        rw (le-ltb (t % 4) 2 m) (λ k. get_or y (d k) 0 / 256 ^ n k % 256)

-- a number's two bytes
two_bytes_at : (f g : ℕ → ℕ) (s s' x : List ℕ) (j : ℕ) → j < 1536 → s ≡ tabulate 1536 f → s' ≡ tabulate 1536 g
    → x ≡ tabulate 1536 (λ i. get_or s i 0 + get_or s' i 0 * 256) → get_or x j 0 ≡ f j + g j * 256
two_bytes_at f g s s' x j h e e' q =
    ap (λ (l : List ℕ). get_or l j 0) q ∙ get_d_tabulate 1536 _ j 0 h
    ∙ λ k. (ap (λ (l : List ℕ). get_or l j 0) e ∙ get_d_tabulate 1536 f j 0 h) k + (ap (λ (l : List ℕ). get_or l j 0) e' ∙ get_d_tabulate 1536 g j 0 h) k * 256

quarter_lt : (b : List ℕ) (e j : ℕ) → quarter_at b e j < 256
unfolding quarter_at mapped
quarter_lt b e j = value_lt 2 8 _ (λ k _. bit_lt 8 _ _)

-- four quarters, two and two in a number, are one symbol of each in turn
pub quarters_frame : (b s₀ s₁ s₂ s₃ x y : List ℕ) → s₀ ≡ tabulate 1536 (quarter_at b 0) → s₁ ≡ tabulate 1536 (quarter_at b 1)
    → s₂ ≡ tabulate 1536 (quarter_at b 2)
    → s₃ ≡ tabulate 1536 (quarter_at b 3) → x ≡ tabulate 1536 (λ i. get_or s₀ i 0 + get_or s₁ i 0 * 256)
    → y ≡ tabulate 1536 (λ i. get_or s₂ i 0 + get_or s₃ i 0 * 256)
    → tabulate 6144 (byte_of_two x y) ≡ tabulate 6144 (λ t. quarter_at b (t % 4) (t / 4))
unfolding byte_of_two
quarters_frame b s₀ s₁ s₂ s₃ x y e₀ e₁ e₂ e₃ p q = tabulate_cong 6144 _ _ (λ t h. at t (t % 4) refl h)
  where
    low : (n v w : ℕ) → n ≡ v + w * 256 → v < 256 → n / 256 ^ 0 % 256 ≡ v
    low n v w e l = omega arith

    high : (n v w : ℕ) → n ≡ v + w * 256 → v < 256 → w < 256 → n / 256 ^ 1 % 256 ≡ w
    high n v w e l m = omega arith

    at : (t r : ℕ) → t % 4 ≡ r → t < 6144
        → cond (ltb (t % 4) 2) (get_or x (t / 4) 0) (get_or y (t / 4) 0) / 256 ^ (t % 2) % 256 ≡ quarter_at b (t % 4) (t / 4)
    at t zero r h =
        let m : t % 2 ≡ 0 = omega arith in
        rw (r, m) (low _ _ (quarter_at b 1 (t / 4)) (two_bytes_at _ _ s₀ s₁ x (t / 4) (omega arith) e₀ e₁ p) (quarter_lt b 0 (t / 4)))
    at t (suc zero) r h =
        let m : t % 2 ≡ 1 = omega arith in
        rw (r, m) (high _ (quarter_at b 0 (t / 4)) _ (two_bytes_at _ _ s₀ s₁ x (t / 4) (omega arith) e₀ e₁ p) (quarter_lt b 0 (t / 4)) (quarter_lt b 1 (t / 4)))
    at t (suc (suc zero)) r h =
        let m : t % 2 ≡ 0 = omega arith in
        rw (r, m) (low _ _ (quarter_at b 3 (t / 4)) (two_bytes_at _ _ s₂ s₃ y (t / 4) (omega arith) e₂ e₃ q) (quarter_lt b 2 (t / 4)))
    at t (suc (suc (suc zero))) r h =
        let m : t % 2 ≡ 1 = omega arith in
        rw (r, m) (high _ (quarter_at b 2 (t / 4)) _ (two_bytes_at _ _ s₂ s₃ y (t / 4) (omega arith) e₂ e₃ q) (quarter_lt b 2 (t / 4)) (quarter_lt b 3 (t / 4)))
    at t (suc (suc (suc (suc r)))) e h = absurd (omega arith)

-- the frame has the first g pilots at their places; all else is what it was
pub record Piloted (f₀ : List ℕ) (g : ℕ) (f : List ℕ) : Type 0 where
  pub long : length f ≡ 6144
  pub is : (t : ℕ) → get_or f t 0 ≡ cond (eqb (t % 64) 0 && ltb (t / 64) g) (get_or pilots (t / 64) 0) (get_or f₀ t 0)

module _ {f₀ : List ℕ} where
  pub piloted_start : length f₀ ≡ 6144 → Piloted f₀ 0 f₀
  piloted_start e = record { long = e; is = λ t. at t (ℕ_discrete (t % 64) 0) }
    where
      at : (t : ℕ) → Dec (t % 64 ≡ 0) → get_or f₀ t 0 ≡ cond (eqb (t % 64) 0 && ltb (t / 64) 0) (get_or pilots (t / 64) 0) (get_or f₀ t 0)
      at t (yes q) = rw (eq-eqb (t % 64) 0 q, le-ltb (t / 64) 0 (omega arith))
      at t (no q) = rw (ne_eqb (t % 64) 0 q)

  pub piloted_step : {f : List ℕ} {g x : ℕ} → Piloted f₀ g f → g < 96 → x ≡ get_or pilots g 0 → Piloted f₀ (g + 1) (set f (64 * g) x)
  piloted_step {f} {g} {x} F h e = record { long = length-set f (64 * g) x ∙ F.long; is = λ t. at t (ℕ_discrete t (64 * g)) }
    where
      at : (t : ℕ) → Dec (t ≡ 64 * g)
          → get_or (set f (64 * g) x) t 0 ≡ cond (eqb (t % 64) 0 && ltb (t / 64) (g + 1)) (get_or pilots (t / 64) 0) (get_or f₀ t 0)
      at t (yes q) =
          let m : t % 64 ≡ 0 = omega arith in
          let d : g ≡ t / 64 = omega arith in
          rw (eq-eqb (t % 64) 0 m, lt-ltb (t / 64) (g + 1) (omega arith))
          (ap (λ (k : ℕ). get_or (set f (64 * g) x) k 0) q ∙ get_or-set_same f (64 * g) x 0 (omega (arith, F.long)) ∙ e ∙ ap (λ (k : ℕ). get_or pilots k 0) d)
      at t (no ne) = get_or-set_other f (64 * g) t x 0 ne ∙ F.is t ∙ same (ℕ_discrete (t % 64) 0) (dec_lt (t / 64) g)
        where
          same : Dec (t % 64 ≡ 0) → Dec (t / 64 < g)
              → cond (eqb (t % 64) 0 && ltb (t / 64) g) (get_or pilots (t / 64) 0) (get_or f₀ t 0)
              ≡ cond (eqb (t % 64) 0 && ltb (t / 64) (g + 1)) (get_or pilots (t / 64) 0) (get_or f₀ t 0)
          same (no m) _ = rw (ne_eqb (t % 64) 0 m)
          same (yes m) (yes l) = rw (lt-ltb (t / 64) g l, lt-ltb (t / 64) (g + 1) (omega arith))
          same (yes m) (no l) = rw (le-ltb (t / 64) g (omega arith), le-ltb (t / 64) (g + 1) (omega arith))

  pub piloted_done : {f : List ℕ} {g : ℕ} → Piloted f₀ g f → 96 ≤ g
      → f ≡ tabulate 6144 (λ t. cond (eqb (t % 64) 0) (get_or pilots (t / 64) 0) (get_or f₀ t 0))
  piloted_done {f} {g} F h = is_tabulate 0 f 6144 _ F.long (λ t l. F.is t ∙ rw (lt-ltb (t / 64) g (omega arith)) (all (eqb (t % 64) 0) t))
    where
      all : (b : Bool) (t : ℕ) → cond (b && true) (get_or pilots (t / 64) 0) (get_or f₀ t 0) ≡ cond b (get_or pilots (t / 64) 0) (get_or f₀ t 0)
      all true t = refl
      all false t = refl
