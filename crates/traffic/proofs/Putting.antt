-- Blocks of lanes put down: one block, and block i of every lane.
-- Assumes nothing.
use mathlib.Core.Path.{◌≡◌, refl, sym, ap, ap₂, ◌∙◌}
use mathlib.Core.Logic.{◌⊎◌, inl, inr}
use mathlib.Core.List.{List, [], ◌∷◌, ◌++◌}
use Prim.Native.Nat.{ℕ, zero, suc, ◌+◌, ◌*◌, ◌-◌, ◌/◌, ◌%◌, ◌^◌, ◌≤◌, ◌<◌}
use native.Mathlib.Decide.{dec_lt}
use native.Mathlib.Omega.{arith}
use lib.Dec.{lit<}
use lib.ListN.{length, get_or, take, drop, get_or-append}
use lib.Seq.{length-take-le, get_or-take, get_or-drop, get_or-append-add}
use borrow.Rule.Slice.PartMut.{put_mid}
use Rattle.std.specs.Int.{to_be_bytes}
use Rattle.std.proofs.Common.{w64, mod-lt}
use Rattle.bits.specs.definitions.Bits.{bit_of, bit_at}
use Rattle.bits.specs.definitions.Put.{Put}
use Rattle.bits.proofs.Value.{bit_top, bit_low}
use Rattle.bits.proofs.Fields.{bit_at_byte}
use Rattle.bits.proofs.Joins.{put_bit, put_kept}
use Rattle.traffic.specs.private.Lanes.{Turned, BlockPut, BlocksPut}

-- a block that is not the last of its lane
pub block_law : {i p v : ℕ} {l l' : List ℕ} → i < 32 → Put 8 v (165 * p + 5 * i) l l' → BlockPut i p v l l'
block_law {i} {p} {v} {l} {l'} h P = record { bytes = P.bytes; here = here; kept = kept }
  where
    here : (c : ℕ) → c < 40 → bit_at l' (1320 * p + 40 * i + c) ≡ bit_of 64 v c
    here c b = let e : 1320 * p + 40 * i + c ≡ 8 * (165 * p + 5 * i) + c = omega arith in rw e (put_bit P c (omega arith))

    kept : (j : ℕ) → (j < 1320 * p + 40 * i) ⊎ (1320 * p + 1320 ≤ j) → bit_at l' j ≡ bit_at l j
    kept j (inl b) = put_kept P j (inl (omega arith))
    kept j (inr b) = put_kept P j (inr (omega arith))

same_bit : (l l' : List ℕ) (j : ℕ) → get_or l (j / 8) 0 ≡ get_or l' (j / 8) 0 → bit_at l j ≡ bit_at l' j
unfolding bit_at
same_bit l l' j e = ap (λ (x : ℕ). bit_of 8 x (j % 8)) e

-- the last, put down alone
pub last_law : {i p v k : ℕ} (o : ℕ) (l part : List ℕ) → i ≡ 32 → o ≡ 165 * p + 5 * i → k ≡ 5 → o + 5 ≤ length l → ((m : ℕ) → get_or l m 0 < 256)
    → part ≡ take 5 (to_be_bytes w64 v) → BlockPut i p v l (put_mid o k l part)
last_law {i} {p} {v} {k} o l part hi at five room small is =
    record { bytes = record { byte = λ m. byte m (dec_lt m o) (dec_lt m (o + 5)) }; here = here; kept = kept }
  where
    l' : List ℕ
    l' = put_mid o k l part

    front : length (take o l) ≡ o
    front = length-take-le o l (omega arith)

    long : length part ≡ 5
    long = ap length is

    behind : (m : ℕ) → get_or l' (o + m) 0 ≡ get_or (part ++ drop k (drop o l)) m 0
    behind m = ap (λ (n : ℕ). get_or l' (n + m) 0) (sym front) ∙ get_or-append-add (take o l) (part ++ drop k (drop o l)) m 0

    five_bytes : (m : ℕ) → m < 5 → get_or (take 5 (to_be_bytes w64 v)) m 0 ≡ v / 2 ^ (56 - 8 * m) % 256
    five_bytes zero h = refl
    five_bytes (suc zero) h = refl
    five_bytes (suc (suc zero)) h = refl
    five_bytes (suc (suc (suc zero))) h = refl
    five_bytes (suc (suc (suc (suc zero)))) h = refl
    five_bytes (suc (suc (suc (suc (suc m))))) h = absurd (omega arith)

    digit : (m : ℕ) → m < 5 → get_or l' (o + m) 0 ≡ v / 2 ^ (56 - 8 * m) % 256
    digit m h = behind m ∙ get_or-append part (drop k (drop o l)) 0 m (omega (arith, long)) ∙ ap (λ (x : List ℕ). get_or x m 0) is ∙ five_bytes m h

    before : (m : ℕ) → m < o → get_or l' m 0 ≡ get_or l m 0
    before m h = get_or-append (take o l) _ 0 m (omega (arith, front)) ∙ get_or-take o l m 0 h

    after : (m : ℕ) → o + 5 ≤ m → get_or l' m 0 ≡ get_or l m 0
    after m h =
        let n : ℕ = m - (o + 5) in
        let e : o + (5 + n) ≡ m = omega arith in
        ap (λ (x : ℕ). get_or l' x 0) (sym e) ∙ behind (5 + n) ∙ ap (λ (x : ℕ). get_or (part ++ drop k (drop o l)) (x + n) 0) (sym long)
        ∙ get_or-append-add part (drop k (drop o l)) n 0 ∙ ap (λ (x : ℕ). get_or (drop x (drop o l)) n 0) five
        ∙ get_or-drop 5 (drop o l) n 0 ∙ get_or-drop o l (5 + n) 0 ∙ ap (λ (x : ℕ). get_or l x 0) e

    byte : (m : ℕ) → Dec (m < o) → Dec (m < o + 5) → get_or l' m 0 < 256
    byte m (yes h) d = rw (before m h) (small m)
    byte m (no h) (yes b) = let e : o + (m - o) ≡ m = omega arith in rw (← e, digit (m - o) (omega arith)) (mod-lt _ (lit< tt))
    byte m (no h) (no b) = rw (after m (omega arith)) (small m)

    here : (c : ℕ) → c < 40 → bit_at l' (1320 * p + 40 * i + c) ≡ bit_of 64 v c
    here c h =
        let m : ℕ = c / 8 in
        let place : 1320 * p + 40 * i + c ≡ 8 * (o + m) + c % 8 = omega arith in
        let low : 8 * m + c % 8 ≡ c = omega arith in
        let all : 8 * m + 8 + (56 - 8 * m) ≡ 64 = omega arith in
        ap (bit_at l') place ∙ bit_at_byte l' (o + m) (c % 8) (omega arith) ∙ ap (λ (x : ℕ). bit_of 8 x (c % 8)) (digit m (omega arith))
        ∙ bit_low (8 * m) 8 (v / 2 ^ (56 - 8 * m)) (c % 8) (omega arith) ∙ bit_top (8 * m + 8) (56 - 8 * m) v (8 * m + c % 8) (omega arith)
        ∙ ap₂ (λ (x y : ℕ). bit_of x v y) all low

    kept : (j : ℕ) → (j < 1320 * p + 40 * i) ⊎ (1320 * p + 1320 ≤ j) → bit_at l' j ≡ bit_at l j
    kept j (inl h) = same_bit l' l j (before (j / 8) (omega arith))
    kept j (inr h) = same_bit l' l j (after (j / 8) (omega arith))

-- ---- block i of every lane

-- the groups of column q, one below the other
abbrev pub column : List (List ℕ) → ℕ → List ℕ
column rows q = get_or (get_or rows 0 []) q 0 ∷ get_or (get_or rows 1 []) q 0 ∷ get_or (get_or rows 2 []) q 0 ∷ get_or (get_or rows 3 []) q 0 ∷ []

column_at : (rows : List (List ℕ)) (q j : ℕ) → j < 4 → get_or (column rows q) j 0 ≡ get_or (get_or rows j []) q 0
column_at rows q zero h = refl
column_at rows q (suc zero) h = refl
column_at rows q (suc (suc zero)) h = refl
column_at rows q (suc (suc (suc zero))) h = refl
column_at rows q (suc (suc (suc (suc j)))) h = absurd (omega arith)

-- one lane more, p: lane k of the four whose blocks these are
pub blocks_step : {rows : List (List ℕ)} {blocks l₀ l l' : List ℕ} {i p n : ℕ} (q k : ℕ) → i < 33 → k < 4 → p ≡ 4 * q + k → n ≡ p + 1
    → Turned (column rows q) blocks → BlocksPut rows i p l₀ l → BlockPut i p (get_or blocks k 0) l l' → BlocksPut rows i n l₀ l'
blocks_step {rows} {blocks} {l₀} {l} {l'} {i} {p} {n} q k hi hk at next turned B K =
    record { bytes = λ _. K.bytes; here = λ m j e b. here m j e b (dec_lt m p); kept = λ m j b c. kept m j c (dec_lt p m) ∙ B.kept m j b c }
  where
    here : (m j e : ℕ) → m < n → Dec (m < p) → j < 4 → e < 10
        → bit_at l' (1320 * m + 40 * i + 10 * j + e) ≡ bit_of 64 (get_or (get_or rows j []) (m / 4) 0) (10 * (m % 4) + e)
    here m j e b (yes c) hj he = K.kept (1320 * m + 40 * i + 10 * j + e) (inl (omega arith)) ∙ B.here m j e c hj he
    here m j e b (no c) hj he =
        let row : m / 4 ≡ q = omega arith in
        let lane : m % 4 ≡ k = omega arith in
        let place : 1320 * m + 40 * i + 10 * j + e ≡ 1320 * p + 40 * i + (10 * j + e) = omega arith in
        rw (row, lane, place, ← column_at rows q j hj) (K.here (10 * j + e) (omega arith) ∙ turned.symbol k j e hk hj he)

    kept : (m j : ℕ) → j < 40 * i → Dec (p < m) → bit_at l' (1320 * m + j) ≡ bit_at l (1320 * m + j)
    kept m j c (yes d) = K.kept (1320 * m + j) (inr (omega arith))
    kept m j c (no d) = K.kept (1320 * m + j) (inl (omega arith))
