-- What the Reed-Solomon bound speaks of: codewords over spans, the words that carry them, wrong symbols (demand 3, second half).
-- Assumes nothing.
use Rattle.std.specs.Prelude.{◌≡◌, ◌≢◌, ◌↔◌, Bool, not, ◌&&◌, List, ℕ, suc, ◌+◌, ◌*◌, ◌/◌, ◌%◌, ◌<◌, eqb, ltb}
use Rattle.bits.specs.definitions.Bits.{bit_of, count}
use Rattle.lanes.specs.definitions.Permutation.{Places, partner}
use Rattle.lanes.specs.definitions.Stream.{stream_bit, interleaved}
use Rattle.symbols.specs.definitions.Frame.{arrived}
use Rattle.framing.specs.definitions.Stream.{Sent}
use Rattle.demands.specs.definitions.Trial.{Trial, Accepted, flips_in}

-- which codeword each symbol of each lane belongs to
abbrev pub Labels : Type 0
Labels = ℕ → ℕ → ℕ

-- demand 3's words, of the symbols of n frames, 132 a lane and frame. Spans of 68 symbols begin anywhere: in lane p one begins `before p` symbols before the
-- stream. Over a span two codewords alternate symbol by symbol; none of them is in two spans of a lane, or in a lane and its partner
pub record Spans (n : ℕ) (before : ℕ → ℕ) (label : Labels) : Type 0 where
  pub alternate : (p s t : ℕ) → p < 32 → s < 132 * n → t < 132 * n → (s + before p) / 68 ≡ (t + before p) / 68 → (label p s ≡ label p t) ↔ (s % 2 ≡ t % 2)
  pub one_span : (p s t : ℕ) → p < 32 → s < 132 * n → t < 132 * n → label p s ≡ label p t → (s + before p) / 68 ≡ (t + before p) / 68
  pub one_of_two : (p s t : ℕ) → p < 32 → s < 132 * n → t < 132 * n → label p s ≢ label (partner p) t

-- what the bound needs of it: a codeword's symbols in a lane are less than 68 apart and every other one, and none is in a lane and its partner
pub record Labelled (n : ℕ) (label : Labels) : Type 0 where
  pub near : (p s t : ℕ) → p < 32 → s < 132 * n → t < 132 * n → label p s ≡ label p t → s < t + 68
  pub every_other : (p s t : ℕ) → p < 32 → s < 132 * n → t < 132 * n → label p s ≡ label p t → s % 2 ≡ t % 2
  pub one_of_two : (p s t : ℕ) → p < 32 → s < 132 * n → t < 132 * n → label p s ≢ label (partner p) t

-- word w of lane p carries a symbol of codeword c: in the block rule, each bit's label plus 1 stands for the bit, and 0 is fill
unfoldable pub carries : Places → Labels → ℕ → ℕ → ℕ → Bool
carries ex label c p w = ltb 0 (count (λ q. eqb (interleaved ex (λ lane i. suc (label lane (i / 10))) p (110 * w + q)) (suc c)) 110)

-- word w of lane p has symbol s of lane q as its symbol k, in every run of sending
abbrev pub Has : Places → ℕ → (p w k q s : ℕ) → Type 0
Has ex n p w k q s =
    (lanes room : ℕ → List ℕ) (numbers : ℕ → ℕ) (frames stores : ℕ → List ℕ) → Sent ex n lanes room numbers frames stores
    → (b : ℕ) → b < 10 → bit_of 126 (arrived (frames (w / 12)) (32 * (w % 12) + p)) (10 * k + b) ≡ stream_bit lanes q (10 * s + b)

-- how many pairs of a lane and a number below n pass
unfoldable pub count_in_lanes : (ℕ → ℕ → Bool) → ℕ → ℕ
count_in_lanes f n = count (λ i. f (i % 32) (i / 32)) (32 * n)

-- word w of lane p is hit by more than two flips
unfoldable pub heavy : (flips : ℕ → List ℕ) → ℕ → ℕ → Bool
heavy flips p w = ltb 2 (flips_in flips p w)

-- how many words of n frames are so hit and carry a symbol of codeword c
unfoldable pub heavy_words : Places → ℕ → (flips : ℕ → List ℕ) → Labels → ℕ → ℕ
heavy_words ex n flips label c = count_in_lanes (λ p w. heavy flips p w && carries ex label c p w) (12 * n)

-- symbol s of lane p has come back wrong, 144 symbols later: at least one of its ten bits differs from what receiving the undamaged frames returns
unfoldable pub wrong_symbol : (back clean : ℕ → List ℕ) → ℕ → ℕ → Bool
wrong_symbol back clean p s = ltb 0 (count (λ k. not (eqb (stream_bit back p (10 * (s + 144) + k)) (stream_bit clean p (10 * (s + 144) + k)))) 10)

-- how many symbols of codeword c that have come back within n frames are wrong
unfoldable pub wrong_symbols : ℕ → (back clean : ℕ → List ℕ) → Labels → ℕ → ℕ
wrong_symbols n back clean label c = count_in_lanes (λ p s. ltb (s + 144) (132 * n) && wrong_symbol back clean p s && eqb (label p s) c) (132 * n)

-- a run, none of its frames refused, and labels by spans, at which a codeword gets more
pub record Exceeded (ex : Places) : Type 0 where
  pub n : ℕ
  pub flips : ℕ → List ℕ
  pub lanes : ℕ → List ℕ
  pub room : ℕ → List ℕ
  pub outs : ℕ → List ℕ
  pub flag_buffers : ℕ → List ℕ
  pub trial : Trial ex n flips lanes room outs flag_buffers
  pub accepted : Accepted trial
  pub before : ℕ → ℕ
  pub label : Labels
  pub spans : Spans n before label
  pub codeword : ℕ
  pub more : heavy_words ex n flips label codeword < wrong_symbols n trial.back trial.clean_back label codeword
