-- What a piece is refused by: `FeedRefusals`.
-- Assumes nothing.
use mathlib.Core.Path.{◌≡◌, ◌∙◌}
use mathlib.Core.Logic.{◌≢◌, ◌↔◌}
use mathlib.Core.List.{List}
use Prim.Native.Nat.{ℕ, ◌+◌, ◌^◌, ◌≤◌}
use native.Mathlib.Decide.{ℕ_discrete, dec_lt}
use native.Mathlib.Omega.{arith}
use lib.ListN.{length}
use Rattle.bits.proofs.Calls.{by_test, kept}
use Rattle.hunt.specs.declared.Hunt.{Hunt}
use Rattle.hunt.specs.definitions.Pieces.{feed_number}
use Rattle.hunt.specs.statements.Hunt.{FeedRefusals}
use Rattle.hunt.proofs.Feeding.{wrong_kept, found_before, too_many, room}

module _ (h : Hunt) (symbols piece : List ℕ) (r : ℕ) (n : r ≡ feed_number h symbols piece) where
  numbers : ((r ≡ 2) ↔ (length symbols ≢ 6144)) × ((r ≡ 23) ↔ ((length symbols ≡ 6144) × (h.found ≡ 0) × (2 ^ 64 ≤ h.taken + length piece)))
      × (r ≢ 0 → r ≢ 2 → r ≡ 23)
  numbers =
      by_test (ℕ_discrete (length symbols) 6144) (λ l. let e = n ∙ wrong_kept h symbols piece l in omega arith) (λ l.
      by_test (ℕ_discrete h.found 0) (λ f. let e = n ∙ found_before h symbols piece l f in omega arith) (λ f.
      by_test (dec_lt (h.taken + length piece) (2 ^ 64)) (λ m. let e = n ∙ too_many h symbols piece l f (omega arith) in omega arith)
      (λ m. let e = n ∙ room h symbols piece l f m in omega arith)))

pub feed_refusals : FeedRefusals
feed_refusals h symbols piece r h' symbols' F =
    (numbers h symbols piece r F.number, λ z. (kept r _ _ h h' F.number F.hunt z, kept r _ _ symbols symbols' F.number F.symbols z))
