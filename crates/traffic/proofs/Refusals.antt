-- What calls of test traffic are refused by: `FrameRefusals`, `NextRefusals` and `CheckRefusals`.
-- Assumes nothing.
use mathlib.Core.Path.{◌≡◌, ◌∙◌}
use mathlib.Core.Logic.{◌≢◌, ◌↔◌}
use mathlib.Core.List.{List}
use Prim.Native.Nat.{ℕ}
use native.Mathlib.Decide.{ℕ_discrete}
use native.Mathlib.Omega.{arith}
use lib.ListN.{length}
use Rattle.bits.specs.definitions.Call.{unless}
use Rattle.bits.proofs.Calls.{by_test, passed, failed, kept}
use Rattle.traffic.specs.statements.Refusals.{FrameRefusals, NextRefusals, CheckRefusals}

-- of one test
frame_test : (o : List ℕ) (r : ℕ) → r ≡ unless 5280 o 3 0 → ((r ≡ 0) ↔ (length o ≡ 5280)) × ((r ≡ 3) ↔ (length o ≢ 5280)) × (r ≢ 0 → r ≡ 3)
frame_test o r n =
    by_test (ℕ_discrete (length o) 5280) (λ h. let e = n ∙ failed 5280 o 3 0 h in omega arith) λ h. let e = n ∙ passed 5280 o 3 0 h in omega arith

pub frame_refusals : FrameRefusals
frame_refusals f o r o' G = (frame_test o r G.number, kept r _ _ o o' G.number G.output)

pub next_refusals : NextRefusals
next_refusals s o r s' o' C =
    (frame_test o r C.number, λ z. (kept r _ _ s s' C.number C.state z, kept r _ _ o o' C.number C.output z))

pub check_refusals : CheckRefusals
check_refusals f lanes c r c' C = (
  by_test (ℕ_discrete (length lanes) 5280) (λ h. let e = C.number ∙ failed 5280 lanes 1 (unless 32 c 3 0) h in omega arith)
      λ h. let n = C.number ∙ passed 5280 lanes 1 (unless 32 c 3 0) h in
      by_test (ℕ_discrete (length c) 32) (λ i. let e = n ∙ failed 32 c 3 0 i in omega arith) λ i. let e = n ∙ passed 32 c 3 0 i in omega arith,
  kept r _ _ c c' C.number C.counts,
)
