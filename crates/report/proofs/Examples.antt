-- The examples hold: computed, and by what comes first.
-- Assumes nothing.
use mathlib.Core.Path.{◌≡◌, refl, ap, ◌∙◌}
use Prim.Native.Nat.{ℕ, zero, suc}
use lib.ListN.{length}
use Rattle.bits.specs.definitions.Bits.{tabulate, value}
use Rattle.account.specs.definitions.Account.{measured, verdict}
use Rattle.capture.specs.definitions.Read.{Read}
use Rattle.capture.specs.definitions.Read.{End, Refused, Order, Frame}
use Rattle.capture.specs.definitions.Capture.{big_endian_at, refusal_at, refused_or, order_at, read_at}
use Rattle.bench.specs.definitions.Run.{begun, order_came, frame_came, halted, came_as, goes_on, verdict_of}
use Rattle.bench.specs.definitions.Walk.{walked, examined}
use Rattle.report.specs.definitions.Report.{digits, verdict_name, figure_lines, verdict_line, text}
use Rattle.report.specs.statements.Examples.{LoneOrder, NoOrder}
use Rattle.bench.proofs.Walk.{walked_one, walked_end, walked_stays}

-- 01's lone order
pub lone_order_lem : LoneOrder
unfolding examined walked read_at big_endian_at value order_at refused_or refusal_at came_as order_came text figure_lines verdict_line verdict_name digits
    tabulate verdict_of goes_on verdict measured
lone_order_lem = refl

-- no order first: the run is as it began, or stopped at once
pub no_order : NoOrder
unfolding examined walked came_as halted frame_came text figure_lines verdict_line verdict_name digits tabulate verdict_of goes_on verdict measured
no_order s h = from (length s)
  where
    from : (n : ℕ) → text (walked n s 0 begun) ≡ text begun
    from zero = refl
    from (suc n) = at (read_at s 0) refl
      where
        at : (r : Read) → read_at s 0 ≡ r → text (walked (suc n) s 0 begun) ≡ text begun
        at End e = ap text (walked_end (suc n) s 0 begun e)
        at (Refused refusal) e = ap text (walked_one n s 0 begun (Refused refusal) e ∙ walked_stays (came_as (Refused refusal) begun s) refl n s 0)
        at (Order start asked allowed next) e = absurd (h start asked allowed next e)
        at (Frame number from next) e =
            ap text (walked_one n s 0 begun (Frame number from next) e
            ∙ walked_stays (came_as (Frame number from next) begun s) refl n s next)
