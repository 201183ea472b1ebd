-- How long a report can be.
-- Assumes nothing.
use mathlib.Core.List.{List, ◌++◌}
use Prim.Native.Nat.{ℕ, ◌+◌, ◌≤◌}
use Prim.Native.Char.{code}
use Prim.Native.String.{String, len, char_at}
use native.Mathlib.Omega.{arith}
use lib.ListN.{length, length-append}
use Rattle.bits.proofs.Tabulate.{length_tabulate}
use Rattle.account.specs.declared.Verdict.{Verdict}
use Rattle.account.specs.declared.Verdict.TheVariants.{NotMeasured, Pass, Fail}
use Rattle.bench.specs.definitions.Run.{verdict_of}
use Rattle.report.specs.definitions.Report.{ascii, decimal, line, verdict_name, figure_lines, verdict_line, text}
use Rattle.report.specs.statements.Report.{ReportFits}
use Rattle.report.proofs.Decimal.{digits_fit}

-- a text of at most n bytes
record AtMost (n : ℕ) (a : List ℕ) : Type 0 where
  pub fits : length a ≤ n

-- a text behind another
behind : {m n : ℕ} {a b : List ℕ} → AtMost m a → AtMost n b → AtMost (m + n) (a ++ b)
behind {m} {n} {a} {b} h k = record { fits = omega (arith, length-append a b, h.fits, k.fits) }

-- the bytes of a text
exact : (s : String) → AtMost (len s) (ascii s)
exact s = record { fits = omega (arith, length_tabulate (len s) (λ i. code (char_at s i))) }

-- a number
a_number : (n : ℕ) → AtMost 20 (decimal n)
a_number n = record { fits = digits_fit 20 n }

-- a line is at most 21 bytes longer than its name
a_line : (s : String) (n : ℕ) → AtMost (len s + 21) (line (ascii s) n)
a_line s n = behind (exact s) (behind (a_number n) (exact "\n"))

-- a verdict in words
in_words : (v : Verdict) → AtMost 12 (verdict_name v)
unfolding verdict_name
in_words NotMeasured = exact "NOT MEASURED"
in_words Pass = record { fits = omega (arith, (exact "PASS").fits) }
in_words Fail = record { fits = omega (arith, (exact "FAIL").fits) }

-- no report is longer than the bound
pub text_fits : ReportFits
unfolding text figure_lines verdict_line
text_fits run =
    let a = run.account in
    let t = a.words in
    (behind
    (behind (a_line "asked " run.asked) (behind (a_line "accepted " a.accepted) (behind (a_line "missing " a.missing)
    (behind (a_line "clean " t.clean) (behind (a_line "one " t.one) (behind (a_line "two " t.two) (a_line "flagged " t.flagged)))))))
    (behind (exact "verdict ") (behind (in_words (verdict_of run)) (exact "\n")))
    ).fits
