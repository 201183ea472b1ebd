-- The report of a run as text (01, account and verdict): eight lines in ASCII, each of which ends in one byte 0A.
-- Assumes nothing.
use Rattle.std.specs.Prelude.{cond, List, [], ◌∷◌, ◌++◌, ℕ, zero, suc, ◌+◌, ◌/◌, ◌%◌, ltb, leb, length, drop}
use Prim.Native.Char.{code}
use Prim.Native.String.{String, len, char_at}
use Rattle.bits.specs.definitions.Bits.{tabulate}
use Rattle.account.specs.declared.Verdict.{Verdict}
use Rattle.account.specs.declared.Verdict.TheVariants.{NotMeasured, Pass, Fail}
use Rattle.bench.specs.declared.Run.{Run}
use Rattle.bench.specs.definitions.Run.{verdict_of}

-- the bytes of a text
abbrev pub ascii : String → List ℕ
ascii text = tabulate (len text) (λ i. code (char_at text i))

-- a number in decimal, with no zeros in front, in at most so many digits
unfoldable pub digits : ℕ → ℕ → List ℕ
digits zero n = []
digits (suc k) n = cond (ltb n 10) ((48 + n) ∷ []) (digits k (n / 10) ++ ((48 + n % 10) ∷ []))

-- 20 digits hold every number of 64 bits
abbrev pub decimal : ℕ → List ℕ
decimal n = digits 20 n

-- a line: what it begins with, and a number
abbrev pub line : List ℕ → ℕ → List ℕ
line name n = name ++ (decimal n ++ ascii "\n")

-- a verdict in words
unfoldable pub verdict_name : Verdict → List ℕ
verdict_name NotMeasured = ascii "NOT MEASURED"
verdict_name Pass = ascii "PASS"
verdict_name Fail = ascii "FAIL"

-- the seven lines of figures: the frames asked for, the account as it stands
unfoldable pub figure_lines : Run → List ℕ
figure_lines r =
    line (ascii "asked ") r.asked
    ++ (line (ascii "accepted ") r.account.accepted
    ++ (line (ascii "missing ") r.account.missing
    ++ (line (ascii "clean ") r.account.words.clean
    ++ (line (ascii "one ") r.account.words.one
    ++ (line (ascii "two ") r.account.words.two
    ++ line (ascii "flagged ") r.account.words.flagged)))))

-- the line of the verdict
unfoldable pub verdict_line : Verdict → List ℕ
verdict_line v = ascii "verdict " ++ (verdict_name v ++ ascii "\n")

-- the whole report
unfoldable pub text : Run → List ℕ
text r = figure_lines r ++ verdict_line (verdict_of r)

-- how many bytes a buffer takes of the report: all, or, where it is too small, none
unfoldable pub written_bytes : Run → List ℕ → ℕ
written_bytes r buffer = cond (leb (length (text r)) (length buffer)) (length (text r)) 0

-- a buffer with the report at its beginning; one that is too small stays as it was
unfoldable pub written : Run → List ℕ → List ℕ
written r buffer = cond (leb (length (text r)) (length buffer)) (text r ++ drop (length (text r)) buffer) buffer

-- room for every report: 45 bytes of names, seven line ends, seven numbers of 20 digits, and 21 bytes of a verdict that says not measured
abbrev pub longest : ℕ
longest = 213
