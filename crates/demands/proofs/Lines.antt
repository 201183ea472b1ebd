-- The lines of a report: eight, of which the last is the verdict's, and no other can be taken for it.
-- Assumes nothing.
use mathlib.Core.Path.{◌≡◌, refl, sym, ap, ◌∙◌}
use mathlib.Core.Bool.{Bool, true, false, cond, not, ◌&&◌, false≢true}
use mathlib.Core.Logic.{◌≢◌}
use mathlib.Core.List.{List, [], ◌∷◌, ◌++◌, append_assoc, append-nil, Memᴰ}
use Prim.Native.Nat.{ℕ, zero, suc, ◌<◌}
use native.Mathlib.Omega.{arith}
use lib.Dec.{eqb}
use lib.ListN.{length, get_or}
use borrow.Author.Tests.{ne_eqb}
use Rattle.bits.specs.definitions.Bits.{tabulate}
use Rattle.account.specs.declared.Verdict.{Verdict}
use Rattle.account.specs.declared.Verdict.TheVariants.{NotMeasured, Pass, Fail}
use Rattle.bench.specs.declared.Run.{Run}
use Rattle.bench.specs.definitions.Run.{verdict_of}
use Rattle.report.specs.definitions.Report.{ascii, decimal, line, verdict_name, figure_lines, verdict_line, text}
use Rattle.report.proofs.Decimal.{decimal_reads}
use Rattle.demands.specs.definitions.Verdict.{lines_from}

-- no line ends in it
plain : List ℕ → Bool
plain [] = true
plain (c ∷ l) = not (eqb c 10) && plain l

plain_append : (a b : List ℕ) → plain a ≡ true → plain b ≡ true → plain (a ++ b) ≡ true
unfolding plain
plain_append [] b h k = k
plain_append (c ∷ a) b h k = at (eqb c 10) h (λ e. plain_append a b e k)
  where
    at : (x : Bool) → (not x && plain a) ≡ true → (plain a ≡ true → plain (a ++ b) ≡ true) → (not x && plain (a ++ b)) ≡ true
    at true e IH = e
    at false e IH = IH e

-- none of its bytes is a line's end
plain_by : (l : List ℕ) → ((b : ℕ) → Memᴰ b l → b ≢ 10) → plain l ≡ true
unfolding plain
plain_by [] h = refl
plain_by (c ∷ l) h = rw (ne_eqb c 10 (h c (Memᴰ.head refl))) (plain_by l (λ b m. h b (Memᴰ.tail m)))

decimal_plain : (n : ℕ) → plain (decimal n) ≡ true
decimal_plain n = plain_by (decimal n) (λ b m z. let d = decimal_reads.2 n b m in omega arith)

-- the first line of a text
first_line : (begun l rest : List ℕ) → plain l ≡ true → lines_from begun (l ++ (10 ∷ rest)) ≡ (begun ++ l) ∷ lines_from [] rest
unfolding lines_from plain
first_line begun [] rest h = ap (λ (b : List ℕ). b ∷ lines_from [] rest) (sym (append-nil begun))
first_line begun (c ∷ l) rest h = at (eqb c 10) h (first_line (begun ++ (c ∷ [])) l rest)
  where
    at : (x : Bool) → (not x && plain l) ≡ true
        → (plain l ≡ true → lines_from (begun ++ (c ∷ [])) (l ++ (10 ∷ rest)) ≡ ((begun ++ (c ∷ [])) ++ l) ∷ lines_from [] rest)
        → cond x (begun ∷ lines_from [] (l ++ (10 ∷ rest))) (lines_from (begun ++ (c ∷ [])) (l ++ (10 ∷ rest))) ≡ (begun ++ (c ∷ l)) ∷ lines_from [] rest
    at true e IH = absurd (false≢true e)
    at false e IH = IH e ∙ ap (λ (b : List ℕ). b ∷ lines_from [] rest) (append_assoc begun (c ∷ []) l)

-- a line of figures, and what follows it
figure_line : (name : List ℕ) (n : ℕ) (rest : List ℕ) → plain name ≡ true → lines_from [] (line name n ++ rest) ≡ (name ++ decimal n) ∷ lines_from [] rest
unfolding tabulate
figure_line name n rest h =
    ap (lines_from [])
    (append_assoc name (decimal n ++ ascii "\n") rest ∙ ap (λ (l : List ℕ). name ++ l) (append_assoc (decimal n) (ascii "\n") rest)
    ∙ sym (append_assoc name (decimal n) (10 ∷ rest)))
    ∙ first_line [] (name ++ decimal n) rest (plain_append name (decimal n) h (decimal_plain n))

one_of_figures : (name : List ℕ) (n : ℕ) (more last : List ℕ) → plain name ≡ true
    → lines_from [] ((line name n ++ more) ++ last) ≡ (name ++ decimal n) ∷ lines_from [] (more ++ last)
one_of_figures name n more last h = ap (lines_from []) (append_assoc (line name n) more last) ∙ figure_line name n (more ++ last) h

-- the line of the verdict
last_line : (v : Verdict) → lines_from [] (verdict_line v) ≡ (ascii "verdict " ++ verdict_name v) ∷ []
unfolding verdict_line verdict_name lines_from tabulate
last_line NotMeasured = refl
last_line Pass = refl
last_line Fail = refl

-- the eight lines
abbrev pub eight : Run → List (List ℕ)
eight r =
    (ascii "asked " ++ decimal r.asked)
    ∷ (ascii "accepted " ++ decimal r.account.accepted)
    ∷ (ascii "missing " ++ decimal r.account.missing)
    ∷ (ascii "clean " ++ decimal r.account.words.clean)
    ∷ (ascii "one " ++ decimal r.account.words.one)
    ∷ (ascii "two " ++ decimal r.account.words.two)
    ∷ (ascii "flagged " ++ decimal r.account.words.flagged)
    ∷ (ascii "verdict " ++ verdict_name (verdict_of r))
    ∷ []

pub text_lines : (r : Run) → lines_from [] (text r) ≡ eight r
unfolding text figure_lines plain tabulate
text_lines r =
    let last = verdict_line (verdict_of r) in
    one_of_figures (ascii "asked ") r.asked _ last refl
    ∙ ap (λ (l : List (List ℕ)). (ascii "asked " ++ decimal r.asked) ∷ l)
    (one_of_figures (ascii "accepted ") r.account.accepted _ last refl
    ∙ ap (λ (l : List (List ℕ)). (ascii "accepted " ++ decimal r.account.accepted) ∷ l)
    (one_of_figures (ascii "missing ") r.account.missing _ last refl
    ∙ ap (λ (l : List (List ℕ)). (ascii "missing " ++ decimal r.account.missing) ∷ l)
    (one_of_figures (ascii "clean ") r.account.words.clean _ last refl
    ∙ ap (λ (l : List (List ℕ)). (ascii "clean " ++ decimal r.account.words.clean) ∷ l)
    (one_of_figures (ascii "one ") r.account.words.one _ last refl
    ∙ ap (λ (l : List (List ℕ)). (ascii "one " ++ decimal r.account.words.one) ∷ l)
    (one_of_figures (ascii "two ") r.account.words.two _ last refl
    ∙ ap (λ (l : List (List ℕ)). (ascii "two " ++ decimal r.account.words.two) ∷ l)
    (figure_line (ascii "flagged ") r.account.words.flagged last refl
    ∙ ap (λ (l : List (List ℕ)). (ascii "flagged " ++ decimal r.account.words.flagged) ∷ l) (last_line (verdict_of r))))))))

-- a verdict is told by the first letter of its words
letter : (v w : Verdict) → get_or (verdict_name v) 0 0 ≡ get_or (verdict_name w) 0 0 → v ≡ w
unfolding verdict_name tabulate
letter NotMeasured NotMeasured e = refl
letter NotMeasured Pass e = absurd (omega arith)
letter NotMeasured Fail e = absurd (omega arith)
letter Pass NotMeasured e = absurd (omega arith)
letter Pass Pass e = refl
letter Pass Fail e = absurd (omega arith)
letter Fail NotMeasured e = absurd (omega arith)
letter Fail Pass e = absurd (omega arith)
letter Fail Fail e = refl

-- a line that says a verdict is the last one, and says the run's verdict
pub verdict_said : (r : Run) (v : Verdict) (place : ℕ) → place < length (eight r) → get_or (eight r) place [] ≡ ascii "verdict " ++ verdict_name v
    → verdict_of r ≡ v
unfolding tabulate
verdict_said r v zero h e = absurd (let z : ◌≡◌ {A = ℕ} 97 118 = ap (λ (l : List ℕ). get_or l 0 0) e in omega arith)
verdict_said r v (suc zero) h e = absurd (let z : ◌≡◌ {A = ℕ} 97 118 = ap (λ (l : List ℕ). get_or l 0 0) e in omega arith)
verdict_said r v (suc (suc zero)) h e = absurd (let z : ◌≡◌ {A = ℕ} 109 118 = ap (λ (l : List ℕ). get_or l 0 0) e in omega arith)
verdict_said r v (suc (suc (suc zero))) h e = absurd (let z : ◌≡◌ {A = ℕ} 99 118 = ap (λ (l : List ℕ). get_or l 0 0) e in omega arith)
verdict_said r v (suc (suc (suc (suc zero)))) h e = absurd (let z : ◌≡◌ {A = ℕ} 111 118 = ap (λ (l : List ℕ). get_or l 0 0) e in omega arith)
verdict_said r v (suc (suc (suc (suc (suc zero))))) h e = absurd (let z : ◌≡◌ {A = ℕ} 116 118 = ap (λ (l : List ℕ). get_or l 0 0) e in omega arith)
verdict_said r v (suc (suc (suc (suc (suc (suc zero)))))) h e = absurd (let z : ◌≡◌ {A = ℕ} 102 118 = ap (λ (l : List ℕ). get_or l 0 0) e in omega arith)
verdict_said r v (suc (suc (suc (suc (suc (suc (suc zero))))))) h e = letter (verdict_of r) v (ap (λ (l : List ℕ). get_or l 8 0) e)
verdict_said r v (suc (suc (suc (suc (suc (suc (suc (suc p)))))))) h e = absurd (omega arith)
