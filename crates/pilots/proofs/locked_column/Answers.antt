-- `pilots::locked_column` meets its contract: too few of a group are right for a lock, or the rule is asked. Assumes nothing.
use Rattle.std.proofs.Common.{◌≡◌, sym, ap, ◌∙◌, List, ℕ, false, ◌+◌, ◌%◌, ◌<◌, ◌≤◌, eqb, leb, get_or, rules, arith}
use borrow.Author.Tests.{tests}
use Rattle.pilots.specs.definitions.Table5.{pilots}
use Rattle.pilots.specs.definitions.Pilots.{met, locks, wrong_pilots, column_frame}
use Rattle.pilots.proofs.Lock.{column_lock, no_column, column_round, column_met, chunk_at}
use Rattle.pilots.proofs.Blocks.{column_closed}
use Rattle.pilots.proofs.locked_column.Goals.{then-row-le64, else-row-le64}
use Rattle.pilots.proofs.locked_column.Goals as goal

pub returns-in_default : goal.returns-in_default
returns-in_default c = sym (no_column c.args.column.now c.args.first c.in_default.ensures.cases)

pub returns-then-right-ge-LEAST_RIGHT : goal.returns-then-right-ge-LEAST_RIGHT
unfolding locks wrong_pilots pilots
returns-then-right-ge-LEAST_RIGHT c =
    let column = c.args.column.now in
    let row = c.args.first % 96 in
    let same = c.in-Some.ensures.cases in
    c.is_lock.ensures (met (column_frame column row) 0) (λ i b h q.
    let e : b ≡ eqb (get_or c.in-Some.column.now ((row + i) % 96) 0) (get_or pilots i 0) = search rules in
    e ∙ ap (λ (l : List ℕ). eqb (get_or l ((row + i) % 96) 0) (get_or pilots i 0)) same.same ∙ sym (column_met column row i h))
    ∙ sym (column_round column c.args.first ∙ column_lock column row same.long)

pub returns-else-right-ge-LEAST_RIGHT : goal.returns-else-right-ge-LEAST_RIGHT
unfolding pilots
returns-else-right-ge-LEAST_RIGHT c =
    let column = c.args.column.now in
    let row = c.args.first % 96 in
    let pilot = c.if-row-le64.pilot in
    let same = c.in-Some.ensures.cases in
    let none : leb 8 c.count_same-right.result ≡ false = search (rules, tests) in
    let here = rw c.unwrap.ensures at c.first_chunk.ensures.cases in
    let group = rw c.unwrap-2.ensures at c.first_chunk-2.ensures.cases in
    let fits : pilot + 32 ≤ 96 = elim c.if-row-le64.branch [ then-row-le64 w ↦ omega arith | else-row-le64 w ↦ omega arith ] in
    let rows : (k : ℕ) → k < 32 → (row + (pilot + k)) % 96 ≡ (row + pilot) % 96 + k =
    λ k h. elim c.if-row-le64.branch [ then-row-le64 w ↦ omega arith | else-row-le64 w ↦ omega arith ] in
    let closed : locks (column_frame column row) 0 ≡ false =
    column_closed column row ((row + pilot) % 96) pilot c.unwrap.result.now c.unwrap-2.result.now fits rows
    (λ k h. chunk_at c.in-Some.column.now _ _ _ _ here k h ∙ ap (λ (l : List ℕ). get_or l ((row + pilot) % 96 + k) 0) same.same)
    (λ k h. chunk_at pilots _ _ _ _ group k h) (omega (arith, c.count_same-right.ensures)) in
    none ∙ sym (column_round column c.args.first ∙ column_lock column row same.long ∙ closed)
