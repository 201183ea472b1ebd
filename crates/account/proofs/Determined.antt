-- Each public function's contract fixes its outcome: two outcomes of one call that satisfy its `ensures`, as the source states it, are equal.
-- Assumes nothing.
use Rattle.std.proofs.Common.{◌≡◌, Result, sym, ap, ◌∙◌}
use Rattle.bits.proofs.Fixes.{Fixes}
use Rattle.refusal.specs.declared.Refusal.{Refusal}
use Rattle.refusal.specs.definitions.Refusal.{answer_of}
use Rattle.refusal.proofs.Numbers.{answer_injective}
use Rattle.account.specs.definitions.Account.{Entry}
use Rattle.account.specs.declared.Account.{Account}
use Rattle.account.proofs.Account.tallies_of.Kinds as tallies-kinds
use Rattle.account.proofs.Account.tallies_of.Reads as tallies-reads
use Rattle.account.proofs.Account.opened.Kinds as opened-kinds
use Rattle.account.proofs.Account.opened.Reads as opened-reads
use Rattle.account.proofs.Account.enter.Kinds as enter-kinds
use Rattle.account.proofs.Account.enter.Reads as enter-reads
use Rattle.account.proofs.Account.lose.Kinds as lose-kinds
use Rattle.account.proofs.Account.lose.Reads as lose-reads
use Rattle.account.proofs.Account.verdict.Kinds as verdict-kinds
use Rattle.account.proofs.Account.verdict.Reads as verdict-reads
use Rattle.account.proofs.U32FromVerdict.from.Kinds as number-kinds
use Rattle.account.proofs.U32FromVerdict.from.Reads as number-reads

pub tallies_of_determined : Fixes 2 tallies-kinds.ps tallies-kinds.r tallies-reads.Post (λ κs s t. Unit)
tallies_of_determined κs a x y s t p q = (p ∙ sym q, tt)

pub opened_determined : Fixes 0 opened-kinds.ps opened-kinds.r opened-reads.Post (λ κs s t. Unit)
opened_determined κs a x y s t p q = (p ∙ sym q, tt)

-- an entry is its answer and the account that it leaves
parts : (x y : Result Unit Refusal) (a b : Account) (e : Entry)
    → record { refusal = answer_of x; account = a } ≡ e → record { refusal = answer_of y; account = b } ≡ e → (x ≡ y) × (a ≡ b)
parts x y a b e p q = let same = p ∙ sym q in (answer_injective (ap (λ (z : Entry). z.refusal) same), ap (λ (z : Entry). z.account) same)

-- the answer, and the account at exit
pub enter_determined : Fixes 1 enter-kinds.ps enter-kinds.r enter-reads.Post (λ κs s t. s.0.now ≡ t.0.now)
enter_determined κs a x y s t p q = parts x y s.0.now t.0.now _ p q

pub lose_determined : Fixes 1 lose-kinds.ps lose-kinds.r lose-reads.Post (λ κs s t. s.0.now ≡ t.0.now)
lose_determined κs a x y s t p q = parts x y s.0.now t.0.now _ p q

pub verdict_determined : Fixes 1 verdict-kinds.ps verdict-kinds.r verdict-reads.Post (λ κs s t. Unit)
verdict_determined κs a x y s t p q = (p ∙ sym q, tt)

pub verdict_number_determined : Fixes 0 number-kinds.ps number-kinds.r number-reads.Post (λ κs s t. Unit)
verdict_number_determined κs a x y s t p q = (p ∙ sym q, tt)
