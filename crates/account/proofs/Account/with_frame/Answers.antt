-- `account::Account::with_frame` meets its contract: what is answered is the account grown. Assumes nothing.
use Rattle.std.proofs.Common.{◌≡◌, false, arith, ap, ◌∙◌}
use Rattle.std.proofs.lemmas.Bool.Decides.{nat_tests}
use Rattle.account.specs.declared.Account.{Account}
use Rattle.account.specs.definitions.Account.{ahead, late, over, grown, total, due}
use Rattle.account.proofs.AcceptedEntry.{frame_done}
use Rattle.account.proofs.Account.with_frame.Goals as goal

pub returns : goal.returns
returns c =
    let a = c.args.self in
    let gap = c.in_ok-gap.gap in
    let far : gap ≡ ahead c.args.got a.expected = grind (arith, nat_tests) in
    let in_time : late gap ≡ false = grind (arith, nat_tests) in
    let within : over (grown a c.args.got 1 gap c.args.t) ≡ false = grind (arith, nat_tests) in
    let new : c.in_ok-grown.grown ≡ grown a c.args.got 1 gap c.args.t = grind (arith, nat_tests) in
    let all : total c.args.t ≡ due a c.args.got = grind (arith, nat_tests) in
    ap (λ (x : Account). record { refusal = 0; account = x }) new ∙ frame_done a c.args.got c.args.t gap far in_time within all
