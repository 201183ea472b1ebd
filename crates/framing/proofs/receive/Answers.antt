-- `framing::receive` meets its contract: a refusal from each test, and the outcome where all passed. Assumes nothing.
use Rattle.std.proofs.Common.{rules, ◌≡◌, ◌<◌, length}
use mathlib.Core.Logic.{◌≢◌}
use Rattle.refusal.specs.definitions.Refusal.{answer_of}
use Rattle.refusal.proofs.Numbers.{positive}
use Rattle.framing.specs.definitions.Places.{base}
use Rattle.framing.proofs.Receiving.{short_flags, refused, without_lock, received}
use Rattle.framing.proofs.receive.Goals as goal

pub returns-in_err-flags : goal.returns-in_err-flags
returns-in_err-flags c =
    let x = c.args in
    let frame = rw c.in_ok-frame.ensures.ok_part at c.as_array.ensures.cases in
    let store = rw c.in_ok-store.ensures.ok_part at c.as_mut_array.ensures.cases in
    let lanes = rw c.in_ok-lanes.ensures.ok_part at c.as_mut_array-2.ensures.cases in
    let said : answer_of c.from_residual-in_err-flags.result ≡ 4 = search rules in
    let short : length x.flags.now ≢ 384 = search rules in
    rw (store.same, lanes.same, said)
    (refused base x.input.now x.store.now x.output.now x.flags.now 3 (short_flags _ _ _ _ frame.long store.long lanes.long short))

pub returns-in_err-receive_words : goal.returns-in_err-receive_words
returns-in_err-receive_words c =
    let said : answer_of c.from_residual-in_err-receive_words.result ≡ answer_of c.receive_words.result = search rules in
    let x = c.args in
    let frame = rw c.in_ok-frame.ensures.ok_part at c.as_array.ensures.cases in
    let store = rw c.in_ok-store.ensures.ok_part at c.as_mut_array.ensures.cases in
    let lanes = rw c.in_ok-lanes.ensures.ok_part at c.as_mut_array-2.ensures.cases in
    let flags = rw c.in_ok-flags.ensures.ok_part at c.as_mut_array-3.ensures.cases in
    let words = rw (frame.same, flags.same) at c.receive_words.ensures in
    let refused : 0 < answer_of c.receive_words.result = rw c.in_err-receive_words.was (positive _) in
    rw (store.same, lanes.same)
    (without_lock base x.input.now x.store.now x.output.now x.flags.now words frame.long store.long lanes.long flags.long said refused)

pub returns : goal.returns
returns c =
    let x = c.args in
    let frame = rw c.in_ok-frame.ensures.ok_part at c.as_array.ensures.cases in
    let store = rw c.in_ok-store.ensures.ok_part at c.as_mut_array.ensures.cases in
    let lanes = rw c.in_ok-lanes.ensures.ok_part at c.as_mut_array-2.ensures.cases in
    let flags = rw c.in_ok-flags.ensures.ok_part at c.as_mut_array-3.ensures.cases in
    let words = rw (frame.same, flags.same) at c.receive_words.ensures in
    let said : answer_of c.lanes_out.result ≡ 0 = search rules in
    let whole : answer_of c.receive_words.result ≡ 0 = search rules in
    let out = rw store.same at c.lanes_out.ensures in
    received base x.input.now x.store.now x.output.now x.flags.now words frame.long store.long lanes.long flags.long said whole out.store_after out.lanes_after
