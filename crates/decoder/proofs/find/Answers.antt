-- `decoder::find` meets its contract: what is confirmed is what `mend` says, and where nothing is, no pattern has the remainder. Assumes nothing.
use Rattle.std.proofs.Common.{sym, ◌∙◌}
use Rattle.decoder.specs.private.Answer.{pattern_of}
use Rattle.decoder.proofs.Lookups.{found_there, found_none}
use Rattle.decoder.proofs.find.Goals as goal

pub returns-then-sum-remainder : goal.returns-then-sum-remainder
unfolding pattern_of
returns-then-sum-remainder c =
    found_there c.args.locator.now.finds _ c.ranges.remainder.fits c.places-places.ensures
    (sym c.remainder-sum.ensures ∙ c.if-sum-remainder.true)

pub returns-else-sum-remainder : goal.returns-else-sum-remainder
unfolding pattern_of
returns-else-sum-remainder c =
    found_none c.args.locator.now.finds _ c.ranges.remainder.fits c.places-places.ensures
    (λ e. c.if-sum-remainder.false (c.remainder-sum.ensures ∙ e))
