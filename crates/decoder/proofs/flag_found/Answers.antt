-- `decoder::flag_found` meets its contract: the flag counts the places that are bits'. Assumes nothing.
use Rattle.std.proofs.Common.{◌∙◌}
use Rattle.bits.proofs.Cases.{at_case}
use Rattle.decoder.specs.definitions.Mend.{flag_of}
use Rattle.decoder.specs.private.Answer.{pattern_of}
use Rattle.decoder.proofs.Lookups.{flag_there}
use Rattle.decoder.proofs.flag_found.Goals as goal

pub returns-in-Some : goal.returns-in-Some
unfolding pattern_of
returns-in-Some c = c.count.ensures ∙ flag_there _ ∙ at_case (λ f. flag_of (pattern_of f)) c.in-Some.is

pub returns-in-None : goal.returns-in-None
unfolding pattern_of flag_of
returns-in-None c = at_case (λ f. flag_of (pattern_of f)) c.in-None.is
