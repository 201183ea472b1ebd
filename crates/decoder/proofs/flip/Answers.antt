-- `decoder::flip` meets its contract: a word with the bits at two places flipped is that with the pattern's flipped. Assumes nothing.
use Rattle.std.proofs.Common.{ℕ, ◌+◌, ◌*◌, ◌/◌, ◌%◌, ◌^◌, ap, sym, ◌∙◌, rules}
use lib.Arith.{digits_div, digits_mod}
use Rattle.bits.proofs.Cases.{at_case}
use Rattle.decoder.specs.definitions.Mend.{mended}
use Rattle.decoder.specs.private.Answer.{pattern_of}
use Rattle.decoder.proofs.Lookups.{flipped_there}
use Rattle.decoder.proofs.flip.Goals as goal

pub returns-in-Some-clause-hi : goal.returns-in-Some-clause-hi
unfolding pattern_of
returns-in-Some-clause-hi c =
    let w : ℕ = c.args.word.hi * 2 ^ 64 + c.args.word.lo in
    c.flip.ensures.hi ∙ ap (λ (n : ℕ). n / 2 ^ 64) (flipped_there w _ ∙ at_case (λ f. mended w (pattern_of f)) c.in-Some.is)

pub returns-in-Some-clause-lo : goal.returns-in-Some-clause-lo
unfolding pattern_of
returns-in-Some-clause-lo c =
    let w : ℕ = c.args.word.hi * 2 ^ 64 + c.args.word.lo in
    c.flip.ensures.lo ∙ ap (λ (n : ℕ). n % 2 ^ 64) (flipped_there w _ ∙ at_case (λ f. mended w (pattern_of f)) c.in-Some.is)

pub returns-in-None-clause-hi : goal.returns-in-None-clause-hi
unfolding pattern_of mended
returns-in-None-clause-hi c = rw c.in-None.is (sym (digits_div c.args.word.hi (search rules)))

pub returns-in-None-clause-lo : goal.returns-in-None-clause-lo
unfolding pattern_of mended
returns-in-None-clause-lo c = rw c.in-None.is (sym (digits_mod c.args.word.hi (search rules)))
