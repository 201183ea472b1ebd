-- `decoder::decode` meets its contract: what is found in the word's remainder is what decoding says. Assumes nothing.
use Rattle.std.proofs.Common.{◌≡◌, ℕ, ◌/◌, ◌%◌, ◌^◌, sym, ap, ◌∙◌}
use Rattle.bits.specs.definitions.Words.{word_of}
use Rattle.decoder.specs.definitions.Mend.{mend, mended}
use Rattle.decoder.specs.definitions.Word.{decoded}
use Rattle.decoder.specs.private.Answer.{pattern_of}
use Rattle.decoder.specs.declared.Mend.{Mend}
use Rattle.decoder.proofs.Patterns.{mend_remainder}
use Rattle.decoder.proofs.decode.Goals as goal

pub returns : goal.returns
unfolding decoded word_of
returns c =
    let w : ℕ = word_of c.args.word.hi c.args.word.lo in
    let same : pattern_of c.find-found.result ≡ mend w = c.find-found.ensures ∙ ap mend c.word_remainder.ensures ∙ sym (mend_remainder w) in
    λ k.
    record {
      word =
          record {
            hi = (c.flip.ensures.hi ∙ ap (λ (m : Mend). mended w m / 2 ^ 64) same) k;
            lo = (c.flip.ensures.lo ∙ ap (λ (m : Mend). mended w m % 2 ^ 64) same) k;
          };
      mend = (c.pattern.ensures ∙ same) k;
    }
