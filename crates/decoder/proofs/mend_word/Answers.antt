-- `decoder::mend_word` meets its contract: what is found and flipped is what the word's remainder tells. Assumes nothing.
use Rattle.std.proofs.Common.{◌≡◌, ℕ, ◌+◌, ◌*◌, ◌/◌, ◌%◌, ◌^◌, set, sym, ap, ap₂, ◌∙◌}
use Rattle.decoder.specs.definitions.Mend.{mend, mended, flag_of}
use Rattle.decoder.specs.private.Answer.{pattern_of, plain_at}
use Rattle.decoder.specs.declared.Mend.{Mend}
use Rattle.decoder.proofs.Patterns.{mend_remainder}
use Rattle.decoder.proofs.mend_word.Goals as goal

pub returns : goal.returns
unfolding plain_at
returns c =
    let words = c.args.words.now in
    let i = c.args.i in
    let w : ℕ = plain_at words i in
    let same : pattern_of c.find-found.result ≡ mend w = c.find-found.ensures ∙ ap mend c.requires.has_remainder ∙ sym (mend_remainder w) in
    record {
      word =
          ap₂ (λ (x y : ℕ). set (set words (2 * i) x) (2 * i + 1) y) (c.flip-word.ensures.hi ∙ ap (λ (m : Mend). mended w m / 2 ^ 64) same)
          (c.flip-word.ensures.lo ∙ ap (λ (m : Mend). mended w m % 2 ^ 64) same);
      flag = ap (set c.args.flags.now i) (c.flag_found.ensures ∙ ap flag_of same);
    }
