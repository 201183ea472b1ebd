-- `decoder::are_clean` meets its contract: what joins all numbers is 0 exactly where each of them is. Assumes nothing.
use Rattle.std.proofs.Common.{◌≡◌, sym, ◌∙◌, rules}
use Rattle.std.specs.Prelude.{fold, bit_or}
use Rattle.decoder.proofs.Rows.{joined_zero, zeros_joined}
use Rattle.decoder.proofs.are_clean.Goals as goal

pub returns : goal.returns
returns c =
    let all : c.fold.result ≡ fold bit_or 0 c.args.rest.now = search rules in (
      λ t. let e : c.fold.result ≡ 0 = search rules in (joined_zero 0 c.args.rest.now (sym all ∙ e)).1,
      λ h. let e : c.fold.result ≡ 0 = all ∙ zeros_joined c.args.rest.now h in search rules,
    )
