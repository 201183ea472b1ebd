-- `decoder::pattern` meets its contract: the tests are the definition's. Assumes nothing.
use Rattle.std.proofs.Common.{refl, ◌<◌, ◌≤◌, max, min, arith}
use borrow.Author.Tests.{lt-ltb, le-ltb}
use Rattle.bits.proofs.Cases.{at_case}
use Rattle.decoder_tables.specs.private.Tables.{rising_of}
use Rattle.decoder.specs.private.Answer.{pattern_of, pattern_at, pattern_rising}
use Rattle.decoder.proofs.pattern.Goals as goal

pub returns-in_default : goal.returns-in_default
unfolding pattern_of
returns-in_default c = at_case pattern_of c.in_default.is

pub returns-then-second-lt126 : goal.returns-then-second-lt126
unfolding pattern_of pattern_at pattern_rising rising_of
returns-then-second-lt126 c =
    let p = c.in-Some.places in
    let below : max p.first p.second < 126 = omega (arith, c.if-second-lt126.true, c.from-second.ensures, c.max.ensures) in
    rw (c.in-Some.is, c.from-first.ensures, c.min.ensures, c.from-second.ensures, c.max.ensures, lt-ltb _ _ below) refl

pub returns-then-first-lt126 : goal.returns-then-first-lt126
unfolding pattern_of pattern_at pattern_rising rising_of
returns-then-first-lt126 c =
    let p = c.in-Some.places in
    let above : 126 ≤ max p.first p.second = omega (arith, c.if-second-lt126.false, c.from-second.ensures, c.max.ensures) in
    let below : min p.first p.second < 126 = omega (arith, c.if-first-lt126.true, c.from-first.ensures, c.min.ensures) in
    rw (c.in-Some.is, c.from-first.ensures, c.min.ensures, le-ltb _ _ above, lt-ltb _ _ below) refl

pub returns-else-first-lt126 : goal.returns-else-first-lt126
unfolding pattern_of pattern_at pattern_rising rising_of
returns-else-first-lt126 c =
    let p = c.in-Some.places in
    let above : 126 ≤ max p.first p.second = omega (arith, c.if-second-lt126.false, c.from-second.ensures, c.max.ensures) in
    let none : 126 ≤ min p.first p.second = omega (arith, c.if-first-lt126.false, c.from-first.ensures, c.min.ensures) in
    rw (c.in-Some.is, le-ltb _ _ above, le-ltb _ _ none) refl
