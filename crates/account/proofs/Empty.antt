-- What the contracts of `enter`, `lose`, `verdict_of` and `tallies_of` forbid, at named inputs: a refused entry that moves the expected number, one that is
-- taken and changes nothing, lateness that begins elsewhere than half the way round, a right total by a subtraction that stops at 0, and no words of any frame.
-- Assumes nothing.
use Rattle.std.proofs.Common.{◌≡◌, ℕ, ◌+◌, ◌^◌, false, ◌≢◌, replicate, ap, arith}
use Rattle.bits.specs.definitions.Bits.{count}
use Rattle.account.specs.definitions.Account.{ahead, counted, tallies_of, no_words, opened, over, frame_entered, loss_entered}
use Rattle.account.specs.definitions.Account.{measured, verdict, verdict_number}
use Rattle.account.specs.definitions.Account.{Entry}
use Rattle.account.specs.declared.Tallies.{Tallies}
use Rattle.account.specs.declared.Verdict.TheVariants.{Pass}

-- all the words of a frame are clean
abbrev clean : Tallies
clean = record { clean = 384; one = 0; two = 0; flagged = 0 }

-- frame 4 comes late to an account that expects 5
pub refused_moves : record { refusal = 10; account = opened 6 } ≡ frame_entered (opened 5) 4 clean → ⊥
unfolding frame_entered ahead over
refused_moves e = let f : ◌≡◌ {A = ℕ} 6 5 = ap (λ (x : Entry). x.account.expected) e in omega arith

-- frame 5 comes when it is expected, the first, which brings no words
pub taken_stays : record { refusal = 0; account = opened 5 } ≡ frame_entered (opened 5) 5 no_words → ⊥
unfolding frame_entered ahead over
taken_stays e = let f : ◌≡◌ {A = ℕ} 5 6 = ap (λ (x : Entry). x.account.expected) e in omega arith

-- half the way round, 2^31 after the 5 that is expected, a frame and a loss are late
pub half_way_late : (e : Entry)
    → (e ≡ frame_entered (opened 5) (5 + 2 ^ 31) clean → e.refusal ≡ 10) × (e ≡ loss_entered (opened 5) (5 + 2 ^ 31) → e.refusal ≡ 10)
unfolding frame_entered loss_entered ahead
half_way_late e = (ap (λ (x : Entry). x.refusal), ap (λ (x : Entry). x.refusal))

-- and one before that they are not
pub before_half_not_late : (e : Entry)
    → (e ≡ frame_entered (opened 5) (4 + 2 ^ 31) clean → e.refusal ≢ 10) × (e ≡ loss_entered (opened 5) (4 + 2 ^ 31) → e.refusal ≢ 10)
unfolding frame_entered loss_entered ahead over
before_half_not_late e = (λ f z. eleven (ap (λ (x : Entry). x.refusal) f) z, λ f z. eleven (ap (λ (x : Entry). x.refusal) f) z)
  where
    eleven : e.refusal ≡ 11 → e.refusal ≡ 10 → ⊥
    eleven f z = omega arith

-- one frame was ordered and accepted, with no words, as is due to the first: 384 less 448, stopped at 0, would be its total, and it would pass
pub one_accepted_passes : Pass ≡ verdict 1 0 (record { expected = 6; start = 5; accepted = 1; missing = 0; words = no_words }) false → ⊥
unfolding verdict measured verdict_number
one_accepted_passes e = let f : ◌≡◌ {A = ℕ} 1 0 = ap verdict_number e in omega arith

-- a frame two after the start number, all its words clean, from which none is left out: to tally nothing is no way to tally no fill
pub nothing_tallied : no_words ≡ tallies_of (opened 5) 7 (replicate 384 0) → ⊥
unfolding counted count ahead
nothing_tallied e = let f : ◌≡◌ {A = ℕ} 0 384 = ap (λ (t : Tallies). t.clean) e in omega arith
