-- The demands over words, streams and captures, all of them on one page; what speaks of calls from C has a page of its own, `Calls`. `proofs/Theorems` has a
-- value of both.
-- Assumes nothing.
use Rattle.decoder.specs.statements.Word.{MendsTwo, FlaggedExactly, SmallestDistance}
use Rattle.account.specs.statements.Kept.{KeptFromOrder}
use Rattle.account.specs.statements.Fill.{DueByNumber, AddsDue, Brings, FewerThanTwo}
use Rattle.traffic.specs.statements.Register.{Prbs31, DirectState}
use Rattle.traffic.specs.statements.Traffic.{FrameFrom, OneAfterTheOther, OneSequence, TrafficExists, TopBit}
use Rattle.traffic.specs.statements.Checker.{Compared, CountsExactly, ChecksExist}
use Rattle.traffic.specs.statements.Refusals.{FrameRefusals, NextRefusals, CheckRefusals}
use Rattle.traffic.specs.statements.Figures.{TrafficFigures}
use Rattle.hunt.specs.statements.Hunt.{FoundExactly, NoneExactly, ShortExactly, NoOther, FoundByThen, HoweverCut, AllFed, AllTaken, FrameKept}
use Rattle.hunt.specs.statements.Hunt.{FeedRefusals, AnswerExactly, CanBeFed}
use Rattle.framing.specs.statements.Places.{BasePlaces}
use Rattle.framing.specs.statements.Stream.{BlockRule}
use Rattle.framing.specs.statements.Figures.{BenchFigures}
use Rattle.demands.specs.statements.Refusals.{Refusals}
use Rattle.demands.specs.statements.Symbols.{SymbolRule}
use Rattle.demands.specs.statements.Return.{Return, UndamagedExist, OneFrame}
use Rattle.demands.specs.statements.Stores.{StoresHold, LastKept}
use Rattle.demands.specs.statements.Flags.{FlagsExactly}
use Rattle.demands.specs.statements.Trial.{FlipsCounted, RefusedExactly, TrialsExist}
use Rattle.demands.specs.statements.OneForAll.{OneForAll, TwoFlips}
use Rattle.demands.specs.statements.Tallies.{TalliesAlike, ReportedIsEntered, ReportsAlike}
use Rattle.demands.specs.statements.Verdict.{PassExactly, FailExactly, NotMeasuredExactly, ProgramSays, MeasuredOnce, ExaminationsExist, ArrivedAlways}
use Rattle.demands.specs.statements.Verdict.{NeverPass, OneNotMeasured, AllCounted, AlwaysCounted, StepNumbers}
use Rattle.demands.specs.statements.ReedSolomon.{SpansExist, SpansLabel, CarriesExactly, ReedSolomonBound, FourPairs, OtherPlaces, OtherPairs}
use Rattle.demands.specs.statements.Traffic.{TrafficReturns, TrafficHit, WrongTest, TrafficSpeaks}
use Rattle.demands.specs.statements.Fill.{FillBits, FillWords, TalliedExactly}
use Rattle.demands.specs.statements.Hunt.{SentFound, HitFound, AcceptedFound, FoundAccepted}

-- the demands over words, streams and captures, sentence by sentence
pub record Demands : Type 0 where
  -- demand 1: the refusal list, number by number; and by which numbers a record is refused in a run
  pub refusals : Refusals
  pub step_numbers : StepNumbers
  -- demand 2: sent frames symbol for symbol; which symbols are exchanged; what their words carry; and the figures that 01 prints
  pub symbols : SymbolRule
  pub places : BasePlaces
  pub blocks : BlockRule
  pub figures : BenchFigures
  -- demand 2: an undamaged stream comes back; one frame alone; there are such streams; and the last 36 blocks are in the two stores, row by row and bit by bit
  pub returns : Return
  pub one_frame : OneFrame
  pub undamaged : UndamagedExist
  pub stores : StoresHold
  pub last_kept : LastKept
  -- demand 2: at most two flips in a word are mended, of one word and over a stream; and how far code words lie apart
  pub mends_two : MendsTwo
  pub two_flips : TwoFlips
  pub distance : SmallestDistance
  -- demand 2: a word is flagged exactly when no code word lies within two bits; and so it is with the flag bytes of a call
  pub flagged : FlaggedExactly
  pub flag_bytes : FlagsExactly
  -- demand 2: PASS exactly if; FAIL likewise; and everything else; what the program prints; that a capture has one meaning and a report; and what an examiner
  -- may read from it
  pub pass : PassExactly
  pub fail : FailExactly
  pub not_measured : NotMeasuredExactly
  pub program : ProgramSays
  pub one_meaning : MeasuredOnce
  pub examinations : ExaminationsExist
  pub never_pass : NeverPass
  pub arrived : ArrivedAlways
  pub all_counted : AllCounted
  pub always_counted : AlwaysCounted
  -- demand 2: what an account keeps from a new order on
  pub kept : KeptFromOrder
  -- demand 3, first half, through the account and through the program too; and that there are trials, what they are refused by, and what counts as a flip
  pub one_for_all : OneForAll
  pub tallies : TalliesAlike
  pub reported : ReportedIsEntered
  pub reports : ReportsAlike
  pub trials : TrialsExist
  pub refused : RefusedExactly
  pub flips : FlipsCounted
  -- demand 3, second half: the bound, for labels by spans, of which there are any; what a word carries; and the places for which it holds
  pub bound : ReedSolomonBound
  pub labels : SpansLabel
  pub spans : SpansExist
  pub carried : CarriesExactly
  pub pairs : FourPairs
  pub elsewhere : OtherPlaces
  pub other_pairs : OtherPairs
  -- 02, request 01: test traffic is PRBS31, and a state is found directly; the figures of the second program; frames one after
  -- the other and asked for directly, and that there are such calls; and that a state's top bit is not looked at
  pub prbs31 : Prbs31
  pub direct_state : DirectState
  pub traffic_figures : TrafficFigures
  pub frame_from : FrameFrom
  pub one_after_the_other : OneAfterTheOther
  pub one_sequence : OneSequence
  pub traffic_exists : TrafficExists
  pub top_bit : TopBit
  -- 02, request 01: what the checker compares, and what it counts of whatever came back, undamaged, and hit by flips; which
  -- bits are wrong; and that test traffic speaks for all lanes
  pub compared : Compared
  pub counts_exactly : CountsExactly
  pub checks_exist : ChecksExist
  pub traffic_returns : TrafficReturns
  pub traffic_hit : TrafficHit
  pub wrong_test : WrongTest
  pub traffic_speaks : TrafficSpeaks
  -- 02, request 01: what its calls are refused by, number by number
  pub frame_refusals : FrameRefusals
  pub next_refusals : NextRefusals
  pub check_refusals : CheckRefusals
  -- 02, request 02: what carries fill, and so what is tallied; what is due to a frame, that it is brought and added; and that an order for one frame is not
  -- measured, by its numbers and in the report
  pub fill_bits : FillBits
  pub fill_words : FillWords
  pub tallied_exactly : TalliedExactly
  pub due_by_number : DueByNumber
  pub brings : Brings
  pub adds_due : AddsDue
  pub fewer_than_two : FewerThanTwo
  pub one_not_measured : OneNotMeasured
  -- 02, request 04: what a search says of a whole run: an offset, none or 13, exactly; and that a frame which locks is found, so one that was sent, or
  -- damaged in fewer pilots than refuse it, and one that receiving accepts; and that receiving accepts what is found
  pub found_exactly : FoundExactly
  pub none_exactly : NoneExactly
  pub short_exactly : ShortExactly
  pub no_other : NoOther
  pub found_by_then : FoundByThen
  pub sent_found : SentFound
  pub hit_found : HitFound
  pub accepted_found : AcceptedFound
  pub found_accepted : FoundAccepted
  -- 02, request 04: the same however the run is cut, and that it can be; what is taken in and kept; what a piece is refused by, number by number,
  -- and what is answered, whatever is stored
  pub however_cut : HoweverCut
  pub all_fed : AllFed
  pub can_be_fed : CanBeFed
  pub all_taken : AllTaken
  pub frame_kept : FrameKept
  pub feed_refusals : FeedRefusals
  pub answer_exactly : AnswerExactly
