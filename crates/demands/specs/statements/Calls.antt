-- The demands for a host in C, on one page: the three ways in which its calls come to a verdict, and the search. `proofs/Theorems` has a value of it.
-- Assumes nothing.
use Rattle.demands.specs.statements.Host.{ExaminedVerdict, ExaminedReport, HostedRun, HostedVerdict, HostedReport, HostedExists, NothingDropped}
use Rattle.demands.specs.statements.Host.{StoppedVerdict, OwnVerdict, ToldStopped}
use Rattle.demands.specs.statements.Hunt.{HuntedAlike}

pub record Calls : Type 0 where
  -- a capture in memory, in one call: its verdict, and its report
  pub examined_verdict : ExaminedVerdict
  pub examined_report : ExaminedReport
  -- a capture record by record: the calls come to its run, and so to its verdict and its report; and there are such calls
  pub hosted_run : HostedRun
  pub hosted_verdict : HostedVerdict
  pub hosted_report : HostedReport
  pub hosted : HostedExists
  -- whatever bytes are given to each step, none of them is passed over; and a run that is stopped is not measured
  pub nothing_dropped : NothingDropped
  pub stopped : StoppedVerdict
  -- receiving, the account and the verdict called by the host itself: the verdict is that of the capture's run; and 0 where the host says that it was stopped
  pub own_verdict : OwnVerdict
  pub told_stopped : ToldStopped
  -- a search fed piece by piece says what the search over the whole run says
  pub hunted_alike : HuntedAlike
