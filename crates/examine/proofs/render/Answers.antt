-- `examine::render` meets its contract: every report fits into the buffer, and stands at its beginning. Assumes nothing.
use Rattle.std.proofs.Common.{rules}
use Rattle.examine.proofs.Report.{report_taken, report_stands}
use Rattle.examine.proofs.render.Goals as goal

pub unwrap-n-requires : goal.unwrap-n-requires
unwrap-n-requires c = report_taken c.args.run c.args.out.now (search rules) _ c.report.ensures.taken

pub returns : goal.returns
returns c = report_stands c.args.run c.args.out.now (search rules) _ c.report.ensures.taken _ _ c.report.ensures.written c.unwrap-n.ensures
