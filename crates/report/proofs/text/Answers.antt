-- `report::text` meets its contract: line behind line. Assumes nothing.
use mathlib.Core.List.{append_assoc}
use Rattle.bits.specs.definitions.Bits.{tabulate}
use Rattle.report.specs.definitions.Report.{text, figure_lines, verdict_line}
use Rattle.report.proofs.text.Goals as goal

pub returns : goal.returns
unfolding text figure_lines verdict_line tabulate
returns c =
    rw (
      c.push.ensures.items,
      c.put-2.ensures,
      c.as_bytes.ensures.value,
      c.verdict_name.ensures.name,
      c.verdict.ensures,
      c.put.ensures,
      c.put_line-7.ensures.items,
      c.put_line-6.ensures.items,
      c.put_line-5.ensures.items,
      c.put_line-4.ensures.items,
      c.put_line-3.ensures.items,
      c.put_line-2.ensures.items,
      c.put_line.ensures.items,
      c.from.ensures,
      c.new-report.ensures,
    ) (simp append_assoc)
