-- `report::output::write_line` counts the line where it was taken.
use native.Mathlib.Omega.{arith}
use Rattle.lines.proofs.Reports.{few}
use Rattle.report.proofs.output.write_line.Goals as goal

pub overflow_add-result : goal.overflow_add-result
overflow_add-result g c = omega (arith, few c.args.file.now, c.requires.1)
