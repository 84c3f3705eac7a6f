use Rattle.base_lines.proofs.Printed.{printed_number_of-decimal}
use Rattle.base_lines.proofs.print.push_number.Goals as goal

pub returns-clause-read_back : goal.returns-clause-read_back
returns-clause-read_back c = printed_number_of-decimal c.args.n c.ranges.n.fits
