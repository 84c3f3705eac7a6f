use Rattle.std.proofs.Common.{arith}
use Rattle.base_lines.specs.Lines.{lines_of}
use Rattle.pop_journal.proofs.Written.{form_of, spelling_of}
use Rattle.pop_journal.proofs.read.read_journal.Goals as goal

pub returns : goal.returns
returns c =
    let lines = lines_of c.args.text.now in
    let read = c.read_lines.ensures in
    record {
      read = read.read;
      kind = read.kind;
      first = read.first;
      limits = read.limits;
      rounds = form_of c.args.kind c.args.agents c.args.first lines c.read_lines.result (omega (arith, c.requires)) read.read;
      spelled = spelling_of c.args.kind c.args.agents c.args.first lines c.read_lines.result (omega (arith, c.requires)) read.read;
    }
