use Rattle.std.proofs.Common.{length}
use Rattle.pres_read.specs.Reading.{finish}
use Rattle.pres_read.specs.Views.{progress_of}
use Rattle.pres_read.proofs.Ends.{finish_fits, given_fits}
use Rattle.pres_read.proofs.read.read_tree.Goals as goal

pub returns-clause-limits : goal.returns-clause-limits
returns-clause-limits c =
    given_fits (length c.args.names.now) c.finish.result (finish (progress_of c.read_tokens.new.self.parser) (length c.args.text.now)) c.finish.ensures
    (finish_fits (length c.args.names.now) c.read_tokens.new.self.depth.charge (length c.args.text.now) (progress_of c.read_tokens.new.self.parser)
    c.requires.some c.requires.few c.in_ok-read_tokens.ensures.charge c.in_ok-read_tokens.ensures.sound)
