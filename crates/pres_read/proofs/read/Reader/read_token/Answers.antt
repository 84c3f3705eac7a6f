use Rattle.pres_tokens.specs.Symbols.{token_of}
use Rattle.pres_read.specs.Views.{progress_of, depth_of}
use Rattle.pres_read.proofs.Ends.{sound_further}
use Rattle.pres_read.proofs.read.Reader.read_token.Goals as goal

pub returns-clause-sound : goal.returns-clause-sound
returns-clause-sound c =
    sound_further c.args.names.now (progress_of c.args.self.now.parser) (progress_of c.read_token.new.self) (depth_of c.args.self.now.depth) _
    (token_of c.args.token) c.requires.sound c.in_ok-read_token.ensures c.in_ok-self.ensures
