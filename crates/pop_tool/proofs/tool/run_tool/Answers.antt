use Rattle.pop_words.specs.CommandLine.{texts_of}
use Rattle.pop_tool.proofs.Puts.{call_accepts, call_made}
use Rattle.pop_tool.proofs.tool.run_tool.Goals as goal

pub write-requires : goal.write-requires
write-requires g c =
    call_accepts (g.K.Sink.accepts c.args.sink.now) (texts_of c.args.words.now) (g.S.Source.left c.args.source.now) _ (g.K.Sink.holds c.args.sink.now) _ _
    c.any_output-output.result c.requires.room c.any_output-output.ensures.output

pub returns : goal.returns
returns g c =
    call_made g.S.Source.left g.S.Source.faults g.K.Sink.holds g.K.Sink.faults (texts_of c.args.words.now) c.args.source.now _ c.args.sink.now _
    c.write.result c.any_output-output.result c.any_output-output.ensures.output c.write.ensures
    c.any_output-output.ensures.suffix c.any_output-output.ensures.untouched
