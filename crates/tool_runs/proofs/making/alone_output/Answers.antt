use Rattle.tool_runs.proofs.Made.{written_alone, output_of}
use Rattle.tool_runs.proofs.making.alone_output.Goals as goal

pub run_output-requires-clause-written : goal.run_output-requires-clause-written
run_output-requires-clause-written g c =
    (c.args.lines, written_alone c.args.setting.now c.args.crowd c.requires.can.start c.args.lines _ _ c.into_vec-text.ensures _ _ c.requires.kind (rw (c.net-net.ensures, c.rest-rest.ensures) at c.in_ok-text.ensures))

pub returns : goal.returns
returns g c =
    output_of c.args.setting.now c.args.lines c.run_output.result _ _ _
    (written_alone c.args.setting.now c.args.crowd c.requires.can.start c.args.lines _ _ c.into_vec-text.ensures _ _ c.requires.kind (rw (c.net-net.ensures, c.rest-rest.ensures) at c.in_ok-text.ensures))
    c.run_output.ensures
