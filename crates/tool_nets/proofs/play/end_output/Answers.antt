use Rattle.std.proofs.Common.{◌∙◌, ap, ◌++◌, List, ℕ}
use Rattle.std.specs.Prelude.{option_map}
use Rattle.pop_net.specs.Lanes.{crowd_of}
use Rattle.tool_texts.specs.declared.output.Output.{Output}
use Rattle.tool_texts.specs.declared.output.Ending.TheVariants.{Done}
use Rattle.tool_nets.specs.Play.{end_line}
use Rattle.tool_nets.proofs.PlayEnds.{last_is}
use Rattle.tool_nets.proofs.play.end_output.Goals as goal

pub returns : goal.returns
returns c =
    let last = option_map (λ p. (p.0, p.1)) c.in_ok-pair.pair in
    let text = c.in_ok-push_last.ensures ∙ ap (λ (text : List ℕ). text ++ end_line last) (c.into_vec-text.ensures ∙ c.in_ok-tally.ensures.lines) in (
      last,
      last_is c.args.net.now (crowd_of c.args.net.now c.args.crowd.now) c.in_ok-pair.pair c.in_ok-pair.ensures.none c.in_ok-pair.ensures.least,
      c.new.ensures ∙ ap (λ (t : List ℕ). let o : Output = record { text = t; ending = Done } in o) text,
    )
