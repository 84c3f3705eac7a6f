use Rattle.std.proofs.Common.{rules, ◌≡◌, ◌≤◌, List, ◌++◌, length, ap, sym, subst, ◌∙◌, arith}
use Rattle.std.proofs.lemmas.List.{length-map}
use Rattle.pop_net.specs.declared.net.Word.{Word}
use Rattle.pop_net.specs.Lanes.{tuple_of, crowd_of}
use Rattle.pop_settle.specs.declared.take.Take.{Take}
use Rattle.pop_settle.specs.Settlement.{LeadsBy, IsSettlement}
use Rattle.pop_settle.proofs.Endings.{are_terminal, leads_reached}
use Rattle.pop_settle.proofs.Hushed.{quiet_all}
use Rattle.pop_settle.proofs.Lasting.{are_short}
use Rattle.pop_settle.proofs.Once.{are_one}
use Rattle.pop_settle.proofs.Walking.{valid_crowd}
use Rattle.pop_settle.proofs.settling.settle.Goals.{After-of_words}
use Rattle.pop_settle.proofs.settling.settle.Goals as goal

settled : (c : After-of_words) → IsSettlement c.args.net.now c.args.proof.now (crowd_of c.args.net.now c.args.crowd) c.from_vec.result (crowd_of c.args.net.now c.of_words.result)
settled c =
    let net = c.args.net.now in
    let proof = c.args.proof.now in
    let walked = c.in_ok-settle_leaves.ensures.walked in
    let start = c.in_ok-walk.walk in
    let end = c.settle_leaves.new.walk in
    let words : c.of_words.result ≡ end.words.items = c.of_words.ensures ∙ c.from_vec-2.ensures in
    let takes : c.from_vec.result ≡ walked.more = c.from_vec.ensures ∙ walked.added ∙ ap (λ ts. ts ++ walked.more) c.in_ok-walk.ensures.takes in
    let leads : LeadsBy net proof (crowd_of net c.args.crowd) walked.more (crowd_of net end.words.items) =
    subst (λ (ws : List Word). LeadsBy net proof (crowd_of net ws) walked.more (crowd_of net end.words.items)) c.in_ok-walk.ensures.words walked.leads in
    subst (λ (ws : List Word). IsSettlement net proof (crowd_of net c.args.crowd) c.from_vec.result (crowd_of net ws)) (sym words)
    (subst (λ (ts : List Take). IsSettlement net proof (crowd_of net c.args.crowd) ts (crowd_of net end.words.items)) (sym takes)
    (record { leads = leads; ended = quiet_all net proof (crowd_of net end.words.items) c.in_ok-settle_leaves.ensures.quiet }))

pub returns : goal.returns
returns c =
    let net = c.args.net.now in
    let proof = c.args.proof.now in
    let start = crowd_of net c.args.crowd in
    let end = crowd_of net c.of_words.result in
    let takes = c.from_vec.result in
    let is = settled (goal.at.returns c).After-of_words in
    let crowd = valid_crowd net c.args.crowd c.requires.valid in
    let way = leads_reached net proof start end takes crowd.0 is.leads in
    record {
      settled = is;
      only = are_one net proof start end takes is;
      short = rw (← length-map c.args.crowd (tuple_of net)) (are_short net proof start end takes c.leaf_count-formed.ensures.formed c.requires.layers.layers crowd is.leads);
      reached = (way.0, (let l : length way.0 ≤ length takes = omega (arith, way.1) in l), way.2);
      terminal = are_terminal net proof start end takes c.requires.layers.layers crowd.0 is;
      valid = search rules;
      agents = search rules;
      accepts = search rules;
      refused = tt;
    }
