use Rattle.std.proofs.Common.{◌≡◌, ℕ, suc, List, [], ◌∷◌, length, length-append, get_or, set, refl, sym, ap, subst, ◌∙◌, rules}
use Rattle.std.proofs.lemmas.List.{get_or_default, length-map}
use Rattle.pop_leaf.specs.NetModel.{CrowdModel}
use Rattle.pop_net.specs.Lanes.{crowd_of, tuple_of}
use Rattle.pop_crowd.specs.declared.crowd.Meeting.{Meeting}
use Rattle.run_picks.specs.Picks.{picks_from, words_from}
use Rattle.run_picks.specs.Run.{made_by}
use Rattle.pop_watch.specs.Playing.{ArePlaying}
use Rattle.pop_watch.proofs.MoreMeetings.{one_more, made_more}
use Rattle.pop_watch.proofs.missing.push_next.Goals as goal
use Rattle.pop_crowd.proofs.Reached.{length-replay}

pub returns : goal.returns
returns c =
    let net = c.args.net.now in
    let pickers = c.args.played.now.pickers.items in
    let meetings = c.args.played.now.meetings.items in
    let crowd = c.args.played.now.crowd in
    let now = c.index_mut-picker.result.now in
    let next = c.meet_next-meeting.new.picker in
    let m = c.meet_next-meeting.result in
    let is = c.meet_next-meeting.ensures in
    let found : (d : List ℕ) → get_or pickers c.args.worker d ≡ now = (λ d. sym (c.index_mut-picker.ensures.value ∙ get_or_default pickers c.args.worker now d c.requires.worker)) in
    record {
      goes_on = record {
        more = λ start first h.
            let same : length crowd ≡ length start = sym (length-map crowd (tuple_of net)) ∙ ap length (sym h.replays) ∙ length-replay net meetings start in
            let picks = subst (λ (n : ℕ). (count : ℕ) → picks_from (words_from now) n (suc count) ≡ (m.a, m.b) ∷ picks_from (words_from next) n count) same is.picked.in_row in
            subst (λ (t : List Meeting × CrowdModel). ArePlaying net start (length pickers) first (set pickers c.args.worker next) t.0 t.1) (λ i. (sym c.push_reserved.ensures.items i, sym is.met.after i))
            (one_more net start (length pickers) first pickers meetings (crowd_of net crowd) h c.args.worker now next m c.requires.worker refl found is.own is.met.changed picks);
        pickers = search rules;
        agents = search rules;
      };
      more = λ v. ap (made_by v) c.push_reserved.ensures.items ∙ made_more c.args.worker meetings m is.own v;
      valid = search rules;
      made = ap (length {A = Meeting}) c.push_reserved.ensures.items ∙ length-append meetings (m ∷ []);
      room = c.push_reserved.ensures.capacity;
    }
