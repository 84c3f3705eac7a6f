-- Meetings of the worker 0, one list after the other.
use Rattle.std.proofs.Common.{◌≡◌, ℕ, suc, ◌+◌, List, [], ◌∷◌, ◌++◌, length, refl, ap, sym, subst, ◌∙◌, zero-add, arith}
use Rattle.std.proofs.Math.Nat.{add_assoc}
use Rattle.std.proofs.lemmas.List.{append_assoc, map-append, length-append, length-map}
use Rattle.std.proofs.lemmas.List.Elements.{All-nil, All-cons, All-append}
use Rattle.rand_core.specs.Stream.{Stream}
use Rattle.pop_leaf.specs.NetModel.{NetModel, CrowdModel}
use Rattle.pop_net.specs.Lanes.{crowd_of, tuple_of}
use Rattle.pop_net.specs.declared.net.Word.{Word}
use Rattle.pop_crowd.specs.declared.crowd.Meeting.{Meeting}
use Rattle.pop_crowd.specs.Replay.{replay, AreMarked}
use Rattle.pop_crowd.proofs.InARow.{replay_append}
use Rattle.run_picks.specs.Picks.{picks_from, words_from}
use Rattle.run_picks.specs.NextMeeting.{HasMetNext}
use Rattle.run_picks.specs.Run.{pairs}
use Rattle.run_picks.specs.Played.{IsPlayed}

pub marked_append : (net : NetModel) (xs ys : List Meeting) (crowd : CrowdModel) → AreMarked net xs crowd → AreMarked net ys (replay net xs crowd) → AreMarked net (xs ++ ys) crowd
marked_append net [] ys crowd h k = k
marked_append net (x ∷ xs) ys crowd h k = (h.0, marked_append net xs ys _ h.1 k)

pub played_none : (net : NetModel) (crowd : CrowdModel) (words : Stream) → IsPlayed net crowd words [] crowd words
played_none net crowd words =
    record {
      alone = All-nil (λ (m : Meeting). m.worker ≡ 0);
      picked = λ count. ap (λ k. picks_from words (length crowd) k) (zero-add count);
      marked = tt;
      replays = refl;
      agents = refl;
    }

-- the next meeting of the worker 0, alone
pub played_one : (net : NetModel) (m : Meeting) (before after : List Word) (picker next : List ℕ)
    → HasMetNext net 0 m before after picker next
    → IsPlayed net (crowd_of net before) (words_from picker) (m ∷ []) (crowd_of net after) (words_from next)
played_one net m before after picker next h =
    let agents : length (crowd_of net before) ≡ length before = length-map before (tuple_of net) in
    record {
      alone = All-cons (λ (x : Meeting). x.worker ≡ 0) m [] h.own (All-nil (λ (x : Meeting). x.worker ≡ 0));
      picked = λ count.
          ap (λ k. picks_from (words_from picker) (length (crowd_of net before)) k) (let e : length (m ∷ []) + count ≡ suc count = omega arith in e)
          ∙ subst (λ n. picks_from (words_from picker) n (suc count) ≡ (m.a, m.b) ∷ picks_from (words_from next) n count)
          (sym agents) (h.picked.in_row count);
      marked = (h.met.changed, tt);
      replays = sym h.met.after;
      agents = length-map after (tuple_of net) ∙ h.met.agents ∙ sym agents;
    }

pub played_more : (net : NetModel) (start : CrowdModel) (words : Stream) (xs ys : List Meeting) (crowd end : CrowdModel) (between left : Stream)
    → IsPlayed net start words xs crowd between → IsPlayed net crowd between ys end left → IsPlayed net start words (xs ++ ys) end left
played_more net start words xs ys crowd end between left h k =
    record {
      alone = All-append (λ (m : Meeting). m.worker ≡ 0) xs ys h.alone k.alone;
      picked = λ count.
          ap (λ j. picks_from words (length start) (j + count)) (length-append xs ys)
          ∙ ap (λ j. picks_from words (length start) j) (add_assoc (length xs) (length ys) count)
          ∙ h.picked (length ys + count)
          ∙ ap (λ ps. pairs xs ++ ps) (subst (λ n. picks_from between n (length ys + count) ≡ pairs ys ++ picks_from left n count) h.agents (k.picked count))
          ∙ sym (append_assoc (pairs xs) (pairs ys) (picks_from left (length start) count))
          ∙ ap (λ ps. ps ++ picks_from left (length start) count) (sym (map-append (λ (m : Meeting). (m.a, m.b)) xs ys));
      marked = marked_append net xs ys start h.marked (subst (AreMarked net ys) (sym h.replays) k.marked);
      replays = replay_append net xs ys start ∙ ap (replay net ys) h.replays ∙ k.replays;
      agents = k.agents ∙ h.agents;
    }
