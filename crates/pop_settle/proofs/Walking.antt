-- Takes that are made one after the other.
use Rattle.std.proofs.Common.{◌≡◌, List, [], ◌∷◌, ◌++◌, length, ap, ◌∙◌}
use Rattle.std.proofs.lemmas.List.{append_assoc}
use Rattle.std.proofs.lemmas.List.Elements.{All-map, All-weaker}
use Rattle.pop_net.specs.declared.net.Word.{Word}
use Rattle.pop_leaf.specs.NetModel.{NetModel, IsTuple, HasStates}
use Rattle.pop_net.specs.Lanes.{tuple_of, crowd_of, IsValid, AreValid}
use Rattle.pop_net.proofs.Packing.{is_tuple}
use Rattle.cert_base.specs.declared.proof.Proof.{Proof}
use Rattle.pop_settle.specs.declared.take.Take.{Take}
use Rattle.pop_settle.specs.declared.walk.Walk.{Walk}
use Rattle.pop_settle.specs.Settlement.{IsNext}
use Rattle.pop_settle.specs.Laws.{IsCrowd}
use Rattle.pop_settle.specs.Walks.{TakesTo, WalksOn}
use Rattle.pop_settle.proofs.Endings.{leads_more}
use Rattle.pop_settle.proofs.Lasting.{InRanges, crowd_ranges}

pub valid_crowd : (net : NetModel) (words : List Word) → AreValid net words → IsCrowd net (crowd_of net words)
valid_crowd net words valid = (
  All-map (IsTuple net) (tuple_of net) words (All-weaker (IsValid net) (λ word. IsTuple net (tuple_of net word)) (λ word v. is_tuple net word) words valid),
  All-map (HasStates net) (tuple_of net) words (All-weaker (IsValid net) (λ word. HasStates net (tuple_of net word)) (λ word v. v.states) words valid),
)

pub valid_ranges : (net : NetModel) (words : List Word) → AreValid net words → InRanges net (crowd_of net words)
valid_ranges net words valid = crowd_ranges net (crowd_of net words) (valid_crowd net words valid)

pub walk_join : (net : NetModel) (proof : Proof) (first second third : Walk) → WalksOn net proof first second → WalksOn net proof second third → WalksOn net proof first third
walk_join net proof first second third w v =
    record {
      more = w.more ++ v.more;
      added = v.added ∙ ap (λ ts. ts ++ v.more) w.added ∙ append_assoc first.takes.items w.more v.more;
      leads = leads_more net proof (crowd_of net first.words.items) (crowd_of net second.words.items) (crowd_of net third.words.items) w.more v.more w.leads v.leads;
      valid = v.valid;
      agents = v.agents ∙ w.agents;
    }

pub walk_one : (net : NetModel) (proof : Proof) (before after : Walk) (take : Take) → IsNext net proof (crowd_of net before.words.items) take → TakesTo net take (crowd_of net before.words.items) (crowd_of net after.words.items) → after.takes.items ≡ before.takes.items ++ take ∷ [] → AreValid net after.words.items → length after.words.items ≡ length before.words.items → WalksOn net proof before after
walk_one net proof before after take n to added valid agents =
    record { more = take ∷ []; added = added; leads = (n, to n.can.leaf n.can.move n.can.leaf_is n.can.move_is); valid = valid; agents = agents }
