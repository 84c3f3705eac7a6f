use Rattle.std.proofs.Common.{◌≡◌, ◌<◌, List, length, set, refl, ap, sym, subst, arith, rules}
use Rattle.std.specs.Prelude.{Some, slice_get}
use Rattle.std.proofs.lemmas.Option.{slice_get_read}
use Rattle.pop_net.specs.declared.net.Word.{Word}
use Rattle.pop_net.specs.Lanes.{crowd_of, IsValid}
use Rattle.pop_leaf.specs.Reaction.{after_meeting}
use Rattle.pop_leaf.specs.Step.{Step}
use Rattle.pop_leaf.proofs.Quiet.{All-slice_get}
use Rattle.pop_crowd.proofs.Words.{after_write, written_anew, write_step}
use Rattle.pop_crowd.proofs.crowd.Crowd.meet.Goals.{After-differ}
use Rattle.pop_crowd.proofs.crowd.Crowd.meet.Goals as goal

at_a : (c : After-differ) → slice_get c.args.self.now c.args.a ≡ Some c.index-x.result.now
at_a c =
    let l : c.args.a < length c.self.inside.words.items = omega (arith, c.requires.a_in, ap length c.self.view_is) in
    subst (λ (ws : List Word). slice_get ws c.args.a ≡ Some c.index-x.result.now) c.self.view_is (slice_get_read c.self.inside.words.items _ c.args.a c.index-x.result.now refl l c.index-x.ensures)

at_b : (c : After-differ) → slice_get c.args.self.now c.args.b ≡ Some c.index-y.result.now
at_b c =
    let l : c.args.b < length c.self.inside.words.items = omega (arith, c.requires.b_in, ap length c.self.view_is) in
    subst (λ (ws : List Word). slice_get ws c.args.b ≡ Some c.index-y.result.now) c.self.view_is (slice_get_read c.self.inside.words.items _ c.args.b c.index-y.result.now refl l c.index-y.ensures)

pub returns : goal.returns
returns c =
    let net = c.args.net.now in
    let was = c.args.self.now in
    record {
      after = subst (λ (ws : List Word). crowd_of net (set (set ws c.args.a c.react.result.0) c.args.b c.react.result.1) ≡ after_meeting net c.args.a c.args.b (crowd_of net was)) (sym c.self.view_is)
          (after_write net was c.args.a c.args.b _ _ _ _ (at_a c) (at_b c) c.react.ensures.reaction);
      changed = written_anew net was c.args.a c.args.b _ _ _ _ (at_a c) (at_b c) c.react.ensures.reaction _ c.differ.ensures
          (All-slice_get (IsValid net) was c.args.a _ c.requires.valid (at_a c))
          (All-slice_get (IsValid net) was c.args.b _ c.requires.valid (at_b c))
          c.react.ensures.first_valid c.react.ensures.second_valid;
      valid = search rules;
      agents = search rules;
      step = subst (λ (ws : List Word). Step net (crowd_of net was) (crowd_of net (set (set ws c.args.a c.react.result.0) c.args.b c.react.result.1))) (sym c.self.view_is)
          (write_step net was c.args.a c.args.b _ _ _ _ (at_a c) (at_b c) c.react.ensures.reaction c.requires.different);
    }
