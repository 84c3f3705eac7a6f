-- A crowd is terminal exactly when no pair of its agents can change.
use Rattle.std.proofs.Common.{◌≡◌, ◌⊎◌, inl, inr, ℕ, ◌<◌, true, false, [], length, get_or, set, ap, sym, ◌∙◌, arith}
use Rattle.std.specs.Prelude.{Some, All, slice_get, slice_index_or}
use Rattle.std.proofs.lemmas.Bool.{false≢true, cases_order}
use Rattle.std.proofs.lemmas.List.{length-set, get_or-set_same, get_or-set_other}
use Rattle.std.proofs.lemmas.Option.{get_or_from_slice_get, slice_get_within, slice_get-get_or}
use Rattle.std.proofs.lemmas.List.Elements.{All-get_or}
use Rattle.pop_leaf.specs.NetModel.{NetModel, Tuple, CrowdModel, IsTuple}
use Rattle.pop_leaf.specs.Step.{Step}
use Rattle.pop_leaf.specs.Terminal.{IsTerminal}
use Rattle.pop_leaf.specs.Reaction.{reaction, after_meeting}
use Rattle.pop_leaf.proofs.Quiet.{leaves_quiet, quiet_change, All-slice_get, set_same}
use Rattle.pop_leaf.proofs.Reactions.{reaction_step}
use Rattle.pop_crowd.specs.Replay.{reacts, changes}
use Rattle.terminal_test.specs.Pairs.{IsEnabled, MovesOn}
use Rattle.pop_crowd.proofs.Unmoved.{still, moved}
use Rattle.terminal_test.proofs.Pairwise.{quiet_leaves, quiet_turned}

-- no pair of agents can change
abbrev pub NoPair : NetModel → CrowdModel → Type 0
NoPair net crowd = (a b : ℕ) → a < b → b < length crowd → changes net a b crowd ≡ false

module _ (net : NetModel) (crowd : CrowdModel) (tuples : All (IsTuple net) crowd) where
  quiet_pair : NoPair net crowd → (a b : ℕ) (x y : Tuple) → a < b → slice_get crowd a ≡ Some x → slice_get crowd b ≡ Some y → leaves_quiet net.leaves x y ≡ true
  quiet_pair none a b x y l ha hb =
      let e = none a b l (slice_get_within crowd b y hb) in
      let at_a = get_or_from_slice_get crowd a x [] ha in
      let at_b = get_or_from_slice_get crowd b y [] hb in
      let r : reacts net x y ≡ false = sym (ap (λ u. reacts net u (slice_index_or crowd b [])) at_a ∙ ap (reacts net x) at_b) ∙ e in
      let s = still net x y r in
      quiet_leaves net.leaves x y (All-slice_get (IsTuple net) crowd a x tuples ha) (All-slice_get (IsTuple net) crowd b y tuples hb) s.0 s.1

  -- if no pair can change, the crowd is terminal
  pub terminal_without : NoPair net crowd → IsTerminal (Step net) crowd
  terminal_without none e s =
      let stay = quiet_change net s.x s.y s.x' s.y' (All-slice_get (IsTuple net) crowd s.a s.x tuples s.a_had) (All-slice_get (IsTuple net) crowd s.b s.y tuples s.b_had) (quiet (cases_order s.a s.b)) s.change in
      s.others_stay
      ∙ ap (λ x. set (set crowd s.a x) s.b s.y') stay.0
      ∙ ap (λ y. set (set crowd s.a s.x) s.b y) stay.1
      ∙ ap (λ c. set c s.b s.y) (set_same crowd s.a s.x s.a_had)
      ∙ set_same crowd s.b s.y s.b_had
    where
      quiet : (s.a ≡ s.b) ⊎ ((s.a < s.b) ⊎ (s.b < s.a)) → leaves_quiet net.leaves s.x s.y ≡ true
      quiet (inl same) = absurd (s.different same)
      quiet (inr (inl l)) = quiet_pair none s.a s.b s.x s.y l s.a_had s.b_had
      quiet (inr (inr l)) = quiet_turned net.leaves s.y s.x (quiet_pair none s.b s.a s.y s.x l s.b_had s.a_had)

  -- a pair that can change makes a step to another crowd
  pub moves_on : (a b : ℕ) → IsEnabled net crowd a b → MovesOn net crowd
  moves_on a b h = (
    after_meeting net a b crowd,
    reaction_step net crowd a b x y (λ e. absurd (omega (arith, e, h.lower)))
        (slice_get-get_or crowd a [] la) (slice_get-get_or crowd b [] h.within)
        (All-get_or (IsTuple net) crowd a [] la tuples) (All-get_or (IsTuple net) crowd b [] h.within tuples),
    λ same. false≢true (sym (unmoved same) ∙ h.changed),
  )
    where
      la : a < length crowd
      la = omega (arith, h.lower, h.within)

      x : Tuple
      x = get_or crowd a []

      y : Tuple
      y = get_or crowd b []

      unmoved : after_meeting net a b crowd ≡ crowd → changes net a b crowd ≡ false
      unmoved same =
          let first : (reaction net x y).0 ≡ x =
          sym (get_or-set_other (set crowd a (reaction net x y).0) b a (reaction net x y).1 [] (λ e. absurd (omega (arith, e, h.lower))) ∙ get_or-set_same crowd a (reaction net x y).0 [] la) ∙ ap (λ c. get_or c a []) same in
          let second : (reaction net x y).1 ≡ y =
          sym (get_or-set_same (set crowd a (reaction net x y).0) b (reaction net x y).1 [] (omega (arith, length-set crowd a (reaction net x y).0, h.within))) ∙ ap (λ c. get_or c b []) same in
          moved net x y first second

  pub not_terminal : (a b : ℕ) → IsEnabled net crowd a b → IsTerminal (Step net) crowd → ⊥
  not_terminal a b h t = let m = moves_on a b h in m.2 (t m.0 m.1)
