-- The test of a settled crowd tells whether the crowd is terminal and all outputs are the value.
use Rattle.std.proofs.Common.{◌≡◌, ℕ, Bool, true, false, not, ◌&&◌, Decides, [], length, get_or, set, refl, ap, sym, ◌∙◌, arith}
use Rattle.std.specs.Prelude.{All, Contains, slice_index_or}
use Rattle.std.specs.List.{list_all}
use Rattle.std.proofs.lemmas.List.{length-set, get_or-set_same, get_or-set_other}
use Rattle.std.proofs.lemmas.List.Sums.{AllPass-from_list_all, list_all-from_AllPass}
use Rattle.std.proofs.lemmas.Option.{slice_get-get_or}
use Rattle.std.proofs.lemmas.List.Elements.{All-get_or}
use Rattle.pop_leaf.specs.NetModel.{NetModel, Tuple, CrowdModel, IsTuple, output_of}
use Rattle.pop_leaf.specs.Step.{Step}
use Rattle.pop_leaf.specs.Terminal.{IsTerminal}
use Rattle.pop_leaf.specs.Reaction.{reaction}
use Rattle.pop_leaf.proofs.Reactions.{and_left, and_right, reaction_step}
use Rattle.pop_crowd.specs.Replay.{changes}
use Rattle.pop_crowd.proofs.Unmoved.{moved}
use Rattle.terminal_test.proofs.Ends.{terminal_without}
use Rattle.theory_random.specs.RandomMeetings.{pairs, meet, is_value, is_settled}
use Rattle.theory_random.specs.Laws.{IsPair}
use Rattle.theory_random.proofs.Listed.{at_contained}
use Rattle.theory_random.proofs.Pairs.{has_pair, all_pairs}

not_true : (b : Bool) → not b ≡ true → b ≡ false
not_true true e = cc
not_true false e = refl

and_both : (a b : Bool) → a ≡ true → b ≡ true → a && b ≡ true
and_both true b e f = f
and_both false b e f = cc

value_is : (value output : Bool) → is_value value output ≡ true → output ≡ value
value_is true output e = e
value_is false output e = not_true output e

is_the_value : (value output : Bool) → output ≡ value → is_value value output ≡ true
is_the_value true output e = e
is_the_value false output e = ap not e

module _ (net : NetModel) (crowd : CrowdModel) (tuples : All (IsTuple net) crowd) where
  meeting_step : (p : ℕ × ℕ) → IsPair (length crowd) p → Step net crowd (meet net p crowd)
  meeting_step p h =
      reaction_step net crowd p.0 p.1 (slice_index_or crowd p.0 []) (slice_index_or crowd p.1 []) h.0
      (slice_get-get_or crowd p.0 [] h.1) (slice_get-get_or crowd p.1 [] h.2)
      (All-get_or (IsTuple net) crowd p.0 [] h.1 tuples) (All-get_or (IsTuple net) crowd p.1 [] h.2 tuples)

  -- if a meeting leaves the crowd as it is, it changes neither of the two
  pub unmoved_by : (p : ℕ × ℕ) → IsPair (length crowd) p → meet net p crowd ≡ crowd → changes net p.0 p.1 crowd ≡ false
  unmoved_by p h same =
      moved net x z first second
    where
      x : Tuple
      x = get_or crowd p.0 []

      z : Tuple
      z = get_or crowd p.1 []

      first : (reaction net x z).0 ≡ x
      first =
          sym (get_or-set_other (set crowd p.0 (reaction net x z).0) p.1 p.0 (reaction net x z).1 [] h.0 ∙ get_or-set_same crowd p.0 (reaction net x z).0 [] h.1)
          ∙ ap (λ c. get_or c p.0 []) same

      second : (reaction net x z).1 ≡ z
      second =
          sym (get_or-set_same (set crowd p.0 (reaction net x z).0) p.1 (reaction net x z).1 [] (let k = length-set crowd p.0 (reaction net x z).0 in let l = h.2 in omega (arith, k, l)))
          ∙ ap (λ c. get_or c p.1 []) same

  -- two agents of a terminal crowd don't change when they meet
  pub unmoved : IsTerminal (Step net) crowd → (p : ℕ × ℕ) → IsPair (length crowd) p → changes net p.0 p.1 crowd ≡ false
  unmoved terminal p h = unmoved_by p h (terminal (meet net p crowd) (meeting_step p h))

  test_terminal : list_all (λ p. not (changes net p.0 p.1 crowd)) (pairs (length crowd)) ≡ true → IsTerminal (Step net) crowd
  test_terminal e =
      terminal_without net crowd tuples
      (λ a b l m. not_true (changes net a b crowd)
      (at_contained (λ (p : ℕ × ℕ). not (changes net p.0 p.1 crowd) ≡ true) (pairs (length crowd)) (a, b)
      (AllPass-from_list_all (λ (p : ℕ × ℕ). not (changes net p.0 p.1 crowd)) (pairs (length crowd)) e)
      (has_pair (length crowd) (a, b) ((λ e. omega (arith, e, l)), (omega (arith, l, m)), m))))

  terminal_test : IsTerminal (Step net) crowd → list_all (λ p. not (changes net p.0 p.1 crowd)) (pairs (length crowd)) ≡ true
  terminal_test terminal =
      list_all-from_AllPass (λ (p : ℕ × ℕ). not (changes net p.0 p.1 crowd)) (pairs (length crowd))
      (λ k d l. ap not (unmoved terminal (get_or (pairs (length crowd)) k d) (all_pairs (length crowd) k d l)))

  pub settled_tells : (value : Bool) → Decides (is_settled net value crowd) (IsTerminal (Step net) crowd × All (λ tuple. output_of net tuple ≡ value) crowd)
  settled_tells value = (
    λ e. (
      test_terminal (and_left (list_all (λ p. not (changes net p.0 p.1 crowd)) (pairs (length crowd))) (list_all (λ tuple. is_value value (output_of net tuple)) crowd) e),
      λ k d l. value_is value (output_of net (get_or crowd k d))
          (AllPass-from_list_all (λ tuple. is_value value (output_of net tuple)) crowd (and_right (list_all (λ p. not (changes net p.0 p.1 crowd)) (pairs (length crowd))) (list_all (λ tuple. is_value value (output_of net tuple)) crowd) e) k d l),
    ),
    λ h. and_both (list_all (λ p. not (changes net p.0 p.1 crowd)) (pairs (length crowd))) (list_all (λ tuple. is_value value (output_of net tuple)) crowd)
        (terminal_test h.0)
        (list_all-from_AllPass (λ tuple. is_value value (output_of net tuple)) crowd (λ k d l. is_the_value value (output_of net (get_or crowd k d)) (h.1 k d l))),
  )

  pub meets_step : (p : ℕ × ℕ) → Contains (pairs (length crowd)) p → Step net crowd (meet net p crowd)
  meets_step p c = meeting_step p (at_contained (IsPair (length crowd)) (pairs (length crowd)) p (all_pairs (length crowd)) c)
