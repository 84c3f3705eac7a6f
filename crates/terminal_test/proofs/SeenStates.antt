-- How often the states of a crowd were seen.
use Rattle.std.proofs.Common.{◌≡◌, ℕ, ◌+◌, ◌<◌, ◌≤◌, Bool, true, false, refl, List, length, get_or, set, sym, subst, ◌∙◌, arith}
use Rattle.std.specs.Prelude.{Some, nat_le, slice_get}
use Rattle.std.specs.List.{list_all}
use Rattle.std.proofs.lemmas.Bool.{leb-true}
use Rattle.std.proofs.lemmas.List.{length-map, length-set, set-get_or}
use Rattle.std.proofs.lemmas.List.Elements.{All-get_or}
use Rattle.std.proofs.lemmas.List.Folds.{list_all_at}
use Rattle.std.proofs.lemmas.Option.{slice_get-get_or, slice_get_within, same_Some}
use Rattle.pop_leaf.specs.LeafModel.{LeafModel}
use Rattle.pop_leaf.specs.NetModel.{NetModel, CrowdModel, state_of}
use Rattle.pop_net.specs.declared.net.Word.{Word}
use Rattle.pop_net.specs.Lanes.{tuple_of, crowd_of, IsValid, AreValid}
use Rattle.pop_net.proofs.Projection.{component, slice_get-component}
use Rattle.pop_crowd.proofs.Words.{tuple_at}
use Rattle.terminal_test.specs.Restless.{CountsTo, AreSeenTo}
use Rattle.terminal_test.proofs.RestlessStates.{counts_more}

-- one more agent, in a state that was seen twice
pub counts_stay : (states seen : List ℕ) (n s : ℕ) → slice_get states n ≡ Some s → s < length seen → 2 ≤ get_or seen s 0 → CountsTo states seen n → CountsTo states seen (n + 1)
counts_stay states seen n s is l two h =
    subst (λ (after : List ℕ). CountsTo states after (n + 1)) (set-get_or seen s 0) (counts_more states seen n s (get_or seen s 0) is l (omega (arith, two)) (λ _. two) h)

-- one more agent, in a state whose entry is raised by one
pub seen_more : (net : NetModel) (i : ℕ) (crowd : CrowdModel) (seen : List ℕ) (n s old : ℕ) → slice_get (component i crowd) n ≡ Some s → s < length seen → old ≡ get_or seen s 0 → AreSeenTo net i crowd seen n → AreSeenTo net i crowd (set seen s (old + 1)) (n + 1)
seen_more net i crowd seen n s old is l e h =
    record {
      size = λ leaf here. length-set seen s (old + 1) ∙ h.size leaf here;
      counted = counts_more (component i crowd) seen n s (old + 1) is l (omega arith) (λ one. omega (arith, one, e)) h.counted;
    }

-- each state of an agent is one of the leaf
state_within : (net : NetModel) (i : ℕ) (leaf : LeafModel) (words : List Word) (d : Word) (a x : ℕ) → slice_get net.leaves i ≡ Some leaf → AreValid net words → slice_get (component i (crowd_of net words)) a ≡ Some x → x < length leaf.states
state_within net i leaf words d a x here valid is =
    let l : a < length words = omega (arith, slice_get_within (component i (crowd_of net words)) a x is, length-map (crowd_of net words) (λ tuple. state_of tuple i), length-map words (tuple_of net)) in
    let w = get_or words a d in
    let own : slice_get (component i (crowd_of net words)) a ≡ Some (state_of (tuple_of net w) i) = slice_get-component i (crowd_of net words) a (tuple_of net w) (tuple_at net words a w (slice_get-get_or words a d l)) in
    let same : x ≡ state_of (tuple_of net w) i = same_Some x (state_of (tuple_of net w) i) (sym is ∙ own) in
    let least = (All-get_or (IsValid net) words a d l valid).states i leaf here in
    omega (arith, same, least)

-- an entry of two, if all are
two_each : (seen : List ℕ) (x : ℕ) → x < length seen → true ≡ list_all (λ count. nat_le 2 count) seen → 2 ≤ get_or seen x 0
two_each seen x l e = go (nat_le 2 (get_or seen x 0)) refl
  where
    go : (b : Bool) → nat_le 2 (get_or seen x 0) ≡ b → 2 ≤ get_or seen x 0
    go true h = leb-true 2 (get_or seen x 0) h
    go false h = let f = list_all_at (λ count. nat_le 2 count) seen x 0 l h in cc

-- where each state was seen twice, no agent is missed
pub all_seen : (net : NetModel) (i : ℕ) (leaf : LeafModel) (words : List Word) (d : Word) (seen : List ℕ) (n : ℕ) → slice_get net.leaves i ≡ Some leaf → AreValid net words → ((leaf : LeafModel) → slice_get net.leaves i ≡ Some leaf → length seen ≡ length leaf.states) → true ≡ list_all (λ count. nat_le 2 count) seen → AreSeenTo net i (crowd_of net words) seen n
all_seen net i leaf words d seen n here valid size e =
    record {
      size = size;
      counted = record {
        once = λ a x l ha. let two = two_each seen x (within a x ha) e in omega (arith, two);
        twice = λ a b x l m ha hb. two_each seen x (within a x ha) e;
      };
    }
  where
    within : (a x : ℕ) → slice_get (component i (crowd_of net words)) a ≡ Some x → x < length seen
    within a x ha = let l = state_within net i leaf words d a x here valid ha in let same = size leaf here in omega (arith, l, same)
