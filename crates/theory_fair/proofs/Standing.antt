-- Executions in which the crowd stays unchanged.
use Rattle.std.proofs.Common.{◌≡◌, ◌≢◌, inl, ℕ, zero, suc, ◌+◌, ◌≤◌, List, [], ◌∷◌, ◌++◌, length, map, refl, ap, sym, subst, ◌∙◌, add-one, arith}
use Rattle.std.specs.Prelude.{Some, slice_get, sum, All}
use Rattle.std.specs.List.{range_with_len}
use Rattle.std.proofs.lemmas.List.{length-append, length-map}
use Rattle.std.proofs.lemmas.List.FromFn.{length-range_with_len}
use Rattle.std.proofs.lemmas.List.Elements.{All-head, All-tail}
use Rattle.pop_leaf.specs.NetModel.{NetModel, CrowdModel, IsTuple, number_of_helpers}
use Rattle.pop_leaf.specs.InputCrowd.{starts_from, start_of, helper_of, input_crowd}
use Rattle.pop_leaf.specs.Step.{TupleChange, Step}
use Rattle.pop_leaf.specs.Reachable.{Leads}
use Rattle.pop_net.proofs.Tuples.{leads_length, reachable_tuples, input_tuples, length-starts_from}
use Rattle.theory_fair.specs.Laws.{StandingIsFair, WaitingIsUnfair, SomeAreFair}

pub stays : (net : NetModel) (crowd : CrowdModel) → 2 ≤ length crowd → All (IsTuple net) crowd → Step net crowd crowd
stays net [] l tuples = absurd (omega (arith, l))
stays net (x ∷ []) l tuples = absurd (omega (arith, l))
stays net (x ∷ y ∷ crowd) l tuples =
    record {
      a = 0;
      b = 1;
      different = (let ne : 0 ≢ 1 = λ e. omega (arith, e) in ne);
      x = x;
      y = y;
      x' = x;
      y' = y;
      a_had = refl;
      b_had = refl;
      change = record {
        first = All-head (IsTuple net) x (y ∷ crowd) tuples;
        second = All-head (IsTuple net) y crowd (All-tail (IsTuple net) x (y ∷ crowd) tuples);
        each = λ i leaf h. inl (refl, refl);
      };
      others_stay = refl;
    }

pub standing_fair : StandingIsFair
standing_fair net crowd l tuples terminal = (
  λ i. stays net crowd l tuples,
  λ c d s often i none. often i (λ (j, m, h). none (j, m, sym (terminal d (subst (λ x. Step net x d) (sym h) s)))),
)

pub waiting_unfair : WaitingIsUnfair
waiting_unfair net crowd next s ne fair =
    fair crowd next s (λ i none. none (i, omega arith, refl)) 0 (λ (j, m, h). ne (sym h))

-- ---- along a path, and then at its end for ever

pub follow : {A : Type 0} → A → List A → ℕ → A
follow c [] i = c
follow c (d ∷ path) zero = c
follow c (d ∷ path) (suc i) = follow d path i

pub follow_first : {A : Type 0} (c : A) (path : List A) → follow c path 0 ≡ c
unfolding follow
follow_first c [] = refl
follow_first c (d ∷ path) = refl

pub follow_runs : {A : Type 0} (S : A → A → Type 0) (c : A) (path : List A) (end : A) → Leads S c path end → S end end → (i : ℕ) → S (follow c path i) (follow c path (suc i))
unfolding follow
follow_runs S c [] end way last i = subst (λ x. S x x) way last
follow_runs S c (d ∷ path) end way last zero = subst (λ x. S c x) (sym (follow_first d path)) way.0
follow_runs S c (d ∷ path) end way last (suc i) = follow_runs S d path end way.1 last i

pub follow_ends : {A : Type 0} (S : A → A → Type 0) (c : A) (path : List A) (end : A) → Leads S c path end → (i : ℕ) → length path ≤ i → follow c path i ≡ end
unfolding follow
follow_ends S c [] end way i l = sym way
follow_ends S c (d ∷ path) end way zero l = absurd (omega (arith, l))
follow_ends S c (d ∷ path) end way (suc i) l = follow_ends S d path end way.1 i (omega (arith, l))

pub follow_begins : {A : Type 0} (c : A) (path more : List A) (i : ℕ) (x : A) → slice_get (c ∷ path) i ≡ Some x → follow c (path ++ more) i ≡ x
unfolding follow
follow_begins c path more zero x h = follow_first c (path ++ more) ∙ (let same : c ≡ x = cc in same)
follow_begins c [] more (suc i) x h = cc
follow_begins c (d ∷ path) more (suc i) x h = follow_begins d path more i x h

pub size_of_input : (net : NetModel) (counts : List ℕ) → length (input_crowd net counts) ≡ sum counts + number_of_helpers net
size_of_input net counts =
    length-append (starts_from (start_of net) 0 counts) (map (helper_of net) (range_with_len 0 (number_of_helpers net)))
    ∙ ap (λ n. n + length (map (helper_of net) (range_with_len 0 (number_of_helpers net)))) (length-starts_from (start_of net) 0 counts)
    ∙ ap (λ n. sum counts + n) (length-map (range_with_len 0 (number_of_helpers net)) (helper_of net) ∙ length-range_with_len 0 (number_of_helpers net))

pub some_fair : SomeAreFair
some_fair net tree counts ends input =
    let to = (ends counts (input_crowd net counts) input ([], refl)).ends in
    let last : Step net to.0 to.0 = stays net to.0 (let size = leads_length (TupleChange net) (input_crowd net counts) to.2.0 to.0 to.2.1 in omega (arith, size, size_of_input net counts, input.two_agents)) (reachable_tuples net (input_crowd net counts) to.0 (input_tuples net counts) to.2) in
    record {
      crowds = follow (input_crowd net counts) to.2.0;
      runs = (
        sym (follow_first (input_crowd net counts) to.2.0),
        λ i. subst (λ k. Step net (follow (input_crowd net counts) to.2.0 i) (follow (input_crowd net counts) to.2.0 k)) (sym (add-one i)) (follow_runs (Step net) (input_crowd net counts) to.2.0 to.0 to.2.1 last i),
      );
      fair = λ c d s often i none. often (i + length to.2.0)
          (λ (j, l, h).
          let here = follow_ends (Step net) (input_crowd net counts) to.2.0 to.0 to.2.1 j (omega (arith, l)) in
          let same : d ≡ to.0 = to.1 d (subst (λ x. Step net x d) (sym h ∙ here) s) in
          none (j, (let m : i ≤ j = omega (arith, l) in m), here ∙ sym same));
    }
