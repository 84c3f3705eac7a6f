-- Mixes that agree on the states of a leaf have the same multipliers.
use Rattle.std.proofs.Common.{◌≡◌, ℕ, ◌<◌, ◌≤◌, List, [], ◌∷◌, ◌++◌, length, map, get_or, refl, ap, ◌∙◌, zero-add, arith}
use Rattle.std.specs.Prelude.{ℤ, pos, All, not, ◌==◌, ◌&&◌}
use Rattle.std.proofs.lemmas.List.Elements.{All-head, All-tail, All-filter}
use Rattle.std.proofs.lemmas.List.{length-map, length-append, length-replicate}
use Rattle.std.proofs.lemmas.List.Sums.{length-filter, count_by-le-length}
use Rattle.std.proofs.lemmas.List.FromFn.{get_or-map-range_with_len, length-map-range_with_len, length-range_with_len}
use Rattle.pop_leaf.specs.LeafModel.{LeafModel}
use Rattle.pop_leaf.specs.declared.limits.TheConstants.{STATE_LIMIT}
use Rattle.cert_base.specs.declared.limits.TheConstants.{TERM_LIMIT}
use Rattle.cert_base.specs.Rows.{zeros}
use Rattle.cert_base.specs.FactsAndCases.{states_of, can_meet_in}
use Rattle.comp_trees.specs.LeaderTree.{company_of, LeaderMix, mix_of_trap, mix_of_leader, mix_by}
use Rattle.base_laws.proofs.Ranges.{all_range}

pub map-same : {A B : Type 0} (f g : A → B) (xs : List A) → All (λ x. f x ≡ g x) xs → map f xs ≡ map g xs
map-same f g [] all = refl
map-same f g (x ∷ xs) all =
    let here = All-head (λ x. f x ≡ g x) x xs all in
    let rest = map-same f g xs (All-tail (λ x. f x ≡ g x) x xs all) in
    rw (here, rest) refl

pub record AreSame (leaf : LeafModel) (a b : LeaderMix) : Type 0 where
  pub flows : (q : ℕ) → q < length leaf.states → a.flows q ≡ b.flows q
  pub wrong : a.wrong ≡ b.wrong
  pub opened : a.opened ≡ b.opened
  pub ruled_out : (q : ℕ) → q < length leaf.states → a.ruled_out q ≡ b.ruled_out q
  pub alone : a.alone ≡ b.alone

pub same_mix : (leaf : LeafModel) (p : ℕ) (a b : LeaderMix) → AreSame leaf a b → mix_of_leader leaf (company_of leaf p) a p ≡ mix_of_leader leaf (company_of leaf p) b p
same_mix leaf p a b same =
    let states = all_range (λ q. a.flows q ≡ b.flows q) 0 (length leaf.states) (λ q l m. same.flows q (omega arith)) in
    let flows = map-same a.flows b.flows (states_of leaf) states in
    let kept = All-filter (λ q. not (q == p) && can_meet_in leaf p q) (λ q. a.ruled_out q ≡ b.ruled_out q) (states_of leaf) (all_range (λ q. a.ruled_out q ≡ b.ruled_out q) 0 (length leaf.states) (λ q l m. same.ruled_out q (omega arith))) in
    let out = map-same a.ruled_out b.ruled_out (company_of leaf p) kept in
    let wrong = same.wrong in
    let opened = same.opened in
    let alone = same.alone in
    let front : ℤ → ℤ → List ℤ → List ℤ = λ w o fs. (((fs ++ pos 0 ∷ pos 0 ∷ w ∷ []) ++ o ∷ []) ++ pos 0 ∷ []) ++ zeros p in
    let back : ℤ → List ℤ → List ℤ = λ k rs. (pos 0 ∷ rs) ++ k ∷ [] in
    ap (λ fs. front a.wrong a.opened fs ++ back a.alone (map a.ruled_out (company_of leaf p))) flows
    ∙ ap (λ w. front w a.opened (map b.flows (states_of leaf)) ++ back a.alone (map a.ruled_out (company_of leaf p))) wrong
    ∙ ap (λ o. front b.wrong o (map b.flows (states_of leaf)) ++ back a.alone (map a.ruled_out (company_of leaf p))) opened
    ∙ ap (λ rs. front b.wrong b.opened (map b.flows (states_of leaf)) ++ back a.alone rs) out
    ∙ ap (λ k. front b.wrong b.opened (map b.flows (states_of leaf)) ++ back k (map b.ruled_out (company_of leaf p))) alone

-- a mix that is read from two lists
pub listed_mix : (leaf : LeafModel) (p : ℕ) (flows out : ℕ → ℤ) (wrong opened alone : ℤ) (flow_list out_list : List ℤ) → flow_list ≡ map flows (states_of leaf) → out_list ≡ map out (states_of leaf) → mix_of_leader leaf (company_of leaf p) (mix_by flow_list wrong opened out_list alone) p ≡ mix_of_leader leaf (company_of leaf p) (record { flows = flows; wrong = wrong; opened = opened; ruled_out = out; alone = alone }) p
listed_mix leaf p flows out wrong opened alone flow_list out_list e f =
    same_mix leaf p (mix_by flow_list wrong opened out_list alone) (record { flows = flows; wrong = wrong; opened = opened; ruled_out = out; alone = alone })
    (record {
      flows = λ q l. ap (λ xs. get_or xs q (pos 0)) e ∙ get_or-map-range_with_len flows 0 (length leaf.states) q q (pos 0) l (zero-add q);
      wrong = refl;
      opened = refl;
      ruled_out = λ q l. ap (λ xs. get_or xs q (pos 0)) f ∙ get_or-map-range_with_len out 0 (length leaf.states) q q (pos 0) l (zero-add q);
      alone = refl;
    })

-- no mix is long
pub mix_short : (leaf : LeafModel) (p : ℕ) (mix : LeaderMix) → p < length leaf.states → length leaf.states ≤ STATE_LIMIT → length (mix_of_leader leaf (company_of leaf p) mix p) ≤ TERM_LIMIT
mix_short leaf p mix l few =
    let flows = map mix.flows (states_of leaf) in
    let base = flows ++ pos 0 ∷ pos 0 ∷ mix.wrong ∷ [] in
    let own = pos 0 ∷ map mix.ruled_out (company_of leaf p) in
    let kept = count_by-le-length (λ q. not (q == p) && can_meet_in leaf p q) (states_of leaf) in
    omega (arith, length-append (mix_of_trap leaf mix ++ zeros p) (own ++ mix.alone ∷ []), length-append (mix_of_trap leaf mix) (zeros p), length-append (base ++ mix.opened ∷ []) (pos 0 ∷ []), length-append base (mix.opened ∷ []), length-append flows (pos 0 ∷ pos 0 ∷ mix.wrong ∷ []), length-map-range_with_len mix.flows 0 (length leaf.states), length-replicate p (pos 0), length-append own (mix.alone ∷ []), length-map (company_of leaf p) mix.ruled_out, length-filter (λ q. not (q == p) && can_meet_in leaf p q) (states_of leaf), kept, length-range_with_len 0 (length leaf.states))
