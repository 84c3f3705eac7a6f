-- The lists as the code puts them together.
use Rattle.std.proofs.Common.{◌≡◌, ◌∙◌, ℕ, zero, suc, ◌+◌, ◌-◌, ◌^◌, ◌%◌, ◌<◌, ◌≤◌, Bool, true, false, List, [], ◌∷◌, ◌++◌, length, map, append_assoc, ap, sym, zero-add, arith}
use Rattle.std.specs.Prelude.{ℤ, pos, neg_ℤ, ◌&&◌, ◌==◌, not, if◌then◌else◌, reverse, slice_index_or}
use Rattle.std.specs.List.{range_with_len}
use Rattle.std.proofs.lemmas.List.{length-append, length-map, length-replicate}
use Rattle.std.proofs.lemmas.List.Elements.{All-from_get_or, All-filter}
use Rattle.std.proofs.lemmas.List.FromFn.{length-map-range_with_len, get_or-map-range_with_len}
use Rattle.pop_leaf.specs.LeafModel.{LeafModel}
use Rattle.base_laws.proofs.Ranges.{all_range}
use Rattle.cert_base.specs.Rows.{zeros}
use Rattle.cert_base.specs.FactsAndCases.{states_of, can_meet_in}
use Rattle.comp_trees.specs.LeaderTree.{company_of, weighed_node}
use Rattle.comp_trees.proofs.SameMix.{map-same}
use Rattle.comp_counting.proofs.Within.{mix-long}
use Rattle.comp_flock.specs.CountProof.{lost_worth, lesser_worth, kept_worth, ruled_worth, own_worth, with_mix, without_mix, first_mix, prefix_nodes}
use Rattle.comp_flock.proofs.Within.{company-short}
use Rattle.cert_base.specs.declared.node.Node.{Node}
use Rattle.cert_base.specs.declared.node.Node.TheVariants.{Present}
use Rattle.comp_trees.proofs.TreeOfEnds.{reverse-cons, nodes-flat}
use Rattle.comp_trees.specs.Bits.{has_bit}
use Rattle.comp_counting.specs.declared.limits.TheConstants.{POWER_LIMIT}
use Rattle.comp_flock.specs.PrefixLeaf.{prefixes, worths, bound_worths, last_place, IsPrefix}
use Rattle.comp_flock.specs.CountLeaf.{AreWorths}
use Rattle.comp_flock.proofs.WorthLaws.{no-more}
use Rattle.comp_flock.proofs.Formed.{bound-chain, places-few}

-- one place less
pub one_prefix : (c i : ℕ) (rest : List ℕ) → rest ≡ prefixes c i → (if has_bit c i then ((c - c % 2 ^ i) ∷ []) else []) ++ rest ≡ prefixes c (suc i)
one_prefix c i rest e = go (has_bit c i)
  where
    go : (b : Bool) → (if b then ((c - c % 2 ^ i) ∷ []) else []) ++ rest ≡ (if b then ((c - c % 2 ^ i) ∷ prefixes c i) else prefixes c i)
    go true = ap (λ xs. (c - c % 2 ^ i) ∷ xs) e
    go false = e

pub prefixes_more : (c count j i : ℕ) (old before own after : List ℕ) → j < count → i ≡ count - 1 - j → before ++ prefixes c (count - j) ≡ old ++ prefixes c count → own ≡ (if has_bit c i then ((c - c % 2 ^ i) ∷ []) else []) → after ≡ before ++ own → after ++ prefixes c (count - (j + 1)) ≡ old ++ prefixes c count
prefixes_more c count j i old before own after l e b o a =
    let rest = ap (prefixes c) (let f : count - (j + 1) ≡ i = omega (arith, l, e) in f) in
    let next = ap (prefixes c) (let f : suc i ≡ count - j = omega (arith, l, e) in f) in
    ap (λ xs. xs ++ prefixes c (count - (j + 1))) (a ∙ ap (λ xs. before ++ xs) o)
    ∙ append_assoc before (if has_bit c i then ((c - c % 2 ^ i) ∷ []) else []) (prefixes c (count - (j + 1)))
    ∙ ap (λ xs. before ++ xs) (one_prefix c i (prefixes c (count - (j + 1))) rest ∙ next)
    ∙ b

-- one end more, from the last on
pub ends_more : (ends : ℕ → Node) (k j p : ℕ) (old before after : List Node) (node : Node) → j < k → p ≡ k - j → before ≡ old ++ reverse (map ends (range_with_len (k + 1 - j) j)) → node ≡ ends p → after ≡ before ++ node ∷ [] → after ≡ old ++ reverse (map ends (range_with_len (k + 1 - (j + 1)) (j + 1)))
ends_more ends k j p old before after node l e b o a =
    let back = reverse (map ends (range_with_len (k + 1 - j) j)) in
    let from = ap (λ i. reverse (map ends (range_with_len i j))) (let f : k + 1 - j ≡ p + 1 = omega (arith, l, e) in f) in
    a
    ∙ ap (λ xs. xs ++ node ∷ []) b
    ∙ append_assoc old back (node ∷ [])
    ∙ ap (λ xs. old ++ xs) (ap (λ n. back ++ n ∷ []) o ∙ ap (λ xs. xs ++ ends p ∷ []) from ∙ sym (reverse-cons (ends p) (map ends (range_with_len (p + 1) j))) ∙ ap (λ n. reverse (map ends (range_with_len p n))) (let f : suc j ≡ j + 1 = omega arith in f) ∙ ap (λ i. reverse (map ends (range_with_len i (j + 1)))) (let f : p ≡ k + 1 - (j + 1) = omega (arith, l, e) in f))

-- what the code knows of the worths
pub prefix-worths : (coefs : List ℤ) (bound : ℤ) (top : ℕ) → IsPrefix coefs bound top → AreWorths (bound_worths bound top) (last_place bound top)
prefix-worths coefs bound top is =
    let chain = bound-chain coefs bound top is in
    let long = chain.long in
    record {
      long = long;
      few = (let few = places-few coefs bound top is in omega (arith, few));
      small = All-from_get_or (λ n. n ≤ 2 ^ POWER_LIMIT) (bound_worths bound top) 0 (λ i l. let most = no-more (bound_worths bound top) _ top (last_place bound top) chain i (omega (arith, l, long)) in let within = is.within in omega (arith, most, within));
    }

-- what is picked for those that one rules out
pub picked-as : (leaf : LeafModel) (p k : ℕ) (f : ℕ → ℤ) (listed : List ℤ) (states : List ℕ) → length leaf.states ≡ k + 2 → listed ≡ map f (range_with_len 0 (k + 2)) → states ≡ company_of leaf p → map (λ q. slice_index_or listed q (pos 0)) states ≡ map f (company_of leaf p)
picked-as leaf p k f listed states long e s =
    ap (map (λ q. slice_index_or listed q (pos 0))) s
    ∙ map-same (λ q. slice_index_or listed q (pos 0)) f (company_of leaf p)
    (All-filter (λ q. not (q == p) && can_meet_in leaf p q) (λ q. slice_index_or listed q (pos 0) ≡ f q) (states_of leaf)
    (all_range (λ q. slice_index_or listed q (pos 0) ≡ f q) 0 (length leaf.states) (λ q l m. ap (λ xs. slice_index_or xs q (pos 0)) e ∙ get_or-map-range_with_len f 0 (k + 2) q q (pos 0) (omega (arith, m, long)) (zero-add q))))

-- no list of multipliers is long
module _ (most : ℕ) (ws : List ℕ) (k top : ℕ) (few : k ≤ 100) where
  pub first-short : (c : ℕ) → length (first_mix ws c k) ≤ 1000
  first-short c = omega (arith, mix-long (map (lesser_worth ws k) (range_with_len 0 (k + 2))) (pos 0) (pos 1) (pos c ∷ []), length-map-range_with_len (lesser_worth ws k) 0 (k + 2), few)

  pub without-short : top ≤ k → length (without_mix most ws k top) ≤ 1000
  without-short low =
      let first = neg_ℤ (pos most) ∷ map (own_worth ws) (range_with_len 1 top) in
      let second = map (lost_worth most ws k) (range_with_len (top + 1) (k - top)) in
      omega (arith, mix-long (map (lost_worth most ws k) (range_with_len 0 (k + 2))) (pos 0) (pos 1) (first ++ second), length-map-range_with_len (lost_worth most ws k) 0 (k + 2), length-append first second, length-map-range_with_len (own_worth ws) 1 top, length-map-range_with_len (lost_worth most ws k) (top + 1) (k - top), low, few)

  pub with-short : (leaf : LeafModel) (p : ℕ) → length leaf.states ≡ k + 2 → top ≤ k → p ≤ k → length (with_mix leaf most ws k top p) ≤ 1000
  with-short leaf p long low l =
      let company = company_of leaf p in
      let kept = map (kept_worth ws p) (range_with_len 1 top) in
      let ruled = map (ruled_worth most ws k p) company in
      let none = zeros (p - (top + 1)) in
      let first = (pos 0 ∷ kept) ++ none in
      let last = neg_ℤ (own_worth ws p) in
      let second = (pos 0 ∷ ruled) ++ last ∷ [] in
      omega (arith, mix-long (map (lost_worth most ws k) (range_with_len 0 (k + 2))) (pos 0) (pos 1) (first ++ second), length-map-range_with_len (lost_worth most ws k) 0 (k + 2), length-append first second, length-append (pos 0 ∷ kept) none, length-append (pos 0 ∷ ruled) (last ∷ []), length-map-range_with_len (kept_worth ws p) 1 top, length-replicate (p - (top + 1)) (pos 0), length-map company (ruled_worth most ws k p), company-short leaf p, long, low, l, few)

-- the nodes of the prefixes, one after the other
pub nodes-as : (leaf : LeafModel) (most : ℕ) (ws : List ℕ) (k top : ℕ) (old first second third : List Node) (node : Node) → first ≡ old ++ map Present (range_with_len (top + 1) (k - top)) → node ≡ weighed_node (without_mix most ws k top) → second ≡ first ++ node ∷ [] → third ≡ second ++ reverse (map (λ p. weighed_node (with_mix leaf most ws k top p)) (range_with_len (top + 1) (k - top))) → third ≡ old ++ prefix_nodes leaf most ws k top
nodes-as leaf most ws k top old first second third node a n b d =
    let ends : ℕ → Node = λ p. weighed_node (with_mix leaf most ws k top p) in
    let last = weighed_node (without_mix most ws k top) in
    let front = map Present (range_with_len (top + 1) (k - top)) in
    let back = reverse (map ends (range_with_len (top + 1) (k - top))) in
    d
    ∙ ap (λ xs. xs ++ back) (b ∙ ap (λ xs. xs ++ node ∷ []) a ∙ ap (λ m. (old ++ front) ++ m ∷ []) n ∙ append_assoc old front (last ∷ []))
    ∙ append_assoc old (front ++ last ∷ []) back
    ∙ ap (λ xs. old ++ xs) (sym (nodes-flat ends last (top + 1) (k - top)))

-- the prefixes are behind the powers
pub top-before : (coefs : List ℤ) (bound : ℤ) (top k : ℕ) → IsPrefix coefs bound top → k ≡ last_place bound top → top ≤ k
top-before coefs bound top k is f = let low = (bound-chain coefs bound top is).low in omega (arith, low, f)

pub prefixes-counted : (c i : ℕ) → length (prefixes c (i + 1)) ≡ length (prefixes c i) + (if has_bit c i then 1 else 0)
prefixes-counted c i = ap (λ j. length (prefixes c j)) (let e : i + 1 ≡ suc i = omega arith in e) ∙ go (has_bit c i)
  where
    go : (b : Bool) → length (if b then ((c - c % 2 ^ i) ∷ prefixes c i) else prefixes c i) ≡ length (prefixes c i) + (if b then 1 else 0)
    go true = omega arith
    go false = omega arith

pub prefixes-few : (c i : ℕ) → length (prefixes c i) ≤ i
prefixes-few c zero = omega arith
prefixes-few c (suc i) = go (has_bit c i) (prefixes-few c i)
  where
    go : (b : Bool) → length (prefixes c i) ≤ i → length (if b then ((c - c % 2 ^ i) ∷ prefixes c i) else prefixes c i) ≤ suc i
    go true few = omega (arith, few)
    go false few = omega (arith, few)

pub worths-counted : (c top : ℕ) → length (worths c top) ≡ top + 1 + length (prefixes c (top + 1))
worths-counted c top =
    omega (arith, length-append (0 ∷ map (λ i. 2 ^ i) (range_with_len 0 top)) (prefixes c (top + 1)), length-map-range_with_len (λ i. 2 ^ i) 0 top)
