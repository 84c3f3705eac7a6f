-- The kinds of moves of a leaf with leaders are tame: two leaders that turn followers to different answers meet.
use Rattle.std.proofs.Common.{◌≡◌, ◌≢◌, ◌⊎◌, inl, inr, ℕ, zero, suc, ◌+◌, ◌<◌, Bool, true, false, List, [], get_or, refl, ap, sym, ◌∙◌, subst, arith}
use Rattle.std.specs.Prelude.{ℤ, All, AllPairs, Contains}
use Rattle.std.proofs.lemmas.List.Elements.{All-contains}
use Rattle.pop_leaf.specs.declared.leaf.Move.{Move}
use Rattle.pop_leaf.specs.LeafModel.{LeafModel, silent_move, one_at}
use Rattle.pop_leaf.specs.Reaction.{Differ}
use Rattle.cert_base.specs.TameLayers.{IsNoHigher, IsEnabledBeside}
use Rattle.comp_trees.specs.SortedLayers.{leader_kind, IsLeaderProtocol}
use Rattle.comp_trees.proofs.LeaderLayers.{one_if, kind-pair, kind-below}
use Rattle.comp_trees.proofs.TameKinds.{IsParted, AreTameKinds, clash}

-- a move that takes the first state of each was enabled beside both
pub firsts_beside : (t u v : Move) → u.p ≢ t.p → ((v.p ≡ t.p) × (v.q ≡ u.p)) ⊎ ((v.p ≡ u.p) × (v.q ≡ t.p)) → IsEnabledBeside v t u
firsts_beside t u v ne pair z = elim (one_if t.p z) [
  | inl h ↦ inl (omega (arith, both, h.1, absent h.0))
  | inr h ↦ inr (omega (arith, both, h.1))
]
  where
    sum : ((v.p ≡ t.p) × (v.q ≡ u.p)) ⊎ ((v.p ≡ u.p) × (v.q ≡ t.p)) → one_at v.p z + one_at v.q z ≡ one_at t.p z + one_at u.p z
    sum (inl h) = let a = ap (λ k. one_at k z) h.0 in let b = ap (λ k. one_at k z) h.1 in omega (arith, a, b)
    sum (inr h) = let a = ap (λ k. one_at k z) h.0 in let b = ap (λ k. one_at k z) h.1 in omega (arith, a, b)

    both : one_at v.p z + one_at v.q z ≡ one_at t.p z + one_at u.p z
    both = sum pair

    absent : t.p ≡ z → one_at u.p z ≡ 0
    absent e = elim (one_if u.p z) [ inl k ↦ absurd (ne (k.0 ∙ sym e)) | inr k ↦ k.1 ]

-- the turns keep the first weights, and a leader turns followers one way alone
pub record AreTurns (leaf : LeafModel) (n : ℕ) (ws : List (List ℤ)) (says : ℕ → Bool) : Type 0 where
  pub still : All (λ t. 0 < leader_kind n t → IsNoHigher (get_or ws 0 []) t) leaf.moves
  pub up : All (λ t. leader_kind n t ≡ 1 → says t.p ≡ true) leaf.moves
  pub down : All (λ t. leader_kind n t ≡ 2 → says t.p ≡ false) leaf.moves

module _ (leaf : LeafModel) (n : ℕ) (is : IsLeaderProtocol leaf n) where
  leaders_parted : (t u : Move) → Contains leaf.moves t → Contains leaf.moves u → u.p ≢ t.p → 0 < leader_kind n t → IsParted leaf (leader_kind n) t u
  leaders_parted t u ct cu ne l =
      let first = All-contains (λ t. t.p < n) leaf.moves t is.leads ct in
      let lead = All-contains (λ t. t.p < n) leaf.moves u is.leads cu in
      let v = is.meet t.p u.p first lead (λ f. ne (sym f)) in
      let zero_kind = kind-pair n v.0 v.2 in
      record {
        by = v.0;
        listed = v.1;
        loud = All-contains (λ t. silent_move t ≡ false) leaf.moves v.0 is.loud v.1;
        earlier = (let m : leader_kind n v.0 < leader_kind n t = omega (arith, zero_kind, l) in m);
        beside = firsts_beside t u v.0 ne v.3;
      }

  module _ (ws : List (List ℤ)) (says : ℕ → Bool) (single : AllPairs Differ leaf.moves) (turns : AreTurns leaf n ws says) where
    kept : (t u : Move) (k : ℕ) → leader_kind n t ≡ k → Contains leaf.moves t → Contains leaf.moves u → leader_kind n t < leader_kind n u → IsNoHigher (get_or ws (leader_kind n t) []) u ⊎ IsParted leaf (leader_kind n) t u
    kept t u zero e ct cu l =
        let low = All-contains (λ t. 0 < leader_kind n t → IsNoHigher (get_or ws 0 []) t) leaf.moves u turns.still cu (omega (arith, l)) in
        inl (subst (λ k. IsNoHigher (get_or ws k []) u) (sym e) low)
    kept t u (suc k) e ct cu l =
        let most = kind-below n u in
        let one : leader_kind n t ≡ 1 = omega (arith, e, l, most) in
        let two : leader_kind n u ≡ 2 = omega (arith, e, l, most) in
        let yes = All-contains (λ t. leader_kind n t ≡ 1 → says t.p ≡ true) leaf.moves t turns.up ct one in
        let no = All-contains (λ t. leader_kind n t ≡ 2 → says t.p ≡ false) leaf.moves u turns.down cu two in
        inr (leaders_parted t u ct cu (λ f. clash (says t.p) yes (ap says (sym f) ∙ no)) (omega (arith, one)))

    pub leaders-tame : AreTameKinds leaf (leader_kind n) ws
    leaders-tame = record {
      single = single;
      no_rise = λ t u ct cu lt lu l. kept t u (leader_kind n t) refl ct cu l;
    }
