-- Layers by kinds of moves are tame if no later kind raises the weights of an earlier one, unless a move of a kind before
-- both is there, and no two moves take the same states. One layer is tame.
use Rattle.std.proofs.Common.{◌≡◌, ◌⊎◌, inl, inr, subst, ℕ, ◌<◌, ◌≤◌, Bool, true, false, List, [], length, get_or, refl, ap, sym, ◌∙◌, arith}
use Rattle.std.specs.Prelude.{ℤ, AllPairs, Contains, Some, slice_get}
use Rattle.std.proofs.lemmas.Bool.{cases_lt, eq-eqb, false≢true}
use Rattle.std.proofs.lemmas.Option.{slice_get_within, get_or_from_slice_get, same_Some}
use Rattle.std.proofs.Math.Bool.{or-true}
use Rattle.pop_leaf.proofs.Silent.{same_pair_cases}
use Rattle.pop_leaf.specs.declared.leaf.Move.{Move}
use Rattle.pop_leaf.specs.LeafModel.{LeafModel, silent_move, same_pair}
use Rattle.pop_leaf.specs.Reaction.{Differ}
use Rattle.cert_base.specs.declared.layer.Layer.{Layer}
use Rattle.cert_base.specs.ValidLayers.{IsInLayer}
use Rattle.cert_base.specs.TameLayers.{IsNoHigher, IsEnabledBeside, AreApart, TameLayers}
use Rattle.comp_trees.specs.SortedLayers.{sorted_layers}
use Rattle.comp_trees.proofs.SortedLayers.{AreKinds, got_contains, in_layer, has_layer}

-- ---- one layer

no_later : (leaf : LeafModel) (ls : List Layer) → length ls ≡ 1 → (i j : ℕ) (u : Move) → i < j → IsInLayer leaf ls j u → ⊥
no_later leaf ls one i j u before at = let within = slice_get_within ls j at.layer at.layer_is in omega (arith, one, before, within)

pub one_layer-tame : (leaf : LeafModel) (ls : List Layer) → length ls ≡ 1 → TameLayers leaf ls
one_layer-tame leaf ls one = record {
  no_rise = λ i j t u before t_at u_at. absurd (no_later leaf ls one i j u before u_at);
  same_states = λ i j t u before t_at u_at same. absurd (no_later leaf ls one i j u before u_at);
  no_waking = λ i j t u before t_at u_at. absurd (no_later leaf ls one i j u before u_at);
}

-- ---- kinds

-- a move of a kind before that of t is there where t and u are
pub record IsParted (leaf : LeafModel) (kind : Move → ℕ) (t u : Move) : Type 0 where
  pub by : Move
  pub listed : Contains leaf.moves by
  pub loud : silent_move by ≡ false
  pub earlier : kind by < kind t
  pub beside : IsEnabledBeside by t u

-- what the kinds must satisfy besides
pub record AreTameKinds (leaf : LeafModel) (kind : Move → ℕ) (ws : List (List ℤ)) : Type 0 where
  pub single : AllPairs Differ leaf.moves
  pub no_rise : (t u : Move) → Contains leaf.moves t → Contains leaf.moves u → silent_move t ≡ false → silent_move u ≡ false → kind t < kind u → IsNoHigher (get_or ws (kind t) []) u ⊎ IsParted leaf kind t u

same_turned : (x y u v : ℕ) → same_pair x y u v ≡ true → same_pair u v x y ≡ true
same_turned x y u v e = elim (same_pair_cases x y u v e) [
  | inl h ↦ rw (eq-eqb u x (sym h.0), eq-eqb v y (sym h.1)) refl
  | inr h ↦ rw (eq-eqb u y (sym h.1), eq-eqb v x (sym h.0)) (or-true _)
]

pub clash : (b : Bool) → b ≡ true → b ≡ false → ⊥
clash b e f = false≢true (sym f ∙ e)

-- moves of two kinds don't take the same states
differ_at : (moves : List Move) (kind : Move → ℕ) → AllPairs Differ moves → (a b : ℕ) (t u : Move) → slice_get moves a ≡ Some t → slice_get moves b ≡ Some u → kind t < kind u → silent_move t ≡ false → silent_move u ≡ false → same_pair t.p t.q u.p u.q ≡ true → ⊥
differ_at moves kind single a b t u ha hb l lt lu same = go (cases_lt a b) (cases_lt b a)
  where
    t_is : get_or moves a t ≡ t
    t_is = get_or_from_slice_get moves a t t ha

    u_is : get_or moves b u ≡ u
    u_is = get_or_from_slice_get moves b u u hb

    t_by_u : get_or moves a u ≡ t
    t_by_u = get_or_from_slice_get moves a t u ha

    u_by_t : get_or moves b t ≡ u
    u_by_t = get_or_from_slice_get moves b u t hb

    before : a < b → Differ t u
    before m = subst (λ x. Differ x u) t_is (subst (λ y. Differ (get_or moves a t) y) u_by_t (single a b t m (slice_get_within moves b u hb)))

    after : b < a → Differ u t
    after m = subst (λ x. Differ x t) u_is (subst (λ y. Differ (get_or moves b u) y) t_by_u (single b a u m (slice_get_within moves a t ha)))

    go : (a < b) ⊎ (b ≤ a) → (b < a) ⊎ (a ≤ b) → ⊥
    go (inl m) o = clash (same_pair t.p t.q u.p u.q) same (before m lt lu)
    go (inr m) (inl n) = clash (same_pair u.p u.q t.p t.q) (same_turned t.p t.q u.p u.q same) (after n lu lt)
    go (inr m) (inr n) =
        let e : a ≡ b = omega (arith, m, n) in
        let one : t ≡ u = same_Some _ _ (sym ha ∙ ap (slice_get moves) e ∙ hb) in
        let kinds : kind t ≡ kind u = ap kind one in
        omega (arith, kinds, l)

module _ (leaf : LeafModel) (kind : Move → ℕ) (ws : List (List ℤ)) (are : AreKinds leaf kind ws) (tame : AreTameKinds leaf kind ws) where
  abbrev ls : List Layer
  ls = sorted_layers leaf.moves kind 0 ws

  parted : (i : ℕ) (t u : Move) → kind t ≡ i → IsParted leaf kind t u → AreApart leaf ls i t u
  parted i t u ti is =
      (kind is.by, is.by, (let m = is.earlier in let l : kind is.by < i = omega (arith, m, ti) in l), has_layer leaf kind ws are is.by is.listed is.loud, is.beside)

  pub sorted_layers-tame : TameLayers leaf ls
  sorted_layers-tame = record {
    no_rise = λ i j t u l at au. (
        let is = in_layer leaf kind ws are i t at in
        let uj = (in_layer leaf kind ws are j u au).0 in
        let same : get_or ws (kind t) [] ≡ at.layer.weights = ap (λ k. get_or ws k []) is.0 ∙ sym is.1 in
        elim (tame.no_rise t u (got_contains leaf kind ws are at.number t at.move_is) (got_contains leaf kind ws are au.number u au.move_is) at.non_silent au.non_silent (omega (arith, is.0, uj, l))) [
          | inl h ↦ inl (subst (λ w. IsNoHigher w u) same h)
          | inr h ↦ inr (parted i t u is.0 h)
        ]);
    same_states = λ i j t u l at au same. (
        let ti = (in_layer leaf kind ws are i t at).0 in
        let uj = (in_layer leaf kind ws are j u au).0 in
        absurd (differ_at leaf.moves kind tame.single at.number au.number t u at.move_is au.move_is (omega (arith, ti, uj, l)) at.non_silent au.non_silent same));
    no_waking = λ i j t u l at au. (
        let ti = (in_layer leaf kind ws are i t at).0 in
        let uj = (in_layer leaf kind ws are j u au).0 in
        let w = are.wakes u t (got_contains leaf kind ws are au.number u au.move_is) (got_contains leaf kind ws are at.number t at.move_is) au.non_silent at.non_silent (omega (arith, ti, uj, l)) in
        (kind w.0, w.0, (let k : kind w.0 ≤ i = omega (arith, w.3, ti) in k), has_layer leaf kind ws are w.0 w.1 w.2, w.4));
  }
