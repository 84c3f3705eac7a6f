-- While the moves of a layer are taken, the layers before it stay without an enabled move.
use Rattle.std.proofs.Common.{◌≡◌, ◌≢◌, ℕ, zero, suc, ◌+◌, ◌-◌, ◌<◌, ◌≤◌, List, [], ◌∷◌, refl, ap, arith}
use Rattle.std.specs.Prelude.{Some, slice_get}
use Rattle.std.proofs.lemmas.List.Sums.{sum_by-cons}
use Rattle.pop_leaf.specs.declared.leaf.Move.{Move}
use Rattle.pop_leaf.specs.LeafModel.{LeafModel, one_at, times_in_pair, pre, post}
use Rattle.pop_leaf.specs.Step.{LeafMove, LeafStep}
use Rattle.cert_base.specs.declared.layer.Layer.{Layer}
use Rattle.cert_base.specs.ValidLayers.{IsInLayer, ValidLayers}
use Rattle.cert_base.proofs.Numbers.{number_in, number_in-meets, before_pre, after_post}

-- the states that a move takes are present
abbrev pub IsEnabledIn : List ℕ → Move → Type 0
IsEnabledIn crowd t = (z : ℕ) → pre t z ≤ number_in z crowd

pub number_in-cons : (z q : ℕ) (crowd : List ℕ) → number_in z (q ∷ crowd) ≡ one_at q z + number_in z crowd
number_in-cons z q crowd = sum_by-cons (λ x. one_at x z) q crowd

pub one_there : (z : ℕ) (crowd : List ℕ) (a x : ℕ) → slice_get crowd a ≡ Some x → one_at x z ≤ number_in z crowd
one_there z [] a x h = cc
one_there z (q ∷ crowd) zero x h =
    let same : q ≡ x = cc in rw (number_in-cons z q crowd, same) (omega arith)
one_there z (q ∷ crowd) (suc a) x h =
    let more = one_there z crowd a x h in rw (number_in-cons z q crowd) (omega (arith, more))

-- two different agents are two in number
pub two_there : (z : ℕ) (crowd : List ℕ) (a b x y : ℕ) → a ≢ b → slice_get crowd a ≡ Some x → slice_get crowd b ≡ Some y → times_in_pair x y z ≤ number_in z crowd
two_there z [] a b x y ne ha hb = cc
two_there z (q ∷ crowd) zero zero x y ne ha hb = absurd (ne refl)
two_there z (q ∷ crowd) zero (suc b) x y ne ha hb =
    let same : q ≡ x = cc in
    let more = one_there z crowd b y hb in
    rw (number_in-cons z q crowd, same) (omega (arith, more))
two_there z (q ∷ crowd) (suc a) zero x y ne ha hb =
    let same : q ≡ y = cc in
    let more = one_there z crowd a x ha in
    rw (number_in-cons z q crowd, same) (omega (arith, more))
two_there z (q ∷ crowd) (suc a) (suc b) x y ne ha hb =
    let more = two_there z crowd a b x y (λ e. ne (ap suc e)) ha hb in rw (number_in-cons z q crowd) (omega (arith, more))

-- no move of a layer before layer i is enabled
abbrev pub AreDead : LeafModel → List Layer → ℕ → List ℕ → Type 0
AreDead leaf layers i crowd = (j : ℕ) (u : Move) → j < i → IsInLayer leaf layers j u → IsEnabledIn crowd u → ⊥

pub stay_dead : (leaf : LeafModel) (layers : List Layer) → ValidLayers leaf layers → (i : ℕ) (before after : List ℕ) (s : LeafStep leaf before after) (m : LeafMove leaf s.x s.y s.x' s.y') → IsInLayer leaf layers i m.taken → AreDead leaf layers i before → AreDead leaf layers i after
stay_dead leaf layers v i before after s m at dead j u l u_at enabled =
    let w = v.wakes_none i j m.taken u l at u_at in
    dead w.0 w.1 w.2 w.3 (λ z. was z (w.4 z))
  where
    was : (z : ℕ) {n : ℕ} → n ≤ pre m.taken z + (pre u z - post m.taken z) → n ≤ number_in z before
    was z k =
        let e = number_in-meets leaf z before after s in
        let b = before_pre m.taken s.x s.y s.x' s.y' z m.followed in
        let a = after_post m.taken s.x s.y s.x' s.y' z m.followed in
        let two = two_there z before s.a s.b s.x s.y s.different s.a_had s.b_had in
        let u_there = enabled z in
        omega (arith, e, b, a, two, u_there, k)
