-- A step of a leaf's crowd by a move that lowers the weights lowers the total weight of the crowd.
use Rattle.std.proofs.Common.{◌≡◌, ◌⊎◌, inl, inr, ℕ, zero, suc, List, [], ◌∷◌, arith}
use Rattle.std.specs.Prelude.{Some, ℤ, pos, ◌+ℤ◌, ◌<ℤ◌, slice_get, slice_set}
use Rattle.std.proofs.lemmas.Int.{ints}
use Rattle.pop_leaf.specs.declared.leaf.Move.{Move}
use Rattle.pop_leaf.specs.LeafModel.{LeafModel}
use Rattle.pop_leaf.specs.Step.{Follows, LeafMove, LeafStep}
use Rattle.cert_base.specs.ValidLayers.{weight_at, IsLower}
use Rattle.base_laws.proofs.Lists.{slice_get-set_other}

-- the weights of all agents together
abbrev pub total : List ℤ → List ℕ → ℤ
total w [] = pos 0
total w (q ∷ crowd) = weight_at w q +ℤ total w crowd

pub total-set : (w : List ℤ) (crowd : List ℕ) (a x y : ℕ) → slice_get crowd a ≡ Some x → (total w (slice_set crowd a y) +ℤ weight_at w x) ≡ (total w crowd +ℤ weight_at w y)
total-set w [] a x y h = cc
total-set w (q ∷ crowd) zero x y h =
    let same : q ≡ x = cc in rw same (omega (arith, ints))
total-set w (q ∷ crowd) (suc a) x y h =
    let e = total-set w crowd a x y h in omega (arith, ints, e)

-- the total after a step, by the weights of the two agents
pub total_meets : (leaf : LeafModel) (w : List ℤ) (before after : List ℕ) (s : LeafStep leaf before after) → (total w after +ℤ (weight_at w s.x +ℤ weight_at w s.y)) ≡ (total w before +ℤ (weight_at w s.x' +ℤ weight_at w s.y'))
total_meets leaf w before after s =
    let first = total-set w before s.a s.x s.x' s.a_had in
    let second = total-set w (slice_set before s.a s.x') s.b s.y s.y' (slice_get-set_other before s.a s.b s.x' s.y s.different s.b_had) in
    rw s.others_stay (omega (arith, ints, first, second))

lower_followed : (w : List ℤ) (t : Move) (x y x' y' : ℕ) → IsLower w t → Follows t x y x' y' ⊎ Follows t y x y' x' → (weight_at w x' +ℤ weight_at w y') <ℤ (weight_at w x +ℤ weight_at w y)
lower_followed w t x y x' y' l (inl f) = rw (f.0, f.1, f.2, f.3) l
lower_followed w t x y x' y' l (inr f) = rw (f.0, f.1, f.2, f.3) (omega (arith, ints, l))

-- a move that lowers the weights lowers the total
pub total_falls : (leaf : LeafModel) (w : List ℤ) (before after : List ℕ) (s : LeafStep leaf before after) (m : LeafMove leaf s.x s.y s.x' s.y') → IsLower w m.taken → total w after <ℤ total w before
total_falls leaf w before after s m l =
    let lower = lower_followed w m.taken s.x s.y s.x' s.y' l m.followed in
    let e = total_meets leaf w before after s in
    omega (arith, ints, lower, e)
