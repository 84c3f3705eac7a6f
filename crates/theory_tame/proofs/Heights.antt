-- Weights of a crowd beyond the least, and tests of dead moves.
use Rattle.std.proofs.Common.{◌≡◌, ◌⊎◌, inl, inr, ℕ, ◌*◌, ◌<◌, ◌≤◌, Bool, true, false, not, ◌&&◌, List, [], ◌∷◌, length, get_or, refl, ap, sym, ◌∙◌, arith}
use Rattle.std.specs.Prelude.{ℤ, pos, negsuc, ◌+ℤ◌, ◌-ℤ◌, ◌*ℤ◌, ◌<ℤ◌, ◌≤ℤ◌, nat_abs, Option, Some, None, slice_get, All, Contains}
use Rattle.std.specs.List.{list_all}
use Rattle.std.proofs.Math.IntN.{pos-*ℤ-pos}
use Rattle.std.proofs.lemmas.Int.{ints}
use Rattle.std.proofs.lemmas.List.Sums.{AllPass-from_list_all, list_all-from_AllPass}
use Rattle.base_laws.proofs.Lists.{has_first, has_later}
use Rattle.pop_leaf.specs.declared.leaf.Move.{Move}
use Rattle.pop_leaf.specs.LeafModel.{LeafModel, silent_move}
use Rattle.pop_leaf.specs.Step.{Follows, LeafMove, LeafStep}
use Rattle.cert_base.specs.ProofBound.{weights_spread}
use Rattle.cert_base.specs.ValidLayers.{weight_at}
use Rattle.cert_base.proofs.Integers.{add-mul}
use Rattle.cert_base.proofs.WeightBounds.{within, total-above, total-below}
use Rattle.cert_base.proofs.Weights.{total, total_meets}
use Rattle.cert_base.proofs.Dead.{IsEnabledIn, two_there}
use Rattle.cert_base.proofs.Numbers.{before_pre}
use Rattle.cert_base.proofs.Agents.{enabled_test, agents_of, enabled_test-true}
use Rattle.theory_random.proofs.Listed.{at_contained}
use Rattle.theory_random.proofs.Sums.{all_in}
use Rattle.cert_base.specs.TameLayers.{IsNoHigher}

-- t is the non-silent move with this number
abbrev pub IsMove : LeafModel → ℕ → Move → Type 0
IsMove leaf number t = (slice_get leaf.moves number ≡ Some t) × (silent_move t ≡ false)

-- ---- the weights of all agents, beyond the least that they may be

pub weight : List ℤ → List ℕ → ℕ
weight w states = nat_abs (total w states -ℤ ((within w).low *ℤ pos (length states)))

abs_falls : (x y : ℤ) → pos 0 ≤ℤ x → x <ℤ y → nat_abs x < nat_abs y
abs_falls (pos m) (pos n) l k = omega (arith, ints, k)
abs_falls (pos m) (negsuc n) l k = absurd (omega (arith, ints, k))
abs_falls (negsuc m) y l k = absurd (omega (arith, ints, l))

abs_stays : (x y : ℤ) → pos 0 ≤ℤ x → x ≤ℤ y → nat_abs x ≤ nat_abs y
abs_stays (pos m) (pos n) l k = omega (arith, ints, k)
abs_stays (pos m) (negsuc n) l k = absurd (omega (arith, ints, k))
abs_stays (negsuc m) y l k = absurd (omega (arith, ints, l))

abs_most : (x : ℤ) (n : ℕ) → pos 0 ≤ℤ x → x ≤ℤ pos n → nat_abs x ≤ n
abs_most (pos m) n l k = omega (arith, ints, k)
abs_most (negsuc m) n l k = absurd (omega (arith, ints, l))

pub weight_falls : (w : List ℤ) (before after : List ℕ) → total w after <ℤ total w before → length after ≡ length before → All (λ q. q < length w) after → weight w after < weight w before
unfolding weight
weight_falls w before after lighter size range =
    let low = (within w).low in
    let least = total-above w low after (within w).above range in
    let same : (low *ℤ pos (length after)) ≡ (low *ℤ pos (length before)) = ap (λ n. low *ℤ pos n) size in
    abs_falls (total w after -ℤ (low *ℤ pos (length after))) (total w before -ℤ (low *ℤ pos (length before))) (omega (arith, ints, least)) (omega (arith, ints, lighter, same))

pub weight_stays : (w : List ℤ) (before after : List ℕ) → total w after ≤ℤ total w before → length after ≡ length before → All (λ q. q < length w) after → weight w after ≤ weight w before
unfolding weight
weight_stays w before after lighter size range =
    let low = (within w).low in
    let least = total-above w low after (within w).above range in
    let same : (low *ℤ pos (length after)) ≡ (low *ℤ pos (length before)) = ap (λ n. low *ℤ pos n) size in
    abs_stays (total w after -ℤ (low *ℤ pos (length after))) (total w before -ℤ (low *ℤ pos (length before))) (omega (arith, ints, least)) (omega (arith, ints, lighter, same))

pub weight_most : (w : List ℤ) (states : List ℕ) → All (λ q. q < length w) states → weight w states ≤ weights_spread w * length states
unfolding weight
weight_most w states range =
    let i = within w in
    let n = length states in
    let least = total-above w i.low states i.above range in
    let most = total-below w i.high states i.below range in
    let product : (i.high *ℤ pos n) ≡ ((i.low *ℤ pos n) +ℤ pos (weights_spread w * n)) = ap (λ z. z *ℤ pos n) i.apart ∙ add-mul i.low (pos (weights_spread w)) (pos n) ∙ ap (λ z. (i.low *ℤ pos n) +ℤ z) (pos-*ℤ-pos (weights_spread w) n) in
    abs_most (total w states -ℤ (i.low *ℤ pos n)) (weights_spread w * n) (omega (arith, ints, least)) (omega (arith, ints, most, product))

no_higher_followed : (w : List ℤ) (t : Move) (x y x' y' : ℕ) → IsNoHigher w t → Follows t x y x' y' ⊎ Follows t y x y' x' → (weight_at w x' +ℤ weight_at w y') ≤ℤ (weight_at w x +ℤ weight_at w y)
no_higher_followed w t x y x' y' l (inl f) = rw (f.0, f.1, f.2, f.3) l
no_higher_followed w t x y x' y' l (inr f) = rw (f.0, f.1, f.2, f.3) (omega (arith, ints, l))

-- a move that doesn't raise the weights doesn't raise the total
pub total_stays : (leaf : LeafModel) (w : List ℤ) (before after : List ℕ) (s : LeafStep leaf before after) (m : LeafMove leaf s.x s.y s.x' s.y') → IsNoHigher w m.taken → total w after ≤ℤ total w before
total_stays leaf w before after s m l =
    let lower = no_higher_followed w m.taken s.x s.y s.x' s.y' l m.followed in
    let e = total_meets leaf w before after s in
    omega (arith, ints, lower, e)

-- ---- dead moves

-- no two agents can take the move with this number
abbrev pub IsDeadIn : LeafModel → List ℕ → ℕ → Type 0
IsDeadIn leaf crowd n = (t : Move) → IsMove leaf n t → IsEnabledIn crowd t → ⊥

-- whether there is a move, it is not silent, and two agents can take it
abbrev pub may_take : List ℕ → Option Move → Bool
may_take crowd None = false
may_take crowd (Some t) = not (silent_move t) && enabled_test crowd t

abbrev pub dead_test : LeafModel → List ℕ → ℕ → Bool
dead_test leaf crowd n = not (may_take crowd (slice_get leaf.moves n))

pub enabled_from : (crowd : List ℕ) (t : Move) → enabled_test crowd t ≡ true → IsEnabledIn crowd t
enabled_from crowd t e z =
    let two = agents_of crowd t e in two_there z crowd two.0 two.1 t.p t.q two.2 two.3 two.4

-- the agents of a step could take its move
pub taken_enabled : (leaf : LeafModel) (before after : List ℕ) (s : LeafStep leaf before after) (m : LeafMove leaf s.x s.y s.x' s.y') → IsEnabledIn before m.taken
taken_enabled leaf before after s m z =
    let b = before_pre m.taken s.x s.y s.x' s.y' z m.followed in
    let two = two_there z before s.a s.b s.x s.y s.different s.a_had s.b_had in
    omega (arith, b, two)

pub dead_from : (leaf : LeafModel) (crowd : List ℕ) (n : ℕ) → dead_test leaf crowd n ≡ true → IsDeadIn leaf crowd n
dead_from leaf crowd n e t is enabled =
    let yes : may_take crowd (slice_get leaf.moves n) ≡ true = ap (may_take crowd) is.0 ∙ ap (λ b. not b && enabled_test crowd t) is.1 ∙ enabled_test-true crowd t enabled in
    let f : false ≡ true = sym (ap not yes) ∙ e in
    cc

pub dead_to : (leaf : LeafModel) (crowd : List ℕ) (n : ℕ) → IsDeadIn leaf crowd n → dead_test leaf crowd n ≡ true
dead_to leaf crowd n dead = go (slice_get leaf.moves n) refl
  where
    by : (t : Move) → slice_get leaf.moves n ≡ Some t → (b c : Bool) → silent_move t ≡ b → enabled_test crowd t ≡ c → not (not b && c) ≡ true
    by t h true c s e = refl
    by t h false false s e = refl
    by t h false true s e = absurd (dead t (h, s) (enabled_from crowd t e))

    go : (o : Option Move) → slice_get leaf.moves n ≡ o → not (may_take crowd o) ≡ true
    go None h = refl
    go (Some t) h = by t h (silent_move t) (enabled_test crowd t) refl refl

-- a move that is not dead
pub record IsLive (leaf : LeafModel) (crowd : List ℕ) (n : ℕ) : Type 0 where
  pub taken : Move
  pub is : IsMove leaf n taken
  pub enabled : enabled_test crowd taken ≡ true

pub live_from : (leaf : LeafModel) (crowd : List ℕ) (n : ℕ) → dead_test leaf crowd n ≡ false → IsLive leaf crowd n
live_from leaf crowd n e = go (slice_get leaf.moves n) refl e
  where
    by : (t : Move) → slice_get leaf.moves n ≡ Some t → (b c : Bool) → silent_move t ≡ b → enabled_test crowd t ≡ c → not (not b && c) ≡ false → IsLive leaf crowd n
    by t h true c s f k = cc
    by t h false false s f k = cc
    by t h false true s f k = record { taken = t; is = (h, s); enabled = f }

    go : (o : Option Move) → slice_get leaf.moves n ≡ o → not (may_take crowd o) ≡ false → IsLive leaf crowd n
    go None h k = cc
    go (Some t) h k = by t h (silent_move t) (enabled_test crowd t) refl refl k

pub all_dead : LeafModel → List ℕ → List ℕ → Bool
all_dead leaf crowd numbers = list_all (dead_test leaf crowd) numbers

pub all_dead_from : (leaf : LeafModel) (crowd numbers : List ℕ) → all_dead leaf crowd numbers ≡ true → (n : ℕ) → Contains numbers n → IsDeadIn leaf crowd n
unfolding all_dead
all_dead_from leaf crowd numbers e n c =
    dead_from leaf crowd n
    (at_contained (λ (n : ℕ). dead_test leaf crowd n ≡ true) numbers n (AllPass-from_list_all (dead_test leaf crowd) numbers e) c)

pub all_dead_to : (leaf : LeafModel) (crowd numbers : List ℕ) → ((n : ℕ) → Contains numbers n → IsDeadIn leaf crowd n) → all_dead leaf crowd numbers ≡ true
unfolding all_dead
all_dead_to leaf crowd numbers dead =
    list_all-from_AllPass (dead_test leaf crowd) numbers
    (λ k d l. dead_to leaf crowd (get_or numbers k d) (dead (get_or numbers k d) (all_in numbers k d l)))

one_fails : (test : ℕ → Bool) (xs : List ℕ) → list_all test xs ≡ false → (x : ℕ) × Contains xs x × (test x ≡ false)
one_fails test [] e = cc
one_fails test (y ∷ xs) e = go (test y) refl (one_fails test xs)
  where
    go : (b : Bool) → test y ≡ b → (list_all test xs ≡ false → (x : ℕ) × Contains xs x × (test x ≡ false)) → (x : ℕ) × Contains (y ∷ xs) x × (test x ≡ false)
    go true f more =
        let r = more (ap (λ b. b && list_all test xs) (sym f) ∙ e) in
        (r.0, has_later r.0 y xs r.1, r.2)
    go false f more = (y, has_first y xs, f)

pub one_live : (leaf : LeafModel) (crowd numbers : List ℕ) → all_dead leaf crowd numbers ≡ false → (n : ℕ) × Contains numbers n × IsLive leaf crowd n
unfolding all_dead
one_live leaf crowd numbers e =
    let r = one_fails (dead_test leaf crowd) numbers e in (r.0, r.1, live_from leaf crowd r.0 r.2)
