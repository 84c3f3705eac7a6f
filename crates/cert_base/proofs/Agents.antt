-- If the states that a move takes are present, two different agents can take it.
use Rattle.std.proofs.Common.{◌≡◌, ◌≢◌, inl, inr, ℕ, suc, ◌+◌, ◌<◌, ◌≤◌, Bool, true, false, ◌&&◌, List, [], ◌∷◌, length, refl, ap, sym, ◌∙◌, arith}
use Rattle.std.specs.Prelude.{Some, slice_get, slice_set, nat_le, ◌==◌, All}
use Rattle.std.proofs.lemmas.Bool.{eq-eqb, le-leb, leb-true, and_from}
use Rattle.std.proofs.lemmas.Bool.Decides.{eqb_tells}
use Rattle.std.proofs.lemmas.List.Elements.{All-set}
use Rattle.pop_leaf.specs.declared.leaf.Move.{Move}
use Rattle.pop_leaf.specs.LeafModel.{LeafModel, IsLeaf, IsMoveBelow, one_at, silent_move}
use Rattle.pop_leaf.specs.Step.{LeafMove, LeafStep}
use Rattle.pop_leaf.proofs.Quiet.{All-slice_get}
use Rattle.pop_leaf.proofs.Reactions.{and_left, and_right}
use Rattle.cert_base.proofs.Numbers.{number_in}
use Rattle.cert_base.proofs.Dead.{IsEnabledIn, number_in-cons}
use Rattle.base_laws.proofs.Numbers.{Tells}

-- an agent in a state
abbrev pub Agent : List ℕ → ℕ → Type 0
Agent crowd p = (a : ℕ) × (slice_get crowd a ≡ Some p)

one_agent_step : (q p : ℕ) (crowd : List ℕ) → 1 ≤ one_at q p + number_in p crowd → (1 ≤ number_in p crowd → Agent crowd p) → Tells q p → Agent (q ∷ crowd) p
one_agent_step q p crowd l more (inl h) = (0, ap Some h.1)
one_agent_step q p crowd l more (inr h) =
    let none : one_at q p ≡ 0 = rw h.0 refl in let m = more (omega (arith, l, none)) in (suc m.0, m.1)

pub one_agent : (p : ℕ) (crowd : List ℕ) → 1 ≤ number_in p crowd → Agent crowd p
one_agent p [] l = absurd (omega arith)
one_agent p (q ∷ crowd) l =
    let l' : 1 ≤ one_at q p + number_in p crowd = omega (arith, l, number_in-cons p q crowd) in
    one_agent_step q p crowd l' (one_agent p crowd) (eqb_tells q p)

-- two different agents in two states
abbrev pub Agents : List ℕ → ℕ → ℕ → Type 0
Agents crowd p q = (a b : ℕ) × (a ≢ b) × (slice_get crowd a ≡ Some p) × (slice_get crowd b ≡ Some q)

two_agents_step : (q p : ℕ) (crowd : List ℕ) → 2 ≤ one_at q p + number_in p crowd → (2 ≤ number_in p crowd → Agents crowd p p) → Tells q p → Agents (q ∷ crowd) p p
two_agents_step q p crowd l more (inl h) =
    let here : one_at q p ≡ 1 = rw h.0 refl in
    let b = one_agent p crowd (omega (arith, l, here)) in
    (0, suc b.0, (λ e. omega (arith, e)), ap Some h.1, b.1)
two_agents_step q p crowd l more (inr h) =
    let none : one_at q p ≡ 0 = rw h.0 refl in
    let m = more (omega (arith, l, none)) in
    (suc m.0, suc m.1, (λ e. m.2 (omega (arith, e))), m.3, m.4)

two_agents_in : (p : ℕ) (crowd : List ℕ) → 2 ≤ number_in p crowd → Agents crowd p p
two_agents_in p [] l = absurd (omega arith)
two_agents_in p (q ∷ crowd) l =
    let l' : 2 ≤ one_at q p + number_in p crowd = omega (arith, l, number_in-cons p q crowd) in
    two_agents_step q p crowd l' (two_agents_in p crowd) (eqb_tells q p)

-- whether the states p and q are present, with two agents if they are the same
abbrev pub pair_test : Bool → List ℕ → ℕ → ℕ → Bool
pair_test true crowd p q = nat_le 2 (number_in p crowd)
pair_test false crowd p q = nat_le 1 (number_in p crowd) && nat_le 1 (number_in q crowd)

abbrev pub enabled_test : List ℕ → Move → Bool
enabled_test crowd t = pair_test (t.p == t.q) crowd t.p t.q

differ_at : (crowd : List ℕ) (p q a b : ℕ) → p ≢ q → slice_get crowd a ≡ Some p → slice_get crowd b ≡ Some q → a ≢ b
differ_at crowd p q a b ne ha hb e =
    let hb' : slice_get crowd a ≡ Some q = rw e hb in ne (let same : p ≡ q = cc in same)

agents_by : (crowd : List ℕ) (p q : ℕ) → Tells p q → pair_test (p == q) crowd p q ≡ true → Agents crowd p q
agents_by crowd p q (inl h) e =
    let e' : pair_test true crowd p q ≡ true = ap (λ b. pair_test b crowd p q) (sym h.0) ∙ e in
    let m = two_agents_in p crowd (leb-true 2 (number_in p crowd) e') in
    (m.0, m.1, m.2, m.3, m.4 ∙ ap Some h.1)
agents_by crowd p q (inr h) e =
    let e' : pair_test false crowd p q ≡ true = ap (λ b. pair_test b crowd p q) (sym h.0) ∙ e in
    let a = one_agent p crowd (leb-true 1 (number_in p crowd) (and_left _ _ e')) in
    let b = one_agent q crowd (leb-true 1 (number_in q crowd) (and_right (nat_le 1 (number_in p crowd)) _ e')) in
    (a.0, b.0, differ_at crowd p q a.0 b.0 h.1 a.1 b.1, a.1, b.1)

pub agents_of : (crowd : List ℕ) (t : Move) → enabled_test crowd t ≡ true → Agents crowd t.p t.q
agents_of crowd t e = agents_by crowd t.p t.q (eqb_tells t.p t.q) e

test_by : (crowd : List ℕ) (t : Move) → Tells t.p t.q → IsEnabledIn crowd t → enabled_test crowd t ≡ true
test_by crowd t (inl h) enabled =
    let at_p : one_at t.p t.p ≡ 1 = rw (eq-eqb t.p t.p refl) refl in
    let at_q : one_at t.q t.p ≡ 1 = rw (eq-eqb t.q t.p (sym h.1)) refl in
    ap (λ b. pair_test b crowd t.p t.q) h.0 ∙ le-leb 2 (number_in t.p crowd) (omega (arith, enabled t.p, at_p, at_q))
test_by crowd t (inr h) enabled =
    let at_p : one_at t.p t.p ≡ 1 = rw (eq-eqb t.p t.p refl) refl in
    let at_q : one_at t.q t.q ≡ 1 = rw (eq-eqb t.q t.q refl) refl in
    ap (λ b. pair_test b crowd t.p t.q) h.0
    ∙ and_from _ _ (le-leb 1 (number_in t.p crowd) (omega (arith, enabled t.p, at_p))) (le-leb 1 (number_in t.q crowd) (omega (arith, enabled t.q, at_q)))

pub enabled_test-true : (crowd : List ℕ) (t : Move) → IsEnabledIn crowd t → enabled_test crowd t ≡ true
enabled_test-true crowd t enabled = test_by crowd t (eqb_tells t.p t.q) enabled

abbrev pub move_change : (leaf : LeafModel) (n : ℕ) (t : Move) → slice_get leaf.moves n ≡ Some t → silent_move t ≡ false → LeafMove leaf t.p t.q t.r t.s
move_change leaf n t m s = record {
  number = n;
  taken = t;
  listed = m;
  non_silent = s;
  followed = inl (refl, refl, refl, refl);
}

-- the step of two agents that take a move
abbrev pub move_step : (leaf : LeafModel) (crowd : List ℕ) (n : ℕ) (t : Move) (a b : ℕ) → slice_get leaf.moves n ≡ Some t → silent_move t ≡ false → a ≢ b → slice_get crowd a ≡ Some t.p → slice_get crowd b ≡ Some t.q → LeafStep leaf crowd (slice_set (slice_set crowd a t.r) b t.s)
move_step leaf crowd n t a b m s ne ha hb =
    record {
      a = a;
      b = b;
      different = ne;
      x = t.p;
      y = t.q;
      x' = t.r;
      y' = t.s;
      a_had = ha;
      b_had = hb;
      change = inr (move_change leaf n t m s);
      others_stay = refl;
    }

-- each agent has a state of the leaf
abbrev pub InRange : LeafModel → List ℕ → Type 0
InRange leaf crowd = All (λ q. q < length leaf.states) crowd

pub move_in_range : (leaf : LeafModel) (crowd : List ℕ) (n : ℕ) (t : Move) (a b : ℕ) → IsLeaf leaf → slice_get leaf.moves n ≡ Some t → InRange leaf crowd → InRange leaf (slice_set (slice_set crowd a t.r) b t.s)
move_in_range leaf crowd n t a b is m range =
    let below = All-slice_get (IsMoveBelow (length leaf.states)) leaf.moves n t is.moves m in
    All-set (λ (q : ℕ). q < length leaf.states) (slice_set crowd a t.r) b t.s below.3 (All-set (λ (q : ℕ). q < length leaf.states) crowd a t.r below.2 range)
