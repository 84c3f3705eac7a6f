-- Flow equations: the number of agents in a state at the end of an execution, from the number at its start and from how
-- often each move was taken.
use Rattle.std.proofs.Common.{◌≡◌, inl, inr, ℕ, zero, suc, ◌+◌, ◌*◌, ◌<◌, List, [], ◌∷◌, refl, ap, sym, zero-add, arith}
use Rattle.std.specs.Prelude.{Some, slice_get}
use Rattle.std.proofs.Math.Nat.{add-mul, one-mul, zero-mul}
use Rattle.std.proofs.lemmas.Bool.{eq-eqb}
use Rattle.std.proofs.lemmas.Bool.Decides.{eqb_tells}
use Rattle.pop_leaf.specs.declared.leaf.Move.{Move}
use Rattle.pop_leaf.specs.LeafModel.{LeafModel, one_at, times_in_pair, pre, post}
use Rattle.pop_leaf.specs.Step.{LeafChange, LeafStep}
use Rattle.pop_leaf.specs.Reachable.{Leads}
use Rattle.cert_base.specs.Valuation.{is_by, times_taken}
use Rattle.cert_base.proofs.Numbers.{number_in, number_in-meets, before_pre, after_post}

-- the sum, over the moves from number i on, of how often each was taken times f of the move
abbrev pub sum_times : (ℕ → ℕ) → (Move → ℕ) → ℕ → List Move → ℕ
sum_times taken f i [] = 0
sum_times taken f i (t ∷ moves) = taken i * f t + sum_times taken f (i + 1) moves

sum_times-past : (taken : ℕ → ℕ) (f : Move → ℕ) (n i : ℕ) (moves : List Move) → n < i → sum_times (λ k. one_at n k + taken k) f i moves ≡ sum_times taken f i moves
sum_times-past taken f n i [] l = refl
sum_times-past taken f n i (t ∷ moves) l = rw (apart n i l) (rw (zero-add (taken i), sum_times-past taken f n (i + 1) moves (omega arith)) refl)
  where
    apart : (n i : ℕ) → n < i → one_at n i ≡ 0
    apart n i l = elim (eqb_tells n i) [ inl h ↦ absurd (omega (arith, h.1)) | inr h ↦ rw h.0 refl ]

sum_times-taken : (taken : ℕ → ℕ) (f : Move → ℕ) (n i k : ℕ) (moves : List Move) (t : Move) → n ≡ i + k → slice_get moves k ≡ Some t → sum_times (λ k. one_at n k + taken k) f i moves ≡ f t + sum_times taken f i moves
sum_times-taken taken f n i k [] t e h = cc
sum_times-taken taken f n i zero (u ∷ moves) t e h =
    let same : u ≡ t = cc in
    let here : one_at n i ≡ 1 = rw (eq-eqb n i (omega arith)) refl in
    let past = sum_times-past taken f n (i + 1) moves (omega arith) in
    rw (here, past, add-mul 1 (taken i) (f u), one-mul (f u), same) (omega arith)
sum_times-taken taken f n i (suc k) (u ∷ moves) t e h =
    let here : one_at n i ≡ 0 = apart n i (omega arith) in
    let more = sum_times-taken taken f n (i + 1) k moves t (omega arith) h in
    rw (here, zero-add (taken i), more) (omega arith)
  where
    apart : (n i : ℕ) → i < n → one_at n i ≡ 0
    apart n i l = elim (eqb_tells n i) [ inl h ↦ absurd (omega (arith, h.1)) | inr h ↦ rw h.0 refl ]

-- what the moves of an execution bring to a state, or take from it
abbrev pub sum_on_way : (leaf : LeafModel) → (Move → ℕ) → (start : List ℕ) (path : List (List ℕ)) (end : List ℕ) → Leads (LeafStep leaf) start path end → ℕ
sum_on_way leaf f start path end way = sum_times (λ t. times_taken leaf t start path end way) f 0 leaf.moves

sum_times-none : (f : Move → ℕ) (i : ℕ) (moves : List Move) → sum_times (λ t. 0) f i moves ≡ 0
sum_times-none f i [] = refl
sum_times-none f i (t ∷ moves) = rw (zero-mul (f t), sum_times-none f (i + 1) moves) refl

-- one step's change, split by what it is
change_flow : (leaf : LeafModel) (z x y x' y' : ℕ) (c : LeafChange leaf x y x' y') (taken : ℕ → ℕ) (before after end : ℕ) → after + times_in_pair x y z ≡ before + times_in_pair x' y' z → end + sum_times taken (λ t. pre t z) 0 leaf.moves ≡ after + sum_times taken (λ t. post t z) 0 leaf.moves → end + sum_times (λ t. is_by t c + taken t) (λ t. pre t z) 0 leaf.moves ≡ before + sum_times (λ t. is_by t c + taken t) (λ t. post t z) 0 leaf.moves
change_flow leaf z x y x' y' (inl stay) taken before after end e f =
    let same : after ≡ before = omega (arith, e, ap (λ v. times_in_pair v y' z) stay.0, ap (λ v. times_in_pair x v z) stay.1) in
    let plain : ◌≡◌ {A = ℕ → ℕ} (λ t. 0 + taken t) taken = λ i t. zero-add (taken t) i in
    rw plain (omega (arith, same, f))
change_flow leaf z x y x' y' (inr m) taken before after end e f =
    let p = sum_times-taken taken (λ t. pre t z) m.number 0 m.number leaf.moves m.taken (sym (zero-add m.number)) m.listed in
    let q = sum_times-taken taken (λ t. post t z) m.number 0 m.number leaf.moves m.taken (sym (zero-add m.number)) m.listed in
    let b = before_pre m.taken x y x' y' z m.followed in
    let a = after_post m.taken x y x' y' z m.followed in
    rw (p, q) (omega (arith, e, f, a, b))

-- the flow equation of state z
pub flow_of_way : (leaf : LeafModel) (z : ℕ) (start : List ℕ) (path : List (List ℕ)) (end : List ℕ) (way : Leads (LeafStep leaf) start path end) → number_in z end + sum_on_way leaf (λ t. pre t z) start path end way ≡ number_in z start + sum_on_way leaf (λ t. post t z) start path end way
flow_of_way leaf z start [] end way =
    rw (way, sum_times-none (λ t. pre t z) 0 leaf.moves, sum_times-none (λ t. post t z) 0 leaf.moves) refl
flow_of_way leaf z start (next ∷ path) end way =
    change_flow leaf z way.0.x way.0.y way.0.x' way.0.y' way.0.change (λ t. times_taken leaf t next path end way.1)
    (number_in z start) (number_in z next) (number_in z end)
    (number_in-meets leaf z start next way.0)
    (flow_of_way leaf z next path end way.1)
