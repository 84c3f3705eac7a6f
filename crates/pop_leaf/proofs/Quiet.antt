-- A crowd is terminal if a test of all pairs of its agents finds no move.
use Rattle.std.proofs.Common.{◌≡◌, ◌≢◌, ◌⊎◌, inl, inr, ℕ, zero, suc, pred, ◌<◌, Bool, true, false, cond, ◌&&◌, List, [], ◌∷◌, length, get_or, refl, ap, sym, ◌∙◌, arith}
use Rattle.std.specs.Prelude.{Some, find, slice_get, slice_set, is_none, ◌==◌, All}
use Rattle.std.specs.List.{list_all}
use Rattle.std.proofs.lemmas.Bool.{eq-eqb, eqb-true}
use Rattle.std.proofs.lemmas.List.{set-get_or}
use Rattle.std.proofs.lemmas.List.Elements.{All-nil, All-cons, All-get_or}
use Rattle.std.proofs.lemmas.Option.{get_or_from_slice_get, slice_get-get_or, slice_get_within}
use Rattle.std.proofs.Math.Bool.{or-true}
use Rattle.pop_leaf.specs.declared.leaf.Move.{Move}
use Rattle.pop_leaf.specs.LeafModel.{LeafModel, silent_move, same_pair}
use Rattle.pop_leaf.specs.NetModel.{NetModel, Tuple, CrowdModel, IsTuple, state_of}
use Rattle.pop_leaf.specs.Step.{Follows, LeafChange, TupleChange, Step}
use Rattle.pop_leaf.specs.Terminal.{IsTerminal}
use Rattle.pop_leaf.specs.Reaction.{takes_states}
use Rattle.pop_leaf.proofs.Reactions.{and_left, and_right}

-- a leaf without states
abbrev pub nothing : LeafModel
nothing = record { states = []; moves = []; inputs = []; outputs = []; helpers = [] }

-- no non-silent move of the leaf takes x and y
abbrev pub leaf_quiet : LeafModel → ℕ → ℕ → Bool
leaf_quiet leaf x y = is_none (find (takes_states x y) leaf.moves)

abbrev pub leaves_quiet : List LeafModel → Tuple → Tuple → Bool
leaves_quiet [] x y = true
leaves_quiet (leaf ∷ leaves) [] y = true
leaves_quiet (leaf ∷ leaves) (p ∷ x) [] = true
leaves_quiet (leaf ∷ leaves) (p ∷ x) (q ∷ y) = leaf_quiet leaf p q && leaves_quiet leaves x y

-- no two agents can change
abbrev pub crowd_quiet : NetModel → CrowdModel → Bool
crowd_quiet net [] = true
crowd_quiet net (x ∷ crowd) = list_all (λ y. leaves_quiet net.leaves x y && leaves_quiet net.leaves y x) crowd && crowd_quiet net crowd

same_pair-same : (x y u v : ℕ) → x ≡ u → y ≡ v → same_pair x y u v ≡ true
same_pair-same x y u v e f = rw (eq-eqb x u e, eq-eqb y v f) refl

same_pair-swapped : (x y u v : ℕ) → x ≡ v → y ≡ u → same_pair x y u v ≡ true
same_pair-swapped x y u v e f = rw (eq-eqb x v e, eq-eqb y u f) (or-true _)

takes_followed : (x y x' y' : ℕ) (t : Move) → silent_move t ≡ false → Follows t x y x' y' ⊎ Follows t y x y' x' → takes_states x y t ≡ true
takes_followed x y x' y' t e (inl f) = rw (e, same_pair-same x y t.p t.q f.0 f.1) refl
takes_followed x y x' y' t e (inr f) = rw (e, same_pair-swapped x y t.p t.q f.1 f.0) refl

is_none-find : {X : Type 0} (p : X → Bool) (xs : List X) (i : ℕ) (t : X) → slice_get xs i ≡ Some t → p t ≡ true → is_none (find p xs) ≡ false
is_none-find p [] i t h e = cc
is_none-find p (x ∷ xs) zero t h e = let same : x ≡ t = cc in rw (same, e) refl
is_none-find p (x ∷ xs) (suc i) t h e = found_later (p x) (is_none-find p xs i t h e)
  where
    found_later : (b : Bool) → is_none (find p xs) ≡ false → is_none (cond b (Some x) (find p xs)) ≡ false
    found_later true h = refl
    found_later false h = h

quiet_stays : (leaf : LeafModel) (x y x' y' : ℕ) → leaf_quiet leaf x y ≡ true → LeafChange leaf x y x' y' → (x' ≡ x) × (y' ≡ y)
quiet_stays leaf x y x' y' h (inl stay) = stay
quiet_stays leaf x y x' y' h (inr m) =
    let e = is_none-find (takes_states x y) leaf.moves m.number m.taken m.listed (takes_followed x y x' y' m.taken m.non_silent m.followed) in
    absurd (let f : true ≡ false = sym h ∙ e in cc)

quiet_at : (leaves : List LeafModel) (x y : Tuple) (i : ℕ) (leaf : LeafModel) → length x ≡ length leaves → length y ≡ length leaves → slice_get leaves i ≡ Some leaf → leaves_quiet leaves x y ≡ true → leaf_quiet leaf (state_of x i) (state_of y i) ≡ true
quiet_at [] x y i leaf hx hy h q = cc
quiet_at (l ∷ leaves) [] y i leaf hx hy h q = cc
quiet_at (l ∷ leaves) (p ∷ x) [] i leaf hx hy h q = cc
quiet_at (l ∷ leaves) (p ∷ x) (r ∷ y) zero leaf hx hy h q =
    let same : l ≡ leaf = cc in rw (← same) (and_left _ _ q)
quiet_at (l ∷ leaves) (p ∷ x) (r ∷ y) (suc i) leaf hx hy h q =
    quiet_at leaves x y i leaf (ap pred hx) (ap pred hy) h (and_right (leaf_quiet l p r) _ q)

-- tuples with the same states are the same
pub same_tuple : (x y : Tuple) → length x ≡ length y → ((i : ℕ) → i < length x → state_of x i ≡ state_of y i) → x ≡ y
same_tuple [] [] h e = refl
same_tuple [] (q ∷ y) h e = cc
same_tuple (p ∷ x) [] h e = cc
same_tuple (p ∷ x) (q ∷ y) h e =
    let head : p ≡ q = e 0 (omega arith) in
    let tail : x ≡ y = same_tuple x y (ap pred h) (λ i l. e (suc i) (omega arith)) in
    cc

pub quiet_change : (net : NetModel) (x y x' y' : Tuple) → IsTuple net x → IsTuple net y → leaves_quiet net.leaves x y ≡ true → TupleChange net x y x' y' → (x' ≡ x) × (y' ≡ y)
quiet_change net x y x' y' hx hy q c = (
  same_tuple x' x (c.first ∙ sym hx) (λ i l. (stays i (let k : i < length net.leaves = omega (arith, c.first) in k)).0),
  same_tuple y' y (c.second ∙ sym hy) (λ i l. (stays i (let k : i < length net.leaves = omega (arith, c.second) in k)).1),
)
  where
    stays : (i : ℕ) → i < length net.leaves → (state_of x' i ≡ state_of x i) × (state_of y' i ≡ state_of y i)
    stays i l =
        let leaf = get_or net.leaves i nothing in
        let h = slice_get-get_or net.leaves i nothing l in
        quiet_stays leaf _ _ _ _ (quiet_at net.leaves x y i leaf hx hy h q) (c.each i leaf h)

all_quiet : (p : Tuple → Bool) (crowd : CrowdModel) (b : ℕ) (y : Tuple) → list_all p crowd ≡ true → slice_get crowd b ≡ Some y → p y ≡ true
all_quiet p [] b y q h = cc
all_quiet p (x ∷ crowd) zero y q h = let same : x ≡ y = cc in rw (← same) (and_left _ _ q)
all_quiet p (x ∷ crowd) (suc b) y q h = all_quiet p crowd b y (and_right (p x) _ q) h

quiet_pair : (net : NetModel) (crowd : CrowdModel) (a b : ℕ) (x y : Tuple) → crowd_quiet net crowd ≡ true → a ≢ b → slice_get crowd a ≡ Some x → slice_get crowd b ≡ Some y → leaves_quiet net.leaves x y ≡ true
quiet_pair net [] a b x y q ne ha hb = cc
quiet_pair net (z ∷ crowd) zero zero x y q ne ha hb = absurd (ne refl)
quiet_pair net (z ∷ crowd) zero (suc b) x y q ne ha hb =
    let same : z ≡ x = cc in
    rw (← same) (and_left _ _ (all_quiet (λ y. leaves_quiet net.leaves z y && leaves_quiet net.leaves y z) crowd b y (and_left _ _ q) hb))
quiet_pair net (z ∷ crowd) (suc a) zero x y q ne ha hb =
    let same : z ≡ y = cc in
    rw (← same) (and_right (leaves_quiet net.leaves z x) _ (all_quiet (λ y. leaves_quiet net.leaves z y && leaves_quiet net.leaves y z) crowd a x (and_left _ _ q) ha))
quiet_pair net (z ∷ crowd) (suc a) (suc b) x y q ne ha hb =
    quiet_pair net crowd a b x y (and_right (list_all (λ y. leaves_quiet net.leaves z y && leaves_quiet net.leaves y z) crowd) _ q) (λ e. ne (ap suc e)) ha hb

-- agents that are written back unchanged change nothing
pub set_same : {A : Type 0} (xs : List A) (i : ℕ) (x : A) → slice_get xs i ≡ Some x → slice_set xs i x ≡ xs
set_same xs i x h = ap (slice_set xs i) (sym (get_or_from_slice_get xs i x x h)) ∙ set-get_or xs i x

-- what all elements satisfy, each element found satisfies
pub All-slice_get : {X : Type 0} (P : X → Type 0) (xs : List X) (i : ℕ) (x : X) → All P xs → slice_get xs i ≡ Some x → P x
All-slice_get P xs i x all h =
    rw (← get_or_from_slice_get xs i x x h) (All-get_or P xs i x (slice_get_within xs i x h) all)

pub crowd_quiet-terminal : (net : NetModel) (crowd : CrowdModel) → All (IsTuple net) crowd → crowd_quiet net crowd ≡ true → IsTerminal (Step net) crowd
crowd_quiet-terminal net crowd tuples q e s =
    let stay = quiet_change net s.x s.y s.x' s.y' (All-slice_get (IsTuple net) crowd s.a s.x tuples s.a_had) (All-slice_get (IsTuple net) crowd s.b s.y tuples s.b_had) (quiet_pair net crowd s.a s.b s.x s.y q s.different s.a_had s.b_had) s.change in
    s.others_stay
    ∙ ap (λ x. slice_set (slice_set crowd s.a x) s.b s.y') stay.0
    ∙ ap (λ y. slice_set (slice_set crowd s.a s.x) s.b y) stay.1
    ∙ ap (λ c. slice_set c s.b s.y) (set_same crowd s.a s.x s.a_had)
    ∙ set_same crowd s.b s.y s.b_had

all_tuples : (net : NetModel) (crowd : CrowdModel) → list_all (λ x. length x == length net.leaves) crowd ≡ true → All (IsTuple net) crowd
all_tuples net [] q = All-nil (IsTuple net)
all_tuples net (y ∷ crowd) q =
    All-cons (IsTuple net) y crowd (eqb-true _ _ (and_left _ _ q)) (all_tuples net crowd (and_right (length y == length net.leaves) _ q))

-- whether every tuple has one state per leaf, and no two agents can change
abbrev pub is_ended : NetModel → CrowdModel → Bool
is_ended net crowd = list_all (λ x. length x == length net.leaves) crowd && crowd_quiet net crowd

pub is_ended-terminal : (net : NetModel) (crowd : CrowdModel) → is_ended net crowd ≡ true → IsTerminal (Step net) crowd
is_ended-terminal net crowd q =
    crowd_quiet-terminal net crowd (all_tuples net crowd (and_left _ _ q)) (and_right (list_all (λ x. length x == length net.leaves) crowd) _ q)
