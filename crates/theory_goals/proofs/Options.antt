-- What two tuples can become: for each leaf the states that its moves make of theirs, in all combinations.
use Rattle.std.proofs.Common.{◌≡◌, ◌⊎◌, inl, inr, ℕ, zero, suc, pred, Bool, true, false, not, ◌&&◌, ◌==◌, List, [], ◌∷◌, ◌++◌, length, get_or, map, refl, ap, subst, arith}
use Rattle.std.specs.Prelude.{Some, slice_get, flat_map, All, Contains}
use Rattle.std.proofs.lemmas.Bool.{eq-eqb, eqb-true, not-true}
use Rattle.std.proofs.lemmas.List.Elements.{All-nil, All-cons, All-append, All-map, Contains-append_left, Contains-append_right}
use Rattle.std.proofs.lemmas.Option.{slice_get_within, slice_get-get_or, get_or_from_slice_get, same_Some}
use Rattle.pop_leaf.specs.declared.leaf.Move.{Move}
use Rattle.pop_leaf.specs.LeafModel.{LeafModel, silent_move}
use Rattle.pop_leaf.specs.NetModel.{NetModel, Tuple, IsTuple, state_of}
use Rattle.pop_leaf.specs.Step.{Follows, LeafMove, LeafChange, TupleChange}
use Rattle.pop_leaf.specs.Reaction.{reaction}
use Rattle.pop_leaf.proofs.Reactions.{and_left, and_right}
use Rattle.theory_fair.specs.StablyComputes.{Reacts}
use Rattle.theory_fair.specs.Synchronous.{LeafReacts, AllReact}
use Rattle.base_laws.proofs.Lists.{has_first, has_later, has_map}
use Rattle.theory_random.proofs.Listed.{all_flat, has_flat}

-- what the tuples of two agents can become by a change: each of these, and nothing else
pub record IsListed (net : NetModel) (Change : Tuple → Tuple → Tuple → Tuple → Type 0) (ways : Tuple → Tuple → List (Tuple × Tuple)) : Type 0 where
  pub sound : (x y : Tuple) → IsTuple net x → IsTuple net y → All (λ w. Change x y w.0 w.1) (ways x y)
  pub complete : (x y x' y' : Tuple) → IsTuple net x → IsTuple net y → Change x y x' y' → Contains (ways x y) (x', y')
  pub some : (x y : Tuple) → IsTuple net x → IsTuple net y → (w : Tuple × Tuple) × Contains (ways x y) w

-- ---- one leaf

-- the states after a move, if the test says that it is for them
if_taken : Bool → ℕ × ℕ → List (ℕ × ℕ)
if_taken true w = w ∷ []
if_taken false w = []

takes_so : ℕ → ℕ → Move → Bool
takes_so x y t = not (silent_move t) && ((x == t.p) && (y == t.q))

made_by : ℕ → ℕ → Move → List (ℕ × ℕ)
made_by x y t = if_taken (takes_so x y t) (t.r, t.s) ++ if_taken (takes_so y x t) (t.s, t.r)

moved : LeafModel → ℕ → ℕ → List (ℕ × ℕ)
moved leaf x y = flat_map (made_by x y) leaf.moves

takes_so-true : (x y : ℕ) (t : Move) → silent_move t ≡ false → x ≡ t.p → y ≡ t.q → takes_so x y t ≡ true
unfolding takes_so
takes_so-true x y t e h k = rw (e, eq-eqb x t.p h, eq-eqb y t.q k) refl

takes_so-is : (x y : ℕ) (t : Move) → takes_so x y t ≡ true → (silent_move t ≡ false) × (x ≡ t.p) × (y ≡ t.q)
unfolding takes_so
takes_so-is x y t e =
    let states = and_right (not (silent_move t)) ((x == t.p) && (y == t.q)) e in (
      not-true (silent_move t) (and_left (not (silent_move t)) ((x == t.p) && (y == t.q)) e),
      eqb-true x t.p (and_left (x == t.p) (y == t.q) states),
      eqb-true y t.q (and_right (x == t.p) (y == t.q) states),
    )

all_taken : (P : ℕ × ℕ → Type 0) (b : Bool) (w : ℕ × ℕ) → (b ≡ true → P w) → All P (if_taken b w)
unfolding if_taken
all_taken P true w h = All-cons P w [] (h refl) (All-nil P)
all_taken P false w h = All-nil P

has_taken : (b : Bool) (w : ℕ × ℕ) → b ≡ true → Contains (if_taken b w) w
unfolding if_taken
has_taken true w e = has_first w []
has_taken false w e = cc

abbrev IsMove : LeafModel → ℕ → ℕ → ℕ × ℕ → Type 0
IsMove leaf x y w = LeafMove leaf x y w.0 w.1

moved_sound : (leaf : LeafModel) (x y : ℕ) → All (IsMove leaf x y) (moved leaf x y)
unfolding moved made_by
moved_sound leaf x y =
    all_flat (IsMove leaf x y) (made_by x y) leaf.moves
    (λ k d l.
    let t = get_or leaf.moves k d in
    let there = slice_get-get_or leaf.moves k d l in
    All-append (IsMove leaf x y) (if_taken (takes_so x y t) (t.r, t.s)) (if_taken (takes_so y x t) (t.s, t.r))
    (all_taken (IsMove leaf x y) (takes_so x y t) (t.r, t.s)
    (λ e. let is = takes_so-is x y t e in record { number = k; taken = t; listed = there; non_silent = is.0; followed = inl (is.1, is.2, refl, refl) }))
    (all_taken (IsMove leaf x y) (takes_so y x t) (t.s, t.r)
    (λ e. let is = takes_so-is y x t e in record { number = k; taken = t; listed = there; non_silent = is.0; followed = inr (is.1, is.2, refl, refl) })))

moved_complete : (leaf : LeafModel) (x y x' y' : ℕ) → LeafMove leaf x y x' y' → Contains (moved leaf x y) (x', y')
unfolding moved made_by
moved_complete leaf x y x' y' m =
    has_flat (made_by x y) leaf.moves m.taken (x', y')
    (m.number, slice_get_within leaf.moves m.number m.taken m.listed, get_or_from_slice_get leaf.moves m.number m.taken m.taken m.listed)
    (go m.followed)
  where
    t : Move
    t = m.taken

    go : Follows m.taken x y x' y' ⊎ Follows m.taken y x y' x' → Contains (if_taken (takes_so x y m.taken) (m.taken.r, m.taken.s) ++ if_taken (takes_so y x m.taken) (m.taken.s, m.taken.r)) (x', y')
    go (inl f) =
        Contains-append_left (if_taken (takes_so x y m.taken) (m.taken.r, m.taken.s)) (if_taken (takes_so y x m.taken) (m.taken.s, m.taken.r)) (x', y')
        (rw (f.2, f.3) (has_taken (takes_so x y m.taken) (m.taken.r, m.taken.s) (takes_so-true x y m.taken m.non_silent f.0 f.1)))
    go (inr f) =
        Contains-append_right (if_taken (takes_so x y m.taken) (m.taken.r, m.taken.s)) (if_taken (takes_so y x m.taken) (m.taken.s, m.taken.r)) (x', y')
        (rw (f.2, f.3) (has_taken (takes_so y x m.taken) (m.taken.s, m.taken.r) (takes_so-true y x m.taken m.non_silent f.0 f.1)))

-- what a leaf's states can become: each of these, and nothing else
record IsLeafListed (LeafRel : LeafModel → ℕ → ℕ → ℕ → ℕ → Type 0) (options : LeafModel → ℕ → ℕ → List (ℕ × ℕ)) : Type 0 where
  sound : (leaf : LeafModel) (x y : ℕ) → All (λ w. LeafRel leaf x y w.0 w.1) (options leaf x y)
  complete : (leaf : LeafModel) (x y x' y' : ℕ) → LeafRel leaf x y x' y' → Contains (options leaf x y) (x', y')
  some : (leaf : LeafModel) (x y : ℕ) → (w : ℕ × ℕ) × Contains (options leaf x y) w

-- they may stay
changed : LeafModel → ℕ → ℕ → List (ℕ × ℕ)
changed leaf x y = (x, y) ∷ moved leaf x y

changes_listed : IsLeafListed LeafChange changed
unfolding changed
changes_listed = record {
  sound = λ leaf x y. All-cons (λ w. LeafChange leaf x y w.0 w.1) (x, y) (moved leaf x y) (inl (refl, refl)) (λ k d l. inr (moved_sound leaf x y k d l));
  complete = λ leaf x y x' y' c. by_change leaf x y x' y' c;
  some = λ leaf x y. ((x, y), has_first (x, y) (moved leaf x y));
}
  where
    by_change : (leaf : LeafModel) (x y x' y' : ℕ) → LeafChange leaf x y x' y' → Contains (changed leaf x y) (x', y')
    by_change leaf x y x' y' (inl stay) = rw (stay.0, stay.1) (has_first (x, y) (moved leaf x y))
    by_change leaf x y x' y' (inr m) = has_later (x', y') (x, y) (moved leaf x y) (moved_complete leaf x y x' y' m)

-- they stay if there is no move
or_stay : List (ℕ × ℕ) → ℕ × ℕ → List (ℕ × ℕ)
or_stay [] w = w ∷ []
or_stay (v ∷ vs) w = v ∷ vs

reacted : LeafModel → ℕ → ℕ → List (ℕ × ℕ)
reacted leaf x y = or_stay (moved leaf x y) (x, y)

none_in : (w : ℕ × ℕ) → Contains [] w → ⊥
none_in w c = absurd (omega (arith, c.1))

reacts_sound : (leaf : LeafModel) (x y : ℕ) (vs : List (ℕ × ℕ)) → moved leaf x y ≡ vs → All (λ w. LeafReacts leaf x y w.0 w.1) (or_stay vs (x, y))
unfolding or_stay
reacts_sound leaf x y [] e =
    All-cons (λ w. LeafReacts leaf x y w.0 w.1) (x, y) []
    (inr (refl, refl, λ u v m. none_in (u, v) (subst (λ ws. Contains ws (u, v)) e (moved_complete leaf x y u v m))))
    (All-nil (λ w. LeafReacts leaf x y w.0 w.1))
reacts_sound leaf x y (v ∷ vs) e = λ k d l. inl (subst (All (IsMove leaf x y)) e (moved_sound leaf x y) k d l)

reacts_complete : (leaf : LeafModel) (x y x' y' : ℕ) (vs : List (ℕ × ℕ)) → moved leaf x y ≡ vs → LeafReacts leaf x y x' y' → Contains (or_stay vs (x, y)) (x', y')
unfolding or_stay
reacts_complete leaf x y x' y' [] e (inl m) =
    absurd (none_in (x', y') (subst (λ ws. Contains ws (x', y')) e (moved_complete leaf x y x' y' m)))
reacts_complete leaf x y x' y' [] e (inr stay) = rw (stay.0, stay.1) (has_first (x, y) [])
reacts_complete leaf x y x' y' (v ∷ vs) e (inl m) =
    subst (λ ws. Contains ws (x', y')) e (moved_complete leaf x y x' y' m)
reacts_complete leaf x y x' y' (v ∷ vs) e (inr stay) =
    absurd (stay.2 v.0 v.1 (subst (All (IsMove leaf x y)) e (moved_sound leaf x y) 0 v (omega arith)))

reacts_some : (vs : List (ℕ × ℕ)) (w : ℕ × ℕ) → (v : ℕ × ℕ) × Contains (or_stay vs w) v
unfolding or_stay
reacts_some [] w = (w, has_first w [])
reacts_some (v ∷ vs) w = (v, has_first v vs)

reacts_listed : IsLeafListed LeafReacts reacted
unfolding reacted
reacts_listed = record {
  sound = λ leaf x y. reacts_sound leaf x y (moved leaf x y) refl;
  complete = λ leaf x y x' y' r. reacts_complete leaf x y x' y' (moved leaf x y) refl r;
  some = λ leaf x y. reacts_some (moved leaf x y) (x, y);
}

-- ---- all leaves

module _ (LeafRel : LeafModel → ℕ → ℕ → ℕ → ℕ → Type 0) (options : LeafModel → ℕ → ℕ → List (ℕ × ℕ)) (listed : IsLeafListed LeafRel options) where
  with_states : ℕ × ℕ → Tuple × Tuple → Tuple × Tuple
  with_states r rest = (r.0 ∷ rest.0, r.1 ∷ rest.1)

  ways : List LeafModel → Tuple → Tuple → List (Tuple × Tuple)
  ways [] x y = ([], []) ∷ []
  ways (leaf ∷ leaves) [] y = []
  ways (leaf ∷ leaves) (p ∷ x) [] = []
  ways (leaf ∷ leaves) (p ∷ x) (q ∷ y) = flat_map (λ r. map (with_states r) (ways leaves x y)) (options leaf p q)

  abbrev Each : List LeafModel → Tuple → Tuple → Tuple → Tuple → Type 0
  Each leaves x y x' y' =
      (i : ℕ) (leaf : LeafModel) → slice_get leaves i ≡ Some leaf → LeafRel leaf (state_of x i) (state_of y i) (state_of x' i) (state_of y' i)

  abbrev IsWay : List LeafModel → Tuple → Tuple → Tuple × Tuple → Type 0
  IsWay leaves x y w = (length w.0 ≡ length leaves) × (length w.1 ≡ length leaves) × Each leaves x y w.0 w.1

  first_and_rest : (leaf : LeafModel) (leaves : List LeafModel) (p q : ℕ) (x y : Tuple) (r : ℕ × ℕ) (rest : Tuple × Tuple) → LeafRel leaf p q r.0 r.1 → IsWay leaves x y rest → IsWay (leaf ∷ leaves) (p ∷ x) (q ∷ y) (with_states r rest)
  unfolding with_states
  first_and_rest leaf leaves p q x y r rest first way = (ap suc way.0, ap suc way.1, λ i l h. at i l h)
    where
      at : (i : ℕ) (l : LeafModel) → slice_get (leaf ∷ leaves) i ≡ Some l → LeafRel l (state_of (p ∷ x) i) (state_of (q ∷ y) i) (state_of (r.0 ∷ rest.0) i) (state_of (r.1 ∷ rest.1) i)
      at zero l h = subst (λ z. LeafRel z p q r.0 r.1) (same_Some leaf l h) first
      at (suc i) l h = way.2 i l h

  ways_sound : (leaves : List LeafModel) (x y : Tuple) → All (IsWay leaves x y) (ways leaves x y)
  unfolding ways
  ways_sound [] x y = All-cons (IsWay [] x y) ([], []) [] (refl, refl, λ i l h. cc) (All-nil (IsWay [] x y))
  ways_sound (leaf ∷ leaves) [] y = All-nil (IsWay (leaf ∷ leaves) [] y)
  ways_sound (leaf ∷ leaves) (p ∷ x) [] = All-nil (IsWay (leaf ∷ leaves) (p ∷ x) [])
  ways_sound (leaf ∷ leaves) (p ∷ x) (q ∷ y) =
      let rest = ways_sound leaves x y in
      all_flat (IsWay (leaf ∷ leaves) (p ∷ x) (q ∷ y)) (λ r. map (with_states r) (ways leaves x y)) (options leaf p q)
      (λ k d l. All-map (IsWay (leaf ∷ leaves) (p ∷ x) (q ∷ y)) (with_states (get_or (options leaf p q) k d)) (ways leaves x y)
      (λ i e m. first_and_rest leaf leaves p q x y (get_or (options leaf p q) k d) (get_or (ways leaves x y) i e) (listed.sound leaf p q k d l) (rest i e m)))

  ways_complete : (leaves : List LeafModel) (x y x' y' : Tuple) → length x ≡ length leaves → length y ≡ length leaves → length x' ≡ length leaves → length y' ≡ length leaves → Each leaves x y x' y' → Contains (ways leaves x y) (x', y')
  unfolding ways with_states
  ways_complete [] x y [] [] hx hy hx' hy' each = has_first ([], []) []
  ways_complete [] x y (r ∷ x') y' hx hy hx' hy' each = absurd (omega (arith, hx'))
  ways_complete [] x y [] (s ∷ y') hx hy hx' hy' each = absurd (omega (arith, hy'))
  ways_complete (leaf ∷ leaves) [] y x' y' hx hy hx' hy' each = absurd (omega (arith, hx))
  ways_complete (leaf ∷ leaves) (p ∷ x) [] x' y' hx hy hx' hy' each = absurd (omega (arith, hy))
  ways_complete (leaf ∷ leaves) (p ∷ x) (q ∷ y) [] y' hx hy hx' hy' each = absurd (omega (arith, hx'))
  ways_complete (leaf ∷ leaves) (p ∷ x) (q ∷ y) (r ∷ x') [] hx hy hx' hy' each = absurd (omega (arith, hy'))
  ways_complete (leaf ∷ leaves) (p ∷ x) (q ∷ y) (r ∷ x') (s ∷ y') hx hy hx' hy' each =
      has_flat (λ r. map (with_states r) (ways leaves x y)) (options leaf p q) (r, s) (r ∷ x', s ∷ y')
      (listed.complete leaf p q r s (each 0 leaf refl))
      (has_map (with_states (r, s)) (ways leaves x y) (x', y')
      (ways_complete leaves x y x' y' (ap pred hx) (ap pred hy) (ap pred hx') (ap pred hy') (λ i l h. each (suc i) l h)))

  ways_some : (leaves : List LeafModel) (x y : Tuple) → length x ≡ length leaves → length y ≡ length leaves → (w : Tuple × Tuple) × Contains (ways leaves x y) w
  unfolding ways
  ways_some [] x y hx hy = (([], []), has_first ([], []) [])
  ways_some (leaf ∷ leaves) [] y hx hy = absurd (omega (arith, hx))
  ways_some (leaf ∷ leaves) (p ∷ x) [] hx hy = absurd (omega (arith, hy))
  ways_some (leaf ∷ leaves) (p ∷ x) (q ∷ y) hx hy =
      let r = listed.some leaf p q in
      let rest = ways_some leaves x y (ap pred hx) (ap pred hy) in
      (with_states r.0 rest.0, has_flat (λ r. map (with_states r) (ways leaves x y)) (options leaf p q) r.0 (with_states r.0 rest.0) r.1 (has_map (with_states r.0) (ways leaves x y) rest.0 rest.1))

-- ---- the three kinds of steps

pub step_ways : NetModel → Tuple → Tuple → List (Tuple × Tuple)
step_ways net x y = ways LeafChange changed changes_listed net.leaves x y

pub steps_listed : (net : NetModel) → IsListed net (TupleChange net) (step_ways net)
unfolding step_ways
steps_listed net =
    record {
      sound = λ x y hx hy k d l.
          let w = ways_sound LeafChange changed changes_listed net.leaves x y k d l in
          record { first = w.0; second = w.1; each = w.2 };
      complete = λ x y x' y' hx hy c. ways_complete LeafChange changed changes_listed net.leaves x y x' y' hx hy c.first c.second c.each;
      some = λ x y hx hy. ways_some LeafChange changed changes_listed net.leaves x y hx hy;
    }

pub synchronous_ways : NetModel → Tuple → Tuple → List (Tuple × Tuple)
synchronous_ways net x y = ways LeafReacts reacted reacts_listed net.leaves x y

pub synchronous_listed : (net : NetModel) → IsListed net (AllReact net) (synchronous_ways net)
unfolding synchronous_ways
synchronous_listed net =
    record {
      sound = λ x y hx hy k d l.
          let w = ways_sound LeafReacts reacted reacts_listed net.leaves x y k d l in
          record { first = w.0; second = w.1; each = w.2 };
      complete = λ x y x' y' hx hy c. ways_complete LeafReacts reacted reacts_listed net.leaves x y x' y' hx hy c.first c.second c.each;
      some = λ x y hx hy. ways_some LeafReacts reacted reacts_listed net.leaves x y hx hy;
    }

pub meeting_ways : NetModel → Tuple → Tuple → List (Tuple × Tuple)
meeting_ways net x y = reaction net x y ∷ []

pub meetings_listed : (net : NetModel) → IsListed net (Reacts net) (meeting_ways net)
unfolding meeting_ways
meetings_listed net =
    record {
      sound = λ x y hx hy. All-cons (λ w. Reacts net x y w.0 w.1) (reaction net x y) [] (refl, refl) (All-nil (λ w. Reacts net x y w.0 w.1));
      complete = λ x y x' y' hx hy c. subst (λ w. Contains (reaction net x y ∷ []) w) (let same : reaction net x y ≡ (x', y') = cc in same) (has_first (reaction net x y) []);
      some = λ x y hx hy. (reaction net x y, has_first (reaction net x y) []);
    }
