-- Groups of agents by their states, and what a move makes of them.
use Rattle.std.proofs.Common.{◌≡◌, ◌≢◌, ◌⊎◌, inl, inr, ℕ, zero, suc, ◌<◌, ◌≤◌, Bool, true, false, ◌&&◌, List, [], ◌∷◌, ◌++◌, length, refl, ap, sym, subst, ◌∙◌, arith}
use Rattle.std.specs.Prelude.{Some, ◌==◌, ◌↔◌, if◌then◌else◌, slice_get, slice_set}
use Rattle.std.specs.BTreeSet.{BTreeSet}
use Rattle.std.proofs.lemmas.Bool.{eq-eqb, both_ways}
use Rattle.std.proofs.lemmas.Bool.Decides.{eqb_tells}
use Rattle.std.proofs.lemmas.List.{set-set, set_comm}
use Rattle.std.proofs.lemmas.Option.{slice_get_within, same_Some}
use Rattle.pop_leaf.specs.declared.leaf.Move.{Move}
use Rattle.pop_leaf.specs.LeafModel.{silent_move}
use Rattle.pop_settle.specs.Settlement.{CanMake, Then}
use Rattle.pop_settle.specs.Groups.{holds, AreAlike, AreGroups, IsEmptyGroup, IsLeastOf, Changes, Puts, Takes, IsLeastPairFor, states_after_move}
use Rattle.base_laws.proofs.Lists.{slice_get-set_same, slice_get-set_apart}
use Rattle.pop_leaf.proofs.Quiet.{set_same}

-- what Changes says at the changed place, and elsewhere
at_change : (there : Bool) (g : List (BTreeSet ℕ)) (q a : ℕ) (after : List (BTreeSet ℕ)) → Changes there g q a after → holds after q a ≡ there
at_change there g q a after c = c q a ∙ (rw (eq-eqb q q refl, eq-eqb a a refl) refl)

off_change : (there : Bool) (g : List (BTreeSet ℕ)) (q a : ℕ) (after : List (BTreeSet ℕ)) (z x : ℕ) → Changes there g q a after → (z ≡ q → x ≡ a → ⊥) → holds after z x ≡ holds g z x
off_change there g q a after z x c ne = c z x ∙ by_cases (eqb_tells z q) (eqb_tells x a)
  where
    by_cases : ((z == q) ≡ true) × (z ≡ q) ⊎ ((z == q) ≡ false) × (z ≢ q) → ((x == a) ≡ true) × (x ≡ a) ⊎ ((x == a) ≡ false) × (x ≢ a) → (if (z == q) && (x == a) then there else holds g z x) ≡ holds g z x
    by_cases (inr h) k = rw h.0 refl
    by_cases (inl h) (inr k) = rw (h.0, k.0) refl
    by_cases (inl h) (inl k) = absurd (ne h.1 k.1)

-- an agent leaves its group: its state is then one without a group
pub taken_out : (states : List ℕ) (g : List (BTreeSet ℕ)) (q a none : ℕ) (after : List (BTreeSet ℕ)) → AreGroups states g → slice_get states a ≡ Some q → length g ≤ none → length after ≡ length g → Takes g q a after → AreGroups (slice_set states a none) after
taken_out states g q a none after are h past size c z x l = by_agent (eqb_tells x a)
  where
    not_here : slice_get (slice_set states a none) a ≡ Some z → ⊥
    not_here e =
        let same : none ≡ z = same_Some none z (sym (slice_get-set_same states a q none h) ∙ e) in
        omega (arith, same, l, past, size)

    gone : holds after z a ≡ true → ⊥
    gone e = by_group (eqb_tells z q)
      where
        by_group : ((z == q) ≡ true) × (z ≡ q) ⊎ ((z == q) ≡ false) × (z ≢ q) → ⊥
        by_group (inl k) = both_ways (holds after z a) (rw k.1 (at_change false g q a after c)) e
        by_group (inr k) =
            let had : holds g z a ≡ true = sym (off_change false g q a after z a c (λ f _. k.1 f)) ∙ e in
            k.1 (same_Some z q (sym ((are z a (omega (arith, l, size))).0 had) ∙ h))

    by_agent : ((x == a) ≡ true) × (x ≡ a) ⊎ ((x == a) ≡ false) × (x ≢ a) → (holds after z x ≡ true) ↔ (slice_get (slice_set states a none) x ≡ Some z)
    by_agent (inl k) = ((λ e. absurd (gone (subst (λ y. holds after z y ≡ true) k.1 e))), (λ e. absurd (not_here (subst (λ y. slice_get (slice_set states a none) y ≡ Some z) k.1 e))))
    by_agent (inr k) =
        let same = off_change false g q a after z x c (λ _ f. k.1 f) in
        let kept = slice_get-set_apart states a x none (λ f. k.1 (sym f)) in
        let was = are z x (omega (arith, l, size)) in
        ((λ e. kept ∙ was.0 (sym same ∙ e)), (λ e. same ∙ was.1 (sym kept ∙ e)))

-- an agent without a group joins one
pub put_in : (states : List ℕ) (g : List (BTreeSet ℕ)) (q a none : ℕ) (after : List (BTreeSet ℕ)) → AreGroups states g → slice_get states a ≡ Some none → length g ≤ none → length after ≡ length g → Puts g q a after → AreGroups (slice_set states a q) after
put_in states g q a none after are h past size c z x l = by_agent (eqb_tells x a)
  where
    here : holds after z a ≡ true → slice_get (slice_set states a q) a ≡ Some z
    here e = by_group (eqb_tells z q)
      where
        by_group : ((z == q) ≡ true) × (z ≡ q) ⊎ ((z == q) ≡ false) × (z ≢ q) → slice_get (slice_set states a q) a ≡ Some z
        by_group (inl k) = slice_get-set_same states a none q h ∙ ap Some (sym k.1)
        by_group (inr k) =
            let had : holds g z a ≡ true = sym (off_change true g q a after z a c (λ f _. k.1 f)) ∙ e in
            let same : z ≡ none = same_Some z none (sym ((are z a (omega (arith, l, size))).0 had) ∙ h) in
            absurd (omega (arith, same, l, past, size))

    back : slice_get (slice_set states a q) a ≡ Some z → holds after z a ≡ true
    back e =
        let same : q ≡ z = same_Some q z (sym (slice_get-set_same states a none q h) ∙ e) in
        rw (← same) (at_change true g q a after c)

    by_agent : ((x == a) ≡ true) × (x ≡ a) ⊎ ((x == a) ≡ false) × (x ≢ a) → (holds after z x ≡ true) ↔ (slice_get (slice_set states a q) x ≡ Some z)
    by_agent (inl k) = subst (λ y. (holds after z y ≡ true) ↔ (slice_get (slice_set states a q) y ≡ Some z)) (sym k.1) (here, back)
    by_agent (inr k) =
        let same = off_change true g q a after z x c (λ _ f. k.1 f) in
        let kept = slice_get-set_apart states a x q (λ f. k.1 (sym f)) in
        let was = are z x (omega (arith, l, size)) in
        ((λ e. kept ∙ was.0 (sym same ∙ e)), (λ e. same ∙ was.1 (sym kept ∙ e)))

slice_get_last : {A : Type 0} (xs : List A) (y : A) → slice_get (xs ++ y ∷ []) (length xs) ≡ Some y
slice_get_last [] y = refl
slice_get_last (x ∷ xs) y = slice_get_last xs y

slice_get_front : {A : Type 0} (xs : List A) (y : A) (i : ℕ) → i ≢ length xs → slice_get (xs ++ y ∷ []) i ≡ slice_get xs i
slice_get_front [] y zero ne = absurd (ne refl)
slice_get_front [] y (suc i) ne = refl
slice_get_front (x ∷ xs) y zero ne = refl
slice_get_front (x ∷ xs) y (suc i) ne = slice_get_front xs y i (λ e. ne (ap suc e))

-- one more agent
pub one_more : (states : List ℕ) (g : List (BTreeSet ℕ)) (q a : ℕ) (after : List (BTreeSet ℕ)) → AreGroups states g → a ≡ length states → length after ≡ length g → Puts g q a after → AreGroups (states ++ q ∷ []) after
one_more states g q a after are new size c z x l = by_agent (eqb_tells x a)
  where
    last : slice_get (states ++ q ∷ []) a ≡ Some q
    last = rw new (slice_get_last states q)

    here : holds after z a ≡ true → slice_get (states ++ q ∷ []) a ≡ Some z
    here e = by_group (eqb_tells z q)
      where
        by_group : ((z == q) ≡ true) × (z ≡ q) ⊎ ((z == q) ≡ false) × (z ≢ q) → slice_get (states ++ q ∷ []) a ≡ Some z
        by_group (inl k) = last ∙ ap Some (sym k.1)
        by_group (inr k) =
            let had : holds g z a ≡ true = sym (off_change true g q a after z a c (λ f _. k.1 f)) ∙ e in
            let is : slice_get states a ≡ Some z = (are z a (omega (arith, l, size))).0 had in
            absurd (let within = slice_get_within states a z is in omega (arith, within, new))

    back : slice_get (states ++ q ∷ []) a ≡ Some z → holds after z a ≡ true
    back e =
        let same : q ≡ z = same_Some q z (sym last ∙ e) in
        rw (← same) (at_change true g q a after c)

    by_agent : ((x == a) ≡ true) × (x ≡ a) ⊎ ((x == a) ≡ false) × (x ≢ a) → (holds after z x ≡ true) ↔ (slice_get (states ++ q ∷ []) x ≡ Some z)
    by_agent (inl k) = subst (λ y. (holds after z y ≡ true) ↔ (slice_get (states ++ q ∷ []) y ≡ Some z)) (sym k.1) (here, back)
    by_agent (inr k) =
        let same = off_change true g q a after z x c (λ _ f. k.1 f) in
        let kept = slice_get_front states q x (λ f. k.1 (f ∙ sym new)) in
        let was = are z x (omega (arith, l, size)) in
        ((λ e. kept ∙ was.0 (sym same ∙ e)), (λ e. same ∙ was.1 (sym kept ∙ e)))

-- nobody can make a move whose first or second state nobody holds
pub no_first : (states : List ℕ) (g : List (BTreeSet ℕ)) (t : Move) → AreGroups states g → t.p < length g → IsEmptyGroup g t.p → (a b : ℕ) → CanMake states t a b → ⊥
no_first states g t are l empty a b can = both_ways (holds g t.p a) (empty a) ((are t.p a l).1 can.first)

pub no_second : (states : List ℕ) (g : List (BTreeSet ℕ)) (t : Move) → AreGroups states g → t.q < length g → IsEmptyGroup g t.q → (a b : ℕ) → CanMake states t a b → ⊥
no_second states g t are l empty a b can = both_ways (holds g t.q b) (empty b) ((are t.q b l).1 can.second)

module _ (states : List ℕ) (g : List (BTreeSet ℕ)) (t : Move) (a : ℕ) (without : List (BTreeSet ℕ)) (are : AreGroups states g) (p_in : t.p < length g) (q_in : t.q < length g) (least : IsLeastOf g t.p a) (takes : Takes g t.p a without) where
  a_holds : slice_get states a ≡ Some t.p
  a_holds = (are t.p a p_in).0 least.0

  -- another agent that holds q is still in its group
  still : (d : ℕ) → d ≢ a → holds g t.q d ≡ true → holds without t.q d ≡ true
  still d ne h = off_change false g t.p a without t.q d takes (λ _ e. ne e) ∙ h

  -- if the second group is empty without the first agent, nobody can make the move
  pub no_other : IsEmptyGroup without t.q → (c d : ℕ) → CanMake states t c d → ⊥
  no_other empty c d can = by_second (eqb_tells d a)
    where
      by_first : d ≡ a → ((c == a) ≡ true) × (c ≡ a) ⊎ ((c == a) ≡ false) × (c ≢ a) → ⊥
      by_first e (inl k) = can.different (k.1 ∙ sym e)
      by_first e (inr k) =
          let same : t.q ≡ t.p = same_Some t.q t.p (sym (subst (λ y. slice_get states y ≡ Some t.q) e can.second) ∙ a_holds) in
          let there : holds without t.q c ≡ true = still c k.1 (rw same ((are t.p c p_in).1 can.first)) in
          both_ways (holds without t.q c) (empty c) there

      by_second : ((d == a) ≡ true) × (d ≡ a) ⊎ ((d == a) ≡ false) × (d ≢ a) → ⊥
      by_second (inl k) = by_first k.1 (eqb_tells c a)
      by_second (inr k) = both_ways (holds without t.q d) (empty d) (still d k.1 ((are t.q d q_in).1 can.second))

  -- put back, it is as it was
  pub put_back : (back : List (BTreeSet ℕ)) → length without ≡ length g → length back ≡ length g → Puts without t.p a back → AreGroups states back
  put_back back size size' puts =
      let out = taken_out states g t.p a (length g) without are a_holds (omega arith) size takes in
      let again = put_in (slice_set states a (length g)) without t.p a (length g) back out (slice_get-set_same states a t.p (length g) a_holds) (omega (arith, size)) (size' ∙ sym size) puts in
      subst (λ (s : List ℕ). AreGroups s back) (set-set states a (length g) t.p ∙ set_same states a t.p a_holds) again

  module _ (b : ℕ) (second : IsLeastOf without t.q b) where
    b_apart : b ≢ a
    b_apart e = by_state (eqb_tells t.q t.p)
      where
        there : holds without t.q a ≡ true
        there = subst (λ y. holds without t.q y ≡ true) e second.0

        by_state : ((t.q == t.p) ≡ true) × (t.q ≡ t.p) ⊎ ((t.q == t.p) ≡ false) × (t.q ≢ t.p) → ⊥
        by_state (inl k) = both_ways (holds without t.q a) (rw k.1 (at_change false g t.p a without takes)) there
        by_state (inr k) =
            let had : holds g t.q a ≡ true = sym (off_change false g t.p a without t.q a takes (λ f _. k.1 f)) ∙ there in
            k.1 (same_Some t.q t.p (sym ((are t.q a q_in).0 had) ∙ a_holds))

    b_holds : slice_get states b ≡ Some t.q
    b_holds = (are t.q b q_in).0 (sym (off_change false g t.p a without t.q b takes (λ _ f. b_apart f)) ∙ second.0)

    -- the two are the least that can make the move
    pub least_pair : silent_move t ≡ false → IsLeastPairFor states t a b
    least_pair loud = (record { non_silent = loud; different = (λ e. b_apart (sym e)); first = a_holds; second = b_holds }, none)
      where
        none : (c d : ℕ) → CanMake states t c d → Then c a (d < b) → ⊥
        none c d can (inl l) = let k = least.1 c ((are t.p c p_in).1 can.first) in omega (arith, l, k)
        none c d can (inr m) =
            let k = second.1 d (still d (λ e. can.different (m.0 ∙ sym e)) ((are t.q d q_in).1 can.second)) in omega (arith, m.1, k)

    -- the groups after both changed their states
    pub made_groups : (both first after : List (BTreeSet ℕ)) → length without ≡ length g → length both ≡ length g → length first ≡ length g → length after ≡ length g → Takes without t.q b both → Puts both t.r a first → Puts first t.s b after → AreGroups (states_after_move states t a b) after
    made_groups both first after s1 s2 s3 s4 takes' puts puts' =
        let n = length g in
        let x1 = slice_set states a n in
        let x2 = slice_set x1 b n in
        let x3 = slice_set x2 a t.r in
        let one = taken_out states g t.p a n without are a_holds (omega arith) s1 takes in
        let b_then : slice_get x1 b ≡ Some t.q = slice_get-set_apart states a b n (λ e. b_apart (sym e)) ∙ b_holds in
        let two = taken_out x1 without t.q b n both one b_then (omega (arith, s1)) (s2 ∙ sym s1) takes' in
        let a_then : slice_get x2 a ≡ Some n = slice_get-set_apart x1 b a n b_apart ∙ slice_get-set_same states a t.p n a_holds in
        let three = put_in x2 both t.r a n first two a_then (omega (arith, s2)) (s3 ∙ sym s2) puts in
        let b_next : slice_get x3 b ≡ Some n = slice_get-set_apart x2 a b t.r (λ e. b_apart (sym e)) ∙ slice_get-set_same x1 b t.q n b_then in
        let four = put_in x3 first t.s b n after three b_next (omega (arith, s3)) (s4 ∙ sym s3) puts' in
        subst (λ (s : List ℕ). AreGroups s after)
        (ap (λ (s : List ℕ). slice_set s b t.s) (set_comm x1 b a n t.r b_apart ∙ ap (λ (s : List ℕ). slice_set s b n) (set-set states a n t.r))
        ∙ set-set (slice_set states a t.r) b n t.s)
        four

-- groups that have the same agents
pub alike_groups : (states : List ℕ) (g after : List (BTreeSet ℕ)) → AreGroups states g → AreAlike g after → length after ≡ length g → AreGroups states after
alike_groups states g after are alike size q x l =
    let was = are q x (omega (arith, l, size)) in
    ((λ e. was.0 (sym (alike q x) ∙ e)), (λ e. alike q x ∙ was.1 e))

pub puts_alike : (g alike back : List (BTreeSet ℕ)) (q a : ℕ) → AreAlike g alike → Puts alike q a back → Puts g q a back
puts_alike g alike back q a same puts z x =
    puts z x ∙ ap (λ b. if (z == q) && (x == a) then true else b) (same z x)
