-- The tuples of a crowd in order, and counting them one by one.
use Rattle.std.proofs.Common.{◌≡◌, ◌≢◌, ◌⊎◌, inl, inr, ℕ, zero, suc, ◌+◌, ◌<◌, false, cond, List, [], ◌∷◌, ◌++◌, length, map, fold, append_assoc, zero-add, refl, ap, sym, subst, ◌∙◌, arith, append-nil}
use Rattle.std.specs.Prelude.{Some, None, All, Contains, Vec, Decides, unwrap_or, nat_eq}
use Rattle.std.specs.List.{AllByRecursion}
use Rattle.std.specs.List.Sorted.{IsStrictlySortedBy}
use Rattle.std.specs.declared.cmp.Ordering.{Ordering}
use Rattle.std.specs.declared.cmp.Ordering.TheVariants.{Less, Equal, Greater}
use Rattle.std.specs.Ordering.{nat_cmp, match_ordering, is_eq, ordering_reverse}
use Rattle.std.specs.Cmp.Lexicographic.{slice_cmp, pointwise}
use Rattle.std.specs.BTreeSet.{insert_key}
use Rattle.std.specs.BTreeMap.{insert_entry, is_at}
use Rattle.std.specs.Map.{lookup}
use Rattle.std.proofs.lemmas.Cmp.{nat_list_cmp_total, tied_itself}
use Rattle.std.proofs.lemmas.Map.Lookups.{exact_bytes}
use Rattle.std.proofs.lemmas.List.Sums.{fold_push, sum_by_push, sum_by-cons}
use Rattle.std.proofs.lemmas.List.Elements.{All-nil, All-push, All-head, All-tail, All-contains, All-from_recursion, Contains-append_left, Contains-push}
use Rattle.std.proofs.lemmas.Bool.{false_from_ne_true}
use Rattle.std.proofs.lemmas.Bool.Decides.{Decides-eqb}
use Rattle.std.proofs.lemmas.Slice.Eq.{slice_eq-Decides}
use Rattle.std.proofs.lemmas.Map.Views.{All-insert_key}
use Rattle.pop_leaf.specs.NetModel.{Tuple, CrowdModel}
use Rattle.pop_crowd.specs.Tally.{tuple_cmp, tuples_of, agents_with, tuple_counts, AreTuplesOf}
use Rattle.pop_crowd.specs.Shown.{shown}
use Rattle.base_laws.proofs.Lists.{has_first, has_later}

-- which way an order goes, with its equation
data Way (o : Ordering) : Type 0 where
  less : o ≡ Less → Way o
  equal : o ≡ Equal → Way o
  greater : o ≡ Greater → Way o

way : (o : Ordering) → Way o
way Less = less refl
way Equal = equal refl
way Greater = greater refl

-- entries that are shown are put at the same place
pub shown-insert : {A : Type 0} (es : List (Vec ℕ A × ℕ)) (k : Vec ℕ A) (v : ℕ) → shown (insert_entry (λ (x y : Vec ℕ A). slice_cmp nat_cmp x.items y.items) es k v) ≡ insert_entry tuple_cmp (shown es) k.items v
shown-insert [] k v = refl
shown-insert {A} (e ∷ es) k v = go (way (slice_cmp nat_cmp k.items e.0.items)) (shown-insert es k v)
  where
    vec_cmp : Vec ℕ A → Vec ℕ A → Ordering
    vec_cmp x y = slice_cmp nat_cmp x.items y.items

    go : Way (slice_cmp nat_cmp k.items e.0.items) → shown (insert_entry (λ (x y : Vec ℕ A). slice_cmp nat_cmp x.items y.items) es k v) ≡ insert_entry tuple_cmp (shown es) k.items v → shown (match_ordering (slice_cmp nat_cmp k.items e.0.items) ((k, v) ∷ e ∷ es) ((e.0, v) ∷ es) (e ∷ insert_entry (λ (x y : Vec ℕ A). slice_cmp nat_cmp x.items y.items) es k v)) ≡ match_ordering (slice_cmp nat_cmp k.items e.0.items) ((k.items, v) ∷ (e.0.items, e.1) ∷ shown es) ((e.0.items, v) ∷ shown es) ((e.0.items, e.1) ∷ insert_entry tuple_cmp (shown es) k.items v)
    go (less h) ih = rw h refl
    go (equal h) ih = rw h refl
    go (greater h) ih = rw h (ap (λ xs. (e.0.items, e.1) ∷ xs) ih)

-- each element of the list passes
abbrev Each : (Tuple → Type 0) → List Tuple → Type 0
Each = AllByRecursion

each_insert : (P : Tuple → Type 0) (ts : List Tuple) (x : Tuple) → Each P ts → P x → Each P (insert_key tuple_cmp ts x)
each_insert P [] x h p = (p, tt)
each_insert P (u ∷ ts) x h p = go (way (tuple_cmp x u)) (each_insert P ts x h.1 p)
  where
    go : Way (tuple_cmp x u) → Each P (insert_key tuple_cmp ts x) → Each P (match_ordering (tuple_cmp x u) (x ∷ u ∷ ts) (u ∷ ts) (u ∷ insert_key tuple_cmp ts x))
    go (less e) ih = rw e (p, h)
    go (equal e) ih = rw e h
    go (greater e) ih = rw e (h.0, ih)

each_weaker : (P Q : Tuple → Type 0) → ((t : Tuple) → P t → Q t) → (ts : List Tuple) → Each P ts → Each Q ts
each_weaker P Q f [] h = tt
each_weaker P Q f (u ∷ ts) h = (f u h.0, each_weaker P Q f ts h.1)

-- what is below differs
below_differs : (x t : Tuple) → tuple_cmp x t ≡ Less → t ≢ x
below_differs x t e same =
    let tie = tied_itself nat_list_cmp_total x in
    let e' : tuple_cmp x x ≡ Less = subst (λ (u : Tuple). tuple_cmp x u ≡ Less) same e in
    absurd (let w : Less ≡ Equal = sym e' ∙ tie in cc)

above_differs : (x u : Tuple) → tuple_cmp x u ≡ Greater → u ≢ x
above_differs x u e same =
    let tie = tied_itself nat_list_cmp_total x in
    let e' : tuple_cmp x x ≡ Greater = subst (λ (t : Tuple). tuple_cmp x t ≡ Greater) same e in
    absurd (let w : Greater ≡ Equal = sym e' ∙ tie in cc)

below_from_above : (x u : Tuple) → tuple_cmp x u ≡ Greater → tuple_cmp u x ≡ Less
below_from_above x u e = nat_list_cmp_total.antisymm u x ∙ ap ordering_reverse e

-- what is above u is above x, if x is below u
each_above : (x u : Tuple) (ts : List Tuple) → tuple_cmp x u ≡ Less → Each (λ t. tuple_cmp u t ≡ Less) ts → Each (λ t. tuple_cmp x t ≡ Less) ts
each_above x u ts e h = each_weaker _ _ (λ t m. nat_list_cmp_total.trans x u t e m) ts h

pub sorted_insert : (ts : List Tuple) (x : Tuple) → IsStrictlySortedBy tuple_cmp ts → IsStrictlySortedBy tuple_cmp (insert_key tuple_cmp ts x)
unfolding IsStrictlySortedBy
sorted_insert [] x h = (tt, tt)
sorted_insert (u ∷ ts) x h = go (way (tuple_cmp x u)) (sorted_insert ts x h.1)
  where
    go : Way (tuple_cmp x u) → IsStrictlySortedBy tuple_cmp (insert_key tuple_cmp ts x) → IsStrictlySortedBy tuple_cmp (match_ordering (tuple_cmp x u) (x ∷ u ∷ ts) (u ∷ ts) (u ∷ insert_key tuple_cmp ts x))
    go (less e) ih = rw e ((e, each_above x u ts e h.0), h)
    go (equal e) ih = rw e h
    go (greater e) ih = rw e (each_insert (λ t. tuple_cmp u t ≡ Less) ts x h.0 (below_from_above x u e), ih)

inserted : (ts : List Tuple) (x : Tuple) → Contains (insert_key tuple_cmp ts x) x
inserted [] x = has_first x []
inserted (u ∷ ts) x = go (way (tuple_cmp x u)) (inserted ts x)
  where
    go : Way (tuple_cmp x u) → Contains (insert_key tuple_cmp ts x) x → Contains (match_ordering (tuple_cmp x u) (x ∷ u ∷ ts) (u ∷ ts) (u ∷ insert_key tuple_cmp ts x)) x
    go (less e) ih = rw e (has_first x (u ∷ ts))
    go (equal e) ih = let same : u ≡ x = sym (exact_bytes x u e) in rw e (subst (λ (t : Tuple). Contains (u ∷ ts) t) same (has_first u ts))
    go (greater e) ih = rw e (has_later x u (insert_key tuple_cmp ts x) ih)

first_or_later : (u y : Tuple) (ts : List Tuple) → Contains (u ∷ ts) y → (u ≡ y) ⊎ Contains ts y
first_or_later u y ts (zero, l, e) = inl e
first_or_later u y ts (suc k, l, e) = inr (k, (let m : k < length ts = omega (arith, l) in m), e)

kept : (ts : List Tuple) (x y : Tuple) → Contains ts y → Contains (insert_key tuple_cmp ts x) y
kept [] x y h = absurd (omega (arith, h.1))
kept (u ∷ ts) x y h = go (way (tuple_cmp x u)) (λ m. kept ts x y m)
  where
    rest : (u ≡ y) ⊎ Contains ts y → (Contains ts y → Contains (insert_key tuple_cmp ts x) y) → Contains (u ∷ insert_key tuple_cmp ts x) y
    rest (inl e) ih = subst (λ (t : Tuple). Contains (u ∷ insert_key tuple_cmp ts x) t) e (has_first u (insert_key tuple_cmp ts x))
    rest (inr m) ih = has_later y u (insert_key tuple_cmp ts x) (ih m)

    go : Way (tuple_cmp x u) → (Contains ts y → Contains (insert_key tuple_cmp ts x) y) → Contains (match_ordering (tuple_cmp x u) (x ∷ u ∷ ts) (u ∷ ts) (u ∷ insert_key tuple_cmp ts x)) y
    go (less e) ih = rw e (has_later y x (u ∷ ts) h)
    go (equal e) ih = rw e h
    go (greater e) ih = rw e (rest (first_or_later u y ts h) ih)

tuples_more : (done : CrowdModel) (x : Tuple) (ts : List Tuple) → AreTuplesOf done ts → AreTuplesOf (done ++ x ∷ []) (insert_key tuple_cmp ts x)
tuples_more done x ts a =
    record {
      had = All-insert_key tuple_cmp x (Contains (done ++ x ∷ [])) ts (λ k d l. Contains-append_left done (x ∷ []) _ (a.had k d l)) (Contains-push done x);
      whole = All-push (Contains (insert_key tuple_cmp ts x)) done x (λ k d l. kept ts x _ (a.whole k d l)) (inserted ts x);
      ascending = sorted_insert ts x a.ascending;
    }

tuples_from : (done rest : CrowdModel) (ts : List Tuple) → AreTuplesOf done ts → AreTuplesOf (done ++ rest) (fold (insert_key tuple_cmp) ts rest)
tuples_from done [] ts a = subst (λ (c : CrowdModel). AreTuplesOf c ts) (sym (append-nil done)) a
tuples_from done (x ∷ rest) ts a =
    subst (λ (c : CrowdModel). AreTuplesOf c (fold (insert_key tuple_cmp) (insert_key tuple_cmp ts x) rest)) (append_assoc done (x ∷ []) rest)
    (tuples_from (done ++ x ∷ []) rest (insert_key tuple_cmp ts x) (tuples_more done x ts a))

-- the tuples of a crowd are those that agents have, in ascending order
pub tuples_of-crowd : (crowd : CrowdModel) → AreTuplesOf crowd (tuples_of crowd)
unfolding IsStrictlySortedBy
tuples_of-crowd crowd =
    tuples_from [] crowd [] (record { had = All-nil (Contains []); whole = All-nil (Contains []); ascending = tt })

-- tuples with the numbers that f gives them
abbrev numbered : (Tuple → ℕ) → List Tuple → List (Tuple × ℕ)
numbered f ts = map (λ t. (t, f t)) ts

-- the same numbers, if f and g agree
same_counts : (f g : Tuple → ℕ) (x : Tuple) → ((t : Tuple) → t ≢ x → g t ≡ f t) → (ts : List Tuple) → Each (λ t. t ≢ x) ts → numbered f ts ≡ numbered g ts
same_counts f g x h [] each = refl
same_counts f g x h (u ∷ ts) each = let e = h u each.0 in let r = same_counts f g x h ts each.1 in cc

-- a number written at x, in the entries of tuples in order
counts_insert : (f g : Tuple → ℕ) (x : Tuple) → ((t : Tuple) → t ≢ x → g t ≡ f t) → (ts : List Tuple) → IsStrictlySortedBy tuple_cmp ts → insert_entry tuple_cmp (numbered f ts) x (g x) ≡ numbered g (insert_key tuple_cmp ts x)
unfolding IsStrictlySortedBy
counts_insert f g x h [] s = refl
counts_insert f g x h (u ∷ ts) s = go (way (tuple_cmp x u)) (counts_insert f g x h ts s.1)
  where
    go : Way (tuple_cmp x u) → insert_entry tuple_cmp (numbered f ts) x (g x) ≡ numbered g (insert_key tuple_cmp ts x) → match_ordering (tuple_cmp x u) ((x, g x) ∷ (u, f u) ∷ numbered f ts) ((u, g x) ∷ numbered f ts) ((u, f u) ∷ insert_entry tuple_cmp (numbered f ts) x (g x)) ≡ numbered g (match_ordering (tuple_cmp x u) (x ∷ u ∷ ts) (u ∷ ts) (u ∷ insert_key tuple_cmp ts x))
    go (less e) ih =
        let r = same_counts f g x h (u ∷ ts) (below_differs x u e, each_weaker _ _ (λ t m. below_differs x t m) ts (each_above x u ts e s.0)) in
        rw e (ap (λ es. (x, g x) ∷ es) r)
    go (equal e) ih =
        let same : x ≡ u = exact_bytes x u e in
        let r = same_counts f g x h ts (each_weaker _ _ (λ t m. λ eq. below_differs u t m (eq ∙ same)) ts s.0) in
        let n : g x ≡ g u = ap g same in
        rw e (ap (λ k. (u, k) ∷ numbered f ts) n ∙ ap (λ es. (u, g u) ∷ es) r)
    go (greater e) ih =
        let n : f u ≡ g u = sym (h u (above_differs x u e)) in
        rw e (ap (λ k. (u, k) ∷ insert_entry tuple_cmp (numbered f ts) x (g x)) n ∙ ap (λ es. (u, g u) ∷ es) ih)

-- what is found at x, or that no tuple is x
data AtTuple (f : Tuple → ℕ) (x : Tuple) (ts : List Tuple) : Type 0 where
  found : lookup (is_at (tuple_cmp x)) (numbered f ts) ≡ Some (f x) → AtTuple f x ts
  nowhere : lookup (is_at (tuple_cmp x)) (numbered f ts) ≡ None → Each (λ t. t ≢ x) ts → AtTuple f x ts

at_tuple : (f : Tuple → ℕ) (x : Tuple) (ts : List Tuple) → AtTuple f x ts
at_tuple f x [] = nowhere refl tt
at_tuple f x (u ∷ ts) = go (way (tuple_cmp x u)) (at_tuple f x ts)
  where
    below : (e : tuple_cmp x u ≡ Less) → AtTuple f x ts → AtTuple f x (u ∷ ts)
    below e (found h) = found (rw e h)
    below e (nowhere h n) = nowhere (rw e h) (below_differs x u e, n)

    above : (e : tuple_cmp x u ≡ Greater) → AtTuple f x ts → AtTuple f x (u ∷ ts)
    above e (found h) = found (rw e h)
    above e (nowhere h n) = nowhere (rw e h) (above_differs x u e, n)

    go : Way (tuple_cmp x u) → AtTuple f x ts → AtTuple f x (u ∷ ts)
    go (less e) a = below e a
    go (equal e) a = found (rw e (ap (λ t. Some (f t)) (sym (exact_bytes x u e))))
    go (greater e) a = above e a

same_test : (t x : Tuple) → Decides (pointwise nat_eq t x) (t ≡ x)
same_test t x = slice_eq-Decides Decides-eqb t x _ refl

each_at : (P : Tuple → Type 0) (ts : List Tuple) (t : Tuple) → Each P ts → Contains ts t → P t
each_at P ts t h m = All-contains P ts t (All-from_recursion P ts h) m

-- no agent has a tuple that isn't among the crowd's
none_with : (x : Tuple) (ts : List Tuple) → Each (λ t. t ≢ x) ts → (crowd : CrowdModel) → All (Contains ts) crowd → agents_with crowd x ≡ 0
none_with x ts h [] all = refl
none_with x ts h (t ∷ crowd) all =
    let no : pointwise nat_eq t x ≡ false = false_from_ne_true _ (λ e. each_at (λ t. t ≢ x) ts t h (All-head (Contains ts) t crowd all) ((same_test t x).0 e)) in
    sum_by-cons (λ t. cond (pointwise nat_eq t x) 1 0) t crowd ∙ ap (λ b. cond b 1 0 + agents_with crowd x) no ∙ zero-add (agents_with crowd x) ∙ none_with x ts h crowd (All-tail (Contains ts) t crowd all)

-- the number found at a tuple is how many agents have it
pub count_found : (crowd : CrowdModel) (x : Tuple) → unwrap_or (lookup (is_at (tuple_cmp x)) (tuple_counts crowd)) 0 ≡ agents_with crowd x
count_found crowd x = go (at_tuple (agents_with crowd) x (tuples_of crowd))
  where
    go : AtTuple (agents_with crowd) x (tuples_of crowd) → unwrap_or (lookup (is_at (tuple_cmp x)) (tuple_counts crowd)) 0 ≡ agents_with crowd x
    go (found e) = ap (λ o. unwrap_or o 0) e
    go (nowhere e n) = ap (λ o. unwrap_or o 0) e ∙ sym (none_with x (tuples_of crowd) n crowd (tuples_of-crowd crowd).whole)

one_more_with : (crowd : CrowdModel) (x t : Tuple) → agents_with (crowd ++ x ∷ []) t ≡ agents_with crowd t + cond (pointwise nat_eq x t) 1 0
one_more_with crowd x t = sum_by_push (λ u. cond (pointwise nat_eq u t) 1 0) crowd x

-- one more agent is counted
pub counts_more : (crowd : CrowdModel) (x : Tuple) → insert_entry tuple_cmp (tuple_counts crowd) x (agents_with crowd x + 1) ≡ tuple_counts (crowd ++ x ∷ [])
counts_more crowd x =
    ap (insert_entry tuple_cmp (tuple_counts crowd) x) (sym (one_more_with crowd x x ∙ ap (λ b. agents_with crowd x + cond b 1 0) ((same_test x x).1 refl)))
    ∙ counts_insert (agents_with crowd) (agents_with (crowd ++ x ∷ [])) x others (tuples_of crowd) (tuples_of-crowd crowd).ascending
    ∙ ap (numbered (agents_with (crowd ++ x ∷ []))) (sym (fold_push (insert_key tuple_cmp) [] crowd x))
  where
    others : (t : Tuple) → t ≢ x → agents_with (crowd ++ x ∷ []) t ≡ agents_with crowd t
    others t ne =
        let no : pointwise nat_eq x t ≡ false = false_from_ne_true _ (λ e. ne (sym ((same_test x t).0 e))) in
        one_more_with crowd x t ∙ ap (λ b. agents_with crowd t + cond b 1 0) no ∙ (let z : agents_with crowd t + 0 ≡ agents_with crowd t = omega arith in z)

-- a look-up among entries that are shown
pub shown-lookup : {A : Type 0} (es : List (Vec ℕ A × ℕ)) (x : Tuple) → lookup (is_at (λ (y : Vec ℕ A). slice_cmp nat_cmp x y.items)) es ≡ lookup (is_at (tuple_cmp x)) (shown es)
shown-lookup [] x = refl
shown-lookup (e ∷ es) x = ap (cond (is_eq (slice_cmp nat_cmp x e.0.items)) (Some e.1)) (shown-lookup es x)
