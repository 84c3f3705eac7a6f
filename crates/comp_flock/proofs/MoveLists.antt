-- The moves of a built leaf.
use Rattle.std.proofs.Common.{◌≡◌, ◌≢◌, ◌⊎◌, inl, inr, subst, ℕ, zero, suc, ◌+◌, ◌*◌, ◌<◌, ◌≤◌, Bool, true, false, List, [], ◌∷◌, length, map, get_or, refl, sym, arith}
use Rattle.std.specs.Prelude.{◌==◌, ◌&&◌, nat_le, if◌then◌else◌, All, AllPairs, Contains, flat_map}
use Rattle.std.specs.List.{range_with_len}
use Rattle.std.proofs.lemmas.Bool.{eq-eqb, le-leb, leb-true, lt-leb, eqb-true, and_parts}
use Rattle.std.proofs.lemmas.List.{length-append}
use Rattle.std.proofs.lemmas.List.FromFn.{length-map-range_with_len}
use Rattle.std.proofs.lemmas.List.Elements.{All-nil, All-cons, All-append, Contains-append_left, Contains-append_right}
use Rattle.pop_leaf.specs.declared.leaf.Move.{Move}
use Rattle.pop_leaf.specs.LeafModel.{same_pair}
use Rattle.pop_leaf.specs.Reaction.{Differ}
use Rattle.comp_trees.proofs.Members.{all_flat, has_flat, range_has}
use Rattle.comp_trees.proofs.SortedLayers.{AllPairs-append}
use Rattle.comp_trees.proofs.Single.{pairs_flat, pairs_map, differ-by}
use Rattle.comp_counting.specs.FullState.{conversion_move}
use Rattle.comp_counting.proofs.Conversions.{all_conversions, differ_pair}
use Rattle.base_laws.proofs.Ranges.{all_range}
use Rattle.base_laws.proofs.Lists.{has_first, has_map}
use Rattle.comp_flock.specs.CountLeaf.{worth_in, full_move, join_move, filled_move, pair_moves, moves_from, count_moves}

-- no list of few short lists is long
flat-short : {A : Type 0} (f : ℕ → List A) (most a n : ℕ) → ((i : ℕ) → a ≤ i → i < a + n → length (f i) ≤ most) → length (flat_map f (range_with_len a n)) ≤ n * most
flat-short f most a zero short = omega arith
flat-short f most a (suc n) short =
    let here = short a (omega arith) (omega arith) in
    let rest = flat-short f most (a + 1) n (λ i l m. short i (omega (arith, l)) (omega (arith, m))) in
    let long = length-append (f a) (flat_map f (range_with_len (a + 1) n)) in
    let product : suc n * most ≡ most + n * most = grind arith in
    omega (arith, here, rest, long, product)

module _ (keeps : Bool) (ws : List ℕ) (c k : ℕ) where
  abbrev w : ℕ → ℕ
  w q = worth_in ws q

  abbrev filled : ℕ → ℕ → Bool
  filled p q = nat_le c (w p + w q)

  abbrev joined : ℕ → ℕ → Bool
  joined p q = w p + w q == w (p + 1)

  abbrev pairs : List Move
  pairs = flat_map (moves_from keeps ws c k) (range_with_len 0 (k + 1))

  abbrev conversions : List Move
  conversions = map (conversion_move k) (range_with_len 0 (k + 1))

  -- ---- what holds for each move

  one_pair : (P : Move → Type 0) (p q : ℕ) → (c ≤ w p + w q → P (full_move k p q)) → (w p + w q ≡ w (p + 1) → P (join_move p q)) → All P (pair_moves keeps ws c k p q)
  one_pair P p q f g = go (filled p q) refl (joined p q) refl
    where
      chosen : (b : Bool) → (keeps && joined p q) ≡ b → c ≤ w p + w q → P (if b then join_move p q else full_move k p q)
      chosen true e l = g (eqb-true (w p + w q) (w (p + 1)) (and_parts keeps (joined p q) e).1)
      chosen false e l = f l

      go : (a : Bool) → filled p q ≡ a → (b : Bool) → joined p q ≡ b → All P (if a then (filled_move keeps ws k p q ∷ []) else (if b then (join_move p q ∷ []) else []))
      go true e b h = All-cons P (filled_move keeps ws k p q) [] (chosen (keeps && joined p q) refl (leb-true c (w p + w q) e)) (All-nil P)
      go false e true h = All-cons P (join_move p q) [] (g (eqb-true (w p + w q) (w (p + 1)) h)) (All-nil P)
      go false e false h = All-nil P

  pub all_pairs : (P : Move → Type 0) → ((p q : ℕ) → q ≤ p → p ≤ k → c ≤ w p + w q → P (full_move k p q)) → ((p q : ℕ) → q ≤ p → p ≤ k → w p + w q ≡ w (p + 1) → P (join_move p q)) → All P pairs
  all_pairs P f g =
      all_flat P (moves_from keeps ws c k) (range_with_len 0 (k + 1))
      (all_range (λ p. All P (moves_from keeps ws c k p)) 0 (k + 1) (λ p a l.
      all_flat P (pair_moves keeps ws c k p) (range_with_len 0 (p + 1))
      (all_range (λ q. All P (pair_moves keeps ws c k p q)) 0 (p + 1) (λ q b m.
      one_pair P p q (f p q (omega (arith, m)) (omega (arith, l))) (g p q (omega (arith, m)) (omega (arith, l)))))))

  pub all_moves : (P : Move → Type 0) → ((p q : ℕ) → q ≤ p → p ≤ k → c ≤ w p + w q → P (full_move k p q)) → ((p q : ℕ) → q ≤ p → p ≤ k → w p + w q ≡ w (p + 1) → P (join_move p q)) → ((q : ℕ) → q ≤ k → P (conversion_move k q)) → All P (count_moves keeps ws c k)
  all_moves P f g h = All-append P pairs conversions (all_pairs P f g) (all_conversions k P h)

  -- ---- which there are

  has_pair : (p q : ℕ) (t : Move) → q ≤ p → p ≤ k → Contains (pair_moves keeps ws c k p q) t → Contains (count_moves keeps ws c k) t
  has_pair p q t l m has =
      Contains-append_left pairs conversions t
      (has_flat (moves_from keeps ws c k) (range_with_len 0 (k + 1)) p t (range_has 0 (k + 1) p (omega arith) (omega (arith, m)))
      (has_flat (pair_moves keeps ws c k p) (range_with_len 0 (p + 1)) q t (range_has 0 (p + 1) q (omega arith) (omega (arith, l))) has))

  pub has_filled : (p q : ℕ) → q ≤ p → p ≤ k → c ≤ w p + w q → Contains (count_moves keeps ws c k) (filled_move keeps ws k p q)
  has_filled p q l m n =
      has_pair p q (filled_move keeps ws k p q) l m
      (subst (λ (a : Bool). Contains (if a then (filled_move keeps ws k p q ∷ []) else (if joined p q then (join_move p q ∷ []) else [])) (filled_move keeps ws k p q)) (sym (le-leb c (w p + w q) n)) (has_first (filled_move keeps ws k p q) []))

  pub has_join : (p q : ℕ) → q ≤ p → p ≤ k → w p + w q < c → w p + w q ≡ w (p + 1) → Contains (count_moves keeps ws c k) (join_move p q)
  has_join p q l m n e =
      has_pair p q (join_move p q) l m
      (subst (λ (a : Bool). Contains (if a then (filled_move keeps ws k p q ∷ []) else (if joined p q then (join_move p q ∷ []) else [])) (join_move p q)) (sym (lt-leb c (w p + w q) n))
      (subst (λ (b : Bool). Contains (if b then (join_move p q ∷ []) else []) (join_move p q)) (sym (eq-eqb (w p + w q) (w (p + 1)) e)) (has_first (join_move p q) [])))

  pub has_conversion : (q : ℕ) → q ≤ k → Contains (count_moves keeps ws c k) (conversion_move k q)
  has_conversion q l =
      Contains-append_right pairs conversions (conversion_move k q) (has_map (conversion_move k) (range_with_len 0 (k + 1)) q (range_has 0 (k + 1) q (omega arith) (omega (arith, l))))

  -- there are few
  pub pairs-few : k ≤ 100 → length pairs ≤ 10201
  pairs-few few =
      let all = flat-short (moves_from keeps ws c k) 101 0 (k + 1) (λ p l m. from p (omega (arith, m))) in
      omega (arith, all, few)
    where
      pair-short : (p q : ℕ) → length (pair_moves keeps ws c k p q) ≤ 1
      pair-short p q = go (filled p q) (joined p q)
        where
          go : (a b : Bool) → length (if a then (filled_move keeps ws k p q ∷ []) else (if b then (join_move p q ∷ []) else [])) ≤ 1
          go true b = omega arith
          go false true = omega arith
          go false false = omega arith

      from : (p : ℕ) → p ≤ k → length (moves_from keeps ws c k p) ≤ 101
      from p l = let short = flat-short (pair_moves keeps ws c k p) 1 0 (p + 1) (λ q a b. pair-short p q) in omega (arith, short, l, few)

  pub moves-few : k ≤ 100 → length (count_moves keeps ws c k) ≤ 10302
  moves-few few = let a = pairs-few few in omega (arith, a, length-append pairs conversions, length-map-range_with_len (conversion_move k) 0 (k + 1), few)

  -- ---- no two take the same states

  abbrev Takes : ℕ → ℕ → Move → Type 0
  Takes p q t = (t.p ≡ p) × (t.q ≡ q)

  pair-takes : (p q : ℕ) → All (Takes p q) (pair_moves keeps ws c k p q)
  pair-takes p q = one_pair (Takes p q) p q (λ l. (refl, refl)) (λ e. (refl, refl))

  -- those of two pairs of places
  apart : (p q u v : ℕ) → (p ≢ u) ⊎ (q ≢ v) → (p ≢ v) ⊎ (q ≢ u) → (t s : Move) → Takes p q t → Takes u v s → Differ t s
  apart p q u v a b t s ht hs x y =
      subst (λ n. same_pair n t.q s.p s.q ≡ false) (sym ht.0)
      (subst (λ n. same_pair p n s.p s.q ≡ false) (sym ht.1)
      (subst (λ n. same_pair p q n s.q ≡ false) (sym hs.0)
      (subst (λ n. same_pair p q u n ≡ false) (sym hs.1) (differ-by p q u v a b))))

  pairs-apart : (p q u v : ℕ) → (p ≢ u) ⊎ (q ≢ v) → (p ≢ v) ⊎ (q ≢ u) → All (λ t. All (Differ t) (pair_moves keeps ws c k u v)) (pair_moves keeps ws c k p q)
  pairs-apart p q u v a b =
      λ i d l j e m.
      apart p q u v a b (get_or (pair_moves keeps ws c k p q) i d) (get_or (pair_moves keeps ws c k u v) j e) (pair-takes p q i d l) (pair-takes u v j e m)

  one_at_most : (p q : ℕ) → AllPairs Differ (pair_moves keeps ws c k p q)
  one_at_most p q = go (filled p q) (joined p q)
    where
      go : (a b : Bool) → AllPairs Differ (if a then (filled_move keeps ws k p q ∷ []) else (if b then (join_move p q ∷ []) else []))
      go true b = λ i j d l m. absurd (omega (arith, l, m))
      go false true = λ i j d l m. absurd (omega (arith, l, m))
      go false false = λ i j d l m. absurd (omega (arith, l, m))

  pub moves-single : AllPairs Differ (count_moves keeps ws c k)
  moves-single =
      AllPairs-append Differ pairs conversions
      (pairs_flat Differ (moves_from keeps ws c k) 0 (k + 1)
      (λ p a l. pairs_flat Differ (pair_moves keeps ws c k p) 0 (p + 1)
      (λ q b m. one_at_most p q)
      (λ q v b m n. pairs-apart p q p v (inr (λ e. omega (arith, e, m))) (inr (λ e. omega (arith, e, m, n)))))
      (λ p u a l m. all_flat (λ t. All (Differ t) (moves_from keeps ws c k u)) (pair_moves keeps ws c k p) (range_with_len 0 (p + 1))
      (all_range (λ q. All (λ t. All (Differ t) (moves_from keeps ws c k u)) (pair_moves keeps ws c k p q)) 0 (p + 1) (λ q b n.
      λ i d h. all_flat (Differ _) (pair_moves keeps ws c k u) (range_with_len 0 (u + 1))
      (all_range (λ v. All (Differ _) (pair_moves keeps ws c k u v)) 0 (u + 1) (λ v r o.
      pairs-apart p q u v (inl (λ e. omega (arith, e, l))) (inr (λ e. omega (arith, e, l, n))) i d h))))))
      (pairs_map Differ (conversion_move k) 0 (k + 1) (λ i j h n o x y. differ_pair (k + 1) i (k + 1) j (λ e. omega (arith, e, n)) (λ e. omega (arith, e, n, o))))
      (all_pairs (λ t. All (Differ t) conversions)
      (λ p q l m n. all_conversions k (Differ (full_move k p q)) (λ v o x y. differ-by p q (k + 1) v (inl (λ e. omega (arith, e, m))) (inr (λ e. omega (arith, e, l, m)))))
      (λ p q l m f. all_conversions k (Differ (join_move p q)) (λ v o x y. differ-by p q (k + 1) v (inl (λ e. omega (arith, e, m))) (inr (λ e. omega (arith, e, l, m))))))
