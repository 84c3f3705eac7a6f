-- If no state of a tuple is marked, its agent changes with no other.
use Rattle.std.proofs.Common.{◌≡◌, ◌≢◌, ◌⊎◌, inl, inr, ℕ, suc, pred, ◌+◌, ◌<◌, ◌≤◌, Bool, true, false, not, ◌&&◌, List, [], ◌∷◌, ◌++◌, length, map, get_or, set, refl, ap, sym, subst, ◌∙◌, arith}
use Rattle.std.specs.Prelude.{Option, Some, None, All, if◌then◌else◌, ◌==◌, nat_le, find, is_none, slice_get, slice_set}
use Rattle.std.proofs.lemmas.Bool.{false≢true, and_parts, and_from, not-true, cases_eq, cases_order, le-leb}
use Rattle.std.proofs.lemmas.Bool.Decides.{eqb_tells}
use Rattle.std.proofs.lemmas.List.{length-append, length-map, length-set, get_or-set_same, get_or-set_other, get_or_append_left}
use Rattle.std.proofs.Math.Seq.{get_or-append_seam}
use Rattle.std.specs.Option.{option_map}
use Rattle.std.proofs.lemmas.Option.{slice_get-get_or, slice_get_within, slice_get-map, get_or_from_slice_get, same_Some}
use Rattle.pop_leaf.specs.declared.leaf.Move.{Move}
use Rattle.pop_leaf.specs.LeafModel.{LeafModel, IsLeaf, silent_move, same_pair}
use Rattle.pop_leaf.specs.NetModel.{NetModel, Tuple, CrowdModel, IsTuple, state_of}
use Rattle.pop_leaf.specs.Reaction.{takes_states, by_move, leaf_reaction, reactions}
use Rattle.pop_leaf.proofs.Found.{find_some}
use Rattle.pop_net.proofs.Projection.{component, slice_get-component}
use Rattle.pop_leaf.proofs.Quiet.{leaf_quiet, leaves_quiet, All-slice_get}
use Rattle.pop_leaf.proofs.Silent.{same_pair_cases}
use Rattle.pop_crowd.specs.Replay.{reacts, changes}
use Rattle.terminal_test.specs.Loud.{pairs_of_moves, ArePairsBelow}
use Rattle.terminal_test.specs.Restless.{CountsTo, AreSeen, are_held_by, AreMarkedTo, AreMarkedByAll, IsMarked, AreRestlessTo, AreRestless, IsCalm}
use Rattle.terminal_test.proofs.LoudPairs.{in_pairs, pairs_below}
use Rattle.pop_crowd.proofs.Unmoved.{moved}
use Rattle.terminal_test.proofs.Searches.{changes_at}
use Rattle.pop_net.specs.declared.net.Word.{Word}
use Rattle.pop_net.specs.Lanes.{tuple_of, crowd_of}
use Rattle.pop_crowd.proofs.Words.{tuple_at, crowd_tuples}

-- one more agent
pub counts_more : (states seen : List ℕ) (n s new : ℕ) → slice_get states n ≡ Some s → s < length seen → 1 ≤ new → (1 ≤ get_or seen s 0 → 2 ≤ new) → CountsTo states seen n → CountsTo states (set seen s new) (n + 1)
counts_more states seen n s new is l some more h = record { once = λ a x m ha. once a x m ha (cases_eq x s); twice = λ a b x m k ha hb. twice a b x m k ha hb (cases_eq x s) }
  where
    at : get_or (set seen s new) s 0 ≡ new
    at = get_or-set_same seen s new 0 l

    -- an agent in another state came before
    earlier : (a x : ℕ) → a < n + 1 → slice_get states a ≡ Some x → x ≢ s → a < n
    earlier a x m ha ne = go (cases_eq a n)
      where
        go : (a ≡ n) ⊎ (a ≡ n → ⊥) → a < n
        go (inr other) = omega (arith, m, other)
        go (inl same) = absurd (ne (same_Some x s (sym ha ∙ ap (slice_get states) same ∙ is)))

    once : (a x : ℕ) → a < n + 1 → slice_get states a ≡ Some x → (x ≡ s) ⊎ (x ≡ s → ⊥) → 1 ≤ get_or (set seen s new) x 0
    once a x m ha (inl same) = let v : get_or (set seen s new) x 0 ≡ new = ap (λ z. get_or (set seen s new) z 0) same ∙ at in omega (arith, v, some)
    once a x m ha (inr ne) = let v = get_or-set_other seen s x new 0 ne in let o = h.once a x (earlier a x m ha ne) ha in omega (arith, v, o)

    twice : (a b x : ℕ) → a < b → b < n + 1 → slice_get states a ≡ Some x → slice_get states b ≡ Some x → (x ≡ s) ⊎ (x ≡ s → ⊥) → 2 ≤ get_or (set seen s new) x 0
    twice a b x m k ha hb (inl same) =
        let v : get_or (set seen s new) x 0 ≡ new = ap (λ z. get_or (set seen s new) z 0) same ∙ at in
        let o = h.once a x (omega (arith, m, k)) ha in
        let w : get_or seen x 0 ≡ get_or seen s 0 = ap (λ z. get_or seen z 0) same in
        let two = more (omega (arith, o, w)) in
        omega (arith, v, two)
    twice a b x m k ha hb (inr ne) =
        let v = get_or-set_other seen s x new 0 ne in
        let o = h.twice a b x m (earlier b x k hb ne) ha hb in
        omega (arith, v, o)

module _ (marks : List Bool) (p : ℕ) where
  set_true : p < length marks → slice_get (slice_set marks p true) p ≡ Some true
  set_true l =
      slice_get-get_or (slice_set marks p true) p false (let e : length (slice_set marks p true) ≡ length marks = length-set marks p true in omega (arith, e, l))
      ∙ ap Some (get_or-set_same marks p true false l)

  keeps_true : (x : ℕ) → slice_get marks x ≡ Some true → slice_get (slice_set marks p true) x ≡ Some true
  keeps_true x h = go (cases_eq x p)
    where
      l : x < length marks
      l = slice_get_within marks x true h

      go : (x ≡ p) ⊎ (x ≡ p → ⊥) → slice_get (slice_set marks p true) x ≡ Some true
      go (inl same) = ap (slice_get (slice_set marks p true)) same ∙ set_true (omega (arith, l, same))
      go (inr ne) =
          slice_get-get_or (slice_set marks p true) x false (let e : length (slice_set marks p true) ≡ length marks = length-set marks p true in omega (arith, e, l))
          ∙ ap Some (get_or-set_other marks p x true false ne)
          ∙ sym (slice_get-get_or marks x false l) ∙ h

module _ (pairs : List (ℕ × ℕ)) (seen : List ℕ) (marks : List Bool) (k p q : ℕ) (is : slice_get pairs k ≡ Some (p, q)) (h : AreMarkedTo pairs seen marks k) where
  -- a pair that cannot meet
  pub marked_skip : are_held_by seen p q ≡ false → AreMarkedTo pairs seen marks (k + 1)
  marked_skip none = record { size = h.size; first = λ j u v l hj m. h.first j u v (earlier j u v l hj m) hj m; second = λ j u v l hj m. h.second j u v (earlier j u v l hj m) hj m }
    where
      earlier : (j u v : ℕ) → j < k + 1 → slice_get pairs j ≡ Some (u, v) → are_held_by seen u v ≡ true → j < k
      earlier j u v l hj m = go (cases_eq j k)
        where
          go : (j ≡ k) ⊎ (j ≡ k → ⊥) → j < k
          go (inr ne) = omega (arith, l, ne)
          go (inl same) =
              let pair : ◌≡◌ {A = ℕ × ℕ} (u, v) (p, q) = same_Some (u, v) (p, q) (sym hj ∙ ap (slice_get pairs) same ∙ is) in
              absurd (false≢true (sym none ∙ ap (λ (z : ℕ × ℕ). are_held_by seen z.0 z.1) (sym pair) ∙ m))

  -- a pair that can meet
  pub marked_more : p < length marks → q < length marks → AreMarkedTo pairs seen (slice_set (slice_set marks p true) q true) (k + 1)
  marked_more lp lq =
      record {
        size = length-set half q true ∙ length-set marks p true ∙ h.size;
        first = λ j u v l hj m. first j u v l hj m (cases_eq j k);
        second = λ j u v l hj m. second j u v l hj m (cases_eq j k);
      }
    where
      half : List Bool
      half = slice_set marks p true

      in_half : q < length (slice_set marks p true)
      in_half = let e : length (slice_set marks p true) ≡ length marks = length-set marks p true in omega (arith, e, lq)

      at_p : slice_get (slice_set (slice_set marks p true) q true) p ≡ Some true
      at_p = keeps_true (slice_set marks p true) q p (set_true marks p lp)

      at_q : slice_get (slice_set (slice_set marks p true) q true) q ≡ Some true
      at_q = set_true (slice_set marks p true) q in_half

      pair : (j u v : ℕ) → slice_get pairs j ≡ Some (u, v) → j ≡ k → ◌≡◌ {A = ℕ × ℕ} (u, v) (p, q)
      pair j u v hj same = same_Some (u, v) (p, q) (sym hj ∙ ap (slice_get pairs) same ∙ is)

      first : (j u v : ℕ) → j < k + 1 → slice_get pairs j ≡ Some (u, v) → are_held_by seen u v ≡ true → (j ≡ k) ⊎ (j ≡ k → ⊥) → slice_get (slice_set (slice_set marks p true) q true) u ≡ Some true
      first j u v l hj m (inr ne) = keeps_true (slice_set marks p true) q u (keeps_true marks p u (h.first j u v (omega (arith, l, ne)) hj m))
      first j u v l hj m (inl same) = ap (λ (z : ℕ × ℕ). slice_get (slice_set (slice_set marks p true) q true) z.0) (pair j u v hj same) ∙ at_p

      second : (j u v : ℕ) → j < k + 1 → slice_get pairs j ≡ Some (u, v) → are_held_by seen u v ≡ true → (j ≡ k) ⊎ (j ≡ k → ⊥) → slice_get (slice_set (slice_set marks p true) q true) v ≡ Some true
      second j u v l hj m (inr ne) = keeps_true (slice_set marks p true) q v (keeps_true marks p v (h.second j u v (omega (arith, l, ne)) hj m))
      second j u v l hj m (inl same) = ap (λ (z : ℕ × ℕ). slice_get (slice_set (slice_set marks p true) q true) z.1) (pair j u v hj same) ∙ at_q

-- two agents in these states can meet
are_held : (seen : List ℕ) (p q : ℕ) → 1 ≤ get_or seen p 0 → 1 ≤ get_or seen q 0 → (p ≡ q → 2 ≤ get_or seen p 0) → are_held_by seen p q ≡ true
are_held seen p q one other two = go (eqb_tells p q)
  where
    go : ((p == q) ≡ true) × (p ≡ q) ⊎ ((p == q) ≡ false) × (p ≢ q) → are_held_by seen p q ≡ true
    go (inl same) =
        ap (λ b. if b then nat_le 2 (get_or seen p 0) else (nat_le 1 (get_or seen p 0) && nat_le 1 (get_or seen q 0))) same.0 ∙ le-leb 2 (get_or seen p 0) (two same.1)
    go (inr ne) =
        ap (λ b. if b then nat_le 2 (get_or seen p 0) else (nat_le 1 (get_or seen p 0) && nat_le 1 (get_or seen q 0))) ne.0
        ∙ and_from _ _ (le-leb 1 (get_or seen p 0) one) (le-leb 1 (get_or seen q 0) other)

-- a move for two states that react
mover : (leaf : LeafModel) (x y : ℕ) → leaf_quiet leaf x y ≡ false → (i : ℕ) × (t : Move) × (slice_get leaf.moves i ≡ Some t) × (silent_move t ≡ false) × (same_pair x y t.p t.q ≡ true)
mover leaf x y loud = go (find (takes_states x y) leaf.moves) refl
  where
    go : (found : Option Move) → find (takes_states x y) leaf.moves ≡ found → (i : ℕ) × (t : Move) × (slice_get leaf.moves i ≡ Some t) × (silent_move t ≡ false) × (same_pair x y t.p t.q ≡ true)
    go None e = absurd (false≢true (sym loud ∙ ap is_none e))
    go (Some t) e =
        let s = find_some (takes_states x y) leaf.moves t e in
        let parts = and_parts (not (silent_move t)) (same_pair x y t.p t.q) s.2 in
        (s.0, t, s.1, not-true _ parts.0, parts.1)

module _ (leaf : LeafModel) (states seen : List ℕ) (marks : List Bool) (n : ℕ) (agents : length states ≡ n) (counted : CountsTo states seen n) (marked : AreMarkedByAll (pairs_of_moves leaf.moves) seen marks) where
  there : (a x : ℕ) → slice_get states a ≡ Some x → 1 ≤ get_or seen x 0
  there a x ha = counted.once a x (let l = slice_get_within states a x ha in omega (arith, l, agents)) ha

  both : (a b x : ℕ) → a ≢ b → slice_get states a ≡ Some x → slice_get states b ≡ Some x → 2 ≤ get_or seen x 0
  both a b x ne ha hb = go (cases_order a b)
    where
      go : (a ≡ b) ⊎ ((a < b) ⊎ (b < a)) → 2 ≤ get_or seen x 0
      go (inl same) = absurd (ne same)
      go (inr (inl l)) = counted.twice a b x l (let m = slice_get_within states b x hb in omega (arith, m, agents)) ha hb
      go (inr (inr l)) = counted.twice b a x l (let m = slice_get_within states a x ha in omega (arith, m, agents)) hb ha

  pub mark_there : (a b x y : ℕ) → a ≢ b → slice_get states a ≡ Some x → slice_get states b ≡ Some y → leaf_quiet leaf x y ≡ false → slice_get marks x ≡ Some true
  mark_there a b x y ne ha hb loud =
      let m = mover leaf x y loud in
      go m.1 (in_pairs leaf.moves m.0 m.1 m.2 m.3) (same_pair_cases x y m.1.p m.1.q m.4)
    where
      go : (t : Move) → (j : ℕ) × (slice_get (pairs_of_moves leaf.moves) j ≡ Some (t.p, t.q)) → ((x ≡ t.p) × (y ≡ t.q)) ⊎ ((x ≡ t.q) × (y ≡ t.p)) → slice_get marks x ≡ Some true
      go t at (inl e) =
          let met : are_held_by seen t.p t.q ≡ true = rw (← e.0, ← e.1) (are_held seen x y (there a x ha) (there b y hb) (λ same. both a b x ne ha (hb ∙ ap Some (sym same)))) in
          ap (slice_get marks) e.0 ∙ marked.first at.0 t.p t.q (slice_get_within (pairs_of_moves leaf.moves) at.0 (t.p, t.q) at.1) at.1 met
      go t at (inr e) =
          let met : are_held_by seen t.p t.q ≡ true = rw (← e.0, ← e.1) (are_held seen y x (there b y hb) (there a x ha) (λ same. both b a y (λ e. ne (sym e)) hb (ha ∙ ap Some (sym same)))) in
          ap (slice_get marks) e.0 ∙ marked.second at.0 t.p t.q (slice_get_within (pairs_of_moves leaf.moves) at.0 (t.p, t.q) at.1) at.1 met

-- if no leaf has a move for two tuples, a reaction changes nothing
reactions_quiet : (leaves : List LeafModel) (x y : Tuple) → length x ≡ length leaves → length y ≡ length leaves → leaves_quiet leaves x y ≡ true → (map (λ z. z.0) (reactions leaves x y) ≡ x) × (map (λ z. z.1) (reactions leaves x y) ≡ y)
reactions_quiet [] [] [] hx hy q = (refl, refl)
reactions_quiet [] (p ∷ x) y hx hy q = cc
reactions_quiet [] [] (r ∷ y) hx hy q = cc
reactions_quiet (leaf ∷ leaves) [] y hx hy q = cc
reactions_quiet (leaf ∷ leaves) (p ∷ x) [] hx hy q = cc
reactions_quiet (leaf ∷ leaves) (p ∷ x) (r ∷ y) hx hy q =
    let parts = and_parts (leaf_quiet leaf p r) (leaves_quiet leaves x y) q in
    let here : leaf_reaction leaf p r ≡ (p, r) = unmoved (find (takes_states p r) leaf.moves) parts.0 in
    let rest = reactions_quiet leaves x y (ap pred hx) (ap pred hy) parts.1 in (
      ap (λ (z : ℕ × ℕ). z.0 ∷ map (λ z. z.0) (reactions leaves x y)) here ∙ ap (λ zs. p ∷ zs) rest.0,
      ap (λ (z : ℕ × ℕ). z.1 ∷ map (λ z. z.1) (reactions leaves x y)) here ∙ ap (λ zs. r ∷ zs) rest.1,
    )
  where
    unmoved : (found : Option Move) → is_none found ≡ true → by_move p r found ≡ (p, r)
    unmoved None e = refl
    unmoved (Some t) e = absurd (false≢true e)

quiet_each : (leaves : List LeafModel) (x y : Tuple) → ((i : ℕ) (leaf : LeafModel) → slice_get leaves i ≡ Some leaf → leaf_quiet leaf (state_of x i) (state_of y i) ≡ true) → leaves_quiet leaves x y ≡ true
quiet_each [] x y h = refl
quiet_each (leaf ∷ leaves) [] y h = refl
quiet_each (leaf ∷ leaves) (p ∷ x) [] h = refl
quiet_each (leaf ∷ leaves) (p ∷ x) (q ∷ y) h = and_from _ _ (h 0 leaf refl) (quiet_each leaves x y (λ i l e. h (suc i) l e))

-- an agent none of whose states is marked changes with no other
pub calm_agent : (net : NetModel) (crowd : CrowdModel) (marks : List (List Bool)) (a b : ℕ) (x y : Tuple) → All (IsTuple net) crowd → AreRestless net crowd marks → a ≢ b → slice_get crowd a ≡ Some x → slice_get crowd b ≡ Some y → IsCalm marks x → reacts net x y ≡ false
calm_agent net crowd marks a b x y tuples restless ne ha hb calm =
    let hx = All-slice_get (IsTuple net) crowd a x tuples ha in
    let hy = All-slice_get (IsTuple net) crowd b y tuples hb in
    let q = reactions_quiet net.leaves x y hx hy (quiet_each net.leaves x y each) in
    moved net x y q.0 q.1
  where
    each : (i : ℕ) (leaf : LeafModel) → slice_get net.leaves i ≡ Some leaf → leaf_quiet leaf (state_of x i) (state_of y i) ≡ true
    each i leaf h = go (leaf_quiet leaf (state_of x i) (state_of y i)) refl
      where
        l : i < length marks
        l = let m = slice_get_within net.leaves i leaf h in let e = restless.one_each in omega (arith, m, e)

        here : slice_get marks i ≡ Some (get_or marks i [])
        here = slice_get-get_or marks i [] l

        go : (b' : Bool) → leaf_quiet leaf (state_of x i) (state_of y i) ≡ b' → leaf_quiet leaf (state_of x i) (state_of y i) ≡ true
        go true e = e
        go false e =
            let m = (restless.each i leaf (get_or marks i []) h here).marked a b (state_of x i) (state_of y i) ne (slice_get-component i crowd a x ha) (slice_get-component i crowd b y hb) e in
            absurd (false≢true (same_Some false true (sym (calm i (get_or marks i []) l here) ∙ m)))

-- the marks of one more leaf
pub restless_more : (net : NetModel) (crowd : CrowdModel) (marks new : List (List Bool)) (i : ℕ) (here : List Bool) → new ≡ marks ++ here ∷ [] → ((leaf : LeafModel) → slice_get net.leaves i ≡ Some leaf → IsMarked leaf (component i crowd) here) → AreRestlessTo net crowd marks i → AreRestlessTo net crowd new (i + 1)
restless_more net crowd marks new i here e h before =
    subst (λ (ms : List (List Bool)). AreRestlessTo net crowd ms (i + 1)) (sym e)
    (record { one_each = length-append marks (here ∷ []) ∙ (let o = before.one_each in omega (arith, o)); each = λ j leaf found at is. at_place j leaf found at is (cases_eq j i) })
  where
    at_place : (j : ℕ) (leaf : LeafModel) (found : List Bool) → slice_get net.leaves j ≡ Some leaf → slice_get (marks ++ here ∷ []) j ≡ Some found → (j ≡ i) ⊎ (j ≡ i → ⊥) → IsMarked leaf (component j crowd) found
    at_place j leaf found at is (inl same) =
        let o = before.one_each in
        let last : slice_get (marks ++ here ∷ []) j ≡ Some here =
        slice_get-get_or (marks ++ here ∷ []) j [] (let l = length-append marks (here ∷ []) in omega (arith, l, o, same))
        ∙ ap (λ k. Some (get_or (marks ++ here ∷ []) k [])) (let s : j ≡ length marks = omega (arith, same, o) in s)
        ∙ ap Some (get_or-append_seam marks here [] []) in
        let this : here ≡ found = same_Some here found (sym last ∙ is) in
        subst (λ (m : List Bool). IsMarked leaf (component j crowd) m) this
        (subst (λ (k : ℕ). IsMarked leaf (component k crowd) here) (sym same) (h leaf (ap (slice_get net.leaves) (sym same) ∙ at)))
    at_place j leaf found at is (inr ne) =
        let o = before.one_each in
        let whole = slice_get_within (marks ++ here ∷ []) j found is in
        let l : j < length marks = (let a = length-append marks (here ∷ []) in omega (arith, whole, a, ne, o)) in
        before.each j leaf found at
        (slice_get-get_or marks j [] l ∙ ap Some (sym (get_or_append_left marks (here ∷ []) [] j l))
        ∙ sym (slice_get-get_or (marks ++ here ∷ []) j [] whole) ∙ is)

-- an agent without a mark changes with no later one
pub calm_below : (net : NetModel) (words : List Word) (marks : List (List Bool)) (a : ℕ) (x : Word) → slice_get words a ≡ Some x → AreRestless net (crowd_of net words) marks → IsCalm marks (tuple_of net x) → (d : ℕ) → a < d → d < length (crowd_of net words) → changes net a d (crowd_of net words) ≡ false
calm_below net words marks a x ha restless calm d l m =
    let n : d < length words = omega (arith, m, length-map words (tuple_of net)) in
    let hd = slice_get-get_or words d x n in
    changes_at net words a d x (get_or words d x) ha hd
    ∙ calm_agent net (crowd_of net words) marks a d (tuple_of net x) (tuple_of net (get_or words d x)) (crowd_tuples net words) restless (λ same. absurd (omega (arith, l, same)))
    (tuple_at net words a x ha) (tuple_at net words d (get_or words d x) hd) calm

-- an item of a mapped list
pub pairs_here : (net : NetModel) (loud : List (List (ℕ × ℕ))) (i : ℕ) (r : List (ℕ × ℕ)) → loud ≡ map (λ (leaf : LeafModel). pairs_of_moves leaf.moves) net.leaves → r ≡ get_or loud i r → (leaf : LeafModel) → slice_get net.leaves i ≡ Some leaf → r ≡ pairs_of_moves leaf.moves
pairs_here net loud i r e is leaf h =
    is ∙ ap (λ xs. get_or xs i r) e
    ∙ get_or_from_slice_get (map (λ (leaf : LeafModel). pairs_of_moves leaf.moves) net.leaves) i (pairs_of_moves leaf.moves) r
    (slice_get-map (λ (leaf : LeafModel). pairs_of_moves leaf.moves) net.leaves i ∙ ap (option_map (λ (leaf : LeafModel). pairs_of_moves leaf.moves)) h)

-- the pairs of a leaf name its states
pub pairs_in_range : (leaf : LeafModel) (pairs : List (ℕ × ℕ)) (n : ℕ) → IsLeaf leaf → pairs ≡ pairs_of_moves leaf.moves → n ≡ length leaf.states → ArePairsBelow n pairs
pairs_in_range leaf pairs n formed e same =
    subst (λ (zs : List (ℕ × ℕ)). ArePairsBelow n zs) (sym e)
    (subst (λ (m : ℕ). ArePairsBelow m (pairs_of_moves leaf.moves)) (sym same) (pairs_below (length leaf.states) leaf.moves formed.moves))

-- the marks of a leaf
pub leaf_marked : (net : NetModel) (crowd : CrowdModel) (i : ℕ) (leaf : LeafModel) (pairs : List (ℕ × ℕ)) (seen : List ℕ) (marks : List Bool) → slice_get net.leaves i ≡ Some leaf → pairs ≡ pairs_of_moves leaf.moves → AreSeen net i crowd seen → AreMarkedByAll pairs seen marks → IsMarked leaf (component i crowd) marks
leaf_marked net crowd i leaf pairs seen marks h e are marked =
    record {
      size = marked.size ∙ are.size leaf h;
      marked = mark_there leaf (component i crowd) seen marks (length crowd) (length-map crowd (λ tuple. state_of tuple i)) are.counted (subst (λ (zs : List (ℕ × ℕ)). AreMarkedByAll zs seen marks) e marked);
    }
