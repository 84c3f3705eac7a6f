-- The table of pairs of states, move by move.
use Rattle.std.proofs.Common.{◌≡◌, ◌⊎◌, inl, inr, ℕ, ◌+◌, ◌*◌, ◌<◌, ◌≤◌, min, true, false, List, length, get_or, ap, sym, subst, ◌∙◌, arith}
use Rattle.std.specs.Prelude.{Option, Some, None, slice_get}
use Rattle.std.specs.List.{slice_set}
use Rattle.std.proofs.Math.ListN.{length-set}
use Rattle.std.proofs.lemmas.Bool.{cases_eq, cases_lt, true≢false}
use Rattle.std.proofs.lemmas.List.{get_or-set_same, get_or-set_other, get_or-replicate, length-replicate}
use Rattle.pop_leaf.specs.declared.limits.TheConstants.{STATE_LIMIT}
use Rattle.cert_layers.specs.declared.pairs.TheConstants.{PAIR_COUNT, NO_LAYER}
use Rattle.pop_leaf.specs.declared.leaf.Move.{Move}
use Rattle.pop_leaf.specs.LeafModel.{LeafModel, silent_move}
use Rattle.cert_layers.specs.MoveLayers.{layer_of}
use Rattle.cert_layers.specs.Waking.{first_at, empty_table, IsPair, IsEarly, IsWakingTable}

length-empty : length empty_table ≡ PAIR_COUNT
unfolding empty_table
length-empty = length-replicate {A = ℕ} PAIR_COUNT NO_LAYER

at-empty : (n : ℕ) → n < PAIR_COUNT → get_or empty_table n 0 ≡ NO_LAYER
unfolding empty_table
at-empty n l = get_or-replicate {A = ℕ} PAIR_COUNT n NO_LAYER 0 l

-- no move yet
pub table-empty : (leaf : LeafModel) (layer_of_move : List (Option ℕ)) → IsWakingTable leaf layer_of_move 0 empty_table
table-empty leaf layer_of_move = record {
  long = length-empty;
  sound = λ i x y few xs ys e. let none = at-empty (x * STATE_LIMIT + y) (omega arith) in absurd (omega (arith, none, e));
  complete = λ i x y few xs ys e. absurd (omega (arith, e.below));
}

-- the table with the layer k for a pair of states
abbrev pub with_pair : List ℕ → ℕ → ℕ → ℕ → List ℕ
with_pair table a b k = slice_set table (a * STATE_LIMIT + b) (min (first_at table a b) k)

module _ (table : List ℕ) (a b k : ℕ) (long : length table ≡ PAIR_COUNT) (a_in : a < STATE_LIMIT) (b_in : b < STATE_LIMIT) where
  at_same : first_at (with_pair table a b k) a b ≡ min (first_at table a b) k
  at_same = get_or-set_same table (a * STATE_LIMIT + b) (min (first_at table a b) k) 0 (omega (arith, long))

  at_other : (x y : ℕ) → x < STATE_LIMIT → y < STATE_LIMIT → ((x ≡ a) × (y ≡ b) → ⊥) → first_at (with_pair table a b k) x y ≡ first_at table x y
  at_other x y xs ys other = get_or-set_other table (a * STATE_LIMIT + b) (x * STATE_LIMIT + y) (min (first_at table a b) k) 0 (λ e. other (omega arith, omega arith))

  abbrev Here : ℕ → ℕ → Type 0
  Here x y = (x ≡ a) × (y ≡ b)

  here_or_not : (x y : ℕ) → Here x y ⊎ (Here x y → ⊥)
  here_or_not x y = elim (cases_eq x a) [
    | inl e ↦ elim (cases_eq y b) as (λ _. Here x y ⊎ (Here x y → ⊥)) [ inl f ↦ inl (e, f) | inr g ↦ inr (λ h. g h.1) ]
    | inr g ↦ inr (λ h. g h.0)
  ]

  pub with_pair-sound : (i x y : ℕ) → x < STATE_LIMIT → y < STATE_LIMIT → first_at (with_pair table a b k) x y < i → (first_at table x y < i) ⊎ (Here x y × (k < i))
  with_pair-sound i x y xs ys l = by_case (here_or_not x y)
    where
      by_case : Here x y ⊎ (Here x y → ⊥) → (first_at table x y < i) ⊎ (Here x y × (k < i))
      by_case (inl h) =
          let value : first_at (with_pair table a b k) x y ≡ min (first_at table x y) k = rw (h.0, h.1) at_same in
          elim (cases_lt (first_at table x y) i) [ inl old ↦ inl old | inr past ↦ inr (h, omega (arith, l, value, past)) ]
      by_case (inr other) = let value = at_other x y xs ys other in inl (omega (arith, l, value))

  pub with_pair-complete : (i x y : ℕ) → x < STATE_LIMIT → y < STATE_LIMIT → (first_at table x y < i) ⊎ (Here x y × (k < i)) → first_at (with_pair table a b k) x y < i
  with_pair-complete i x y xs ys l = by_case (here_or_not x y) l
    where
      by_case : Here x y ⊎ (Here x y → ⊥) → (first_at table x y < i) ⊎ (Here x y × (k < i)) → first_at (with_pair table a b k) x y < i
      by_case (inl h) (inl old) =
          let value : first_at (with_pair table a b k) x y ≡ min (first_at table x y) k = rw (h.0, h.1) at_same in omega (arith, value, old)
      by_case (inl h) (inr new) =
          let value : first_at (with_pair table a b k) x y ≡ min (first_at table x y) k = rw (h.0, h.1) at_same in omega (arith, value, new.1)
      by_case (inr other) (inl old) = let value = at_other x y xs ys other in omega (arith, value, old)
      by_case (inr other) (inr new) = absurd (other new.0)

  pub length-with_pair : length (with_pair table a b k) ≡ PAIR_COUNT
  length-with_pair = simp length-set long

-- an early move stays early
later : (leaf : LeafModel) (layer_of_move : List (Option ℕ)) (n i x y : ℕ) → IsEarly leaf layer_of_move n i x y → IsEarly leaf layer_of_move (n + 1) i x y
later leaf layer_of_move n i x y e = record {
  number = e.number;
  layer = e.layer;
  taken = e.taken;
  below = (let l : e.number < n + 1 = omega (arith, e.below) in l);
  move_is = e.move_is;
  non_silent = e.non_silent;
  layer_is = e.layer_is;
  before = e.before;
  takes = e.takes;
}

module _ (leaf : LeafModel) (layer_of_move : List (Option ℕ)) (n : ℕ) (table : List ℕ) (h : IsWakingTable leaf layer_of_move n table) (t : Move) (move : slice_get leaf.moves n ≡ Some t) where
  -- an early move is one of those before, or this one
  before_or_now : (i x y : ℕ) → IsEarly leaf layer_of_move (n + 1) i x y → IsEarly leaf layer_of_move n i x y ⊎ ((silent_move t ≡ false) × (k : ℕ) × (layer_of layer_of_move n ≡ Some k) × (k < i) × IsPair x y t)
  before_or_now i x y e = by_case (cases_lt e.number n)
    where
      now : e.number ≡ n → (silent_move t ≡ false) × (k : ℕ) × (layer_of layer_of_move n ≡ Some k) × (k < i) × IsPair x y t
      now same =
          let found : Some e.taken ≡ Some t = sym e.move_is ∙ ap (slice_get leaf.moves) same ∙ move in
          let taken : e.taken ≡ t = cc in
          (ap silent_move (sym taken) ∙ e.non_silent, e.layer, ap (layer_of layer_of_move) (sym same) ∙ e.layer_is, e.before, subst (λ (u : Move). IsPair x y u) taken e.takes)

      by_case : (e.number < n) ⊎ (n ≤ e.number) → IsEarly leaf layer_of_move n i x y ⊎ ((silent_move t ≡ false) × (k : ℕ) × (layer_of layer_of_move n ≡ Some k) × (k < i) × IsPair x y t)
      by_case (inl old) = inl (record {
        number = e.number;
        layer = e.layer;
        taken = e.taken;
        below = old;
        move_is = e.move_is;
        non_silent = e.non_silent;
        layer_is = e.layer_is;
        before = e.before;
        takes = e.takes;
      })
      by_case (inr past) = inr (now (let same : e.number ≡ n = omega (arith, e.below) in same))

  -- a move that is silent, or in no layer, changes nothing
  pub table-skip : (silent_move t ≡ true) ⊎ (layer_of layer_of_move n ≡ None) → IsWakingTable leaf layer_of_move (n + 1) table
  table-skip why = record {
    long = h.long;
    sound = λ i x y few xs ys e. later leaf layer_of_move n i x y (h.sound i x y few xs ys e);
    complete = λ i x y few xs ys e. h.complete i x y few xs ys (old i x y (before_or_now i x y e));
  }
    where
      old : (i x y : ℕ) → IsEarly leaf layer_of_move n i x y ⊎ ((silent_move t ≡ false) × (k : ℕ) × (layer_of layer_of_move n ≡ Some k) × (k < i) × IsPair x y t) → IsEarly leaf layer_of_move n i x y
      old i x y (inl e) = e
      old i x y (inr e) = absurd (elim why as (λ _. ⊥) [
        | inl silent ↦ true≢false (sym silent ∙ e.0)
        | inr none ↦ (let clash : None ≡ Some e.1 = sym none ∙ e.2 in let never : ⊥ = cc in never)
      ])

  -- a move of a layer is entered both ways
  pub table-enter : (k : ℕ) → silent_move t ≡ false → layer_of layer_of_move n ≡ Some k → t.p < STATE_LIMIT → t.q < STATE_LIMIT → IsWakingTable leaf layer_of_move (n + 1) (with_pair (with_pair table t.p t.q k) t.q t.p k)
  table-enter k loud place ps qs = record {
    long = length-with_pair first t.q t.p k first_long qs ps;
    sound = λ i x y few xs ys e. new i x y few xs ys (with_pair-sound first t.q t.p k first_long qs ps i x y xs ys e);
    complete = λ i x y few xs ys e. known i x y few xs ys (before_or_now i x y e);
  }
    where
      first : List ℕ
      first = with_pair table t.p t.q k

      first_long : length (with_pair table t.p t.q k) ≡ PAIR_COUNT
      first_long = length-with_pair table t.p t.q k h.long ps qs

      this : (i x y : ℕ) → k < i → IsPair x y t → IsEarly leaf layer_of_move (n + 1) i x y
      this i x y before pair = record {
        number = n;
        layer = k;
        taken = t;
        below = (let l : n < n + 1 = omega arith in l);
        move_is = move;
        non_silent = loud;
        layer_is = place;
        before = before;
        takes = pair;
      }

      new : (i x y : ℕ) → i ≤ NO_LAYER → x < STATE_LIMIT → y < STATE_LIMIT → (first_at (with_pair table t.p t.q k) x y < i) ⊎ (((x ≡ t.q) × (y ≡ t.p)) × (k < i)) → IsEarly leaf layer_of_move (n + 1) i x y
      new i x y few xs ys (inl e) = elim (with_pair-sound table t.p t.q k h.long ps qs i x y xs ys e) as (λ _. IsEarly leaf layer_of_move (n + 1) i x y) [
        | inl old ↦ later leaf layer_of_move n i x y (h.sound i x y few xs ys old)
        | inr here ↦ this i x y here.1 (inl here.0)
      ]
      new i x y few xs ys (inr here) = this i x y here.1 (inr here.0)

      known : (i x y : ℕ) → i ≤ NO_LAYER → x < STATE_LIMIT → y < STATE_LIMIT → IsEarly leaf layer_of_move n i x y ⊎ ((silent_move t ≡ false) × (j : ℕ) × (layer_of layer_of_move n ≡ Some j) × (j < i) × IsPair x y t) → first_at (with_pair (with_pair table t.p t.q k) t.q t.p k) x y < i
      known i x y few xs ys (inl old) =
          with_pair-complete (with_pair table t.p t.q k) t.q t.p k first_long qs ps i x y xs ys
          (inl (with_pair-complete table t.p t.q k h.long ps qs i x y xs ys (inl (h.complete i x y few xs ys old))))
      known i x y few xs ys (inr e) =
          let found : Some k ≡ Some e.1 = sym place ∙ e.2 in
          let same : k ≡ e.1 = cc in
          let before : k < i = omega (arith, same, e.3) in
          elim e.4 as (λ _. first_at (with_pair (with_pair table t.p t.q k) t.q t.p k) x y < i) [
            | inl pair ↦ with_pair-complete (with_pair table t.p t.q k) t.q t.p k first_long qs ps i x y xs ys (inl (with_pair-complete table t.p t.q k h.long ps qs i x y xs ys (inr (pair, before))))
            | inr pair ↦ with_pair-complete (with_pair table t.p t.q k) t.q t.p k first_long qs ps i x y xs ys (inr (pair, before))
          ]
