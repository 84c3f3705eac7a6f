-- A table of reactions, entry by entry.
use Rattle.std.proofs.Common.{◌≡◌, ◌≢◌, ◌⊎◌, inl, inr, ℕ, zero, suc, ◌+◌, ◌-◌, ◌*◌, ◌/◌, ◌%◌, ◌<◌, Bool, true, false, not, cond, List, [], ◌∷◌, ◌++◌, length, drop, take, get_or, refl, ap, sym, subst, ◌∙◌, arith}
use Rattle.std.specs.Prelude.{All, Some, ◌==◌, ◌&&◌, ◌||◌, if◌then◌else◌, find, slice_get, slice_set}
use Rattle.std.proofs.lemmas.Nat.{mul-add-lt, div-mul-add, mod-mul-add, same_from_place}
use Rattle.std.proofs.lemmas.Bool.Decides.{eqb_tells}
use Rattle.std.proofs.lemmas.List.{length-append, length-set, get_or_append_left}
use Rattle.std.proofs.Math.Seq.{get_or-append_seam, take-append_seam}
use Rattle.std.proofs.lemmas.Option.{slice_get-get_or, same_Some}
use Rattle.pop_leaf.specs.declared.leaf.Move.{Move}
use Rattle.pop_leaf.specs.LeafModel.{silent_move, same_pair, IsMoveBelow}
use Rattle.pop_leaf.specs.Reaction.{takes_states, after_move, by_move}
use Rattle.pop_leaf.proofs.Quiet.{All-slice_get}
use Rattle.pop_leaf.specs.ReactionTable.{IsTable, with_reaction}
use Rattle.base_laws.proofs.Lists.{get-set_same, slice_get-set_apart}

pub place_in : (n x y : ℕ) → x < n → y < n → x * n + y < n * n
place_in n x y lx ly = mul-add-lt x n y n lx ly

-- a table of no moves, built place by place
pub record IsStill (n k : ℕ) (table : List (ℕ × ℕ)) : Type 0 where
  pub size : length table ≡ k
  pub entry : (j : ℕ) → j < k → slice_get table j ≡ Some (j / n, j % n)

pub still_more : (n k : ℕ) (table : List (ℕ × ℕ)) (x y : ℕ) → x ≡ k / n → y ≡ k % n → IsStill n k table → IsStill n (k + 1) (table ++ (x, y) ∷ [])
still_more n k table x y ex ey h =
    record {
      size = length-append table ((x, y) ∷ []) ∙ (let s = h.size in omega (arith, s));
      entry = λ j l. at j l (eqb_tells j k);
    }
  where
    at : (j : ℕ) → j < k + 1 → ((j == k) ≡ true) × (j ≡ k) ⊎ ((j == k) ≡ false) × (j ≢ k) → slice_get (table ++ (x, y) ∷ []) j ≡ Some (j / n, j % n)
    at j l (inr ne) =
        let d = ne.1 in
        let s = h.size in
        let low : j < length table = omega (arith, l, d, s) in
        slice_get-get_or (table ++ (x, y) ∷ []) j (0, 0) (let e = length-append table ((x, y) ∷ []) in omega (arith, e, low))
        ∙ ap Some (get_or_append_left table ((x, y) ∷ []) (0, 0) j low)
        ∙ sym (slice_get-get_or table j (0, 0) low) ∙ h.entry j (omega (arith, l, d))
    at j l (inl e) =
        let same = e.1 in
        let s = h.size in
        slice_get-get_or (table ++ (x, y) ∷ []) j (0, 0) (let e = length-append table ((x, y) ∷ []) in omega (arith, e, same, s))
        ∙ ap (λ i. Some (get_or (table ++ (x, y) ∷ []) i (0, 0))) (let e : j ≡ length table = omega (arith, same, s) in e)
        ∙ ap Some (get_or-append_seam table (x, y) [] (0, 0))
        ∙ ap (λ z. Some (z, y)) ex ∙ ap (λ z. Some (k / n, z)) ey ∙ ap (λ i. Some (i / n, i % n)) (sym same)

pub still_table : (n : ℕ) (table : List (ℕ × ℕ)) → IsStill n (n * n) table → IsTable n [] table
still_table n table h =
    record {
      size = h.size;
      entry = λ x y lx ly.
          h.entry (x * n + y) (place_in n x y lx ly)
          ∙ ap (λ r. Some (r, (x * n + y) % n)) (div-mul-add x n y ly)
          ∙ ap (λ c. Some (x, c)) (mod-mul-add x n y ly);
    }

module _ (n : ℕ) (t : Move) (rest : List Move) (table : List (ℕ × ℕ)) (below : IsMoveBelow n t) (h : IsTable n rest table) where
  module _ (x y : ℕ) where
    abbrev pub by_choice : Bool → Bool → ℕ × ℕ
    by_choice true first = after_move first t
    by_choice false first = by_move x y (find (takes_states x y) rest)

    chosen : (b : Bool) → by_move x y (cond b (Some t) (find (takes_states x y) rest)) ≡ by_choice b ((x == t.p) && (y == t.q))
    chosen true = refl
    chosen false = refl

    pub after : (s a b c d : Bool) → silent_move t ≡ s → (x == t.p) ≡ a → (y == t.q) ≡ b → (x == t.q) ≡ c → (y == t.p) ≡ d → by_move x y (find (takes_states x y) (t ∷ rest)) ≡ by_choice (not s && (a && b || c && d)) (a && b)
    after s a b c d es ea eb ec ed =
        chosen (takes_states x y t)
        ∙ ap (λ s. by_choice (not s && same_pair x y t.p t.q) ((x == t.p) && (y == t.q))) es
        ∙ ap (λ a. by_choice (not s && (a && (y == t.q) || (x == t.q) && (y == t.p))) (a && (y == t.q))) ea
        ∙ ap (λ b. by_choice (not s && (a && b || (x == t.q) && (y == t.p))) (a && b)) eb
        ∙ ap (λ c. by_choice (not s && (a && b || c && (y == t.p))) (a && b)) ec
        ∙ ap (λ d. by_choice (not s && (a && b || c && d)) (a && b)) ed

  still : silent_move t ≡ true → IsTable n (t ∷ rest) table
  still e = record { size = h.size; entry = λ x y lx ly. h.entry x y lx ly ∙ sym (ap Some (after x y true (x == t.p) (y == t.q) (x == t.q) (y == t.p) e refl refl refl refl)) }

  abbrev half : List (ℕ × ℕ)
  half = slice_set table (t.q * n + t.p) (t.s, t.r)

  abbrev whole : List (ℕ × ℕ)
  whole = slice_set half (t.p * n + t.q) (t.r, t.s)

  half_size : length half ≡ n * n
  half_size = length-set table (t.q * n + t.p) (t.s, t.r) ∙ h.size

  module _ (e : silent_move t ≡ false) (x y : ℕ) (lx : x < n) (ly : y < n) where
    abbrev Entry : Type 0
    Entry = slice_get whole (x * n + y) ≡ Some (by_move x y (find (takes_states x y) (t ∷ rest)))

    in_half : x * n + y < length half
    in_half = let l = place_in n x y lx ly in omega (arith, l, half_size)

    in_table : x * n + y < length table
    in_table = let l = place_in n x y lx ly in let s = h.size in omega (arith, l, s)

    first_way : (x == t.p) ≡ true → (y == t.q) ≡ true → x ≡ t.p → y ≡ t.q → Entry
    first_way ea eb ex ey =
        let place : x * n + y ≡ t.p * n + t.q = ap (λ x. x * n + y) ex ∙ ap (λ y. t.p * n + y) ey in
        ap (slice_get whole) place
        ∙ get-set_same half (t.p * n + t.q) (t.r, t.s) (let l = in_half in omega (arith, l, place))
        ∙ sym (ap Some (after x y false true true (x == t.q) (y == t.p) e ea eb refl refl))

    module _ (a b : Bool) (ea : (x == t.p) ≡ a) (eb : (y == t.q) ≡ b) (not_first : a && b ≡ false) (ne : (x ≡ t.p) × (y ≡ t.q) → ⊥) where
      past_first : slice_get whole (x * n + y) ≡ slice_get half (x * n + y)
      past_first =
          slice_get-set_apart half (t.p * n + t.q) (x * n + y) (t.r, t.s) (λ same. ne (same_from_place x y t.p t.q n ly below.1 (sym same)))

      second_way : (x == t.q) ≡ true → (y == t.p) ≡ true → x ≡ t.q → y ≡ t.p → Entry
      second_way ec ed ex ey =
          let place : x * n + y ≡ t.q * n + t.p = ap (λ x. x * n + y) ex ∙ ap (λ y. t.q * n + y) ey in
          past_first ∙ ap (slice_get half) place
          ∙ get-set_same table (t.q * n + t.p) (t.s, t.r) (let l = in_table in omega (arith, l, place))
          ∙ sym (ap Some (after x y false a b true true e ea eb ec ed ∙ ap (λ z. by_choice x y (z || true) z) not_first))

      neither : (c d : Bool) → (x == t.q) ≡ c → (y == t.p) ≡ d → c && d ≡ false → ((x ≡ t.q) × (y ≡ t.p) → ⊥) → Entry
      neither c d ec ed not_second ne2 =
          past_first
          ∙ slice_get-set_apart table (t.q * n + t.p) (x * n + y) (t.s, t.r) (λ same. ne2 (same_from_place x y t.q t.p n ly below.0 (sym same)))
          ∙ h.entry x y lx ly
          ∙ sym (ap Some (after x y false a b c d e ea eb ec ed ∙ ap (λ z. by_choice x y (z || c && d) z) not_first ∙ ap (λ z. by_choice x y z false) not_second))

      beyond : ((x == t.q) ≡ true) × (x ≡ t.q) ⊎ ((x == t.q) ≡ false) × (x ≢ t.q) → ((y == t.p) ≡ true) × (y ≡ t.p) ⊎ ((y == t.p) ≡ false) × (y ≢ t.p) → Entry
      beyond (inl c) (inl d) = second_way c.0 d.0 c.1 d.1
      beyond (inl c) (inr d) = neither true false c.0 d.0 refl (λ w. d.1 w.1)
      beyond (inr c) (inl d) = neither false true c.0 d.0 refl (λ w. c.1 w.0)
      beyond (inr c) (inr d) = neither false false c.0 d.0 refl (λ w. c.1 w.0)

    entry_at : ((x == t.p) ≡ true) × (x ≡ t.p) ⊎ ((x == t.p) ≡ false) × (x ≢ t.p) → ((y == t.q) ≡ true) × (y ≡ t.q) ⊎ ((y == t.q) ≡ false) × (y ≢ t.q) → Entry
    entry_at (inl a) (inl b) = first_way a.0 b.0 a.1 b.1
    entry_at (inl a) (inr b) = beyond true false a.0 b.0 refl (λ w. b.1 w.1) (eqb_tells x t.q) (eqb_tells y t.p)
    entry_at (inr a) (inl b) = beyond false true a.0 b.0 refl (λ w. a.1 w.0) (eqb_tells x t.q) (eqb_tells y t.p)
    entry_at (inr a) (inr b) = beyond false false a.0 b.0 refl (λ w. a.1 w.0) (eqb_tells x t.q) (eqb_tells y t.p)

  loud : silent_move t ≡ false → IsTable n (t ∷ rest) whole
  loud e = record {
    size = length-set half (t.p * n + t.q) (t.r, t.s) ∙ half_size;
    entry = λ x y lx ly. entry_at e x y lx ly (eqb_tells x t.p) (eqb_tells y t.q);
  }

  by_test : (s : Bool) → silent_move t ≡ s → IsTable n (t ∷ rest) (if s then table else whole)
  by_test true e = still e
  by_test false e = loud e

  pub entered-table : IsTable n (t ∷ rest) (with_reaction n t table)
  entered-table = by_test (silent_move t) refl

drop-slice_get : {A : Type 0} (xs : List A) (k : ℕ) (x : A) → slice_get xs k ≡ Some x → drop k xs ≡ x ∷ drop (suc k) xs
drop-slice_get [] k x e = cc
drop-slice_get (y ∷ xs) zero x e = let same : y ≡ x = cc in ap (λ z. z ∷ xs) same
drop-slice_get (y ∷ xs) (suc k) x e = drop-slice_get xs k x e

-- a slice that was written completely
pub all_written : {A : Type 0} (new old : List A) (n : ℕ) → n ≡ length new → take n (new ++ drop (length new) old) ≡ new
all_written new old n e = ap (λ k. take k (new ++ drop (length new) old)) e ∙ take-append_seam new (drop (length new) old)

-- one more move, from the last to the first
pub one_earlier : (n i : ℕ) (moves : List Move) (t : Move) (table : List (ℕ × ℕ)) → All (IsMoveBelow n) moves → i < length moves → slice_get moves (length moves - 1 - i) ≡ Some t → IsTable n (drop (length moves - i) moves) table → IsTable n (drop (length moves - (i + 1)) moves) (with_reaction n t table)
one_earlier n i moves t table below l is h =
    let k = length moves - 1 - i in
    let next : length moves - i ≡ k + 1 = omega arith in
    let here : length moves - (i + 1) ≡ k = omega arith in
    let before : IsTable n (drop (k + 1) moves) table = subst (λ (m : ℕ). IsTable n (drop m moves) table) next h in
    let cut : drop k moves ≡ t ∷ drop (k + 1) moves =
    drop-slice_get moves k t is ∙ ap (λ m. t ∷ drop m moves) (let s : suc k ≡ k + 1 = omega arith in s) in
    subst (λ (m : ℕ). IsTable n (drop m moves) (with_reaction n t table)) (sym here)
    (subst (λ (ms : List Move). IsTable n ms (with_reaction n t table)) (sym cut)
    (entered-table n t (drop (k + 1) moves) table (All-slice_get (IsMoveBelow n) moves k t below is) before))

-- a move that was entered into the slice of a table
pub entered_slice : (n i : ℕ) (moves : List Move) (d : Move) (old slice new : List (ℕ × ℕ)) (len : ℕ) → All (IsMoveBelow n) moves → i < length moves → new ≡ with_reaction n (get_or moves (length moves - 1 - i) d) slice → slice ≡ old → len ≡ length old → IsTable n (drop (length moves - i) moves) old → IsTable n (drop (length moves - (i + 1)) moves) (take len (new ++ drop (length new) old))
entered_slice n i moves d old slice new len below l made value long h =
    let k = length moves - 1 - i in
    let t = get_or moves k d in
    let here : slice_get moves k ≡ Some t = slice_get-get_or moves k d (omega arith) in
    let e : new ≡ with_reaction n t old = made ∙ ap (with_reaction n t) value in
    let next : IsTable n (drop (length moves - (i + 1)) moves) new =
    subst (IsTable n (drop (length moves - (i + 1)) moves)) (sym e) (one_earlier n i moves t old below l here h) in
    let size : len ≡ length new = long ∙ h.size ∙ sym next.size in
    subst (IsTable n (drop (length moves - (i + 1)) moves)) (sym (all_written new old len size)) next

-- the table's entry is the reaction
pub entry_read : (n x y : ℕ) (moves : List Move) (table : List (ℕ × ℕ)) (d : ℕ × ℕ) (len : ℕ) → IsTable n moves table → x < n → y < n → len ≡ n → get_or table (x * len + y) d ≡ by_move x y (find (takes_states x y) moves)
entry_read n x y moves table d len h lx ly e =
    let s = h.size in
    let place : x * len + y ≡ x * n + y = ap (λ m. x * m + y) e in
    let within : x * n + y < length table = let l = place_in n x y lx ly in omega (arith, l, s) in
    ap (λ k. get_or table k d) place ∙ same_Some _ _ (sym (slice_get-get_or table (x * n + y) d within) ∙ h.entry x y lx ly)
