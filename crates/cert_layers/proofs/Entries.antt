-- Moves entered with their layers, one after the other.
use Rattle.std.proofs.Common.{◌≡◌, ◌≢◌, ◌⊎◌, inl, inr, ℕ, zero, suc, ◌<◌, ◌≤◌, Bool, true, false, not, ◌&&◌, List, [], ◌∷◌, ◌++◌, length, map, get_or, refl, ap, sym, ◌∙◌, arith, append_assoc, append-nil, length-append, if◌then◌else◌}
use Rattle.std.specs.Prelude.{Option, Some, None, is_some, nat_lt, All, AllPairs, Contains, option_and_then}
use Rattle.std.specs.List.{slice_set}
use Rattle.std.proofs.lemmas.Bool.{and_parts, and_cases, not-true, not-false, ltb-true, ltb-false, cases_eq}
use Rattle.std.proofs.lemmas.List.{get_or-set_same, get_or-set_other, get_or_default, get_or_append_left}
use Rattle.std.proofs.lemmas.List.Elements.{Contains-append_left, Contains-append_right, Contains-append_cases, All-head, All-tail}
use Rattle.std.proofs.lemmas.List.Quantifiers.{all_pairs_push}
use Rattle.std.proofs.Math.ListN.{length-set}
use Rattle.std.proofs.Math.Seq.{get_or-append_seam}
use Rattle.cert_layers.specs.MoveLayers.{layer_of, enter, enter_all}

-- two entries of different moves
abbrev pub Apart : ℕ × ℕ → ℕ × ℕ → Type 0
Apart e f = e.0 ≢ f.0

-- the layers of the moves are those of the entries, and no move is entered twice
pub record Holds (count : ℕ) (layer_of_move : List (Option ℕ)) (entries : List (ℕ × ℕ)) : Type 0 where
  pub long : length layer_of_move ≡ count
  pub each : (n i : ℕ) → layer_of layer_of_move n ≡ Some i → Contains entries (n, i)
  pub all : (e : ℕ × ℕ) → Contains entries e → layer_of layer_of_move e.0 ≡ Some e.1
  pub once : AllPairs Apart entries

-- what an entry requires, and what it gives
pub entered : (layer_of_move : List (Option ℕ)) (i n : ℕ) (more : List (Option ℕ)) → enter layer_of_move i n ≡ Some more → (n < length layer_of_move) × (layer_of layer_of_move n ≡ None) × (more ≡ slice_set layer_of_move n (Some i))
entered layer_of_move i n more is = by_test (nat_lt n (length layer_of_move) && not (is_some (layer_of layer_of_move n))) refl is
  where
    none : (o : Option ℕ) → is_some o ≡ false → o ≡ None
    none None e = refl
    none (Some j) e = cc

    by_test : (b : Bool) → (nat_lt n (length layer_of_move) && not (is_some (layer_of layer_of_move n))) ≡ b → (if b then Some (slice_set layer_of_move n (Some i)) else None) ≡ Some more → (n < length layer_of_move) × (layer_of layer_of_move n ≡ None) × (more ≡ slice_set layer_of_move n (Some i))
    by_test true e h =
        let parts = and_parts (nat_lt n (length layer_of_move)) (not (is_some (layer_of layer_of_move n))) e in
        (ltb-true n (length layer_of_move) parts.0, none (layer_of layer_of_move n) (not-true (is_some (layer_of layer_of_move n)) parts.1), cc)
    by_test false e h = cc

pub not_entered : (layer_of_move : List (Option ℕ)) (i n : ℕ) → enter layer_of_move i n ≡ None → (length layer_of_move ≤ n) ⊎ ((j : ℕ) × (layer_of layer_of_move n ≡ Some j))
not_entered layer_of_move i n is = by_test (nat_lt n (length layer_of_move) && not (is_some (layer_of layer_of_move n))) refl is
  where
    some : (o : Option ℕ) → is_some o ≡ true → (j : ℕ) × (o ≡ Some j)
    some None e = cc
    some (Some j) e = (j, refl)

    by_test : (b : Bool) → (nat_lt n (length layer_of_move) && not (is_some (layer_of layer_of_move n))) ≡ b → (if b then Some (slice_set layer_of_move n (Some i)) else None) ≡ None → (length layer_of_move ≤ n) ⊎ ((j : ℕ) × (layer_of layer_of_move n ≡ Some j))
    by_test true e h = cc
    by_test false e h = elim (and_cases (nat_lt n (length layer_of_move)) (not (is_some (layer_of layer_of_move n))) e) [
      | inl past ↦ inl (ltb-false n (length layer_of_move) past)
      | inr full ↦ inr (some (layer_of layer_of_move n) (not-false (is_some (layer_of layer_of_move n)) full))
    ]

only : (e f : ℕ × ℕ) → Contains (f ∷ []) e → f ≡ e
only e f (zero, l, is) = is
only e f (suc k, l, is) = absurd (omega (arith, l))

last : (entries : List (ℕ × ℕ)) (e : ℕ × ℕ) → Contains (entries ++ e ∷ []) e
last entries e = Contains-append_right entries (e ∷ []) e (0, (let l : 0 < 1 = omega arith in l), refl)

module _ (count : ℕ) (layer_of_move : List (Option ℕ)) (entries : List (ℕ × ℕ)) (i n : ℕ) (h : Holds count layer_of_move entries) (lt : n < length layer_of_move) (none : layer_of layer_of_move n ≡ None) where
  after : List (Option ℕ)
  after = slice_set layer_of_move n (Some i)

  same_place : layer_of (slice_set layer_of_move n (Some i)) n ≡ Some i
  same_place = get_or-set_same layer_of_move n (Some i) None lt

  other_place : (m : ℕ) → m ≢ n → layer_of (slice_set layer_of_move n (Some i)) m ≡ layer_of layer_of_move m
  other_place m ne = get_or-set_other layer_of_move n m (Some i) None ne

  fresh : (e : ℕ × ℕ) → Contains entries e → e.0 ≢ n
  fresh e c same =
      let full : layer_of layer_of_move n ≡ Some e.1 = sym (ap (layer_of layer_of_move) same) ∙ h.all e c in
      let clash : None ≡ Some e.1 = sym none ∙ full in cc

  each_after : (m j : ℕ) → layer_of (slice_set layer_of_move n (Some i)) m ≡ Some j → Contains (entries ++ (n, i) ∷ []) (m, j)
  each_after m j is = by_case (cases_eq m n)
    where
      by_case : (m ≡ n) ⊎ (m ≡ n → ⊥) → Contains (entries ++ (n, i) ∷ []) (m, j)
      by_case (inl same) =
          let found : Some j ≡ Some i = sym is ∙ ap (layer_of (slice_set layer_of_move n (Some i))) same ∙ same_place in
          let layer : j ≡ i = cc in
          rw (same, layer) (last entries (n, i))
      by_case (inr other) = Contains-append_left entries ((n, i) ∷ []) (m, j) (h.each m j (sym (other_place m other) ∙ is))

  all_after : (e : ℕ × ℕ) → Contains (entries ++ (n, i) ∷ []) e → layer_of (slice_set layer_of_move n (Some i)) e.0 ≡ Some e.1
  all_after e c = by_case (Contains-append_cases entries ((n, i) ∷ []) e c)
    where
      by_case : Contains entries e ⊎ Contains ((n, i) ∷ []) e → layer_of (slice_set layer_of_move n (Some i)) e.0 ≡ Some e.1
      by_case (inl old) = other_place e.0 (fresh e old) ∙ h.all e old
      by_case (inr new) = let same = only e (n, i) new in rw (← same) same_place

  once_after : AllPairs Apart (entries ++ (n, i) ∷ [])
  once_after = all_pairs_push Apart entries (n, i) h.once (λ k d l. fresh (get_or entries k d) (k, l, get_or_default entries k (get_or entries k d) d l))

-- one more entry
pub holds-enter : (count : ℕ) (layer_of_move : List (Option ℕ)) (entries : List (ℕ × ℕ)) (i n : ℕ) (more : List (Option ℕ)) → Holds count layer_of_move entries → enter layer_of_move i n ≡ Some more → Holds count more (entries ++ (n, i) ∷ [])
holds-enter count layer_of_move entries i n more h is =
    let e = entered layer_of_move i n more is in
    rw e.2
    (record {
      long = simp length-set h.long;
      each = each_after count layer_of_move entries i n h e.0 e.1;
      all = all_after count layer_of_move entries i n h e.0 e.1;
      once = once_after count layer_of_move entries i n h e.0 e.1;
    })

-- the entries of a list of moves in one layer
abbrev pub tagged : ℕ → List ℕ → List (ℕ × ℕ)
tagged i ns = map (λ n. (n, i)) ns

-- more entries of one layer
pub holds-enter_all : (count : ℕ) (layer_of_move : List (Option ℕ)) (entries : List (ℕ × ℕ)) (i : ℕ) (ns : List ℕ) (more : List (Option ℕ)) → Holds count layer_of_move entries → enter_all layer_of_move i ns ≡ Some more → Holds count more (entries ++ tagged i ns)
holds-enter_all count layer_of_move entries i [] more h is =
    let same : layer_of_move ≡ more = cc in rw (append-nil entries, ← same) h
holds-enter_all count layer_of_move entries i (n ∷ ns) more h is = by_first (λ next k f. holds-enter_all count next (entries ++ (n, i) ∷ []) i ns more k f) (enter layer_of_move i n) refl is
  where
    by_first : ((next : List (Option ℕ)) → Holds count next (entries ++ (n, i) ∷ []) → enter_all next i ns ≡ Some more → Holds count more ((entries ++ (n, i) ∷ []) ++ tagged i ns)) → (o : Option (List (Option ℕ))) → enter layer_of_move i n ≡ o → option_and_then (λ m. enter_all m i ns) o ≡ Some more → Holds count more (entries ++ tagged i (n ∷ ns))
    by_first go None e f = cc
    by_first go (Some next) e f =
        let rest = go next (holds-enter count layer_of_move entries i n next h e) f in
        rw (append_assoc entries ((n, i) ∷ []) (tagged i ns)) at rest

-- a move that cannot be entered is out of range or listed twice
pub fails-enter_all : (count : ℕ) (layer_of_move : List (Option ℕ)) (entries : List (ℕ × ℕ)) (i : ℕ) (ns : List ℕ) → Holds count layer_of_move entries → enter_all layer_of_move i ns ≡ None → All (λ n. n < count) ns → AllPairs Apart (entries ++ tagged i ns) → ⊥
fails-enter_all count layer_of_move entries i [] h is range once = cc
fails-enter_all count layer_of_move entries i (n ∷ ns) h is range once =
    by_first (λ next k f. fails-enter_all count next (entries ++ (n, i) ∷ []) i ns k f (All-tail (λ (n : ℕ). n < count) n ns range) (rw (append_assoc entries ((n, i) ∷ []) (tagged i ns)) once)) (enter layer_of_move i n) refl is
  where
    twice : (j : ℕ) → layer_of layer_of_move n ≡ Some j → ⊥
    twice j full =
        let c = h.each n j full in
        let total = entries ++ tagged i (n ∷ ns) in
        let before : get_or total c.0 (n, j) ≡ (n, j) = get_or_append_left entries (tagged i (n ∷ ns)) (n, j) c.0 c.1 ∙ c.2 in
        let here : get_or total (length entries) (n, j) ≡ (n, i) = get_or-append_seam entries (n, i) (tagged i ns) (n, j) in
        once c.0 (length entries) (n, j) c.1 (omega (arith, length-append entries (tagged i (n ∷ ns)))) (ap (λ (e : ℕ × ℕ). e.0) before ∙ sym (ap (λ (e : ℕ × ℕ). e.0) here))

    by_first : ((next : List (Option ℕ)) → Holds count next (entries ++ (n, i) ∷ []) → enter_all next i ns ≡ None → ⊥) → (o : Option (List (Option ℕ))) → enter layer_of_move i n ≡ o → option_and_then (λ m. enter_all m i ns) o ≡ None → ⊥
    by_first go None e f = elim (not_entered layer_of_move i n e) [
      | inl past ↦ omega (arith, past, h.long, All-head (λ (n : ℕ). n < count) n ns range)
      | inr full ↦ twice full.0 full.1
    ]
    by_first go (Some next) e f = go next (holds-enter count layer_of_move entries i n next h e) f
