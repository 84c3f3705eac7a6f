-- No two moves of the leaf take the same states.
use Rattle.std.proofs.Common.{◌≡◌, ◌≢◌, ◌⊎◌, inl, inr, ◌∙◌, subst, ℕ, ◌+◌, ◌<◌, Bool, true, false, List, [], ◌∷◌, length, refl, ap, sym, arith}
use Rattle.std.specs.Prelude.{ℤ, Option, Some, None, All, AllPairs, flat_map, not, ◌&&◌, ◌||◌, ◌==◌}
use Rattle.std.specs.List.{range_with_len}
use Rattle.std.proofs.lemmas.Bool.{cases_eq}
use Rattle.std.proofs.lemmas.List.Elements.{All-nil, All-cons}
use Rattle.pop_leaf.specs.declared.leaf.Move.{Move}
use Rattle.pop_leaf.specs.Reaction.{Differ}
use Rattle.base_laws.proofs.Ranges.{all_range}
use Rattle.comp_trees.proofs.Members.{all_flat}
use Rattle.comp_trees.proofs.Single.{pairs_flat, differ-by}
use Rattle.comp_powers_leaf.specs.declared.role.Role.{Role}
use Rattle.comp_powers_leaf.specs.declared.role.Role.TheVariants.{Nothing, Piece}
use Rattle.comp_powers_leaf.specs.PowersLeaf.{power, when, roles, fixed_count, role_at, place, meet, move_by, moves_at, powers_moves}
use Rattle.comp_powers_leaf.proofs.Places.{place-role}
use Rattle.comp_powers_leaf.proofs.Rows.{OfEachRow, OfFound, of_row}
use Rattle.comp_powers_leaf.proofs.Moves.{fixed-first}

module _ (coefs : List ℤ) (k : ℕ) where
  -- two states that meet in either order are the same
  abbrev Same : Role → Role → Role → Role → Type 0
  Same p q r s = (rs : Role × Role) → meet coefs k q p ≡ Some rs → p ≡ q

  same_pieces : (i : ℕ) (b c same : Bool) (r s : Role) (rs : Role × Role) → (not b || c) ≡ true → when (same && (not c || b)) r s ≡ Some rs → Piece i b ≡ Piece i c
  same_pieces i true true same r s rs e h = refl
  same_pieces i false false same r s rs e h = refl
  same_pieces i true false same r s rs e h = absurd (let n : false ≡ true = e in cc)
  same_pieces i false true true r s rs e h = absurd (let n : None ≡ Some rs = h in cc)
  same_pieces i false true false r s rs e h = absurd (let n : None ≡ Some rs = h in cc)

  same_rows : OfEachRow coefs k Same
  same_rows = record {
    join = λ i b c e rs h. same_pieces i b c (i == i) (power k (i + 1) b) (Nothing c) rs e h;
    pay = λ j i b l rs h. cc;
    pay_plus = λ j rs h. cc;
    pay_hub = λ j rs h. cc;
    give = λ j i b e rs h. cc;
    pass = λ j i b e rs h. cc;
    plus_hub = λ rs h. cc;
    merge = λ rs h. cc;
    low_nothing = λ rs h. cc;
    low_piece = λ i rs h. cc;
    debtor_nothing = λ j rs h. cc;
    high_nothing = λ rs h. cc;
    high_piece = λ i rs h. cc;
    plus_nothing = λ rs h. cc;
  }

  same_found : (p q : Role) (rs other : Role × Role) → meet coefs k p q ≡ Some rs → meet coefs k q p ≡ Some other → p ≡ q
  same_found p q rs other e f = go (meet coefs k p q) e (of_row coefs k Same same_rows p q)
    where
      go : (found : Option (Role × Role)) → found ≡ Some rs → OfFound (Same p q) found → p ≡ q
      go found e h = subst (OfFound (Same p q)) e h other f

  abbrev at : ℕ → Role
  at q = role_at coefs k q

  -- the moves of two pairs of places
  apart : (p q u v : ℕ) → p < length (roles coefs k) → q < length (roles coefs k) → ((p ≢ u) ⊎ (q ≢ v)) → ((p ≡ v) → (q ≡ u) → p ≢ q) → (a b : Option (Role × Role)) → meet coefs k (at p) (at q) ≡ a → meet coefs k (at u) (at v) ≡ b → All (λ t. All (Differ t) (move_by coefs k u v b)) (move_by coefs k p q a)
  apart p q u v l m ne cross None b e f = All-nil (λ t. All (Differ t) (move_by coefs k u v b))
  apart p q u v l m ne cross (Some rs) None e f = All-cons (λ t. All (Differ t) []) (record { p = p; q = q; r = place coefs k rs.0; s = place coefs k rs.1 }) [] (All-nil (Differ (record { p = p; q = q; r = place coefs k rs.0; s = place coefs k rs.1 }))) (All-nil (λ t. All (Differ t) []))
  apart p q u v l m ne cross (Some rs) (Some other) e f =
      let t : Move = record { p = p; q = q; r = place coefs k rs.0; s = place coefs k rs.1 } in
      let w : Move = record { p = u; q = v; r = place coefs k other.0; s = place coefs k other.1 } in
      let differ : Differ t w = λ x y. differ-by p q u v ne (crossed (cases_eq p v) (cases_eq q u)) in
      All-cons (λ t. All (Differ t) (w ∷ [])) t [] (All-cons (Differ t) w [] differ (All-nil (Differ t))) (All-nil (λ t. All (Differ t) (w ∷ [])))
    where
      same_places : (p ≡ v) → (q ≡ u) → p ≡ q
      same_places g h =
          let back : meet coefs k (at q) (at p) ≡ Some other = subst (λ x. meet coefs k (at x) (at p) ≡ Some other) (sym h) (subst (λ y. meet coefs k (at u) (at y) ≡ Some other) (sym g) f) in
          let roles_same = same_found (at p) (at q) rs other e back in
          sym (place-role coefs k p l) ∙ ap (place coefs k) roles_same ∙ place-role coefs k q m

      crossed : (p ≡ v) ⊎ (p ≡ v → ⊥) → (q ≡ u) ⊎ (q ≡ u → ⊥) → (p ≢ v) ⊎ (q ≢ u)
      crossed (inr n) o = inl n
      crossed (inl g) (inr n) = inr n
      crossed (inl g) (inl h) = absurd (cross g h (same_places g h))

  pub moves-single : AllPairs Differ (powers_moves coefs k)
  moves-single =
      pairs_flat Differ (λ p. flat_map (moves_at coefs k p) (range_with_len 0 (fixed_count k))) 0 (length (roles coefs k))
      (λ p a l. pairs_flat Differ (moves_at coefs k p) 0 (fixed_count k)
      (λ q b m. alone p q (meet coefs k (at p) (at q)))
      (λ q v b m n. apart p q p v (omega arith) (let f = fixed-first coefs k in omega (arith, f, m, n)) (inr (λ e. omega arith)) (λ g h e. omega arith) (meet coefs k (at p) (at q)) (meet coefs k (at p) (at v)) refl refl))
      (λ p u a l m. all_flat (λ t. All (Differ t) (flat_map (moves_at coefs k u) (range_with_len 0 (fixed_count k)))) (moves_at coefs k p) (range_with_len 0 (fixed_count k))
      (all_range (λ q. All (λ t. All (Differ t) (flat_map (moves_at coefs k u) (range_with_len 0 (fixed_count k)))) (moves_at coefs k p q)) 0 (fixed_count k) (λ q b n.
      λ i d h. all_flat (Differ _) (moves_at coefs k u) (range_with_len 0 (fixed_count k))
      (all_range (λ v. All (Differ _) (moves_at coefs k u v)) 0 (fixed_count k) (λ v c o.
      apart p q u v (omega arith) (let f = fixed-first coefs k in omega (arith, f, n)) (inl (λ e. omega arith)) (λ g f e. omega arith) (meet coefs k (at p) (at q)) (meet coefs k (at u) (at v)) refl refl i d h)))))
    where
      alone : (p q : ℕ) (found : Option (Role × Role)) → AllPairs Differ (move_by coefs k p q found)
      alone p q None = λ i j d l m. absurd (omega (arith, m))
      alone p q (Some rs) = λ i j d l m. absurd (omega (arith, l, m))
