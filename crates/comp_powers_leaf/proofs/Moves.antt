-- The moves of the leaf by the states that they take and bring.
use Rattle.std.proofs.Common.{◌≡◌, subst, ℕ, zero, suc, ◌+◌, ◌<◌, ◌≤◌, Bool, true, false, List, [], length, length-append, refl, sym, arith}
use Rattle.std.specs.Prelude.{ℤ, pos, negsuc, ◌<ℤ◌, nat_lt, ◌==◌, if◌then◌else◌, Option, Some, None, All, Contains, flat_map}
use Rattle.std.specs.List.{range_with_len}
use Rattle.std.proofs.lemmas.Int.{ints}
use Rattle.std.proofs.lemmas.Bool.{ltb-true}
use Rattle.std.proofs.lemmas.List.Elements.{All-nil, All-cons}
use Rattle.pop_leaf.specs.declared.leaf.Move.{Move}
use Rattle.pop_leaf.specs.LeafModel.{IsMoveBelow}
use Rattle.base_laws.proofs.Ranges.{all_range}
use Rattle.base_laws.proofs.Lists.{has_first}
use Rattle.comp_trees.proofs.Members.{all_flat, has_flat, range_has}
use Rattle.comp_powers_leaf.specs.declared.role.Role.{Role}
use Rattle.comp_powers_leaf.specs.declared.role.Role.TheVariants.{Piece, Plus, Debtor}
use Rattle.comp_trees.specs.Bits.{power_in}
use Rattle.comp_powers_leaf.specs.PowersLeaf.{coefficient_of, chain_by, chain_of, power, rest_of, fixed_roles, blocks_from, roles, fixed_count, role_at, place, meet, move_by, moves_at, powers_moves}
use Rattle.comp_powers_leaf.proofs.Places.{there, role-valid, length-fixed}
use Rattle.comp_powers_leaf.specs.PowersLeaf.{IsRole}
use Rattle.comp_powers_leaf.proofs.Rows.{OfEachRow, OfFound, of_row}

pub chain-most : (k : ℕ) (a : ℤ) → chain_of k a ≤ k
chain-most k (negsuc n) = omega arith
chain-most k (pos n) = go (n == 0) (power_in k n)
  where
    go : (b : Bool) (o : Option ℕ) → (if b then 0 else chain_by k o) ≤ k
    go true o = omega arith
    go false None = omega arith
    go false (Some i) = omega arith

pub chain-negative : (k : ℕ) (a : ℤ) → a <ℤ pos 0 → chain_of k a ≡ k
chain-negative k (pos n) l = absurd (omega (arith, ints, l))
chain-negative k (negsuc n) l = refl

pub fixed-first : (coefs : List ℤ) (k : ℕ) → fixed_count k ≤ length (roles coefs k)
fixed-first coefs k = omega (arith, length-append (fixed_roles k) (blocks_from k 0 coefs), length-fixed k)

module _ (coefs : List ℤ) (k : ℕ) where
  pub power-valid : (i : ℕ) (b : Bool) → IsRole coefs k (power k i b)
  power-valid i b = go (nat_lt i k) refl
    where
      go : (c : Bool) → nat_lt i k ≡ c → IsRole coefs k (if c then Piece i b else Plus)
      go true e = ltb-true i k e
      go false e = tt

  pub rest-valid : (j i : ℕ) → j < length coefs → i ≤ chain_of k (coefficient_of coefs j) → IsRole coefs k (rest_of j i)
  rest-valid j zero l m = tt
  rest-valid j (suc i) l m = (l, (let n : i < chain_of k (coefficient_of coefs j) = omega arith in n))

  debt-valid : (j i : ℕ) → i ≤ k → IsRole coefs k (Debtor j) → IsRole coefs k (rest_of j i)
  debt-valid j i l is = rest-valid j i is.0 (let e = chain-negative k (coefficient_of coefs j) is.1 in omega (arith, e, l))

  -- ---- what moves bring are states

  abbrev Brings : Role → Role → Role → Role → Type 0
  Brings p q r s = IsRole coefs k p → IsRole coefs k q → IsRole coefs k r × IsRole coefs k s

  brings : OfEachRow coefs k Brings
  brings = record {
    join = λ i b c e p q. (power-valid (i + 1) c, tt);
    pay = λ j i b l p q. (debt-valid j i (omega (arith, q)) p, tt);
    pay_plus = λ j p q. (debt-valid j k (omega arith) p, tt);
    pay_hub = λ j p q. (debt-valid j k (omega arith) p, tt);
    give = λ j i b e p q. (rest-valid j i p.0 (omega (arith, p.1)), (let m = chain-most k (coefficient_of coefs j) in let l : i < k = omega (arith, p.1, m) in l));
    pass = λ j i b e p q. (rest-valid j i p.0 (omega (arith, p.1)), tt);
    plus_hub = λ p q. (tt, tt);
    merge = λ p q. (tt, tt);
    low_nothing = λ p q. (tt, tt);
    low_piece = λ i p q. (tt, q);
    debtor_nothing = λ j p q. (p, tt);
    high_nothing = λ p q. (tt, tt);
    high_piece = λ i p q. (tt, q);
    plus_nothing = λ p q. (tt, tt);
  }

  -- a statement on found roles at a result that was found
  pub at_found : (Q : Role → Role → Type 0) (found : Option (Role × Role)) (rs : Role × Role) → found ≡ Some rs → OfFound Q found → Q rs.0 rs.1
  at_found Q found rs e h = subst (OfFound Q) e h

  -- ---- what holds of each move

  pub all_moves : (P : Move → Type 0) → ((p q : ℕ) (rs : Role × Role) → p < length (roles coefs k) → q < length (roles coefs k) → meet coefs k (role_at coefs k p) (role_at coefs k q) ≡ Some rs → IsRole coefs k rs.0 → IsRole coefs k rs.1 → P (record { p = p; q = q; r = place coefs k rs.0; s = place coefs k rs.1 })) → All P (powers_moves coefs k)
  all_moves P each =
      all_flat P (λ p. flat_map (moves_at coefs k p) (range_with_len 0 (fixed_count k))) (range_with_len 0 (length (roles coefs k)))
      (all_range (λ p. All P (flat_map (moves_at coefs k p) (range_with_len 0 (fixed_count k)))) 0 (length (roles coefs k)) (λ p a l.
      all_flat P (moves_at coefs k p) (range_with_len 0 (fixed_count k))
      (all_range (λ q. All P (moves_at coefs k p q)) 0 (fixed_count k) (λ q b m.
      one p q (omega arith) (let f = fixed-first coefs k in omega (arith, f, m)) (meet coefs k (role_at coefs k p) (role_at coefs k q)) refl))))
    where
      one : (p q : ℕ) → p < length (roles coefs k) → q < length (roles coefs k) → (found : Option (Role × Role)) → meet coefs k (role_at coefs k p) (role_at coefs k q) ≡ found → All P (move_by coefs k p q found)
      one p q l m None e = All-nil P
      one p q l m (Some rs) e =
          let valid = at_found (λ r s. Brings (role_at coefs k p) (role_at coefs k q) r s) (meet coefs k (role_at coefs k p) (role_at coefs k q)) rs e (of_row coefs k Brings brings (role_at coefs k p) (role_at coefs k q)) (role-valid coefs k p l) (role-valid coefs k q m) in
          All-cons P (record { p = p; q = q; r = place coefs k rs.0; s = place coefs k rs.1 }) [] (each p q rs l m e valid.0 valid.1) (All-nil P)

  -- what two states become is found at places
  pub found-valid : (p q : Role) (rs : Role × Role) → IsRole coefs k p → IsRole coefs k q → meet coefs k p q ≡ Some rs → IsRole coefs k rs.0 × IsRole coefs k rs.1
  found-valid p q rs vp vq e = at_found (λ r s. Brings p q r s) (meet coefs k p q) rs e (of_row coefs k Brings brings p q) vp vq

  pub moves-below : All (IsMoveBelow (length (roles coefs k))) (powers_moves coefs k)
  moves-below = all_moves (IsMoveBelow (length (roles coefs k))) (λ p q rs l m e vr vs. (l, m, (there coefs k rs.0 vr).low, (there coefs k rs.1 vs).low))

  -- by the states' roles
  abbrev pub ByRoles : (Role → Role → Role → Role → Type 0) → Move → Type 0
  ByRoles F t = F (role_at coefs k t.p) (role_at coefs k t.q) (role_at coefs k t.r) (role_at coefs k t.s)

  pub all_by_roles : (F : Role → Role → Role → Role → Type 0) → OfEachRow coefs k (λ p q r s. IsRole coefs k p → IsRole coefs k q → F p q r s) → All (ByRoles F) (powers_moves coefs k)
  all_by_roles F each = all_moves (ByRoles F) one
    where
      one : (p q : ℕ) (rs : Role × Role) → p < length (roles coefs k) → q < length (roles coefs k) → meet coefs k (role_at coefs k p) (role_at coefs k q) ≡ Some rs → IsRole coefs k rs.0 → IsRole coefs k rs.1 → ByRoles F (record { p = p; q = q; r = place coefs k rs.0; s = place coefs k rs.1 })
      one p q rs l m e vr vs =
          let here = at_found (λ r s. IsRole coefs k (role_at coefs k p) → IsRole coefs k (role_at coefs k q) → F (role_at coefs k p) (role_at coefs k q) r s) (meet coefs k (role_at coefs k p) (role_at coefs k q)) rs e (of_row coefs k (λ p q r s. IsRole coefs k p → IsRole coefs k q → F p q r s) each (role_at coefs k p) (role_at coefs k q)) (role-valid coefs k p l) (role-valid coefs k q m) in
          subst (λ r. F (role_at coefs k p) (role_at coefs k q) r (role_at coefs k (place coefs k rs.1))) (sym (there coefs k rs.0 vr).found)
          (subst (λ s. F (role_at coefs k p) (role_at coefs k q) rs.0 s) (sym (there coefs k rs.1 vs).found) here)

  -- without a premise on the states that are taken
  pub each_by_roles : (F : Role → Role → Role → Role → Type 0) → OfEachRow coefs k F → All (ByRoles F) (powers_moves coefs k)
  each_by_roles F each = all_by_roles F (record {
    join = λ i b c e p q. each.join i b c e;
    pay = λ j i b l p q. each.pay j i b l;
    pay_plus = λ j p q. each.pay_plus j;
    pay_hub = λ j p q. each.pay_hub j;
    give = λ j i b e p q. each.give j i b e;
    pass = λ j i b e p q. each.pass j i b e;
    plus_hub = λ p q. each.plus_hub;
    merge = λ p q. each.merge;
    low_nothing = λ p q. each.low_nothing;
    low_piece = λ i p q. each.low_piece i;
    debtor_nothing = λ j p q. each.debtor_nothing j;
    high_nothing = λ p q. each.high_nothing;
    high_piece = λ i p q. each.high_piece i;
    plus_nothing = λ p q. each.plus_nothing;
  })

  -- ---- the move of two states that meet

  pub has_move : (p q : ℕ) (rs : Role × Role) → p < length (roles coefs k) → q < fixed_count k → meet coefs k (role_at coefs k p) (role_at coefs k q) ≡ Some rs → Contains (powers_moves coefs k) (record { p = p; q = q; r = place coefs k rs.0; s = place coefs k rs.1 })
  has_move p q rs l m e =
      let move : Move = record { p = p; q = q; r = place coefs k rs.0; s = place coefs k rs.1 } in
      has_flat (λ p. flat_map (moves_at coefs k p) (range_with_len 0 (fixed_count k))) (range_with_len 0 (length (roles coefs k))) p move (range_has 0 (length (roles coefs k)) p (omega arith) (omega arith))
      (has_flat (moves_at coefs k p) (range_with_len 0 (fixed_count k)) q move (range_has 0 (fixed_count k) q (omega arith) (omega arith))
      (subst (λ found. Contains (move_by coefs k p q found) move) (sym e) (has_first move [])))
