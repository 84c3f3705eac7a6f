-- The names of the states of a built leaf of `Rest` are well formed, and no two are equal.
use Rattle.std.proofs.Common.{◌≡◌, subst, ℕ, ◌+◌, ◌<◌, ◌≤◌, Bool, true, false, ◌&&◌, [], ◌∷◌, length, map, refl, sym, ◌∙◌, arith}
use Rattle.std.specs.Prelude.{if◌then◌else◌, nat_le, IsTrue}
use Rattle.std.specs.List.{range_with_len}
use Rattle.std.specs.Fmt.{decimal}
use Rattle.std.proofs.lemmas.Fmt.{decimal_injective, length-decimal-le}
use Rattle.std.proofs.lemmas.Bool.{lt-ltb, le-ltb, le-leb, ne_eqb, eq-eqb}
use Rattle.pop_io.specs.Names.{state_name, AreNames}
use Rattle.comp_trees.proofs.StateNames.{decimal-printed, named-apart}
use Rattle.comp_remainder.specs.RemainderLeaf.{remainder_follower, remainder_state_name}
use Rattle.comp_remainder.proofs.StateKinds.{Kind, a_leader, a_follower, kind_of}
use Rattle.base_laws.proofs.Lists.{heads}

-- the name of a leader
number-name : (q : ℕ) → q < 1000 → IsTrue (state_name (78 ∷ decimal q))
number-name q l =
    let long = length-decimal-le 3 q (omega arith) (omega arith) (omega arith) in
    let a : nat_le 1 (length (78 ∷ decimal q)) ≡ true = le-leb 1 (length (78 ∷ decimal q)) (omega arith) in
    let b = (decimal-printed q (omega arith)).all in
    let c : nat_le (length (78 ∷ decimal q)) 32 ≡ true = le-leb (length (78 ∷ decimal q)) 32 (omega arith) in
    from_true (state_name (78 ∷ decimal q)) (and_all a b c)
  where
    from_true : (b : Bool) → b ≡ true → IsTrue b
    from_true b e = e

    and_all : {a b c : Bool} → a ≡ true → b ≡ true → c ≡ true → ((a && (true && b)) && c) ≡ true
    and_all e f g = rw (e, f, g) refl

-- a name begins with N, f or t, by the kind of its state
name-leader : (m q : ℕ) → q < m → remainder_state_name m q ≡ 78 ∷ decimal q
name-leader m q l = rw (lt-ltb q m l) refl

name-follower : (m : ℕ) (bit : Bool) → remainder_state_name m (remainder_follower m bit) ≡ (if bit then 116 else 102) ∷ []
name-follower m true = rw (le-ltb (m + 1) m (omega arith), ne_eqb (m + 1) m (λ e. omega arith)) refl
name-follower m false = rw (le-ltb m m (omega arith), eq-eqb m m refl) refl

name-form : (m q : ℕ) → m ≤ 200 → Kind m q → IsTrue (state_name (remainder_state_name m q))
name-form m _ few (a_leader q l) = subst (λ name. IsTrue (state_name name)) (sym (name-leader m q l)) (number-name q (omega arith))
name-form m _ few (a_follower true) = subst (λ name. IsTrue (state_name name)) (sym (name-follower m true)) refl
name-form m _ few (a_follower false) = subst (λ name. IsTrue (state_name name)) (sym (name-follower m false)) refl

name-injective : (m p q : ℕ) → m ≤ 200 → Kind m p → Kind m q → remainder_state_name m p ≡ remainder_state_name m q → p ≡ q
name-injective m _ _ few (a_leader p l) (a_leader q k) e =
    let f : 78 ∷ decimal p ≡ 78 ∷ decimal q = sym (name-leader m p l) ∙ e ∙ name-leader m q k in
    let g : decimal p ≡ decimal q = cc in
    decimal_injective p q (omega arith) (omega arith) g
name-injective m _ _ few (a_leader p l) (a_follower true) e = let f : 78 ∷ decimal p ≡ 116 ∷ [] = sym (name-leader m p l) ∙ e ∙ name-follower m true in absurd (omega (arith, heads 78 116 _ _ f))
name-injective m _ _ few (a_leader p l) (a_follower false) e = let f : 78 ∷ decimal p ≡ 102 ∷ [] = sym (name-leader m p l) ∙ e ∙ name-follower m false in absurd (omega (arith, heads 78 102 _ _ f))
name-injective m _ _ few (a_follower true) (a_leader q k) e = let f : 116 ∷ [] ≡ 78 ∷ decimal q = sym (name-follower m true) ∙ e ∙ name-leader m q k in absurd (omega (arith, heads 116 78 _ _ f))
name-injective m _ _ few (a_follower false) (a_leader q k) e = let f : 102 ∷ [] ≡ 78 ∷ decimal q = sym (name-follower m false) ∙ e ∙ name-leader m q k in absurd (omega (arith, heads 102 78 _ _ f))
name-injective m _ _ few (a_follower true) (a_follower true) e = refl
name-injective m _ _ few (a_follower false) (a_follower false) e = refl
name-injective m _ _ few (a_follower true) (a_follower false) e = let f : 116 ∷ [] ≡ 102 ∷ [] = sym (name-follower m true) ∙ e ∙ name-follower m false in absurd (omega (arith, heads 116 102 _ _ f))
name-injective m _ _ few (a_follower false) (a_follower true) e = let f : 102 ∷ [] ≡ 116 ∷ [] = sym (name-follower m false) ∙ e ∙ name-follower m true in absurd (omega (arith, heads 102 116 _ _ f))

pub names-formed : (m : ℕ) → m ≤ 200 → AreNames state_name (map (remainder_state_name m) (range_with_len 0 (m + 2)))
names-formed m few =
    named-apart (remainder_state_name m) (m + 2) (λ i l. name-form m i few (kind_of m i l)) (λ i j l k e. name-injective m i j few (kind_of m i l) (kind_of m j k) e)
