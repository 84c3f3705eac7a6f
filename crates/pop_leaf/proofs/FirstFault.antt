-- When no rule is broken.
use Rattle.std.proofs.Common.{◌≡◌, ◌≢◌, ℕ, zero, suc, ◌+◌, ◌<◌, ◌≤◌, Bool, true, false, not, cond, List, [], ◌∷◌, length, take, get_or, ltb, refl, ap, sym, ◌∙◌, arith}
use Rattle.std.specs.Prelude.{Option, Some, None, find, position, All, Decides}
use Rattle.std.specs.List.{list_any, range_with_len, position_or_len}
use Rattle.std.specs.Option.{option_map}
use Rattle.std.specs.Str.{bytes_eq}
use Rattle.std.proofs.lemmas.Bool.{ltb-false, le-ltb, lt-ltb, not_from_true, not-false, or_parts, or_from, false≢true, false_from_ne_true}
use Rattle.std.proofs.lemmas.List.{get_or_default, get_or-take, length-take-le}
use Rattle.std.proofs.lemmas.List.Sums.{fails_before_first, position_or_len_is}
use Rattle.std.proofs.lemmas.List.Folds.{list_any_none, list_any_at}
use Rattle.std.proofs.lemmas.Slice.Eq.{bytes_eq-Decides}
use Rattle.pop_io.specs.Names.{AreNames}
use Rattle.pop_leaf.specs.FirstFault.{unless, first_of, first_below, is_bad_name, first_bad_name}

-- there is no fault exactly when P holds
abbrev pub NoneIff : {F : Type 0} → Option F → Type 0 → Type 0
NoneIff o P = (o ≡ None → P) × (P → o ≡ None)

pub first_of-nil : {F : Type 0} → NoneIff (first_of {F = F} []) (Unit {0})
first_of-nil = (λ _. tt, λ _. refl)

pub first_of-cons : {F : Type 0} (o : Option F) (rest : List (Option F)) {P Q : Type 0} → NoneIff o P → NoneIff (first_of rest) Q → NoneIff (first_of (o ∷ rest)) (P × Q)
first_of-cons None rest h g = (λ e. (h.0 refl, g.0 e), λ w. g.1 w.1)
first_of-cons (Some fault) rest h g = (λ e. cc, λ w. let e : Some fault ≡ None = h.1 w.0 in cc)

pub none_unless : {F : Type 0} (b : Bool) (fault : F) {P : Type 0} → Decides b P → NoneIff (unless b fault) P
none_unless true fault d = (λ _. d.0 refl, λ _. refl)
none_unless false fault d = (λ e. cc, λ p. let e : false ≡ true = d.1 p in cc)

pub none_map : {A F : Type 0} (f : A → F) (o : Option A) {P : Type 0} → NoneIff o P → NoneIff (option_map f o) P
none_map f None h = (λ _. h.0 refl, λ _. refl)
none_map f (Some a) h = (λ e. cc, λ p. let e : Some a ≡ None = h.1 p in cc)

cond_none : {A : Type 0} (b : Bool) (a : A) → cond b (Some a) None ≡ None → b ≡ false
cond_none true a e = cc
cond_none false a e = refl

pub none_position : {X : Type 0} (p : X → Bool) (P : X → Type 0) → ((x : X) → Decides (p x) (P x)) → (xs : List X) → NoneIff (position (λ x. not (p x)) xs) (All P xs)
none_position {X} p P d xs = (there xs, back xs)
  where
    there : (xs : List X) → position (λ x. not (p x)) xs ≡ None → All P xs
    there xs e k x l =
        let past = ltb-false (position_or_len (λ x. not (p x)) xs) (length xs) (cond_none _ _ e) in
        (d (get_or xs k x)).0 (not-false _ (fails_before_first (λ x. not (p x)) xs k x (omega (arith, past))))

    back : (xs : List X) → All P xs → position (λ x. not (p x)) xs ≡ None
    back [] h = refl
    back (x ∷ xs) h =
        let e = position_or_len_is (λ x. not (p x)) (x ∷ xs) (length (x ∷ xs)) x (omega arith) (λ k l. not_from_true _ ((d _).1 (h k x l))) (λ l. absurd (omega arith)) in
        ap (λ b. cond b (Some (position_or_len (λ x. not (p x)) (x ∷ xs))) None) (le-ltb (position_or_len (λ x. not (p x)) (x ∷ xs)) (length (x ∷ xs)) (omega (arith, e)))

-- the least number that passes, counted from a
find_range : (p : ℕ → Bool) (a n : ℕ) → NoneIff (find p (range_with_len a n)) ((k : ℕ) → k < n → p (a + k) ≡ false)
find_range p a zero = (λ e k l. absurd (omega arith), λ h. refl)
find_range p a (suc n) = go (p a) refl (find_range p (a + 1) n)
  where
    go : (b : Bool) → p a ≡ b → NoneIff (find p (range_with_len (a + 1) n)) ((k : ℕ) → k < n → p (a + 1 + k) ≡ false) → NoneIff (cond b (Some a) (find p (range_with_len (a + 1) n))) ((k : ℕ) → k < suc n → p (a + k) ≡ false)
    go true e g = (λ w. cc, λ h. let f = h 0 (omega arith) in let same : p a ≡ p (a + 0) = ap p (omega arith) in cc)
    go false e g = (λ w. later w, λ h. g.1 (λ k l. ap p (let s : a + 1 + k ≡ a + suc k = omega arith in s) ∙ h (suc k) (omega arith)))
      where
        later : find p (range_with_len (a + 1) n) ≡ None → (k : ℕ) → k < suc n → p (a + k) ≡ false
        later w zero l = ap p (let s : a + 0 ≡ a = omega arith in s) ∙ e
        later w (suc k) l = ap p (let s : a + suc k ≡ a + 1 + k = omega arith in s) ∙ g.0 w k (omega arith)

pub none_below : (n : ℕ) (p : ℕ → Bool) → NoneIff (first_below n p) ((k : ℕ) → k < n → p k ≡ false)
none_below n p =
    let f = find_range p 0 n in
    (λ e k l. ap p (let s : k ≡ 0 + k = omega arith in s) ∙ f.0 e k l, λ h. f.1 (λ k l. ap p (let s : 0 + k ≡ k = omega arith in s) ∙ h k l))

-- the earlier names all differ from this one
none_earlier : (names : List (List ℕ)) (k : ℕ) (name : List ℕ) → k ≤ length names → (list_any (bytes_eq name) (take k names) ≡ false → (i : ℕ) (d : List ℕ) → i < k → get_or names i d ≢ name) × (((i : ℕ) (d : List ℕ) → i < k → get_or names i d ≢ name) → list_any (bytes_eq name) (take k names) ≡ false)
none_earlier names k name l = (there, back)
  where
    long : length (take k names) ≡ k
    long = length-take-le k names l

    there : list_any (bytes_eq name) (take k names) ≡ false → (i : ℕ) (d : List ℕ) → i < k → get_or names i d ≢ name
    there e i d h same =
        let found = list_any_at (bytes_eq name) (take k names) i d (omega (arith, long)) ((bytes_eq-Decides name _).1 (sym (get_or-take k names i d h ∙ same))) in
        false≢true (sym e ∙ found)

    back : ((i : ℕ) (d : List ℕ) → i < k → get_or names i d ≢ name) → list_any (bytes_eq name) (take k names) ≡ false
    back h = list_any_none (bytes_eq name) (take k names) (λ i d m.
        let n : i < k = omega (arith, long) in
        false_from_ne_true _ (λ e. h i d n (sym (get_or-take k names i d n) ∙ sym ((bytes_eq-Decides name _).0 e))))

-- no name is bad exactly when all are well-formed and distinct
pub none_bad : (is_name : List ℕ → Bool) (names : List (List ℕ)) → NoneIff (first_bad_name is_name names) (AreNames is_name names)
none_bad is_name names = (there, back)
  where
    bad : ℕ → Bool
    bad = is_bad_name is_name names

    fine : (k : ℕ) → bad k ≡ false → (not (is_name (get_or names k [])) ≡ false) × (list_any (bytes_eq (get_or names k [])) (take k names) ≡ false)
    fine k e = or_parts (not (is_name (get_or names k []))) (list_any (bytes_eq (get_or names k [])) (take k names)) e

    there : first_bad_name is_name names ≡ None → AreNames is_name names
    there e = (
      (λ k d l.
          let f = fine k ((none_below (length names) bad).0 e k l) in
          ap is_name (get_or_default names k d [] l) ∙ not-false _ f.0),
      (λ i j d h l.
          let f = fine j ((none_below (length names) bad).0 e j l) in
          λ same. (none_earlier names j (get_or names j []) (omega arith)).0 f.1 i d h (same ∙ get_or_default names j d [] l)),
    )

    back : AreNames is_name names → first_bad_name is_name names ≡ None
    back h = (none_below (length names) bad).1 (λ k l.
        or_from _ _ (not_from_true _ (h.0 k [] l))
        ((none_earlier names k (get_or names k []) (omega arith)).1 (λ i d m same. h.1 i k [] m l (sym (get_or_default names i d [] (omega arith)) ∙ same))))

find_first : (p : ℕ → Bool) (a n k : ℕ) → k < n → ((j : ℕ) → j < k → p (a + j) ≡ false) → p (a + k) ≡ true → find p (range_with_len a n) ≡ Some (a + k)
find_first p a zero k l h e = absurd (omega arith)
find_first p a (suc n) zero l h e =
    let first : p a ≡ true = ap p (let s : a ≡ a + 0 = omega arith in s) ∙ e in
    rw first (ap Some (omega arith))
find_first p a (suc n) (suc k) l h e =
    let first : p a ≡ false = ap p (let s : a ≡ a + 0 = omega arith in s) ∙ h 0 (omega arith) in
    rw first
    (find_first p (a + 1) n k (omega arith) (λ j m. ap p (let s : a + 1 + j ≡ a + suc j = omega arith in s) ∙ h (suc j) (omega arith)) (ap p (let s : a + 1 + k ≡ a + suc k = omega arith in s) ∙ e)
    ∙ ap Some (let s : a + 1 + k ≡ a + suc k = omega arith in s))

-- the first number that passes, since none before it does
pub found_below : (n : ℕ) (p : ℕ → Bool) (k : ℕ) → k < n → ((j : ℕ) → j < k → p j ≡ false) → p k ≡ true → first_below n p ≡ Some k
found_below n p k l h e =
    find_first p 0 n k l (λ j m. ap p (let s : 0 + j ≡ j = omega arith in s) ∙ h j m) (ap p (let s : 0 + k ≡ k = omega arith in s) ∙ e)
    ∙ ap Some (let s : 0 + k ≡ k = omega arith in s)

-- the first element that passes, since none before it does
pub found_position : {X : Type 0} (p : X → Bool) (xs : List X) (i : ℕ) (d : X) → i < length xs → ((k : ℕ) → k < i → p (get_or xs k d) ≡ false) → p (get_or xs i d) ≡ true → position p xs ≡ Some i
found_position p xs i d l h e =
    let at : position_or_len p xs ≡ i = position_or_len_is p xs i d (omega arith) h (λ _. e) in
    ap (λ n. cond (ltb n (length xs)) (Some n) None) at ∙ ap (λ b. cond b (Some i) None) (lt-ltb i (length xs) l)
