-- Each state stands at its place.
use Rattle.std.proofs.Common.{◌≡◌, ◌⊎◌, inl, inr, ◌∙◌, subst, ℕ, zero, suc, ◌+◌, ◌-◌, ◌*◌, ◌^◌, ◌<◌, ◌≤◌, Bool, true, false, List, [], ◌∷◌, ◌++◌, length, map, get_or, length-append, refl, ap, sym, zero-add, arith}
use Rattle.std.proofs.lemmas.Option.{get_or_from_slice_get, slice_get-get_or}
use Rattle.std.specs.Prelude.{Some, ℤ, pos, negsuc, ◌<ℤ◌, All, Contains, flat_map}
use Rattle.std.specs.List.{range_with_len}
use Rattle.std.proofs.lemmas.Int.{ints}
use Rattle.std.proofs.lemmas.Bool.{cases_lt}
use Rattle.std.proofs.Math.ListN.{get_or-append}
use Rattle.std.proofs.lemmas.List.{get_or-append-add}
use Rattle.std.proofs.lemmas.List.Elements.{All-nil, All-cons, All-append, All-map, All-get_or, Contains-append_left, Contains-append_right}
use Rattle.std.proofs.lemmas.List.FromFn.{get_or-map-range_with_len, length-map-range_with_len}
use Rattle.base_laws.proofs.Ranges.{all_range}
use Rattle.base_laws.proofs.Lists.{has_map, has_first, has_later}
use Rattle.comp_trees.proofs.Members.{all_flat, range_has, has_flat}
use Rattle.comp_powers_leaf.specs.declared.role.Role.{Role}
use Rattle.comp_powers_leaf.specs.declared.role.Role.TheVariants.{Low, High, Nothing, Piece, Plus, Debtor, Token}
use Rattle.comp_powers_leaf.specs.PowersLeaf.{IsRole}
use Rattle.comp_powers_leaf.specs.PowersLeaf.{coefficient_of, chain_of, debtors_of, block_of, blocks_from, pieces_of, fixed_roles, roles, fixed_count, role_at, block_size, states_before, second, place}

-- ---- lists whose items stand at their places, from n on

abbrev pub Placed : (Role → ℕ) → ℕ → List Role → Type 0
Placed at n xs = (i : ℕ) → i < length xs → at (get_or xs i (Nothing false)) ≡ n + i

placed-nil : (at : Role → ℕ) (n : ℕ) → Placed at n []
placed-nil at n i l = absurd (omega arith)

placed-cons : (at : Role → ℕ) (n : ℕ) (x : Role) (xs : List Role) → at x ≡ n → Placed at (n + 1) xs → Placed at n (x ∷ xs)
placed-cons at n x xs e rest zero l = omega (arith, e)
placed-cons at n x xs e rest (suc i) l = let h = rest i (omega arith) in omega (arith, h)

placed-append : (at : Role → ℕ) (n m : ℕ) (xs ys : List Role) → Placed at n xs → Placed at m ys → m ≡ n + length xs → Placed at n (xs ++ ys)
placed-append at n m xs ys first later e i l = go (cases_lt i (length xs))
  where
    go : (i < length xs) ⊎ (length xs ≤ i) → at (get_or (xs ++ ys) i (Nothing false)) ≡ n + i
    go (inl h) = ap at (get_or-append xs ys (Nothing false) i h) ∙ first i h
    go (inr h) =
        let rest = later (i - length xs) (omega (arith, length-append xs ys)) in
        let same : length xs + (i - length xs) ≡ i = omega arith in
        let got = ap at (ap (λ j. get_or (xs ++ ys) j (Nothing false)) (sym same) ∙ get_or-append-add xs ys (i - length xs) (Nothing false)) in
        omega (arith, rest, got, e)

placed-map : (at : Role → ℕ) (n : ℕ) (f : ℕ → Role) (m : ℕ) → ((i : ℕ) → i < m → at (f i) ≡ n + i) → Placed at n (map f (range_with_len 0 m))
placed-map at n f m e i l =
    let k : i < m = omega (arith, length-map-range_with_len f 0 m) in
    ap at (get_or-map-range_with_len f 0 m i i (Nothing false) k (zero-add i)) ∙ e i k

-- ---- the states of the variables

pub length-block : (k j : ℕ) (a : ℤ) → length (block_of k j a) ≡ block_size k a
length-block k j (pos n) = omega (arith, length-append (map (Token j) (range_with_len 0 (chain_of k (pos n)))) [], length-map-range_with_len (Token j) 0 (chain_of k (pos n)))
length-block k j (negsuc n) = omega (arith, length-append (map (Token j) (range_with_len 0 k)) (Debtor j ∷ []), length-map-range_with_len (Token j) 0 k)

placed-debtors : (at : Role → ℕ) (n k j : ℕ) (a : ℤ) → at (Debtor j) ≡ n + k → Placed at (n + chain_of k a) (debtors_of j a)
placed-debtors at n k j (pos m) e = placed-nil at (n + chain_of k (pos m))
placed-debtors at n k j (negsuc m) e = placed-cons at (n + k) (Debtor j) [] e (placed-nil at (n + k + 1))

placed-block : (at : Role → ℕ) (n k j : ℕ) (a : ℤ) → ((i : ℕ) → at (Token j i) ≡ n + i) → at (Debtor j) ≡ n + k → Placed at n (block_of k j a)
placed-block at n k j a tokens debtor =
    placed-append at n (n + chain_of k a) (map (Token j) (range_with_len 0 (chain_of k a))) (debtors_of j a)
    (placed-map at n (Token j) (chain_of k a) (λ i l. tokens i))
    (placed-debtors at n k j a debtor)
    (omega (arith, length-map-range_with_len (Token j) 0 (chain_of k a)))

placed-blocks : (at : Role → ℕ) (k n j : ℕ) (coefs : List ℤ) → ((l i : ℕ) → at (Token (j + l) i) ≡ n + states_before k coefs l + i) → ((l : ℕ) → at (Debtor (j + l)) ≡ n + states_before k coefs l + k) → Placed at n (blocks_from k j coefs)
placed-blocks at k n j [] tokens debtors = placed-nil at n
placed-blocks at k n j (a ∷ coefs) tokens debtors =
    let here : j + 0 ≡ j = omega arith in
    placed-append at n (n + block_size k a) (block_of k j a) (blocks_from k (j + 1) coefs)
    (placed-block at n k j a (λ i. ap (λ m. at (Token m i)) (sym here) ∙ (let e = tokens 0 i in let f : at (Token (j + 0) i) ≡ n + i = omega (arith, e) in f)) (ap (λ m. at (Debtor m)) (sym here) ∙ (let e = debtors 0 in let f : at (Debtor (j + 0)) ≡ n + k = omega (arith, e) in f)))
    (placed-blocks at k (n + block_size k a) (j + 1) coefs
    (λ l i. ap (λ m. at (Token m i)) (let e : j + 1 + l ≡ j + suc l = omega arith in e) ∙ (let e = tokens (suc l) i in let f : at (Token (j + suc l) i) ≡ n + block_size k a + states_before k coefs l + i = omega (arith, e) in f))
    (λ l. ap (λ m. at (Debtor m)) (let e : j + 1 + l ≡ j + suc l = omega arith in e) ∙ (let e = debtors (suc l) in let f : at (Debtor (j + suc l)) ≡ n + block_size k a + states_before k coefs l + k = omega (arith, e) in f)))
    (omega (arith, length-block k j a))

-- ---- the fixed states

pub length-pieces : (a n : ℕ) → length (flat_map pieces_of (range_with_len a n)) ≡ 2 * n
length-pieces a zero = refl
length-pieces a (suc n) = let e = length-pieces (a + 1) n in omega (arith, e)

placed-pieces : (at : Role → ℕ) (m a n : ℕ) → ((i : ℕ) (b : Bool) → at (Piece i b) ≡ m + 2 * i + second b) → Placed at (m + 2 * a) (flat_map pieces_of (range_with_len a n))
placed-pieces at m a zero pieces = placed-nil at (m + 2 * a)
placed-pieces at m a (suc n) pieces =
    let rest = placed-pieces at m (a + 1) n pieces in
    let two : m + 2 * (a + 1) ≡ m + 2 * a + 1 + 1 = omega arith in
    let f = pieces a false in
    let t = pieces a true in
    placed-cons at (m + 2 * a) (Piece a false) (Piece a true ∷ flat_map pieces_of (range_with_len (a + 1) n)) (omega (arith, f))
    (placed-cons at (m + 2 * a + 1) (Piece a true) (flat_map pieces_of (range_with_len (a + 1) n)) (omega (arith, t))
    (subst (λ p. Placed at p (flat_map pieces_of (range_with_len (a + 1) n))) two rest))

pub length-fixed : (k : ℕ) → length (fixed_roles k) ≡ fixed_count k
length-fixed k = omega (arith, length-append (flat_map pieces_of (range_with_len 0 k)) (Plus ∷ []), length-pieces 0 k)

placed-fixed : (coefs : List ℤ) (k : ℕ) → Placed (place coefs k) 0 (fixed_roles k)
placed-fixed coefs k =
    let at = place coefs k in
    let pieces = flat_map pieces_of (range_with_len 0 k) in
    let behind : Placed at (4 + 2 * 0) (pieces ++ Plus ∷ []) = placed-append at (4 + 2 * 0) (4 + 2 * k) pieces (Plus ∷ []) (placed-pieces at 4 0 k (λ i b. refl)) (placed-cons at (4 + 2 * k) Plus [] refl (placed-nil at (4 + 2 * k + 1))) (omega (arith, length-pieces 0 k)) in
    placed-cons at 0 Low (High ∷ Nothing false ∷ Nothing true ∷ pieces ++ Plus ∷ []) refl
    (placed-cons at 1 High (Nothing false ∷ Nothing true ∷ pieces ++ Plus ∷ []) refl
    (placed-cons at 2 (Nothing false) (Nothing true ∷ pieces ++ Plus ∷ []) refl
    (placed-cons at 3 (Nothing true) (pieces ++ Plus ∷ []) refl behind)))

placed-all : (coefs : List ℤ) (k : ℕ) → Placed (place coefs k) 0 (roles coefs k)
placed-all coefs k =
    placed-append (place coefs k) 0 (fixed_count k) (fixed_roles k) (blocks_from k 0 coefs)
    (placed-fixed coefs k)
    (placed-blocks (place coefs k) k (fixed_count k) 0 coefs
    (λ l i. ap (λ m. place coefs k (Token m i)) (zero-add l))
    (λ l. ap (λ m. place coefs k (Debtor m)) (zero-add l)))
    (omega (arith, length-fixed k))

-- the state at a place has that place
pub place-role : (coefs : List ℤ) (k q : ℕ) → q < length (roles coefs k) → place coefs k (role_at coefs k q) ≡ q
place-role coefs k q l = placed-all coefs k q l ∙ zero-add q

-- ---- each state of the leaf is there

valid-pieces : (coefs : List ℤ) (k a n : ℕ) → a + n ≤ k → All (IsRole coefs k) (flat_map pieces_of (range_with_len a n))
valid-pieces coefs k a n l =
    all_flat (IsRole coefs k) pieces_of (range_with_len a n)
    (all_range (λ i. All (IsRole coefs k) (pieces_of i)) a n (λ i h m. All-cons (IsRole coefs k) (Piece i false) (Piece i true ∷ []) (omega arith) (All-cons (IsRole coefs k) (Piece i true) [] (omega arith) (All-nil (IsRole coefs k)))))

-- the variables from j on are among all
abbrev IsSuffix : List ℤ → ℕ → List ℤ → Type 0
IsSuffix coefs j rest = (length coefs ≡ j + length rest) × ((l : ℕ) → coefficient_of coefs (j + l) ≡ coefficient_of rest l)

later-suffix : (coefs : List ℤ) (j : ℕ) (a : ℤ) (rest : List ℤ) → IsSuffix coefs j (a ∷ rest) → IsSuffix coefs (j + 1) rest
later-suffix coefs j a rest is =
    ((let e = is.0 in let f : length coefs ≡ j + 1 + length rest = omega (arith, e) in f), λ l. ap (coefficient_of coefs) (let e : j + 1 + l ≡ j + suc l = omega arith in e) ∙ is.1 (suc l))

first-suffix : (coefs : List ℤ) (j : ℕ) (a : ℤ) (rest : List ℤ) → IsSuffix coefs j (a ∷ rest) → coefficient_of coefs j ≡ a
first-suffix coefs j a rest is = ap (coefficient_of coefs) (let e : j ≡ j + 0 = omega arith in e) ∙ is.1 0

valid-block : (coefs : List ℤ) (k j : ℕ) (a : ℤ) → j < length coefs → coefficient_of coefs j ≡ a → All (IsRole coefs k) (block_of k j a)
valid-block coefs k j a l e =
    All-append (IsRole coefs k) (map (Token j) (range_with_len 0 (chain_of k a))) (debtors_of j a)
    (All-map (IsRole coefs k) (Token j) (range_with_len 0 (chain_of k a)) (all_range (λ i. IsRole coefs k (Token j i)) 0 (chain_of k a) (λ i h m. (l, (let f = ap (chain_of k) e in let g : i < chain_of k (coefficient_of coefs j) = omega (arith, f) in g)))))
    (debtors a e)
  where
    debtors : (a : ℤ) → coefficient_of coefs j ≡ a → All (IsRole coefs k) (debtors_of j a)
    debtors (pos n) e = All-nil (IsRole coefs k)
    debtors (negsuc n) e = All-cons (IsRole coefs k) (Debtor j) [] (l, (let f : coefficient_of coefs j <ℤ pos 0 = omega (arith, ints, e) in f)) (All-nil (IsRole coefs k))

valid-blocks : (coefs : List ℤ) (k j : ℕ) (rest : List ℤ) → IsSuffix coefs j rest → All (IsRole coefs k) (blocks_from k j rest)
valid-blocks coefs k j [] is = All-nil (IsRole coefs k)
valid-blocks coefs k j (a ∷ rest) is =
    All-append (IsRole coefs k) (block_of k j a) (blocks_from k (j + 1) rest)
    (valid-block coefs k j a (omega (arith, is.0)) (first-suffix coefs j a rest is))
    (valid-blocks coefs k (j + 1) rest (later-suffix coefs j a rest is))

whole-suffix : (coefs : List ℤ) → IsSuffix coefs 0 coefs
whole-suffix coefs = ((let e : length coefs ≡ 0 + length coefs = omega arith in e), λ l. ap (coefficient_of coefs) (zero-add l))

pub valid-all : (coefs : List ℤ) (k : ℕ) → All (IsRole coefs k) (roles coefs k)
valid-all coefs k =
    let pieces = flat_map pieces_of (range_with_len 0 k) in
    All-append (IsRole coefs k) (fixed_roles k) (blocks_from k 0 coefs)
    (All-append (IsRole coefs k) (Low ∷ High ∷ Nothing false ∷ Nothing true ∷ []) (pieces ++ Plus ∷ [])
    (All-cons (IsRole coefs k) Low (High ∷ Nothing false ∷ Nothing true ∷ []) tt
    (All-cons (IsRole coefs k) High (Nothing false ∷ Nothing true ∷ []) tt
    (All-cons (IsRole coefs k) (Nothing false) (Nothing true ∷ []) tt
    (All-cons (IsRole coefs k) (Nothing true) [] tt (All-nil (IsRole coefs k))))))
    (All-append (IsRole coefs k) pieces (Plus ∷ []) (valid-pieces coefs k 0 k (omega arith)) (All-cons (IsRole coefs k) Plus [] tt (All-nil (IsRole coefs k)))))
    (valid-blocks coefs k 0 coefs (whole-suffix coefs))

pub role-valid : (coefs : List ℤ) (k q : ℕ) → q < length (roles coefs k) → IsRole coefs k (role_at coefs k q)
role-valid coefs k q l = All-get_or (IsRole coefs k) (roles coefs k) q (Nothing false) l (valid-all coefs k)

-- ---- each role has a place

has-blocks : (coefs : List ℤ) (k j l : ℕ) (rest : List ℤ) (r : Role) → l < length rest → Contains (block_of k (j + l) (coefficient_of rest l)) r → Contains (blocks_from k j rest) r
has-blocks coefs k j l [] r h c = absurd (omega (arith, h))
has-blocks coefs k j zero (a ∷ rest) r h c =
    Contains-append_left (block_of k j a) (blocks_from k (j + 1) rest) r (subst (λ m. Contains (block_of k m a) r) (let e : j + 0 ≡ j = omega arith in e) c)
has-blocks coefs k j (suc l) (a ∷ rest) r h c =
    Contains-append_right (block_of k j a) (blocks_from k (j + 1) rest) r
    (has-blocks coefs k (j + 1) l rest r (omega (arith, h)) (subst (λ m. Contains (block_of k m (coefficient_of rest l)) r) (let e : j + suc l ≡ j + 1 + l = omega arith in e) c))

has-fixed : (coefs : List ℤ) (k : ℕ) (r : Role) → Contains (fixed_roles k) r → Contains (roles coefs k) r
has-fixed coefs k r c = Contains-append_left (fixed_roles k) (blocks_from k 0 coefs) r c

has-block : (coefs : List ℤ) (k j : ℕ) (r : Role) → j < length coefs → Contains (block_of k j (coefficient_of coefs j)) r → Contains (roles coefs k) r
has-block coefs k j r l c =
    Contains-append_right (fixed_roles k) (blocks_from k 0 coefs) r (has-blocks coefs k 0 j coefs r l (subst (λ m. Contains (block_of k m (coefficient_of coefs j)) r) (let e : j ≡ 0 + j = omega arith in e) c))

has-role : (coefs : List ℤ) (k : ℕ) (r : Role) → IsRole coefs k r → Contains (roles coefs k) r
has-role coefs k Low is = (0, (let l : 0 < length (roles coefs k) = omega arith in l), refl)
has-role coefs k High is = has-fixed coefs k High (1, (let l : 1 < length (fixed_roles k) = omega arith in l), refl)
has-role coefs k (Nothing false) is = has-fixed coefs k (Nothing false) (2, (let l : 2 < length (fixed_roles k) = omega arith in l), refl)
has-role coefs k (Nothing true) is = has-fixed coefs k (Nothing true) (3, (let l : 3 < length (fixed_roles k) = omega arith in l), refl)
has-role coefs k (Piece i b) is =
    let pieces = flat_map pieces_of (range_with_len 0 k) in
    has-fixed coefs k (Piece i b)
    (Contains-append_right (Low ∷ High ∷ Nothing false ∷ Nothing true ∷ []) (pieces ++ Plus ∷ []) (Piece i b)
    (Contains-append_left pieces (Plus ∷ []) (Piece i b) (has_flat pieces_of (range_with_len 0 k) i (Piece i b) (range_has 0 k i (omega arith) (omega arith)) (of b))))
  where
    of : (b : Bool) → Contains (pieces_of i) (Piece i b)
    of false = has_first (Piece i false) (Piece i true ∷ [])
    of true = has_later (Piece i true) (Piece i false) (Piece i true ∷ []) (has_first (Piece i true) [])
has-role coefs k Plus is =
    let pieces = flat_map pieces_of (range_with_len 0 k) in
    has-fixed coefs k Plus
    (Contains-append_right (Low ∷ High ∷ Nothing false ∷ Nothing true ∷ []) (pieces ++ Plus ∷ []) Plus (Contains-append_right pieces (Plus ∷ []) Plus (has_first Plus [])))
has-role coefs k (Debtor j) is = has-block coefs k j (Debtor j) is.0 (debtor (coefficient_of coefs j) is.1)
  where
    debtor : (a : ℤ) → a <ℤ pos 0 → Contains (block_of k j a) (Debtor j)
    debtor (pos n) l = absurd (omega (arith, ints, l))
    debtor (negsuc n) l = Contains-append_right (map (Token j) (range_with_len 0 k)) (Debtor j ∷ []) (Debtor j) (has_first (Debtor j) [])
has-role coefs k (Token j i) is =
    let a = coefficient_of coefs j in
    has-block coefs k j (Token j i) is.0
    (Contains-append_left (map (Token j) (range_with_len 0 (chain_of k a))) (debtors_of j a) (Token j i) (has_map (Token j) (range_with_len 0 (chain_of k a)) i (range_has 0 (chain_of k a) i (omega arith) (omega (arith, is.1)))))

-- a role of the leaf is found at its place
pub record IsThere (coefs : List ℤ) (k : ℕ) (r : Role) : Type 0 where
  pub low : place coefs k r < length (roles coefs k)
  pub found : role_at coefs k (place coefs k r) ≡ r

pub there : (coefs : List ℤ) (k : ℕ) (r : Role) → IsRole coefs k r → IsThere coefs k r
there coefs k r is =
    let c = has-role coefs k r is in
    let at : role_at coefs k c.0 ≡ r = get_or_from_slice_get (roles coefs k) c.0 r (Nothing false) (slice_get-get_or (roles coefs k) c.0 r c.1 ∙ ap Some c.2) in
    let same : place coefs k r ≡ c.0 = sym (ap (place coefs k) at) ∙ place-role coefs k c.0 c.1 in
    record { low = (let l = c.1 in omega (arith, same, l)); found = ap (role_at coefs k) same ∙ at }

pub place_low : (coefs : List ℤ) (k : ℕ) (r : Role) → IsRole coefs k r → length (roles coefs k) ≤ 512 → place coefs k r < 2 ^ 16
place_low coefs k r is few = let l = (there coefs k r is).low in omega (arith, l, few)
