-- Lists as the code builds them.
use Rattle.std.proofs.Common.{◌≡◌, ◌∙◌, ℕ, zero, suc, ◌+◌, ◌*◌, ◌<◌, ◌≤◌, false, List, [], ◌∷◌, ◌++◌, length, map, take, append_assoc, length-append, refl, ap, sym, arith}
use Rattle.std.specs.Prelude.{ℤ, pos, negsuc, Some, slice_get, replicate, flat_map}
use Rattle.std.specs.List.{range_with_len}
use Rattle.std.proofs.lemmas.List.{append-nil}
use Rattle.base_laws.proofs.Lists.{take_one_more}
use Rattle.comp_powers_leaf.specs.declared.role.Role.{Role}
use Rattle.comp_powers_leaf.proofs.Moves.{chain-most}
use Rattle.comp_powers_leaf.proofs.Places.{length-block, length-pieces}
use Rattle.comp_powers_leaf.specs.declared.role.Role.TheVariants.{Nothing, Plus}
use Rattle.comp_powers_leaf.specs.PowersLeaf.{place, hub_of, lacking, bit_role, helper_roles, all_helper_roles}
use Rattle.comp_powers_leaf.specs.PowersLeaf.{coefficient_of, block_of, blocks_from, block_size, states_before, pieces_of, fixed_roles, roles}

size-most : (k : ℕ) (a : ℤ) → k ≤ 40 → block_size k a ≤ 41
size-most k (pos n) l = let m = chain-most k (pos n) in omega (arith, l, m)
size-most k (negsuc n) l = omega (arith, l)

pub before-most : (k : ℕ) (coefs : List ℤ) (j : ℕ) → k ≤ 40 → states_before k coefs j ≤ 41 * j
before-most k [] j l = omega arith
before-most k (a ∷ coefs) zero l = omega arith
before-most k (a ∷ coefs) (suc j) l = let rest = before-most k coefs j l in let here = size-most k a l in omega (arith, rest, here)

pub none_before : (k : ℕ) (coefs : List ℤ) → states_before k coefs 0 ≡ 0
none_before k [] = refl
none_before k (a ∷ coefs) = refl

pub one_more_before : (k : ℕ) (coefs : List ℤ) (j : ℕ) → j < length coefs → states_before k coefs (j + 1) ≡ states_before k coefs j + block_size k (coefficient_of coefs j)
one_more_before k [] j l = absurd (omega (arith, l))
one_more_before k (a ∷ coefs) zero l = let e = ap (λ m. states_before k (a ∷ coefs) m) (let e : 0 + 1 ≡ suc 0 = omega arith in e) in let z = none_before k coefs in omega (arith, e, z)
one_more_before k (a ∷ coefs) (suc j) l =
    let e = ap (λ m. states_before k (a ∷ coefs) m) (let e : suc j + 1 ≡ suc (j + 1) = omega arith in e) in
    let rest = one_more_before k coefs j (omega (arith, l)) in
    omega (arith, e, rest)

blocks-append : (k j : ℕ) (xs : List ℤ) (a : ℤ) → blocks_from k j (xs ++ a ∷ []) ≡ blocks_from k j xs ++ block_of k (j + length xs) a
blocks-append k j [] a = append-nil (block_of k j a) ∙ ap (λ m. block_of k m a) (let e : j ≡ j + 0 = omega arith in e)
blocks-append k j (x ∷ xs) a =
    ap (λ rs. block_of k j x ++ rs) (blocks-append k (j + 1) xs a ∙ ap (λ m. blocks_from k (j + 1) xs ++ block_of k m a) (let e : j + 1 + length xs ≡ j + suc (length xs) = omega arith in e))
    ∙ sym (append_assoc (block_of k j x) (blocks_from k (j + 1) xs) (block_of k (j + suc (length xs)) a))

-- ---- how many states there are

blocks-long : (k j : ℕ) (coefs : List ℤ) → length (blocks_from k j coefs) ≡ states_before k coefs (length coefs)
blocks-long k j [] = refl
blocks-long k j (a ∷ coefs) = omega (arith, length-append (block_of k j a) (blocks_from k (j + 1) coefs), length-block k j a, blocks-long k (j + 1) coefs)

pub states_counted : (coefs : List ℤ) (k : ℕ) → length (roles coefs k) ≡ 2 * k + 5 + states_before k coefs (length coefs)
states_counted coefs k =
    let pieces = flat_map pieces_of (range_with_len 0 k) in
    omega (arith, length-append (fixed_roles k) (blocks_from k 0 coefs), length-append pieces (Plus ∷ []), length-pieces 0 k, blocks-long k 0 coefs)

size-few : (k : ℕ) (a : ℤ) → block_size k a ≤ k + 1
size-few k (pos n) = let m = chain-most k (pos n) in omega (arith, m)
size-few k (negsuc n) = omega arith

before-few : (k : ℕ) (coefs : List ℤ) → states_before k coefs (length coefs) ≤ (k + 1) * length coefs
before-few k [] = omega arith
before-few k (a ∷ coefs) =
    let here = size-few k a in
    let rest = before-few k coefs in
    let times : (k + 1) * suc (length coefs) ≡ (k + 1) + (k + 1) * length coefs = grind arith in
    omega (arith, here, rest, times)

pub states-few : (coefs : List ℤ) (k : ℕ) → length (roles coefs k) ≤ 2 * k + 5 + (k + 1) * length coefs
states-few coefs k = let count = states_counted coefs k in let rest = before-few k coefs in omega (arith, count, rest)

-- one more variable's states
pub more_blocks : (k j : ℕ) (coefs : List ℤ) (a : ℤ) (first before own after : List Role) → slice_get coefs j ≡ Some a → length (take j coefs) ≡ j → before ≡ first ++ blocks_from k 0 (take j coefs) → own ≡ block_of k j a → after ≡ before ++ own → after ≡ first ++ blocks_from k 0 (take (j + 1) coefs)
more_blocks k j coefs a first before own after got long b o e =
    e ∙ ap (λ rs. rs ++ own) b ∙ ap (λ rs. (first ++ blocks_from k 0 (take j coefs)) ++ rs) o
    ∙ append_assoc first (blocks_from k 0 (take j coefs)) (block_of k j a)
    ∙ ap (λ rs. first ++ rs) (ap (λ m. blocks_from k 0 (take j coefs) ++ block_of k m a) (let f : j ≡ 0 + length (take j coefs) = omega (arith, long) in f) ∙ sym (blocks-append k 0 (take j coefs) a) ∙ ap (blocks_from k 0) (sym (take_one_more coefs j a got)))

pub map-map : {A B C : Type 0} (g : B → C) (f : A → B) (xs : List A) → map g (map f xs) ≡ map (λ x. g (f x)) xs
map-map g f [] = refl
map-map g f (x ∷ xs) = ap (λ ys. g (f x) ∷ ys) (map-map g f xs)

map-append : {A B : Type 0} (f : A → B) (xs ys : List A) → map f (xs ++ ys) ≡ map f xs ++ map f ys
map-append f [] ys = refl
map-append f (x ∷ xs) ys = ap (λ zs. f x ∷ zs) (map-append f xs ys)

map-replicate : {A B : Type 0} (f : A → B) (x : A) (n : ℕ) → map f (replicate n x) ≡ replicate n (f x)
map-replicate f x zero = refl
map-replicate f x (suc n) = ap (λ zs. f x ∷ zs) (map-replicate f x n)

-- the helpers' places
pub helpers_as : (coefs : List ℤ) (bound : ℤ) (k n h s : ℕ) (role : Role) (first bits after : List ℕ) → role ≡ hub_of bound → h ≡ place coefs k role → s ≡ place coefs k (Nothing false) → n ≡ lacking k bound → first ≡ h ∷ s ∷ [] → bits ≡ map (λ i. place coefs k (bit_role n i)) (range_with_len 0 k) → after ≡ first ++ bits → after ≡ map (place coefs k) (helper_roles bound k)
helpers_as coefs bound k n h s role first bits after er eh es en ef eb ea =
    let begin : ℕ → ℕ → List ℕ → List ℕ = λ a b rest. a ∷ b ∷ rest in
    ea ∙ ap (λ xs. xs ++ bits) ef
    ∙ ap (λ a. begin a s bits) (eh ∙ ap (place coefs k) er)
    ∙ ap (λ b. begin (place coefs k (hub_of bound)) b bits) es
    ∙ ap (λ rest. begin (place coefs k (hub_of bound)) (place coefs k (Nothing false)) rest)
    (eb ∙ ap (λ m. map (λ i. place coefs k (bit_role m i)) (range_with_len 0 k)) en ∙ sym (map-map (place coefs k) (bit_role (lacking k bound)) (range_with_len 0 k)))

-- with the spare ones
pub spares_as : (coefs : List ℤ) (bound : ℤ) (k spare s : ℕ) (own more after : List ℕ) → own ≡ map (place coefs k) (helper_roles bound k) → s ≡ place coefs k (Nothing false) → more ≡ replicate spare s → after ≡ own ++ more → after ≡ map (place coefs k) (all_helper_roles bound k spare)
spares_as coefs bound k spare s own more after eo es em ea =
    ea ∙ ap (λ xs. xs ++ more) eo
    ∙ ap (λ xs. map (place coefs k) (helper_roles bound k) ++ xs) (em ∙ ap (replicate spare) es ∙ sym (map-replicate (place coefs k) (Nothing false) spare))
    ∙ sym (map-append (place coefs k) (helper_roles bound k) (replicate spare (Nothing false)))
