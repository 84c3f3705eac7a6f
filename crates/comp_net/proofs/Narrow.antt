-- If nothing is wrong with a predicate, its atoms can be built, and they are few enough, even for a wide leaf.
use Rattle.std.proofs.Common.{◌≡◌, ℕ, ◌<◌, ◌≤◌, Bool, true, false, not, List, length, map, subst, refl, ap, sym, ◌∙◌, arith}
use Rattle.std.specs.Prelude.{None, All, nat_lt, if◌then◌else◌, position, ℤ}
use Rattle.std.proofs.lemmas.Bool.{ltb-true, ltb-false, le-ltb, not-true}
use Rattle.std.proofs.lemmas.List.{length-map, get_or-map}
use Rattle.std.proofs.Math.Bool.{not-not}
use Rattle.pop_leaf.specs.declared.limits.TheConstants.{LEAF_LIMIT, WIDE_LEAF_LIMIT}
use Rattle.pop_io.specs.declared.names.TheConstants.{VARIABLE_LIMIT}
use Rattle.pop_leaf.proofs.FirstFault.{NoneIff, first_of-nil, first_of-cons, none_unless, none_map, none_position}
use Rattle.pop_leaf.proofs.LeafFaults.{Decides-le}
use Rattle.pres_ast.specs.PredTree.{PredTree, LessThan, Congruent, Negation, Conjunction, Disjunction}
use Rattle.pres_ast.specs.PredModel.{AreCoefs, HasAtoms, IsAtomSum}
use Rattle.comp_net.specs.declared.fault.CompileFault.TheVariants as fault
use Rattle.comp_net.specs.declared.choice.NetLeaves.{NetLeaves}
use Rattle.comp_net.specs.Atoms.{atoms, atom_size, has_no_leaf, size_limit, narrow_limit, AreShort, AreBuildable}
use Rattle.comp_net.specs.CompileFaults.{sizes_of, missing_of, first_missing, first_size_over, first_wide_size, fault_of_sizes, fault_in}
use Rattle.base_laws.proofs.Lists.{all_front, all_back}

-- an atom with a leaf that isn't too large
abbrev pub Fits : NetLeaves → PredTree → Type 0
Fits choice a = (has_no_leaf choice a ≡ false) × (atom_size choice a ≤ size_limit choice)

-- every atom has a leaf
none_missing : (ms : List Bool) → NoneIff (first_missing ms) (All (λ m. m ≡ false) ms)
none_missing ms = (λ e. all.0 (same ∙ e), λ h. sym same ∙ all.1 h)
  where
    all : NoneIff (position (λ m. not (not m)) ms) (All (λ m. m ≡ false) ms)
    all = none_position not (λ m. m ≡ false) (λ m. (λ e. not-true m e, λ e. ap not e)) ms

    same : position (λ m. not (not m)) ms ≡ position (λ m. m) ms
    same = ap (λ p. position p ms) (λ i m. not-not m i)

-- no size is over the limit
none_over : (limit : ℕ) (ss : List ℕ) → NoneIff (first_size_over limit ss) (All (λ s. s ≤ limit) ss)
none_over limit ss = (λ e. all.0 (same ∙ e), λ h. sym same ∙ all.1 h)
  where
    all : NoneIff (position (λ s. not (not (nat_lt limit s))) ss) (All (λ s. s ≤ limit) ss)
    all = none_position (λ s. not (nat_lt limit s)) (λ s. s ≤ limit) (λ s. (λ e. ltb-false limit s (not-true _ e), λ l. ap not (le-ltb limit s l))) ss

    same : position (λ s. not (not (nat_lt limit s))) ss ≡ position (λ s. nat_lt limit s) ss
    same = ap (λ p. position p ss) (λ i s. not-not (nat_lt limit s) i)

none_wide : (choice : NetLeaves) (ss : List ℕ) → NoneIff (first_wide_size choice ss) (WIDE_LEAF_LIMIT < length ss → All (λ s. s ≤ narrow_limit choice) ss)
none_wide choice ss = go (nat_lt WIDE_LEAF_LIMIT (length ss)) refl
  where
    go : (many : Bool) → nat_lt WIDE_LEAF_LIMIT (length ss) ≡ many → NoneIff (if many then first_size_over (narrow_limit choice) ss else None) (WIDE_LEAF_LIMIT < length ss → All (λ s. s ≤ narrow_limit choice) ss)
    go true e = (λ none many. (none_over (narrow_limit choice) ss).0 none, λ h. (none_over (narrow_limit choice) ss).1 (h (ltb-true WIDE_LEAF_LIMIT (length ss) e)))
    go false e = (λ _ many. absurd (let few = ltb-false WIDE_LEAF_LIMIT (length ss) e in omega (arith, few, many)), λ _. refl)

abbrev KeepsLimits : NetLeaves → List Bool → List ℕ → Type 0
KeepsLimits choice ms ss =
    (length ss ≤ LEAF_LIMIT)
    × (All (λ m. m ≡ false) ms × (All (λ s. s ≤ size_limit choice) ss × ((WIDE_LEAF_LIMIT < length ss → All (λ s. s ≤ narrow_limit choice) ss) × Unit {0})))

limits_of : (choice : NetLeaves) (ms : List Bool) (ss : List ℕ) → NoneIff (fault_of_sizes choice ms ss) (KeepsLimits choice ms ss)
limits_of choice ms ss =
    first_of-cons _ _ (none_unless _ _ (Decides-le (length ss) LEAF_LIMIT))
    (first_of-cons _ _ (none_map fault.NoRange _ (none_missing ms))
    (first_of-cons _ _ (none_map _ _ (none_over (size_limit choice) ss))
    (first_of-cons _ _ (none_map fault.WideNet _ (none_wide choice ss)) first_of-nil)))

-- what holds of the measures of all atoms holds of the atoms
of_atoms : {A : Type 0} (P : A → Type 0) (measure : PredTree → A) (xs : List PredTree) → All P (map measure xs) → All (λ a. P (measure a)) xs
of_atoms P measure xs h k d l =
    subst P (get_or-map measure xs k d (measure d) l) (h k (measure d) (omega (arith, length-map xs measure)))

-- what is known of a tree with which nothing is wrong
pub record KeepsSizes (choice : NetLeaves) (tree : PredTree) : Type 0 where
  pub few : length (atoms tree) ≤ LEAF_LIMIT
  pub fits : All (Fits choice) (atoms tree)
  pub not_wide : WIDE_LEAF_LIMIT < length (atoms tree) → All (λ a. atom_size choice a ≤ narrow_limit choice) (atoms tree)

pub keeps_sizes : (choice : NetLeaves) (tree : PredTree) → fault_in choice tree ≡ None → KeepsSizes choice tree
keeps_sizes choice tree e =
    let keeps = (limits_of choice (missing_of choice tree) (sizes_of choice tree)).0 e in
    let long = length-map (atoms tree) (atom_size choice) in
    let there = of_atoms (λ m. m ≡ false) (has_no_leaf choice) (atoms tree) keeps.1.0 in
    let small = of_atoms (λ s. s ≤ size_limit choice) (atom_size choice) (atoms tree) keeps.1.1.0 in
    record {
      few = (let l = keeps.0 in omega (arith, long, l));
      fits = λ k d l. (there k d l, small k d l);
      not_wide = λ many. of_atoms (λ s. s ≤ narrow_limit choice) (atom_size choice) (atoms tree) (keeps.1.1.1.0 (omega (arith, long, many)));
    }

atom_sum : (n : ℕ) (coefs : List ℤ) → 1 ≤ n → n ≤ VARIABLE_LIMIT → AreCoefs n coefs → IsAtomSum coefs
atom_sum n coefs some few are = let long = are.0 in record { some = omega arith; few = omega arith; small = are.1 }

pub buildable : (choice : NetLeaves) (n : ℕ) (tree : PredTree) → 1 ≤ n → n ≤ VARIABLE_LIMIT → HasAtoms n tree → All (Fits choice) (atoms tree) → AreBuildable choice tree
buildable choice n (LessThan coefs bound) some few has narrow =
    (let fits = narrow 0 (LessThan coefs bound) (omega arith) in (atom_sum n coefs some few has.0, has.1, fits.0, fits.1))
buildable choice n (Congruent coefs m rest) some few has narrow =
    (atom_sum n coefs some few has.0, record { low = has.1; high = has.2; left = has.3 })
buildable choice n (Negation p) some few has narrow = buildable choice n p some few has narrow
buildable choice n (Conjunction p q) some few has narrow =
    (buildable choice n p some few has.0 (all_front (Fits choice) (atoms p) (atoms q) narrow), buildable choice n q some few has.1 (all_back (Fits choice) (atoms p) (atoms q) narrow))
buildable choice n (Disjunction p q) some few has narrow =
    (buildable choice n p some few has.0 (all_front (Fits choice) (atoms p) (atoms q) narrow), buildable choice n q some few has.1 (all_back (Fits choice) (atoms p) (atoms q) narrow))

-- atoms over few variables have few coefficients
pub short_atoms : (n : ℕ) (tree : PredTree) → n ≤ VARIABLE_LIMIT → HasAtoms n tree → AreShort tree
short_atoms n (LessThan coefs bound) few has = let long = has.0.0 in omega (arith, long, few)
short_atoms n (Congruent coefs m rest) few has = let long = has.0.0 in omega (arith, long, few)
short_atoms n (Negation p) few has = short_atoms n p few has
short_atoms n (Conjunction p q) few has = (short_atoms n p few has.0, short_atoms n q few has.1)
short_atoms n (Disjunction p q) few has = (short_atoms n p few has.0, short_atoms n q few has.1)
