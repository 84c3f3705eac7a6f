-- What passing nodes are.
use Rattle.std.proofs.Common.{◌≡◌, ℕ, ◌<◌, Bool, true, false, List, [], ◌∷◌, length, get_or, refl, sym, ◌∙◌}
use Rattle.std.specs.Prelude.{Some, None, nat_lt}
use Rattle.std.specs.List.{list_all}
use Rattle.std.proofs.lemmas.Bool.{lt-ltb}
use Rattle.pop_leaf.specs.LeafModel.{LeafModel}
use Rattle.cert_base.specs.declared.fact.Term.{Term}
use Rattle.cert_base.specs.declared.fact.Row.{Row}
use Rattle.cert_base.specs.declared.fact.Fact.{Fact}
use Rattle.cert_base.specs.declared.node.Node.TheVariants.{Linear, Residue, Split, Present, Twin, Trap, Siphon, First}
use Rattle.cert_base.specs.Rows.{variable_count}
use Rattle.cert_base.specs.FactsAndCases.{can_meet_in, not_twice, case_of_twin, cases_of_split, cases_of_present, cases_of_trap, cases_of_siphon, cases_of_first}
use Rattle.cert_base.specs.ClosingTests.{closes_by_sum, closes_by_residue}
use Rattle.cert_base.specs.Closes.{name_below}
use Rattle.cert_tree.specs.Halts.{IsPassed}
use Rattle.std.proofs.lemmas.Bool.{ltb-true}
use Rattle.std.proofs.lemmas.List.Sums.{AllPass-from_list_all}
use Rattle.cert_linear.specs.Conditions.{AreNamed}

-- terms that pass the test name facts
pub all_named : (n : ℕ) (terms : List Term) → name_below n terms ≡ true → AreNamed n terms
all_named n terms e k d l = ltb-true (get_or terms k d).at n (AllPass-from_list_all (λ (t : Term). nat_lt t.at n) terms e k d l)

pub linear_passed : (facts : List Fact) (terms : List Term) (cases : List (List Fact)) → name_below (length facts) terms ≡ true → closes_by_sum facts terms ≡ true → cases ≡ [] → (leaf dead : LeafModel) → IsPassed leaf dead facts (Linear terms) cases
linear_passed facts terms cases named closes none leaf dead = record {
  cases_are = none;
  unrefused = rw (named, closes) refl;
}

pub residue_passed : (facts : List Fact) (m : ℕ) (terms : List Term) (cases : List (List Fact)) → name_below (length facts) terms ≡ true → closes_by_residue facts m terms ≡ true → cases ≡ [] → (leaf dead : LeafModel) → IsPassed leaf dead facts (Residue m terms) cases
residue_passed facts m terms cases named closes none leaf dead = record {
  cases_are = none;
  unrefused = rw (named, closes) refl;
}

pub split_passed : (leaf : LeafModel) (row : Row) (cases : List (List Fact)) → name_below (variable_count leaf) row.terms ≡ true → cases ≡ cases_of_split row → (dead : LeafModel) (facts : List Fact) → IsPassed leaf dead facts (Split row) cases
split_passed leaf row cases named same dead facts = record {
  cases_are = same ∙ sym (rw named refl);
  unrefused = rw named refl;
}

pub present_passed : (leaf dead : LeafModel) (p : ℕ) (cases : List (List Fact)) → p < length leaf.states → cases ≡ cases_of_present dead p → (facts : List Fact) → IsPassed leaf dead facts (Present p) cases
present_passed leaf dead p cases l same facts =
    let named = lt-ltb p (length leaf.states) l in
    record {
      cases_are = same ∙ sym (rw named refl);
      unrefused = rw named refl;
    }

pub twin_passed : (leaf dead : LeafModel) (p : ℕ) (own : List Fact) (cases : List (List Fact)) → p < length leaf.states → Some own ≡ case_of_twin dead p → cases ≡ own ∷ [] → (facts : List Fact) → IsPassed leaf dead facts (Twin p) cases
twin_passed leaf dead p own cases l same is facts = go (can_meet_in dead p p) refl
  where
    go : (meets : Bool) → can_meet_in dead p p ≡ meets → IsPassed leaf dead facts (Twin p) cases
    go true e =
        let named = lt-ltb p (length leaf.states) l in
        let whole : Some own ≡ Some (not_twice dead p ∷ []) = same ∙ rw e refl in
        let own_is : own ≡ not_twice dead p ∷ [] = cc in
        record {
          cases_are = is ∙ rw (named, e, own_is) refl;
          unrefused = rw (named, e) refl;
        }
    go false e = let none : Some own ≡ None = same ∙ rw e refl in cc

pub trap_passed : (leaf : LeafModel) (set : List ℕ) (cases : List (List Fact)) → list_all (λ q. nat_lt q (length leaf.states)) set ≡ true → cases ≡ cases_of_trap leaf set → (dead : LeafModel) (facts : List Fact) → IsPassed leaf dead facts (Trap set) cases
trap_passed leaf set cases named same dead facts = record {
  cases_are = same ∙ sym (rw named refl);
  unrefused = rw named refl;
}

pub siphon_passed : (leaf : LeafModel) (set : List ℕ) (cases : List (List Fact)) → list_all (λ q. nat_lt q (length leaf.states)) set ≡ true → cases ≡ cases_of_siphon leaf set → (dead : LeafModel) (facts : List Fact) → IsPassed leaf dead facts (Siphon set) cases
siphon_passed leaf set cases named same dead facts = record {
  cases_are = same ∙ sym (rw named refl);
  unrefused = rw named refl;
}

pub first_passed : (leaf : LeafModel) (set : List ℕ) (cases : List (List Fact)) → list_all (λ q. nat_lt q (length leaf.states)) set ≡ true → cases ≡ cases_of_first leaf set → (dead : LeafModel) (facts : List Fact) → IsPassed leaf dead facts (First set) cases
first_passed leaf set cases named same dead facts = record {
  cases_are = same;
  unrefused = rw named refl;
}
