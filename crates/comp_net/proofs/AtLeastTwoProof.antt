-- The compiled net for `x >= 2`, and what is known of all compiled nets.
use Rattle.std.proofs.Common.{◌≡◌, ◌≢◌, ◌∙◌, ℕ, List, [], ◌∷◌, length, true, ◌^◌, refl, ap, sym, subst, arith}
use Rattle.std.specs.Prelude.{ℤ, negsuc, IsTrue}
use Rattle.std.specs.Fmt.{decimal}
use Rattle.std.proofs.lemmas.Fmt.{decimal_digit}
use Rattle.std.proofs.lemmas.List.Elements.{All-nil, All-cons}
use Rattle.std.proofs.lemmas.List.Kept.{AllPairs-cons}
use Rattle.pop_io.specs.Names.{AreNames, variable_name}
use Rattle.pop_leaf.specs.NetModel.{NetModel}
use Rattle.pop_checker.specs.Computes.{Computes}
use Rattle.comp_counting.specs.FlockAtoms.{IsFlock, flock_pred_of}
use Rattle.comp_flock.specs.FlockLeaf.{flock_leaf_of}
use Rattle.comp_flock.specs.FlockProof.{flock_part}
use Rattle.comp_flock.proofs.Small.{flock_is_pred}
use Rattle.comp_flock.proofs.Layers.{steps-are}
use Rattle.comp_flock.proofs.FlockValid.{flock-valid, flock-within}
use Rattle.comp_trees.proofs.TameKinds.{one_layer-tame}
use Rattle.comp_net.specs.declared.choice.NetLeaves.TheVariants.{Flocks}
use Rattle.comp_net.specs.Building.{IsAtomProof}
use Rattle.comp_net.specs.BuiltNet.{net_of}
use Rattle.comp_net.specs.AtLeastTwo.{two_leaf, two_net, at_least_two, AtLeastTwoComputes}
use Rattle.comp_net.specs.declared.choice.LessLeaf.TheVariants.{Flock}
use Rattle.comp_flock.specs.FlockLeaf.{power_worths}
use Rattle.comp_flock.proofs.MoveLists.{moves-single}
use Rattle.comp_net.proofs.Adding.{less_atom}
use Rattle.comp_net.proofs.Valid.{net-right}

abbrev coefs : List ℤ
coefs = negsuc 0 ∷ []

abbrev variables : List (List ℕ)
variables = (120 ∷ []) ∷ []

-- ---- the net

abbrev with_states : List (List ℕ) → NetModel
with_states names =
    record {
      variables = two_net.variables;
      leaves =
          record {
            states = names;
            moves = two_leaf.moves;
            inputs = two_leaf.inputs;
            outputs = two_leaf.outputs;
            helpers = two_leaf.helpers;
          }
          ∷ [];
      combine = two_net.combine;
    }

state_names : (48 ∷ []) ∷ (49 ∷ []) ∷ (50 ∷ []) ∷ [] ≡ decimal 0 ∷ decimal 1 ∷ decimal 2 ∷ []
state_names =
    ap (λ name. name ∷ (49 ∷ []) ∷ (50 ∷ []) ∷ []) (sym (decimal_digit 0 (omega arith)))
    ∙ ap (λ name. decimal 0 ∷ name ∷ (50 ∷ []) ∷ []) (sym (decimal_digit 1 (omega arith)))
    ∙ ap (λ name. decimal 0 ∷ decimal 1 ∷ name ∷ []) (sym (decimal_digit 2 (omega arith)))

is_built : two_net ≡ net_of Flocks variables at_least_two
is_built = ap with_states state_names

-- ---- the proof

is_flock : IsFlock coefs 1
is_flock = record { some = omega arith; few = omega arith; are = refl; low = omega arith; high = omega arith }

atom_proof : IsAtomProof Flocks 0 at_least_two (flock_part coefs 1)
atom_proof =
    (less_atom Flocks 0 coefs (negsuc 0) (Flock 1) (flock_pred_of coefs 1) (flock_leaf_of coefs 1) (flock_part coefs 1) refl
    (record { leaf_is = refl; pred_is = refl; valid = flock-valid coefs 1 is_flock; bound = steps-are (length (flock_leaf_of coefs 1).moves) 1; within = flock-within coefs 1 is_flock; single = moves-single true (power_worths 1) (2 ^ 1) 1; tame = one_layer-tame (flock_leaf_of coefs 1) (flock_part coefs 1).layers refl })
    refl refl).proof

names_formed : AreNames variable_name variables
names_formed = (
  All-cons (λ name. IsTrue (variable_name name)) (120 ∷ []) [] refl (All-nil (λ name. IsTrue (variable_name name))),
  AllPairs-cons ◌≢◌ (120 ∷ []) [] (All-nil (λ name. (120 ∷ []) ≢ name)) (λ i j d l m. absurd (omega (arith, m))),
)

built_computes : Computes (net_of Flocks variables at_least_two) at_least_two 2
built_computes =
    (net-right Flocks variables at_least_two (flock_part coefs 1 ∷ []) (atom_proof, tt) names_formed
    (flock_is_pred coefs 1 is_flock) refl).computes

pub at_least_two_is : AtLeastTwoComputes
at_least_two_is = record {
  built = is_built;
  computes = subst (λ (net : NetModel). Computes net at_least_two 2) (sym is_built) built_computes;
}
