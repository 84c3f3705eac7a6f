-- Reactions that change nothing.
use Rattle.std.proofs.Common.{◌≡◌, false, refl}
use Rattle.std.specs.Prelude.{nat_eq}
use Rattle.std.specs.Cmp.Lexicographic.{pointwise}
use Rattle.std.proofs.lemmas.Bool.{and_parts, and_from, not-false, not_from_true}
use Rattle.std.proofs.lemmas.Bool.Decides.{Decides-eqb}
use Rattle.std.proofs.lemmas.Slice.Eq.{slice_eq-Decides}
use Rattle.pop_leaf.specs.NetModel.{NetModel, Tuple}
use Rattle.pop_leaf.specs.Reaction.{reaction}
use Rattle.pop_crowd.specs.Replay.{reacts}

-- the reaction of two tuples leaves both unchanged
pub still : (net : NetModel) (x y : Tuple) → reacts net x y ≡ false → ((reaction net x y).0 ≡ x) × ((reaction net x y).1 ≡ y)
still net x y e =
    let both = and_parts (pointwise nat_eq (reaction net x y).0 x) (pointwise nat_eq (reaction net x y).1 y) (not-false _ e) in
    ((slice_eq-Decides Decides-eqb (reaction net x y).0 x _ refl).0 both.0, (slice_eq-Decides Decides-eqb (reaction net x y).1 y _ refl).0 both.1)

pub moved : (net : NetModel) (x y : Tuple) → (reaction net x y).0 ≡ x → (reaction net x y).1 ≡ y → reacts net x y ≡ false
moved net x y e f =
    not_from_true _ (and_from _ _ ((slice_eq-Decides Decides-eqb (reaction net x y).0 x _ refl).1 e) ((slice_eq-Decides Decides-eqb (reaction net x y).1 y _ refl).1 f))
