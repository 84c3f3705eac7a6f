-- A node that a room passes.
use Rattle.std.proofs.Common.{◌≡◌, ℕ, ◌+◌, Bool, true, List, [], ◌∷◌, ◌++◌, length, map, refl, ap, ◌∙◌, length-append, arith}
use Rattle.std.specs.Prelude.{All, nat_le}
use Rattle.std.proofs.lemmas.Bool.{leb-true}
use Rattle.std.proofs.lemmas.List.{map-append}
use Rattle.std.proofs.lemmas.List.Elements.{All-nil, All-cons, All-append}
use Rattle.pop_leaf.proofs.Reactions.{and_left, and_right}
use Rattle.pop_leaf.specs.LeafModel.{LeafModel}
use Rattle.cert_base.specs.declared.fact.Fact.{Fact}
use Rattle.cert_base.specs.declared.node.Node.{Node}
use Rattle.cert_linear.specs.Conditions.{IsOrdered}
use Rattle.cert_tree.specs.declared.room.Room.{Room}
use Rattle.cert_tree.specs.Format.{IsWithinFormat}
use Rattle.cert_tree.specs.Refusals.{Waiting, cases_at, cases_under, all_fit}
use Rattle.cert_tree.specs.Frames.{Stacked, stacked, IsFit}
use Rattle.cert_tree.specs.Rooms.{placed, waiting_in, depth_in, dead_in, IsSoundIn, Opens, HasPassed}
use Rattle.cert_tree.proofs.Ordered.{CasesOrdered, all_of, cases_ordered, first_case}

-- cases on a stack, as cases of the tree
pub all_placed : (above n : ℕ) (is_still : Bool) (facts : List Fact) (cases : List (List Fact)) → map (placed above is_still) (map (λ own. (n, facts ++ own)) cases) ≡ cases_under (above + n) is_still facts cases
all_placed above n is_still facts [] = refl
all_placed above n is_still facts (own ∷ cases) =
    ap (λ (rest : List Waiting). placed above is_still (n, facts ++ own) ∷ rest) (all_placed above n is_still facts cases)

-- what waits in a room that was opened
pub opened_waits : (above : ℕ) (is_still : Bool) (facts : List Fact) (cases : List (List Fact)) (room : Room) → Opens above is_still facts cases room → waiting_in room ≡ cases_under above is_still facts cases
opened_waits above is_still facts cases room opens =
    ap (map (placed room.above room.is_still)) opens.waits
    ∙ all_placed room.above 0 room.is_still facts cases
    ∙ ap (λ n. cases_under n room.is_still facts cases) (let e : room.above + 0 ≡ above = omega (arith, opens.above_is) in e)
    ∙ ap (λ b. cases_under above b facts cases) opens.still_is

-- what waits in a room that has passed a node
pub passed_waits : (leaf dead : LeafModel) (old : Room) (node : Node) (new : Room) → HasPassed leaf dead old node new → waiting_in new ≡ cases_under (depth_in old) old.is_still old.stack.trail (cases_at leaf (dead_in leaf dead old) old.stack.trail node) ++ waiting_in old
passed_waits leaf dead old node new passed =
    let cases = cases_at leaf (dead_in leaf dead old) old.stack.trail node in
    let here = map {B = Stacked} (λ own. (length old.stack.frames.items, old.stack.trail ++ own)) cases in
    ap (map (placed new.above new.is_still)) passed.waits
    ∙ ap (λ n. map (placed n new.is_still) (here ++ stacked old.stack)) passed.above
    ∙ ap (λ b. map (placed old.above b) (here ++ stacked old.stack)) passed.is_still
    ∙ map-append (placed old.above old.is_still) here (stacked old.stack)
    ∙ ap (λ all. all ++ waiting_in old) (all_placed old.above (length old.stack.frames.items) old.is_still old.stack.trail cases)

pub below_fit : (above : ℕ) (facts : List Fact) (cases : List (List Fact)) → All IsOrdered facts → all_fit facts cases ≡ true → CasesOrdered cases → All IsFit (map {B = Stacked} (λ own. (above, facts ++ own)) cases)
below_fit above facts [] ordered fit h = All-nil IsFit
below_fit above facts (own ∷ cases) ordered fit h =
    let split = first_case h in
    let few = leb-true (length facts + length own) 65536 (and_left _ _ fit) in
    All-cons IsFit (above, facts ++ own) (map {B = Stacked} (λ own. (above, facts ++ own)) cases)
    (record { few = omega (arith, few, length-append facts own); ordered = All-append IsOrdered facts own ordered (all_of split.0) })
    (below_fit above facts cases ordered (and_right (nat_le (length facts + length own) 65536) _ fit) split.1)

pub passed_sound : (leaf dead : LeafModel) (old : Room) (node : Node) (new : Room) → IsWithinFormat node → All IsOrdered old.stack.trail → HasPassed leaf dead old node new → IsSoundIn old → IsSoundIn new
passed_sound leaf dead old node new within ordered passed sound =
    let cases = cases_at leaf (dead_in leaf dead old) old.stack.trail node in
    let n = length old.stack.frames.items in
    record {
      low = omega (arith, passed.above, sound.low);
      nested = passed.nested sound.nested;
      fit =
          rw passed.waits
          (All-append IsFit (map {B = Stacked} (λ own. (n, old.stack.trail ++ own)) cases) (stacked old.stack)
          (below_fit n old.stack.trail cases ordered passed.room (cases_ordered leaf (dead_in leaf dead old) old.stack.trail node within))
          sound.fit);
    }
