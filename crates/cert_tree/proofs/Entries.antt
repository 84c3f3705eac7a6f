-- A room that is entered for the cases of entries.
use Rattle.std.proofs.Common.{◌≡◌, ℕ, ◌+◌, ◌≤◌, true, false, List, [], ◌∷◌, ◌++◌, length, ap, ◌∙◌, arith}
use Rattle.std.specs.Prelude.{All, nat_eq}
use Rattle.std.proofs.lemmas.Bool.{leb-true}
use Rattle.pop_leaf.proofs.Reactions.{and_left}
use Rattle.pop_leaf.specs.LeafModel.{LeafModel}
use Rattle.cert_base.specs.declared.fact.Fact.{Fact}
use Rattle.cert_base.specs.declared.node.Node.TheVariants.{First}
use Rattle.cert_base.specs.FactsAndCases.{before_entry, cases_of_entry}
use Rattle.cert_linear.specs.Conditions.{IsOrdered}
use Rattle.cert_tree.specs.declared.room.Room.{Room}
use Rattle.cert_tree.specs.declared.walk.Walk.{Walk}
use Rattle.cert_tree.specs.Refusals.{cases_under, all_fit}
use Rattle.cert_tree.specs.Rooms.{waiting_in, depth_in, IsSoundIn, Opens}
use Rattle.cert_tree.specs.Walks.{waiting, HasEntered}
use Rattle.cert_tree.proofs.Ordered.{before_ordered, entries_ordered}
use Rattle.cert_tree.proofs.Passages.{opened_waits, below_fit}

-- facts that leave room for some case are few enough
pub room_within : (facts : List Fact) (cases : List (List Fact)) → all_fit facts cases ≡ true → nat_eq (length cases) 0 ≡ false → length facts ≤ 65536
room_within facts [] fit some = cc
room_within facts (own ∷ cases) fit some =
    let few = leb-true (length facts + length own) 65536 (and_left _ _ fit) in omega (arith, few)

module _ (leaf : LeafModel) (set : List ℕ) (known : List Fact) (room : Room) (above : ℕ) (opens : Opens above true (before_entry leaf set known) (cases_of_entry leaf set) room) (fit : all_fit (before_entry leaf set known) (cases_of_entry leaf set) ≡ true) where
  pub opened_sound : above ≤ 4096 → All IsOrdered known → IsSoundIn room
  opened_sound low ordered = record {
    low = omega (arith, opens.above_is, low);
    nested = opens.nested;
    fit = rw opens.waits (below_fit 0 (before_entry leaf set known) (cases_of_entry leaf set) (before_ordered leaf set known ordered) fit (entries_ordered leaf set));
  }

-- what waits then
pub has_entered : (leaf : LeafModel) (set : List ℕ) (old new : Walk) (room : Room) (n : ℕ) → n + 1 ≡ depth_in old.room → all_fit (before_entry leaf set old.room.stack.trail) (cases_of_entry leaf set) ≡ true → Opens n true (before_entry leaf set old.room.stack.trail) (cases_of_entry leaf set) room → waiting new ≡ waiting_in room ++ waiting old → HasEntered leaf old (First set) new
has_entered leaf set old new room n depth fit opens more = record {
  room = fit;
  waits = λ above e.
      let same : n ≡ above = omega (arith, e, depth) in
      more
      ∙ ap (λ ws. ws ++ waiting old) (opened_waits n true (before_entry leaf set old.room.stack.trail) (cases_of_entry leaf set) room opens)
      ∙ ap (λ k. cases_under k true (before_entry leaf set old.room.stack.trail) (cases_of_entry leaf set) ++ waiting old) same;
}
