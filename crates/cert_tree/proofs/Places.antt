-- Where a walk stands.
use Rattle.std.proofs.Common.{◌≡◌, suc, ◌+◌, List, [], ◌∷◌, ◌++◌, map, reverse, ap, sym, subst, ◌∙◌, arith}
use Rattle.std.specs.Prelude.{All}
use Rattle.cert_tree.specs.declared.room.Room.{Room}
use Rattle.cert_tree.specs.declared.walk.Walk.{Walk}
use Rattle.cert_tree.specs.Refusals.{waits}
use Rattle.cert_tree.specs.Frames.{Stacked, stacked, IsFit, StandsAtFirst}
use Rattle.cert_tree.specs.Rooms.{placed, waiting_in, IsSoundIn}
use Rattle.cert_tree.specs.Walks.{waiting_rooms, waiting_outside, AreSound, StandsAt}
use Rattle.cert_tree.proofs.Stacks.{turned}

-- the room's next case is the walk's
pub found : (old : Room) (walk : Walk) → walk.room.above ≡ old.above → walk.room.is_still ≡ old.is_still → IsSoundIn old → AreSound (reverse walk.outside.items) → StandsAtFirst (stacked old.stack) walk.room.stack → StandsAt (waiting_in old ++ waiting_outside walk) walk
found old walk base mode sound outside at =
    let room = walk.room in
    let fit : All IsFit ((at.above, room.stack.trail) ∷ stacked room.stack) = rw at.first at sound.fit in
    record {
      above = old.above + at.above;
      depth = omega (arith, base, at.depth);
      first =
          ap (λ (all : List Stacked). map (placed old.above old.is_still) all ++ waiting_outside walk) at.first
          ∙ ap (λ n. waits (old.above + at.above) old.is_still room.stack.trail ∷ (map (placed n old.is_still) (stacked room.stack) ++ waiting_outside walk)) (sym base)
          ∙ ap (λ b. waits (old.above + at.above) b room.stack.trail ∷ (map (placed room.above b) (stacked room.stack) ++ waiting_outside walk)) (sym mode);
      ordered = (fit 0 (0, []) (omega arith)).ordered;
      sound =
          record {
            inside =
                record {
                  low = omega (arith, base, sound.low);
                  nested = at.nested;
                  fit = λ k d l. fit (suc k) d (omega arith);
                };
            outside = outside;
          };
    }

-- what waits in the rooms outside, the latest of which is this one
pub next_outside : (all rest : List Room) (room : Room) → all ≡ rest ++ room ∷ [] → waiting_rooms (reverse all) ≡ waiting_in room ++ waiting_rooms (reverse rest)
next_outside all rest room e = ap waiting_rooms (turned all rest room e)

pub split_sound : (all rest : List Room) (room : Room) → all ≡ rest ++ room ∷ [] → AreSound (reverse all) → IsSoundIn room × AreSound (reverse rest)
split_sound all rest room e sound = subst AreSound (turned all rest room e) sound
