-- What an observer needs for its part of a round.
use Rattle.std.specs.Prelude.{◌≡◌, ◌≤◌, ℕ}
use Rattle.pop_leaf.specs.NetModel.{NetModel}
use Rattle.agent_field.specs.declared.field.Field.{Field}
use Rattle.agent_field.specs.declared.field.FieldSeat.{FieldSeat}
use Rattle.agent_field.specs.Seats.{IsSeatOf, net_of, seat_number, spare_looks_of}
use Rattle.run_picks.specs.CrowdSize.{IsCrowdSize}
use Rattle.run_picks.specs.SameLanes.{HaveSameLanes}
use Rattle.pair_workers.specs.Work.{agents_of_field}
use Rattle.run_picks.specs.declared.alone.TheConstants.{ROUND_TURNS}
use Rattle.pop_watch.specs.declared.limits.TheConstants.{LOOKS_A_ROUND}

-- the field belongs to the net, words stand for the same crowds in the net of the table of pairs, and the observer has
-- the seat 0, with room for all looks of a round
pub record CanObserve (net tabled : NetModel) (f : Field) (turns : ℕ) (s : FieldSeat) : Type 0 where
  pub lanes : HaveSameLanes tabled net
  pub field : net_of f ≡ net
  pub agents : IsCrowdSize (agents_of_field f)
  pub ours : IsSeatOf f s
  pub first : seat_number s ≡ 0
  pub room : LOOKS_A_ROUND ≤ spare_looks_of s
  pub few : turns ≤ ROUND_TURNS
