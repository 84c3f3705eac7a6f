-- Every end meets all facts of one of the cases.
use Rattle.std.proofs.Common.{◌≡◌, ℕ, ◌+◌, ◌<◌, Bool, true, false, List, [], ◌∷◌, length, refl, ap, ◌∙◌, arith}
use Rattle.std.specs.Prelude.{Some, None, IfSome, if◌then◌else◌}
use Rattle.pop_leaf.specs.LeafModel.{LeafModel, IsLeaf}
use Rattle.cert_base.specs.FactsAndCases.{can_meet_in, not_twice, cases_of_present, case_of_twin, cases_of_trap, cases_of_siphon}
use Rattle.cert_base.specs.Ends.{IsEndFor, HaveSamePlaces, CoverDead, CoverEach}
use Rattle.cert_base.proofs.InRange.{end_in_range}
use Rattle.cert_base.specs.Valuation.{Valuation}
use Rattle.cert_traps.proofs.PresentEnds.{CountsStates, present_met, twin_met}
use Rattle.cert_traps.proofs.TrapEnds.{trap_met}
use Rattle.cert_traps.proofs.SiphonEnds.{siphon_met}

-- the counts of the states are those of the end, by the numbers that they have in the leaf that is dead there
counts_dead : (leaf dead : LeafModel) (count : Valuation) → HaveSamePlaces leaf dead → (end : IsEndFor leaf dead count) → CountsStates dead count end.end
counts_dead leaf dead count same end q l =
    ap (λ n. count (n + q)) same.inputs ∙ end.execution.states q (let m : q < length leaf.states = omega (arith, l, same.states) in m)

pub present-cover : (dead : LeafModel) (p : ℕ) → p < length dead.states → CoverDead dead (cases_of_present dead p)
present-cover dead p l leaf same count end =
    present_met dead count end.end (counts_dead leaf dead count same end) end.terminal p l

pub twin-one : (dead : LeafModel) (p : ℕ) → p < length dead.states → can_meet_in dead p p ≡ true → CoverDead dead ((not_twice dead p ∷ []) ∷ [])
twin-one dead p l e leaf same count end =
    twin_met dead count end.end (counts_dead leaf dead count same end) end.terminal p l e

pub twin-cover : (dead : LeafModel) (p : ℕ) → p < length dead.states → IfSome (case_of_twin dead p) (λ facts. CoverDead dead (facts ∷ []))
twin-cover dead p l = go (can_meet_in dead p p) refl
  where
    go : (b : Bool) → can_meet_in dead p p ≡ b → IfSome (if b then Some (not_twice dead p ∷ []) else None) (λ facts. CoverDead dead (facts ∷ []))
    go true e = twin-one dead p l e
    go false e = tt

pub trap-cover : (leaf : LeafModel) (set : List ℕ) → IsLeaf leaf → CoverEach leaf (cases_of_trap leaf set)
trap-cover leaf set is dead count end =
    trap_met leaf set count end.counts end.path end.end end.way end.execution (end_in_range leaf is end.counts end.path end.end end.input.one_each end.way)

pub siphon-cover : (leaf : LeafModel) (set : List ℕ) → CoverEach leaf (cases_of_siphon leaf set)
siphon-cover leaf set dead count end =
    siphon_met leaf set count end.counts end.path end.end end.way end.input.one_each end.execution
