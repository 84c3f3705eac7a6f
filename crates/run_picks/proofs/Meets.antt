-- Picks are meetings of two different agents.
use Rattle.std.proofs.Common.{◌≡◌, ◌≢◌, ℕ, ◌+◌, ◌-◌, ◌<◌, ◌≤◌, Bool, true, false, List, [], ◌∷◌, length, refl, sym, subst, arith}
use Rattle.std.specs.Prelude.{◌/◌, ◌%◌, ◌^◌, nat_le, if◌then◌else◌}
use Rattle.std.proofs.Math.Nat.{mod-lt}
use Rattle.std.proofs.lemmas.Bool.{leb-true, leb-false}
use Rattle.std.proofs.lemmas.List.Elements.{All-nil, All-cons}
use Rattle.rand_core.specs.Stream.{Stream, next_u64}
use Rattle.pop_crowd.specs.declared.crowd.Meeting.{Meeting}
use Rattle.pop_crowd.specs.Replay.{IsMeeting, AreMeetings}
use Rattle.run_picks.specs.Picks.{pick_of, picks_from}
use Rattle.run_picks.specs.Run.{pairs}
use Rattle.base_laws.proofs.Lists.{heads, tails}

abbrev IsPair : ℕ → ℕ × ℕ → Type 0
IsPair n p = (p.0 ≢ p.1) × (p.0 < n) × (p.1 < n)

other_agent : (n a b : ℕ) (x : Bool) → nat_le a b ≡ x → a < n → b < n - 1 → IsPair n (a, if x then b + 1 else b)
other_agent n a b true is la lb = let le = leb-true a b is in ((λ e. absurd (omega (arith, le, e))), la, omega (arith, lb))
other_agent n a b false is la lb = let lt = leb-false a b is in ((λ e. absurd (omega (arith, lt, e))), la, omega (arith, lb))

pick_in : (n word : ℕ) → 2 ≤ n → IsPair n (pick_of n word)
pick_in n word two =
    other_agent n (word / 2 ^ 32 % n) (word % 2 ^ 32 % (n - 1)) (nat_le (word / 2 ^ 32 % n) (word % 2 ^ 32 % (n - 1))) refl (mod-lt (word / 2 ^ 32) (omega (arith, two))) (mod-lt (word % 2 ^ 32) (omega (arith, two)))

pub picked_meet : (words : Stream) (n : ℕ) (meetings : List Meeting) → 2 ≤ n → pairs meetings ≡ picks_from words n (length meetings) → AreMeetings n meetings
picked_meet words n [] two is = All-nil (IsMeeting n)
picked_meet words n (m ∷ meetings) two is =
    let pick = pick_of n (next_u64 words).0 in
    let rest = (next_u64 words).1 in
    let pair = subst (IsPair n) (sym (heads (m.a, m.b) pick (pairs meetings) (picks_from rest n (length meetings)) is)) (pick_in n (next_u64 words).0 two) in
    All-cons (IsMeeting n) m meetings (record { different = pair.0; first = pair.1; second = pair.2 })
    (picked_meet rest n meetings two (tails (m.a, m.b) pick (pairs meetings) (picks_from rest n (length meetings)) is))
