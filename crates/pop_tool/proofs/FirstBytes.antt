-- The first byte of a text tells whether it is a refusal, a rejection or a difference.
use Rattle.std.proofs.Common.{◌≡◌, ℕ, List, get_or, refl}
use Rattle.base_lines.specs.Lines.{ended}
use Rattle.run_text.specs.Difference.{Difference}
use Rattle.pop_checker.specs.declared.fault.Rejected.{Rejected}
use Rattle.pop_checker.specs.declared.fault.Rejected.TheVariants.{Layers, Tree, Predicate}
use Rattle.pop_checker.specs.declared.stable_fault.StableRejected.{StableRejected}
use Rattle.pop_checker.specs.declared.stable_fault.StableRejected.TheVariants.{Plain, Goal}
use Rattle.tool_texts.specs.declared.refusal.Refusal.{Refusal}
use Rattle.tool_texts.specs.declared.refusal.Refusal.TheVariants.{TooLong, Line, NotJson, Format, Pred, Count, Size, Journal, Atoms, Range, Width, States, Wide, Settle}
use Rattle.tool_texts.specs.Refusals.{refusal_text}
use Rattle.tool_rejections.specs.Rejections.{silent_text, rejected_text}
use Rattle.tool_texts.specs.Differences.{difference_text}

unfoldable pub first_byte : List ℕ → ℕ
first_byte bytes = get_or bytes 0 0

-- an f
pub refusal_begins : (refusal : Refusal) → first_byte (ended (refusal_text refusal)) ≡ 102
unfolding first_byte
refusal_begins TooLong = refl
refusal_begins (Line number why) = refl
refusal_begins NotJson = refl
refusal_begins (Format path why) = refl
refusal_begins (Pred why) = refl
refusal_begins (Count word) = refl
refusal_begins (Size agents) = refl
refusal_begins (Journal number why) = refl
refusal_begins (Atoms count) = refl
refusal_begins (Range atom) = refl
refusal_begins (Width atom width) = refl
refusal_begins (States atom states) = refl
refusal_begins (Wide atom) = refl
refusal_begins (Settle takes) = refl

-- an r
silent_begins : (rejected : Rejected) → first_byte (ended (silent_text rejected)) ≡ 114
unfolding first_byte
silent_begins (Layers leaf why) = refl
silent_begins (Tree leaf value node why) = refl
silent_begins Predicate = refl

pub rejection_begins : (rejected : StableRejected) → first_byte (ended (rejected_text rejected)) ≡ 114
unfolding first_byte
rejection_begins (Plain rejected) = silent_begins rejected
rejection_begins (Goal leaf value why) = refl

-- a d
pub difference_begins : (difference : Difference) → first_byte (difference_text difference) ≡ 100
unfolding first_byte
difference_begins difference = refl
