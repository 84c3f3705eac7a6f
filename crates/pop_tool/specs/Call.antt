-- Call: what a call of the tool makes of its words, its source and its sink.
use Rattle.std.specs.Prelude.{◌≡◌, ◌≢◌, ℕ, List, false, Option, Some}
use Rattle.pop_io.specs.Causes.{HasRisen}
use Rattle.tool_texts.specs.declared.output.Output.{Output}
use Rattle.tool_texts.specs.declared.status.Status.{Status}
use Rattle.tool_texts.specs.declared.status.Status.TheVariants.{Usage, Refused, ReadFault, WriteFault}
use Rattle.pop_tool.specs.Complete.{IsValidInput, IsCarriedOut}
use Rattle.pop_tool.specs.Headline.{IsHeadline}
use Rattle.pop_tool.specs.Outcome.{IsReply, Outcome, IsAnswered}
use Rattle.pop_tool.specs.Source.{HasSuffix, IsReadToEnd, words_read}

-- a sink that accepts these texts accepts each one that might be written for the words and what the source has left
abbrev pub AcceptsReplies : (List ℕ → Type 0) → List (List ℕ) → Option (List ℕ) → Type 0
AcceptsReplies accepts words left = (output : Output) → IsReply words left output → accepts output.text

-- A call with the words finds and leaves the source and the sink like this, and ends with the status. The views show
-- what the source has left and what the sink holds, if they tell it, and their counts of faults.
pub record IsCall {S K : Type 0} (left : S → Option (List ℕ)) (read_faults : S → ℕ) (holds : K → Option (List ℕ))
    (write_faults : K → ℕ) (words : List (List ℕ)) (source rest : S) (sink grown : K) (status : Status) : Type 0 where
  -- the sink grew by the answer to the words and to what the source had left, or as the status says
  pub outcome : Outcome words (left source) (holds sink) (holds grown) status
  -- what `certified`, a journal and a verdict say of a bundle's net
  pub headline : IsHeadline words (left source) (holds sink) (holds grown) status
  -- valid input is not refused
  pub complete : (input : List ℕ) → left source ≡ Some input → IsValidInput words input → (status ≢ Usage)
      × (status ≢ Refused)
  -- where neither the source nor the sink failed, it is carried out
  pub carried_out : (input : List ℕ) → left source ≡ Some input → IsValidInput words input
      → (HasRisen (read_faults source) (read_faults rest) → ⊥) → (HasRisen (write_faults sink) (write_faults grown) → ⊥)
      → IsCarriedOut status
  pub read : status ≡ ReadFault → HasRisen (read_faults source) (read_faults rest)
  pub write : status ≡ WriteFault → HasRisen (write_faults sink) (write_faults grown)
  pub unread : words_read words ≡ false → status ≢ ReadFault
  -- the source has a suffix of what it had; words without a command that reads leave it as it was
  pub suffix : HasSuffix (left source) (left rest)
  pub untouched : words_read words ≡ false → rest ≡ source
  -- if the whole answer was written, the source was read to its end, unless the input is too long
  pub end : IsAnswered status → IsReadToEnd words (left source) (left rest)
