-- Told: which text goes with which status.
use Rattle.std.specs.Prelude.{◌≡◌, ◌↔◌, ◌⊎◌, ℕ, Bool, List, ◌++◌}
use Rattle.base_lines.specs.Lines.{ended}
use Rattle.pop_checker.specs.declared.stable_fault.StableRejected.{StableRejected}
use Rattle.tool_texts.specs.declared.refusal.Refusal.{Refusal}
use Rattle.tool_texts.specs.declared.status.Status.{Status}
use Rattle.tool_texts.specs.declared.status.Status.TheVariants.{Done, Refused, Rejected}
use Rattle.tool_texts.specs.Refusals.{refusal_text}
use Rattle.tool_texts.specs.Statuses.{code_of}
use Rattle.tool_rejections.specs.Rejections.{rejected_text}
use Rattle.tool_proofs.specs.Certified.{certified_text, certified_lines, stable_text}

-- The first line is `certified K`, with a line feed behind it. K is a number in decimals, without a leading zero.
abbrev pub BeginsCertified : List ℕ → Type 0
BeginsCertified text = (k : ℕ) × (rest : List ℕ) × (text ≡ ended (certified_text k) ++ rest)

-- the same of `stable K`
abbrev pub BeginsStable : List ℕ → Type 0
BeginsStable text = (k : ℕ) × (rest : List ℕ) × (text ≡ ended (stable_text k) ++ rest)

-- the input is refused, and the text is the line that says why
abbrev pub SaysRefused : List ℕ → Status → Type 0
SaysRefused text status = (status ≡ Refused) × (refusal : Refusal) × (text ≡ ended (refusal_text refusal))

-- the proof is rejected, and the text is the line that says why
abbrev pub SaysRejected : List ℕ → Status → Type 0
SaysRejected text status =
    (status ≡ Rejected) × (rejected : StableRejected) × (text ≡ ended (rejected_text rejected))

abbrev pub SaysWhyNot : List ℕ → Status → Type 0
SaysWhyNot text status = SaysRejected text status ⊎ SaysRefused text status

-- How the text and the status of `check` go together, whatever its input is.
pub record CheckTold (text : List ℕ) (status : Status) : Type 0 where
  -- the status is Done exactly for a first line `certified K` or `stable K`
  pub done : (status ≡ Done) ↔ (BeginsCertified text ⊎ BeginsStable text)
  -- and this is the exit status 0
  pub exit : (code_of status ≡ 0) ↔ (status ≡ Done)
  -- then nothing but `tame` stands below that line
  pub whole : status ≡ Done → (k : ℕ) × (((tame : Bool) × (text ≡ certified_lines k tame))
      ⊎ (text ≡ ended (stable_text k)))
  -- any other text is the line of a rejection or of a refusal, with the status of that
  pub other : (status ≡ Done) ⊎ SaysWhyNot text status

-- the same of `show`
pub record ShowTold (text : List ℕ) (status : Status) : Type 0 where
  pub done : (status ≡ Done) ↔ (BeginsCertified text ⊎ BeginsStable text)
  pub exit : (code_of status ≡ 0) ↔ (status ≡ Done)
  pub other : (status ≡ Done) ⊎ SaysWhyNot text status
