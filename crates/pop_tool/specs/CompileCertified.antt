-- `check` certifies what was compiled.
use Rattle.std.specs.Prelude.{◌≡◌, ℕ, ◌≤◌, List, [], ◌∷◌, length, codes, Some, slice_get}
use Rattle.pop_io.specs.declared.whole.TheConstants.{INPUT_LIMIT}
use Rattle.pop_leaf.specs.LeafModel.{LeafModel}
use Rattle.cert_base.specs.declared.proof.LeafProof.{LeafProof}
use Rattle.cert_base.specs.ProofBound.{proof_bound}
use Rattle.cert_layers.specs.declared.work.TheConstants.{TAME_WORK_LIMIT}
use Rattle.cert_layers.specs.TameWork.{tame_work}
use Rattle.cert_json.specs.declared.bundle.Bundle.{Bundle}
use Rattle.comp_net.specs.declared.choice.LeafChoice.{LeafChoice}
use Rattle.comp_net.specs.declared.choice.LeafChoice.TheVariants.{Plain, Flocks, Succinct}
use Rattle.tool_texts.specs.declared.output.Output.{Output}
use Rattle.tool_texts.specs.declared.status.Status.TheVariants.{Done}
use Rattle.tool_texts.specs.Statuses.{status_of}
use Rattle.tool_nets.specs.Compile.{bundle_line}
use Rattle.pop_tool.specs.Answer.{Answer}
use Rattle.pop_tool.specs.Headline.{bundle_of_silent, IsBundleLine, SaysCertified, SaysTame}

-- the words that compile a predicate to these leaves
abbrev pub compile_words : LeafChoice → List (List ℕ)
compile_words Plain = codes "compile" ∷ []
compile_words Flocks = codes "compile" ∷ codes "--flocks" ∷ []
compile_words Succinct = codes "compile" ∷ codes "--succinct" ∷ []

-- the work of telling whether the layers are tame is within its limit for each leaf
abbrev pub IsToldInTime : Bundle → Type 0
IsToldInTime bundle =
    (i : ℕ) (leaf : LeafModel) (part : LeafProof) → slice_get bundle.net.leaves i ≡ Some leaf
    → slice_get bundle.proof.leaves i ≡ Some part → tame_work leaf part.layers ≤ TAME_WORK_LIMIT

-- What was compiled is the line of a bundle. Unless it is too long for an input, `check` answers it with `certified`
-- and the bound of that bundle's proof, and with `tame`, if that is told in time.
abbrev pub IsCompiledCertified : Type 0
IsCompiledCertified =
    (choice : LeafChoice) (input : List ℕ) (written answer : Output) → Answer (compile_words choice) input written
    → status_of written.ending ≡ Done → length written.text ≤ INPUT_LIMIT
    → Answer (codes "check" ∷ []) written.text answer
    → (bundle : Bundle) × (written.text ≡ bundle_line bundle) × IsBundleLine written.text (bundle_of_silent bundle)
    × SaysCertified (proof_bound bundle.proof) answer.text (status_of answer.ending)
    × (IsToldInTime bundle → SaysTame (proof_bound bundle.proof) answer.text (status_of answer.ending))
