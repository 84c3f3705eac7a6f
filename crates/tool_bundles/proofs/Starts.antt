-- Starting a crowd.
use Rattle.std.proofs.Common.{◌≡◌, ℕ, ◌≤◌, List, length, Ok, refl, sym, ap, ◌∙◌}
use Rattle.std.proofs.lemmas.Bool.{le-leb}
use Rattle.std.proofs.lemmas.List.{length-map}
use Rattle.pop_net.specs.declared.net.Word.{Word}
use Rattle.pop_leaf.specs.NetModel.{NetModel}
use Rattle.pop_leaf.specs.InputCrowd.{input_crowd}
use Rattle.pop_net.specs.Lanes.{crowd_of}
use Rattle.pop_crowd.specs.Crowds.{input_size}
use Rattle.pop_crowd.specs.declared.limits.TheConstants.{AGENT_LEAST, AGENT_LIMIT}
use Rattle.pop_words.specs.Counts.{counts_of}
use Rattle.tool_bundles.specs.Named.{counted}
use Rattle.tool_bundles.specs.Start.{fitting_in}
use Rattle.tool_bundles.proofs.InputSize.{length-input_crowd}

-- the crowd of some counts has as many agents
pub agents_counted : (net : NetModel) (counts : List ℕ) (crowd : List Word) → crowd_of net crowd ≡ input_crowd net counts → input_size net counts ≡ length crowd
agents_counted net counts crowd start = sym (length-input_crowd net counts) ∙ sym (ap length start) ∙ rw length-map refl

pub fits : (net : NetModel) (line : List ℕ) (counts : List ℕ) → counted (counts_of net.variables line) ≡ Ok counts → AGENT_LEAST ≤ input_size net counts → input_size net counts ≤ AGENT_LIMIT → fitting_in net line ≡ Ok counts
unfolding fitting_in
fits net line counts read lo hi = rw (read, le-leb AGENT_LEAST (input_size net counts) lo, le-leb (input_size net counts) AGENT_LIMIT hi) refl
