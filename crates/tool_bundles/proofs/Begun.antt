-- The counts with which a bundle's net starts are of at least two agents, and not of too many.
use Rattle.std.proofs.Common.{◌≡◌, ℕ, ◌≤◌, Bool, true, false, cond, nat_le, List, Option, Result, Ok, Err, refl, subst}
use Rattle.std.proofs.lemmas.Bool.{and_parts, leb-true}
use Rattle.serde_json.specs.Data.{Data}
use Rattle.pop_leaf.specs.NetModel.{NetModel}
use Rattle.pop_crowd.specs.Crowds.{input_size}
use Rattle.pop_crowd.specs.declared.limits.TheConstants.{AGENT_LEAST, AGENT_LIMIT}
use Rattle.pop_words.specs.Counts.{counts_of}
use Rattle.tool_texts.specs.declared.refusal.Refusal.{Refusal}
use Rattle.tool_texts.specs.declared.refusal.Refusal.TheVariants.{Size}
use Rattle.tool_texts.specs.Steps.{◌>>=◌}
use Rattle.cert_json.specs.declared.stable.StableBundle.{StableBundle}
use Rattle.tool_bundles.specs.Named.{counted}
use Rattle.tool_bundles.specs.Start.{is_size, sized, fitting_in}
use Rattle.tool_bundles.specs.Bundles.{bundle_in, begun}
use Rattle.tool_texts.proofs.Goes.{bind_ok, same_ok}

abbrev IsFit : NetModel → List ℕ → Type 0
IsFit net counts = (AGENT_LEAST ≤ input_size net counts) × (input_size net counts ≤ AGENT_LIMIT)

sized_fit : (net : NetModel) (counts : List ℕ) (b : Bool) (fitting : List ℕ) → is_size (input_size net counts) ≡ b → cond b (let r : Result (List ℕ) Refusal = Ok counts in r) (Err (Size (input_size net counts))) ≡ Ok fitting → IsFit net fitting
sized_fit net counts true fitting is e =
    let agents = input_size net counts in
    let both = and_parts (nat_le AGENT_LEAST agents) (nat_le agents AGENT_LIMIT) is in
    subst (IsFit net) (same_ok counts fitting e) (leb-true AGENT_LEAST agents both.0, leb-true agents AGENT_LIMIT both.1)
sized_fit net counts false fitting is e = absurd cc

fitting_fit : (net : NetModel) (line : List ℕ) (counts : List ℕ) → fitting_in net line ≡ Ok counts → IsFit net counts
unfolding fitting_in
fitting_fit net line counts e =
    let c = bind_ok (counted (counts_of net.variables line)) (sized net) counts e in
    sized_fit net c.0 (is_size (input_size net c.0)) counts refl c.2

begun_fit : (value : Option Data) (line : List ℕ) (bundle : StableBundle) (counts : List ℕ) → begun value line ≡ Ok (bundle, counts) → IsFit bundle.net counts
unfolding begun
begun_fit value line bundle counts e =
    let b = bind_ok (bundle_in value) (λ b. fitting_in b.net line >>= λ c. Ok (b, c)) (bundle, counts) e in
    let c = bind_ok (fitting_in b.0.net line) (λ c. Ok (b.0, c)) (bundle, counts) b.2 in
    subst (λ (x : StableBundle × List ℕ). IsFit x.0.net x.1) (same_ok (b.0, c.0) (bundle, counts) c.2) (fitting_fit b.0.net line c.0 c.1)

pub begun_two : (value : Option Data) (line : List ℕ) (bundle : StableBundle) (counts : List ℕ) → begun value line ≡ Ok (bundle, counts) → AGENT_LEAST ≤ input_size bundle.net counts
begun_two value line bundle counts e = (begun_fit value line bundle counts e).0

pub begun_few : (value : Option Data) (line : List ℕ) (bundle : StableBundle) (counts : List ℕ) → begun value line ≡ Ok (bundle, counts) → input_size bundle.net counts ≤ AGENT_LIMIT
begun_few value line bundle counts e = (begun_fit value line bundle counts e).1
