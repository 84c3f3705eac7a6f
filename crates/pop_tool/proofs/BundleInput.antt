-- The order in which a bundle and a crowd line are examined, and what they are.
use Rattle.std.proofs.Common.{◌≡◌, ℕ, List, [], ◌∷◌, length, ◌≤◌, Some, Option, Ok, refl, sym, ap, subst, ◌∙◌}
use Rattle.pop_leaf.specs.NetModel.{number_of_helpers}
use Rattle.pop_leaf.specs.InputCrowd.{IsInput}
use Rattle.pop_io.specs.declared.whole.TheConstants.{INPUT_LIMIT}
use Rattle.base_lines.specs.Lines.{lines_of}
use Rattle.serde_json.specs.Data.{Data}
use Rattle.cert_json.specs.declared.stable.StableBundle.{StableBundle}
use Rattle.cert_json.proofs.StableLaws.{bundle_takes, bundle_again}
use Rattle.tool_texts.specs.Json.{HasValue}
use Rattle.tool_texts.specs.Steps.{◌>>=◌}
use Rattle.tool_texts.proofs.Goes.{bind_ok, same_ok}
use Rattle.tool_texts.proofs.OneValue.{one_value}
use Rattle.tool_bundles.specs.Start.{fitting_in}
use Rattle.tool_bundles.specs.Bundles.{bundle_in, begun, IsBundleOf, IsBegunBy}
use Rattle.tool_bundles.proofs.Begun.{begun_two}
use Rattle.tool_bundles.proofs.Certified.{some_value}
use Rattle.pop_tool.specs.Headline.{IsBundleLine, IsBundleInput}
use Rattle.pop_tool.proofs.CountLengths.{fitting_long}

-- the bundle of the first line, and that the counts fit
record IsBegun (first second : List ℕ) (bundle : StableBundle) (counts : List ℕ) : Type 0 where
  of_line : IsBundleOf first (Ok bundle)
  fits : fitting_in bundle.net second ≡ Ok counts

is_begun : (first second : List ℕ) (bundle : StableBundle) (counts : List ℕ) → IsBegunBy first second (Ok (bundle, counts)) → IsBegun first second bundle counts
unfolding begun
is_begun first second bundle counts begins =
    let value = begins.0 in
    let b = bind_ok (bundle_in value) (λ b. fitting_in b.net second >>= λ c. Ok (b, c)) (bundle, counts) (sym begins.2) in
    let c = bind_ok (fitting_in b.0.net second) (λ c. Ok (b.0, c)) (bundle, counts) b.2 in
    subst (λ (x : StableBundle × List ℕ). IsBegun first second x.0 x.1) (same_ok (b.0, c.0) (bundle, counts) c.2)
    (record { of_line = (value, begins.1, sym b.1); fits = c.1 })

pub bundle_input : (first second : List ℕ) (bundle : StableBundle) (counts : List ℕ) → IsBegunBy first second (Ok (bundle, counts)) → IsBundleInput first second bundle counts
bundle_input first second bundle counts begins =
    let is = is_begun first second bundle counts begins in
    let value = some_value first is.of_line.0 bundle is.of_line.1 (sym is.of_line.2) in
    record { value = value.0; reads = value.1; file = bundle_takes value.0 bundle value.2; fits = is.fits }

-- and back
pub input_begins : (first second : List ℕ) (bundle : StableBundle) (counts : List ℕ) → IsBundleInput first second bundle counts → IsBegunBy first second (Ok (bundle, counts))
unfolding begun
input_begins first second bundle counts input =
    let is : bundle_in (Some input.value) ≡ Ok bundle = rw (bundle_again input.value bundle input.file) refl in
    (Some input.value, input.reads, rw (is, input.fits) refl)

-- the counts are an input of the net
pub begun_counts : (first second : List ℕ) (bundle : StableBundle) (counts : List ℕ) → IsBegunBy first second (Ok (bundle, counts)) → IsInput (length bundle.net.variables) (number_of_helpers bundle.net) counts
begun_counts first second bundle counts begins =
    record {
      one_each = fitting_long bundle.net second counts (is_begun first second bundle counts begins).fits;
      two_agents = begun_two begins.0 second bundle counts (sym begins.2);
    }

-- the line of a bundle that was read
pub bundle_line : (input line : List ℕ) (bundle : StableBundle) → length input ≤ INPUT_LIMIT → lines_of input ≡ line ∷ [] → IsBundleOf line (Ok bundle) → IsBundleLine input bundle
bundle_line input line bundle short is of =
    let value = some_value line of.0 bundle of.1 (sym of.2) in
    record { short = short; line = line; lines = is; value = value.0; reads = value.1; file = bundle_takes value.0 bundle value.2 }

-- what is read of the line of a bundle
pub line_read : (input : List ℕ) (bundle : StableBundle) (line : IsBundleLine input bundle) (value : Option Data) → HasValue line.line value → bundle_in value ≡ Ok bundle
line_read input bundle line value has =
    ap bundle_in (one_value line.line value (Some line.value) has line.reads) ∙ rw (bundle_again line.value bundle line.file) refl
