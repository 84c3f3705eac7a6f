use Rattle.serde_json.specs.View.{view}
use Rattle.cert_json.proofs.StableLaws.{read-file, broken-no_file}
use Rattle.cert_json.proofs.stable.read_stable_bundle.Goals as goal

pub returns : goal.returns
returns c =
    let d = view c.args.value.now in
    let given = c.read_exactly.ensures in
    record {
      exact = given.exact;
      variables = given.variables;
      file = read-file d c.read_exactly.result given.exact;
      no_file = broken-no_file d c.read_exactly.result given.exact;
    }
