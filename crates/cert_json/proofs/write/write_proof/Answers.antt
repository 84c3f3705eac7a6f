use Rattle.cert_json.proofs.WrittenFiles.{result_again}
use Rattle.cert_json.proofs.write.write_proof.Goals as goal

pub returns-clause-again : goal.returns-clause-again
returns-clause-again c =
    result_again c.args.names.now c.requires.names c.args.proof.now c.proof_value.result c.proof_value.ensures.value c.proof_value.ensures.limits
