use Rattle.pres_read.specs.Grammar.{meaning}
use Rattle.pres_read.proofs.Explained.{given_rules, given_fault}
use Rattle.pres_read.proofs.KeptRuns.{given_kept, kept_read}
use Rattle.pres_read.proofs.Outcomes.{given_laws}
use Rattle.pres_read.proofs.PredTexts.{given_meant}
use Rattle.pres_read.proofs.read.read_pred.Goals as goal

pub returns : goal.returns
returns c =
    let names = c.args.names.now in
    let text = c.args.text.now in
    let given = c.read_exactly.ensures in
    let laws = given_laws names text c.read_exactly.result given in
    record {
      exact = given;
      meant = given_meant names text c.read_exactly.result given;
      derived = laws.derived;
      kept_rules = given_rules names text c.read_exactly.result given;
      only = laws.only;
      kept = λ phrase spelled short fits shallow.
          given_kept names text (meaning names phrase) c.read_exactly.result given (kept_read names text phrase spelled short fits shallow);
      faults = given_fault names text c.read_exactly.result given;
    }
