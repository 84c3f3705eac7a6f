-- How the reason for an invalid line is printed.
use Rattle.std.specs.Prelude.{ℕ, List, codes}
use Rattle.run_text.specs.declared.fault.JournalWhy.{JournalWhy}
use Rattle.run_text.specs.declared.fault.JournalWhy.TheVariants.{Missing, Form, Worker, Agents, Round}

abbrev pub journal_reason : JournalWhy → List ℕ
journal_reason Missing = codes "missing"
journal_reason Form = codes "form"
journal_reason Worker = codes "worker"
journal_reason Agents = codes "agents"
journal_reason Round = codes "round"
