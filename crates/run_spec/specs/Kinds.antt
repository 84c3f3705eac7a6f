-- The two kinds of run.
use Rattle.std.specs.Prelude.{ℕ, List, codes}
use Rattle.pop_io.specs.declared.gate.TheConstants.{WORKER_LIMIT}
use Rattle.run_spec.specs.declared.spec.TheConstants.{WATCHED_WORKERS}
use Rattle.run_spec.specs.declared.kind.RunKind.{RunKind}
use Rattle.run_spec.specs.declared.kind.RunKind.TheVariants.{Whole, Watched}

-- the word of the command, which also begins its journals
abbrev pub kind_word : RunKind → List ℕ
kind_word Whole = codes "run"
kind_word Watched = codes "watch"

-- the greatest number of workers
abbrev pub most_workers_of : RunKind → ℕ
most_workers_of Whole = WORKER_LIMIT
most_workers_of Watched = WATCHED_WORKERS
