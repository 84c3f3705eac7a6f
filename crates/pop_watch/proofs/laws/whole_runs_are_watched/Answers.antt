use Rattle.run_picks.proofs.WholeWatched.{whole_is_watched}
use Rattle.pop_watch.proofs.laws.whole_runs_are_watched.Goals as goal

pub returns : goal.returns
returns c rest net start spec rounds end run = whole_is_watched net start spec rounds end run
