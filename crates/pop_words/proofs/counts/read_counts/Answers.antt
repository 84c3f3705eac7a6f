use Rattle.std.proofs.Common.{◌≡◌, ◌∷◌, ℕ, List, true, Option, None, Ok, map, unwrap_or, codes, ap, sym, ◌∙◌}
use Rattle.std.specs.Option.{option_copied}
use Rattle.std.specs.Str.{bytes_eq}
use Rattle.std.proofs.lemmas.Bool.{not-false}
use Rattle.base_lines.specs.Lines.{pieces}
use Rattle.pop_words.specs.Counts.{counts_of, with_words}
use Rattle.pop_words.specs.WordsBehind.{words_behind}
use Rattle.pop_words.proofs.Cuts.{words-cut}
use Rattle.pop_words.proofs.counts.read_counts.Goals as goal

-- the counts that were found, with zeros for the others
totals : (names : List (List ℕ)) (line first : List ℕ) (rest : Option (List ℕ)) (found : List (Option ℕ)) (counts : List ℕ) → pieces 32 line ≡ first ∷ words_behind rest → bytes_eq first (codes "crowd") ≡ true
    → with_words names (map (λ _. None) names) 1 (words_behind rest) ≡ Ok found → counts ≡ map (λ o. unwrap_or o 0) found → counts_of names line ≡ Ok counts
unfolding counts_of
totals names line first rest found counts words is read ok = rw (words, is, read) (ap Ok (sym ok))

pub returns-clause-counts : goal.returns-clause-counts
returns-clause-counts c =
    totals c.args.names.now c.args.line.now c.cut.result.0.now (option_copied c.cut.result.1) c.in_ok-found.found c.in_ok-counts.counts (words-cut c.args.line.now c.cut.result.0.now (option_copied c.cut.result.1) c.cut.ensures)
    (not-false _ (sym (rw c.as_slice.ensures at c.ne.ensures) ∙ c.if-ne.false)) (rw c.as_slice-2.ensures at c.in_ok-found.ensures.counts) (rw c.as_slice-3.ensures at c.in_ok-counts.ensures)
