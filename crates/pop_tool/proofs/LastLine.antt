-- The last line of a journal is that of its last crowd.
use Rattle.std.proofs.Common.{◌≡◌, ℕ, Option, Some, None, refl, sym, ap, ◌∙◌}
use Rattle.std.specs.Prelude.{is_none, All}
use Rattle.pop_leaf.specs.NetModel.{NetModel, CrowdModel, IsTuple}
use Rattle.pop_leaf.specs.Step.{Step}
use Rattle.pop_leaf.specs.Terminal.{IsTerminal}
use Rattle.terminal_test.specs.Pairs.{IsLeastPair}
use Rattle.terminal_test.proofs.Ends.{not_terminal}
use Rattle.run_text.specs.declared.last.Last.{Last}
use Rattle.run_text.specs.declared.last.Last.TheVariants.{Undecided}
use Rattle.run_text.specs.declared.last.Outcome.{Outcome}
use Rattle.run_text.specs.Ending.{least_pair, common_output, rest_ending, ending_with, ending_until}
use Rattle.run_text.proofs.Looks.{least_some, least_found, least_of_terminal, terminal_of}
use Rattle.pop_tool.specs.Runs.{IsLastLine}

module _ (rest net : NetModel) (end : CrowdModel) (tuples : All (IsTuple rest) end) (outcome : Outcome) (told : Last) (at_rest : IsTerminal (Step rest) end → rest_ending outcome (common_output net end) ≡ told) where
  quiet_end : IsTerminal (Step rest) end → ending_until rest outcome net end ≡ told
  quiet_end terminal =
      ap (λ (o : Option (ℕ × ℕ)). ending_with outcome o (common_output net end)) (least_of_terminal rest end tuples terminal)
      ∙ at_rest terminal

  open_end : (a b : ℕ) → IsLeastPair rest end a b → ending_until rest outcome net end ≡ Undecided a b
  open_end a b is =
      ap (λ (o : Option (ℕ × ℕ)). ending_with outcome o (common_output net end)) (least_some rest end a b is)

  pub is_last : IsLastLine rest told end (ending_until rest outcome net end)
  is_last = record { ended = quiet_end; undecided = by (least_pair rest end) refl }
    where
      by : (found : Option (ℕ × ℕ)) → least_pair rest end ≡ found → (IsTerminal (Step rest) end → ⊥) → (a : ℕ) × (b : ℕ) × IsLeastPair rest end a b × (ending_until rest outcome net end ≡ Undecided a b)
      by None e moves = absurd (moves (terminal_of rest end tuples (ap is_none e)))
      by (Some (a, b)) e moves = let is = least_found rest end a b e in (a, b, is, open_end a b is)

  pub only_last : (last : Last) → IsLastLine rest told end last → last ≡ ending_until rest outcome net end
  only_last last is = by (least_pair rest end) refl
    where
      by : (found : Option (ℕ × ℕ)) → least_pair rest end ≡ found → last ≡ ending_until rest outcome net end
      by None e =
          let terminal = terminal_of rest end tuples (ap is_none e) in is.ended terminal ∙ sym (quiet_end terminal)
      by (Some (a, b)) e =
          let least = least_found rest end a b e in
          let open_line = is.undecided (λ terminal. not_terminal rest end tuples a b least.enabled terminal) in
          open_line.3 ∙ sym (open_end open_line.0 open_line.1 open_line.2)
