-- What a load that looks for a due word says, where no other word is due for its agent.
use Rattle.std.proofs.Common.{◌≡◌, ◌≢◌, ℕ, sym, ap, ◌∙◌, subst}
use mathlib.Core.Option.{none}
use Rattle.atomic_table.specs.Table.{step}
use Rattle.pop_net.specs.declared.net.Word.{Word}
use Rattle.agent_field.specs.declared.view.Setup.{Setup}
use Rattle.agent_field.specs.Standing.{agent_at, In}
use Rattle.agent_field.specs.Steps.{Mine, writing, FindsWritten}
use Rattle.agent_field.proofs.InTurns.{agent_once}

module _ (k : Setup) (slots : ℕ) (m m' : Mine) (a : ℕ) (x : Word) (i r : ℕ) (place : i ≡ agent_at k a) (setup : m.0.setup ≡ k) (only : (y : Word) → In (a, y) m.0.due → y ≡ x) (h : FindsWritten (step slots i 0 0 none) m r m') where
  is_agent : a ≡ h.0
  is_agent = agent_once k a h.0 (sym place ∙ h.2 ∙ ap (λ (z : Setup). agent_at z h.0) setup)

  is_word : h.1.0 ≡ x.0
  is_word = ap (λ (w : Word). w.0) (only h.1 (subst (λ (b : ℕ). In (b, h.1) m.0.due) (sym is_agent) h.3))

  pub found : r ≡ x.0 → m' ≡ (writing a m.0, m.1)
  found hit = h.4 (hit ∙ sym is_word) ∙ ap (λ (b : ℕ). (writing b m.0, m.1)) (sym is_agent)

  pub not_found : r ≢ x.0 → m' ≡ m
  not_found miss = h.5 (λ hit. miss (hit ∙ is_word))
