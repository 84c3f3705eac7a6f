-- Draws beside a third agent.
use Rattle.std.specs.Prelude.{◌≢◌, ℕ}
use Rattle.pop_net.specs.declared.net.Word.{Word}
use Rattle.agent_field.specs.declared.view.Setup.{Setup}
use Rattle.agent_field.specs.declared.view.View.{View}
use Rattle.agent_field.specs.Standing.{In, shard_of}
use Rattle.agent_field.specs.Steps.{MayDraw, knowing, meeting_made}

pub record DrawLaws : Type 0 where
  -- a draw is also allowed while a third agent's word is known, and that word stays known
  pub third_known : (k : Setup) (v : View) (a b c ticket : ℕ) (x y x' y' z : Word) → MayDraw k v a b x y x' y' → c ≢ a
      → c ≢ b
      → MayDraw k (knowing c z v) a b x y x' y' × In (c, z) (meeting_made ticket a b x y x' y' (knowing c z v)).known
  -- no draw is allowed while a third agent's shard is held that isn't a shard of the pair
  pub third_held : (k : Setup) (v : View) (a b c : ℕ) (x y x' y' : Word) → In (shard_of k c) v.held
      → shard_of k c ≢ shard_of k a → shard_of k c ≢ shard_of k b → MayDraw k v a b x y x' y' → ⊥
