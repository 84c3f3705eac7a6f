-- Searches of agents, one after the other.
use Rattle.std.proofs.Common.{◌≡◌, ◌⊎◌, inl, inr, ℕ, ◌+◌, ◌<◌, false, List, [], length, ap, sym, subst, ◌∙◌, arith}
use Rattle.std.specs.Prelude.{Some, slice_get, slice_index_or}
use Rattle.std.proofs.lemmas.Bool.{cases_eq}
use Rattle.std.proofs.lemmas.Option.{get_or_from_slice_get}
use Rattle.pop_net.specs.declared.net.Word.{Word}
use Rattle.pop_leaf.specs.NetModel.{NetModel, CrowdModel}
use Rattle.pop_net.specs.Lanes.{tuple_of, crowd_of}
use Rattle.pop_crowd.specs.Replay.{reacts, changes}
use Rattle.pop_crowd.proofs.Words.{tuple_at}

-- the meeting of two agents, by their words
pub changes_at : (net : NetModel) (words : List Word) (a b : ℕ) (x y : Word) → slice_get words a ≡ Some x → slice_get words b ≡ Some y → changes net a b (crowd_of net words) ≡ reacts net (tuple_of net x) (tuple_of net y)
changes_at net words a b x y ha hb =
    ap (λ t. reacts net t (slice_index_or (crowd_of net words) b [])) (get_or_from_slice_get (crowd_of net words) a (tuple_of net x) [] (tuple_at net words a x ha))
    ∙ ap (reacts net (tuple_of net x)) (get_or_from_slice_get (crowd_of net words) b (tuple_of net y) [] (tuple_at net words b y hb))

-- no agent between a and b changes with a
abbrev pub NoneBefore : NetModel → CrowdModel → ℕ → ℕ → Type 0
NoneBefore net crowd a b = (d : ℕ) → a < d → d < b → changes net a d crowd ≡ false

pub none_more : (net : NetModel) (crowd : CrowdModel) (a b : ℕ) → NoneBefore net crowd a b → changes net a b crowd ≡ false → NoneBefore net crowd a (b + 1)
none_more net crowd a b before e d l m = go (cases_eq d b)
  where
    go : (d ≡ b) ⊎ (d ≡ b → ⊥) → changes net a d crowd ≡ false
    go (inl same) = subst (λ (n : ℕ). changes net a n crowd ≡ false) (sym same) e
    go (inr ne) = before d l (omega arith)

-- no agent below a changes with a later one
abbrev pub NoneBelow : NetModel → CrowdModel → ℕ → Type 0
NoneBelow net crowd a = (c d : ℕ) → c < a → c < d → d < length crowd → changes net c d crowd ≡ false

pub below_more : (net : NetModel) (crowd : CrowdModel) (a : ℕ) → NoneBelow net crowd a → ((d : ℕ) → a < d → d < length crowd → changes net a d crowd ≡ false) → NoneBelow net crowd (a + 1)
below_more net crowd a before h c d l m n = go (cases_eq c a)
  where
    go : (c ≡ a) ⊎ (c ≡ a → ⊥) → changes net c d crowd ≡ false
    go (inl same) = subst (λ (k : ℕ). changes net k d crowd ≡ false) (sym same) (h d (omega (arith, same)) n)
    go (inr ne) = before c d (omega arith) m n
