-- What a draw gives, once the words that were read and what they react to are known.
use Rattle.std.proofs.Common.{◌≡◌, ◌≢◌, ℕ, ◌<◌, List, [], ◌∷◌, length, get_or, refl, inl, inr, sym, ap, subst, ◌∙◌}
use Rattle.pop_net.specs.declared.net.Word.{Word}
use Rattle.pop_leaf.specs.NetModel.{NetModel, Tuple}
use Rattle.pop_net.specs.Lanes.{tuple_of}
use Rattle.pop_leaf.specs.Reaction.{reaction}
use Rattle.pop_net.proofs.Packing.{same_word}
use Rattle.agent_field.specs.declared.field.Field.{Field}
use Rattle.agent_field.specs.declared.view.Setup.{Setup}
use Rattle.agent_field.specs.declared.view.Logged.{Logged}
use Rattle.agent_field.specs.declared.limits.TheConstants.{LOG_LIMIT}
use Rattle.agent_field.specs.Standing.{In, locks_of, packed}
use Rattle.agent_field.specs.Steps.{Mine, knowing, IsReaction, without, meeting_made, pair_made, HasDrawn}
use Rattle.agent_field.proofs.Without.{pair_gone}
use Rattle.agent_field.specs.Tokens.{SeatToken, HasLocked, MayDrawPair, Becomes, IsDraw}

-- words that react alike become the same words
module _ (net : NetModel) (x y x' y' u v u' v' : Word) (r : IsReaction net x y x' y') (s : IsReaction net u v u' v') (first : x ≡ u) (second : y ≡ v) where
  both : ◌≡◌ {A = Tuple × Tuple} (tuple_of net x', tuple_of net y') (tuple_of net u', tuple_of net v')
  both = r.tuples ∙ (λ i. reaction net (tuple_of net (first i)) (tuple_of net (second i))) ∙ sym s.tuples

  same_first : x' ≡ u'
  same_first = same_word net x' u' r.first s.first (ap (λ (p : Tuple × Tuple). p.0) both)

  same_second : y' ≡ v'
  same_second = same_word net y' v' r.second s.second (ap (λ (p : Tuple × Tuple). p.1) both)

pub drawn_is : (ticket : ℕ) (m m' : Mine) (a b : ℕ) (x y x' y' : Word) → m.0.known ≡ (b, y) ∷ (a, x) ∷ [] → IsReaction m.0.setup.net.value x y x' y' → HasDrawn ticket m m' → m' ≡ (pair_made ticket a b x y x' y' m.0, m.1)
drawn_is ticket m m' a b x y x' y' known reacted h =
    let none : ℕ × Word = (0, packed 0) in
    let same = sym h.known ∙ known in
    let second = ap (λ (l : List (ℕ × Word)). get_or l 0 none) same in
    let first = ap (λ (l : List (ℕ × Word)). get_or l 1 none) same in
    let is_x : h.x ≡ x = ap (λ (p : ℕ × Word). p.1) first in
    let is_y : h.y ≡ y = ap (λ (p : ℕ × Word). p.1) second in
    let net = m.0.setup.net.value in
    let is_x' = same_first net h.x h.y h.x' h.y' x y x' y' h.may.pair.reacted reacted is_x is_y in
    let is_y' = same_second net h.x h.y h.x' h.y' x y x' y' h.may.pair.reacted reacted is_x is_y in
    let gone : without a (without b m.0.known) ≡ [] = ap (λ (l : List (ℕ × Word)). without a (without b l)) known ∙ pair_gone a b x y in
    h.met
    ∙ (λ i. (meeting_made ticket (first i).0 (second i).0 (is_x i) (is_y i) (is_x' i) (is_y' i) m.0, m.1))
    ∙ ap (λ (l : List (ℕ × Word)). (record (meeting_made ticket a b x y x' y' m.0) { known = l }, m.1)) gone

-- the same, from before the two reads, when nothing was known
pub pair_drawn : (f : Field) (locks : List ℕ) (ticket : ℕ) (t t₁ t₂ t₃ : SeatToken) (a b : ℕ) (x y x' y' : Word) → HasLocked f locks t
    → Becomes t t₁ (knowing a x t.me.0) → Becomes t₁ t₂ (knowing b y t₁.me.0) → IsReaction f.net.now x y x' y' → IsDraw ticket t₂ t₃
    → Becomes t t₃ (pair_made ticket a b x y x' y' t.me.0)
pair_drawn f locks ticket t t₁ t₂ t₃ a b x y x' y' locked read_a read_b reacted h =
    let read : t₂.me ≡ (knowing b y (knowing a x t.me.0), t.me.1) = read_b.me ∙ ap (λ (n : Mine). (knowing b y n.0, n.1)) read_a.me in
    let known : t₂.me.0.known ≡ (b, y) ∷ (a, x) ∷ [] = ap (λ (n : Mine). n.0.known) read ∙ ap (λ (l : List (ℕ × Word)). (b, y) ∷ (a, x) ∷ l) locked.known in
    let net : t₂.me.0.setup.net.value ≡ f.net.now = ap (λ (n : Mine). n.0.setup.net.value) read ∙ ap (λ (k : Setup). k.net.value) locked.holds.usable.ours ∙ f.net_is in record {
      table = h.table ∙ read_b.table ∙ read_a.table;
      me = drawn_is ticket t₂.me t₃.me a b x y x' y' known (subst (λ (n : NetModel). IsReaction n x y x' y') (sym net) reacted) h.drawn
          ∙ ap (λ (n : Mine). (pair_made ticket a b x y x' y' n.0, n.1)) read;
    }

-- two words, read when nothing was known, allow a draw
pub pair_read : (f : Field) (t t₁ t₂ : SeatToken) (a b : ℕ) (x y x' y' : Word) → HasLocked f (locks_of f.table.shared.key a b) t
    → Becomes t t₁ (knowing a x t.me.0) → Becomes t₁ t₂ (knowing b y t₁.me.0) → IsReaction f.net.now x y x' y' → a ≢ b → length t.me.0.log < LOG_LIMIT → MayDrawPair f t₂
pair_read f t t₁ t₂ a b x y x' y' locked read_a read_b reacted apart room =
    let read : t₂.me ≡ (knowing b y (knowing a x t.me.0), t.me.1) = read_b.me ∙ ap (λ (n : Mine). (knowing b y n.0, n.1)) read_a.me in
    let known : t₂.me.0.known ≡ (b, y) ∷ (a, x) ∷ [] = ap (λ (n : Mine). n.0.known) read ∙ ap (λ (l : List (ℕ × Word)). (b, y) ∷ (a, x) ∷ l) locked.known in
    record {
      read = record {
        a = a;
        b = b;
        x = x;
        y = y;
        x' = x';
        y' = y';
        known = known;
        pair = record {
          first = subst (In (a, x)) (sym known) (inr (inl refl));
          second = subst (In (b, y)) (sym known) (inl refl);
          reacted = subst (λ (n : NetModel). IsReaction n x y x' y') (sym f.net_is) reacted;
          due = ap (λ (n : Mine). n.0.due) read ∙ locked.holds.due;
          apart = apart;
          room = subst (λ (l : List Logged). length l < LOG_LIMIT) (sym (ap (λ (n : Mine). n.0.log) read)) room;
        };
      };
      exactly = ap (λ (n : Mine). n.0.held) read ∙ locked.holds.held;
    }
