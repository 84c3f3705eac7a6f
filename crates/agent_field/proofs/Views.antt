-- What a step of one seat leaves unchanged: the other views, and what holds for them.
use Rattle.std.proofs.Common.{◌≡◌, ◌≢◌, ℕ, zero, suc, ◌<◌, true, false, true≢false, List, [], ◌∷◌, length, set, sym, ap, ◌∙◌, subst, ⊎_elim, arith, get_or-set_other}
use Rattle.std.proofs.lemmas.Bool.{cases_eq}
use mathlib.Core.Option.{Option, some, some-injective, some-ne-none}
use lib.ListN.{get_elem?}
use Rattle.atomic_table.proofs.Lists.{at_set, set_here, set_else}
use Rattle.pop_net.specs.declared.net.Word.{Word}
use Rattle.pop_crowd.specs.declared.crowd.Meeting.{Meeting}
use Rattle.agent_field.specs.declared.view.Setup.{Setup}
use Rattle.agent_field.specs.declared.view.View.{View}
use Rattle.agent_field.specs.Standing.{agents_opened, lock_at, agent_at, packed, In, Agrees, IsOwedByNone, IsHeldBySome}

pub at_length : {A : Type 0} (l : List A) (i : ℕ) (a : A) → get_elem? l i ≡ some a → i < length l
at_length [] i a e = absurd (some-ne-none a (sym e))
at_length (x ∷ xs) zero a e = omega arith
at_length (x ∷ xs) (suc i) a e = let h = at_length xs i a e in omega arith

-- what holds for one view's new value and for the others holds for all
pub set_each : (views : List View) (id : ℕ) (w : View) (P : ℕ → View → Type 0) → P id w → ((j : ℕ) (u : View) → j ≢ id → get_elem? views j ≡ some u → P j u) → (j : ℕ) (u : View) → get_elem? (set views id w) j ≡ some u → P j u
set_each views id w P mine others j u e =
    ⊎_elim
    (λ (x : (j ≡ id) × (w ≡ u)). subst (λ (y : ℕ × View). P y.0 y.1) (λ i. (sym x.0 i, x.1 i)) mine)
    (λ (x : (j ≢ id) × (get_elem? views j ≡ some u)). others j u x.0 x.1)
    (at_set views id j w u e)

-- changing a word of which this view says nothing
pub agrees_word : (k : Setup) (words : List ℕ) (history : List Meeting) (seat : ℕ → Option ℕ) (id : ℕ) (u : View) (i n : ℕ) → Agrees k words history seat id u
    → ((s : ℕ) → In s u.held → lock_at k s ≢ i) → ((a : ℕ) (x : Word) → In (a, x) u.known → a < agents_opened k → agent_at k a ≢ i) → Agrees k (set words i n) history seat id u
agrees_word k words history seat id u i n f locks agents = record {
  setup = f.setup;
  seated = f.seated;
  numbered = f.numbered;
  first = f.first;
  logs = f.logs;
  locks = λ s h. ((f.locks s h).0, get_or-set_other words i (lock_at k s) n 0 (locks s h) ∙ (f.locks s h).1);
  knows = λ a x h. let was = f.knows a x h in (was.0, was.1, ap packed (get_or-set_other words i (agent_at k a) n 0 (agents a x h was.0)) ∙ was.2, was.3);
  owes = f.owes;
  tight = f.tight;
  looked = f.looked;
}

module _ (k : Setup) (words : List ℕ) (history : List Meeting) (seat : ℕ → Option ℕ) where
  -- a number has one seat, and a shard one holder
  pub one_seat : (i j : ℕ) (v u : View) → Agrees k words history seat i v → Agrees k words history seat j u → u.number ≡ v.number → j ≡ i
  one_seat i j v u f g same = some-injective j i (sym g.seated ∙ ap seat same ∙ f.seated)

  pub one_holder : (i j : ℕ) (v u : View) → Agrees k words history seat i v → Agrees k words history seat j u → (s : ℕ) → In s v.held → In s u.held → j ≡ i
  one_holder i j v u f g s mine theirs =
      let a = (f.locks s mine).1 in let b = (g.locks s theirs).1 in one_seat i j v u f g (omega arith)

-- an agent that no seat owes after a step of one seat was owed by none before it, if that seat still owes all it did
pub owed_back : (views : List View) (id : ℕ) (v w : View) (a : ℕ) → get_elem? views id ≡ some v → w.live ≡ true → ((x : Word) → In (a, x) v.due → (y : Word) × In (a, y) w.due) → IsOwedByNone (set views id w) a → IsOwedByNone views a
owed_back views id v w a at live keeps none_now j u x e alive h =
    ⊎_elim
    (λ (same : j ≡ id).
    let is : u ≡ v = some-injective u v (sym e ∙ ap (get_elem? views) same ∙ at) in
    let t = keeps x (subst (λ (z : View). In (a, x) z.due) is h) in
    none_now id w t.0 (set_here views id w (at_length views id v at)) live t.1)
    (λ (apart : j ≢ id). none_now j u x (set_else views id j w apart ∙ e) alive h)
    (cases_eq j id)

-- a shard that some seat held is still held after a step of one seat that keeps it
pub held_after : (views : List View) (id : ℕ) (v w : View) (s : ℕ) → get_elem? views id ≡ some v → (In s v.held → (w.live ≡ true) × In s w.held) → IsHeldBySome views s → IsHeldBySome (set views id w) s
held_after views id v w s at keeps h =
    ⊎_elim
    (λ (same : h.0 ≡ id).
    let is : h.1 ≡ v = some-injective h.1 v (sym h.2 ∙ ap (get_elem? views) same ∙ at) in
    let k = keeps (subst (λ (z : View). In s z.held) is h.4) in (id, w, set_here views id w (at_length views id v at), k.0, k.1))
    (λ (apart : h.0 ≢ id). (h.0, h.1, set_else views id h.0 w apart ∙ h.2, h.3, h.4))
    (cases_eq h.0 id)

-- the seat of each number is a live view of that number
pub sits_set : (seat : ℕ → Option ℕ) (views : List View) (id : ℕ) (v w : View) → get_elem? views id ≡ some v → w.live ≡ true → w.number ≡ v.number
    → ((n j : ℕ) → seat n ≡ some j → (u : View) × (get_elem? views j ≡ some u) × (u.live ≡ true) × (u.number ≡ n)) → (n j : ℕ) → seat n ≡ some j → (u : View) × (get_elem? (set views id w) j ≡ some u) × (u.live ≡ true) × (u.number ≡ n)
sits_set seat views id v w at live number sits n j e =
    let h = sits n j e in
    ⊎_elim
    (λ (same : j ≡ id).
    let is : h.0 ≡ v = some-injective h.0 v (sym h.1 ∙ ap (get_elem? views) same ∙ at) in
    (w, ap (get_elem? (set views id w)) same ∙ set_here views id w (at_length views id v at), live, number ∙ ap (λ (z : View). z.number) (sym is) ∙ h.3))
    (λ (apart : j ≢ id). (h.0, set_else views id j w apart ∙ h.1, h.2, h.3))
    (cases_eq j id)

-- a live view isn't dead
pub not_dead : (v : View) → v.live ≡ true → (A : Type 0) → v.live ≡ false → A
not_dead v live A dead = absurd (true≢false (sym live ∙ dead))
