-- The locks of all shards, and the words read under them.
use Rattle.std.proofs.Common.{◌≡◌, ◌≢◌, ℕ, zero, suc, ◌+◌, ◌<◌, ◌≤◌, List, [], ◌∷◌, ◌++◌, length, get_or, sym, ap, ◌∙◌, subst, inl, inr, ⊎_elim, arith}
use Rattle.std.proofs.lemmas.Bool.{cases_eq, cases_lt}
use Rattle.std.proofs.lemmas.List.{get_or_append_left, get_or-append-add}
use Rattle.pop_net.specs.declared.net.Word.{Word}
use Rattle.agent_field.specs.declared.view.Setup.{Setup}
use Rattle.agent_field.specs.Standing.{In, agents_opened}
use Rattle.agent_field.specs.Steps.{Mine, below, seen, with_known, with_locks, HasSeenAll}
use Rattle.agent_field.specs.Tokens.{SeatToken, Becomes, HasReadAll}

pub In-below : (t n : ℕ) → t < n → In t (below n)
In-below t zero h = absurd (omega arith)
In-below t (suc n) h = ⊎_elim (λ (e : t ≡ n). inl e) (λ (ne : t ≢ n). inr (In-below t n (omega arith))) (cases_eq t n)

pub below-In : (t n : ℕ) → In t (below n) → t < n
below-In t zero h = absurd h
below-In t (suc n) h = ⊎_elim (λ (e : t ≡ n). omega arith) (λ (i : In t (below n)). let l = below-In t n i in omega arith) h

pub below-one : (n m : ℕ) → n ≡ suc m → below n ≡ m ∷ below m
below-one n m e = ap below e

-- one more word was read
pub read-more : (known : List (ℕ × Word)) (out now : List Word) (a : ℕ) (x : Word) → now ≡ out ++ x ∷ [] → length out ≡ a → ((i : ℕ) (d : Word) → i < a → In (i, get_or out i d) known)
    → (i : ℕ) (d : Word) → i < a + 1 → In (i, get_or now i d) ((a, x) ∷ known)
read-more known out now a x longer long each i d h =
    ⊎_elim
    (λ (early : i < a). inr (subst (λ (w : Word). In (i, w) known) (sym (ap (λ (l : List Word). get_or l i d) longer ∙ get_or_append_left out (x ∷ []) d i (omega arith))) (each i d early)))
    (λ (late : a ≤ i).
    let here : i ≡ a = omega arith in
    let found : get_or now i d ≡ x = ap (λ (l : List Word). get_or l i d) longer ∙ ap (λ (k : ℕ). get_or (out ++ x ∷ []) k d) (let e : i ≡ length out + 0 = omega arith in e) ∙ get_or-append-add out (x ∷ []) 0 d in
    inl (λ k. (here k, found k)))
    (cases_lt i a)

-- where nothing is due, putting back a seat's own locks and words changes nothing
pub held_again : (m : Mine) (held : List ℕ) → m.0.held ≡ held → m.0.due ≡ [] → m ≡ (with_known m.0.known (with_locks held m.0), m.1)
held_again m held locks due i = (
  record { setup = m.0.setup; founding = m.0.founding; live = m.0.live; number = m.0.number; held = locks i; known = m.0.known; due = due i; log = m.0.log; next = m.0.next; taken = m.0.taken; looks = m.0.looks },
  m.1,
)

-- all words were read under all locks
pub saw_all : (k : Setup) (t t₁ t₂ : SeatToken) (shards agents : ℕ) (words : List Word) → t.me.0.number ≡ 0 → Becomes t t₁ (with_locks (below shards) t.me.0) → HasReadAll agents words t₁ t₂ → k.shards ≡ shards → agents_opened k ≡ agents → HasSeenAll k t₂.me.0 (seen t₂.me.0.known)
saw_all k t t₁ t₂ shards agents words zeroth locked h all_shards all_agents =
    let now : t₂.me ≡ (with_known h.known (with_locks (below shards) t.me.0), t.me.1) = h.read.me ∙ ap (λ (n : Mine). (with_known h.known n.0, n.1)) locked.me in
    let same : seen t₂.me.0.known ≡ words = ap (λ (n : Mine). seen n.0.known) now ∙ h.these in record {
      first = ap (λ (n : Mine). n.0.number) now ∙ zeroth;
      locked = λ s l. subst (In s) (sym (ap (λ (n : Mine). n.0.held) now)) (In-below s shards (omega arith));
      whole = ap (length {A = Word}) same ∙ h.whole ∙ sym all_agents;
      all = λ a d l. subst (λ (p : List Word × List (ℕ × Word)). In (a, get_or p.0 a d) p.1) (λ i. (sym same i, sym (ap (λ (n : Mine). n.0.known) now) i)) (h.each a d (omega arith));
      due = ap (λ (n : Mine). n.0.due) now;
    }
