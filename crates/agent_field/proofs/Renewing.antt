-- The words of a closed field: those of the agents that no meeting changed are still those of its opening.
use Rattle.std.proofs.Common.{◌≡◌, ◌≢◌, ◌⊎◌, ℕ, suc, ◌+◌, ◌<◌, Bool, true, false, true≢false, min, List, [], ◌∷◌, length, map, get_or, set, refl, sym, ap, ◌∙◌, subst, inl, inr, ⊎_elim, arith, zero-add, length-set, get_or-set_same, get_or-set_other}
use Rattle.std.proofs.lemmas.Bool.{cases_eq}
use Rattle.std.proofs.lemmas.List.{length-map, get_or-map, map-set, set-get_or, ext_get_or}
use Rattle.std.proofs.lemmas.List.FromFn.{length-map-range_with_len, get_or-map-range_with_len}
use Rattle.std.proofs.Math.ListN.{replicate, length-replicate}
use Rattle.std.specs.List.{range_with_len}
use Rattle.pop_net.specs.declared.net.Word.{Word}
use Rattle.pop_leaf.specs.NetModel.{NetModel, CrowdModel}
use Rattle.pop_net.specs.Lanes.{tuple_of, crowd_of, AreValid}
use Rattle.pop_leaf.specs.Reaction.{after_meeting}
use Rattle.pop_net.proofs.Packing.{same_word}
use Rattle.pop_crowd.specs.declared.crowd.Meeting.{Meeting}
use Rattle.pop_crowd.specs.Replay.{replay, changes, AreMarked}
use Rattle.pop_crowd.proofs.Unmoved.{still}
use Rattle.agent_field.specs.declared.layout.Layout.{Layout}
use Rattle.agent_field.specs.declared.view.Setup.{Setup}
use Rattle.agent_field.specs.History.{IsHistory}
use Rattle.agent_field.specs.Standing.{agents_opened, agent_place, agent_word, crowd_after, in_turns, laid_out, packed, word_of}
use Rattle.agent_field.specs.Layouts.{Serves, renewed, renewed_if}
use Rattle.agent_field.proofs.InTurns.{set-in_turns_second}

-- one word of a layout is written
laid_set : (shards a n : ℕ) (words : List Word) → a < length words → set (laid_out shards words) (agent_place shards a) n ≡ laid_out shards (set words a (packed n))
laid_set shards a n words h =
    let locks : List ℕ = replicate shards 0 in
    let bits : Word → ℕ = λ w. w.0 in
    let long : length locks ≡ shards = length-replicate shards 0 in
    let many : length (map bits words) ≡ length words = length-map words bits in
    ap (λ (i : ℕ). set (laid_out shards words) i n) (let at : agent_place shards a ≡ suc (suc (a + min (a + 1) (length locks))) = omega (arith, long) in at)
    ∙ ap (λ (l : List ℕ). 0 ∷ 0 ∷ l) (set-in_turns_second locks (map bits words) a n (omega (arith, many)))
    ∙ ap (λ (l : List ℕ). 0 ∷ 0 ∷ in_turns locks l) (sym (map-set bits words a (packed n)))

pub serves_set : (before after : Layout) (words : List Word) (shards a n : ℕ) → a < length words → Serves before words shards → after.words.items ≡ set before.words.items (agent_place shards a) n
    → Serves after (set words a (packed n)) shards
serves_set before after words shards a n h serves is =
    ⊎_elim
    (λ (bare : before.words.items ≡ []). inl (is ∙ ap (λ (l : List ℕ). set l (agent_place shards a) n) bare))
    (λ (laid : before.words.items ≡ laid_out shards words). inr (is ∙ ap (λ (l : List ℕ). set l (agent_place shards a) n) laid ∙ laid_set shards a n words h))
    serves

length-renewed_if : (b : Bool) (shards : ℕ) (table : List ℕ) (m : Meeting) (words : List Word) → length (renewed_if b shards table m words) ≡ length words
length-renewed_if true shards table m words = length-set _ m.b _ ∙ length-set words m.a _
length-renewed_if false shards table m words = refl

length-renewed : (shards : ℕ) (table : List ℕ) (meetings : List Meeting) (words : List Word) → length (renewed shards table meetings words) ≡ length words
length-renewed shards table [] words = refl
length-renewed shards table (m ∷ meetings) words = length-renewed shards table meetings (renewed_if m.changed shards table m words) ∙ length-renewed_if m.changed shards table m words

-- the meeting is none of this agent's
IsApart : ℕ → Meeting → Type 0
IsApart a m = (m.a ≢ a) × (m.b ≢ a)

-- no meeting that changed something is one of this agent's
IsLeftAlone : ℕ → List Meeting → Type 0
IsLeftAlone a [] = Unit {0}
IsLeftAlone a (m ∷ meetings) = (m.changed ≡ true → IsApart a m) × IsLeftAlone a meetings

-- an agent's word was renewed, or it is as before and no meeting changed it
renewed_one : (b : Bool) (shards : ℕ) (table : List ℕ) (m : Meeting) (words : List Word) (a : ℕ) (d : Word) → a < length words
    → (get_or (renewed_if b shards table m words) a d ≡ word_of shards table a) ⊎ ((get_or (renewed_if b shards table m words) a d ≡ get_or words a d) × (b ≡ true → IsApart a m))
unfolding IsApart
renewed_one false shards table m words a d h = inr (refl, λ e. absurd (true≢false (sym e)))
renewed_one true shards table m words a d h =
    let x = word_of shards table m.a in
    let y = word_of shards table m.b in
    let first = set words m.a x in
    let both = set first m.b y in
    ⊎_elim
    (λ (same : m.b ≡ a). inl
    (ap (λ (i : ℕ). get_or both i d) (sym same)
    ∙ get_or-set_same first m.b y d (omega (arith, same, length-set words m.a x, h))
    ∙ ap (word_of shards table) same))
    (λ (other : m.b ≢ a). ⊎_elim
    (λ (same : m.a ≡ a). inl
    (get_or-set_other first m.b a y d (λ e. other (sym e))
    ∙ ap (λ (i : ℕ). get_or first i d) (sym same)
    ∙ get_or-set_same words m.a x d (omega (arith, same, h))
    ∙ ap (word_of shards table) same))
    (λ (apart : m.a ≢ a). inr (get_or-set_other first m.b a y d (λ e. other (sym e)) ∙ get_or-set_other words m.a a x d (λ e. apart (sym e)), λ e. (apart, other)))
    (cases_eq m.a a))
    (cases_eq m.b a)

renewed_word : (shards : ℕ) (table : List ℕ) (meetings : List Meeting) (words : List Word) (a : ℕ) (d : Word) → a < length words
    → (get_or (renewed shards table meetings words) a d ≡ word_of shards table a) ⊎ ((get_or (renewed shards table meetings words) a d ≡ get_or words a d) × IsLeftAlone a meetings)
unfolding IsLeftAlone
renewed_word shards table [] words a d h = inr (refl, tt)
renewed_word shards table (m ∷ meetings) words a d h =
    let next = renewed_if m.changed shards table m words in
    let one = renewed_one m.changed shards table m words a d h in
    let all = renewed shards table meetings next in
    ⊎_elim
    (λ (done : get_or all a d ≡ word_of shards table a). inl done)
    (λ (same : (get_or all a d ≡ get_or next a d) × IsLeftAlone a meetings). ⊎_elim
    (λ (now : get_or next a d ≡ word_of shards table a). inl (same.0 ∙ now))
    (λ (was : (get_or next a d ≡ get_or words a d) × (m.changed ≡ true → IsApart a m)). inr (same.0 ∙ was.0, (was.1, same.1)))
    one)
    (renewed_word shards table meetings next a d (subst (λ (n : ℕ). a < n) (sym (length-renewed_if m.changed shards table m words)) h))

-- a meeting that changes nothing, or is none of this agent's, leaves its tuple
met_apart : (net : NetModel) (m : Meeting) (crowd : CrowdModel) (a : ℕ) (b : Bool) → b ≡ changes net m.a m.b crowd → (b ≡ true → IsApart a m) → get_or (after_meeting net m.a m.b crowd) a [] ≡ get_or crowd a []
unfolding IsApart
met_apart net m crowd a true is apart =
    let other = apart refl in
    get_or-set_other _ m.b a _ [] (λ e. other.1 (sym e)) ∙ get_or-set_other crowd m.a a _ [] (λ e. other.0 (sym e))
met_apart net m crowd a false is apart =
    let x = get_or crowd m.a [] in
    let y = get_or crowd m.b [] in
    let same = still net x y (sym is) in
    let stays : after_meeting net m.a m.b crowd ≡ crowd =
    (λ i. set (set crowd m.a (same.0 i)) m.b (same.1 i))
    ∙ ap (λ (c : CrowdModel). set c m.b y) (set-get_or crowd m.a [])
    ∙ set-get_or crowd m.b [] in
    ap (λ (c : CrowdModel). get_or c a []) stays

left_alone : (net : NetModel) (meetings : List Meeting) (crowd : CrowdModel) (a : ℕ) → AreMarked net meetings crowd → IsLeftAlone a meetings → get_or (replay net meetings crowd) a [] ≡ get_or crowd a []
unfolding IsLeftAlone
left_alone net [] crowd a marked alone = refl
left_alone net (m ∷ meetings) crowd a marked alone =
    left_alone net meetings (after_meeting net m.a m.b crowd) a marked.1 alone.1
    ∙ met_apart net m crowd a m.changed marked.0 alone.0

-- the agents' words of a table
abbrev pub agent_words : Setup → List ℕ → List Word
agent_words k table = map (agent_word k table) (range_with_len 0 (agents_opened k))

-- where the table has what a history leads to, the renewed words are the table's
pub all_renewed : (k : Setup) (table : List ℕ) (history : List Meeting) → AreValid k.net.value k.opening.value → IsHistory k.net.value k.seats k.opening.value history
    → crowd_of k.net.value (agent_words k table) ≡ crowd_after k history → AreValid k.net.value (agent_words k table) → renewed k.shards table history k.opening.value ≡ agent_words k table
all_renewed k table history opened right agents valid =
    let net = k.net.value in
    let opening = k.opening.value in
    let words = agent_words k table in
    let none = packed 0 in
    let many : length words ≡ length opening = length-map-range_with_len (agent_word k table) 0 (agents_opened k) in
    let long = length-renewed k.shards table history opening in
    ext_get_or none (renewed k.shards table history opening) words (long ∙ sym many)
    (λ a h.
    let inside : a < length opening = subst (λ (n : ℕ). a < n) long h in
    let within : a < length words = subst (λ (n : ℕ). a < n) (sym many) inside in
    let at : get_or words a none ≡ word_of k.shards table a = get_or-map-range_with_len (agent_word k table) 0 (agents_opened k) a a none inside (zero-add a) in
    ⊎_elim
    (λ (done : get_or (renewed k.shards table history opening) a none ≡ word_of k.shards table a). done ∙ sym at)
    (λ (same : (get_or (renewed k.shards table history opening) a none ≡ get_or opening a none) × IsLeftAlone a history).
    let tuples : tuple_of net (get_or opening a none) ≡ tuple_of net (get_or words a none) =
    sym (get_or-map (tuple_of net) opening a none [] inside)
    ∙ sym (left_alone net history (crowd_of net opening) a right.marked same.1)
    ∙ sym (ap (λ (c : CrowdModel). get_or c a []) agents)
    ∙ get_or-map (tuple_of net) words a none [] within in
    same.0 ∙ same_word net (get_or opening a none) (get_or words a none) (opened a none inside) (valid a none within) tuples)
    (renewed_word k.shards table history opening a none inside))
