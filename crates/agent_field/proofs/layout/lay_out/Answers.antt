use Rattle.std.proofs.Common.{rules, ◌≡◌, ◌≤◌, ◌<◌, ◌+◌, ◌-◌, ℕ, List, [], ◌∷◌, ◌++◌, length, map, min, replicate}
use Rattle.std.proofs.Common.{take, get_or, Vec, Global, sym, ap, ◌∙◌, arith}
use Rattle.std.specs.Prelude.{vec_len, vec_capacity}
use Rattle.std.proofs.lemmas.List.{append_assoc, length-map, length-replicate, length-take-le}
use Rattle.std.proofs.lemmas.List.{take_all, take_more, map-append}
use Rattle.pop_net.specs.declared.net.Word.{Word}
use Rattle.agent_field.specs.declared.places.TheConstants.{HEAD_WORDS}
use Rattle.agent_field.specs.Standing.{in_turns, packed}
use Rattle.agent_field.proofs.InTurns.{length-in_turns, word_with_lock, word_alone, further_locks}
use Rattle.agent_field.proofs.layout.lay_out.Goals as goal
use Rattle.agent_field.proofs.layout.lay_out.Goals.{then-a-shards, else-a-shards}

abbrev bits : List Word → List ℕ
bits words = map (λ (w : Word). w.0) words

-- the bits of one more word
bits_more : (words : List Word) (a : ℕ) → a < length words
    → bits (take (a + 1) words) ≡ bits (take a words) ++ (get_or words a (packed 0)).0 ∷ []
bits_more words a inside =
    ap bits (take_more words a (packed 0) inside)
    ∙ map-append (λ (w : Word). w.0) (take a words) (get_or words a (packed 0) ∷ [])

count_bits : (words : List Word) (a : ℕ) → a ≤ length words → length (bits (take a words)) ≡ a
count_bits words a few = length-map (take a words) (λ (w : Word). w.0) ∙ length-take-le a words few

count_laid : (laid : List ℕ) (words : List Word) (shards a : ℕ) → a ≤ length words
    → laid ≡ 0 ∷ 0 ∷ in_turns (replicate (min a shards) 0) (bits (take a words))
    → length laid ≡ HEAD_WORDS + min a shards + a
count_laid laid words shards a few is =
    let turns = length-in_turns (replicate (min a shards) 0) (bits (take a words)) in
    let locks = length-replicate {A = ℕ} (min a shards) 0 in
    let long = ap (length {A = ℕ}) is in
    omega (arith, turns, locks, long, count_bits words a few)

pub loop-a-preserved : goal.loop-a-preserved
loop-a-preserved c =
    let words = c.args.words.now in
    let shards = c.args.shards in
    let a = c.loop-a.a in
    let x = (get_or words a (packed 0)).0 in
    let was = c.loop-a.invariant in
    let inside : a < length words = c.loop-a-test.true in
    let count = count_bits words a (omega (arith, inside)) in
    let locks : List ℕ = replicate (min a shards) 0 in
    let push = c.push_reserved-in-loop-a.ensures in
    let more = λ (l : List ℕ). ap (λ (ys : List ℕ). 0 ∷ 0 ∷ in_turns l ys) (sym (bits_more words a inside)) in
    let next : List ℕ = replicate (min (a + 1) shards) 0 in
    elim c.if-a-shards.branch [
      | then-a-shards w ↦
          let lock = w.push_reserved.ensures in
          let inner = w.if-a-shards.true in
          let now : c.push_reserved-in-loop-a.new.self.items ≡ 0 ∷ 0 ∷ in_turns next (bits (take (a + 1) words)) =
          (push.items
          ∙ ap (λ (v : Vec ℕ Global). v.items ++ x ∷ []) w.all-is
          ∙ ap (λ (l : List ℕ). l ++ x ∷ []) lock.items
          ∙ ap (λ (l : List ℕ). (l ++ 0 ∷ []) ++ x ∷ []) was.laid
          ∙ append_assoc (0 ∷ 0 ∷ in_turns locks (bits (take a words))) (0 ∷ []) (x ∷ [])
          ∙ ap (λ (l : List ℕ). 0 ∷ 0 ∷ l) (word_with_lock shards a x (bits (take a words)) count inner)
          ∙ more next) in
          record {
            laid = now;
            count = count_laid c.push_reserved-in-loop-a.new.self.items words shards (a + 1) (omega (arith, inside)) now;
            room = omega (arith, was.room, ap vec_capacity w.all-is, lock.capacity, push.capacity);
          }
      | else-a-shards w ↦
          let outer = w.if-a-shards.false in
          let now : c.push_reserved-in-loop-a.new.self.items ≡ 0 ∷ 0 ∷ in_turns next (bits (take (a + 1) words)) =
          (push.items
          ∙ ap (λ (v : Vec ℕ Global). v.items ++ x ∷ []) w.all-is
          ∙ ap (λ (l : List ℕ). l ++ x ∷ []) was.laid
          ∙ ap (λ (l : List ℕ). 0 ∷ 0 ∷ l) (word_alone shards a x (bits (take a words)) count outer)
          ∙ more next) in
          record {
            laid = now;
            count = count_laid c.push_reserved-in-loop-a.new.self.items words shards (a + 1) (omega (arith, inside)) now;
            room = omega (arith, was.room, ap vec_capacity w.all-is, push.capacity);
          }
    ]

pub returns : goal.returns
returns c =
    let words = c.args.words.now in
    let shards = c.args.shards in
    let a = c.loop-a.a in
    let was = c.loop-a.invariant in
    let all = c.loop-a.all in
    let behind : length words ≤ a = c.loop-a-test.false in
    let within : a ≤ length words = c.loop-a.auto.a-end in
    let count = count_bits words a within in
    let same : vec_len all ≡ length all.items = search rules in
    let laid : all.items ≡ 0 ∷ 0 ∷ in_turns (replicate (min a shards) 0) (bits (take a words)) = was.laid in
    let laid_count : length all.items ≡ HEAD_WORDS + min a shards + a = was.count in
    let left : HEAD_WORDS + shards + length words - vec_len all ≡ shards - min a shards = omega (arith, laid_count, same, behind, within) in
    c.in_ok-resize-2.ensures.items
    ∙ ap (λ (l : List ℕ). l ++ replicate (HEAD_WORDS + shards + length words - vec_len all) 0)
    (take_all (HEAD_WORDS + shards + length words) all.items (omega (arith, laid_count, within)) ∙ laid)
    ∙ ap (λ (n : ℕ). 0 ∷ 0 ∷ (in_turns (replicate (min a shards) 0) (bits (take a words)) ++ replicate n 0)) left
    ∙ ap (λ (l : List ℕ). 0 ∷ 0 ∷ l) (further_locks shards a (bits (take a words)) count)
    ∙ ap (λ (l : List Word). 0 ∷ 0 ∷ in_turns (replicate shards 0) (bits l)) (take_all a words behind)
