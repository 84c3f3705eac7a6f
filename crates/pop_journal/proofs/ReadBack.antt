-- What is written is read.
use Rattle.std.proofs.Common.{◌≡◌, ◌≢◌, ◌⊎◌, inl, inr, ℕ, ◌+◌, ◌*◌, ◌<◌, ◌≤◌, ◌^◌, ◌==◌, ◌&&◌, Bool, true, false, not, nat_lt, List, [], ◌∷◌, ◌++◌, length, map, codes, decimal, Option, Some, None, Result, Ok, Err, All, refl, sym, ap, subst, ◌∙◌, arith, append_assoc, append-nil, length-append, if◌then◌else◌, get_or, set, get_or-set_same, get_or-set_other}
use Rattle.std.specs.Prelude.{slice_get}
use Rattle.std.specs.Str.{bytes_eq}
use Rattle.std.proofs.lemmas.Bool.{and_from, lt-ltb, eq-eqb, ne_eqb, cond-true, cond-false, cases_eq, cases_lt}
use Rattle.std.proofs.lemmas.Slice.Eq.{bytes_eq-Decides}
use Rattle.std.proofs.lemmas.List.Elements.{All-head, filter-append}
use Rattle.std.proofs.Math.Nat.{mul-le-mul}
use Rattle.base_lines.proofs.Printed.{printed_number_of-decimal}
use Rattle.pop_crowd.specs.declared.crowd.Meeting.{Meeting}
use Rattle.pop_crowd.specs.Replay.{IsMeeting}
use Rattle.run_spec.specs.declared.spec.RunSpec.{RunSpec}
use Rattle.run_spec.specs.declared.kind.RunKind.{RunKind}
use Rattle.run_spec.specs.declared.kind.RunKind.TheVariants.{Whole, Watched}
use Rattle.run_picks.specs.Run.{meetings_of, turns_in, joined, IsRound}
use Rattle.run_picks.specs.WatchedRun.{IsWatchedRound}
use Rattle.run_picks.proofs.WholeWatched.{watched_round}
use Rattle.run_text.specs.declared.fault.JournalWhy.{JournalWhy}
use Rattle.run_text.specs.declared.fault.JournalWhy.TheVariants.{Form, Worker, Agents, Round}
use Rattle.run_text.specs.Journal.{round_line, meeting_line, round_lines}
use Rattle.pop_journal.specs.Rounds.{AreRounds, AreWatchedRounds, AreRoundsOf}
use Rattle.pop_journal.specs.declared.form.MeetingLine.{MeetingLine}
use Rattle.pop_journal.specs.Form.{Tells, three_numbers, told_words, told_in, Reading, all_rounds, wanted, settled, meeting_told, ends_inside, line_read, Parts, follow, lines_read}
use Rattle.pop_journal.specs.ReadLines.{first_ends}
use Rattle.pop_journal.proofs.Spelled.{IsSmall, meeting_words, mark_words}
use Rattle.pop_journal.proofs.Counts.{round_most, round_full, round_long}
use Rattle.pop_journal.proofs.FormLaws.{line_of, told_no_end}
use Rattle.pop_journal.proofs.Due.{own_first, own_last, other_last}
use Rattle.pop_journal.proofs.Holds.{all_parts}

three_back : (w a b : ℕ) (mark : Bool) → w < 2 ^ 64 → a < 2 ^ 64 → b < 2 ^ 64 → three_numbers (decimal w) (decimal a) (decimal b) mark ≡ Some (line_of w a b mark)
three_back w a b mark lw la lb = rw (printed_number_of-decimal w lw, printed_number_of-decimal a la, printed_number_of-decimal b lb) refl

words_back : (w a b : ℕ) (mark : Bool) → w < 2 ^ 64 → a < 2 ^ 64 → b < 2 ^ 64 → told_words (decimal w ∷ decimal a ∷ decimal b ∷ mark_words mark) ≡ Some (line_of w a b mark)
words_back w a b true lw la lb = three_back w a b true lw la lb
words_back w a b false lw la lb = three_back w a b false lw la lb

-- a meeting line is read as its meeting
pub told_back : (m : Meeting) → IsSmall m → told_in (meeting_line m) ≡ Some (line_of m.worker m.a m.b m.changed)
unfolding told_in
told_back m small = ap told_words (meeting_words m small) ∙ words_back m.worker m.a m.b m.changed small.worker small.a small.b

not_end : (k : ℕ) → bytes_eq (round_line k) (codes "end") ≡ false
not_end k = by_test (bytes_eq (round_line k) (codes "end")) refl
  where
    by_test : (b : Bool) → bytes_eq (round_line k) (codes "end") ≡ b → bytes_eq (round_line k) (codes "end") ≡ false
    by_test false e = e
    by_test true e = absurd (let same : round_line k ≡ codes "end" = (bytes_eq-Decides (round_line k) (codes "end")).0 e in cc)

slice_get-middle : (done : List (List Meeting)) (r : List Meeting) (rest : List (List Meeting)) → slice_get (done ++ r ∷ rest) (length done) ≡ Some r
slice_get-middle [] r rest = refl
slice_get-middle (d ∷ done) r rest = slice_get-middle done r rest

module _ (kind : RunKind) (spec : RunSpec) (agents : ℕ) (some_worker : 1 ≤ spec.workers) (workers : spec.workers ≤ 64) (few : agents < 2 ^ 32) where
  abbrev InRange : Meeting → Type 0
  InRange m = IsMeeting agents m

  joined_middle : (done : List (List Meeting)) (r : List Meeting) (rest : List (List Meeting)) → All InRange (joined (done ++ r ∷ rest)) → All InRange r
  joined_middle [] r rest h = (all_parts InRange r (joined rest) h).0
  joined_middle (d ∷ done) r rest h = joined_middle done r rest (all_parts InRange d (joined (done ++ r ∷ rest)) h).1

  -- a meeting of a round, after those before it
  meeting_read : (rounds : List (List Meeting)) (pre post : List Meeting) (m : Meeting) → IsWatchedRound spec (length rounds + 1) (pre ++ m ∷ post) → All InRange (pre ++ m ∷ post)
      → line_read kind spec agents (rounds, Some pre) (meeting_line m) ≡ Ok (Some (settled spec rounds (pre ++ m ∷ [])))
  meeting_read rounds pre post m round range =
      let turns = turns_in spec (length rounds + 1) in
      let meets = All-head InRange m post (all_parts InRange pre (m ∷ post) range).1 in
      let below : m.worker < spec.workers = All-head (λ (o : Meeting). o.worker < spec.workers) m post (all_parts (λ (o : Meeting). o.worker < spec.workers) pre (m ∷ post) round.nobody_else).1 in
      let small : IsSmall m = record { worker = omega (arith, below, workers); a = (let l : m.a < agents = meets.first in omega (arith, l, few)); b = (let l : m.b < agents = meets.second in omega (arith, l, few)) } in
      let mine = meetings_of m.worker pre in
      let whole : length (mine ++ meetings_of m.worker (m ∷ post)) ≤ turns = subst (λ (l : List Meeting). length l ≤ turns) (filter-append (λ (o : Meeting). o.worker == m.worker) pre (m ∷ post)) (round.each_worker m.worker below) in
      let first = ap length (own_first m.worker m post refl) in
      let room : length mine < turns = omega (arith, whole, first, length-append mine (meetings_of m.worker (m ∷ post))) in
      let done : Result (Option Reading) JournalWhy = Ok (Some (settled spec rounds (pre ++ m ∷ []))) in
      let apart = not (m.a == m.b) && (nat_lt m.a agents && nat_lt m.b agents) in
      let told = told_back m small in
      cond-false (ends_inside kind (meeting_line m)) (Ok None) (meeting_told spec agents rounds pre (told_in (meeting_line m))) (told_no_end kind (meeting_line m) (line_of m.worker m.a m.b m.changed) told)
      ∙ ap (meeting_told spec agents rounds pre) told
      ∙ cond-true (nat_lt m.worker spec.workers && nat_lt (length mine) turns) (if apart then done else Err Agents) (Err Worker)
      (and_from (nat_lt m.worker spec.workers) (nat_lt (length mine) turns) (lt-ltb m.worker spec.workers below) (lt-ltb (length mine) turns room))
      ∙ cond-true apart done (Err Agents)
      (and_from (not (m.a == m.b)) (nat_lt m.a agents && nat_lt m.b agents) (ap not (ne_eqb m.a m.b meets.different))
      (and_from (nat_lt m.a agents) (nat_lt m.b agents) (lt-ltb m.a agents meets.first) (lt-ltb m.b agents meets.second)))

  pub settled_full : (rounds : List (List Meeting)) (r : List Meeting) → length r ≡ wanted spec rounds → settled spec rounds r ≡ (rounds ++ r ∷ [], None)
  settled_full rounds r e = cond-true (length r == wanted spec rounds) (let d : Reading = (rounds ++ r ∷ [], None) in d) (rounds, Some r) (eq-eqb (length r) (wanted spec rounds) e)

  pub settled_open : (rounds : List (List Meeting)) (r : List Meeting) → length r < wanted spec rounds → settled spec rounds r ≡ (rounds, Some r)
  settled_open rounds r l = cond-false (length r == wanted spec rounds) (let d : Reading = (rounds ++ r ∷ [], None) in d) (rounds, Some r) (ne_eqb (length r) (wanted spec rounds) (λ e. omega (arith, e, l)))

  -- the lines after a line that was read
  pub on_with : (number : ℕ) (reading next : Reading) (line : List ℕ) (lines : List (List ℕ)) → line_read kind spec agents reading line ≡ Ok (Some next) → lines_read kind spec agents number reading (line ∷ lines) ≡ lines_read kind spec agents (number + 1) next lines
  on_with number reading next line lines e = ap (follow number (all_rounds reading, lines) (λ n. lines_read kind spec agents (number + 1) n lines)) e

  -- one more line of an open round
  pub read_next : (number : ℕ) (rounds : List (List Meeting)) (ms : List Meeting) (next : Reading) (line : List ℕ) (lines : List (List ℕ)) → length ms < wanted spec rounds → line_read kind spec agents (rounds, Some ms) line ≡ Ok (Some next)
      → lines_read kind spec agents number (settled spec rounds ms) (line ∷ lines) ≡ lines_read kind spec agents (number + 1) next lines
  read_next number rounds ms next line lines short e =
      ap (λ (r : Reading). lines_read kind spec agents number r (line ∷ lines)) (settled_open rounds ms short) ∙ on_with number (rounds, Some ms) next line lines e

  -- the meeting lines of a round, or of a part of it
  rest_read : (number : ℕ) (rounds : List (List Meeting)) (pre post : List Meeting) (lines : List (List ℕ)) → IsWatchedRound spec (length rounds + 1) (pre ++ post) → All InRange (pre ++ post)
      → lines_read kind spec agents number (settled spec rounds pre) (map meeting_line post ++ lines) ≡ lines_read kind spec agents (number + length post) (settled spec rounds (pre ++ post)) lines
  rest_read number rounds pre [] lines round range =
      ap (λ (t : ℕ × List Meeting). lines_read kind spec agents t.0 (settled spec rounds t.1) lines) (λ i. ((let e : number ≡ number + 0 = omega arith in e) i, sym (append-nil pre) i))
  rest_read number rounds pre (m ∷ post) lines round range =
      let most = round_most spec (length rounds + 1) (pre ++ m ∷ post) round in
      let short : length pre < wanted spec rounds = omega (arith, most, length-append pre (m ∷ post)) in
      let same : pre ++ m ∷ [] ++ post ≡ pre ++ m ∷ post = append_assoc pre (m ∷ []) post in
      read_next number rounds pre (settled spec rounds (pre ++ m ∷ [])) (meeting_line m) (map meeting_line post ++ lines) short (meeting_read rounds pre post m round range)
      ∙ rest_read (number + 1) rounds (pre ++ m ∷ []) post lines (subst (IsWatchedRound spec (length rounds + 1)) (sym same) round) (subst (All InRange) (sym same) range)
      ∙ ap (λ (t : ℕ × List Meeting). lines_read kind spec agents t.0 (settled spec rounds t.1) lines) (λ i. ((let e : number + 1 + length post ≡ number + length (m ∷ post) = omega arith in e) i, same i))

  -- the line of a round, and its meeting lines
  round_read : (number : ℕ) (rounds : List (List Meeting)) (r : List Meeting) (lines : List (List ℕ)) → IsWatchedRound spec (length rounds + 1) r → All InRange r
      → lines_read kind spec agents number (rounds, None) ((round_line (length rounds + 1) ∷ map meeting_line r) ++ lines) ≡ lines_read kind spec agents (number + 1 + length r) (settled spec rounds r) lines
  round_read number rounds r lines round range =
      let k = length rounds + 1 in
      let opened : Result (Option Reading) JournalWhy = Ok (Some (rounds, Some [])) in
      let some : 1 ≤ wanted spec rounds = omega (arith, mul-le-mul some_worker round.some_turn) in
      on_with number (rounds, None) (rounds, Some []) (round_line k) (map meeting_line r ++ lines)
      (cond-false (bytes_eq (round_line k) (codes "end")) (Ok None) (if bytes_eq (round_line k) (round_line k) then if turns_in spec k == 0 then Err Round else opened else Err Form) (not_end k)
      ∙ cond-true (bytes_eq (round_line k) (round_line k)) (if turns_in spec k == 0 then Err Round else opened) (Err Form) ((bytes_eq-Decides (round_line k) (round_line k)).1 refl)
      ∙ cond-false (turns_in spec k == 0) (Err Round) opened (ne_eqb (turns_in spec k) 0 (λ e. omega (arith, e, round.some_turn))))
      ∙ ap (λ (n : Reading). lines_read kind spec agents (number + 1) n (map meeting_line r ++ lines)) (sym (settled_open rounds [] (omega (arith, some))))
      ∙ rest_read (number + 1) rounds [] r lines round range

  -- a whole round, and the lines after it
  whole_read : (number : ℕ) (done : List (List Meeting)) (r : List Meeting) (rest : List (List Meeting)) (tail : List (List ℕ)) → IsRound spec (length done + 1) r → All InRange r
      → ((n : ℕ) → lines_read kind spec agents n (done ++ r ∷ [], None) (round_lines (length (done ++ r ∷ []) + 1) rest ++ codes "end" ∷ tail) ≡ Ok (done ++ r ∷ [] ++ rest, tail))
      → lines_read kind spec agents number (done, None) (round_lines (length done + 1) (r ∷ rest) ++ codes "end" ∷ tail) ≡ Ok (done ++ r ∷ rest, tail)
  whole_read number done r rest tail round range on =
      let k = length done + 1 in
      let next : length (done ++ r ∷ []) + 1 ≡ k + 1 = (let l = length-append done (r ∷ []) in omega (arith, l)) in
      ap (lines_read kind spec agents number (done, None)) (append_assoc (round_line k ∷ map meeting_line r) (round_lines (k + 1) rest) (codes "end" ∷ tail))
      ∙ round_read number done r (round_lines (k + 1) rest ++ codes "end" ∷ tail) (watched_round spec k r round) range
      ∙ ap (λ (n : Reading). lines_read kind spec agents (number + 1 + length r) n (round_lines (k + 1) rest ++ codes "end" ∷ tail)) (settled_full done r (round_long spec k r round))
      ∙ ap (λ (n : ℕ). lines_read kind spec agents (number + 1 + length r) (done ++ r ∷ [], None) (round_lines n rest ++ codes "end" ∷ tail)) (sym next)
      ∙ on (number + 1 + length r)
      ∙ ap (λ (d : List (List Meeting)). Ok (let p : Parts = (d, tail) in p)) (append_assoc done (r ∷ []) rest)

  -- the same for what the line says
  pub read_told : (number : ℕ) (rounds : List (List Meeting)) (ms : List Meeting) (next : Reading) (told : Option MeetingLine) (lines others : List (List ℕ)) → Tells lines told others → length ms < wanted spec rounds
      → first_ends kind lines ≡ false → meeting_told spec agents rounds ms told ≡ Ok (Some next) → lines_read kind spec agents number (settled spec rounds ms) lines ≡ lines_read kind spec agents (number + 1) next others
  read_told number rounds ms next told [] others t short on e = absurd t
  read_told number rounds ms next told (line ∷ lines) others t short on e =
      read_next number rounds ms next line lines short
      (cond-false (ends_inside kind line) (Ok None) (meeting_told spec agents rounds ms (told_in line)) on ∙ ap (meeting_told spec agents rounds ms) t.0 ∙ e)
      ∙ ap (lines_read kind spec agents (number + 1) next) t.1

  -- `end` in place of a meeting line
  pub read_stopped : (number : ℕ) (rounds : List (List Meeting)) (ms : List Meeting) (told : Option MeetingLine) (lines others : List (List ℕ)) → Tells lines told others → length ms < wanted spec rounds
      → first_ends kind lines ≡ true → lines_read kind spec agents number (settled spec rounds ms) lines ≡ Ok (rounds ++ ms ∷ [], others)
  read_stopped number rounds ms told [] others t short on = absurd t
  read_stopped number rounds ms told (line ∷ lines) others t short on =
      ap (λ (r : Reading). lines_read kind spec agents number r (line ∷ lines)) (settled_open rounds ms short)
      ∙ ap (follow number (rounds ++ ms ∷ [], lines) (λ n. lines_read kind spec agents (number + 1) n lines)) (cond-true (ends_inside kind line) (Ok None) (meeting_told spec agents rounds ms (told_in line)) on)
      ∙ ap (λ (ls : List (List ℕ)). Ok (let p : Parts = (rounds ++ ms ∷ [], ls) in p)) t.1

module _ (spec : RunSpec) (agents : ℕ) (some_worker : 1 ≤ spec.workers) (workers : spec.workers ≤ 64) (few : agents < 2 ^ 32) where
  -- a last round that lacks meetings
  stopped_read : (number : ℕ) (done : List (List Meeting)) (r : List Meeting) (tail : List (List ℕ)) → IsWatchedRound spec (length done + 1) r → All (IsMeeting agents) r → length r < wanted spec done
      → lines_read Watched spec agents number (done, None) (round_lines (length done + 1) (r ∷ []) ++ codes "end" ∷ tail) ≡ Ok (done ++ r ∷ [], tail)
  stopped_read number done r tail round range short =
      let k = length done + 1 in
      ap (λ (ls : List (List ℕ)). lines_read Watched spec agents number (done, None) (ls ++ codes "end" ∷ tail)) (append-nil (round_line k ∷ map meeting_line r))
      ∙ round_read Watched spec agents some_worker workers few number done r (codes "end" ∷ tail) round range
      ∙ read_stopped Watched spec agents some_worker workers few (number + 1 + length r) done r (told_in (codes "end")) (codes "end" ∷ tail) tail (refl, refl) short refl

  -- all rounds, `end`, and the tail
  pub rounds_read : (kind : RunKind) (number : ℕ) (done rest : List (List Meeting)) (tail : List (List ℕ)) → AreRoundsOf kind spec agents (done ++ rest) → lines_read kind spec agents number (done, None) (round_lines (length done + 1) rest ++ codes "end" ∷ tail) ≡ Ok (done ++ rest, tail)
  rounds_read kind number done [] tail form = ap (λ (d : List (List Meeting)). Ok (let p : Parts = (d, tail) in p)) (sym (append-nil done))
  rounds_read Whole number done (r ∷ rest) tail form =
      whole_read Whole spec agents some_worker workers few number done r rest tail (form.whole (length done) r (slice_get-middle done r rest)) (joined_middle Whole spec agents some_worker workers few done r rest form.meetings)
      (λ n. rounds_read Whole n (done ++ r ∷ []) rest tail (subst (AreRounds spec agents) (sym (append_assoc done (r ∷ []) rest)) form))
  rounds_read Watched number done (r ∷ s ∷ rest) tail form =
      let on : length done + 1 < length (done ++ r ∷ s ∷ rest) = omega (arith, length-append done (r ∷ s ∷ rest)) in
      whole_read Watched spec agents some_worker workers few number done r (s ∷ rest) tail (form.whole (length done) r on (slice_get-middle done r (s ∷ rest))) (joined_middle Watched spec agents some_worker workers few done r (s ∷ rest) form.meetings)
      (λ n. rounds_read Watched n (done ++ r ∷ []) (s ∷ rest) tail (subst (AreWatchedRounds spec agents) (sym (append_assoc done (r ∷ []) (s ∷ rest))) form))
  rounds_read Watched number done (r ∷ []) tail form = by_size (cases_lt (length r) (wanted spec done))
    where
      round : IsWatchedRound spec (length done + 1) r
      round = form.each (length done) r (slice_get-middle done r [])

      range : All (IsMeeting agents) r
      range = joined_middle Watched spec agents some_worker workers few done r [] form.meetings

      by_size : (length r < wanted spec done) ⊎ (wanted spec done ≤ length r) → lines_read Watched spec agents number (done, None) (round_lines (length done + 1) (r ∷ []) ++ codes "end" ∷ tail) ≡ Ok (done ++ r ∷ [], tail)
      by_size (inl short) = stopped_read number done r tail round range short
      by_size (inr full) =
          let most = round_most spec (length done + 1) r round in
          let all : length r ≡ spec.workers * turns_in spec (length done + 1) = omega (arith, full, most) in
          whole_read Watched spec agents some_worker workers few number done r [] tail (round_full spec (length done + 1) r round all) range
          (λ n. ap (λ (d : List (List Meeting)). Ok (let p : Parts = (d, tail) in p)) (sym (append-nil (done ++ r ∷ []))))

pub counts_next : (workers : ℕ) (ms : List Meeting) (m : Meeting) (old : List ℕ) (v : ℕ) → m.worker < length old → ((w d : ℕ) → w < workers → get_or old w d ≡ length (meetings_of w ms)) → v ≡ get_or old m.worker v → (w d : ℕ) → w < workers → get_or (set old m.worker (v + 1)) w d ≡ length (meetings_of w (ms ++ m ∷ []))
counts_next workers ms m old v within counts is w d l = by_worker (cases_eq m.worker w)
  where
    by_worker : (m.worker ≡ w) ⊎ (m.worker ≢ w) → get_or (set old m.worker (v + 1)) w d ≡ length (meetings_of w (ms ++ m ∷ []))
    by_worker (inl e) =
        let here : get_or (set old m.worker (v + 1)) w d ≡ v + 1 = ap (λ (u : ℕ). get_or (set old m.worker (v + 1)) u d) (sym e) ∙ get_or-set_same old m.worker (v + 1) d within in
        let was : v ≡ length (meetings_of w ms) = is ∙ ap (λ (u : ℕ). get_or old u v) e ∙ counts w v l in
        let more = own_last w m ms e in omega (arith, here, was, more)
    by_worker (inr e) = get_or-set_other old m.worker w (v + 1) d (λ g. e (sym g)) ∙ counts w d l ∙ sym (other_last w m ms e)
