-- What is read has the form in which it is written.
use Rattle.std.proofs.Common.{◌≡◌, ◌≢◌, ◌⊎◌, inl, inr, ℕ, ◌+◌, ◌<◌, ◌≤◌, ◌^◌, ◌==◌, ◌&&◌, Bool, true, false, not, nat_lt, List, [], ◌∷◌, ◌++◌, length, map, codes, decimal, Option, Some, None, Result, Ok, Err, All, refl, sym, ap, subst, ◌∙◌, arith, append_assoc, append-nil, if◌then◌else◌}
use Rattle.std.specs.Prelude.{option_and_then, option_map, slice_get}
use Rattle.std.specs.List.{join_with_byte}
use Rattle.std.specs.Str.{bytes_eq}
use Rattle.std.proofs.lemmas.Bool.{and_parts, ltb-true, eqb-true, eqb-false, cases_eq, not-true}
use Rattle.std.proofs.lemmas.Slice.Eq.{bytes_eq-Decides}
use Rattle.std.proofs.lemmas.List.{map-append, length-append}
use Rattle.std.proofs.lemmas.List.Splits.{join_with_byte-slice_split, length-slice_split}
use Rattle.std.proofs.lemmas.List.Elements.{All-nil, All-cons, All-append}
use Rattle.base_lines.specs.Lines.{pieces}
use Rattle.base_lines.specs.Numbers.{has_no_leading_zero, number_of, printed_number_of}
use Rattle.base_lines.proofs.Printed.{printed-number_of}
use Rattle.pop_crowd.specs.declared.crowd.Meeting.{Meeting}
use Rattle.pop_crowd.specs.Replay.{IsMeeting, AreMeetings}
use Rattle.run_spec.specs.declared.spec.RunSpec.{RunSpec}
use Rattle.run_spec.specs.declared.kind.RunKind.{RunKind}
use Rattle.run_spec.specs.declared.kind.RunKind.TheVariants.{Whole, Watched}
use Rattle.run_picks.specs.Run.{meetings_of, turns_in, joined, IsRound}
use Rattle.run_picks.specs.WatchedRun.{IsWatchedRound}
use Rattle.run_picks.proofs.Rounds.{get_pushed, joined_push}
use Rattle.run_picks.proofs.WholeWatched.{watched_round}
use Rattle.run_text.specs.declared.fault.JournalWhy.{JournalWhy}
use Rattle.run_text.specs.declared.fault.JournalWhy.TheVariants.{Form, Worker, Agents, Round}
use Rattle.run_text.specs.Journal.{round_line, meeting_line, round_lines}
use Rattle.pop_journal.specs.Rounds.{AreRounds, AreWatchedRounds, AreRoundsOf}
use Rattle.pop_journal.specs.declared.form.MeetingLine.{MeetingLine}
use Rattle.pop_journal.specs.Form.{at_the_end, three_numbers, told_words, told_in, Reading, all_rounds, wanted, settled, meeting_of, meeting_told, ends_inside, line_read, Parts, follow, lines_read}
use Rattle.run_text.proofs.Texts.{round_lines-push}
use Rattle.pop_journal.proofs.Spelled.{mark_words, joined_right}
use Rattle.pop_journal.proofs.Counts.{round_full}
use Rattle.pop_journal.proofs.Due.{own_last, other_last}
use Rattle.pop_journal.proofs.RunKinds.{of_whole}

-- numbers
printed_spelled : (text : List ℕ) (n : ℕ) → printed_number_of text ≡ Some n → n < 2 ^ 64 → text ≡ decimal n
printed_spelled text n is small = by_form (has_no_leading_zero text) refl
  where
    test : (b : Bool) (o : Option ℕ) → (if b then o else None) ≡ Some n → (b ≡ true) × (o ≡ Some n)
    test true o e = (refl, e)
    test false o e = absurd cc

    by_form : (b : Bool) → has_no_leading_zero text ≡ b → text ≡ decimal n
    by_form b e = let both = test (has_no_leading_zero text) (number_of text) is in printed-number_of text n both.0 both.1 small

-- the line with these numbers
abbrev pub line_of : (w a b : ℕ) → Bool → MeetingLine
line_of w a b mark = record { worker = w; first = a; second = b; changed = mark }

three_is : (o p q : Option ℕ) (m : Bool) (w a b : ℕ) (mark : Bool) → option_and_then (λ (x : ℕ). option_and_then (λ (y : ℕ). option_map (λ (z : ℕ). line_of x y z m) q) p) o ≡ Some (line_of w a b mark) → (o ≡ Some w) × (p ≡ Some a) × (q ≡ Some b) × (m ≡ mark)
three_is None p q m w a b mark e = absurd cc
three_is (Some x) None q m w a b mark e = absurd cc
three_is (Some x) (Some y) None m w a b mark e = absurd cc
three_is (Some x) (Some y) (Some z) m w a b mark e =
    let same : ◌≡◌ {A = MeetingLine} (line_of x y z m) (line_of w a b mark) = cc in
    (ap (λ (t : MeetingLine). Some t.worker) same, ap (λ (t : MeetingLine). Some t.first) same, ap (λ (t : MeetingLine). Some t.second) same, ap (λ (t : MeetingLine). t.changed) same)

three_spelled : (x y z : List ℕ) (m : Bool) (w a b : ℕ) (mark : Bool) → three_numbers x y z m ≡ Some (line_of w a b mark) → w < 2 ^ 64 → a < 2 ^ 64 → b < 2 ^ 64 → (x ≡ decimal w) × (y ≡ decimal a) × (z ≡ decimal b) × (m ≡ mark)
three_spelled x y z m w a b mark e lw la lb =
    let parts = three_is (printed_number_of x) (printed_number_of y) (printed_number_of z) m w a b mark e in
    (printed_spelled x w parts.0 lw, printed_spelled y a parts.1 la, printed_spelled z b parts.2 lb, parts.3)

words_spelled : (ws : List (List ℕ)) (w a b : ℕ) (mark : Bool) → told_words ws ≡ Some (line_of w a b mark) → w < 2 ^ 64 → a < 2 ^ 64 → b < 2 ^ 64 → ws ≡ decimal w ∷ decimal a ∷ decimal b ∷ mark_words mark
words_spelled [] w a b mark e lw la lb = absurd cc
words_spelled (x ∷ []) w a b mark e lw la lb = absurd cc
words_spelled (x ∷ y ∷ []) w a b mark e lw la lb = absurd cc
words_spelled (x ∷ y ∷ z ∷ []) w a b mark e lw la lb =
    let parts = three_spelled x y z false w a b mark e lw la lb in
    λ i. parts.0 i ∷ parts.1 i ∷ parts.2 i ∷ mark_words (parts.3 i)
words_spelled (x ∷ y ∷ z ∷ star ∷ []) w a b mark e lw la lb = by_star (bytes_eq star (codes "*")) refl
  where
    test : (t : Bool) (o : Option MeetingLine) → (if t then o else None) ≡ Some (line_of w a b mark) → (t ≡ true) × (o ≡ Some (line_of w a b mark))
    test true o h = (refl, h)
    test false o h = absurd cc

    by_star : (t : Bool) → bytes_eq star (codes "*") ≡ t → x ∷ y ∷ z ∷ star ∷ [] ≡ decimal w ∷ decimal a ∷ decimal b ∷ mark_words mark
    by_star t is =
        let both = test (bytes_eq star (codes "*")) (three_numbers x y z true) e in
        let parts = three_spelled x y z true w a b mark both.1 lw la lb in
        let same = (bytes_eq-Decides star (codes "*")).0 both.0 in
        ap (λ (s : List ℕ). x ∷ y ∷ z ∷ s ∷ []) same ∙ (λ i. parts.0 i ∷ parts.1 i ∷ parts.2 i ∷ mark_words (parts.3 i))
words_spelled (x ∷ y ∷ z ∷ star ∷ more ∷ rest) w a b mark e lw la lb = absurd cc

join_marked : (w a b : ℕ) (mark : Bool) → join_with_byte 32 (decimal w ∷ decimal a ∷ decimal b ∷ mark_words mark) ≡ decimal w ++ 32 ∷ (decimal a ++ 32 ∷ (decimal b ++ (if mark then codes " *" else [])))
join_marked w a b true = refl
join_marked w a b false = ap (λ (t : List ℕ). decimal w ++ 32 ∷ (decimal a ++ 32 ∷ t)) (sym (append-nil (decimal b)))

-- a line that is read as a meeting is its meeting line
pub told_spelled : (line : List ℕ) (w a b : ℕ) (mark : Bool) → told_in line ≡ Some (line_of w a b mark) → w < 2 ^ 64 → a < 2 ^ 64 → b < 2 ^ 64 → line ≡ meeting_line (record { worker = w; a = a; b = b; changed = mark })
unfolding told_in
told_spelled line w a b mark e lw la lb =
    sym (join_with_byte-slice_split 32 line) ∙ ap (join_with_byte 32) (words_spelled (pieces 32 line) w a b mark e lw la lb) ∙ join_marked w a b mark ∙ sym (joined_right (record { worker = w; a = a; b = b; changed = mark }))

-- the lines that were read
abbrev pub open_lines : ℕ → Option (List Meeting) → List (List ℕ)
open_lines k None = []
open_lines k (Some ms) = round_line k ∷ map meeting_line ms

abbrev pub told_lines : Reading → List (List ℕ)
told_lines reading = round_lines 1 reading.0 ++ open_lines (length reading.0 + 1) reading.1

module _ (kind : RunKind) (spec : RunSpec) (agents : ℕ) (workers : spec.workers ≤ 64) (few : agents < 2 ^ 32) where
  abbrev InRange : Meeting → Type 0
  InRange m = IsMeeting agents m

  abbrev Below : Meeting → Type 0
  Below m = m.worker < spec.workers

  -- meetings of a round that is open
  pub record IsOpen (k : ℕ) (ms : List Meeting) : Type 0 where
    pub round : IsWatchedRound spec k ms
    pub range : All InRange ms

  abbrev OpenFits : ℕ → Option (List Meeting) → Type 0
  OpenFits k None = Unit {0}
  OpenFits k (Some ms) = IsOpen k ms

  abbrev pub Fits : Reading → Type 0
  Fits reading = AreRounds spec agents reading.0 × OpenFits (length reading.0 + 1) reading.1

  one_more_round : (rounds : List (List Meeting)) (ms : List Meeting) → AreRounds spec agents rounds → IsOpen (length rounds + 1) ms → length ms ≡ wanted spec rounds → AreRounds spec agents (rounds ++ ms ∷ [])
  one_more_round rounds ms form h e =
      record {
        whole = λ k r g. by_place k r (get_pushed rounds ms r k g);
        meetings = subst (AreMeetings agents) (sym (joined_push rounds ms)) (All-append InRange (joined rounds) ms form.meetings h.range);
      }
    where
      by_place : (k : ℕ) (r : List Meeting) → (slice_get rounds k ≡ Some r) ⊎ ((k ≡ length rounds) × (ms ≡ r)) → IsRound spec (k + 1) r
      by_place k r (inl g) = form.whole k r g
      by_place k r (inr g) = subst (λ (t : ℕ × List Meeting). IsRound spec (t.0 + 1) t.1) (λ i. (sym g.0 i, g.1 i)) (round_full spec (length rounds + 1) ms h.round e)

  -- one more meeting
  settled_fits : (rounds : List (List Meeting)) (ms : List Meeting) → AreRounds spec agents rounds → IsOpen (length rounds + 1) ms → Fits (settled spec rounds ms) × (told_lines (settled spec rounds ms) ≡ told_lines (rounds, Some ms))
  settled_fits rounds ms form h = by_test (length ms == wanted spec rounds) refl
    where
      by_test : (t : Bool) → (length ms == wanted spec rounds) ≡ t → Fits (if t then (let r : Reading = (rounds ++ ms ∷ [], None) in r) else (rounds, Some ms)) × (told_lines (if t then (let r : Reading = (rounds ++ ms ∷ [], None) in r) else (rounds, Some ms)) ≡ told_lines (rounds, Some ms))
      by_test true e = (
        (one_more_round rounds ms form h (eqb-true (length ms) (wanted spec rounds) e), tt),
        append-nil (round_lines 1 (rounds ++ ms ∷ [])) ∙ round_lines-push 1 rounds ms ∙ ap (λ (k : ℕ). round_lines 1 rounds ++ (round_line k ∷ map meeting_line ms)) (let n : 1 + length rounds ≡ length rounds + 1 = omega arith in n),
      )
      by_test false e = ((form, h), refl)

  between_test : (e r s : Bool) (x next : Reading) → (let v : Result (Option Reading) JournalWhy = if e then Ok None else if r then if s then Err Round else Ok (Some x) else Err Form in v) ≡ Ok (Some next) → (r ≡ true) × (s ≡ false) × (x ≡ next)
  between_test true r s x next h = absurd cc
  between_test false false s x next h = absurd cc
  between_test false true true x next h = absurd cc
  between_test false true false x next h = (refl, refl, cc)

  meeting_test : (t u : Bool) (x next : Reading) → (let v : Result (Option Reading) JournalWhy = if t then if u then Ok (Some x) else Err Agents else Err Worker in v) ≡ Ok (Some next) → (t ≡ true) × (u ≡ true) × (x ≡ next)
  meeting_test false u x next h = absurd cc
  meeting_test true false x next h = absurd cc
  meeting_test true true x next h = (refl, refl, cc)

  no_meetings : (k : ℕ) → 1 ≤ turns_in spec k → IsOpen k []
  no_meetings k some = record { round = record { some_turn = some; each_worker = λ w l. omega arith; nobody_else = All-nil Below }; range = All-nil InRange }

  -- a further round
  round_fits : (rounds : List (List Meeting)) (line : List ℕ) (next : Reading) → AreRounds spec agents rounds → line_read kind spec agents (rounds, None) line ≡ Ok (Some next) → Fits next × (told_lines next ≡ told_lines (rounds, None) ++ line ∷ [])
  round_fits rounds line next form e =
      let k = length rounds + 1 in
      let opened : Reading = (rounds, Some []) in
      let told = between_test (bytes_eq line (codes "end")) (bytes_eq line (round_line k)) (turns_in spec k == 0) opened next e in
      let same = (bytes_eq-Decides line (round_line k)).0 told.0 in
      let zero : turns_in spec k ≡ 0 → ⊥ = eqb-false (turns_in spec k) 0 told.1 in
      let some : 1 ≤ turns_in spec k = omega (arith, zero) in
      subst (λ (n : Reading). Fits n × (told_lines n ≡ told_lines (rounds, None) ++ line ∷ [])) told.2
      ((form, no_meetings k some), ap (λ (l : List ℕ). round_lines 1 rounds ++ l ∷ []) (sym same) ∙ ap (λ (ls : List (List ℕ)). ls ++ line ∷ []) (sym (append-nil (round_lines 1 rounds))))

  -- one more meeting in an open round
  open_more : (k : ℕ) (ms : List Meeting) (m : Meeting) → IsOpen k ms → Below m → length (meetings_of m.worker ms) < turns_in spec k → InRange m → IsOpen k (ms ++ m ∷ [])
  open_more k ms m h below less range =
      record {
        round = record {
          some_turn = h.round.some_turn;
          each_worker = λ w l. by_worker w l (cases_eq m.worker w);
          nobody_else = All-append Below ms (m ∷ []) h.round.nobody_else (All-cons Below m [] below (All-nil Below));
        };
        range = All-append InRange ms (m ∷ []) h.range (All-cons InRange m [] range (All-nil InRange));
      }
    where
      by_worker : (w : ℕ) → w < spec.workers → (m.worker ≡ w) ⊎ (m.worker ≢ w) → length (meetings_of w (ms ++ m ∷ [])) ≤ turns_in spec k
      by_worker w l (inl e) =
          let longer = own_last w m ms e in
          let room : length (meetings_of w ms) < turns_in spec k = subst (λ (v : ℕ). length (meetings_of v ms) < turns_in spec k) e less in omega (arith, longer, room)
      by_worker w l (inr e) = let same = other_last w m ms e in let old = h.round.each_worker w l in omega (arith, same, old)

  meeting_fits : (rounds : List (List Meeting)) (ms : List Meeting) (line : List ℕ) (next : Reading) (o : Option MeetingLine) → told_in line ≡ o → AreRounds spec agents rounds → IsOpen (length rounds + 1) ms → meeting_told spec agents rounds ms o ≡ Ok (Some next) → Fits next × (told_lines next ≡ told_lines (rounds, Some ms) ++ line ∷ [])
  meeting_fits rounds ms line next None is form h e = absurd cc
  meeting_fits rounds ms line next (Some told) is form h e =
      let k = length rounds + 1 in
      let m = meeting_of told in
      let w = told.worker in
      let a = told.first in
      let b = told.second in
      let tests = meeting_test (nat_lt w spec.workers && nat_lt (length (meetings_of w ms)) (turns_in spec k)) (not (a == b) && (nat_lt a agents && nat_lt b agents)) (settled spec rounds (ms ++ m ∷ [])) next e in
      let turn = and_parts (nat_lt w spec.workers) (nat_lt (length (meetings_of w ms)) (turns_in spec k)) tests.0 in
      let apart = and_parts (not (a == b)) (nat_lt a agents && nat_lt b agents) tests.1 in
      let both = and_parts (nat_lt a agents) (nat_lt b agents) apart.1 in
      let below : w < spec.workers = ltb-true w spec.workers turn.0 in
      let la : a < agents = ltb-true a agents both.0 in
      let lb : b < agents = ltb-true b agents both.1 in
      let range : InRange m = record { different = eqb-false a b (not-true (a == b) apart.0); first = la; second = lb } in
      let more = open_more k ms m h below (ltb-true (length (meetings_of w ms)) (turns_in spec k) turn.1) range in
      let spelled = told_spelled line w a b told.changed is (omega (arith, below, workers)) (omega (arith, la, few)) (omega (arith, lb, few)) in
      let done = settled_fits rounds (ms ++ m ∷ []) form more in
      let lines : told_lines (rounds, Some (ms ++ m ∷ [])) ≡ told_lines (rounds, Some ms) ++ line ∷ [] =
      ap (λ (ls : List (List ℕ)). round_lines 1 rounds ++ (round_line k ∷ ls)) (map-append meeting_line ms (m ∷ []))
      ∙ sym (append_assoc (round_lines 1 rounds) (round_line k ∷ map meeting_line ms) (meeting_line m ∷ []))
      ∙ ap (λ (l : List ℕ). told_lines (rounds, Some ms) ++ l ∷ []) (sym spelled) in
      subst (λ (n : Reading). Fits n × (told_lines n ≡ told_lines (rounds, Some ms) ++ line ∷ [])) tests.2 (done.0, done.1 ∙ lines)

  -- a line that isn't `end` inside a round
  goes_on_test : (b : Bool) (r : Result (Option Reading) JournalWhy) (next : Reading) → (let v : Result (Option Reading) JournalWhy = if b then Ok None else r in v) ≡ Ok (Some next) → r ≡ Ok (Some next)
  goes_on_test true r next e = absurd cc
  goes_on_test false r next e = e

  stops_test : (b : Bool) (r : Result (Option Reading) JournalWhy) → (let v : Result (Option Reading) JournalWhy = if b then Ok None else r in v) ≡ Ok None → (r ≡ Ok None → ⊥) → b ≡ true
  stops_test true r e none = refl
  stops_test false r e none = absurd (none e)

  line_fits : (rounds : List (List Meeting)) (open' : Option (List Meeting)) (line : List ℕ) (next : Reading) → Fits (rounds, open') → line_read kind spec agents (rounds, open') line ≡ Ok (Some next) → Fits next × (told_lines next ≡ told_lines (rounds, open') ++ line ∷ [])
  line_fits rounds None line next fits e = round_fits rounds line next fits.0 e
  line_fits rounds (Some ms) line next fits e =
      meeting_fits rounds ms line next (told_in line) refl fits.0 fits.1 (goes_on_test (ends_inside kind line) (meeting_told spec agents rounds ms (told_in line)) next e)

  end_test : (e r s : Bool) (x : Reading) → (let v : Result (Option Reading) JournalWhy = if e then Ok None else if r then if s then Err Round else Ok (Some x) else Err Form in v) ≡ Ok None → e ≡ true
  end_test true r s x h = refl
  end_test false false s x h = absurd cc
  end_test false true true x h = absurd cc
  end_test false true false x h = absurd cc

  no_end : (t u : Bool) (x : Reading) → (let v : Result (Option Reading) JournalWhy = if t then if u then Ok (Some x) else Err Agents else Err Worker in v) ≡ Ok None → ⊥
  no_end false u x h = absurd cc
  no_end true false x h = absurd cc
  no_end true true x h = absurd cc

  no_end_in : (rounds : List (List Meeting)) (ms : List Meeting) (o : Option MeetingLine) → meeting_told spec agents rounds ms o ≡ Ok None → ⊥
  no_end_in rounds ms None e = absurd cc
  no_end_in rounds ms (Some told) e = no_end _ _ _ e

  -- a last round that lacks meetings
  stopped : (rounds : List (List Meeting)) (ms : List Meeting) → AreRounds spec agents rounds → IsOpen (length rounds + 1) ms → AreWatchedRounds spec agents (rounds ++ ms ∷ [])
  stopped rounds ms form h =
      record {
        each = λ k r g. by_place k r (get_pushed rounds ms r k g);
        whole = λ k r l g. by_whole k r l (get_pushed rounds ms r k g);
        meetings = subst (AreMeetings agents) (sym (joined_push rounds ms)) (All-append InRange (joined rounds) ms form.meetings h.range);
      }
    where
      by_place : (k : ℕ) (r : List Meeting) → (slice_get rounds k ≡ Some r) ⊎ ((k ≡ length rounds) × (ms ≡ r)) → IsWatchedRound spec (k + 1) r
      by_place k r (inl g) = watched_round spec (k + 1) r (form.whole k r g)
      by_place k r (inr g) = subst (λ (t : ℕ × List Meeting). IsWatchedRound spec (t.0 + 1) t.1) (λ i. (sym g.0 i, g.1 i)) h.round

      by_whole : (k : ℕ) (r : List Meeting) → k + 1 < length (rounds ++ ms ∷ []) → (slice_get rounds k ≡ Some r) ⊎ ((k ≡ length rounds) × (ms ≡ r)) → IsRound spec (k + 1) r
      by_whole k r l (inl g) = form.whole k r g
      by_whole k r l (inr g) = let last = g.0 in absurd (omega (arith, l, last, length-append rounds (ms ∷ [])))

  abbrev EndsOpen : RunKind → List (List Meeting) → List Meeting → List ℕ → Type 0
  EndsOpen k rounds ms line = (line ≡ codes "end") × AreRoundsOf k spec agents (rounds ++ ms ∷ [])

  line_ends_open : (k : RunKind) (rounds : List (List Meeting)) (ms : List Meeting) (line : List ℕ) → AreRounds spec agents rounds → IsOpen (length rounds + 1) ms → line_read k spec agents (rounds, Some ms) line ≡ Ok None → EndsOpen k rounds ms line
  line_ends_open Whole rounds ms line form h e = absurd (no_end_in rounds ms (told_in line) e)
  line_ends_open Watched rounds ms line form h e = (
    (bytes_eq-Decides line (codes "end")).0 (stops_test (bytes_eq line (codes "end")) (meeting_told spec agents rounds ms (told_in line)) e (λ n. no_end_in rounds ms (told_in line) n)),
    stopped rounds ms form h,
  )

  -- `end`, and the rounds up to it
  line_ends : (rounds : List (List Meeting)) (open' : Option (List Meeting)) (line : List ℕ) → Fits (rounds, open') → line_read kind spec agents (rounds, open') line ≡ Ok None
      → (line ≡ codes "end") × (told_lines (rounds, open') ≡ round_lines 1 (all_rounds (rounds, open'))) × AreRoundsOf kind spec agents (all_rounds (rounds, open'))
  line_ends rounds None line fits e =
      let opened : Reading = (rounds, Some []) in (
        (bytes_eq-Decides line (codes "end")).0 (end_test (bytes_eq line (codes "end")) (bytes_eq line (round_line (length rounds + 1))) (turns_in spec (length rounds + 1) == 0) opened e),
        append-nil (round_lines 1 rounds),
        of_whole spec agents rounds kind fits.0,
      )
  line_ends rounds (Some ms) line fits e =
      let ends = line_ends_open kind rounds ms line fits.0 fits.1 e in (
        ends.0,
        ap (λ (k : ℕ). round_lines 1 rounds ++ (round_line k ∷ map meeting_line ms)) (let n : length rounds + 1 ≡ 1 + length rounds = omega arith in n) ∙ sym (round_lines-push 1 rounds ms),
        ends.1,
      )

  -- what is read is the rounds' lines, `end` and the tail, and the rounds are well-formed
  abbrev Spelled : Reading → List (List ℕ) → Parts → Type 0
  Spelled reading lines parts = (told_lines reading ++ lines ≡ round_lines 1 parts.0 ++ codes "end" ∷ parts.1) × AreRoundsOf kind spec agents parts.0

  by_step : (number : ℕ) (reading : Reading) (line : List ℕ) (lines : List (List ℕ)) (parts : Parts) (s : Result (Option Reading) JournalWhy) → line_read kind spec agents reading line ≡ s → Fits reading
      → ((next : Reading) → Fits next → lines_read kind spec agents (number + 1) next lines ≡ Ok parts → Spelled next lines parts)
      → follow number (all_rounds reading, lines) (λ next. lines_read kind spec agents (number + 1) next lines) s ≡ Ok parts → Spelled reading (line ∷ lines) parts
  by_step number reading line lines parts (Err why) is fits on e = absurd cc
  by_step number reading line lines parts (Ok None) is fits on e =
      let ends = line_ends reading.0 reading.1 line fits is in
      let same : ◌≡◌ {A = Parts} (all_rounds reading, lines) parts = cc in
      subst (λ (p : Parts). Spelled reading (line ∷ lines) p) same
      (ap (λ (ls : List (List ℕ)). ls ++ line ∷ lines) ends.1 ∙ ap (λ (l : List ℕ). round_lines 1 (all_rounds reading) ++ l ∷ lines) ends.0, ends.2)
  by_step number reading line lines parts (Ok (Some next)) is fits on e =
      let more = line_fits reading.0 reading.1 line next fits is in
      let rest = on next more.0 e in
      (sym (append_assoc (told_lines reading) (line ∷ []) lines) ∙ ap (λ (ls : List (List ℕ)). ls ++ lines) (sym more.1) ∙ rest.0, rest.1)

  pub read_spelled : (number : ℕ) (reading : Reading) (lines : List (List ℕ)) (parts : Parts) → Fits reading → lines_read kind spec agents number reading lines ≡ Ok parts → Spelled reading lines parts
  read_spelled number reading [] parts fits e = absurd cc
  read_spelled number reading (line ∷ lines) parts fits e =
      by_step number reading line lines parts (line_read kind spec agents reading line) refl fits (λ next more h. read_spelled (number + 1) next lines parts more h) e

told_more : (w a b s : List ℕ) (ps : List (List ℕ)) → 0 < length ps → told_words (w ∷ a ∷ b ∷ s ∷ ps) ≡ None
told_more w a b s [] some = absurd (omega (arith, some))
told_more w a b s (p ∷ ps) some = refl

-- a fifth word
pub told_five : (w a b s rest : List ℕ) → told_words (w ∷ a ∷ b ∷ s ∷ pieces 32 rest) ≡ None
told_five w a b s rest = told_more w a b s (pieces 32 rest) (let l = length-slice_split (λ c. c == 32) rest in omega (arith, l))

end_more : (spec : RunSpec) (ps : List (List ℕ)) → 0 < length ps → at_the_end spec ps ≡ None
end_more spec [] some = absurd (omega (arith, some))
end_more spec (p ∷ ps) some = refl

-- words after the last number
pub no_end_before : (spec : RunSpec) (rest : List ℕ) → at_the_end spec (pieces 32 rest) ≡ None
no_end_before spec rest = end_more spec (pieces 32 rest) (let l = length-slice_split (λ c. c == 32) rest in omega (arith, l))

-- `end` is not read as a meeting
end_untold : told_in (codes "end") ≡ None
unfolding told_in
end_untold = refl

-- a line that is read as a meeting isn't `end`
pub told_no_end : (kind : RunKind) (line : List ℕ) (told : MeetingLine) → told_in line ≡ Some told → ends_inside kind line ≡ false
told_no_end Whole line told is = refl
told_no_end Watched line told is = by_test (bytes_eq line (codes "end")) refl
  where
    by_test : (b : Bool) → bytes_eq line (codes "end") ≡ b → bytes_eq line (codes "end") ≡ false
    by_test false e = e
    by_test true e = absurd (let both : Some told ≡ None = sym is ∙ ap told_in ((bytes_eq-Decides line (codes "end")).0 e) ∙ end_untold in cc)
