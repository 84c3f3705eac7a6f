-- Texts that are written piece by piece.
use Rattle.std.proofs.Common.{◌≡◌, ℕ, suc, ◌+◌, ◌<◌, List, [], ◌∷◌, ◌++◌, length, map, take, get_or, codes, sym, ap, ◌∙◌, arith, append_assoc, append-nil, length-take}
use Rattle.std.specs.Prelude.{Result, Ok, Err, is_ok, OnOk, if◌then◌else◌}
use Rattle.std.proofs.lemmas.Grind.{flat_map-append}
use Rattle.std.proofs.lemmas.List.{map-append, take_more}
use Rattle.base_lines.specs.Lines.{ended}
use Rattle.pop_leaf.specs.NetModel.{NetModel, CrowdModel}
use Rattle.pop_crowd.specs.declared.crowd.Meeting.{Meeting}
use Rattle.pop_crowd.specs.Tally.{crowd_lines}
use Rattle.run_spec.specs.declared.kind.RunKind.{RunKind}
use Rattle.run_spec.specs.declared.spec.RunSpec.{RunSpec}
use Rattle.run_text.specs.declared.last.Last.{Last}
use Rattle.run_text.specs.Journal.{run_line, round_line, meeting_line, round_lines, run_lines, last_line, text_of, journal_text}

-- what was written if nothing failed
pub where_ok : {T E : Type 0} (r : Result T E) (new whole old : List ℕ) → new ≡ (if is_ok r then whole else old) → OnOk r (new ≡ whole)
where_ok (Ok x) new whole old e = e
where_ok (Err x) new whole old e = tt

-- pieces that were added one after the other
pub three_pieces : (old a b c : List ℕ) → old ++ a ++ b ++ c ≡ old ++ (a ++ b ++ c)
three_pieces old a b c = ap (λ t. t ++ c) (append_assoc old a b) ∙ append_assoc old (a ++ b) c

pub five_pieces : (old a b c d e : List ℕ) → old ++ a ++ b ++ c ++ d ++ e ≡ old ++ (a ++ b ++ c ++ d ++ e)
five_pieces old a b c d e =
    ap (λ t. t ++ d ++ e) (three_pieces old a b c) ∙ ap (λ t. t ++ e) (append_assoc old (a ++ b ++ c) d) ∙ append_assoc old (a ++ b ++ c ++ d) e

pub after_five : (t0 t1 t2 t3 t4 new a b c d e : List ℕ) → t1 ≡ t0 ++ a → t2 ≡ t1 ++ b → t3 ≡ t2 ++ c → t4 ≡ t3 ++ d → new ≡ t4 ++ e → new ≡ t0 ++ (a ++ b ++ c ++ d ++ e)
after_five t0 t1 t2 t3 t4 new a b c d e first second third fourth fifth = rw (fifth, fourth, third, second, first) (five_pieces t0 a b c d e)

-- one more meeting
pub next_meeting : (old : List ℕ) (meetings : List Meeting) (i : ℕ) (d : Meeting) → i < length meetings
    → (old ++ text_of (map meeting_line (take i meetings))) ++ ended (meeting_line (get_or meetings i d)) ≡ old ++ text_of (map meeting_line (take (i + 1) meetings))
next_meeting old meetings i d less =
    append_assoc old (text_of (map meeting_line (take i meetings))) (ended (meeting_line (get_or meetings i d)))
    ∙ ap (λ t. old ++ (text_of (map meeting_line (take i meetings)) ++ t)) (sym (append-nil (ended (meeting_line (get_or meetings i d)))))
    ∙ ap (λ t. old ++ t)
    (sym (ap (λ ms. text_of (map meeting_line ms)) (take_more meetings i d less)
    ∙ ap text_of (map-append meeting_line (take i meetings) (get_or meetings i d ∷ []))
    ∙ flat_map-append ended (map meeting_line (take i meetings)) (meeting_line (get_or meetings i d) ∷ [])))

pub round_lines-push : (k : ℕ) (rounds : List (List Meeting)) (meetings : List Meeting) → round_lines k (rounds ++ meetings ∷ []) ≡ round_lines k rounds ++ (round_line (k + length rounds) ∷ map meeting_line meetings)
round_lines-push k [] meetings =
    append-nil (round_line k ∷ map meeting_line meetings) ∙ ap (λ n. round_line n ∷ map meeting_line meetings) (let e : k ≡ k + 0 = omega arith in e)
round_lines-push k (first ∷ rounds) meetings =
    ap (λ ls. (round_line k ∷ map meeting_line first) ++ ls) (round_lines-push (k + 1) rounds meetings)
    ∙ sym (append_assoc (round_line k ∷ map meeting_line first) (round_lines (k + 1) rounds) (round_line (k + 1 + length rounds) ∷ map meeting_line meetings))
    ∙ ap (λ n. round_lines k (first ∷ rounds) ++ (round_line n ∷ map meeting_line meetings)) (let e : k + 1 + length rounds ≡ k + suc (length rounds) = omega arith in e)

-- the rounds before, and the lines of one more
pub round_pushed : (old : List ℕ) (rounds : List (List Meeting)) (number : ℕ) (meetings : List Meeting) (t0 t1 : List ℕ) → number ≡ length rounds + 1 → t0 ≡ old ++ text_of (round_lines 1 rounds)
    → t1 ≡ t0 ++ text_of (round_line number ∷ map meeting_line meetings) → t1 ≡ old ++ text_of (round_lines 1 (rounds ++ meetings ∷ []))
round_pushed old rounds number meetings t0 t1 is so_far added =
    let lines = λ (n : ℕ). round_line n ∷ map meeting_line meetings in
    let counted : number ≡ 1 + length rounds = omega (arith, is) in
    added ∙ ap (λ (t : List ℕ). t ++ text_of (lines number)) so_far ∙ append_assoc old (text_of (round_lines 1 rounds)) (text_of (lines number))
    ∙ ap (λ (t : List ℕ). old ++ t)
    (sym (flat_map-append ended (round_lines 1 rounds) (lines number)) ∙ ap text_of (ap (λ n. round_lines 1 rounds ++ lines n) counted ∙ sym (round_lines-push 1 rounds meetings)))

pub round_added : (old : List ℕ) (rounds : List (List Meeting)) (i : ℕ) (meetings : List Meeting) (t0 t1 : List ℕ) → i < length rounds → meetings ≡ get_or rounds i meetings → t0 ≡ old ++ text_of (round_lines 1 (take i rounds))
    → t1 ≡ t0 ++ text_of (round_line (i + 1) ∷ map meeting_line meetings) → t1 ≡ old ++ text_of (round_lines 1 (take (i + 1) rounds))
round_added old rounds i meetings t0 t1 less is so_far added =
    round_pushed old (take i rounds) (i + 1) meetings t0 t1 (omega (arith, length-take i rounds, less)) so_far added
    ∙ ap (λ (rs : List (List Meeting)). old ++ text_of (round_lines 1 rs)) (ap (λ (m : List Meeting). take i rounds ++ m ∷ []) is ∙ sym (take_more rounds i meetings less))

-- the lines up to `end`, in three pieces
pub run_text : (kind : RunKind) (spec : RunSpec) (rounds : List (List Meeting)) → ended (run_line kind spec) ++ text_of (round_lines 1 rounds) ++ codes "end\n" ≡ text_of (run_lines kind spec rounds)
run_text kind spec rounds =
    ap (λ (t : List ℕ). ended (run_line kind spec) ++ text_of (round_lines 1 rounds) ++ t) (sym (append-nil (codes "end\n")))
    ∙ sym (flat_map-append ended (run_line kind spec ∷ round_lines 1 rounds) (codes "end" ∷ []))

-- the lines up to `end`, and those after it
pub journal_ended : (kind : RunKind) (net : NetModel) (spec : RunSpec) (rounds : List (List Meeting)) (crowd : CrowdModel) (last : Last) (old text new : List ℕ) → text ≡ old ++ text_of (run_lines kind spec rounds) → new ≡ text ++ (crowd_lines net crowd ++ ended (last_line last))
    → new ≡ old ++ journal_text kind net spec rounds crowd last
journal_ended kind net spec rounds crowd last old text new begin end =
    let a = text_of (run_lines kind spec rounds) in
    let b = crowd_lines net crowd in
    let c = ended (last_line last) in
    end ∙ ap (λ (t : List ℕ). t ++ (b ++ c)) begin ∙ append_assoc old a (b ++ c) ∙ ap (λ (t : List ℕ). old ++ t) (sym (append_assoc a b c))

-- a journal after earlier text
pub journal_written : (kind : RunKind) (net : NetModel) (spec : RunSpec) (rounds : List (List Meeting)) (crowd : CrowdModel) (last : Last) (old t0 t1 t2 new : List ℕ) → t0 ≡ old ++ ended (run_line kind spec) → t1 ≡ t0 ++ text_of (round_lines 1 rounds)
    → t2 ≡ t1 ++ codes "end\n" → new ≡ t2 ++ (crowd_lines net crowd ++ ended (last_line last)) → new ≡ old ++ journal_text kind net spec rounds crowd last
journal_written kind net spec rounds crowd last old t0 t1 t2 new first second third fourth =
    let a = ended (run_line kind spec) in
    let b = text_of (round_lines 1 rounds) in
    let c = crowd_lines net crowd in
    let d = ended (last_line last) in
    let begin : t2 ≡ old ++ text_of (run_lines kind spec rounds) =
    third ∙ ap (λ (t : List ℕ). t ++ codes "end\n") (second ∙ ap (λ (t : List ℕ). t ++ b) first) ∙ three_pieces old a b (codes "end\n") ∙ ap (λ (t : List ℕ). old ++ t) (run_text kind spec rounds) in
    journal_ended kind net spec rounds crowd last old t2 new begin fourth

-- one more meeting, on a page after a text
pub meeting_placed : (old text room page next : List ℕ) (meetings : List Meeting) (i : ℕ) (d : Meeting) (end at to : ℕ) → i < length meetings
    → text ++ take end page ≡ old ++ text_of (map meeting_line (take i meetings)) → room ++ take at page ≡ text ++ take end page
    → take to next ≡ take at page ++ ended (meeting_line (get_or meetings i d)) → room ++ take to next ≡ old ++ text_of (map meeting_line (take (i + 1) meetings))
meeting_placed old text room page next meetings i d end at to less so_far same front =
    let line = ended (meeting_line (get_or meetings i d)) in
    ap (λ (t : List ℕ). room ++ t) front ∙ sym (append_assoc room (take at page) line) ∙ ap (λ (t : List ℕ). t ++ line) (same ∙ so_far) ∙ next_meeting old meetings i d less
