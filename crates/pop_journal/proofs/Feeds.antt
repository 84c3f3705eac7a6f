-- Lines that are ended by line feeds, and split again.
use Rattle.std.proofs.Common.{◌≡◌, ℕ, ◌+◌, ◌≤◌, ◌^◌, Bool, true, false, List, [], ◌∷◌, ◌++◌, length, map, codes, decimal, All, refl, ap, ◌∙◌, arith, append_assoc, if◌then◌else◌}
use Rattle.std.proofs.lemmas.List.Elements.{All-head, All-tail}
use Rattle.base_lines.specs.Lines.{lines_of, ended}
use Rattle.base_lines.proofs.Unbroken.{IsUnbroken, line_first, both_unbroken, decimal_unbroken}
use Rattle.pop_crowd.specs.declared.crowd.Meeting.{Meeting}
use Rattle.run_spec.specs.declared.spec.RunSpec.{RunSpec}
use Rattle.run_spec.specs.declared.kind.RunKind.{RunKind}
use Rattle.run_spec.specs.declared.kind.RunKind.TheVariants.{Whole, Watched}
use Rattle.run_spec.specs.Kinds.{kind_word}
use Rattle.run_spec.specs.RunLimits.{IsWithinLimits}
use Rattle.run_picks.specs.Run.{joined}
use Rattle.run_text.specs.Journal.{run_line, round_line, meeting_line, round_lines, run_lines, text_of}
use Rattle.pop_journal.proofs.Spelled.{IsSmall, mark_of}
use Rattle.pop_journal.proofs.Holds.{all_parts}

abbrev pub AreUnbroken : List (List ℕ) → Type 0
AreUnbroken [] = Unit {0}
AreUnbroken (line ∷ lines) = IsUnbroken line × AreUnbroken lines

-- the lines of a text are those that it was made of
pub lines_text : (lines : List (List ℕ)) (rest : List ℕ) → AreUnbroken lines → lines_of (text_of lines ++ rest) ≡ lines ++ lines_of rest
lines_text [] rest all = refl
lines_text (line ∷ lines) rest all =
    ap lines_of (append_assoc (ended line) (text_of lines) rest)
    ∙ line_first line (text_of lines ++ rest) all.0 ∙ ap (λ (ls : List (List ℕ)). line ∷ ls) (lines_text lines rest all.1)

pub unbroken_append : (xs ys : List (List ℕ)) → AreUnbroken xs → AreUnbroken ys → AreUnbroken (xs ++ ys)
unbroken_append [] ys all more = more
unbroken_append (x ∷ xs) ys all more = (all.0, unbroken_append xs ys all.1 more)

mark_unbroken : (mark : Bool) → IsUnbroken (if mark then codes " *" else [])
mark_unbroken true = refl
mark_unbroken false = refl

pub meeting_unbroken : (m : Meeting) → IsSmall m → IsUnbroken (meeting_line m)
meeting_unbroken m small =
    both_unbroken (decimal m.worker ++ (codes " " ++ decimal m.a) ++ (codes " " ++ decimal m.b)) (mark_of m)
    (both_unbroken (decimal m.worker ++ (codes " " ++ decimal m.a)) (codes " " ++ decimal m.b)
    (both_unbroken (decimal m.worker) (codes " " ++ decimal m.a) (decimal_unbroken m.worker small.worker) (decimal_unbroken m.a small.a))
    (decimal_unbroken m.b small.b))
    (mark_unbroken m.changed)

meetings_unbroken : (ms : List Meeting) → All IsSmall ms → AreUnbroken (map meeting_line ms)
meetings_unbroken [] all = tt
meetings_unbroken (m ∷ ms) all = (meeting_unbroken m (All-head IsSmall m ms all), meetings_unbroken ms (All-tail IsSmall m ms all))

rounds_unbroken : (k : ℕ) (rounds : List (List Meeting)) → k + length rounds ≤ 2 ^ 63 → All IsSmall (joined rounds) → AreUnbroken (round_lines k rounds)
rounds_unbroken k [] few all = tt
rounds_unbroken k (r ∷ rounds) few all =
    let parts = all_parts IsSmall r (joined rounds) all in
    unbroken_append (round_line k ∷ map meeting_line r) (round_lines (k + 1) rounds)
    (decimal_unbroken k (omega (arith, few)), meetings_unbroken r parts.0)
    (rounds_unbroken (k + 1) rounds (omega (arith, few)) parts.1)

first_unbroken : (kind : RunKind) → IsUnbroken (kind_word kind ++ codes " workers ")
first_unbroken Whole = refl
first_unbroken Watched = refl

run_unbroken : (kind : RunKind) (spec : RunSpec) → IsWithinLimits spec → IsUnbroken (run_line kind spec)
run_unbroken kind spec limits =
    let first : List ℕ = kind_word kind ++ codes " workers " in
    both_unbroken ((first ++ decimal spec.workers) ++ (codes " shards " ++ decimal spec.shards) ++ (codes " turns " ++ decimal spec.turns)) (codes " seed " ++ decimal spec.seed)
    (both_unbroken ((first ++ decimal spec.workers) ++ (codes " shards " ++ decimal spec.shards)) (codes " turns " ++ decimal spec.turns)
    (both_unbroken (first ++ decimal spec.workers) (codes " shards " ++ decimal spec.shards)
    (both_unbroken first (decimal spec.workers) (first_unbroken kind) (decimal_unbroken spec.workers (omega (arith, limits.workers.1)))) (decimal_unbroken spec.shards (omega (arith, limits.shards.1))))
    (decimal_unbroken spec.turns (omega (arith, limits.turns))))
    (decimal_unbroken spec.seed (omega (arith, limits.seed)))

-- the lines up to `end`
pub lines_unbroken : (kind : RunKind) (spec : RunSpec) (rounds : List (List Meeting)) → IsWithinLimits spec → length rounds ≤ 2 ^ 62 → All IsSmall (joined rounds) → AreUnbroken (run_lines kind spec rounds)
lines_unbroken kind spec rounds limits few all =
    unbroken_append (run_line kind spec ∷ round_lines 1 rounds) (codes "end" ∷ [])
    (run_unbroken kind spec limits, rounds_unbroken 1 rounds (omega (arith, few)) all) (refl, tt)
