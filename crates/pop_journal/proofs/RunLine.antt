-- The first line of a journal, as it is written and as it is read.
use Rattle.std.proofs.Common.{◌≡◌, ℕ, ◌*◌, ◌<◌, ◌≤◌, ◌^◌, ◌==◌, ◌&&◌, Bool, true, false, nat_le, List, [], ◌∷◌, ◌++◌, codes, decimal, Option, Some, None, refl, sym, ap, subst, ◌∙◌, arith, append_assoc, if◌then◌else◌}
use Rattle.std.specs.Prelude.{option_and_then, option_map}
use Rattle.std.specs.List.{join_with_byte}
use Rattle.std.specs.Str.{bytes_eq}
use Rattle.std.proofs.lemmas.Bool.{le-leb, leb-true, cond-true, and_from, and_parts}
use Rattle.std.proofs.lemmas.Slice.Eq.{bytes_eq-Decides}
use Rattle.std.proofs.lemmas.List.Splits.{join_with_byte-slice_split, slice_split_at, slice_split_none}
use Rattle.pop_io.specs.declared.gate.TheConstants.{SHARD_LIMIT}
use Rattle.base_lines.specs.Lines.{pieces}
use Rattle.base_lines.specs.Numbers.{has_no_leading_zero, number_of, number_of_within, printed_number_of_within}
use Rattle.base_lines.proofs.Printed.{printed-number_of, printed_number_of-decimal}
use Rattle.run_spec.specs.declared.spec.TheConstants.{TURN_LIMIT, MEETING_LIMIT, SEED_LIMIT}
use Rattle.run_spec.specs.declared.spec.RunSpec.{RunSpec}
use Rattle.run_spec.specs.declared.kind.RunKind.{RunKind}
use Rattle.run_spec.specs.declared.kind.RunKind.TheVariants.{Whole, Watched}
use Rattle.run_spec.specs.Kinds.{kind_word, most_workers_of}
use Rattle.run_spec.specs.RunLimits.{IsWithinLimits}
use Rattle.run_text.specs.Journal.{run_line}
use Rattle.pop_journal.specs.Form.{number_named, at_the_end, spec_words, spec_in}
use Rattle.pop_journal.proofs.RunKinds.{few_workers}
use Rattle.pop_journal.proofs.Spelled.{decimal_no_space}
use Rattle.base_laws.proofs.Options.{some_before}

abbrev space : ℕ → Bool
space b = b == 32

-- the words after `workers`
abbrev numbers_of : RunSpec → List (List ℕ)
numbers_of spec =
    decimal spec.workers ∷ codes "shards" ∷ decimal spec.shards ∷ codes "turns" ∷ decimal spec.turns ∷ codes "seed" ∷ decimal spec.seed ∷ []

abbrev words_of : RunKind → RunSpec → List (List ℕ)
words_of kind spec = kind_word kind ∷ codes "workers" ∷ numbers_of spec

-- the line is its words, with a space between any two
run_right : (kind : RunKind) (spec : RunSpec) → run_line kind spec ≡ join_with_byte 32 (words_of kind spec)
run_right kind spec =
    let w : List ℕ = kind_word kind ++ codes " workers " ++ decimal spec.workers in
    let s : List ℕ = codes " shards " ++ decimal spec.shards in
    let t : List ℕ = codes " turns " ++ decimal spec.turns in
    let n : List ℕ = codes " seed " ++ decimal spec.seed in
    append_assoc (w ++ s) t n
    ∙ append_assoc w s (t ++ n)
    ∙ append_assoc (kind_word kind ++ codes " workers ") (decimal spec.workers) (s ++ (t ++ n))
    ∙ append_assoc (kind_word kind) (codes " workers ") (decimal spec.workers ++ (s ++ (t ++ n)))

pub test : {A : Type 0} (b : Bool) (o : Option A) (y : A) → (if b then o else None) ≡ Some y → (b ≡ true) × (o ≡ Some y)
test true o y e = (refl, e)
test false o y e = absurd cc

abbrev Between : ℕ → ℕ → ℕ → Type 0
Between least most n = (least ≤ n) × (n ≤ most)

bounded : (least most : ℕ) (o : Option ℕ) (n : ℕ) → option_and_then (λ (m : ℕ). if nat_le least m && nat_le m most then Some m else None) o ≡ Some n → (o ≡ Some n) × Between least most n
bounded least most None n e = absurd cc
bounded least most (Some v) n e =
    let both = test (nat_le least v && nat_le v most) (Some v) n e in
    let same : v ≡ n = (let some : Some v ≡ Some n = both.1 in cc) in
    let parts = and_parts (nat_le least v) (nat_le v most) both.0 in
    (both.1, subst (Between least most) same (leb-true least v parts.0, leb-true v most parts.1))

-- a number that was read is within its limits
pub printed_between : (least most : ℕ) (digits : List ℕ) (n : ℕ) → printed_number_of_within least most digits ≡ Some n → Between least most n
printed_between least most digits n e =
    (bounded least most (number_of digits) n (test (has_no_leading_zero digits) (number_of_within least most digits) n e).1).1

printed_is : (least most : ℕ) (digits : List ℕ) (n : ℕ) → most < 2 ^ 64 → printed_number_of_within least most digits ≡ Some n → (digits ≡ decimal n) × Between least most n
printed_is least most digits n small e =
    let form = test (has_no_leading_zero digits) (number_of_within least most digits) n e in
    let value = bounded least most (number_of digits) n form.1 in
    (printed-number_of digits n form.0 value.0 (omega (arith, value.1.1, small)), value.1)

abbrev Named : Type 0
Named = ℕ × List (List ℕ)

mapped : (o : Option ℕ) (rest : List (List ℕ)) (n : ℕ) (more : List (List ℕ)) → option_map (λ (m : ℕ). let t : Named = (m, rest) in t) o ≡ Some (n, more) → (o ≡ Some n) × (rest ≡ more)
mapped None rest n more e = absurd cc
mapped (Some m) rest n more e = let same : ◌≡◌ {A = Named} (m, rest) (n, more) = cc in (ap (λ (t : Named). Some t.0) same, ap (λ (t : Named). t.1) same)

-- a number after its name
named_is : (name : List ℕ) (least most : ℕ) (words : List (List ℕ)) (n : ℕ) (more : List (List ℕ)) → most < 2 ^ 64 → number_named name least most words ≡ Some (n, more) → (words ≡ name ∷ decimal n ∷ more) × Between least most n
named_is name least most [] n more small e = absurd cc
named_is name least most (word ∷ []) n more small e =
    absurd (let none : None ≡ Some (n, more) = (test (bytes_eq word name) None (n, more) e).1 in cc)
named_is name least most (word ∷ digits ∷ rest) n more small e =
    let both = test (bytes_eq word name) (option_map (λ (m : ℕ). let t : Named = (m, rest) in t) (printed_number_of_within least most digits)) (n, more) e in
    let found = mapped (printed_number_of_within least most digits) rest n more both.1 in
    let printed = printed_is least most digits n small found.0 in
    let first = (bytes_eq-Decides word name).0 both.0 in (
      ap (λ (w : List ℕ). w ∷ digits ∷ rest) first ∙ ap (λ (d : List ℕ). name ∷ d ∷ rest) printed.0 ∙ ap (λ (ws : List (List ℕ)). name ∷ decimal n ∷ ws) found.1,
      printed.1,
    )

end_is : (spec spec' : RunSpec) (words : List (List ℕ)) → at_the_end spec words ≡ Some spec' → (words ≡ []) × (spec ≡ spec') × (spec.workers * spec.turns ≤ MEETING_LIMIT)
end_is spec spec' [] e =
    let both = test (nat_le (spec.workers * spec.turns) MEETING_LIMIT) (Some spec) spec' e in
    (refl, (let same : Some spec ≡ Some spec' = both.1 in cc), leb-true (spec.workers * spec.turns) MEETING_LIMIT both.0)
end_is spec spec' (word ∷ words) e = absurd cc

-- the words of a line that was read
words_are : (kind : RunKind) (words : List (List ℕ)) (spec : RunSpec) → spec_words kind words ≡ Some spec → (words ≡ words_of kind spec) × IsWithinLimits spec × (spec.workers ≤ most_workers_of kind) × (spec.workers * spec.turns ≤ MEETING_LIMIT)
words_are kind [] spec e = absurd cc
words_are kind (first ∷ words) spec e =
    let run = test (bytes_eq first (kind_word kind)) _ spec e in
    let few = few_workers kind in
    let most : most_workers_of kind ≤ 64 = few (most_workers_of kind) (omega arith) in
    let w = some_before _ _ spec run.1 in
    let s = some_before _ _ spec w.2 in
    let t = some_before _ _ spec s.2 in
    let n = some_before _ _ spec t.2 in
    let read : RunSpec = record { workers = w.0.0; shards = s.0.0; turns = t.0.0; seed = n.0.0 } in
    let done = end_is read spec n.0.1 n.2 in
    let workers = named_is (codes "workers") 1 (most_workers_of kind) words w.0.0 w.0.1 (omega (arith, most)) w.1 in
    let shards = named_is (codes "shards") 1 SHARD_LIMIT w.0.1 s.0.0 s.0.1 (omega arith) s.1 in
    let turns = named_is (codes "turns") 0 TURN_LIMIT s.0.1 t.0.0 t.0.1 (omega arith) t.1 in
    let seed = named_is (codes "seed") 0 SEED_LIMIT t.0.1 n.0.0 n.0.1 (omega arith) n.1 in
    let limits : IsWithinLimits read = record { workers = (workers.1.0, few w.0.0 workers.1.1); shards = shards.1; turns = turns.1.1; seed = seed.1.1 } in
    let all : first ∷ words ≡ words_of kind read =
    ap (λ (f : List ℕ). f ∷ words) ((bytes_eq-Decides first (kind_word kind)).0 run.0)
    ∙ ap (λ (ws : List (List ℕ)). kind_word kind ∷ ws)
    (workers.0 ∙ ap (λ (ws : List (List ℕ)). codes "workers" ∷ decimal w.0.0 ∷ ws)
    (shards.0 ∙ ap (λ (ws : List (List ℕ)). codes "shards" ∷ decimal s.0.0 ∷ ws)
    (turns.0 ∙ ap (λ (ws : List (List ℕ)). codes "turns" ∷ decimal t.0.0 ∷ ws)
    (seed.0 ∙ ap (λ (ws : List (List ℕ)). codes "seed" ∷ decimal n.0.0 ∷ ws) done.0)))) in
    (all ∙ ap (words_of kind) done.1, subst IsWithinLimits done.1 limits, subst (λ (s : RunSpec). s.workers ≤ most_workers_of kind) done.1 workers.1.1, subst (λ (s : RunSpec). s.workers * s.turns ≤ MEETING_LIMIT) done.1 done.2)

-- a line that is read is the line of its run
pub spec_spelled : (kind : RunKind) (line : List ℕ) (spec : RunSpec) → spec_in kind line ≡ Some spec → (line ≡ run_line kind spec) × IsWithinLimits spec × (spec.workers ≤ most_workers_of kind) × (spec.workers * spec.turns ≤ MEETING_LIMIT)
unfolding spec_in
spec_spelled kind line spec e =
    let are = words_are kind (pieces 32 line) spec e in
    (sym (join_with_byte-slice_split 32 line) ∙ ap (join_with_byte 32) are.0 ∙ sym (run_right kind spec), are.1, are.2, are.3)

-- in the other direction: a number is cut off at a space
pub cut_number : (n : ℕ) (rest : List ℕ) → n < 2 ^ 64 → pieces 32 (decimal n ++ 32 ∷ rest) ≡ decimal n ∷ pieces 32 rest
cut_number n rest small = slice_split_at space (decimal n) 32 rest (decimal_no_space n small) refl

numbers_cut : (spec : RunSpec) → IsWithinLimits spec → pieces 32 (join_with_byte 32 (numbers_of spec)) ≡ numbers_of spec
numbers_cut spec limits =
    let n : List ℕ = decimal spec.seed in
    cut_number spec.workers _ (omega (arith, limits.workers.1))
    ∙ ap (λ (ws : List (List ℕ)). decimal spec.workers ∷ codes "shards" ∷ ws)
    (cut_number spec.shards _ (omega (arith, limits.shards.1))
    ∙ ap (λ (ws : List (List ℕ)). decimal spec.shards ∷ codes "turns" ∷ ws)
    (cut_number spec.turns _ (omega (arith, limits.turns))
    ∙ ap (λ (ws : List (List ℕ)). decimal spec.turns ∷ codes "seed" ∷ ws) (slice_split_none space n (decimal_no_space spec.seed (omega (arith, limits.seed))))))

words_cut : (kind : RunKind) (spec : RunSpec) → IsWithinLimits spec → pieces 32 (run_line kind spec) ≡ words_of kind spec
words_cut Whole spec limits = ap (pieces 32) (run_right Whole spec) ∙ ap (λ (ws : List (List ℕ)). codes "run" ∷ codes "workers" ∷ ws) (numbers_cut spec limits)
words_cut Watched spec limits = ap (pieces 32) (run_right Watched spec) ∙ ap (λ (ws : List (List ℕ)). codes "watch" ∷ codes "workers" ∷ ws) (numbers_cut spec limits)

printed_back : (least most n : ℕ) → least ≤ n → n ≤ most → n < 2 ^ 64 → printed_number_of_within least most (decimal n) ≡ Some n
printed_back least most n low high small =
    let form = test (has_no_leading_zero (decimal n)) (number_of (decimal n)) n (printed_number_of-decimal n small) in
    cond-true (has_no_leading_zero (decimal n)) (number_of_within least most (decimal n)) None form.0
    ∙ ap (option_and_then (λ (m : ℕ). if nat_le least m && nat_le m most then Some m else None)) form.1
    ∙ cond-true (nat_le least n && nat_le n most) (Some n) None (and_from (nat_le least n) (nat_le n most) (le-leb least n low) (le-leb n most high))

named_back : (name : List ℕ) (least most n : ℕ) (more : List (List ℕ)) → least ≤ n → n ≤ most → n < 2 ^ 64 → number_named name least most (name ∷ decimal n ∷ more) ≡ Some (n, more)
named_back name least most n more low high small =
    cond-true (bytes_eq name name) (option_map (λ (m : ℕ). let t : Named = (m, more) in t) (printed_number_of_within least most (decimal n))) None ((bytes_eq-Decides name name).1 refl)
    ∙ ap (option_map (λ (m : ℕ). let t : Named = (m, more) in t)) (printed_back least most n low high small)

-- the line of a run is read
pub spec_back : (kind : RunKind) (spec : RunSpec) → IsWithinLimits spec → spec.workers ≤ most_workers_of kind → spec.workers * spec.turns ≤ MEETING_LIMIT → spec_in kind (run_line kind spec) ≡ Some spec
unfolding spec_in
spec_back kind spec limits hands few =
    ap (spec_words kind) (words_cut kind spec limits)
    ∙ rw (
      (bytes_eq-Decides (kind_word kind) (kind_word kind)).1 refl,
      named_back (codes "workers") 1 (most_workers_of kind) spec.workers _ limits.workers.0 hands (omega (arith, limits.workers.1)),
      named_back (codes "shards") 1 SHARD_LIMIT spec.shards _ limits.shards.0 limits.shards.1 (omega (arith, limits.shards.1)),
      named_back (codes "turns") 0 TURN_LIMIT spec.turns _ (omega arith) limits.turns (omega (arith, limits.turns)),
      named_back (codes "seed") 0 SEED_LIMIT spec.seed _ (omega arith) limits.seed (omega (arith, limits.seed)),
      le-leb (spec.workers * spec.turns) MEETING_LIMIT few,
    ) refl
