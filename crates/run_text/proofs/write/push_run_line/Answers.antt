use Rattle.std.proofs.Common.{◌≡◌, ℕ, List, decimal, codes, ◌++◌, sym, ap, ◌∙◌, append_assoc}
use Rattle.std.proofs.lemmas.Result.{on_ok_weaker}
use Rattle.run_spec.specs.declared.spec.RunSpec.{RunSpec}
use Rattle.run_spec.specs.declared.kind.RunKind.{RunKind}
use Rattle.run_spec.specs.Kinds.{kind_word}
use Rattle.base_lines.specs.Lines.{ended}
use Rattle.run_text.specs.Journal.{run_line}
use Rattle.run_text.proofs.Texts.{where_ok, after_five}
use Rattle.run_text.proofs.write.push_run_line.Goals as goal

line : (kind : RunKind) (spec : RunSpec) (t t0 t1 t2 t3 t4 new : List ℕ) → t0 ≡ t ++ kind_word kind → t1 ≡ t0 ++ (codes " workers " ++ decimal spec.workers) → t2 ≡ t1 ++ (codes " shards " ++ decimal spec.shards) → t3 ≡ t2 ++ (codes " turns " ++ decimal spec.turns)
    → t4 ≡ t3 ++ (codes " seed " ++ decimal spec.seed) → new ≡ t4 ++ codes "\n" → new ≡ t ++ ended (run_line kind spec)
line kind spec t t0 t1 t2 t3 t4 new word first second third fourth fifth =
    let numbers : List ℕ = codes " workers " ++ decimal spec.workers in
    let both : t1 ≡ t ++ (kind_word kind ++ codes " workers " ++ decimal spec.workers) =
    first
    ∙ ap (λ (old : List ℕ). old ++ numbers) word
    ∙ append_assoc t (kind_word kind) numbers
    ∙ ap (λ (l : List ℕ). t ++ l) (sym (append_assoc (kind_word kind) (codes " workers ") (decimal spec.workers))) in
    after_five t t1 t2 t3 t4 new (kind_word kind ++ codes " workers " ++ decimal spec.workers) (codes " shards " ++ decimal spec.shards) (codes " turns " ++ decimal spec.turns) (codes " seed " ++ decimal spec.seed) (codes "\n") both second third fourth fifth

pub returns : goal.returns
returns c =
    on_ok_weaker c.extend_from_slice-2.result
    (λ written. line c.args.kind c.args.spec.now c.args.text.now.items c.extend_from_slice.new.self.items c.push_field.new.text.items c.push_field-2.new.text.items c.push_field-3.new.text.items c.push_field-4.new.text.items c.extend_from_slice-2.new.self.items (c.in_ok-extend_from_slice.ensures.items ∙ ap (λ (s : List ℕ). c.args.text.now.items ++ s) (c.as_bytes.ensures.value ∙ c.word.ensures)) (rw c.from.ensures at c.in_ok-push_field.ensures) (rw c.from-2.ensures at c.in_ok-push_field-2.ensures) c.in_ok-push_field-3.ensures c.in_ok-push_field-4.ensures written)
    (where_ok c.extend_from_slice-2.result _ _ _ c.extend_from_slice-2.ensures.items)
