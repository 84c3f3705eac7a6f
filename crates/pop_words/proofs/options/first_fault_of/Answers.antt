use Rattle.std.proofs.Common.{◌≡◌, ℕ, ◌<◌, inl, inr, List, map, length, Some, None, refl, ap, sym, ◌∙◌, arith, zero-add}
use Rattle.std.proofs.lemmas.Bool.{cases_lt}
use Rattle.std.proofs.lemmas.List.{length-map}
use Rattle.run_spec.specs.declared.kind.RunKind.{RunKind}
use Rattle.pop_words.specs.declared.command.UsageWhy.{UsageWhy}
use Rattle.pop_words.specs.Options.{word_fault, fault_with_place, first_fault}
use Rattle.pop_words.proofs.Firsts.{given_at, none_given}
use Rattle.pop_words.proofs.options.first_fault_of.Goals as goal

-- a place without a fault gives none
placed : (kind : RunKind) (words : List (List ℕ)) (k : ℕ) → word_fault kind words k ≡ None → fault_with_place kind words k ≡ None
placed kind words k is = rw is refl

here : (kind : RunKind) (words : List (List ℕ)) (k : ℕ) (why : UsageWhy) → word_fault kind words k ≡ Some why → fault_with_place kind words k ≡ Some (k, why)
here kind words k why is = rw is refl

first_at : (kind : RunKind) (words : List (List ℕ)) (n at : ℕ) (why : UsageWhy) → length words ≡ n → at < n → ((k : ℕ) → k < at → word_fault kind words k ≡ None) → word_fault kind words at ≡ Some why → first_fault kind words ≡ Some (at, why)
first_at kind words n at why len within before is =
    given_at (fault_with_place kind words) 0 (length words) at (at, why) (omega (arith, len, within)) (λ k less. ap (fault_with_place kind words) (zero-add k) ∙ placed kind words k (before k less)) (ap (fault_with_place kind words) (zero-add at) ∙ here kind words at why is)

none_first : (kind : RunKind) (words : List (List ℕ)) (n : ℕ) → length words ≡ n → ((k : ℕ) → k < n → word_fault kind words k ≡ None) → first_fault kind words ≡ None
none_first kind words n len none =
    none_given (fault_with_place kind words) 0 (length words) (λ k less. ap (fault_with_place kind words) (zero-add k) ∙ placed kind words k (none k (omega (arith, len, less))))

pub returns-in-Some-clause-first : goal.returns-in-Some-clause-first
returns-in-Some-clause-first c =
    sym (first_at c.args.kind (map (λ w. w.now) c.args.words.now) (length c.args.words.now) c.loop-at.at c.in-Some.why (length-map c.args.words.now (λ w. w.now)) c.loop-at-test.true c.loop-at.invariant (sym c.fault_at.ensures ∙ c.in-Some.is))

pub loop-at-preserved : goal.loop-at-preserved
loop-at-preserved c k less = elim (cases_lt k c.loop-at.at) as (λ _. word_fault c.args.kind (map (λ w. w.now) c.args.words.now) k ≡ None) [
  | inl before ↦ c.loop-at.invariant k before
  | inr past ↦ ap (word_fault c.args.kind (map (λ w. w.now) c.args.words.now)) (let e : k ≡ c.loop-at.at = omega (arith, less, past) in e) ∙ sym c.fault_at.ensures ∙ c.in_default.is
]

pub returns-clause-first : goal.returns-clause-first
returns-clause-first c =
    sym (none_first c.args.kind (map (λ w. w.now) c.args.words.now) (length c.args.words.now) (length-map c.args.words.now (λ w. w.now)) (λ k less. c.loop-at.invariant k (omega (arith, less, c.loop-at-test.false))))
