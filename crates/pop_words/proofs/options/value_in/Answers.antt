use Rattle.std.proofs.Common.{◌≡◌, ℕ, ◌+◌, ◌≤◌, List, [], map, length, Bor, Some, None, unwrap_or, slice_index_or, refl, ap, sym, ◌∙◌, arith}
use Rattle.std.specs.Prelude.{position}
use Rattle.std.specs.Str.{bytes_eq}
use Rattle.std.proofs.lemmas.List.{length-map, get_or-map, get_or_past}
use Rattle.run_spec.specs.declared.kind.RunKind.{RunKind}
use Rattle.pop_words.specs.declared.options.RunOption.{RunOption}
use Rattle.pop_words.specs.Options.{name_of, option_value, default_of, number_behind}
use Rattle.pop_words.proofs.Firsts.{position_map}
use Rattle.pop_words.proofs.options.value_in.Goals as goal

abbrev texts : List (Bor (List ℕ)) → List (List ℕ)
texts words = map (λ w. w.now) words

value_at : (kind : RunKind) (words : List (Bor (List ℕ))) (option : RunOption) (at : ℕ) → position (λ word. bytes_eq word.now (name_of option)) words ≡ Some at → option_value kind (texts words) option ≡ unwrap_or (number_behind kind option (slice_index_or (texts words) (at + 1) [])) (default_of option)
value_at kind words option at is = rw (position_map (λ w. w.now) (λ word. bytes_eq word (name_of option)) words, is) refl

value_default : (kind : RunKind) (words : List (Bor (List ℕ))) (option : RunOption) → position (λ word. bytes_eq word.now (name_of option)) words ≡ None → option_value kind (texts words) option ≡ default_of option
value_default kind words option is = rw (position_map (λ w. w.now) (λ word. bytes_eq word (name_of option)) words, is) refl

value_past : (kind : RunKind) (words : List (Bor (List ℕ))) (option : RunOption) (at : ℕ) → position (λ word. bytes_eq word.now (name_of option)) words ≡ Some at → length words ≤ at + 1 → option_value kind (texts words) option ≡ default_of option
value_past kind words option at is past =
    let none : slice_index_or (texts words) (at + 1) [] ≡ [] = get_or_past (texts words) (at + 1) [] (omega (arith, past, length-map words (λ w. w.now))) in
    value_at kind words option at is ∙ ap (λ word. unwrap_or (number_behind kind option word) (default_of option)) none

pub returns-in-Some-clause-value : goal.returns-in-Some-clause-value
returns-in-Some-clause-value c =
    let is = sym c.place_of_option.ensures ∙ c.in-Some.is in
    let word = get_or-map (λ w. w.now) c.args.words.now (c.in-Some.at + 1) _ [] c.if-at-words.true in
    c.unwrap_or.ensures
    ∙ ap (λ n. unwrap_or n c.numbers-least.result.2) c.number_of.ensures.number
    ∙ ap (λ word. unwrap_or (number_behind c.args.kind c.args.option word) c.numbers-least.result.2) (sym word)
    ∙ ap (λ t. unwrap_or (number_behind c.args.kind c.args.option (slice_index_or (texts c.args.words.now) (c.in-Some.at + 1) [])) t.2) c.numbers-least.ensures
    ∙ sym (value_at c.args.kind c.args.words.now c.args.option c.in-Some.at is)

pub returns-in_default-clause-value : goal.returns-in_default-clause-value
returns-in_default-clause-value c =
    let is = sym c.place_of_option.ensures ∙ c.in-Some.is in
    ap (λ t. t.2) c.numbers-least.ensures ∙ sym (value_past c.args.kind c.args.words.now c.args.option c.in-Some.at is (omega (arith, c.if-at-words.false)))

pub returns-in_default-2-clause-value : goal.returns-in_default-2-clause-value
returns-in_default-2-clause-value c =
    let is = sym c.place_of_option.ensures ∙ c.in_default.is in
    ap (λ t. t.2) c.numbers-least.ensures ∙ sym (value_default c.args.kind c.args.words.now c.args.option is)
