-- A crowd line gives one count for each variable.
use Rattle.std.proofs.Common.{◌≡◌, ℕ, ◌+◌, Bool, true, false, List, [], ◌∷◌, length, map, Option, Some, None, Result, Ok, Err, refl, sym, ap, ◌∙◌}
use Rattle.std.specs.Prelude.{codes, if◌then◌else◌, is_some, option_map, unwrap_or, slice_index_or, slice_set}
use Rattle.std.specs.Str.{bytes_eq}
use Rattle.std.proofs.lemmas.List.{length-set, length-map}
use Rattle.base_laws.proofs.Options.{some_before}
use Rattle.base_lines.specs.Lines.{pieces}
use Rattle.pop_leaf.specs.NetModel.{NetModel}
use Rattle.pop_crowd.specs.Crowds.{input_size}
use Rattle.pop_words.specs.Counts.{entry_of, with_entry, with_word, with_words, counts_behind, with_zeros, counts_of}
use Rattle.tool_texts.specs.declared.refusal.Refusal.{Refusal}
use Rattle.tool_texts.specs.declared.refusal.Refusal.TheVariants.{Size}
use Rattle.tool_texts.proofs.Goes.{bind_ok, same_ok}
use Rattle.tool_bundles.specs.Named.{counted}
use Rattle.tool_bundles.specs.Start.{is_size, sized, fitting_in}

entry_long : (found : List (Option ℕ)) (entry : ℕ × ℕ) (more : List (Option ℕ)) → with_entry found entry ≡ Some more → length more ≡ length found
entry_long found entry more e = go (is_some (slice_index_or found entry.0 None)) e
  where
    go : (b : Bool) → (let r : Option (List (Option ℕ)) = if b then None else Some (slice_set found entry.0 (Some entry.1)) in r) ≡ Some more → length more ≡ length found
    go true h = absurd cc
    go false h =
        let same : slice_set found entry.0 (Some entry.1) ≡ more = cc in sym (ap length same) ∙ length-set found entry.0 (Some entry.1)

word_long : (names : List (List ℕ)) (found : List (Option ℕ)) (word : List ℕ) (more : List (Option ℕ)) → with_word names found word ≡ Some more → length more ≡ length found
unfolding with_word
word_long names found word more e =
    let entry = some_before (with_entry found) (entry_of names word) more e in entry_long found entry.0 more entry.2

words_long : (names : List (List ℕ)) (found : List (Option ℕ)) (i : ℕ) (words : List (List ℕ)) (all : List (Option ℕ)) → with_words names found i words ≡ Ok all → length all ≡ length found
words_long names found i [] all e = let same : found ≡ all = cc in ap length (sym same)
words_long names found i (word ∷ words) all e =
    go (with_word names found word) refl e (λ more. words_long names more (i + 1) words all)
  where
    go : (o : Option (List (Option ℕ))) → with_word names found word ≡ o → unwrap_or (option_map (λ (more : List (Option ℕ)). with_words names more (i + 1) words) o) (Err i) ≡ Ok all → ((more : List (Option ℕ)) → with_words names more (i + 1) words ≡ Ok all → length all ≡ length more) → length all ≡ length found
    go None is h rest = absurd cc
    go (Some more) is h rest = rest more h ∙ word_long names found word more is

behind_long : (names words : List (List ℕ)) (all : List (Option ℕ)) → counts_behind names words ≡ Ok all → length all ≡ length names
behind_long names [] all e = absurd cc
behind_long names (first ∷ words) all e = go (bytes_eq first (codes "crowd")) e
  where
    go : (b : Bool) → (if b then with_words names (map (λ _. None) names) 1 words else Err 0) ≡ Ok all → length all ≡ length names
    go true h =
        words_long names (map (λ _. None) names) 1 words all h ∙ length-map names (λ _. let o : Option ℕ = None in o)
    go false h = absurd cc

counts_long : (names : List (List ℕ)) (line counts : List ℕ) → counts_of names line ≡ Ok counts → length counts ≡ length names
unfolding counts_of
counts_long names line counts e = go (counts_behind names (pieces 32 line)) refl e
  where
    go : (r : Result (List (Option ℕ)) ℕ) → counts_behind names (pieces 32 line) ≡ r → with_zeros r ≡ Ok counts → length counts ≡ length names
    go (Err word) is h = absurd cc
    go (Ok all) is h =
        let same : map (λ o. unwrap_or o 0) all ≡ counts = cc in
        sym (ap length same) ∙ length-map all (λ o. unwrap_or o 0) ∙ behind_long names (pieces 32 line) all is

counted_is : (r : Result (List ℕ) ℕ) (counts : List ℕ) → counted r ≡ Ok counts → r ≡ Ok counts
counted_is (Ok found) counts e = cc
counted_is (Err word) counts e = absurd cc

sized_is : (net : NetModel) (b : Bool) (found counts : List ℕ) → (let r : Result (List ℕ) Refusal = if b then Ok found else Err (Size (input_size net found)) in r) ≡ Ok counts → found ≡ counts
sized_is net true found counts e = same_ok found counts e
sized_is net false found counts e = absurd cc

pub fitting_long : (net : NetModel) (line counts : List ℕ) → fitting_in net line ≡ Ok counts → length counts ≡ length net.variables
unfolding fitting_in
fitting_long net line counts e =
    let c = bind_ok (counted (counts_of net.variables line)) (sized net) counts e in
    ap length (sym (sized_is net (is_size (input_size net c.0)) c.0 counts c.2)) ∙ counts_long net.variables line c.0 (counted_is (counts_of net.variables line) c.0 c.1)
