-- A line of two printed numbers names two agents.
use Rattle.std.proofs.Common.{◌≡◌, ◌≢◌, ℕ, ◌<◌, ◌^◌, ◌==◌, List, [], ◌∷◌, ◌++◌, decimal, refl, ap, sym, ◌∙◌, append_assoc}
use Rattle.std.specs.Prelude.{Ok, Some}
use Rattle.std.proofs.lemmas.Bool.{ne_eqb, lt-ltb}
use Rattle.std.proofs.lemmas.List.Splits.{slice_split_none}
use Rattle.base_lines.specs.Lines.{pieces, lines_of, ended}
use Rattle.base_lines.proofs.Printed.{number_of-decimal}
use Rattle.pop_words.specs.Meetings.{meeting_of, two_agents_of, pair_of}
use Rattle.pop_journal.specs.FirstPair.{IsFirstPair}
use Rattle.pop_journal.proofs.Spelled.{decimal_no_space}
use Rattle.pop_journal.proofs.RunLine.{cut_number}
use Rattle.base_lines.proofs.Unbroken.{line_first, both_unbroken, decimal_unbroken}

words : (a b : ℕ) → a < 2 ^ 64 → b < 2 ^ 64 → pieces 32 (decimal a ++ 32 ∷ decimal b) ≡ decimal a ∷ decimal b ∷ []
words a b la lb = cut_number a (decimal b) la ∙ ap (λ (ws : List (List ℕ)). decimal a ∷ ws) (slice_split_none (λ c. c == 32) (decimal b) (decimal_no_space b lb))

both_back : (a b : ℕ) → a < 2 ^ 64 → b < 2 ^ 64 → pair_of (decimal a ∷ decimal b ∷ []) ≡ Some (a, b)
both_back a b la lb = rw (number_of-decimal a la, number_of-decimal b lb) refl

agents_back : (agents a b : ℕ) → a ≢ b → a < agents → b < agents → two_agents_of agents (Some (a, b)) ≡ Ok (a, b)
agents_back agents a b ne ia ib = rw (ne_eqb a b ne, lt-ltb a agents ia, lt-ltb b agents ib) refl

pair_back : (agents a b : ℕ) → a < 2 ^ 64 → b < 2 ^ 64 → a ≢ b → a < agents → b < agents → meeting_of agents (decimal a ++ 32 ∷ decimal b) ≡ Ok (a, b)
unfolding meeting_of
pair_back agents a b la lb ne ia ib = ap (λ ws. two_agents_of agents (pair_of ws)) (words a b la lb) ∙ ap (two_agents_of agents) (both_back a b la lb) ∙ agents_back agents a b ne ia ib

pub first_pair : (agents a b : ℕ) (text t1 t2 t3 rest : List ℕ) → text ≡ decimal a ++ t1 → t1 ≡ 32 ∷ t2 → t2 ≡ decimal b ++ t3 → t3 ≡ 10 ∷ rest → a < 2 ^ 64 → b < 2 ^ 64 → a ≢ b → a < agents → b < agents → IsFirstPair agents text a b rest
first_pair agents a b text t1 t2 t3 rest first space second feed la lb ne ia ib =
    let line : List ℕ = decimal a ++ 32 ∷ decimal b in
    let whole : text ≡ ended line ++ rest =
    first ∙ ap (λ (t : List ℕ). decimal a ++ t) (space ∙ ap (λ (t : List ℕ). 32 ∷ t) (second ∙ ap (λ (t : List ℕ). decimal b ++ t) feed))
    ∙ sym (append_assoc (decimal a) (32 ∷ decimal b) (10 ∷ rest)) ∙ sym (append_assoc line (10 ∷ []) rest) in
    record {
      line = line;
      lines = ap lines_of whole ∙ line_first line rest (both_unbroken (decimal a) (32 ∷ decimal b) (decimal_unbroken a la) (decimal_unbroken b lb));
      pair = pair_back agents a b la lb ne ia ib;
      different = ne;
      first_in = ia;
      second_in = ib;
    }
