-- The lines of `check` end where the predicate begins.
use Rattle.std.proofs.Common.{◌≡◌, ℕ, ◌<◌, ◌^◌, Bool, true, false, List, [], ◌∷◌, ◌++◌, get_or, codes, decimal, refl, sym, ap, ◌∙◌, append_assoc, append-nil, arith}
use Rattle.std.proofs.lemmas.List.{append_cancel_left}
use Rattle.base_lines.specs.Lines.{ended}
use Rattle.cert_show.specs.Lines.{text_of}
use Rattle.cert_show.proofs.Spans.{passes-append}
use Rattle.cert_show.proofs.Quoted.{other_than, decimal_keeps}
use Rattle.cert_show.proofs.LinesTell.{IsLine, AreLines}
use Rattle.tool_proofs.specs.Certified.{certified_text, stable_text}
use Rattle.pop_tool.specs.ShownText.{Verdict, IsCertified, IsStable, verdict_lines, bound_of}
use Rattle.pop_tool.proofs.Decimals.{one_decimal}

-- the lines of `check` before others
abbrev pub lines_before : Verdict → List (List ℕ) → List (List ℕ)
lines_before (IsCertified k false) more = certified_text k ∷ more
lines_before (IsCertified k true) more = certified_text k ∷ codes "tame" ∷ more
lines_before (IsStable k) more = stable_text k ∷ more

pub text_before : (v : Verdict) (more : List (List ℕ)) → verdict_lines v ++ text_of more ≡ text_of (lines_before v more)
text_before (IsCertified k false) more = refl
text_before (IsCertified k true) more = append_assoc (ended (certified_text k)) (ended (codes "tame")) (text_of more)
text_before (IsStable k) more = refl

certified_line : (k : ℕ) → IsLine (certified_text k)
certified_line k = passes-append (other_than 10) (codes "certified ") (decimal k) (refl, (refl, (refl, (refl, (refl, (refl, (refl, (refl, (refl, (refl, tt)))))))))) (decimal_keeps 10 (omega arith) k)

stable_line : (k : ℕ) → IsLine (stable_text k)
stable_line k = passes-append (other_than 10) (codes "stable ") (decimal k) (refl, (refl, (refl, (refl, (refl, (refl, (refl, tt))))))) (decimal_keeps 10 (omega arith) k)

pub lines_are : (v : Verdict) (more : List (List ℕ)) → AreLines more → AreLines (lines_before v more)
lines_are (IsCertified k false) more are = (certified_line k, are)
lines_are (IsCertified k true) more are = (certified_line k, ((refl, (refl, (refl, (refl, tt)))), are))
lines_are (IsStable k) more are = (stable_line k, are)

-- ---- first bytes

abbrev pub first_of : List ℕ → ℕ
first_of line = get_or line 0 0

abbrev pub first_in : List (List ℕ) → ℕ
first_in lines = first_of (get_or lines 0 [])

never_tame : (xs ys : List (List ℕ)) → first_in xs ≡ 112 → xs ≡ codes "tame" ∷ ys → ⊥
never_tame xs ys p e = let t : first_in xs ≡ 116 = ap first_in e in absurd (omega (arith, p, t))

never_both : (k l : ℕ) → certified_text k ≡ stable_text l → ⊥
never_both k l e = let b : 99 ≡ 115 = ap first_of e in absurd (omega (arith, b))

never_both_lines : (k l : ℕ) (xs ys : List (List ℕ)) → certified_text k ∷ xs ≡ stable_text l ∷ ys → ⊥
never_both_lines k l xs ys e = never_both k l (cc e)

-- behind the lines of `check` a line begins with a p
pub parts_same : (v w : Verdict) (xs ys : List (List ℕ)) → first_in xs ≡ 112 → first_in ys ≡ 112 → lines_before v xs ≡ lines_before w ys
    → (lines_before v [] ≡ lines_before w []) × (xs ≡ ys)
parts_same (IsCertified k false) (IsCertified l false) xs ys p q e =
    let line : certified_text k ≡ certified_text l = cc e in let rest : xs ≡ ys = cc e in (ap (λ (x : List ℕ). x ∷ []) line, rest)
parts_same (IsCertified k true) (IsCertified l true) xs ys p q e =
    let line : certified_text k ≡ certified_text l = cc e in let rest : xs ≡ ys = cc e in (ap (λ (x : List ℕ). x ∷ codes "tame" ∷ []) line, rest)
parts_same (IsCertified k false) (IsCertified l true) xs ys p q e = absurd (never_tame xs ys p (cc e))
parts_same (IsCertified k true) (IsCertified l false) xs ys p q e =
    let back : ys ≡ codes "tame" ∷ xs = cc e in absurd (never_tame ys xs q back)
parts_same (IsCertified k false) (IsStable l) xs ys p q e = absurd (never_both_lines k l xs ys e)
parts_same (IsCertified k true) (IsStable l) xs ys p q e = absurd (never_both_lines k l (codes "tame" ∷ xs) ys e)
parts_same (IsStable k) (IsCertified l false) xs ys p q e = absurd (never_both_lines l k ys xs (sym e))
parts_same (IsStable k) (IsCertified l true) xs ys p q e = absurd (never_both_lines l k (codes "tame" ∷ ys) xs (sym e))
parts_same (IsStable k) (IsStable l) xs ys p q e =
    let line : stable_text k ≡ stable_text l = cc e in let rest : xs ≡ ys = cc e in (ap (λ (x : List ℕ). x ∷ []) line, rest)

-- ---- from the lines to what they say

certified_number : (k l : ℕ) → k < 2 ^ 64 → certified_text k ≡ certified_text l → k ≡ l
certified_number k l small e = one_decimal k l small (append_cancel_left (codes "certified ") (decimal k) (decimal l) e)

stable_number : (k l : ℕ) → k < 2 ^ 64 → stable_text k ≡ stable_text l → k ≡ l
stable_number k l small e = one_decimal k l small (append_cancel_left (codes "stable ") (decimal k) (decimal l) e)

pub verdict_same : (v w : Verdict) → bound_of v < 2 ^ 64 → lines_before v [] ≡ lines_before w [] → v ≡ w
verdict_same (IsCertified k false) (IsCertified l false) small e = ap (λ (n : ℕ). IsCertified n false) (certified_number k l small (cc e))
verdict_same (IsCertified k true) (IsCertified l true) small e = ap (λ (n : ℕ). IsCertified n true) (certified_number k l small (cc e))
verdict_same (IsCertified k false) (IsCertified l true) small e = absurd (cc e)
verdict_same (IsCertified k true) (IsCertified l false) small e = absurd (cc e)
verdict_same (IsCertified k false) (IsStable l) small e = absurd (never_both_lines k l [] [] e)
verdict_same (IsCertified k true) (IsStable l) small e = absurd (never_both_lines k l (codes "tame" ∷ []) [] e)
verdict_same (IsStable k) (IsCertified l false) small e = absurd (never_both_lines l k [] [] (sym e))
verdict_same (IsStable k) (IsCertified l true) small e = absurd (never_both_lines l k (codes "tame" ∷ []) [] (sym e))
verdict_same (IsStable k) (IsStable l) small e = ap IsStable (stable_number k l small (cc e))

pub printed_same : (v w : Verdict) → lines_before v [] ≡ lines_before w [] → verdict_lines v ≡ verdict_lines w
printed_same v w e =
    sym (append-nil (verdict_lines v)) ∙ text_before v [] ∙ ap text_of e ∙ sym (text_before w []) ∙ append-nil (verdict_lines w)
