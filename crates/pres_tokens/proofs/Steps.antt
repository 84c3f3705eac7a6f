-- The list of tokens, one token or one blank further.
use Rattle.std.proofs.Common.{◌≡◌, ℕ, zero, suc, ◌+◌, ◌-◌, ◌<◌, false, List, [], ◌∷◌, length, get_or, drop, refl, sym, ap, ◌∙◌, arith}
use Rattle.std.proofs.lemmas.List.{drop_more, drop-drop}
use Rattle.pres_tokens.specs.Tokens.{is_blank_byte, first_symbol, tokens_from}

pub tokens-skip : (k place : ℕ) (bytes : List ℕ) → tokens_from k place bytes ≡ tokens_from 0 (place + k) (drop k bytes)
tokens-skip zero place bytes = ap (λ n. tokens_from 0 n bytes) (omega arith)
tokens-skip (suc k) place [] = refl
tokens-skip (suc k) place (b ∷ bytes) =
    tokens-skip k (place + 1) bytes ∙ ap (λ n. tokens_from 0 n (drop k bytes)) (omega arith)

token_first : (b place : ℕ) (bytes : List ℕ) → is_blank_byte b ≡ false
    → tokens_from 0 place (b ∷ bytes) ≡ record { place = place; symbol = (first_symbol (b ∷ bytes)).0 } ∷ tokens_from ((first_symbol (b ∷ bytes)).1 - 1) (place + 1) bytes
token_first b place bytes e = rw e refl

-- any other byte begins the next token
pub tokens-token : (text : List ℕ) (at : ℕ) (len : ℕ) → at < length text → is_blank_byte (get_or text at 0) ≡ false
    → len ≡ (first_symbol (drop at text)).1 → 0 < len
    → tokens_from 0 at (drop at text) ≡ record { place = at; symbol = (first_symbol (drop at text)).0 } ∷ tokens_from 0 (at + len) (drop (at + len) text)
tokens-token text at len h e f some =
    let here : drop at text ≡ get_or text at 0 ∷ drop (at + 1) text = drop_more text at 0 h in
    let g : len ≡ (first_symbol (get_or text at 0 ∷ drop (at + 1) text)).1 = f ∙ ap (λ bytes. (first_symbol bytes).1) here in
    ap (tokens_from 0 at) here
    ∙ token_first (get_or text at 0) at (drop (at + 1) text) e
    ∙ ap (λ n. record { place = at; symbol = (first_symbol (get_or text at 0 ∷ drop (at + 1) text)).0 } ∷ tokens_from (n - 1) (at + 1) (drop (at + 1) text)) (sym g)
    ∙ ap (λ ts. record { place = at; symbol = (first_symbol (get_or text at 0 ∷ drop (at + 1) text)).0 } ∷ ts)
    (tokens-skip (len - 1) (at + 1) (drop (at + 1) text)
    ∙ ap (tokens_from 0 (at + 1 + (len - 1))) (drop-drop (len - 1) (at + 1) text)
    ∙ ap (λ n. tokens_from 0 n (drop n text)) (let same : at + 1 + (len - 1) ≡ at + len = omega arith in same))
    ∙ ap (λ bytes. record { place = at; symbol = (first_symbol bytes).0 } ∷ tokens_from 0 (at + len) (drop (at + len) text)) (sym here)
