-- Texts that are written piece by piece.
use Rattle.std.proofs.Common.{◌≡◌, ℕ, List, ◌++◌, ap, ◌∙◌, append_assoc}

-- a piece, and what was written after it
behind : (t0 t1 new a b : List ℕ) → t1 ≡ t0 ++ a → new ≡ t1 ++ b → new ≡ t0 ++ (a ++ b)
behind t0 t1 new a b first rest = rest ∙ ap (λ t. t ++ b) first ∙ append_assoc t0 a b

pub three : (t0 t1 t2 t3 a b c : List ℕ) → t1 ≡ t0 ++ a → t2 ≡ t1 ++ b → t3 ≡ t2 ++ c → t3 ≡ t0 ++ (a ++ (b ++ c))
three t0 t1 t2 t3 a b c h1 h2 h3 =
    behind t0 t1 t3 a (b ++ c) h1 (behind t1 t2 t3 b c h2 h3)

pub five : (t0 t1 t2 t3 t4 t5 a b c d e : List ℕ) → t1 ≡ t0 ++ a → t2 ≡ t1 ++ b → t3 ≡ t2 ++ c → t4 ≡ t3 ++ d → t5 ≡ t4 ++ e → t5 ≡ t0 ++ (a ++ (b ++ (c ++ (d ++ e))))
five t0 t1 t2 t3 t4 t5 a b c d e h1 h2 h3 h4 h5 =
    behind t0 t1 t5 a (b ++ (c ++ (d ++ e))) h1 (behind t1 t2 t5 b (c ++ (d ++ e)) h2 (three t2 t3 t4 t5 c d e h3 h4 h5))

pub seven : (t0 t1 t2 t3 t4 t5 t6 t7 a b c d e f g : List ℕ) → t1 ≡ t0 ++ a → t2 ≡ t1 ++ b → t3 ≡ t2 ++ c → t4 ≡ t3 ++ d → t5 ≡ t4 ++ e → t6 ≡ t5 ++ f → t7 ≡ t6 ++ g → t7 ≡ t0 ++ (a ++ (b ++ (c ++ (d ++ (e ++ (f ++ g))))))
seven t0 t1 t2 t3 t4 t5 t6 t7 a b c d e f g h1 h2 h3 h4 h5 h6 h7 =
    behind t0 t1 t7 a (b ++ (c ++ (d ++ (e ++ (f ++ g))))) h1 (behind t1 t2 t7 b (c ++ (d ++ (e ++ (f ++ g)))) h2 (five t2 t3 t4 t5 t6 t7 c d e f g h3 h4 h5 h6 h7))

pub nine : (t0 t1 t2 t3 t4 t5 t6 t7 t8 t9 a b c d e f g h i : List ℕ) → t1 ≡ t0 ++ a → t2 ≡ t1 ++ b → t3 ≡ t2 ++ c → t4 ≡ t3 ++ d → t5 ≡ t4 ++ e → t6 ≡ t5 ++ f → t7 ≡ t6 ++ g → t8 ≡ t7 ++ h → t9 ≡ t8 ++ i → t9 ≡ t0 ++ (a ++ (b ++ (c ++ (d ++ (e ++ (f ++ (g ++ (h ++ i))))))))
nine t0 t1 t2 t3 t4 t5 t6 t7 t8 t9 a b c d e f g h i h1 h2 h3 h4 h5 h6 h7 h8 h9 =
    behind t0 t1 t9 a (b ++ (c ++ (d ++ (e ++ (f ++ (g ++ (h ++ i))))))) h1 (behind t1 t2 t9 b (c ++ (d ++ (e ++ (f ++ (g ++ (h ++ i)))))) h2 (seven t2 t3 t4 t5 t6 t7 t8 t9 c d e f g h i h3 h4 h5 h6 h7 h8 h9))

-- three pieces before a rest
pub headed : (a b c rest : List ℕ) → (a ++ (b ++ c)) ++ rest ≡ a ++ (b ++ (c ++ rest))
headed a b c rest = append_assoc a (b ++ c) rest ∙ ap (λ t. a ++ t) (append_assoc b c rest)
