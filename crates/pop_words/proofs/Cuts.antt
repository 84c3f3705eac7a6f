-- A word cut off a line.
use Rattle.std.proofs.Common.{◌≡◌, ℕ, ◌+◌, ◌<◌, List, ◌∷◌, length, Option, Some, None, ap, arith, length-append}
use Rattle.base_lines.specs.Lines.{pieces, IsCut}
use Rattle.pop_words.specs.WordsBehind.{words_behind, bytes_left}

-- cutting off a word and the space after it leaves fewer bytes
pub shorter : (c : ℕ) (bytes word : List ℕ) (rest : Option (List ℕ)) → IsCut c bytes word rest → bytes_left rest < length bytes + 1
shorter c bytes word None cut = omega arith
shorter c bytes word (Some rest) cut = omega (arith, ap length cut.1, length-append word (c ∷ rest))

-- a word is the first of the words
pub words-cut : (bytes word : List ℕ) (rest : Option (List ℕ)) → IsCut 32 bytes word rest → pieces 32 bytes ≡ word ∷ words_behind rest
words-cut bytes word None cut = cut.0
words-cut bytes word (Some rest) cut = cut.0
