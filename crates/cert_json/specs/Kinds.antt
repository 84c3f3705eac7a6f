-- The kinds of nodes, and their words.
use Rattle.std.specs.Prelude.{ℕ, List, codes, Option, Some, None, if◌then◌else◌}
use Rattle.std.specs.Str.{bytes_eq}
use Rattle.cert_json.specs.declared.kind.NodeKind.{NodeKind}
use Rattle.cert_json.specs.declared.kind.NodeKind.TheVariants.{Linear, Residue, Split, Present}
use Rattle.cert_json.specs.declared.kind.NodeKind.TheVariants.{Twin, Trap, Siphon, Open, First}

abbrev pub kind_text : NodeKind → List ℕ
kind_text Linear = codes "lin"
kind_text Residue = codes "residue"
kind_text Split = codes "split"
kind_text Present = codes "present"
kind_text Twin = codes "twin"
kind_text Trap = codes "trap"
kind_text Siphon = codes "siphon"
kind_text Open = codes "open"
kind_text First = codes "first"

abbrev pub kind_else : NodeKind → List ℕ → Option NodeKind → Option NodeKind
kind_else k s other = if bytes_eq s (kind_text k) then Some k else other

-- the kind with this word
abbrev pub kind_named : List ℕ → Option NodeKind
kind_named s =
    kind_else Linear s
    (kind_else Residue s
    (kind_else Split s
    (kind_else Present s
    (kind_else Twin s
    (kind_else Trap s
    (kind_else Siphon s
    (kind_else Open s
    (kind_else First s None))))))))
