-- Every trace can go on to a whole text of the grammar.
use Rattle.std.proofs.Common.{◌≡◌, true, false, List, [], ◌∷◌, ◌++◌, Option, refl, sym, ap, subst, ◌∙◌, append_assoc, codes}
use Rattle.std.proofs.lemmas.List.{append-nil}
use Rattle.pres_tokens.specs.declared.token.Relation.TheVariants.{Less}
use Rattle.pres_tokens.specs.Symbols.{Symbol, Name, Number, Star, Compare, Close}
use Rattle.pres_read.specs.Grammar.{bare, times, Sum, first, Atom, relational, modular, APred, AConj, Phrase, group, atom, equal_or_not, atom_symbols, symbols}
use Rattle.pres_read.specs.Texts.{Begins}
use Rattle.pres_read.proofs.Traces.{sum_with, Inner, IUnit, ITerm, IStar, IName, IRelation, IConstant, INumber, IModulo, IModulus, Side, Trace, Inside, Done, with_ors, conj_of}
use Rattle.pres_read.proofs.Prefixes.{ors_prefix, side_prefix, above_prefix, inner_prefix, prefix, symbols-sum_with, symbols-with_ors, prefix-unit_done}

closing : (above : List Side) (p : Phrase APred) → Begins (above_prefix above ++ symbols p)
closing [] p = record { more = []; phrase = p; spelled = sym (append-nil (symbols p)) }
closing (side ∷ above) p =
    let outer = closing above (with_ors side.ors (conj_of side (group p))) in
    record {
      more = Close ∷ outer.more;
      phrase = outer.phrase;
      spelled = outer.spelled
          ∙ ap (λ ss. (above_prefix above ++ ss) ++ outer.more) (symbols-with_ors side.ors (conj_of side (group p)))
          ∙ ap (λ ss. ss ++ outer.more) (prefix-unit_done above side (group p))
          ∙ simp append_assoc;
    }

-- an atom whose symbols begin with these
record AtomFrom (begun : List Symbol) : Type 0 where
  more : List Symbol
  whole : Atom
  spelled : atom_symbols whole ≡ begun ++ more

one : List Symbol
one = Compare Less ∷ Number (codes "1") ∷ []

less_one : Sum → Atom
less_one sum = relational sum Less false (codes "1")

atom_from : (inner : Inner) → AtomFrom (inner_prefix inner)
unfolding one less_one
atom_from IUnit = record { more = Name (codes "x") ∷ one; whole = less_one (first false (bare (codes "x"))); spelled = refl }
atom_from (ITerm lead) = record {
  more = Name (codes "x") ∷ one;
  whole = less_one (sum_with lead (bare (codes "x")));
  spelled = ap (λ ss. ss ++ one) (symbols-sum_with lead (bare (codes "x"))) ∙ simp append_assoc;
}
atom_from (IStar lead digits) = record {
  more = Star ∷ Name (codes "x") ∷ one;
  whole = less_one (sum_with lead (times digits (codes "x")));
  spelled = ap (λ ss. ss ++ one) (symbols-sum_with lead (times digits (codes "x"))) ∙ simp append_assoc;
}
atom_from (IName lead digits) = record {
  more = Name (codes "x") ∷ one;
  whole = less_one (sum_with lead (times digits (codes "x")));
  spelled = ap (λ ss. ss ++ one) (symbols-sum_with lead (times digits (codes "x"))) ∙ simp append_assoc;
}
atom_from (IRelation sum) = record { more = one; whole = less_one sum; spelled = refl }
atom_from (IConstant sum r) = record { more = Number (codes "1") ∷ []; whole = relational sum r false (codes "1"); spelled = simp append_assoc }
atom_from (INumber sum r) = record { more = Number (codes "1") ∷ []; whole = relational sum r true (codes "1"); spelled = simp append_assoc }
atom_from (IModulo sum unequal negative digits) =
    record { more = []; whole = relational sum (equal_or_not unequal) negative digits; spelled = sym (append-nil (inner_prefix (IModulo sum unequal negative digits))) }
atom_from (IModulus sum unequal negative digits) =
    record { more = Number (codes "2") ∷ []; whole = modular sum unequal negative digits (codes "2"); spelled = simp append_assoc }

inside_on : (above : List Side) (side : Side) (inner : Inner) → Begins (above_prefix above ++ (side_prefix side ++ inner_prefix inner))
inside_on above side inner =
    let own = atom_from inner in
    let outer = closing above (with_ors side.ors (conj_of side (atom own.whole))) in
    record {
      more = own.more ++ outer.more;
      phrase = outer.phrase;
      spelled = outer.spelled
          ∙ ap (λ ss. (above_prefix above ++ ss) ++ outer.more) (symbols-with_ors side.ors (conj_of side (atom own.whole)))
          ∙ ap (λ ss. ss ++ outer.more) (prefix-unit_done above side (atom own.whole))
          ∙ ap (λ ss. (above_prefix above ++ (side_prefix side ++ ss)) ++ outer.more) own.spelled
          ∙ simp append_assoc;
    }

done_on : (above : List Side) (ors : Option (Phrase APred)) (c : Phrase AConj) → Begins (above_prefix above ++ (ors_prefix ors ++ symbols c))
done_on above ors c = subst (λ (ss : List Symbol). Begins (above_prefix above ++ ss)) (symbols-with_ors ors c) (closing above (with_ors ors c))

pub goes_on : (a : Trace) → Begins (prefix a)
goes_on (Inside above side inner) = inside_on above side inner
goes_on (Done above ors c) = done_on above ors c
