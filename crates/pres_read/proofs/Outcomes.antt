-- What reading gives, compared with the trees of productions.
use Rattle.pop_io.specs.declared.failure.Failure.{Failure}
use Rattle.std.proofs.Common.{◌≡◌, ℕ, Bool, true, false, List, [], ◌∷◌, ◌++◌, length, ltb, Option, Some, None, IfOk, Result, Ok, Err, refl, sym, ap, subst, ◌∙◌, append_assoc}
use Rattle.std.specs.Prelude.{if◌then◌else◌, ◌||◌, IfSome}
use Rattle.std.proofs.lemmas.List.{append-nil, map-append}
use Rattle.pres_ast.specs.declared.limits.TheConstants.{WEIGHT_LIMIT}
use Rattle.pres_read.specs.declared.read.TheConstants.{TEXT_LIMIT}
use Rattle.pres_read.specs.declared.depth.TheConstants.{PARENTHESIS_LIMIT}
use Rattle.pres_ast.specs.PredTree.{PredTree}
use Rattle.pres_ast.specs.PredModel.{PredModel}
use Rattle.pres_tokens.specs.Symbols.{Symbol, Placed}
use Rattle.pres_tokens.specs.Tokens.{tokens_of}
use Rattle.pres_read.specs.declared.fault.ReadPred.{ReadPred}
use Rattle.pop_io.specs.declared.failure.Failure.TheVariants.{Fault, NoMemory}
use Rattle.pres_read.specs.declared.fault.ReadPred.TheVariants.{Syntax, UnknownName, TooLarge, TooDeep, LongText}
use Rattle.pres_read.specs.Outcome.{◌>>=◌, GivesParsed}
use Rattle.pres_read.specs.Progress.{Progress, start}
use Rattle.pres_read.specs.Depth.{Depth, surface, deeper, sunk}
use Rattle.pres_read.specs.Reading.{step, finish, with_progress, run, over_names, pred_read}
use Rattle.pres_read.specs.Grammar.{APred, Phrase, symbols, meaning, Derives}
use Rattle.pres_read.specs.Texts.{symbols_of, text_symbols, IsStuck, place_of, IsReadAs}
use Rattle.pres_read.proofs.Traces.{Trace, begun, trace_step, trace_run, trace_goes_by, trace_end, trace_then, trace_read, trace_read-run}
use Rattle.pres_read.proofs.Complete.{trace_read-symbols}
use Rattle.pres_read.proofs.Prefixes.{prefix, step_follows, symbols-end}
use Rattle.pres_read.proofs.Shows.{IsShown, Agrees, EndAgrees, step_agrees, finish_agrees, start_shown}

abbrev pub NoStep : Trace → List Placed → Type 0
NoStep b [] = trace_end b ≡ None
NoStep b (t ∷ ts) = trace_step b t.symbol ≡ None

pub record StopsAt (a : Trace) (ts : List Placed) (end at : ℕ) : Type 0 where
  before : List Placed
  rest : List Placed
  tokens : ts ≡ before ++ rest
  last : Trace
  went : trace_run a (symbols_of before) ≡ Some last
  stuck : NoStep last rest
  place : place_of rest end ≡ at

pub record ReadsTo (names : List (List ℕ)) (a : Trace) (ts : List Placed) (tree : PredTree) : Type 0 where
  phrase : Phrase APred
  read : trace_read a (symbols_of ts) ≡ Some phrase
  means : meaning names phrase ≡ tree

abbrev pub Comes : List (List ℕ) → Trace → List Placed → ℕ → Result PredTree ReadPred → Type 0
Comes names a ts end (Ok tree) = ReadsTo names a ts tree
Comes names a ts end (Err (Syntax at)) = StopsAt a ts end at
Comes names a ts end (Err (UnknownName at)) = Unit {0}
Comes names a ts end (Err (TooLarge at)) = Unit {0}
Comes names a ts end (Err (TooDeep at)) = Unit {0}
Comes names a ts end (Err (LongText n)) = ⊥

end_comes : (names : List (List ℕ)) (a : Trace) (end : ℕ) (o : Option (Phrase APred)) (r : Result PredTree ReadPred)
    → trace_end a ≡ o → EndAgrees names r o end → Comes names a [] end r
end_comes names a end None (Ok q) e h = absurd h
end_comes names a end (Some p) (Ok q) e h = record { phrase = p; read = e; means = h }
end_comes names a end o (Err (Syntax at)) e h =
    record { before = []; rest = []; tokens = refl; last = a; went = refl; stuck = e ∙ h.0; place = sym h.1 }
end_comes names a end o (Err (UnknownName at)) e h = tt
end_comes names a end o (Err (TooLarge at)) e h = tt
end_comes names a end o (Err (TooDeep at)) e h = tt
end_comes names a end o (Err (LongText n)) e h = absurd h

-- what comes after one more token
further_comes : (names : List (List ℕ)) (a b : Trace) (t : Placed) (ts : List Placed) (end : ℕ) (r : Result PredTree ReadPred)
    → trace_step a t.symbol ≡ Some b → Comes names b ts end r → Comes names a (t ∷ ts) end r
further_comes names a b t ts end (Ok tree) e h =
    record { phrase = h.phrase; read = ap (λ o. trace_then o (λ c. trace_read c (symbols_of ts))) e ∙ h.read; means = h.means }
further_comes names a b t ts end (Err (Syntax at)) e h = record {
  before = t ∷ h.before;
  rest = h.rest;
  tokens = ap (λ us. t ∷ us) h.tokens;
  last = h.last;
  went = ap (λ o. trace_goes_by o (λ c. trace_run c (symbols_of h.before))) e ∙ h.went;
  stuck = h.stuck;
  place = h.place;
}
further_comes names a b t ts end (Err (UnknownName at)) e h = tt
further_comes names a b t ts end (Err (TooLarge at)) e h = tt
further_comes names a b t ts end (Err (TooDeep at)) e h = tt
further_comes names a b t ts end (Err (LongText n)) e h = absurd h

abbrev pub going : List (List ℕ) → ℕ → List Placed → Result (Progress × Depth) ReadPred → Result PredTree ReadPred
going names end ts r = r >>= λ q. run names end q.0 q.1 ts

deep_comes : (names : List (List ℕ)) (a b : Trace) (t : Placed) (ts : List Placed) (end : ℕ) (q : Progress) (d : Depth) (deep : Bool)
    → trace_step a t.symbol ≡ Some b → ((e : Depth) → Comes names b ts end (run names end q e ts))
    → Comes names a (t ∷ ts) end (going names end ts (with_progress q (if deep then Err (TooDeep t.place) else Ok d)))
deep_comes names a b t ts end q d true e h = tt
deep_comes names a b t ts end q d false e h = further_comes names a b t ts end (run names end q d ts) e (h d)

step_comes : (names : List (List ℕ)) (a : Trace) (t : Placed) (ts : List Placed) (end : ℕ) (d : Depth) (o : Option Trace) (r : Result Progress ReadPred)
    → ((q : Progress) (b : Trace) (e : Depth) → IsShown names q b → Comes names b ts end (run names end q e ts))
    → trace_step a t.symbol ≡ o → Agrees names r o t.place
    → Comes names a (t ∷ ts) end (going names end ts (r >>= λ q. with_progress q (sunk d t)))
step_comes names a t ts end d None (Ok q) later e h = absurd h
step_comes names a t ts end d (Some b) (Ok q) later e h =
    deep_comes names a b t ts end q (deeper d t.symbol) (ltb WEIGHT_LIMIT (deeper d t.symbol).charge || ltb PARENTHESIS_LIMIT (deeper d t.symbol).parentheses) e (λ x. later q b x h)
step_comes names a t ts end d o (Err (Syntax at)) later e h =
    record { before = []; rest = t ∷ ts; tokens = refl; last = a; went = refl; stuck = e ∙ h.0; place = sym h.1 }
step_comes names a t ts end d o (Err (UnknownName at)) later e h = tt
step_comes names a t ts end d o (Err (TooLarge at)) later e h = tt
step_comes names a t ts end d o (Err (TooDeep at)) later e h = tt
step_comes names a t ts end d o (Err (LongText n)) later e h = absurd h

pub run_comes : (names : List (List ℕ)) (end : ℕ) (ts : List Placed) (p : Progress) (a : Trace) (d : Depth) → IsShown names p a → Comes names a ts end (run names end p d ts)
run_comes names end [] p a d h = end_comes names a end (trace_end a) (finish p end) refl (finish_agrees names p a end h)
run_comes names end (t ∷ ts) p a d h =
    step_comes names a t ts end d (trace_step a t.symbol) (step names p t) (λ q b e k. run_comes names end ts q b e k) refl (step_agrees names p a t h)

-- ---- the laws on symbols

read_prefix : (whole : List Symbol) (s : Symbol) (ss : List Symbol) (p : Phrase APred) (o : Option Trace)
    → ((c : Trace) → trace_read c ss ≡ Some p → symbols p ≡ prefix c ++ ss) → IfSome o (λ b. prefix b ≡ whole ++ s ∷ []) → trace_then o (λ c. trace_read c ss) ≡ Some p
    → symbols p ≡ whole ++ s ∷ ss
read_prefix whole s ss p None go h e = cc
read_prefix whole s ss p (Some c) go h e = go c e ∙ ap (λ w. w ++ ss) h ∙ append_assoc whole (s ∷ []) ss

symbols-read : (a : Trace) (ss : List Symbol) (p : Phrase APred) → trace_read a ss ≡ Some p → symbols p ≡ prefix a ++ ss
symbols-read a [] p e = symbols-end a p e ∙ sym (append-nil (prefix a))
symbols-read a (s ∷ ss) p e = read_prefix (prefix a) s ss p (trace_step a s) (λ c h. symbols-read c ss p h) (step_follows a s) e

not_read : (a : Trace) (rest : List Placed) → NoStep a rest → trace_read a (symbols_of rest) ≡ None
not_read a [] h = h
not_read a (t ∷ ts) h = ap (λ o. trace_then o (λ c. trace_read c (symbols_of ts))) h

never_read : (last : Trace) (before : List Symbol) (more : List Symbol) (p : Phrase APred)
    → trace_run begun before ≡ Some last → trace_read last more ≡ None → symbols p ≡ before ++ more → ⊥
never_read last before more p went none e =
    let whole = trace_read-symbols p in
    let split = trace_read-run begun last before more went in
    let same = ap (trace_read begun) e in
    cc

pub stuck_law : (last : Trace) (before : List Symbol) (rest : List Placed) → trace_run begun before ≡ Some last → NoStep last rest → IsStuck before rest
stuck_law last before [] went h = λ p e. never_read last before [] p went h (e ∙ sym (append-nil before))
stuck_law last before (t ∷ ts) went h =
    λ p more e. never_read last before (t.symbol ∷ more) p went (ap (λ o. trace_then o (λ c. trace_read c more)) h) e

derived_law : (names : List (List ℕ)) (ts : List Placed) (tree : PredTree) → ReadsTo names begun ts tree → Derives names (symbols_of ts) tree
derived_law names ts tree h =
    record { phrase = h.phrase; spelled = symbols-read begun (symbols_of ts) h.phrase h.read; means = h.means }

pub only_law : (names : List (List ℕ)) (ts : List Placed) (tree other : PredTree) → ReadsTo names begun ts tree → Derives names (symbols_of ts) other → tree ≡ other
only_law names ts tree other h d =
    let whole = trace_read-symbols d.phrase in
    let here = ap (trace_read begun) d.spelled in
    let found = h.read in
    let same : h.phrase ≡ d.phrase = cc in
    sym h.means ∙ ap (meaning names) same ∙ d.means

pub never_law : (names : List (List ℕ)) (ts : List Placed) (end at : ℕ) (tree : PredTree) → StopsAt begun ts end at → Derives names (symbols_of ts) tree → ⊥
never_law names ts end at tree h d =
    never_read h.last (symbols_of h.before) (symbols_of h.rest) d.phrase h.went (not_read h.last h.rest h.stuck)
    (d.spelled ∙ ap symbols_of h.tokens ∙ map-append (λ (t : Placed). t.symbol) h.before h.rest)

-- ---- the laws on what reading a text gives

-- what the grammar leaves open for a text that it relates to this tree
abbrev pub MayGive : PredTree → Result PredModel ReadPred → Type 0
MayGive tree (Ok pred) = pred.tree ≡ tree
MayGive tree (Err (Syntax at)) = ⊥
MayGive tree (Err (UnknownName at)) = Unit {0}
MayGive tree (Err (TooLarge at)) = Unit {0}
MayGive tree (Err (TooDeep at)) = Unit {0}
MayGive tree (Err (LongText n)) = Unit {0}

pub record Laws (names : List (List ℕ)) (text : List ℕ) (r : Result PredModel ReadPred) : Type 0 where
  pub derived : IfOk r (λ pred. Derives names (text_symbols text) pred.tree)
  pub only : (tree : PredTree) → Derives names (text_symbols text) tree → MayGive tree r

run_laws : (names : List (List ℕ)) (text : List ℕ) (r : Result PredTree ReadPred) → Comes names begun (tokens_of text) (length text) r → Laws names text (over_names (length names) r)
run_laws names text (Ok tree) h = record {
  derived = derived_law names (tokens_of text) tree h;
  only = λ other d. only_law names (tokens_of text) tree other h d;
}
run_laws names text (Err (Syntax at)) h = record {
  derived = tt;
  only = λ tree d. never_law names (tokens_of text) (length text) at tree h d;
}
run_laws names text (Err (UnknownName at)) h = record { derived = tt; only = λ tree d. tt }
run_laws names text (Err (TooLarge at)) h = record { derived = tt; only = λ tree d. tt }
run_laws names text (Err (TooDeep at)) h = record { derived = tt; only = λ tree d. tt }
run_laws names text (Err (LongText n)) h = absurd h

read_laws : (names : List (List ℕ)) (text : List ℕ) → Laws names text (pred_read names text)
read_laws names text = by_length (ltb TEXT_LIMIT (length text))
  where
    by_length : (b : Bool) → Laws names text (over_names (length names) (if b then Err (LongText (length text)) else run names (length text) start surface (tokens_of text)))
    by_length true = record { derived = tt; only = λ tree d. tt }
    by_length false =
        run_laws names text (run names (length text) start surface (tokens_of text))
        (run_comes names (length text) (tokens_of text) start begun surface (start_shown names))

-- the same for what a call gave, which may be out of memory
pub record GivenLaws (names : List (List ℕ)) (text : List ℕ) (r : Result PredModel (Failure ReadPred)) : Type 0 where
  pub derived : IfOk r (λ pred. Derives names (text_symbols text) pred.tree)
  pub only : (tree : PredTree) → Derives names (text_symbols text) tree → IsReadAs tree r

pub given_laws : (names : List (List ℕ)) (text : List ℕ) (r : Result PredModel (Failure ReadPred)) → GivesParsed (λ pred. pred) r (pred_read names text) → GivenLaws names text r
given_laws names text (Ok pred) h = let laws = subst (Laws names text) h (read_laws names text) in record { derived = laws.derived; only = laws.only }
given_laws names text (Err (Fault (Syntax at))) h = record { derived = tt; only = (subst (Laws names text) h (read_laws names text)).only }
given_laws names text (Err (Fault (UnknownName at))) h = record { derived = tt; only = λ tree d. tt }
given_laws names text (Err (Fault (TooLarge at))) h = record { derived = tt; only = λ tree d. tt }
given_laws names text (Err (Fault (TooDeep at))) h = record { derived = tt; only = λ tree d. tt }
given_laws names text (Err (Fault (LongText n))) h = record { derived = tt; only = λ tree d. tt }
given_laws names text (Err NoMemory) h = record { derived = tt; only = λ tree d. tt }
