-- The stack of nodes whose cases are being closed, while the facts are cut and grow.
use Rattle.std.proofs.Common.{◌≡◌, ℕ, zero, suc, ◌+◌, ◌<◌, ◌≤◌, List, [], ◌∷◌, ◌++◌, length, map, take, reverse, refl, ap, sym, ◌∙◌, length-append, arith}
use Rattle.std.specs.Prelude.{All, Result, Ok, Err, OnOk, remove, slice_index_or}
use Rattle.pop_io.specs.declared.fault.NoMemory.{NoMemory}
use Rattle.std.proofs.lemmas.List.{reverse-append, length-reverse, take-append-le, length-take-le}
use Rattle.cert_base.specs.declared.fact.Fact.{Fact}
use Rattle.cert_tree.specs.declared.stack.Frame.{Frame}
use Rattle.cert_tree.specs.declared.stack.Stack.{Stack}
use Rattle.cert_tree.specs.Frames.{Stacked, waits_at, waiting_under, AreNested, stacked, IsFit, StandsAtFirst}

pub nested_more : (m n : ℕ) (frames : List Frame) → m ≤ n → AreNested m frames → AreNested n frames
nested_more m n [] l h = tt
nested_more m n (frame ∷ frames) l h = (omega (arith, h.0), h.1)

-- what is put on top is the first of the reversed list
pub turned : {A : Type 0} (xs ys : List A) (f : A) → xs ≡ ys ++ f ∷ [] → reverse xs ≡ f ∷ reverse ys
turned xs ys f e = ap reverse e ∙ reverse-append ys (f ∷ [])

-- a frame without cases can go
pub dropped : (trail : List Fact) (above : ℕ) (f : Frame) → length f.cases.items ≡ 0 → waits_at trail above f ≡ []
dropped trail above f e = go f.cases.items e
  where
    go : (cases : List (List Fact)) → length cases ≡ 0 → map {B = Stacked} (λ own. (above, take f.len trail ++ own)) cases ≡ []
    go [] e = refl
    go (own ∷ cases) e = absurd (omega (arith, e))

take_short : (m n : ℕ) (xs : List Fact) → m ≤ n → take m (take n xs) ≡ take m xs
take_short zero n xs l = refl
take_short (suc m) zero xs l = absurd (omega arith)
take_short (suc m) (suc n) [] l = refl
take_short (suc m) (suc n) (x ∷ xs) l = ap (λ ys. x ∷ ys) (take_short m n xs (omega arith))

take_same : (m n : ℕ) (t u : List Fact) → m ≤ n → take n t ≡ take n u → take m t ≡ take m u
take_same m n t u l e = sym (take_short m n t l) ∙ ap (take m) e ∙ take_short m n u l

-- what waits under n facts depends only on these
pub under_same : (n : ℕ) (t u : List Fact) (frames : List Frame) → AreNested n frames → take n t ≡ take n u → waiting_under t frames ≡ waiting_under u frames
under_same n t u [] nested e = refl
under_same n t u (frame ∷ frames) nested e =
    let here : take frame.len t ≡ take frame.len u = take_same frame.len n t u nested.0 e in
    let rest = under_same frame.len t u frames nested.1 here in
    ap (λ facts. map {B = Stacked} (λ own. (length frames, facts ++ own)) frame.cases.items ++ waiting_under t frames) here
    ∙ ap (λ others. map {B = Stacked} (λ own. (length frames, take frame.len u ++ own)) frame.cases.items ++ others) rest

-- ---- the first case of the latest node is entered

pub first_and_rest : (cases : List (List Fact)) (d : List Fact) → 0 < length cases → cases ≡ slice_index_or cases 0 d ∷ remove cases 0
first_and_rest [] d l = absurd (omega arith)
first_and_rest (own ∷ cases) d l = refl

take_within : (n : ℕ) (xs ys : List Fact) → n ≤ length xs → take n (take n xs ++ ys) ≡ take n xs
take_within n xs ys l =
    take-append-le n (take n xs) ys (let e = length-take-le n xs l in omega (arith, e)) ∙ take_short n n xs (omega arith)

pub first_entered : (trail : List Fact) (frames : List Frame) (f g : Frame) (own : List Fact) (rest : List (List Fact)) (stack : Stack) → f.cases.items ≡ own ∷ rest → f.len ≤ length trail → AreNested f.len (reverse frames) → stack.trail ≡ take f.len trail ++ own → stack.frames.items ≡ frames ++ g ∷ [] → g.len ≡ f.len → g.cases.items ≡ rest → StandsAtFirst (waits_at trail (length (reverse frames)) f ++ waiting_under trail (reverse frames)) stack
first_entered trail frames f g own rest stack cases within nested facts pushed len others =
    let top : reverse stack.frames.items ≡ g ∷ reverse frames = turned stack.frames.items frames g pushed in
    let agree : take f.len stack.trail ≡ take f.len trail = ap (take f.len) facts ∙ take_within f.len trail own within in
    let below : waiting_under stack.trail (reverse frames) ≡ waiting_under trail (reverse frames) = under_same f.len stack.trail trail (reverse frames) nested agree in
    let long : length stack.trail ≡ f.len + length own = ap length facts ∙ length-append (take f.len trail) own ∙ ap (λ n. n + length own) (length-take-le f.len trail within) in
    let later : waits_at stack.trail (length (reverse frames)) g ≡ map {B = Stacked} (λ more. (length (reverse frames), take f.len trail ++ more)) rest =
    ap (λ n. map {B = Stacked} (λ more. (length (reverse frames), take n stack.trail ++ more)) g.cases.items) len
    ∙ ap (λ facts. map {B = Stacked} (λ more. (length (reverse frames), facts ++ more)) g.cases.items) agree
    ∙ ap (map {B = Stacked} (λ more. (length (reverse frames), take f.len trail ++ more))) others in
    let whole : stacked stack ≡ map {B = Stacked} (λ more. (length (reverse frames), take f.len trail ++ more)) rest ++ waiting_under trail (reverse frames) =
    ap (waiting_under stack.trail) top ∙ ap (λ ws. ws ++ waiting_under stack.trail (reverse frames)) later ∙ ap (λ ws. map {B = Stacked} (λ more. (length (reverse frames), take f.len trail ++ more)) rest ++ ws) below in
    record {
      above = length (reverse frames);
      depth = ap length pushed ∙ length-append frames (g ∷ []) ∙ ap (λ n. n + 1) (sym (length-reverse frames));
      first =
          ap (λ cs. map {B = Stacked} (λ more. (length (reverse frames), take f.len trail ++ more)) cs ++ waiting_under trail (reverse frames)) cases
          ∙ ap (λ t. (length (reverse frames), t) ∷ (map {B = Stacked} (λ more. (length (reverse frames), take f.len trail ++ more)) rest ++ waiting_under trail (reverse frames))) (sym facts)
          ∙ ap (λ ws. (length (reverse frames), stack.trail) ∷ ws) (sym whole);
      nested = rw top (omega (arith, long, len), rw len nested);
    }

pub entered_when : (trail : List Fact) (frames : List Frame) (f g : Frame) (own : List Fact) (rest : List (List Fact)) (stack : Stack) (r : Result (Unit {0}) NoMemory) → f.cases.items ≡ own ∷ rest → f.len ≤ length trail → AreNested f.len (reverse frames) → OnOk r (stack.trail ≡ take f.len trail ++ own) → stack.frames.items ≡ frames ++ g ∷ [] → g.len ≡ f.len → g.cases.items ≡ rest → OnOk r (StandsAtFirst (waits_at trail (length (reverse frames)) f ++ waiting_under trail (reverse frames)) stack)
entered_when trail frames f g own rest stack (Ok u) cases within nested facts pushed len others =
    first_entered trail frames f g own rest stack cases within nested facts pushed len others
entered_when trail frames f g own rest stack (Err e) cases within nested facts pushed len others = tt

-- the first of those waiting leaves room for its own facts
pub room_for : (trail : List Fact) (frames : List Frame) (f : Frame) (own : List Fact) (rest : List (List Fact)) → f.cases.items ≡ own ∷ rest → All IsFit (waits_at trail (length (reverse frames)) f ++ waiting_under trail (reverse frames)) → length (take f.len trail) + length own ≤ 65536
room_for trail frames f own rest cases fit =
    let fit' : All IsFit ((length (reverse frames), take f.len trail ++ own) ∷ (map {B = Stacked} (λ more. (length (reverse frames), take f.len trail ++ more)) rest ++ waiting_under trail (reverse frames))) =
    rw cases at fit in
    let few = (fit' 0 (0, []) (omega arith)).few in
    omega (arith, few, length-append (take f.len trail) own)

-- ---- a frame is taken off

pub popped_empty : (trail : List Fact) (frames rest : List Frame) (f : Frame) → frames ≡ rest ++ f ∷ [] → length f.cases.items ≡ 0 → waiting_under trail (reverse frames) ≡ waiting_under trail (reverse rest)
popped_empty trail frames rest f e none =
    ap (waiting_under trail) (turned frames rest f e) ∙ ap (λ ws. ws ++ waiting_under trail (reverse rest)) (dropped trail (length (reverse rest)) f none)

pub popped_nested : (n : ℕ) (frames rest : List Frame) (f : Frame) → frames ≡ rest ++ f ∷ [] → AreNested n (reverse frames) → AreNested n (f ∷ reverse rest)
popped_nested n frames rest f e nested = rw (turned frames rest f e) at nested
