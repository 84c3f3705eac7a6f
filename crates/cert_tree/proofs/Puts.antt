-- The first node on a stack.
use Rattle.std.proofs.Common.{◌≡◌, List, [], ◌∷◌, ◌++◌, length, map, take, reverse, ap, ◌∙◌, append-nil}
use Rattle.std.proofs.Math.Seq.{take-length}
use Rattle.cert_base.specs.declared.fact.Fact.{Fact}
use Rattle.cert_tree.specs.declared.stack.Frame.{Frame}
use Rattle.cert_tree.specs.declared.stack.Stack.{Stack}
use Rattle.cert_tree.specs.Frames.{Stacked, waiting_under, stacked}

-- what waits there
pub first_put : (stack : Stack) (frame : Frame) (facts : List Fact) (cases : List (List Fact)) → stack.trail ≡ facts → stack.frames.items ≡ frame ∷ [] → frame.len ≡ length facts → frame.cases.items ≡ cases → stacked stack ≡ map (λ own. (0, facts ++ own)) cases
first_put stack frame facts cases trail frames len same =
    ap (λ t. waiting_under t (reverse stack.frames.items)) trail
    ∙ ap (λ fs. waiting_under facts (reverse fs)) frames
    ∙ append-nil (map {B = Stacked} (λ own. (0, take frame.len facts ++ own)) frame.cases.items)
    ∙ ap (λ n. map {B = Stacked} (λ own. (0, take n facts ++ own)) frame.cases.items) len
    ∙ ap (λ known. map {B = Stacked} (λ own. (0, known ++ own)) frame.cases.items) (take-length facts)
    ∙ ap (map {B = Stacked} (λ own. (0, facts ++ own))) same
