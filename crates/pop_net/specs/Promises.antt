-- Promises: what the calls of nets promise, each in one record.
use Rattle.std.specs.Prelude.{◌≡◌, Result, IfOk, IfErr, IsOk}
use Rattle.pop_net.specs.declared.net.Word.{Word}
use Rattle.pop_net.specs.declared.fault.NetFault.{NetFault}
use Rattle.pop_leaf.specs.NetModel.{NetModel, Tuple, IsNet}
use Rattle.pop_net.specs.NetFaults.{RefusesNet}
use Rattle.pop_net.specs.Lanes.{tuple_of, IsValid}
use Rattle.pop_leaf.specs.Reaction.{reaction}
use Rattle.pop_leaf.specs.Step.{TupleChange}

-- a net of these parts, or the first rule that they break
pub record MakesNet (net : NetModel) (result : Result NetModel NetFault) : Type 0 where
  pub kept : IfOk result (λ made. made ≡ net)
  pub refused : IfErr result (RefusesNet net)
  pub accepts : IsNet net → IsOk result

-- what the words a and b become
pub record NetReacts (net : NetModel) (a b : Word) (result : Word × Word) : Type 0 where
  pub reaction : (tuple_of net result.0, tuple_of net result.1) ≡ reaction net (tuple_of net a) (tuple_of net b)
  pub first_valid : IsValid net result.0
  pub second_valid : IsValid net result.1
  -- it is a change that a step allows
  pub change : TupleChange net (tuple_of net a) (tuple_of net b) (tuple_of net result.0) (tuple_of net result.1)

-- the word of these states
pub record IsWordOf (net : NetModel) (states : Tuple) (word : Word) : Type 0 where
  pub tuple : tuple_of net word ≡ states
  pub valid : IsValid net word

-- the word in which an agent starts with these states
pub record StartsAs (net : NetModel) (states : Tuple) (word : Word) : Type 0 where
  pub start : tuple_of net word ≡ states
  pub valid : IsValid net word
