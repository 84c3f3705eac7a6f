-- The steps of a command: each gives a value, or the refusal of the input.
use Rattle.std.specs.Prelude.{◌≡◌, Result, Ok, Err}
use Rattle.pop_io.specs.declared.failure.Failure.{Failure}
use Rattle.pop_io.specs.declared.failure.Failure.TheVariants.{Fault, NoMemory}
use Rattle.base_json.specs.declared.fault.FormatFault.{FormatFault}
use Rattle.base_json.specs.declared.fault.FormatFault.TheVariants.{Broken, NoMemory as OutOfMemory}
use Rattle.tool_texts.specs.declared.refusal.Refusal.{Refusal}
use Rattle.tool_texts.specs.declared.refusal.Refusal.TheVariants.{Format}

-- the input is refused, or memory ran out
abbrev pub Stop : Type 0
Stop = Failure Refusal

infixl 10 ◌>>=◌
-- then go on with the value, or hand the refusal on
abbrev pub ◌>>=◌ : {A B : Type 0} → Result A Refusal → (A → Result B Refusal) → Result B Refusal
(Ok x) >>= f = f x
(Err r) >>= f = Err r

-- the same if the next step is a rule that allows more than one outcome
abbrev pub After : {A B : Type 0} → Result A Refusal → (A → Result B Refusal → Type 0) → Result B Refusal → Type 0
After (Ok x) next given = next x given
After (Err r) next given = given ≡ Err r

-- the stop is this refusal, unless out of memory
abbrev pub Stops : {B : Type 0} → Stop → Result B Refusal → Type 0
Stops NoMemory step = Unit {0}
Stops (Fault r) step = step ≡ Err r

-- what a function returned, seen by `view`, is what the step gives, unless out of memory
abbrev pub GivesStep : {A B : Type 0} → (A → B) → Result A Stop → Result B Refusal → Type 0
GivesStep view (Ok x) step = step ≡ Ok (view x)
GivesStep view (Err stop) step = Stops stop step

-- the rule allows this refusal, unless out of memory
abbrev pub MayStop : {B : Type 0} → (Result B Refusal → Type 0) → Stop → Type 0
MayStop rule NoMemory = Unit {0}
MayStop rule (Fault r) = rule (Err r)

-- the rule allows what a function returned, seen by `view`, unless out of memory
abbrev pub Obeys : {A B : Type 0} → (Result B Refusal → Type 0) → (A → B) → Result A Stop → Type 0
Obeys rule view (Ok x) = rule (Ok (view x))
Obeys rule view (Err stop) = MayStop rule stop

-- a file that breaks a rule is refused
abbrev pub stop_of : FormatFault → Stop
stop_of (Broken path why) = Fault (Format path why)
stop_of OutOfMemory = NoMemory
