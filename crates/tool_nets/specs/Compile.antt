-- What `compile`, with one of its words or none, makes of the lines of their input: a vars line and a predicate.
use Rattle.std.specs.Prelude.{◌≡◌, ℕ, List, Option, Some, None, Result, Ok, Err}
use Rattle.std.specs.Option.{option_map}
use Rattle.base_lines.specs.Lines.{ended}
use Rattle.pres_ast.specs.PredTree.{PredTree}
use Rattle.pres_ast.specs.PredModel.{PredModel}
use Rattle.pres_read.specs.Reading.{pred_read}
use Rattle.pop_leaf.specs.Reaction.{IsSingle}
use Rattle.pop_words.specs.Vars.{vars_of}
use Rattle.serde_json.specs.Written.{compact_text}
use Rattle.cert_base.specs.ProofBound.{proof_bound}
use Rattle.cert_base.specs.ValidProof.{ValidProof}
use Rattle.cert_json.specs.declared.bundle.Bundle.{Bundle}
use Rattle.cert_text.specs.Bundle.{bundle_data}
use Rattle.cert_text.specs.ReadBack.{IsWritable}
use Rattle.pop_checker.specs.Sound.{IsRight}
use Rattle.theory_tame.specs.Laws.{AreTameEach}
use Rattle.comp_net.specs.declared.choice.LeafChoice.{LeafChoice}
use Rattle.comp_net.specs.declared.fault.CompileFault.{CompileFault}
use Rattle.comp_net.specs.declared.fault.CompileFault.TheVariants.{ManyAtoms, NoRange, TooWide, ManyStates}
use Rattle.comp_net.specs.declared.fault.CompileFault.TheVariants.{WideNet}
use Rattle.comp_net.specs.CompileFaults.{fault_with}
use Rattle.comp_net.specs.BuiltNet.{net_with}
use Rattle.comp_net.specs.BuiltBound.{built_bound}
use Rattle.tool_texts.specs.declared.refusal.Refusal.{Refusal}
use Rattle.tool_texts.specs.declared.refusal.Refusal.TheVariants.{Atoms, Range, Width, States, Wide}
use Rattle.tool_texts.specs.Steps.{◌>>=◌, After}
use Rattle.tool_texts.specs.Lines.{just_two}
use Rattle.tool_texts.specs.declared.output.Output.{Output}
use Rattle.tool_texts.specs.declared.output.Ending.TheVariants.{Done}
use Rattle.tool_bundles.specs.Named.{named, understood}

-- the names and the predicate that the lines give
unfoldable pub asked_by : List (List ℕ) → Result (List (List ℕ) × PredModel) Refusal
asked_by lines = do
  two ← just_two lines
  names ← named (vars_of two.0)
  pred ← understood (pred_read names two.1)
  Ok (names, pred)

-- how a predicate without a built net is refused
abbrev pub refusal_of : CompileFault → Refusal
refusal_of (ManyAtoms atoms) = Atoms atoms
refusal_of (NoRange atom) = Range atom
refusal_of (TooWide atom s) = Width atom s
refusal_of (ManyStates atom states) = States atom states
refusal_of (WideNet atom) = Wide atom

abbrev pub unless_refused : Option Refusal → Result (Unit {0}) Refusal
unless_refused None = Ok tt
unless_refused (Some refusal) = Err refusal

-- the predicate has a built net with these leaves, or it is refused
abbrev pub fits_its_leaves : LeafChoice → PredTree → Result (Unit {0}) Refusal
fits_its_leaves choice tree = unless_refused (option_map refusal_of (fault_with choice tree))

-- A bundle of the predicate's built net over these names, the predicate, and a valid proof with the bound that the
-- atoms give. It can be written, no leaf has two moves that take the same states, the net computes the predicate, and
-- the layers of its leaves are tame.
pub record IsCompiled (choice : LeafChoice) (names : List (List ℕ)) (pred : PredModel) (bundle : Bundle) : Type 0 where
  pub net_is : bundle.net ≡ net_with choice names pred.tree
  pub pred_is : bundle.pred ≡ pred
  pub valid : ValidProof bundle.net bundle.pred bundle.proof
  pub bound : proof_bound bundle.proof ≡ built_bound choice pred.tree
  pub writable : IsWritable bundle
  pub single : IsSingle bundle.net
  pub right : IsRight bundle.net bundle.pred bundle.proof
  pub tame : AreTameEach bundle.net bundle.proof

abbrev pub bundle_line : Bundle → List ℕ
bundle_line bundle = ended (compact_text (bundle_data bundle))

abbrev pub compiled_output : Bundle → Output
compiled_output bundle = record { text = bundle_line bundle; ending = Done }

abbrev pub OfFitting : LeafChoice → List (List ℕ) → PredModel → Unit {0} → Result Output Refusal → Type 0
OfFitting choice names pred fits given =
    (bundle : Bundle) × IsCompiled choice names pred bundle × (given ≡ Ok (compiled_output bundle))

abbrev pub OfAsked : LeafChoice → List (List ℕ) × PredModel → Result Output Refusal → Type 0
OfAsked choice asked_by = After (fits_its_leaves choice asked_by.1.tree) (OfFitting choice asked_by.0 asked_by.1)

-- what the command gives with these leaves for the lines of its input
abbrev pub CompileGives : LeafChoice → List (List ℕ) → Result Output Refusal → Type 0
CompileGives choice lines = After (asked_by lines) (OfAsked choice)
