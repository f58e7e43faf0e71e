use mathlib.Core.Path.{◌≡◌, refl}
use Prim.Native.Nat.{◌+◌}
use Rattle.terms_bytes.specs.Refusals.{number_of}
use Rattle.terms_bytes.specs.declared.answer.Refusal.{Refusal}
use Rattle.terms_bytes.specs.declared.answer.Refusal.TheVariants.{Capacity, WorkArea, Version, Layout, Definitions, TermLength, Grammar, UnknownDefinition, UnknownName, Parallel, Unguarded, ApartList, ListedSide, MergedNames, ResultArea, NameCount, ConvertedLength, ChosenNames}
use Rattle.terms_bytes.specs.contracts.answer.Refusal as contract
use denote.Enum.Declared.{tag_of}
use Rattle.terms_bytes.proofs.answer.Refusal.number.Goals as goal

number_is : (k : Refusal) → tag_of contract.the_type k + 1 ≡ number_of k
unfolding number_of
number_is Capacity = refl
number_is WorkArea = refl
number_is Version = refl
number_is Layout = refl
number_is Definitions = refl
number_is TermLength = refl
number_is Grammar = refl
number_is UnknownDefinition = refl
number_is UnknownName = refl
number_is Parallel = refl
number_is Unguarded = refl
number_is ApartList = refl
number_is ListedSide = refl
number_is MergedNames = refl
number_is ResultArea = refl
number_is NameCount = refl
number_is ConvertedLength = refl
number_is ChosenNames = refl

pub returns : goal.returns
returns c = number_is c.args.self
