-- The checks' numbers, as document 01 has them.
use Rattle.std.specs.Prelude.{ℕ}
use Rattle.terms_bytes.specs.declared.answer.Refusal.{Refusal}
use Rattle.terms_bytes.specs.declared.answer.Refusal.TheVariants.{Capacity, WorkArea, Version, Layout, Definitions, TermLength, Grammar, UnknownDefinition, UnknownName, Parallel, Unguarded, ApartList, ListedSide, MergedNames, ResultArea, NameCount, ConvertedLength, ChosenNames}

unfoldable pub number_of : Refusal → ℕ
number_of Capacity = 1
number_of WorkArea = 2
number_of Version = 3
number_of Layout = 4
number_of Definitions = 5
number_of TermLength = 6
number_of Grammar = 7
number_of UnknownDefinition = 8
number_of UnknownName = 9
number_of Parallel = 10
number_of Unguarded = 11
number_of ApartList = 12
number_of ListedSide = 13
number_of MergedNames = 14
number_of ResultArea = 15
number_of NameCount = 16
number_of ConvertedLength = 17
number_of ChosenNames = 18
