-- A listed step as it stands in a list (document 01, "Steps"), and what the tests over such entries promise.
use Rattle.std.specs.Prelude.{◌≡◌, Bool, true, List, ◌++◌, ℕ, ◌+◌, ◌<◌, ◌≤◌, length, drop}
use Rattle.calculus.specs.Term.{ren}
use Rattle.terms.specs.Limits.{name_count, longest_term}
use Rattle.steps.specs.Listed.{ListedStep, class_in, result_bytes, bytes}
use Rattle.field.specs.Successors.{answers, binds_name}

-- The step s stands at `at`: as many classes as names, each class one of the names, and a result that fits.
pub record EntryAt (area : List ℕ) (at : ℕ) (s : ListedStep) : Type 0 where
  pub rest : List ℕ
  pub there : drop at area ≡ bytes longest_term s ++ rest
  pub count : length s.classes ≡ name_count
  pub within : (n : ℕ) → n < name_count → class_in s.classes n < name_count
  pub fits : length (result_bytes s) ≤ longest_term

-- Where an entry has its kind, its channel, its object and its result: behind the classes.
abbrev pub kind_byte : ℕ
kind_byte = name_count

abbrev pub channel_byte : ℕ
channel_byte = kind_byte + 1

abbrev pub object_byte : ℕ
object_byte = kind_byte + 2

abbrev pub result_byte : ℕ
result_byte = kind_byte + 3

-- Its result is rewritten by its condition, as document 01 says.
abbrev pub Rewritten : ListedStep → Type 0
Rewritten s = ren (class_in s.classes) s.result ≡ s.result

-- Condition and action of two steps are the same.
pub record SameHeader (s t : ListedStep) : Type 0 where
  pub classes : s.classes ≡ t.classes
  pub kind : s.kind ≡ t.kind
  pub channel : s.channel ≡ t.channel
  pub object : s.object ≡ t.object

-- A test that is met says that the conditions are the same.
unfoldable pub SameClassesIs : List ℕ → ℕ → List ℕ → ℕ → Bool → Type 0
SameClassesIs area at others place r =
    r ≡ true → (s t : ListedStep) → EntryAt area at s → EntryAt others place t → s.classes ≡ t.classes

unfoldable pub SameHeaderIs : List ℕ → ℕ → List ℕ → ℕ → Bool → Type 0
SameHeaderIs area at others place r =
    r ≡ true → (s t : ListedStep) → EntryAt area at s → EntryAt others place t → SameHeader s t

unfoldable pub BindsIs : List ℕ → ℕ → Bool → Type 0
BindsIs area at r = (s : ListedStep) → EntryAt area at s → r ≡ binds_name s

unfoldable pub AnswersIs : List ℕ → ℕ → List ℕ → ℕ → Bool → Type 0
AnswersIs area at others place r =
    (s t : ListedStep) → EntryAt area at s → EntryAt others place t → r ≡ answers name_count s t
