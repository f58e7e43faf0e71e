-- A situation of the work area taken up: its free names, its apart pairs and the steps of both sides, and what the code promises of them.
use Rattle.std.specs.Prelude.{◌≡◌, List, ℕ, ◌*◌, ◌<◌, length, get_or}
use Rattle.terms.specs.Encoding.{InScope}
use Rattle.terms.specs.Limits.{name_count}
use Rattle.steps.specs.Limits.{step_bytes}
use Rattle.steps.specs.Listed.{ListedStep}
use Rattle.field_pairs.specs.Entry.{EntryAt, Rewritten}

-- A list of steps in an area, each at its place, with results of the question's definitions, rewritten by the conditions, and objects that are names.
pub record ListAt (arities area : List ℕ) (count : ℕ) (ss : List ListedStep) : Type 0 where
  pub number : length ss ≡ count
  pub entry : (i : ℕ) (d : ListedStep) → i < count → EntryAt area (step_bytes * i) (get_or ss i d)
  pub scope : (i : ℕ) (d : ListedStep) → i < count → InScope name_count arities 0 (get_or ss i d).result
  pub rewritten : (i : ℕ) (d : ListedStep) → i < count → Rewritten (get_or ss i d)
  pub objects : (i : ℕ) (d : ListedStep) → i < count → (get_or ss i d).object < name_count

-- The steps of a list at their places, whatever names their results have; and whether one of them binds a name.
unfoldable pub EntriesAt : List ℕ → ℕ → List ListedStep → Type 0
EntriesAt area count ss = (length ss ≡ count) × ((i : ℕ) (d : ListedStep) → i < count → EntryAt area (step_bytes * i) (get_or ss i d))
