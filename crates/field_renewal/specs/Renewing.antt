-- A kept list of a part for one new name, made the list at hand for another: what the code promises of it.
use Rattle.std.specs.Prelude.{Option, Some, None, true, List, map, ◌≡◌, ℕ, suc, ◌*◌, ◌<◌, get_or, take}
use Rattle.std.proofs.lemmas.List.Edits.{sets}
use Rattle.calculus.specs.Term.{put}
use Rattle.terms.specs.Encoding.{InScope}
use Rattle.terms.specs.Limits.{name_count, longest_term}
use Rattle.steps_entries.specs.Entries.{entry_from, comes_before}
use Rattle.steps.specs.Limits.{step_bytes}
use Rattle.steps.specs.Listed.{ListedStep, bytes}
use Rattle.steps.specs.Operations.{list_bytes}
use Rattle.steps_lister.specs.Renewed.{renewed}
use Rattle.field_pairs.specs.Entry.{EntryAt}
use Rattle.field_kept_lists.specs.ListArea.{ListIn}
use Rattle.field_renewal.specs.ListedEntries.{ListAt}

-- The step at `at`, renewed, by a table that puts x for y.
unfoldable pub RenewsStep : List ℕ → ℕ → List ℕ → List ℕ → ℕ → List ℕ → ℕ → List ℕ → Type 0
RenewsStep src at arities table x area to area' =
    (y : ℕ) (s : ListedStep) → ((n : ℕ) → n < name_count → get_or table n 0 ≡ put y x n) → EntryAt src at s
    → InScope name_count arities 0 s.result → area' ≡ sets area to (bytes longest_term (renewed y x s))

-- A list of n steps, renewed.
unfoldable pub RenewsSteps : List ℕ → ℕ → List ℕ → ℕ → ℕ → List ℕ → Type 0
RenewsSteps src n arities y x area' =
    (ss : List ListedStep) → ListAt arities src n ss → take (step_bytes * n) area' ≡ list_bytes (map (renewed y x) ss)

-- Each of the n steps comes before the next.
unfoldable pub Ascends : List ℕ → ℕ → Type 0
Ascends area n =
    (i : ℕ) → suc i < n → comes_before (entry_from area (step_bytes * i)) (entry_from area (step_bytes * suc i)) ≡ true

-- The list at hand is that of the part for the new name x, where the answer is a number.
unfoldable pub RenewedIs : List ℕ → List ℕ → ℕ → Option ℕ → List ℕ → Type 0
RenewedIs question part x None area = Unit
RenewedIs question part x (Some n) area = ListIn question part x n area
