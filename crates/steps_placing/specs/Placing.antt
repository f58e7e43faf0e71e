-- The steps of a part put into an area on one walk of its parallels and restrictions: what the functions that do so promise.
use Rattle.std.specs.Prelude.{◌≡◌, Bool, true, false, cond, List, ℕ, suc, ◌<◌, ◌≤◌, length, get_or}
use Rattle.calculus.specs.Abstraction.{Act, tau_a}
use Rattle.calculus.specs.Cond.{Cond, cls}
use Rattle.calculus.specs.Distinction.{among}
use Rattle.calculus.specs.Free.{fn}
use Rattle.calculus.specs.Term.{Term, ren}
use Rattle.calculus.specs.Tidy.{tidy}
use Rattle.terms.specs.Answer.{result}
use Rattle.terms.specs.Encoding.{encode, InScope}
use Rattle.terms.specs.Limits.{name_count, longest_term}
use Rattle.terms.specs.Question.{Question, check_of}
use Rattle.steps.specs.Forms.{result_form}
use Rattle.steps.specs.Raw.{step, blocked}
use Rattle.steps_plans.specs.Plans.{receiving, Written}
use Rattle.steps_splicing.specs.Collecting.{PutIs}
use Rattle.steps_splicing.specs.Contexts.{Frame}
use Rattle.steps_entries.specs.declared.listed.ActionBytes.{ActionBytes}
use Rattle.steps.specs.Listed.{canon_step, result_bytes}
use Rattle.steps_splicing.specs.ListedParts.{Lists}
use Rattle.steps_splicing.specs.Locating.{Holes, Classed}
use Rattle.steps_placing.specs.Taking.{candidates_of}
use Rattle.steps_splicing.specs.PlacedResults.{Trivial, Raises}
use Rattle.steps_entries.specs.StepActions.{step_action}
use Rattle.steps_placing.specs.declared.put.Communication.{Communication}

-- A step put into the list, from the classes of its condition, the bytes of its action and those that were written for its result.
pub record PutResultIs (class : List ℕ) (action : ActionBytes) (result : List ℕ) (n : ℕ) (area : List ℕ) (count r : ℕ) (area' : List ℕ) : Type 0 where
  pub is : (out : List ℕ) (x : ℕ) (M : Cond) (α : Act) (A : Term) → longest_term ≤ length out
      → Written out 0 (result_bytes (canon_step result_form name_count x M α A)) n result
      → ((n : ℕ) → n < name_count → get_or class n 0 ≡ cls M n) → action ≡ step_action x M α
      → PutIs (step M α A) x area count r area'

-- A step whose result was written before it is tidied: the bytes of R. Without restrictions R is tidied as it is.
pub record PutWrittenIs (question class : List ℕ) (action : ActionBytes) (written : List ℕ) (n : ℕ) (restricted : Bool) (area : List ℕ) (count r : ℕ) (area' : List ℕ) : Type 0 where
  pub is : (q : Question) (out : List ℕ) (x : ℕ) (M : Cond) (α : Act) (A R : Term) → check_of question ≡ result q → length out ≡ longest_term
      → InScope (suc name_count) q.arities 0 R → Written out 0 (encode 0 R) n written
      → tidy R ≡ tidy (ren (receiving x (cls M) α) A) → (restricted ≡ false → tidy R ≡ R)
      → ((n : ℕ) → n < name_count → get_or class n 0 ≡ cls M n) → action ≡ step_action x M α
      → PutIs (step M α A) x area count r area'

-- A step whose result stands in the part as its term does, put into the list; the term's candidates of this kind are the part's from number `start` on.
pub record PutPlacedIs (question part : List ℕ) (at depth start : ℕ) (silently : Bool) (j : ℕ) (action : ActionBytes) (x : ℕ) (area : List ℕ) (count r : ℕ) (area' : List ℕ) : Type 0 where
  pub is : (q : Question) (P : Term) → Lists question part x q P
      → (K : List Frame) (C : Term) (first number : ℕ) (M : Cond) (α : Act) (A : Term)
      → Raises q P K C at depth first number silently j M α A → start ≡ cond silently number first → Trivial M → action ≡ step_action x M α
      → PutIs (step M α A) x area count r area'

-- The part's candidate of a number put into the list, from the classes of its condition and the bytes of its action.
pub record PutClassedIs (question part : List ℕ) (silently : Bool) (i : ℕ) (class : List ℕ) (action : ActionBytes) (x : ℕ) (area : List ℕ) (count r : ℕ) (area' : List ℕ) : Type 0 where
  pub is : (q : Question) (P : Term) → Lists question part x q P
      → (M : Cond) (α : Act) (A : Term) → get_or (candidates_of silently q P) i blocked ≡ step M α A
      → ((n : ℕ) → n < name_count → get_or class n 0 ≡ cls M n) → action ≡ step_action x M α
      → PutIs (step M α A) x area count r area'

-- A silent step put into the list, from the classes of its condition and the bytes that were written for its result but for the names that are merged: those of B.
pub record PutSilentIs (question class written : List ℕ) (n : ℕ) (merges restricted : Bool) (area : List ℕ) (count r : ℕ) (area' : List ℕ) : Type 0 where
  pub is : (q : Question) (out : List ℕ) (x : ℕ) (M : Cond) (B A : Term) → check_of question ≡ result q → length out ≡ longest_term
      → Classed merges class M → InScope name_count q.arities 0 B → Written out 0 (encode 0 B) n written
      → tidy B ≡ tidy A → (restricted ≡ false → tidy B ≡ B)
      → PutIs (step M tau_a A) x area count r area'

-- What was written for a communication whose result is A. [Com]: the result itself. [Close]: the two sides without the restriction, where a name that stands
-- for nothing else is sent; where it does not occur the restriction binds nothing, and goes.
unfoldable pub StandsFor : (closes : Bool) → Term → Term → Type 0
StandsFor false B A = B ≡ A
StandsFor true B A = among (fn B) name_count ≡ false → tidy B ≡ tidy A

-- A communication put into the list: the silent candidate of this number of the part, for which the bytes of B are put together but for the names that its
-- condition merges.
pub record PutMetIs (question part : List ℕ) (met : Communication) (class area : List ℕ) (count r : ℕ) (area' : List ℕ) : Type 0 where
  pub is : (q : Question) (P : Term) → Lists question part met.x q P
      → (M : Cond) (B A : Term) → get_or (candidates_of true q P) met.number blocked ≡ step M tau_a A → Classed met.merges class M
      → Holes q part met.left met.right met.new (encode 0 B) → InScope (suc name_count) q.arities 0 B → StandsFor met.closes B A
      → PutIs (step M tau_a A) met.x area count r area'
