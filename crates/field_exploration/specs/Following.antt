-- The known situations grow while exploration takes one up: each situation that it leads to is looked for among them and put behind them if it is
-- new. What the code promises of it.
use Rattle.std.specs.Prelude.{Option, None, Bool, ◌≡◌, List, ℕ, get_or}
use Rattle.terms.specs.Answer.{result}
use Rattle.terms.specs.Question.{Question, check_of}
use Rattle.field.specs.Setting.{setting_of}
use Rattle.field.specs.Situation.{Situation}
use Rattle.field.specs.Successors.{Outcome, past_limit, leads, successors}
use Rattle.field_growth.specs.Growing.{Knows}
use Rattle.field_growth.specs.Growing.{Grows}
use Rattle.field_growth.specs.Growing.{Leads}

-- The situation of number `taken` is taken up: it is past a limit, or what it leads to is put behind the known ones.
unfoldable pub Follows : List ℕ → ℕ → ℕ → Outcome → List ℕ → ℕ → Option ℕ → List ℕ → Type 0
Follows arities capacity taken past_limit work known r work' = r ≡ None
Follows arities capacity taken (leads ms) work known r work' = Leads arities capacity taken ms work known r work'

pub record GrowIs (differ : Bool) (question : List ℕ) (taken capacity : ℕ) (work : List ℕ) (known : ℕ) (r : Option ℕ) (work' : List ℕ) : Type 0 where
  pub grows : Grows capacity work known r work'
  pub is : (q : Question) → check_of question ≡ result q → (ks : List Situation) (d : Situation) → Knows q.arities capacity work known ks
      → Follows q.arities capacity taken (successors (setting_of differ q.bodies) (get_or ks taken d)) work known r work'
