-- What follows where checks 1 and 2 turn back, and where they pass. Assumes nothing.
use mathlib.Core.Path.{◌≡◌, sym, ap, ◌∙◌}
use Rattle.std.specs.Prelude.{Result, Ok, Err, ⊤}
use Rattle.terms.specs.Answer.{Answer, refused, result, ◌>>◌}
use Rattle.terms_bytes.specs.Refusals.{number_of}
use Rattle.terms_bytes.specs.declared.answer.Refusal.{Refusal}
use Rattle.verdict_capacity.specs.Capacities.{capacity_answer}

module _ (c : Result ⊤ Refusal) (m : Answer (Unit {0})) (is : capacity_answer c ≡ m) where
  -- nothing behind them is looked at
  pub capacity-refused : {A : Type 0} (r : Answer A) (k : Refusal) → c ≡ Err k → (m >> r) ≡ refused (number_of k)
  unfolding capacity_answer ◌>>◌
  capacity-refused r k e = ap (λ m. m >> r) (sym is ∙ ap capacity_answer e)

  pub capacity_passed : (u : ⊤) → c ≡ Ok u → m ≡ result tt
  unfolding capacity_answer
  capacity_passed u e = sym is ∙ ap capacity_answer e
