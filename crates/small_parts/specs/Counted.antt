-- How many things have a property: a list holds them, each once.
use Rattle.std.specs.Prelude.{List, ◌↔◌, ◌≡◌, ℕ, length}
use Rattle.calculus.specs.Lists.{◌∈◌, Distinct}

pub record Counted {A : Type 0} (Has : A → Type 0) (n : ℕ) : Type 0 where
  pub all : List A
  pub distinct : Distinct all
  pub members : (a : A) → (a ∈ all) ↔ Has a
  pub number : length all ≡ n
