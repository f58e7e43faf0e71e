-- The question that asks about a pair of parts inside a larger exchange (document 02, request 2026-13).
use Rattle.std.specs.Prelude.{◌≡◌}
use Rattle.calculus.specs.Cond.{Pairs}
use Rattle.calculus.specs.Distinction.{Within}
use Rattle.calculus.specs.Inside.{Inside}
use Rattle.terms.specs.Question.{Question}

-- The same definitions, the pair inside its parts, and at least the pairs that are needed held apart.
pub record LargerQuestion (q larger : Question) : Type 0 where
  pub arities : larger.arities ≡ q.arities
  pub bodies : larger.bodies ≡ q.bodies
  pub needed : Pairs
  pub inside : Inside q.apart q.first q.second needed larger.first larger.second
  pub apart : Within needed larger.apart
