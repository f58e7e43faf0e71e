-- A listed step for another new name: what a list for one new name says for another.
use Rattle.std.specs.Prelude.{Bool, cond, ◌||◌, ℕ, eqb}
use Rattle.calculus.specs.Term.{ren, put}
use Rattle.steps.specs.Listed.{ListedStep}

-- whether the step receives or extrudes a name
unfoldable pub binds_new : ListedStep → Bool
binds_new s = eqb s.kind 1 || eqb s.kind 3

-- the new name y made x, in a step that binds it
unfoldable pub renewed : ℕ → ℕ → ListedStep → ListedStep
renewed y x s =
    cond (binds_new s)
    (record { classes = s.classes; kind = s.kind; channel = s.channel; object = x; result = ren (put y x) s.result }) s
