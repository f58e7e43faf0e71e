use mathlib.Core.Path.{◌≡◌, refl, ap, ◌∙◌}
use mathlib.Core.List.{List}
use Prim.Native.Nat.{ℕ, zero, suc}
use native.Mathlib.Omega.{arith}
use lib.ListN.{length, get_or, drop, get_or-append, length-take}
use Rattle.std.proofs.Common.{replicate}
use Rattle.steps_places.specs.PlaceWalks.{Cleared}
use Rattle.steps_places.proofs.places.clear.Goals as goal

all_zero : (n r : ℕ) → get_or (replicate {A = ℕ} n 0) r 0 ≡ 0
all_zero zero r = refl
all_zero (suc n) zero = refl
all_zero (suc n) (suc r) = all_zero n r

pub returns : goal.returns
unfolding Cleared
returns c = λ r h.
    let l : length c.fill.new.self ≡ c.args.rows = omega (arith, c.fill.ensures.len, c.requires, length-take c.args.rows c.args.found.now) in
    let e = c.fill.ensures.after (λ y z. z) in
    get_or-append c.fill.new.self (drop c.args.rows c.args.found.now) 0 r (omega arith) ∙ ap (λ (k : List ℕ). get_or k r 0) e ∙ all_zero _ r
