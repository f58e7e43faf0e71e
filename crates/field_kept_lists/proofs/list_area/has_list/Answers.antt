use native.Mathlib.Omega.{arith}
use mathlib.Core.Path.{◌≡◌}
use Prim.Native.Nat.{ℕ}
use Rattle.field_kept_lists.proofs.LabelLaws.{label_is}
use Rattle.field_kept_lists.proofs.list_area.has_list.Goals as goal

pub returns-then-get-x : goal.returns-then-get-x
returns-then-get-x c = λ t. let z : ◌≡◌ {A = ℕ} 0 1 = cc in absurd (omega arith)

pub returns-then-get-part : goal.returns-then-get-part
returns-then-get-part c = λ t. let z : ◌≡◌ {A = ℕ} 0 1 = cc in absurd (omega arith)

pub returns : goal.returns
returns c =
    λ t. label_is _ _ _ _ c.requires.0 c.requires.1 (omega (arith, c.get.ensures, c.if-get-x.false)) (omega (
      arith,
      c.get-2.ensures,
      c.if-get-part.false,
    )) _ c.alike.ensures t
