-- What a situation leads to, part by part: the steps of a side, the answers to each, and the known situations that grow by them. Assumes nothing.
use mathlib.Core.Bool.{Bool, true, false, cond}
use mathlib.Core.List.{List, [], ◌∷◌, ◌++◌, append_assoc}
use mathlib.Core.Path.{◌≡◌, refl, sym, ◌∙◌, ap}
use Rattle.field.specs.Situation.{Situation}
use Rattle.field.specs.Successors.{select}
use Rattle.field.specs.Exploration.{together}
use Rattle.field_growth.specs.Growing.{grown_by, grown}

pub grown-++ : (known xs ys : List Situation) → grown known (xs ++ ys) ≡ grown (grown known xs) ys
unfolding grown
grown-++ known [] ys = refl
grown-++ known (x ∷ xs) ys = grown-++ (grown_by known x) xs ys

pub together-++ : (ms ns : List (List Situation)) → together (ms ++ ns) ≡ together ms ++ together ns
unfolding together
together-++ [] ns = refl
together-++ (m ∷ ms) ns = ap (m ++◌) (together-++ ms ns) ∙ sym (append_assoc m (together ms) (together ns))

module _ {A : Type 0} (f : A → Bool) where
  pub select-++ : (xs ys : List A) → select f (xs ++ ys) ≡ select f xs ++ select f ys
  unfolding select
  select-++ [] ys = refl
  select-++ (x ∷ xs) ys = go (f x) (select-++ xs ys)
    where
      go : (b : Bool) → select f (xs ++ ys) ≡ select f xs ++ select f ys
          → cond b (x ∷ select f (xs ++ ys)) (select f (xs ++ ys)) ≡ cond b (x ∷ select f xs) (select f xs) ++ select f ys
      go true e = ap (x ∷◌) e
      go false e = e
