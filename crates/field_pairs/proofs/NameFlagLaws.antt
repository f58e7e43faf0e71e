-- Flags of names: those free in two parts, and the smallest that is not. Assumes nothing.
use mathlib.Core.Path.{◌≡◌, refl, sym, ap, ◌∙◌}
use mathlib.Core.Bool.{Bool, true, false, cond, ◌||◌}
use mathlib.Core.List.{List, [], ◌∷◌, ◌++◌}
use Prim.Native.Nat.{ℕ, suc, ◌+◌, ◌-◌, ◌<◌}
use native.Mathlib.Omega.{arith}
use lib.ListN.{get_or, replicate, get_or-replicate}
use lib.Dec.{eqb}
use Rattle.calculus.specs.Distinction.{among}
use Rattle.calculus.specs.Free.{fn}
use Rattle.calculus.specs.Term.{Term}
use Rattle.terms.specs.Limits.{name_count}
use Rattle.terms_renaming.specs.FreeFlags.{MarksFree}
use Rattle.terms_renaming.proofs.FreeTests.{marked_flag}
use Rattle.field_pairs.specs.NameFlags.{HasNames, NewNameIs}
use Rattle.field.specs.Situation.{missing, new_name}
use Rattle.field_pairs.specs.Slot.{flag}

or_assoc : (s t u : Bool) → ((s || t) || u) ≡ (s || (t || u))
or_assoc true t u = refl
or_assoc false t u = refl

pub among-++ : (xs ys : List ℕ) (n : ℕ) → among (xs ++ ys) n ≡ (among xs n || among ys n)
unfolding among
among-++ [] ys n = refl
among-++ (x ∷ xs) ys n = ap (λ t. eqb n x || t) (among-++ xs ys n) ∙ sym (or_assoc (eqb n x) (among xs n) (among ys n))

-- No flag is set at first; a part sets those of its free names.
pub no_names : HasNames (replicate name_count 0) []
unfolding HasNames among flag
no_names n l = get_or-replicate name_count n 0 0 l

pub more-names : (P : Term) (F flags flags' : List ℕ) → MarksFree P flags flags' → HasNames flags F → HasNames flags' (F ++ fn P)
unfolding HasNames flag
more-names P F flags flags' m h n l =
    marked_flag P flags flags' m n l ∙ ap (cond (among (fn P) n) 1) (h n l) ∙ go (among F n) (among (fn P) n) ∙ ap flag (sym (among-++ F (fn P) n))
  where
    go : (s t : Bool) → cond t 1 (flag s) ≡ flag (s || t)
    go true true = refl
    go true false = refl
    go false true = refl
    go false false = refl

-- The search for the smallest that is missing: those below n are there.
abbrev pub Sought : List ℕ → ℕ → Type 0
Sought free n = (G : List ℕ) → HasNames free G → missing G 0 name_count ≡ missing G n (name_count - n)

module _ (free : List ℕ) (n : ℕ) (l : n < name_count) (so : Sought free n) where
  rest : (G : List ℕ) → missing G n (name_count - n) ≡ cond (among G n) (missing G (n + 1) (name_count - (n + 1))) n
  unfolding missing
  rest G =
      let k : name_count - n ≡ suc (name_count - (n + 1)) = omega arith in
      let m : suc n ≡ n + 1 = omega arith in
      rw (k, m)

  there : (G : List ℕ) → HasNames free G → (t : Bool) → among G n ≡ t → get_or free n 0 ≡ flag t
  unfolding HasNames
  there G h t e = h n l ∙ ap flag e

  pub sought_next : (get_or free n 0 ≡ 0 → ⊥) → Sought free (n + 1)
  unfolding flag
  sought_next k G h = so G h ∙ rest G ∙ go (among G n) refl
    where
      go : (t : Bool) → among G n ≡ t → cond t (missing G (n + 1) (name_count - (n + 1))) n ≡ missing G (n + 1) (name_count - (n + 1))
      go true e = refl
      go false e = absurd (k (there G h false e))

  pub sought-found : get_or free n 0 ≡ 0 → NewNameIs free n
  unfolding new_name flag
  sought-found k = record { within = omega arith; is = λ P Q h. sym (so (fn P ++ fn Q) h ∙ rest (fn P ++ fn Q) ∙ go (fn P ++ fn Q) h (among (fn P ++ fn Q) n) refl) }
    where
      go : (G : List ℕ) → HasNames free G → (t : Bool) → among G n ≡ t → cond t (missing G (n + 1) (name_count - (n + 1))) n ≡ n
      go G h true e = absurd (omega (arith, k, there G h true e))
      go G h false e = refl

pub sought-none : (free : List ℕ) (n : ℕ) → n ≡ name_count → Sought free n → NewNameIs free name_count
unfolding new_name missing
sought-none free n e so =
    record { within = omega arith; is = λ P Q h. sym (so (fn P ++ fn Q) h ∙ ap (λ k. missing (fn P ++ fn Q) k (name_count - k)) e) }
