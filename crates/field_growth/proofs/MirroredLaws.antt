-- A step of the second side that is answered by one with the same header leads where the first side's step led, to which it is the answer.
-- Assumes nothing.
use mathlib.Core.Bool.{Bool, true, false, cond, ◌&&◌, not}
use mathlib.Core.List.{List, [], ◌∷◌, ◌++◌}
use mathlib.Core.Logic.{inl, inr}
use mathlib.Core.Path.{◌≡◌, refl, sym, ◌∙◌, ap, ap₂, subst}
use native.Mathlib.Omega.{arith}
use Prim.Native.Nat.{ℕ, ◌<◌}
use lib.Dec.{eqb, ltb}
use Rattle.calculus.specs.Cond.{Pairs, map_p}
use Rattle.calculus.specs.OpenBisimulation.{times}
use Rattle.calculus.specs.Term.{ren, put}
use Rattle.terms.specs.Limits.{name_count}
use Rattle.calculus.specs.Lists.{◌∈◌}
use Rattle.steps.specs.Listed.{ListedStep, names_from, class_in, implies, own_classes}
use Rattle.field_pairs.specs.Entry.{Rewritten, SameHeader}
use Rattle.field.specs.Exploration.{together}
use Rattle.field_growth.specs.Growing.{looked_with, MirroredBy, Mirrored, moved}
use Rattle.field_successors.specs.Leading.{placed, leading}
use Rattle.field.specs.Situation.{Situation, free_from, situation}
use Rattle.field.specs.Successors.{permitted, answers, extruded_by, updated_by, unconditional, allowed, received, led, answers_to}
use Rattle.field_renewal.specs.ListedEntries.{ListAt}
use Rattle.field_growth.proofs.LookedLaws.{Offered, looked_offered}
use Rattle.field.proofs.Members.{∈-number}
use Rattle.field.proofs.Moves.{in_moves, in_answers}
use Rattle.field.proofs.Unseen.{∈-together}

-- what holds of a condition
permitted-same : (D : Pairs) (s t : ListedStep) → s.classes ≡ t.classes → permitted D s ≡ permitted D t
unfolding permitted
permitted-same [] s t e = refl
permitted-same (p ∷ D) s t e = ap₂ (λ c b. not (eqb (class_in c p.0) (class_in c p.1)) && b) e (permitted-same D s t e)

module _ (s t : ListedStep) (h : SameHeader s t) where
  -- each answers the other, or neither does
  answers-same : (names : ℕ) → answers names s t ≡ answers names t s
  unfolding answers
  answers-same names = λ i.
      eqb (h.kind i) (sym h.kind i) && eqb (h.channel i) (class_in (h.classes i) (sym h.channel i))
      && eqb (h.object i) (class_in (h.classes i) (sym h.object i)) && implies (h.classes i) (sym h.classes i) (names_from 0 names)

  updated-same : (F : List ℕ) (D : Pairs) → updated_by F D s ≡ updated_by F D t
  unfolding updated_by extruded_by
  updated-same F D = λ i. map_p (class_in (h.classes i)) (times (cond (eqb (h.kind i) 3) (h.object i ∷ []) []) F ++ D)

  -- the same steps must be answered, with the same names
  allowed_same : (differ : Bool) (D : Pairs) → allowed differ name_count D s ≡ allowed differ name_count D t
  unfolding allowed unconditional
  allowed_same false D = permitted-same D s t h.classes
  allowed_same true D = ap (λ c. own_classes c (names_from 0 name_count)) h.classes

  looked_same : (differ : Bool) (G : List ℕ) → looked_with differ G s ≡ looked_with differ G t
  unfolding looked_with received
  looked_same false G = refl
  looked_same true G =
      λ i. cond (eqb (h.kind i) 1) (free_from (h.object i ∷ free_from G 0 name_count) 0 name_count) (h.object i ∷ [])

  -- both lead to one situation
  leading-same : Rewritten s → Rewritten t → (F : List ℕ) (D : Pairs) (name : ℕ) → leading true F D s t name ≡ leading false F D t s name
  unfolding leading led placed
  leading-same own other F D name = go (ltb name name_count)
    where
      P : ren (class_in s.classes) t.result ≡ t.result
      P = ap (λ c. ren (class_in c) t.result) h.classes ∙ other

      Q : s.result ≡ ren (class_in t.classes) s.result
      Q = sym (ap (λ c. ren (class_in c) s.result) (sym h.classes) ∙ own)

      go : (b : Bool) → led b (placed true) F D s t name ≡ led b (placed false) F D t s name
      go false = λ i. situation name_count (P i) (Q i) (updated-same F D i)
      go true = ap (λ x. situation name_count (ren (put x name) t.result) (ren (put x name) s.result) []) h.object

module _ (differ : Bool) (G : List ℕ) (D : Pairs) (ps qs : List ListedStep) where
  abbrev F : List ℕ
  F = free_from G 0 name_count

  led_there : (t s : ListedStep) → t ∈ ps → s ∈ qs → allowed differ name_count D t ≡ true → answers name_count t s ≡ true → (name : ℕ) → Offered differ G t name
      → leading false F D t s name ∈ together (moved differ false G D ps qs)
  unfolding moved
  led_there t s j i may a name o =
      ∈-together (moved differ false G D ps qs) (answers_to differ name_count (placed false) F D qs t o.as_name) (leading false F D t s name)
      (in_moves differ name_count (placed false) F D ps qs t j may o.as_name o.there)
      (subst (λ u. u ∈ answers_to differ name_count (placed false) F D qs t o.as_name) (sym (o.same false D s))
      (in_answers differ name_count (placed false) F D qs t o.as_name s i a))

  pub mirrored : ((s : ListedStep) → s ∈ qs → Rewritten s) → ((t : ListedStep) → t ∈ ps → Rewritten t) → ((t : ListedStep) → t ∈ ps → t.object < name_count)
      → Mirrored differ true G D qs ps (together (moved differ false G D ps qs))
  mirrored own other below s i may name k z t j a h =
      subst (λ u. u ∈ together (moved differ false G D ps qs)) (sym (leading-same s t h (own s i) (other t j) F D name))
      (led_there t s j i (sym (allowed_same s t h differ D) ∙ may) (sym (answers-same s t h name_count) ∙ a) name
      (looked_offered differ G t (below t j) name (subst (λ ns. name ∈ ns) (looked_same s t h differ G) k)))

pub all-rewritten : (arities area : List ℕ) (count : ℕ) (ss : List ListedStep) → ListAt arities area count ss → (s : ListedStep) → s ∈ ss → Rewritten s
all-rewritten arities area count ss l s m =
    let (i, b, e) = ∈-number s ss m in
    subst Rewritten (sym (e s)) (l.rewritten i s (omega (arith, l.number)))

pub all_objects : (arities area : List ℕ) (count : ℕ) (ss : List ListedStep) → ListAt arities area count ss → (s : ListedStep) → s ∈ ss → s.object < name_count
all_objects arities area count ss l s m =
    let (i, b, e) = ∈-number s ss m in
    subst (λ t. t.object < name_count) (sym (e s)) (l.objects i s (omega (arith, l.number)))

-- The first side's steps are not asked for.
pub first_mirrored : (differ : Bool) (G : List ℕ) (D : Pairs) (ss ts : List ListedStep) (before : List Situation) → Mirrored differ false G D ss ts before
first_mirrored differ G D ss ts before s i may name k z = let w : ◌≡◌ {A = ℕ} 0 1 = cc in absurd (omega arith)

-- What is said of lists holds of one of their steps.
pub one_of : {A : Type 0} (xs : List A) (x : A) → x ∈ xs → (y : A) → y ∈ (x ∷ []) → y ∈ xs
one_of xs x m y (inl e) = subst (λ z. z ∈ xs) (sym e) m
one_of xs x m y (inr n) = absurd n

module _ (second : Bool) (G : List ℕ) (D : Pairs) where
  pub one_answer_mirrored : (name : ℕ) (s : ListedStep) (before : List Situation) (ts : List ListedStep) (t : ListedStep) → t ∈ ts
      → MirroredBy second G D name s ts before → MirroredBy second G D name s (t ∷ []) before
  one_answer_mirrored name s before ts t m h z b j = h z b (one_of ts t m b j)

  pub one_step_mirrored : (differ : Bool) (before : List Situation) (ss ts : List ListedStep) (s : ListedStep) → s ∈ ss
      → Mirrored differ second G D ss ts before → Mirrored differ second G D (s ∷ []) ts before
  one_step_mirrored differ before ss ts s m h a i = h a (one_of ss s m a i)
