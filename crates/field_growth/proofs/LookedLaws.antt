-- The names with which a step is looked at, and what it leads to with each of them. Assumes nothing.
use mathlib.Core.Bool.{Bool, true, false, cond}
use mathlib.Core.List.{List, [], ◌∷◌, ◌++◌, map, append_assoc, append-nil}
use mathlib.Core.Logic.{inl, inr}
use mathlib.Core.Path.{◌≡◌, refl, sym, ◌∙◌, ap, ap₂}
use native.Mathlib.Omega.{arith}
use Prim.Native.Nat.{ℕ, ◌<◌}
use lib.Dec.{eqb}
use borrow.Author.Tests.{lt-ltb}
use Rattle.calculus.specs.Cond.{Pairs}
use Rattle.calculus.specs.Distinction.{among}
use Rattle.calculus.specs.Free.{In}
use Rattle.calculus.proofs.Renaming.{map-++}
use Rattle.calculus.proofs.Selection.{among_in}
use Rattle.terms.specs.Limits.{name_count}
use Rattle.calculus.specs.Lists.{◌∈◌}
use Rattle.steps.specs.Listed.{ListedStep}
use Rattle.field.specs.Exploration.{together}
use Rattle.field.specs.Situation.{Situation, free_from}
use Rattle.field.specs.Successors.{select, answers, allowed, received, led, join_all, answers_to, moves_of, moves}
use Rattle.field.proofs.Proper.{from_free}
use Rattle.field_pairs.proofs.ReceivedNames.{received-below}
use Rattle.field_successors.specs.Leading.{placed, leading}
use Rattle.field_growth.specs.Holding.{unanswered}
use Rattle.field_growth.specs.Growing.{answered, looked_with, answered_with, moved}
use Rattle.field_growth.proofs.Loops.{select-++, together-++}

-- Names as members.
in_∈ : (ns : List ℕ) (n : ℕ) → In n ns → n ∈ ns
in_∈ [] n x' = elim x' [ ]
in_∈ (m ∷ ns) n (inl e) = inl e
in_∈ (m ∷ ns) n (inr i) = inr (in_∈ ns n i)

pub among-∈ : (ns : List ℕ) (n : ℕ) → among ns n ≡ true → n ∈ ns
among-∈ ns n e = in_∈ ns n (among_in ns n e)

-- A step is looked at with some name.
pub looked_some : (differ : Bool) (G : List ℕ) (s : ListedStep) → s.object < name_count → (name : ℕ) × (name ∈ looked_with differ G s)
unfolding looked_with received
looked_some false G s l = (name_count, inl refl)
looked_some true G s l = (s.object, go (eqb s.kind 1))
  where
    L : List ℕ
    L = s.object ∷ free_from G 0 name_count

    go : (b : Bool) → s.object ∈ cond b (free_from L 0 name_count) (s.object ∷ [])
    go true = in_∈ (free_from L 0 name_count) s.object (from_free L 0 name_count s.object (inl refl) (omega arith) (omega arith))
    go false = inl refl

-- To lead on with such a name is to lead on with one that is received.
pub record Offered (differ : Bool) (G : List ℕ) (s : ListedStep) (name : ℕ) : Type 0 where
  pub as_name : ℕ
  pub there : as_name ∈ received differ name_count (free_from G 0 name_count) s
  pub same : (second : Bool) (D : Pairs) (t : ListedStep)
      → leading second (free_from G 0 name_count) D s t name ≡ led differ (placed second) (free_from G 0 name_count) D s t as_name

pub looked_offered : (differ : Bool) (G : List ℕ) (s : ListedStep) → s.object < name_count → (name : ℕ) → name ∈ looked_with differ G s → Offered differ G s name
unfolding looked_with received leading led
looked_offered false G s l name (inr x3) = elim x3 [ ]
looked_offered false G s l name (inl e) = record {
  as_name = s.object;
  there = inl refl;
  same = λ second D t. ap (λ n. leading second (free_from G 0 name_count) D s t n) e;
}
looked_offered true G s l name i = record {
  as_name = name;
  there = i;
  same = λ second D t. ap (λ b. led b (placed second) (free_from G 0 name_count) D s t name) (lt-ltb name name_count (received-below G s l name i));
}

-- Lists of lists.
module _ {A : Type 0} where
  join-++ : (xss yss : List (List A)) → join_all (xss ++ yss) ≡ join_all xss ++ join_all yss
  unfolding join_all
  join-++ [] yss = refl
  join-++ (xs ∷ xss) yss = ap (xs ++◌) (join-++ xss yss) ∙ sym (append_assoc xs (join_all xss) (join_all yss))

module _ {A B : Type 0} (f g : A → B) where
  map_same : (xs : List A) → ((x : A) → x ∈ xs → f x ≡ g x) → map f xs ≡ map g xs
  map_same [] h = refl
  map_same (x ∷ xs) h = ap₂ ◌∷◌ (h x (inl refl)) (map_same xs (λ y i. h y (inr i)))

module _ (f : ℕ → List Situation) where
  pub unanswered-each : (names : List ℕ) → ((n : ℕ) → unanswered (f n ∷ []) ≡ false) → unanswered (map f names) ≡ false
  unfolding unanswered
  unanswered-each [] h = refl
  unanswered-each (n ∷ names) h = go (f n) (h n) (unanswered-each names h)
    where
      go : (m : List Situation) → unanswered (m ∷ []) ≡ false → unanswered (map f names) ≡ false → unanswered (m ∷ map f names) ≡ false
      go [] e r = e
      go (x ∷ m) e r = r

  pub together-empty : (names : List ℕ) → ((n : ℕ) → f n ≡ []) → together (map f names) ≡ []
  unfolding together
  together-empty [] h = refl
  together-empty (n ∷ names) h = ap₂ ◌++◌ (h n) (together-empty names h)

module _ (differ second : Bool) (G : List ℕ) (D : Pairs) where
  abbrev F : List ℕ
  F = free_from G 0 name_count

  pub moved-++ : (ts xs ys : List ListedStep) → moved differ second G D (xs ++ ys) ts ≡ moved differ second G D xs ts ++ moved differ second G D ys ts
  unfolding moved moves
  moved-++ ts xs ys =
      let g : ListedStep → List (List Situation) = moves_of differ name_count (placed second) F D ts in
      let test : ListedStep → Bool = allowed differ name_count D in
      ap (λ us. join_all (map g us)) (select-++ test xs ys) ∙ ap join_all (map-++ g (select test xs) (select test ys))
      ∙ join-++ (map g (select test xs)) (map g (select test ys))

  pub together-moved : (ts xs ys : List ListedStep)
      → together (moved differ second G D (xs ++ ys) ts) ≡ together (moved differ second G D xs ts) ++ together (moved differ second G D ys ts)
  together-moved ts xs ys = ap together (moved-++ ts xs ys) ∙ together-++ (moved differ second G D xs ts) (moved differ second G D ys ts)

  pub moved_none : (s : ListedStep) (ts : List ListedStep) → allowed differ name_count D s ≡ false → moved differ second G D (s ∷ []) ts ≡ []
  unfolding moved moves select join_all
  moved_none s ts e = rw e refl

-- A step with each of its names.
named-moves : (differ second : Bool) (G : List ℕ) (D : Pairs) (s : ListedStep) (ts : List ListedStep) → s.object < name_count
    → moves_of differ name_count (placed second) (free_from G 0 name_count) D ts s ≡ answered_with second G D (looked_with differ G s) s ts
unfolding moves_of received answers_to looked_with answered_with answered leading led
named-moves false second G D s ts l = refl
named-moves true second G D s ts l =
    map_same (answers_to true name_count (placed second) (free_from G 0 name_count) D ts s) (λ name. answered second G D name s ts)
    (received true name_count (free_from G 0 name_count) s)
    (λ name i.
    ap (λ b. map (λ t. led b (placed second) (free_from G 0 name_count) D s t name) (select (answers name_count s) ts))
    (sym (lt-ltb name name_count (received-below G s l name i))))

pub moved_one : (differ second : Bool) (G : List ℕ) (D : Pairs) (s : ListedStep) (ts : List ListedStep) → s.object < name_count
    → allowed differ name_count D s ≡ true → moved differ second G D (s ∷ []) ts ≡ answered_with second G D (looked_with differ G s) s ts
unfolding moved moves select join_all
moved_one differ second G D s ts l e =
    rw e (append-nil (moves_of differ name_count (placed second) (free_from G 0 name_count) D ts s)) ∙ named-moves differ second G D s ts l

-- Those of a list of names that a step receives.
module _ (second : Bool) (G : List ℕ) (D : Pairs) (s : ListedStep) (ts : List ListedStep) where
  abbrev pub looked_at : List ℕ → List (List Situation)
  looked_at names = answered_with second G D (select (among (looked_with true G s)) names) s ts

  pub looked_++ : (xs ys : List ℕ) → looked_at (xs ++ ys) ≡ looked_at xs ++ looked_at ys
  unfolding answered_with
  looked_++ xs ys =
      let g : ℕ → List Situation = λ name. answered second G D name s ts in
      let test : ℕ → Bool = among (looked_with true G s) in
      ap (map g) (select-++ test xs ys) ∙ map-++ g (select test xs) (select test ys)

  pub together_looked : (xs ys : List ℕ) → together (looked_at (xs ++ ys)) ≡ together (looked_at xs) ++ together (looked_at ys)
  together_looked xs ys = ap together (looked_++ xs ys) ∙ together-++ (looked_at xs) (looked_at ys)

  pub looked_one : (name : ℕ) → among (looked_with true G s) name ≡ true → looked_at (name ∷ []) ≡ answered second G D name s ts ∷ []
  unfolding answered_with select
  looked_one name e = rw e refl

  pub looked_none : (name : ℕ) → among (looked_with true G s) name ≡ false → looked_at (name ∷ []) ≡ []
  unfolding answered_with select
  looked_none name e = rw e refl
