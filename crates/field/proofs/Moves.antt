-- Members of `moves`, and what it is where names may merge. Assumes nothing.
use mathlib.Core.Path.{◌≡◌, refl, sym, ◌∙◌, ap, fun_ext, subst}
use mathlib.Core.Bool.{Bool, true, false}
use mathlib.Core.List.{List, [], ◌∷◌, map}
use mathlib.Core.Logic.{◌⊎◌, inl, inr}
use native.Mathlib.Decide.{ℕ_discrete}
use Prim.Native.Nat.{ℕ}
use Rattle.calculus.specs.Cond.{Pairs}
use Rattle.calculus.specs.Term.{Term, ren, put}
use Rattle.calculus.proofs.Binding.{put_self, put_other}
use Rattle.calculus.proofs.Renaming.{ren_id}
use Rattle.calculus.specs.Lists.{◌∈◌}
use Rattle.steps.specs.Listed.{ListedStep, class_in}
use Rattle.calculus.proofs.Membership.{∈-map, ∈-left, ∈_right}
use Rattle.field.specs.Situation.{Situation}
use Rattle.field.specs.Successors.{select, permitted, answers, updated_by, allowed, received, led, join_all, answers_to, moves_of, moves}
use Rattle.field.proofs.Members.{map-∈, ∈_either}
use Rattle.field.proofs.Selections.{∈-select, select-∈}

-- a name put for itself
pub put_same : (x : ℕ) (P : Term) → ren (put x x) P ≡ P
put_same x P = ap (λ f. ren f P) (fun_ext (λ n. go n (ℕ_discrete n x))) ∙ ren_id P
  where
    go : (n : ℕ) → Dec (n ≡ x) → put x x n ≡ n
    go n (yes e) = put_self x x n e ∙ sym e
    go n (no h) = put_other x x n h

module _ {A : Type 0} where
  pub ∈-join : (x : A) (xs : List A) (xss : List (List A)) → x ∈ xs → xs ∈ xss → x ∈ join_all xss
  unfolding join_all
  ∈-join x xs [] i x3 = elim x3 [ ]
  ∈-join x xs (ys ∷ xss) i (inl e) = ∈-left x ys (join_all xss) (subst (λ zs. x ∈ zs) e i)
  ∈-join x xs (ys ∷ xss) i (inr j) = ∈_right x ys (join_all xss) (∈-join x xs xss i j)

  pub join-∈ : (x : A) (xss : List (List A)) → x ∈ join_all xss → (xs : List A) × (xs ∈ xss) × (x ∈ xs)
  unfolding join_all
  join-∈ x [] i = elim i [ ]
  join-∈ x (ys ∷ xss) i = go (∈_either x ys (join_all xss) i) (join-∈ x xss)
    where
      go : (x ∈ ys) ⊎ (x ∈ join_all xss) → (x ∈ join_all xss → (xs : List A) × (xs ∈ xss) × (x ∈ xs)) → (xs : List A) × (xs ∈ (ys ∷ xss)) × (x ∈ xs)
      go (inl j) r = (ys, inl refl, j)
      go (inr j) r = let (xs, k, l) = r j in (xs, inr k, l)

module _ {A B : Type 0} (f : A → B) where
  pub join-single : (xs : List A) → join_all (map (λ x. f x ∷ []) xs) ≡ map f xs
  unfolding join_all
  join-single [] = refl
  join-single (x ∷ xs) = ap (f x ∷◌) (join-single xs)

-- Where names may merge, a permitted step has one list.
pub moves_open : (names : ℕ) (make : Term → Term → Pairs → Situation) (F : List ℕ) (D : Pairs) (ss ts : List ListedStep)
    → moves false names make F D ss ts
    ≡ map (λ s. map (λ t. make s.result (ren (class_in s.classes) t.result) (updated_by F D s)) (select (answers names s) ts)) (select (permitted D) ss)
unfolding moves moves_of received answers_to led allowed
moves_open names make F D ss ts =
    join-single (λ s. map (λ t. make s.result (ren (class_in s.classes) t.result) (updated_by F D s)) (select (answers names s) ts)) (select (permitted D) ss)

-- A list of `moves` is that of an allowed step and a name received,
module _ (differ : Bool) (names : ℕ) (make : Term → Term → Pairs → Situation) (F : List ℕ) (D : Pairs) where
  pub record MoveOf (ss ts : List ListedStep) (w : List Situation) : Type 0 where
    pub step : ListedStep
    pub among : step ∈ ss
    pub allowed_is : allowed differ names D step ≡ true
    pub name : ℕ
    pub offered : name ∈ received differ names F step
    pub is : w ≡ answers_to differ names make F D ts step name

  pub of_moves : (ss ts : List ListedStep) (w : List Situation) → w ∈ moves differ names make F D ss ts → MoveOf ss ts w
  unfolding moves moves_of
  of_moves ss ts w i =
      let us : List ListedStep = select (allowed differ names D) ss in
      let (ds, a, b) = join-∈ w (map (moves_of differ names make F D ts) us) i in
      let (s, c, d) = map-∈ (moves_of differ names make F D ts) ds us a in
      let (y, p, q) = map-∈ (answers_to differ names make F D ts s) w (received differ names F s) (subst (λ zs. w ∈ zs) d b) in
      let (e, g) = select-∈ (allowed differ names D) s ss c in
      record { step = s; among = e; allowed_is = g; name = y; offered = p; is = q }

  -- and each such one is there.
  pub in_moves : (ss ts : List ListedStep) (s : ListedStep) → s ∈ ss → allowed differ names D s ≡ true → (y : ℕ) → y ∈ received differ names F s
      → answers_to differ names make F D ts s y ∈ moves differ names make F D ss ts
  unfolding moves moves_of
  in_moves ss ts s i a y j =
      let us : List ListedStep = select (allowed differ names D) ss in
      ∈-join (answers_to differ names make F D ts s y) (moves_of differ names make F D ts s) (map (moves_of differ names make F D ts) us)
      (∈-map (answers_to differ names make F D ts s) y (received differ names F s) j)
      (∈-map (moves_of differ names make F D ts) s us (∈-select (allowed differ names D) s ss i a))

  pub record AnswerOf (ts : List ListedStep) (s : ListedStep) (y : ℕ) (t : Situation) : Type 0 where
    pub answer : ListedStep
    pub among : answer ∈ ts
    pub answers_is : answers names s answer ≡ true
    pub is : t ≡ led differ make F D s answer y

  pub of_answers : (ts : List ListedStep) (s : ListedStep) (y : ℕ) (t : Situation) → t ∈ answers_to differ names make F D ts s y → AnswerOf ts s y t
  unfolding answers_to
  of_answers ts s y t i =
      let (u, j, e) = map-∈ (λ u. led differ make F D s u y) t (select (answers names s) ts) i in
      let (k, a) = select-∈ (answers names s) u ts j in
      record { answer = u; among = k; answers_is = a; is = e }

  pub in_answers : (ts : List ListedStep) (s : ListedStep) (y : ℕ) (u : ListedStep) → u ∈ ts → answers names s u ≡ true
      → led differ make F D s u y ∈ answers_to differ names make F D ts s y
  unfolding answers_to
  in_answers ts s y u i a = ∈-map (λ u. led differ make F D s u y) u (select (answers names s) ts) (∈-select (answers names s) u ts i a)
