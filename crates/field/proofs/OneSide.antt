-- The lists that `moves` makes of one side's steps and the other's, where names may merge: one for each permitted move, with the results of its answers.
-- Assumes nothing.
use mathlib.Core.Bool.{true, false}
use mathlib.Core.List.{List, ◌∷◌, ◌++◌, map}
use mathlib.Core.Logic.{◌⊎◌, inl, inr, ◌↔◌}
use mathlib.Core.Path.{◌≡◌, refl, sym, ◌∙◌, ap, subst}
use Prim.Native.Nat.{ℕ}
use Rattle.calculus.specs.Term.{Term, ren}
use Rattle.calculus.specs.Free.{In, Free, fn}
use Rattle.calculus.specs.Cond.{Pairs, Cond, map_p, cls}
use Rattle.calculus.specs.Distinction.{Apart, Resp}
use Rattle.calculus.specs.Definitions.{Defs}
use Rattle.calculus.specs.Published.{Action, silent, input, output, new_output, extruded}
use Rattle.calculus.specs.OpenBisimulation.{times, update}
use Rattle.calculus.proofs.Distinctions.{apart_at, apart_sym, apart_map, of_apart_map, apart_left, apart_right, of_apart_++}
use Rattle.calculus.proofs.UpToRenaming.{Either, either→fn, fn→either}
use Rattle.terms.specs.Encoding.{InScope}
use Rattle.calculus.specs.Lists.{◌∈◌}
use Rattle.calculus.proofs.Membership.{∈-map}
use Rattle.steps.specs.Derived.{Derived}
use Rattle.steps.specs.Listed.{ListedStep, class_in, kind_of, object_of, listed_as}
use Rattle.steps.proofs.ClassLists.{Within}
use Rattle.steps.proofs.FormLaws.{Form}
use Rattle.field.specs.Setting.{Setting}
use Rattle.field.specs.Situation.{Situation}
use Rattle.field.specs.Successors.{select, permitted, answers, extruded_by, updated_by, moves}
use Rattle.field.specs.Field.{Move, Matches}
use Rattle.field.proofs.ClassTests.{listed_class, permitted_iff, answers_iff}
use Rattle.field.proofs.Link.{ResultOf, ListOf}
use Rattle.field.proofs.Members.{map-∈}
use Rattle.field.proofs.MoveLaws.{listed_move, move_derived, move_fixes, move_within, derived_move}
use Rattle.field.proofs.Moves.{moves_open}
use Rattle.field.proofs.Proper.{row}
use Rattle.field.proofs.Selections.{∈-select, select-∈}

-- Pairs of a name with names, by which names those are.
row_more : (x : ℕ) (F G : List ℕ) → ((n : ℕ) → In n F → In n G) → (a b : ℕ) → Apart (map (λ y. (x, y)) F) a b → Apart (map (λ y. (x, y)) G) a b
row_more x mathlib.Core.List.[] G h a b x3 = elim x3 [ ]
row_more x (m ∷ F) G h a b (inl (d, e)) = apart_at (map (λ y. (x, y)) G) (sym d) (sym e) (row x G m (h m (inl refl)))
row_more x (m ∷ F) G h a b (inr (inl (d, e))) =
    let E : Pairs = map (λ y. (x, y)) G in
    apart_at E (sym e) (sym d) (apart_sym E x m (row x G m (h m (inl refl))))
row_more x (m ∷ F) G h a b (inr (inr r)) = row_more x F G (λ n i. h n (inr i)) a b r

times_more : (xs F G : List ℕ) → ((n : ℕ) → In n F → In n G) → (a b : ℕ) → Apart (times xs F) a b → Apart (times xs G) a b
times_more mathlib.Core.List.[] F G h a b d = elim d [ ]
times_more (x ∷ xs) F G h a b d = go (of_apart_++ (map (λ y. (x, y)) F) (times xs F) a b d) (times_more xs F G h a b)
  where
    go : Apart (map (λ y. (x, y)) F) a b ⊎ Apart (times xs F) a b → (Apart (times xs F) a b → Apart (times xs G) a b)
        → Apart (map (λ y. (x, y)) G ++ times xs G) a b
    go (inl e) r = apart_left (map (λ y. (x, y)) G) (times xs G) a b (row_more x F G h a b e)
    go (inr e) r = apart_right (map (λ y. (x, y)) G) (times xs G) a b (r e)

pub update-more : (σ : ℕ → ℕ) (xs F G : List ℕ) (D : Pairs) → ((n : ℕ) → In n F → In n G) → (a b : ℕ) → Apart (map_p σ (times xs F ++ D)) a b
    → Apart (map_p σ (times xs G ++ D)) a b
update-more σ xs F G D h a b d =
    let (c, e, f, p, q) = of_apart_map σ (times xs F ++ D) a b d in
    apart_at (map_p σ (times xs G ++ D)) p q (apart_map σ (times xs G ++ D) c e (go c e (of_apart_++ (times xs F) D c e f)))
  where
    go : (c e : ℕ) → Apart (times xs F) c e ⊎ Apart D c e → Apart (times xs G ++ D) c e
    go c e (inl f) = apart_left (times xs G) D c e (times_more xs F G h c e f)
    go c e (inr f) = apart_right (times xs G) D c e f

-- the extruded name, from the bytes of an action
extruded-bytes : (names : ℕ) (M : Cond) (α : Action) (P : Term) → extruded_by (listed_as names M α P) ≡ extruded α
unfolding extruded_by listed_as kind_of object_of
extruded-bytes names M silent P = refl
extruded-bytes names M (input a x) P = refl
extruded-bytes names M (output a b) P = refl
extruded-bytes names M (new_output a x) P = refl

-- the listed update is Definition 15's, for names that are free in at least one part
listed-update : (names : ℕ) (M : Cond) (α : Action) (R : Term) → Within names M → (F : List ℕ) (D : Pairs)
    → updated_by F D (listed_as names M α R) ≡ map_p (cls M) (times (extruded α) F ++ D)
unfolding updated_by
listed-update names M α R w F D = λ i. map_p (listed_class names M α R w i) (times (extruded-bytes names M α R i) F ++ D)

-- P moves and Q answers. Their listed steps are ps and qs, and F are the names free in at least one of them.
module _ (Δ : Defs) (S : Setting) (formed : Form S.form) (arities : List ℕ) (x : ℕ) (P Q : Term) (scope : InScope S.names arities 0 P) (scope' : InScope S.names arities 0 Q)
    (new : ¬ Free x P) (F : List ℕ) (free : (n : ℕ) → In n F ↔ Either n P Q) (ps qs : List ListedStep)
    (lists : (s : ListedStep) → (s ∈ ps) ↔ Derived S.form Δ S.names x P s) (lists' : (s : ListedStep) → (s ∈ qs) ↔ Derived S.form Δ S.names x Q s)
    (make : Term → Term → Pairs → Situation)
    (by-pairs : (P Q : Term) (D E : Pairs) → ((a b : ℕ) → Apart D a b ↔ Apart E a b) → make P Q D ≡ make P Q E) (D : Pairs) where
  -- what `moves` makes of a listed step s, and of an answer t to it
  abbrev result : ListedStep → ListedStep → Situation
  result s t = make s.result (ren (class_in s.classes) t.result) (updated_by F D s)

  abbrev list_for : ListedStep → List Situation
  list_for s = map (result s) (select (answers S.names s) qs)

  module _ (m : Move Δ S x P) where
    within : Within S.names m.condition
    within = move_within Δ S m arities scope

    updated-pairs : (a b : ℕ) → Apart (updated_by F D (listed_move Δ S m)) a b ↔ Apart (update D P Q m.action m.condition) a b
    unfolding update
    updated-pairs a b =
        subst (λ E. Apart E a b ↔ Apart (map_p (cls m.condition) (times (extruded m.action) (fn P ++ fn Q) ++ D)) a b)
        (sym (listed-update S.names m.condition m.action (S.form m.result) within F D)) (
          update-more (cls m.condition) (extruded m.action) F (fn P ++ fn Q) D (λ n i. either→fn n P Q ((free n).0 i)) a b,
          update-more (cls m.condition) (extruded m.action) (fn P ++ fn Q) F D (λ n i. (free n).1 (fn→either n P Q i)) a b,
        )

    result_of : (n : Move Δ S x Q)
        → result (listed_move Δ S m) (listed_move Δ S n)
        ≡ make (S.form m.result) (S.form (ren (cls m.condition) n.result)) (update D P Q m.action m.condition)
    unfolding listed_as
    result_of n =
        let R = S.form m.result in
        let T = ren (cls m.condition) (S.form n.result) in
        ap (λ f. make R (ren f (S.form n.result)) (updated_by F D (listed_move Δ S m))) (listed_class S.names m.condition m.action R within)
        ∙ by-pairs R T (updated_by F D (listed_move Δ S m)) (update D P Q m.action m.condition) updated-pairs
        ∙ ap (λ X. make R X (update D P Q m.action m.condition)) (sym (formed.renamed (cls m.condition) n.result))

    answers_matches : (n : Move Δ S x Q) → (answers S.names (listed_move Δ S m) (listed_move Δ S n) ≡ true) ↔ Matches Δ S m n
    answers_matches n =
        let (f, g) =
        answers_iff S.names m.condition m.action (S.form m.result) within n.condition n.action (S.form n.result)
        (move_within Δ S n arities scope') (λ y i. subst (λ z. cls m.condition z ≡ z) (sym (n.binds y i)) (move_fixes Δ S m new)) in
        (λ e. record { implied = (f e).0; equal = (f e).1 }, λ h. g (h.implied, h.equal))

    list_members : (t : Situation) → (t ∈ list_for (listed_move Δ S m)) ↔ ResultOf Δ S make D Q m t
    list_members t = (to, from)
      where
        s : ListedStep
        s = listed_move Δ S m

        to : t ∈ list_for s → ResultOf Δ S make D Q m t
        to k =
            let (r, l, e) = map-∈ (result s) t (select (answers S.names s) qs) k in
            let (i, a) = select-∈ (answers S.names s) r qs l in
            let (n, d) = derived_move Δ S ((lists' r).0 i) in
            record {
              answer = n;
              matches = (answers_matches n).0 (subst (λ u. answers S.names s u ≡ true) d a);
              result = e ∙ ap (result s) d ∙ result_of n;
            }

        from : ResultOf Δ S make D Q m t → t ∈ list_for s
        from r =
            let n = r.answer in
            subst (λ u. u ∈ list_for s) (result_of n ∙ sym r.result)
            (∈-map (result s) (listed_move Δ S n) (select (answers S.names s) qs)
            (∈-select (answers S.names s) (listed_move Δ S n) qs ((lists' (listed_move Δ S n)).1 (move_derived Δ S n)) ((answers_matches n).1 r.matches)))

    permitted_move : (permitted D (listed_move Δ S m) ≡ true) ↔ Resp m.condition D
    permitted_move = permitted_iff S.names m.condition m.action (S.form m.result) within D

    -- a permitted move has its list
    pub move_listed : Resp m.condition D → (w : List Situation) × (w ∈ moves false S.names make F D ps qs) × ListOf Δ S make D Q m w
    move_listed r = (
      list_for (listed_move Δ S m),
      subst (λ ms. list_for (listed_move Δ S m) ∈ ms) (sym (moves_open S.names make F D ps qs))
          (∈-map list_for (listed_move Δ S m) (select (permitted D) ps)
          (∈-select (permitted D) (listed_move Δ S m) ps ((lists (listed_move Δ S m)).1 (move_derived Δ S m)) (permitted_move.1 r))),
      record { permitted = r; members = list_members },
    )

  -- and each list is that of a permitted move
  pub listed_move_lem : (w : List Situation) → w ∈ moves false S.names make F D ps qs → (m : Move Δ S x P) × ListOf Δ S make D Q m w
  listed_move_lem w k =
      let (s, l, e) = map-∈ list_for w (select (permitted D) ps) (subst (λ ms. w ∈ ms) (moves_open S.names make F D ps qs) k) in
      let (i, a) = select-∈ (permitted D) s ps l in
      let (m, d) = derived_move Δ S ((lists s).0 i) in (
        m,
        record {
          permitted = (permitted_move m).0 (subst (λ u. permitted D u ≡ true) d a);
          members = subst (λ v. (t : Situation) → (t ∈ v) ↔ ResultOf Δ S make D Q m t) (sym (e ∙ ap list_for d)) (list_members m);
        },
      )
