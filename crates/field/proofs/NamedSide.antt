-- Where all names differ: the steps of a list whose conditions are trivial are the transitions of Table 3.1, and their answers those by the same action.
-- Assumes nothing.
use mathlib.Core.Path.{◌≡◌, refl, sym, ◌∙◌, ap, subst}
use mathlib.Core.Bool.{true}
use mathlib.Core.List.{List, [], ◌∷◌}
use mathlib.Core.Logic.{◌↔◌}
use Prim.Native.Nat.{ℕ, ◌<◌}
use native.Mathlib.Omega.{arith}
use native.Mathlib.Decide.{dec_lt}
use lib.Dec.{eqb}
use borrow.Author.Tests.{eq-eqb}
use Rattle.calculus.specs.Term.{Term, ren, put}
use Rattle.calculus.specs.Free.{In, Free}
use Rattle.calculus.specs.Cond.{Pairs, Cond, cls, ◌▷◌}
use Rattle.calculus.specs.Definitions.{Defs}
use Rattle.calculus.specs.Published.{Action, bound_names, ren_action, Avoids}
use Rattle.late_early.specs.Concrete.{Concrete}
use Rattle.calculus.proofs.Conditions.{E2, Unif_ext}
use Rattle.late_early.proofs.ConcreteSteps.{Trivial, nil_trivial, concrete_transition, transition_concrete, transition_nil, action_id}
use Rattle.terms.specs.Encoding.{InScope}
use Rattle.terms.proofs.Answers.{true_both}
use Rattle.calculus.specs.Lists.{◌∈◌}
use Rattle.steps.specs.Derived.{Derived}
use Rattle.steps.specs.Listed.{ListedStep, names_from, classes_of, class_in, own_classes, object_of, listed_as}
use Rattle.steps.proofs.ClassLists.{Within, unmatched, class_list, all_own}
use Rattle.steps.proofs.FormLaws.{Form}
use Rattle.field.specs.Setting.{Setting}
use Rattle.field.specs.Situation.{Situation}
use Rattle.field.specs.Successors.{answers, unconditional, allowed, received, led, answers_to, moves}
use Rattle.field.specs.Field.{Move}
use Rattle.field.proofs.ClassTests.{answers_iff}
use Rattle.field.proofs.MoveLaws.{listed_move, move_within, derived_move}
use Rattle.field.proofs.Moves.{of_moves, in_moves, of_answers, in_answers}

-- The test for a trivial condition.
own-all : (c ns : List ℕ) → ((n : ℕ) → class_in c n ≡ n) → own_classes c ns ≡ true
unfolding own_classes
own-all c [] h = refl
own-all c (n ∷ ns) h = true_both (eqb (class_in c n) n) (own_classes c ns) (eq-eqb (class_in c n) n (h n)) (own-all c ns h)

within_nil : (names : ℕ) → Within names []
within_nil names n o = absurd o

cls-nil : cls [] ≡ (λ n. n)
unfolding cls
cls-nil = refl

nil_action : (α : Action) → ren_action (cls []) α ≡ α
nil_action α = ap (λ f. ren_action f α) cls-nil ∙ action_id α

-- P moves and Q answers. Their listed steps, for a name x that is free in neither, are ps and qs.
module _ (Δ : Defs) (S : Setting) (arities : List ℕ) (x : ℕ) (P Q : Term) (scope : InScope S.names arities 0 P) (scope' : InScope S.names arities 0 Q)
    (new : ¬ Free x P) (new' : ¬ Free x Q) (ps qs : List ListedStep)
    (lists : (s : ListedStep) → (s ∈ ps) ↔ Derived S.form Δ S.names x P s) (lists' : (s : ListedStep) → (s ∈ qs) ↔ Derived S.form Δ S.names x Q s) where
  abbrev pub unconditionally : Action → Term → ListedStep
  unconditionally α R = listed_as S.names [] α (S.form R)

  abbrev pub BindsNew : Action → Type 0
  BindsNew α = (y : ℕ) → In y (bound_names α) → y ≡ x

  pub avoids : (α : Action) (T : Term) → BindsNew α → ¬ Free x T → Avoids α T
  avoids α T b h y i f = h (subst (λ n. Free n T) (b y i) f)

  derived : (T : Term) (α : Action) (R : Term) → Concrete Δ T α R → BindsNew α → ¬ Free x T → Derived S.form Δ S.names x T (unconditionally α R)
  derived T α R t b h =
      record { condition = []; action = α; result = R; transition = concrete_transition Δ t (avoids α T b h); binds = b; listed = refl }

  -- a transition of P is listed
  pub step-listed : (α : Action) (R : Term) → Concrete Δ P α R → BindsNew α → unconditionally α R ∈ ps
  step-listed α R t b = (lists (unconditionally α R)).1 (derived P α R t b new)

  pub own-step : (α : Action) (R : Term) → unconditional S.names (unconditionally α R) ≡ true
  unfolding unconditional listed_as
  own-step α R =
      own-all (classes_of S.names []) (names_from 0 S.names) (λ n. ap (λ f. f n) (class_list S.names [] (within_nil S.names) ∙ cls-nil))

  test : (α : Action) (R : Term) (M : Cond) (β : Action) (T : Term) → Within S.names M
      → (answers S.names (unconditionally α R) (listed_as S.names M β T) ≡ true) ↔ (([] ▷ M) × (α ≡ ren_action (cls []) β))
  test α R M β T w = answers_iff S.names [] α (S.form R) (within_nil S.names) M β T w (λ y i. ap (λ f. f y) cls-nil)

  -- an answer that is listed
  pub record Listed (α : Action) (t : ListedStep) : Type 0 where
    pub result : Term
    pub transition : Concrete Δ Q α result
    pub is : t ≡ unconditionally α result

  pub listed_answer : (α : Action) (R : Term) (t : ListedStep) → t ∈ qs → answers S.names (unconditionally α R) t ≡ true → Listed α t
  listed_answer α R t i a =
      let (n, d) = derived_move Δ S ((lists' t).0 i) in
      let (imp, e) = (test α R n.condition n.action (S.form n.result) (move_within Δ S n arities scope')).0 (subst (λ u. answers S.names (unconditionally α R) u ≡ true) d a) in
      let v = nil_trivial n.condition imp in
      let f : n.action ≡ α = sym (e ∙ nil_action n.action) in
      record {
        result = n.result;
        transition = subst (λ β. Concrete Δ Q β n.result) f (transition_concrete Δ n.transition v).0;
        is = d ∙ (λ i. listed_as S.names (transition_nil Δ n.transition v i) (f i) (S.form n.result));
      }

  -- a transition of Q by the same action answers
  pub answer-listed : (α : Action) (T : Term) → Concrete Δ Q α T → BindsNew α → unconditionally α T ∈ qs
  answer-listed α T t b = (lists' (unconditionally α T)).1 (derived Q α T t b new')

  pub answers-own : (α : Action) (R T : Term) → answers S.names (unconditionally α R) (unconditionally α T) ≡ true
  answers-own α R T = (test α R [] α (S.form T) (within_nil S.names)).1 (tt, sym (nil_action α))

  -- the condition of a step that passes the test
  trivial_step : (m : Move Δ S x P) → unconditional S.names (listed_move Δ S m) ≡ true → Trivial m.condition
  unfolding unconditional listed_as
  trivial_step m u = Unif_ext (cls m.condition) (λ n. n) m.condition same (E2 m.condition)
    where
      w : Within S.names m.condition
      w = move_within Δ S m arities scope

      same : (n : ℕ) → cls m.condition n ≡ n
      same n = go (dec_lt n S.names)
        where
          go : Dec (n < S.names) → cls m.condition n ≡ n
          go (yes l) =
              sym (ap (λ f. f n) (class_list S.names m.condition w))
              ∙ all_own (classes_of S.names m.condition) 0 S.names u n (omega arith) (omega arith)
          go (no l) = unmatched m.condition n (λ o. l (w n o))

  -- a step of P that passes the test is a transition of Table 3.1
  pub record Performs (s : ListedStep) : Type 0 where
    pub action : Action
    pub binds : BindsNew action
    pub result : Term
    pub does : Concrete Δ P action result
    pub is : s ≡ unconditionally action result

  pub listed_performs : (s : ListedStep) → s ∈ ps → unconditional S.names s ≡ true → Performs s
  listed_performs s i u =
      let (m, d) = derived_move Δ S ((lists s).0 i) in
      let v = trivial_step m (subst (λ r. unconditional S.names r ≡ true) d u) in
      record {
        action = m.action;
        binds = m.binds;
        result = m.result;
        does = (transition_concrete Δ m.transition v).0;
        is = d ∙ ap (λ M. listed_as S.names M m.action (S.form m.result)) (transition_nil Δ m.transition v);
      }

  -- Where a situation of `moves` comes from, and that every such one is there.
  module _ (formed : Form S.form) (make : Term → Term → Pairs → Situation) (F : List ℕ) (D : Pairs) where
    pub record Matched (t : Situation) : Type 0 where
      pub action : Action
      pub binds : BindsNew action
      pub left : Term
      pub moving : Concrete Δ P action left
      pub right : Term
      pub answering : Concrete Δ Q action right
      pub name : ℕ
      pub offered : name ∈ received true S.names F (unconditionally action left)
      pub is : t ≡ make (S.form (ren (put (object_of action) name) left)) (S.form (ren (put (object_of action) name) right)) []

    rewritten : (x y : ℕ) (A B : Term)
        → make (ren (put x y) (S.form A)) (ren (put x y) (S.form B)) [] ≡ make (S.form (ren (put x y) A)) (S.form (ren (put x y) B)) []
    rewritten x y A B = λ i. make (sym (formed.renamed (put x y) A) i) (sym (formed.renamed (put x y) B) i) []

    pub matched : (w : List Situation) → w ∈ moves true S.names make F D ps qs → (t : Situation) → t ∈ w → Matched t
    unfolding allowed led listed_as
    matched w i t h =
        let m = of_moves true S.names make F D ps qs w i in
        let d = listed_performs m.step m.among m.allowed_is in
        let a = of_answers true S.names make F D qs m.step m.name t (subst (λ w. t ∈ w) m.is h) in
        let z = listed_answer d.action d.result a.answer a.among (subst (λ r. answers S.names r a.answer ≡ true) d.is a.answers_is) in
        record {
          action = d.action;
          binds = d.binds;
          left = d.result;
          moving = d.does;
          right = z.result;
          answering = z.transition;
          name = m.name;
          offered = subst (λ r. m.name ∈ received true S.names F r) d.is m.offered;
          is = a.is ∙ (λ i. led true make F D (d.is i) (z.is i) m.name) ∙ rewritten (object_of d.action) m.name d.result z.result;
        }

    pub of_matched : (t : Situation) → Matched t → (w : List Situation) × (w ∈ moves true S.names make F D ps qs) × (t ∈ w)
    unfolding allowed led listed_as
    of_matched t m =
        let s : ListedStep = unconditionally m.action m.left in (
          answers_to true S.names make F D qs s m.name,
          in_moves true S.names make F D ps qs s (step-listed m.action m.left m.moving m.binds) (own-step m.action m.left) m.name m.offered,
          subst (λ u. u ∈ answers_to true S.names make F D qs s m.name) (sym (m.is ∙ sym (rewritten (object_of m.action) m.name m.left m.right)))
              (in_answers true S.names make F D qs s m.name (unconditionally m.action m.right)
              (answer-listed m.action m.right m.answering m.binds) (answers-own m.action m.left m.right)),
        )
