-- Striking out one situation at a time, in any order, leaves what the rounds leave: for code that strikes out in place. Assumes nothing.
use mathlib.Core.Path.{◌≡◌, sym, subst}
use mathlib.Core.Bool.{true, false}
use mathlib.Core.List.{List}
use mathlib.Core.Logic.{◌⊎◌, ⊎_elim, ◌↔◌}
use Rattle.calculus.specs.Lists.{◌∈◌, Distinct}
use Rattle.field.specs.Situation.{Situation, same_situation}
use Rattle.field.specs.Exploration.{found, Row}
use Rattle.field.proofs.Run.{selves}
use Rattle.field.proofs.Unseen.{∈-found}
use Rattle.verdict.specs.Verdict.{all_answered}
use Rattle.verdict_answers.proofs.Demands.{same_test}
use Rattle.verdict.proofs.Rounds.{true_not_false, of_selves, same_row, survivors, survivor_row, survivor_in, EachSome, each_imp, GoodRows, each-answered, closed_survives, member-found, answered-each, selves_good, survivors-answer, found_survives}

module _ (d : Row → List (List (List Situation))) (rs : List Row) where
  -- From all rows, one with a demand that those left do not answer is struck out at a time.
  pub data StrikesTo : List Situation → Type 0 where
    all_left : StrikesTo (selves rs)
    one_struck : {left after : List Situation} → StrikesTo left → (r : Row) → r ∈ rs → all_answered left (d r) ≡ false
        → ((s : Situation) → s ∈ left → (s ≡ r.self) ⊎ (s ∈ after)) → ((s : Situation) → s ∈ after → s ∈ left)
        → StrikesTo after

  -- None is left to strike out.
  pub record NoneToStrike (left : List Situation) : Type 0 where
    pub answers : (r : Row) → r ∈ rs → r.self ∈ left → all_answered left (d r) ≡ true

  pub struck_within : {left : List Situation} → StrikesTo left → (s : Situation) → s ∈ left → s ∈ selves rs
  struck_within all_left s m = m
  struck_within (one_struck t r i e h k) s m = struck_within t s (k s m)

module _ (Good : Situation → Type 0) (decides : (s t : Situation) → Good s → Good t → same_situation s t ≡ true → s ≡ t)
    (d : Row → List (List (List Situation))) (rs : List Row) (good : GoodRows d Good rs) (distinct : Distinct (selves rs)) where
  -- a row with a demand that those left do not answer is no survivor, if the survivors are among those left
  pub unanswered_struck : (left : List Situation) → ((s : Situation) → s ∈ selves (survivors d rs) → s ∈ left)
      → (r : Row) → r ∈ rs → all_answered left (d r) ≡ false → ¬ (r.self ∈ selves (survivors d rs))
  unanswered_struck left h r m e k =
      let (q, i, u) = of_selves r.self (survivors d rs) k in
      let p : r ≡ q = same_row rs distinct r q m (survivor_row d rs q i) u in
      true_not_false
      (each-answered left (d r) (each_imp h (survivors-answer d Good decides rs good r (subst (λ r. r ∈ survivors d rs) (sym p) i)))) e

  -- those left are survivors, if all their demands are answered
  pub answered_survive : (left : List Situation) → ((s : Situation) → s ∈ left → s ∈ selves rs) → NoneToStrike d rs left
      → (s : Situation) → s ∈ left → s ∈ selves (survivors d rs)
  answered_survive left h a s m = closed_survives d (λ s. s ∈ left) rs (record { answers = closed }) s (h s m) m
    where
      closed : (r : Row) → r ∈ rs → r.self ∈ left → EachSome (λ s. (s ∈ left) × (s ∈ selves rs)) (d r)
      closed r i k =
          each_imp (λ s n. (n, h s n))
          (answered-each Good decides left (d r) (λ s n. selves_good d Good decides rs good s (h s n)) (good.demands r i) (a.answers r i k))

  pub survivors-left : {left : List Situation} → StrikesTo d rs left → (s : Situation) → s ∈ selves (survivors d rs) → s ∈ left
  survivors-left all_left s m = survivor_in d rs s m
  survivors-left (one_struck {left} t r i e h k) s m =
      ⊎_elim (λ q. absurd (unanswered_struck left (λ u n. survivors-left t u n) r i e (subst (λ s. s ∈ selves (survivors d rs)) q m))) (λ n. n)
      (h s (survivors-left t s m))

  pub same-survivors : (left : List Situation) → StrikesTo d rs left → NoneToStrike d rs left → (s : Situation) → (s ∈ left) ↔ (s ∈ selves (survivors d rs))
  same-survivors left t a s = (answered_survive left (struck_within d rs t) a s, survivors-left t s)

  -- the test of the start comes out the same
  pub same-found : (left : List Situation) → StrikesTo d rs left → NoneToStrike d rs left → (s : Situation) → Good s
      → found left s ≡ found (selves (survivors d rs)) s
  same-found left t a s g =
      same_test (found left s) (found (selves (survivors d rs)) s)
      (λ e. ∈-found (selves (survivors d rs)) s
      ((same-survivors left t a s).0 (member-found Good decides left (λ u m. selves_good d Good decides rs good u (struck_within d rs t u m)) s g e)))
      (λ e. ∈-found left s (survivors-left t s (found_survives d Good decides rs good s g e)))
