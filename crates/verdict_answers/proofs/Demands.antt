-- Demands that those left answer, and demands that they do not. Assumes nothing.
use mathlib.Core.Bool.{Bool, true, false, ◌&&◌, or-true}
use mathlib.Core.List.{List, [], ◌∷◌, ◌++◌, map}
use mathlib.Core.Logic.{inl, inr}
use mathlib.Core.Path.{◌≡◌, refl, sym, ap, ◌∙◌, subst}
use Rattle.terms.proofs.Answers.{both_true}
use Rattle.calculus.specs.Lists.{◌∈◌}
use Rattle.calculus.proofs.Membership.{∈-map}
use Rattle.field.proofs.Members.{map-∈}
use Rattle.verdict.proofs.Rounds.{single}
use Rattle.field.specs.Exploration.{found}
use Rattle.field.specs.Situation.{Situation}
use Rattle.verdict.specs.Verdict.{all_found, answered, all_answered}
use Rattle.verdict_answers.specs.Striking.{SomeAnswer}

pub same_test : (a b : Bool) → (a ≡ true → b ≡ true) → (b ≡ true → a ≡ true) → a ≡ b
same_test true b h k = sym (h refl)
same_test false true h k = k refl
same_test false false h k = refl

module _ (left : List Situation) where
  pub all_left : (l : List Situation) → ((t : Situation) → t ∈ l → found left t ≡ true) → all_found left l ≡ true
  unfolding all_found
  all_left [] h = refl
  all_left (t ∷ l) h = rw (h t (inl refl)) (all_left l (λ u i. h u (inr i)))

  pub one_gone : (l : List Situation) (t : Situation) → t ∈ l → found left t ≡ false → all_found left l ≡ false
  unfolding all_found
  one_gone [] t x'' h = elim x'' [ ]
  one_gone (u ∷ l) t (inl e) h = rw (subst (λ t. found left t ≡ false) e h)
  one_gone (u ∷ l) t (inr i) h = go (found left u) (one_gone l t i h)
    where
      go : (b : Bool) → all_found left l ≡ false → (b && all_found left l) ≡ false
      go true e = e
      go false e = refl

  pub one_answers : (m : List (List Situation)) (l : List Situation) → l ∈ m → all_found left l ≡ true → answered left m ≡ true
  unfolding answered
  one_answers [] l x'' h = elim x'' [ ]
  one_answers (k ∷ m) l (inl e) h = rw (subst (λ l. all_found left l ≡ true) e h)
  one_answers (k ∷ m) l (inr i) h = rw (one_answers m l i h, or-true)

  pub none_answers : (m : List (List Situation)) → ((l : List Situation) → l ∈ m → all_found left l ≡ false) → answered left m ≡ false
  unfolding answered
  none_answers [] h = refl
  none_answers (l ∷ m) h = rw (h l (inl refl)) (none_answers m (λ k i. h k (inr i)))

  pub each-answered : (ms : List (List (List Situation))) → ((m : List (List Situation)) → m ∈ ms → answered left m ≡ true) → all_answered left ms ≡ true
  unfolding all_answered
  each-answered [] h = refl
  each-answered (m ∷ ms) h = rw (h m (inl refl)) (each-answered ms (λ n i. h n (inr i)))

  pub one_unanswered : (ms : List (List (List Situation))) (m : List (List Situation)) → m ∈ ms → answered left m ≡ false → all_answered left ms ≡ false
  unfolding all_answered
  one_unanswered [] m x'' h = elim x'' [ ]
  one_unanswered (n ∷ ms) m (inl e) h = rw (subst (λ m. answered left m ≡ false) e h)
  one_unanswered (n ∷ ms) m (inr i) h = go (answered left n) (one_unanswered ms m i h)
    where
      go : (b : Bool) → all_answered left ms ≡ false → (b && all_answered left ms) ≡ false
      go true e = e
      go false e = refl

  pub member-answered : (ms : List (List (List Situation))) → all_answered left ms ≡ true → (m : List (List Situation)) → m ∈ ms → answered left m ≡ true
  unfolding all_answered
  member-answered [] h m x'' = elim x'' [ ]
  member-answered (n ∷ ms) h m (inl e) = ap (answered left) e ∙ (both_true (answered left n) (all_answered left ms) h).0
  member-answered (n ∷ ms) h m (inr i) = member-answered ms (both_true (answered left n) (all_answered left ms) h).1 m i

  pub fewer_answered : (ms ns : List (List (List Situation))) → ((m : List (List Situation)) → m ∈ ns → m ∈ ms) → all_answered left ms ≡ true → all_answered left ns ≡ true
  fewer_answered ms ns h e = each-answered ns (λ m i. member-answered ms e m (h m i))

  pub same-answered : (ms ns : List (List (List Situation))) → ((m : List (List Situation)) → m ∈ ms → m ∈ ns) → ((m : List (List Situation)) → m ∈ ns → m ∈ ms)
      → all_answered left ms ≡ all_answered left ns
  same-answered ms ns to from = same_test (all_answered left ms) (all_answered left ns) (fewer_answered ms ns from) (fewer_answered ns ms to)

  -- each demand has an answer that leads to situations that are left
  pub all-answer : (ms : List (List (List Situation))) → ((m : List (List Situation)) → m ∈ ms → SomeAnswer (λ t. found left t ≡ true) m)
      → all_answered left ms ≡ true
  all-answer ms h = each-answered ms (λ m i. let (l, j, a) = h m i in one_answers m l j (all_left l a))

  -- each answer to one demand leads to a situation that is not left
  pub one_fails : (ms : List (List (List Situation))) (m : List (List Situation)) → m ∈ ms
      → ((l : List Situation) → l ∈ m → (t : Situation) × (t ∈ l) × (found left t ≡ false)) → all_answered left ms ≡ false
  one_fails ms m i h = one_unanswered ms m i (none_answers m (λ l j. let (t, k, e) = h l j in one_gone l t k e))

  pub all_both : (ms ns : List (List (List Situation))) → all_answered left (ms ++ ns) ≡ (all_answered left ms && all_answered left ns)
  unfolding all_answered
  all_both [] ns = refl
  all_both (m ∷ ms) ns = go (answered left m) (all_both ms ns)
    where
      go : (b : Bool) → all_answered left (ms ++ ns) ≡ (all_answered left ms && all_answered left ns)
          → (b && all_answered left (ms ++ ns)) ≡ ((b && all_answered left ms) && all_answered left ns)
      go true e = e
      go false e = refl

-- Where each answer leads to one situation.
pub each-single : (X : Situation → Type 0) (ms : List (List Situation)) → ((w : List Situation) → w ∈ ms → (t : Situation) × (t ∈ w) × X t)
    → (m : List (List Situation)) → m ∈ map (map single) ms → SomeAnswer X m
each-single X ms h m i =
    let (w, j, e) = map-∈ (map single) m ms i in
    let (t, k, x) = h w j in
    (single t, subst (λ m. single t ∈ m) (sym e) (∈-map single t w k), only t x)
  where
    only : (t : Situation) → X t → (u : Situation) → u ∈ single t → X u
    only t x u (inr x'') = elim x'' [ ]
    only t x u (inl e) = subst X (sym e) x
