-- Where all names differ, strike-out decides late and early bisimilarity: the parts of a survivor are bisimilar, and bisimilar parts survive. Assumes
-- nothing.
use mathlib.Core.Path.{◌≡◌, refl, sym, subst}
use mathlib.Core.Bool.{true}
use mathlib.Core.List.{List, [], ◌∷◌}
use mathlib.Core.Logic.{◌≢◌, ◌⊎◌, inl, inr}
use Prim.Native.Nat.{ℕ, ◌≤◌, ◌<◌}
use native.Mathlib.Omega.{arith}
use Rattle.calculus.specs.Abstraction.{Act, inp_a}
use Rattle.calculus.specs.Term.{Term}
use Rattle.calculus.specs.Free.{Free}
use Rattle.calculus.specs.Definitions.{Defs}
use Rattle.calculus.specs.Published.{input}
use Rattle.late_early.specs.Concrete.{Concrete}
use Rattle.late_early.specs.LateEarly.{Kind, Binary, AnsweredAs, Bisimilar}
use Rattle.late_early.proofs.LateEarlyTheorems.{bisimilar_sym}
use Rattle.calculus.proofs.PublishedBisimulation.{AwayFrom}
use Rattle.calculus.proofs.PublishedSteps.{named}
use Rattle.late_early.proofs.ReceivedNames.{Offered, Found, FoundAnswers, found_bisimilar}
use Rattle.calculus.proofs.UpToRenaming.{Either}
use Rattle.calculus.specs.Lists.{◌∈◌}
use Rattle.steps.specs.Listed.{kind_of, object_of, listed_as}
use Rattle.steps.proofs.FormLaws.{Form, form_free}
use Rattle.calculus.proofs.Membership.{∈-left, ∈_right}
use Rattle.field.specs.Exploration.{Row}
use Rattle.field.specs.Field.{fresh}
use Rattle.field.specs.Setting.{Setting}
use Rattle.field.specs.Situation.{Situation, free_in, situation, Proper}
use Rattle.field.specs.Successors.{received}
use Rattle.field.proofs.Link.{first_moves, second_moves, ListedFor}
use Rattle.field.proofs.Members.{∈_either}
use Rattle.field.proofs.NewNames.{new_away}
use Rattle.field.proofs.Proper.{either_below, either_free, from_free, same_equal}
use Rattle.field.proofs.Run.{selves}
use Rattle.verdict.specs.Received.{named_demands}
use Rattle.verdict.specs.Verdict.{demands_of}
use Rattle.verdict.specs.Verdict.{named as byName}
use Rattle.verdict.proofs.FieldRows.{FieldRows}
use Rattle.verdict.proofs.FormedBisimilar.{bisimilar_formed, found_formed, answered_formed}
use Rattle.verdict.proofs.NamedClauses.{found-input, found-answer, bisimilar_meets}
use Rattle.verdict.proofs.NamedDemands.{first_demands, second_demands, demands_are, demanded-among}
use Rattle.verdict.proofs.Rounds.{Met, of_selves, self_in, survivors, survivor_row, Closed, GoodRows, closed_survives, survivors-answer}

-- the two parts are bisimilar
abbrev pub Alike : Defs → Kind → Situation → Type 1
Alike Δ k t = Bisimilar Δ k t.first t.second

-- A situation whose lists of steps are known.
module _ (Δ : Defs) (S : Setting) (formed : Form S.form) (arities : List ℕ) (k : Kind) (s : Situation) (proper : Proper S.names arities s)
    (ms : List (List Situation)) (l : ListedFor Δ S arities s ms) where
  abbrev x : ℕ
  x = fresh Δ S s

  abbrev F : List ℕ
  F = free_in S.names s.first s.second

  away : AwayFrom x s.first s.second s.apart
  away = new_away S.names arities s proper

  below : (n : ℕ) → Either n s.first s.second → n < S.names
  below = either_below S.names arities s.first s.second proper.first proper.second

  -- what an input receives
  receivable : (a : ℕ) (R : Term) → x < S.names → (y : ℕ) → Either y s.first s.second ⊎ (y ≡ x) → y ∈ received true S.names F (listed_as S.names [] (input a x) R)
  unfolding received listed_as kind_of object_of
  receivable a R h y (inl i) =
      let b = below y i in
      from_free (x ∷ F) 0 S.names y (inr (either_free S.names s.first s.second below y i)) (omega arith) (omega arith)
  receivable a R h y (inr e) = from_free (x ∷ F) 0 S.names y (inl e) (omega arith) (omega arith)

  offers_first : (a : ℕ) (R : Term) → listed_as S.names [] (input a x) R ∈ l.firsts → (y : ℕ) → Offered Δ s.first s.second x y
      → y ∈ received true S.names F (listed_as S.names [] (input a x) R)
  unfolding listed_as kind_of
  offers_first a R i y o = receivable a R (l.receives (listed_as S.names [] (input a x) R) (inl i) refl) y o

  swapped : (y : ℕ) → Offered Δ s.second s.first x y → Either y s.first s.second ⊎ (y ≡ x)
  swapped y (inl (inl f)) = inl (inr f)
  swapped y (inl (inr f)) = inl (inl f)
  swapped y (inr e) = inr e

  offers_second : (a : ℕ) (R : Term) → listed_as S.names [] (input a x) R ∈ l.seconds → (y : ℕ) → Offered Δ s.second s.first x y
      → y ∈ received true S.names F (listed_as S.names [] (input a x) R)
  unfolding listed_as kind_of
  offers_second a R i y o = receivable a R (l.receives (listed_as S.names [] (input a x) R) (inr i) refl) y (swapped y o)

  -- What its two sides answer within L.
  abbrev First : (Situation → Type 0) → Binary
  First L A B = L (first_moves Δ S (S.form A) (S.form B) [])

  abbrev Second : (Situation → Type 0) → Binary
  Second L A B = L (second_moves Δ S (S.form A) (S.form B) [])

  pub record Answering (L : Situation → Type 0) : Type 0 where
    pub first_receives : (a : ℕ) (P' : Term) → Concrete Δ s.first (input a x) P' → Found Δ k (First L) a x s.first P' s.second
    pub first_does : (α : Act) → ((a : ℕ) → α ≢ inp_a a) → (P' : Term) → Concrete Δ s.first (named x α) P'
        → AnsweredAs Δ (First L) (named x α) P' s.second
    pub second_receives : (a : ℕ) (P' : Term) → Concrete Δ s.second (input a x) P' → Found Δ k (Second L) a x s.second P' s.first
    pub second_does : (α : Act) → ((a : ℕ) → α ≢ inp_a a) → (P' : Term) → Concrete Δ s.second (named x α) P'
        → AnsweredAs Δ (Second L) (named x α) P' s.first

  pub met_answering : (L : Situation → Type 0) → ((w : List (List Situation)) → w ∈ named_demands k S s → Met L w) → Answering L
  met_answering L met = record {
    first_receives = found-input Δ S formed arities x s.first s.second proper.first proper.second away.left away.right l.firsts l.seconds
        l.first_steps l.second_steps (first_moves Δ S) F s.apart offers_first k L one;
    first_does = found-answer Δ S formed arities x s.first s.second proper.first proper.second away.left away.right l.firsts l.seconds
        l.first_steps l.second_steps (first_moves Δ S) F s.apart offers_first k L one;
    second_receives = found-input Δ S formed arities x s.second s.first proper.second proper.first away.right away.left l.seconds l.firsts
        l.second_steps l.first_steps (second_moves Δ S) F s.apart offers_second k L other;
    second_does = found-answer Δ S formed arities x s.second s.first proper.second proper.first away.right away.left l.seconds l.firsts
        l.second_steps l.first_steps (second_moves Δ S) F s.apart offers_second k L other;
  }
    where
      firsts : List (List (List Situation))
      firsts = first_demands Δ S arities s ms l k

      seconds : List (List (List Situation))
      seconds = second_demands Δ S arities s ms l k

      one : (w : List (List Situation)) → w ∈ firsts → Met L w
      one w i = met w (subst (λ ws. w ∈ ws) (sym (demands_are Δ S arities s ms l k)) (∈-left w firsts seconds i))

      other : (w : List (List Situation)) → w ∈ seconds → Met L w
      other w i = met w (subst (λ ws. w ∈ ws) (sym (demands_are Δ S arities s ms l k)) (∈_right w firsts seconds i))

  -- Bisimilar parts meet each demand.
  pub alike_meets : Alike Δ k s → (w : List (List Situation)) → w ∈ named_demands k S s → Met (Alike Δ k) w
  unfolding situation
  alike_meets b w i = go (∈_either w (first_demands Δ S arities s ms l k) (second_demands Δ S arities s ms l k) (subst (λ ws. w ∈ ws) (demands_are Δ S arities s ms l k) i))
    where
      of_forms : (A B : Term) → Bisimilar Δ k A B → Bisimilar Δ k (S.form A) (S.form B)
      of_forms A B h = bisimilar_formed Δ formed h (S.form A) (S.form B) (sym (formed.again A)) (sym (formed.again B))

      go : (w ∈ first_demands Δ S arities s ms l k) ⊎ (w ∈ second_demands Δ S arities s ms l k) → Met (Alike Δ k) w
      go (inl j) =
          bisimilar_meets Δ S formed arities x s.first s.second proper.first proper.second away.left away.right l.firsts l.seconds
          l.first_steps l.second_steps (first_moves Δ S) F s.apart offers_first k (Alike Δ k) (λ A B h. of_forms A B h) b w j
      go (inr j) =
          bisimilar_meets Δ S formed arities x s.second s.first proper.second proper.first away.right away.left l.seconds l.firsts
          l.second_steps l.first_steps (second_moves Δ S) F s.apart offers_second k (Alike Δ k) (λ A B h. bisimilar_sym Δ (of_forms A B h)) (bisimilar_sym Δ b) w j

-- The rows of a field.
module _ (Δ : Defs) (S : Setting) (formed : Form S.form) (few : S.names ≤ 128) (arities : List ℕ) (k : Kind) (rs : List Row) (field : FieldRows Δ S arities rs) (naming : S.differ ≡ true) where
  abbrev demands : Row → List (List (List Situation))
  demands = demands_of (byName k) S

  row_proper : (r : Row) → r ∈ rs → Proper S.names arities r.self
  row_proper r m = field.proper r.self (self_in r rs m)

  row_lists : (r : Row) → r ∈ rs → ListedFor Δ S arities r.self r.wants
  row_lists r m = (field.linked r m).lists r.wants (field.leading r m)

  -- what is demanded is among the rows
  among-rows : (r : Row) → r ∈ rs → (m : List (List Situation)) → m ∈ demands r → (l : List Situation) → l ∈ m → (t : Situation) → t ∈ l → t ∈ selves rs
  unfolding demands_of
  among-rows r i m j l h t g =
      let (w, a, b) = demanded-among Δ S arities r.self r.wants (row_lists r i) k naming m j l h t g in
      field.closed r i w a t b

  pub named-rows : GoodRows demands (Proper S.names arities) rs
  named-rows = record { self = row_proper; demands = λ r i m j l h t g. field.proper t (among-rows r i m j l h t g) }

  abbrev Left : Situation → Type 0
  Left s = s ∈ selves (survivors demands rs)

  abbrev AnswersWithin : Situation → Type 0
  AnswersWithin s = (p : Proper S.names arities s) (ms : List (List Situation)) (l : ListedFor Δ S arities s ms) → Answering Δ S formed arities k s p ms l Left

  survivor_answers : (s : Situation) → Left s → AnswersWithin s
  unfolding demands_of
  survivor_answers s i = let (r, j, e) = of_selves s (survivors demands rs) i in subst AnswersWithin (sym e) (of_row r j)
    where
      of_row : (r : Row) → r ∈ survivors demands rs → AnswersWithin r.self
      of_row r j p ms l =
          met_answering Δ S formed arities k r.self p ms l Left
          (survivors-answer demands (Proper S.names arities) (same_equal S.names few arities) rs named-rows r j).some

  record Survivor (s : Situation) : Type 0 where
    proper : Proper S.names arities s
    wants : List (List Situation)
    lists : ListedFor Δ S arities s wants
    answering : Answering Δ S formed arities k s proper wants lists Left

  survivor : (s : Situation) → Left s → Survivor s
  survivor s i =
      let (r, j, e) = of_selves s (survivors demands rs) i in
      let m = survivor_row demands rs r j in
      go (subst (λ s. Proper S.names arities s) (sym e) (row_proper r m)) r.wants (subst (λ s. ListedFor Δ S arities s r.wants) (sym e) (row_lists r m))
    where
      go : (p : Proper S.names arities s) (ms : List (List Situation)) (l : ListedFor Δ S arities s ms) → Survivor s
      go p ms l = record { proper = p; wants = ms; lists = l; answering = survivor_answers s i p ms l }

  abbrev R : Binary
  R P Q = Left (situation S.names (S.form P) (S.form Q) [])

  -- the situation of their forms, and its new name
  abbrev here : Term → Term → Situation
  here P Q = situation S.names (S.form P) (S.form Q) []

  abbrev name : Term → Term → ℕ
  name P Q = fresh Δ S (here P Q)

  away_of : (P Q : Term) → R P Q → AwayFrom (name P Q) (S.form P) (S.form Q) (here P Q).apart
  unfolding situation
  away_of P Q i = new_away S.names arities (here P Q) (survivor (here P Q) i).proper

  left-new : (P Q : Term) → R P Q → ¬ Free (name P Q) P
  left-new P Q i f = (away_of P Q i).left (form_free formed (name P Q) P f)

  right_new : (P Q : Term) → R P Q → ¬ Free (name P Q) Q
  right_new P Q i f = (away_of P Q i).right (form_free formed (name P Q) Q f)

  abbrev Forms : Binary
  Forms A B = Left (situation S.names A B [])

  forth : FoundAnswers Δ k R
  unfolding situation
  forth = record {
    name = λ {P} {Q} i. name P Q;
    left = λ {P} {Q} i. left-new P Q i;
    right = λ {P} {Q} i. right_new P Q i;
    received = λ {P} {Q} i {a} {P'} t.
        found_formed Δ formed Forms P Q (name P Q) (left-new P Q i) (right_new P Q i) k a P' t
        (λ A u. (survivor (here P Q) i).answering.first_receives a A u);
    answered = λ {P} {Q} i α h {P'} t.
        answered_formed Δ formed Forms P Q (name P Q) (left-new P Q i) (right_new P Q i) α P' t
        (λ A u. (survivor (here P Q) i).answering.first_does α h A u);
  }

  -- P is the second part
  back : FoundAnswers Δ k (λ P Q. R Q P)
  unfolding situation
  back = record {
    name = λ {P} {Q} i. name Q P;
    left = λ {P} {Q} i. right_new Q P i;
    right = λ {P} {Q} i. left-new Q P i;
    received = λ {P} {Q} i {a} {P'} t.
        found_formed Δ formed (λ A B. Forms B A) P Q (name Q P) (right_new Q P i) (left-new Q P i) k a P' t
        (λ A u. (survivor (here Q P) i).answering.second_receives a A u);
    answered = λ {P} {Q} i α h {P'} t.
        answered_formed Δ formed (λ A B. Forms B A) P Q (name Q P) (right_new Q P i) (left-new Q P i) α P' t
        (λ A u. (survivor (here Q P) i).answering.second_does α h A u);
  }

  -- Terms whose forms are the parts of a survivor are bisimilar.
  pub survivor_bisimilar : (P Q : Term) → situation S.names (S.form P) (S.form Q) [] ∈ selves (survivors (demands_of (byName k) S) rs) → Bisimilar Δ k P Q
  survivor_bisimilar P Q i = found_bisimilar Δ R k (record { forth = forth; back = back }) i

  alike_closed : Closed demands (Alike Δ k) rs
  unfolding demands_of
  alike_closed = record {
    answers = λ r m b. record {
      some = λ w i.
          let o = alike_meets Δ S formed arities k r.self (row_proper r m) r.wants (row_lists r m) b w i in
          record { answer = o.answer; member = o.member; all = λ t j. (o.all t j, among-rows r m w i o.answer o.member t j) };
    };
  }

  -- Bisimilar parts survive.
  pub bisimilar_survives : (s : Situation) → s ∈ selves rs → Bisimilar Δ k s.first s.second → s ∈ selves (survivors (demands_of (byName k) S) rs)
  bisimilar_survives s i b = closed_survives demands (Alike Δ k) rs alike_closed s i b
