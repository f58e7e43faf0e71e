-- The candidates of a choice or a parallel by their numbers: those of the left side come first, then those of the right side, then the
-- communications. A tally says how many they are. Assumes nothing.
use mathlib.Core.Path.{◌≡◌, refl, sym, ap, ◌∙◌}
use mathlib.Core.Bool.{Bool, true, false}
use mathlib.Core.List.{List, [], ◌++◌, map, append-nil}
use Prim.Native.Nat.{ℕ, ◌+◌, ◌-◌, ◌<◌, ◌≤◌}
use native.Mathlib.Omega.{arith}
use lib.Dec.{leb, ltb}
use lib.ListN.{length, get_or, drop, length-append, length-drop, length-map, get_or-append}
use lib.Seq.{drop-drop, drop-append_seam, get_or-append-add}
use borrow.Author.Tests.{leb-true, leb-false, ltb-true, ltb-false}
use Rattle.calculus.specs.Abstraction.{Act}
use Rattle.calculus.specs.Cond.{Cond}
use Rattle.calculus.specs.Term.{Term, sum, par, ren}
use Rattle.terms.specs.Answer.{result}
use Rattle.terms.specs.Encoding.{encode, InScope}
use Rattle.terms.specs.Question.{Question, check_of}
use Rattle.terms.proofs.ReadEncoded.{encode-some}
use Rattle.terms.specs.Question.{body_of}
pub use Rattle.steps_tallies.proofs.FrontLaws.{at_left, at_right}
use Rattle.steps_tallies.specs.Candidates.{candidates, OwnNamesIf}
use Rattle.steps_passing.specs.Passing.{Acts, PassIs, MiddleIs}
use Rattle.steps.specs.Raw.{Candidate, step, blocked, left_steps, right_steps}
use Rattle.steps_tallies.specs.Tally.{EndsInside, TallyIs}
use Rattle.steps_tallies.specs.Tallying.{number_at}
use Rattle.steps_passing.specs.declared.pass.Passed.{Passed}
use Rattle.steps_tallies.proofs.CandidateForms.{candidates-sum, candidates-par, meetings, tag_at, only_two}
use Rattle.steps_tallies.proofs.Numbering.{nth_left_steps, nth_right_steps}
use Rattle.steps_tallies.proofs.Premises.{never, Step, left_of_lem, right_of_lem}

-- A candidate with this action.
record Doing (c : Candidate) (α : Act) : Type 0 where
  result : Term
  premise : Step c α result

abbrev Keeps : (Candidate → Candidate) → Type 0
Keeps f = (c : Candidate) (M : Cond) (α : Act) (A : Term) → f c ≡ step M α A → Doing c α

-- The candidates cs of a term with two sides.
pub record Sides (f g : Candidate → Candidate) (cs cs₁ cs₂ more : List Candidate) : Type 0 where
  pub len : length cs ≡ length cs₁ + (length cs₂ + length more)
  pub first : (i : ℕ) → i < length cs₁ → get_or cs i blocked ≡ f (get_or cs₁ i blocked)
  pub second : (j : ℕ) → j < length cs₂ → get_or cs (length cs₁ + j) blocked ≡ g (get_or cs₂ j blocked)
  pub third : (j : ℕ) → get_or cs (length cs₁ + (length cs₂ + j)) blocked ≡ get_or more j blocked

module _ (body : ℕ → Term) (t : Bool) (n : ℕ) (P Q : Term) where
  pub sides_sum : Sides (λ c. c) (λ c. c) (candidates t body n (sum P Q)) (candidates t body n P) (candidates t body n Q) []
  sides_sum =
      let ps = candidates t body n P in
      let qs = candidates t body n Q in
      let c = candidates-sum body t n P Q in
      record {
        len = ap length c ∙ length-append ps qs ∙ omega arith;
        first = λ i h. ap (λ (l : List Candidate). get_or l i blocked) c ∙ get_or-append ps qs blocked i h;
        second = λ j h. ap (λ (l : List Candidate). get_or l (length ps + j) blocked) c ∙ get_or-append-add ps qs j blocked;
        third = λ j. ap (λ (l : List Candidate). get_or l (length ps + (length qs + j)) blocked) (c ∙ ap (λ (l : List Candidate). ps ++ l) (sym (append-nil qs)))
            ∙ get_or-append-add ps (qs ++ []) (length qs + j) blocked ∙ get_or-append-add qs [] j blocked;
      }

  pub sides_par : Sides (left_steps Q) (right_steps P) (candidates t body n (par P Q)) (candidates t body n P) (candidates t body n Q) (meetings body t n P Q)
  sides_par =
      let ps = map (left_steps Q) (candidates t body n P) in
      let qs = map (right_steps P) (candidates t body n Q) in
      let ms = meetings body t n P Q in
      let c = candidates-par body t n P Q in
      let lp : length ps ≡ length (candidates t body n P) = length-map (candidates t body n P) (left_steps Q) in
      let lq : length qs ≡ length (candidates t body n Q) = length-map (candidates t body n Q) (right_steps P) in
      record {
        len = ap length c ∙ omega (arith, length-append ps (qs ++ ms), length-append qs ms);
        first = λ i h. ap (λ (l : List Candidate). get_or l i blocked) c ∙ get_or-append ps (qs ++ ms) blocked i (omega arith)
            ∙ nth_left_steps Q (candidates t body n P) i;
        second = λ j h.
            ap (λ (k : ℕ). get_or (candidates t body n (par P Q)) (k + j) blocked) (sym lp)
            ∙ ap (λ (l : List Candidate). get_or l (length ps + j) blocked) c
            ∙ get_or-append-add ps (qs ++ ms) j blocked ∙ get_or-append qs ms blocked j (omega arith) ∙ nth_right_steps P (candidates t body n Q) j;
        third = λ j.
            ap (λ (k : ℕ). get_or (candidates t body n (par P Q)) (k + (length (candidates t body n Q) + j)) blocked) (sym lp)
            ∙ ap (λ (k : ℕ). get_or (candidates t body n (par P Q)) (length ps + (k + j)) blocked) (sym lq)
            ∙ ap (λ (l : List Candidate). get_or l (length ps + (length qs + j)) blocked) c
            ∙ get_or-append-add ps (qs ++ ms) (length qs + j) blocked ∙ get_or-append-add qs ms j blocked;
      }

keeps_id : Keeps (λ c. c)
keeps_id c M α A e = record { result = A; premise = record { condition = M; is = e } }

keeps_left : (Q : Term) → Keeps (left_steps Q)
keeps_left Q c M α A e = let b = left_of_lem Q c M α A e in record { result = b.result; premise = b.premise }

keeps_right : (P : Term) → Keeps (right_steps P)
keeps_right P c M α A e = let b = right_of_lem P c M α A e in record { result = b.result; premise = b.premise }

-- What the tally says of the sides.
pub number_is : (question s : List ℕ) (calls : ℕ) (t : List ℕ) → TallyIs question s calls t → (silently : Bool) (q : Question) (at free D : ℕ) (σ : ℕ → ℕ)
    → OwnNamesIf calls σ → (P : Term) (rest : List ℕ) → check_of question ≡ result q → InScope free q.arities D P → drop at s ≡ encode D P ++ rest
    → number_at t at silently ≡ length (candidates silently (body_of q.bodies) calls (ren σ P))
unfolding number_at candidates
number_is question s calls t T true q at free D σ own P rest ok scope st = (T.is q at free D σ own P rest ok scope st).1
number_is question s calls t T false q at free D σ own P rest ok scope st = (T.is q at free D σ own P rest ok scope st).0

-- The right side stands behind the form's first byte, whatever the bytes are.
pub middle_past : (s tally : List ℕ) → EndsInside s tally → (at m : ℕ) → MiddleIs s tally at m → at < length s → at < m
middle_past s tally E at m N h = go (leb (length s) (at + 1)) refl
  where
    go : (b : Bool) → leb (length s) (at + 1) ≡ b → at < m
    go true b = omega (arith, N.none (leb-true (length s) (at + 1) b))
    go false b = let l = leb-false (length s) (at + 1) b in omega (arith, N.is l, (E (at + 1) l).0)

pub middle_inside : (s tally : List ℕ) → EndsInside s tally → (at m : ℕ) → MiddleIs s tally at m → at < length s → m ≤ length s
middle_inside s tally E at m N h = go (leb (length s) (at + 1)) refl
  where
    go : (b : Bool) → leb (length s) (at + 1) ≡ b → m ≤ length s
    go true b = omega (arith, N.none (leb-true (length s) (at + 1) b))
    go false b = let l = leb-false (length s) (at + 1) b in omega (arith, N.is l, (E (at + 1) l).1)

module _ (question s : List ℕ) (calls : ℕ) (tally : List ℕ) (T : TallyIs question s calls tally) (at m : ℕ) (N : MiddleIs s tally at m) where
  pub middle_on : at < length s → at < m
  middle_on = middle_past s tally T.on at m N

  module _ (q : Question) (free D : ℕ) (σ : ℕ → ℕ) (own : OwnNamesIf calls σ) (P Q : Term) (rest : List ℕ) (ok : check_of question ≡ result q) (sp : InScope free q.arities D P)
      (sq : InScope free q.arities D Q) (st : drop (at + 1) s ≡ encode D P ++ (encode D Q ++ rest)) where
    pub middle_is : m ≡ at + 1 + length (encode D P)
    middle_is =
        N.is (omega (arith, encode-some D P, simp (length-append, length-drop) at (ap length st)))
        ∙ (T.is q (at + 1) free D σ own P (encode D Q ++ rest) ok sp st).2

    pub behind : drop m s ≡ encode D Q ++ rest
    behind = rw (middle_is, ← drop-drop, st, drop-append_seam)

    pub right_number : (silently : Bool) → number_at tally m silently ≡ length (candidates silently (body_of q.bodies) calls (ren σ Q))
    right_number silently = number_is question s calls tally T silently q m free D σ own Q rest ok sq behind

-- No visible candidate is a communication.
unmet : (body : ℕ → Term) (t : Bool) → t ≡ false → (n : ℕ) (P Q : Term) (k : ℕ) (M : Cond) (α : Act) (A : Term)
    → get_or (meetings body t n P Q) k blocked ≡ step M α A → ⊥
unmet body true v n P Q k M α A e = let z : ◌≡◌ {A = ℕ} 0 1 = cc in omega arith
unmet body false v n P Q k M α A e = never M α A e

-- What the action of the candidate number i does, from what it does on its side.
module _ (question s : List ℕ) (at D calls : ℕ) (t : Bool) (i : ℕ) (tally : List ℕ) (T : TallyIs question s calls tally)
    (two : (5 < get_or s at 0) × (get_or s at 0 < 8)) where
  abbrev Shows : (M : Cond) (α : Act) (A : Term) → Question → ℕ → (ℕ → ℕ) → List ℕ → Passed → Term → Type 0
  Shows M α A q free σ rest r P =
      InScope free q.arities D P → drop at s ≡ encode D P ++ rest
      → get_or (candidates t (body_of q.bodies) calls (ren σ P)) i blocked ≡ step M α A → Acts free D σ α r.kind r.object

  pub pass_left : i < number_at tally (at + 1) t → (r : Passed) → PassIs question s (at + 1) D calls t i r → PassIs question s at D calls t i r
  unfolding encode InScope
  pass_left l r R = record {
    slot = R.slot;
    does = λ q free σ own P rest ok few scope st M α A e.
        let b = tag_at s at D P rest st in
        let side : (f g : Candidate → Candidate) → Keeps f → (P Q : Term) (cs more : List Candidate)
        → Sides f g cs (candidates t (body_of q.bodies) calls (ren σ P)) (candidates t (body_of q.bodies) calls (ren σ Q)) more
        → InScope free q.arities D P → InScope free q.arities D Q → drop (at + 1) s ≡ encode D P ++ (encode D Q ++ rest)
        → get_or cs i blocked ≡ step M α A → Acts free D σ α r.kind r.object =
        λ f g keep P Q cs more S sp sq st e.
        let n = number_is question s calls tally T t q (at + 1) free D σ own P (encode D Q ++ rest) ok sp st in
        let d = keep (get_or (candidates t (body_of q.bodies) calls (ren σ P)) i blocked) M α A (sym (S.first i (omega arith)) ∙ e) in
        R.does q free σ own P (encode D Q ++ rest) ok few sp st d.premise.condition α d.result d.premise.is in
        only_two (Shows M α A q free σ rest r)
        (λ P Q scope st e. side (λ c. c) (λ c. c) keeps_id P Q _ _ (sides_sum (body_of q.bodies) t calls (ren σ P) (ren σ Q)) scope.0 scope.1 (at_left D s at P Q rest 6 st) e)
        (λ P Q scope st e. side (left_steps (ren σ Q)) (right_steps (ren σ P)) (keeps_left (ren σ Q)) P Q _ _ (sides_par (body_of q.bodies) t calls (ren σ P) (ren σ Q)) scope.0 scope.1 (at_left D s at P Q rest 7 st) e)
        P (omega (arith, two)) (omega (arith, two)) scope st e;
  }

  module _ (m : ℕ) (N : MiddleIs s tally at m) (l : number_at tally (at + 1) t ≤ i) (j : ℕ) (J : j ≡ i - number_at tally (at + 1) t) where
    pass_right : j < number_at tally m t → (r : Passed) → PassIs question s m D calls t j r → PassIs question s at D calls t i r
    unfolding encode InScope
    pass_right h r R = record {
      slot = R.slot;
      does = λ q free σ own P rest ok few scope st M α A e.
          let b = tag_at s at D P rest st in
          let side : (f g : Candidate → Candidate) → Keeps g → (P Q : Term) (cs more : List Candidate)
          → Sides f g cs (candidates t (body_of q.bodies) calls (ren σ P)) (candidates t (body_of q.bodies) calls (ren σ Q)) more
          → InScope free q.arities D P → InScope free q.arities D Q → drop (at + 1) s ≡ encode D P ++ (encode D Q ++ rest)
          → get_or cs i blocked ≡ step M α A → Acts free D σ α r.kind r.object =
          λ f g keep P Q cs more S sp sq st e.
          let n = number_is question s calls tally T t q (at + 1) free D σ own P (encode D Q ++ rest) ok sp st in
          let k = right_number question s calls tally T at m N q free D σ own P Q rest ok sp sq st t in
          let w : i ≡ length (candidates t (body_of q.bodies) calls (ren σ P)) + j = omega arith in
          let d = keep (get_or (candidates t (body_of q.bodies) calls (ren σ Q)) j blocked) M α A
          (sym (S.second j (omega arith)) ∙ ap (λ (k : ℕ). get_or cs k blocked) (sym w) ∙ e) in
          R.does q free σ own Q rest ok few sq (behind question s calls tally T at m N q free D σ own P Q rest ok sp sq st) d.premise.condition α d.result d.premise.is in
          only_two (Shows M α A q free σ rest r)
          (λ P Q scope st e. side (λ c. c) (λ c. c) keeps_id P Q _ _ (sides_sum (body_of q.bodies) t calls (ren σ P) (ren σ Q)) scope.0 scope.1 (at_left D s at P Q rest 6 st) e)
          (λ P Q scope st e. side (left_steps (ren σ Q)) (right_steps (ren σ P)) (keeps_right (ren σ P)) P Q _ _ (sides_par (body_of q.bodies) t calls (ren σ P) (ren σ Q)) scope.0 scope.1 (at_left D s at P Q rest 7 st) e)
          P (omega (arith, two)) (omega (arith, two)) scope st e;
    }

    -- Behind the visible candidates of both sides stands none.
    pass_over : t ≡ false → number_at tally m t ≤ j → (r : Passed) → r.object < 256 → PassIs question s at D calls t i r
    unfolding encode InScope
    pass_over v h r slot = record {
      slot = slot;
      does = λ q free σ own P rest ok few scope st M α A e.
          let b = tag_at s at D P rest st in
          let past : (f g : Candidate → Candidate) (P Q : Term) (cs more : List Candidate)
          → Sides f g cs (candidates t (body_of q.bodies) calls (ren σ P)) (candidates t (body_of q.bodies) calls (ren σ Q)) more
          → InScope free q.arities D P → InScope free q.arities D Q → drop (at + 1) s ≡ encode D P ++ (encode D Q ++ rest)
          → get_or cs i blocked ≡ step M α A → get_or more (j - number_at tally m t) blocked ≡ step M α A =
          λ f g P Q cs more S sp sq st e.
          let n = number_is question s calls tally T t q (at + 1) free D σ own P (encode D Q ++ rest) ok sp st in
          let k = right_number question s calls tally T at m N q free D σ own P Q rest ok sp sq st t in
          let w : i ≡ length (candidates t (body_of q.bodies) calls (ren σ P)) + (length (candidates t (body_of q.bodies) calls (ren σ Q)) + (j - number_at tally m t)) = omega arith in
          sym (S.third (j - number_at tally m t)) ∙ ap (λ (k : ℕ). get_or cs k blocked) (sym w) ∙ e in
          only_two (Shows M α A q free σ rest r)
          (λ P Q scope st e. never M α A (past (λ c. c) (λ c. c) P Q _ _ (sides_sum (body_of q.bodies) t calls (ren σ P) (ren σ Q)) scope.0 scope.1 (at_left D s at P Q rest 6 st) e))
          (λ P Q scope st e. absurd (unmet (body_of q.bodies) t v calls (ren σ P) (ren σ Q) (j - number_at tally m t) M α A
          (past (left_steps (ren σ Q)) (right_steps (ren σ P)) P Q _ _ (sides_par (body_of q.bodies) t calls (ren σ P) (ren σ Q)) scope.0 scope.1 (at_left D s at P Q rest 7 st) e)))
          P (omega (arith, two)) (omega (arith, two)) scope st e;
    }

    -- A visible candidate that is not the left side's is the right side's.
    pub pass_rest : t ≡ false → (r : Passed) → PassIs question s m D calls t j r → PassIs question s at D calls t i r
    pass_rest v r R = go (ltb j (number_at tally m t)) refl
      where
        go : (b : Bool) → ltb j (number_at tally m t) ≡ b → PassIs question s at D calls t i r
        go true e = pass_right (ltb-true j (number_at tally m t) e) r R
        go false e = pass_over v (omega (arith, ltb-false j (number_at tally m t) e)) r R.slot
