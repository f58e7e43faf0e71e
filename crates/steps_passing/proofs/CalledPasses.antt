-- A call and the body that it opens: where its names stand, what they stand for in the body, and its candidates. Assumes nothing.
use mathlib.Core.Path.{◌≡◌, refl, sym, ap, subst, ◌∙◌}
use mathlib.Core.Bool.{Bool}
use mathlib.Core.List.{List, [], ◌++◌, map, reverse, append-nil}
use Prim.Native.Nat.{ℕ, suc, ◌+◌, ◌-◌, ◌<◌, ◌≤◌}
use native.Mathlib.Omega.{arith}
use lib.ListN.{length, get_or, drop, length-map}
use lib.Seq.{drop-drop}
use Rattle.calculus.specs.Abstraction.{Act, tau_a, inp_a, out_a, bout_a}
use Rattle.calculus.specs.Definitions.{at}
use Rattle.calculus.specs.Term.{Term, call, ren}
pub use Rattle.terms.proofs.ScopeLaws.{name_within}
use Rattle.terms.specs.Answer.{Answer, refused, result}
use Rattle.terms.specs.Encoding.{name_byte, encode, InScope, NamesInScope}
use Rattle.terms.specs.Limits.{name_count}
use Rattle.terms_bytes.specs.NameTable.{table_names}
use Rattle.terms.specs.Question.{Question, check_of}
use Rattle.terms_bytes.proofs.Stores.{get_d_front, get_d_map, get_d_reverse}
use Rattle.steps_tallies.specs.Bodies.{BodyIs, Unopened}
use Rattle.terms.specs.Question.{body_of}
use Rattle.steps_conditions.specs.Names.{turn, HasNames, CalledIs}
use Rattle.steps_tallies.specs.Candidates.{candidates}
use Rattle.steps_passing.specs.Passing.{Acts, PassIs, nothing_sent, returned_at}
use Rattle.steps.specs.Raw.{Candidate, step, blocked}
use Rattle.steps_conditions.specs.Slots.{slot_of}
use Rattle.steps_passing.specs.declared.pass.Passed.{Passed}
use Rattle.steps_tallies.proofs.CandidateForms.{candidates_no_call, tag_at, only_call}
use Rattle.steps_conditions.proofs.NameSlots.{slot_of_byte, slot_bound, turn_small}
use Rattle.steps_tallies.proofs.Premises.{never}
use Rattle.steps_tallies.proofs.CallLaws.{body_scope, opened-candidates}

-- What the parameters of a body stand for: the last is index 0.
abbrev pub params : (ℕ → ℕ) → List ℕ → ℕ → ℕ
params σ xs = at (reverse (map σ xs))

pub parameter_is : (σ : ℕ → ℕ) (xs : List ℕ) (m : ℕ) → m < length xs → params σ xs m ≡ σ (get_or xs (length xs - 1 - m) 0)
parameter_is σ xs m h =
    let l = length-map xs σ in
    get_d_reverse (map σ xs) m (omega arith) ∙ ap (λ (n : ℕ). get_or (map σ xs) (n - 1 - m) 0) l
    ∙ get_d_map σ xs (length xs - 1 - m) (omega arith)

-- What stands in the slot of a parameter.
parameter_slot : (n m : ℕ) → m < n → slot_of table_names n m - table_names ≡ n - 1 - m
parameter_slot n m h = rw (slot_bound table_names n m h) (omega arith)

module _ (free D : ℕ) (s : List ℕ) (from : ℕ) (xs rest : List ℕ) (few : free ≤ name_count) (scope : NamesInScope free D xs)
    (st : drop from s ≡ map (name_byte D) xs ++ rest) where
  -- The slot of the j-th name.
  call-slot : (j : ℕ) → j < length xs → turn 128 table_names D (get_or s (from + j) 0) ≡ slot_of table_names D (get_or xs j 0)
  call-slot j h =
      let w = name_within free D xs scope j h in
      ap (turn 128 table_names D) (get_d_front s from (map (name_byte D) xs) rest j st (omega (arith, length-map xs (name_byte D))) ∙ get_d_map (name_byte D) xs j h)
      ∙ slot_of_byte D (get_or xs j 0) (omega arith)

  -- The table of the body.
  pub names-call : (D' : ℕ) (names r : List ℕ) (σ ρ : ℕ → ℕ) → HasNames free D D' names (λ n. ρ (σ n)) → (n : ℕ) → n ≡ length xs → CalledIs s from n D names r
      → HasNames 0 n D' r (λ m. ρ (params σ xs m))
  unfolding HasNames CalledIs
  names-call D' names r σ ρ has n same is m h =
      let j = length xs - 1 - m in
      let l : m < length xs = omega arith in
      let (e, b) = has (get_or xs j 0) (name_within free D xs scope j (omega arith)) in
      let q = parameter_is σ xs m l in
      let t : slot_of table_names n m ≡ table_names + j = slot_bound table_names n m (omega arith) ∙ omega arith in (
        ap (λ (k : ℕ). get_or r k 0) t ∙ is j (omega arith) ∙ ap (λ (k : ℕ). get_or names k 0) (call-slot j (omega arith)) ∙ e
            ∙ ap (λ (k : ℕ). slot_of table_names D' (ρ k)) (sym q),
        rw q b,
      )

  -- What an action of the body does outside.
  does_called : (σ : ℕ → ℕ) (n : ℕ) → n ≡ length xs → (α : Act) (k o : ℕ) → Acts 0 n (params σ xs) α k o
      → Acts free D σ α k (turn 128 table_names D (get_or s (from + (o - table_names)) 0))
  unfolding Acts
  does_called σ n same tau_a k o d = d
  does_called σ n same (inp_a a) k o d = d
  does_called σ n same (bout_a a) k o d = d
  does_called σ n same (out_a a b) k o (d, c) =
      let w = c.within in
      let l : c.name < length xs = omega arith in
      let j = length xs - 1 - c.name in
      let e : o - table_names ≡ j = ap (λ (k : ℕ). k - table_names) c.slot ∙ parameter_slot n c.name (omega arith) ∙ omega arith in (
        d,
        record {
          name = get_or xs j 0;
          within = name_within free D xs scope j (omega arith);
          slot = ap (λ (k : ℕ). turn 128 table_names D (get_or s (from + k) 0)) e ∙ call-slot j (omega arith);
          is = c.is ∙ parameter_is σ xs c.name l;
        },
      )

-- The call at `at`.
module _ (question s : List ℕ) (at D calls : ℕ) (t : Bool) (i : ℕ) (g : 8 < get_or s at 0) (k n : ℕ) (K : k ≡ get_or s (at + 1) 0)
    (N : (q : Question) → check_of question ≡ result q → n ≡ get_or q.arities k 0) where
  -- To show something of what stands there, show it of the calls.
  pub at_call : (C : Term → Type 0) (q : Question) (free : ℕ) (P : Term) (rest : List ℕ) → check_of question ≡ result q → InScope free q.arities D P
      → drop at s ≡ encode D P ++ rest
      → ((xs : List ℕ) → n ≡ length xs → n ≡ get_or q.arities k 0 → k < length q.arities → NamesInScope free D xs
      → drop (at + 2) s ≡ map (name_byte D) xs ++ rest → C (call k xs))
      → C P
  unfolding encode InScope
  at_call C q free P rest ok scope st f = only_call (λ (P : Term). InScope free q.arities D P → drop at s ≡ encode D P ++ rest → C P)
      (λ j xs scope st.
      let e : k ≡ j = K ∙ get_d_front s at (encode D (call j xs)) rest 1 st (omega arith) in
      let a = N q ok in
      let b : length xs ≡ get_or q.arities k 0 = scope.1 ∙ ap (λ (k : ℕ). get_or q.arities k 0) (sym e) in
      let l = scope.0 in
      subst (λ (j : ℕ). C (call j xs)) e
      (f xs (a ∙ sym b) a (omega arith) scope.2 (sym (drop-drop 2 at s) ∙ ap (drop 2) st)))
      P (let b = tag_at s at D P rest st in omega arith) scope st

  module _ (bytes : List ℕ) (B : BodyIs question k bytes) where
    -- [Con]: the candidates are those of the body.
    pub pass_opened : D + 128 ≤ 256 → calls ≤ 1 → (c : ℕ) → calls ≡ suc c → (r : Passed) → PassIs question bytes 0 n c t i r
        → PassIs question s at D calls t i (returned_at s (at + 2) D r)
    unfolding returned_at
    pass_opened deep once c z r R = record {
      slot = turn_small 128 table_names D (get_or s (at + 2 + (r.object - table_names)) 0) (omega arith) (omega arith);
      does = λ q free σ own P rest ok few scope st M α A w. at_call
          (λ (P : Term). get_or (candidates t (body_of q.bodies) calls (ren σ P)) i blocked ≡ step M α A
          → Acts free D σ α r.kind (turn 128 table_names D (get_or s (at + 2 + (r.object - table_names)) 0)))
          q free P rest ok scope st
          (λ xs m a l names st w.
          let body = body_of q.bodies in
          let e : candidates t body calls (call k (map σ xs)) ≡ candidates t body c (ren (params σ xs) (body k)) =
          opened-candidates question q ok k calls c once z t (map σ xs) in
          does_called free D s (at + 2) xs rest few names st σ n m α r.kind r.object
          (R.does q 0 (params σ xs) (λ h. absurd (omega arith)) (body k) [] ok (omega arith) (subst (λ (n : ℕ). InScope 0 q.arities n (body k)) (sym a) (body_scope question q ok k))
          (B.is q ok l ∙ ap (λ (n : ℕ). encode n (body k)) (sym a) ∙ sym (append-nil (encode n (body k))))
          M α A (ap (λ (l : List Candidate). get_or l i blocked) (sym e) ∙ w)))
          w;
    }

-- The question, where it is accepted, says how many names a definition has.
arity_there : (question : List ℕ) (k : ℕ) → (n : ℕ) × ((q : Question) → check_of question ≡ result q → n ≡ get_or q.arities k 0)
arity_there question k = go (check_of question) refl
  where
    go : (a : Answer Question) → check_of question ≡ a → (n : ℕ) × ((q : Question) → check_of question ≡ result q → n ≡ get_or q.arities k 0)
    go (result p) e = (get_or p.arities k 0, λ q f. let z : ◌≡◌ {A = Question} p q = cc in ap (λ (q : Question). get_or q.arities k 0) z)
    go (refused i) e = (0, λ q f. let z : ◌≡◌ {A = ℕ} 0 1 = cc in absurd (omega arith))

-- A call that may not be opened: no call is left to open, or the question is not accepted.
module _ (question s : List ℕ) (at D calls : ℕ) (t : Bool) (i : ℕ) (g : 8 < get_or s at 0) (U : Unopened question s at calls) where
  pub at_closed : (C : Term → Type 0) (q : Question) (free : ℕ) (P : Term) (rest : List ℕ) → check_of question ≡ result q → InScope free q.arities D P
      → drop at s ≡ encode D P ++ rest → ((xs : List ℕ) → calls ≡ 0 → C (call (get_or s (at + 1) 0) xs)) → C P
  at_closed C q free P rest ok scope st f =
      let (n, N) = arity_there question (get_or s (at + 1) 0) in
      at_call question s at D calls t i g (get_or s (at + 1) 0) n refl N C q free P rest ok scope st (λ xs m a l names st. f xs (U q ok l))

  pub pass_closed : PassIs question s at D calls t i nothing_sent
  pass_closed = record {
    slot = omega arith;
    does = λ q free σ own P rest ok few scope st M α A e. at_closed
        (λ (P : Term). get_or (candidates t (body_of q.bodies) calls (ren σ P)) i blocked ≡ step M α A → Acts free D σ α 0 0)
        q free P rest ok scope st
        (λ xs z e.
        let k = get_or s (at + 1) 0 in
        let c : candidates t (body_of q.bodies) calls (call k (map σ xs)) ≡ [] =
        ap (λ (c : ℕ). candidates t (body_of q.bodies) c (call k (map σ xs))) z ∙ candidates_no_call (body_of q.bodies) t k (map σ xs) in
        never M α A (ap (λ (l : List Candidate). get_or l i blocked) (sym c) ∙ e))
        e;
  }
