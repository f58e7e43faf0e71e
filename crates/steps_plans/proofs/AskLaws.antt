-- What a task asks for of a term, from what it asks for of the term's parts, form by form. Assumes nothing.
use mathlib.Core.Path.{◌≡◌, refl, sym, ap, subst, ◌∙◌}
use mathlib.Core.Bool.{Bool, true, false, cond}
use mathlib.Core.List.{List, [], ◌∷◌, ◌++◌}
use Prim.Native.Nat.{ℕ, zero, suc, ◌+◌, ◌<◌, ◌≤◌}
use native.Mathlib.Omega.{arith}
use lib.ListN.{length, get_or, drop}
use lib.Dec.{eqb}
use borrow.Author.Tests.{eqb-true, eq-eqb}
use lib.Seq.{drop-drop}
use Rattle.calculus.specs.Abstraction.{Act, tau_a, inp_a, out_a, bout_a, swap}
use Rattle.calculus.specs.Cond.{Cond}
use Rattle.calculus.specs.Term.{Term, nil, tau, inp, out, bout, res, ren, lift, ◌•◌}
use Rattle.calculus.proofs.Renaming.{ren-∘, ren_triangle}
use Rattle.terms.specs.Answer.{result}
use Rattle.terms.proofs.Answers.{both_true}
use Rattle.terms.specs.Encoding.{encode, InScope}
use Rattle.terms.specs.Limits.{name_count}
use Rattle.terms_bytes.specs.NameTable.{table_names}
use Rattle.terms.specs.Question.{Question, check_of}
use Rattle.terms.specs.Question.{body_of}
use Rattle.terms_bytes.specs.Shape.{height}
use Rattle.terms_bytes.proofs.Heights.{height-ren}
use Rattle.steps_conditions.specs.Names.{HasNames, HasNew}
use Rattle.steps_tallies.specs.Candidates.{candidates}
use Rattle.steps_passing.specs.Passing.{counted, Acts, opens_at}
use Rattle.steps.specs.Raw.{Candidate, step, blocked}
use Rattle.steps_plans.specs.Plans.{receiving, chosen, Asks, Writes, TermIs, WriteIs, beneath, entering}
use Rattle.steps_conditions.specs.Slots.{slot_of}
use Rattle.steps_plans.specs.declared.plan.Task.{Task}
use Rattle.steps_tallies.proofs.CandidateForms.{tag, tag_at, only_prefix}
use Rattle.steps_conditions.proofs.NameSlots.{names_enter, names-beneath, new-beneath, slot_bound, slot_inner, below_level}
use Rattle.steps_tallies.proofs.OwnNames.{own-under}
use Rattle.steps_passing.proofs.PassLaws.{prefix_step, prefix-candidates, only_one}
use Rattle.steps_tallies.proofs.Premises.{never, Step, Restricts}

-- A table has any renaming that does the same.
pub names_same : (free D D' : ℕ) (names : List ℕ) (τ τ' : ℕ → ℕ) → ((n : ℕ) → τ n ≡ τ' n) → HasNames free D D' names τ → HasNames free D D' names τ'
unfolding HasNames
names_same free D D' names τ τ' e h m l =
    let (x, y) = h m l in
    (x ∙ ap (slot_of table_names D') (e m), subst (λ (k : ℕ). k < D' + table_names) (e m) y)

-- The candidate that is asked for, where the term makes a step.
pub chosen_is : (task : Task) (body : ℕ → Term) (P : Term) → task.still ≡ false
    → chosen task body P ≡ get_or (candidates task.silently body task.calls P) task.number blocked
unfolding chosen
chosen_is task body P w = rw w

-- The term itself is asked for, renamed.
pub asks_still : (names : List ℕ) (task : Task) (body : ℕ → Term) (free D : ℕ) (σ : ℕ → ℕ) (P : Term) (bs : List ℕ) (top : ℕ) → task.still ≡ true
    → (K : Asks names task body free D σ P bs top) → (bs ≡ encode task.levels (ren (λ n. K.ρ (σ n)) P)) × (task.levels + height P ≤ top)
unfolding chosen receiving
asks_still names task body free D σ P bs top still K =
    let e : step [] tau_a (ren σ P) ≡ step K.condition K.action K.result = rw still at K.candidate in
    let x : K.action ≡ tau_a = cc in
    let y : K.result ≡ ren σ P = cc in (
      K.bytes ∙ ap (λ (α : Act). encode task.levels (ren (receiving K.x K.ρ α) K.result)) x
          ∙ ap (λ (A : Term). encode task.levels (ren K.ρ A)) y ∙ ap (encode task.levels) (ren-∘ K.ρ σ P),
      omega (arith, K.bounded, ap height y, height-ren σ P),
    )

module _ (question s : List ℕ) (at D : ℕ) (names : List ℕ) (task : Task) (out' : List ℕ) (put r : ℕ) (out'' : List ℕ) (walks : task.still ≡ false) where
  one_of : (body : ℕ → Term) (P : Term) → tag P < 5 → (M : Cond) (α : Act) (A : Term) → chosen task body P ≡ step M α A
      → get_or (cond (counted task.silently (tag P)) (prefix_step P) []) task.number blocked ≡ step M α A
  one_of body P low M α A e =
      ap (λ (l : List Candidate). get_or l task.number blocked) (sym (prefix-candidates body task.silently task.calls P low))
      ∙ sym (chosen_is task body P walks) ∙ e

  abbrev Shows : Bool → Question → ℕ → (ℕ → ℕ) → List ℕ → List ℕ → ℕ → Term → Type 0
  Shows low q free σ rest bs top P =
      InScope free q.arities D P → drop at s ≡ encode D P ++ rest → Asks names task (body_of q.bodies) free D σ P bs top → get_or s at 0 ≡ tag P
      → Writes low out' put bs r out''

  pub write-tau : get_or s at 0 ≡ 1 → TermIs question s (at + 1) D names task.levels out' put r out'' → WriteIs question s at D names task out' put r out''
  unfolding encode InScope prefix_step receiving
  write-tau g T = record {
    on = T.on;
    is = λ low q free σ P rest bs top ok few scope st K shallow.
        let b = tag_at s at D P rest st in
        only_prefix (Shows low q free σ rest bs top)
        (λ scope st K b. absurd (omega arith))
        (λ Q scope st K b.
        let e = only_one (counted task.silently 1) (step [] tau_a (ren σ Q) ∷ []) task.number K.condition K.action K.result (omega arith)
        (one_of (body_of q.bodies) (tau (ren σ Q)) (omega arith) K.condition K.action K.result K.candidate) in
        let x : K.action ≡ tau_a = cc in
        let y : K.result ≡ ren σ Q = cc in
        let w : bs ≡ encode task.levels (ren (λ n. K.ρ (σ n)) Q) =
        K.bytes ∙ ap (λ (α : Act). encode task.levels (ren (receiving K.x K.ρ α) K.result)) x
        ∙ ap (λ (A : Term). encode task.levels (ren K.ρ A)) y ∙ ap (encode task.levels) (ren-∘ K.ρ σ Q) in
        subst (λ (l : List ℕ). Writes low out' put l r out'') (sym w)
        (T.is low q free (λ n. K.ρ (σ n)) Q rest ok few scope (sym (drop-drop 1 at s) ∙ ap (drop 1) st) K.has (λ t. let k = shallow t in omega (arith, K.bounded, ap height y, height-ren σ Q))))
        (λ a Q scope st K b. absurd (omega arith))
        (λ a c Q scope st K b. absurd (omega arith))
        (λ a Q scope st K b. absurd (omega arith))
        P (omega arith) scope st K b;
  }

  pub write-out : get_or s at 0 ≡ 3 → TermIs question s (at + 3) D names task.levels out' put r out'' → WriteIs question s at D names task out' put r out''
  unfolding encode InScope prefix_step receiving
  write-out g T = record {
    on = T.on;
    is = λ low q free σ P rest bs top ok few scope st K shallow.
        let b = tag_at s at D P rest st in
        only_prefix (Shows low q free σ rest bs top)
        (λ scope st K b. absurd (omega arith))
        (λ Q scope st K b. absurd (omega arith))
        (λ a Q scope st K b. absurd (omega arith))
        (λ a c Q scope st K b.
        let e = only_one (counted task.silently 3) (step [] (out_a (σ a) (σ c)) (ren σ Q) ∷ []) task.number K.condition K.action K.result (omega arith)
        (one_of (body_of q.bodies) (out (σ a) (σ c) (ren σ Q)) (omega arith) K.condition K.action K.result K.candidate) in
        let x : K.action ≡ out_a (σ a) (σ c) = cc in
        let y : K.result ≡ ren σ Q = cc in
        let w : bs ≡ encode task.levels (ren (λ n. K.ρ (σ n)) Q) =
        K.bytes ∙ ap (λ (α : Act). encode task.levels (ren (receiving K.x K.ρ α) K.result)) x
        ∙ ap (λ (A : Term). encode task.levels (ren K.ρ A)) y ∙ ap (encode task.levels) (ren-∘ K.ρ σ Q) in
        subst (λ (l : List ℕ). Writes low out' put l r out'') (sym w)
        (T.is low q free (λ n. K.ρ (σ n)) Q rest ok few scope.2 (sym (drop-drop 3 at s) ∙ ap (drop 3) st) K.has (λ t. let k = shallow t in omega (arith, K.bounded, ap height y, height-ren σ Q))))
        (λ a Q scope st K b. absurd (omega arith))
        P (omega arith) scope st K b;
  }

  -- Input and new-name output: the continuation's own binder is written as the name received or extruded.
  module _ (room : table_names + D < length names) (T : TermIs question s (at + 2) (D + 1) (entering D task.new names) task.levels out' put r out'') where
    bound : (low : Bool) (q : Question) (free : ℕ) (σ : ℕ → ℕ) (Q : Term) (rest bs : List ℕ) → check_of question ≡ result q → free ≤ name_count
        → InScope free q.arities (1 + D) Q → drop (at + 2) s ≡ encode (1 + D) Q ++ rest
        → (ρ : ℕ → ℕ) (x : ℕ) → HasNames free D task.levels names (λ n. ρ (σ n)) → HasNew task.levels task.new x
        → bs ≡ encode task.levels (ren (x • ρ) (ren (lift σ) Q)) → (low ≡ true → task.levels + height Q ≤ 128) → Writes low out' put bs r out''
    unfolding HasNew
    bound low q free σ Q rest bs ok few scope st ρ x has new e shallow =
        let d : D + 1 ≡ 1 + D = omega arith in
        let T' : TermIs question s (at + 2) (1 + D) (entering D task.new names) task.levels out' put r out'' = rw d at T in
        let w = names_enter free D task.levels names (λ n. ρ (σ n)) has task.new x (omega arith) room new.0 new.1 in
        let v : bs ≡ encode task.levels (ren (x • (λ n. ρ (σ n))) Q) = e ∙ ap (encode task.levels) (ren_triangle (x • ρ) (lift σ) (x • (λ n. ρ (σ n))) Q same) in
        subst (λ (l : List ℕ). Writes low out' put l r out'') (sym v)
        (T'.is low q free (x • (λ n. ρ (σ n))) Q rest ok few scope st w shallow)
      where
        same : (n : ℕ) → (x • ρ) (lift σ n) ≡ (x • (λ n. ρ (σ n))) n
        same zero = refl
        same (suc n) = refl

    pub write_bound : get_or s at 0 < 5 → (get_or s at 0 ≡ 1 → ⊥) → (get_or s at 0 ≡ 3 → ⊥) → WriteIs question s at D names task out' put r out''
    unfolding encode InScope prefix_step receiving
    write_bound small not1 not3 = record {
      on = T.on;
      is = λ low q free σ P rest bs top ok few scope st K shallow.
          let b = tag_at s at D P rest st in
          only_prefix (Shows low q free σ rest bs top)
          (λ scope st K b. none (counted task.silently 0) task.number K.condition K.action K.result
          (one_of (body_of q.bodies) nil (omega arith) K.condition K.action K.result K.candidate))
          (λ Q scope st K b. absurd (not1 b))
          (λ a Q scope st K b.
          let e = only_one (counted task.silently 2) (step [] (inp_a (σ a)) (ren (lift σ) Q) ∷ []) task.number K.condition K.action K.result (omega arith)
          (one_of (body_of q.bodies) (inp (σ a) (ren (lift σ) Q)) (omega arith) K.condition K.action K.result K.candidate) in
          let x : K.action ≡ inp_a (σ a) = cc in
          let y : K.result ≡ ren (lift σ) Q = cc in
          bound low q free σ Q rest bs ok few scope.1 (sym (drop-drop 2 at s) ∙ ap (drop 2) st) K.ρ K.x K.has K.new
          (K.bytes ∙ ap (λ (α : Act). encode task.levels (ren (receiving K.x K.ρ α) K.result)) x
          ∙ ap (λ (A : Term). encode task.levels (ren (K.x • K.ρ) A)) y)
          (λ t. let k = shallow t in omega (arith, K.bounded, ap height y, height-ren (lift σ) Q)))
          (λ a c Q scope st K b. absurd (not3 b))
          (λ a Q scope st K b.
          let e = only_one (counted task.silently 4) (step [] (bout_a (σ a)) (ren (lift σ) Q) ∷ []) task.number K.condition K.action K.result (omega arith)
          (one_of (body_of q.bodies) (bout (σ a) (ren (lift σ) Q)) (omega arith) K.condition K.action K.result K.candidate) in
          let x : K.action ≡ bout_a (σ a) = cc in
          let y : K.result ≡ ren (lift σ) Q = cc in
          bound low q free σ Q rest bs ok few scope.1 (sym (drop-drop 2 at s) ∙ ap (drop 2) st) K.ρ K.x K.has K.new
          (K.bytes ∙ ap (λ (α : Act). encode task.levels (ren (receiving K.x K.ρ α) K.result)) x
          ∙ ap (λ (A : Term). encode task.levels (ren (K.x • K.ρ) A)) y)
          (λ t. let k = shallow t in omega (arith, K.bounded, ap height y, height-ren (lift σ) Q)))
          P (omega arith) scope st K b;
    }
      where
        none : {T : Type 0} (t : Bool) (n : ℕ) (M : Cond) (α : Act) (A : Term) → get_or (cond t (prefix_step nil) []) n blocked ≡ step M α A → T
        none true n M α A e = never M α A e
        none false n M α A e = never M α A e

-- The binder of a bound action and the restriction change places.
swapped : (x : ℕ) (ρ : ℕ → ℕ) (n : ℕ) → lift (x • ρ) (swap n) ≡ (suc x • lift ρ) n
swapped x ρ zero = refl
swapped x ρ (suc zero) = refl
swapped x ρ (suc (suc n)) = refl

-- [Open] and [Res]: what is asked for beneath a restriction. Its candidate has the action β and the result B.
module _ (names : List ℕ) (task : Task) (walks : task.still ≡ false) (D k o : ℕ) where
  -- the restricted name is sent exactly if the code finds so
  open_sends : opens_at D k o ≡ true → (free : ℕ) → free ≤ table_names → (σ : ℕ → ℕ) (β : Act) → Acts free (1 + D) (lift σ) β k o → (B : Term) (α : Act) (A : Term) → Restricts β B α A
      → ((a : ℕ) × (β ≡ out_a (suc a) zero) × (α ≡ bout_a a) × (A ≡ B))
  unfolding Acts opens_at
  open_sends t free few σ β d B α A r =
      let (x, y) = both_true (eqb k 2) (eqb o (table_names + D)) t in
      go β d (eqb-true k 2 x) (eqb-true o (table_names + D) y) r
    where
      inner_unsent : (n : ℕ) → n < 1 + D + free → o ≡ slot_of table_names (1 + D) n → o ≡ table_names + D → {b : ℕ} → suc b ≡ lift σ n → ⊥
      inner_unsent zero l e f z = absurd (omega arith)
      inner_unsent (suc n) l e f z = below_level D n (omega arith) (sym (e ∙ slot_inner table_names D n) ∙ f)

      go : (β : Act) → Acts free (1 + D) (lift σ) β k o → k ≡ 2 → o ≡ table_names + D → Restricts β B α A → ((a : ℕ) × (β ≡ out_a (suc a) zero) × (α ≡ bout_a a) × (A ≡ B))
      go tau_a d x y r = absurd (omega arith)
      go (inp_a a) d x y r = absurd (omega arith)
      go (bout_a a) d x y r = absurd (omega arith)
      go (out_a zero b) d x y r = absurd r
      go (out_a (suc a) zero) d x y r = (a, refl, r.0, r.1)
      go (out_a (suc a) (suc b)) (d, c) x y r = absurd (inner_unsent c.name c.within c.slot y c.is)

  pub ask_open : table_names + D < length names → opens_at D k o ≡ true → (body : ℕ → Term) (free : ℕ) (σ : ℕ → ℕ) (Q : Term) (bs : List ℕ) (top : ℕ) → free ≤ name_count → (K : Asks names task body free D σ (res Q) bs top)
      → (β : Act) (B : Term) → Step (get_or (candidates task.silently body task.calls (ren (lift σ) Q)) task.number blocked) β B
      → Restricts β B K.action K.result → Acts free (1 + D) (lift σ) β k o → Asks (entering D task.new names) task body free (1 + D) (lift σ) Q bs top
  unfolding receiving HasNew
  ask_open room t body free σ Q bs top few K β B S r d =
      let (a, eβ, eα, eA) = open_sends t free (omega arith) σ β d B K.action K.result r in
      record {
        named_own = own-under task.calls σ K.named_own;
        ρ = K.x • K.ρ;
        x = K.x;
        has = names_same free (1 + D) task.levels (entering D task.new names) (K.x • (λ n. K.ρ (σ n))) (λ n. (K.x • K.ρ) (lift σ n)) same
            (names_enter free D task.levels names (λ n. K.ρ (σ n)) K.has task.new K.x (omega arith) room K.new.0 K.new.1);
        new = K.new;
        condition = S.condition;
        action = β;
        result = B;
        candidate = chosen_is task body (ren (lift σ) Q) walks ∙ S.is;
        bytes =
            K.bytes ∙ ap (λ (α : Act). encode task.levels (ren (receiving K.x K.ρ α) K.result)) eα
            ∙ ap (λ (A : Term). encode task.levels (ren (K.x • K.ρ) A)) eA
            ∙ ap (λ (β : Act). encode task.levels (ren (receiving K.x (K.x • K.ρ) β) B)) (sym eβ);
        bounded = omega (arith, K.bounded, ap height eA);
      }
    where
      same : (n : ℕ) → (K.x • (λ n. K.ρ (σ n))) n ≡ (K.x • K.ρ) (lift σ n)
      same zero = refl
      same (suc n) = refl

  -- the restricted name is not sent
  not_sent : opens_at D k o ≡ false → (free : ℕ) (σ : ℕ → ℕ) (a : ℕ) → Acts free (1 + D) (lift σ) (out_a (suc a) zero) k o → ⊥
  unfolding Acts opens_at
  not_sent t free σ a d = sent_zero d.1.name d.1.slot d.1.is
    where
      sent_zero : (n : ℕ) → o ≡ slot_of table_names (1 + D) n → 0 ≡ lift σ n → ⊥
      sent_zero zero e z =
          let f : opens_at D k o ≡ true = rw (eq-eqb k 2 d.0, eq-eqb o (table_names + D) (e ∙ slot_bound table_names (1 + D) 0 (omega arith) ∙ omega arith)) in
          let y : ◌≡◌ {A = ℕ} 0 1 = cc in
          omega arith
      sent_zero (suc n) e z = omega arith

  -- The bytes behind byte 08.
  res-bytes : opens_at D k o ≡ false → (free : ℕ) (σ : ℕ → ℕ) (β : Act) → Acts free (1 + D) (lift σ) β k o → (B : Term) (α : Act) (A : Term) → Restricts β B α A
      → (L x : ℕ) (ρ : ℕ → ℕ) → encode L (ren (receiving x ρ α) A) ≡ 8 ∷ encode (1 + L) (ren (receiving (suc x) (lift ρ) β) B)
  unfolding Acts receiving encode opens_at
  res-bytes t free σ tau_a d B α A (eα, eA) L x ρ = rw (eα, eA)
  res-bytes t free σ (inp_a (suc a)) d B α A (eα, eA) L x ρ =
      rw (eα, eA) (ap (λ (T : Term). 8 ∷ encode (1 + L) T) (ren_triangle (lift (x • ρ)) swap (suc x • lift ρ) B (swapped x ρ)))
  res-bytes t free σ (out_a (suc a) zero) d B α A r L x ρ = absurd (not_sent t free σ a d)
  res-bytes t free σ (out_a (suc a) (suc b)) d B α A (eα, eA) L x ρ = rw (eα, eA)
  res-bytes t free σ (bout_a (suc a)) d B α A (eα, eA) L x ρ =
      rw (eα, eA) (ap (λ (T : Term). 8 ∷ encode (1 + L) T) (ren_triangle (lift (x • ρ)) swap (suc x • lift ρ) B (swapped x ρ)))
  res-bytes t free σ (inp_a zero) d B α A r L x ρ = absurd r
  res-bytes t free σ (out_a zero b) d B α A r L x ρ = absurd r
  res-bytes t free σ (bout_a zero) d B α A r L x ρ = absurd r

  pub res_part : opens_at D k o ≡ false → (body : ℕ → Term) (free : ℕ) (σ : ℕ → ℕ) (Q : Term) (bs : List ℕ) (top : ℕ) → (K : Asks names task body free D σ (res Q) bs top)
      → (β : Act) (B : Term) → Restricts β B K.action K.result → Acts free (1 + D) (lift σ) β k o
      → bs ≡ (8 ∷ []) ++ encode (task.levels + 1) (ren (receiving (suc K.x) (lift K.ρ) β) B)
  res_part t body free σ Q bs top K β B r d =
      let L = task.levels in
      let e : L + 1 ≡ 1 + L = omega arith in
      K.bytes ∙ res-bytes t free σ β d B K.action K.result r L K.x K.ρ
      ∙ ap (λ (n : ℕ). 8 ∷ encode n (ren (receiving (suc K.x) (lift K.ρ) β) B)) (sym e)

  -- the restriction is one binder more
  res-height : opens_at D k o ≡ false → (free : ℕ) (σ : ℕ → ℕ) (β : Act) → Acts free (1 + D) (lift σ) β k o → (B : Term) (α : Act) (A : Term) → Restricts β B α A
      → height A ≡ 1 + height B
  unfolding height
  res-height t free σ tau_a d B α A (eα, eA) = ap height eA
  res-height t free σ (inp_a (suc a)) d B α A (eα, eA) = ap height eA ∙ ap (λ (n : ℕ). 1 + n) (height-ren swap B)
  res-height t free σ (out_a (suc a) zero) d B α A r = absurd (not_sent t free σ a d)
  res-height t free σ (out_a (suc a) (suc b)) d B α A (eα, eA) = ap height eA
  res-height t free σ (bout_a (suc a)) d B α A (eα, eA) = ap height eA ∙ ap (λ (n : ℕ). 1 + n) (height-ren swap B)
  res-height t free σ (inp_a zero) d B α A r = absurd r
  res-height t free σ (out_a zero b) d B α A r = absurd r
  res-height t free σ (bout_a zero) d B α A r = absurd r

  pub ask-res : table_names + D < length names → opens_at D k o ≡ false → (body : ℕ → Term) (free : ℕ) (σ : ℕ → ℕ) (Q : Term) (bs : List ℕ) (top : ℕ) → free ≤ name_count
      → (K : Asks names task body free D σ (res Q) bs top) → (β : Act) (B : Term) → Restricts β B K.action K.result → Acts free (1 + D) (lift σ) β k o
      → Step (get_or (candidates task.silently body task.calls (ren (lift σ) Q)) task.number blocked) β B
      → Asks (entering D (table_names + task.levels) names) (beneath task) body free (1 + D) (lift σ) Q (encode (task.levels + 1) (ren (receiving (suc K.x) (lift K.ρ) β) B)) top
  ask-res room t body free σ Q bs top few K β B r d S =
      let L = task.levels in
      let e : L + 1 ≡ 1 + L = omega arith in
      record {
        named_own = own-under task.calls σ K.named_own;
        ρ = lift K.ρ;
        x = suc K.x;
        has = rw e
            (names_same free (1 + D) (1 + L) (entering D (table_names + task.levels) names) (0 • (λ n. suc (K.ρ (σ n)))) (λ n. lift K.ρ (lift σ n)) same
            (names_enter free D (1 + L) names (λ n. suc (K.ρ (σ n))) (names-beneath free D L names (λ n. K.ρ (σ n)) K.has) (table_names + L) 0
            (omega arith) room (sym (slot_bound table_names (1 + L) 0 (omega arith) ∙ omega arith)) (omega arith)));
        new = rw e (new-beneath L task.new K.x K.new);
        condition = S.condition;
        action = β;
        result = B;
        candidate = chosen_is (beneath task) body (ren (lift σ) Q) walks ∙ S.is;
        bytes = refl;
        bounded = omega (arith, K.bounded, res-height t free σ β d B K.action K.result r);
      }
    where
      same : (n : ℕ) → (0 • (λ n. suc (K.ρ (σ n)))) n ≡ lift K.ρ (lift σ n)
      same zero = refl
      same (suc n) = refl
