-- Of a parallel in which a component steps alone, the bytes beside the component stay, where no name changes. Assumes nothing.
use mathlib.Core.Path.{◌≡◌, refl, sym, ap, ap₂, subst, ◌∙◌}
use mathlib.Core.Bool.{Bool, true, false}
use mathlib.Core.List.{List, [], ◌∷◌, ◌++◌, append_assoc, append-nil}
use mathlib.Core.Logic.{inl, inr}
use Prim.Native.Nat.{ℕ, ◌+◌, ◌-◌, ◌<◌, ◌≤◌}
use native.Mathlib.Omega.{arith}
use lib.Dec.{leb}
use lib.ListN.{length, get_or, take, drop, length-append, length-drop}
use lib.Seq.{sets, take_at, length-take-le}
use borrow.Author.Tests.{leb-true, leb-false}
use Rattle.calculus.specs.Term.{Term}
use Rattle.terms.specs.Encoding.{encode, InScope}
use Rattle.terms.specs.Limits.{name_count}
use Rattle.terms.specs.Question.{Question}
use Rattle.terms.proofs.ReadEncoded.{encode-some}
use Rattle.steps_plans.specs.Beside.{Beside, StandsBeside, FoundBeside, BehindIs}
use Rattle.terms.specs.Question.{body_of}
use Rattle.steps_conditions.specs.Names.{UnchangedIs}
use Rattle.steps_passing.specs.Passing.{MiddleIs}
use Rattle.steps_plans.specs.Plans.{Asks, Writes, WriteIs, numbered}
use Rattle.steps_tallies.specs.Tally.{end_at, TallyIs}
use Rattle.steps_tallies.specs.Tallying.{number_at}
use Rattle.steps_plans.specs.declared.plan.Task.{Task}
use Rattle.steps_plans.proofs.AskLaws.{asks_still}
use Rattle.steps_tallies.proofs.CandidateForms.{tag_at, only_par}
use Rattle.steps_tallies.proofs.FrontLaws.{behind}
use Rattle.steps_plans.proofs.PlanLaws.{plan_left, plan_right}
use Rattle.steps_plans.proofs.ResultLaws.{writes_of, written_then, written_stop}
use Rattle.steps_conditions.proofs.SlotLaws.{unchanged-bytes}
use Rattle.steps_passing.proofs.TwoSides.{at_left}

-- A side that makes no step.
rested : (names : List ℕ) (task : Task) (q : Question) (free D : ℕ) (σ : ℕ → ℕ) (P : Term) (bs : List ℕ) (top : ℕ) → task.still ≡ true → free ≤ name_count
    → UnchangedIs names D task.levels true → InScope free q.arities D P → Asks names task (body_of q.bodies) free D σ P bs top → bs ≡ encode D P
rested names task q free D σ P bs top still few U scope K =
    (asks_still names task (body_of q.bodies) free D σ P bs top still K).0
    ∙ unchanged-bytes free D task.levels names q.arities (λ n. K.ρ (σ n)) K.has (omega arith) U P scope

module _ (s t : List ℕ) (at : ℕ) (silently : Bool) (number : ℕ) where
  pub beside-start : FoundBeside s t at silently number at number
  unfolding FoundBeside StandsBeside
  beside-start D names task walks quiet is U question T q free σ P rest bs top ok few scope st K = record {
    before = [];
    term = P;
    own = bs;
    behind = [];
    place = omega arith;
    whole = sym (append-nil (encode D P));
    scope = scope;
    asks = subst (λ (n : ℕ). Asks names (numbered n task) (body_of q.bodies) free D σ P bs top) is K;
    bytes = sym (append-nil bs);
  }

  -- Where the component stands that was found.
  stands_at : (D : ℕ) (names : List ℕ) (task : Task) (q : Question) (free : ℕ) (σ : ℕ → ℕ) (P : Term) (rest bs : List ℕ) (top b n : ℕ)
      → drop at s ≡ encode D P ++ rest → (A : Beside names task q free D σ P bs top at b n) → drop b s ≡ encode D A.term ++ (A.behind ++ rest)
  stands_at D names task q free σ P rest bs top b n st A =
      ap (λ (k : ℕ). drop k s) (sym A.place)
      ∙ behind s at (length A.before) A.before (encode D A.term ++ (A.behind ++ rest))
      (st ∙ ap (λ (l : List ℕ). l ++ rest) A.whole ∙ append_assoc A.before (encode D A.term ++ A.behind) rest
      ∙ ap (λ (l : List ℕ). A.before ++ l) (append_assoc (encode D A.term) A.behind rest)) refl

  module _ (b n : ℕ) (g : get_or s b 0 ≡ 7) (some : b < length s) (F : FoundBeside s t at silently number b n) where
    pub beside-left : n < number_at t (b + 1) silently → FoundBeside s t at silently number (b + 1) n
    unfolding FoundBeside StandsBeside encode InScope
    beside-left h D names task walks quiet is U question T q free σ P rest bs top ok few scope st K =
        let A = F D names task walks quiet is U question T q free σ P rest bs top ok few scope st K in
        let st₁ = stands_at D names task q free σ P rest bs top b n st A in
        only_par (λ C. InScope free q.arities D C → drop b s ≡ encode D C ++ (A.behind ++ rest) → encode D P ≡ A.before ++ (encode D C ++ A.behind)
        → Asks names (numbered n task) (body_of q.bodies) free D σ C A.own top → Beside names task q free D σ P bs top at (b + 1) n)
        (λ L R scope st whole K.
        let st₂ = at_left D s b L R (A.behind ++ rest) 7 st in
        let middle : MiddleIs s t b (end_at t (b + 1)) =
        record { none = λ h. absurd (omega (arith, encode-some D L, simp (length-append, length-drop) at (ap length st₂))); is = λ h. refl } in
        let p = (plan_left question s b D names (numbered n task) walks t T (end_at t (b + 1)) middle some (rw quiet h)).is q free σ L R (A.behind ++ rest) A.own top
        ok few scope.0 scope.1 st₂ K in
        let e : p.second ≡ encode D R = rested names _ q free D σ R p.second top refl few U scope.1 p.right in
        record {
          before = A.before ++ (7 ∷ []);
          term = L;
          own = p.first;
          behind = encode D R ++ A.behind;
          place = omega (arith, A.place, length-append A.before (7 ∷ []));
          whole = whole ∙ simp append_assoc;
          scope = scope.0;
          asks = p.left;
          bytes = A.bytes ∙ ap (λ (l : List ℕ). A.before ++ (l ++ A.behind)) (p.bytes ∙ ap (λ (l : List ℕ). 7 ∷ (p.first ++ l)) e) ∙ simp append_assoc;
        })
        A.term (sym (tag_at s b D A.term (A.behind ++ rest) st₁) ∙ g) A.scope st₁ A.whole A.asks

    pub beside_right : number_at t (b + 1) silently ≤ n → (m : ℕ) → MiddleIs s t b m → (j : ℕ) → j ≡ n - number_at t (b + 1) silently → j < number_at t m silently
        → FoundBeside s t at silently number m j
    unfolding FoundBeside StandsBeside encode InScope
    beside_right l m N j J h D names task walks quiet is U question T q free σ P rest bs top ok few scope st K =
        let A = F D names task walks quiet is U question T q free σ P rest bs top ok few scope st K in
        let st₁ = stands_at D names task q free σ P rest bs top b n st A in
        only_par (λ C. InScope free q.arities D C → drop b s ≡ encode D C ++ (A.behind ++ rest) → encode D P ≡ A.before ++ (encode D C ++ A.behind)
        → Asks names (numbered n task) (body_of q.bodies) free D σ C A.own top → Beside names task q free D σ P bs top at m j)
        (λ L R scope st whole K.
        let st₂ = at_left D s b L R (A.behind ++ rest) 7 st in
        let p = (plan_right question s b D names (numbered n task) walks t T m N some (rw quiet l) j (rw quiet J) (rw quiet h)).is q free σ L R (A.behind ++ rest) A.own top
        ok few scope.0 scope.1 st₂ K in
        let e : p.first ≡ encode D L = rested names _ q free D σ L p.first top refl few U scope.0 p.left in
        record {
          before = A.before ++ (7 ∷ encode D L);
          term = R;
          own = p.second;
          behind = A.behind;
          place = omega (arith, A.place, length-append A.before (7 ∷ encode D L), p.middle);
          whole = whole ∙ simp append_assoc;
          scope = scope.1;
          asks = p.right;
          bytes = A.bytes ∙ ap (λ (l : List ℕ). A.before ++ (l ++ A.behind)) (p.bytes ∙ ap (λ (l : List ℕ). 7 ∷ (l ++ p.second)) e) ∙ simp append_assoc;
        })
        A.term (sym (tag_at s b D A.term (A.behind ++ rest) st₁) ∙ g) A.scope st₁ A.whole A.asks

-- The component's own bytes between copies.
module _ (question s tally : List ℕ) (at D : ℕ) (names : List ℕ) (task : Task) (T : TallyIs question s task.calls tally) (out : List ℕ) (put b n : ℕ)
    (F : StandsBeside s tally at D names task b n) (past : at < b) where
  pub beside_full : put ≤ length out → length out < put + (b - at) → WriteIs question s at D names task out put (length out + 1) out
  unfolding StandsBeside
  beside_full room full = record {
    on = omega arith;
    is = λ low q free σ P rest bs top ok few scope st K shallow.
        let A = F question T q free σ P rest bs top ok few scope st K in
        record {
          ends = inr (omega arith);
          fits = λ t h. absurd (omega (arith, A.place, ap length A.bytes, length-append A.before (A.own ++ A.behind)));
        };
  }

  pub beside-written : put + (b - at) ≤ length out → (out₁ : List ℕ) → length out₁ ≡ length out → out₁ ≡ sets out put (take (b - at) (drop at s))
      → (task' : Task) → task' ≡ numbered n task → (e : ℕ) (out₂ : List ℕ) → length out₂ ≡ length out
      → WriteIs question s b D names task' out₁ (put + (b - at)) e out₂
      → (r : ℕ) (out₃ : List ℕ) → BehindIs s tally at b out₂ e r out₃ → WriteIs question s at D names task out put r out₃
  unfolding StandsBeside
  beside-written room out₁ same₁ copied task' et e out₂ same₂ W₀ r out₃ B = record {
    on = omega (arith, W₀.on, B.on);
    is = λ low q free σ P rest bs top ok few scope st K shallow.
        let A = F question T q free σ P rest bs top ok few scope st K in
        let W = subst (λ (t : Task). WriteIs question s b D names t out₁ (put + (b - at)) e out₂) et W₀ in
        let st₁ = stands_at s tally at task.silently task.number D names task q free σ P rest bs top b n st A in
        let k : b - at ≡ length A.before = omega (arith, A.place) in
        let c : take (b - at) (drop at s) ≡ A.before =
        ap (take (b - at)) (st ∙ ap (λ (l : List ℕ). l ++ rest) A.whole ∙ append_assoc A.before (encode D A.term ++ A.behind) rest)
        ∙ take_at A.before ((encode D A.term ++ A.behind) ++ rest) (b - at) (sym k) in
        let first : Writes low out put A.before (put + (b - at)) out₁ =
        record { ends = inl (omega arith); fits = λ t h. (omega arith, copied ∙ ap (sets out put) c) } in
        let both : Writes low out put (A.before ++ A.own) e out₂ =
        written_then low out put A.before (put + (b - at)) out₁ first A.own e out₂ room same₁
        (W.is low q free σ A.term (A.behind ++ rest) A.own top ok few A.scope st₁ A.asks shallow) in
        let end : end_at tally at ≡ at + length (encode D P) = (T.is q at free D σ K.named_own P rest ok scope st).2 in
        let inner : end_at tally b ≡ b + length (encode D A.term) = (T.is q b free D σ K.named_own A.term (A.behind ++ rest) ok A.scope st₁).2 in
        let size : length (encode D P) ≡ length A.before + (length (encode D A.term) + length A.behind) =
        ap length A.whole ∙ simp length-append in
        let d : take (end_at tally at - end_at tally b) (drop (end_at tally b) s) ≡ A.behind =
        ap (λ (j : ℕ). take (end_at tally at - end_at tally b) (drop j s)) inner
        ∙ ap (take (end_at tally at - end_at tally b)) (behind s b (length (encode D A.term)) (encode D A.term) (A.behind ++ rest) st₁ refl)
        ∙ take_at A.behind rest (end_at tally at - end_at tally b) (omega (arith, end, inner, size, A.place)) in
        subst (λ (l : List ℕ). Writes low out put l r out₃) (sym (A.bytes ∙ sym (append_assoc A.before A.own A.behind)))
        (ended low (A.before ++ A.own) A.behind both (omega (arith, end, inner, size, A.place)) d (leb e (length out₂)) refl);
  }
    where
      ended : (low : Bool) (xs ys : List ℕ) → Writes low out put xs e out₂ → end_at tally b ≤ end_at tally at
          → take (end_at tally at - end_at tally b) (drop (end_at tally b) s) ≡ ys → (t : Bool) → leb e (length out₂) ≡ t → Writes low out put (xs ++ ys) r out₃
      ended low xs ys w le d true h =
          let l = leb-true e (length out₂) h in
          written_then low out put xs e out₂ w ys r out₃ (omega (arith, same₂)) same₂ (writes_of low out₂ e ys r out₃ (rw (sym d) (B.is l le)))
      ended low xs ys w le d false h =
          let l = leb-false e (length out₂) h in
          let (x, y) = B.stopped l in
          rw (x, y) (written_stop low out put xs e out₂ w ys (omega (arith, same₂)))

-- Nothing more, or what stands behind.
module _ (s t : List ℕ) (at b : ℕ) (out : List ℕ) (put : ℕ) where
  pub behind_stopped : length out < put → BehindIs s t at b out put put out
  behind_stopped h = record { on = omega arith; stopped = λ k. (refl, refl); is = λ k l. absurd (omega arith) }

  module _ (room : put ≤ length out) where
    pub behind-none : end_at t at < end_at t b → BehindIs s t at b out put (length out + 1) out
    behind-none h = record { on = omega arith; stopped = λ k. absurd (omega arith); is = λ k l. absurd (omega arith) }

    module _ (inside : end_at t at ≤ length s) (from end : ℕ) (at_from : from ≡ end_at t b) (at_end : end ≡ end_at t at) where
      behind-size : end_at t b ≤ end_at t at → length (take (end_at t at - end_at t b) (drop (end_at t b) s)) ≡ end - from
      behind-size l = length-take-le (end_at t at - end_at t b) (drop (end_at t b) s) (omega (arith, length-drop (end_at t b) s)) ∙ omega arith

      pub behind_full : length out < put + (end - from) → BehindIs s t at b out put (length out + 1) out
      behind_full h = record {
        on = omega arith;
        stopped = λ k. absurd (omega arith);
        is = λ k l. record { fits = λ f. absurd (omega (arith, behind-size l)); over = λ f. omega arith };
      }

      pub behind-copied : put + (end - from) ≤ length out → (out' : List ℕ) → out' ≡ sets out put (take (end - from) (drop from s))
          → BehindIs s t at b out put (put + (end - from)) out'
      behind-copied h out' c = record {
        on = omega arith;
        stopped = λ k. absurd (omega arith);
        is = λ k l.
            record {
              fits = λ f. (omega (arith, behind-size l), c ∙ ap₂ (λ (i j : ℕ). sets out put (take (j - i) (drop i s))) at_from at_end);
              over = λ f. absurd (omega (arith, behind-size l));
            };
      }
