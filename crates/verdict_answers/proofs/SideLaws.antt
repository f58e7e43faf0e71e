-- Two nested loops over the steps of one side and the other side's, for a run of names: which demands are answered. Assumes nothing.
use mathlib.Core.Bool.{Bool, true, false, cond, ◌&&◌}
use mathlib.Core.List.{List, [], ◌∷◌, map}
use mathlib.Core.Logic.{inl}
use mathlib.Core.Path.{◌≡◌, refl, sym, ap, ◌∙◌, subst}
use native.Mathlib.Omega.{arith}
use Rattle.std.specs.Prelude.{Result, Ok, Err, is_ok}
use Prim.Native.Nat.{ℕ, ◌+◌, ◌*◌, ◌<◌, ◌≤◌}
use lib.Dec.{ltb}
use lib.ListN.{get_or}
use Rattle.calculus.specs.Term.{nil}
use Rattle.terms.specs.Limits.{name_count}
use Rattle.terms.proofs.Answers.{both_true}
use Rattle.calculus.specs.Lists.{◌∈◌}
use Rattle.calculus.proofs.Membership.{∈-map}
use Rattle.steps.specs.Limits.{step_bytes}
use Rattle.steps.specs.Listed.{ListedStep}
use Rattle.field.specs.Situation.{Situation, free_from}
use Rattle.field.specs.Successors.{select, allowed, answers}
use Rattle.field.proofs.Members.{map-∈, get_d_∈, ∈-number}
use Rattle.field.proofs.Selections.{∈-select, select-∈}
use Rattle.field_successors.specs.Leading.{leading}
use Rattle.verdict.specs.Verdict.{all_found, answered, all_answered}
use Rattle.verdict_notes.specs.Notes.{Has, Few, Numbers}
use Rattle.verdict_answers.specs.Striking.{left_of, lot_of, some_of, asked, demanded, run_demands, AskedIs, Side, NameRun, StepAndReply, LotLeftIs, NumberIn, relied_in, SomeAnswer, ReliesOn, AnsweredIs, RunAnsweredIs}
use Rattle.verdict_notes.specs.declared.relied.Relied.{Relied}
use Rattle.verdict_answers.proofs.Demands.{one_answers, none_answers}
use Rattle.verdict_answers.proofs.Sweeping.{err_not_ok, within_itself, Swept, swept_none, swept_skips, swept_more, swept_fails, swept_all}

abbrev no_step : ListedStep
no_step = record { classes = []; kind = 0; channel = 0; object = 0; result = nil }

module _ (from to : ℕ) (arities : List ℕ) (capacity : ℕ) (work : List ℕ) (count : ℕ) (free apart : List ℕ) (second : Bool) (area : List ℕ) (n : ℕ) (others : List ℕ) (m : ℕ) where
  -- whether all names differ
  abbrev differ : Bool
  differ = ltb from name_count

  abbrev These : Type 0
  These = Side differ arities capacity work count free apart second area n others m

  abbrev known : These → List Situation
  known p = p.known

  abbrev names : These → List ℕ
  names p = free_from p.names 0 name_count

  abbrev step : These → ℕ → ListedStep
  step p k = get_or p.steps k no_step

  abbrev reply : These → ℕ → ListedStep
  reply p l = get_or p.replies l no_step

  -- whether step k is asked, and what is demanded then
  abbrev ask : These → ℕ → Bool
  ask p k = asked differ from to (names p) p.pairs (step p k)

  abbrev wanted : These → ℕ → List (List Situation)
  wanted p k = demanded from to second (names p) p.pairs p.replies (step p k)

  abbrev of_step : ℕ → These → List (List (List Situation))
  of_step k p = cond (ask p k) (wanted p k ∷ []) []

  abbrev all_demands : These → List (List (List Situation))
  all_demands p = run_demands differ from to second (names p) p.pairs p.steps p.replies

  -- what reply l to step k leads to
  abbrev reached : These → ℕ → ℕ → List Situation
  reached p k l = map (leading second (names p) p.pairs (step p k) (reply p l)) (lot_of from to (names p) (step p k))

  -- reply l to step k leads to one that is not left, if it answers it
  abbrev pub ReplyFails : ℕ → ℕ → Type 0
  ReplyFails k l = (p : These) → ask p k ≡ true → answers name_count (step p k) (reply p l) ≡ true → all_found (left_of work p.known) (reached p k l) ≡ false

  abbrev pub SideSwept : Relied → Relied → ℕ → Type 0
  SideSwept before r i = Swept work known of_step before r i

  module _ (p : These) (k : ℕ) (h : k < n) (may : ask p k ≡ true) where
    step_there : step p k ∈ p.steps
    step_there = get_d_∈ p.steps k no_step (omega (arith, p.mine.number))

    reply_in : (l : ℕ) → l < m → answers name_count (step p k) (reply p l) ≡ true → reached p k l ∈ wanted p k
    unfolding demanded
    reply_in l g e =
        ∈-map (λ t. map (leading second (names p) p.pairs (step p k) t) (lot_of from to (names p) (step p k))) (reply p l)
        (select (answers name_count (step p k)) p.replies)
        (∈-select (answers name_count (step p k)) (reply p l) p.replies (get_d_∈ p.replies l no_step (omega (arith, p.theirs.number))) e)

    both : NameRun differ from to → (l : ℕ) → l < m → StepAndReply arities capacity work count free apart second area (step_bytes * k) others (step_bytes * l) from to
    unfolding asked
    both run l g = record {
      differ = differ;
      n = n;
      m = m;
      side = p;
      run = run;
      step = step p k;
      mine = step_there;
      may = (both_true (allowed differ name_count p.pairs (step p k)) (some_of (lot_of from to (names p) (step p k))) may).0;
      entry = p.mine.entry k no_step h;
      scope = p.mine.scope k no_step h;
      object = p.mine.objects k no_step h;
      reply = reply p l;
      theirs = get_d_∈ p.replies l no_step (omega (arith, p.theirs.number));
      entry₂ = p.theirs.entry l no_step g;
      scope₂ = p.theirs.scope l no_step g;
      rewritten = p.theirs.rewritten l no_step g;
    }

    -- none of the replies
    none_left : (j : ℕ) → m ≤ j → ((l : ℕ) → l < j → ReplyFails k l) → answered (left_of work p.known) (wanted p k) ≡ false
    unfolding demanded
    none_left j g so = none_answers (left_of work p.known) (wanted p k) (λ w i.
        let (t, x, e) = map-∈ (λ t. map (leading second (names p) p.pairs (step p k) t) (lot_of from to (names p) (step p k))) w
        (select (answers name_count (step p k)) p.replies) i in
        let (v, y) = select-∈ (answers name_count (step p k)) t p.replies x in
        let l = ∈-number t p.replies v in
        let z : answers name_count (step p k) (reply p l.0) ≡ true = rw (sym (l.2 no_step)) y in
        let q : reached p k l.0 ≡ w =
        ap (λ t. map (leading second (names p) p.pairs (step p k) t) (lot_of from to (names p) (step p k))) (sym (l.2 no_step)) ∙ sym e in
        subst (λ w. all_found (left_of work p.known) w ≡ false) q (so l.0 (omega (arith, l.1, p.theirs.number)) p may z))

  is_asked : (k : ℕ) (r : Bool) → k < n → AskedIs free apart area (step_bytes * k) from to r → (p : These) → r ≡ ask p k
  unfolding AskedIs
  is_asked k r h a p = a p.names p.pairs (step p k) p.names_free p.distinction p.apart_pairs (p.mine.entry k no_step h)

  pub side_none : (before : Relied) → Numbers before → SideSwept before before 0
  side_none before = swept_none work known of_step before

  pub side_skips : (before r : Relied) (k : ℕ) (b : Bool) → k < n → AskedIs free apart area (step_bytes * k) from to b → b ≡ false → SideSwept before r k
      → SideSwept before r (k + 1)
  side_skips before r k b h a e = swept_skips work known of_step before r k (λ p. rw (sym (is_asked k b h a p) ∙ e) refl)

  module _ (k : ℕ) (b : Bool) (h : k < n) (a : AskedIs free apart area (step_bytes * k) from to b) (on : b ≡ true) where
    may : (p : These) → ask p k ≡ true
    may p = sym (is_asked k b h a p) ∙ on

    of_step_lem : (p : These) → of_step k p ≡ wanted p k ∷ []
    of_step_lem p = ap (λ b. cond b (wanted p k ∷ []) []) (may p)

    module _ (run : NameRun differ from to) (l : ℕ) (g : l < m) (r : Relied) (x : Result Relied Relied)
        (lot : LotLeftIs arities capacity work count free apart second area (step_bytes * k) others (step_bytes * l) from to r x) where
      answers_too : (p : These) → is_ok x ≡ true → (answers name_count (step p k) (reply p l) ≡ true) × (all_found (left_of work p.known) (reached p k l) ≡ true)
      unfolding both
      answers_too p e =
          both_true (answers name_count (step p k) (reply p l)) (all_found (left_of work p.known) (reached p k l)) (sym (lot.is (both p k h (may p) run l g)) ∙ e)

      step-answered : (s : Relied) → x ≡ Ok s → AnsweredIs These work known (of_step k) r x
      unfolding ReliesOn all_answered both
      step-answered s e = record {
        is = λ p. ap is_ok e ∙ sym (ap (all_answered (left_of work p.known)) (of_step_lem p)
            ∙ rw (one_answers (left_of work p.known) (wanted p k) (reached p k l) (reply_in p k h (may p) l g (answers_too p (ap is_ok e)).0) (answers_too p (ap is_ok e)).1) refl);
        numbers = lot.numbers;
        more = lot.more;
        relies = λ u q f p w i. relies u p q f w (subst (λ ds. w ∈ ds) (of_step_lem p) i);
      }
        where
          relies : (u : Relied) (p : These) → x ≡ Ok u → Few u → (w : List (List Situation)) → w ∈ (wanted p k ∷ []) → SomeAnswer (NumberIn (Has u) p.known) w
          relies u p q f w (mathlib.Core.Logic.inr x'') = elim x'' [ ]
          relies u p q f w (inl d) = subst (SomeAnswer (NumberIn (Has u) p.known)) (sym d) (
            reached p k l,
            reply_in p k h (may p) l g (answers_too p (ap is_ok e)).0,
            λ t i.
                let (y, j, c) = map-∈ (leading second (names p) p.pairs (step p k) (reply p l)) t (lot_of from to (names p) (step p k)) i in
                subst (NumberIn (Has u) p.known) (sym c) (lot.relies u q f (both p k h (may p) run l g) y j),
          )

      pub reply-answers : (before r₀ s : Relied) → r ≡ r₀ → x ≡ Ok s → SideSwept before r₀ k → SideSwept before s (k + 1)
      reply-answers before r₀ s same e swept = swept_more work known of_step before r k x s (step-answered s e) e (subst (λ r. SideSwept before r k) (sym same) swept)

      pub reply-fails : (s : Relied) → x ≡ Err s → ReplyFails k l
      unfolding both
      reply-fails s e p q t =
          ap (λ t. t && all_found (left_of work p.known) (reached p k l)) (sym t) ∙ sym (lot.is (both p k h (may p) run l g)) ∙ ap is_ok e

    pub step-fails : (before r r₀ : Relied) (j : ℕ) → r ≡ r₀ → m ≤ j → ((l : ℕ) → l < j → ReplyFails k l) → SideSwept before r₀ k
        → RunAnsweredIs from to arities capacity work count free apart second area n others m before (Err r)
    unfolding all_answered run_demands relied_in
    step-fails before r r₀ j same g so s₀ =
        swept_fails work known of_step all_demands before r k one (Err r) r (record {
          is = λ p. sym (ap (all_answered (left_of work p.known)) (of_step_lem p) ∙ rw (none_left p k h (may p) j g so) refl);
          numbers = s.numbers;
          more = within_itself r;
          relies = λ u q. err_not_ok r u q;
        }) refl s
      where
        s : SideSwept before r k
        s = subst (λ r. SideSwept before r k) (sym same) s₀

        one : (p : These) (w : List (List Situation)) → w ∈ of_step k p → w ∈ all_demands p
        one p w i = only (subst (λ ds. w ∈ ds) (of_step_lem p) i)
          where
            only : w ∈ (wanted p k ∷ []) → w ∈ all_demands p
            only (mathlib.Core.Logic.inr x') = elim x' [ ]
            only (inl d) = subst (λ w. w ∈ all_demands p) (sym d)
                (∈-map (demanded from to second (names p) p.pairs p.replies) (step p k) (select (asked differ from to (names p) p.pairs) p.steps)
                (∈-select (asked differ from to (names p) p.pairs) (step p k) p.steps (step_there p k h (may p)) (may p)))

  pub side_all : (before r : Relied) (i : ℕ) → n ≤ i → SideSwept before r i
      → RunAnsweredIs from to arities capacity work count free apart second area n others m before (Ok r)
  unfolding run_demands
  side_all before r i h = swept_all work known of_step all_demands before r i from_step
    where
      from_step : (p : These) (w : List (List Situation)) → w ∈ all_demands p → (k : ℕ) × (k < i) × (w ∈ of_step k p)
      from_step p w j =
          let (s, x, e) = map-∈ (demanded from to second (names p) p.pairs p.replies) w (select (asked differ from to (names p) p.pairs) p.steps) j in
          let (v, y) = select-∈ (asked differ from to (names p) p.pairs) s p.steps x in
          let k = ∈-number s p.steps v in
          let z : ask p k.0 ≡ true = ap (asked differ from to (names p) p.pairs) (sym (k.2 no_step)) ∙ y in (
            k.0,
            omega (arith, k.1, p.mine.number),
            subst (λ ds. w ∈ ds) (sym (ap (λ b. cond b (wanted p k.0 ∷ []) []) z)) (inl (e ∙ ap (demanded from to second (names p) p.pairs p.replies) (k.2 no_step))),
          )
