-- Demands that are answered one after the other, and what that relies on. Assumes nothing.
use mathlib.Core.Bool.{Bool, true, false}
use mathlib.Core.List.{List, []}
use mathlib.Core.Path.{◌≡◌, refl, sym, ap, ◌∙◌, subst}
use native.Mathlib.Omega.{arith}
use Rattle.std.specs.Prelude.{Result, Ok, Err, is_ok}
use Prim.Native.Nat.{ℕ, ◌+◌, ◌<◌}
use borrow.Author.Count.{below_more}
use Rattle.calculus.specs.Lists.{◌∈◌}
use Rattle.field.specs.Situation.{Situation}
use Rattle.verdict.specs.Verdict.{all_answered}
use Rattle.verdict.proofs.Rounds.{true_not_false}
use Rattle.verdict_notes.specs.Notes.{Has, Few, Numbers, Within}
use Rattle.verdict_answers.specs.Striking.{left_of, NumberIn, relied_in, SomeAnswer, ReliesOn, AnsweredIs}
use Rattle.verdict_notes.specs.declared.relied.Relied.{Relied}
use Rattle.verdict_answers.proofs.Demands.{each-answered, member-answered, fewer_answered, same-answered}

-- what is relied on, where a result is known
pub in_ok : (P : Relied → Type 0) {r : Result Relied Relied} {s : Relied} → r ≡ Ok s → P (relied_in r) → P s
unfolding relied_in
in_ok P e = subst (λ r. P (relied_in r)) e

pub in_err : (P : Relied → Type 0) {r : Result Relied Relied} {s : Relied} → r ≡ Err s → P (relied_in r) → P (relied_in (Err s))
in_err P e = subst (λ r. P (relied_in r)) e

-- an `Err` is no `Ok`, and an `Ok` is of one
pub err_not_ok : {A : Type 0} (r s : Relied) → ◌≡◌ {A = Result Relied Relied} (Err r) (Ok s) → A
err_not_ok r s q = let z : ◌≡◌ {A = ℕ} 0 1 = cc in absurd (omega arith)

pub same_ok : (P : Relied → Type 0) (r s : Relied) → ◌≡◌ {A = Result Relied Relied} (Ok r) (Ok s) → P r → P s
same_ok P r s q = let z : r ≡ s = cc in subst P z

pub within_itself : (r : Relied) → Within r r
within_itself r = record { few = λ f. f; has = λ f j x. x }

pub within_then : {r s t : Relied} → Within r s → Within s t → Within r t
within_then a b = record { few = λ f. a.few (b.few f); has = λ f j x. b.has f j (a.has (b.few f) j x) }

relies_more : {r s : Relied} (known : List Situation) (ds : List (List (List Situation))) → Within r s → Few s → ReliesOn (Has r) known ds → ReliesOn (Has s) known ds
unfolding ReliesOn
relies_more known ds w f a m i = let (l, j, x) = a m i in (l, j, λ t k. let (n, b, h, y) = x t k in (n, b, w.has f n h, y))

module _ {C : Type 0} (work : List ℕ) (known : C → List Situation) where
  -- the same demands in another order
  pub same-demands : (ds es : C → List (List (List Situation))) → ((c : C) (m : List (List Situation)) → m ∈ ds c → m ∈ es c)
      → ((c : C) (m : List (List Situation)) → m ∈ es c → m ∈ ds c) → (before : Relied) (r : Result Relied Relied) → AnsweredIs C work known ds before r → AnsweredIs C work known es before r
  unfolding ReliesOn
  same-demands ds es to from before r a = record {
    is = λ c. a.is c ∙ same-answered (left_of work (known c)) (ds c) (es c) (to c) (from c);
    numbers = a.numbers;
    more = a.more;
    relies = λ s e f c m i. a.relies s e f c m (from c m i);
  }

  -- two lots of demands
  pub demands_fail : (ds es : C → List (List (List Situation))) → ((c : C) (m : List (List Situation)) → m ∈ ds c → m ∈ es c)
      → (before : Relied) (r : Result Relied Relied) (x : Relied) → AnsweredIs C work known ds before r → r ≡ Err x → AnsweredIs C work known es before (Err x)
  demands_fail ds es to before r x a e = record {
    is = λ c. sym (fails c (all_answered (left_of work (known c)) (es c)) refl);
    numbers = in_err Numbers e a.numbers;
    more = in_err (Within before) e a.more;
    relies = λ s q. err_not_ok x s q;
  }
    where
      fails : (c : C) (b : Bool) → all_answered (left_of work (known c)) (es c) ≡ b → all_answered (left_of work (known c)) (es c) ≡ false
      fails c false q = q
      fails c true q = true_not_false (fewer_answered (left_of work (known c)) (es c) (ds c) (to c) q) (sym (a.is c) ∙ ap is_ok e)

  -- those of the numbers below i are answered
  module _ (D : ℕ → C → List (List (List Situation))) where
    pub record Swept (before r : Relied) (i : ℕ) : Type 0 where
      pub every_answer : (k : ℕ) → k < i → (c : C) → all_answered (left_of work (known c)) (D k c) ≡ true
      pub numbers : Numbers r
      pub more : Within before r
      pub relies : (k : ℕ) → k < i → Few r → (c : C) → ReliesOn (Has r) (known c) (D k c)

    pub swept_none : (before : Relied) → Numbers before → Swept before before 0
    swept_none before n = record {
      every_answer = λ k h. absurd (omega arith);
      numbers = n;
      more = within_itself before;
      relies = λ k h. absurd (omega arith);
    }

    pub swept_skips : (before r : Relied) (i : ℕ) → ((c : C) → D i c ≡ []) → Swept before r i → Swept before r (i + 1)
    unfolding ReliesOn all_answered
    swept_skips before r i e s = record {
      every_answer = below_more _ i s.every_answer (λ c. ap (all_answered (left_of work (known c))) (e c));
      numbers = s.numbers;
      more = s.more;
      relies = below_more _ i s.relies (λ f c m j. absurd (subst (λ ds. m ∈ ds) (e c) j));
    }

    pub swept_more : (before r : Relied) (i : ℕ) (a : Result Relied Relied) (t : Relied) → AnsweredIs C work known (D i) r a → a ≡ Ok t → Swept before r i → Swept before t (i + 1)
    swept_more before r i a t h e s =
        let more : Within r t = in_ok (Within r) e h.more in
        record {
          every_answer = below_more _ i s.every_answer (λ c. sym (h.is c) ∙ ap is_ok e);
          numbers = in_ok Numbers e h.numbers;
          more = within_then s.more more;
          relies = below_more _ i (λ k b f c. relies_more (known c) (D k c) more f (s.relies k b (more.few f) c)) (h.relies t e);
        }

    module _ (ds : C → List (List (List Situation))) where
      pub swept_fails : (before r : Relied) (i : ℕ) → ((c : C) (m : List (List Situation)) → m ∈ D i c → m ∈ ds c) → (a : Result Relied Relied) (x : Relied) → AnsweredIs C work known (D i) r a → a ≡ Err x
          → Swept before r i → AnsweredIs C work known ds before (Err x)
      unfolding relied_in
      swept_fails before r i to a x h e s =
          let d = demands_fail (D i) ds to r a x h e in
          record { is = d.is; numbers = d.numbers; more = within_then s.more d.more; relies = d.relies }

      pub swept_all : (before r : Relied) (i : ℕ) → ((c : C) (m : List (List Situation)) → m ∈ ds c → (k : ℕ) × (k < i) × (m ∈ D k c)) → Swept before r i
          → AnsweredIs C work known ds before (Ok r)
      unfolding relied_in ReliesOn
      swept_all before r i from s = record {
        is = λ c. sym (each-answered (left_of work (known c)) (ds c) (λ m j.
            let (k, b, x) = from c m j in
            member-answered (left_of work (known c)) (D k c) (s.every_answer k b c) m x));
        numbers = s.numbers;
        more = s.more;
        relies = λ t q. same_ok (λ t. Few t → (c : C) (m : List (List Situation)) → m ∈ ds c → SomeAnswer (NumberIn (Has t) (known c)) m) r t q
            (λ f c m j. let (k, b, x) = from c m j in s.relies k b f c m x);
      }
