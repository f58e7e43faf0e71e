-- Names that count, steps that are asked, and whether every situation is left that an answer leads to for the names of a run. Assumes nothing.
use mathlib.Core.Bool.{Bool, true, false, ◌&&◌}
use mathlib.Core.List.{List, [], ◌∷◌, map}
use mathlib.Core.Logic.{inl, inr}
use mathlib.Core.Path.{◌≡◌, refl, sym, ap, ◌∙◌, subst}
use native.Mathlib.Decide.{ℕ_discrete}
use native.Mathlib.Omega.{arith}
use Rattle.std.specs.Prelude.{Option, Some, None, Ok, Err, is_some}
use Prim.Native.Nat.{ℕ, zero, suc, ◌+◌, ◌-◌, ◌*◌, ◌<◌, ◌≤◌}
use lib.Dec.{ltb}
use lib.ListN.{get_or, take}
use borrow.Author.Count.{below_more}
use borrow.Author.Tests.{eq-eqb, ne_eqb, ltb-true}
use Rattle.calculus.specs.Cond.{Pairs}
use Rattle.calculus.specs.Distinction.{among}
use Rattle.calculus.specs.Term.{Term}
use Rattle.calculus.proofs.Selection.{among_in}
use Rattle.terms.specs.Limits.{name_count}
use Rattle.calculus.specs.Lists.{◌∈◌}
use Rattle.calculus.proofs.Membership.{∈-map}
use Rattle.steps.specs.Listed.{ListedStep, names_from}
use Rattle.field.specs.Exploration.{found}
use Rattle.field.specs.Situation.{Situation, free_from}
use Rattle.field.specs.Successors.{answers, received, led, answers_to}
use Rattle.field.proofs.Members.{map-∈, ∈-number}
use Rattle.field.proofs.Moves.{in_moves, in_answers}
use Rattle.field.proofs.Selections.{∈-select, select-∈}
use Rattle.field_pairs.specs.Entry.{AnswersIs}
use Rattle.field_pairs.specs.NameFlags.{ReceivedIs}
use Rattle.field_pairs.specs.PairFlags.{AllowedIs}
use Rattle.field_pairs.specs.Slot.{slot_bytes, key_bytes}
use Rattle.field_slots.specs.Chains.{Chained}
use Rattle.field_slots.specs.Key.{SituationAt, key_at}
use Rattle.field_successors.specs.Leading.{placed, leading, SuccessorIs}
use Rattle.field_growth.proofs.GrowingLaws.{whole_key}
use Rattle.field_growth.proofs.KeysDiffer.{slot_key}
use Rattle.verdict.specs.Verdict.{all_found}
use Rattle.verdict.proofs.Rounds.{true_not_false}
use Rattle.verdict_notes.specs.Notes.{Has, Few, Numbers, Within, WithIs}
use Rattle.verdict_answers.specs.Striking.{left_of, left_at, LeftIs, counted, lot_of, some_of, asked, CountsIs, AskedIs, StepAndReply, NumberIn, relied_in, LotLeftIs}
use Rattle.verdict_notes.specs.declared.relied.Relied.{Relied}
use Rattle.verdict_answers.proofs.Demands.{all_left, one_gone}
use Rattle.verdict_answers.proofs.LeftLaws.{left-found, left-test, left-slot}
use Rattle.verdict_answers.proofs.Sweeping.{err_not_ok, same_ok, within_itself, within_then}

-- The names of a run.
pub names_in : (n k y : ℕ) → n ≤ y → y < n + k → y ∈ names_from n k
unfolding names_from
names_in n zero y h l = absurd (omega arith)
names_in n (suc k) y h l = go (ℕ_discrete y n) (λ h'. names_in (suc n) k y h' (omega arith))
  where
    go : Dec (y ≡ n) → (suc n ≤ y → y ∈ names_from (suc n) k) → y ∈ (n ∷ names_from (suc n) k)
    go (yes e) r = inl e
    go (no d) r = inr (r (omega arith))

pub in_names : (n k y : ℕ) → y ∈ names_from n k → (n ≤ y) × (y < n + k)
unfolding names_from
in_names n zero y x' = elim x' [ ]
in_names n (suc k) y (inl e) = (omega arith, omega arith)
in_names n (suc k) y (inr i) = let (h, l) = in_names (suc n) k y i in (omega arith, omega arith)

module _ (from to : ℕ) (F : List ℕ) (s : ListedStep) where
  pub of_lot : (y : ℕ) → y ∈ lot_of from to F s → (from ≤ y) × (y < to) × (counted F s y ≡ true)
  unfolding lot_of
  of_lot y i =
      let (j, e) = select-∈ (counted F s) y (names_from from (to - from)) i in
      let (h, l) = in_names from (to - from) y j in
      (h, omega arith, e)

  pub in_lot : (y : ℕ) → from ≤ y → y < to → counted F s y ≡ true → y ∈ lot_of from to F s
  unfolding lot_of
  in_lot y h l e = ∈-select (counted F s) y (names_from from (to - from)) (names_in from (to - from) y h (omega arith)) e

-- a name that counts, and is a name, is received
pub counted-received : (F : List ℕ) (s : ListedStep) (y : ℕ) → y < name_count → counted F s y ≡ among (received true name_count F s) y
unfolding counted
counted-received F s y h = rw (ne_eqb y name_count (λ e. omega arith)) refl

-- counts
module _ (free area : List ℕ) (at name : ℕ) where
  pub counts_none : name ≡ name_count → CountsIs free area at name true
  unfolding CountsIs counted
  counts_none e G s h f = rw (eq-eqb name name_count e) refl

  pub counts_received : (r : Bool) → name < name_count → ReceivedIs free area at name r → CountsIs free area at name r
  unfolding CountsIs ReceivedIs
  counts_received r l a G s h f = a G s h f ∙ sym (counted-received (free_from G 0 name_count) s name l)

-- some member of a list
some-member : (ys : List ℕ) (y : ℕ) → y ∈ ys → some_of ys ≡ true
unfolding some_of
some-member [] y i = elim i [ ]
some-member (z ∷ ys) y i = refl

pub some_there : (ys : List ℕ) → some_of ys ≡ true → (y : ℕ) × (y ∈ ys)
unfolding some_of
some_there [] e = true_not_false e refl
some_there (y ∷ ys) e = (y, inl refl)

no_member : (ys : List ℕ) → ((y : ℕ) → y ∈ ys → ⊥) → some_of ys ≡ false
unfolding some_of
no_member [] h = refl
no_member (y ∷ ys) h = absurd (h y (inl refl))

-- is_asked
module _ (free apart area : List ℕ) (at from to : ℕ) (b : Bool) (a : AllowedIs (ltb from name_count) apart area at b) where
  pub asked_not : b ≡ false → AskedIs free apart area at from to false
  unfolding AllowedIs AskedIs asked
  asked_not e G D s h irr p f = ap (λ c. c && some_of (lot_of from to (free_from G 0 name_count) s)) (sym e ∙ a D s p irr f)

  module _ (on : b ≡ true) where
    pub asked_for : (name : ℕ) (r : Bool) → from ≤ name → name < to → CountsIs free area at name r → r ≡ true → AskedIs free apart area at from to true
    unfolding AllowedIs AskedIs asked CountsIs
    asked_for name r h l c e G D s g irr p f =
        let F : List ℕ = free_from G 0 name_count in
        sym (rw (sym (a D s p irr f) ∙ on) (some-member (lot_of from to F s) name (in_lot from to F s name h l (sym (c G s g f) ∙ e))))

    pub asked_for_none : (name : ℕ) → to ≤ name → ((y : ℕ) → y < name → from ≤ y → CountsIs free area at y false) → AskedIs free apart area at from to false
    unfolding AllowedIs AskedIs asked CountsIs
    asked_for_none name l none G D s g irr p f =
        let F : List ℕ = free_from G 0 name_count in
        sym (rw (sym (a D s p irr f) ∙ on) (no_member (lot_of from to F s) (λ y i.
        let (h, k, e) = of_lot from to F s y i in
        true_not_false e (sym (none y (omega arith) h G s g f)))))

-- What a name leads to, among what exploration follows.
led-by : (b : Bool) (F : List ℕ) (s : ListedStep) (y : ℕ) → ltb y name_count ≡ b → counted F s y ≡ true
    → (z : ℕ) × (z ∈ received b name_count F s) × ((make : Term → Term → Pairs → Situation) (D : Pairs) (t : ListedStep) → led b make F D s t z ≡ led (ltb y name_count) make F D s t y)
unfolding received led
led-by false F s y e c = (s.object, inl refl, λ make D t. sym (ap (λ b. led b make F D s t y) e))
led-by true F s y e c = (
  y,
  among_in (received true name_count F s) y (sym (counted-received F s y (ltb-true y name_count e)) ∙ c),
  λ make D t. sym (ap (λ b. led b make F D s t y) e),
)

-- lot_left
module _ (arities : List ℕ) (capacity : ℕ) (work : List ℕ) (count : ℕ) (free apart : List ℕ) (second : Bool) (area : List ℕ) (at : ℕ) (others : List ℕ) (place from to : ℕ) where
  abbrev Both : Type 0
  Both = StepAndReply arities capacity work count free apart second area at others place from to

  abbrev names : Both → List ℕ
  names c = free_from c.side.names 0 name_count

  abbrev lot : Both → List ℕ
  lot c = lot_of from to (names c) c.step

  abbrev reached : Both → ℕ → Situation
  reached c y = leading second (names c) c.side.pairs c.step c.reply y

  abbrev left : Both → List Situation
  left c = left_of work c.side.known

  abbrev Answers : Both → Type 0
  Answers c = answers name_count c.step c.reply ≡ true

  reached-known : (c : Both) → Answers c → (y : ℕ) → y ∈ lot c → reached c y ∈ c.side.known
  unfolding leading
  reached-known c a y i =
      let F : List ℕ = names c in
      let D : Pairs = c.side.pairs in
      let (h, l, e) = of_lot from to F c.step y i in
      let (z, o, same) = led-by c.differ F c.step y (c.run y h l) e in
      c.side.closed (answers_to c.differ name_count (placed second) F D c.side.replies c.step z)
      (in_moves c.differ name_count (placed second) F D c.side.steps c.side.replies c.step c.mine c.may z o) (reached c y)
      (subst (λ u. u ∈ answers_to c.differ name_count (placed second) F D c.side.replies c.step z) (same (placed second) D c.reply)
      (in_answers c.differ name_count (placed second) F D c.side.replies c.step z c.reply c.theirs a))

  -- what the code finds for one name
  module _ (name : ℕ) (key : List ℕ) (x : Option ℕ) (k : SuccessorIs arities free apart second area at others place name key) (l : LeftIs capacity work count key x)
      (c : Both) (a : Answers c) (i : name ∈ lot c) where
    abbrev here : Situation
    here = reached c name

    record NameIs : Type 0 where
      is : is_some x ≡ found (left c) here
      there : (n : ℕ) → x ≡ Some n → (d : Situation) → get_or c.side.known n d ≡ here

    name_is : NameIs
    unfolding SuccessorIs
    name_is =
        let known : List Situation = c.side.known in
        let st = c.side.standing in
        let m = ∈-number here known (reached-known c a name i) in
        let held : SituationAt work (slot_bytes * m.0) here = subst (SituationAt work (slot_bytes * m.0)) (sym (m.2 here)) (st.held m.0 here m.1) in
        let there : key_at work m.0 ≡ take key_bytes key =
        slot_key work m.0 here held
        ∙ sym (whole_key key here (record { first = held.first; second = held.second })
        (k c.side.names c.side.pairs c.step c.reply c.side.names_free c.side.apart_pairs c.entry c.entry₂ c.scope c.scope₂ c.rewritten)) in
        let z : x ≡ left_at work m.0 =
        l.is (subst (Chained capacity work) c.side.number st.chained) m.0 (omega (arith, m.1, c.side.number)) there
        (λ j b q. st.once j m.0 (omega (arith, c.side.number)) m.1 (q ∙ sym there)) in
        record {
          is = ap is_some z ∙ left-test work m.0 ∙ sym (left-found work known st m.0 here here m.1 (sym (m.2 here)));
          there = λ n y d. ap (λ j. get_or known j d) (sym (left-slot work m.0 n (sym z ∙ y))) ∙ sym (m.2 d);
        }

  -- those of the names below `name` are left, and r has them
  pub record LotSwept (before r : Relied) (name : ℕ) : Type 0 where
    pub numbers : Numbers r
    pub more : Within before r
    pub found_all : (y : ℕ) → y < name → (c : Both) → Answers c → y ∈ lot c → found (left c) (reached c y) ≡ true
    pub relies : (y : ℕ) → y < name → Few r → (c : Both) → Answers c → y ∈ lot c → NumberIn (Has r) c.side.known (reached c y)

  pub lot-start : (before : Relied) → Numbers before → LotSwept before before from
  lot-start before n = record {
    numbers = n;
    more = within_itself before;
    found_all = λ y h c a i. absurd (omega (arith, (of_lot from to (names c) c.step y i).0));
    relies = λ y h f c a i. absurd (omega (arith, (of_lot from to (names c) c.step y i).0));
  }

  module _ (before : Relied) (name : ℕ) (b : Bool) (n : CountsIs free area at name b) where
    pub lot_skips : (r : Relied) → b ≡ false → LotSwept before r name → LotSwept before r (name + 1)
    unfolding CountsIs
    lot_skips r e s = record {
      numbers = s.numbers;
      more = s.more;
      found_all = below_more _ name s.found_all (λ c a i. absurd (out c i));
      relies = below_more _ name s.relies (λ f c a i. absurd (out c i));
    }
      where
        out : (c : Both) → name ∈ lot c → ⊥
        out c i = true_not_false (n c.side.names c.step c.side.names_free c.entry ∙ (of_lot from to (names c) c.step name i).2) e

    module _ (key : List ℕ) (x : Option ℕ) (k : SuccessorIs arities free apart second area at others place name key) (l : LeftIs capacity work count key x) where
      pub lot-more : (r : Relied) (j : ℕ) (r' : Relied) → x ≡ Some j → WithIs r j r' → LotSwept before r name → LotSwept before r' (name + 1)
      lot-more r j r' e w s = record {
        numbers = w.numbers;
        more = within_then s.more w.more;
        found_all = below_more _ name s.found_all (λ c a i. sym (name_is name key x k l c a i).is ∙ ap is_some e);
        relies = below_more _ name
            (λ y h f c a i. let (n, b, g, z) = s.relies y h (w.more.few f) c a i in (n, b, w.more.has f n g, z))
            (λ f c a i. (j, omega (arith, l.within j e, c.side.number), w.has f, (name_is name key x k l c a i).there j e));
      }

      pub lot-fails : from ≤ name → name < to → b ≡ true → (t : Bool) → AnswersIs area at others place t → t ≡ true → x ≡ None → Numbers before
          → LotLeftIs arities capacity work count free apart second area at others place from to before (Err before)
      unfolding AnswersIs CountsIs relied_in
      lot-fails g h on t q p e m = record {
        is = λ c.
            let a : Answers c = sym (q c.step c.reply c.entry c.entry₂) ∙ p in
            let i : name ∈ lot c = in_lot from to (names c) c.step name g h (sym (n c.side.names c.step c.side.names_free c.entry) ∙ on) in
            sym (rw a (one_gone (left c) (map (reached c) (lot c)) (reached c name) (∈-map (reached c) name (lot c) i)
            (sym (name_is name key x k l c a i).is ∙ ap is_some e)));
        numbers = m;
        more = within_itself before;
        relies = λ s z. err_not_ok before s z;
      }

  module _ (t : Bool) (q : AnswersIs area at others place t) where
    pub lot-none : (before : Relied) → t ≡ false → Numbers before
        → LotLeftIs arities capacity work count free apart second area at others place from to before (Err before)
    unfolding AnswersIs relied_in
    lot-none before e m = record {
      is = λ c. ap (λ b. b && all_found (left c) (map (reached c) (lot c))) (sym e ∙ q c.step c.reply c.entry c.entry₂);
      numbers = m;
      more = within_itself before;
      relies = λ s z. err_not_ok before s z;
    }

    pub lot-all : (before r : Relied) (name : ℕ) → t ≡ true → to ≤ name → LotSwept before r name
        → LotLeftIs arities capacity work count free apart second area at others place from to before (Ok r)
    unfolding AnswersIs relied_in
    lot-all before r name e h s = record {
      is = λ c.
          let a : Answers c = answers_is c in
          sym (rw a (all_left (left c) (map (reached c) (lot c)) (λ u i.
          let (y, j, d) = map-∈ (reached c) u (lot c) i in
          subst (λ u. found (left c) u ≡ true) (sym d) (s.found_all y (below c y j) c a j))));
      numbers = s.numbers;
      more = s.more;
      relies = λ u z. same_ok (λ u. Few u → (c : Both) (y : ℕ) → y ∈ lot c → NumberIn (Has u) c.side.known (reached c y)) r u z
          (λ f c y i. s.relies y (below c y i) f c (answers_is c) i);
    }
      where
        answers_is : (c : Both) → Answers c
        answers_is c = sym (q c.step c.reply c.entry c.entry₂) ∙ e

        below : (c : Both) (y : ℕ) → y ∈ lot c → y < name
        below c y i = let l = (of_lot from to (names c) c.step y i).1 in omega arith
