-- The tests of listed steps decide what they are for: whether a condition respects apart pairs, and whether one transition answers another.
-- Assumes nothing.
use borrow.Author.Tests.{eq-eqb, ne_eqb, eqb-true}
use mathlib.Core.Bool.{Bool, true, ◌&&◌, not}
use mathlib.Core.List.{List, [], ◌∷◌}
use mathlib.Core.Logic.{◌≢◌, inl, inr, ◌↔◌}
use mathlib.Core.Path.{◌≡◌, refl, sym, ◌∙◌, ap, subst}
use native.Mathlib.Decide.{ℕ_discrete, dec_lt}
use native.Mathlib.Omega.{arith}
use Prim.Native.Nat.{ℕ, zero, suc, ◌+◌, ◌<◌, ◌≤◌}
use lib.Dec.{eqb}
use Rattle.calculus.specs.Term.{Term}
use Rattle.calculus.specs.Free.{In}
use Rattle.calculus.specs.Cond.{Pairs, Cond, Unif, cls, ◌▷◌}
use Rattle.calculus.specs.Distinction.{Apart, Resp}
use Rattle.calculus.specs.Published.{Action, silent, input, output, new_output, bound_names, ren_action}
use Rattle.calculus.proofs.Conditions.{E2, cls_le, ▷-cls, Unif_ext}
use Rattle.terms.proofs.Answers.{both_true, true_both}
use Rattle.steps.specs.Listed.{ListedStep, names_from, classes_of, class_in, implies, kind_of, channel_of, object_of, listed_as}
use Rattle.steps.proofs.ClassLists.{Within, unmatched, class_list, in_implies}
use Rattle.field.specs.Successors.{permitted, answers}

-- Four tests.
all_four : (a b c d : Bool) → (a && b && c && d) ≡ true → (a ≡ true) × (b ≡ true) × (c ≡ true) × (d ≡ true)
all_four a b c d e =
    let (abc, h) = both_true (a && b && c) d e in
    let (ab, k) = both_true (a && b) c abc in
    let (l, m) = both_true a b ab in
    (l, m, k, h)

four_all : (a b c d : Bool) → a ≡ true → b ≡ true → c ≡ true → d ≡ true → (a && b && c && d) ≡ true
four_all a b c d h k l m = true_both (a && b && c) d (true_both (a && b) c (true_both a b h k) l) m

differ : (m n : ℕ) → not (eqb m n) ≡ true → m ≢ n
differ m n e h = let z : ◌≡◌ {A = ℕ} 0 1 = cc (eq-eqb m n h) in absurd (omega arith)

differs : (m n : ℕ) → m ≢ n → not (eqb m n) ≡ true
differs m n h = rw (ne_eqb m n h) refl

permitted_apart : (D : Pairs) (s : ListedStep) → permitted D s ≡ true → (a b : ℕ) → Apart D a b
    → class_in s.classes a ≢ class_in s.classes b
unfolding permitted
permitted_apart [] s e a b x3 z = elim x3 [ ]
permitted_apart (p ∷ D) s e a b (inl (h, k)) z =
    let c : ℕ → ℕ = class_in s.classes in
    differ (c p.0) (c p.1) (both_true (not (eqb (c p.0) (c p.1))) (permitted D s) e).0 (ap c h ∙ z ∙ ap c (sym k))
permitted_apart (p ∷ D) s e a b (inr (inl (h, k))) z =
    let c : ℕ → ℕ = class_in s.classes in
    differ (c p.0) (c p.1) (both_true (not (eqb (c p.0) (c p.1))) (permitted D s) e).0 (ap c h ∙ sym z ∙ ap c (sym k))
permitted_apart (p ∷ D) s e a b (inr (inr h)) z =
    let c : ℕ → ℕ = class_in s.classes in
    permitted_apart D s (both_true (not (eqb (c p.0) (c p.1))) (permitted D s) e).1 a b h z

pub apart_permitted : (D : Pairs) (s : ListedStep) → ((a b : ℕ) → Apart D a b → class_in s.classes a ≢ class_in s.classes b)
    → permitted D s ≡ true
unfolding permitted
apart_permitted [] s h = refl
apart_permitted (p ∷ D) s h =
    let c : ℕ → ℕ = class_in s.classes in
    true_both (not (eqb (c p.0) (c p.1))) (permitted D s)
    (differs (c p.0) (c p.1) (h p.0 p.1 (inl (refl, refl)))) (apart_permitted D s (λ a b d. h a b (inr (inr d))))

-- A condition implies another exactly if its classes absorb the other's.
absorbs_implied : (M N : Cond) → ((n : ℕ) → cls M (cls N n) ≡ cls M n) → M ▷ N
absorbs_implied M N h = Unif_ext (λ n. cls M (cls N n)) (cls M) N h (after N (E2 N))
  where
    after : (K : Cond) → Unif (cls N) K → Unif (λ n. cls M (cls N n)) K
    after [] u = tt
    after (p ∷ K) u = (ap (cls M) u.0, after K u.1)

implies_in : (c d ns : List ℕ) → implies c d ns ≡ true → (n : ℕ) → In n ns → class_in c (class_in d n) ≡ class_in c n
unfolding implies
implies_in c d [] e n x'' = elim x'' [ ]
implies_in c d (m ∷ ns) e n (inl h) =
    ap (λ k. class_in c (class_in d k)) h
    ∙ eqb-true (class_in c (class_in d m)) (class_in c m) (both_true (eqb (class_in c (class_in d m)) (class_in c m)) (implies c d ns) e).0
    ∙ ap (class_in c) (sym h)
implies_in c d (m ∷ ns) e n (inr h) =
    implies_in c d ns (both_true (eqb (class_in c (class_in d m)) (class_in c m)) (implies c d ns) e).1 n h

in_names : (n k m : ℕ) → n ≤ m → m < n + k → In m (names_from n k)
unfolding names_from
in_names n zero m h l = absurd (omega arith)
in_names n (suc k) m h l = go (ℕ_discrete m n) (λ h'. in_names (suc n) k m h' (omega arith))
  where
    go : Dec (m ≡ n) → (suc n ≤ m → In m (names_from (suc n) k)) → In m (n ∷ names_from (suc n) k)
    go (yes e) r = inl e
    go (no d) r = inr (r (omega arith))

-- What answers a step without a condition has none either, and the same action.
pub answers_trivial : (names : ℕ) (s t : ListedStep) → ((n : ℕ) → class_in s.classes n ≡ n) → answers names s t ≡ true
    → (s.kind ≡ t.kind) × (s.channel ≡ t.channel) × (s.object ≡ t.object) × ((n : ℕ) → n < names → class_in s.classes n ≡ class_in t.classes n)
unfolding answers
answers_trivial names s t own e =
    let c = s.classes in
    let (k, h, o, i) = all_four (eqb s.kind t.kind) (eqb s.channel (class_in c t.channel)) (eqb s.object (class_in c t.object))
    (implies c t.classes (names_from 0 names)) e in (
      eqb-true s.kind t.kind k,
      eqb-true s.channel (class_in c t.channel) h ∙ own t.channel,
      eqb-true s.object (class_in c t.object) o ∙ own t.object,
      λ n l. sym (implies_in c t.classes (names_from 0 names) i n (in_names 0 names n (omega arith) (omega arith))) ∙ own (class_in t.classes n),
    )

-- Equal actions, from their bytes: a bound name is its own class.
abbrev OwnClass : (ℕ → ℕ) → Action → Type 0
OwnClass σ β = (y : ℕ) → In y (bound_names β) → σ y ≡ y

-- the bytes of α are those of β, rewritten
record SameBytes (σ : ℕ → ℕ) (α β : Action) : Type 0 where
  kind : kind_of α ≡ kind_of β
  channel : channel_of α ≡ σ (channel_of β)
  object : object_of α ≡ σ (object_of β)

bytes_action : (σ : ℕ → ℕ) (α β : Action) → OwnClass σ β → SameBytes σ α β → α ≡ ren_action σ β
unfolding kind_of channel_of object_of
bytes_action σ silent silent own h = refl
bytes_action σ silent (input b y) own h = absurd (omega (arith, h.kind))
bytes_action σ silent (output b c) own h = absurd (omega (arith, h.kind))
bytes_action σ silent (new_output b y) own h = absurd (omega (arith, h.kind))
bytes_action σ (input a x) silent own h = absurd (omega (arith, h.kind))
bytes_action σ (input a x) (input b y) own h = λ i. input (h.channel i) ((h.object ∙ own y (inl refl)) i)
bytes_action σ (input a x) (output b c) own h = absurd (omega (arith, h.kind))
bytes_action σ (input a x) (new_output b y) own h = absurd (omega (arith, h.kind))
bytes_action σ (output a z) silent own h = absurd (omega (arith, h.kind))
bytes_action σ (output a z) (input b y) own h = absurd (omega (arith, h.kind))
bytes_action σ (output a z) (output b c) own h = λ i. output (h.channel i) (h.object i)
bytes_action σ (output a z) (new_output b y) own h = absurd (omega (arith, h.kind))
bytes_action σ (new_output a x) silent own h = absurd (omega (arith, h.kind))
bytes_action σ (new_output a x) (input b y) own h = absurd (omega (arith, h.kind))
bytes_action σ (new_output a x) (output b c) own h = absurd (omega (arith, h.kind))
bytes_action σ (new_output a x) (new_output b y) own h = λ i. new_output (h.channel i) ((h.object ∙ own y (inl refl)) i)

-- the first name is always its own class
action_bytes_lem : (M : Cond) (β : Action) → OwnClass (cls M) β → SameBytes (cls M) (ren_action (cls M) β) β
unfolding kind_of channel_of object_of
action_bytes_lem M silent own =
    let z : 0 ≡ cls M 0 = omega (arith, cls_le M 0) in record { kind = refl; channel = z; object = z }
action_bytes_lem M (input b y) own = record { kind = refl; channel = refl; object = sym (own y (inl refl)) }
action_bytes_lem M (output b c) own = record { kind = refl; channel = refl; object = refl }
action_bytes_lem M (new_output b y) own = record { kind = refl; channel = refl; object = sym (own y (inl refl)) }

-- the listed classes of one condition imply those of another
implies_iff : (names : ℕ) (M N : Cond) → Within names M → Within names N
    → (implies (classes_of names M) (classes_of names N) (names_from 0 names) ≡ true) ↔ (M ▷ N)
implies_iff names M N v w = (λ e. absorbs_implied M N (λ n. go e n (dec_lt n names)), λ i. in_implies c d (names_from 0 names) (λ n. listed n (▷-cls M N i n)))
  where
    c : List ℕ
    c = classes_of names M

    d : List ℕ
    d = classes_of names N

    listed : (n : ℕ) → cls M (cls N n) ≡ cls M n → class_in c (class_in d n) ≡ class_in c n
    listed n e = coe 0 1 (i. sym (class_list names M v) i (sym (class_list names N w) i n) ≡ sym (class_list names M v) i n) e

    go : implies c d (names_from 0 names) ≡ true → (n : ℕ) → Dec (n < names) → cls M (cls N n) ≡ cls M n
    go e n (yes h) =
        coe 0 1 (i. class_list names M v i (class_list names N w i n) ≡ class_list names M v i n)
        (implies_in c d (names_from 0 names) e n (in_names 0 names n (omega arith) (omega arith)))
    go e n (no h) = ap (cls M) (unmatched N n (λ o. let l = w n o in h l))

module _ (names : ℕ) (M : Cond) (α : Action) (P : Term) (within : Within names M) where
  -- to rewrite by the listed classes is to rewrite by the condition
  pub listed_class : class_in (listed_as names M α P).classes ≡ cls M
  unfolding listed_as
  listed_class = class_list names M within

  pub permitted_iff : (D : Pairs) → (permitted D (listed_as names M α P) ≡ true) ↔ Resp M D
  permitted_iff D = (
    λ e. subst (λ f. (a b : ℕ) → Apart D a b → f a ≢ f b) listed_class (permitted_apart D (listed_as names M α P) e),
    λ r. apart_permitted D (listed_as names M α P) (subst (λ f. (a b : ℕ) → Apart D a b → f a ≢ f b) (sym listed_class) r),
  )

  -- a bound name of the answer is its own class
  pub answers_iff : (N : Cond) (β : Action) (Q : Term) → Within names N → ((y : ℕ) → In y (bound_names β) → cls M y ≡ y)
      → (answers names (listed_as names M α P) (listed_as names N β Q) ≡ true) ↔ ((M ▷ N) × (α ≡ ren_action (cls M) β))
  unfolding answers listed_as
  answers_iff N β Q w own = (
    λ e.
        let (k, h, o, i) = all_four (eqb (kind_of α) (kind_of β)) (eqb (channel_of α) (f (channel_of β))) (eqb (object_of α) (f (object_of β))) implied e in (
          (implies_iff names M N within w).0 i,
          bytes_action (cls M) α β own (record {
            kind = eqb-true (kind_of α) (kind_of β) k;
            channel = eqb-true (channel_of α) (f (channel_of β)) h ∙ ap (λ g. g (channel_of β)) same;
            object = eqb-true (object_of α) (f (object_of β)) o ∙ ap (λ g. g (object_of β)) same;
          }),
        ),
    λ h.
        let b : SameBytes (cls M) α β = subst (λ γ. SameBytes (cls M) γ β) (sym h.1) (action_bytes_lem M β own) in
        four_all (eqb (kind_of α) (kind_of β)) (eqb (channel_of α) (f (channel_of β))) (eqb (object_of α) (f (object_of β))) implied
        (eq-eqb (kind_of α) (kind_of β) b.kind)
        (eq-eqb (channel_of α) (f (channel_of β)) (b.channel ∙ ap (λ g. g (channel_of β)) (sym same)))
        (eq-eqb (object_of α) (f (object_of β)) (b.object ∙ ap (λ g. g (object_of β)) (sym same)))
        ((implies_iff names M N within w).1 h.0),
  )
    where
      f : ℕ → ℕ
      f = class_in (classes_of names M)

      same : f ≡ cls M
      same = class_list names M within

      implied : Bool
      implied = implies (classes_of names M) (classes_of names N) (names_from 0 names)
