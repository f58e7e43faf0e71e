-- The communication of two candidates from the kinds and channels of their rows. Assumes nothing.
use borrow.Author.Tests.{ltb-true, ltb-false, le-ltb, leb-true, leb-false, eqb-true, eqb-false, ne_eqb}
use mathlib.Core.Bool.{Bool, true, false, cond, not, ◌&&◌}
use mathlib.Core.List.{List, [], ◌∷◌, ◌++◌}
use mathlib.Core.Logic.{◌⊎◌, inl, inr, ⊎_elim}
use mathlib.Core.Path.{◌≡◌, refl, sym, ◌∙◌, ap, subst}
use native.Mathlib.Nat.{eq-or-lt_of_le}
use native.Mathlib.Omega.{arith}
use Prim.Native.Nat.{ℕ, ◌+◌, ◌*◌, ◌<◌, ◌≤◌, min, max}
use lib.Dec.{eqb, ltb, leb}
use lib.ListN.{get_or}
use Rattle.calculus.specs.Abstraction.{Act, tau_a, inp_a, out_a, bout_a}
use Rattle.calculus.specs.Cond.{Cond, join, cls}
use Rattle.calculus.specs.Term.{Term}
use Rattle.terms.specs.Limits.{name_count}
use Rattle.terms_bytes.specs.NameTable.{last_name}
use Rattle.steps_conditions.specs.Labels.{input_on, new_output_on, action_of, ActionBelow}
use Rattle.steps.specs.Raw.{Candidate, step, blocked, meet, communication}
use Rattle.steps_conditions.specs.Slots.{slot_of}
use Rattle.steps_conditions.specs.declared.action.Action.TheVariants.{Output}
use Rattle.steps_tallies.proofs.Numbering.{not_met}
use Rattle.steps_splicing.specs.Contexts.{Frame, raised, restrictions}
use Rattle.steps_communications.specs.Meeting.{first_merged, last_merged, is_between, meets_between, may_meet}
use Rattle.steps_rows.specs.Rows.{row_bytes, kind_at, channel_at, action_kind, row_action, RowActs, Outlined}
use Rattle.steps_splicing.specs.PlacedResults.{Trivial}
use Rattle.steps_splicing.proofs.ContextLaws.{raised-blocked}
use Rattle.steps_rows.proofs.Below.{raised-same, raised_free, raised_apart, slot_of_free, bound_slot, slot_one}

-- The action is an input on a channel (true), or an output (false).
abbrev On : Bool → ℕ → Act → Type 0
On r a tau_a = ⊥
On true a (inp_a b) = a ≡ b
On true a (out_a b y) = ⊥
On true a (bout_a b) = ⊥
On false a (inp_a b) = ⊥
On false a (out_a b y) = a ≡ b
On false a (bout_a b) = a ≡ b

-- An input or output, by the slot of its channel.
record Visible (d : ℕ) (c : Candidate) (kind : ℕ) (r : Bool) (channel : ℕ) : Type 0 where
  name : ℕ
  below : name < d + name_count
  slot : slot_of name_count d name ≡ channel
  condition : Cond
  plain : kind ≤ 3 → condition ≡ []
  action : Act
  result : Term
  on : On r name action
  is : c ≡ step condition action result

module _ (d : ℕ) (c : Candidate) (kind : ℕ) (M : Cond) (few : kind ≤ 3 → M ≡ []) (A : Term) (channel object : ℕ) where
  input_of : (α : Act) → c ≡ step M α A → ActionBelow (d + name_count) α → action_of d α ≡ input_on channel → Visible d c kind true channel
  unfolding action_of ActionBelow
  input_of tau_a e b h = let z : ◌≡◌ {A = ℕ} 0 1 = cc in absurd (omega arith)
  input_of (inp_a a) e b h = record { name = a; below = b; slot = cc; condition = M; plain = few; action = inp_a a; result = A; on = refl; is = e }
  input_of (out_a a y) e b h = let z : ◌≡◌ {A = ℕ} 0 1 = cc in absurd (omega arith)
  input_of (bout_a a) e b h = let z : ◌≡◌ {A = ℕ} 0 1 = cc in absurd (omega arith)

  output_of : (α : Act) → c ≡ step M α A → ActionBelow (d + name_count) α → (action_of d α ≡ Output channel object) ⊎ (action_of d α ≡ new_output_on channel)
      → Visible d c kind false channel
  unfolding action_of ActionBelow
  output_of tau_a e b (inl h) = let z : ◌≡◌ {A = ℕ} 0 1 = cc in absurd (omega arith)
  output_of tau_a e b (inr h) = let z : ◌≡◌ {A = ℕ} 0 1 = cc in absurd (omega arith)
  output_of (inp_a a) e b (inl h) = let z : ◌≡◌ {A = ℕ} 0 1 = cc in absurd (omega arith)
  output_of (inp_a a) e b (inr h) = let z : ◌≡◌ {A = ℕ} 0 1 = cc in absurd (omega arith)
  output_of (out_a a y) e b (inl h) = record { name = a; below = b.0; slot = cc; condition = M; plain = few; action = out_a a y; result = A; on = refl; is = e }
  output_of (out_a a y) e b (inr h) = let z : ◌≡◌ {A = ℕ} 0 1 = cc in absurd (omega arith)
  output_of (bout_a a) e b (inl h) = let z : ◌≡◌ {A = ℕ} 0 1 = cc in absurd (omega arith)
  output_of (bout_a a) e b (inr h) = record { name = a; below = b; slot = cc; condition = M; plain = few; action = bout_a a; result = A; on = refl; is = e }

visible_of_lem : (d : ℕ) (c : Candidate) (kind channel object : ℕ) → RowActs d kind channel object c → Visible d c kind (eqb (action_kind kind) 1) channel
unfolding row_action
visible_of_lem d c kind channel object D = go (eqb (action_kind kind) 1) (eqb (action_kind kind) 2 && ltb object (name_count + d)) D.acts
  where
    go : (r t : Bool) → action_of d D.action ≡ cond r (input_on channel) (cond t (Output channel object) (new_output_on channel)) → Visible d c kind r channel
    go true t a = input_of d c kind D.condition D.plain D.result channel object D.action D.is D.below a
    go false true a = output_of d c kind D.condition D.plain D.result channel object D.action D.is D.below (inl a)
    go false false a = output_of d c kind D.condition D.plain D.result channel object D.action D.is D.below (inr a)

-- An input and an output meet, whatever their channels.
met : (r : Bool) (a b : ℕ) (M N : Cond) (α β : Act) (A B : Term) → On r a α → On (not r) b β
    → (C : Term) × (communication (step M α A) (step N β B) ≡ step ((a, b) ∷ (M ++ N)) tau_a C)
unfolding communication meet
met true a b M N (inp_a a') (out_a b' y) A B h k = (_, λ i. communication (step M (inp_a (sym h i)) A) (step N (out_a (sym k i) y) B))
met true a b M N (inp_a a') (bout_a b') A B h k = (_, λ i. communication (step M (inp_a (sym h i)) A) (step N (bout_a (sym k i)) B))
met false a b M N tau_a β A B h k = elim h [ ]
met false a b M N (inp_a a') β A B h k = elim h [ ]
met false a b M N (out_a a' y) tau_a A B h k = elim k [ ]
met false a b M N (out_a a' y) (out_a b' _) A B h k = elim k [ ]
met false a b M N (out_a a' y) (bout_a b') A B h k = elim k [ ]
met false a b M N (bout_a a') tau_a A B h k = elim k [ ]
met false a b M N (bout_a a') (out_a b' y) A B h k = elim k [ ]
met false a b M N (bout_a a') (bout_a b') A B h k = elim k [ ]
met true a b M N tau_a β A B h k = elim h [ ]
met true a b M N (inp_a a') tau_a A B h k = elim k [ ]
met true a b M N (inp_a a') (inp_a b') A B h k = elim k [ ]
met true a b M N (out_a a' y) β A B h k = elim h [ ]
met true a b M N (bout_a a') β A B h k = elim h [ ]
met false a b M N (out_a a' y) (inp_a b') A B h k = (_, λ i. communication (step M (out_a (sym h i) y) A) (step N (inp_a (sym k i)) B))
met false a b M N (bout_a a') (inp_a b') A B h k = (_, λ i. communication (step M (bout_a (sym h i)) A) (step N (inp_a (sym k i)) B))

-- Two inputs do not, nor do two outputs.
unmet : (r : Bool) (a b : ℕ) (M N : Cond) (α β : Act) (A B : Term) → On r a α → On r b β → communication (step M α A) (step N β B) ≡ blocked
unfolding communication meet
unmet true a b M N (inp_a a') (inp_a b') A B h k = refl
unmet false a b M N tau_a β A B h k = elim h [ ]
unmet false a b M N (inp_a a') β A B h k = elim h [ ]
unmet false a b M N (out_a a' y) tau_a A B h k = elim k [ ]
unmet false a b M N (out_a a' y) (inp_a b') A B h k = elim k [ ]
unmet false a b M N (bout_a a') tau_a A B h k = elim k [ ]
unmet false a b M N (bout_a a') (inp_a b') A B h k = elim k [ ]
unmet true a b M N tau_a β A B h k = elim h [ ]
unmet true a b M N (inp_a a') tau_a A B h k = elim k [ ]
unmet true a b M N (inp_a a') (out_a b' z) A B h k = elim k [ ]
unmet true a b M N (inp_a a') (bout_a b') A B h k = elim k [ ]
unmet true a b M N (out_a a' y) β A B h k = elim h [ ]
unmet true a b M N (bout_a a') β A B h k = elim h [ ]
unmet false a b M N (out_a a' y) (out_a b' z) A B h k = refl
unmet false a b M N (out_a a' y) (bout_a b') A B h k = refl
unmet false a b M N (bout_a a') (out_a b' z) A B h k = refl
unmet false a b M N (bout_a a') (bout_a b') A B h k = refl

-- What the test says.
abbrev tested : Bool → Bool → Bool → Bool
tested r₁ r₂ m = cond r₁ (cond r₂ false m) (cond r₂ m false)

test_false : (r₁ r₂ m : Bool) → tested r₁ r₂ m ≡ false → (r₁ ≡ r₂) ⊎ ((r₂ ≡ not r₁) × (m ≡ false))
test_false true true m e = inl refl
test_false true false m e = inr (refl, e)
test_false false true m e = inr (refl, e)
test_false false false m e = inl refl

test_true : (r₁ r₂ m : Bool) → tested r₁ r₂ m ≡ true → (r₂ ≡ not r₁) × (m ≡ true)
test_true true true m e = let z : ◌≡◌ {A = ℕ} 0 1 = cc in absurd (omega arith)
test_true true false m e = (refl, e)
test_true false true m e = (refl, e)
test_true false false m e = let z : ◌≡◌ {A = ℕ} 0 1 = cc in absurd (omega arith)

-- The second row is no repeated one.
not_repeated : (b m : Bool) → cond b false m ≡ true → (b ≡ false) × (m ≡ true)
not_repeated true m e = let z : ◌≡◌ {A = ℕ} 0 1 = cc in absurd (omega arith)
not_repeated false m e = (refl, e)

pub meets_new : (k₁ c₁ k₂ c₂ : ℕ) → may_meet k₁ c₁ k₂ c₂ ≡ true → k₂ ≡ 4 → ⊥
unfolding may_meet meets_between
meets_new k₁ c₁ k₂ c₂ e = eqb-false k₂ 4 (not_repeated (eqb k₂ 4) _ e).0

-- The second channel is among those that may be merged with the first.
abbrev mergeable : ℕ → ℕ → Bool
mergeable a b = is_between b (first_merged a) (last_merged a)

pub meets_opposite : (k₁ c₁ k₂ c₂ : ℕ) → may_meet k₁ c₁ k₂ c₂ ≡ true → (eqb (action_kind k₂) 1 ≡ not (eqb (action_kind k₁) 1)) × (mergeable c₁ c₂ ≡ true)
unfolding may_meet meets_between
meets_opposite k₁ c₁ k₂ c₂ m = test_true (eqb (action_kind k₁) 1) (eqb (action_kind k₂) 1) (mergeable c₁ c₂) (not_repeated (eqb k₂ 4) _ m).1

not_mergeable : (a b : ℕ) → mergeable a b ≡ false → (a ≡ b → ⊥) × (a < name_count → b < name_count → ⊥)
unfolding first_merged last_merged is_between
not_mergeable a b e = go (leb a last_name) refl e
  where
    other : (t : Bool) → ltb b a ≡ t → cond t false (leb b a) ≡ false → a ≡ b → ⊥
    other true t f n = omega (arith, ltb-true b a t)
    other false t f n = omega (arith, leb-false b a f)

    go : (t : Bool) → leb a last_name ≡ t → cond (ltb b (cond t 0 a)) false (leb b (cond t last_name a)) ≡ false → (a ≡ b → ⊥) × (a < name_count → b < name_count → ⊥)
    go true t f =
        let h = leb-true a last_name t in
        let k = leb-false b last_name (rw (le-ltb b 0 (omega arith)) at f) in
        (λ n. omega arith, λ _ l. omega arith)
    go false t f = let h = leb-false a last_name t in (other (ltb b a) refl f, λ l _. omega arith)

is_mergeable : (a b : ℕ) → mergeable a b ≡ true → (a ≡ b → ⊥) → (a < name_count) × (b < name_count)
unfolding first_merged last_merged is_between
is_mergeable a b e n = go (leb a last_name) refl e
  where
    other : (t : Bool) → ltb b a ≡ t → cond t false (leb b a) ≡ true → a ≡ b
    other true t f = let z : ◌≡◌ {A = ℕ} 0 1 = cc in absurd (omega arith)
    other false t f = let h = ltb-false b a t in let k = leb-true b a f in omega arith

    go : (t : Bool) → leb a last_name ≡ t → cond (ltb b (cond t 0 a)) false (leb b (cond t last_name a)) ≡ true → (a < name_count) × (b < name_count)
    go true t f =
        let h = leb-true a last_name t in
        let k = leb-true b last_name (rw (le-ltb b 0 (omega arith)) at f) in
        (omega arith, omega arith)
    go false t f = absurd (n (other (ltb b a) refl f))

-- A trivial match merges nothing.
pub trivial_match : (b : ℕ) → Trivial ((b, b) ∷ [])
unfolding Trivial cls join
trivial_match b n = go (eqb n (max b b)) refl
  where
    go : (t : Bool) → eqb n (max b b) ≡ t → cond t (min b b) n ≡ n
    go true t = let e = eqb-true n (max b b) t in omega arith
    go false t = refl

-- Two candidates by their rows; K are the frames around the parallel.
module _ (K : List Frame) (d : ℕ) (level : restrictions K ≡ d) (s t : Candidate) (k₁ c₁ o₁ k₂ c₂ o₂ : ℕ) where
  apart : (r₁ r₂ : Bool) → Visible d s k₁ r₁ c₁ → Visible d t k₂ r₂ c₂ → (r₁ ≡ r₂) ⊎ ((r₂ ≡ not r₁) × (mergeable c₁ c₂ ≡ false)) → raised K (communication s t) ≡ blocked
  apart r₁ r₂ u v (inl e) =
      ap (raised K) ((λ i. communication (u.is i) (v.is i)) ∙ unmet r₂ u.name v.name u.condition v.condition u.action v.action u.result v.result (subst (λ r. On r u.name u.action) e u.on) v.on)
      ∙ raised-blocked K
  apart r₁ r₂ u v (inr (e, m)) =
      let (C, f) = met r₁ u.name v.name u.condition v.condition u.action v.action u.result v.result u.on (subst (λ r. On r v.name v.action) e v.on) in
      let (n, g) = not_mergeable c₁ c₂ m in
      ap (raised K) ((λ i. communication (u.is i) (v.is i)) ∙ f)
      ∙ raised_apart K u.name v.name (u.condition ++ v.condition) C
      (λ h. n (sym u.slot ∙ ap (slot_of name_count d) h ∙ v.slot))
      (λ h k. g (subst (λ c. c < name_count) u.slot (bound_slot name_count d u.name u.below (omega arith)))
      (subst (λ c. c < name_count) v.slot (bound_slot name_count d v.name v.below (omega arith))))

  pub pair_apart : Outlined d s k₁ c₁ o₁ × (c₁ < name_count + d) → Outlined d t k₂ c₂ o₂ → (k₂ ≡ 4 → ⊥) → may_meet k₁ c₁ k₂ c₂ ≡ false
      → raised K (communication s t) ≡ blocked
  unfolding may_meet meets_between communication
  pair_apart (l, w) r new e = go (ltb c₂ (name_count + d)) refl
    where
      fit : (eqb (action_kind k₁) 1 ≡ eqb (action_kind k₂) 1) ⊎ ((eqb (action_kind k₂) 1 ≡ not (eqb (action_kind k₁) 1)) × (mergeable c₁ c₂ ≡ false))
      fit = test_false (eqb (action_kind k₁) 1) (eqb (action_kind k₂) 1) (mergeable c₁ c₂) (rw (ne_eqb k₂ 4 new) at e)

      stopped : t ≡ blocked → raised K (communication s t) ≡ blocked
      stopped e = ap (λ c. raised K (communication s c)) e ∙ ap (raised K) (not_met s) ∙ raised-blocked K

      both : ((3 < k₁) × (s ≡ blocked)) ⊎ RowActs d k₁ c₁ o₁ s → ((3 < k₂) × (t ≡ blocked)) ⊎ RowActs d k₂ c₂ o₂ t → raised K (communication s t) ≡ blocked
      both (inl (_, f)) _ = ap (λ c. raised K (communication c t)) f ∙ raised-blocked K
      both (inr D) (inl (_, f)) = stopped f
      both (inr D) (inr E) = apart (eqb (action_kind k₁) 1) (eqb (action_kind k₂) 1) (visible_of_lem d s k₁ c₁ o₁ D) (visible_of_lem d t k₂ c₂ o₂ E) fit

      go : (b : Bool) → ltb c₂ (name_count + d) ≡ b → raised K (communication s t) ≡ blocked
      go true b = both (l.acts w) (r.acts (ltb-true c₂ (name_count + d) b))
      go false b = stopped (r.inner (ltb-false c₂ (name_count + d) b))

  -- The communication at one channel, and what it is raised to.
  pub record Same : Type 0 where
    pub name : ℕ
    pub result : Term
    pub own : communication s t ≡ step ((name, name) ∷ []) tau_a result
    pub outer : ℕ
    pub whole : Term
    pub is : raised K (step ((name, name) ∷ []) tau_a result) ≡ step ((outer, outer) ∷ []) tau_a whole

  module _ (left : Outlined d s k₁ c₁ o₁) (inside : c₁ < name_count + d) (right : Outlined d t k₂ c₂ o₂) (k : k₁ ≤ 3) (l : k₂ ≤ 3) (m : may_meet k₁ c₁ k₂ c₂ ≡ true) where
    opposite : (eqb (action_kind k₂) 1 ≡ not (eqb (action_kind k₁) 1)) × (mergeable c₁ c₂ ≡ true)
    opposite = meets_opposite k₁ c₁ k₂ c₂ m

    module _ (inside₂ : c₂ < name_count + d) where
      first_of_lem : Visible d s k₁ (eqb (action_kind k₁) 1) c₁
      first_of_lem = ⊎_elim (λ p. absurd (omega (arith, p.0))) (visible_of_lem d s k₁ c₁ o₁) (left.acts inside)

      second_of : Visible d t k₂ (eqb (action_kind k₂) 1) c₂
      second_of = ⊎_elim (λ p. absurd (omega (arith, p.0))) (visible_of_lem d t k₂ c₂ o₂) (right.acts inside₂)

      meeting : (C : Term) × (communication s t ≡ step ((first_of_lem.name, second_of.name) ∷ []) tau_a C)
      meeting =
          let u = first_of_lem in
          let v = second_of in
          let (C, f) = met (eqb (action_kind k₁) 1) u.name v.name u.condition v.condition u.action v.action u.result v.result u.on
          (subst (λ r. On r v.name v.action) opposite.0 v.on) in
          (C, (λ i. communication (u.is i) (v.is i)) ∙ f ∙ (λ i. step ((u.name, v.name) ∷ (u.plain k i ++ v.plain l i)) tau_a C))

    pub pair_same : c₁ ≡ c₂ → Same
    pair_same e =
        let h : c₂ < name_count + d = omega arith in
        let u = first_of_lem h in
        let v = second_of h in
        let (C, f) = meeting h in
        let (b, B, g) = raised-same K u.name C in
        let n : v.name ≡ u.name = slot_one name_count d v.name u.name v.below u.below (v.slot ∙ sym e ∙ sym u.slot) in
        record { name = u.name; result = C; own = f ∙ (λ i. step ((u.name, n i) ∷ []) tau_a C); outer = b; whole = B; is = g }

    pub merged-inside : (c₁ ≡ c₂ → ⊥) → c₂ < name_count + d
    merged-inside n = let (g₁, g₂) = is_mergeable c₁ c₂ opposite.1 n in omega arith

    pub pair_merged : (c₁ ≡ c₂ → ⊥) → (B : Term) × (raised K (communication s t) ≡ step ((c₁, c₂) ∷ []) tau_a B)
    pair_merged n =
        let (g₁, g₂) = is_mergeable c₁ c₂ opposite.1 n in
        let h : c₂ < name_count + d = merged-inside n in
        let u = first_of_lem h in
        let v = second_of h in
        let (C, f) = meeting h in
        let a₁ : u.name ≡ restrictions K + c₁ =
        slot_of_free name_count d u.name (rw u.slot g₁) ∙ (λ i. sym level i + u.slot i) in
        let a₂ : v.name ≡ restrictions K + c₂ =
        slot_of_free name_count d v.name (rw v.slot g₂) ∙ (λ i. sym level i + v.slot i) in
        let (B, e) = raised_free K u.name v.name c₁ c₂ C a₁ a₂ in
        (B, ap (raised K) f ∙ e)

-- The test by the channels that may be merged with the row's.
module _ (rows : List ℕ) (kind channel : ℕ) where
  pub next_test : (low high w : ℕ) → low ≡ first_merged channel → high ≡ last_merged channel → (t : Bool)
      → t ≡ meets_between kind low high (get_or rows (row_bytes * w) 0) (get_or rows (row_bytes * w + 1) 0)
      → may_meet kind channel (kind_at rows w) (channel_at rows w) ≡ t
  unfolding may_meet kind_at channel_at
  next_test low high w e f t g =
      (λ i. meets_between kind (sym e i) (sym f i) (get_or rows (row_bytes * w) 0) (get_or rows (row_bytes * w + 1) 0)) ∙ sym g

  pub apart_more : (from w : ℕ) → ((v : ℕ) → from ≤ v → v < w → may_meet kind channel (kind_at rows v) (channel_at rows v) ≡ false)
      → may_meet kind channel (kind_at rows w) (channel_at rows w) ≡ false
      → (v : ℕ) → from ≤ v → v < w + 1 → may_meet kind channel (kind_at rows v) (channel_at rows v) ≡ false
  apart_more from w p m v h l =
      ⊎_elim (λ e. ap (λ (k : ℕ). may_meet kind channel (kind_at rows k) (channel_at rows k)) e ∙ m) (λ k. p v h k)
      (eq-or-lt_of_le {n = v} {m = w} (omega arith))
