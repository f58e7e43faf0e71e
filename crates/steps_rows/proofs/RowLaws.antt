-- What the row of a candidate says: of its action, outside a restriction, beside another term; and rows that are kept. Assumes nothing.
use mathlib.Core.Path.{◌≡◌, refl, sym, ap, ap₂, subst, ◌∙◌}
use mathlib.Core.Bool.{Bool, true, false, cond, ◌&&◌}
use mathlib.Core.List.{List, [], ◌∷◌, ◌++◌, map, append_assoc}
use mathlib.Core.Logic.{◌⊎◌, inl, inr, ⊎_elim}
use Prim.Native.Nat.{ℕ, zero, suc, ◌+◌, ◌-◌, ◌*◌, ◌<◌, ◌≤◌}
use native.Mathlib.Omega.{arith}
use lib.ListN.{length, get_or, take, length-append, length-map, get_or-append}
use lib.Seq.{get_or-append-add, take-append-le, take-append-add}
use lib.Dec.{eqb, ltb}
use borrow.Author.Tests.{eqb-true, eqb-false, ltb-true, ltb-false, lt-ltb, le-ltb}
use Rattle.calculus.specs.Abstraction.{Act, tau_a, inp_a, out_a, bout_a, swap, weak}
use Rattle.calculus.specs.Cond.{Cond, map_p, canonical, matches_below, above}
use Rattle.calculus.specs.Term.{Term, par, res, ren}
use Rattle.terms.specs.Limits.{name_count}
use Rattle.steps_conditions.specs.Labels.{input_on, new_output_on, action_of, ActionBelow}
use Rattle.steps.specs.Raw.{Candidate, step, blocked, matching, left_steps, right_steps, restricted_alone, outside, restricted_action, restricted, visible, visible_of}
use Rattle.calculus.specs.Lists.{◌∈◌, Among}
use Rattle.steps_conditions.specs.Slots.{slot_of}
use Rattle.steps_conditions.specs.declared.action.Action.{Action}
use Rattle.steps_conditions.specs.declared.action.Action.TheVariants.{Silent, Output}
use Rattle.calculus.proofs.Membership.{∈-left, ∈_right, ∈_nth, take-map, within_either}
use Rattle.steps_conditions.proofs.NameSlots.{slot_inner}
use Rattle.steps_tallies.proofs.Numbering.{nth_matching, nth_left_steps, nth_right_steps, nth_restricted}
use Rattle.steps_conditions.proofs.SlotLaws.{slot-restricted, slot-outside}
use Rattle.steps_equal_branches.specs.Below.{fails, decided, Again}
use Rattle.steps_rows.specs.Rows.{row_bytes, kind_at, channel_at, object_at, action_kind, row_action, RowActs, Outlined, Row, RowsBehind, Rows, Matched, RowsKept}
use Rattle.steps_equal_branches.proofs.Below.{by-fails, decided-matching, decided-left, decided_right, decided-restricted, decided_trivial, again-more, again_by, again_trivial}

-- The action of a row.
module _ (d kind channel object : ℕ) where
  pub row-input : kind ≡ 1 → row_action d kind channel object ≡ input_on channel
  unfolding row_action
  row-input e = rw e refl

  pub row_output : kind ≡ 2 → object < name_count + d → row_action d kind channel object ≡ Output channel object
  unfolding row_action
  row_output e h = rw (e, lt-ltb object (name_count + d) h) refl

  abbrev by : Bool → Bool → Bool → Action
  by x y z = cond x (input_on channel) (cond (y && z) (Output channel object) (new_output_on channel))

  pub row_cases : (C : Action → Type 0) → (kind ≡ 1 → C (input_on channel)) → (kind ≡ 2 → object < name_count + d → C (Output channel object))
      → ((kind ≡ 1 → ⊥) → (kind ≡ 2 → name_count + d ≤ object) → C (new_output_on channel)) → C (row_action d kind channel object)
  unfolding row_action
  row_cases C f g h = go (eqb kind 1) refl (eqb kind 2) refl (ltb object (name_count + d)) refl
    where
      go : (x : Bool) → eqb kind 1 ≡ x → (y : Bool) → eqb kind 2 ≡ y → (z : Bool) → ltb object (name_count + d) ≡ z → C (by x y z)
      go true x y y' z z' = f (eqb-true kind 1 x)
      go false x true y true z = g (eqb-true kind 2 y) (ltb-true object (name_count + d) z)
      go false x true y false z = h (eqb-false kind 1 x) (λ e. ltb-false object (name_count + d) z)
      go false x false y z z' = h (eqb-false kind 1 x) (λ e. absurd (eqb-false kind 2 y e))

  pub row_new : (kind ≡ 1 → ⊥) → (kind ≡ 2 → name_count + d ≤ object) → row_action d kind channel object ≡ new_output_on channel
  row_new n m = row_cases (λ (r : Action). r ≡ new_output_on channel) (λ e. absurd (n e)) (λ e h. let k = m e in absurd (omega arith)) (λ x y. refl)

  -- To show something of an action with this row, show it of the visible ones.
  pub row-act : (C : Act → Type 0) → ((a : ℕ) → kind ≡ 1 → slot_of name_count d a ≡ channel → C (inp_a a))
      → ((a b : ℕ) → kind ≡ 2 → object < name_count + d → slot_of name_count d a ≡ channel → slot_of name_count d b ≡ object → C (out_a a b))
      → ((a : ℕ) → (kind ≡ 1 → ⊥) → (kind ≡ 2 → name_count + d ≤ object) → slot_of name_count d a ≡ channel → C (bout_a a))
      → (α : Act) → action_of d α ≡ row_action d kind channel object → C α
  unfolding action_of
  row-act C f g h tau_a = row_cases (λ (r : Action). Silent ≡ r → C tau_a)
      (λ k e. let z : ◌≡◌ {A = ℕ} 0 1 = cc in absurd (omega arith)) (λ k l e. let z : ◌≡◌ {A = ℕ} 0 1 = cc in absurd (omega arith)) (λ k l e. let z : ◌≡◌ {A = ℕ} 0 1 = cc in absurd (omega arith))
  row-act C f g h (inp_a a) = row_cases (λ (r : Action). input_on (slot_of name_count d a) ≡ r → C (inp_a a))
      (λ k e. f a k (cc)) (λ k l e. let z : ◌≡◌ {A = ℕ} 0 1 = cc in absurd (omega arith)) (λ k l e. let z : ◌≡◌ {A = ℕ} 0 1 = cc in absurd (omega arith))
  row-act C f g h (out_a a b) = row_cases (λ (r : Action). Output (slot_of name_count d a) (slot_of name_count d b) ≡ r → C (out_a a b))
      (λ k e. let z : ◌≡◌ {A = ℕ} 0 1 = cc in absurd (omega arith)) (λ k l e. g a b k l (cc) (cc)) (λ k l e. let z : ◌≡◌ {A = ℕ} 0 1 = cc in absurd (omega arith))
  row-act C f g h (bout_a a) = row_cases (λ (r : Action). new_output_on (slot_of name_count d a) ≡ r → C (bout_a a))
      (λ k e. let z : ◌≡◌ {A = ℕ} 0 1 = cc in absurd (omega arith)) (λ k l e. let z : ◌≡◌ {A = ℕ} 0 1 = cc in absurd (omega arith)) (λ k l e. h a k l (cc))

-- [Res] and [Open]: the row serves outside the restriction.
module _ (d kind channel object : ℕ) where
  -- a step with this condition, and its row
  abbrev Acts : ℕ → Cond → Candidate → Type 0
  Acts d M c = (α : Act) × (A : Term) × (c ≡ step M α A) × (action_of d α ≡ row_action d kind channel object) × ActionBelow (d + name_count) α

  -- the channel is the restricted name
  stops : channel ≡ name_count + d → (M : Cond) (α : Act) (A : Term) → action_of (1 + d) α ≡ row_action (1 + d) kind channel object → ActionBelow (1 + d + name_count) α → restricted_action M α A ≡ blocked
  unfolding ActionBelow restricted_action
  stops z M α A e b = row-act (1 + d) kind channel object (λ (α : Act). ActionBelow (1 + d + name_count) α → restricted_action M α A ≡ blocked)
      (λ a k s. input a s) (λ a b k l s t h. output a b s h.0) (λ a k l s. new a s) α e b
    where
      apart : (a : ℕ) → slot_of name_count (1 + d) (suc a) ≡ channel → suc a < 1 + d + name_count → ⊥
      apart a s h = omega (arith, slot-outside name_count d a (omega arith))

      input : (a : ℕ) → slot_of name_count (1 + d) a ≡ channel → a < 1 + d + name_count → restricted_action M (inp_a a) A ≡ blocked
      input zero s h = refl
      input (suc a) s h = absurd (apart a s h)

      output : (a b : ℕ) → slot_of name_count (1 + d) a ≡ channel → a < 1 + d + name_count → restricted_action M (out_a a b) A ≡ blocked
      output zero b s h = refl
      output (suc a) b s h = absurd (apart a s h)

      new : (a : ℕ) → slot_of name_count (1 + d) a ≡ channel → a < 1 + d + name_count → restricted_action M (bout_a a) A ≡ blocked
      new zero s h = refl
      new (suc a) s h = absurd (apart a s h)

  -- it is not
  passes : channel < name_count + d → (M : Cond) (α : Act) (A : Term) → action_of (1 + d) α ≡ row_action (1 + d) kind channel object → ActionBelow (1 + d + name_count) α → Acts d M (restricted_action M α A)
  unfolding ActionBelow restricted_action action_of
  passes z M α A e b = row-act (1 + d) kind channel object (λ (α : Act). ActionBelow (1 + d + name_count) α → Acts d M (restricted_action M α A))
      (λ a k s. input a k s) (λ a b k l s t. output a b k s t) (λ a k l s. new a k (λ e. let m = l e in omega arith) s) α e b
    where
      other : slot_of name_count (1 + d) 0 ≡ channel → ⊥
      other s = omega (arith, slot-restricted name_count d)

      input : (a : ℕ) → kind ≡ 1 → slot_of name_count (1 + d) a ≡ channel → a < 1 + d + name_count → Acts d M (restricted_action M (inp_a a) A)
      input zero k s h = absurd (other s)
      input (suc a) k s h = (inp_a a, res (ren swap A), refl, ap input_on (sym (slot_inner name_count d a) ∙ s) ∙ sym (row-input d kind channel object k), omega arith)

      output : (a b : ℕ) → kind ≡ 2 → slot_of name_count (1 + d) a ≡ channel → slot_of name_count (1 + d) b ≡ object → (a < 1 + d + name_count) × (b < 1 + d + name_count)
          → Acts d M (restricted_action M (out_a a b) A)
      output zero b k s t h = absurd (other s)
      output (suc a) zero k s t h =
          let o : name_count + d ≤ object = omega (arith, slot-restricted name_count d) in
          (bout_a a, A, refl, ap new_output_on (sym (slot_inner name_count d a) ∙ s) ∙ sym (row_new d kind channel object (λ e. omega arith) (λ e. o)), omega (arith, h.0))
      output (suc a) (suc b) k s t h =
          let o : object < name_count + d = omega (arith, slot-outside name_count d b (omega (arith, h.1))) in
          (out_a a b, res A, refl, ap₂ Output (sym (slot_inner name_count d a) ∙ s) (sym (slot_inner name_count d b) ∙ t) ∙ sym (row_output d kind channel object k o), (omega (arith, h.0), omega (arith, h.1)))

      new : (a : ℕ) → (kind ≡ 1 → ⊥) → (kind ≡ 2 → name_count + d ≤ object) → slot_of name_count (1 + d) a ≡ channel → a < 1 + d + name_count → Acts d M (restricted_action M (bout_a a) A)
      new zero k l s h = absurd (other s)
      new (suc a) k l s h = (bout_a a, res (ren swap A), refl, ap new_output_on (sym (slot_inner name_count d a) ∙ s) ∙ sym (row_new d kind channel object k l), omega arith)

-- A candidate without a match above it.
pub plain_step : (d kind channel object : ℕ) (c : Candidate) → kind ≤ 3 → Outlined d c kind channel object → channel < name_count + d → Acts d kind channel object d [] c
unfolding action_kind
plain_step d kind channel object c few O h = go (O.acts h)
  where
    go : ((3 < kind) × (c ≡ blocked)) ⊎ RowActs d kind channel object c → Acts d kind channel object d [] c
    go (inl (m, e)) = absurd (omega arith)
    go (inr D) =
        let t : action_of d D.action ≡ row_action d kind channel object = rw (le-ltb 4 kind (omega arith)) at D.acts in
        (D.action, D.result, D.is ∙ ap (λ (M : Cond). step M D.action D.result) (D.plain few), t, D.below)

blocked-both : (b : Bool) (c : Candidate) → c ≡ blocked → cond b c blocked ≡ blocked
blocked-both true c e = e
blocked-both false c e = refl

module _ (d kind channel object : ℕ) where
  -- its condition may name the restricted name, and then it is blocked
  does_restricted : (c : Candidate) → channel < name_count + d → (D : RowActs (1 + d) kind channel object c) (b : Bool) → restricted_alone D.condition ≡ b
      → ((3 < kind) × (restricted c ≡ blocked)) ⊎ RowActs d kind channel object (restricted c)
  unfolding restricted restricted_alone
  does_restricted c h D true b =
      let (α, A, e, act, below) = passes d (action_kind kind) channel object h (map_p outside D.condition) D.action D.result D.acts D.below in
      inr (record {
        condition = map_p outside D.condition;
        action = α;
        result = A;
        is = ap restricted D.is ∙ ap (λ (t : Bool). cond t (restricted_action (map_p outside D.condition) D.action D.result) blocked) b ∙ e;
        plain = λ few. ap (map_p outside) (D.plain few);
        acts = act;
        below = below;
      })
  does_restricted c h D false b =
      inl (
        more (ltb 3 kind) refl,
        ap restricted D.is ∙ ap (λ (t : Bool). cond t (restricted_action (map_p outside D.condition) D.action D.result) blocked) b,
      )
    where
      more : (t : Bool) → ltb 3 kind ≡ t → 3 < kind
      more true t = ltb-true 3 kind t
      more false t =
          let e : true ≡ false = sym (ap restricted_alone (D.plain (ltb-false 3 kind t))) ∙ b in
          let z : ◌≡◌ {A = ℕ} 0 1 = cc in absurd (omega arith)

  pub outlined_restricted : (c : Candidate) → Outlined (1 + d) c kind channel object → Outlined d (restricted c) kind channel object
  unfolding restricted
  outlined_restricted c O = record {
    known = O.known;
    inner = λ h. go h (ltb channel (name_count + (1 + d))) refl;
    acts = λ h. ⊎_elim (λ p. inl (p.0, ap restricted p.1)) (λ D. does_restricted c h D (restricted_alone D.condition) refl) (O.acts (omega arith));
  }
    where
      stopped : name_count + d ≤ channel → channel < name_count + (1 + d) → RowActs (1 + d) kind channel object c → restricted c ≡ blocked
      stopped h l D =
          ap restricted D.is
          ∙ blocked-both (restricted_alone D.condition) (restricted_action (map_p outside D.condition) D.action D.result)
          (stops d (action_kind kind) channel object (omega arith) (map_p outside D.condition) D.action D.result D.acts D.below)

      go : name_count + d ≤ channel → (t : Bool) → ltb channel (name_count + (1 + d)) ≡ t → restricted c ≡ blocked
      go h true t =
          let l = ltb-true channel (name_count + (1 + d)) t in
          ⊎_elim (λ p. ap restricted p.1) (stopped h l) (O.acts l)
      go h false t = ap restricted (O.inner (ltb-false channel (name_count + (1 + d)) t))

  -- [Par]
  pub outlined_left : (Q : Term) (c : Candidate) → Outlined d c kind channel object → Outlined d (left_steps Q c) kind channel object
  unfolding left_steps
  outlined_left Q c O = record {
    known = O.known;
    inner = λ h. ap (left_steps Q) (O.inner h);
    acts = λ h. ⊎_elim (λ p. inl (p.0, ap (left_steps Q) p.1))
        (λ D. inr (record { condition = D.condition; action = D.action; result = par D.result (weak D.action Q); is = ap (left_steps Q) D.is; plain = D.plain; acts = D.acts; below = D.below }))
        (O.acts h);
  }

  pub outlined_right : (P : Term) (c : Candidate) → Outlined d c kind channel object → Outlined d (right_steps P c) kind channel object
  unfolding right_steps
  outlined_right P c O = record {
    known = O.known;
    inner = λ h. ap (right_steps P) (O.inner h);
    acts = λ h. ⊎_elim (λ p. inl (p.0, ap (right_steps P) p.1))
        (λ D. inr (record { condition = D.condition; action = D.action; result = par (weak D.action P) D.result; is = ap (right_steps P) D.is; plain = D.plain; acts = D.acts; below = D.below }))
        (O.acts h);
  }

  -- [Match]
  outlined_matching : 3 < kind → (a b : ℕ) (c : Candidate) → Outlined d c kind channel object → Outlined d (matching a b c) kind channel object
  unfolding matching
  outlined_matching m a b c O = record {
    known = O.known;
    inner = λ h. ap (matching a b) (O.inner h);
    acts = λ h. ⊎_elim (λ p. inl (p.0, ap (matching a b) p.1))
        (λ D. inr (record { condition = (a, b) ∷ D.condition; action = D.action; result = D.result; is = ap (matching a b) D.is; plain = λ few. absurd (omega arith); acts = D.acts; below = D.below }))
        (O.acts h);
  }

  -- without a match nothing is decided
  plain_fails : {c : Candidate} (D : RowActs d kind channel object c) → fails d D.condition ≡ true → 3 < kind
  unfolding fails
  plain_fails D f = go (ltb 3 kind) refl
    where
      go : (t : Bool) → ltb 3 kind ≡ t → 3 < kind
      go true t = ltb-true 3 kind t
      go false t =
          let e : true ≡ false = sym f ∙ ap (fails d) (D.plain (ltb-false 3 kind t)) in
          let z : ◌≡◌ {A = ℕ} 0 1 = cc in absurd (omega arith)

  plain_form : {c : Candidate} (D : RowActs d kind channel object c) → kind ≤ 3 → canonical D.condition ≡ []
  unfolding canonical matches_below above
  plain_form D few = ap canonical (D.plain few)

  -- What is decided later keeps the action, and blocks a candidate only beneath a match.
  outlined_decided : (c : Candidate) → Outlined d c kind channel object → Outlined d (decided d c) kind channel object
  unfolding decided
  outlined_decided c O = record {
    known = O.known;
    inner = λ h. ap (decided d) (O.inner h);
    acts = λ h. ⊎_elim (λ p. inl (p.0, ap (decided d) p.1)) (λ D.
        subst (λ (c : Candidate). ((3 < kind) × (c ≡ blocked)) ⊎ RowActs d kind channel object c) (sym (ap (decided d) D.is))
        (by-fails d (λ (c : Candidate). ((3 < kind) × (c ≡ blocked)) ⊎ RowActs d kind channel object c) D.condition D.action D.result
        (λ f. inl (plain_fails D f, refl))
        (λ f. inr (record { condition = canonical D.condition; action = D.action; result = D.result; is = refl; plain = plain_form D; acts = D.acts; below = D.below }))))
        (O.acts h);
  }

-- The rows of a list of candidates, behind others.
module _ (rows : List ℕ) (n d : ℕ) where
  -- candidates that add no step
  pub rows-again : (before cs : List Candidate) → ((c : Candidate) → c ∈ cs → Again d c before) → ((j : ℕ) → j < length cs → kind_at rows (n + j) ≡ 4) → RowsBehind before d cs rows n
  unfolding RowsBehind Row
  rows-again before cs m u j h =
      (λ new. absurd (new (u j h)), λ e. again-more d (get_or cs j blocked) before (before ++ take j cs) (λ c i. ∈-left c before (take j cs) i) (m (get_or cs j blocked) (∈_nth cs j blocked h)))

  -- behind more of them
  pub rows_more : (before before' cs : List Candidate) → Among before before' → RowsBehind before d cs rows n → RowsBehind before' d cs rows n
  unfolding RowsBehind
  rows_more before before' cs m r j h = (
    (r j h).0,
    λ e.
        again-more d (get_or cs j blocked) (before ++ take j cs) (before' ++ take j cs)
        (within_either before (take j cs) (before' ++ take j cs) (λ c i. ∈-left c before' (take j cs) (m c i)) (λ c i. ∈_right c before' (take j cs) i))
        ((r j h).1 e),
  )

  abbrev One : Candidate → List Candidate → ℕ → Type 0
  One c cs i = Row d c rows i × (kind_at rows i ≡ 4 → Again d c cs)

  pub rows_append : (before ps qs : List Candidate) → RowsBehind before d ps rows n → RowsBehind (before ++ ps) d qs rows (n + length ps) → RowsBehind before d (ps ++ qs) rows n
  unfolding RowsBehind
  rows_append before ps qs f g j h = go (ltb j (length ps)) refl
    where
      go : (t : Bool) → ltb j (length ps) ≡ t → One (get_or (ps ++ qs) j blocked) (before ++ take j (ps ++ qs)) (n + j)
      go true t =
          let l = ltb-true j (length ps) t in
          let e : take j (ps ++ qs) ≡ take j ps = take-append-le j ps qs (omega arith) in
          rw (get_or-append ps qs blocked j l, e) (f j l)
      go false t =
          let l = ltb-false j (length ps) t in
          let k : ℕ = j - length ps in
          let e : length ps + (j - length ps) ≡ j = omega arith in
          let p : n + length ps + (j - length ps) ≡ n + j = omega arith in
          let c : get_or (ps ++ qs) j blocked ≡ get_or qs (j - length ps) blocked = ap (λ (k : ℕ). get_or (ps ++ qs) k blocked) (sym e) ∙ get_or-append-add ps qs (j - length ps) blocked in
          let b : before ++ take j (ps ++ qs) ≡ (before ++ ps) ++ take (j - length ps) qs =
          ap (λ (k : ℕ). before ++ take k (ps ++ qs)) (sym e) ∙ ap (λ cs. before ++ cs) (take-append-add ps qs (j - length ps)) ∙ sym (append_assoc before ps (take (j - length ps) qs)) in
          subst (λ (c : Candidate). One c (before ++ take j (ps ++ qs)) (n + j)) (sym c)
          (subst (λ (cs : List Candidate). One (get_or qs (j - length ps) blocked) cs (n + j)) (sym b)
          (subst (λ (i : ℕ). One (get_or qs (j - length ps) blocked) ((before ++ ps) ++ take (j - length ps) qs) i) p (g (j - length ps) (omega (arith, length-append ps qs)))))

  -- A rule with one premise, from rows under d₁ restrictions; g is what it makes of a candidate whose matches are decided.
  by_rule : (d₁ : ℕ) (f g : Candidate → Candidate) → ((c : Candidate) → decided d (f c) ≡ g (decided d₁ c)) → g blocked ≡ blocked → (cs : List Candidate)
      → ((j : ℕ) → j < length cs → (c : Candidate) → Outlined d₁ c (kind_at rows (n + j)) (channel_at rows (n + j)) (object_at rows (n + j))
      → Outlined d (g c) (kind_at rows (n + j)) (channel_at rows (n + j)) (object_at rows (n + j)))
      → ((i : ℕ) → get_or (map f cs) i blocked ≡ f (get_or cs i blocked)) → Rows d₁ cs rows n → Rows d (map f cs) rows n
  unfolding RowsBehind Row
  by_rule d₁ f g same none cs keeps nth r j h =
      let l : j < length cs = omega (arith, length-map cs f) in (
        λ new.
            subst (λ (c : Candidate). Outlined d c (kind_at rows (n + j)) (channel_at rows (n + j)) (object_at rows (n + j))) (sym (ap (decided d) (nth j) ∙ same (get_or cs j blocked)))
            (keeps j l (decided d₁ (get_or cs j blocked)) ((r j l).0 new)),
        λ e.
            subst (λ (c : Candidate). Again d c (take j (map f cs))) (sym (nth j))
            (subst (λ (l : List Candidate). Again d (f (get_or cs j blocked)) l) (sym (take-map f j cs)) (again_by d d₁ f g same none (get_or cs j blocked) (take j cs) ((r j l).1 e))),
      )

  pub rows_left : (Q : Term) (cs : List Candidate) → Rows d cs rows n → Rows d (map (left_steps Q) cs) rows n
  unfolding left_steps
  rows_left Q cs = by_rule d (left_steps Q) (left_steps Q) (decided-left d Q) refl cs (λ j h. outlined_left d _ _ _ Q) (nth_left_steps Q cs)

  pub rows_right : (P : Term) (cs : List Candidate) → Rows d cs rows n → Rows d (map (right_steps P) cs) rows n
  unfolding right_steps
  rows_right P cs = by_rule d (right_steps P) (right_steps P) (decided_right d P) refl cs (λ j h. outlined_right d _ _ _ P) (nth_right_steps P cs)

  pub rows-restricted : (cs : List Candidate) → Rows (1 + d) cs rows n → Rows d (map restricted cs) rows n
  unfolding restricted decided
  rows-restricted cs =
      by_rule (1 + d) restricted (λ (c : Candidate). decided d (restricted c)) (decided-restricted d) refl cs
      (λ j h c O. outlined_decided d _ _ _ (restricted c) (outlined_restricted d _ _ _ c O)) (nth_restricted cs)

  -- [Match]
  pub rows-matching : (a b : ℕ) (cs : List Candidate) → Matched (length cs) rows n → Rows d cs rows n → Rows d (map (matching a b) cs) rows n
  unfolding Matched matching decided
  rows-matching a b cs u =
      by_rule d (matching a b) (λ (c : Candidate). decided d (matching a b c)) (decided-matching d a b) refl cs
      (λ j h c O. outlined_decided d _ _ _ (matching a b c) (outlined_matching d _ _ _ (u j h) a b c O)) (nth_matching a b cs)

  -- a match of a name with itself
  pub rows_trivial : (a b : ℕ) → a ≡ b → (before cs : List Candidate) → RowsBehind before d cs rows n → RowsBehind before d (map (matching a b) cs) rows n
  unfolding RowsBehind Row
  rows_trivial a b e before cs r j h =
      let l : j < length cs = omega (arith, length-map cs (matching a b)) in (
        λ new.
            subst (λ (c : Candidate). Outlined d c (kind_at rows (n + j)) (channel_at rows (n + j)) (object_at rows (n + j)))
            (sym (ap (decided d) (nth_matching a b cs j) ∙ decided_trivial d a b e (get_or cs j blocked))) ((r j l).0 new),
        λ f.
            subst (λ (c : Candidate). Again d c (before ++ take j (map (matching a b) cs))) (sym (nth_matching a b cs j))
            (subst (λ (l : List Candidate). Again d (matching a b (get_or cs j blocked)) (before ++ l)) (sym (take-map (matching a b) j cs))
            (again_trivial d a b e (get_or cs j blocked) before (take j cs) ((r j l).1 f))),
      )

-- The rows of a parallel, and those of a restriction.
module _ (body : ℕ → Term) (calls : ℕ) (rows : List ℕ) (n d : ℕ) where
  pub rows-par : (P Q : Term) → Rows d (visible body calls P) rows n → Rows d (visible body calls Q) rows (n + length (visible body calls P)) → Rows d (visible body calls (par P Q)) rows n
  unfolding visible visible_of
  rows-par P Q f g =
      let ps = visible body calls P in
      let qs = visible body calls Q in
      let ls = map (left_steps Q) ps in
      let rs = map (right_steps P) qs in
      rows_append rows n d [] ls rs (rows_left rows n d Q ps f)
      (subst (λ (k : ℕ). RowsBehind ls d rs rows (n + k)) (sym (length-map ps (left_steps Q)))
      (rows_more rows (n + length ps) d [] ls rs (λ c m. absurd m) (rows_right rows (n + length ps) d P qs g)))

  pub rows-res : (P : Term) → Rows (1 + d) (visible body calls P) rows n → Rows d (visible body calls (res P)) rows n
  unfolding visible visible_of
  rows-res P = rows-restricted rows n d (visible body calls P)

-- Rows that are kept.
pub kept-all : (n : ℕ) (rows : List ℕ) → RowsKept n rows rows
unfolding RowsKept
kept-all n rows k h = refl

pub kept_then : (n m : ℕ) (rows rows₁ rows₂ : List ℕ) → n ≤ m → RowsKept n rows rows₁ → RowsKept m rows₁ rows₂ → RowsKept n rows rows₂
unfolding RowsKept
kept_then n m rows rows₁ rows₂ h f g k l = g k (omega arith) ∙ f k l

module _ (m : ℕ) (rows rows' : List ℕ) (kept : RowsKept m rows rows') where
  pub kind_kept : (i : ℕ) → i < m → kind_at rows' i ≡ kind_at rows i
  unfolding RowsKept kind_at
  kind_kept i h = kept (row_bytes * i) (omega arith)

  pub matched-kept : (count n : ℕ) → n + count ≤ m → Matched count rows n → Matched count rows' n
  unfolding Matched
  matched-kept count n h u j l = omega (arith, kind_kept (n + j) (omega arith), u j l)

  pub rows-kept : (before : List Candidate) (d n : ℕ) (cs : List Candidate) → n + length cs ≤ m → RowsBehind before d cs rows n → RowsBehind before d cs rows' n
  unfolding RowsBehind Row RowsKept channel_at object_at
  rows-kept before d n cs h r j l =
      let k = kind_kept (n + j) (omega arith) in
      let a : channel_at rows' (n + j) ≡ channel_at rows (n + j) = kept (row_bytes * (n + j) + 1) (omega arith) in
      let o : object_at rows' (n + j) ≡ object_at rows (n + j) = kept (row_bytes * (n + j) + 2) (omega arith) in (
        λ new.
            subst (λ (k : ℕ). Outlined d (decided d (get_or cs j blocked)) k (channel_at rows' (n + j)) (object_at rows' (n + j))) (sym k)
            (subst (λ (a : ℕ). Outlined d (decided d (get_or cs j blocked)) (kind_at rows (n + j)) a (object_at rows' (n + j))) (sym a)
            (subst (λ (o : ℕ). Outlined d (decided d (get_or cs j blocked)) (kind_at rows (n + j)) (channel_at rows (n + j)) o) (sym o) ((r j l).0 (λ z. new (k ∙ z))))),
        λ e. (r j l).1 (sym k ∙ e),
      )
