-- The walk over the bytes of a term puts the rows of its visible candidates, form by form. Assumes nothing.
use mathlib.Core.Path.{◌≡◌, refl, sym, ap, ap₂, subst, ◌∙◌}
use mathlib.Core.Bool.{Bool, true, false, cond}
use mathlib.Core.List.{List, [], ◌∷◌, ◌++◌, map, append-nil}
use mathlib.Core.Logic.{inr, ⊎_elim}
use Prim.Native.Nat.{ℕ, suc, ◌+◌, ◌-◌, ◌*◌, ◌<◌, ◌≤◌}
use native.Mathlib.Nat.{eq-or-lt_of_le}
use native.Mathlib.Omega.{arith}
use lib.ListN.{length, get_or, set, drop, length-append, length-map, length-set}
use lib.Seq.{get_or-set_same, get_or-set_other}
use lib.Dec.{ltb, eqb}
use borrow.Author.Tests.{ltb-true, ltb-false, lt-ltb, le-ltb, eq-eqb, ne_eqb}
use Rattle.calculus.specs.Abstraction.{Act, inp_a, out_a, bout_a}
use Rattle.calculus.specs.Cond.{canonical, matches_below, above}
use Rattle.calculus.specs.Term.{Term, inp, out, bout, sum, par, res, call, lift, ren}
use Rattle.terms.specs.Answer.{result}
use Rattle.terms.specs.Encoding.{name_byte, encode, InScope}
use Rattle.terms.specs.Limits.{name_count}
use Rattle.terms.specs.Question.{Question, check_of}
use Rattle.terms_bytes.proofs.Stores.{get_d_front}
use Rattle.steps_tallies.specs.Bodies.{BodyIs, OpeningIs, Unopened}
use Rattle.terms.specs.Question.{body_of}
use Rattle.steps_conditions.specs.Labels.{input_on, new_output_on, action_of, ActionBelow}
use Rattle.steps_labels.specs.LabelWalk.{slot_at, HasSlots, ArgumentsIs}
use Rattle.steps_tallies.specs.Candidates.{candidates, OwnNamesIf}
use Rattle.steps_passing.specs.Passing.{MiddleIs}
use Rattle.steps.specs.Raw.{Candidate, step, blocked, matching, left_steps, right_steps, restricted, visible, visible_of, visible_calls}
use Rattle.steps_conditions.specs.Slots.{slot_of}
use Rattle.steps_tallies.specs.Tally.{visible_at, TallyIs}
use Rattle.steps_conditions.specs.declared.action.Action.TheVariants.{Output}
use Rattle.steps_tallies.specs.declared.bodies.Opening.{Opening}
use Rattle.steps_labels.proofs.ArgumentSlots.{slots_lift, slot_read, slots_call}
use Rattle.steps_passing.proofs.CalledPasses.{at_closed, params, at_call}
use Rattle.steps_tallies.proofs.CallLaws.{body_scope, opened-candidates}
use Rattle.steps_tallies.proofs.CandidateForms.{tag, tag_at, only_mat, only_res, only_two, only_prefix}
use Rattle.steps_tallies.proofs.OwnNames.{own-under, own_body}
use Rattle.steps_tallies.proofs.FrontLaws.{stands, behind}
use Rattle.steps_conditions.proofs.SlotLaws.{slot-below}
use Rattle.steps_passing.proofs.TwoSides.{at_left}
use Rattle.steps_passing.proofs.TwoSides as two
use Rattle.steps_equal_branches.specs.Below.{fails, decided}
use Rattle.steps_rows.specs.Rows.{row_bytes, most_rows, kind_at, channel_at, object_at, action_kind, row_action, Outlined, Row, RowsBehind, Rows, Matched, RowsKept, PutRowIs, PutRepeatedIs, sent_slot, prefix_kind, PrefixRowIs, behind_root, root_of, ScanIs}
use Rattle.steps_equal_branches.specs.BranchRows.{is_trivial, Offers, RepeatedIs}
use Rattle.steps_equal_branches.proofs.ChoiceLaws.{trivial_slots, trivial_names, offers_alone, offers_left, offers_beneath, offers_right}
use Rattle.steps_rows.proofs.RowLaws.{row-input, row_output, row_new, rows-again, rows_more, rows_append, rows-matching, rows_trivial, rows-par, rows-res, kind_kept, rows-kept, matched-kept, kept-all, kept_then}

matched-none : (rows : List ℕ) (n : ℕ) → Matched 0 rows n
unfolding Matched
matched-none rows n j h = absurd (omega arith)

matched-both : (rows : List ℕ) (n a b : ℕ) → Matched a rows n → Matched b rows (n + a) → Matched (a + b) rows n
unfolding Matched
matched-both rows n a b f g j h = go (ltb j a) refl
  where
    go : (t : Bool) → ltb j a ≡ t → 3 < kind_at rows (n + j)
    go true t = f j (ltb-true j a t)
    go false t =
        let l = ltb-false j a t in
        let e : n + a + (j - a) ≡ n + j = omega arith in
        subst (λ (i : ℕ). 3 < kind_at rows i) e (g (j - a) (omega arith))

-- How many candidates a restriction, a choice and a parallel have.
module _ (body : ℕ → Term) (calls : ℕ) where
  many-res : (P : Term) → length (visible body calls (res P)) ≡ length (visible body calls P)
  unfolding visible visible_of
  many-res P = length-map (visible body calls P) restricted

  many-sum : (P Q : Term) → length (visible body calls (sum P Q)) ≡ length (visible body calls P) + length (visible body calls Q)
  unfolding visible visible_of
  many-sum P Q = length-append (visible body calls P) (visible body calls Q)

  many-par : (P Q : Term) → length (visible body calls (par P Q)) ≡ length (visible body calls P) + length (visible body calls Q)
  unfolding visible visible_of
  many-par P Q =
      let ps = visible body calls P in
      let qs = visible body calls Q in
      omega (arith, length-append (map (left_steps Q) ps) (map (right_steps P) qs), length-map ps (left_steps Q), length-map qs (right_steps P))

  rows-sum : (rows : List ℕ) (n d : ℕ) (before : List Candidate) (P Q : Term) → RowsBehind before d (visible body calls P) rows n
      → RowsBehind (before ++ visible body calls P) d (visible body calls Q) rows (n + length (visible body calls P))
      → RowsBehind before d (visible body calls (sum P Q)) rows n
  unfolding visible visible_of
  rows-sum rows n d before P Q = rows_append rows n d before (visible body calls P) (visible body calls Q)

-- A row is put, or there is no room for it.
module _ (kind channel object n : ℕ) (rows : List ℕ) where
  pub row_over : most_rows ≤ n → n ≤ most_rows + 1 → PutRowIs kind channel object n rows (most_rows + 1) rows
  row_over h m = record { on = m; inside = omega arith; kept = kept-all n rows; is = λ l. absurd (omega arith) }

  pub row_put : (p : ℕ) → p ≡ row_bytes * n → n < most_rows → row_bytes * most_rows ≤ length rows
      → PutRowIs kind channel object n rows (n + 1) (set (set (set rows p kind) (p + 1) channel) (p + 2) object)
  unfolding RowsKept kind_at channel_at object_at
  row_put p e h m =
      let rows₁ = set rows p kind in
      let rows₂ = set rows₁ (p + 1) channel in
      let l₁ = length-set rows p kind in
      let l₂ = length-set rows₁ (p + 1) channel in
      let other : (k : ℕ) → (k ≡ p + 2 → ⊥) → get_or (set rows₂ (p + 2) object) k 0 ≡ get_or rows₂ k 0 = λ k. get_or-set_other rows₂ (p + 2) k object 0 in
      let other₁ : (k : ℕ) → (k ≡ p + 1 → ⊥) → get_or rows₂ k 0 ≡ get_or rows₁ k 0 = λ k. get_or-set_other rows₁ (p + 1) k channel 0 in
      record {
        on = omega arith;
        inside = omega arith;
        kept = λ k h. other k (λ z. omega arith) ∙ other₁ k (λ z. omega arith) ∙ get_or-set_other rows p k kind 0 (λ z. omega arith);
        is = λ h. (
          refl,
          ap (λ (k : ℕ). get_or (set rows₂ (p + 2) object) k 0) (sym e) ∙ other p (λ z. omega arith) ∙ other₁ p (λ z. omega arith) ∙ get_or-set_same rows p kind 0 (omega arith),
          ap (λ (k : ℕ). get_or (set rows₂ (p + 2) object) (k + 1) 0) (sym e) ∙ other (p + 1) (λ z. omega arith) ∙ get_or-set_same rows₁ (p + 1) channel 0 (omega arith),
          ap (λ (k : ℕ). get_or (set rows₂ (p + 2) object) (k + 2) 0) (sym e) ∙ get_or-set_same rows₂ (p + 2) object 0 (omega arith),
        );
      }

-- So many rows of kind 4.
module _ (n : ℕ) (rows₀ : List ℕ) (below : n ≤ most_rows + 1) where
  pub repeated_start : PutRepeatedIs 0 n rows₀ n rows₀
  repeated_start = record { on = omega arith; inside = below; kept = kept-all n rows₀; is = λ h. (omega arith, λ j l. absurd (omega arith)) }

  pub repeated_more : (i m : ℕ) (rows₁ : List ℕ) → PutRepeatedIs i n rows₀ m rows₁ → (r : ℕ) (rows' : List ℕ) → PutRowIs 4 0 0 m rows₁ r rows' → PutRepeatedIs (i + 1) n rows₀ r rows'
  repeated_more i m rows₁ S r rows' R = record {
    on = let x = S.on in let y = R.on in omega arith;
    inside = R.inside;
    kept = kept_then n m rows₀ rows₁ rows' S.on S.kept R.kept;
    is = λ h.
        let (e, u) = S.is (omega arith) in
        let w = R.is (omega arith) in
        (omega (arith, w.0), λ j l. ⊎_elim (λ z. ap (kind_at rows') (omega arith) ∙ w.1) (λ z. kind_kept m rows₁ rows' R.kept (n + j) (omega arith) ∙ u j z) (eq-or-lt_of_le {n = j} {m = i} (omega arith)));
  }

-- The kind of the row of a prefix.
module _ (t : ℕ) (some : 1 < t) (few : t < 5) where
  prefix_plain : (asked : Bool) → action_kind (prefix_kind t asked) ≡ t - 1
  unfolding action_kind prefix_kind
  prefix_plain true = rw (lt-ltb 4 (t + 3) (omega arith)) (omega arith)
  prefix_plain false = rw (le-ltb 4 (t - 1) (omega arith)) refl

  prefix-new : (asked : Bool) → (0 < prefix_kind t asked) × (prefix_kind t asked ≡ 4 → ⊥)
  unfolding prefix_kind
  prefix-new true = (omega arith, λ e. omega arith)
  prefix-new false = (omega arith, λ e. omega arith)

  prefix-matched : (asked : Bool) → asked ≡ true → 3 < prefix_kind t asked
  unfolding prefix_kind
  prefix-matched true e = omega arith
  prefix-matched false e = let z : ◌≡◌ {A = ℕ} 0 1 = cc in absurd (omega arith)

-- The row of a prefix, by its bytes.
module _ (s : List ℕ) (at : ℕ) (asked : Bool) (args : List ℕ) (inner depth t kind channel object : ℕ) (a : t ≡ get_or s at 0) (f : kind ≡ prefix_kind t asked) (b : channel ≡ slot_at args inner depth (get_or s (at + 1) 0)) (n : ℕ) (rows : List ℕ) (r : ℕ)
    (rows' : List ℕ) (R : PutRowIs kind channel object n rows r rows') where
  prefix-row : object ≡ sent_slot s at args inner depth → PrefixRowIs s at asked args inner depth n rows r rows'
  prefix-row e = rw (← a, ← f, ← b, ← e) R

  pub prefix_sends : t ≡ 3 → object ≡ slot_at args inner depth (get_or s (at + 2) 0) → PrefixRowIs s at asked args inner depth n rows r rows'
  unfolding sent_slot
  prefix_sends z e =
      let k : get_or s at 0 ≡ 3 = sym a ∙ z in
      let o : object ≡ sent_slot s at args inner depth = rw k e in
      prefix-row o

  pub prefix-other : (t ≡ 3 → ⊥) → object ≡ 0 → PrefixRowIs s at asked args inner depth n rows r rows'
  unfolding sent_slot
  prefix-other z e =
      let o : object ≡ sent_slot s at args inner depth = rw (ne_eqb (get_or s at 0) 3 (λ k. z (a ∙ k))) e in
      prefix-row o

-- Where the choice of a side begins.
module _ (t root at : ℕ) where
  root_choice : t ≡ 6 → root_of t root at ≡ root
  unfolding root_of
  root_choice e = simp (eq-eqb t 6 e)

  root_other : (t ≡ 6 → ⊥) → root_of t root at ≡ at
  unfolding root_of
  root_other n = simp (ne_eqb t 6 n)

-- What the choice has before a term stays so without its first piece.
module _ (body : ℕ → Term) (calls : ℕ) (arities : List ℕ) (free D : ℕ) (σ : ℕ → ℕ) (s args : List ℕ) (inner depth : ℕ) (before : List Candidate) where
  offers_behind : (root at next : ℕ) → Offers body calls arities free D σ s args inner depth before root next
      → Offers body calls arities free D σ s args inner depth before (behind_root root at next) next
  unfolding behind_root
  offers_behind root at next o = go (eqb root at)
    where
      go : (b : Bool) → Offers body calls arities free D σ s args inner depth before (cond b next root) next
      go true = offers_alone body calls arities free D σ s args inner depth before next
      go false = o

-- One row.
module _ (d kind channel object : ℕ) (rows : List ℕ) (n : ℕ) (k : kind_at rows n ≡ kind) where
  one_row : channel_at rows n ≡ channel → object_at rows n ≡ object → (kind ≡ 4 → ⊥) → (before : List Candidate) (c : Candidate) → Outlined d (decided d c) kind channel object
      → RowsBehind before d (c ∷ []) rows n
  unfolding RowsBehind Row
  one_row a o once before c O j h =
      let z : j ≡ 0 = omega arith in
      let e : n ≡ n + j = omega arith in (
        λ new.
            subst (λ (i : ℕ). Outlined d (decided d (get_or (c ∷ []) j blocked)) (kind_at rows i) (channel_at rows i) (object_at rows i)) e
            (subst (λ (i : ℕ). Outlined d (decided d (get_or (c ∷ []) i blocked)) (kind_at rows n) (channel_at rows n) (object_at rows n)) (sym z)
            (rw (k, a, o) O)),
        λ f. absurd (once (sym k ∙ ap (kind_at rows) e ∙ f)),
      )

-- The candidate of a visible prefix.
module _ (d kind channel object : ℕ) (α : Act) (A : Term) (some : 0 < kind) (below : channel < name_count + d) (e : action_of d α ≡ row_action d (action_kind kind) channel object) (b : ActionBelow (d + name_count) α) where
  outlined : Outlined d (decided d (step [] α A)) kind channel object
  unfolding decided fails canonical matches_below above
  outlined = record {
    known = some;
    inner = λ h. absurd (omega arith);
    acts = λ h. inr (record { condition = []; action = α; result = A; is = refl; plain = λ _. refl; acts = e; below = b });
  }

module _ (question s : List ℕ) (root at : ℕ) (asked : Bool) (args : List ℕ) (inner depth calls n : ℕ) (rows : List ℕ) where
  abbrev seen : Question → (ℕ → ℕ) → Term → List Candidate
  seen q σ P = visible (body_of q.bodies) calls (ren σ P)

  -- what is to be shown of the candidates of each form
  abbrev Has : List Candidate → ℕ → List ℕ → List Candidate → Type 0
  Has before r rows' cs = (r ≡ n + length cs) × RowsBehind before depth cs rows' n × (asked ≡ true → Matched (length cs) rows' n)

  abbrev Shows : List Candidate → Question → (ℕ → ℕ) → ℕ → List ℕ → Term → Type 0
  Shows before q σ r rows' P = n + length (seen q σ P) ≤ most_rows → Has before r rows' (seen q σ P)

  abbrev Stands : List Candidate → Question → ℕ → ℕ → (ℕ → ℕ) → List ℕ → ℕ → List ℕ → Term → Type 0
  Stands before q free D σ rest r rows' P = InScope free q.arities D P → drop at s ≡ encode D P ++ rest → Shows before q σ r rows' P

  has_none : (before : List Candidate) → Has before n rows []
  unfolding RowsBehind
  has_none before = (omega arith, λ j h. absurd (omega arith), λ e. matched-none rows n)

  -- behind nothing, and so behind anything
  behind-all : (before : List Candidate) (rows' : List ℕ) (cs : List Candidate) → Rows depth cs rows' n → RowsBehind before depth cs rows' n
  behind-all before rows' cs = rows_more rows' n depth [] before cs (λ c m. absurd m)

  -- no term stands past the end
  pub scan_none : n ≤ most_rows + 1 → length s ≤ at → ScanIs question s root at asked args inner depth calls n rows n rows
  scan_none m h = record {
    on = omega arith;
    inside = m;
    kept = kept-all n rows;
    is = λ q free D σ own P rest before ok few has scope st o. let z = stands s at D P rest st in absurd (omega arith);
  }

  -- inaction and the silent prefix
  pub scan_idle : n ≤ most_rows + 1 → get_or s at 0 < 2 → ScanIs question s root at asked args inner depth calls n rows n rows
  unfolding visible visible_of
  scan_idle m g = record {
    on = omega arith;
    inside = m;
    kept = kept-all n rows;
    is = λ q free D σ own P rest before ok few has scope st o.
        let k = tag_at s at D P rest st in
        only_prefix (λ (P : Term). tag P < 2 → Shows before q σ n rows P)
        (λ h l. has_none before) (λ P h l. has_none before) (λ a P h l. absurd (omega arith)) (λ a b P h l. absurd (omega arith)) (λ a P h l. absurd (omega arith))
        P (omega arith) (omega arith);
  }

  module _ (l : 1 < get_or s at 0) (g : get_or s at 0 < 5) (r : ℕ) (rows' : List ℕ) where
    pub scan_prefix : PrefixRowIs s at asked args inner depth n rows r rows' → ScanIs question s root at asked args inner depth calls n rows r rows'
    unfolding visible visible_of InScope encode sent_slot action_of ActionBelow Matched
    scan_prefix R = record {
      on = R.on;
      inside = R.inside;
      kept = R.kept;
      is = λ q free D σ own P rest before ok few has scope st o.
          let read = slot_read free D args inner depth σ few has s at in
          let t = tag_at s at D P rest st in
          let channel = slot_at args inner depth (get_or s (at + 1) 0) in
          let object = sent_slot s at args inner depth in
          let kind = prefix_kind (get_or s at 0) asked in
          let is_plain = prefix_plain (get_or s at 0) l g asked in
          let new = prefix-new (get_or s at 0) l g asked in
          let one : (c : Candidate) → Outlined depth (decided depth c) kind channel object → n + 1 ≤ most_rows → Has before r rows' (c ∷ []) =
          λ c O h.
          let w = R.is (omega arith) in
          (w.0, one_row depth kind channel object rows' n w.1 w.2 w.3 new.1 before c O, λ e j h. first w.1 e j h) in
          only_prefix (λ (P : Term). 1 < tag P → get_or s at 0 ≡ tag P → Stands before q free D σ rest r rows' P)
          (λ h k. absurd (omega arith)) (λ P h k. absurd (omega arith))
          (λ a P h k scope st.
          let u = read 1 a scope.0 (get_d_front s at (encode D (inp a P)) rest 1 st (omega arith)) channel refl in
          one _ (outlined depth kind channel object (inp_a (σ a)) (ren (lift σ) P) new.0 (omega (arith, u.0, slot-below name_count depth (σ a) u.1))
          (ap input_on (sym u.0) ∙ sym (row-input depth (action_kind kind) channel object (omega (arith, is_plain)))) u.1))
          (λ a b P h k scope st.
          let u = read 1 a scope.0 (get_d_front s at (encode D (out a b P)) rest 1 st (omega arith)) channel refl in
          let v = read 2 b scope.1 (get_d_front s at (encode D (out a b P)) rest 2 st (omega arith)) (slot_at args inner depth (get_or s (at + 2) 0)) refl in
          let o : object ≡ slot_of name_count depth (σ b) = rw k v.0 in
          one _ (outlined depth kind channel object (out_a (σ a) (σ b)) (ren σ P) new.0 (omega (arith, u.0, slot-below name_count depth (σ a) u.1))
          (ap₂ Output (sym u.0) (sym o) ∙ sym (row_output depth (action_kind kind) channel object (omega (arith, is_plain)) (omega (arith, slot-below name_count depth (σ b) v.1)))) (u.1, v.1)))
          (λ a P h k scope st.
          let u = read 1 a scope.0 (get_d_front s at (encode D (bout a P)) rest 1 st (omega arith)) channel refl in
          one _ (outlined depth kind channel object (bout_a (σ a)) (ren (lift σ) P) new.0 (omega (arith, u.0, slot-below name_count depth (σ a) u.1))
          (ap new_output_on (sym u.0) ∙ sym (row_new depth (action_kind kind) channel object (λ e. omega (arith, is_plain)) (λ e. absurd (omega (arith, is_plain))))) u.1))
          P (omega arith) (omega arith) t scope st;
    }
      where
        first : kind_at rows' n ≡ prefix_kind (get_or s at 0) asked → asked ≡ true → (j : ℕ) → j < 1 → 3 < kind_at rows' (n + j)
        first k e j h =
            let z : n + j ≡ n = omega arith in
            let m = prefix-matched (get_or s at 0) l g asked e in
            subst (λ (i : ℕ). 3 < kind_at rows' i) (sym z) (rw k m)

  -- a term that adds no step to its choice
  pub scan_again : (get_or s at 0 ≡ 6 → ⊥) → is_trivial s args inner depth at ≡ false → (numbers : List ℕ) → TallyIs question s calls numbers
      → RepeatedIs question s args inner depth root at true → (m : ℕ) → m ≡ visible_at numbers at
      → (r : ℕ) (rows' : List ℕ) → PutRepeatedIs m n rows r rows' → ScanIs question s root at asked args inner depth calls n rows r rows'
  unfolding Matched
  scan_again g t numbers T again m c r rows' R = record {
    on = R.on;
    inside = R.inside;
    kept = R.kept;
    is = λ q free D σ own P rest before ok few has scope st o h.
        let cs = seen q σ P in
        let many : m ≡ length (seen q σ P) = c ∙ (T.is q at free D σ own P rest ok scope st).0 in
        let (e, u) = R.is (omega arith) in
        let u' : (j : ℕ) → j < length (seen q σ P) → kind_at rows' (n + j) ≡ 4 = λ j l. u j (omega arith) in
        (e ∙ ap (λ (k : ℕ). n + k) many, rows-again rows' n depth before cs (again.is q calls free D σ P rest before refl ok few has scope st g t o) u', λ _ j l. omega (arith, u' j l));
  }

  -- [Match] of a name with itself
  pub scan_trivial : is_trivial s args inner depth at ≡ true → (begin : ℕ) → begin ≡ behind_root root at (at + 3) → (r : ℕ) (rows' : List ℕ)
      → ScanIs question s begin (at + 3) asked args inner depth calls n rows r rows' → ScanIs question s root at asked args inner depth calls n rows r rows'
  unfolding visible visible_of InScope encode
  scan_trivial t begin begins r rows' X = record {
    on = X.on;
    inside = X.inside;
    kept = X.kept;
    is = λ q free D σ own P rest before ok few has scope st o. only_mat (Stands before q free D σ rest r rows')
        (λ a b P scope st h.
        let cs = seen q σ P in
        let m : length (map (matching (σ a) (σ b)) cs) ≡ length cs = length-map cs (matching (σ a) (σ b)) in
        let same = trivial_names free D σ s args inner depth few has q.arities a b P at rest scope st t in
        let w = X.is q free D σ own P rest before ok few has scope.2 (behind s at 3 (5 ∷ name_byte D a ∷ name_byte D b ∷ []) (encode D P ++ rest) st refl)
        (subst (λ (i : ℕ). Offers (body_of q.bodies) calls q.arities free D σ s args inner depth before i (at + 3)) (sym begins)
        (offers_behind (body_of q.bodies) calls q.arities free D σ s args inner depth before root at (at + 3)
        (offers_beneath (body_of q.bodies) calls q.arities free D σ s args inner depth before root at o t))) (omega arith) in
        (w.0 ∙ omega arith, rows_trivial rows' n depth (σ a) (σ b) same before cs w.1, λ e. rw m (w.2 e)))
        P (sym (tag_at s at D P rest st) ∙ (trivial_slots s args inner depth at t).0) scope st;
  }

  -- [Match]
  pub scan_mat : get_or s at 0 ≡ 5 → (r : ℕ) (rows' : List ℕ) → ScanIs question s (at + 3) (at + 3) true args inner depth calls n rows r rows' → ScanIs question s root at asked args inner depth calls n rows r rows'
  unfolding visible visible_of InScope encode
  scan_mat g r rows' X = record {
    on = X.on;
    inside = X.inside;
    kept = X.kept;
    is = λ q free D σ own P rest before ok few has scope st o. only_mat (Stands before q free D σ rest r rows')
        (λ a b P scope st h.
        let cs = seen q σ P in
        let m : length (map (matching (σ a) (σ b)) cs) ≡ length cs = length-map cs (matching (σ a) (σ b)) in
        let w = X.is q free D σ own P rest [] ok few has scope.2 (behind s at 3 (5 ∷ name_byte D a ∷ name_byte D b ∷ []) (encode D P ++ rest) st refl) (offers_alone (body_of q.bodies) calls q.arities free D σ s args inner depth [] (at + 3)) (omega arith) in
        let u : Matched (length (map (matching (σ a) (σ b)) cs)) rows' n = rw m (w.2 refl) in
        (w.0 ∙ omega arith, behind-all before rows' _ (rows-matching rows' n depth (σ a) (σ b) cs (w.2 refl) w.1), λ e. u))
        P (sym (tag_at s at D P rest st) ∙ g) scope st;
  }

  -- [Res] and [Open]
  pub scan_res : get_or s at 0 ≡ 8 → (r : ℕ) (rows' : List ℕ) → ScanIs question s (at + 1) (at + 1) asked args (inner + 1) (depth + 1) calls n rows r rows'
      → ScanIs question s root at asked args inner depth calls n rows r rows'
  unfolding InScope encode
  scan_res g r rows' X = record {
    on = X.on;
    inside = X.inside;
    kept = X.kept;
    is = λ q free D σ own P rest before ok few has scope st o. only_res (Stands before q free D σ rest r rows')
        (λ P scope st h.
        let cs = seen q (lift σ) P in
        let d : depth + 1 ≡ 1 + depth = omega arith in
        let m = many-res (body_of q.bodies) calls (ren (lift σ) P) in
        let w = X.is q free (1 + D) (lift σ) (own-under calls σ own) P rest [] ok few (slots_lift free D args inner depth σ few has) scope
        (behind s at 1 (8 ∷ []) (encode (1 + D) P ++ rest) st refl)
        (offers_alone (body_of q.bodies) calls q.arities free (1 + D) (lift σ) s args (inner + 1) (depth + 1) [] (at + 1)) (omega arith) in
        (w.0 ∙ omega arith, behind-all before rows' _ (rows-res (body_of q.bodies) calls rows' n depth (ren (lift σ) P) (subst (λ (d : ℕ). Rows d cs rows' n) d w.1)), λ e. rw m (w.2 e)))
        P (sym (tag_at s at D P rest st) ∙ g) scope st;
  }

  -- A choice or a parallel: the left side's rows, then the right side's.
  module _ (l : 5 < get_or s at 0) (g : get_or s at 0 < 8) (numbers : List ℕ) (T : TallyIs question s calls numbers) (middle : ℕ) (N : MiddleIs s numbers at middle)
      (begin : ℕ) (behinds : begin ≡ behind_root root at (at + 1)) (left : ℕ) (begins : left ≡ root_of (get_or s at 0) begin (at + 1)) (right : ℕ) (begins₂ : right ≡ root_of (get_or s at 0) begin middle) (r₁ : ℕ) (rows₁ : List ℕ)
      (X : ScanIs question s left (at + 1) asked args inner depth calls n rows r₁ rows₁) (r : ℕ) (rows' : List ℕ)
      (Y : ScanIs question s right middle asked args inner depth calls r₁ rows₁ r rows') where
    sides : (q : Question) (free D : ℕ) (σ : ℕ → ℕ) → OwnNamesIf calls σ → (P Q : Term) (rest : List ℕ) (before before₁ before₂ : List Candidate) → check_of question ≡ result q
        → free ≤ name_count → HasSlots free D args inner depth σ → InScope free q.arities D P → InScope free q.arities D Q → drop (at + 1) s ≡ encode D P ++ (encode D Q ++ rest)
        → Offers (body_of q.bodies) calls q.arities free D σ s args inner depth before₁ left (at + 1)
        → Offers (body_of q.bodies) calls q.arities free D σ s args inner depth before₂ right middle
        → (cs : List Candidate) → length cs ≡ length (seen q σ P) + length (seen q σ Q)
        → (RowsBehind before₁ depth (seen q σ P) rows' n → RowsBehind before₂ depth (seen q σ Q) rows' (n + length (seen q σ P)) → RowsBehind before depth cs rows' n)
        → n + length cs ≤ most_rows → Has before r rows' cs
    sides q free D σ own P Q rest before before₁ before₂ ok few has sp sq st o₁ o₂ cs m join h =
        let ps = seen q σ P in
        let qs = seen q σ Q in
        let (e, f, u) = X.is q free D σ own P (encode D Q ++ rest) before₁ ok few has sp st o₁ (omega arith) in
        let (e₂, f₂, u₂) = Y.is q free D σ own Q rest before₂ ok few has sq (two.behind question s calls numbers T at middle N q free D σ own P Q rest ok sp sq st) o₂ (omega arith) in (
          omega arith,
          join (rows-kept r₁ rows₁ rows' Y.kept before₁ depth n ps (omega arith) f) (subst (RowsBehind before₂ depth qs rows') e f₂),
          λ t. rw m (matched-both rows' n (length ps) (length qs) (matched-kept r₁ rows₁ rows' Y.kept (length ps) n (omega arith) (u t)) (subst (Matched (length qs) rows') e (u₂ t))),
        )

    -- before the left side
    ahead : (q : Question) (free D : ℕ) (σ : ℕ → ℕ) (before : List Candidate) → Offers (body_of q.bodies) calls q.arities free D σ s args inner depth before root at
        → get_or s at 0 ≡ 6 → Offers (body_of q.bodies) calls q.arities free D σ s args inner depth before begin (at + 1)
    ahead q free D σ before o t =
        subst (λ (i : ℕ). Offers (body_of q.bodies) calls q.arities free D σ s args inner depth before i (at + 1)) (sym behinds)
        (offers_behind (body_of q.bodies) calls q.arities free D σ s args inner depth before root at (at + 1)
        (offers_left (body_of q.bodies) calls q.arities free D σ s args inner depth before root at o t))

    pub scan_two : ScanIs question s root at asked args inner depth calls n rows r rows'
    unfolding InScope encode
    scan_two = record {
      on = let x = X.on in let y = Y.on in omega arith;
      inside = Y.inside;
      kept = kept_then n r₁ rows rows₁ rows' X.on X.kept Y.kept;
      is = λ q free D σ own P rest before ok few has scope st o.
          let k = tag_at s at D P rest st in
          let body = body_of q.bodies in
          only_two (λ (P : Term). get_or s at 0 ≡ tag P → Stands before q free D σ rest r rows' P)
          (λ P Q t scope st.
          let sl = at_left D s at P Q rest 6 st in
          let m = two.middle_is question s calls numbers T at middle N q free D σ own P Q rest ok scope.0 scope.1 sl in
          sides q free D σ own P Q rest before before (before ++ seen q σ P) ok few has scope.0 scope.1 sl
          (subst (λ (i : ℕ). Offers body calls q.arities free D σ s args inner depth before i (at + 1)) (sym (begins ∙ root_choice (get_or s at 0) begin (at + 1) t)) (ahead q free D σ before o t))
          (subst (λ (i : ℕ). Offers body calls q.arities free D σ s args inner depth (before ++ seen q σ P) i middle) (sym (begins₂ ∙ root_choice (get_or s at 0) begin middle t))
          (offers_right body calls q.arities free D σ s args inner depth few has before begin (at + 1) (ahead q free D σ before o t) P (encode D Q ++ rest) scope.0 sl middle m))
          _ (many-sum body calls (ren σ P) (ren σ Q)) (rows-sum body calls rows' n depth before (ren σ P) (ren σ Q)))
          (λ P Q t scope st.
          sides q free D σ own P Q rest before [] [] ok few has scope.0 scope.1 (at_left D s at P Q rest 7 st)
          (subst (λ (i : ℕ). Offers body calls q.arities free D σ s args inner depth [] i (at + 1)) (sym (begins ∙ root_other (get_or s at 0) begin (at + 1) (λ z. omega arith)))
          (offers_alone body calls q.arities free D σ s args inner depth [] (at + 1)))
          (subst (λ (i : ℕ). Offers body calls q.arities free D σ s args inner depth [] i middle) (sym (begins₂ ∙ root_other (get_or s at 0) begin middle (λ z. omega arith)))
          (offers_alone body calls q.arities free D σ s args inner depth [] middle))
          _ (many-par body calls (ren σ P) (ren σ Q)) (λ f g. behind-all before rows' _ (rows-par body calls rows' n depth (ren σ P) (ren σ Q) f g)))
          P (omega arith) (omega arith) k scope st;
    }

  -- no call is left to open, or the question is not accepted
  pub scan_closed : 8 < get_or s at 0 → Unopened question s at calls → n ≤ most_rows + 1 → ScanIs question s root at asked args inner depth calls n rows n rows
  unfolding visible visible_of visible_calls
  scan_closed g U m = record {
    on = omega arith;
    inside = m;
    kept = kept-all n rows;
    is = λ q free D σ own P rest before ok few has scope st _.
        at_closed question s at D calls false 0 g U (Shows before q σ n rows) q free P rest ok scope st
        (λ xs z h. subst (λ (c : ℕ). Has before n rows (visible (body_of q.bodies) c (call (get_or s (at + 1) 0) (map σ xs)))) (sym z) (has_none before));
  }

  -- [Con]
  module _ (g : 8 < get_or s at 0) (o : Opening) (O : OpeningIs question s at calls o) where
    -- the call's names do not all stand there
    pub scan_cut : n ≤ most_rows + 1 → length s < o.end → ScanIs question s root at asked args inner depth calls n rows n rows
    unfolding encode
    scan_cut m h = record {
      on = omega arith;
      inside = m;
      kept = kept-all n rows;
      is = λ q free D σ own P rest before ok few has scope st _.
          at_call question s at D calls false 0 g o.definition o.arity O.called.definition O.called.arity (λ (P : Term). at + length (encode D P) ≤ length s → Shows before q σ n rows P)
          q free P rest ok scope st (λ xs m a k names st whole. absurd (omega (arith, O.called.end, length-map xs (name_byte D)))) (stands s at D P rest st).1;
    }

    pub scan_called : 0 < calls → calls ≤ 1 → (bytes : List ℕ) → BodyIs question o.definition bytes → (given : List ℕ) → ArgumentsIs s (at + 2) o.arity args inner depth given
        → (r : ℕ) (rows' : List ℕ) → ScanIs question bytes 0 0 asked given 0 depth (calls - 1) n rows r rows' → ScanIs question s root at asked args inner depth calls n rows r rows'
    unfolding candidates
    scan_called z once bytes B given G r rows' X = record {
      on = X.on;
      inside = X.inside;
      kept = X.kept;
      is = λ q free D σ own P rest before ok few has scope st _.
          let body = body_of q.bodies in
          let k = o.definition in
          let m = o.arity in
          let more : calls ≡ suc (calls - 1) = omega arith in
          at_call question s at D calls false 0 g k m O.called.definition O.called.arity (Shows before q σ r rows') q free P rest ok scope st
          (λ xs e a j names st.
          subst (λ (l : List Candidate). n + length l ≤ most_rows → Has before r rows' l) (sym (opened-candidates question q ok k calls (calls - 1) once more false (map σ xs)))
          (λ h.
          let w = X.is q 0 m (params σ xs) (own_body calls (params σ xs) once) (body k) [] [] ok (omega arith) (slots_call free D args inner depth σ few has s (at + 2) xs rest m given names st e G)
          (subst (λ (n : ℕ). InScope 0 q.arities n (body k)) (sym a) (body_scope question q ok k))
          (B.is q ok j ∙ ap (λ (n : ℕ). encode n (body k)) (sym a) ∙ sym (append-nil (encode m (body k))))
          (offers_alone body (calls - 1) q.arities 0 m (params σ xs) bytes given 0 depth [] 0) h in
          (w.0, behind-all before rows' _ w.1, w.2)));
    }
