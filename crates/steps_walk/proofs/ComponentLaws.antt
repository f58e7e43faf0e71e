-- The candidates of a component that stands in a part, put into the list by their rows and their numbers. Assumes nothing.
use borrow.Author.Tests.{eqb-true, eqb-false, leb-true, leb-false}
use mathlib.Core.Bool.{Bool, true, false, cond, ◌&&◌}
use mathlib.Core.List.{List, [], ◌∷◌, map}
use mathlib.Core.Path.{◌≡◌, refl, sym, ◌∙◌, ap, subst}
use native.Mathlib.Omega.{arith}
use Prim.Native.Nat.{ℕ, suc, ◌+◌, ◌-◌, ◌<◌, ◌≤◌}
use lib.Dec.{eqb, leb}
use lib.ListN.{length, get_or, take, length-map}
use Rattle.calculus.specs.Abstraction.{Act, tau_a, out_a}
use Rattle.calculus.specs.Cond.{cls}
use Rattle.calculus.specs.Term.{Term, res}
use Rattle.calculus.proofs.Renaming.{ren_id}
use Rattle.terms.specs.Limits.{name_count}
use Rattle.terms.specs.Question.{Question}
use Rattle.terms.proofs.Answers.{both_true}
use Rattle.steps_conditions.specs.Labels.{action_of}
use Rattle.terms.specs.Question.{body_of}
use Rattle.steps_conditions.specs.Names.{OwnNames}
use Rattle.steps_tallies.specs.Candidates.{candidates}
use Rattle.steps.specs.Raw.{Candidate, step, blocked, left_steps, right_steps, restricted_alone, restricted_action, restricted, visible, silent}
use Rattle.steps_tallies.specs.Tally.{silent_at, TallyIs}
use Rattle.calculus.proofs.Membership.{take-map}
use Rattle.steps_tallies.proofs.OwnNames.{own_part}
use Rattle.steps_tallies.proofs.Numbering.{nth_by}
use Rattle.steps_splicing.specs.Collecting.{PutIs, CollectIs}
use Rattle.steps_splicing.specs.Contexts.{Frame, left_of, right_of, beneath, raised, restrictions, Placed, level_in}
use Rattle.steps_placing.specs.Deciding.{decided, Again}
use Rattle.steps.specs.Limits.{most_steps}
use Rattle.steps_splicing.specs.ListedParts.{Lists}
use Rattle.steps_placing.specs.Taking.{candidates_of, TakeIs}
use Rattle.steps_rows.specs.Rows.{kind_at, channel_at, object_at, row_action, Outlined, Row, RowsBehind, Rows, Unconditional, UnconditionalIs}
use Rattle.steps_walk.specs.Walking.{row_opens, row_object, TakeRowIs, TakeRowsIs, TakeSilentIs}
use Rattle.steps_splicing.specs.PlacedResults.{Unopened, Trivial}
use Rattle.steps_entries.specs.StepActions.{step_action}
use Rattle.steps_placing.specs.Placing.{PutPlacedIs, PutClassedIs}
use Rattle.steps_entries.specs.declared.listed.ActionBytes.{ActionBytes}
use Rattle.steps_placing.proofs.CollectLaws.{put-blocked, Progresses, progress_start, progress_step, progress_again, progress_done, progress_passed}
use Rattle.steps_splicing.proofs.ContextLaws.{raised-blocked, placed-bytes}
use Rattle.steps_placing.proofs.DecidingLaws.{decided-raised, Like, decided-step, like_of, outside-blocked, like_trivial, like_action, again-raised}
use Rattle.steps_rows.proofs.RowLaws.{row-act, plain_step, outlined_left, outlined_right, outlined_restricted}
use Rattle.steps_entries.proofs.StepEntries.{slot-name, same_action}

-- A row serves outside all restrictions.
outlined_raised : (K : List Frame) (c : Candidate) (kind channel object : ℕ) → Outlined (restrictions K) c kind channel object
    → Outlined 0 (raised K c) kind channel object
unfolding raised level_in
outlined_raised [] c k a o h = h
outlined_raised (left_of Q ∷ K) c k a o h = outlined_raised K (left_steps Q c) k a o (outlined_left (restrictions K) k a o Q c h)
outlined_raised (right_of P ∷ K) c k a o h = outlined_raised K (right_steps P c) k a o (outlined_right (restrictions K) k a o P c h)
outlined_raised (beneath ∷ K) c k a o h =
    let e : suc (restrictions K) ≡ 1 + restrictions K = omega arith in
    outlined_raised K (restricted c) k a o (outlined_restricted (restrictions K) k a o c (subst (λ (d : ℕ). Outlined d c k a o) e h))

-- A silent step without a condition stays one.
raised-silent : (K : List Frame) (A : Term) → (B : Term) × (raised K (step [] tau_a A) ≡ step [] tau_a B)
unfolding raised left_steps right_steps restricted restricted_alone restricted_action
raised-silent [] A = (A, refl)
raised-silent (left_of Q ∷ K) A = raised-silent K _
raised-silent (right_of P ∷ K) A = raised-silent K _
raised-silent (beneath ∷ K) A = raised-silent K (res A)

trivial : Trivial []
unfolding Trivial cls
trivial n = refl

-- The bytes of an action by its row.
module _ (x kind channel object : ℕ) (α : Act) (e : action_of 0 α ≡ row_action 0 kind channel object) where
  abbrev bytes_of : ℕ → ℕ → ℕ → ActionBytes
  bytes_of k a o = record { kind = k; channel = a; object = o }

  bytes_bound : kind ≤ 3 → (kind ≡ 0 → ⊥) → (kind ≡ 2 → ⊥) → bytes_of kind channel x ≡ step_action x [] α
  unfolding step_action cls
  bytes_bound k n m =
      row-act 0 kind channel object (λ β. bytes_of kind channel x ≡ step_action x [] β)
      (λ a h s. let t = slot-name name_count a in cc) (λ a b h l s t. absurd (m h))
      (λ a h l s. let t = slot-name name_count a in let three : kind ≡ 3 = omega arith in cc) α e

  bytes_free : kind ≡ 2 → object < name_count → bytes_of kind channel object ≡ step_action x [] α
  unfolding step_action cls
  bytes_free k n =
      row-act 0 kind channel object (λ β. bytes_of kind channel object ≡ step_action x [] β)
      (λ a h s. absurd (omega arith)) (λ a b h l s t. let u = slot-name name_count a in let v = slot-name name_count b in cc)
      (λ a h l s. let z = l k in absurd (omega arith)) α e

  bytes-new : kind ≡ 2 → name_count ≤ object → bytes_of 3 channel x ≡ step_action x [] α
  unfolding step_action cls
  bytes-new k n =
      row-act 0 kind channel object (λ β. bytes_of 3 channel x ≡ step_action x [] β)
      (λ a h s. absurd (omega arith)) (λ a b h l s t. absurd (omega arith))
      (λ a h l s. let u = slot-name name_count a in cc) α e

  -- [Open] has not applied to an action that has this row further in.
  unopened : (kind ≡ 2 → object < name_count) → (d : ℕ) (β : Act) → action_of d β ≡ row_action d kind channel object → Unopened β α
  unfolding Unopened
  unopened n d =
      row-act d kind channel object (λ β. Unopened β α) (λ a h s. tt)
      (λ a b h l s t. row-act 0 kind channel object (λ γ. Unopened (out_a a b) γ) (λ c k u. absurd (omega arith)) (λ c f k m u v. tt)
      (λ c k m u. let z = n h in let y = m h in absurd (omega arith)) α e)
      (λ a h l s. tt)

-- A visible candidate by its row.
module _ (question part : List ℕ) (at depth : ℕ) (rows : List ℕ) (first j x : ℕ) (area : List ℕ) (count : ℕ) where
  abbrev Takes : ℕ → List ℕ → Type 0
  Takes r area' = TakeRowIs question part at depth rows first j x area count r area'

  pub row-taken : (kind_at rows (first + j) ≡ 4 → ⊥) → (r : ℕ) (area' : List ℕ) → TakeIs question part false (first + j) x area count r area' → Takes r area'
  unfolding TakeIs candidates_of candidates
  row-taken new r area' take = record {
    is = λ q P l K C number p h _ row.
        subst (λ c. PutIs c x area count r area') (p.visibly.is j h) (take q P l (omega (arith, p.visibly.inside)));
    over = λ e. absurd (new e);
  }

  -- one that adds no step
  pub row-again : kind_at rows (first + j) ≡ 4 → Takes count area
  row-again e = record { is = λ q P l K C number p h new row. absurd (new e); over = λ _. (refl, refl) }

  module _ (kind channel object : ℕ) (at-kind : kind ≡ kind_at rows (first + j)) (at-channel : channel ≡ channel_at rows (first + j))
      (at-object : object ≡ object_at rows (first + j)) (new : kind ≡ 4 → ⊥) where
    inside : (c : Candidate) → Row depth c rows (first + j) → Outlined depth (decided depth c) kind channel object
    unfolding Row
    inside c row =
        subst (λ k. Outlined depth (decided depth c) k channel object) (sym at-kind)
        (subst (λ a. Outlined depth (decided depth c) (kind_at rows (first + j)) a object) (sym at-channel)
        (subst (λ o. Outlined depth (decided depth c) (kind_at rows (first + j)) (channel_at rows (first + j)) o) (sym at-object) (row (λ e. new (at-kind ∙ e)))))

    outside : (K : List Frame) (c : Candidate) → restrictions K ≡ depth → Row depth c rows (first + j) → Outlined 0 (raised K (decided depth c)) kind channel object
    outside K c e row =
        outlined_raised K (decided depth c) kind channel object (subst (λ (d : ℕ). Outlined d (decided depth c) kind channel object) (sym e) (inside c row))

    pub row-blocked : name_count ≤ channel → count ≤ most_steps → Takes count area
    unfolding PutIs decided
    row-blocked h few = record {
      over = λ e. absurd (new (at-kind ∙ e));
      is = λ q P l K C number p _ _ row.
          let c = get_or (visible (body_of q.bodies) 1 C) j blocked in
          let e : raised K c ≡ blocked = outside-blocked (raised K c) (decided-raised K depth p.level c ∙ ap (decided 0) ((outside K c p.level row).inner (omega arith))) in
          subst (λ d. PutIs d x area count count area) (sym e) (λ found s. put-blocked area x count found s few);
    }

    module _ (free : channel < name_count) (few : kind ≤ 3) (r : ℕ) (area' : List ℕ) where
      -- what the candidate is raised to
      record Taken (K : List Frame) (c : Candidate) : Type 0 where
        action : Act
        result : Term
        acts : action_of 0 action ≡ row_action 0 kind channel object
        like : Like (raised K c) [] action result

      taken : (K : List Frame) (c : Candidate) → restrictions K ≡ depth → Row depth c rows (first + j) → Taken K c
      taken K c level row =
          let (α, A, e, a, b) = plain_step 0 kind channel object (raised K (decided depth c)) few (outside K c level row) (omega arith) in
          record { action = α; result = A; acts = a; like = like_of (raised K c) [] α A (decided-raised K depth level c ∙ ap (decided 0) e) }

      placed : (kind ≡ 2 → object < name_count) → (action : ActionBytes)
          → (0 < kind → (α : Act) → action_of 0 α ≡ row_action 0 kind channel object → action ≡ step_action x [] α)
          → PutPlacedIs question part at depth first false j action x area count r area' → Takes r area'
      unfolding candidates
      placed m action same put = record {
        over = λ e. absurd (new (at-kind ∙ e));
        is = λ q P l K C number p h _ row.
            let c = get_or (visible (body_of q.bodies) 1 C) j blocked in
            let t = taken K c p.level row in
            let M = t.like.condition in
            let (β, B, d, f, g) = plain_step depth kind channel object (decided depth c) few (inside c row) (omega arith) in
            let own = decided-step depth c [] β B d in
            subst (λ t. PutIs t x area count r area') (sym t.like.is)
            (put.is q P l K C first number M t.action t.result
            (record {
              placed = p;
              condition = own.condition;
              action = β;
              result = B;
              own = own.is;
              is = ap (raised K) (sym own.is) ∙ t.like.is;
              unopened = unopened x kind channel object t.action t.acts m depth β f;
            }) refl (like_trivial M [] t.like.same trivial) (same (inside c row).known t.action t.acts ∙ like_action x [] M (sym t.like.same) t.action));
      }

      pub row-placed : row_opens kind object ≡ false → (o : ℕ) → o ≡ row_object kind object x
          → PutPlacedIs question part at depth first false j (record { kind = kind; channel = channel; object = o }) x area count r area'
          → Takes r area'
      unfolding row_opens row_object
      row-placed = go (eqb kind 2) refl
        where
          go : (b : Bool) → eqb kind 2 ≡ b → b && leb name_count object ≡ false → (o : ℕ) → o ≡ cond b object x
              → PutPlacedIs question part at depth first false j (record { kind = kind; channel = channel; object = o }) x area count r area' → Takes r area'
          go true e n o d put =
              let m = leb-false name_count object n in
              placed (λ _. m) _ (λ some α a. same_action kind refl d ∙ bytes_free x kind channel object α a (eqb-true kind 2 e) m) put
          go false e n o d put =
              let m = eqb-false kind 2 e in
              placed (λ z. absurd (m z)) _ (λ some α a. same_action kind refl d ∙ bytes_bound x kind channel object α a few (λ z. omega arith) m) put

      pub row_opened : row_opens kind object ≡ true → (class : List ℕ) → OwnNames 0 class
          → PutClassedIs question part false (first + j) class (record { kind = 3; channel = channel; object = x }) x area count r area' → Takes r area'
      unfolding candidates_of candidates row_opens OwnNames Trivial
      row_opened n class apart put =
          let (m, k) = both_true (eqb kind 2) (leb name_count object) n in
          record {
            over = λ e. absurd (new (at-kind ∙ e));
            is = λ q P l K C number p h _ row.
                let t = taken K (get_or (visible (body_of q.bodies) 1 C) j blocked) p.level row in
                let M = t.like.condition in
                subst (λ t. PutIs t x area count r area') (sym t.like.is)
                (put.is q P l M t.action t.result (p.visibly.is j h ∙ t.like.is) (λ n h. apart n (omega arith) ∙ sym (like_trivial M [] t.like.same trivial n))
                (bytes-new x kind channel object t.action t.acts (eqb-true kind 2 m) (leb-true name_count object k) ∙ like_action x [] M (sym t.like.same) t.action));
          }

nth_raised : (K : List Frame) (cs : List Candidate) (j : ℕ) → get_or (map (raised K) cs) j blocked ≡ raised K (get_or cs j blocked)
nth_raised K cs j = nth_by (raised K) (raised-blocked K) cs j

-- The candidates cs, raised, of which the first j have been put into the list.
module _ (K : List Frame) (cs : List Candidate) (x : ℕ) (area₀ : List ℕ) (count₀ j n m : ℕ) (area area' : List ℕ) (inside : j < length cs)
    (going : Progresses (map (raised K) cs) x area₀ count₀ j n area) (put : PutIs (raised K (get_or cs j blocked)) x area n m area') where
  in_raised : j < length (map (raised K) cs)
  in_raised = omega (arith, length-map cs (raised K))

  put-raised : PutIs (get_or (map (raised K) cs) j blocked) x area n m area'
  put-raised = subst (λ c. PutIs c x area n m area') (sym (nth_raised K cs j)) put

  raised-step : m ≤ most_steps → Progresses (map (raised K) cs) x area₀ count₀ (j + 1) m area'
  raised-step h = progress_step (map (raised K) cs) x area₀ count₀ j n m area area' in_raised going put-raised h

  raised-passed : most_steps < m → CollectIs (map (raised K) cs) x area₀ count₀ m area'
  raised-passed h = progress_passed (map (raised K) cs) x area₀ count₀ j n m area area' in_raised going put-raised h

-- The visible candidates one by one.
module _ (question part : List ℕ) (at depth : ℕ) (rows : List ℕ) (first last x : ℕ) (area₀ : List ℕ) (count₀ : ℕ) where
  abbrev pub RowsGo : ℕ → ℕ → List ℕ → Type 0
  RowsGo j n area =
      (q : Question) (P : Term) → Lists question part x q P → (K : List Frame) (C : Term) (number : ℕ)
      → Placed q.arities (body_of q.bodies) P K C at depth first number
      → last ≡ first + length (visible (body_of q.bodies) 1 C) → Rows depth (visible (body_of q.bodies) 1 C) rows first
      → Progresses (map (raised K) (visible (body_of q.bodies) 1 C)) x area₀ count₀ j n area

  pub rows_start : RowsGo 0 count₀ area₀
  rows_start q P l K C number p e R = progress_start (map (raised K) (visible (body_of q.bodies) 1 C)) x area₀ count₀

  module _ (j n : ℕ) (area : List ℕ) (go : RowsGo j n area) where
    pub rows_done : last - first ≤ j → n ≤ most_steps → TakeRowsIs question part at depth rows first last x area₀ count₀ n area
    rows_done h few = record {
      is = λ q P l K C number p e R.
          let vs = visible (body_of q.bodies) 1 C in
          progress_done (map (raised K) vs) x area₀ count₀ j n area (omega (arith, length-map vs (raised K))) few (go q P l K C number p e R);
    }

    module _ (inside : j < last - first) (m : ℕ) (area' : List ℕ) (put : TakeRowIs question part at depth rows first j x area n m area') where
      module _ (q : Question) (P : Term) (l : Lists question part x q P) (K : List Frame) (C : Term) (number : ℕ)
          (p : Placed q.arities (body_of q.bodies) P K C at depth first number) (e : last ≡ first + length (visible (body_of q.bodies) 1 C))
          (R : Rows depth (visible (body_of q.bodies) 1 C) rows first) where
        abbrev vs : List Candidate
        vs = visible (body_of q.bodies) 1 C

        one : (kind_at rows (first + j) ≡ 4 → ⊥) → PutIs (raised K (get_or vs j blocked)) x area n m area'
        unfolding RowsBehind
        one new = put.is q P l K C number p (omega arith) new (R j (omega arith)).0

        earlier : kind_at rows (first + j) ≡ 4 → Again 0 (get_or (map (raised K) vs) j blocked) (take j (map (raised K) vs))
        unfolding RowsBehind
        earlier f =
            subst (λ c. Again 0 c (take j (map (raised K) vs))) (sym (nth_raised K vs j))
            (subst (λ cs. Again 0 (raised K (get_or vs j blocked)) cs) (sym (take-map (raised K) j vs))
            (again-raised K depth p.level (get_or vs j blocked) (take j vs) ((R j (omega arith)).1 f)))

      pub rows_next : m ≤ most_steps → RowsGo (j + 1) m area'
      rows_next h q P l K C number p e R = test (eqb (kind_at rows (first + j)) 4) refl
        where
          test : (b : Bool) → eqb (kind_at rows (first + j)) 4 ≡ b → Progresses (map (raised K) (visible (body_of q.bodies) 1 C)) x area₀ count₀ (j + 1) m area'
          test true b =
              let f = eqb-true (kind_at rows (first + j)) 4 b in
              let (d, a) = put.over f in
              let cs = map (raised K) (visible (body_of q.bodies) 1 C) in
              subst (λ k. Progresses cs x area₀ count₀ (j + 1) k area') (sym d)
              (subst (Progresses cs x area₀ count₀ (j + 1) n) (sym a)
              (progress_again cs x area₀ count₀ j n area (omega (arith, length-map (visible (body_of q.bodies) 1 C) (raised K))) (earlier q P l K C number p e R f) (go q P l K C number p e R)))
          test false b =
              raised-step K (visible (body_of q.bodies) 1 C) x area₀ count₀ j n m area area' (omega arith) (go q P l K C number p e R)
              (one q P l K C number p e R (eqb-false (kind_at rows (first + j)) 4 b)) h

      pub rows-passed : n ≤ most_steps → most_steps < m → TakeRowsIs question part at depth rows first last x area₀ count₀ m area'
      rows-passed few h = record {
        is = λ q P l K C number p e R.
            raised-passed K (visible (body_of q.bodies) 1 C) x area₀ count₀ j n m area area' (omega arith) (go q P l K C number p e R)
            (one q P l K C number p e R (λ f. let (d, a) = put.over f in omega arith)) h;
      }

-- The silent candidates: how many they are,
pub silent_count : (question part tally : List ℕ) → TallyIs question part 1 tally → (x : ℕ) (q : Question) (P : Term) → Lists question part x q P
    → (K : List Frame) (C : Term) (at depth first number : ℕ) → Placed q.arities (body_of q.bodies) P K C at depth first number
    → silent_at tally at ≡ length (silent (body_of q.bodies) 1 C)
silent_count question part tally T x q P l K C at depth first number p =
    (T.is q at name_count depth (λ n. n) (own_part 1) C _ l.accepted p.scope (placed-bytes l p)).1
    ∙ ap (λ (Q : Term). length (silent (body_of q.bodies) 1 Q)) (ren_id C)

-- and one of them, without a condition or by its number.
module _ (question part : List ℕ) (at depth number j x : ℕ) (area : List ℕ) (n m : ℕ) (area' : List ℕ) where
  abbrev pub OneSilent : Type 0
  OneSilent =
      (q : Question) (P : Term) → Lists question part x q P → (K : List Frame) (C : Term) (first : ℕ)
      → Placed q.arities (body_of q.bodies) P K C at depth first number → j < length (silent (body_of q.bodies) 1 C)
      → PutIs (raised K (get_or (silent (body_of q.bodies) 1 C) j blocked)) x area n m area'

  pub silent-placed : UnconditionalIs question part at 1 true
      → PutPlacedIs question part at depth number true j (record { kind = 0; channel = 0; object = 0 }) x area n m area' → OneSilent
  unfolding Unconditional candidates step_action Unopened
  silent-placed unconditional put q P l K C first p h =
      let cs : List Candidate = silent (body_of q.bodies) 1 C in
      let plain : Unconditional cs =
      subst (λ (Q : Term). Unconditional (silent (body_of q.bodies) 1 Q)) (ren_id C)
      (unconditional.is q name_count depth (λ n. n) (own_part 1) C _ refl l.accepted p.scope (placed-bytes l p)) in
      let (A, e) = plain j h in
      let (B, d) = raised-silent K A in
      subst (λ c. PutIs c x area n m area') (sym (ap (raised K) e ∙ d))
      (put.is q P l K C first number [] tau_a B
      (record { placed = p; condition = []; action = tau_a; result = A; own = e; is = d; unopened = tt }) refl trivial refl)

  pub silent-taken : TakeIs question part true (number + j) x area n m area' → OneSilent
  unfolding TakeIs candidates_of candidates
  silent-taken take q P l K C first p h =
      subst (λ c. PutIs c x area n m area') (p.silently.is j h) (take q P l (omega (arith, p.silently.inside)))

-- All of them, one by one.
module _ (question part : List ℕ) (at depth number x : ℕ) (area₀ : List ℕ) (count₀ : ℕ) where
  abbrev pub SilentGo : ℕ → ℕ → List ℕ → Type 0
  SilentGo j n area =
      (q : Question) (P : Term) → Lists question part x q P → (K : List Frame) (C : Term) (first : ℕ)
      → Placed q.arities (body_of q.bodies) P K C at depth first number
      → Progresses (map (raised K) (silent (body_of q.bodies) 1 C)) x area₀ count₀ j n area

  pub silent-start : SilentGo 0 count₀ area₀
  silent-start q P l K C first p = progress_start (map (raised K) (silent (body_of q.bodies) 1 C)) x area₀ count₀

  module _ (tally : List ℕ) (T : TallyIs question part 1 tally) (j n : ℕ) (area : List ℕ) (go : SilentGo j n area) where
    pub silent_done : silent_at tally at ≤ j → n ≤ most_steps → TakeSilentIs question part at depth number x area₀ count₀ n area
    silent_done h few = record {
      is = λ q P l K C first p.
          let cs = silent (body_of q.bodies) 1 C in
          progress_done (map (raised K) cs) x area₀ count₀ j n area
          (omega (arith, length-map cs (raised K), silent_count question part tally T x q P l K C at depth first number p)) few (go q P l K C first p);
    }

    module _ (inside : j < silent_at tally at) (m : ℕ) (area' : List ℕ) (put : OneSilent question part at depth number j x area n m area') where
      pub silent_next : m ≤ most_steps → SilentGo (j + 1) m area'
      silent_next h q P l K C first p =
          let k = silent_count question part tally T x q P l K C at depth first number p in
          raised-step K (silent (body_of q.bodies) 1 C) x area₀ count₀ j n m area area' (omega arith) (go q P l K C first p)
          (put q P l K C first p (omega arith)) h

      pub silent-passed : most_steps < m → TakeSilentIs question part at depth number x area₀ count₀ m area'
      silent-passed h = record {
        is = λ q P l K C first p.
            let k = silent_count question part tally T x q P l K C at depth first number p in
            raised-passed K (silent (body_of q.bodies) 1 C) x area₀ count₀ j n m area area' (omega arith) (go q P l K C first p)
            (put q P l K C first p (omega arith)) h;
      }
