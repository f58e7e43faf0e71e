-- One communication put into the list, by whichever way the rows of its two candidates leave. Assumes nothing.
use borrow.Author.Tests.{ltb-true, ltb-false, le-ltb}
use mathlib.Core.Bool.{Bool, true, false, cond, not}
use mathlib.Core.List.{List, [], ◌∷◌}
use mathlib.Core.Logic.{◌⊎◌, inl, inr, ⊎_elim}
use mathlib.Core.Path.{◌≡◌, refl, sym, ◌∙◌, ap, subst}
use native.Mathlib.Omega.{arith}
use Prim.Native.Nat.{ℕ, ◌+◌, ◌<◌, ◌≤◌}
use lib.Dec.{eqb, ltb}
use lib.ListN.{length, get_or}
use Rattle.calculus.specs.Abstraction.{Act, tau_a, weak}
use Rattle.calculus.specs.Cond.{Cond, join, cls, map_p}
use Rattle.calculus.specs.Term.{Term, par, res}
use Rattle.terms.specs.Limits.{name_count}
use Rattle.terms.specs.Question.{Question}
use Rattle.terms.specs.Question.{body_of}
use Rattle.steps_conditions.specs.Labels.{Labels}
use Rattle.steps_conditions.specs.Names.{OwnNames}
use Rattle.steps_conditions.specs.declared.action.Label.{Label}
use Rattle.std.specs.Prelude.{Option, Some, None}
use Rattle.steps_tallies.specs.Candidates.{candidates}
use Rattle.steps_tallies.proofs.Numbering.{not_met}
use Rattle.steps_tallies.proofs.Premises.{never, meeting_of_lem}
use Rattle.steps.specs.Limits.{most_steps}
use Rattle.steps.specs.Raw.{Candidate, step, blocked, communication, visible, silent, left_steps, right_steps, restricted, restricted_alone, restricted_action, outside}
use Rattle.steps_entries.proofs.StepEntries.{class_names}
use Rattle.steps_splicing.specs.Collecting.{PutIs}
use Rattle.steps_splicing.specs.Contexts.{Frame, left_of, right_of, beneath, raised, restrictions, Placed}
use Rattle.steps_splicing.specs.ListedParts.{Lists}
use Rattle.steps_splicing.specs.Locating.{Classed}
use Rattle.steps_splicing.specs.PlacedResults.{Trivial}
use Rattle.steps_splicing.proofs.ContextLaws.{raised-blocked}
use Rattle.steps_splicing.proofs.PlacedResults.{raised_never}
use Rattle.steps_placing.specs.Deciding.{decided}
use Rattle.steps_placing.specs.Taking.{candidates_of, LabelIs}
use Rattle.steps_placing.proofs.CollectLaws.{put-blocked}
use Rattle.steps_placing.proofs.DecidingLaws.{Like, decided-step, met_like, met-blocked, like_trivial}
use Rattle.steps_rows.specs.Rows.{action_kind, RowActs, Outlined}
use Rattle.steps_rows.proofs.RowLaws.{plain_step}
use Rattle.steps_communications.specs.Meeting.{may_meet, unmatched_row, Unblocked, PairIs}
use Rattle.steps_communications.specs.Met.{ActsAs, Communicates, TakeMetIs}
use Rattle.steps_communications.specs.declared.meet.Met.{Met}
use Rattle.steps_communications.specs.declared.meet.Partner.{Partner}
use Rattle.steps_communications.proofs.MeetLaws.{trivial_match, meets_opposite, pair_same, merged-inside, pair_merged}
use Rattle.steps_communications.proofs.MetLaws.{raised_from}

-- A silent step stays one.
abbrev StaysSilent : List Frame → Type 0
StaysSilent K = (N : Cond) (C : Term) (M : Cond) (α : Act) (W : Term) → raised K (step N tau_a C) ≡ step M α W → α ≡ tau_a

stays_silent : (K : List Frame) → StaysSilent K
unfolding raised left_steps right_steps restricted restricted_action
stays_silent [] N C M α W e = cc
stays_silent (left_of Q ∷ K) N C M α W e = stays_silent K N (par C (weak tau_a Q)) M α W e
stays_silent (right_of P ∷ K) N C M α W e = stays_silent K N (par (weak tau_a P) C) M α W e
stays_silent (beneath ∷ K) N C M α W e = go (stays_silent K) (restricted_alone N) e
  where
    go : StaysSilent K → (t : Bool) → raised K (cond t (restricted_action (map_p outside N) tau_a C) blocked) ≡ step M α W → α ≡ tau_a
    go f true e = f (map_p outside N) (res C) M α W e
    go f false e = raised_never K M α W e

met-silent : (K : List Frame) (s t : Candidate) (M : Cond) (α : Act) (W : Term) → raised K (communication s t) ≡ step M α W → α ≡ tau_a
met-silent K s t M α W e =
    let F = raised_from K (communication s t) M α W e in
    let τ = (meeting_of_lem s t F.condition F.action F.result F.own).silent in
    stays_silent K F.condition F.result M α W ((λ i. raised K (step F.condition (sym τ i) F.result)) ∙ F.is)

-- Two candidates whose communication is a step are steps, with the actions of their rows.
module _ (K : List Frame) (d : ℕ) (level : restrictions K ≡ d) (s t : Candidate) (M : Cond) (α : Act) (W : Term) (e : raised K (communication s t) ≡ step M α W) where
  unmet : {T : Type 0} → (decided d s ≡ blocked) ⊎ (decided d t ≡ blocked) → T
  unfolding communication
  unmet (inl z) = never M α W (sym (met-blocked K d level s t (ap (λ c. raised K (communication c (decided d t))) z ∙ raised-blocked K)) ∙ e)
  unmet (inr z) = never M α W (sym (met-blocked K d level s t (ap (λ c. raised K (communication (decided d s) c)) z ∙ ap (raised K) (not_met (decided d s)) ∙ raised-blocked K)) ∙ e)

  row-steps : (k₁ c₁ o₁ k₂ c₂ o₂ : ℕ) → Outlined d (decided d s) k₁ c₁ o₁ → c₁ < name_count + d → Outlined d (decided d t) k₂ c₂ o₂
      → RowActs d k₁ c₁ o₁ (decided d s) × RowActs d k₂ c₂ o₂ (decided d t)
  row-steps k₁ c₁ o₁ k₂ c₂ o₂ left w right =
      (⊎_elim (λ p. unmet (inl p.1)) (λ D. D) (left.acts w), go (ltb c₂ (name_count + d)) refl)
    where
      go : (b : Bool) → ltb c₂ (name_count + d) ≡ b → RowActs d k₂ c₂ o₂ (decided d t)
      go true b = ⊎_elim (λ p. unmet (inr p.1)) (λ D. D) (right.acts (ltb-true c₂ (name_count + d) b))
      go false b = unmet (inr (right.inner (ltb-false c₂ (name_count + d) b)))

-- The kind of a row that stands beneath no match.
plain_kind : (kind : ℕ) → kind ≤ 3 → action_kind kind ≡ kind
unfolding action_kind
plain_kind kind h = simp (le-ltb 4 kind (omega arith))

module _ (question part : List ℕ) (at depth number : ℕ) (a b : Partner) (j x : ℕ) (area : List ℕ) (count r : ℕ) (area' : List ℕ) where
  -- The communication of two rows at the node, and what is known of it.
  abbrev taken : Partner → Partner → Bool → Met
  taken m n merges =
      record { node = record { at = at; depth = depth; number = number; x = x }; pair = record { left = m; right = n; number = j }; merges = merges }

  module _ (q : Question) (P : Term) (lists : Lists question part x q P) (K : List Frame) (L R : Term) (first : ℕ)
      (p : Placed q.arities (body_of q.bodies) P K (par L R) at depth first number) (s t : Candidate) (m n : Partner)
      (hv : m.number < length (visible (body_of q.bodies) 1 L)) (es : s ≡ get_or (visible (body_of q.bodies) 1 L) m.number blocked)
      (hw : n.number < length (visible (body_of q.bodies) 1 R)) (et : t ≡ get_or (visible (body_of q.bodies) 1 R) n.number blocked)
      (h : j < length (silent (body_of q.bodies) 1 (par L R))) (f : get_or (silent (body_of q.bodies) 1 (par L R)) j blocked ≡ communication s t) where
    communicates : (N₁ : Cond) (α : Act) (A : Term) → Like s N₁ α A → ActsAs depth m α → (N₂ : Cond) (β : Act) (B : Term) → Like t N₂ β B → ActsAs depth n β
        → eqb n.kind 1 ≡ not (eqb m.kind 1) → (M : Cond) (W : Term) → raised K (communication s t) ≡ step M tau_a W
        → Communicates question part (taken m n true).node (taken m n true).pair q P M W
    communicates N₁ α A one u N₂ β B two v turned M W ws = record {
      lists = lists;
      frames = K;
      left = L;
      right = R;
      first = first;
      placed = p;
      left_cond = one.condition;
      left_act = α;
      left_result = A;
      left_inside = hv;
      left_step = sym es ∙ one.is;
      left_acts = u;
      right_cond = two.condition;
      right_act = β;
      right_result = B;
      right_inside = hw;
      right_step = sym et ∙ two.is;
      right_acts = v;
      opposite = turned;
      number = h;
      numbered = f ∙ (λ i. communication (one.is i) (two.is i));
      is = (λ i. raised K (communication (sym one.is i) (sym two.is i))) ∙ ws;
    }

  -- Beneath a match: the condition is that of the label.
  module _ (hd : Option Label) (label : LabelIs question part true (number + j) hd) where
    -- the label is that of the communication
    labels_met : (q : Question) (P : Term) → Lists question part x q P → (K : List Frame) (L R : Term) (first : ℕ)
        → Placed q.arities (body_of q.bodies) P K (par L R) at depth first number → (s t : Candidate) → j < length (silent (body_of q.bodies) 1 (par L R))
        → get_or (silent (body_of q.bodies) 1 (par L R)) j blocked ≡ communication s t → Labels 0 (raised K (communication s t)) hd
    unfolding candidates_of candidates
    labels_met q P lists K L R first p s t h f =
        subst (λ c. Labels 0 c hd) (p.silently.is j h ∙ ap (raised K) f) (label.is x q P lists (omega (arith, p.silently.inside)))

    pub pair_blocked : hd ≡ None → count ≤ most_steps → PairIs question part at depth number a b j x area count count area
    unfolding Labels PutIs
    pair_blocked e few = record {
      is = λ q P l K L R first p s t _ _ _ _ left right m h f. go (raised K (communication s t))
          (subst (λ (h : Option Label). Labels 0 (raised K (communication s t)) h) e (labels_met q P l K L R first p s t h f));
    }
      where
        go : (c : Candidate) → Labels 0 c None → PutIs c x area count count area
        go (step M α A) t = elim t [ ]
        go blocked t = λ found s. put-blocked area x count found s few

    pub pair_matched : (header : Label) → hd ≡ Some header → (m n : Partner) → m ≡ unmatched_row a → n ≡ unmatched_row b
        → TakeMetIs question part (taken m n true) header.condition.class area count r area' → PairIs question part at depth number a b j x area count r area'
    unfolding Labels Unblocked
    pair_matched header e m n em en T₀ = record {
      is = λ q P lists K L R first p s t hv es hw et left right m h f.
          go q P lists K L R first p s t hv es hw et left right m h f (raised K (communication s t)) refl
          (subst (λ (h : Option Label). Labels 0 (raised K (communication s t)) h) e (labels_met q P lists K L R first p s t h f));
    }
      where
        T : TakeMetIs question part (taken (unmatched_row a) (unmatched_row b) true) header.condition.class area count r area'
        T = coe 0 1 (i. TakeMetIs question part (taken (em i) (en i) true) header.condition.class area count r area') T₀

        go : (q : Question) (P : Term) (lists : Lists question part x q P) (K : List Frame) (L R : Term) (first : ℕ)
            (p : Placed q.arities (body_of q.bodies) P K (par L R) at depth first number) (s t : Candidate)
            → a.number < length (visible (body_of q.bodies) 1 L) → s ≡ get_or (visible (body_of q.bodies) 1 L) a.number blocked
            → b.number < length (visible (body_of q.bodies) 1 R) → t ≡ get_or (visible (body_of q.bodies) 1 R) b.number blocked
            → Unblocked depth (decided depth s) a.kind a.channel a.object → Outlined depth (decided depth t) b.kind b.channel b.object
            → may_meet a.kind a.channel b.kind b.channel ≡ true → j < length (silent (body_of q.bodies) 1 (par L R))
            → get_or (silent (body_of q.bodies) 1 (par L R)) j blocked ≡ communication s t
            → (c : Candidate) → raised K (communication s t) ≡ c → Labels 0 c (Some header) → PutIs c x area count r area'
        go q P lists K L R first p s t hv es hw et (o, w) right m h f blocked d z = let y : ◌≡◌ {A = ℕ} 0 1 = cc in absurd (omega arith)
        go q P lists K L R first p s t hv es hw et (o, w) right m h f (step M α W) d z =
            let τ : α ≡ tau_a = met-silent K s t M α W d in
            let ws : raised K (communication s t) ≡ step M tau_a W = d ∙ ap (λ (β : Act). step M β W) τ in
            let D = row-steps K depth p.level s t M tau_a W ws a.kind a.channel a.object b.kind b.channel b.object o w right in
            let S = D.0 in
            let U = D.1 in
            subst (λ (β : Act). PutIs (step M β W) x area count r area') (sym τ)
            (T.is q P M W (communicates q P lists K L R first p s t (unmatched_row a) (unmatched_row b) hv es hw et h f
            S.condition S.action S.result (decided-step depth s S.condition S.action S.result S.is) (record { acts = S.acts; below = S.below })
            U.condition U.action U.result (decided-step depth t U.condition U.action U.result U.is) (record { acts = U.acts; below = U.below })
            (meets_opposite a.kind a.channel b.kind b.channel m).0 M W ws)
            (record { classes = class_names header.condition.class M z.classes; trivial = λ n. let y : ◌≡◌ {A = ℕ} 0 1 = cc in absurd (omega arith) }))

  module _ (k : a.kind ≤ 3) (l : b.kind ≤ 3) where
    -- The communication on one channel, as a candidate of the whole.
    record OnOne (K : List Frame) (s t : Candidate) : Type 0 where
      condition : Cond
      whole : Term
      is : raised K (communication s t) ≡ step condition tau_a whole
      asks : Trivial condition

    on_one : a.channel ≡ b.channel → (K : List Frame) → restrictions K ≡ depth → (s t : Candidate)
        → Unblocked depth (decided depth s) a.kind a.channel a.object → Outlined depth (decided depth t) b.kind b.channel b.object
        → may_meet a.kind a.channel b.kind b.channel ≡ true → OnOne K s t
    unfolding Unblocked
    on_one e K level s t (o, w) right m =
        let S = pair_same K depth level (decided depth s) (decided depth t) a.kind a.channel a.object b.kind b.channel b.object o w right k l m e in
        let N : Cond = (S.outer, S.outer) ∷ [] in
        let L = met_like K depth level s t N tau_a S.whole (ap (raised K) S.own ∙ S.is) in
        record {
          condition = L.condition;
          whole = S.whole;
          is = L.is;
          asks = like_trivial L.condition N L.same (trivial_match S.outer);
        }

    -- As a communication of two components, whatever its condition is.
    met_of : (merges : Bool) (class : List ℕ) → TakeMetIs question part (taken a b merges) class area count r area'
        → ((K : List Frame) → restrictions K ≡ depth → (s t : Candidate) → Unblocked depth (decided depth s) a.kind a.channel a.object
        → Outlined depth (decided depth t) b.kind b.channel b.object → may_meet a.kind a.channel b.kind b.channel ≡ true
        → (M : Cond) × (W : Term) × (raised K (communication s t) ≡ step M tau_a W) × Classed merges class M × (b.channel < name_count + depth))
        → PairIs question part at depth number a b j x area count r area'
    unfolding Unblocked
    met_of merges class T whole = record {
      is = λ q P lists K L R first p s t hv es hw et left right m h f.
          let (o, w) = left in
          let (M, W, ws, classed, inside) = whole K p.level s t left right m in
          let turned = rw (plain_kind a.kind k, plain_kind b.kind l) at (meets_opposite a.kind a.channel b.kind b.channel m).0 in
          let (α, A, d, g, n₁) = plain_step depth a.kind a.channel a.object (decided depth s) k o w in
          let (β, B, u, v, n₂) = plain_step depth b.kind b.channel b.object (decided depth t) l right inside in
          subst (λ c. PutIs c x area count r area') (sym ws)
          (T.is q P M W (communicates q P lists K L R first p s t a b hv es hw et h f [] α A (decided-step depth s [] α A d) (record { acts = g; below = n₁ }) [] β B (decided-step depth t [] β B u)
          (record { acts = v; below = n₂ }) turned M W ws) classed);
    }

    pub pair_met : a.channel ≡ b.channel → (class : List ℕ) → OwnNames 0 class → TakeMetIs question part (taken a b false) class area count r area'
        → PairIs question part at depth number a b j x area count r area'
    unfolding OwnNames Trivial Unblocked
    pair_met e class own T =
        met_of false class T (λ K level s t left right m.
        let S = on_one e K level s t left right m in
        (S.condition, S.whole, S.is, record { classes = λ n h. own n (omega arith) ∙ sym (S.asks n); trivial = λ z. S.asks }, omega (arith, e, left.1)))

    pub pair_merging : (a.channel ≡ b.channel → ⊥) → (class : List ℕ) → ((n : ℕ) → n < name_count → get_or class n 0 ≡ join a.channel b.channel n)
        → TakeMetIs question part (taken a b true) class area count r area'
        → PairIs question part at depth number a b j x area count r area'
    unfolding Unblocked cls
    pair_merging n class joined T =
        met_of true class T (λ K level s t (o, w) right m.
        let (B, e) = pair_merged K depth level (decided depth s) (decided depth t) a.kind a.channel a.object b.kind b.channel b.object o w right k l m n in
        let S = met_like K depth level s t ((a.channel, b.channel) ∷ []) tau_a B e in (
          S.condition,
          B,
          S.is,
          record
              { classes = λ n h. joined n h ∙ (λ i. sym S.same i n); trivial = λ z. let n : ◌≡◌ {A = ℕ} 0 1 = cc in absurd (omega arith) },
          merged-inside K depth level (decided depth s) (decided depth t) a.kind a.channel a.object b.kind b.channel b.object o w
              right k l m n,
        ))
