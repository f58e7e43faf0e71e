-- A situation taken up, and exploration over all of them. Assumes nothing.
use mathlib.Core.Bool.{Bool, true, false}
use mathlib.Core.List.{List, [], ◌∷◌, ◌++◌, map}
use mathlib.Core.Logic.{◌⊎◌, inl, inr}
use mathlib.Core.Path.{◌≡◌, refl, sym, ◌∙◌, ap, subst}
use native.Mathlib.Decide.{ℕ_discrete, dec_lt}
use native.Mathlib.Omega.{arith}
use native.Mathlib.Numerals.{add-one}
use Prim.Native.Nat.{ℕ, ◌+◌, ◌*◌, ◌<◌, ◌≤◌}
use lib.ListN.{length, get_or, drop, length-map, get_or-map}
use lib.Seq.{take_all}
use Rattle.std.specs.Prelude.{Option, Some, None}
use Rattle.calculus.specs.Definitions.{Defs}
use Rattle.calculus.specs.Free.{fn}
use Rattle.terms.specs.Answer.{result}
use Rattle.terms.specs.Limits.{name_count}
use Rattle.terms.specs.Question.{Question, check_of}
use Rattle.terms.proofs.WellFormed.{WellFormed, accepted_well_formed}
use Rattle.steps_tallies.specs.Bodies.{AritiesIs}
use Rattle.calculus.specs.Lists.{◌∈◌, All}
use Rattle.calculus.proofs.Membership.{∈-all, all-∈, all_imp}
use Rattle.steps.proofs.QuestionDefinitions.{definitions}
use Rattle.field_slots.specs.Chains.{LinkIs}
use Rattle.field_slots.specs.Key.{slot_with}
use Rattle.field.specs.Exploration.{together, Row, incomplete, explored, field_of}
use Rattle.field_growth.specs.Holding.{unanswered}
use Rattle.field_growth.specs.Growing.{Fitting, grown, Knows, GrowsTo, Puts, Gone, Flagged, moved, Strikes, Leads, GrowsSides}
use Rattle.field_exploration.specs.Following.{Follows, GrowIs}
use Rattle.field.specs.Situation.{Proper}
use Rattle.field_exploration.specs.Exploring.{StruckFirst, SoleNoted, Explores, ExploreIs}
use Rattle.field_successors.specs.Leading.{placed, StartIs}
use Rattle.field_slots.specs.Noted.{noted_count, note_at, ClearsSlot, Stands, SoleIn}
use Rattle.field.specs.Setting.{Setting, setting_of}
use Rattle.field.specs.Situation.{Situation, free_in, start_of}
use Rattle.field_pairs.specs.Slot.{key_bytes, slot_bytes, struck_at}
use Rattle.field.specs.Successors.{Outcome, past_limit, leads, moves, successors}
use Rattle.field_taking_up.specs.TakingUp.{SidesListed, ListsAre, TakenAs, TakesUp}
use Rattle.field_taking_up.specs.declared.taking.TakenUp.{TakenUp}
use Rattle.field_slots.proofs.ChainLaws.{chained_none}
use Rattle.field.proofs.Explored.{explored-leads}
use Rattle.field.proofs.FieldIsSmallest.{invariant}
use Rattle.field_growth.proofs.GrownSituations.{grown-front, Exploring, exploring_start, exploring_past, exploring_full, exploring_on, exploring_end}
use Rattle.field_growth.proofs.GrowingLaws.{sole_more, grows_full, whole_key}
use Rattle.field.proofs.Members.{get_d_∈, get_d_within}
use Rattle.field.proofs.QuestionField.{question_setting, start_proper, start_short}
use Rattle.field.proofs.Reached.{together-leads}
use Rattle.field_growth.proofs.SlotWriting.{slot-rest, slot_struck, knows_noted, knows_more}

module _ (differ : Bool) where
  abbrev setting : Question → Setting
  setting q = setting_of differ q.bodies

  -- What a proper situation of an accepted question leads to is proper.
  module _ (question : List ℕ) (q : Question) (accepted : check_of question ≡ result q) where
    well : WellFormed q
    well = accepted_well_formed question q accepted

    together_proper : (s : Situation) (ms : List (List Situation)) → Proper name_count q.arities s → successors (setting q) s ≡ leads ms
        → All (Proper name_count q.arities) (together ms)
    unfolding setting_of definitions
    together_proper s ms p e =
        let Δ : Defs = definitions q.arities q.bodies well.bodies in
        ∈-all (Proper name_count q.arities) (together ms)
        (λ t i. (invariant Δ (setting q) q.arities (question_setting differ q well Δ (λ k. refl) refl)).kept s t p (together-leads (setting q) s ms e t i))

    start_fitting : Fitting q.arities (start_of differ q)
    start_fitting =
        let (f, s) = start_short differ q well in
        record { proper = start_proper differ q well; fits = record { first = f; second = s } }

  -- The situation of number `taken`.
  module _ (question : List ℕ) (taken capacity : ℕ) (work : List ℕ) (known : ℕ) (waits : taken < known) (up : TakenUp) (firsts seconds : List ℕ)
      (T : TakesUp question work (slot_bytes * taken) up firsts seconds) where
    module _ (q : Question) (accepted : check_of question ≡ result q) (ks : List Situation) (d : Situation) (K : Knows q.arities capacity work known ks) where
      abbrev s : Situation
      s = get_or ks taken d

      inside : taken < length ks
      inside = omega (arith, K.count)

      proper : Proper name_count q.arities s
      proper = (all-∈ (Fitting q.arities) ks K.fitting s (get_d_∈ ks taken d inside)).proper

      taken_as : TakenAs q s up firsts seconds
      taken_as = T.is q s accepted (K.slots.held taken d inside) proper.first proper.second

      follows_past : up.lists ≡ None → Follows q.arities capacity taken (successors (setting q) s) work known None work
      unfolding ListsAre Follows
      follows_past e =
          let p : successors (setting q) s ≡ past_limit = subst (λ l. ListsAre q s l firsts seconds) e taken_as.lists differ in
          subst (λ o. Follows q.arities capacity taken o work known None work) (sym p) refl

      module _ (n m : ℕ) (e : up.lists ≡ Some (n, m)) (r : Option ℕ) (work' : List ℕ)
          (g : GrowsSides q.arities up.free up.apart differ taken firsts n seconds m capacity work known r work') where
        sides : SidesListed q s n m firsts seconds
        unfolding ListsAre
        sides = subst (λ l. ListsAre q s l firsts seconds) e taken_as.lists

        abbrev names : List ℕ
        names = fn s.first ++ fn s.second

        abbrev ms : List (List Situation)
        ms = moves differ name_count (placed false) (free_in name_count s.first s.second) s.apart sides.ps sides.qs
            ++ moves differ name_count (placed true) (free_in name_count s.first s.second) s.apart sides.qs sides.ps

        both : ms ≡ moved differ false names s.apart sides.ps sides.qs ++ moved differ true names s.apart sides.qs sides.ps
        unfolding moved free_in
        both = refl

        follows_listed : Follows q.arities capacity taken (successors (setting q) s) work known r work'
        unfolding Follows
        follows_listed =
            let flags : Flagged up.free up.apart names s.apart =
            record { names = taken_as.free; pairs = taken_as.apart; distinction = proper.distinction } in
            subst (λ o. Follows q.arities capacity taken o work known r work') (sym (sides.leading differ))
            (subst (λ l. Leads q.arities capacity taken l work known r work') (sym both)
            (g.is names s.apart sides.ps sides.qs flags sides.first sides.second
            (subst (λ l. All (Proper name_count q.arities) (together l)) both (together_proper question q accepted s ms proper (sides.leading differ)))))

    pub grow_past : up.lists ≡ None → GrowIs differ question taken capacity work known None work
    grow_past e = record { grows = grows_full capacity work known; is = λ q a ks d K. follows_past q a ks d K e }

    pub grow_listed : (n m : ℕ) → up.lists ≡ Some (n, m) → (arities : List ℕ) → AritiesIs question arities → (r : Option ℕ) (work' : List ℕ)
        → GrowsSides arities up.free up.apart differ taken firsts n seconds m capacity work known r work' → GrowIs differ question taken capacity work known r work'
    unfolding AritiesIs
    grow_listed n m e arities A r work' g = record {
      grows = g.grows;
      is = λ q a ks d K. follows_listed q a ks d K n m e r work'
          (subst (λ l. GrowsSides l up.free up.apart differ taken firsts n seconds m capacity work known r work') (A q a) g);
    }

  -- A situation of a number below i is t, and it is struck out.
  abbrev Below : List ℕ → List Situation → ℕ → Situation → Type 0
  Below work ks i t = (j : ℕ) × (j < i) × ((d : Situation) → get_or ks j d ≡ t) × (get_or work (struck_at j) 0 ≡ 0 → ⊥)

  -- Situation i, which leads to ms, is struck out if one of these has no answer, and only if all answers of one are struck out and come before it.
  pub record StruckBy (work : List ℕ) (ks : List Situation) (i : ℕ) (ms : List (List Situation)) : Type 0 where
    pub must : unanswered ms ≡ true → get_or work (struck_at i) 0 ≡ 0 → ⊥
    pub why : (get_or work (struck_at i) 0 ≡ 0 → ⊥) → (w : List Situation) × (w ∈ ms) × All (Below work ks i) w

  -- Exploration: the known situations, of which the first `taken` have been taken up.
  pub record Explorer (q : Question) (capacity : ℕ) (work : List ℕ) (known taken : ℕ) : Type 0 where
    pub ks : List Situation
    pub exploring : Exploring (setting q) capacity (start_of differ q) ks taken
    pub knows : Knows q.arities capacity work known ks
    pub struck : (i : ℕ) (ms : List (List Situation)) → i < taken → successors (setting q) (get_or ks i (start_of differ q)) ≡ leads ms
        → StruckBy work ks i ms
    pub left : (i : ℕ) → taken ≤ i → i < known → get_or work (struck_at i) 0 ≡ 0
    pub sole : (i k : ℕ) (ms : List (List Situation)) → i < taken → k < noted_count → successors (setting q) (get_or ks i (start_of differ q)) ≡ leads ms
        → SoleIn ks ms (note_at work i k)

  -- Nothing is noted in the slot that is taken up next.
  explorer_cleared : (q : Question) (capacity : ℕ) (work : List ℕ) (known taken : ℕ) (work' : List ℕ) → ClearsSlot work taken work'
      → Explorer q capacity work known taken → Explorer q capacity work' known taken
  explorer_cleared q capacity work known taken work' c y = record {
    ks = y.ks;
    exploring = y.exploring;
    knows = knows_noted q.arities capacity work known y.ks (taken + 1) work' c.spare y.knows;
    struck = λ i ms h e.
        let x = y.struck i ms h e in
        record {
          must = λ u z. x.must u (sym (mark i) ∙ z);
          why = λ g.
              let (w, m, a) = x.why (λ z. g (mark i ∙ z)) in
              (w, m, all_imp (Below work y.ks i) (Below work' y.ks i) w (λ t (j, l, is, gone). (j, l, is, λ z. gone (sym (mark j) ∙ z))) a);
        };
    left = λ i h l. mark i ∙ y.left i h l;
    sole = λ i k ms h g e. subst (SoleIn y.ks ms) (sym (c.others i (λ z. omega arith) k g)) (y.sole i k ms h g e);
  }
    where
      mark : (i : ℕ) → get_or work' (struck_at i) 0 ≡ get_or work (struck_at i) 0
      mark i = c.spare.slots i key_bytes (omega arith)

  -- One more is taken up.
  module _ (q : Question) (capacity : ℕ) (work : List ℕ) (known taken : ℕ) (y : Explorer q capacity work known taken) (waits : taken < known)
      (ms : List (List Situation)) (e : successors (setting q) (get_or y.ks taken (start_of differ q)) ≡ leads ms)
      (empty : (k : ℕ) → k < noted_count → note_at work taken k ≡ 0)
      (n : ℕ) (few : n ≤ capacity) (more : known ≤ n) (work' : List ℕ) (f : Leads q.arities capacity taken ms work known (Some n) work') where
    abbrev all : List Situation
    all = grown y.ks (together ms)

    abbrev steps : Strikes q.arities capacity taken [] ms work known n work'
    steps = f.strikes n refl

    knows_all : Knows q.arities capacity work' n all
    unfolding Puts GrowsTo
    knows_all = f.puts y.ks y.knows tt

    front : (i : ℕ) (d : Situation) → i < known → get_or all i d ≡ get_or y.ks i d
    front i d h = grown-front y.ks (together ms) i d (omega (arith, y.knows.count))

    -- those struck out before
    below-now : (i : ℕ) → i ≤ taken → (t : Situation) → Below work y.ks i t → Below work' all i t
    below-now i h t (j, l, is, gone) =
        (j, l, λ d. front j d (omega arith) ∙ is d, λ z. gone (sym (steps.others j (omega arith) (λ e. omega arith)) ∙ z))

    gone_below : (t : Situation) → Gone work y.ks t → Below work y.ks taken t
    gone_below t o = go (dec_lt o.number taken)
      where
        go : Dec (o.number < taken) → Below work y.ks taken t
        go (yes l) = (o.number, l, o.is, o.struck)
        go (no l) = absurd (o.struck (y.left o.number (omega arith) (omega (arith, o.inside, y.knows.count))))

    struck_taken : StruckBy work' all taken ms
    struck_taken = record {
      must = steps.must;
      why = λ h.
          let (w, i, a) = steps.why y.ks y.knows tt (y.left taken (omega arith) waits) h in
          (w, i, all_imp (Gone work y.ks) (Below work' all taken) w (λ t o. below-now taken (omega arith) t (gone_below t o)) a);
    }

    struck_now : (i : ℕ) (ns : List (List Situation)) → i < taken + 1 → successors (setting q) (get_or all i (start_of differ q)) ≡ leads ns
        → StruckBy work' all i ns
    struck_now i ns h k = go (ℕ_discrete i taken)
      where
        there : successors (setting q) (get_or y.ks i (start_of differ q)) ≡ leads ns
        there = ap (successors (setting q)) (sym (front i (start_of differ q) (omega arith))) ∙ k

        go : Dec (i ≡ taken) → StruckBy work' all i ns
        go (yes d) =
            let t : successors (setting q) (get_or y.ks taken (start_of differ q)) ≡ leads ns =
            subst (λ j. successors (setting q) (get_or y.ks j (start_of differ q)) ≡ leads ns) d there in
            let z : ms ≡ ns = cc in
            rw (d, ← z) struck_taken
        go (no d) =
            let x = y.struck i ns (omega arith) there in
            let o = steps.others i (omega arith) d in
            record {
              must = λ u z. x.must u (sym o ∙ z);
              why = λ g.
                  let (w, m, a) = x.why (λ z. g (o ∙ z)) in
                  (w, m, all_imp (Below work y.ks i) (Below work' all i) w (below-now i (omega arith)) a);
            }

    left-now : (i : ℕ) → taken + 1 ≤ i → i < n → get_or work' (struck_at i) 0 ≡ 0
    left-now i h l = go (dec_lt i known)
      where
        go : Dec (i < known) → get_or work' (struck_at i) 0 ≡ 0
        go (yes b) = steps.others i b (λ z. omega arith) ∙ y.left i (omega arith) b
        go (no b) = steps.fresh i (omega arith) l

    sole_taken : (k : ℕ) → k < noted_count → SoleIn all ms (note_at work' taken k)
    unfolding SoleIn
    sole_taken k g j e = go (steps.sole y.ks y.knows tt k g)
      where
        go : (note_at work' taken k ≡ note_at work taken k) ⊎ SoleIn all ms (note_at work' taken k) → (w : List Situation) × (w ∈ ms) × All (Stands all j) w
        go (inl z) = absurd (omega (arith, e, z, empty k g))
        go (inr x) = x j e

    sole_now : (i k : ℕ) (ns : List (List Situation)) → i < taken + 1 → k < noted_count → successors (setting q) (get_or all i (start_of differ q)) ≡ leads ns
        → SoleIn all ns (note_at work' i k)
    sole_now i k ns h g l = go (ℕ_discrete i taken)
      where
        there : successors (setting q) (get_or y.ks i (start_of differ q)) ≡ leads ns
        there = ap (successors (setting q)) (sym (front i (start_of differ q) (omega arith))) ∙ l

        go : Dec (i ≡ taken) → SoleIn all ns (note_at work' i k)
        go (yes d) =
            let t : successors (setting q) (get_or y.ks taken (start_of differ q)) ≡ leads ns =
            subst (λ j. successors (setting q) (get_or y.ks j (start_of differ q)) ≡ leads ns) d there in
            let z : ms ≡ ns = cc in
            rw (d, ← z) (sole_taken k g)
        go (no d) =
            subst (SoleIn all ns) (sym (steps.notes i k (omega arith) d g)) (sole_more y.ks (together ms) ns (note_at work i k) (y.sole i k ns (omega arith) g there))

    explorer_next : Explorer q capacity work' n (taken + 1)
    explorer_next = record {
      ks = all;
      exploring = rw add-one (exploring_on (setting q) capacity (start_of differ q) y.ks taken y.exploring (omega (arith, y.knows.count)) ms e
          (omega (arith, knows_all.count)));
      knows = knows_all;
      struck = struck_now;
      left = left-now;
      sole = sole_now;
    }

  -- all rows, once all are taken up
  struck_first : (q : Question) (capacity : ℕ) (work : List ℕ) (known taken : ℕ) (y : Explorer q capacity work known taken) (rs : List Row) → length rs ≤ taken
      → field_of (setting q) capacity (start_of differ q) ≡ explored rs → map (λ r. r.self) rs ≡ y.ks → StruckFirst work rs
  unfolding StruckFirst
  struck_first q capacity work known taken y rs m e s i d h =
      let S : Setting = setting q in
      let r : Row = get_or rs i d in
      let there : get_or y.ks i (start_of differ q) ≡ r.self =
      get_d_within y.ks i (start_of differ q) d.self (omega (arith, ap length s, length-map rs (λ (r : Row). r.self))) ∙ sym (self i d) in
      let x = y.struck i r.wants (omega arith)
      (ap (successors S) there ∙ all-∈ (λ r. successors S r.self ≡ leads r.wants) rs (explored-leads S (start_of differ q) capacity rs e) r (get_d_∈ rs i d h)) in
      record {
        must = x.must;
        why = λ g.
            let (w, k, a) = x.why g in (
              w,
              k,
              all_imp (Below work y.ks i) (λ t. (j : ℕ) × (j < i) × ((d : Row) → (get_or rs j d).self ≡ t) × (get_or work (struck_at j) 0 ≡ 0 → ⊥)) w
                  (λ t (j, l, is, gone). (j, l, λ c. self j c ∙ is c.self, gone)) a,
            );
      }
    where
      self : (j : ℕ) (c : Row) → (get_or rs j c).self ≡ get_or y.ks j c.self
      self j c = sym (get_or-map (λ (r : Row). r.self) rs j c) ∙ ap (λ l. get_or l j c.self) s

  sole_noted : (q : Question) (capacity : ℕ) (work : List ℕ) (known taken : ℕ) (y : Explorer q capacity work known taken) (rs : List Row) → length rs ≤ taken
      → field_of (setting q) capacity (start_of differ q) ≡ explored rs → map (λ r. r.self) rs ≡ y.ks → SoleNoted work rs
  unfolding SoleNoted
  sole_noted q capacity work known taken y rs m e s i k d h g =
      let S : Setting = setting q in
      let r : Row = get_or rs i d in
      let there : get_or y.ks i (start_of differ q) ≡ r.self =
      get_d_within y.ks i (start_of differ q) d.self (omega (arith, ap length s, length-map rs (λ (r : Row). r.self)))
      ∙ sym (sym (get_or-map (λ (r : Row). r.self) rs i d) ∙ ap (λ l. get_or l i d.self) s) in
      subst (λ ks. SoleIn ks r.wants (note_at work i k)) (sym s)
      (y.sole i k r.wants (omega arith) g
      (ap (successors S) there ∙ all-∈ (λ r. successors S r.self ≡ leads r.wants) rs (explored-leads S (start_of differ q) capacity rs e) r (get_d_∈ rs i d h)))

  module _ (question : List ℕ) (capacity : ℕ) (work₀ : List ℕ) where
    pub record Explorers (work : List ℕ) (known taken : ℕ) : Type 0 where
      pub rest : drop (slot_bytes * capacity) work ≡ drop (slot_bytes * capacity) work₀
      pub is : (q : Question) → check_of question ≡ result q → Explorer q capacity work known taken

    pub explorers_cleared : (work : List ℕ) (known taken : ℕ) (work' : List ℕ) → taken < capacity → ClearsSlot work taken work' → Explorers work known taken
        → Explorers work' known taken
    explorers_cleared work known taken work' h c x = record {
      rest = c.spare.rest capacity (omega arith) ∙ x.rest;
      is = λ q a. explorer_cleared q capacity work known taken work' c (x.is q a);
    }

    module _ (work : List ℕ) (known taken : ℕ) (x : Explorers work known taken) (waits : taken < known) (work' : List ℕ) where
      pub explorers_next : ((k : ℕ) → k < noted_count → note_at work taken k ≡ 0) → (n : ℕ) → GrowIs differ question taken capacity work known (Some n) work' → Explorers work' n (taken + 1)
      unfolding Follows
      explorers_next empty n g = record {
        rest = g.grows.rest ∙ x.rest;
        is = λ q a.
            let y = x.is q a in
            next q y (successors (setting q) (get_or y.ks taken (start_of differ q))) refl (g.is q a y.ks (start_of differ q) y.knows);
      }
        where
          next : (q : Question) (y : Explorer q capacity work known taken) (o : Outcome) → successors (setting q) (get_or y.ks taken (start_of differ q)) ≡ o
              → Follows q.arities capacity taken o work known (Some n) work' → Explorer q capacity work' n (taken + 1)
          next q y past_limit e f = let z : ◌≡◌ {A = ℕ} 0 1 = cc in absurd (omega arith)
          next q y (leads ms) e f =
              let w = g.grows.within n refl in
              explorer_next q capacity work known taken y waits ms e empty n w.1 w.0 work' f

      pub explorers_full : GrowIs differ question taken capacity work known None work' → ExploreIs differ question capacity work₀ None work'
      unfolding Explores Follows Puts GrowsTo
      explorers_full g = record {
        rest = g.grows.rest ∙ x.rest;
        within = λ n e. let z : ◌≡◌ {A = ℕ} 0 1 = cc in absurd (omega arith);
        is = λ q a.
            let y = x.is q a in
            rw (none q y (successors (setting q) (get_or y.ks taken (start_of differ q))) refl (g.is q a y.ks (start_of differ q) y.knows)) refl;
        chained = λ q a n e. let z : ◌≡◌ {A = ℕ} 0 1 = cc in absurd (omega arith);
      }
        where
          none : (q : Question) (y : Explorer q capacity work known taken) (o : Outcome) → successors (setting q) (get_or y.ks taken (start_of differ q)) ≡ o
              → Follows q.arities capacity taken o work known None work' → field_of (setting q) capacity (start_of differ q) ≡ incomplete
          none q y past_limit e f = exploring_past (setting q) capacity (start_of differ q) y.ks taken y.exploring (omega (arith, y.knows.count)) e
          none q y (leads ms) e f =
              exploring_full (setting q) capacity (start_of differ q) y.ks taken y.exploring (omega (arith, y.knows.count)) ms e (f.puts y.ks y.knows tt)

    pub explorers_end : (work : List ℕ) (known taken : ℕ) → Explorers work known taken → taken ≡ known → 1 ≤ known → known ≤ capacity
        → ExploreIs differ question capacity work₀ (Some known) work
    unfolding Explores
    explorers_end work known taken x h some few = record {
      rest = x.rest;
      within = λ n e. let z : known ≡ n = cc in (omega arith, omega arith);
      is = λ q a. whole q (x.is q a);
      chained = λ q a n e. let z : known ≡ n = cc in rw (← z) (x.is q a).knows.chained;
    }
      where
        whole : (q : Question) → Explorer q capacity work known taken → Explores (field_of (setting q) capacity (start_of differ q)) (Some known) work
        whole q y =
            let n : taken ≡ length y.ks = omega (arith, y.knows.count) in
            let z : Exploring (setting q) capacity (start_of differ q) y.ks (length y.ks) = subst (Exploring (setting q) capacity (start_of differ q) y.ks) n y.exploring in
            let m : known ≡ length z.rows = omega (arith, z.count, y.knows.count) in
            let e = exploring_end (setting q) capacity (start_of differ q) y.ks z in
            let selves = z.selves ∙ take_all (length y.ks) y.ks (omega arith) in
            rw e (ap Some m, rw selves y.knows.slots, struck_first q capacity work known taken y z.rows (omega arith) e selves, sole_noted q capacity work known taken y z.rows (omega arith) e selves)

  -- The start in the first slot.
  module _ (question : List ℕ) (capacity : ℕ) (some : 1 ≤ capacity) (work : List ℕ) (room : slot_bytes * capacity ≤ length work) (key : List ℕ)
      (long : key_bytes ≤ length key) (work₀ : List ℕ) (L : LinkIs capacity (slot_with work 0 key) 0 work₀) where
    slot : slot_bytes * 0 + slot_bytes ≤ length work
    slot = omega arith

    pub explorers_start : StartIs question differ key → Explorers question capacity work₀ work₀ 1 0
    unfolding StartIs
    explorers_start S = record {
      rest = refl;
      is = λ q a.
          let f = start_fitting question q a in
          let none : Knows q.arities capacity work 0 [] =
          record { count = refl; fitting = tt; slots = record { held = λ i d k. absurd (omega arith) }; chained = chained_none capacity work } in
          record {
            ks = start_of differ q ∷ [];
            exploring = exploring_start (setting q) capacity (start_of differ q) some;
            knows = knows_more work key 0 slot long q.arities capacity [] none (start_of differ q) f (whole_key key (start_of differ q) f.fits (S q a)) work₀ L;
            struck = λ i ms h. absurd (omega arith);
            sole = λ i k ms h. absurd (omega arith);
            left = (slot_struck work key 0 slot long capacity work₀ L).fresh;
          };
    }

    pub explored_from : (r : Option ℕ) (work' : List ℕ) → ExploreIs differ question capacity work₀ r work' → ExploreIs differ question capacity work r work'
    explored_from r work' x = record {
      rest = x.rest ∙ slot-rest work key 0 slot long capacity some work₀ L;
      within = x.within;
      is = x.is;
      chained = x.chained;
    }
