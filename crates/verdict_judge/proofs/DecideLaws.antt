-- The verdict from the work area: exploration, strike-out in place, and whether the start is left. Assumes nothing.
use mathlib.Core.Bool.{Bool, true, false, cond}
use mathlib.Core.List.{List, []}
use mathlib.Core.Path.{◌≡◌, refl, sym, ap, ◌∙◌, subst}
use native.Mathlib.Decide.{ℕ_discrete}
use native.Mathlib.Omega.{arith}
use Prim.Native.Nat.{ℕ, zero, suc, ◌*◌, ◌<◌, ◌≤◌}
use lib.Dec.{eqb}
use lib.ListN.{length, get_or, length-map, get_or-map}
use lib.Seq.{ext_get_or}
use borrow.Author.Tests.{eq-eqb, ne_eqb}
use Rattle.calculus.specs.Definitions.{Defs}
use Rattle.terms.specs.Answer.{result}
use Rattle.terms.specs.Limits.{name_count}
use Rattle.terms.specs.Question.{Question, check_of}
use Rattle.terms.proofs.Answers.{result_injective}
use Rattle.calculus.specs.Lists.{◌∈◌}
use Rattle.calculus.proofs.Membership.{all-∈}
use Rattle.field_slots.specs.Chains.{Chained}
use Rattle.field.specs.Exploration.{found, Row, Exploration, incomplete, explored, field_of}
use Rattle.field_exploration.proofs.Below.{unanswered}
use Rattle.field_exploration.proofs.Below.{SlotsHold}
use Rattle.field_exploration.specs.Exploring.{StruckFirst, SoleNoted, Explores, ExploreIs}
use Rattle.field_slots.specs.Key.{key_at}
use Rattle.field_slots.specs.Noted.{note_at, SoleIn}
use Rattle.field.specs.Setting.{Setting, setting_of}
use Rattle.field.specs.Situation.{Situation, same_situation, start_of}
use Rattle.field_pairs.specs.Slot.{slot_bytes, struck_at}
use Rattle.field.specs.Successors.{leads, successors}
use Rattle.std.specs.Prelude.{Option, Some, None}
use Rattle.field.proofs.Explored.{Rows, row_of}
use Rattle.field.proofs.Link.{SettingFor}
use Rattle.field.specs.Situation.{Proper}
use Rattle.field.proofs.Proper.{same_equal}
use Rattle.field.proofs.QuestionField.{start_proper}
use Rattle.field.proofs.Run.{selves}
use Rattle.field.proofs.Unseen.{∈-found}
use Rattle.field.proofs.Members.{get_d_∈}
use Rattle.field_exploration.proofs.Below.{key_equal, slot_key}
use Rattle.verdict_judge.specs.Judging.{verdict_told, DecidesIs}
use Rattle.verdict_answers.specs.Striking.{left_of, marks, Standing, EqualParts, demands_at, LeadsToEqual, FieldIn, Searching, SurvivesIs, AllSole, Strikes, AllSurvive, StartSurvivesIs}
use Rattle.verdict.specs.Verdict.{Manner, differs, demands_of, all_answered, same, different, decided, verdict_by}
use Rattle.verdict_judge.specs.declared.judge.Verdict as told
use Rattle.verdict_judge.specs.declared.judge.Verdict.TheVariants.{Unsettled, Same, Different}
use Rattle.verdict_start.proofs.Below.{StrikesTo, NoneToStrike, survivors-left, same-found}
use Rattle.verdict_judge.proofs.ByNumber.{distinct_number}
use Rattle.verdict_start.proofs.Below.{equal_answered}
use Rattle.verdict_start.proofs.Below.{field-kept}
use Rattle.verdict.proofs.FieldRows.{FieldRows, explored-rows, rows-field}
use Rattle.verdict_answers.proofs.LeftLaws.{left-found}
use Rattle.verdict_answers.proofs.Living.{living-at}
use Rattle.verdict_answers.proofs.Marks.{marks-at}
use Rattle.verdict.proofs.Rounds.{true_not_false, self_in, survivors, GoodRows, found_survives}
use Rattle.verdict_answers.proofs.DemandedMoves.{well, Δ, setting, move_demanded, demand_followed}
use Rattle.verdict_start.proofs.Below.{still, still_with, strikes_rest, strikes_to}

-- The explored field of an accepted question in the slots.
module _ (manner : Manner) (question : List ℕ) (q : Question) (accepted : check_of question ≡ result q) (capacity : ℕ) (rs : List Row)
    (field : field_of (setting_of (differs manner) q.bodies) capacity (start_of (differs manner) q) ≡ explored rs) (work : List ℕ) (holds : SlotsHold work (selves rs))
    (first : StruckFirst work rs)
    (chained : Chained capacity work (length rs))
    (room : slot_bytes * length rs ≤ length work) where
  abbrev S : Setting
  S = setting_of (differs manner) q.bodies

  abbrev demands : Row → List (List (List Situation))
  demands = demands_of manner S

  abbrev defs : Defs
  defs = Δ question q accepted

  fits : SettingFor defs S q.arities
  fits = setting question q accepted manner

  abbrev Good : Situation → Type 0
  Good = Proper S.names q.arities

  start : Good (start_of (differs manner) q)
  unfolding setting_of
  start = start_proper (differs manner) q (well question q accepted)

  rows : Rows S (start_of (differs manner) q) rs
  rows = explored-rows defs S q.arities fits (start_of (differs manner) q) start capacity rs field

  those : FieldRows defs S q.arities rs
  those = rows-field defs S q.arities fits (start_of (differs manner) q) start rs rows

  count : length (selves rs) ≡ length rs
  count = length-map rs (λ (r : Row). r.self)

  decides : (s t : Situation) → Good s → Good t → same_situation s t ≡ true → s ≡ t
  decides = same_equal S.names (omega (arith, fits.few)) q.arities

  within : (r : Row) → r ∈ rs → successors S r.self ≡ leads r.wants
  within r m = all-∈ (λ r. successors S r.self ≡ leads r.wants) rs rows.within r m

  -- what is demanded is among the rows
  good : GoodRows demands Good rs
  unfolding setting_of
  good = record {
    self = λ r m. those.proper r.self (self_in r rs m);
    demands = λ r m d i l j t h.
        let (w, a, b) = demand_followed question q accepted manner r.self (those.proper r.self (self_in r rs m)) r.wants (within r m) d i l j t h in
        those.proper t (those.closed r m w a t b);
  }

  -- each situation has one slot
  slot_once : (i j : ℕ) → i < length (selves rs) → j < length (selves rs) → key_at work i ≡ key_at work j → i ≡ j
  unfolding setting_of
  slot_once i j h k e =
      let s : Situation = get_or (selves rs) i (start_of (differs manner) q) in
      let t : Situation = get_or (selves rs) j (start_of (differs manner) q) in
      let a = holds.held i (start_of (differs manner) q) h in
      let b = holds.held j (start_of (differs manner) q) k in
      distinct_number (selves rs) rows.distinct i j (start_of (differs manner) q) (start_of (differs manner) q) h k
      (key_equal q.arities s t (those.proper s (get_d_∈ (selves rs) i (start_of (differs manner) q) h)) (those.proper t (get_d_∈ (selves rs) j (start_of (differs manner) q) k))
      (record { first = a.first; second = a.second }) (record { first = b.first; second = b.second })
      (sym (slot_key work i s a) ∙ e ∙ slot_key work j t b))

  standing : Standing capacity work (selves rs)
  standing = record {
    held = holds.held;
    once = slot_once;
    chained = subst (Chained capacity work) (sym count) chained;
    exact = λ s t m n e. decides s t (those.proper s m) (those.proper t n) e;
  }

  leads_within : (s : Situation) → s ∈ selves rs → (ms : List (List Situation)) → successors S s ≡ leads ms
      → (w : List Situation) → w ∈ ms → (t : Situation) → t ∈ w → t ∈ selves rs
  leads_within s m ms e w i t k =
      let (r, j, d) = row_of S (start_of (differs manner) q) rs rows.within s m in
      let z : ms ≡ r.wants = cc in
      those.closed r j w (subst (λ ms. w ∈ ms) z i) t k

  -- a situation with a permitted step that has no answer is struck out
  struck_unanswered : (i : ℕ) (d : Situation) (ms : List (List Situation)) → i < length rs → successors S (get_or (selves rs) i d) ≡ leads ms
      → unanswered ms ≡ true → get_or work (struck_at i) 0 ≡ 0 → ⊥
  unfolding StruckFirst
  struck_unanswered i d ms h e u =
      let q : Row = record { self = d; wants = [] } in
      let r : Row = get_or rs i q in
      let l = within r (get_d_∈ rs i q h) in
      let t : successors S r.self ≡ leads ms = ap (successors S) (sym (get_or-map (λ (r : Row). r.self) rs i q)) ∙ e in
      let w : r.wants ≡ ms = cc in
      (first i q h).must (ap unanswered w ∙ u)

  -- one with equal parts leads to such, and is left
  leads_equal : (s : Situation) → s ∈ selves rs → EqualParts s → LeadsToEqual manner q s
  unfolding setting_of
  leads_equal s m e =
      let (r, j, d) = row_of S (start_of (differs manner) q) rs rows.within s m in
      record {
        wants = r.wants;
        leading = d;
        some = equal_answered question q accepted manner s (those.proper s m) r.wants d e;
      }

  -- by the numbers below k: a struck one would lead to equal parts that are struck out and have a smaller number
  left_below : (k i : ℕ) → i < k → (d : Situation) → i < length rs → EqualParts (get_or (selves rs) i d) → get_or work (struck_at i) 0 ≡ 0
  unfolding StruckFirst setting_of
  left_below zero i l d h e = absurd (omega arith)
  left_below (suc k) i l d h e = go (ℕ_discrete (get_or work (struck_at i) 0) 0) (λ j m. left_below k j (omega arith))
    where
      o : Row
      o = record { self = d; wants = [] }

      go : Dec (get_or work (struck_at i) 0 ≡ 0)
          → ((j : ℕ) → j < i → (d : Situation) → j < length rs → EqualParts (get_or (selves rs) j d) → get_or work (struck_at j) 0 ≡ 0)
          → get_or work (struck_at i) 0 ≡ 0
      go (yes z) ih = z
      go (no z) ih =
          let r : Row = get_or rs i o in
          let here : Situation = get_or (selves rs) i d in
          let there : here ∈ selves rs = get_d_∈ (selves rs) i d (omega (arith, count)) in
          let x = leads_equal here there e in
          let t : successors S (get_or (selves rs) i d) ≡ leads r.wants =
          ap (successors S) (get_or-map (λ (r : Row). r.self) rs i o) ∙ within r (get_d_∈ rs i o h) in
          let same : r.wants ≡ x.wants = cc x.leading in
          let (w, m, a) = (first i o h).why z in
          let (y, n, v) = move_demanded question q accepted manner here (those.proper here there) r.wants t w m in
          let (l, f, p) = x.some y (subst (λ ms. y ∈ demands_at manner q here ms) same n) in
          let (u, g, k) = v l f in
          let (j, b, is, gone) = all-∈ _ w a u k in
          let those : get_or (selves rs) j d ≡ u = get_or-map (λ (r : Row). r.self) rs j o ∙ is o in
          absurd (gone (ih j b d (omega arith) (subst EqualParts (sym those) (p u g))))

  left_equal : (i : ℕ) (d : Situation) → i < length rs → EqualParts (get_or (selves rs) i d) → get_or work (struck_at i) 0 ≡ 0
  left_equal i d h e = left_below (length rs) i h d h e

  searching : Searching manner question capacity work (length rs)
  unfolding setting_of
  searching = record {
    field = record {
      read = q;
      accepted = accepted;
      known = selves rs;
      number = count;
      standing = standing;
      proper = those.proper;
      closed = leads_within;
      equal = leads_equal;
    };
    struck = struck_unanswered;
    equal = left_equal;
  }

  -- A field in the work area is this one: each slot has one situation.
  module _ (f : FieldIn manner question capacity work (length rs)) where
    read_is : f.read ≡ q
    read_is = result_injective (sym f.accepted ∙ accepted)

    known_is : f.known ≡ selves rs
    unfolding setting_of
    known_is = ext_get_or (start_of (differs manner) q) f.known (selves rs) (f.number ∙ sym count) (λ i h. same i h (omega (arith, f.number, count)))
      where
        same : (i : ℕ) → i < length f.known → i < length (selves rs) → get_or f.known i (start_of (differs manner) q) ≡ get_or (selves rs) i (start_of (differs manner) q)
        same i h k =
            let s : Situation = get_or f.known i (start_of (differs manner) q) in
            let t : Situation = get_or (selves rs) i (start_of (differs manner) q) in
            let a = f.standing.held i (start_of (differs manner) q) h in
            let b = holds.held i (start_of (differs manner) q) k in
            key_equal q.arities s t
            (subst (λ q. Proper name_count q.arities s) read_is (f.proper s (get_d_∈ f.known i (start_of (differs manner) q) h)))
            (those.proper t (get_d_∈ (selves rs) i (start_of (differs manner) q) k))
            (record { first = a.first; second = a.second }) (record { first = b.first; second = b.second })
            (sym (slot_key work i s a) ∙ slot_key work i t b)

  -- what exploration noted is the only answer to a step
  pub explored_sole : SoleNoted work rs → AllSole manner question capacity work (length rs)
  unfolding SoleNoted AllSole
  explored_sole sole i k h g f d ms e =
      let o : Row = record { self = d; wants = [] } in
      let r : Row = get_or rs i o in
      let l = within r (get_d_∈ rs i o h) in
      let same : r.self ≡ get_or f.known i d =
      sym (get_or-map (λ (r : Row). r.self) rs i o) ∙ ap (λ ks. get_or ks i d) (sym (known_is f)) in
      let t : successors S r.self ≡ leads ms =
      ap (successors S) same ∙ subst (λ (q : Question). successors (setting_of (differs manner) q.bodies) (get_or f.known i d) ≡ leads ms) (read_is f) e in
      let w : r.wants ≡ ms = cc in
      subst (λ ks. SoleIn ks ms (note_at work i k)) (sym (known_is f))
      (subst (λ ms. SoleIn (selves rs) ms (note_at work i k)) w (sole i k o h g))

  start-here : get_or (selves rs) 0 (start_of (differs manner) q) ≡ start_of (differs manner) q
  start-here = let (ts, e) = rows.first in ap (λ l. get_or l 0 (start_of (differs manner) q)) e

  some : 0 < length (selves rs)
  some = let (ts, e) = rows.first in omega (arith, ap length e)

  module _ (v : List ℕ) (strikes : Strikes manner question capacity (length rs) work v) where
    struck : StrikesTo demands rs (left_of v (selves rs))
    unfolding searching
    struck = strikes_to manner question capacity work rs searching refl room within first strikes

    search : Searching manner question capacity v (length rs)
    search = still manner question capacity (length rs) strikes searching

    -- the byte of slot 0
    start_left : found (left_of v (selves rs)) (start_of (differs manner) q) ≡ eqb (get_or v (struck_at 0) 0) 0
    unfolding search still still_with field-kept searching
    start_left = left-found v (selves rs) search.field.standing 0 (start_of (differs manner) q) (start_of (differs manner) q) some start-here

    none_to_strike : AllSurvive manner question capacity v (length rs) → NoneToStrike demands rs (left_of v (selves rs))
    unfolding AllSurvive SurvivesIs demands_of search still still_with field-kept searching
    none_to_strike a = record { answers = each }
      where
        each : (r : Row) → r ∈ rs → r.self ∈ left_of v (selves rs) → all_answered (left_of v (selves rs)) (demands r) ≡ true
        each r m k =
            let l = living-at (marks v (length (selves rs))) (selves rs) r.self k in
            ap (λ u. all_answered (left_of v (selves rs)) (demands_at manner q u r.wants)) (sym l.is)
            ∙ sym (a l.number (omega (arith, l.within, count))
            (sym (marks-at v (length (selves rs)) l.number 1 l.within) ∙ l.flag)
            search r.self r.wants (ap (successors S) l.is ∙ within r m))

  -- whether the start survives the rounds
  start_verdict : (r : Bool) (v : List ℕ) → StartSurvivesIs manner question capacity work (length rs) r v → found (selves (survivors demands rs)) (start_of (differs manner) q) ≡ r
  start_verdict true v s =
      let (z, a) = s.stays refl in
      sym (same-found Good decides demands rs good rows.distinct (left_of v (selves rs)) (struck v s.strikes) (none_to_strike v s.strikes a)
      (start_of (differs manner) q) start)
      ∙ start_left v s.strikes ∙ eq-eqb (get_or v (struck_at 0) 0) 0 z
  start_verdict false v s = go (found (selves (survivors demands rs)) (start_of (differs manner) q)) refl
    where
      go : (b : Bool) → found (selves (survivors demands rs)) (start_of (differs manner) q) ≡ b → found (selves (survivors demands rs)) (start_of (differs manner) q) ≡ false
      go false e = e
      go true e =
          let m = survivors-left Good decides demands rs good rows.distinct (struck v s.strikes) (start_of (differs manner) q)
          (found_survives demands Good decides rs good (start_of (differs manner) q) start e) in
          true_not_false (∈-found (left_of v (selves rs)) (start_of (differs manner) q) m)
          (start_left v s.strikes ∙ ne_eqb (get_or v (struck_at 0) 0) 0 (s.goes refl))

  pub verdict_is : (r : Bool) (v : List ℕ) → StartSurvivesIs manner question capacity work (length rs) r v → verdict_by manner q capacity ≡ cond r (same (length rs)) (different (length rs))
  unfolding verdict_by decided survivors
  verdict_is r v s =
      ap (decided demands (start_of (differs manner) q)) field ∙ ap (λ b. cond b (same (length rs)) (different (length rs))) (start_verdict r v s)

-- decide
module _ (manner : Manner) (question : List ℕ) (capacity : ℕ) (work w : List ℕ) (x : Option ℕ) (differ : Bool) (which : differ ≡ differs manner)
    (given : ExploreIs differ question capacity work x w) where
  e : ExploreIs (differs manner) question capacity work x w
  e = subst (λ d. ExploreIs d question capacity work x w) which given

  pub unsettled_is : x ≡ None → DecidesIs manner question capacity work Unsettled w
  unfolding verdict_told verdict_by decided Explores
  unsettled_is h = record { rest = e.rest; is = λ q a. go q (field_of (setting_of (differs manner) q.bodies) capacity (start_of (differs manner) q)) refl (e.is q a) }
    where
      go : (q : Question) (y : Exploration) → field_of (setting_of (differs manner) q.bodies) capacity (start_of (differs manner) q) ≡ y → Explores y x w
          → verdict_told Unsettled ≡ verdict_by manner q capacity
      go q incomplete f k = sym (ap (decided (demands_of manner (setting_of (differs manner) q.bodies)) (start_of (differs manner) q)) f)
      go q (explored rs) f k = let z : ◌≡◌ {A = ℕ} 0 1 = cc k.0 in absurd (omega arith)

  -- what is noted when strike-out begins
  pub sole_all : (n : ℕ) → x ≡ Some n → slot_bytes * capacity ≤ length w → AllSole manner question capacity w n
  unfolding AllSole Explores
  sole_all n h room i k l g f =
      go f.read f.accepted (field_of (setting_of (differs manner) f.read.bodies) capacity (start_of (differs manner) f.read)) refl (e.is f.read f.accepted) i k l g f
    where
      go : (q : Question) → check_of question ≡ result q → (y : Exploration) → field_of (setting_of (differs manner) q.bodies) capacity (start_of (differs manner) q) ≡ y → Explores y x w
          → AllSole manner question capacity w n
      go q a incomplete f k = let z : ◌≡◌ {A = ℕ} 0 1 = cc in absurd (omega arith)
      go q a (explored rs) f k =
          let z : n ≡ length rs = cc k.0 in
          subst (AllSole manner question capacity w) (sym z)
          (explored_sole manner question q a capacity rs f w k.1 k.2 (subst (Chained capacity w) z (e.chained q a n h)) (omega (arith, (e.within n h).1)) k.3)

  module _ (n : ℕ) (h : x ≡ Some n) (room : slot_bytes * capacity ≤ length w) (r : Bool) (u : List ℕ) (s : StartSurvivesIs manner question capacity w n r u) where
    settled : (o : told.Verdict) → verdict_told o ≡ cond r (same n) (different n) → DecidesIs manner question capacity work o u
    unfolding Explores
    settled o j = record {
      rest = strikes_rest manner question capacity n capacity (e.within n h).1 s.strikes ∙ e.rest;
      is = λ q a. go q a (field_of (setting_of (differs manner) q.bodies) capacity (start_of (differs manner) q)) refl (e.is q a);
    }
      where
        go : (q : Question) → check_of question ≡ result q → (y : Exploration) → field_of (setting_of (differs manner) q.bodies) capacity (start_of (differs manner) q) ≡ y → Explores y x w
            → verdict_told o ≡ verdict_by manner q capacity
        go q a incomplete f k = let z : ◌≡◌ {A = ℕ} 0 1 = cc in absurd (omega arith)
        go q a (explored rs) f k =
            let z : n ≡ length rs = cc k.0 in
            j ∙ ap (λ m. cond r (same m) (different m)) z
            ∙ sym (verdict_is manner question q a capacity rs f w k.1 k.2 (subst (Chained capacity w) z (e.chained q a n h)) (omega (arith, (e.within n h).1)) r u
            (subst (λ m. StartSurvivesIs manner question capacity w m r u) z s))

    pub same_is : r ≡ true → DecidesIs manner question capacity work (Same n) u
    unfolding verdict_told
    same_is t = settled (Same n) (ap (λ b. cond b (same n) (different n)) (sym t))

    pub different_is : r ≡ false → DecidesIs manner question capacity work (Different n) u
    unfolding verdict_told
    different_is t = settled (Different n) (ap (λ b. cond b (same n) (different n)) (sym t))
