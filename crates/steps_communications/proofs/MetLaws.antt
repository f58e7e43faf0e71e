-- A communication of two components of a part: its result is the part with their own results in their places. Assumes nothing.
use borrow.Author.Tests.{ltb-true, ltb-false, leb-true, leb-false}
use mathlib.Core.Bool.{Bool, true, false, cond}
use mathlib.Core.List.{List, [], ◌∷◌, ◌++◌, append_assoc}
use mathlib.Core.Path.{◌≡◌, refl, sym, ap, ap₂, subst, ◌∙◌}
use Prim.Native.Nat.{ℕ, zero, suc, ◌+◌, ◌<◌}
use native.Mathlib.Omega.{arith}
use lib.Dec.{ltb, leb}
use lib.ListN.{length, get_or, drop, length-append}
use lib.Seq.{drop_at}
use Rattle.calculus.specs.Abstraction.{Act, tau_a, inp_a, out_a, bout_a, weak, swap}
use Rattle.calculus.specs.Cond.{Cond, map_p}
use Rattle.calculus.specs.Term.{Term, par, res, ren}
use Rattle.terms.specs.Encoding.{encode, InScope}
use Rattle.terms.specs.Limits.{name_count}
use Rattle.terms_bytes.specs.NameTable.{table_names, last_name}
use Rattle.terms.specs.Question.{Question}
use Rattle.terms.specs.Question.{body_of}
use Rattle.steps_conditions.specs.Names.{HasNew}
use Rattle.steps.specs.Raw.{Candidate, step, blocked, left_steps, right_steps, restricted_alone, outside, restricted_action, restricted, visible}
use Rattle.steps_plans.specs.Plans.{receiving}
use Rattle.steps_conditions.specs.Slots.{slot_of}
use Rattle.steps_tallies.specs.Candidates.{candidates}
use Rattle.steps_tallies.specs.Tally.{TallyIs}
use Rattle.steps_tallies.proofs.OwnNames.{own_part}
use Rattle.steps_tallies.proofs.FrontLaws.{stands}
use Rattle.steps_conditions.proofs.NameSlots.{slot_bound, slot_free, new-beneath}
use Rattle.steps_splicing.specs.Contexts.{Frame, left_of, right_of, beneath, fill, raised, level_in, restrictions, before_in, behind_in, bytes_before, bytes_behind, Placed}
use Rattle.steps_splicing.specs.Locating.{Component, Leads, Holes, Unextruded, table_slot}
use Rattle.steps_splicing.specs.ListedParts.{Lists}
use Rattle.steps_splicing.specs.PlacedResults.{Unopened}
use Rattle.steps_splicing.specs.declared.locate.Located.{Located}
use Rattle.steps_splicing.proofs.ContextLaws.{fill-bytes, fill_bytes_in, level_before, placed-left, placed_right, placed-bytes, placed_depth}
use Rattle.steps_splicing.proofs.PlacedResults.{raised_never, filled_result}
use Rattle.steps_placing.specs.Taking.{candidates_of}
use Rattle.steps_placing.proofs.ResultScope.{silent_scope}
use Rattle.steps_communications.specs.Met.{ComponentsAre, Communicates}
use Rattle.steps_communications.specs.declared.meet.Components.{Components}
use Rattle.steps_communications.specs.declared.meet.Node.{Node}
use Rattle.steps_communications.specs.declared.meet.Pair.{Pair}

-- An output stays one.
abbrev Sends : Act → Type 0
Sends tau_a = ⊥
Sends (inp_a a) = ⊥
Sends (out_a a b) = Unit {0}
Sends (bout_a a) = Unit {0}

abbrev StaysOutput : List Frame → Type 0
StaysOutput K = (M : Cond) (γ : Act) (A : Term) (M' : Cond) (α : Act) (A' : Term) → Sends γ → raised K (step M γ A) ≡ step M' α A' → Sends α

stays_output : (K : List Frame) → StaysOutput K
unfolding raised left_steps right_steps restricted restricted_action
stays_output [] M γ A M' α A' s e = let f : γ ≡ α = cc in subst Sends f s
stays_output (left_of Q ∷ K) M γ A M' α A' s e = stays_output K M γ (par A (weak γ Q)) M' α A' s e
stays_output (right_of P ∷ K) M γ A M' α A' s e = stays_output K M γ (par (weak γ P) A) M' α A' s e
stays_output (beneath ∷ K) M γ A M' α A' s e = go (stays_output K) (restricted_alone M) γ s e
  where
    go : StaysOutput K → (t : Bool) (γ : Act) → Sends γ → raised K (cond t (restricted_action (map_p outside M) γ A) blocked) ≡ step M' α A' → Sends α
    go f false γ s e = raised_never K M' α A' e
    go f true tau_a s e = absurd s
    go f true (inp_a a) s e = absurd s
    go f true (out_a zero b) s e = raised_never K M' α A' e
    go f true (out_a (suc a) zero) s e = f (map_p outside M) (bout_a a) A M' α A' tt e
    go f true (out_a (suc a) (suc b)) s e = f (map_p outside M) (out_a a b) (res A) M' α A' tt e
    go f true (bout_a zero) s e = raised_never K M' α A' e
    go f true (bout_a (suc a)) s e = f (map_p outside M) (bout_a a) (res (ren swap A)) M' α A' tt e

-- [Open] has not applied where no name is extruded.
pub unopened_of : (K : List Frame) (M : Cond) (γ : Act) (A : Term) (M' : Cond) (α : Act) (A' : Term) → raised K (step M γ A) ≡ step M' α A' → Unextruded α → Unopened γ α
unfolding Unopened Unextruded
unopened_of K M tau_a A M' α A' e u = tt
unopened_of K M (inp_a a) A M' α A' e u = tt
unopened_of K M (bout_a a) A M' α A' e u = tt
unopened_of K M (out_a a b) A M' tau_a A' e u = absurd (stays_output K M (out_a a b) A M' tau_a A' tt e)
unopened_of K M (out_a a b) A M' (inp_a c) A' e u = absurd (stays_output K M (out_a a b) A M' (inp_a c) A' tt e)
unopened_of K M (out_a a b) A M' (out_a c d) A' e u = tt
unopened_of K M (out_a a b) A M' (bout_a c) A' e u = absurd u

-- The slot of a name stays, however many restrictions it is beneath.
new-raised : (K : List Frame) (d new y : ℕ) → HasNew d new y → HasNew (level_in d K) new (restrictions K + y)
unfolding level_in
new-raised [] d new y h = let e : y ≡ 0 + y = omega arith in subst (λ (n : ℕ). HasNew d new n) e h
new-raised (left_of Q ∷ K) d new y h = new-raised K d new y h
new-raised (right_of P ∷ K) d new y h = new-raised K d new y h
new-raised (beneath ∷ K) d new y h =
    let e : 1 + level_in d K ≡ suc (level_in d K) = omega arith in
    let f : suc (restrictions K + y) ≡ suc (restrictions K) + y = omega arith in
    subst (λ (n : ℕ). HasNew (suc (level_in d K)) new n) f
    (subst (λ (n : ℕ). HasNew n new (suc (restrictions K + y))) e (new-beneath (level_in d K) new (restrictions K + y) (new-raised K d new y h)))

-- The name that is sent, by its slot in rows.
pub new_sent : (d y object : ℕ) → slot_of name_count d y ≡ object → y < d + name_count → HasNew d (table_slot object) y
unfolding HasNew table_slot
new_sent d y object e h = (go (ltb y d) refl (leb object last_name) refl, omega arith)
  where
    go : (b : Bool) → ltb y d ≡ b → (c : Bool) → leb object last_name ≡ c → cond c object (object + 1) ≡ slot_of table_names d y
    go true b true c =
        let l = ltb-true y d b in let k = leb-true object last_name c in absurd (omega (arith, slot_bound name_count d y l))
    go true b false c = let l = ltb-true y d b in omega (arith, slot_bound name_count d y l, slot_bound table_names d y l)
    go false b true c = let l = ltb-false y d b in omega (arith, slot_free name_count d y l, slot_free table_names d y l)
    go false b false c =
        let l = ltb-false y d b in let k = leb-false object last_name c in absurd (omega (arith, slot_free name_count d y l))

-- What a step is raised from.
pub record From (K : List Frame) (c : Candidate) (M : Cond) (α : Act) (A : Term) : Type 0 where
  pub condition : Cond
  pub action : Act
  pub result : Term
  pub own : c ≡ step condition action result
  pub is : raised K (step condition action result) ≡ step M α A

pub raised_from : (K : List Frame) (c : Candidate) (M : Cond) (α : Act) (A : Term) → raised K c ≡ step M α A → From K c M α A
raised_from K (step N γ T) M α A e = record { condition = N; action = γ; result = T; own = refl; is = e }
raised_from K blocked M α A e = raised_never K M α A e

-- The bytes of a part whose parallel has two components.
module _ (K : List Frame) (d : ℕ) (level : restrictions K ≡ d) (J : List Frame) (I : List Frame) where
  abbrev first_bytes : List ℕ
  first_bytes = bytes_before K ++ (7 ∷ before_in d J)

  abbrev between_bytes : List ℕ
  between_bytes = behind_in d J ++ before_in d I

  abbrev last_bytes : List ℕ
  last_bytes = behind_in d I ++ bytes_behind K

  pair_bytes_lem : (A B : Term) → encode 0 (fill K (par (fill J A) (fill I B)))
      ≡ first_bytes ++ (encode (level_in d J) A ++ (between_bytes ++ (encode (level_in d I) B ++ last_bytes)))
  unfolding encode
  pair_bytes_lem A B =
      fill-bytes K (par (fill J A) (fill I B))
      ∙ ap (λ (n : ℕ). bytes_before K ++ (encode n (par (fill J A) (fill I B)) ++ bytes_behind K)) level
      ∙ ap₂ (λ (l r : List ℕ). bytes_before K ++ ((7 ∷ (l ++ r)) ++ bytes_behind K)) (fill_bytes_in d J A) (fill_bytes_in d I B)
      ∙ simp append_assoc

-- One side: its component and the component's step.
record Sided (q : Question) (at d : ℕ) (C : Term) (α : Act) (A : Term) (y new : ℕ) (l : Located) : Type 0 where
  frames : List Frame
  term : Term
  whole : fill frames term ≡ C
  level : level_in d frames ≡ l.depth
  place : at + length (before_in d frames) ≡ l.at
  scope : InScope name_count q.arities l.depth term
  name : ℕ
  received : HasNew l.depth new name
  condition : Cond
  action : Act
  result : Term
  own : get_or (visible (body_of q.bodies) 1 term) l.number blocked ≡ step condition action result
  filled : ren (receiving y (λ n. n) α) A ≡ fill frames (ren (receiving name (λ n. n) action) result)

-- [Open] does not apply on the way out of the component.
pub record Unopens (q : Question) (s : List ℕ) (at d : ℕ) (C : Term) (c : Candidate) (l : Located) (α : Act) : Type 0 where
  pub is : (E : Component q s at d C c l.at l.depth l.number) (N : Cond) (γ : Act) (T : Term) (M : Cond) (A : Term)
      → get_or (visible (body_of q.bodies) 1 E.term) l.number blocked ≡ step N γ T → raised E.frames (step N γ T) ≡ step M α A → Unopened γ α

pub unextruded_unopens : (q : Question) (s : List ℕ) (at d : ℕ) (C : Term) (c : Candidate) (l : Located) (α : Act) → Unextruded α → Unopens q s at d C c l α
unextruded_unopens q s at d C c l α u = record { is = λ E N γ T M A _ e. unopened_of E.frames N γ T M α A e u }

sided : (q : Question) (s : List ℕ) (at d : ℕ) (C : Term) (c : Candidate) (l : Located) → Component q s at d C c l.at l.depth l.number
    → (M : Cond) (α : Act) (A : Term) → c ≡ step M α A → Unopens q s at d C c l α → (y new : ℕ) → HasNew d new y → Sided q at d C α A y new l
sided q s at d C c l E M α A e u y new h =
    let K = E.frames in
    let F = raised_from K (get_or (visible (body_of q.bodies) 1 E.term) l.number blocked) M α A (sym E.candidate ∙ e) in
    record {
      frames = K;
      term = E.term;
      whole = E.whole;
      level = E.level;
      place = E.place;
      scope = E.scope;
      name = restrictions K + y;
      received = subst (λ (n : ℕ). HasNew n new (restrictions K + y)) E.level (new-raised K d new y h);
      condition = F.condition;
      action = F.action;
      result = F.result;
      own = F.own;
      filled = filled_result K M α A y F.condition F.action F.result F.is
          (u.is E F.condition F.action F.result M A F.own F.is);
    }

module _ (question part : List ℕ) (at depth m : ℕ) (left right : Located) (q : Question) (P : Term) (x : ℕ) (lists : Lists question part x q P) (K : List Frame)
    (L R : Term) (first number : ℕ) (p : Placed q.arities (body_of q.bodies) P K (par L R) at depth first number) (α : Act) (A : Term) (β : Act) (B : Term)
    (y new : ℕ) (l : Sided q (at + 1) depth L α A y new left) (r : Sided q m depth R β B y new right) (ends : m ≡ at + 1 + length (encode depth L)) where
  abbrev J : List Frame
  J = l.frames

  abbrev I : List Frame
  I = r.frames

  abbrev X : Term
  X = ren (receiving l.name (λ n. n) l.action) l.result

  abbrev Y : Term
  Y = ren (receiving r.name (λ n. n) r.action) r.result

  abbrev start : List ℕ
  start = first_bytes K depth p.level J I

  abbrev centre : List ℕ
  centre = between_bytes K depth p.level J I

  abbrev finish : List ℕ
  finish = last_bytes K depth p.level J I

  -- the part's bytes, and those of the result
  bytes : (C D : Term) → encode 0 (fill K (par (fill J C) (fill I D)))
      ≡ start ++ (encode left.depth C ++ (centre ++ (encode right.depth D ++ finish)))
  bytes C D =
      pair_bytes_lem K depth p.level J I C D
      ∙ ap₂ (λ (d e : ℕ). start ++ (encode d C ++ (centre ++ (encode e D ++ finish)))) l.level r.level

  split : part ≡ start ++ (encode left.depth l.term ++ (centre ++ (encode right.depth r.term ++ finish)))
  split =
      lists.bytes ∙ ap (encode 0) (sym p.whole) ∙ ap₂ (λ (C D : Term). encode 0 (fill K (par C D))) (sym l.whole) (sym r.whole)
      ∙ bytes l.term r.term

  start-length : length start ≡ left.at
  start-length = omega (arith, p.place, l.place, length-append (bytes_before K) (7 ∷ before_in depth J))

  side_length : length (encode depth L) ≡ length (before_in depth J) + (length (encode left.depth l.term) + length (behind_in depth J))
  side_length =
      ap (λ (C : Term). length (encode depth C)) (sym l.whole) ∙ ap length (fill_bytes_in depth J l.term)
      ∙ ap (λ (d : ℕ). length (before_in depth J ++ (encode d l.term ++ behind_in depth J))) l.level
      ∙ length-append (before_in depth J) (encode left.depth l.term ++ behind_in depth J)
      ∙ ap (λ (n : ℕ). length (before_in depth J) + n) (length-append (encode left.depth l.term) (behind_in depth J))

  centre-length : length centre ≡ length (behind_in depth J) + length (before_in depth I)
  centre-length = length-append (behind_in depth J) (before_in depth I)

  abbrev passed : ℕ
  passed = left.at + length (encode left.depth l.term)

  from_passed : drop passed part ≡ centre ++ (encode right.depth r.term ++ finish)
  from_passed =
      ap (drop passed) (split ∙ sym (append_assoc start (encode left.depth l.term) (centre ++ (encode right.depth r.term ++ finish))))
      ∙ drop_at (start ++ encode left.depth l.term) (centre ++ (encode right.depth r.term ++ finish)) passed
      (omega (arith, start-length, length-append start (encode left.depth l.term)))

  holes : (W : Term) → W ≡ fill K (par (fill J X) (fill I Y)) → Holes q part left right new (encode 0 W)
  holes W e = record {
    first = start;
    one = encode left.depth X;
    rest = centre ++ (encode right.depth r.term ++ finish);
    left_hole = record {
      term = l.term;
      bytes = split;
      place = omega (arith, start-length);
      scope = l.scope;
      name = l.name;
      received = l.received;
      condition = l.condition;
      action = l.action;
      result = l.result;
      own = l.own;
      is = refl;
    };
    end = passed;
    ends = refl;
    between = centre;
    two = encode right.depth Y;
    last = finish;
    right_hole = record {
      term = r.term;
      bytes = from_passed;
      place = omega (arith, l.place, r.place, ends, side_length, centre-length);
      scope = r.scope;
      name = r.name;
      received = r.received;
      condition = r.condition;
      action = r.action;
      result = r.result;
      own = r.own;
      is = refl;
    };
    left_deep = omega (arith, l.level, l.place, p.place, start-length, placed_depth p, level_before depth J);
    right_deep = omega (arith, r.level, l.place, p.place, start-length, centre-length, placed_depth p, level_before depth I);
    is = ap (encode 0) e ∙ bytes X Y;
  }

-- A communication as a candidate of the part.
module _ (question part : List ℕ) (node : Node) (pair : Pair) (q : Question) (P : Term) (M : Cond) (W : Term) (C : Communicates question part node pair q P M W) where
  pub met-numbered : get_or (candidates_of true q P) (node.number + pair.number) blocked ≡ step M tau_a W
  unfolding candidates_of candidates
  met-numbered = C.placed.silently.is pair.number C.number ∙ ap (raised C.frames) C.numbered ∙ C.is

  pub met_scope : InScope name_count q.arities 0 W
  unfolding candidates_of candidates
  met_scope = silent_scope question q P C.lists.accepted C.lists.scope (node.number + pair.number) M W met-numbered

-- The two sides of a communication, where the name y is received: its slot is `new`.
module _ (question part tally : List ℕ) (T : TallyIs question part 1 tally) (node : Node) (pair : Pair) (both : Components) (E : ComponentsAre part tally node pair both)
    (q : Question) (P : Term) (M : Cond) (W : Term) (C : Communicates question part node pair q P M W) where
  abbrev pub body : ℕ → Term
  body = body_of q.bodies

  abbrev pub LeftUnopens : Type 0
  LeftUnopens = Unopens q part (node.at + 1) node.depth C.left (get_or (visible body 1 C.left) pair.left.number blocked) both.left C.left_act

  abbrev pub RightUnopens : Type 0
  RightUnopens = Unopens q part E.middle node.depth C.right (get_or (visible body 1 C.right) pair.right.number blocked) both.right C.right_act

  -- the part's result without a restriction that [Close] puts around the sides
  abbrev pub met_term : ℕ → Term
  met_term y = fill C.frames (par (ren (receiving y (λ n. n) C.left_act) C.left_result) (ren (receiving y (λ n. n) C.right_act) C.right_result))

  pub met_holes : (y new : ℕ) → HasNew node.depth new y → LeftUnopens → RightUnopens → Holes q part both.left both.right new (encode 0 (met_term y))
  unfolding Leads
  met_holes y new h ul ur =
      let K = C.frames in
      let L = C.left in
      let R = C.right in
      let at = node.at in
      let d = node.depth in
      let p = C.placed in
      let pl = placed-left p in
      let pr = placed_right p in
      let bl = placed-bytes C.lists pl in
      let br = placed-bytes C.lists pr in
      let ends : E.middle ≡ at + 1 + length (encode d L) =
      E.ends.is (omega (arith, stands part (at + 1) d L (bytes_behind (left_of R ∷ K)) bl))
      ∙ (T.is q (at + 1) name_count d (λ n. n) (own_part 1) L (bytes_behind (left_of R ∷ K)) C.lists.accepted pl.scope bl).2 in
      let cl = E.left.is question T q L (bytes_behind (left_of R ∷ K)) C.lists.accepted pl.scope bl C.left_inside in
      let cr = E.right.is question T q R (bytes_behind (right_of L ∷ K)) C.lists.accepted pr.scope (ap (λ (k : ℕ). drop k part) ends ∙ br) C.right_inside in
      let l = sided q part (at + 1) d L (get_or (visible body 1 L) pair.left.number blocked) both.left cl C.left_cond C.left_act C.left_result C.left_step ul y new h in
      let r = sided q part E.middle d R (get_or (visible body 1 R) pair.right.number blocked) both.right cr C.right_cond C.right_act C.right_result C.right_step ur y new h in
      holes question part at d E.middle both.left both.right q P node.x C.lists K L R C.first node.number p C.left_act C.left_result C.right_act C.right_result
      y new l r ends (met_term y) (ap₂ (λ (X Y : Term). fill K (par X Y)) l.filled r.filled)
