-- The communications of a parallel put into the list, row by row of the left side and pair by pair. Assumes nothing.
use borrow.Author.Tests.{eqb-true, eqb-false}
use mathlib.Core.Bool.{Bool, true, false}
use mathlib.Core.List.{List, [], ◌∷◌, ◌++◌, map, append-nil, append_assoc}
use mathlib.Core.Logic.{◌⊎◌, inl, inr}
use mathlib.Core.Path.{◌≡◌, refl, sym, ◌∙◌, ap, subst}
use native.Mathlib.Nat.{suc-mul, zero-mul, mul-le-mul_right}
use native.Mathlib.Numerals.{add-one}
use native.Mathlib.Omega.{arith}
use Prim.Native.Nat.{ℕ, zero, suc, ◌+◌, ◌*◌, ◌-◌, ◌<◌, ◌≤◌}
use lib.Dec.{eqb}
use lib.ListN.{length, get_or, take, drop, length-map, take-append-drop}
use lib.Seq.{take-suc, take_all}
use Rattle.std.specs.Prelude.{Option, Some, None}
use Rattle.calculus.specs.Term.{Term, par}
use Rattle.calculus.proofs.Renaming.{map-++}
use Rattle.terms.specs.Limits.{name_count, longest_term}
use Rattle.terms.specs.Question.{Question}
use Rattle.terms.specs.Question.{body_of}
use Rattle.steps.specs.Forms.{result_form}
use Rattle.calculus.specs.Lists.{◌∈◌, Among}
use Rattle.steps_tallies.specs.Candidates.{candidates}
use Rattle.steps.specs.Raw.{Candidate, blocked, communication, communications, visible, silent}
use Rattle.calculus.proofs.Membership.{∈-left, ∈_right, ∈-map, ∈-mapped, take-map}
use Rattle.steps_tallies.proofs.Numbering.{nth_by, not_met, length-communications, nth_communication}
use Rattle.steps_passing.proofs.TwoSides.{sides_par}
use Rattle.steps_splicing.specs.Collecting.{Found, PutIs, CollectIs}
use Rattle.steps_splicing.specs.Contexts.{Frame, raised, restrictions, Placed}
use Rattle.steps_placing.specs.Deciding.{decided, Again}
use Rattle.steps.specs.Limits.{most_steps}
use Rattle.steps.specs.Listing.{collect}
use Rattle.steps.specs.Listed.{ListedStep}
use Rattle.steps_communications.specs.Meeting.{may_meet, MetInside, met_or, NextMetIs, Unblocked, PairIs, MeetRowIs}
use Rattle.steps_splicing.specs.ListedParts.{Lists}
use Rattle.steps_rows.specs.Rows.{kind_at, channel_at, object_at, Row, RowsBehind, Rows}
use Rattle.steps_communications.specs.Met.{MeetsIs}
use Rattle.steps_placing.proofs.CollectLaws.{put-blocked, collect-none, collect_then, collect_over, collect-again, Progresses, progress_start, progress_step, progress_again, progress_done, progress_passed}
use Rattle.steps_splicing.proofs.ContextLaws.{raised-blocked}
use Rattle.steps_placing.proofs.DecidingLaws.{decided-communication, met-blocked, again_by, again-raised}
use Rattle.steps_communications.proofs.MeetLaws.{meets_new, pair_apart}

-- The communications of s with each of ts, as candidates of the whole.
abbrev pub met : List Frame → Candidate → List Candidate → List Candidate
met K s ts = map (raised K) (map (communication s) ts)

length-met : (K : List Frame) (s : Candidate) (ts : List Candidate) → length (met K s ts) ≡ length ts
length-met K s ts = length-map (map (communication s) ts) (raised K) ∙ length-map ts (communication s)

nth_met : (K : List Frame) (s : Candidate) (ts : List Candidate) (w : ℕ) → get_or (met K s ts) w blocked ≡ raised K (communication s (get_or ts w blocked))
nth_met K s ts w = nth_by (raised K) (raised-blocked K) (map (communication s) ts) w ∙ ap (raised K) (nth_by (communication s) (not_met s) ts w)

-- Those that are blocked in the end are none.
collect-blocked : (x : ℕ) (K : List Frame) (s : Candidate) → ((t : Candidate) → raised K (communication s t) ≡ blocked) → (ts : List Candidate) (found : List ListedStep)
    → collect result_form name_count longest_term x (met K s ts) found ≡ found
unfolding collect
collect-blocked x K s e [] found = refl
collect-blocked x K s e (t ∷ ts) found =
    ap (λ c. collect result_form name_count longest_term x (c ∷ met K s ts) found) (e t) ∙ collect-blocked x K s e ts found

collect_stopped : (x : ℕ) (K : List Frame) (d : ℕ) → restrictions K ≡ d → (s : Candidate) → decided d s ≡ blocked → (ts : List Candidate) (area : List ℕ) (count : ℕ) → count ≤ most_steps
    → CollectIs (met K s ts) x area count count area
unfolding CollectIs collect communication
collect_stopped x K d level s e ts area count h found stood =
    subst (λ l. Found l count area)
    (sym (collect-blocked x K s (λ t. met-blocked K d level s t (ap (λ c. raised K (communication c (decided d t))) e ∙ raised-blocked K)) ts found))
    (collect-none x area count h found stood)

-- Those of a candidate that is one of us are among those of us.
communications-among : (ts us : List Candidate) (s : Candidate) → s ∈ us → Among (map (communication s) ts) (communications us ts)
unfolding communications
communications-among ts [] s x3 c i = elim x3 [ ]
communications-among ts (u ∷ us) s (inl e) c i =
    ∈-left c (map (communication u) ts) (communications us ts) (subst (λ v. c ∈ map (communication v) ts) e i)
communications-among ts (u ∷ us) s (inr m) c i =
    ∈_right c (map (communication u) ts) (communications us ts) (communications-among ts us s m c i)

-- What adds no step on one side adds none in a communication.
module _ (d : ℕ) where
  again_right : (s t : Candidate) (ts : List Candidate) → Again d t ts → Again d (communication s t) (map (communication s) ts)
  unfolding decided
  again_right s =
      again_by d d (communication s) (λ t. decided d (communication (decided d s) t)) (decided-communication d s) (ap (decided d) (not_met (decided d s)))

  again-left : (ts us : List Candidate) (s : Candidate) → Again d s us → (c : Candidate) → c ∈ map (communication s) ts → Again d c (communications us ts)
  unfolding Again decided communication
  again-left ts us s h c m = let (t, i, e) = ∈-mapped (communication s) c ts m in go h t i e
    where
      go : (decided d s ≡ blocked) ⊎ ((u : Candidate) × (u ∈ us) × (decided d s ≡ decided d u)) → (t : Candidate) → t ∈ ts → c ≡ communication s t
          → (decided d c ≡ blocked) ⊎ ((b : Candidate) × (b ∈ communications us ts) × (decided d c ≡ decided d b))
      go (inl f) t i e = inl (ap (decided d) e ∙ decided-communication d s t ∙ ap (λ a. decided d (communication a (decided d t))) f)
      go (inr (u, n, f)) t i e =
          inr (
            communication u t,
            communications-among ts us u n (communication u t) (∈-map (communication u) t ts i),
            ap (decided d) e ∙ decided-communication d s t ∙ ap (λ a. decided d (communication a (decided d t))) f ∙ sym (decided-communication d u t),
          )

-- A row of the left side.
module _ (question part : List ℕ) (at depth number x : ℕ) (rows : List ℕ) (row left middle last j : ℕ) (area₀ : List ℕ) (count : ℕ) where
  pub record RowCase (q : Question) (P : Term) (K : List Frame) (L R : Term) (first : ℕ) (s : Candidate) : Type 0 where
    pub lists : Lists question part x q P
    pub placed : Placed q.arities (body_of q.bodies) P K (par L R) at depth first number
    pub number_left : left < length (visible (body_of q.bodies) 1 L)
    pub is_left : s ≡ get_or (visible (body_of q.bodies) 1 L) left blocked
    pub left_row : Row depth s rows row
    pub right : Rows depth (visible (body_of q.bodies) 1 R) rows middle
    pub ends : last ≡ middle + length (visible (body_of q.bodies) 1 R)
    pub inside : j + length (visible (body_of q.bodies) 1 R) ≤ length (silent (body_of q.bodies) 1 (par L R))
    pub numbers : (w : ℕ) → w < length (visible (body_of q.bodies) 1 R)
        → get_or (silent (body_of q.bodies) 1 (par L R)) (j + w) blocked ≡ communication s (get_or (visible (body_of q.bodies) 1 R) w blocked)

  -- The pairs with the right rows before number w have been put into the list.
  abbrev pub Paired : ℕ → ℕ → List ℕ → Type 0
  Paired w n area = (q : Question) (P : Term) (K : List Frame) (L R : Term) (first : ℕ) (s : Candidate) → RowCase q P K L R first s
      → Progresses (met K s (visible (body_of q.bodies) 1 R)) x area₀ count (w - middle) n area

  -- The pairs before the row that an answer says have been put into the list, and that row may meet; all have, where it says none.
  abbrev pub Next : Option ℕ → ℕ → List ℕ → Type 0
  Next (Some w) n area = (middle ≤ w) × (w < last) × Paired w n area × (may_meet (kind_at rows row) (channel_at rows row) (kind_at rows w) (channel_at rows w) ≡ true)
  Next None n area = Paired last n area

  pub next_of : (next other : Option ℕ) → next ≡ other → (n : ℕ) (area : List ℕ) → Next next n area → Next other n area
  next_of next other e n area p = coe 0 1 (i. Next (e i) n area) p

  pub paired_start : Paired middle count area₀
  paired_start q P K L R first s c =
      let e : 0 ≡ middle - middle = omega arith in
      subst (λ i. Progresses (met K s (visible (body_of q.bodies) 1 R)) x area₀ count i count area₀) e
      (progress_start (met K s (visible (body_of q.bodies) 1 R)) x area₀ count)

  row_is : (r : ℕ) (area : List ℕ) → (kind_at rows row ≡ 4 → ⊥)
      → ((q : Question) (P : Term) (K : List Frame) (L R : Term) (first : ℕ) (s : Candidate) → RowCase q P K L R first s → CollectIs (met K s (visible (body_of q.bodies) 1 R)) x area₀ count r area)
      → MeetRowIs question part at depth number x rows row left middle last j area₀ count r area
  row_is r area new f = record {
    is = λ q P l K L R first p s i g _ u v e h n.
        f q P K L R first s (record { lists = l; placed = p; number_left = i; is_left = g; left_row = u; right = v; ends = e; inside = h; numbers = n });
    over = λ e. absurd (new e);
  }

  -- A candidate that adds no step.
  pub row-again : kind_at rows row ≡ 4 → MeetRowIs question part at depth number x rows row left middle last j area₀ count count area₀
  row-again e = record { is = λ q P l K L R first p s i g new u v f h n. absurd (new e); over = λ _. (refl, refl) }

  -- A candidate on a channel that is restricted further in.
  pub row_inner : count ≤ most_steps → (kind_at rows row ≡ 4 → ⊥) → name_count + depth ≤ channel_at rows row
      → MeetRowIs question part at depth number x rows row left middle last j area₀ count count area₀
  unfolding Row
  row_inner few new h = row_is count area₀ new (λ q P K L R first s c.
      collect_stopped x K depth c.placed.level s ((c.left_row new).inner h) (visible (body_of q.bodies) 1 R) area₀ count few)

  module _ (new : kind_at rows row ≡ 4 → ⊥) (known : channel_at rows row < name_count + depth) (w n : ℕ) (area : List ℕ) (paired : Paired w n area) (on : middle ≤ w) where
    module _ (q : Question) (P : Term) (K : List Frame) (L R : Term) (first : ℕ) (s : Candidate) (c : RowCase q P K L R first s) (h : w < last) where
      abbrev ts : List Candidate
      ts = visible (body_of q.bodies) 1 R

      abbrev t : Candidate
      t = get_or (visible (body_of q.bodies) 1 R) (w - middle) blocked

      within : w - middle < length ts
      within = omega (arith, c.ends)

      within_met : w - middle < length (met K s ts)
      within_met = omega (arith, length-met K s ts, within)

      unblocked : Unblocked depth (decided depth s) (kind_at rows row) (channel_at rows row) (object_at rows row)
      unfolding Unblocked Row
      unblocked = (c.left_row new, known)

      other : Row depth t rows w
      unfolding RowsBehind
      other = let e : middle + (w - middle) ≡ w = omega arith in subst (λ i. Row depth t rows i) e (c.right (w - middle) within).0

      -- if it adds no step, neither does the communication with it
      earlier : kind_at rows w ≡ 4 → Again 0 (get_or (met K s ts) (w - middle) blocked) (take (w - middle) (met K s ts))
      unfolding RowsBehind
      earlier f =
          let i : ℕ = w - middle in
          let e : middle + (w - middle) ≡ w = omega arith in
          let m : Again depth t (take (w - middle) ts) = (c.right (w - middle) within).1 (ap (kind_at rows) e ∙ f) in
          let l : take i (met K s ts) ≡ met K s (take i ts) = take-map (raised K) i (map (communication s) ts) ∙ ap (map (raised K)) (take-map (communication s) i ts) in
          subst (λ d. Again 0 d (take i (met K s ts))) (sym (nth_met K s ts i))
          (subst (λ cs. Again 0 (raised K (communication s t)) cs) (sym l)
          (again-raised K depth c.placed.level (communication s t) (map (communication s) (take i ts)) (again_right depth s t (take i ts) m)))

    pair_next : n ≤ most_steps → w < last → may_meet (kind_at rows row) (channel_at rows row) (kind_at rows w) (channel_at rows w) ≡ false
        → Paired (w + 1) n area
    unfolding Row PutIs Unblocked
    pair_next few h m q P K L R first s c =
        let i : w - middle + 1 ≡ w + 1 - middle = omega arith in
        subst (λ i. Progresses (met K s (visible (body_of q.bodies) 1 R)) x area₀ count i n area) i (go (eqb (kind_at rows w) 4) refl)
      where
        go : (b : Bool) → eqb (kind_at rows w) 4 ≡ b → Progresses (met K s (visible (body_of q.bodies) 1 R)) x area₀ count (w - middle + 1) n area
        go true b =
            progress_again (met K s (visible (body_of q.bodies) 1 R)) x area₀ count (w - middle) n area (within_met q P K L R first s c h)
            (earlier q P K L R first s c h (eqb-true (kind_at rows w) 4 b)) (paired q P K L R first s c)
        go false b =
            let ts : List Candidate = visible (body_of q.bodies) 1 R in
            let f = eqb-false (kind_at rows w) 4 b in
            let e : raised K (communication s (get_or ts (w - middle) blocked)) ≡ blocked =
            met-blocked K depth c.placed.level s (get_or ts (w - middle) blocked)
            (pair_apart K depth c.placed.level (decided depth s) (decided depth (get_or ts (w - middle) blocked)) (kind_at rows row) (channel_at rows row) (object_at rows row) (kind_at rows w) (channel_at rows w) (object_at rows w)
            (unblocked q P K L R first s c h) (other q P K L R first s c h f) f m) in
            let put : PutIs (get_or (met K s ts) (w - middle) blocked) x area n n area =
            subst (λ d. PutIs d x area n n area) (sym (nth_met K s ts (w - middle) ∙ e)) (λ found stood. put-blocked area x n found stood few) in
            progress_step (met K s ts) x area₀ count (w - middle) n n area area (within_met q P K L R first s c h) (paired q P K L R first s c) put few

    module _ (h : w < last) (m : may_meet (kind_at rows row) (channel_at rows row) (kind_at rows w) (channel_at rows w) ≡ true) (r : ℕ) (area' : List ℕ)
        (pair : PairIs question part at depth number
        (record { kind = kind_at rows row; channel = channel_at rows row; object = object_at rows row; number = left })
        (record { kind = kind_at rows w; channel = channel_at rows w; object = object_at rows w; number = w - middle }) (j + (w - middle)) x area n r area') where
      put_pair : (q : Question) (P : Term) (K : List Frame) (L R : Term) (first : ℕ) (s : Candidate) → RowCase q P K L R first s
          → PutIs (get_or (met K s (visible (body_of q.bodies) 1 R)) (w - middle) blocked) x area n r area'
      unfolding Row
      put_pair q P K L R first s c =
          let ts : List Candidate = visible (body_of q.bodies) 1 R in
          subst (λ d. PutIs d x area n r area') (sym (nth_met K s ts (w - middle)))
          (pair.is q P c.lists K L R first c.placed s (get_or ts (w - middle) blocked) c.number_left c.is_left
          (within q P K L R first s c h) refl (unblocked q P K L R first s c h)
          (other q P K L R first s c h (meets_new (kind_at rows row) (channel_at rows row) (kind_at rows w) (channel_at rows w) m)) m (omega (arith, c.inside, within q P K L R first s c h))
          (c.numbers (w - middle) (within q P K L R first s c h)))

      pub pair_put : r ≤ most_steps → Paired (w + 1) r area'
      pair_put few q P K L R first s c =
          let ts : List Candidate = visible (body_of q.bodies) 1 R in
          let i : w - middle + 1 ≡ w + 1 - middle = omega arith in
          subst (λ i. Progresses (met K s ts) x area₀ count i r area') i
          (progress_step (met K s ts) x area₀ count (w - middle) n r area area' (within_met q P K L R first s c h) (paired q P K L R first s c) (put_pair q P K L R first s c) few)

      pub pair_passed : most_steps < r → MeetRowIs question part at depth number x rows row left middle last j area₀ count r area'
      pair_passed many = row_is r area' new (λ q P K L R first s c.
          progress_passed (met K s (visible (body_of q.bodies) 1 R)) x area₀ count (w - middle) n r area area' (within_met q P K L R first s c h) (paired q P K L R first s c) (put_pair q P K L R first s c) many)

    pub row_done : last ≤ w → n ≤ most_steps → MeetRowIs question part at depth number x rows row left middle last j area₀ count n area
    row_done h few = row_is n area new (λ q P K L R first s c.
        progress_done (met K s (visible (body_of q.bodies) 1 R)) x area₀ count (w - middle) n area
        (omega (arith, length-met K s (visible (body_of q.bodies) 1 R), c.ends)) few (paired q P K L R first s c))

  -- The rows that are passed over do not meet.
  module _ (new : kind_at rows row ≡ 4 → ⊥) (known : channel_at rows row < name_count + depth) (n : ℕ) (area : List ℕ) (few : n ≤ most_steps) where
    skip : (k w : ℕ) → Paired w n area → middle ≤ w → (r : ℕ) → r ≡ w + k → r ≤ last
        → ((v : ℕ) → w ≤ v → v < r → may_meet (kind_at rows row) (channel_at rows row) (kind_at rows v) (channel_at rows v) ≡ false) → Paired r n area
    skip zero w p on r e h m = let f : w ≡ r = omega arith in subst (λ v. Paired v n area) f p
    skip (suc k) w p on r e h m =
        skip k (w + 1) (pair_next new known w n area p on few (omega arith) (m w (omega arith) (omega arith))) (omega arith) r (omega arith) h
        (λ v a b. m v (omega arith) b)

    pub pairs_skipped : (from r : ℕ) → middle ≤ from → NextMetIs rows (kind_at rows row) (channel_at rows row) from last r → Paired from n area → Paired r n area
    pairs_skipped from r on next p =
        let o = next.on in skip (r - from) from p on r (omega arith) next.inside next.apart

    pub next_row : (from : ℕ) (next : Option ℕ) → middle ≤ from → MetInside last next → NextMetIs rows (kind_at rows row) (channel_at rows row) from last (met_or last next)
        → Paired from n area → Next next n area
    next_row from (Some w) on h is p = let o = is.on in (omega arith, h, pairs_skipped from w on is p, is.meets h)
    next_row from None on h is p = pairs_skipped from last on is p

-- The communications of more candidates on the left.
communications-++ : (ss us ts : List Candidate) → communications (ss ++ us) ts ≡ communications ss ts ++ communications us ts
unfolding communications
communications-++ [] us ts = refl
communications-++ (s ∷ ss) us ts =
    ap (λ cs. map (communication s) ts ++ cs) (communications-++ ss us ts) ∙ sym (append_assoc (map (communication s) ts) (communications ss ts) (communications us ts))

module _ (K : List Frame) (ts : List Candidate) where
  abbrev pub all : List Candidate → List Candidate
  all ss = map (raised K) (communications ss ts)

  all-++ : (ss us : List Candidate) → all (ss ++ us) ≡ all ss ++ all us
  all-++ ss us = ap (map (raised K)) (communications-++ ss us ts) ∙ map-++ (raised K) (communications ss ts) (communications us ts)

  all_one : (s : Candidate) → all (s ∷ []) ≡ met K s ts
  unfolding communications
  all_one s = ap (map (raised K)) (append-nil (map (communication s) ts))

  all_more : (ss : List Candidate) (v : ℕ) → v < length ss → all (take v ss) ++ met K (get_or ss v blocked) ts ≡ all (take (v + 1) ss)
  all_more ss v h =
      ap (λ cs. all (take v ss) ++ cs) (sym (all_one (get_or ss v blocked)))
      ∙ sym (all-++ (take v ss) (get_or ss v blocked ∷ []))
      ∙ ap all (sym (take-suc ss v blocked h) ∙ ap (λ k. take k ss) (sym (add-one v)))

  all_rest : (ss : List Candidate) (n : ℕ) → all (take n ss) ++ all (drop n ss) ≡ all ss
  all_rest ss n = sym (all-++ (take n ss) (drop n ss)) ∙ ap all (take-append-drop n ss)

module _ (question part : List ℕ) (at depth number before x : ℕ) (rows : List ℕ) (first middle last : ℕ) (area₀ : List ℕ) (count : ℕ) where
  pub record SidesCase (q : Question) (P : Term) (K : List Frame) (L R : Term) : Type 0 where
    pub lists : Lists question part x q P
    pub placed : Placed q.arities (body_of q.bodies) P K (par L R) at depth first number
    pub own : before ≡ length (silent (body_of q.bodies) 1 L) + length (silent (body_of q.bodies) 1 R)
    pub ends₁ : middle ≡ first + length (visible (body_of q.bodies) 1 L)
    pub ends₂ : last ≡ middle + length (visible (body_of q.bodies) 1 R)
    pub left : Rows depth (visible (body_of q.bodies) 1 L) rows first
    pub right : Rows depth (visible (body_of q.bodies) 1 R) rows middle

  -- The communications of the left rows before this one have been put into the list, and j is the number of the next.
  abbrev pub Met : ℕ → ℕ → ℕ → List ℕ → Type 0
  Met row n j area = (q : Question) (P : Term) (K : List Frame) (L R : Term) → SidesCase q P K L R
      → (j ≡ before + (row - first) * length (visible (body_of q.bodies) 1 R))
      × CollectIs (all K (visible (body_of q.bodies) 1 R) (take (row - first) (visible (body_of q.bodies) 1 L))) x area₀ count n area

  pub met_start : count ≤ most_steps → Met first count before area₀
  unfolding communications
  met_start few q P K L R c =
      let ss : List Candidate = visible (body_of q.bodies) 1 L in
      let ts : List Candidate = visible (body_of q.bodies) 1 R in
      let e : first - first ≡ 0 = omega arith in (
        omega (arith, ap (λ k. k * length ts) e, zero-mul (length ts)),
        subst (λ k. CollectIs (all K ts (take k ss)) x area₀ count count area₀) (sym e) (collect-none x area₀ count few),
      )

  meets_is : (r : ℕ) (area : List ℕ)
      → ((q : Question) (P : Term) (K : List Frame) (L R : Term) → SidesCase q P K L R → CollectIs (all K (visible (body_of q.bodies) 1 R) (visible (body_of q.bodies) 1 L)) x area₀ count r area)
      → MeetsIs question part at depth number before x rows first middle last area₀ count r area
  meets_is r area f = record {
    is = λ q P l K L R p b m e u v. f q P K L R (record { lists = l; placed = p; own = b; ends₁ = m; ends₂ = e; left = u; right = v });
  }

  module _ (row n j : ℕ) (area : List ℕ) (so_far : Met row n j area) (on : first ≤ row) (few : n ≤ most_steps) where
    pub met_done : middle ≤ row → MeetsIs question part at depth number before x rows first middle last area₀ count n area
    met_done h = meets_is n area (λ q P K L R c.
        subst (λ ss. CollectIs (all K (visible (body_of q.bodies) 1 R) ss) x area₀ count n area)
        (take_all (row - first) (visible (body_of q.bodies) 1 L) (omega (arith, c.ends₁))) (so_far q P K L R c).1)

    module _ (h : row < middle) (r : ℕ) (area' : List ℕ) (met-row : MeetRowIs question part at depth number x rows row (row - first) middle last j area n r area') where
      module _ (q : Question) (P : Term) (K : List Frame) (L R : Term) (c : SidesCase q P K L R) where
        abbrev lefts : List Candidate
        lefts = visible (body_of q.bodies) 1 L

        abbrev rights : List Candidate
        rights = visible (body_of q.bodies) 1 R

        within_left : row - first < length lefts
        within_left = omega (arith, c.ends₁)

        same_row : first + (row - first) ≡ row
        same_row = omega arith

        own_row : Row depth (get_or lefts (row - first) blocked) rows row
        unfolding RowsBehind
        own_row = subst (λ i. Row depth (get_or lefts (row - first) blocked) rows i) same_row (c.left (row - first) within_left).0

        earlier_row : kind_at rows row ≡ 4 → Again depth (get_or lefts (row - first) blocked) (take (row - first) lefts)
        unfolding RowsBehind
        earlier_row f = (c.left (row - first) within_left).1 (ap (kind_at rows) same_row ∙ f)

        inside-silent : j + length rights ≤ length (silent (body_of q.bodies) 1 (par L R))
        unfolding candidates
        inside-silent =
            let k : row - first < length lefts = within_left in
            omega (
              arith,
              (so_far q P K L R c).0,
              c.own,
              (sides_par (body_of q.bodies) true 1 L R).len,
              length-communications lefts rights,
              suc-mul (row - first) (length rights),
              mul-le-mul_right {m = suc (row - first)} {n = length lefts} (length rights) (omega arith),
            )

        numbered : (w : ℕ) → w < length rights → get_or (silent (body_of q.bodies) 1 (par L R)) (j + w) blocked ≡ communication (get_or lefts (row - first) blocked) (get_or rights w blocked)
        unfolding candidates
        numbered w k =
            let a : ℕ = length (silent (body_of q.bodies) 1 L) in
            let b : ℕ = length (silent (body_of q.bodies) 1 R) in
            let e : j + w ≡ a + (b + ((row - first) * length rights + w)) = omega (arith, (so_far q P K L R c).0, c.own) in
            ap (λ i. get_or (silent (body_of q.bodies) 1 (par L R)) i blocked) e
            ∙ (sides_par (body_of q.bodies) true 1 L R).third ((row - first) * length rights + w)
            ∙ nth_communication lefts rights (row - first) w within_left k

        row_put : (kind_at rows row ≡ 4 → ⊥) → CollectIs (met K (get_or lefts (row - first) blocked) rights) x area n r area'
        row_put new =
            met-row.is q P c.lists K L R first c.placed (get_or lefts (row - first) blocked) within_left refl new own_row c.right c.ends₂ inside-silent numbered

        row-all : CollectIs (all K rights (take (row - first + 1) lefts)) x area₀ count r area'
        row-all =
            subst (λ cs. CollectIs cs x area₀ count r area') (all_more K rights lefts (row - first) within_left) (go (eqb (kind_at rows row) 4) refl)
          where
            go : (b : Bool) → eqb (kind_at rows row) 4 ≡ b
                → CollectIs (all K rights (take (row - first) lefts) ++ met K (get_or lefts (row - first) blocked) rights) x area₀ count r area'
            go true b =
                let f = eqb-true (kind_at rows row) 4 b in
                let (e, d) = met-row.over f in
                subst (λ m. CollectIs (all K rights (take (row - first) lefts) ++ met K (get_or lefts (row - first) blocked) rights) x area₀ count m area') (sym e)
                (subst (λ a. CollectIs (all K rights (take (row - first) lefts) ++ met K (get_or lefts (row - first) blocked) rights) x area₀ count n a) (sym d)
                (collect-again (all K rights (take (row - first) lefts)) (met K (get_or lefts (row - first) blocked) rights) x area₀ count n area (so_far q P K L R c).1
                (λ d i.
                let (y, m, g) = ∈-mapped (raised K) d (map (communication (get_or lefts (row - first) blocked)) rights) i in
                subst (λ d. Again 0 d (all K rights (take (row - first) lefts))) (sym g)
                (again-raised K depth c.placed.level y (communications (take (row - first) lefts) rights)
                (again-left depth rights (take (row - first) lefts) (get_or lefts (row - first) blocked) (earlier_row f) y m)))))
            go false b =
                collect_then (all K rights (take (row - first) lefts)) (met K (get_or lefts (row - first) blocked) rights) x area₀ count n area (so_far q P K L R c).1 few r area'
                (row_put (eqb-false (kind_at rows row) 4 b))

      pub met-more : r ≤ most_steps → Met (row + 1) r (j + (last - middle)) area'
      met-more more q P K L R c =
          let ss : List Candidate = visible (body_of q.bodies) 1 L in
          let ts : List Candidate = visible (body_of q.bodies) 1 R in
          let e : row - first + 1 ≡ row + 1 - first = omega arith in
          let g : suc (row - first) ≡ row + 1 - first = omega arith in (
            omega (arith, (so_far q P K L R c).0, c.ends₂, suc-mul (row - first) (length ts), ap (λ k. k * length ts) g),
            subst (λ k. CollectIs (all K ts (take k ss)) x area₀ count r area') e (row-all q P K L R c),
          )

      pub met-passed : most_steps < r → MeetsIs question part at depth number before x rows first middle last area₀ count r area'
      met-passed many = meets_is r area' (λ q P K L R c.
          let ss : List Candidate = visible (body_of q.bodies) 1 L in
          let ts : List Candidate = visible (body_of q.bodies) 1 R in
          subst (λ cs. CollectIs cs x area₀ count r area') (all_rest K ts ss (row - first + 1))
          (collect_over (all K ts (take (row - first + 1) ss)) (all K ts (drop (row - first + 1) ss)) x area₀ count r area' (row-all q P K L R c) many))
