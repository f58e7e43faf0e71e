-- The walk of a part: at a component its own candidates, at a restriction those beneath it, at a parallel those of its sides and the communications.
-- Assumes nothing.
use mathlib.Core.Bool.{false}
use mathlib.Core.List.{List, [], ◌∷◌, ◌++◌, map, map-map}
use mathlib.Core.Path.{◌≡◌, refl, sym, ◌∙◌, ap, ap₂, subst}
use native.Mathlib.Omega.{arith}
use Prim.Native.Nat.{ℕ, zero, suc, ◌+◌, ◌<◌, ◌≤◌}
use lib.ListN.{length, get_or, length-append, length-map}
use Rattle.calculus.specs.Term.{Term, nil, tau, inp, out, bout, mat, sum, par, res, call, ren}
use Rattle.calculus.proofs.Renaming.{ren_id, map-++}
use Rattle.terms.specs.Encoding.{encode}
use Rattle.terms.specs.Limits.{name_count}
use Rattle.terms.specs.Question.{Question}
use Rattle.terms.proofs.ReadEncoded.{encode-some}
use Rattle.terms.specs.Question.{body_of}
use Rattle.steps_passing.specs.Passing.{MiddleIs}
use Rattle.steps.specs.Raw.{Candidate, left_steps, right_steps, restricted, communications, visible_of, visible, silent}
use Rattle.steps_tallies.specs.Tally.{silent_at, TallyIs}
use Rattle.steps_labels.proofs.ArgumentSlots.{slots_part}
use Rattle.steps_tallies.proofs.OwnNames.{own_part}
use Rattle.steps_tallies.proofs.CandidateForms.{tag, tag_at, only_par, only_res}
use Rattle.steps_splicing.specs.Collecting.{CollectIs}
use Rattle.steps_splicing.specs.Contexts.{Frame, left_of, right_of, beneath, raised, Placed}
use Rattle.steps.specs.Limits.{most_steps}
use Rattle.steps_splicing.specs.ListedParts.{Lists}
use Rattle.steps_rows.specs.Rows.{most_rows, Rows, RowsKept, ScanIs}
use Rattle.steps_walk.specs.Walking.{own_of, walked, TakeRowsIs, TakeSilentIs, WalkIs}
use Rattle.steps_communications.specs.Met.{MeetsIs}
use Rattle.steps_walk.specs.declared.walk.Walked.{Walked}
use Rattle.steps_rows.proofs.Below.{offers_alone}
use Rattle.steps_placing.proofs.CollectLaws.{collect_then, collect_over}
use Rattle.steps_walk.proofs.ComponentLaws.{silent_count}
use Rattle.steps_splicing.proofs.ContextLaws.{placed-start, placed-left, placed_right, placed-beneath, placed-bytes, placed-length}
use Rattle.steps_rows.proofs.RowLaws.{rows-par, rows-res, rows-kept, kept-all, kept_then}
use Rattle.steps_walk.proofs.VisibleBound.{visible-rows}
use Rattle.steps_walk.proofs.WalksPart.{WalksPart}

abbrev answer : ℕ → ℕ → Walked
answer n count = record { rows = n; count = count }

-- What is neither a parallel nor a restriction is a component.
own : (body : ℕ → Term) (C : Term) → (tag C ≡ 7 → ⊥) → (tag C ≡ 8 → ⊥) → walked body C ≡ visible body 1 C ++ silent body 1 C
unfolding walked own_of
own body nil h k = refl
own body (tau P) h k = refl
own body (inp a P) h k = refl
own body (out a b P) h k = refl
own body (bout a P) h k = refl
own body (mat a b P) h k = refl
own body (sum P Q) h k = refl
own body (par P Q) h k = absurd (h refl)
own body (res P) h k = absurd (k refl)
own body (call n xs) h k = refl

-- All rows of a term that stands in a part have room.
rows_room : (question part : List ℕ) (x : ℕ) (q : Question) (P : Term) → Lists question part x q P → (K : List Frame) (C : Term) (at depth n number : ℕ)
    → Placed q.arities (body_of q.bodies) P K C at depth n number → n + length (visible (body_of q.bodies) 1 C) ≤ most_rows
rows_room question part x q P l K C at depth n number p = omega (arith, p.visibly.inside, visible-rows question part x q P l)

-- The candidates beneath a restriction and of the sides of a parallel, raised.
module _ (body : ℕ → Term) (K : List Frame) where
  beneath-all : (C : Term) → map (raised K) (walked body (res C)) ≡ map (raised (beneath ∷ K)) (walked body C)
  unfolding walked raised
  beneath-all C = map-map (raised K) restricted (walked body C)

  sides_all : (L R : Term)
      → map (raised K) (walked body (par L R))
      ≡ map (raised (left_of R ∷ K)) (walked body L) ++ (map (raised (right_of L ∷ K)) (walked body R) ++ map (raised K) (communications (visible body 1 L) (visible body 1 R)))
  unfolding walked raised
  sides_all L R =
      let ls = map (left_steps R) (walked body L) in
      let rs = map (right_steps L) (walked body R) in
      let ms = communications (visible body 1 L) (visible body 1 R) in
      map-++ (raised K) ls (rs ++ ms)
      ∙ ap₂ ◌++◌ (map-map (raised K) (left_steps R) (walked body L))
      (map-++ (raised K) rs ms ∙ ap (λ (l : List Candidate). l ++ map (raised K) ms) (map-map (raised K) (right_steps L) (walked body R)))

length-beneath : (body : ℕ → Term) (C : Term) → length (visible body 1 (res C)) ≡ length (visible body 1 C)
unfolding visible visible_of
length-beneath body C = length-map (visible body 1 C) restricted

length_sides : (body : ℕ → Term) (L R : Term) → length (visible body 1 (par L R)) ≡ length (visible body 1 L) + length (visible body 1 R)
unfolding visible visible_of
length_sides body L R =
    let ls = map (left_steps R) (visible body 1 L) in
    let rs = map (right_steps L) (visible body 1 R) in
    omega (arith, length-append ls rs, length-map (visible body 1 L) (left_steps R), length-map (visible body 1 R) (right_steps L))

-- What the walk of a term is to give.
module _ (question part : List ℕ) (at depth number x : ℕ) (n : ℕ) (rows' area : List ℕ) (count : ℕ) (r : Walked) (area' : List ℕ) where
  abbrev Done : Question → List Frame → Term → Type 0
  Done q K C =
      CollectIs (map (raised K) (walked (body_of q.bodies) C)) x area count r.count area'
      × (r.count ≤ most_steps → (r.rows ≡ n + length (visible (body_of q.bodies) 1 C)) × Rows depth (visible (body_of q.bodies) 1 C) rows' n)

module _ (question part : List ℕ) (at depth number x : ℕ) (rows : List ℕ) (n : ℕ) (area : List ℕ) (count : ℕ) where
  -- Past the end no term stands.
  pub walk_none : length part ≤ at → n ≤ most_rows + 1 → WalkIs question part at depth number x rows n rows area count (record { rows = n; count = count }) area
  walk_none h few = record {
    inside = few;
    on = omega arith;
    kept = kept-all n rows;
    is = λ q P l K C p. absurd (omega (arith, placed-length l p, encode-some depth C));
  }

  module _ (not-par : get_or part at 0 ≡ 7 → ⊥) (not-res : get_or part at 0 ≡ 8 → ⊥) (args : List ℕ) (last : ℕ) (rows' : List ℕ)
      (scan : ScanIs question part at at false args depth depth 1 n rows last rows') (v : ℕ) (area₁ : List ℕ)
      (put : TakeRowsIs question part at depth rows' n last x area count v area₁) where
    module _ (q : Question) (P : Term) (l : Lists question part x q P) (K : List Frame) (C : Term)
        (p : Placed q.arities (body_of q.bodies) P K C at depth n number) where
      abbrev body : ℕ → Term
      body = body_of q.bodies

      scanned : (last ≡ n + length (visible body 1 C)) × Rows depth (visible body 1 C) rows' n
      scanned =
          let s : n + length (visible body 1 (ren (λ n. n) C)) ≤ most_rows
          → (last ≡ n + length (visible body 1 (ren (λ n. n) C))) × Rows depth (visible body 1 (ren (λ n. n) C)) rows' n =
          λ h. let r = scan.is q name_count depth (λ n. n) (own_part 1) C _ [] l.accepted (omega arith) (slots_part depth args) p.scope (placed-bytes l p)
          (offers_alone body 1 q.arities name_count depth (λ n. n) part args depth depth [] at) h in
          (r.0, r.1) in
          subst (λ (Q : Term). n + length (visible body 1 Q) ≤ most_rows → (last ≡ n + length (visible body 1 Q)) × Rows depth (visible body 1 Q) rows' n)
          (ren_id C) s (rows_room question part x q P l K C at depth n number p)

      parts : map (raised K) (walked body C) ≡ map (raised K) (visible body 1 C) ++ map (raised K) (silent body 1 C)
      parts =
          let t = tag_at part at depth C _ (placed-bytes l p) in
          ap (map (raised K)) (own body C (λ e. not-par (t ∙ e)) (λ e. not-res (t ∙ e))) ∙ map-++ (raised K) (visible body 1 C) (silent body 1 C)

      first : CollectIs (map (raised K) (visible body 1 C)) x area count v area₁
      first = put.is q P l K C number p scanned.0 scanned.1

    pub walk_passed : most_steps < v → WalkIs question part at depth number x rows n rows' area count (record { rows = last; count = v }) area₁
    walk_passed h = record {
      inside = scan.inside;
      on = scan.on;
      kept = scan.kept;
      is = λ q P l K C p.
          let vs = map (raised K) (visible (body_of q.bodies) 1 C) in
          let ss = map (raised K) (silent (body_of q.bodies) 1 C) in
          (subst (λ cs. CollectIs cs x area count v area₁) (sym (parts q P l K C p)) (collect_over vs ss x area count v area₁ (first q P l K C p) h), λ few. absurd (omega arith));
    }

    pub walk_component : v ≤ most_steps → (m : ℕ) (area₂ : List ℕ) → TakeSilentIs question part at depth number x area₁ v m area₂
        → WalkIs question part at depth number x rows n rows' area count (record { rows = last; count = m }) area₂
    walk_component h m area₂ silently = record {
      inside = scan.inside;
      on = scan.on;
      kept = scan.kept;
      is = λ q P l K C p.
          let vs = map (raised K) (visible (body_of q.bodies) 1 C) in
          let ss = map (raised K) (silent (body_of q.bodies) 1 C) in (
            subst (λ cs. CollectIs cs x area count m area₂) (sym (parts q P l K C p))
                (collect_then vs ss x area count v area₁ (first q P l K C p) h m area₂ (silently.is q P l K C n p)),
            λ few. scanned q P l K C p,
          );
    }

  -- Beneath a restriction.
  module _ (rows' : List ℕ) (r : Walked) (area' : List ℕ) (w : WalkIs question part (at + 1) (depth + 1) number x rows n rows' area count r area') where
    under : (q : Question) (P : Term) → Lists question part x q P → (K : List Frame) (C : Term)
        → Placed q.arities (body_of q.bodies) P K (res C) at depth n number
        → Done question part at depth number x n rows' area count r area' q K (res C)
    under q P l K C p =
        let body : ℕ → Term = body_of q.bodies in
        let (c, f) = w.is q P l (beneath ∷ K) C (placed-beneath p) in (
          subst (λ cs. CollectIs cs x area count r.count area') (sym (beneath-all body K C)) c,
          λ few.
              let (e, R) = f few in
              let d : depth + 1 ≡ 1 + depth = omega arith in
              (e ∙ ap (λ k. n + k) (sym (length-beneath body C)), rows-res body 1 rows' n depth C (subst (λ k. Rows k (visible body 1 C) rows' n) d R)),
        )

    walk_beneath : get_or part at 0 ≡ 8 → WalkIs question part at depth number x rows n rows' area count r area'
    walk_beneath b = record {
      inside = w.inside;
      on = w.on;
      kept = w.kept;
      is = λ q P l K C p.
          only_res
          (λ (C : Term). Placed q.arities (body_of q.bodies) P K C at depth n number → Done question part at depth number x n rows' area count r area' q K C)
          (λ D o. under q P l K D o) C (sym (tag_at part at depth C _ (placed-bytes l p)) ∙ b) p;
    }

  -- The sides of a parallel, one after the other.
  module _ (b : get_or part at 0 ≡ 7) (rows₁ : List ℕ) (L : Walked) (area₁ : List ℕ)
      (left : WalkIs question part (at + 1) depth number x rows n rows₁ area count L area₁) where
    -- To show what the walk gives, show it of a parallel.
    given : (rows' : List ℕ) (r : Walked) (area' : List ℕ)
        → ((q : Question) (P : Term) → Lists question part x q P → (K : List Frame) (S T : Term)
        → Placed q.arities (body_of q.bodies) P K (par S T) at depth n number → Done question part at depth number x n rows' area count r area' q K (par S T))
        → (q : Question) (P : Term) → Lists question part x q P → (K : List Frame) (C : Term)
        → Placed q.arities (body_of q.bodies) P K C at depth n number → Done question part at depth number x n rows' area count r area' q K C
    given rows' r area' f q P l K C p =
        only_par
        (λ (C : Term). Placed q.arities (body_of q.bodies) P K C at depth n number → Done question part at depth number x n rows' area count r area' q K C)
        (λ S T o. f q P l K S T o) C (sym (tag_at part at depth C _ (placed-bytes l p)) ∙ b) p

    pub left_passed : most_steps < L.count → WalkIs question part at depth number x rows n rows₁ area count L area₁
    left_passed h = record {
      inside = left.inside;
      on = left.on;
      kept = left.kept;
      is = given rows₁ L area₁
          (λ q P l K S T p.
          let body : ℕ → Term = body_of q.bodies in (
            subst (λ cs. CollectIs cs x area count L.count area₁) (sym (sides_all body K S T))
                (collect_over (map (raised (left_of T ∷ K)) (walked body S)) _ x area count L.count area₁ (left.is q P l (left_of T ∷ K) S (placed-left p)).0 h),
            λ few. absurd (omega arith),
          ));
    }

    module _ (few : L.count ≤ most_steps) (tally : List ℕ) (t : TallyIs question part 1 tally) (middle : ℕ) (m : MiddleIs part tally at middle)
        (before : ℕ) (tallied : before ≡ silent_at tally (at + 1)) (rows₂ : List ℕ) (R : Walked) (area₂ : List ℕ)
        (right : WalkIs question part middle depth (number + before) x rows₁ L.rows rows₂ area₁ L.count R area₂) where
      module _ (q : Question) (P : Term) (l : Lists question part x q P) (K : List Frame) (S T : Term)
          (p : Placed q.arities (body_of q.bodies) P K (par S T) at depth n number) where
        abbrev sbody : ℕ → Term
        sbody = body_of q.bodies

        left-rows : (L.rows ≡ n + length (visible sbody 1 S)) × Rows depth (visible sbody 1 S) rows₁ n
        left-rows = (left.is q P l (left_of T ∷ K) S (placed-left p)).1 few

        left-silent : before ≡ length (silent sbody 1 S)
        left-silent = tallied ∙ silent_count question part tally t x q P l (left_of T ∷ K) S (at + 1) depth n number (placed-left p)

        middle_place : middle ≡ at + 1 + length (encode depth S)
        middle_place =
            m.is (omega (arith, placed-length l (placed-left p), encode-some depth S))
            ∙ (t.is q (at + 1) name_count depth (λ n. n) (own_part 1) S _ l.accepted (placed-left p).scope (placed-bytes l (placed-left p))).2

        right_placed : Placed q.arities sbody P (right_of S ∷ K) T middle depth L.rows (number + before)
        right_placed =
            subst (λ k. Placed q.arities sbody P (right_of S ∷ K) T k depth L.rows (number + before)) (sym middle_place)
            (subst (λ k. Placed q.arities sbody P (right_of S ∷ K) T (at + 1 + length (encode depth S)) depth k (number + before)) (sym left-rows.0)
            (subst (λ k. Placed q.arities sbody P (right_of S ∷ K) T (at + 1 + length (encode depth S)) depth (n + length (visible sbody 1 S)) (number + k)) (sym left-silent)
            (placed_right p)))

        abbrev rights : List Candidate
        rights = map (raised (right_of S ∷ K)) (walked sbody T)

        abbrev meetings : List Candidate
        meetings = map (raised K) (communications (visible sbody 1 S) (visible sbody 1 T))

        right_done : Done question part middle depth (number + before) x L.rows rows₂ area₁ L.count R area₂ q (right_of S ∷ K) T
        right_done = right.is q P l (right_of S ∷ K) T right_placed

        -- what comes after the left side is put behind it
        behind-left : (k : ℕ) (area' : List ℕ) → CollectIs (rights ++ meetings) x area₁ L.count k area'
            → CollectIs (map (raised K) (walked sbody (par S T))) x area count k area'
        behind-left k area' c =
            subst (λ cs. CollectIs cs x area count k area') (sym (sides_all sbody K S T))
            (collect_then (map (raised (left_of T ∷ K)) (walked sbody S)) (rights ++ meetings) x area count L.count area₁
            (left.is q P l (left_of T ∷ K) S (placed-left p)).0 few k area' c)

        -- the rows of both sides
        both-rows : R.count ≤ most_steps → (R.rows ≡ n + length (visible sbody 1 (par S T))) × Rows depth (visible sbody 1 S) rows₂ n
            × Rows depth (visible sbody 1 T) rows₂ L.rows
        both-rows h =
            let (e, f) = left-rows in
            let (d, g) = right_done.1 h in (
              omega (arith, length_sides sbody S T),
              rows-kept L.rows rows₁ rows₂ right.kept [] depth n (visible sbody 1 S) (omega arith) f,
              g,
            )

      rows_sides : RowsKept n rows rows₂
      rows_sides = kept_then n L.rows rows rows₁ rows₂ left.on left.kept right.kept

      pub right_passed : most_steps < R.count → WalkIs question part at depth number x rows n rows₂ area count R area₂
      right_passed h = record {
        inside = right.inside;
        on = omega (arith, left.on, right.on);
        kept = rows_sides;
        is = given rows₂ R area₂
            (λ q P l K S T p. (
              behind-left q P l K S T p R.count area₂
                  (collect_over (rights q P l K S T p) (meetings q P l K S T p) x area₁ L.count R.count area₂ (right_done q P l K S T p).0 h),
              λ few. absurd (omega arith),
            ));
      }

      module _ (under : R.count ≤ most_steps) where
        -- no part that is accepted has so many rows
        pub right_full : most_rows < R.rows → WalkIs question part at depth number x rows n rows₂ area count R area₂
        right_full h = record {
          inside = right.inside;
          on = omega (arith, left.on, right.on);
          kept = rows_sides;
          is = given rows₂ R area₂
              (λ q P l K S T p.
              absurd (omega (arith, rows_room question part x q P l K (par S T) at depth n number p, (both-rows q P l K S T p under).0)));
        }

        pub sides_met : (after : ℕ) → after ≡ silent_at tally middle → (k : ℕ) (area₃ : List ℕ)
            → MeetsIs question part at depth number (before + after) x rows₂ n L.rows R.rows area₂ R.count k area₃
            → WalkIs question part at depth number x rows n rows₂ area count (record { rows = R.rows; count = k }) area₃
        sides_met after e-after k area₃ meets = record {
          inside = right.inside;
          on = omega (arith, left.on, right.on);
          kept = rows_sides;
          is = given rows₂ (answer R.rows k) area₃
              (λ q P l K S T p.
              let body : ℕ → Term = body_of q.bodies in
              let (e, f, g) = both-rows q P l K S T p under in
              let d = (left-rows q P l K S T p).0 in
              let s = left-silent q P l K S T p in
              let o = silent_count question part tally t x q P l (right_of S ∷ K) T middle depth L.rows _ (right_placed q P l K S T p) in (
                behind-left q P l K S T p k area₃
                    (collect_then (rights q P l K S T p) (meetings q P l K S T p) x area₁ L.count R.count area₂ (right_done q P l K S T p).0 under k area₃
                    (meets.is q P l K S T p (omega arith) d (omega (arith, length_sides body S T)) f g)),
                λ few. (e, rows-par body 1 rows₂ n depth S T f (subst (λ j. Rows depth (visible body 1 T) rows₂ j) d g)),
              ));
        }

-- Beneath restrictions that stand one within the other.
module _ (question part : List ℕ) (at depth number x : ℕ) (rows : List ℕ) (n : ℕ) (area : List ℕ) (count : ℕ) (rows' : List ℕ) (r : Walked) (area' : List ℕ) where
  abbrev Walks : ℕ → ℕ → Type 0
  Walks at depth = WalkIs question part at depth number x rows n rows' area count r area'

  pub walk_run : (k : ℕ) → ((j : ℕ) → j < k → get_or part (at + j) 0 ≡ 8) → Walks (at + k) (depth + k) → Walks at depth
  walk_run zero are w =
      let a : at + 0 ≡ at = omega arith in
      let d : depth + 0 ≡ depth = omega arith in
      subst (λ a. Walks a depth) a (subst (λ d. Walks (at + 0) d) d w)
  walk_run (suc k) are w =
      let a : at + suc k ≡ at + k + 1 = omega arith in
      let d : depth + suc k ≡ depth + k + 1 = omega arith in
      let inner : Walks (at + k + 1) (depth + k + 1) = subst (λ a. Walks a (depth + k + 1)) a (subst (λ d. Walks (at + suc k) d) d w) in
      walk_run k (λ j h. are j (omega arith))
      (walk_beneath question part (at + k) (depth + k) number x rows n area count rows' r area' inner (are k (omega arith)))

-- The whole part.
none_around : (cs : List Candidate) → map (raised []) cs ≡ cs
unfolding raised
none_around [] = refl
none_around (c ∷ cs) = ap (λ (l : List Candidate). c ∷ l) (none_around cs)

-- A walk that ends at a limit says nothing of the rows behind those before it.
pub walk_stopped : (question part : List ℕ) (at depth number x : ℕ) (rows : List ℕ) (n : ℕ) (rows' area : List ℕ) (count : ℕ) (r : Walked) (area' : List ℕ)
    → n ≤ most_rows + 1 → most_steps < r.count → WalkIs question part at depth number x rows n rows' area count r area'
    → WalkIs question part at depth number x rows n rows' area count (record { rows = n; count = most_steps + 1 }) area'
unfolding CollectIs
walk_stopped question part at depth number x rows n rows' area count r area' few h w = record {
  inside = few;
  on = omega arith;
  kept = w.kept;
  is = λ q P l K C p. (
    λ found s. record { stands = λ k. absurd (omega arith); passed = λ _. ((w.is q P l K C p).0 found s).passed h },
    λ k. absurd (omega arith),
  );
}

pub walk_part : (question part : List ℕ) (x : ℕ) (rows rows' area : List ℕ) (r : Walked) (area' : List ℕ)
    → WalkIs question part 0 0 0 x rows 0 rows' area 0 r area' → WalksPart question part x area r.count area'
walk_part question part x rows rows' area r area' w q P l =
    subst (λ cs. CollectIs cs x area 0 r.count area') (none_around (walked (body_of q.bodies) P)) (w.is q P l [] P (placed-start l)).0
