-- Exploration as code makes it: one situation at a time is looked for among the known ones and put behind them if it is new; taking up stops
-- where a limit is passed or the known ones outgrow the capacity. Assumes nothing.
use mathlib.Core.Bool.{Bool, true, false, cond, ◌||◌}
use mathlib.Core.List.{List, [], ◌∷◌, ◌++◌, map, append_assoc, append-nil}
use mathlib.Core.Logic.{inl}
use mathlib.Core.Path.{◌≡◌, refl, sym, ◌∙◌, ap}
use native.Mathlib.Omega.{arith}
use Prim.Native.Nat.{ℕ, zero, suc, ◌+◌, ◌-◌, ◌<◌, ◌≤◌}
use lib.ListN.{length, get_or, take, drop, length-append, length-drop, get_or-append}
use lib.Seq.{take-suc, drop-cons, drop-length, take-append-le, drop-append-le}
use Rattle.calculus.proofs.Renaming.{map-++}
use Rattle.calculus.proofs.Membership.{∈_right, all_imp}
use native.Mathlib.Nat.{sub-zero}
use Rattle.field.specs.Setting.{Setting}
use Rattle.field.specs.Situation.{Situation, same_situation}
use Rattle.field.specs.Successors.{Outcome, past_limit, leads, successors}
use Rattle.field_growth.specs.Growing.{grown_by, grown, AllFound}
use Rattle.field.specs.Exploration.{found, unseen, together, Row, Exploration, incomplete, explored, with_row, explore, field_of}
use Rattle.field.proofs.Run.{explore-past, explore-leads, fresh_in}
use Rattle.field.proofs.Unseen.{∈-found}

-- Which situations are unseen depends on what is found among the known ones alone.
unseen-alike : (k l ss : List Situation) → ((t : Situation) → found k t ≡ found l t) → unseen k ss ≡ unseen l ss
unfolding unseen found
unseen-alike k l [] h = refl
unseen-alike k l (s ∷ ss) h =
    λ i. cond (h s i) (unseen-alike k l ss h i) (s ∷ unseen-alike (s ∷ k) (s ∷ l) ss (λ t. ap (λ b. same_situation t s || b) (h t)) i)

found-behind : (known : List Situation) (s t : Situation) → found (known ++ (s ∷ [])) t ≡ found (s ∷ known) t
unfolding found
found-behind [] s t = refl
found-behind (k ∷ known) s t = ap (λ b. same_situation t k || b) (found-behind known s t) ∙ swap (same_situation t k) (same_situation t s) (found known t)
  where
    swap : (a b c : Bool) → (a || (b || c)) ≡ (b || (a || c))
    swap true true c = refl
    swap true false c = refl
    swap false true c = refl
    swap false false c = refl

pub grown-unseen : (known ss : List Situation) → grown known ss ≡ known ++ unseen known ss
unfolding grown grown_by unseen
grown-unseen known [] = sym (append-nil known)
grown-unseen known (s ∷ ss) = go (found known s) refl (grown-unseen known ss) (grown-unseen (known ++ (s ∷ [])) ss)
  where
    go : (b : Bool) → found known s ≡ b → grown known ss ≡ known ++ unseen known ss
        → grown (known ++ (s ∷ [])) ss ≡ (known ++ (s ∷ [])) ++ unseen (known ++ (s ∷ [])) ss
        → grown (cond (found known s) known (known ++ (s ∷ []))) ss ≡ known ++ cond (found known s) (unseen known ss) (s ∷ unseen (s ∷ known) ss)
    go true e h k = rw e h
    go false e h k =
        rw e (k ∙ append_assoc known (s ∷ []) (unseen (known ++ (s ∷ [])) ss)
        ∙ ap (λ r. known ++ (s ∷ r)) (unseen-alike (known ++ (s ∷ [])) (s ∷ known) ss (found-behind known s)))

pub grown_longer : (known ss : List Situation) → length known ≤ length (grown known ss)
grown_longer known ss = omega (arith, ap length (grown-unseen known ss), length-append known (unseen known ss))

-- The situations known stay, and those found come behind them.
pub grown-front : (ks ss : List Situation) (i : ℕ) (d : Situation) → i < length ks → get_or (grown ks ss) i d ≡ get_or ks i d
grown-front ks ss i d h = ap (λ l. get_or l i d) (grown-unseen ks ss) ∙ get_or-append ks (unseen ks ss) d i h

-- What is found among the known ones stays found as they grow, and what they grow by is found.
found_before : (known ss : List Situation) (t : Situation) → found known t ≡ true → found (known ++ ss) t ≡ true
unfolding found
found_before [] ss t e = let z : ◌≡◌ {A = ℕ} 0 1 = cc in absurd (omega arith)
found_before (k ∷ known) ss t e = go (same_situation t k) e (found_before known ss t)
  where
    go : (b : Bool) → b || found known t ≡ true → (found known t ≡ true → found (known ++ ss) t ≡ true) → b || found (known ++ ss) t ≡ true
    go true e h = refl
    go false e h = h e

found-kept : (known ss : List Situation) (t : Situation) → found known t ≡ true → found (grown known ss) t ≡ true
found-kept known ss t e = rw (grown-unseen known ss) (found_before known (unseen known ss) t e)

pub all-kept : (known ss ts : List Situation) → AllFound known ts → AllFound (grown known ss) ts
all-kept known ss ts = all_imp (λ t. found known t ≡ true) (λ t. found (grown known ss) t ≡ true) ts (found-kept known ss)

pub all_grown : (known ss : List Situation) → AllFound (grown known ss) ss
unfolding grown grown_by
all_grown known [] = tt
all_grown known (s ∷ ss) = (found-kept (grown_by known s) ss s (put (found known s) refl), all_grown (grown_by known s) ss)
  where
    put : (b : Bool) → found known s ≡ b → found (grown_by known s) s ≡ true
    put true e = rw e e
    put false e = rw e (∈-found (known ++ (s ∷ [])) s (∈_right s known (s ∷ []) (inl refl)))

-- They grow by nothing that is found among them.
pub grown-found : (known ss : List Situation) → AllFound known ss → grown known ss ≡ known
unfolding grown grown_by
grown-found known [] a = refl
grown-found known (s ∷ ss) a = rw a.0 (grown-found known ss a.1)

module _ (S : Setting) where
  -- more waiting than may still be taken up
  pub explore_short : (n : ℕ) (known waiting : List Situation) → n < length waiting → explore S n known waiting ≡ incomplete
  unfolding explore with_row
  explore_short zero known [] h = absurd (omega arith)
  explore_short zero known (s ∷ waiting) h = refl
  explore_short (suc n) known [] h = absurd (omega arith)
  explore_short (suc n) known (s ∷ waiting) h =
      go (successors S s) refl
      (λ ms. explore_short n (known ++ fresh_in known ms) (waiting ++ fresh_in known ms) (omega (arith, length-append waiting (fresh_in known ms))))
    where
      go : (o : Outcome) → successors S s ≡ o
          → ((ms : List (List Situation)) → explore S n (known ++ fresh_in known ms) (waiting ++ fresh_in known ms) ≡ incomplete)
          → explore S (suc n) known (s ∷ waiting) ≡ incomplete
      go past_limit e ih = explore-past S n known s waiting e
      go (leads ms) e ih = explore-leads S n known s waiting ms e ∙ ap (with_row (record { self = s; wants = ms })) (ih ms)

  -- rows before what is still to come
  unfoldable pub with_rows : List Row → Exploration → Exploration
  with_rows [] x = x
  with_rows (r ∷ rs) x = with_row r (with_rows rs x)

  with_behind : (rs : List Row) (r : Row) (x : Exploration) → with_rows (rs ++ (r ∷ [])) x ≡ with_rows rs (with_row r x)
  unfolding with_rows
  with_behind [] r x = refl
  with_behind (q ∷ rs) r x = ap (with_row q) (with_behind rs r x)

  with_incomplete : (rs : List Row) → with_rows rs incomplete ≡ incomplete
  unfolding with_rows with_row
  with_incomplete [] = refl
  with_incomplete (r ∷ rs) = ap (with_row r) (with_incomplete rs)

  with_none : (rs : List Row) → with_rows rs (explored []) ≡ explored rs
  unfolding with_rows with_row
  with_none [] = refl
  with_none (r ∷ rs) = ap (with_row r) (with_none rs)

  module _ (capacity : ℕ) (start : Situation) where
    -- What holds while the known situations are taken up: those before `taken` have their rows, the others wait.
    pub record Exploring (known : List Situation) (taken : ℕ) : Type 0 where
      pub rows : List Row
      pub count : length rows ≡ taken
      pub selves : map (λ r. r.self) rows ≡ take taken known
      pub within : taken ≤ length known
      pub fits : length known ≤ capacity
      pub is : field_of S capacity start ≡ with_rows rows (explore S (capacity - taken) known (drop taken known))

    pub exploring_start : 1 ≤ capacity → Exploring (start ∷ []) 0
    unfolding field_of with_rows
    exploring_start h = record { rows = []; count = refl; selves = refl; within = omega arith; fits = h; is = ap (λ n. explore S n (start ∷ []) (start ∷ [])) (sym (sub-zero capacity)) }

    module _ (known : List Situation) (taken : ℕ) (x : Exploring known taken) (more : taken < length known) where
      -- the situation to take up, and what is left for the others
      abbrev s : Situation
      s = get_or known taken start

      abbrev left : ℕ
      left = capacity - suc taken

      abbrev waiting : List Situation
      waiting = drop (suc taken) known

      now : field_of S capacity start ≡ with_rows x.rows (explore S (suc left) known (s ∷ waiting))
      now =
          let e : capacity - taken ≡ suc left = omega (arith, x.fits) in
          x.is ∙ ap (λ n. with_rows x.rows (explore S n known (drop taken known))) e
          ∙ ap (λ w. with_rows x.rows (explore S (suc left) known w)) (drop-cons known taken start more)

      pub exploring_past : successors S (get_or known taken start) ≡ past_limit → field_of S capacity start ≡ incomplete
      exploring_past e = now ∙ ap (with_rows x.rows) (explore-past S left known s waiting e) ∙ with_incomplete x.rows

      module _ (ms : List (List Situation)) (e : successors S (get_or known taken start) ≡ leads ms) where
        abbrev row : Row
        row = record { self = s; wants = ms }

        abbrev all : List Situation
        all = grown known (together ms)

        fresh-length : length all ≡ length known + length (fresh_in known ms)
        fresh-length = ap length (grown-unseen known (together ms)) ∙ length-append known (fresh_in known ms)

        next : field_of S capacity start ≡ with_rows (x.rows ++ (row ∷ [])) (explore S left all (drop (suc taken) all))
        next =
            now ∙ ap (with_rows x.rows) (explore-leads S left known s waiting ms e)
            ∙ sym (with_behind x.rows row (explore S left (known ++ fresh_in known ms) (waiting ++ fresh_in known ms)))
            ∙ ap (λ w. with_rows (x.rows ++ (row ∷ [])) (explore S left (known ++ fresh_in known ms) w)) (sym (drop-append-le (suc taken) known (fresh_in known ms) more))
            ∙ ap (λ k. with_rows (x.rows ++ (row ∷ [])) (explore S left k (drop (suc taken) k))) (sym (grown-unseen known (together ms)))

        pub exploring_full : capacity < length (grown known (together ms)) → field_of S capacity start ≡ incomplete
        exploring_full h =
            next ∙ ap (with_rows (x.rows ++ (row ∷ [])))
            (explore_short left all (drop (suc taken) all) (omega (arith, length-drop (suc taken) all, fresh-length, x.fits)))
            ∙ with_incomplete (x.rows ++ (row ∷ []))

        pub exploring_on : length (grown known (together ms)) ≤ capacity → Exploring (grown known (together ms)) (suc taken)
        exploring_on h = record {
          rows = x.rows ++ (row ∷ []);
          count = length-append x.rows (row ∷ []) ∙ omega (arith, x.count);
          selves = map-++ (λ r. r.self) x.rows (row ∷ []) ∙ ap (λ l. l ++ (s ∷ [])) x.selves ∙ sym (take-suc known taken start more)
              ∙ sym (take-append-le (suc taken) known (fresh_in known ms) more) ∙ ap (take (suc taken)) (sym (grown-unseen known (together ms)));
          within = omega (arith, fresh-length);
          fits = h;
          is = next;
        }

    -- all that were found have been taken up
    pub exploring_end : (known : List Situation) (x : Exploring known (length known)) → field_of S capacity start ≡ explored x.rows
    unfolding explore
    exploring_end known x =
        x.is ∙ ap (λ w. with_rows x.rows (explore S (capacity - length known) known w)) (drop-length known)
        ∙ ap (with_rows x.rows) (go (capacity - length known)) ∙ with_none x.rows
      where
        go : (n : ℕ) → explore S n known [] ≡ explored []
        go zero = refl
        go (suc n) = refl
