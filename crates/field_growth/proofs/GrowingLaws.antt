-- The known situations grow: by one, by what the answers to a step lead to, by what the steps of a side lead to. Assumes nothing.
use mathlib.Core.Bool.{Bool, true, false, cond, ◌||◌}
use mathlib.Core.List.{List, [], ◌∷◌, ◌++◌, map, append-nil}
use mathlib.Core.Logic.{◌⊎◌, inl, inr}
use mathlib.Core.Path.{◌≡◌, refl, sym, ◌∙◌, ap, subst}
use native.Mathlib.Decide.{ℕ_discrete, dec_lt}
use native.Mathlib.Omega.{arith}
use Prim.Native.Nat.{ℕ, suc, ◌+◌, ◌*◌, ◌<◌, ◌≤◌}
use lib.Dec.{eqb}
use lib.ListN.{length, get_or, set, take, drop, length-append, take-append-drop}
use lib.Seq.{take-suc, take_all, split_at, get_or_at, get_or-set_same, get_or-set_other, drop-set-lt}
use borrow.Author.Tests.{eqb-true, eqb-false}
use Rattle.std.specs.Prelude.{Option, Some, None}
use Rattle.calculus.specs.Cond.{Pairs}
use Rattle.calculus.specs.Distinction.{among}
use Rattle.calculus.proofs.Renaming.{map-++}
use Rattle.terms.specs.Encoding.{InScope}
use Rattle.terms.specs.Limits.{name_count}
use Rattle.calculus.specs.Lists.{◌∈◌, All}
use Rattle.calculus.proofs.Membership.{∈-map, ∈-left, ∈_right, all_imp, all-++, all-∈, ∈-all}
use Rattle.steps.specs.Limits.{step_bytes}
use Rattle.steps.specs.Listed.{ListedStep, names_from}
use Rattle.field_slots.specs.Chains.{LinkIs, FindsIn}
use Rattle.steps_conditions.specs.Conditions.{TrivialIs}
use Rattle.field_slots.specs.Key.{slot_with}
use Rattle.field_pairs.specs.Entry.{EntryAt, SameHeaderIs, AnswersIs}
use Rattle.field.specs.Exploration.{found, together}
use Rattle.field_growth.specs.Holding.{unanswered}
use Rattle.field_successors.specs.Fits.{Fits}
use Rattle.field_growth.specs.Growing.{Fitting, grown_by, grown, Knows, GrowsTo, AllFound, Puts, Grows, KeepsStruck, LedTo, SlotOf, growth, NoneLeft}
use Rattle.field_growth.specs.Growing.{joined, LeadsWhere, AddIs, Gone, AddedIs, Flagged, answered, MirroredBy, looked_with, answered_with, Mirrored, GrowsAnswer, AnswerIs}
use Rattle.field_growth.specs.Growing.{GrowsAnswers, AnswersAre, FirstIs, FirstAnswerIs, moved, Strikes, LeadsAfter, GrowsMove, GrowsNames, GrowsStep, GrowsSide, GrowsSides}
use Rattle.field.specs.Situation.{Proper}
use Rattle.field_successors.specs.Leading.{leading, SuccessorIs}
use Rattle.field_slots.specs.Noted.{note_at, SpareOnly, NotesOne, Stands, SoleIn}
use Rattle.field_pairs.specs.NameFlags.{ReceivedIs}
use Rattle.field_pairs.specs.PairFlags.{AllowedIs}
use Rattle.field.specs.Situation.{Situation, free_from}
use Rattle.field_pairs.specs.Slot.{key_of, key_bytes, slot_bytes, struck_at, LeftAtIs}
use Rattle.field.specs.Successors.{select, answers, allowed, received, join_all, moves}
use Rattle.field_renewal.specs.ListedEntries.{ListAt, EntriesAt}
use Rattle.field_growth.specs.declared.growth.Added.{Added}
use Rattle.field_growth.specs.declared.growth.Led.{Led}
use Rattle.field_growth.specs.declared.growth.Led.TheVariants.{Nowhere, To, Several}
use Rattle.field_pairs.proofs.EntryLaws.{trivial_header}
use Rattle.field_pairs.proofs.PairNumbering.{names_at, length-names}
use Rattle.field_pairs.proofs.ReceivedNames.{received_ascending}
use Rattle.field_successors.proofs.LeadingLaws.{leading-fits}
use Rattle.field_growth.proofs.GrownSituations.{grown-front, grown_longer, all-kept, all_grown, grown-found}
use Rattle.field_growth.proofs.KeysDiffer.{length_key, slot_holds, found-slot, found_no_slot}
use Rattle.field_growth.proofs.Loops.{select-++, grown-++, together-++}
use Rattle.field_growth.proofs.LookedLaws.{among-∈, looked_some, unanswered-each, together-empty, moved-++, together-moved, moved_none, moved_one}
use Rattle.field_growth.proofs.LookedLaws.{looked_at, looked_++, together_looked, looked_one, looked_none}
use Rattle.field.proofs.Members.{map-∈, get_d_∈, ∈-number}
use Rattle.field_growth.proofs.MirroredLaws.{mirrored, all-rewritten, all_objects, first_mirrored, one_of, one_answer_mirrored, one_step_mirrored}
use Rattle.field_slots.proofs.NotedLaws.{note_flag}
use Rattle.field.proofs.Selections.{select-∈}
use Rattle.field.proofs.Unseen.{together-∈}
use Rattle.field_growth.proofs.SlotWriting.{slot-rest, slot_struck, knows_struck, knows_noted, knows_more}

-- What holds of any growth.
pub grows_none : (capacity : ℕ) (work : List ℕ) (known : ℕ) → known ≤ capacity → Grows capacity work known (Some known) work
grows_none capacity work known h = record { rest = refl; within = λ n e. let z : known ≡ n = cc in (omega arith, omega arith) }

pub grows_full : (capacity : ℕ) (work : List ℕ) (known : ℕ) → Grows capacity work known None work
grows_full capacity work known = record { rest = refl; within = λ n e. let z : ◌≡◌ {A = ℕ} 0 1 = cc in absurd (omega arith) }

pub grows_more : (capacity : ℕ) (work : List ℕ) (known n : ℕ) (work' : List ℕ) (r : Option ℕ) (work'' : List ℕ) → Grows capacity work known (Some n) work'
    → Grows capacity work' n r work'' → Grows capacity work known r work''
grows_more capacity work known n work' r work'' g h = record {
  rest = h.rest ∙ g.rest;
  within = λ m e. let (a, b) = g.within n refl in let (c, d) = h.within m e in (omega arith, d);
}

-- What is left and what is struck out, while none is struck out.
pub keeps_none : (work : List ℕ) (known n : ℕ) → Some known ≡ Some n → KeepsStruck work known n work
keeps_none work known n e = let z : known ≡ n = cc in record { kept = λ i h. refl; fresh = λ i h l. absurd (omega arith); notes = λ i k h l. refl }

keeps_full : (work : List ℕ) (known n : ℕ) (work' : List ℕ) → None ≡ Some n → KeepsStruck work known n work'
keeps_full work known n work' e = let z : ◌≡◌ {A = ℕ} 0 1 = cc in absurd (omega arith)

keeps_more : (work : List ℕ) (known n m : ℕ) (work' work'' : List ℕ) → known ≤ n → KeepsStruck work known n work' → KeepsStruck work' n m work''
    → KeepsStruck work known m work''
keeps_more work known n m work' work'' h x y = record {
  kept = λ i l. y.kept i (omega arith) ∙ x.kept i l;
  fresh = λ i l k. go i l k (dec_lt i n);
  notes = λ i k l g. y.notes i k (omega arith) g ∙ x.notes i k l g;
}
  where
    go : (i : ℕ) → known ≤ i → i < m → Dec (i < n) → get_or work'' (struck_at i) 0 ≡ 0
    go i l k (yes b) = y.kept i b ∙ x.fresh i l b
    go i l k (no b) = y.fresh i (omega arith) k

-- What stands in its place stays there as more become known, and what is a sole answer stays one.
stands_more : (ks us : List Situation) (j : ℕ) (t : Situation) → Stands ks j t → Stands (grown ks us) j t
stands_more ks us j t (l, e) = (omega (arith, l, grown_longer ks us), λ d. grown-front ks us j d l ∙ e d)

pub sole_more : (ks us : List Situation) (ms : List (List Situation)) (n : ℕ) → SoleIn ks ms n → SoleIn (grown ks us) ms n
unfolding SoleIn
sole_more ks us ms n x j e = let (w, i, a) = x j e in (w, i, all_imp (Stands ks j) (Stands (grown ks us) j) w (stands_more ks us j) a)

sole_left : (ks : List Situation) (ms ns : List (List Situation)) (n : ℕ) → SoleIn (grown ks (together ms)) ms n → SoleIn (grown ks (together (ms ++ ns))) (ms ++ ns) n
unfolding SoleIn
sole_left ks ms ns n x j e =
    let (w, i, a) = x j e in (
      w,
      ∈-left w ms ns i,
      rw (together-++ ms ns, grown-++ ks (together ms) (together ns))
          (all_imp (Stands (grown ks (together ms)) j) (Stands (grown (grown ks (together ms)) (together ns)) j) w (stands_more (grown ks (together ms)) (together ns) j) a),
    )

sole_right : (ks : List Situation) (ms ns : List (List Situation)) (n : ℕ) → SoleIn (grown (grown ks (together ms)) (together ns)) ns n
    → SoleIn (grown ks (together (ms ++ ns))) (ms ++ ns) n
unfolding SoleIn
sole_right ks ms ns n x j e =
    let (w, i, a) = x j e in (w, ∈_right w ms ns i, rw (together-++ ms ns, grown-++ ks (together ms) (together ns)) a)

-- The situation taken up is struck out by a move that has no answer.
unanswered-++ : (ms ns : List (List Situation)) → unanswered (ms ++ ns) ≡ (unanswered ms || unanswered ns)
unfolding unanswered
unanswered-++ [] ns = refl
unanswered-++ ([] ∷ ms) ns = refl
unanswered-++ ((s ∷ m) ∷ ms) ns = unanswered-++ ms ns

unanswered-some : (xs : List Situation) (y : Situation) (ys : List Situation) → unanswered ((xs ++ (y ∷ ys)) ∷ []) ≡ false
unfolding unanswered
unanswered-some [] y ys = refl
unanswered-some (x ∷ xs) y ys = refl

never : {A : Type 0} → false ≡ true → A
never e = let z : ◌≡◌ {A = ℕ} 0 1 = cc in absurd (omega arith)

module _ (arities : List ℕ) (capacity taken : ℕ) (before : List Situation) (work : List ℕ) (known : ℕ) where
  strikes_none : (n : ℕ) → Some known ≡ Some n → Strikes arities capacity taken before [] work known n work
  unfolding unanswered
  strikes_none n e =
      let z : known ≡ n = cc in
      record {
        must = λ u. never u;
        stays = λ h. h;
        why = λ ks K b l h. absurd (h l);
        others = λ i h l. refl;
        fresh = λ i h l. absurd (omega arith);
        notes = λ i k h l g. refl;
        sole = λ ks K b k h. inl refl;
      }

  -- all that one of the moves leads to is struck out
  strikes_here : struck_at taken < length work → (ms : List (List Situation)) (w : List Situation) → w ∈ ms
      → ((ks : List Situation) → Knows arities capacity work known ks → All (Gone work ks) w)
      → (n : ℕ) → Some known ≡ Some n → Strikes arities capacity taken before ms work known n (set work (struck_at taken) 1)
  strikes_here room ms w there gone n e =
      let z : known ≡ n = cc in
      record {
        must = λ u. now;
        stays = λ h. now;
        why = λ ks K b l h. (w, there, gone ks K);
        others = λ i h l. get_or-set_other work (struck_at taken) (struck_at i) 1 0 (λ k. l (omega arith));
        fresh = λ i h l. absurd (omega arith);
        notes = λ i k h l g. note_flag work taken 1 i k g;
        sole = λ ks K b k h. inl (note_flag work taken 1 taken k h);
      }
    where
      now : get_or (set work (struck_at taken) 1) (struck_at taken) 0 ≡ 0 → ⊥
      now k = omega (arith, k, get_or-set_same work (struck_at taken) 1 0 room)

  module _ (waits : taken < known) where
    strikes_kept : (ms : List (List Situation)) (n : ℕ) (work' : List ℕ) → unanswered ms ≡ false → KeepsStruck work known n work'
        → Strikes arities capacity taken before ms work known n work'
    strikes_kept ms n work' e x = record {
      must = λ u. never (sym e ∙ u);
      stays = λ h z. h (sym (x.kept taken waits) ∙ z);
      why = λ ks K b l h. absurd (h (x.kept taken waits ∙ l));
      others = λ i h l. x.kept i h;
      fresh = x.fresh;
      notes = λ i k h l g. x.notes i k h g;
      sole = λ ks K b k h. inl (x.notes taken k waits h);
    }

    -- where all answers to the move w lead is noted
    strikes_noted : (w : List Situation) (n : ℕ) (work' : List ℕ) (slot : ℕ) (work'' : List ℕ) → NotesOne work' taken (slot + 1) work''
        → ((ks : List Situation) → Knows arities capacity work known ks → AllFound ks before → All (Stands (grown ks w) slot) w)
        → Strikes arities capacity taken before (w ∷ []) work known n work' → Strikes arities capacity taken before (w ∷ []) work known n work''
    unfolding SoleIn together
    strikes_noted w n work' slot work'' o where_to x = record {
      must = λ u z. x.must u (sym (mark taken) ∙ z);
      stays = λ h z. x.stays h (sym (mark taken) ∙ z);
      why = λ ks K b l h. x.why ks K b l (λ z. h (mark taken ∙ z));
      others = λ i h l. mark i ∙ x.others i h l;
      fresh = λ i h l. mark i ∙ x.fresh i h l;
      notes = λ i k h l g. o.others i l k g ∙ x.notes i k h l g;
      sole = λ ks K b k h. go ks K b k (o.here k h) (x.sole ks K b k h);
    }
      where
        mark : (i : ℕ) → get_or work'' (struck_at i) 0 ≡ get_or work' (struck_at i) 0
        mark i = o.spare.slots i key_bytes (omega arith)

        go : (ks : List Situation) → Knows arities capacity work known ks → AllFound ks before → (k : ℕ)
            → (note_at work'' taken k ≡ note_at work' taken k) ⊎ (note_at work'' taken k ≡ slot + 1)
            → (note_at work' taken k ≡ note_at work taken k) ⊎ SoleIn (grown ks (together (w ∷ []))) (w ∷ []) (note_at work' taken k)
            → (note_at work'' taken k ≡ note_at work taken k) ⊎ SoleIn (grown ks (together (w ∷ []))) (w ∷ []) (note_at work'' taken k)
        go ks K b k (inl e) (inl d) = inl (e ∙ d)
        go ks K b k (inl e) (inr d) = inr (λ j z. d j (sym e ∙ z))
        go ks K b k (inr e) d =
            inr (λ j z. let q : slot ≡ j = omega (arith, e, z) in
            (w, inl refl, subst (λ us. All (Stands (grown ks us) j) w) (sym (append-nil w)) (subst (λ i. All (Stands (grown ks w) i) w) q (where_to ks K b))))

    module _ (ms ns : List (List Situation)) (after : List Situation)
        (f : (ks : List Situation) → AllFound ks before → AllFound (grown ks (together ms)) after) (n m : ℕ) (work' work'' : List ℕ) (h : known ≤ n)
        (p : Puts arities capacity work known before (together ms) (Some n) work') (x : Strikes arities capacity taken before ms work known n work')
        (y : Strikes arities capacity taken after ns work' n m work'') where
      -- what was struck out between the two was so before them
      gone_before : (ks : List Situation) → Knows arities capacity work known ks → AllFound ks before → get_or work' (struck_at taken) 0 ≡ 0
          → (t : Situation) → Gone work' (grown ks (together ms)) t → Gone work ks t
      unfolding Puts GrowsTo
      gone_before ks K b d t o = go (dec_lt o.number known)
        where
          other : o.number ≡ taken → ⊥
          other e = o.struck (ap (λ k. get_or work' (struck_at k) 0) e ∙ d)

          go : Dec (o.number < known) → Gone work ks t
          go (yes l) = record {
            number = o.number;
            inside = omega (arith, K.count);
            is = λ e. sym (grown-front ks (together ms) o.number e (omega (arith, K.count))) ∙ o.is e;
            struck = λ z. o.struck (x.others o.number l other ∙ z);
          }
          go (no l) = absurd (o.struck (x.fresh o.number (omega arith) (omega (arith, o.inside, (p ks K b).count))))

      strikes_more : Strikes arities capacity taken before (ms ++ ns) work known m work''
      unfolding Puts GrowsTo
      strikes_more = record {
        must = λ u z. must u z (unanswered ms) refl;
        stays = λ g. y.stays (x.stays g);
        why = λ ks K b l g. why ks K b l g (ℕ_discrete (get_or work' (struck_at taken) 0) 0);
        others = λ i l k. y.others i (omega arith) k ∙ x.others i l k;
        fresh = λ i l k. go i l k (dec_lt i n);
        notes = λ i k l g o. y.notes i k (omega arith) g o ∙ x.notes i k l g o;
        sole = λ ks K b k o. sole ks k (x.sole ks K b k o) (y.sole (grown ks (together ms)) (p ks K b) (f ks b) k o);
      }
        where
          sole : (ks : List Situation) (k : ℕ)
              → (note_at work' taken k ≡ note_at work taken k) ⊎ SoleIn (grown ks (together ms)) ms (note_at work' taken k)
              → (note_at work'' taken k ≡ note_at work' taken k) ⊎ SoleIn (grown (grown ks (together ms)) (together ns)) ns (note_at work'' taken k)
              → (note_at work'' taken k ≡ note_at work taken k) ⊎ SoleIn (grown ks (together (ms ++ ns))) (ms ++ ns) (note_at work'' taken k)
          sole ks k (inl a) (inl c) = inl (c ∙ a)
          sole ks k (inr a) (inl c) = inr (sole_left ks ms ns (note_at work'' taken k) (subst (SoleIn (grown ks (together ms)) ms) (sym c) a))
          sole ks k a (inr c) = inr (sole_right ks ms ns (note_at work'' taken k) c)

          must : unanswered (ms ++ ns) ≡ true → get_or work'' (struck_at taken) 0 ≡ 0 → (b : Bool) → unanswered ms ≡ b → ⊥
          must u z true e = y.stays (x.must e) z
          must u z false e = y.must (ap (λ b. b || unanswered ns) (sym e) ∙ sym (unanswered-++ ms ns) ∙ u) z

          why : (ks : List Situation) → Knows arities capacity work known ks → AllFound ks before → get_or work (struck_at taken) 0 ≡ 0
              → (get_or work'' (struck_at taken) 0 ≡ 0 → ⊥) → Dec (get_or work' (struck_at taken) 0 ≡ 0) → (w : List Situation) × (w ∈ (ms ++ ns)) × All (Gone work ks) w
          why ks K b l g (no d) = let (w, i, a) = x.why ks K b l d in (w, ∈-left w ms ns i, a)
          why ks K b l g (yes d) =
              let (w, i, a) = y.why (grown ks (together ms)) (p ks K b) (f ks b) d g in
              (w, ∈_right w ms ns i, all_imp (Gone work' (grown ks (together ms))) (Gone work ks) w (gone_before ks K b d) a)

          go : (i : ℕ) → known ≤ i → i < m → Dec (i < n) → get_or work'' (struck_at i) 0 ≡ 0
          go i l k (yes b) = y.others i b (λ e. omega arith) ∙ x.fresh i l b
          go i l k (no b) = y.fresh i (omega arith) k

-- One list of situations after another.
module _ (arities : List ℕ) (capacity : ℕ) (work : List ℕ) (known : ℕ) where
  pub puts_known : (before xs : List Situation) → ((u : Situation) → u ∈ xs → u ∈ before) → Puts arities capacity work known before xs (Some known) work
  unfolding Puts GrowsTo
  puts_known before xs h ks K b =
      rw (grown-found ks xs (∈-all (λ u. found ks u ≡ true) xs (λ u i. all-∈ (λ u. found ks u ≡ true) before b u (h u i)))) K

  module _ (before : List Situation) where
    pub puts_none : Puts arities capacity work known before [] (Some known) work
    puts_none = puts_known before [] (λ u i. absurd i)

    -- `after` is known then
    pub puts_more : (xs ys after : List Situation) → ((ks : List Situation) → AllFound ks before → AllFound (grown ks xs) after)
        → (n : ℕ) (work' : List ℕ) (r : Option ℕ) (work'' : List ℕ) → Puts arities capacity work known before xs (Some n) work'
        → Puts arities capacity work' n after ys r work'' → Puts arities capacity work known before (xs ++ ys) r work''
    unfolding Puts GrowsTo
    puts_more xs ys after f n work' r work'' p q ks K b = rw (grown-++ ks xs ys) (q (grown ks xs) (p ks K b) (f ks b))

    pub puts_full : (xs ys : List Situation) (work' : List ℕ) → Puts arities capacity work known before xs None work'
        → Puts arities capacity work known before (xs ++ ys) None work'
    unfolding Puts GrowsTo
    puts_full xs ys work' p ks K b = let h = p ks K b in rw (grown-++ ks xs ys) (omega (arith, h, grown_longer (grown ks xs) ys))

    -- a number is noted
    puts_noted : (xs : List Situation) (r : Option ℕ) (work' work'' : List ℕ) (i : ℕ) → SpareOnly (i + 1) work' work''
        → Puts arities capacity work known before xs r work' → Puts arities capacity work known before xs r work''
    unfolding Puts GrowsTo
    puts_noted xs None work' work'' i s p ks K b = p ks K b
    puts_noted xs (Some n) work' work'' i s p ks K b = knows_noted arities capacity work' n (grown ks xs) (i + 1) work'' s (p ks K b)

    -- One list of moves after another.
    module _ (taken : ℕ) where
      leads-none : LeadsAfter arities capacity taken before [] work known (Some known) work
      unfolding together
      leads-none = record { puts = puts_none; strikes = strikes_none arities capacity taken before work known }

      module _ (ms ns : List (List Situation)) where
        leads-more : (after : List Situation) → ((ks : List Situation) → AllFound ks before → AllFound (grown ks (together ms)) after)
            → taken < known → (n : ℕ) → known ≤ n → (work' : List ℕ) (r : Option ℕ) (work'' : List ℕ)
            → LeadsAfter arities capacity taken before ms work known (Some n) work' → LeadsAfter arities capacity taken after ns work' n r work''
            → LeadsAfter arities capacity taken before (ms ++ ns) work known r work''
        leads-more after f waits n h work' r work'' x y = record {
          puts = rw (together-++ ms ns) (puts_more (together ms) (together ns) after f n work' r work'' x.puts y.puts);
          strikes = λ m e. strikes_more arities capacity taken before work known waits ms ns after f n m work' work'' h x.puts (x.strikes n refl) (y.strikes m e);
        }

        leads_full : (work' : List ℕ) → LeadsAfter arities capacity taken before ms work known None work'
            → LeadsAfter arities capacity taken before (ms ++ ns) work known None work'
        leads_full work' x = record {
          puts = rw (together-++ ms ns) (puts_full (together ms) (together ns) work' x.puts);
          strikes = λ m e. let z : ◌≡◌ {A = ℕ} 0 1 = cc in absurd (omega arith);
        }

all_proper : (arities : List ℕ) (ks : List Situation) → All (Fitting arities) ks → All (Proper name_count arities) ks
all_proper arities ks = all_imp (Fitting arities) (Proper name_count arities) ks (λ s f. f.proper)

pub whole_key : (key : List ℕ) (s : Situation) → Fits s → key ≡ key_of s → take key_bytes key ≡ key_of s
whole_key key s f e = take_all key_bytes key (omega (arith, ap length e, length_key s f)) ∙ e

-- One situation: known already, too much, or new.
module _ (capacity : ℕ) (work : List ℕ) (known : ℕ) (key : List ℕ) where
  module _ (few : known ≤ capacity) where
    pub add_found : (i : ℕ) → FindsIn capacity work known key (Some i) → AddIs capacity work known key (Some known) work
    unfolding Puts GrowsTo grown grown_by
    add_found i f = record {
      grows = grows_none capacity work known few;
      keeps = keeps_none work known;
      is = λ arities s h e ks K b.
          rw (found-slot arities work known ks K.count K.slots (all_proper arities ks K.fitting) s h.proper h.fits key e i (f.is K.chained)) K;
    }

  module _ (f : FindsIn capacity work known key None) where
    pub add_full : known ≡ capacity → AddIs capacity work known key None work
    unfolding Puts GrowsTo grown grown_by
    add_full q = record {
      grows = grows_full capacity work known;
      keeps = λ n. keeps_full work known n work;
      is = λ arities s h e ks K b.
          rw (found_no_slot arities work known ks K.count K.slots (all_proper arities ks K.fitting) s h.proper h.fits key e (f.is K.chained))
          (omega (arith, K.count, length-append ks (s ∷ [])));
    }

    pub add_new : known < capacity → slot_bytes * capacity ≤ length work → key_bytes ≤ length key → (work' : List ℕ)
        → LinkIs capacity (slot_with work known key) known work'
        → AddIs capacity work known key (Some (known + 1)) work'
    unfolding Puts GrowsTo grown grown_by
    add_new h room long work' L =
        let l : slot_bytes * known + slot_bytes ≤ length work = omega arith in
        record {
          grows = record {
            rest = slot-rest work key known l long capacity h work' L;
            within = λ n e. let z : known + 1 ≡ n = cc in (omega arith, omega arith);
          };
          keeps = λ n e. let z : known + 1 ≡ n = cc in rw (← z) (slot_struck work key known l long capacity work' L);
          is = λ arities s g e ks K b.
              rw (found_no_slot arities work known ks K.count K.slots (all_proper arities ks K.fitting) s g.proper g.fits key e (f.is K.chained))
              (knows_more work key known l long arities capacity ks K s g (whole_key key s g.fits e) work' L);
        }

  -- and whether it is left, and its slot
  one_led : (ks : List Situation) (i : ℕ) (s : Situation) → Stands ks i s → LedTo ks (To i) (s ∷ [])
  unfolding LedTo
  one_led ks i s x = (x, tt)

  pub added_full : (work' : List ℕ) → AddIs capacity work known key None work' → AddedIs capacity work known key None work'
  unfolding LeadsWhere SlotOf
  added_full work' a = record {
    added = a;
    same = record { growth = λ z. absurd z; area = λ z. absurd z };
    slot = tt;
    gone = λ z. absurd z;
    where_to = λ arities s h e n z. let q : ◌≡◌ {A = ℕ} 0 1 = cc in absurd (omega arith);
  }

  -- the last of those known now
  pub added_new : FindsIn capacity work known key None → known < 4096 → (work' : List ℕ) → AddIs capacity work known key (Some (known + 1)) work'
      → AddedIs capacity work known key (Some (record { known = known + 1; left = true; led = To known })) work'
  unfolding LeadsWhere grown grown_by SlotOf
  added_new f small work' a = record {
    added = a;
    same = record { growth = λ z. never (sym z); area = λ z. never (sym z) };
    slot = small;
    gone = λ z. never (sym z);
    where_to = λ arities s h e n z ks K b.
        rw (found_no_slot arities work known ks K.count K.slots (all_proper arities ks K.fitting) s h.proper h.fits key e (f.is K.chained))
        (one_led (ks ++ (s ∷ [])) known s (omega (arith, K.count, length-append ks (s ∷ [])), λ d. get_or_at ks s [] d known K.count));
  }

  pub added-found : known ≤ capacity → capacity ≤ 4096 → (i : ℕ) (b : Bool) → FindsIn capacity work known key (Some i) → LeftAtIs work i b
      → AddedIs capacity work known key (Some (record { known = known; left = b; led = To i })) work
  unfolding LeftAtIs LeadsWhere grown grown_by SlotOf
  added-found few most i b f l = record {
    added = add_found few i f;
    same = record { growth = λ z. refl; area = λ z. refl };
    slot = omega (arith, f.within i refl);
    gone = λ z arities s h e ks K. record {
      number = i;
      inside = omega (arith, f.within i refl, K.count);
      is = slot_holds arities work known ks K.count K.slots (all_proper arities ks K.fitting) s h.proper h.fits key e i (f.is K.chained);
      struck = eqb-false (get_or work (struck_at i) 0) 0 (sym l ∙ z);
    };
    where_to = λ arities s h e n z ks K c.
        rw (found-slot arities work known ks K.count K.slots (all_proper arities ks K.fitting) s h.proper h.fits key e i (f.is K.chained))
        (one_led ks i s (
          omega (arith, f.within i refl, K.count),
          slot_holds arities work known ks K.count K.slots (all_proper arities ks K.fitting) s h.proper h.fits key e i (f.is K.chained),
        ));
  }

-- Where two lots of situations lead.
led-both : (ks us vs : List Situation) (a b : Led) → LedTo (grown ks us) a us → LedTo (grown (grown ks us) vs) b vs → LedTo (grown ks (us ++ vs)) (joined a b) (us ++ vs)
unfolding joined LedTo
led-both ks us vs a b x y = rw (grown-++ ks us vs) (go a b x y)
  where
    us_then : (j : ℕ) → All (Stands (grown ks us) j) us → All (Stands (grown (grown ks us) vs) j) us
    us_then j = all_imp (Stands (grown ks us) j) (Stands (grown (grown ks us) vs) j) us (stands_more (grown ks us) vs j)

    -- both in one slot, or not
    one : (i j : ℕ) → All (Stands (grown ks us) i) us → All (Stands (grown (grown ks us) vs) j) vs → (p : Bool) → eqb i j ≡ p
        → LedTo (grown (grown ks us) vs) (cond p (To i) Several) (us ++ vs)
    one i j x y true e = all-++ (Stands (grown (grown ks us) vs) i) us vs (us_then i x)
        (subst (λ k. All (Stands (grown (grown ks us) vs) k) vs) (sym (eqb-true i j e)) y)
    one i j x y false e = tt

    go : (a b : Led) → LedTo (grown ks us) a us → LedTo (grown (grown ks us) vs) b vs → LedTo (grown (grown ks us) vs) (joined a b) (us ++ vs)
    go Nowhere b x y = subst (LedTo (grown (grown ks us) vs) b) (sym (ap (λ l. l ++ vs) x)) y
    go (To i) Nowhere x y = subst (All (Stands (grown (grown ks us) vs) i)) (sym (ap (λ l. us ++ l) y ∙ append-nil us)) (us_then i x)
    go (To i) (To j) x y = one i j x y (eqb i j) refl
    go (To i) Several x y = tt
    go Several b x y = tt

pub slot_small : (led : Led) (j : ℕ) → led ≡ To j → SlotOf led → j < 4096
unfolding SlotOf
slot_small led j e s = subst SlotOf e s

slot-both : (a b : Led) → SlotOf a → SlotOf b → SlotOf (joined a b)
unfolding joined SlotOf
slot-both Nowhere b x y = y
slot-both (To i) Nowhere x y = x
slot-both (To i) (To j) x y = go (eqb i j)
  where
    go : (p : Bool) → SlotOf (cond p (To i) Several)
    go true = x
    go false = tt
slot-both (To i) Several x y = tt
slot-both Several b x y = tt

-- A loop over a list of steps or names: f says what a part of the list leads to.
module _ {A B : Type 0} (f : List B → List A) (parts : (xs ys : List B) → f (xs ++ ys) ≡ f xs ++ f ys) (xs : List B) (j : ℕ) where
  part_next : (d : B) → j < length xs → f (take (j + 1) xs) ≡ f (take j xs) ++ f (get_or xs j d ∷ [])
  part_next d h = let e : j + 1 ≡ suc j = omega arith in ap (λ k. f (take k xs)) e ∙ ap f (take-suc xs j d h) ∙ parts (take j xs) (get_or xs j d ∷ [])

  part_rest : f xs ≡ f (take j xs) ++ f (drop j xs)
  part_rest = ap f (sym (take-append-drop j xs)) ∙ parts (take j xs) (drop j xs)

  part_whole : length xs ≤ j → f xs ≡ f (take j xs)
  part_whole h = ap f (sym (take_all j xs h))

-- what holds of all that the list leads to holds of what one step of it leads to
module _ (S : Situation → Type 0) where
  all_right : (xs ys : List Situation) → All S (xs ++ ys) → All S ys
  all_right [] ys a = a
  all_right (x ∷ xs) ys a = all_right xs ys a.1

  all_left : (xs ys : List Situation) → All S (xs ++ ys) → All S xs
  all_left [] ys a = tt
  all_left (x ∷ xs) ys a = (a.0, all_left xs ys a.1)

  all_one : {B : Type 0} (f : List B → List Situation) → ((xs ys : List B) → f (xs ++ ys) ≡ f xs ++ f ys)
      → (xs : List B) (j : ℕ) (d : B) → j < length xs → All S (f xs) → All S (f (get_or xs j d ∷ []))
  all_one {B} f parts xs j d h a =
      let t : B = get_or xs j d in
      let e : f xs ≡ f (take j xs) ++ (f (t ∷ []) ++ f (drop (suc j) xs)) =
      ap f (split_at xs j d h) ∙ parts (take j xs) (t ∷ drop (suc j) xs) ∙ ap (λ l. f (take j xs) ++ l) (parts (t ∷ []) (drop (suc j) xs)) in
      all_left (f (t ∷ [])) (f (drop (suc j) xs)) (all_right (f (take j xs)) (f (t ∷ []) ++ f (drop (suc j) xs)) (subst (All S) e a))

-- The answers to one step.
module _ (second : Bool) (G : List ℕ) (D : Pairs) (name : ℕ) where
  answered-++ : (s : ListedStep) (xs ys : List ListedStep) → answered second G D name s (xs ++ ys) ≡ answered second G D name s xs ++ answered second G D name s ys
  unfolding answered
  answered-++ s xs ys =
      let g : ListedStep → Situation = λ t. leading second (free_from G 0 name_count) D s t name in
      ap (map g) (select-++ (answers name_count s) xs ys) ∙ map-++ g (select (answers name_count s) xs) (select (answers name_count s) ys)

  answered_one : (s t : ListedStep) → answers name_count s t ≡ true → answered second G D name s (t ∷ []) ≡ leading second (free_from G 0 name_count) D s t name ∷ []
  unfolding answered select
  answered_one s t e = rw e

  answered-none : (s t : ListedStep) → answers name_count s t ≡ false → answered second G D name s (t ∷ []) ≡ []
  unfolding answered select
  answered-none s t e = rw e

  answered-some : (s : ListedStep) (ts : List ListedStep) (j : ℕ) (d : ListedStep) → j < length ts → answers name_count s (get_or ts j d) ≡ true
      → unanswered (answered second G D name s ts ∷ []) ≡ false
  answered-some s ts j d h e =
      let t : ListedStep = get_or ts j d in
      rw (split_at ts j d h, answered-++ s (take j ts) (t ∷ drop (suc j) ts), answered-++ s (t ∷ []) (drop (suc j) ts), answered_one s t e)
      (unanswered-some (answered second G D name s (take j ts)) (leading second (free_from G 0 name_count) D s t name) (answered second G D name s (drop (suc j) ts)))

together_one : (xs : List Situation) → together (xs ∷ []) ≡ xs
unfolding together
together_one xs = append-nil xs

-- A step and its answer that fit lead to a situation that fits.
fitting_led : (arities : List ℕ) (second : Bool) (area : List ℕ) (at : ℕ) (others : List ℕ) (place : ℕ) (F : List ℕ) (D : Pairs) (s t : ListedStep) (name : ℕ)
    → EntryAt area at s → EntryAt others place t → Proper name_count arities (leading second F D s t name) → Fitting arities (leading second F D s t name)
fitting_led arities second area at others place F D s t name e f p =
    record { proper = p; fits = leading-fits arities second area at others place F D s t name e f }

module _ (arities free apart : List ℕ) (second : Bool) (area : List ℕ) (at : ℕ) (others : List ℕ) where
  module _ (place name capacity : ℕ) (work : List ℕ) (known : ℕ) where
    pub answer-none : known ≤ capacity → AnswersIs area at others place false
        → GrowsAnswer arities free apart second area at others place name capacity work known (Some known) work
    unfolding AnswersIs
    answer-none few A = record {
      grows = grows_none capacity work known few;
      keeps = keeps_none work known;
      is = λ G D s t before flags e i f j own m p.
          rw (answered-none second G D name s t (sym (A s t e f))) (puts_none arities capacity work known before);
    }

    -- the first side's step led there
    pub answer_mirrored : known ≤ capacity → AnswersIs area at others place true → second ≡ true → (b : Bool) → SameHeaderIs area at others place b → b ≡ true
        → GrowsAnswer arities free apart second area at others place name capacity work known (Some known) work
    unfolding AnswersIs SameHeaderIs
    answer_mirrored few A z b H q = record {
      grows = grows_none capacity work known few;
      keeps = keeps_none work known;
      is = λ G D s t before flags e i f j own m p.
          let a = sym (A s t e f) in
          rw (answered_one second G D name s t a)
          (puts_known arities capacity work known before (leading second (free_from G 0 name_count) D s t name ∷ [])
          (one_of before (leading second (free_from G 0 name_count) D s t name) (m z t (inl refl) a (H q s t e f))));
    }

    pub answer-added : AnswersIs area at others place true → (key : List ℕ) → SuccessorIs arities free apart second area at others place name key
        → (r : Option ℕ) (work' : List ℕ) → AddIs capacity work known key r work'
        → GrowsAnswer arities free apart second area at others place name capacity work known r work'
    unfolding AnswersIs SuccessorIs Puts
    answer-added A key K r work' a = record {
      grows = a.grows;
      keeps = a.keeps;
      is = λ G D s t before flags e i f j own m p.
          let F : List ℕ = free_from G 0 name_count in
          let o = answered_one second G D name s t (sym (A s t e f)) in
          let q : All (Proper name_count arities) (leading second F D s t name ∷ []) = subst (All (Proper name_count arities)) o p in
          let fit = fitting_led arities second area at others place F D s t name e f q.0 in
          rw o (λ ks L b. a.is arities (leading second F D s t name) fit (K G D s t flags.names flags.pairs e f i j own) ks L tt);
    }

    -- and whether it is left, and its slot, where that was looked for
    pub answer-left : (n : ℕ) (work' : List ℕ) → GrowsAnswer arities free apart second area at others place name capacity work known (Some n) work'
        → AnswerIs arities free apart second area at others place name capacity work known (Some (record { known = n; left = true; led = Several })) work'
    unfolding LeadsWhere LedTo SlotOf
    answer-left n work' g = record {
      grown = g;
      same = record { growth = λ z. never (sym z); area = λ z. never (sym z) };
      slot = tt;
      gone = λ z. never (sym z);
      where_to = λ G D s t before flags e i f j own m p n z ks K b. tt;
    }

    pub no_answer_left : known ≤ capacity → AnswersIs area at others place false
        → AnswerIs arities free apart second area at others place name capacity work known (Some (record { known = known; left = false; led = Nowhere })) work
    unfolding AnswersIs LeadsWhere LedTo SlotOf
    no_answer_left few A = record {
      grown = answer-none few A;
      same = record { growth = λ z. refl; area = λ z. refl };
      slot = tt;
      gone = λ z G D s t flags e i f j own p ks K. rw (answered-none second G D name s t (sym (A s t e f))) tt;
      where_to = λ G D s t before flags e i f j own m p n z ks K b. answered-none second G D name s t (sym (A s t e f));
    }

    pub answer_looked : AnswersIs area at others place true → (key : List ℕ) → SuccessorIs arities free apart second area at others place name key
        → (r : Option Added) (work' : List ℕ) → AddedIs capacity work known key r work'
        → AnswerIs arities free apart second area at others place name capacity work known r work'
    unfolding AnswersIs SuccessorIs LeadsWhere
    answer_looked A key K r work' a = record {
      grown = answer-added A key K (growth r) work' a.added;
      same = a.same;
      slot = a.slot;
      gone = λ z G D s t flags e i f j own p ks L.
          let F : List ℕ = free_from G 0 name_count in
          let o = answered_one second G D name s t (sym (A s t e f)) in
          let q : All (Proper name_count arities) (leading second F D s t name ∷ []) = subst (All (Proper name_count arities)) o p in
          let fit = fitting_led arities second area at others place F D s t name e f q.0 in
          rw o (a.gone z arities (leading second F D s t name) fit (K G D s t flags.names flags.pairs e f i j own) ks L, tt);
      where_to = λ G D s t before flags e i f j own m p n z ks L b.
          let F : List ℕ = free_from G 0 name_count in
          let o = answered_one second G D name s t (sym (A s t e f)) in
          let q : All (Proper name_count arities) (leading second F D s t name ∷ []) = subst (All (Proper name_count arities)) o p in
          let fit = fitting_led arities second area at others place F D s t name e f q.0 in
          rw o (a.where_to arities (leading second F D s t name) fit (K G D s t flags.names flags.pairs e f i j own) n z ks L tt);
    }

  -- The loop over the answers from number `first` on, once the first j are looked at.
  module _ (first count name capacity : ℕ) (work₀ : List ℕ) (known : ℕ) where
    pub record Answers (work : List ℕ) (now j : ℕ) : Type 0 where
      pub grows : Grows capacity work₀ known (Some now) work
      pub keeps : KeepsStruck work₀ known now work
      pub is : (G : List ℕ) (D : Pairs) (s : ListedStep) (ts : List ListedStep) (before : List Situation) → Flagged free apart G D
          → EntryAt area at s → InScope name_count arities 0 s.result
          → ListAt arities others count ts
          → select (answers name_count s) (take first ts) ≡ []
          → MirroredBy second G D name s ts before
          → All (Proper name_count arities) (answered second G D name s ts)
          → Puts arities capacity work₀ known before (answered second G D name s (take j ts)) (Some now) work

    pub answers-start : known ≤ capacity → Answers work₀ known first
    unfolding answered
    answers-start few = record {
      grows = grows_none capacity work₀ known few;
      keeps = keeps_none work₀ known known refl;
      is = λ G D s ts before flags e i l o m p. rw o (puts_none arities capacity work₀ known before);
    }

    module _ (work : List ℕ) (now j : ℕ) (x : Answers work now j) (more : j < count) (r : Option ℕ) (work' : List ℕ)
        (g : GrowsAnswer arities free apart second area at others (step_bytes * j) name capacity work now r work') where
      next_answer : (G : List ℕ) (D : Pairs) (s : ListedStep) (ts : List ListedStep) (before : List Situation) → Flagged free apart G D
          → EntryAt area at s → InScope name_count arities 0 s.result
          → ListAt arities others count ts
          → select (answers name_count s) (take first ts) ≡ []
          → MirroredBy second G D name s ts before
          → All (Proper name_count arities) (answered second G D name s ts)
          → Puts arities capacity work₀ known before (answered second G D name s (take (j + 1) ts)) r work'
      next_answer G D s ts before flags e i l o m p =
          let f : List ListedStep → List Situation = answered second G D name s in
          let h : j < length ts = omega (arith, l.number) in
          let t : ListedStep = get_or ts j s in
          rw (part_next f (answered-++ second G D name s) ts j s h)
          (puts_more arities capacity work₀ known before (f (take j ts)) (f (t ∷ [])) before (λ ks. all-kept ks (f (take j ts)) before) now work r work'
          (x.is G D s ts before flags e i l o m p)
          (g.is G D s t before flags e i (l.entry j s more) (l.scope j s more) (l.rewritten j s more)
          (one_answer_mirrored second G D name s before ts t (get_d_∈ ts j s h) m) (all_one (Proper name_count arities) f (answered-++ second G D name s) ts j s h p)))

      next_keeps : (n : ℕ) → r ≡ Some n → KeepsStruck work₀ known n work'
      next_keeps n e = keeps_more work₀ known now n work work' (x.grows.within now refl).0 x.keeps (g.keeps n e)

    pub answers_next : (work : List ℕ) (now j : ℕ) (n : ℕ) (work' : List ℕ) → Answers work now j → j < count
        → GrowsAnswer arities free apart second area at others (step_bytes * j) name capacity work now (Some n) work' → Answers work' n (j + 1)
    answers_next work now j n work' x more g = record {
      grows = grows_more capacity work₀ known now work (Some n) work' x.grows g.grows;
      keeps = next_keeps work now j x more (Some n) work' g n refl;
      is = next_answer work now j x more (Some n) work' g;
    }

    pub answers_full : (work : List ℕ) (now j : ℕ) (work' : List ℕ) → Answers work now j → j < count
        → GrowsAnswer arities free apart second area at others (step_bytes * j) name capacity work now None work'
        → GrowsAnswers arities free apart second area at others first count name capacity work₀ known None work'
    answers_full work now j work' x more g = record {
      grows = grows_more capacity work₀ known now work None work' x.grows g.grows;
      keeps = next_keeps work now j x more None work' g;
      is = λ G D s ts before flags e i l o m p.
          let f : List ListedStep → List Situation = answered second G D name s in
          rw (part_rest f (answered-++ second G D name s) ts (j + 1))
          (puts_full arities capacity work₀ known before (f (take (j + 1) ts)) (f (drop (j + 1) ts)) work'
          (next_answer work now j x more None work' g G D s ts before flags e i l o m p));
    }

    pub answers_end : (work : List ℕ) (now j : ℕ) → Answers work now j → count ≤ j
        → GrowsAnswers arities free apart second area at others first count name capacity work₀ known (Some now) work
    answers_end work now j x h = record {
      grows = x.grows;
      keeps = λ n e. let z : now ≡ n = cc in rw (← z) x.keeps;
      is = λ G D s ts before flags e i l o m p.
          rw (part_whole (answered second G D name s) (answered-++ second G D name s) ts j (omega (arith, l.number))) (x.is G D s ts before flags e i l o m p);
    }

    -- Whether one of them is left, and their slot.
    pub record Looked (work : List ℕ) (now j : ℕ) (left : Bool) (led : Led) : Type 0 where
      pub slot : SlotOf led
      pub number : left ≡ false → now ≡ known
      pub bytes : left ≡ false → work ≡ work₀
      pub gone : left ≡ false → (G : List ℕ) (D : Pairs) (s : ListedStep) (ts : List ListedStep) → Flagged free apart G D
          → EntryAt area at s → InScope name_count arities 0 s.result
          → ListAt arities others count ts
          → select (answers name_count s) (take first ts) ≡ []
          → All (Proper name_count arities) (answered second G D name s ts)
          → (ks : List Situation) → Knows arities capacity work₀ known ks → All (Gone work₀ ks) (answered second G D name s (take j ts))
      pub where_to : (G : List ℕ) (D : Pairs) (s : ListedStep) (ts : List ListedStep) (before : List Situation) → Flagged free apart G D
          → EntryAt area at s → InScope name_count arities 0 s.result
          → ListAt arities others count ts
          → select (answers name_count s) (take first ts) ≡ []
          → MirroredBy second G D name s ts before
          → All (Proper name_count arities) (answered second G D name s ts)
          → (ks : List Situation) → Knows arities capacity work₀ known ks → AllFound ks before
          → LedTo (grown ks (answered second G D name s (take j ts))) led (answered second G D name s (take j ts))

    pub looked_start : Looked work₀ known first false Nowhere
    unfolding answered LedTo SlotOf
    looked_start = record {
      slot = tt;
      number = λ z. refl;
      bytes = λ z. refl;
      gone = λ z G D s ts flags e i l o p ks K. rw o tt;
      where_to = λ G D s ts before flags e i l o m p ks K b. rw o refl;
    }

    either_left : (b c : Bool) → (b || c) ≡ false → (b ≡ false) × (c ≡ false)
    either_left true c z = never (sym z)
    either_left false c z = (refl, z)

    pub looked_next : (work : List ℕ) (now j : ℕ) (left : Bool) (led : Led) (a : Added) (work' : List ℕ) (led' : Led) → Answers work now j
        → Looked work now j left led → j < count → led' ≡ joined led a.led
        → AnswerIs arities free apart second area at others (step_bytes * j) name capacity work now (Some a) work' → Looked work' a.known (j + 1) (left || a.left) led'
    unfolding Puts GrowsTo LeadsWhere
    looked_next work now j left led a work' led' so x more both g = record {
      slot = rw both (slot-both led a.led x.slot g.slot);
      number = λ z.
          let (u, v) = either_left left a.left z in
          let k : Some a.known ≡ Some now = g.same.growth v in
          let m : a.known ≡ now = cc in
          m ∙ x.number u;
      bytes = λ z. let (u, v) = either_left left a.left z in g.same.area v ∙ x.bytes u;
      gone = λ z G D s ts flags e i l o p ks K.
          let (u, v) = either_left left a.left z in
          let f : List ListedStep → List Situation = answered second G D name s in
          let h : j < length ts = omega (arith, l.number) in
          let t : ListedStep = get_or ts j s in
          let now-known : Knows arities capacity work now ks = rw (x.number u, x.bytes u) K in
          rw (part_next f (answered-++ second G D name s) ts j s h)
          (all-++ (Gone work₀ ks) (f (take j ts)) (f (t ∷ [])) (x.gone u G D s ts flags e i l o p ks K)
          (subst (λ w. All (Gone w ks) (f (t ∷ []))) (x.bytes u)
          (g.gone v G D s t flags e i (l.entry j s more) (l.scope j s more) (l.rewritten j s more)
          (all_one (Proper name_count arities) f (answered-++ second G D name s) ts j s h p) ks now-known)));
      where_to = λ G D s ts before flags e i l o m p ks K b.
          let f : List ListedStep → List Situation = answered second G D name s in
          let h : j < length ts = omega (arith, l.number) in
          let t : ListedStep = get_or ts j s in
          let us : List Situation = f (take j ts) in
          rw (both, part_next f (answered-++ second G D name s) ts j s h)
          (led-both ks us (f (t ∷ [])) led a.led (x.where_to G D s ts before flags e i l o m p ks K b)
          (g.where_to G D s t before flags e i (l.entry j s more) (l.scope j s more) (l.rewritten j s more)
          (one_answer_mirrored second G D name s before ts t (get_d_∈ ts j s h) m) (all_one (Proper name_count arities) f (answered-++ second G D name s) ts j s h p)
          a.known refl (grown ks us) (so.is G D s ts before flags e i l o m p ks K b) (all-kept ks us before b)));
    }

    pub looked_full : (work' : List ℕ) → GrowsAnswers arities free apart second area at others first count name capacity work₀ known None work'
        → AnswersAre arities free apart second area at others first count name capacity work₀ known None work'
    unfolding LeadsWhere SlotOf
    looked_full work' g = record {
      grown = g;
      same = record { growth = λ z. absurd z; area = λ z. absurd z };
      slot = tt;
      gone = λ z. absurd z;
      where_to = λ G D s ts before flags e i l o m p n z. let q : ◌≡◌ {A = ℕ} 0 1 = cc in absurd (omega arith);
    }

    pub looked_end : (work : List ℕ) (now j : ℕ) (left : Bool) (led : Led) → Answers work now j → Looked work now j left led → count ≤ j
        → AnswersAre arities free apart second area at others first count name capacity work₀ known (Some (record { known = now; left = left; led = led })) work
    unfolding LeadsWhere
    looked_end work now j left led x y h = record {
      grown = answers_end work now j x h;
      same = record { growth = λ z. ap Some (y.number z); area = y.bytes };
      slot = y.slot;
      gone = λ z G D s ts flags e i l o p ks K.
          rw (part_whole (answered second G D name s) (answered-++ second G D name s) ts j (omega (arith, l.number))) (y.gone z G D s ts flags e i l o p ks K);
      where_to = λ G D s ts before flags e i l o m p n z ks K b.
          rw (part_whole (answered second G D name s) (answered-++ second G D name s) ts j (omega (arith, l.number))) (y.where_to G D s ts before flags e i l o m p ks K b);
    }

-- The first answer.
module _ (area : List ℕ) (at : ℕ) (others : List ℕ) (count : ℕ) where
  -- none of the first j answers
  abbrev pub NoAnswer : ℕ → Type 0
  NoAnswer j = (s : ListedStep) (ts : List ListedStep) → EntryAt area at s → EntriesAt others count ts → select (answers name_count s) (take j ts) ≡ []

  pub no_answer_yet : NoAnswer 0
  unfolding select
  no_answer_yet s ts e l = refl

  module _ (j : ℕ) (more : j < count) (so : NoAnswer j) (b : Bool) (A : AnswersIs area at others (step_bytes * j) b) where
    pub no_answer_next : b ≡ false → NoAnswer (j + 1)
    unfolding AnswersIs EntriesAt select
    no_answer_next q s ts e l =
        let t : ListedStep = get_or ts j s in
        let a : answers name_count s t ≡ false = sym (A s t e (l.1 j s more)) ∙ q in
        part_next (select (answers name_count s)) (select-++ (answers name_count s)) ts j s (omega (arith, l.0)) ∙ rw (so s ts e l, a)

    pub answer-first : b ≡ true → FirstAnswerIs area at others count (Some j)
    unfolding AnswersIs EntriesAt FirstAnswerIs
    answer-first q = record {
      within = more;
      none = so;
      answer = λ s ts d e l. sym (A s (get_or ts j d) e (l.1 j d more)) ∙ q;
    }

  pub answer_nowhere : (j : ℕ) → j ≡ count → NoAnswer j → FirstAnswerIs area at others count None
  unfolding FirstAnswerIs EntriesAt
  answer_nowhere j q so s ts e l = ap (select (answers name_count s)) (sym (take_all j ts (omega (arith, l.0)))) ∙ so s ts e l

pub first_within : (area : List ℕ) (at : ℕ) (others : List ℕ) (count r : ℕ) → FirstAnswerIs area at others count (Some r) → r < count
unfolding FirstAnswerIs
first_within area at others count r F = F.within

list_entries : (arities area : List ℕ) (count : ℕ) (ts : List ListedStep) → ListAt arities area count ts → EntriesAt area count ts
unfolding EntriesAt
list_entries arities area count ts l = (l.number, l.entry)

-- One move.
module _ (arities free apart : List ℕ) (second : Bool) (taken : ℕ) (area : List ℕ) (at : ℕ) (others : List ℕ) (first count name capacity : ℕ) (work : List ℕ)
    (known : ℕ) (waits : taken < known) where
  pub move_answered : (r : Option ℕ) (work' : List ℕ) → GrowsAnswers arities free apart second area at others first count name capacity work known r work'
      → GrowsMove arities free apart second taken area at others first count name capacity work known r work'
  move_answered r work' g = record {
    grows = g.grows;
    is = λ G D s ts before flags e i l o some m p.
        let xs : List Situation = answered second G D name s ts in
        record {
          puts = rw (together_one xs) (g.is G D s ts before flags e i l o m p);
          strikes = λ n z. strikes_kept arities capacity taken before work known waits (xs ∷ []) n work' some (g.keeps n z);
        };
  }

  -- where all its answers lead is noted
  pub move_noted : (a : Added) (work' : List ℕ) → taken < capacity
      → AnswersAre arities free apart second area at others first count name capacity work known (Some a) work' → (slot : ℕ) → a.led ≡ To slot → (work'' : List ℕ)
      → NotesOne work' taken (slot + 1) work'' → GrowsMove arities free apart second taken area at others first count name capacity work known (Some a.known) work''
  unfolding LeadsWhere LedTo
  move_noted a work' inside g slot to work'' o = record {
    grows = record { rest = o.spare.rest capacity (omega arith) ∙ g.grown.grows.rest; within = g.grown.grows.within };
    is = λ G D s ts before flags e i l none some m p.
        let xs : List Situation = answered second G D name s ts in
        let x = (move_answered (Some a.known) work' g.grown).is G D s ts before flags e i l none some m p in
        record {
          puts = puts_noted arities capacity work known before (together (xs ∷ [])) (Some a.known) work' work'' taken o.spare x.puts;
          strikes = λ n z. strikes_noted arities capacity taken before work known waits xs n work' slot work'' o
              (λ ks K b. subst (λ d. LedTo (grown ks xs) d xs) to (g.where_to G D s ts before flags e i l none m p n z ks K b)) (x.strikes n z);
        };
  }

  -- all that it leads to is struck out
  pub move_gone : (a : Added) (work' : List ℕ) → NoneLeft (Some a) → known ≤ capacity → slot_bytes * capacity ≤ length work
      → AnswersAre arities free apart second area at others first count name capacity work known (Some a) work'
      → GrowsMove arities free apart second taken area at others first count name capacity work known (Some known) (set work' (struck_at taken) 1)
  unfolding Puts GrowsTo
  move_gone a work' z few room g = rw (g.same.area z) (record {
    grows = record {
      rest = drop-set-lt (slot_bytes * capacity) work (struck_at taken) 1 (omega arith);
      within = (grows_none capacity work known few).within;
    };
    is = λ G D s ts before flags e i l none some m p.
        let xs : List Situation = answered second G D name s ts in
        let number : ◌≡◌ {A = Option ℕ} (Some a.known) (Some known) = g.same.growth z in
        let put : Puts arities capacity work known before xs (Some known) work =
        subst (λ r. Puts arities capacity work known before xs r work) number
        (subst (λ w. Puts arities capacity work known before xs (Some a.known) w) (g.same.area z) (g.grown.is G D s ts before flags e i l none m p)) in
        record {
          puts = rw (together_one xs) (λ ks K b. knows_struck arities capacity work known (grown ks xs) taken 1 (put ks K b));
          strikes = strikes_here arities capacity taken before work known (omega arith) (xs ∷ []) xs (inl refl) (λ ks K. g.gone z G D s ts flags e i l none p ks K);
        };
  })

-- A move for each name.
module _ (arities free apart : List ℕ) (second : Bool) (taken : ℕ) (area : List ℕ) (at : ℕ) (others : List ℕ) (first count : ℕ) where
  module _ (name capacity : ℕ) (work : List ℕ) (known : ℕ) where
    pub name-none : known ≤ capacity → ReceivedIs free area at name false
        → GrowsNames arities free apart second taken area at others first count (name ∷ []) capacity work known (Some known) work
    unfolding ReceivedIs looked_with
    name-none few R = record {
      grows = grows_none capacity work known few;
      is = λ G D s ts before flags e i l none some m p.
          rw (looked_none second G D s ts name (sym (R G s flags.names e))) (leads-none arities capacity work known before taken);
    }

    pub name-received : ReceivedIs free area at name true → (r : Option ℕ) (work' : List ℕ)
        → GrowsMove arities free apart second taken area at others first count name capacity work known r work'
        → GrowsNames arities free apart second taken area at others first count (name ∷ []) capacity work known r work'
    unfolding ReceivedIs looked_with
    name-received R r work' g = record {
      grows = g.grows;
      is = λ G D s ts before flags e i l none some m p.
          let there : among (received true name_count (free_from G 0 name_count) s) name ≡ true = sym (R G s flags.names e) in
          let one = looked_one second G D s ts name there in
          let xs : List Situation = answered second G D name s ts in
          rw one (g.is G D s ts before flags e i l none (some name) (m name there) (subst (All (Proper name_count arities)) (ap together one ∙ together_one xs) p));
    }

  -- The loop over the names, once those below n are looked at.
  module _ (capacity : ℕ) (work₀ : List ℕ) (known : ℕ) where
    pub record Names (work : List ℕ) (now n : ℕ) : Type 0 where
      pub grows : Grows capacity work₀ known (Some now) work
      pub is : (G : List ℕ) (D : Pairs) (s : ListedStep) (ts : List ListedStep) (before : List Situation) → Flagged free apart G D
          → EntryAt area at s → InScope name_count arities 0 s.result
          → ListAt arities others count ts
          → select (answers name_count s) (take first ts) ≡ []
          → ((name : ℕ) → unanswered (answered second G D name s ts ∷ []) ≡ false)
          → ((name : ℕ) → among (looked_with true G s) name ≡ true → MirroredBy second G D name s ts before)
          → All (Proper name_count arities) (together (looked_at second G D s ts (names_from 0 name_count)))
          → LeadsAfter arities capacity taken before (looked_at second G D s ts (take n (names_from 0 name_count))) work₀ known (Some now) work

    pub names-start : known ≤ capacity → Names work₀ known 0
    unfolding select answered_with
    names-start few = record {
      grows = grows_none capacity work₀ known few;
      is = λ G D s ts before flags e i l none some m p. leads-none arities capacity work₀ known before taken;
    }

    module _ (waits : taken < known) (work : List ℕ) (now n : ℕ) (x : Names work now n) (more : n < name_count) (r : Option ℕ) (work' : List ℕ)
        (g : GrowsNames arities free apart second taken area at others first count (n ∷ []) capacity work now r work') where
      next_name : (G : List ℕ) (D : Pairs) (s : ListedStep) (ts : List ListedStep) (before : List Situation) → Flagged free apart G D
          → EntryAt area at s → InScope name_count arities 0 s.result
          → ListAt arities others count ts
          → select (answers name_count s) (take first ts) ≡ []
          → ((name : ℕ) → unanswered (answered second G D name s ts ∷ []) ≡ false)
          → ((name : ℕ) → among (looked_with true G s) name ≡ true → MirroredBy second G D name s ts before)
          → All (Proper name_count arities) (together (looked_at second G D s ts (names_from 0 name_count)))
          → LeadsAfter arities capacity taken before (looked_at second G D s ts (take (n + 1) (names_from 0 name_count))) work₀ known r work'
      next_name G D s ts before flags e i l none some m p =
          let f : List ℕ → List (List Situation) = looked_at second G D s ts in
          let ns : List ℕ = names_from 0 name_count in
          let h : n < length ns = omega (arith, length-names 0 name_count) in
          let q : get_or ns n 0 ≡ n = names_at 0 name_count n 0 more ∙ omega arith in
          let proper : All (Proper name_count arities) (together (f (get_or ns n 0 ∷ []))) =
          all_one (Proper name_count arities) (λ xs. together (f xs)) (together_looked second G D s ts) ns n 0 h p in
          rw (part_next f (looked_++ second G D s ts) ns n 0 h)
          (leads-more arities capacity work₀ known before taken (f (take n ns)) (f (get_or ns n 0 ∷ [])) before (λ ks. all-kept ks (together (f (take n ns))) before)
          waits now (x.grows.within now refl).0 work r work' (x.is G D s ts before flags e i l none some m p)
          (subst (λ y. LeadsAfter arities capacity taken before (f (y ∷ [])) work now r work') (sym q)
          (g.is G D s ts before flags e i l none some m (subst (λ y. All (Proper name_count arities) (together (f (y ∷ [])))) q proper))))

    module _ (waits : taken < known) (work : List ℕ) (now n : ℕ) where
      pub names_next : (k : ℕ) (work' : List ℕ) → Names work now n → n < name_count
          → GrowsNames arities free apart second taken area at others first count (n ∷ []) capacity work now (Some k) work' → Names work' k (n + 1)
      names_next k work' x more g = record {
        grows = grows_more capacity work₀ known now work (Some k) work' x.grows g.grows;
        is = next_name waits work now n x more (Some k) work' g;
      }

      pub names_full : (work' : List ℕ) → Names work now n → n < name_count
          → GrowsNames arities free apart second taken area at others first count (n ∷ []) capacity work now None work'
          → GrowsNames arities free apart second taken area at others first count (names_from 0 name_count) capacity work₀ known None work'
      names_full work' x more g = record {
        grows = grows_more capacity work₀ known now work None work' x.grows g.grows;
        is = λ G D s ts before flags e i l none some m p.
            let f : List ℕ → List (List Situation) = looked_at second G D s ts in
            let ns : List ℕ = names_from 0 name_count in
            rw (part_rest f (looked_++ second G D s ts) ns (n + 1))
            (leads_full arities capacity work₀ known before taken (f (take (n + 1) ns)) (f (drop (n + 1) ns)) work'
            (next_name waits work now n x more None work' g G D s ts before flags e i l none some m p));
      }

    pub names_end : (work : List ℕ) (now n : ℕ) → Names work now n → name_count ≤ n
        → GrowsNames arities free apart second taken area at others first count (names_from 0 name_count) capacity work₀ known (Some now) work
    names_end work now n x h = record {
      grows = x.grows;
      is = λ G D s ts before flags e i l none some m p.
          rw (part_whole (looked_at second G D s ts) (looked_++ second G D s ts) (names_from 0 name_count) n (omega (arith, length-names 0 name_count)))
          (x.is G D s ts before flags e i l none some m p);
    }

-- One step of a side.
module _ (arities free apart : List ℕ) (differ second : Bool) (taken : ℕ) (area : List ℕ) (at : ℕ) (others : List ℕ) (count capacity : ℕ) (work : List ℕ)
    (known : ℕ) where
  pub step-none : known ≤ capacity → AllowedIs differ apart area at false
      → GrowsStep arities free apart differ second taken area at others count capacity work known (Some known) work
  unfolding AllowedIs
  step-none few A = record {
    grows = grows_none capacity work known few;
    is = λ G D s ts before flags e i b l m p.
        rw (moved_none differ second G D s ts (sym (A D s flags.pairs flags.distinction e))) (leads-none arities capacity work known before taken);
  }

  module _ (A : AllowedIs differ apart area at true) (waits : taken < known) where
    may_be : (G : List ℕ) (D : Pairs) (s : ListedStep) → Flagged free apart G D → EntryAt area at s → allowed differ name_count D s ≡ true
    unfolding AllowedIs
    may_be G D s flags e = sym (A D s flags.pairs flags.distinction e)

    pub step_struck : FirstAnswerIs area at others count None → known ≤ capacity → slot_bytes * capacity ≤ length work
        → GrowsStep arities free apart differ second taken area at others count capacity work known (Some known) (set work (struck_at taken) 1)
    unfolding answered_with answered Puts GrowsTo grown FirstAnswerIs
    step_struck F few room = record {
      grows = record {
        rest = drop-set-lt (slot_bytes * capacity) work (struck_at taken) 1 (omega arith);
        within = (grows_none capacity work known few).within;
      };
      is = λ G D s ts before flags e i b l m p.
          let o : select (answers name_count s) ts ≡ [] = F s ts e (list_entries arities others count ts l) in
          let f : ℕ → List Situation = λ name. answered second G D name s ts in
          let empty : (name : ℕ) → f name ≡ [] = λ name. ap (map (λ t. leading second (free_from G 0 name_count) D s t name)) o in
          let names : List ℕ = looked_with differ G s in
          let (name, there) = looked_some differ G s b in
          rw (moved_one differ second G D s ts b (may_be G D s flags e))
          (record {
            puts = rw (together-empty f names empty) (λ ks K b. knows_struck arities capacity work known ks taken 1 K);
            strikes = strikes_here arities capacity taken before work known (omega arith) (map f names) []
                (subst (λ w. w ∈ map f names) (empty name) (∈-map f name names there)) (λ ks K. tt);
          });
    }

    module _ (first : ℕ) (F : FirstAnswerIs area at others count (Some first)) where
      where-first : FirstIs area at others count first
      unfolding FirstAnswerIs
      where-first = F

      -- it has an answer
      some-answer : (G : List ℕ) (D : Pairs) (s : ListedStep) (ts : List ListedStep) → EntryAt area at s → ListAt arities others count ts
          → (name : ℕ) → unanswered (answered second G D name s ts ∷ []) ≡ false
      some-answer G D s ts e l name =
          let h : first < count = where-first.within in
          answered-some second G D name s ts first s (omega (arith, l.number)) (where-first.answer s ts s e (list_entries arities others count ts l))

      -- names may merge: one move
      pub step_open : differ ≡ false → (r : Option ℕ) (work' : List ℕ)
          → GrowsMove arities free apart second taken area at others first count name_count capacity work known r work'
          → GrowsStep arities free apart differ second taken area at others count capacity work known r work'
      unfolding looked_with answered_with
      step_open q r work' g = record {
        grows = g.grows;
        is = λ G D s ts before flags e i b l m p.
            let may = may_be G D s flags e in
            let xs : List Situation = answered second G D name_count s ts in
            let one : moved differ second G D (s ∷ []) ts ≡ xs ∷ [] =
            moved_one differ second G D s ts b may ∙ ap (λ d. answered_with second G D (looked_with d G s) s ts) q in
            rw one (g.is G D s ts before flags e i l (where-first.none s ts e (list_entries arities others count ts l)) (some-answer G D s ts e l name_count)
            (m s (inl refl) may name_count (subst (λ d. name_count ∈ looked_with d G s) (sym q) (inl refl)))
            (subst (All (Proper name_count arities)) (ap together one ∙ together_one xs) p));
      }

      -- all names differ: one for each name that it receives
      pub step-named : differ ≡ true → (r : Option ℕ) (work' : List ℕ)
          → GrowsNames arities free apart second taken area at others first count (names_from 0 name_count) capacity work known r work'
          → GrowsStep arities free apart differ second taken area at others count capacity work known r work'
      unfolding looked_with
      step-named q r work' g = record {
        grows = g.grows;
        is = λ G D s ts before flags e i b l m p.
            let may = may_be G D s flags e in
            let all : moved differ second G D (s ∷ []) ts ≡ looked_at second G D s ts (names_from 0 name_count) =
            moved_one differ second G D s ts b may ∙ ap (λ d. answered_with second G D (looked_with d G s) s ts) q
            ∙ ap (λ names. answered_with second G D names s ts) (received_ascending G s b) in
            rw all (g.is G D s ts before flags e i l (where-first.none s ts e (list_entries arities others count ts l)) (some-answer G D s ts e l)
            (λ name a. m s (inl refl) may name (subst (λ d. name ∈ looked_with d G s) (sym q) (among-∈ (looked_with true G s) name a)))
            (subst (λ ms. All (Proper name_count arities) (together ms)) all p));
      }

      -- without a condition, made by the second side: its answers have its header
      pub step_mirrored : known ≤ capacity → second ≡ true → (t : Bool) → TrivialIs area at t → t ≡ true
          → GrowsStep arities free apart differ second taken area at others count capacity work known (Some known) work
      unfolding answered_with answered
      step_mirrored few z t T q = record {
        grows = grows_none capacity work known few;
        is = λ G D s ts before flags e i b l m p.
            let may = may_be G D s flags e in
            let f : ℕ → List Situation = λ name. answered second G D name s ts in
            let ms : List (List Situation) = map f (looked_with differ G s) in
            rw (moved_one differ second G D s ts b may)
            (record {
              puts = puts_known arities capacity work known before (together ms) (all-before G D s ts before e l (m s (inl refl) may));
              strikes = λ n y. strikes_kept arities capacity taken before work known waits ms n work
                  (unanswered-each f (looked_with differ G s) (some-answer G D s ts e l)) (keeps_none work known n y);
            });
      }
        where
          all-before : (G : List ℕ) (D : Pairs) (s : ListedStep) (ts : List ListedStep) (before : List Situation) → EntryAt area at s → ListAt arities others count ts
              → ((name : ℕ) → name ∈ looked_with differ G s → MirroredBy second G D name s ts before)
              → (u : Situation) → u ∈ together (map (λ name. answered second G D name s ts) (looked_with differ G s)) → u ∈ before
          all-before G D s ts before e l m u i =
              let (w, a, d) = together-∈ (map (λ name. answered second G D name s ts) (looked_with differ G s)) u i in
              let (name, j, k) = map-∈ (λ name. answered second G D name s ts) w (looked_with differ G s) a in
              let (t, v, n) = map-∈ (λ t. leading second (free_from G 0 name_count) D s t name) u (select (answers name_count s) ts) (subst (λ w. u ∈ w) k d) in
              let (y, c) = select-∈ (answers name_count s) t ts v in
              let (o, g, h) = ∈-number t ts y in
              let f : EntryAt others (step_bytes * o) t = subst (EntryAt others (step_bytes * o)) (sym (h s)) (l.entry o s (omega (arith, l.number))) in
              subst (λ v. v ∈ before) (sym n) (m name j z t y c (trivial_header area at _ T q others (step_bytes * o) s t e f c))

-- The steps of one side.
module _ (arities free apart : List ℕ) (differ second : Bool) (taken : ℕ) (area : List ℕ) (steps : ℕ) (others : List ℕ) (count capacity : ℕ) (work₀ : List ℕ) (known : ℕ) where
  -- The loop over them, once the first i are looked at.
  pub record Steps (work : List ℕ) (now i : ℕ) : Type 0 where
    pub grows : Grows capacity work₀ known (Some now) work
    pub is : (G : List ℕ) (D : Pairs) (ss ts : List ListedStep) (before : List Situation) → Flagged free apart G D
        → ListAt arities area steps ss → ListAt arities others count ts
        → Mirrored differ second G D ss ts before
        → All (Proper name_count arities) (together (moved differ second G D ss ts))
        → LeadsAfter arities capacity taken before (moved differ second G D (take i ss) ts) work₀ known (Some now) work

  pub steps-start : known ≤ capacity → Steps work₀ known 0
  unfolding moved moves select join_all
  steps-start few = record { grows = grows_none capacity work₀ known few; is = λ G D ss ts before flags k l m p. leads-none arities capacity work₀ known before taken }

  module _ (waits : taken < known) (work : List ℕ) (now i : ℕ) (x : Steps work now i) (more : i < steps) (r : Option ℕ) (work' : List ℕ)
      (g : GrowsStep arities free apart differ second taken area (step_bytes * i) others count capacity work now r work') where
    next_step : (G : List ℕ) (D : Pairs) (ss ts : List ListedStep) (before : List Situation) → Flagged free apart G D
        → ListAt arities area steps ss → ListAt arities others count ts
        → Mirrored differ second G D ss ts before
        → All (Proper name_count arities) (together (moved differ second G D ss ts))
        → LeadsAfter arities capacity taken before (moved differ second G D (take (i + 1) ss) ts) work₀ known r work'
    next_step G D ss ts before flags k l m p =
        let f : List ListedStep → List (List Situation) = λ xs. moved differ second G D xs ts in
        let h : i < length ss = omega (arith, k.number) in
        let d : ListedStep = some ss (omega arith) in
        let s : ListedStep = get_or ss i d in
        rw (part_next f (moved-++ differ second G D ts) ss i d h)
        (leads-more arities capacity work₀ known before taken (f (take i ss)) (f (s ∷ [])) before (λ ks. all-kept ks (together (f (take i ss))) before)
        waits now (x.grows.within now refl).0 work r work' (x.is G D ss ts before flags k l m p)
        (g.is G D s ts before flags (k.entry i d more) (k.scope i d more) (k.objects i d more) l (one_step_mirrored second G D differ before ss ts s (get_d_∈ ss i d h) m)
        (all_one (Proper name_count arities) (λ xs. together (moved differ second G D xs ts)) (together-moved differ second G D ts) ss i d h p)))
      where
        some : (xs : List ListedStep) → 0 < length xs → ListedStep
        some [] h = absurd (omega arith)
        some (y ∷ ys) h = y

  module _ (waits : taken < known) (work : List ℕ) (now i : ℕ) where
    pub steps_next : (n : ℕ) (work' : List ℕ) → Steps work now i → i < steps
        → GrowsStep arities free apart differ second taken area (step_bytes * i) others count capacity work now (Some n) work' → Steps work' n (i + 1)
    steps_next n work' x more g = record {
      grows = grows_more capacity work₀ known now work (Some n) work' x.grows g.grows;
      is = next_step waits work now i x more (Some n) work' g;
    }

    pub steps_full : (work' : List ℕ) → Steps work now i → i < steps
        → GrowsStep arities free apart differ second taken area (step_bytes * i) others count capacity work now None work'
        → GrowsSide arities free apart differ second taken area steps others count capacity work₀ known None work'
    steps_full work' x more g = record {
      grows = grows_more capacity work₀ known now work None work' x.grows g.grows;
      is = λ G D ss ts before flags k l m p.
          let f : List ListedStep → List (List Situation) = λ xs. moved differ second G D xs ts in
          rw (part_rest f (moved-++ differ second G D ts) ss (i + 1))
          (leads_full arities capacity work₀ known before taken (f (take (i + 1) ss)) (f (drop (i + 1) ss)) work'
          (next_step waits work now i x more None work' g G D ss ts before flags k l m p));
    }

  pub steps_end : (work : List ℕ) (now i : ℕ) → Steps work now i → steps ≤ i
      → GrowsSide arities free apart differ second taken area steps others count capacity work₀ known (Some now) work
  steps_end work now i x h = record {
    grows = x.grows;
    is = λ G D ss ts before flags k l m p.
        rw (part_whole (λ xs. moved differ second G D xs ts) (moved-++ differ second G D ts) ss i (omega (arith, k.number))) (x.is G D ss ts before flags k l m p);
  }

-- Both sides.
module _ (arities free apart : List ℕ) (differ : Bool) (taken : ℕ) (firsts : List ℕ) (n : ℕ) (seconds : List ℕ) (m capacity : ℕ) (work : List ℕ) (known : ℕ) where
  -- what holds of all moves holds of those of each side
  module _ (ms ns : List (List Situation)) (p : All (Proper name_count arities) (together (ms ++ ns))) where
    of_both_lem : All (Proper name_count arities) (together ms ++ together ns)
    of_both_lem = subst (All (Proper name_count arities)) (together-++ ms ns) p

    from_first : All (Proper name_count arities) (together ms)
    from_first = all_left (Proper name_count arities) (together ms) (together ns) of_both_lem

    from_second : All (Proper name_count arities) (together ns)
    from_second = all_right (Proper name_count arities) (together ms) (together ns) of_both_lem

  pub sides_full : (work' : List ℕ) → GrowsSide arities free apart differ false taken firsts n seconds m capacity work known None work'
      → GrowsSides arities free apart differ taken firsts n seconds m capacity work known None work'
  sides_full work' g = record {
    grows = g.grows;
    is = λ G D ps qs flags k l p.
        let ms = moved differ false G D ps qs in
        let ns = moved differ true G D qs ps in
        leads_full arities capacity work known [] taken ms ns work' (g.is G D ps qs [] flags k l (first_mirrored differ G D ps qs []) (from_first ms ns p));
  }

  pub sides_both : taken < known → (now : ℕ) (work' : List ℕ) → GrowsSide arities free apart differ false taken firsts n seconds m capacity work known (Some now) work'
      → (r : Option ℕ) (work'' : List ℕ) → GrowsSide arities free apart differ true taken seconds m firsts n capacity work' now r work''
      → GrowsSides arities free apart differ taken firsts n seconds m capacity work known r work''
  sides_both waits now work' g r work'' h = record {
    grows = grows_more capacity work known now work' r work'' g.grows h.grows;
    is = λ G D ps qs flags k l p.
        let ms = moved differ false G D ps qs in
        let ns = moved differ true G D qs ps in
        leads-more arities capacity work known [] taken ms ns (together ms) (λ ks b. all_grown ks (together ms)) waits now (g.grows.within now refl).0 work' r work''
        (g.is G D ps qs [] flags k l (first_mirrored differ G D ps qs []) (from_first ms ns p))
        (h.is G D qs ps (together ms) flags l k (mirrored differ G D ps qs (all-rewritten arities seconds m qs l)
        (all-rewritten arities firsts n ps k) (all_objects arities firsts n ps k)) (from_second ms ns p));
  }
