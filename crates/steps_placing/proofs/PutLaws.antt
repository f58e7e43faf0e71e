-- A step put into the list: from its classes, its action's bytes and the bytes written for its result. Assumes nothing.
use borrow.Author.Tests.{leb-true, leb-false}
use mathlib.Core.Bool.{Bool, true, false, cond, ◌||◌}
use mathlib.Core.List.{List}
use mathlib.Core.Path.{◌≡◌, refl, sym, ◌∙◌, ap, ap₂, subst}
use native.Mathlib.Omega.{arith}
use Prim.Native.Nat.{ℕ, suc, ◌+◌, ◌<◌, ◌≤◌}
use lib.Dec.{leb}
use lib.ListN.{length, get_or, take}
use Rattle.calculus.specs.Abstraction.{Act, tau_a, inp_a, out_a, bout_a}
use Rattle.calculus.specs.Cond.{Cond, cls}
use Rattle.calculus.specs.Distinction.{among}
use Rattle.calculus.specs.Free.{fn}
use Rattle.calculus.specs.Term.{Term, ren}
use Rattle.calculus.specs.Tidy.{tidy}
use Rattle.calculus.proofs.Conditions.{cls_le}
use Rattle.calculus.proofs.Renaming.{ren_id}
use Rattle.terms.specs.Encoding.{encode, InScope}
use Rattle.terms.specs.Limits.{name_count, longest_term}
use Rattle.terms.specs.Question.{Question, body_of}
use Rattle.terms.proofs.RenamingKeeps.{length-ren}
use Rattle.terms.proofs.WellFormed.{accepted_well_formed}
use Rattle.terms_tidying.specs.Tidying.{longest_raw}
use Rattle.terms_restrictions.proofs.Mentions.{unmentioned, narrowed}
use Rattle.steps.specs.Forms.{result_form}
use Rattle.steps.specs.Limits.{most_steps}
use Rattle.steps.specs.Listed.{kind_of, channel_of, object_of, canon_step, result_bytes}
use Rattle.steps.specs.Raw.{step, blocked, visible, silent}
use Rattle.steps_tallies.specs.Candidates.{candidates}
use Rattle.steps_tallies.specs.Tally.{BodiesTidied}
use Rattle.steps_tallies.proofs.Unrestricted.{plain_tidied}
use Rattle.steps_conditions.specs.Names.{OwnNames}
use Rattle.steps_plans.specs.Plans.{receiving, Written}
use Rattle.steps_plans.proofs.ResultLaws.{written_of}
use Rattle.steps_results.proofs.SilentSteps.{silent_action}
use Rattle.steps_entries.specs.Entries.{InsertIs}
use Rattle.steps_entries.specs.EntryBytes.{entry_bytes}
use Rattle.steps_entries.specs.StepActions.{step_action}
use Rattle.steps_entries.specs.declared.listed.ActionBytes.{ActionBytes}
use Rattle.steps_splicing.specs.Collecting.{PutIs}
use Rattle.steps_splicing.specs.Contexts.{Frame, raised, Placed}
use Rattle.steps_splicing.specs.ListedParts.{Lists}
use Rattle.steps_splicing.specs.Locating.{MetResultIs}
use Rattle.steps_splicing.specs.PlacedResults.{Trivial, Raises, PlacedResultIs}
use Rattle.steps_splicing.specs.Ready.{PartUnrestricted}
use Rattle.steps_splicing.proofs.CandidateResults.{receiving-canonical}
use Rattle.steps_placing.specs.Placing.{PutResultIs, PutWrittenIs, PutSilentIs, PutPlacedIs, PutClassedIs, PutMetIs, StandsFor}
use Rattle.steps_placing.specs.Taking.{candidates_of, ResultIs}
use Rattle.steps_placing.specs.TidiedResults.{TidiedResultIs}
use Rattle.steps_placing.specs.declared.put.Communication.{Communication}
use Rattle.steps_placing.proofs.CanonBytes.{action_of_step, coded, entry-canonical}
use Rattle.steps_placing.proofs.CollectLaws.{put_step, put_long, take-sets}
use Rattle.steps_placing.proofs.PlainResults.{tidied-canonical, plain_at}
use Rattle.steps_placing.proofs.RawRoom.{raw_room}
use Rattle.steps_placing.proofs.ResultScope.{within, silent_scope}
use Rattle.steps_placing.proofs.TidiedResults.{result_scope}
use Rattle.steps_placing.proofs.WrittenLaws.{whole-bytes, written_plain}

pub opposed : {T : Type 0} → true ≡ false → T
opposed f = let z : ◌≡◌ {A = ℕ} 0 1 = cc in absurd (omega arith)

pub neither : (a b : Bool) → a || b ≡ false → (a ≡ false) × (b ≡ false)
neither false b e = (refl, e)
neither true b e = opposed e

-- The action's bytes are those of the step in canonical form.
pub step-coded : (x : ℕ) (M : Cond) (α : Act) → step_action x M α ≡ coded (action_of_step M x α)
unfolding step_action kind_of channel_of object_of
step-coded x M tau_a = refl
step-coded x M (inp_a a) = refl
step-coded x M (out_a a b) = refl
step-coded x M (bout_a a) = refl

module _ (class : List ℕ) (action : ActionBytes) (result : List ℕ) (n : ℕ) (area : List ℕ) (count : ℕ) where
  -- A result that is too long passes a limit.
  pub put_result_long : longest_term < n → (area' : List ℕ) → PutResultIs class action result n area count (most_steps + 1) area'
  unfolding PutIs
  put_result_long long area' = record {
    is = λ out x M α A size w classes acts found s.
        put_long area x count found s M α A
        (over (length (result_bytes (canon_step result_form name_count x M α A))) (λ k. (w.fits (omega arith)).0)) area';
  }
    where
      over : (b : ℕ) → (b ≤ longest_term → n ≡ 0 + b) → longest_term < b
      over b f = go (leb b longest_term) refl
        where
          go : (t : Bool) → leb b longest_term ≡ t → longest_term < b
          go true d = let k = leb-true b longest_term d in absurd (omega (arith, f k))
          go false d = leb-false b longest_term d

  -- A number past the limit says the same as any other.
  pub put_result_passed : (m : ℕ) (area' : List ℕ) → most_steps < m → PutResultIs class action result n area count m area'
      → PutResultIs class action result n area count (most_steps + 1) area'
  unfolding PutIs
  put_result_passed m area' h p = record {
    is = λ out x M α A size w classes acts found s.
        record { stands = λ k. absurd (omega arith); passed = λ _ cs. (p.is out x M α A size w classes acts found s).passed h cs };
  }

  pub put_result_inserted : n ≤ longest_term → name_count ≤ length class → (entry : List ℕ) → entry ≡ entry_bytes class action (take n result)
      → (r : ℕ) (area' : List ℕ) → InsertIs area count entry r area' → PutResultIs class action result n area count r area'
  unfolding PutIs
  put_result_inserted short many entry made r area' inserted = record {
    is = λ out x M α A size w classes acts found s.
        let bs : List ℕ = result_bytes (canon_step result_form name_count x M α A) in
        let fit : length bs ≤ longest_term = within (length bs) (length out) size (λ k. (w.fits (omega arith)).0) (λ k. w.over (omega arith)) in
        let f = w.fits (omega arith) in
        let t : take n result ≡ bs = ap (take n) f.1 ∙ take-sets out bs n (omega (arith, f.0)) (omega arith) in
        put_step area x count found s M α A fit entry
        (made ∙ ap₂ (entry_bytes class) (acts ∙ step-coded x M α) t ∙ entry-canonical class M many classes x α A) r area' inserted;
  }
    where
      within : (b o : ℕ) → longest_term ≤ o → (b ≤ o → n ≡ 0 + b) → (o < b → o < n) → b ≤ longest_term
      within b o room f g = go (leb b o) refl
        where
          go : (t : Bool) → leb b o ≡ t → b ≤ longest_term
          go true d = omega (arith, f (leb-true b o d))
          go false d = absurd (omega (arith, g (leb-false b o d)))

-- Without restrictions a result that is too long before it is tidied passes a limit.
pub written_long : (question class : List ℕ) (action : ActionBytes) (written : List ℕ) (n : ℕ) (restricted : Bool) (area : List ℕ) (count : ℕ) → longest_term < n
    → restricted ≡ false → (area' : List ℕ) → PutWrittenIs question class action written n restricted area count (most_steps + 1) area'
written_long question class action written n restricted area count long f area' =
    written_plain question class action written n restricted area count (most_steps + 1) area' f (put_result_long class action written n area count long area')

-- By the way in which its result was written: by the classes of its condition,
module _ (question part : List ℕ) (restricted : Bool) (U : restricted ≡ false → PartUnrestricted question part) (silently : Bool) (i : ℕ) (class : List ℕ) (action : ActionBytes) (x : ℕ)
    (area : List ℕ) (count r : ℕ) (area' out : List ℕ) (size : length out ≡ longest_term) (written : List ℕ) (n : ℕ) where
  pub classed_put : ResultIs question part silently i class x out n written → PutWrittenIs question class action written n restricted area count r area'
      → PutClassedIs question part silently i class action x area count r area'
  unfolding ResultIs
  classed_put w p = record {
    is = λ q P l M α A e classes acts.
        let R : Term = ren (receiving x (cls M) α) A in
        p.is q out x M α A R l.accepted size (result_scope question part x q P l silently i M α A e)
        (written_of 0 A out 0 (encode 0 R) n written (omega arith) (length-ren 0 0 (receiving x (cls M) α) A)
        (λ low shallow. w low q P l M α A e (cls M) (λ k h. (classes k h, omega (arith, cls_le M k))) (λ t. let k = shallow t in omega arith)))
        refl (λ f. plain_tidied (receiving x (cls M) α) M α A (plain_at question part (U f) x q P l silently i M α A e)) classes acts;
  }

  -- or, if it is silent, with its own names.
  pub classed_silent : silently ≡ true → (own : List ℕ) → OwnNames 0 own → ResultIs question part silently i own x out n written
      → PutSilentIs question class written n true restricted area count r area' → PutClassedIs question part silently i class action x area count r area'
  unfolding ResultIs OwnNames candidates_of candidates receiving
  classed_silent quiet own owns w p = record {
    is = λ q P l M α A e classes acts.
        let e₀ : get_or (silent (body_of q.bodies) 1 P) i blocked ≡ step M α A = subst (λ (b : Bool). get_or (candidates b (body_of q.bodies) 1 P) i blocked ≡ step M α A) quiet e in
        let t : α ≡ tau_a = silent_action (body_of q.bodies) 1 (omega arith) P i M α A e₀ in
        let e₁ = e ∙ ap (λ (α : Act). step M α A) t in
        let w₁ : Written out 0 (encode 0 A) n written =
        subst (λ (B : Term). Written out 0 (encode 0 B) n written) (ren_id A)
        (written_of 0 A out 0 (encode 0 (ren (λ k. k) A)) n written (omega arith) (length-ren 0 0 (λ k. k) A)
        (λ low shallow. w low q P l M tau_a A e₁ (λ k. k) (λ k h. (owns k (omega arith), h)) (λ t. let k = shallow t in omega arith))) in
        subst (λ (α : Act). PutIs (step M α A) x area count r area') (sym t)
        (p.is q out x M A A l.accepted size (record { classes = classes; trivial = opposed })
        (silent_scope question q P l.accepted l.scope i M A (e₀ ∙ ap (λ (α : Act). step M α A) t)) w₁ refl
        (λ f. subst (λ (B : Term). tidy B ≡ B) (ren_id A) (plain_tidied (λ k. k) M tau_a A (plain_at question part (U f) x q P l silently i M tau_a A e₁))));
  }

-- Tidied.
pub classed_tidied : (question part : List ℕ) → BodiesTidied question → (silently : Bool) (i : ℕ) (class : List ℕ) (action : ActionBytes) (x : ℕ) (area : List ℕ) (count r : ℕ)
    (area' out result : List ℕ) (n : ℕ) → length out ≡ longest_raw → TidiedResultIs question part silently i class x out n result
    → PutResultIs class action result n area count r area' → PutClassedIs question part silently i class action x area count r area'
unfolding TidiedResultIs
classed_tidied question part T silently i class action x area count r area' out result n size w p = record {
  is = λ q P l M α A e classes acts.
      let room = raw_room q (accepted_well_formed question q l.accepted) (T q l.accepted) P l.scope l.tidied l.size silently i M α A e in
      let t = w q P l M α A e classes room.0 room.1 in
      p.is out x M α A (omega arith)
      (rw (tidied-canonical x M α A) (record { fits = λ h. (omega (arith, t.0), t.1); over = λ h. omega (arith, t.0) })) classes acts;
}

-- A candidate of a term that stands in the part, whose condition merges nothing.
module _ (question part : List ℕ) (at depth start : ℕ) (silently : Bool) (j : ℕ) (action : ActionBytes) (x : ℕ) (area : List ℕ) (count r : ℕ) (area' class : List ℕ)
    (own : OwnNames 0 class) where
  -- its number in the part
  numbered : (q : Question) (P : Term) (K : List Frame) (C : Term) (first number : ℕ) (M : Cond) (α : Act) (A : Term)
      → Raises q P K C at depth first number silently j M α A → start ≡ cond silently number first
      → get_or (candidates_of silently q P) (start + j) blocked ≡ step M α A
  unfolding candidates_of candidates
  numbered q P K C first number M α A raises e = rw e (go silently raises.placed raises.own) ∙ ap (raised K) raises.own ∙ raises.is
    where
      go : (b : Bool) → Placed q.arities (body_of q.bodies) P K C at depth first number
          → get_or (candidates b (body_of q.bodies) 1 C) j blocked ≡ step raises.condition raises.action raises.result
          → get_or (candidates b (body_of q.bodies) 1 P) (cond b number first + j) blocked ≡ raised K (get_or (candidates b (body_of q.bodies) 1 C) j blocked)
      go true p e = p.silently.is j (within (silent (body_of q.bodies) 1 C) j raises.condition raises.action raises.result e)
      go false p e = p.visibly.is j (within (visible (body_of q.bodies) 1 C) j raises.condition raises.action raises.result e)

  pub placed-put : (restricted : Bool) → (restricted ≡ false → PartUnrestricted question part) → (out : List ℕ) → length out ≡ longest_term → (written : List ℕ) (n : ℕ)
      → PlacedResultIs question part at depth silently j x out n written → PutWrittenIs question class action written n restricted area count r area'
      → PutPlacedIs question part at depth start silently j action x area count r area'
  unfolding OwnNames Trivial
  placed-put restricted U out size written n w p = record {
    is = λ q P l K C first number M α A raises from t acts.
        let e = numbered q P K C first number M α A raises from in
        p.is q out x M α A (ren (receiving x (cls M) α) A) l.accepted size (result_scope question part x q P l silently (start + j) M α A e)
        (rw (← receiving-canonical x M α A) (w.is q P l K C first number M α A raises t)) refl
        (λ f. plain_tidied (receiving x (cls M) α) M α A (plain_at question part (U f) x q P l silently (start + j) M α A e))
        (λ k h. own k (omega arith) ∙ sym (t k)) acts;
  }

  pub placed-tidied : PutClassedIs question part silently (start + j) class action x area count r area'
      → PutPlacedIs question part at depth start silently j action x area count r area'
  unfolding OwnNames Trivial
  placed-tidied p = record {
    is = λ q P l K C first number M α A raises from t acts.
        p.is q P l M α A (numbered q P K C first number M α A raises from) (λ k h. own k (omega arith) ∙ sym (t k)) acts;
  }

-- A communication.
module _ (question part : List ℕ) (met : Communication) (class area : List ℕ) (count r : ℕ) (area' : List ℕ) where
  pub met-numbered : PutClassedIs question part true met.number class (record { kind = 0; channel = 0; object = 0 }) met.x area count r area'
      → PutMetIs question part met class area count r area'
  unfolding step_action
  met-numbered p = record { is = λ q P l M B A e c holes scope stands. p.is q P l M tau_a A e c.classes refl }

  -- from what was written for it, in which the name that stands for nothing else does not occur
  pub met-put : (restricted : Bool) → (restricted ≡ false → (met.closes ≡ false) × PartUnrestricted question part) → (out : List ℕ) → length out ≡ longest_term → (written : List ℕ) (n : ℕ)
      → MetResultIs question part met.left met.right met.new out n written
      → (met.closes ≡ true → (n ≤ longest_term) × (among (take n written) name_count ≡ false))
      → PutSilentIs question class written n met.merges restricted area count r area' → PutMetIs question part met class area count r area'
  unfolding StandsFor candidates_of candidates
  met-put restricted U out size written n w none p = record {
    is = λ q P l M B A e c holes scope stands.
        let v = w.is q (encode 0 B) l.accepted holes in
        let (s, t, u) = stood q P l M B A e scope v met.closes refl stands in
        p.is q out met.x M B A l.accepted size c s v t u;
  }
    where
      stood : (q : Question) (P : Term) → Lists question part met.x q P → (M : Cond) (B A : Term) → get_or (candidates_of true q P) met.number blocked ≡ step M tau_a A
          → InScope (suc name_count) q.arities 0 B → Written out 0 (encode 0 B) n written → (b : Bool) → met.closes ≡ b → StandsFor b B A
          → InScope name_count q.arities 0 B × (tidy B ≡ tidy A) × (restricted ≡ false → tidy B ≡ B)
      stood q P l M B A e scope v false k same = (
        subst (InScope name_count q.arities 0) (sym same) (silent_scope question q P l.accepted l.scope met.number M A e),
        ap tidy same,
        λ f.
            subst (λ (R : Term). tidy R ≡ R) (ren_id A ∙ sym same)
            (plain_tidied (λ k. k) M tau_a A (plain_at question part (U f).1 met.x q P l true met.number M tau_a A e)),
      )
      stood q P l M B A e scope v true k same =
          let (short, m) = none k in
          let free : among (fn B) name_count ≡ false = unmentioned 0 name_count B (rw (whole-bytes B n out written size v short) at m) in
          (narrowed name_count q.arities 0 B scope free, same free, λ f. opposed (sym k ∙ (U f).0))
