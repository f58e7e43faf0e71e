-- A candidate by its number, from its label and the bytes of its result: what is put into the list. Assumes nothing.
use mathlib.Core.Bool.{Bool, false}
use mathlib.Core.List.{List, [], ◌++◌, append-nil}
use mathlib.Core.Logic.{inr}
use mathlib.Core.Path.{◌≡◌, refl, sym, ◌∙◌, ap, subst}
use native.Mathlib.Omega.{arith}
use Prim.Native.Nat.{ℕ, ◌+◌, ◌<◌, ◌≤◌}
use lib.ListN.{length, get_or, set, take, drop, replicate, length-replicate, get_or-append}
use lib.Seq.{sets, sets-eq, get_or-take, get_or-set_other, length-take-le}
use Rattle.calculus.specs.Term.{Term, ren}
use Rattle.calculus.proofs.Renaming.{ren_id}
use Rattle.terms.specs.Encoding.{encode}
use Rattle.terms.specs.Limits.{name_count}
use Rattle.terms_bytes.specs.NameTable.{table_names}
use Rattle.terms_bytes.specs.Shape.{height}
use Rattle.steps_labels.specs.LabelWalk.{NthIs}
use Rattle.steps_conditions.specs.Labels.{Labels}
use Rattle.terms.specs.Question.{body_of}
use Rattle.steps_conditions.specs.Names.{name_slots, HasNames, HasNew}
use Rattle.steps_tallies.proofs.OwnNames.{own_part}
use Rattle.steps_tallies.specs.Candidates.{candidates}
use Rattle.steps.specs.Raw.{Candidate, step, blocked}
use Rattle.steps_plans.specs.Plans.{receiving, chosen, WriteIs}
use Rattle.steps_conditions.specs.declared.action.Label.{Label}
use Rattle.std.specs.Prelude.{Option, Some, None}
use Rattle.steps_labels.proofs.ArgumentSlots.{slots_part}
use Rattle.steps_splicing.specs.Collecting.{PutIs}
use Rattle.steps_entries.specs.EntryBytes.{action_bytes}
use Rattle.steps.specs.Limits.{most_steps}
use Rattle.steps_placing.specs.Taking.{candidates_of, NamesAre, ResultIs, PutStepIs, LabelIs, TakeIs}
use Rattle.steps_placing.specs.Placing.{PutClassedIs}
use Rattle.steps_entries.specs.declared.listed.ActionBytes.{ActionBytes}
use Rattle.steps_placing.proofs.CollectLaws.{put-blocked}
use Rattle.steps_entries.proofs.StepEntries.{slot-name, class_names, action_is}

-- The table of a result: the classes are stored in it.
pub names-stored : (class : List ℕ) (names : List ℕ) (v : ℕ) → name_count ≤ length class
    → names ≡ sets (replicate name_slots 0) 0 (take name_count class) → NamesAre class (set names name_count v)
unfolding NamesAre
names-stored class names v many e n h =
    let xs : List ℕ = take name_count class in
    let ys : List ℕ = drop name_count (replicate name_slots 0) in
    let l : length xs ≡ name_count = length-take-le name_count class many in
    let k : 0 + length xs ≡ name_count = omega arith in
    let whole : names ≡ xs ++ ys =
    e ∙ sets-eq xs (replicate name_slots 0) 0 (omega (arith, length-replicate {A = ℕ} name_slots 0))
    ∙ ap (λ n. xs ++ drop n (replicate name_slots 0)) k in
    get_or-set_other names name_count n v 0 (λ z. omega arith) ∙ ap (λ t. get_or t n 0) whole ∙ get_or-append xs ys 0 n (omega arith) ∙ get_or-take name_count class n 0 h

has_names : (names class : List ℕ) → NamesAre class names → (ρ : ℕ → ℕ) → ((n : ℕ) → n < name_count → (get_or class n 0 ≡ ρ n) × (ρ n < name_count))
    → HasNames name_count 0 0 names ρ
unfolding HasNames NamesAre
has_names names class has ρ is m h =
    let k : m < name_count = omega arith in
    let (e, l) = is m k in
    (ap (λ n. get_or names n 0) (slot-name table_names m) ∙ has m k ∙ e ∙ sym (slot-name table_names (ρ m)), omega arith)

has_new : (x : ℕ) → x ≤ name_count → HasNew 0 x x
unfolding HasNew
has_new x h = (sym (slot-name table_names x), omega arith)

pub result-written : (question part : List ℕ) (silently : Bool) (i : ℕ) (class : List ℕ) (x : ℕ) (names : List ℕ) → NamesAre class names
    → (out : List ℕ) (r : ℕ) (out' : List ℕ)
    → WriteIs question part 0 0 names (record { new = x; levels = 0; calls = 1; still = false; silently = silently; number = i }) out 0 r out'
    → ResultIs question part silently i class x out r out'
unfolding ResultIs chosen candidates_of
result-written question part silently i class x names has out r out' w low q P l M α A e ρ is shallow =
    w.is low q name_count (λ n. n) P [] (encode 0 (ren (receiving x ρ α) A)) (height A) l.accepted (omega arith) l.scope
    (l.bytes ∙ sym (append-nil (encode 0 P)))
    (record {
      named_own = own_part 1;
      ρ = ρ;
      x = x;
      has = has_names names class has ρ is;
      new = has_new x l.new;
      condition = M;
      action = α;
      result = A;
      candidate = ap (λ R. get_or (candidates silently (body_of q.bodies) 1 R) i blocked) (ren_id P) ∙ e;
      bytes = refl;
      bounded = omega arith;
    }) shallow

-- An end past the area says the same as any other.
pub result_past : (question part : List ℕ) (silently : Bool) (i : ℕ) (class : List ℕ) (x : ℕ) (out : List ℕ) (r : ℕ) (out' : List ℕ) → length out < r
    → ResultIs question part silently i class x out r out' → ResultIs question part silently i class x out (length out + 1) out'
unfolding ResultIs
result_past question part silently i class x out r out' h p low q P l M α A e ρ is shallow =
    let w = p low q P l M α A e ρ is shallow in
    record {
      ends = inr (omega arith);
      fits = λ t k. absurd (omega (arith, (w.fits t k).0));
    }

-- A step is put into the list by its header.
pub step-put : (question part : List ℕ) (silently : Bool) (i : ℕ) (h : Label) (x : ℕ) (area : List ℕ) (count : ℕ) (action : ActionBytes)
    → action ≡ action_bytes h.condition.class x h.action → (r : ℕ) (area' : List ℕ)
    → PutClassedIs question part silently i h.condition.class action x area count r area' → PutStepIs question part silently i h x area count r area'
unfolding PutStepIs
step-put question part silently i h x area count action made r area' p q P l M α A e hd =
    let class : List ℕ = h.condition.class in
    let classes = class_names class M hd.classes in
    p.is q P l M α A e classes (made ∙ ap (action_bytes class x) hd.action ∙ action_is class M classes x α hd.names)

-- The label of the candidate of a number over the bytes of a part.
pub label_is : (question part : List ℕ) (silently : Bool) (i : ℕ) (args : List ℕ) (h : Option Label) → NthIs question part 0 i silently args 0 0 1 h
    → LabelIs question part silently i h
unfolding candidates_of
label_is question part silently i args h label = record {
  is = λ x q P l.
      subst (λ (Q : Term). i < length (candidates silently (body_of q.bodies) 1 Q) → Labels 0 (get_or (candidates silently (body_of q.bodies) 1 Q) i blocked) h) (ren_id P)
      (label.is q name_count 0 (λ n. n) (own_part 1) P [] l.accepted (omega arith) (slots_part 0 args) l.scope (l.bytes ∙ sym (append-nil (encode 0 P))));
}

-- What is put into the list, by the label.
module _ (question part : List ℕ) (silently : Bool) (i : ℕ) (h : Option Label) (label : LabelIs question part silently i h) (x : ℕ) (area : List ℕ) (count : ℕ) where
  pub takes_blocked : count ≤ most_steps → h ≡ None
      → TakeIs question part silently i x area count count area
  unfolding TakeIs Labels PutIs
  takes_blocked few b q P l k =
      go (get_or (candidates_of silently q P) i blocked)
      (subst (λ (h : Option Label). Labels 0 (get_or (candidates_of silently q P) i blocked) h) b (label.is x q P l k))
    where
      go : (c : Candidate) → Labels 0 c None → PutIs c x area count count area
      go (step M α A) t = elim t [ ]
      go blocked t = λ found s. put-blocked area x count found s few

  pub takes_found : (r : Label) → h ≡ Some r → (m : ℕ) (area' : List ℕ) → PutStepIs question part silently i r x area count m area'
      → TakeIs question part silently i x area count m area'
  unfolding TakeIs PutStepIs Labels
  takes_found r s m area' put q P l k =
      go (get_or (candidates_of silently q P) i blocked) refl
      (subst (λ (h : Option Label). Labels 0 (get_or (candidates_of silently q P) i blocked) h) s (label.is x q P l k))
    where
      go : (c : Candidate) → get_or (candidates_of silently q P) i blocked ≡ c → Labels 0 c (Some r) → PutIs c x area count m area'
      go (step M α A) d t = put q P l M α A d t
      go blocked d t = let z : ◌≡◌ {A = ℕ} 0 1 = cc in absurd (omega arith)
