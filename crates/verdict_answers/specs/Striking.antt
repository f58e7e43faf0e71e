-- Strike-out in the work area (document 01, "The field and the verdict", and request 2026-02): which situations are left, and what the code promises
-- of them, in each manner of judging.
use Rattle.std.specs.Prelude.{Bool, true, false, cond, ◌&&◌, ◌||◌, List, [], ◌∷◌, map, ◌≡◌, ℕ, zero, suc, ◌+◌, ◌-◌, ◌*◌, ◌<◌, ◌≤◌, eqb, ltb, length, get_or, set, take, Option, Some, None, Result, Ok, Err, is_ok}
use Rattle.calculus.specs.Cond.{Pairs}
use Rattle.calculus.specs.Distinction.{Irr, among}
use Rattle.terms.specs.Answer.{result}
use Rattle.terms.specs.Encoding.{encode, InScope}
use Rattle.terms.specs.Limits.{name_count}
use Rattle.terms.specs.Question.{Question, check_of}
use Rattle.calculus.specs.Lists.{◌∈◌}
use Rattle.steps.specs.Limits.{step_bytes}
use Rattle.steps.specs.Listed.{ListedStep, names_from}
use Rattle.steps_tallies.specs.Tally.{tally_size, BodiesTallied}
use Rattle.steps_rows.specs.Rows.{row_bytes, most_rows}
use Rattle.field_growth.specs.Below.{Labelled}
use Rattle.field_slots.specs.Chains.{Chained}
use Rattle.field_pairs.specs.Entry.{EntryAt, Rewritten}
use Rattle.field_growth.specs.Holding.{unanswered}
use Rattle.field.specs.Situation.{Proper}
use Rattle.field_slots.specs.Key.{SituationAt, key_at}
use Rattle.field_successors.specs.Leading.{placed, leading}
use Rattle.field_pairs.specs.NameFlags.{HasNames}
use Rattle.field_slots.specs.Noted.{noted_count, note_at, SpareOnly, SoleIn}
use Rattle.field.specs.Setting.{setting_of}
use Rattle.field.specs.Situation.{Situation, free_from, same_situation}
use Rattle.field_pairs.specs.Slot.{flags_of, key_bytes, slot_bytes, struck_at}
use Rattle.field.specs.Successors.{select, answers, allowed, received, moves, leads, successors}
use Rattle.field_growth.specs.Below.{ListAt}
use Rattle.verdict.specs.Judge.{greatest_capacity}
use Rattle.verdict.specs.Received.{named_moves}
use Rattle.verdict.specs.Verdict.{Manner, openly, named, differs, demands_of, all_found, all_answered}
use Rattle.verdict_notes.specs.Notes.{NotedIn, Has, Few, Numbers, Within, SoleStruckIs}
use Rattle.verdict_notes.specs.declared.relied.Relied.{Relied}
use Rattle.verdict_answers.specs.declared.answered.Search.{Search}
use Rattle.verdict_answers.specs.declared.answered.SideLists.{SideLists}
use Rattle.verdict_answers.specs.declared.answered.SideRun.{SideRun}

-- The first slots have the situations of a search, and all slots are in the work area.
abbrev pub Slots : List ℕ → Search → Type 0
Slots work s = (1 ≤ s.count) × (s.count ≤ s.capacity) × (s.capacity ≤ greatest_capacity) × (slot_bytes * s.capacity ≤ length work)

-- What listing wants: tallies of the bodies, room for the tables, and areas with the lists that their labels say.
abbrev pub Listing : List ℕ → List ℕ → List ℕ → List ℕ → List ℕ → List ℕ → Type 0
Listing question bodies tally rows firsts seconds =
    BodiesTallied question bodies × (length tally ≡ tally_size) × (row_bytes * most_rows ≤ length rows) × Labelled question firsts × Labelled question seconds

-- The lists of one side and of the other are in their areas.
abbrev pub SideIn : List ℕ → List ℕ → List ℕ → SideLists → Type 0
SideIn work area others s = Slots work s.search × (step_bytes * s.steps ≤ length area) × (step_bytes * s.replies ≤ length others)

-- the bytes that say so of as many slots, from slot i on
unfoldable pub marks_from : List ℕ → ℕ → ℕ → List ℕ
marks_from work i zero = []
marks_from work i (suc n) = get_or work (struck_at i) 0 ∷ marks_from work (suc i) n

abbrev pub marks : List ℕ → ℕ → List ℕ
marks work count = marks_from work 0 count

-- those whose byte is 0
unfoldable pub living : List ℕ → List Situation → List Situation
living [] ss = []
living (f ∷ fs) [] = []
living (f ∷ fs) (s ∷ ss) = cond (eqb f 0) (s ∷ living fs ss) (living fs ss)

-- The situations that are left.
abbrev pub left_of : List ℕ → List Situation → List Situation
left_of work known = living (marks work (length known)) known

-- The bytes that are 0, counted: what falls as situations are struck out.
unfoldable pub zeros : List ℕ → ℕ
zeros [] = 0
zeros (f ∷ fs) = cond (eqb f 0) (suc (zeros fs)) (zeros fs)

-- The situations stand in the slots, each in one, and these are chained; `same_situation` is exact on them.
pub record Standing (capacity : ℕ) (work : List ℕ) (known : List Situation) : Type 0 where
  pub held : (i : ℕ) (d : Situation) → i < length known → SituationAt work (slot_bytes * i) (get_or known i d)
  pub once : (i j : ℕ) → i < length known → j < length known → key_at work i ≡ key_at work j → i ≡ j
  pub chained : Chained capacity work (length known)
  pub exact : (s t : Situation) → s ∈ known → t ∈ known → same_situation s t ≡ true → s ≡ t

-- slot i, if it is left
unfoldable pub left_at : List ℕ → ℕ → Option ℕ
left_at work i = cond (eqb (get_or work (struck_at i) 0) 0) (Some i) None

-- Where the key stands in one slot of the first `count`, and these are chained; one of them in any case.
pub record LeftIs (capacity : ℕ) (work : List ℕ) (count : ℕ) (key : List ℕ) (r : Option ℕ) : Type 0 where
  pub within : (i : ℕ) → r ≡ Some i → i < count
  pub is : Chained capacity work count → (i : ℕ) → i < count → key_at work i ≡ take key_bytes key
      → ((j : ℕ) → j < count → key_at work j ≡ take key_bytes key → j ≡ i) → r ≡ left_at work i

-- The code goes over runs of names, `from` to `to` without it: openly the number behind the names, late all names, early one name at a time. Of a run
-- count that number and the names that the step receives.
unfoldable pub counted : List ℕ → ListedStep → ℕ → Bool
counted F s y = eqb y name_count || among (received true name_count F s) y

unfoldable pub lot_of : ℕ → ℕ → List ℕ → ListedStep → List ℕ
lot_of from to F s = select (counted F s) (names_from from (to - from))

unfoldable pub some_of : List ℕ → Bool
some_of [] = false
some_of (y ∷ ys) = true

-- a step must be answered for the run: it is allowed, and some name of the run counts
unfoldable pub asked : Bool → ℕ → ℕ → List ℕ → Pairs → ListedStep → Bool
asked differ from to F D s = allowed differ name_count D s && some_of (lot_of from to F s)

-- what is demanded then: each answer leads to a situation for every name that counts
unfoldable pub demanded : ℕ → ℕ → Bool → List ℕ → Pairs → List ListedStep → ListedStep → List (List Situation)
demanded from to second F D ts s = map (λ t. map (leading second F D s t) (lot_of from to F s)) (select (answers name_count s) ts)

unfoldable pub run_demands : Bool → ℕ → ℕ → Bool → List ℕ → Pairs → List ListedStep → List ListedStep → List (List (List Situation))
run_demands differ from to second F D ss ts = map (demanded from to second F D ts) (select (asked differ from to F D) ss)

-- the demands of one side
unfoldable pub side_demands : Manner → Bool → List ℕ → Pairs → List ListedStep → List ListedStep → List (List (List Situation))
side_demands openly second F D ss ts = map (map (λ t. t ∷ [])) (moves false name_count (placed second) F D ss ts)
side_demands (named k) second F D ss ts = named_moves name_count (placed second) F D k ss ts

unfoldable pub CountsIs : List ℕ → List ℕ → ℕ → ℕ → Bool → Type 0
CountsIs free area at name r = (G : List ℕ) (s : ListedStep) → HasNames free G → EntryAt area at s → r ≡ counted (free_from G 0 name_count) s name

unfoldable pub AskedIs : List ℕ → List ℕ → List ℕ → ℕ → ℕ → ℕ → Bool → Type 0
AskedIs free apart area at from to r =
    (G : List ℕ) (D : Pairs) (s : ListedStep) → HasNames free G → Irr D → apart ≡ flags_of D → EntryAt area at s
    → r ≡ asked (ltb from name_count) from to (free_from G 0 name_count) D s

-- One side of a situation: its list of steps, the other side's, and that all answers lead to known situations.
pub record Side (differ : Bool) (arities : List ℕ) (capacity : ℕ) (work : List ℕ) (count : ℕ) (free apart : List ℕ) (second : Bool) (area : List ℕ) (n : ℕ) (others : List ℕ) (m : ℕ) : Type 0 where
  pub known : List Situation
  pub number : length known ≡ count
  pub standing : Standing capacity work known
  pub names : List ℕ
  pub pairs : Pairs
  pub steps : List ListedStep
  pub replies : List ListedStep
  pub names_free : HasNames free names
  pub apart_pairs : apart ≡ flags_of pairs
  pub distinction : Irr pairs
  pub mine : ListAt arities area n steps
  pub theirs : ListAt arities others m replies
  pub closed : (w : List Situation) → w ∈ moves differ name_count (placed second) (free_from names 0 name_count) pairs steps replies
      → (t : Situation) → t ∈ w → t ∈ known

-- The names of a run are names exactly if all names differ.
abbrev pub NameRun : Bool → ℕ → ℕ → Type 0
NameRun differ from to = (y : ℕ) → from ≤ y → y < to → ltb y name_count ≡ differ

abbrev pub OfNames : SideRun → Type 0
OfNames r = (r.from ≤ name_count) × (r.to ≤ name_count + 1) × NameRun (ltb r.from name_count) r.from r.to

-- An allowed step of one side and a step of the other.
pub record StepAndReply (arities : List ℕ) (capacity : ℕ) (work : List ℕ) (count : ℕ) (free apart : List ℕ) (second : Bool) (area : List ℕ) (at : ℕ) (others : List ℕ) (place from to : ℕ) : Type 0 where
  pub differ : Bool
  pub n : ℕ
  pub m : ℕ
  pub side : Side differ arities capacity work count free apart second area n others m
  pub run : NameRun differ from to
  pub step : ListedStep
  pub mine : step ∈ side.steps
  pub may : allowed differ name_count side.pairs step ≡ true
  pub entry : EntryAt area at step
  pub scope : InScope name_count arities 0 step.result
  pub object : step.object < name_count
  pub reply : ListedStep
  pub theirs : reply ∈ side.replies
  pub entry₂ : EntryAt others place reply
  pub scope₂ : InScope name_count arities 0 reply.result
  pub rewritten : Rewritten reply

-- t is the situation of a number in H
abbrev pub NumberIn : (ℕ → Type 0) → List Situation → Situation → Type 0
NumberIn H known t = (j : ℕ) × (j < length known) × H j × ((d : Situation) → get_or known j d ≡ t)

-- What is relied on, of `Ok` and of `Err`.
unfoldable pub relied_in : Result Relied Relied → Relied
relied_in (Ok r) = r
relied_in (Err r) = r

-- What is relied on beside what was before, in any case; it is `Ok` where the reply answers the step and every situation that it leads to is left, and
-- then has those, too.
pub record LotLeftIs (arities : List ℕ) (capacity : ℕ) (work : List ℕ) (count : ℕ) (free apart : List ℕ) (second : Bool) (area : List ℕ) (at : ℕ) (others : List ℕ) (place from to : ℕ) (before : Relied) (r : Result Relied Relied) : Type 0 where
  pub is : (c : StepAndReply arities capacity work count free apart second area at others place from to)
      → (let F = free_from c.side.names 0 name_count in
      is_ok r ≡ (answers name_count c.step c.reply
      && all_found (left_of work c.side.known) (map (leading second F c.side.pairs c.step c.reply) (lot_of from to F c.step))))
  pub numbers : Numbers (relied_in r)
  pub more : Within before (relied_in r)
  pub relies : (s : Relied) → r ≡ Ok s → Few s → (c : StepAndReply arities capacity work count free apart second area at others place from to)
      → (let F = free_from c.side.names 0 name_count in
      (y : ℕ) → y ∈ lot_of from to F c.step → NumberIn (Has s) c.side.known (leading second F c.side.pairs c.step c.reply y))

-- an answer all of whose situations have X answers the demand
abbrev pub SomeAnswer : (Situation → Type 0) → List (List Situation) → Type 0
SomeAnswer X m = (l : List Situation) × (l ∈ m) × ((t : Situation) → t ∈ l → X t)

-- Each demand has an answer all of whose situations have numbers in H.
unfoldable pub ReliesOn : (ℕ → Type 0) → List Situation → List (List (List Situation)) → Type 0
ReliesOn H known ms = (m : List (List Situation)) → m ∈ ms → SomeAnswer (NumberIn H known) m

-- What is relied on beside what was before, in any case; it is `Ok` where those left answer each demand, and then is enough for that.
pub record AnsweredIs (C : Type 0) (work : List ℕ) (known : C → List Situation) (demands : C → List (List (List Situation))) (before : Relied) (r : Result Relied Relied) : Type 0 where
  pub is : (c : C) → is_ok r ≡ all_answered (left_of work (known c)) (demands c)
  pub numbers : Numbers (relied_in r)
  pub more : Within before (relied_in r)
  pub relies : (s : Relied) → r ≡ Ok s → Few s → (c : C) → ReliesOn (Has s) (known c) (demands c)

-- the demands of a run of names, and those of one side
abbrev pub RunAnsweredIs : ℕ → ℕ → List ℕ → ℕ → List ℕ → ℕ → List ℕ → List ℕ → Bool → List ℕ → ℕ → List ℕ → ℕ → Relied → Result Relied Relied → Type 0
RunAnsweredIs from to arities capacity work count free apart second area n others m before r =
    AnsweredIs (Side (ltb from name_count) arities capacity work count free apart second area n others m) work (λ p. p.known)
    (λ p. run_demands (ltb from name_count) from to second (free_from p.names 0 name_count) p.pairs p.steps p.replies) before r

abbrev pub SideAnsweredIs : Manner → List ℕ → ℕ → List ℕ → ℕ → List ℕ → List ℕ → Bool → List ℕ → ℕ → List ℕ → ℕ → Relied → Result Relied Relied → Type 0
SideAnsweredIs manner arities capacity work count free apart second area n others m before r =
    AnsweredIs (Side (differs manner) arities capacity work count free apart second area n others m) work (λ p. p.known)
    (λ p. side_demands manner second (free_from p.names 0 name_count) p.pairs p.steps p.replies) before r

-- Both parts are the same term.
abbrev pub EqualParts : Situation → Type 0
EqualParts s = s.first ≡ s.second

-- what is demanded of a situation that leads to ms
abbrev pub demands_at : Manner → Question → Situation → List (List Situation) → List (List (List Situation))
demands_at manner q s ms = demands_of manner (setting_of (differs manner) q.bodies) (record { self = s; wants = ms })

-- Each demand on s has an answer that leads to equal parts only.
pub record LeadsToEqual (manner : Manner) (q : Question) (s : Situation) : Type 0 where
  pub wants : List (List Situation)
  pub leading : successors (setting_of (differs manner) q.bodies) s ≡ leads wants
  pub some : (m : List (List Situation)) → m ∈ demands_at manner q s wants → SomeAnswer EqualParts m

-- The field of an accepted question in the work area: its situations lead to each other only, and those with equal parts, step by step, to such.
pub record FieldIn (manner : Manner) (question : List ℕ) (capacity : ℕ) (work : List ℕ) (count : ℕ) : Type 0 where
  pub read : Question
  pub accepted : check_of question ≡ result read
  pub known : List Situation
  pub number : length known ≡ count
  pub standing : Standing capacity work known
  pub proper : (s : Situation) → s ∈ known → Proper name_count read.arities s
  pub closed : (s : Situation) → s ∈ known → (ms : List (List Situation)) → successors (setting_of (differs manner) read.bodies) s ≡ leads ms
      → (w : List Situation) → w ∈ ms → (t : Situation) → t ∈ w → t ∈ known
  pub equal : (s : Situation) → s ∈ known → EqualParts s → LeadsToEqual manner read s

-- Situation i leads to ms.
abbrev pub LeadsTo : {manner : Manner} {question : List ℕ} {capacity : ℕ} {work : List ℕ} {count : ℕ} → FieldIn manner question capacity work count → ℕ → Situation → List (List Situation) → Type 0
LeadsTo {manner} f i d ms = successors (setting_of (differs manner) f.read.bodies) (get_or f.known i d) ≡ leads ms

-- Those with a permitted step that has no answer at all are struck out, and those with equal parts are left.
pub record Searching (manner : Manner) (question : List ℕ) (capacity : ℕ) (work : List ℕ) (count : ℕ) : Type 0 where
  pub field : FieldIn manner question capacity work count
  pub struck : (i : ℕ) (d : Situation) (ms : List (List Situation)) → i < count → LeadsTo field i d ms → unanswered ms ≡ true
      → get_or work (struck_at i) 0 ≡ 0 → ⊥
  pub equal : (i : ℕ) (d : Situation) → i < count → EqualParts (get_or field.known i d) → get_or work (struck_at i) 0 ≡ 0

-- Whether those left answer each demand on situation i of the field in the work area.
unfoldable pub AllAnsweredIs : Manner → List ℕ → ℕ → List ℕ → ℕ → ℕ → Bool → Type 0
AllAnsweredIs manner question capacity work count i r =
    (f : FieldIn manner question capacity work count) (d : Situation) (ms : List (List Situation)) → LeadsTo f i d ms
    → r ≡ all_answered (left_of work f.known) (demands_at manner f.read (get_or f.known i d) ms)

-- The same of a field that is being searched.
unfoldable pub SurvivesIs : Manner → List ℕ → ℕ → List ℕ → ℕ → ℕ → Bool → Type 0
SurvivesIs manner question capacity work count i r =
    (f : Searching manner question capacity work count) (d : Situation) (ms : List (List Situation)) → LeadsTo f.field i d ms
    → r ≡ all_answered (left_of work f.field.known) (demands_at manner f.field.read (get_or f.field.known i d) ms)

-- Each demand on situation i has an answer that leads to situations in H, whichever are left.
unfoldable pub Relies : Manner → List ℕ → ℕ → List ℕ → ℕ → ℕ → (ℕ → Type 0) → Type 0
Relies manner question capacity work count i H =
    (f : FieldIn manner question capacity work count) (d : Situation) (ms : List (List Situation)) → LeadsTo f i d ms
    → ReliesOn H f.known (demands_at manner f.read (get_or f.known i d) ms)

pub record ExaminedIs (manner : Manner) (question : List ℕ) (capacity : ℕ) (work : List ℕ) (count i : ℕ) (r : Result Relied Relied) : Type 0 where
  pub is : AllAnsweredIs manner question capacity work count i (is_ok r)
  pub numbers : Numbers (relied_in r)
  pub relies : (s : Relied) → r ≡ Ok s → Few s → Relies manner question capacity work count i (Has s)

-- What is noted is enough for each situation to rely on.
unfoldable pub AllNoted : Manner → List ℕ → ℕ → List ℕ → ℕ → Type 0
AllNoted manner question capacity work count = (i : ℕ) → i < count → 0 < note_at work i 0 → Relies manner question capacity work count i (NotedIn work i)

-- Where a number is noted in slot i, all answers to one of its moves lead to the situation in that slot.
unfoldable pub AllSole : Manner → List ℕ → ℕ → List ℕ → ℕ → Type 0
AllSole manner question capacity work count =
    (i k : ℕ) → i < count → k < noted_count → (f : FieldIn manner question capacity work count) (d : Situation) (ms : List (List Situation)) → LeadsTo f i d ms
    → SoleIn f.known ms (note_at work i k)

-- what the notes say while situations are examined, and before
unfoldable pub NotesHold : Bool → Manner → List ℕ → ℕ → List ℕ → ℕ → Type 0
NotesHold true = AllNoted
NotesHold false = AllSole

-- Situations are struck out one at a time, each while it is left and a demand on it is not answered. No other byte is changed but those for notes.
pub data Strikes (manner : Manner) (question : List ℕ) (capacity count : ℕ) (work : List ℕ) : List ℕ → Type 0 where
  none_struck : Strikes manner question capacity count work work
  one_struck : {v : List ℕ} → Strikes manner question capacity count work v → (i : ℕ) → i < count → get_or v (struck_at i) 0 ≡ 0 → SurvivesIs manner question capacity v count i false
      → Strikes manner question capacity count work (set v (struck_at i) 1)
  notes_changed : {v u : List ℕ} → Strikes manner question capacity count work v → SpareOnly count v u → Strikes manner question capacity count work u

-- A test that holds says that the bytes of the two parts in slot i are the same.
unfoldable pub EqualPartsIs : List ℕ → ℕ → Bool → Type 0
EqualPartsIs work i r = r ≡ true → (s : Situation) → SituationAt work (slot_bytes * i) s → encode 0 s.first ≡ encode 0 s.second

-- Situation i is struck out only if one that is noted in its slot is; no other byte is changed.
pub record StrikesSole (work : List ℕ) (count i : ℕ) (r : Bool) (work' : List ℕ) : Type 0 where
  pub sole : SoleStruckIs work count i r
  pub struck : r ≡ true → work' ≡ set work (struck_at i) 1
  pub kept : r ≡ false → work' ≡ work

-- Situation i is struck out, or it is not to be struck out as far as it was examined.
pub record StrikesOne (examine : Bool) (manner : Manner) (question : List ℕ) (capacity : ℕ) (work : List ℕ) (count i : ℕ) (r : Bool) (work' : List ℕ) : Type 0 where
  pub struck : r ≡ true → (get_or work (struck_at i) 0 ≡ 0) × SurvivesIs manner question capacity work count i false × (work' ≡ set work (struck_at i) 1)
  pub kept : r ≡ false → SpareOnly count work work' × (examine ≡ true → get_or work (struck_at i) 0 ≡ 0 → SurvivesIs manner question capacity work count i true)
  pub noted : NotesHold examine manner question capacity work' count

-- every situation that is left survives
unfoldable pub AllSurvive : Manner → List ℕ → ℕ → List ℕ → ℕ → Type 0
AllSurvive manner question capacity work count = (i : ℕ) → i < count → get_or work (struck_at i) 0 ≡ 0 → SurvivesIs manner question capacity work count i true

-- The number of the part that a pass takes up when i of the `count` come behind it: the larger numbers first, or the smaller ones.
unfoldable pub turned : Bool → ℕ → ℕ → ℕ
turned rising count i = cond rising (count - 1 - i) i

-- one of the `size` slots from `from` on
abbrev pub Run : ℕ → ℕ → ℕ → Type 0
Run from size = λ j. (from ≤ j) × (j < from + size)

-- How many slots a block of each level has. A pass makes a block stable, by passes over the blocks of the level below, before it goes on.
unfoldable pub block_slots : ℕ → ℕ
block_slots level = cond (eqb level 0) 1 (cond (eqb level 1) 16 256)

-- One pass over the situations in H, or several: whether any was struck out. If none was, only notes are changed, and those in H that are left
-- survive if they were examined.
pub record PassIs (examine : Bool) (manner : Manner) (question : List ℕ) (capacity : ℕ) (work : List ℕ) (count : ℕ) (H : ℕ → Type 0) (r : Bool) (work' : List ℕ) : Type 0 where
  pub strikes : Strikes manner question capacity count work work'
  pub fewer : r ≡ true → zeros (marks work' count) < zeros (marks work count)
  pub same : r ≡ false → SpareOnly count work work'
  pub none : examine ≡ true → r ≡ false → (j : ℕ) → j < count → H j → get_or work' (struck_at j) 0 ≡ 0 → SurvivesIs manner question capacity work' count j true
  pub noted : NotesHold examine manner question capacity work' count

-- The first situation that is struck out, of the first `count`.
pub record FirstStruckIs (work : List ℕ) (count : ℕ) (r : Option ℕ) : Type 0 where
  pub some : (i : ℕ) → r ≡ Some i → (i < count) × (get_or work (struck_at i) 0 ≡ 0 → ⊥) × ((j : ℕ) → j < i → get_or work (struck_at j) 0 ≡ 0)
  pub none : r ≡ None → (i : ℕ) → i < count → get_or work (struck_at i) 0 ≡ 0

-- Whether the start is left, where none is left to strike out or the start is not left.
pub record StartSurvivesIs (manner : Manner) (question : List ℕ) (capacity : ℕ) (work : List ℕ) (count : ℕ) (r : Bool) (work' : List ℕ) : Type 0 where
  pub strikes : Strikes manner question capacity count work work'
  pub stays : r ≡ true → (get_or work' (struck_at 0) 0 ≡ 0) × AllSurvive manner question capacity work' count
  pub goes : r ≡ false → get_or work' (struck_at 0) 0 ≡ 0 → ⊥
