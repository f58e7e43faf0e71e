-- The known situations grow while exploration takes one up: each situation that it leads to is looked for among them and put behind them if it is
-- new. What the code promises of it.
use Rattle.std.specs.Prelude.{Option, Some, None, ◌≡◌, Bool, true, false, cond, List, [], ◌∷◌, ◌++◌, map, ◌⊎◌, ℕ, ◌+◌, ◌*◌, ◌<◌, ◌≤◌, eqb, length, get_or, take, drop}
use Rattle.calculus.specs.Cond.{Pairs}
use Rattle.calculus.specs.Distinction.{Irr, among}
use Rattle.terms.specs.Encoding.{InScope}
use Rattle.terms.specs.Limits.{name_count}
use Rattle.steps.specs.Limits.{step_bytes, most_steps}
use Rattle.calculus.specs.Lists.{◌∈◌, All}
use Rattle.steps.specs.Listed.{ListedStep}
use Rattle.field_slots.specs.Chains.{Chained}
use Rattle.field_pairs.specs.Entry.{EntryAt, Rewritten, SameHeader}
use Rattle.field.specs.Exploration.{found, together}
use Rattle.field_growth.specs.Holding.{unanswered}
use Rattle.field_growth.specs.Holding.{SlotsHold}
use Rattle.field_successors.specs.Leading.{placed, leading}
use Rattle.field_pairs.specs.NameFlags.{HasNames}
use Rattle.field_slots.specs.Noted.{noted_count, note_at, Stands, SoleIn}
use Rattle.field.specs.Situation.{Situation, free_from}
use Rattle.field_pairs.specs.Slot.{flags_of, key_of, slot_bytes, struck_at}
use Rattle.field.specs.Successors.{select, answers, allowed, received, moves}
use Rattle.field_renewal.specs.ListedEntries.{ListAt, EntriesAt}
use Rattle.field_growth.specs.declared.growth.Added.{Added}
use Rattle.field_growth.specs.declared.growth.Asked.{Asked}
use Rattle.field_growth.specs.declared.growth.Led.{Led}
use Rattle.field_growth.specs.declared.growth.Led.TheVariants.{Nowhere, To, Several}
use Rattle.field_growth.specs.declared.growth.Step.{Step}
use Rattle.field.specs.Situation.{Proper}
use Rattle.field_successors.specs.Fits.{Fits}

-- the situations that exploration puts into slots
pub record Fitting (arities : List ℕ) (s : Situation) : Type 0 where
  pub proper : Proper name_count arities s
  pub fits : Fits s

-- the known situations with s put behind them, if it is not one of them
unfoldable pub grown_by : List Situation → Situation → List Situation
grown_by known s = cond (found known s) known (known ++ (s ∷ []))

unfoldable pub grown : List Situation → List Situation → List Situation
grown known [] = known
grown known (s ∷ ss) = grown (grown_by known s) ss

-- The situations ks are known: so many, in the slots, and these chained.
pub record Knows (arities : List ℕ) (capacity : ℕ) (work : List ℕ) (known : ℕ) (ks : List Situation) : Type 0 where
  pub count : length ks ≡ known
  pub fitting : All (Fitting arities) ks
  pub slots : SlotsHold work ks
  pub chained : Chained capacity work known

-- They are ks now, or ks are more than the capacity.
unfoldable pub GrowsTo : List ℕ → ℕ → List Situation → Option ℕ → List ℕ → Type 0
GrowsTo arities capacity ks None work' = capacity < length ks
GrowsTo arities capacity ks (Some n) work' = Knows arities capacity work' n ks

abbrev pub AllFound : List Situation → List Situation → Type 0
AllFound ks us = All (λ u. found ks u ≡ true) us

-- Those of `news` that are new are put behind the known ones, if those of `before` are known.
unfoldable pub Puts : List ℕ → ℕ → List ℕ → ℕ → List Situation → List Situation → Option ℕ → List ℕ → Type 0
Puts arities capacity work known before news r work' =
    (ks : List Situation) → Knows arities capacity work known ks → AllFound ks before → GrowsTo arities capacity (grown ks news) r work'

-- In any case: what is behind the capacity stays, and the situations do not become fewer.
pub record Grows (capacity : ℕ) (work : List ℕ) (known : ℕ) (r : Option ℕ) (work' : List ℕ) : Type 0 where
  pub rest : drop (slot_bytes * capacity) work' ≡ drop (slot_bytes * capacity) work
  pub within : (n : ℕ) → r ≡ Some n → (known ≤ n) × (n ≤ capacity)

-- The situations left stay left, those struck out stay struck out, and the new ones are left. What is noted stays.
pub record KeepsStruck (work : List ℕ) (known n : ℕ) (work' : List ℕ) : Type 0 where
  pub kept : (i : ℕ) → i < known → get_or work' (struck_at i) 0 ≡ get_or work (struck_at i) 0
  pub fresh : (i : ℕ) → known ≤ i → i < n → get_or work' (struck_at i) 0 ≡ 0
  pub notes : (i k : ℕ) → i < known → k < noted_count → note_at work' i k ≡ note_at work i k

-- Where the situations us lead that were looked at: nowhere if there are none, all of them to the slot of a number, or to nothing that is said.
unfoldable pub LedTo : List Situation → Led → List Situation → Type 0
LedTo ks Nowhere us = us ≡ []
LedTo ks (To j) us = All (Stands ks j) us
LedTo ks Several us = Unit

-- The slot is one of a work area.
unfoldable pub SlotOf : Led → Type 0
SlotOf Nowhere = Unit
SlotOf (To j) = j < 4096
SlotOf Several = Unit

-- both where a and where b say
unfoldable pub joined : Led → Led → Led
joined Nowhere b = b
joined (To i) Nowhere = To i
joined (To i) (To j) = cond (eqb i j) (To i) Several
joined (To i) Several = Several
joined Several b = Several

-- What an answer says: the number of situations known, whether one of those looked at is left, and where they lead.
abbrev pub growth : Option Added → Option ℕ
growth None = None
growth (Some a) = Some a.known

abbrev pub NoneLeft : Option Added → Type 0
NoneLeft None = ⊥
NoneLeft (Some a) = a.left ≡ false

abbrev pub led_by : Option Added → Led
led_by None = Several
led_by (Some a) = a.led

-- Where r leads, if those of `before` are known.
unfoldable pub LeadsWhere : List ℕ → ℕ → List ℕ → ℕ → List Situation → List Situation → Option Added → Type 0
LeadsWhere arities capacity work known before news r =
    (n : ℕ) → growth r ≡ Some n → (ks : List Situation) → Knows arities capacity work known ks → AllFound ks before → LedTo (grown ks news) (led_by r) news

-- One situation.
pub record AddIs (capacity : ℕ) (work : List ℕ) (known : ℕ) (key : List ℕ) (r : Option ℕ) (work' : List ℕ) : Type 0 where
  pub grows : Grows capacity work known r work'
  pub keeps : (n : ℕ) → r ≡ Some n → KeepsStruck work known n work'
  pub is : (arities : List ℕ) (s : Situation) → Fitting arities s → key ≡ key_of s → Puts arities capacity work known [] (s ∷ []) r work'

-- One of the known situations is s, and it is struck out.
pub record Gone (work : List ℕ) (ks : List Situation) (s : Situation) : Type 0 where
  pub number : ℕ
  pub inside : number < length ks
  pub is : (d : Situation) → get_or ks number d ≡ s
  pub struck : get_or work (struck_at number) 0 ≡ 0 → ⊥

-- Where nothing that was looked at is left, nothing has changed.
pub record Unchanged (work : List ℕ) (known : ℕ) (r : Option Added) (work' : List ℕ) : Type 0 where
  pub growth : NoneLeft r → growth r ≡ Some known
  pub area : NoneLeft r → work' ≡ work

-- One situation, whether it is left, and its slot.
pub record AddedIs (capacity : ℕ) (work : List ℕ) (known : ℕ) (key : List ℕ) (r : Option Added) (work' : List ℕ) : Type 0 where
  pub added : AddIs capacity work known key (growth r) work'
  pub same : Unchanged work known r work'
  pub slot : SlotOf (led_by r)
  pub gone : NoneLeft r → (arities : List ℕ) (s : Situation) → Fitting arities s → key ≡ key_of s
      → (ks : List Situation) → Knows arities capacity work known ks → Gone work ks s
  pub where_to : (arities : List ℕ) (s : Situation) → Fitting arities s → key ≡ key_of s → LeadsWhere arities capacity work known [] (s ∷ []) r

-- The names G and the apart pairs D of the situation taken up, as flags.
pub record Flagged (free apart G : List ℕ) (D : Pairs) : Type 0 where
  pub names : HasNames free G
  pub pairs : apart ≡ flags_of D
  pub distinction : Irr D

-- what those of ts lead to that answer s, with a received name
unfoldable pub answered : Bool → List ℕ → Pairs → ℕ → ListedStep → List ListedStep → List Situation
answered second G D name s ts = map (λ t. leading second (free_from G 0 name_count) D s t name) (select (answers name_count s) ts)

-- Where a step of the second side is answered by one with the same header, the first side's step led to the same situation before.
abbrev pub MirroredBy : Bool → List ℕ → Pairs → ℕ → ListedStep → List ListedStep → List Situation → Type 0
MirroredBy second G D name s ts before =
    second ≡ true → (t : ListedStep) → t ∈ ts → answers name_count s t ≡ true → SameHeader s t → leading second (free_from G 0 name_count) D s t name ∈ before

-- The names with which a step is looked at: where all names differ each that it receives; else once, with none of the names.
unfoldable pub looked_with : Bool → List ℕ → ListedStep → List ℕ
looked_with false G s = name_count ∷ []
looked_with true G s = received true name_count (free_from G 0 name_count) s

unfoldable pub answered_with : Bool → List ℕ → Pairs → List ℕ → ListedStep → List ListedStep → List (List Situation)
answered_with second G D names s ts = map (λ name. answered second G D name s ts) names

-- of every step that must be answered, with each of its names
abbrev pub Mirrored : Bool → Bool → List ℕ → Pairs → List ListedStep → List ListedStep → List Situation → Type 0
Mirrored differ second G D ss ts before =
    (s : ListedStep) → s ∈ ss → allowed differ name_count D s ≡ true → (name : ℕ) → name ∈ looked_with differ G s → MirroredBy second G D name s ts before

-- One answer to the step at `at`.
pub record GrowsAnswer (arities free apart : List ℕ) (second : Bool) (area : List ℕ) (at : ℕ) (others : List ℕ) (place name capacity : ℕ) (work : List ℕ)
    (known : ℕ) (r : Option ℕ) (work' : List ℕ) : Type 0 where
  pub grows : Grows capacity work known r work'
  pub keeps : (n : ℕ) → r ≡ Some n → KeepsStruck work known n work'
  pub is : (G : List ℕ) (D : Pairs) (s t : ListedStep) (before : List Situation) → Flagged free apart G D
      → EntryAt area at s → InScope name_count arities 0 s.result
      → EntryAt others place t → InScope name_count arities 0 t.result → Rewritten t
      → MirroredBy second G D name s (t ∷ []) before
      → All (Proper name_count arities) (answered second G D name s (t ∷ []))
      → Puts arities capacity work known before (answered second G D name s (t ∷ [])) r work'

-- and whether it is left, and its slot
pub record AnswerIs (arities free apart : List ℕ) (second : Bool) (area : List ℕ) (at : ℕ) (others : List ℕ) (place name capacity : ℕ) (work : List ℕ)
    (known : ℕ) (r : Option Added) (work' : List ℕ) : Type 0 where
  pub grown : GrowsAnswer arities free apart second area at others place name capacity work known (growth r) work'
  pub same : Unchanged work known r work'
  pub slot : SlotOf (led_by r)
  pub gone : NoneLeft r → (G : List ℕ) (D : Pairs) (s t : ListedStep) → Flagged free apart G D
      → EntryAt area at s → InScope name_count arities 0 s.result
      → EntryAt others place t → InScope name_count arities 0 t.result → Rewritten t
      → All (Proper name_count arities) (answered second G D name s (t ∷ []))
      → (ks : List Situation) → Knows arities capacity work known ks → All (Gone work ks) (answered second G D name s (t ∷ []))
  pub where_to : (G : List ℕ) (D : Pairs) (s t : ListedStep) (before : List Situation) → Flagged free apart G D
      → EntryAt area at s → InScope name_count arities 0 s.result
      → EntryAt others place t → InScope name_count arities 0 t.result → Rewritten t
      → MirroredBy second G D name s (t ∷ []) before
      → All (Proper name_count arities) (answered second G D name s (t ∷ []))
      → LeadsWhere arities capacity work known before (answered second G D name s (t ∷ [])) r

-- Every answer to it, where none before `first` answers.
pub record GrowsAnswers (arities free apart : List ℕ) (second : Bool) (area : List ℕ) (at : ℕ) (others : List ℕ) (first count name capacity : ℕ) (work : List ℕ)
    (known : ℕ) (r : Option ℕ) (work' : List ℕ) : Type 0 where
  pub grows : Grows capacity work known r work'
  pub keeps : (n : ℕ) → r ≡ Some n → KeepsStruck work known n work'
  pub is : (G : List ℕ) (D : Pairs) (s : ListedStep) (ts : List ListedStep) (before : List Situation) → Flagged free apart G D
      → EntryAt area at s → InScope name_count arities 0 s.result
      → ListAt arities others count ts
      → select (answers name_count s) (take first ts) ≡ []
      → MirroredBy second G D name s ts before
      → All (Proper name_count arities) (answered second G D name s ts)
      → Puts arities capacity work known before (answered second G D name s ts) r work'

-- and whether one of them is left, and their slot
pub record AnswersAre (arities free apart : List ℕ) (second : Bool) (area : List ℕ) (at : ℕ) (others : List ℕ) (first count name capacity : ℕ) (work : List ℕ)
    (known : ℕ) (r : Option Added) (work' : List ℕ) : Type 0 where
  pub grown : GrowsAnswers arities free apart second area at others first count name capacity work known (growth r) work'
  pub same : Unchanged work known r work'
  pub slot : SlotOf (led_by r)
  pub gone : NoneLeft r → (G : List ℕ) (D : Pairs) (s : ListedStep) (ts : List ListedStep) → Flagged free apart G D
      → EntryAt area at s → InScope name_count arities 0 s.result
      → ListAt arities others count ts
      → select (answers name_count s) (take first ts) ≡ []
      → All (Proper name_count arities) (answered second G D name s ts)
      → (ks : List Situation) → Knows arities capacity work known ks → All (Gone work ks) (answered second G D name s ts)
  pub where_to : (G : List ℕ) (D : Pairs) (s : ListedStep) (ts : List ListedStep) (before : List Situation) → Flagged free apart G D
      → EntryAt area at s → InScope name_count arities 0 s.result
      → ListAt arities others count ts
      → select (answers name_count s) (take first ts) ≡ []
      → MirroredBy second G D name s ts before
      → All (Proper name_count arities) (answered second G D name s ts)
      → LeadsWhere arities capacity work known before (answered second G D name s ts) r

-- The first of `count` steps that answers the one at `at`.
pub record FirstIs (area : List ℕ) (at : ℕ) (others : List ℕ) (count r : ℕ) : Type 0 where
  pub within : r < count
  pub none : (s : ListedStep) (ts : List ListedStep) → EntryAt area at s → EntriesAt others count ts → select (answers name_count s) (take r ts) ≡ []
  pub answer : (s : ListedStep) (ts : List ListedStep) (d : ListedStep) → EntryAt area at s → EntriesAt others count ts → answers name_count s (get_or ts r d) ≡ true

-- the first, or none answers
unfoldable pub FirstAnswerIs : List ℕ → ℕ → List ℕ → ℕ → Option ℕ → Type 0
FirstAnswerIs area at others count None = (s : ListedStep) (ts : List ListedStep) → EntryAt area at s → EntriesAt others count ts → select (answers name_count s) ts ≡ []
FirstAnswerIs area at others count (Some r) = FirstIs area at others count r

-- what those of ss lead to that must be answered, each by its answers
unfoldable pub moved : Bool → Bool → List ℕ → Pairs → List ListedStep → List ListedStep → List (List Situation)
moved differ second G D ss ts = moves differ name_count (placed second) (free_from G 0 name_count) D ss ts

-- Of the situation of number `taken` the moves ms were looked at: it is struck out if one of them has no answer, and it is only if all answers of one
-- lead to situations that were struck out before. The others keep their bytes. What is noted of it newly are only answers to moves.
pub record Strikes (arities : List ℕ) (capacity taken : ℕ) (before : List Situation) (ms : List (List Situation)) (work : List ℕ) (known n : ℕ)
    (work' : List ℕ) : Type 0 where
  pub must : unanswered ms ≡ true → get_or work' (struck_at taken) 0 ≡ 0 → ⊥
  pub stays : (get_or work (struck_at taken) 0 ≡ 0 → ⊥) → get_or work' (struck_at taken) 0 ≡ 0 → ⊥
  pub why : (ks : List Situation) → Knows arities capacity work known ks → AllFound ks before → get_or work (struck_at taken) 0 ≡ 0
      → (get_or work' (struck_at taken) 0 ≡ 0 → ⊥) → (w : List Situation) × (w ∈ ms) × All (Gone work ks) w
  pub others : (i : ℕ) → i < known → (i ≡ taken → ⊥) → get_or work' (struck_at i) 0 ≡ get_or work (struck_at i) 0
  pub fresh : (i : ℕ) → known ≤ i → i < n → get_or work' (struck_at i) 0 ≡ 0
  pub notes : (i k : ℕ) → i < known → (i ≡ taken → ⊥) → k < noted_count → note_at work' i k ≡ note_at work i k
  pub sole : (ks : List Situation) → Knows arities capacity work known ks → AllFound ks before → (k : ℕ) → k < noted_count
      → (note_at work' taken k ≡ note_at work taken k) ⊎ SoleIn (grown ks (together ms)) ms (note_at work' taken k)

-- What they lead to is put behind the known ones, if those of `before` are known.
pub record LeadsAfter (arities : List ℕ) (capacity taken : ℕ) (before : List Situation) (ms : List (List Situation)) (work : List ℕ) (known : ℕ) (r : Option ℕ)
    (work' : List ℕ) : Type 0 where
  pub puts : Puts arities capacity work known before (together ms) r work'
  pub strikes : (n : ℕ) → r ≡ Some n → Strikes arities capacity taken before ms work known n work'

-- the same, whatever is known
abbrev pub Leads : List ℕ → ℕ → ℕ → List (List Situation) → List ℕ → ℕ → Option ℕ → List ℕ → Type 0
Leads arities capacity taken ms work known r work' = LeadsAfter arities capacity taken [] ms work known r work'

-- One move: a step that has answers, looked at with one name.
pub record GrowsMove (arities free apart : List ℕ) (second : Bool) (taken : ℕ) (area : List ℕ) (at : ℕ) (others : List ℕ) (first count name capacity : ℕ)
    (work : List ℕ) (known : ℕ) (r : Option ℕ) (work' : List ℕ) : Type 0 where
  pub grows : Grows capacity work known r work'
  pub is : (G : List ℕ) (D : Pairs) (s : ListedStep) (ts : List ListedStep) (before : List Situation) → Flagged free apart G D
      → EntryAt area at s → InScope name_count arities 0 s.result
      → ListAt arities others count ts
      → select (answers name_count s) (take first ts) ≡ []
      → unanswered (answered second G D name s ts ∷ []) ≡ false
      → MirroredBy second G D name s ts before
      → All (Proper name_count arities) (answered second G D name s ts)
      → LeadsAfter arities capacity taken before (answered second G D name s ts ∷ []) work known r work'

-- The same with those of `names` that the step receives.
pub record GrowsNames (arities free apart : List ℕ) (second : Bool) (taken : ℕ) (area : List ℕ) (at : ℕ) (others : List ℕ) (first count : ℕ) (names : List ℕ)
    (capacity : ℕ) (work : List ℕ) (known : ℕ) (r : Option ℕ) (work' : List ℕ) : Type 0 where
  pub grows : Grows capacity work known r work'
  pub is : (G : List ℕ) (D : Pairs) (s : ListedStep) (ts : List ListedStep) (before : List Situation) → Flagged free apart G D
      → EntryAt area at s → InScope name_count arities 0 s.result
      → ListAt arities others count ts
      → select (answers name_count s) (take first ts) ≡ []
      → ((name : ℕ) → unanswered (answered second G D name s ts ∷ []) ≡ false)
      → ((name : ℕ) → among (looked_with true G s) name ≡ true → MirroredBy second G D name s ts before)
      → (let ms = answered_with second G D (select (among (looked_with true G s)) names) s ts in
      All (Proper name_count arities) (together ms) → LeadsAfter arities capacity taken before ms work known r work')

-- The situation in slot `taken` is one of the known ones, and these have their slots in a work area of so many bytes.
pub record Underway (taken known capacity work : ℕ) : Type 0 where
  pub waits : taken < known
  pub few : known ≤ capacity
  pub most : capacity ≤ 4096
  pub room : slot_bytes * capacity ≤ work

-- So many steps may stand in an area of so many bytes.
pub record HasSteps (count area : ℕ) : Type 0 where
  pub most : count ≤ most_steps
  pub room : most_steps * step_bytes ≤ area

-- What the code asks for: everything has its place.
pub record CanAsk (asked : Asked) (area others work known : ℕ) : Type 0 where
  pub slots : Underway asked.taken known asked.capacity work
  pub step : asked.at + step_bytes ≤ area
  pub first : asked.first ≤ asked.count
  pub list : HasSteps asked.count others

-- an answer, all answers, the move and the names of the step that is asked
abbrev pub AnswerTo : List ℕ → List ℕ → List ℕ → Asked → List ℕ → List ℕ → List ℕ → ℕ → Option Added → List ℕ → Type 0
AnswerTo arities free apart asked area others work known r work' =
    AnswerIs arities free apart asked.second area asked.at others (step_bytes * asked.first) asked.name asked.capacity work known r work'

abbrev pub AnswersTo : List ℕ → List ℕ → List ℕ → Asked → List ℕ → List ℕ → List ℕ → ℕ → Option Added → List ℕ → Type 0
AnswersTo arities free apart asked area others work known r work' =
    AnswersAre arities free apart asked.second area asked.at others asked.first asked.count asked.name asked.capacity work known r work'

abbrev pub MoveIs : List ℕ → List ℕ → List ℕ → Asked → List ℕ → List ℕ → List ℕ → ℕ → Option ℕ → List ℕ → Type 0
MoveIs arities free apart asked area others work known r work' =
    GrowsMove arities free apart asked.second asked.taken area asked.at others asked.first asked.count asked.name asked.capacity work known r work'

abbrev pub NamesAre : List ℕ → List ℕ → List ℕ → Asked → List ℕ → List ℕ → List ℕ → List ℕ → ℕ → Option ℕ → List ℕ → Type 0
NamesAre arities free apart asked area others names work known r work' =
    GrowsNames arities free apart asked.second asked.taken area asked.at others asked.first asked.count names asked.capacity work known r work'

-- One step.
pub record GrowsStep (arities free apart : List ℕ) (differ second : Bool) (taken : ℕ) (area : List ℕ) (at : ℕ) (others : List ℕ) (count capacity : ℕ)
    (work : List ℕ) (known : ℕ) (r : Option ℕ) (work' : List ℕ) : Type 0 where
  pub grows : Grows capacity work known r work'
  pub is : (G : List ℕ) (D : Pairs) (s : ListedStep) (ts : List ListedStep) (before : List Situation) → Flagged free apart G D
      → EntryAt area at s → InScope name_count arities 0 s.result → s.object < name_count
      → ListAt arities others count ts
      → Mirrored differ second G D (s ∷ []) ts before
      → All (Proper name_count arities) (together (moved differ second G D (s ∷ []) ts))
      → LeadsAfter arities capacity taken before (moved differ second G D (s ∷ []) ts) work known r work'

abbrev pub StepIs : List ℕ → List ℕ → List ℕ → Step → List ℕ → List ℕ → List ℕ → ℕ → Option ℕ → List ℕ → Type 0
StepIs arities free apart step area others work known r work' =
    GrowsStep arities free apart step.differ step.second step.taken area step.at others step.count step.capacity work known r work'

-- Every step of one side.
pub record GrowsSide (arities free apart : List ℕ) (differ second : Bool) (taken : ℕ) (area : List ℕ) (steps : ℕ) (others : List ℕ) (count capacity : ℕ)
    (work : List ℕ) (known : ℕ) (r : Option ℕ) (work' : List ℕ) : Type 0 where
  pub grows : Grows capacity work known r work'
  pub is : (G : List ℕ) (D : Pairs) (ss ts : List ListedStep) (before : List Situation) → Flagged free apart G D
      → ListAt arities area steps ss → ListAt arities others count ts
      → Mirrored differ second G D ss ts before
      → All (Proper name_count arities) (together (moved differ second G D ss ts))
      → LeadsAfter arities capacity taken before (moved differ second G D ss ts) work known r work'

-- Both sides.
pub record GrowsSides (arities free apart : List ℕ) (differ : Bool) (taken : ℕ) (firsts : List ℕ) (n : ℕ) (seconds : List ℕ) (m capacity : ℕ) (work : List ℕ)
    (known : ℕ) (r : Option ℕ) (work' : List ℕ) : Type 0 where
  pub grows : Grows capacity work known r work'
  pub is : (G : List ℕ) (D : Pairs) (ps qs : List ListedStep) → Flagged free apart G D
      → ListAt arities firsts n ps → ListAt arities seconds m qs
      → All (Proper name_count arities) (together (moved differ false G D ps qs ++ moved differ true G D qs ps))
      → Leads arities capacity taken (moved differ false G D ps qs ++ moved differ true G D qs ps) work known r work'
