-- The walk of a call in a body: it is listed, or put into the table and opened. Assumes nothing.
use mathlib.Core.Bool.{true, false}
use mathlib.Core.List.{List, [], ◌∷◌, ◌++◌, map, append-nil, reverse}
use mathlib.Core.Logic.{inl, inr}
use mathlib.Core.Path.{◌≡◌, refl, sym, ap, subst, ◌∙◌}
use native.Mathlib.Omega.{arith}
use Prim.Native.Nat.{ℕ, suc, ◌+◌, ◌-◌, ◌*◌, ◌<◌, ◌≤◌}
use lib.ListN.{length, get_or, length-map}
use lib.Seq.{ext_get_or}
use borrow.Author.Tests.{lt-ltb}
use Rattle.std.specs.Prelude.{Option, Some, None}
use Rattle.calculus.specs.Definitions.{Defs, at, opened}
use Rattle.calculus.specs.Lists.{◌∈◌}
use Rattle.calculus.specs.Term.{Term, call}
use Rattle.calls.specs.ReachLimit.{Call}
use Rattle.terms.specs.Answer.{result}
use Rattle.terms.specs.Encoding.{name_byte, encode, InScope}
use Rattle.terms.specs.Limits.{greatest_arity}
use Rattle.terms.specs.Question.{Question, check_of, body_of}
use Rattle.terms.proofs.ScopeLaws.{name_within}
use Rattle.terms_bytes.proofs.Stores.{get_d_front, get_d_map, get_d_reverse}
use Rattle.steps_tallies.specs.Bodies.{AritiesIs, BodyIs}
use Rattle.steps_tallies.proofs.CallLaws.{body_scope, few_parameters}
use Rattle.steps_tallies.proofs.CandidateForms.{tag_at, only_call}
use Rattle.steps_reach.specs.CallTable.{most_calls, table_bytes, RowIs, name_in, NamesIs, Named, ListedIs}
use Rattle.steps_reach.specs.Walks.{Defines, CalledNamesIs, Sized, Answers, Stands, ReachTermIs}
use Rattle.steps_reach.proofs.Rows.{FewNames, table_kept, row-call, call-row, put_into, put-below, put-row}
use Rattle.steps_reach.proofs.TableLaws.{name_there}
use Rattle.steps_reach.proofs.WalkLaws.{some_none, some_is}
use Rattle.steps_reach.proofs.Walking.{known-walked, opened-walked, opened_exceeded, one_too_many}

pub called_names_are : (question s : List ℕ) (at count : ℕ) (t : List ℕ) (row : ℕ) (arities : List ℕ) (k arity : ℕ) (r : List ℕ)
    → AritiesIs question arities → k ≡ get_or t (9 * row) 0 → arity ≡ get_or arities k 0 → NamesIs s at count t row arity r
    → CalledNamesIs question s at count t row r
unfolding CalledNamesIs AritiesIs
called_names_are question s at count t row arities k arity r A e a N q ok =
    subst (λ n. NamesIs s at count t row n r) (a ∙ ap (λ l. get_or l k 0) (A q ok) ∙ ap (λ j. get_or q.arities j 0) e) N

-- The byte of a parameter stands for the name that the call gives it.
pub parameter_byte : (t : List ℕ) (row k : ℕ) (xs : List ℕ) (m : ℕ) → RowIs t row (k, xs) → m < length xs
    → name_in t row (length xs) (name_byte (length xs) m) ≡ get_or (reverse xs) m 0
unfolding name_byte
parameter_byte t row k xs m R l =
    let b : 128 + m - 128 ≡ m = omega arith in
    let p : 9 * row + (length xs - m) ≡ 9 * row + 1 + (length xs - 1 - m) = omega arith in
    rw (lt-ltb m (length xs) l) (name_there t row (length xs) (128 + m) (omega arith) (omega arith)
    ∙ ap (λ i. get_or t (9 * row + (length xs - i)) 0) b ∙ ap (λ i. get_or t i 0) p ∙ R.names (length xs - 1 - m) (omega arith) ∙ sym (get_d_reverse xs m l))

few_names : (question : List ℕ) (q : Question) (Δ : Defs) → Defines question q Δ → (cs : List Call) → Sized Δ cs → FewNames cs
few_names question q Δ d cs S c m = omega (arith, S c m, d.arity c.0, few_parameters question q d.accepted c.0)

-- The body of k⟨xs⟩ stands where the code finds it.
module _ (question : List ℕ) (q : Question) (Δ : Defs) (d : Defines question q Δ) (k : ℕ) (xs : List ℕ) (a : length xs ≡ get_or q.arities k 0) where
  pub body_in_scope : InScope 0 q.arities (length xs) (Δ.body k)
  body_in_scope = subst (λ D. InScope 0 q.arities D (Δ.body k)) (sym a)
      (subst (InScope 0 q.arities (get_or q.arities k 0)) (sym (d.body k)) (body_scope question q d.accepted k))

  pub body_bytes : k < length q.arities → (body : List ℕ) → BodyIs question k body → body ≡ encode (length xs) (Δ.body k) ++ []
  body_bytes l body B = B.is q d.accepted l ∙ ap (λ D. encode D (body_of q.bodies k)) (sym a) ∙ ap (encode (length xs)) (sym (d.body k))
      ∙ sym (append-nil _)

-- the names of a call in the body of a call with the names xs
abbrev pub given : List ℕ → List ℕ → List ℕ
given xs ns = map (λ i. get_or (reverse xs) i 0) ns

-- The call l⟨ns⟩ in the body of the call in row `row`, as the code finds it: definition k,
module _ (question s : List ℕ) (at row : ℕ) (t : List ℕ) (size k : ℕ) (ek : k ≡ get_or s (at + 1) 0) where
  module _ (q : Question) (Δ : Defs) (xs : List ℕ) (l : ℕ) (ns : List ℕ) (cs : List Call) (S : Stands q Δ s at row t size xs (call l ns) cs) where
    same_definition : l ≡ k
    unfolding encode
    same_definition = sym (get_d_front s at (encode (length xs) (call l ns)) S.rest 1 S.bytes (omega arith)) ∙ sym ek

    is_there : k < length q.arities
    unfolding InScope
    is_there = omega (arith, S.scope.0, same_definition)

  abbrev Here : Question → Defs → List ℕ → List Call → List ℕ → Option ℕ → Term → Type 0
  Here q Δ xs cs t' r P = Stands q Δ s at row t size xs P cs → Answers Δ (opened xs P) cs t' r

  module _ (far : 8 < get_or s at 0) where
    -- It is enough to look at calls.
    each-call : (t' : List ℕ) (r : Option ℕ) → ((n : ℕ) → r ≡ Some n → (size ≤ n) × (n ≤ most_calls)) → ((i : ℕ) → i < 9 * size → get_or t' i 0 ≡ get_or t i 0)
        → ((q : Question) (Δ : Defs) → Defines question q Δ → (xs : List ℕ) (l : ℕ) (ns : List ℕ) (cs : List Call)
        → Stands q Δ s at row t size xs (call l ns) cs → Answers Δ (call l (given xs ns)) cs t' r) → ReachTermIs question s at row t size t' r
    each-call t' r on kept h = record {
      on = on;
      kept = kept;
      is = λ q Δ d xs P cs S. only_call (Here q Δ xs cs t' r) (λ l ns S. h q Δ d xs l ns cs S) P
          (subst (λ i. 8 < i) (tag_at s at (length xs) P S.rest S.bytes) far) S;
    }

    -- A call that may not be opened is none of an accepted question.
    pub reach_closed : size ≤ most_calls → ((q : Question) → check_of question ≡ result q → k < length q.arities → ⊥) → ReachTermIs question s at row t size t (Some size)
    reach_closed held none = each-call t (Some size) (λ n e. let z = some_is e in (omega arith, omega arith)) (λ i l. refl)
        (λ q Δ d xs l ns cs S. absurd (none q d.accepted (is_there q Δ xs l ns cs S)))

  -- with n names.
  module _ (n : ℕ) (names : List ℕ) (en : (q : Question) → check_of question ≡ result q → n ≡ get_or q.arities k 0)
      (N : CalledNamesIs question s (at + 2) n t row names) where
    module _ (q : Question) (Δ : Defs) (d : Defines question q Δ) (xs : List ℕ) (l : ℕ) (ns : List ℕ) (cs : List Call)
        (S : Stands q Δ s at row t size xs (call l ns) cs) where
      own_arity : length ns ≡ n
      unfolding InScope
      own_arity = S.scope.1 ∙ ap (λ i. get_or q.arities i 0) (same_definition q Δ xs l ns cs S) ∙ sym (en q d.accepted)

      given-length : length (given xs ns) ≡ n
      given-length = length-map ns (λ i. get_or (reverse xs) i 0) ∙ own_arity

      given_arity : length (given xs ns) ≡ Δ.arity l
      given_arity = given-length ∙ en q d.accepted ∙ ap (λ i. get_or q.arities i 0) (sym (same_definition q Δ xs l ns cs S)) ∙ sym (d.arity l)

      given-names : (j : ℕ) → j < n → get_or names j 0 ≡ get_or (given xs ns) j 0
      unfolding CalledNamesIs NamesIs encode InScope
      given-names j h =
          let i : j < length ns = omega (arith, own_arity) in
          let z : at + 2 + j ≡ at + suc (suc j) = omega arith in
          let m = name_within 0 (length xs) ns S.scope.2 j i in
          let a : get_or q.arities (get_or t (9 * row) 0) 0 ≡ length xs = ap (λ x. get_or q.arities x 0) S.called.definition ∙ sym S.arity in
          let b : get_or s (at + 2 + j) 0 ≡ name_byte (length xs) (get_or ns j 0) = ap (λ x. get_or s x 0) z
          ∙ get_d_front s at (encode (length xs) (call l ns)) S.rest (suc (suc j)) S.bytes (omega (arith, length-map ns (name_byte (length xs))))
          ∙ get_d_map (name_byte (length xs)) ns j i in
          N q d.accepted j h ∙ ap (λ x. name_in t row x (get_or s (at + 2 + j) 0)) a ∙ ap (name_in t row (length xs)) b
          ∙ parameter_byte t row S.definition xs (get_or ns j 0) S.called (omega (arith, m)) ∙ sym (get_d_map (λ x. get_or (reverse xs) x 0) ns j i)

      -- It is listed where a row has it.
      pub listed-call : (i : ℕ) → i < size → get_or t (9 * i) 0 ≡ k → Named t i names n → ◌∈◌ {A = Call} (l, given xs ns) cs
      unfolding Named
      listed-call i h e M =
          let (c, m, R) = row-call t cs i (omega (arith, S.count)) S.table in
          let x : c.0 ≡ l = sym R.definition ∙ e ∙ sym (same_definition q Δ xs l ns cs S) in
          let y : length c.1 ≡ length (given xs ns) = S.sized c m ∙ ap Δ.arity x ∙ sym given_arity in
          let z : c.1 ≡ given xs ns = ext_get_or 0 c.1 (given xs ns) y
          (λ j f. sym (R.names j f) ∙ M j (omega (arith, y, given-length)) ∙ given-names j (omega (arith, y, given-length))) in
          subst (λ (e : Call). e ∈ cs) (λ j. (x j, z j)) m

      pub new-call : ((i : ℕ) → i < size → get_or t (9 * i) 0 ≡ k → ¬ Named t i names n) → ¬ (◌∈◌ {A = Call} (l, given xs ns) cs)
      unfolding Named
      new-call h m =
          let (i, f, R) = call-row t cs (l, given xs ns) m S.table in
          h i (omega (arith, S.count)) (R.definition ∙ same_definition q Δ xs l ns cs S)
          (λ j g. R.names j (omega (arith, given-length)) ∙ sym (given-names j g))

    module _ (far : 8 < get_or s at 0) (held : size ≤ most_calls) where
      pub reach_listed : ListedIs t size k names n true → ReachTermIs question s at row t size t (Some size)
      reach_listed L = each-call far t (Some size) (λ n e. let z = some_is e in (omega arith, omega arith)) (λ i l. refl) (λ q Δ d xs l ns cs S.
          let (i, f, H) = L.held refl in
          let m = listed-call q Δ d xs l ns cs S i f H.0 H.1 in
          record {
            within = λ n e. record {
              list = cs;
              size = S.count ∙ some_is e;
              table = S.table;
              sized = S.sized;
              walked = known-walked Δ l (given xs ns) cs m S.distinct;
            };
            past = λ e. absurd (some_none e);
          })

      module _ (L : ListedIs t size k names n false) where
        fresh : (q : Question) (Δ : Defs) (d : Defines question q Δ) (xs : List ℕ) (l : ℕ) (ns : List ℕ) (cs : List Call)
            (S : Stands q Δ s at row t size xs (call l ns) cs) → ¬ (◌∈◌ {A = Call} (l, given xs ns) cs)
        fresh q Δ d xs l ns cs S = new-call q Δ d xs l ns cs S (λ i f e M. L.absent refl i f (e, M))

        pub reach_full : most_calls ≤ size → ReachTermIs question s at row t size t None
        reach_full full = each-call far t None (λ n e. absurd (some_none (sym e))) (λ i l. refl) (λ q Δ d xs l ns cs S. record {
          within = λ n e. absurd (some_none (sym e));
          past = λ e. one_too_many Δ l (given xs ns) cs S.distinct (fresh q Δ d xs l ns cs S) (omega (arith, S.count));
        })

        module _ (room : size < most_calls) (whole : length t ≡ table_bytes) (few : n ≤ greatest_arity) (there : n ≤ length names) (body : List ℕ)
            (B : BodyIs question k body) (t₁ : List ℕ) (e₁ : t₁ ≡ put_into t size k n names room whole few there) (t₂ : List ℕ) (r : Option ℕ)
            (R₁ : ReachTermIs question body 0 size t₁ (size + 1) t₂ r) where
          abbrev put : List ℕ
          put = put_into t size k n names room whole few there

          R : ReachTermIs question body 0 size put (size + 1) t₂ r
          R = subst (λ x. ReachTermIs question body 0 size x (size + 1) t₂ r) e₁ R₁

          body_stands : (q : Question) (Δ : Defs) (d : Defines question q Δ) (xs : List ℕ) (l : ℕ) (ns : List ℕ) (cs : List Call)
              (S : Stands q Δ s at row t size xs (call l ns) cs)
              → Stands q Δ body 0 size put (size + 1) (given xs ns) (Δ.body l) ((l, given xs ns) ∷ cs)
          body_stands q Δ d xs l ns cs S =
              let e = same_definition q Δ xs l ns cs S in
              let g = given_arity q Δ d xs l ns cs S in
              let a : length (given xs ns) ≡ get_or q.arities l 0 = g ∙ d.arity l in
              let R : RowIs put size (l, given xs ns) = subst (λ (i : ℕ). RowIs put size (i, given xs ns)) (sym e)
              (put-row t size k n names room whole few there (given xs ns) (given-length q Δ d xs l ns cs S) (given-names q Δ d xs l ns cs S)) in
              record {
                scope = body_in_scope question q Δ d l (given xs ns) a;
                rest = [];
                bytes = body_bytes question q Δ d l (given xs ns) a (subst (λ i. i < length q.arities) (sym e) (is_there q Δ xs l ns cs S)) body
                    (subst (λ i. BodyIs question i body) (sym e) B);
                definition = l;
                arity = a;
                called = R;
                count = omega (arith, S.count);
                table = (
                  subst (λ i. RowIs put i (l, given xs ns)) (sym S.count) R,
                  table_kept t put cs (few_names question q Δ d cs S.sized)
                      (λ i f. put-below t size k n names room whole few there i (omega (arith, S.count))) S.table,
                );
                sized = sized' g;
                distinct = (fresh q Δ d xs l ns cs S, S.distinct);
              }
            where
              sized' : length (given xs ns) ≡ Δ.arity l → Sized Δ ((l, given xs ns) ∷ cs)
              sized' g c (inl e) = subst (λ (c : Call). length c.1 ≡ Δ.arity c.0) (sym e) g
              sized' g c (inr m) = S.sized c m

          pub reach_opened : ReachTermIs question s at row t size t₂ r
          reach_opened = each-call far t₂ r (λ n e. let o = R.on n e in (omega arith, o.1)) (λ i l. R.kept i (omega arith) ∙ put-below t size k n names room whole few there i l)
              (λ q Δ d xs l ns cs S.
              let A = R.is q Δ d (given xs ns) (Δ.body l) ((l, given xs ns) ∷ cs) (body_stands q Δ d xs l ns cs S) in
              let a = given_arity q Δ d xs l ns cs S in
              record {
                within = λ n z.
                    let T = A.within n z in
                    record {
                      list = T.list;
                      size = T.size;
                      table = T.table;
                      sized = T.sized;
                      walked = opened-walked Δ l (given xs ns) cs T.list a T.walked;
                    };
                past = λ z. opened_exceeded Δ l (given xs ns) cs a (A.past z);
              })
