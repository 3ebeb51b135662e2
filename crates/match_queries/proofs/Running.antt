-- A run of queries, turn by turn: the buffer with some queries answered, and the others still to come, is what is written in the end.
use mathlib.Core.Path.{◌≡◌, refl, sym, ap, ◌∙◌}
use mathlib.Core.Bool.{true, false}
use mathlib.Core.List.{List, [], ◌∷◌, ◌++◌, map, append_assoc, append-nil}
use Prim.Native.Nat.{ℕ, zero, suc, ◌+◌, ◌-◌, ◌*◌, ◌≤◌, ◌<◌}
use native.Mathlib.Numerals.{add-one}
use native.Mathlib.Omega.{arith}
use lib.ListN.{length, take, drop, get_or, length-append, length-take, length-drop, drop_of_length-le, take-append-drop}
use lib.Seq.{drop-cons, take_at, drop-append-add, drop-drop}
use borrow.Author.Tests.{le-leb, lt-leb}
use Rattle.definitions.specs.declared.table.Table.{Table}
use Rattle.definitions.specs.declared.packets.Direction.{Direction}
use Rattle.definitions.specs.declared.packets.FieldMap.{FieldMap}
use Rattle.definitions.specs.declared.packets.Placement.{Placement}
use Rattle.definitions.specs.declared.answers.Answer.{Answer}
use Rattle.definitions.specs.declared.answers.Query.TheVariants.{First, Next}
use Rattle.definitions.specs.AnswerNumbers.{answer_numbers}
use Rattle.definitions.specs.Queries.{query_answer, answers}
use Rattle.match_numbers.specs.Numbers.{numbers_of_one}
use Rattle.match_queries.specs.Runs.{query_of_byte, all_numbers, room, written}

pub query_first : (a : ℕ) → a ≡ 0 → First ≡ query_of_byte a
query_first zero e = refl
query_first (suc a) e = absurd (let z : ⊥ = omega arith in z)

pub query_next : (a : ℕ) → (a ≡ 0 → ⊥) → Next ≡ query_of_byte a
query_next zero e = absurd (e refl)
query_next (suc a) e = refl

-- ---- the two outcomes

module _ (t : Table) (p d : List ℕ) (dir : Direction) (m : FieldMap) where
  pub no_room : (h : Placement) (queries out : List ℕ) → length out < length queries * numbers_of_one
      → (false ≡ room queries out) × (out ≡ written t p d dir m h queries out)
  unfolding written
  no_room h queries out k = rw (lt-leb (length queries * numbers_of_one) (length out) k) (refl, refl)

  -- an answer for each query
  pub answers_length : (h : Placement) (queries : List ℕ) → length (answers t p d dir m h (map query_of_byte queries)) ≡ length queries
  unfolding answers
  answers_length h [] = refl
  answers_length h (a ∷ queries) = ap suc (answers_length (query_answer t p d dir m h (query_of_byte a)).placement queries)

  -- the buffer with i asks answered, and the others still to come from the placement h
  abbrev pub pending : List ℕ → List ℕ → Placement → ℕ → List ℕ
  pending queries out h i =
      take (i * numbers_of_one) out ++ all_numbers (answers t p d dir m h (map query_of_byte (drop i queries))) ++ drop (length queries * numbers_of_one) out

  pub run_start : (h : Placement) (queries out : List ℕ) → length queries * numbers_of_one ≤ length out
      → written t p d dir m h queries out ≡ pending queries out h 0
  unfolding written
  run_start h queries out k = rw (le-leb (length queries * numbers_of_one) (length out) k)

  run_end : (queries out : List ℕ) (h : Placement) (i : ℕ) → i ≡ length queries → pending queries out h i ≡ out
  unfolding answers all_numbers
  run_end queries out h i e =
      let l : length queries ≤ i = omega arith in
      let k : length queries * numbers_of_one ≡ i * numbers_of_one = omega arith in
      rw (drop_of_length-le queries l, k)
      (ap (λ (u : List ℕ). u ++ drop (i * numbers_of_one) out) (append-nil (take (i * numbers_of_one) out)) ∙ take-append-drop (i * numbers_of_one) out)

  pub run_done : (h₀ : Placement) (queries out₀ out : List ℕ) (h : Placement) (i : ℕ) → length queries * numbers_of_one ≤ length out₀ → i ≡ length queries
      → written t p d dir m h₀ queries out₀ ≡ pending queries out h i → (true ≡ room queries out₀) × (out ≡ written t p d dir m h₀ queries out₀)
  run_done h₀ queries out₀ out h i k e w = (sym (le-leb (length queries * numbers_of_one) (length out₀) k), sym (w ∙ run_end queries out h i e))

  -- ---- a turn

  module _ (queries out out' : List ℕ) (h : Placement) (i : ℕ) (r : Answer) (less : i < length queries) (fits : length queries * numbers_of_one ≤ length out)
      (is : r ≡ query_answer t p d dir m h (query_of_byte (get_or queries i 0)))
      (put : out' ≡ take (i * numbers_of_one) out ++ answer_numbers r ++ drop (i * numbers_of_one + numbers_of_one) out) (kept : length out' ≡ length out) where
    front : length (take (i * numbers_of_one) out) ≡ i * numbers_of_one
    front = rw (length-take (i * numbers_of_one) out) (omega arith)

    one : length (answer_numbers r) ≡ numbers_of_one
    one =
        let a : length (take (i * numbers_of_one) out ++ answer_numbers r ++ drop (i * numbers_of_one + numbers_of_one) out) ≡ length out = rw put at kept in
        let b = length-append (take (i * numbers_of_one) out ++ answer_numbers r) (drop (i * numbers_of_one + numbers_of_one) out) in
        let c = length-append (take (i * numbers_of_one) out) (answer_numbers r) in
        let e = length-drop (i * numbers_of_one + numbers_of_one) out in
        let f = front in
        omega arith

    head_length : length (take (i * numbers_of_one) out ++ answer_numbers r) ≡ (i + 1) * numbers_of_one
    head_length = let a = length-append (take (i * numbers_of_one) out) (answer_numbers r) in let b = front in let c = one in omega arith

    model_step : answers t p d dir m h (map query_of_byte (drop i queries)) ≡ r ∷ answers t p d dir m r.placement (map query_of_byte (drop (i + 1) queries))
    unfolding answers
    model_step = rw (drop-cons queries i 0 less, add-one i, is)

    taken : take ((i + 1) * numbers_of_one) out' ≡ take (i * numbers_of_one) out ++ answer_numbers r
    taken =
        ap (take ((i + 1) * numbers_of_one)) put
        ∙ take_at (take (i * numbers_of_one) out ++ answer_numbers r) (drop (i * numbers_of_one + numbers_of_one) out) ((i + 1) * numbers_of_one) head_length

    dropped : drop (length queries * numbers_of_one) out' ≡ drop (length queries * numbers_of_one) out
    dropped =
        let k = length queries * numbers_of_one - (i * numbers_of_one + numbers_of_one) in
        let e : length queries * numbers_of_one ≡ length (take (i * numbers_of_one) out ++ answer_numbers r) + k = let a = head_length in omega arith in
        let f : i * numbers_of_one + numbers_of_one + k ≡ length queries * numbers_of_one = omega arith in
        ap (drop (length queries * numbers_of_one)) put
        ∙ ap (λ (n : ℕ). drop n (take (i * numbers_of_one) out ++ answer_numbers r ++ drop (i * numbers_of_one + numbers_of_one) out)) e
        ∙ drop-append-add (take (i * numbers_of_one) out ++ answer_numbers r) (drop (i * numbers_of_one + numbers_of_one) out) k
        ∙ drop-drop k (i * numbers_of_one + numbers_of_one) out
        ∙ ap (λ (n : ℕ). drop n out) f

    pub run_step : pending queries out h i ≡ pending queries out' r.placement (i + 1)
    unfolding all_numbers
    run_step =
        rw (taken, dropped, model_step)
        (ap (λ (l : List ℕ). l ++ drop (length queries * numbers_of_one) out)
        (sym (append_assoc (take (i * numbers_of_one) out) (answer_numbers r)
        (all_numbers (answers t p d dir m r.placement (map query_of_byte (drop (i + 1) queries)))))))
