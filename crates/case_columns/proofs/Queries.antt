-- The query: the word, or what stands between the brackets; and what the code's answer tells of the bytes.
use Rattle.std.specs.Prelude.{Option, Some, None, if◌then◌else◌}
use mathlib.Core.Path.{◌≡◌, refl, sym, ap, ◌∙◌}
use mathlib.Core.Bool.{Bool, true, false, false≢true, ◌&&◌}
use mathlib.Core.List.{List}
use Prim.Native.Nat.{ℕ}
use Rattle.forms.specs.Bytes.{text}
use Rattle.forms.proofs.Sound.{never}
use Rattle.definitions.specs.declared.packets.Placement.{Placement}
use Rattle.definitions.specs.Lists.{same_bytes}
use Rattle.definitions.specs.Answers.{placement_of}
use Rattle.definitions.specs.Parts.{part_before, part_after}
use Rattle.line_parts.proofs.Results.{failed_test, parsed_test, parsed_value}
use Rattle.case_columns.specs.declared.Query.{Query}
use Rattle.case_columns.specs.declared.Query.TheVariants.{All, First, Next}
use Rattle.case_columns.specs.Queries.{inside, is_enclosed, are_starts, starts_in, is_query, query_of, parsed_starts, parsed_next, parsed_query}

-- a placement by two tests, one after the other, and the query by both
none_by : (t u : Bool) (h : Placement) → None ≡ (if t then if u then Some h else None else None) → None ≡ (if t && u then Some (Next h) else None)
none_by true true h e = never (cc)
none_by true false h e = refl
none_by false u h e = refl

next_by : (t u : Bool) (h k : Placement) → Some k ≡ (if t then if u then Some h else None else None) → Some (Next k) ≡ (if t && u then Some (Next h) else None)
next_by true true h k e = cc
next_by true false h k e = never (cc)
next_by false u h k e = never (cc)

module _ (l : List ℕ) where
  -- ---- between the brackets

  pub not_enclosed : is_enclosed l ≡ false → None ≡ parsed_next l
  unfolding parsed_next
  not_enclosed f = rw f

  pub enclosed : is_enclosed l ≡ true → (y x : List ℕ) → y ≡ part_after 40 l → x ≡ part_before 41 y → (r : Option Placement) → r ≡ parsed_starts x → r ≡ parsed_next l
  unfolding parsed_next
  enclosed t y x ye xe r e = rw t (e ∙ ap parsed_starts (xe ∙ ap (part_before 41) ye))

  -- ---- the column

  pub query_all : same_bytes l (text "all") ≡ true → Some All ≡ parsed_query l
  unfolding parsed_query is_query query_of
  query_all t = rw t

  module _ (other : same_bytes l (text "all") ≡ false) where
    pub query_first : same_bytes l (text "first") ≡ true → Some First ≡ parsed_query l
    unfolding parsed_query is_query query_of
    query_first t = rw (other, t)

    module _ (neither : same_bytes l (text "first") ≡ false) where
      pub no_placement : None ≡ parsed_next l → None ≡ parsed_query l
      unfolding parsed_query is_query query_of parsed_next parsed_starts
      no_placement e = rw (other, neither) (none_by (is_enclosed l) (are_starts (inside l)) (placement_of (starts_in (inside l))) e)

      pub query_next : (h : Placement) → Some h ≡ parsed_next l → Some (Next h) ≡ parsed_query l
      unfolding parsed_query is_query query_of parsed_next parsed_starts
      query_next h e = rw (other, neither) (next_by (is_enclosed l) (are_starts (inside l)) (placement_of (starts_in (inside l))) h e)

-- ---- what the answer tells

apart : (v : Query) → Some v ≡ None → ⊥
apart v e = false≢true cc

same : (v w : Query) → Some v ≡ Some w → v ≡ w
same v w e = cc

module _ (l : List ℕ) where
  pub failed_query : parsed_query l ≡ None → is_query l ≡ false
  unfolding parsed_query
  failed_query e = failed_test Some None apart (is_query l) (query_of l) e

  module _ (v : Query) (e : parsed_query l ≡ Some v) where
    pub parsed_query_lem : is_query l ≡ true
    unfolding parsed_query
    parsed_query_lem = parsed_test Some None apart (is_query l) (query_of l) v e

    pub query_value : v ≡ query_of l
    unfolding parsed_query
    query_value = sym (parsed_value Some None apart same (is_query l) (query_of l) v e)
