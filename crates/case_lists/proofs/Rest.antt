-- In a rising list, what is after the first placement after some starts is the rest of what is after these; so a search from the placement written last has
-- what is left of the list.
use mathlib.Core.Path.{◌≡◌, refl, ap, ◌∙◌}
use mathlib.Core.List.Memᴰ.{head as here}
use mathlib.Core.List.{List, [], ◌∷◌, Memᴰ as Mem}
use Prim.Native.Nat.{ℕ, ◌-◌, ◌≤◌}
use native.Mathlib.Omega.{arith}
use lib.ListN.{length, replicate}
use lib.Seq.{take-append_seam}
use Rattle.definitions.specs.declared.table.Table.{Table}
use Rattle.definitions.specs.declared.packets.Direction.{Direction}
use Rattle.definitions.specs.declared.packets.PacketHeader.{PacketHeader}
use Rattle.definitions.specs.declared.packets.FieldMap.{FieldMap}
use Rattle.definitions.specs.declared.packets.Start.{Start}
use Rattle.definitions.specs.Limits.{max_patterns}
use Rattle.definitions.specs.Lists.{keep}
use Rattle.definitions.specs.Starts.{start_at}
use Rattle.definitions.specs.Placements.{lex_less, items_of, positives}
use Rattle.definitions.specs.Answers.{starts_of, placement_of}
use Rattle.laws.proofs.Rising.{Rising, keep_after, kept_first, kept_rest, keep_take}
use Rattle.laws.proofs.Listing.{listed_rising, listed_length}
use Rattle.match_placements.specs.Listing.{list_in}

pub starts_back : (q : List Start) → starts_of (placement_of q) ≡ q
starts_back q = take-append_seam q (replicate (max_patterns - length q) (start_at 0))

-- the list rises, and each of its placements has so many starts
pub record Ordered (l : List (List Start)) : Type 0 where
  pub starts : ℕ
  pub each : (q : List Start) → Mem q l → length q ≡ starts
  pub rising : Rising l

module _ (l : List (List Start)) (v : Ordered l) where
  -- of the placement's array only its own starts matter
  own_starts : (q : List Start) → Mem q l → keep (lex_less (placement_of q).starts) l ≡ keep (lex_less q) l
  own_starts q n =
      let short : (u : List Start) → Mem u l → length u ≤ length q = λ u k. omega (arith, v.each u k, v.each q n) in
      keep_take (length q) (placement_of q).starts l short ∙ ap (λ (u : List Start). keep (lex_less u) l) (starts_back q)

  -- after the first of the list
  pub first_rest : (q : List Start) (qs : List (List Start)) → l ≡ q ∷ qs → keep (lex_less (placement_of q).starts) l ≡ qs
  first_rest q qs e = own_starts q (rw e (here refl)) ∙ ap (keep (lex_less q)) e ∙ keep_after [] q qs (rw e at v).rising

  -- after the first of those after some starts
  pub list_rest : (b q : List Start) (qs : List (List Start)) → keep (lex_less b) l ≡ q ∷ qs → keep (lex_less (placement_of q).starts) l ≡ qs
  list_rest b q qs e = own_starts q (kept_first b q qs l e) ∙ kept_rest b q qs l v.rising e

pub list_ordered : (t : Table) (f : PacketHeader) (s d : List ℕ) (dir : Direction) (m : FieldMap) → Ordered (list_in t f s d dir m)
list_ordered t f s d dir m = record { starts = positives (items_of t); each = listed_length t _ dir; rising = listed_rising t _ dir }
