-- The theorems on the list of placements: it holds exactly the placements that meet the table (`listed_meets`), it rises strictly
-- (`listed_rising`), so it holds each once (`listed_once`), and each has a start for each positive pattern (`listed_length`). Membership goes by cases on the
-- items; nothing here knows what a test, a window or a start is.
use Rattle.std.specs.Prelude.{Option, None}
use mathlib.Core.Path.{◌≡◌, refl, sym, ap, ◌∙◌, subst}
use mathlib.Core.Logic.{⊎_elim, ◌↔◌}
use mathlib.Core.Bool.{Bool, true, false, false≢true}
use mathlib.Core.List.{List, [], ◌∷◌, ◌++◌, map, nil≢cons, cons≢nil, head-eq_of_cons-eq, tail-eq_of_cons-eq, Memᴰ as Mem}
use mathlib.Core.List.Memᴰ.{cases_cons}
use mathlib.Core.List.Memᴰ.{head as here}
use mathlib.Core.List.Memᴰ.{not-nil}
use mathlib.Core.List.Memᴰ.{tail as there}
use mathlib.Core.List.Memᴰ.{append_cases}
use mathlib.Core.List.Memᴰ.{append_left}
use mathlib.Core.List.Memᴰ.{cast as mem-cast}
use mathlib.Core.List.Memᴰ.{append_right}
use mathlib.Core.List.Memᴰ.{map as map_mem, of_map}
use Prim.Native.Nat.{ℕ}
use native.Mathlib.Omega.{arith}
use lib.ListN.{length}
use Rattle.std.proofs.lemmas.Bool.{and_parts, and_from}
use Rattle.definitions.specs.declared.packets.Direction.{Direction}
use Rattle.definitions.specs.declared.table.Pattern.{Pattern}
use Rattle.definitions.specs.declared.table.Table.{Table}
use Rattle.definitions.specs.declared.packets.Start.{Start}
use Rattle.definitions.specs.declared.packets.Match.{Match}
use Rattle.definitions.specs.Starts.{start_before}
use Rattle.definitions.specs.References.{last_after}
use Rattle.definitions.specs.Fields.{View}
use Rattle.definitions.specs.Tests.{test_holds}
use Rattle.definitions.specs.Lists.{none?}
use Rattle.definitions.specs.Placements.{spread, only_if, Constraint, matched, unmatched, tested, items_of, positives, lies_in, starts, unmatched_holds}
use Rattle.definitions.specs.Placements.{Meets, placements, head_holds, MeetsTable, listed, lex_less}
use Rattle.laws.proofs.LexOrder.{lex_less-same, lex_less-head}
use Rattle.laws.proofs.Rising.{Rises, rises_append, Rising, rising_once}
use Rattle.laws.proofs.PatternStarts.{starts_in_lem, starts_of_lem, starts_rise}

-- ---- membership in the lists of the definitions

spread_in : (f : Start → List (List Start)) (ss : List Start) (q : List Start) → Mem q (spread f ss)
    → (s : Start) × (v : List Start) × (q ≡ s ∷ v) × Mem s ss × Mem v (f s)
unfolding spread
spread_in f [] q m = absurd (not-nil m)
spread_in f (s ∷ ss) q m =
    ⊎_elim
    (λ n. let r = of_map (λ (u : List Start). s ∷ u) (f s) n in (s, r.0, sym r.2, here refl, r.1))
    (λ n. let r = spread_in f ss q n in (r.0, r.1, r.2, there r.3, r.4))
    (append_cases (map (λ (u : List Start). s ∷ u) (f s)) m)

spread_of : (f : Start → List (List Start)) (ss : List Start) (s : Start) (q : List Start) → Mem s ss → Mem q (f s) → Mem (s ∷ q) (spread f ss)
unfolding spread
spread_of f [] s q m n = absurd (not-nil m)
spread_of f (x ∷ ss) s q m n =
    ⊎_elim
    (λ e. mem-cast (ap (λ (y : Start). y ∷ q) e) (append_left (spread f ss) (map_mem (λ (u : List Start). x ∷ u) (subst (λ (y : Start). Mem q (f y)) e n))))
    (λ k. append_right (map (λ (u : List Start). x ∷ u) (f x)) (spread_of f ss s q k n))
    (cases_cons m)

only_in : (t : Bool) (l : List (List Start)) (q : List Start) → Mem q (only_if t l) → (t ≡ true) × Mem q l
only_in true l q m = (refl, m)
only_in false l q m = absurd (not-nil m)

only_of : (t : Bool) (l : List (List Start)) (q : List Start) → t ≡ true → Mem q l → Mem q (only_if t l)
only_of true l q e m = m
only_of false l q e m = absurd (false≢true e)

nowhere_in : (l : List Start) (x : Start) → none? l ≡ true → Mem x l → ⊥
nowhere_in [] x e m = not-nil m
nowhere_in (y ∷ l) x e m = false≢true e

module _ (v : View) where
  -- a negated pattern holds where its field is present and it lies nowhere
  absent_in : (p : Pattern) (b : List ℕ) (l : Option Match) → none? (starts v p b l) ≡ true → (x : Start) → lies_in v p b l x ≡ false
  absent_in p b l e x = go (lies_in v p b l x) refl
    where
      go : (t : Bool) → lies_in v p b l x ≡ t → lies_in v p b l x ≡ false
      go true h = absurd (nowhere_in (starts v p b l) x e (starts_of_lem v p b l x h))
      go false h = h

  absent_of : (p : Pattern) (b : List ℕ) (l : Option Match) → ((x : Start) → lies_in v p b l x ≡ false) → none? (starts v p b l) ≡ true
  absent_of p b l h = go (starts v p b l) (λ x n. starts_in_lem v p b l x n)
    where
      go : (k : List Start) → ((x : Start) → Mem x k → lies_in v p b l x ≡ true) → none? k ≡ true
      go [] g = refl
      go (y ∷ k) g = absurd (false≢true (sym (h y) ∙ g y (here refl)))

  nowhere_holds_in : (p : Pattern) (b : List ℕ) (l : Option Match) → unmatched_holds v p b l ≡ true
      → (v.present p.context ≡ true) × ((x : Start) → lies_in v p b l x ≡ false)
  unfolding unmatched_holds
  nowhere_holds_in p b l e =
      let w = and_parts (v.present p.context) (none? (starts v p b l)) e in
      (w.0, absent_in p b l w.1)

  nowhere_holds_of : (p : Pattern) (b : List ℕ) (l : Option Match) → v.present p.context ≡ true → ((x : Start) → lies_in v p b l x ≡ false)
      → unmatched_holds v p b l ≡ true
  unfolding unmatched_holds
  nowhere_holds_of p b l e h = and_from (v.present p.context) (none? (starts v p b l)) e (absent_of p b l h)

  -- the list of placements holds exactly those that meet the items
  pub placements_meet : (ws : List Constraint) (l : Option Match) (q : List Start) → Mem q (placements v ws l) → Meets v ws l q
  unfolding placements Meets
  placements_meet [] l [] n = tt
  placements_meet [] l (s ∷ q) n = ⊎_elim (λ e. cons≢nil e) (λ k. not-nil k) (cases_cons n)
  placements_meet (matched p b ∷ ws) l [] n = nil≢cons (spread_in (λ (s : Start). placements v ws (last_after l p s)) (starts v p b l) [] n).2
  placements_meet (matched p b ∷ ws) l (s ∷ q) n =
      let w = spread_in (λ (x : Start). placements v ws (last_after l p x)) (starts v p b l) (s ∷ q) n in
      let e : s ≡ w.0 = head-eq_of_cons-eq w.2 in
      let f : q ≡ w.1 = tail-eq_of_cons-eq w.2 in (
        subst (λ (x : Start). lies_in v p b l x ≡ true) (sym e) (starts_in_lem v p b l w.0 w.3),
        placements_meet ws (last_after l p s) q (mem-cast f (subst (λ (x : Start). Mem w.1 (placements v ws (last_after l p x))) (sym e) w.4)),
      )
  placements_meet (unmatched p b ∷ ws) l q n =
      let w = only_in (unmatched_holds v p b l) (placements v ws l) q n in
      let h = nowhere_holds_in p b l w.0 in
      (h.0, h.1, placements_meet ws l q w.1)
  placements_meet (tested it al ∷ ws) l q n =
      let w = only_in (test_holds v it al l) (placements v ws l) q n in
      (w.0, placements_meet ws l q w.1)

  pub meeting_placed : (ws : List Constraint) (l : Option Match) (q : List Start) → Meets v ws l q → Mem q (placements v ws l)
  unfolding placements Meets
  meeting_placed [] l [] h = here refl
  meeting_placed [] l (s ∷ q) h = absurd h
  meeting_placed (matched p b ∷ ws) l [] h = absurd h
  meeting_placed (matched p b ∷ ws) l (s ∷ q) h =
      spread_of (λ (x : Start). placements v ws (last_after l p x)) (starts v p b l) s q (starts_of_lem v p b l s h.0)
      (meeting_placed ws (last_after l p s) q h.1)
  meeting_placed (unmatched p b ∷ ws) l q h =
      only_of (unmatched_holds v p b l) (placements v ws l) q (nowhere_holds_of p b l h.0 h.1) (meeting_placed ws l q h.2)
  meeting_placed (tested it al ∷ ws) l q h =
      only_of (test_holds v it al l) (placements v ws l) q h.0 (meeting_placed ws l q h.1)

  -- a placement that meets the items has a start for each positive pattern
  pub meets_length : (ws : List Constraint) (l : Option Match) (q : List Start) → Meets v ws l q → length q ≡ positives ws
  unfolding Meets positives
  meets_length [] l [] h = refl
  meets_length [] l (s ∷ q) h = absurd h
  meets_length (matched p b ∷ ws) l [] h = absurd h
  meets_length (matched p b ∷ ws) l (s ∷ q) h = let e = meets_length ws (last_after l p s) q h.1 in omega arith
  meets_length (unmatched p b ∷ ws) l q h = let e = meets_length ws l q h.2 in omega arith
  meets_length (tested it al ∷ ws) l q h = let e = meets_length ws l q h.1 in omega arith

rising_map : (s : Start) (l : List (List Start)) → Rising l → Rising (map (λ (u : List Start). s ∷ u) l)
rising_map s [] h = tt
rising_map s (p ∷ l) h = (
  λ q m.
      let r = of_map (λ (u : List Start). s ∷ u) l m in
      subst (λ (w : List Start). lex_less (s ∷ p) w ≡ true) r.2 (lex_less-same s p r.0 (h.0 r.0 r.1)),
  rising_map s l h.1,
)

-- rising starts, each before lists that rise
rising_spread : (f : Start → List (List Start)) (ss : List Start) → Rises start_before ss → ((s : Start) → Rising (f s)) → Rising (spread f ss)
unfolding spread
rising_spread f [] r h = tt
rising_spread f (s ∷ ss) r h =
    rises_append lex_less (map (λ (u : List Start). s ∷ u) (f s)) (spread f ss) (rising_map s (f s) (h s)) (rising_spread f ss r.1 h) later
  where
    later : (x y : List Start) → Mem x (map (λ (u : List Start). s ∷ u) (f s)) → Mem y (spread f ss) → lex_less x y ≡ true
    later x y n k =
        let u = of_map (λ (q : List Start). s ∷ q) (f s) n in
        let w = spread_in f ss y k in
        subst (λ (z : List Start). lex_less z y ≡ true) u.2
        (subst (λ (z : List Start). lex_less (s ∷ u.0) z ≡ true) (sym w.2) (lex_less-head s w.0 u.0 w.1 (r.0 w.0 w.3)))

rising_only : (t : Bool) (l : List (List Start)) → Rising l → Rising (only_if t l)
rising_only true l h = h
rising_only false l h = tt

pub placements_rising : (v : View) (ws : List Constraint) (l : Option Match) → Rising (placements v ws l)
unfolding placements
placements_rising v [] l = ((λ q n. absurd (not-nil n)), tt)
placements_rising v (matched p b ∷ ws) l =
    rising_spread (λ (s : Start). placements v ws (last_after l p s)) (starts v p b l) (starts_rise v p b l) (λ s. placements_rising v ws (last_after l p s))
placements_rising v (unmatched p b ∷ ws) l = rising_only (unmatched_holds v p b l) (placements v ws l) (placements_rising v ws l)
placements_rising v (tested it al ∷ ws) l = rising_only (test_holds v it al l) (placements v ws l) (placements_rising v ws l)

-- the laws of the list of placements of a table
pub listed_meets : (t : Table) (v : View) (dir : Direction) (q : List Start) → Mem q (listed t v dir) ↔ MeetsTable t v dir q
unfolding listed MeetsTable
listed_meets t v dir q = (
  (λ n. let w = only_in (head_holds t v dir) (placements v (items_of t) None) q n in (w.0, placements_meet v (items_of t) None q w.1)),
  (λ h. only_of (head_holds t v dir) (placements v (items_of t) None) q h.0 (meeting_placed v (items_of t) None q h.1)),
)

pub listed_rising : (t : Table) (v : View) (dir : Direction) → Rising (listed t v dir)
unfolding listed
listed_rising t v dir = rising_only (head_holds t v dir) (placements v (items_of t) None) (placements_rising v (items_of t) None)

pub listed_once : (t : Table) (v : View) (dir : Direction) (xs ys : List (List Start)) (q : List Start) → listed t v dir ≡ xs ++ (q ∷ ys)
    → (Mem q xs → ⊥) × (Mem q ys → ⊥)
listed_once t v dir xs ys q e = rising_once xs q ys (subst Rising e (listed_rising t v dir))

-- each has a start for each positive pattern
pub listed_length : (t : Table) (v : View) (dir : Direction) (q : List Start) → Mem q (listed t v dir) → length q ≡ positives (items_of t)
unfolding MeetsTable
listed_length t v dir q n = meets_length v (items_of t) None q ((listed_meets t v dir q).0 n).1
