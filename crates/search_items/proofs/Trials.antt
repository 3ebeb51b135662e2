-- The trial of a pattern's starts: from its window's first start worth a try on, each with the items left.
use Rattle.std.specs.Prelude.{Option, None, Some}
use Rattle.std.specs.Option.{is_some}
use mathlib.Core.Path.{◌≡◌, sym, ap, ◌∙◌}
use mathlib.Core.Bool.{Bool, true, false, ◌&&◌}
use mathlib.Core.List.{List, [], ◌∷◌, map}
use Prim.Native.Nat.{ℕ, ◌+◌, ◌-◌, ◌≤◌, ◌<◌, max}
use native.Mathlib.Omega.{arith}
use lib.ListN.{length, drop, get_or}
use Rattle.definitions.specs.declared.table.Pattern.{Pattern}
use Rattle.definitions.specs.declared.packets.PacketHeader.{PacketHeader}
use Rattle.definitions.specs.declared.packets.FieldMap.{FieldMap}
use Rattle.definitions.specs.declared.packets.Start.{Start}
use Rattle.definitions.specs.declared.packets.Placement.{Placement}
use Rattle.definitions.specs.Starts.{start_at, same_start}
use Rattle.definitions.specs.References.{last_after}
use Rattle.definitions.specs.Limits.{max_items}
use Rattle.definitions.specs.Fields.{present, field_of}
use Rattle.definitions.specs.Placements.{Constraint, matched, constraints, starts_to, spread, lies_in, starts, placements}
use Rattle.laws.proofs.StartOrder.{number_not_before}
use Rattle.laws.proofs.Keep.{keep_none}
use Rattle.list_laws.proofs.Every.{drop_here}
use Rattle.match_windows.specs.declared.Window.{Window}
use Rattle.match_windows.specs.Spans.{size_bound, Spans, places_of}
use Rattle.match_patterns.specs.Starts.{standing, Fits, first_start}
use Rattle.match_patterns.proofs.Listing.{places_window}
use Rattle.match_patterns.proofs.FirstStart.{first_reached, first_passes}
use Rattle.fields.specs.Seen.{seen}
use Rattle.match_items.proofs.Placing.{starts_present}
use Rattle.search_state.specs.Choosing.{push, answer, found_or, start_from}
use Rattle.search_state.specs.declared.input.SearchInput.{SearchInput}
use Rattle.definitions.specs.declared.packets.Match.{Match}
use Rattle.search_state.proofs.Answering.{starts_from, starts_met, starts_past, starts_out, answer_cons, answer_from, answer_nothing}
use Rattle.search_state.specs.Inputs.{items_left}
use Rattle.search_items.specs.Items.{ReadyItems, Trying}
use Rattle.search_items.proofs.Stepping.{ready_next}
use Rattle.search_items.proofs.PassedItems.{found}

-- ---- before the loop

module _ (header : PacketHeader) (s d : List ℕ) (m : FieldMap) (p : Pattern) (own : List ℕ) (l : Option Match) (ws : List Constraint) (chosen : Placement)
    (on-bound : Bool) where
  starts_absent : present m p.context ≡ false → starts (seen header s d m) p own l ≡ []
  unfolding starts lies_in
  starts_absent e = keep_none (lies_in (seen header s d m) p own l) (starts_to (length (field_of s d m p.context))) (λ x. rw e)

  pub try_absent : (q : List Start) (t : Bool) → t ≡ present m p.context → t ≡ false
      → None ≡ answer chosen on-bound q (placements (seen header s d m) (matched p own ∷ ws) l)
  unfolding placements spread
  try_absent q t e n = rw (starts_absent (sym e ∙ n)) (sym (answer_nothing chosen on-bound q))

  module _ (f : List ℕ) (w : Window) (sp : Spans p l (length f) w) (q : f ≡ field_of s d m p.context) (t : Bool) (g : t ≡ present m p.context)
      (n : t ≡ true) where
    starts_are : starts (seen header s d m) p own l ≡ starts_from (standing p.nocase own f) w.from w.to
    starts_are = starts_present header s d m p own l (sym g ∙ n) ∙ ap (map start_at) (ap (places_of p own l) (sym q) ∙ places_window p own l f w sp)

    try_begin : (ss : List Start) (at : ℕ) → chosen.count < length ss → at ≡ start_from on-bound (get_or ss chosen.count (start_at 0)) w.from
        → answer chosen on-bound (drop chosen.count ss) (placements (seen header s d m) (matched p own ∷ ws) l)
        ≡ answer chosen on-bound (drop chosen.count ss)
        (spread (λ (x : Start). placements (seen header s d m) ws (last_after l p x)) (starts_from (standing p.nocase own f) at w.to))
    unfolding placements
    try_begin ss at h e =
        rw (starts_are, e, drop_here ss chosen.count (start_at 0) h)
        (answer_from (λ (x : Start). placements (seen header s d m) ws (last_after l p x)) (get_or ss chosen.count (start_at 0)) (drop (chosen.count + 1) ss)
        (standing p.nocase own f) w.to chosen on-bound w.from)

from_ahead : (on-bound : Bool) (b : Start) (x at : ℕ) → at ≡ start_from on-bound b x → on-bound ≡ true → b.at ≤ at
from_ahead on-bound b x at e t = let z : at ≡ max b.at x = e ∙ ap (λ (y : Bool). start_from y b x) t in omega arith

-- ---- one turn, and the end

module _ (chosen : Placement) (on-bound : Bool) (ss : List Start) (f : Start → List (List Start)) (h : ℕ → Bool) (at to : ℕ) where
  try_done : (q : List Start) → to ≤ at → (z : Option Placement) → z ≡ answer chosen on-bound q (spread f (starts_from h at to)) → None ≡ z
  unfolding spread
  try_done q l z i =
      let none : answer chosen on-bound q (spread f (starts_from h at to)) ≡ None = rw (starts_out h at to l) (answer_nothing chosen on-bound q) in
      sym (i ∙ none)

  try_no : (q : List Start) → h at ≡ false
      → answer chosen on-bound q (spread f (starts_from h at to)) ≡ answer chosen on-bound q (spread f (starts_from h (at + 1) to))
  try_no q e = ap (λ (k : List Start). answer chosen on-bound q (spread f k)) (starts_past h at to e)

  try_yes : at < to → h at ≡ true → chosen.count < length ss → (on-bound ≡ true → (get_or ss chosen.count (start_at 0)).at ≤ at)
      → answer chosen on-bound (drop chosen.count ss) (spread f (starts_from h at to))
      ≡ found_or (answer (push chosen (start_at at)) (on-bound && same_start (get_or ss chosen.count (start_at 0)) (start_at at)) (drop (chosen.count + 1) ss)
      (f (start_at at)))
      (answer chosen on-bound (drop chosen.count ss) (spread f (starts_from h (at + 1) to)))
  try_yes l e g a =
      let b = get_or ss chosen.count (start_at 0) in
      rw (starts_met h at to l e, drop_here ss chosen.count (start_at 0) g)
      (answer_cons f b (drop (chosen.count + 1) ss) chosen on-bound (start_at at) (starts_from h (at + 1) to) (λ y. number_not_before at b (a y)))

-- a start that lies was tried with the items left, whose placements after a last positive pattern are those of g
tried : (chosen : Placement) (on-bound : Bool) (ss : List Start) (g : Option Match → List (List Start)) (la : Start → Option Match) (h : ℕ → Bool) (at to : ℕ)
    (s : Start) (next : Option Match) (ws : Placement) (st : Bool) (x : Option Placement)
    → at < to → h at ≡ true → chosen.count < length ss → (on-bound ≡ true → (get_or ss chosen.count (start_at 0)).at ≤ at) → s ≡ start_at at
    → next ≡ la s → ws ≡ push chosen s → st ≡ (on-bound && same_start (get_or ss chosen.count (start_at 0)) s) → x ≡ answer ws st (drop ws.count ss) (g next)
    → answer chosen on-bound (drop chosen.count ss) (spread (λ (y : Start). g (la y)) (starts_from h at to))
    ≡ found_or x (answer chosen on-bound (drop chosen.count ss) (spread (λ (y : Start). g (la y)) (starts_from h (at + 1) to)))
tried chosen on-bound ss g la h at to s next ws st x l e k a is en ew es ex =
    let b = get_or ss chosen.count (start_at 0) in
    let y : x ≡ answer (push chosen (start_at at)) (on-bound && same_start b (start_at at)) (drop (chosen.count + 1) ss) (g (la (start_at at))) =
    ex ∙ rw (ew, es, en, is) in
    try_yes chosen on-bound ss (λ (z : Start). g (la z)) h at to l e k a
    ∙ ap (λ (z : Option Placement). found_or z (answer chosen on-bound (drop chosen.count ss) (spread (λ (u : Start). g (la u)) (starts_from h (at + 1) to)))) (sym y)

-- a first answer that is there, and one that is not
or_found : (x y z : Option Placement) → z ≡ found_or x y → is_some x ≡ true → x ≡ z
or_found (Some h) y z e t = sym e
or_found None y z e t = cc

or_missing : (x y z : Option Placement) → z ≡ found_or x y → is_some x ≡ false → z ≡ y
or_missing (Some h) y z e t = cc
or_missing None y z e t = e

-- ---- the starts that are tried

-- what the search answers over the starts from `at` on that pass a test, each with the items left, which want ws
abbrev over : SearchInput → List ℕ → List ℕ → Option Match → Placement → Bool → List Constraint → Pattern → (ℕ → Bool) → ℕ → ℕ → Option Placement
over q s d l chosen on-bound ws p h to at =
    answer chosen on-bound (drop chosen.count q.bound)
    (spread (λ (x : Start). placements (seen q.header s d q.map) ws (last_after l p x)) (starts_from h at to))

-- what the items after the k-th want; `rest` are their pattern bytes
abbrev later : SearchInput → ℕ → List ℕ → List Constraint
later q k rest = constraints (items_left q (k + 1)) rest

-- what is known once the starts before `at` are done: none of them leads to a placement, and those from `at` up to `to` decide, in the field f, for the
-- k-th item, the pattern p with the bytes own
pub record Tried (q : SearchInput) (k : ℕ) (rest s d : List ℕ) (l : Option Match) (chosen : Placement) (on-bound : Bool) (p : Pattern)
    (own f : List ℕ) (to at : ℕ) : Type 0 where
  pub few : (k < q.count) × (q.count ≤ max_items)
  pub trying : Trying (items_left q (k + 1)) rest p own s d l chosen
  pub small : length f < size_bound
  pub inside : (x : ℕ) → x < to → x + p.len ≤ length f
  pub room : chosen.count < length q.bound
  pub ahead : on-bound ≡ true → (get_or q.bound chosen.count (start_at 0)).at ≤ at
  pub same : found q s d l chosen on-bound (matched p own ∷ later q k rest) ≡ over q s d l chosen on-bound (later q k rest) p (standing p.nocase own f) to at

pub tried_none : {q : SearchInput} {k : ℕ} {rest s d : List ℕ} {l : Option Match} {chosen : Placement} {on-bound : Bool} {p : Pattern} {own f : List ℕ}
    {w : Window}
    {t : Bool} {at : ℕ}
    → (k < q.count) × (q.count ≤ max_items) → Trying (items_left q (k + 1)) rest p own s d l chosen → length f < size_bound → chosen.count < length q.bound
    → Spans p l (length f) w → f ≡ field_of s d q.map p.context → t ≡ present q.map p.context → t ≡ true
    → at ≡ start_from on-bound (get_or q.bound chosen.count (start_at 0)) w.from → Tried q k rest s d l chosen on-bound p own f w.to at
tried_none {q} {k} {rest} {s} {d} {l} {chosen} {on-bound} {p} {own} {f} {w} {t} {at} few trying small room sp e g n a =
    record {
      few = few;
      trying = trying;
      small = small;
      inside = sp.inside;
      room = room;
      ahead = from_ahead on-bound (get_or q.bound chosen.count (start_at 0)) w.from at a;
      same = try_begin q.header s d q.map p own l (later q k rest) chosen on-bound f w sp e t g n q.bound at room a;
    }

module _ {q : SearchInput} {k : ℕ} {rest s d : List ℕ} {l : Option Match} {chosen : Placement} {on-bound : Bool} {p : Pattern} {own f : List ℕ} {to at : ℕ}
    (o : Tried q k rest s d l chosen on-bound p own f to at) where
  abbrev ws : List Constraint
  ws = later q k rest

  abbrev stands : ℕ → Bool
  stands = standing p.nocase own f

  abbrev left_after : Option Match → List (List Start)
  left_after = placements (seen q.header s d q.map) ws

  abbrev passed_by : List Start
  passed_by = drop chosen.count q.bound

  -- the bytes fit at each start that may be tried, and their end is far below what a number holds
  pub own_fits : Fits own f to
  own_fits x h = omega (arith, o.trying.own, o.inside x h)

  pub end_small : at < to → at + p.len < size_bound
  end_small h = omega (arith, o.inside at h, o.small)

  pub tried_out : to ≤ at → None ≡ found q s d l chosen on-bound (matched p own ∷ ws)
  tried_out h = try_done chosen on-bound q.bound (λ (x : Start). left_after (last_after l p x)) stands at to passed_by h _ o.same

  -- the starts after this one decide
  one_further : found q s d l chosen on-bound (matched p own ∷ ws) ≡ over q s d l chosen on-bound ws p stands to (at + 1)
      → Tried q k rest s d l chosen on-bound p own f to (at + 1)
  one_further e =
      record {
        few = o.few;
        trying = o.trying;
        small = o.small;
        inside = o.inside;
        room = o.room;
        ahead = λ y. omega (arith, o.ahead y);
        same = e;
      }

  tried_past : stands at ≡ false → Tried q k rest s d l chosen on-bound p own f to (at + 1)
  tried_past e = one_further (o.same ∙ try_no chosen on-bound q.bound (λ (x : Start). left_after (last_after l p x)) stands at to passed_by e)

  -- a start that lies is chosen
  module _ (more : at < to) {x : Start} (is : x ≡ start_at at) where
    pub chosen_small : x.at + p.len < size_bound
    chosen_small = rw is (end_small more)

    module _ {next : Option Match} {ac : Placement} (en : next ≡ last_after l p x) (ea : ac ≡ push chosen x) where
      pub chosen-ready : ReadyItems (items_left q (k + 1)) rest s d next ac
      chosen-ready = ready_next (items_left q (k + 1)) rest p own s d l chosen o.trying x next ac chosen_small en ea

      -- with the answer r of the items left after it
      module _ (lies : stands at ≡ true) {st : Bool} {r : Option Placement} (es : st ≡ (on-bound && same_start (get_or q.bound chosen.count (start_at 0)) x))
          (er : r ≡ found q s d next ac st ws) where
        this-or : found q s d l chosen on-bound (matched p own ∷ ws) ≡ found_or r (over q s d l chosen on-bound ws p stands to (at + 1))
        this-or =
            o.same
            ∙ tried chosen on-bound q.bound left_after (last_after l p) stands at to x next ac st r more lies o.room o.ahead is en ea es er

        pub tried-found : is_some r ≡ true → r ≡ found q s d l chosen on-bound (matched p own ∷ ws)
        tried-found e = or_found r _ _ this-or e

        pub tried-vain : is_some r ≡ false → Tried q k rest s d l chosen on-bound p own f to (at + 1)
        tried-vain e = one_further (or_missing r _ _ this-or e)

-- what is known at each turn: besides, where a start is left to try, the bytes stand at `at`
pub record Reached (q : SearchInput) (k : ℕ) (rest s d : List ℕ) (l : Option Match) (chosen : Placement) (on-bound : Bool) (p : Pattern)
    (own f : List ℕ) (to at : ℕ) : Type 0 where
  pub tried : Tried q k rest s d l chosen on-bound p own f to at
  pub lies : at < to → standing p.nocase own f at ≡ true

-- starts at which the bytes do not stand are passed, up to the first at which they do
pub reached : {q : SearchInput} {k : ℕ} {rest s d : List ℕ} {l : Option Match} {chosen : Placement} {on-bound : Bool} {p : Pattern} {own f : List ℕ} {to at r : ℕ}
    → Tried q k rest s d l chosen on-bound p own f to at → r ≡ first_start (standing p.nocase own f) at (to - at)
    → Reached q k rest s d l chosen on-bound p own f to r
reached {q} {k} {rest} {s} {d} {l} {chosen} {on-bound} {p} {own} {f} {to} {at} o e =
    let stands = standing p.nocase own f in
    rw e (record {
      tried = first_reached stands (λ x. Tried q k rest s d l chosen on-bound p own f to x) (λ x t u. tried_past u t) (to - at) at o;
      lies = first_passes stands to at;
    })
