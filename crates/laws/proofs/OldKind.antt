-- A TABLE THAT HOLDS AN ITEM OF THE OLD KIND, ip_id, in whatever slot and whatever else it holds, is not well formed (`ip_id_ill_formed`), so that every entry
-- that takes a table answers 20 (`write_ip_id` to `answers_ip_id`). An item that fits, and an unused slot, are not of that kind. Document 02, T-09.
use Rattle.std.specs.Prelude.{None}
use mathlib.Core.Path.{◌≡◌, refl, sym, ap, ◌∙◌}
use mathlib.Core.Bool.{Bool, true, false, ◌&&◌, false≢true}
use mathlib.Core.List.{List, [], ◌∷◌, ◌++◌, map}
use Prim.Native.Nat.{ℕ, ◌-◌}
use lib.ListN.{drop, take-append-drop}
use lib.Dec.{eqb, leb}
use Rattle.forms.proofs.Bools.{by_cases, both_left, both_right}
use Rattle.forms.proofs.Sound.{never}
use Rattle.definitions.specs.declared.table.NumberField.{NumberField}
use Rattle.definitions.specs.declared.table.NumberField.TheVariants as number_field
use Rattle.definitions.specs.declared.table.Item.{Item}
use Rattle.definitions.specs.declared.table.Item.TheVariants as item
use Rattle.definitions.specs.declared.table.Slot.{Slot}
use Rattle.definitions.specs.declared.table.Table.{Table}
use Rattle.definitions.specs.declared.packets.Direction.{Direction}
use Rattle.definitions.specs.declared.packets.FieldMap.{FieldMap}
use Rattle.definitions.specs.declared.packets.Placement.{Placement}
use Rattle.definitions.specs.declared.answers.Refusal.TheVariants as refusal
use Rattle.definitions.specs.declared.answers.Query.{Query}
use Rattle.definitions.specs.Limits.{Limits, max_byte, max_items, max_patterns, max_tests}
use Rattle.definitions.specs.Lists.{all?, any?}
use Rattle.definitions.specs.Items.{kind_of, patterns_of, slots_of}
use Rattle.definitions.specs.References.{usable_run}
use Rattle.definitions.specs.Refusals.{write_number, verdict_number, found_number}
use Rattle.definitions.specs.WellFormed.{address_unused, address_count, addresses_fit, name_fits, number_fits, item_fits, slot_fits, is_unused, slot_unused, items_fit}
use Rattle.definitions.specs.WellFormed.{pattern_count, bytes_fit, well_formed}
use Rattle.definitions.specs.Writing.{writes}
use Rattle.definitions.specs.Answers.{refused_answer, input_check, verdict_answer, first_answer, next_answer}
use Rattle.definitions.specs.Queries.{answers}
use Rattle.definitions.specs.IpId.{is_ip_id_field, is_ip_id, slot_is_ip_id, holds_ip_id}
use Rattle.laws.proofs.QueryModel.{all_refused}
use Rattle.laws.proofs.IllFormed.{write_ill_formed, verdict_ill_formed, first_ill_formed, next_ill_formed}

-- ---- items and slots

pub number_known : (f : NumberField) (n : ℕ) → number_fits f n ≡ true → is_ip_id_field f ≡ false
number_known number_field.IpId n t = never (cc)
number_known number_field.SourcePort n t = refl
number_known number_field.DestinationPort n t = refl
number_known number_field.Tos n t = refl

item_not : (it : Item) → item_fits it ≡ true → is_ip_id it ≡ false
unfolding item_fits
item_not item.Unused t = refl
item_not (item.Address a) t = refl
item_not item.SameIp t = refl
item_not (item.Number a) t = number_known a.field a.number t
item_not (item.Ttl a) t = refl
item_not (item.Field a) t = refl
item_not (item.Size a) t = refl
item_not (item.At a) t = refl
item_not (item.Byte a) t = refl
item_not (item.Pattern p) t = refl

pub unused_not : (it : Item) → is_unused (kind_of it) ≡ true → is_ip_id it ≡ false
unused_not item.Unused t = refl
unused_not (item.Address a) t = refl
unused_not item.SameIp t = refl
unused_not (item.Number a) t = never (cc)
unused_not (item.Ttl a) t = refl
unused_not (item.Field a) t = refl
unused_not (item.Size a) t = refl
unused_not (item.At a) t = refl
unused_not (item.Byte a) t = refl
unused_not (item.Pattern p) t = refl

pub fitting_not : (sl : Slot) → slot_fits sl ≡ true → slot_is_ip_id sl ≡ false
fitting_not sl t = item_not sl.item (both_left (item_fits sl.item) (addresses_fit (address_count (kind_of sl.item)) sl.addresses) t)

empty_not : (sl : Slot) → slot_unused sl ≡ true → slot_is_ip_id sl ≡ false
empty_not sl t = unused_not sl.item (both_left (is_unused (kind_of sl.item)) (all? address_unused sl.addresses) t)

-- ---- lists of slots

pub none_among : (f : Slot → Bool) → ((sl : Slot) → f sl ≡ true → slot_is_ip_id sl ≡ false) → (sls : List Slot) → all? f sls ≡ true
    → any? slot_is_ip_id sls ≡ false
unfolding any? all?
none_among f h [] t = refl
none_among f h (sl ∷ sls) t = rw (h sl (both_left (f sl) (all? f sls) t), none_among f h sls (both_right (f sl) (all? f sls) t))

pub none_either : (sls rest : List Slot) → any? slot_is_ip_id sls ≡ false → any? slot_is_ip_id rest ≡ false → any? slot_is_ip_id (sls ++ rest) ≡ false
unfolding any?
none_either [] rest t u = u
none_either (sl ∷ sls) rest t u =
    by_cases (slot_is_ip_id sl)
    (λ e. let z : true ≡ false = rw e at t in never (cc))
    (λ e. rw e (none_either sls rest (rw e at t) u))

-- ---- well-formed tables

-- what the test of a table asks of its slots
module _ (t : Table) where
  abbrev rest : List Slot
  rest = drop t.count t.items

  abbrev counts : Bool
  counts = leb (pattern_count t) max_patterns && leb (t.count - pattern_count t) max_tests

  abbrev patterns : Bool
  patterns = bytes_fit t && eqb (usable_run None (patterns_of (slots_of t))) (pattern_count t)

  items_tested : well_formed t ≡ true → items_fit t ≡ true
  unfolding well_formed
  items_tested w =
      let a = both_right (name_fits t.name t.len) (leb t.protocol max_byte && (items_fit t && patterns)) w in
      both_left (items_fit t) patterns (both_right (leb t.protocol max_byte) (items_fit t && patterns) a)

  slots_tested : items_fit t ≡ true → (all? slot_fits (slots_of t) ≡ true) × (all? slot_unused rest ≡ true)
  unfolding items_fit
  slots_tested w =
      let used = all? slot_fits (slots_of t) in
      let unused = all? slot_unused rest in
      let a : (used && (unused && counts)) ≡ true = both_right (leb t.count max_items) (used && (unused && counts)) w in
      (both_left used (unused && counts) a, both_left unused counts (both_right used (unused && counts) a))

pub formed_no_ip_id : (t : Table) → well_formed t ≡ true → holds_ip_id t ≡ false
unfolding holds_ip_id
formed_no_ip_id t w =
    let f = slots_tested t (items_tested t w) in
    ap (any? slot_is_ip_id) (sym (take-append-drop t.count t.items))
    ∙ none_either (slots_of t) (drop t.count t.items) (none_among slot_fits fitting_not (slots_of t) f.0)
    (none_among slot_unused empty_not (drop t.count t.items) f.1)

pub ip_id_ill_formed : (t : Table) → holds_ip_id t ≡ true → well_formed t ≡ false
ip_id_ill_formed t h = by_cases (well_formed t) (λ w. absurd (false≢true (sym (formed_no_ip_id t w) ∙ h))) (λ f. f)

-- ---- the entries' answers: 20, whatever else is given

pub write_ip_id : (lim : Limits) (t : Table) (out : List ℕ) → holds_ip_id t ≡ true → write_number (writes lim t out) ≡ 20
write_ip_id lim t out h = (write_ill_formed lim t out).1 (ip_id_ill_formed t h)

module _ (t : Table) (h : holds_ip_id t ≡ true) (p decoded : List ℕ) (dir : Direction) (m : FieldMap) where
  pub verdict_ip_id : verdict_number (verdict_answer t p decoded dir m) ≡ 20
  verdict_ip_id = (verdict_ill_formed t p decoded dir m).1 (ip_id_ill_formed t h)

  pub first_ip_id : found_number (first_answer t p decoded dir m).found ≡ 20
  first_ip_id = (first_ill_formed t p decoded dir m).1 (ip_id_ill_formed t h)

  pub next_ip_id : (earlier : Placement) → found_number (next_answer t p decoded dir m earlier).found ≡ 20
  next_ip_id earlier = (next_ill_formed t p decoded dir m earlier).1 (ip_id_ill_formed t h)

  -- each answer of a list of queries
  pub answers_ip_id : (earlier : Placement) (qs : List Query) → answers t p decoded dir m earlier qs ≡ map (λ (q : Query). refused_answer refusal.IllFormed) qs
  unfolding input_check
  answers_ip_id earlier qs = all_refused t p decoded dir m refusal.IllFormed (rw (ip_id_ill_formed t h)) earlier qs
