-- WHAT THE FORMER ROW OF IP_ID MADE, RENEWED: a text of the former form is one of the present form, its value renewed (`renewed_form`), and the table of
-- renewed values is the renewed table (`renewed_options`): the one whose placements are those of the former (`renewed_matches`). Document 02, T-09.
use Rattle.std.specs.Prelude.{None}
use mathlib.Core.Path.{◌≡◌, refl, sym, ap, subst, ◌∙◌}
use mathlib.Core.Bool.{Bool}
use mathlib.Core.List.{List, [], ◌∷◌, ◌++◌, map, map-append}
use Prim.Native.Nat.{ℕ, suc, ◌-◌}
use lib.ListN.{length, length-map, replicate}
use lib.LanesLaws.{map-replicate}
use lib.Dec.{eqb}
use Rattle.forms.specs.Form.{Form, fmap, Means}
use Rattle.forms.proofs.Bools.{by_cases}
use Rattle.definitions.specs.declared.table.NumberField.TheVariants as number_field
use Rattle.definitions.specs.declared.table.HeaderField.TheVariants as header_field
use Rattle.definitions.specs.declared.table.Pattern as patterns
use Rattle.definitions.specs.declared.table.Item.TheVariants as item
use Rattle.definitions.specs.declared.table.Slot.{Slot}
use Rattle.definitions.specs.Limits.{max_items}
use Rattle.definitions.specs.Lists.{any?, keep, count}
use Rattle.definitions.specs.OptionValues.{Modifier, OptionValue, Name, Protocol, Flow, Test, Pattern, Modified}
use Rattle.definitions.specs.Numbers.{number}
use Rattle.definitions.specs.Forms.{valued, test, max_number, number_form, field_equals, ip_id_form}
use Rattle.definitions.specs.Tables.{name_in, protocol_in, flow_in, bare, with, modified, no_slot, slot_of, slots_in, bytes_in, table_of}
use Rattle.definitions.specs.Items.{patterns_of}
use Rattle.definitions.specs.References.{usable_run, usable_in}
use Rattle.definitions.specs.Occurrences.{kind_number, is_pattern, latest, occurrence_check, missing}
use Rattle.definitions.specs.Grammar.{Occurrences, none}
use Rattle.definitions.specs.IpId.{renewed_slot, renewed, renewed_value}
use Rattle.laws.proofs.RenewedTables.{kind_kept}

-- ---- the form

-- a form in the place of another, whose values it has changed
in_place : (b : Bool) (h : OptionValue → OptionValue) (f g : Form OptionValue) → ((y : List ℕ) (v : OptionValue) → Means b f y v → Means b g y (h v))
    → (x : List ℕ) (e : OptionValue) → Means b (valued f) x e → Means b (valued g) x (h e)
unfolding Means
in_place b h f g k x e m =
    let p = m.0 in
    let q = m.2 in
    let c = q.4 in
    let d = c.2 in
    ((p.0, h p.1), ap h m.1, (q.0, q.1, q.2, q.3, ((h c.0.0, c.0.1), ap h c.1, (d.0, d.1, d.2, k d.0 c.0.0 d.3, d.4))))

-- THE SAME TEXTS, within limits or limits ignored
pub renewed_form : (b : Bool) (x : List ℕ) (e : OptionValue) → Means b (number_form number_field.IpId) x e → Means b ip_id_form x (renewed_value e)
unfolding Means
renewed_form b x e m =
    in_place b renewed_value
    (fmap (λ (n : ℕ). test (item.Number (record { field = number_field.IpId; number = n }))) (number (max_number number_field.IpId)))
    (fmap (λ (n : ℕ). test (item.Field (field_equals header_field.Id n))) (number (max_number number_field.IpId)))
    (λ y v n. (n.0, ap renewed_value n.1, n.2)) x e m

-- ---- the table

name_kept : (es : List OptionValue) → name_in (map renewed_value es) ≡ name_in es
unfolding name_in
name_kept [] = refl
name_kept (Name n ∷ es) = refl
name_kept (Protocol q ∷ es) = name_kept es
name_kept (Flow f ∷ es) = name_kept es
name_kept (Test it al ∷ es) = name_kept es
name_kept (Pattern n b ∷ es) = name_kept es
name_kept (Modified m ∷ es) = name_kept es

protocol_kept : (es : List OptionValue) → protocol_in (map renewed_value es) ≡ protocol_in es
unfolding protocol_in
protocol_kept [] = refl
protocol_kept (Name n ∷ es) = protocol_kept es
protocol_kept (Protocol q ∷ es) = refl
protocol_kept (Flow f ∷ es) = protocol_kept es
protocol_kept (Test it al ∷ es) = protocol_kept es
protocol_kept (Pattern n b ∷ es) = protocol_kept es
protocol_kept (Modified m ∷ es) = protocol_kept es

flow_kept : (es : List OptionValue) → flow_in (map renewed_value es) ≡ flow_in es
unfolding flow_in
flow_kept [] = refl
flow_kept (Name n ∷ es) = flow_kept es
flow_kept (Protocol q ∷ es) = flow_kept es
flow_kept (Flow f ∷ es) = refl
flow_kept (Test it al ∷ es) = flow_kept es
flow_kept (Pattern n b ∷ es) = flow_kept es
flow_kept (Modified m ∷ es) = flow_kept es

bytes_kept : (es : List OptionValue) → bytes_in (map renewed_value es) ≡ bytes_in es
unfolding bytes_in
bytes_kept [] = refl
bytes_kept (Name n ∷ es) = bytes_kept es
bytes_kept (Protocol q ∷ es) = bytes_kept es
bytes_kept (Flow f ∷ es) = bytes_kept es
bytes_kept (Test it al ∷ es) = bytes_kept es
bytes_kept (Pattern n b ∷ es) = ap (λ l. b ++ l) (bytes_kept es)
bytes_kept (Modified m ∷ es) = bytes_kept es

modifiers_kept : (es : List OptionValue) (p : patterns.Pattern) → modified (map renewed_value es) p ≡ modified es p
unfolding modified
modifiers_kept [] p = refl
modifiers_kept (Name n ∷ es) p = modifiers_kept es p
modifiers_kept (Protocol q ∷ es) p = modifiers_kept es p
modifiers_kept (Flow f ∷ es) p = modifiers_kept es p
modifiers_kept (Test it al ∷ es) p = modifiers_kept es p
modifiers_kept (Pattern n b ∷ es) p = refl
modifiers_kept (Modified m ∷ es) p = modifiers_kept es (with m p)

slots_renewed : (es : List OptionValue) → slots_in (map renewed_value es) ≡ map renewed_slot (slots_in es)
unfolding slots_in
slots_renewed [] = refl
slots_renewed (Name n ∷ es) = slots_renewed es
slots_renewed (Protocol q ∷ es) = slots_renewed es
slots_renewed (Flow f ∷ es) = slots_renewed es
slots_renewed (Test it al ∷ es) = ap (λ sls. renewed_slot (slot_of it al) ∷ sls) (slots_renewed es)
slots_renewed (Pattern n b ∷ es) = rw (modifiers_kept es (bare n (length b)), slots_renewed es)
slots_renewed (Modified m ∷ es) = slots_renewed es

padded_renewed : (sls : List Slot) (k : ℕ) → map renewed_slot (sls ++ replicate k no_slot) ≡ map renewed_slot sls ++ replicate k no_slot
padded_renewed sls k =
    map-append renewed_slot sls (replicate k no_slot) ∙ ap (λ rest. map renewed_slot sls ++ rest) (map-replicate renewed_slot k no_slot)

-- THE TABLE OF RENEWED VALUES IS THE RENEWED TABLE
pub renewed_options : (room : ℕ) (es : List OptionValue) → table_of room (map renewed_value es) ≡ renewed (table_of room es)
unfolding table_of renewed
renewed_options room es =
    rw (name_kept es, protocol_kept es, flow_kept es, bytes_kept es, slots_renewed es, length-map (slots_in es) renewed_slot)
    (rw (padded_renewed (slots_in es) (max_items - length (slots_in es))))

-- ---- what is asked of the options

kind_number_lem : (e : OptionValue) → kind_number (renewed_value e) ≡ kind_number e
kind_number_lem (Name n) = refl
kind_number_lem (Protocol p) = refl
kind_number_lem (Flow f) = refl
kind_number_lem (Test it al) = refl
kind_number_lem (Pattern n b) = refl
kind_number_lem (Modified m) = refl

-- a test that goes by the kind of an option
module _ (f : ℕ → Bool) where
  count_kept : (es : List OptionValue) → count (λ (e : OptionValue). f (kind_number e)) (map renewed_value es) ≡ count (λ (e : OptionValue). f (kind_number e)) es
  unfolding keep
  count_kept [] = refl
  count_kept (e ∷ es) =
      by_cases (f (kind_number e))
      (λ t. rw (kind_number_lem e, t) (ap suc (count_kept es)))
      (λ t. rw (kind_number_lem e, t) (count_kept es))

  any_kept : (es : List OptionValue) → any? (λ (e : OptionValue). f (kind_number e)) (map renewed_value es) ≡ any? (λ (e : OptionValue). f (kind_number e)) es
  unfolding any?
  any_kept [] = refl
  any_kept (e ∷ es) = rw (kind_number_lem e, any_kept es)

latest_kept : (es : List OptionValue) (ms : List Modifier) → latest ms (map renewed_value es) ≡ latest ms es
unfolding latest
latest_kept [] ms = refl
latest_kept (Name n ∷ es) ms = latest_kept es ms
latest_kept (Protocol p ∷ es) ms = latest_kept es ms
latest_kept (Flow f ∷ es) ms = latest_kept es ms
latest_kept (Test it al ∷ es) ms = latest_kept es ms
latest_kept (Pattern n b ∷ es) ms = latest_kept es []
latest_kept (Modified m ∷ es) ms = latest_kept es (m ∷ ms)

occurrence_kept : (es : List OptionValue) (e : OptionValue) → occurrence_check (map renewed_value es) (renewed_value e) ≡ occurrence_check es e
unfolding occurrence_check
occurrence_kept es (Name n) = rw (any_kept (λ k. eqb 0 k) es)
occurrence_kept es (Protocol p) = rw (any_kept (λ k. eqb 1 k) es)
occurrence_kept es (Flow f) = rw (any_kept (λ k. eqb 2 k) es)
occurrence_kept es (Test it al) = rw (count_kept (λ k. eqb k 3) es)
occurrence_kept es (Pattern n b) = rw (count_kept (λ k. eqb k 4) es)
occurrence_kept es (Modified m) = rw (count_kept (λ k. eqb k 4) es, latest_kept es [])

-- EACH MAY STAND WHERE IT STOOD
pub renewed_occurrences : {before es : List OptionValue} → Occurrences before es → Occurrences (map renewed_value before) (map renewed_value es)
renewed_occurrences none = none
renewed_occurrences (Occurrences.more {before} {es} {e} c o) =
    Occurrences.more (occurrence_kept before e ∙ c)
    (subst (λ (b : List OptionValue). Occurrences b (map renewed_value es)) (map-append renewed_value before (e ∷ [])) (renewed_occurrences o))

patterns_kept : (sls : List Slot) → patterns_of (map renewed_slot sls) ≡ patterns_of sls
unfolding patterns_of
patterns_kept [] = refl
patterns_kept (sl ∷ sls) = rw (kind_kept sl.item, patterns_kept sls)

pub renewed_usable : (es : List OptionValue) → usable_in (map renewed_value es) ≡ usable_in es
renewed_usable es = ap (usable_run None) (ap patterns_of (slots_renewed es) ∙ patterns_kept (slots_in es))

pub renewed_patterns : (es : List OptionValue) → count is_pattern (map renewed_value es) ≡ count is_pattern es
renewed_patterns es = count_kept (λ k. eqb k 4) es

pub renewed_missing : (es : List OptionValue) → missing (map renewed_value es) ≡ missing es
unfolding missing
renewed_missing es = rw (count_kept (λ k. eqb 0 k) es, count_kept (λ k. eqb 1 k) es)

-- ---- and back

-- what is of the present form of ip_id is of the former, with a value that is renewed to it
pub former_form : (b : Bool) (x : List ℕ) (e : OptionValue) → Means b ip_id_form x e
    → (d : OptionValue) × Means b (number_form number_field.IpId) x d × (e ≡ renewed_value d)
unfolding Means
former_form b x e m =
    let q = m.2 in
    let c = q.4 in
    let r = c.2 in
    let n = r.3.0 in
    let d = test (item.Number (record { field = number_field.IpId; number = n })) in (
      d,
      ((m.0.0, d), refl, (q.0, q.1, q.2, q.3, ((d, c.0.1), refl, (r.0, r.1, r.2, (n, refl, r.3.2), r.4)))),
      m.1 ∙ (c.1 ∙ r.3.1),
    )

pub former_occurrences : (before es : List OptionValue) → Occurrences (map renewed_value before) (map renewed_value es) → Occurrences before es
former_occurrences before [] o = none
former_occurrences before (e ∷ es) (Occurrences.more c o) =
    Occurrences.more (sym (occurrence_kept before e) ∙ c)
    (former_occurrences (before ++ (e ∷ [])) es
    (subst (λ (b : List OptionValue). Occurrences b (map renewed_value es)) (sym (map-append renewed_value before (e ∷ []))) o))
