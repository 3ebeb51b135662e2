-- THE SAME TEXTS READ AS BEFORE: a text has a table exactly if it had one, and the table is the former, renewed (`still_exactly`), so that it has the same
-- placements (`still_matches`). Option by option: that of ip_id is of its former form, and what any other says is not of the old kind. Document 02, T-09.
use mathlib.Core.Path.{◌≡◌, refl, sym, ap, subst, ◌∙◌}
use mathlib.Core.Bool.{true, false}
use mathlib.Core.List.{List, [], ◌∷◌, ◌++◌, map}
use mathlib.Core.Logic.{◌↔◌}
use Prim.Native.Nat.{ℕ}
use lib.Dec.{leb}
use Rattle.forms.specs.Bytes.{text, same_word}
use Rattle.forms.specs.Form.{Means}
use Rattle.forms.proofs.Bools.{both_left}
use Rattle.forms.proofs.Sound.{never}
use Rattle.definitions.specs.declared.table.NumberField.{NumberField}
use Rattle.definitions.specs.declared.table.NumberField.TheVariants as number_field
use Rattle.definitions.specs.declared.table.NumberTest.{NumberTest}
use Rattle.definitions.specs.declared.table.Item.{Item}
use Rattle.definitions.specs.declared.table.Item.TheVariants as item
use Rattle.definitions.specs.declared.table.Address.{Address}
use Rattle.definitions.specs.declared.table.Table.{Table}
use Rattle.definitions.specs.declared.answers.Reading.{Reading}
use Rattle.definitions.specs.declared.packets.Direction.{Direction}
use Rattle.definitions.specs.declared.packets.FieldMap.{FieldMap}
use Rattle.definitions.specs.Limits.{max_byte}
use Rattle.definitions.specs.Lists.{all?, none?, count}
use Rattle.definitions.specs.OptionValues.{OptionValue, Name, Protocol, Flow, Test, Pattern, Modified}
use Rattle.definitions.specs.Items.{kind_of}
use Rattle.definitions.specs.Forms.{ip_id_form}
use Rattle.definitions.specs.Options.{Option, row}
use Rattle.definitions.specs.Tables.{table_of}
use Rattle.definitions.specs.References.{usable_in}
use Rattle.definitions.specs.Occurrences.{is_pattern, missing}
use Rattle.definitions.specs.Reading.{accepted_reading, read_unbounded}
use Rattle.definitions.specs.Grammar.{OptionText, option, OptionsBy, OptionsText, close, space, Occurrences, Derives}
use Rattle.definitions.specs.WellFormed.{item_fits}
use Rattle.definitions.specs.Fields.{view_of}
use Rattle.definitions.specs.Placements.{listed}
use Rattle.definitions.specs.IpId.{is_ip_id_field, renewed_number, renewed_item, renewed_value, renewed}
use Rattle.definitions.specs.IpId.{FormerOption, former_ip_id, former_other, FormerlyDerives}
use Rattle.laws.proofs.OldKind.{number_known}
use Rattle.laws.proofs.RenewedTables.{renewed_matches}
use Rattle.laws.proofs.RenewedOptions.{renewed_form, former_form, renewed_options, renewed_occurrences, former_occurrences}
use Rattle.laws.proofs.RenewedOptions.{renewed_usable, renewed_patterns, renewed_missing}
use Rattle.syntax.proofs.Truths.{cases}
use Rattle.syntax.proofs.Names.{one_row}
use Rattle.syntax.proofs.Exact.{syntax_exactly}
use Rattle.roundtrip.proofs.Fits.{test_fits, option_fits}
use Rattle.roundtrip.proofs.Listed.{ip_id_row}
use Rattle.roundtrip.proofs.Rows.{option_fits_lem}

-- ---- what is not of the old kind stays

number_stays : (a : NumberTest) (f : NumberField) → is_ip_id_field f ≡ false → renewed_number a f ≡ item.Number a
number_stays a number_field.IpId h = never (cc)
number_stays a number_field.SourcePort h = refl
number_stays a number_field.DestinationPort h = refl
number_stays a number_field.Tos h = refl

item_stays : (it : Item) (al : List Address) → test_fits (kind_of it) it al ≡ true → renewed_item it ≡ it
unfolding item_fits
item_stays item.Unused al t = refl
item_stays (item.Address a) al t = refl
item_stays item.SameIp al t = refl
item_stays (item.Number a) al t =
    number_stays a a.field (number_known a.field a.number (both_left (item_fits (item.Number a)) (none? al) t))
item_stays (item.Ttl a) al t = refl
item_stays (item.Field a) al t = refl
item_stays (item.Size a) al t = refl
item_stays (item.At a) al t = refl
item_stays (item.Byte a) al t = refl
item_stays (item.Pattern p) al t = refl

value_stays : (e : OptionValue) → option_fits e ≡ true → renewed_value e ≡ e
value_stays (Name n) t = refl
value_stays (Protocol p) t = refl
value_stays (Flow f) t = refl
value_stays (Test it al) t = ap (λ (i : Item). Test i al) (item_stays it al t)
value_stays (Pattern n b) t = refl
value_stays (Modified m) t = refl

-- ---- what had a table has its renewed table

option_still : {x : List ℕ} {e : OptionValue} → FormerOption x e → OptionText x (renewed_value e)
option_still (former_ip_id n y {e} q w) = option _ n y ip_id_row q (renewed_form true y e w)
option_still (former_other o n y {e} m q k w) =
    let t = option o n y m q w in
    subst (λ (v : OptionValue). OptionText (45 ∷ 45 ∷ (n ++ y)) v) (sym (value_stays e (option_fits_lem t).fits)) t

options_still : {l : List ℕ} {es : List OptionValue} → OptionsBy FormerOption l es → OptionsText l (map renewed_value es)
options_still close = close
options_still (space r) = space (options_still r)
options_still (OptionsBy.more o r) = OptionsBy.more (option_still o) (options_still r)

pub still_derives : (room : ℕ) (s : List ℕ) (t : Table) → FormerlyDerives room s t → Derives room s (renewed t)
still_derives room s t d =
    let es = d.values in
    let made = options_still d.made in
    record {
      body = d.body;
      values = map renewed_value es;
      framed = d.framed;
      printed = d.printed;
      made = made;
      occurrences = renewed_occurrences d.occurrences;
      usable = renewed_usable es ∙ d.usable ∙ sym (renewed_patterns es);
      complete = renewed_missing es ∙ d.complete;
      table = ap renewed d.table ∙ sym (renewed_options room es);
    }

-- ---- what has a table had one, which is renewed to it

option_was : {x : List ℕ} {e : OptionValue} → OptionText x e → (d : OptionValue) × FormerOption x d × (e ≡ renewed_value d)
option_was (option o n y {e} m q w) =
    cases (same_word n (text "ip_id"))
    (λ k.
    let z : o ≡ row "ip_id" ip_id_form = one_row m ip_id_row n q k in
    let i = former_form true y e (subst (λ (p : Option). Means true p.form y e) z w) in
    (i.0, former_ip_id n y k i.1, i.2))
    (λ k. (e, former_other o n y m q k w, sym (value_stays e (option_fits_lem (option o n y m q w)).fits)))

options_were : {l : List ℕ} {es : List OptionValue} → OptionsText l es → (ds : List OptionValue) × OptionsBy FormerOption l ds × (es ≡ map renewed_value ds)
options_were close = ([], close, refl)
options_were (space r) = let i = options_were r in (i.0, space i.1, i.2)
options_were (OptionsBy.more {e} {es} o r) =
    let i = options_were r in
    let p = option_was o in
    (p.0 ∷ i.0, OptionsBy.more p.1 i.1, ap (λ (v : OptionValue). v ∷ es) p.2 ∙ ap (λ (vs : List OptionValue). renewed_value p.0 ∷ vs) i.2)

-- a table that the text had, renewed to the one that it has
abbrev pub Had : ℕ → List ℕ → Table → Type 1
Had room s t = (u : Table) × FormerlyDerives room s u × (t ≡ renewed u)

pub derived_formerly : (room : ℕ) (s : List ℕ) (t : Table) → Derives room s t → Had room s t
derived_formerly room s t d =
    let i = options_were d.made in
    let ds = i.0 in
    let e : d.values ≡ map renewed_value ds = i.2 in (
      table_of room ds,
      record {
        body = d.body;
        values = ds;
        framed = d.framed;
        printed = d.printed;
        made = i.1;
        occurrences = former_occurrences [] ds (subst (Occurrences []) e d.occurrences);
        usable = sym (renewed_usable ds) ∙ (ap usable_in (sym e) ∙ (d.usable ∙ (ap (count is_pattern) e ∙ renewed_patterns ds)));
        complete = sym (renewed_missing ds) ∙ (ap missing (sym e) ∙ d.complete);
        table = refl;
      },
      d.table ∙ (ap (table_of room) e ∙ renewed_options room ds),
    )

-- A TEXT READS EXACTLY IF IT DID, as the former table renewed
pub still_exactly : (room : ℕ) (s : List ℕ) (t : Table) → (read_unbounded room s ≡ accepted_reading t) ↔ Had room s t
still_exactly room s t = (
  λ e. derived_formerly room s t ((syntax_exactly room s t).0 e),
  λ h. let d = still_derives room s h.0 h.1 in (syntax_exactly room s t).1 (subst (λ (u : Table). Derives room s u) (sym h.2) d),
)

-- AND IT STILL MATCHES: for every packet the table that a text now reads as has the placements of the one that it had
pub still_matches : (room : ℕ) (s : List ℕ) (u : Table) → FormerlyDerives room s u → (p decoded : List ℕ) (m : FieldMap) (dir : Direction)
    → all? (λ (b : ℕ). leb b max_byte) p ≡ true → listed (read_unbounded room s).table (view_of p decoded m) dir ≡ listed u (view_of p decoded m) dir
still_matches room s u d p decoded m dir h =
    ap (λ (r : Reading). listed r.table (view_of p decoded m) dir) ((still_exactly room s (renewed u)).1 (u, d, refl)) ∙ renewed_matches u p decoded m dir h
