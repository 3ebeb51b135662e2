-- Number and table of a reading do not depend on how 6 and 7 are placed, and no other place does (`places_alone`). Where one placing refuses with 6 or 7,
-- so does every other, for what the form of one option answers with (`form_cause`, `limit_cause`). By induction on the bytes, both placings at once.
use Rattle.std.specs.Prelude.{if◌then◌else◌, Result, Ok, Err}
use mathlib.Core.Path.{◌≡◌, refl, ap, subst, sym, ◌∙◌}
use mathlib.Core.Bool.{Bool, true, false, not}
use mathlib.Core.List.{List, [], ◌∷◌, ◌++◌}
use Prim.Native.Nat.{ℕ, zero, suc, ◌+◌, ◌-◌}
use lib.ListN.{length, take, drop}
use lib.Seq.{drop-drop}
use lib.Dec.{eqb, ltb}
use Rattle.forms.specs.Bytes.{run}
use Rattle.forms.specs.Place.{Parsed, OutOfRange, Failed}
use Rattle.forms.proofs.Sound.{never}
use Rattle.definitions.specs.declared.answers.Refusal.{Refusal}
use Rattle.definitions.specs.declared.answers.Refusal.TheVariants as refusal
use Rattle.definitions.specs.declared.answers.Reading.{Reading}
use Rattle.definitions.specs.declared.answers.TextRefusal.{TextRefusal}
use Rattle.definitions.specs.Limits.{Limits}
use Rattle.definitions.specs.Lists.{none?, count, same_bytes}
use Rattle.definitions.specs.OptionValues.{OptionValue}
use Rattle.definitions.specs.Options.{NamedOption, unlisted, listed, option_at, printable, opening}
use Rattle.definitions.specs.Occurrences.{is_pattern, occurrence_check, missing}
use Rattle.definitions.specs.Reading.{Located, option_values_of, Options, ended, refused, unless_refused, Placing, option_step, is_space, dashes, options}
use Rattle.definitions.specs.Reading.{refused_reading, checked_table, finished, unbounded_placing, read_placing}
use Rattle.definitions.specs.References.{usable_in}
use Rattle.definitions.specs.WrongPlaces.{placed_anew, except_places}
use Rattle.laws.proofs.Places.{due_for}

-- an option with its first dash there, whose form answers so
abbrev pub OptionAnswers : List ℕ → ℕ → NamedOption → Type 0
OptionAnswers s dash o = (dashes (drop dash s) ≡ true) × (option_at s dash ≡ o)

module _ (s : List ℕ) (P Q : Placing) where
  -- a refusal, and its place by either placing
  data Cause : Refusal → ℕ → ℕ → Type 0 where
    form : (dash p : ℕ) → OptionAnswers s dash (listed (Failed p)) → Cause refusal.Form (P.form dash p) (Q.form dash p)
    limit : (dash p next : ℕ) → OptionAnswers s dash (listed (OutOfRange p next)) → Cause refusal.Limit (P.limit dash p) (Q.limit dash p)
    other : (r : Refusal) (p : ℕ) → placed_anew r ≡ false → Cause r p p

  -- ---- the options

  data Both : Options → Options → Type 0 where
    ends : (located : List Located) → Both (ended located) (ended located)
    refuses : {r : Refusal} {p q : ℕ} → Cause r p q → Both (refused r p) (refused r q)

  both_if : (b : Bool) {x x' y y' : Options} → (b ≡ true → Both x x') → (b ≡ false → Both y y') → Both (if b then x else y) (if b then x' else y')
  both_if true h g = h refl
  both_if false h g = g refl

  -- the refusals that are due for an option are 8, 9 and 11
  abbrev DueOther : Result Unit Refusal → Type 0
  DueOther (Ok tt) = Unit {0}
  DueOther (Err r) = placed_anew r ≡ false

  unless_both : (d : Result Unit Refusal) (at : ℕ) {k k' : Options} → DueOther d → Both k k' → Both (unless_refused d at k) (unless_refused d at k')
  unless_both (Ok tt) at e h = h
  unless_both (Err r) at e h = refuses (other r at e)

  step_both : (o : NamedOption) (es : List OptionValue) (at : ℕ) {k k' : OptionValue → ℕ → Options} → OptionAnswers s at o
      → ((e : OptionValue) (next : ℕ) → Both (k e next) (k' e next)) → Both (option_step P o es at k) (option_step Q o es at k')
  step_both unlisted es at a h = refuses (other refusal.NotListed at refl)
  step_both (listed (Failed p)) es at a h = refuses (form at p a)
  step_both (listed (OutOfRange p next)) es at a h = refuses (limit at p next a)
  step_both (listed (Parsed e next)) es at a h =
      unless_both (occurrence_check es e) at (due_for DueOther tt refl refl refl es e) (h e next)

  onward : (at b : ℕ) (l : List ℕ) → drop at s ≡ b ∷ l → drop (at + 1) s ≡ l
  onward at b l d = sym (drop-drop 1 at s) ∙ ap (drop 1) d

  options_both : (l : List ℕ) (passed at : ℕ) (located : List Located) → drop at s ≡ l
      → Both (options P s l passed at located) (options Q s l passed at located)
  unfolding options
  options_both [] passed at located d = refuses (other refusal.NeitherOptionNorEnd at refl)
  options_both (b ∷ l) (suc passed) at located d = options_both l passed (at + 1) located (onward at b l d)
  options_both (b ∷ l) zero at located d =
      let d1 = onward at b l d in
      both_if (is_space b) (λ t. options_both l zero (at + 1) located d1)
      (λ t. both_if (eqb b 41)
      (λ u. both_if (none? l) (λ v. ends located) (λ v. refuses (other refusal.NeitherOptionNorEnd (at + 1) refl)))
      (λ u. both_if (dashes (b ∷ l))
      (λ v. step_both (option_at s at) (option_values_of located) at (rw d v, refl)
      (λ e next. options_both l (next - (at + 1)) (at + 1) (located ++ (record { dash = at; value = e } ∷ [])) d1))
      (λ v. refuses (other refusal.NeitherOptionNorEnd at refl))))

  -- ---- the whole text

  -- one table, and an outcome by either placing
  data Outcomes : Result Unit TextRefusal → Result Unit TextRefusal → Type 0 where
    accepts : Outcomes (Ok tt) (Ok tt)
    refuses : {r : Refusal} {p q : ℕ} → Cause r p q → Outcomes (Err (record { refusal = r; place = p })) (Err (record { refusal = r; place = q }))

  abbrev Readings : Reading → Reading → Type 0
  Readings x y = (x.table ≡ y.table) × Outcomes x.outcome y.outcome

  reading_if : (b : Bool) {x x' y y' : Reading} → Readings x x' → Readings y y' → Readings (if b then x else y) (if b then x' else y')
  reading_if true h g = h
  reading_if false h g = g

  refused_so : (room : ℕ) (r : Refusal) (p : ℕ) → placed_anew r ≡ false → Readings (refused_reading room r p) (refused_reading room r p)
  refused_so room r p e = (refl, refuses (other r p e))

  checked_so : (room : ℕ) (located : List Located) → Readings (checked_table room s located) (checked_table room s located)
  unfolding checked_table
  checked_so room located =
      reading_if (ltb (usable_in (option_values_of located)) (count is_pattern (option_values_of located))) (refused_so room refusal.Unusable _ refl)
      (reading_if (missing (option_values_of located)) (refused_so room refusal.Missing (length s) refl) (refl, accepts))

  finished_so : (room : ℕ) {o o' : Options} → Both o o' → Readings (finished room s o) (finished room s o')
  finished_so room (ends located) = checked_so room located
  finished_so room (refuses c) = (refl, refuses c)

  readings : (lim : Limits) → Readings (read_placing P lim s) (read_placing Q lim s)
  unfolding read_placing unbounded_placing
  readings lim =
      reading_if (ltb lim.text (length s)) (refused_so lim.room refusal.TextLength 0 refl)
      (reading_if (none? s) (refused_so lim.room refusal.TextLength 0 refl)
      (reading_if (ltb (run printable s) (length s)) (refused_so lim.room refusal.TextByte (run printable s) refl)
      (reading_if (not (same_bytes (take (length opening) s) opening)) (refused_so lim.room refusal.Opening 0 refl)
      (finished_so lim.room (options_both (drop (length opening) s) 0 (length opening) [] refl)))))

  -- ---- the laws

  same_except : {o o' : Result Unit TextRefusal} → Outcomes o o' → except_places o ≡ except_places o'
  same_except accepts = refl
  same_except (refuses (form dash p a)) = refl
  same_except (refuses (limit dash p next a)) = refl
  same_except (refuses (other r p e)) = refl

  -- NUMBER, TABLE AND ALL OTHER PLACES are those of any other placing
  pub places_alone : (lim : Limits)
      → ((read_placing P lim s).table ≡ (read_placing Q lim s).table) × (except_places (read_placing P lim s).outcome ≡ except_places (read_placing Q lim s).outcome)
  places_alone lim = let i = readings lim in (i.0, same_except i.1)

  -- a refusal's cause and place
  same_refusal : (r r' : Refusal) (p p' : ℕ)
      → ◌≡◌ {A = Result Unit TextRefusal} (Err (record { refusal = r; place = p })) (Err (record { refusal = r'; place = p' })) → (r ≡ r') × (p ≡ p')
  same_refusal r r' p p' e =
      let z : ◌≡◌ {A = TextRefusal} (record { refusal = r; place = p }) (record { refusal = r'; place = p' }) = cc in
      (ap (λ (x : TextRefusal). x.refusal) z, ap (λ (x : TextRefusal). x.place) z)

  -- 6 by one placing is 6 by the other, and there is an option whose form fails
  abbrev pub FormCause : ℕ → Result Unit TextRefusal → Type 0
  FormCause p o = (dash : ℕ) × (q : ℕ) × OptionAnswers s dash (listed (Failed q)) × (p ≡ P.form dash q)
      × (o ≡ Err (record { refusal = refusal.Form; place = Q.form dash q }))

  form_of : {o o' : Result Unit TextRefusal} → Outcomes o o' → (p : ℕ) → o ≡ Err (record { refusal = refusal.Form; place = p }) → FormCause p o'
  form_of accepts p e = never (cc)
  form_of (refuses (form dash q a)) p e = (dash, q, a, sym (same_refusal _ _ _ _ e).1, refl)
  form_of (refuses (limit dash q next a)) p e = let z : refusal.Limit ≡ refusal.Form = (same_refusal _ _ _ _ e).0 in never (cc)
  form_of (refuses (other r k w)) p e =
      let z : r ≡ refusal.Form = (same_refusal _ _ _ _ e).0 in
      let y : placed_anew refusal.Form ≡ false = subst (λ x. placed_anew x ≡ false) z w in
      never (cc)

  pub form_cause : (lim : Limits) (p : ℕ) → (read_placing P lim s).outcome ≡ Err (record { refusal = refusal.Form; place = p })
      → FormCause p (read_placing Q lim s).outcome
  form_cause lim p e = form_of (readings lim).1 p e

  -- 7 by one placing is 7 by the other, and there is an option of which a limit is broken
  abbrev pub LimitCause : ℕ → Result Unit TextRefusal → Type 0
  LimitCause p o =
      (dash : ℕ) × (q : ℕ) × (next : ℕ) × OptionAnswers s dash (listed (OutOfRange q next)) × (p ≡ P.limit dash q)
      × (o ≡ Err (record { refusal = refusal.Limit; place = Q.limit dash q }))

  limit_of : {o o' : Result Unit TextRefusal} → Outcomes o o' → (p : ℕ) → o ≡ Err (record { refusal = refusal.Limit; place = p }) → LimitCause p o'
  limit_of accepts p e = never (cc)
  limit_of (refuses (form dash q a)) p e = let z : refusal.Form ≡ refusal.Limit = (same_refusal _ _ _ _ e).0 in never (cc)
  limit_of (refuses (limit dash q next a)) p e = (dash, q, next, a, sym (same_refusal _ _ _ _ e).1, refl)
  limit_of (refuses (other r k w)) p e =
      let z : r ≡ refusal.Limit = (same_refusal _ _ _ _ e).0 in
      let y : placed_anew refusal.Limit ≡ false = subst (λ x. placed_anew x ≡ false) z w in
      never (cc)

  pub limit_cause : (lim : Limits) (p : ℕ) → (read_placing P lim s).outcome ≡ Err (record { refusal = refusal.Limit; place = p })
      → LimitCause p (read_placing Q lim s).outcome
  limit_cause lim p e = limit_of (readings lim).1 p e
