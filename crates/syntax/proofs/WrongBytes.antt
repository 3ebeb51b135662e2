-- 6 STANDS AT THE WRONG BYTE (`wrong_byte`): what stands from the option's first dash to the place begins a text of the option, limits ignored, and with
-- the byte at the place it begins none, or the text ends there. The option's name is settled, and its form's scanner stops at such a byte (`stops_at`).
use Rattle.std.specs.Prelude.{Err}
use mathlib.Core.Path.{◌≡◌, refl, sym, ap, subst, ◌∙◌}
use mathlib.Core.Bool.{false}
use mathlib.Core.List.{List, [], ◌∷◌, ◌++◌, append_assoc}
use Prim.Native.Nat.{ℕ, ◌+◌, ◌-◌, ◌≤◌, ◌<◌}
use native.Mathlib.Omega.{arith}
use lib.ListN.{length, length-append, drop, length-drop}
use Rattle.forms.specs.Form.{Means}
use Rattle.forms.specs.Scan.{Scan, Got, Stop, scan, over}
use Rattle.forms.specs.Place.{Failed, placed, read_at}
use Rattle.forms.proofs.Sound.{never}
use Rattle.forms.proofs.Words.{word_length}
use Rattle.forms.proofs.Complete.{reads}
use Rattle.forms.proofs.Places.{StopsAt, stops_at}
use Rattle.definitions.specs.declared.answers.Refusal.TheVariants as refusal
use Rattle.definitions.specs.Limits.{Limits}
use Rattle.definitions.specs.Options.{listed}
use Rattle.definitions.specs.Reading.{at_dash, at_letter, read_placing, read}
use Rattle.definitions.specs.WrongPlaces.{span, OfForm, BeginsForm, WrongByte}
use Rattle.laws.proofs.Placing.{OptionAnswers, form_cause}
use Rattle.syntax.proofs.Frame.{place_after_lem}
use Rattle.syntax.proofs.Rows.{form_alone_lem}
use Rattle.syntax.proofs.OptionAt.{Named, named_at, form_stands, span_of, parted_alike}

failed_split : {A : Type 0} (s : List ℕ) (o : List (List ℕ)) (u : Scan A) (p : ℕ) → placed s o u ≡ Failed p
    → (r : List ℕ) × (u ≡ Stop r) × (p ≡ length s - length r)
failed_split s [] (Got v r) p e = never (cc)
failed_split s (x ∷ o) (Got v r) p e = never (cc)
failed_split s o (Stop r) p e = let z : length s - length r ≡ p = cc in (r, refl, sym z)

module _ (s : List ℕ) (dash p : ℕ) (i : Named s dash (Failed p)) (r : List ℕ)
    (stopped : scan i.option.form (drop (dash + 2 + length i.name) s) ≡ Stop r)
    (stops : StopsAt i.option.form (drop (dash + 2 + length i.name) s) r) (placed-so : p ≡ length s - length r) where
  -- what stands before the place
  passed : List ℕ
  passed = 45 ∷ 45 ∷ (i.name ++ stops.passed)

  stands : drop dash s ≡ passed ++ r
  unfolding passed
  stands = i.stands ∙ ap (λ l. 45 ∷ 45 ∷ l) (ap (λ l. i.name ++ l) stops.split ∙ sym (append_assoc i.name stops.passed r))

  place : p ≡ dash + length passed
  unfolding passed
  place = placed-so ∙ place_after_lem s dash passed r stands (omega arith)

  begins : BeginsForm i.option passed
  unfolding passed
  begins = (
    stops.onward,
    record {
      name = i.name;
      rest = stops.passed ++ stops.onward;
      value = stops.value;
      is = ap (λ l. 45 ∷ 45 ∷ l) (append_assoc i.name stops.passed stops.onward);
      named = i.is;
      formed = stops.begins_one;
    },
  )

  -- with one byte more it begins nothing
  no_more : (b : ℕ) (t : List ℕ) → r ≡ b ∷ t → BeginsForm i.option (passed ++ (b ∷ [])) → ⊥
  unfolding passed
  no_more b t e g =
      let f = g.1 in
      let l : length i.name ≡ length f.name =
      word_length i.name i.option.name i.is ∙ sym (word_length f.name i.option.name f.named) in
      let q : i.name ++ (stops.passed ++ b ∷ g.0) ≡ f.name ++ f.rest =
      ap (λ k. i.name ++ k) (sym (append_assoc stops.passed (b ∷ []) g.0))
      ∙ sym (append_assoc i.name (stops.passed ++ (b ∷ [])) g.0)
      ∙ ap (λ k. k ++ g.0) (sym (append_assoc i.name stops.passed (b ∷ [])))
      ∙ ap (drop 2) f.is in
      let k = parted_alike i.name (stops.passed ++ b ∷ g.0) f.name f.rest l q in
      stops.no_further b t g.0 f.value e (subst (λ x. Means false i.option.form x f.value) (sym k.1) f.formed)

  more_left : (l : List ℕ) → r ≡ l → p < length s → BeginsForm i.option (span s dash (p + 1)) → ⊥
  more_left [] e h g =
      let n : length s - dash ≡ length passed + length r = sym (length-drop dash s) ∙ ap length stands ∙ length-append passed r in
      let z : length r ≡ 0 = ap length e in
      absurd (omega (arith, n, z, place, h))
  more_left (b ∷ t) e h g =
      let x = passed ++ (b ∷ []) in
      let d : drop dash s ≡ x ++ t = stands ∙ ap (λ l. passed ++ l) e ∙ sym (append_assoc passed (b ∷ []) t) in
      let n : p + 1 ≡ dash + length x = omega (arith, place, length-append passed (b ∷ [])) in
      no_more b t e (subst (BeginsForm i.option) (span_of s dash x t (p + 1) d n) g)

  inside : p ≤ length s
  inside = omega (arith, placed-so)

  -- a text of the option would have been read
  not_formed : (to : ℕ) → OfForm i.option (span s dash to) → ⊥
  not_formed to f =
      let a = form_alone_lem i.named.listed in
      let t = drop (to - dash) (drop dash s) in
      let d = (form_stands s dash i to f).1 in
      let g : scan i.option.form (f.rest ++ t) ≡ Got f.value t =
      (reads i.option.form a.is_LL1 f.rest f.value t f.formed (a.ends_itself t)).0 in
      let e : Got f.value t ≡ Stop r = sym g ∙ ap (scan i.option.form) (sym d) ∙ stopped in
      never (cc)

  wrong : WrongByte s dash p
  wrong =
      record {
        option = i.option;
        named = i.named;
        not_formed = λ to f. not_formed to f;
        after = omega (arith, place);
        inside = inside;
        begins = subst (BeginsForm i.option) (sym (span_of s dash passed r p stands place)) begins;
        no_further = λ h g. more_left r refl h g;
      }

pub form_fails : (s : List ℕ) (dash p : ℕ) → OptionAnswers s dash (listed (Failed p)) → WrongByte s dash p
unfolding read_at
form_fails s dash p a =
    let i = named_at s dash (Failed p) a in
    let l = drop (dash + 2 + length i.name) s in
    let f = failed_split s (over i.option.form l) (scan i.option.form l) p i.answers in
    wrong s dash p i f.0 f.1 (stops_at i.option.form (form_alone_lem i.named.listed).is_LL1 l f.0 f.1) f.2

-- THE PLACE OF 6, of an option whose first dash is the place that document 01 gives
pub wrong_byte : (lim : Limits) (s : List ℕ) (p : ℕ) → (read lim s).outcome ≡ Err (record { refusal = refusal.Form; place = p })
    → (dash : ℕ) × ((read_placing at_dash lim s).outcome ≡ Err (record { refusal = refusal.Form; place = dash })) × WrongByte s dash p
wrong_byte lim s p e =
    let c = form_cause s at_letter at_dash lim p e in
    (c.0, c.4, subst (WrongByte s c.0) (sym c.3) (form_fails s c.0 c.1 c.2))
