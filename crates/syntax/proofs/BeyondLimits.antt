-- 7 STANDS AT THE FIRST LIMIT THAT IS BROKEN (`beyond_limit`): the option is of its form, limits ignored; of its limits from left to right those before one
-- are kept and this one is not; and the place is the first digit of its number, after any `0x`, or its name's first quote.
use Rattle.std.specs.Prelude.{Err}
use mathlib.Core.Path.{◌≡◌, refl, sym, ap, subst, ◌∙◌}
use mathlib.Core.Bool.{Bool, false}
use mathlib.Core.List.{List, [], ◌∷◌, ◌++◌, append_assoc}
use Prim.Native.Nat.{ℕ, ◌+◌, ◌-◌, ◌≤◌}
use native.Mathlib.Omega.{arith}
use lib.ListN.{length, length-append, drop, length-drop}
use lib.Seq.{drop-drop}
use Rattle.forms.specs.Form.{Means}
use Rattle.forms.specs.Scan.{Scan, Got, Stop, scan, over}
use Rattle.forms.specs.Place.{OutOfRange, placed, read_at}
use Rattle.forms.specs.Bounds.{bounds}
use Rattle.forms.proofs.Sound.{never, Scanned, scanned}
use Rattle.forms.proofs.Bounds.{FirstBroken, first_broken}
use Rattle.forms.proofs.Parts.{AllOf, Told, each_part, all_one}
use Rattle.definitions.specs.declared.answers.Refusal.TheVariants as refusal
use Rattle.definitions.specs.Limits.{Limits}
use Rattle.definitions.specs.OptionValues.{OptionValue}
use Rattle.definitions.specs.Options.{listed}
use Rattle.definitions.specs.Reading.{at_dash, at_letter, read_placing, read}
use Rattle.definitions.specs.WrongPlaces.{span, OfForm, Limited, decimal, hex, count, name, BeyondLimit}
use Rattle.laws.proofs.Placing.{OptionAnswers, limit_cause}
use Rattle.syntax.proofs.Frame.{after}
use Rattle.syntax.proofs.OptionAt.{Named, named_at, span_of}
use Rattle.syntax.proofs.LimitedParts.{each_limited}

broken_split : {A : Type 0} (s : List ℕ) (o : List (List ℕ)) (u : Scan A) (p n : ℕ) → placed s o u ≡ OutOfRange p n
    → (x : List ℕ) × (xs : List (List ℕ)) × (v : A) × (r : List ℕ) × (o ≡ x ∷ xs) × (u ≡ Got v r) × (p ≡ length s - length x)
broken_split s [] (Got v r) p n e = never (cc)
broken_split s (x ∷ o) (Got v r) p n e = let z : length s - length x ≡ p = cc in (x, o, v, r, refl, refl, sym z)
broken_split s o (Stop r) p n e = never (cc)

-- the place of a limit is in its part
pub skip_within : {x : List ℕ} {n : ℕ} {k : Bool} → Limited x n k → n ≤ length x
skip_within (decimal limit digits e d) = omega arith
skip_within (hex limit x digits l e d) = omega arith
skip_within (count digits e d) = omega arith
skip_within (name bytes) = omega arith

module _ (s : List ℕ) (dash p next : ℕ) (i : Named s dash (OutOfRange p next)) (y r : List ℕ) (v : OptionValue)
    (split : drop (dash + 2 + length i.name) s ≡ y ++ r) (m : Means false i.option.form y v) (z : List ℕ)
    (f : FirstBroken (drop (dash + 2 + length i.name) s) (bounds i.option.form y v m) z) (placed-so : p ≡ length s - length z) where
  at : ℕ
  at = dash + 2 + length i.name

  -- the option's bytes
  whole : List ℕ
  whole = 45 ∷ 45 ∷ (i.name ++ y)

  stands : drop dash s ≡ whole ++ r
  unfolding whole
  stands = i.stands ∙ ap (λ l. 45 ∷ 45 ∷ l) (ap (λ l. i.name ++ l) split ∙ sym (append_assoc i.name y r))

  counted : length s ≡ at + length y + length r
  unfolding at whole
  counted =
      let n : length s - dash ≡ length whole + length r = sym (length-drop dash s) ∙ ap length stands ∙ length-append whole r in
      omega (arith, n, length-append i.name y)

  formed : OfForm i.option (span s dash (dash + length whole))
  unfolding whole
  formed = record { name = i.name; rest = y; value = v; is = span_of s dash whole r (dash + length whole) stands refl; named = i.is; formed = m }

  told : Told Limited y f.first
  told =
      all_one (Told Limited y) f.kept f.first f.others
      (subst (AllOf (Told Limited y)) f.are (each_part Limited (each_limited i.named.listed) y v m))

  -- its broken part
  from : ℕ
  from = at + f.first.before

  part_stands : drop from s ≡ f.first.part ++ (told.1.1 ++ r)
  unfolding from at
  part_stands =
      let t = told.1 in
      let e : drop at s ≡ t.0 ++ (f.first.part ++ (t.1 ++ r)) =
      split ∙ ap (λ l. l ++ r) t.2 ∙ append_assoc t.0 (f.first.part ++ t.1) r ∙ ap (λ l. t.0 ++ l) (append_assoc f.first.part t.1 r) in
      subst (λ n. drop (at + n) s ≡ f.first.part ++ (t.1 ++ r)) t.3 (after s at t.0 (f.first.part ++ (t.1 ++ r)) e)

  place : p ≡ from + f.first.skip
  unfolding from at
  place =
      let t = told.1 in
      let n : length y ≡ length t.0 + (length f.first.part + length t.1) =
      ap length t.2 ∙ length-append t.0 (f.first.part ++ t.1) ∙ ap (λ k. length t.0 + k) (length-append f.first.part t.1) in
      let l : length z ≡ length s - (at + (f.first.before + f.first.skip)) =
      ap length (f.left ∙ drop-drop (f.first.before + f.first.skip) at s) ∙ length-drop (at + (f.first.before + f.first.skip)) s in
      omega (arith, placed-so, l, n, counted, t.3, skip_within told.0)

  beyond : BeyondLimit s dash p
  unfolding from at formed whole
  beyond =
      record {
        option = i.option;
        named = i.named;
        end = dash + length whole;
        inside = omega (arith, counted, length-append i.name y);
        formed = formed;
        kept = f.kept;
        first = f.first;
        others = f.others;
        limits = f.are;
        all_kept_lem = f.all_kept_lem;
        not_kept = f.not_kept;
        limited = told.0;
        from = from;
        begins = refl;
        stands = span_of s from f.first.part (told.1.1 ++ r) (from + length f.first.part) part_stands refl;
        placed = place;
      }

pub limit_breaks : (s : List ℕ) (dash p next : ℕ) → OptionAnswers s dash (listed (OutOfRange p next)) → BeyondLimit s dash p
unfolding read_at
limit_breaks s dash p next a =
    let i = named_at s dash (OutOfRange p next) a in
    let l = drop (dash + 2 + length i.name) s in
    let b = broken_split s (over i.option.form l) (scan i.option.form l) p next i.answers in
    let w = subst (Scanned i.option.form l (over i.option.form l)) b.5 (scanned i.option.form l) in
    let f = first_broken l (bounds i.option.form w.0 b.2 w.2) b.0 b.1 (sym w.3 ∙ b.4) in
    beyond s dash p next i w.0 b.3 b.2 w.1 w.2 b.0 f b.6

-- THE PLACE OF 7, of an option whose first dash is the place that document 01 gives
pub beyond_limit : (lim : Limits) (s : List ℕ) (p : ℕ) → (read lim s).outcome ≡ Err (record { refusal = refusal.Limit; place = p })
    → (dash : ℕ) × ((read_placing at_dash lim s).outcome ≡ Err (record { refusal = refusal.Limit; place = dash })) × BeyondLimit s dash p
beyond_limit lim s p e =
    let c = limit_cause s at_letter at_dash lim p e in
    (c.0, c.5, subst (BeyondLimit s c.0) (sym c.4) (limit_breaks s c.0 c.1 c.2 c.3))
