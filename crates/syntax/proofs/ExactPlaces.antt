-- THE PLACES OF 6 AND 7 EXACTLY: what is said of them (`WrongByte`, `BeyondLimit`) holds of one place only, so that a reading refuses with 6 or 7 at a place
-- exactly if document 01's refuses so at an option's first dash, and the place is that of the option's wrong byte, or of its first number beyond a limit.
use Rattle.std.specs.Prelude.{Err}
use mathlib.Core.Path.{◌≡◌, refl, sym, ap, subst, ◌∙◌}
use mathlib.Core.Bool.{Bool, false}
use mathlib.Core.List.{List, [], ◌∷◌, ◌++◌, append_assoc}
use mathlib.Core.Logic.{◌↔◌}
use Prim.Native.Nat.{ℕ, ◌+◌, ◌-◌, ◌≤◌, ◌<◌}
use native.Mathlib.Omega.{arith}
use lib.ListN.{length, take, drop, length-take, length-drop}
use lib.Seq.{drop-drop, take-add}
use lib.Dec.{ltb}
use borrow.Author.Tests.{ltb-true, ltb-false}
use Rattle.forms.specs.Scan.{over}
use Rattle.forms.specs.Place.{read_at}
use Rattle.forms.specs.Bounds.{bounds}
use Rattle.forms.proofs.Bools.{by_cases}
use Rattle.forms.proofs.Bounds.{left_at, left_append, none_left}
use Rattle.forms.proofs.Complete.{reads, some_byte}
use Rattle.definitions.specs.declared.answers.Refusal.TheVariants as refusal
use Rattle.definitions.specs.Limits.{Limits}
use Rattle.definitions.specs.Lists.{none?}
use Rattle.definitions.specs.Options.{Option, in_name, name_length}
use Rattle.definitions.specs.Reading.{at_dash, at_letter, read_placing, read}
use Rattle.definitions.specs.WrongPlaces.{span, NamedAt, OfForm, BeginsForm, WrongByte, Limited, decimal, hex, count, name, BeyondLimit}
use Rattle.list_laws.proofs.Runs.{run_le}
use Rattle.laws.proofs.Placing.{form_cause, limit_cause}
use Rattle.syntax.proofs.Rows.{form_alone_lem}
use Rattle.syntax.proofs.Names.{one_row}
use Rattle.syntax.proofs.OptionAt.{named_from, form_stands}
use Rattle.syntax.proofs.WrongBytes.{form_fails, wrong_byte}
use Rattle.syntax.proofs.BeyondLimits.{skip_within, limit_breaks, beyond_limit}

-- one option has its dash there
one_option : (s : List ℕ) (dash : ℕ) (o p : Option) → NamedAt s dash o → NamedAt s dash p → o ≡ p
one_option s dash o p n m = one_row n.listed m.listed (take (name_length s (dash + 2)) (drop (dash + 2) s)) n.named m.named

-- ---- 6

-- what begins a text of an option begins it with fewer bytes, too
begins_shorter : (s : List ℕ) (dash p q : ℕ) (o : Option) → dash ≤ p → p < q → BeginsForm o (span s dash q) → BeginsForm o (span s dash (p + 1))
begins_shorter s dash p q o a h b =
    let l = drop dash s in
    let n : q - dash ≡ p + 1 - dash + (q - (p + 1)) = omega (arith, a, h) in
    let e : span s dash q ≡ span s dash (p + 1) ++ take (q - (p + 1)) (drop (p + 1 - dash) l) = rw n (take-add (p + 1 - dash) (q - (p + 1)) l) in
    let more = take (q - (p + 1)) (drop (p + 1 - dash) l) in
    (more ++ b.0, subst (OfForm o) (ap (λ x. x ++ b.0) e ∙ append_assoc (span s dash (p + 1)) more b.0) b.1)

not_before : (s : List ℕ) (dash p q : ℕ) → WrongByte s dash p → WrongByte s dash q → p < q → ⊥
not_before s dash p q w u h =
    let e = one_option s dash u.option w.option u.named w.named in
    let i = u.inside in
    w.no_further (omega (arith, h, i))
    (begins_shorter s dash p q w.option w.after h (subst (λ (o : Option). BeginsForm o (span s dash q)) e u.begins))

one_wrong_byte : (s : List ℕ) (dash p q : ℕ) → WrongByte s dash p → WrongByte s dash q → p ≡ q
one_wrong_byte s dash p q w u =
    by_cases (ltb p q)
    (λ t. absurd (not_before s dash p q w u (ltb-true p q t)))
    (λ t. by_cases (ltb q p)
    (λ k. absurd (not_before s dash q p u w (ltb-true q p k)))
    (λ k. let a = ltb-false p q t in let b = ltb-false q p k in omega (arith, a, b)))

-- THE PLACE OF 6 EXACTLY
pub wrong_byte_exactly : (lim : Limits) (s : List ℕ) (p : ℕ) → ((read lim s).outcome ≡ Err (record { refusal = refusal.Form; place = p }))
    ↔ ((dash : ℕ) × ((read_placing at_dash lim s).outcome ≡ Err (record { refusal = refusal.Form; place = dash })) × WrongByte s dash p)
wrong_byte_exactly lim s p = (
  λ e. wrong_byte lim s p e,
  λ w.
      let c = form_cause s at_dash at_letter lim w.0 w.1 in
      let u = subst (λ d. WrongByte s d c.1) (sym c.3) (form_fails s c.0 c.1 c.2) in
      c.4 ∙ ap (λ q. Err (record { refusal = refusal.Form; place = q })) (one_wrong_byte s w.0 c.1 p u w.2),
)

-- ---- 7

part_full : {x : List ℕ} {n : ℕ} {k : Bool} → Limited x n k → 0 < length x
part_full (decimal limit digits e d) = some_byte digits (λ z. let q : none? {A = ℕ} [] ≡ false = rw z at e in cc)
part_full (count digits e d) = some_byte digits (λ z. let q : none? {A = ℕ} [] ≡ false = rw z at e in cc)
part_full (hex limit x digits l e d) = omega arith
part_full (name bytes) = omega arith

-- what the scanner of the option's form finds left at its first broken limit
left_of : (s : List ℕ) (dash p : ℕ) (b : BeyondLimit s dash p) → (z : List ℕ) × (zs : List (List ℕ))
    × (over b.option.form (drop (dash + 2 + name_length s (dash + 2)) s) ≡ z ∷ zs) × (p ≡ length s - length z)
unfolding named_from
left_of s dash p b =
    let j = name_length s (dash + 2) in
    let at = dash + 2 + j in
    let n : length (take j (drop (dash + 2) s)) ≡ j = simp length-take (omega (arith, run_le in_name (drop (dash + 2) s))) in
    let i = named_from s dash b.option (read_at b.option.form s at) b.named refl in
    let f = b.formed in
    let a = form_alone_lem b.named.listed in
    let t = drop (b.end - dash) (drop dash s) in
    let k = form_stands s dash i b.end f in
    let d : drop at s ≡ f.rest ++ t = rw n at k.1 in
    let l : length f.name ≡ j = ap length k.0 ∙ n in
    let g = (reads b.option.form a.is_LL1 f.rest f.value t f.formed (a.ends_itself t)).1 in
    let first = b.first in
    let z = drop (first.before + first.skip) (drop at s) in
    let e : left_at (drop at s) (bounds b.option.form f.rest f.value f.formed) ≡ z ∷ left_at (drop at s) b.others =
    ap (left_at (drop at s)) b.limits
    ∙ left_append (drop at s) b.kept (first ∷ b.others)
    ∙ ap (λ x. x ++ left_at (drop at s) (first ∷ b.others)) (none_left (drop at s) b.kept b.all_kept_lem)
    ∙ rw b.not_kept in
    let c : length z ≡ length s - (at + (first.before + first.skip)) =
    ap length (drop-drop (first.before + first.skip) at s) ∙ length-drop (at + (first.before + first.skip)) s in
    let h : length (span s b.from (b.from + length first.part)) ≤ length s - b.from = simp (length-take, length-drop) (omega arith) in (
      z,
      left_at (drop at s) b.others,
      ap (over b.option.form) d ∙ g ∙ ap (λ x. left_at x (bounds b.option.form f.rest f.value f.formed)) (sym d) ∙ e,
      omega (arith, b.placed, b.begins, l, c, h, ap length b.stands, part_full b.limited, skip_within b.limited),
    )

one_beyond_limit : (s : List ℕ) (dash p q : ℕ) → BeyondLimit s dash p → BeyondLimit s dash q → p ≡ q
one_beyond_limit s dash p q b c =
    let e = one_option s dash b.option c.option b.named c.named in
    let at = dash + 2 + name_length s (dash + 2) in
    let i = left_of s dash p b in
    let j = left_of s dash q c in
    let z : i.0 ∷ i.1 ≡ j.0 ∷ j.1 = sym i.2 ∙ ap (λ (o : Option). over o.form (drop at s)) e ∙ j.2 in
    let y : i.0 ≡ j.0 = cc in
    i.3 ∙ ap (λ x. length s - length x) y ∙ sym j.3

-- THE PLACE OF 7 EXACTLY
pub beyond_limit_exactly : (lim : Limits) (s : List ℕ) (p : ℕ) → ((read lim s).outcome ≡ Err (record { refusal = refusal.Limit; place = p }))
    ↔ ((dash : ℕ) × ((read_placing at_dash lim s).outcome ≡ Err (record { refusal = refusal.Limit; place = dash })) × BeyondLimit s dash p)
beyond_limit_exactly lim s p = (
  λ e. beyond_limit lim s p e,
  λ b.
      let c = limit_cause s at_dash at_letter lim b.0 b.1 in
      let u = subst (λ d. BeyondLimit s d c.1) (sym c.4) (limit_breaks s c.0 c.1 c.2 c.3) in
      c.5 ∙ ap (λ q. Err (record { refusal = refusal.Limit; place = q })) (one_beyond_limit s b.0 c.1 p u b.2),
)
