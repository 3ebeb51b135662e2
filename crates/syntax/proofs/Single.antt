-- One option: the reader's definition answers with an option exactly if the bytes from the dashes on are a text of that option. The name is the
-- longest run, its row is the one found, and the scanner at the row's form is complete and sound for the rest.
use mathlib.Core.Path.{◌≡◌, refl, sym, ap, subst, ◌∙◌}
use mathlib.Core.Bool.{true}
use mathlib.Core.List.{List, [], ◌∷◌, ◌++◌, append_assoc, Memᴰ as Mem}
use Prim.Native.Nat.{ℕ, ◌+◌, ◌-◌}
use native.Mathlib.Omega.{arith}
use lib.ListN.{length, length-append, take, drop}
use lib.Seq.{take-append_seam}
use Rattle.forms.specs.Bytes.{same_word, run}
use Rattle.forms.specs.Form.{Form, Means}
use Rattle.forms.specs.Scan.{Scan, Got, Stop, scan, over}
use Rattle.forms.specs.Place.{Parsed, placed, read_at}
use Rattle.forms.proofs.Sound.{never, sound}
use Rattle.forms.proofs.Complete.{complete, no_empty, some_byte}
use Rattle.definitions.specs.OptionValues.{OptionValue}
use Rattle.definitions.specs.Options.{Option, option_table, in_name, listed, option_at}
use Rattle.definitions.specs.Grammar.{OptionText, option}
use Rattle.syntax.proofs.Frame.{after, place_after_lem, parted}
use Rattle.syntax.proofs.Rows.{Alone, form_alone_lem}
use Rattle.syntax.proofs.Names.{no_name_front, name_run, named_parsed, row_of}

-- ---- a form at a place

-- what is of the form and stands at a place is read, whatever is after it
pub form_read : {f : Form OptionValue} → Alone f → (s : List ℕ) (at : ℕ) (y r : List ℕ) (e : OptionValue) → Means true f y e → drop at s ≡ y ++ r
    → read_at f s at ≡ Parsed e (at + length y)
unfolding read_at
form_read {f} a s at y r e w d =
    let c = complete true f a.is_LL1 y e r w (a.ends_itself r) in
    let h = some_byte y (λ t. no_empty true f a.is_full e (subst (λ u. Means true f u e) t w)) in
    rw (d, c.0, c.1 refl) (ap (λ i. Parsed e i) (place_after_lem s at y r d h))

got_split : (s : List ℕ) (o : List (List ℕ)) (k : Scan OptionValue) (e : OptionValue) (n : ℕ) → placed s o k ≡ Parsed e n
    → (r : List ℕ) × (k ≡ Got e r) × (o ≡ []) × (n ≡ length s - length r)
got_split s [] (Got a r) e n q = let z : a ≡ e = cc in let y : length s - length r ≡ n = cc in (r, rw z, refl, sym y)
got_split s (x ∷ o) (Got a r) e n q = never (cc)
got_split s o (Stop r) e n q = never (cc)

-- what is read at a place is of the form
pub read_form : (f : Form OptionValue) (s : List ℕ) (at : ℕ) (e : OptionValue) (n : ℕ) → read_at f s at ≡ Parsed e n
    → (y : List ℕ) × (r : List ℕ) × (drop at s ≡ y ++ r) × Means true f y e × (n ≡ length s - length r)
unfolding read_at
read_form f s at e n q =
    let c = got_split s (over f (drop at s)) (scan f (drop at s)) e n q in
    let y = sound true f (drop at s) e c.0 c.1 (λ u. c.2) in
    (y.0, c.0, y.1, y.2, c.3)

-- ---- complete

-- an option's text begins with two dashes
pub option_dashes : {x : List ℕ} {e : OptionValue} → OptionText x e → (l : List ℕ) × (x ≡ 45 ∷ 45 ∷ l)
option_dashes (option o n y m q w) = (n ++ y, refl)

pub option_read : {x : List ℕ} {e : OptionValue} → OptionText x e → (s : List ℕ) (at : ℕ) (r : List ℕ) → drop at s ≡ x ++ r
    → option_at s at ≡ listed (Parsed e (at + length x))
unfolding option_at
option_read (option o n y {e} m q w) s at r d =
    let d2 : drop (at + 2) s ≡ n ++ (y ++ r) = after s at (45 ∷ 45 ∷ []) (n ++ (y ++ r)) (d ∙ ap (λ l. 45 ∷ 45 ∷ l) (append_assoc n y r)) in
    let d3 : drop (at + 2 + length n) s ≡ y ++ r = after s (at + 2) n (y ++ r) d2 in
    let z : run in_name (n ++ (y ++ r)) ≡ length n = name_run m n q (y ++ r) (no_name_front m y r e w) in
    let g : at + 2 + length n + length y ≡ at + length (45 ∷ 45 ∷ (n ++ y)) = omega (arith, length-append n y) in
    rw (d2, z, take-append_seam n (y ++ r), named_parsed m n q s (at + 2 + length n), form_read (form_alone_lem m) s (at + 2 + length n) y r e w d3, g)

-- ---- sound

-- e's option stands at the place, up to next
abbrev pub Stands : List ℕ → ℕ → OptionValue → ℕ → Type 1
Stands s at e next = (x : List ℕ) × OptionText x e × (drop at s ≡ x ++ drop next s) × (next ≡ at + length x)

module _ (s : List ℕ) (at : ℕ) where
  found : (next : ℕ) (e : OptionValue) (l w y r : List ℕ) (o : Option) → Mem o option_table → same_word w o.name ≡ true → Means true o.form y e
      → drop at s ≡ 45 ∷ 45 ∷ l → l ≡ w ++ (y ++ r) → next ≡ length s - length r → Stands s at e next
  found next e l w y r o m q k d g z =
      let x : List ℕ = 45 ∷ 45 ∷ (w ++ y) in
      let d1 : drop at s ≡ x ++ r = d ∙ ap (λ u. 45 ∷ 45 ∷ u) (g ∙ sym (append_assoc w y r)) in
      let j : next ≡ at + length x = z ∙ place_after_lem s at x r d1 (omega arith) in
      let d2 : drop next s ≡ r = rw j (after s at x r d1) in
      (x, option o w y m q k, rw d2 d1, j)

  pub read_option : (next : ℕ) (e : OptionValue) (l : List ℕ) → drop at s ≡ 45 ∷ 45 ∷ l → option_at s at ≡ listed (Parsed e next) → Stands s at e next
  unfolding option_at
  read_option next e l d p =
      let d2 : drop (at + 2) s ≡ l = after s at (45 ∷ 45 ∷ []) l d in
      let j = run in_name (drop (at + 2) s) in
      let w = take j (drop (at + 2) s) in
      let k = row_of option_table w s (at + 2 + j) (Parsed e next) p in
      let c = read_form k.0.form s (at + 2 + j) e next k.3 in
      found next e l w c.0 c.1 k.0 k.1 k.2 c.3 d (sym d2 ∙ parted s (at + 2) j (c.0 ++ c.1) c.2) c.4
