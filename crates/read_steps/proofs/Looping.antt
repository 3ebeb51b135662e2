-- One step of the loop over a text, as the definition takes it.
use Rattle.std.specs.Prelude.{Result, Ok, Err}
use mathlib.Core.Path.{◌≡◌, refl, sym, ap, ◌∙◌, subst}
use mathlib.Core.Bool.{true, false}
use mathlib.Core.List.{List, ◌∷◌, ◌++◌}
use Prim.Native.Nat.{ℕ, ◌+◌, ◌-◌, ◌≤◌, ◌<◌}
use native.Mathlib.Omega.{arith}
use lib.ListN.{length, get_or, take, drop, length-take, length-drop, take-append-drop, drop_of_length-le}
use lib.Seq.{drop-drop}
use lib.Dec.{eqb}
use borrow.Author.Tests.{ne_eqb, eqb-true, eqb-false}
use Rattle.forms.proofs.Bools.{by_cases}
use Rattle.definitions.specs.declared.answers.Refusal.TheVariants as refusal
use Rattle.definitions.specs.declared.answers.TextRefusal.{TextRefusal}
use Rattle.definitions.specs.declared.table.Slot.{Slot}
use Rattle.definitions.specs.Options.{option_at}
use Rattle.definitions.specs.Reading.{Located, option_values_of, refused, at_letter, option_step, dashes, options}
use Rattle.syntax.proofs.Loop.{passed_over}
use Rattle.read_frame.proofs.Dashes.{head}
use Rattle.read_state.specs.declared.State.{State}
use Rattle.read_state.specs.Sound.{without_item}
use Rattle.read_state.specs.State.{Holds, last_slot, located_also}
use Rattle.read_steps.specs.declared.Step.{Step}
use Rattle.read_steps.specs.declared.Step.TheVariants.{Next, Done}
use Rattle.read_steps.specs.Stepping.{closing_step, StepsTo, GoesTo, Goes}

-- ---- what the definition's loop does at a byte

module _ (s : List ℕ) (at : ℕ) (h : at < length s) (located : List Located) (st : State) (bytes : List ℕ) where
  pub goes_space : {items : List Slot} → Holds s located st bytes items → st.used ≤ at → get_or s at 0 ≡ 32
      → GoesTo s located at bytes (Ok (Next (at + 1) (without_item st))) bytes items
  unfolding options
  goes_space held after e = (located, rw (head s at h, e), held, tt, omega arith, omega arith, omega arith)

  pub goes_close : (items : List Slot) → get_or s at 0 ≡ 41 → GoesTo s located at bytes (closing_step (at + 1) (length s)) bytes items
  unfolding options
  goes_close items e =
      by_cases (eqb (at + 1) (length s))
      (λ t. let q = eqb-true (at + 1) (length s) t in rw t (rw (head s at h, e, drop_of_length-le s {i = at + 1} (omega arith)), refl))
      (λ t. let n = eqb-false (at + 1) (length s) t in rw t (rw (head s at h, e, head s (at + 1) (omega arith))))

  module _ (space : get_or s at 0 ≡ 32 → ⊥) (close : get_or s at 0 ≡ 41 → ⊥) where
    pub goes_nowhere : (items : List Slot) → dashes (drop at s) ≡ false → GoesTo s located at bytes (Err (record { refusal = refusal.NeitherOptionNorEnd; place = at })) bytes items
    unfolding options
    goes_nowhere items e =
        let d : dashes (get_or s at 0 ∷ drop (at + 1) s) ≡ false = rw (head s at h) at e in
        rw (head s at h, ne_eqb (get_or s at 0) 32 space, ne_eqb (get_or s at 0) 41 close, d)

    to_option : dashes (drop at s) ≡ true
        → options at_letter s (drop at s) 0 at located
        ≡ option_step at_letter (option_at s at) (option_values_of located) at
        (λ e next. options at_letter s (drop (at + 1) s) (next - (at + 1)) (at + 1) (located_also located at e))
    unfolding options
    to_option e =
        let d : dashes (get_or s at 0 ∷ drop (at + 1) s) ≡ true = rw (head s at h) at e in
        rw (head s at h, ne_eqb (get_or s at 0) 32 space, ne_eqb (get_or s at 0) 41 close, d)

    passes : (n : ℕ) (more : List Located) → at + 2 ≤ n → n ≤ length s
        → options at_letter s (drop (at + 1) s) (n - (at + 1)) (at + 1) more ≡ options at_letter s (drop n s) 0 n more
    passes n more a b =
        let k = n - (at + 1) in
        let x = take k (drop (at + 1) s) in
        let l : length x ≡ k = simp (length-take, length-drop) (omega arith) in
        let q : at + 1 + k ≡ n = omega arith in
        let d : drop (at + 1) s ≡ x ++ drop n s =
        sym (take-append-drop k (drop (at + 1) s)) ∙ ap (λ (r : List ℕ). x ++ r) (drop-drop k (at + 1) s ∙ ap (λ (m : ℕ). drop m s) q) in
        let z : at + 1 + length x ≡ n = omega (arith, l) in
        subst (λ (m : ℕ). options at_letter s (drop (at + 1) s) m (at + 1) more ≡ options at_letter s (drop n s) 0 n more) l
        (ap (λ (r : List ℕ). options at_letter s r (length x) (at + 1) more) d
        ∙ passed_over s x (drop n s) (at + 1) more
        ∙ ap (λ (m : ℕ). options at_letter s (drop n s) 0 m more) z)

    pub goes_option : (after : List ℕ) (items : List Slot) → dashes (drop at s) ≡ true → (r : Result Step TextRefusal) → StepsTo s located at r after items
        → GoesTo s located at bytes r after items
    goes_option after items e (Ok (Next n i)) w = (
      located_also located at w.0,
      to_option e ∙ w.1 _ ∙ passes n (located_also located at w.0) w.5 w.6,
      w.2,
      w.3,
      w.4,
      (let a = w.5 in omega arith),
      w.6,
    )
    goes_option after items e (Ok Done) w = absurd w
    goes_option after items e (Err q) w = to_option e ∙ w _

-- what a step promises, at the step that it is
pub goes_told : (s bytes : List ℕ) (st : State) (last : Slot) (at : ℕ) (after : List ℕ) (r : Result Step TextRefusal) → Goes s bytes st last at after r
    → (t : Result Step TextRefusal) → r ≡ t → (located : List Located) (items : List Slot) → Holds s located st bytes items → last ≡ last_slot items st → st.used ≤ at
    → GoesTo s located at bytes t after items
goes_told s bytes st last at after r g t e located items h l u =
    subst (λ (w : Result Step TextRefusal). GoesTo s located at bytes w after items) e (g located items h l u)

-- the text ends where an option or `)` is due
pub loop_out : (s : List ℕ) (at : ℕ) (located : List Located) → length s ≤ at
    → options at_letter s (drop at s) 0 at located ≡ refused refusal.NeitherOptionNorEnd at
unfolding options
loop_out s at located h = rw (drop_of_length-le s {i = at} h)
