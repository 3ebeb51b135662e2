-- The starts of an earlier placement, one after the other.
use Rattle.std.specs.Prelude.{Option, Some, None}
use mathlib.Core.Path.{◌≡◌, refl, sym, ap, ◌∙◌}
use mathlib.Core.Bool.{false, and-false}
use mathlib.Core.List.{List, [], ◌∷◌, ◌++◌, map, append-nil}
use Prim.Native.Nat.{ℕ, ◌+◌, ◌≤◌, ◌<◌}
use native.Mathlib.Omega.{arith}
use lib.ListN.{length, set, length-append}
use lib.Seq.{append_snoc}
use borrow.Author.Tests.{le-leb, lt-leb}
use Rattle.definitions.specs.declared.packets.Placement.{Placement}
use Rattle.definitions.specs.declared.packets.Start.{Start}
use Rattle.definitions.specs.Limits.{max_patterns}
use Rattle.definitions.specs.Lists.{all?, none?, padded}
use Rattle.definitions.specs.Starts.{start_at}
use Rattle.list_laws.proofs.Padded.{padded_one}
use Rattle.definitions.specs.Parts.{parts}
use Rattle.definitions.specs.Numbers.{is_number}
use Rattle.line_numbers.specs.Decimals.{parsed_number}
use Rattle.line_numbers.proofs.Results.{failed_number, parsed_number_lem, number_value}
use Rattle.case_columns.specs.Queries.{max_start, are_starts, start_of, starts_in, parsed_starts}

some_bytes : (s : List ℕ) → (length s ≡ 0 → ⊥) → none? s ≡ false
some_bytes [] n = absurd (n refl)
some_bytes (b ∷ s) n = refl

not_starts : (s : List ℕ) → are_starts s ≡ false → None ≡ parsed_starts s
unfolding parsed_starts
not_starts s f = rw f

pub no_starts : (s : List ℕ) → length s ≡ 0 → Some (record { count = 0; starts = padded max_patterns (start_at 0) [] }) ≡ parsed_starts s
unfolding parsed_starts are_starts starts_in
no_starts [] h = refl
no_starts (b ∷ s) h = absurd (omega (arith, h))

-- the parts es are still to come, after the starts that are held
pub record Starting (s : List ℕ) (held starts : List Start) (count : ℕ) (es : List (List ℕ)) : Type 0 where
  pub some : none? s ≡ false
  pub size : count ≡ length held
  pub room : count ≤ max_patterns
  pub array : starts ≡ padded max_patterns (start_at 0) held
  pub is : all? (is_number max_start) (parts 44 s) ≡ all? (is_number max_start) es
  pub left : length (parts 44 s) ≡ count + length es
  pub says : map start_of (parts 44 s) ≡ held ++ map start_of es

pub starting : (s : List ℕ) → (length s ≡ 0 → ⊥) → (es : List (List ℕ)) → es ≡ parts 44 s → Starting s [] (padded max_patterns (start_at 0) []) 0 es
starting s n es e =
    record {
      some = some_bytes s n;
      size = refl;
      room = omega arith;
      array = refl;
      is = ap (all? (is_number max_start)) (sym e);
      left = omega (arith, ap length e);
      says = ap (map start_of) (sym e);
    }

module _ (s : List ℕ) (held starts : List Start) (count : ℕ) (es : List (List ℕ)) (k : Starting s held starts count es) where
  -- e is the next part, a what the code made of it
  module _ (e : List ℕ) (rest : List (List ℕ)) (step : es ≡ e ∷ rest) (a : Option ℕ) (p : a ≡ parsed_number max_start e) where
    pub starting_halt : a ≡ None → None ≡ parsed_starts s
    unfolding are_starts all?
    starting_halt f = not_starts s (rw (k.some, k.is ∙ ap (all? (is_number max_start)) step, failed_number max_start e (sym p ∙ f)))

    pub starting_full : max_patterns ≤ count → None ≡ parsed_starts s
    unfolding are_starts
    starting_full g =
        let long : max_patterns < length (parts 44 s) = omega (arith, g, k.left, ap length step) in
        not_starts s (rw (k.some, lt-leb (length (parts 44 s)) max_patterns long) (and-false (all? (is_number max_start) (parts 44 s))))

    pub starting_on : (n : ℕ) → a ≡ Some n → count < max_patterns → (v : Start) → v ≡ start_at n
        → Starting s (held ++ (v ∷ [])) (set starts count v) (count + 1) rest
    unfolding all?
    starting_on n t g v ve =
        let one : length (held ++ (v ∷ [])) ≡ length held + 1 = length-append held (v ∷ []) in
        let value : start_of e ≡ v = ap start_at (sym (number_value max_start e n (sym p ∙ t))) ∙ sym ve in
        record {
          some = k.some;
          size = omega (arith, one, k.size);
          room = omega (arith, g);
          array =
              ap (λ (l : List Start). set l count v) k.array
              ∙ ap (λ (j : ℕ). set (padded max_patterns (start_at 0) held) j v) k.size
              ∙ sym (padded_one max_patterns (start_at 0) held v (omega (arith, g, k.size)));
          is = k.is ∙ ap (all? (is_number max_start)) step ∙ rw (parsed_number_lem max_start e n (sym p ∙ t));
          left = omega (arith, k.left, ap length step);
          says =
              k.says
              ∙ ap (λ (l : List (List ℕ)). held ++ map start_of l) step
              ∙ ap (λ (w : Start). held ++ (w ∷ map start_of rest)) value
              ∙ sym (append_snoc held v (map start_of rest));
        }

  pub starting_out : es ≡ [] → ◌≡◌ {A = Option Placement} (Some (record { count = count; starts = starts })) (parsed_starts s)
  unfolding parsed_starts are_starts starts_in all?
  starting_out none =
      let long : length (parts 44 s) ≤ max_patterns = omega (arith, k.left, ap length none, k.room) in
      let value : map start_of (parts 44 s) ≡ held =
      k.says ∙ ap (λ (l : List (List ℕ)). held ++ map start_of l) none ∙ append-nil held in
      rw (k.some, k.is ∙ ap (all? (is_number max_start)) none, le-leb (length (parts 44 s)) max_patterns long, value, k.array, k.size)
