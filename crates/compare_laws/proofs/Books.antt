-- BY THE BOOKS' JUDGEMENTS: the first's refusal alone is written, whatever the second is; else the second's; else what changed.
use Rattle.std.specs.Prelude.{Ok, Err}
use mathlib.Core.Path.{◌≡◌}
use mathlib.Core.List.{List}
use Prim.Native.Nat.{ℕ}
use Rattle.forms.specs.Bytes.{text}
use Rattle.definitions.specs.declared.answers.Refusal.{Refusal}
use Rattle.definitions.specs.Limits.{Limits}
use Rattle.definitions.specs.Books.{judge}
use Rattle.compare_laws.specs.Comparisons.{read_rules, rules_output, refused_output, compare_output}

module _ (lim : Limits) (first second : List ℕ) where
  pub first_refused : (r : Refusal) (line : ℕ) → judge lim first ≡ Err (record { refusal = r; line = line })
      → compare_output lim first second ≡ refused_output (text "first\t") r line
  unfolding compare_output
  first_refused r line e = rw e

  module _ (n : ℕ) (e : judge lim first ≡ Ok n) where
    pub second_refused : (r : Refusal) (line : ℕ) → judge lim second ≡ Err (record { refusal = r; line = line })
        → compare_output lim first second ≡ refused_output (text "second\t") r line
    unfolding compare_output
    second_refused r line f = rw (e, f)

    pub both_accepted : (m : ℕ) → judge lim second ≡ Ok m → compare_output lim first second ≡ rules_output (read_rules lim first) (read_rules lim second)
    unfolding compare_output
    both_accepted m f = rw (e, f)
