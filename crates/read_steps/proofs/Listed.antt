-- The option that a name was looked up as is the one that the definition reads.
use Rattle.std.specs.Prelude.{Option}
use mathlib.Core.Path.{◌≡◌, sym, ap, ◌∙◌}
use mathlib.Core.List.{List}
use Prim.Native.Nat.{ℕ, ◌+◌, ◌-◌, ◌≤◌}
use native.Mathlib.Omega.{arith}
use lib.ListN.{length, take, drop, length-drop}
use Rattle.forms.specs.Bytes.{run}
use Rattle.definitions.specs.Options.{in_name, name_length, option_at}
use Rattle.list_laws.proofs.Runs.{run_le}
use Rattle.read_names.specs.Names.{option_names, option_order, option_named, parsed_as}
use Rattle.read_names.proofs.Rows.{parsed_named}
use Rattle.read_names.specs.declared.options.OptionName.{OptionName}

-- what the definition reads at the dashes, by what its name was looked up as
module _ (s : List ℕ) (at to : ℕ) (l : Option OptionName) (e : to ≡ at + 2 + run in_name (drop (at + 2) s))
    (f : l ≡ option_named option_order option_names (take (to - (at + 2)) (drop (at + 2) s))) where
  named : l ≡ option_named option_order option_names (take (name_length s (at + 2)) (drop (at + 2) s))
  named =
      let counted : to - (at + 2) ≡ name_length s (at + 2) = omega (arith, e) in
      f ∙ ap (λ (m : ℕ). option_named option_order option_names (take m (drop (at + 2) s))) counted

  pub option_at_lem : {m : Option OptionName} → l ≡ m → option_at s at ≡ parsed_as m s to
  unfolding option_at
  option_at_lem g = rw (sym g, named, e) (parsed_named (take (name_length s (at + 2)) (drop (at + 2) s)) s (at + 2 + name_length s (at + 2)))

-- a name ends within the text, and not before it begins
pub name_inside : (s : List ℕ) (at : ℕ) {to : ℕ} → at + 2 ≤ length s → to ≡ at + 2 + run in_name (drop (at + 2) s) → (at + 2 ≤ to) × (to ≤ length s)
name_inside s at h e = (omega (arith, e), omega (arith, e, run_le in_name (drop (at + 2) s), length-drop (at + 2) s))
