-- The text of a whole table: its options, one after the other.
use mathlib.Core.Path.{◌≡◌, ap, ◌∙◌}
use mathlib.Core.List.{List, ◌++◌, append_assoc}
use Prim.Native.Nat.{ℕ}
use lib.ListN.{take}
use Rattle.forms.specs.Bytes.{text}
use Rattle.definitions.specs.declared.table.Table.{Table}
use Rattle.definitions.specs.OptionValues.{Name, Protocol}
use Rattle.definitions.specs.Items.{slots_of}
use Rattle.definitions.specs.Canonical.{flow_option, slot_options, canonical_options, option_text, options_text, canonical_text}
use Rattle.write_patterns.proofs.OptionTexts.{options_append}

module _ (t : Table) where
  abbrev name : List ℕ
  name = option_text (Name (take t.len t.name))

  abbrev protocol : List ℕ
  protocol = option_text (Protocol t.protocol)

  abbrev flow : List ℕ
  flow = options_text (flow_option t.flow)

  abbrev items : List ℕ
  items = options_text (slot_options (slots_of t) t.bytes)

  abbrev rest : List ℕ
  rest = options_text (flow_option t.flow ++ slot_options (slots_of t) t.bytes)

  pub canonical_parts : canonical_text t ≡ text "F-SBID(" ++ (name ++ (protocol ++ (flow ++ (items ++ text " )"))))
  unfolding canonical_text canonical_options options_text
  canonical_parts =
      ap (λ (x : List ℕ). text "F-SBID(" ++ x)
      (append_assoc name (protocol ++ rest) (text " )")
      ∙ ap (λ (x : List ℕ). name ++ x)
      (append_assoc protocol rest (text " )")
      ∙ ap (λ (x : List ℕ). protocol ++ x)
      (ap (λ (x : List ℕ). x ++ text " )") (options_append (flow_option t.flow) (slot_options (slots_of t) t.bytes))
      ∙ append_assoc flow items (text " )"))))
