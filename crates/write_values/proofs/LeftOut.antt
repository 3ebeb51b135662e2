-- What canonical text leaves out: the prefix /32, and a full mask.
use mathlib.Core.Path.{◌≡◌, sym, ◌∙◌}
use mathlib.Core.List.{[], ◌++◌}
use Prim.Native.Nat.{ℕ}
use borrow.Author.Tests.{eq-eqb, ne_eqb}
use Rattle.forms.specs.Bytes.{text}
use Rattle.definitions.specs.declared.table.Address.{Address}
use Rattle.definitions.specs.declared.table.FieldTest.{FieldTest}
use Rattle.definitions.specs.Limits.{max_prefix}
use Rattle.definitions.specs.Forms.{max_field}
use Rattle.definitions.specs.Canonical.{decimal, octets, address_text}
use Rattle.write_values.specs.Parts.{mask_text}

pub prefix_given : (a : Address) → (a.prefix ≡ max_prefix → ⊥) → address_text a ≡ octets a.number ++ (text "/" ++ decimal a.prefix)
prefix_given a n = rw (ne_eqb a.prefix max_prefix n)

pub mask_full : (f : FieldTest) (m : ℕ) → m ≡ max_field f.field → f.mask ≡ m → mask_text f ≡ []
mask_full f m e d = rw (eq-eqb f.mask (max_field f.field) (d ∙ e))

pub mask_given : (f : FieldTest) (m : ℕ) → m ≡ max_field f.field → (f.mask ≡ m → ⊥) → mask_text f ≡ text "& " ++ (decimal f.mask ++ text " ")
mask_given f m e n = rw (ne_eqb f.mask (max_field f.field) (λ d. n (d ∙ sym e)))
