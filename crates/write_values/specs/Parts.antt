-- A part of a test's text, as the code goes about it. Section "House text".
use Rattle.std.specs.Prelude.{ℕ, not, List, ◌++◌, eqb}
use Rattle.forms.specs.Bytes.{text}
use Rattle.definitions.specs.declared.table.FieldTest.{FieldTest}
use Rattle.definitions.specs.Forms.{max_field}
use Rattle.definitions.specs.Canonical.{decimal, text_if}

-- the mask of a field test; a full one is left out
abbrev pub mask_text : FieldTest → List ℕ
mask_text f = text_if (not (eqb f.mask (max_field f.field))) (text "& " ++ (decimal f.mask ++ text " "))
