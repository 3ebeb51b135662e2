-- Addresses: the forms within `src_addr` and `dst_addr`, and what a scanner promises that counts addresses and keeps the first of them.
use Rattle.std.specs.Prelude.{ℕ, ◌≡◌, List, ◌∷◌, length, take}
use Rattle.forms.specs.Form.{Form, pair, many, fmap}
use Rattle.forms.specs.Pieces.{preceded, opt, literal}
use Rattle.definitions.specs.declared.table.Address.{Address}
use Rattle.definitions.specs.Limits.{max_addresses, max_prefix}
use Rattle.definitions.specs.Lists.{padded}
use Rattle.definitions.specs.Numbers.{number}
use Rattle.definitions.specs.Forms.{address}
use Rattle.definitions.specs.Tables.{no_address}
use Rattle.scan_cursors.specs.declared.Cursor.{Cursor}
use Rattle.scan_cursors.specs.Reads.{Reads}

-- as within Forms.address and Forms.addresses
abbrev pub prefixed : Form ℕ
prefixed = opt max_prefix (preceded (literal 47) (number max_prefix))

abbrev pub listed_addresses : Form (List Address)
listed_addresses = fmap (λ (p : Address × List Address). p.0 ∷ p.1) (pair address (many (preceded (literal 44) address)))

-- all are counted, and the first are kept
pub record ListedAddresses (f : Form (List Address)) (s : List ℕ) (c : Cursor) (al list : List Address) (count : ℕ) (d : Cursor) : Type 0 where
  pub read : Reads f s c al d
  pub kept : list ≡ padded max_addresses no_address (take max_addresses al)
  pub counted : count ≡ length al

abbrev pub Lists : Form (List Address) → List ℕ → Cursor → List Address → ℕ → Cursor → Type 0
Lists f s c list count d = (al : List Address) × ListedAddresses f s c al list count d
